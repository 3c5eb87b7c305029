-- From the rule's numbers to the code's answers and back: a 128-bit value is two 64-bit halves.
use Rattle.std.specs.Prelude.{ℕ, Result, Ok, Err}
use Rattle.rules.specs.Bytes.{whole, halves}
use Rattle.rules.specs.Refusals.{number_of}
use Rattle.rules.specs.Compact.{Answer, value, short, prefix, range}
use Rattle.rules.specs.declared.Halves.{Halves}
use Rattle.compact.specs.Faults.{reason_of}
use Rattle.compact.specs.declared.Fault.{Fault}
use Rattle.compact.specs.declared.Fault.TheVariants.{Short, Prefix, Range}

-- what reading answers: a value with the bytes that it took, or its fault
abbrev pub Reading : Type 0
Reading = Result (Halves × ℕ) Fault

-- an answer of the rule as the code gives it
abbrev pub in_halves : Answer → Reading
in_halves (value v n) = Ok (halves v, n)
in_halves short = Err Short
in_halves prefix = Err Prefix
in_halves range = Err Range

-- the answer of the rule that the code's says
abbrev pub said : Reading → Answer
said (Ok (v, n)) = value (whole v.low v.high) n
said (Err Short) = short
said (Err Prefix) = prefix
said (Err Range) = range

-- an answer by its fields: its number, and 0 in each other field of a refusal
-- (the place is where the bytes start)
pub record Fields : Type 0 where
  pub number : ℕ
  pub place : ℕ
  pub low : ℕ
  pub high : ℕ
  pub used : ℕ

abbrev pub refused : ℕ → Fields
refused n = record { number = n; place = 0; low = 0; high = 0; used = 0 }

abbrev pub fields : Reading → Fields
fields (Ok (v, used)) = record { number = 0; place = 0; low = v.low; high = v.high; used = used }
fields (Err f) = refused (number_of (reason_of f))
