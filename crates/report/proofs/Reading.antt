-- From the reading into 4096 cells to the report: r is its answer, and m the cells afterwards.
use Rattle.std.proofs.Common.{List, ◌++◌, ◌≡◌, ℕ, ◌≤◌, length, take, drop, replicate, ap, sym, ◌∙◌, subst, take_at, Ok, Err}
use Rattle.std.proofs.Math.ListN.{length-replicate}
use Rattle.rules.specs.Refusals.{number_of}
use Rattle.rules.specs.Basics.{flat, onto}
use Rattle.rules.specs.Jobs.{read_whole, cut_to, cells_after}
use Rattle.rules.specs.Scan.{scanned}
use Rattle.rules.specs.Table.{root}
use Rattle.rules.specs.declared.Limits.{Limits}
use Rattle.rules.specs.declared.Refusal.{Refusal}
use Rattle.rules.specs.Scan.{Scan}
use Rattle.rules.specs.declared.Totals.{Totals}
use Rattle.report.specs.Text.{ok_line, refused_line, cell_line, program_limits, report_of}
use Rattle.report.specs.Contract.{Contract}
use Rattle.report.proofs.Answers.{report_refused, report_done, cells_counted}

-- the cells before
abbrev blank : List ℕ
blank = replicate 4096 0

-- what the contract of the reading says
abbrev pub Filled : List ℕ → List ℕ → List ℕ → Scan → Type 0
Filled tb s m r = (r ≡ read_whole tb s (cut_to (length blank) program_limits)) × (m ≡ cells_after (scanned (root tb) (cut_to (length blank) program_limits) s) r blank)

same_contract : {a b l m : List ℕ} {r : ℕ} → a ≡ b → Contract a l r m → Contract b l r m
same_contract {l = l} {m = m} {r = r} e p = subst (λ x. Contract x l r m) e p

-- C is cut to the lent cells, which are as many
uncut : cut_to (length blank) program_limits ≡ program_limits
uncut = ap (λ (k : ℕ). cut_to k program_limits) (length-replicate {A = ℕ} 4096 0)

module _ (tb s m : List ℕ) (r : Scan) (f : Filled tb s m r) where
  answered : (a : Scan) → r ≡ a → read_whole tb s program_limits ≡ a
  answered a e = ap (read_whole tb s) (sym uncut) ∙ sym f.0 ∙ e

  pub refused_put : (y : Refusal) (out text : List ℕ) (k : ℕ) → r ≡ Err y → Contract (refused_line (number_of y.reason) y.place) out k text → Contract (report_of tb s) out k text
  refused_put y out text k e p = same_contract (sym (report_refused tb s y (answered (Err y) e))) p

  -- the counted cells are there
  pub few_cells : (u : Totals) (n : ℕ) → r ≡ Ok (u, n) → u.cells ≤ 4096
  few_cells u n e = (cells_counted tb s u n (answered (Ok (u, n)) e)).1

  -- and are those that were passed
  cells_passed : (u : Totals) (n : ℕ) → r ≡ Ok (u, n) → take u.cells m ≡ scanned (root tb) program_limits s
  cells_passed u n e =
      let passed : List ℕ = scanned (root tb) program_limits s in
      let w : m ≡ onto passed blank =
      f.1 ∙ ap (λ (a : Scan). cells_after (scanned (root tb) (cut_to (length blank) program_limits) s) a blank) e
      ∙ ap (λ (x : Limits). onto (scanned (root tb) x s) blank) uncut in
      ap (take u.cells) w ∙ take_at passed (drop (length passed) blank) u.cells (sym (cells_counted tb s u n (answered (Ok (u, n)) e)).0)

  pub done_put : (u : Totals) (n : ℕ) (out text : List ℕ) (k : ℕ) → r ≡ Ok (u, n) → Contract (ok_line u n ++ flat cell_line (take u.cells m)) out k text → Contract (report_of tb s) out k text
  done_put u n out text k e p =
      same_contract (ap (λ (l : List ℕ). ok_line u n ++ flat cell_line l) (cells_passed u n e) ∙ sym (report_done tb s u n (answered (Ok (u, n)) e))) p
