-- The theory of the format over type trees.
--   To believe, in this order: Refusals, Basics, Types, Bytes, Compact, Bits, Parser, Form (writing and reading once for bytes and cells), Wire (bytes), Cells,
--     Totals (footprint, longest length, nesting, charge), Trace and Scan (the limited reader), Table (nodes, the type that a table denotes, its checks), Jobs.
--   The contracts of the layers speak of parts of these: `Scan.Pass` and `Scan.Units` (what one item, a head or units pass and leave), `Put` (the bytes that cells say).
--   The laws stand in proofs/Laws, in modules of the same names; what a module of laws alone defines for its statements stands here, in modules named after what they say.
--   docs/PROMISES.md lists the laws.
pub mod Refusals
pub mod Basics
pub mod Types
pub mod Bytes
pub mod Compact
pub mod Bits
pub mod Parser
pub mod Form
pub mod Wire
pub mod Cells
pub mod Totals
pub mod Trace
pub mod Scan
pub mod Table
pub mod RoundTrip
pub mod Jobs
pub mod Put
pub mod Demands
pub mod Bench
