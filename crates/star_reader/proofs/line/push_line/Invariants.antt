-- How far the line has been read, and what is left of it.
use Rattle.std.proofs.Common.{◌≡◌, ◌≤◌, ℕ, drop, length, map}
use Rattle.star_reader.specs.{Columns.raw_kind, Private.Steps.HasPushedTo}
use Rattle.star_reader.proofs.line.push_line.Given as goal

abbrev pub invariant-loop-index : goal.invariant-loop-index
invariant-loop-index l =
    (at : ℕ) × (at ≤ length l.line) × (l.rest ≡ drop at l.line)
    × HasPushedTo l.line (map raw_kind l.fn.columns) l.index at l.fn.columns l.columns
