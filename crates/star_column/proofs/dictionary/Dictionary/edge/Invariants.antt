use Rattle.std.proofs.Common.{◌-◌}
use Rattle.star_schema.specs.Dictionary.{text_cmp}
use Rattle.star_column.{specs.Private.Edge.is_after, proofs.Fronts.Found}
use Rattle.star_column.proofs.dictionary.Dictionary.edge.Given as goal

abbrev pub invariant-loop-low : goal.invariant-loop-low
invariant-loop-low l = Found (λ other. is_after l.edge (text_cmp other l.text)) l.self l.low l.high

abbrev pub decreases-loop-low : goal.decreases-loop-low
decreases-loop-low l = l.high - l.low
