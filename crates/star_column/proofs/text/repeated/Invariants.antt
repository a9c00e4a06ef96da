use Rattle.std.proofs.Common.{◌≡◌, map, take}
use Rattle.star_column.proofs.text.repeated.Given as goal

abbrev pub invariant-loop-text : goal.invariant-loop-text
invariant-loop-text l = l.repeated ≡ map (λ text. text.items) (take l.text-index l.texts)
