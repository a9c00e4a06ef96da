use Rattle.star_group.proofs.{Common.{◌≡◌, drop, Rollup, is_grouping, key_view}, BaseKeyLemmas.goes_on}
use Rattle.star_group.proofs.keyed.key.are_shown_first.Given as goal

abbrev pub invariant-loop-part : goal.invariant-loop-part
invariant-loop-part l = goes_on l.hides (key_view (drop l.part-index l.parts))
    ≡ is_grouping Rollup (key_view l.parts)
