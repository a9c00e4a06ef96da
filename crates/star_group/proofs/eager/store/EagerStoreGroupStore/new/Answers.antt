use Rattle.star_group.proofs.{Common.sym, Common.◌∙◌, Bases.no_rows, Merging.held_none, Totals.nothing_none}
use Rattle.star_group.proofs.eager.store.EagerStoreGroupStore.new.Goals as goal

pub returns-clause-empty : goal.returns-clause-empty
returns-clause-empty c = record {
  grouped = no_rows _ _ c.in_ok-rows.ensures.empty;
  total = λ index h. nothing_none _ c.new-2.ensures index ∙ sym (held_none _);
}
