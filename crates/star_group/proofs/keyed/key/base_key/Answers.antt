use Rattle.star_group.proofs.{Common.{add-one, sym, ap, ◌∙◌, Some, get_or, pos, slice_set, map-set, Number, key_view, key_value_view}, BaseKeyLemmas.{padded-set, all_padded}}
use Rattle.star_group.proofs.keyed.key.base_key.Goals as goal

pub loop-index-init : goal.loop-index-init
loop-index-init c = sym all_padded

pub loop-index-preserved : goal.loop-index-preserved
loop-index-preserved c =
    let index = c.loop-index.index in
    let keys = c.args.keys.now in
    rw add-one (map-set key_value_view c.loop-index.parts index c.part_of.result
    ∙ ap (slice_set (key_view c.loop-index.parts) index) c.part_of.ensures
    ∙ ap (λ s. slice_set s index (Some (get_or keys index (Number (pos 0)))))
    c.loop-index.invariant ∙ padded-set 6 keys index (Number (pos 0)) c.loop-index-test.true
    c.requires)
