use Rattle.std.{proofs.Common.{◌∙◌, FitsSigned, ap, arith, get_or, map, pos, rules, sym, to_z-of_z, w64}, specs.Prelude.slice_index_or, proofs.lemmas.Option.{get_or_from_slice_get, slice_get_within}}
use Rattle.star_column.{specs.Private.Words.numbers_above, proofs.Views.one_gathered}
use Rattle.star_column.proofs.view.gather_through.Goals as goal

pub number_at-requires-clause-index : goal.number_at-requires-clause-index
number_at-requires-clause-index g c =
    let keys = map g.K.Word.number c.args.keys.now in
    let index = get_or c.args.indexes.now c.loop-at.at 0 in
    let row = get_or_from_slice_get keys index c.narrow_at.result 0 c.narrow_at.ensures in
    let within = c.requires.keys index 0
    (slice_get_within keys index c.narrow_at.result c.narrow_at.ensures) in
    omega (arith, within, row)

pub loop-at-preserved : goal.loop-at-preserved
loop-at-preserved g c =
    let keys = map g.K.Word.number c.args.keys.now in
    let numbers = numbers_above c.args.bounds.low (map g.W.Word.number c.args.words.now) in
    let index = get_or c.args.indexes.now c.loop-at.at 0 in
    let row = get_or_from_slice_get keys index c.narrow_at.result 0 c.narrow_at.ensures in
    let fits : FitsSigned w64 c.number_at.result = search rules in
    record {
      long = search rules;
      written = rw to_z-of_z
          (one_gathered
          (λ at. slice_index_or numbers (slice_index_or keys at 0) (pos 0)) c.args.indexes.now
          c.loop-at.into c.loop-at.at c.number_at.result c.loop-at-test.true
          c.loop-at.invariant.long c.loop-at.invariant.written
          (sym (ap (λ r. slice_index_or numbers r (pos 0)) row
          ∙ get_or_from_slice_get numbers c.narrow_at.result c.number_at.result (pos 0)
          c.number_at.ensures)));
    }
