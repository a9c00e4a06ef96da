use Rattle.std.{proofs.Common.{FitsSigned, get_or, map, pos, rules, sym, to_z-of_z, w64}, specs.Prelude.slice_index_or, proofs.lemmas.Option.get_or_from_slice_get}
use Rattle.star_column.{specs.Private.Words.numbers_above, proofs.Views.one_gathered}
use Rattle.star_column.proofs.view.gather.Goals as goal

pub loop-at-preserved : goal.loop-at-preserved
loop-at-preserved g c =
    let numbers = numbers_above c.args.bounds.low (map g.W.Word.number c.args.words.now) in
    let fits : FitsSigned w64 c.number_at.result = search rules in
    record {
      long = search rules;
      written = rw to_z-of_z
          (one_gathered (λ index. slice_index_or numbers index (pos 0)) c.args.indexes.now
          c.loop-at.into c.loop-at.at c.number_at.result c.loop-at-test.true
          c.loop-at.invariant.long c.loop-at.invariant.written
          (sym (get_or_from_slice_get numbers (get_or c.args.indexes.now c.loop-at.at 0)
          c.number_at.result (pos 0) c.number_at.ensures)));
    }
