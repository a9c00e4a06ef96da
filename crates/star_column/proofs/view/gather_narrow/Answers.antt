use Rattle.std.{proofs.Common.{get_or, map, rules, sym}, proofs.lemmas.Option.get_or_from_slice_get, specs.Prelude.slice_index_or}
use Rattle.star_column.proofs.Views.{one_gathered}
use Rattle.star_column.proofs.view.gather_narrow.Goals as goal

pub loop-at-preserved : goal.loop-at-preserved
loop-at-preserved g c =
    let numbers = map g.W.Word.number c.args.words.now in
    record {
      long = search rules;
      written =
          one_gathered (λ index. slice_index_or numbers index 0) c.args.indexes.now
          c.loop-at.into c.loop-at.at c.narrow_at.result c.loop-at-test.true
          c.loop-at.invariant.long c.loop-at.invariant.written
          (sym (get_or_from_slice_get numbers (get_or c.args.indexes.now c.loop-at.at 0)
          c.narrow_at.result 0 c.narrow_at.ensures));
    }
