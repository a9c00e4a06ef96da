use Rattle.std.{proofs.Common.{◌+◌, ◌∙◌, ◌-ℤ◌, ap, arith}, specs.Int.RustNames.unsigned_abs, proofs.lemmas.List.{drop-set-lt, length-set}}
use Rattle.star_column.proofs.Differences.{later_one, subtracted}
use Rattle.star_column.proofs.words.subtract.Goals as goal

pub above-requires : goal.above-requires
above-requires g c =
    let on = later_one c.loop-word.words c.args.words.now c.loop-word.word-index c.word-item.result
    c.loop-word-test.true c.loop-word.invariant.long c.loop-word.invariant.later in
    rw on.0 (c.requires c.loop-word.word-index c.word-item.result c.loop-word-test.true)

pub loop-word-preserved : goal.loop-word-preserved
loop-word-preserved g c =
    let words = c.loop-word.words in
    let old = c.args.words.now in
    let i = c.loop-word.word-index in
    let d = c.word-item.result in
    let number = g.S.SignedWord.number in
    let on = later_one words old i d c.loop-word-test.true c.loop-word.invariant.long
    c.loop-word.invariant.later in
    record {
      done = subtracted number g.S.OffsetWord.distance (number c.args.least) words old i d
          c.above.result c.loop-word-test.true c.loop-word.invariant.long c.loop-word.invariant.done
          (c.requires i d c.loop-word-test.true)
          (c.above.ensures ∙ ap (λ w. unsigned_abs (number w -ℤ number c.args.least)) on.0);
      later = drop-set-lt (i + 1) words i c.above.result (omega arith) ∙ on.1;
      long = length-set words i c.above.result ∙ c.loop-word.invariant.long;
    }
