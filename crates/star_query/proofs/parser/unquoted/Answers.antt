use Rattle.std.proofs.Common.{◌∙◌, refl, ap}
use Rattle.star_query.proofs.{Tokens.unquoted_doubled, Tokens.unquoted_next, parser.unquoted.Goals.then-doubled, parser.unquoted.Goals.else-doubled+in_ok-push}
use Rattle.star_query.proofs.parser.unquoted.Goals as goal

pub loop-byte-preserved : goal.loop-byte-preserved
loop-byte-preserved c =
    elim c.if-doubled.branch [
      | then-doubled w ↦ unquoted_doubled c.args.inside.now c.loop-byte.text.items
          c.if-doubled.text.items c.loop-byte.byte-index c.loop-byte.doubled c.if-doubled.doubled
          c.loop-byte-test.true w.if-doubled.true (ap (λ v. v.items) w.text-is) w.doubled-is
          c.loop-byte.invariant
      | else-doubled+in_ok-push w ↦ unquoted_next c.args.inside.now c.loop-byte.text.items
          c.if-doubled.text.items c.loop-byte.byte-index _ c.loop-byte.doubled c.if-doubled.doubled
          c.loop-byte-test.true w.if-doubled.false
          (ap (λ v. v.items) w.text-is ∙ w.in_ok-push.ensures.items) refl w.doubled-is
          c.loop-byte.invariant
    ]
