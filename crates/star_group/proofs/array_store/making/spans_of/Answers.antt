use Rattle.star_group.proofs.{Common.{◌+◌, ◌*◌, ◌^◌, ◌∷◌, [], ◌∙◌, ap, arith, length, length-append, sym, le-div, id_count}, SpanIds.{ids_more, room_left}}
use Rattle.star_group.proofs.array_store.making.spans_of.Goals as goal

pub loop-index-preserved : goal.loop-index-preserved
loop-index-preserved c =
    let span = c.span_of-span.result in
    let size = span.last + 1 in
    let left = c.loop-index.left in
    let pushed = c.in_ok-push.ensures.items in
    record {
      count = ap (λ n. n * size) c.loop-index.invariant.count
          ∙ sym (ids_more c.loop-index.spans.items span) ∙ sym (ap id_count pushed);
      room = room_left c.loop-index.count size left (2 ^ 28) c.loop-index.invariant.room;
      some = le-div 1 left size (omega arith) (omega (arith, c.span_of-span.ensures.last));
      keys = ap length pushed ∙ length-append c.loop-index.spans.items (span ∷ [])
          ∙ ap (λ n. n + 1) c.loop-index.invariant.keys;
    }
