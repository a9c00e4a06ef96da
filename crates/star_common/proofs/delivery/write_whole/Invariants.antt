use Rattle.std.proofs.Common.{◌≡◌, ◌-◌, length}
use Rattle.star_common.proofs.Sends.{HasSent}
use Rattle.star_common.proofs.delivery.write_whole.Given as goal

abbrev pub invariant-loop-sent : goal.invariant-loop-sent
invariant-loop-sent g l = record {
  sent : HasSent (g.S.Sink.contents l.fn.sink) (g.S.Sink.contents l.sink)
      (g.S.Sink.is_failed l.sink) l.text l.sent;
  untouched : l.sent ≡ 0 → l.sink ≡ l.fn.sink;
}

abbrev pub decreases-loop-sent : goal.decreases-loop-sent
decreases-loop-sent g l = length l.text - l.sent
