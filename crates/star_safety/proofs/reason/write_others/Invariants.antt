-- What the columns so far print as.
use Rattle.std.proofs.Common.{take}
use Rattle.star_safety.proofs.Common.{HasWritten, IsPlainFormatter, others_text}
use Rattle.star_safety.proofs.reason.write_others.Given as goal

abbrev pub invariant-loop-reached : goal.invariant-loop-reached
invariant-loop-reached g l = IsPlainFormatter l.initial.f
    → HasWritten g.W.Write.write_str_gives l.initial.f (others_text (take l.reached-index l.others))
    l.f
