use Rattle.std.proofs.{Common.{◌≡◌, ◌+◌, ◌-◌, ◌≤◌, arith}, lemmas.Result.err_from_is_err_and}
use Rattle.star_engine.proofs.PieceFeeds.{more, start, whole}
use Rattle.star_engine.proofs.parts.feed_all.Goals as goal

pub loop-init : goal.loop-init
loop-init g c = (omega arith, start g.R.Read.remaining c.args.input.now c.args.reader.now)

pub returns-in_err-count-clause-failed : goal.returns-in_err-count-clause-failed
returns-in_err-count-clause-failed g c = λ fail.
    let p = err_from_is_err_and c.from_residual.result c.from_residual.ensures.1 in
    let (within, h) = c.loop.invariant in
    let all : c.loop.taken + (c.args.limit - c.loop.taken) ≡ c.args.limit = omega (arith, within) in
    rw all at (c.in_err-count.ensures.failed c.loop.taken
    (omega (arith, all, c.requires.limit)) h.came (cc (p.1, p.2, fail)))

pub returns-then-count-eq0-clause-bytes : goal.returns-then-count-eq0-clause-bytes
returns-then-count-eq0-clause-bytes g c =
    let (within, h) = c.loop.invariant in
    let (piece, size, gone, on) = c.in_ok-count.ensures.fed in
    whole g.R.Read.remaining c.args.input.now c.loop.input c.feed_more.new.input c.args.reader.now
    c.loop.reader c.feed_more.new.reader c.loop.counter c.loop.taken c.args.limit piece h
    (omega (arith, size, c.if-count-eq0.true)) gone on within

pub loop-preserved : goal.loop-preserved
loop-preserved g c =
    let (within, h) = c.loop.invariant in
    let (piece, size, gone, on) = c.in_ok-count.ensures.fed in
    let here : c.loop.taken + c.in_ok-count.count ≤ c.args.limit =
    omega (arith, within, c.in_ok-count.ensures.within) in (
      here,
      more g.R.Read.remaining c.args.input.now c.loop.input c.feed_more.new.input c.args.reader.now
          c.loop.reader c.feed_more.new.reader c.loop.counter c.loop.taken c.in_ok-count.count
          c.args.limit piece h size gone on (omega (arith, c.if-count-eq0.false)) here
          c.requires.limit c.in_ok-count.ensures.came c.in_ok-count.ensures.reads
          c.in_ok-count.ensures.unfailed,
    )
