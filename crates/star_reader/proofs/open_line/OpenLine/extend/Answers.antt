use Rattle.std.proofs.{Common.{◌≤◌, ◌<◌, ◌++◌, ◌∷◌, ℕ, List, [], add-one, append_assoc, arith, get_or, length, take}, Math.Seq.take-suc, lemmas.List.take_all}
use Rattle.star_reader.proofs.open_line.OpenLine.extend.Goals as goal

pub loop-byte-preserved : goal.loop-byte-preserved
loop-byte-preserved c = λ kinds bytes wide h.
    let more : List ℕ = c.args.more.now in
    let within : c.loop-byte.byte-index < length more = omega (arith, c.loop-byte-test.true) in
    let next = c.in_ok-push.ensures kinds (bytes ++ take c.loop-byte.byte-index more) wide
    (c.loop-byte.invariant kinds bytes wide h) in
    rw (
      add-one,
      take-suc more c.loop-byte.byte-index 0 within,
      ← (append_assoc bytes (take c.loop-byte.byte-index more)
          (get_or more c.loop-byte.byte-index 0 ∷ [])),
    ) next

pub returns : goal.returns
returns c = λ kinds bytes wide h.
    let all : length c.args.more.now ≤ c.loop-byte.byte-index =
    omega (arith, c.loop-byte-test.false) in
    rw (take_all c.loop-byte.byte-index c.args.more.now all) at
    (c.loop-byte.invariant kinds bytes wide h)
