-- Eight more bits in front.
use Rattle.std.{proofs.Common.{◌≡◌, ◌+◌, ◌-◌, ◌*◌, map, ap, ◌∙◌, arith}, specs.Simd.Lanes.{chunk, mask_l}}
use Rattle.star_column.proofs.BitLists.{bits_joined, bits_small}
use Rattle.star_column.proofs.mask.mask_by_eights.Goals as goal

pub overflow_mul-bits : goal.overflow_mul-bits
overflow_mul-bits g c =
    let small = bits_small (g.T.RowTest.test c.args.test.now) (g.T.RowTest.numbers c.args.test.now)
    (c.args.first + 8 * c.loop-byte.byte) (64 - 8 * c.loop-byte.byte) 56
    (omega (arith, c.requires.room, c.loop-byte.invariant.within))
    (omega (arith, c.loop-byte-test.true)) in
    record { fits = omega (arith, small, c.loop-byte.invariant.bits) }

pub overflow_add-bits : goal.overflow_add-bits
overflow_add-bits g c =
    let small = bits_small (g.T.RowTest.test c.args.test.now) (g.T.RowTest.numbers c.args.test.now)
    (c.args.first + 8 * c.loop-byte.byte) (64 - 8 * c.loop-byte.byte) 56
    (omega (arith, c.requires.room, c.loop-byte.invariant.within))
    (omega (arith, c.loop-byte-test.true)) in
    record { fits = omega (arith, small, c.loop-byte.invariant.bits, c.eight.ensures.small) }

pub loop-byte-preserved : goal.loop-byte-preserved
loop-byte-preserved g c =
    let test = g.T.RowTest.test c.args.test.now in
    let numbers = g.T.RowTest.numbers c.args.test.now in
    let before = c.loop-byte.byte - 1 in
    let behind : c.args.first + 8 * c.loop-byte.byte ≡ c.args.first + 8 * before + 8 =
    omega (arith, c.loop-byte-test.true) in
    let more : 8 + (64 - 8 * c.loop-byte.byte) ≡ 64 - 8 * before =
    omega (arith, c.loop-byte-test.true, c.loop-byte.invariant.within) in
    let rest : c.loop-byte.bits
    ≡ mask_l (map test (chunk (c.args.first + 8 * before + 8)
    (64 - 8 * c.loop-byte.byte) numbers)) =
    c.loop-byte.invariant.bits
    ∙ ap (λ n. mask_l (map test (chunk n (64 - 8 * c.loop-byte.byte) numbers))) behind in
    let joined = bits_joined test numbers (c.args.first + 8 * before) 8
    (64 - 8 * c.loop-byte.byte)
    (omega (arith, c.requires.room, c.loop-byte-test.true, c.loop-byte.invariant.within)) in
    let all = ap (λ n. mask_l (map test (chunk (c.args.first + 8 * before) n numbers))) more in
    record {
      within = omega (arith, c.loop-byte.invariant.within);
      bits = omega (arith, rest, joined, all, c.eight.ensures.bits);
    }
