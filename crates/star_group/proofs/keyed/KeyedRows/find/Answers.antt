use Rattle.star_group.proofs.{Common.{◌≡◌, ◌<◌, ◌-◌, ◌∙◌, ap, sym, subst, arith, cut, child, digit_at, key_at, keys_in}, Tries.{apart_when, start, further, missing}}
use Rattle.star_group.proofs.keyed.KeyedRows.find.Goals as goal

pub loop-depth-init : goal.loop-depth-init
loop-depth-init c = let s = c.args.self.now in
    start s.listed.width (keys_in s) s.links.items c.args.key.now s.trie

pub returns-then-next-eq0 : goal.returns-then-next-eq0
returns-then-next-eq0 c =
    let s = c.args.self.now in
    let l = c.loop-depth in
    missing s.listed.width (keys_in s) s.links.items c.args.key.now s.trie l.depth
    l.node c.digit_at-digit.result l.invariant
    (c.digit_at-digit.ensures.digit ∙ ap (λ w. digit_at w c.args.key.now l.depth) c.requires)
    c.digit_at-digit.ensures.few
    (ap (λ ls. child ls l.node c.digit_at-digit.result) (sym c.as_slice.ensures.value)
    ∙ sym c.child_at-next.ensures ∙ c.if-next-eq0.true)

pub loop-depth-preserved : goal.loop-depth-preserved
loop-depth-preserved c =
    let s = c.args.self.now in
    let l = c.loop-depth in
    let more : 0 < c.child_at-next.result = omega (arith, c.if-next-eq0.false) in
    further s.listed.width (keys_in s) s.links.items c.args.key.now s.trie l.depth
    l.node c.digit_at-digit.result l.invariant
    (c.digit_at-digit.ensures.digit ∙ ap (λ w. digit_at w c.args.key.now l.depth) c.requires)
    c.child_at-next.result
    (c.child_at-next.ensures
    ∙ ap (λ ls. child ls l.node c.digit_at-digit.result) c.as_slice.ensures.value) more
    (subst (λ ps. key_at (cut s.listed.width s.listed.len ps) (c.child_at-next.result - 1)
    ≡ c.args.key.now → ⊥)
    c.as_slice-in-loop-depth.ensures.value
    (apart_when c.has_key.result c.has_key.ensures c.if-has_key.false))
