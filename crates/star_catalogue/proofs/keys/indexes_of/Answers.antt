use Rattle.std.{proofs.Common.{◌≡◌, ◌∙◌, ◌<◌, true, false, cond, Option, Some, None, ℕ, length, slice_get, refl, sym, ap, inr, arith}, proofs.lemmas.Option.slice_get_read, specs.BTreeMap.{get, is_at}, specs.Map.lookup, specs.Option.{is_some, option_map}}
use Rattle.star_catalogue.{specs.declared.fault.LoadFault.TheVariants.DuplicateKey, proofs.Repeats.{all_inserted, inserted_before, inserted_more, nothing_inserted}, proofs.keys.indexes_of.Goals.After-index-keys-index}
use Rattle.star_catalogue.proofs.keys.indexes_of.Goals as goal

some_of : (o : Option ℕ) → is_some o ≡ true → (n : ℕ) × (o ≡ Some n)
some_of None e = cc
some_of (Some n) e = (n, refl)

none_of : (o : Option ℕ) → is_some o ≡ false → o ≡ None
none_of None e = refl
none_of (Some n) e = cc

pub loop-index-init : goal.loop-index-init
loop-index-init g c =
    nothing_inserted g.K.PartialEq.eq g.met.K.Eq.laws c.args.keys.now
    (get g.K.Ord.cmp c.new-indexes.result)
    (λ key. ap (lookup (is_at (g.K.Ord.cmp key))) c.new-indexes.ensures.empty)

-- the key that is read stands at the loop's position
read : (g : _) (c : After-index-keys-index g)
    → slice_get c.args.keys.now c.loop-index.index ≡ Some c.index-keys-index.result
read g c =
    let keys = c.args.keys.now in
    let within : c.loop-index.index < length keys = omega arith in
    slice_get_read keys (length keys) c.loop-index.index c.index-keys-index.result refl within
    c.index-keys-index.is

pub returns-then-is_some : goal.returns-then-is_some
returns-then-is_some g c =
    let some = some_of c.in_ok-before.before (sym c.is_some.ensures ∙ c.if-is_some.true) in
    let first = inserted_before g.K.PartialEq.eq g.met.K.Eq.laws c.args.keys.now c.loop-index.index
    some.0 c.index-keys-index.result (get g.K.Ord.cmp c.loop-index.indexes) c.loop-index.invariant
    (read g (goal.at.returns-then-is_some g c).After-index-keys-index)
    (sym c.in_ok-before.ensures.old ∙ some.1) in
    inr (ap (option_map (DuplicateKey c.args.table)) first)

pub loop-index-preserved : goal.loop-index-preserved
loop-index-preserved g c =
    let none = none_of c.in_ok-before.before (sym c.is_some.ensures ∙ c.if-is_some.false) in
    let old = get g.K.Ord.cmp c.loop-index.indexes in
    inserted_more g.K.PartialEq.eq g.met.K.Eq.laws c.args.keys.now c.loop-index.index
    c.index-keys-index.result old (get g.K.Ord.cmp c.insert.new.self) c.loop-index.invariant
    (read g (goal.at.loop-index-preserved g c).After-index-keys-index)
    (sym c.in_ok-before.ensures.old ∙ none)
    (λ q. c.in_ok-before.ensures.updates.0 q
    ∙ ap (λ b. cond b (Some c.loop-index.index) (old q))
    (sym (g.met.K.Ord.matches_eq c.index-keys-index.result q)))

pub returns : goal.returns
returns g c =
    all_inserted g.K.PartialEq.eq g.met.K.Eq.laws c.args.keys.now
    (get g.K.Ord.cmp c.loop-index.indexes) c.loop-index.index c.loop-index-test.false
    c.loop-index.invariant
