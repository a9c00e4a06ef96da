-- Where the sums by key list add up within 128 bits and the counts within 64, no put overflows.
use Rattle.star_group.{proofs.Common.{◌≡◌, ℕ, ◌<◌, ◌≤◌, ◌^◌, Bool, true, false, ℤ, pos, negsuc, ◌+ℤ◌, ◌≤ℤ◌, List, [], ◌∷◌, Some, length, cond, ap, sym, ◌∙◌, refl, true≢false, arith, ints, false_from_ne_true, lt-ltb, count_by-le-length, length-filter, filter, Aggregate, Sum, Count, Min, Max, aggregate, belongs, joined, numbers_for, KeyValue, key_value_cmp, leaves, Update, overflows, aggregate_at, overflow_somewhere, Group, put_number, HasRoom}, proofs.ContentByKeys.{length-numbers, sums}, proofs.ContentMade.{made, made_content}, proofs.JoinedParts.{joined_more, more}, proofs.Totals.{declared, some_aggregate}, specs.Cells.held, specs.Stores.{above_zero, below_zero}}
use Rattle.star_interval.specs.Range.{is_i64, is_i128}
use Rattle.std.proofs.lemmas.Grind.{common_steps}

abbrev all_of : List ℤ → ℤ
all_of [] = pos 0
all_of (v ∷ vs) = v +ℤ all_of vs

some_sum : (v : ℤ) (vs : List ℤ) → joined (λ x y. x +ℤ y) (v ∷ vs) ≡ Some (all_of (v ∷ vs))
some_sum v [] = ap Some (let e : v ≡ v +ℤ pos 0 = omega (arith, ints) in e)
some_sum v (w ∷ ws) = joined_more (λ x y. x +ℤ y) v (w ∷ ws)
    ∙ ap (more (λ x y. x +ℤ y) v) (some_sum w ws)

sum_is : (vs : List ℤ) (z : ℤ) → joined (λ x y. x +ℤ y) vs ≡ Some z → z ≡ all_of vs
sum_is [] z e = absurd (let no : ⊥ = cc e in no)
sum_is (v ∷ vs) z e = cc (some_sum v vs, e)

-- ---- the sums of the key lists that pass a test

bounded : (zs : List ℤ) → (all_of zs ≤ℤ pos (above_zero zs))
    × (pos 0 ≤ℤ (all_of zs +ℤ pos (below_zero zs)))
unfolding above_zero below_zero
bounded [] = (omega (arith, ints), omega (arith, ints))
bounded (pos n ∷ zs) = let r = bounded zs in (omega (arith, ints, r.0), omega (arith, ints, r.1))
bounded (negsuc n ∷ zs) = let r = bounded zs in (omega (arith, ints, r.0), omega (arith, ints, r.1))

-- fewer numbers add up to no more
record Fewer (vs ws : List ℤ) : Type 0 where
  pub above : above_zero vs ≤ above_zero ws
  pub below : below_zero vs ≤ below_zero ws

fewer_with : (v : ℤ) (vs ws : List ℤ) → Fewer vs ws → Fewer (v ∷ vs) (v ∷ ws)
unfolding above_zero below_zero
fewer_with (pos n) vs ws h = record { above = omega arith; below = h.below }
fewer_with (negsuc n) vs ws h = record { above = h.above; below = omega arith }

fewer_without : (v : ℤ) (vs ws : List ℤ) → Fewer vs ws → Fewer vs (v ∷ ws)
unfolding above_zero below_zero
fewer_without (pos n) vs ws h = record { above = omega arith; below = h.below }
fewer_without (negsuc n) vs ws h = record { above = h.above; below = omega arith }

fewer_kept : (p : Update → Bool) (index : ℕ) (es : List Update)
    → Fewer (numbers_for index (filter p es)) (numbers_for index es)
fewer_kept p index [] = record { above = omega arith; below = omega arith }
fewer_kept p index (e ∷ es) = by (p e) (fewer_kept p index es)
  where
    by : (b : Bool) → Fewer (numbers_for index (filter p es)) (numbers_for index es)
        → Fewer (numbers_for index (cond b (e ∷ filter p es) (filter p es)))
        (put_number index e ∷ numbers_for index es)
    by true h = fewer_with (put_number index e) _ _ h
    by false h = fewer_without (put_number index e) _ _ h

fits_between : (z : ℤ) (m n : ℕ) → z ≤ℤ pos m → pos 0 ≤ℤ (z +ℤ pos n) → m < 2 ^ 127 → n ≤ 2 ^ 127
    → is_i128 z ≡ true
unfolding is_i128
fits_between (pos k) m n a b h l = lt-ltb k (2 ^ 127) (omega (arith, ints))
fits_between (negsuc k) m n a b h l = lt-ltb k (2 ^ 127) (omega (arith, ints))

-- ---- counts

pub count_small : (n : ℕ) → n < 2 ^ 63 → is_i64 (pos n) ≡ true
unfolding is_i64
count_small n h = lt-ltb n (2 ^ 63) h

-- ---- the puts whose key lists pass a test

module _ (d : Group) (us : List Update) (room : HasRoom d us) (p : List KeyValue → Bool) (index : ℕ)
    (declared : index < length d.aggregates) where
  sum_fits : aggregate_at d.aggregates index ≡ Sum → (z : ℤ)
      → joined (λ x y. x +ℤ y) (numbers_for index (filter (λ w. p w.keys) us)) ≡ Some z
      → is_i128 z ≡ true
  sum_fits same z e =
      let es = made d us in
      let zs = numbers_for index (filter (λ w. p w.keys) es) in
      let whole = sums d us es (made_content d us) index declared p same ∙ e in
      let up = room.sums es (made_content d us) index declared same in
      let less = fewer_kept (λ w. p w.keys) index es in
      let r = bounded zs in
      ap is_i128 (sum_is zs z whole)
      ∙ fits_between (all_of zs) _ _ r.0 r.1 (omega (arith, less.above, up.above))
      (omega (arith, less.below, up.below))

  stays_at : (g : Aggregate) → aggregate_at d.aggregates index ≡ g
      → leaves g (aggregate g (numbers_for index (filter (λ w. p w.keys) us))) ≡ false
  stays_at Sum same = grind (arith, joined, leaves, sum_fits)
  stays_at Count same =
      grind (arith, common_steps, count_small, length-numbers, length-filter, count_by-le-length)
  stays_at Min same = grind (arith, leaves)
  stays_at Max same = grind (arith, leaves)

-- what is held of them doesn't leave its bits
pub held_stays : (d : Group) (us : List Update) → HasRoom d us
    → (p : List KeyValue → Bool) (index : ℕ) → index < length d.aggregates
    → leaves (aggregate_at d.aggregates index)
    (held (aggregate_at d.aggregates index) (numbers_for index (filter (λ w. p w.keys) us))) ≡ false
unfolding held
held_stays d us room p index declared =
    by (aggregate_at d.aggregates index) (numbers_for index (filter (λ w. p w.keys) us))
    (stays_at d us room p index declared (aggregate_at d.aggregates index) refl)
  where
    by : (g : Aggregate) (vs : List ℤ) → leaves g (aggregate g vs) ≡ false
        → leaves g (held g vs) ≡ false
    by Sum [] h = refl
    by Count [] h = refl
    by Min [] h = refl
    by Max [] h = refl
    by g (v ∷ vs) h = ap (leaves g) (some_aggregate g v vs) ∙ h

pub room_stays : (d : Group) (us : List Update) (u : Update) → HasRoom d (u ∷ us)
    → overflows d.shape d.aggregates us u ≡ false
room_stays d us u room = false_from_ne_true (overflows d.shape d.aggregates us u) (λ over.
    let l = overflow_somewhere (declared d) us u over in
    true≢false (sym l.leaves_there
    ∙ stays_at d (u ∷ us) room (belongs key_value_cmp l.group) l.index l.declared
    (aggregate_at d.aggregates l.index) refl))
