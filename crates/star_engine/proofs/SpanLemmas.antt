-- Keys in order, and spans that hold them.
use Rattle.std.{proofs.Common.{◌≡◌, ◌<◌, ◌+◌, ◌≤◌, ◌⊎◌, ℕ, zero, suc, ℤ, true, false, List, [], ◌∷◌, Option, Some, None, ap, arith, inl, inr, length, ltb, map, refl, subst, sym, true≢false, ◌∙◌}, proofs.lemmas.Option.{get_or_from_slice_get, same_Some, slice_get-get_or, slice_get-map, slice_get_within}, proofs.lemmas.Bool.{cases_Bool, ltb-false, ltb-true}, proofs.lemmas.List.length-map, proofs.lemmas.List.Elements.All-from_recursion, proofs.lemmas.Cmp.{int_cmp_total, lists_total, tied_itself}, specs.Prelude.{All, Contains}, specs.Cmp.IsTotalOrder, specs.List.slice_get, specs.Option.option_map, specs.Ordering.{is_le, is_lt, ordering_reverse, ordering_then}, specs.declared.cmp.Ordering.Ordering, specs.declared.cmp.Ordering.TheVariants.{Less, Equal, Greater}}
use Rattle.star_common.proofs.Members.{of_each}
use Rattle.star_schema.specs.{declared.column.ColumnId.TheVariants.{LoLinenumber, LoOrderkey}, declared.table.TableId.TableId, declared.table.TableId.TheVariants.Lineorder, Bounds.{numbers_at, numbers_of}, Loadable.{key_numbers, keys_of, number_at}, Schema.key_of, Tables.Value}
use Rattle.star_merge_laws.{specs.Parts.key_list_cmp, proofs.LoadableParts.less_upto}
use Rattle.star_partial.specs.declared.partial.LineKey.{LineKey}
use Rattle.star_engine.specs.{Partials.line_numbers, Private.PartialSteps.IsUpTo}

order : IsTotalOrder key_list_cmp
order = lists_total int_cmp_total

pub then_equal : (o : Ordering) → ordering_then o Equal ≡ o
then_equal Less = refl
then_equal Equal = refl
then_equal Greater = refl

pub upto_itself : (a : List ℤ) → IsUpTo a a
upto_itself a = ap is_le (tied_itself order a)

pub upto_less : (a b : List ℤ) → is_lt (key_list_cmp a b) ≡ true → IsUpTo a b
upto_less a b h = by (key_list_cmp a b) h
  where
    by : (r : Ordering) → is_lt r ≡ true → is_le r ≡ true
    by Less h = refl
    by Equal h = refl
    by Greater h = absurd (true≢false (sym h))

pub upto_turned : (a b : List ℤ) → is_lt (key_list_cmp a b) ≡ false → IsUpTo b a
upto_turned a b h = ap is_le (order.antisymm b a) ∙ by (key_list_cmp a b) h
  where
    by : (r : Ordering) → is_lt r ≡ false → is_le (ordering_reverse r) ≡ true
    by Less h = absurd (true≢false h)
    by Equal h = refl
    by Greater h = refl

pub upto_through : (a b c : List ℤ) → IsUpTo a b → IsUpTo b c → IsUpTo a c
upto_through a b c h k = by (key_list_cmp a b) refl h
  where
    by : (r : Ordering) → key_list_cmp a b ≡ r → is_le r ≡ true → IsUpTo a c
    by Less e h = ap is_le (less_upto key_list_cmp order a b c e k)
    by Equal e h = ap is_le (order.congr a b c e) ∙ k
    by Greater e h = absurd (true≢false (sym h))

-- ---- the span of the keys so far

pub record IsSpanOf (keys : List (List ℤ)) (row : ℕ) (low high : List ℤ) : Type 0 where
  pub within : (k : ℕ) (key : List ℤ) → k < row → slice_get keys k ≡ Some key
      → IsUpTo low key × IsUpTo key high
  pub low_there : Contains keys low
  pub high_there : Contains keys high

contains_at : (keys : List (List ℤ)) (k : ℕ) (key : List ℤ) → slice_get keys k ≡ Some key
    → Contains keys key
contains_at keys k key e =
    (k, slice_get_within keys k key e, get_or_from_slice_get keys k key key e)

pub first_span : (keys : List (List ℤ)) (key : List ℤ) → slice_get keys 0 ≡ Some key
    → IsSpanOf keys 1 key key
first_span keys key at =
    record {
      within = within;
      low_there = contains_at keys 0 key at;
      high_there =
          contains_at keys 0 key at;
    }
  where
    within : (k : ℕ) (other : List ℤ) → k < 1 → slice_get keys k ≡ Some other
        → IsUpTo key other × IsUpTo other key
    within zero other below e =
        let same : key ≡ other = same_Some _ _ (sym at ∙ e) in (
          subst (λ k. IsUpTo key k) same (upto_itself key),
          subst (λ k. IsUpTo k key) same (upto_itself key),
        )
    within (suc k) other below e = absurd (omega (arith, below))

pub wider_span : (keys : List (List ℤ)) (row : ℕ) (low high key new_low new_high : List ℤ)
    → IsSpanOf keys row low high → slice_get keys row ≡ Some key → IsUpTo new_low low
    → IsUpTo new_low key → IsUpTo high new_high → IsUpTo key new_high
    → (new_low ≡ low) ⊎ (new_low ≡ key) → (new_high ≡ high) ⊎ (new_high ≡ key)
    → IsSpanOf keys (row + 1) new_low new_high
wider_span keys row low high key new_low new_high is at low_low low_key high_high key_high either
    other =
    record {
      within = within;
      low_there = held low new_low is.low_there either;
      high_there = held high new_high is.high_there other;
    }
  where
    held : (old new : List ℤ) → Contains keys old → (new ≡ old) ⊎ (new ≡ key) → Contains keys new
    held old new there (inl e) = subst (Contains keys) (sym e) there
    held old new there (inr e) = subst (Contains keys) (sym e) (contains_at keys row key at)

    within : (k : ℕ) (one : List ℤ) → k < row + 1 → slice_get keys k ≡ Some one
        → IsUpTo new_low one × IsUpTo one new_high
    within k one below e = elim (cases_Bool (ltb k row)) [
      | inl before ↦
          let old = is.within k one (ltb-true k row before) e in (
            upto_through new_low low one low_low old.0,
            upto_through one high new_high old.1 high_high,
          )
      | inr not_before ↦
          let past : row ≤ k = ltb-false k row not_before in
          let last : k ≡ row = omega (arith, past, below) in
          let there : slice_get keys row ≡ Some one = rw last at e in
          let same : key ≡ one = same_Some _ _ (sym at ∙ there) in
          (subst (λ x. IsUpTo new_low x) same low_key, subst (λ x. IsUpTo x new_high) same key_high)
    ]

pub whole_span : (keys : List (List ℤ)) (row : ℕ) (low high : List ℤ) → length keys ≤ row
    → IsSpanOf keys row low high → All (λ key. IsUpTo low key × IsUpTo key high) keys
whole_span keys row low high all is =
    All-from_recursion (λ key. IsUpTo low key × IsUpTo key high) keys
    (of_each (λ key. IsUpTo low key × IsUpTo key high) keys
    (λ key there. is.within there.0 key (omega (arith, there.1, all))
    (slice_get-get_or keys there.0 key there.1 ∙ ap Some there.2)))

-- ---- keys of lineorder

pub keys_length : (t : TableId) (rows : List (List Value)) → length (keys_of t rows) ≡ length rows
unfolding keys_of
keys_length t rows = length-map rows (key_numbers (key_of t))

pub key_there : (rows : List (List Value)) (i : ℕ) (order line : ℤ)
    → slice_get (numbers_of LoOrderkey rows) i ≡ Some order
    → slice_get (numbers_of LoLinenumber rows) i ≡ Some line
    → slice_get (keys_of Lineorder rows) i ≡ Some (order ∷ line ∷ [])
unfolding keys_of numbers_at
key_there rows i order line a b = go (slice_get rows i) refl
  where
    go : (o : Option (List Value)) → slice_get rows i ≡ o
        → slice_get (map (key_numbers (key_of Lineorder)) rows) i ≡ Some (order ∷ line ∷ [])
    go None e =
        let none : slice_get (map (number_at LoOrderkey) rows) i ≡ None =
        slice_get-map (number_at LoOrderkey) rows i
        ∙ ap (option_map (number_at LoOrderkey)) e in
        let some : slice_get (map (number_at LoOrderkey) rows) i ≡ Some order = a in
        absurd cc
    go (Some row) e =
        let first : Some (number_at LoOrderkey row) ≡ Some order =
        sym (slice_get-map (number_at LoOrderkey) rows i
        ∙ ap (option_map (number_at LoOrderkey)) e) ∙ a in
        let second : Some (number_at LoLinenumber row) ≡ Some line =
        sym (slice_get-map (number_at LoLinenumber) rows i
        ∙ ap (option_map (number_at LoLinenumber)) e) ∙ b in
        let x = same_Some _ _ first in
        let y = same_Some _ _ second in
        slice_get-map (key_numbers (key_of Lineorder)) rows i
        ∙ ap (option_map (key_numbers (key_of Lineorder))) e
        ∙ (λ j. Some (x j ∷ y j ∷ []))

-- no rows have no keys
pub no_keys : (rows : List (List Value)) → length rows ≡ 0 → keys_of Lineorder rows ≡ []
unfolding keys_of
no_keys [] e = refl
no_keys (row ∷ rows) e = absurd (omega (arith, e))

pub numbers_of_either : (a b c : LineKey) → (a ≡ b) ⊎ (a ≡ c)
    → (line_numbers a ≡ line_numbers b) ⊎ (line_numbers a ≡ line_numbers c)
numbers_of_either a b c (inl e) = inl (ap line_numbers e)
numbers_of_either a b c (inr e) = inr (ap line_numbers e)
