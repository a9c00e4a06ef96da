-- Rows of the numbers from the least key on.
use Rattle.std.{proofs.Common.{◌≡◌, ◌≢◌, ℕ, zero, suc, ◌<◌, ℤ, ◌-ℤ◌, ◌≤ℤ◌, false, cond, List, Some, None, length, nat_eq, replicate, set, refl, sym, ap, ◌∙◌, inl, inr, arith, length-set}, proofs.lemmas.Bool.{cases_Bool, cases_lt}, proofs.lemmas.Bool.Decides.{Decides-int_eq, nat_tests}, proofs.lemmas.Int.ints, proofs.lemmas.List.{get_or-set_other, get_or-set_same}, proofs.lemmas.Option.{slice_get-get_or, slice_get_past}, specs.Int.RustNames.{int_lt, unsigned_abs}, specs.List.slice_get, specs.Ordering.int_eq}
use Rattle.star_catalogue.specs.Private.Indexes.{dense_at, row_of_slot}

-- no number below the least key is one
from_least : (least key : ℤ) → least ≤ℤ key → int_lt key least ≡ false
from_least least key h = grind (arith, ints)

at_least : (least key : ℤ) → int_lt key least ≡ false → least ≤ℤ key
at_least least key h = grind (arith, ints)

slots_differ : (least a b : ℤ) → least ≤ℤ a → least ≤ℤ b → a ≢ b
    → unsigned_abs (b -ℤ least) ≢ unsigned_abs (a -ℤ least)
slots_differ least a b above also differ same =
    let is : a ≡ b = omega (arith, ints) in
    absurd (differ is)

is_row : (row : ℕ) → row ≢ 4294967295 → nat_eq row 4294967295 ≡ false
is_row row some = grind (arith, nat_tests)

blank : (n k : ℕ) → row_of_slot (slice_get (replicate n 4294967295) k) ≡ None
blank zero k = refl
blank (suc n) zero = refl
blank (suc n) (suc k) = blank n k

pub none_yet : (least : ℤ) (rows : List ℕ) (n : ℕ) → rows ≡ replicate n 4294967295 → (key : ℤ)
    → dense_at least rows key ≡ None
none_yet least rows n is key = elim (cases_Bool (int_lt key least)) [
  | inl below ↦ rw below refl
  | inr from ↦
      rw (from, is) (blank n (unsigned_abs (key -ℤ least)))
]

pub taken : (least : ℤ) (rows : List ℕ) (key : ℤ) (row : ℕ) → least ≤ℤ key
    → slice_get rows (unsigned_abs (key -ℤ least)) ≡ Some row → row ≢ 4294967295
    → dense_at least rows key ≡ Some row
taken least rows key row above at some =
    rw (from_least least key above, at, is_row row some) refl

pub free : (least : ℤ) (rows : List ℕ) (key : ℤ) → least ≤ℤ key
    → slice_get rows (unsigned_abs (key -ℤ least)) ≡ Some 4294967295
    → dense_at least rows key ≡ None
free least rows key above at = rw (from_least least key above, at) refl

kept_other : (rows : List ℕ) (slot other v : ℕ) → other ≢ slot
    → slice_get (set rows slot v) other ≡ slice_get rows other
kept_other rows slot other v differ = elim (cases_lt other (length rows)) [
  | inl within ↦
      slice_get-get_or (set rows slot v) other 0 (simp length-set within)
      ∙ ap Some (get_or-set_other rows slot other v 0 differ)
      ∙ sym (slice_get-get_or rows other 0 within)
  | inr past ↦
      slice_get_past (set rows slot v) other (simp length-set past)
      ∙ sym (slice_get_past rows other past)
]

pub put : (least : ℤ) (rows : List ℕ) (key : ℤ) (index : ℕ) → least ≤ℤ key
    → unsigned_abs (key -ℤ least) < length rows → index < 4294967295 → (q : ℤ)
    → dense_at least (set rows (unsigned_abs (key -ℤ least)) index) q
    ≡ cond (int_eq key q) (Some index) (dense_at least rows q)
put least rows key index above within few q =
    let slot = unsigned_abs (key -ℤ least) in
    elim (cases_Bool (int_eq key q)) [
      | inl equal ↦
          let is : key ≡ q = (Decides-int_eq key q).0 equal in
          let there : slice_get (set rows slot index) slot ≡ Some index =
          slice_get-get_or (set rows slot index) slot 0 (simp length-set within)
          ∙ ap Some (get_or-set_same rows slot index 0 within) in
          rw equal (ap (dense_at least (set rows slot index)) (sym is)
          ∙ taken least (set rows slot index) key index above there (λ e. omega (arith, e, few)))
      | inr other ↦
          rw other (elim (cases_Bool (int_lt q least)) [
            | inl below ↦ rw below refl
            | inr from ↦
                let differ : key ≢ q = λ e.
                let equal = (Decides-int_eq key q).1 e in cc (equal, other) in
                rw from
                (ap row_of_slot (kept_other rows slot (unsigned_abs (q -ℤ least)) index
                (slots_differ least key q above (at_least least q from) differ)))
          ])
    ]
