-- The records of a text that is cut at an end of a line, and their first fault.
use Rattle.std.{proofs.Common.{◌≡◌, ◌⊎◌, ◌+◌, ◌++◌, ◌∙◌, ℕ, List, [], ◌∷◌, Bool, true, false, Option, Some, None, length, refl, sym, ap, arith, append_assoc, add-zero, inl, inr}, proofs.lemmas.Bool.{and_parts, cases_Bool, eqb-true, true≢false}, proofs.lemmas.List.append-nil, proofs.lemmas.List.Elements.filter-append, specs.Prelude.{◌==◌, if◌then◌else◌, filter, nat_lt, nat_eq}, specs.List.{list_all, starts_with}, specs.Option.option_or}
use Rattle.star_common.specs.First.{first_answer}
use Rattle.star_schema.specs.{Records.{ends_line, fields_of, is_filled, pieces, records_of, with_first}, declared.table.TableId.TableId, Schema.kinds_of}
use Rattle.star_reader.specs.{Faults.byte_order_mark, Faults.record_fault, Faults.records_fault, Carried.is_inner, Private.Cut.EndsInLineEnd, Private.Cut.IsBegun}
use Rattle.star_reader.specs.declared.fault.ReadFault.TheVariants as fault

first_never_empty : (b : ℕ) (ps : List (List ℕ)) → with_first b ps ≡ [] → ⊥
first_never_empty b [] e = cc e
first_never_empty b (p ∷ ps) e = cc e

-- a text has a piece
pub pieces_some : (parts : ℕ → Bool) (text : List ℕ) → pieces parts text ≡ [] → ⊥
unfolding pieces
pieces_some parts [] e = cc e
pieces_some parts (b ∷ text) e = elim (cases_Bool (parts b)) [
  | inl part ↦ let bad : [] ∷ pieces parts text ≡ [] = rw part at e in cc bad
  | inr other ↦ first_never_empty b (pieces parts text) (rw other at e)
]

with_first-append : (b : ℕ) (ps qs : List (List ℕ)) → (ps ≡ [] → ⊥)
    → with_first b (ps ++ qs) ≡ with_first b ps ++ qs
with_first-append b [] qs some = absurd (some refl)
with_first-append b (p ∷ ps) qs some = refl

-- a byte that parts a text parts its pieces
pub pieces_cut : (parts : ℕ → Bool) (x : List ℕ) (e : ℕ) (y : List ℕ) → parts e ≡ true
    → pieces parts (x ++ e ∷ y) ≡ pieces parts x ++ pieces parts y
unfolding pieces
pieces_cut parts [] e y ends = rw ends refl
pieces_cut parts (b ∷ x) e y ends = elim (cases_Bool (parts b)) [
  | inl part ↦ rw part (ap (λ (ps : List (List ℕ)). [] ∷ ps) (pieces_cut parts x e y ends))
  | inr other ↦ rw other
      (ap (with_first b) (pieces_cut parts x e y ends)
      ∙ with_first-append b (pieces parts x) (pieces parts y) (pieces_some parts x))
]

-- a line end parts the records
pub records_cut : (x : List ℕ) (e : ℕ) (y : List ℕ) → ends_line e ≡ true
    → records_of (x ++ e ∷ y) ≡ records_of x ++ records_of y
records_cut x e y ends =
    ap (filter is_filled) (pieces_cut ends_line x e y ends)
    ∙ filter-append is_filled (pieces ends_line x) (pieces ends_line y)

-- a text that begins with a line end begins a record anew
pub records_begun : (x lines : List ℕ) → IsBegun lines
    → records_of (x ++ lines) ≡ records_of x ++ records_of lines
unfolding pieces
records_begun x lines h =
    rw h.is
    (records_cut x h.byte h.rest h.ends
    ∙ ap (λ (rs : List (List ℕ)). records_of x ++ rs) (sym (records_cut [] h.byte h.rest h.ends)))

-- a text that ends with a line end leaves no record open
pub records_ended : (lines more : List ℕ) → EndsInLineEnd lines
    → records_of (lines ++ more) ≡ records_of lines ++ records_of more
unfolding pieces
records_ended lines more h =
    let last : records_of (h.front ++ h.byte ∷ []) ≡ records_of h.front =
    records_cut h.front h.byte [] h.ends ∙ append-nil (records_of h.front) in
    rw (h.is, append_assoc h.front (h.byte ∷ []) more)
    (records_cut h.front h.byte more h.ends
    ∙ ap (λ (rs : List (List ℕ)). rs ++ records_of more) (sym last))

inner_other : (b : ℕ) → is_inner b ≡ true → ends_line b ≡ false
inner_other b h = elim (cases_Bool (ends_line b)) [
  | inl ends ↦ let bad : false ≡ true = rw ends at h in absurd (true≢false (sym bad))
  | inr other ↦ other
]

-- a line is its one piece
pub inner_pieces : (line : List ℕ) → list_all is_inner line ≡ true
    → pieces ends_line line ≡ line ∷ []
unfolding pieces
inner_pieces [] h = refl
inner_pieces (b ∷ line) h =
    let parts = and_parts (is_inner b) (list_all is_inner line) h in
    rw (inner_other b parts.0, inner_pieces line parts.1) refl

pub inner_records : (line : List ℕ) → list_all is_inner line ≡ true
    → records_of line ≡ filter is_filled (line ∷ [])
inner_records line h = ap (filter is_filled) (inner_pieces line h)

or_assoc : {A : Type 0} (a b c : Option A)
    → option_or a (option_or b c) ≡ option_or (option_or a b) c
or_assoc None b c = refl
or_assoc (Some x) b c = refl

-- the first fault of some records and then of others
pub records_fault-append : (t : TableId) (most from : ℕ) (a b : List (List ℕ))
    → records_fault t most from (a ++ b)
    ≡ option_or (records_fault t most from a) (records_fault t most (from + length a) b)
unfolding first_answer
records_fault-append t most from [] b = rw (add-zero from) refl
records_fault-append t most from (line ∷ a) b =
    let next : from + 1 + length a ≡ from + length (line ∷ a) = omega arith in
    rw (records_fault-append t most (from + 1) a b, next)
    (or_assoc
    (if nat_lt most from then Some fault.TooManyRows
    else record_fault (kinds_of t) from (fields_of line))
    (records_fault t most (from + 1) a)
    (records_fault t most (from + length (line ∷ a)) b))

end_is : (e : ℕ) → ends_line e ≡ true → (e ≡ 13) ⊎ (e ≡ 10)
end_is e h = elim (cases_Bool (e == 13)) [
  | inl return ↦ inl (eqb-true e 13 return)
  | inr other ↦ let feed : (e == 10) ≡ true = rw other at h in inr (eqb-true e 10 feed)
]

-- a line end is no part of a mark
pub mark_ends : (x : List ℕ) (e : ℕ) (y : List ℕ) → ends_line e ≡ true
    → starts_with nat_eq (x ++ e ∷ y) byte_order_mark ≡ starts_with nat_eq x byte_order_mark
mark_ends x e y ends =
    elim (end_is e ends)
    [ inl return ↦ rw return (behind_return x y) | inr feed ↦ rw feed (behind_feed x y) ]
  where
    behind_return : (x y : List ℕ) → starts_with nat_eq (x ++ 13 ∷ y) byte_order_mark
        ≡ starts_with nat_eq x byte_order_mark
    behind_return [] y = refl
    behind_return (a ∷ []) y = refl
    behind_return (a ∷ b ∷ []) y = refl
    behind_return (a ∷ b ∷ c ∷ x) y = refl

    behind_feed : (x y : List ℕ) → starts_with nat_eq (x ++ 10 ∷ y) byte_order_mark
        ≡ starts_with nat_eq x byte_order_mark
    behind_feed [] y = refl
    behind_feed (a ∷ []) y = refl
    behind_feed (a ∷ b ∷ []) y = refl
    behind_feed (a ∷ b ∷ c ∷ x) y = refl

-- a text that begins with a line end has no mark
pub begun_plain : (text : List ℕ) → IsBegun text → starts_with nat_eq text byte_order_mark ≡ false
begun_plain text h = rw h.is (mark_ends [] h.byte h.rest h.ends)
