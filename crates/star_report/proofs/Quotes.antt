-- What is printed of a text tells which text it is, and that it is not ALL.
use Rattle.std.{proofs.Common.{◌≡◌, ◌++◌, ◌∙◌, ◌⊎◌, ℕ, Bool, true, false, cond, eqb, inl, inr, List, [], ◌∷◌, ap, codes, refl, subst, sym}, specs.List.flat_map, proofs.lemmas.Bool.{eqb-true, eq-eqb}, proofs.lemmas.List.append_cancel_right}
use Rattle.star_common.specs.Quotes.{doubled, quoted}
use Rattle.star_report.{specs.Report.{field_of_text, is_ambiguous}, proofs.Bytes.{Lacks, Lacks-append}}

chosen : {X : Type 0} (b : Bool) (x y : X) → ((b ≡ true) × (cond b x y ≡ x))
    ⊎ ((b ≡ false) × (cond b x y ≡ y))
chosen true x y = inl (refl, refl)
chosen false x y = inr (refl, refl)

doubled_cases : (b : ℕ) → ((b ≡ 39) × (doubled b ≡ 39 ∷ 39 ∷ []))
    ⊎ ((b ≡ 39 → ⊥) × (doubled b ≡ b ∷ []))
doubled_cases b = elim (chosen (eqb b 39) (39 ∷ 39 ∷ []) (b ∷ [])) [
  | inl h ↦ inl (eqb-true b 39 h.0, h.1)
  | inr h ↦ inr (λ e. let same = eq-eqb b 39 e in let other = h.0 in cc, h.1)
]

-- each quote twice
abbrev all_doubled : List ℕ → List ℕ
all_doubled text = flat_map doubled text

begins : (b : ℕ) (bytes rest : List ℕ) → doubled b ≡ bytes → doubled b ++ rest ≡ bytes ++ rest
begins b bytes rest e = ap (λ (t : List ℕ). t ++ rest) e

doubled_some : (b : ℕ) (rest : List ℕ) → doubled b ++ rest ≡ [] → ⊥
doubled_some b rest e = elim (doubled_cases b) [
  | inl h ↦ let f = sym (begins b _ rest h.1) ∙ e in cc
  | inr h ↦ let f = sym (begins b _ rest h.1) ∙ e in cc
]

doubled_same : (xs ys : List ℕ) → all_doubled xs ≡ all_doubled ys → xs ≡ ys
doubled_same [] [] e = refl
doubled_same [] (y ∷ ys) e = absurd (doubled_some y (all_doubled ys) (sym e))
doubled_same (x ∷ xs) [] e = absurd (doubled_some x (all_doubled xs) e)
doubled_same (x ∷ xs) (y ∷ ys) e = elim (doubled_cases x) [
  | inl h ↦ elim (doubled_cases y) [
    | inl k ↦
        let f : 39 ∷ 39 ∷ all_doubled xs ≡ 39 ∷ 39 ∷ all_doubled ys =
        sym (begins x _ (all_doubled xs) h.1) ∙ e ∙ begins y _ (all_doubled ys) k.1 in
        let tail : all_doubled xs ≡ all_doubled ys = cc in
        let same = doubled_same xs ys tail in
        cc
    | inr k ↦
        let f : 39 ∷ 39 ∷ all_doubled xs ≡ y ∷ all_doubled ys =
        sym (begins x _ (all_doubled xs) h.1) ∙ e ∙ begins y _ (all_doubled ys) k.1 in
        absurd (k.0 cc)
  ]
  | inr h ↦ elim (doubled_cases y) [
    | inl k ↦
        let f : x ∷ all_doubled xs ≡ 39 ∷ 39 ∷ all_doubled ys =
        sym (begins x _ (all_doubled xs) h.1) ∙ e ∙ begins y _ (all_doubled ys) k.1 in
        absurd (h.0 cc)
    | inr k ↦
        let f : x ∷ all_doubled xs ≡ y ∷ all_doubled ys =
        sym (begins x _ (all_doubled xs) h.1) ∙ e ∙ begins y _ (all_doubled ys) k.1 in
        let head : x ≡ y = cc in
        let tail : all_doubled xs ≡ all_doubled ys = cc in
        let same = doubled_same xs ys tail in
        cc
  ]
]

quoted_is : (text : List ℕ) → quoted text ≡ 39 ∷ (all_doubled text ++ 39 ∷ [])
unfolding quoted
quoted_is text = refl

quoted_same : (a b : List ℕ) → quoted a ≡ quoted b → a ≡ b
quoted_same a b e =
    let f : 39 ∷ (all_doubled a ++ 39 ∷ []) ≡ 39 ∷ (all_doubled b ++ 39 ∷ []) =
    sym (quoted_is a) ∙ e ∙ quoted_is b in
    let inner : all_doubled a ++ 39 ∷ [] ≡ all_doubled b ++ 39 ∷ [] = cc in
    doubled_same a b (append_cancel_right (all_doubled a) (all_doubled b) (39 ∷ []) inner)

quoted_ambiguous : (a b : List ℕ) → quoted a ≡ b → is_ambiguous b ≡ true
quoted_ambiguous a b e =
    let P : List ℕ → Type 0 = λ text. is_ambiguous text ≡ true in
    subst P (sym (quoted_is a) ∙ e) refl

text_cases : (a : List ℕ) → ((is_ambiguous a ≡ true) × (field_of_text a ≡ quoted a))
    ⊎ ((is_ambiguous a ≡ false) × (field_of_text a ≡ a))
text_cases a = chosen (is_ambiguous a) (quoted a) a

pub text_same : (a b : List ℕ) → field_of_text a ≡ field_of_text b → a ≡ b
text_same a b e = elim (text_cases a) [
  | inl h ↦ elim (text_cases b) [
    | inl k ↦ quoted_same a b (sym h.1 ∙ e ∙ k.1)
    | inr k ↦ let marked = quoted_ambiguous a b (sym h.1 ∙ e ∙ k.1) in let bare = k.0 in absurd cc
  ]
  | inr h ↦ elim (text_cases b) [
    | inl k ↦ let marked = quoted_ambiguous b a (sym (sym h.1 ∙ e ∙ k.1)) in let bare =
        h.0 in absurd cc
    | inr k ↦ sym h.1 ∙ e ∙ k.1
  ]
]

pub text_apart : (a : List ℕ) → field_of_text a ≡ codes "ALL" → ⊥
text_apart a e = elim (text_cases a) [
  | inl h ↦ let f = sym (quoted_is a) ∙ sym h.1 ∙ e in cc
  | inr h ↦
      let P : List ℕ → Type 0 = λ text. is_ambiguous text ≡ true in
      let marked : is_ambiguous a ≡ true = subst P (sym (sym h.1 ∙ e)) refl in
      let bare = h.0 in
      cc
]

doubled_lacks : (b : ℕ) (text : List ℕ) → (39 ≡ b → ⊥) → Lacks b text → Lacks b (all_doubled text)
doubled_lacks b [] other h = tt
doubled_lacks b (x ∷ xs) other h =
    let P : List ℕ → Type 0 = Lacks b in
    let head : Lacks b (doubled x) = elim (doubled_cases x) [
      | inl k ↦ subst P (sym k.1) (other, (other, tt))
      | inr k ↦ subst P (sym k.1) (h.0, tt)
    ] in
    Lacks-append b (doubled x) (all_doubled xs) head (doubled_lacks b xs other h.1)

pub text_lacks : (b : ℕ) (text : List ℕ) → (39 ≡ b → ⊥) → Lacks b text
    → Lacks b (field_of_text text)
text_lacks b text other h =
    let P : List ℕ → Type 0 = Lacks b in
    let inner = Lacks-append b (all_doubled text) (39 ∷ []) (doubled_lacks b text other h)
    (other, tt) in
    elim (text_cases text) [
      | inl k ↦ subst P (sym (k.1 ∙ quoted_is text)) (other, inner)
      | inr k ↦ subst P (sym k.1) h
    ]
