-- Blanks in front of a text.
use Rattle.std.{proofs.Common.{◌≡◌, ◌++◌, ◌&&◌, ℕ, List, [], ◌∷◌, Bool, true, false, refl, arith}, specs.Prelude.if◌then◌else◌}
use Rattle.star_statements.specs.{Blanks.without_blanks, Private.Drafts.is_empty}
use Rattle.star_common.specs.WhiteSpace.{is_blank}

module _ {X : Type 0} (x y : X) where
  pub if_true : (b : Bool) → b ≡ true → (if b then x else y) ≡ x
  if_true it e = grind arith

  pub if_false : (b : Bool) → b ≡ false → (if b then x else y) ≡ y
  if_false it e = grind arith

-- one less
pub past_blank : (c : ℕ) (rest : List ℕ) → is_blank c ≡ true
    → without_blanks (c ∷ rest) ≡ without_blanks rest
unfolding without_blanks
past_blank c rest blank = if_true _ _ (is_blank c) blank

-- none in front
pub no_blank : (c : ℕ) (rest : List ℕ) → is_blank c ≡ false → without_blanks (c ∷ rest) ≡ c ∷ rest
unfolding without_blanks
no_blank c rest none = if_false _ _ (is_blank c) none

-- one byte more behind a text
pub without_blanks-more : (text : List ℕ) (c : ℕ) → without_blanks (text ++ c ∷ [])
    ≡ (if is_empty (without_blanks text) && is_blank c then [] else without_blanks text ++ c ∷ [])
unfolding without_blanks
without_blanks-more [] c = refl
without_blanks-more (x ∷ text) c = grind (arith, without_blanks-more text c)
