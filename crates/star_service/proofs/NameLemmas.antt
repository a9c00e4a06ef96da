-- A text that is written letter by letter.
use Rattle.std.{proofs.Common.{◌≡◌, ◌∙◌, ◌++◌, ℕ, List, [], append-nil, append_assoc, ap, subst, sym}, proofs.Output.has_written_append, specs.Fmt.HasWritten, specs.declared.fmt.Formatter.Formatter}

-- what is written, followed by what is left, is the whole
abbrev pub IsWrittenUpTo : {W : Type 0} → (W → List ℕ → W → Type 0) → (f g : Formatter W)
    → (left whole : List ℕ) → Type 0
IsWrittenUpTo took f g left whole =
    (done : List ℕ) × HasWritten took f done g × (done ++ left ≡ whole)

module _ {W : Type 0} (took : W → List ℕ → W → Type 0) (f g : Formatter W) where
  pub one_more : (left letter rest whole : List ℕ) (h : Formatter W)
      → IsWrittenUpTo took f g left whole → HasWritten took g letter h → left ≡ letter ++ rest
      → IsWrittenUpTo took f h rest whole
  one_more left letter rest whole h now wrote parts = (
    now.0 ++ letter,
    has_written_append took f now.0 g letter h now.1 wrote,
    append_assoc now.0 letter rest ∙ ap (λ l. now.0 ++ l) (sym parts) ∙ now.2,
  )

  pub all_written : (left whole : List ℕ) → IsWrittenUpTo took f g left whole → left ≡ []
      → HasWritten took f whole g
  all_written left whole now none =
      subst (λ text. HasWritten took f text g)
      (sym (append-nil now.0) ∙ ap (λ l. now.0 ++ l) (sym none) ∙ now.2) now.1
