-- What refuses a program first.
use Rattle.std.proofs.Common.{◌≡◌, ◌<◌, ◌≤◌, ℕ, Option, Some, inl, inr, ap, refl, ◌∙◌, arith}
use Rattle.star_verify.proofs.Common.{AreFacts, Facts, IsFirst, Parts, Reason, Refusal, UnlessMemory, World, at_first, first_reason, first_refusal, first_standing, le-leb, lt-leb, none_open, option_map, option_or, quote, refusal_view, shown_fault, size_of}
use Rattle.star_safety.specs.Admissible as admissible
use Rattle.star_verify.specs.declared.refusal.Refusal.TheVariants as told

pub same_quote : (w : World) (facts : Facts) → AreFacts w facts → (parts : Parts) (visits : ℕ)
    → visits ≡ quote (size_of facts.sizes) parts → visits ≡ quote w.size parts
same_quote w facts are parts visits e = e ∙ ap (λ size. quote size parts) (λ i t. are.sizes t i)

-- of a program that is quoted `visits` visits, and whose parts a check holds
module _ (w : World) (most : ℕ) (parts : Parts) (facts : Facts) (are : AreFacts w facts)
    (visits : ℕ) (quoted : visits ≡ quote (size_of facts.sizes) parts) where
  abbrev later : Option (ℕ × Reason) → Option ℕ → Option admissible.Refusal
  later reason line = option_or (option_map admissible.Refused reason)
      (option_map admissible.BadShow line)

  pub too_costly : most < visits → first_refusal w most parts ≡ Some (admissible.TooCostly visits)
  too_costly over = grind (arith, same_quote, lt-leb)

  -- within the limit, the instructions decide, and then the report
  pub within : (held : Parts) → held ≡ parts → visits ≤ most
      → (reason : Option (ℕ × Reason)) (line : Option ℕ)
      → first_reason w held none_open at_first 1 held.body ≡ reason → shown_fault held ≡ line
      → first_refusal w most parts ≡ later reason line
  within held is cheap reason line first shown =
      grind (arith, same_quote, le-leb, first_standing, at_first)

  -- what a check tells of the instructions
  pub first_told : (held : Parts) → held ≡ parts → visits ≤ most → (refusal : Refusal)
      → IsFirst refusal (first_reason w held none_open at_first 1 held.body)
      → UnlessMemory told.OutOfMemory refusal (first_refusal w most parts ≡ refusal_view refusal)
  first_told held is cheap told.OutOfMemory first = inl refl
  first_told held is cheap (told.Refused at reason) first =
      inr (within held is cheap (Some (at, reason)) (shown_fault held) first refl)
  first_told held is cheap (told.TooCostly n) first = absurd first
  first_told held is cheap (told.BadShow position) first = absurd first
