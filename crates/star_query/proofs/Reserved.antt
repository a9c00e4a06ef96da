-- A word is the reserved word that it spells, and no other.
use Rattle.std.proofs.Common.{◌≡◌, ◌↔◌, ℕ, List, Some, refl, sym, arith}
use Rattle.star_schema.{specs.Words.named, proofs.NamesApart.by_name}
use Rattle.star_query.specs.{declared.token.Word.Word, Symbols.{spelling, lowered}, Private.Cut.{reserved, reserved_words}}

-- each word is found by its spelling
by_spelling : (w : Word) → named spelling reserved_words (spelling w) ≡ Some w
unfolding spelling reserved_words
by_spelling it = grind arith

pub spelled_alone : (w : Word) (word : List ℕ)
    → (reserved word ≡ Some w) ↔ (lowered word ≡ spelling w)
unfolding reserved
spelled_alone w word =
    let law = by_name spelling reserved_words by_spelling (lowered word) (reserved word) refl w in
    (λ e. sym (law.0 e), λ e. law.1 (sym e))
