-- Texts in quotes, byte by byte.
use Rattle.std.{specs.Prelude.if◌then◌else◌, specs.Option.option_map, proofs.Common.{◌≡◌, ◌≢◌, ◌==◌, ◌∷◌, [], ℕ, List, Option, Some, None, false, length, arith, refl}, proofs.lemmas.Bool.ne_eqb}
use Rattle.star_program.specs.{Private.Reading.closes, Text.Said.unquoted}

-- nothing goes on after what closes a text, or after its end
abbrev pub stops : List ℕ → Option (List ℕ)
stops quoted = if closes quoted then Some [] else None

pub empty_stops : (quoted : List ℕ) → length quoted ≡ 0 → unquoted quoted ≡ stops quoted
unfolding unquoted
empty_stops [] empty = refl
empty_stops (b ∷ quoted) empty = absurd (omega arith)

pub plain_byte : (b : ℕ) (rest : List ℕ) → b ≢ 39
    → unquoted (b ∷ rest) ≡ option_map (λ text. b ∷ text) (unquoted rest)
unfolding unquoted
plain_byte b [] other = let no : (b == 39) ≡ false = ne_eqb b 39 other in rw no refl
plain_byte b (c ∷ rest) other = let no : (b == 39) ≡ false = ne_eqb b 39 other in rw no refl

pub two_quotes : (after : List ℕ)
    → unquoted (39 ∷ 39 ∷ after) ≡ option_map (λ text. 39 ∷ text) (unquoted after)
unfolding unquoted
two_quotes after = refl

pub doubled_quote : (quoted : List ℕ) (b : ℕ) (rest : List ℕ) (c : ℕ) (after : List ℕ)
    → quoted ≡ b ∷ rest → rest ≡ c ∷ after → b ≡ 39 → c ≡ 39
    → unquoted quoted ≡ option_map (λ text. c ∷ text) (unquoted after)
doubled_quote quoted b rest c after is then_is first second =
    rw (is, then_is, first, second) (two_quotes after)

pub last_quote : (rest : List ℕ) → length rest ≡ 0 → unquoted (39 ∷ rest) ≡ stops (39 ∷ rest)
unfolding unquoted
last_quote [] empty = refl
last_quote (b ∷ rest) empty = absurd (omega arith)

pub closing_quote : (c : ℕ) (after : List ℕ) → c ≢ 39
    → unquoted (39 ∷ c ∷ after) ≡ stops (39 ∷ c ∷ after)
unfolding unquoted
closing_quote c after other = let no : (c == 39) ≡ false = ne_eqb c 39 other in rw no refl
