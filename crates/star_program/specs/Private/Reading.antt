-- The result of reading a line's words.
use Rattle.std.specs.Prelude.{ℕ, ◌==◌, ◌&&◌, ◌≡◌, Bool, false, List, [], ◌∷◌, Option, Some, None, Result, MatchResult}
use Rattle.star_common.specs.Memory.{UnlessMemory}
use Rattle.star_program.specs.{Text.Lines.is_blank_line, declared.spelling.fault.LineFault.LineFault, declared.spelling.fault.LineFault.TheVariants.OutOfMemory, declared.spelling.fault.LineFault.TheVariants.Unreadable}

-- memory ran out, or there is nothing to read
abbrev pub IsMissed : {A : Type 0} → LineFault → Option A → Type 0
IsMissed fault expected = UnlessMemory OutOfMemory fault ((fault ≡ Unreadable) × (expected ≡ None))

-- the result is that of the words, unless memory ran out
abbrev pub Reads : {A : Type 0} → Result A LineFault → Option A → Type 0
Reads result expected =
    MatchResult result (λ x. expected ≡ Some x) (λ fault. IsMissed fault expected)

-- a quote that only spaces follow
abbrev pub closes : List ℕ → Bool
closes [] = false
closes (b ∷ rest) = (b == 39) && is_blank_line rest
