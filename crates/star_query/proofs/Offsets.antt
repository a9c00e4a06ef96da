-- The position of the remaining tokens.
use Rattle.std.proofs.Common.{◌≡◌, ℕ, ◌<◌, List, [], ◌∷◌, zero, suc, map, length, drop, get_or, ap, arith}
use Rattle.star_query.specs.{declared.token.Token.Token, Private.Lexed.placed, Derives.first_offset}

pub some_offset : (ts : List Token) (n end : ℕ) (t : Token) → n < length ts → t ≡ get_or ts n t
    → t.offset ≡ first_offset (drop n (map placed ts)) end
some_offset [] n end t below e = absurd (omega arith)
some_offset (u ∷ us) zero end t below e = ap (λ x. x.offset) e
some_offset (u ∷ us) (suc n) end t below e = some_offset us n end t (omega arith) e
