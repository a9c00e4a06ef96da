-- Tokens without a value.
use Rattle.std.specs.Prelude.{◌≡◌, Bool, true, false}
use Rattle.star_query.specs.{Symbols.Symbol, Private.Machine.is_long}

-- two are `==` exactly if they have one symbol, and no symbol is too long
pub record IsTerminal {A : Type 0} (eq : A → A → Bool) (symbol : A → Symbol) : Type 0 where
  pub same : (a b : A) → eq a b ≡ true → symbol a ≡ symbol b
  pub apart : (a b : A) → eq a b ≡ false → symbol a ≡ symbol b → ⊥
  pub short : (a : A) → is_long (symbol a) ≡ false
