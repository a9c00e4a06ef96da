-- How texts are cut into tokens, and a query's first fault, by computation.
use Rattle.std.{proofs.Common.{ℕ, [], ◌∷◌, ◌++◌, Ok, Err, refl}, specs.Prelude.codes}
use Rattle.star_common.proofs.Tables.{Gives}
use Rattle.star_query.{specs.declared.fault.Fault.TheVariants.Unexpected, specs.declared.fault.QueryFault.TheVariants.{BadCharacter, BadNumber, OpenText}, specs.declared.token.Additive.TheVariants.{Plus, Minus}, specs.declared.token.Keyword.TheVariants.{Select, From, Rollup}, specs.declared.token.Relation.TheVariants.{Equal, Unequal, Less, AtMost, Greater, AtLeast}, specs.declared.token.Sign.TheVariants.{Comma, Open, Close, Star, Semicolon}, specs.Symbols.{Symbol, Placed, spelling, keyword, count, additive, relation, sign, name, number, text}, specs.Private.Cut.{cut_of, cut_from, reserved, reserved_words}, specs.Derives.FirstQueryFault, proofs.Verdicts.first_fault}

-- a symbol, and where its token begins
abbrev at : ℕ → Symbol → Placed
at offset x = record { symbol = x; offset = offset }

-- texts: a doubled quote closes nothing; from the space to the tilde, and what is next to them; an
-- open text is met at the end of all, a byte that may not be in it before. Numbers of 18 digits,
-- and no letter after one. Signs, the longest that fit. Words: white space is the space, the tab,
-- the carriage return and the line feed
tokens : Gives cut_of (
    (codes "'a' 'b'", Ok (at 0 (text (codes "a")) ∷ at 4 (text (codes "b")) ∷ []))
    ∷ (codes "'a''b'", Ok (at 0 (text (codes "a'b")) ∷ []))
    ∷ (codes "'' ''''", Ok (at 0 (text []) ∷ at 3 (text (codes "'")) ∷ []))
    ∷ (codes "'a''", Err (OpenText 0))
    ∷ (39 ∷ 32 ∷ 126 ∷ 39 ∷ [], Ok (at 0 (text (32 ∷ 126 ∷ [])) ∷ []))
    ∷ (39 ∷ 97 ∷ 31 ∷ 39 ∷ [], Err (BadCharacter 2))
    ∷ (39 ∷ 97 ∷ 127 ∷ 39 ∷ [], Err (BadCharacter 2))
    ∷ (codes "x 'a" ++ 10 ∷ 98 ∷ [], Err (BadCharacter 4))
    ∷ (
      codes "999999999999999999,000000000000000007",
      Ok (at 0 (number 999999999999999999) ∷ at 18 (sign Comma) ∷ at 19 (number 7) ∷ []),
    )
    ∷ (codes "<0000000000000000007", Err (BadNumber 1))
    ∷ (codes "select sum(1x)", Err (BadNumber 11)) ∷ (codes "12_", Err (BadNumber 0))
    ∷ (
      codes ",()*+-;",
      Ok (at 0 (sign Comma) ∷ at 1 (sign Open) ∷ at 2 (sign Close) ∷ at 3 (sign Star)
          ∷ at 4 (additive Plus) ∷ at 5 (additive Minus) ∷ at 6 (sign Semicolon) ∷ []),
    )
    ∷ (
      codes "=<> < <=> >=",
      Ok (at 0 (relation Equal) ∷ at 1 (relation Unequal) ∷ at 4 (relation Less)
          ∷ at 6 (relation AtMost) ∷ at 8 (relation Greater) ∷ at 10 (relation AtLeast) ∷ []),
    )
    ∷ (codes "><", Ok (at 0 (relation Greater) ∷ at 1 (relation Less) ∷ []))
    ∷ (codes "a!=b", Err (BadCharacter 1))
    ∷ (
      codes "SeLeCt" ++ 9 ∷ codes "_A1" ++ 13 ∷ 10 ∷ codes "fRom" ++ 32 ∷ codes "from_",
      Ok (at 0 (keyword Select) ∷ at 7 (name (codes "_a1") 7) ∷ at 12 (keyword From)
          ∷ at 17 (name (codes "from_") 17) ∷ []),
    )
    ∷ (11 ∷ [], Err (BadCharacter 0))
    ∷ (codes "Rollup rollups", Ok (at 0 (keyword Rollup) ∷ at 7 (name (codes "rollups") 7) ∷ []))
    ∷ [])
unfolding cut_from reserved reserved_words spelling
tokens = refl

-- select count(*) from
nothing_after_from : FirstQueryFault (keyword Select ∷ count 7 ∷ sign Open ∷ sign Star ∷ sign Close
    ∷ keyword From ∷ []) Unexpected []
nothing_after_from = first_fault _ Unexpected [] refl
