-- A report; and which cells may be in a printed column, at the ends of what is allowed and past
-- them.
use Rattle.std.{proofs.Common.{◌≡◌, ◌<◌, ◌^◌, [], ◌∷◌, true, false, codes, negsuc, pos, refl}, specs.Fmt.digits}
use Rattle.star_common.{proofs.Tables.Gives, specs.Quotes.quoted}
use Rattle.star_schema.specs.Tables as table
use Rattle.star_program.specs.declared.outcome.Cell.TheVariants.{Number, Text, All, Null}
use Rattle.star_report.specs.{Columns.{IsCellOfKind, IsFieldValue, NumberKey, TextKey, Total, is_field}, Report.{cell_text, is_ambiguous, line_text, report_text}}

-- a text that begins with a quote, the text ALL, the value ALL, and NULL
worked_report : report_text (codes "s_region" ∷ codes "n" ∷ [])
    ((Text (codes "'x") ∷ Number (pos 3) ∷ []) ∷ (Text (codes "ALL") ∷ Number (pos 2) ∷ [])
    ∷ (All ∷ Number (negsuc 4) ∷ []) ∷ (Text (codes "a'b") ∷ Null ∷ []) ∷ [])
    ≡ codes "s_region|n\n'''x'|3\n'ALL'|2\nALL|-5\na'b|NULL\n"
unfolding report_text line_text cell_text quoted digits
worked_report = refl

-- a bar and the two ends of lines part fields, the bytes beside them don't; and what could be read
-- as ALL, or as a text in quotes
fields : Gives is_field (
    (codes "a b", true) ∷ ([], true) ∷ (codes "a|b", false) ∷ (13 ∷ [], false) ∷ (10 ∷ [], false)
    ∷ (125 ∷ 123 ∷ 14 ∷ 12 ∷ 11 ∷ 9 ∷ [], true) ∷ [])
    × Gives is_ambiguous (
    (codes "ALL", true) ∷ (codes "'", true) ∷ (codes "'a", true) ∷ (codes "all", false)
    ∷ (codes "ALLY", false) ∷ (codes "AL", false) ∷ (codes "a'", false) ∷ ([], false) ∷ [])
fields = (refl, refl)

-- numbers of at most 64 digits; a key may be ALL, and a total NULL
cells : (IsCellOfKind NumberKey (Number (negsuc 4)) ≡ (5 < 10 ^ 64))
    × (IsCellOfKind Total (Number (pos 5)) ≡ (5 < 10 ^ 64))
    × (IsCellOfKind NumberKey All ≡ Unit {0}) × (IsCellOfKind NumberKey Null ≡ ⊥)
    × (IsCellOfKind NumberKey (Text (codes "1")) ≡ ⊥)
    × (IsCellOfKind TextKey (Text (codes "a|b")) ≡ (false ≡ true))
    × (IsCellOfKind TextKey All ≡ Unit {0}) × (IsCellOfKind TextKey (Number (pos 1)) ≡ ⊥)
    × (IsCellOfKind Total Null ≡ Unit {0}) × (IsCellOfKind Total All ≡ ⊥)
    × (IsFieldValue (table.Number (pos 1)) ≡ Unit {0})
    × (IsFieldValue (table.Text (codes "a|b")) ≡ (false ≡ true))
cells = (refl, refl, refl, refl, refl, refl, refl, refl, refl, refl, refl, refl)
