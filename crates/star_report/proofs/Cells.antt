-- What is printed of a cell tells which cell it is, among those of its column.
use Rattle.std.{proofs.Common.{◌≡◌, ◌<◌, ◌&&◌, ◌||◌, ℕ, Bool, true, false, IsTrue, not, List, [], ◌∷◌, ap, arith, codes, refl, subst, sym}, specs.Char.digit_value}
use Rattle.star_schema.specs.Records.{ends_line, is_bar}
use Rattle.star_program.specs.declared.outcome.Cell.{Cell}
use Rattle.star_program.specs.declared.outcome.Cell.TheVariants as cell
use Rattle.star_report.{specs.Columns.{ColumnKind, NumberKey, TextKey, Total, IsCellOfKind, is_field}, specs.Report.cell_text, proofs.Bytes.Lacks, proofs.Numbers.{number_lacks, number_no_all, number_no_null, number_same}, proofs.Quotes.{text_apart, text_lacks, text_same}}

both : (p q : Bool) → IsTrue (p && q) → IsTrue p × IsTrue q
both true true h = (h, h)
both true false h = absurd cc
both false q h = absurd cc

not_both : (p : Bool) → IsTrue p → IsTrue (not p) → ⊥
not_both true h k = absurd cc
not_both false h k = absurd cc

-- a byte that parts fields or lines
abbrev Parts : ℕ → Type 0
Parts b = IsTrue (is_bar b || ends_line b)

field_lacks : (b : ℕ) → Parts b → (text : List ℕ) → IsTrue (is_field text) → Lacks b text
field_lacks b parts [] h = tt
field_lacks b parts (x ∷ xs) h =
    let each = both (not (is_bar x || ends_line x)) (is_field xs) h in
    let P : ℕ → Type 0 = λ n. IsTrue (not (is_bar n || ends_line n)) in (
      λ e. not_both (is_bar b || ends_line b) parts (subst P e each.0),
      field_lacks b parts xs each.1,
    )

-- so does a cell: its words are fields, and such a byte is no digit
cell_lacks : (b : ℕ) → Parts b → (digit_value b < 10 → ⊥) → (kind : ColumnKind) (c : Cell)
    → IsCellOfKind kind c → Lacks b (cell_text c)
unfolding cell_text
cell_lacks b parts digit NumberKey (cell.Number n) h =
    number_lacks b n h digit (field_lacks b parts (codes "-") refl).0
cell_lacks b parts digit NumberKey cell.All h = field_lacks b parts (codes "ALL") refl
cell_lacks b parts digit TextKey (cell.Text text) h =
    text_lacks b text (field_lacks b parts (codes "'") refl).0 (field_lacks b parts text h)
cell_lacks b parts digit TextKey cell.All h = field_lacks b parts (codes "ALL") refl
cell_lacks b parts digit Total (cell.Number n) h =
    number_lacks b n h digit (field_lacks b parts (codes "-") refl).0
cell_lacks b parts digit Total cell.Null h = field_lacks b parts (codes "NULL") refl
cell_lacks b parts digit _ _ h = absurd h

pub cell_lacks_bar : (kind : ColumnKind) (c : Cell) → IsCellOfKind kind c → Lacks 124 (cell_text c)
cell_lacks_bar = cell_lacks 124 refl (λ h. absurd (omega arith))

pub cell_lacks_end : (kind : ColumnKind) (c : Cell) → IsCellOfKind kind c → Lacks 10 (cell_text c)
cell_lacks_end = cell_lacks 10 refl (λ h. absurd (omega arith))

pub cell_same : (kind : ColumnKind) (c d : Cell) → IsCellOfKind kind c → IsCellOfKind kind d
    → cell_text c ≡ cell_text d → c ≡ d
unfolding cell_text
cell_same NumberKey (cell.Number y) (cell.Number z) h k e = ap cell.Number (number_same y z h k e)
cell_same NumberKey (cell.Number y) cell.All h k e = absurd (number_no_all y h e)
cell_same NumberKey (cell.Number y) _ h k e = absurd k
cell_same NumberKey cell.All (cell.Number z) h k e = absurd (number_no_all z k (sym e))
cell_same NumberKey cell.All cell.All h k e = refl
cell_same NumberKey cell.All _ h k e = absurd k
cell_same NumberKey _ _ h k e = absurd h
cell_same TextKey (cell.Text a) (cell.Text b) h k e = ap cell.Text (text_same a b e)
cell_same TextKey (cell.Text a) cell.All h k e = absurd (text_apart a e)
cell_same TextKey (cell.Text a) _ h k e = absurd k
cell_same TextKey cell.All (cell.Text b) h k e = absurd (text_apart b (sym e))
cell_same TextKey cell.All cell.All h k e = refl
cell_same TextKey cell.All _ h k e = absurd k
cell_same TextKey _ _ h k e = absurd h
cell_same Total (cell.Number y) (cell.Number z) h k e = ap cell.Number (number_same y z h k e)
cell_same Total (cell.Number y) cell.Null h k e = absurd (number_no_null y h e)
cell_same Total (cell.Number y) _ h k e = absurd k
cell_same Total cell.Null (cell.Number z) h k e = absurd (number_no_null z k (sym e))
cell_same Total cell.Null cell.Null h k e = refl
cell_same Total cell.Null _ h k e = absurd k
cell_same Total _ _ h k e = absurd h
