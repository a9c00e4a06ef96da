-- How many cells a record has, and its fault.
use Rattle.std.proofs.{Common.{◌≡◌, ◌==◌, ℕ, List, Bool, true, false, Some, length, refl}, lemmas.Bool.{eq-eqb, eqb-true}}
use Rattle.star_schema.specs.{declared.column.Kind.Kind, Tables.cells_of}
use Rattle.star_reader.specs.Faults.{cells_fault, record_fault}
use Rattle.star_reader.specs.declared.fault.ReadFault.TheVariants as fault

pub wrong_count : (ks : List Kind) (at_row : ℕ) (fields : List (List ℕ))
    → (length (cells_of (length ks) fields) ≡ length ks → ⊥)
    → record_fault ks at_row fields ≡ Some (fault.FieldCount at_row)
unfolding record_fault
wrong_count ks at_row fields other = go (length (cells_of (length ks) fields) == length ks) refl
  where
    go : (b : Bool) → (length (cells_of (length ks) fields) == length ks) ≡ b
        → record_fault ks at_row fields ≡ Some (fault.FieldCount at_row)
    go true e = absurd (other (eqb-true _ _ e))
    go false e = rw e refl

pub right_count : (ks : List Kind) (at_row : ℕ) (fields : List (List ℕ))
    → length (cells_of (length ks) fields) ≡ length ks
    → record_fault ks at_row fields ≡ cells_fault at_row 1 ks (cells_of (length ks) fields)
unfolding record_fault
right_count ks at_row fields same =
    let test : (length (cells_of (length ks) fields) == length ks) ≡ true = eq-eqb _ _ same in
    rw test refl
