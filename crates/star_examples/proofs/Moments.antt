-- Moments that no run has, a look-up that is not refused, and ranges of what is not there.
use Rattle.std.proofs.Common.{◌≡◌, ◌<◌, ℕ, [], ◌∷◌, Some, None, ap, arith, pos, refl}
use Rattle.star_common.{specs.First.first_answer, proofs.Tables.Gives}
use Rattle.star_schema.specs.{declared.column.ColumnId.TheVariants.{CRegion, LoCustkey, LoTax}, declared.table.TableId.TableId, Schema.column_of, declared.table.TableId.TheVariants.{Customer, Date, Lineorder, Supplier}}
use Rattle.star_interval.specs.Range.{Range, is_i64, only}
use Rattle.star_program.{specs.Code.{Code, Each, Stop, Then}, specs.declared.program.Parts.Parts, proofs.Sample.{assign, counting, program, sample}, specs.declared.op.Operation.TheVariants.{Find, Load}}
use Rattle.star_safety.specs.{Admissible.{Refused, first_refusal}, declared.reason.Reason.TheVariants.NotAForeignKey, Moments.{IsMet, Moment, behind, behind_scan, first_moment, in_turn, itself, moment}, MostRows.{possible_values, range_width, width}, Ranges.{KnownFlag, known_number, range_at}}
use Rattle.star_program.specs.declared.group.GroupKey.TheVariants as key

-- ---- a scan into a register that is not declared has no turn, and nothing comes after it

abbrev undeclared : Parts
undeclared = program 1 [] 0 (Each Date 1 Stop Stop)

target : Code → ℕ
target (Each table r body rest) = r
target _ = 0

nothing_in_the_scan : (m : Moment) → IsMet sample undeclared m → m ≡ first_moment undeclared
unfolding target
nothing_in_the_scan m itself = refl
nothing_in_the_scan m (behind x op rest at before after s t earlier goes) =
    let was : moment x (Then op rest) at before s ≡ first_moment undeclared =
    nothing_in_the_scan (moment x (Then op rest) at before s) earlier in
    let code : Then op rest ≡ undeclared.body = ap (λ k. k.left) was in
    let bad : ⊥ = cc in absurd bad
nothing_in_the_scan m (in_turn x table r body rest at registers s t row earlier declared lt turn) =
    let was : moment x (Each table r body rest) at registers s ≡ first_moment undeclared =
    nothing_in_the_scan (moment x (Each table r body rest) at registers s) earlier in
    let into : r ≡ 1 = ap (λ k. target k.left) was in
    let below : r < 1 = declared in absurd (omega (arith, into, below))
nothing_in_the_scan m (behind_scan x table r body rest at registers s t earlier declared turned) =
    let was : moment x (Each table r body rest) at registers s ≡ first_moment undeclared =
    nothing_in_the_scan (moment x (Each table r body rest) at registers s) earlier in
    let into : r ≡ 1 = ap (λ k. target k.left) was in
    let below : r < 1 = declared in absurd (omega (arith, into, below))

-- ---- a row is found by a number that was loaded from a foreign key to its table

abbrev finding : TableId → Parts
finding table =
    counting (Each Lineorder 0 (assign 1 (Load LoCustkey 0) (assign 2 (Find table 1) Stop)) Stop)

found : Gives (λ table. first_refusal sample 5 (finding table))
    ((Customer, None) ∷ (Supplier, Some (Refused (3, NotAForeignKey))) ∷ [])
unfolding column_of first_answer is_i64
found = refl

-- ---- ranges and counts of what is not there: no number, an empty range, a column without texts

abbrev from_to : ℕ → ℕ → Range
from_to l h = record { low = pos l; high = pos h }

of_nothing : Gives range_width ((None, 0) ∷ (Some (from_to 2 7), 6) ∷ (Some (from_to 7 2), 0) ∷ [])
    × Gives (possible_values sample [])
    ((key.Text LoTax, 0) ∷ (key.Text CRegion, 1) ∷ (key.Number, 0) ∷ [])
    × Gives range_at ((None, only (pos 0)) ∷ (Some KnownFlag, only (pos 0))
    ∷ (Some (known_number (from_to 2 7)), from_to 2 7) ∷ [])
unfolding width column_of
of_nothing = (refl, refl, refl)
