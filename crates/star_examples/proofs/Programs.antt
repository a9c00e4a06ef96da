-- Which programs are verified and may be run, the ranges of a report, and words.
use Rattle.std.{proofs.Common.{◌<◌, ◌^◌, ◌∷◌, ◌≡◌, ◌≤◌, Bool, None, Option, Some, [], arith, false, inl, inr, length, refl, subst, true, ℕ, ℤ}, specs.Prelude.{codes, pos}}
use Rattle.star_common.{specs.Quotes.quoted, specs.First.first_answer, specs.Memory.UnlessMemory, specs.Numerals.numeral_of, proofs.Tables.Gives}
use Rattle.star_schema.specs.{declared.group.Shape.TheVariants.Plain, Schema.kind_of, declared.column.ColumnId.ColumnId, declared.table.TableId.TableId, Database.Database, Database.rows_in, Columns.column_dictionary, declared.group.Aggregate.TheVariants.Sum, Loadable.IsSound}
use Rattle.star_program.specs.{Run.Limited, Run.Trapped, declared.fault.TrapKind.TheVariants.AbsentKey, declared.group.GroupDecl.GroupDecl, declared.program.Parts.Parts, Code.Stop, Code.Then, Limits.IsWithinLimits}
use Rattle.star_safety.specs.{Admissible.IsAdmissible, Admissible.Refused, declared.reason.Reason.TheVariants.Overflow, Quote.quote}
use Rattle.star_compile_laws.specs.Judged.{IsOverflow}
use Rattle.star_outcome.specs.{Sound.IsSoundValue, SoundKeys.AreSoundKeys, SoundKeys.IsSoundKey}
use Rattle.star_trial.specs.Trials.{IsFaultOfEnd}
use Rattle.star_verify.specs.Checked.{Checked, IsVerified}
use Rattle.star_run.specs.ShownRanges.{reported_range}
use Rattle.star_world.specs.WorldOf.{world_of}
use Rattle.star_machine.specs.Accepted.{IsAcceptedOver}
use Rattle.star_schema.specs.declared.column.Kind.TheVariants as kind
use Rattle.star_program.specs.declared.group.GroupKey.TheVariants as declared
use Rattle.star_program.specs.declared.key.KeyValue.TheVariants as key
use Rattle.star_trial.specs.declared.fault.TrialFault.TheVariants as fault
use Rattle.star_program.specs.declared.op.Op.TheVariants as op
use Rattle.star_program.specs.declared.op.Operation.TheVariants as operation
use Rattle.star_program.proofs.Sample as of_programs
use Rattle.star_program.specs.declared.value.Value.TheVariants as value

-- ---- what is verified and accepted: no more visits than any run may make

module _ (c : Checked) where
  not_one_more : quote (world_of c.database).size c.program ≡ 1000000000000001 → IsVerified c → ⊥
  not_one_more e is = let over : 1000000000000001 ≤ 10 ^ 15 =
      subst (λ n. n ≤ 10 ^ 15) e is.cheap in absurd (omega (arith, over))

accepted : (d : Database) (parts : Parts) → IsAcceptedOver d parts → IsSound d
    × IsWithinLimits parts × IsAdmissible (world_of d) parts
    × (quote (world_of d).size parts ≤ 10 ^ 15)
accepted d parts a = (a.sound, a.limits, a.admissible, a.cheap)

-- ---- the ranges of a report: 2 and 3 are put into the second of two groups, which is reported; a
-- put may never happen, so a sum's range has 0 in it

abbrev sums : GroupDecl
sums = record { shape = Plain; keys = []; aggregates = Sum ∷ Sum ∷ [] }

abbrev two_sums : Parts
two_sums = record {
  registers = 2;
  groups = sums ∷ sums ∷ [];
  body = Then (op.Assign 0 (operation.Const (pos 2)))
      (Then (op.Assign 1 (operation.Const (pos 3))) (Then (op.Put 1 [] (0 ∷ 1 ∷ [])) Stop));
  report = 1;
  shows = [];
  sorts = [];
}

reported_ranges : Gives (reported_range of_programs.sample two_sums)
    ((0, Some (record { low = pos 0; high = pos 2 }))
    ∷ (1, Some (record { low = pos 0; high = pos 3 }))
    ∷ [])
reported_ranges = refl

-- ---- values and keys that are of the tables

module _ (d : Database) (t : TableId) (c : ColumnId) (n : ℕ) (z : ℤ) where
  values : (IsSoundValue d (value.Row t n) ≡ (n < length (rows_in d t)))
      × (IsSoundValue d (value.Text c n)
      ≡ ((kind_of c ≡ kind.Text) × (n < length (column_dictionary d c))))
      × (IsSoundKey d (declared.Text c) (key.Code n)
      ≡ ((kind_of c ≡ kind.Text) × (n < length (column_dictionary d c))))
      × (AreSoundKeys d (declared.Number ∷ declared.Number ∷ []) (key.Number z ∷ key.Number z ∷ [])
      ≡ (Unit {0} × (Unit {0} × Unit {0})))
      × (AreSoundKeys d (declared.Number ∷ declared.Number ∷ []) (key.Code 0 ∷ key.Number z ∷ [])
      ≡ (⊥ × (Unit {0} × Unit {0})))
      × (AreSoundKeys d (declared.Number ∷ declared.Number ∷ []) (key.Number z ∷ key.Code 0 ∷ [])
      ≡ (Unit {0} × (⊥ × Unit {0})))
  values = (refl, refl, refl, refl, refl, refl)

ends_of_trials : IsFaultOfEnd (Trapped 3 AbsentKey) (fault.Trap 3 AbsentKey)
    × (IsFaultOfEnd (Trapped 3 AbsentKey) fault.Limit → ⊥)
    × (IsFaultOfEnd Limited (fault.Trap 3 AbsentKey) → ⊥)
ends_of_trials = (refl, λ is. absurd (cc is), λ is. absurd (cc is))

a_wide_range : IsOverflow (Some (Refused (7, Overflow (pos 1) (pos 2) [])))
a_wide_range = (7, pos 1, pos 2, [], refl)

-- ---- words

-- one digit and as many as are allowed, and one fewer and one more; zeros in front, and a letter
small_words : Gives (numeral_of 3) (
    ([], None) ∷ (codes "7", Some 7) ∷ (codes "007", Some 7) ∷ (codes "120", Some 120)
    ∷ (codes "1200", None) ∷ (codes "12x", None) ∷ (codes "-12", None) ∷ [])
    × Gives quoted (
    (codes "it's", codes "'it''s'") ∷ (codes "''", codes "''''''") ∷ (codes "(", codes "'('")
    ∷ ([], codes "''") ∷ [])
    × Gives (first_answer (λ (o : Option ℕ). o)) (
    ([], None) ∷ (None ∷ Some 1 ∷ Some 2 ∷ [], Some 1) ∷ (Some 3 ∷ None ∷ [], Some 3)
    ∷ (None ∷ [], None) ∷ [])
    × UnlessMemory {F = Bool} false false (true ≡ false)
    × UnlessMemory {F = Bool} false true (true ≡ true)
unfolding quoted first_answer
small_words = (refl, refl, refl, inl refl, inr refl)
