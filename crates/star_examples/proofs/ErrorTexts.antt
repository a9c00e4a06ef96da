-- The number and the name of each error, as docs/FAULTS.md lists them.
use Rattle.std.{proofs.Common.{[], ◌∷◌, neg_ℤ, pos, refl}, specs.Prelude.codes, specs.Fmt.digits}
use Rattle.star_common.proofs.Tables.{Gives}
use Rattle.star_schema.specs.{declared.column.ColumnId.TheVariants.LoTax, declared.column.ColumnId.TheVariants.PSize, Schema.column_of}
use Rattle.star_query.specs.FaultTexts.{query_fault_text}
use Rattle.star_plan.specs.FaultTexts.{plan_fault_text}
use Rattle.star_program.specs.{Text.FaultTexts.text_fault_text, TrapTexts.kind_text, TrapTexts.wrong_text}
use Rattle.star_safety.specs.{ReasonTexts.{bounds_text, reason_text}, declared.reason.Reason.TheVariants.{Faulty, NotAForeignKey, OpenGroup, Overflow}}
use Rattle.star_query.specs.declared.fault.QueryFault.TheVariants as q
use Rattle.star_plan.specs.declared.fault.PlanFault.TheVariants as p
use Rattle.star_program.specs.declared.spelling.fault.TextFault.TheVariants as t
use Rattle.star_program.specs.declared.fault.Fault.TheVariants as f
use Rattle.star_program.specs.declared.fault.TrapKind.TheVariants as trap

of_queries : Gives query_fault_text (
    (q.OutOfMemory, codes "1 OutOfMemory") ∷ (q.TooLong, codes "20 TooLong")
    ∷ (q.BadCharacter 12, codes "21 BadCharacter at 12")
    ∷ (q.BadNumber 3, codes "22 BadNumber at 3")
    ∷ (q.OpenText 46, codes "23 OpenText at 46") ∷ (q.Unexpected 20, codes "24 Unexpected at 20")
    ∷ (q.TooDeep, codes "25 TooDeep") ∷ (q.TooMany, codes "26 TooMany") ∷ [])
    × Gives plan_fault_text (
    (p.OutOfMemory, codes "1 OutOfMemory") ∷ (p.UnknownName 7, codes "30 UnknownName at 7")
    ∷ (p.NoFactTable, codes "31 NoFactTable") ∷ (p.TableTwice 40, codes "32 TableTwice at 40")
    ∷ (p.TableNotNamed 7, codes "33 TableNotNamed at 7")
    ∷ (p.JoinMissing 32, codes "34 JoinMissing at 32")
    ∷ (p.JoinTwice 60, codes "35 JoinTwice at 60")
    ∷ (p.NotAKeyPair 43, codes "36 NotAKeyPair at 43")
    ∷ (p.WrongKind 44, codes "37 WrongKind at 44") ∷ (p.NotGrouped 7, codes "38 NotGrouped at 7")
    ∷ (p.DuplicateGroup 80, codes "39 DuplicateGroup at 80")
    ∷ (p.UnknownOrderKey 90, codes "40 UnknownOrderKey at 90")
    ∷ (p.DuplicateAlias 34, codes "41 DuplicateAlias at 34")
    ∷ (p.NoAggregate, codes "42 NoAggregate") ∷ [])
unfolding query_fault_text plan_fault_text digits
of_queries = (refl, refl)

of_programs : Gives text_fault_text (
    (t.OutOfMemory, codes "1 OutOfMemory") ∷ (t.BadHeader, codes "50 BadHeader")
    ∷ (t.BadLine 4, codes "51 BadLine line 4") ∷ (t.OpenScan, codes "52 OpenScan")
    ∷ (t.TooLarge 12, codes "53 TooLarge line 12") ∷ [])
    × Gives reason_text (
    (Faulty f.BadRegister, codes "60 BadRegister")
    ∷ (Faulty f.WrittenTwice, codes "61 WrittenTwice") ∷ (Faulty f.Unset, codes "62 Unset")
    ∷ (Faulty f.WrongKind, codes "63 WrongKind")
    ∷ (Faulty f.BadColumn, codes "64 BadColumn") ∷ (NotAForeignKey, codes "65 NotAForeignKey")
    ∷ (Faulty f.BadGroup, codes "66 BadGroup") ∷ (OpenGroup, codes "67 OpenGroup")
    ∷ (Faulty f.Misplaced, codes "68 Misplaced")
    ∷ (Overflow (pos 0) (pos 1) [], codes "69 Overflow") ∷ [])
    × Gives bounds_text (
    (NotAForeignKey, []) ∷ (Overflow (neg_ℤ (pos 2)) (pos 9) [], codes ": -2..9")
    ∷ (
      Overflow (pos 0) (pos 9) (record { column = PSize; low = pos 0; high = pos 3 }
          ∷ record { column = LoTax; low = pos 1; high = pos 4 } ∷ []),
      codes ": 0..9 from p_size 0..3, lo_tax 1..4",
    ) ∷ [])
    × Gives kind_text (
    (trap.Wrong f.Unset, codes "Unset") ∷ (trap.AbsentKey, codes "AbsentKey")
    ∷ (trap.Overflow, codes "Overflow") ∷ [])
unfolding text_fault_text reason_text wrong_text kind_text column_of digits
of_programs = (refl, refl, refl, refl)
