-- What is wrong with an instruction, kind by kind, and in which order it is told.
use Rattle.std.{proofs.Common.{true, false, [], ◌∷◌, Option, Some, None, pos, refl}, specs.Prelude.{codes, slice_index_or}}
use Rattle.star_schema.specs.{declared.column.ColumnId.TheVariants.{CName, CRegion, DYear}, declared.group.Aggregate.TheVariants.{Count, Sum}, declared.group.Shape.TheVariants.Plain, declared.table.TableId.TheVariants.{Customer, Date}, Schema.column_of}
use Rattle.star_common.proofs.Tables.{Gives2, Gives3}
use Rattle.star_program.specs.declared.group.GroupKey.TheVariants as declared
use Rattle.star_program.specs.{declared.op.Edge.TheVariants.Low, declared.op.Op.Op, declared.op.Op.TheVariants.{Assign, Keep, Put}, declared.op.Operation.Operation, declared.program.Parts.Parts, declared.fault.Fault.Fault, declared.op.Operation.TheVariants.{Const, Edge, Load, Find, Binary, Within, Not, Read}, declared.op.Operator.TheVariants.{Add, Sub, Mul, Less, LessOrEqual, Equal, And, Or}, declared.fault.Fault.TheVariants.{BadRegister, Unset, WrongKind, BadColumn, BadGroup, Misplaced}, Code.Stop, Faults.{Kinds, fault_of}}
use Rattle.star_program.specs.declared.value.Kind.TheVariants as kind

-- seven registers, and a group by a number and a region that counts and sums
abbrev parts : Parts
parts = record {
  registers = 7;
  groups = record {
    shape = Plain;
    keys = declared.Number ∷ declared.Text CRegion ∷ [];
    aggregates = Count ∷ Sum ∷ [];
  } ∷ [];
  body = Stop;
  report = 0;
  shows = [];
  sorts = [];
}

-- in turn a number, a region, a truth value, a position among regions, a row of dates, a name and
-- nothing
abbrev kinds : Kinds
kinds r = slice_index_or
    (Some kind.Number ∷ Some (kind.Text CRegion) ∷ Some kind.Flag ∷ Some (kind.Place CRegion)
    ∷ Some (kind.Row Date) ∷ Some (kind.Text CName) ∷ []) r None

abbrev fault : Op → Option Fault
fault op = fault_of parts true None kinds op

abbrev to : Operation → Op
to o = Assign 6 o

abbrev wrong_kind : Option Fault
wrong_kind = Some WrongKind

-- of a put the group first, where a COUNT has no number, then the keys from the left, each a number
-- or a text of its own column and no position, and then the numbers
keeps_and_puts : Gives2 (λ inside op. fault_of parts inside None kinds op)
    ((false, Keep 2, Some Misplaced) ∷ (true, Keep 2, None) ∷ (true, Keep 0, wrong_kind)
    ∷ (true, Keep 1, wrong_kind) ∷ (true, Keep 4, wrong_kind) ∷ (true, Keep 6, Some Unset)
    ∷ (true, Keep 7, Some BadRegister) ∷ (true, Put 0 (0 ∷ 1 ∷ []) (0 ∷ []), None)
    ∷ (false, Put 0 (0 ∷ 1 ∷ []) (0 ∷ []), None) ∷ (true, Put 1 [] [], Some BadGroup)
    ∷ (true, Put 0 (0 ∷ []) (0 ∷ []), Some BadGroup)
    ∷ (true, Put 0 (0 ∷ 1 ∷ []) (0 ∷ 0 ∷ []), Some BadGroup)
    ∷ (true, Put 0 (0 ∷ 1 ∷ []) [], Some BadGroup) ∷ (true, Put 0 (1 ∷ 1 ∷ []) (0 ∷ []), wrong_kind)
    ∷ (true, Put 0 (0 ∷ 3 ∷ []) (0 ∷ []), wrong_kind)
    ∷ (true, Put 0 (0 ∷ 5 ∷ []) (0 ∷ []), wrong_kind)
    ∷ (true, Put 0 (0 ∷ 0 ∷ []) (0 ∷ []), wrong_kind)
    ∷ (true, Put 0 (0 ∷ 1 ∷ []) (1 ∷ []), wrong_kind)
    ∷ (true, Put 1 (7 ∷ []) (6 ∷ []), Some BadGroup)
    ∷ (true, Put 0 (7 ∷ 6 ∷ []) (6 ∷ []), Some BadRegister)
    ∷ (true, Put 0 (6 ∷ 7 ∷ []) (1 ∷ []), Some Unset)
    ∷ (true, Put 0 (0 ∷ 6 ∷ []) (7 ∷ []), Some Unset) ∷ [])
unfolding column_of
keeps_and_puts = refl

-- a target before the operands and after the group, and what else is wrong with it between the two
assignments : Gives2 (λ other op. fault_of parts true other kinds op) (
    (None, to (Read 0 0 (pos 0)), None) ∷ (None, to (Read 0 1 (pos 0)), None)
    ∷ (None, to (Read 0 2 (pos 0)), Some BadGroup) ∷ (None, to (Read 1 0 (pos 0)), Some BadGroup)
    ∷ (None, to (Const (pos 1)), None) ∷ (None, to (Edge Low CRegion (codes "ASIA")), None)
    ∷ (None, to (Edge Low DYear (codes "1997")), Some BadColumn)
    ∷ (None, to (Load DYear 4), None) ∷ (None, to (Load CName 4), Some BadColumn)
    ∷ (None, to (Load DYear 0), wrong_kind) ∷ (None, to (Load DYear 6), Some Unset)
    ∷ (None, to (Load CName 7), Some BadRegister)
    ∷ (None, to (Find Customer 0), None) ∷ (None, to (Find Customer 1), wrong_kind)
    ∷ (None, to (Find Customer 3), wrong_kind) ∷ (None, to (Find Customer 6), Some Unset)
    ∷ (None, to (Within 0 0 0), None) ∷ (None, to (Within 1 1 3), None)
    ∷ (None, to (Within 3 3 1), None) ∷ (None, to (Within 1 3 5), wrong_kind)
    ∷ (None, to (Within 1 5 3), wrong_kind) ∷ (None, to (Within 2 2 2), wrong_kind)
    ∷ (None, to (Within 6 7 1), Some Unset) ∷ (None, to (Within 0 6 7), Some Unset)
    ∷ (None, to (Within 0 0 7), Some BadRegister) ∷ (None, to (Within 0 1 7), wrong_kind)
    ∷ (None, to (Not 2), None) ∷ (None, to (Not 0), wrong_kind) ∷ (None, to (Not 6), Some Unset)
    ∷ (None, to (Not 7), Some BadRegister)
    ∷ (None, Assign 7 (Const (pos 1)), Some BadRegister)
    ∷ (None, Assign 7 (Not 6), Some BadRegister)
    ∷ (None, Assign 7 (Read 1 0 (pos 0)), Some BadGroup)
    ∷ (Some Misplaced, Assign 7 (Not 6), Some BadRegister)
    ∷ (Some Misplaced, Assign 6 (Not 6), Some Misplaced)
    ∷ [])
unfolding column_of
assignments = refl

-- numbers are added, truths joined; numbers compare, and texts and positions of one column in each
-- of the four ways; and the left operand's fault comes before the right one's
operators : Gives3 (λ o l r. fault_of parts true None kinds (to (Binary o l r)))
    ((Add, 0, 0, None) ∷ (Sub, 0, 0, None) ∷ (Mul, 0, 0, None) ∷ (Add, 2, 0, wrong_kind)
    ∷ (Sub, 2, 0, wrong_kind) ∷ (Mul, 2, 0, wrong_kind) ∷ (Add, 0, 1, wrong_kind)
    ∷ (Sub, 0, 1, wrong_kind) ∷ (Mul, 0, 1, wrong_kind) ∷ (And, 2, 2, None)
    ∷ (And, 0, 2, wrong_kind) ∷ (And, 2, 0, wrong_kind) ∷ (Or, 2, 2, None) ∷ (Or, 0, 2, wrong_kind)
    ∷ (Or, 2, 0, wrong_kind) ∷ (Less, 0, 0, None) ∷ (LessOrEqual, 0, 0, None) ∷ (Equal, 0, 0, None)
    ∷ (Less, 1, 1, None) ∷ (LessOrEqual, 1, 3, None) ∷ (Equal, 3, 1, None) ∷ (Less, 3, 3, None)
    ∷ (Less, 1, 5, wrong_kind) ∷ (Less, 3, 5, wrong_kind) ∷ (Less, 5, 3, wrong_kind)
    ∷ (Equal, 5, 1, wrong_kind) ∷ (Less, 0, 1, wrong_kind) ∷ (LessOrEqual, 1, 0, wrong_kind)
    ∷ (Equal, 2, 2, wrong_kind) ∷ (Equal, 4, 4, wrong_kind) ∷ (Add, 6, 7, Some Unset)
    ∷ (Add, 7, 6, Some BadRegister) ∷ (And, 6, 0, Some Unset) ∷ (Less, 6, 7, Some Unset)
    ∷ (Less, 2, 7, wrong_kind) ∷ [])
operators = refl
