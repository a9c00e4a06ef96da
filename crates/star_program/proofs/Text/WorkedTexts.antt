-- A program of every statement and instruction and its text; words, numbers and lines; and the
-- first fault of small texts.
use Rattle.std.{proofs.Common.{◌≡◌, ℕ, List, [], ◌∷◌, Some, None, codes, refl, true, false, pos, negsuc}, specs.Prelude.{◌++◌, map, replicate}, specs.Fmt.digits}
use Rattle.star_common.{proofs.Tables.Gives, specs.Quotes.quoted}
use Rattle.star_schema.specs.{Schema.table_name, Words.{aggregate_name, direction_name, shape_name}, declared.column.ColumnId.TheVariants.{CRegion, LoQuantity}, declared.group.Aggregate.TheVariants.{Count, Max, Min, Sum}, declared.group.Direction.TheVariants.{Ascending, Descending}, declared.group.Shape.TheVariants.{Cube, Plain, Rollup}, declared.table.TableId.TheVariants.{Customer, Lineorder}}
use Rattle.star_schema.specs.Schema as schema
use Rattle.star_schema.specs.declared.group.GroupColumn.TheVariants as column
use Rattle.star_program.specs.declared.group.GroupKey.TheVariants as key
use Rattle.star_program.specs.{declared.op.Edge.TheVariants.{High, Low}, declared.op.Op.TheVariants.{Assign, Keep, Put}, declared.op.Operation.Operation, declared.program.Parts.Parts, declared.spelling.fault.TextFault.TheVariants.{BadHeader, BadLine, OpenScan, TooLarge}, declared.op.Operation.TheVariants.{Binary, Const, Edge, Find, Load, Not, Read, Within}, declared.op.Operator.TheVariants.{Add, And, Equal, Less, LessOrEqual, Mul, Or, Sub}, Code.{Code, Each, Stop, Then, code_size, scan_depth}, Text.Keywords.{aggregate_of_word, column_of_word, direction_of, keyword_name, keyword_of, mnemonic_name, mnemonic_of, shape_of_word, table_of_word}, Text.Lines.{is_blank_line, lines_of, pieces_of, words_of}, Text.Numerals.{constant_of, count_of, is_show_name, register_of}, Text.Spelling.program_statements, Text.Statements.lines_of_code, Text.FirstFaults.{advance, is_small, is_within, lines_fault, state_after, program_text_fault, start}, Text.Said.{by_keyword, by_words, group_column_of, group_key_of, operation_of, said, unquoted}, Text.Written.{assigned_text, written_column, group_text, key_text, written_line, op_text, register_text, show_text, sort_text, target_text, program_text}}
use Rattle.star_program.specs.declared.spelling.statement.Statement.TheVariants as says

-- ---- a program of all there is

abbrev to : ℕ → Operation → Code → Code
to t o rest = Then (Assign t o) rest

abbrev inner : Code
inner = to 2 (Binary Add 1 0)
    (to 3 (Binary Sub 1 0) (to 4 (Binary Mul 1 0)
    (to 5 (Binary Less 1 0) (to 6 (Binary LessOrEqual 1 0)
    (to 7 (Binary Equal 1 0)
    (to 8 (Binary And 5 6) (to 9 (Binary Or 5 6) (Then (Keep 9) Stop))))))))

abbrev outer : Code
outer = to 10 (Load LoQuantity 0)
    (to 11 (Find Customer 10)
    (to 12 (Within 10 11 1) (to 13 (Not 12)
    (Then (Put 0 (10 ∷ 11 ∷ []) (10 ∷ 1 ∷ 2 ∷ [])) (Each Customer 14 inner Stop)))))

abbrev whole : Parts
whole = record {
  registers = 15;
  groups =
      record {
        shape = Cube;
        keys = key.Number ∷ key.Text CRegion ∷ [];
        aggregates = Sum ∷ Count ∷ Min ∷ Max ∷ [];
      }
      ∷ record { shape = Plain; keys = []; aggregates = Count ∷ [] }
      ∷ record {
        shape = Rollup;
        keys = key.Number ∷ key.Text CRegion ∷ [];
        aggregates = Sum ∷ Count ∷ [];
      } ∷ [];
  body = to 1 (Const (negsuc 4))
      (Each Lineorder 0 outer (to 1 (Edge Low CRegion (codes "a'b"))
      (to 1 (Edge High CRegion []) (to 1 (Read 1 0 (pos 7)) Stop))));
  report = 0;
  shows = record { name = codes "a_1"; column = column.Key 1 }
      ∷ record { name = codes "b"; column = column.Aggregate 2 } ∷ [];
  sorts = record { column = column.Aggregate 0; direction = Descending }
      ∷ record { column = column.Key 0; direction = Ascending } ∷ [];
}

abbrev whole_text : List ℕ
whole_text =
    codes
    "star program 1\nregisters 15\ngroup 0 cube number c_region : sum count min max\ngroup 1 plain : count\ngroup 2 rollup number c_region : sum count\nr1 = const -5\nscan lineorder r0\n  r10 = load lo_quantity r0\n  r11 = find customer r10\n  r12 = within r10 r11 r1\n  r13 = not r12\n  put 0 r10 r11 : r10 r1 r2\n  scan customer r14\n    r2 = add r1 r0\n    r3 = sub r1 r0\n    r4 = mul r1 r0\n    r5 = lt r1 r0\n    r6 = le r1 r0\n    r7 = eq r1 r0\n    r8 = and r5 r6\n    r9 = or r5 r6\n    keep r9\n  end\nend\nr1 = low c_region 'a''b'\nr1 = high c_region ''\nr1 = read 1 0 7\nreport 0\nshow a_1 key 1\nshow b aggregate 2\nsort aggregate 0 descending\nsort key 0 ascending\n"

is_written : program_text whole ≡ whole_text
unfolding quoted program_text written_line lines_of_code digits group_text key_text shape_name
    aggregate_name op_text assigned_text target_text mnemonic_name register_text written_column
    show_text sort_text direction_name table_name schema.column_of
is_written = refl

is_said : map said (lines_of whole_text) ≡ map Some (program_statements whole)
unfolding said by_words by_keyword lines_of lines_of_code words_of pieces_of keyword_of keyword_name
    count_of register_of constant_of is_show_name shape_of_word shape_name aggregate_of_word
    aggregate_name group_key_of
    column_of_word table_of_word table_name mnemonic_of mnemonic_name operation_of unquoted
    group_column_of direction_of direction_name schema.column_of
is_said = refl

-- the depth is that of the deepest scan, wherever it stands
sizes : (code_size whole.body ≡ 20) × Gives scan_depth (
    (whole.body, 2) ∷ (Stop, 0)
    ∷ (Each Customer 0 (Each Customer 1 Stop Stop) (Each Customer 0 Stop Stop), 2)
    ∷ (Each Customer 0 Stop (Each Customer 0 (Each Customer 1 Stop Stop) Stop), 2) ∷ [])
sizes = (refl, refl)

-- ---- numbers, names, words and quotes

numbers : Gives count_of
    ((codes "0", Some 0) ∷ (codes "9999", Some 9999) ∷ (codes "00009", None) ∷ (codes "-1", None)
    ∷ ([], None) ∷ [])
    × Gives register_of
    ((codes "r7", Some 7) ∷ (codes "r9999", Some 9999) ∷ (codes "r00007", None)
    ∷ (codes "s7", None) ∷ (codes "7", None) ∷ (codes "r", None) ∷ [])
    × Gives constant_of (
    (codes "9223372036854775807", Some (pos 9223372036854775807))
    ∷ (codes "9223372036854775808", None)
    ∷ (codes "-9223372036854775808", Some (negsuc 9223372036854775807))
    ∷ (codes "-9223372036854775809", None) ∷ (codes "00000000000000000001", None)
    ∷ (codes "--1", None) ∷ [])
    × Gives is_show_name
    ((codes "aZ_9", true) ∷ ([], false) ∷ (replicate 64 97, true) ∷ (replicate 65 97, false)
    ∷ (codes "a-b", false) ∷ (codes "a`", false) ∷ [])
unfolding count_of register_of constant_of is_show_name
numbers = (refl, refl, refl, refl)

-- a lone carriage return ends no line, nor does one that is the last byte, and a line feed at the
-- end begins none
texts : Gives lines_of (
    (codes "a\r\n\n b", codes "a" ∷ [] ∷ codes " b" ∷ []) ∷ (codes "a\n", codes "a" ∷ [])
    ∷ (97 ∷ 13 ∷ 98 ∷ 13 ∷ 10 ∷ 99 ∷ 11 ∷ [], (97 ∷ 13 ∷ 98 ∷ []) ∷ (99 ∷ 11 ∷ []) ∷ [])
    ∷ (97 ∷ 13 ∷ [], (97 ∷ 13 ∷ []) ∷ []) ∷ [])
    × (words_of (codes "  a  b 'c  d") ≡ codes "a" ∷ codes "b" ∷ codes "'c  d" ∷ [])
    × Gives is_blank_line (([], true) ∷ (codes "  ", true) ∷ (codes " a ", false) ∷ [])
    × Gives unquoted
    ((codes "a''b'  ", Some (codes "a'b")) ∷ (codes "a'b", None) ∷ (codes "a", None)
    ∷ (codes "''", None) ∷ (codes "'''", Some (codes "'")) ∷ [])
unfolding lines_of words_of pieces_of unquoted
texts = (refl, refl, refl, refl)

-- ---- lines that say something, and nothing: a number has four digits at most, and a tab is no
-- space

keep_said : said (codes " keep  r07 ") ≡ Some (says.Act (Keep 7))
unfolding said by_words by_keyword words_of pieces_of keyword_of keyword_name register_of count_of
keep_said = refl

says_nothing : map said
    (codes "star program" ∷ codes "star programs 1" ∷ codes "registers" ∷ codes "registers 1 2"
    ∷ codes "report 00001" ∷ codes "report\t1" ∷ codes "group 0 plain count"
    ∷ codes "group 0 plane : count" ∷ codes "group 0 rollups : count"
    ∷ codes "group 0 plain d_year : count" ∷ codes "group 0 plain : mean" ∷ codes "r1 const 1"
    ∷ codes "r1 = constant 1" ∷ codes "r1 = add r1" ∷ codes "r1 = add r1 r2 r3" ∷ codes "r1 ="
    ∷ codes "r1" ∷ codes "keep r1 r2" ∷ codes "put 0" ∷ codes "end r0" ∷ codes "show a key"
    ∷ codes "show a keys 0" ∷ codes "sort key 0" ∷ codes "sort key 0 up" ∷ [])
    ≡ replicate 24 None
unfolding said by_words by_keyword words_of pieces_of keyword_of keyword_name count_of register_of
    constant_of is_show_name shape_of_word shape_name aggregate_of_word aggregate_name group_key_of
    column_of_word
    mnemonic_of mnemonic_name operation_of group_column_of direction_of direction_name
    schema.column_of
says_nothing = refl

-- ---- the first fault of a text

abbrev header : List ℕ → List ℕ
header text = codes "star program 1\n" ++ text

abbrev after_all : List ℕ → List ℕ
after_all text = codes "star program 1\nregisters 4096\n" ++ text

-- a program of nothing, which reports a group that isn't there
abbrev shortest : List ℕ
shortest = program_text
    (record { registers = 0; groups = []; body = Stop; report = 0; shows = []; sorts = [] })

-- blank lines count, and say nothing; a report in an open scan is no bad line, even if it is no
-- report; a line that may not be there is bad, however large, and one that passes a limit comes
-- before what follows it and what is missing
first_faults : Gives program_text_fault (
    (whole_text, None)
    ∷ (shortest, None)
    ∷ ([], Some BadHeader)
    ∷ (codes "star program 2\n", Some BadHeader)
    ∷ (codes "\n  \n", Some BadHeader)
    ∷ (header (codes "\nregisters\n"), Some (BadLine 3))
    ∷ (header (codes "registers 1\n"), Some (BadLine 3))
    ∷ (header (codes "registers 1\nscan date r0\n"), Some OpenScan)
    ∷ (header (codes "registers 1\nscan date r0\nreport now\n"), Some OpenScan)
    ∷ (header (codes "registers 4097\nreport 0\n"), Some (TooLarge 2))
    ∷ (header (codes "registers 1\nregisters 4097\n"), Some (BadLine 3))
    ∷ (header (codes "registers 4097\nnothing\n"), Some (TooLarge 2))
    ∷ (after_all (codes "registers 1\n"), Some (BadLine 3))
    ∷ (after_all (codes "group 1 plain : count\n"), Some (BadLine 3))
    ∷ (after_all (codes "end\n"), Some (BadLine 3))
    ∷ (after_all (codes "report 0\nkeep r0\n"), Some (BadLine 4))
    ∷ (
      after_all (codes "report 0\nshow a key 0\nsort key 0 ascending\nshow a key 0\n"),
      Some (BadLine 6),
    )
    ∷ (after_all (codes "keep r0\ngroup 0 plain : count\n"), Some (BadLine 4))
    ∷ (after_all (codes "scan customer r0\nend\n"), Some (BadLine 5))
    ∷ (
      after_all (codes "scan part r0\nscan part r0\nscan part r0\nscan part r0\n"),
      Some (TooLarge 6),
    )
    ∷ (
      after_all
          (codes "group 0 plain number number number number number number number : count\n"),
      Some (TooLarge 3),
    )
    ∷ (after_all (codes "group 0 plain : sum sum sum sum sum sum sum sum sum\n"), Some (TooLarge 3))
    ∷ [])
unfolding program_text_fault lines_fault start advance state_after is_within is_small said by_words
    by_keyword lines_of lines_of_code words_of pieces_of keyword_of keyword_name count_of
    register_of constant_of is_show_name shape_of_word shape_name aggregate_of_word aggregate_name
    group_key_of column_of_word
    table_of_word table_name mnemonic_of mnemonic_name operation_of unquoted group_column_of
    direction_of direction_name schema.column_of program_text written_line digits
first_faults = refl
