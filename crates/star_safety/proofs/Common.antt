-- The names of other crates and of specs/ that the proofs of this crate cite.
pub use Rattle.star_common.proofs.{Members.{at_each, contains_cases, contains_here, contains_later, contains_mapped, contains_none, from_contains_map, of_each}, Firsts.{all_without_answer, first_answer_none, or_none}, Tables.{Gives, Gives2, Gives3}}
unfoldable pub use Rattle.star_common.specs.First.{first_answer}
pub use Rattle.star_group.{proofs.GroupKeys.{key_decides, key_equiv}, proofs.Rooms.count_small, proofs.SmallNumbers.small_room, specs.BaseKeys.key_eq, specs.Stores.{AddUp, HasRoom, group_declared}}
unfoldable pub use Rattle.star_group.specs.Stores.{above_zero, below_zero}
pub use Rattle.star_interval.{proofs.Ranges.{holds_within, hull_within, range_same, within_hull_left, within_hull_right, within_trans}, proofs.Products.products_held, proofs.Sums.{differences_held, sum_ends, sums_held}, specs.Range.{FitsI128, FitsI64, Holds, IsOrdered, IsWithin, Range, corner_range, fits_i64, hull, multiple_range, only}, specs.Laws.KeepsValues}
unfoldable pub use Rattle.star_interval.specs.Range.{is_i128, is_i64}
pub use Rattle.star_program.{proofs.Sample.{great_prices, plain, program, sample, sizes}, proofs.Rows.length-rows, proofs.Unless.unless_none, specs.Code.{Code, Each, Stop, Then, code_size, scan_depth}, specs.Effects.{Effect, EndsTurn, GoesOn, State, Traps, Updates, act, answer_of, effect_of, empty_state, kinds_in, loaded, marked, result_trap, trap_of, unless_trap, update_of}, specs.Faults.{binary_fault, both_fault, fault_of, fits_key, group_at, is_number_kind, is_row_kind, is_row_of, keys_fault, kind_fault, numbers_fault, operand_fault, operands_fault, place_fault, target_fault, target_of, unless}, specs.Private.Doing.{does, keeps, puts, puts_update, sets, sets_answer, sets_found}, specs.Puts.{Update, aligned, leaves, masks, overflows, own_groups, some_leaves, total_over}, specs.Run.{End, Ended, EndsWith, Limited, Trapped, after, begin, bounded_run_of, follow, meaning, meaning_of, run_of, run_while, scans, turns, unless_unshown, visited}, specs.Values.{Registers, flag_read, key_read, no_registers, number_read, register_kind, row_read, with_entry}, specs.World.{IsLoaded, IsRowNumberOf, World, edge_of, is_column, is_text}, specs.declared.op.Operation.TheVariants.{Binary, Const, Edge, Find, Load, Not, Read, Within}, specs.declared.op.Operator.TheVariants.{Add, And, Equal, Less, LessOrEqual, Mul, Or, Sub}, specs.declared.value.Value.TheVariants.{Flag, Number, Place, Row, Text}, specs.Keys.key_value_cmp, specs.Limits.IsWithinLimits, specs.Outcome.{AreReportRows, IsOutcome, decoded_row, shown_cells}, specs.Reads.IsTaken, specs.ShowLines.shown_fault, specs.declared.fault.Fault.Fault, specs.declared.fault.Fault.TheVariants.{BadGroup, BadRegister, WrittenTwice, WrongKind}, specs.declared.fault.TrapKind.TrapKind, specs.declared.fault.TrapKind.TheVariants.Wrong, specs.declared.group.GroupDecl.GroupDecl, specs.declared.group.GroupKey.GroupKey, specs.declared.key.KeyValue.KeyValue, specs.declared.op.Op.Op, specs.declared.op.Op.TheVariants.{Assign, Keep, Put}, specs.declared.op.Operation.Operation, specs.declared.op.Operator.Operator, specs.declared.outcome.Outcome.Outcome, specs.declared.program.Parts.Parts, specs.declared.value.Value.Value}
pub use Rattle.star_safety.specs.{Admissible.{BadShow, IsAdmissible, Refusal, Refused, TooCostly, cost_refusal, first_refusal}, Contexts.{Context, after_op, after_scan, at_end, at_first, in_scan, is_target, key_share, known_share, learned, op_key_shares, op_shares, operation_known, put_known, put_share, result_known}, Laws.{EndsWithin, IsAccepted, SumsFit, TotalLies, TotalsLie}, Moments.{AtEveryMoment, HoldsFrom, IsMet, IsMetFrom, IsMoment, Moment, StandsIn, all_shares, behind, behind_scan, first_moment, in_turn, item_of, itself, moment, picked, sum_of}, MostRows.{all_key_shares, each_values, lists_of, most_report_rows, numbers_to, possible_values, range_width, rows_of_groupings}, Bounds.{AllNameI64, AreI64, NamesI64}, Fitting.{Agrees, FitsAt, FitsValue, FromColumn}, Meetings.IsMetWithinQuote}
unfoldable pub use Rattle.star_safety.specs.MostRows.{rows_of_grouping, width}
pub use Rattle.star_safety.specs.{Ranges.{AllKnown, Known, KnownFlag, KnownNumber, KnownPlace, KnownRow, KnownText, Reach, answer_known, joined_reach, kinds_known, known_arithmetic, known_kind, known_number, loaded_known, no_reach, origin_at, range_at, reach_at}, Refusals.{is_some_table, kind_reason, op_reason, overflow_of, range_reason, refers_to, refuses, scan_reason, source_reason, target_again, with_bounds}, Private.Forward.{code_puts_to, first_reason, none_open, open_with}, Private.Throughout.{HoldsThroughout, InEachTurn, Onward, Throughout}, Quote.{quote, turns_met}, ReasonTexts.others_text}
unfoldable pub use Rattle.star_safety.specs.Refusals.{reached}
pub use Rattle.star_safety.specs.{Standing.{Act, BodyEnd, CodeItem, Enclosing, Scan, Standing, at_position, has_scan, in_one_of, instructions_of, is_open, op_puts_to, puts_to, reason_among, reason_of, standing}, Tallies.{Share, Shares, aggregate_range, hull_of, hull_with, most_of, no_shares, reach_of, read_range, sum_range, widened}, Told.{IsTold, is_in_scope, is_instruction, item_key_shares, item_scope, key_shares_together, last_writer, rows_together, scope_of, shares_of, shares_together, standing_result, turns_of, writes_to}, declared.reason.Reached.Reached, declared.reason.Reason.Reason, declared.reason.Reason.TheVariants.{Faulty, NotAForeignKey, OpenGroup, Overflow}}
pub use Rattle.star_schema.{proofs.Same.{column_same, table_same}, specs.Groups.{GroupRow, IsGroup, IsMasked, aggregate, belongs, is_grouping, joined, joined_with, members, numbers_for, totals_of}, specs.Order.{key_cmp, row_cmp, sort_cmp, total_cmp, value_cmp}, specs.Schema.{references, table_of}}
unfoldable pub use Rattle.star_schema.specs.Schema.{column_of}
pub use Rattle.star_schema.specs.declared.{column.ColumnId.TheVariants.{CNation, CRegion, LoExtendedprice, LoQuantity, LoRevenue, LoTax}, column.ColumnId.ColumnId, column.TheConstants.COLUMNS, group.Aggregate.Aggregate, group.Aggregate.TheVariants.{Count, Max, Min, Sum}, group.Direction.Direction, group.Direction.TheVariants.{Ascending, Descending}, group.GroupColumn.GroupColumn, group.Shape.Shape, group.Shape.TheVariants.{Cube, Plain, Rollup}, group.SortKey.SortKey, table.TableId.TableId, table.TableId.TheVariants.{Date, Lineorder, Part, Supplier}}
pub use Rattle.std.{proofs.Math.Nat.{mul-le-mul_left, mul-le-mul_right, mul_assoc, one-le-pow, pow-le-pow_right, pow-succ'}, proofs.lemmas.Bool.{and_from, and_parts, and_right, eq-eqb, eqb-false, eqb-true, le-leb, le-ltb, leb-true, lt-ltb, ltb-false, ltb-true, ne_eqb, or_from, or_parts, or_right}, proofs.lemmas.List.Elements.{All-append, All-cons, All-nil, Contains-append_cases, Contains-append_left, Contains-append_right, filter-append}, proofs.Math.Bool.or-false, proofs.lemmas.Bool.Decides.Decides-ltb, proofs.lemmas.Cmp.{int_cmp_total, lists_total, nat_cmp_total}, proofs.lemmas.Int.{clamps, fits_signed_from_abs, ints, unsigned_abs-mul}, proofs.lemmas.List.{length-append, length-map, length-replicate}, proofs.lemmas.List.Folds.{Any-from_list_any, list_all_at, list_any-append, list_any_at}, proofs.lemmas.List.FromFn.{get_or-range_with_len, length-range_with_len}, proofs.lemmas.List.Sums.{fold-append, sum_by-append, sum_by-cons}, proofs.lemmas.Map.Made.length-le_from_is_member, proofs.lemmas.Map.Views.{Contains-from_any, list_any-from_Contains}, specs.List.{AllByRecursion, Contains, flat_map, last_or, list_all, list_any, range_with_len, sum_by}, specs.Cmp.Lexicographic.slice_cmp, specs.Fmt.{HasWritten, IsPlainFormatter}, specs.Int.{int_max, int_min, w128}}
unfoldable pub use Rattle.std.specs.List.{IsDistinct}
unfoldable pub use Rattle.std.specs.List.Sorted.{IsStrictlySortedBy}
pub use Rattle.std.specs.{Prelude.{All, FitsSigned, IfSome, List, None, [], cond, filter, if◌then◌else◌, map, nat_eq, nat_le, nat_lt, neg_ℤ, negsuc, not, pos, slice_get, slice_index_or, true, unsigned_abs, unwrap_or, ℕ, ℤ, ◌&&◌, ◌*ℤ◌, ◌+ℤ◌, ◌-ℤ◌, ◌||◌, ◌∷◌, ◌≤ℤ◌}, Option.{is_none, option_map, option_or}, Ordering.{is_lt, ordering_reverse, ordering_then}, declared.cmp.Ordering.Ordering, declared.cmp.Ordering.TheVariants.Greater}
