-- The names of other crates and of specs/ that the proofs of this crate cite.
pub use Rattle.star_common.specs.{First.first_answer, Memory.UnlessMemory}
pub use Rattle.star_interval.{proofs.Ranges.{fits_i64_fits, range_same}, proofs.Sums.sum_ends, specs.Range.{FitsI64, Range, corner_range, fits_i64, hull, multiple_range, only}, specs.Interval.{bounds_of, range_of, wide_range_of}, specs.declared.Interval.Interval, specs.declared.Wide.Wide}
pub use Rattle.star_kinds.specs.Kinds.{Answers, register_kinds}
pub use Rattle.star_program.{proofs.Steps.{next_act, next_scan}, proofs.Unless.unless_none, specs.Code.{Code, Each, Stop, code_size, scan_depth}, specs.Faults.{Kinds, fault_of, group_at, target_fault, target_of, value_count}, specs.CodeOfSteps.{before, code_of_steps}, specs.Limits.{IsSmall, IsWithinLimits}, specs.Puts.masks, specs.ShowLines.shown_fault}
unfoldable pub use Rattle.star_program.specs.TrapTexts.{wrong_text}
pub use Rattle.star_program.specs.{Values.with_entry, World.{World, is_text}, declared.body.Step.Step, declared.body.Step.TheVariants.{Act, Scan}, declared.fault.Fault.Fault, declared.fault.Fault.TheVariants.{BadRegister, WrittenTwice}, declared.group.GroupKey.TheVariants.Number, declared.op.Op.Op, declared.op.Op.TheVariants.{Assign, Put}, declared.op.Operation.Operation, declared.program.Parts.Parts}
pub use Rattle.star_safety.{proofs.Forward.first_standing, proofs.Instructions.both_none, proofs.Nested.{body_nested, met_within, rest_nested}, specs.Contexts.{Context, after_op, after_scan, aggregate_in_group, at_end, at_first, in_scan, key_share, known_share, operation_known, put_share}, specs.MostRows.{all_key_shares, each_values, lists_of, most_report_rows, numbers_to, possible_values, range_width, rows_of_groupings}, specs.Admissible.{cost_refusal, first_refusal}}
unfoldable pub use Rattle.star_safety.specs.MostRows.{rows_of_grouping, width}
pub use Rattle.star_safety.specs.{Ranges.{KnownNumber, KnownRow, answer_known, joined_reach, kinds_known, loaded_known}, Private.Forward.{code_puts_to, first_reason, none_open, open_with}, Quote.{quote, turns_met}}
unfoldable pub use Rattle.star_safety.specs.ReasonTexts.{reason_text}
pub use Rattle.star_safety.specs.Refusals.{op_reason, overflow, overflow_of, range_reason, refuses, scan_reason, source_reason, target_again, with_bounds}
unfoldable pub use Rattle.star_safety.specs.Refusals.{reached}
pub use Rattle.star_safety.specs.{Tallies.{Share, hull_with, most_of, reach_of, read_range}, Standing.{at_position, instructions_of, reason_of}, declared.reason.Reached.Reached, declared.reason.Reason.Reason, declared.reason.Reason.TheVariants.{Faulty, NotAForeignKey, Overflow}}
pub use Rattle.star_schema.{proofs.Same.{at_index, column_same, index_within}, specs.Groups.is_grouping, specs.Schema.{index_of, kind_of, table_of}}
unfoldable pub use Rattle.star_schema.specs.Schema.{column_of}
pub use Rattle.star_schema.specs.{Sizes.size_of, declared.column.ColumnId.ColumnId, declared.column.ColumnId.TheVariants.{LoExtendedprice, LoTax}, declared.column.Kind.Kind, declared.column.TheConstants.COLUMNS, declared.group.Aggregate.Aggregate, declared.group.Aggregate.TheVariants.Sum, declared.group.Shape.Shape, declared.group.Shape.TheVariants.{Cube, Plain, Rollup}, declared.sizes.Sizes.Sizes, declared.table.TableId.TableId}
pub use Rattle.star_verify.specs.{Private.CheckResults.{AreFewAt, AreRecorded, AreStepsChecked, HasReason, InEachContext, IsFirst, IsPositionOf, IsSized, KeepsContext, scan_first}, Private.Kept.{HasKeyShares, HasShares, IsTallyGrown, flag_at, numbers_known}, Private.Rows.{AgreeUpTo, MayHide, grouping_goes_on, lesser, may_hide, may_show, rows_behind}, Facts.{AreBoundsBefore, AreFacts}, Private.Bounded.IsBounded, Private.Made.{IsMade, IsTallyAt, beyond_view}}
unfoldable pub use Rattle.star_verify.specs.Private.Rows.{groupings, rows_of_rest}
pub use Rattle.star_verify.specs.Private.{StepResults.{AreRemainingSteps, GivenSteps, after_step, step_first, step_size}, Views.{IsTally, kind_known, known_in, known_of, known_view, nothing_known, reach_view}}
unfoldable pub use Rattle.star_verify.specs.RefusalTexts.{refusal_text}
pub use Rattle.star_verify.specs.{Views.refusal_view, declared.facts.Facts.Facts, declared.instructions.Position.Position, declared.instructions.VerifierState.VerifierState, declared.known.Beyond.Beyond, declared.known.Known.Known, declared.refusal.Refusal.Refusal, declared.refusal.Refusal.TheVariants.{BadShow, Refused, TooCostly}, declared.register.Register.Register, declared.tally.Tally.Tally}
pub use Rattle.star_world.{proofs.TextBounds.text_bounds, specs.WorldOf.world_of}
pub use Rattle.std.proofs.{lemmas.Bool.{cases_lt, false≢true, le-leb, leb-false, lt-leb, ltb-false, ltb-true}, lemmas.List.{append-nil, append_assoc, drop_all, get_or-map, get_or-replicate, get_or-set_other, get_or-set_same, get_or_past, length-replicate, with_items_is}, lemmas.Nat.Bits.{bit_at-lt, bit_at-pow_other, bit_at-pow_same, bit_at-zero, bit_at_or, shr_and_one}, Math.Nat.{mod-eq_of_lt, mul-le-mul_left, mul_assoc, pow-le-pow_right}, Math.Pow.pow_mono, Math.Seq.drop-cons, lemmas.Bool.Decides.{Decides-eqb, Decides-ltb, eqb_tells}, lemmas.Int.ints, lemmas.List.Elements.{All-get_or, filter-append}, lemmas.List.Sums.{sum_by-append, sum_by-cons}, lemmas.Option.get_or_from_slice_get, lemmas.Result.err_from_is_err_and}
unfoldable pub use Rattle.std.specs.Fmt.{digits}
pub use Rattle.std.specs.{Prelude.{All, IfOk, IsOk, IsTrue, MatchResult, Result, codes, false, if◌then◌else◌, map, nat_eq, nat_le, nat_lt, neg_ℤ, negsuc, not, pos, replicate, slice_index_or, slice_set, unsigned_abs, ℤ, ◌&&◌, ◌*ℤ◌, ◌+ℤ◌, ◌-ℤ◌, ◌||◌, ◌↔◌, ◌≤ℤ◌}, Int.bit_at, Int.Bits.bit_or, List.{filter, list_all, sum_by}, Option.{is_none, option_map, option_or}, Vec.with_items}
