-- The names of other crates and of specs/ that the proofs of this crate cite.
pub use Rattle.star_catalogue.specs.ReferredRows.{AreReferredRows}
pub use Rattle.star_column.{proofs.BitLists.{and_masks, or_masks, xor_masks}, specs.Masks.{lies, lies_unsigned, mask_of}}
unfoldable pub use Rattle.star_column.specs.Masks.{narrowed}
pub use Rattle.star_common.proofs.{Firsts.first_answer_none, Firsts.or_none, Members.from_contains_map, Members.map_agree}
pub use Rattle.star_group.{proofs.Contents.{if_ok, on_ok}, specs.ArrayStores.{Has, group_view}, specs.Batches.{HasRoomForRows, IsPutBatch, batch_keys, put_in}, specs.Stores.{HasRoom, group_declared}, specs.declared.array_store.ArrayStore.ArrayStore, specs.declared.batch.PutBatch.PutBatch}
pub use Rattle.star_interval.specs.Range.{is_i64}
pub use Rattle.star_outcome.{proofs.Fine.{is_declared, is_placed, is_readable, row_within, sound_keys, sound_update}, proofs.Registers.sound_set, proofs.Stored.{of_same, store_changed, with_put}, specs.Done.{AreSoundUpdates, AreStores, HasDone, IsStoreOf}, specs.Private.Placed.IsPutPlaced, specs.Sound.{AreSound, IsSoundEntry, IsSoundValue}, specs.Yields.Yields, specs.declared.flow.Flow.Flow, specs.declared.work.Work.Work}
pub use Rattle.star_program.{proofs.Steps.{next_act, next_scan}, proofs.Unless.unless_none, specs.Code.{Code, Each, Stop, Then, code_size}, specs.Effects.{Effect, EndsTurn, GoesOn, State, Traps, answer_of, effect_of, empty_state, fits_register, kinds_in, loaded, mark_of, marked, next_registers, result_of, result_trap, unless_trap, update_of, with_update}, specs.Faults.{binary_fault, both_fault, compare_fault, compares_with, fault_of, fits_key, group_at, is_flag_kind, is_number_kind, is_ordered, is_row_kind, is_row_of, keys_fault, kind_fault, numbers_fault, operand_fault, operands_fault, operation_fault, place_fault, target_fault, target_of, unless}, specs.Private.Doing.{assigns, does, keeps, puts, sets, sets_answer, sets_found}, specs.Run.{Ended, EndsWith, after, follow, meaning, meaning_of, run_of, scans, turns, unless_unshown, visited}, specs.Values.{Registers, flag_read, key_read, no_registers, number_read, register_kind, row_read, with_entry}, specs.World.{IsLoaded, IsRowNumberOf, World, edge_of, is_text}, specs.declared.op.Operation.TheVariants.{Binary, Const, Edge, Find, Load, Not, Read, Within}, specs.declared.op.Operator.TheVariants.{Add, And, Equal, Less, LessOrEqual, Mul, Or, Sub}, specs.declared.value.Value.TheVariants.{Flag, Number, Place, Row, Text}, specs.CodeOfSteps.code_of_steps, specs.Keys.key_value_cmp, specs.Limits.IsSmall, specs.Outcome.{IsOutcome, decoded_row, shown_cells}, specs.Puts.{Update, aligned, overflows, total_over}, specs.RowCells.{cell_of, total_cell}, specs.ShowLines.shown_fault, specs.declared.body.Step.Step, specs.declared.body.Step.TheVariants.{Act, Scan}, specs.declared.fault.Fault.TheVariants.{BadColumn, BadRegister, WrittenTwice, WrongKind}, specs.declared.fault.TrapKind.TrapKind, specs.declared.fault.TrapKind.TheVariants.{AbsentKey, Overflow, Wrong}, specs.declared.group.GroupDecl.GroupDecl, specs.declared.group.GroupKey.GroupKey, specs.declared.op.Op.Op, specs.declared.op.Op.TheVariants.{Assign, Keep, Put}, specs.declared.op.Operation.Operation, specs.declared.op.Operator.Operator, specs.declared.outcome.Cell.Cell, specs.declared.outcome.Outcome.Outcome, specs.declared.program.Parts.Parts, specs.declared.program.Show.Show, specs.declared.value.Kind.Kind, specs.declared.value.Value.Value}
pub use Rattle.star_run.specs.{Private.Conditions.{IsConditionOf, IsMaybeOf, IsScanRow, MatchesCondition, joined_by, row_asked}, Private.Contents.{IsNumberRead, IsRowRead, IsSafe, Says, content_in, word_known}, Private.FilterPrefix.{code_after, early, early_looks, is_prefix, looked_up, looks, looks_before, looks_early, op_looks, reads_no_total, registers_after, shifted}, Private.Filters.{AreFiltered, AreSelected, CanCount, FewLooks, IsFiltered, IsKeyOf, IsTestOf, ends_at, filter_goes_on, found_row, lost, passes, row_referred}, Private.RegisterFacts.{AddingFacts, AddsFacts, AreFine, AreTraced, ComesFrom, HasFacts, HaveFacts, IsFine, KeepsFacts, facts_in, facts_of, nothing, source_of}, Private.Vectors.{AreCompacted, AreNotBefore, ArePut, AreReady, CanMakeIn, CanPutAll, CanPutRows, CanRunBatch, HasEvaluated, HasMaterialized, HasVectorWord, IsAtCode, IsBatch, IsHeldNarrow, IsOnly, IsPutOf, IsReadyAt, IsVectorWritten, code_from_put, is_straight, looks_among, passes_keeps, looks_run, made_in, positions_passing, positions_set, registers_put, row_of_word, selected_rows, sum_over, updates_after, with_updates, word_in, words_at}, Private.PushedFilters.{AreDetermined, ArePushed, AreRead, AreWords, is_determined, is_known, read_content}, Private.Plans.{IsContentMade, IsMadeAt, IsNew, JoinsAt, Planned, PlannedOf, Prefix, condition_in, is_comparison, registers_at, registers_first}, Private.Puts.{AreKeyed, AreNumbered, CanPut, IsKeyAt, IsKeyWord, key_word}, Private.Execution.{CanMake, Ends, Finishes, Follows, Going, Holding, IsReady, Leaves, Makes, Turns, effort, means, rows_of, turn}, Private.Words.{HasNarrowWord, IsFitting, IsWordKept, Keeps, Stand, flag_word, is_set, value_word, word, word_answer}, declared.contents.Content.TheVariants.{Before, Found, Own, Referred, ScanRow, Unknown}, Private.Columns.{AreColumns, column_words, words_of_kind}, Private.Finds.{CanFind, IsLoadedFrom}, Private.Flags.{AllAre, IsFlagOf, IsTested}, Private.Predicates.{AreMasks, IsOver, batch_rows, predicate_holds}, Private.Reads.{is_source, op_reads, operation_reads, reads}, Private.Spans.{compared_by, lies_within}, ShownRanges.{ShownLie, reported_range}, declared.conditions.Condition.Condition, declared.contents.Content.Content, declared.filters.Filter.Filter, declared.filters.Test.Test, declared.filters.Test.TheVariants.{Among, Flagged}, declared.machine.Machine.Machine, declared.plan.Made.Made, declared.plan.Plan.Plan, declared.predicates.Predicate.Predicate, declared.pushed_filters.PushedFilters.PushedFilters, declared.register_facts.RegisterFacts.RegisterFacts, declared.register_facts.Source.Source, declared.predicates.Predicate.TheVariants.Range}
pub use Rattle.star_safety.{proofs.Always.accepted_throughout, proofs.BeforePuts.{moment_of, no_fault, room_before}, proofs.Forward.first_standing, proofs.Instructions.unmapped_none, proofs.Sound.at_position_none, specs.Contexts.{Context, after_op, after_scan, aggregate_in_group, at_end, at_first, in_scan, is_target}, specs.Admissible.IsAdmissible, specs.Laws.{IsAccepted, TotalLies, TotalsLie}, specs.Moments.all_shares, specs.Private.Forward.{first_reason, none_open, open_with}, specs.Private.Throughout.{HoldsThroughout, InEachTurn, Onward, Throughout}, specs.Refusals.{kind_reason, op_reason, scan_reason, target_again}, specs.Standing.{at_position, instructions_of, reason_of}, specs.declared.reason.Reason.TheVariants.Faulty}
pub use Rattle.star_schema.{proofs.Dictionaries.length-dictionary_of-le, proofs.KeyColumns.foreign_key, proofs.Same.{at_index, table_same}, proofs.TextIndexes.code_within, specs.Groups.{Entry, GroupRow, aggregate, members, numbers_for, totals_from}, specs.Columns.{column_numbers, column_texts}, specs.Database.{Database, rows_in}, specs.Dictionary.{codes_of, dictionary_of, low_in}, specs.Loadable.{HasDistinctKeys, IsSound, keys_of}, specs.Schema.{index_of, kind_of, references, table_of}}
unfoldable pub use Rattle.star_schema.specs.Schema.{column_of}
pub use Rattle.star_schema.specs.declared.{column.ColumnId.TheVariants.{CCustkey, DDatekey, LoOrderkey, PPartkey, SSuppkey}, table.TableId.TheVariants.{Customer, Date, Lineorder, Part, Supplier}, column.ColumnId.ColumnId, column.TheConstants.COLUMNS, group.Aggregate.Aggregate, group.Aggregate.TheVariants.Count, table.TableId.TableId}
pub use Rattle.star_world.{proofs.Found.{IsFound, found_from, is_position, one_index}, proofs.Loaded.{keys_len, numbers_len, texts_len}, specs.WorldOf.world_of}
pub use Rattle.std.{proofs.Common.{Some, ap, arith, length, sym, ◌∙◌}, proofs.lemmas.List.{append-nil, append_assoc, drop_all, get_or-drop, get_or-map, get_or-set_other, get_or-set_same, length-drop, length-map, length-take, map-append, take-append-drop, take-set, take_all, take_min, take_more, take_more_set}, proofs.lemmas.List.Elements.{All-contains, All-from_get_or, All-head, All-nil, All-push, All-tail, All-take, All-weaker, Contains-get_or, filter_agree, filter_passes, same_from_all_zip}, proofs.lemmas.List.FromFn.{fill_by_all, get_or-map-range_with_len, get_or-range_with_len, length-map-range_with_len, length-range_with_len, map-range_with_len_more}, proofs.lemmas.Nat.{and_mask, div-mul-add, pow_pos, shr-shr, shr_le}, proofs.lemmas.Option.{get_or_from_slice_get, same_Some, slice_get-get_or, slice_get-map, slice_get_within}, proofs.lemmas.Simd.{bit_mask_l, get_or-put_chunk_above, get_or-put_chunk_at, get_or-put_chunk_below, leading_from_mask_l, length-put_chunk, map-map, ones-mask_l, pick_l-range_with_len, put_chunk_is, trailing_mask_l}, proofs.Math.ListN.get_or-eq_default, proofs.Math.Nat.{mul-le-mul_left, pos_of_ne-zero, pow-suc}, proofs.Math.Seq.{drop-drop, take-append_seam}, proofs.lemmas.Bool.{cases_lt, lt-ltb, or_left, or_right}, proofs.lemmas.Bool.Decides.{Decides-eqb, Decides-ltb, leb_tells}, proofs.lemmas.Grind.common_steps, proofs.lemmas.Int.to_z-of_z, proofs.lemmas.List.Sums.sum_by-cons, proofs.lemmas.Slice.{drop-put_mid, take-put_mid}, specs.List.{All, filter, list_any, prefix_len, range_with_len}, specs.Prelude.{Contains, Err, IfOk, IsSome, MatchBool, Ok, Result, bit_and, bit_or, bit_xor, cond, count_by, false, if◌then◌else◌, min, nat_eq, nat_le, nat_lt, not, slice_get, slice_index_or, slice_set, true, unwrap_or, vec_len, ◌&&◌, ◌*ℤ◌, ◌+ℤ◌, ◌-ℤ◌, ◌||◌, ◌≢◌, ◌≤◌, ◌⊎◌}, specs.Int.RustNames.count_ones, specs.Option.{is_some, option_map, option_or}, specs.Ordering.{int_cmp, is_eq, is_le, is_lt}, specs.Simd.Lanes.put_chunk}
