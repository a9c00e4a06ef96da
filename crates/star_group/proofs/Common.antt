-- What the proofs of this crate cite of the libraries below it and of its own definitions.
pub use Rattle.star_common.{proofs.Members.{at_each, contains_cases, contains_here, contains_mapped, contains_none, from_contains_map, of_each}, proofs.Tables.{Gives, Gives2, Gives3}, specs.Memory.UnlessMemory}
pub use Rattle.star_group.specs.{Base.{AreGrouped, AreInBits, HasAggregates, HasBaseWithRoom, IsBase, IsRowOver, group_with, key_value_view, key_view, puts_in, puts_with, row_found}, Batches.{HasRoomForRows, IsKeyWord, IsPutBatch, batch_keys, key_word, put_in, puts_after, word_in}, ById.{AreAt, IsArrayContent, IsArrayContentWithRoom, aggregate_cells, cell_over, neutral}, Ids.{IsOf, above, group_id, is_at, is_outside, offset_of, offset_up_to, id_count}, Private.Coarser.{AreOnce, IsMergedWhere, IsRolledUp, IsRolledUpWithRoom, NoneCoarser, RollsUp, first_finer, first_hidden, is_among, keys_from, shown_entries}, Private.Merged.{IsMerged, IsMergedAt, IsMergedInto, IsRowOfOnePut, IsWithRow, MergeLeaves, MergeStays, RowsStay, cell_of_one_put, merged, merged_at, merged_total}, Private.Numbers.{AreAsWide, AreNarrow, HasRowSpace, HasSpace, IsNarrow, keys_in, listed_keys}, Private.Rows.{AllStay, IsBlank, MergesAll, PutsRows, SomeLeaves, is_one_of, is_row_key}, Private.Taken.{AreCellsTaken, AreWithin, CanTake, CanTakeAll, HasNarrow, after_rows, batch_vectors, column_after, numbers_from, taking, vectors_of}, Private.Tries.{IsHeld, IsKeyFound, IsMissing, IsTrie, Leads, child, digit_at, key_at, part_digit, turn_at, word_from, word_with}, Stores.{AddUp, AreOfContent, Group, HasRoom, IsContent, combined, group_declared, key_lists, put_number, puts_of}, ArrayStores.{Has, group_view}, BaseKeys.{RowKey, is_of_put, key_eq, padded, vary}, Cells.{held, step}, Entries.{entries_of, listed_entries}, Held.has_puts, Keyed.{Entry, Row, all_rolled_up, filled, keyed}, OneMore.IsWithPut, Private.ArrayPut.{AreAtIds, IsListed}, Private.Given.{nothing_given, row_shown, shown}, StoreRows.{AreRows, row_at}, contracts.keyed.key.KeyPartPartialEq.TheImpl.eq-value, declared.batch.PutBatch.PutBatch, declared.eager.EagerStore.EagerStore, declared.keyed.KeyedRows.KeyedRows, declared.keyed.ListedRows.ListedRows, declared.keyed.key.KeyPart.KeyPart, declared.array_store.ArrayStore.ArrayStore, declared.array_store.span.Span.Span, declared.keyed.key.KeyPart.TheVariants.All, declared.rows.PutFault.TheVariants.OutOfMemory}
pub use Rattle.star_interval.specs.Range.{is_i128, is_i64}
pub use Rattle.star_program.{proofs.OwnGroups.{overflow_somewhere, somewhere_overflows}, proofs.Rows.{cut_at, cut_past, length-cut}, specs.Puts.{Update, aggregate_at, aligned, leaves, overflows}, specs.Faults.value_count, specs.Keys.{key_value_cmp, same_keys, value_eq}, specs.Limits.IsSmall, specs.Overflow.IsOwn, specs.Rows.cut, specs.contracts.key.KeyValueEq.TheImpl.Laws.laws-law, specs.declared.group.GroupDecl.GroupDecl, specs.declared.group.GroupKey.GroupKey, specs.declared.key.KeyValue.KeyValue, specs.declared.key.KeyValue.TheVariants.{Code, Number}}
pub use Rattle.star_schema.{proofs.Groupings.{all_keys, finer, shown_masked}, specs.Groups.{GroupRow, IsGroup, IsMasked, aggregate, belongs, is_grouping, joined, members, numbers_for, totals_from, totals_of}, specs.declared.column.ColumnId.TheVariants.PBrand1, specs.declared.group.Aggregate.Aggregate, specs.declared.group.Aggregate.TheVariants.{Count, Max, Min, Sum}, specs.declared.group.Shape.Shape, specs.declared.group.Shape.TheVariants.{Cube, Plain, Rollup}}
pub use Rattle.std.{proofs.Common.{Bool, Err, FitsSigned, IfErr, IfOk, IfSome, IsOk, MatchBool, MatchOption, Ok, OnErr, OnOk, Result, [], add-one, ap, arith, below_more, cond, drop, false, get_or, inl, inr, map, nat_eq, nat_lt, negsuc, refl, replicate, rules, set, slice_get, slice_set, subst, suc, sym, take, true, true≢false, w64, zero, ⊎_elim, ◌%◌, ◌&&◌, ◌*◌, ◌++◌, ◌+ℤ◌, ◌+◌, ◌-ℤ◌, ◌-◌, ◌/◌, ◌<◌, ◌^◌, ◌||◌, ◌↔◌, ◌∙◌, ◌∷◌, ◌≡◌, ◌≢◌, ◌≤ℤ◌, ◌≤◌, ◌⊎◌}, proofs.Math.Bool.{Bool-set, and-false, and-or_distrib_left, and-true, or-false, or_assoc}, proofs.Math.Nat.{mul-div-le, mul-le-mul_left, mul-le-mul_right, mul_assoc, suc-mul, zero-mul}, proofs.Math.Seq.{drop-cons, get_or-append_seam, take-length, take-suc, take-suc-set}, proofs.lemmas.Bool.{MatchBool-at_false, MatchBool-at_true, and_parts, cases_eq, cases_lt, eq-eqb, eqb-true, false_from_ne_true, lt-ltb, ltb-false, ltb-true, or_cases, or_left, or_parts, or_right}, proofs.lemmas.List.{append-nil, append_assoc, append_cancel_left, at_drop_more, drop-append-le, drop-drop, drop-set-lt, drop_at, get_or-drop, get_or-map, get_or-replicate, get_or-set_other, get_or-set_same, get_or-take, get_or_append_left, get_or_default, get_or_past, get_or_push, length-append, length-drop, length-map, length-replicate, length-set, length-take, length-take-le, map-append, map-id, map-set, map_more, take-append-drop, take-append-le, take-map, take_all, take_at, take_more_set, with_items_is}, proofs.lemmas.List.Elements.{All-append, All-from_recursion, All-head, All-tail, filter-append, recursion_from_All}, proofs.lemmas.List.Folds.{Any-from_list_any, list_all-map, list_any-append, list_any-from_Any, list_any_at, list_any_more, list_any_none}, proofs.lemmas.Map.Keys.{IsDistinct-head, IsDistinct-push, IsDistinct-tail, any_passes_from_place, apart_from_distinct}, proofs.Math.ListN.get_or-append, proofs.Math.Logic.{∥∥₁_elim, ∥∥₁_map}, proofs.lemmas.Bool.Decides.nat_tests, proofs.lemmas.Grind.common_steps, proofs.lemmas.Int.{int_max_is, int_min_is, ints, to_z-of_z}, proofs.lemmas.List.Kept.AllPairs-filter, proofs.lemmas.List.Sums.{count_by-le-length, length-filter}, proofs.lemmas.Map.Entries.{lookup_from_place, place_from_lookup}, proofs.lemmas.Map.Made.{AllPairs-from_IsDistinct, IsDistinct-from_AllPairs}, proofs.lemmas.Map.Views.{Contains-from_any, Contains-from_lookup, any-filter_same, list_any-from_Contains}, proofs.lemmas.Nat.{div-add-mod', div-mul-add, le-div}, proofs.lemmas.Option.{get_or_from_slice_get, slice_get-get_or, slice_get-map, slice_get_within}, proofs.lemmas.Result.err_from_is_err_and, proofs.lemmas.Slice.{drop-put_mid, take-put_mid}, proofs.lemmas.Slice.Eq.slice_eq-Decides, specs.List.{AllByRecursion, Contains, IsDistinct, filter, list_all, list_any}, specs.Option.{is_none, is_some, option_copied, option_eq, option_map, unwrap_or}, specs.Prelude.{List, None, Option, Some, if◌then◌else◌, length, not, pos, slice_index_or, ℕ, ℤ}, specs.Bool.Decides, specs.Borrow.Bor, specs.Cmp.{IsEquivalence, both_ways, signed_Decides, unsigned_Decides, unsigned_ties}, specs.Cmp.Lexicographic.{lists_equiv, options_equiv, pointwise}, specs.Int.{int_max, int_min, w128}, specs.Map.{keys_of, lookup}, specs.Ordering.is_eq, specs.Vec.with_items}
pub use borrow.Rule.Slice.PartMut.{put_mid}
