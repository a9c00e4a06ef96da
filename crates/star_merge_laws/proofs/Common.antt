-- The names of other crates and of specs/ that the proofs of this crate cite.
pub use Rattle.star_catalogue.{proofs.Loading.table_none, specs.Load.{load_fault, table_fault}, specs.Pieces.with_lineorder_text}
unfoldable pub use Rattle.star_catalogue.specs.Load.{tables_fault}
pub use Rattle.star_catalogue.specs.declared.fault.LoadFault.TheVariants.{TooManyRows}
pub use Rattle.star_common.proofs.{Firsts.or_none, Members.{contains_cases, contains_here, contains_later, contains_mapped, contains_none, from_contains_map, of_each}}
unfoldable pub use Rattle.star_common.specs.First.{first_answer}
pub use Rattle.star_interval.{proofs.{Ranges.{fits_held, fits_i64_fits, holds_high, holds_low, holds_within, within_hull_left, within_hull_right}, Products.products_within, Sums.{differences_within, sums_within}}, specs.Range.{IsOrdered, IsWithin, Range, corner_range, fits_i64, hull}}
pub use Rattle.star_merge_laws.specs.{Facts.{AreFactsOf, Facts, hull_of_rows, joined_facts}, Merging.{AreMerged, IsPart, all_groups, all_rows, as_row, both, merged, merged_totals, parts_of, total_over}, Parts.{AreDisjoint, AreWithin, IsLoadablePart, LineorderPart, Span, are_disjoint, key_list_cmp, whole_text, with_lineorder}, Plain.{columns_at, plain_plan}, Regrouping.{AreAddedUp, added, all_added, are_same}, Tables.{all_of, tables_with}}
pub use Rattle.star_plan.specs.{Meaning.{Joined, Plan, Row, joined_rows, matches, only_row, partners, plan_rows, with_row}, Fits.{Fits, expression_range, measure_fits, nodes_fit}, Joins.{is_foreign, refers}, Sound.{IsSoundPlan, is_group_column}, declared.tree.Join.Join}
pub use Rattle.star_program.specs.Puts.{masks}
pub use Rattle.star_query.specs.Tree.{Expression, Measure, add, column, constant, count, fold, mul, sub}
pub use Rattle.star_query_meaning.proofs.Reorderings.{filter_reordered, reordered}
pub use Rattle.star_reader.{proofs.Counts.right_count, proofs.Law.{cell_complete, records_sound, table_complete, width_kinds}, specs.Faults.{byte_order_mark, cells_fault, record_fault, records_fault, text_fault}}
unfoldable pub use Rattle.star_reader.specs.Faults.{part_fault, parts_fault}
pub use Rattle.star_schema.{proofs.Extremes.{greatest_above, greatest_is, greatest_there, least_below, least_is, least_there}, proofs.Groupings.{all_keys, shown_masked}, proofs.KeyColumns.foreign_key, proofs.Same.table_same, specs.Bounds.numbers_of}
unfoldable pub use Rattle.star_schema.specs.Bounds.{greatest, least, numbers_at}
pub use Rattle.star_schema.specs.{Groups.{AreGroups, Entry, GroupRow, IsGroup, IsMasked, aggregate, belongs, is_grouping, joined, joined_with, members, totals_from, totals_of}, Loadable.{HasDistinctKeys, IsLoadable, IsSound, RefersTo, database_of, key_numbers}, Columns.bounds_in, Database.{Database, TableTexts, rows_in}}
unfoldable pub use Rattle.star_schema.specs.Loadable.{keys_of}
pub use Rattle.star_schema.specs.{Order.AreInOrder, Order.key_cmp, Order.row_cmp, Order.value_cmp, Records.fields_of, Records.records_in, Records.records_of, Schema.key_of, Schema.kinds_of, Schema.references, Schema.table_of}
unfoldable pub use Rattle.star_schema.specs.Schema.{column_of}
pub use Rattle.star_schema.specs.{Tables.{IsRecordOf, IsTable, Number, Text, Value, are_cells, cells_of, row_of, rows_of}, declared.{table.TableId.{TheVariants.{Customer, Date, Lineorder, Part, Supplier}, TableId}, column.{ColumnId.ColumnId, Kind.Kind}, group.{Aggregate.{Aggregate, TheVariants.Count}, GroupColumn.GroupColumn, Shape.{Shape, TheVariants.Plain}}}}
pub use Rattle.std.{proofs.lemmas.{Bool.{and_from, and_parts, cases_Bool, cases_lt, le-ltb, lt-ltb, ltb-false, ltb-true, or_cases}, Cmp.{alike_right, int_cmp_total, lists_total, nat_list_cmp_total, tied_itself}, List.{append-nil, length-append, map-append, Elements.{All-append, All-cons, All-contains, All-contains_itself, All-filter, All-from_recursion, All-head, All-map, All-nil, All-tail, All-weaker, Contains-append_cases, Contains-append_left, Contains-append_right, filter-append, filter_agree, filter_passes, recursion_from_All}, Sorted.{All-permutation, Contains-permutation, IsPermutation-map, IsPermutation-sym, length_permutation}, Concat.flat_map-append, Folds.{list_all-append, list_any-from_Any}, Kept.AllPairs-cons}, Int.{clamps, fold-int_max_reached, fold-int_min_reached, ints}, Map.Lookups.{exact_bytes, exact_signed}}, specs.{List.{All, AllByRecursion, Contains, flat_map, list_all, list_any, starts_with, Sorted.IsPermutation}, Bool.Decides, Cmp.{IsTotalOrder, Lexicographic.slice_cmp}, Int.{int_max, int_min}}}
unfoldable pub use Rattle.std.specs.List.Sorted.{IsStrictlySortedBy}
pub use Rattle.std.specs.{Ordering.{int_cmp, is_eq, is_le, is_lt, nat_cmp, ordering_then}, Prelude.{IsTrue, filter, length, nat_eq, nat_lt, pos, replicate, slice_index_or, ℤ, ◌+ℤ◌, ◌≤ℤ◌}, Option.option_to_list, declared.cmp.Ordering.{Ordering, TheVariants.{Equal, Greater, Less}}}
