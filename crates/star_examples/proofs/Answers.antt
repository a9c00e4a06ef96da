-- What queries of all rows answer over the sample, from their texts and the bytes of five files to
-- their printed reports.
use Rattle.std.{proofs.Common.{◌≡◌, ◌∙◌, ℕ, zero, suc, Bool, true, false, List, [], ◌∷◌, Option, Some, None, ap, arith, inl, inr, length, refl, subst, sym}, specs.Prelude.{Contains, codes, is_none, map}, specs.Fmt.digits, specs.List.AllByRecursion, specs.List.Sorted.IsStrictlySortedBy, specs.declared.cmp.Ordering.Ordering}
use Rattle.star_common.{specs.First.first_answer, proofs.Tables.each_row}
use Rattle.star_schema.specs.{Groups.{AreGroups, Entry, GroupRow, IsGroup, IsMasked, members, totals_of}, declared.group.Aggregate.Aggregate, declared.group.Shape.Shape, declared.group.Shape.TheVariants.{Cube, Plain, Rollup}, Database.{Database, rows_in}, Loadable.database_of, Order.value_cmp, Records.pieces, Schema.{column_of, columns_of, position_of, table_name}, Tables.Value}
use Rattle.star_query.{specs.Symbols.spelling, specs.Private.Cut.{cut_from, reserved, reserved_words}, specs.Tree.{Name, Tree}, proofs.TextResults.{Says, TextResult, fault, holds, means, nothing, text_result}}
use Rattle.star_plan.{specs.declared.fault.PlanFault.PlanFault, specs.Faults.plan_fault, specs.Meaning.{Joined, aggregate_of}, specs.Names.{column_called, has_name, table_called}, specs.Naming.{function_word, has_text}, proofs.Conditions.well_named}
use Rattle.star_program.specs.RowCells.{cell_of}
use Rattle.star_report.specs.Report.{cell_text, line_text, report_text}
use Rattle.star_query_meaning.specs.{Reports.IsReport, Rows.measures_of, Rows.query_entry, Rows.selected, Rows.value_named, Shows.item_columns, Shows.item_names}
use Rattle.star_examples.proofs.Sample.{five, sample_texts}

-- ---- rows without keys are one group, which is there over no rows too

no_keys : (ms : List (Option Value)) (ks : List Value) → IsMasked ms ks → ks ≡ [] → [] ≡ ms
no_keys [] ks masked e = refl
no_keys (Some m ∷ ms) [] masked e = absurd masked
no_keys (None ∷ ms) [] masked e = absurd masked
no_keys (m ∷ ms) (k ∷ ks) masked e = absurd (cc)

module _ (aggregates : List Aggregate) (rows : List (Entry Value))
    (bare : (row : Entry Value) → Contains rows row → row.keys ≡ []) where
  abbrev all_rows : GroupRow Value
  all_rows = record { keys = []; totals = totals_of aggregates (members value_cmp [] rows) }

  one_group : AreGroups value_cmp Plain 0 aggregates rows (all_rows ∷ [])
  one_group = record {
    each = each;
    all = λ keys is. (all_rows, (0, omega arith, refl), hidden keys is);
  }
    where
      each : (group : GroupRow Value) → Contains (all_rows ∷ []) group
          → IsGroup Plain 0 rows group.keys
          × (group.totals ≡ totals_of aggregates (members value_cmp group.keys rows))
      each group (zero, lt, is) = subst (λ g. IsGroup Plain 0 rows g.keys
          × (g.totals ≡ totals_of aggregates (members value_cmp g.keys rows))) is
          ((refl, inr refl), refl)
      each group (suc k, lt, is) = absurd (omega (arith, lt))

      hidden : (keys : List (Option Value)) → IsGroup Plain 0 rows keys → [] ≡ keys
      hidden keys (shown, inl (row, has, masked)) = no_keys keys row.keys masked (bare row has)
      hidden keys (shown, inr none) = sym none

-- ---- the report of a query of all rows, where its text means one whose names are well

module _ (database : Database) (tree : Tree) where
  abbrev entries : List Joined → List (Entry Value)
  entries rows = map (query_entry tree) rows

  abbrev aggregates : List Aggregate
  aggregates = map aggregate_of (measures_of tree.items)

  abbrev group : GroupRow Value
  group = record {
    keys = [];
    totals = totals_of aggregates
        (members value_cmp [] (entries (selected (rows_in database) tree)));
  }

  abbrev printed : Shape → List Name → Bool → Option (List ℕ)
  printed Plain [] true = Some
      (report_text (item_names tree.items) (map (cell_of group) (item_columns tree) ∷ []))
  printed _ _ _ = None

  bare : tree.grouping.columns ≡ [] → (rows : List Joined) (row : Entry Value)
      → Contains (entries rows) row → row.keys ≡ []
  bare e [] row has = absurd (omega (arith, has.1))
  bare e (x ∷ xs) row (zero, lt, is) =
      ap (λ r. r.keys) (sym is) ∙ ap (map (λ n. value_named n x)) e
  bare e (x ∷ xs) row (suc k, lt, is) = bare e xs row (k, omega (arith, lt), is)

abbrev report_of : Database → TextResult → Option (List ℕ)
report_of database (means tree) =
    printed database tree tree.grouping.shape tree.grouping.columns (is_none (plan_fault tree))
report_of database _ = None

abbrev HasReport : Database → List ℕ → Option (List ℕ) → Type 0
HasReport database query None = Unit {0}
HasReport database query (Some report) = IsReport database query report

alone_in_order : (cmp : GroupRow Value → GroupRow Value → Ordering) (row : GroupRow Value)
    → IsStrictlySortedBy cmp (row ∷ [])
unfolding IsStrictlySortedBy
alone_in_order cmp row = (tt, tt)

none_is : (o : Option PlanFault) → is_none o ≡ true → o ≡ None
none_is None e = refl
none_is (Some f) e = absurd (cc)

reports_hold : (database : Database) (query : List ℕ)
    → HasReport database query (report_of database (text_result query))
reports_hold database query = of_result (text_result query) (holds query)
  where
    by_test : (tree : Tree) → Says query (means tree) → (s : Shape) (columns : List Name)
        → tree.grouping.shape ≡ s → tree.grouping.columns ≡ columns → (b : Bool)
        → is_none (plan_fault tree) ≡ b
        → HasReport database query (printed database tree s columns b)
    by_test tree is Plain [] plain none true well =
        let grouped : AreGroups value_cmp tree.grouping.shape (length tree.grouping.columns)
        (aggregates database tree) (entries database tree (selected (rows_in database) tree))
        (group database tree ∷ []) = subst (λ s. AreGroups value_cmp s
        (length tree.grouping.columns) (aggregates database tree)
        (entries database tree (selected (rows_in database) tree)) (group database tree ∷ []))
        (sym plain) (subst (λ n. AreGroups value_cmp Plain n (aggregates database tree)
        (entries database tree (selected (rows_in database) tree)) (group database tree ∷ []))
        (sym (ap length none)) (one_group (aggregates database tree)
        (entries database tree (selected (rows_in database) tree))
        (bare database tree none (selected (rows_in database) tree)))) in
        record {
          tree = tree;
          means = is;
          named = well_named tree (none_is (plan_fault tree) well);
          names = item_names tree.items;
          rows = map (cell_of (group database tree)) (item_columns tree) ∷ [];
          answer = record {
            headed = refl;
            groups = group database tree ∷ [];
            each_group = grouped;
            in_order = alone_in_order _ (group database tree);
            cells = refl;
          };
          printed = refl;
        }
    by_test tree is Plain [] plain none false well = tt
    by_test tree is Plain (c ∷ cs) plain none b well = tt
    by_test tree is Cube columns plain none b well = tt
    by_test tree is Rollup columns plain none b well = tt

    of_result : (t : TextResult) → Says query t → HasReport database query (report_of database t)
    of_result nothing is = tt
    of_result (fault f) is = tt
    of_result (means tree) is =
        by_test tree is tree.grouping.shape tree.grouping.columns refl refl
        (is_none (plan_fault tree)) refl

-- ---- queries and their reports

abbrev Row : Type 0
Row = List ℕ × Option (List ℕ)

abbrev Report : Database → Row → Type 0
Report database row = HasReport database row.0 row.1

-- the first query of the benchmark, and each operator and function with no WHERE
abbrev rows : List Row
rows = (
  codes "select sum(lo_extendedprice*lo_discount) as revenue from lineorder, date where lo_orderdate = d_datekey and d_year = 1993 and lo_discount between 1 and 3 and lo_quantity < 25;",
  Some (codes "revenue\n2000\n"),
)
    ∷ (
      codes "select sum(lo_revenue - lo_supplycost) as profit, min(lo_revenue - lo_supplycost - 1), max(lo_revenue + 2 * lo_supplycost), count(*) from lineorder",
      Some (codes "profit|min2|max3|count4\n3445|-206|5000|5\n"),
    )
    ∷ []

reports : AllByRecursion (Report five) rows
unfolding cut_from reserved reserved_words spelling column_of columns_of position_of pieces
    table_name
    column_called table_called first_answer has_name has_text function_word digits report_text
    line_text cell_text
reports = each_row (HasReport five) (λ query. report_of five (text_result query))
    (reports_hold five) rows refl

-- ---- the same from bytes to bytes: the sample's five files, lineorder's in two parts

rows_of_bytes : database_of sample_texts ≡ five
unfolding column_of columns_of position_of pieces
rows_of_bytes = refl

reports_of_bytes : AllByRecursion (Report (database_of sample_texts)) rows
reports_of_bytes = subst (λ d. AllByRecursion (Report d) rows) (sym rows_of_bytes) reports
