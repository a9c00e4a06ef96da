-- What texts mean, every form of the grammar as its tree, and what the tree of every query keeps:
-- it is within limits, and its words are spelled.
use Rattle.std.{proofs.Common.{◌≡◌, ◌≤◌, ◌*◌, ℕ, true, false, List, [], ◌∷◌, Option, Some, None, Ok, length, refl}, specs.Prelude.{codes, neg_ℤ, pos, sum_by}, specs.List.{AllByRecursion, list_all}}
use Rattle.star_common.proofs.Tables.{Gives, each_row}
use Rattle.star_schema.specs.{declared.group.Shape.TheVariants.Plain, declared.group.Shape.TheVariants.Cube, declared.group.Shape.TheVariants.Rollup, declared.group.Direction.TheVariants.Ascending, declared.group.Direction.TheVariants.Descending, Tables.Number, Tables.Text}
use Rattle.star_query.{specs.declared.token.Relation.TheVariants.{Equal, Unequal, Less, AtMost, Greater, AtLeast}, specs.Private.Phrases.{ascending, cube, descending, grouped, groups_tree, hiding, key_tree, one, rollup, ungrouped, unmarked}, specs.Spelled.{IsSpelledQuery, condition_is_spelled, expression_is_spelled, has_few_digits, is_name, is_printable_text, item_is_spelled, where_is_spelled}, specs.Tree.{Condition, Expression, Grouping, Item, Measure, Name, SortKey, Test, Tree, add, aggregate, and, column, constant, count, fold, mul, not, or, plain, sub}, specs.declared.token.Fold.TheVariants.{Sum, Min, Max}, specs.Private.Cut.{cut_from, cut_of, reserved, reserved_words}, specs.Limits.{IsQueryWithinLimits, aggregates_in, item_operands, where_comparisons}, specs.Maxima.most_bytes, specs.Meant.IsMeant, proofs.TextResults.{Says, TextResult, holds, means, text_result}}
use Rattle.star_query.specs.Symbols.{Placed, Symbol, number as number_symbol, relation, spelling}
use Rattle.star_examples.proofs.QueryTests.{pair, compare, between}

-- a name, and where it stands
abbrev called : List ℕ → ℕ → Name
called word at = record { text = word; offset = at }

abbrev of : Measure Name → ℕ → Item
of m at = aggregate (record { measure = m; offset = at; name = None })

abbrev under : Measure Name → ℕ → Name → Item
under m at name = aggregate (record { measure = m; offset = at; name = Some name })

abbrev all : Grouping
all = record { shape = Plain; columns = [] }

-- select count(*) from t ..
abbrev counting : Option (Condition Test) → Grouping → List SortKey → Tree
counting condition grouping keys = record {
  items = of count 7 ∷ [];
  tables = called (codes "t") 21 ∷ [];
  condition = condition;
  grouping = grouping;
  keys = keys;
}

-- operators of one level group to the left, a product binds before a sum, and parentheses leave no
-- trace
abbrev sums : Tree
sums = record {
  items = plain (called (codes "a") 7)
      ∷ of (fold Sum (add (sub (column (called (codes "b") 14)) (column (called (codes "c") 16)))
      (mul (mul (column (called (codes "d") 18))
      (sub (column (called (codes "e") 21)) (constant (pos 2)))) (constant (neg_ℤ (pos 3)))))) 10
      ∷ of (fold Min (sub (mul (column (called (codes "f") 35)) (column (called (codes "g") 37)))
      (column (called (codes "h") 39)))) 31
      ∷ under (fold Max (constant (neg_ℤ (pos 1)))) 43 (called (codes "m") 54)
      ∷ under count 57 (called (codes "n") 69) ∷ [];
  tables = called (codes "t") 76 ∷ called (codes "u") 79 ∷ [];
  condition = None;
  grouping = all;
  keys = [];
}

-- names are made lower case, and a key with no word of its direction ascends
abbrev ordered : Tree
ordered = record {
  items = plain (called (codes "a") 7) ∷ of count 10 ∷ [];
  tables = called (codes "t") 24 ∷ [];
  condition = None;
  grouping = record { shape = Plain; columns = called (codes "a") 35 ∷ called (codes "b") 38 ∷ [] };
  keys = record { name = called (codes "a") 49; direction = Ascending }
      ∷ record { name = called (codes "b") 52; direction = Ascending }
      ∷ record { name = called (codes "c") 59; direction = Descending } ∷ [];
}

-- NOT binds before AND, AND before OR, and BETWEEN has an AND of its own
abbrev conditions : Condition Test
conditions = or
    (or (and (not (compare (called (codes "a") 33) Unequal (Text (codes "x"))))
    (pair (called (codes "b") 46) (called (codes "c") 50)))
    (and (between (called (codes "d") 55) (Number (neg_ℤ (pos 1))) (Number (pos 2)))
    (not (or (compare (called (codes "e") 83) Less (Number (pos 1)))
    (compare (called (codes "f") 92) AtLeast (Number (neg_ℤ (pos 2))))))))
    (between (called (codes "g") 104) (Text (codes "a'b")) (Text (codes "c")))

abbrev relations : Condition Test
relations = and (and
    (and (compare (called (codes "a") 29) Equal (Number (pos 1)))
    (compare (called (codes "b") 37) Unequal (Number (pos 2))))
    (compare (called (codes "c") 46) Less (Number (pos 3))))
    (and (and (compare (called (codes "d") 55) AtMost (Number (pos 4)))
    (compare (called (codes "e") 64) Greater (Number (pos 5))))
    (compare (called (codes "f") 72) AtLeast (Number (pos 6))))

abbrev cubed : Grouping
cubed = record {
  shape = Cube;
  columns = called (codes "c") 49 ∷ called (codes "d") 52 ∷ called (codes "e") 55 ∷ [];
}

abbrev rows : List (List ℕ × TextResult)
rows = (
  codes "select a, sum(b-c+d*(e-2)*-3), min(f*g-h), max(-1) as m, count(*) as n from t, u",
  means sums,
)
    ∷ (codes "SELECT A, Count(*) FROM T GROUP BY A, B ORDER BY A, B ASC, C DESC;", means ordered)
    ∷ (
      codes
          "select count(*) from t where not a <> 'x' and b = c or d between -1 and 2 and not (e < 1 or f >= -2) or g between 'a''b' and 'c'",
      means (counting (Some conditions) all []),
    )
    ∷ (
      codes "select count(*) from t where a=1 and b<>2 and c<3 and (d<=4 and e>5 and f>=6)",
      means (counting (Some relations) all []),
    )
    ∷ (
      codes "select count(*) from t where a = b group by cube(c, d, e);",
      means (counting (Some (pair (called (codes "a") 29) (called (codes "b") 33))) cubed []),
    )
    ∷ (
      codes "select count(*) from t order by a desc",
      means (counting None all (record { name = called (codes "a") 32; direction = Descending } ∷ [])),
    )
    ∷ []

meant : AllByRecursion (λ row. Says row.0 row.1) rows
unfolding cut_from reserved reserved_words spelling
meant = each_row Says text_result holds rows refl

some_text_means_it : IsMeant ordered
some_text_means_it = (_, meant.1.0)

-- ---- phrases, and a sign, which ends where it ends

phrases : (n : Name) → Gives key_tree (
    (unmarked n, record { name = n; direction = Ascending })
    ∷ (ascending n, record { name = n; direction = Ascending })
    ∷ (descending n, record { name = n; direction = Descending }) ∷ [])
    × Gives groups_tree (
    (ungrouped, all) ∷ (grouped (one n), record { shape = Plain; columns = n ∷ [] })
    ∷ (hiding cube (one n), record { shape = Cube; columns = n ∷ [] })
    ∷ (hiding rollup (one n), record { shape = Rollup; columns = n ∷ [] }) ∷ [])
phrases n = (refl, refl)

abbrev at : ℕ → Symbol → Placed
at offset x = record { symbol = x; offset = offset }

signs : cut_of (codes "<7>=8")
    ≡ Ok (at 0 (relation Less) ∷ at 1 (number_symbol 7) ∷ at 2 (relation AtLeast)
    ∷ at 4 (number_symbol 8) ∷ [])
unfolding cut_from
signs = refl

in_64_kibibytes : (most_bytes ≡ 64 * 1024) × (where_comparisons None ≡ 0)
in_64_kibibytes = (refl, refl)

-- ---- within limits, and spelled

module _ (t : Tree) where
  within : IsQueryWithinLimits t → (length t.items ≤ 16) × (sum_by aggregates_in t.items ≤ 8)
      × (sum_by item_operands t.items ≤ 512) × (where_comparisons t.condition ≤ 256)
      × (length t.grouping.columns ≤ 6) × (length t.keys ≤ 16)
  within w = (w.items, w.aggregates, w.operands, w.comparisons, w.columns, w.keys)

  spelled : IsSpelledQuery t → (list_all item_is_spelled t.items ≡ true)
      × (list_all (λ n. is_name n.text) t.tables ≡ true) × (where_is_spelled t.condition ≡ true)
      × (list_all (λ n. is_name n.text) t.grouping.columns ≡ true)
      × (list_all (λ k. is_name k.name.text) t.keys ≡ true)
  spelled s = (s.items, s.tables, s.condition, s.columns, s.keys)

abbrev a : Name
a = called (codes "a") 0

abbrev hyphened : Name
hyphened = called (codes "a-b") 0

abbrev good : Condition Test
good = compare a Equal (Number (pos 1))

abbrev bad : Condition Test
bad = compare a Equal (Text (10 ∷ []))

abbrev long : Expression Name
long = constant (pos 1000000000000000000)

words_spelled : Gives expression_is_spelled ((column a, true) ∷ (column hyphened, false)
    ∷ (long, false) ∷ (add (column a) long, false) ∷ (add long (column a), false)
    ∷ (sub (column a) long, false) ∷ (sub long (column a), false) ∷ (mul (column a) long, false)
    ∷ (mul long (column a), false) ∷ [])
    × Gives condition_is_spelled ((good, true) ∷ (bad, false)
    ∷ (compare hyphened Equal (Number (pos 1)), false) ∷ (pair a a, true) ∷ (pair hyphened a, false)
    ∷ (pair a hyphened, false) ∷ (between a (Number (pos 1)) (Text (10 ∷ [])), false)
    ∷ (between a (Text (10 ∷ [])) (Number (pos 1)), false)
    ∷ (between hyphened (Number (pos 1)) (Number (pos 1)), false) ∷ (or good good, true)
    ∷ (or bad good, false) ∷ (or good bad, false) ∷ (and bad good, false) ∷ (and good bad, false)
    ∷ (not bad, false) ∷ [])
    × Gives where_is_spelled ((Some good, true) ∷ (Some bad, false) ∷ (None, true) ∷ [])
    × Gives item_operands ((plain a, 0) ∷ (of count 0, 0)
    ∷ (under (fold Sum (add long long)) 0 a, 2) ∷ [])
    × Gives aggregates_in ((plain a, 0) ∷ (of count 0, 1) ∷ [])
    × Gives item_is_spelled ((plain a, true) ∷ (plain hyphened, false) ∷ (of count 0, true)
    ∷ (of (fold Sum long) 0, false) ∷ (under count 0 hyphened, false) ∷ [])
unfolding is_name has_few_digits is_printable_text
words_spelled = (refl, refl, refl, refl, refl, refl)
