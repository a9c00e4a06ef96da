-- The tree of a query, without its addresses in memory.
use Rattle.std.specs.Prelude.{ℕ, ℤ, List, Option}
use Rattle.star_schema.specs.{Tables.Value, declared.group.Shape.Shape, declared.group.Direction.Direction}
use Rattle.star_query.specs.{declared.token.Fold.Fold, declared.token.Relation.Relation}

pub record Name : Type 0 where
  pub text : List ℕ
  pub offset : ℕ

-- over columns, by their names or resolved
pub data Expression (C : Type 0) : Type 0 where
  column : C → Expression C
  constant : ℤ → Expression C
  add sub mul : Expression C → Expression C → Expression C

-- a column, or one by its name, compared with values
pub data Comparison (C V : Type 0) : Type 0 where
  compare : C → Relation → V → Comparison C V
  between : C → V → V → Comparison C V

-- what a query's condition tests: that two columns are equal, or a column
pub data Test : Type 0 where
  pair : Name → Name → Test
  comparison : Comparison Name Value → Test

pub data Condition (T : Type 0) : Type 0 where
  or and : Condition T → Condition T → Condition T
  not : Condition T → Condition T
  test : T → Condition T

pub data Measure (C : Type 0) : Type 0 where
  fold : Fold → Expression C → Measure C
  count : Measure C

pub record Aggregate : Type 0 where
  pub measure : Measure Name
  pub offset : ℕ
  pub name : Option Name

pub data Item : Type 0 where
  plain : Name → Item
  aggregate : Aggregate → Item

pub record Grouping : Type 0 where
  pub shape : Shape
  pub columns : List Name

pub record SortKey : Type 0 where
  pub name : Name
  pub direction : Direction

pub record Tree : Type 0 where
  pub items : List Item
  pub tables : List Name
  pub condition : Option (Condition Test)
  pub grouping : Grouping
  pub keys : List SortKey
