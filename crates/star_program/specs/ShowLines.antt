-- The columns that a report names.
use Rattle.std.specs.Prelude.{ℕ, ◌+◌, Bool, ◌&&◌, nat_lt, List, [], ◌∷◌, ◌++◌, length, map, Option, Some, None, if◌then◌else◌}
use Rattle.star_schema.specs.{declared.group.GroupColumn.GroupColumn, declared.group.GroupColumn.TheVariants.Key, declared.group.GroupColumn.TheVariants.Aggregate}
use Rattle.star_program.specs.{declared.group.GroupDecl.GroupDecl, declared.program.Parts.Parts, Faults.group_at}

-- the group has the column
abbrev pub has_column : GroupDecl → GroupColumn → Bool
has_column d (Key index) = nat_lt index (length d.keys)
has_column d (Aggregate index) = nat_lt index (length d.aggregates)

-- the columns that the show lines, then the sort lines name
abbrev pub named_columns : Parts → List GroupColumn
named_columns parts = map (λ show. show.column) parts.shows ++ map (λ sort. sort.column) parts.sorts

-- the first of some lines that names a column which the group does not have; lines are numbered
-- from here on
abbrev pub first_unshown : GroupDecl → ℕ → List GroupColumn → Option ℕ
first_unshown d line [] = None
first_unshown d line (c ∷ cs) = if has_column d c then first_unshown d (line + 1) cs else Some line

-- the reported group is declared, and there is a show line
abbrev pub reports : Parts → Bool
reports parts = nat_lt parts.report (length parts.groups) && nat_lt 0 (length parts.shows)

-- the first line of a report that names something undeclared: 0 if the group is not declared or
-- nothing is shown, otherwise the number of the line, from 1
abbrev pub shown_fault : Parts → Option ℕ
shown_fault parts = if reports parts then first_unshown (group_at parts parts.report) 1 (named_columns parts) else Some 0
