-- What the report names is there.
use Rattle.std.{proofs.Common.{◌≡◌, ◌≤◌, ◌+◌, ℕ, length, Bool, true, false, List, [], ◌∷◌, ◌++◌, Option, Some, None, map, refl}, proofs.lemmas.Bool.and_parts, proofs.lemmas.Bool.Decides.Decides-ltb, proofs.lemmas.List.Elements.All-from_recursion, specs.Prelude.{nat_lt, if◌then◌else◌}, specs.List.{All, AllByRecursion}}
use Rattle.star_schema.specs.{declared.group.GroupColumn.GroupColumn, declared.group.Shape.TheVariants.Plain}
use Rattle.star_program.specs.{ShowLines.{first_unshown, has_column, named_columns, reports, shown_fault}, Limits.IsWithinLimits, declared.group.GroupDecl.GroupDecl, declared.program.Parts.Parts, declared.program.Show.Show, Faults.group_at}

if_none : (b : Bool) (o : Option ℕ) (line : ℕ) → (if b then o else Some line) ≡ None
    → (b ≡ true) × (o ≡ None)
if_none true o line e = (refl, e)
if_none false o line e = cc e

each_shown : (d : GroupDecl) (line : ℕ) (shows : List Show) (more : List GroupColumn)
    → first_unshown d line (map (λ show. show.column) shows ++ more) ≡ None
    → AllByRecursion (λ show. has_column d show.column ≡ true) shows
each_shown d line [] more e = tt
each_shown d line (show ∷ shows) more e =
    let both = if_none (has_column d show.column)
    (first_unshown d (line + 1) (map (λ s. s.column) shows ++ more)) line e in
    (both.0, each_shown d (line + 1) shows more both.1)

pub shows_are_there : (parts : Parts) → shown_fault parts ≡ None
    → All (λ show. has_column (group_at parts parts.report) show.column ≡ true) parts.shows
shows_are_there parts e =
    let d = group_at parts parts.report in
    let lines = (if_none (reports parts) (first_unshown d 1 (named_columns parts)) 0 e).1 in
    All-from_recursion (λ show. has_column d show.column ≡ true) parts.shows
    (each_shown d 1 parts.shows _ lines)

-- the reported group is there, and so has few keys
pub few_keys : (parts : Parts) → IsWithinLimits parts → shown_fault parts ≡ None
    → length (group_at parts parts.report).keys ≤ 6
few_keys parts limits e =
    let there = nat_lt parts.report (length parts.groups) in
    let found = (if_none (reports parts) (first_unshown (group_at parts parts.report) 1
    (named_columns parts)) 0 e).0 in
    let lt = (Decides-ltb parts.report (length parts.groups)).0
    (and_parts there (nat_lt 0 (length parts.shows)) found).0 in
    (limits.each_group parts.report (record { shape = Plain; keys = []; aggregates = [] }) lt).keys
