-- The outcome that is merged from the outcomes over each part.
use Rattle.std.specs.{Prelude.{◌≡◌, ◌<◌, ◌^◌, ℕ, All, List, length, map}, List.flat_map}
use Rattle.star_schema.specs.{Groups.GroupRow, Tables.Value}
use Rattle.star_plan.specs.Meaning.{Plan, aggregate_of}
use Rattle.star_program.specs.{declared.outcome.Cell.Cell, declared.outcome.Outcome.Outcome}
use Rattle.star_partial.specs.Contents.{Contents}
use Rattle.star_query_meaning.specs.Answers.{shown_name}
use Rattle.star_merge.specs.{Cells.group_of, Merged.AreOfShape, Merged.AreSmall, Merged.IsMergedRows}
use Rattle.star_engine.specs.declared.fault.EngineFault.TheVariants.{OutOfMemory}
use Rattle.star_merger.specs.{declared.fault.PartialFault.TheVariants.{Overflow, Refused}, declared.fault.PartialsFault.PartialsFault, declared.fault.PartialsFault.TheVariants.{Engine, Partial}, Private.Shown.{IsUsable, counted, lookups_in, rows_shown, updates_in}}

-- the rows of the reports of some partials, one report after another
abbrev pub all_shown : List Contents → List (List (List Cell))
all_shown all = flat_map (λ contents. rows_shown contents.run) all

-- the groups that they show
abbrev pub groups_of : Plan → List Contents → List (GroupRow Value)
groups_of p all = flat_map (λ rows. map (group_of (length p.keys)) rows) (all_shown all)

pub record IsMergedOutcome (p : Plan) (all : List Contents) (count : ℕ) (outcome : Outcome)
    : Type 0 where
  pub usable : All IsUsable all
  pub names : outcome.names ≡ map (shown_name p) p.items
  pub rows : AreOfShape (length p.keys) (map aggregate_of p.measures) (groups_of p all)
      → IsMergedRows p.shape (length p.keys) (map aggregate_of p.measures) p.sorts p.items
      (groups_of p all) outcome.rows
  pub visits : outcome.visits ≡ count
  pub lookups : outcome.lookups ≡ counted lookups_in all
  pub updates : outcome.updates ≡ counted updates_in all

-- the counts of some partials have 64 bits together, and their totals 128 bits
pub record HasRoom (p : Plan) (all : List Contents) : Type 0 where
  pub lookups : counted lookups_in all < 2 ^ 64
  pub updates : counted updates_in all < 2 ^ 64
  pub totals : AreSmall (groups_of p all)

-- why there is none: out of memory, a part with rows that is refused, or a total that leaves its
-- range
abbrev pub IsUnmerged : Plan → List Contents → PartialsFault → Type 0
IsUnmerged p all (Engine OutOfMemory) = Unit {0}
IsUnmerged p all (Partial index (Refused line) other) = ¬ All IsUsable all
IsUnmerged p all (Partial index (Overflow line) other) = ¬ HasRoom p all
IsUnmerged p all _ = ⊥
