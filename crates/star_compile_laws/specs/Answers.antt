-- The puts of a run of a compiled program, and its answer.
use Rattle.std.specs.Prelude.{◌≡◌, ℕ, Bool, List, map, reverse}
use Rattle.star_schema.specs.{declared.column.ColumnId.ColumnId, Tables.Value, Tables.Number, Tables.Text, Database.Database}
use Rattle.star_query.specs.Tree.{Tree}
use Rattle.star_plan.specs.Meaning.{Joined, Plan, Tables, measured, plan_rows, joined_value}
use Rattle.star_program.specs.{declared.key.KeyValue.KeyValue, declared.outcome.Outcome.Outcome, Effects.State, Outcome.IsOutcome, Puts.Update, Run.Ended, Run.run_while, World.World}
use Rattle.star_report.specs.Report.{report_text}
use Rattle.star_world.specs.WorldOf.{world_of}
use Rattle.star_query_meaning.specs.{Answers.IsAnswer, Answers.IsPlanAnswer, Reports.IsReport}
use Rattle.star_compile_laws.specs.Compiled.{compiled}
use Rattle.star_program.specs.declared.key.KeyValue.TheVariants as key

-- a value of a column as a key: a number is itself, and a text is its code
abbrev pub coded : World → ColumnId → Value → KeyValue
coded w c (Number n) = key.Number n
coded w c (Text text) = key.Code (w.low c text)

-- the update that a selected row makes: its keys, and a number for each aggregate
abbrev pub update_of_row : World → Plan → Joined → Update
update_of_row w p row = record {
  keys = map (λ c. coded w c (joined_value c row)) p.keys;
  values = map (measured (λ c. joined_value c row)) p.measures;
}

-- a run that comes to its end has put the selected rows and no other, in their order; the updates
-- are in order, the newest first. `may` says whether one more turn may begin; this holds of a run
-- with a bound on its visits and of one without
abbrev pub PutsTheRows : Tables → World → Plan → Type 0
PutsTheRows ts w p = (may : ℕ → Bool) (s : State) → run_while w may (compiled p) ≡ Ended s
    → s.updates_of 0 ≡ reverse (map (update_of_row w p) (plan_rows ts p))

-- and each of its outcomes has the plan's answer
abbrev pub AnswersThePlan : Tables → World → Plan → Type 0
AnswersThePlan ts w p = (may : ℕ → Bool) (s : State) (outcome : Outcome)
    → run_while w may (compiled p) ≡ Ended s → IsOutcome w (compiled p) s outcome
    → IsPlanAnswer ts p outcome.names outcome.rows

-- which is the own answer of a query
abbrev pub AnswersTheQuery : Tables → World → Tree → Plan → Type 0
AnswersTheQuery ts w query p = (may : ℕ → Bool) (s : State) (outcome : Outcome)
    → run_while w may (compiled p) ≡ Ended s → IsOutcome w (compiled p) s outcome
    → IsAnswer ts query outcome.names outcome.rows

-- over the rows of five tables, the printed outcome is the report of a query's text
abbrev pub ReportsTheQuery : Database → List ℕ → Plan → Type 0
ReportsTheQuery database text p = (may : ℕ → Bool) (s : State) (outcome : Outcome)
    → run_while (world_of database) may (compiled p) ≡ Ended s
    → IsOutcome (world_of database) (compiled p) s outcome
    → IsReport database text (report_text outcome.names outcome.rows)
