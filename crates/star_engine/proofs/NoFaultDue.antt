-- Where a report of a query is due, no fault is.
use Rattle.std.proofs.Common.{◌≡◌, ℕ, List, Some, None, subst}
use Rattle.star_schema.specs.{Database.Database, Database.TableTexts, Loadable.database_of}
use Rattle.star_query.{specs.Derives.Means, specs.Tree.Tree, proofs.Verdicts.one_meaning}
use Rattle.star_plan.specs.{declared.fault.PlanFault.PlanFault, Faults.plan_fault, WellNamed.IsWellNamed}
use Rattle.star_engine.specs.{Queries.{IsPlanFault, IsQueryRun, IsQueryRunError, IsQueryRunErrorOver, IsQueryRunOver}, declared.fault.EngineFault.EngineFault, WithNotes.RunText}
use Rattle.star_query.proofs.FirstFaults as texts
use Rattle.star_plan.proofs.Conditions as names
use Rattle.star_engine.specs.declared.fault.EngineFault.TheVariants as engine

no_name_fault : (query : List ℕ) (tree : Tree) (fault : PlanFault) → Means query tree
    → IsWellNamed tree → IsPlanFault query fault → ⊥
no_name_fault query tree fault means named is =
    let same : tree ≡ is.tree = one_meaning query tree is.tree means is.means in
    let none : plan_fault is.tree ≡ None =
    subst (λ t. plan_fault t ≡ None) same (names.no_fault tree named) in
    let first = is.first in absurd (cc)

pub run_is_answered : (visits : ℕ) (database : Database) (query : List ℕ) (run : RunText)
    (fault : EngineFault) → IsQueryRunOver visits database query run
    → IsQueryRunErrorOver visits database query fault → ⊥
run_is_answered visits database query run (engine.Refused refused) told due =
    due.unfit told.fitting
run_is_answered visits database query run (engine.Query fault) told due =
    texts.no_fault query told.fitting.tree fault due.not_memory told.fitting.means due.first
run_is_answered visits database query run (engine.Plan fault) told due =
    no_name_fault query told.fitting.tree fault told.fitting.means told.fitting.named due
run_is_answered visits database query run _ told due = due

pub run_of_texts_is_answered : (rows visits : ℕ) (texts : TableTexts) (query : List ℕ)
    (run : RunText) (fault : EngineFault) → IsQueryRun rows visits texts query run
    → IsQueryRunError rows visits texts query fault → ⊥
run_of_texts_is_answered rows visits texts query run (engine.Refused refused) told due =
    run_is_answered visits (database_of texts) query run (engine.Refused refused) told.holds
    due.holds
run_of_texts_is_answered rows visits texts query run (engine.Load fault) told due =
    due.1.not_loadable told.loadable
run_of_texts_is_answered rows visits texts query run (engine.Query fault) told due =
    run_is_answered visits (database_of texts) query run (engine.Query fault) told.holds due
run_of_texts_is_answered rows visits texts query run (engine.Plan fault) told due =
    run_is_answered visits (database_of texts) query run (engine.Plan fault) told.holds due
run_of_texts_is_answered rows visits texts query run _ told due = due
