-- The thirteen texts of the benchmark mean queries that are well named, by computing.
use Rattle.std.proofs.Common.{◌≡◌, Some, None, lit≤, refl}
use Rattle.star_common.specs.First.{first_answer}
use Rattle.star_schema.specs.Schema.{column_of, table_name}
use Rattle.star_query.specs.{Private.Cut.cut_from, Private.Cut.reserved, Private.Cut.reserved_words, Derives.Means, Symbols.spelling, Tree.Tree}
use Rattle.star_query.proofs.FirstFaults.{no_fault as no_first_fault}
use Rattle.star_plan.{specs.Faults.plan_fault, specs.Names.{column_called, has_name, table_called}, specs.Naming.{function_word, has_text}, specs.WellNamed.IsWellNamed, proofs.Conditions.no_fault}
use Rattle.star_engine.{specs.declared.thirteen.BenchmarkQuery.TheVariants.{Q11, Q12, Q13, Q21, Q22, Q23, Q31, Q32, Q33, Q34, Q41, Q42, Q43}, specs.declared.fault.EngineFault.EngineFault, specs.declared.thirteen.BenchmarkQuery.BenchmarkQuery, specs.Queries.IsQueryError, specs.Thirteen.query_text, proofs.Meanings.{IsWorked, are_named, meaning, means}}
use Rattle.star_engine.specs.declared.fault.EngineFault.TheVariants as engine

pub worked : (q : BenchmarkQuery) → IsWorked (query_text q)
unfolding query_text cut_from reserved reserved_words spelling column_of column_called table_called
    has_name table_name first_answer function_word has_text
worked Q11 = record { short = lit≤ tt; cut = refl; whole = refl; named = refl }
worked Q12 = record { short = lit≤ tt; cut = refl; whole = refl; named = refl }
worked Q13 = record { short = lit≤ tt; cut = refl; whole = refl; named = refl }
worked Q21 = record { short = lit≤ tt; cut = refl; whole = refl; named = refl }
worked Q22 = record { short = lit≤ tt; cut = refl; whole = refl; named = refl }
worked Q23 = record { short = lit≤ tt; cut = refl; whole = refl; named = refl }
worked Q31 = record { short = lit≤ tt; cut = refl; whole = refl; named = refl }
worked Q32 = record { short = lit≤ tt; cut = refl; whole = refl; named = refl }
worked Q33 = record { short = lit≤ tt; cut = refl; whole = refl; named = refl }
worked Q34 = record { short = lit≤ tt; cut = refl; whole = refl; named = refl }
worked Q41 = record { short = lit≤ tt; cut = refl; whole = refl; named = refl }
worked Q42 = record { short = lit≤ tt; cut = refl; whole = refl; named = refl }
worked Q43 = record { short = lit≤ tt; cut = refl; whole = refl; named = refl }

pub meant : (q : BenchmarkQuery) → (tree : Tree) × Means (query_text q) tree
meant q = (meaning (query_text q), means (query_text q) (worked q))

pub named : (q : BenchmarkQuery) (tree : Tree) → Means (query_text q) tree → IsWellNamed tree
named q tree is = are_named (query_text q) (worked q) tree is

-- so none of them is at fault
pub never_refused : (q : BenchmarkQuery) (fault : EngineFault) → ¬ IsQueryError (query_text q) fault
never_refused q (engine.Query fault) =
    λ is. no_first_fault (query_text q) (meant q).0 fault is.not_memory (meant q).1 is.first
never_refused q (engine.Plan fault) =
    λ is.
    let well : plan_fault is.tree ≡ None = no_fault is.tree (named q is.tree is.means) in
    let faulty : plan_fault is.tree ≡ Some fault = is.first in cc
never_refused q _ = λ is. absurd is
