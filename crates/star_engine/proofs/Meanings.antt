-- What a text means, and that its names are well, where both compute.
use Rattle.std.proofs.Common.{◌≡◌, ◌∙◌, ◌≤◌, ℕ, List, [], None, Result, Ok, Err, Bool, true, false, refl, length, ap, sym}
use Rattle.star_query.{specs.Private.Phrases.{Query, query_tree, one, plain, ungrouped}, specs.declared.fault.QueryFault.QueryFault, specs.Symbols.{Placed, symbols}, specs.Private.Cut.cut_of, specs.Tree.{Name, Tree}, specs.Derives.Means, specs.Private.Machine.{Verdict, Whole, Bad}, proofs.Cuts.tokens_make_text, proofs.Verdicts.{derives, one_meaning, verdict_of}}
use Rattle.star_plan.{specs.Faults.plan_fault, specs.WellNamed.IsWellNamed, proofs.Conditions.well_named}

abbrev pub nameless : Name
nameless = record { text = []; offset = 0 }

abbrev pub nothing : Query
nothing = record {
  items = one (plain nameless);
  tables = one nameless;
  condition = None;
  groups = ungrouped;
  keys = None;
  semicolon = false;
}

abbrev pub query_in : Verdict → Query
query_in (Whole q) = q
query_in (Bad fault left) = nothing

abbrev pub is_whole : Verdict → Bool
is_whole (Whole q) = true
is_whole (Bad fault left) = false

whole_is : (v : Verdict) → is_whole v ≡ true → v ≡ Whole (query_in v)
whole_is (Whole q) e = refl
whole_is (Bad fault left) e = cc

abbrev pub tokens_in : Result (List Placed) QueryFault → List Placed
tokens_in (Ok tokens) = tokens
tokens_in (Err fault) = []

abbrev pub is_cut : Result (List Placed) QueryFault → Bool
is_cut (Ok tokens) = true
is_cut (Err fault) = false

cut_is : (cut : Result (List Placed) QueryFault) → is_cut cut ≡ true → cut ≡ Ok (tokens_in cut)
cut_is (Ok tokens) e = refl
cut_is (Err fault) e = cc

abbrev pub verdict : List ℕ → Verdict
verdict text = verdict_of (symbols (tokens_in (cut_of text)))

abbrev pub meaning : List ℕ → Tree
meaning text = query_tree (query_in (verdict text))

pub record IsWorked (text : List ℕ) : Type 0 where
  pub short : length text ≤ 65536
  pub cut : is_cut (cut_of text) ≡ true
  pub whole : is_whole (verdict text) ≡ true
  pub named : plan_fault (meaning text) ≡ None

pub means : (text : List ℕ) → IsWorked text → Means text (meaning text)
means text w = record {
  short = w.short;
  tokens = tokens_in (cut_of text);
  cut = (tokens_make_text text (tokens_in (cut_of text))).0 (cut_is (cut_of text) w.cut);
  derives = derives (symbols (tokens_in (cut_of text))) (query_in (verdict text))
      (whole_is (verdict text) w.whole);
}

pub are_named : (text : List ℕ) → IsWorked text → (tree : Tree) → Means text tree → IsWellNamed tree
are_named text w tree other =
    let same : meaning text ≡ tree = one_meaning text (meaning text) tree (means text w) other in
    well_named tree (ap plan_fault (sym same) ∙ w.named)
