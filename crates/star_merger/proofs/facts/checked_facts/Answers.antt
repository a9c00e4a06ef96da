use Rattle.std.proofs.{Common.{◌∙◌, sym}, lemmas.Bool.true≢false}
use Rattle.star_merger.proofs.facts.checked_facts.Goals as goal

pub returns-then-is_distinct : goal.returns-then-is_distinct
returns-then-is_distinct c = λ hash database share shares same own are.
    let has = c.in-Some-facts_within.ensures database share shares same own in
    record {
      known = has.0;
      few = has.1;
      disjoint = λ not. absurd (true≢false (sym c.if-is_distinct.true ∙ not));
    }

pub returns-in-Ok : goal.returns-in-Ok
returns-in-Ok c = λ hash database share shares same own are.
    let has = c.in-Some-facts_within.ensures database share shares same own in
    record { known = has.0; few = has.1; disjoint = λ not. c.in-Ok.ensures }
