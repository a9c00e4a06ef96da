use Rattle.std.proofs.Common.{◌∷◌, None, map}
use Rattle.star_merger.{specs.Partials.contents_of, specs.Private.Checked.AreFactsIf, specs.Private.Shares.{share_rows, whole_of}, proofs.JoinedFacts.{first_facts, many_more, next_facts, none_mapped, some_mapped}}
use Rattle.star_merge_laws.specs.Tables.{all_of}
use Rattle.star_merger.proofs.facts.+all_facts.Goals as goal

pub returns-in-None : goal.returns-in-None
returns-in-None t c = λ database share shares same are.
    first_facts database (contents_of c.args.first.now)
    (map contents_of c.args.more.now) share shares
    (none_mapped c.args.more.now c.in-None.ensures.cases) same are

pub returns-in_err-facts-in-Some : goal.returns-in_err-facts-in-Some
returns-in_err-facts-in-Some t c = λ database share shares same are.
    rw c.from_residual.ensures
    (next_facts database (contents_of c.args.first.now) (contents_of c.in-Some.next.now)
    (map contents_of c.args.more.now) (map contents_of c.in-Some.rest.now) share shares
    (λ shares. AreFactsIf (whole_of database (share ∷ shares)) None)
    (some_mapped c.args.more.now c.in-Some.rest.now c.in-Some.next.now c.in-Some.ensures.cases.0)
    same are
    (λ second others tail rest own. many_more share.rows (all_of (share_rows (second ∷ others)))
    (c.in_err-facts-in-Some.ensures database second others tail rest)))

pub returns-in_ok-facts-in-Some : goal.returns-in_ok-facts-in-Some
returns-in_ok-facts-in-Some t c = λ database share shares same are.
    next_facts database (contents_of c.args.first.now) (contents_of c.in-Some.next.now)
    (map contents_of c.args.more.now) (map contents_of c.in-Some.rest.now) share shares
    (λ shares. AreFactsIf (whole_of database (share ∷ shares)) c.joined.result)
    (some_mapped c.args.more.now c.in-Some.rest.now c.in-Some.next.now c.in-Some.ensures.cases.0)
    same are
    (λ second others tail rest own. c.joined.ensures database share.rows
    (all_of (share_rows (second ∷ others))) own
    (c.in_ok-facts-in-Some.ensures database second others tail rest))
