use Rattle.std.proofs.Common.{◌+◌, ◌<◌, [], ◌∷◌, List, Option, None, get_or, ap, map, sym, subst, length}
use Rattle.star_verify.proofs.{Common.IsTally, Common.known_in, Common.known_share, Firsts.first_and_others, Contributing.given_more, Contributing.grown_more}
use Rattle.star_safety.specs.Ranges as ranges
use Rattle.star_verify.proofs.contributions.+contribute_keys.Goals as goal

pub returns-in-len1-up-clause-grown : goal.returns-in-len1-up-clause-grown
returns-in-len1-up-clause-grown t c =
    grown_more c.args.tallies.now c.add.new.tallies c.contribute_keys.new.tallies c.args.first
    c.args.met
    _ None []
    c.add.ensures.grown c.add.ensures.others c.contribute_keys.ensures.grown
    c.contribute_keys.ensures.others

pub returns-in-len1-up-clause-given : goal.returns-in-len1-up-clause-given
returns-in-len1-up-clause-given t c =
    let e = first_and_others c.args.keys.now 0 c.in-len1-up.len_at_least in
    let known = known_in c.args.registers.now in
    λ k ss lt h tally.
    subst (λ (ks : List (Option ranges.Known)). IsTally
    (get_or c.contribute_keys.new.tallies (c.args.first + k) tally)
    (known_share c.args.met (get_or ks k None) ∷ ss)) (ap (map known) e)
    (given_more c.args.tallies.now c.add.new.tallies c.contribute_keys.new.tallies c.args.first
    c.args.met
    _ _ _
    (λ ss' h'. rw (sym c.known_at.ensures) (c.add.ensures.given ss' h')) c.add.ensures.others
    c.contribute_keys.ensures.given c.contribute_keys.ensures.others
    k ss (subst (λ n. k < n) (sym (ap length e)) lt) h tally)
