use Rattle.std.proofs.Common.{◌+◌, ◌-◌, ◌<◌, [], ◌∷◌, List, Option, None, take, drop, get_or, ap, sym, subst, ◌∙◌, length}
use Rattle.star_verify.proofs.{Common.{IsTally, Sum, known_in, known_share, numbers_known, slice_index_or, value_count}, Firsts.first_and_others, Contributing.{given_more, grown_more}}
use Rattle.star_safety.specs.Ranges as ranges
use Rattle.star_verify.proofs.contributions.+contribute.Goals as goal

pub returns-in-len1-up-clause-grown : goal.returns-in-len1-up-clause-grown
returns-in-len1-up-clause-grown t c =
    grown_more c.args.tallies.now c.add.new.tallies c.contribute.new.tallies c.args.first c.args.met
    _
    None []
    c.add.ensures.grown c.add.ensures.others c.contribute.ensures.grown c.contribute.ensures.others

pub returns-in-len1-up-clause-given : goal.returns-in-len1-up-clause-given
returns-in-len1-up-clause-given t c =
    let e = first_and_others c.args.aggregates.now Sum c.in-len1-up.len_at_least in
    let rest = take (length c.args.aggregates.now - 1) (drop 1 c.args.aggregates.now) in
    let many = c.requires.values ∙ ap value_count (sym e) in
    let all = ap (λ gs. numbers_known gs (known_in c.args.registers.now) c.args.values.now) (sym e)
    ∙ c.next_number-known.ensures.known rest many in
    λ a ss lt h tally.
    subst (λ (ks : List (Option ranges.Known)). IsTally
    (get_or c.contribute.new.tallies (c.args.first + a) tally)
    (known_share c.args.met (slice_index_or ks a None) ∷ ss)) (sym all)
    (given_more c.args.tallies.now c.add.new.tallies c.contribute.new.tallies c.args.first
    c.args.met _ _
    _
    c.add.ensures.given c.add.ensures.others c.contribute.ensures.given c.contribute.ensures.others
    a ss (subst (λ n. a < n) (sym (ap length e)) lt) h tally)
