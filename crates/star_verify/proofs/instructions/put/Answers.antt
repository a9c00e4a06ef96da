use Rattle.std.proofs.Common.{ap, ◌∙◌}
use Rattle.star_verify.proofs.CheckingInstructions.{put_shares}
use Rattle.star_verify.proofs.instructions.put.Goals as goal

pub returns-clause-shares : goal.returns-clause-shares
returns-clause-shares c = λ w x keys known often had.
    let aggregates = c.as_slice.ensures ∙ ap (λ d. d.aggregates) c.group_at-declared.ensures in
    put_shares w c.args.input.now.parts.now x c.args.tallies.now c.contribute.new.tallies
    c.args.group _
    keys c.args.values.now _ _ _ c.args.input.now.limits.each_group aggregates
    c.as_slice-2.ensures
    known often c.requires.there had c.contribute.ensures.given c.contribute.ensures.others
