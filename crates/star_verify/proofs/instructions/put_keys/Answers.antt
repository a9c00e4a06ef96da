use Rattle.star_verify.proofs.CheckingInstructions.{put_key_shares}
use Rattle.star_verify.proofs.instructions.put_keys.Goals as goal

pub returns-clause-given : goal.returns-clause-given
returns-clause-given c = λ w x values known often had.
    put_key_shares w c.args.parts.now x c.args.tallies.now c.contribute_keys.new.tallies
    c.args.group _
    c.args.keys.now values _ _ c.requires.limits.each_group c.as_slice.ensures known often
    c.requires.there
    c.requires.keys had c.contribute_keys.ensures.given c.contribute_keys.ensures.others
