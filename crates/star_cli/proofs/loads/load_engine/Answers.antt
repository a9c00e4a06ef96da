use Rattle.std.proofs.Common.{inr, refl}
use Rattle.star_cli.proofs.loads.load_engine.Goals as goal

pub engine_of-requires : goal.engine_of-requires
engine_of-requires g c =
    let (texts, are, given) = c.in-Ok.ensures.read in
    (texts, given)

pub returns-in-Ok-engine_of-clause-engine : goal.returns-in-Ok-engine_of-clause-engine
returns-in-Ok-engine_of-clause-engine g c =
    let (texts, are, given) = c.in-Ok.ensures.read in
    let made = c.in-Ok-engine_of.ensures.loaded texts given in
    (texts, are, made.0, made.1)

pub returns-in-Err-engine_of-clause-printed : goal.returns-in-Err-engine_of-clause-printed
returns-in-Err-engine_of-clause-printed g c =
    let (texts, are, given) = c.in-Ok.ensures.read in
    inr (
      refl {a = c.args.out.now},
      texts,
      are,
      c.in-Err-engine_of.unloaded,
      c.in-Err-engine_of.ensures.loaded texts given,
      c.print_fault.ensures,
    )
