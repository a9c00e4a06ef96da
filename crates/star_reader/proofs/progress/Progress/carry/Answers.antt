use Rattle.std.proofs.Common.{◌∙◌, refl}
use Rattle.star_schema.specs.Schema.{kinds_of}
use Rattle.star_reader.proofs.PieceSteps.{as_wide, carried_on}
use Rattle.star_reader.proofs.progress.Progress.carry.Goals as goal

pub returns : goal.returns
returns c = λ table most parts text columns wide h.
    carried_on table most parts text c.args.self.now _ columns c.args.bytes.now h refl refl
    (c.in_ok-extend.ensures (kinds_of table) h.carried (as_wide h.of_table ∙ wide) h.stands)
    c.requires
