-- The state of a sink over a writer.
use Rattle.std.specs.Prelude.{Bool}
use Rattle.star_common.specs.declared.sink.Out.{Out}

-- whether a write has failed
abbrev pub has_failed : {W : Type 0} → Out W → Bool
has_failed out = out.failed

abbrev pub writer_of : {W : Type 0} → Out W → W
writer_of out = out.writer
