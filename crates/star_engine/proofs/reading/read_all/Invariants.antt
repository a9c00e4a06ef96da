use Rattle.std.{proofs.Common.{◌≡◌, ◌≤◌, ◌+◌, vec_len}, specs.Io.KnownBytes.Consumes}
use Rattle.star_engine.specs.Reading.{came_of, has_failed, reader_of, reads_of}
use Rattle.star_engine.proofs.reading.read_all.Given as goal

abbrev pub invariant-loop : goal.invariant-loop
invariant-loop g l =
    (vec_len l.bytes ≤ l.limit) × (l.counter ≤ vec_len l.bytes)
    × (vec_len l.bytes ≤ came_of l.input)
    × (reads_of l.input ≤ reads_of l.initial.input + l.counter)
    × (has_failed l.input ≡ has_failed l.initial.input)
    × Consumes (g.R.Read.remaining (reader_of l.initial.input))
    (g.R.Read.remaining (reader_of l.input)) l.bytes.items
