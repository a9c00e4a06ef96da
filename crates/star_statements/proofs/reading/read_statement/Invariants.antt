use Rattle.std.proofs.Common.{◌≡◌, ℕ, List, length}
use Rattle.star_statements.specs.{Sources.has_failed, Sources.reader_of, Private.Drafts.IsDraft}
use Rattle.star_statements.proofs.reading.read_statement.Given as goal

abbrev pub invariant-bytes : goal.invariant-bytes
invariant-bytes g l =
    (has_failed l.source ≡ has_failed l.initial.source)
    × ((begun : List ℕ) × (length begun ≡ l.counter)
    × IsDraft (g.R.Read.remaining (reader_of l.initial.source))
    (g.R.Read.remaining (reader_of l.source))
    l.text.items l.ends begun)
