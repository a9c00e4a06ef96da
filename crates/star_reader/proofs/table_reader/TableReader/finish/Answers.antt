use Rattle.std.proofs.Common.{◌∙◌}
use Rattle.star_reader.{specs.Private.Sound.reading_of, proofs.ReaderSteps.{fault_answered, table_answered}}
use Rattle.star_reader.proofs.table_reader.TableReader.finish.Goals as goal

pub returns-in-Some-clause-refused : goal.returns-in-Some-clause-refused
returns-in-Some-clause-refused c = λ table most parts text h.
    let read = rw (← c.ended.view_is) at (c.end_part.ensures table most parts text h) in
    fault_answered (reading_of c.ended.inside) table most parts text c.in-Some.fault c.in-Some.is
    read

pub returns-in-None-clause-read : goal.returns-in-None-clause-read
returns-in-None-clause-read c = λ table most parts text h.
    let read = rw (← c.ended.view_is) at (c.end_part.ensures table most parts text h) in
    let all = table_answered (reading_of c.ended.inside) table most parts text c.in-None.is read in (
      all.0,
      c.of.ensures.table ∙ read.of_table,
      c.of.ensures.rows ∙ rw c.rows.ensures all.1,
    )
