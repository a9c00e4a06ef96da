use Rattle.std.proofs.Common.{refl}
use Rattle.star_schema.specs.Schema.{kind_of}
use Rattle.star_partial.specs.Contents.{contents_of}
use Rattle.star_merger.proofs.SpelledOf.{bounds_of, loaded_fields, run_spelled}
use Rattle.star_merger.proofs.spelled.spelled_law.Goals as goal

pub returns : goal.returns
returns c = λ rows most database query texts loaded is.
    let contents = contents_of c.args.partial.now in
    record {
      bytes = c.bytes_law.ensures.bytes;
      digest = c.bytes_law.ensures.count;
      span = c.span_law.ensures;
      sizes = c.sizes_law.ensures;
      bounds = λ column. bounds_of database loaded column (contents.bounds column)
          (is.bounds column) (kind_of column) refl;
      run = run_spelled most database query is.p is.meant loaded
          (loaded_fields rows database texts) contents.run is.run c.run_law.ensures.counts
          c.run_law.ensures.cells;
    }
