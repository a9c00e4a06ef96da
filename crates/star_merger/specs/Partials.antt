-- The contents of a partial that was read.
use Rattle.star_schema.specs.Sizes.{size_of}
use Rattle.star_partial.specs.Contents.{Contents, bounds_at}
use Rattle.star_merger.specs.declared.partial.Partial.{Partial}

abbrev pub contents_of : Partial → Contents
contents_of partial =
    record {
      digest = partial.digest;
      span = partial.span;
      sizes = size_of partial.sizes;
      bounds = bounds_at partial.bounds;
      run = partial.run;
    }
