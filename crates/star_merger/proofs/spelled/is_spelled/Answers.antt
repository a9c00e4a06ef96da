use Rattle.star_merger.proofs.spelled.is_spelled.Goals as goal

pub returns : goal.returns
returns c = λ ok. record {
  bytes = c.bytes_law.ensures.bytes;
  digest = c.bytes_law.ensures.count;
  span = c.span_law.ensures;
  sizes = c.sizes_law.ensures;
  bounds = c.are_spelled_bounds.ensures (cc (c.if-not-are_spelled_bounds.false));
  run = c.has_spelled_run.ensures ok;
}
