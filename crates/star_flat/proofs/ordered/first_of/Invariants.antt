use Rattle.std.proofs.Common.{◌≡◌, ◌<◌, ◌^◌, All}
use Rattle.star_flat.specs.Private.Order.{digits}
use Rattle.star_flat.proofs.ordered.first_of.Given as goal

abbrev pub invariant-loop-index : goal.invariant-loop-index
invariant-loop-index l = record {
  value : l.digits ≡ digits l.index l.text;
  below : l.digits < 256 ^ l.index;
  bytes : All (λ byte. byte < 256) l.text;
}
