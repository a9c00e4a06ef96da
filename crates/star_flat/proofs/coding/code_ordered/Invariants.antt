use Rattle.std.proofs.Common.{◌≡◌, ◌≤◌, length, take}
use Rattle.star_flat.specs.{Private.Codes.LeadTo, Private.Codes.different, Private.Order.numbered_texts}
use Rattle.star_flat.proofs.coding.code_ordered.Given as goal

abbrev pub invariant-loop-index : goal.invariant-loop-index
invariant-loop-index l = record {
  put : l.put ≡ different (take l.index (numbered_texts l.texts l.ordered));
  no_more : length l.put ≤ l.index;
  len : length l.codes.items ≡ length l.texts;
  lead : LeadTo l.put l.codes.items l.texts (take l.index l.ordered);
}
