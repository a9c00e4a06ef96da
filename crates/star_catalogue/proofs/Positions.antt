-- Keys that all differ stand at their positions.
use Rattle.std.{proofs.Common.{◌≡◌, ◌≢◌, ◌<◌, ◌∙◌, ℕ, ℤ, List, AllPairs, true, Some, get_or, length, refl, sym, inl, inr, arith, nat_lt, position}, proofs.lemmas.Bool.cases_Bool, proofs.lemmas.Bool.Decides.{Decides-int_eq, nat_tests}, proofs.lemmas.List.Quantifiers.position-Some, proofs.lemmas.List.Sums.position_or_len_is, proofs.lemmas.Option.{get_or_from_slice_get, slice_get-get_or, slice_get_within}, specs.List.position_or_len, specs.Ordering.int_eq}
use Rattle.star_catalogue.specs.Private.Indexes.{AreIndexes, StandsAt}

stands_at_position : (keys : List ℤ) (key : ℤ) (index : ℕ) → position (int_eq key) keys ≡ Some index
    → StandsAt int_eq keys index key
stands_at_position keys key index is =
    let some = position-Some (int_eq key) keys index key is in
    record {
      stored = get_or keys index key;
      there = slice_get-get_or keys index key some.0;
      equal = some.1;
    }

position_of_standing : (keys : List ℤ) → AllPairs (λ a b. a ≢ b) keys → (key : ℤ) (index : ℕ)
    → StandsAt int_eq keys index key → position (int_eq key) keys ≡ Some index
position_of_standing keys apart key index stands =
    let within : index < length keys = slice_get_within keys index stands.stored stands.there in
    let read : get_or keys index key ≡ stands.stored =
    get_or_from_slice_get keys index stands.stored key stands.there in
    let is : key ≡ get_or keys index key =
    (Decides-int_eq key stands.stored).0 stands.equal ∙ sym read in
    let first : position_or_len (int_eq key) keys ≡ index =
    position_or_len_is (int_eq key) keys index key (omega arith)
    (λ k earlier. elim (cases_Bool (int_eq key (get_or keys k key))) [
      | inl equal ↦
          absurd (apart k index key earlier within
          (sym ((Decides-int_eq key (get_or keys k key)).0 equal) ∙ is))
      | inr other ↦ other
    ])
    (λ some. (Decides-int_eq key (get_or keys index key)).1 is) in
    let few : nat_lt index (length keys) ≡ true = grind (arith, nat_tests) in
    rw (first, few) refl

pub positions_are_indexes : (keys : List ℤ) → AllPairs (λ a b. a ≢ b) keys
    → AreIndexes int_eq (λ key. position (int_eq key) keys) keys
positions_are_indexes keys apart = record {
  found = λ key index.
      (stands_at_position keys key index, position_of_standing keys apart key index);
}
