-- Where a piece of a text is cut.
use Rattle.std.{proofs.Common.{◌≡◌, ◌+◌, ◌-◌, ◌<◌, ◌≤◌, ℕ, suc, List, true, false, drop, get_or, length, take, refl, sym, inl, inr, arith, length-drop, drop-cons}, proofs.Math.Seq.take-suc, proofs.lemmas.Bool.{cases_Bool, ltb-false, ltb-true, true≢false}, proofs.lemmas.List.{get_or-drop, take_all}, specs.Prelude.nat_lt, specs.List.list_all}
use Rattle.star_schema.specs.Records.{ends_line}
use Rattle.star_reader.{specs.Carried.is_inner, specs.Private.Cut.{AreLinesOf, EndsInLineEnd, IsBegun}, proofs.Fronts.all_at}

-- a line end is no inner byte
not_inner : (b : ℕ) → ends_line b ≡ true → is_inner b ≡ true → ⊥
not_inner b ends inner = let bad : false ≡ true = rw ends at inner in true≢false (sym bad)

pub other_inner : (b : ℕ) → ends_line b ≡ false → is_inner b ≡ true
other_inner b other = rw other refl

begun_at : (piece : List ℕ) (first n : ℕ) → first < length piece
    → ends_line (get_or piece first 0) ≡ true → IsBegun (take (suc n) (drop first piece))
begun_at piece first n there starts = record {
  byte = get_or piece first 0;
  rest = take n (drop (suc first) piece);
  ends = starts;
  is = rw (drop-cons piece first 0 there) refl;
}

ended_at : (piece : List ℕ) (first n : ℕ) → first + n < length piece
    → ends_line (get_or piece (first + n) 0) ≡ true
    → EndsInLineEnd (take (suc n) (drop first piece))
ended_at piece first n there ends =
    let long = length-drop first piece in
    let inside : n < length (drop first piece) = omega (arith, long, there) in
    record {
      front = take n (drop first piece);
      byte = get_or piece (first + n) 0;
      ends = ends;
      is = rw (take-suc (drop first piece) n 0 inside, get_or-drop first piece n 0) refl;
    }

pub cut_is : (piece : List ℕ) (first behind : ℕ) → first < length piece
    → list_all is_inner (take first piece) ≡ true → ends_line (get_or piece first 0) ≡ true
    → behind ≤ length piece → list_all is_inner (drop behind piece) ≡ true
    → (0 < behind → ends_line (get_or piece (behind - 1) 0) ≡ true) → AreLinesOf piece first behind
cut_is piece first behind there head starts within tail ends =
    elim (cases_Bool (nat_lt first behind)) [
      | inl order ↦ whole (ltb-true first behind order)
      | inr other ↦ absurd (before (ltb-false first behind other))
    ]
  where
    before : behind ≤ first → ⊥
    before past =
        let size = length-drop behind piece in
        let index : behind + (first - behind) ≡ first = omega (arith, past) in
        let all : list_all is_inner (take (length (drop behind piece)) (drop behind piece)) ≡ true =
        rw (take_all (length (drop behind piece)) (drop behind piece) (omega arith)) tail in
        let inner = all_at is_inner (drop behind piece) (length (drop behind piece))
        (first - behind) all (omega (arith, size, past, there, within)) (omega arith) in
        not_inner (get_or piece first 0) starts
        (rw (get_or-drop behind piece (first - behind) 0, index) at inner)

    size : first < behind → behind - first ≡ suc (behind - first - 1)
    size order = omega (arith, order)

    begun : first < behind → IsBegun (take (behind - first) (drop first piece))
    begun order = rw (size order) (begun_at piece first (behind - first - 1) there starts)

    ended : first < behind → EndsInLineEnd (take (behind - first) (drop first piece))
    ended order =
        let index : first + (behind - first - 1) ≡ behind - 1 = omega (arith, order) in
        let last : ends_line (get_or piece (first + (behind - first - 1)) 0) ≡ true =
        rw index (ends (omega (arith, order))) in
        rw (size order)
        (ended_at piece first (behind - first - 1) (omega (arith, order, within)) last)

    whole : first < behind → AreLinesOf piece first behind
    whole order = record {
      order = order;
      within = within;
      head = head;
      begun = begun order;
      ended = ended order;
      tail = tail;
    }
