-- What can add up to a SUM of an accepted program fits 128 bits, and to a COUNT 64.
use Rattle.std.proofs.Common.{ℕ, ◌^◌, ◌<◌, sym, subst}
use Rattle.star_safety.proofs.{Common.{IsAccepted, Parts, SumsFit, World, all_shares, most_of}, NarrowRanges.sum_fits, Runs.{all_narrow, few_puts}, Tally.most_is}

few_shares : (w : World) (parts : Parts) → IsAccepted w parts → (g index : ℕ)
    → most_of (all_shares w parts g index) < 2 ^ 63
few_shares w parts accepted g index =
    subst (λ n. n < 2 ^ 63) (sym (most_is (all_shares w parts g index)))
    (few_puts w parts accepted g index)

pub sums_fit : (w : World) (parts : Parts) → IsAccepted w parts → SumsFit w parts
sums_fit w parts accepted = record {
  sums = λ g index h same. sum_fits (all_shares w parts g index)
      (all_narrow w parts accepted g index) (few_shares w parts accepted g index);
  counts = few_shares w parts accepted;
}
