-- The keys and numbers of a put, one after another.
use Rattle.std.{proofs.Common.{◌≡◌, ◌+◌, ℕ, suc, List, Some, None, drop, ap, sym, ◌∙◌, add-one}, proofs.Math.Seq.drop-cons, proofs.lemmas.Option.{slice_get_within, get_or_from_slice_get}, specs.Prelude.slice_get, specs.Option.option_or}
use Rattle.star_program.specs.{Faults.{Kinds, operand_fault, keys_fault, fits_key}, declared.fault.Fault.Fault, declared.group.GroupKey.GroupKey}

here : (n : ℕ) (kinds : Kinds) (ks : List GroupKey) (rs : List ℕ) (i : ℕ) (k : GroupKey) (r : ℕ)
    → slice_get ks i ≡ Some k → slice_get rs i ≡ Some r
    → keys_fault n kinds (drop i ks) (drop i rs)
    ≡ option_or (operand_fault n kinds (fits_key k) r)
    (keys_fault n kinds (drop (suc i) ks) (drop (suc i) rs))
here n kinds ks rs i k r at is =
    (λ j. keys_fault n kinds (drop-cons ks i k (slice_get_within ks i k at) j)
    (drop-cons rs i r (slice_get_within rs i r is) j))
    ∙ (λ j. option_or (operand_fault n kinds (fits_key (get_or_from_slice_get ks i k k at j))
    (get_or_from_slice_get rs i r r is j))
    (keys_fault n kinds (drop (suc i) ks) (drop (suc i) rs)))

pub next_key : (n : ℕ) (kinds : Kinds) (ks : List GroupKey) (rs : List ℕ) (i : ℕ) (k : GroupKey)
    (r : ℕ) → slice_get ks i ≡ Some k → slice_get rs i ≡ Some r
    → operand_fault n kinds (fits_key k) r ≡ None
    → keys_fault n kinds (drop (i + 1) ks) (drop (i + 1) rs)
    ≡ keys_fault n kinds (drop i ks) (drop i rs)
next_key n kinds ks rs i k r at is fine = sym
    (here n kinds ks rs i k r at is
    ∙ ap (λ o. option_or o (keys_fault n kinds (drop (suc i) ks) (drop (suc i) rs))) fine
    ∙ ap (λ j. keys_fault n kinds (drop j ks) (drop j rs)) (sym (add-one i)))

pub fault_here : (n : ℕ) (kinds : Kinds) (ks : List GroupKey) (rs : List ℕ) (i : ℕ) (k : GroupKey)
    (r : ℕ) (f : Fault) → slice_get ks i ≡ Some k → slice_get rs i ≡ Some r
    → operand_fault n kinds (fits_key k) r ≡ Some f
    → keys_fault n kinds (drop i ks) (drop i rs) ≡ Some f
fault_here n kinds ks rs i k r f at is wrong =
    here n kinds ks rs i k r at is
    ∙ ap (λ o. option_or o (keys_fault n kinds (drop (suc i) ks) (drop (suc i) rs))) wrong
