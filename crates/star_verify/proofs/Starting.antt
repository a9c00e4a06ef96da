-- What a check begins with.
use Rattle.std.proofs.Common.{◌≡◌, ◌<◌, ◌+◌, ◌*◌, ℕ, false, [], get_or, arith, ap, sym, subst, ⊎_elim}
use Rattle.star_verify.proofs.Common.{All-get_or, HasKeyShares, HasShares, IsSmall, IsTally, IsWithinLimits, Parts, Tally, at_first, cases_lt, flag_at, get_or-replicate, get_or_past, group_at, known_in, known_of, length-replicate, nothing_known, replicate}

all_one : {X : Type 0} (n i : ℕ) (x : X) → get_or (replicate n x) i x ≡ x
all_one n i x = grind (arith, ⊎_elim, get_or-replicate, get_or_past, length-replicate, cases_lt)

pub nothing_in : (n : ℕ) → known_in (replicate n nothing_known) ≡ at_first.known
nothing_in n = λ i r. ap known_of (all_one n r nothing_known) i

pub no_flags : (n : ℕ) → flag_at (replicate n false) ≡ at_first.written
no_flags n = λ i r. all_one n r false i

-- ---- tallies of no numbers

pub no_key_shares : (parts : Parts) (none : Tally) → IsWithinLimits parts → IsTally none []
    → HasKeyShares parts (replicate 64 none) at_first
no_key_shares parts none limits is g there a within t =
    let small : IsSmall (group_at parts g) =
    All-get_or IsSmall parts.groups g _ there limits.each_group in
    let inside : 8 * g + a < 64 = omega (arith, there, within, limits.groups, small.keys) in
    subst (λ s. IsTally s []) (sym (get_or-replicate 64 (8 * g + a) none t inside)) is

pub no_shares : (parts : Parts) (none : Tally) → IsWithinLimits parts → IsTally none []
    → HasShares parts (replicate 64 none) at_first
no_shares parts none limits is g there a within t =
    let small : IsSmall (group_at parts g) =
    All-get_or IsSmall parts.groups g _ there limits.each_group in
    let inside : 8 * g + a < 64 = omega (arith, there, within, limits.groups, small.aggregates) in
    subst (λ s. IsTally s []) (sym (get_or-replicate 64 (8 * g + a) none t inside)) is
