-- The parser's readers of single tokens.
use Rattle.std.{proofs.Common.{◌≡◌, ◌∙◌, ℕ, ◌+◌, ◌<◌, ◌≤◌, Bool, true, false, List, [], ◌∷◌, ◌++◌, Result, Ok, Err, length, map, drop, get_or, refl, sym, ap, subst, arith, append_assoc}, proofs.lemmas.List.{drop_more, length-map}, specs.Prelude.◌==◌}
use Rattle.star_query.{specs.declared.parser.Parser.Parser, specs.declared.counts.Part.Part, specs.declared.counts.Counts.Counts, specs.declared.fault.ParseError.ParseError, specs.declared.fault.Fault.TheVariants.{Unexpected, TooDeep, TooMany}, specs.Private.Lexed.symbol_of, specs.Symbols.{Symbol, name, number}, specs.Private.Cut.{undoubled, unquoted_after}, specs.Maxima.limit, specs.Private.Machine.{count_of_part, bump}, specs.Private.Reads.{Spot, spot_of, Takes, IsName, IsNumber, NoName, NoNumber, IsBeyond, ReadsToken}, proofs.Counting.{one_too_many, one_allowed}}
use Rattle.star_query.specs.declared.fault.ParseError.TheVariants as errors

beyond_token : (Is : List Symbol → Type 0) → (Is [] → ⊥)
    → (p : Part) (n : Counts) (rest : List Symbol) → Is rest → limit p ≤ count_of_part n p
    → IsBeyond (p ∷ []) n rest
beyond_token Is there p n [] is e = there is
beyond_token Is there p n (x ∷ xs) is e = rw (one_too_many p n e) refl

-- a doubled quote, or another byte of a text
pub unquoted_doubled : (inside so_far after : List ℕ) (i : ℕ) (q p : Bool) → i < length inside
    → q ≡ true → after ≡ so_far → p ≡ false
    → undoubled inside ≡ so_far ++ unquoted_after q (drop i inside)
    → undoubled inside ≡ after ++ unquoted_after p (drop (i + 1) inside)
unquoted_doubled inside so_far after i q p below was same now e =
    rw (same, now) (rw (was, drop_more inside i 0 below) at e)

pub unquoted_next : (inside so_far after : List ℕ) (i b : ℕ) (q p : Bool) → i < length inside
    → q ≡ false → after ≡ so_far ++ b ∷ [] → b ≡ get_or inside i 0 → p ≡ (b == 39)
    → undoubled inside ≡ so_far ++ unquoted_after q (drop i inside)
    → undoubled inside ≡ after ++ unquoted_after p (drop (i + 1) inside)
unquoted_next inside so_far after i b q p below was same byte now e =
    grind (arith, drop_more, append_assoc)

pub no_name_there : (rest : List Symbol) → IsName rest → NoName rest → ⊥
no_name_there [] is none = is
no_name_there (name t p ∷ xs) is none = none
no_name_there (_ ∷ xs) is none = is

pub no_number_there : (rest : List Symbol) → IsNumber rest → NoNumber rest → ⊥
no_number_there [] is none = is
no_number_there (number n ∷ xs) is none = none
no_number_there (_ ∷ xs) is none = is

-- one more part was counted at the symbol
abbrev pub HasCounted : Part → Spot → Spot → Type 0
HasCounted p old mid = (count_of_part old.counts p < limit p)
    × (mid ≡ record old { counts = bump p old.counts })

counted_takes : (p : Part) (old mid new : Spot) (x : Symbol) → HasCounted p old mid
    → Takes mid new x [] → Takes old new x (p ∷ [])
counted_takes p old mid new x c t = grind (arith, one_allowed)

counted_beyond : (p : Part) (old mid : Spot) → HasCounted p old mid
    → IsBeyond [] mid.counts mid.rest → IsBeyond (p ∷ []) old.counts old.rest
counted_beyond p old mid c b = grind (arith, one_allowed)

-- where a part begins with a token of a kind
pub token_counted : {A : Type 0} (symbol : A → Symbol) (NoMemory : Type 0)
    (Is IsNo : List Symbol → Type 0) → ((rest : List Symbol) → Is rest → IsNo rest → ⊥)
    → (p : Part) (old mid new : Spot) (r : Result A ParseError) → Is old.rest → HasCounted p old mid
    → ReadsToken symbol NoMemory Is IsNo [] mid new r
    → ReadsToken symbol NoMemory Is IsNo (p ∷ []) old new r
token_counted symbol NoMemory Is IsNo apart p old mid new (Ok x) is c t =
    counted_takes p old mid new _ c t
token_counted symbol NoMemory Is IsNo apart p old mid new (Err errors.OutOfMemory) is c t = t
token_counted symbol NoMemory Is IsNo apart p old mid new (Err (errors.Fault Unexpected)) is c t =
    absurd (apart old.rest is (subst IsNo (ap (λ s. s.rest) c.1) t.0))
token_counted symbol NoMemory Is IsNo apart p old mid new (Err (errors.Fault TooDeep)) is c t = t
token_counted symbol NoMemory Is IsNo apart p old mid new (Err (errors.Fault TooMany)) is c t =
    (counted_beyond p old mid c t.0, t.1 ∙ ap (λ s. s.rest) c.1, is)

pub token_not_counted : {A : Type 0} (symbol : A → Symbol) (NoMemory : Type 0)
    (Is IsNo : List Symbol → Type 0) → (Is [] → ⊥) → (p : Part) (old new : Spot) (e : ParseError)
    → Is old.rest → (e ≡ errors.Fault TooMany) × (limit p ≤ count_of_part old.counts p)
    × (new ≡ old) → ReadsToken symbol NoMemory Is IsNo (p ∷ []) old new (Err e)
token_not_counted symbol NoMemory Is IsNo there p old new e is c =
    subst (λ f. ReadsToken symbol NoMemory Is IsNo (p ∷ []) old new (Err f)) (sym c.0)
    (beyond_token Is there p old.counts old.rest is c.1, ap (λ s. s.rest) c.2, is)

f_length : {A B : Type 0} (f : A → B) (old new : List A) (x : B) → map f old ≡ x ∷ map f new
    → length new ≤ length old
f_length f old new x e = omega (arith, ap length e, length-map old f, length-map new f)

-- fewer tokens remain
pub shorter : (old new : Parser) (x : Symbol) (ps : List Part)
    → Takes (spot_of old) (spot_of new) x ps → length new.rest.now ≤ length old.rest.now
shorter old new x ps t =
    f_length (λ t. symbol_of t.kind t.offset) old.rest.now new.rest.now x t.next
