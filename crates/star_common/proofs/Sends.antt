-- One more write of a text.
use Rattle.std.{proofs.Common.{◌≡◌, ◌+◌, ◌<◌, ◌≤◌, Bool, false, ℕ, List, [], ◌∷◌, ◌++◌, zero, suc, zero-add, length, ◌-◌, arith, Option, Some, None, take, drop, ◌∙◌, refl, append_assoc}, specs.Io.KnownBytes.Appends, proofs.lemmas.List.{length-drop, take_all}}

take-nil : {X : Type 0} (n : ℕ) → take {A = X} n [] ≡ []
take-nil zero = refl
take-nil (suc n) = refl

take-add : {X : Type 0} (i n : ℕ) (xs : List X) → take i xs ++ take n (drop i xs) ≡ take (i + n) xs
take-add zero n xs = rw zero-add refl
take-add (suc i) n [] = let e : suc i + n ≡ suc (i + n) = omega arith in rw (e, take-nil) refl
take-add (suc i) n (x ∷ xs) = let e : suc i + n ≡ suc (i + n) =
    omega arith in rw (e, take-add i n xs) refl

pub sends_more : (a b c : Option (List ℕ)) (i n : ℕ) (text : List ℕ) → Appends a b (take i text)
    → Appends b c (take n (drop i text)) → Appends a c (take (i + n) text)
sends_more None b c i n text h k = tt
sends_more (Some xs) None c i n text h k = absurd h
sends_more (Some xs) (Some ys) None i n text h k = k
sends_more (Some xs) (Some ys) (Some zs) i n text h k = grind (arith, append_assoc, take-add)

-- what `text[sent..]` is
pub rest_of : {X : Type 0} (text : List X) (sent : ℕ) → take (length text - sent) (drop sent text)
    ≡ drop sent text
rest_of text sent =
    take_all (length text - sent) (drop sent text) (omega (arith, length-drop sent text))

-- the first `sent` bytes of a text were written, and where there is one the sink has not failed
pub record HasSent (old new : Option (List ℕ)) (is_failed : Bool) (text : List ℕ)
    (sent : ℕ) : Type 0 where
  pub within : sent ≤ length text
  pub holds : Appends old new (take sent text)
  pub goes_on : 0 < sent → is_failed ≡ false
