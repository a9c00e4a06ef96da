-- Texts one after another.
use Rattle.std.{proofs.Common.{◌≡◌, ℕ, zero, suc, ◌+◌, ◌-◌, ◌<◌, ◌≤◌, List, [], ◌∷◌, ◌++◌, Some, take, drop, length, get_or, slice_get, slice_range, ap, ◌∙◌, refl, arith, length-drop}, proofs.Math.Seq.{drop-append_seam, take-length}, proofs.lemmas.List.{get_or_default, take-append-le, drop-append-le}, specs.List.All}
use Rattle.star_flat.specs.Private.Cut.{texts_from, IsCut, text_start}

pub length-texts_from : (s : ℕ) (b es : List ℕ) → length (texts_from s b es) ≡ length es
unfolding texts_from
length-texts_from s b [] = refl
length-texts_from s b (e ∷ es) = ap suc (length-texts_from e b es)

pub text_there : (s : ℕ) (b es : List ℕ) (p : ℕ) → p < length es
    → slice_get (texts_from s b es) p ≡ Some (slice_range b (text_start s es p) (get_or es p 0))
unfolding texts_from text_start
text_there s b [] p h = absurd (omega arith)
text_there s b (e ∷ es) zero h = refl
text_there s b (e ∷ es) (suc p) h = text_there e b es p (omega arith)

-- the last end is no earlier than the first beginning
pub cut_le : (s : ℕ) (es : List ℕ) (all : ℕ) → IsCut s es all → s ≤ all
unfolding IsCut
cut_le s [] all c = omega arith
cut_le s (e ∷ es) all c = let rest = cut_le e es all c.1 in omega arith

pub begins_before : (s : ℕ) (es : List ℕ) (all p : ℕ) → IsCut s es all → p < length es
    → text_start s es p ≤ get_or es p 0
unfolding IsCut text_start
begins_before s [] all p c h = absurd (omega arith)
begins_before s (e ∷ es) all zero c h = c.0
begins_before s (e ∷ es) all (suc p) c h = begins_before e es all p c.1 (omega arith)

pub ends_within : (s : ℕ) (es : List ℕ) (all p : ℕ) → IsCut s es all → p < length es
    → get_or es p 0 ≤ all
unfolding IsCut
ends_within s [] all p c h = absurd (omega arith)
ends_within s (e ∷ es) all zero c h = cut_le e es all c.1
ends_within s (e ∷ es) all (suc p) c h = ends_within e es all p c.1 (omega arith)

pub start_after : (s : ℕ) (es : List ℕ) (p : ℕ) → p < length es
    → text_start s es (suc p) ≡ get_or es p 0
unfolding text_start
start_after s [] p h = absurd (omega arith)
start_after s (e ∷ es) zero h = refl
start_after s (e ∷ es) (suc p) h = start_after e es p (omega arith)

pub upto_all : (es : List ℕ) (all end : ℕ) → IsCut 0 es all → all ≤ end → All (λ e. e ≤ end) es
upto_all es all end c more k d h =
    let there = ends_within 0 es all k c h in
    let is = get_or_default es k d 0 h in
    omega (arith, there, is, more)

-- one more text
same_range : (b t : List ℕ) (i j : ℕ) → i ≤ j → j ≤ length b
    → slice_range (b ++ t) i j ≡ slice_range b i j
same_range b t i j l h = grind (arith, length-drop, drop-append-le, take-append-le)

last_range : (b t : List ℕ) (s : ℕ) → s ≡ length b
    → slice_range (b ++ t) s (length b + length t) ≡ t
last_range b t s e =
    let many : length b + length t - length b ≡ length t = omega arith in
    ap (λ s. take (length b + length t - s) (drop s (b ++ t))) e
    ∙ ap (take (length b + length t - length b)) (drop-append_seam b t)
    ∙ ap (λ n. take n t) many ∙ take-length t

pub cut_more : (s : ℕ) (es : List ℕ) (all n : ℕ) → IsCut s es all
    → IsCut s (es ++ (all + n) ∷ []) (all + n)
unfolding IsCut
cut_more s [] all n c = (omega arith, refl)
cut_more s (e ∷ es) all n c = (c.0, cut_more e es all n c.1)

pub texts_more : (s : ℕ) (b t es : List ℕ) → IsCut s es (length b)
    → texts_from s (b ++ t) (es ++ (length b + length t) ∷ []) ≡ texts_from s b es ++ t ∷ []
unfolding IsCut texts_from
texts_more s b t [] c = ap (λ x. x ∷ []) (last_range b t s c)
texts_more s b t (e ∷ es) c = λ i. same_range b t s e c.0 (cut_le e es (length b) c.1) i
    ∷ texts_more e b t es c.1 i

pub none_cut : IsCut 0 [] 0
unfolding IsCut
none_cut = refl

pub no_texts : (b es : List ℕ) → es ≡ [] → texts_from 0 b es ≡ []
unfolding texts_from
no_texts b es e = ap (texts_from 0 b) e
