use Rattle.std.proofs.{Common.{◌≡◌, ◌≤◌, ◌%◌, ◌^◌, ◌∙◌, ℕ, Bool, true, List, [], ◌∷◌, Fits, ap, ap₂, arith, cond, leb, length, map, refl, w8}, lemmas.Bool.{agree_below, agree_below_at}, lemmas.List.length-map, lemmas.Simd.{mask_l-mod, splat_is_map, zip2_of_maps, zip2_splat}}
use lib.Bits.{bit_or}
use lib.Lanes.{Each1, mask_l, top}
use Rattle.star_reader.specs.Private.Fronts.{is_stop}
use Rattle.star_reader.proofs.front.stops.Goals as goal

-- a lane that was computed from a byte says whether the byte passes
each : (f : ℕ → ℕ) (q : ℕ → Bool) (v : List ℕ) → agree_below (λ x. top 7 (f x)) q 256 ≡ true
    → Each1 (Fits w8) v → map (top 7) (map f v) ≡ map q v
each f q [] same fits = refl
each f q (x ∷ v) same fits =
    ap₂ (λ b bs. b ∷ bs) (agree_below_at (λ x. top 7 (f x)) q 256 x same fits.0.fits)
    (each f q v same fits.1)

mask_is : (f : ℕ → ℕ) (q : ℕ → Bool) (v lanes : List ℕ) → length v ≤ 64 → Each1 (Fits w8) v
    → lanes ≡ map f v → agree_below (λ x. top 7 (f x)) q 256 ≡ true
    → mask_l (map (top 7) lanes) % 2 ^ 64 ≡ mask_l (map q v)
mask_is f q v lanes few fits computed same =
    ap (λ l. mask_l l % 2 ^ 64) (ap (map (top 7)) computed ∙ each f q v same fits)
    ∙ mask_l-mod (map q v) 64 (omega (arith, few, length-map v q))

pub returns : goal.returns
returns c =
    let v = c.args.lanes in
    let long = c.fits-lanes.0 in
    mask_is _ is_stop v _ (omega (arith, long)) c.fits-lanes.1
    (zip2_of_maps bit_or _ _ v (zip2_splat _ v 16 124 long)
    (zip2_of_maps (λ a b. cond (leb a b) 255 0) _ _ v (splat_is_map v 16 95 long)
    (zip2_splat {Y = ℕ} _ v 16 32 long))) refl
