-- Texts that are told by their positions among other texts.
use Rattle.std.{proofs.Common.{◌≡◌, ℕ, zero, suc, ◌+◌, ◌<◌, List, [], ◌∷◌, ◌++◌, Some, length, get_or, map, take, refl, sym, ap, ◌∙◌, arith, length-append, subst, ⊎_elim}, proofs.lemmas.List.{get_or_append_left, get_or_default, get_or_push, get_or-map, length-map, map-append, take_more}, proofs.lemmas.List.Elements.{All-get_or, All-head, All-map, All-push, All-tail, All-weaker, Contains-append_left, Contains-push}, proofs.lemmas.Bool.cases_eq, proofs.lemmas.Option.{get_or_from_slice_get, slice_get_within}, proofs.lemmas.Simd.map-map, specs.Prelude.{Result, Ok, Err, IfOk, OnErr, OnOk}, specs.List.{All, Contains, slice_get}}
use Rattle.star_flat.specs.{Repeated.AreRepeated, Repeated.texts_at_indexes, declared.met.Met.Met, Private.Met.IsMet}

-- what follows from what holds of each kind of answer
pub either : {T E A B G : Type 0} (r : Result T E) → OnOk r A → OnErr r B → (A → G) → (B → G) → G
either (Ok x) ok err f g = f ok
either (Err e) ok err f g = g err

pub either_of_two : {T E A B C G : Type 0} (r : Result T E) → OnOk r A → OnOk r B → OnErr r C
    → (A → B → G) → (C → G) → G
either_of_two (Ok x) a b err f g = f a b
either_of_two (Err e) a b err f g = g err

pub on_ok : {T E A G : Type 0} (r : Result T E) → OnOk r A → (A → G) → OnOk r G
on_ok (Ok x) ok f = f ok
on_ok (Err e) ok f = tt

pub on_two : {T E A B G : Type 0} (r : Result T E) → OnOk r A → OnOk r B → (A → B → G) → OnOk r G
on_two (Ok x) a b f = f a b
on_two (Err e) a b f = tt

pub if_all : {T E : Type 0} {A B C D G : T → Type 0} (r : Result T E) → IfOk r A → IfOk r B
    → IfOk r C → IfOk r D → ((x : T) → A x → B x → C x → D x → G x) → IfOk r G
if_all (Ok x) a b c d f = f x a b c d
if_all (Err e) a b c d f = tt

module _ (ts : List (List ℕ)) (ps : List ℕ) (repeated : AreRepeated ts ps) where
  -- one more row with a text that is kept
  pub again : (p : ℕ) (t : List ℕ) → slice_get ts p ≡ Some t → AreRepeated ts (ps ++ p ∷ [])
  again p t there = record {
    within = All-push (λ p. p < length ts) ps p repeated.within (slice_get_within ts p t there);
    met = λ q h. Contains-append_left ps (p ∷ []) q (repeated.met q h);
    few = omega (arith, repeated.few, length-append ps (p ∷ []));
  }

  pub text_again : (p : ℕ) (t : List ℕ) → slice_get ts p ≡ Some t
      → texts_at_indexes ts (ps ++ p ∷ []) ≡ texts_at_indexes ts ps ++ t ∷ []
  text_again p t there = grind (arith, map-append, get_or_from_slice_get)

-- texts that are kept later change none
same_texts : (ts us : List (List ℕ)) (ps : List ℕ) → All (λ p. p < length ts) ps
    → texts_at_indexes (ts ++ us) ps ≡ texts_at_indexes ts ps
same_texts ts us [] within = refl
same_texts ts us (p ∷ ps) within =
    λ i. get_or_append_left ts us [] p (All-head (λ q. q < length ts) p ps within) i
    ∷ same_texts ts us ps (All-tail (λ q. q < length ts) p ps within) i

module _ (ts : List (List ℕ)) (ps : List ℕ) (repeated : AreRepeated ts ps) (t : List ℕ) where
  more : length (ts ++ t ∷ []) ≡ length ts + 1
  more = length-append ts (t ∷ [])

  -- one more row with a text that is kept for it
  pub anew : AreRepeated (ts ++ t ∷ []) (ps ++ length ts ∷ [])
  anew = record {
    within = All-push (λ p. p < length (ts ++ t ∷ [])) ps (length ts)
        (All-weaker (λ p. p < length ts) (λ p. p < length (ts ++ t ∷ []))
        (λ p h. omega (arith, h, more)) ps repeated.within) (omega (arith, more));
    met = λ p h. ⊎_elim {C = Contains (ps ++ length ts ∷ []) p}
        (λ last. subst (λ q. Contains (ps ++ length ts ∷ []) q) (sym last)
        (Contains-push ps (length ts)))
        (λ other. Contains-append_left ps (length ts ∷ []) p
        (repeated.met p (omega (arith, h, more, other))))
        (cases_eq p (length ts));
    few = omega (arith, repeated.few, more, length-append ps (length ts ∷ []));
  }

  pub text_anew : texts_at_indexes (ts ++ t ∷ []) (ps ++ length ts ∷ [])
      ≡ texts_at_indexes ts ps ++ t ∷ []
  text_anew = grind (arith, map-append, same_texts, get_or_push)

-- the position of one more row
pub indexes_more : (f : ℕ → ℕ) (ps : List ℕ) (row p : ℕ) (old new : List ℕ)
    → slice_get ps row ≡ Some p → old ≡ map f (take row ps) → new ≡ old ++ f p ∷ []
    → new ≡ map f (take (row + 1) ps)
indexes_more f ps row p old new at so_far pushed = pushed ∙ ap (λ xs. xs ++ f p ∷ []) so_far
    ∙ sym (ap (map f) (take_more ps row p (slice_get_within ps row p at))
    ∙ map-append f (take row ps) (get_or ps row p ∷ [])
    ∙ ap (λ q. map f (take row ps) ++ f q ∷ []) (get_or_from_slice_get ps row p p at))

-- positions of positions: of rows among some texts, and of these among different ones
module _ (ts ds : List (List ℕ)) (ps ns : List ℕ) (repeated : AreRepeated ts ps)
    (coded : AreRepeated ds ns) (same : texts_at_indexes ds ns ≡ ts) where
  pub count : length ns ≡ length ts
  count = sym (length-map ns (λ n. get_or ds n [])) ∙ ap length same

  same_text : (p : ℕ) → p < length ts → get_or ds (get_or ns p 0) [] ≡ get_or ts p []
  same_text p h = grind (arith, get_or-map, count)

  met : (d : ℕ) → d < length ds → Contains (map (λ p. get_or ns p 0) ps) d
  met d h =
      let there = coded.met d h in
      let row = repeated.met there.0 (omega (arith, there.1, count)) in (
        row.0,
        omega (arith, row.1, length-map ps (λ p. get_or ns p 0)),
        get_or-map (λ p. get_or ns p 0) ps row.0 there.0 d row.1
            ∙ ap (λ p. get_or ns p 0) row.2
            ∙ sym (get_or_default ns there.0 d 0 there.1) ∙ there.2,
      )

  pub indexes_coded : AreRepeated ds (map (λ p. get_or ns p 0) ps)
  indexes_coded = record {
    within = All-map (λ n. n < length ds) (λ p. get_or ns p 0) ps
        (All-weaker (λ p. p < length ts) (λ p. get_or ns p 0 < length ds)
        (λ p h. All-get_or (λ n. n < length ds) ns p 0 (omega (arith, h, count)) coded.within)
        ps repeated.within);
    met = met;
    few = omega (
      arith,
      coded.few,
      count,
      repeated.few,
      length-map ps (λ p. get_or ns p 0),
    );
  }

  pub texts_of_coded : texts_at_indexes ds (map (λ p. get_or ns p 0) ps) ≡ texts_at_indexes ts ps
  texts_of_coded = map-map (λ n. get_or ds n []) (λ p. get_or ns p 0) ps ∙ agree ps repeated.within
    where
      agree : (qs : List ℕ) → All (λ p. p < length ts) qs
          → map (λ p. get_or ds (get_or ns p 0) []) qs ≡ map (λ p. get_or ts p []) qs
      agree [] within = refl
      agree (q ∷ qs) within = λ i. same_text q (All-head (λ p. p < length ts) q qs within) i
          ∷ agree qs (All-tail (λ p. p < length ts) q qs within) i

  pub indexes_read : All (λ p. p < length ns) ps
  indexes_read = grind (arith, count)

-- a short text that is remembered is still kept where one more text is
pub met_more : (ts : List (List ℕ)) (t : List ℕ) (met : List Met) → All (IsMet ts) met
    → All (IsMet (ts ++ t ∷ [])) met
met_more ts t met h = All-weaker (IsMet ts) (IsMet (ts ++ t ∷ []))
    (λ m is few. still ts m.index (take m.len m.bytes) (is few)) met h
  where
    still : (us : List (List ℕ)) (p : ℕ) (x : List ℕ) → slice_get us p ≡ Some x
        → slice_get (us ++ t ∷ []) p ≡ Some x
    still [] zero x e = cc e
    still [] (suc p) x e = cc e
    still (u ∷ us) zero x e = e
    still (u ∷ us) (suc p) x e = still us p x e
