-- The key lists of puts.
use Rattle.star_group.proofs.{Common.{◌≡◌, Bool, true, false, ◌||◌, List, [], ◌∷◌, cond, sym, refl, true≢false, Decides, IsEquivalence, lists_equiv, list_any, Contains, slice_eq-Decides, Contains-from_any, list_any-from_Contains, contains_mapped, from_contains_map, laws-law, KeyValue, same_keys, Update, key_lists, puts_of}, GroupKeys.value_decides}

pub keys_equiv : IsEquivalence same_keys
keys_equiv = lists_equiv laws-law

pub keys_decide : (ks ls : List KeyValue) → Decides (same_keys ks ls) (ks ≡ ls)
keys_decide ks ls = slice_eq-Decides value_decides ks ls (same_keys ks ls) refl

pub listed : (us : List Update) (u : Update) → Contains us u
    → list_any (same_keys u.keys) (key_lists us) ≡ true
listed us u c = list_any-from_Contains keys_equiv u.keys (key_lists us)
    (contains_mapped (λ w. w.keys) us u c)

-- a key list that is there is that of a put
pub put_with : (keys : List KeyValue) (us : List Update)
    → list_any (same_keys keys) (key_lists us) ≡ true
    → (u : Update) × Contains us u × (u.keys ≡ keys)
put_with keys us h = from_contains_map (λ u. u.keys) us keys
    (Contains-from_any (λ ks ls. (keys_decide ks ls).0) keys (key_lists us) h)

pub some_put : (keys : List KeyValue) (us : List Update)
    → list_any (same_keys keys) (key_lists us) ≡ true
    → (u : Update) × (ws : List Update) × (puts_of keys us ≡ u ∷ ws)
some_put keys [] h = absurd (true≢false (sym h))
some_put keys (w ∷ us) h = by (same_keys keys w.keys) h (some_put keys us)
  where
    by : (b : Bool) → (b || list_any (same_keys keys) (key_lists us)) ≡ true
        → (list_any (same_keys keys) (key_lists us) ≡ true
        → (u : Update) × (ws : List Update) × (puts_of keys us ≡ u ∷ ws))
        → (u : Update) × (ws : List Update)
        × (cond b (w ∷ puts_of keys us) (puts_of keys us) ≡ u ∷ ws)
    by true h later = (w, puts_of keys us, refl)
    by false h later = later h
