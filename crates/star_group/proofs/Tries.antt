-- Rows found by the digits of their keys: looking one up, and one row more.
use Rattle.star_group.{proofs.Common.{◌≡◌, ℕ, zero, suc, ◌+◌, ◌-◌, ◌*◌, ◌/◌, ◌%◌, ◌^◌, ◌<◌, ◌≤◌, List, [], ◌∷◌, ◌++◌, Bool, true, false, MatchBool, true≢false, length, drop, get_or, set, ap, sym, ◌∙◌, subst, refl, arith, below_more, get_or-set_same, get_or-set_other, ◌⊎◌, inl, inr, ⊎_elim, cases_eq, cases_lt, at_drop_more, get_or_append_left, get_or_past, get_or_default, get_or_push, length-append, length-set, ∥∥₁_elim, ∥∥₁_map, KeyPart, All, eq-value, Decides, signed_Decides, unsigned_Decides, pointwise, slice_eq-Decides, IsTrie, IsMissing, Leads, child, key_at, part_digit, turn_at, word_with}, specs.declared.keyed.key.KeyPart.TheVariants.{Number, Code}, specs.Private.Tries.{digit_at, node_at, word_from}}
use Rattle.star_program.specs.Rows.{cut}
use Rattle.std.proofs.lemmas.Grind.{common_steps}

abbrev part_eq : KeyPart → KeyPart → Bool
part_eq = eq-value.it

part_decides : (a b : KeyPart) → Decides (part_eq a b) (a ≡ b)
part_decides All All = (λ e. refl, λ e. refl)
part_decides All (Number y) = (λ e. absurd (true≢false (sym e)), λ e. cc e)
part_decides All (Code n) = (λ e. absurd (true≢false (sym e)), λ e. cc e)
part_decides (Number x) All = (λ e. absurd (true≢false (sym e)), λ e. cc e)
part_decides (Number x) (Number y) = grind (arith, signed_Decides)
part_decides (Number x) (Code n) = (λ e. absurd (true≢false (sym e)), λ e. cc e)
part_decides (Code m) All = (λ e. absurd (true≢false (sym e)), λ e. cc e)
part_decides (Code m) (Number y) = (λ e. absurd (true≢false (sym e)), λ e. cc e)
part_decides (Code m) (Code n) = grind (arith, unsigned_Decides)

-- what the test of two keys tells
pub keys_told : (b : Bool) (ps rs : List KeyPart) → b ≡ pointwise part_eq ps rs
    → MatchBool b (ps ≡ rs) (ps ≡ rs → ⊥)
keys_told b ps rs e = grind (arith, slice_eq-Decides, part_decides, true≢false)

-- ---- the digits of a key

-- one part more of the word
pub word_on : (word : ℕ) (key : List KeyPart) (index : ℕ) → index < length key
    → word_from word (drop index key)
    ≡ word_from (word_with word (get_or key index All)) (drop (index + 1) key)
unfolding word_from
word_on word key index h = at_drop_more (word_from word) key index All h

pub word_done : (word : ℕ) (key : List KeyPart) (n : ℕ) → length key ≤ n
    → word_from word (drop n key) ≡ word
unfolding word_from
word_done word [] zero h = refl
word_done word [] (suc n) h = refl
word_done word (part ∷ key) zero h = absurd (omega (arith, h))
word_done word (part ∷ key) (suc n) h = word_done word key n (omega (arith, h))

pub digit_of_word : (width : ℕ) (key : List KeyPart) (depth turn : ℕ) → depth < 32
    → turn ≡ turn_at depth → word_from 0 key / 2 ^ (2 * turn) % 4 ≡ digit_at width key depth
unfolding digit_at
digit_of_word width key depth turn low is = grind arith

pub digit_of_part : (width : ℕ) (key : List KeyPart) (depth : ℕ) → (depth < 32 → ⊥)
    → part_digit (get_or key ((depth - 32) % width) All) ((depth - 32) / width)
    ≡ digit_at width key depth
unfolding digit_at
digit_of_part width key depth high = grind arith

no_prop : IsProp ⊥
no_prop = hlevel

pub apart_when : {P : Type 0} (b : Bool) → MatchBool b P (P → ⊥) → b ≡ false → P → ⊥
apart_when true told e = absurd (true≢false e)
apart_when false told e = told

-- `depth` digits lead to this node, and no row on the way has the key
pub record IsGoneDown (width : ℕ) (ks : List (List KeyPart)) (links : List (List ℕ))
    (key : List KeyPart) (depth node : ℕ) : Type 0 where
  pub leads : Leads width links key depth node
  pub within : node < length links
  pub deep : depth ≤ node
  pub others : (i : ℕ) → i < depth → key_at ks (node_at width links key (suc i) - 1) ≡ key → ⊥

module _ (width : ℕ) (ks : List (List KeyPart)) (links : List (List ℕ)) (key : List KeyPart)
    (trie : IsTrie width ks links) where
  pub start : IsGoneDown width ks links key 0 0
  unfolding node_at
  start = grind arith

  module _ (depth node digit : ℕ) (down : IsGoneDown width ks links key depth node)
      (is : digit ≡ digit_at width key depth) where
    next_is : node_at width links key (suc depth) ≡ child links node digit
    unfolding node_at
    next_is = λ i. child links (down.leads.end i) (sym is i)

    pub further : (next : ℕ) → next ≡ child links node digit → 0 < next
        → (key_at ks (next - 1) ≡ key → ⊥) → IsGoneDown width ks links key (depth + 1) next
    further next e more other = grind (arith, next_is, below_more, key_at)

    top : node_at width links key zero ≡ 0
    unfolding node_at
    top = refl

    pub missing : digit < 4 → child links node digit ≡ 0 → IsMissing width ks links key node digit
    missing few empty = record {
      depth = depth;
      leads = down.leads;
      next = is;
      few = few;
      within = down.within;
      empty = empty;
      none = none;
    }
      where
        first : (n : ℕ) → Leads width links key zero (n + 1) → ⊥
        first n leads = omega (arith, leads.end, top)

        at : (n e : ℕ) → key_at ks n ≡ key → Leads width links key e (n + 1)
            → (depth < e) ⊎ (e ≤ depth) → ⊥
        at n e same leads (inl deeper) = let more = leads.steps depth deeper in
            omega (arith, more, next_is, empty)
        at n zero same leads (inr h) = first n leads
        at n (suc e) same leads (inr h) = down.others e (omega (arith, h))
            (ap (λ m. key_at ks (m - 1)) leads.end
            ∙ ap (key_at ks) (let b : n + 1 - 1 ≡ n = omega arith in b) ∙ same)

        none : (n : ℕ) → n < length ks → key_at ks n ≡ key → ⊥
        none n h same = ∥∥₁_elim (trie.reached n h) no_prop
            (λ r. at n r.0 same (subst (λ k. Leads width links k r.0 (n + 1)) same r.1)
            (cases_lt depth r.0))

-- ---- one row more

abbrev fresh : List ℕ
fresh = 0 ∷ 0 ∷ 0 ∷ 0 ∷ []

fresh_none : (g : ℕ) → get_or fresh g 0 ≡ 0
fresh_none it = grind arith

no_keys : (width : ℕ) → IsTrie width [] (fresh ∷ [])
no_keys width = record {
  many = refl;
  wide = wide;
  below = below;
  reached = λ n h. absurd (omega (arith, h));
  once = λ i j h k same. absurd (omega (arith, h));
}
  where
    wide : (node : ℕ) → node < 1 → length (get_or (fresh ∷ []) node []) ≡ 4
    wide zero h = refl
    wide (suc node) h = absurd (omega (arith, h))

    below : (node digit : ℕ) → 0 < child (fresh ∷ []) node digit
        → (node < child (fresh ∷ []) node digit) × (child (fresh ∷ []) node digit < 1)
    below zero digit there = absurd (omega (arith, there, fresh_none digit))
    below (suc node) digit there = absurd (omega (arith, there))

-- with no keys there is the node above all alone
pub none_cut : (width : ℕ) (parts : List KeyPart) (links : List (List ℕ)) → links ≡ fresh ∷ []
    → IsTrie width (cut width 0 parts) links
unfolding cut
none_cut width parts links is = subst (IsTrie width []) (sym is) (no_keys width)

-- the links with those of one node more, to which this digit leads
abbrev pub linked : List (List ℕ) → ℕ → ℕ → List (List ℕ)
linked links node digit =
    set (links ++ fresh ∷ []) node (set (get_or (links ++ fresh ∷ []) node []) digit (length links))

module _ (width : ℕ) (ks : List (List KeyPart)) (links : List (List ℕ)) (key : List KeyPart)
    (node digit : ℕ) (trie : IsTrie width ks links)
    (slot : IsMissing width ks links key node digit) where
  more_links : length (links ++ fresh ∷ []) ≡ length links + 1
  more_links = length-append links (fresh ∷ [])

  kept : (m : ℕ) → m < length links → get_or (links ++ fresh ∷ []) m [] ≡ get_or links m []
  kept m h = get_or_append_left links (fresh ∷ []) [] m h

  to_new : child (linked links node digit) node digit ≡ length links
  to_new =
      let wide : digit < length (get_or (links ++ fresh ∷ []) node []) =
      omega (arith, slot.few, ap length (kept node slot.within), trie.wide node slot.within) in
      ap (λ l. get_or l digit 0)
      (get_or-set_same (links ++ fresh ∷ []) node _ [] (omega (arith, slot.within, more_links)))
      ∙ get_or-set_same (get_or (links ++ fresh ∷ []) node []) digit (length links) 0 wide

  -- the new node has nothing below it
  added : (m g : ℕ) → child (links ++ fresh ∷ []) m g ≡ child links m g
  added m g =
      grind (arith, common_steps, cases_lt, cases_eq, get_or_past, kept, get_or_push, fresh_none)

  -- a link is as it was, or it is the new one
  link : (m g : ℕ) → (child (linked links node digit) m g ≡ child links m g)
      ⊎ ((m ≡ node) × (g ≡ digit))
  link m g = grind (arith, cases_eq, get_or-set_same, more_links, get_or-set_other, added)

  -- a link that was there is there
  stays : (m g : ℕ) → 0 < child links m g → child (linked links node digit) m g ≡ child links m g
  stays m g there = ⊎_elim (λ e. e)
      (λ f. let none = (λ i. child links (f.0 i) (f.1 i)) ∙ slot.empty in
      absurd (omega (arith, none, there))) (link m g)

  path_stays : (k : List KeyPart) (depth : ℕ)
      → ((i : ℕ) → i < depth → 0 < node_at width links k (suc i))
      → node_at width (linked links node digit) k depth ≡ node_at width links k depth
  unfolding node_at
  path_stays k zero steps = refl
  path_stays k (suc d) steps = ap (λ m. child (linked links node digit) m (digit_at width k d))
      (path_stays k d (λ i h. steps i (omega (arith, h))))
      ∙ stays (node_at width links k d) (digit_at width k d) (steps d (omega arith))

  leads_stays : (k : List KeyPart) (depth end : ℕ) → Leads width links k depth end
      → Leads width (linked links node digit) k depth end
  leads_stays k depth end leads = grind (arith, path_stays)

  leads_new : Leads width (linked links node digit) key (slot.depth + 1) (length links)
  unfolding node_at
  leads_new = record {
    steps = below_more (λ i. 0 < node_at width (linked links node digit) key (suc i)) slot.depth
        before.steps (omega (arith, last, slot.within));
    end = ap (node_at width (linked links node digit) key)
        (let one : slot.depth + 1 ≡ suc slot.depth = omega arith in one) ∙ last;
  }
    where
      before : Leads width (linked links node digit) key slot.depth node
      before = leads_stays key slot.depth node slot.leads

      last : node_at width (linked links node digit) key (suc slot.depth) ≡ length links
      last = step ∙ to_new
        where
          step : node_at width (linked links node digit) key (suc slot.depth)
              ≡ child (linked links node digit) node digit
          step = ap (λ m. child (linked links node digit) m (digit_at width key slot.depth))
              before.end ∙ ap (child (linked links node digit) node) (sym slot.next)

  old_key : (n : ℕ) → n < length ks → key_at (ks ++ key ∷ []) n ≡ key_at ks n
  old_key n h = get_or_append_left ks (key ∷ []) [] n h

  new_key : key_at (ks ++ key ∷ []) (length ks) ≡ key
  new_key = get_or_push ks key [] (length ks) refl

  more_rows : length (ks ++ key ∷ []) ≡ length ks + 1
  more_rows = length-append ks (key ∷ [])

  all_links : length (linked links node digit) ≡ length links + 1
  all_links = length-set (links ++ fresh ∷ []) node _ ∙ more_links

  pub one_more : IsTrie width (ks ++ key ∷ []) (linked links node digit)
  one_more = record {
    many = omega (arith, all_links, more_rows, trie.many);
    wide = wide;
    below = below;
    reached = reached;
    once = once;
  }
    where
      wide : (m : ℕ) → m < length (linked links node digit)
          → length (get_or (linked links node digit) m []) ≡ 4
      wide m h = by (cases_eq m node) (cases_lt m (length links))
        where
          by : (m ≡ node) ⊎ (m ≡ node → ⊥) → (m < length links) ⊎ (length links ≤ m)
              → length (get_or (linked links node digit) m []) ≡ 4
          by (inl e) c = ap (λ k. length (get_or (linked links node digit) k [])) e
              ∙ ap length (get_or-set_same (links ++ fresh ∷ []) node _ []
              (omega (arith, slot.within, more_links)))
              ∙ length-set (get_or (links ++ fresh ∷ []) node []) digit (length links)
              ∙ ap length (kept node slot.within) ∙ trie.wide node slot.within
          by (inr ne) (inl low) = ap length
              (get_or-set_other (links ++ fresh ∷ []) node m _ [] ne ∙ kept m low) ∙ trie.wide m low
          by (inr ne) (inr high) =
              let last : length links ≡ m = omega (arith, h, high, all_links) in
              ap length (get_or-set_other (links ++ fresh ∷ []) node m _ [] ne
              ∙ get_or_push links fresh [] m last)

      below : (m g : ℕ) → 0 < child (linked links node digit) m g
          → (m < child (linked links node digit) m g)
          × (child (linked links node digit) m g < length (linked links node digit))
      below m g there = by (link m g)
        where
          by : (child (linked links node digit) m g ≡ child links m g) ⊎ ((m ≡ node) × (g ≡ digit))
              → (m < child (linked links node digit) m g)
              × (child (linked links node digit) m g < length (linked links node digit))
          by (inl e) = let b = trie.below m g (subst (λ n. 0 < n) e there) in
              (omega (arith, e, b.0), omega (arith, e, b.1, all_links))
          by (inr f) = let new = (λ i. child (linked links node digit) (f.0 i) (f.1 i)) ∙ to_new in
              (omega (arith, new, f.0, slot.within), omega (arith, new, all_links))

      which : (n : ℕ) → n < length (ks ++ key ∷ []) → (n < length ks) ⊎ (length ks ≡ n)
      which n h = by (cases_lt n (length ks))
        where
          by : (n < length ks) ⊎ (length ks ≤ n) → (n < length ks) ⊎ (length ks ≡ n)
          by (inl low) = inl low
          by (inr high) = inr (omega (arith, h, high, more_rows))

      reached : (n : ℕ) → n < length (ks ++ key ∷ [])
          → ∥ ((depth : ℕ) × Leads width (linked links node digit) (key_at (ks ++ key ∷ []) n) depth
          (n + 1)) ∥₁
      reached n h = by (which n h)
        where
          by : (n < length ks) ⊎ (length ks ≡ n)
              → ∥ ((depth : ℕ) × Leads width (linked links node digit) (key_at (ks ++ key ∷ []) n)
              depth (n + 1)) ∥₁
          by (inl low) = ∥∥₁_map (trie.reached n low)
              (λ r. (
                r.0,
                subst (λ k. Leads width (linked links node digit) k r.0 (n + 1))
                    (sym (old_key n low)) (leads_stays (key_at ks n) r.0 (n + 1) r.1),
              ))
          by (inr last) =
              let to : length links ≡ n + 1 = trie.many ∙ ap (λ m. m + 1) last in
              let is = sym new_key ∙ ap (key_at (ks ++ key ∷ [])) last in
              ∣ (
                slot.depth + 1,
                coe 0 1 (i. Leads width (linked links node digit) (is i)
                    (slot.depth + 1) (to i)) leads_new,
              ) ∣₁

      once : (i j : ℕ) → i < length (ks ++ key ∷ []) → j < length (ks ++ key ∷ [])
          → key_at (ks ++ key ∷ []) i ≡ key_at (ks ++ key ∷ []) j → i ≡ j
      once i j hi hj same = by (which i hi) (which j hj)
        where
          is_new : (n : ℕ) → length ks ≡ n → key_at (ks ++ key ∷ []) n ≡ key
          is_new n last = ap (key_at (ks ++ key ∷ [])) (sym last) ∙ new_key

          by : (i < length ks) ⊎ (length ks ≡ i) → (j < length ks) ⊎ (length ks ≡ j) → i ≡ j
          by (inl p) (inl q) = trie.once i j p q (sym (old_key i p) ∙ same ∙ old_key j q)
          by (inr p) (inr q) = sym p ∙ q
          by (inl p) (inr q) = absurd (slot.none i p (sym (old_key i p) ∙ same ∙ is_new j q))
          by (inr p) (inl q) = absurd (slot.none j q (sym (old_key j q) ∙ sym same ∙ is_new i p))

  -- as the code writes it
  pub is_trie_after : (fs : List (List KeyPart)) (ls : List (List ℕ)) (inner default : List ℕ)
      (number : ℕ) → fs ≡ ks ++ key ∷ [] → ls ≡ links ++ fresh ∷ [] → inner ≡ get_or ls node default
      → number ≡ length links → IsTrie width fs (set ls node (set inner digit number))
  is_trie_after fs ls inner default number rows more at is =
      let there : node < length ls = omega (arith, slot.within, ap length more, more_links) in
      let first : inner ≡ get_or ls node [] = at ∙ get_or_default ls node default [] there in
      coe 1 0 (i. IsTrie width (rows i) (set (more i) node
      (set ((first ∙ ap (λ l. get_or l node []) more) i) digit (is i)))) one_more
