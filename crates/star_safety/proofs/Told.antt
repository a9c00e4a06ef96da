-- The context of each instruction is told by the scans round it and the instructions before it.
use Rattle.std.proofs.{Common.{◌≡◌, ℕ, ◌+◌, ◌*◌, ◌≤◌, true, false, List, [], ◌∷◌, ◌++◌, length, Option, Some, None, refl, sym, ap, subst, ◌∙◌, arith, append_assoc, append-nil, length-append}, lemmas.Grind.common_steps}
use Rattle.star_safety.proofs.{Common.{Act, AllKnown, BodyEnd, Code, CodeItem, Context, Each, Enclosing, IsTold, Op, Parts, Scan, Standing, Stop, TableId, Then, World, after_op, after_scan, at_end, at_first, code_size, eq-eqb, eqb-false, eqb-true, filter, filter-append, fold-append, has_scan, if◌then◌else◌, in_scan, instructions_of, is_instruction, is_target, item_key_shares, key_shares_together, last_or, last_writer, learned, list_any, list_any-append, lt-ltb, nat_eq, nat_lt, ne_eqb, op_key_shares, op_shares, option_map, or-false, result_known, rows_together, scope_of, shares_of, shares_together, standing, standing_result, target_of, with_entry, writes_to, ◌&&◌, ◌||◌}, Scopes.{AreBelow, below_more, none_above, all_there, not_all, EachOf, each_both, each_so, scoped_in, last_or_both, last_then, last_past, last_within}}

-- ---- from context to context

-- the context that some earlier instructions tell
pub record Tells (w : World) (parts : Parts) (round : List Enclosing) (x : Context) (at : ℕ)
    (earlier : List Standing) : Type 0 where
  pub number : at ≡ length (filter is_instruction earlier) + 1
  pub inside : x.inside ≡ nat_lt 0 (length round)
  pub met : x.met ≡ rows_together w round
  pub written : (r : ℕ) → x.written r ≡ list_any (writes_to r) earlier
  pub known : (r : ℕ) → x.known r
      ≡ option_map (standing_result w parts) (last_writer round r earlier)
  pub so_far : (g index : ℕ) → x.so_far g index ≡ shares_together parts earlier g index
  pub keys_so_far : (g index : ℕ) → x.keys_so_far g index ≡ key_shares_together earlier g index
  pub numbered : EachOf (λ i. i.number ≤ at) earlier
  pub round_below : AreBelow at round
  pub scopes_below : EachOf (λ i. AreBelow at (scope_of i)) earlier

-- one instruction more
one_more : (at : ℕ) (earlier : List Standing) (i : Standing) → is_instruction i ≡ true
    → at ≡ length (filter is_instruction earlier) + 1
    → at + 1 ≡ length (filter is_instruction (earlier ++ i ∷ [])) + 1
one_more at earlier i e h = grind (arith, common_steps, filter-append, i, length-append)

numbered_more : (at : ℕ) (earlier : List Standing) (i : Standing) → i.number ≤ at + 1
    → EachOf (λ j. j.number ≤ at) earlier → EachOf (λ j. j.number ≤ at + 1) (earlier ++ i ∷ [])
numbered_more at earlier i here h =
    each_both _ earlier (i ∷ []) (each_so _ _ earlier (λ j b. omega (arith, b)) h) (here, tt)

keys_more : (earlier : List Standing) (i : Standing) (g index : ℕ)
    → key_shares_together (earlier ++ i ∷ []) g index
    ≡ item_key_shares i.context i.item g index ++ key_shares_together earlier g index
keys_more earlier i g index =
    fold-append (λ so_far j. item_key_shares j.context j.item g index ++ so_far) [] earlier (i ∷ [])

-- a register of the context after an instruction that writes one
entry_or_kept : (w : World) (parts : Parts) (known : AllKnown) (t r : ℕ) (i : Standing)
    (last : Option Standing) → known r ≡ option_map (standing_result w parts) last
    → with_entry known t (standing_result w parts i) r
    ≡ option_map (standing_result w parts) (if nat_eq t r && true then Some i else last)
entry_or_kept w parts known t r i last kept =
    grind (arith, common_steps, standing_result, i, option_map, eq-eqb, eqb-true, ne_eqb, eqb-false)

pub tells_then : (w : World) (parts : Parts) (round : List Enclosing) (x : Context) (at : ℕ)
    (earlier : List Standing) (op : Op) → Tells w parts round x at earlier
    → Tells w parts round (after_op w parts x op) (at + 1)
    (earlier ++ record { number = at; round = round; context = x; item = Act op } ∷ [])
tells_then w parts round x at earlier op told = record {
  number = one_more at earlier i refl told.number;
  inside = told.inside;
  met = told.met;
  written = λ r. ap (λ b. b || is_target (target_of op) r) (told.written r)
      ∙ ap (λ b. list_any (writes_to r) earlier || b) (sym (or-false (is_target (target_of op) r)))
      ∙ sym (list_any-append (writes_to r) earlier (i ∷ []));
  known = λ r. known_after (target_of op) refl r
      ∙ ap (λ b. option_map (standing_result w parts)
      (if is_target (target_of op) r && b then Some i else last_writer round r earlier))
      (sym (all_there round))
      ∙ ap (option_map (standing_result w parts)) (sym (last_then round r earlier i));
  so_far = λ g a. ap (λ t. op_shares parts x op g a ++ t) (told.so_far g a)
      ∙ sym (fold-append (λ so_far j. shares_of parts j g a ++ so_far) [] earlier (i ∷ []));
  keys_so_far = λ g a. ap (λ t. op_key_shares x op g a ++ t) (told.keys_so_far g a)
      ∙ sym (keys_more earlier i g a);
  numbered = numbered_more at earlier i (omega arith) told.numbered;
  round_below = below_more at (at + 1) round (omega arith) told.round_below;
  scopes_below = each_both _ earlier (i ∷ [])
      (each_so _ _ earlier (λ j b. below_more at (at + 1) (scope_of j) (omega arith) b)
      told.scopes_below) (below_more at (at + 1) round (omega arith) told.round_below, tt);
}
  where
    i : Standing
    i = record { number = at; round = round; context = x; item = Act op }

    known_after : (o : Option ℕ) → target_of op ≡ o → (r : ℕ)
        → learned x.known o (result_known w parts x op) r
        ≡ option_map (standing_result w parts)
        (if is_target o r && true then Some i else last_writer round r earlier)
    known_after None p r = told.known r
    known_after (Some t) p r =
        entry_or_kept w parts x.known t r i (last_writer round r earlier) (told.known r)

pub tells_in : (w : World) (parts : Parts) (round : List Enclosing) (x : Context) (at : ℕ)
    (earlier : List Standing) (table : TableId) (r : ℕ) → Tells w parts round x at earlier
    → Tells w parts (record { number = at; table = table } ∷ round) (in_scan w x table r) (at + 1)
    (earlier ++ record { number = at; round = round; context = x; item = Scan table r } ∷ [])
tells_in w parts round x at earlier table r told = record {
  number = one_more at earlier i refl told.number;
  inside = sym (lt-ltb 0 (length (new ∷ round)) (omega arith));
  met = ap (λ n. n * w.size table) told.met;
  written = λ q. ap (λ b. b || nat_eq r q) (told.written q)
      ∙ ap (λ b. list_any (writes_to q) earlier || b) (sym (or-false (nat_eq r q)))
      ∙ sym (list_any-append (writes_to q) earlier (i ∷ []));
  known = λ q. entry_or_kept w parts x.known r q i (last_writer (new ∷ round) q earlier)
      (told.known q ∙ ap (option_map (standing_result w parts))
      (sym (last_within new round q earlier told.scopes_below)))
      ∙ ap (λ b. option_map (standing_result w parts)
      (if nat_eq r q && b then Some i else last_writer (new ∷ round) q earlier))
      (sym (all_there (new ∷ round)))
      ∙ ap (option_map (standing_result w parts)) (sym (last_then (new ∷ round) q earlier i));
  so_far = λ g a. told.so_far g a
      ∙ sym (fold-append (λ so_far j. shares_of parts j g a ++ so_far) [] earlier (i ∷ []));
  keys_so_far = λ g a. told.keys_so_far g a ∙ sym (keys_more earlier i g a);
  numbered = numbered_more at earlier i (omega arith) told.numbered;
  round_below = (omega arith, below_more at (at + 1) round (omega arith) told.round_below);
  scopes_below = each_both _ earlier (i ∷ [])
      (each_so _ _ earlier (λ j b. below_more at (at + 1) (scope_of j) (omega arith) b)
      told.scopes_below)
      ((omega arith, below_more at (at + 1) round (omega arith) told.round_below), tt);
}
  where
    new : Enclosing
    new = record { number = at; table = table }

    i : Standing
    i = record { number = at; round = round; context = x; item = Scan table r }

-- after a scan, where what stands at the end of its body is told
pub tells_after : (w : World) (parts : Parts) (round : List Enclosing) (x : Context) (at : ℕ)
    (earlier : List Standing) (table : TableId) (r : ℕ) (body : Code)
    → Tells w parts round x at earlier
    → (let new : Enclosing = record { number = at; table = table } in
    let inner = in_scan w x table r in
    let so_far = earlier ++ record { number = at; round = round; context = x; item = Scan table r }
    ∷ [] in
    let all = so_far ++ standing w parts (new ∷ round) inner (at + 1) body in
    Tells w parts (new ∷ round) (at_end w parts inner body) (at + 1 + code_size body) all
    → Tells w parts round (after_scan x (at_end w parts inner body)) (at + 1 + code_size body) all)
tells_after w parts round x at earlier table r body told ended =
    let inner = in_scan w x table r in
    let new : Enclosing = record { number = at; table = table } in
    let inside = standing w parts (new ∷ round) inner (at + 1) body in
    let scan : Standing = record { number = at; round = round; context = x; item = Scan table r } in
    let so_far = earlier ++ scan ∷ [] in
    let here : has_scan (new ∷ round) at ≡ true =
    ap (λ b. b || has_scan round at) (eq-eqb at at refl) in
    let gone : has_scan round at ≡ false = none_above at round told.round_below in
    record {
      number = ended.number;
      inside = told.inside;
      met = told.met;
      written = ended.written;
      known = λ q. told.known q
          ∙ ap (option_map (standing_result w parts))
          (sym (last_past round q earlier (scan ∷ [])
          (not_all round (new ∷ round) at gone here, tt))
          ∙ sym (last_past round q so_far inside
          (each_so _ _ inside (λ i h. not_all round (scope_of i) at gone h)
          (scoped_in w parts body (new ∷ round) inner (at + 1) at here))));
      so_far = ended.so_far;
      keys_so_far = ended.keys_so_far;
      numbered = ended.numbered;
      round_below = below_more at (at + 1 + code_size body) round (omega arith) told.round_below;
      scopes_below = ended.scopes_below;
    }

-- behind the end of some code
pub tells_stop : (w : World) (parts : Parts) (round : List Enclosing) (x : Context) (at : ℕ)
    (earlier : List Standing) → Tells w parts round x at earlier → Tells w parts round x at
    (earlier ++ record { number = at; round = round; context = x; item = BodyEnd } ∷ [])
tells_stop w parts round x at earlier told =
    grind (arith, common_steps, filter-append, append-nil, or-false, list_any-append)

-- ---- each instruction

-- each of some instructions is told by those before it, after some earlier ones
abbrev TellEach : World → Parts → List Standing → List Standing → Type 0
TellEach w parts earlier [] = Unit {0}
TellEach w parts earlier (i ∷ is) =
    IsTold w parts earlier i × TellEach w parts (earlier ++ i ∷ []) is

tell_both : (w : World) (parts : Parts) (earlier xs ys : List Standing)
    → TellEach w parts earlier xs → TellEach w parts (earlier ++ xs) ys
    → TellEach w parts earlier (xs ++ ys)
tell_both w parts earlier [] ys p q = subst (λ e. TellEach w parts e ys) (append-nil earlier) q
tell_both w parts earlier (x ∷ xs) ys p q = (
  p.0,
  tell_both w parts (earlier ++ x ∷ []) xs ys p.1
      (subst (λ e. TellEach w parts e ys) (sym (append_assoc earlier (x ∷ []) xs)) q),
)

told_of : (w : World) (parts : Parts) (round : List Enclosing) (x : Context) (at : ℕ)
    (earlier : List Standing) (item : CodeItem) → Tells w parts round x at earlier
    → IsTold w parts earlier (record { number = at; round = round; context = x; item = item })
told_of w parts round x at earlier item told = grind (arith, common_steps)

-- each instruction of some code is told, and so is what stands behind its end
pub tells_through : (w : World) (parts : Parts) (c : Code) (round : List Enclosing) (x : Context)
    (at end : ℕ) (earlier : List Standing) → at + code_size c ≡ end
    → Tells w parts round x at earlier → TellEach w parts earlier (standing w parts round x at c)
    × Tells w parts round (at_end w parts x c) end (earlier ++ standing w parts round x at c)
tells_through w parts Stop round x at end earlier e told =
    grind (arith, common_steps, told_of, standing, tells_stop)
tells_through w parts (Then op rest) round x at end earlier e told =
    let i : Standing = record { number = at; round = round; context = x; item = Act op } in
    let next = after_op w parts x op in
    let after = tells_through w parts rest round next (at + 1) end (earlier ++ i ∷ [])
    (omega (arith, e)) (tells_then w parts round x at earlier op told) in (
      (told_of w parts round x at earlier (Act op) told, after.0),
      subst (Tells w parts round (at_end w parts next rest) end)
          (append_assoc earlier (i ∷ []) (standing w parts round next (at + 1) rest)) after.1,
    )
tells_through w parts (Each table r body rest) round x at end earlier e told =
    let inner = in_scan w x table r in
    let next = after_scan x (at_end w parts inner body) in
    let new : Enclosing = record { number = at; table = table } in
    let scan : Standing = record { number = at; round = round; context = x; item = Scan table r } in
    let so_far = earlier ++ scan ∷ [] in
    let inside = standing w parts (new ∷ round) inner (at + 1) body in
    let behind = standing w parts round next (at + 1 + code_size body) rest in
    let ended = tells_through w parts body (new ∷ round) inner (at + 1) (at + 1 + code_size body)
    so_far refl (tells_in w parts round x at earlier table r told) in
    let after = tells_through w parts rest round next (at + 1 + code_size body) end
    (so_far ++ inside) (omega (arith, e))
    (tells_after w parts round x at earlier table r body told ended.1) in (
      (
        told_of w parts round x at earlier (Scan table r) told,
        tell_both w parts so_far inside behind ended.0 after.0,
      ),
      subst (Tells w parts round (at_end w parts next rest) end)
          (append_assoc so_far inside behind ∙ append_assoc earlier (scan ∷ []) (inside ++ behind))
          after.1,
    )

told_at : (w : World) (parts : Parts) (is : List Standing) (i : Standing)
    (behind earlier : List Standing)
    → TellEach w parts earlier (is ++ i ∷ behind) → IsTold w parts (earlier ++ is) i
told_at w parts [] i behind earlier h =
    subst (λ e. IsTold w parts e i) (sym (append-nil earlier)) h.0
told_at w parts (j ∷ is) i behind earlier h =
    subst (λ e. IsTold w parts e i) (append_assoc earlier (j ∷ []) is)
    (told_at w parts is i behind (earlier ++ j ∷ []) h.1)

pub nothing_told : (w : World) (parts : Parts) → Tells w parts [] at_first 1 []
nothing_told w parts = grind (arith, common_steps)

pub all_told : (w : World) (parts : Parts) (earlier later : List Standing) (i : Standing)
    → instructions_of w parts ≡ earlier ++ i ∷ later → IsTold w parts earlier i
all_told w parts earlier later i split = told_at w parts earlier i later []
    (subst (TellEach w parts []) split
    (tells_through w parts parts.body [] at_first 1 _ [] refl (nothing_told w parts)).0)

-- the last of the contexts is that at the end of the code
last_is : (w : World) (parts : Parts) (c : Code) (round : List Enclosing) (x : Context) (at : ℕ)
    (o : Option Standing) → option_map (λ i. i.context) (last_or o (standing w parts round x at c))
    ≡ Some (at_end w parts x c)
last_is w parts Stop round x at o = refl
last_is w parts (Then op rest) round x at o =
    last_is w parts rest round (after_op w parts x op) (at + 1) _
last_is w parts (Each table r body rest) round x at o =
    let inner = in_scan w x table r in
    let new : Enclosing = record { number = at; table = table } in
    let next = after_scan x (at_end w parts inner body) in
    ap (option_map (λ i. i.context))
    (last_or_both _ (standing w parts (new ∷ round) inner (at + 1) body)
    (standing w parts round next (at + 1 + code_size body) rest))
    ∙ last_is w parts rest round next (at + 1 + code_size body) _

pub last_context : (w : World) (parts : Parts)
    → option_map (λ i. i.context) (last_or None (instructions_of w parts))
    ≡ Some (at_end w parts at_first parts.body)
last_context w parts = last_is w parts parts.body [] at_first 1 None
