-- One pass over the code of a program finds the first instruction that is refused.
use Rattle.std.proofs.{Common.{◌≡◌, ℕ, ◌+◌, ◌≤◌, Bool, true, false, List, [], ◌∷◌, ◌++◌, Option, Some, None, refl, sym, ap, ◌∙◌, arith, append_assoc, append-nil}, lemmas.Grind.common_steps}
use Rattle.star_safety.proofs.{Common.{Act, Code, CodeItem, Context, Each, Enclosing, Op, Parts, Scan, Standing, Stop, TableId, Then, World, after_op, after_scan, and_right, at_end, at_first, at_position, code_puts_to, code_size, eq-eqb, first_answer, first_reason, has_scan, in_one_of, in_scan, instructions_of, is_open, item_scope, le-ltb, list_any, list_any-append, lt-ltb, nat_lt, none_open, op_puts_to, op_reason, open_with, option_or, or-false, or_right, puts_to, reason_among, reason_of, scan_reason, scope_of, standing, ◌&&◌, ◌||◌}, Scopes.{AreBelow, any_with, any_has, EachOf, each_both, each_so, same_any, stand_in}, Told.{Tells, tells_then, tells_in, tells_after, tells_through, nothing_told}}

-- ---- the groups that some code puts to

puts_by_code : (w : World) (parts : Parts) (c : Code) (round : List Enclosing) (x : Context)
    (at g : ℕ) → list_any (puts_to g) (standing w parts round x at c) ≡ code_puts_to g c
puts_by_code w parts Stop round x at g = refl
puts_by_code w parts (Then op rest) round x at g = ap (λ b. op_puts_to g op || b)
    (puts_by_code w parts rest round (after_op w parts x op) (at + 1) g)
puts_by_code w parts (Each table r body rest) round x at g =
    let inner = in_scan w x table r in
    let later = after_scan x (at_end w parts inner body) in
    let new : Enclosing = record { number = at; table = table } in
    let behind = standing w parts round later (at + 1 + code_size body) rest in
    list_any-append (puts_to g) (standing w parts (new ∷ round) inner (at + 1) body) behind
    ∙ ap (λ b. b || list_any (puts_to g) behind)
    (puts_by_code w parts body (new ∷ round) inner (at + 1) g)
    ∙ ap (λ b. code_puts_to g body || b)
    (puts_by_code w parts rest round later (at + 1 + code_size body) g)

-- ---- numbers

-- the instructions of some code have numbers from its first on
numbered_from : (w : World) (parts : Parts) (c : Code) (round : List Enclosing) (x : Context)
    (at n : ℕ) → n ≤ at → EachOf (λ i. n ≤ i.number) (standing w parts round x at c)
numbered_from w parts Stop round x at n h = (h, tt)
numbered_from w parts (Then op rest) round x at n h =
    (h, numbered_from w parts rest round (after_op w parts x op) (at + 1) n (omega (arith, h)))
numbered_from w parts (Each table r body rest) round x at n h =
    let inner = in_scan w x table r in
    let new : Enclosing = record { number = at; table = table } in (
      h,
      each_both _ (standing w parts (new ∷ round) inner (at + 1) body) _
          (numbered_from w parts body (new ∷ round) inner (at + 1) n (omega (arith, h)))
          (numbered_from w parts rest round (after_scan x (at_end w parts inner body))
          (at + 1 + code_size body) n (omega (arith, h))),
    )

-- ---- open groups

-- groups are open that one of these instructions puts to in a scan round, or a later one
abbrev Opens : ℕ → List Enclosing → (ℕ → Bool) → List Standing → List Standing → Type 0
Opens g round pending is later =
    pending g ≡ (list_any (λ j. puts_to g j && in_one_of round j) is || list_any (puts_to g) later)

with_one : (p q some all : Bool) → (some || all) ≡ all
    → (((p && q) || some) || (p || all)) ≡ (p || all)
with_one true q some all h = or_right (q || some) true refl
with_one false q some all h = h

some_of_all : (p q : Standing → Bool) (is : List Standing)
    → (list_any (λ j. p j && q j) is || list_any p is) ≡ list_any p is
some_of_all p q [] = refl
some_of_all p q (i ∷ is) =
    with_one (p i) (q i) (list_any (λ j. p j && q j) is) (list_any p is) (some_of_all p q is)

and_true : (a b : Bool) → b ≡ true → (a && b) ≡ a
and_true true b e = e
and_true false b e = refl

-- the scans round an instruction are among those of its register's scope
below_round : (n : ℕ) (i : Standing) → AreBelow n (scope_of i) → AreBelow n i.round
below_round n i h = grind (arith, common_steps, item_scope)

open_merged : (e i s later ps : Bool) → (s || ps) ≡ ps
    → (((e || (i || s)) || later) || ps) ≡ (e || (i || (ps || later)))
open_merged e i s later ps h = grind (arith, common_steps)

scan_merged : (e b r later pb pr : Bool) → (b || pb) ≡ pb → (r || pr) ≡ pr
    → (((e || (b || r)) || later) || (pb || pr)) ≡ (((e || false) || pb) || (pr || later))
scan_merged e b r later pb pr h k = grind (arith, common_steps, or_right, or-false)

-- an instruction's open groups among all instructions
open_here : (g : ℕ) (round : List Enclosing) (x : Context) (at : ℕ) (item : CodeItem)
    (earlier behind : List Standing) → EachOf (λ j. j.number ≤ at) earlier
    → EachOf (λ j. at + 1 ≤ j.number) behind
    → (let i : Standing = record { number = at; round = round; context = x; item = item } in
    let opened : Standing → Bool = λ j. puts_to g j && in_one_of round j in
    is_open (earlier ++ i ∷ behind) i g
    ≡ (list_any opened earlier || (opened i || list_any (puts_to g) behind)))
open_here g round x at item earlier behind before after =
    let i : Standing = record { number = at; round = round; context = x; item = item } in
    let opened : Standing → Bool = λ j. puts_to g j && in_one_of round j in
    let counts : Standing → Bool =
    λ j. puts_to g j && (nat_lt at j.number || in_one_of round j) in
    let not_after : (j : Standing) → j.number ≤ at → counts j ≡ opened j =
    λ j h. ap (λ b. puts_to g j && (b || in_one_of round j)) (le-ltb at j.number h) in
    let is_after : (j : Standing) → at + 1 ≤ j.number → counts j ≡ puts_to g j =
    λ j h. ap (λ b. puts_to g j && (b || in_one_of round j)) (lt-ltb at j.number (omega (arith, h)))
    ∙ and_true (puts_to g j) true refl in
    list_any-append counts earlier (i ∷ behind)
    ∙ ap (λ b. b || (counts i || list_any counts behind))
    (same_any counts opened earlier (each_so _ _ earlier not_after before))
    ∙ ap (λ b. list_any opened earlier || (b || list_any counts behind)) (not_after i (omega arith))
    ∙ ap (λ b. list_any opened earlier || (opened i || b))
    (same_any counts (puts_to g) behind (each_so _ _ behind is_after after))

-- what the code after an instruction puts to is open, or was open already
open_told : (g : ℕ) (round : List Enclosing) (pending : ℕ → Bool) (earlier : List Standing)
    (i : Standing) (is later : List Standing) (ps : Bool) → list_any (puts_to g) is ≡ ps
    → Opens g round pending (earlier ++ i ∷ is) later
    → (let opened : Standing → Bool = λ j. puts_to g j && in_one_of round j in
    (pending g || ps) ≡ (list_any opened earlier || (opened i || list_any (puts_to g)
    (is ++ later))))
open_told g round pending earlier i is later ps puts opens =
    let opened : Standing → Bool = λ j. puts_to g j && in_one_of round j in
    ap (λ b. pending g || b) (sym puts)
    ∙ ap (λ b. b || list_any (puts_to g) is)
    (opens ∙ ap (λ b. b || list_any (puts_to g) later) (list_any-append opened earlier (i ∷ is)))
    ∙ open_merged (list_any opened earlier) (opened i) (list_any opened is)
    (list_any (puts_to g) later) (list_any (puts_to g) is)
    (some_of_all (puts_to g) (in_one_of round) is)
    ∙ ap (λ b. list_any opened earlier || (opened i || b)) (sym (list_any-append (puts_to g)
    is later))

-- in a scan, what its body and the code after it put to is open, or was open already
opened_in : (w : World) (parts : Parts) (table : TableId) (r : ℕ) (body rest : Code)
    (round : List Enclosing) (pending : ℕ → Bool) (x : Context) (at : ℕ)
    (earlier later : List Standing) (g : ℕ) → Tells w parts round x at earlier
    → Opens g round pending (earlier ++ standing w parts round x at (Each table r body rest)) later
    → (let new : Enclosing = record { number = at; table = table } in
    let inner = in_scan w x table r in
    let scan : Standing = record { number = at; round = round; context = x; item = Scan table r } in
    Opens g (new ∷ round) (open_with pending (Each table r body rest))
    ((earlier ++ scan ∷ []) ++ standing w parts (new ∷ round) inner (at + 1) body)
    (standing w parts round (after_scan x (at_end w parts inner body)) (at + 1 + code_size body)
    rest
    ++ later))
opened_in w parts table r body rest round pending x at earlier later g told opens =
    let inner = in_scan w x table r in
    let next = after_scan x (at_end w parts inner body) in
    let new : Enclosing = record { number = at; table = table } in
    let scan : Standing = record { number = at; round = round; context = x; item = Scan table r } in
    let inside = standing w parts (new ∷ round) inner (at + 1) body in
    let behind = standing w parts round next (at + 1 + code_size body) rest in
    let opened : Standing → Bool = λ j. puts_to g j && in_one_of round j in
    let deep : Standing → Bool = λ j. puts_to g j && in_one_of (new ∷ round) j in
    let here : has_scan (new ∷ round) at ≡ true =
    ap (λ b. b || has_scan round at) (eq-eqb at at refl) in
    let same_earlier : list_any deep earlier ≡ list_any opened earlier =
    same_any deep opened earlier
    (each_so _ _ earlier
    (λ j b. ap (λ t. puts_to g j && t) (any_with new round j.round (below_round at j b)))
    told.scopes_below) in
    let same_inside : list_any deep inside ≡ list_any (puts_to g) inside =
    same_any deep (puts_to g) inside
    (each_so _ _ inside
    (λ j h. and_true (puts_to g j) (in_one_of (new ∷ round) j)
    (any_has (new ∷ round) j.round at here h))
    (stand_in w parts body (new ∷ round) inner (at + 1) at here)) in
    ap (λ b. b || (code_puts_to g body || code_puts_to g rest))
    (opens ∙ ap (λ b. b || list_any (puts_to g) later)
    (list_any-append opened earlier (scan ∷ (inside ++ behind))
    ∙ ap (λ b. list_any opened earlier || b) (list_any-append opened inside behind)))
    ∙ ap (λ b. ((list_any opened earlier || (list_any opened inside || list_any opened behind))
    || list_any (puts_to g) later) || (b || code_puts_to g rest))
    (sym (puts_by_code w parts body (new ∷ round) inner (at + 1) g))
    ∙ ap (λ b. ((list_any opened earlier || (list_any opened inside || list_any opened behind))
    || list_any (puts_to g) later) || (list_any (puts_to g) inside || b))
    (sym (puts_by_code w parts rest round next (at + 1 + code_size body) g))
    ∙ scan_merged (list_any opened earlier) (list_any opened inside) (list_any opened behind)
    (list_any (puts_to g) later) (list_any (puts_to g) inside) (list_any (puts_to g) behind)
    (some_of_all (puts_to g) (in_one_of round) inside)
    (some_of_all (puts_to g) (in_one_of round) behind)
    ∙ sym (ap (λ b. b || list_any (puts_to g) (behind ++ later))
    (list_any-append deep (earlier ++ scan ∷ []) inside
    ∙ ap (λ b. b || list_any deep inside)
    (list_any-append deep earlier (scan ∷ []) ∙ ap (λ b. b || false) same_earlier)
    ∙ ap (λ b. (list_any opened earlier || false) || b) same_inside)
    ∙ ap (λ b. ((list_any opened earlier || false) || list_any (puts_to g) inside) || b)
    (list_any-append (puts_to g) behind later))

-- ---- the first that is refused

of_rest : {A : Type 0} (o whole p q : Option A) → whole ≡ option_or p q
    → option_or o whole ≡ option_or (option_or o p) q
of_rest None whole p q e = e
of_rest (Some r) whole p q e = refl

first_of_both : {A : Type 0} (reason : Standing → Option A) (xs ys : List Standing)
    → first_answer reason (xs ++ ys) ≡ option_or (first_answer reason xs) (first_answer reason ys)
unfolding first_answer
first_of_both reason [] ys = refl
first_of_both reason (x ∷ xs) ys = of_rest (reason x) _ _ _ (first_of_both reason xs ys)

-- some code among all instructions, after some earlier ones and before some later ones
record IsAmong (w : World) (parts : Parts) (all : List Standing) (c : Code) (round : List Enclosing)
    (pending : ℕ → Bool) (x : Context) (at : ℕ) (earlier later : List Standing) : Type 0 where
  split : all ≡ earlier ++ (standing w parts round x at c ++ later)
  told : Tells w parts round x at earlier
  numbered : EachOf (λ j. at + code_size c ≤ j.number) later
  opens : (g : ℕ) → Opens g round pending (earlier ++ standing w parts round x at c) later

module _ (w : World) (parts : Parts) (all : List Standing) where
  among_then : (op : Op) (rest : Code) (round : List Enclosing) (pending : ℕ → Bool) (x : Context)
      (at : ℕ) (earlier later : List Standing)
      → IsAmong w parts all (Then op rest) round pending x at earlier later
      → IsAmong w parts all rest round pending (after_op w parts x op) (at + 1)
      (earlier ++ record { number = at; round = round; context = x; item = Act op } ∷ []) later
  among_then op rest round pending x at earlier later h =
      let i : Standing = record { number = at; round = round; context = x; item = Act op } in
      let is = standing w parts round (after_op w parts x op) (at + 1) rest in
      record {
        split = h.split ∙ sym (append_assoc earlier (i ∷ []) (is ++ later));
        told = tells_then w parts round x at earlier op h.told;
        numbered = each_so _ _ later (λ j b. omega (arith, b)) h.numbered;
        opens = λ g. h.opens g
            ∙ ap (λ js. list_any (λ j. puts_to g j && in_one_of round j) js
            || list_any (puts_to g) later) (sym (append_assoc earlier (i ∷ []) is));
      }

  -- the groups that are open to an instruction
  same_open : (op : Op) (rest : Code) (round : List Enclosing) (pending : ℕ → Bool) (x : Context)
      (at : ℕ) (earlier later : List Standing)
      → IsAmong w parts all (Then op rest) round pending x at earlier later
      → (g : ℕ) → open_with pending rest g
      ≡ is_open all (record { number = at; round = round; context = x; item = Act op }) g
  same_open op rest round pending x at earlier later h g =
      let i : Standing = record { number = at; round = round; context = x; item = Act op } in
      let is = standing w parts round (after_op w parts x op) (at + 1) rest in
      open_told g round pending earlier i is later (code_puts_to g rest)
      (puts_by_code w parts rest round (after_op w parts x op) (at + 1) g) (h.opens g)
      ∙ sym (open_here g round x at (Act op) earlier (is ++ later) h.told.numbered
      (each_both _ is later
      (numbered_from w parts rest round (after_op w parts x op) (at + 1) (at + 1) (omega arith))
      (each_so _ _ later (λ j b. omega (arith, b)) h.numbered)))
      ∙ ap (λ js. is_open js i g) (sym h.split)

  first_is : (c : Code) (round : List Enclosing) (pending : ℕ → Bool) (x : Context) (at : ℕ)
      (earlier later : List Standing) → IsAmong w parts all c round pending x at earlier later
      → first_reason w parts pending x at c
      ≡ first_answer (reason_among w parts all) (standing w parts round x at c)
  unfolding first_answer
  first_is Stop round pending x at earlier later h = refl
  first_is (Then op rest) round pending x at earlier later h =
      let same = same_open op rest round pending x at earlier later h in
      ap (λ o. option_or (at_position at (op_reason w parts o x op))
      (first_reason w parts pending (after_op w parts x op) (at + 1) rest)) (λ k g. same g k)
      ∙ ap (λ o. option_or
      (at_position at (op_reason w parts (is_open all
      (record { number = at; round = round; context = x; item = Act op })) x op)) o)
      (first_is rest round pending (after_op w parts x op) (at + 1) _ later
      (among_then op rest round pending x at earlier later h))
  first_is (Each table r body rest) round pending x at earlier later h =
      let inner = in_scan w x table r in
      let new : Enclosing = record { number = at; table = table } in
      let next = after_scan x (at_end w parts inner body) in
      let scan : Standing =
      record { number = at; round = round; context = x; item = Scan table r } in
      let inside = standing w parts (new ∷ round) inner (at + 1) body in
      let behind = standing w parts round next (at + 1 + code_size body) rest in
      let so_far = earlier ++ scan ∷ [] in
      let begun = tells_in w parts round x at earlier table r h.told in
      let ended = (tells_through w parts body (new ∷ round) inner (at + 1) (at + 1 + code_size body)
      so_far refl begun).1 in
      let split : all ≡ so_far ++ (inside ++ (behind ++ later)) =
      h.split ∙ ap (λ js. earlier ++ scan ∷ js) (append_assoc inside behind later)
      ∙ sym (append_assoc earlier (scan ∷ []) (inside ++ (behind ++ later))) in
      let in_body = first_is body (new ∷ round) (open_with pending (Each table r body rest)) inner
      (at + 1) so_far (behind ++ later)
      (record {
        split = split;
        told = begun;
        numbered = each_both _ behind later
            (numbered_from w parts rest round next (at + 1 + code_size body)
            (at + 1 + code_size body) (omega arith))
            (each_so _ _ later (λ j b. omega (arith, b)) h.numbered);
        opens = λ g. opened_in w parts table r body rest round pending x at earlier later g h.told
            (h.opens g);
      }) in
      let in_rest = first_is rest round pending next (at + 1 + code_size body) (so_far ++ inside)
      later
      (record {
        split = split ∙ sym (append_assoc so_far inside (behind ++ later));
        told = tells_after w parts round x at earlier table r body h.told ended;
        numbered = each_so _ _ later (λ j b. omega (arith, b)) h.numbered;
        opens = λ g. h.opens g
            ∙ ap (λ js. list_any (λ j. puts_to g j && in_one_of round j) js
            || list_any (puts_to g) later)
            (sym (append_assoc earlier (scan ∷ []) (inside ++ behind))
            ∙ sym (append_assoc so_far inside behind));
      }) in
      ap (λ o. option_or (at_position at (scan_reason parts x r)) o)
      (ap (λ o. option_or o (first_reason w parts pending next (at + 1 + code_size body) rest))
      in_body
      ∙ ap (λ o. option_or (first_answer (reason_among w parts all) inside) o) in_rest
      ∙ sym (first_of_both (reason_among w parts all) inside behind))

in_none : (ss : List Enclosing) → list_any (λ s. has_scan [] s.number) ss ≡ false
in_none [] = refl
in_none (s ∷ ss) = in_none ss

no_scans : (g : ℕ) (is : List Standing) → list_any (λ j. puts_to g j && in_one_of [] j) is ≡ false
no_scans g [] = refl
no_scans g (i ∷ is) = ap (λ b. b || list_any (λ j. puts_to g j && in_one_of [] j) is)
    (and_right (puts_to g i) (in_one_of [] i) (in_none i.round))
    ∙ no_scans g is

pub first_standing : (w : World) (parts : Parts)
    → first_reason w parts none_open at_first 1 parts.body
    ≡ first_answer (reason_of w parts) (instructions_of w parts)
first_standing w parts =
    first_is w parts (instructions_of w parts) parts.body [] none_open at_first 1 [] []
    (record {
      split = sym (append-nil (instructions_of w parts));
      told = nothing_told w parts;
      numbered = tt;
      opens = λ g. sym (ap (λ b. b || false) (no_scans g (instructions_of w parts)));
    })
