-- A text that means a tree has no fault.
use Rattle.std.{proofs.Common.{◌≡◌, ◌≢◌, ◌∙◌, ℕ, ◌<◌, ◌≤◌, ◌⊎◌, inl, inr, List, [], ◌∷◌, ◌++◌, refl, sym, ap, subst, arith, append_assoc, append-nil}, specs.List.AllByRecursion}
use Rattle.star_query.{specs.declared.counts.Part.Part, specs.declared.fault.Fault.Fault, specs.declared.fault.Fault.TheVariants.{Unexpected, TooDeep, TooMany}, specs.declared.fault.QueryFault.QueryFault, specs.Symbols.{Symbol, Placed, symbols}, specs.Tokens.IsStopped, specs.Tree.Tree, specs.Grammar.{Mark, IsQuery}, specs.Maxima.limit, specs.Derives.{count_begun, IsShortName, Derives, symbols_at, BeginsQuery, QueryFails, unexpected, too_deep, too_many, StopsAt, IsFirstQueryFault, Means}, proofs.Cuts.{one_cut, tokens_make_text, stop_cuts}, proofs.Verdicts.{count_of-append, one_front}}
use Rattle.star_query.specs.declared.fault.QueryFault.TheVariants as faults

-- ---- the marks of a query, where a token breaks a limit

-- the marks at the front of these symbols
split : (ms front : List Mark) (more : List Symbol) → symbols_at ms ≡ symbols_at front ++ more
    → (a b : List Mark) × (ms ≡ a ++ b) × (symbols_at a ≡ symbols_at front)
split ms [] more e = ([], ms, refl, refl)
split [] (f ∷ front) more e = cc
split (m ∷ ms) (f ∷ front) more e =
    let rest : symbols_at ms ≡ symbols_at front ++ more = cc in
    let s = split ms front more rest in
    let first : m.symbol ≡ f.symbol = cc in
    (m ∷ s.0, s.1, ap (λ l. m ∷ l) s.2, λ i. first i ∷ s.3 i)

symbols-append : (front more : List Mark)
    → symbols_at (front ++ more) ≡ symbols_at front ++ symbols_at more
symbols-append [] more = refl
symbols-append (m ∷ front) more = ap (λ l. m.symbol ∷ l) (symbols-append front more)

-- what breaks a limit is a mark of the query
broken : (xs : List Symbol) (tree : Tree) (d : Derives xs tree) (front : List Mark) (at : Mark)
    (rest : List Symbol) → xs ≡ symbols_at front ++ at.symbol ∷ rest
    → BeginsQuery (front ++ at ∷ []) → (more : List Mark) × (d.marks ≡ (front ++ at ∷ []) ++ more)
broken xs tree d front at rest cut begun =
    let reached = front ++ at ∷ [] in
    let all : symbols_at d.marks ≡ symbols_at reached ++ rest =
    d.written ∙ cut ∙ sym (append_assoc (symbols_at front) (at.symbol ∷ []) rest)
    ∙ ap (λ l. l ++ rest) (sym (symbols-append front (at ∷ []))) in
    let s = split d.marks reached rest all in
    let begins : BeginsQuery s.0 =
    record { more = s.1; tree = tree; query = subst (λ ms. IsQuery ms tree) s.2 d.query } in
    (s.1, s.2 ∙ ap (λ l. l ++ s.1) (one_front s.0 reached begins begun s.3))

holds_at : (P : Mark → Type 0) (front more : List Mark) (at : Mark)
    → AllByRecursion P ((front ++ at ∷ []) ++ more) → P at
holds_at P [] more at all = all.0
holds_at P (m ∷ front) more at all = holds_at P front more at all.1

never_fails : (xs : List Symbol) (tree : Tree) (d : Derives xs tree) (front : List Mark)
    (fault : Fault) (rest : List Symbol) → xs ≡ symbols_at front ++ rest
    → QueryFails front fault rest → ⊥
never_fails xs tree d front _ _ cut (unexpected [] none) =
    none d.marks tree d.query (d.written ∙ cut ∙ append-nil (symbols_at front))
never_fails xs tree d front _ _ cut (unexpected (x ∷ rest) none) =
    none d.marks tree rest d.query (d.written ∙ cut)
never_fails xs tree d front _ _ cut (too_deep at rest begun over) =
    let way = broken xs tree d front at rest cut begun in
    let shallow = holds_at (λ m. m.depth ≤ 32) front way.0 at
    (subst (AllByRecursion (λ m. m.depth ≤ 32)) way.1 d.within.depth) in
    omega (arith, shallow, over)
never_fails xs tree d front _ _ cut (too_many at rest begun shallow over) = by over
  where
    way : (more : List Mark) × (d.marks ≡ (front ++ at ∷ []) ++ more)
    way = broken xs tree d front at rest cut begun

    by : ((p : Part) × (limit p < count_begun p (front ++ at ∷ []))) ⊎ (IsShortName at.symbol → ⊥)
        → ⊥
    by (inl (p, many)) =
        let few = subst (λ ms. count_begun p ms ≤ limit p) way.1 (d.within.counts p) in
        omega (arith, many, few, count_of-append p (front ++ at ∷ []) way.0)
    by (inr long) =
        long (holds_at (λ m. IsShortName m.symbol) front way.0 at
        (subst (AllByRecursion (λ m. IsShortName m.symbol)) way.1 d.within.names))

-- ---- texts

never_stops : (bytes : List ℕ) (tree : Tree) (fault : Fault) (rest : List Placed) → Means bytes tree
    → StopsAt bytes fault rest → ⊥
never_stops bytes tree fault rest m s =
    never_fails (symbols (s.front ++ rest)) tree
    (subst (λ ts. Derives (symbols ts) tree)
    (one_cut bytes m.tokens (s.front ++ rest) m.cut s.cut) m.derives) s.first.front fault
    (symbols rest) s.first.cut s.first.fails

never_cut : (bytes : List ℕ) (tree : Tree) (fault : QueryFault) → Means bytes tree
    → IsStopped bytes fault → ⊥
never_cut bytes tree fault m is =
    let whole = (tokens_make_text bytes m.tokens).1 m.cut in
    let stopped = (stop_cuts bytes fault).1 is in cc

pub no_fault : (bytes : List ℕ) (tree : Tree) (fault : QueryFault) → fault ≢ faults.OutOfMemory
    → Means bytes tree → IsFirstQueryFault bytes fault → ⊥
no_fault bytes tree faults.OutOfMemory other m h = other refl
no_fault bytes tree faults.TooLong other m h = omega (arith, m.short, h)
no_fault bytes tree (faults.Unexpected offset) other m h =
    never_stops bytes tree Unexpected h.0 m h.1
no_fault bytes tree faults.TooDeep other m h = never_stops bytes tree TooDeep h.0 m h.1
no_fault bytes tree faults.TooMany other m h = never_stops bytes tree TooMany h.0 m h.1
no_fault bytes tree (faults.BadCharacter offset) other m h = never_cut bytes tree _ m h.1
no_fault bytes tree (faults.BadNumber offset) other m h = never_cut bytes tree _ m h.1
no_fault bytes tree (faults.OpenText offset) other m h = never_cut bytes tree _ m h.1
