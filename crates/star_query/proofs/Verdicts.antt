-- The machine's verdict is the grammar's.
use Rattle.std.{proofs.Common.{◌≡◌, ◌∙◌, ℕ, ◌+◌, ◌<◌, ◌≤◌, ◌⊎◌, inl, inr, Bool, true, false, ◌||◌, List, [], ◌∷◌, ◌++◌, Option, Some, None, cond, refl, sym, ap, subst, arith, append-nil}, specs.Prelude.nat_lt, specs.List.AllByRecursion, proofs.lemmas.Bool.{ltb-true, ltb-false}, proofs.lemmas.Grind.common_steps}
use Rattle.star_query.{specs.declared.counts.Part.Part, specs.declared.counts.Counts.Counts, specs.declared.fault.Fault.Fault, specs.declared.fault.Fault.TheVariants.{Unexpected, TooDeep, TooMany}, specs.Symbols.{Symbol, symbols}, specs.Tree.Tree, specs.Private.Phrases.{Query, query_marks, query_tree}, specs.Maxima.limit, specs.Grammar.{Mark, IsQuery}, specs.Derives.{count_begun, IsShortName, AreWithinLimits, symbols_at, Derives, BeginsQuery, NoQueryGoesOn, QueryFails, unexpected, too_deep, too_many, FirstQueryFault, Means}, specs.Private.Machine.{ParserState, begin, Step, to, next_step, query_at_end, Verdict, Whole, Bad, count_of_part, plus, is_over, is_long, checked, verdict_after, ends, run, nothing_counted}, proofs.Cuts.one_cut, proofs.Accepting.{Accepts, at_end, step, query_goes}, proofs.Passed.{passed, step_moves}, proofs.Phrased.{is_query, query_is}, proofs.Finishes.{state_finishes, end_passed}, proofs.Counting.{not_below, number-plus, not_over, over_some, fits_after, short_name, not_long}}

-- from one state to another through these marks
abbrev pub Goes : ParserState → List Mark → ParserState → Type 0
Goes from [] last = from ≡ last
Goes from (m ∷ ms) last =
    (next : ParserState) × (next_step from m.symbol ≡ to next m) × Goes next ms last

abbrev pub Fits : Counts → Type 0
Fits n = (p : Part) → count_of_part n p ≤ limit p

-- what is read through marks
pub goes_passed : (ms : List Mark) (from last : ParserState) → Goes from ms last
    → (rest : List Mark) → passed last rest ≡ passed from (ms ++ rest)
goes_passed [] from last g rest = ap (λ s. passed s rest) (sym g)
goes_passed (m ∷ ms) from last g rest =
    goes_passed ms g.0 last g.2 rest
    ∙ (step_moves from m.symbol (record { next = g.0; at = m }) g.1).more (ms ++ rest)

-- from one state to another through marks within the limits
pub record Reaches (from : ParserState) (n : Counts) (xs : List Symbol) (last : ParserState)
    (n' : Counts) (ms : List Mark) (rest : List Symbol) : Type 0 where
  pub cut : xs ≡ symbols_at ms ++ rest
  pub goes : Goes from ms last
  pub depth : AllByRecursion (λ m. m.depth ≤ 32) ms
  pub names : AllByRecursion (λ m. IsShortName m.symbol) ms
  pub numbers : (p : Part) → count_of_part n' p ≡ count_of_part n p + count_begun p ms
  pub fits : (p : Part) → count_of_part n' p ≤ limit p

-- why it stops there
pub record Halts (IsOver : Mark → Type 0) (from : ParserState) (rest : List Symbol) : Type 0 where
  pub next : ParserState
  pub at : Mark
  pub others : List Symbol
  pub here : rest ≡ at.symbol ∷ others
  pub does : next_step from at.symbol ≡ to next at
  pub over : IsOver at

abbrev pub IsBeyond : Counts → Mark → Type 0
IsBeyond n m = (nat_lt 32 m.depth ≡ false)
    × (is_over (plus n m.parts) m.parts || is_long m.symbol ≡ true)

abbrev pub HaltsAt : Fault → ParserState → Counts → List Symbol → Type 0
HaltsAt Unexpected from n [] = query_at_end from ≡ None
HaltsAt Unexpected from n (x ∷ rest) = next_step from x ≡ None
HaltsAt TooDeep from n rest = Halts (λ m. nat_lt 32 m.depth ≡ true) from rest
HaltsAt TooMany from n rest = Halts (IsBeyond n) from rest

-- what a verdict says of the way to it
abbrev pub Found : ParserState → Counts → List Symbol → Verdict → Type 0
Found from n xs (Whole q) =
    (last : ParserState) × (n' : Counts) × (ms : List Mark) × Reaches from n xs last n' ms []
    × (query_at_end last ≡ Some q)
Found from n xs (Bad f rest) =
    (last : ParserState) × (n' : Counts) × (ms : List Mark) × Reaches from n xs last n' ms rest
    × HaltsAt f last n' rest

here_already : (from : ParserState) (n : Counts) (xs : List Symbol) → Fits n
    → Reaches from n xs from n [] xs
here_already from n xs fits = grind arith

one_before : (from : ParserState) (n : Counts) (x : Symbol) (xs : List Symbol) (st : Step)
    (last : ParserState) (n' : Counts) (ms : List Mark) (rest : List Symbol)
    → next_step from x ≡ Some st → nat_lt 32 st.at.depth ≡ false → is_long st.at.symbol ≡ false
    → Reaches st.next (plus n st.at.parts) xs last n' ms rest
    → Reaches from n (x ∷ xs) last n' (st.at ∷ ms) rest
one_before from n x xs st last n' ms rest e shallow short r =
    grind (arith, step_moves, ltb-false, short_name, number-plus)

before : (from : ParserState) (n : Counts) (x : Symbol) (xs : List Symbol) (st : Step)
    → next_step from x ≡ Some st → nat_lt 32 st.at.depth ≡ false → is_long st.at.symbol ≡ false
    → (v : Verdict) → Found st.next (plus n st.at.parts) xs v → Found from n (x ∷ xs) v
before from n x xs st e shallow short (Whole q) r =
    (r.0, r.1, st.at ∷ r.2, one_before from n x xs st r.0 r.1 r.2 [] e shallow short r.3, r.4)
before from n x xs st e shallow short (Bad f rest) r =
    (r.0, r.1, st.at ∷ r.2, one_before from n x xs st r.0 r.1 r.2 rest e shallow short r.3, r.4)

halts_at : (IsOver : Mark → Type 0) (from : ParserState) (x : Symbol) (xs : List Symbol) (st : Step)
    → next_step from x ≡ Some st → IsOver st.at → Halts IsOver from (x ∷ xs)
halts_at IsOver from x xs st e over =
    let m = step_moves from x st e in
    record {
      next = st.next;
      at = st.at;
      others = xs;
      here = ap (λ y. y ∷ xs) (sym m.symbol);
      does =
          ap (next_step from) m.symbol ∙ e;
      over = over;
    }

not_either : (a b : Bool) → a || b ≡ false → (a ≡ false) × (b ≡ false)
not_either true b e = cc
not_either false b e = (refl, e)

-- every verdict is found on the way
pub found : (xs : List Symbol) (from : ParserState) (n : Counts) → Fits n
    → Found from n xs (run xs from n)
found [] from n fits = at_the_end (query_at_end from) refl
  where
    at_the_end : (o : Option Query) → query_at_end from ≡ o → Found from n [] (ends o)
    at_the_end None e = (from, n, [], here_already from n [] fits, e)
    at_the_end (Some q) e = (from, n, [], here_already from n [] fits, e)
found (x ∷ xs) from n fits = by_step (next_step from x) refl (λ next m. found xs next m)
  where
    Rest : Type 0
    Rest = (next : ParserState) (m : Counts) → Fits m → Found next m xs (run xs next m)

    many : (st : Step) → next_step from x ≡ Some st → nat_lt 32 st.at.depth ≡ false → Rest
        → (b : Bool) → is_over (plus n st.at.parts) st.at.parts || is_long st.at.symbol ≡ b
        → Found from n (x ∷ xs) (cond b (Bad TooMany (x ∷ xs))
        (run xs st.next (plus n st.at.parts)))
    many st e shallow rest true h = (
      from,
      n,
      [],
      here_already from n (x ∷ xs) fits,
      halts_at (IsBeyond n) from x xs st e (shallow, h),
    )
    many st e shallow rest false h =
        let neither = not_either (is_over (plus n st.at.parts) st.at.parts) (is_long st.at.symbol)
        h in
        before from n x xs st e shallow neither.1 (run xs st.next (plus n st.at.parts))
        (rest st.next (plus n st.at.parts) (fits_after n st.at.parts fits neither.0))

    deep : (st : Step) → next_step from x ≡ Some st → Rest → (b : Bool) → nat_lt 32 st.at.depth ≡ b
        → Found from n (x ∷ xs) (cond b (Bad TooDeep (x ∷ xs))
        (cond (is_over (plus n st.at.parts) st.at.parts || is_long st.at.symbol)
        (Bad TooMany (x ∷ xs)) (run xs st.next (plus n st.at.parts))))
    deep st e rest true h = (
      from,
      n,
      [],
      here_already from n (x ∷ xs) fits,
      halts_at (λ m. nat_lt 32 m.depth ≡ true) from x xs st e h,
    )
    deep st e rest false h =
        many st e h rest (is_over (plus n st.at.parts) st.at.parts || is_long st.at.symbol) refl

    by_step : (o : Option Step) → next_step from x ≡ o → Rest
        → Found from n (x ∷ xs) (verdict_after o n (x ∷ xs) (run xs))
    by_step None e rest = (from, n, [], here_already from n (x ∷ xs) fits, e)
    by_step (Some st) e rest = deep st e rest (nat_lt 32 st.at.depth) refl

-- within the limits nothing stops it
accepts_run : (ms : List Mark) (from : ParserState) (n : Counts) (q : Query) → Accepts from ms q
    → AllByRecursion (λ m. m.depth ≤ 32) ms → AllByRecursion (λ m. IsShortName m.symbol) ms
    → ((p : Part) → count_of_part n p + count_begun p ms ≤ limit p)
    → run (symbols_at ms) from n ≡ Whole q
accepts_run [] from n q (at_end e) deep names fits = ap ends e
accepts_run (m ∷ ms) from n q (step {next} e g) deep names fits =
    let shallow : nat_lt 32 m.depth ≡ false = not_below 32 m.depth deep.0 in
    let few : is_over (plus n m.parts) m.parts ≡ false =
    not_over (plus n m.parts) m.parts (λ p. omega (arith, number-plus m.parts n p, fits p)) in
    let short : is_long m.symbol ≡ false = not_long m.symbol names.0 in
    let now : checked n m (symbols_at (m ∷ ms)) (run (symbols_at ms) next)
    ≡ run (symbols_at ms) next (plus n m.parts) = rw (shallow, few, short) refl in
    ap (λ o. verdict_after o n (symbols_at (m ∷ ms)) (run (symbols_at ms))) e ∙ now
    ∙ accepts_run ms next (plus n m.parts) q g deep.1 names.1
    (λ p. omega (arith, number-plus m.parts n p, fits p))

-- a verdict from the beginning
abbrev pub verdict_of : List Symbol → Verdict
verdict_of xs = run xs begin nothing_counted

pub fits_at_first : Fits nothing_counted
fits_at_first p = grind arith

pub none_counted : (p : Part) → count_of_part nothing_counted p ≡ 0
none_counted it = grind arith

pub only : (xs : List Symbol) (t : Tree) → Derives xs t
    → (q : Query) × (verdict_of xs ≡ Whole q) × (query_tree q ≡ t)
only xs t d = grind (arith, is_query, accepts_run, query_goes, none_counted)

-- what was reached from the beginning is within the limits
reached_within : (xs : List Symbol) (last : ParserState) (n : Counts) (ms : List Mark)
    (rest : List Symbol) → Reaches begin nothing_counted xs last n ms rest → AreWithinLimits ms
reached_within xs last n ms rest r = grind (arith, none_counted)

derives_found : (xs : List Symbol) (q : Query) → Found begin nothing_counted xs (Whole q)
    → Derives xs (query_tree q)
derives_found xs q r =
    let way = r.3 in
    let written : query_marks q ≡ r.2 =
    sym (end_passed r.0 q r.4) ∙ goes_passed r.2 begin r.0 way.goes [] ∙ append-nil r.2 in
    record {
      marks = query_marks q;
      written = ap symbols_at written ∙ sym (append-nil (symbols_at r.2)) ∙ sym way.cut;
      query = query_is q;
      within = subst AreWithinLimits (sym written) (reached_within xs r.0 r.1 r.2 [] way);
    }

pub derives : (xs : List Symbol) (q : Query) → verdict_of xs ≡ Whole q → Derives xs (query_tree q)
derives xs q e = derives_found xs q
    (subst (Found begin nothing_counted xs) e (found xs begin nothing_counted fits_at_first))

-- no symbols are two queries
pub one_tree : (xs : List Symbol) (t u : Tree) → Derives xs t → Derives xs u → t ≡ u
one_tree xs t u d e =
    let a = only xs t d in
    let b = only xs u e in
    let same : a.0 ≡ b.0 = (let w : Whole a.0 ≡ Whole b.0 = sym a.1 ∙ b.1 in cc) in
    sym a.2 ∙ ap query_tree same ∙ b.2

-- a step is one
abbrev next_or : ParserState → Option Step → ParserState
next_or other None = other
next_or other (Some st) = st.next

abbrev mark_or : Mark → Option Step → Mark
mark_or other None = other
mark_or other (Some st) = st.at

same_next : (a b : ParserState) (m n : Mark) → to a m ≡ to b n → a ≡ b
same_next a b m n e = ap (next_or a) e

same_mark : (a b : ParserState) (m n : Mark) → to a m ≡ to b n → m ≡ n
same_mark a b m n e = ap (mark_or m) e

-- no query goes on where no step does
no_way : (front ms : List Mark) (from last : ParserState) (x : Symbol) (more : List Symbol)
    (q : Query) → Accepts from ms q → Goes from front last
    → symbols_at ms ≡ symbols_at front ++ x ∷ more → next_step last x ≡ None → ⊥
no_way [] [] from last x more q g way same e = cc
no_way [] (m ∷ ms) from last x more q (step go g) way same e = grind arith
no_way (f ∷ fs) [] from last x more q g way same e = cc
no_way (f ∷ fs) (m ∷ ms) from last x more q (step {next} go g) way same e =
    let here : m.symbol ≡ f.symbol = cc in
    let rest : symbols_at ms ≡ symbols_at fs ++ x ∷ more = cc in
    let steps : to next m ≡ to way.0 f = sym go ∙ ap (next_step from) here ∙ way.1 in
    let there = sym (same_next next way.0 m f steps) in
    no_way fs ms next last x more q g (subst (λ s. Goes s fs last) there way.2) rest e

-- none ends where none may
no_end : (front ms : List Mark) (from last : ParserState) (q : Query) → Accepts from ms q
    → Goes from front last → symbols_at ms ≡ symbols_at front → query_at_end last ≡ None → ⊥
no_end [] [] from last q (at_end g) way same e = let stuck : Some q ≡ None =
    sym g ∙ ap query_at_end way ∙ e in cc
no_end [] (m ∷ ms) from last q g way same e = cc
no_end (f ∷ fs) [] from last q g way same e = cc
no_end (f ∷ fs) (m ∷ ms) from last q (step {next} go g) way same e =
    let here : m.symbol ≡ f.symbol = cc in
    let rest : symbols_at ms ≡ symbols_at fs = cc in
    let steps : to next m ≡ to way.0 f = sym go ∙ ap (next_step from) here ∙ way.1 in
    let there = sym (same_next next way.0 m f steps) in
    no_end fs ms next last q g (subst (λ s. Goes s fs last) there way.2) rest e

dead : (front : List Mark) (last : ParserState) (n : Counts) (rest : List Symbol)
    → Goes begin front last → HaltsAt Unexpected last n rest → NoQueryGoesOn (symbols_at front) rest
dead front last n it way e = grind (arith, is_query, no_end, query_goes, no_way)

-- a query begins with what was read
pub begins : (front : List Mark) (last : ParserState) → Goes begin front last → BeginsQuery front
begins front last way =
    let r = state_finishes last in
    record {
      more = r.1;
      tree = query_tree r.0;
      query = subst (λ ms. IsQuery ms (query_tree r.0)) (r.2 ∙ goes_passed front begin last way r.1)
          (query_is r.0);
    }

pub goes_one_more : (front : List Mark) (from last next : ParserState) (m : Mark)
    → Goes from front last → next_step last m.symbol ≡ to next m → Goes from (front ++ m ∷ []) next
goes_one_more [] from last next m way e = (next, ap (λ s. next_step s m.symbol) way ∙ e, refl)
goes_one_more (f ∷ fs) from last next m way e =
    (way.0, way.1, goes_one_more fs way.0 last next m way.2 e)

pub count_of-append : (p : Part) (ms ns : List Mark)
    → count_begun p (ms ++ ns) ≡ count_begun p ms + count_begun p ns
count_of-append p [] ns = omega arith
count_of-append p (m ∷ ms) ns = omega (arith, count_of-append p ms ns)

either : (a b : Bool) → a || b ≡ true → (a ≡ true) ⊎ (b ≡ true)
either true b e = inl refl
either false b e = inr e

beyond : (front : List Mark) (n : Counts) → ((p : Part) → count_of_part n p ≡ count_begun p front)
    → (m : Mark) → IsBeyond n m → (m.depth ≤ 32)
    × (((p : Part) × (limit p < count_begun p (front ++ m ∷ []))) ⊎ (IsShortName m.symbol → ⊥))
beyond front n numbers m over =
    grind (arith, common_steps, ltb-false, either, over_some, number-plus, count_of-append)

-- a query begins with what was read and the next symbol
begins_there : {Over : Mark → Type 0} (front : List Mark) (last : ParserState) (rest : List Symbol)
    → Goes begin front last → (h : Halts Over last rest) → BeginsQuery (front ++ h.at ∷ [])
begins_there front last rest way h =
    begins (front ++ h.at ∷ []) h.next (goes_one_more front begin last h.next h.at way h.does)

fails : (f : Fault) (front : List Mark) (last : ParserState) (n : Counts) (rest : List Symbol)
    → ((p : Part) → count_of_part n p ≡ count_begun p front) → Goes begin front last
    → HaltsAt f last n rest → QueryFails front f rest
fails Unexpected front last n rest numbers way h = unexpected rest (dead front last n rest way h)
fails TooDeep front last n rest numbers way h =
    subst (QueryFails front TooDeep) (sym h.here)
    (too_deep h.at h.others (begins_there front last rest way h) (ltb-true _ _ h.over))
fails TooMany front last n rest numbers way h =
    let over = beyond front n numbers h.at h.over in
    subst (QueryFails front TooMany) (sym h.here)
    (too_many h.at h.others (begins_there front last rest way h) over.0 over.1)

first_found : (xs : List Symbol) (f : Fault) (rest : List Symbol)
    → Found begin nothing_counted xs (Bad f rest) → FirstQueryFault xs f rest
first_found xs f rest r = grind (arith, begins, reached_within, fails, none_counted)

pub first_fault : (xs : List Symbol) (f : Fault) (rest : List Symbol) → verdict_of xs ≡ Bad f rest
    → FirstQueryFault xs f rest
first_fault xs f rest e = grind (arith, first_found, found, fits_at_first)

pub refuses : (xs : List Symbol) (f : Fault) (rest : List Symbol) (t : Tree)
    → verdict_of xs ≡ Bad f rest → Derives xs t → ⊥
refuses xs f rest t e d = let o = only xs t d in let w : Whole o.0 ≡ Bad f rest = sym o.1 ∙ e in cc

-- marks that begin a query are those that the machine puts
same_front : (a b ms ns : List Mark) (from : ParserState) (q r : Query) → Accepts from (a ++ ms) q
    → Accepts from (b ++ ns) r → symbols_at a ≡ symbols_at b → a ≡ b
same_front [] [] ms ns from q r g h e = refl
same_front [] (y ∷ b) ms ns from q r g h e = cc
same_front (x ∷ a) [] ms ns from q r g h e = cc
same_front (x ∷ a) (y ∷ b) ms ns from q r (step {next} go g) (step {next = other} goes h) e =
    let here : x.symbol ≡ y.symbol = cc in
    let rest : symbols_at a ≡ symbols_at b = cc in
    let steps : to next x ≡ to other y = sym go ∙ ap (next_step from) here ∙ goes in
    let head = same_mark next other x y steps in
    let there = sym (same_next next other x y steps) in
    ap (λ m. m ∷ a) head ∙ ap (λ l. y ∷ l)
    (same_front a b ms ns next q r g (subst (λ s. Accepts s (b ++ ns) r) there h) rest)

-- fronts of the same symbols have the same nestings and parts
pub one_front : (a b : List Mark) → BeginsQuery a → BeginsQuery b → symbols_at a ≡ symbols_at b
    → a ≡ b
one_front a b begins_a begins_b e = grind (arith, is_query, same_front, query_goes)

-- no text means two trees
pub one_meaning : (bytes : List ℕ) (a b : Tree) → Means bytes a → Means bytes b → a ≡ b
one_meaning bytes a b m n =
    let same = one_cut bytes n.tokens m.tokens n.cut m.cut in
    one_tree (symbols m.tokens) a b m.derives (subst (λ ts. Derives (symbols ts) b) same n.derives)
