-- The lines of a report from one on.
use Rattle.std.{proofs.Common.{◌≡◌, ◌<◌, ◌≤◌, ◌+◌, ℕ, zero, suc, Bool, true, false, List, [], ◌∷◌, ◌++◌, length, map, drop, get_or, Option, Some, None, arith, ap, sym, ◌∙◌, refl, add-one}, proofs.Math.Seq.drop-cons, proofs.lemmas.Bool.lt-ltb, proofs.lemmas.List.{length-map, drop_all}, specs.Option.option_or, specs.Prelude.{◌&&◌, nat_eq, nat_lt, if◌then◌else◌}}
use Rattle.star_schema.specs.declared.group.GroupColumn.{GroupColumn}
use Rattle.star_program.specs.{declared.group.GroupDecl.GroupDecl, declared.program.Parts.Parts, Faults.group_at, ShowLines.has_column, ShowLines.first_unshown, ShowLines.named_columns, ShowLines.shown_fault}

module _ {X : Type 0} (col : X → GroupColumn) (d : GroupDecl) (line : ℕ) (xs : List X) (i : ℕ)
  where
    -- what is left, by the next line
    next : (x : X) → i < length xs
        → first_unshown d line (map col (drop i xs))
        ≡ (if has_column d (col (get_or xs i x))
        then first_unshown d (line + 1) (map col (drop (i + 1) xs)) else Some line)
    next x lt =
        ap (λ ys. first_unshown d line (map col ys)) (drop-cons xs i x lt)
        ∙ ap (λ n. first_unshown d line (map col (get_or xs i x ∷ drop n xs))) (sym (add-one i))

    pub unshown_next : (x : X) → i < length xs → has_column d (col (get_or xs i x)) ≡ true
        → first_unshown d line (map col (drop i xs))
        ≡ first_unshown d (line + 1) (map col (drop (i + 1) xs))
    unshown_next x lt has =
        next x lt
        ∙ ap (λ b. if b then first_unshown d (line + 1) (map col (drop (i + 1) xs)) else Some line)
        has

    pub unshown_here : (x : X) → i < length xs → has_column d (col (get_or xs i x)) ≡ false
        → first_unshown d line (map col (drop i xs)) ≡ Some line
    unshown_here x lt has =
        next x lt
        ∙ ap (λ b. if b then first_unshown d (line + 1) (map col (drop (i + 1) xs)) else Some line)
        has

    pub unshown_end : length xs ≤ i → first_unshown d line (map col (drop i xs)) ≡ None
    unshown_end past = ap (λ ys. first_unshown d line (map col ys)) (drop_all i xs past)

either : {A : Type 0} (b : Bool) (x y : Option A) (z : A)
    → (if b then option_or x y else Some z) ≡ option_or (if b then x else Some z) y
either true x y z = refl
either false x y z = refl

-- the lines of two lists, one behind the other
unshown_append : (d : GroupDecl) (line : ℕ) (xs ys : List GroupColumn)
    → first_unshown d line (xs ++ ys)
    ≡ option_or (first_unshown d line xs) (first_unshown d (line + length xs) ys)
unshown_append d line [] ys =
    let e : line ≡ line + 0 = omega arith in ap (λ n. first_unshown d n ys) e
unshown_append d line (x ∷ xs) ys =
    let e : line + 1 + length xs ≡ line + suc (length xs) = omega arith in
    ap (λ o. if has_column d x then o else Some line) (unshown_append d (line + 1) xs ys)
    ∙ either (has_column d x) (first_unshown d (line + 1) xs)
    (first_unshown d (line + 1 + length xs) ys) line
    ∙ ap (λ n. option_or (if has_column d x then first_unshown d (line + 1) xs else Some line)
    (first_unshown d n ys)) e

-- the show lines and then the sort lines
pub both_lines : (d : GroupDecl) (parts : Parts)
    → first_unshown d 1 (named_columns parts)
    ≡ option_or (first_unshown d 1 (map (λ show. show.column) parts.shows))
    (first_unshown d (length parts.shows + 1) (map (λ sort. sort.column) parts.sorts))
both_lines d parts =
    let shown : List GroupColumn = map (λ show. show.column) parts.shows in
    let sorted : List GroupColumn = map (λ sort. sort.column) parts.sorts in
    let len : 1 + length shown ≡ length parts.shows + 1 =
    omega (arith, length-map parts.shows (λ show. show.column)) in
    unshown_append d 1 shown sorted
    ∙ ap (λ n. option_or (first_unshown d 1 shown) (first_unshown d n sorted)) len

-- where the group is there and something is shown, its lines decide
pub reported : (d : GroupDecl) (parts : Parts) (line : Option ℕ) → d ≡ group_at parts parts.report
    → parts.report < length parts.groups → 0 < length parts.shows
    → first_unshown d 1 (named_columns parts) ≡ line → line ≡ shown_fault parts
reported d parts line is there some e =
    sym e
    ∙ ap (λ g. first_unshown g 1 (named_columns parts)) is
    ∙ sym (ap (λ b. if b && nat_lt 0 (length parts.shows)
    then first_unshown (group_at parts parts.report) 1 (named_columns parts) else Some 0)
    (lt-ltb parts.report (length parts.groups) there)
    ∙ ap (λ b. if b then first_unshown (group_at parts parts.report) 1 (named_columns parts)
    else Some 0) (lt-ltb 0 (length parts.shows) some))

pub not_empty : (n : ℕ) (b : Bool) → b ≡ nat_eq n 0 → b ≡ false → 0 < n
not_empty zero b e f = cc
not_empty (suc n) b e f = omega arith
