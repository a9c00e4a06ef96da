-- No text spells two programs: its statements tell the parts of the program.
use Rattle.std.{specs.Prelude.Some, proofs.Common.{◌≡◌, ◌+◌, ◌∙◌, ◌∷◌, ◌++◌, [], ℕ, Bool, true, false, List, map, append_assoc, refl, sym, ap, arith}, proofs.lemmas.Bool.both_ways, proofs.lemmas.List.map-append}
use Rattle.star_schema.specs.declared.group.SortKey.{SortKey}
use Rattle.star_program.specs.{Code.{Code, Stop, Then, Each}, Private.Drafts.{code_says, groups_say}, Text.Spelling.{OneProgram, Spells, program_statements}, Text.Statements.{Line, group_lines, line, lines_of_code, show_line, sort_line}, declared.group.GroupDecl.GroupDecl, declared.program.Parts.Parts, declared.program.Show.Show, declared.spelling.statement.Statement.Statement, declared.spelling.statement.Statement.TheVariants.{Act, Scan, Group}}
use Rattle.star_program.specs.declared.spelling.statement.Statement.TheVariants as says

abbrev said_by : List Line → List Statement
said_by lines = map (λ l. l.says) lines

-- ---- the statements of a body

code_said : (depth : ℕ) (c : Code) → said_by (lines_of_code depth c) ≡ code_says c
unfolding lines_of_code
code_said depth Stop = refl
code_said depth (Then op rest) = ap (λ ss. says.Act op ∷ ss) (code_said depth rest)
code_said depth (Each t r body rest) =
    ap (λ ss. says.Scan t r ∷ ss)
    (map-append (λ (l : Line). l.says) (lines_of_code (depth + 1) body)
    (line depth says.End ∷ lines_of_code depth rest)
    ∙ ap (λ ss. ss ++ (says.End ∷ said_by (lines_of_code depth rest))) (code_said (depth + 1) body)
    ∙ ap (λ ss. code_says body ++ says.End ∷ ss) (code_said depth rest))

-- an instruction or a scan comes first
begins_step : List Statement → Bool
begins_step [] = false
begins_step (Act op ∷ ss) = true
begins_step (Scan t r ∷ ss) = true
begins_step (s ∷ ss) = false

code_apart : (c d : Code) (ss ts : List Statement) → begins_step ss ≡ false → begins_step ts ≡ false
    → code_says c ++ ss ≡ code_says d ++ ts → (c ≡ d) × (ss ≡ ts)
unfolding begins_step
code_apart Stop Stop ss ts none other e = (refl, e)
code_apart Stop (Then op d) ss ts none other e = let yes : begins_step ss ≡ true =
    ap begins_step e in absurd (both_ways (begins_step ss) none yes)
code_apart Stop (Each t r b d) ss ts none other e = let yes : begins_step ss ≡ true =
    ap begins_step e in absurd (both_ways (begins_step ss) none yes)
code_apart (Then op c) Stop ss ts none other e = let yes : begins_step ts ≡ true =
    ap begins_step (sym e) in absurd (both_ways (begins_step ts) other yes)
code_apart (Each t r b c) Stop ss ts none other e = let yes : begins_step ts ≡ true =
    ap begins_step (sym e) in absurd (both_ways (begins_step ts) other yes)
code_apart (Then op c) (Then oq d) ss ts none other e =
    grind (arith, code_says, code_apart c d ss ts none other)
code_apart (Then op c) (Each t r b d) ss ts none other e = let bad : ⊥ = cc in absurd bad
code_apart (Each t r b c) (Then op d) ss ts none other e = let bad : ⊥ = cc in absurd bad
code_apart (Each t r b c) (Each u v f d) ss ts none other e =
    let table : t ≡ u = cc in
    let target : r ≡ v = cc in
    let tail : (code_says b ++ says.End ∷ code_says c) ++ ss
    ≡ (code_says f ++ says.End ∷ code_says d) ++ ts = cc in
    let parted : code_says b ++ (says.End ∷ (code_says c ++ ss))
    ≡ code_says f ++ (says.End ∷ (code_says d ++ ts)) =
    sym (append_assoc (code_says b) (says.End ∷ code_says c) ss) ∙ tail
    ∙ append_assoc (code_says f) (says.End ∷ code_says d) ts in
    let inner = code_apart b f (says.End ∷ (code_says c ++ ss)) (says.End ∷ (code_says d ++ ts))
    refl refl parted in
    let after : says.End ∷ (code_says c ++ ss) ≡ says.End ∷ (code_says d ++ ts) = inner.1 in
    let later : code_says c ++ ss ≡ code_says d ++ ts = cc in
    let rest = code_apart c d ss ts none other later in
    (rw (table, target, inner.0, rest.0) refl, rest.1)

report_ends : (g : ℕ) (ss : List Statement) → begins_step (says.Report g ∷ ss) ≡ false
unfolding begins_step
report_ends g ss = refl

-- ---- the statements of the groups

groups_said : (n : ℕ) (gs : List GroupDecl) → said_by (group_lines n gs) ≡ groups_say n gs
groups_said n [] = refl
groups_said n (g ∷ gs) = ap (λ ss. says.Group n g ∷ ss) (groups_said (n + 1) gs)

begins_group : List Statement → Bool
begins_group [] = false
begins_group (Group n g ∷ ss) = true
begins_group (s ∷ ss) = false

groups_apart : (n : ℕ) (gs hs : List GroupDecl) (ss ts : List Statement) → begins_group ss ≡ false
    → begins_group ts ≡ false → groups_say n gs ++ ss ≡ groups_say n hs ++ ts
    → (gs ≡ hs) × (ss ≡ ts)
unfolding begins_group
groups_apart n [] [] ss ts none other e = (refl, e)
groups_apart n [] (h ∷ hs) ss ts none other e = let yes : begins_group ss ≡ true =
    ap begins_group e in absurd (both_ways (begins_group ss) none yes)
groups_apart n (g ∷ gs) [] ss ts none other e = let yes : begins_group ts ≡ true =
    ap begins_group (sym e) in absurd (both_ways (begins_group ts) other yes)
groups_apart n (g ∷ gs) (h ∷ hs) ss ts none other e =
    grind (arith, groups_say, groups_apart (n + 1) gs hs ss ts none other)

code_no_group : (c : Code) (g : ℕ) (ss : List Statement)
    → begins_group (code_says c ++ says.Report g ∷ ss) ≡ false
unfolding begins_group
code_no_group Stop g ss = refl
code_no_group (Then op c) g ss = refl
code_no_group (Each t r b c) g ss = refl

-- ---- the statements of the report

shows_apart : (xs ys : List Show) (ks ls : List SortKey)
    → map says.Show xs ++ map says.Sort ks ≡ map says.Show ys ++ map says.Sort ls
    → (xs ≡ ys) × (ks ≡ ls)
shows_apart [] [] [] [] e = (refl, refl)
shows_apart [] [] [] (l ∷ ls) e = let bad : ⊥ = cc in absurd bad
shows_apart [] [] (k ∷ ks) [] e = let bad : ⊥ = cc in absurd bad
shows_apart [] [] (k ∷ ks) (l ∷ ls) e =
    let same : k ≡ l = cc in
    let tail : map says.Sort ks ≡ map says.Sort ls = cc in
    let rest = shows_apart [] [] ks ls tail in
    (refl, rw (same, rest.1) refl)
shows_apart [] (y ∷ ys) [] ls e = let bad : ⊥ = cc in absurd bad
shows_apart [] (y ∷ ys) (k ∷ ks) ls e = let bad : ⊥ = cc in absurd bad
shows_apart (x ∷ xs) [] ks [] e = let bad : ⊥ = cc in absurd bad
shows_apart (x ∷ xs) [] ks (l ∷ ls) e = let bad : ⊥ = cc in absurd bad
shows_apart (x ∷ xs) (y ∷ ys) ks ls e =
    let same : x ≡ y = cc in
    let tail : map says.Show xs ++ map says.Sort ks ≡ map says.Show ys ++ map says.Sort ls = cc in
    let rest = shows_apart xs ys ks ls tail in
    (rw (same, rest.0) refl, rest.1)

shows_said : (xs : List Show) → said_by (map show_line xs) ≡ map says.Show xs
shows_said [] = refl
shows_said (x ∷ xs) = ap (λ ss. says.Show x ∷ ss) (shows_said xs)

sorts_said : (ks : List SortKey) → said_by (map sort_line ks) ≡ map says.Sort ks
sorts_said [] = refl
sorts_said (k ∷ ks) = ap (λ ss. says.Sort k ∷ ss) (sorts_said ks)

-- ---- the whole program

abbrev pub tail_of : Parts → List Statement
tail_of p = map says.Show p.shows ++ map says.Sort p.sorts

pub program_said : (p : Parts)
    → program_statements p ≡ says.Header ∷ says.Registers p.registers
    ∷ (groups_say 0 p.groups ++ (code_says p.body ++ says.Report p.report ∷ tail_of p))
program_said p =
    let last : said_by (map show_line p.shows ++ map sort_line p.sorts) ≡ tail_of p =
    map-append (λ (l : Line). l.says) (map show_line p.shows) (map sort_line p.sorts)
    ∙ ap (λ ss. ss ++ said_by (map sort_line p.sorts)) (shows_said p.shows)
    ∙ ap (λ ss. map says.Show p.shows ++ ss) (sorts_said p.sorts) in
    let report : List Line =
    line 0 (says.Report p.report) ∷ (map show_line p.shows ++ map sort_line p.sorts) in
    ap (λ ss. says.Header ∷ says.Registers p.registers ∷ ss)
    (map-append (λ (l : Line). l.says) (group_lines 0 p.groups) (lines_of_code 0 p.body ++ report)
    ∙ ap (λ ss. ss ++ said_by (lines_of_code 0 p.body ++ report)) (groups_said 0 p.groups)
    ∙ ap (λ ss. groups_say 0 p.groups ++ ss)
    (map-append (λ (l : Line). l.says) (lines_of_code 0 p.body) report
    ∙ ap (λ ss. ss ++ said_by report) (code_said 0 p.body)
    ∙ ap (λ ss. code_says p.body ++ says.Report p.report ∷ ss) last))

pub map_some_apart : (ss ts : List Statement) → map Some ss ≡ map Some ts → ss ≡ ts
map_some_apart [] [] e = refl
map_some_apart [] (t ∷ ts) e = cc
map_some_apart (s ∷ ss) [] e = cc
map_some_apart (s ∷ ss) (t ∷ ts) e = grind (arith, map_some_apart ss ts)

bodies_apart : (c d : Code) (g h : ℕ) (ss ts : List Statement)
    → code_says c ++ says.Report g ∷ ss ≡ code_says d ++ says.Report h ∷ ts
    → (c ≡ d) × (g ≡ h) × (ss ≡ ts)
bodies_apart c d g h ss ts e =
    let both = code_apart c d (says.Report g ∷ ss) (says.Report h ∷ ts) (report_ends g ss)
    (report_ends h ts) e in
    let after : says.Report g ∷ ss ≡ says.Report h ∷ ts = both.1 in
    let group : g ≡ h = cc in
    let rest : ss ≡ ts = cc in
    (both.0, group, rest)

programs_apart : (p q : Parts) → program_statements p ≡ program_statements q → p ≡ q
programs_apart p q e =
    let all : says.Header ∷ says.Registers p.registers
    ∷ (groups_say 0 p.groups ++ (code_says p.body ++ says.Report p.report ∷ tail_of p))
    ≡ says.Header ∷ says.Registers q.registers
    ∷ (groups_say 0 q.groups ++ (code_says q.body ++ says.Report q.report ∷ tail_of q)) =
    sym (program_said p) ∙ e ∙ program_said q in
    let registers : p.registers ≡ q.registers = cc in
    let front : groups_say 0 p.groups ++ (code_says p.body ++ says.Report p.report ∷ tail_of p)
    ≡ groups_say 0 q.groups ++ (code_says q.body ++ says.Report q.report ∷ tail_of q) = cc in
    let groups = groups_apart 0 p.groups q.groups _ _ (code_no_group p.body p.report (tail_of p))
    (code_no_group q.body q.report (tail_of q)) front in
    let bodies = bodies_apart p.body q.body p.report q.report (tail_of p) (tail_of q) groups.1 in
    let shows = shows_apart p.shows q.shows p.sorts q.sorts bodies.2 in
    rw (registers, groups.0, bodies.0, bodies.1, shows.0, shows.1) refl

pub one_program : OneProgram
unfolding Spells
one_program text p q spells also =
    programs_apart p q (map_some_apart (program_statements p) (program_statements q)
    (sym spells ∙ also))
