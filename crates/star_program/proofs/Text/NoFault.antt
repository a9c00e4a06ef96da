-- A text that spells a program within the limits has no fault.
use Rattle.std.{specs.Prelude.{codes, filter, nat_lt, not}, specs.Cmp.Lexicographic.bytes_decides, specs.Option.option_map, proofs.Common.{◌≡◌, ◌&&◌, ◌≤◌, ◌+◌, ◌-◌, ◌∙◌, ◌∷◌, ◌++◌, [], ℕ, true, false, List, Option, Some, None, Ok, All, append_assoc, length, map, arith, ap, refl, sym, subst, inl, inr, lit≤}, proofs.lemmas.Bool.{cases_Bool, eqb-true, eq-eqb, le-leb, ne_eqb}, proofs.lemmas.List.Elements.{All-head, All-tail}}
use Rattle.star_program.{specs.Code.{Code, Stop, Then, Each, code_size, scan_depth}, specs.Private.Drafts.{code_says, groups_say}, specs.Text.Keywords.{keyword_name, keyword_of, same}, specs.Limits.{IsSmall, IsWithinLimits}, specs.Text.Lines.{is_blank_line, lines_of, words_of}, specs.Text.Numerals.count_of, specs.Text.Said.{by_keyword, by_words, from_one_word, said}, specs.Text.Spelling.{Spells, program_statements}, specs.Text.FirstFaults.{advance, after_in, begins_report, end_in, is_small, is_within, lines_fault, state_after, state_after_step, program_text_fault, start}, specs.declared.group.GroupDecl.GroupDecl, specs.declared.program.Parts.Parts, specs.declared.program.Show.Show, specs.declared.spelling.text_state.TextState.TextState, specs.declared.spelling.text_state.Stage.Stage, specs.declared.spelling.statement.Statement.Statement, proofs.Text.Depths.{larger, left_within, right_within}, proofs.Text.OneProgram.{program_said, tail_of}, proofs.Text.FaultLemmas.{advanced, blank_line, ended, state, text_fault_is}}
use Rattle.star_program.specs.declared.spelling.keyword.Keyword.TheVariants as keyword
use Rattle.star_program.specs.declared.spelling.text_state.Stage.TheVariants as stage
use Rattle.star_program.specs.declared.spelling.statement.Statement.TheVariants as says
use Rattle.star_schema.specs.declared.group.SortKey.{SortKey}

-- ---- a report stands in no scan

report_word : (w : List ℕ) → same w (codes "report") ≡ true → keyword_of w ≡ Some keyword.Report
unfolding keyword_of keyword_name
report_word w h = let is : w ≡ codes "report" = (bytes_decides w (codes "report")).0 h in rw is refl

reported : (o : Option ℕ) (s : Statement) → option_map says.Report o ≡ Some s
    → (g : ℕ) × (s ≡ says.Report g)
reported None s h = let bad : ⊥ = cc in absurd bad
reported (Some g) s h = let is : s ≡ says.Report g = cc in (g, is)

by_report : (w : List ℕ) (ws : List (List ℕ)) (s : Statement) → same w (codes "report") ≡ true
    → by_words (w ∷ ws) ≡ Some s → (g : ℕ) × (s ≡ says.Report g)
unfolding by_words by_keyword
by_report w ws s word h =
    let found : keyword_of w ≡ Some keyword.Report = report_word w word in
    reported (from_one_word count_of ws) s (rw found at h)

by_words_report : (words : List (List ℕ)) (s : Statement) → begins_report words ≡ true
    → by_words words ≡ Some s → (g : ℕ) × (s ≡ says.Report g)
by_words_report [] s begins h = let bad : ⊥ = cc in absurd bad
by_words_report (w ∷ ws) s begins h = by_report w ws s begins h

report_said : (text : List ℕ) (s : Statement) → begins_report (words_of text) ≡ true
    → said text ≡ Some s → (g : ℕ) × (s ≡ says.Report g)
unfolding said
report_said text s begins h = grind (arith, cases_Bool, by_words_report)

step_report : (p q : TextState) (g : ℕ) → state_after_step p (says.Report g) ≡ Some q → p.depth ≡ 0
step_report p q g h = grind (arith, cases_Bool, eqb-true)

report_outside : (st : Stage) (p q : TextState) (g : ℕ) → after_in st p (says.Report g) ≡ Some q
    → p.depth ≡ 0
report_outside stage.Groups p q g h = step_report p q g h
report_outside stage.Body p q g h = step_report p q g h
report_outside st p q g h = let bad : ⊥ = cc in absurd bad

-- ---- statements that may follow one another

abbrev pub Follows : TextState → Statement → TextState → Type 0
Follows p s q = (state_after p s ≡ Some q) × (is_within q ≡ true) × (is_small s ≡ true)

abbrev pub Walks : TextState → List Statement → TextState → Type 0
Walks p [] q = p ≡ q
Walks p (s ∷ ss) q = (r : TextState) × Follows p s r × Walks r ss q

walks_on : (p q r : TextState) (ss ts : List Statement) → Walks p ss q → Walks q ts r
    → Walks p (ss ++ ts) r
walks_on p q r [] ts w v = rw w v
walks_on p q r (s ∷ ss) ts w v = (w.0, w.1, walks_on w.0 q r ss ts w.2 v)

pub no_report : (p q : TextState) (text : List ℕ) (s : Statement) → said text ≡ Some s
    → state_after p s ≡ Some q → (nat_lt 0 p.depth && begins_report (words_of text)) ≡ false
unfolding state_after
no_report p q text s is goes = grind (arith, cases_Bool, report_said, report_outside)

pub advances : (p q : TextState) (line : ℕ) (text : List ℕ) (s : Statement) → said text ≡ Some s
    → Follows p s q → advance p line text ≡ Ok q
unfolding advance
advances p q line text s is goes =
    rw (no_report p q text s is goes.0, is, goes.0, goes.1, goes.2) refl

walk_faults : (texts : List (List ℕ)) (ss : List Statement) (p q : TextState) (line : ℕ)
    → map said (filter (λ text. not (is_blank_line text)) texts) ≡ map Some ss → Walks p ss q
    → ((n : ℕ) → end_in q.stage q.depth n ≡ None) → lines_fault p line texts ≡ None
walk_faults [] [] p q line says walks ends = rw walks (ended q line ∙ ends line)
walk_faults [] (s ∷ ss) p q line says walks ends = let bad : ⊥ = cc in absurd bad
walk_faults (text ∷ texts) [] p q line says walks ends = elim (cases_Bool (is_blank_line text)) [
  | inl blank ↦ blank_line p line text texts blank
      ∙ walk_faults texts [] p q (line + 1) (rw blank at says) walks ends
  | inr filled ↦ let bad : ⊥ = let none = rw filled at says in cc in absurd bad
]
walk_faults (text ∷ texts) (s ∷ ss) p q line says walks ends =
    elim (cases_Bool (is_blank_line text)) [
      | inl blank ↦ blank_line p line text texts blank
          ∙ walk_faults texts (s ∷ ss) p q (line + 1) (rw blank at says) walks ends
      | inr filled ↦
          let all = rw filled at says in
          let here : said text ≡ Some s = cc in
          let rest : map said (filter (λ t. not (is_blank_line t)) texts) ≡ map Some ss = cc in
          advanced p line text texts walks.0 filled (advances p walks.0 line text s here walks.1)
          ∙ walk_faults texts ss walks.0 q (line + 1) rest walks.2 ends
    ]

-- ---- the statements of a program

within_is : (st : Stage) (g i dp sh so : ℕ) → g ≤ 8 → i ≤ 4096 → dp ≤ 3 → sh ≤ 16 → so ≤ 16
    → is_within (state st g i dp sh so) ≡ true
unfolding is_within
within_is st g i dp sh so a b c d e =
    rw (le-leb g 8 a, le-leb i 4096 b, le-leb dp 3 c, le-leb sh 16 d, le-leb so 16 e) refl

group_follows : (g : ℕ) (group : GroupDecl) → g + 1 ≤ 8 → IsSmall group
    → Follows (state stage.Groups g 0 0 0 0) (says.Group g group)
    (state stage.Groups (g + 1) 0 0 0 0)
unfolding state_after is_small
group_follows g group room small = grind (arith, eq-eqb, within_is, lit≤, le-leb)

walk_groups : (gs : List GroupDecl) (g m : ℕ) → g + length gs ≡ m → m ≤ 8 → All IsSmall gs
    → Walks (state stage.Groups g 0 0 0 0) (groups_say g gs) (state stage.Groups m 0 0 0 0)
walk_groups [] g m is room small = let same : g ≡ m = omega arith in rw same refl
walk_groups (group ∷ gs) g m is room small = (
  state stage.Groups (g + 1) 0 0 0 0,
  group_follows g group (omega arith) (All-head IsSmall group gs small),
  walk_groups gs (g + 1) m (omega arith) room (All-tail IsSmall group gs small),
)

-- a step of the body, where steps may stand
abbrev Steps : TextState → Statement → TextState → Type 0
Steps p s q = (state_after_step p s ≡ Some q) × (is_within q ≡ true) × (is_small s ≡ true)

end_follows : (g i dp : ℕ) → g ≤ 8 → i ≤ 4096 → dp + 1 ≤ 3
    → Steps (state stage.Body g i (dp + 1) 0 0) says.End (state stage.Body g i dp 0 0)
unfolding is_small
end_follows g i dp a b c = grind (arith, ne_eqb, within_is, lit≤)

-- a body after one of its steps
walk_body : (c : Code) (g i dp m : ℕ) → i + code_size c ≡ m → m ≤ 4096 → dp + scan_depth c ≤ 3
    → g ≤ 8 → Walks (state stage.Body g i dp 0 0) (code_says c) (state stage.Body g m dp 0 0)
unfolding state_after is_small
walk_body Stop g i dp m is room nested few = let same : i ≡ m = omega arith in rw same refl
walk_body (Then op rest) g i dp m is room nested few =
    grind (arith, state, within_is, walk_body rest g (i + 1) dp m)
walk_body (Each t r body rest) g i dp m is room nested few =
    let within : larger (1 + scan_depth body) (scan_depth rest) ≤ 3 - dp = omega arith in
    let inner : dp + 1 + scan_depth body ≤ 3 =
    omega (arith, left_within (1 + scan_depth body) (scan_depth rest) (3 - dp) within) in
    let outer : dp + scan_depth rest ≤ 3 =
    omega (arith, right_within (1 + scan_depth body) (scan_depth rest) (3 - dp) within) in
    let n : ℕ = i + 1 + code_size body in
    let turns = walk_body body g (i + 1) (dp + 1) n refl (omega arith) inner few in
    let others = walk_body rest g n dp m (omega arith) room outer few in (
      state stage.Body g (i + 1) (dp + 1) 0 0,
      (
        refl,
        within_is stage.Body g (i + 1) (dp + 1) 0 0 few (omega arith) (omega arith) (lit≤ tt)
            (lit≤ tt),
        refl,
      ),
      walks_on (state stage.Body g (i + 1) (dp + 1) 0 0) (state stage.Body g n (dp + 1) 0 0)
          (state stage.Body g m dp 0 0) (code_says body) (says.End ∷ code_says rest) turns
          (state stage.Body g n dp 0 0, end_follows g n dp few (omega arith) (omega arith), others),
    )

-- the rest of a program after a step, and its report
walk_report : (c : Code) (g i m n : ℕ) → i + code_size c ≡ m → m ≤ 4096 → scan_depth c ≤ 3 → g ≤ 8
    → Walks (state stage.Body g i 0 0 0) (code_says c ++ says.Report n ∷ [])
    (state stage.Shows g m 0 0 0)
unfolding state_after is_small
walk_report c g i m n is room nested few =
    walks_on (state stage.Body g i 0 0 0) (state stage.Body g m 0 0 0) (state stage.Shows g m 0 0 0)
    (code_says c) (says.Report n ∷ [])
    (walk_body c g i 0 m is room (omega arith) few) (
      state stage.Shows g m 0 0 0,
      (refl, within_is stage.Shows g m 0 0 0 few room (lit≤ tt) (lit≤ tt) (lit≤ tt), refl),
      refl,
    )

-- the first step after the groups is one of the body
after_groups : (c : Code) (g n : ℕ) (q : TextState)
    → Walks (state stage.Body g 0 0 0 0) (code_says c ++ says.Report n ∷ []) q
    → Walks (state stage.Groups g 0 0 0 0) (code_says c ++ says.Report n ∷ []) q
unfolding state_after
after_groups Stop g n q walks = walks
after_groups (Then op rest) g n q walks = walks
after_groups (Each t r body rest) g n q walks = walks

-- ---- below the report

walk_shows : (xs : List Show) (g i sh m : ℕ) → g ≤ 8 → i ≤ 4096 → sh + length xs ≡ m → m ≤ 16
    → Walks (state stage.Shows g i 0 sh 0) (map says.Show xs) (state stage.Shows g i 0 m 0)
unfolding state_after is_small
walk_shows [] g i sh m few room is within = let same : sh ≡ m = omega arith in rw same refl
walk_shows (x ∷ xs) g i sh m few room is within =
    grind (arith, state, within_is, walk_shows xs g i (sh + 1) m few room)

walk_sorts : (ks : List SortKey) (g i sh so m : ℕ) → g ≤ 8 → i ≤ 4096 → sh ≤ 16 → so + length ks ≡ m
    → m ≤ 16 → Walks (state stage.Sorts g i 0 sh so) (map says.Sort ks)
    (state stage.Sorts g i 0 sh m)
unfolding state_after is_small
walk_sorts [] g i sh so m few room shows is within = let same : so ≡ m = omega arith in rw same refl
walk_sorts (k ∷ ks) g i sh so m few room shows is within =
    grind (arith, state, within_is, walk_sorts ks g i sh (so + 1) m few room shows)

-- a text may end below the report
abbrev pub Ends : TextState → List Statement → Type 0
Ends p ss = (q : TextState) × Walks p ss q × ((n : ℕ) → end_in q.stage q.depth n ≡ None)

sorts_end : (ks : List SortKey) (g i sh : ℕ) → g ≤ 8 → i ≤ 4096 → sh ≤ 16 → length ks ≤ 16
    → Ends (state stage.Shows g i 0 sh 0) (map says.Sort ks)
unfolding state_after is_small
sorts_end [] g i sh few room shows within = (state stage.Shows g i 0 sh 0, refl, λ n. refl)
sorts_end (k ∷ ks) g i sh few room shows within =
    let q : TextState = state stage.Sorts g i 0 sh (length (k ∷ ks)) in (
      q,
      (
        state stage.Sorts g i 0 sh 1,
        (refl, within_is stage.Sorts g i 0 sh 1 few room (lit≤ tt) shows (lit≤ tt), refl),
        walk_sorts ks g i sh 1 (length (k ∷ ks)) few room shows (omega arith) within,
      ),
      λ n. refl,
    )

ends_on : (p q : TextState) (ss ts : List Statement) → Walks p ss q → Ends q ts → Ends p (ss ++ ts)
ends_on p q ss ts w e = (e.0, walks_on p q e.0 ss ts w e.1, e.2)

head_first : (n : ℕ) (ss : List Statement) → n ≤ 4096 → Ends (state stage.Groups 0 0 0 0 0) ss
    → Ends start (says.Header ∷ says.Registers n ∷ ss)
unfolding start state_after is_small is_within
head_first n ss room e = (
  e.0,
  (
    state stage.Registers 0 0 0 0 0,
    (refl, refl, refl),
    (state stage.Groups 0 0 0 0 0, (refl, refl, le-leb n 4096 room), e.1),
  ),
  e.2,
)

body_first : (gs code tail : List Statement) (r : Statement)
    → gs ++ (code ++ r ∷ tail) ≡ gs ++ ((code ++ r ∷ []) ++ tail)
body_first gs code tail r = ap (λ ss. gs ++ ss) (sym (append_assoc code (r ∷ []) tail))

pub program_ends : (p : Parts) → IsWithinLimits p → Ends start (program_statements p)
program_ends p h =
    let g : ℕ = length p.groups in
    let i : ℕ = code_size p.body in
    let sh : ℕ = length p.shows in
    let groups = walk_groups p.groups 0 g (omega arith) h.groups h.each_group in
    let body = after_groups p.body g p.report (state stage.Shows g i 0 0 0)
    (walk_report p.body g 0 i p.report (omega arith) h.instructions h.scans h.groups) in
    let shows = walk_shows p.shows g i 0 sh h.groups h.instructions (omega arith) h.shows in
    let sorts = sorts_end p.sorts g i sh h.groups h.instructions h.shows h.sorts in
    let tail : Ends (state stage.Shows g i 0 0 0) (tail_of p) =
    ends_on (state stage.Shows g i 0 0 0) (state stage.Shows g i 0 sh 0) (map says.Show p.shows)
    (map says.Sort p.sorts) shows sorts in
    let below : Ends (state stage.Groups g 0 0 0 0)
    ((code_says p.body ++ says.Report p.report ∷ []) ++ tail_of p) =
    ends_on (state stage.Groups g 0 0 0 0) (state stage.Shows g i 0 0 0)
    (code_says p.body ++ says.Report p.report ∷ []) (tail_of p) body tail in
    let after_head : Ends (state stage.Groups 0 0 0 0 0)
    (groups_say 0 p.groups ++ ((code_says p.body ++ says.Report p.report ∷ []) ++ tail_of p)) =
    ends_on (state stage.Groups 0 0 0 0 0) (state stage.Groups g 0 0 0 0) (groups_say 0 p.groups)
    ((code_says p.body ++ says.Report p.report ∷ []) ++ tail_of p) groups below in
    let is = program_said p
    ∙ ap (λ (ss : List Statement). says.Header ∷ says.Registers p.registers ∷ ss)
    (body_first (groups_say 0 p.groups) (code_says p.body) (tail_of p) (says.Report p.report)) in
    subst (Ends start) (sym is) (head_first p.registers
    (groups_say 0 p.groups ++ ((code_says p.body ++ says.Report p.report ∷ []) ++ tail_of p))
    h.registers after_head)

pub no_fault : (text : List ℕ) (p : Parts) → Spells text p → IsWithinLimits p
    → program_text_fault text ≡ None
unfolding Spells
no_fault text p spells small =
    let end = program_ends p small in
    text_fault_is text ∙ walk_faults (lines_of text) (program_statements p) start end.0 1 spells
    end.1 end.2
