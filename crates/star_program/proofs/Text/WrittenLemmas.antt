-- The text of a program, part by part.
use Rattle.std.{proofs.Common.{◌≡◌, ◌≤◌, ◌∙◌, ◌+◌, ◌∷◌, ◌++◌, [], ℕ, List, Some, append_assoc, append-nil, drop, length, map, sym, ap, refl, arith}, specs.List.{flat_map, slice_get}, proofs.lemmas.List.drop_all, proofs.lemmas.List.Concat.flat_map-append}
use Rattle.star_common.proofs.Lists.{drop_at_index}
use Rattle.star_schema.specs.declared.table.TableId.{TableId}
use Rattle.star_program.specs.{Code.Code, CodeOfSteps.{before, code_of_steps}, Private.Followed.code_of_step, Text.Written.{written_line, program_text}, Text.Statements.{Line, group_lines, line, lines_of_code, show_line, sort_line}, declared.body.Step.Step, declared.body.Step.TheVariants.{Act, Scan}, declared.group.GroupDecl.GroupDecl, declared.op.Op.Op, declared.program.Parts.Parts}
use Rattle.star_program.specs.declared.spelling.statement.Statement.TheVariants as says

abbrev pub texts : List Line → List ℕ
texts lines = flat_map written_line lines

abbrev pub code_text : ℕ → Code → List ℕ
code_text depth code = texts (lines_of_code depth code)

-- one group more
pub group_more : (groups : List GroupDecl) (i : ℕ) (group : GroupDecl) (old text : List ℕ)
    → slice_get groups i ≡ Some group → text ++ texts (group_lines i (drop i groups)) ≡ old
    → (text ++ written_line (line 0 (says.Group i group)))
    ++ texts (group_lines (i + 1) (drop (i + 1) groups)) ≡ old
group_more groups i group old text at h = grind (arith, append_assoc, drop_at_index)

-- a step and the code after it
step_lines : (depth : ℕ) (step : Step) (rest : Code)
    → lines_of_code depth (before step rest)
    ≡ lines_of_code depth (code_of_step step) ++ lines_of_code depth rest
unfolding lines_of_code
step_lines depth it rest = grind (arith, append_assoc)

pub step_more : (depth : ℕ) (steps : List Step) (i : ℕ) (step : Step) (old text : List ℕ)
    → slice_get steps i ≡ Some step → text ++ code_text depth (code_of_steps (drop i steps)) ≡ old
    → (text ++ code_text depth (code_of_step step))
    ++ code_text depth (code_of_steps (drop (i + 1) steps)) ≡ old
step_more depth steps i step old text at h =
    let rest : Code = code_of_steps (drop (i + 1) steps) in
    let here : code_text depth (code_of_steps (drop i steps))
    ≡ code_text depth (code_of_step step) ++ code_text depth rest =
    rw (drop_at_index steps i step at)
    (ap texts (step_lines depth step rest)
    ∙ flat_map-append written_line (lines_of_code depth (code_of_step step))
    (lines_of_code depth rest)) in
    append_assoc text (code_text depth (code_of_step step)) (code_text depth rest) ∙ rw here at h

pub all_steps : (depth : ℕ) (steps : List Step) (i : ℕ) (old text : List ℕ) → length steps ≤ i
    → text ++ code_text depth (code_of_steps (drop i steps)) ≡ old → text ≡ old
unfolding lines_of_code
all_steps depth steps i old text past h = sym (append-nil text) ∙ rw (drop_all i steps past) at h

pub act_text : (depth : ℕ) (op : Op)
    → written_line (line depth (says.Act op)) ≡ code_text depth (code_of_step (Act op))
unfolding lines_of_code
act_text depth op = sym (append-nil (written_line (line depth (says.Act op))))

pub scan_text : (depth : ℕ) (table : TableId) (target : ℕ) (body : Code) (old : List ℕ)
    → ((old ++ written_line (line depth (says.Scan table target))) ++ code_text (depth + 1) body)
    ++ written_line (line depth says.End)
    ≡ old ++ code_text depth (code_of_step (Scan table target body))
unfolding lines_of_code
scan_text depth table target body old = grind (arith, flat_map-append, append-nil, append_assoc)

pub flat_map_map : {X Y : Type 0} (f : Y → List ℕ) (g : X → Y) (xs : List X)
    → flat_map f (map g xs) ≡ flat_map (λ x. f (g x)) xs
flat_map_map f g [] = refl
flat_map_map f g (x ∷ xs) = ap (λ t. f (g x) ++ t) (flat_map_map f g xs)

-- the text of a program, in its six parts
pub parts_text : (p : Parts)
    → program_text p ≡ (written_line (line 0 says.Header)
    ++ written_line (line 0 (says.Registers p.registers)))
    ++ (texts (group_lines 0 p.groups)
    ++ (code_text 0 p.body ++ (written_line (line 0 (says.Report p.report))
    ++ (flat_map (λ show. written_line (show_line show)) p.shows
    ++ flat_map (λ key. written_line (sort_line key)) p.sorts))))
unfolding program_text
parts_text p = grind (arith, flat_map-append, flat_map_map, append_assoc)

pub chained : (n1 n2 n3 n4 n5 n6 a b c d e f : List ℕ) → n1 ≡ a → n2 ≡ n1 ++ b → n3 ≡ n2 ++ c
    → n4 ≡ n3 ++ d → n5 ≡ n4 ++ e → n6 ≡ n5 ++ f → n6 ≡ a ++ (b ++ (c ++ (d ++ (e ++ f))))
chained n1 n2 n3 n4 n5 n6 a b c d e f p q r s t u = rw (u, t, s, r, q, p) (simp append_assoc)
