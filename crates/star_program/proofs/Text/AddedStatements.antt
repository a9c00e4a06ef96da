-- What a draft says and counts, with a statement more.
use Rattle.std.proofs.{Common.{◌≡◌, ◌≤◌, ◌+◌, ◌-◌, ◌∙◌, ◌∷◌, ◌++◌, [], ℕ, List, append_assoc, append-nil, length, arith, ap, refl}, lemmas.List.{length_push, map_push}, lemmas.Grind.common_steps}
use Rattle.star_program.{specs.Code.{Code, Stop, Then, Each, code_size, scan_depth}, specs.Private.Drafts.{Counts, IsClosed, begun, closed, code_says, groups_say, opens_say, whole_draft}, specs.Private.Followed.followed, specs.Limits.IsSmall, specs.declared.group.GroupDecl.GroupDecl, specs.declared.op.Op.Op, specs.declared.program.Show.Show, specs.declared.spelling.draft.Draft.Draft, specs.declared.spelling.draft.OpenScan.OpenScan, specs.declared.spelling.statement.Statement.Statement, proofs.Text.Depths.{both_within, left_within, right_within}}
use Rattle.star_schema.specs.{declared.group.SortKey.SortKey, declared.table.TableId.TableId}
use Rattle.star_program.specs.declared.spelling.statement.Statement.TheVariants as says

-- ---- a code and another after it

pub followed_says : (c d : Code) → code_says (followed c d) ≡ code_says c ++ code_says d
followed_says Stop d = refl
followed_says (Then op c) d = ap (λ ss. says.Act op ∷ ss) (followed_says c d)
followed_says (Each t r b c) d = grind (arith, followed_says c d, append_assoc)

followed_size : (c d : Code) → code_size (followed c d) ≡ code_size c + code_size d
followed_size Stop d = omega arith
followed_size (Then op c) d = omega (arith, followed_size c d)
followed_size (Each t r b c) d = omega (arith, followed_size c d)

followed_depth : (c d : Code) (k : ℕ) → scan_depth c ≤ k → scan_depth d ≤ k
    → scan_depth (followed c d) ≤ k
followed_depth Stop d k h g = g
followed_depth (Then op c) d k h g = followed_depth c d k h g
followed_depth (Each t r b c) d k h g =
    both_within (1 + scan_depth b) (scan_depth (followed c d)) k
    (left_within (1 + scan_depth b) (scan_depth c) k h)
    (followed_depth c d k (right_within (1 + scan_depth b) (scan_depth c) k h) g)

depth_parts : (c d : Code) (k : ℕ) → scan_depth (followed c d) ≤ k
    → (scan_depth c ≤ k) × (scan_depth d ≤ k)
depth_parts Stop d k h = (omega arith, h)
depth_parts (Then op c) d k h = depth_parts c d k h
depth_parts (Each t r b c) d k h =
    let rest = depth_parts c d k
    (right_within (1 + scan_depth b) (scan_depth (followed c d)) k h) in (
      both_within (1 + scan_depth b) (scan_depth c) k
          (left_within (1 + scan_depth b) (scan_depth (followed c d)) k h) rest.0,
      rest.1,
    )

-- ---- the body with the closed_all scans closed

abbrev around : OpenScan → Code → Code
around o body = followed o.before (Each o.table o.target body Stop)

closed_push : (os : List OpenScan) (o : OpenScan) (b : Code)
    → closed (os ++ o ∷ []) b ≡ closed os (around o b)
closed_push [] o b = refl
closed_push (s ∷ os) o b = ap (around s) (closed_push os o b)

around_size : (o : OpenScan) (b : Code)
    → code_size (around o b) ≡ code_size o.before + (1 + code_size b)
around_size o b = omega (arith, followed_size o.before (Each o.table o.target b Stop))

closed_size : (os : List OpenScan) (b x : Code)
    → code_size (closed os (followed b x)) ≡ code_size (closed os b) + code_size x
closed_size [] b x = followed_size b x
closed_size (s ∷ os) b x = grind (arith, closed_size os b x, around_size)

around_depth : (o : OpenScan) (b : Code) (k : ℕ) → scan_depth o.before ≤ k → 1 + scan_depth b ≤ k
    → scan_depth (around o b) ≤ k
around_depth o b k h g =
    followed_depth o.before (Each o.table o.target b Stop) k h
    (both_within (1 + scan_depth b) 0 k g (omega arith))

around_parts : (o : OpenScan) (b : Code) (k : ℕ) → scan_depth (around o b) ≤ k
    → (scan_depth o.before ≤ k) × (1 + scan_depth b ≤ k)
around_parts o b k h =
    let parts = depth_parts o.before (Each o.table o.target b Stop) k h in
    (parts.0, left_within (1 + scan_depth b) 0 k parts.1)

closed_depth : (os : List OpenScan) (b x : Code) (k : ℕ) → scan_depth (closed os b) ≤ k
    → length os + scan_depth x ≤ k → scan_depth (closed os (followed b x)) ≤ k
closed_depth [] b x k h g = followed_depth b x k h (omega arith)
closed_depth (s ∷ os) b x k h g =
    let parts = around_parts s (closed os b) k h in
    let inner : scan_depth (closed os b) ≤ k - 1 = omega (arith, parts.1) in
    let room : length os + scan_depth x ≤ k - 1 = omega arith in
    let deeper = closed_depth os b x (k - 1) inner room in
    around_depth s (closed os (followed b x)) k parts.0 (omega (arith, parts.1, deeper))

-- ---- what a draft says, with a statement more

groups_push : (n : ℕ) (gs : List GroupDecl) (g : GroupDecl)
    → groups_say n (gs ++ g ∷ []) ≡ groups_say n gs ++ says.Group (n + length gs) g ∷ []
groups_push n [] g = let same : n ≡ n + 0 = omega arith in ap (λ k. says.Group k g ∷ []) same
groups_push n (h ∷ gs) g = grind (arith, groups_push (n + 1) gs g)

opens_push : (os : List OpenScan) (o : OpenScan)
    → opens_say (os ++ o ∷ [])
    ≡ opens_say os ++ (code_says o.before ++ says.Scan o.table o.target ∷ [])
opens_push [] o = refl
opens_push (s ∷ os) o = grind (arith, opens_push os o, append_assoc)

-- the end of three lists
behind : (a b c x : List Statement) → a ++ (b ++ (c ++ x)) ≡ (a ++ (b ++ c)) ++ x
behind a b c x = simp append_assoc

pub begun_group : (d : Draft) (g : GroupDecl) → d.scans ≡ [] → d.body ≡ Stop
    → begun (record d { groups = d.groups ++ g ∷ [] })
    ≡ begun d ++ says.Group (length d.groups) g ∷ []
begun_group d g closed_all body = grind (arith, append-nil, groups_push)

pub begun_body : (d : Draft) (x : Code)
    → begun (record d { body = followed d.body x }) ≡ begun d ++ code_says x
begun_body d x = grind (arith, followed_says, behind)

pub begun_scan : (d : Draft) (t : TableId) (r : ℕ)
    → begun (record d {
      scans = d.scans ++ record { before = d.body; table = t; target = r } ∷ [];
      body = Stop;
    })
    ≡ begun d ++ says.Scan t r ∷ []
begun_scan d t r = grind (arith, append-nil, opens_push, behind)

regrouped : (g o b c : List Statement) (s x : Statement)
    → g ++ (o ++ (b ++ s ∷ (c ++ x ∷ []))) ≡ (g ++ ((o ++ (b ++ s ∷ [])) ++ c)) ++ x ∷ []
regrouped g o b c s x = simp append_assoc

pub begun_end : (d e : Draft) → IsClosed d e → begun e ≡ begun d ++ says.End ∷ []
begun_end d e c = grind (arith, followed_says, opens_push, regrouped)

pub whole_report : (d : Draft) (g : ℕ) → d.scans ≡ [] → d.shows ≡ [] → d.sorts ≡ []
    → whole_draft (record d { report = g }) ≡ begun d ++ says.Report g ∷ []
whole_report d g closed_all shows sorts = grind (arith, append_assoc)

shown : (g b m : List Statement) (r x : Statement)
    → g ++ (b ++ r ∷ (m ++ x ∷ [])) ≡ (g ++ (b ++ r ∷ m)) ++ x ∷ []
shown g b m r x = simp append_assoc

pub whole_show : (d : Draft) (show : Show) → d.sorts ≡ []
    → whole_draft (record d { shows = d.shows ++ show ∷ [] }) ≡ whole_draft d ++ says.Show show ∷ []
whole_show d show sorts = grind (arith, append-nil, map_push, shown)

pub whole_sort : (d : Draft) (key : SortKey)
    → whole_draft (record d { sorts = d.sorts ++ key ∷ [] }) ≡ whole_draft d ++ says.Sort key ∷ []
whole_sort d key = grind (arith, map_push, append_assoc, shown)

-- ---- what a draft counts, with a statement more

pub counts_registers : (g i dp sh so n : ℕ) (d : Draft) → n ≤ 4096 → Counts g i dp sh so d
    → Counts g i dp sh so (record d { registers = n })
counts_registers g i dp sh so n d small c = (small, c.1, c.2, c.3, c.4)

pub counts_group : (g i dp sh so : ℕ) (group : GroupDecl) (d : Draft) → IsSmall group
    → Counts g i dp sh so d
    → Counts (g + 1) i dp sh so (record d { groups = d.groups ++ group ∷ [] })
counts_group g i dp sh so group d small c = grind (arith, common_steps, length_push)

pub counts_step : (g i dp sh so : ℕ) (op : Op) (d : Draft) → dp ≤ 3 → Counts g i dp sh so d
    → Counts g (i + 1) dp sh so (record d { body = followed d.body (Then op Stop) })
counts_step g i dp sh so op d room c = grind (arith, closed_size, closed_depth)

pub counts_scan : (g i dp sh so : ℕ) (t : TableId) (r : ℕ) (d : Draft) → dp + 1 ≤ 3
    → Counts g i dp sh so d
    → Counts g (i + 1) (dp + 1) sh so (record d {
      scans = d.scans ++ record { before = d.body; table = t; target = r } ∷ [];
      body = Stop;
    })
counts_scan g i dp sh so t r d room c =
    grind (arith, closed_push, closed_depth, length_push, closed_size)

pub counts_end : (g i dp sh so : ℕ) (d e : Draft) → IsClosed d e → Counts g i dp sh so d
    → Counts g i (dp - 1) sh so e
counts_end g i dp sh so d e end c = grind (arith, closed_push, length_push)

pub counts_show : (g i dp sh so : ℕ) (show : Show) (d : Draft) → Counts g i dp sh so d
    → Counts g i dp (sh + 1) so (record d { shows = d.shows ++ show ∷ [] })
counts_show g i dp sh so show d c =
    (c.0, c.1, c.2, length_push d.shows show ∙ ap (λ k. k + 1) c.3, c.4)

pub counts_sort : (g i dp sh so : ℕ) (key : SortKey) (d : Draft) → Counts g i dp sh so d
    → Counts g i dp sh (so + 1) (record d { sorts = d.sorts ++ key ∷ [] })
counts_sort g i dp sh so key d c =
    (c.0, c.1, c.2, c.3, length_push d.sorts key ∙ ap (λ k. k + 1) c.4)
