-- A draft takes each statement, but for an end where no scan is open.
use Rattle.std.proofs.Common.{◌≡◌, ◌<◌, ◌∷◌, ◌++◌, [], List, length, arith, ap, refl}
use Rattle.star_program.specs.{Code.Stop, Code.Then, Code.Each, Private.Drafts.IsAdded, Private.Followed.followed, declared.spelling.draft.Draft.Draft, declared.spelling.draft.OpenScan.OpenScan, declared.spelling.statement.Statement.Statement}
use Rattle.star_program.specs.declared.spelling.statement.Statement.TheVariants as says

last_split : {X : Type 0} (xs : List X) → 0 < length xs
    → (front : List X) × (x : X) × (xs ≡ front ++ x ∷ [])
last_split [] h = absurd (omega arith)
last_split (x ∷ []) h = ([], x, refl)
last_split (x ∷ y ∷ xs) h =
    let rest = last_split (y ∷ xs) (omega arith) in
    (x ∷ rest.0, rest.1, ap (λ l. x ∷ l) rest.2)

pub takes : (d : Draft) (s : Statement) → (s ≡ says.End → 0 < length d.scans)
    → (e : Draft) × IsAdded d s e
takes d says.Header may = (d, refl)
takes d (says.Registers n) may = (record d { registers = n }, refl)
takes d (says.Group index group) may = (record d { groups = d.groups ++ group ∷ [] }, refl)
takes d (says.Act op) may = (record d { body = followed d.body (Then op Stop) }, refl)
takes d (says.Scan t r) may = grind arith
takes d says.End may =
    let split = last_split d.scans (may refl) in
    let o : OpenScan = split.1 in (
      record d { scans = split.0; body = followed o.before (Each o.table o.target d.body Stop) },
      record { scan = o; scans = split.2; body = refl },
    )
takes d (says.Report g) may = (record d { report = g }, refl)
takes d (says.Show show) may = (record d { shows = d.shows ++ show ∷ [] }, refl)
takes d (says.Sort key) may = (record d { sorts = d.sorts ++ key ∷ [] }, refl)
