use Rattle.std.proofs.{Common.{◌≡◌, ◌↔◌, ℕ, length, Some, [], ◌∷◌, slice_get, subst, rules, w64, FitsSigned}, lemmas.Int.to_z-of_z}
use Rattle.star_schema.specs.{Database.rows_in, Loadable.keys_of}
use Rattle.star_world.proofs.{Found.is_position, Found.found_within, Loaded.keys_len}
use Rattle.star_outcome.proofs.lookups.find.Goals as goal

pub returns-clause-found : goal.returns-clause-found
returns-clause-found c =
    let fits : FitsSigned w64 c.args.key = search rules in
    let keys = keys_of c.args.table (rows_in c.args.catalogue.now c.args.table) in
    is_position c.args.key keys c.find.result
    (subst (λ n. (row : ℕ) → (c.find.result ≡ Some row) ↔ (slice_get keys row ≡ Some (n ∷ [])))
    (to_z-of_z w64 c.args.key fits) c.find.ensures)

pub returns-clause-within : goal.returns-clause-within
returns-clause-within c =
    let fits : FitsSigned w64 c.args.key = search rules in
    let keys = keys_of c.args.table (rows_in c.args.catalogue.now c.args.table) in
    found_within c.args.key keys (length (rows_in c.args.catalogue.now c.args.table)) c.find.result
    (keys_len c.args.table (rows_in c.args.catalogue.now c.args.table))
    (subst (λ n. (row : ℕ) → (c.find.result ≡ Some row) ↔ (slice_get keys row ≡ Some (n ∷ [])))
    (to_z-of_z w64 c.args.key fits) c.find.ensures)
