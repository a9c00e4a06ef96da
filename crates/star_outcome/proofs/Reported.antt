-- The report of a run, from the sorted groups of a store.
use Rattle.std.{proofs.Common.{◌≡◌, arith, ℕ, suc, length, List, [], ◌∷◌, Some, get_or, slice_get, map, ap, sym, subst, refl, ◌∙◌}, proofs.Math.ListN.get_or-map, proofs.lemmas.List.length-map, proofs.lemmas.List.Elements.Contains-get_or, proofs.lemmas.Simd.map-map, specs.List.{All, AllByRecursion, Contains}}
use Rattle.star_schema.specs.{Database.Database, declared.group.SortKey.SortKey, Groups.GroupRow as Row}
use Rattle.star_program.specs.{declared.group.GroupDecl.GroupDecl, declared.group.GroupKey.GroupKey, declared.outcome.Cell.Cell, declared.program.Parts.Parts, declared.key.KeyValue.KeyValue, Effects.State, Faults.group_at, Outcome.decoded_row, Outcome.shown_cells, Puts.Update}
use Rattle.star_group.specs.{StoreRows.AreRows as AreGroupRows, StoreRows.row_at, Stores.Group, Stores.group_declared}
use Rattle.star_outcome.{specs.Private.Decoded.{AreDecodable, AreReported, AreSortedGroups, AreToReport, row_cells}, specs.Done.HasDone, specs.SoundKeys.AreSoundKeys, specs.declared.work.Work.Work, proofs.DecodedRows.{decoded_in_order, group_decodable}}
use Rattle.star_world.specs.WorldOf.{world_of}

-- ---- the rows have keys as declared

groups_decodable : (db : Database) (d : GroupDecl) (sorts : List SortKey) (updates : List Update)
    (rows : List (Row KeyValue)) → AllByRecursion (λ u. AreSoundKeys db d.keys u.keys) updates
    → AreSortedGroups (group_declared d) sorts updates rows
    → (group : Row KeyValue) → Contains rows group → AreDecodable db d.keys group.keys
groups_decodable db d sorts updates rows sound are group c =
    group_decodable db d.shape d.keys updates group.keys sound (are.groups.each group c).0

pub rows_decodable : (db : Database) (d : GroupDecl) (sorts : List SortKey) (updates : List Update)
    (rows : List (Row KeyValue)) → AllByRecursion (λ u. AreSoundKeys db d.keys u.keys) updates
    → AreSortedGroups (group_declared d) sorts updates rows
    → All (λ row. AreDecodable db d.keys row.keys) rows
rows_decodable db d sorts updates rows sound are = λ k row within.
    groups_decodable db d sorts updates rows sound are (get_or rows k row)
    (Contains-get_or rows k row within)

pub decodable_by_number :
    (db : Database) (ds : List GroupKey) (left : List (Row KeyValue)) (numbers : List ℕ)
    → All (λ row. AreDecodable db ds row.keys) (map (row_at left) numbers)
    → All (λ number. AreDecodable db ds (row_at left number).keys) numbers
decodable_by_number db ds left numbers all = λ k d within.
    let seen = length-map numbers (row_at left) in
    subst (λ (row : Row KeyValue). AreDecodable db ds row.keys)
    (get_or-map (row_at left) numbers k d)
    (all k (row_at left d) (omega (arith, within, seen)))

-- ---- the report

-- each key list has as many keys as are declared
sound_count : (db : Database) (ds : List GroupKey) (ks : List KeyValue) → AreSoundKeys db ds ks
    → length ks ≡ length ds
sound_count db [] [] h = refl
sound_count db (d ∷ ds) (k ∷ ks) h = ap suc (sound_count db ds ks h.1)
sound_count db [] (k ∷ ks) h = absurd h
sound_count db (d ∷ ds) [] h = absurd h

pub sound_counts : (db : Database) (ds : List GroupKey) (us : List Update)
    → AllByRecursion (λ u. AreSoundKeys db ds u.keys) us
    → AllByRecursion (λ u. length u.keys ≡ length ds) us
sound_counts db ds [] h = tt
sound_counts db ds (u ∷ us) h = (sound_count db ds u.keys h.0, sound_counts db ds us h.1)

-- what a run has done leaves the rows of its reported store
pub to_report : {S : Type 0} (group : S → Group) (has : S → List Update → Type 0) (db : Database)
    (parts : Parts) (work : Work S) (s : State) (store : S) (rows : List (Row KeyValue))
    → HasDone group has db parts work s → slice_get work.stores.items parts.report ≡ Some store
    → ((updates : List Update) → has store updates → AreGroupRows (group store) updates rows)
    → AreToReport db parts (s.updates_of parts.report) rows
to_report group has db parts work s store rows done at are =
    let is = done.stores.each parts.report store at in record {
      are = subst (λ d. AreGroupRows d (s.updates_of parts.report) rows) is.is
          (are (s.updates_of parts.report) is.content);
      sound = done.sound.each parts.report;
    }

-- the sorted rows, cut to the show lines
pub are_reported : (db : Database) (parts : Parts) (updates : List Update)
    (rows left : List (Row KeyValue)) (cells : List (List Cell)) → AreToReport db parts updates left
    → AreSortedGroups (group_declared (group_at parts parts.report)) parts.sorts updates rows
    → cells ≡ map (row_cells (world_of db) (group_at parts parts.report) parts.shows) rows
    → AreReported (world_of db) parts updates cells
are_reported db parts updates rows left cells is sorted shown =
    let d = group_at parts parts.report in
    record {
      rows = map (decoded_row (world_of db) d) rows;
      reported = record {
        groups = rows;
        each_group = sorted.groups;
        decoded = refl;
        in_order = decoded_in_order db d parts.sorts rows
            (groups_decodable db d parts.sorts updates rows is.sound sorted) sorted.in_order;
      };
      shown = shown ∙ sym (map-map (shown_cells parts) (decoded_row (world_of db) d) rows);
    }
