-- What a load under the widest limits gives.
use Rattle.std.{proofs.Common.{◌≡◌, ℕ, List, ap, subst, sym}, specs.Prelude.{Result, Ok, Err, IfErr, IfOk, MatchResult}}
use Rattle.star_schema.specs.{declared.table.TableId.TheVariants.Lineorder, Database.TableTexts, Loadable.IsLoadable, Most.most_rows, Most.most_visits}
use Rattle.star_reader.specs.Partway.{HasReadText, Reading}
use Rattle.star_catalogue.specs.Pieces.{IsReadNextTo}
use Rattle.star_engine.specs.{declared.fault.EngineFault.EngineFault, Answered.OrMemory, Loads.IsLoadError, Loads.Loaded, Loads.loaded_of}
use Rattle.star_cli.specs.{FolderLoads.AreTablesUnread, FolderLoads.IsFolderUnread, Private.Reads.IsWidest, ReadFolders.HasReadSome, Stores.Known, declared.failure.Failure.Failure, declared.failure.Failure.TheVariants.Words}

abbrev pub IsLoadedOf : (rows visits : ℕ) → TableTexts → Result Loaded EngineFault → Type 0
IsLoadedOf rows visits texts result = MatchResult result
    (λ engine. IsLoadable rows texts × (engine ≡ loaded_of rows visits texts))
    (OrMemory (IsLoadError rows texts))

in_one : (rows visits : ℕ) (texts : TableTexts) (result : Result Loaded EngineFault)
    → IfOk result (λ engine. IsLoadable rows texts)
    → IfOk result (λ engine. engine ≡ loaded_of rows visits texts)
    → IfErr result (OrMemory (IsLoadError rows texts)) → IsLoadedOf rows visits texts result
in_one rows visits texts (Ok engine) loadable loaded refused = (loadable, loaded)
in_one rows visits texts (Err fault) loadable loaded refused = refused

pub of_widest : (texts : TableTexts) (rows visits : ℕ) → rows ≡ most_rows → visits ≡ most_visits
    → (result : Result Loaded EngineFault) → IfOk result (λ engine. IsLoadable rows texts)
    → IfOk result (λ engine. engine ≡ loaded_of rows visits texts)
    → IfErr result (OrMemory (IsLoadError rows texts))
    → IsLoadedOf most_rows most_visits texts result
of_widest texts rows visits is_rows is_visits result loadable loaded refused =
    subst (λ n. IsLoadedOf most_rows n texts result) is_visits
    (subst (λ n. IsLoadedOf n visits texts result) is_rows
    (in_one rows visits texts result loadable loaded refused))

-- the failure to read the tables of a folder
pub unread_in : (known : Known) (folder : List ℕ) (failure : Failure)
    → AreTablesUnread known folder failure → IsFolderUnread known folder failure
unread_in known folder (Words fault) unread = absurd unread
unread_in known folder failure unread = unread

pub is_widest : (texts : TableTexts) (result : Result Loaded EngineFault)
    → IsLoadedOf most_rows most_visits texts result → IfOk result IsWidest
is_widest texts (Ok engine) is = (
  (texts, is.0, ap (λ (l : Loaded). l.database) is.1),
  ap (λ (l : Loaded). l.rows) is.1,
  ap (λ (l : Loaded). l.visits) is.1,
)
is_widest texts (Err fault) is = tt

-- ---- another lineorder next to the dimensions of a load

pub read_next : (loaded : Loaded) (reader : Reading) → IsWidest loaded
    → HasReadSome reader Lineorder → (texts : TableTexts) × (text : List (List ℕ))
    × IsReadNextTo loaded.database reader loaded.rows texts text
read_next loaded reader widest read = (
  widest.0.0,
  read.0,
  record {
    loadable = subst (λ n. IsLoadable n widest.0.0) (sym widest.1) widest.0.1;
    rows = widest.0.2;
    read = subst (λ n. HasReadText reader Lineorder n read.0) (sym widest.1) read.1;
  },
)

pub widest_next : (loaded : Loaded) (texts : TableTexts) → IsWidest loaded
    → (result : Result Loaded EngineFault) → IfOk result (λ engine. IsLoadable loaded.rows texts)
    → IfOk result (λ engine. engine ≡ loaded_of loaded.rows loaded.visits texts)
    → IfErr result (OrMemory (IsLoadError loaded.rows texts)) → IfOk result IsWidest
widest_next loaded texts widest result loadable same refused =
    is_widest texts result (of_widest texts loaded.rows loaded.visits widest.1 widest.2 result
    loadable same refused)
