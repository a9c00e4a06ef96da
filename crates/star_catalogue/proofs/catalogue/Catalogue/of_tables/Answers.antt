use Rattle.std.proofs.Common.{◌∙◌, ℕ, inr}
use Rattle.star_schema.{specs.Loadable.{IsSound, database_of}, specs.Database.TableTexts, proofs.Typed.rows_typed}
use Rattle.star_catalogue.{specs.Private.FiveTables.AreRowsOfTables, specs.Private.Referred.AreReferred, proofs.Loading.{referred_sound, refused_key}, proofs.SmallNumbers.bounds_small}
use Rattle.star_catalogue.proofs.catalogue.Catalogue.of_tables.Goals as goal

pub absent_key-requires : goal.absent_key-requires
absent_key-requires c =
    rw (c.in-None.is, c.deref.ensures, ← c.deref-in-None.ensures) at c.in_ok-referred.ensures

pub returns-in-None-clause-refused : goal.returns-in-None-clause-refused
returns-in-None-clause-refused c = λ most texts are.
    let same = c.deref-in-None.ensures ∙ c.in_ok-tables.ensures.ok ∙ are.1 in
    inr (refused_key most texts _ are.0 are.2 (rw same at c.absent_key.ensures))

-- the rows that were found
referred : (c : goal.In_ok-new-in-Some) (most : ℕ) (texts : TableTexts)
    → AreRowsOfTables most texts c.args.loaded → AreReferred (database_of texts) c.in-Some.referred
referred c most texts are =
    rw (
      c.in-Some.is,
      c.deref.ensures ∙ c.in_ok-tables.ensures.ok ∙ are.1,
    ) at c.in_ok-referred.ensures

sound : (c : goal.In_ok-new-in-Some) (most : ℕ) (texts : TableTexts)
    → AreRowsOfTables most texts c.args.loaded → IsSound (database_of texts)
sound c most texts are =
    referred_sound texts c.in-Some.referred are.2 (referred c most texts are)

pub invariant_of-result : goal.invariant_of-result
invariant_of-result c =
    let (most, texts, are) = c.requires in
    rw (c.in_ok-tables.ensures.ok ∙ are.1, c.in_ok-new-in-Some.ensures.ok) (
      sound c most texts are,
      rows_typed most texts are.0,
      bounds_small most texts are.0,
      referred c most texts are,
    )

pub returns-in_ok-new-in-Some-clause-loadable : goal.returns-in_ok-new-in-Some-clause-loadable
returns-in_ok-new-in-Some-clause-loadable c = λ most texts are.
    record { tables = are.0; sound = sound c most texts are }

pub returns-in_ok-new-in-Some-clause-rows : goal.returns-in_ok-new-in-Some-clause-rows
returns-in_ok-new-in-Some-clause-rows c = λ most texts are. c.in_ok-tables.ensures.ok ∙ are.1
