use Rattle.std.{proofs.Common.{◌≡◌, subst, sym, ap}, proofs.lemmas.Result.err_from_is_err_and, specs.Prelude.IfErr}
use Rattle.star_schema.specs.{Database.Database, Loadable.IsLoadable}
use Rattle.star_catalogue.specs.Pieces.{IsReadNextTo, with_lineorder_text}
use Rattle.star_engine.specs.{Answered.OrMemory, Loads.IsLoadError, Loads.Loaded, Loads.loaded_of}
use Rattle.star_engine.proofs.engine.Engine.with_lineorder.Goals as goal

pub load_next-requires : goal.load_next-requires
load_next-requires c =
    let (texts, text, is) = c.requires in (
      c.self.inside.limits.rows,
      texts,
      text,
      subst (λ (l : Loaded). IsReadNextTo l.database c.args.reader.value l.rows texts text)
          (sym c.self.view_is) is,
    )

pub returns-in_err-loaded-clause-refused : goal.returns-in_err-loaded-clause-refused
returns-in_err-loaded-clause-refused c = λ texts text.
    let p = err_from_is_err_and c.from_residual.result c.from_residual.ensures.1 in
    subst (λ (l : Loaded). IsReadNextTo l.database c.args.reader.value l.rows texts text
    → IfErr c.from_residual.result (OrMemory (IsLoadError l.rows (with_lineorder_text texts text))))
    c.self.view_is (λ is. rw (p.1, p.2) (c.in_err-loaded.ensures _ texts text is))

pub invariant_of-result : goal.invariant_of-result
invariant_of-result c =
    let (texts, text, is) = c.requires in
    let own = subst (λ (l : Loaded). IsReadNextTo l.database c.args.reader.value l.rows texts text)
    (sym c.self.view_is) is in
    let loaded = c.in_ok-loaded.ensures _ texts text own in
    ∣ (with_lineorder_text texts text, loaded.0, loaded.1) ∣₁

pub returns-clause-loadable : goal.returns-clause-loadable
returns-clause-loadable c = λ texts text.
    subst (λ (l : Loaded). IsReadNextTo l.database c.args.reader.value l.rows texts text
    → IsLoadable l.rows (with_lineorder_text texts text)) c.self.view_is
    (λ is. (c.in_ok-loaded.ensures _ texts text is).0)

pub returns-clause-loaded : goal.returns-clause-loaded
returns-clause-loaded c = λ texts text.
    let loaded_as : Database → Loaded =
    λ d. record {
      database = d;
      rows = c.self.inside.limits.rows;
      visits =
          c.self.inside.limits.visits;
    } in
    subst (λ (l : Loaded). IsReadNextTo l.database c.args.reader.value l.rows texts text
    → loaded_as c.in_ok-loaded.loaded ≡ loaded_of l.rows l.visits (with_lineorder_text texts text))
    c.self.view_is (λ is. ap loaded_as (c.in_ok-loaded.ensures _ texts text is).1)
