use Rattle.std.{proofs.Common.{◌≡◌, ◌++◌, None, sym, ◌∙◌, ap, length, arith, refl}, proofs.lemmas.List.with_items_is, specs.Vec.with_items}
use Rattle.star_reader.{specs.Private.Sound.reading_of, proofs.ReaderSteps.{none_of, sound_step, step_faulty, step_fine, still_faulty}, proofs.PieceSteps.fault_on, proofs.table_reader.TableReader.feed.Goals.After-read}
use Rattle.star_reader.proofs.table_reader.TableReader.feed.Goals as goal

no_fault : (c : After-read) → c.self.inside.fault ≡ None
no_fault c = none_of c.self.inside.fault (sym c.is_some.ensures ∙ c.if-is_some.false)

columns_are : (c : After-read)
    → (with_items c.self.inside.columns c.read.new.columns).items ≡ c.read.new.columns
columns_are c =
    with_items_is c.self.inside.columns c.read.new.columns
    (omega (
      arith,
      c.self.inside.columns.ok.0,
      c.read.auto.columns,
      ap length c.as_mut_slice-columns.ensures.value,
    ))

pub invariant_of-self : goal.invariant_of-self
invariant_of-self c =
    let at = (goal.at.invariant_of-self c).After-read in
    sound_step c.self.inside _ c.read.new.columns (no_fault at) refl refl refl (columns_are at)
    (λ parts text h. (
      parts,
      text ++ c.args.piece.now,
      c.in-Ok.ensures c.self.inside.table parts text (rw c.as_mut_slice-columns.ensures.value h),
    ))
    c.self.invariant

pub returns-then-is_some : goal.returns-then-is_some
returns-then-is_some c = λ table most parts text h.
    still_faulty c.args.self.now table most parts (parts) text (text ++ c.args.piece.now)
    (rw (← c.self.view_is) (sym c.is_some.ensures ∙ c.if-is_some.true))
    (λ f fault. fault_on _ _ parts text c.args.piece.now f fault) h

pub returns-in-Ok : goal.returns-in-Ok
returns-in-Ok c = λ table most parts text h.
    let at = (goal.at.returns-in-Ok c).After-read in
    let before = rw (← c.self.view_is) at h in
    step_fine (reading_of c.self.inside) _ table most parts (parts) text (text ++ c.args.piece.now)
    c.read.new.columns
    (no_fault at) refl refl refl (columns_are at)
    (λ was. c.in-Ok.ensures c.self.inside.table parts text
    (rw c.as_mut_slice-columns.ensures.value was)) before

pub returns-in-Err : goal.returns-in-Err
returns-in-Err c = λ table most parts text h.
    let at = (goal.at.returns-in-Err c).After-read in
    let before = rw (← c.self.view_is) at h in
    step_faulty (reading_of c.self.inside) _ table most parts (parts) text
    (text ++ c.args.piece.now) c.in-Err.fault
    (no_fault at) refl refl refl
    (λ was. c.in-Err.ensures c.self.inside.table parts text
    (rw c.as_mut_slice-columns.ensures.value was)) before
