use Rattle.std.proofs.{Common.{◌++◌, ◌∷◌, ◌∙◌, [], ap, arith, FitsSigned, map, rules, sym, w64, to_z-of_z}, lemmas.List.{length-map, map-append}, lemmas.Option.slice_get_within}
use Rattle.star_schema.specs.{Loadable.key_numbers, Loadable.keys_of, Schema.key_of}
use Rattle.star_catalogue.proofs.ReferredRows.{absent_one, found_more}
use Rattle.star_catalogue.proofs.referred.find_all.Goals as goal

pub of-requires : goal.of-requires
unfolding keys_of
of-requires g c =
    let table = c.args.table.now in
    let fits : FitsSigned w64 c.at.result = search rules in
    let key = (c.requires.keys c.at.result c.in-Some.found).0
    (sym (rw (to_z-of_z fits) at c.in-Some.ensures)) in
    omega (
      arith,
      slice_get_within (keys_of table.table table.rows) c.in-Some.found (c.at.result ∷ []) key,
      length-map table.rows (key_numbers (key_of table.table)),
      c.requires.few,
    )

pub returns-in-None : goal.returns-in-None
returns-in-None g c =
    let fits : FitsSigned w64 c.at.result = search rules in
    absent_one (keys_of c.args.table.now.table c.args.table.now.rows) c.args.numbers.now
    c.loop-row.row c.at.result (rw c.view-lent.ensures at c.at.ensures)
    (λ row at. let bad = rw (to_z-of_z fits) at c.in-None.ensures
    ∙ (c.requires.keys c.at.result row).1 at in cc bad)

pub loop-row-preserved : goal.loop-row-preserved
loop-row-preserved g c =
    let fits : FitsSigned w64 c.at.result = search rules in
    let key = (c.requires.keys c.at.result c.in-Some.found).0
    (sym (rw (to_z-of_z fits) at c.in-Some.ensures)) in
    let number = g.W.RowWord.number in
    let pushed =
    ap (map number) c.push_reserved.ensures.items
    ∙ map-append number c.loop-row.rows.items (c.of.result ∷ [])
    ∙ ap (λ row. map number c.loop-row.rows.items ++ row ∷ []) c.of.ensures in
    record {
      found = found_more (keys_of c.args.table.now.table c.args.table.now.rows) c.args.numbers.now
          (map number c.loop-row.rows.items) (map number c.push_reserved.new.self.items)
          c.loop-row.row c.at.result c.in-Some.found c.loop-row.invariant.found pushed
          (rw c.view-lent.ensures at c.at.ensures) key;
      pushed = search rules;
      room = search rules;
    }
