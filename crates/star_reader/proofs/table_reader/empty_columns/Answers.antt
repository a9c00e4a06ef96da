use Rattle.std.{proofs.Common.{◌≡◌, ◌∙◌, ◌∷◌, [], Some, length, slice_get, sym, ap}, proofs.lemmas.List.map-append, proofs.lemmas.List.Elements.{All-append, All-cons, All-nil}, proofs.lemmas.Option.slice_get-map, specs.Option.option_map}
use Rattle.star_schema.specs.Schema.{columns_of, kind_of as kind_in_schema, kinds_of}
use Rattle.star_reader.{specs.Columns.{raw_kind, values}, specs.declared.column.RawColumn.RawColumn, proofs.ListSteps.take_one_more}
use Rattle.star_reader.proofs.table_reader.empty_columns.Goals as goal

pub loop-index-preserved : goal.loop-index-preserved
loop-index-preserved c =
    let there : slice_get (kinds_of c.args.table) c.loop-index.index
    ≡ Some (kind_in_schema c.column_at-column.result) =
    slice_get-map kind_in_schema (columns_of c.args.table) c.loop-index.index
    ∙ ap (option_map kind_in_schema) c.column_at-column.ensures.at in
    let kind = c.new.ensures.kind ∙ c.kind_of.ensures in
    let none : length (values c.new.result) ≡ 0 = ap length c.new.ensures.values in
    rw c.in_ok-push.ensures.items (
      map-append raw_kind c.loop-index.empty.items (c.new.result ∷ [])
          ∙ rw (c.loop-index.invariant.0, kind)
          (sym (take_one_more (kinds_of c.args.table) c.loop-index.index _ there)),
      All-append (λ (column : RawColumn). length (values column) ≡ 0) c.loop-index.empty.items
          (c.new.result ∷ []) c.loop-index.invariant.1
          (All-cons (λ (column : RawColumn). length (values column) ≡ 0) c.new.result [] none
          (All-nil (λ (column : RawColumn). length (values column) ≡ 0))),
    )
