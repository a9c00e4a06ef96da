use Rattle.std.proofs.{Common.◌≡◌, Common.◌∙◌, Common.rules, lemmas.List.map-id, lemmas.Result.IfOk-weaker}
use Rattle.star_flat.specs.Words.{less}
use Rattle.star_column.proofs.Repeats.{words_read, words_within}
use Rattle.star_column.proofs.coding.codes_at.Goals as goal

pub read_at-requires-clause-indexes : goal.read_at-requires-clause-indexes
read_at-requires-clause-indexes g c =
    words_within (less 0x80) c.as_slice.result.now c.args.rows.now c.args.codes.now
    (search rules) c.requires.indexes

pub returns-in-Bits8 : goal.returns-in-Bits8
returns-in-Bits8 g c =
    IfOk-weaker c.read_at.result _ _
    (λ found is. words_read (less 0x80) c.as_slice.result.now c.args.rows.now
    c.args.codes.now (search rules) _ is) c.read_at.ensures

pub read_at-requires-in-Bits16-clause-indexes : goal.read_at-requires-in-Bits16-clause-indexes
read_at-requires-in-Bits16-clause-indexes g c =
    words_within (less 0x8000) c.as_slice-in-Bits16.result.now c.args.rows.now c.args.codes.now
    (search rules) c.requires.indexes

pub returns-in-Bits16 : goal.returns-in-Bits16
returns-in-Bits16 g c =
    IfOk-weaker c.read_at-in-Bits16.result _ _
    (λ found is. words_read (less 0x8000) c.as_slice-in-Bits16.result.now c.args.rows.now
    c.args.codes.now (search rules) _ is) c.read_at-in-Bits16.ensures

pub read_at-requires-in-Bits32-clause-indexes : goal.read_at-requires-in-Bits32-clause-indexes
read_at-requires-in-Bits32-clause-indexes g c =
    words_within (less 0x80000000) c.as_slice-in-Bits32.result.now c.args.rows.now c.args.codes.now
    (search rules) c.requires.indexes

pub returns-in-Bits32 : goal.returns-in-Bits32
returns-in-Bits32 g c =
    IfOk-weaker c.read_at-in-Bits32.result _ _
    (λ found is. words_read (less 0x80000000) c.as_slice-in-Bits32.result.now c.args.rows.now
    c.args.codes.now (search rules) _ is) c.read_at-in-Bits32.ensures

pub read_at-requires-in-Bits64-clause-indexes : goal.read_at-requires-in-Bits64-clause-indexes
read_at-requires-in-Bits64-clause-indexes g c =
    let same : c.as_slice-in-Bits64.result.now ≡ c.args.rows.now = search rules in
    words_within (λ z. z) c.as_slice-in-Bits64.result.now c.args.rows.now c.args.codes.now
    (map-id _ ∙ same) c.requires.indexes

pub returns-in-Bits64 : goal.returns-in-Bits64
returns-in-Bits64 g c =
    let same : c.as_slice-in-Bits64.result.now ≡ c.args.rows.now = search rules in
    IfOk-weaker c.read_at-in-Bits64.result _ _
    (λ found is. words_read (λ z. z) c.as_slice-in-Bits64.result.now c.args.rows.now
    c.args.codes.now (map-id _ ∙ same) _ is) c.read_at-in-Bits64.ensures
