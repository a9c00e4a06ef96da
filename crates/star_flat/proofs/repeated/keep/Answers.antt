use Rattle.std.{proofs.Common.{◌++◌, ◌∷◌, [], take, ap, sym, ◌∙◌}, proofs.lemmas.List.{length-map, take-map}, proofs.Math.Seq.take-append_seam, specs.Int.RustNames.unsigned_abs}
use Rattle.star_flat.specs.Repeated.{indexes_in}
use Rattle.star_flat.proofs.repeated.keep.Goals as goal

pub returns-in-Err-clause-err : goal.returns-in-Err-clause-err
returns-in-Err-clause-err c =
    let rows = c.args.rows.now in
    let count = c.len-count.ensures ∙ sym (length-map rows unsigned_abs) in (
      c.in-Err.ensures.err,
      ap indexes_in c.truncate.ensures
          ∙ sym (take-map unsigned_abs c.len-count.result c.push_index.new.rows)
          ∙ ap (take c.len-count.result) c.in_ok-push_index.ensures.ok
          ∙ ap (λ n. take n (indexes_in rows ++ c.len.result ∷ [])) count
          ∙ take-append_seam (indexes_in rows) (c.len.result ∷ []),
    )
