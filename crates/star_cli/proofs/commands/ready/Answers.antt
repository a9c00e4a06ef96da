use Rattle.std.proofs.{lemmas.Result.err_from_is_err_and, Common.inl, Common.inr}
use Rattle.star_cli.proofs.commands.ready.Goals as goal

pub returns-clause-read : goal.returns-clause-read
returns-clause-read g c = rw c.as_slice.ensures.value at c.in_ok-files.ensures.read

pub returns-in_err-files-clause-refused : goal.returns-in_err-files-clause-refused
returns-in_err-files-clause-refused g c =
    let p = err_from_is_err_and c.from_residual.result c.from_residual.ensures.1 in
    rw (p.1, p.2) (inl (rw c.as_slice.ensures.value at c.in_err-files.ensures.refused))

pub returns-in_err-find_folder-clause-refused : goal.returns-in_err-find_folder-clause-refused
returns-in_err-find_folder-clause-refused g c =
    let p = err_from_is_err_and c.from_residual-in_err-find_folder.result
    c.from_residual-in_err-find_folder.ensures.1 in
    rw (p.1, p.2) (inr c.in_err-find_folder.ensures)
