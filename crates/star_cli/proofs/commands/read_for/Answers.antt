use Rattle.std.proofs.Common.{[], refl}
use Rattle.star_cli.proofs.Steps.{both_for, folder_for}
use Rattle.star_cli.proofs.commands.read_for.Goals as goal

pub returns-in-Check : goal.returns-in-Check
returns-in-Check g c =
    folder_for (g.R.Store.known c.args.rt.now) c.args.task c.in-Check.folder.now
    (rw c.in-Check.is refl)
    (rw c.in-Check.is (λ rows. tt)) c.read_folder.result
    (rw c.in-Check.is refl) c.read_folder.ensures

pub returns-in-Bench : goal.returns-in-Bench
returns-in-Bench g c =
    folder_for (g.R.Store.known c.args.rt.now) c.args.task c.in-Bench.folder.now
    (rw c.in-Bench.is refl)
    (rw c.in-Bench.is (λ rows. tt)) c.read_folder-in-Bench.result (rw c.in-Bench.is refl)
    c.read_folder-in-Bench.ensures

pub returns-in-Query : goal.returns-in-Query
returns-in-Query g c =
    both_for (g.R.Store.known c.args.rt.now) c.args.task c.in-Query.folder.now
    (rw c.in-Query.is refl)
    (rw c.in-Query.is (λ rows. tt)) c.in-Query.file.now c.read_both.result (rw c.in-Query.is refl)
    c.read_both.ensures

pub returns-in-Exec : goal.returns-in-Exec
returns-in-Exec g c =
    both_for (g.R.Store.known c.args.rt.now) c.args.task c.in-Exec.folder.now (rw c.in-Exec.is refl)
    (rw c.in-Exec.is (λ rows. tt)) c.in-Exec.file.now c.read_both-in-Exec.result
    (rw c.in-Exec.is refl) c.read_both-in-Exec.ensures

pub returns-in-Quote : goal.returns-in-Quote
returns-in-Quote g c =
    both_for (g.R.Store.known c.args.rt.now) c.args.task c.in-Quote.folder.now
    (rw c.in-Quote.is refl)
    (rw c.in-Quote.is (λ rows. tt)) c.in-Quote.file.now c.read_both-in-Quote.result
    (rw c.in-Quote.is refl) c.read_both-in-Quote.ensures

pub returns-in-Trial : goal.returns-in-Trial
returns-in-Trial g c =
    both_for (g.R.Store.known c.args.rt.now) c.args.task c.in-Trial.folder.now
    (rw c.in-Trial.is refl)
    (rw c.in-Trial.is (λ rows. rows)) c.in-Trial.file.now c.read_both-in-Trial.result
    (rw c.in-Trial.is refl) c.read_both-in-Trial.ensures

pub returns-in_ok-read_file-in-Explain : goal.returns-in_ok-read_file-in-Explain
returns-in_ok-read_file-in-Explain g c = (
  (λ table. []),
  rw c.in-Explain.is tt,
  rw c.in-Explain.is c.in_ok-read_file-in-Explain.ensures.read,
  (c.in-Explain.file, c.in-Explain.is),
)
