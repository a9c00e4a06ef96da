use Rattle.std.proofs.{Common.refl, lemmas.Result.err_from_is_err_and}
use Rattle.star_cli.proofs.answers.asked_of.Goals as goal

pub returns-in-Explain : goal.returns-in-Explain
returns-in-Explain c = λ of_tables. absurd (rw c.in-Explain.is at of_tables)

pub returns-in-Sample : goal.returns-in-Sample
returns-in-Sample c = λ of_tables. rw c.in-Sample.is tt

pub returns-in-Check : goal.returns-in-Check
returns-in-Check c = λ of_tables. rw c.in-Check.is tt

pub returns-in-Bench : goal.returns-in-Bench
returns-in-Bench c = λ of_tables. rw c.in-Bench.is tt

pub returns-in_ok-query-in-Query : goal.returns-in_ok-query-in-Query
returns-in_ok-query-in-Query c = λ of_tables. rw c.in-Query.is c.in_ok-query-in-Query.ensures

pub returns-in_ok-program-in-Exec : goal.returns-in_ok-program-in-Exec
returns-in_ok-program-in-Exec c = λ of_tables. rw c.in-Exec.is c.in_ok-program-in-Exec.ensures

pub returns-in_ok-of_file-in-Quote : goal.returns-in_ok-of_file-in-Quote
returns-in_ok-of_file-in-Quote c = λ of_tables. rw c.in-Quote.is c.in_ok-of_file-in-Quote.ensures

pub returns-in_ok-program-in-Trial : goal.returns-in_ok-program-in-Trial
returns-in_ok-program-in-Trial c = λ of_tables.
    rw c.in-Trial.is (c.in_ok-program-in-Trial.ensures, refl)

pub returns-in_err-query-in-Query : goal.returns-in_err-query-in-Query
returns-in_err-query-in-Query c = λ of_tables.
    let p = err_from_is_err_and c.from_residual.result c.from_residual.ensures.1 in
    rw (c.in-Query.is, p.1, p.2) c.in_err-query-in-Query.ensures

pub returns-in_err-program-in-Exec : goal.returns-in_err-program-in-Exec
returns-in_err-program-in-Exec c = λ of_tables.
    let p = err_from_is_err_and c.from_residual-in_err-program-in-Exec.result
    c.from_residual-in_err-program-in-Exec.ensures.1 in
    rw (c.in-Exec.is, p.1, p.2) c.in_err-program-in-Exec.ensures

pub returns-in_err-of_file-in-Quote : goal.returns-in_err-of_file-in-Quote
returns-in_err-of_file-in-Quote c = λ of_tables.
    let p = err_from_is_err_and c.from_residual-in_err-of_file-in-Quote.result
    c.from_residual-in_err-of_file-in-Quote.ensures.1 in
    rw (c.in-Quote.is, p.1, p.2) c.in_err-of_file-in-Quote.ensures

pub returns-in_err-program-in-Trial : goal.returns-in_err-program-in-Trial
returns-in_err-program-in-Trial c = λ of_tables.
    let p = err_from_is_err_and c.from_residual-in_err-program-in-Trial.result
    c.from_residual-in_err-program-in-Trial.ensures.1 in
    rw (c.in-Trial.is, p.1, p.2) c.in_err-program-in-Trial.ensures
