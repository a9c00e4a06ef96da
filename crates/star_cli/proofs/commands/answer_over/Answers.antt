use Rattle.star_cli.proofs.commands.answer_over.Goals as goal

pub answer-requires : goal.answer-requires
answer-requires g c =
    let (texts, are) = rw c.in-Some.is at c.requires in
    (texts, are.0)

pub returns-in-Some : goal.returns-in-Some
returns-in-Some g c = λ texts are rows.
    let given = rw c.in-Some.is at are in
    rw (← c.as_slice.ensures.value) (c.answer.ensures texts given.0 (given.1 rows))

pub returns : goal.returns
returns g c = λ texts are rows.
    let given = rw c.in-None.is at are in
    rw (given.1, ← c.as_slice-in-None.ensures.value) (c.explain.ensures given.0 texts)
