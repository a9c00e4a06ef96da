use Rattle.star_cli.proofs.answers.answer.Goals as goal

pub returns : goal.returns
returns g c = λ texts are of_tables. record {
  result = c.give-given.result;
  noted = c.give-given.new.notes;
  given = c.give-given.ensures texts are of_tables;
  ended = c.end.ensures;
}
