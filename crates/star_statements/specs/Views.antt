-- Requests as contracts see them: with the bytes of their queries.
use Rattle.std.specs.{Prelude.ℕ, Prelude.List, Borrow.Bor}
use Rattle.star_statements.specs.declared.questions.Question.{TheVariants.{Nothing, TooLong, Query, Explain, Quote}, Question}

abbrev pub question_view : Question (Bor (List ℕ)) → Question (List ℕ)
question_view Nothing = Nothing
question_view TooLong = TooLong
question_view (Query query) = Query query.now
question_view (Explain query) = Explain query.now
question_view (Quote query) = Quote query.now
