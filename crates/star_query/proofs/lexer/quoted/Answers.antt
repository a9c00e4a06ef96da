use Rattle.std.proofs.Common.{rules}
use Rattle.star_query.proofs.lexer.quoted.Goals as goal

pub returns-in-Open : goal.returns-in-Open
returns-in-Open c = search rules
