use Rattle.star_cli.proofs.KnownFiles.{once}
use Rattle.star_cli.proofs.law.known_folders_have_one_database.Goals as goal

pub returns : goal.returns
returns c = λ known folder one other all first second. once known folder all one other first second
