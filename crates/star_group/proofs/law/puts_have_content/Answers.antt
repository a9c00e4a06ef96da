use Rattle.star_group.proofs.ContentMade.{made, made_content}
use Rattle.star_group.proofs.law.puts_have_content.Goals as goal

pub returns : goal.returns
returns c = λ d us. (made d us, made_content d us)
