use Rattle.std.proofs.{Common.◌≡◌, Common.◌<◌, Common.◌∙◌, Common.◌-◌, Common.arith, Common.rules, lemmas.Bool.cases_Bool, lemmas.List.length-drop}
use Rattle.star_common.proofs.Sends.{rest_of, sends_more}
use Rattle.star_common.proofs.delivery.write_whole.Goals as goal

pub loop-sent-preserved : goal.loop-sent-preserved
loop-sent-preserved g c = grind (arith, rest_of, length-drop, cases_Bool, sends_more)

pub returns-clause-empty : goal.returns-clause-empty
returns-clause-empty g c = grind arith

pub returns-in-Err-clause-prefix : goal.returns-in-Err-clause-prefix
returns-in-Err-clause-prefix c = search rules

pub returns-in-Ok-eq0-clause-ok : goal.returns-in-Ok-eq0-clause-ok
returns-in-Ok-eq0-clause-ok c = search rules
