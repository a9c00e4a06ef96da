use Rattle.std.proofs.{Common.rules, lemmas.List.take-map}
use Rattle.star_flat.proofs.words.SignedWords.truncate.Goals as goal

pub returns-in-Bits8 : goal.returns-in-Bits8
returns-in-Bits8 c = search (take-map, rules)

pub returns-in-Bits16 : goal.returns-in-Bits16
returns-in-Bits16 c = search (take-map, rules)

pub returns-in-Bits32 : goal.returns-in-Bits32
returns-in-Bits32 c = search (take-map, rules)
