use Rattle.star_schema.proofs.Typed.{rows_typed}
use Rattle.star_catalogue.proofs.SmallNumbers.{bounds_small}
use Rattle.star_engine.proofs.law.loadable_texts_hold_loaded_rows.Goals as goal

pub returns : goal.returns
returns c = λ most texts loadable. record {
  sound = loadable.sound;
  rows = rows_typed most texts loadable.tables;
  bounds = bounds_small most texts loadable.tables;
}
