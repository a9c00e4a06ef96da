use Rattle.star_report.proofs.TableTexts.{table_texts_are_fields}
use Rattle.star_report.proofs.law.texts_of_tables_are_fields.Goals as goal

pub returns : goal.returns
returns c = table_texts_are_fields
