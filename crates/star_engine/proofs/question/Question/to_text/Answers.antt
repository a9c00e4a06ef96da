use Rattle.std.proofs.Common.{◌∙◌, ap, subst, sym}
use Rattle.star_program.specs.{Text.Spellable.IsSpellable, Text.Spelling.Spells, Text.Written.program_text}
use Rattle.star_engine.proofs.question.Question.to_text.Goals as goal

pub returns : goal.returns
returns c = λ query asks.
    let text = c.in_ok-to_text in
    let spellable = c.programs_of_queries_report_them.ensures.spelled query asks.p asks.meant in
    record {
      p = asks.p;
      meant = asks.meant;
      written = text.ensures.written ∙ ap program_text asks.made;
      spelled =
          subst (Spells text.field-0.items) asks.made
          (text.ensures.spells (subst IsSpellable (sym asks.made) spellable));
    }
