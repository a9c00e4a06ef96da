use Rattle.star_engine.specs.Loads.{AreLoadedRows}
use Rattle.star_engine.proofs.query_laws.each_query_has_laws.Goals as goal

pub returns : goal.returns
returns c = λ most query p meant.
    let database = c.args.catalogue.now in
    let loaded : AreLoadedRows database = record {
      sound = c.law.ensures.sound;
      rows = c.law.ensures.rows;
      bounds = c.law.ensures.bounds;
    } in
    let fit = c.queries_that_fit_are_answered.ensures in
    let report = c.programs_of_queries_report_them.ensures in record {
      accepted = fit.accepted most database query p loaded meant;
      costly = fit.costly most database p;
      wide = fit.wide most database query p meant;
      quoted = report.quoted database p;
      printed = λ s. report.printed database query p s loaded meant;
      first = fit.first most database query p meant;
      counted = λ s ended meant. report.counted database query p s loaded meant ended;
    }
