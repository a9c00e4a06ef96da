use Rattle.star_schema.specs.Database.{rows_in}
use Rattle.star_world.specs.WorldOf.{world_of}
use Rattle.star_compile_laws.specs.Compiled.{compiled}
use Rattle.star_merge_laws.specs.Plain.{plain_plan}
use Rattle.star_engine.proofs.{FittingTexts.text_fits, PlainQueries.fits_plain, PlainQueries.ran_plain, PlainQueries.sound_plain, PlainQueries.spelled_plain}
use Rattle.star_engine.proofs.partials.each_plain_query_has_laws.Goals as goal

pub returns : goal.returns
returns c = λ most query p meant.
    let database = c.args.catalogue.now in
    let w = world_of database in
    let free =
    c.compiled_programs_are_accepted_where_they_fit_the_tables.ensures.fits database most
    (plain_plan p) c.law.ensures.bounds (sound_plain query p meant) (spelled_plain query p meant) in
    let own = text_fits most database query p meant
    (c.plans_fit_where_their_queries_do.ensures most (rows_in database) meant.tree p
    meant.resolved) in
    let same = fits_plain most database p in
    let admitted =
    c.admissible_programs_within_the_limit_are_not_refused.ensures w most
    (compiled (plain_plan p)) in
    record {
      accepted = (
        λ fits. let both = admitted.0 (free.0 (same.0 (own.0 fits))) in
            record { admissible = both.0; cheap = both.1 },
        λ accepted. own.1 (same.1 (free.1 (admitted.1 (accepted.admissible, accepted.cheap)))),
      );
      ran = ran_plain database query p meant c.law.ensures.rows
          (c.sound_rows_have_a_world.ensures database c.law.ensures.sound);
    }
