use Rattle.std.proofs.{Common.◌≡◌, Common.◌<◌, Common.length, Common.get_or, Common.arith, Common.length-set, lemmas.List.take_all}
use Rattle.star_flat.proofs.{CodesKept.lead_more, CodesKept.number_within, Enumerated.nothing}
use Rattle.star_flat.proofs.coding.code_ordered.Goals as goal

pub loop-index-preserved : goal.loop-index-preserved
loop-index-preserved c =
    let texts = c.args.texts.now in
    let ordered = c.args.ordered.now in
    let index = c.loop-index.index in
    let within = c.loop-index-test.true in
    let inside = number_within texts ordered c.requires.ordered index within in
    let room : (get_or ordered index nothing).number < length c.loop-index.codes.items =
    omega (arith, inside, c.loop-index.invariant.len) in
    record {
      put = c.in_ok-codes-2.ensures.put;
      no_more = c.in_ok-codes-2.ensures.no_more;
      len = simp length-set c.loop-index.invariant.len;
      lead = lead_more texts ordered c.requires.ordered index within c.loop-index.put
          c.put_next.new.put c.loop-index.codes.items c.in_ok-codes-2.field-0 room
          c.in_ok-codes-2.ensures.kept c.in_ok-codes-2.ensures.code c.loop-index.invariant.lead;
    }

pub returns-clause-codes : goal.returns-clause-codes
returns-clause-codes c = grind (arith, take_all)
