use Rattle.std.proofs.Common.{◌≡◌}
use Rattle.star_catalogue.specs.Pieces.{with_lineorder_text}
use Rattle.star_cli.{specs.Private.Reads.IsWidest, proofs.Loading.{read_next, widest_next}}
use Rattle.star_cli.proofs.partials.load_part.Goals as goal

pub with_lineorder-requires : goal.with_lineorder-requires
with_lineorder-requires g c =
    read_next _ _ (rw c.in-Some.is at c.requires) c.in_ok-lineorder-in-Some.ensures

pub returns-in_ok-lineorder-in-Some : goal.returns-in_ok-lineorder-in-Some
returns-in_ok-lineorder-in-Some g c =
    let widest : IsWidest c.in-Some.engine = rw c.in-Some.is at c.requires in
    let (texts, text, is) = read_next _ _ widest c.in_ok-lineorder-in-Some.ensures in
    widest_next _ (with_lineorder_text texts text) widest c.with_lineorder.result
    (c.with_lineorder.ensures.loadable texts text is)
    (c.with_lineorder.ensures.loaded texts text is) (c.with_lineorder.ensures.refused texts text is)
