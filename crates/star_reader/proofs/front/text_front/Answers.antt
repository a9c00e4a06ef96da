use Rattle.std.{proofs.Common.{◌≡◌, ◌<◌, ◌≤◌, ◌∙◌, ap, arith, inl, inr, length, not, sym}, proofs.lemmas.List.Sums.prefix_len-le-length, proofs.lemmas.List.take_all, specs.List.prefix_len}
use Rattle.star_reader.{specs.Private.Fronts.is_stop, proofs.FrontTexts.{near_bytes, short_front}, proofs.front.text_front.Goals.{then-count-text-via-then-count-text, then-count-text-via-else-count-text+then-text-count-eq124-2}}
use Rattle.star_reader.proofs.front.text_front.Goals as goal

pub returns-then-text-count-eq124 : goal.returns-then-text-count-eq124
returns-then-text-count-eq124 c =
    let text = c.args.text.now in
    let count = c.near_front-count.result in
    let room : 16 ≤ length text = omega (arith, c.if-text-ge-NEAR.true) in
    let (plain, printable) = near_bytes text count c.near_front-count.ensures in
    let within : count < length text = omega (arith, room, c.if-count-lt-NEAR.true) in (
      record {
        within = omega (arith, within);
        plain = plain;
        end = inr (within, c.if-text-count-eq124.true);
      },
      short_front text count (omega (arith, within)) (omega (arith, c.if-count-lt-NEAR.true)),
      printable,
    )

pub returns-then-count-text : goal.returns-then-count-text
returns-then-count-text c =
    let text = c.args.text.now in
    let count = c.near_end-count.result in
    let few : length text < 16 = omega (arith, c.if-text-ge-NEAR.false) in
    let all = take_all 16 text (omega (arith, few)) in
    let (plain, printable) = near_bytes text count
    (c.near_end-count.ensures ∙ ap (prefix_len (λ b. not (is_stop b))) (sym all)) in
    let within : count ≤ length text =
    omega (arith, c.near_end-count.ensures, prefix_len-le-length (λ b. not (is_stop b)) text) in (
      record {
        within = within;
        plain = plain;
        end = elim c.then-count-text.branch [
          | then-count-text-via-then-count-text w ↦
              inl (omega (arith, within, w.if-count-text.true))
          | then-count-text-via-else-count-text+then-text-count-eq124-2 w ↦
              inr (omega (arith, w.if-count-text.false), w.if-text-count-eq124-2.true)
        ];
      },
      short_front text count within (omega (arith, few, within)),
      printable,
    )
