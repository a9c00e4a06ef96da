use Rattle.std.proofs.Common.{◌≡◌, ap, length, length-take, take, arith}
use Rattle.star_library_tests.proofs.Texts.{no_more, read_on}
use Rattle.star_library_tests.proofs.streams.ChoppyRead.read.Goals as goal

pub returns-clause-bytes : goal.returns-clause-bytes
returns-clause-bytes c =
    let same : c.copy_from_slice.new.self ≡ take c.min-count.result c.args.self.now.left.now = cc in
    let long : length c.copy_from_slice.new.self ≡ c.min-count.result =
    omega (arith, ap length same, length-take c.min-count.result c.args.self.now.left.now) in (
      read_on c.args.self.now.left.now c.copy_from_slice.new.self c.args.room.now
          c.min-count.result same long,
      λ none some. no_more c.args.self.now.left.now c.min-count.result (omega (arith, some)),
    )
