-- `replies::bring` reads the image, and fills the RAM by its length and the seed.
use Rattle.std.proofs.Common.{arith, drop}
use Rattle.stream.proofs.Answering.{filled, behind}
use Rattle.stream.proofs.replies.bring.Goals as goal

pub returns : goal.returns
returns c =
    let size = c.u32_at-size in
    let seed = c.u32_at in
    let f = c.fill in
    record {
      tables-is = c.decode.ensures;
      size_is = size.ensures;
      ram-is = filled c.args.ram.now f.new.ram (drop size.result c.args.ram.now) size.result seed.result _ _ (omega (arith, c.requires.1, size.ensures)) f.ensures size.ensures seed.ensures;
      behind = behind c.args.ram.now f.new.ram (drop size.result c.args.ram.now) size.result seed.result (omega (arith, c.requires.1, size.ensures)) f.ensures;
    }
