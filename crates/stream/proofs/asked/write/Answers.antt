-- `asked::write`: what the writer has written is no longer than the output, whose length has two bytes.
use Rattle.std.proofs.Common.{sym, length, arith}
use Rattle.writer.specs.Laws.Writing.{done-within}
use Rattle.stream.proofs.asked.write.Goals as goal

pub overflow_cast-result : goal.overflow_cast-result
overflow_cast-result c =
    omega (arith, done-within c.args.«record».now (length c.args.out.now) c.in-Ok.n (sym c.in-Ok.ensures.reply-is))
