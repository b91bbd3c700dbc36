-- What `exos_module::answer` hands on stands in the buffer, and is the module.
use Rattle.std.proofs.Common.{Ok, rules, sym, ap, length-take-le}
use Rattle.writer.specs.Definition.Writing.{written_of}
use Rattle.exos_module.specs.Laws.Handed.{handed}
use Rattle.exos_module.proofs.answer.Goals as goal

pub returns-in_err-size : goal.returns-in_err-size
returns-in_err-size c = (Ok tt, search rules)

pub slice_bounds-hand-end : goal.slice_bounds-hand-end
slice_bounds-hand-end c =
    let w = c.write_from in
    (handed c.args.input.now c.args.buffer.now w.result w.new.buffer c.requires w.ensures _ (sym (ap written_of c.in_ok-size.was))).1

pub slice_bounds-hand-end-2 : goal.slice_bounds-hand-end-2
slice_bounds-hand-end-2 c =
    let w = c.write_from in
    sym (length-take-le _ w.new.buffer (handed c.args.input.now c.args.buffer.now w.result w.new.buffer c.requires w.ensures _ (sym (ap written_of c.in_ok-size.was))).1)

pub hand-requires : goal.hand-requires
hand-requires c =
    let w = c.write_from in
    (handed c.args.input.now c.args.buffer.now w.result w.new.buffer c.requires w.ensures _ (sym (ap written_of c.in_ok-size.was))).0
