-- `write::write_module` meets its contract.
use Rattle.std.proofs.Common.{sym, ◌∙◌}
use Rattle.writer.specs.Laws.Entries.{found-items}
use Rattle.writer.specs.Laws.Writing.{writes-list}
use Rattle.writer.proofs.write.write_module.Goals as goal

pub returns : goal.returns
returns c =
    let items = c.args.items.now in
    writes-list c.args.page c.args.offset items c.args.buffer.now (found-items items (sym c.in_ok-list_in.was ∙ c.list_in.ensures)) _ _ c.answer.ensures
