-- `Line::link_line` counts what `move_down` moves, or nothing.
use Rattle.std.proofs.Common.{◌≡◌, sym, ap, ◌∙◌, arith, length}
use Rattle.line.specs.Definition.Moves.{link_moves}
use Rattle.line.specs.Laws.Moves.{moves-falling, link-most}
use Rattle.line.proofs.Line.link_line.Goals as goal

pub returns-clause-moved : goal.returns-clause-moved
returns-clause-moved c =
    let a = c.args in
    let counted : c.move_down-moved.result ≡ length (link_moves a.self.now.chain a.self.now.room a.m a.total) =
    c.move_down-moved.ensures.moved ∙ sym (ap length (moves-falling a.self.now.chain a.self.now.room a.m a.total (omega arith))) in
    (counted, omega (arith, counted, link-most a.self.now.chain a.self.now.room a.m a.total))
