use Rattle.std.proofs.Common.{◌≡◌, ◌<◌, ◌+◌, ◌-◌, ◌*◌, get_or, arith, ◌∙◌}
use Rattle.names.specs.Laws.Numbers.{value-over, value-ends}
use Rattle.names.proofs.value_of.Goals as goal

pub returns-in_err-checked_mul : goal.returns-in_err-checked_mul
returns-in_err-checked_mul c =
    let l = c.loop-digit in
    let over : l.n * 10 < 256 → ⊥ = c.in_err-checked_mul.ensures in
    c.from_residual.ensures ∙ value-over c.args.digits.now l.digit-index l.n _ (omega arith) l.invariant.0 (omega arith)

pub returns-in_err-n : goal.returns-in_err-n
returns-in_err-n c =
    let l = c.loop-digit in
    let tens : (l.n * 10 < 256) × (c.in_ok-checked_mul.field-0 ≡ l.n * 10) = c.in_ok-checked_mul.ensures in
    let over : c.in_ok-checked_mul.field-0 + (get_or c.args.digits.now l.digit-index 0 - 48) < 256 → ⊥ = c.in_err-n.ensures in
    c.from_residual-in_err-n.ensures ∙ value-over c.args.digits.now l.digit-index l.n _ (omega arith) l.invariant.0 (omega arith)

pub returns : goal.returns
returns c =
    let l = c.loop-digit in
    value-ends c.args.digits.now l.digit-index l.n _ (omega arith) (omega arith) l.invariant.0
