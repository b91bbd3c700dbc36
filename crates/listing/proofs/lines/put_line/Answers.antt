-- `listing::put_line` meets its contract.
use Rattle.std.proofs.Common.{sym, ◌∙◌, ap, ℕ, take, arith, length-take-le}
use Rattle.std.proofs.lemmas.List.{take_min}
use Rattle.text.specs.Laws.Text.{hex-length, put-within}
use Rattle.text.proofs.Numerals.{few_fields}
use Rattle.listing.proofs.LineLaws.{line_plain, line-hex}
use Rattle.listing.proofs.lines.put_line.Goals as goal

pub put-requires : goal.put-requires
put-requires c =
    let p = c.fields.ensures.puts in
    omega (arith, c.requires, p.put.stop, p.long, few_fields c.args.kind c.args.answer c.args.a c.args.b c.ranges.kind.fits c.ranges.answer.fits c.ranges.a.fits c.ranges.b.fits)

pub returns-then-not-shows : goal.returns-then-not-shows
returns-then-not-shows c =
    let line = line_plain c.args.kind c.args.answer c.args.a c.args.b c.args.out.now (sym c.shows.ensures ∙ c.if-not-shows.true) c.fields.ensures.puts c.put.ensures in
    (line, put-within (omega arith) line.put)

pub put-requires-2 : goal.put-requires-2
put-requires-2 c =
    let p = c.fields.ensures.puts in
    omega (arith, c.requires, p.put.stop, p.long, few_fields c.args.kind c.args.answer c.args.a c.args.b c.ranges.kind.fits c.ranges.answer.fits c.ranges.a.fits c.ranges.b.fits)

pub hex-requires : goal.hex-requires
hex-requires c =
    let p = c.fields.ensures.puts in
    let q = c.put-2.ensures in
    let few = few_fields c.args.kind c.args.answer c.args.a c.args.b c.ranges.kind.fits c.ranges.answer.fits c.ranges.a.fits c.ranges.b.fits in
    omega (arith, c.requires, p.put.stop, p.long, few, q.put.stop, q.long, length-take-le c.min-k.result c.args.out.now (omega arith))

pub put-requires-3 : goal.put-requires-3
put-requires-3 c =
    let p = c.fields.ensures.puts in
    let q = c.put-2.ensures in
    let h = c.hex.ensures in
    let few = few_fields c.args.kind c.args.answer c.args.a c.args.b c.ranges.kind.fits c.ranges.answer.fits c.ranges.a.fits c.ranges.b.fits in
    omega (arith, c.requires, p.put.stop, p.long, few, q.put.stop, q.long, h.put.stop, h.long, hex-length (take c.min-k.result c.args.out.now), length-take-le c.min-k.result c.args.out.now (omega arith))

pub returns : goal.returns
returns c =
    let o = c.args.out.now in
    let first = ap (λ (k : ℕ). take k o) c.min-k.ensures ∙ take_min c.from.result o ∙ ap (λ (k : ℕ). take k o) c.from.ensures in
    let line = line-hex c.args.kind c.args.answer c.args.a c.args.b c.min-k.result o (sym c.shows.ensures ∙ c.if-not-shows.false) first c.fields.ensures.puts c.put-2.ensures c.hex.ensures c.put-3.ensures in
    (line, put-within (omega arith) line.put)
