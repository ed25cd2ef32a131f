-- `lines::Place::behind` meets its contract: the place is made of what was counted.
use mathlib.Core.Path.{sym, ◌∙◌}
use native.Mathlib.Omega.{arith}
use Rattle.lines.proofs.Moving.{place_is, line_behind, column_behind, line_fits, column_fits, start_range, column_from_start}
use Rattle.lines.proofs.Place.behind.Goals as goal

pub overflow_add-result : goal.overflow_add-result
overflow_add-result c =
    let b = c.args.block.now in
    let none = sym c.line_ends-ended.ensures ∙ c.if-ended-eq0.true in
    let fits = column_fits b.source.bytes.now b.from.0 b.to.0 b.range c.args.self c.requires b.source.short none in
    omega (arith, fits, c.characters-passed.ensures, c.from.ensures)

pub returns-then-ended-eq0 : goal.returns-then-ended-eq0
returns-then-ended-eq0 c =
    let b = c.args.block.now in
    let none = sym c.line_ends-ended.ensures ∙ c.if-ended-eq0.true in
    let line = line_behind b.source.bytes.now b.from.0 b.to.0 b.range c.args.self c.requires in
    let column = column_behind b.source.bytes.now b.from.0 b.to.0 b.range c.args.self c.requires none in
    place_is b.source.bytes.now b.to.0 _
    (omega (arith, none, line)) (omega (arith, column, c.characters-passed.ensures, c.from.ensures))

pub overflow_add-result-2 : goal.overflow_add-result-2
overflow_add-result-2 c =
    let b = c.args.block.now in
    let fits = line_fits b.source.bytes.now b.from.0 b.to.0 b.range c.args.self c.requires b.source.short in
    omega (arith, fits, c.line_ends-ended.ensures, c.from-2.ensures)

pub invariant_of-line : goal.invariant_of-line
invariant_of-line c =
    let b = c.args.block.now in
    record {
      range =
          start_range b.source.bytes.now b.from.0 b.to.0 b.range (λ z. c.if-ended-eq0.false (c.line_ends-ended.ensures ∙ z))
          c.line_byte-start.result.0 c.line_byte-start.ensures;
    }

pub returns : goal.returns
returns c =
    let b = c.args.block.now in
    let line = line_behind b.source.bytes.now b.from.0 b.to.0 b.range c.args.self c.requires in
    let column =
    column_from_start b.source.bytes.now b.from.0 b.to.0 b.range (λ z. c.if-ended-eq0.false (c.line_ends-ended.ensures ∙ z))
    c.line_byte-start.result.0 c.line_byte-start.ensures in
    place_is b.source.bytes.now b.to.0 _
    (omega (arith, line, c.line_ends-ended.ensures, c.from-2.ensures)) (c.col_num.ensures ∙ column)
