use Rattle.std.proofs.Common.{rules, ◌++◌, ap, sym, ◌∙◌, lit<, refl}
use Rattle.std.proofs.lemmas.Str.Pattern.{split_parts}
use Rattle.std.proofs.lemmas.Grind.{put_two}
use Rattle.isle_syntax.specs.Errors.{indented}
use Rattle.isle_syntax.proofs.Positions.MessageLines.{unbroken_line, next_printed}
use Rattle.isle_syntax.proofs.error.print.write_lines.Goals as goal

pub lines-preserved : goal.lines-preserved
lines-preserved g c =
    let cut = split_parts 10 c.lines.left.now c.split_once.result c.split_once.ensures.cases (lit< tt) in
    let found = rw c.in-Some.is at cut in
    let so_far = c.lines.invariant in (
      search rules,
      (
        so_far.1.0 ++ indented c.in-Some.line.now,
        next_printed so_far.1.0 c.in-Some.line.now c.in-Some.others.now c.lines.left.now _ found.1 found.0 so_far.1.1,
        λ plain.
            let before = so_far.1.2 plain in
            put_two _ c.args.f.now c.lines.f c.writeln.new.self so_far.1.0 (indented c.in-Some.line.now) _ before
            (c.writeln.ensures.writes before.plain (search rules)) refl,
      ),
    )

pub returns : goal.returns
returns g c = λ plain ok.
    let cut = split_parts 10 c.lines.left.now c.split_once.result c.split_once.ensures.cases (lit< tt) in
    let unbroken = rw c.in_default.is at cut in
    let so_far = c.lines.invariant in
    let before = so_far.1.2 plain in
    put_two _ c.args.f.now c.lines.f c.writeln-2.new.self so_far.1.0 (indented c.lines.left.now) _ before (c.writeln-2.ensures.writes before.plain ok)
    (ap (λ text. so_far.1.0 ++ indented text) (sym (unbroken_line c.lines.left.now unbroken)) ∙ so_far.1.1)
