use Rattle.std.proofs.Common.{◌≡◌, ◌++◌, ◌∷◌, [], ap, ◌∙◌, rules, lit<, string_bytes, IfOk}
use Rattle.std.proofs.Math.Utf8.{encode}
use Rattle.std.proofs.lemmas.Str.Pattern.{split_parts}
use Rattle.isle_layout.proofs.Keeping.Settling.{ok_then}
use Rattle.isle_layout.proofs.Keeping.Writing.{line_written, lines_written}
use Rattle.isle_layout.proofs.layout.write_lines.Goals as goal

pub lines-preserved : goal.lines-preserved
unfolding encode
lines-preserved c =
    let cut = split_parts 10 c.lines.left.now c.split_once.result c.split_once.ensures.cases (lit< tt) in
    let found = rw c.in-Some.is at cut in (
      search rules,
      line_written c.in-Some.line.now c.in-Some.others.now c.lines.left.now (string_bytes c.lines.out) _ _ found.1 found.0
          (c.in_ok-push.ensures.bytes
          ∙ ap (λ b. b ++ 10 ∷ []) (c.in_ok-push_str.ensures.bytes ∙ ap (λ t. string_bytes c.lines.out ++ t) c.trimmed.ensures))
          c.lines.invariant.1,
    )

is_pushed : (c : goal.After-push_str-2)
    → IfOk c.push_str-2.result (λ done. string_bytes c.push_str-2.new.self ≡ string_bytes c.lines.out ++ c.lines.left.now)
is_pushed c = search rules

pub returns : goal.returns
returns c =
    let cut = split_parts 10 c.lines.left.now c.split_once.result c.split_once.ensures.cases (lit< tt) in
    let unbroken = rw c.in_default.is at cut in
    ok_then c.push_str-2.result (λ done. string_bytes c.push_str-2.new.self ≡ string_bytes c.lines.out ++ c.lines.left.now) _ (is_pushed c)
    (λ done e. lines_written c.lines.left.now (string_bytes c.lines.out) _ _ unbroken e c.lines.invariant.1)
