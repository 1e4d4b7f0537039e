-- The name and the arguments so far stand behind the parenthesis.
use Rattle.std.proofs.Common.{◌≡◌, ◌++◌, take, string_bytes}
use Rattle.std.specs.Prelude.{codes}
use Rattle.isle_rules.specs.Values.{value_list}
use Rattle.isle_values.specs.Values.Text.{fields_text}
use Rattle.isle_callers.proofs.example.lines.push_call.Given as goal

abbrev pub invariant-loop-arg : goal.invariant-loop-arg
invariant-loop-arg l =
    string_bytes l.lines ≡ string_bytes l.fn.lines ++ (codes "(" ++ (l.name ++ fields_text (value_list (take l.arg-index l.args))))
