use Rattle.std.proofs.Common.{◌≡◌, ◌++◌, OnOk, sym, subst, string_bytes}
use Rattle.std.specs.Prelude.{codes}
use Rattle.isle_program.specs.Programs.{term_name}
use Rattle.isle_callers.specs.Lines.{answer_text}
use Rattle.isle_callers.proofs.LineLemmas.{labelled}
use Rattle.isle_callers.proofs.example.lines.push_answer.Goals as goal

pub returns-in_ok-push_str-in-Stuck : goal.returns-in_ok-push_str-in-Stuck
returns-in_ok-push_str-in-Stuck c =
    subst (λ a. OnOk c.push_call.result (string_bytes c.push_call.new.lines ≡ string_bytes c.args.lines.now ++ answer_text c.args.program.now a))
    (sym c.in-Stuck.is)
    (labelled c.push_call.result (string_bytes c.args.lines.now) (string_bytes c.push_str-in-Stuck.new.self) (string_bytes c.push_call.new.lines)
    (codes "stuck ") c.name.result.now (term_name c.args.program.now c.in-Stuck.term) c.as_slice.result.now
    c.in-Stuck.args.items c.in_ok-push_str-in-Stuck.ensures.bytes c.name.ensures c.as_slice.ensures.value c.push_call.ensures)

pub returns-in_ok-push_str-in-IllTyped : goal.returns-in_ok-push_str-in-IllTyped
returns-in_ok-push_str-in-IllTyped c =
    subst (λ a. OnOk c.push_call-in-IllTyped.result
    (string_bytes c.push_call-in-IllTyped.new.lines ≡ string_bytes c.args.lines.now ++ answer_text c.args.program.now a)) (sym c.in-IllTyped.is)
    (labelled c.push_call-in-IllTyped.result (string_bytes c.args.lines.now) (string_bytes c.push_str-in-IllTyped.new.self)
    (string_bytes c.push_call-in-IllTyped.new.lines) (codes "ill-typed ") c.name-in-IllTyped.result.now
    (term_name c.args.program.now c.in-IllTyped.term) c.as_slice-in-IllTyped.result.now c.in-IllTyped.args.items
    c.in_ok-push_str-in-IllTyped.ensures.bytes c.name-in-IllTyped.ensures c.as_slice-in-IllTyped.ensures.value c.push_call-in-IllTyped.ensures)
