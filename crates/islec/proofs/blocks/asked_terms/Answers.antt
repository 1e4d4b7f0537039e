use Rattle.std.proofs.Common.{◌≡◌, ◌∙◌, None, List, ℕ, ap, arith, map, subst, sym}
use Rattle.std.specs.Prelude.{string_bytes}
use Rattle.isle_program.specs.Programs.{program_term}
use Rattle.islec.specs.Drawing.{IsUnknown}
use Rattle.islec.proofs.DrawingLemmas.{first_unknown}
use Rattle.islec.proofs.blocks.asked_terms.Goals as goal

pub returns-in-None : goal.returns-in-None
returns-in-None c =
    let program = c.args.program.now in
    let none : program_term program (string_bytes c.name-item.result) ≡ None =
    ap (program_term program) (sym c.as_str.ensures.value) ∙ sym c.term.ensures ∙ c.in-None.is in
    subst (λ (name : List ℕ). IsUnknown program (map string_bytes c.args.names.now) name) (sym c.as_str-in-None.ensures.value)
    (first_unknown program c.args.names.now c.loop-name.terms.items c.loop-name.name-index c.name-item.result (omega (arith, c.loop-name-test.true))
    c.name-item.is c.loop-name.invariant none)
