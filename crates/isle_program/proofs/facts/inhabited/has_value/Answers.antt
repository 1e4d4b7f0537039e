use Rattle.std.proofs.Common.{sym, ap, ◌∙◌}
use Rattle.std.specs.List.{list_any, list_all}
use Rattle.isle_types.specs.declared.types.Variant.{Variant}
use Rattle.isle_types.specs.declared.types.«Type».{«Type» as KnownType}
use Rattle.isle_types.specs.Types.{field_types}
use Rattle.isle_program.specs.Facts.Inhabited.{mark_of, can_be_made}
use Rattle.isle_program.proofs.ProgramFacts.InhabitedMarks.{any_map}
use Rattle.isle_program.proofs.facts.inhabited.has_value.Goals as goal

pub returns-in-Enum : goal.returns-in-Enum
returns-in-Enum c =
    let test = list_all (mark_of c.args.marks.now) in
    c.some_has_values.ensures ∙ ap (list_any (λ (variant : Variant). test (field_types variant.fields))) c.as_slice.ensures
    ∙ sym (any_map test (λ (variant : Variant). field_types variant.fields) c.in-Enum.variants)
    ∙ ap (λ (t : KnownType). can_be_made c.args.marks.now t) (sym c.in-Enum.is)
