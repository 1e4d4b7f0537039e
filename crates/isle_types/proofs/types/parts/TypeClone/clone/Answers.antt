use Rattle.std.proofs.Common.{ap, sym, ◌∙◌}
use Rattle.isle_types.specs.declared.types.«Type».TheVariants.{Struct}
use Rattle.isle_types.proofs.types.parts.TypeClone.clone.Goals as goal

pub returns-in_ok-clone-in-Struct : goal.returns-in_ok-clone-in-Struct
returns-in_ok-clone-in-Struct c = record {
  cases = ap (λ fields. Struct c.in-Struct.name c.in-Struct.id c.in-Struct.is_extern c.in-Struct.is_nodebug fields c.in-Struct.pos)
      c.in_ok-clone-in-Struct.ensures.cases ∙ sym c.in-Struct.is;
}
