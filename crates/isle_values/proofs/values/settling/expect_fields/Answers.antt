use Rattle.std.proofs.Common.{◌≡◌, ℕ, List, Some, length, map, refl, sym, ◌∙◌, ap, subst, Bool, true, false, not}
use Rattle.std.proofs.lemmas.Bool.{eqb-true}
use Rattle.std.proofs.lemmas.List.{length-map}
use Rattle.isle_types.specs.declared.ids.TypeId.{TypeId}
use Rattle.isle_meaning.specs.ValueTypes.{ValueFacts}
use Rattle.isle_values.specs.declared.values.Node.{Node}
use Rattle.isle_values.specs.declared.values.Node.TheVariants.{Data}
use Rattle.isle_program.specs.Programs.{value_facts, number_of}
use Rattle.isle_values.specs.Values.Settled.{field_types}
use Rattle.isle_values.specs.Inside.Values.SettledNodes.{FitsWithFields}
use Rattle.isle_values.proofs.values.settling.expect_fields.Goals as goal

-- data of a term that makes the type, with as many fields as that takes
data_fits : (facts : ValueFacts) (node : Node) (name : List ℕ) (fields below made ty : ℕ) (types : List TypeId) → node ≡ Data name fields below
    → facts.data_named name ≡ Some (made, map number_of types) → made ≡ ty → length types ≡ fields → FitsWithFields facts node ty
data_fits facts node name fields below made ty types laid is same many =
    subst (λ n. FitsWithFields facts n ty) (sym laid) (
      (map number_of types, is ∙ ap (λ t. Some (t, map number_of types)) same),
      ap (λ o. length (field_types o)) is ∙ length-map types number_of ∙ many,
    )

same_type : (a b : Bool) → false ≡ not a → a ≡ true
same_type true b e = refl
same_type false b e = cc

pub returns-clause-fits : goal.returns-clause-fits
returns-clause-fits c = (
  λ t. data_fits (value_facts c.args.program.now) c.args.node.now c.in-Data.name c.in-Data.fields c.in-Data._nodes
      c.in-Some.term.now.ret_ty.0 c.args.ty.0
      c.in-Some.term.now.arg_tys c.in-Data.is (ap (value_facts c.args.program.now).data_named (sym c.as_str.ensures) ∙ c.in-Some.ensures)
      (eqb-true c.in-Some.term.now.ret_ty.0 c.args.ty.0 (same_type _ true c.if-ne.ensures))
      (ap length (sym c.as_slice-types.ensures) ∙ c.if-types-fields.false),
  λ h. refl,
)
