use Rattle.std.proofs.Common.{◌≡◌, ◌+◌, Some, None, length, map, sym, ◌∙◌, ap, subst}
use Rattle.std.proofs.lemmas.List.{length-map}
use Rattle.std.proofs.lemmas.Option.{same_Some, slice_get-get_or}
use Rattle.isle_values.specs.declared.values.Node.TheVariants.{Data}
use Rattle.isle_program.specs.Programs.{value_facts, number_of, types_of_term}
use Rattle.isle_values.specs.Values.TypedNodes.{FieldsFit, NodesFit}
use Rattle.isle_values.proofs.GroundValues.TypedNodes.{fields_by, fields_of_none}
use Rattle.isle_values.proofs.values.typing.fields_fit.Goals as goal

pub returns-in-Some : goal.returns-in-Some
returns-in-Some c = λ node get.
    let facts = value_facts c.args.program.now in let nodes = c.args.nodes.now in let at = c.args.at in
    let one : node ≡ c.index-nodes-at.result =
    same_Some node c.index-nodes-at.result (sym get ∙ slice_get-get_or nodes at c.index-nodes-at.result c.requires ∙ ap Some
    (sym c.index-nodes-at.is)) in
    let types = map number_of c.in-Some.term.now.arg_tys in
    let is : facts.data_named c.in-Data.name ≡ Some (types_of_term c.in-Some.term.now) = ap facts.data_named
    (sym c.as_str.ensures) ∙ c.in-Some.ensures in
    let by = fields_by facts nodes (at + 1) c.in-Data.name c.in-Data.fields c.in-Data._nodes c.in-Some.term.now.ret_ty.0 types is in
    let laid : Data c.in-Data.name c.in-Data.fields c.in-Data._nodes ≡ node = sym (one ∙ c.in-Data.is) in
    let count : length types ≡ length c.in-Some.term.now.arg_tys = length-map c.in-Some.term.now.arg_tys number_of in
    let own = c.as_slice.ensures in
    let fits = c.data_fits.ensures in (
      λ t. let (many, fit) = fits.0 t in subst (FieldsFit facts nodes (at + 1)) laid
          (by.0 (count ∙ ap length (sym own) ∙ many, subst (λ l. NodesFit facts nodes (at + 1) (map number_of l)) own fit)),
      λ h. let (many, fit) = by.1 (subst (FieldsFit facts nodes (at + 1)) (sym laid) h) in
          fits.1 (ap length own ∙ sym count ∙ many, subst (λ l. NodesFit facts nodes (at + 1) (map number_of l)) (sym own) fit),
    )

pub returns-in-None : goal.returns-in-None
returns-in-None c = λ node get.
    let facts = value_facts c.args.program.now in let nodes = c.args.nodes.now in let at = c.args.at in
    let one : node ≡ c.index-nodes-at.result =
    same_Some node c.index-nodes-at.result (sym get ∙ slice_get-get_or nodes at c.index-nodes-at.result c.requires ∙ ap Some
    (sym c.index-nodes-at.is)) in
    let laid : Data c.in-Data.name c.in-Data.fields c.in-Data._nodes ≡ node = sym (one ∙ c.in-Data.is) in
    let none : facts.data_named c.in-Data.name ≡ None = ap facts.data_named (sym c.as_str.ensures) ∙ c.in-None.ensures in (
      λ t. absurd cc,
      λ h. absurd (fields_of_none facts nodes (at + 1) c.in-Data.name c.in-Data.fields c.in-Data._nodes none
          (subst (FieldsFit facts nodes (at + 1)) (sym laid) h)),
    )
