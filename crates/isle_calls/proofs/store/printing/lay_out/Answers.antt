use Rattle.std.proofs.Common.{◌≡◌, Some, reverse, sym, ap, subst, ◌∙◌, rules}
use Rattle.std.specs.Prelude.{FitsSigned}
use Rattle.std.specs.Int.{w128}
use Rattle.std.proofs.lemmas.Int.{to_z-of_z}
use Rattle.std.proofs.lemmas.Result.{IfOk-weaker}
use Rattle.isle_rules.specs.Values.{const_tree, data_tree, more_trees}
use Rattle.isle_meaning.specs.Values.{bool_value, int_value, constant_value, opaque_value}
use Rattle.isle_values.specs.Values.Nodes.{nodes_of}
use Rattle.isle_program.specs.Programs.{value_facts, types_of}
use Rattle.isle_values.specs.Values.Settled.{field_types}
use Rattle.isle_calls.specs.Stores.Values.{StandEach}
use Rattle.isle_calls.specs.Inside.Stores.Printing.{printed, printed_int, printed_all, Leads}
use Rattle.isle_calls.proofs.Stores.Steps.{leaf_put, leaf_leads, data_leads}
use Rattle.isle_calls.proofs.Stores.Values.{variant_stands, struct_stands}
use Rattle.isle_calls.proofs.store.printing.lay_out.Goals as goal

pub returns-in-Bool : goal.returns-in-Bool
returns-in-Bool c =
    IfOk-weaker c.put_leaf.result _ _ (λ x laid store v n made at is leads.
    leaf_leads (value_facts c.args.program.now) (types_of c.args.program.now) store v (bool_value c.in-Bool.b) n c.args.ty.0
    (reverse c.args.left.now.items)
    c.args.laid.now c.put_leaf.new.self made is (at ∙ ap Some c.in-Bool.is) laid leads) c.put_leaf.ensures

pub returns-in-Int : goal.returns-in-Int
returns-in-Int c =
    let facts = value_facts c.args.program.now in
    let kind = facts.kind c.args.ty.0 in
    let tree = printed_int c.in-Int.n kind in
    let fits : FitsSigned w128 c.in-Int.n = search rules in
    let one = ap (λ n. nodes_of (printed_int n kind)) (sym (to_z-of_z w128 c.in-Int.n fits)) ∙ c.int_node.ensures.printed in
    IfOk-weaker c.put_leaf-in-Int.result _ _ (λ x laid store v n made at is leads.
    leaf_leads facts (types_of c.args.program.now) store v (int_value c.in-Int.n) n c.args.ty.0 (reverse c.args.left.now.items)
    c.args.laid.now c.put_leaf-in-Int.new.self made is (at ∙ ap Some c.in-Int.is)
    (laid ∙ leaf_put c.int_node.result tree c.args.laid.now c.int_node.ensures.leaf one) leads) c.put_leaf-in-Int.ensures

pub returns-in_ok-clone-in-Const : goal.returns-in_ok-clone-in-Const
returns-in_ok-clone-in-Const c =
    let h = c.in_ok-clone-in-Const.ensures.cases in
    let same : c.in_ok-clone-in-Const.field-0 ≡ c.in-Const.name = sym h.3 ∙ h.4 ∙ h.2 in
    IfOk-weaker c.put_leaf-in-Const.result _ _ (λ x laid store v n made at is leads.
    leaf_leads (value_facts c.args.program.now) (types_of c.args.program.now) store v (constant_value c.in-Const.name) n c.args.ty.0
    (reverse c.args.left.now.items) c.args.laid.now c.put_leaf-in-Const.new.self made is (at ∙ ap Some c.in-Const.is)
    (laid ∙ ap (λ name. more_trees (const_tree name) c.args.laid.now) same) leads) c.put_leaf-in-Const.ensures

pub returns-in-Opaque : goal.returns-in-Opaque
returns-in-Opaque c =
    IfOk-weaker c.put_leaf-in-Opaque.result _ _ (λ x laid store v n made at is leads.
    leaf_leads (value_facts c.args.program.now) (types_of c.args.program.now) store v (opaque_value c.in-Opaque.n) n c.args.ty.0
    (reverse c.args.left.now.items) c.args.laid.now c.put_leaf-in-Opaque.new.self made is (at ∙ ap Some c.in-Opaque.is) laid leads)
    c.put_leaf-in-Opaque.ensures

pub returns-in-Variant : goal.returns-in-Variant
returns-in-Variant c =
    let facts = value_facts c.args.program.now in
    let env = types_of c.args.program.now in
    let fields = c.as_slice.result.now in
    let name = c.variant_name.result.now in
    IfOk-weaker c.put_off.result _ _ (λ x steps store v n made at is leads.
    let (vs, each, same) =
    variant_stands store v n c.in-Variant.of c.in-Variant.variant c.in-Variant.fields (at ∙ ap Some c.in-Variant.is) is in
    let tree = ap (λ w. printed facts env w c.args.ty.0) same
    ∙ ap (λ name. data_tree name (printed_all facts env vs (field_types (facts.data_named name)))) (sym c.variant_name.ensures) in
    data_leads facts env store vs fields
    (field_types (facts.data_named name)) name c.args.left.now.items c.put_off.new.left.items c.args.laid.now made
    (subst (StandEach store vs) (sym c.as_slice.ensures) each) steps
    (subst (λ t. Leads facts env store (reverse c.args.left.now.items) (more_trees t c.args.laid.now) made) tree leads)) c.put_off.ensures

pub returns-in-Struct : goal.returns-in-Struct
returns-in-Struct c =
    let facts = value_facts c.args.program.now in
    let env = types_of c.args.program.now in
    let fields = c.as_slice-in-Struct.result.now in
    let name = c.struct_name.result.now in
    IfOk-weaker c.put_off-in-Struct.result _ _ (λ x steps store v n made at is leads.
    let (vs, each, same) = struct_stands store v n c.in-Struct.of c.in-Struct.fields (at ∙ ap Some c.in-Struct.is) is in
    let tree = ap (λ w. printed facts env w c.args.ty.0) same
    ∙ ap (λ name. data_tree name (printed_all facts env vs (field_types (facts.data_named name)))) (sym c.struct_name.ensures) in
    data_leads facts env store vs fields (field_types (facts.data_named name)) name c.args.left.now.items c.put_off-in-Struct.new.left.items
    c.args.laid.now made (subst (StandEach store vs) (sym c.as_slice-in-Struct.ensures) each) steps
    (subst (λ t. Leads facts env store (reverse c.args.left.now.items) (more_trees t c.args.laid.now) made) tree leads))
    c.put_off-in-Struct.ensures
