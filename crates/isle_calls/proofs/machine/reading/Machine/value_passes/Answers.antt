-- The node of the value decides.
use Rattle.std.proofs.Common.{◌≡◌, ◌↔◌, ℤ, sym, subst, IsTrue, rules}
use Rattle.std.specs.Int.{w128}
use Rattle.std.specs.Prelude.{FitsSigned}
use Rattle.std.proofs.lemmas.Int.{to_z-of_z}
use Rattle.isle_types.specs.TypeTables.{TypeTables}
use Rattle.isle_meaning.specs.Held.{held_value}
use Rattle.isle_meaning.specs.Held.{Meets}
use Rattle.isle_meaning.specs.Values.{bool_value, int_value, constant_value}
use Rattle.isle_blocks.specs.declared.constraint.Constraint.{Constraint}
use Rattle.isle_blocks.specs.Building.Naming.{name_by}
use Rattle.isle_blocks.specs.Rows.{test_of}
use Rattle.isle_calls.specs.declared.store.Stored.TheVariants.{Bool, Int, Const}
use Rattle.isle_program.specs.Programs.{types_of}
use Rattle.isle_calls.proofs.TreeRoad.Passing.{variant_passes, struct_passes, leaf_passes}
use Rattle.isle_calls.proofs.machine.reading.Machine.value_passes.Goals as goal

pub returns-in-Variant : goal.returns-in-Variant
returns-in-Variant c v n at s =
    let name = name_by (types_of c.args.self.now.program.now).names in
    subst (λ (t : Constraint). IsTrue c.is_variant.result ↔ Meets (test_of name t) (held_value v)) (sym c.in-Variant.is)
    (variant_passes c.args.self.now.store v n c.args.stored.now at s c.is_variant.result c.in-Variant.ty c.in-Variant.variant
    c.in-Variant.fields.0 c.is_variant.ensures)

pub returns-in-Struct : goal.returns-in-Struct
returns-in-Struct c v n at s =
    let name = name_by (types_of c.args.self.now.program.now).names in
    subst (λ (t : Constraint). IsTrue c.is_struct.result ↔ Meets (test_of name t) (held_value v)) (sym c.in-Struct.is)
    (struct_passes c.args.self.now.store v n c.args.stored.now at s c.is_struct.result c.in-Struct.ty c.in-Struct.fields.0 c.is_struct.ensures)

pub returns-in-ConstBool : goal.returns-in-ConstBool
returns-in-ConstBool c v n at s =
    let name = name_by (types_of c.args.self.now.program.now).names in
    let val = c.in-ConstBool.val in
    subst (λ (t : Constraint). IsTrue c.is_bool.result ↔ Meets (test_of name t) (held_value v)) (sym c.in-ConstBool.is)
    (leaf_passes c.args.self.now.store v n c.args.stored.now at s c.is_bool.result (bool_value val) (Bool val) (λ e. e) (λ e. e) c.is_bool.ensures)

pub returns-in-ConstInt : goal.returns-in-ConstInt
returns-in-ConstInt c v n at s =
    let name = name_by (types_of c.args.self.now.program.now).names in
    let val = c.in-ConstInt.val in
    let fits : FitsSigned w128 val = search rules in
    let decided = subst (λ (z : ℤ). IsTrue c.is_int.result ↔ (c.args.stored.now ≡ Int z)) (to_z-of_z w128 val fits) c.is_int.ensures in
    subst (λ (t : Constraint). IsTrue c.is_int.result ↔ Meets (test_of name t) (held_value v)) (sym c.in-ConstInt.is)
    (leaf_passes c.args.self.now.store v n c.args.stored.now at s c.is_int.result (int_value val) (Int val) (λ e. e) (λ e. e) decided)

pub returns-in-ConstPrim : goal.returns-in-ConstPrim
returns-in-ConstPrim c v n at s =
    let name = name_by (types_of c.args.self.now.program.now).names in
    let val = c.in-ConstPrim.val in
    let decided = subst (λ (t : TypeTables). IsTrue c.is_constant.result ↔ (c.args.stored.now ≡ Const (name_by t.names val))) c.types.ensures
    c.is_constant.ensures in
    subst (λ (t : Constraint). IsTrue c.is_constant.result ↔ Meets (test_of name t) (held_value v)) (sym c.in-ConstPrim.is)
    (leaf_passes c.args.self.now.store v n c.args.stored.now at s c.is_constant.result (constant_value (name val))
    (Const (name val)) (λ e. e) (λ e. e)
    decided)
