use Rattle.std.proofs.Common.{refl}
use Rattle.isle_layout.specs.DefSpellings.{tuple_field_sexpr}
use Rattle.isle_layout.proofs.Layouts.Spellings.{mapped_more}
use Rattle.isle_layout.proofs.to_sexpr.types.add_tuple_fields.Goals as goal

pub loop-field-preserved : goal.loop-field-preserved
loop-field-preserved c =
    mapped_more c.args.list tuple_field_sexpr c.args.fields.now c.loop-field.field-index c.field-item.result _ _ _ c.loop-field-test.true
    c.field-item.is c.loop-field.invariant refl c.in_ok-longer.ensures
