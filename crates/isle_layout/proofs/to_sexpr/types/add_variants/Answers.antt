use Rattle.isle_layout.specs.DefSpellings.{variant_sexpr}
use Rattle.isle_layout.proofs.Layouts.Spellings.{mapped_more}
use Rattle.isle_layout.proofs.to_sexpr.types.add_variants.Goals as goal

pub loop-variant-preserved : goal.loop-variant-preserved
loop-variant-preserved c =
    mapped_more c.args.list variant_sexpr c.args.variants.now c.loop-variant.variant-index c.variant-item.result _ _ _ c.loop-variant-test.true
    c.variant-item.is c.loop-variant.invariant c.in_ok-spell_variant.ensures c.in_ok-longer.ensures
