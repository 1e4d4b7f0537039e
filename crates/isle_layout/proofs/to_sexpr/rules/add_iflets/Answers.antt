use Rattle.isle_layout.specs.DefSpellings.{iflet_sexpr}
use Rattle.isle_layout.proofs.Layouts.Spellings.{mapped_more}
use Rattle.isle_layout.proofs.to_sexpr.rules.add_iflets.Goals as goal

pub loop-iflet-preserved : goal.loop-iflet-preserved
loop-iflet-preserved c =
    mapped_more c.args.list iflet_sexpr c.args.iflets.now c.loop-iflet.iflet-index c.iflet-item.result _ _ _ c.loop-iflet-test.true
    c.iflet-item.is c.loop-iflet.invariant c.in_ok-spell_iflet.ensures c.in_ok-longer.ensures
