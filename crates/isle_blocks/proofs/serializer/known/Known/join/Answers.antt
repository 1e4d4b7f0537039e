use Rattle.std.proofs.Common.{refl}
use Rattle.isle_blocks.specs.declared.serializer.known.Known.{Known}
use Rattle.isle_blocks.proofs.Trees.Known.{joined_labels, joined_known, joined_known_below}
use Rattle.isle_blocks.proofs.serializer.known.Known.join.Goals as goal

pub returns-clause-scope : goal.returns-clause-scope
returns-clause-scope c = λ set.
    let old = c.args.self.now in
    let new : Known = record { passed = old.passed; labels = c.in_ok-labels.labels; emitted = old.emitted } in
    joined_known set old new c.args.a.0 c.args.b.0 (c.requires.below c.args.a.0 c.requires.a) refl refl
    (joined_labels old new c.args.a.0 c.args.b.0 c.label.result c.label-2.result old.labels c.in_ok-labels.labels
    c.label.ensures c.label-2.ensures refl refl c.in_ok-labels.ensures)

pub returns-clause-below : goal.returns-clause-below
returns-clause-below c = λ x l.
    let old = c.args.self.now in
    let new : Known = record { passed = old.passed; labels = c.in_ok-labels.labels; emitted = old.emitted } in
    let e = joined_labels old new c.args.a.0 c.args.b.0 c.label.result c.label-2.result old.labels c.in_ok-labels.labels
    c.label.ensures c.label-2.ensures refl refl c.in_ok-labels.ensures in
    joined_known_below old new c.args.a.0 c.args.b.0 c.requires.b c.requires.below e x l
