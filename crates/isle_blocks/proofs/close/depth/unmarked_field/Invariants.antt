use Rattle.isle_blocks.specs.Inside.ClosureFields.{kind_of}
use Rattle.isle_blocks.specs.Inside.ClosureStates.{FieldsAreMarked}
use Rattle.isle_blocks.proofs.close.depth.unmarked_field.Given as goal

abbrev pub invariant-loop-index : goal.invariant-loop-index
invariant-loop-index l = FieldsAreMarked l.sites l.class l.marks l.source (kind_of l.opening.variant) l.index
