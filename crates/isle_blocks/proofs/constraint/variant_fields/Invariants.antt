use Rattle.std.proofs.Common.{◌≡◌}
use Rattle.isle_blocks.specs.Constraints.{fields_below, variant_field}
use Rattle.isle_blocks.proofs.constraint.variant_fields.Given as goal

-- the fields so far
abbrev pub invariant-loop-field : goal.invariant-loop-field
invariant-loop-field l = l.made.items ≡ fields_below (variant_field l.source l.variant) l.field
