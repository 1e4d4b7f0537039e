-- The sites of a value's parts.
use Rattle.std.specs.Prelude.{ℕ}
use Rattle.isle_blocks.specs.declared.ids.BindingId.{BindingId}
use Rattle.isle_blocks.specs.declared.binding.Binding.{Binding}
use Rattle.isle_blocks.specs.declared.builder.Parts.{Parts}
use Rattle.isle_blocks.specs.declared.builder.Parts.TheVariants.{Variant, Struct, Tuple}
use Rattle.isle_blocks.specs.Constraints.{variant_field, struct_field}
use Rattle.isle_blocks.specs.Inside.Building.Gathering.{tuple_output}

-- the site of a part, by the part's number
abbrev pub part_site : Parts → BindingId → ℕ → Binding
part_site (Variant variant) source = variant_field source variant
part_site Struct source = struct_field source
part_site Tuple source = tuple_output source
