use Rattle.std.proofs.Common.{◌≡◌, ℕ, List, Some, take, slice_get}
use Rattle.std.specs.List.{AllZip}
use Rattle.isle_ast.specs.declared.ast.Variant.{Variant as VariantTree}
use Rattle.isle_types.specs.declared.types.Variant.{Variant}
use Rattle.isle_types.specs.Environment.{HaveAllowedSizes}
use Rattle.isle_types.specs.TypeEnvs.{HasMoreNames}
use Rattle.isle_types.specs.Inside.Readings.{HasTypeNames, ReadsVariants}
use Rattle.isle_types.proofs.env.TypeEnv.variants_from_ast.Given as goal

abbrev pub invariant-loop-variant : goal.invariant-loop-variant
invariant-loop-variant l = record {
  same : HasMoreNames l.initial.self l.self;
  sizes : HaveAllowedSizes (take l.variant-index l.variants);
  named : AllZip (λ (tree : VariantTree) (variant : Variant). slice_get l.self.names variant.name.0 ≡ Some tree.name.0)
      (take l.variant-index l.variants) l.made.items;
  read : (known : List (List ℕ)) → HasTypeNames l.initial.self known
      → ReadsVariants known l.self.names l.ty.name.0 (take l.variant-index l.variants) l.made.items;
}
