use Rattle.std.proofs.Common.{◌≡◌, ◌++◌, map, take}
use Rattle.isle_layout.specs.DefSpellings.{variant_sexpr}
use Rattle.isle_layout.proofs.to_sexpr.types.add_variants.Given as goal

abbrev pub invariant-loop-variant : goal.invariant-loop-variant
invariant-loop-variant l = l.longer ≡ l.initial.longer ++ map variant_sexpr (take l.variant-index l.variants)
