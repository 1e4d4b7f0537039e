use Rattle.std.proofs.Common.{ℕ, List, take}
use Rattle.isle_types.specs.Environment.{NamedVariant}
use Rattle.isle_types.specs.TypeEnvs.{AreShownVariants}
use Rattle.isle_rules.specs.Definitions.{variant_terms}
use Rattle.isle_terms.specs.Inside.Collecting.DeclaredTerms.{AddsTerms}
use Rattle.isle_terms.proofs.env.type_terms.add_variant_terms.Given as goal

abbrev pub invariant-loop-variant : goal.invariant-loop-variant
invariant-loop-variant l = (names : List (List ℕ)) (type : List ℕ) (shown : List NamedVariant) → AreShownVariants names type shown l.variants
    → AddsTerms names (variant_terms l.ty.0 type 0 (take l.variant-index shown)) l.initial.terms.items l.terms.items
