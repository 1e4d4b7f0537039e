use Rattle.std.proofs.Common.{inl, inr, [], ◌∷◌, sym, refl, ◌∙◌, ap, rules}
use Rattle.std.specs.Int.{w128}
use Rattle.std.proofs.lemmas.Int.{to_z-of_z}
use Rattle.isle_rules.specs.Values.{int_tree, big_tree}
use Rattle.isle_values.specs.declared.values.Node.TheVariants.{Int}
use Rattle.isle_values.proofs.GroundValues.Reading.{parens_alone}
use Rattle.isle_values.proofs.values.reading.leaf_node.Goals as goal

pub returns-in-Int-clause-some : goal.returns-in-Int-clause-some
returns-in-Int-clause-some c =
    (int_tree c.in-Int.n, tt, ap (λ t. t ∷ []) (sym c.in-Int.is), ap (λ z. Int z ∷ []) (sym (to_z-of_z w128 c.in-Int.n (search rules))))

pub returns-in-Big-clause-some : goal.returns-in-Big-clause-some
returns-in-Big-clause-some c = (big_tree c.in-Big.n, tt, ap (λ t. t ∷ []) (sym c.in-Big.is), refl)

pub returns-in-LParen-clause-none : goal.returns-in-LParen-clause-none
returns-in-LParen-clause-none c = λ v p e. elim c.in-LParen.is [
  | inl a ↦ (parens_alone v).0 (e ∙ ap (λ t. t ∷ []) a)
  | inr (inl a) ↦ (parens_alone v).1 (e ∙ ap (λ t. t ∷ []) a)
  | inr (inr a) ↦ (parens_alone v).2 (e ∙ ap (λ t. t ∷ []) a)
]
