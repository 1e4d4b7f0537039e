-- What typed patterns show, form by form.
use Rattle.std.proofs.Common.{◌≡◌, ℕ, List, map, sym, ap, ◌∙◌}
use Rattle.isle_types.specs.declared.ids.TypeId.{TypeId}
use Rattle.isle_types.specs.declared.ids.TermId.{TermId}
use Rattle.isle_rules.specs.declared.rules.Pattern.{Pattern, fold-roll-Pattern}
use Rattle.isle_rules.specs.declared.rules.Pattern.TheVariants as pattern
use Rattle.isle_rules.specs.declared.rules.Pattern.TheOpen.{And, Term}
use Rattle.isle_rules.specs.TypedRules.{TypedPattern, typed_and, typed_term}
use Rattle.isle_rules.specs.Shown.ShownRules.{typed_list, typed_step, typed_shown}

-- patterns that all match one value
pub shown_and : (names : List (List ℕ)) (ty : TypeId) (below : List Pattern)
    → typed_shown names (pattern.And ty below) ≡ typed_and ty.0 (typed_list (map (typed_shown names) below))
shown_and names ty below =
    ap (typed_shown names) (sym (pattern.rolls-And ty below)) ∙ fold-roll-Pattern TypedPattern (typed_step names) (And ty below)

-- a use of a term
pub shown_term : (names : List (List ℕ)) (ty : TypeId) (term : TermId) (args : List Pattern)
    → typed_shown names (pattern.Term ty term args) ≡ typed_term ty.0 term.0 (typed_list (map (typed_shown names) args))
shown_term names ty term args =
    ap (typed_shown names) (sym (pattern.rolls-Term ty term args)) ∙ fold-roll-Pattern TypedPattern (typed_step names) (Term ty term args)
