-- What typed patterns show, form by form.
use Rattle.std.proofs.Common.{◌≡◌, ℕ, ℤ, List, Bool, sym, ap, ◌∙◌}
use Rattle.isle_types.specs.TypeTables.{name_at}
use Rattle.isle_types.specs.declared.ids.Sym.{Sym}
use Rattle.isle_types.specs.declared.ids.TypeId.{TypeId}
use Rattle.isle_types.specs.declared.ids.VarId.{VarId}
use Rattle.isle_rules.specs.declared.rules.Pattern.{Pattern, fold-roll-Pattern}
use Rattle.isle_rules.specs.declared.rules.Pattern.TheVariants as pattern
use Rattle.isle_rules.specs.declared.rules.Pattern.TheOpen.{BindPattern, Var, ConstBool, ConstInt, ConstPrim, Wildcard}
use Rattle.isle_rules.specs.TypedRules.{TypedPattern, typed_bind, typed_var, typed_bool, typed_int, typed_prim, typed_wildcard}
use Rattle.isle_rules.specs.Shown.ShownRules.{typed_step, typed_shown}

module _ (names : List (List ℕ)) (ty : TypeId) where
  -- a pattern whose value is bound
  pub shown_bind : (var : VarId) (below : Pattern) → typed_shown names (pattern.BindPattern ty var below) ≡ typed_bind ty.0 var.0
      (typed_shown names below)
  shown_bind var below =
      ap (typed_shown names) (sym (pattern.rolls-BindPattern ty var below)) ∙ fold-roll-Pattern TypedPattern (typed_step names)
      (BindPattern ty var below)

  -- a variable that is bound
  pub shown_var : (var : VarId) → typed_shown names (pattern.Var ty var) ≡ typed_var ty.0 var.0
  shown_var var = ap (typed_shown names) (sym (pattern.rolls-Var ty var)) ∙ fold-roll-Pattern TypedPattern (typed_step names) (Var ty var)

  -- a truth value
  pub shown_bool : (val : Bool) → typed_shown names (pattern.ConstBool ty val) ≡ typed_bool ty.0 val
  shown_bool val =
      ap (typed_shown names) (sym (pattern.rolls-ConstBool ty val)) ∙ fold-roll-Pattern TypedPattern (typed_step names) (ConstBool ty val)

  -- an integer
  pub shown_int : (val : ℤ) → typed_shown names (pattern.ConstInt ty val) ≡ typed_int ty.0 val
  shown_int val =
      ap (typed_shown names) (sym (pattern.rolls-ConstInt ty val)) ∙ fold-roll-Pattern TypedPattern (typed_step names) (ConstInt ty val)

  -- a named constant
  pub shown_prim : (name : Sym) → typed_shown names (pattern.ConstPrim ty name) ≡ typed_prim ty.0 (name_at names name)
  shown_prim name =
      ap (typed_shown names) (sym (pattern.rolls-ConstPrim ty name)) ∙ fold-roll-Pattern TypedPattern (typed_step names)
      (ConstPrim ty name)

  -- what fits each value
  pub shown_wildcard : typed_shown names (pattern.Wildcard ty) ≡ typed_wildcard ty.0
  shown_wildcard = ap (typed_shown names) (sym (pattern.rolls-Wildcard ty)) ∙ fold-roll-Pattern TypedPattern (typed_step names)
      (Wildcard ty)
