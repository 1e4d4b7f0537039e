use Rattle.std.proofs.Common.{Bool, false, Option, sym, ap, ◌∙◌, inl, inr}
use Rattle.std.specs.Option.{option_map_or}
use Rattle.isle_rules.specs.declared.terms.Term.{Term}
use Rattle.isle_rules.specs.Shown.TermTables.{is_multi_kind}
use Rattle.isle_blocks.proofs.checking.is_multi.Goals as goal

abbrev asked : Option Term → Bool
asked o = option_map_or (λ (t : Term). is_multi_kind t.kind) o false

pub returns-in_default : goal.returns-in_default
returns-in_default c = ap asked c.in_default.ensures

pub returns-in-Decl : goal.returns-in-Decl
returns-in-Decl c = sym (ap is_multi_kind c.in-Decl.is) ∙ ap asked c.in-Some.ensures

pub returns-in-EnumVariant : goal.returns-in-EnumVariant
returns-in-EnumVariant c = elim c.in-EnumVariant.is [
  | inl (variant, is) ↦ sym (ap is_multi_kind is) ∙ ap asked c.in-Some.ensures
  | inr is ↦ sym (ap is_multi_kind is) ∙ ap asked c.in-Some.ensures
]

pub returns-in-EnumVariant-2 : goal.returns-in-EnumVariant-2
returns-in-EnumVariant-2 c = elim c.in-EnumVariant.is [
  | inl (variant, is) ↦ sym (ap is_multi_kind is) ∙ ap asked c.in-Some.ensures
  | inr is ↦ sym (ap is_multi_kind is) ∙ ap asked c.in-Some.ensures
]
