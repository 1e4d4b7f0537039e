-- Where definitions break a rule of terms and rules, whichever it is, and where they exceed a size.
use Rattle.std.specs.Prelude.{◌⊎◌, ◌<◌, ℕ, List, [], ◌∷◌, Bool, length, All}
use Rattle.std.specs.List.{filter_map}
use Rattle.std.specs.Option.{option_map}
use Rattle.isle_ast.specs.declared.ast.Rule.{Rule as RuleTree}
use Rattle.isle_ast.specs.declared.ast.Def.{Def}
use Rattle.isle_ast.specs.declared.pos.Pos.{Pos}
use Rattle.isle_ast.specs.declared.error.Error.{Error}
use Rattle.isle_types.specs.Environment.{Environment}
use Rattle.isle_types.specs.TypeFaults.{IsTypeFault, IsSizeFault}
use Rattle.isle_rules.specs.Signatures.{Signature, Conversion}
use Rattle.isle_rules.specs.Definitions.{IsAmong, rules_in, name_of, AreTerms, AreConversions}
use Rattle.isle_terms.specs.RuleReaching.{IsIllRule, IsLargeRule}
use Rattle.isle_terms.specs.TermFaults.{IsTaken, DeclarationBreaks, IsLargeDeclaration, ExtractorBreaks, ConstructorBreaks, ConverterBreaks}
use Rattle.isle_terms.specs.TermFaults.{IsUndefined}

-- the names of rules, each with the position of its rule
abbrev pub named_rules : List Def → List (List ℕ × Pos)
named_rules defs =
    filter_map (λ (rule : RuleTree). option_map (λ name. (name, rule.pos)) (name_of defs rule))
    (rules_in defs)

-- definitions break a rule of typing at a position: one of terms, constructors, extractors, converters or rules
pub data BreaksTyping (types : Environment) (expands : Bool) (levels : ℕ) (defs : List Def) : Pos → Type 0 where
  of_declarations : (at : Pos) → DeclarationBreaks types defs at → BreaksTyping types expands levels defs at
  of_constructors : (at : Pos) → ConstructorBreaks defs at → BreaksTyping types expands levels defs at
  of_extractors : (at : Pos) (terms : List Signature) → AreTerms types defs terms → ExtractorBreaks defs terms at
      → BreaksTyping types expands levels defs at
  of_converters : (at : Pos) (terms : List Signature) → AreTerms types defs terms → ConverterBreaks types defs terms at
      → BreaksTyping types expands levels defs at
  of_no_use : (at : Pos) → IsUndefined defs at → BreaksTyping types expands levels defs at
  of_a_rule : (at : Pos) (terms : List Signature) (conversions : List Conversion) (rule : RuleTree)
      → AreTerms types defs terms → AreConversions types defs terms conversions → IsAmong (rules_in defs) rule
      → IsIllRule (record { types = types; terms = terms; conversions = conversions; expands = expands }) levels rule at
      → BreaksTyping types expands levels defs at
  of_rule_names : (at : Pos) → IsTaken (named_rules defs) at → BreaksTyping types expands levels defs at

-- definitions exceed a size at a position: a declaration's arguments, or a rule's levels or nodes
pub data ExceedsTyping (types : Environment) (expands : Bool) (levels max : ℕ) (defs : List Def) : Pos → Type 0 where
  by_arguments : (at : Pos) → IsLargeDeclaration defs at → ExceedsTyping types expands levels max defs at
  by_a_rule : (terms : List Signature) (conversions : List Conversion) (rule : RuleTree)
      → AreTerms types defs terms → AreConversions types defs terms conversions → IsAmong (rules_in defs) rule
      → IsLargeRule (record { types = types; terms = terms; conversions = conversions; expands = expands }) levels max rule
      → ExceedsTyping types expands levels max defs rule.pos

-- one size error alone, where a size is exceeded
abbrev pub IsLoneSize : (Pos → Type 0) → List Error → Type 0
IsLoneSize Exceeded [] = ⊥
IsLoneSize Exceeded (error ∷ []) = IsSizeFault Exceeded error
IsLoneSize Exceeded (error ∷ _ ∷ _) = ⊥

-- what a refusal lists: one size error alone, or type errors, one at least, each where a rule of typing is broken
abbrev pub AreTypingFaults : Environment → Bool → (levels max : ℕ) → List Def → List Error → Type 0
AreTypingFaults types expands levels max defs errors = IsLoneSize (ExceedsTyping types expands levels max defs) errors
    ⊎ (All (IsTypeFault (BreaksTyping types expands levels defs)) errors × (0 < length errors))
