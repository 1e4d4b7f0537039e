-- Definitions that break a rule of typing make no environment; those that exceed a size make none within the sizes.
use Rattle.std.proofs.Common.{◌≡◌, ℕ, ◌≤◌, Bool, List, [], ◌∷◌, Option, None, Some, refl, ap, sym, subst, ◌∙◌, arith, length}
use Rattle.std.specs.List.{AllZip, filter_map, cons_option}
use Rattle.std.specs.Option.{option_map}
use Rattle.isle_ast.specs.declared.ast.Decl.{Decl as DeclTree}
use Rattle.isle_ast.specs.declared.ast.Rule.{Rule as RuleTree}
use Rattle.isle_ast.specs.declared.ast.Def.{Def}
use Rattle.isle_ast.specs.declared.pos.Pos.{Pos}
use Rattle.isle_ast.specs.Trees.PatternShape.{pattern_of}
use Rattle.isle_types.specs.Names.{IsDuplicate}
use Rattle.isle_types.specs.Environment.{Environment}
use Rattle.isle_types.proofs.Zipped.{all_at, no_duplicate}
use Rattle.isle_rules.specs.TypedRules.{TypedRule}
use Rattle.isle_rules.specs.Signatures.{Signature, Conversion, Declared}
use Rattle.isle_rules.specs.Definitions.{declarations, rules_in, converters_in, root_name, name_of_rule, AreTerms, IsConversion}
use Rattle.isle_rules.specs.Definitions.{AreConversions, KeepExtractorRules, IsRuleOf}
use Rattle.isle_rules.specs.Definitions.{TermEnvironment, declared_by, rule_names, MakesTerms}
use Rattle.isle_terms.specs.RuleReaching.{IsIllRule, IsLargeRule}
use Rattle.isle_terms.specs.TermFaults.{names_of}
use Rattle.isle_terms.specs.TypingFaults.{BreaksTyping, of_declarations, of_constructors, of_extractors, of_converters, of_no_use}
use Rattle.isle_terms.specs.TypingFaults.{of_a_rule}
use Rattle.isle_terms.specs.TypingFaults.{of_rule_names, ExceedsTyping, by_arguments, by_a_rule}
use Rattle.isle_terms.proofs.RuleFaults.{ill_rule, large_rule}
use Rattle.isle_rules.proofs.OneTermEnvironment.{zipped_one, one_list_of_terms, one_conversion}
use Rattle.isle_terms.proofs.BrokenTerms.{declarations_keep, extractors_keep, converters_keep, defined_keep}
use Rattle.isle_terms.proofs.BrokenConstructors.{rule_at, constructors_keep}

one_name : (name : List ℕ) (pos : Pos) (o : Option (List ℕ)) (pairs : List (List ℕ × Pos)) (names : List (List ℕ))
    → names_of pairs ≡ names → names_of (cons_option (option_map (λ name. (name, pos)) o) pairs) ≡ cons_option o names
one_name name pos None pairs names same = same
one_name name pos (Some first) pairs names same = ap (λ z. first ∷ z) same

-- the names of typed rules are those of their trees
names_of_rules : (declared : Declared) (defs : List Def) (levels max : ℕ) (trees : List RuleTree) (rules : List TypedRule)
    → AllZip (IsRuleOf declared defs levels max) trees rules
    → names_of (filter_map (λ (rule : RuleTree). option_map (λ name. (name, rule.pos))
    (name_of_rule defs (root_name (pattern_of rule.pattern)) rule.name)) trees)
    ≡ rule_names rules
names_of_rules declared defs levels max [] [] each = refl
names_of_rules declared defs levels max [] (rule ∷ rules) each = absurd each
names_of_rules declared defs levels max (tree ∷ trees) [] each = absurd each
names_of_rules declared defs levels max (tree ∷ trees) (rule ∷ rules) each =
    one_name [] tree.pos (name_of_rule defs (root_name (pattern_of tree.pattern)) tree.name) _ (rule_names rules)
    (names_of_rules declared defs levels max trees rules each.1)
    ∙ ap (λ z. cons_option z (rule_names rules)) (ap (λ (z : TypedRule). z.name) (sym each.0.same))

module _ (types : Environment) (expands : Bool) (levels max : ℕ) (defs : List Def) (environment : TermEnvironment)
    (is : MakesTerms types expands levels max defs environment) where
  -- what rules are read under is one
  read_under : (terms : List Signature) (conversions : List Conversion) → AreTerms types defs terms → AreConversions types defs terms conversions
      → record { types = types; terms = terms; conversions = conversions; expands = expands } ≡ declared_by types expands environment
  read_under terms conversions made converted =
      let same : terms ≡ environment.terms = one_list_of_terms types defs terms environment.terms made is.terms in
      let also : conversions ≡ environment.conversions =
      zipped_one (IsConversion types environment.terms) (IsConversion types environment.terms) (one_conversion types environment.terms)
      (converters_in defs)
      conversions environment.conversions
      (subst (λ z. AllZip (IsConversion types z) (converters_in defs) conversions) same converted.each) is.conversions.each in
      λ i. record { types = types; terms = same i; conversions = also i; expands = expands }

  -- definitions that break a rule of typing make no environment, in however many levels the fault is found
  pub broken_typing_makes_none : (n : ℕ) (at : Pos) → BreaksTyping types expands n defs at → ⊥
  broken_typing_makes_none n at (of_declarations _ breaks) = declarations_keep types defs environment.terms is.terms at breaks
  broken_typing_makes_none n at (of_constructors _ breaks) = constructors_keep types expands levels max defs environment is at breaks
  broken_typing_makes_none n at (of_extractors _ terms made breaks) =
      extractors_keep types defs terms made
      (subst (λ z. KeepExtractorRules defs z) (one_list_of_terms types defs environment.terms terms is.terms made) is.extractors) at breaks
  broken_typing_makes_none n at (of_converters _ terms made breaks) =
      converters_keep types defs terms environment.conversions
      (subst (λ z. AreConversions types defs z environment.conversions)
      (one_list_of_terms types defs environment.terms terms is.terms made) is.conversions) at breaks
  broken_typing_makes_none n at (of_no_use _ undefined) = defined_keep defs is.defined at undefined
  broken_typing_makes_none n at (of_a_rule _ terms conversions rule made converted among ill) =
      let typed = rule_at types expands levels max defs environment is rule among in
      ill_rule (declared_by types expands environment) n levels max rule at typed.1.written
      (subst (λ z. IsIllRule z n rule at) (read_under terms conversions made converted) ill) typed.1.typed
  broken_typing_makes_none n at (of_rule_names _ taken) =
      no_duplicate (rule_names environment.rules) is.names taken.place
      (subst (λ z. IsDuplicate z taken.place)
      (names_of_rules (declared_by types expands environment) defs levels max (rules_in defs) environment.rules is.rules) taken.taken)

  -- definitions that exceed a size make no environment within the sizes
  pub exceeding_typing_makes_none : (at : Pos) → ExceedsTyping types expands levels max defs at → ⊥
  exceeding_typing_makes_none at (by_arguments _ large) =
      let few = all_at (λ (decl : DeclTree). length decl.arg_tys ≤ 255) (declarations defs) is.within large.among.0 large.decl large.among.1 in
      omega (arith, few, large.many)
  exceeding_typing_makes_none at (by_a_rule terms conversions rule made converted among large) =
      let typed = rule_at types expands levels max defs environment is rule among in
      large_rule (declared_by types expands environment) levels max rule typed.1.written
      (subst (λ z. IsLargeRule z levels max rule) (read_under terms conversions made converted) large) typed.1.typed
