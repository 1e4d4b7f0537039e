-- The roots of rules are declared terms with rules.
use Rattle.std.proofs.Common.{◌≡◌, ℕ, zero, suc, List, [], ◌∷◌, length, Bool, Option, Some, None, is_some, refl, ap, sym}
use Rattle.std.proofs.Common.{subst, ◌∙◌, slice_get}
use Rattle.std.specs.List.{All, cons_option}
use Rattle.std.specs.Option.{option_map}
use Rattle.std.proofs.lemmas.Option.{same_Some, none-some, slice_get-get_or, slice_get-map}
use Rattle.isle_ast.specs.declared.ast.Ident.{Ident}
use Rattle.isle_ast.specs.declared.ast.Decl.{Decl as DeclTree}
use Rattle.isle_ast.specs.declared.ast.Rule.{Rule as RuleTree}
use Rattle.isle_ast.specs.declared.ast.Def.{Def}
use Rattle.isle_ast.specs.declared.pos.Pos.{Pos}
use Rattle.isle_ast.specs.Trees.PatternTree.{PatternTree, PatternTrees, pattern_var, pattern_bind, pattern_bool, pattern_int, pattern_prim}
use Rattle.isle_ast.specs.Trees.PatternTree.{pattern_term, pattern_wildcard, pattern_and, pattern_macro_arg}
use Rattle.isle_ast.specs.Trees.PatternShape.{pattern_of}
use Rattle.isle_types.specs.IntTypes.{builtin_names}
use Rattle.isle_types.specs.Names.{position_of}
use Rattle.isle_types.specs.Environment.{Environment}
use Rattle.isle_containers.proofs.Lists.{slice_get-kept}
use Rattle.isle_types.proofs.NamePlaces.{place_known}
use Rattle.isle_types.proofs.Zipped.{mapped_at, zipped_at}
use Rattle.isle_rules.specs.Signatures.{by_rules, declared_form, Signature, Conversion, Declared}
use Rattle.isle_rules.specs.Definitions.{IsAmong, IsDeclaration, AreTerms, declarations, declared_names, rules_in, root_name, roots_of}
use Rattle.isle_rules.specs.Definitions.{flags_in, constructor_for, extractor_for, terms_of_types, names_of_terms}
use Rattle.isle_terms.specs.Inside.Collecting.Parts.{HasRootAmong}
use Rattle.isle_terms.specs.Inside.Collecting.RuleChecks.{HasSomeRoot}
use Rattle.isle_rules.proofs.AmongNames.{place_of_member}
use Rattle.isle_terms.proofs.Collections.DeclaredForms.{by_rules_form}

-- what occurs in a list occurs behind what may come first
occurs_behind : (root : Option (List ℕ)) (names : List (List ℕ)) (name : List ℕ) → IsAmong names name → IsAmong (cons_option root names) name
occurs_behind None names name among = among
occurs_behind (Some first) names name among = (suc among.0, among.1)

-- the root of a rule is among the roots of rules
root_listed : (rules : List RuleTree) (place : ℕ) (rule : RuleTree) (name : List ℕ) → slice_get rules place ≡ Some rule
    → root_name (pattern_of rule.pattern) ≡ Some name → IsAmong (roots_of rules) name
root_listed [] place rule name here is = absurd (none-some rule here)
root_listed (first ∷ rules) zero rule name here is =
    subst (λ root. IsAmong (cons_option root (roots_of rules)) name)
    (sym (ap (λ (r : RuleTree). root_name (pattern_of r.pattern)) (same_Some first rule here) ∙ is)) (zero, refl)
root_listed (first ∷ rules) (suc place) rule name here is =
    occurs_behind (root_name (pattern_of first.pattern)) (roots_of rules) name (root_listed rules place rule name here is)

-- a pattern with a root is that of a term
record IsTermPattern (pattern : PatternTree) (name : List ℕ) : Type 0 where
  pub term : Ident
  pub args : PatternTrees
  pub at : Pos
  pub shape : pattern ≡ pattern_term term args at
  pub named : term.0 ≡ name

-- what has a root is such a pattern
root_shape : (pattern : PatternTree) (name : List ℕ) → root_name pattern ≡ Some name → IsTermPattern pattern name
root_shape (pattern_var _ _) name is = absurd (none-some name is)
root_shape (pattern_bind _ _ _) name is = absurd (none-some name is)
root_shape (pattern_bool _ _) name is = absurd (none-some name is)
root_shape (pattern_int _ _ _) name is = absurd (none-some name is)
root_shape (pattern_prim _ _) name is = absurd (none-some name is)
root_shape (pattern_term term args at) name is = record { term = term; args = args; at = at; shape = refl; named = same_Some term.0 name is }
root_shape (pattern_wildcard _) name is = absurd (none-some name is)
root_shape (pattern_and _ _) name is = absurd (none-some name is)
root_shape (pattern_macro_arg _ _) name is = absurd (none-some name is)

-- with the terms that definitions make
module _ (types : Environment) (defs : List Def) (signatures : List Signature) (conversions : List Conversion) (expands : Bool)
    (made : AreTerms types defs signatures) where
  -- what rules are read under
  abbrev here : Declared
  here = record { types = types; terms = signatures; conversions = conversions; expands = expands }

  -- a rule whose root is a declared name has a root
  rooted : (rule : RuleTree) → IsAmong (rules_in defs) rule → HasRootAmong (declared_names defs) rule → HasSomeRoot here rule
  rooted rule among root =
      let name = root.0 in
      let shape = root_shape (pattern_of rule.pattern) name root.1 in
      let place = root.2.0 in
      let decl = mapped_at (λ (decl : DeclTree). decl.term.0) (declarations defs) place name root.2.1 in
      let term = zipped_at (IsDeclaration types defs) (declarations defs) made.declared made.each place decl.0 decl.1 in
      let there : slice_get signatures place ≡ Some term.0 = ap (λ terms. slice_get terms place) made.all
      ∙ slice_get-kept made.declared (terms_of_types (length builtin_names) types.types) place term.0 term.1 in
      let called : slice_get (names_of_terms signatures) place ≡ Some name =
      slice_get-map (λ (term : Signature). term.name) signatures place ∙ ap (option_map (λ (term : Signature). term.name)) there
      ∙ ap Some (term.2.name ∙ decl.2) in
      let listed = place_of_member (roots_of (rules_in defs)) name (root_listed (rules_in defs) among.0 rule name among.1 root.1) in
      let ruled : constructor_for defs decl.0.term.0 ≡ Some by_rules =
      ap (constructor_for defs) decl.2 ∙ by_rules_form defs name (ap is_some listed.1) in
      record {
        term = term.0;
        flags = flags_in decl.0;
        args = shape.args;
        root = record {
          sym = shape.term;
          at = shape.at;
          number = place;
          shape = shape.shape;
          root = ap (position_of (names_of_terms signatures)) shape.named
              ∙ place_known (names_of_terms signatures) name place made.distinct called;
          known = there;
          ruled = (
            extractor_for defs decl.0.term.0,
            term.2.form ∙ ap (λ c. declared_form (flags_in decl.0) c (extractor_for defs decl.0.term.0)) ruled,
          );
        };
      }

  -- where each rule's root is a declared name, each has a root
  pub all_rooted : All (HasRootAmong (declared_names defs)) (rules_in defs) → All (HasSomeRoot here) (rules_in defs)
  all_rooted roots = λ place rule low. rooted _ (place, slice_get-get_or (rules_in defs) place rule low) (roots place rule low)
