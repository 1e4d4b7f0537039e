-- Definitions that break a rule of roots or external constructors make no environment.
use Rattle.std.proofs.Common.{◌≡◌, ◌⊎◌, ℕ, zero, suc, inl, inr, Bool, List, [], ◌∷◌, ◌++◌, map, Option, None, Some, refl, ap, sym}
use Rattle.std.proofs.Common.{subst, ◌∙◌}
use Rattle.std.proofs.Common.{length, slice_get}
use Rattle.std.specs.List.{AllZip, filter_map, cons_option}
use Rattle.std.specs.Option.{option_map}
use Rattle.std.proofs.lemmas.Option.{none-some, same_Some}
use Rattle.isle_ast.specs.declared.ast.Ident.{Ident}
use Rattle.isle_ast.specs.declared.ast.Decl.{Decl as DeclTree}
use Rattle.isle_ast.specs.declared.ast.Rule.{Rule as RuleTree}
use Rattle.isle_ast.specs.declared.ast.Def.{Def}
use Rattle.isle_ast.specs.declared.pos.Pos.{Pos}
use Rattle.isle_ast.specs.Trees.PatternShape.{pattern_of}
use Rattle.isle_types.specs.IntTypes.{builtin_names}
use Rattle.isle_types.specs.Names.{IsDuplicate}
use Rattle.isle_types.specs.Environment.{Environment, NamedType, NamedVariant, TypeShape, primitive, enum, struct}
use Rattle.isle_types.proofs.NamePlaces.{place_found}
use Rattle.isle_types.proofs.Zipped.{zipped_at, all_at, no_duplicate, mapped_at}
use Rattle.isle_rules.specs.TypedRules.{TypedRule}
use Rattle.isle_rules.specs.Signatures.{Flags, Constructor, ExtractorForm, variant_form, struct_form, declared_form, TermForm, Signature}
use Rattle.isle_rules.specs.Elaboration.{ElaboratesRule}
use Rattle.isle_rules.specs.Definitions.{IsAmong, declarations, rules_in, external_constructors, external_constructor_names, root_name}
use Rattle.isle_rules.specs.Definitions.{IsDeclaration}
use Rattle.isle_rules.specs.Definitions.{variant_terms, terms_of_shape, terms_of_types, AreTerms, names_of_terms, IsDeclared}
use Rattle.isle_rules.specs.Definitions.{IsRuleOf}
use Rattle.isle_rules.specs.Definitions.{TermEnvironment, declared_by, MakesTerms}
use Rattle.isle_terms.specs.TermFaults.{names_of, ConstructorBreaks, root_is_no_term, root_is_not_declared}
use Rattle.isle_terms.specs.TermFaults.{root_is_external}
use Rattle.isle_terms.specs.TermFaults.{external_is_not_declared, external_has_rules, second_external}

-- an item of two lists is one of the first, or of the second
parted : {A : Type 0} (xs ys : List A) (place : ℕ) (z : A) → slice_get (xs ++ ys) place ≡ Some z → (IsAmong xs z) ⊎ (IsAmong ys z)
parted [] ys place z is = inr (place, is)
parted (x ∷ xs) ys zero z is = inl (zero, is)
parted (x ∷ xs) ys (suc place) z is = elim (parted xs ys place z is) [ inl k ↦ inl (suc k.0, k.1) | inr k ↦ inr k ]

-- the term of a variant or a struct is not declared
abbrev IsNotDeclared : TermForm → Type 0
IsNotDeclared (variant_form _) = Unit {0}
IsNotDeclared struct_form = Unit {0}
IsNotDeclared (declared_form _ _ _) = ⊥

variants_undeclared : (ty : ℕ) (type : List ℕ) (number : ℕ) (variants : List NamedVariant) (place : ℕ) (term : Signature)
    → slice_get (variant_terms ty type number variants) place ≡ Some term → IsNotDeclared term.form
variants_undeclared ty type number [] place term is = absurd (none-some term is)
variants_undeclared ty type number (first ∷ others) zero term is = subst (λ (z : Signature). IsNotDeclared z.form) (same_Some _ _ is) tt
variants_undeclared ty type number (first ∷ others) (suc place) term is = variants_undeclared ty type (suc number) others place term is

shape_undeclared : (ty : ℕ) (type : NamedType) (shape : TypeShape) (place : ℕ) (term : Signature)
    → slice_get (terms_of_shape ty type shape) place ≡ Some term → IsNotDeclared term.form
shape_undeclared ty type (primitive host) place term is = absurd (none-some term is)
shape_undeclared ty type (enum variants) place term is = variants_undeclared ty type.name 0 variants place term is
shape_undeclared ty type (struct _) zero term is = subst (λ (z : Signature). IsNotDeclared z.form) (same_Some _ _ is) tt
shape_undeclared ty type (struct _) (suc place) term is = absurd (none-some term is)

types_undeclared : (ty : ℕ) (types : List NamedType) (place : ℕ) (term : Signature) → slice_get (terms_of_types ty types) place ≡ Some term
    → IsNotDeclared term.form
types_undeclared ty [] place term is = absurd (none-some term is)
types_undeclared ty (first ∷ others) place term is = elim
    (parted (terms_of_shape ty first first.shape) (terms_of_types (suc ty) others) place term is) [
      | inl k ↦ shape_undeclared ty first first.shape k.0 term k.1
      | inr k ↦ types_undeclared (suc ty) others k.0 term k.1
    ]

unzipped_at : {A B : Type 0} (R : A → B → Type 0) (xs : List A) (ys : List B) → AllZip R xs ys → (place : ℕ) (y : B) → slice_get ys place ≡ Some y
    → (x : A) × (slice_get xs place ≡ Some x) × R x y
unzipped_at R [] [] each place y is = absurd (none-some y is)
unzipped_at R [] (z ∷ ys) each place y is = absurd each
unzipped_at R (x ∷ xs) [] each place y is = absurd each
unzipped_at R (x ∷ xs) (z ∷ ys) each zero y is = (x, refl, subst (R x) (same_Some _ _ is) each.0)
unzipped_at R (x ∷ xs) (z ∷ ys) each (suc place) y is = unzipped_at R xs ys each.1 place y is

-- a term with flags is a declaration's
form_is_declared : (form : TermForm) (flags : Flags) (constructor : Option Constructor) (extractor : Option ExtractorForm)
    → form ≡ declared_form flags constructor extractor
    → IsNotDeclared form → ⊥
form_is_declared form flags constructor extractor is none = subst IsNotDeclared is none

declared_has_declaration : (types : Environment) (defs : List Def) (terms : List Signature) → AreTerms types defs terms
    → (place : ℕ) (term : Signature)
    → slice_get terms place ≡ Some term → (IsNotDeclared term.form → ⊥) → (decl : DeclTree) × IsAmong (declarations defs) decl
    × (decl.term.0 ≡ term.name)
declared_has_declaration types defs terms is place term at declared =
    elim (parted is.declared (terms_of_types (length builtin_names) types.types) place term (ap (λ z. slice_get z place) (sym is.all) ∙ at)) [
      | inl k ↦ (let tree = unzipped_at (IsDeclaration types defs) (declarations defs) is.declared is.each k.0 term k.1 in
          (tree.0, (k.0, tree.1), sym tree.2.name))
      | inr k ↦ absurd (declared (types_undeclared (length builtin_names) types.types k.0 term k.1))
    ]

behind : {B : Type 0} (o : Option B) (ys : List B) (y : B) → IsAmong ys y → IsAmong (cons_option o ys) y
behind None ys y h = h
behind (Some first) ys y h = (suc h.0, h.1)

-- what a function gives of an item is among what it gives of all
given_among : {A B : Type 0} (f : A → Option B) (xs : List A) (place : ℕ) (x : A) (y : B) → slice_get xs place ≡ Some x → f x ≡ Some y
    → IsAmong (filter_map f xs) y
given_among f [] place x y at is = absurd (none-some x at)
given_among f (first ∷ xs) zero x y at is =
    subst (λ z. IsAmong (cons_option z (filter_map f xs)) y) (sym (ap f (same_Some _ _ at) ∙ is)) (zero, refl)
given_among f (first ∷ xs) (suc place) x y at is = behind (f first) (filter_map f xs) y (given_among f xs place x y at is)

-- the root of a rule that stands for something is a declared term's
module _ (types : Environment) (expands : Bool) (levels max : ℕ) (defs : List Def) (environment : TermEnvironment)
    (is : MakesTerms types expands levels max defs environment) where
  pub rule_at : (rule : RuleTree) → IsAmong (rules_in defs) rule → (typed : TypedRule)
      × IsRuleOf (declared_by types expands environment) defs levels max rule typed
  rule_at rule among = let found = zipped_at _ (rules_in defs) environment.rules is.rules among.0 rule among.1 in (found.0, found.2)

  root_of : (rule : RuleTree) (name : List ℕ) → IsAmong (rules_in defs) rule → root_name (pattern_of rule.pattern) ≡ Some name
      → (decl : DeclTree) × IsAmong (declarations defs) decl × (decl.term.0 ≡ name)
  root_of rule name among named =
      let made : ElaboratesRule _ levels max rule _ = (rule_at rule among).1.typed in
      let symbol : made.sym.0 ≡ name = same_Some _ _ (ap root_name (sym made.shape.1) ∙ named) in
      let declared = declared_has_declaration types defs environment.terms is.terms _ made.term made.known
      (form_is_declared made.term.form made.flags _ made.ruled.0 made.ruled.1) in
      let called : slice_get (names_of_terms environment.terms) _ ≡ Some made.sym.0 = place_found _ made.sym.0 _ made.root in
      let at = mapped_at (λ (term : Signature). term.name) environment.terms _ made.sym.0 called in
      let same : at.0 ≡ made.term = same_Some _ _ (sym at.1 ∙ made.known) in
      (declared.0, declared.1, declared.2 ∙ ap (λ (z : Signature). z.name) (sym same) ∙ at.2 ∙ symbol)

  pairs_are_names : (xs : List (Ident × Ident))
      → names_of (map (λ (external : Ident × Ident). (external.0.0, external.0.1)) xs) ≡ map (λ (external : Ident × Ident). external.0.0) xs
  pairs_are_names [] = refl
  pairs_are_names (x ∷ xs) = ap (λ z. x.0.0 ∷ z) (pairs_are_names xs)

  external_named : (xs : List (Ident × Ident)) (place : ℕ) (x : Ident × Ident) → slice_get xs place ≡ Some x
      → slice_get (map (λ (external : Ident × Ident). external.0.0) xs) place ≡ Some x.0.0
  external_named [] place x h = absurd (none-some x h)
  external_named (y ∷ ys) zero x h = ap (λ (z : Option (Ident × Ident)). option_map (λ (external : Ident × Ident). external.0.0) z) h
  external_named (y ∷ ys) (suc place) x h = external_named ys place x h

  -- roots and external constructors of definitions that make an environment break no rule
  pub constructors_keep : (at : Pos) → ConstructorBreaks defs at → ⊥
  constructors_keep _ (root_is_no_term rule among none) =
      let made : ElaboratesRule _ levels max rule _ = (rule_at rule among).1.typed in
      none-some made.sym.0 (sym none ∙ ap root_name made.shape.1)
  constructors_keep _ (root_is_not_declared rule name among named undeclared) =
      let found = root_of rule name among named in undeclared found.0 found.1 found.2
  constructors_keep _ (root_is_external rule name among named external) =
      is.constructors.unruled name external
      (given_among (λ (tree : RuleTree). root_name (pattern_of tree.pattern)) (rules_in defs) among.0 rule name among.1 named)
  constructors_keep _ (external_is_not_declared external among undeclared) =
      let found : IsDeclared defs external.0 (λ _. Unit {0}) =
      all_at (λ (x : Ident × Ident). IsDeclared defs x.0 (λ _. Unit {0}))
      (external_constructors defs) is.constructors.declared among.0 external among.1 in
      undeclared found.0 found.1 found.2
  constructors_keep _ (external_has_rules external among ruled) =
      is.constructors.unruled external.0.0 (among.0, external_named (external_constructors defs) among.0 external among.1) ruled
  constructors_keep at (second_external _ taken) =
      no_duplicate (external_constructor_names defs) is.constructors.once taken.place
      (subst (λ z. IsDuplicate z taken.place) (pairs_are_names (external_constructors defs)) taken.taken)
