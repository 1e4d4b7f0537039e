-- The order of a program's rules means nothing.
use Rattle.std.proofs.Common.{◌≡◌, ℕ, zero, suc, List, [], ◌∷◌, ◌++◌, map, Bool, true, false, Option, None, Some, slice_get, refl, sym, ◌∙◌, ap, subst, subst₂}
use Rattle.std.specs.Prelude.{if◌then◌else◌, ◌==◌, ◌||◌}
use Rattle.std.specs.List.{All, AllZip, filter_map, cons_option, list_any}
use Rattle.std.specs.Option.{option_map}
use Rattle.std.proofs.lemmas.Bool.{false≢true}
use Rattle.std.proofs.lemmas.Option.{none-some, same_Some}
use Rattle.isle_ast.specs.declared.ast.Ident.{Ident}
use Rattle.isle_ast.specs.declared.ast.Decl.{Decl as DeclTree}
use Rattle.isle_ast.specs.declared.ast.Rule.{Rule as RuleTree}
use Rattle.isle_ast.specs.declared.ast.Converter.{Converter as ConverterTree}
use Rattle.isle_ast.specs.declared.ast.Def.{Def}
use Rattle.isle_ast.specs.declared.ast.Def.TheVariants.{TypeDef, Decl, Rule, Extractor, Extern, Converter, Pragma, Kept}
use Rattle.isle_ast.specs.declared.ast.«Type».{«Type» as TypeTree}
use Rattle.isle_ast.specs.Trees.PatternShape.{pattern_of}
use Rattle.isle_types.specs.IntTypes.{builtin_names}
use Rattle.isle_types.specs.Names.{AreDistinct}
use Rattle.isle_types.specs.Environment.{Environment, Makes, as_type, type_definitions, as_constant, constant_definitions, IsType, IsConstant}
use Rattle.isle_types.specs.Environment.{type_names}
use Rattle.isle_types.proofs.Zipped.{zipped_at}
use Rattle.isle_rules.specs.TypedRules.{TypedRule}
use Rattle.isle_rules.specs.Signatures.{by_rules, external_constructor, declared_form, Signature, Declared}
use Rattle.isle_rules.specs.Definitions.{IsAmong, as_declaration, as_extractor, as_external, as_converter, declarations, rules_in}
use Rattle.isle_rules.specs.Definitions.{converters_in, as_external_constructor, as_external_extractor}
use Rattle.isle_rules.specs.Definitions.{root_name, roots_of, is_among, function_for, constructor_for, template_for, external_extractor_for, first_of}
use Rattle.isle_rules.specs.Definitions.{extractor_for, flags_in, IsDeclaration, AreTerms, IsConversion, IsRuleOf, TermEnvironment, declared_by}
use Rattle.isle_rules.specs.Definitions.{MakesTerms}
use Rattle.isle_rules.specs.Elaboration.{ElaboratesRule}
use Rattle.isle_rules.proofs.AmongNames.{member_is_among, among_is_member}
use Rattle.isle_rules.proofs.Zipped.{zipped_back}
use Rattle.isle_rules.proofs.OneTermEnvironment.{zipped_one, one_list_of_terms, one_conversion}
use Rattle.isle_rules.proofs.RuleLaws.{one_rule}
use Rattle.isle_meaning.specs.Laws.Order.{OrderMeansNothing, others_in, AreReordered}
use Rattle.isle_meaning.proofs.Spelling.Meanings.{AreLike, nameless, like_means}

-- The order of rules means nothing.
pub order_means_nothing : OrderMeansNothing
order_means_nothing p rules there back =
    like_means p (record { terms = p.terms; values = p.values; has_rules = p.has_rules; rules = rules }) refl refl refl
    (λ i rule at. let (j, here) = there i rule at in (j, rule, here, refl)) (λ i rule at. let (j, here) = back i rule at in (j, rule, here, refl))

-- what isn't a rule is among the other definitions
through : {Y : Type 0} (f : Def → Option Y) → ((rule : RuleTree) → f (Rule rule) ≡ None) → (defs : List Def)
    → filter_map f (others_in defs) ≡ filter_map f defs
through f none [] = refl
through f none (TypeDef type ∷ defs) = ap (cons_option (f (TypeDef type))) (through f none defs)
through f none (Decl decl ∷ defs) = ap (cons_option (f (Decl decl))) (through f none defs)
through f none (Rule rule ∷ defs) =
    through f none defs ∙ ap (λ (o : Option _). cons_option o (filter_map f defs)) (sym (none rule))
through f none (Extractor extractor ∷ defs) = ap (cons_option (f (Extractor extractor))) (through f none defs)
through f none (Extern external ∷ defs) = ap (cons_option (f (Extern external))) (through f none defs)
through f none (Converter converter ∷ defs) = ap (cons_option (f (Converter converter))) (through f none defs)
through f none (Pragma pragma ∷ defs) = ap (cons_option (f (Pragma pragma))) (through f none defs)
through f none (Kept kept ∷ defs) = ap (cons_option (f (Kept kept))) (through f none defs)

-- what a picked item comes from, and what comes of an item
picked_from : {X Y : Type 0} (f : X → Option Y) (xs : List X) (i : ℕ) (y : Y) → slice_get (filter_map f xs) i ≡ Some y
    → (j : ℕ) × (x : X) × (slice_get xs j ≡ Some x) × (f x ≡ Some y)
picked_from f [] i y at = absurd (none-some y at)
picked_from {X} {Y} f (x ∷ xs) i y at = by (λ k there. picked_from f xs k y there) (f x) refl i at
  where
    by : ((k : ℕ) → slice_get (filter_map f xs) k ≡ Some y → (j : ℕ) × (own : X) × (slice_get xs j ≡ Some own) × (f own ≡ Some y))
        → (o : Option Y) → f x ≡ o → (k : ℕ) → slice_get (cons_option o (filter_map f xs)) k ≡ Some y
        → (j : ℕ) × (own : X) × (slice_get (x ∷ xs) j ≡ Some own) × (f own ≡ Some y)
    by rest None is k at = let (j, own, there, gives) = rest k at in (suc j, own, there, gives)
    by rest (Some z) is zero at = (0, x, refl, is ∙ at)
    by rest (Some z) is (suc k) at = let (j, own, there, gives) = rest k at in (suc j, own, there, gives)

picked_to : {X Y : Type 0} (f : X → Option Y) (xs : List X) (j : ℕ) (x : X) (y : Y) → slice_get xs j ≡ Some x → f x ≡ Some y
    → (i : ℕ) × (slice_get (filter_map f xs) i ≡ Some y)
picked_to f [] j x y at is = absurd (none-some x at)
picked_to f (z ∷ xs) zero x y at is =
    (0, ap (λ (o : Option _). slice_get (cons_option o (filter_map f xs)) 0) (ap f (same_Some z x at) ∙ is))
picked_to {X} {Y} f (z ∷ xs) (suc j) x y at is = by (picked_to f xs j x y at is) (f z)
  where
    by : ((i : ℕ) × (slice_get (filter_map f xs) i ≡ Some y)) → (o : Option Y) → (i : ℕ) × (slice_get (cons_option o (filter_map f xs)) i ≡ Some y)
    by there None = there
    by there (Some w) = (suc (there.0), there.1)

pub both_ways : (a b : Bool) → (a ≡ true → b ≡ true) → (b ≡ true → a ≡ true) → a ≡ b
both_ways true b there back = sym (there refl)
both_ways false true there back = back refl
both_ways false false there back = refl

-- pairs of which more is known
zip_weaker : {A B : Type 0} (R S : A → B → Type 0) → ((a : A) (b : B) → R a b → S a b) → (as' : List A) (bs : List B) → AllZip R as' bs
    → AllZip S as' bs
zip_weaker R S step [] [] each = tt
zip_weaker R S step [] (b ∷ bs) each = absurd each
zip_weaker R S step (a ∷ as') [] each = absurd each
zip_weaker R S step (a ∷ as') (b ∷ bs) each = (step a b each.0, zip_weaker R S step as' bs each.1)

-- some item passes a test
pub any_at : {X : Type 0} (test : X → Bool) (xs : List X) → list_any test xs ≡ true → (i : ℕ) × (x : X) × (slice_get xs i ≡ Some x) × (test x ≡ true)
any_at test [] is = absurd (false≢true is)
any_at {X} test (x ∷ xs) is = by (any_at test xs) (test x) refl is
  where
    by : (list_any test xs ≡ true → (i : ℕ) × (own : X) × (slice_get xs i ≡ Some own) × (test own ≡ true)) → (b : Bool) → test x ≡ b
        → (b || list_any test xs) ≡ true → (i : ℕ) × (own : X) × (slice_get (x ∷ xs) i ≡ Some own) × (test own ≡ true)
    by rest true passes is = (0, x, refl, passes)
    by rest false fails is = let (i, own, at, passes) = rest is in (suc i, own, at, passes)

pub at_any : {X : Type 0} (test : X → Bool) (xs : List X) (i : ℕ) (x : X) → slice_get xs i ≡ Some x → test x ≡ true → list_any test xs ≡ true
at_any test [] i x at is = absurd (none-some x at)
at_any test (y ∷ xs) zero x at is = ap (λ (b : Bool). b || list_any test xs) (ap test (same_Some y x at) ∙ is)
at_any test (y ∷ xs) (suc i) x at is = either (test y) (at_any test xs i x at is)
  where
    either : (a : Bool) {b : Bool} → b ≡ true → (a || b) ≡ true
    either true e = refl
    either false e = e

-- rules that are others' have their roots
pub roots_like : (rules others : List TypedRule) → AreLike rules others → (t : ℕ) → list_any (λ (rule : TypedRule). rule.root == t) rules ≡ true
    → list_any (λ (rule : TypedRule). rule.root == t) others ≡ true
roots_like rules others likes t is =
    let (i, rule, at, root) = any_at (λ (rule : TypedRule). rule.root == t) rules is in
    let (j, own, there, same) = likes i rule at in
    at_any (λ (rule : TypedRule). rule.root == t) others j own there (ap (λ (r : TypedRule). r.root == t) (sym same) ∙ root)

module _ (defs those : List Def) (moved : AreReordered defs those) where
  -- each kind of definitions but rules
  kind_same : {Y : Type 0} (f : Def → Option Y) → ((rule : RuleTree) → f (Rule rule) ≡ None) → filter_map f defs ≡ filter_map f those
  kind_same f none = sym (through f none defs) ∙ ap (filter_map f) moved.others ∙ through f none those

  declarations_same : declarations defs ≡ declarations those
  declarations_same = kind_same as_declaration (λ rule. refl)

  -- the roots of rules
  roots_same : (name : List ℕ) → is_among name (roots_of (rules_in defs)) ≡ is_among name (roots_of (rules_in those))
  roots_same name =
      both_ways _ _
      (λ is. member_is_among (roots_of (rules_in those)) name (root_moved defs those moved.there
      (among_is_member (roots_of (rules_in defs)) name is)))
      (λ is. member_is_among (roots_of (rules_in defs)) name (root_moved those defs moved.back
      (among_is_member (roots_of (rules_in those)) name is)))
    where
      root_moved : (one other : List Def) → ((rule : RuleTree) → IsAmong (rules_in one) rule → IsAmong (rules_in other) rule)
          → IsAmong (roots_of (rules_in one)) name → IsAmong (roots_of (rules_in other)) name
      root_moved one other there among =
          let (j, rule, at, is) = picked_from (λ (rule : RuleTree). root_name (pattern_of rule.pattern)) (rules_in one) (among.0) name (among.1) in
          let (k, here) = there rule (j, at) in
          picked_to (λ (rule : RuleTree). root_name (pattern_of rule.pattern)) (rules_in other) k rule name here is

  constructor_same : (name : List ℕ) → constructor_for defs name ≡ constructor_for those name
  constructor_same name =
      let roots = roots_same name in
      let externals = ap (filter_map as_external_constructor) (kind_same as_external (λ rule. refl)) in
      (λ i. if roots i then Some by_rules else option_map external_constructor (function_for (externals i) name))

  extractor_same : (name : List ℕ) → extractor_for defs name ≡ extractor_for those name
  extractor_same name =
      let internals = kind_same as_extractor (λ rule. refl) in
      let externals = ap (filter_map as_external_extractor) (kind_same as_external (λ rule. refl)) in
      (λ i. first_of (template_for (internals i) name) (external_extractor_for (externals i) name))

  -- types and constants
  pub types_same : (types : Environment) → Makes defs types → Makes those types
  types_same types h =
      let trees : type_definitions defs ≡ type_definitions those = kind_same as_type (λ rule. refl) in
      let constants : constant_definitions defs ≡ constant_definitions those = kind_same as_constant (λ rule. refl) in
      let names : type_names defs ≡ type_names those = ap (λ (l : List TypeTree). builtin_names ++ map (λ (type : TypeTree). type.name.0) l) trees in
      record {
        names = subst AreDistinct names h.names;
        types = subst₂ (λ (known : List (List ℕ)) (l : List TypeTree). AllZip (IsType known) l types.types) names trees h.types;
        constants = subst₂ (λ (known : List (List ℕ)) (l : List (Ident × Ident)). AllZip (IsConstant known) l types.constants) names constants
            h.constants;
      }

  module _ (types : Environment) where
    declaration_same : (decl : DeclTree) (term : Signature) → IsDeclaration types those decl term → IsDeclaration types defs decl term
    declaration_same decl term h =
        let constructor = sym (constructor_same decl.term.0) in
        let extractor = sym (extractor_same decl.term.0) in
        record {
          name = h.name;
          args = h.args;
          ret = h.ret;
          form = h.form ∙ (λ i. declared_form (flags_in decl) (constructor i) (extractor i));
          pos = h.pos;
        }

    terms_same : (terms : List Signature) → AreTerms types those terms → AreTerms types defs terms
    terms_same terms h = record {
      declared = h.declared;
      each = zip_weaker (IsDeclaration types those) (IsDeclaration types defs) declaration_same (declarations defs) h.declared
          (subst (λ (l : List DeclTree). AllZip (IsDeclaration types those) l h.declared) (sym declarations_same) h.each);
      all = h.all;
      distinct = h.distinct;
      one_answer = subst (All (λ (decl : DeclTree). decl.multi ≡ true → decl.partial ≡ false)) (sym declarations_same) h.one_answer;
    }

    module _ (levels max : ℕ) (one other : TermEnvironment) (is : MakesTerms types true levels max defs one)
        (also : MakesTerms types true levels max those other) where
      pub made_terms : one.terms ≡ other.terms
      made_terms = one_list_of_terms types defs one.terms other.terms is.terms (terms_same other.terms also.terms)

      made_conversions : one.conversions ≡ other.conversions
      made_conversions =
          let trees : converters_in defs ≡ converters_in those = kind_same as_converter (λ rule. refl) in
          zipped_one (IsConversion types one.terms) (IsConversion types one.terms) (one_conversion types one.terms) (converters_in defs)
          one.conversions other.conversions is.conversions.each
          (subst₂ (λ (terms : List Signature) (l : List ConverterTree). AllZip (IsConversion types terms) l other.conversions) (sym made_terms)
          (sym trees) also.conversions.each)

      pub made_declared : declared_by types true one ≡ declared_by types true other
      made_declared =
          let terms = made_terms in
          let conversions = made_conversions in
          (λ i. record { types = types; terms = terms i; conversions = conversions i; expands = true })

      -- a rule that stands for the same tree
      same_rule : (tree : RuleTree) (rule own : TypedRule) → IsRuleOf (declared_by types true one) defs levels max tree rule
          → IsRuleOf (declared_by types true other) those levels max tree own → nameless rule ≡ nameless own
      same_rule tree rule own h k =
          let written = one_rule (declared_by types true other) levels levels max max tree h.written k.written
          (subst (λ (d : Declared). ElaboratesRule d levels max tree h.written) made_declared h.typed) k.typed in
          ap nameless h.same ∙ ap nameless written ∙ sym (ap nameless k.same)

      pub rules_there : AreLike one.rules other.rules
      rules_there i rule at =
          let (tree, stands, h) = zipped_back (IsRuleOf (declared_by types true one) defs levels max) (rules_in defs) one.rules is.rules i rule at in
          let (j, here) = moved.there tree (i, stands) in
          let (own, there, k) = zipped_at (IsRuleOf (declared_by types true other) those levels max) (rules_in those) other.rules also.rules j tree
          here in
          (j, own, there, same_rule tree rule own h k)

      pub rules_back : AreLike other.rules one.rules
      rules_back i rule at =
          let (tree, stands, k) = zipped_back (IsRuleOf (declared_by types true other) those levels max) (rules_in those) other.rules also.rules i
          rule at in
          let (j, here) = moved.back tree (i, stands) in
          let (own, there, h) = zipped_at (IsRuleOf (declared_by types true one) defs levels max) (rules_in defs) one.rules is.rules j tree here in
          (j, own, there, sym (same_rule tree own rule h k))
