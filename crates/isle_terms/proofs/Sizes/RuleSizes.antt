-- The rules that definitions make are within sizes, and their roots are terms with rules.
use Rattle.std.proofs.Common.{◌≡◌, ℕ, Bool, true, false, List, [], ◌∷◌, length, map, Option, Some, None, slice_get, refl, sym, ap, subst}
use Rattle.std.proofs.Common.{◌∙◌, arith}
use Rattle.std.specs.Prelude.{All}
use Rattle.std.specs.List.{AllZip}
use Rattle.std.proofs.lemmas.List.Elements.{All-nil, All-cons}
use Rattle.isle_ast.specs.declared.ast.Def.{Def}
use Rattle.isle_ast.specs.declared.ast.Rule.{Rule as RuleTree}
use Rattle.isle_types.specs.Environment.{Environment}
use Rattle.isle_types.specs.TypeTables.{TypeTables}
use Rattle.isle_rules.specs.declared.rules.Pattern.{Pattern}
use Rattle.isle_rules.specs.declared.rules.Rule.{Rule}
use Rattle.isle_rules.specs.declared.terms.ConstructorKind.TheVariants.{InternalConstructor, ExternalConstructor}
use Rattle.isle_rules.specs.declared.terms.TermKind.{TermKind}
use Rattle.isle_rules.specs.declared.terms.TermKind.TheVariants.{EnumVariant, Struct, Decl}
use Rattle.isle_rules.specs.Terms.{has_rules_kind}
use Rattle.isle_rules.specs.TypedRules.{TypedRule}
use Rattle.isle_rules.specs.Signatures.{Constructor, by_rules, external_constructor, TermForm, variant_form, struct_form}
use Rattle.isle_rules.specs.Signatures.{declared_form, Signature, Declared}
use Rattle.isle_rules.specs.Elaboration.{start, Elaborates, ElaboratesRule}
use Rattle.isle_rules.specs.Definitions.{rules_in, name_of, IsRuleOf, TermEnvironment, declared_by, MakesTerms}
use Rattle.isle_rules.specs.Shown.RulesShown.{ShowsTerms}
use Rattle.isle_rules.specs.Shown.ShownRules.{typed_list, typed_shown}
use Rattle.isle_rules.specs.Shown.ShownTerms.{form_shown, term_shown, ShowsDeclared}
use Rattle.isle_rules.specs.Shown.TermTables.{TermTables}
use Rattle.isle_rules.specs.Shown.RulesShown.{IsShownRule}
use Rattle.isle_terms.specs.Sizes.{IsWithinSizes, FitsItsTerm, HasFittingRules}
use Rattle.isle_rules.proofs.Visiting.ClosedTrees.{typed_count}
use Rattle.isle_rules.proofs.Visiting.ClosedReadings.{each_count, patterns_close}
use Rattle.isle_rules.proofs.Visiting.SoundVisits.{term_shows, arguments_shown}
use Rattle.isle_terms.proofs.Sizes.TypedSizes.{rule_small}

-- a typed rule is within sizes whatever its name
pub renamed_small : (levels max : ℕ) (rule : TypedRule) (name : Option (List ℕ)) → IsWithinSizes levels max rule
    → IsWithinSizes levels max (record rule { name = name })
renamed_small levels max rule name small = record { args = small.args; iflets = small.iflets; right = small.right; nodes = small.nodes }

-- the rule that a tree makes among definitions
pub made_small : (declared : Declared) (defs : List Def) (levels max : ℕ) (tree : RuleTree) (rule : TypedRule)
    → IsRuleOf declared defs levels max tree rule → IsWithinSizes levels max rule
made_small declared defs levels max tree rule made =
    subst (IsWithinSizes levels max) (sym made.same)
    (renamed_small levels max made.written (name_of defs tree) (rule_small declared levels max tree made.written made.typed))

each_made_small : (declared : Declared) (defs : List Def) (levels max : ℕ) (trees : List RuleTree) (rules : List TypedRule)
    → AllZip (IsRuleOf declared defs levels max) trees rules → All (IsWithinSizes levels max) rules
each_made_small declared defs levels max [] [] made = All-nil (IsWithinSizes levels max)
each_made_small declared defs levels max [] (rule ∷ rules) made = absurd made
each_made_small declared defs levels max (tree ∷ trees) [] made = absurd made
each_made_small declared defs levels max (tree ∷ trees) (rule ∷ rules) made =
    All-cons (IsWithinSizes levels max) rule rules (made_small declared defs levels max tree rule made.0)
    (each_made_small declared defs levels max trees rules made.1)

-- the rules that definitions make
pub rules_small : (types : Environment) (expands : Bool) (levels max : ℕ) (defs : List Def) (environment : TermEnvironment)
    → MakesTerms types expands levels max defs environment → All (IsWithinSizes levels max) environment.rules
rules_small types expands levels max defs environment makes =
    each_made_small (declared_by types expands environment) defs levels max (rules_in defs) environment.rules makes.rules

-- whether a constructor is by rules
abbrev by_its_rules : Option Constructor → Bool
by_its_rules None = false
by_its_rules (Some by_rules) = true
by_its_rules (Some (external_constructor function)) = false

-- whether a term of this form has rules
abbrev has_rules_form : TermForm → Bool
has_rules_form (variant_form variant) = false
has_rules_form struct_form = false
has_rules_form (declared_form flags constructor extractor) = by_its_rules constructor

-- a term has rules where what it shows has
rules_shown : (names : List (List ℕ)) (kind : TermKind) → has_rules_kind kind ≡ has_rules_form (form_shown names kind)
rules_shown names (EnumVariant variant) = refl
rules_shown names Struct = refl
rules_shown names (Decl flags None extractor) = refl
rules_shown names (Decl flags (Some InternalConstructor) extractor) = refl
rules_shown names (Decl flags (Some (ExternalConstructor name)) extractor) = refl

-- as many patterns show as there are
count_shown : (names : List (List ℕ)) (patterns : List Pattern) → typed_count (typed_list (map (typed_shown names) patterns)) ≡ length patterns
count_shown names [] = refl
count_shown names (first ∷ others) = let rest = count_shown names others in omega arith

-- a rule that shows what a tree stands for fits its term, whatever its name
pub rule_fits : (tyenv : TypeTables) (env : TermTables) (declared : Declared) (levels max : ℕ) (tree : RuleTree) (typed : TypedRule)
    (name : Option (List ℕ)) (rule : Rule) → ShowsDeclared tyenv env declared → ElaboratesRule declared levels max tree typed
    → IsShownRule tyenv.names (record typed { name = name }) rule → FitsItsTerm env rule
rule_fits tyenv env declared levels max tree typed name rule shows h shown =
    let names = tyenv.names in
    let known : slice_get (map (term_shown names) env.terms) rule.root_term.0 ≡ Some h.term = rw (shown.root, shows.terms) h.known in
    let term = term_shows names env.terms rule.root_term.0 h.term known in
    let form : form_shown names term.0.kind ≡ h.term.form = ap (λ (z : Signature). z.form) term.2 in
    let parts = each_count declared (Elaborates declared levels) (patterns_close declared levels) h.args h.term.args start typed.args h.matched
    h.left in
    record {
      term = term.0;
      root = term.1;
      ruled = rules_shown names term.0.kind ∙ ap has_rules_form (form ∙ h.ruled.1);
      arity = sym (count_shown names rule.args) ∙ ap typed_count shown.args ∙ parts ∙ sym (arguments_shown names term.0 h.term term.2);
    }

each_rule_fits : (tyenv : TypeTables) (env : TermTables) (declared : Declared) (levels max : ℕ) (defs : List Def) (trees : List RuleTree)
    (made : List TypedRule) (rules : List Rule) → ShowsDeclared tyenv env declared → AllZip (IsRuleOf declared defs levels max) trees made
    → AllZip (IsShownRule tyenv.names) made rules → All (FitsItsTerm env) rules
each_rule_fits tyenv env declared levels max defs [] [] [] shows made shown = All-nil (FitsItsTerm env)
each_rule_fits tyenv env declared levels max defs [] [] (rule ∷ rules) shows made shown = absurd shown
each_rule_fits tyenv env declared levels max defs [] (typed ∷ others) rules shows made shown = absurd made
each_rule_fits tyenv env declared levels max defs (tree ∷ trees) [] rules shows made shown = absurd made
each_rule_fits tyenv env declared levels max defs (tree ∷ trees) (typed ∷ others) [] shows made shown = absurd shown
each_rule_fits tyenv env declared levels max defs (tree ∷ trees) (typed ∷ others) (rule ∷ rules) shows made shown =
    let renamed = subst (λ z. IsShownRule tyenv.names z rule) made.0.same shown.0 in
    All-cons (FitsItsTerm env) rule rules
    (rule_fits tyenv env declared levels max tree made.0.written (name_of defs tree) rule shows made.0.typed renamed)
    (each_rule_fits tyenv env declared levels max defs trees others rules shows made.1 shown.1)

-- every rule of an environment that shows what definitions make stands at the place of its number, and fits its term
pub rules_fit : (tyenv : TypeTables) (env : TermTables) (types : Environment) (levels max : ℕ) (defs : List Def)
    → ShowsTerms tyenv env types levels max defs → HasFittingRules env
rules_fit tyenv env types levels max defs shows = record {
  numbered = shows.numbers;
  fitting = each_rule_fits tyenv env (declared_by types env.expands shows.environment) levels max defs (rules_in defs) shows.environment.rules
      env.rules shows.declared shows.makes.rules shows.rules;
}
