-- What a program's tables say of terms and rules is what its definitions say.
use Rattle.std.proofs.Common.{◌≡◌, ℕ, List, [], ◌∷◌, map, Option, None, Some, slice_get, unwrap_or, refl, sym, ap}
use Rattle.std.specs.List.{AllZip}
use Rattle.std.specs.Option.{option_map}
use Rattle.isle_types.specs.declared.ids.Sym.{Sym}
use Rattle.isle_types.specs.TypeTables.{TypeTables, name_at}
use Rattle.isle_rules.specs.declared.rules.BoundVar.{BoundVar}
use Rattle.isle_rules.specs.declared.rules.Rule.{Rule}
use Rattle.isle_rules.specs.Signatures.{Declared, flags_of}
use Rattle.isle_rules.specs.TypedRules.{Variable, TypedRule}
use Rattle.isle_rules.specs.Shown.TermTables.{TermTables}
use Rattle.isle_rules.specs.Shown.ShownTerms.{ShowsDeclared}
use Rattle.isle_rules.specs.Shown.RulesShown.{IsShownRule, IsShownVariable, IsShownName}
use Rattle.isle_meaning.specs.Facts.{facts_of, shape_of_form, never_fails, no_term}
use Rattle.isle_program.specs.Meanings.{term_facts, rule_shown}
use Rattle.isle_program.proofs.SoundPrograms.TypeTables.{variant_types_agree, struct_types_agree, constants_agree}

-- what variables show
variables_shown : (names : List (List ℕ)) (variables : List Variable) (made : List BoundVar)
    → AllZip (IsShownVariable names) variables made
    → map (λ (variable : BoundVar). record { name = name_at names variable.name; type = variable.ty.0 }) made ≡ variables
variables_shown names [] [] each = refl
variables_shown names [] (m ∷ made) each = absurd each
variables_shown names (v ∷ variables) [] each = absurd each
variables_shown names (v ∷ variables) (m ∷ made) each =
    let name = ap (λ (o : Option (List ℕ)). unwrap_or o []) each.0.name in
    let type = each.0.type in
    let first : record { name = name_at names m.name; type = m.ty.0 } ≡ v = (λ i. record { name = name i; type = type i }) in
    (λ i. first i ∷ variables_shown names variables made each.1 i)

-- what a rule's name shows
name_shown : (names : List (List ℕ)) (name : Option (List ℕ)) (made : Option Sym) → IsShownName names name made
    → option_map (name_at names) made ≡ name
name_shown names None None shown = refl
name_shown names None (Some sym) shown = absurd shown
name_shown names (Some name) None shown = absurd shown
name_shown names (Some name) (Some sym) shown = ap (λ (o : Option (List ℕ)). Some (unwrap_or o [])) shown

-- what a rule of the table shows is the typed rule
pub rule_agrees : (names : List (List ℕ)) (typed : TypedRule) (made : Rule) → IsShownRule names typed made → rule_shown names made ≡ typed
rule_agrees names typed made shown =
    let root = shown.root in
    let args = shown.args in
    let iflets = shown.iflets in
    let right = shown.right in
    let variables = variables_shown names typed.variables made.vars shown.variables in
    let priority = shown.priority in
    let place = shown.pos in
    let name = name_shown names typed.name made.name shown.name in
    (λ i. record {
      root = root i;
      args = args i;
      iflets = iflets i;
      right = right i;
      variables = variables i;
      priority = priority i;
      pos = place i;
      name = name i;
    })

-- so all rules
pub rules_agree : (names : List (List ℕ)) (typed : List TypedRule) (made : List Rule) → AllZip (IsShownRule names) typed made
    → map (rule_shown names) made ≡ typed
rules_agree names [] [] each = refl
rules_agree names [] (m ∷ made) each = absurd each
rules_agree names (t ∷ typed) [] each = absurd each
rules_agree names (t ∷ typed) (m ∷ made) each = (λ i. rule_agrees names t m each.0 i ∷ rules_agree names typed made each.1 i)

-- the facts of terms
pub terms_agree : (tyenv : TypeTables) (env : TermTables) (declared : Declared) → ShowsDeclared tyenv env declared
    → term_facts tyenv env ≡ facts_of declared
terms_agree tyenv env declared shows =
    (λ i. record {
      shape = λ t. shape_of_form (unwrap_or (slice_get (shows.terms i) t) no_term).form;
      pure = λ t. (flags_of (unwrap_or (slice_get (shows.terms i) t) no_term).form).pure;
      partial = λ t. (flags_of (unwrap_or (slice_get (shows.terms i) t) no_term).form).partial;
      multi = λ t. (flags_of (unwrap_or (slice_get (shows.terms i) t) no_term).form).multi;
      infallible = λ t. never_fails (unwrap_or (slice_get (shows.terms i) t) no_term).form;
      inputs = λ t. (unwrap_or (slice_get (shows.terms i) t) no_term).args;
      type_of = λ t. (unwrap_or (slice_get (shows.terms i) t) no_term).ret;
      variant_fields = λ ty k. variant_types_agree tyenv declared.types shows.types ty k i;
      struct_fields = λ ty. struct_types_agree tyenv declared.types shows.types ty i;
      constant_type = λ name. unwrap_or (constants_agree tyenv declared.types shows.types name i) 0;
    })
