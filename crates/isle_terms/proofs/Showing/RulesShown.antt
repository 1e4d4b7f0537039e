-- What typed rules show stays as it is under more names, and how it comes about.
use Rattle.std.proofs.Common.{◌≡◌, ℕ, ◌≤◌, List, [], ◌∷◌, ◌++◌, length, map, Option, Some, None, pos, arith, ap, sym, subst, ◌∙◌}
use Rattle.std.specs.List.{AllZip}
use Rattle.std.specs.Prelude.{unwrap_or}
use Rattle.std.specs.Option.{option_map}
use Rattle.std.proofs.lemmas.List.{map-append}
use Rattle.std.proofs.lemmas.Slice.Zip.{all_zipped_more}
use Rattle.isle_ast.specs.declared.ast.Ident.{Ident}
use Rattle.isle_ast.specs.declared.ast.Rule.{Rule as RuleTree}
use Rattle.isle_types.specs.declared.ids.Sym.{Sym}
use Rattle.isle_types.specs.Names.{KeepsNames}
use Rattle.isle_types.specs.TypeEnvs.{CountUp}
use Rattle.isle_containers.proofs.Lists.{AllZip-weaker}
use Rattle.isle_rules.specs.declared.rules.BoundVar.{BoundVar}
use Rattle.isle_rules.specs.declared.rules.Rule.{Rule}
use Rattle.isle_terms.specs.declared.translate.bindings.RuleVariable.{RuleVariable}
use Rattle.isle_terms.specs.declared.translate.rules.Parts.{Parts}
use Rattle.isle_rules.specs.TypedRules.{Variable, TypedRule}
use Rattle.isle_rules.specs.Elaboration.{State}
use Rattle.isle_terms.specs.Inside.Readings.Telling.{rule_of_parts}
use Rattle.isle_terms.specs.Inside.Readings.Scopes.{variable_shown}
use Rattle.isle_rules.specs.Shown.ShownRules.{typed_list, typed_shown, built_shown, iflet_shown, greatest, pattern_limit, expr_limit}
use Rattle.isle_rules.specs.Shown.RulesShown.{IsShownVariable, IsShownName, IsShownRule, iflet_limit}
use Rattle.isle_terms.specs.Inside.Shown.PartsShown.{parts_limit, parts_shown}
use Rattle.isle_terms.proofs.Showing.ShownMore.{names_within, patterns_more, built_more, iflets_more}

-- a variable stays
variable_kept : (names more : List (List ℕ)) → KeepsNames names more → (variable : Variable) (made : BoundVar) → IsShownVariable names variable made
    → IsShownVariable more variable made
variable_kept names more keeps variable made shown = record { name = keeps made.name.0 variable.name shown.name; type = shown.type }

-- variables stay
variables_kept : (names more : List (List ℕ)) → KeepsNames names more → (variables : List Variable) (made : List BoundVar)
    → AllZip (IsShownVariable names) variables made → AllZip (IsShownVariable more) variables made
variables_kept names more keeps = AllZip-weaker (IsShownVariable names) (IsShownVariable more) (variable_kept names more keeps)

-- a name stays
name_kept : (names more : List (List ℕ)) → KeepsNames names more → (name : Option (List ℕ)) (made : Option Sym) → IsShownName names name made
    → IsShownName more name made
name_kept names more keeps None None shown = tt
name_kept names more keeps None (Some sym) shown = absurd shown
name_kept names more keeps (Some name) None shown = absurd shown
name_kept names more keeps (Some name) (Some sym) shown = keeps sym.0 name shown

-- a rule stays
pub rule_kept : (names more : List (List ℕ)) → KeepsNames names more → (typed : TypedRule) (made : Rule) → IsShownRule names typed made
    → IsShownRule more typed made
rule_kept names more keeps typed made shown =
    let within = names_within names more keeps in
    record {
      root = shown.root;
      args = ap typed_list (patterns_more names more keeps made.args shown.arg_symbols) ∙ shown.args;
      iflets = iflets_more names more keeps made.iflets shown.iflet_symbols ∙ shown.iflets;
      right = built_more names more keeps made.rhs shown.right_symbols ∙ shown.right;
      variables = variables_kept names more keeps typed.variables made.vars shown.variables;
      numbers = shown.numbers;
      priority = shown.priority;
      pos = shown.pos;
      name = name_kept names more keeps typed.name made.name shown.name;
      arg_symbols = let before = shown.arg_symbols in omega arith;
      iflet_symbols = let before = shown.iflet_symbols in omega arith;
      right_symbols = let before = shown.right_symbols in omega arith;
    }

-- variables, and one more, whose name is interned behind the others
pub variable_more : (names more : List (List ℕ)) → KeepsNames names more → (variables : List RuleVariable) (made : List BoundVar)
    (variable : RuleVariable) (bound : BoundVar) → AllZip (IsShownVariable names) (map variable_shown variables) made
    → IsShownVariable more (variable_shown variable) bound
    → AllZip (IsShownVariable more) (map variable_shown (variables ++ variable ∷ [])) (made ++ bound ∷ [])
variable_more names more keeps variables made variable bound before here =
    subst (λ shown. AllZip (IsShownVariable more) shown (made ++ bound ∷ [])) (sym (map-append variable_shown variables (variable ∷ [])))
    (all_zipped_more (IsShownVariable more) (map variable_shown variables) made (variable_shown variable) bound
    (variables_kept names more keeps (map variable_shown variables) made before) here)

-- the parts of a rule with its variables and its name
pub made_is_shown : (names mid more : List (List ℕ)) → KeepsNames names mid → KeepsNames mid more → (tree : RuleTree) (root : ℕ) (parts : Parts)
    (state : State) (made : Rule) → parts_limit parts ≤ length names → made.root_term.0 ≡ root → made.args ≡ parts.args.items
    → made.iflets ≡ parts.iflets.items → made.rhs ≡ parts.rhs → AllZip (IsShownVariable mid) state.variables made.vars
    → CountUp (λ (variable : BoundVar). variable.id.0) 0 made.vars → made.prio ≡ unwrap_or tree.prio (pos 0) → made.pos ≡ tree.pos
    → IsShownName more (option_map (λ (name : Ident). name.0) tree.name) made.name
    → IsShownRule more (rule_of_parts root tree (parts_shown names parts) state) made
made_is_shown names mid more first later tree root parts state made within is_root is_args is_iflets is_right variables numbers priority at name =
    let keeps : KeepsNames names more = λ place name is. later place name (first place name is) in
    let longer = names_within names more keeps in
    let arg_symbols : greatest (map pattern_limit parts.args.items) ≤ length names = omega arith in
    let iflet_symbols : greatest (map iflet_limit parts.iflets.items) ≤ length names = omega arith in
    let right_symbols : expr_limit parts.rhs ≤ length names = omega arith in
    record {
      root = is_root;
      args = ap (λ args. typed_list (map (typed_shown more) args)) is_args
          ∙ ap typed_list (patterns_more names more keeps parts.args.items arg_symbols);
      iflets = ap (map (iflet_shown more)) is_iflets ∙ iflets_more names more keeps parts.iflets.items iflet_symbols;
      right = ap (built_shown more) is_right ∙ built_more names more keeps parts.rhs right_symbols;
      variables = variables_kept mid more later state.variables made.vars variables;
      numbers = numbers;
      priority = priority;
      pos = at;
      name = name;
      arg_symbols = rw is_args (omega arith);
      iflet_symbols = rw is_iflets (omega arith);
      right_symbols = rw is_right (omega arith);
    }
