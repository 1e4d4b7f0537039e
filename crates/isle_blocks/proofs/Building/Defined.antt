-- What is built of a rule of an environment of terms is what its typed rule needs and demands, and nothing is undefined.
use Rattle.std.proofs.Common.{◌≡◌, ◌≢◌, ℕ, zero, suc, ◌+◌, ◌≤◌, inl, inr, Bool, true, false}
use Rattle.std.proofs.Common.{List, [], ◌∷◌, ◌++◌, length, Some, Ok, Err}
use Rattle.std.proofs.Common.{slice_get, length-append, arith, ap, subst}
use Rattle.std.specs.Prelude.{Result, IfErr}
use Rattle.std.specs.List.{AllZip}
use Rattle.isle_ast.specs.declared.ast.Def.{Def}
use Rattle.isle_types.specs.declared.ids.TermId.{TermId}
use Rattle.isle_types.specs.declared.ids.TypeId.{TypeId}
use Rattle.isle_types.specs.Names.{AreDistinct}
use Rattle.isle_types.specs.Environment.{Environment}
use Rattle.isle_types.specs.TypeTables.{TypeTables}
use Rattle.isle_types.proofs.Zipped.{all_at}
use Rattle.isle_rules.specs.declared.rules.Rule.{Rule}
use Rattle.isle_rules.specs.declared.visit.fault.VisitFault.{VisitFault}
use Rattle.isle_rules.specs.declared.visit.fault.VisitFault.TheVariants.{Size, Undefined, Memory}
use Rattle.isle_rules.specs.TypedRules.{TypedRule}
use Rattle.isle_rules.specs.Signatures.{Declared}
use Rattle.isle_rules.specs.Definitions.{declared_by}
use Rattle.isle_meaning.specs.Facts.{facts_of}
use Rattle.isle_rules.specs.Shown.RulesShown.{ShowsTerms}
use Rattle.isle_rules.specs.Shown.RulesShown.{IsShownRule}
use Rattle.isle_rules.specs.Shown.TermTables.{TermTables}
use Rattle.isle_rules.specs.SoundRules.WellTyped.{IsTypedRule}
use Rattle.isle_rules.specs.SoundRules.KeptScopes.{KeepsScopes}
use Rattle.isle_rules.specs.Visits.Runs.{Run, done, in_turn}
use Rattle.isle_rules.specs.Visits.VisitorCalls.{PatternCall, match_equal, match_bool, match_int, match_prim, match_variant, extract_struct}
use Rattle.isle_rules.specs.Visits.VisitorCalls.{extract_outputs, ExprCall, const_bool, const_int, const_prim, create_variant, create_struct}
use Rattle.isle_rules.specs.Visits.VisitorCalls.{construct}
use Rattle.isle_rules.specs.Visits.OwnFaults.{asked_of, NeverUndefined, FindsAllDefined}
use Rattle.isle_rules.proofs.Visiting.SoundRules.{rules_sound}
use Rattle.isle_rules.proofs.Sound.RuleTypes.{rules_typed}
use Rattle.isle_rules.proofs.Sound.RuleScopes.{rules_keep_scopes}
use Rattle.isle_blocks.specs.declared.ids.BindingId.{BindingId}
use Rattle.isle_blocks.specs.declared.binding.Binding.{Binding}
use Rattle.isle_blocks.specs.declared.binding.Binding.TheVariants as sites
use Rattle.isle_blocks.specs.declared.constraint.Constraint.{Constraint}
use Rattle.isle_blocks.specs.declared.constraint.Constraint.TheVariants as tests
use Rattle.isle_blocks.specs.declared.builder.BuiltRule.{BuiltRule}
use Rattle.isle_blocks.specs.Constraints.{variant_field, struct_field}
use Rattle.isle_blocks.specs.Inside.Building.Gathering.{Gathered, nothing_gathered, interns, interns_each, takes_demand, equates, fitting, sites_from}
use Rattle.isle_blocks.specs.Inside.Building.Gathering.{tuple_output, extracted, outputs, constructed, numbers, keeps}
use Rattle.isle_blocks.specs.Inside.Building.Steps.{values_of, arg_adds, takes, makes, pattern_adds, expr_adds, rule_adds}
use Rattle.isle_blocks.specs.Inside.Building.Building.{gathers, gathered_in, BuildsRule}
use Rattle.isle_blocks.specs.Inside.Building.Built.{IsBuiltOf}
use Rattle.isle_blocks.specs.Building.Naming.{name_by, BuiltAsDefined, UsesWhatIsDefined}
use Rattle.isle_blocks.proofs.Building.WellTyped.{shown_known}
use Rattle.isle_blocks.proofs.Building.Rules.{follow_typed}
use Rattle.isle_blocks.proofs.Building.Naming.{name_by_injective, shown_named}

-- runs in turn answer only what one of them answers
turns : {S A B : Type 0} (first : Run S A) (rest : A → Run S B) → NeverUndefined first → ((a : A) → NeverUndefined (rest a))
    → NeverUndefined (in_turn first rest)
turns first rest here there s s' (inl h) = here s s' h
turns first rest here there s s' (inr h) = there h.0 h.1 s' h.3

fits : {A : Type 0} (n : ℕ) (run : Run Gathered A) → NeverUndefined run → NeverUndefined (fitting n run)
fits n run here s s' (inl h) = here s s' h.1
fits n run here s s' (inr h) = let e = h.1 in absurd cc

nothing_done : {A : Type 0} (a : A) → NeverUndefined {S = Gathered} (done a)
nothing_done a s s' h = let e = h.0 in absurd cc

interned : (site : Binding) → NeverUndefined (interns site)
interned site s s' h = h.0

each_interned : (sites : List Binding) (before : List BindingId) → NeverUndefined (interns_each sites before)
each_interned [] before = nothing_done before
each_interned (site ∷ others) before =
    turns (interns site) (λ id. interns_each others (before ++ id ∷ [])) (interned site) (λ id. each_interned others (before ++ id ∷ []))

demanded : (id : BindingId) (test : Constraint) → NeverUndefined (takes_demand id test)
demanded id test s s' h = let e = h.0 in absurd cc

equated : (a b : BindingId) → NeverUndefined (equates a b)
equated a b s s' h = let e = h.0 in absurd cc

given : (multi infallible : Bool) (call : BindingId) → NeverUndefined (extracted multi infallible call)
given true infallible call = interned (sites.Iterator call)
given false true call = nothing_done call
given false false call =
    turns (takes_demand call tests.Some) (λ _. interns (sites.MatchSome call)) (demanded call tests.Some) (λ _. interned (sites.MatchSome call))

put_out : (n : ℕ) (value : BindingId) → NeverUndefined (outputs n value)
put_out zero value = nothing_done {A = List BindingId} []
put_out (suc zero) value = nothing_done (value ∷ [])
put_out (suc (suc n)) value = each_interned (sites_from (tuple_output value) 0 (suc (suc n))) []

made : (multi infallible : Bool) (call : BindingId) → NeverUndefined (constructed multi infallible call)
made true infallible call = interned (sites.Iterator call)
made false true call = nothing_done call
made false false call = interned (sites.MatchSome call)

numbered : (pure : Bool) → NeverUndefined (numbers pure)
numbered true = nothing_done {A = ℕ} 0
numbered false = λ s s' h. let e = h.0 in absurd cc

kept : (pure : Bool) (value : BindingId) → NeverUndefined (keeps pure value)
kept true value = nothing_done value
kept false value = λ s s' h. let e = h.0 in absurd cc

opened : (input : BindingId) (test : Constraint) (sites : List Binding)
    → NeverUndefined (in_turn (takes_demand input test) (λ _. interns_each sites []))
opened input test sites = turns (takes_demand input test) (λ _. interns_each sites []) (demanded input test) (λ _. each_interned sites [])

taken : (input : BindingId) (term : TermId) (infallible multi : Bool) (n : ℕ) → NeverUndefined (takes input term infallible multi n)
taken input term infallible multi n =
    turns (interns (sites.Extractor term input)) (λ call. in_turn (extracted multi infallible call) (λ value. outputs n value))
    (interned (sites.Extractor term input))
    (λ call. turns (extracted multi infallible call) (λ value. outputs n value) (given multi infallible call) (λ value. put_out n value))

pattern_defined : (call : PatternCall BindingId) → NeverUndefined (pattern_adds call)
pattern_defined (match_equal a b ty) = equated a b
pattern_defined (match_bool input ty val) = demanded input (tests.ConstBool val ty)
pattern_defined (match_int input ty val) = demanded input (tests.ConstInt val ty)
pattern_defined (match_prim input ty val) = demanded input (tests.ConstPrim val)
pattern_defined (match_variant input ty tys variant) =
    let test : Constraint = tests.Variant ty variant (record { 0 = length tys }) in
    let fields = sites_from (variant_field input variant) 0 (length tys) in
    fits (length tys) (in_turn (takes_demand input test) (λ _. interns_each fields [])) (opened input test fields)
pattern_defined (extract_struct input ty tys) =
    let test : Constraint = tests.Struct ty (record { 0 = length tys }) in
    let fields = sites_from (struct_field input) 0 (length tys) in
    fits (length tys) (in_turn (takes_demand input test) (λ _. interns_each fields [])) (opened input test fields)
pattern_defined (extract_outputs input ty tys term infallible multi) =
    fits (length tys) (takes input term infallible multi (length tys)) (taken input term infallible multi (length tys))

call_defined : (parameters : List BindingId) (term : TermId) (pure infallible multi : Bool)
    → NeverUndefined (makes parameters term pure infallible multi)
call_defined parameters term pure infallible multi =
    let ends = λ (call : BindingId). in_turn (constructed multi infallible call) (λ value. keeps pure value) in
    turns (numbers pure) (λ instance. in_turn (interns (sites.Constructor term parameters instance)) ends) (numbered pure)
    (λ instance. turns (interns (sites.Constructor term parameters instance)) ends (interned (sites.Constructor term parameters instance))
    (λ call. turns (constructed multi infallible call) (λ value. keeps pure value) (made multi infallible call) (λ value. kept pure value)))

expr_defined : (call : ExprCall BindingId) → NeverUndefined (expr_adds call)
expr_defined (const_bool ty val) = interned (sites.ConstBool val ty)
expr_defined (const_int ty val) = interned (sites.ConstInt val ty)
expr_defined (const_prim ty val) = interned (sites.ConstPrim val)
expr_defined (create_variant inputs ty variant) = interned (sites.MakeVariant ty variant (values_of inputs))
expr_defined (create_struct inputs ty) = interned (sites.MakeStruct ty (values_of inputs))
expr_defined (construct inputs ty term pure infallible multi rec) = call_defined (values_of inputs) term pure infallible multi

arg_defined : (place : ℕ × TypeId) → NeverUndefined (arg_adds place)
arg_defined place =
    let site : Binding = sites.Argument (record { 0 = place.0 }) in fits (place.0) (interns site) (interned site)

-- as many sites as are asked for get their numbers
as_many : (at : ℕ → Binding) (index n : ℕ) (before : List BindingId) (s s' : Gathered) (ids : List BindingId)
    → interns_each (sites_from at index n) before s (Ok ids) s' → length before + n ≤ length ids
as_many at index zero before s s' ids h = let size = ap (λ (x : List BindingId). length x) h.0 in omega arith
as_many at index (suc n) before s s' ids h =
    let rest = as_many at (index + 1) n (before ++ h.0 ∷ []) h.1 s' ids h.3 in
    let size = length-append before (h.0 ∷ []) in omega arith

all_put_out : (n : ℕ) (value : BindingId) (s s' : Gathered) (ids : List BindingId) → outputs n value s (Ok ids) s' → n ≤ length ids
all_put_out zero value s s' ids h = omega arith
all_put_out (suc zero) value s s' ids h = let size = ap (λ (x : List BindingId). length x) h.0 in omega arith
all_put_out (suc (suc n)) value s s' ids h =
    let all = as_many (tuple_output value) 0 (suc (suc n)) [] s s' ids h in omega arith

as_asked : (call : PatternCall BindingId) (s s' : Gathered) (ids : List BindingId) → pattern_adds call s (Ok ids) s' → asked_of call ≤ length ids
as_asked (match_equal a b ty) s s' ids h = omega arith
as_asked (match_bool input ty val) s s' ids h = omega arith
as_asked (match_int input ty val) s s' ids h = omega arith
as_asked (match_prim input ty val) s s' ids h = omega arith
as_asked (match_variant input ty tys variant) s s' ids h =
    let run = h.1 in let all = as_many (variant_field input variant) 0 (length tys) [] run.1 s' ids run.3 in omega arith
as_asked (extract_struct input ty tys) s s' ids h =
    let run = h.1 in let all = as_many (struct_field input) 0 (length tys) [] run.1 s' ids run.3 in omega arith
as_asked (extract_outputs input ty tys term infallible multi) s s' ids h =
    let run = h.1 in let rest = run.3 in all_put_out (length tys) rest.0 rest.1 s' ids rest.3

-- the builder never answers by itself that something isn't defined, and names all that it is asked for
finds_all : FindsAllDefined rule_adds pattern_adds expr_adds
finds_all = record {
  arg = arg_defined;
  expr_as_pattern = λ x s s' h. let e = h.0 in absurd cc;
  pattern_as_expr = λ input. nothing_done input;
  refuses = λ s s' h. h;
  pattern = pattern_defined;
  expr = expr_defined;
  named = λ call p q ids h. as_asked call p q ids h;
}

-- items at one place of two lists
both_at : {X Y : Type 0} (R : X → Y → Type 0) (xs : List X) (ys : List Y) (place : ℕ) (x : X) (y : Y) → AllZip R xs ys
    → slice_get xs place ≡ Some x → slice_get ys place ≡ Some y → R x y
both_at R [] [] place x y all e f = absurd cc
both_at R [] (z ∷ ys) place x y all e f = absurd all
both_at R (z ∷ xs) [] place x y all e f = absurd all
both_at {X} {Y} R (z ∷ xs) (w ∷ ys) zero x y all e f =
    let first : z ≡ x = cc in let second : w ≡ y = cc in subst (λ (v : Y). R x v) second (subst (λ (v : X). R v w) first all.0)
both_at R (z ∷ xs) (w ∷ ys) (suc place) x y all e f = both_at R xs ys place x y all.1 e f

module _ (tyenv : TypeTables) (env : TermTables) (types : Environment) (levels max : ℕ) (defs : List Def)
    (shows : ShowsTerms tyenv env types levels max defs) (rule : Rule) (place : ℕ) (here : slice_get env.rules place ≡ Some rule) where
  -- a rule of the environment is built as the typed rule at its place needs and demands
  pub built_defined : AreDistinct tyenv.names → (typed : TypedRule) → slice_get shows.environment.rules place ≡ Some typed
      → (left : Gathered) (value : BindingId) → gathers env.terms rule nothing_gathered (Ok value) left
      → IsBuiltOf (name_by tyenv.names) (facts_of (declared_by types env.expands shows.environment)) typed left value
  built_defined distinct typed there left value run =
      let declared : Declared = declared_by types env.expands shows.environment in
      follow_typed (name_by tyenv.names) (name_by_injective tyenv.names distinct) tyenv.names declared env.terms
      (shown_known tyenv.names declared env.terms shows.declared.terms) rule typed value left
      (shown_named tyenv.names typed rule
      (both_at (IsShownRule tyenv.names) shows.environment.rules env.rules place typed rule shows.rules there here))
      (all_at (IsTypedRule declared) shows.environment.rules
      (rules_typed types env.expands levels max defs shows.environment shows.makes) place typed there)
      (all_at KeepsScopes shows.environment.rules
      (rules_keep_scopes types env.expands levels max defs shows.environment shows.makes) place typed there) run

  -- and uses nothing that isn't defined
  pub built_of_defined : (fault : VisitFault) (left : Gathered) → gathers env.terms rule nothing_gathered (Err fault) left → fault ≢ Undefined
  built_of_defined Undefined left run e =
      all_at (λ (x : Rule). NeverUndefined (gathers env.terms x)) env.rules
      (rules_sound rule_adds pattern_adds expr_adds finds_all tyenv env types levels max defs shows) place rule here nothing_gathered left run
  built_of_defined Size left run e = cc
  built_of_defined Memory left run e = cc

-- what is built of a rule, whatever definitions the environment shows
pub built_as_defined : (env : TermTables) (rule : Rule) (built : BuiltRule)
    → gathers env.terms rule nothing_gathered (Ok built.result) (gathered_in built) → BuiltAsDefined env rule built
built_as_defined env rule built run = λ tyenv types levels max defs distinct shows place typed here there.
    built_defined tyenv env types levels max defs shows rule place here distinct typed there (gathered_in built) built.result run

-- and how building it does not end
pub uses_defined : (env : TermTables) (rule : Rule) (result : Result BuiltRule VisitFault) → BuildsRule env.terms rule result
    → IfErr result (λ fault. UsesWhatIsDefined env rule fault)
uses_defined env rule (Ok built) run = tt
uses_defined env rule (Err fault) run = λ tyenv types levels max defs shows place here.
    built_of_defined tyenv env types levels max defs shows rule place here fault run.0 run.1
