-- Runs of the builder that go on past the limit of its table.
use Rattle.std.proofs.Common.{◌≡◌, ℕ, zero, suc, ◌+◌, ◌≤◌, ◌<◌, ◌⊎◌, inl, inr, Bool, true, false, List, [], ◌∷◌, ◌++◌, length}
use Rattle.std.proofs.Common.{Option, Some, None, Ok, Err, slice_get, length-append, refl, sym, ◌∙◌, ap, subst, arith, Contains}
use Rattle.std.specs.Option.{option_and_then}
use Rattle.std.proofs.lemmas.Bool.{cases_eq}
use Rattle.std.proofs.lemmas.List.Elements.{Contains-append_left, Contains-append_right, Contains-append_cases}
use Rattle.std.proofs.lemmas.Option.{none-some, same_Some}
use Rattle.isle_types.specs.declared.ids.TermId.{TermId}
use Rattle.isle_types.specs.declared.ids.TypeId.{TypeId}
use Rattle.isle_types.specs.declared.ids.VarId.{VarId}
use Rattle.isle_rules.specs.declared.rules.Expr.{Expr}
use Rattle.isle_rules.specs.declared.rules.IfLet.{IfLet}
use Rattle.isle_rules.specs.declared.rules.Pattern.{Pattern}
use Rattle.isle_rules.specs.declared.rules.Rule.{Rule}
use Rattle.isle_rules.specs.declared.terms.Term.{Term}
use Rattle.isle_rules.specs.declared.terms.TermKind.{TermKind}
use Rattle.isle_rules.specs.declared.terms.TermKind.TheVariants.{EnumVariant, Struct, Decl}
use Rattle.isle_rules.specs.declared.visit.fault.VisitFault.TheVariants.{Size, Undefined}
use Rattle.isle_rules.specs.TypedTrees.{type_of_expr}
use Rattle.isle_rules.specs.Visits.Runs.{Run, done, asks, in_turn, on_some, stuck}
use Rattle.isle_rules.specs.Visits.VisitScopes.{VisitScope, no_values, bound_by}
use Rattle.isle_rules.specs.Visits.InternedTrees.{InternedPattern, InternedPatterns, bind_pattern, var_pattern, bool_pattern, int_pattern}
use Rattle.isle_rules.specs.Visits.InternedTrees.{prim_pattern, term_pattern, wildcard_pattern, and_pattern, no_patterns, more_patterns}
use Rattle.isle_rules.specs.Visits.InternedTrees.{InternedExpr, InternedExprs, InternedBindings, term_expr, var_expr, bool_expr, int_expr}
use Rattle.isle_rules.specs.Visits.InternedTrees.{prim_expr, let_expr, no_exprs, more_exprs, no_bindings, more_bindings, pattern_of, expr_of}
use Rattle.isle_rules.specs.Visits.VisitorCalls.{PatternCall, match_equal, match_bool, match_int, match_prim, match_variant, extract_struct}
use Rattle.isle_rules.specs.Visits.VisitorCalls.{extract_outputs, opening_of, opening, ExprCall, const_bool, const_int, const_prim}
use Rattle.isle_rules.specs.Visits.VisitorCalls.{create_variant, create_struct, construct, making_of}
use Rattle.isle_rules.specs.Visits.Events.{visits, visits_all, visits_each, visits_expr, visits_exprs, visits_bindings}
use Rattle.isle_rules.specs.Visits.OwnFaults.{asked_of}
use Rattle.isle_rules.specs.Visits.RuleSteps.{in_pattern, in_expr}
use Rattle.isle_rules.specs.Visits.RuleEvents.{visits_typed, visits_var, visits_vars, visits_part, visits_args, visits_value, visits_iflets}
use Rattle.isle_rules.specs.Visits.RuleEvents.{visits_rest}
use Rattle.isle_blocks.specs.declared.ids.BindingId.{BindingId}
use Rattle.isle_blocks.specs.declared.binding.Binding.{Binding}
use Rattle.isle_blocks.specs.declared.binding.Binding.TheVariants as sites
use Rattle.isle_blocks.specs.declared.constraint.Constraint.{Constraint}
use Rattle.isle_blocks.specs.declared.constraint.Constraint.TheVariants as tests
use Rattle.isle_blocks.specs.Tables.{sources_of}
use Rattle.isle_blocks.specs.contracts.binding.BindingPartialEq.TheImpl as binding_of
use Rattle.isle_blocks.specs.Constraints.{variant_field, struct_field}
use Rattle.isle_blocks.specs.Tables.{IsAbsent}
use Rattle.isle_blocks.specs.Inside.Building.Building.{gathers}
use Rattle.isle_blocks.specs.Inside.Building.Contents.{PartsAreBefore, Reached, here, through, IsAsked, AreAsked}
use Rattle.isle_blocks.specs.Inside.Building.Gathering.{Gathered, with_sites, with_tests, with_pair, with_effect, interns, interns_each, takes_demand}
use Rattle.isle_blocks.specs.Inside.Building.Gathering.{equates, fitting, sites_from, tuple_output, extracted, outputs, constructed, counts, numbers, keeps}
use Rattle.isle_blocks.specs.Building.Naming.{HaveFewArguments}
use Rattle.isle_blocks.specs.Inside.Building.Steps.{values_of, each_some, arg_adds, content_adds, takes, makes, pattern_adds, expr_adds, rule_adds}
use Rattle.isle_blocks.proofs.EqualSites.{binding-decides}
use Rattle.isle_blocks.proofs.Building.Walking.{cons_cases, cons_here, cons_there, none_there}

-- a run finds something undefined
abbrev pub Breaks : {A : Type 0} → Run Gathered A → Gathered → Type 0
Breaks run s = (s' : Gathered) × run s (Err Undefined) s'

-- a run has an answer, or finds something undefined
abbrev pub Ends : {A : Type 0} → Run Gathered A → Gathered → Type 0
Ends {A} run s = ((a : A) × (s' : Gathered) × run s (Ok a) s') ⊎ Breaks run s

-- a run has an answer with more sites than there are numbers, or finds something undefined
abbrev pub EndsPast : {A : Type 0} → Run Gathered A → Gathered → Type 0
EndsPast {A} run s = ((a : A) × (s' : Gathered) × run s (Ok a) s' × (65536 < length s'.sites)) ⊎ Breaks run s

-- a run that could go on where no number is left
pub record Goes {A : Type 0} (run : Run Gathered A) : Type 0 where
  pub total : (s : Gathered) → Ends run s
  pub grows : (s s' : Gathered) (a : A) → run s (Ok a) s' → length s.sites ≤ length s'.sites
  pub past : (s s' : Gathered) → run s (Err Size) s' → EndsPast run s

-- the sites are as many where nothing changes
same_many : (s t : Gathered) → s ≡ t → length s.sites ≤ length t.sites
same_many s t e = rw e (omega arith)

-- nothing more is told
pub goes_done : {A : Type 0} (a : A) → Goes (done a)
goes_done a = record {
  total = λ s. inl (a, s, (refl, refl));
  grows = λ s s' b h. same_many s s' h.1;
  past = λ s s' h. let e = h.0 in absurd cc;
}

-- what isn't defined ends a run without more
pub goes_stuck : {A : Type 0} → Goes {A = A} stuck
goes_stuck = record {
  total = λ s. inr (s, (inl refl, refl));
  grows = λ s s' a h. absurd h;
  past = λ s s' h. elim (h.0) [ inl e ↦ absurd cc | inr e ↦ absurd cc ];
}

-- one call goes on where its step does
pub goes_asks : {C A : Type 0} (step : C → Run Gathered A) (call : C) → Goes (step call) → Goes (asks step call)
goes_asks step call g = record { total = total; grows = g.grows; past = past }
  where
    total : (s : Gathered) → Ends (asks step call) s
    total s = elim (g.total s) [ inl h ↦ inl h | inr (s', h) ↦ inr (s', inl h) ]

    past : (s s' : Gathered) → asks step call s (Err Size) s' → EndsPast (asks step call) s
    past s s' (inl h) = elim (g.past s s' h) [ inl k ↦ inl k | inr (end, k) ↦ inr (end, inl k) ]
    past s s' (inr h) = let e = h.0 in absurd cc

-- runs in turn go on where each does: past the limit, the second only adds
pub goes_turn : {A B : Type 0} (first : Run Gathered A) (rest : A → Run Gathered B) → Goes first → ((a : A) → Goes (rest a))
    → Goes (in_turn first rest)
goes_turn {A} {B} first rest f r = record { total = total; grows = grows; past = past }
  where
    total : (s : Gathered) → Ends (in_turn first rest) s
    total s = elim (f.total s) [
      | inl (a, mid, h) ↦ elim ((r a).total mid) [
        | inl (b, end, k) ↦ inl (b, end, (a, mid, h, k))
        | inr (end, k) ↦ inr (end, inr (a, mid, h, k))
      ]
      | inr (end, h) ↦ inr (end, inl h)
    ]

    grows : (s s' : Gathered) (b : B) → in_turn first rest s (Ok b) s' → length s.sites ≤ length s'.sites
    grows s s' b (a, mid, h, k) = let one = f.grows s mid a h in let two = (r a).grows mid s' b k in omega arith

    beyond : (s mid : Gathered) (a : A) → first s (Ok a) mid → 65536 < length mid.sites → EndsPast (in_turn first rest) s
    beyond s mid a h more = elim ((r a).total mid) [
      | inl (b, end, k) ↦ let two = (r a).grows mid end b k in inl (b, end, (a, mid, h, k), omega arith)
      | inr (end, k) ↦ inr (end, inr (a, mid, h, k))
    ]

    past : (s s' : Gathered) → in_turn first rest s (Err Size) s' → EndsPast (in_turn first rest) s
    past s s' (inl h) = elim (f.past s s' h) [
      | inl (a, mid, k, more) ↦ beyond s mid a k more
      | inr (end, k) ↦ inr (end, inl k)
    ]
    past s s' (inr (a, mid, h, k)) = elim ((r a).past mid s' k) [
      | inl (b, end, t, more) ↦ inl (b, end, (a, mid, h, t), more)
      | inr (end, t) ↦ inr (end, inr (a, mid, h, t))
    ]

-- a choice goes on where both runs do
pub goes_some : {V A : Type 0} (o : Option V) (some : V → Run Gathered A) (none : Run Gathered A) → ((v : V) → o ≡ Some v → Goes (some v))
    → Goes none → Goes (on_some o some none)
goes_some None some none f g = g
goes_some (Some v) some none f g = f v refl

-- the same visitor is handed out for a pattern
pub goes_in_pattern : {A : Type 0} (run : Run Gathered A) → Goes run → Goes (in_pattern rule_adds run)
goes_in_pattern {A} run g = record { total = total; grows = grows; past = past }
  where
    total : (s : Gathered) → Ends (in_pattern rule_adds run) s
    total s = elim (g.total s) [
      | inl (a, s', h) ↦ inl (a, s', (s, s', refl, h, refl))
      | inr (s', h) ↦ inr (s', inl (s, s', refl, h, refl))
    ]

    grows : (s s' : Gathered) (a : A) → in_pattern rule_adds run s (Ok a) s' → length s.sites ≤ length s'.sites
    grows s s' a (p, q, opens, h, closes) =
        let one = same_many s p opens in let two = g.grows p q a h in let three = same_many q s' closes in omega arith

    past : (s s' : Gathered) → in_pattern rule_adds run s (Err Size) s' → EndsPast (in_pattern rule_adds run) s
    past s s' (inl (p, q, opens, h, closes)) = elim (g.past p q h) [
      | inl (a, end, k, more) ↦ inl (a, end, (p, end, opens, k, refl), more)
      | inr (end, k) ↦ inr (end, inl (p, end, opens, k, refl))
    ]
    past s s' (inr h) = absurd h

-- the same visitor is handed out for an expression
pub goes_in_expr : (run : Run Gathered (TypeId × BindingId)) → Goes run → Goes (in_expr rule_adds run)
goes_in_expr run g = record { total = total; grows = grows; past = past }
  where
    total : (s : Gathered) → Ends (in_expr rule_adds run) s
    total s = elim (g.total s) [
      | inl (v, s', h) ↦ inl (v.1, s', (s, s', v, refl, h, (refl, refl)))
      | inr (s', h) ↦ inr (s', inl (s, s', refl, h, refl))
    ]

    grows : (s s' : Gathered) (x : BindingId) → in_expr rule_adds run s (Ok x) s' → length s.sites ≤ length s'.sites
    grows s s' x (p, q, v, opens, h, gives) =
        let one = same_many s p opens in let two = g.grows p q v h in let three = same_many q s' gives.1 in omega arith

    past : (s s' : Gathered) → in_expr rule_adds run s (Err Size) s' → EndsPast (in_expr rule_adds run) s
    past s s' (inl (p, q, opens, h, closes)) = elim (g.past p q h) [
      | inl (v, end, k, more) ↦ inl (v.1, end, (p, end, v, opens, k, (refl, refl)), more)
      | inr (end, k) ↦ inr (end, inl (p, end, opens, k, refl))
    ]
    past s s' (inr h) = absurd h

-- a site has a number in a table
abbrev HasNumber : List Binding → Binding → Type 0
HasNumber table site = (id : BindingId) × (slice_get table id.0 ≡ Some site)

-- what is known of a table is known with one more entry before it
known_after : (x : Binding) (table : List Binding) (site : Binding) (b : Bool) → (binding_of.ghosts).eq x site ≡ b
    → HasNumber table site ⊎ IsAbsent table site → HasNumber (x ∷ table) site ⊎ IsAbsent (x ∷ table) site
known_after x table site true t h = inl (record { 0 = 0 }, let e : x ≡ site = (binding-decides x site).0 t in rw e refl)
known_after x table site false t (inl (id, at)) = inl (record { 0 = suc id.0 }, at)
known_after x table site false t (inr absent) = inr (λ k e. nowhere k e)
  where
    nowhere : (k : ℕ) → slice_get (x ∷ table) k ≡ Some site → ⊥
    nowhere zero e = let yes = (binding-decides x site).1 (same_Some _ _ e) in cc
    nowhere (suc k) e = absent k e

-- a site has a number, or stands nowhere
known_or_absent : (table : List Binding) (site : Binding) → HasNumber table site ⊎ IsAbsent table site
known_or_absent [] site = inr (λ k e. cc)
known_or_absent (x ∷ table) site = known_after x table site ((binding_of.ghosts).eq x site) refl (known_or_absent table site)

-- a site that finds no number could be put behind the others
goes_interns : (site : Binding) → Goes (interns site)
goes_interns site = record { total = total; grows = grows; past = past }
  where
    put : (s : Gathered) → IsAbsent s.sites site → interns site s (Ok (record { 0 = length s.sites })) (with_sites (s.sites ++ site ∷ []) s)
    put s absent = (s.sites ++ site ∷ [], inr (absent, refl, refl), refl)

    total : (s : Gathered) → Ends (interns site) s
    total s = elim (known_or_absent s.sites site) [
      | inl (id, at) ↦ inl (id, s, (s.sites, inl (at, refl), refl))
      | inr absent ↦ inl (record { 0 = length s.sites }, with_sites (s.sites ++ site ∷ []) s, put s absent)
    ]

    grows : (s s' : Gathered) (id : BindingId) → interns site s (Ok id) s' → length s.sites ≤ length s'.sites
    grows s s' id (new, inl (at, same), e) = rw (e, same) (omega arith)
    grows s s' id (new, inr (absent, last, longer), e) = rw (e, longer) (let l = length-append s.sites (site ∷ []) in omega arith)

    past : (s s' : Gathered) → interns site s (Err Size) s' → EndsPast (interns site) s
    past s s' h =
        let full = h.0.1 in let l = length-append s.sites (site ∷ []) in
        inl (record { 0 = length s.sites }, with_sites (s.sites ++ site ∷ []) s, put s h.0.0, omega arith)

goes_each : (sites : List Binding) (before : List BindingId) → Goes (interns_each sites before)
goes_each [] before = goes_done before
goes_each (site ∷ others) before =
    goes_turn (interns site) (λ id. interns_each others (before ++ id ∷ [])) (goes_interns site) (λ id. goes_each others (before ++ id ∷ []))

goes_demands : (id : BindingId) (test : Constraint) → Goes (takes_demand id test)
goes_demands id test = record {
  total = λ s. inl ([], with_tests ((id, test) ∷ []) s, (refl, refl));
  grows = λ s s' a h. rw h.1 (omega arith);
  past = λ s s' h. let e = h.0 in absurd cc;
}

goes_equates : (a b : BindingId) → Goes (equates a b)
goes_equates a b = record { total = total; grows = grows; past = λ s s' h. let e = h.0 in absurd cc }
  where
    total : (s : Gathered) → Ends (equates a b) s
    total s = elim (cases_eq a.0 b.0) [
      | inl e ↦ let same : a ≡ b = (λ i. record { 0 = e i }) in inl ([], s, (refl, inl (same, refl)))
      | inr other ↦ inl ([], with_pair a b s, (refl, inr (λ e. other (ap (λ (x : BindingId). x.0) e), refl)))
    ]

    grows : (s s' : Gathered) (ids : List BindingId) → equates a b s (Ok ids) s' → length s.sites ≤ length s'.sites
    grows s s' ids (none, inl (same, e)) = rw e (omega arith)
    grows s s' ids (none, inr (other, e)) = rw e (omega arith)

-- numbers up to 255 are no limit of the table
goes_fitting : {A : Type 0} (n : ℕ) (run : Run Gathered A) → n ≤ 255 → Goes run → Goes (fitting n run)
goes_fitting {A} n run few g = record { total = total; grows = λ s s' a h. g.grows s s' a h.1; past = past }
  where
    total : (s : Gathered) → Ends (fitting n run) s
    total s = elim (g.total s) [ inl (a, s', h) ↦ inl (a, s', (few, h)) | inr (s', h) ↦ inr (s', inl (few, h)) ]

    past : (s s' : Gathered) → fitting n run s (Err Size) s' → EndsPast (fitting n run) s
    past s s' (inl h) = elim (g.past s s' h.1) [
      | inl (a, end, k, more) ↦ inl (a, end, (few, k), more)
      | inr (end, k) ↦ inr (end, inl (few, k))
    ]
    past s s' (inr h) = absurd (let many = h.0 in omega arith)

goes_extracted : (multi infallible : Bool) (call : BindingId) → Goes (extracted multi infallible call)
goes_extracted true infallible call = goes_interns (sites.Iterator call)
goes_extracted false true call = goes_done call
goes_extracted false false call =
    goes_turn (takes_demand call tests.Some) (λ _. interns (sites.MatchSome call)) (goes_demands call tests.Some)
    (λ _. goes_interns (sites.MatchSome call))

goes_outputs : (n : ℕ) (value : BindingId) → Goes (outputs n value)
goes_outputs zero value = goes_done {A = List BindingId} []
goes_outputs (suc zero) value = goes_done (value ∷ [])
goes_outputs (suc (suc n)) value = goes_each (sites_from (tuple_output value) 0 (suc (suc n))) []

goes_constructed : (multi infallible : Bool) (call : BindingId) → Goes (constructed multi infallible call)
goes_constructed true infallible call = goes_interns (sites.Iterator call)
goes_constructed false true call = goes_done call
goes_constructed false false call = goes_interns (sites.MatchSome call)

goes_counts : Goes counts
goes_counts = record {
  total = λ s. inl (length s.impure + 1, s, (refl, refl));
  grows = λ s s' n h. same_many s s' h.1;
  past = λ s s' h. let e = h.0 in absurd cc;
}

goes_numbers : (pure : Bool) → Goes (numbers pure)
goes_numbers true = goes_done {A = ℕ} 0
goes_numbers false = goes_counts

goes_keeps : (pure : Bool) (value : BindingId) → Goes (keeps pure value)
goes_keeps true value = goes_done value
goes_keeps false value = record {
  total = λ s. inl (value, with_effect value s, (refl, refl));
  grows = λ s s' id h. rw h.1 (omega arith);
  past = λ s s' h. let e = h.0 in absurd cc;
}

goes_opens : (input : BindingId) (test : Constraint) (sites : List Binding) → Goes (in_turn (takes_demand input test) (λ _. interns_each sites []))
goes_opens input test sites = goes_turn (takes_demand input test) (λ _. interns_each sites []) (goes_demands input test) (λ _. goes_each sites [])

goes_takes : (input : BindingId) (term : TermId) (infallible multi : Bool) (n : ℕ) → Goes (takes input term infallible multi n)
goes_takes input term infallible multi n =
    goes_turn (interns (sites.Extractor term input)) (λ call. in_turn (extracted multi infallible call) (λ value. outputs n value))
    (goes_interns (sites.Extractor term input))
    (λ call. goes_turn (extracted multi infallible call) (λ value. outputs n value) (goes_extracted multi infallible call)
    (λ value. goes_outputs n value))

-- each call of a pattern that asks for few values
goes_pattern : (call : PatternCall BindingId) → asked_of call ≤ 255 → Goes (pattern_adds call)
goes_pattern (match_equal a b ty) few = goes_equates a b
goes_pattern (match_bool input ty val) few = goes_demands input (tests.ConstBool val ty)
goes_pattern (match_int input ty val) few = goes_demands input (tests.ConstInt val ty)
goes_pattern (match_prim input ty val) few = goes_demands input (tests.ConstPrim val)
goes_pattern (match_variant input ty tys variant) few =
    let test : Constraint = tests.Variant ty variant (record { 0 = length tys }) in
    let fields = sites_from (variant_field input variant) 0 (length tys) in
    goes_fitting (length tys) (in_turn (takes_demand input test) (λ _. interns_each fields [])) few (goes_opens input test fields)
goes_pattern (extract_struct input ty tys) few =
    let test : Constraint = tests.Struct ty (record { 0 = length tys }) in
    let fields = sites_from (struct_field input) 0 (length tys) in
    goes_fitting (length tys) (in_turn (takes_demand input test) (λ _. interns_each fields [])) few (goes_opens input test fields)
goes_pattern (extract_outputs input ty tys term infallible multi) few =
    goes_fitting (length tys) (takes input term infallible multi (length tys)) few (goes_takes input term infallible multi (length tys))

goes_makes : (parameters : List BindingId) (term : TermId) (pure infallible multi : Bool) → Goes (makes parameters term pure infallible multi)
goes_makes parameters term pure infallible multi =
    let ends = λ (call : BindingId). in_turn (constructed multi infallible call) (λ value. keeps pure value) in
    goes_turn (numbers pure) (λ instance. in_turn (interns (sites.Constructor term parameters instance)) ends) (goes_numbers pure)
    (λ instance. goes_turn (interns (sites.Constructor term parameters instance)) ends
    (goes_interns (sites.Constructor term parameters instance))
    (λ call. goes_turn (constructed multi infallible call) (λ value. keeps pure value) (goes_constructed multi infallible call)
    (λ value. goes_keeps pure value)))

-- each call of an expression
goes_expr_call : (call : ExprCall BindingId) → Goes (expr_adds call)
goes_expr_call (const_bool ty val) = goes_interns (sites.ConstBool val ty)
goes_expr_call (const_int ty val) = goes_interns (sites.ConstInt val ty)
goes_expr_call (const_prim ty val) = goes_interns (sites.ConstPrim val)
goes_expr_call (create_variant inputs ty variant) = goes_interns (sites.MakeVariant ty variant (values_of inputs))
goes_expr_call (create_struct inputs ty) = goes_interns (sites.MakeStruct ty (values_of inputs))
goes_expr_call (construct inputs ty term pure infallible multi rec) = goes_makes (values_of inputs) term pure infallible multi

goes_arg : (place : ℕ × TypeId) → place.0 ≤ 255 → Goes (arg_adds place)
goes_arg place few =
    let site : Binding = sites.Argument (record { 0 = place.0 }) in goes_fitting (place.0) (interns site) few (goes_interns site)

-- what is found of each of some numbers
abbrev found_of_all : (ℕ → List BindingId) → List BindingId → List BindingId
found_of_all find [] = []
found_of_all find (part ∷ parts) = find part.0 ++ found_of_all find parts

-- the option whose content a site is
abbrev own_option : Binding → List BindingId
own_option (sites.MatchSome call) = call ∷ []
own_option site = []

-- the options of an entry and of its parts
abbrev options_at : (ℕ → List BindingId) → Option Binding → List BindingId
options_at find None = []
options_at find (Some site) = own_option site ++ found_of_all find (sources_of site)

-- the options whose contents a number is made of, through so many steps
abbrev options_of : List Binding → ℕ → ℕ → List BindingId
options_of table zero x = []
options_of table (suc n) x = options_at (options_of table n) (slice_get table x)

-- only an option's content has such an option
own_sound : (site : Binding) (call : BindingId) → Contains (own_option site) call → site ≡ sites.MatchSome call
own_sound (sites.MatchSome source) call c = elim (cons_cases source [] call c) [ inl e ↦ ap sites.MatchSome e | inr k ↦ none_there call k ]
own_sound site call c = none_there call c

-- what is found of all is found of one
all_found : (find : ℕ → List BindingId) (parts : List BindingId) (call : BindingId) → Contains (found_of_all find parts) call
    → (part : BindingId) × Contains parts part × Contains (find part.0) call
all_found find [] call c = none_there call c
all_found find (part ∷ parts) call c = elim (Contains-append_cases (find part.0) (found_of_all find parts) call c) [
  | inl k ↦ (part, cons_here part parts, k)
  | inr k ↦ let (other, there, inside) = all_found find parts call k in (other, cons_there part parts other there, inside)
]

-- what is found of one is found of all
finds_in_all : (find : ℕ → List BindingId) (parts : List BindingId) (part call : BindingId) → Contains parts part → Contains (find part.0) call
    → Contains (found_of_all find parts) call
finds_in_all find [] part call c k = none_there part c
finds_in_all find (other ∷ parts) part call c k = elim (cons_cases other parts part c) [
  | inl e ↦ Contains-append_left (find other.0) (found_of_all find parts) call
      (subst (λ (z : BindingId). Contains (find z.0) call) (sym e) k)
  | inr there ↦ Contains-append_right (find other.0) (found_of_all find parts) call (finds_in_all find parts part call there k)
]

-- what is found at an entry is asked for, where what is found of its parts is
entry_sound : {call : BindingId} (table : List Binding) (x : ℕ) (find : ℕ → List BindingId)
    → ((y : ℕ) → Contains (find y) call → IsAsked table y call) → (o : Option Binding) → slice_get table x ≡ o
    → Contains (options_at find o) call → IsAsked table x call
entry_sound {call} table x find sound None at c = none_there call c
entry_sound {call} table x find sound (Some site) at c =
    elim (Contains-append_cases (own_option site) (found_of_all find (sources_of site)) call c) [
      | inl k ↦ (x, here x, at ∙ ap Some (own_sound site call k))
      | inr k ↦
          let (part, there, inside) = all_found find (sources_of site) call k in
          let (j, reached, is) = sound part.0 inside in (j, through site part at there reached, is)
    ]

-- what is found is asked for
options_sound : (table : List Binding) (n x : ℕ) (call : BindingId) → Contains (options_of table n x) call → IsAsked table x call
options_sound table zero x call c = none_there call c
options_sound table (suc n) x call c =
    entry_sound table x (options_of table n) (λ y k. options_sound table n y call k) (slice_get table x) refl c

-- what is asked for is found, in a step for each number on the way
options_complete : (table : List Binding) → PartsAreBefore table → (n x j : ℕ) (call : BindingId) → x < n → Reached table x j
    → slice_get table j ≡ Some (sites.MatchSome call) → Contains (options_of table n x) call
options_complete table before zero x j call low r is = absurd (omega arith)
options_complete table before (suc n) x j call low (here _) is =
    rw is (Contains-append_left (call ∷ []) (found_of_all (options_of table n) (call ∷ [])) call (cons_here call []))
options_complete table before (suc n) x j call low (through site part at there reached) is =
    let less = before x site part at there in
    let inside = options_complete table before n part.0 j call (omega arith) reached is in
    rw at (Contains-append_right (own_option site) (found_of_all (options_of table n) (sources_of site)) call
    (finds_in_all (options_of table n) (sources_of site) part call there inside))

-- the options that a number's walk finds
options_asked : (table : List Binding) (x : ℕ) → PartsAreBefore table → AreAsked table x (options_of table (suc x) x)
options_asked table x before = record {
  sound = λ call c. options_sound table (suc x) x call c;
  complete = λ call (j, reached, is). options_complete table before (suc x) x j call (omega arith) reached is;
}

-- what is matched has its contents asked for, in whatever table
goes_content : (x : BindingId) → Goes (content_adds x)
goes_content x = record {
  total = λ s. let calls = options_of s.sites (suc x.0) x.0 in
      inl (x, with_tests (each_some calls) s, (refl, (calls, (λ before. options_asked s.sites x.0 before), refl)));
  grows = λ s s' id h. let e = h.1.2 in rw e (omega arith);
  past = λ s s' h. let e = h.0 in absurd cc;
}

-- what is told of a pattern of a term names each of the term's arguments
opening_asks : {Id : Type 0} (kind : TermKind) (term : Term) (ty : TypeId) (id : TermId) (input : Id) (call : PatternCall Id)
    → opening_of kind term ty id input ≡ Some call → length term.arg_tys ≤ 255 → asked_of call ≤ 255
opening_asks {Id} kind term ty id input call e few = elim kind as (λ k. opening_of k term ty id input ≡ Some call → asked_of call ≤ 255) [
  | EnumVariant variant ↦ λ e. by_call (match_variant input ty term.arg_tys variant) (same_Some _ _ e) few
  | Struct ↦ λ e. by_call (extract_struct input ty term.arg_tys) (same_Some _ _ e) few
  | Decl flags made None ↦ λ e. absurd (none-some call e)
  | Decl flags made (Some kind) ↦ λ e. by_call (extract_outputs input term.ret_ty term.arg_tys id _ flags.multi) (same_Some _ _ e) few
] e
  where
    by_call : (known : PatternCall Id) → known ≡ call → asked_of known ≤ 255 → asked_of call ≤ 255
    by_call known e h = subst (λ (z : PatternCall Id). asked_of z ≤ 255) e h

module _ (terms : List Term) (few : HaveFewArguments terms) where
  opening_few : (ty : TypeId) (id : TermId) (input : BindingId) (call : PatternCall BindingId) → opening terms ty id input ≡ Some call
      → asked_of call ≤ 255
  opening_few ty id input call e = by_term (slice_get terms id.0) refl e
    where
      by_term : (o : Option Term) → slice_get terms id.0 ≡ o
          → option_and_then (λ (term : Term). opening_of term.kind term ty id input) o ≡ Some call → asked_of call ≤ 255
      by_term None at e = absurd (none-some call e)
      by_term (Some term) at e = opening_asks term.kind term ty id input call e (few id.0 term at)

  -- a call that names nothing
  goes_told : (call : PatternCall BindingId) (scope : VisitScope BindingId) → asked_of call ≤ 255
      → Goes (in_turn (asks pattern_adds call) (λ _. done scope))
  goes_told call scope low =
      goes_turn (asks pattern_adds call) (λ _. done scope) (goes_asks pattern_adds call (goes_pattern call low)) (λ _. goes_done scope)

  mutual
    goes_visits : (p : InternedPattern) (input : BindingId) (scope : VisitScope BindingId) → Goes (visits pattern_adds terms p input scope)
    goes_visits (bind_pattern ty var p) input scope = goes_visits p input (bound_by scope var input)
    goes_visits (var_pattern ty var) input scope =
        goes_some (scope var) (λ other. in_turn (asks pattern_adds (match_equal input other ty)) (λ _. done scope)) stuck
        (λ other at. goes_told (match_equal input other ty) scope (omega arith)) goes_stuck
    goes_visits (bool_pattern ty val) input scope = goes_told (match_bool input ty val) scope (omega arith)
    goes_visits (int_pattern ty val) input scope = goes_told (match_int input ty val) scope (omega arith)
    goes_visits (prim_pattern ty val) input scope = goes_told (match_prim input ty val) scope (omega arith)
    goes_visits (term_pattern ty id ps) input scope =
        goes_some (opening terms ty id input)
        (λ call. in_turn (asks pattern_adds call) (λ ids. visits_all pattern_adds terms ps ids scope)) stuck
        (λ call at. goes_turn (asks pattern_adds call) (λ ids. visits_all pattern_adds terms ps ids scope)
        (goes_asks pattern_adds call (goes_pattern call (opening_few ty id input call at))) (λ ids. goes_all ps ids scope)) goes_stuck
    goes_visits (wildcard_pattern ty) input scope = goes_done scope
    goes_visits (and_pattern ty ps) input scope = goes_both ps input scope

    goes_all : (ps : InternedPatterns) (ids : List BindingId) (scope : VisitScope BindingId) → Goes (visits_all pattern_adds terms ps ids scope)
    goes_all no_patterns ids scope = goes_done scope
    goes_all (more_patterns p ps) [] scope = goes_stuck
    goes_all (more_patterns p ps) (id ∷ ids) scope =
        goes_turn (visits pattern_adds terms p id scope) (λ after. visits_all pattern_adds terms ps ids after) (goes_visits p id scope)
        (λ after. goes_all ps ids after)

    goes_both : (ps : InternedPatterns) (input : BindingId) (scope : VisitScope BindingId) → Goes (visits_each pattern_adds terms ps input scope)
    goes_both no_patterns input scope = goes_done scope
    goes_both (more_patterns p ps) input scope =
        goes_turn (visits pattern_adds terms p input scope) (λ after. visits_each pattern_adds terms ps input after) (goes_visits p input scope)
        (λ after. goes_both ps input after)

  goes_value : (call : ExprCall BindingId) → Goes (asks expr_adds call)
  goes_value call = goes_asks expr_adds call (goes_expr_call call)

  mutual
    goes_expr : (e : InternedExpr) (scope : VisitScope BindingId) → Goes (visits_expr expr_adds terms e scope)
    goes_expr (term_expr ty id es) scope =
        let make = λ (known : Term) (inputs : List (BindingId × TypeId)).
        on_some (making_of known.kind ty id inputs) (λ call. asks expr_adds call) stuck in
        goes_some (slice_get terms id.0) (λ known. in_turn (visits_exprs expr_adds terms es known.arg_tys [] scope) (make known)) stuck
        (λ known at. goes_turn (visits_exprs expr_adds terms es known.arg_tys [] scope) (make known) (goes_exprs es known.arg_tys [] scope)
        (λ inputs. goes_some (making_of known.kind ty id inputs) (λ call. asks expr_adds call) stuck (λ call is. goes_value call) goes_stuck))
        goes_stuck
    goes_expr (var_expr ty var) scope = goes_some (scope var) (λ value. done value) stuck (λ value at. goes_done value) goes_stuck
    goes_expr (bool_expr ty val) scope = goes_value (const_bool ty val)
    goes_expr (int_expr ty val) scope = goes_value (const_int ty val)
    goes_expr (prim_expr ty val) scope = goes_value (const_prim ty val)
    goes_expr (let_expr ty bs body) scope =
        goes_turn (visits_bindings expr_adds terms bs scope) (λ inner. visits_expr expr_adds terms body inner) (goes_bindings bs scope)
        (λ inner. goes_expr body inner)

    goes_exprs : (es : InternedExprs) (tys : List TypeId) (before : List (BindingId × TypeId)) (scope : VisitScope BindingId)
        → Goes (visits_exprs expr_adds terms es tys before scope)
    goes_exprs no_exprs tys before scope = goes_done before
    goes_exprs (more_exprs e es) [] before scope = goes_stuck
    goes_exprs (more_exprs e es) (ty ∷ tys) before scope =
        goes_turn (visits_expr expr_adds terms e scope) (λ value. visits_exprs expr_adds terms es tys (before ++ (value, ty) ∷ []) scope)
        (goes_expr e scope) (λ value. goes_exprs es tys (before ++ (value, ty) ∷ []) scope)

    goes_bindings : (bs : InternedBindings) (scope : VisitScope BindingId) → Goes (visits_bindings expr_adds terms bs scope)
    goes_bindings no_bindings scope = goes_done scope
    goes_bindings (more_bindings var ty e bs) scope =
        goes_turn (visits_expr expr_adds terms e scope) (λ value. visits_bindings expr_adds terms bs (bound_by scope var value))
        (goes_expr e scope) (λ value. goes_bindings bs (bound_by scope var value))

  goes_typed : (expr : Expr) (scope : VisitScope BindingId) → Goes (visits_typed expr_adds terms expr scope)
  goes_typed expr scope =
      let inside = goes_expr (expr_of expr) scope in record {
        total = λ s. elim (inside.total s) [ inl (v, s', h) ↦ inl ((type_of_expr expr, v), s', (refl, h)) | inr (s', h) ↦ inr (s', h) ];
        grows = λ s s' v h. inside.grows s s' v.1 h.1;
        past = λ s s' h. elim (inside.past s s' h) [
          | inl (v, end, k, more) ↦ inl ((type_of_expr expr, v), end, (refl, k), more)
          | inr (end, k) ↦ inr (end, k)
        ];
      }

  goes_var : (scope : VisitScope BindingId) (var : VarId) (values : VisitScope BindingId) → Goes (visits_var rule_adds scope var values)
  goes_var scope var values =
      goes_some (scope var) (λ value. in_turn (asks rule_adds.pattern_as_expr value) (λ made. done (bound_by values var made))) (done values)
      (λ value at. goes_turn (asks rule_adds.pattern_as_expr value) (λ made. done (bound_by values var made))
      (goes_asks rule_adds.pattern_as_expr value (goes_done value)) (λ made. goes_done (bound_by values var made))) (goes_done values)

  goes_vars : (scope : VisitScope BindingId) (var more : ℕ) (values : VisitScope BindingId) → Goes (visits_vars rule_adds scope var more values)
  goes_vars scope var zero values = goes_done values
  goes_vars scope var (suc more) values =
      goes_turn (visits_var rule_adds scope (record { 0 = var }) values) (λ after. visits_vars rule_adds scope (var + 1) more after)
      (goes_var scope (record { 0 = var }) values) (λ after. goes_vars scope (var + 1) more after)

  goes_right : (count : ℕ) (expr : Expr) (scope : VisitScope BindingId) → Goes (visits_value rule_adds expr_adds terms count expr scope)
  goes_right count expr scope =
      goes_turn (visits_vars rule_adds scope 0 count no_values) (λ values. in_expr rule_adds (visits_typed expr_adds terms expr values))
      (goes_vars scope 0 count no_values) (λ values. goes_in_expr (visits_typed expr_adds terms expr values) (goes_typed expr values))

  goes_part : (p : Pattern) (input : BindingId) (scope : VisitScope BindingId) → Goes (visits_part rule_adds pattern_adds terms p input scope)
  goes_part p input scope = goes_in_pattern (visits pattern_adds terms (pattern_of p) input scope) (goes_visits (pattern_of p) input scope)

  goes_args : (ps : List Pattern) (tys : List TypeId) (index : ℕ) (scope : VisitScope BindingId) → index + length tys ≤ 255
      → Goes (visits_args rule_adds pattern_adds terms ps tys index scope)
  goes_args [] tys index scope low = goes_done scope
  goes_args (p ∷ ps) [] index scope low = goes_stuck
  goes_args (p ∷ ps) (ty ∷ tys) index scope low =
      let rest = λ (after : VisitScope BindingId). visits_args rule_adds pattern_adds terms ps tys (index + 1) after in
      goes_turn (asks rule_adds.arg (index, ty)) (λ id. in_turn (visits_part rule_adds pattern_adds terms p id scope) rest)
      (goes_asks rule_adds.arg (index, ty) (goes_arg (index, ty) (omega arith)))
      (λ id. goes_turn (visits_part rule_adds pattern_adds terms p id scope) rest (goes_part p id scope)
      (λ after. goes_args ps tys (index + 1) after (omega arith)))

  goes_iflets : (count : ℕ) (is : List IfLet) (scope : VisitScope BindingId)
      → Goes (visits_iflets rule_adds pattern_adds expr_adds terms count is scope)
  goes_iflets count [] scope = goes_done scope
  goes_iflets count (i ∷ is) scope =
      let rest = λ (after : VisitScope BindingId). visits_iflets rule_adds pattern_adds expr_adds terms count is after in
      let part = λ (id : BindingId). visits_part rule_adds pattern_adds terms i.lhs id scope in
      goes_turn (visits_value rule_adds expr_adds terms count i.rhs scope)
      (λ x. in_turn (asks rule_adds.expr_as_pattern x) (λ id. in_turn (part id) rest)) (goes_right count i.rhs scope)
      (λ x. goes_turn (asks rule_adds.expr_as_pattern x) (λ id. in_turn (part id) rest)
      (goes_asks rule_adds.expr_as_pattern x (goes_content x))
      (λ id. goes_turn (part id) rest (goes_part i.lhs id scope) (λ after. goes_iflets count is after)))

  goes_rest : (rule : Rule) (scope : VisitScope BindingId) → Goes (visits_rest rule_adds pattern_adds expr_adds terms rule scope)
  goes_rest rule scope =
      goes_turn (visits_iflets rule_adds pattern_adds expr_adds terms (length rule.vars) rule.iflets scope)
      (λ after. visits_value rule_adds expr_adds terms (length rule.vars) rule.rhs after) (goes_iflets (length rule.vars) rule.iflets scope)
      (λ after. goes_right (length rule.vars) rule.rhs after)

  -- the visit of a rule could go on
  pub goes_rule : (rule : Rule) → Goes (gathers terms rule)
  goes_rule rule =
      goes_some (slice_get terms rule.root_term.0)
      (λ root. in_turn (visits_args rule_adds pattern_adds terms rule.args root.arg_tys 0 no_values)
      (λ scope. visits_rest rule_adds pattern_adds expr_adds terms rule scope)) stuck
      (λ root at. goes_turn (visits_args rule_adds pattern_adds terms rule.args root.arg_tys 0 no_values)
      (λ scope. visits_rest rule_adds pattern_adds expr_adds terms rule scope)
      (goes_args rule.args root.arg_tys 0 no_values (let low = few rule.root_term.0 root at in omega arith))
      (λ scope. goes_rest rule scope)) goes_stuck
