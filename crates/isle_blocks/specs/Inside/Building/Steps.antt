-- What each call of a visitor adds to what is gathered.
use Rattle.std.specs.Prelude.{◌≡◌, ℕ, Bool, List, [], map, length, Ok, Err}
use Rattle.isle_types.specs.declared.ids.TermId.{TermId}
use Rattle.isle_types.specs.declared.ids.TypeId.{TypeId}
use Rattle.isle_rules.specs.declared.visit.fault.VisitFault.TheVariants.{Memory}
use Rattle.isle_rules.specs.Visits.Runs.{Run, done, in_turn}
use Rattle.isle_rules.specs.Visits.VisitorCalls.{PatternCall, match_equal, match_bool, match_int, match_prim, match_variant, extract_struct}
use Rattle.isle_rules.specs.Visits.VisitorCalls.{extract_outputs, ExprCall, const_bool, const_int, const_prim, create_variant, create_struct}
use Rattle.isle_rules.specs.Visits.VisitorCalls.{construct}
use Rattle.isle_rules.specs.Visits.RuleSteps.{RuleSteps}
use Rattle.isle_blocks.specs.declared.ids.BindingId.{BindingId}
use Rattle.isle_blocks.specs.declared.binding.Binding.TheVariants as sites
use Rattle.isle_blocks.specs.declared.constraint.Constraint.{Constraint}
use Rattle.isle_blocks.specs.declared.constraint.Constraint.TheVariants as tests
use Rattle.isle_blocks.specs.Constraints.{variant_field, struct_field}
use Rattle.isle_blocks.specs.Inside.Building.Gathering.{Gathered, with_tests, interns, interns_each, takes_demand, equates, fitting, sites_from, extracted}
use Rattle.isle_blocks.specs.Inside.Building.Gathering.{outputs, constructed, numbers, keeps}
use Rattle.isle_blocks.specs.Inside.Building.Contents.{PartsAreBefore, AreAsked}

-- what an extractor's call adds, with so many outputs
abbrev pub takes : BindingId → TermId → (infallible multi : Bool) → ℕ → Run Gathered (List BindingId)
takes input term infallible multi n = in_turn (interns (sites.Extractor term input))
    (λ call. in_turn (extracted multi infallible call) (λ value. outputs n value))

-- what a constructor's call adds
abbrev pub makes : List BindingId → TermId → (pure infallible multi : Bool) → Run Gathered BindingId
makes parameters term pure infallible multi =
    in_turn (numbers pure) (λ instance. in_turn (interns (sites.Constructor term parameters instance))
    (λ call. in_turn (constructed multi infallible call) (λ value. keeps pure value)))

-- what a call of a pattern adds; the numbers of what it names are answered
abbrev pub pattern_adds : PatternCall BindingId → Run Gathered (List BindingId)
pattern_adds (match_equal a b ty) = equates a b
pattern_adds (match_bool input ty val) = takes_demand input (tests.ConstBool val ty)
pattern_adds (match_int input ty val) = takes_demand input (tests.ConstInt val ty)
pattern_adds (match_prim input ty val) = takes_demand input (tests.ConstPrim val)
pattern_adds (match_variant input ty tys variant) = fitting (length tys)
    (in_turn (takes_demand input (tests.Variant ty variant (record { 0 = length tys })))
    (λ _. interns_each (sites_from (variant_field input variant) 0 (length tys)) []))
pattern_adds (extract_struct input ty tys) = fitting (length tys)
    (in_turn (takes_demand input (tests.Struct ty (record { 0 = length tys })))
    (λ _. interns_each (sites_from (struct_field input) 0 (length tys)) []))
pattern_adds (extract_outputs input ty tys term infallible multi) = fitting (length tys) (takes input term infallible multi (length tys))

-- the numbers of values, without their types
abbrev pub values_of : List (BindingId × TypeId) → List BindingId
values_of inputs = map (λ (input : BindingId × TypeId). input.0) inputs

-- what a call of an expression adds; its value's number is answered
abbrev pub expr_adds : ExprCall BindingId → Run Gathered BindingId
expr_adds (const_bool ty val) = interns (sites.ConstBool val ty)
expr_adds (const_int ty val) = interns (sites.ConstInt val ty)
expr_adds (const_prim ty val) = interns (sites.ConstPrim val)
expr_adds (create_variant inputs ty variant) = interns (sites.MakeVariant ty variant (values_of inputs))
expr_adds (create_struct inputs ty) = interns (sites.MakeStruct ty (values_of inputs))
expr_adds (construct inputs ty term pure infallible multi rec) = makes (values_of inputs) term pure infallible multi

-- an argument
abbrev pub arg_adds : ℕ × TypeId → Run Gathered BindingId
arg_adds place = fitting (place.0) (interns (sites.Argument (record { 0 = place.0 })))

-- the options are not to be empty
abbrev pub each_some : List BindingId → List (BindingId × Constraint)
each_some calls = map (λ (call : BindingId). (call, tests.Some)) calls

-- a value is to be matched: each content that it is made of has to be there
abbrev pub content_adds : BindingId → Run Gathered BindingId
content_adds x s (Ok id) s' =
    (id ≡ x) × ((calls : List BindingId) × (PartsAreBefore s.sites → AreAsked s.sites x.0 calls) × (s' ≡ with_tests (each_some calls) s))
content_adds x s (Err f) s' = (f ≡ Memory) × (s ≡ s')

-- the same visitor is handed out and taken back
abbrev pub rule_adds : RuleSteps Gathered Gathered Gathered BindingId BindingId BindingId
rule_adds = record {
  arg = arg_adds;
  expr_as_pattern = content_adds;
  pattern_as_expr = λ id. done id;
  opens_pattern = λ s p. s ≡ p;
  closes_pattern = λ s p s'. p ≡ s';
  opens_expr = λ s p. s ≡ p;
  gives_expr = λ s p v x s'. (v.1 ≡ x) × (p ≡ s');
  closes_expr = λ s p s'. p ≡ s';
  refuses = λ s f s'. ⊥;
}
