-- Worked cases: what visitors are told of patterns and expressions, in order.
use Rattle.std.proofs.Common.{◌≡◌, ℕ, pos, true, false, List, [], ◌∷◌, ◌++◌, length, None, Some, Ok, Err, refl, inl}
use Rattle.isle_ast.specs.declared.pos.Pos.{Pos}
use Rattle.isle_types.specs.declared.ids.TypeId.{TypeId}
use Rattle.isle_types.specs.declared.ids.TermId.{TermId}
use Rattle.isle_types.specs.declared.ids.VarId.{VarId}
use Rattle.isle_rules.specs.declared.visit.fault.VisitFault.TheVariants.{Undefined}
use Rattle.isle_rules.specs.declared.terms.ConstructorKind.TheVariants.{ExternalConstructor}
use Rattle.isle_rules.specs.declared.terms.ExtractorKind.TheVariants.{ExternalExtractor}
use Rattle.isle_rules.specs.declared.terms.Term.{Term}
use Rattle.isle_rules.specs.declared.terms.TermKind.{TermKind}
use Rattle.isle_rules.specs.declared.terms.TermKind.TheVariants.{EnumVariant, Decl}
use Rattle.isle_rules.specs.Visits.Runs.{Run}
use Rattle.isle_rules.specs.Visits.VisitScopes.{no_values, bound_by}
use Rattle.isle_rules.specs.Visits.InternedTrees.{bind_pattern, var_pattern, int_pattern, term_pattern}
use Rattle.isle_rules.specs.Visits.InternedTrees.{wildcard_pattern, and_pattern, no_patterns, more_patterns, term_expr, var_expr}
use Rattle.isle_rules.specs.Visits.InternedTrees.{int_expr, let_expr, no_exprs, more_exprs, no_bindings, more_bindings}
use Rattle.isle_rules.specs.Visits.VisitorCalls.{PatternCall, match_equal, match_bool, match_int, match_prim, match_variant, extract_struct}
use Rattle.isle_rules.specs.Visits.VisitorCalls.{extract_outputs, ExprCall, const_int, construct, create_variant, opening, making_of}
use Rattle.isle_rules.specs.Visits.Events.{visits, visits_expr}

abbrev here : Pos
here = record { file = 0; offset = 0 }

abbrev ty : ℕ → TypeId
ty number = record { 0 = number }

abbrev var : ℕ → VarId
var number = record { 0 = number }

abbrev id : ℕ → TermId
id number = record { 0 = number }

abbrev term_of : ℕ → List TypeId → TypeId → TermKind → Term
term_of number args ret kind = record { id = id number; decl_pos = here; name = record { 0 = number }; arg_tys = args; ret_ty = ret; kind = kind }

-- Op.Add of two u8; a pure, partial constructor `f` of two u8; an infallible extractor `g` with one output
abbrev terms : List Term
terms =
    term_of 0 (ty 1 ∷ ty 1 ∷ []) (ty 13) (EnumVariant (record { 0 = 4 }))
    ∷ term_of 1 (ty 1 ∷ ty 1 ∷ []) (ty 2)
    (Decl (record { pure = true; multi = false; partial = true; rec = false }) (Some (ExternalConstructor (record { 0 = 9 }))) None)
    ∷ term_of 2 (ty 1 ∷ []) (ty 2)
    (Decl (record { pure = true; multi = false; partial = false; rec = false }) None (Some (ExternalExtractor (record { 0 = 8 }) true here)))
    ∷ []

-- a visitor of patterns that notes what it is told, and names the two values of a variant 1 and 2
abbrev named : PatternCall ℕ → List ℕ
named (match_equal a b at) = []
named (match_bool input at val) = []
named (match_int input at val) = []
named (match_prim input at val) = []
named (match_variant input at tys variant) = 1 ∷ 2 ∷ []
named (extract_struct input at tys) = []
named (extract_outputs input at tys term infallible multi) = 7 ∷ []

abbrev notes : PatternCall ℕ → Run (List (PatternCall ℕ)) (List ℕ)
notes call s (Ok ids) s' = (ids ≡ named call) × (s' ≡ s ++ call ∷ [])
notes call s (Err f) s' = ⊥

-- (and x (Op.Add 5 x)): the value is bound, taken apart, and its parts are matched from left to right
add_of_five : visits notes terms
    (and_pattern (ty 13) (more_patterns (bind_pattern (ty 13) (var 0) (wildcard_pattern (ty 13))) (more_patterns
    (term_pattern (ty 13) (id 0) (more_patterns (int_pattern (ty 1) (pos 5)) (more_patterns (var_pattern (ty 1) (var 0)) no_patterns))) no_patterns)))
    0 no_values [] (Ok (bound_by no_values (var 0) 0))
    (match_variant 0 (ty 13) (ty 1 ∷ ty 1 ∷ []) (record { 0 = 4 }) ∷ match_int 1 (ty 1) (pos 5) ∷ match_equal 2 0 (ty 1) ∷ [])
add_of_five = (
  _,
  _,
  (refl, refl),
  (_, _, (_, _, (refl, refl), (_, _, (_, _, (refl, refl), (refl, refl)), (_, _, (_, _, (refl, refl), (refl, refl)), (refl, refl)))), (refl, refl)),
)

-- an extractor is told with the term's own type, as one that always gives its outputs
outputs : opening {Id = ℕ} terms (ty 5) (id 2) 3 ≡ Some (extract_outputs 3 (ty 2) (ty 1 ∷ []) (id 2) true false)
outputs = refl

-- a term that has only a constructor isn't told, nor one that isn't there
not_told : (opening {Id = ℕ} terms (ty 2) (id 1) 3 ≡ None) × (opening {Id = ℕ} terms (ty 2) (id 3) 3 ≡ None)
not_told = (refl, refl)

-- a pattern of such a term is a fault, and nothing is told
no_extractor : visits notes terms (term_pattern (ty 2) (id 1) no_patterns) 0 no_values [] (Err Undefined) []
no_extractor = (inl refl, refl)

-- a visitor of expressions that notes what it is told, and names each value by how much was told before
abbrev tells : ExprCall ℕ → Run (List (ExprCall ℕ)) ℕ
tells call s (Ok value) s' = (value ≡ length s) × (s' ≡ s ++ call ∷ [])
tells call s (Err f) s' = ⊥

-- (let ((y u8 5)) (f x y)), where x is 9: the value, then the call, which is pure and may fail
call_under_let : visits_expr tells terms
    (let_expr (ty 2) (more_bindings (var 1) (ty 1) (int_expr (ty 1) (pos 5)) no_bindings)
    (term_expr (ty 2) (id 1) (more_exprs (var_expr (ty 1) (var 0)) (more_exprs (var_expr (ty 1) (var 1)) no_exprs))))
    (bound_by no_values (var 0) 9) [] (Ok 1)
    (const_int (ty 1) (pos 5) ∷ construct ((9, ty 1) ∷ (0, ty 1) ∷ []) (ty 2) (id 1) true false false false ∷ [])
call_under_let = (
  _,
  _,
  (_, _, (refl, refl), (refl, refl)),
  (_, _, (_, _, (refl, refl), (_, _, (refl, refl), (refl, refl))), (refl, refl)),
)

-- a variable that isn't bound ends a visit with a fault alone
unbound : visits_expr tells terms (var_expr (ty 1) (var 0)) no_values [] (Err Undefined) []
unbound = (inl refl, refl)

unbound_has_no_value : (value : ℕ) (after : List (ExprCall ℕ)) → visits_expr tells terms (var_expr (ty 1) (var 0)) no_values [] (Ok value) after → ⊥
unbound_has_no_value value after none = none

-- a variant is made, and what has only an extractor isn't
made : (making_of {Id = ℕ} (EnumVariant (record { 0 = 4 })) (ty 13) (id 0) ((1, ty 1) ∷ [])
    ≡ Some (create_variant ((1, ty 1) ∷ []) (ty 13) (record { 0 = 4 })))
    × (making_of {Id = ℕ} (Decl (record { pure = true; multi = false; partial = false; rec = false }) None None) (ty 2) (id 2) [] ≡ None)
made = (refl, refl)
