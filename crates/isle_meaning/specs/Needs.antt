-- The visitor's road over a rule: the sites that it needs, in the order in which it meets them, and its impure calls.
use Rattle.std.specs.Prelude.{◌≡◌, ◌⊎◌, ◌<◌, ℕ, zero, suc, Bool, true, false, List, [], ◌∷◌, ◌++◌, length}
use Rattle.isle_rules.specs.TypedRules.{TypedPattern, typed_bind, typed_var, typed_bool, typed_int, typed_prim, typed_term, typed_wildcard}
use Rattle.isle_rules.specs.TypedRules.{typed_and, TypedPatterns, no_typed, more_typed, TypedExpr, built_var, built_bool, built_int}
use Rattle.isle_rules.specs.TypedRules.{built_prim, built_term, built_let, TypedExprs, no_built, more_built, TypedBindings, no_typed_bindings}
use Rattle.isle_rules.specs.TypedRules.{more_typed_bindings, TypedIfLet, TypedRule}
use Rattle.isle_meaning.specs.Facts.{TermShape, variant_shape, struct_shape, declared_shape, TermFacts, patterns}
use Rattle.isle_meaning.specs.Words.{set}
use Rattle.isle_meaning.specs.Sites.{Site, bool_site, int_site, prim_site, argument, extractor_call, constructor_call, iterator}
use Rattle.isle_meaning.specs.Sites.{make_variant, match_variant, make_struct, extract_struct, match_some, match_tuple, Sites}
use Rattle.isle_meaning.specs.Sites.{no_sites, more_sites, answer_site, extract_site}
use Rattle.isle_meaning.specs.Demands.{variant_constraint, struct_constraint, bool_constraint, int_constraint, prim_constraint}
use Rattle.isle_meaning.specs.Demands.{some_constraint, Demand, constrained, equal, parts, bound, iflet_site, args_bound, vars_of}

-- so many sites, from an index on
abbrev pub from_on : (ℕ → Site) → ℕ → ℕ → List Site
from_on at i zero = []
from_on at i (suc n) = at i ∷ from_on at (suc i) n

-- what an extractor's call gives, where that is another site
abbrev pub extract_needs : Bool → Bool → Site → List Site
extract_needs true infallible s = iterator s ∷ []
extract_needs false true s = []
extract_needs false false s = match_some s ∷ []

-- which outputs are sites of their own
abbrev pub output_needs : ℕ → Site → List Site
output_needs zero s = []
output_needs (suc zero) s = []
output_needs (suc (suc n)) s = from_on (match_tuple s) 0 (suc (suc n))

-- what a term's pattern needs: all fields, or the call, what it gives and its outputs
abbrev pub open_needs : TermFacts → TermShape → ℕ → ℕ → Site → List Site
open_needs facts (variant_shape k) t n s = from_on (match_variant s k) 0 n
open_needs facts struct_shape t n s = from_on (extract_struct s) 0 n
open_needs facts declared_shape t n s =
    extractor_call t s ∷ (extract_needs (facts.multi t) (facts.infallible t) (extractor_call t s)
    ++ output_needs n (extract_site (facts.multi t) (facts.infallible t) (extractor_call t s)))

abbrev mutual
  pub needs : TermFacts → TypedPattern → Site → List Site
  needs facts (typed_bind ty k p) s = needs facts p s
  needs facts (typed_var ty k) s = []
  needs facts (typed_bool ty b) s = []
  needs facts (typed_int ty n) s = []
  needs facts (typed_prim ty n) s = []
  needs facts (typed_term ty t ps) s =
      open_needs facts (facts.shape t) t (patterns ps) s ++ needs_all facts ps (parts facts (facts.shape t) t (patterns ps) s)
  needs facts (typed_wildcard ty) s = []
  needs facts (typed_and ty ps) s = needs_all facts ps (λ i. s)

  pub needs_all : TermFacts → TypedPatterns → (ℕ → Site) → List Site
  needs_all facts no_typed at = []
  needs_all facts (more_typed p ps) at = needs facts p (at 0) ++ needs_all facts ps (λ i. at (suc i))

-- each argument, then its pattern
abbrev pub args_needs : TermFacts → TypedPatterns → ℕ → List Site
args_needs facts no_typed i = []
args_needs facts (more_typed p ps) i = argument i ∷ (needs facts p (argument i) ++ args_needs facts ps (suc i))

-- the sites needed and the impure calls so far
pub record Log : Type 0 where
  pub needed : List Site
  pub impure : List Site

abbrev pub need : List Site → Log → Log
need ss log = record { needed = log.needed ++ ss; impure = log.impure }

-- a call with its number, and what it gives where that is another site
abbrev pub answer_needs : Bool → Bool → Site → List Site
answer_needs true partial s = s ∷ iterator s ∷ []
answer_needs false true s = s ∷ match_some s ∷ []
answer_needs false false s = s ∷ []

abbrev pub called : TermFacts → Bool → ℕ → Sites × Log → Site × Log
called facts true t r = (
  answer_site (facts.multi t) (facts.partial t) (constructor_call t (r.0) zero),
  need (answer_needs (facts.multi t) (facts.partial t) (constructor_call t (r.0) zero)) (r.1),
)
called facts false t r =
    let call = constructor_call t (r.0) (suc (length (r.1.impure))) in
    let log = need (answer_needs (facts.multi t) (facts.partial t) call) (r.1) in (
      answer_site (facts.multi t) (facts.partial t) call,
      record {
        needed = log.needed;
        impure =
            log.impure ++ answer_site (facts.multi t) (facts.partial t) call ∷ [];
      },
    )

abbrev pub applied : TermFacts → TermShape → ℕ → ℕ → Sites × Log → Site × Log
applied facts (variant_shape k) ty t r = (make_variant ty k (r.0), need (make_variant ty k (r.0) ∷ []) (r.1))
applied facts struct_shape ty t r = (make_struct ty (r.0), need (make_struct ty (r.0) ∷ []) (r.1))
applied facts declared_shape ty t r = called facts (facts.pure t) t r

-- an expression's site, and the log after it
abbrev mutual
  pub visit : TermFacts → (ℕ → Site) → Log → TypedExpr → Site × Log
  visit facts vars log (built_var ty k) = (vars k, log)
  visit facts vars log (built_bool ty b) = (bool_site b ty, need (bool_site b ty ∷ []) log)
  visit facts vars log (built_int ty n) = (int_site n ty, need (int_site n ty ∷ []) log)
  visit facts vars log (built_prim ty n) = (prim_site n, need (prim_site n ∷ []) log)
  visit facts vars log (built_term ty t es) = applied facts (facts.shape t) ty t (visit_all facts vars log es)
  visit facts vars log (built_let ty bs body) = visit facts ((visit_lets facts vars log bs).0) ((visit_lets facts vars log bs).1) body

  pub visit_all : TermFacts → (ℕ → Site) → Log → TypedExprs → Sites × Log
  visit_all facts vars log no_built = (no_sites, log)
  visit_all facts vars log (more_built e es) = (
    more_sites ((visit facts vars log e).0) ((visit_all facts vars ((visit facts vars log e).1) es).0),
    (visit_all facts vars ((visit facts vars log e).1) es).1,
  )

  pub visit_lets : TermFacts → (ℕ → Site) → Log → TypedBindings → (ℕ → Site) × Log
  visit_lets facts vars log no_typed_bindings = (vars, log)
  visit_lets facts vars log (more_typed_bindings k ty e bs) =
      visit_lets facts (set vars k ((visit facts vars log e).0)) ((visit facts vars log e).1) bs

abbrev pub no_log : Log
no_log = record { needed = []; impure = [] }

-- each if-let's expression, then its pattern
abbrev pub iflets_needs : TermFacts → List TypedIfLet → (ℕ → Site) → List Site
iflets_needs facts [] vars = []
iflets_needs facts (x ∷ xs) vars =
    (visit facts vars no_log x.value).1.needed
    ++ (needs facts x.pattern (iflet_site facts vars x) ++ iflets_needs facts xs (bound facts x.pattern (iflet_site facts vars x) vars))

-- all that a rule needs, in order
abbrev pub needs_of : TermFacts → TypedRule → List Site
needs_of facts rule =
    args_needs facts rule.args 0
    ++ (iflets_needs facts rule.iflets (args_bound facts rule) ++ (visit facts (vars_of facts rule) no_log rule.right).1.needed)

abbrev pub IsNeeded : List Site → Site → Type 0
IsNeeded [] s = ⊥
IsNeeded (t ∷ ts) s = (s ≡ t) ⊎ IsNeeded ts s

-- all fields of a demanded variant or struct are needed
abbrev pub FieldsAreNeeded : (Site → Type 0) → Demand → Type 0
FieldsAreNeeded N (constrained s (variant_constraint ty k n)) = (i : ℕ) → i < n → N (match_variant s k i)
FieldsAreNeeded N (constrained s (struct_constraint ty n)) = (i : ℕ) → i < n → N (extract_struct s i)
FieldsAreNeeded N (constrained s (bool_constraint b ty)) = Unit {0}
FieldsAreNeeded N (constrained s (int_constraint n ty)) = Unit {0}
FieldsAreNeeded N (constrained s (prim_constraint n)) = Unit {0}
FieldsAreNeeded N (constrained s some_constraint) = Unit {0}
FieldsAreNeeded N (equal s u) = Unit {0}
