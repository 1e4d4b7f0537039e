-- All fields of demanded variants and structs are needed.
use Rattle.std.proofs.Common.{◌≡◌, inl, inr, ℕ, zero, suc, ◌<◌, ◌+◌, List, [], ◌∷◌, ◌++◌, Bool, true, false, ◌∙◌, ap, subst, arith}
use Rattle.isle_rules.specs.TypedRules.{TypedPattern, typed_bind, typed_var, typed_bool, typed_int, typed_prim, typed_term, typed_wildcard}
use Rattle.isle_rules.specs.TypedRules.{typed_and, TypedPatterns, no_typed, more_typed, TypedIfLet}
use Rattle.isle_meaning.specs.Facts.{TermShape, variant_shape, struct_shape, declared_shape, TermFacts, patterns}
use Rattle.isle_meaning.specs.Sites.{Site, bool_site, int_site, prim_site, argument, extractor_call, constructor_call, iterator}
use Rattle.isle_meaning.specs.Sites.{make_variant, match_variant, make_struct, extract_struct, make_some, match_some, match_tuple}
use Rattle.isle_meaning.specs.Sites.{Sites, no_sites, more_sites}
use Rattle.isle_meaning.specs.Demands.{variant_constraint, struct_constraint, bool_constraint, int_constraint, prim_constraint}
use Rattle.isle_meaning.specs.Demands.{some_constraint, Demand, constrained, equal, extractor_demands, opens, parts, bound, demands}
use Rattle.isle_meaning.specs.Demands.{demands_all, contents, contents_all, iflet_site, iflets_demands, demands_of, args_bound, vars_of, nothing}
use Rattle.isle_meaning.specs.Holds.{Each}
use Rattle.isle_meaning.specs.Needs.{from_on, open_needs, needs, needs_all, args_needs, iflets_needs, visit, no_log, needs_of}
use Rattle.isle_meaning.specs.Needs.{IsNeeded, FieldsAreNeeded}
use Rattle.isle_meaning.specs.Laws.Matching.{NeedsHaveFields}
use Rattle.isle_meaning.proofs.Matching.Basics.{each_append}
use Rattle.isle_meaning.proofs.Matching.Sorting.{among}

needed_left : (s : Site) (xs ys : List Site) → IsNeeded xs s → IsNeeded (xs ++ ys) s
needed_left s [] ys h = absurd h
needed_left s (x ∷ xs) ys (inl e) = inl e
needed_left s (x ∷ xs) ys (inr h) = inr (needed_left s xs ys h)

needed_right : (s : Site) (xs ys : List Site) → IsNeeded ys s → IsNeeded (xs ++ ys) s
needed_right s [] ys h = h
needed_right s (x ∷ xs) ys h = inr (needed_right s xs ys h)

from_on_has : (at : ℕ → Site) (j n i : ℕ) → i < n → IsNeeded (from_on at j n) (at (j + i))
from_on_has at j zero i l = absurd (omega arith)
from_on_has at j (suc n) zero l = inl (ap at (omega arith))
from_on_has at j (suc n) (suc i) l =
    inr (subst (λ (z : ℕ). IsNeeded (from_on at (suc j) n) (at z)) (let e : suc j + i ≡ j + suc i =
    omega arith in e) (from_on_has at (suc j) n i (omega arith)))

from_start : (at : ℕ → Site) (n i : ℕ) → i < n → IsNeeded (from_on at 0 n) (at i)
from_start at n i l = subst (λ (z : ℕ). IsNeeded (from_on at 0 n) (at z)) (let e : 0 + i ≡ i = omega arith in e) (from_on_has at 0 n i l)

fields_more : (N M : Site → Type 0) → ((s : Site) → N s → M s) → (d : Demand) → FieldsAreNeeded N d → FieldsAreNeeded M d
fields_more N M f (constrained s (variant_constraint ty k n)) h = λ i l. f _ (h i l)
fields_more N M f (constrained s (struct_constraint ty n)) h = λ i l. f _ (h i l)
fields_more N M f (constrained s (bool_constraint b ty)) h = tt
fields_more N M f (constrained s (int_constraint n ty)) h = tt
fields_more N M f (constrained s (prim_constraint n)) h = tt
fields_more N M f (constrained s some_constraint) h = tt
fields_more N M f (equal s u) h = tt

abbrev All : List Site → List Demand → Type 0
All N ds = Each (FieldsAreNeeded (IsNeeded N)) ds

all_more : (N M : List Site) → ((s : Site) → IsNeeded N s → IsNeeded M s) → (ds : List Demand) → All N ds → All M ds
all_more N M f [] h = tt
all_more N M f (d ∷ ds) h = (fields_more (IsNeeded N) (IsNeeded M) f d (h.0), all_more N M f ds (h.1))

both : (N M : List Site) (ds es : List Demand) → All N ds → All M es → All (N ++ M) (ds ++ es)
both N M ds es h g =
    each_append (FieldsAreNeeded (IsNeeded (N ++ M))) ds es (all_more N (N ++ M) (λ s i. needed_left s N M i) ds h)
    (all_more M (N ++ M) (λ s i. needed_right s N M i) es g)

contents_need : (N : List Site) → (m b : Bool) (s : Site) → All N (extractor_demands m b s)
contents_need N true b s = tt
contents_need N false true s = tt
contents_need N false false s = (tt, tt)

mutual
  some_alone : (N : List Site) (s : Site) → All N (contents s)
  some_alone N (bool_site b ty) = tt
  some_alone N (int_site n ty) = tt
  some_alone N (prim_site n) = tt
  some_alone N (argument k) = tt
  some_alone N (extractor_call t s) = some_alone N s
  some_alone N (constructor_call t ss k) = some_all_alone N ss
  some_alone N (iterator s) = some_alone N s
  some_alone N (make_variant ty k ss) = some_all_alone N ss
  some_alone N (match_variant s k j) = some_alone N s
  some_alone N (make_struct ty ss) = some_all_alone N ss
  some_alone N (extract_struct s j) = some_alone N s
  some_alone N (make_some s) = some_alone N s
  some_alone N (match_some s) = (tt, some_alone N s)
  some_alone N (match_tuple s j) = some_alone N s

  some_all_alone : (N : List Site) (ss : Sites) → All N (contents_all ss)
  some_all_alone N no_sites = tt
  some_all_alone N (more_sites s ss) =
      each_append (FieldsAreNeeded (IsNeeded N)) (contents s) (contents_all ss) (some_alone N s) (some_all_alone N ss)

module _ (facts : TermFacts) where
  open_all : (shape : TermShape) (ty t n : ℕ) (s : Site) → All (open_needs facts shape t n s) (opens facts shape ty t n s)
  open_all (variant_shape k) ty t n s = (λ i l. from_start (match_variant s k) n i l, tt)
  open_all struct_shape ty t n s = (λ i l. from_start (extract_struct s) n i l, tt)
  open_all declared_shape ty t n s =
      contents_need (open_needs facts declared_shape t n s) (facts.multi t) (facts.infallible t) (extractor_call t s)

  mutual
    needing : (p : TypedPattern) (s : Site) (vars : ℕ → Site) → All (needs facts p s) (demands facts p s vars)
    needing (typed_bind ty k p) s vars = needing p s vars
    needing (typed_var ty k) s vars = (tt, tt)
    needing (typed_bool ty b) s vars = (tt, tt)
    needing (typed_int ty n) s vars = (tt, tt)
    needing (typed_prim ty n) s vars = (tt, tt)
    needing (typed_term ty t ps) s vars =
        both (open_needs facts (facts.shape t) t (patterns ps) s) _ (opens facts (facts.shape t) ty t (patterns ps) s) _
        (open_all (facts.shape t) ty t (patterns ps) s) (needing_all ps (parts facts (facts.shape t) t (patterns ps) s) vars)
    needing (typed_wildcard ty) s vars = tt
    needing (typed_and ty ps) s vars = needing_all ps (λ i. s) vars

    needing_all : (ps : TypedPatterns) (at : ℕ → Site) (vars : ℕ → Site) → All (needs_all facts ps at) (demands_all facts ps at vars)
    needing_all no_typed at vars = tt
    needing_all (more_typed p ps) at vars =
        both (needs facts p (at 0)) (needs_all facts ps (λ i. at (suc i))) (demands facts p (at 0) vars) _ (needing p (at 0) vars)
        (needing_all ps (λ i. at (suc i)) (bound facts p (at 0) vars))

  -- arguments, from an index on
  needing_args : (ps : TypedPatterns) (j : ℕ) (at : ℕ → Site) (vars : ℕ → Site) → ((i : ℕ) → at i ≡ argument (j + i))
      → All (args_needs facts ps j) (demands_all facts ps at vars)
  needing_args no_typed j at vars e = tt
  needing_args (more_typed p ps) j at vars e =
      let first : All (needs facts p (argument j)) (demands facts p (at 0) vars) =
      subst (λ (z : Site). All (needs facts p z) (demands facts p (at 0) vars)) (e 0 ∙ ap argument (let q : j + 0 ≡ j =
      omega arith in q)) (needing p (at 0) vars) in
      let rest = needing_args ps (suc j) (λ i. at (suc i)) (bound facts p (at 0) vars) (λ i. e (suc i)
      ∙ ap argument (let q : j + suc i ≡ suc j + i = omega arith in q)) in
      all_more (needs facts p (argument j)
      ++ args_needs facts ps (suc j)) (args_needs facts (more_typed p ps) j) (λ s i. inr i)
      (demands_all facts (more_typed p ps) at vars)
      (both (needs facts p (argument j)) (args_needs facts ps (suc j)) (demands facts p (at 0) vars) _ first rest)

  needing_lets : (xs : List TypedIfLet) (vars : ℕ → Site) → All (iflets_needs facts xs vars) (iflets_demands facts xs vars)
  needing_lets [] vars = tt
  needing_lets (x ∷ xs) vars =
      both ((visit facts vars no_log x.value).1.needed) _ (contents (iflet_site facts vars x)) _ (some_alone _ (iflet_site facts vars x))
      (both (needs facts x.pattern (iflet_site facts vars x)) _ (demands facts x.pattern (iflet_site facts vars x) vars) _
      (needing x.pattern (iflet_site facts vars x) vars) (needing_lets xs (bound facts x.pattern (iflet_site facts vars x) vars)))

pub needs_have_fields : NeedsHaveFields
needs_have_fields facts rule d i =
    let last = (visit facts (vars_of facts rule) no_log rule.right).1.needed in
    let first = needing_args facts rule.args 0 argument nothing (λ i. ap argument (let q : i ≡ 0 + i = omega arith in q)) in
    let iflets = needing_lets facts rule.iflets (args_bound facts rule) in
    let more = all_more (iflets_needs facts rule.iflets (args_bound facts rule)) (iflets_needs facts rule.iflets (args_bound facts rule)
    ++ last) (λ s j. needed_left s _ last j) (iflets_demands facts rule.iflets (args_bound facts rule)) iflets in
    among (FieldsAreNeeded (IsNeeded (needs_of facts rule))) (demands_of facts rule)
    (both (args_needs facts rule.args 0) (iflets_needs facts rule.iflets (args_bound facts rule)
    ++ last) (demands_all facts rule.args argument nothing) _ first more) d i
