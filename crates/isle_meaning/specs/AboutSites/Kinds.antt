-- Sites whose parts are of the kinds that they take, and what a site of a kind holds.
use Rattle.std.specs.Prelude.{◌≡◌, ◌<◌, ◌⊎◌, ℕ, Bool, true, false, List, length}
use Rattle.isle_meaning.specs.Got.{gives}
use Rattle.isle_meaning.specs.Values.{Value, Values, count, nth_of}
use Rattle.isle_meaning.specs.Facts.{TermFacts}
use Rattle.isle_meaning.specs.Held.{Held, held_value, held_outputs, held_none, held_some, held_answers, outputs_of}
use Rattle.isle_meaning.specs.Sites.{Site, bool_site, int_site, prim_site, argument, extractor_call, constructor_call, iterator}
use Rattle.isle_meaning.specs.Sites.{make_variant, match_variant, make_struct, extract_struct, make_some, match_some, match_tuple}
use Rattle.isle_meaning.specs.Sites.{Sites, no_sites, more_sites}
use Rattle.isle_meaning.specs.Sorts.{Sort, plain_sort, tuple_sort, option_sort, list_sort, sort}
use Rattle.isle_meaning.specs.Demands.{Constraint, variant_constraint, struct_constraint, bool_constraint, int_constraint, prim_constraint}
use Rattle.isle_meaning.specs.Demands.{some_constraint, Demand, constrained, equal}

-- a value of some type
abbrev pub IsPlain : Sort → Type 0
IsPlain k = (ty : ℕ) × (k ≡ plain_sort ty)

-- a term may be called: one that isn't `multi`, and where several answers are asked any
abbrev pub MayBeCalled : (several : Bool) → TermFacts → ℕ → Type 0
MayBeCalled false facts t = facts.multi t ≡ false
MayBeCalled true facts t = Unit {0}

-- this, where several answers are asked
abbrev pub OfSeveral : (several : Bool) → Type 0 → Type 0
OfSeveral false P = ⊥
OfSeveral true P = P

-- At every depth arguments are there, calls take values, fields and contents are of values and options, outputs are there, and one value
-- is taken of a list. Only where several answers are asked is a call `multi`.
abbrev mutual
  pub HasItsKind : (several : Bool) → TermFacts → List ℕ → Site → Type 0
  HasItsKind several facts tys (bool_site b ty) = Unit {0}
  HasItsKind several facts tys (int_site n ty) = Unit {0}
  HasItsKind several facts tys (prim_site n) = Unit {0}
  HasItsKind several facts tys (argument i) = i < length tys
  HasItsKind several facts tys (extractor_call t s) =
      HasItsKind several facts tys s × IsPlain (sort facts tys s) × MayBeCalled several facts t
  HasItsKind several facts tys (constructor_call t ss i) = HaveTheirKinds several facts tys ss × MayBeCalled several facts t
  HasItsKind several facts tys (iterator s) =
      OfSeveral several (HasItsKind several facts tys s × ((k : Sort) × (sort facts tys s ≡ list_sort k)))
  HasItsKind several facts tys (make_variant ty k ss) = HaveTheirKinds several facts tys ss
  HasItsKind several facts tys (match_variant s k i) = HasItsKind several facts tys s × IsPlain (sort facts tys s)
  HasItsKind several facts tys (make_struct ty ss) = HaveTheirKinds several facts tys ss
  HasItsKind several facts tys (extract_struct s i) = HasItsKind several facts tys s × IsPlain (sort facts tys s)
  HasItsKind several facts tys (make_some s) = HasItsKind several facts tys s × IsPlain (sort facts tys s)
  HasItsKind several facts tys (match_some s) = HasItsKind several facts tys s × ((k : Sort) × (sort facts tys s ≡ option_sort k))
  HasItsKind several facts tys (match_tuple s i) =
      HasItsKind several facts tys s × ((ts : List ℕ) × (sort facts tys s ≡ tuple_sort ts) × (i < length ts))

  -- and each of these is a value
  pub HaveTheirKinds : (several : Bool) → TermFacts → List ℕ → Sites → Type 0
  HaveTheirKinds several facts tys no_sites = Unit {0}
  HaveTheirKinds several facts tys (more_sites s ss) =
      (HasItsKind several facts tys s × IsPlain (sort facts tys s)) × HaveTheirKinds several facts tys ss

-- so where no call is `multi`
abbrev pub IsKinded : TermFacts → List ℕ → Site → Type 0
IsKinded = HasItsKind false

-- and each of these
abbrev pub AreKinded : TermFacts → List ℕ → Sites → Type 0
AreKinded = HaveTheirKinds false

-- what a site of a kind holds
abbrev pub IsOfKind : Sort → Held → Type 0
IsOfKind (plain_sort ty) h = (v : Value) × (h ≡ held_value v)
IsOfKind (tuple_sort ts) h = (vs : Values) × (h ≡ held_outputs vs) × (count vs ≡ length ts)
IsOfKind (option_sort k) h = (h ≡ held_none) ⊎ ((x : Held) × (h ≡ held_some x) × IsOfKind k x)
IsOfKind (list_sort k) h =
    (l : List Values) × (h ≡ held_answers l) × ((n : ℕ) (vs : Values) → nth_of l n ≡ gives vs → IsOfKind k (outputs_of vs))

-- a constraint has as many fields as its type
abbrev pub HasItsFields : TermFacts → Constraint → Type 0
HasItsFields facts (variant_constraint ty k n) = n ≡ length (facts.variant_fields ty k)
HasItsFields facts (struct_constraint ty n) = n ≡ length (facts.struct_fields ty)
HasItsFields facts (bool_constraint b ty) = Unit {0}
HasItsFields facts (int_constraint n ty) = Unit {0}
HasItsFields facts (prim_constraint n) = Unit {0}
HasItsFields facts some_constraint = Unit {0}

-- a demand is of such sites, and has as many fields as its type
abbrev pub IsOfItsKind : (several : Bool) → TermFacts → List ℕ → Demand → Type 0
IsOfItsKind several facts tys (constrained s c) = HasItsKind several facts tys s × HasItsFields facts c
IsOfItsKind several facts tys (equal s u) = HasItsKind several facts tys s × HasItsKind several facts tys u

-- so where no call is `multi`
abbrev pub IsKindedDemand : TermFacts → List ℕ → Demand → Type 0
IsKindedDemand = IsOfItsKind false
