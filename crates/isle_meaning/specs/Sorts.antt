-- What kind of thing a site holds, and when a demand is of the kinds of its sites.
use Rattle.std.specs.Prelude.{◌≡◌, ℕ, Bool, true, false, List, [], ◌∷◌}
use Rattle.isle_meaning.specs.Facts.{TermFacts, nth_type}
use Rattle.isle_meaning.specs.Sites.{Site, bool_site, int_site, prim_site, argument, extractor_call, constructor_call, iterator}
use Rattle.isle_meaning.specs.Sites.{make_variant, match_variant, make_struct, extract_struct, make_some, match_some, match_tuple}
use Rattle.isle_meaning.specs.Demands.{Demand, constrained, equal, variant_constraint, struct_constraint, bool_constraint}
use Rattle.isle_meaning.specs.Demands.{int_constraint, prim_constraint, some_constraint}

-- a value of a type, some outputs, an option, or the answers of a multi call
pub data Sort : Type 0 where
  plain_sort : ℕ → Sort
  tuple_sort : List ℕ → Sort
  option_sort : Sort → Sort
  list_sort : Sort → Sort

-- one output is a value
abbrev pub of_outputs : List ℕ → Sort
of_outputs [] = tuple_sort []
of_outputs (t ∷ []) = plain_sort t
of_outputs (t ∷ (u ∷ us)) = tuple_sort (t ∷ (u ∷ us))

-- what an extractor's call holds
abbrev pub extract_sort : Bool → Bool → Sort → Sort
extract_sort true infallible k = list_sort k
extract_sort false true k = k
extract_sort false false k = option_sort k

-- what a constructor's call holds
abbrev pub construct_sort : Bool → Bool → Sort → Sort
construct_sort true partial k = list_sort k
construct_sort false true k = option_sort k
construct_sort false false k = k

abbrev pub inner_sort : Sort → Sort
inner_sort (plain_sort t) = plain_sort t
inner_sort (tuple_sort ts) = tuple_sort ts
inner_sort (option_sort k) = k
inner_sort (list_sort k) = k

abbrev pub output_sort : Sort → ℕ → Sort
output_sort (plain_sort t) i = plain_sort t
output_sort (tuple_sort ts) i = plain_sort (nth_type ts i)
output_sort (option_sort k) i = option_sort k
output_sort (list_sort k) i = list_sort k

-- a field's, by its source's alone
abbrev pub field_sort : (ℕ → List ℕ) → Sort → ℕ → Sort
field_sort fields (plain_sort t) i = plain_sort (nth_type (fields t) i)
field_sort fields (tuple_sort ts) i = tuple_sort ts
field_sort fields (option_sort k) i = option_sort k
field_sort fields (list_sort k) i = list_sort k

-- of a rule whose arguments have these types
abbrev pub sort : TermFacts → List ℕ → Site → Sort
sort facts tys (bool_site b ty) = plain_sort ty
sort facts tys (int_site n ty) = plain_sort ty
sort facts tys (prim_site n) = plain_sort (facts.constant_type n)
sort facts tys (argument i) = plain_sort (nth_type tys i)
sort facts tys (extractor_call t s) = extract_sort (facts.multi t) (facts.infallible t) (of_outputs (facts.inputs t))
sort facts tys (constructor_call t ss i) = construct_sort (facts.multi t) (facts.partial t) (plain_sort (facts.type_of t))
sort facts tys (iterator s) = inner_sort (sort facts tys s)
sort facts tys (make_variant ty k ss) = plain_sort ty
sort facts tys (match_variant s k i) = field_sort (λ t. facts.variant_fields t k) (sort facts tys s) i
sort facts tys (make_struct ty ss) = plain_sort ty
sort facts tys (extract_struct s i) = field_sort facts.struct_fields (sort facts tys s) i
sort facts tys (make_some s) = option_sort (sort facts tys s)
sort facts tys (match_some s) = inner_sort (sort facts tys s)
sort facts tys (match_tuple s i) = output_sort (sort facts tys s) i

-- a constraint is one of its site's type, an equality of two sites of one type
abbrev pub Suits : TermFacts → List ℕ → Demand → Type 0
Suits facts tys (constrained s (variant_constraint ty k n)) = sort facts tys s ≡ plain_sort ty
Suits facts tys (constrained s (struct_constraint ty n)) = sort facts tys s ≡ plain_sort ty
Suits facts tys (constrained s (bool_constraint b ty)) = sort facts tys s ≡ plain_sort ty
Suits facts tys (constrained s (int_constraint n ty)) = sort facts tys s ≡ plain_sort ty
Suits facts tys (constrained s (prim_constraint n)) = (ty : ℕ) × (sort facts tys s ≡ plain_sort ty)
Suits facts tys (constrained s some_constraint) = (k : Sort) × (sort facts tys s ≡ option_sort k)
Suits facts tys (equal s u) = (ty : ℕ) × (sort facts tys s ≡ plain_sort ty) × (sort facts tys u ≡ plain_sort ty)

abbrev pub AllSuit : TermFacts → List ℕ → (Demand → Type 0) → Type 0
AllSuit facts tys D = (d : Demand) → D d → Suits facts tys d
