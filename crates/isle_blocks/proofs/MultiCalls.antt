-- The multi calls of a rule, by the values of them among its sites.
use Rattle.std.proofs.Common.{◌≡◌, ◌⊎◌, inl, inr, ℕ, zero, suc, List, [], ◌∷◌, Option, Some, None, slice_get, refl, sym, ◌∙◌, ap, subst, arith}
use Rattle.std.specs.Prelude.{Contains}
use Rattle.std.specs.List.{filter_map, cons_option}
use Rattle.std.proofs.lemmas.Option.{same_Some, none-some}
use Rattle.std.proofs.lemmas.List.Elements.{Contains-append_left, Contains-append_right, Contains-append_cases}
use Rattle.isle_meaning.specs.Sites.{Site, bool_site, int_site, prim_site, argument, extractor_call, constructor_call, iterator}
use Rattle.isle_meaning.specs.Sites.{make_variant, match_variant, make_struct, extract_struct, make_some, match_some, match_tuple}
use Rattle.isle_meaning.specs.Demands.{Demand}
use Rattle.isle_meaning.specs.Derived.{FieldOf, of_variant, of_struct}
use Rattle.isle_meaning.specs.Numbered.{Row, At, iterator_row}
use Rattle.isle_blocks.specs.declared.ids.BindingId.{BindingId}
use Rattle.isle_blocks.specs.declared.binding.Binding.{Binding}
use Rattle.isle_blocks.specs.declared.binding.Binding.TheVariants as sites
use Rattle.isle_blocks.specs.Inside.Assembly.{multi_call}
use Rattle.isle_blocks.proofs.Counting.{Once, once_both, once_right, place_of}

only_first : {X : Type 0} (x y : X) → Contains (x ∷ []) y → x ≡ y
only_first x y (zero, within, is) = is
only_first x y (suc k, within, is) = absurd (omega arith)

later : {X : Type 0} (x : X) (xs : List X) (y : X) → Contains xs y → Contains (x ∷ xs) y
later x xs y h = Contains-append_right (x ∷ []) xs y h

first : {X : Type 0} (x : X) (xs : List X) → Contains (x ∷ xs) x
first x xs = Contains-append_left (x ∷ []) xs x (0, omega arith, refl)

put_cases : {Y : Type 0} (o : Option Y) (ys : List Y) (y : Y) → Contains (cons_option o ys) y → (o ≡ Some y) ⊎ Contains ys y
put_cases None ys y h = inr h
put_cases (Some z) ys y h = elim (Contains-append_cases (z ∷ []) ys y h) [ inl one ↦ inl (ap Some (only_first z y one)) | inr rest ↦ inr rest ]

put_first : {Y : Type 0} (o : Option Y) (ys : List Y) (y : Y) → o ≡ Some y → Contains (cons_option o ys) y
put_first None ys y e = absurd (none-some y e)
put_first (Some z) ys y e = subst (λ (x : _). Contains (z ∷ ys) x) (same_Some z y e) (first z ys)

put_later : {Y : Type 0} (o : Option Y) (ys : List Y) (y : Y) → Contains ys y → Contains (cons_option o ys) y
put_later None ys y h = h
put_later (Some z) ys y h = later z ys y h

module _ {X Y : Type 0} (f : X → Option Y) where
  -- what is picked comes of an item
  pub picked_of : (xs : List X) (y : Y) → Contains (filter_map f xs) y → (x : X) × Contains xs x × (f x ≡ Some y)
  picked_of [] y h = absurd (let l = h.1 in omega arith)
  picked_of (x ∷ xs) y h = elim (put_cases (f x) (filter_map f xs) y h) [
    | inl here ↦ (x, first x xs, here)
    | inr rest ↦ let (z, among, is) = picked_of xs y rest in (z, later x xs z among, is)
  ]

  -- what an item gives is picked
  pub picked : (xs : List X) (x : X) (y : Y) → Contains xs x → f x ≡ Some y → Contains (filter_map f xs) y
  picked [] x y h e = absurd (let l = h.1 in omega arith)
  picked (z ∷ xs) x y h e = elim (Contains-append_cases (z ∷ []) xs x h) [
    | inl one ↦ put_first (f z) (filter_map f xs) y (ap f (only_first z x one) ∙ e)
    | inr rest ↦ put_later (f z) (filter_map f xs) y (picked xs x y rest e)
  ]

-- what stands nowhere may be put first
single_once : {X : Type 0} (x : X) → Once (x ∷ [])
single_once x zero zero y e f = refl
single_once x zero (suc j) y e f = absurd cc
single_once x (suc i) j y e f = absurd cc

put_once : {Y : Type 0} (o : Option Y) (ys : List Y) → Once ys → ((y : Y) → o ≡ Some y → Contains ys y → ⊥) → Once (cons_option o ys)
put_once None ys once apart = once
put_once {Y} (Some z) ys once apart =
    once_both (z ∷ []) ys (single_once z) once
    (λ y one rest. apart z refl (subst (λ (x : Y). Contains ys x) (sym (only_first z y one)) rest))

-- nothing is picked twice, where what gives it is one item
pub picked_once : {X Y : Type 0} (f : X → Option Y) (xs : List X) → Once xs
    → ((x z : X) (y : Y) → Contains xs x → Contains xs z → f x ≡ Some y → f z ≡ Some y → x ≡ z) → Once (filter_map f xs)
picked_once f [] once one = λ i j y e g. absurd (none-some y e)
picked_once {X} f (x ∷ xs) once one =
    put_once (f x) (filter_map f xs)
    (picked_once f xs (once_right (x ∷ []) xs once) (λ a b y in_a in_b. one a b y (later x xs a in_a) (later x xs b in_b)))
    (λ y is among.
    let (z, inside, also) = picked_of f xs y among in
    let same : x ≡ z = one x z y (first x xs) (later x xs z inside) is also in
    let (k, at) = place_of xs z inside in
    let twice : 0 ≡ suc k = once 0 (suc k) x refl (at ∙ ap Some (sym same)) in omega (arith, twice))

-- a call is of a site that is one value of it
pub call_site : (to : BindingId → BindingId) (site : Binding) (id : BindingId) → multi_call to site ≡ Some id
    → (source : BindingId) × (site ≡ sites.Iterator source) × (to source ≡ id)
call_site to (sites.ConstBool v t) id e = absurd cc
call_site to (sites.ConstInt v t) id e = absurd cc
call_site to (sites.ConstPrim v) id e = absurd cc
call_site to (sites.Argument i) id e = absurd cc
call_site to (sites.Extractor t a) id e = absurd cc
call_site to (sites.Constructor t cs n) id e = absurd cc
call_site to (sites.Iterator a) id e = (a, refl, same_Some (to a) id e)
call_site to (sites.MakeVariant t v cs) id e = absurd cc
call_site to (sites.MatchVariant a v i) id e = absurd cc
call_site to (sites.MakeStruct t cs) id e = absurd cc
call_site to (sites.ExtractStruct a i) id e = absurd cc
call_site to (sites.MakeSome a) id e = absurd cc
call_site to (sites.MatchSome a) id e = absurd cc
call_site to (sites.MatchTuple a i) id e = absurd cc

-- a value of a call as a site
pub as_iterator : (rows : List Row) (t : Site) (k x : ℕ) → slice_get rows k ≡ Some (iterator_row x) → At rows t k
    → (s : Site) × (t ≡ iterator s) × At rows s x
as_iterator rows (bool_site b ty) k x e p = let same = same_Some _ _ (sym e ∙ p) in absurd cc
as_iterator rows (int_site n ty) k x e p = let same = same_Some _ _ (sym e ∙ p) in absurd cc
as_iterator rows (prim_site n) k x e p = let same = same_Some _ _ (sym e ∙ p) in absurd cc
as_iterator rows (argument i) k x e p = let same = same_Some _ _ (sym e ∙ p) in absurd cc
as_iterator rows (extractor_call t s) k x e (j, p, q) = let same = same_Some _ _ (sym e ∙ p) in absurd cc
as_iterator rows (constructor_call t ss i) k x e (j, p, q) = let same = same_Some _ _ (sym e ∙ p) in absurd cc
as_iterator rows (iterator s) k x e (j, p, q) =
    let same = same_Some (iterator_row x) (iterator_row j) (sym e ∙ p) in let one : j ≡ x = cc in (s, refl, subst (λ (z : ℕ). At rows s z) one q)
as_iterator rows (make_variant ty v ss) k x e (j, p, q) = let same = same_Some _ _ (sym e ∙ p) in absurd cc
as_iterator rows (match_variant s v i) k x e (j, p, q) = let same = same_Some _ _ (sym e ∙ p) in absurd cc
as_iterator rows (make_struct ty ss) k x e (j, p, q) = let same = same_Some _ _ (sym e ∙ p) in absurd cc
as_iterator rows (extract_struct s i) k x e (j, p, q) = let same = same_Some _ _ (sym e ∙ p) in absurd cc
as_iterator rows (make_some s) k x e (j, p, q) = let same = same_Some _ _ (sym e ∙ p) in absurd cc
as_iterator rows (match_some s) k x e (j, p, q) = let same = same_Some _ _ (sym e ∙ p) in absurd cc
as_iterator rows (match_tuple s i) k x e (j, p, q) = let same = same_Some _ _ (sym e ∙ p) in absurd cc

-- no field is a value of a call
field_apart : (D : Demand → Type 0) (t u s : Site) → FieldOf D t u → u ≡ iterator s → ⊥
field_apart D t u s (of_variant d l) e = absurd cc
field_apart D t u s (of_struct d l) e = absurd cc

pub no_field : (D : Demand → Type 0) (t s : Site) → FieldOf D t (iterator s) → ⊥
no_field D t s f = field_apart D t (iterator s) s f refl
