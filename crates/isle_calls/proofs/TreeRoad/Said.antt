-- What is known of sites: nothing, that there is nothing, or what there is.
use Rattle.std.proofs.Common.{◌≡◌, ◌==◌, ℕ, zero, suc, Bool, true, false, List, [], ◌∷◌, inl, inr, refl}
use Rattle.isle_trees.specs.Rules.{Elem}
use Rattle.isle_meaning.specs.Got.{Got, unknown, fails, gives}
use Rattle.isle_meaning.specs.Held.{Held, held_value, held_outputs, held_none, held_some, held_answers, held, plain, plain_of}
use Rattle.isle_meaning.specs.Held.{field_if, variant_field, struct_field, content_of, output_of}
use Rattle.isle_meaning.specs.Machine.Runs.{values_at, made_of, Comes}
use Rattle.isle_meaning.specs.Machine.Trees.{parts_of_row, is_call}
use Rattle.isle_meaning.specs.Numbered.{Row, bool_row, int_row, prim_row, argument_row, extractor_row, constructor_row, iterator_row}
use Rattle.isle_meaning.specs.Numbered.{make_variant_row, match_variant_row, make_struct_row, extract_struct_row, make_some_row}
use Rattle.isle_meaning.specs.Numbered.{match_some_row, match_tuple_row}
use Rattle.isle_meaning.specs.Outcomes.{missing}
use Rattle.isle_meaning.specs.Values.{Value, Values, bool_value, int_value, constant_value, opaque_value, made_variant, made_struct, no_values, more_values, nth, more, made, built, ask}

-- something is known: that there is nothing, or what there is
abbrev pub IsSaid : {A : Type 0} → Got A → Type 0
IsSaid unknown = ⊥
IsSaid fails = Unit {0}
IsSaid (gives x) = Unit {0}

-- so is what is asked of it
ask_said : {A B : Type 0} (f : A → Got B) (g : Got A) → IsSaid g → ((x : A) → IsSaid (f x)) → IsSaid (ask f g)
ask_said f unknown s t = absurd s
ask_said f fails s t = tt
ask_said f (gives x) s t = t x

-- so are values of which the first and the others are known
more_said : (g : Got Value) (gs : Got Values) → IsSaid g → IsSaid gs → IsSaid (more g gs)
more_said unknown gs s t = absurd s
more_said fails unknown s t = absurd t
more_said fails fails s t = tt
more_said fails (gives xs) s t = tt
more_said (gives x) unknown s t = absurd t
more_said (gives x) fails s t = tt
more_said (gives x) (gives xs) s t = tt

-- the value at a place
nth_said : (vs : Values) (i : ℕ) → IsSaid (nth vs i)
nth_said no_values i = tt
nth_said (more_values x xs) zero = tt
nth_said (more_values x xs) (suc i) = nth_said xs i

-- what holds a value
held_said : (g : Got Value) → IsSaid g → IsSaid (held g)
held_said g s = ask_said (λ v. gives (held_value v)) g s (λ v. tt)

-- the value that is held
plain_said : (h : Held) → IsSaid (plain_of h)
plain_said (held_value v) = tt
plain_said (held_outputs vs) = tt
plain_said held_none = tt
plain_said (held_some h) = tt
plain_said (held_answers l) = tt

-- an option's content
content_said : (h : Held) → IsSaid (content_of h)
content_said (held_value v) = tt
content_said (held_outputs vs) = tt
content_said held_none = tt
content_said (held_some h) = tt
content_said (held_answers l) = tt

-- an output
output_said : (i : ℕ) (h : Held) → IsSaid (output_of i h)
output_said i (held_value v) = tt
output_said i (held_outputs vs) = held_said (nth vs i) (nth_said vs i)
output_said i held_none = tt
output_said i (held_some h) = tt
output_said i (held_answers l) = tt

-- a field where it is one
field_said : (b : Bool) (vs : Values) (i : ℕ) → IsSaid (field_if b vs i)
field_said false vs i = tt
field_said true vs i = held_said (nth vs i) (nth_said vs i)

-- a variant's field
variant_said : (k i : ℕ) (v : Value) → IsSaid (variant_field k i v)
variant_said k i (bool_value b) = tt
variant_said k i (int_value n) = tt
variant_said k i (constant_value n) = tt
variant_said k i (opaque_value n) = tt
variant_said k i (made_variant ty j vs) = field_said (j == k) vs i
variant_said k i (made_struct ty vs) = tt

-- a struct's field
struct_said : (i : ℕ) (v : Value) → IsSaid (struct_field i v)
struct_said i (bool_value b) = tt
struct_said i (int_value n) = tt
struct_said i (constant_value n) = tt
struct_said i (opaque_value n) = tt
struct_said i (made_variant ty j vs) = tt
struct_said i (made_struct ty vs) = held_said (nth vs i) (nth_said vs i)

-- the values of sites that are known
values_said : (at : ℕ → Got Held) (js : List ℕ) → ((j : ℕ) → Elem j js → IsSaid (at j)) → IsSaid (values_at at js)
values_said at [] s = tt
values_said at (j ∷ js) s =
    more_said (plain (at j)) (values_at at js) (ask_said plain_of (at j) (s j (inl refl)) plain_said) (values_said at js (λ i m. s i (inr m)))

-- What a site is made of that calls nothing is known where its parts are.
pub made_said : (args : Values) (at : ℕ → Got Held) (row : Row) → is_call row ≡ false → ((j : ℕ) → Elem j (parts_of_row row) → IsSaid (at j))
    → IsSaid (made_of args at row)
made_said args at (bool_row x ty) n s = tt
made_said args at (int_row x ty) n s = tt
made_said args at (prim_row x) n s = tt
made_said args at (argument_row i) n s = held_said (nth args i) (nth_said args i)
made_said args at (extractor_row t j) n s = absurd (let q : true ≡ false = n in cc)
made_said args at (constructor_row t js i) n s = absurd (let q : true ≡ false = n in cc)
made_said args at (iterator_row j) n s = absurd (let q : true ≡ false = n in cc)
made_said args at (make_variant_row ty k js) n s =
    held_said (made ty k (values_at at js)) (ask_said (λ xs. gives (made_variant ty k xs)) (values_at at js) (values_said at js s) (λ xs. tt))
made_said args at (match_variant_row j k i) n s =
    ask_said (variant_field k i) (plain (at j)) (ask_said plain_of (at j) (s j (inl refl)) plain_said) (variant_said k i)
made_said args at (make_struct_row ty js) n s =
    held_said (built ty (values_at at js)) (ask_said (λ xs. gives (made_struct ty xs)) (values_at at js) (values_said at js s) (λ xs. tt))
made_said args at (extract_struct_row j i) n s =
    ask_said (struct_field i) (plain (at j)) (ask_said plain_of (at j) (s j (inl refl)) plain_said) (struct_said i)
made_said args at (make_some_row j) n s = ask_said (λ h. gives (held_some h)) (at j) (s j (inl refl)) (λ h. tt)
made_said args at (match_some_row j) n s = ask_said content_of (at j) (s j (inl refl)) content_said
made_said args at (match_tuple_row j i) n s = ask_said (output_of i) (at j) (s j (inl refl)) (output_said i)

-- none of what is said, and not given, fails
pub none_fails : (g : Got Held) → IsSaid g → ((h : Held) → g ≡ gives h → ⊥) → Comes g missing
none_fails unknown s n = absurd s
none_fails fails s n = refl
none_fails (gives h) s n = absurd (n h refl)
