-- Lemmas on what is got, held and named.
use Rattle.std.proofs.Common.{◌≡◌, ℕ, List, [], ◌∷◌, ◌++◌, Bool, true, false, ◌==◌, refl, sym, ◌∙◌, ap, subst, Option}
use Rattle.std.proofs.lemmas.Bool.{eq-eqb, eqb-true}
use Rattle.isle_meaning.specs.Values.{Value, bool_value, int_value, constant_value, opaque_value, made_variant, made_struct, Values}
use Rattle.isle_meaning.specs.Got.{Got, unknown, fails, gives}
use Rattle.isle_meaning.specs.Values.{nth, more, ask}
use Rattle.isle_meaning.specs.Facts.{TermFacts}
use Rattle.isle_meaning.specs.Words.{set}
use Rattle.isle_meaning.specs.Answers.{Completion}
use Rattle.isle_meaning.specs.Held.{Held, held_value, held_outputs, held_none, held_some, held_answers, held, plain_of, plain}
use Rattle.isle_meaning.specs.Held.{constructed, content_of, variant_field, struct_field, field_if, value}
use Rattle.isle_meaning.specs.Demands.{Demand}
use Rattle.isle_meaning.specs.Holds.{Each, IsVariantField, IsStructField, Respects}

pub plain_held : (g : Got Value) → plain (held g) ≡ g
plain_held unknown = refl
plain_held fails = refl
plain_held (gives v) = refl

pub ask_gives : {A B : Type 0} (f : A → Got B) (g : Got A) (y : B) → ask f g ≡ gives y → (x : A) × (g ≡ gives x) × (f x ≡ gives y)
ask_gives f unknown y e = absurd cc
ask_gives f fails y e = absurd cc
ask_gives f (gives x) y e = (x, refl, e)

plain_one : (h : Held) (v : Value) → plain_of h ≡ gives v → h ≡ held_value v
plain_one (held_value w) v e = cc
plain_one (held_outputs vs) v e = absurd cc
plain_one held_none v e = absurd cc
plain_one (held_some h) v e = absurd cc
plain_one (held_answers l) v e = absurd cc

pub plain_gives : (g : Got Held) (v : Value) → plain g ≡ gives v → g ≡ gives (held_value v)
plain_gives g v e = let (h, p, q) = ask_gives plain_of g v e in p ∙ ap (λ (x : Held). gives x) (plain_one h v q)

pub more_gives : (g : Got Value) (gs : Got Values) (vs : Values) → more g gs ≡ gives vs → (x : Value) × (xs : Values) × (g ≡ gives x)
    × (gs ≡ gives xs)
more_gives unknown gs vs e = absurd cc
more_gives fails unknown vs e = absurd cc
more_gives fails fails vs e = absurd cc
more_gives fails (gives xs) vs e = absurd cc
more_gives (gives x) unknown vs e = absurd cc
more_gives (gives x) fails vs e = absurd cc
more_gives (gives x) (gives xs) vs e = (x, xs, refl, refl)

content_present : (x h : Held) → content_of x ≡ gives h → x ≡ held_some h
content_present (held_value v) h e = absurd cc
content_present (held_outputs vs) h e = absurd cc
content_present held_none h e = absurd cc
content_present (held_some x) h e = cc
content_present (held_answers l) h e = absurd cc

pub content_gives : (g : Got Held) (h : Held) → ask content_of g ≡ gives h → g ≡ gives (held_some h)
content_gives g h e = let (x, p, q) = ask_gives content_of g h e in p ∙ ap (λ (z : Held). gives z) (content_present x h q)

-- one of two unknowns makes all unknown
pub more_unknown : (g : Got Value) → more g unknown ≡ unknown
more_unknown unknown = refl
more_unknown fails = refl
more_unknown (gives x) = refl

pub content_constructed : (g : Got Value) → ask content_of (constructed true g) ≡ held g
content_constructed unknown = refl
content_constructed fails = refl
content_constructed (gives v) = refl

pub constructed_held : (g : Got Value) → constructed false g ≡ held g
constructed_held unknown = refl
constructed_held fails = refl
constructed_held (gives v) = refl

pub differ : (k j : ℕ) → (k ≡ j → ⊥) → (k == j) ≡ false
differ k j n = go (k == j) refl
  where
    go : (b : Bool) → (k == j) ≡ b → (k == j) ≡ false
    go true e = absurd (n (eqb-true k j e))
    go false e = e

pub set_at : {A : Type 0} (f : ℕ → A) (k : ℕ) (x : A) → set f k x k ≡ x
set_at f k x = rw (eq-eqb k k refl) refl

pub set_other : {A : Type 0} (f : ℕ → A) (k : ℕ) (x : A) (j : ℕ) → (j ≡ k → ⊥) → set f k x j ≡ f j
set_other f k x j n = rw (differ j k n) refl

pub each_append : (P : Demand → Type 0) (ds es : List Demand) → Each P ds → Each P es → Each P (ds ++ es)
each_append P [] es h g = g
each_append P (d ∷ ds) es h g = (h.0, each_append P ds es (h.1) g)

pub each_first : (P : Demand → Type 0) (ds es : List Demand) → Each P (ds ++ es) → Each P ds
each_first P [] es h = tt
each_first P (d ∷ ds) es h = (h.0, each_first P ds es (h.1))

pub each_rest : (P : Demand → Type 0) (ds es : List Demand) → Each P (ds ++ es) → Each P es
each_rest P [] es h = h
each_rest P (d ∷ ds) es h = each_rest P ds es (h.1)

-- a variant's field, at a site of that variant
pub field_at : (g : Got Held) (ty k i : ℕ) (vs : Values) → g ≡ gives (held_value (made_variant ty k vs))
    → ask (variant_field k i) (plain g) ≡ held (nth vs i)
field_at g ty k i vs e = rw (e, eq-eqb k k refl) refl

pub struct_at : (g : Got Held) (ty i : ℕ) (vs : Values) → g ≡ gives (held_value (made_struct ty vs))
    → ask (struct_field i) (plain g) ≡ held (nth vs i)
struct_at g ty i vs e = rw e refl

held_one : (g : Got Value) (y : Held) → held g ≡ gives y → (v : Value) × (g ≡ gives v) × (y ≡ held_value v)
held_one unknown y e = absurd cc
held_one fails y e = absurd cc
held_one (gives v) y e = (v, refl, cc)

variant_held : (v : Value) (k i : ℕ) (y : Held) → variant_field k i v ≡ gives y → IsVariantField (held_value v) k i y
variant_held (bool_value b) k i y e = absurd cc
variant_held (int_value n) k i y e = absurd cc
variant_held (constant_value n) k i y e = absurd cc
variant_held (opaque_value n) k i y e = absurd cc
variant_held (made_struct ty vs) k i y e = absurd cc
variant_held (made_variant ty j vs) k i y e = go (j == k) refl e
  where
    go : (b : Bool) → (j == k) ≡ b → field_if b vs i ≡ gives y → IsVariantField (held_value (made_variant ty j vs)) k i y
    go false q e = absurd cc
    go true q e =
        let (v, p, r) = held_one (nth vs i) y e in
        let o : j ≡ k = eqb-true j k q in
        record { ty = ty; fields = vs; field = v; made = ap (λ (z : ℕ). held_value (made_variant ty z vs)) o; there = p; same = r }

struct_held : (v : Value) (i : ℕ) (y : Held) → struct_field i v ≡ gives y → IsStructField (held_value v) i y
struct_held (bool_value b) i y e = absurd cc
struct_held (int_value n) i y e = absurd cc
struct_held (constant_value n) i y e = absurd cc
struct_held (opaque_value n) i y e = absurd cc
struct_held (made_variant ty j vs) i y e = absurd cc
struct_held (made_struct ty vs) i y e = let (v, p, r) =
    held_one (nth vs i) y e in record { ty = ty; fields = vs; field = v; built = refl; there = p; same = r }

-- a field site holds exactly the field of what its source holds
pub value_respects : (facts : TermFacts) (c : Completion) (args : Values) (done : List (Option Value)) → Respects (value facts c args done)
value_respects facts c args done = record {
  variant = λ s k i x y e. (
    λ f. let p : value facts c args done s ≡ gives (held_value (made_variant (f.ty) k (f.fields))) =
        e ∙ ap (λ (h : Held). gives h) (f.made) in
        field_at (value facts c args done s) (f.ty) k i (f.fields) p ∙ ap held (f.there) ∙ ap (λ (h : Held). gives h) (sym (f.same)),
    λ g. let (v, p, q) = ask_gives (variant_field k i) (plain (value facts c args done s)) y g in
        let o = plain_gives (value facts c args done s) v p in
        let r : held_value v ≡ x = cc in subst (λ (z : Held). IsVariantField z k i y) r (variant_held v k i y q),
  );
  struct = λ s i x y e. (
    λ f. let p : value facts c args done s ≡ gives (held_value (made_struct (f.ty) (f.fields))) =
        e ∙ ap (λ (h : Held). gives h) (f.built) in
        struct_at (value facts c args done s) (f.ty) i (f.fields) p ∙ ap held (f.there) ∙ ap (λ (h : Held). gives h) (sym (f.same)),
    λ g. let (v, p, q) = ask_gives (struct_field i) (plain (value facts c args done s)) y g in
        let o = plain_gives (value facts c args done s) v p in
        let r : held_value v ≡ x = cc in subst (λ (z : Held). IsStructField z i y) r (struct_held v i y q),
  );
}
