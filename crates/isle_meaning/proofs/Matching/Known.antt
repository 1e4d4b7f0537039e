-- A site is known where its calls are answered.
use Rattle.std.proofs.Common.{◌≡◌, ℕ, zero, suc, List, [], ◌∷◌, Bool, true, false, ◌==◌, Option, refl}
use Rattle.isle_meaning.specs.Got.{Got, unknown, fails, gives}
use Rattle.isle_meaning.specs.Values.{Value, made_variant, made_struct, Values, no_values, more_values}
use Rattle.isle_meaning.specs.Values.{nth, nth_of, more, made, built, ask}
use Rattle.isle_meaning.specs.Facts.{TermFacts}
use Rattle.isle_meaning.specs.Answers.{Completion}
use Rattle.isle_meaning.specs.Sites.{Site, bool_site, int_site, prim_site, argument, extractor_call, constructor_call, iterator}
use Rattle.isle_meaning.specs.Sites.{make_variant, match_variant, make_struct, extract_struct, make_some, match_some, match_tuple}
use Rattle.isle_meaning.specs.Sites.{Sites, no_sites, more_sites}
use Rattle.isle_meaning.specs.Held.{Held, held_value, held_outputs, held_none, held_some, held_answers, held, plain_of, plain}
use Rattle.isle_meaning.specs.Held.{field_if, variant_field, struct_field, content_of, output_of, item_of, value, values, IsAnswered, AreAnswered}
use Rattle.isle_meaning.proofs.Matching.Basics.{plain_gives}

ask_known : {A B : Type 0} (f : A → Got B) (g : Got A) → ask f g ≡ unknown → (g ≡ unknown → ⊥) → (x : A) × (g ≡ gives x) × (f x ≡ unknown)
ask_known f unknown e n = absurd (n refl)
ask_known f fails e n = absurd cc
ask_known f (gives x) e n = (x, refl, e)

-- what always answers is unknown only of the unknown
ask_total : {A B : Type 0} (f : A → Got B) (g : Got A) → ((x : A) → f x ≡ unknown → ⊥) → ask f g ≡ unknown → g ≡ unknown
ask_total f unknown t e = refl
ask_total f fails t e = absurd cc
ask_total f (gives x) t e = absurd (t x e)

nth_known : (vs : Values) (i : ℕ) → nth vs i ≡ unknown → ⊥
nth_known no_values i e = cc
nth_known (more_values x xs) zero e = cc
nth_known (more_values x xs) (suc i) e = nth_known xs i e

held_known : (g : Got Value) → held g ≡ unknown → g ≡ unknown
held_known g e = ask_total _ g (λ x p. cc) e

plain_known : (g : Got Held) → plain g ≡ unknown → g ≡ unknown
plain_known g e = ask_total plain_of g total e
  where
    total : (h : Held) → plain_of h ≡ unknown → ⊥
    total (held_value v) p = cc
    total (held_outputs vs) p = cc
    total held_none p = cc
    total (held_some h) p = cc
    total (held_answers l) p = cc

variant_known : (k i : ℕ) (v : Value) → variant_field k i v ≡ unknown → ⊥
variant_known k i (made_variant ty j vs) e = go (j == k) e
  where
    go : (b : Bool) → field_if b vs i ≡ unknown → ⊥
    go false e = cc
    go true e = nth_known vs i (held_known _ e)
variant_known k i v e = cc

struct_known : (i : ℕ) (v : Value) → struct_field i v ≡ unknown → ⊥
struct_known i (made_struct ty vs) e = nth_known vs i (held_known _ e)
struct_known i v e = cc

content_known : (h : Held) → content_of h ≡ unknown → ⊥
content_known (held_value v) e = cc
content_known (held_outputs vs) e = cc
content_known held_none e = cc
content_known (held_some h) e = cc
content_known (held_answers l) e = cc

output_known : (i : ℕ) (h : Held) → output_of i h ≡ unknown → ⊥
output_known i (held_outputs vs) e = nth_known vs i (held_known _ e)
output_known i h e = cc

nth_of_known : (l : List Values) (i : ℕ) → nth_of l i ≡ unknown → ⊥
nth_of_known [] i e = cc
nth_of_known (x ∷ xs) zero e = cc
nth_of_known (x ∷ xs) (suc i) e = nth_of_known xs i e

item_known : (i : ℕ) (h : Held) → item_of i h ≡ unknown → ⊥
item_known i (held_answers l) e = nth_of_known l i (ask_total _ (nth_of l i) (λ x p. cc) e)
item_known i h e = cc

more_known : (g : Got Value) (gs : Got Values) → more g gs ≡ unknown → (gs ≡ unknown → ⊥) → g ≡ unknown
more_known unknown gs e n = refl
more_known fails unknown e n = absurd (n refl)
more_known fails fails e n = absurd cc
more_known fails (gives xs) e n = absurd cc
more_known (gives x) unknown e n = absurd (n refl)
more_known (gives x) fails e n = absurd cc
more_known (gives x) (gives xs) e n = absurd cc

module _ (facts : TermFacts) (c : Completion) (args : Values) (done : List (Option Value)) where
  mutual
    pub known : (s : Site) → IsAnswered facts c args done s → value facts c args done s ≡ unknown → ⊥
    known (bool_site b ty) h e = cc
    known (int_site n ty) h e = cc
    known (prim_site n) h e = cc
    known (argument i) h e = nth_known args i (held_known _ e)
    known (extractor_call t s) h e =
        let (v, p, q) = ask_known _ (plain (value facts c args done s)) e (λ u. known s (h.0) (plain_known _ u)) in
        h.1 v (plain_gives _ v p) q
    known (constructor_call t ss i) h e = let (vs, p, q) = ask_known _ (values facts c args done ss) e (known_all ss (h.0)) in h.1 vs p q
    known (iterator s) h e = known s h (ask_total _ _ (item_known (c.place s)) e)
    known (make_variant ty k ss) h e = known_all ss h (ask_total _ _ (λ x p. cc) (held_known (made ty k _) e))
    known (match_variant s k i) h e = known s h (plain_known _ (ask_total _ _ (variant_known k i) e))
    known (make_struct ty ss) h e = known_all ss h (ask_total _ _ (λ x p. cc) (held_known (built ty _) e))
    known (extract_struct s i) h e = known s h (plain_known _ (ask_total _ _ (struct_known i) e))
    known (make_some s) h e = known s h (ask_total _ _ (λ x p. cc) e)
    known (match_some s) h e = known s h (ask_total _ _ content_known e)
    known (match_tuple s i) h e = known s h (ask_total _ _ (output_known i) e)

    pub known_all : (ss : Sites) → AreAnswered facts c args done ss → values facts c args done ss ≡ unknown → ⊥
    known_all no_sites h e = cc
    known_all (more_sites s ss) h e = known s (h.0) (plain_known _ (more_known _ (values facts c args done ss) e (known_all ss (h.1))))
