-- Sites without multi calls hold the same, whatever multi calls are answered.
use Rattle.std.proofs.Common.{◌≡◌, ℕ, zero, suc, List, false, Option, refl, ap, ◌∙◌}
use Rattle.isle_meaning.specs.Got.{Got, unknown, fails, gives}
use Rattle.isle_meaning.specs.Values.{Value, Values, more, made, built, ask}
use Rattle.isle_meaning.specs.Facts.{TermFacts}
use Rattle.isle_meaning.specs.Answers.{Completion, answer_of}
use Rattle.isle_meaning.specs.Sites.{Site, bool_site, int_site, prim_site, argument, extractor_call, constructor_call, iterator}
use Rattle.isle_meaning.specs.Sites.{make_variant, match_variant, make_struct, extract_struct, make_some, match_some, match_tuple}
use Rattle.isle_meaning.specs.Sites.{Sites, no_sites, more_sites}
use Rattle.isle_meaning.specs.Held.{Held, held_some, held, plain, constructed, extract_held, construct_held, variant_field}
use Rattle.isle_meaning.specs.Held.{struct_field, content_of, output_of, value, values}
use Rattle.isle_meaning.specs.AboutSites.Kinds.{IsKinded, AreKinded}

-- one's answers to calls that aren't `multi`, with another's to those that are
abbrev pub singly : Completion → Completion → Completion
singly c d = record c { constructs = d.constructs; extracts = d.extracts; place = d.place }

module _ (facts : TermFacts) (tys : List ℕ) (c d : Completion) (args : Values) (done : List (Option Value)) where
  -- an answer is the one's
  same_answer : (t i : ℕ) (vs : Values) → answer_of (singly c d) done t i vs ≡ answer_of c done t i vs
  same_answer t zero vs = refl
  same_answer t (suc i) vs = refl

  -- so is a constructor's call
  same_call : (t i : ℕ) → facts.multi t ≡ false → (vs : Values) → construct_held facts (singly c d) done t i vs ≡ construct_held facts c done t i vs
  same_call t i m vs = rw m (ap (constructed (facts.partial t)) (same_answer t i vs))

  -- and an extractor's
  same_extract : (t : ℕ) → facts.multi t ≡ false → (v : Value) → extract_held facts (singly c d) t v ≡ extract_held facts c t v
  same_extract t m v = rw m refl

  -- what is made alike is one
  same_ask : {A : Type 0} (f k : A → Got Held) (g : Got A) → ((x : A) → f x ≡ k x) → ask f g ≡ ask k g
  same_ask f k unknown h = refl
  same_ask f k fails h = refl
  same_ask f k (gives x) h = h x

  mutual
    -- Sites without multi calls read the one's answers alone.
    pub same_singly : (s : Site) → IsKinded facts tys s → value facts (singly c d) args done s ≡ value facts c args done s
    same_singly (bool_site b ty) k = refl
    same_singly (int_site n ty) k = refl
    same_singly (prim_site n) k = refl
    same_singly (argument i) k = refl
    same_singly (extractor_call t s) (k, p, m) =
        ap (λ (g : Got Held). ask (extract_held facts (singly c d) t) (plain g)) (same_singly s k)
        ∙ same_ask (extract_held facts (singly c d) t) (extract_held facts c t) (plain (value facts c args done s)) (same_extract t m)
    same_singly (constructor_call t ss i) (k, m) =
        ap (ask (construct_held facts (singly c d) done t i)) (all_singly ss k)
        ∙ same_ask (construct_held facts (singly c d) done t i) (construct_held facts c done t i) (values facts c args done ss) (same_call t i m)
    same_singly (iterator s) k = absurd k
    same_singly (make_variant ty v ss) k = ap (λ (g : Got Values). held (made ty v g)) (all_singly ss k)
    same_singly (match_variant s v i) k = ap (λ (g : Got Held). ask (variant_field v i) (plain g)) (same_singly s (k.0))
    same_singly (make_struct ty ss) k = ap (λ (g : Got Values). held (built ty g)) (all_singly ss k)
    same_singly (extract_struct s i) k = ap (λ (g : Got Held). ask (struct_field i) (plain g)) (same_singly s (k.0))
    same_singly (make_some s) k = ap (ask (λ h. gives (held_some h))) (same_singly s (k.0))
    same_singly (match_some s) k = ap (ask content_of) (same_singly s (k.0))
    same_singly (match_tuple s i) k = ap (ask (output_of i)) (same_singly s (k.0))

    -- So do sites.
    pub all_singly : (ss : Sites) → AreKinded facts tys ss → values facts (singly c d) args done ss ≡ values facts c args done ss
    all_singly no_sites k = refl
    all_singly (more_sites s ss) k =
        ap (λ (g : Got Held). more (plain g) (values facts (singly c d) args done ss)) (same_singly s (k.0.0))
        ∙ ap (more (plain (value facts c args done s))) (all_singly ss (k.1))
