-- A word and its site have one value.
use Rattle.std.proofs.Common.{◌≡◌, ℕ, List, Bool, true, false, Option, refl, ◌∙◌, ap}
use Rattle.isle_meaning.specs.Got.{Got, unknown, fails, gives}
use Rattle.isle_meaning.specs.Values.{Value, Values, made, built, ask}
use Rattle.isle_meaning.specs.Facts.{TermFacts}
use Rattle.isle_meaning.specs.Words.{Word, var_word, bool_word, int_word, prim_word, variant_word, struct_word, call_word, Words}
use Rattle.isle_meaning.specs.Words.{no_words, more_words}
use Rattle.isle_meaning.specs.Answers.{Completion, answer_of}
use Rattle.isle_meaning.specs.Matching.{word_value, word_values}
use Rattle.isle_meaning.specs.Sites.{Site, constructor_call, Sites, answer_site, site_of, sites_of}
use Rattle.isle_meaning.specs.Held.{held_value, held, constructed, content_of, construct_held, value, values}
use Rattle.isle_meaning.specs.Scopes.{Reads, ReadAll}
use Rattle.isle_meaning.proofs.Matching.Basics.{plain_held, content_constructed, constructed_held}

module _ (facts : TermFacts) (c : Completion) (args : Values) (done : List (Option Value)) where
  called : (b : Bool) (t i : ℕ) (gs : Got Values) → facts.multi t ≡ false → facts.partial t ≡ b
      → ask (construct_held facts c done t i) gs ≡ ask (λ vs. constructed b (answer_of c done t i vs)) gs
  called b t i unknown m e = refl
  called b t i fails m e = refl
  called b t i (gives vs) m e = rw (m, e) refl

  called_true : (f : Values → Got Value) (gs : Got Values) → ask content_of (ask (λ vs. constructed true (f vs)) gs) ≡ held (ask f gs)
  called_true f unknown = refl
  called_true f fails = refl
  called_true f (gives vs) = content_constructed (f vs)

  called_false : (f : Values → Got Value) (gs : Got Values) → ask (λ vs. constructed false (f vs)) gs ≡ held (ask f gs)
  called_false f unknown = refl
  called_false f fails = refl
  called_false f (gives vs) = constructed_held (f vs)

  -- a call's content, or its own site
  call_site : (b : Bool) (t : ℕ) (ss : Sites) (i : ℕ) → facts.multi t ≡ false → facts.partial t ≡ b
      → value facts c args done (answer_site false b (constructor_call t ss i)) ≡ held
      (ask (answer_of c done t i) (values facts c args done ss))
  call_site true t ss i m e =
      ap (ask content_of) (called true t i (values facts c args done ss) m e)
      ∙ called_true (answer_of c done t i) (values facts c args done ss)
  call_site false t ss i m e =
      called false t i (values facts c args done ss) m e ∙ called_false (answer_of c done t i) (values facts c args done ss)

  pub call_value : (t : ℕ) (ss : Sites) (i : ℕ) → facts.multi t ≡ false
      → value facts c args done (answer_site (facts.multi t) (facts.partial t) (constructor_call t ss i)) ≡ held
      (ask (answer_of c done t i) (values facts c args done ss))
  call_value t ss i m =
      ap (λ (b : Bool). value facts c args done (answer_site b (facts.partial t) (constructor_call t ss i))) m
      ∙ call_site (facts.partial t) t ss i m refl

  module _ (a : ℕ → Value) (vars : ℕ → Site) (S : ℕ → Type 0) (agree : (k : ℕ) → S k
      → value facts c args done (vars k) ≡ gives (held_value (a k))) where
    mutual
      pub word_site : (w : Word) → Reads facts w S → value facts c args done (site_of facts vars w) ≡ held (word_value c a done w)
      word_site (var_word k) r = agree k r
      word_site (bool_word ty b) r = refl
      word_site (int_word ty n) r = refl
      word_site (prim_word n) r = refl
      word_site (variant_word ty k ws) r = ap (λ (gs : Got Values). held (made ty k gs)) (words_sites ws r)
      word_site (struct_word ty ws) r = ap (λ (gs : Got Values). held (built ty gs)) (words_sites ws r)
      word_site (call_word t ws i) r =
          call_value t (sites_of facts vars ws) i (r.0)
          ∙ ap (λ (gs : Got Values). held (ask (answer_of c done t i) gs)) (words_sites ws (r.1))

      pub words_sites : (ws : Words) → ReadAll facts ws S → values facts c args done (sites_of facts vars ws) ≡ word_values c a done ws
      words_sites no_words r = refl
      words_sites (more_words w ws) r = rw (word_site w (r.0), words_sites ws (r.1), plain_held) refl
