-- What a value is made of, has values; and a word whose partial calls have contents has a value.
use Rattle.std.proofs.Common.{◌≡◌, ℕ, zero, suc, List, [], Bool, true, false, Option, refl, ◌∙◌, ap, subst}
use Rattle.isle_meaning.specs.Got.{Got, unknown, fails, gives}
use Rattle.isle_meaning.specs.Values.{Value, Values, more_values, more, made, built, ask}
use Rattle.isle_meaning.specs.Facts.{TermFacts}
use Rattle.isle_meaning.specs.Words.{Word, var_word, bool_word, int_word, prim_word, variant_word, struct_word, call_word, Words}
use Rattle.isle_meaning.specs.Words.{no_words, more_words}
use Rattle.isle_meaning.specs.Answers.{Completion, answer_of, IsAllowed}
use Rattle.isle_meaning.specs.Matching.{word_value, word_values}
use Rattle.isle_meaning.specs.Sites.{Site, bool_site, int_site, prim_site, argument, extractor_call, constructor_call, iterator}
use Rattle.isle_meaning.specs.Sites.{make_variant, match_variant, make_struct, extract_struct, make_some, match_some, match_tuple}
use Rattle.isle_meaning.specs.Sites.{Sites, no_sites, more_sites, answer_site, site_of, sites_of}
use Rattle.isle_meaning.specs.Held.{Held, held_value, held_none, held_some, plain, value, values}
use Rattle.isle_meaning.specs.Demands.{contents, contents_all}
use Rattle.isle_meaning.specs.Holds.{AllHold, AllHoldProper, Holds}
use Rattle.isle_meaning.specs.Scopes.{Reads, ReadAll}
use Rattle.isle_meaning.proofs.Matching.Basics.{plain_gives, ask_gives, more_gives, content_gives, more_unknown, each_append, each_first}
use Rattle.isle_meaning.proofs.Matching.Basics.{each_rest}
use Rattle.isle_meaning.proofs.Matching.Written.{words_sites}

module _ (facts : TermFacts) (c : Completion) (args : Values) (done : List (Option Value)) where
  mutual
    pub contents_hold : (s : Site) (h : Held) → value facts c args done s ≡ gives h → AllHold (value facts c args done) (contents s)
    contents_hold (bool_site b ty) h e = tt
    contents_hold (int_site n ty) h e = tt
    contents_hold (prim_site n) h e = tt
    contents_hold (argument i) h e = tt
    contents_hold (extractor_call t s) h e = let (v, p, q) =
        ask_gives _ (plain (value facts c args done s)) h e in contents_hold s (held_value v) (plain_gives _ v p)
    contents_hold (constructor_call t ss i) h e = let (vs, p, q) =
        ask_gives _ (values facts c args done ss) h e in contents_all_hold ss vs p
    contents_hold (iterator s) h e = let (x, p, q) = ask_gives _ (value facts c args done s) h e in contents_hold s x p
    contents_hold (make_variant ty k ss) h e =
        let (v, p, q) = ask_gives _ (made ty k (values facts c args done ss)) h e in
        let (vs, r, o) = ask_gives _ (values facts c args done ss) v p in contents_all_hold ss vs r
    contents_hold (match_variant s k i) h e = let (v, p, q) =
        ask_gives _ (plain (value facts c args done s)) h e in contents_hold s (held_value v) (plain_gives _ v p)
    contents_hold (make_struct ty ss) h e =
        let (v, p, q) = ask_gives _ (built ty (values facts c args done ss)) h e in
        let (vs, r, o) = ask_gives _ (values facts c args done ss) v p in contents_all_hold ss vs r
    contents_hold (extract_struct s i) h e = let (v, p, q) =
        ask_gives _ (plain (value facts c args done s)) h e in contents_hold s (held_value v) (plain_gives _ v p)
    contents_hold (make_some s) h e = let (x, p, q) = ask_gives _ (value facts c args done s) h e in contents_hold s x p
    contents_hold (match_some s) h e = let p =
        content_gives (value facts c args done s) h e in ((held_some h, p, (h, refl)), contents_hold s (held_some h) p)
    contents_hold (match_tuple s i) h e = let (x, p, q) = ask_gives _ (value facts c args done s) h e in contents_hold s x p

    pub contents_all_hold : (ss : Sites) (vs : Values) → values facts c args done ss ≡ gives vs
        → AllHold (value facts c args done) (contents_all ss)
    contents_all_hold no_sites vs e = tt
    contents_all_hold (more_sites s ss) vs e =
        let (x, xs, p, q) = more_gives (plain (value facts c args done s)) (values facts c args done ss) vs e in
        each_append (Holds (value facts c args done)) (contents s) (contents_all ss) (contents_hold s (held_value x) (plain_gives _ x p))
        (contents_all_hold ss xs q)

module _ (facts : TermFacts) (c : Completion) (args : Values) (allowed : IsAllowed facts c) (a : ℕ → Value) (vars : ℕ → Site) (S : ℕ
    → Type 0)
    (agree : (k : ℕ) → S k → value facts c args [] (vars k) ≡ gives (held_value (a k))) where
  -- a call that is answered, whose failure the demands rule out
  call_valued : (b : Bool) (t : ℕ) (ss : Sites) (i : ℕ) (vs : Values) (g : Got Value) → facts.multi t ≡ false → facts.partial t ≡ b
      → values facts c args [] ss ≡ gives vs → answer_of c [] t i vs ≡ g → (g ≡ unknown → ⊥)
      → AllHoldProper (value facts c args []) (contents (answer_site false b (constructor_call t ss i))) → (v : Value) × (g ≡ gives v)
  call_valued b t ss i vs unknown m eb es eg n h = absurd (n refl)
  call_valued b t ss i vs (gives v) m eb es eg n h = (v, refl)
  call_valued false t ss zero vs fails m eb es eg n h = let p : facts.partial t ≡ true = allowed.partial t vs eg in absurd cc
  call_valued false t ss (suc i) vs fails m eb es eg n h = absurd cc
  call_valued true t ss i vs fails m eb es eg n h =
      let (x, e, (y, p)) = h.0 tt in
      let q : value facts c args [] (constructor_call t ss i) ≡ gives held_none = rw (es, m, eb, eg) refl in absurd cc

  contents_of_call : (b : Bool) (t : ℕ) (ss : Sites) (i : ℕ)
      → AllHoldProper (value facts c args []) (contents (answer_site false b (constructor_call t ss i)))
      → AllHoldProper (value facts c args []) (contents_all ss)
  contents_of_call true t ss i h = h.1
  contents_of_call false t ss i h = h

  mutual
    pub word_valued : (w : Word) → Reads facts w S → (word_value c a [] w ≡ unknown → ⊥)
        → AllHoldProper (value facts c args []) (contents (site_of facts vars w)) → (v : Value) × (word_value c a [] w ≡ gives v)
    word_valued (var_word k) r n h = (_, refl)
    word_valued (bool_word ty b) r n h = (_, refl)
    word_valued (int_word ty k) r n h = (_, refl)
    word_valued (prim_word k) r n h = (_, refl)
    word_valued (variant_word ty k ws) r n h =
        let (vs, e) = words_valued ws r (λ u. n (rw u refl)) h in (_, ap (made ty k) e)
    word_valued (struct_word ty ws) r n h =
        let (vs, e) = words_valued ws r (λ u. n (rw u refl)) h in (_, ap (built ty) e)
    word_valued (call_word t ws i) r n h =
        let h' = subst (λ (b : Bool). AllHoldProper (value facts c args [])
        (contents (answer_site b (facts.partial t) (constructor_call t (sites_of facts vars ws) i)))) (r.0) h in
        let (vs, e) = words_valued ws (r.1) (λ u. n (rw u refl)) (contents_of_call (facts.partial t) t (sites_of facts vars ws) i h') in
        let es : values facts c args [] (sites_of facts vars ws) ≡ gives vs = words_sites facts c args [] a vars S agree ws (r.1) ∙ e in
        let (v, p) = call_valued (facts.partial t) t (sites_of facts vars ws) i vs (answer_of c [] t i vs) (r.0) refl es refl
        (λ u. n (rw (e, u) refl)) h' in
        (v, ap (ask (answer_of c [] t i)) e ∙ p)

    pub words_valued : (ws : Words) → ReadAll facts ws S → (word_values c a [] ws ≡ unknown → ⊥)
        → AllHoldProper (value facts c args []) (contents_all (sites_of facts vars ws)) → (vs : Values) × (word_values c a [] ws ≡ gives vs)
    words_valued no_words r n h = (_, refl)
    words_valued (more_words w ws) r n h =
        let (x, p) = word_valued w (r.0) (λ u. n (rw u refl)) (each_first _ (contents (site_of facts vars w)) _ h) in
        let (xs, q) = words_valued ws (r.1) (λ u. n (rw u (more_unknown _))) (each_rest _ (contents (site_of facts vars w)) _ h) in
        (more_values x xs, ap (λ (g : Got Value). more g (word_values c a [] ws)) p ∙ ap (more (gives x)) q)
