-- Each field and each content that a rule's demands, or what is derived from them, speak of is made by a test among them.
use Rattle.std.proofs.Common.{◌≡◌, ◌⊎◌, inl, inr, ℕ, zero, suc, ◌<◌, List, [], ◌∷◌, ◌++◌, Bool, true, false, refl, sym, ◌∙◌, ap, subst, arith}
use Rattle.isle_rules.specs.TypedRules.{TypedPattern, typed_bind, typed_var, typed_bool, typed_int, typed_prim, typed_term, typed_wildcard}
use Rattle.isle_rules.specs.TypedRules.{typed_and, TypedPatterns, no_typed, more_typed, TypedIfLet}
use Rattle.isle_meaning.specs.Facts.{TermShape, variant_shape, struct_shape, declared_shape, TermFacts, patterns}
use Rattle.isle_meaning.specs.Words.{Word, var_word, bool_word, int_word, prim_word, variant_word, struct_word, call_word, Words}
use Rattle.isle_meaning.specs.Words.{no_words, more_words, set, word_of}
use Rattle.isle_meaning.specs.Sites.{Site, bool_site, int_site, prim_site, argument, extractor_call, constructor_call, iterator}
use Rattle.isle_meaning.specs.Sites.{make_variant, match_variant, make_struct, extract_struct, make_some, match_some, match_tuple}
use Rattle.isle_meaning.specs.Sites.{Sites, no_sites, more_sites, answer_site, extract_site, output, site_of, sites_of}
use Rattle.isle_meaning.specs.Demands.{Demand, constrained, equal, some_constraint, extractor_demands, opens, parts, bound, bound_all}
use Rattle.isle_meaning.specs.Demands.{demands, demands_all, contents, contents_all, iflet_site, iflets_bound, iflets_demands}
use Rattle.isle_meaning.specs.Demands.{demands_of, args_bound, nothing, Among}
use Rattle.isle_meaning.specs.Holds.{Each}
use Rattle.isle_meaning.specs.Derived.{Derived, demanded, flipped, chained, shared, like_variant, like_struct}
use Rattle.isle_meaning.specs.Tested.{IsTested, AreTested, SpeaksOfTested}
use Rattle.isle_meaning.specs.Scopes.{scope, scope_all, IsWellScoped, AreWellScoped, Reads, ReadAll, iflets_scope, IfLetsAreWellScoped, none}
use Rattle.isle_meaning.specs.Laws.Matching.{DemandsAreTested, DerivedIsTested}
use Rattle.isle_meaning.specs.Demands.{DemandOf}
use Rattle.isle_meaning.proofs.Matching.Scoping.{word_reads}
use Rattle.isle_meaning.proofs.Matching.Basics.{set_at, set_other, each_append}
use Rattle.isle_meaning.proofs.Matching.Sorting.{among}

-- each of some demands is one of all
abbrev Within : List Demand → (Demand → Type 0) → Type 0
Within ds D = (d : Demand) → Among ds d → D d

among_left : (d : Demand) (ds es : List Demand) → Among ds d → Among (ds ++ es) d
among_left d [] es h = absurd h
among_left d (x ∷ ds) es (inl e) = inl e
among_left d (x ∷ ds) es (inr h) = inr (among_left d ds es h)

among_right : (d : Demand) (ds es : List Demand) → Among es d → Among (ds ++ es) d
among_right d [] es h = h
among_right d (x ∷ ds) es h = inr (among_right d ds es h)

module _ (facts : TermFacts) (D : Demand → Type 0) where
  within_left : (ds es : List Demand) → Within (ds ++ es) D → Within ds D
  within_left ds es n d i = n d (among_left d ds es i)

  within_right : (ds es : List Demand) → Within (ds ++ es) D → Within es D
  within_right ds es n d i = n d (among_right d ds es i)

  abbrev AreAll : (ℕ → Type 0) → (ℕ → Site) → Type 0
  AreAll S vars = (k : ℕ) → S k → IsTested D (vars k)

  output_tested : (n : ℕ) (s : Site) (i : ℕ) → IsTested D s → IsTested D (output n s i)
  output_tested zero s i h = h
  output_tested (suc zero) s i h = h
  output_tested (suc (suc n)) s i h = h

  extract_tested : (m b : Bool) (s : Site) → Within (extractor_demands m b s) D → IsTested D s → IsTested D (extract_site m b s)
  extract_tested true b s w h = h
  extract_tested false true s w h = h
  extract_tested false false s w h = (w (constrained s some_constraint) (inl refl), h)

  extractor_speaks : (m b : Bool) (s : Site) → IsTested D s → Each (SpeaksOfTested D) (extractor_demands m b s)
  extractor_speaks true b s h = tt
  extractor_speaks false true s h = tt
  extractor_speaks false false s h = (h, tt)

  opens_speak : (shape : TermShape) (ty t n : ℕ) (s : Site) → IsTested D s → Each (SpeaksOfTested D) (opens facts shape ty t n s)
  opens_speak (variant_shape k) ty t n s h = (h, tt)
  opens_speak struct_shape ty t n s h = (h, tt)
  opens_speak declared_shape ty t n s h = extractor_speaks (facts.multi t) (facts.infallible t) (extractor_call t s) h

  parts_tested : (shape : TermShape) (ty t n : ℕ) (s : Site) → Within (opens facts shape ty t n s) D → IsTested D s → (i : ℕ) → i < n
      → IsTested D (parts facts shape t n s i)
  parts_tested (variant_shape k) ty t n s w h i l = ((ty, n, w _ (inl refl), l), h)
  parts_tested struct_shape ty t n s w h i l = ((ty, n, w _ (inl refl), l), h)
  parts_tested declared_shape ty t n s w h i l =
      output_tested n _ i (extract_tested (facts.multi t) (facts.infallible t) (extractor_call t s) w h)

  set_tested : (S : ℕ → Type 0) (vars : ℕ → Site) (j : ℕ) (s : Site) → AreAll S vars → IsTested D s → (S j → ⊥)
      → AreAll (λ k. (k ≡ j) ⊎ S k) (set vars j s)
  set_tested S vars j s g h n k (inl e) = subst (IsTested D) (sym (ap (set vars j s) e ∙ set_at vars j s)) h
  set_tested S vars j s g h n k (inr i) = subst (IsTested D) (sym (set_other vars j s k (λ e. n (subst S e i)))) (g k i)

  mutual
    tested : (p : TypedPattern) (S : ℕ → Type 0) (vars : ℕ → Site) (s : Site) → IsWellScoped facts p S → AreAll S vars → IsTested D s
        → Within (demands facts p s vars) D
        → Each (SpeaksOfTested D) (demands facts p s vars) × AreAll (scope p S) (bound facts p s vars)
    tested (typed_bind ty j p) S vars s w g h n =
        let r = tested p S vars s (w.0) g h n in (r.0, set_tested (scope p S) (bound facts p s vars) j s (r.1) h (w.1))
    tested (typed_var ty k) S vars s w g h n = (((h, g k w), tt), g)
    tested (typed_bool ty b) S vars s w g h n = ((h, tt), g)
    tested (typed_int ty m) S vars s w g h n = ((h, tt), g)
    tested (typed_prim ty m) S vars s w g h n = ((h, tt), g)
    tested (typed_term ty t ps) S vars s w g h n =
        let here = opens facts (facts.shape t) ty t (patterns ps) s in
        let r = tested_all ps S vars (parts facts (facts.shape t) t (patterns ps) s) (w.1) g
        (parts_tested (facts.shape t) ty t (patterns ps) s (within_left here _ n) h) (within_right here _ n) in
        (each_append (SpeaksOfTested D) here _ (opens_speak (facts.shape t) ty t (patterns ps) s h) (r.0), r.1)
    tested (typed_wildcard ty) S vars s w g h n = (tt, g)
    tested (typed_and ty ps) S vars s w g h n = tested_all ps S vars (λ i. s) w g (λ i l. h) n

    tested_all : (ps : TypedPatterns) (S : ℕ → Type 0) (vars : ℕ → Site) (at : ℕ → Site) → AreWellScoped facts ps S → AreAll S vars
        → ((i : ℕ) → i < patterns ps → IsTested D (at i)) → Within (demands_all facts ps at vars) D
        → Each (SpeaksOfTested D) (demands_all facts ps at vars) × AreAll (scope_all ps S) (bound_all facts ps at vars)
    tested_all no_typed S vars at w g h n = (tt, g)
    tested_all (more_typed p ps) S vars at w g h n =
        let r = tested p S vars (at 0) (w.0) g (h 0 (omega arith)) (within_left (demands facts p (at 0) vars) _ n) in
        let q = tested_all ps (scope p S) (bound facts p (at 0) vars) (λ i. at (suc i)) (w.1) (r.1) (λ i l. h (suc i) (omega arith))
        (within_right (demands facts p (at 0) vars) _ n) in
        (each_append (SpeaksOfTested D) (demands facts p (at 0) vars) _ (r.0) (q.0), q.1)

  -- a word's site, where its partial calls are demanded to be `Some`
  module _ (S : ℕ → Type 0) (vars : ℕ → Site) (g : AreAll S vars) where
    call_tested : (m b : Bool) (t : ℕ) (ss : Sites) (i : ℕ) → (Within (contents_all ss) D → AreTested D ss)
        → Within (contents (answer_site m b (constructor_call t ss i))) D → IsTested D (answer_site m b (constructor_call t ss i))
    call_tested true b t ss i f n = f n
    call_tested false true t ss i f n = (n _ (inl refl), f (λ d j. n d (inr j)))
    call_tested false false t ss i f n = f n

    mutual
      word_tested : (w : Word) → Reads facts w S → Within (contents (site_of facts vars w)) D → IsTested D (site_of facts vars w)
      word_tested (var_word k) r n = g k r
      word_tested (bool_word ty b) r n = tt
      word_tested (int_word ty k) r n = tt
      word_tested (prim_word k) r n = tt
      word_tested (variant_word ty k ws) r n = words_tested ws r n
      word_tested (struct_word ty ws) r n = words_tested ws r n
      word_tested (call_word t ws i) r n =
          call_tested (facts.multi t) (facts.partial t) t (sites_of facts vars ws) i (λ m. words_tested ws (r.1) m) n

      words_tested : (ws : Words) → ReadAll facts ws S → Within (contents_all (sites_of facts vars ws)) D
          → AreTested D (sites_of facts vars ws)
      words_tested no_words r n = tt
      words_tested (more_words w ws) r n = (
        word_tested w (r.0) (within_left (contents (site_of facts vars w)) _ n),
        words_tested ws (r.1) (within_right (contents (site_of facts vars w)) _ n),
      )

  -- what is looked into is tested too
  mutual
    contents_speak : (s : Site) → IsTested D s → Each (SpeaksOfTested D) (contents s)
    contents_speak (bool_site b ty) h = tt
    contents_speak (int_site n ty) h = tt
    contents_speak (prim_site n) h = tt
    contents_speak (argument k) h = tt
    contents_speak (extractor_call t s) h = contents_speak s h
    contents_speak (constructor_call t ss k) h = contents_all_speak ss h
    contents_speak (iterator s) h = contents_speak s h
    contents_speak (make_variant ty k ss) h = contents_all_speak ss h
    contents_speak (match_variant s k j) h = contents_speak s (h.1)
    contents_speak (make_struct ty ss) h = contents_all_speak ss h
    contents_speak (extract_struct s j) h = contents_speak s (h.1)
    contents_speak (make_some s) h = contents_speak s h
    contents_speak (match_some s) h = (h.1, contents_speak s (h.1))
    contents_speak (match_tuple s j) h = contents_speak s h

    contents_all_speak : (ss : Sites) → AreTested D ss → Each (SpeaksOfTested D) (contents_all ss)
    contents_all_speak no_sites h = tt
    contents_all_speak (more_sites s ss) h =
        each_append (SpeaksOfTested D) (contents s) (contents_all ss) (contents_speak s (h.0)) (contents_all_speak ss (h.1))

  lets_tested : (xs : List TypedIfLet) (S : ℕ → Type 0) (vars : ℕ → Site) → IfLetsAreWellScoped facts xs S → AreAll S vars
      → Within (iflets_demands facts xs vars) D
      → Each (SpeaksOfTested D) (iflets_demands facts xs vars) × AreAll (iflets_scope xs S) (iflets_bound facts xs vars)
  lets_tested [] S vars w g n = (tt, g)
  lets_tested (x ∷ xs) S vars w g n =
      let first = within_left (contents (iflet_site facts vars x)) _ n in
      let rest = within_right (contents (iflet_site facts vars x)) _ n in
      let h = word_tested S vars g (word_of facts x.value) (word_reads facts S x.value (w.0)) first in
      let r = tested x.pattern S vars (iflet_site facts vars x) (w.1) g h
      (within_left (demands facts x.pattern (iflet_site facts vars x) vars) _ rest) in
      let q = lets_tested xs (scope x.pattern S) (bound facts x.pattern (iflet_site facts vars x) vars) (w.2) (r.1)
      (within_right (demands facts x.pattern (iflet_site facts vars x) vars) _ rest) in (
        each_append (SpeaksOfTested D) (contents (iflet_site facts vars x)) _ (contents_speak (iflet_site facts vars x) h)
            (each_append (SpeaksOfTested D) (demands facts x.pattern (iflet_site facts vars x) vars) _ (r.0) (q.0)),
        q.1,
      )

pub demands_are_tested : DemandsAreTested
demands_are_tested facts rule well =
    let D = DemandOf facts rule in
    let r = tested_all facts D rule.args none nothing argument (well.args) (λ k h. absurd h) (λ i l. tt)
    (λ d i. among_left d (demands_all facts rule.args argument nothing) _ i) in
    let q = lets_tested facts D rule.iflets (scope_all rule.args none) (args_bound facts rule) (well.iflets) (r.1)
    (λ d i. among_right d (demands_all facts rule.args argument nothing) _ i) in (
      among (SpeaksOfTested D) (demands_of facts rule)
          (each_append (SpeaksOfTested D) (demands_all facts rule.args argument nothing) _ (r.0) (q.0)),
      q.1,
    )

module _ (D E : Demand → Type 0) (more : (d : Demand) → D d → E d) where
  mutual
    tested_more : (s : Site) → IsTested D s → IsTested E s
    tested_more (bool_site b ty) h = tt
    tested_more (int_site n ty) h = tt
    tested_more (prim_site n) h = tt
    tested_more (argument k) h = tt
    tested_more (extractor_call t s) h = tested_more s h
    tested_more (constructor_call t ss k) h = tested_more_all ss h
    tested_more (iterator s) h = tested_more s h
    tested_more (make_variant ty k ss) h = tested_more_all ss h
    tested_more (match_variant s k j) ((ty, n, d, l), h) = ((ty, n, more _ d, l), tested_more s h)
    tested_more (make_struct ty ss) h = tested_more_all ss h
    tested_more (extract_struct s j) ((ty, n, d, l), h) = ((ty, n, more _ d, l), tested_more s h)
    tested_more (make_some s) h = tested_more s h
    tested_more (match_some s) h = (more _ (h.0), tested_more s (h.1))
    tested_more (match_tuple s j) h = tested_more s h

    tested_more_all : (ss : Sites) → AreTested D ss → AreTested E ss
    tested_more_all no_sites h = tt
    tested_more_all (more_sites s ss) h = (tested_more s (h.0), tested_more_all ss (h.1))

  speaks_more : (d : Demand) → SpeaksOfTested D d → SpeaksOfTested E d
  speaks_more (constrained s c) h = tested_more s h
  speaks_more (equal s u) h = (tested_more s (h.0), tested_more u (h.1))

module _ (D : Demand → Type 0) (all : (d : Demand) → D d → SpeaksOfTested (Derived D) d) where
  derived_tested : (d : Demand) → Derived D d → SpeaksOfTested (Derived D) d
  derived_tested d (demanded h) = all d h
  derived_tested d (flipped {s = s} {u = u} h) = let r = derived_tested (equal s u) h in (r.1, r.0)
  derived_tested d (chained {s = s} {u = u} {w = w} h g) = ((derived_tested (equal s u) h).0, (derived_tested (equal u w) g).1)
  derived_tested d (shared {s = s} {u = u} h g) = (derived_tested (equal s u) h).1
  derived_tested d (like_variant {s = s} {u = u} {ty = ty} {k = k} {n = n} h g l) =
      let r = derived_tested (equal s u) h in (((ty, n, g, l), r.0), ((ty, n, shared h g, l), r.1))
  derived_tested d (like_struct {s = s} {u = u} {ty = ty} {n = n} h g l) =
      let r = derived_tested (equal s u) h in (((ty, n, g, l), r.0), ((ty, n, shared h g, l), r.1))

pub derived_is_tested : DerivedIsTested
derived_is_tested facts rule well d h =
    derived_tested (DemandOf facts rule)
    (λ e i. speaks_more (DemandOf facts rule) (Derived (DemandOf facts rule)) (λ f j. demanded j) e
    ((demands_are_tested facts rule well).0 e i)) d h
