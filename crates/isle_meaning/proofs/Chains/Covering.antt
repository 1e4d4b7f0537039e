-- The rules of a term can't but be covered, and match the same under more answers.
use Rattle.std.proofs.Common.{◌≡◌, ◌≢◌, inl, inr, ◌≤ℤ◌, ℕ, zero, suc, List, [], ◌∷◌, false, Option, Some, slice_get}
use Rattle.std.proofs.Common.{refl, sym, ◌∙◌, ap, subst, arith}
use Rattle.std.proofs.Math.Decide.{ℕ_discrete}
use Rattle.std.proofs.lemmas.Int.{ints}
use Rattle.isle_rules.specs.TypedRules.{TypedPattern, typed_bind, typed_var, typed_bool, typed_int, typed_prim, typed_term, typed_wildcard}
use Rattle.isle_rules.specs.TypedRules.{typed_and, TypedPatterns, no_typed, more_typed, TypedIfLet, TypedRule}
use Rattle.isle_meaning.specs.Facts.{TermShape, variant_shape, struct_shape, declared_shape, patterns}
use Rattle.isle_meaning.specs.Got.{unknown, gives}
use Rattle.isle_meaning.specs.Values.{Value, Values, no_values, more_values}
use Rattle.isle_meaning.specs.Words.{word_of, steps_of}
use Rattle.isle_meaning.specs.Answers.{Completion}
use Rattle.isle_meaning.specs.Matching.{word_value, OpensInto, Fits, FitsAll, FitsEach, IfLetsHold, MatchesWith}
use Rattle.isle_meaning.specs.Sites.{Site, argument, extractor_call}
use Rattle.isle_meaning.specs.Held.{held_value, held, value, IsAnswered}
use Rattle.isle_meaning.specs.Demands.{parts, bound, iflet_site, args_bound, nothing}
use Rattle.isle_meaning.specs.Scopes.{scope, scope_all, scope_of, none, IsWellOpened, IsWellScoped, AreWellScoped, IfLetsAreWellScoped}
use Rattle.isle_meaning.specs.Scopes.{IsWellScopedRule, OfCall, OfCalls, OfAllCalls, OfIfLets, Covers}
use Rattle.isle_meaning.specs.Worlds.{CheckedProgram, Answers, Event}
use Rattle.isle_meaning.specs.RightSides.{RightOf}
use Rattle.isle_meaning.specs.Calls.{Agrees, Makes, IsRuleAt, RuleGives, Told, CoversAll}
use Rattle.isle_meaning.proofs.Matching.Children.{IsAt, Agree, parts_at}
use Rattle.isle_meaning.proofs.Matching.Forward.{fits_count, forward, forward_all}
use Rattle.isle_meaning.proofs.Matching.Known.{known}
use Rattle.isle_meaning.proofs.Matching.Scoping.{word_reads}
use Rattle.isle_meaning.proofs.Matching.Written.{word_site}
use Rattle.isle_meaning.specs.SoundPrograms.{IsSound, IsSoundRule}
use Rattle.isle_meaning.specs.Laws.Calls.{HasNoTies, Surely, Extends}
use Rattle.isle_meaning.proofs.Calls.WordTyping.{calls_types, expr_typed}
use Rattle.isle_meaning.proofs.Chains.Asks.{Asks, calls_map, calls_all_map, iflets_map}
use Rattle.isle_meaning.proofs.Chains.Knowing.{word_more, answered_more, More, CanGrow, stay, on, know_site}
use Rattle.isle_meaning.proofs.Chains.One.{typed_reads, steps_read, matches_are_one}
use Rattle.isle_meaning.proofs.Chains.Unique.{right_same}

module _ (p : CheckedProgram) (w : Answers) (below : ℕ → Values → List Event → Option Value → Type 0) (C E : ℕ → Type 0)
    (grow : CanGrow p w below C E) (args : Values) where
  -- what an extractor's call asks can't but be answered
  know_opened : (shape : TermShape) (t : ℕ) (s : Site) → OfCall (Asks C E) shape t s → (c : Completion) → Agrees p w below c
      → Surely (More p w below c (λ d. OfCall (IsAnswered p.terms d args []) shape t s))
  know_opened (variant_shape k) t s q c ag = stay p w below C E grow _ c ag tt
  know_opened struct_shape t s q c ag = stay p w below C E grow _ c ag tt
  know_opened declared_shape t s q c ag = know_site p w below C E grow args (extractor_call t s) q c ag

  -- what it asks stays answered
  opened_more : (c d : Completion) → Extends c d → (shape : TermShape) (t : ℕ) (s : Site) → OfCall (IsAnswered p.terms c args []) shape t s
      → OfCall (IsAnswered p.terms d args []) shape t s
  opened_more c d ex (variant_shape k) t s h = tt
  opened_more c d ex struct_shape t s h = tt
  opened_more c d ex declared_shape t s h = answered_more c d ex p.terms args (extractor_call t s) h

  mutual
    -- What a pattern asks can't but be answered.
    know_calls : (q : TypedPattern) (s : Site) → OfCalls p.terms (Asks C E) q s → (c : Completion) → Agrees p w below c
        → Surely (More p w below c (λ d. OfCalls p.terms (IsAnswered p.terms d args []) q s))
    know_calls (typed_bind ty k q) s h c ag = know_calls q s h c ag
    know_calls (typed_var ty k) s h c ag = stay p w below C E grow _ c ag tt
    know_calls (typed_bool ty b) s h c ag = stay p w below C E grow _ c ag tt
    know_calls (typed_int ty n) s h c ag = stay p w below C E grow _ c ag tt
    know_calls (typed_prim ty n) s h c ag = stay p w below C E grow _ c ag tt
    know_calls (typed_term ty t qs) s h c ag =
        on p w below C E grow (λ d. OfCall (IsAnswered p.terms d args []) (p.terms.shape t) t s) _ c
        (know_opened (p.terms.shape t) t s (h.0) c ag) (λ d agd ex o.
        on p w below C E grow (λ e. OfAllCalls p.terms (IsAnswered p.terms e args []) qs
        (parts p.terms (p.terms.shape t) t (patterns qs) s)) _ d
        (know_all_calls qs (parts p.terms (p.terms.shape t) t (patterns qs) s) (h.1) d agd) (λ e age ex' k.
        stay p w below C E grow _ e age (opened_more d e ex' (p.terms.shape t) t s o, k)))
    know_calls (typed_wildcard ty) s h c ag = stay p w below C E grow _ c ag tt
    know_calls (typed_and ty qs) s h c ag = know_all_calls qs (λ i. s) h c ag

    -- So can't what patterns ask.
    know_all_calls : (qs : TypedPatterns) (at : ℕ → Site) → OfAllCalls p.terms (Asks C E) qs at → (c : Completion) → Agrees p w below c
        → Surely (More p w below c (λ d. OfAllCalls p.terms (IsAnswered p.terms d args []) qs at))
    know_all_calls no_typed at h c ag = stay p w below C E grow _ c ag tt
    know_all_calls (more_typed q qs) at h c ag =
        on p w below C E grow (λ d. OfCalls p.terms (IsAnswered p.terms d args []) q (at 0)) _ c (know_calls q (at 0) (h.0) c ag)
        (λ d agd ex o.
        on p w below C E grow (λ e. OfAllCalls p.terms (IsAnswered p.terms e args []) qs (λ i. at (suc i))) _ d
        (know_all_calls qs (λ i. at (suc i)) (h.1) d agd) (λ e age ex' k.
        stay p w below C E grow _ e age (calls_map p.terms _ _ (answered_more d e ex' p.terms args) q (at 0) o, k)))

  -- So can't what if-lets ask.
  know_iflets : (xs : List TypedIfLet) (vars : ℕ → Site) → OfIfLets p.terms (Asks C E) xs vars → (c : Completion) → Agrees p w below c
      → Surely (More p w below c (λ d. OfIfLets p.terms (IsAnswered p.terms d args []) xs vars))
  know_iflets [] vars h c ag = stay p w below C E grow _ c ag tt
  know_iflets (x ∷ xs) vars h c ag =
      on p w below C E grow (λ d. IsAnswered p.terms d args [] (iflet_site p.terms vars x)) _ c
      (know_site p w below C E grow args (iflet_site p.terms vars x) (h.0) c ag) (λ d agd ex o.
      on p w below C E grow (λ e. OfCalls p.terms (IsAnswered p.terms e args []) x.pattern (iflet_site p.terms vars x)) _ d
      (know_calls x.pattern (iflet_site p.terms vars x) (h.1) d agd) (λ e age ex' k.
      on p w below C E grow (λ f. OfIfLets p.terms (IsAnswered p.terms f args []) xs
      (bound p.terms x.pattern (iflet_site p.terms vars x) vars)) _ e
      (know_iflets xs (bound p.terms x.pattern (iflet_site p.terms vars x) vars) (h.2) e age) (λ f agf ex'' l.
      stay p w below C E grow _ f agf (
        answered_more e f ex'' p.terms args (iflet_site p.terms vars x)
            (answered_more d e ex' p.terms args (iflet_site p.terms vars x) o),
        calls_map p.terms _ _ (answered_more e f ex'' p.terms args) x.pattern (iflet_site p.terms vars x) k,
        l,
      ))))

  -- what a rule asks
  abbrev pub RuleAsks : TypedRule → Type 0
  RuleAsks rule = OfAllCalls p.terms (Asks C E) rule.args argument × OfIfLets p.terms (Asks C E) rule.iflets (args_bound p.terms rule)

  -- A rule that is covered stays so.
  pub covers_more : (c d : Completion) → Extends c d → (rule : TypedRule) → Covers p.terms c args rule → Covers p.terms d args rule
  covers_more c d ex rule h = (
    calls_all_map p.terms _ _ (answered_more c d ex p.terms args) rule.args argument (h.0),
    iflets_map p.terms _ _ (answered_more c d ex p.terms args) rule.iflets (args_bound p.terms rule) (h.1),
  )

  -- A rule can't but be covered.
  know_rule : (rule : TypedRule) → RuleAsks rule → (c : Completion) → Agrees p w below c
      → Surely (More p w below c (λ d. Covers p.terms d args rule))
  know_rule rule h c ag =
      on p w below C E grow (λ d. OfAllCalls p.terms (IsAnswered p.terms d args []) rule.args argument) _ c
      (know_all_calls rule.args argument (h.0) c ag) (λ d agd ex o.
      on p w below C E grow (λ e. OfIfLets p.terms (IsAnswered p.terms e args []) rule.iflets (args_bound p.terms rule)) _ d
      (know_iflets rule.iflets (args_bound p.terms rule) (h.1) d agd) (λ e age ex' k.
      stay p w below C E grow _ e age (calls_all_map p.terms _ _ (answered_more d e ex' p.terms args) rule.args argument o, k)))

  -- the rules of a term among some are covered
  abbrev CoversEach : Completion → ℕ → List TypedRule → Type 0
  CoversEach c t [] = Unit {0}
  CoversEach c t (r ∷ rs) = (r.root ≡ t → Covers p.terms c args r) × CoversEach c t rs

  -- rules that are covered stay so
  each_more : (c d : Completion) → Extends c d → (t : ℕ) (rs : List TypedRule) → CoversEach c t rs → CoversEach d t rs
  each_more c d ex t [] h = tt
  each_more c d ex t (r ∷ rs) h = (λ e. covers_more c d ex r (h.0 e), each_more c d ex t rs (h.1))

  -- a rule at a place is covered
  each_at : (c : Completion) (t : ℕ) (rs : List TypedRule) (i : ℕ) (rule : TypedRule) → CoversEach c t rs → slice_get rs i ≡ Some rule
      → rule.root ≡ t → Covers p.terms c args rule
  each_at c t [] i rule h e o = absurd cc
  each_at c t (r ∷ rs) zero rule h e o =
      let same : r ≡ rule = cc in
      subst (λ (z : TypedRule). Covers p.terms c args z) same (h.0 (ap (λ (z : TypedRule). z.root) same ∙ o))
  each_at c t (r ∷ rs) (suc i) rule h e o = each_at c t rs i rule (h.1) e o

  -- the rules of a term among some can't but be covered
  know_each : (t : ℕ) (rs : List TypedRule)
      → ((i : ℕ) (rule : TypedRule) → slice_get rs i ≡ Some rule → rule.root ≡ t → RuleAsks rule) → (c : Completion) → Agrees p w below c
      → Surely (More p w below c (λ d. CoversEach d t rs))
  know_each t [] asks c ag = stay p w below C E grow _ c ag tt
  know_each t (r ∷ rs) asks c ag =
      on p w below C E grow (λ d. r.root ≡ t → Covers p.terms d args r) _ c (first (ℕ_discrete r.root t)) (λ d agd ex o.
      on p w below C E grow (λ e. CoversEach e t rs) _ d (know_each t rs (λ i rule e q. asks (suc i) rule e q) d agd) (λ e age ex' k.
      stay p w below C E grow _ e age (λ q. covers_more d e ex' r (o q), k)))
    where
      first : Dec (r.root ≡ t) → Surely (More p w below c (λ d. r.root ≡ t → Covers p.terms d args r))
      first (yes e) = on p w below C E grow (λ d. Covers p.terms d args r) _ c (know_rule r (asks zero r refl e) c ag)
          (λ d agd ex o. stay p w below C E grow _ d agd (λ q. o))
      first (no n) = stay p w below C E grow _ c ag (λ q. absurd (n q))

  -- The rules of a term can't but be covered.
  pub know_rules : (t : ℕ) → ((i : ℕ) (rule : TypedRule) → IsRuleAt p t i rule → RuleAsks rule) → (c : Completion) → Agrees p w below c
      → Surely (More p w below c (λ d. CoversAll p d t args))
  know_rules t asks c ag =
      on p w below C E grow (λ d. CoversEach d t p.rules) _ c
      (know_each t p.rules (λ i rule e q. asks i rule (record { listed = e; of_term = q })) c ag)
      (λ d agd ex h. stay p w below C E grow _ d agd (λ i rule at. each_at d t p.rules i rule h (at.listed) (at.of_term)))

module _ (p : CheckedProgram) (c d : Completion) (ex : Extends c d) (a : ℕ → Value) where
  -- what opens still opens
  opens_more : (shape : TermShape) (ty t : ℕ) (v : Value) (vs : Values) → OpensInto c shape ty t v vs → OpensInto d shape ty t v vs
  opens_more (variant_shape k) ty t v vs o = o
  opens_more struct_shape ty t v vs o = o
  opens_more declared_shape ty t v vs o = ex.extract t v (λ u. (let z = sym u ∙ o in cc)) ∙ o

  mutual
    -- What fits still fits.
    fits_more : (q : TypedPattern) (v : Value) → Fits p.terms c a q v → Fits p.terms d a q v
    fits_more (typed_bind ty k q) v f = (f.0, fits_more q v (f.1))
    fits_more (typed_var ty k) v f = f
    fits_more (typed_bool ty b) v f = f
    fits_more (typed_int ty n) v f = f
    fits_more (typed_prim ty n) v f = f
    fits_more (typed_term ty t qs) v f = (f.0, opens_more (p.terms.shape t) ty t v (f.0) (f.1), fit_all_more qs (f.0) (f.2))
    fits_more (typed_wildcard ty) v f = tt
    fits_more (typed_and ty qs) v f = fit_each_more qs v f

    -- so do patterns on values at their places
    fit_all_more : (qs : TypedPatterns) (vs : Values) → FitsAll p.terms c a qs vs → FitsAll p.terms d a qs vs
    fit_all_more no_typed no_values f = tt
    fit_all_more no_typed (more_values v vs) f = absurd f
    fit_all_more (more_typed q qs) no_values f = absurd f
    fit_all_more (more_typed q qs) (more_values v vs) f = (fits_more q v (f.0), fit_all_more qs vs (f.1))

    -- so do patterns on one value
    fit_each_more : (qs : TypedPatterns) (v : Value) → FitsEach p.terms c a qs v → FitsEach p.terms d a qs v
    fit_each_more no_typed v f = tt
    fit_each_more (more_typed q qs) v f = (fits_more q v (f.0), fit_each_more qs v (f.1))

  -- if-lets that hold still hold
  hold_more : (xs : List TypedIfLet) → IfLetsHold p.terms c a xs → IfLetsHold p.terms d a xs
  hold_more [] h = tt
  hold_more (x ∷ xs) h =
      let (v, e, f) = h.0 in (
        (v, word_more c d ex a [] (word_of p.terms x.value) (λ u. (let z = sym u ∙ e in cc)) ∙ e, fits_more x.pattern v f),
        hold_more xs
            (h.1),
      )

  -- A rule that matches still matches.
  pub matches_more : (args : Values) (rule : TypedRule) → MatchesWith p.terms c args rule a → MatchesWith p.terms d args rule a
  matches_more args rule m = (fit_all_more rule.args args (m.0), hold_more rule.iflets (m.1))

  module _ (args : Values) where
    -- what opens under more answers opened
    opens_back : (shape : TermShape) (ty t n : ℕ) (s : Site) (v : Value) (vs : Values) → IsWellOpened p.terms shape t n
        → value p.terms c args [] s ≡ gives (held_value v) → OfCall (IsAnswered p.terms c args []) shape t s → OpensInto d shape ty t v vs
        → OpensInto c shape ty t v vs
    opens_back (variant_shape k) ty t n s v vs well e answered o = o
    opens_back struct_shape ty t n s v vs well e answered o = o
    opens_back declared_shape ty t n s v vs well e answered o =
        let m : p.terms.multi t ≡ false = well.1 in
        let known_here : c.extract t v ≢ unknown = λ u. answered.1 v e (rw (m, u) refl) in
        sym (ex.extract t v known_here) ∙ o

    mutual
      -- What fits under more answers fitted, where what it asks was answered.
      fits_back : (q : TypedPattern) (S : ℕ → Type 0) (s : Site) (v : Value) → IsWellScoped p.terms q S
          → value p.terms c args [] s ≡ gives (held_value v) → OfCalls p.terms (IsAnswered p.terms c args []) q s → Fits p.terms d a q v
          → Fits p.terms c a q v
      fits_back (typed_bind ty k q) S s v well e answered f = (f.0, fits_back q S s v (well.0) e answered (f.1))
      fits_back (typed_var ty k) S s v well e answered f = f
      fits_back (typed_bool ty b) S s v well e answered f = f
      fits_back (typed_int ty n) S s v well e answered f = f
      fits_back (typed_prim ty n) S s v well e answered f = f
      fits_back (typed_term ty t qs) S s v well e answered f =
          let (vs, o, g) = f in
          let opened = opens_back (p.terms.shape t) ty t (patterns qs) s v vs (well.0) e (answered.0) o in (
            vs,
            opened,
            fit_all_back qs S (parts p.terms (p.terms.shape t) t (patterns qs) s) vs (well.1)
                (parts_at p.terms c args [] (p.terms.shape t) ty t (patterns qs) s v vs (well.0) e opened
                (fits_count p.terms d args a qs vs g)) (answered.1) g,
          )
      fits_back (typed_wildcard ty) S s v well e answered f = tt
      fits_back (typed_and ty qs) S s v well e answered f = fit_each_back qs S s v well e answered f

      -- so did patterns on values at their places
      fit_all_back : (qs : TypedPatterns) (S : ℕ → Type 0) (at : ℕ → Site) (vs : Values) → AreWellScoped p.terms qs S
          → IsAt (value p.terms c args []) at vs → OfAllCalls p.terms (IsAnswered p.terms c args []) qs at → FitsAll p.terms d a qs vs
          → FitsAll p.terms c a qs vs
      fit_all_back no_typed S at no_values well e answered f = tt
      fit_all_back no_typed S at (more_values v vs) well e answered f = absurd f
      fit_all_back (more_typed q qs) S at no_values well e answered f = absurd f
      fit_all_back (more_typed q qs) S at (more_values v vs) well e answered f = (
        fits_back q S (at 0) v (well.0) (e 0 v refl) (answered.0) (f.0),
        fit_all_back qs (scope q S) (λ i. at (suc i)) vs (well.1) (λ i x o. e (suc i) x o) (answered.1) (f.1),
      )

      -- so did patterns on one value
      fit_each_back : (qs : TypedPatterns) (S : ℕ → Type 0) (s : Site) (v : Value) → AreWellScoped p.terms qs S
          → value p.terms c args [] s ≡ gives (held_value v) → OfAllCalls p.terms (IsAnswered p.terms c args []) qs (λ i. s)
          → FitsEach p.terms d a qs v → FitsEach p.terms c a qs v
      fit_each_back no_typed S s v well e answered f = tt
      fit_each_back (more_typed q qs) S s v well e answered f =
          (fits_back q S s v (well.0) e (answered.0) (f.0), fit_each_back qs (scope q S) s v (well.1) e (answered.1) (f.1))

    -- if-lets that hold under more answers held
    hold_back : (xs : List TypedIfLet) (S : ℕ → Type 0) (vars : ℕ → Site) → IfLetsAreWellScoped p.terms xs S
        → Agree (value p.terms c args []) a S vars → OfIfLets p.terms (IsAnswered p.terms c args []) xs vars → IfLetsHold p.terms d a xs
        → IfLetsHold p.terms c a xs
    hold_back [] S vars well g answered h = tt
    hold_back (x ∷ xs) S vars well g answered h =
        let (v, e, f) = h.0 in
        let same = word_site p.terms c args [] a vars S g (word_of p.terms x.value) (word_reads p.terms S x.value (well.0)) in
        let known_here : word_value c a [] (word_of p.terms x.value) ≢ unknown =
        λ u. known p.terms c args [] (iflet_site p.terms vars x) (answered.0) (same ∙ ap held u) in
        let here : word_value c a [] (word_of p.terms x.value) ≡ gives v =
        sym (word_more c d ex a [] (word_of p.terms x.value) known_here) ∙ e in
        let site : value p.terms c args [] (iflet_site p.terms vars x) ≡ gives (held_value v) = same ∙ ap held here in
        let fits = fits_back x.pattern S (iflet_site p.terms vars x) v (well.1) site (answered.1) f in
        let next = forward p.terms c args a x.pattern S vars (iflet_site p.terms vars x) v (well.1) g site fits in (
          (v, here, fits),
          hold_back xs (scope x.pattern S) (bound p.terms x.pattern (iflet_site p.terms vars x) vars) (well.2) (next.1)
              (answered.2) (h.1),
        )

    -- A rule that matches under more answers matched, where what it asks was answered.
    pub matches_back : (rule : TypedRule) → IsWellScopedRule p.terms rule → Covers p.terms c args rule → MatchesWith p.terms d args rule a
        → MatchesWith p.terms c args rule a
    matches_back rule well covers m =
        let fits = fit_all_back rule.args none argument args (well.args) (λ i x o. ap held o) (covers.0) (m.0) in
        let next = forward_all p.terms c args a rule.args none nothing argument args (well.args) (λ k i. absurd i) (λ i x o. ap held o)
        fits in
        (fits, hold_back rule.iflets (scope_all rule.args none) (args_bound p.terms rule) (well.iflets) (next.1) (covers.1) (m.1))

module _ (p : CheckedProgram) (R : ℕ → Type 0) (sound : IsSound p R) (ties : HasNoTies p R)
    (below : ℕ → Values → List Event → Option Value → Type 0) where
  -- What the rule that is chosen does under more answers is what the term does.
  pub chosen_stays : (c d : Completion) → Extends c d → (t : ℕ) (args : Values) (one : List Event) (x : Option Value) → R t
      → CoversAll p c t args → (h : RuleGives p below c t args one x) → (trace : List Event) (answer : Option Value)
      → Told p below d t args trace answer → RightOf p.terms d (Makes p below) (h.variables) (h.chosen) trace answer
  chosen_stays c d ex t args one x r covers h trace answer (inr k) =
      absurd (k.none (h.place) (h.chosen) (h.at) (h.variables, matches_more p c d ex (h.variables) args (h.chosen) (h.matches)))
  chosen_stays c d ex t args one x r covers h trace answer (inl k) =
      let sound_at : (i : ℕ) (rule : TypedRule) → IsRuleAt p t i rule → IsSoundRule p R rule =
      λ i rule at. sound.rules i rule (at.listed) (subst R (sym (at.of_term)) r) in
      let mine : MatchesWith p.terms d args (h.chosen) (h.variables) = matches_more p c d ex (h.variables) args (h.chosen) (h.matches) in
      let theirs : MatchesWith p.terms c args (k.chosen) (k.variables) =
      matches_back p c d ex (k.variables) args (k.chosen) ((sound_at (k.place) (k.chosen) (k.at)).well)
      (covers (k.place) (k.chosen) (k.at)) (k.matches) in
      let up : k.chosen.priority ≤ℤ h.chosen.priority = h.greatest (k.place) (k.chosen) (k.at) (k.variables, theirs) in
      let down : h.chosen.priority ≤ℤ k.chosen.priority = k.greatest (h.place) (h.chosen) (h.at) (h.variables, mine) in
      let same : k.chosen ≡ h.chosen = ties d t args (k.place) (h.place) (k.chosen) (h.chosen) r (k.at) (h.at) (k.variables, k.matches)
      (h.variables, mine) (omega (arith, ints, up, down)) in
      let is = sound_at (h.place) (h.chosen) (h.at) in
      let right : RightOf p.terms d (Makes p below) (k.variables) (h.chosen) trace answer =
      subst (λ (z : TypedRule). RightOf p.terms d (Makes p below) (k.variables) z trace answer) same (k.right) in
      let matched : MatchesWith p.terms d args (h.chosen) (k.variables) =
      subst (λ (z : TypedRule). MatchesWith p.terms d args z (k.variables)) same (k.matches) in
      let typed = expr_typed p R (scope_of (h.chosen)) (is.var_types) (h.chosen).right (p.terms.type_of (h.chosen).root) (is.well.right)
      (is.typed.right) (is.right) in
      right_same p.terms d (k.variables) (h.variables) (scope_of (h.chosen))
      (matches_are_one p R d args (h.chosen) (k.variables) (h.variables) is matched mine) (Makes p below) []
      (steps_of p.terms (h.chosen).right) (word_of p.terms (h.chosen).right) trace answer
      (steps_read p R (scope_of (h.chosen)) (is.var_types) (calls_types p (h.chosen).right) 0 (steps_of p.terms (h.chosen).right)
      (typed.1))
      (typed_reads p R (scope_of (h.chosen)) (is.var_types) (calls_types p (h.chosen).right) (word_of p.terms (h.chosen).right) _
      (typed.0)) right
