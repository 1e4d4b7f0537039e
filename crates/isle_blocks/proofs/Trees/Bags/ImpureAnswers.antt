-- The answers that functions give to a rule's impure calls are those that functions give in all that the rule asks, and in its result.
use Rattle.std.proofs.Common.{◌≡◌, ◌≢◌, ◌⊎◌, inl, inr, ℕ, zero, suc, ◌+◌, List, [], ◌∷◌, ◌++◌, length, Bool, true, false, Option, Some, None, slice_get}
use Rattle.std.proofs.Common.{refl, ap, sym, subst, ◌∙◌, arith, append_assoc, append-nil}
use Rattle.std.specs.Option.{option_map}
use Rattle.std.proofs.lemmas.Option.{same_Some, none-some, slice_get-map}
use Rattle.isle_rules.specs.Elaboration.{on_lhs}
use Rattle.isle_rules.specs.Signatures.{Declared, Flags}
use Rattle.isle_rules.specs.SoundRules.WellTyped.{AreTypedIfLets}
use Rattle.isle_rules.specs.TypedRules.{TypedRule, TypedIfLet, Variable, built_at}
use Rattle.isle_meaning.specs.Got.{Got, unknown, fails, gives}
use Rattle.isle_meaning.specs.Values.{Value, Values, more, ask}
use Rattle.isle_meaning.specs.Facts.{TermFacts, facts_of}
use Rattle.isle_meaning.specs.Answers.{Completion, answered}
use Rattle.isle_meaning.specs.AboutSites.Functions.{AreFiniteFunctions, AreAsFunctions}
use Rattle.isle_meaning.specs.AboutSites.ImpureCalls.{IsImpureCall, ImpureCallsAre, IsPure, IfLetsArePure}
use Rattle.isle_meaning.specs.AboutSites.Parts.{IsOneOf, SpeaksOf}
use Rattle.isle_meaning.specs.Held.{Held, held_value, held_outputs, held_none, held_some, held_answers, plain, value, values}
use Rattle.isle_meaning.specs.Demands.{Demand, constrained, equal, vars_of, impure_of, some_of}
use Rattle.isle_meaning.specs.Sites.{Site, constructor_call, iterator, make_some, Sites, no_sites, more_sites, answer_site, sites_of, step_site}
use Rattle.isle_meaning.specs.Subtrees.{IsSubtree}
use Rattle.isle_meaning.specs.Words.{Step, word_of, steps_of}
use Rattle.isle_meaning.proofs.Chains.Causing.{Causal, steps_are_causal, get_append, get_last, length_more}
use Rattle.isle_meaning.proofs.Matching.Later.{all_later}
use Rattle.isle_meaning.proofs.Sites.Functional.{site_known}
use Rattle.isle_meaning.proofs.Sites.Parts.{part_of, of_whole, of_one}
use Rattle.isle_meaning.proofs.Sites.Pure.{demands_are_pure}
use Rattle.isle_meaning.proofs.Sites.Steps.{Placed, placed_append, placed_at, steps_placed, IsCallOf, word_steps, words_steps}
use Rattle.isle_meaning.proofs.SoundPrograms.PureCalls.{steps_pure}
use Rattle.isle_blocks.specs.RuleFaults.{own_result}
use Rattle.isle_blocks.specs.Trees.Bags.{IsAskedSite, IsSpokenOf}
use Rattle.isle_blocks.specs.Trees.RuleBags.{as_answer, answers_behind, impure_answers}
use Rattle.isle_blocks.proofs.Trees.Bags.ImpureSites.{IsLogged, needed_logged}

-- what is known is an answer
known_answer : (g : Got Value) → g ≢ unknown → answered (Some (as_answer g)) ≡ g
known_answer unknown n = absurd (n refl)
known_answer fails n = refl
known_answer (gives v) n = refl

-- what is known is plainly known
plain_known : (g : Got Held) → g ≢ unknown → plain g ≢ unknown
plain_known unknown n e = n refl
plain_known fails n e = cc
plain_known (gives (held_value v)) n e = cc
plain_known (gives (held_outputs vs)) n e = cc
plain_known (gives held_none) n e = cc
plain_known (gives (held_some h)) n e = cc
plain_known (gives (held_answers l)) n e = cc

-- so are values
more_known : (g : Got Value) (gs : Got Values) → g ≢ unknown → gs ≢ unknown → more g gs ≢ unknown
more_known unknown gs n k e = n refl
more_known fails unknown n k e = k refl
more_known fails fails n k e = cc
more_known fails (gives xs) n k e = cc
more_known (gives x) unknown n k e = k refl
more_known (gives x) fails n k e = cc
more_known (gives x) (gives xs) n k e = cc

-- an item of a longer list was there, or is the last
get_or_last : {A : Type 0} (xs : List A) (x : A) (j : ℕ) (y : A) → slice_get (xs ++ x ∷ []) j ≡ Some y
    → (slice_get xs j ≡ Some y) ⊎ ((x ≡ y) × (j ≡ length xs))
get_or_last [] x zero y e = inr (same_Some x y e, refl)
get_or_last [] x (suc j) y e = absurd (none-some y e)
get_or_last (z ∷ xs) x zero y e = inl e
get_or_last (z ∷ xs) x (suc j) y e = elim (get_or_last xs x j y e) [ inl p ↦ inl p | inr p ↦ inr (p.0, ap suc (p.1)) ]

-- what stands in one of two lists as long stands somewhere in the other
get_there : {A B : Type 0} (xs : List A) (ys : List B) (j : ℕ) (x : A) → length ys ≡ length xs → slice_get xs j ≡ Some x
    → (y : B) × (slice_get ys j ≡ Some y)
get_there [] ys j x n e = absurd (none-some x e)
get_there (z ∷ xs) [] j x n e = absurd cc
get_there (z ∷ xs) (y ∷ ys) zero x n e = (y, refl)
get_there (z ∷ xs) (y ∷ ys) (suc j) x n e = get_there xs ys j x (let q : length ys ≡ length xs = cc in q) e

module _ (facts : TermFacts) (c : Completion) (functions : AreFiniteFunctions facts c) (args : Values) (vars : ℕ → Site)
    (pure : (k : ℕ) → IsPure (vars k)) where
  -- the sites of a step's arguments, and their values
  abbrev sites : Step → Sites
  sites s = sites_of facts vars s.args

  abbrev vals : List (Option Value) → Sites → Got Values
  vals d ss = values facts c args d ss

  -- what the function gives to a step
  abbrev given : List (Option Value) → Step → Option Value
  given d s = as_answer (ask (c.construct s.term) (vals d (sites s)))

  -- these steps were answered so
  abbrev AreGiven : List Step → List (Option Value) → Type 0
  AreGiven before d = (j : ℕ) (s : Step) → slice_get before j ≡ Some s → facts.multi s.term ≡ false → (vs : Values) → vals d (sites s) ≡ gives vs
      → answered (slice_get d j) ≡ c.construct s.term vs

  -- the impure calls in a site are of these steps
  abbrev OfSteps : List Step → Site → Type 0
  OfSteps before s = ImpureCallsAre (IsCallOf facts vars before) s

  -- so in each argument of each of them
  abbrev AreClosed : List Step → Type 0
  AreClosed before = (j : ℕ) (s : Step) → slice_get before j ≡ Some s → (u : Site) → IsOneOf (sites s) u → OfSteps before u

  -- then functions answer the site
  as_functions : (before : List Step) (d : List (Option Value)) → Placed 0 before → AreGiven before d → (u : Site) → OfSteps before u
      → AreAsFunctions facts c args d u
  as_functions before d placed told u calls t us i vs inside m e =
      let (j, s, at, same) = calls (constructor_call t us (suc i)) inside tt in
      let p : t ≡ s.term = cc in let q : us ≡ sites s = cc in let r : i ≡ s.place = cc in
      let n : s.place ≡ 0 + j = placed_at 0 before j s placed at in
      let place : i ≡ j = omega arith in
      let one : facts.multi s.term ≡ false = subst (λ (z : ℕ). facts.multi z ≡ false) p m in
      let vals' : vals d (sites s) ≡ gives vs = subst (λ (z : Sites). vals d z ≡ gives vs) q e in
      ap (λ (z : ℕ). answered (slice_get d z)) place ∙ told j s at one vs vals' ∙ ap (λ (z : ℕ). c.construct z vs) (sym p)

  -- and its arguments have known values
  all_known : (before : List Step) (d : List (Option Value)) → Placed 0 before → AreGiven before d → (ss : Sites)
      → ((u : Site) → IsOneOf ss u → OfSteps before u) → vals d ss ≢ unknown
  all_known before d placed told no_sites calls = λ e. cc
  all_known before d placed told (more_sites s ss) calls =
      more_known (plain (value facts c args d s)) (vals d ss)
      (plain_known (value facts c args d s) (site_known facts c functions args d s (as_functions before d placed told s (calls s (inl refl)))))
      (all_known before d placed told ss (λ u m. calls u (inr m)))

  -- steps among more
  steps_more : (before : List Step) (s : Step) (u : Site) → OfSteps before u → OfSteps (before ++ s ∷ []) u
  steps_more before s u h w m z = let (j, t, at, same) = h w m z in (j, t, get_append before (s ∷ []) j t at, same)

  -- one more step is closed
  closed_more : (before : List Step) (s : Step) → AreClosed before → ((u : Site) → IsOneOf (sites s) u → OfSteps before u)
      → AreClosed (before ++ s ∷ [])
  closed_more before s h k j t at u m = elim (get_or_last before s j t at) [
    | inl old ↦ steps_more before s u (h j t old u m)
    | inr new ↦ steps_more before s u (k u (subst (λ (z : Step). IsOneOf (sites z) u) (sym (new.0)) m))
  ]

  -- one more step is given
  given_more : (before : List Step) (d : List (Option Value)) (s : Step) → length d ≡ length before → Placed 0 before → AreClosed before
      → AreGiven before d → ((u : Site) → IsOneOf (sites s) u → OfSteps before u) → AreGiven (before ++ s ∷ []) (d ++ given d s ∷ [])
  given_more before d s n placed closed told calls j t at m vs e = elim (get_or_last before s j t at) [
    | inl old ↦
        let stays = all_later facts c args d (given d s ∷ []) (sites t) (all_known before d placed told (sites t) (closed j t old)) in
        let (a, there) = get_there before d j t n old in
        ap answered (get_append d (given d s ∷ []) j a there ∙ sym there) ∙ told j t old m vs (sym stays ∙ e)
    | inr new ↦
        let stays = all_later facts c args d (given d s ∷ []) (sites s) (all_known before d placed told (sites s) calls) in
        let e' : vals (d ++ given d s ∷ []) (sites s) ≡ gives vs = subst (λ (z : Step). vals (d ++ given d s ∷ []) (sites z) ≡ gives vs)
        (sym (new.0)) e in
        let place : j ≡ length d = new.1 ∙ sym n in
        let asked : ask (c.construct s.term) (vals d (sites s)) ≡ c.construct s.term vs = ap (ask (c.construct s.term)) (sym stays ∙ e') in
        ap (λ (z : ℕ). answered (slice_get (d ++ given d s ∷ []) z)) place ∙ ap answered (get_last d (given d s))
        ∙ ap (λ (g : Got Value). answered (Some (as_answer g))) asked ∙ known_answer (c.construct s.term vs) (functions.construct s.term vs)
        ∙ ap (λ (z : Step). c.construct z.term vs) (new.0)
  ]

  -- so are all
  all_given : (steps before : List Step) (d : List (Option Value)) → length d ≡ length before → Placed 0 before → Placed (length before) steps
      → Causal before steps → AreClosed before → AreGiven before d → AreGiven (before ++ steps) (answers_behind facts c args vars d steps)
  all_given [] before d n placed rest causal closed told =
      subst (λ (z : List Step). AreGiven z d) (sym (append-nil before)) told
  all_given (s ∷ steps) before d n placed rest causal closed told =
      let calls = words_steps facts vars pure before s.args (causal.0) in
      let more = before ++ s ∷ [] in
      let here : s.place ≡ 0 + length before = rest.0 ∙ (let z : length before ≡ 0 + length before = omega arith in z) in
      subst (λ (z : List Step). AreGiven z (answers_behind facts c args vars (d ++ given d s ∷ []) steps)) (append_assoc before (s ∷ []) steps)
      (all_given steps more (d ++ given d s ∷ []) (length_more d (given d s) ∙ ap suc n ∙ sym (length_more before s))
      (placed_append 0 before s placed here)
      (subst (λ (z : ℕ). Placed z steps) (sym (length_more before s)) (rest.1)) (causal.1) (closed_more before s closed calls)
      (given_more before d s n placed closed told calls))

-- a call of which this is what it gives
one_call : (m b n d : Bool) (x y : ℕ) (ss us : Sites) (i j : ℕ) → answer_site m b (constructor_call x ss i) ≡ answer_site n d
    (constructor_call y us j)
    → constructor_call x ss i ≡ constructor_call y us j
one_call true b true d x y ss us i j e = cc
one_call true b false true x y ss us i j e = absurd cc
one_call true b false false x y ss us i j e = absurd cc
one_call false true true d x y ss us i j e = absurd cc
one_call false true false true x y ss us i j e = cc
one_call false true false false x y ss us i j e = absurd cc
one_call false false true d x y ss us i j e = absurd cc
one_call false false false true x y ss us i j e = absurd cc
one_call false false false false x y ss us i j e = e

-- where something is read something was
map_there : {A B : Type 0} (f : A → B) (o : Option A) (y : B) → option_map f o ≡ Some y → (x : A) × (o ≡ Some x) × (f x ≡ y)
map_there f None y e = absurd (none-some y e)
map_there f (Some x) y e = (x, refl, same_Some (f x) y e)

module _ (facts : TermFacts) (rule : TypedRule) (pure : IfLetsArePure facts rule.iflets) where
  -- what its variables stand for, and its impure calls
  abbrev its_vars : ℕ → Site
  its_vars = vars_of facts rule

  abbrev its_steps : List Step
  its_steps = steps_of facts rule.right

  -- they have none
  vars_pure : (k : ℕ) → IsPure (its_vars k)
  vars_pure = (demands_are_pure facts rule pure).1

  -- the impure calls of a site are its own
  abbrev OwnCalls : Site → Type 0
  OwnCalls s = ImpureCallsAre (IsCallOf facts its_vars its_steps) s

  -- a call that stands at its number is
  logged_call : (u : Site) → ((t : ℕ) (ss : Sites) (i : ℕ) → u ≡ constructor_call t ss (suc i)
      → slice_get (impure_of facts rule) i ≡ Some (answer_site (facts.multi t) (facts.partial t) (constructor_call t ss (suc i))))
      → IsImpureCall u → IsCallOf facts its_vars its_steps u
  logged_call (constructor_call t ss (suc i)) h z =
      let (st, at, same) = map_there (step_site facts its_vars) (slice_get its_steps i)
      (answer_site (facts.multi t) (facts.partial t) (constructor_call t ss (suc i)))
      (sym (slice_get-map (step_site facts its_vars) its_steps i) ∙ h t ss i refl) in (
        i,
        st,
        at,
        sym (one_call (facts.multi st.term) (facts.partial st.term) (facts.multi t) (facts.partial t) st.term t (sites_of facts its_vars st.args) ss
            (suc st.place) (suc i) same),
      )
  logged_call u h z = absurd z

  logged_own : (s : Site) → IsLogged facts (impure_of facts rule) s → OwnCalls s
  logged_own s h u m z = logged_call u (h u m) z

  -- so in a made option
  some_own : (b : Bool) (s : Site) → OwnCalls s → OwnCalls (some_of b s)
  some_own true s h =
      of_whole (λ (u : Site). IsImpureCall u → IsCallOf facts its_vars its_steps u) (make_some s) (λ z. absurd z)
      (λ u m. of_one (λ (u : Site). IsImpureCall u → IsCallOf facts its_vars its_steps u) s u h m)
  some_own false s h = h

  -- so in the result
  result_own : OwnCalls (own_result facts rule)
  result_own = some_own (facts.partial rule.root) _ (word_steps facts its_vars vars_pure its_steps (word_of facts rule.right)
      ((steps_are_causal facts rule.right).1))

  -- and in what the rule asks
  spoken_own : (d : Demand) (s : Site) → SpeaksOf IsPure d → IsSpokenOf d s → OwnCalls s
  spoken_own (constrained t k) s h e u m z = absurd (h u (subst (IsSubtree u) e m) z)
  spoken_own (equal t w) s h (inl e) u m z = absurd (h.0 u (subst (IsSubtree u) e m) z)
  spoken_own (equal t w) s h (inr e) u m z = absurd (h.1 u (subst (IsSubtree u) e m) z)

  asked_own : (s : Site) → IsAskedSite facts rule s ⊎ (s ≡ own_result facts rule) → OwnCalls s
  asked_own s (inl (inl (d, e, spoken))) = spoken_own d s ((demands_are_pure facts rule pure).0 d e) spoken
  asked_own s (inl (inr (inl n))) =
      part_of (λ (u : Site). IsImpureCall u → IsCallOf facts its_vars its_steps u) (iterator s) s
      (logged_own (iterator s) (needed_logged facts rule pure vars_pure (iterator s) n)) (inl refl)
  asked_own s (inl (inr (inr e))) =
      part_of (λ (u : Site). IsImpureCall u → IsCallOf facts its_vars its_steps u) (iterator s) s (subst OwnCalls (sym e) result_own) (inl refl)
  asked_own s (inr e) = subst OwnCalls (sym e) result_own

  -- In all that the rule asks, and in its result, impure calls are answered as functions answer them.
  pub answered_as_functions : (c : Completion) → AreFiniteFunctions facts c → (args : Values) (s : Site)
      → IsAskedSite facts rule s ⊎ (s ≡ own_result facts rule) → AreAsFunctions facts c args (impure_answers facts c args rule) s
  answered_as_functions c functions args s asked =
      as_functions facts c functions args its_vars vars_pure its_steps (impure_answers facts c args rule) (steps_placed facts rule.right)
      (all_given facts c functions args its_vars vars_pure its_steps [] [] refl tt (steps_placed facts rule.right)
      ((steps_are_causal facts rule.right).0)
      (λ j s at. absurd (none-some s at)) (λ j s at. absurd (none-some s at))) s (asked_own s asked)

-- If-lets of typed rules make no impure calls.
pub typed_iflets_pure : (declared : Declared) (variables : List Variable) (flags : Flags) (xs : List TypedIfLet)
    → AreTypedIfLets declared variables (on_lhs flags) xs → IfLetsArePure (facts_of declared) xs
typed_iflets_pure declared variables flags [] h = tt
typed_iflets_pure declared variables flags (x ∷ xs) h =
    (steps_pure declared variables (on_lhs flags) refl (built_at x.value) x.value (h.0), typed_iflets_pure declared variables flags xs (h.2))
