-- A call of a constructor that a term's tree binds is one of a rule of the term.
use Rattle.std.proofs.Common.{◌≡◌, ◌⊎◌, inl, inr, ℕ, suc, Bool, true, false, List, [], ◌∷◌, map, Some, slice_get, sym, ◌∙◌, ap, subst}
use Rattle.isle_trees.specs.Rules.{Elem, IsPartOf, itself, of_part, Asked, rights}
use Rattle.isle_trees.proofs.Asking.{elem_append}
use Rattle.isle_rules.specs.TypedRules.{TypedIfLet, TypedRule}
use Rattle.isle_meaning.specs.Facts.{TermFacts}
use Rattle.isle_meaning.specs.Words.{Word, var_word, bool_word, int_word, prim_word, variant_word, struct_word, call_word, Words}
use Rattle.isle_meaning.specs.Words.{no_words, more_words, Step, word_of, steps_of}
use Rattle.isle_meaning.specs.Sites.{Site, bool_site, int_site, prim_site, extractor_call, constructor_call, make_variant}
use Rattle.isle_meaning.specs.Sites.{make_struct, make_some, Sites, answer_site, site_of, sites_of}
use Rattle.isle_meaning.specs.AboutSites.Parts.{IsOneOf, SpeaksOf}
use Rattle.isle_meaning.specs.Demands.{Demand, constrained, equal, vars_of, result_of}
use Rattle.isle_meaning.specs.Derived.{Derived}
use Rattle.isle_meaning.specs.Demands.{DemandOf}
use Rattle.isle_meaning.specs.Numbered.{Row, constructor_row}
use Rattle.isle_meaning.specs.Worlds.{CheckedProgram}
use Rattle.isle_meaning.specs.Reaching.{IsCalledInIfLets, IsCalledInRule, Calls}
use Rattle.isle_meaning.specs.Machine.Runs.{TermTree}
use Rattle.isle_meaning.specs.Machine.Trees.{with_content, calls_of, is_call, IsTermTree}
use Rattle.isle_meaning.specs.Machine.Asking.{IsOfSite}
use Rattle.isle_meaning.proofs.Calls.Spending.{expr_called}
use Rattle.isle_meaning.proofs.Chains.Asks.{WordCalls, WordsCall, StepCalls, word_calls}
use Rattle.isle_meaning.proofs.Chains.Subtrees.{whole, deeper}
use Rattle.isle_meaning.proofs.Chains.Unique.{EachStep}
use Rattle.isle_meaning.proofs.Sites.Parts.{OfSubtrees, of_whole, of_one, EachSite, sites_append}
use Rattle.isle_meaning.proofs.Sites.Carried.{IsCarried, subtrees_carry, variables_carry, rule_carries, args_carried, PassOn, lets_carried}
use Rattle.isle_meaning.proofs.Machine.RowSites.{Stands, part_site, part_stands}
use Rattle.isle_meaning.proofs.Machine.Demanded.{asked_site}
use Rattle.isle_meaning.proofs.Machine.Bound.{BindsOnly, tree_binds}

-- a constructor's call is of one of these terms
abbrev pub IsOfThese : (ℕ → Type 0) → Site → Type 0
IsOfThese Q (constructor_call t ss i) = Q t
IsOfThese Q s = Unit {0}

module _ (facts : TermFacts) (Q : ℕ → Type 0) where
  -- it passes on
  these_carried : IsCarried (OfSubtrees (IsOfThese Q))
  these_carried = subtrees_carry (IsOfThese Q) (record {
    argument = λ i. tt;
    nothing = λ k. tt;
    variant = λ s k i. tt;
    struct = λ s i. tt;
    content = λ s. tt;
    item = λ s. tt;
    output = λ s i. tt;
  })

  -- an extractor's call isn't a constructor's
  opened_these : (t : ℕ) (s : Site) → IsOfThese Q (extractor_call t s)
  opened_these t s = tt

  -- what a call gives
  answer_these : (multi partial : Bool) (s : Site) → OfSubtrees (IsOfThese Q) s → OfSubtrees (IsOfThese Q) (answer_site multi partial s)
  answer_these true partial s h = these_carried.item s h
  answer_these false true s h = these_carried.content s h
  answer_these false false s h = h

  module _ (vars : ℕ → Site) (v : (k : ℕ) → OfSubtrees (IsOfThese Q) (vars k)) where
    mutual
      -- a word's site calls what the word does
      word_these : (x : Word) → WordCalls Q x → OfSubtrees (IsOfThese Q) (site_of facts vars x)
      word_these (var_word k) h = v k
      word_these (bool_word ty b) h = of_whole (IsOfThese Q) (bool_site b ty) tt (λ u m. absurd m)
      word_these (int_word ty n) h = of_whole (IsOfThese Q) (int_site n ty) tt (λ u m. absurd m)
      word_these (prim_word n) h = of_whole (IsOfThese Q) (prim_site n) tt (λ u m. absurd m)
      word_these (variant_word ty k ws) h = of_whole (IsOfThese Q) (make_variant ty k (sites_of facts vars ws)) tt (words_these ws h)
      word_these (struct_word ty ws) h = of_whole (IsOfThese Q) (make_struct ty (sites_of facts vars ws)) tt (words_these ws h)
      word_these (call_word t ws i) h =
          answer_these (facts.multi t) (facts.partial t) (constructor_call t (sites_of facts vars ws) i)
          (of_whole (IsOfThese Q) (constructor_call t (sites_of facts vars ws) i) (h.0) (words_these ws (h.1)))

      -- so do words'
      words_these : (xs : Words) → WordsCall Q xs → (u : Site) → IsOneOf (sites_of facts vars xs) u → OfSubtrees (IsOfThese Q) u
      words_these no_words h u m = absurd m
      words_these (more_words x xs) h u (inl e) = subst (OfSubtrees (IsOfThese Q)) (sym e) (word_these x (h.0))
      words_these (more_words x xs) h u (inr m) = words_these xs (h.1) u m

    -- and steps'
    steps_these : (steps : List Step) → EachStep (StepCalls Q) steps → EachSite (OfSubtrees (IsOfThese Q)) (calls_of facts vars steps)
    steps_these [] h = tt
    steps_these (s ∷ steps) h =
        let ss : Sites = sites_of facts vars s.args in
        let call : Site = constructor_call s.term ss (suc s.place) in
        let here : OfSubtrees (IsOfThese Q) call = of_whole (IsOfThese Q) call (h.0.0) (words_these s.args (h.0.1)) in
        sites_append (OfSubtrees (IsOfThese Q)) (with_content (facts.partial s.term) call) (calls_of facts vars steps)
        (content_these (facts.partial s.term) call here) (steps_these steps (h.1))
      where
        content_these : (partial : Bool) (s : Site) → OfSubtrees (IsOfThese Q) s → EachSite (OfSubtrees (IsOfThese Q)) (with_content partial s)
        content_these true s h = (h, (these_carried.content s h, tt))
        content_these false s h = (h, tt)

-- the calls of a rule's sites are the rule's
module _ (facts : TermFacts) (rule : TypedRule) where
  -- a site calls what the rule calls
  abbrev pub CallsIts : Site → Type 0
  CallsIts s = OfSubtrees (IsOfThese (IsCalledInRule facts rule)) s

  -- what if-lets pass on
  iflets_pass : (xs : List TypedIfLet) → ((u : ℕ) → IsCalledInIfLets facts xs u → IsCalledInRule facts rule u)
      → PassOn facts (IsOfThese (IsCalledInRule facts rule)) (these_carried facts (IsCalledInRule facts rule))
      (opened_these facts (IsCalledInRule facts rule)) xs
  iflets_pass [] f = tt
  iflets_pass (x ∷ xs) f = (
    λ vars v. word_these facts (IsCalledInRule facts rule) vars v (word_of facts x.value)
        ((word_calls facts (IsCalledInRule facts rule) x.value
        (expr_called facts (IsCalledInRule facts rule) x.value (λ u h. f u (inl h)))).0),
    iflets_pass xs (λ u h. f u (inr h)),
  )

  -- what follows from its demands
  derived_its : (d : Demand) → Derived (DemandOf facts rule) d → SpeaksOf CallsIts d
  derived_its = rule_carries facts CallsIts (these_carried facts (IsCalledInRule facts rule)) rule
      (args_carried facts (IsOfThese (IsCalledInRule facts rule)) (these_carried facts (IsCalledInRule facts rule))
      (opened_these facts (IsCalledInRule facts rule)) rule)
      (lets_carried facts (IsOfThese (IsCalledInRule facts rule)) (these_carried facts (IsCalledInRule facts rule))
      (opened_these facts (IsCalledInRule facts rule)) rule (iflets_pass rule.iflets (λ u h. inl h)))

  -- what its variables stand for
  variables_its : (k : ℕ) → CallsIts (vars_of facts rule k)
  variables_its = variables_carry facts CallsIts (these_carried facts (IsCalledInRule facts rule)) rule
      (args_carried facts (IsOfThese (IsCalledInRule facts rule)) (these_carried facts (IsCalledInRule facts rule))
      (opened_these facts (IsCalledInRule facts rule)) rule)
      (lets_carried facts (IsOfThese (IsCalledInRule facts rule)) (these_carried facts (IsCalledInRule facts rule))
      (opened_these facts (IsCalledInRule facts rule)) rule (iflets_pass rule.iflets (λ u h. inl h)))

  -- what its right side calls
  right_calls : WordCalls (IsCalledInRule facts rule) (word_of facts rule.right)
      × EachStep (StepCalls (IsCalledInRule facts rule)) (steps_of facts rule.right)
  right_calls = word_calls facts (IsCalledInRule facts rule) rule.right
      (expr_called facts (IsCalledInRule facts rule) rule.right (λ u h. inr h))

  -- its impure calls, and their contents
  steps_its : EachSite CallsIts (calls_of facts (vars_of facts rule) (steps_of facts rule.right))
  steps_its = steps_these facts (IsCalledInRule facts rule) (vars_of facts rule) variables_its (steps_of facts rule.right) (right_calls.1)

  -- its right side's own site
  own_its : CallsIts (site_of facts (vars_of facts rule) (word_of facts rule.right))
  own_its = word_these facts (IsCalledInRule facts rule) (vars_of facts rule) variables_its (word_of facts rule.right) (right_calls.0)

  -- its result
  result_its : (partial : Bool) → CallsIts (result_of facts partial rule)
  result_its true = of_whole (IsOfThese (IsCalledInRule facts rule)) (make_some (site_of facts (vars_of facts rule) (word_of facts rule.right))) tt
      (λ u m. of_one (IsOfThese (IsCalledInRule facts rule)) (site_of facts (vars_of facts rule) (word_of facts rule.right)) u own_its m)
  result_its false = own_its

-- one of numbers that are mapped to such sites
mapped : (P : Site → Type 0) (site : ℕ → Site) (ks : List ℕ) (k : ℕ) → EachSite P (map site ks) → Elem k ks → P (site k)
mapped P site [] k h m = absurd m
mapped P site (j ∷ js) k h (inl e) = subst (λ (z : ℕ). P (site z)) (sym e) (h.0)
mapped P site (j ∷ js) k h (inr m) = mapped P site js k (h.1) m

module _ {C : Type 0} (p : CheckedProgram) (R : ℕ → Type 0) (t : ℕ) (b : TermTree C) (B : IsTermTree p R t b) where
  -- a site calls what a rule left calls
  abbrev pub IsRules : ℕ → Type 0
  IsRules k = (i : ℕ) × Elem i B.left × CallsIts p.terms (B.rule i) (B.site k)

  -- what a rule's tests ask
  asked_its : (i k : ℕ) → Elem i B.left → Asked B.set i k → IsRules k
  asked_its i k m a =
      let (d, s, derived, speaks, inside) = (asked_site p R t b B i k m a).1 in (
        i,
        m,
        λ u n. of_it d s speaks (derived_its p.terms (B.rule i) d derived) u (deeper u (B.site k) s n inside),
      )
    where
      of_it : (d : Demand) (s : Site) → IsOfSite d s → SpeaksOf (CallsIts p.terms (B.rule i)) d → CallsIts p.terms (B.rule i) s
      of_it (constrained x c) s e h = subst (CallsIts p.terms (B.rule i)) (sym e) h
      of_it (equal x y) s (inl e) h = subst (CallsIts p.terms (B.rule i)) (sym e) (h.0)
      of_it (equal x y) s (inr e) h = subst (CallsIts p.terms (B.rule i)) (sym e) (h.1)

  -- what its right side has
  right_its : (i k : ℕ) → Elem i B.left → Elem k (rights B.set i) → CallsIts p.terms (B.rule i) (B.site k)
  right_its i k m n = elim (elem_append k (B.set.calls i) (B.set.result i ∷ []) n) [
    | inl c ↦ mapped (CallsIts p.terms (B.rule i)) B.site (B.set.calls i) k
        (subst (EachSite (CallsIts p.terms (B.rule i))) (sym (B.calls i m)) (steps_its p.terms (B.rule i))) c
    | inr r ↦ elim r [
      | inl e ↦ subst (CallsIts p.terms (B.rule i)) (sym (B.result i m) ∙ ap B.site (sym e)) (result_its p.terms (B.rule i) (p.terms.partial t))
      | inr z ↦ absurd z
    ]
  ]

  -- and what that is made of
  part_its : (i k : ℕ) → Elem i B.left → IsPartOf B.set (rights B.set i) k → Stands p R t b B k × CallsIts p.terms (B.rule i) (B.site k)
  part_its i _ m (itself k n) = (B.whole i k m n, right_its i k m n)
  part_its i _ m (of_part s q h n) =
      let ((row, at), its) = part_its i s m h in (
        part_stands p R t b B s q row at n,
        (these_carried p.terms (IsCalledInRule p.terms (B.rule i))).down (B.site s) (B.site q) its (part_site p R t b B s q row at n),
      )

  -- a site is of a rule left, or calls nothing
  abbrev pub IsCalled : ℕ → Type 0
  IsCalled k = IsRules k ⊎ ((row : Row) → slice_get b.sites k ≡ Some row → is_call row ≡ false)

  -- Such are all that the tree binds.
  pub tree_calls : BindsOnly IsCalled b.tree
  tree_calls = tree_binds p R t b B IsCalled (λ i k m a. inl (asked_its i k m a)) (λ i k m h. inl (i, m, (part_its i k m h).1))
      (λ k m e. inr (λ row at. B.opens k row m at e))

  -- A call of such a site of a term with rules is a call of the term.
  pub its_call : (k u i : ℕ) (js : List ℕ) → IsRules k → slice_get b.sites k ≡ Some (constructor_row u js i) → p.has_rules u ≡ true → Calls p t u
  its_call k u i js (n, m, h) at ruled = record {
    place = B.place n;
    rule = B.rule n;
    at = B.listed n m;
    called = subst (IsOfThese (IsCalledInRule p.terms (B.rule n))) (B.sited k (constructor_row u js i) at) (h (B.site k) (whole (B.site k)));
    has_rules = ruled;
  }
