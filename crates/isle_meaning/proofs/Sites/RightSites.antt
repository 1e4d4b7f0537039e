-- Where a rule matches, its right side is what its sites say.
use Rattle.std.proofs.Common.{◌≡◌, ◌≢◌, ◌↔◌, ℕ, List, [], ◌∷◌, ◌++◌, Option, sym, ap, subst, ◌∙◌}
use Rattle.isle_rules.specs.TypedRules.{TypedRule}
use Rattle.isle_meaning.specs.Got.{Got, unknown, gives}
use Rattle.isle_meaning.specs.Values.{Value, Values}
use Rattle.isle_meaning.specs.Facts.{TermFacts}
use Rattle.isle_meaning.specs.Answers.{Completion}
use Rattle.isle_meaning.specs.Words.{Word, Words, Step, word_of, steps_of}
use Rattle.isle_meaning.specs.Sites.{Site, site_of, sites_of}
use Rattle.isle_meaning.specs.Held.{held_value, plain, value, values}
use Rattle.isle_meaning.specs.Matching.{word_value, word_values, MatchesWith}
use Rattle.isle_meaning.specs.Demands.{vars_of}
use Rattle.isle_meaning.specs.Scopes.{Reads, ReadAll, IsWellScopedRule, scope_of}
use Rattle.isle_meaning.specs.RightSides.{IsFailure, IsValue, on_got, on_answer, Right, RightOf}
use Rattle.isle_meaning.specs.AboutSites.RightSites.{RightBySites, RightOfSites}
use Rattle.isle_meaning.specs.Worlds.{Event}
use Rattle.isle_meaning.specs.Calls.{Makes, Means}
use Rattle.isle_meaning.specs.Laws.Sites.{RightSidesAreTheirSites}
use Rattle.isle_meaning.proofs.Chains.Deeper.{got_map, answer_map}
use Rattle.isle_meaning.proofs.Chains.Unique.{EachStep}
use Rattle.isle_meaning.proofs.Matching.Basics.{plain_held}
use Rattle.isle_meaning.proofs.Matching.Later.{later}
use Rattle.isle_meaning.proofs.Matching.Scoping.{word_reads}
use Rattle.isle_meaning.proofs.Matching.Whole.{both_forward}
use Rattle.isle_meaning.proofs.Matching.Written.{word_site, words_sites}
use Rattle.isle_meaning.proofs.Sites.Steps.{steps_read}

-- what is given is known
given_known : {A : Type 0} (g : Got A) (x : A) → g ≡ gives x → g ≢ unknown
given_known g x e u = let z = sym e ∙ u in cc

module _ (facts : TermFacts) (c : Completion) (makes : ℕ → Values → List Event → Option Value → Type 0) (args : Values) (rule : TypedRule)
    (well : IsWellScopedRule facts rule) (a : ℕ → Value) (m : MatchesWith facts c args rule a) where
  -- what the rule's variables stand for
  abbrev vars : ℕ → Site
  vars = vars_of facts rule

  -- its variables
  abbrev S : ℕ → Type 0
  S = scope_of rule

  -- a variable's site has its value, whatever was done
  at_any : (done : List (Option Value)) (k : ℕ) → S k → value facts c args done (vars k) ≡ gives (held_value (a k))
  at_any done k s =
      let now = (both_forward facts c args rule well a m).1 k s in
      later facts c args [] done (vars k) (given_known (value facts c args [] (vars k)) (held_value (a k)) now) ∙ now

  -- a word's site has its value
  word_is : (done : List (Option Value)) (w : Word) → Reads facts w S
      → plain (value facts c args done (site_of facts vars w)) ≡ word_value c a done w
  word_is done w r = ap plain (word_site facts c args done a vars S (at_any done) w r) ∙ plain_held (word_value c a done w)

  -- words' sites have theirs
  words_are : (done : List (Option Value)) (ws : Words) → ReadAll facts ws S
      → values facts c args done (sites_of facts vars ws) ≡ word_values c a done ws
  words_are done ws r = words_sites facts c args done a vars S (at_any done) ws r

  -- what the right side does from a step on, whose arguments have values, where the rest does this
  abbrev After : (List (Option Value) → List Event → Option Value → Type 0) → List (Option Value) → Step → List Event → Option Value → Values
      → Type 0
  After rest done s trace b vs = (effects : List Event) × (more : List Event) × (o : Option Value) × (trace ≡ effects ++ more)
      × makes s.term vs effects o × on_answer o (IsFailure more b) (rest (done ++ o ∷ []) more b)

  -- what it does where the rest does less
  after_map : (one other : List (Option Value) → List Event → Option Value → Type 0)
      → ((done : List (Option Value)) (trace : List Event) (b : Option Value) → one done trace b → other done trace b)
      → (done : List (Option Value)) (s : Step) (trace : List Event) (b : Option Value) (vs : Values)
      → After one done s trace b vs → After other done s trace b vs
  after_map one other f done s trace b vs z =
      let (effects, more, o, e, made, k) = z in
      (effects, more, o, e, made, answer_map o (IsFailure more b) _ _ (f (done ++ o ∷ []) more b) k)

  -- from words to sites
  to_sites : (steps : List Step) (w : Word) (done : List (Option Value)) (trace : List Event) (b : Option Value)
      → EachStep (λ s. ReadAll facts s.args S) steps → Reads facts w S
      → Right c makes a done steps w trace b → RightBySites facts c makes args vars done steps w trace b
  to_sites [] w done trace b h r x =
      subst (λ (g : Got Value). on_got g (IsFailure trace b) (λ v. IsValue v trace b)) (sym (word_is done w r)) x
  to_sites (s ∷ steps) w done trace b h r x =
      let rest : List (Option Value) → List Event → Option Value → Type 0 =
      λ d t o. RightBySites facts c makes args vars d steps w t o in
      let y = got_map (word_values c a done s.args) (IsFailure trace b) _ (After rest done s trace b)
      (after_map (λ d t o. Right c makes a d steps w t o) rest (λ d t o z. to_sites steps w d t o (h.1) r z) done s trace b) x in
      subst (λ (g : Got Values). on_got g (IsFailure trace b) (After rest done s trace b)) (sym (words_are done s.args (h.0))) y

  -- and back
  from_sites : (steps : List Step) (w : Word) (done : List (Option Value)) (trace : List Event) (b : Option Value)
      → EachStep (λ s. ReadAll facts s.args S) steps → Reads facts w S
      → RightBySites facts c makes args vars done steps w trace b → Right c makes a done steps w trace b
  from_sites [] w done trace b h r x =
      subst (λ (g : Got Value). on_got g (IsFailure trace b) (λ v. IsValue v trace b)) (word_is done w r) x
  from_sites (s ∷ steps) w done trace b h r x =
      let rest : List (Option Value) → List Event → Option Value → Type 0 =
      λ d t o. RightBySites facts c makes args vars d steps w t o in
      let y = subst (λ (g : Got Values). on_got g (IsFailure trace b) (After rest done s trace b)) (words_are done s.args (h.0)) x in
      got_map (word_values c a done s.args) (IsFailure trace b) _ _
      (after_map rest (λ d t o. Right c makes a d steps w t o) (λ d t o z. from_sites steps w d t o (h.1) r z) done s trace b) y

  -- A right side is what its sites say.
  pub right_by_sites : (trace : List Event) (b : Option Value) → RightOf facts c makes a rule trace b ↔ RightOfSites facts c makes args rule trace b
  right_by_sites trace b =
      let steps = steps_read facts (scope_of rule) rule.right well.right in
      let word = word_reads facts (scope_of rule) rule.right well.right in (
        to_sites (steps_of facts rule.right) (word_of facts rule.right) [] trace b steps word,
        from_sites (steps_of facts rule.right) (word_of facts rule.right) [] trace b steps word,
      )

pub right_sides_are_their_sites : RightSidesAreTheirSites
right_sides_are_their_sites p w n c args rule well a m trace answer =
    right_by_sites p.terms c (Makes p (Means p w n)) args rule well a m trace answer
