-- Under answers to impure calls a walk chooses as the rules do, and its return does the right side.
use Rattle.std.proofs.Common.{◌≡◌, inl, inr, ℕ, zero, suc, ◌+◌, ◌<◌, Bool, true, List, [], ◌∷◌, ◌++◌, length, Option, Some, None}
use Rattle.std.proofs.Common.{slice_get, refl, sym, ap, subst, ◌∙◌, arith, append-nil}
use Rattle.std.proofs.lemmas.Option.{same_Some, none-some}
use Rattle.isle_types.specs.declared.ids.Sym.{Sym}
use Rattle.isle_rules.specs.declared.rules.Rule as source
use Rattle.isle_rules.specs.TypedRules.{TypedRule}
use Rattle.isle_meaning.specs.Answers.{Completion, IsAllowed}
use Rattle.isle_meaning.specs.Calls.{Makes, Means}
use Rattle.isle_meaning.specs.Demands.{vars_of}
use Rattle.isle_meaning.specs.Facts.{TermFacts}
use Rattle.isle_meaning.specs.Held.{Held, held_value, value, values}
use Rattle.isle_meaning.specs.Matching.{MatchesWith, word_values}
use Rattle.isle_meaning.specs.Numbered.{Row}
use Rattle.isle_meaning.specs.RightSides.{RightOf}
use Rattle.isle_meaning.specs.Scopes.{Covers, IsWellScopedRule, ReadAll, scope_of}
use Rattle.isle_meaning.specs.Sites.{sites_of}
use Rattle.isle_meaning.specs.Values.{Value, Values, count}
use Rattle.isle_meaning.specs.Words.{Step, steps_of, word_of}
use Rattle.isle_meaning.specs.Worlds.{Event}
use Rattle.isle_meaning.proofs.Chains.Unique.{EachStep}
use Rattle.isle_meaning.proofs.Matching.Later.{later}
use Rattle.isle_meaning.proofs.Matching.Whole.{both_forward}
use Rattle.isle_meaning.proofs.Matching.Written.{words_sites}
use Rattle.isle_meaning.proofs.Sites.RightSites.{right_by_sites}
use Rattle.isle_meaning.proofs.Sites.Steps.{steps_placed, steps_read}
use Rattle.isle_trees.specs.Answers.{Answers, HasValue, all_have}
use Rattle.isle_trees.specs.Builds.{Builds, IsTreeOf}
use Rattle.isle_trees.specs.Choice.{IsKept, IsMet, IsRight, IsOpenFor, trace}
use Rattle.isle_trees.specs.Got.{gives}
use Rattle.isle_trees.specs.Rules.{Elem, IsPartOf, Rules, itself, of_part, rights}
use Rattle.isle_trees.specs.Scopes.{nothing_known}
use Rattle.isle_trees.specs.Tree.{Steps}
use Rattle.isle_trees.specs.Walk.{Bound, goes, opens, breaks, Outcome, chooses, ends, waits, stops, bind, walk}
use Rattle.isle_trees.proofs.Basics.{given_known, value_or}
use Rattle.isle_trees.proofs.Building.Lists.{below_less, elem_below}
use Rattle.isle_trees.proofs.Leaf.{part_more}
use Rattle.isle_trees.proofs.Whole.{whole_kept, whole_right}
use Rattle.isle_blocks.specs.declared.constraint.Constraint.{Constraint}
use Rattle.isle_blocks.specs.declared.rule.Rule.{Rule}
use Rattle.isle_blocks.specs.DefinedSets.{IsMadeAt, facts_by, name_of, rules_by}
use Rattle.isle_blocks.specs.Rows.{rows_of}
use Rattle.isle_blocks.specs.RuleSets.{RulesOverSites}
use Rattle.isle_blocks.specs.Trees.Choices.{AreAllLeft, CoversTerm, HavePriorities, IsChosen, MayBothBe, SaysOf}
use Rattle.isle_blocks.specs.Trees.Premises.{IsRunnableSet}
use Rattle.isle_blocks.specs.Trees.Promises.{all_rules, IsBuilt}
use Rattle.isle_blocks.specs.Trees.RightPromises.{AnswersAsRules, AnswersWith, AreAllowed, AreMade, DoesAsRules, IsRightSide}
use Rattle.isle_blocks.specs.Trees.RightPromises.{ReturnsItsRight, effects_from}
use Rattle.isle_blocks.specs.Trees.Shown.{BlockShown}
use Rattle.isle_blocks.specs.Trees.SiteTrees.{held_by}
use Rattle.isle_blocks.specs.Trees.View.{calls_at, read_or, rules_of}
use Rattle.isle_blocks.proofs.Trees.Answered.{answers_are_strict}
use Rattle.isle_blocks.proofs.Trees.Chosen.{no_done, rule_placed, walks_choose}
use Rattle.isle_blocks.proofs.Trees.Defined.{definitions_have_priorities}
use Rattle.isle_blocks.proofs.Trees.Effects.{is_single}
use Rattle.isle_blocks.proofs.Trees.Listed.{uses_no_multi}
use Rattle.isle_blocks.proofs.Trees.Matched.{knows_asked}
use Rattle.isle_blocks.proofs.Trees.Respected.{respects}
use Rattle.isle_blocks.proofs.Trees.Promises.RightCalls.{right_fine}
use Rattle.isle_blocks.proofs.Trees.Promises.OwnAnswers.{now_own, own, own_all, own_asked, own_extends, own_respects, own_strict}
use Rattle.isle_blocks.proofs.Trees.Promises.RightSteps.{result_answers, steps_do}
use Rattle.isle_blocks.proofs.Trees.WellMade.{fit_of, kinds_of, well_made}

-- ---- answers that agree on what is met

-- what is met is met under answers that agree
met_same : {C V : Type 0} (R : Rules C V) (w u : Answers V) (us : List ℕ) → ((x : ℕ) → IsPartOf R us x → u x ≡ w x) → IsMet R w us → IsMet R u us
met_same R w u [] f met = tt
met_same R w u (s ∷ ss) f met = (
  λ x m k. met.0 x m (sym (f x (part_more R (s ∷ []) (s ∷ ss) x (λ y n. elim n [ inl e ↦ inl e | inr z ↦ absurd z ]) m)) ∙ k),
  λ g. met_same R w u ss (λ x m. f x (part_more R ss (s ∷ ss) x (λ y n. inr n) m)) (met.1 (subst HasValue (f s (itself s (inl refl))) g)),
)

-- it is bound alike
bind_same : {C V : Type 0} (R : Rules C V) (w u : Answers V) (us : List ℕ) → ((x : ℕ) → IsPartOf R us x → u x ≡ w x) → bind u us ≡ bind w us
bind_same R w u [] f = refl
bind_same R w u (s ∷ ss) f =
    rw (f s (itself s (inl refl)), bind_same R w u ss (λ x m. f x (part_more R ss (s ∷ ss) x (λ y n. inr n) m))) refl

have_same : {V : Type 0} (w u : Answers V) (us : List ℕ) → ((x : ℕ) → Elem x us → u x ≡ w x) → all_have u us ≡ all_have w us
have_same w u [] f = refl
have_same w u (s ∷ ss) f = rw (f s (inl refl), have_same w u ss (λ x m. f x (inr m))) refl

-- and the calls that are made are the same
trace_same : {C V : Type 0} (R : Rules C V) (w u : Answers V) (us : List ℕ) → ((x : ℕ) → IsPartOf R us x → u x ≡ w x) → trace R u us ≡ trace R w us
trace_same R w u [] f = refl
trace_same R w u (s ∷ ss) f =
    rw (
      have_same w u (R.parts s) (λ x m. f x (of_part s x (itself s (inl refl)) m)),
      f s (itself s (inl refl)),
      trace_same R w u ss (λ x m. f x (part_more R ss (s ∷ ss) x (λ y n. inr n) m)),
    ) refl

-- where all that is met is answered, nothing is open
none_open : {C V : Type 0} (R : Rules C V) (w : Answers V) (us : List ℕ) (s : ℕ) → IsMet R w us → bind w us ≡ opens s → ⊥
none_open R w [] s met e = cc
none_open R w (u ∷ us) s met e = elim (value_or (w u)) [
  | inl k ↦ met.0 u (itself u (inl refl)) k
  | inr o ↦ elim o [
    | inl k ↦ let z : breaks ≡ opens s = rw k at e in cc
    | inr g ↦ let z : bind w us ≡ opens s = rw (g.1) at e in none_open R w us s (met.1 g) z
  ]
]

-- where binding goes on to its end, the last site has a value
last_given : {V : Type 0} (w : Answers V) (us : List ℕ) (r : ℕ) → bind w (us ++ r ∷ []) ≡ goes → HasValue (w r)
last_given w [] r e = elim (value_or (w r)) [
  | inl k ↦ let z : opens r ≡ goes = rw k at e in absurd cc
  | inr o ↦ elim o [ inl k ↦ let z : breaks ≡ goes = rw k at e in absurd cc | inr g ↦ g ]
]
last_given w (u ∷ us) r e = elim (value_or (w u)) [
  | inl k ↦ let z : opens u ≡ goes = rw k at e in absurd cc
  | inr o ↦ elim o [
    | inl k ↦ let z : breaks ≡ goes = rw k at e in absurd cc
    | inr g ↦ let z : bind w (us ++ r ∷ []) ≡ goes = rw (g.1) at e in last_given w us r z
  ]
]

-- the part of a call is a part of the right side
call_part : {C V : Type 0} (R : Rules C V) (us vs : List ℕ) (x : ℕ) → IsPartOf R us x → IsPartOf R (us ++ vs) x
call_part R us vs x m = part_more R us (us ++ vs) x (λ y n. left us y n) m
  where
    left : (us : List ℕ) (y : ℕ) → Elem y us → Elem y (us ++ vs)
    left [] y n = absurd n
    left (z ∷ zs) y (inl e) = inl e
    left (z ∷ zs) y (inr n) = inr (left zs y n)

each_at : (Q : Step → Type 0) (steps : List Step) (j : ℕ) (s : Step) → EachStep Q steps → slice_get steps j ≡ Some s → Q s
each_at Q [] j s h e = absurd (none-some s e)
each_at Q (x ∷ steps) zero s h e = subst Q (same_Some x s e) (h.0)
each_at Q (x ∷ steps) (suc j) s h e = each_at Q steps j s (h.1) e

module _ (name : Sym → List ℕ) (facts : TermFacts) (sources : List source.Rule) (rules : List TypedRule) (term : ℕ) (set : RulesOverSites)
    (h : IsRunnableSet name facts sources rules term set) (c : Completion) (args : Values) (answers : List (Option Value))
    (allowed : IsAllowed facts c) (takes : count args ≡ length h.runnable.types) where
  -- the entries of the set's sites
  abbrev rows : List Row
  rows = rows_of name set.sites

  -- the set as trees see it
  abbrev R : Rules Constraint Held
  R = rules_of name set

  -- what sites hold while no impure call is answered, under the answers, and under those that are allowed
  abbrev now : Answers Held
  now = held_by name set.sites facts c args []

  abbrev all : Answers Held
  all = held_by name set.sites facts c args answers

  abbrev mine : Answers Held
  mine = own name facts sources rules term set h c args answers

  -- ---- one rule's return

  module _ (i : ℕ) (r : Rule) (at : slice_get set.rules i ≡ Some r) (p : ℕ) (m : IsMadeAt name facts sources rules term set.sites p r) where
    -- its typed rule
    abbrev rule : TypedRule
    rule = m.reached.rule

    abbrev partial : Bool
    partial = facts.partial rule.root

    result_is : R.result i ≡ r.result.0
    result_is = ap (read_or (length set.sites) (λ (k : Rule). k.result.0)) at

    calls_are : R.calls i ≡ calls_at set.sites r.impure
    calls_are = ap (read_or [] (λ (k : Rule). calls_at set.sites k.impure)) at

    module _ (ok : AreAllowed facts m.reached.rule answers) where
      -- what its right side has holds what it holds under the answers
      same : (x : ℕ) → IsPartOf R (rights R i) x → mine x ≡ all x
      same x part =
          own_all name facts sources rules term set h c args answers x
          (right_fine name facts sources rules term set h i r at p m answers ok x part)

      same_met : IsMet R all (rights R i) → IsMet R mine (rights R i)
      same_met met = met_same R all mine (rights R i) same met

      same_bound : bind mine (rights R i) ≡ bind all (rights R i)
      same_bound = bind_same R all mine (rights R i) same

      same_trace : trace R mine (R.calls i) ≡ trace R all (R.calls i)
      same_trace = trace_same R all mine (R.calls i) (λ x part. same x (call_part R (R.calls i) (R.result i ∷ []) x part))

    module _ (a : ℕ → Value) (matches : MatchesWith facts c args m.reached.rule a) where
      well : IsWellScopedRule facts rule
      well = (fit_of name facts sources rules term set h p r m).well

      -- a variable's site has its value, whatever was answered
      at_any : (k : ℕ) → scope_of rule k → value facts c args answers (vars_of facts rule k) ≡ gives (held_value (a k))
      at_any k s =
          let first = (both_forward facts c args rule well a matches).1 k s in
          later facts c args [] answers (vars_of facts rule k)
          (given_known (value facts c args [] (vars_of facts rule k)) (held_value (a k), first)) ∙ first

      -- so do the sites of a step's arguments
      words_are : (j : ℕ) (s : Step) → slice_get (steps_of facts rule.right) j ≡ Some s
          → values facts c args answers (sites_of facts (vars_of facts rule) s.args) ≡ word_values c a answers s.args
      words_are j s e =
          words_sites facts c args answers a (vars_of facts rule) (scope_of rule) at_any s.args
          (each_at (λ s. ReadAll facts s.args (scope_of rule)) (steps_of facts rule.right) j s
          (steps_read facts (scope_of rule) rule.right well.right) e)

      -- What is bound of the right side is what it does.
      does_right : (makes : ℕ → Values → List Event → Option Value → Type 0) (effects : ℕ → List Event) → AreAllowed facts m.reached.rule answers
          → IsMet R all (rights R i) → (answer : Option Value) → AnswersWith partial (all (R.result i)) (bind all (rights R i)) answer
          → AreMade c makes a (steps_of facts m.reached.rule.right) answers (length (trace R all (R.calls i))) effects
          → RightOf facts c makes a m.reached.rule (effects_from effects 0 (length (trace R all (R.calls i)))) answer
      does_right makes effects ok met answer so made =
          let vars = vars_of facts rule in
          let steps = steps_of facts rule.right in
          let calls = calls_at set.sites r.impure in
          let kinds = kinds_of name facts sources rules term set h p r m in
          let met' : IsMet R all (calls ++ r.result.0 ∷ []) =
          subst (λ (l : List ℕ). IsMet R all (l ++ r.result.0 ∷ [])) calls_are
          (subst (λ (n : ℕ). IsMet R all (R.calls i ++ n ∷ [])) result_is met) in
          let so' : AnswersWith partial (all r.result.0) (bind all (calls ++ r.result.0 ∷ [])) answer =
          subst (λ (l : List ℕ). AnswersWith partial (all r.result.0) (bind all (l ++ r.result.0 ∷ [])) answer) calls_are
          (subst (λ (n : ℕ). AnswersWith partial (all n) (bind all (R.calls i ++ n ∷ [])) answer) result_is so) in
          let many : length (trace R all (R.calls i)) ≡ length (trace R all calls) = ap (λ (l : List ℕ). length (trace R all l)) calls_are in
          let does = steps_do name facts sources rules term set h c args answers allowed takes makes vars effects partial r.result.0
          (word_of facts rule.right) m.value (kinds.result true) steps r.impure [] answers refl (steps_placed facts rule.right) m.effects
          (λ j s get none. ok j s get none) met' answer so'
          (λ j s vs b l get gs e.
          let zero_more : j ≡ 0 + j = omega arith in
          let few : j < length (trace R all (R.calls i)) = subst (λ (n : ℕ). j < n) (sym many) l in
          subst (λ (n : ℕ). makes s.term vs (effects n) b) zero_more (made j s vs b few get (sym (words_are j s get) ∙ gs) e)) in
          subst (λ (n : ℕ). RightOf facts c makes a rule (effects_from effects 0 n) answer) (sym many)
          ((right_by_sites facts c makes args rule well a matches (effects_from effects 0 (length (trace R all calls))) answer).1 does)

    -- it answers
    does_answer : (b : Bound) → bind all (rights R i) ≡ b → IsMet R all (rights R i)
        → (answer : Option Value) × AnswersWith partial (all (R.result i)) b answer
    does_answer goes e met =
        let kinds = kinds_of name facts sources rules term set h p r m in
        let there = last_given all (R.calls i) (R.result i) e in
        let (w, is) = result_answers name facts sources rules term set h c args answers allowed takes (λ t vs k b. Unit {0}) (vars_of facts rule)
        (λ n. []) partial r.result.0 (word_of facts rule.right) m.value (kinds.result true) (subst (λ (n : ℕ). HasValue (all n)) result_is there) in
        (Some w, (w, ap all result_is ∙ is, refl))
    does_answer (opens s) e met = absurd (none_open R all (rights R i) s met e)
    does_answer breaks e met = (None, refl)

    -- What a walk that chooses the rule comes to is a return that does its right side.
    pub returns_right : (b d : Bound) (calls more : List ℕ)
        → (IsMet R mine (rights R i) → (b ≡ bind mine (rights R i)) × (calls ≡ trace R mine (R.calls i)))
        → (IsOpenFor all b → (d ≡ b) × (more ≡ [])) → ReturnsItsRight name set facts c args answers m.reached.rule i d (calls ++ more)
    returns_right b d calls more right settled ok met =
        let (bound, made) = right (same_met ok met) in
        let whole : b ≡ bind all (rights R i) = bound ∙ same_bound ok in
        let fine : IsOpenFor all b = subst (λ (x : Bound). IsOpenFor all x) (sym whole) (by_bound (bind all (rights R i)) refl) in
        let (same_end, none) = settled fine in
        let ended : d ≡ bind all (rights R i) = same_end ∙ whole in
        let listed : calls ++ more ≡ trace R all (R.calls i) = ap (λ (l : List ℕ). calls ++ l) none ∙ append-nil calls ∙ made ∙ same_trace ok in
        let (answer, answers_so) = does_answer (bind all (rights R i)) refl met in (
          listed,
          (
            answer,
            subst (λ (x : Bound). AnswersWith partial (all (R.result i)) x answer) (sym ended) answers_so,
            subst (λ (k : ℕ). IsRightSide facts c args answers rule k answer) (sym (ap length listed)) (λ a matches effects. (
              λ prog w n are. does_right a matches (Makes prog (Means prog w n)) effects ok met answer answers_so are,
              λ test are. does_right a matches (λ t vs events o. test t vs events o ≡ true) effects ok met answer answers_so are,
            )),
          ),
        )
      where
        by_bound : (x : Bound) → bind all (rights R i) ≡ x → IsOpenFor all x
        by_bound goes e = tt
        by_bound (opens s) e = absurd (none_open R all (rights R i) s met e)
        by_bound breaks e = tt

  -- ---- the walk

  module _ (covers : CoversTerm facts c args rules term) where
    -- Under own answers the walk is right, and so it is while none is answered.
    covered : (p : ℕ) (rule : TypedRule) → slice_get rules p ≡ Some rule → rule.root ≡ term → Covers facts c args rule
    covered p rule at root = covers p rule (record { listed = at; of_term = root })

    -- the places of the set's rules, and what a walk's outcome says
    abbrev Says : Outcome → Type 0
    Says o = SaysOf facts c args rules term h.is.places o

    abbrev Does : Outcome → Type 0
    Does o = DoesAsRules name set facts c args answers rules term h.is.places o

    -- the rule that is chosen while no impure call is answered
    first_choice : (left : List ℕ) (o : Outcome) → IsRight R now left o → Says o → (i : ℕ) (b : Bound) (calls : List ℕ)
        → IsKept mine o (chooses i b calls)
        → (place : ℕ) × (rule : TypedRule) × (slice_get h.is.places i ≡ Some place) × IsChosen facts c args rules term place rule
    first_choice left (chooses j d e) right (place, rule, at, chosen) i b calls (k, more, is, settled) =
        let same : i ≡ j = cc in (place, rule, ap (slice_get h.is.places) same ∙ at, chosen)
    first_choice left ends right says i b calls kept = absurd cc
    first_choice left (waits s) right says i b calls kept = absurd right
    first_choice left stops right says i b calls kept = absurd right

    no_choice : (left : List ℕ) (o : Outcome) → IsRight R now left o → Says o → IsKept mine o ends → Says ends
    no_choice left (chooses j d e) right says (k, more, is, settled) = absurd cc
    no_choice left ends right says kept = says
    no_choice left (waits s) right says kept = absurd right
    no_choice left stops right says kept = absurd right

    -- what the outcome under the answers does, by that under own answers and that under none
    outcome_does : (left : List ℕ) (first mid last : Outcome) → IsRight R now left first → Says first → IsKept mine first mid
        → IsRight R mine left mid → IsKept all mid last → Does last
    outcome_does left first (chooses i b e) last right says kept (l, w, top, end) (d, more, is, settled) =
        let (place, rule, at, chosen) = first_choice left first right says i b e kept in
        let (r, at_r, made) = rule_placed name facts sources rules term set h i place at in
        let one : made.reached.rule ≡ rule = same_Some made.reached.rule rule (sym made.reached.at ∙ chosen.is.listed) in
        subst Does (sym is) (
          place,
          rule,
          at,
          chosen,
          subst (λ (x : TypedRule). ReturnsItsRight name set facts c args answers x i d (e ++ more)) one
              (returns_right i r at_r place made b d e more end settled),
        )
    outcome_does left first ends last right says kept none is = subst Does (sym is) (no_choice left first right says kept)
    outcome_does left first (waits s) last right says kept wrong is = absurd wrong
    outcome_does left first stops last right says kept wrong is = absurd wrong

    -- The walk chooses as the rules do, and does what the chosen one's right side does.
    pub walks_do : HavePriorities sources rules → (left : List ℕ) → AreAllLeft set left → ((i : ℕ) → Elem i left → i < length set.rules)
        → (T : Steps Constraint) → Builds (rules_of name set) left nothing_known T
        → DoesAsRules name set facts c args answers rules term h.is.places
        (walk (rules_of name set) (held_by name set.sites facts c args answers) T)
    walks_do priorities left every within T builds =
        let tree : IsTreeOf R left T = record {
          made = well_made name facts sources rules term set h;
          single = is_single name facts sources rules term set h;
          no_multi = uses_no_multi name facts sources rules term set h left;
          builds = builds;
        } in
        let both : MayBothBe facts c c = record { first = allowed; second = allowed; construct = λ t vs x y. refl; extract = λ t v x y. refl } in
        let now_fine = respects name facts sources rules term set h c args [] allowed takes (no_done name set facts) in
        let now_strict = answers_are_strict name set h.is.table facts c args [] in
        let mine_fine = own_respects name facts sources rules term set h c args answers allowed takes in
        let mine_strict = own_strict name facts sources rules term set h c args answers in
        outcome_does left (walk R now T) (walk R mine T) (walk R all T)
        (whole_right R left T now tree now_fine (knows_asked name facts sources rules term set h c args [] covered) now_strict)
        (walks_choose name facts sources rules term set h priorities left every within T builds c c args both takes covers)
        ((whole_kept R left T now mine tree now_fine (now_own name facts sources rules term set h c args answers) mine_strict).0)
        (whole_right R left T mine tree mine_fine (own_asked name facts sources rules term set h c args answers covered) mine_strict)
        ((whole_kept R left T mine all tree mine_fine (own_extends name facts sources rules term set h c args answers)
        (answers_are_strict name set h.is.table facts c args answers)).0)

pub built_answers : (set : RulesOverSites) (block : BlockShown) → IsBuilt set block → AnswersAsRules set block
built_answers set block built env d term h c args allowed takes covers answers =
    walks_do (name_of env d) (facts_by env d) env.rules (rules_by env d) term set h c args answers allowed takes covers
    (definitions_have_priorities env d) (all_rules set) (λ i l. elem_below i (length set.rules) l) (λ i m. below_less i (length set.rules) m)
    block.tree (built (name_of env d))
