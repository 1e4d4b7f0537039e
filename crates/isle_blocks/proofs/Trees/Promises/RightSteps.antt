-- A right side by its sites, from what is bound of it.
use Rattle.std.proofs.Common.{◌≡◌, ◌≢◌, inl, inr, ℕ, suc, ◌+◌, ◌<◌, Bool, true, false, List, [], ◌∷◌, ◌++◌, length, map, Option, Some, None}
use Rattle.std.proofs.Common.{slice_get, refl, sym, ap, subst, ◌∙◌, arith, append_assoc}
use Rattle.std.specs.Prelude.{if◌then◌else◌}
use Rattle.std.proofs.lemmas.Option.{none-some}
use Rattle.isle_types.specs.declared.ids.Sym.{Sym}
use Rattle.isle_rules.specs.declared.rules.Rule as source
use Rattle.isle_rules.specs.TypedRules.{TypedRule}
use Rattle.isle_meaning.specs.AboutSites.Kinds.{IsKinded, IsPlain}
use Rattle.isle_meaning.specs.AboutSites.Parts.{parts_of, IsOneOf}
use Rattle.isle_meaning.specs.AboutSites.RightSites.{RightBySites}
use Rattle.isle_meaning.specs.Answers.{Completion, IsAllowed, answered}
use Rattle.isle_meaning.specs.Demands.{some_of}
use Rattle.isle_meaning.specs.Facts.{TermFacts}
use Rattle.isle_meaning.specs.Held.{Held, construct_held, constructed, content_of, held_none, held_some, held_value, plain}
use Rattle.isle_meaning.specs.Held.{several_of, value, values}
use Rattle.isle_meaning.specs.Numbered.{Row, At, constructor_row}
use Rattle.isle_meaning.specs.Numbered.{match_some_row}
use Rattle.isle_meaning.specs.RightSides.{IsFailure, IsValue, on_answer, on_got}
use Rattle.isle_meaning.specs.Sites.{Site, Sites, no_sites, more_sites, answer_site, constructor_call, iterator, make_some, match_some}
use Rattle.isle_meaning.specs.Sites.{site_of, sites_of, step_site}
use Rattle.isle_meaning.specs.Sorts.{sort}
use Rattle.isle_meaning.specs.Values.{Value, Values, ask, count}
use Rattle.isle_meaning.specs.Words.{Step, Word}
use Rattle.isle_meaning.specs.Worlds.{Event}
use Rattle.isle_meaning.proofs.Chains.Causing.{length_more}
use Rattle.isle_meaning.proofs.Matching.Basics.{more_gives, plain_gives}
use Rattle.isle_meaning.proofs.Matching.Later.{all_later, later}
use Rattle.isle_meaning.proofs.Matching.Numbering.{one_site}
use Rattle.isle_meaning.proofs.Sites.HeldKinds.{kind, plain_held_kind}
use Rattle.isle_meaning.proofs.Sites.Steps.{Placed, call_of}
use Rattle.isle_trees.specs.Answers.{Answers, HasValue, all_have, has_value}
use Rattle.isle_trees.specs.Choice.{IsMet, trace}
use Rattle.isle_trees.specs.Got.{Got, unknown, fails, gives}
use Rattle.isle_trees.specs.Rules.{Elem, Rules, itself}
use Rattle.isle_trees.specs.Walk.{Bound, breaks, bind, call}
use Rattle.isle_trees.proofs.Basics.{all_from, all_gives, failed_known, gives_true, given_known, none_or, true_gives, true_or}
use Rattle.isle_blocks.specs.Tables.{sources_of}
use Rattle.isle_blocks.specs.Building.Standing.{StandEach}
use Rattle.isle_blocks.specs.declared.binding.Binding.{Binding}
use Rattle.isle_blocks.specs.declared.binding.Binding.TheVariants as sites
use Rattle.isle_blocks.specs.declared.constraint.Constraint.{Constraint}
use Rattle.isle_blocks.specs.declared.ids.BindingId.{BindingId}
use Rattle.isle_blocks.specs.Rows.{numbers_of, row_of, rows_of}
use Rattle.isle_blocks.specs.RuleSets.{RulesOverSites}
use Rattle.isle_blocks.specs.Trees.Premises.{IsRunnableSet}
use Rattle.isle_blocks.specs.Trees.RightPromises.{AnswersWith, effects_from, result_held}
use Rattle.isle_blocks.specs.Trees.SiteTrees.{held_by, tree_of}
use Rattle.isle_blocks.specs.Trees.View.{call_at, calls_at, is_impure, made_by, option_site, read_or, rules_of, with_option}
use Rattle.isle_blocks.proofs.Closure.Trees.{get_row}
use Rattle.isle_blocks.proofs.Trees.Answered.{tree_part}
use Rattle.isle_blocks.proofs.Trees.Listed.{site_kinded}
use Rattle.isle_blocks.proofs.Trees.Respected.{made_whole}
use Rattle.isle_blocks.proofs.Trees.Promises.RightCalls.{get_split}
use Rattle.isle_blocks.proofs.Trees.Standing.{tree_one}

-- ---- what is bound

-- binding goes on where a site has a value, and breaks where it fails
bind_given : {V : Type 0} (w : Answers V) (s : ℕ) (ss : List ℕ) (x : V) → w s ≡ gives x → bind w (s ∷ ss) ≡ bind w ss
bind_given w s ss x e = rw e refl

bind_failed : {V : Type 0} (w : Answers V) (s : ℕ) (ss : List ℕ) → w s ≡ fails → bind w (s ∷ ss) ≡ breaks
bind_failed w s ss e = rw e refl

-- no call is made whose parts haven't values
trace_lacks : {C V : Type 0} (R : Rules C V) (w : Answers V) (u : ℕ) (us : List ℕ) → all_have w (R.parts u) ≡ false → trace R w (u ∷ us) ≡ []
trace_lacks R w u us e = rw e refl

trace_given : {C V : Type 0} (R : Rules C V) (w : Answers V) (u : ℕ) (us : List ℕ) (x : V) → all_have w (R.parts u) ≡ true → w u ≡ gives x
    → trace R w (u ∷ us) ≡ call R u ++ trace R w us
trace_given R w u us x e f = rw (e, f) refl

trace_failed : {C V : Type 0} (R : Rules C V) (w : Answers V) (u : ℕ) (us : List ℕ) → all_have w (R.parts u) ≡ true → w u ≡ fails
    → trace R w (u ∷ us) ≡ call R u ++ []
trace_failed R w u us e f = rw (e, f) refl

call_made : {C V : Type 0} (R : Rules C V) (u : ℕ) → R.effect u ≡ true → call R u ≡ u ∷ []
call_made R u e = rw e refl

call_none : {C V : Type 0} (R : Rules C V) (u : ℕ) → R.effect u ≡ false → call R u ≡ []
call_none R u e = rw e refl

-- ---- lists and what is got

chosen_false : {A : Type 0} (b : Bool) (x y : A) → b ≡ false → (if b then x else y) ≡ y
chosen_false true x y e = absurd cc
chosen_false false x y e = refl

got_cases : {A : Type 0} (g : Got A) (failed : Type 0) (P : A → Type 0) → (g ≡ fails → failed) → ((x : A) → g ≡ gives x → P x) → on_got g failed P
got_cases unknown failed P f k = tt
got_cases fails failed P f k = f refl
got_cases (gives x) failed P f k = k x refl

-- ---- entries

-- the entry of a constructor's call, and of a content
constructor_of : (name : Sym → List ℕ) (b : Binding) (t i : ℕ) (js : List ℕ) → row_of name b ≡ constructor_row t js i
    → (ps : List BindingId) × (b ≡ sites.Constructor (record { 0 = t }) ps i)
constructor_of name (sites.Constructor u ps k) t i js e =
    let same : u.0 ≡ t = cc in let one : k ≡ i = cc in (ps, λ j. sites.Constructor (record { 0 = same j }) ps (one j))
constructor_of name (sites.ConstBool v u) t i js e = absurd cc
constructor_of name (sites.ConstInt v u) t i js e = absurd cc
constructor_of name (sites.ConstPrim v) t i js e = absurd cc
constructor_of name (sites.Argument k) t i js e = absurd cc
constructor_of name (sites.Extractor u a) t i js e = absurd cc
constructor_of name (sites.Iterator a) t i js e = absurd cc
constructor_of name (sites.MakeVariant u v cs) t i js e = absurd cc
constructor_of name (sites.MatchVariant a v k) t i js e = absurd cc
constructor_of name (sites.MakeStruct u cs) t i js e = absurd cc
constructor_of name (sites.ExtractStruct a k) t i js e = absurd cc
constructor_of name (sites.MakeSome a) t i js e = absurd cc
constructor_of name (sites.MatchSome a) t i js e = absurd cc
constructor_of name (sites.MatchTuple a k) t i js e = absurd cc

content_of_call : (name : Sym → List ℕ) (b : Binding) (a : ℕ) → row_of name b ≡ match_some_row a → b ≡ sites.MatchSome (record { 0 = a })
content_of_call name (sites.MatchSome u) a e = let same : u.0 ≡ a = cc in λ j. sites.MatchSome (record { 0 = same j })
content_of_call name (sites.ConstBool v u) a e = absurd cc
content_of_call name (sites.ConstInt v u) a e = absurd cc
content_of_call name (sites.ConstPrim v) a e = absurd cc
content_of_call name (sites.Argument k) a e = absurd cc
content_of_call name (sites.Extractor u x) a e = absurd cc
content_of_call name (sites.Constructor u ps k) a e = absurd cc
content_of_call name (sites.Iterator x) a e = absurd cc
content_of_call name (sites.MakeVariant u v cs) a e = absurd cc
content_of_call name (sites.MatchVariant x v k) a e = absurd cc
content_of_call name (sites.MakeStruct u cs) a e = absurd cc
content_of_call name (sites.ExtractStruct x k) a e = absurd cc
content_of_call name (sites.MakeSome x) a e = absurd cc
content_of_call name (sites.MatchTuple x k) a e = absurd cc

module _ (name : Sym → List ℕ) (facts : TermFacts) (sources : List source.Rule) (rules : List TypedRule) (term : ℕ) (set : RulesOverSites)
    (h : IsRunnableSet name facts sources rules term set) (c : Completion) (args : Values) (answers : List (Option Value))
    (allowed : IsAllowed facts c) (takes : count args ≡ length h.runnable.types)
    (makes : ℕ → Values → List Event → Option Value → Type 0) (vars : ℕ → Site) (effects : ℕ → List Event) where
  -- the entries of the set's sites
  abbrev rows : List Row
  rows = rows_of name set.sites

  -- the set as trees see it
  abbrev R : Rules Constraint Held
  R = rules_of name set

  -- a number's tree
  abbrev tree : ℕ → Site
  tree = tree_of name set.sites

  -- what a site holds, and a number's
  abbrev val : Site → Got Held
  val s = value facts c args answers s

  abbrev v : Answers Held
  v = held_by name set.sites facts c args answers

  val_at : (s : Site) (k : ℕ) → At rows s k → v k ≡ val s
  val_at s k at = ap val (tree_one name set.sites h.is.table s k at)

  -- where sites have values, each has
  given_each : (ss : Sites) (vs : Values) → values facts c args answers ss ≡ gives vs → (u : Site) → IsOneOf ss u → HasValue (val u)
  given_each no_sites vs e u m = absurd m
  given_each (more_sites s ss) vs e u (inl q) =
      let (x, xs, a, b) = more_gives (plain (val s)) (values facts c args answers ss) vs e in
      subst (λ (z : Site). HasValue (val z)) (sym q) (held_value x, plain_gives (val s) x a)
  given_each (more_sites s ss) vs e u (inr m) =
      let (x, xs, a, b) = more_gives (plain (val s)) (values facts c args answers ss) vs e in given_each ss xs b u m

  part_there : (s p : ℕ) → Elem p (R.parts s) → (b : Binding) × (slice_get set.sites s ≡ Some b)
  part_there s p m = elim (none_or (slice_get set.sites s)) [
    | inl e ↦ absurd (subst (λ (o : Option Binding). Elem p (read_or [] (λ (b : Binding). numbers_of (sources_of b)) o)) e m)
    | inr e ↦ e
  ]

  -- ---- one call

  module _ (s : Step) (before rest : List (Option Value)) (split : answers ≡ before ++ rest) (place : s.place ≡ length before) (a : ℕ)
      (at : At rows (call_of facts vars s) a) (may : slice_get rest 0 ≡ Some None → facts.partial s.term ≡ true) where
    -- its arguments
    abbrev ss : Sites
    ss = sites_of facts vars s.args

    single : facts.multi s.term ≡ false
    single = (site_kinded name facts sources rules term set h (call_of facts vars s) a at).1

    -- its entry
    entry : (ps : List BindingId) × (slice_get set.sites a ≡ Some (sites.Constructor (record { 0 = s.term }) ps (suc s.place)))
    entry =
        let (b, there, is) = get_row name set.sites a (constructor_row s.term (at.0) (suc s.place)) (at.1) in
        let (ps, q) = constructor_of name b s.term (suc s.place) (at.0) is in (ps, there ∙ ap Some q)

    is_effect : R.effect a ≡ true
    is_effect = ap (read_or false is_impure) (entry.1)

    not_made : R.made a ≡ None
    not_made = ap (read_or None (made_by set.rules)) (entry.1)

    answer_is : slice_get answers s.place ≡ slice_get rest 0
    answer_is = ap (slice_get answers) place ∙ ap (λ (l : List (Option Value)). slice_get l (length before)) split ∙ get_split before rest

    -- what it holds, by its arguments
    call_held : v a ≡ ask (construct_held facts c answers s.term (suc s.place)) (values facts c args answers ss)
    call_held = val_at (call_of facts vars s) a at

    -- what is known of arguments stays
    same_values : values facts c args before ss ≢ unknown → values facts c args answers ss ≡ values facts c args before ss
    same_values k =
        subst (λ (l : List (Option Value)). values facts c args l ss ≡ values facts c args before ss) (sym split)
        (all_later facts c args before rest ss k)

    call_fails : values facts c args before ss ≡ fails → v a ≡ fails
    call_fails e =
        call_held ∙ ap (ask (construct_held facts c answers s.term (suc s.place))) (same_values (failed_known (values facts c args before ss) e) ∙ e)

    call_given : (vs : Values) → values facts c args before ss ≡ gives vs
        → v a ≡ constructed (facts.partial s.term) (answered (slice_get rest 0))
    call_given vs e =
        call_held
        ∙ ap (ask (construct_held facts c answers s.term (suc s.place))) (same_values (given_known (values facts c args before ss) (vs, e)) ∙ e)
        ∙ chosen_false (facts.multi s.term) (several_of (c.constructs s.term vs))
        (constructed (facts.partial s.term) (answered (slice_get answers s.place))) single
        ∙ ap (λ (o : Option (Option Value)). constructed (facts.partial s.term) (answered o)) answer_is

    -- its parts have values where its arguments have
    has_parts : (vs : Values) → values facts c args before ss ≡ gives vs → all_have v (R.parts a) ≡ true
    has_parts vs e =
        let full = same_values (given_known (values facts c args before ss) (vs, e)) ∙ e in
        all_from (λ p. has_value (v p)) (R.parts a) (λ p m.
        let (b, there) = part_there a p m in
        let inside = tree_part name set.sites h.is.table a b p there m in
        let one = subst (λ (z : Site). IsOneOf (parts_of z) (tree p)) (tree_one name set.sites h.is.table (call_of facts vars s) a at) inside in
        gives_true (v p) (given_each ss vs full (tree p) one))

    -- if it was answered none, it may fail
    may_fail : (f n : ℕ) (us : Sites) → At rows (constructor_call f us (suc n)) a → slice_get answers n ≡ Some None → facts.partial f ≡ true
    may_fail f n us other none =
        let same = one_site rows (constructor_call f us (suc n)) (call_of facts vars s) a other at in
        let t : f ≡ s.term = cc in let k : n ≡ s.place = cc in
        ap facts.partial t ∙ may (sym answer_is ∙ ap (slice_get answers) (sym k) ∙ none)

    lacks_parts : values facts c args before ss ≡ fails → all_have v (R.parts a) ≡ false
    lacks_parts e = elim (true_or (all_have v (R.parts a))) [
      | inr n ↦ n
      | inl y ↦ absurd (made_whole name facts sources rules term set h c args answers allowed takes a may_fail not_made
          (λ p m. true_gives (v p) (all_gives (λ x. has_value (v x)) (R.parts a) p y m)) (call_fails e))
    ]

    -- its content
    module _ (id : ℕ) (at_id : At rows (match_some (call_of facts vars s)) id) (there : at_id.0 ≡ a) where
      content_entry : slice_get set.sites id ≡ Some (sites.MatchSome (record { 0 = a }))
      content_entry =
          let (b, there_b, is) = get_row name set.sites id (match_some_row (at_id.0)) (at_id.1) in
          there_b ∙ ap Some (content_of_call name b (at_id.0) is ∙ ap (λ (x : ℕ). sites.MatchSome (record { 0 = x })) there)

      content_pure : R.effect id ≡ false
      content_pure = ap (read_or false is_impure) content_entry

      content_parts : R.parts id ≡ a ∷ []
      content_parts = ap (read_or [] (λ (b : Binding). numbers_of (sources_of b))) content_entry

      content_held : v id ≡ ask content_of (v a)
      content_held = val_at (match_some (call_of facts vars s)) id at_id ∙ ap (ask content_of) (sym (val_at (call_of facts vars s) a at))

      content_has : HasValue (v a) → all_have v (R.parts id) ≡ true
      content_has g = ap (all_have v) content_parts ∙ all_from (λ p. has_value (v p)) (a ∷ []) (λ p m. elim m [
        | inl q ↦ gives_true (v p) (subst (λ (z : ℕ). HasValue (v z)) (sym q) g)
        | inr z ↦ absurd z
      ])

  -- ---- all calls, then the result

  module _ (partial : Bool) (result : ℕ) (word : Word) (at_result : At rows (some_of partial (site_of facts vars word)) result)
      (result_kind : IsKinded facts h.runnable.types (site_of facts vars word)
      × IsPlain (sort facts h.runnable.types (site_of facts vars word))) where
    -- what the right side does from some calls on
    abbrev Does : List (Option Value) → List Step → List Event → Option Value → Type 0
    Does before steps trace answer = RightBySites facts c makes args vars before steps word trace answer

    -- what the result's site holds, by what it is made of
    made_result : (b : Bool) → At rows (some_of b (site_of facts vars word)) result → (g : Got Held) → val (site_of facts vars word) ≡ g
        → v result ≡ (if b then ask (λ (x : Held). gives (held_some x)) g else g)
    made_result true at g e = val_at (make_some (site_of facts vars word)) result at ∙ ap (ask (λ (x : Held). gives (held_some x))) e
    made_result false at g e = val_at (site_of facts vars word) result at ∙ e

    result_fails : val (site_of facts vars word) ≡ fails → v result ≡ fails
    result_fails e = by partial (made_result partial at_result fails e)
      where
        by : (b : Bool) → v result ≡ (if b then ask (λ (x : Held). gives (held_some x)) fails else fails) → v result ≡ fails
        by true q = q
        by false q = q

    result_unknown : val (site_of facts vars word) ≡ unknown → v result ≡ unknown
    result_unknown e = by partial (made_result partial at_result unknown e)
      where
        by : (b : Bool) → v result ≡ (if b then ask (λ (x : Held). gives (held_some x)) unknown else unknown) → v result ≡ unknown
        by true q = q
        by false q = q

    result_gives : (w : Value) → val (site_of facts vars word) ≡ gives (held_value w) → v result ≡ gives (result_held partial w)
    result_gives w e = by partial (made_result partial at_result (gives (held_value w)) e)
      where
        by : (b : Bool) → v result ≡ (if b then ask (λ (x : Held). gives (held_some x)) (gives (held_value w)) else gives (held_value w))
            → v result ≡ gives (result_held b w)
        by true q = q
        by false q = q

    -- it is one value
    one_result : (b : Bool) (x w : Value) → gives (result_held b x) ≡ gives (result_held b w) → x ≡ w
    one_result true x w e = cc
    one_result false x w e = cc

    -- A result with a value is one.
    pub result_answers : HasValue (v result) → (w : Value) × (v result ≡ gives (result_held partial w))
    result_answers g = by_value (val (site_of facts vars word)) refl
      where
        by_value : (x : Got Held) → val (site_of facts vars word) ≡ x → (w : Value) × (v result ≡ gives (result_held partial w))
        by_value unknown e = absurd (given_known (v result) g (result_unknown e))
        by_value fails e = absurd (let q : gives (g.0) ≡ fails = sym (g.1) ∙ result_fails e in cc)
        by_value (gives x) e =
            let (w, is) = plain_held_kind (sort facts h.runnable.types (site_of facts vars word)) x (result_kind.1)
            (kind facts h.runnable.types c args answers allowed (site_of facts vars word) x (result_kind.0) e) in
            (w, result_gives w (e ∙ ap (λ (z : Held). gives z) is))

    at_end : (before rest : List (Option Value)) → answers ≡ before ++ rest → (answer : Option Value)
        → AnswersWith partial (v result) (bind v (result ∷ [])) answer → Does before [] [] answer
    at_end before rest split answer ends =
        let s = site_of facts vars word in
        let same : value facts c args before s ≢ unknown → val s ≡ value facts c args before s = λ k.
        subst (λ (l : List (Option Value)). value facts c args l s ≡ value facts c args before s) (sym split) (later facts c args before rest s k) in
        by_value (value facts c args before s) refl same
      where
        by_value : (g : Got Held) → value facts c args before (site_of facts vars word) ≡ g
            → (value facts c args before (site_of facts vars word) ≢ unknown
            → val (site_of facts vars word) ≡ value facts c args before (site_of facts vars word))
            → on_got (plain g) (IsFailure [] answer) (λ w. IsValue w [] answer)
        by_value unknown e same = tt
        by_value fails e same =
            let f = result_fails (same (failed_known _ e) ∙ e) in
            let none = subst (λ (b : Bound). AnswersWith partial (v result) b answer) (bind_failed v result [] f) ends in
            record { nothing = refl; none = none }
        by_value (gives x) e same =
            let full : val (site_of facts vars word) ≡ gives x = same (given_known _ (x, e)) ∙ e in
            let (w, is) = plain_held_kind (sort facts h.runnable.types (site_of facts vars word)) x (result_kind.1)
            (kind facts h.runnable.types c args answers allowed (site_of facts vars word) x (result_kind.0) full) in
            let f = result_gives w (full ∙ ap (λ (z : Held). gives z) is) in
            let (u, held, same_answer) =
            subst (λ (b : Bound). AnswersWith partial (v result) b answer) (bind_given v result [] (result_held partial w) f) ends in
            let one : u ≡ w = one_result partial u w (sym held ∙ f) in
            let fine : IsValue w [] answer = record { nothing = refl; same = same_answer ∙ ap Some one } in
            subst (λ (z : Held). on_got (plain (gives z)) (IsFailure [] answer) (λ y. IsValue y [] answer)) (sym is) fine

    -- the answers of calls from one on are allowed
    abbrev AllowedFrom : List (Option Value) → List Step → Type 0
    AllowedFrom rest steps = (j : ℕ) (s : Step) → slice_get steps j ≡ Some s → slice_get rest j ≡ Some None → facts.partial s.term ≡ true

    -- so many of them make their effects
    abbrev MadeFrom : List (Option Value) → List (Option Value) → List Step → ℕ → Type 0
    MadeFrom before rest steps many = (j : ℕ) (s : Step) (vs : Values) (b : Option Value) → j < many → slice_get steps j ≡ Some s
        → values facts c args answers (sites_of facts vars s.args) ≡ gives vs → slice_get rest j ≡ Some b
        → makes s.term vs (effects (length before + j)) b

    -- without the first, one less
    made_later : (before rest : List (Option Value)) (b : Option Value) (s : Step) (steps : List Step) (many : ℕ)
        → MadeFrom before (b ∷ rest) (s ∷ steps) (suc many) → MadeFrom (before ++ b ∷ []) rest steps many
    made_later before rest b s steps many made j t vs o l at gs e =
        let n : length before + suc j ≡ length (before ++ b ∷ []) + j = let m = length_more before b in omega arith in
        subst (λ (k : ℕ). makes t.term vs (effects k) o) n (made (suc j) t vs o (omega arith) at gs e)

    -- the first
    made_first : (before rest : List (Option Value)) (b : Option Value) (s : Step) (steps : List Step) (many : ℕ) (vs : Values)
        → MadeFrom before (b ∷ rest) (s ∷ steps) (suc many) → values facts c args answers (sites_of facts vars s.args) ≡ gives vs
        → makes s.term vs (effects (length before)) b
    made_first before rest b s steps many vs made gs =
        let n : length before + 0 ≡ length before = omega arith in
        subst (λ (k : ℕ). makes s.term vs (effects k) b) n (made 0 s vs b (omega arith) refl gs refl)

    -- what the right side does that goes on so, on the list of calls that are made
    abbrev Goes : List (Option Value) → List (Option Value) → List Step → List ℕ → Type 0
    Goes before rest steps calls = (answer : Option Value) → AnswersWith partial (v result) (bind v (calls ++ result ∷ [])) answer
        → MadeFrom before rest steps (length (trace R v calls))
        → Does before steps (effects_from effects (length before) (length (trace R v calls))) answer

    -- after the first call's answer
    module _ (s : Step) (steps : List Step) (before : List (Option Value)) (a : ℕ) where
      abbrev own_values : Got Values
      own_values = values facts c args before (sites_of facts vars s.args)

      -- what it does behind arguments that have values
      abbrev AfterCall : List Event → Option Value → Values → Type 0
      AfterCall trace answer vs = (own : List Event) × (others : List Event) × (o : Option Value) × (trace ≡ own ++ others)
          × makes s.term vs own o × on_answer o (IsFailure others answer) (Does (before ++ o ∷ []) steps others answer)

      -- arguments that fail end it
      ends_there : (rest : List (Option Value)) (calls : List ℕ) → v a ≡ fails → trace R v (a ∷ calls) ≡ [] → (answer : Option Value)
          → AnswersWith partial (v result) (bind v ((a ∷ calls) ++ result ∷ [])) answer
          → IsFailure (effects_from effects (length before) (length (trace R v (a ∷ calls)))) answer
      ends_there rest calls f none answer ends =
          record {
            nothing = ap (λ (l : List ℕ). effects_from effects (length before) (length l)) none;
            none = subst (λ (b : Bound). AnswersWith partial (v result) b answer) (bind_failed v a (calls ++ result ∷ []) f) ends;
          }

      -- the call itself is made, and others behind it
      goes_on : (b : Option Value) (rest : List (Option Value)) (vs : Values) (calls : List ℕ) (many : ℕ) (answer : Option Value)
          → values facts c args answers (sites_of facts vars s.args) ≡ gives vs → length (trace R v calls) ≡ suc many
          → MadeFrom before (b ∷ rest) (s ∷ steps) (length (trace R v calls))
          → on_answer b (IsFailure (effects_from effects (suc (length before)) many) answer)
          (Does (before ++ b ∷ []) steps (effects_from effects (suc (length before)) many) answer)
          → AfterCall (effects_from effects (length before) (length (trace R v calls))) answer vs
      goes_on b rest vs calls many answer gs n made after = (
        effects (length before),
        effects_from effects (suc (length before)) many,
        b,
        ap (effects_from effects (length before)) n,
        made_first before rest b s steps many vs (subst (MadeFrom before (b ∷ rest) (s ∷ steps)) n made) gs,
        after,
      )

      -- what is left after an answer: the same, with that answer behind those before
      abbrev Later : List (Option Value) → List ℕ → Type 0
      Later rest calls = (b : Option Value) (others : List (Option Value)) → rest ≡ b ∷ others → IsMet R v (calls ++ result ∷ [])
          → Goes (before ++ b ∷ []) others steps calls

      -- one answer more
      later_does : (b : Option Value) (rest : List (Option Value)) (calls : List ℕ) → Goes (before ++ b ∷ []) rest steps calls
          → (answer : Option Value)
          → AnswersWith partial (v result) (bind v (calls ++ result ∷ [])) answer
          → MadeFrom before (b ∷ rest) (s ∷ steps) (suc (length (trace R v calls)))
          → Does (before ++ b ∷ []) steps (effects_from effects (suc (length before)) (length (trace R v calls))) answer
      later_does b rest calls go answer ends made =
          subst (λ (k : ℕ). Does (before ++ b ∷ []) steps (effects_from effects k (length (trace R v calls))) answer) (length_more before b)
          (go answer ends (made_later before rest b s steps (length (trace R v calls)) made))

      -- a call that is not answered is open
      not_open : (split : answers ≡ before ++ []) (place : s.place ≡ length before) (at : At rows (call_of facts vars s) a) (vs : Values)
          → own_values ≡ gives vs → v a ≢ unknown → ⊥
      not_open split place at vs gs known =
          known (call_given s before [] split place a at (λ e. absurd (none-some None e)) vs gs ∙ unanswered (facts.partial s.term))
        where
          unanswered : (b : Bool) → constructed b (answered None) ≡ unknown
          unanswered true = refl
          unanswered false = refl

      -- a call of a term that never fails
      firm : (rest : List (Option Value)) (calls : List ℕ) → answers ≡ before ++ rest → s.place ≡ length before → At rows (call_of facts vars s) a
          → facts.partial s.term ≡ false → AllowedFrom rest (s ∷ steps) → IsMet R v (a ∷ (calls ++ result ∷ [])) → Later rest calls
          → (answer : Option Value) → AnswersWith partial (v result) (bind v (a ∷ (calls ++ result ∷ []))) answer
          → MadeFrom before rest (s ∷ steps) (length (trace R v (a ∷ calls)))
          → Does before (s ∷ steps) (effects_from effects (length before) (length (trace R v (a ∷ calls)))) answer
      firm rest calls split place at sure ok met later answer ends made = got_cases own_values
          (IsFailure (effects_from effects (length before) (length (trace R v (a ∷ calls)))) answer)
          (AfterCall (effects_from effects (length before) (length (trace R v (a ∷ calls)))) answer)
          (λ e. ends_there rest calls (call_fails s before rest split place a at (ok 0 s refl) e)
          (trace_lacks R v a calls (lacks_parts s before rest split place a at (ok 0 s refl) e)) answer ends)
          (λ vs gs. by_rest rest split ok later made vs gs)
        where
          by_rest : (rest : List (Option Value)) (split : answers ≡ before ++ rest) → AllowedFrom rest (s ∷ steps) → Later rest calls
              → MadeFrom before rest (s ∷ steps) (length (trace R v (a ∷ calls))) → (vs : Values) → own_values ≡ gives vs
              → AfterCall (effects_from effects (length before) (length (trace R v (a ∷ calls)))) answer vs
          by_rest [] split ok later made vs gs = absurd (not_open split place at vs gs (met.0 a (itself a (inl refl))))
          by_rest (None ∷ rest) split ok later made vs gs = absurd (let e : true ≡ false = sym (ok 0 s refl refl) ∙ sure in cc)
          by_rest (Some w ∷ rest) split ok later made vs gs =
              let held : v a ≡ gives (held_value w) =
              call_given s before (Some w ∷ rest) split place a at (ok 0 s refl) vs gs ∙ ap (λ (b : Bool). constructed b (gives w)) sure in
              let full = same_values s before (Some w ∷ rest) split place a at (ok 0 s refl) (given_known own_values (vs, gs)) ∙ gs in
              let n : length (trace R v (a ∷ calls)) ≡ suc (length (trace R v calls)) =
              ap length (trace_given R v a calls (held_value w) (has_parts s before (Some w ∷ rest) split place a at (ok 0 s refl) vs gs) held
              ∙ ap (λ (l : List ℕ). l ++ trace R v calls) (call_made R a (is_effect s before (Some w ∷ rest) split place a at (ok 0 s refl)))) in
              let rest_ends = subst (λ (b : Bound). AnswersWith partial (v result) b answer)
              (bind_given v a (calls ++ result ∷ []) (held_value w) held) ends in
              goes_on (Some w) rest vs (a ∷ calls) (length (trace R v calls)) answer full n made
              (later_does (Some w) rest calls (later (Some w) rest refl (met.1 (held_value w, held))) answer rest_ends
              (subst (MadeFrom before (Some w ∷ rest) (s ∷ steps)) n made))

      -- one of a term that may fail, with its content
      frail : (id : ℕ) (rest : List (Option Value)) (calls : List ℕ) → answers ≡ before ++ rest → s.place ≡ length before
          → At rows (call_of facts vars s) a → (at_id : At rows (match_some (call_of facts vars s)) id) → at_id.0 ≡ a
          → facts.partial s.term ≡ true → AllowedFrom rest (s ∷ steps) → IsMet R v (a ∷ (id ∷ (calls ++ result ∷ []))) → Later rest calls
          → (answer : Option Value) → AnswersWith partial (v result) (bind v (a ∷ (id ∷ (calls ++ result ∷ [])))) answer
          → MadeFrom before rest (s ∷ steps) (length (trace R v (a ∷ (id ∷ calls))))
          → Does before (s ∷ steps) (effects_from effects (length before) (length (trace R v (a ∷ (id ∷ calls))))) answer
      frail id rest calls split place at at_id one may ok met later answer ends made = got_cases own_values
          (IsFailure (effects_from effects (length before) (length (trace R v (a ∷ (id ∷ calls))))) answer)
          (AfterCall (effects_from effects (length before) (length (trace R v (a ∷ (id ∷ calls))))) answer)
          (λ e. ends_there rest (id ∷ calls) (call_fails s before rest split place a at (ok 0 s refl) e)
          (trace_lacks R v a (id ∷ calls) (lacks_parts s before rest split place a at (ok 0 s refl) e)) answer ends)
          (λ vs gs. by_rest rest split ok later made vs gs)
        where
          by_rest : (rest : List (Option Value)) (split : answers ≡ before ++ rest) → AllowedFrom rest (s ∷ steps) → Later rest calls
              → MadeFrom before rest (s ∷ steps) (length (trace R v (a ∷ (id ∷ calls)))) → (vs : Values) → own_values ≡ gives vs
              → AfterCall (effects_from effects (length before) (length (trace R v (a ∷ (id ∷ calls))))) answer vs
          by_rest [] split ok later made vs gs = absurd (not_open split place at vs gs (met.0 a (itself a (inl refl))))
          by_rest (None ∷ rest) split ok later made vs gs =
              let held : v a ≡ gives held_none =
              call_given s before (None ∷ rest) split place a at (ok 0 s refl) vs gs ∙ ap (λ (b : Bool). constructed b fails) may in
              let full = same_values s before (None ∷ rest) split place a at (ok 0 s refl) (given_known own_values (vs, gs)) ∙ gs in
              let content : v id ≡ fails =
              content_held s before (None ∷ rest) split place a at (ok 0 s refl) id at_id one ∙ ap (ask content_of) held in
              let last : trace R v (id ∷ calls) ≡ [] =
              trace_failed R v id calls (content_has s before (None ∷ rest) split place a at (ok 0 s refl) id at_id one (held_none, held)) content
              ∙ ap (λ (l : List ℕ). l ++ []) (call_none R id (content_pure s before (None ∷ rest) split place a at (ok 0 s refl) id at_id one)) in
              let n : length (trace R v (a ∷ (id ∷ calls))) ≡ 1 =
              ap length (trace_given R v a (id ∷ calls) held_none (has_parts s before (None ∷ rest) split place a at (ok 0 s refl) vs gs) held
              ∙ ap (λ (l : List ℕ). l ++ trace R v (id ∷ calls)) (call_made R a (is_effect s before (None ∷ rest) split place a at (ok 0 s refl)))
              ∙ ap (λ (l : List ℕ). a ∷ l) last) in
              let broken = subst (λ (b : Bound). AnswersWith partial (v result) b answer)
              (bind_given v a (id ∷ (calls ++ result ∷ [])) held_none held ∙ bind_failed v id (calls ++ result ∷ []) content) ends in
              goes_on None rest vs (a ∷ (id ∷ calls)) 0 answer full n made (record { nothing = refl; none = broken })
          by_rest (Some w ∷ rest) split ok later made vs gs =
              let held : v a ≡ gives (held_some (held_value w)) =
              call_given s before (Some w ∷ rest) split place a at (ok 0 s refl) vs gs ∙ ap (λ (b : Bool). constructed b (gives w)) may in
              let full = same_values s before (Some w ∷ rest) split place a at (ok 0 s refl) (given_known own_values (vs, gs)) ∙ gs in
              let content : v id ≡ gives (held_value w) =
              content_held s before (Some w ∷ rest) split place a at (ok 0 s refl) id at_id one ∙ ap (ask content_of) held in
              let last : trace R v (id ∷ calls) ≡ trace R v calls =
              trace_given R v id calls (held_value w)
              (content_has s before (Some w ∷ rest) split place a at (ok 0 s refl) id at_id one (held_some (held_value w), held)) content
              ∙ ap (λ (l : List ℕ). l ++ trace R v calls)
              (call_none R id (content_pure s before (Some w ∷ rest) split place a at (ok 0 s refl) id at_id one)) in
              let n : length (trace R v (a ∷ (id ∷ calls))) ≡ suc (length (trace R v calls)) =
              ap length (trace_given R v a (id ∷ calls) (held_some (held_value w))
              (has_parts s before (Some w ∷ rest) split place a at (ok 0 s refl) vs gs) held
              ∙ ap (λ (l : List ℕ). l ++ trace R v (id ∷ calls)) (call_made R a (is_effect s before (Some w ∷ rest) split place a at (ok 0 s refl)))
              ∙ ap (λ (l : List ℕ). a ∷ l) last) in
              let rest_ends = subst (λ (b : Bound). AnswersWith partial (v result) b answer)
              (bind_given v a (id ∷ (calls ++ result ∷ [])) (held_some (held_value w)) held
              ∙ bind_given v id (calls ++ result ∷ []) (held_value w) content) ends in
              goes_on (Some w) rest vs (a ∷ (id ∷ calls)) (length (trace R v calls)) answer full n made
              (later_does (Some w) rest calls
              (later (Some w) rest refl ((met.1 (held_some (held_value w), held)).1 (held_value w, content))) answer rest_ends
              (subst (MadeFrom before (Some w ∷ rest) (s ∷ steps)) n made))

    -- the numbers of a call, and of its content where it has one
    option_at : (id : BindingId) (b : Binding) → slice_get set.sites id.0 ≡ Some b → call_at set.sites id ≡ with_option (option_site b) id.0
    option_at id b e = ap (λ (o : Option Binding). with_option (read_or None option_site o) id.0) e

    -- a step, by what its call gives
    step_does : (m b : Bool) (s : Step) (steps : List Step) (id : BindingId) (ids : List BindingId) (before rest : List (Option Value))
        → answers ≡ before ++ rest → s.place ≡ length before → facts.partial s.term ≡ b → At rows (answer_site m b (call_of facts vars s)) id.0
        → AllowedFrom rest (s ∷ steps) → IsMet R v (calls_at set.sites (id ∷ ids) ++ result ∷ [])
        → ((o : Option Value) (others : List (Option Value)) → rest ≡ o ∷ others → IsMet R v (calls_at set.sites ids ++ result ∷ [])
        → Goes (before ++ o ∷ []) others steps (calls_at set.sites ids)) → Goes before rest (s ∷ steps) (calls_at set.sites (id ∷ ids))
    step_does true b s steps id ids before rest split place may at ok met later =
        absurd (site_kinded name facts sources rules term set h (iterator (call_of facts vars s)) id.0 at)
    step_does false false s steps id ids before rest split place may at ok met later =
        let (ps, there) = entry s before rest split place id.0 at (ok 0 s refl) in
        let here = option_at id (sites.Constructor (record { 0 = s.term }) ps (suc s.place)) there in
        let calls = calls_at set.sites ids in
        subst (λ (l : List ℕ). Goes before rest (s ∷ steps) (l ++ calls)) (sym here)
        (firm s steps before id.0 rest calls split place at may ok
        (subst (λ (l : List ℕ). IsMet R v ((l ++ calls) ++ result ∷ [])) here met) later)
    step_does false true s steps id ids before rest split place may at ok met later =
        let a = at.0 in
        let at_call : At rows (call_of facts vars s) a = at.2 in
        let here = option_at id (sites.MatchSome (record { 0 = a }))
        (content_entry s before rest split place a at_call (ok 0 s refl) id.0 at refl) in
        let calls = calls_at set.sites ids in
        subst (λ (l : List ℕ). Goes before rest (s ∷ steps) (l ++ calls)) (sym here)
        (frail s steps before a id.0 rest calls split place at_call at refl may ok
        (subst (λ (l : List ℕ). IsMet R v ((l ++ calls) ++ result ∷ [])) here met) later)

    -- All steps and the result: what is bound of them is what the right side does.
    pub steps_do : (steps : List Step) (ids : List BindingId) (before rest : List (Option Value)) → answers ≡ before ++ rest
        → Placed (length before) steps → StandEach rows ids (map (step_site facts vars) steps) → AllowedFrom rest steps
        → IsMet R v (calls_at set.sites ids ++ result ∷ []) → Goes before rest steps (calls_at set.sites ids)
    steps_do [] [] before rest split placed st ok met answer ends made = at_end before rest split answer ends
    steps_do [] (id ∷ ids) before rest split placed st ok met answer ends made = absurd st
    steps_do (s ∷ steps) [] before rest split placed st ok met answer ends made = absurd st
    steps_do (s ∷ steps) (id ∷ ids) before rest split placed st ok met answer ends made =
        step_does (facts.multi s.term) (facts.partial s.term) s steps id ids before rest split (placed.0) refl (st.0) ok met
        (λ o others is more. steps_do steps ids (before ++ o ∷ []) others
        (split ∙ ap (λ (l : List (Option Value)). before ++ l) is ∙ sym (append_assoc before (o ∷ []) others))
        (subst (λ (n : ℕ). Placed n steps) (sym (length_more before o)) (placed.1)) (st.1)
        (λ j t at none. ok (suc j) t at (subst (λ (l : List (Option Value)). slice_get l (suc j) ≡ Some None) (sym is) none)) more) answer ends made
