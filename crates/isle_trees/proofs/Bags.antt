-- Each step of a tree, and what its rounds add up to.
use Rattle.std.proofs.Common.{◌≡◌, ◌≢◌, inl, inr, ℕ, suc, ◌+◌, ◌==◌, not, List, [], ◌∷◌, Bool, true, false, Option, Some, None, refl, sym, ◌∙◌, ap, subst, arith, sum_by, is_some}
use Rattle.std.proofs.lemmas.Int.{ints}
use Rattle.std.specs.List.{filter, flat_map}
use Rattle.std.specs.Prelude.{if◌then◌else◌}
use Rattle.std.proofs.lemmas.List.Sums.{sum_by-cons, sum_by-append}
use Rattle.std.proofs.lemmas.List.Filters.{sum_by-filter_both}
use Rattle.isle_trees.specs.Got.{Got, unknown}
use Rattle.isle_trees.specs.Answers.{Answers, HasValue, has_value, all_have}
use Rattle.isle_trees.specs.Bag.{Picks, pick, Model, IsModel, IsAscending, IsMany, Tells, Round, gave, ways, walk_all, walk_all_arms}
use Rattle.isle_trees.specs.Builds.{IsBest, HasNoTest, Binds, without, wanting, not_wanting, Returns, Builds, BuildsArms}
use Rattle.isle_trees.specs.Premises.{IsWellMade, Respects}
use Rattle.isle_trees.specs.Rules.{Want, has, one_value, Rules, rights, Elem, Used, passes_got, alike_got, Matches}
use Rattle.isle_trees.specs.Scopes.{Scope, join, release, is_want, inside, IsAvailable, Test, on_match, on_equal, on_loop, sites_of, counts, counted, others}
use Rattle.isle_trees.specs.Tree.{Steps, done, «match», equal, loop, give, Arms, no_arm, arm}
use Rattle.isle_trees.proofs.Asking.{used_part, each_part}
use Rattle.isle_trees.proofs.Basics.{true_or, none_or, not_true, clash, from_filter, to_filter, all_from, value_or, gives_true, alike_sound, one_of, counted_has}
use Rattle.isle_trees.proofs.Leaf.{in_all}
use Rattle.isle_trees.proofs.Path.{Holds, fewer_carry, holds_inside, carries_inside, wanting_has, holds_join, step_there}
use Rattle.isle_trees.proofs.Progress.{Carries, IsKnown, IsLast, all_available, first_known}
use Rattle.isle_trees.proofs.Right.{unequal, known_matches, AllWant, match_wants, wants_this}
use Rattle.isle_trees.proofs.Rounds.{differ, SamePicks, agree_pick, same_there, taken_first, rest_of, gain, worth, rest_open, worthless, IsPlaced, more_there, emit_passed, emit_label, placed_same, placed_inside, placed_join, holds_agree}
use Rattle.isle_trees.proofs.Sums.{sum_same, sum_zero, sum_flat, sum_swap, filter_same, filter_none, filter_twice, ascending_filter, sum_without}

-- a rule set without priorities, a model of its calls, and what tells whether a rule matches
pub record IsTold {C V : Type 0} (R : Rules C V) (M : Model V) (d : Picks V → ℕ → Bool) : Type 0 where
  pub made : IsWellMade R
  pub many : IsMany R
  pub model : IsModel R M
  pub tells : Tells R M d

-- what the walk keeps: what the path knows is available and true where these values are taken
pub record IsRound {C V : Type 0} (R : Rules C V) (M : Model V) (left : List ℕ) (sc : Scope C) (h : Picks V) : Type 0 where
  pub fits : M.fits h ≡ true
  pub carries : Carries R left sc
  pub holds : Holds R (M.values h) sc
  pub placed : IsPlaced R sc
  pub ascending : IsAscending left

round_fewer : {C V : Type 0} (R : Rules C V) (M : Model V) (left : List ℕ) (sc : Scope C) (h : Picks V) (p : ℕ → Bool)
    → IsRound R M left sc h → IsRound R M (filter p left) sc h
round_fewer R M left sc h p o = record {
  fits = o.fits;
  carries = fewer_carry R left (filter p left) sc (λ i m. (from_filter p left i m).0) o.carries;
  holds = o.holds;
  placed = o.placed;
  ascending = ascending_filter p left o.ascending;
}

at_site : {A : Type 0} (x : ℕ) (f g : ℕ → A) → f ≡ g → f x ≡ g x
at_site {A} x f g e = ap (λ (k : ℕ → A). k x) e

-- binding changes nothing
round_same : {C V : Type 0} (R : Rules C V) (M : Model V) (left : List ℕ) (sc to : Scope C) (h : Picks V)
    → to.passed ≡ sc.passed → to.label ≡ sc.label
    → IsRound R M left sc h → IsRound R M left to h
round_same R M left sc to h e l o = record {
  fits = o.fits;
  carries = λ i s w m q. o.carries i s w m (sym (at_site s _ _ e) ∙ q);
  holds = record {
    wants = λ s w q. o.holds.wants s w (sym (at_site s _ _ e) ∙ q);
    same = λ a b q. o.holds.same a b (sym (at_site a _ _ l) ∙ q ∙ at_site b _ _ l);
    there = λ a b q n. o.holds.there a b (sym (at_site a _ _ l) ∙ q ∙ at_site b _ _ l) n;
  };
  placed = placed_same R sc to e l o.placed;
  ascending = o.ascending;
}

-- an available site has a value, where all is answered
present : {C V : Type 0} (R : Rules C V) (v : Answers V) (sc : Scope C) (s : ℕ) → Respects R v → ((x : ℕ) → v x ≢ unknown)
    → Holds R v sc → IsAvailable R sc s → HasValue (v s)
present R v sc _ rs k hold (IsAvailable.from_parts s parts tested) = elim (none_or (R.made s)) [
  | inr m ↦ rs.field s (m.0) (m.1) (hold.wants m.0.site m.0.want (tested (m.0) (m.1)))
  | inl e ↦ elim (value_or (v s)) [
    | inl u ↦ absurd (k s u)
    | inr o ↦ elim o [ inl u ↦ absurd (rs.whole s e (λ p m. present R v sc p rs k hold (parts p m)) u) | inr g ↦ g ]
  ]
]

there_in : {C V : Type 0} (R : Rules C V) (M : Model V) (d : Picks V → ℕ → Bool) (left : List ℕ) (sc : Scope C) (h : Picks V) (s : ℕ)
    → IsTold R M d → IsRound R M left sc h
    → IsAvailable R sc s → HasValue (M.values h s)
there_in R M d left sc h s u o a = present R (M.values h) sc s (u.model.respects h o.fits) (u.model.answered h o.fits) o.holds a

all_goes : {V : Type 0} (v : Answers V) (binds : List ℕ) → ((x : ℕ) → Elem x binds → HasValue (v x)) → all_have v binds ≡ true
all_goes v binds h = all_from (λ s. has_value (v s)) binds (λ x m. gives_true _ (h x m))

-- past what a step binds before its test
record Past {C V : Type 0} (R : Rules C V) (M : Model V) (left : List ℕ) (sc after : Scope C) (t : Test) (binds : List ℕ) (h : Picks V) : Type 0 where
  goes : all_have (M.values h) binds ≡ true
  on : IsRound R M left after h
  same : after.passed ≡ sc.passed
  there : (s : ℕ) → IsAvailable R sc s → IsAvailable R after s

step_past : {C V : Type 0} (R : Rules C V) (M : Model V) (d : Picks V → ℕ → Bool) (left : List ℕ) (sc from after : Scope C)
    (t : Test) (binds : List ℕ) (h : Picks V) → IsTold R M d
    → IsRound R M left sc h → from.passed ≡ sc.passed → from.label ≡ sc.label → IsBest R left sc t → Binds R from (sites_of t) binds after
    → Past R M left sc after t binds h
step_past {C} R M d left sc from after t binds h u o fp fl best bs =
    let pe : after.passed ≡ sc.passed = ap (λ (x : Scope C). x.passed) bs.ending ∙ emit_passed from bs.all ∙ fp in
    let le : after.label ≡ sc.label = ap (λ (x : Scope C). x.label) bs.ending ∙ emit_label from bs.all ∙ fl in
    record {
      goes = all_goes (M.values h) binds (λ x m.
          there_in R M d left sc h x u o ((step_there R left sc from after t binds u.made.both best bs x
          (in_all R from after (sites_of t) binds bs x m)).0));
      on = round_same R M left sc after h pe le o;
      same = pe;
      there = λ s a. more_there R sc after s (λ y w e. at_site y _ _ pe ∙ e) a;
    }

-- a rule that is known answers once
known_worth : {C V : Type 0} (R : Rules C V) (M : Model V) (d : Picks V → ℕ → Bool) (f : Round V → ℕ) (sc : Scope C) (h : Picks V) (i : ℕ)
    → IsTold R M d → Holds R (M.values h) sc
    → IsKnown R sc i → worth R M d f sc.passed h i ≡ f (gave i h)
known_worth R M d f sc h i u hold k =
    let none : rest_of R sc.passed i ≡ [] = filter_none (λ s. not (is_some (sc.passed s))) (R.loops i)
    (λ s m. rw (k.wants s one_value (u.many.looped i s m)) refl) in
    let yes : d h i ≡ true = u.tells.full h i (known_matches R (M.values h) sc i hold k) in
    let one : sum_by (gain f d i) (h ∷ []) ≡ f (gave i h) =
    let c = sum_by-cons (gain f d i) h [] in let g : gain f d i h ≡ f (gave i h) = rw yes refl in let z : sum_by (gain f d i) [] ≡ 0 = refl in
    omega arith in
    ap (λ (l : List ℕ). sum_by (gain f d i) (ways M l h)) none ∙ one

returns_sum : {C V : Type 0} (T : Steps C) (R : Rules C V) (M : Model V) (d : Picks V → ℕ → Bool) (f : Round V → ℕ)
    (left : List ℕ) (sc to : Scope C) (h : Picks V) → IsTold R M d
    → IsRound R M left sc h → ((j : ℕ) → Elem j left → IsKnown R sc j) → ((j x : ℕ) → Elem j left → Used R j x → IsAvailable R sc x)
    → Returns R left to T
    → sum_by f (walk_all R M T h) ≡ sum_by (worth R M d f sc.passed h) left
returns_sum done R M d f left sc to h u o k av b = rw b refl
returns_sum («match» binds s arms next) R M d f left sc to h u o k av b = absurd b
returns_sum (equal binds x y body next) R M d f left sc to h u o k av b = absurd b
returns_sum (loop binds x body next) R M d f left sc to h u o k av b = absurd b
returns_sum (give binds i next) R M d f left sc to h u o k av (first, (after, each, later)) =
    let valued = all_goes (M.values h) binds (λ x m. there_in R M d left sc h x u o
    (av i x (first.0) (used_part R i x (each_part (rights R i) R to binds after each x m)))) in
    let fewer : (j : ℕ) → Elem j (without i left) → Elem j left = λ j m. (from_filter (λ j. not (j == i)) left j m).0 in
    let ih : sum_by f (walk_all R M next h) ≡ sum_by (worth R M d f sc.passed h) (without i left) =
    returns_sum next R M d f (without i left) sc after h u (round_fewer R M left sc h (λ j. not (j == i)) o)
    (λ j m. k j (fewer j m)) (λ j x m. av j x (fewer j m)) later in
    let here : worth R M d f sc.passed h i ≡ f (gave i h) = known_worth R M d f sc h i u o.holds (k i (first.0)) in
    let all = sum_without (worth R M d f sc.passed h) i left o.ascending (first.0) in
    rw valued (sum_by-cons f (gave i h) (walk_all R M next h) ∙ ap (λ (n : ℕ). n + sum_by f (walk_all R M next h)) (sym here)
    ∙ ap (λ (n : ℕ). worth R M d f sc.passed h i + n) ih ∙ sym all)

not_both : {C : Type 0} (c : C) → Some (has c) ≡ Some one_value → ⊥
not_both c e = cc

-- what a pass leaves to loop
rest_pass : {C V : Type 0} (R : Rules C V) (sc : Scope C) (s i : ℕ) (c : C) → IsMany R → R.at i s ≡ Some (has c)
    → rest_of R (inside R sc s (has c)).passed i ≡ rest_of R sc.passed i
rest_pass R sc s i c many e =
    filter_same (λ t. not (is_some ((inside R sc s (has c)).passed t))) (λ t. not (is_some (sc.passed t))) (R.loops i)
    (λ t m. rw (differ t s (λ p. not_both c (sym e ∙ ap (R.at i) (sym p) ∙ many.looped i t m))) refl)

rest_loop : {C V : Type 0} (R : Rules C V) (sc : Scope C) (s i : ℕ) → rest_of R (inside R sc s one_value).passed i ≡ without s (rest_of R sc.passed i)
rest_loop R sc s i =
    sym (filter_twice (λ t. not (t == s)) (λ t. not (is_some (sc.passed t))) (λ t. not (is_some ((inside R sc s one_value).passed t))) (R.loops i)
    (λ t m. elim (true_or (t == s)) [
      | inl e ↦ elim (none_or (sc.passed t)) [ inl n ↦ rw (e, n) refl | inr y ↦ rw (e, y.1) refl ]
      | inr e ↦ elim (none_or (sc.passed t)) [ inl n ↦ rw (e, n) refl | inr y ↦ rw (e, y.1) refl ]
    ]))

-- two parts of the rules
both_sum : (p : ℕ → Bool) (left : List ℕ) (W : ℕ → ℕ) (a b c : ℕ) → a ≡ b + c → b ≡ sum_by W (filter p left)
    → c ≡ sum_by W (filter (λ i. not (p i)) left) → a ≡ sum_by W left
both_sum p left W a b c e x y =
    let s : sum_by W (filter p left) + sum_by W (filter (λ i. not (p i)) left) ≡ sum_by W left =
    sum_by-filter_both p (λ i. not (p i)) (λ i. refl) W left in
    omega (arith, e, x, y, s)

add_zero : (n : ℕ) → n ≡ n + 0
add_zero n = omega arith

zero_add : (n : ℕ) → n ≡ 0 + n
zero_add n = omega arith

-- the rules of a leaf
leaf_sum : {C V : Type 0} (T : Steps C) (R : Rules C V) (M : Model V) (d : Picks V → ℕ → Bool) (f : Round V → ℕ)
    (left : List ℕ) (sc : Scope C) (h : Picks V) → IsTold R M d
    → IsRound R M left sc h → HasNoTest R left sc → Returns R left sc T → sum_by f (walk_all R M T h) ≡ sum_by (worth R M d f sc.passed h) left
leaf_sum T R M d f left sc h u o none b =
    let last : (i : ℕ) → Elem i left → IsLast R left sc i = λ i m.
    record { carries = o.carries; none = none; there = m; top = λ j n. let e : R.prio j ≡ R.prio i = u.many.even j i in omega (arith, ints) } in
    returns_sum T R M d f left sc sc h u o (λ i m. first_known R left sc i u.made (λ j s m q e. u.many.tested j s m (Used.by_asked s q) e) (last i m))
    (λ i x m used. all_available R left sc i (Used R i) (λ s p q n. Used.by_part_of s p q n) (λ s m q e. u.many.tested i s m q e) u.made
    (last i m) (suc x) x (omega arith) used) b

-- rules that a test rules out, whatever is taken later
none_worth : {C V : Type 0} (R : Rules C V) (M : Model V) (d : Picks V → ℕ → Bool) (f : Round V → ℕ) (left : List ℕ) (sc : Scope C) (h : Picks V)
    → IsTold R M d
    → ((i : ℕ) → Elem i left → (g : Picks V) → SamePicks R sc h g → Matches R (M.values g) i → ⊥) → sum_by (worth R M d f sc.passed h) left ≡ 0
none_worth R M d f left sc h u never = sum_zero (worth R M d f sc.passed h) left (λ i m. worthless R M d f sc h i u.tells (never i m))

-- inside a loop
round_inside : {C V : Type 0} (R : Rules C V) (M : Model V) (d : Picks V → ℕ → Bool) (left : List ℕ) (sc : Scope C) (s : ℕ) (h : Picks V) (x : V)
    → IsTold R M d
    → IsRound R M left sc h → sc.passed s ≡ None → IsAvailable R sc s → Elem x (M.many h s)
    → IsRound R M (counted R (on_loop s) left) (inside R sc s one_value) (pick h s x)
round_inside R M d left sc s h x u o none av m =
    let ag = agree_pick R sc h s x none in
    let valued : HasValue (M.values (pick h s x) s) = subst HasValue (same_there R M sc h (pick h s x) s u.model ag av)
    (there_in R M d left sc h s u o av) in
    record {
      fits = u.model.taken h s x o.fits m;
      carries = carries_inside R left (counted R (on_loop s) left) sc s one_value o.carries
          (λ i n. let c = counted_has R (on_loop s) left i n in (c.0, one_of _ (c.1)));
      holds = holds_inside R (M.values (pick h s x)) sc s one_value (holds_agree R M sc h (pick h s x) u.model o.placed ag o.holds) valued;
      placed = placed_inside R sc s one_value none av o.placed;
      ascending = ascending_filter (counts R (on_loop s) left) left o.ascending;
    }

mutual
  pub rounds : {C V : Type 0} (T : Steps C) (R : Rules C V) (M : Model V) (d : Picks V → ℕ → Bool) (f : Round V → ℕ)
      (left : List ℕ) (sc : Scope C) (h : Picks V) → IsTold R M d
      → IsRound R M left sc h → Builds R left sc T → sum_by f (walk_all R M T h) ≡ sum_by (worth R M d f sc.passed h) left
  rounds done R M d f left sc h u o b = rw b refl
  rounds (give binds i next) R M d f left sc h u o b = leaf_sum (give binds i next) R M d f left sc h u o (b.0) (b.1)
  rounds {C = C} («match» binds s arms next) R M d f left sc h u o (best, (after, bs, inner, rest)) =
      let past = step_past R M d left sc sc after (on_match s) binds h u o refl refl best bs in
      let one = arms_round arms R M d f (counted R (on_match s) left) after s h u (round_fewer R M left after h (counts R (on_match s) left) past.on)
      (past.there s (best.ready.0)) (at_site s _ _ past.same ∙ best.ready.1) (match_wants R left s) inner in
      let two = rounds next R M d f (others R (on_match s) left) after h u
      (round_fewer R M left after h (λ i. not (counts R (on_match s) left i)) past.on) rest in
      rw past.goes (both_sum (counts R (on_match s) left) left (worth R M d f after.passed h) _ _ _
      (sum_by-append f (walk_all_arms R M s arms h) (walk_all R M next h)) one two
      ∙ ap (λ (p : ℕ → Option (Want C)). sum_by (worth R M d f p h) left) past.same)
  rounds {C = C} (equal binds a b body next) R M d f left sc h u o (best, (after, bs, inner, rest)) =
      let past = step_past R M d left sc sc after (on_equal a b) binds h u o refl refl best bs in
      let ava = past.there a (best.ready.1) in
      let avb = past.there b (best.ready.2) in
      let on = round_fewer R M left after h (counts R (on_equal a b) left) past.on in
      let one : sum_by f (if alike_got R (M.values h a) (M.values h b) then walk_all R M body h else []) ≡ sum_by
      (worth R M d f after.passed h) (counted R (on_equal a b) left) =
      elim (true_or (alike_got R (M.values h a) (M.values h b))) [
        | inl y ↦ rw y (rounds body R M d f (counted R (on_equal a b) left) (join after a b) h u (record {
          fits = on.fits;
          carries = on.carries;
          holds = holds_join R (M.values h) after a b on.holds (alike_sound R _ _ u.made y) (there_in R M d left after h a u past.on ava);
          placed = placed_join R after a b ava avb on.placed;
          ascending = on.ascending;
        }) inner)
        | inr n ↦ rw n (sym (none_worth R M d f (counted R (on_equal a b) left) after h u (λ i m g ag mi.
            let e : alike_got R (M.values g a) (M.values g b) ≡ false =
            rw (sym (same_there R M after h g a u.model ag ava), sym (same_there R M after h g b u.model ag avb)) n in
            unequal R (M.values g) a b i u.made (best.ready.0) ((counted_has R (on_equal a b) left i m).1) e mi)))
      ] in
      let two = rounds next R M d f (others R (on_equal a b) left) after h u
      (round_fewer R M left after h (λ i. not (counts R (on_equal a b) left i)) past.on) rest in
      rw past.goes (both_sum (counts R (on_equal a b) left) left (worth R M d f after.passed h) _ _ _
      (sum_by-append f (if alike_got R (M.values h a) (M.values h b) then walk_all R M body h else []) (walk_all R M next h)) one two
      ∙ ap (λ (p : ℕ → Option (Want C)). sum_by (worth R M d f p h) left) past.same)
  rounds {C = C} {V = V} (loop binds x body next) R M d f left sc h u o (s, value, best, (after, bs, inner, rest)) =
      let past = step_past R M d left sc (release sc s) after (on_loop s) binds h u o refl refl best bs in
      let av = past.there s (best.ready.0) in
      let none : after.passed s ≡ None = at_site s _ _ past.same ∙ best.ready.1 in
      let round : (y : V) → Elem y (M.many h s) → sum_by f (walk_all R M body (pick h s y)) ≡ sum_by
      (worth R M d f (inside R after s one_value).passed (pick h s y)) (counted R (on_loop s) left) = λ y q.
      rounds body R M d f (counted R (on_loop s) left) (inside R after s one_value) (pick h s y) u
      (round_inside R M d left after s h y u past.on none av q) inner in
      let each : (i : ℕ) → Elem i (counted R (on_loop s) left) → sum_by (λ y. worth R M d f (inside R after s one_value).passed (pick h s y) i)
      (M.many h s) ≡ worth R M d f after.passed h i = λ i m.
      let wants : R.at i s ≡ Some one_value = one_of _ ((counted_has R (on_loop s) left i m).1) in
      let here : Elem s (rest_of R after.passed i) = to_filter (λ t. not (is_some (after.passed t))) (R.loops i) s
      (u.many.all_looped i s wants) (rw none refl) in
      let fr = taken_first R M after s (gain f d i) u.model u.made av (rest_of R after.passed i) h (λ t q. rest_open R after i t q)
      (ascending_filter (λ t. not (is_some (after.passed t))) (R.loops i) (u.many.ascending i)) here in
      sum_same _ _ (M.many h s) (λ y _. ap (λ (l : List ℕ). sum_by (gain f d i) (ways M l (pick h s y))) (rest_loop R after s i)) ∙ sym fr in
      let one : sum_by f (flat_map (λ y. walk_all R M body (pick h s y)) (M.many h s)) ≡ sum_by (worth R M d f after.passed h)
      (counted R (on_loop s) left) =
      sum_flat f (λ y. walk_all R M body (pick h s y)) (M.many h s)
      ∙ sum_same _ _ (M.many h s) (λ y q. round y q)
      ∙ sum_swap (λ y i. worth R M d f (inside R after s one_value).passed (pick h s y) i) (M.many h s) (counted R (on_loop s) left)
      ∙ sum_same _ _ (counted R (on_loop s) left) each in
      let two : sum_by f (walk_all R M next h) ≡ sum_by (worth R M d f after.passed h) (others R (on_loop s) left) =
      rounds next R M d f (others R (on_loop s) left) (release after s) h u
      (round_same R M (others R (on_loop s) left) after (release after s) h refl refl
      (round_fewer R M left after h (λ i. not (counts R (on_loop s) left i)) past.on)) rest in
      rw (past.goes, u.made.value_made s x value) (both_sum (counts R (on_loop s) left) left (worth R M d f after.passed h) _ _ _
      (sum_by-append f (flat_map (λ y. walk_all R M body (pick h s y)) (M.many h s)) (walk_all R M next h)) one two
      ∙ ap (λ (p : ℕ → Option (Want C)). sum_by (worth R M d f p h) left) past.same)

  pub arms_round : {C V : Type 0} (arms : Arms C) (R : Rules C V) (M : Model V) (d : Picks V → ℕ → Bool) (f : Round V → ℕ)
      (left : List ℕ) (sc : Scope C) (s : ℕ) (h : Picks V) → IsTold R M d
      → IsRound R M left sc h → IsAvailable R sc s → sc.passed s ≡ None → AllWant R left s → BuildsArms R left sc s arms
      → sum_by f (walk_all_arms R M s arms h) ≡ sum_by (worth R M d f sc.passed h) left
  arms_round no_arm R M d f left sc s h u o av none want b = rw b refl
  arms_round {C = C} {V = V} (arm c bindings body later) R M d f left sc s h u o av none want b =
      let W = worth R M d f sc.passed h in
      let kept : (g : Picks V) → SamePicks R sc h g → M.values h s ≡ M.values g s = λ g ag. same_there R M sc h g s u.model ag av in
      let at_g : (g : Picks V) → SamePicks R sc h g → (q : Bool) → passes_got R c (M.values h s) ≡ q → passes_got R c (M.values g s) ≡ q = λ g ag q e.
      subst (λ (z : Got V). passes_got R c z ≡ q) (kept g ag) e in
      let is = λ (i : ℕ). is_want R.tests (has c) (R.at i s) in
      elim (true_or (passes_got R c (M.values h s))) [
        | inl y ↦ rw y (
            let one : sum_by f (walk_all R M body h) ≡ sum_by W (wanting R s c left) =
            rounds body R M d f (wanting R s c left) (inside R sc s (has c)) h u (record {
              fits = o.fits;
              carries = carries_inside R left (wanting R s c left) sc s (has c) o.carries (wanting_has R left s c u.made);
              holds = holds_inside R (M.values h) sc s (has c) o.holds y;
              placed = placed_inside R sc s (has c) none av o.placed;
              ascending = ascending_filter is left o.ascending;
            }) (b.2)
            ∙ sum_same _ _ (wanting R s c left) (λ i m. ap (λ (l : List ℕ). sum_by (gain f d i) (ways M l h))
            (rest_pass R sc s i c u.many ((wanting_has R left s c u.made i m).1))) in
            let zero_rest : sum_by W (not_wanting R s c left) ≡ 0 = none_worth R M d f (not_wanting R s c left) sc h u (λ i m g ag mi.
            let q = from_filter (λ i. not (is_want R.tests (has c) (R.at i s))) left i m in
            let t = from_filter is left i (wants_this R (M.values g) left s c u.made want (b.0.0) (at_g g ag true y) i (q.0) mi) in
            clash _ (t.1) (not_true _ (q.1))) in
            both_sum is left W _ _ _ (add_zero _) one (sym zero_rest))
        | inr n ↦ rw n (
            let one = arms_round later R M d f (not_wanting R s c left) sc s h u
            (round_fewer R M left sc h (λ i. not (is_want R.tests (has c) (R.at i s))) o) av none
            (λ i m. want i ((from_filter _ left i m).0)) (b.3) in
            let zero_rest : sum_by W (wanting R s c left) ≡ 0 = none_worth R M d f (wanting R s c left) sc h u (λ i m g ag mi.
            let q = wanting_has R left s c u.made i m in
            clash _ (mi.wants s (has c) (q.1)) (at_g g ag false n)) in
            both_sum is left W _ _ _ (zero_add _) (sym zero_rest) one)
      ]
