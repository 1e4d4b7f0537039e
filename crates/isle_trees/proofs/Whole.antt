-- From the tree to what its walks say.
use Rattle.std.proofs.Common.{◌≡◌, ◌≢◌, inl, inr, ℕ, ◌+◌, ◌≤◌, not, List, [], ◌∷◌, Bool, true, false, Some, None, length, refl, sym, ◌∙◌, ap, subst, arith, map, sum_by, is_some}
use Rattle.std.specs.List.{filter}
use Rattle.std.proofs.lemmas.List.Sums.{sum_by-cons}
use Rattle.isle_trees.specs.Got.{unknown, fails}
use Rattle.isle_trees.specs.Answers.{Answers, Extends, Agree}
use Rattle.isle_trees.specs.Asks.{AsksOnly, BindsNoField, Ascends}
use Rattle.isle_trees.specs.Bag.{Picks, Model, IsModel, IsAscending, IsMany, Tells, Round, gave, ways, answers, bag, IsSameBag, walk_all}
use Rattle.isle_trees.specs.Builds.{Builds, IsTreeOf}
use Rattle.isle_trees.specs.Calls.{Lists, model_of, AreFunctions}
use Rattle.isle_trees.specs.Choice.{IsMet, IsRight, OpensIn, LeavesOff, ReturnsInOrder, IsSure, IsKept, AreKept}
use Rattle.isle_trees.specs.Counting.{total_constraints, steps_at_most, different, untested, unlearned, weight, reached}
use Rattle.isle_trees.specs.Machine.{Makes, run, IsMadeBy}
use Rattle.isle_trees.specs.Premises.{IsWellMade, UsesNoMulti, Respects, KnowsAsked, IsStrict, HasItsTests}
use Rattle.isle_trees.specs.Reads.{IsListed, IsClosed}
use Rattle.isle_trees.specs.Rules.{Rules, rights, IsPartOf}
use Rattle.isle_trees.specs.Scopes.{Scope, nothing_known}
use Rattle.isle_trees.specs.Tree.{Steps}
use Rattle.isle_trees.specs.Walk.{goes, opens, breaks, Outcome, chooses, ends, waits, stops, walk}
use Rattle.isle_trees.proofs.Ascending.{ascending}
use Rattle.isle_trees.proofs.Asking.{used_part, asked}
use Rattle.isle_trees.proofs.Bags.{rounds}
use Rattle.isle_trees.specs.Search.{IsBuildable}
use Rattle.isle_trees.proofs.Basics.{SameSelf, JoinsBothWays, none_or, given_holds}
use Rattle.isle_trees.proofs.Calling.{calls_model}
use Rattle.isle_trees.proofs.Fields.{no_field}
use Rattle.isle_trees.proofs.Path.{Holds}
use Rattle.isle_trees.proofs.Progress.{Carries}
use Rattle.isle_trees.proofs.Reading.{closed}
use Rattle.isle_trees.proofs.Right.{IsRun, IsOn, Says, says}
use Rattle.isle_trees.proofs.Rounds.{rest_of, gain, worth, IsPlaced}
use Rattle.isle_trees.proofs.Running.{runs}
use Rattle.isle_trees.proofs.Sums.{sum_same, sum_flat, sum_map, sum_filter, filter_all}
use Rattle.isle_trees.proofs.Weight.{IsWeighed, fresh_small, sums_le, bounded}

none_some : {A B : Type 0} (a : A) → None ≡ Some a → B
none_some a e = cc

pub carries_nothing : {C V : Type 0} (R : Rules C V) (left : List ℕ) → Carries R left nothing_known
carries_nothing R left = λ i s w m e. none_some w e

pub holds_nothing : {C V : Type 0} (R : Rules C V) (v : Answers V) → Holds R v nothing_known
holds_nothing R v = record { wants = λ s w e. none_some w e; same = λ a b e. ap v e; there = λ a b e n. absurd (n e) }

on_nothing : {C V : Type 0} (R : Rules C V) (r : Answers V) (left : List ℕ) → UsesNoMulti R left → IsOn R r left nothing_known
on_nothing R r left un = record {
  carries = carries_nothing R left;
  holds = holds_nothing R r;
  valued = λ x e. let f : false ≡ true = e in cc;
  calm = λ x f e. let g : false ≡ true = e in cc;
  closed = λ x p e m. let f : false ≡ true = e in cc;
  no_multi = un;
}

whole_says : {C V : Type 0} (R : Rules C V) (left : List ℕ) (T : Steps C) (r v : Answers V) → IsTreeOf R left T → IsRun R r v
    → Says R r v left (walk R r T) (walk R v T) (reached R r T) (reached R v T)
whole_says R left T r v k u = says T R r v left nothing_known u (on_nothing R r left k.no_multi) k.builds

-- answers that know what a run knows
extending : {C V : Type 0} (R : Rules C V) (left : List ℕ) (T : Steps C) (r v : Answers V) → IsTreeOf R left T
    → Respects R r → IsStrict R v → Extends r v → IsRun R r v
extending R left T r v k rs st ext = record {
  made = k.made;
  single = k.single;
  respects = rs;
  strict = st;
  asked =
      λ i s a n. ext s n;
  agree = λ s n m. ext s n;
}

pub whole_off : {C V : Type 0} (R : Rules C V) (left : List ℕ) (T : Steps C) (r : Answers V) → IsTreeOf R left T
    → Respects R r → IsStrict R r → LeavesOff R r left (walk R r T)
whole_off R left T r k rs st = (whole_says R left T r r k (extending R left T r r k rs st (λ s n. refl))).0.0

pub whole_order : {C V : Type 0} (R : Rules C V) (left : List ℕ) (T : Steps C) (r : Answers V) → IsTreeOf R left T
    → Respects R r → IsStrict R r → ReturnsInOrder R r (walk R r T)
whole_order R left T r k rs st = (whole_says R left T r r k (extending R left T r r k rs st (λ s n. refl))).0.1

pub whole_sure : {C V : Type 0} (R : Rules C V) (left : List ℕ) (T : Steps C) (r v : Answers V) → IsTreeOf R left T
    → Respects R r → Agree r v → KnowsAsked R v → IsStrict R v
    → IsSure R v left (walk R r T)
whole_sure R left T r v k rs ag known st =
    (whole_says R left T r v k (record {
      made = k.made;
      single = k.single;
      respects = rs;
      strict = st;
      asked =
          λ i s a n. ag s n (known i s a);
      agree = ag;
    })).0.2

pub whole_kept : {C V : Type 0} (R : Rules C V) (left : List ℕ) (T : Steps C) (r v : Answers V) → IsTreeOf R left T
    → Respects R r → Extends r v → IsStrict R v
    → IsKept v (walk R r T) (walk R v T) × AreKept v (walk R r T) (reached R r T) (reached R v T)
whole_kept R left T r v k rs ext st = (whole_says R left T r v k (extending R left T r v k rs st ext)).1 ext

-- where what is met is answered, nothing is open
not_met : {C V : Type 0} (R : Rules C V) (v : Answers V) (us : List ℕ) (s : ℕ) (e : List ℕ) → OpensIn R v us s e → IsMet R v us → v s ≢ unknown
not_met R v [] s e o met = absurd o
not_met R v (u ∷ us) s e (inl p) met = met.0 s (p.0)
not_met R v (u ∷ us) s e (inr p) met = not_met R v us s _ (p.1.1) (met.1 (p.0))

sure_right : {C V : Type 0} (R : Rules C V) (v : Answers V) (left : List ℕ) (o : Outcome) → KnowsAsked R v
    → LeavesOff R v left o → IsSure R v left o → IsRight R v left o
sure_right R v left (chooses i goes e) k op (m, w, top, end) = (m, w, top, λ met. let h = end met in (sym (h.0), sym (h.1)))
sure_right R v left (chooses i breaks e) k op (m, w, top, end) = (m, w, top, λ met. let h = end met in (sym (h.0), sym (h.1)))
sure_right R v left (chooses i (opens s) e) k (mi, wi, (op, o)) (m, w, top, end) =
    (m, w, top, λ met. absurd (not_met R v (rights R i) s e o met (op.1)))
sure_right R v left ends k op f = f
sure_right R v left (waits s) k ((i, m, a), op) f = k i s a (op.1)
sure_right R v left stops k op f = f

pub whole_right : {C V : Type 0} (R : Rules C V) (left : List ℕ) (T : Steps C) (v : Answers V) → IsTreeOf R left T
    → Respects R v → KnowsAsked R v → IsStrict R v → IsRight R v left (walk R v T)
whole_right R left T v k rs known st =
    sure_right R v left (walk R v T) known (whole_off R left T v k rs st) (whole_sure R left T v v k rs (λ s n m. refl) known st)

-- a right side fails only at the content of an option that a call gives
pub whole_fails : {C V : Type 0} (R : Rules C V) (left : List ℕ) (T : Steps C) (r : Answers V) (i : ℕ) (e : List ℕ)
    → IsTreeOf R left T → HasItsTests R → Respects R r → IsStrict R r → walk R r T ≡ chooses i breaks e → (s : ℕ)
    × IsPartOf R (rights R i) s × (R.content s ≡ true) × (r s ≡ fails)
whole_fails R left T r i e tree its rs st is =
    let (m, k, (s, part, parts, f)) = subst (LeavesOff R r left) is (whole_off R left T r tree rs st) in
    elim (none_or (R.made s)) [
      | inl n ↦ absurd (rs.whole s n parts f)
      | inr a ↦ elim (its.contents i s (a.0) (used_part R i s part) (a.1)) [
        | inl d ↦ absurd (given_holds (r s) (rs.field s (a.0) (a.1) (k.wants (a.0.site) (a.0.want) d)) f)
        | inr c ↦ (s, part, c, f)
      ]
    ]

pub whole_fields : {C V : Type 0} (R : Rules C V) (left : List ℕ) (T : Steps C) → IsWellMade R → HasItsTests R
    → Builds R left nothing_known T → BindsNoField R T
whole_fields R left T w its b = no_field T R left nothing_known w its (carries_nothing R left) (λ x m e p. none_some m.want p) b

pub whole_ascends : {C V : Type 0} (R : Rules C V) (left : List ℕ) (T : Steps C) → SameSelf R.tests → Builds R left nothing_known T → Ascends R T
whole_ascends R left T w b = ascending T R left nothing_known w b

pub whole_asked : {C V : Type 0} (R : Rules C V) (left : List ℕ) (T : Steps C) → JoinsBothWays R → Builds R left nothing_known T → AsksOnly R left T
whole_asked R left T w b = asked T R left left nothing_known w (λ i m. m) b

pub weighed_well : {C V : Type 0} (R : Rules C V) → IsWellMade R → IsWeighed R
weighed_well R w = record { same = w.exact.same; same_self = w.exact.same_self; listed = w.listed; grouped = w.grouped }

pub weighed_buildable : {C V : Type 0} (R : Rules C V) (n : ℕ) (rules : List ℕ) → IsBuildable R n rules → IsWeighed R
weighed_buildable R n rules b = record { same = b.same; same_self = b.same_self; listed = b.listed; grouped = b.grouped }

few_labels : (f : ℕ → ℕ) (c : List ℕ) → different (map f c) ≤ length c
few_labels f [] = omega arith
few_labels f (x ∷ xs) = let p = few_labels f xs in let q = fresh_small (f x) (map f xs) in omega arith

few_sites : {C : Type 0} (sc : Scope C) (xs : List ℕ) → sum_by (untested sc) xs ≤ length xs
few_sites sc [] = omega arith
few_sites sc (x ∷ xs) =
    let p = few_sites sc xs in
    let q : untested sc x ≤ 1 = elim (none_or (sc.passed x)) [ inl e ↦ rw e (omega arith) | inr e ↦ rw (e.1) (omega arith) ] in
    omega (arith, sum_by-cons (untested sc) x xs)

pub whole_steps : {C V : Type 0} (R : Rules C V) (left : List ℕ) (T : Steps C) (v : Answers V) → IsWeighed R
    → Builds R left nothing_known T → reached R v T ≤ steps_at_most R left
whole_steps {C} R left T v w b =
    let p = bounded T R v left nothing_known w b in
    let q : weight R nothing_known left ≤ steps_at_most R left =
    sums_le (λ i. unlearned R nothing_known i + 1) (λ i. total_constraints R i + 1) left (λ i m.
    let x : sum_by (untested (nothing_known {C = C})) (R.demands i) ≤ length (R.demands i) = few_sites (nothing_known {C = C}) (R.demands i) in
    let y : sum_by (λ c. different (map (nothing_known {C = C}).label c)) (R.classes i) ≤ sum_by (λ c. length c) (R.classes i) =
    sums_le (λ c. different (map (nothing_known {C = C}).label c)) (λ c. length c) (R.classes i)
    (λ c n. few_labels (nothing_known {C = C}).label c) in
    omega arith) in
    omega arith

pub whole_closed : {C V : Type 0} (R : Rules C V) (left : List ℕ) (T : Steps C) → IsWellMade R → IsListed R
    → Builds R left nothing_known T → IsClosed R (λ s. false) T
whole_closed R left T w li b =
    closed T R left nothing_known (λ s. false) w li (record {
      read = λ x e. let f : false ≡ true = e in
          cc;
      kept = λ x e. let f : false ≡ true = e in cc;
    }) b

pub whole_run : {C V : Type 0} (R : Rules C V) (left : List ℕ) (T : Steps C) (makes : Makes V) (r : Answers V)
    → IsWellMade R → IsListed R → Builds R left nothing_known T
    → Respects R r → IsMadeBy R makes r → run R makes T (λ s. None) ≡ walk R r T
whole_run R left T makes r w li b rs mb =
    runs T R makes r (λ s. false) (λ s. None) w (record { respects = rs; by = mb })
    (record { there = λ x e. let f : false ≡ true = e in cc; right = λ x y e. none_some y e }) (whole_closed R left T w li b)

placed_nothing : {C V : Type 0} (R : Rules C V) → IsPlaced R nothing_known
placed_nothing R = record { tested = λ x w e. none_some w e; joined = λ a b e n. absurd (n e) }

-- what a rule answers, at the root
answers_worth : {C V : Type 0} (R : Rules C V) (M : Model V) (d : Picks V → ℕ → Bool) (f : Round V → ℕ) (h : Picks V) (i : ℕ)
    → worth R M d f (nothing_known {C = C}).passed h i ≡ sum_by f (answers R M d h i)
answers_worth {C = C} {V = V} R M d f h i =
    let all : rest_of R (nothing_known {C = C}).passed i ≡ R.loops i = filter_all (λ s. not (is_some ((nothing_known {C = C}).passed s)))
    (R.loops i) (λ s m. refl) in
    let ws = ways M (R.loops i) h in
    ap (λ (l : List ℕ). sum_by (gain f d i) (ways M l h)) all
    ∙ sym (sum_map f (gave i) (filter (λ g. d g i) ws) ∙ sum_filter (λ g. f (gave i g)) (λ g. d g i) ws)

pub whole_bag : {C V : Type 0} (R : Rules C V) (left : List ℕ) (T : Steps C) (M : Model V) (d : Picks V → ℕ → Bool) (h : Picks V)
    → IsWellMade R → IsMany R → IsAscending left
    → Builds R left nothing_known T → IsModel R M → Tells R M d → M.fits h ≡ true → IsSameBag (walk_all R M T h) (bag R M d h left)
whole_bag {C = C} R left T M d h w many asc b im tells ok f =
    rounds T R M d f left (nothing_known {C = C}) h (record { made = w; many = many; model = im; tells = tells })
    (record { fits = ok; carries = carries_nothing R left; holds = holds_nothing R (M.values h); placed = placed_nothing R; ascending = asc }) b
    ∙ sum_same _ _ left (λ i m. answers_worth R M d f h i)
    ∙ sym (sum_flat f (answers R M d h) left)

pub whole_calls : {C V : Type 0} (R : Rules C V) (makes : Makes V) (lists : Lists V) (fits : Picks V → Bool)
    → IsWellMade R → AreFunctions R makes lists fits
    → IsModel R (model_of R makes lists fits)
whole_calls R makes lists fits w fs = calls_model R makes lists fits w fs
