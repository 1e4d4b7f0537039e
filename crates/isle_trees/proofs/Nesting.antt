-- An answered run means what it answers, and one that isn't answered spends its depth on a chain of asking.
use Rattle.std.proofs.Common.{◌≡◌, ◌≢◌, ◌⊎◌, inl, inr, ℕ, zero, suc, ◌++◌, List, [], ◌∷◌, Bool, true, false, refl, sym, ◌∙◌}
use Rattle.isle_trees.specs.Got.{unknown, fails}
use Rattle.isle_trees.specs.Answers.{Answers, Agree}
use Rattle.isle_trees.specs.Choice.{IsOpen, OpensIn, LeavesOff, IsSure}
use Rattle.isle_trees.specs.Depths.{Completion, Program, IsAllowed, IsProgram, none_if, answer_of, run_to, Told, Follows, Covers, Means, MayBeValues, IsCalled, IsStuck, Chain}
use Rattle.isle_trees.specs.Machine.{AreValues}
use Rattle.isle_trees.specs.Rules.{Rules, rights, IsPartOf}
use Rattle.isle_trees.specs.Walk.{goes, opens, breaks, Outcome, chooses, ends, waits, stops, bind, walk}
use Rattle.isle_trees.proofs.Basics.{value_or, given_known, given_holds}
use Rattle.isle_trees.proofs.Leaf.{part_more}
use Rattle.isle_trees.proofs.Whole.{whole_off, whole_sure}

last_goes : {V : Type 0} (v : Answers V) (us : List ℕ) (r : ℕ) → bind v (us ++ r ∷ []) ≡ goes → v r ≢ unknown
last_goes v [] r e = λ u. let f : opens r ≡ goes = rw u at e in cc
last_goes v (x ∷ us) r e = elim (value_or (v x)) [
  | inl u ↦ let f : opens x ≡ goes = rw u at e in λ k. cc
  | inr o ↦ elim o [
    | inl u ↦ let f : breaks ≡ goes = rw u at e in λ k. cc
    | inr g ↦ last_goes v us r (rw (g.1) at e)
  ]
]

none_known : {V : Type 0} (b : Bool) → none_if {V = V} b ≢ unknown → b ≡ true
none_known true k = refl
none_known false k = absurd (k refl)

-- what a sure outcome that answers tells
told : {C V : Type 0} (P : Program C V) (r : Answers V) (c : Completion V) (t : ℕ) (args : List V) (o : Outcome) → Agree r (P.value t args c)
    → IsSure (P.rules t) (P.value t args c) (P.left t) o → answer_of (P.rules t) r (P.partial t) o ≢ unknown
    → Told P c t args (answer_of (P.rules t) r (P.partial t) o)
told P r c t args (chooses i goes e) ag (m, w, top, end) k =
    let v = P.value t args c in
    inl (
      i,
      (m, w, top),
      λ met.
          let h = end met in
          rw (h.0) (sym (ag ((P.rules t).result i) k (last_goes v ((P.rules t).calls i) ((P.rules t).result i) (h.0)))),
    )
told P r c t args (chooses i (opens s) e) ag h k = absurd (k refl)
told P r c t args (chooses i breaks e) ag (m, w, top, end) k = inl (
  i,
  (m, w, top),
  λ met. let h = end met in
      rw (h.0, none_known (P.partial t) k) refl,
)
told P r c t args ends ag h k = let p = none_known (P.partial t) k in inr (h, p, rw p refl)
told P r c t args (waits s) ag h k = absurd (k refl)
told P r c t args stops ag h k = absurd h

-- runs are allowed
none_partial : {V : Type 0} (b : Bool) → none_if {V = V} b ≡ fails → b ≡ true
none_partial true e = refl
none_partial false e = cc

answer_allowed : {C V : Type 0} (R : Rules C V) (r : Answers V) (left : List ℕ) (b : Bool) (o : Outcome) → LeavesOff R r left o
    → answer_of R r b o ≡ fails → b ≡ true
answer_allowed R r left b (chooses i goes e) (m, w, g) f = absurd (given_holds _ g f)
answer_allowed R r left b (chooses i (opens s) e) h f = cc
answer_allowed R r left b (chooses i breaks e) h f = none_partial b f
answer_allowed R r left b ends h f = none_partial b f
answer_allowed R r left b (waits s) h f = cc
answer_allowed R r left b stops h f = cc

allowed : {C V : Type 0} (n : ℕ) (P : Program C V) → IsProgram P → IsAllowed P (run_to P n)
allowed zero P is t args f = cc
allowed (suc n) P is t args f =
    let r = P.value t args (run_to P n) in
    answer_allowed (P.rules t) r (P.left t) (P.partial t) (walk (P.rules t) r (P.tree t))
    (whole_off (P.rules t) (P.left t) (P.tree t) r (is.trees t) (is.respects t args (run_to P n) (allowed n P is)) (is.strict t args (run_to P n))) f

-- a run's outcome is sure under each completion that follows what calls mean one depth lower
run_sure : {C V : Type 0} (n : ℕ) (P : Program C V) (t : ℕ) (args : List V) (c : Completion V) → IsProgram P
    → ((u : ℕ) (xs : List V) → run_to P n u xs ≢ unknown → Means P n u xs (run_to P n u xs)) → Follows (Means P n) c → Covers P c t args
    → Agree (P.value t args (run_to P n)) (P.value t args c)
    × IsSure (P.rules t) (P.value t args c) (P.left t) (walk (P.rules t) (P.value t args (run_to P n)) (P.tree t))
run_sure n P t args c is ih f covers =
    let ag = is.agree t args (run_to P n) c (λ u xs a b. f u xs (run_to P n u xs) (ih u xs a) b) in (
      ag,
      whole_sure (P.rules t) (P.left t) (P.tree t) (P.value t args (run_to P n)) (P.value t args c) (is.trees t)
          (is.respects t args (run_to P n) (allowed n P is)) ag covers (is.strict t args c),
    )

pub answered_means : {C V : Type 0} (n : ℕ) (P : Program C V) (t : ℕ) (args : List V) → IsProgram P → run_to P n t args ≢ unknown
    → Means P n t args (run_to P n t args)
answered_means zero P t args is k = absurd (k refl)
answered_means (suc n) P t args is k = λ c al f covers.
    let both = run_sure n P t args c is (λ u xs a. answered_means n P u xs is a) f covers in
    told P (P.value t args (run_to P n)) c t args (walk (P.rules t) (P.value t args (run_to P n)) (P.tree t)) (both.0) (both.1) k

-- values under what a run knows are so under other answers, where these know them
may_be : {V : Type 0} (r v : Answers V) (ps : List ℕ) (xs : List V) → Agree r v → AreValues r ps xs → MayBeValues v ps xs
may_be r v [] [] ag h = tt
may_be r v [] (x ∷ xs) ag h = absurd h
may_be r v (p ∷ ps) [] ag h = absurd h
may_be r v (p ∷ ps) (x ∷ xs) ag (e, h) = ((λ k. ag p (given_known _ (x, e)) k ∙ e), may_be r v ps xs ag h)

opens_part : {C V : Type 0} (R : Rules C V) (r : Answers V) (us : List ℕ) (s : ℕ) (e : List ℕ) → OpensIn R r us s e → IsPartOf R us s
opens_part R r [] s e o = absurd o
opens_part R r (u ∷ us) s e (inl p) = part_more R (u ∷ []) (u ∷ us) s (λ x m. elim m [ inl y ↦ inl y | inr b ↦ absurd b ]) (p.0)
opens_part R r (u ∷ us) s e (inr p) = part_more R us (u ∷ us) s (λ x m. inr m) (opens_part R r us s _ (p.1.1))

-- A walk that doesn't answer is stuck, or opens at a site that is called, under all answers of which its outcome is sure.
where_open : {C V : Type 0} (R : Rules C V) (r : Answers V) (left : List ℕ) (b : Bool) (o : Outcome) → LeavesOff R r left o
    → answer_of R r b o ≡ unknown
    → ((s : ℕ) × IsOpen R r s × ((v : Answers V) → IsSure R v left o → IsCalled R v left s)) ⊎
    ((b ≡ false) × ((v : Answers V) → IsSure R v left o → IsStuck R v left))
where_open R r left b (chooses i goes e) (m, w, g) k = absurd (given_known _ g k)
where_open R r left b (chooses i (opens s) e) (m, w, (op, o)) k = inl (s, op, λ v h. inr (i, (h.0, h.1, h.2), opens_part R r (rights R i) s e o))
where_open R r left true (chooses i breaks e) h k = cc
where_open R r left false (chooses i breaks e) h k = inr (refl, λ v q. inr (i, (q.0, q.1, q.2), λ met. (q.3 met).0))
where_open R r left true ends h k = cc
where_open R r left false ends h k = inr (refl, λ v q. inl q)
where_open R r left b (waits s) (a, op) k = inl (s, op, λ v h. inl a)
where_open R r left b stops h k = absurd h

pub open_chain : {C V : Type 0} (n : ℕ) (P : Program C V) (t : ℕ) (args : List V) → IsProgram P → run_to P n t args ≡ unknown → Chain P n t args
open_chain zero P t args is k = Chain.spent t args
open_chain {V = V} (suc n) P t args is k =
    let r = P.value t args (run_to P n) in
    let R = P.rules t in
    let o = walk R r (P.tree t) in
    let off = whole_off R (P.left t) (P.tree t) r (is.trees t) (is.respects t args (run_to P n) (allowed n P is)) (is.strict t args (run_to P n)) in
    let sure = λ (c : Completion V) (f : Follows (Means P n) c) (covers : Covers P c t args). run_sure n P t args c is
    (λ u xs a. answered_means n P u xs is a) f covers in
    elim (where_open R r (P.left t) (P.partial t) o off k) [
      | inr h ↦ Chain.stuck n t args (h.0) (λ c al f covers. h.1 (P.value t args c) ((sure c f covers).1))
      | inl h ↦
          let q = is.calls t args (run_to P n) (h.0) (h.1) in
          Chain.link n t args q.called q.values (record {
            site = h.0;
            calls = q.calls;
            fixed = λ c al f covers. (
              h.2 (P.value t args c) ((sure c f covers).1),
              may_be r (P.value t args c)
                  (R.parts (h.0)) q.values ((sure c f covers).0) q.parts,
            );
          }) (open_chain n P q.called q.values is q.unanswered)
    ]
