-- The machine does as the walk by answers.
use Rattle.std.proofs.Common.{◌≡◌, inl, inr, ℕ, zero, suc, ◌<◌, ◌==◌, ◌++◌, List, [], ◌∷◌, Bool, true, Option, Some, None, refl, sym, ◌∙◌, ap, subst, arith, eqb-true}
use Rattle.std.specs.Prelude.{if◌then◌else◌}
use Rattle.isle_trees.specs.Got.{Got, gives}
use Rattle.isle_trees.specs.Answers.{Answers, HasValue}
use Rattle.isle_trees.specs.Machine.{Makes, Env, gather, read, value_in, made_in, put, bound_by, env_after, env_fields, events_by, run, run_arms, AreValues, IsMadeBy}
use Rattle.isle_trees.specs.Premises.{IsWellMade, Respects}
use Rattle.isle_trees.specs.Reads.{more, know, know_fields, IsReadable, is_bound, computed, IsInOrder, IsClosed, AreClosed}
use Rattle.isle_trees.specs.Rules.{has, Rules, Elem, passes_got, alike_got}
use Rattle.isle_trees.specs.Tree.{Steps, done, «match», equal, loop, give, Arms, no_arm, arm}
use Rattle.isle_trees.specs.Walk.{Bound, goes, opens, breaks, Outcome, chooses, ends, bind, call, events, and_then, after_bound, walk, walk_arms}
use Rattle.isle_trees.proofs.Basics.{true_or, none_or, or_right, value_or}
use Rattle.isle_trees.proofs.Leaf.{plain_valued}

-- what is said to be bound is, and rightly
pub record IsFilledBy {V : Type 0} (v : Answers V) (dom : ℕ → Bool) (env : Env V) : Type 0 where
  pub there : (x : ℕ) → dom x ≡ true → (y : V) × (env x ≡ Some y)
  pub right : (x : ℕ) (y : V) → env x ≡ Some y → v x ≡ gives y

-- answers that keep to fields and calls, and are what sites make of their parts
pub record IsServed {C V : Type 0} (R : Rules C V) (makes : Makes V) (v : Answers V) : Type 0 where
  pub respects : Respects R v
  pub by : IsMadeBy R makes v

gathered : {V : Type 0} (v : Answers V) (f : ℕ → Got V) (ps : List ℕ) → ((p : ℕ) → Elem p ps → (y : V) × (v p ≡ gives y) × (f p ≡ gives y))
    → (xs : List V) × (gather f ps ≡ Some xs) × AreValues v ps xs
gathered v f [] h = ([], refl, tt)
gathered v f (p ∷ ps) h =
    let one = h p (inl refl) in
    let rest = gathered v f ps (λ q m. h q (inr m)) in
    (one.0 ∷ rest.0, rw (one.2, rest.1) refl, (one.1, rest.2))

-- a read gives the value
pub reads : {C V : Type 0} (R : Rules C V) (makes : Makes V) (v : Answers V) (dom : ℕ → Bool) (env : Env V)
    → IsWellMade R → IsServed R makes v → IsFilledBy v dom env
    → (n s : ℕ) → s < n → IsReadable R dom s → (y : V) × (v s ≡ gives y) × (read R makes env n s ≡ gives y)
reads R makes v dom env w mb fi zero s l a = absurd (omega arith)
reads R makes v dom env w mb fi (suc n) _ l (IsReadable.is_bound s e) =
    let y = fi.there s e in (y.0, fi.right s (y.0) (y.1), rw (y.1) refl)
reads {V = V} R makes v dom env w mb fi (suc n) _ l (IsReadable.computed s ns parts) =
    let each : (p : ℕ) → Elem p (R.parts s) → (y : V) × (v p ≡ gives y) × (read R makes env n p ≡ gives y) = λ p m.
    let q : p < s = w.lower s p m in reads R makes v dom env w mb fi n p (omega arith) (parts p m) in
    let g = gathered v (read R makes env n) (R.parts s) each in
    let has = plain_valued R v s w mb.respects ns (λ p m. ((each p m).0, (each p m).1)) in
    elim (none_or (env s)) [
      | inr y ↦ (y.0, fi.right s (y.0) (y.1), rw (y.1) refl)
      | inl none ↦ (has.0, has.1, rw (none, ns, g.1) (sym (mb.by.of_parts s (g.0) (g.2)) ∙ has.1))
    ]

read_value : {C V : Type 0} (R : Rules C V) (makes : Makes V) (v : Answers V) (dom : ℕ → Bool) (env : Env V) (s : ℕ)
    → IsWellMade R → IsServed R makes v → IsFilledBy v dom env → IsReadable R dom s → value_in R makes env s ≡ v s
read_value R makes v dom env s w mb fi a = let r = reads R makes v dom env w mb fi (suc s) s (omega arith) a in r.2 ∙ sym (r.1)

-- a site whose parts are at hand is what it is
made_value : {C V : Type 0} (R : Rules C V) (makes : Makes V) (v : Answers V) (dom : ℕ → Bool) (env : Env V) (x : ℕ)
    → IsWellMade R → IsServed R makes v → IsFilledBy v dom env
    → ((p : ℕ) → Elem p (R.parts x) → IsReadable R dom p) → made_in R makes env x ≡ v x
made_value R makes v dom env x w mb fi parts =
    let g = gathered v (value_in R makes env) (R.parts x) (λ p m. reads R makes v dom env w mb fi (suc p) p (omega arith) (parts p m)) in
    rw (g.1) (sym (mb.by.of_parts x (g.0) (g.2)))

put_more : {V : Type 0} (v : Answers V) (dom : ℕ → Bool) (env : Env V) (x : ℕ) (y : V) → v x ≡ gives y → IsFilledBy v dom env
    → IsFilledBy v (more dom x) (put env x (gives y))
put_more v dom env x y e fi = record {
  there = λ z f. elim (true_or (z == x)) [
    | inl q ↦ (y, rw q refl)
    | inr q ↦ let g : dom z ≡ true = rw q at f in let old = fi.there z g in (old.0, rw q (old.1))
  ];
  right = λ z u f. elim (true_or (z == x)) [
    | inl q ↦ let g : Some y ≡ Some u = rw q at f in let same : y ≡ u = cc in ap v (eqb-true z x q) ∙ e ∙ ap gives same
    | inr q ↦ let g : env z ≡ Some u = rw q at f in fi.right z u g
  ];
}

-- an order
abbrev Runs : {C V : Type 0} → Rules C V → Makes V → Answers V → (ℕ → Bool) → Env V → List ℕ → Type 0
Runs R makes v dom env binds =
    (bound_by R makes env binds ≡ bind v binds) × (events_by R makes env binds ≡ events R v binds)
    × (bind v binds ≡ goes → IsFilledBy v (know dom binds) (env_after R makes env binds))

binds_run : {C V : Type 0} (binds : List ℕ) (R : Rules C V) (makes : Makes V) (v : Answers V) (dom : ℕ → Bool) (env : Env V)
    → IsWellMade R → IsServed R makes v → IsFilledBy v dom env → IsInOrder R dom binds
    → Runs R makes v dom env binds
binds_run [] R makes v dom env w mb fi o = (refl, refl, λ e. fi)
binds_run (x ∷ xs) R makes v dom env w mb fi o =
    let m : made_in R makes env x ≡ v x = made_value R makes v dom env x w mb fi (o.1) in
    elim (value_or (v x)) [
      | inl e ↦ rw (m, e) (refl, refl, λ f. let g : opens x ≡ goes = f in cc)
      | inr h ↦ elim h [
        | inl e ↦ rw (m, e) (refl, refl, λ f. let g : breaks ≡ goes = f in cc)
        | inr y ↦
            let ih = binds_run xs R makes v (more dom x) (put env x (gives (y.0))) w mb (put_more v dom env x (y.0) (y.1) fi) (o.2) in
            rw (m, y.1) (ih.0, ap (λ (l : List ℕ). call R x ++ l) (ih.1), ih.2)
      ]
    ]

-- the fields of an arm
fields_run : {C V : Type 0} (bs : List (Option ℕ)) (R : Rules C V) (makes : Makes V) (v : Answers V) (dom : ℕ → Bool) (env : Env V)
    → IsWellMade R → IsServed R makes v → IsFilledBy v dom env
    → ((x : ℕ) → Elem (Some x) bs → HasValue (v x) × ((to : ℕ → Bool) → ((y : ℕ) → dom y ≡ true → to y ≡ true)
    → (p : ℕ) → Elem p (R.parts x) → IsReadable R to p))
    → IsFilledBy v (know_fields dom bs) (env_fields R makes env bs)
fields_run [] R makes v dom env w mb fi h = fi
fields_run (None ∷ bs) R makes v dom env w mb fi h = fields_run bs R makes v dom env w mb fi (λ x m. h x (inr m))
fields_run (Some x ∷ bs) R makes v dom env w mb fi h =
    let one = h x (inl refl) in
    let m : made_in R makes env x ≡ v x = made_value R makes v dom env x w mb fi (one.1 dom (λ y e. e)) in
    let y = one.0 in
    rw (m, y.1) (fields_run bs R makes v (more dom x) (put env x (gives (y.0))) w mb (put_more v dom env x (y.0) (y.1) fi)
    (λ z n. let two = h z (inr n) in (two.0, λ to f. two.1 to (λ u e. f u (or_right (u == x) (dom u) e)))))

step_same : (b c : Bound) (x y : Outcome) → b ≡ c → (c ≡ goes → x ≡ y) → after_bound b x ≡ after_bound c y
step_same b goes x y e f = rw e (f refl)
step_same b (opens s) x y e f = rw e refl
step_same b breaks x y e f = rw e refl

two_same : (a b c d : Outcome) → a ≡ c → b ≡ d → and_then a b ≡ and_then c d
two_same a b c d e f = ap (λ (x : Outcome). and_then x b) e ∙ ap (λ (x : Outcome). and_then c x) f

read_later : {C V : Type 0} (R : Rules C V) (dom to : ℕ → Bool) (s : ℕ) → ((y : ℕ) → dom y ≡ true → to y ≡ true)
    → IsReadable R dom s → IsReadable R to s
read_later R dom to _ f (IsReadable.is_bound s e) = is_bound s (f s e)
read_later R dom to _ f (IsReadable.computed s n parts) = computed s n (λ p m. read_later R dom to p f (parts p m))

only_part : {C V : Type 0} (R : Rules C V) (dom to : ℕ → Bool) (s q : ℕ) → ((y : ℕ) → dom y ≡ true → to y ≡ true)
    → IsReadable R dom s → Elem q (s ∷ []) → IsReadable R to q
only_part R dom to s q f a (inl e) = subst (IsReadable R to) (sym e) (read_later R dom to s f a)
only_part R dom to s q f a (inr m) = absurd m

mutual
  pub runs : {C V : Type 0} (T : Steps C) (R : Rules C V) (makes : Makes V) (v : Answers V) (dom : ℕ → Bool) (env : Env V)
      → IsWellMade R → IsServed R makes v → IsFilledBy v dom env → IsClosed R dom T
      → run R makes T env ≡ walk R v T
  runs done R makes v dom env w mb fi c = refl
  runs (loop binds x body next) R makes v dom env w mb fi c = refl
  runs (give binds i next) R makes v dom env w mb fi c =
      let b = binds_run binds R makes v dom env w mb fi (c.0) in
      ap (λ (x : Bound). chooses i x (events_by R makes env binds)) (b.0) ∙ ap (λ (x : List ℕ). chooses i (bind v binds) x) (b.1)
  runs («match» binds s arms next) R makes v dom env w mb fi (order, (here, (inner, rest))) =
      let b = binds_run binds R makes v dom env w mb fi order in
      step_same _ _ _ _ (b.0) (λ e.
      two_same _ _ _ _ (runs_arms arms R makes v (know dom binds) (env_after R makes env binds) s w mb (b.2 e) here inner)
      (runs next R makes v (know dom binds) (env_after R makes env binds) w mb (b.2 e) rest))
  runs {V = V} (equal binds x y body next) R makes v dom env w mb fi (order, (first, (second, (inner, rest)))) =
      let b = binds_run binds R makes v dom env w mb fi order in
      step_same _ _ _ _ (b.0) (λ e.
      let p = read_value R makes v (know dom binds) (env_after R makes env binds) x w mb (b.2 e) first in
      let q = read_value R makes v (know dom binds) (env_after R makes env binds) y w mb (b.2 e) second in
      let ih = runs body R makes v (know dom binds) (env_after R makes env binds) w mb (b.2 e) inner in
      two_same _ _ _ _ (ap (λ (g : Got V). if alike_got R g (value_in R makes (env_after R makes env binds) y) then run R makes body
      (env_after R makes env binds) else ends) p
      ∙ ap (λ (g : Got V). if alike_got R (v x) g then run R makes body (env_after R makes env binds) else ends) q
      ∙ ap (λ (o : Outcome). if alike_got R (v x) (v y) then o else ends) ih)
      (runs next R makes v (know dom binds) (env_after R makes env binds) w mb (b.2 e) rest))

  pub runs_arms : {C V : Type 0} (arms : Arms C) (R : Rules C V) (makes : Makes V) (v : Answers V) (dom : ℕ → Bool) (env : Env V) (s : ℕ)
      → IsWellMade R → IsServed R makes v → IsFilledBy v dom env → IsReadable R dom s
      → AreClosed R dom s arms → run_arms R makes s arms env ≡ walk_arms R v s arms
  runs_arms no_arm R makes v dom env s w mb fi here c = refl
  runs_arms (arm c bindings body later) R makes v dom env s w mb fi here (from, (inner, rest)) =
      let p : value_in R makes env s ≡ v s = read_value R makes v dom env s w mb fi here in
      rw p (elim (true_or (passes_got R c (v s))) [
        | inl y ↦ rw y (runs body R makes v (know_fields dom bindings) (env_fields R makes env bindings) w mb
            (fields_run bindings R makes v dom env w mb fi (λ x m.
            let e = from x m in (
              mb.respects.field x (record { site = s; want = has c }) e y,
              λ to f q n. let one : R.parts x ≡ s ∷ [] = w.source x (record { site = s; want = has c }) e in
                  let P : List ℕ → Type 0 = λ l. Elem q l in
                  only_part R dom to s q f here (subst P one n),
            ))) inner)
        | inr n ↦ rw n (runs_arms later R makes v dom env s w mb fi here rest)
      ])
