use Rattle.std.proofs.Common.{◌≡◌, ◌<◌, inl, inr, ℕ, ap, sym, ◌∙◌, List, Vec, Global, length, get_or, [], subst, arith}
use Rattle.std.specs.Prelude.{Contains}
use Rattle.std.proofs.lemmas.Option.{same_Some}
use Rattle.isle_blocks.specs.Inside.ClosureStates.{AreMembers, ListMembers, IsLike}
use Rattle.isle_blocks.specs.declared.constraint.Constraint.{Constraint}
use Rattle.isle_blocks.proofs.Closure.Members.{members_joined, like_member, member_like}
use Rattle.isle_blocks.proofs.close.classes.join.Goals as goal
use Rattle.isle_blocks.proofs.close.classes.join.Goals.{in-Some+in_ok-push_like, in_default}

-- the list that was got is that of the dropped representative
listed : (class got : List ℕ) (lists : List (List ℕ)) (n drop : ℕ) → length class ≡ n → drop < n → ListMembers class lists
    → got ≡ get_or lists drop []
    → AreMembers class drop got
listed class got lists n drop fits low m e = subst (λ l. AreMembers class drop l) (sym e) (m.each drop (omega arith))

pub push_like-requires-clause-within : goal.push_like-requires-clause-within
push_like-requires-clause-within c = λ a h.
    let are = listed c.args.class.now _ _ _ _ c.requires.fits c.requires.drop_in c.requires.members c.get-dropped.ensures in
    let here = (are.inside a h).0 in let fits = c.requires.fits in omega arith

pub returns-in_err-push_like-clause-pushed : goal.returns-in_err-push_like-clause-pushed
returns-in_err-push_like-clause-pushed c = λ a b h. elim (c.push_like.ensures.pushed a b h) [
  | inl k ↦ inl k
  | inr k ↦
      let are = listed c.args.class.now _ _ _ _ c.requires.fits c.requires.drop_in c.requires.members c.get-dropped.ensures in
      inr (c.in-Some.test, c.in-Some.ensures, like_member c.args.sites.now _ _ _ _ are c.in-Some.test a b k)
]

pub returns-in_err-join-clause-pushed : goal.returns-in_err-join-clause-pushed
returns-in_err-join-clause-pushed c = elim c.match-own_test.branch [
  | in-Some+in_ok-push_like w ↦
      let q : c.match-own_test.pending.items ≡ w.push_like.new.pending.items = ap (λ (v : Vec (ℕ × ℕ) Global). v.items) w.pending-is in
      let are = listed c.args.class.now _ _ _ _ c.requires.fits c.requires.drop_in c.requires.members c.get-dropped.ensures in
      λ a b h. elim (w.push_like.ensures.pushed a b (subst (λ (l : List (ℕ × ℕ)). Contains l (a, b)) q h)) [
        | inl k ↦ inl k
        | inr k ↦ inr (w.in-Some.test, w.in-Some.ensures, like_member c.args.sites.now _ _ _ _ are w.in-Some.test a b k)
      ]
  | in_default w ↦
      let q : c.match-own_test.pending.items ≡ c.args.pending.now.items = ap (λ (v : Vec (ℕ × ℕ) Global). v.items) w.pending-is in
      λ a b h. inl (subst (λ (l : List (ℕ × ℕ)). Contains l (a, b)) q h)
]

pub returns-clause-members : goal.returns-clause-members
returns-clause-members c =
    let fits = c.requires.fits in let drop_in = c.requires.drop_in in let keep_in = c.requires.keep_in in
    let joined = members_joined c.args.class.now c.relabel.new.class c.args.members.now c.args.drop c.args.keep
    (omega arith) (omega arith) c.requires.apart
    c.relabel.auto.class c.relabel.ensures c.requires.members in
    subst (λ l. ListMembers c.relabel.new.class l) (sym c.in_ok-join.ensures) joined

pub returns-clause-pushed : goal.returns-clause-pushed
returns-clause-pushed c = elim c.match-own_test.branch [
  | in-Some+in_ok-push_like w ↦
      let q : c.match-own_test.pending.items ≡ w.push_like.new.pending.items = ap (λ (v : Vec (ℕ × ℕ) Global). v.items) w.pending-is in
      let are = listed c.args.class.now _ _ _ _ c.requires.fits c.requires.drop_in c.requires.members c.get-dropped.ensures in
      λ a b h. elim (w.push_like.ensures.pushed a b (subst (λ (l : List (ℕ × ℕ)). Contains l (a, b)) q h)) [
        | inl k ↦ inl k
        | inr k ↦ inr (w.in-Some.test, w.in-Some.ensures, like_member c.args.sites.now _ _ _ _ are w.in-Some.test a b k)
      ]
  | in_default w ↦
      let q : c.match-own_test.pending.items ≡ c.args.pending.now.items = ap (λ (v : Vec (ℕ × ℕ) Global). v.items) w.pending-is in
      λ a b h. inl (subst (λ (l : List (ℕ × ℕ)). Contains l (a, b)) q h)
]

pub returns-clause-kept : goal.returns-clause-kept
returns-clause-kept c = elim c.match-own_test.branch [
  | in-Some+in_ok-push_like w ↦
      let q : c.match-own_test.pending.items ≡ w.push_like.new.pending.items = ap (λ (v : Vec (ℕ × ℕ) Global). v.items) w.pending-is in
      λ a b h. subst (λ (l : List (ℕ × ℕ)). Contains l (a, b)) (sym q) (w.in_ok-push_like.ensures.kept a b h)
  | in_default w ↦
      let q : c.match-own_test.pending.items ≡ c.args.pending.now.items = ap (λ (v : Vec (ℕ × ℕ) Global). v.items) w.pending-is in
      λ a b h. subst (λ (l : List (ℕ × ℕ)). Contains l (a, b)) (sym q) h
]

pub returns-clause-likes : goal.returns-clause-likes
returns-clause-likes c = elim c.match-own_test.branch [
  | in-Some+in_ok-push_like w ↦
      let q : c.match-own_test.pending.items ≡ w.push_like.new.pending.items = ap (λ (v : Vec (ℕ × ℕ) Global). v.items) w.pending-is in
      let are = listed c.args.class.now _ _ _ _ c.requires.fits c.requires.drop_in c.requires.members c.get-dropped.ensures in
      λ d a b h k.
      let same : d ≡ w.in-Some.test = same_Some _ _ (sym h ∙ w.in-Some.ensures) in
      let k' = subst (λ (x : Constraint). IsLike c.args.sites.now c.args.class.now c.args.drop c.args.keep x a b) same k in
      subst (λ (l : List (ℕ × ℕ)). Contains l (a, b)) (sym q)
      (w.in_ok-push_like.ensures.all a b (member_like c.args.sites.now _ _ _ _ are c.requires.table c.requires.fits w.in-Some.test a b k'))
  | in_default w ↦ λ d a b h k. absurd (w.in_default.ensures d h)
]
