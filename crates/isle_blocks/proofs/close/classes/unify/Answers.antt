use Rattle.std.proofs.Common.{◌≡◌, ◌≢◌, ◌<◌, inl, inr, ℕ, ap, sym, ◌∙◌, get_or, length, List, subst, arith}
use Rattle.std.specs.Prelude.{Contains}
use Rattle.std.proofs.lemmas.List.{with_items_is}
use Rattle.isle_blocks.specs.Inside.ClosureStates.{IsClash, ListMembers}
use Rattle.isle_blocks.proofs.Closure.Members.{members_first}
use Rattle.isle_blocks.proofs.Closure.Progress.{Progress, progress_first, progress_clash, progress_done, root_read, turn}
use Rattle.std.specs.Vec.{with_items}
use Rattle.isle_blocks.proofs.close.classes.unify.Goals as goal

pub loop-x-init : goal.loop-x-init
loop-x-init c =
    let e : c.in_ok-pending.pending.items ≡ c.args.equals.now = c.in_ok-pending.ensures.items in
    let o = c.in_ok-class.class.ok.0 in let k = c.in_ok-class.ensures.0 in let n = c.len.ensures.count in let n' = c.len-2.ensures.count in
    let f = c.in_ok-members.ensures.fits in
    let fits : length c.in_ok-class.class.items ≡ length c.args.sites.now = omega arith in
    let alone : (a : ℕ) → a < length c.args.sites.now → get_or c.in_ok-class.class.items a 0 ≡ a = λ a h. c.in_ok-class.ensures.1 a (omega arith) in
    record {
      progress = subst (λ (l : List (ℕ × ℕ)). Progress c.args.sites.now c.args.own.now c.args.equals.now c.in_ok-class.class.items l) (sym e)
          (progress_first c.args.sites.now c.requires.table c.args.own.now c.requires.fits c.args.equals.now
          c.in_ok-class.class.items fits alone c.requires.within);
      members = members_first c.in_ok-class.class.items c.in_ok-members.members (omega arith) (λ a h. alone a (omega arith))
          (λ a h. c.in_ok-members.ensures.alone a (omega arith));
    }

pub next_apart-requires : goal.next_apart-requires
next_apart-requires c = λ a b h.
    let v = c.deref.ensures.value in let f = c.loop-x.invariant.progress.classes.fits in
    let e : length c.deref.result.now ≡ length c.args.sites.now = ap length v ∙ f in
    let i = c.loop-x.invariant.progress.within a b h in
    let i0 : a < length c.args.sites.now = i.0 in let i1 : b < length c.args.sites.now = i.1 in
    (omega arith, omega arith)

pub index-requires : goal.index-requires
index-requires c =
    let i : c.in-Some.x < length c.args.sites.now = (c.loop-x.invariant.progress.within c.in-Some.x c.in-Some.y c.in-Some.ensures.some.0).0 in
    let f = c.loop-x.invariant.progress.classes.fits in let o = c.loop-x.class.ok.0 in omega arith

pub index-requires-in-Some : goal.index-requires-in-Some
index-requires-in-Some c =
    let i : c.in-Some.y < length c.args.sites.now = (c.loop-x.invariant.progress.within c.in-Some.x c.in-Some.y c.in-Some.ensures.some.0).1 in
    let f = c.loop-x.invariant.progress.classes.fits in let o = c.loop-x.class.ok.0 in omega arith

pub choose-requires-clause-a_in : goal.choose-requires-clause-a_in
choose-requires-clause-a_in c =
    let i : c.in-Some.x < length c.args.sites.now = (c.loop-x.invariant.progress.within c.in-Some.x c.in-Some.y c.in-Some.ensures.some.0).0 in
    let e = root_read c.loop-x.class.items (length c.args.sites.now) c.in-Some.x c.index.result.now c.loop-x.invariant.progress.classes.fits
    i c.index.ensures in
    let b = c.loop-x.invariant.progress.classes.below c.in-Some.x i in let f = c.requires.fits in
    subst (λ (z : ℕ). z < length c.args.own.now) (sym e) (omega arith)

pub choose-requires-clause-b_in : goal.choose-requires-clause-b_in
choose-requires-clause-b_in c =
    let i : c.in-Some.y < length c.args.sites.now = (c.loop-x.invariant.progress.within c.in-Some.x c.in-Some.y c.in-Some.ensures.some.0).1 in
    let e = root_read c.loop-x.class.items (length c.args.sites.now) c.in-Some.y c.index-in-Some.result.now
    c.loop-x.invariant.progress.classes.fits i c.index-in-Some.ensures in
    let b = c.loop-x.invariant.progress.classes.below c.in-Some.y i in let f = c.requires.fits in
    subst (λ (z : ℕ). z < length c.args.own.now) (sym e) (omega arith)

pub returns-in-None-clause-clash : goal.returns-in-None-clause-clash
returns-in-None-clause-clash c =
    let listed = c.in-Some.ensures.some.0 in
    let i = c.loop-x.invariant.progress.within c.in-Some.x c.in-Some.y listed in
    let ea = root_read c.loop-x.class.items (length c.args.sites.now) c.in-Some.x c.index.result.now c.loop-x.invariant.progress.classes.fits
    (i.0) c.index.ensures in
    let eb = root_read c.loop-x.class.items (length c.args.sites.now) c.in-Some.y c.index-in-Some.result.now c.loop-x.invariant.progress.classes.fits
    (i.1) c.index-in-Some.ensures in
    let clash : IsClash c.args.own.now (get_or c.loop-x.class.items c.in-Some.x 0) (get_or c.loop-x.class.items c.in-Some.y 0) =
    subst (λ (z : ℕ). IsClash c.args.own.now z (get_or c.loop-x.class.items c.in-Some.y 0)) ea
    (subst (λ (z : ℕ). IsClash c.args.own.now c.index.result.now z) eb c.in-None.ensures) in
    let apart = subst (λ (l : List ℕ). get_or l c.in-Some.x 0 ≢ get_or l c.in-Some.y 0) c.deref.ensures.value c.in-Some.ensures.some.1 in
    progress_clash c.args.sites.now c.requires.table c.args.own.now c.requires.fits c.args.equals.now c.loop-x.class.items
    c.loop-x.pending.items c.next_apart.new.pending.items
    c.in-Some.x c.in-Some.y c.loop-x.invariant.progress apart listed clash

pub join-requires-clause-keep_in : goal.join-requires-clause-keep_in
join-requires-clause-keep_in c =
    let i = c.loop-x.invariant.progress.within c.in-Some.x c.in-Some.y c.in-Some.ensures.some.0 in
    let ea = root_read c.loop-x.class.items (length c.args.sites.now) c.in-Some.x c.index.result.now c.loop-x.invariant.progress.classes.fits
    (i.0) c.index.ensures in
    let eb = root_read c.loop-x.class.items (length c.args.sites.now) c.in-Some.y c.index-in-Some.result.now c.loop-x.invariant.progress.classes.fits
    (i.1) c.index-in-Some.ensures in
    let ba : get_or c.loop-x.class.items c.in-Some.x 0 < length c.args.sites.now = c.loop-x.invariant.progress.classes.below c.in-Some.x (i.0) in
    let bb : get_or c.loop-x.class.items c.in-Some.y 0 < length c.args.sites.now = c.loop-x.invariant.progress.classes.below c.in-Some.y (i.1) in
    let f = c.requires.fits in
    elim c.in-Some-choose.ensures.which [
      | inl (d, k) ↦ omega arith
      | inr (d, k) ↦ omega arith
    ]

pub join-requires-clause-drop_in : goal.join-requires-clause-drop_in
join-requires-clause-drop_in c =
    let i = c.loop-x.invariant.progress.within c.in-Some.x c.in-Some.y c.in-Some.ensures.some.0 in
    let ea = root_read c.loop-x.class.items (length c.args.sites.now) c.in-Some.x c.index.result.now c.loop-x.invariant.progress.classes.fits
    (i.0) c.index.ensures in
    let eb = root_read c.loop-x.class.items (length c.args.sites.now) c.in-Some.y c.index-in-Some.result.now c.loop-x.invariant.progress.classes.fits
    (i.1) c.index-in-Some.ensures in
    let ba : get_or c.loop-x.class.items c.in-Some.x 0 < length c.args.sites.now = c.loop-x.invariant.progress.classes.below c.in-Some.x (i.0) in
    let bb : get_or c.loop-x.class.items c.in-Some.y 0 < length c.args.sites.now = c.loop-x.invariant.progress.classes.below c.in-Some.y (i.1) in
    elim c.in-Some-choose.ensures.which [
      | inl (d, k) ↦ omega arith
      | inr (d, k) ↦ omega arith
    ]

pub join-requires-clause-apart : goal.join-requires-clause-apart
join-requires-clause-apart c = λ e.
    let i = c.loop-x.invariant.progress.within c.in-Some.x c.in-Some.y c.in-Some.ensures.some.0 in
    let ea = root_read c.loop-x.class.items (length c.args.sites.now) c.in-Some.x c.index.result.now c.loop-x.invariant.progress.classes.fits
    (i.0) c.index.ensures in
    let eb = root_read c.loop-x.class.items (length c.args.sites.now) c.in-Some.y c.index-in-Some.result.now c.loop-x.invariant.progress.classes.fits
    (i.1) c.index-in-Some.ensures in
    let apart = subst (λ (l : List ℕ). get_or l c.in-Some.x 0 ≢ get_or l c.in-Some.y 0) c.deref.ensures.value c.in-Some.ensures.some.1 in
    elim c.in-Some-choose.ensures.which [
      | inl (d, k) ↦ apart (sym ea ∙ sym d ∙ e ∙ k ∙ eb)
      | inr (d, k) ↦ apart (sym ea ∙ sym k ∙ sym e ∙ d ∙ eb)
    ]

pub loop-x-smaller : goal.loop-x-smaller
loop-x-smaller c =
    let lent : c.deref_mut.result.now ≡ c.loop-x.class.items = c.deref_mut.ensures.value in
    let same_length : length c.join.new.class ≡ length c.deref_mut.result.now = c.join.auto.class in
    let out : (with_items c.loop-x.class c.join.new.class).items ≡ c.join.new.class = with_items_is c.loop-x.class c.join.new.class
    (same_length ∙ ap length lent ∙ sym c.loop-x.class.ok.0) in
    (turn c.args.sites.now c.requires.table c.args.own.now c.requires.fits c.args.equals.now c.loop-x.class.items
    c.deref.result.now c.deref_mut.result.now c.join.new.class
    (with_items c.loop-x.class c.join.new.class).items c.loop-x.pending.items c.next_apart.new.pending.items
    c.join.new.pending.items c.in-Some.x c.in-Some.y c.index.result.now c.index-in-Some.result.now
    c.in-Some-choose.drop c.in-Some-choose.keep c.loop-x.invariant.progress c.deref.ensures.value lent c.in-Some.ensures.fewer
    c.in-Some.ensures.some.0 c.in-Some.ensures.some.1 c.in-Some.ensures.taken
    c.index.ensures c.index-in-Some.ensures c.in-Some-choose.ensures same_length c.in_ok-join-in-Some-choose.ensures.joined
    c.join.ensures.pushed c.in_ok-join-in-Some-choose.ensures.kept
    c.in_ok-join-in-Some-choose.ensures.likes out).1

pub loop-x-preserved : goal.loop-x-preserved
loop-x-preserved c =
    let lent : c.deref_mut.result.now ≡ c.loop-x.class.items = c.deref_mut.ensures.value in
    let same_length : length c.join.new.class ≡ length c.deref_mut.result.now = c.join.auto.class in
    let out : (with_items c.loop-x.class c.join.new.class).items ≡ c.join.new.class = with_items_is c.loop-x.class c.join.new.class
    (same_length ∙ ap length lent ∙ sym c.loop-x.class.ok.0) in
    record {
      progress = (turn c.args.sites.now c.requires.table c.args.own.now c.requires.fits c.args.equals.now
          c.loop-x.class.items c.deref.result.now c.deref_mut.result.now c.join.new.class
          (with_items c.loop-x.class c.join.new.class).items c.loop-x.pending.items c.next_apart.new.pending.items
          c.join.new.pending.items c.in-Some.x c.in-Some.y c.index.result.now c.index-in-Some.result.now
          c.in-Some-choose.drop c.in-Some-choose.keep c.loop-x.invariant.progress c.deref.ensures.value lent
          c.in-Some.ensures.fewer c.in-Some.ensures.some.0 c.in-Some.ensures.some.1 c.in-Some.ensures.taken
          c.index.ensures c.index-in-Some.ensures c.in-Some-choose.ensures same_length c.in_ok-join-in-Some-choose.ensures.joined
          c.join.ensures.pushed c.in_ok-join-in-Some-choose.ensures.kept
          c.in_ok-join-in-Some-choose.ensures.likes out).0;
      members = subst (λ (l : List ℕ). ListMembers l c.join.new.members) (sym out) c.in_ok-join-in-Some-choose.ensures.members;
    }

pub returns-clause-closed : goal.returns-clause-closed
returns-clause-closed c =
    let e = c.in_default.ensures.none in
    progress_done c.args.sites.now c.requires.table c.args.own.now c.requires.fits c.args.equals.now c.loop-x.class.items
    c.loop-x.pending.items c.loop-x.invariant.progress
    (λ a b h. elim (c.in_default.ensures.taken a b h) [
      | inl k ↦ let (j, l, q) = subst (λ (l : List (ℕ × ℕ)). Contains l (a, b)) e k in absurd (omega arith)
      | inr s ↦ elim s [
        | inl q ↦ subst (λ (l : List ℕ). get_or l a 0 ≡ get_or l b 0) c.deref.ensures.value q
        | inr q ↦ absurd cc
      ]
    ])
