use Rattle.std.proofs.Common.{◌≡◌, ◌<◌, [], ℕ, ap, sym, ◌∙◌, subst, true, false, Bool, List, length, set, arith}
use Rattle.std.proofs.lemmas.List.{length-replicate}
use Rattle.isle_blocks.specs.Inside.ClosureStates.{IsChildAt, IsUnmarkedChild, ChildrenAreMarked, is_marked}
use Rattle.isle_blocks.proofs.Closure.Pairs.{own_in}
use Rattle.isle_blocks.proofs.Closure.Loops.{has_loop, get_or-replicate}
use Rattle.isle_blocks.proofs.Closure.Marking.{Marking, marking_first, marking_last, next_in, wait_more, mark_more, wait_less, mark_less, list_of, no_lists, child_within, work_left}
use Rattle.isle_blocks.proofs.close.depth.is_finite.Goals as goal

pub loop-r-init : goal.loop-r-init
loop-r-init c =
    let e = c.in_ok-marks.ensures.items_if_clones_equal (λ y q. q) in
    let w = c.in_ok-waiting.ensures in
    let p = c.in_ok-pending.pending.ok.0 in let p' = c.in_ok-pending.ensures.0 in
    let n1 = c.len.ensures.count in let n2 = c.len-2.ensures.count in let n3 = c.len-3.ensures.count in
    let m = c.in_ok-marks.marks.ok.0 in let m' = c.in_ok-marks.ensures.len in
    let lists : length c.in_ok-waiting.waiting ≡ length c.args.sites.now = ap length w ∙ length-replicate _ _ ∙ n2 in
    marking_first c.args.sites.now c.args.own.now c.args.class.now c.in_ok-marks.marks.items c.in_ok-waiting.waiting c.in_ok-pending.pending.items
    (omega arith) (λ k. ap (λ (l : List Bool). is_marked l k) e ∙ get_or-replicate _ k) lists
    (λ k. ap (λ (l : List (List ℕ)). list_of l k) w ∙ no_lists _ k) (omega arith)
    (λ a h. c.in_ok-pending.ensures.1 a (omega arith))

pub unmarked_child-requires-clause-r_in : goal.unmarked_child-requires-clause-r_in
unmarked_child-requires-clause-r_in c = next_in _ _ _ _ _ _ _ c.in-Some.r c.in-Some.ensures.items c.loop-r.invariant

pub loop-r-smaller-in-Continue-branch-4 : goal.loop-r-smaller-in-Continue-branch-4
loop-r-smaller-in-Continue-branch-4 c =
    let table = c.args.sites.now in let own = c.args.own.now in let class = c.args.class.now in
    let k = c.in-Some-unmarked_child.child in
    let child = c.in-Some-unmarked_child.ensures.some in
    let k_in = child_within table own class c.requires.classes c.in-Some.r child.field k child.is_child in
    let f = c.loop-r.invariant.lists in
    let less = wait_less c.loop-r.waiting c.loop-r.pending.items c.pop.new.self.items k c.in-Some.r (omega arith) c.in-Some.ensures.items in
    subst (λ (l : List (List ℕ)). work_left l c.pop.new.self.items < work_left c.loop-r.waiting c.loop-r.pending.items)
    (sym c.in_ok-add-in-Some-unmarked_child.ensures) less

pub loop-r-preserved-in-Continue-branch-4 : goal.loop-r-preserved-in-Continue-branch-4
loop-r-preserved-in-Continue-branch-4 c =
    let table = c.args.sites.now in let own = c.args.own.now in let class = c.args.class.now in
    let k = c.in-Some-unmarked_child.child in let r = c.in-Some.r in
    let child = subst (λ (l : List Bool). IsUnmarkedChild table own class l r k) c.deref.ensures.value c.in-Some-unmarked_child.ensures.some in
    let k_in = child_within table own class c.requires.classes r child.field k child.is_child in
    let more = wait_more table own class c.loop-r.marks.items c.loop-r.waiting c.loop-r.pending.items c.pop.new.self.items
    r c.in-Some.ensures.items c.loop-r.invariant k k_in child in
    subst (λ (l : List (List ℕ)). Marking table own class c.loop-r.marks.items l c.pop.new.self.items)
    (sym c.in_ok-add-in-Some-unmarked_child.ensures) more

pub index_mut-requires : goal.index_mut-requires
index_mut-requires c = let n = next_in _ _ _ _ _ _ _ c.in-Some.r c.in-Some.ensures.items c.loop-r.invariant in
    let f = c.loop-r.invariant.fits in let o = c.loop-r.marks.ok.0 in omega arith

pub take-requires : goal.take-requires
take-requires c = let n = next_in _ _ _ _ _ _ _ c.in-Some.r c.in-Some.ensures.items c.loop-r.invariant in
    let f = c.loop-r.invariant.lists in omega arith

pub loop-r-smaller : goal.loop-r-smaller
loop-r-smaller c =
    let r = c.in-Some.r in let rest = c.pop.new.self.items in let lists = c.loop-r.waiting in
    let n = next_in _ _ _ _ _ _ _ r c.in-Some.ensures.items c.loop-r.invariant in let f = c.loop-r.invariant.lists in
    let less = mark_less lists c.loop-r.pending.items rest r (omega arith) c.in-Some.ensures.items in
    subst (λ (l : List (List ℕ)). work_left l c.take.new.others.items < work_left lists c.loop-r.pending.items)
    (sym c.in_ok-take-in-None.ensures.left)
    (subst (λ (l : List ℕ). work_left (set lists r []) l < work_left lists c.loop-r.pending.items) (sym c.in_ok-take-in-None.ensures.taken) less)

pub loop-r-preserved : goal.loop-r-preserved
loop-r-preserved c =
    let table = c.args.sites.now in let own = c.args.own.now in let class = c.args.class.now in
    let r = c.in-Some.r in let lists = c.loop-r.waiting in
    let children = subst (λ (l : List Bool). ChildrenAreMarked table own class l r) c.deref.ensures.value c.in-None.ensures.none in
    let more = mark_more table own class c.loop-r.marks.items lists c.loop-r.pending.items c.pop.new.self.items
    r c.in-Some.ensures.items c.loop-r.invariant children in
    subst (λ (l : List (List ℕ)). Marking table own class (set c.loop-r.marks.items r true) l c.take.new.others.items)
    (sym c.in_ok-take-in-None.ensures.left)
    (subst (λ (l : List ℕ). Marking table own class (set c.loop-r.marks.items r true) (set lists r []) l)
    (sym c.in_ok-take-in-None.ensures.taken) more)

pub returns-clause-ranked : goal.returns-clause-ranked
returns-clause-ranked c = λ e.
    let p = c.loop-r.invariant.peeled in
    let all : (r g k : ℕ) → IsChildAt c.args.sites.now c.args.own.now c.args.class.now r g k → is_marked c.loop-r.marks.items r ≡ true = λ r g k x.
    let r_in = own_in c.args.own.now r x.test x.has in
    let value = ap length c.deref-2.ensures.value in let fits = c.loop-r.invariant.fits in let f = c.requires.own in
    subst (λ (l : List Bool). is_marked l r ≡ true) c.deref-2.ensures.value (c.are_marked.ensures.all e r (omega arith)) in
    record { rank = p.rank; falls = λ r g k x. p.falls r g k (all r g k x) x }

pub returns-clause-looped : goal.returns-clause-looped
returns-clause-looped c = λ e.
    let (k, k_in, u) = c.are_marked.ensures.some e in
    let value = ap length c.deref-2.ensures.value in let fits = c.loop-r.invariant.fits in
    let unmarked = subst (λ (l : List Bool). is_marked l k ≡ false) c.deref-2.ensures.value u in
    let none = c.in_default.ensures.cases.0 in let o = c.loop-r.pending.ok.0 in
    let stuck = marking_last c.args.sites.now c.args.own.now c.args.class.now c.loop-r.marks.items c.loop-r.waiting c.loop-r.pending.items
    (omega arith) c.loop-r.invariant in
    has_loop c.args.sites.now c.args.own.now c.args.class.now c.loop-r.marks.items stuck c.requires.classes.below k (omega arith) unmarked
