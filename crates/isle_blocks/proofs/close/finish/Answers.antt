use Rattle.std.proofs.Common.{◌<◌, ℕ, List, length, Option, get_or, sym, subst, arith}
use Rattle.isle_blocks.specs.declared.constraint.Constraint.{Constraint}
use Rattle.isle_blocks.specs.Inside.ClosureStates.{Grows}
use Rattle.isle_blocks.proofs.Closure.Growth.{grown_state}
use Rattle.isle_blocks.proofs.close.finish.Goals as goal

pub spread-requires : goal.spread-requires
spread-requires c = λ a h.
    let (equals, state) = c.requires in
    let own = c.args.reduced.own.items in let old = c.args.sites.now in let first = c.args.reduced.class.items in
    let table = c.complete.new.sites in let class = c.complete.new.class.items in
    let grows = subst (λ (l : List (Option Constraint)). Grows l old first table class) c.deref.ensures.value c.in_ok-complete.ensures.grows in
    let after = grown_state own equals old table first class grows state in
    let here : a < length class = subst (λ (l : List ℕ). a < length l) c.deref-2.ensures.value h in
    let root : get_or class a 0 < length own = after.roots a (let e = after.classes.fits in omega arith) in
    subst (λ (l : List ℕ). get_or l a 0 < length own) (sym c.deref-2.ensures.value) root
