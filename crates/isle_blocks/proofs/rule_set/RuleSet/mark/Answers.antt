use Rattle.std.proofs.Common.{◌≡◌, ◌<◌, ◌+◌, ◌&&◌, not, ℕ, true, set, sym, ◌∙◌, subst, List, Bool, take, get_or, length, arith}
use Rattle.isle_trees.specs.Search.{can_bind, is_marked}
use Rattle.isle_trees.proofs.Basics.{and_both}
use Rattle.isle_trees.proofs.Building.Lists.{elem_at}
use Rattle.isle_trees.proofs.Building.Marks.{Marking, marking_set}
use Rattle.isle_trees.proofs.Building.Scopes.{get_map, map_length}
use Rattle.isle_blocks.specs.declared.ids.BindingId.{BindingId}
use Rattle.isle_blocks.specs.Rows.{numbers_of}
use Rattle.isle_blocks.specs.Inside.Trees.Builder.{rules_in, scope_of}
use Rattle.isle_blocks.specs.Trees.View.{id_of}
use Rattle.isle_blocks.proofs.Trees.Binding.{number_elem}
use Rattle.isle_blocks.proofs.Trees.Marked.{marking_passed}
use Rattle.isle_blocks.proofs.Trees.Order.{same_is, same_itself}
use Rattle.isle_blocks.proofs.rule_set.RuleSet.mark.Goals.{then-needs_mark+in_ok-set, else-needs_mark}
use Rattle.isle_blocks.proofs.rule_set.RuleSet.mark.Goals as goal

pub needs_mark-requires-clause-site : goal.needs_mark-requires-clause-site
needs_mark-requires-clause-site c = c.requires.below _ (number_elem c.args.sites.now c.loop-site.site-index (id_of 0) c.loop-site-test.true)

pub set-requires : goal.set-requires
set-requires c =
    let below = c.requires.below _ (number_elem c.args.sites.now c.loop-site.site-index (id_of 0) c.loop-site-test.true) in
    let at = c.index.ensures in
    let start = c.requires.size in
    let size = c.loop-site.invariant.size in
    omega (arith, below, at, start, size)

pub loop-site-preserved : goal.loop-site-preserved
loop-site-preserved c =
    let R = rules_in c.args.self.now in
    let sc = scope_of c.args.self.now c.args.known.now in
    let sites = numbers_of c.args.sites.now in
    let i = c.loop-site.site-index in
    let within : i < length sites = subst (λ (n : ℕ). i < n) (sym (map_length (λ (id : BindingId). id.0) c.args.sites.now)) c.loop-site-test.true in
    let site : ℕ = (get_or c.args.sites.now i (record { 0 = 0 })).0 in
    let at : get_or sites i 0 ≡ site = get_map (λ (id : BindingId). id.0) c.args.sites.now i 0 (record { 0 = 0 }) c.loop-site-test.true in
    let P : List Bool → Type 0 = λ m. Marking R sc (take (i + 1) sites) c.args.marks.now m in
    let needs : List Bool → ℕ → Bool = λ m y. not (is_marked m y) && can_bind R sc m y in
    let answer : c.needs_mark.result ≡ needs c.loop-site.marks (get_or sites i 0) =
    subst (λ (y : ℕ). c.needs_mark.result ≡ needs c.loop-site.marks y) (sym at) c.needs_mark.ensures in
    let below : get_or sites i 0 < length c.args.self.now.sites = c.requires.below _ (elem_at sites i 0 within) in
    let start = c.requires.size in
    let size = c.loop-site.invariant.size in
    elim c.if-needs_mark.branch [
      | then-needs_mark+in_ok-set w ↦ subst P (sym (w.marks-is ∙ w.in_ok-set.ensures))
          (subst (λ (y : ℕ). Marking R sc (take (i + 1) sites) c.args.marks.now (set c.loop-site.marks y true)) (at ∙ sym w.index.ensures)
          (marking_set R same_is same_itself sc sites c.args.marks.now c.loop-site.marks i within c.requires.first c.loop-site.invariant
          (omega (arith, below, start, size)) (and_both (not (is_marked c.loop-site.marks (get_or sites i 0))) _
          (sym answer ∙ w.if-needs_mark.true)).1))
      | else-needs_mark w ↦ subst P (sym w.marks-is)
          (marking_passed R same_is same_itself sc sites c.args.marks.now c.loop-site.marks i within c.requires.first c.loop-site.invariant
          (sym answer ∙ w.if-needs_mark.false))
    ]
