use Rattle.std.proofs.Common.{◌≡◌, ◌≤◌, ℕ, List, ap, refl, ◌∙◌, arith, length, subst}
use Rattle.std.proofs.lemmas.Option.{slice_get_past}
use Rattle.isle_trees.specs.Rules.{Elem}
use Rattle.isle_blocks.specs.Rows.{numbers_of}
use Rattle.isle_blocks.specs.Inside.Trees.Builder.{items_at, items_in}
use Rattle.isle_blocks.proofs.Trees.Indexed.{items_read}
use Rattle.isle_blocks.proofs.Trees.Marking.Dependents.{gathered_full, gathered_more, gathered_none}
use Rattle.isle_blocks.proofs.serializer.index.all_of.Goals as goal

pub loop-list-init : goal.loop-list-init
loop-list-init c =
    gathered_none c.in_ok-marks.marks (numbers_of c.new-all.result.items) (λ i. numbers_of (items_at c.args.lists.now i))
    (ap numbers_of c.new-all.ensures.items)

pub gather-requires : goal.gather-requires
gather-requires c x m =
    let lists = c.args.lists.now in
    let at = c.loop-list.list-index in
    let same : numbers_of c.deref.result.now ≡ numbers_of (items_at lists at) =
    ap numbers_of (c.deref.ensures.value ∙ items_read lists at at c.list-item.result c.loop-list-test.true refl c.list-item.is) in
    let P : List ℕ → Type 0 = λ l. Elem x l in
    let l = c.requires at x (subst P same m) in
    let n = c.loop-list.invariant.gathering.size in
    let e = c.in_ok-marks.ensures.size in
    omega (arith, l, n, e)

pub loop-list-preserved : goal.loop-list-preserved
loop-list-preserved c =
    let lists = c.args.lists.now in
    let at = c.loop-list.list-index in
    let same : numbers_of c.deref.result.now ≡ numbers_of (items_at lists at) =
    ap numbers_of (c.deref.ensures.value ∙ items_read lists at at c.list-item.result c.loop-list-test.true refl c.list-item.is) in
    gathered_more c.in_ok-marks.marks c.loop-list.marks c.gather.new.marks (numbers_of c.loop-list.all.items)
    (numbers_of c.gather.new.list.items) (numbers_of c.deref.result.now) (λ i. numbers_of (items_at lists i)) at same c.in_ok-gather.ensures
    c.loop-list.invariant

pub returns : goal.returns
returns c =
    let lists = c.args.lists.now in
    let end : length lists ≤ c.loop-list.list-index = c.loop-list-test.false in
    record {
      below = λ x m. let l = c.loop-list.invariant.gathering.below x m in let e = c.in_ok-marks.ensures.size in omega (arith, l, e);
      full = gathered_full c.in_ok-marks.marks c.loop-list.marks (numbers_of c.loop-list.all.items) (λ i. numbers_of (items_at lists i))
          c.loop-list.list-index c.in_ok-marks.ensures.clean
          (λ j l. let past : length lists ≤ j = omega arith in ap (λ o. numbers_of (items_in o)) (slice_get_past lists j past)) c.loop-list.invariant;
    }
