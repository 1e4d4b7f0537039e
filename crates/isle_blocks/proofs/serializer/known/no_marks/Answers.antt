use Rattle.std.proofs.Common.{◌≡◌, Bool, List, ap, ◌∙◌, length, arith}
use Rattle.isle_trees.specs.Search.{is_marked}
use Rattle.isle_blocks.proofs.Closure.Loops.{get_or-replicate}
use Rattle.isle_blocks.proofs.serializer.known.no_marks.Goals as goal

pub returns : goal.returns
returns c =
    let same = c.in_ok-marks.ensures ∙ c.deref.ensures.value in
    let none = c.in_ok-none.ensures.items_if_clones_equal (λ y q. q) in
    record {
      size =
          let e : length c.in_ok-marks.marks ≡ length c.in_ok-none.none.items = ap length same in
          let l = c.in_ok-none.ensures.len in
          let k = c.in_ok-none.none.ok.0 in
          omega (arith, e, l, k);
      clean = λ x. ap (λ (l : List Bool). is_marked l x) (same ∙ none) ∙ get_or-replicate c.args.count x;
    }
