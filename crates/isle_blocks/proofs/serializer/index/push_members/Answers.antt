use Rattle.std.proofs.Common.{◌≡◌, ◌++◌, ◌+◌, ℕ, List, inl, inr, append_assoc, ap, sym, ◌∙◌, subst, take}
use Rattle.std.proofs.lemmas.List.{take_all}
use Rattle.std.specs.List.{flat_map}
use Rattle.isle_trees.specs.Ranking.{AllBelow}
use Rattle.isle_trees.specs.Rules.{Elem}
use Rattle.isle_trees.proofs.Asking.{elem_append}
use Rattle.isle_blocks.specs.declared.ids.BindingId.{BindingId}
use Rattle.isle_blocks.specs.Rows.{numbers_of}
use Rattle.isle_blocks.proofs.Trees.Indexed.{members_more}
use Rattle.isle_blocks.proofs.serializer.index.push_members.Goals as goal

pub loop-class-preserved : goal.loop-class-preserved
loop-class-preserved c =
    let classes = c.args.classes.now in
    let at = c.loop-class.class-index in
    let before = flat_map numbers_of (take at classes) in
    let class = c.as_slice.result.now in
    let more : flat_map numbers_of (take (at + 1) classes) ≡ before ++ numbers_of class =
    members_more classes at c.class-item.result c.loop-class-test.true c.class-item.is
    ∙ ap (λ (l : List BindingId). before ++ numbers_of l) (sym c.as_slice.ensures) in
    let old = numbers_of c.args.all.now.items in
    record {
      added = c.in_ok-push_sites.ensures.added ∙ (ap (λ (l : List ℕ). l ++ numbers_of class) c.loop-class.invariant.added
          ∙ (append_assoc old before (numbers_of class) ∙ ap (λ (l : List ℕ). old ++ l) (sym more)));
      low = λ x m. let P : List ℕ → Type 0 = λ l. Elem x l in
          elim (elem_append x before (numbers_of class) (subst P more m)) [
            | inl k ↦ c.loop-class.invariant.low x k
            | inr k ↦ c.in_ok-push_sites.ensures.low x k
          ];
    }

pub returns : goal.returns
returns c =
    let classes = c.args.classes.now in
    let all : take c.loop-class.class-index classes ≡ classes = take_all c.loop-class.class-index classes c.loop-class-test.false in
    let P : List (List BindingId) → Type 0 = λ l. AllBelow (flat_map numbers_of l) 65536 in
    record {
      added = c.loop-class.invariant.added ∙ ap (λ (l : List (List BindingId)). numbers_of c.args.all.now.items ++ flat_map numbers_of l) all;
      low = subst P all c.loop-class.invariant.low;
    }
