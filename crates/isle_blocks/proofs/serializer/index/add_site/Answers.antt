use Rattle.std.proofs.Common.{◌≡◌, ◌++◌, ◌∷◌, [], ℕ, sym, ◌∙◌, ap, subst, set}
use Rattle.isle_trees.specs.Search.{added_at}
use Rattle.isle_blocks.specs.Rows.{numbers_of}
use Rattle.isle_blocks.specs.Inside.Trees.Builder.{items_at}
use Rattle.isle_blocks.proofs.Trees.Indexed.{number_added, items_read}
use Rattle.isle_blocks.proofs.serializer.index.add_site.Goals as goal

pub returns-clause-added : goal.returns-clause-added
returns-clause-added c s =
    let lists = c.args.lists.now.items in
    let at = c.args.at.0 in
    let here : c.index_mut.result.now.items ≡ items_at lists at =
    items_read lists at c.index.result c.index_mut.result.now c.requires c.index.ensures c.index_mut.ensures.value in
    let e : c.push.new.self.items ≡ items_at lists at ++ c.args.site ∷ [] = c.in_ok-push.ensures.items ∙ ap (λ l. l ++ c.args.site ∷ []) here in
    let P : ℕ → Type 0 = λ k. numbers_of (items_at (set lists k c.push.new.self) s) ≡ added_at (numbers_of (items_at lists s)) at c.args.site.0 s in
    subst P (sym c.index.ensures) (number_added lists at s c.push.new.self c.args.site c.requires e)
