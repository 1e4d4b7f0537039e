use Rattle.std.proofs.Common.{rules, arith, ◌∙◌, ◌≡◌, ◌<◌, ◌≤◌, ◌+◌, get_or, length, subst, sym, List, ℕ, ap}
use Rattle.std.proofs.lemmas.List.{length-append}
use Rattle.isle_trees.specs.Rules.{Elem}
use Rattle.isle_trees.proofs.Building.Gathering.{gathering_short}
use Rattle.isle_trees.proofs.Building.Lists.{get_any}
use Rattle.isle_blocks.specs.declared.ids.BindingId.{BindingId}
use Rattle.isle_blocks.specs.Rows.{numbers_of}
use Rattle.isle_blocks.specs.Inside.Trees.Builder.{dependents_at, rules_in, scope_of}
use Rattle.isle_blocks.specs.Trees.View.{id_of}
use Rattle.isle_blocks.proofs.Trees.Binding.{number_get, numbers_length}
use Rattle.isle_blocks.proofs.Trees.Marking.Spreading.{spread, spreading_next, spreading_start}
use Rattle.isle_blocks.proofs.Trees.Order.{same_is, same_itself}
use Rattle.isle_blocks.proofs.rule_set.RuleSet.spread.Goals as goal

pub spread_each-requires-clause-below : goal.spread_each-requires-clause-below
spread_each-requires-clause-below c x m =
    let P : List ℕ → Type 0 = λ l. Elem x l in c.requires.index.is.made_within c.args.site.0 x (subst P c.made_from.ensures m)

pub spreading-init : goal.spreading-init
spreading-init c = record {
  spreading = spreading_start (rules_in c.args.self.now) same_is (scope_of c.args.self.now c.args.known.now) c.args.site.0
      (numbers_of c.made_from.result.now) c.args.marks.now c.spread_each.new.marks (numbers_of c.new-list.result.items)
      (numbers_of c.spread_each.new.list.items) (ap numbers_of c.new-list.ensures.items)
      (λ x m f g. let P : List ℕ → Type 0 = λ l. Elem x l in subst P (sym c.made_from.ensures) (c.requires.index.is.made_from c.args.site.0 x m f g))
      c.requires.sound c.in_ok-spread_each.ensures;
  ends = omega arith;
}

pub spread_each-requires-in-spreading-clause-size : goal.spread_each-requires-in-spreading-clause-size
spread_each-requires-in-spreading-clause-size c = c.spreading.invariant.spreading.gathering.size ∙ c.requires.size

pub spread_each-requires-in-spreading-clause-below : goal.spread_each-requires-in-spreading-clause-below
spread_each-requires-in-spreading-clause-below c x m =
    let P : List ℕ → Type 0 = λ l. Elem x l in c.requires.index.dependents.within c.index.result.now.0 x (subst P c.dependents.ensures m)

pub spreading-smaller : goal.spreading-smaller
spreading-smaller c =
    let s = gathering_short c.args.marks.now c.spreading.marks (numbers_of c.spreading.list.items) c.spreading.invariant.spreading.gathering in
    let n = numbers_length c.spreading.list.items in
    let l : c.spreading.at < length c.spreading.list.items = search rules in
    omega (arith, s, n, l)

pub spreading-preserved : goal.spreading-preserved
spreading-preserved c =
    let set = c.args.self.now in
    let R = rules_in set in
    let xs = c.spreading.list.items in
    let at = c.spreading.at in
    let site = get_or (numbers_of xs) at 0 in
    let l0 : at < length xs = search rules in
    let here : c.index.result.now ≡ get_or xs at (id_of 0) = c.index.ensures ∙ get_any xs at c.index.result.now (id_of 0) l0 in
    let number : c.index.result.now.0 ≡ site = ap (λ (id : BindingId). id.0) here ∙ sym (number_get xs at) in
    let e : numbers_of c.dependents.result.now ≡ dependents_at c.args.index.now site = c.dependents.ensures ∙ ap
    (dependents_at c.args.index.now) number in
    let g = c.in_ok-spread_each-2.ensures in
    let k = numbers_length xs in
    let j = numbers_length c.spread_each-in-spreading.new.list.items in
    let n : length (numbers_of c.spread_each-in-spreading.new.list.items) ≡ length (numbers_of xs) + length g.more =
    ap length g.list ∙ length-append (numbers_of xs) g.more in
    record {
      spreading = spreading_next R (scope_of set c.args.known.now) c.args.site.0 (numbers_of c.dependents.result.now) c.args.marks.now
          c.spreading.marks c.spread_each-in-spreading.new.marks (numbers_of xs) (numbers_of c.spread_each-in-spreading.new.list.items) at
          (omega arith) (λ i x a m. let P : List ℕ → Type 0 = λ l. Elem x l in subst P (sym e) (c.requires.index.dependents.all i x site a m)) g
          c.spreading.invariant.spreading;
      ends = omega (arith, n, l0, k, j);
    }

pub returns : goal.returns
returns c =
    let l : length c.spreading.list.items ≤ c.spreading.at = search rules in
    let n = numbers_length c.spreading.list.items in
    spread (rules_in c.args.self.now) same_itself (scope_of c.args.self.now c.args.known.now) c.args.site.0 c.args.marks.now
    c.spreading.marks (numbers_of c.spreading.list.items) c.spreading.at (omega arith) c.spreading.invariant.spreading
