use Rattle.std.proofs.Common.{rules, arith, ◌∙◌, ◌≡◌, ◌<◌, ◌≤◌, ◌+◌, get_or, length, subst, sym, List, ℕ, ap}
use Rattle.std.proofs.lemmas.List.{take_all, length-append}
use Rattle.isle_trees.specs.Rules.{Elem}
use Rattle.isle_trees.proofs.Building.Gathering.{closing_start, closing_more, closed, gathering_short}
use Rattle.isle_trees.proofs.Building.Lists.{elem_at, get_any}
use Rattle.isle_blocks.specs.declared.ids.BindingId.{BindingId}
use Rattle.isle_blocks.specs.Rows.{numbers_of}
use Rattle.isle_blocks.specs.Inside.Trees.Builder.{rules_in}
use Rattle.isle_blocks.specs.Trees.View.{id_of}
use Rattle.isle_blocks.proofs.Trees.Binding.{number_get, numbers_length}
use Rattle.isle_blocks.proofs.rule_set.RuleSet.closure.Goals as goal

pub gather-requires : goal.gather-requires
gather-requires c x m = let l = c.requires.below x m in let e = c.requires.size in omega (arith, l, e)

pub parts-init : goal.parts-init
parts-init c = record {
  closing = closing_start (rules_in c.args.self.now) (numbers_of c.args.sites.now) c.args.marks.now c.gather.new.marks
      (numbers_of c.new-list.result.items) (numbers_of c.gather.new.list.items) (ap numbers_of c.new-list.ensures.items) c.in_ok-gather.ensures;
  ends = omega arith;
}

pub gather-requires-in-parts : goal.gather-requires-in-parts
gather-requires-in-parts c x m =
    let R = rules_in c.args.self.now in
    let xs = c.parts.list.items in
    let site = get_or (numbers_of xs) c.parts.at 0 in
    let P : List ℕ → Type 0 = λ l. Elem x l in
    let l0 : c.parts.at < length xs = search rules in
    let at : c.index.result.now ≡ get_or xs c.parts.at (id_of 0) = c.index.ensures ∙ get_any xs c.parts.at c.index.result.now (id_of 0) l0 in
    let e : numbers_of c.parts-in-parts.result.now ≡ R.parts site =
    c.parts-in-parts.ensures ∙ ap R.parts (ap (λ (id : BindingId). id.0) at ∙ sym (number_get xs c.parts.at)) in
    let l : x < site = c.requires.lower site x (subst P e m) in
    let n = numbers_length xs in
    let b = c.parts.invariant.closing.gathering.below site (elem_at (numbers_of xs) c.parts.at 0 (omega arith)) in
    let s = c.parts.invariant.closing.gathering.size in
    omega (arith, l, b, s)

pub parts-smaller : goal.parts-smaller
parts-smaller c =
    let s = gathering_short c.args.marks.now c.parts.marks (numbers_of c.parts.list.items) c.parts.invariant.closing.gathering in
    let n = numbers_length c.parts.list.items in
    let l : c.parts.at < length c.parts.list.items = search rules in
    omega (arith, s, n, l)

pub parts-preserved : goal.parts-preserved
parts-preserved c =
    let R = rules_in c.args.self.now in
    let xs = c.parts.list.items in
    let site = get_or (numbers_of xs) c.parts.at 0 in
    let l0 : c.parts.at < length xs = search rules in
    let at : c.index.result.now ≡ get_or xs c.parts.at (id_of 0) = c.index.ensures ∙ get_any xs c.parts.at c.index.result.now (id_of 0) l0 in
    let e : numbers_of c.parts-in-parts.result.now ≡ R.parts site =
    c.parts-in-parts.ensures ∙ ap R.parts (ap (λ (id : BindingId). id.0) at ∙ sym (number_get xs c.parts.at)) in
    let g = c.in_ok-gather-2.ensures in
    let k = numbers_length xs in
    let j = numbers_length c.gather-in-parts.new.list.items in
    let n : length (numbers_of c.gather-in-parts.new.list.items) ≡ length (numbers_of xs) + length g.more =
    ap length g.list ∙ length-append (numbers_of xs) g.more in
    record {
      closing = closing_more R (numbers_of c.args.sites.now) c.args.marks.now c.parts.marks c.gather-in-parts.new.marks
          (numbers_of xs) (numbers_of c.gather-in-parts.new.list.items) (numbers_of c.parts-in-parts.result.now) c.parts.at
          (omega arith) e g c.parts.invariant.closing;
      ends = omega (arith, n, l0, k, j);
    }

pub returns : goal.returns
returns c =
    let l : length c.parts.list.items ≤ c.parts.at = search rules in
    let n = numbers_length c.parts.list.items in
    closed (rules_in c.args.self.now) (numbers_of c.args.sites.now) c.args.marks.now c.parts.marks
    (numbers_of c.parts.list.items) (numbers_of c.ascending.result.items) c.parts.at
    (take_all c.parts.at (numbers_of c.parts.list.items) (omega arith)) c.ascending.ensures.ascending c.ascending.ensures.same
    c.parts.invariant.closing
