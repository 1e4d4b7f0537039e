use Rattle.std.proofs.Common.{arith, List, Bool, ◌<◌, ◌≤◌, ◌≡◌, ◌+◌, ℕ, get_or, length, ◌∙◌, sym, subst, false, true, length-set, set, take}
use Rattle.std.proofs.Math.ListN.{length-map}
use Rattle.isle_trees.specs.Rules.{Elem}
use Rattle.isle_trees.specs.Search.{is_marked}
use Rattle.isle_trees.proofs.Building.Gathering.{unmark_gone, unmark_old, clean_again}
use Rattle.isle_blocks.specs.Rows.{numbers_of}
use Rattle.isle_blocks.proofs.Trees.Indexed.{number_at, number_low}
use Rattle.isle_blocks.proofs.serializer.index.unmark.Goals as goal

pub set-requires : goal.set-requires
set-requires c =
    let e = c.index.ensures in
    let k = c.loop-site.invariant.size in
    let l = number_low c.args.sites.now c.loop-site.site-index (length c.args.marks.now) c.requires.below c.loop-site-test.true in
    omega (arith, e, k, l)

pub loop-site-preserved : goal.loop-site-preserved
loop-site-preserved c =
    let sites = c.args.sites.now in
    let at = c.loop-site.site-index in
    let marks = c.loop-site.marks in
    let size = c.loop-site.invariant.size in
    let e : c.index.result ≡ get_or (numbers_of sites) at 0 = c.index.ensures ∙ sym (number_at sites at) in
    let within : at < length (numbers_of sites) = simp length-map c.loop-site-test.true in
    let low : c.index.result < length marks =
    let l = number_low sites at (length c.args.marks.now) c.requires.below c.loop-site-test.true in
    let f = c.index.ensures in omega (arith, l, f, size) in
    let P : ℕ → Type 0 = λ k. (x : ℕ) → Elem x (take (at + 1) (numbers_of sites)) → is_marked (set marks k false) x ≡ true → ⊥ in
    let K : List Bool → Type 0 = λ m. (length m ≡ length c.args.marks.now)
    × ((x : ℕ) → Elem x (take (at + 1) (numbers_of sites)) → is_marked m x ≡ true → ⊥)
    × ((x : ℕ) → is_marked m x ≡ true → is_marked c.args.marks.now x ≡ true) in
    let k : K c.set.new.self = subst K (sym c.in_ok-set.ensures) (
      length-set marks c.index.result false ∙ size,
      subst P (sym e) (unmark_gone (numbers_of sites) at marks within (omega arith) c.loop-site.invariant.gone),
      unmark_old marks c.args.marks.now c.index.result low c.loop-site.invariant.old,
    ) in
    record { size = k.0; gone = k.1; old = k.2 }

pub returns : goal.returns
returns c =
    let sites = c.args.sites.now in
    let end : length (numbers_of sites) ≤ c.loop-site.site-index = simp length-map c.loop-site-test.false in
    clean_again (length c.args.marks.now) c.loop-site.site-index (numbers_of sites) c.args.marks.now c.loop-site.marks
    c.loop-site.invariant.size end c.requires.marked c.loop-site.invariant.gone c.loop-site.invariant.old
