-- Each way takes of each multi call an item of the list that it has.
use Rattle.std.proofs.Common.{◌≡◌, inl, inr, ℕ, zero, suc, ◌<◌, true, List, [], ◌∷◌, refl, ap, sym, subst, ◌∙◌, arith, eq-eqb}
use Rattle.isle_blocks.specs.Trees.Bags.{WaysTakeItems}
use Rattle.isle_blocks.specs.Trees.Functions.{functions_of, lists_of, functions_model}
use Rattle.isle_blocks.specs.Trees.View.{rules_of}
use Rattle.isle_blocks.proofs.Trees.Elaborated.{well_made}
use Rattle.isle_blocks.proofs.Trees.Bags.Functional.{are_functions}
use Rattle.isle_blocks.proofs.Trees.Bags.Many.{ascending}
use Rattle.isle_trees.specs.Bag.{Picks, pick, Model, IsModel, IsAscending, ways}
use Rattle.isle_trees.specs.Premises.{IsWellMade}
use Rattle.isle_trees.specs.Rules.{Rules, Elem}
use Rattle.isle_trees.proofs.Basics.{source_part}
use Rattle.isle_trees.proofs.Rounds.{pick_other}
use Rattle.isle_trees.proofs.Sums.{elem_flat}
use Rattle.isle_trees.proofs.Whole.{whole_calls}

module _ {C V : Type 0} (R : Rules C V) (M : Model V) (well : IsWellMade R) (model : IsModel R M) where
  -- a site is the same where the multi calls below it are
  same_below : (h g : Picks V) (n x : ℕ) → x < n → ((u : ℕ) → u < x → h u ≡ g u) → M.values h x ≡ M.values g x
  same_below h g zero x l f = absurd (omega arith)
  same_below h g (suc n) x l f =
      model.by_parts h g x
      (λ p m. let q : p < x = well.lower x p m in same_below h g n p (omega arith) (λ u r. f u (omega arith)))
      (λ m e one. f m.site (well.lower x m.site (source_part R x m well e)))

  -- So are its items.
  pub many_below : (h g : Picks V) (s : ℕ) → ((u : ℕ) → u < s → h u ≡ g u) → M.many h s ≡ M.many g s
  many_below h g s f =
      model.many_by_parts h g s
      (λ p m. let q : p < s = well.lower s p m in same_below h g (suc p) p (omega arith) (λ u r. f u (omega arith)))

  -- a way changes nothing below
  below_ways : (ss : List ℕ) (h g : Picks V) (u : ℕ) → ((s : ℕ) → Elem s ss → u < s) → Elem g (ways M ss h) → h u ≡ g u
  below_ways [] h g u low (inl e) = ap (λ (p : Picks V). p u) (sym e)
  below_ways [] h g u low (inr m) = absurd m
  below_ways (s ∷ ss) h g u low m =
      let (c, inside, rest) = elem_flat (λ b. ways M ss (pick h s b)) g (M.many h s) m in
      let l : u < s = low s (inl refl) in
      let other : pick h s c u ≡ h u = pick_other h s u c (λ p. omega arith) in
      sym other ∙ below_ways ss (pick h s c) g u (λ x n. low x (inr n)) rest

  -- it takes items
  takes_items : (ss : List ℕ) (h g : Picks V) → IsAscending ss → Elem g (ways M ss h) → (k : ℕ) → Elem k ss → Elem (g k) (M.many g k)
  takes_items [] h g up m k n = absurd n
  takes_items (s ∷ ss) h g up m k (inl e) =
      let (c, inside, rest) = elem_flat (λ b. ways M ss (pick h s b)) g (M.many h s) m in
      let mine : pick h s c s ≡ c = rw (eq-eqb s s refl) refl in
      let own : c ≡ g s = sym mine ∙ below_ways ss (pick h s c) g s (up.0) rest in
      let same : M.many h s ≡ M.many g s = many_below h g s (λ u l.
      sym (pick_other h s u c (λ p. omega arith)) ∙ below_ways ss (pick h s c) g u (λ x n. let b : s < x = up.0 x n in omega arith) rest) in
      subst (λ (z : ℕ). Elem (g z) (M.many g z)) (sym e) (subst (λ (l : List V). Elem (g s) l) same
      (subst (λ (x : V). Elem x (M.many h s)) own inside))
  takes_items (s ∷ ss) h g up m k (inr n) =
      let (c, inside, rest) = elem_flat (λ b. ways M ss (pick h s b)) g (M.many h s) m in
      takes_items ss (pick h s c) g (up.1) rest k n

pub ways_take_items : WaysTakeItems
ways_take_items name facts sources rules term set h c args i p g m k n =
    let R = rules_of name set in
    let well = well_made name facts sources rules term set h in
    let functions = are_functions name facts sources rules term set h c args in
    takes_items R (functions_model name set facts c args) well
    (whole_calls R (functions_of name set facts c args) (lists_of name set facts c args) (λ q. true) well functions) (R.loops i) p g
    (ascending name facts sources rules term set h i) m k n
