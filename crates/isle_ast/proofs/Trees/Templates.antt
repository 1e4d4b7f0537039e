-- The steps of a loop that makes templates of patterns, or fills them.
use Rattle.std.proofs.Common.{◌≡◌, ◌<◌, ◌≤◌, suc, List, [], ◌∷◌, ◌++◌, length, drop, get_or, drop-cons, add-one, drop_of_length-le, ◌+◌, Bool, true}
use Rattle.std.proofs.Common.{false, ◌||◌, Option, Some, None, refl, sym, ap, ◌∙◌, ℕ}
use Rattle.std.specs.Option.{option_map}
use Rattle.isle_ast.specs.declared.ast.Ident.{Ident}
use Rattle.isle_ast.specs.Trees.PatternTree.{PatternTree, PatternTrees, no_patterns, more_patterns, pattern_list}
use Rattle.isle_ast.specs.declared.ast.Pattern.{Pattern}
use Rattle.isle_ast.specs.Trees.PatternShape.{pattern_of, patterns_of}
use Rattle.isle_ast.specs.Trees.TreeCalls.{has_macro_arg, has_macro_args}
use Rattle.isle_ast.specs.Trees.Templates.{template_tree, template_trees, filled, all_filled}

pub neither : (s t : Bool) → (s || t) ≡ false → (s ≡ false) × (t ≡ false)
neither false false e = (refl, refl)
neither false true e = cc
neither true false e = cc
neither true true e = cc

-- the trees of a list, before others
abbrev pub before : List PatternTree → PatternTrees → PatternTrees
before [] ts = ts
before (x ∷ xs) ts = more_patterns x (before xs ts)

before_push : (xs : List PatternTree) (x : PatternTree) (ts : PatternTrees) → before (xs ++ x ∷ []) ts ≡ before xs (more_patterns x ts)
before_push [] x ts = refl
before_push (y ∷ xs) x ts = ap (more_patterns y) (before_push xs x ts)

before_none : (xs : List PatternTree) → before xs no_patterns ≡ pattern_list xs
before_none [] = refl
before_none (y ∷ xs) = ap (more_patterns y) (before_none xs)

pushed : (xs : List PatternTree) (t : PatternTree) (o : Option PatternTrees)
    → option_map (before xs) (option_map (more_patterns t) o) ≡ option_map (before (xs ++ t ∷ [])) o
pushed xs t None = refl
pushed xs t (Some ts) = ap Some (sym (before_push xs t ts))

pub filled_start : (o : Option PatternTrees) → o ≡ option_map (before []) o
filled_start None = refl
filled_start (Some ts) = refl

-- those from one place on are a first one and those after it
listed : (ps : List Pattern) (i : ℕ) (p : Pattern) → i < length ps → p ≡ get_or ps i p → drop i ps ≡ p ∷ drop (i + 1) ps
listed ps i p low is = rw add-one (drop-cons ps i p low ∙ ap (λ x. x ∷ drop (suc i) ps) (sym is))

-- With `whole` for the filled list, the first patterns have given `xs` and those from `i` on are left.
module _ (given : List PatternTree) (whole : Option PatternTrees) (ps : List Pattern) (i : ℕ) (xs : List PatternTree) (so_far : whole
    ≡ option_map (before xs) (all_filled given (patterns_of (drop i ps)))) where
  pub filled_more : (p : Pattern) (t : PatternTree) → i < length ps → p ≡ get_or ps i p → Some t ≡ filled given (pattern_of p)
      → whole ≡ option_map (before (xs ++ t ∷ [])) (all_filled given (patterns_of (drop (i + 1) ps)))
  filled_more p t low is made =
      let split = rw (listed ps i p low is, sym made) at so_far in
      split ∙ pushed xs t (all_filled given (patterns_of (drop (i + 1) ps)))

  pub filled_stops : (p : Pattern) → i < length ps → p ≡ get_or ps i p → None ≡ filled given (pattern_of p) → None ≡ whole
  filled_stops p low is made = sym (rw (listed ps i p low is, sym made) at so_far)

  pub filled_done : length ps ≤ i → Some (pattern_list xs) ≡ whole
  filled_done low =
      let none = drop_of_length-le ps {i = i} low in
      let all = rw none at so_far in
      sym (all ∙ ap Some (before_none xs))

pub macro_free_head : (ps : List Pattern) (i : ℕ) (p : Pattern) → i < length ps → p ≡ get_or ps i p → has_macro_args (patterns_of (drop i ps)) ≡ false
    → has_macro_arg (pattern_of p) ≡ false
macro_free_head ps i p low is free =
    let split = rw (listed ps i p low is) at free in
    (neither (has_macro_arg (pattern_of p)) (has_macro_args (patterns_of (drop (i + 1) ps))) split).0

pub macro_free_rest : (ps : List Pattern) (i : ℕ) (p : Pattern) → i < length ps → p ≡ get_or ps i p → has_macro_args (patterns_of (drop i ps)) ≡ false
    → has_macro_args (patterns_of (drop (i + 1) ps)) ≡ false
macro_free_rest ps i p low is free =
    let split = rw (listed ps i p low is) at free in
    (neither (has_macro_arg (pattern_of p)) (has_macro_args (patterns_of (drop (i + 1) ps))) split).1

-- With `whole` for the templates of a list, the first patterns have made `xs` and those from `i` on are left.
module _ (names : List Ident) (whole : PatternTrees) (ps : List Pattern) (i : ℕ) (xs : List PatternTree) (so_far : whole
    ≡ before xs (template_trees names (patterns_of (drop i ps)))) where
  pub templates_more : (p : Pattern) (t : PatternTree) → i < length ps → p ≡ get_or ps i p → t ≡ template_tree names (pattern_of p)
      → whole ≡ before (xs ++ t ∷ []) (template_trees names (patterns_of (drop (i + 1) ps)))
  templates_more p t low is made =
      let split = rw (listed ps i p low is, sym made) at so_far in
      split ∙ sym (before_push xs t (template_trees names (patterns_of (drop (i + 1) ps))))

  pub templates_done : length ps ≤ i → pattern_list xs ≡ whole
  templates_done low =
      let none = drop_of_length-le ps {i = i} low in
      let all = rw none at so_far in
      sym (all ∙ before_none xs)

-- no list of patterns with a numbered argument, a place at a time
pub ruleset macro_free = (macro_free_head, macro_free_rest)
