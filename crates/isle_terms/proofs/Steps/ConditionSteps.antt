-- The steps of reading conditions, as the code takes them.
use Rattle.std.proofs.Common.{◌≡◌, ℕ, suc, ◌+◌, ◌<◌, List, [], ◌∷◌, ◌++◌, append_assoc, None}
use Rattle.std.proofs.Common.{length, drop, get_or, refl, sym, ap, ◌∙◌, add-one, drop-cons}
use Rattle.isle_ast.specs.declared.ast.IfLet.{IfLet}
use Rattle.isle_ast.specs.Trees.PatternShape.{pattern_of}
use Rattle.isle_ast.specs.Trees.ExprShape.{expr_of}
use Rattle.isle_rules.specs.TypedRules.{TypedPattern, TypedExpr, TypedIfLet, built_at}
use Rattle.isle_rules.specs.Signatures.{Flags}
use Rattle.isle_rules.specs.Elaboration.{State}
use Rattle.isle_terms.specs.Inside.Readings.Outcomes.{Outcome, stands_for, ill_at, exceeds, Known, and_then, read_pattern, read_expr}
use Rattle.isle_terms.specs.Inside.Readings.RuleOutcomes.{read_conditions}
use Rattle.isle_terms.specs.Inside.Readings.ConditionReading.{read_condition}

-- what follows a pattern follows the condition
pattern_then : (value : TypedExpr) (o : Outcome TypedPattern) (next : TypedIfLet → State → Outcome (List TypedIfLet))
    → and_then o (λ pattern n. next (record { pattern = pattern; value = value }) n)
    ≡ and_then (and_then o (λ pattern n. stands_for (record { pattern = pattern; value = value }) n)) next
pattern_then value (stands_for pattern n) next = refl
pattern_then value (ill_at at) next = refl
pattern_then value exceeds next = refl

value_then : (o : Outcome TypedExpr) (match : TypedExpr → State → Outcome TypedPattern) (next : TypedIfLet → State → Outcome (List TypedIfLet))
    → and_then o (λ value m. and_then (match value m) (λ pattern n. next (record { pattern = pattern; value = value }) n))
    ≡ and_then (and_then o (λ value m. and_then (match value m) (λ pattern n. stands_for (record { pattern = pattern; value = value }) n))) next
value_then (stands_for value m) match next = pattern_then value (match value m) next
value_then (ill_at at) match next = refl
value_then exceeds match next = refl

-- what was read, before what others come to
abbrev pub after_conditions : List TypedIfLet → Outcome (List TypedIfLet) → Outcome (List TypedIfLet)
after_conditions done o = and_then o (λ others s. stands_for (done ++ others) s)

pushed : (done : List TypedIfLet) (last : TypedIfLet) (o : Outcome (List TypedIfLet))
    → after_conditions done (and_then o (λ others s. stands_for (last ∷ others) s)) ≡ after_conditions (done ++ last ∷ []) o
pushed done last (stands_for others s) = ap (λ v. stands_for v s) (sym (append_assoc done (last ∷ []) others))
pushed done last (ill_at at) = refl
pushed done last exceeds = refl

module _ (known : Known) (caller : Flags) (max levels : ℕ) where
  -- the first condition, and then the others
  first_then : (first : IfLet) (others : List IfLet) (s : State) → read_conditions known caller max levels (first ∷ others) s
      ≡ and_then (read_condition known caller max levels first s) (λ made n.
      and_then (read_conditions known caller max levels others n) (λ rest e. stands_for (made ∷ rest) e))
  first_then first others s =
      value_then (read_expr known caller max levels (expr_of first.expr) None s)
      (λ value m. read_pattern known max levels (pattern_of first.pattern) (built_at value) m)
      (λ made n. and_then (read_conditions known caller max levels others n) (λ rest e. stands_for (made ∷ rest) e))

  -- the condition at a place, and those behind it
  condition_at : (trees : List IfLet) (i : ℕ) (tree : IfLet) (s : State) → i < length trees → tree ≡ get_or trees i tree
      → read_conditions known caller max levels (drop i trees) s
      ≡ and_then (read_condition known caller max levels tree s) (λ made n.
      and_then (read_conditions known caller max levels (drop (i + 1) trees) n) (λ rest e. stands_for (made ∷ rest) e))
  condition_at trees i tree s within is =
      let cut : drop i trees ≡ tree ∷ drop (i + 1) trees = rw add-one (drop-cons trees i tree within ∙ ap (λ x. x ∷ drop (suc i) trees) (sym is)) in
      ap (λ (ts : List IfLet). read_conditions known caller max levels ts s) cut ∙ first_then tree (drop (i + 1) trees) s

  pub next_met : (whole : Outcome (List TypedIfLet)) (done : List TypedIfLet) (made : TypedIfLet) (trees : List IfLet) (i : ℕ) (tree : IfLet)
      (s m : State) → i < length trees → tree ≡ get_or trees i tree → read_condition known caller max levels tree s ≡ stands_for made m
      → whole ≡ after_conditions done (read_conditions known caller max levels (drop i trees) s)
      → whole ≡ after_conditions (done ++ made ∷ []) (read_conditions known caller max levels (drop (i + 1) trees) m)
  next_met whole done made trees i tree s m within is read so_far =
      so_far ∙ ap (after_conditions done) (condition_at trees i tree s within is
      ∙ ap (λ (o : Outcome TypedIfLet). and_then o (λ made n.
      and_then (read_conditions known caller max levels (drop (i + 1) trees) n) (λ rest e. stands_for (made ∷ rest) e))) read)
      ∙ pushed done made _
