-- What reading a rule comes to is what the judgement and the faults say.
use Rattle.std.proofs.Common.{◌≡◌, ℕ, ◌≤◌, inl, inr, List, [], ◌∷◌, None, Some, true, refl, arith, length}
use Rattle.isle_ast.specs.declared.ast.IfLet.{IfLet}
use Rattle.isle_ast.specs.declared.ast.Rule.{Rule}
use Rattle.isle_ast.specs.declared.pos.Pos.{Pos}
use Rattle.isle_ast.specs.Trees.PatternTree.{PatternTrees}
use Rattle.isle_ast.specs.Trees.PatternShape.{pattern_of}
use Rattle.isle_ast.specs.Trees.ExprShape.{expr_of}
use Rattle.isle_rules.specs.TypedRules.{built_at}
use Rattle.isle_rules.specs.Signatures.{Flags, Signature, Declared}
use Rattle.isle_rules.specs.Elaboration.{State, start, pattern_count, on_lhs, Conditions, ElaboratesRule}
use Rattle.isle_terms.specs.Reaching.{IsTooLarge}
use Rattle.isle_terms.specs.RuleReaching.{HasRoot, SomeCondition, in_argument, in_condition, in_right, IllPatternAt, IllExprAt, IsIllRule, ill_node}
use Rattle.isle_terms.specs.RuleReaching.{IsLargeRule}
use Rattle.isle_terms.specs.Inside.Readings.RuleOutcomes.{read_conditions, read_rule}
use Rattle.isle_terms.specs.Inside.Readings.KnownBy.{known_by}
use Rattle.isle_terms.specs.Inside.Readings.Telling.{Tells, rule_of_parts}
use Rattle.isle_terms.proofs.Exact.Parts.{Told, and_then_told}
use Rattle.isle_terms.proofs.Exact.Patterns.{patterns_told, each_pattern_told}
use Rattle.isle_terms.proofs.Exact.Exprs.{exprs_told}

module _ (declared : Declared) (max levels : ℕ) where
  -- conditions one after the other, under what calls there
  pub conditions_told : (caller : Flags) (trees : List IfLet) (s : State) → s.nodes ≤ max
      → Told max (Conditions declared caller levels trees s)
      (λ at. SomeCondition declared caller (IllPatternAt declared at) (IllExprAt declared at caller) levels trees s)
      (SomeCondition declared caller (λ left t ty s. IsTooLarge max left s) (λ left e want s. IsTooLarge max left s) levels trees s)
      (read_conditions (known_by declared) caller max levels trees s)
  conditions_told caller [] s fits = record { tells = ((refl, refl), fits) }
  conditions_told caller (first ∷ others) s fits =
      and_then_told _ ((exprs_told declared caller max levels).reads (expr_of first.expr) None s fits) (λ at h. inl h) (λ h. inl h)
      (λ value m h fits_value.
      and_then_told _ ((patterns_told declared max levels).reads (pattern_of first.pattern) (built_at value) m fits_value)
      (λ at k. inr (value, m, h, inl k)) (λ k. inr (value, m, h, inl k))
      (λ pattern n k fits_pattern.
      and_then_told _ (conditions_told caller others n fits_pattern) (λ at l. inr (value, m, h, inr (pattern, n, k, l)))
      (λ l. inr (value, m, h, inr (pattern, n, k, l)))
      (λ rest s' l fits_rest. record { tells = ((value, m, pattern, n, rest, h, k, l, refl), fits_rest) })))

  -- a rule whose root is well, with as many arguments as its term has, and without a priority where it is `multi`
  pub rule_told : (term : Signature) (flags : Flags) (at : Pos) (args : PatternTrees) (tree : Rule)
      → (root : HasRoot declared tree term flags args) → pattern_count args ≡ length term.args → (flags.multi ≡ true → tree.prio ≡ None)
      → Told max (λ parts s. ElaboratesRule declared levels max tree (rule_of_parts root.number tree parts s)) (IsIllRule declared levels tree)
      (IsLargeRule declared levels max tree) (read_rule (known_by declared) max levels term flags at args tree)
  rule_told term flags at args tree root arity unordered =
      and_then_told _ (each_pattern_told declared max _ _ _ _ _ (patterns_told declared max levels) at args term.args start (omega arith) arity)
      (λ place h. ill_node place (in_argument term flags args root h)) (λ h. in_argument term flags args root h)
      (λ us m left fits_left.
      and_then_told _ (conditions_told (on_lhs flags) tree.iflets m fits_left)
      (λ place h. ill_node place (in_condition term flags args us m root left h)) (λ h. in_condition term flags args us m root left h)
      (λ conditions n met fits_met.
      and_then_told _ ((exprs_told declared flags max levels).reads (expr_of tree.expr) (Some term.ret) n fits_met)
      (λ place h. ill_node place (in_right term flags args us m conditions n root left met h))
      (λ h. in_right term flags args us m conditions n root left met h)
      (λ right s h fits. record {
        tells = (
          record {
            sym = root.sym;
            args = args;
            term = term;
            flags = flags;
            matched = m;
            met = n;
            done = s;
            shape = (root.at, root.shape);
            root = root.root;
            known = root.known;
            ruled = root.ruled;
            unordered = unordered;
            left = left;
            conditions = met;
            right = h;
            within = fits;
            variables = refl;
            priority = refl;
            pos = refl;
            name = refl;
          },
          fits,
        );
      })))

-- what reading a rule comes to is so
pub rule_tells : (declared : Declared) (max levels : ℕ) (term : Signature) (flags : Flags) (at : Pos) (args : PatternTrees) (tree : Rule)
    → (root : HasRoot declared tree term flags args) → pattern_count args ≡ length term.args → (flags.multi ≡ true → tree.prio ≡ None)
    → Tells max (λ parts s. ElaboratesRule declared levels max tree (rule_of_parts root.number tree parts s)) (IsIllRule declared levels tree)
    (IsLargeRule declared levels max tree) (read_rule (known_by declared) max levels term flags at args tree)
rule_tells declared max levels term flags at args tree root arity unordered =
    let told = rule_told declared max levels term flags at args tree root arity unordered in told.tells
