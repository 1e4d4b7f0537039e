-- What makes a site, by the rule that opens it.
use Rattle.std.proofs.Common.{◌≡◌, ◌≢◌, ◌<◌, inl, inr, ℕ, false, List, Option, Some, None, slice_get, slice_index_or, refl, sym, ap, subst}
use Rattle.isle_trees.specs.Rules.{Want, Source}
use Rattle.isle_trees.specs.Scopes.{is_want}
use Rattle.isle_trees.specs.Search.{is_made, same_wants}
use Rattle.isle_trees.proofs.Basics.{true_or, is_want_is}
use Rattle.isle_blocks.specs.declared.binding.Binding.{Binding}
use Rattle.isle_blocks.specs.declared.binding.Binding.TheVariants as sites
use Rattle.isle_blocks.specs.declared.constraint.Constraint.{Constraint}
use Rattle.isle_blocks.specs.declared.rule.Rule.{Rule}
use Rattle.isle_blocks.specs.declared.serializer.known.Known.{Known}
use Rattle.isle_blocks.specs.RuleSets.{RulesOverSites}
use Rattle.isle_blocks.specs.Trees.View.{made_by, read_or}
use Rattle.isle_blocks.specs.Inside.Trees.Builder.{AreOpeners, rules_in, scope_of, source_in, want_by}
use Rattle.isle_blocks.proofs.Trees.Order.{same_is}

-- What is made by a test has the test's site as its source.
pub made_from_source : (rules : List Rule) (o : Option Binding) (s : ℕ) → source_in o ≡ Some s
    → (m : Source Constraint) × (read_or None (made_by rules) o ≡ Some m) × (m.site ≡ s)
made_from_source rules None s e = cc
made_from_source rules (Some (sites.ConstBool val ty)) s e = cc
made_from_source rules (Some (sites.ConstInt val ty)) s e = cc
made_from_source rules (Some (sites.ConstPrim val)) s e = cc
made_from_source rules (Some (sites.Argument index)) s e = cc
made_from_source rules (Some (sites.Extractor term parameter)) s e = cc
made_from_source rules (Some (sites.Constructor term parameters instance)) s e = cc
made_from_source rules (Some (sites.Iterator source)) s e = (_, refl, cc)
made_from_source rules (Some (sites.MakeVariant ty variant fields)) s e = cc
made_from_source rules (Some (sites.MatchVariant source variant field)) s e = (_, refl, cc)
made_from_source rules (Some (sites.MakeStruct ty fields)) s e = cc
made_from_source rules (Some (sites.ExtractStruct source field)) s e = (_, refl, cc)
made_from_source rules (Some (sites.MakeSome inner)) s e = cc
made_from_source rules (Some (sites.MatchSome source)) s e = (_, refl, cc)
made_from_source rules (Some (sites.MatchTuple source field)) s e = cc

-- what no rule wants, no rule's want is
unwanted : (set : RulesOverSites) (o : Option ℕ) (y : ℕ) (w : Want Constraint) → want_by set o y ≡ Some w
    → ((i : ℕ) → (rules_in set).at i y ≢ Some w) → ⊥
unwanted set None y w e n = cc
unwanted set (Some j) y w e n = n j e

module _ (set : RulesOverSites) (n : ℕ) (openers : ℕ → Option ℕ) (known : Known) (h : AreOpeners set n openers) (x s : ℕ)
    (from : source_in (slice_get set.sites x) ≡ Some s) where
  -- where a rule's want of it was met, and a rule opens the site
  pub made_opened : (i j : ℕ) → openers x ≡ Some i → slice_index_or known.passed s None ≡ Some j
      → same_wants (rules_in set).tests ((rules_in set).at i s) ((rules_in set).at j s) ≡ is_made (rules_in set).tests
      (scope_of set known) ((rules_in set).made x)
  made_opened i j o e =
      let (m, made, at) = made_from_source set.rules (slice_get set.sites x) s from in
      let opens = subst (λ (y : ℕ). (rules_in set).at i y ≡ Some m.want) at (h.first x i m made o) in
      let passed : want_by set (slice_index_or known.passed m.site None) m.site ≡ (rules_in set).at j s =
      subst (λ (y : ℕ). want_by set (slice_index_or known.passed y None) y ≡ (rules_in set).at j s) (sym at)
      (ap (λ (o : Option ℕ). want_by set o s) e) in
      rw made (rw opens (sym (ap (λ (o : Option (Want Constraint)). is_want (rules_in set).tests m.want o) passed)))

  -- where no rule opens it
  pub made_unopened : x < n → openers x ≡ None → is_made (rules_in set).tests (scope_of set known) ((rules_in set).made x) ≡ false
  made_unopened l o =
      let (m, made, at) = made_from_source set.rules (slice_get set.sites x) s from in
      let sc = scope_of set known in
      rw made (elim (true_or (is_want (rules_in set).tests m.want (sc.passed m.site))) [
        | inl e ↦
            let met : sc.passed m.site ≡ Some m.want = is_want_is (rules_in set).tests m.want (sc.passed m.site) same_is e in
            absurd (unwanted set (slice_index_or known.passed m.site None) m.site m.want met (λ i. h.none x i m l made o))
        | inr e ↦ e
      ])
