-- Marks of the terms of rules, as they are set one by one.
use Rattle.std.proofs.Common.{◌≡◌, ◌<◌, ◌+◌, inl, inr, ℕ, zero, suc, Bool, true, false, List, [], ◌∷◌, length, set, take, get_or}
use Rattle.std.proofs.Common.{replicate, refl, sym, ◌∙◌, ap, subst, arith, eq-eqb}
use Rattle.std.specs.Prelude.{◌==◌, ◌||◌, All, slice_get, map}
use Rattle.std.specs.List.{list_any}
use Rattle.std.proofs.Math.Bool.{or-false, or-true, or_assoc}
use Rattle.std.proofs.lemmas.Bool.{cases_eq, ne_eqb}
use Rattle.std.proofs.lemmas.List.{length-set, get_or_past, get_or-set_same, get_or-set_other}
use Rattle.std.proofs.lemmas.List.Folds.{list_any_more}
use Rattle.std.proofs.Math.Seq.{take-length}
use Rattle.std.specs.Option.{option_map_or}
use Rattle.isle_rules.specs.declared.rules.Rule.{Rule}
use Rattle.isle_rules.specs.declared.terms.Term.{Term}
use Rattle.isle_rules.specs.Shown.TermTables.{TermTables}
use Rattle.isle_rules.specs.Shown.TermTables.{is_multi_kind, is_multi_in}

-- a mark is set or was
set_or : (marks : List Bool) (n k : ℕ) → n < length marks → get_or (set marks n true) k false ≡ (get_or marks k false || (n == k))
set_or marks n k within = elim (cases_eq n k) [
  | inl same ↦ ap (λ (x : ℕ). get_or (set marks n true) x false) (sym same) ∙ get_or-set_same marks n true false within
      ∙ sym (or-true (get_or marks k false)) ∙ ap (λ b. get_or marks k false || b) (sym (eq-eqb n k same))
  | inr other ↦ get_or-set_other marks n k true false (λ e. other (sym e)) ∙ sym (or-false (get_or marks k false))
      ∙ ap (λ b. get_or marks k false || b) (sym (ne_eqb n k other))
]

-- a fact of each rule, at one
pub rule_at : (P : Rule → Type 0) (rules : List Rule) (place : ℕ) (rule : Rule) → place < length rules → rule ≡ get_or rules place rule
    → All P rules → P rule
rule_at P rules place rule within is all = subst P (sym is) (all place rule within)

module _ (rules : List Rule) (test : ℕ → Rule → Bool) (first : List Bool) where
  -- the marks of the numbers that were marked first, and of those for which a rule before a place passes the test
  pub record AreMarkedBefore (end : ℕ) (now : List Bool) : Type 0 where
    pub fits : length now ≡ length first
    pub each : (n : ℕ) → get_or now n false ≡ (get_or first n false || list_any (test n) (take end rules))

  pub marked_first : AreMarkedBefore 0 first
  marked_first = record { fits = refl; each = λ n. sym (or-false (get_or first n false)) }

  -- one more rule
  more : (place : ℕ) (rule : Rule) (n : ℕ) → place < length rules → rule ≡ get_or rules place rule
      → list_any (test n) (take (place + 1) rules) ≡ (list_any (test n) (take place rules) || test n rule)
  more place rule n within is =
      list_any_more (test n) rules place rule within ∙ ap (λ (r : Rule). list_any (test n) (take place rules) || test n r) (sym is)

  pub marked_set : (place : ℕ) (rule : Rule) (now : List Bool) → place < length rules → rule ≡ get_or rules place rule
      → rule.root_term.0 < length first → ((n : ℕ) → test n rule ≡ (rule.root_term.0 == n)) → AreMarkedBefore place now
      → AreMarkedBefore (place + 1) (set now rule.root_term.0 true)
  marked_set place rule now within is inside passes before = record {
    fits = length-set now rule.root_term.0 true ∙ before.fits;
    each = λ n. set_or now rule.root_term.0 n (let fits = before.fits in omega arith) ∙ ap (λ b. get_or now n false || b) (sym (passes n))
        ∙ ap (λ b. b || test n rule) (before.each n) ∙ or_assoc (get_or first n false) (list_any (test n) (take place rules))
        (test n rule) ∙ ap (λ b. get_or first n false || b) (sym (more place rule n within is));
  }

  pub marked_same : (place : ℕ) (rule : Rule) (now : List Bool) → place < length rules → rule ≡ get_or rules place rule
      → ((n : ℕ) → test n rule ≡ false) → AreMarkedBefore place now → AreMarkedBefore (place + 1) now
  marked_same place rule now within is fails before = record {
    fits = before.fits;
    each = λ n. sym (or-false (get_or now n false)) ∙ ap (λ b. get_or now n false || b) (sym (fails n))
        ∙ ap (λ b. b || test n rule) (before.each n) ∙ or_assoc (get_or first n false) (list_any (test n) (take place rules))
        (test n rule) ∙ ap (λ b. get_or first n false || b) (sym (more place rule n within is));
  }

  pub marked_last : (end : ℕ) (now : List Bool) → end ≡ length rules → AreMarkedBefore end now → (n : ℕ)
      → get_or now n false ≡ (get_or first n false || list_any (test n) rules)
  marked_last end now is last n = last.each n
      ∙ ap (λ (rules_done : List Rule). get_or first n false || list_any (test n) rules_done) (ap (λ k. take k rules) is ∙ take-length rules)

-- the marks of the multi terms
multi_at : (terms : List Term) (n : ℕ)
    → get_or (map (λ (term : Term). is_multi_kind term.kind) terms) n false ≡ option_map_or (λ (term : Term). is_multi_kind term.kind)
    (slice_get terms n) false
multi_at [] n = get_or_past [] n false (omega arith)
multi_at (x ∷ xs) zero = refl
multi_at (x ∷ xs) (suc n) = multi_at xs n

pub multi_marks : (env : TermTables) (n : ℕ) → get_or (map (λ (term : Term). is_multi_kind term.kind) env.terms) n false ≡ is_multi_in env n
multi_marks env n = multi_at env.terms n

-- no mark is set yet
pub no_mark : (count n : ℕ) → get_or (replicate count false) n false ≡ false
no_mark zero n = get_or_past [] n false (omega arith)
no_mark (suc count) zero = refl
no_mark (suc count) (suc n) = no_mark count n
