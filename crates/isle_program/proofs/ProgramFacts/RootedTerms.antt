-- A term is the root of a rule where some are tried for it.
use Rattle.std.proofs.Common.{◌≡◌, ℕ, suc, Bool, true, false, List, [], ◌∷◌, Contains, arith, refl, sym, ap, ◌∙◌}
use Rattle.std.specs.Prelude.{◌==◌, not, length}
use Rattle.std.specs.List.{list_any}
use Rattle.std.proofs.lemmas.Bool.{eqb-true, eq-eqb}
use Rattle.isle_containers.proofs.MergedTables.{any-map}
use Rattle.isle_rules.specs.TypedRules.{TypedRule}
use Rattle.isle_meaning.specs.PlainRuns.{AreTriedInOrder}
use Rattle.isle_meaning.proofs.Spelling.Ordered.{any_at, at_any}
use Rattle.isle_program.specs.declared.program.Program.{Program}
use Rattle.isle_program.specs.Facts.Reach.{is_root}
use Rattle.isle_program.specs.Meanings.{checked, rule_shown}
use Rattle.isle_program.specs.Programs.{types_of, terms_of}

-- whether a rule is of a term
abbrev of_term : ℕ → TypedRule → Bool
of_term t rule = rule.root == t

-- a term is the root of a rule as it is shown
root_shown : (program : Program) (t : ℕ) → list_any (of_term t) (checked program).rules ≡ is_root (terms_of program) t
root_shown program t = any-map (of_term t) (rule_shown (types_of program).names) (terms_of program).rules

-- it is one exactly where rules are listed for it
pub root_listed : (program : Program) (t : ℕ) (places : List ℕ) → AreTriedInOrder (checked program) t places
    → not (length places == 0) ≡ is_root (terms_of program) t
root_listed program t [] tried = by (list_any (of_term t) (checked program).rules) refl ∙ root_shown program t
  where
    by : (b : Bool) → list_any (of_term t) (checked program).rules ≡ b → false ≡ list_any (of_term t) (checked program).rules
    by false is = sym is
    by true is =
        let (i, rule, at, root) = any_at (of_term t) (checked program).rules is in
        absurd (none i ((tried.all i).1 (rule, record { listed = at; of_term = eqb-true rule.root t root })))
      where
        none : (i : ℕ) → Contains [] i → ⊥
        none i (n, less, here) = absurd (omega (arith, less))
root_listed program t (i ∷ places) tried =
    let (rule, at) = (tried.all i).0 (0, omega arith, refl) in
    some (length places) (length (i ∷ places) == 0) refl
    ∙ sym (at_any (of_term t) (checked program).rules i rule at.listed (eq-eqb rule.root t at.of_term)) ∙ root_shown program t
  where
    some : (n : ℕ) (b : Bool) → (suc n == 0) ≡ b → not (suc n == 0) ≡ true
    some n false is = ap not is
    some n true is = let zero : suc n ≡ 0 = eqb-true (suc n) 0 is in absurd (omega (arith, zero))
