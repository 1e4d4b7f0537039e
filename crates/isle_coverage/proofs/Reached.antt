-- Marks that rules keep cover what is reached.
use Rattle.std.proofs.Common.{◌≡◌, ◌∙◌, ◌==◌, ◌||◌, inl, inr, ℕ, Bool, true, false, List, [], ◌∷◌, map, refl, sym, subst, eqb-true, true≢false}
use Rattle.std.specs.Prelude.{All}
use Rattle.std.specs.List.{list_any}
use Rattle.std.proofs.lemmas.List.Elements.{All-contains, All-head, All-tail}
use Rattle.isle_types.specs.declared.ids.TermId.{TermId}
use Rattle.isle_program.specs.declared.program.Program.{Program}
use Rattle.isle_program.specs.Facts.Asked.{AreRoots, term_number}
use Rattle.isle_program.specs.Facts.Reach.{MakesValues, Reaches, at_once, onwards}
use Rattle.isle_program.specs.Meanings.{checked, may_run}
use Rattle.isle_program.specs.Programs.{rules_in, terms_of, types_of}
use Rattle.isle_coverage.specs.Covered.{IsNeverStuck}
use Rattle.isle_coverage.specs.Stuck.{AreNeverStuck, MayCome}
use Rattle.isle_coverage.specs.Inside.Reached.{IsFine, IsMarked, KeepsMarks}

module _ (program : Program) (marks : List Bool) (kept : All (KeepsMarks marks) (rules_in program)) where
  -- what a marked term makes values by is marked
  made_is_marked : (from to : ℕ) → MakesValues (types_of program) (terms_of program) from to → IsMarked marks from → IsMarked marks to
  made_is_marked from to makes marked =
      let names = (types_of program).names in
      let own = All-contains (KeepsMarks marks) (rules_in program) makes.rule kept makes.among in
      All-contains (IsMarked marks) _ to (own (subst (IsMarked marks) (sym makes.root) marked) names) makes.made

  -- so is what it reaches
  reached_is_marked : (from to : ℕ) → Reaches (types_of program) (terms_of program) from to → IsMarked marks from → IsMarked marks to
  reached_is_marked from to (at_once makes) marked = made_is_marked from to makes marked
  reached_is_marked from to (onwards {middle = middle} makes reaches) marked =
      reached_is_marked middle to reaches (made_is_marked from middle makes marked)

  comes_is_marked : (from to : ℕ) → MayCome program from to → IsMarked marks from → IsMarked marks to
  comes_is_marked from to (inl is) marked = subst (IsMarked marks) (sym is) marked
  comes_is_marked from to (inr reaches) marked = reached_is_marked from to reaches marked

-- reaching goes on
reaches_on : (program : Program) (a b c : ℕ) → Reaches (types_of program) (terms_of program) a b → Reaches (types_of program) (terms_of program) b c
    → Reaches (types_of program) (terms_of program) a c
reaches_on program a b c (at_once makes) more = onwards makes more
reaches_on program a b c (onwards {middle = middle} makes rest) more = onwards makes (reaches_on program middle b c rest more)

-- where a term can be run, so can each term with rules that it reaches
runs_on : (program : Program) (t u : ℕ) → MayCome program t u → may_run program t → (checked program).has_rules u ≡ true → may_run program u
runs_on program t u (inl is) runs has = subst (may_run program) (sym is) runs
runs_on program t u (inr reaches) runs has = record {
  rules = has;
  free = runs.reached u reaches;
  reached = λ to more. runs.reached to (reaches_on program t u to reaches more);
}

-- one of the terms with rules
one_of_roots : (program : Program) (marks : List Bool) (terms : List TermId) (u : ℕ) → All (IsFine program marks) terms
    → list_any (λ number. number == u) (map term_number terms) ≡ true → IsMarked marks u → may_run program u → IsNeverStuck (checked program) u
one_of_roots program marks [] u fine has marked runs = absurd (true≢false (sym has))
one_of_roots program marks (first ∷ others) u fine has marked runs =
    go (first.0 == u) refl has (λ rest. one_of_roots program marks others u (All-tail (IsFine program marks) first others fine) rest marked runs)
  where
    go : (b : Bool) → (first.0 == u) ≡ b → (b || list_any (λ number. number == u) (map term_number others)) ≡ true
        → (list_any (λ number. number == u) (map term_number others) ≡ true → IsNeverStuck (checked program) u) → IsNeverStuck (checked program) u
    go true same has other =
        subst (λ (n : ℕ). IsMarked marks n → may_run program n → IsNeverStuck (checked program) n) (eqb-true first.0 u same)
        (All-head (IsFine program marks) first others fine) marked runs
    go false same has other = other has

-- Where marks are kept and a term is marked, and each marked term with rules is covered or partial, no call of it is ever stuck.
pub never_stuck_where_marked : (program : Program) (marks : List Bool) → All (KeepsMarks marks) (rules_in program)
    → (roots : List TermId) → AreRoots (terms_of program) roots → All (IsFine program marks) roots
    → (t : ℕ) → IsMarked marks t → may_run program t → AreNeverStuck program t
never_stuck_where_marked program marks kept roots are fine t marked runs u comes has =
    one_of_roots program marks roots u fine (are.listed u ∙ has) (comes_is_marked program marks kept t u comes marked)
    (runs_on program t u comes runs has)
