-- What is told of the calls of terms one after another.
use Rattle.std.proofs.Common.{◌≡◌, ◌==◌, ◌++◌, ◌&&◌, ◌||◌, ◌∙◌, not, ℕ, Bool, true, false, List, [], ◌∷◌, map, refl, sym, ap₂, subst, append_assoc, eqb-true, true≢false}
use Rattle.std.specs.List.{list_any}
use Rattle.std.proofs.lemmas.List.{append-nil}
use Rattle.isle_ast.specs.Positions.Files.{SourceFile}
use Rattle.isle_types.specs.declared.ids.TermId.{TermId}
use Rattle.isle_program.specs.declared.program.Program.{Program}
use Rattle.isle_program.specs.Facts.Asked.{term_number}
use Rattle.isle_program.specs.Meanings.{checked, may_run}
use Rattle.isle_program.specs.Programs.{terms_of}
use Rattle.isle_rules.specs.Shown.TermTables.{is_multi_in}
use Rattle.isle_coverage.specs.Covered.{IsNeverStuck}
use Rattle.islec.specs.Missing.{AreCallsTold, IsNeverStuckTerm, TellsTerm, is_judged, no_terms, more_terms}
use Rattle.islec.specs.Inside.Stuck.{AreNeverStuck}
use Rattle.islec.specs.declared.missing.Judging.{Judging}

-- one more term
pub told_more : (files : List SourceFile) (program : Program) (judging : Judging) (terms : List TermId) (texts : List ℕ)
    (term : TermId) (text : List ℕ) → AreCallsTold files program judging terms texts → TellsTerm files program judging term text
    → AreCallsTold files program judging (terms ++ term ∷ []) (texts ++ text)
told_more files program judging _ _ term text no_terms is =
    subst (AreCallsTold files program judging (term ∷ [])) (append-nil text) (more_terms is no_terms)
told_more files program judging (first ∷ terms) _ term text (more_terms {text = l} {texts = ls} one rest) is =
    subst (AreCallsTold files program judging (first ∷ (terms ++ term ∷ []))) (sym (append_assoc l ls text))
    (more_terms one (told_more files program judging terms ls term text rest is))

pub never_more : (program : Program) (terms : List TermId) (term : TermId) → AreNeverStuck program terms → IsNeverStuckTerm program term
    → AreNeverStuck program (terms ++ term ∷ [])
never_more program [] term all one = (one, tt)
never_more program (first ∷ terms) term all one = (all.0, never_more program terms term all.1 one)

-- a term that isn't judged is harmless: if it can be run it isn't multi, and so it is partial
pub passed_over_is_harmless : (program : Program) (judging : Judging) (term : TermId) (harmless : Bool)
    → (harmless ≡ false → may_run program term.0) → (harmless ≡ false → (checked program).terms.partial term.0 ≡ false)
    → is_judged program judging term ≡ false → harmless ≡ true
passed_over_is_harmless program judging term true runs answers other = refl
passed_over_is_harmless program judging term false runs answers other =
    let single = no_first (is_multi_in (terms_of program) term.0) _ (runs refl).free in
    absurd (true≢false (sym (any_or_true judging.partial)
    ∙ sym (ap₂ (λ (m p : Bool). not m && (judging.partial || not p)) single (answers refl)) ∙ other))
  where
    no_first : (a b : Bool) → (a || b) ≡ false → a ≡ false
    no_first true b is = absurd (true≢false is)
    no_first false b is = refl

    any_or_true : (a : Bool) → (a || true) ≡ true
    any_or_true true = refl
    any_or_true false = refl

-- two texts one behind the other are nothing only where both are
pub both_nothing : (first second : List ℕ) → first ++ second ≡ [] → (first ≡ []) × (second ≡ [])
both_nothing [] second is = (refl, is)
both_nothing (x ∷ first) second is = absurd cc

-- one of the terms
pub one_of_them : (program : Program) (terms : List TermId) (n : ℕ) → AreNeverStuck program terms
    → list_any (λ number. number == n) (map term_number terms) ≡ true → may_run program n → IsNeverStuck (checked program) n
one_of_them program [] n all has runs = absurd (true≢false (sym has))
one_of_them program (first ∷ terms) n all has runs = go (first.0 == n) refl has (λ rest. one_of_them program terms n all.1 rest runs)
  where
    go : (b : Bool) → (first.0 == n) ≡ b → (b || list_any (λ number. number == n) (map term_number terms)) ≡ true
        → (list_any (λ number. number == n) (map term_number terms) ≡ true → IsNeverStuck (checked program) n) → IsNeverStuck (checked program) n
    go true same has other = subst (λ (m : ℕ). may_run program m → IsNeverStuck (checked program) m) (eqb-true first.0 n same) all.0 runs
    go false same has other = other has
