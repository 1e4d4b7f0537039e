-- The terms with rules as a list.
use Rattle.std.proofs.Common.{◌≡◌, ℕ, Bool, true, false, List, map, refl, sym, subst, eq-eqb}
use Rattle.std.specs.Prelude.{◌==◌, Contains}
use Rattle.std.specs.List.{list_any}
use Rattle.std.proofs.lemmas.Bool.{eqb-true}
use Rattle.std.proofs.lemmas.List.Folds.{list_any_at}
use Rattle.isle_types.specs.declared.ids.TermId.{TermId}
use Rattle.isle_rules.specs.Shown.TermTables.{TermTables}
use Rattle.isle_blocks.specs.DefinedSets.{ListsNumbers}
use Rattle.isle_program.specs.Facts.Asked.{term_number, AreRoots}
use Rattle.isle_program.specs.Facts.Reach.{is_root}
use Rattle.isle_program.proofs.ProgramFacts.InhabitedMarks.{found}

-- truth values that are true together are the same
together : (a b : Bool) → (a ≡ true → b ≡ true) → (b ≡ true → a ≡ true) → a ≡ b
together true b f g = sym (f refl)
together false true f g = g refl
together false false f g = refl

-- a number is in a list where one of the list's equals it
is_in : (numbers : List ℕ) (n : ℕ) → list_any (λ m. m == n) numbers ≡ true → Contains numbers n
is_in numbers n any =
    let (m, among, same) = found (λ k. k == n) numbers any in subst (λ (k : ℕ). Contains numbers k) (eqb-true m n same) among

in_any : (numbers : List ℕ) (n : ℕ) → Contains numbers n → list_any (λ m. m == n) numbers ≡ true
in_any numbers n (k, within, is) = list_any_at (λ m. m == n) numbers k n within (eq-eqb _ n is)

pub are_roots : (env : TermTables) (terms : List TermId) → ListsNumbers (λ n. is_root env n ≡ true) (map term_number terms) → AreRoots env terms
are_roots env terms lists = record {
  listed = λ n. together (list_any (λ m. m == n) (map term_number terms)) (is_root env n)
      (λ any. (lists.all n).0 (is_in (map term_number terms) n any)) (λ root. in_any (map term_number terms) n ((lists.all n).1 root));
  ascending = lists.ascending;
}
