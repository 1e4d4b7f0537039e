-- The rule sets of a program of files beside the trees that it has of them.
use Rattle.std.proofs.Common.{◌≡◌, ◌<◌, ◌≤◌, ◌+◌, ◌++◌, ℕ, zero, suc, List, [], ◌∷◌, length, get_or, take, refl, sym, ap, subst, arith}
use Rattle.std.specs.List.{zip}
use Rattle.std.proofs.lemmas.List.{take_all}
use Rattle.std.proofs.lemmas.Option.{slice_get_read}
use Rattle.std.proofs.lemmas.Slice.Zip.{AllZip-long, length-zip}
use Rattle.isle_ast.specs.Positions.Files.{SourceFile}
use Rattle.isle_types.specs.declared.ids.TermId.{TermId}
use Rattle.isle_blocks.specs.RuleSets.{RulesOverSites}
use Rattle.isle_blocks.specs.Trees.Shown.{BlockShown}
use Rattle.isle_program.specs.declared.program.Program.{Program}
use Rattle.isle_program.specs.Compiled.{IsProgramOf}
use Rattle.isle_program.specs.Programs.{rule_sets_of, set_trees_of}
use Rattle.isle_program.specs.Trees.{AreSetTrees, IsSetTree}
use Rattle.isle_tell.specs.TreeTexts.Names.{AreTexts}
use Rattle.isle_tell.specs.TreeTexts.Sets.{sets_and_trees}
use Rattle.isle_program.proofs.Plain.LaidOut.Told.{zip_at}
use Rattle.isle_tell.proofs.TreeTexts.Joined.{texts_next}

-- of two lists side by side there are as many pairs as there are items in both
pub pairs_within : {A B : Type 0} (xs : List A) (ys : List B) (i : ℕ) → i < length xs → i < length ys → i < length (zip xs ys)
pairs_within [] ys i low small = absurd (omega arith)
pairs_within (x ∷ xs) [] i low small = absurd (omega arith)
pairs_within (x ∷ xs) (y ∷ ys) zero low small = omega arith
pairs_within (x ∷ xs) (y ∷ ys) (suc i) low small =
    let less = pairs_within xs ys i (omega (arith, low)) (omega (arith, small)) in omega (arith, less)

-- the pair at a place
pub pair_at : {A B : Type 0} (xs : List A) (ys : List B) (i : ℕ) (x d : A) (y e : B) → i < length xs → i < length ys
    → x ≡ get_or xs i d → y ≡ get_or ys i e → ◌≡◌ {A = A × B} (x, y) (get_or (zip xs ys) i (d, e))
pair_at [] ys i x d y e low small p q = absurd (omega arith)
pair_at (a ∷ xs) [] i x d y e low small p q = absurd (omega arith)
pair_at (a ∷ xs) (b ∷ ys) zero x d y e low small p q = λ k. (p k, q k)
pair_at (a ∷ xs) (b ∷ ys) (suc i) x d y e low small p q = pair_at xs ys i x d y e (omega (arith, low)) (omega (arith, small)) p q

module _ (files : List SourceFile) (program : Program) (is : IsProgramOf files program) (sets : List (TermId × RulesOverSites))
    (trees : List BlockShown) (own_sets : sets ≡ rule_sets_of program) (own_trees : trees ≡ set_trees_of program) where
  -- each set has its tree
  each_has : AreSetTrees sets trees
  each_has = subst (λ (l : List BlockShown). AreSetTrees sets l) (sym own_trees)
      (subst (λ (l : List (TermId × RulesOverSites)). AreSetTrees l (set_trees_of program)) (sym own_sets) is.trees)

  pub as_many : length trees ≡ length sets
  as_many = AllZip-long (λ (set : TermId × RulesOverSites). IsSetTree set.1) sets trees each_has

  -- the tree at a place is that of the set there
  pub tree_at : (i : ℕ) (set : TermId × RulesOverSites) (tree : BlockShown) → i < length sets → set ≡ get_or sets i set → tree ≡ get_or trees i tree
      → IsSetTree set.1 tree
  tree_at i set tree low set_is tree_is =
      let small : i < length trees = let many = as_many in omega (arith, low, many) in
      zip_at (λ (s : TermId × RulesOverSites). IsSetTree s.1) sets trees each_has i set tree
      (slice_get_read sets (length sets) i set refl low set_is) (slice_get_read trees (length trees) i tree refl small tree_is)

  -- the texts of the sets and trees before a place, and that of those there
  pub entry_next : (Is : (TermId × RulesOverSites) × BlockShown → List ℕ → Type 0) (i : ℕ) (set : TermId × RulesOverSites) (tree : BlockShown)
      → i < length sets → set ≡ get_or sets i set → tree ≡ get_or trees i tree → (old text new : List ℕ)
      → AreTexts Is (take i (sets_and_trees program)) old → Is (set, tree) text → new ≡ old ++ text
      → AreTexts Is (take (i + 1) (sets_and_trees program)) new
  entry_next Is i set tree low set_is tree_is old text new before told written =
      let small : i < length trees = let many = as_many in omega (arith, low, many) in
      let same : zip sets trees ≡ sets_and_trees program = (λ k. zip (own_sets k) (own_trees k)) in
      let all = zip sets trees in
      subst (λ (l : List ((TermId × RulesOverSites) × BlockShown)). AreTexts Is (take (i + 1) l) new) same
      (texts_next Is all i (set, tree) (pairs_within sets trees i low small) (pair_at sets trees i set set tree tree low small set_is tree_is)
      old text new (subst (λ (l : List ((TermId × RulesOverSites) × BlockShown)). AreTexts Is (take i l) old) (sym same) before) told written)

  -- the texts of the sets and trees before a place past the last are those of all
  pub entries_all : (Is : (TermId × RulesOverSites) × BlockShown → List ℕ → Type 0) (i : ℕ) → length sets ≤ i → (text : List ℕ)
      → AreTexts Is (take i (sets_and_trees program)) text → AreTexts Is (sets_and_trees program) text
  entries_all Is i past text told =
      let long = length-zip (rule_sets_of program) (set_trees_of program) in
      let same : length sets ≡ length (rule_sets_of program) = ap (λ (l : List (TermId × RulesOverSites)). length l) own_sets in
      subst (λ (l : List ((TermId × RulesOverSites) × BlockShown)). AreTexts Is l text)
      (take_all i (sets_and_trees program) (omega (arith, long, same, past))) told
