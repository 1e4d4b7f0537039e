-- Items of trees, and what is made of them under symbols of their names.
use Rattle.std.proofs.Common.{◌≡◌, ℕ, zero, suc, ◌+◌, ◌<◌, List, [], ◌∷◌, ◌++◌, take, map, Some, length, refl, ap, sym, subst, ◌∙◌, slice_get}
use Rattle.std.proofs.lemmas.List.{length-map}
use Rattle.std.specs.List.{AllZip}
use Rattle.std.proofs.lemmas.Option.{same_Some, none-some, slice_get_within}
use Rattle.isle_types.specs.declared.ids.Sym.{Sym}
use Rattle.isle_types.specs.Names.{AreDistinct, IsDuplicate, KeepsNames}
use Rattle.std.proofs.lemmas.Slice.Zip.{all_zipped_more}
use Rattle.isle_containers.proofs.Lists.{taken_more, AllZip-weaker}
use Rattle.isle_types.specs.TypeEnvs.{symbol_at}

module _ {A B : Type 0} (f : A → List ℕ) (g : B → Sym) (names : List (List ℕ)) where
  -- each tree's name is that of the symbol of what is made of it
  abbrev pub AreNamed : List A → List B → Type 0
  AreNamed trees made = AllZip (λ tree item. slice_get names (g item).0 ≡ Some (f tree)) trees made

  -- what is made of a tree has its place, and a symbol of its name
  made_at : (trees : List A) (made : List B) → AreNamed trees made → (place : ℕ) (name : List ℕ) → slice_get (map f trees) place ≡ Some name
      → (symbol : Sym) × (slice_get (map g made) place ≡ Some symbol) × (slice_get names symbol.0 ≡ Some name)
  made_at [] made named place name at = absurd (none-some name at)
  made_at (tree ∷ trees) [] named place name at = absurd named
  made_at (tree ∷ trees) (item ∷ made) named zero name at = (g item, refl, named.0 ∙ at)
  made_at (tree ∷ trees) (item ∷ made) named (suc place) name at = made_at trees made named.1 place name at

  tree_at : (trees : List A) (made : List B) → AreNamed trees made → (place : ℕ) (symbol : Sym) → slice_get (map g made) place ≡ Some symbol
      → (name : List ℕ) × (slice_get (map f trees) place ≡ Some name) × (slice_get names symbol.0 ≡ Some name)
  tree_at trees [] named place symbol at = absurd (none-some symbol at)
  tree_at [] (item ∷ made) named place symbol at = absurd named
  tree_at (tree ∷ trees) (item ∷ made) named zero symbol at =
      (f tree, refl, subst (λ (s : Sym). slice_get names s.0 ≡ Some (f tree)) (same_Some (g item) symbol at) named.0)
  tree_at (tree ∷ trees) (item ∷ made) named (suc place) symbol at = tree_at trees made named.1 place symbol at

  -- where the symbols stand once, so do the names
  pub once_through : AreDistinct names → (trees : List A) (made : List B) → AreNamed trees made → AreDistinct (map g made) → AreDistinct (map f trees)
  once_through unique trees made named once = λ name i j at_i at_j.
      let first = made_at trees made named i name at_i in
      let second = made_at trees made named j name at_j in
      let same : first.0 ≡ second.0 = ap symbol_at (unique name first.0.0 second.0.0 first.2 second.2) in
      once second.0 i j (first.1 ∙ ap Some same) second.1

  -- where a symbol stands twice, so does its name
  pub duplicate_through : (trees : List A) (made : List B) → AreNamed trees made → (place : ℕ) → IsDuplicate (map g made) place
      → IsDuplicate (map f trees) place
  duplicate_through trees made named place duplicate =
      let first = tree_at trees made named duplicate.earlier duplicate.item duplicate.first in
      let second = tree_at trees made named place duplicate.item duplicate.second in
      record {
        item = second.0;
        earlier = duplicate.earlier;
        before = duplicate.before;
        first = first.1 ∙ sym first.2 ∙ second.2;
        second = second.1;
      }

-- a tree whose name stands twice is there
pub duplicate_tree : {A : Type 0} (f : A → List ℕ) (trees : List A) (place : ℕ) → IsDuplicate (map f trees) place → place < length trees
duplicate_tree f trees place duplicate =
    let within = slice_get_within (map f trees) place duplicate.item duplicate.second in subst (λ n. place < n) (length-map trees f) within

-- trees and items under symbols of their names, and one more of each
pub named_more : {A B : Type 0} (f : A → List ℕ) (g : B → Sym) (names more : List (List ℕ)) (trees : List A) (made : List B) (place : ℕ)
    (tree : A) (item : B) → KeepsNames names more → AreNamed f g names (take place trees) made → slice_get trees place ≡ Some tree
    → slice_get more (g item).0 ≡ Some (f tree) → AreNamed f g more (take (place + 1) trees) (made ++ item ∷ [])
named_more f g names more trees made place tree item keeps named at name =
    subst (λ ts. AreNamed f g more ts (made ++ item ∷ [])) (sym (taken_more trees place tree at))
    (all_zipped_more _ (take place trees) made tree item
    (AllZip-weaker (λ t i. slice_get names (g i).0 ≡ Some (f t)) (λ t i. slice_get more (g i).0 ≡ Some (f t))
    (λ t i is. keeps (g i).0 (f t) is) (take place trees) made named) name)
