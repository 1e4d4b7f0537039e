-- What holds of each atom of an S-expression.
use Rattle.std.proofs.Common.{◌≡◌, ℕ, List, [], ◌∷◌, ◌++◌, Bool, true, map}
use Rattle.std.specs.List.{list_all}
use Rattle.std.specs.Str.{IsUtf8}
use Rattle.isle_syntax.proofs.Reading.SymbolKinds.{and_first, and_second}
use Rattle.isle_layout.specs.SExprTree.{SExprTree, SExprTrees, sexpr_atom, sexpr_binding, sexpr_list, no_sexprs, more_sexprs, sexpr_trees_of}
use Rattle.isle_layout.specs.Inside.SExprTokens.{IsAtom, HasAtoms, HaveAtoms}

-- P holds of each atom's text and of each name that is bound
abbrev mutual
  pub EachAtom : (List ℕ → Type 0) → SExprTree → Type 0
  EachAtom P (sexpr_atom text) = P text
  EachAtom P (sexpr_binding name below) = P name × EachAtom P below
  EachAtom P (sexpr_list items) = EachAtoms P items

  pub EachAtoms : (List ℕ → Type 0) → SExprTrees → Type 0
  EachAtoms P no_sexprs = Unit {0}
  EachAtoms P (more_sexprs first others) = EachAtom P first × EachAtoms P others

-- bytes that are one token, if they are text
abbrev pub IsAtomIfText : List ℕ → Type 0
IsAtomIfText bytes = IsUtf8 bytes → IsAtom bytes

-- S-expressions of which each atom is
abbrev pub IsReadable : SExprTree → Type 0
IsReadable t = EachAtom IsAtomIfText t

abbrev pub AreReadable : List SExprTree → Type 0
AreReadable ts = EachAtoms IsAtomIfText (sexpr_trees_of ts)

-- ---- lists

pub readable_append : (xs ys : List SExprTree) → AreReadable xs → AreReadable ys → AreReadable (xs ++ ys)
readable_append [] ys h g = g
readable_append (x ∷ xs) ys h g = (h.0, readable_append xs ys h.1 g)

pub readable_map : {A : Type 0} (f : A → SExprTree) (p : A → Bool) → ((a : A) → p a ≡ true → IsReadable (f a)) → (xs : List A) → list_all p xs ≡ true
    → AreReadable (map f xs)
readable_map f p each [] e = tt
readable_map f p each (x ∷ xs) e = (each x (and_first (p x) (list_all p xs) e), readable_map f p each xs (and_second (p x) (list_all p xs) e))

-- ---- text

mutual
  pub atoms_of_text : (t : SExprTree) → IsReadable t → EachAtom IsUtf8 t → HasAtoms t
  atoms_of_text (sexpr_atom text) h u = h u
  atoms_of_text (sexpr_binding name below) h u = (h.0 u.0, atoms_of_text below h.1 u.1)
  atoms_of_text (sexpr_list items) h u = atoms_of_texts items h u

  pub atoms_of_texts : (ts : SExprTrees) → EachAtoms IsAtomIfText ts → EachAtoms IsUtf8 ts → HaveAtoms ts
  atoms_of_texts no_sexprs h u = tt
  atoms_of_texts (more_sexprs first others) h u = (atoms_of_text first h.0 u.0, atoms_of_texts others h.1 u.1)
