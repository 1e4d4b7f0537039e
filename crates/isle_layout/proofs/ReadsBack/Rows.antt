-- S-expressions one after another, the tokens of each.
use Rattle.std.proofs.Common.{◌≡◌, ℕ, List, [], ◌∷◌, ◌++◌, map, Bool, true, refl, ap, ◌∙◌, sym, subst}
use Rattle.std.specs.List.{list_all}
use Rattle.std.specs.Str.{IsUtf8}
use Rattle.isle_syntax.specs.Tokens.PlacedTokens.{Placed}
use Rattle.isle_syntax.specs.Grammar.Phrases.{◌⊙◌, Closes, Opening, AtSign, Each}
use Rattle.isle_syntax.proofs.Reading.Basics.{group_right, group_left}
use Rattle.isle_syntax.proofs.Reading.SymbolKinds.{and_first, and_second}
use Rattle.isle_layout.specs.SExprTree.{SExprTree, SExprTrees, sexpr_atom, sexpr_binding, sexpr_list, no_sexprs, more_sexprs, sexpr_trees_of}
use Rattle.isle_layout.specs.Inside.SExprTokens.{SpellsAtom, SpellsSExpr, SpellsSExprs}
use Rattle.isle_layout.specs.Spellings.{listed}
use Rattle.isle_layout.proofs.Atoms.EachAtom.{EachAtom, EachAtoms}

-- the token of an atom that is text
abbrev pub ReadsAtom : List ℕ → List Placed → Type 0
ReadsAtom text ts = IsUtf8 text × SpellsAtom text ts

-- tokens of an S-expression of which each atom is text
abbrev mutual
  pub Reads : SExprTree → List Placed → Type 0
  Reads (sexpr_atom text) = ReadsAtom text
  Reads (sexpr_binding name below) = ReadsAtom name ⊙ (AtSign tt ⊙ Reads below)
  Reads (sexpr_list items) = Opening tt ⊙ (ReadsAll items ⊙ Closes tt)

  pub ReadsAll : SExprTrees → List Placed → Type 0
  ReadsAll no_sexprs = λ ts. ts ≡ []
  ReadsAll (more_sexprs first others) = Reads first ⊙ ReadsAll others

mutual
  pub reads_of : (t : SExprTree) (ts : List Placed) → EachAtom IsUtf8 t → SpellsSExpr t ts → Reads t ts
  reads_of (sexpr_atom text) ts u l = (u, l)
  reads_of (sexpr_binding name below) ts u l =
      (l.0, l.1, l.2, (u.0, l.3), (l.4.0, l.4.1, l.4.2, l.4.3, reads_of below l.4.1 u.1 l.4.4))
  reads_of (sexpr_list items) ts u l =
      (l.0, l.1, l.2, l.3, (l.4.0, l.4.1, l.4.2, reads_all_of items l.4.0 u l.4.3, l.4.4))

  pub reads_all_of : (items : SExprTrees) (ts : List Placed) → EachAtoms IsUtf8 items → SpellsSExprs items ts → ReadsAll items ts
  reads_all_of no_sexprs ts u l = l
  reads_all_of (more_sexprs first others) ts u l = (l.0, l.1, l.2, reads_of first l.0 u.0 l.3, reads_all_of others l.1 u.1 l.4)

-- S-expressions in a row, and then other tokens
abbrev pub Row : List SExprTree → (List Placed → Type 0) → List Placed → Type 0
Row [] K = K
Row (t ∷ ts) K = Reads t ⊙ Row ts K

behind_none : (K : List Placed → Type 0) (u v ts : List Placed) → ts ≡ u ++ v → u ≡ [] → K v → K ts
behind_none K u v ts e f k = subst K (sym (e ∙ ap (λ x. x ++ v) f)) k

row_of : (ts : List SExprTree) (K : List Placed → Type 0) (us : List Placed) → (ReadsAll (sexpr_trees_of ts) ⊙ K) us → Row ts K us
row_of [] K us l = behind_none K l.0 l.1 us l.2 l.3 l.4
row_of (t ∷ ts) K us l =
    let h = group_right (Reads t) (ReadsAll (sexpr_trees_of ts)) K us l in
    (h.0, h.1, h.2, h.3, row_of ts K h.1 h.4)

-- a list is its items between parentheses
pub listed_row : (ts : List SExprTree) (us : List Placed) → Reads (listed ts) us → (Opening tt ⊙ Row ts (Closes tt)) us
listed_row ts us l = (l.0, l.1, l.2, l.3, row_of ts (Closes tt) l.1 l.4)

-- the same before other tokens
pub listed_then : (ts : List SExprTree) (K : List Placed → Type 0) (us : List Placed) → (Reads (listed ts) ⊙ K) us
    → (Opening tt ⊙ Row ts (Closes tt ⊙ K)) us
listed_then ts K us l =
    let items = ReadsAll (sexpr_trees_of ts) in
    let h = group_right (Opening tt) (items ⊙ Closes tt) K us l in
    (h.0, h.1, h.2, h.3, row_of ts (Closes tt ⊙ K) h.1 (group_right items (Closes tt) K h.1 h.4))

-- two rows
pub row_append : (xs ys : List SExprTree) (K : List Placed → Type 0) (us : List Placed) → Row (xs ++ ys) K us → Row xs (Row ys K) us
row_append [] ys K us l = l
row_append (x ∷ xs) ys K us l = (l.0, l.1, l.2, l.3, row_append xs ys K l.1 l.4)

-- what follows a row
pub row_map : (xs : List SExprTree) (K M : List Placed → Type 0) → ((us : List Placed) → K us → M us) → (us : List Placed) → Row xs K us → Row xs M us
row_map [] K M f us l = f us l
row_map (x ∷ xs) K M f us l = (l.0, l.1, l.2, l.3, row_map xs K M f l.1 l.4)

-- the tokens of a row stand before the others
pub row_split : (xs : List SExprTree) (K : List Placed → Type 0) (us : List Placed) → Row xs K us → (Each Reads xs ⊙ K) us
row_split [] K us l = ([], us, refl, refl, l)
row_split (x ∷ xs) K us l = group_left (Reads x) (Each Reads xs) K us (l.0, l.1, l.2, l.3, row_split xs K l.1 l.4)

-- tokens that spell a value, or values, which are these but for something forgotten
module _ {A : Type 0} (spells : A → List Placed → Type 0) (forget : A → A) where
  abbrev pub Again : A → List Placed → Type 0
  Again a ts = (b : A) × spells b ts × (forget b ≡ forget a)

  abbrev pub AllAgain : List A → (List Placed → Type 0) → List Placed → Type 0
  AllAgain values K ts = (bs : List A) × (Each spells bs ⊙ K) ts × (map forget bs ≡ map forget values)

  -- each of them on its own, and then a row of them
  pub all_again : (f : A → SExprTree) (w : A → Bool) → ((a : A) (us : List Placed) → w a ≡ true → Reads (f a) us → Again a us)
      → (values : List A) (K : List Placed → Type 0) (us : List Placed) → list_all w values ≡ true → Row (map f values) K us → AllAgain values K us
  all_again f w each [] K us h l = ([], ([], us, refl, refl, l), refl)
  all_again f w each (a ∷ values) K us h l =
      let first = each a l.0 (and_first (w a) (list_all w values) h) l.3 in
      let others = all_again f w each values K l.1 (and_second (w a) (list_all w values) h) l.4 in
      (first.0 ∷ others.0, group_left (spells first.0) (Each spells others.0) K us (l.0, l.1, l.2, first.1, others.1), (λ i. first.2 i ∷ others.2 i))
