-- The atoms of what is printed are text, since the whole is.
use Rattle.std.proofs.Common.{◌≡◌, ℕ, zero, suc, ◌+◌, ◌<◌, List, [], ◌∷◌, ◌++◌, length, get_or, take, Bool, true, false, refl, ap, subst}
use Rattle.std.proofs.Common.{length-append, append_assoc, lit<, arith}
use Rattle.std.specs.Prelude.{if◌then◌else◌, replicate, codes}
use Rattle.std.specs.List.{flat_map}
use Rattle.std.specs.Str.{IsUtf8}
use Rattle.std.proofs.lemmas.List.{append-nil}
use Rattle.std.proofs.lemmas.Str.{IsUtf8-take, IsCharBoundary-before_ascii}
use Rattle.isle_ast.specs.declared.ast.Def.{Def}
use Rattle.isle_syntax.proofs.Tokens.Cuts.{utf8_behind_ascii}
use Rattle.isle_layout.specs.SExprTree.{SExprTree, SExprTrees, sexpr_atom, sexpr_binding, sexpr_list, no_sexprs, more_sexprs}
use Rattle.isle_layout.specs.Inside.SExprTokens.{HasAtoms}
use Rattle.isle_layout.specs.Layout.{joined, line, one_line, one_lines, stays_on_one_line, broken, layout, layouts}
use Rattle.isle_layout.specs.DefSpellings.{def_sexpr}
use Rattle.isle_layout.specs.Writable.{writable_def}
use Rattle.isle_layout.proofs.Atoms.EachAtom.{EachAtom, EachAtoms, atoms_of_text}
use Rattle.isle_layout.proofs.Atoms.DefAtoms.{def_readable}

-- ---- beside ASCII bytes

byte_behind : (front : List ℕ) (b : ℕ) (rest : List ℕ) → get_or (front ++ b ∷ rest) (length front) 0 ≡ b
byte_behind [] b rest = refl
byte_behind (f ∷ front) b rest = byte_behind front b rest

front_taken : (front rest : List ℕ) → take (length front) (front ++ rest) ≡ front
front_taken [] rest = refl
front_taken (f ∷ front) rest = ap (λ k. f ∷ k) (front_taken front rest)

-- before an ASCII byte
pub text_before : (front : List ℕ) (b : ℕ) (rest : List ℕ) → b < 128 → IsUtf8 (front ++ b ∷ rest) → IsUtf8 front
text_before front b rest h u =
    let text = front ++ b ∷ rest in
    let here : get_or text (length front) 0 < 128 = rw byte_behind h in
    let within : length front < length text = omega (arith, length-append front (b ∷ rest)) in
    subst IsUtf8 (front_taken front (b ∷ rest)) (IsUtf8-take text (length front) u (IsCharBoundary-before_ascii text (length front) within here))

abbrev EachAscii : List ℕ → Type 0
EachAscii [] = Unit {0}
EachAscii (b ∷ bs) = (b < 128) × EachAscii bs

spaces_ascii : (n : ℕ) → EachAscii (replicate n 32)
spaces_ascii zero = tt
spaces_ascii (suc n) = (lit< tt, spaces_ascii n)

text_behind : (bs rest : List ℕ) → EachAscii bs → IsUtf8 (bs ++ rest) → IsUtf8 rest
text_behind [] rest h u = u
text_behind (b ∷ bs) rest h u = text_behind bs rest h.1 (utf8_behind_ascii [] b (bs ++ rest) u h.0)

-- ---- texts in a row

abbrev AreTexts : List (List ℕ) → Type 0
AreTexts [] = Unit {0}
AreTexts (text ∷ texts) = IsUtf8 text × AreTexts texts

row_texts : (b : ℕ) (bs : List ℕ) → b < 128 → EachAscii bs → (first : List ℕ) (texts : List (List ℕ))
    → IsUtf8 (first ++ flat_map (λ text. (b ∷ bs) ++ text) texts) → AreTexts (first ∷ texts)
row_texts b bs h hs first [] u = (subst IsUtf8 (append-nil first) u, tt)
row_texts b bs h hs first (text ∷ texts) u =
    let rest = flat_map (λ text. (b ∷ bs) ++ text) texts in (
      text_before first b ((bs ++ text) ++ rest) h u,
      row_texts b bs h hs text texts (text_behind bs (text
          ++ rest) hs (subst IsUtf8 (append_assoc bs text rest) (utf8_behind_ascii first b ((bs ++ text) ++ rest) u h))),
    )

joined_texts : (b : ℕ) (bs : List ℕ) → b < 128 → EachAscii bs → (texts : List (List ℕ)) → IsUtf8 (joined (b ∷ bs) texts) → AreTexts texts
joined_texts b bs h hs [] u = tt
joined_texts b bs h hs (text ∷ texts) u = row_texts b bs h hs text texts u

-- ---- S-expressions

bound_texts : (name rest : List ℕ) → IsUtf8 ((name ++ codes " @ ") ++ rest) → IsUtf8 name × IsUtf8 rest
bound_texts name rest u =
    let whole = subst IsUtf8 (append_assoc name (codes " @ ") rest) u in (
      text_before name 32 (64 ∷ 32 ∷ rest) (lit< tt) whole,
      text_behind (64 ∷ 32 ∷ []) rest (lit< tt, (lit< tt, tt)) (utf8_behind_ascii name 32 (64 ∷ 32 ∷ rest) whole (lit< tt)),
    )

within_texts : (middle : List ℕ) → IsUtf8 ((codes "(" ++ middle) ++ codes ")") → IsUtf8 middle
within_texts middle u = text_before middle 41 [] (lit< tt) (utf8_behind_ascii [] 40 (middle ++ 41 ∷ []) u (lit< tt))

mutual
  one_line_texts : (t : SExprTree) → IsUtf8 (one_line t) → EachAtom IsUtf8 t
  one_line_texts (sexpr_atom text) u = u
  one_line_texts (sexpr_binding name below) u =
      let parts = bound_texts name (one_line below) u in (parts.0, one_line_texts below parts.1)
  one_line_texts (sexpr_list items) u =
      one_lines_texts items (joined_texts 32 [] (lit< tt) tt (one_lines items) (within_texts (joined (codes " ") (one_lines items)) u))

  one_lines_texts : (ts : SExprTrees) → AreTexts (one_lines ts) → EachAtoms IsUtf8 ts
  one_lines_texts no_sexprs u = tt
  one_lines_texts (more_sexprs first others) u = (one_line_texts first u.0, one_lines_texts others u.1)

broken_texts : (n : ℕ) (texts : List (List ℕ)) → IsUtf8 (broken n texts) → AreTexts texts
broken_texts n texts u =
    let row = joined (line (n + 4)) texts in
    let whole = text_before (row ++ 10 ∷ replicate n 32) 41 [] (lit< tt) (utf8_behind_ascii [] 40 ((row ++ 10 ∷ replicate n 32)
    ++ 41 ∷ []) u (lit< tt)) in
    joined_texts 10 (replicate (n + 4) 32) (lit< tt) (spaces_ascii (n + 4)) texts (text_before row 10 (replicate n 32) (lit< tt) whole)

list_texts : (width n : ℕ) (items : SExprTrees) (stays : Bool) → (AreTexts (layouts width (n + 4) items) → EachAtoms IsUtf8 items)
    → IsUtf8 (if stays then one_line (sexpr_list items) else broken n (layouts width (n + 4) items)) → EachAtoms IsUtf8 items
list_texts width n items true below u = one_line_texts (sexpr_list items) u
list_texts width n items false below u = below (broken_texts n (layouts width (n + 4) items) u)

mutual
  -- the atoms of an S-expression that is printed as text
  pub layout_texts : (width n : ℕ) (t : SExprTree) → IsUtf8 (layout width n t) → EachAtom IsUtf8 t
  layout_texts width n (sexpr_atom text) u = u
  layout_texts width n (sexpr_binding name below) u =
      let parts = bound_texts name (layout width n below) u in (parts.0, layout_texts width n below parts.1)
  layout_texts width n (sexpr_list items) u =
      list_texts width n items (stays_on_one_line width items) (λ each. layouts_texts width (n + 4) items each) u

  layouts_texts : (width n : ℕ) (ts : SExprTrees) → AreTexts (layouts width n ts) → EachAtoms IsUtf8 ts
  layouts_texts width n no_sexprs u = tt
  layouts_texts width n (more_sexprs first others) u = (layout_texts width n first u.0, layouts_texts width n others u.1)

-- ---- definitions

-- a definition that can be written has tokens as its atoms, where they are text
pub def_has_atoms : (d : Def) → writable_def d ≡ true → EachAtom IsUtf8 (def_sexpr d) → HasAtoms (def_sexpr d)
def_has_atoms d e u = atoms_of_text (def_sexpr d) (def_readable d e) u
