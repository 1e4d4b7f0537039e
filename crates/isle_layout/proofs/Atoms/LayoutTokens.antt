-- The layout of an S-expression has the tokens of the S-expression.
use Rattle.std.proofs.Common.{◌≡◌, ◌+◌, ℕ, List, [], ◌∷◌, ◌++◌, codes, append_assoc, Bool, true, false, if◌then◌else◌, refl, sym, ap, subst, ◌∙◌}
use Rattle.std.proofs.lemmas.List.{append-nil}
use Rattle.std.specs.List.{flat_map}
use Rattle.isle_syntax.specs.Tokens.PlacedTokens.{Placed, placed_at, opening, closing, at_sign}
use Rattle.isle_syntax.specs.Tokens.Gaps.{begins_semicolon, none}
use Rattle.isle_syntax.specs.Grammar.Phrases.{◌⊙◌, Each}
use Rattle.isle_syntax.specs.Tokens.TokensOf.{opening as is_opening, closing as is_closing, at_sign as is_at_sign, pos_of_rest, TokensOf, ended}
use Rattle.isle_syntax.specs.Tokens.RemainingTokens.{Source}
use Rattle.isle_layout.specs.SExprTree.{SExprTree, SExprTrees, sexpr_atom, sexpr_binding, sexpr_list, no_sexprs, more_sexprs, sexpr_trees_of}
use Rattle.isle_layout.specs.Inside.SExprTokens.{IsAtom, SpellsAtom, SpellsSExpr, SpellsSExprs, HasAtoms, HaveAtoms, ends_atom}
use Rattle.isle_layout.specs.Layout.{joined, line, one_line, one_lines, stays_on_one_line, broken, layout, layouts}
use Rattle.isle_layout.proofs.Atoms.AtomEnds.{no_comment, opens, atom_followed}
use Rattle.isle_layout.proofs.Atoms.Blanks.{behind_space, behind_newline, IsBlank, Separates, nothing_blank, space_separates, line_separates}
use Rattle.isle_layout.proofs.Atoms.Blanks.{token_first, token_no_semicolon}

-- the tokens of a rest of a text begin with those of a phrase, before the tokens of what follows it
abbrev pub HasTokens : Source → (List Placed → Type 0) → List ℕ → List Placed → ℕ → Bool → Type 0
HasTokens source phrase text left end clean = (ts : List Placed) × phrase ts × TokensOf source text (ts ++ left) end clean

-- a text has tokens of a phrase before each text that ends an atom, and there begins no comment
pub record Lays (phrase : List Placed → Type 0) (text : List ℕ) : Type 0 where
  pub tokens : (source : Source) (rest : List ℕ) (left : List Placed) (end : ℕ) (clean : Bool) → ends_atom rest ≡ true
      → TokensOf source rest left end clean → HasTokens source phrase (text ++ rest) left end clean
  pub no_comment : (rest : List ℕ) → ends_atom rest ≡ true → begins_semicolon (text ++ rest) ≡ false

-- the same with the text under another name
lays_same : {phrase : List Placed → Type 0} {text other : List ℕ} → text ≡ other → Lays phrase text → Lays phrase other
lays_same {phrase} e l = subst (Lays phrase) e l

-- ---- atoms

atom_laid : (text : List ℕ) → IsAtom text → Lays (SpellsAtom text) text
atom_laid text a = record {
  tokens =
      λ source rest left end clean h t. (
        placed_at (pos_of_rest source (text ++ rest)) a.0 ∷ [],
        (pos_of_rest source (text ++ rest), a.0, a.1, refl),
        token_first (atom_followed text a.0 rest a.1 h) t,
      );
  no_comment = λ rest h. token_no_semicolon (atom_followed text a.0 rest a.1 h);
}

-- ---- bindings

binding_text : (name below rest : List ℕ) → name ++ (codes " @ " ++ (below ++ rest)) ≡ ((name ++ codes " @ ") ++ below) ++ rest
binding_text name below rest = simp append_assoc

module _ (name : List ℕ) (named : IsAtom name) (inner : SExprTree) (below : List ℕ) (l : Lays (SpellsSExpr inner) below) where
  binding_tokens : (source : Source) (rest : List ℕ) (left : List Placed) (end : ℕ) (clean : Bool) → ends_atom rest ≡ true
      → TokensOf source rest left end clean
      → HasTokens source (SpellsSExpr (sexpr_binding name inner)) (name ++ (codes " @ " ++ (below ++ rest))) left end clean
  binding_tokens source rest left end clean h t =
      let b = l.tokens source rest left end clean h t in
      let at_place = pos_of_rest source (64 ∷ 32 ∷ (below ++ rest)) in
      let behind = token_first (is_at_sign {text = 64 ∷ 32 ∷ (below ++ rest)} refl) (behind_space b.2) in
      let a = (atom_laid name named).tokens source (32 ∷ 64 ∷ 32 ∷ (below ++ rest)) (at_sign at_place ∷ (b.0 ++ left)) end clean refl
      (behind_space behind) in (
        a.0 ++ (at_sign at_place ∷ b.0),
        (a.0, at_sign at_place ∷ b.0, refl, a.1, (at_sign at_place ∷ [], b.0, refl, (at_place, refl), b.1)),
        subst (λ (ts : List Placed). TokensOf source (name ++ (codes " @ " ++ (below ++ rest))) ts end clean)
            (sym (append_assoc a.0 (at_sign at_place ∷ b.0) left)) a.2,
      )

  binding_laid : Lays (SpellsSExpr (sexpr_binding name inner)) ((name ++ codes " @ ") ++ below)
  binding_laid = record {
    tokens = λ source rest left end clean h t.
        subst (λ (text : List ℕ). HasTokens source (SpellsSExpr (sexpr_binding name inner)) text left end clean) (binding_text name below rest)
        (binding_tokens source rest left end clean h t);
    no_comment = λ rest h. ap begins_semicolon (sym (binding_text name below rest))
        ∙ (atom_laid name named).no_comment (codes " @ " ++ (below ++ rest)) refl;
  }

-- ---- items

-- texts of some S-expressions, one of each
abbrev Texts : SExprTrees → List (List ℕ) → Type 0
Texts no_sexprs [] = Unit {0}
Texts no_sexprs (text ∷ texts) = ⊥
Texts (more_sexprs first others) [] = ⊥
Texts (more_sexprs first others) (text ∷ texts) = Lays (SpellsSExpr first) text × Texts others texts

-- one phrase and then another, of which each text ends an atom
followed : {first others : List Placed → Type 0} {text more : List ℕ} → Lays first text → Lays others more
    → ((rest : List ℕ) → ends_atom rest ≡ true → ends_atom (more ++ rest) ≡ true) → Lays (first ⊙ others) (text ++ more)
followed {first} {others} {text} {more} f o ends = record {
  tokens = go;
  no_comment = λ rest h. ap begins_semicolon (append_assoc text more rest) ∙ f.no_comment (more ++ rest) (ends rest h);
}
  where
    go : (source : Source) (rest : List ℕ) (left : List Placed) (end : ℕ) (clean : Bool) → ends_atom rest ≡ true → TokensOf source rest left end clean
        → HasTokens source (first ⊙ others) ((text ++ more) ++ rest) left end clean
    go source rest left end clean h t =
        let behind = o.tokens source rest left end clean h t in
        let front = f.tokens source (more ++ rest) (behind.0 ++ left) end clean (ends rest h) behind.2 in (
          front.0 ++ behind.0,
          (front.0, behind.0, refl, front.1, behind.1),
          subst (λ (ts : List Placed). TokensOf source ((text ++ more) ++ rest) ts end clean) (sym (append_assoc front.0 behind.0 left))
              (subst (λ (all : List ℕ). TokensOf source all (front.0 ++ (behind.0 ++ left)) end clean) (sym (append_assoc text more rest)) front.2),
        )

nothing_laid : Lays (SpellsSExprs no_sexprs) []
nothing_laid = record { tokens = λ source rest left end clean h t. ([], refl, t); no_comment = λ rest h. no_comment rest h }

-- a phrase behind white space that ends an atom
behind_blank : {phrase : List Placed → Type 0} {text separator : List ℕ} → Separates separator → Lays phrase text → Lays phrase (separator ++ text)
behind_blank {phrase} {text} {separator} s l = record {
  tokens = go;
  no_comment = λ rest h. ap begins_semicolon (append_assoc separator text rest) ∙ no_comment (separator ++ (text ++ rest)) (s.ends (text ++ rest));
}
  where
    go : (source : Source) (rest : List ℕ) (left : List Placed) (end : ℕ) (clean : Bool) → ends_atom rest ≡ true → TokensOf source rest left end clean
        → HasTokens source phrase ((separator ++ text) ++ rest) left end clean
    go source rest left end clean h t =
        let inner = l.tokens source rest left end clean h t in
        let skipped = s.is_blank.skipped source (text ++ rest) (inner.0 ++ left) end clean inner.2 in
        (inner.0, inner.1, subst (λ (all : List ℕ). TokensOf source all (inner.0 ++ left) end clean) (sym (append_assoc separator text rest)) skipped)

-- each behind a separator
abbrev separated : List ℕ → List (List ℕ) → List ℕ
separated separator texts = flat_map (λ text. separator ++ text) texts

separated_ends : (separator : List ℕ) → Separates separator → (texts : List (List ℕ)) (rest : List ℕ) → ends_atom rest ≡ true
    → ends_atom (separated separator texts ++ rest) ≡ true
separated_ends separator s [] rest h = h
separated_ends separator s (text ∷ texts) rest h =
    ap ends_atom (append_assoc (separator ++ text) (separated separator texts) rest ∙ append_assoc separator text (separated separator texts ++ rest))
    ∙ s.ends (text ++ (separated separator texts ++ rest))

separated_laid : (separator : List ℕ) → Separates separator → (items : SExprTrees) (texts : List (List ℕ)) → Texts items texts
    → Lays (SpellsSExprs items) (separated separator texts)
separated_laid separator s no_sexprs [] l = nothing_laid
separated_laid separator s no_sexprs (text ∷ texts) l = absurd l
separated_laid separator s (more_sexprs first others) [] l = absurd l
separated_laid separator s (more_sexprs first others) (text ∷ texts) l =
    followed (behind_blank s l.0) (separated_laid separator s others texts l.1) (separated_ends separator s texts)

joined_laid : (separator : List ℕ) → Separates separator → (items : SExprTrees) (texts : List (List ℕ)) → Texts items texts
    → Lays (SpellsSExprs items) (joined separator texts)
joined_laid separator s no_sexprs [] l = nothing_laid
joined_laid separator s no_sexprs (text ∷ texts) l = absurd l
joined_laid separator s (more_sexprs first others) [] l = absurd l
joined_laid separator s (more_sexprs first others) (text ∷ texts) l =
    followed l.0 (separated_laid separator s others texts l.1) (separated_ends separator s texts)

-- ---- lists

list_text : (items last rest : List ℕ) → codes "(" ++ (items ++ (last ++ (codes ")" ++ rest))) ≡ (((codes "(" ++ items) ++ last) ++ codes ")") ++ rest
list_text items last rest = simp append_assoc

module _ (items : SExprTrees) (text last : List ℕ) (blank : IsBlank last) (l : Lays (SpellsSExprs items) text) where
  list_tokens : (source : Source) (rest : List ℕ) (left : List Placed) (end : ℕ) (clean : Bool) → TokensOf source rest left end clean
      → HasTokens source (SpellsSExpr (sexpr_list items)) (codes "(" ++ (text ++ (last ++ (codes ")" ++ rest)))) left end clean
  list_tokens source rest left end clean t =
      let shut = pos_of_rest source (41 ∷ rest) in
      let closed = token_first (is_closing {text = 41 ∷ rest} refl) t in
      let skipped = blank.skipped source (41 ∷ rest) (closing shut ∷ left) end clean closed in
      let ends = blank.ends (41 ∷ rest) refl in
      let inner = l.tokens source (last ++ (41 ∷ rest)) (closing shut ∷ left) end clean ends skipped in
      let open_place = pos_of_rest source (40 ∷ (text ++ (last ++ (41 ∷ rest)))) in
      let opened =
      token_first (is_opening {text = 40 ∷ (text ++ (last ++ (41 ∷ rest)))}
      (opens (text ++ (last ++ (41 ∷ rest))) (l.no_comment (last ++ (41 ∷ rest)) ends))) inner.2 in (
        opening open_place ∷ (inner.0 ++ (closing shut ∷ [])),
        (
          opening open_place ∷ [],
          inner.0 ++ (closing shut ∷ []),
          refl,
          (open_place, refl),
          (inner.0, closing shut ∷ [], refl, inner.1, (shut, refl)),
        ),
        subst (λ (ts : List Placed). TokensOf source (40 ∷ (text ++ (last ++ (41 ∷ rest)))) (opening open_place ∷ ts) end clean)
            (sym (append_assoc inner.0 (closing shut ∷ []) left)) opened,
      )

  list_laid : Lays (SpellsSExpr (sexpr_list items)) (((codes "(" ++ text) ++ last) ++ codes ")")
  list_laid = record {
    tokens = λ source rest left end clean h t. subst (λ (all : List ℕ). HasTokens source (SpellsSExpr (sexpr_list items)) all left end clean)
        (list_text text last rest) (list_tokens source rest left end clean t);
    no_comment = λ rest h. refl;
  }

on_one_line : (items : SExprTrees) (texts : List (List ℕ)) → Texts items texts
    → Lays (SpellsSExpr (sexpr_list items)) ((codes "(" ++ joined (codes " ") texts) ++ codes ")")
on_one_line items texts l =
    lays_same (ap (λ text. text ++ codes ")") (append-nil (codes "(" ++ joined (codes " ") texts)))
    (list_laid items (joined (codes " ") texts) [] nothing_blank (joined_laid (codes " ") space_separates items texts l))

on_lines : (indentation : ℕ) (items : SExprTrees) (texts : List (List ℕ)) → Texts items texts
    → Lays (SpellsSExpr (sexpr_list items)) (broken indentation texts)
on_lines indentation items texts l =
    list_laid items (joined (line (indentation + 4)) texts) (line indentation) ((line_separates indentation).is_blank)
    (joined_laid (line (indentation + 4)) (line_separates (indentation + 4)) items texts l)

-- ---- S-expressions

mutual
  one_line_laid : (t : SExprTree) → HasAtoms t → Lays (SpellsSExpr t) (one_line t)
  one_line_laid (sexpr_atom text) a = atom_laid text a
  one_line_laid (sexpr_binding name below) a = binding_laid name a.0 below (one_line below) (one_line_laid below a.1)
  one_line_laid (sexpr_list items) a = on_one_line items (one_lines items) (one_lines_laid items a)

  one_lines_laid : (items : SExprTrees) → HaveAtoms items → Texts items (one_lines items)
  one_lines_laid no_sexprs a = tt
  one_lines_laid (more_sexprs first others) a = (one_line_laid first a.0, one_lines_laid others a.1)

-- a list on one line or on several
either : (stays : Bool) {phrase : List Placed → Type 0} {one several : List ℕ} → Lays phrase one → Lays phrase several
    → Lays phrase (if stays then one else several)
either true o s = o
either false o s = s

mutual
  layout_laid : (width indentation : ℕ) (t : SExprTree) → HasAtoms t → Lays (SpellsSExpr t) (layout width indentation t)
  layout_laid width indentation (sexpr_atom text) a = atom_laid text a
  layout_laid width indentation (sexpr_binding name below) a =
      binding_laid name a.0 below (layout width indentation below) (layout_laid width indentation below a.1)
  layout_laid width indentation (sexpr_list items) a =
      either (stays_on_one_line width items) (one_line_laid (sexpr_list items) a)
      (on_lines indentation items (layouts width (indentation + 4) items) (layouts_laid width (indentation + 4) items a))

  layouts_laid : (width indentation : ℕ) (items : SExprTrees) → HaveAtoms items → Texts items (layouts width indentation items)
  layouts_laid width indentation no_sexprs a = tt
  layouts_laid width indentation (more_sexprs first others) a = (layout_laid width indentation first a.0, layouts_laid width indentation others a.1)

-- and so has its layout at each width and indentation
pub layout_tokens : (width indentation : ℕ) (t : SExprTree) → HasAtoms t
    → (source : Source) (rest : List ℕ) (left : List Placed) (end : ℕ) (clean : Bool) → ends_atom rest ≡ true → TokensOf source rest left end clean
    → HasTokens source (SpellsSExpr t) (layout width indentation t ++ rest) left end clean
layout_tokens width indentation t a = (layout_laid width indentation t a).tokens

-- ---- definitions

-- S-expressions one after another, with a newline behind each
abbrev pub printed : (width : ℕ) → List SExprTree → List ℕ
printed width ts = flat_map (λ t. layout width 0 t ++ codes "\n") ts

-- they have the tokens of each in order, and no others
pub printed_tokens : (width : ℕ) (sexprs : List SExprTree) → HaveAtoms (sexpr_trees_of sexprs) → (source : Source)
    → (ts : List Placed) × Each SpellsSExpr sexprs ts × TokensOf source (printed width sexprs) ts source.size true
printed_tokens width [] a source = ([], refl, ended (none tt))
printed_tokens width (t ∷ sexprs) a source =
    let behind = printed_tokens width sexprs a.1 source in
    let front = layout_tokens width 0 t a.0 source (10 ∷ printed width sexprs) behind.0 source.size true refl (behind_newline behind.2) in (
      front.0 ++ behind.0,
      (front.0, behind.0, refl, front.1, behind.1),
      subst (λ (all : List ℕ). TokensOf source all (front.0 ++ behind.0) source.size true)
          (sym (append_assoc (layout width 0 t) (codes "\n") (printed width sexprs))) front.2,
    )
