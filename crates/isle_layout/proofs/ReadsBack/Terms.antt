-- Tokens of the S-expressions of terms' declarations, extractors, externs, converters and kept definitions spell these again.
use Rattle.std.proofs.Common.{◌≡◌, ℕ, List, [], ◌∷◌, ◌++◌, map, Bool, true, false, cond, refl, ap, ◌∙◌, sym, subst}
use Rattle.std.specs.Prelude.{◌&&◌, ◌||◌, not, codes}
use Rattle.std.specs.List.{list_all}
use Rattle.isle_ast.specs.declared.ast.Ident.{Ident}
use Rattle.isle_ast.specs.declared.ast.Decl.{Decl as DeclTree}
use Rattle.isle_ast.specs.declared.ast.Extractor.{Extractor as ExtractorTree}
use Rattle.isle_ast.specs.declared.ast.Extern.{Extern as ExternTree}
use Rattle.isle_ast.specs.declared.ast.Extern.TheVariants.{Constructor as extern_constructor, Extractor as extern_extractor, Const as extern_const}
use Rattle.isle_ast.specs.declared.ast.Converter.{Converter as ConverterTree}
use Rattle.isle_ast.specs.declared.ast.Kept.{Kept as KeptTree}
use Rattle.isle_ast.specs.declared.ast.Pattern.{Pattern}
use Rattle.isle_ast.specs.declared.ast.Pattern.TheVariants as pattern
use Rattle.isle_ast.specs.Trees.PatternTree.{PatternTree, pattern_var, pattern_bind, pattern_bool, pattern_int, pattern_prim, pattern_term}
use Rattle.isle_ast.specs.Trees.PatternTree.{pattern_wildcard, pattern_and, pattern_macro_arg}
use Rattle.isle_ast.specs.Trees.PatternShape.{pattern_of}
use Rattle.isle_syntax.specs.Inside.Reading.DefReading.{pattern_from}
use Rattle.isle_syntax.specs.Tokens.PlacedTokens.{Placed}
use Rattle.isle_syntax.specs.Tokens.Names.{is_symbol, is_const_name, is_word}
use Rattle.isle_syntax.specs.Grammar.Phrases.{◌⊙◌, Opens, Closes, Opening, Says, Flag, Each, Closed, next_symbol_is, first_pos}
use Rattle.isle_syntax.specs.Grammar.TreeGrammar.{SpellsPattern}
use Rattle.isle_syntax.specs.Grammar.DefGrammar.{SpellsIdent, SpellsDecl, SpellsExtractor, SpellsExtern, SpellsConverter, is_kept_word, SpellsKept}
use Rattle.isle_ast.specs.Trees.WithoutPos.{no_pos, ident_without_pos, pattern_tree_without_pos, pattern_without_pos, decl_without_pos}
use Rattle.isle_ast.specs.Trees.WithoutPos.{extractor_without_pos, extern_without_pos, converter_without_pos, kept_without_pos}
use Rattle.isle_syntax.proofs.Reading.Basics.{group_right, group_left}
use Rattle.isle_syntax.proofs.Reading.SymbolKinds.{and_first, and_second}
use Rattle.isle_layout.specs.SExprTree.{SExprTree, sexpr_atom}
use Rattle.isle_layout.specs.Spellings.{listed, name_sexpr, constant_sexpr, pattern_sexpr, item_sexprs}
use Rattle.isle_layout.specs.DefSpellings.{flag, decl_flags}
use Rattle.isle_layout.specs.Writable.{writable_ident, writable_pattern, writable_items, is_free_of_flags, writable_decl, writable_extractor}
use Rattle.isle_layout.specs.Writable.{writable_extern, writable_converter, writable_kept}
use Rattle.isle_layout.proofs.Atoms.IdentifierTexts.{kept_word_is_symbol}
use Rattle.isle_layout.proofs.ReadsBack.Rows.{Reads, Row, listed_row, listed_then, row_append, row_map, row_split, Again}
use Rattle.isle_layout.proofs.ReadsBack.Trees.{ident_at, word_again, name_again, constant_again, pattern_again, items_again}
use Rattle.isle_layout.proofs.ReadsBack.Types.{ident_again, idents_again}

-- ---- flags

-- a word that is set, or what isn't read as it
flag_again : (w : List ℕ) (set : Bool) (K : List Placed → Type 0) (ts : List Placed) → is_symbol w ≡ true
    → (set ≡ false → (us : List Placed) → K us → next_symbol_is (is_word w) us ≡ false)
    → Row (flag w set) K ts → Flag w set K ts
flag_again w true K ts s free l = (l.0, l.1, l.2, word_again w l.0 s l.3, l.4)
flag_again w false K ts s free l = (l, free refl ts l)

flag_map : (w : List ℕ) (set : Bool) (K M : List Placed → Type 0) → ((us : List Placed) → K us → M us) → (ts : List Placed) → Flag w set K ts
    → Flag w set M ts
flag_map w true K M f ts l = (l.0, l.1, l.2, l.3, f l.1 l.4)
flag_map w false K M f ts l = (f ts l.0, l.1)

-- a value that what follows the flag spells
flag_pull : {A : Type 0} (w : List ℕ) (set : Bool) (M : A → List Placed → Type 0) (Q : A → Type 0) (ts : List Placed)
    → Flag w set (λ us. (a : A) × M a us × Q a) ts → (a : A) × Flag w set (M a) ts × Q a
flag_pull w true M Q ts l = (l.4.0, (l.0, l.1, l.2, l.3, l.4.1), l.4.2)
flag_pull w false M Q ts l = (l.0.0, (l.0.1, l.1), l.0.2)

-- whether the first token is a symbol of some kind, where it is this symbol
first_symbol : (q : List ℕ → Bool) (s : List ℕ) (K : List Placed → Type 0) (ts : List Placed) → (Says s tt ⊙ K) ts → next_symbol_is q ts ≡ q s
first_symbol q s K ts l = ap (next_symbol_is q) (l.2 ∙ ap (λ u. u ++ l.1) l.3.1)

flag_names : (q : List ℕ → Bool) (w : List ℕ) (set : Bool) (K : List Placed → Type 0) (c : Bool)
    → ((us : List Placed) → K us → next_symbol_is q us ≡ c) → (ts : List Placed) → Flag w set K ts → next_symbol_is q ts ≡ cond set (q w) c
flag_names q w true K c f ts l = first_symbol q w K ts l
flag_names q w false K c f ts l = f ts l.0

-- ---- declarations

-- what a declaration says behind its flags

abbrev SpellsNames : Ident × List Ident × Ident → List Placed → Type 0
SpellsNames x = SpellsIdent x.0 ⊙ (Opening tt ⊙ (Closed SpellsIdent x.1 ⊙ (SpellsIdent x.2 ⊙ Closes tt)))

abbrev SameNames : DeclTree → Ident × List Ident × Ident → Type 0
SameNames d x = (ident_without_pos x.0 ≡ ident_without_pos d.term) × (map ident_without_pos x.1 ≡ map ident_without_pos d.arg_tys)
    × (ident_without_pos x.2 ≡ ident_without_pos d.ret_ty)

abbrev signature_row : DeclTree → List SExprTree
signature_row d = name_sexpr d.term ∷ listed (map name_sexpr d.arg_tys) ∷ name_sexpr d.ret_ty ∷ []

signature_again : (d : DeclTree) (ts : List Placed) → writable_ident d.term ≡ true → list_all writable_ident d.arg_tys ≡ true
    → writable_ident d.ret_ty ≡ true → Row (signature_row d) (Closes tt) ts
    → (x : Ident × List Ident × Ident) × SpellsNames x ts × SameNames d x
signature_again d ts h g e l =
    let n = ident_again d.term l.0 h l.3 in
    let q = listed_then (map name_sexpr d.arg_tys) (Reads (name_sexpr d.ret_ty) ⊙ Closes tt) l.1 l.4 in
    let a = idents_again d.arg_tys (Closes tt ⊙ (Reads (name_sexpr d.ret_ty) ⊙ Closes tt)) q.1 g q.4 in
    let c = group_left (Each SpellsIdent a.0) (Closes tt) (Reads (name_sexpr d.ret_ty) ⊙ Closes tt) q.1 a.1 in
    let r = ident_again d.ret_ty c.4.0 e c.4.3 in (
      (n.0, a.0, r.0),
      (l.0, l.1, l.2, n.1, (q.0, q.1, q.2, q.3, (c.0, c.1, c.2, c.3, (c.4.0, c.4.1, c.4.2, r.1, c.4.4)))),
      (n.2, a.2, r.2),
    )

signature_names : (q : List ℕ → Bool) (d : DeclTree) (ts : List Placed) → writable_ident d.term ≡ true → Row (signature_row d) (Closes tt) ts
    → next_symbol_is q ts ≡ q d.term.0
signature_names q d ts h l =
    let n = ident_again d.term l.0 h l.3 in
    ap (next_symbol_is q) (l.2 ∙ ap (λ u. u ++ l.1) n.1.0) ∙ ap (λ x. q x.0) n.2

-- a word that isn't free stands after a flag that is set
free_one : (a x : Bool) → (a || not x) ≡ true → a ≡ false → x ≡ false
free_one true x h e = absurd (cc)
free_one false true h e = absurd (cc)
free_one false false h e = refl

free_two : (a b x : Bool) → (a || b || not x) ≡ true → a ≡ false → cond b false x ≡ false
free_two true b x h e = absurd (cc)
free_two false true x h e = refl
free_two false false x h e = free_one false x h refl

free_three : (a b c x : Bool) → (a || b || c || not x) ≡ true → a ≡ false → cond b false (cond c false x) ≡ false
free_three true b c x h e = absurd (cc)
free_three false true c x h e = refl
free_three false false c x h e = free_two false c x h refl

free_four : (a b c d x : Bool) → (a || b || c || d || not x) ≡ true → a ≡ false → cond b false (cond c false (cond d false x)) ≡ false
free_four true b c d x h e = absurd (cc)
free_four false true c d x h e = refl
free_four false false c d x h e = free_three false c d x h refl

module _ (d : DeclTree) (h : writable_ident d.term ≡ true) where
  abbrev behind_rec : List Placed → Type 0
  behind_rec = Row (signature_row d) (Closes tt)

  abbrev behind_partial : List Placed → Type 0
  behind_partial = Flag (codes "rec") d.rec behind_rec

  abbrev behind_multi : List Placed → Type 0
  behind_multi = Flag (codes "partial") d.partial behind_partial

  abbrev behind_pure : List Placed → Type 0
  behind_pure = Flag (codes "multi") d.multi behind_multi

  -- whether what follows a flag begins with a symbol of some kind
  names_rec : (q : List ℕ → Bool) (us : List Placed) → behind_rec us → next_symbol_is q us ≡ q d.term.0
  names_rec q us l = signature_names q d us h l

  names_partial : (q : List ℕ → Bool) (us : List Placed) → behind_partial us → next_symbol_is q us ≡ cond d.rec (q (codes "rec")) (q d.term.0)
  names_partial q us l = flag_names q (codes "rec") d.rec behind_rec (q d.term.0) (names_rec q) us l

  names_multi : (q : List ℕ → Bool) (us : List Placed) → behind_multi us
      → next_symbol_is q us ≡ cond d.partial (q (codes "partial")) (cond d.rec (q (codes "rec")) (q d.term.0))
  names_multi q us l = flag_names q (codes "partial") d.partial behind_partial (cond d.rec (q (codes "rec")) (q d.term.0)) (names_partial q) us l

  names_pure : (q : List ℕ → Bool) (us : List Placed) → behind_pure us
      → next_symbol_is q us ≡ cond d.multi (q (codes "multi")) (cond d.partial (q (codes "partial")) (cond d.rec (q (codes "rec")) (q d.term.0)))
  names_pure q us l =
      flag_names q (codes "multi") d.multi behind_multi (cond d.partial (q (codes "partial")) (cond d.rec (q (codes "rec")) (q d.term.0)))
      (names_multi q) us l

  module _ (free : is_free_of_flags d ≡ true) where
    three_free : ((d.pure || d.multi || d.partial || d.rec || not (is_word (codes "pure") d.term.0))
        && (d.multi || d.partial || d.rec || not (is_word (codes "multi") d.term.0))
        && (d.partial || d.rec || not (is_word (codes "partial") d.term.0))) ≡ true
    three_free = and_first _ (d.rec || not (is_word (codes "rec") d.term.0)) free

    two_free : ((d.pure || d.multi || d.partial || d.rec || not (is_word (codes "pure") d.term.0))
        && (d.multi || d.partial || d.rec || not (is_word (codes "multi") d.term.0))) ≡ true
    two_free = and_first _ (d.partial || d.rec || not (is_word (codes "partial") d.term.0)) three_free

    rec_again : (us : List Placed) → Row (flag (codes "rec") d.rec) behind_rec us → behind_partial us
    rec_again us l =
        flag_again (codes "rec") d.rec behind_rec us refl
        (λ e vs k. names_rec (is_word (codes "rec")) vs k
        ∙ free_one d.rec (is_word (codes "rec") d.term.0) (and_second _ (d.rec || not (is_word (codes "rec") d.term.0)) free) e) l

    partial_again : (us : List Placed) → Row (flag (codes "partial") d.partial) behind_partial us → behind_multi us
    partial_again us l =
        flag_again (codes "partial") d.partial behind_partial us refl
        (λ e vs k. names_partial (is_word (codes "partial")) vs k
        ∙ free_two d.partial d.rec (is_word (codes "partial") d.term.0)
        (and_second _ (d.partial || d.rec || not (is_word (codes "partial") d.term.0)) three_free) e) l

    multi_again : (us : List Placed) → Row (flag (codes "multi") d.multi) behind_multi us → behind_pure us
    multi_again us l =
        flag_again (codes "multi") d.multi behind_multi us refl
        (λ e vs k. names_multi (is_word (codes "multi")) vs k
        ∙ free_three d.multi d.partial d.rec (is_word (codes "multi") d.term.0) (and_second _ (d.multi || d.partial || d.rec
        || not (is_word (codes "multi") d.term.0)) two_free) e) l

    pure_again : (us : List Placed) → Row (flag (codes "pure") d.pure) behind_pure us → Flag (codes "pure") d.pure behind_pure us
    pure_again us l =
        flag_again (codes "pure") d.pure behind_pure us refl
        (λ e vs k. names_pure (is_word (codes "pure")) vs k
        ∙ free_four d.pure d.multi d.partial d.rec (is_word (codes "pure") d.term.0) (and_first _ (d.multi || d.partial || d.rec
        || not (is_word (codes "multi") d.term.0)) two_free) e) l

    flags_again : (us : List Placed) → Row (decl_flags d) behind_rec us → Flag (codes "pure") d.pure behind_pure us
    flags_again us l =
        let pure = flag (codes "pure") d.pure in
        let multi = flag (codes "multi") d.multi in
        let partial = flag (codes "partial") d.partial in
        let rec = flag (codes "rec") d.rec in
        pure_again us
        (row_map pure (Row (multi ++ (partial ++ rec)) behind_rec) behind_pure
        (λ vs m. multi_again vs (row_map multi (Row (partial ++ rec) behind_rec) behind_multi
        (λ ws n. partial_again ws (row_map partial (Row rec behind_rec) behind_partial rec_again ws (row_append partial rec behind_rec ws n)))
        vs (row_append multi (partial ++ rec) behind_rec vs m)))
        us (row_append pure (multi ++ (partial ++ rec)) behind_rec us l))

  -- the names behind the flags
  module _ (g : list_all writable_ident d.arg_tys ≡ true) (e : writable_ident d.ret_ty ≡ true) where
    pull_rec : (us : List Placed) → behind_partial us → (x : Ident × List Ident × Ident) × Flag (codes "rec") d.rec (SpellsNames x) us × SameNames d x
    pull_rec us l =
        flag_pull (codes "rec") d.rec SpellsNames (SameNames d) us
        (flag_map (codes "rec") d.rec behind_rec (λ vs. (x : Ident × List Ident × Ident) × SpellsNames x vs
        × SameNames d x) (λ vs k. signature_again d vs h g e k) us l)

    abbrev spells_partial : Ident × List Ident × Ident → List Placed → Type 0
    spells_partial x = Flag (codes "rec") d.rec (SpellsNames x)

    pull_partial : (us : List Placed) → behind_multi us → (x : Ident × List Ident × Ident) × Flag (codes "partial") d.partial (spells_partial x) us
        × SameNames d x
    pull_partial us l =
        flag_pull (codes "partial") d.partial spells_partial (SameNames d) us
        (flag_map (codes "partial") d.partial behind_partial (λ vs. (x : Ident × List Ident × Ident) × spells_partial x vs
        × SameNames d x) pull_rec us l)

    abbrev spells_multi : Ident × List Ident × Ident → List Placed → Type 0
    spells_multi x = Flag (codes "partial") d.partial (spells_partial x)

    pull_multi : (us : List Placed) → behind_pure us → (x : Ident × List Ident × Ident) × Flag (codes "multi") d.multi (spells_multi x) us
        × SameNames d x
    pull_multi us l =
        flag_pull (codes "multi") d.multi spells_multi (SameNames d) us
        (flag_map (codes "multi") d.multi behind_multi (λ vs. (x : Ident × List Ident × Ident) × spells_multi x vs × SameNames d x) pull_partial us l)

    abbrev spells_pure : Ident × List Ident × Ident → List Placed → Type 0
    spells_pure x = Flag (codes "multi") d.multi (spells_multi x)

    pull_pure : (us : List Placed) → Flag (codes "pure") d.pure behind_pure us
        → (x : Ident × List Ident × Ident) × Flag (codes "pure") d.pure (spells_pure x) us × SameNames d x
    pull_pure us l =
        flag_pull (codes "pure") d.pure spells_pure (SameNames d) us
        (flag_map (codes "pure") d.pure behind_pure (λ vs. (x : Ident × List Ident × Ident) × spells_pure x vs × SameNames d x) pull_multi us l)

-- what stands behind the word `decl`
pub decl_again : (d : DeclTree) (ts : List Placed) → writable_decl d ≡ true
    → Row (decl_flags d ++ (name_sexpr d.term ∷ listed (map name_sexpr d.arg_tys) ∷ name_sexpr d.ret_ty ∷ [])) (Closes tt) ts
    → Again SpellsDecl decl_without_pos d ts
decl_again d ts w l =
    let three = and_first (writable_ident d.term && is_free_of_flags d && list_all writable_ident d.arg_tys) (writable_ident d.ret_ty) w in
    let two = and_first (writable_ident d.term && is_free_of_flags d) (list_all writable_ident d.arg_tys) three in
    let h = and_first (writable_ident d.term) (is_free_of_flags d) two in
    let free = and_second (writable_ident d.term) (is_free_of_flags d) two in
    let g = and_second (writable_ident d.term && is_free_of_flags d) (list_all writable_ident d.arg_tys) three in
    let e = and_second (writable_ident d.term && is_free_of_flags d && list_all writable_ident d.arg_tys) (writable_ident d.ret_ty) w in
    let f = flags_again d h free ts (row_append (decl_flags d) (signature_row d) (Closes tt) ts l) in
    let x = pull_pure d h g e ts f in (
      record { term = x.0.0; arg_tys = x.0.1; ret_ty = x.0.2; pure = d.pure; multi = d.multi; partial = d.partial; rec = d.rec; pos = first_pos ts },
      (x.1, refl),
      (λ i. record {
        term = x.2.0 i;
        arg_tys = x.2.1 i;
        ret_ty = x.2.2 i;
        pure = d.pure;
        multi = d.multi;
        partial = d.partial;
        rec = d.rec;
        pos = no_pos;
      }),
    )

-- ---- whole patterns

pub pattern_there : (t : PatternTree) → pattern_of (pattern_from t) ≡ t
pattern_there (pattern_var _ _) = refl
pattern_there (pattern_bind _ _ _) = refl
pattern_there (pattern_bool _ _) = refl
pattern_there (pattern_int _ _ _) = refl
pattern_there (pattern_prim _ _) = refl
pattern_there (pattern_term _ _ _) = refl
pattern_there (pattern_wildcard _) = refl
pattern_there (pattern_and _ _) = refl
pattern_there (pattern_macro_arg _ _) = refl

pub pattern_moved : (t : PatternTree) → pattern_without_pos (pattern_from t) ≡ pattern_from (pattern_tree_without_pos t)
pattern_moved (pattern_var _ _) = refl
pattern_moved (pattern_bind _ _ _) = refl
pattern_moved (pattern_bool _ _) = refl
pattern_moved (pattern_int _ _ _) = refl
pattern_moved (pattern_prim _ _) = refl
pattern_moved (pattern_term _ _ _) = refl
pattern_moved (pattern_wildcard _) = refl
pattern_moved (pattern_and _ _) = refl
pattern_moved (pattern_macro_arg _ _) = refl

pub pattern_back : (p : Pattern) → pattern_from (pattern_tree_without_pos (pattern_of p)) ≡ pattern_without_pos p
pattern_back (pattern.Var _ _) = refl
pattern_back (pattern.BindPattern _ _ _) = refl
pattern_back (pattern.ConstBool _ _) = refl
pattern_back (pattern.ConstInt _ _ _) = refl
pattern_back (pattern.ConstPrim _ _) = refl
pattern_back (pattern.Term _ _ _) = refl
pattern_back (pattern.Wildcard _) = refl
pattern_back (pattern.And _ _) = refl
pattern_back (pattern.MacroArg _ _) = refl

pub whole_pattern_again : (p : Pattern) (ts : List Placed) → writable_pattern (pattern_of p) ≡ true → Reads (pattern_sexpr (pattern_of p)) ts
    → Again (λ q. SpellsPattern (pattern_of q)) pattern_without_pos p ts
whole_pattern_again p ts h l =
    let a = pattern_again (pattern_of p) ts h l in
    (pattern_from a.0, subst (λ t. SpellsPattern t ts) (sym (pattern_there a.0)) a.1, pattern_moved a.0 ∙ ap pattern_from a.2 ∙ pattern_back p)

-- ---- extractors

-- what stands behind the word `extractor`
pub extractor_again : (x : ExtractorTree) (ts : List Placed) → writable_extractor x ≡ true
    → Row (listed (name_sexpr x.term ∷ map name_sexpr x.args) ∷ pattern_sexpr (pattern_of x.template) ∷ []) (Closes tt) ts
    → Again SpellsExtractor extractor_without_pos x ts
extractor_again x ts w l =
    let two = and_first (writable_ident x.term && list_all writable_ident x.args) (writable_pattern (pattern_of x.template)) w in
    let r = listed_row (name_sexpr x.term ∷ map name_sexpr x.args) l.0 l.3 in
    let n = ident_again x.term r.4.0 (and_first (writable_ident x.term) (list_all writable_ident x.args) two) r.4.3 in
    let a = idents_again x.args (Closes tt) r.4.1 (and_second (writable_ident x.term) (list_all writable_ident x.args) two) r.4.4 in
    let b = whole_pattern_again x.template l.4.0
    (and_second (writable_ident x.term && list_all writable_ident x.args) (writable_pattern (pattern_of x.template)) w) l.4.3 in (
      record { term = n.0; args = a.0; template = b.0; pos = r.3.0 },
      group_right (Opens r.3.0) (SpellsIdent n.0 ⊙ Closed SpellsIdent a.0) (SpellsPattern (pattern_of b.0) ⊙ Closes tt) ts
          (l.0, l.1, l.2, (r.0, r.1, r.2, r.3.1, (r.4.0, r.4.1, r.4.2, n.1, a.1)), (l.4.0, l.4.1, l.4.2, b.1, l.4.4)),
      (λ i. record { term = n.2 i; args = a.2 i; template = b.2 i; pos = no_pos }),
    )

-- ---- what the host provides

abbrev SameTwo : Ident → Ident → Ident × Ident → Type 0
SameTwo x y z = (ident_without_pos z.0 ≡ ident_without_pos x) × (ident_without_pos z.1 ≡ ident_without_pos y)

abbrev SpellsTwo : Ident × Ident → List Placed → Type 0
SpellsTwo z = SpellsIdent z.0 ⊙ (SpellsIdent z.1 ⊙ Closes tt)

two_again : (x y : Ident) (ts : List Placed) → (writable_ident x && writable_ident y) ≡ true → Row (name_sexpr x ∷ name_sexpr y ∷ []) (Closes tt) ts
    → (z : Ident × Ident) × SpellsTwo z ts × SameTwo x y z
two_again x y ts h l =
    let n = ident_again x l.0 (and_first (writable_ident x) (writable_ident y) h) l.3 in
    let m = ident_again y l.4.0 (and_second (writable_ident x) (writable_ident y) h) l.4.3 in
    ((n.0, m.0), (l.0, l.1, l.2, n.1, (l.4.0, l.4.1, l.4.2, m.1, l.4.4)), (n.2, m.2))

two_names : (q : List ℕ → Bool) (x y : Ident) (ts : List Placed) → (writable_ident x && writable_ident y) ≡ true
    → Row (name_sexpr x ∷ name_sexpr y ∷ []) (Closes tt) ts → next_symbol_is q ts ≡ q x.0
two_names q x y ts h l =
    let n = ident_again x l.0 (and_first (writable_ident x) (writable_ident y) h) l.3 in
    ap (next_symbol_is q) (l.2 ∙ ap (λ u. u ++ l.1) n.1.0) ∙ ap (λ z. q z.0) n.2

-- what stands behind the word `extern`
abbrev pub extern_row : ExternTree → List SExprTree
extern_row (extern_constructor term func _) = sexpr_atom (codes "constructor") ∷ name_sexpr term ∷ name_sexpr func ∷ []
extern_row (extern_extractor term func _ infallible) =
    sexpr_atom (codes "extractor") ∷ (flag (codes "infallible") infallible ++ (name_sexpr term ∷ name_sexpr func ∷ []))
extern_row (extern_const name ty _) = sexpr_atom (codes "const") ∷ constant_sexpr name ∷ name_sexpr ty ∷ []

pub extern_again : (x : ExternTree) (ts : List Placed) → writable_extern x ≡ true → Row (extern_row x) (Closes tt) ts
    → Again SpellsExtern extern_without_pos x ts
extern_again (extern_constructor term func p) ts h l =
    let w = word_again (codes "constructor") l.0 refl l.3 in
    let z = two_again term func l.1 h l.4 in
    (extern_constructor z.0.0 z.0.1 w.0, (l.0, l.1, l.2, w.1, z.1), (λ i. extern_constructor (z.2.0 i) (z.2.1 i) no_pos))
extern_again (extern_extractor term func p infallible) ts h l =
    let w = word_again (codes "extractor") l.0 refl l.3 in
    let named = and_first (writable_ident term && writable_ident func) (infallible || not (is_word (codes "infallible") term.0)) h in
    let free = and_second (writable_ident term && writable_ident func) (infallible || not (is_word (codes "infallible") term.0)) h in
    let behind = Row (name_sexpr term ∷ name_sexpr func ∷ []) (Closes tt) in
    let f = flag_again (codes "infallible") infallible behind l.1 refl
    (λ e us k. two_names (is_word (codes "infallible")) term func us named k ∙ free_one infallible (is_word (codes "infallible") term.0) free e)
    (row_append (flag (codes "infallible") infallible) (name_sexpr term ∷ name_sexpr func ∷ []) (Closes tt) l.1 l.4) in
    let z = flag_pull (codes "infallible") infallible SpellsTwo (SameTwo term func) l.1
    (flag_map (codes "infallible") infallible behind (λ us. (z : Ident × Ident) × SpellsTwo z us
    × SameTwo term func z) (λ us k. two_again term func us named k) l.1 f) in
    (extern_extractor z.0.0 z.0.1 w.0 infallible, (l.0, l.1, l.2, w.1, z.1), (λ i. extern_extractor (z.2.0 i) (z.2.1 i) no_pos infallible))
extern_again (extern_const name ty p) ts h l =
    let w = word_again (codes "const") l.0 refl l.3 in
    let n = constant_again name l.4.0 (and_first (is_const_name name.0) (writable_ident ty) h) l.4.3 in
    let m = ident_again ty l.4.4.0 (and_second (is_const_name name.0) (writable_ident ty) h) l.4.4.3 in (
      extern_const (ident_at name n.0) m.0 w.0,
      (l.0, l.1, l.2, w.1, (l.4.0, l.4.1, l.4.2, n.1, (l.4.4.0, l.4.4.1, l.4.4.2, m.1, l.4.4.4))),
      (λ i. extern_const (ident_without_pos name) (m.2 i) no_pos),
    )

-- ---- converters and kept definitions

-- what stands behind the word `convert`
pub converter_again : (c : ConverterTree) (ts : List Placed) → writable_converter c ≡ true
    → Row (name_sexpr c.inner_ty ∷ name_sexpr c.outer_ty ∷ name_sexpr c.term ∷ []) (Closes tt) ts
    → Again SpellsConverter converter_without_pos c ts
converter_again c ts h l =
    let two = and_first (writable_ident c.inner_ty && writable_ident c.outer_ty) (writable_ident c.term) h in
    let n = ident_again c.inner_ty l.0 (and_first (writable_ident c.inner_ty) (writable_ident c.outer_ty) two) l.3 in
    let m = ident_again c.outer_ty l.4.0 (and_second (writable_ident c.inner_ty) (writable_ident c.outer_ty) two) l.4.3 in
    let t = ident_again c.term l.4.4.0 (and_second (writable_ident c.inner_ty && writable_ident c.outer_ty) (writable_ident c.term) h) l.4.4.3 in (
      record { term = t.0; inner_ty = n.0; outer_ty = m.0; pos = n.0.1 },
      ((l.0, l.1, l.2, n.1, (l.4.0, l.4.1, l.4.2, m.1, (l.4.4.0, l.4.4.1, l.4.4.2, t.1, l.4.4.4))), refl),
      (λ i. record { term = t.2 i; inner_ty = n.2 i; outer_ty = m.2 i; pos = no_pos }),
    )

-- what stands behind the opening parenthesis
pub kept_again : (k : KeptTree) (ts : List Placed) → writable_kept k ≡ true → Row (name_sexpr k.word ∷ item_sexprs k.items) (Closes tt) ts
    → Again SpellsKept kept_without_pos k ts
kept_again k ts h l =
    let n = name_again is_kept_word (λ s u e. kept_word_is_symbol s e) k.word l.0 (and_first (is_kept_word k.word.0) (writable_items k.items) h) l.3
    in
    let s = row_split (item_sexprs k.items) (Closes tt) l.1 l.4 in
    let a = items_again k.items s.0 (and_second (is_kept_word k.word.0) (writable_items k.items) h) s.3 in (
      record { word = ident_at k.word n.0; items = a.0; pos = first_pos l.1 },
      (l.0, l.1, l.2, n.1, ((s.0, s.1, s.2, a.1, s.4), refl)),
      (λ i. record { word = ident_without_pos k.word; items = a.2 i; pos = no_pos }),
    )
