-- The positions in a spelt tree are positions of its tokens.
use Rattle.std.proofs.Common.{◌≡◌, ℕ, suc, List, [], ◌∷◌, ◌++◌, Bool, true, false, Option, Some, None, IfSome, refl, sym, subst, ◌∙◌}
use Rattle.std.specs.Prelude.{codes}
use Rattle.std.specs.List.{All}
use Rattle.std.proofs.lemmas.List.Elements.{All-nil, All-cons, All-head, All-tail}
use Rattle.isle_ast.specs.declared.pos.Pos.{Pos}
use Rattle.isle_ast.specs.declared.ast.Ident.{Ident}
use Rattle.isle_ast.specs.declared.ast.StructField.{StructField}
use Rattle.isle_ast.specs.declared.ast.Fields.{Fields}
use Rattle.isle_ast.specs.declared.ast.Fields.TheVariants.{Unit as no_fields, Struct as named_fields, Tuple as tuple_fields}
use Rattle.isle_ast.specs.declared.ast.Variant.{Variant}
use Rattle.isle_ast.specs.declared.ast.TypeValue.{TypeValue}
use Rattle.isle_ast.specs.declared.ast.TypeValue.TheVariants.{Primitive, Enum, Struct}
use Rattle.isle_ast.specs.declared.ast.«Type».{«Type» as TypeTree}
use Rattle.isle_ast.specs.declared.ast.Decl.{Decl as DeclTree}
use Rattle.isle_ast.specs.declared.ast.IfLet.{IfLet}
use Rattle.isle_ast.specs.declared.ast.Rule.{Rule as RuleTree}
use Rattle.isle_ast.specs.declared.ast.Extractor.{Extractor as ExtractorTree}
use Rattle.isle_ast.specs.declared.ast.Extern.{Extern as ExternTree}
use Rattle.isle_ast.specs.declared.ast.Extern.TheVariants.{Constructor as extern_constructor, Extractor as extern_extractor, Const as extern_const}
use Rattle.isle_ast.specs.declared.ast.Converter.{Converter as ConverterTree}
use Rattle.isle_ast.specs.declared.ast.Kept.{Kept as KeptTree}
use Rattle.isle_ast.specs.declared.ast.Def.{Def}
use Rattle.isle_ast.specs.declared.ast.Def.TheVariants.{TypeDef, Decl, Rule, Extractor, Extern, Converter, Pragma, Kept}
use Rattle.isle_ast.specs.Trees.PatternTree.{PatternTree, PatternTrees, pattern_var, pattern_bind, pattern_bool, pattern_int, pattern_prim}
use Rattle.isle_ast.specs.Trees.PatternTree.{pattern_term, pattern_wildcard, pattern_and, pattern_macro_arg, no_patterns, more_patterns}
use Rattle.isle_ast.specs.Trees.PatternShape.{pattern_of}
use Rattle.isle_ast.specs.Trees.ExprTree.{ExprTree, ExprTrees, LetTrees, expr_term, expr_var, expr_bool, expr_int, expr_prim, expr_let, no_exprs}
use Rattle.isle_ast.specs.Trees.ExprTree.{more_exprs, no_lets, more_lets}
use Rattle.isle_ast.specs.Trees.ExprShape.{expr_of}
use Rattle.isle_ast.specs.Trees.ItemTree.{ItemTree, ItemTrees, item_int, item_big, item_symbol, item_at, item_list, no_items, more_items}
use Rattle.isle_syntax.specs.Tokens.PlacedTokens.{Placed, closing, pos_of}
use Rattle.isle_syntax.specs.Grammar.Phrases.{◌⊙◌, Closes, Opening, Says, SymbolOf, Flag, Each, Closed, first_pos}
use Rattle.isle_syntax.specs.Grammar.TreeGrammar.{Constant, SpellsPattern, SpellsPatterns, SpellsExpr, SpellsExprs, SpellsLets, SpellsItem}
use Rattle.isle_syntax.specs.Grammar.TreeGrammar.{SpellsItems}
use Rattle.isle_syntax.specs.Grammar.DefGrammar.{SpellsIdent, SpellsField, numbered, SpellsFields, SpellsVariant, bare, in_list, SpellsTypeValue}
use Rattle.isle_syntax.specs.Grammar.DefGrammar.{SpellsType, SpellsSignature, SpellsDecl, SpellsExtractor, SpellsExtern, SpellsConverter, SpellsName}
use Rattle.isle_syntax.specs.Grammar.DefGrammar.{SpellsIfLet, if_let, if_holds, SpellsRule, SpellsKept, SpellsDef, SpellsText}
use Rattle.isle_ast.specs.Positions.DefPositions.{IdentAt, StructFieldAt, TupleFieldAt, FieldsAt, VariantTreeAt, TypeValueAt, TypeTreeAt, DeclAt}
use Rattle.isle_ast.specs.Positions.DefPositions.{PatternTreeAt, PatternTreesAt, ExprTreeAt, ExprTreesAt, LetTreesAt, IfLetAt, RuleAt, ExtractorAt}
use Rattle.isle_ast.specs.Positions.DefPositions.{ExternAt, ConverterAt, ItemTreeAt, ItemTreesAt, KeptAt, DefAt}
use Rattle.isle_syntax.proofs.Productions.Bodies.{nothing_after}
use Rattle.isle_syntax.proofs.Productions.Terms.{decl_filled}
use Rattle.isle_syntax.proofs.Productions.Rules.{rule_filled}

module _ (At : Pos → Type 0) where
  -- the tokens stand at such positions
  abbrev pub Stand : List Placed → Type 0
  Stand [] = Unit {0}
  Stand (t ∷ ts) = At (pos_of t) × Stand ts

  pub stand_from_all : (ts : List Placed) → All (λ t. At (pos_of t)) ts → Stand ts
  stand_from_all [] h = tt
  stand_from_all (t ∷ ts) h = (All-head (λ t. At (pos_of t)) t ts h, stand_from_all ts (All-tail (λ t. At (pos_of t)) t ts h))

  stand_parts : (u v : List Placed) → Stand (u ++ v) → Stand u × Stand v
  stand_parts [] v s = (tt, s)
  stand_parts (t ∷ u) v s = let r = stand_parts u v s.1 in ((s.0, r.0), r.1)

  -- of a phrase of two parts
  pub parts : (ts u v : List Placed) → ts ≡ u ++ v → Stand ts → Stand u × Stand v
  parts ts u v e s = stand_parts u v (subst Stand e s)

  -- of a phrase of one token
  pub one : (ts : List Placed) (t : Placed) → ts ≡ t ∷ [] → Stand ts → At (pos_of t)
  one ts t e s = (subst Stand e s).0

  first_at : (ts : List Placed) → (ts ≡ [] → ⊥) → Stand ts → At (first_pos ts)
  first_at [] filled s = absurd (filled refl)
  first_at (t ∷ ts) filled s = s.0

  each_at : {A : Type 0} (L : A → List Placed → Type 0) (P : A → Type 0) → ((a : A) (u : List Placed) → L a u → Stand u → P a)
      → (rest : List A) (ts : List Placed) → Each L rest ts → Stand ts → All P rest
  each_at L P f [] ts l s = All-nil P
  each_at L P f (a ∷ rest) ts l s = let h = parts ts l.0 l.1 l.2 s in All-cons P a rest (f a l.0 l.3 h.0) (each_at L P f rest l.1 l.4 h.1)

  closed_at : {A : Type 0} (L : A → List Placed → Type 0) (P : A → Type 0) → ((a : A) (u : List Placed) → L a u → Stand u → P a)
      → (rest : List A) (ts : List Placed) → Closed L rest ts → Stand ts → All P rest
  closed_at L P f rest ts l s = each_at L P f rest l.0 l.3 (parts ts l.0 l.1 l.2 s).0

  symbol_at : (p : List ℕ → Bool) (x : Ident) (ts : List Placed) → SymbolOf p x ts → Stand ts → IdentAt At x
  symbol_at p x ts l s = one ts _ l.0 s

  ident_at : (x : Ident) (ts : List Placed) → SpellsIdent x ts → Stand ts → IdentAt At x
  ident_at x ts l s = one ts _ l.0 s

  constant_at : (x : Ident) (ts : List Placed) → Constant x ts → Stand ts → IdentAt At x
  constant_at x ts l s = one ts _ l.0 s

  -- ---- patterns, expressions and items

  mutual
    pub pattern_at : (t : PatternTree) (ts : List Placed) → SpellsPattern t ts → Stand ts → PatternTreeAt At t
    pattern_at (pattern_var x p) ts l s = let a = one ts _ l.0.0 s in (a, subst At (sym l.1) a)
    pattern_at (pattern_bind x sub p) ts l s =
        let h = parts ts l.0.0 l.0.1 l.0.2 s in
        let k = l.0.4 in
        let a = one l.0.0 _ l.0.3.0 h.0 in
        (a, pattern_at sub k.1 k.4 (parts l.0.1 k.0 k.1 k.2 h.1).1, subst At (sym l.1) a)
    pattern_at (pattern_bool b p) ts l s = one ts _ l s
    pattern_at (pattern_int val big p) ts l s = one ts _ l.1 s
    pattern_at (pattern_prim x p) ts l s = let a = one ts _ l.0.0 s in (a, subst At (sym l.1) a)
    pattern_at (pattern_term x args p) ts l s =
        let h = parts ts l.0 l.1 l.2 s in
        let k = l.4 in
        let i = parts l.1 k.0 k.1 k.2 h.1 in
        (one k.0 _ k.3.0 i.0, patterns_at args k.4.0 k.4.3 (parts k.1 k.4.0 k.4.1 k.4.2 i.1).0, one l.0 _ l.3 h.0)
    pattern_at (pattern_wildcard p) ts l s = one ts _ l s
    pattern_at (pattern_and args p) ts l s =
        let h = parts ts l.0 l.1 l.2 s in
        let k = l.4 in
        let i = parts l.1 k.0 k.1 k.2 h.1 in
        (patterns_at args k.4.0 k.4.3 (parts k.1 k.4.0 k.4.1 k.4.2 i.1).0, one l.0 _ l.3 h.0)
    pattern_at (pattern_macro_arg n p) ts l s = absurd l

    patterns_at : (ps : PatternTrees) (ts : List Placed) → SpellsPatterns ps ts → Stand ts → PatternTreesAt At ps
    patterns_at no_patterns ts l s = tt
    patterns_at (more_patterns p ps) ts l s = let h = parts ts l.0 l.1 l.2 s in (pattern_at p l.0 l.3 h.0, patterns_at ps l.1 l.4 h.1)

  mutual
    pub expr_at : (t : ExprTree) (ts : List Placed) → SpellsExpr t ts → Stand ts → ExprTreeAt At t
    expr_at (expr_term x args p) ts l s =
        let h = parts ts l.0 l.1 l.2 s in
        let k = l.4 in
        let i = parts l.1 k.0 k.1 k.2 h.1 in
        (one k.0 _ k.3.0 i.0, exprs_at args k.4.0 k.4.3 (parts k.1 k.4.0 k.4.1 k.4.2 i.1).0, one l.0 _ l.3 h.0)
    expr_at (expr_var x p) ts l s = let a = one ts _ l.0.0 s in (a, subst At (sym l.1) a)
    expr_at (expr_bool b p) ts l s = one ts _ l s
    expr_at (expr_int val big p) ts l s = one ts _ l.1 s
    expr_at (expr_prim x p) ts l s = let a = one ts _ l.0.0 s in (a, subst At (sym l.1) a)
    expr_at (expr_let ds e p) ts l s =
        let h = parts ts l.0 l.1 l.2 s in
        let k = l.4 in
        let i = parts l.1 k.0 k.1 k.2 h.1 in
        let o = k.4 in
        let j = parts k.1 o.0 o.1 o.2 i.1 in
        let m = o.4 in
        let n = parts o.1 m.0 m.1 m.2 j.1 in
        let c = m.4 in
        let q = parts m.1 c.0 c.1 c.2 n.1 in
        let b = c.4 in
        (lets_at ds m.0 m.3 n.0, expr_at e b.0 b.3 (parts c.1 b.0 b.1 b.2 q.1).0, one l.0 _ l.3 h.0)

    exprs_at : (es : ExprTrees) (ts : List Placed) → SpellsExprs es ts → Stand ts → ExprTreesAt At es
    exprs_at no_exprs ts l s = tt
    exprs_at (more_exprs e es) ts l s = let h = parts ts l.0 l.1 l.2 s in (expr_at e l.0 l.3 h.0, exprs_at es l.1 l.4 h.1)

    lets_at : (ds : LetTrees) (ts : List Placed) → SpellsLets ds ts → Stand ts → LetTreesAt At ds
    lets_at no_lets ts l s = tt
    lets_at (more_lets var ty val p ds) ts l s =
        let h = parts ts l.0 l.1 l.2 s in
        let b = l.3 in
        let i = parts l.0 b.0 b.1 b.2 h.0 in
        let v = b.4 in
        let j = parts b.1 v.0 v.1 v.2 i.1 in
        let t = v.4 in
        let k = parts v.1 t.0 t.1 t.2 j.1 in
        let e = t.4 in
        (one v.0 _ v.3.0 j.0, one t.0 _ t.3.0 k.0, expr_at val e.0 e.3 (parts t.1 e.0 e.1 e.2 k.1).0, one b.0 _ b.3 i.0, lets_at ds l.1 l.4 h.1)

  mutual
    pub item_spelt_at : (t : ItemTree) (ts : List Placed) → SpellsItem t ts → Stand ts → ItemTreeAt At t
    item_spelt_at (item_int z p) ts l s = one ts _ l s
    item_spelt_at (item_big n p) ts l s = one ts _ l s
    item_spelt_at (item_symbol x) ts l s = one ts _ l s
    item_spelt_at (item_at p) ts l s = one ts _ l s
    item_spelt_at (item_list items p) ts l s =
        let h = parts ts l.0 l.1 l.2 s in
        let k = l.4 in
        (items_spelt_at items k.0 k.3 (parts l.1 k.0 k.1 k.2 h.1).0, one l.0 _ l.3 h.0)

    pub items_spelt_at : (is : ItemTrees) (ts : List Placed) → SpellsItems is ts → Stand ts → ItemTreesAt At is
    items_spelt_at no_items ts l s = tt
    items_spelt_at (more_items i is) ts l s = let h = parts ts l.0 l.1 l.2 s in (item_spelt_at i l.0 l.3 h.0, items_spelt_at is l.1 l.4 h.1)

  -- ---- types

  field_at : (f : StructField) (ts : List Placed) → SpellsField f ts → Stand ts → StructFieldAt At f
  field_at f ts l s =
      let h = parts ts l.0 l.1 l.2 s in
      let k = l.4 in
      let i = parts l.1 k.0 k.1 k.2 h.1 in
      let t = k.4 in
      record { name = ident_at f.name k.0 k.3 i.0; ty = ident_at f.ty t.0 t.3 (parts k.1 t.0 t.1 t.2 i.1).0; pos = one l.0 _ l.3 h.0 }

  numbered_at : (n : ℕ) (tys : List Ident) → All (IdentAt At) tys → All (TupleFieldAt At) (numbered n tys)
  numbered_at n [] h = All-nil (TupleFieldAt At)
  numbered_at n (x ∷ tys) h =
      let a = All-head (IdentAt At) x tys h in
      let first : TupleFieldAt At (record { index = n; ty = x; pos = x.1 }) = record { ty = a; pos = a } in
      All-cons (TupleFieldAt At) _ (numbered (suc n) tys) first (numbered_at (suc n) tys (All-tail (IdentAt At) x tys h))

  fields_at : (b : Fields) (ts : List Placed) → SpellsFields b ts → Stand ts → FieldsAt At b
  fields_at no_fields ts l s = tt
  fields_at (named_fields fs) ts l s = closed_at SpellsField (StructFieldAt At) field_at fs.fields ts l.0 s
  fields_at (tuple_fields fs) ts l s =
      subst (All (TupleFieldAt At)) (sym l.2) (numbered_at 0 l.0 (closed_at SpellsIdent (IdentAt At) ident_at l.0 ts l.1 s))

  variant_at : (b : Variant) (ts : List Placed) → SpellsVariant b ts → Stand ts → VariantTreeAt At b
  variant_at b ts (bare l p f) s = let a = ident_at b.name ts l s in
      record { name = a; fields = subst (FieldsAt At) (sym f) tt; pos = subst At (sym p) a }
  variant_at b ts (in_list l) s =
      let h = parts ts l.0 l.1 l.2 s in
      let k = l.4 in
      let i = parts l.1 k.0 k.1 k.2 h.1 in
      record { name = ident_at b.name k.0 k.3 i.0; fields = fields_at b.fields k.1 k.4 i.1; pos = one l.0 _ l.3 h.0 }

  type_value_at : (b : TypeValue) (ts : List Placed) → SpellsTypeValue b ts → Stand ts → TypeValueAt At b
  type_value_at (Primitive x p) ts l s =
      let h = parts ts l.0 l.1 l.2 s in
      let k = l.4 in
      let i = parts l.1 k.0 k.1 k.2 h.1 in
      let c = k.4 in
      (ident_at x c.0 c.3 (parts k.1 c.0 c.1 c.2 i.1).0, one l.0 _ l.3 h.0)
  type_value_at (Enum vs p) ts l s =
      let h = parts ts l.0 l.1 l.2 s in
      let k = l.4 in
      (closed_at SpellsVariant (VariantTreeAt At) variant_at vs k.1 k.4 (parts l.1 k.0 k.1 k.2 h.1).1, one l.0 _ l.3 h.0)
  type_value_at (Struct fs p) ts l s =
      let h = parts ts l.0 l.1 l.2 s in
      let k = l.4 in
      (fields_at fs k.1 k.4 (parts l.1 k.0 k.1 k.2 h.1).1, one l.0 _ l.3 h.0)

  type_at : (b : TypeTree) (ts : List Placed) → SpellsType b ts → Stand ts → TypeTreeAt At b
  type_at b ts l s =
      let h = parts ts l.0.0 l.0.1 l.0.2 s in
      let k = l.0.4 in
      let i = parts l.0.1 k.0 k.1 k.2 h.1 in
      let v = k.4 in
      let name = ident_at b.name l.0.0 l.0.3 h.0 in
      record { name = name; ty = type_value_at b.ty v.0 v.3 (parts k.1 v.0 v.1 v.2 i.1).0; pos = subst At (sym l.1) name }

  -- ---- terms

  flag_at : (w : List ℕ) (b : Bool) (L : List Placed → Type 0) (P : Type 0) → ((u : List Placed) → L u → Stand u → P) → (ts : List Placed)
      → Flag w b L ts → Stand ts → P
  flag_at w true L P f ts l s = f l.1 l.4 (parts ts l.0 l.1 l.2 s).1
  flag_at w false L P f ts l s = f ts l.0 s

  -- the positions in a declaration but for its own
  abbrev SignatureAt : DeclTree → Type 0
  SignatureAt d = IdentAt At d.term × All (IdentAt At) d.arg_tys × IdentAt At d.ret_ty

  signature_at : (b : DeclTree) (ts : List Placed) → SpellsSignature b ts → Stand ts → SignatureAt b
  signature_at b ts l s =
      let h = parts ts l.0 l.1 l.2 s in
      let o = l.4 in
      let i = parts l.1 o.0 o.1 o.2 h.1 in
      let c = o.4 in
      let j = parts o.1 c.0 c.1 c.2 i.1 in
      let r = c.4 in (
        ident_at b.term l.0 l.3 h.0,
        closed_at SpellsIdent (IdentAt At) ident_at b.arg_tys c.0 c.3 j.0,
        ident_at b.ret_ty r.0 r.3 (parts c.1 r.0 r.1 r.2 j.1).0,
      )

  decl_at : (b : DeclTree) (ts : List Placed) → SpellsDecl b ts → Stand ts → DeclAt At b
  decl_at b ts l s =
      let with_rec = flag_at (codes "rec") b.rec (SpellsSignature b) (SignatureAt b) (signature_at b) in
      let with_partial = flag_at (codes "partial") b.partial (Flag (codes "rec") b.rec (SpellsSignature b)) (SignatureAt b) with_rec in
      let with_multi = flag_at (codes "multi") b.multi (Flag (codes "partial") b.partial (Flag (codes "rec") b.rec (SpellsSignature b)))
      (SignatureAt b) with_partial in
      let a = flag_at (codes "pure") b.pure (Flag (codes "multi") b.multi
      (Flag (codes "partial") b.partial (Flag (codes "rec") b.rec (SpellsSignature b)))) (SignatureAt b) with_multi ts l.0 s in
      record { term = a.0; arg_tys = a.1; ret_ty = a.2; pos = subst At l.1 (first_at ts (decl_filled b ts l) s) }

  extractor_at : (b : ExtractorTree) (ts : List Placed) → SpellsExtractor b ts → Stand ts → ExtractorAt At b
  extractor_at b ts l s =
      let h = parts ts l.0 l.1 l.2 s in
      let k = l.4 in
      let i = parts l.1 k.0 k.1 k.2 h.1 in
      let a = k.3 in
      let j = parts k.0 a.0 a.1 a.2 i.0 in
      let t = k.4 in
      record {
        term = ident_at b.term a.0 a.3 j.0;
        args = closed_at SpellsIdent (IdentAt At) ident_at b.args a.1 a.4 j.1;
        template = pattern_at (pattern_of b.template) t.0 t.3 (parts k.1 t.0 t.1 t.2 i.1).0;
        pos = one l.0 _ l.3 h.0;
      }

  two_names_at : (x y : Ident) (ts : List Placed) → (SpellsIdent x ⊙ (SpellsIdent y ⊙ Closes tt)) ts → Stand ts → IdentAt At x × IdentAt At y
  two_names_at x y ts l s =
      let h = parts ts l.0 l.1 l.2 s in
      let k = l.4 in
      (ident_at x l.0 l.3 h.0, ident_at y k.0 k.3 (parts l.1 k.0 k.1 k.2 h.1).0)

  extern_at : (b : ExternTree) (ts : List Placed) → SpellsExtern b ts → Stand ts → ExternAt At b
  extern_at (extern_constructor term func p) ts l s =
      let h = parts ts l.0 l.1 l.2 s in
      let a = two_names_at term func l.1 l.4 h.1 in
      (a.0, a.1, one l.0 _ l.3 h.0)
  extern_at (extern_extractor term func p infallible) ts l s =
      let h = parts ts l.0 l.1 l.2 s in
      let a = flag_at (codes "infallible") infallible (SpellsIdent term ⊙ (SpellsIdent func ⊙ Closes tt)) (IdentAt At term
      × IdentAt At func) (two_names_at term func) l.1 l.4 h.1 in
      (a.0, a.1, one l.0 _ l.3 h.0)
  extern_at (extern_const name ty p) ts l s =
      let h = parts ts l.0 l.1 l.2 s in
      let k = l.4 in
      let i = parts l.1 k.0 k.1 k.2 h.1 in
      let t = k.4 in
      (constant_at name k.0 k.3 i.0, ident_at ty t.0 t.3 (parts k.1 t.0 t.1 t.2 i.1).0, one l.0 _ l.3 h.0)

  converter_at : (b : ConverterTree) (ts : List Placed) → SpellsConverter b ts → Stand ts → ConverterAt At b
  converter_at b ts l s =
      let h = parts ts l.0.0 l.0.1 l.0.2 s in
      let a = two_names_at b.outer_ty b.term l.0.1 l.0.4 h.1 in
      let inner = ident_at b.inner_ty l.0.0 l.0.3 h.0 in
      record { term = a.1; inner_ty = inner; outer_ty = a.0; pos = subst At (sym l.1) inner }

  -- ---- rules

  if_let_at : (b : IfLet) (ts : List Placed) → SpellsIfLet b ts → Stand ts → IfLetAt At b
  if_let_at b ts (if_let l) s =
      let h = parts ts l.0 l.1 l.2 s in
      let k = l.4 in
      let i = parts l.1 k.0 k.1 k.2 h.1 in
      let p = k.4 in
      let j = parts k.1 p.0 p.1 p.2 i.1 in
      let e = p.4 in
      record {
        pattern = pattern_at (pattern_of b.pattern) p.0 p.3 j.0;
        expr = expr_at (expr_of b.expr) e.0 e.3 (parts p.1 e.0 e.1 e.2 j.1).0;
        pos = one l.0 _ l.3 h.0;
      }
  if_let_at b ts (if_holds q l same) s =
      let h = parts ts l.0 l.1 l.2 s in
      let k = l.4 in
      let i = parts l.1 k.0 k.1 k.2 h.1 in
      let e = k.4 in
      let word : PatternTreeAt At (pattern_wildcard q) = one k.0 _ k.3 i.0 in
      record {
        pattern = subst (PatternTreeAt At) (sym same) word;
        expr = expr_at (expr_of b.expr) e.0 e.3 (parts k.1 e.0 e.1 e.2 i.1).0;
        pos = one l.0 _ l.3 h.0;
      }

  name_at : (o : Option Ident) (ts : List Placed) → SpellsName o ts → Stand ts → IfSome o (IdentAt At)
  name_at None ts l s = tt
  name_at (Some x) ts l s = ident_at x ts l s

  rule_at : (b : RuleTree) (ts : List Placed) → SpellsRule b ts → Stand ts → RuleAt At b
  rule_at b ts l s =
      let r = l.0 in
      let h = parts ts r.0 r.1 r.2 s in
      let n = r.4 in
      let i = parts r.1 n.0 n.1 n.2 h.1 in
      let p = n.4 in
      let j = parts n.1 p.0 p.1 p.2 i.1 in
      let c = p.4 in
      let k = parts p.1 c.0 c.1 c.2 j.1 in
      let e = c.4 in
      record {
        pattern = pattern_at (pattern_of b.pattern) p.0 p.3 j.0;
        iflets = each_at SpellsIfLet (IfLetAt At) if_let_at b.iflets c.0 c.3 k.0;
        expr = expr_at (expr_of b.expr) e.0 e.3.0 (parts c.1 e.0 e.1 e.2 k.1).0;
        pos = subst At l.2 (first_at ts (rule_filled b ts l) s);
        name = name_at b.name r.0 r.3 h.0;
      }

  -- ---- definitions

  closing_filled : (ts u : List Placed) (L : List Placed → Type 0) → (L ⊙ Closes tt) ts → ts ≡ [] → ⊥
  closing_filled ts u L l e = let k : closing l.4.0 ∷ [] ≡ [] = sym l.4.1 ∙ nothing_after l.0 l.1 (sym l.2 ∙ e) in cc

  kept_at : (b : KeptTree) (ts : List Placed) → SpellsKept b ts → Stand ts → KeptAt At b
  kept_at b ts l s =
      let h = parts ts l.0 l.1 l.2 s in
      let k = l.4.0 in record {
        word = one l.0 _ l.3.0 h.0;
        items = items_spelt_at b.items k.0 k.3 (parts l.1 k.0 k.1 k.2 h.1).0;
        pos = subst At l.4.1 (first_at l.1 (closing_filled l.1 [] (SpellsItems b.items) k) h.1);
      }

  -- behind a definition's parenthesis and its word
  after_word : (w : List ℕ) (L : List Placed → Type 0) (ts : List Placed) → (l : (Opening tt ⊙ (Says w tt ⊙ L)) ts) → Stand ts → Stand l.4.1
  after_word w L ts l s = (parts l.1 l.4.0 l.4.1 l.4.2 (parts ts l.0 l.1 l.2 s).1).1

  def_at : (b : Def) (ts : List Placed) → SpellsDef b ts → Stand ts → DefAt At b
  def_at (TypeDef t) ts l s = type_at t l.4.1 l.4.4 (after_word (codes "type") (SpellsType t) ts l s)
  def_at (Decl d) ts l s = decl_at d l.4.1 l.4.4 (after_word (codes "decl") (SpellsDecl d) ts l s)
  def_at (Rule r) ts l s = rule_at r l.4.1 l.4.4 (after_word (codes "rule") (SpellsRule r) ts l s)
  def_at (Extractor x) ts l s = extractor_at x l.4.1 l.4.4 (after_word (codes "extractor") (SpellsExtractor x) ts l s)
  def_at (Extern x) ts l s = extern_at x l.4.1 l.4.4 (after_word (codes "extern") (SpellsExtern x) ts l s)
  def_at (Converter c) ts l s = converter_at c l.4.1 l.4.4 (after_word (codes "convert") (SpellsConverter c) ts l s)
  def_at (Pragma p) ts l s = absurd l
  def_at (Kept k) ts l s = kept_at k l.1 l.4 (parts ts l.0 l.1 l.2 s).1

-- of a definition, and of a text
pub def_places : (At : Pos → Type 0) (def : Def) (ts : List Placed) → SpellsDef def ts → All (λ t. At (pos_of t)) ts → DefAt At def
def_places At def ts l h = def_at At def ts l (stand_from_all At ts h)

pub text_places : (At : Pos → Type 0) (defs : List Def) (ts : List Placed) → SpellsText defs ts → All (λ t. At (pos_of t)) ts → All (DefAt At) defs
text_places At defs ts l h = each_at At SpellsDef (DefAt At) (def_at At) defs ts l (stand_from_all At ts h)
