-- The same tokens at other places spell the same definitions, but for positions.
use Rattle.std.proofs.Common.{◌≡◌, ℕ, suc, List, [], ◌∷◌, map, Bool, Option, None, Some, refl, ap, ◌∙◌, sym, subst}
use Rattle.std.specs.Prelude.{ℤ, codes}
use Rattle.std.specs.List.{list_any}
use Rattle.std.specs.Option.{option_map}
use Rattle.isle_ast.specs.declared.pos.Pos.{Pos}
use Rattle.isle_ast.specs.declared.ast.Ident.{Ident}
use Rattle.isle_ast.specs.declared.ast.StructField.{StructField}
use Rattle.isle_ast.specs.declared.ast.Fields.{Fields}
use Rattle.isle_ast.specs.declared.ast.Fields.TheVariants.{Unit as no_fields, Struct as named_fields, Tuple as tuple_fields}
use Rattle.isle_ast.specs.declared.ast.Variant.{Variant}
use Rattle.isle_ast.specs.declared.ast.TypeValue.{TypeValue}
use Rattle.isle_ast.specs.declared.ast.TypeValue.TheVariants.{Primitive, Enum, Struct}
use Rattle.isle_ast.specs.declared.ast.«Type».{«Type» as TypeTree}
use Rattle.isle_ast.specs.declared.ast.Decl.{Decl as DeclTree}
use Rattle.isle_ast.specs.declared.ast.Pattern.{Pattern}
use Rattle.isle_ast.specs.declared.ast.Pattern.TheVariants as pattern
use Rattle.isle_ast.specs.declared.ast.Expr.{Expr}
use Rattle.isle_ast.specs.declared.ast.IfLet.{IfLet}
use Rattle.isle_ast.specs.declared.ast.Rule.{Rule as RuleTree}
use Rattle.isle_ast.specs.declared.ast.Extractor.{Extractor as ExtractorTree}
use Rattle.isle_ast.specs.declared.ast.Extern.{Extern as ExternTree}
use Rattle.isle_ast.specs.declared.ast.Extern.TheVariants.{Constructor as extern_constructor, Extractor as extern_extractor, Const as extern_const}
use Rattle.isle_ast.specs.declared.ast.Converter.{Converter as ConverterTree}
use Rattle.isle_ast.specs.declared.ast.Kept.{Kept as KeptTree}
use Rattle.isle_ast.specs.declared.ast.Def.{Def}
use Rattle.isle_ast.specs.declared.ast.Def.TheVariants.{TypeDef, Decl, Rule, Extractor, Extern, Converter, Pragma, Kept}
use Rattle.isle_ast.specs.Trees.PatternTree.{PatternTree, pattern_wildcard}
use Rattle.isle_ast.specs.Trees.PatternShape.{pattern_of}
use Rattle.isle_ast.specs.Trees.ExprTree.{ExprTree, expr_term, expr_var, expr_bool, expr_int, expr_prim, expr_let}
use Rattle.isle_ast.specs.Trees.ExprShape.{expr_of}
use Rattle.isle_ast.specs.Trees.ItemTree.{ItemTrees}
use Rattle.isle_ast.specs.Trees.WithoutPos.{no_pos, ident_without_pos, pattern_tree_without_pos, pattern_without_pos, expr_tree_without_pos, expr_without_pos}
use Rattle.isle_ast.specs.Trees.WithoutPos.{item_trees_without_pos, struct_field_without_pos, tuple_field_without_pos, fields_without_pos}
use Rattle.isle_ast.specs.Trees.WithoutPos.{variant_without_pos, type_value_without_pos, type_without_pos, decl_without_pos, iflet_without_pos}
use Rattle.isle_ast.specs.Trees.WithoutPos.{rule_without_pos, extractor_without_pos, extern_without_pos, converter_without_pos, kept_without_pos}
use Rattle.isle_ast.specs.Trees.WithoutPos.{def_without_pos}
use Rattle.isle_syntax.specs.Inside.Reading.DefReading.{pattern_from, expr_from}
use Rattle.isle_syntax.specs.Tokens.PlacedTokens.{small, Placed, int}
use Rattle.isle_syntax.specs.Tokens.Names.{is_ident}
use Rattle.isle_syntax.specs.Grammar.Phrases.{◌⊙◌, Closes, first_pos}
use Rattle.isle_syntax.specs.Grammar.TreeGrammar.{IsList, SpellsItems}
use Rattle.isle_syntax.specs.Grammar.DefGrammar.{SpellsIdent, SpellsField, numbered, IsFilled, SpellsFields, SpellsVariant, bare, in_list, SpellsTypeValue}
use Rattle.isle_syntax.specs.Grammar.DefGrammar.{Mark, extern_mark, nodebug_mark, SpellsMark, is_extern_mark, is_nodebug_mark, SpellsMarks, SpellsType}
use Rattle.isle_syntax.specs.Grammar.DefGrammar.{SpellsDecl, SpellsExtractor, SpellsExtern, SpellsConverter, SpellsName, SpellsPriority, SpellsIfLet}
use Rattle.isle_syntax.specs.Grammar.DefGrammar.{if_let, if_holds, IsRightSide, SpellsRightSide, SpellsRule, is_kept_word, SpellsKept, SpellsDef}
use Rattle.isle_layout.proofs.ReadsBack.Terms.{pattern_back}
use Rattle.isle_layout.proofs.ReadsBack.Rules.{expr_there, expr_moved, expr_back}
use Rattle.isle_layout.proofs.Keeping.Moved.{SameTokens, same_one, Moves, both, each, opens, closes, opening_sign, word, says, symbol_of, constant, closed, flagged}
use Rattle.isle_layout.proofs.Keeping.MovedTrees.{whole_pattern_moves, expr_moves, whole_expr_moves, items_move}

head_same : {A : Type 0} {x y : A} {xs ys : List A} → x ∷ xs ≡ y ∷ ys → x ≡ y
head_same e = cc

tail_same : {A : Type 0} {x y : A} {xs ys : List A} → x ∷ xs ≡ y ∷ ys → xs ≡ ys
tail_same e = cc

ident_moves : (x : Ident) → Moves SpellsIdent ident_without_pos x
ident_moves x = symbol_of is_ident x

-- ---- types

field_moves : (f : StructField) → Moves SpellsField struct_field_without_pos f
field_moves f =
    let all = both (opens f.pos) (both (ident_moves f.name) (both (ident_moves f.ty) closes)) in
    record {
      move = λ ts us l m.
          let r = all.move ts us l m in (
            record { name = r.0.1.0; ty = r.0.1.1.0; pos = r.0.0 },
            r.1,
            (λ i. record { name = (r.2 i).1.0; ty = (r.2 i).1.1.0; pos = no_pos }),
          );
    }

filled_same : {A B : Type 0} (f : A → B) (bs values : List A) → map f bs ≡ map f values → IsFilled values → IsFilled bs
filled_same f [] [] e h = h
filled_same f [] (a ∷ values) e h = absurd (cc)
filled_same f (b ∷ bs) values e h = tt

numbered_same : (n : ℕ) (xs ys : List Ident) → map ident_without_pos xs ≡ map ident_without_pos ys
    → map tuple_field_without_pos (numbered n xs) ≡ map tuple_field_without_pos (numbered n ys)
numbered_same n [] [] e = refl
numbered_same n [] (y ∷ ys) e = absurd (cc)
numbered_same n (x ∷ xs) [] e = absurd (cc)
numbered_same n (x ∷ xs) (y ∷ ys) e =
    (λ i. record { index = n; ty = head_same e i; pos = no_pos } ∷ numbered_same (suc n) xs ys (tail_same e) i)

fields_moves : (f : Fields) → Moves SpellsFields fields_without_pos f
fields_moves no_fields = record { move = λ ts us l m. (no_fields, (closes.move ts us l m).1, refl) }
fields_moves (named_fields fs) = record {
  move = λ ts us l m.
      let r = (closed field_moves fs.fields).move ts us l.0 m in (
        named_fields (record { fields = r.0 }),
        (r.1, filled_same struct_field_without_pos r.0 fs.fields r.2 l.1),
        (λ i. named_fields (record { fields = r.2 i })),
      );
}
fields_moves (tuple_fields fs) = record {
  move = λ ts us l m.
      let r = (closed ident_moves l.0).move ts us l.1 m in
      let same = numbered_same 0 r.0 l.0 r.2 ∙ ap (map tuple_field_without_pos) (sym l.2) in (
        tuple_fields (record { fields = numbered 0 r.0 }),
        (r.0, r.1, refl, filled_same ident_without_pos r.0 l.0 r.2 l.3),
        (λ i. tuple_fields (record { fields = same i })),
      );
}

variant_again : (v : Variant) (ts us : List Placed) → SpellsVariant v ts → SameTokens ts us
    → (b : Variant) × SpellsVariant b us × (variant_without_pos b ≡ variant_without_pos v)
variant_again v ts us (bare l p f) m =
    let r = (ident_moves v.name).move ts us l m in
    let fields = ap fields_without_pos (sym f) in (
      record { name = r.0; fields = no_fields; pos = r.0.1 },
      bare r.1 refl refl,
      (λ i. record { name = r.2 i; fields = fields i; pos = no_pos }),
    )
variant_again v ts us (in_list l) m =
    let all = both (opens v.pos) (both (ident_moves v.name) (fields_moves v.fields)) in
    let r = all.move ts us l m in (
      record { name = r.0.1.0; fields = r.0.1.1; pos = r.0.0 },
      in_list r.1,
      (λ i. record { name = (r.2 i).1.0; fields = (r.2 i).1.1; pos = no_pos }),
    )

variant_moves : (v : Variant) → Moves SpellsVariant variant_without_pos v
variant_moves v = record { move = λ ts us l m. variant_again v ts us l m }

value_moves : (v : TypeValue) → Moves SpellsTypeValue type_value_without_pos v
value_moves (Primitive x p) =
    let all = both (opens p) (both (says (codes "primitive")) (both (ident_moves x) closes)) in
    record { move = λ ts us l m. let r = all.move ts us l m in (Primitive r.0.1.1.0 r.0.0, r.1, (λ i. Primitive (r.2 i).1.1.0 no_pos)) }
value_moves (Enum variants p) =
    let all = both (opens p) (both (says (codes "enum")) (closed variant_moves variants)) in
    record { move = λ ts us l m. let r = all.move ts us l m in (Enum r.0.1.1 r.0.0, r.1, (λ i. Enum (r.2 i).1.1 no_pos)) }
value_moves (Struct fields p) =
    let all = both (opens p) (both (says (codes "struct")) (fields_moves fields)) in
    record { move = λ ts us l m. let r = all.move ts us l m in (Struct r.0.1.1 r.0.0, r.1, (λ i. Struct (r.2 i).1.1 no_pos)) }

mark_moves : (k : Mark) → Moves SpellsMark (λ j. j) k
mark_moves extern_mark = record { move = λ ts us l m. (extern_mark, ((says (codes "extern")).move ts us l m).1, refl) }
mark_moves nodebug_mark = record { move = λ ts us l m. (nodebug_mark, ((says (codes "nodebug")).move ts us l m).1, refl) }

map_same : {A : Type 0} (xs : List A) → map (λ x. x) xs ≡ xs
map_same [] = refl
map_same (x ∷ xs) = ap (λ r. x ∷ r) (map_same xs)

marks_move : (is_extern is_nodebug : Bool) → Moves {A = Unit {0}} (λ x. SpellsMarks is_extern is_nodebug) (λ x. x) tt
marks_move is_extern is_nodebug = record {
  move = λ ts us l m.
      let r = (each mark_moves l.0).move ts us l.1 m in
      let same : l.0 ≡ r.0 = sym (sym (map_same r.0) ∙ r.2 ∙ map_same l.0) in
      (tt, (r.0, r.1, l.2 ∙ ap (list_any is_extern_mark) same, l.3 ∙ ap (list_any is_nodebug_mark) same), refl);
}

type_moves : (t : TypeTree) → Moves SpellsType type_without_pos t
type_moves t =
    let all = both (ident_moves t.name) (both (marks_move t.is_extern t.is_nodebug) (both (value_moves t.ty) closes)) in
    record {
      move = λ ts us l m.
          let r = all.move ts us l.0 m in (
            record { name = r.0.0; is_extern = t.is_extern; is_nodebug = t.is_nodebug; ty = r.0.1.1.0; pos = r.0.0.1 },
            (r.1, refl),
            (λ i. record { name = (r.2 i).0; is_extern = t.is_extern; is_nodebug = t.is_nodebug; ty = (r.2 i).1.1.0; pos = no_pos }),
          );
    }

-- ---- terms

decl_moves : (d : DeclTree) → Moves SpellsDecl decl_without_pos d
decl_moves d =
    let signature = both (ident_moves d.term) (both opening_sign (both (closed ident_moves d.arg_tys) (both (ident_moves d.ret_ty) closes))) in
    let all = flagged (codes "pure") d.pure (flagged (codes "multi") d.multi (flagged (codes "partial") d.partial
    (flagged (codes "rec") d.rec signature))) in
    record {
      move = λ ts us l m.
          let r = all.move ts us l.0 m in (
            record {
              term = r.0.0;
              arg_tys = r.0.1.1.0;
              ret_ty = r.0.1.1.1.0;
              pure = d.pure;
              multi = d.multi;
              partial = d.partial;
              rec = d.rec;
              pos = first_pos us;
            },
            (r.1, refl),
            (λ i. record {
              term = (r.2 i).0;
              arg_tys = (r.2 i).1.1.0;
              ret_ty = (r.2 i).1.1.1.0;
              pure = d.pure;
              multi = d.multi;
              partial = d.partial;
              rec = d.rec;
              pos = no_pos;
            }),
          );
    }

extractor_moves : (x : ExtractorTree) → Moves SpellsExtractor extractor_without_pos x
extractor_moves x =
    let all = both (opens x.pos) (both (both (ident_moves x.term) (closed ident_moves x.args)) (both (whole_pattern_moves x.template) closes)) in
    record {
      move = λ ts us l m.
          let r = all.move ts us l m in (
            record { term = r.0.1.0.0; args = r.0.1.0.1; template = r.0.1.1.0; pos = r.0.0 },
            r.1,
            (λ i. record { term = (r.2 i).1.0.0; args = (r.2 i).1.0.1; template = (r.2 i).1.1.0; pos = no_pos }),
          );
    }

extern_moves : (x : ExternTree) → Moves SpellsExtern extern_without_pos x
extern_moves (extern_constructor term func p) =
    let all = both (word (codes "constructor") p) (both (ident_moves term) (both (ident_moves func) closes)) in
    record {
      move = λ ts us l m.
          let r = all.move ts us l m in
          (extern_constructor r.0.1.0 r.0.1.1.0 r.0.0, r.1, (λ i. extern_constructor (r.2 i).1.0 (r.2 i).1.1.0 no_pos));
    }
extern_moves (extern_extractor term func p infallible) =
    let names = both (ident_moves term) (both (ident_moves func) closes) in
    let all = both (word (codes "extractor") p) (flagged (codes "infallible") infallible names) in
    record {
      move = λ ts us l m.
          let r = all.move ts us l m in (
            extern_extractor r.0.1.0 r.0.1.1.0 r.0.0 infallible,
            r.1,
            (λ i. extern_extractor (r.2 i).1.0 (r.2 i).1.1.0 no_pos infallible),
          );
    }
extern_moves (extern_const name ty p) =
    let all = both (word (codes "const") p) (both (constant name) (both (ident_moves ty) closes)) in
    record {
      move = λ ts us l m.
          let r = all.move ts us l m in
          (extern_const r.0.1.0 r.0.1.1.0 r.0.0, r.1, (λ i. extern_const (r.2 i).1.0 (r.2 i).1.1.0 no_pos));
    }

converter_moves : (c : ConverterTree) → Moves SpellsConverter converter_without_pos c
converter_moves c =
    let all = both (ident_moves c.inner_ty) (both (ident_moves c.outer_ty) (both (ident_moves c.term) closes)) in
    record {
      move = λ ts us l m.
          let r = all.move ts us l.0 m in (
            record { term = r.0.1.1.0; inner_ty = r.0.0; outer_ty = r.0.1.0; pos = r.0.0.1 },
            (r.1, refl),
            (λ i. record { term = (r.2 i).1.1.0; inner_ty = (r.2 i).0; outer_ty = (r.2 i).1.0; pos = no_pos }),
          );
    }

-- ---- rules

name_moves : (name : Option Ident) → Moves SpellsName (option_map ident_without_pos) name
name_moves None = record { move = λ ts us l m. (None, subst (λ r. SameTokens r us) l m, refl) }
name_moves (Some x) = record { move = λ ts us l m. let r = (ident_moves x).move ts us l m in (Some r.0, r.1, ap Some r.2) }

priority_moves : (prio : Option ℤ) → Moves SpellsPriority (λ z. z) prio
priority_moves None = record { move = λ ts us l m. (None, subst (λ r. SameTokens r us) l m, refl) }
priority_moves (Some z) = record {
  move = λ ts us l m.
      let n = same_one (int l.0 (small z)) ts us l.1 m in
      (Some z, (n.2.0, n.1 ∙ ap (λ u. u ∷ []) n.2.1, l.2), refl);
}

iflet_again : (c : IfLet) (ts us : List Placed) → SpellsIfLet c ts → SameTokens ts us
    → (b : IfLet) × SpellsIfLet b us × (iflet_without_pos b ≡ iflet_without_pos c)
iflet_again c ts us (if_let l) m =
    let all = both (opens c.pos) (both (says (codes "if-let")) (both (whole_pattern_moves c.pattern) (both (whole_expr_moves c.expr) closes))) in
    let r = all.move ts us l m in (
      record { pattern = r.0.1.1.0; expr = r.0.1.1.1.0; pos = r.0.0 },
      if_let r.1,
      (λ i. record { pattern = (r.2 i).1.1.0; expr = (r.2 i).1.1.1.0; pos = no_pos }),
    )
iflet_again c ts us (if_holds p l e) m =
    let all = both (opens c.pos) (both (word (codes "if") p) (both (whole_expr_moves c.expr) closes)) in
    let r = all.move ts us l m in
    let same = ap (λ (t : PatternTree). pattern_from (pattern_tree_without_pos t)) (sym e) ∙ pattern_back c.pattern in (
      record { pattern = pattern_from (pattern_wildcard r.0.1.0); expr = r.0.1.1.0; pos = r.0.0 },
      if_holds r.0.1.0 r.1 refl,
      (λ i. record { pattern = same i; expr = (r.2 i).1.1.0; pos = no_pos }),
    )

iflet_moves : (c : IfLet) → Moves SpellsIfLet iflet_without_pos c
iflet_moves c = record { move = λ ts us l m. iflet_again c ts us l m }

right_forgotten : (t : ExprTree) → IsRightSide t → IsRightSide (expr_tree_without_pos t)
right_forgotten (expr_term _ _ _) h = h
right_forgotten (expr_var _ _) h = h
right_forgotten (expr_bool _ _) h = h
right_forgotten (expr_int _ _ _) h = h
right_forgotten (expr_prim _ _) h = h
right_forgotten (expr_let _ _ _) h = h

right_there : (t : ExprTree) → IsRightSide (expr_tree_without_pos t) → IsRightSide t
right_there (expr_term _ _ _) h = h
right_there (expr_var _ _) h = h
right_there (expr_bool _ _) h = h
right_there (expr_int _ _ _) h = h
right_there (expr_prim _ _) h = h
right_there (expr_let _ _ _) h = h

right_moves : (e : Expr) → Moves (λ d. SpellsRightSide (expr_of d)) expr_without_pos e
right_moves e = record {
  move = λ ts us l m.
      let r = (expr_moves (expr_of e)).move ts us l.0 m in
      let right = right_there r.0 (subst IsRightSide (sym r.2) (right_forgotten (expr_of e) l.1)) in (
        expr_from r.0,
        subst (λ t. SpellsRightSide t us) (sym (expr_there r.0)) (r.1, right),
        expr_moved r.0 ∙ ap expr_from r.2 ∙ expr_back e,
      );
}

list_forgotten : (p : Pattern) → IsList (pattern_of p) → IsList (pattern_of (pattern_without_pos p))
list_forgotten (pattern.Var _ _) h = h
list_forgotten (pattern.BindPattern _ _ _) h = h
list_forgotten (pattern.ConstBool _ _) h = h
list_forgotten (pattern.ConstInt _ _ _) h = h
list_forgotten (pattern.ConstPrim _ _) h = h
list_forgotten (pattern.Term _ _ _) h = h
list_forgotten (pattern.Wildcard _) h = h
list_forgotten (pattern.And _ _) h = h
list_forgotten (pattern.MacroArg _ _) h = h

list_there : (p : Pattern) → IsList (pattern_of (pattern_without_pos p)) → IsList (pattern_of p)
list_there (pattern.Var _ _) h = h
list_there (pattern.BindPattern _ _ _) h = h
list_there (pattern.ConstBool _ _) h = h
list_there (pattern.ConstInt _ _ _) h = h
list_there (pattern.ConstPrim _ _) h = h
list_there (pattern.Term _ _ _) h = h
list_there (pattern.Wildcard _) h = h
list_there (pattern.And _ _) h = h
list_there (pattern.MacroArg _ _) h = h

list_same : (p q : Pattern) → pattern_without_pos q ≡ pattern_without_pos p → IsList (pattern_of p) → IsList (pattern_of q)
list_same p q e h = list_there q (subst (λ r. IsList (pattern_of r)) (sym e) (list_forgotten p h))

rule_moves : (r : RuleTree) → Moves SpellsRule rule_without_pos r
rule_moves r =
    let body = both (whole_pattern_moves r.pattern) (both (each iflet_moves r.iflets) (both (right_moves r.expr) closes)) in
    let all = both (name_moves r.name) (both (priority_moves r.prio) body) in
    record {
      move = λ ts us l m.
          let x = all.move ts us l.0 m in
          let pattern : pattern_without_pos x.0.1.1.0 ≡ pattern_without_pos r.pattern = (λ i. (x.2 i).1.1.0) in (
            record {
              pattern = x.0.1.1.0;
              iflets = x.0.1.1.1.0;
              expr = x.0.1.1.1.1.0;
              pos = first_pos us;
              prio = x.0.1.0;
              name = x.0.0;
            },
            (x.1, list_same r.pattern x.0.1.1.0 pattern l.1, refl),
            (λ i. record {
              pattern = (x.2 i).1.1.0;
              iflets = (x.2 i).1.1.1.0;
              expr = (x.2 i).1.1.1.1.0;
              pos = no_pos;
              prio = (x.2 i).1.0;
              name = (x.2 i).0;
            }),
          );
    }

-- ---- definitions

-- kept items up to a closing parenthesis, from this place on
abbrev SpellsKeptItems : ItemTrees × Pos → List Placed → Type 0
SpellsKeptItems x = λ ts. (SpellsItems x.0 ⊙ Closes tt) ts × (first_pos ts ≡ x.1)

kept_items_move : (items : ItemTrees) (p : Pos) → Moves SpellsKeptItems (λ x. item_trees_without_pos x.0) (items, p)
kept_items_move items p =
    let two = both (items_move items) closes in
    record { move = λ ts us l m. let r = two.move ts us l.0 m in ((r.0.0, first_pos us), (r.1, refl), (λ i. (r.2 i).0)) }

kept_moves : (k : KeptTree) → Moves SpellsKept kept_without_pos k
kept_moves k =
    let two = both (symbol_of is_kept_word k.word) (kept_items_move k.items k.pos) in
    record {
      move = λ ts us l m.
          let r = two.move ts us l m in (
            record { word = r.0.0; items = r.0.1.0; pos = r.0.1.1 },
            r.1,
            (λ i. record { word = (r.2 i).0; items = (r.2 i).1; pos = no_pos }),
          );
    }

pub def_moves : (d : Def) → Moves SpellsDef def_without_pos d
def_moves (TypeDef t) =
    let all = both opening_sign (both (says (codes "type")) (type_moves t)) in
    record { move = λ ts us l m. let r = all.move ts us l m in (TypeDef r.0.1.1, r.1, (λ i. TypeDef (r.2 i).1.1)) }
def_moves (Decl d) =
    let all = both opening_sign (both (says (codes "decl")) (decl_moves d)) in
    record { move = λ ts us l m. let r = all.move ts us l m in (Decl r.0.1.1, r.1, (λ i. Decl (r.2 i).1.1)) }
def_moves (Rule r) =
    let all = both opening_sign (both (says (codes "rule")) (rule_moves r)) in
    record { move = λ ts us l m. let x = all.move ts us l m in (Rule x.0.1.1, x.1, (λ i. Rule (x.2 i).1.1)) }
def_moves (Extractor x) =
    let all = both opening_sign (both (says (codes "extractor")) (extractor_moves x)) in
    record { move = λ ts us l m. let r = all.move ts us l m in (Extractor r.0.1.1, r.1, (λ i. Extractor (r.2 i).1.1)) }
def_moves (Extern x) =
    let all = both opening_sign (both (says (codes "extern")) (extern_moves x)) in
    record { move = λ ts us l m. let r = all.move ts us l m in (Extern r.0.1.1, r.1, (λ i. Extern (r.2 i).1.1)) }
def_moves (Converter c) =
    let all = both opening_sign (both (says (codes "convert")) (converter_moves c)) in
    record { move = λ ts us l m. let r = all.move ts us l m in (Converter r.0.1.1, r.1, (λ i. Converter (r.2 i).1.1)) }
def_moves (Pragma p) = record { move = λ ts us l m. absurd l }
def_moves (Kept k) =
    let all = both opening_sign (kept_moves k) in
    record { move = λ ts us l m. let r = all.move ts us l m in (Kept r.0.1, r.1, (λ i. Kept (r.2 i).1)) }
