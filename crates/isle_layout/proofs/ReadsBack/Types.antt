-- Tokens of the S-expressions of types spell these again.
use Rattle.std.proofs.Common.{◌≡◌, ℕ, suc, List, [], ◌∷◌, ◌++◌, map, Bool, true, false, refl, ap, ◌∙◌, sym, append_assoc, append-nil, eqb-true}
use Rattle.std.specs.Prelude.{◌&&◌, ◌==◌, codes}
use Rattle.std.specs.List.{list_all}
use Rattle.isle_ast.specs.declared.ast.Ident.{Ident}
use Rattle.isle_ast.specs.declared.ast.StructField.{StructField}
use Rattle.isle_ast.specs.declared.ast.TupleField.{TupleField}
use Rattle.isle_ast.specs.declared.ast.Fields.{Fields}
use Rattle.isle_ast.specs.declared.ast.Fields.TheVariants.{Unit as no_fields, Struct as named_fields, Tuple as tuple_fields}
use Rattle.isle_ast.specs.declared.ast.Variant.{Variant}
use Rattle.isle_ast.specs.declared.ast.TypeValue.{TypeValue}
use Rattle.isle_ast.specs.declared.ast.TypeValue.TheVariants.{Primitive, Enum, Struct}
use Rattle.isle_ast.specs.declared.ast.«Type».{«Type» as TypeTree}
use Rattle.isle_syntax.specs.Tokens.PlacedTokens.{Placed}
use Rattle.isle_syntax.specs.Tokens.Names.{is_ident}
use Rattle.isle_syntax.specs.Grammar.Phrases.{◌⊙◌, Closes, Opening, Each}
use Rattle.isle_syntax.specs.Grammar.DefGrammar.{SpellsIdent, SpellsField, numbered, IsFilled, SpellsFields, SpellsVariant, bare, in_list}
use Rattle.isle_syntax.specs.Grammar.DefGrammar.{SpellsTypeValue, extern_mark, nodebug_mark, SpellsMarks, SpellsType}
use Rattle.isle_ast.specs.Trees.WithoutPos.{no_pos, ident_without_pos, struct_field_without_pos, tuple_field_without_pos, fields_without_pos}
use Rattle.isle_ast.specs.Trees.WithoutPos.{variant_without_pos, type_value_without_pos, type_without_pos}
use Rattle.isle_syntax.proofs.Reading.Basics.{group_left}
use Rattle.isle_syntax.proofs.Reading.SymbolKinds.{and_first, and_second}
use Rattle.isle_layout.specs.SExprTree.{SExprTree, sexpr_atom}
use Rattle.isle_layout.specs.Spellings.{name_sexpr}
use Rattle.isle_layout.specs.DefSpellings.{flag, struct_field_sexpr, tuple_field_sexpr, fields_sexprs, variant_of, variant_sexpr, type_value_sexpr}
use Rattle.isle_layout.specs.Writable.{writable_ident, writable_struct_field, writable_tuple_fields, is_filled, writable_fields, writable_variant}
use Rattle.isle_layout.specs.Writable.{writable_type_value, writable_type}
use Rattle.isle_layout.proofs.Atoms.IdentifierTexts.{ident_is_symbol}
use Rattle.isle_layout.proofs.ReadsBack.Rows.{ReadsAtom, Reads, Row, listed_row, Again, AllAgain, all_again}
use Rattle.isle_layout.proofs.ReadsBack.Trees.{ident_at, word_again, name_again}

-- ---- names

-- an identifier where it stands
pub ident_again : (x : Ident) (ts : List Placed) → writable_ident x ≡ true → ReadsAtom x.0 ts → Again SpellsIdent ident_without_pos x ts
ident_again x ts h l = let n = name_again is_ident ident_is_symbol x ts h l in (ident_at x n.0, n.1, refl)

pub idents_again : (xs : List Ident) (K : List Placed → Type 0) (ts : List Placed) → list_all writable_ident xs ≡ true → Row (map name_sexpr xs) K ts
    → AllAgain SpellsIdent ident_without_pos xs K ts
idents_again xs K ts h l = all_again SpellsIdent ident_without_pos name_sexpr writable_ident ident_again xs K ts h l

-- ---- fields

field_again : (f : StructField) (ts : List Placed) → writable_struct_field f ≡ true → Reads (struct_field_sexpr f) ts
    → Again SpellsField struct_field_without_pos f ts
field_again f ts h l =
    let r = listed_row (name_sexpr f.name ∷ name_sexpr f.ty ∷ []) ts l in
    let n = ident_again f.name r.4.0 (and_first (writable_ident f.name) (writable_ident f.ty) h) r.4.3 in
    let m = ident_again f.ty r.4.4.0 (and_second (writable_ident f.name) (writable_ident f.ty) h) r.4.4.3 in (
      record { name = n.0; ty = m.0; pos = r.3.0 },
      (r.0, r.1, r.2, r.3.1, (r.4.0, r.4.1, r.4.2, n.1, (r.4.4.0, r.4.4.1, r.4.4.2, m.1, r.4.4.4))),
      (λ i. record { name = n.2 i; ty = m.2 i; pos = no_pos }),
    )

-- as many are filled as well
filled_again : {A : Type 0} (forget : A → A) (bs values : List A) → map forget bs ≡ map forget values → is_filled values ≡ true → IsFilled bs
filled_again forget [] [] e h = absurd (cc)
filled_again forget [] (a ∷ values) e h = absurd (cc)
filled_again forget (b ∷ bs) values e h = tt

-- the types of fields without names that are counted from a number
abbrev CountedAgain : ℕ → List TupleField → (List Placed → Type 0) → List Placed → Type 0
CountedAgain n fs K ts = (xs : List Ident) × (Each SpellsIdent xs ⊙ K) ts
    × (map tuple_field_without_pos (numbered n xs) ≡ map tuple_field_without_pos fs)

counted_again : (n : ℕ) (fs : List TupleField) (K : List Placed → Type 0) (ts : List Placed) → writable_tuple_fields n fs ≡ true
    → Row (map tuple_field_sexpr fs) K ts → CountedAgain n fs K ts
counted_again n [] K ts h l = ([], ([], ts, refl, refl, l), refl)
counted_again n (f ∷ fs) K ts h l =
    let one = and_first ((f.index == n) && writable_ident f.ty) (writable_tuple_fields (suc n) fs) h in
    let first = ident_again f.ty l.0 (and_second (f.index == n) (writable_ident f.ty) one) l.3 in
    let others = counted_again (suc n) fs K l.1 (and_second ((f.index == n) && writable_ident f.ty) (writable_tuple_fields (suc n) fs) h) l.4 in
    let same = sym (eqb-true f.index n (and_first (f.index == n) (writable_ident f.ty) one)) in (
      first.0 ∷ others.0,
      group_left (SpellsIdent first.0) (Each SpellsIdent others.0) K ts (l.0, l.1, l.2, first.1, others.1),
      (λ i. record { index = same i; ty = first.2 i; pos = no_pos } ∷ others.2 i),
    )

counted_filled : (n : ℕ) (xs : List Ident) (fs : List TupleField) → map tuple_field_without_pos (numbered n xs) ≡ map tuple_field_without_pos fs
    → is_filled fs ≡ true → IsFilled xs
counted_filled n [] [] e h = absurd (cc)
counted_filled n [] (f ∷ fs) e h = absurd (cc)
counted_filled n (x ∷ xs) fs e h = tt

fields_again : (f : Fields) (ts : List Placed) → writable_fields f ≡ true → Row (fields_sexprs f) (Closes tt) ts
    → Again SpellsFields fields_without_pos f ts
fields_again no_fields ts h l = (no_fields, l, refl)
fields_again (named_fields fs) ts h l =
    let some = and_first (is_filled fs.fields) (list_all writable_struct_field fs.fields) h in
    let each = and_second (is_filled fs.fields) (list_all writable_struct_field fs.fields) h in
    let a = all_again SpellsField struct_field_without_pos struct_field_sexpr writable_struct_field field_again fs.fields (Closes tt) ts each l in (
      named_fields (record { fields = a.0 }),
      (a.1, filled_again struct_field_without_pos a.0 fs.fields a.2 some),
      (λ i. named_fields (record { fields = a.2 i })),
    )
fields_again (tuple_fields fs) ts h l =
    let some = and_first (is_filled fs.fields) (writable_tuple_fields 0 fs.fields) h in
    let a = counted_again 0 fs.fields (Closes tt) ts (and_second (is_filled fs.fields) (writable_tuple_fields 0 fs.fields) h) l in (
      tuple_fields (record { fields = numbered 0 a.0 }),
      (a.0, a.1, refl, counted_filled 0 a.0 fs.fields a.2 some),
      (λ i. tuple_fields (record { fields = a.2 i })),
    )

-- ---- variants

-- a variant of this name and these fields
abbrev VariantAgain : Ident → Fields → List Placed → Type 0
VariantAgain x f ts = (v : Variant) × SpellsVariant v ts
    × (variant_without_pos v ≡ record { name = ident_without_pos x; fields = fields_without_pos f; pos = no_pos })

listed_variant : (x : Ident) (f : Fields) (ts : List Placed) → writable_ident x ≡ true → writable_fields f ≡ true
    → (Opening tt ⊙ (ReadsAtom x.0 ⊙ Row (fields_sexprs f) (Closes tt))) ts → VariantAgain x f ts
listed_variant x f ts g h r =
    let n = ident_again x r.4.0 g r.4.3 in
    let a = fields_again f r.4.1 h r.4.4 in (
      record { name = n.0; fields = a.0; pos = r.3.0 },
      in_list (r.0, r.1, r.2, r.3.1, (r.4.0, r.4.1, r.4.2, n.1, a.1)),
      (λ i. record { name = n.2 i; fields = a.2 i; pos = no_pos }),
    )

variant_of_again : (x : Ident) (f : Fields) (ts : List Placed) → writable_ident x ≡ true → writable_fields f ≡ true → Reads (variant_of x f) ts
    → VariantAgain x f ts
variant_of_again x no_fields ts g h l =
    let n = ident_again x ts g l in
    (record { name = n.0; fields = no_fields; pos = n.0.1 }, bare n.1 refl refl, (λ i. record { name = n.2 i; fields = no_fields; pos = no_pos }))
variant_of_again x (named_fields fs) ts g h l =
    listed_variant x (named_fields fs) ts g h (listed_row (name_sexpr x ∷ map struct_field_sexpr fs.fields) ts l)
variant_of_again x (tuple_fields fs) ts g h l =
    listed_variant x (tuple_fields fs) ts g h (listed_row (name_sexpr x ∷ map tuple_field_sexpr fs.fields) ts l)

variant_again : (v : Variant) (ts : List Placed) → writable_variant v ≡ true → Reads (variant_sexpr v) ts
    → Again SpellsVariant variant_without_pos v ts
variant_again v ts h l =
    variant_of_again v.name v.fields ts (and_first (writable_ident v.name) (writable_fields v.fields) h)
    (and_second (writable_ident v.name) (writable_fields v.fields) h) l

-- ---- types

value_again : (v : TypeValue) (ts : List Placed) → writable_type_value v ≡ true → Reads (type_value_sexpr v) ts
    → Again SpellsTypeValue type_value_without_pos v ts
value_again (Primitive x p) ts h l =
    let r = listed_row (sexpr_atom (codes "primitive") ∷ name_sexpr x ∷ []) ts l in
    let n = ident_again x r.4.4.0 h r.4.4.3 in (
      Primitive n.0 r.3.0,
      (r.0, r.1, r.2, r.3.1, (r.4.0, r.4.1, r.4.2, word_again (codes "primitive") r.4.0 refl r.4.3, (r.4.4.0, r.4.4.1, r.4.4.2, n.1, r.4.4.4))),
      (λ i. Primitive (n.2 i) no_pos),
    )
value_again (Enum variants p) ts h l =
    let r = listed_row (sexpr_atom (codes "enum") ∷ map variant_sexpr variants) ts l in
    let a = all_again SpellsVariant variant_without_pos variant_sexpr writable_variant variant_again variants (Closes tt) r.4.1 h r.4.4 in
    (Enum a.0 r.3.0, (r.0, r.1, r.2, r.3.1, (r.4.0, r.4.1, r.4.2, word_again (codes "enum") r.4.0 refl r.4.3, a.1)), (λ i. Enum (a.2 i) no_pos))
value_again (Struct fields p) ts h l =
    let r = listed_row (sexpr_atom (codes "struct") ∷ fields_sexprs fields) ts l in
    let a = fields_again fields r.4.1 h r.4.4 in
    (Struct a.0 r.3.0, (r.0, r.1, r.2, r.3.1, (r.4.0, r.4.1, r.4.2, word_again (codes "struct") r.4.0 refl r.4.3, a.1)), (λ i. Struct (a.2 i) no_pos))

marks_again : (is_extern is_nodebug : Bool) (rest : List SExprTree) (K : List Placed → Type 0) (ts : List Placed)
    → Row (flag (codes "extern") is_extern ++ (flag (codes "nodebug") is_nodebug ++ rest)) K ts → (SpellsMarks is_extern is_nodebug ⊙ Row rest K) ts
marks_again true true rest K ts l =
    let e = word_again (codes "extern") l.0 refl l.3 in
    let n = word_again (codes "nodebug") l.4.0 refl l.4.3 in (
      l.0 ++ l.4.0,
      l.4.1,
      l.2 ∙ ap (λ x. l.0 ++ x) l.4.2 ∙ sym (append_assoc l.0 l.4.0 l.4.1),
      (extern_mark ∷ nodebug_mark ∷ [], (l.0, l.4.0, refl, e, (l.4.0, [], sym (append-nil l.4.0), n, refl)), refl, refl),
      l.4.4,
    )
marks_again true false rest K ts l =
    (l.0, l.1, l.2, (extern_mark ∷ [], (l.0, [], sym (append-nil l.0), word_again (codes "extern") l.0 refl l.3, refl), refl, refl), l.4)
marks_again false true rest K ts l =
    (l.0, l.1, l.2, (nodebug_mark ∷ [], (l.0, [], sym (append-nil l.0), word_again (codes "nodebug") l.0 refl l.3, refl), refl, refl), l.4)
marks_again false false rest K ts l = ([], ts, refl, ([], refl, refl, refl), l)

-- what stands behind the word `type`
pub type_again : (t : TypeTree) (ts : List Placed) → writable_type t ≡ true
    → Row (name_sexpr t.name ∷ (flag (codes "extern") t.is_extern ++ (flag (codes "nodebug") t.is_nodebug ++ (type_value_sexpr t.ty ∷ []))))
    (Closes tt) ts → Again SpellsType type_without_pos t ts
type_again t ts h l =
    let n = ident_again t.name l.0 (and_first (writable_ident t.name) (writable_type_value t.ty) h) l.3 in
    let m = marks_again t.is_extern t.is_nodebug (type_value_sexpr t.ty ∷ []) (Closes tt) l.1 l.4 in
    let v = value_again t.ty m.4.0 (and_second (writable_ident t.name) (writable_type_value t.ty) h) m.4.3 in (
      record { name = n.0; is_extern = t.is_extern; is_nodebug = t.is_nodebug; ty = v.0; pos = n.0.1 },
      ((l.0, l.1, l.2, n.1, (m.0, m.1, m.2, m.3, (m.4.0, m.4.1, m.4.2, v.1, m.4.4))), refl),
      (λ i. record { name = n.2 i; is_extern = t.is_extern; is_nodebug = t.is_nodebug; ty = v.2 i; pos = no_pos }),
    )
