-- Reading a type's definition follows the grammar.
use Rattle.std.proofs.Common.{◌≡◌, ℕ, zero, suc, ◌<◌, List, [], ◌∷◌, ◌++◌, length, Bool, true, false, refl, sym, ap, subst, ◌∙◌, append_assoc}
use Rattle.std.proofs.Common.{length-append, arith}
use Rattle.std.specs.Prelude.{codes}
use Rattle.std.proofs.lemmas.Bool.{false≢true}
use Rattle.isle_syntax.specs.declared.kind.Keyword.{Keyword}
use Rattle.isle_syntax.specs.declared.kind.Keyword.TheVariants as keyword
use Rattle.isle_ast.specs.declared.pos.Pos.{Pos}
use Rattle.isle_ast.specs.declared.ast.Ident.{Ident}
use Rattle.isle_ast.specs.declared.ast.StructField.{StructField}
use Rattle.isle_ast.specs.declared.ast.Fields.{Fields}
use Rattle.isle_ast.specs.declared.ast.Fields.TheVariants.{Unit as no_fields, Struct as named_fields, Tuple as tuple_fields}
use Rattle.isle_ast.specs.declared.ast.Variant.{Variant}
use Rattle.isle_ast.specs.declared.ast.TypeValue.{TypeValue}
use Rattle.isle_ast.specs.declared.ast.TypeValue.TheVariants.{Primitive, Enum, Struct}
use Rattle.isle_ast.specs.declared.ast.«Type».{«Type» as TypeTree}
use Rattle.isle_syntax.specs.Tokens.PlacedTokens.{Placed, opening, closing, symbol}
use Rattle.isle_syntax.specs.Tokens.Names.{is_ident}
use Rattle.isle_syntax.specs.Grammar.Phrases.{◌⊙◌, Both, Opens, Closes, Says, Each, Closed}
use Rattle.isle_syntax.specs.Inside.Reading.KindOf.{keyword_at}
use Rattle.isle_syntax.specs.Inside.Reading.Readers.{done, seq, many, many_turn, rest_of, parens, closed, says}
use Rattle.isle_syntax.specs.Grammar.DefGrammar.{SpellsIdent, SpellsField, SpellsFields, SpellsVariant, bare, in_list, SpellsTypeValue, Mark}
use Rattle.isle_syntax.specs.Grammar.DefGrammar.{extern_mark, nodebug_mark, SpellsMark, SpellsType, numbered, IsFilled}
use Rattle.isle_syntax.specs.Inside.Reading.DefReading.{identifier, field_of, field, fields_named, fields_numbered, is_symbol_next, fields_on, fields}
use Rattle.isle_syntax.specs.Inside.Reading.DefReading.{bare_variant, variant_of, variant_on, variant, Value, primitive, variants, struct_fields, value_at}
use Rattle.isle_syntax.specs.Inside.Reading.DefReading.{value_on, value, type_value, mark_on, mark, is_mark_word, is_mark_next, no_mark_on, no_mark, marks}
use Rattle.isle_syntax.specs.Inside.Reading.DefReading.{type_of, type_def}
use Rattle.isle_syntax.proofs.Reading.Follows.{start, SameNext, Begins, FollowsAt, Follows, Any, Starts, follows_seq, follows_seq_at, follows_image}
use Rattle.isle_syntax.proofs.Reading.Follows.{follows_rest_of, shorter_after}
use Rattle.isle_syntax.proofs.Reading.Cases.{looks_same_next, follows_case, follows_no_case}
use Rattle.isle_syntax.proofs.Reading.Flags.{names_looks}
use Rattle.isle_syntax.proofs.Reading.Basics.{ident, follows_parens, follows_close, follows_symbol_of, follows_says, follows_map, some_both}
use Rattle.isle_syntax.proofs.Reading.Basics.{some_closed, some_opens, some_closes, some_says, both_filled, closed_is_filled, symbol_filled}
use Rattle.isle_syntax.proofs.Reading.Basics.{symbol_starts, opens_filled, closes_filled, says_filled}
use Rattle.isle_syntax.proofs.Reading.Words.{underscores_are_ident}
use Rattle.isle_syntax.proofs.Reading.PatternEnds.{follows_seq_before}
use Rattle.isle_syntax.proofs.Reading.Keywords.{keyword_looks, says_keyword, primitive_word, enum_word, struct_word, extern_word, nodebug_word}

-- ---- identifiers

abbrev pub some_ident : Begins SpellsIdent []
some_ident = (ident start (codes "__"), symbol start (codes "__") ∷ [], (refl, underscores_are_ident))

pub follows_ident : (d : ℕ) → Follows SpellsIdent Any d d identifier
follows_ident d = follows_symbol_of is_ident some_ident d

pub ident_filled : (b : Ident) (v : List Placed) → SpellsIdent b v → v ≡ [] → ⊥
ident_filled = symbol_filled is_ident

-- identifiers up to a closing parenthesis
pub follows_idents : (d : ℕ) → Follows (Closed SpellsIdent) Any d (suc d) (rest_of identifier)
follows_idents d = follows_rest_of SpellsIdent Any Any d identifier (follows_ident d) (symbol_starts is_ident) (λ b v w l. tt) (λ q w. tt)

-- the last of two identifiers, with what closes them
abbrev pub some_ident_closed : Begins (Both SpellsIdent Closes) []
some_ident_closed = some_both some_ident some_closes

pub follows_ident_closed : (d : ℕ) → Follows (Both SpellsIdent Closes) Any d (suc d) (seq identifier closed)
follows_ident_closed d = follows_seq some_closes (follows_ident d) (follows_close d)

opens_first : (p : Pos) (M : List Placed → Type 0) (v : List Placed) → (Opens p ⊙ M) v → is_symbol_next v ≡ false
opens_first p M v l = ap is_symbol_next (l.2 ∙ ap (λ k. k ++ l.1) l.3)

-- ---- fields

pub follows_field : (d : ℕ) → Follows SpellsField Any d d (field d)
follows_field d =
    follows_map {L = Both Opens (Both SpellsIdent (Both SpellsIdent Closes))} {K = SpellsField} field_of (λ a u l. l)
    (λ b v l. ((b.pos, (b.name, (b.ty, tt))), refl, l))
    (follows_parens d (λ n. seq identifier (seq identifier closed)) (some_both some_ident some_ident_closed)
    (λ n. follows_seq some_ident_closed (follows_ident n) (follows_ident_closed n)))

field_starts : Starts SpellsField
field_starts = record {
  filled = λ b v l e. both_filled Opens (Both SpellsIdent (Both SpellsIdent Closes)) opens_filled (b.pos, (b.name, (b.ty, tt))) v l e;
  inside = λ b v w y q l e. (let k : opening b.pos ∷ (l.1 ++ w) ≡ closing q ∷ y = ap (λ x. x ++ w) (sym (l.2 ∙ ap (λ x. x ++ l.1) l.3)) ∙ e in cc);
}

follows_fields_closed : (d : ℕ) → Follows (Closed SpellsField) Any d (suc d) (rest_of (field d))
follows_fields_closed d = follows_rest_of SpellsField Any Any d (field d) (follows_field d) field_starts (λ b v w l. tt) (λ q w. tt)

closed_none : {A : Type 0} (L : A → List Placed → Type 0) (u : List Placed) → Closed L [] u → Closes tt u
closed_none L u l = (l.4.0, l.2 ∙ (λ i. l.3 i ++ l.4.1 i))

none_closed : {A : Type 0} (L : A → List Placed → Type 0) (u : List Placed) → Closes tt u → Closed L [] u
none_closed L u c = ([], u, refl, refl, c)

closed_field_first : (f : StructField) (fs : List StructField) (v : List Placed) → Closed SpellsField (f ∷ fs) v → is_symbol_next v ≡ false
closed_field_first f fs v c = ap is_symbol_next (c.2 ∙ ap (λ k. k ++ c.1) (c.3.2 ∙ ap (λ k. k ++ c.3.1) (c.3.3.2 ∙ ap (λ k. k ++ c.3.3.1) c.3.3.3)))

closed_ident_first : (x : Ident) (xs : List Ident) (v : List Placed) → Closed SpellsIdent (x ∷ xs) v → is_symbol_next v ≡ true
closed_ident_first x xs v c = ap is_symbol_next (c.2 ∙ ap (λ k. k ++ c.1) (c.3.2 ∙ ap (λ k. k ++ c.3.1) c.3.3.0))

named_into : (fs : List StructField) (u : List Placed) → Closed SpellsField fs u → SpellsFields (fields_named fs) u
named_into [] u l = closed_none SpellsField u l
named_into (f ∷ fs) u l = (l, tt)

numbered_into : (xs : List Ident) (u : List Placed) → Closed SpellsIdent xs u → SpellsFields (fields_numbered xs) u
numbered_into [] u l = closed_none SpellsIdent u l
numbered_into (x ∷ xs) u l = (x ∷ xs, l, refl, tt)

named_back : (b : Fields) (v : List Placed) → SpellsFields b v → is_symbol_next v ≡ false → (a : List StructField) × (b ≡ fields_named a)
    × Closed SpellsField a v
named_back no_fields v l at = ([], refl, none_closed SpellsField v l)
named_back (named_fields fs) v l at = by fs.fields refl l.0 l.1
  where
    by : (l : List StructField) → fs.fields ≡ l → Closed SpellsField fs.fields v → IsFilled fs.fields
        → (a : List StructField) × (named_fields fs ≡ fields_named a) × Closed SpellsField a v
    by [] e c i = absurd (subst IsFilled e i)
    by (f ∷ rest) e c i = (f ∷ rest, ap (λ k. named_fields (record { fields = k })) e, subst (λ k. Closed SpellsField k v) e c)
named_back (tuple_fields fs) v l at = absurd (by l.0 l.1 l.3)
  where
    by : (xs : List Ident) → Closed SpellsIdent xs v → IsFilled xs → ⊥
    by [] c i = i
    by (x ∷ xs) c i = false≢true (sym at ∙ closed_ident_first x xs v c)

numbered_back : (b : Fields) (v : List Placed) → SpellsFields b v → is_symbol_next v ≡ true → (a : List Ident) × (b ≡ fields_numbered a)
    × Closed SpellsIdent a v
numbered_back no_fields v l at = ([], refl, none_closed SpellsIdent v l)
numbered_back (named_fields fs) v l at = absurd (by fs.fields l.0 l.1)
  where
    by : (xs : List StructField) → Closed SpellsField xs v → IsFilled xs → ⊥
    by [] c i = i
    by (x ∷ xs) c i = false≢true (sym (closed_field_first x xs v c) ∙ at)
numbered_back (tuple_fields fs) v l at = by l.0 l.1 l.2 l.3
  where
    by : (xs : List Ident) → Closed SpellsIdent xs v → fs.fields ≡ numbered 0 xs → IsFilled xs
        → (a : List Ident) × (tuple_fields fs ≡ fields_numbered a) × Closed SpellsIdent a v
    by [] c e i = absurd i
    by (x ∷ xs) c e i = (x ∷ xs, ap (λ k. tuple_fields (record { fields = k })) e, c)

fields_filled : (b : Fields) (v : List Placed) → SpellsFields b v → v ≡ [] → ⊥
fields_filled no_fields v l e = closes_filled tt v l e
fields_filled (named_fields fs) v l e = closed_is_filled SpellsField fs.fields v l.0 e
fields_filled (tuple_fields fs) v l e = closed_is_filled SpellsIdent l.0 v l.1 e

some_fields : Begins SpellsFields []
some_fields = (no_fields, closing start ∷ [], (start, refl))

follows_fields_at : (d : ℕ) (ts : List Placed) (b : Bool) → is_symbol_next ts ≡ b → FollowsAt SpellsFields Any d (suc d) ts (fields_on d b ts)
follows_fields_at d ts true at =
    follows_case is_symbol_next (names_looks (λ s. true)) (Closed SpellsIdent) SpellsFields Any d (suc d) ts true at fields_numbered
    (λ a u l h. numbered_into a u l) numbered_back
    (closed_is_filled SpellsIdent) fields_filled some_fields (rest_of identifier ts) ((follows_idents d).reads ts)
follows_fields_at d ts false at =
    follows_case is_symbol_next (names_looks (λ s. true)) (Closed SpellsField) SpellsFields Any d (suc d) ts false at fields_named
    (λ a u l h. named_into a u l) named_back
    (closed_is_filled SpellsField) fields_filled some_fields (rest_of (field d) ts) ((follows_fields_closed d).reads ts)

pub follows_fields : (d : ℕ) → Follows SpellsFields Any d (suc d) (fields d)
follows_fields d = record { reads = λ ts. follows_fields_at d ts (is_symbol_next ts) refl }

-- ---- variants

abbrev ListVariant : Pos × (Ident × Fields) → List Placed → Type 0
ListVariant = Both Opens (Both SpellsIdent SpellsFields)

bare_into : (a : Ident) (u : List Placed) → SpellsIdent a u → SpellsVariant (bare_variant a) u
bare_into a u l = bare l refl refl

variant_first_bare : (b : Variant) (v : List Placed) → SpellsIdent b.name v → is_symbol_next v ≡ true
variant_first_bare b v l = ap is_symbol_next l.0

bare_back : (b : Variant) (v : List Placed) → SpellsVariant b v → is_symbol_next v ≡ true → (a : Ident) × (b ≡ bare_variant a) × SpellsIdent a v
bare_back b v (bare l p f) at = (b.name, (λ i. record { name = b.name; fields = f i; pos = p i }), l)
bare_back b v (in_list l) at = absurd (false≢true (sym (opens_first b.pos _ v l) ∙ at))

listed_back : (b : Variant) (v : List Placed) → SpellsVariant b v → is_symbol_next v ≡ false → (a : Pos × (Ident × Fields)) × (b ≡ variant_of a)
    × ListVariant a v
listed_back b v (bare l p f) at = absurd (false≢true (sym at ∙ variant_first_bare b v l))
listed_back b v (in_list l) at = ((b.pos, (b.name, b.fields)), refl, l)

variant_filled : (b : Variant) (v : List Placed) → SpellsVariant b v → v ≡ [] → ⊥
variant_filled b v (bare l p f) e = ident_filled b.name v l e
variant_filled b v (in_list l) e = both_filled Opens (Both SpellsIdent SpellsFields) opens_filled (b.pos, (b.name, b.fields)) v l e

variant_starts : Starts SpellsVariant
variant_starts = record { filled = variant_filled; inside = within }
  where
    within : (b : Variant) (v w y : List Placed) (q : Pos) → SpellsVariant b v → v ++ w ≡ closing q ∷ y → ⊥
    within b v w y q (bare l p f) e = (symbol_starts is_ident).inside b.name v w y q l e
    within b v w y q (in_list l) e = let k : opening b.pos ∷ (l.1 ++ w) ≡ closing q ∷ y = ap (λ x. x ++ w) (sym (l.2 ∙ ap (λ x. x ++ l.1) l.3)) ∙ e in
        cc

some_variant : Begins SpellsVariant []
some_variant = (bare_variant some_ident.0, some_ident.1, bare some_ident.2 refl refl)

follows_variant_at : (d : ℕ) (ts : List Placed) (b : Bool) → is_symbol_next ts ≡ b → FollowsAt SpellsVariant Any d d ts (variant_on d b ts)
follows_variant_at d ts true at =
    follows_case is_symbol_next (names_looks (λ s. true)) SpellsIdent SpellsVariant Any d d ts true at bare_variant (λ a u l h. bare_into a u l)
    bare_back ident_filled variant_filled some_variant
    (identifier ts) ((follows_ident d).reads ts)
follows_variant_at d ts false at =
    follows_case is_symbol_next (names_looks (λ s. true)) ListVariant SpellsVariant Any d d ts false at variant_of (λ a u l h. in_list l) listed_back
    (both_filled Opens _ opens_filled) variant_filled some_variant
    (parens d (λ n. seq identifier (fields n)) ts)
    ((follows_parens d (λ n. seq identifier (fields n)) (some_both some_ident some_fields)
    (λ n. follows_seq some_fields (follows_ident n) (follows_fields n))).reads ts)

pub follows_variant : (d : ℕ) → Follows SpellsVariant Any d d (variant d)
follows_variant d = record { reads = λ ts. follows_variant_at d ts (is_symbol_next ts) refl }

follows_variants : (d : ℕ) → Follows (Closed SpellsVariant) Any d (suc d) (rest_of (variant d))
follows_variants d = follows_rest_of SpellsVariant Any Any d (variant d) (follows_variant d) variant_starts (λ b v w l. tt) (λ q w. tt)

-- ---- what a type is made of

-- what stands in the parentheses, with the closing one
abbrev pub SpellsValue : Value → List Placed → Type 0
SpellsValue (primitive x) = Says (codes "primitive") tt ⊙ (SpellsIdent x ⊙ Closes tt)
SpellsValue (variants vs) = Says (codes "enum") tt ⊙ Closed SpellsVariant vs
SpellsValue (struct_fields fs) = Says (codes "struct") tt ⊙ SpellsFields fs

abbrev value_keyword : Value → Keyword
value_keyword (primitive x) = keyword.Primitive
value_keyword (variants vs) = keyword.Enum
value_keyword (struct_fields fs) = keyword.Struct

value_first : (b : Value) (v : List Placed) → SpellsValue b v → keyword_at v ≡ value_keyword b
value_first (primitive x) v l = says_keyword (codes "primitive") _ v l ∙ primitive_word
value_first (variants vs) v l = says_keyword (codes "enum") _ v l ∙ enum_word
value_first (struct_fields fs) v l = says_keyword (codes "struct") _ v l ∙ struct_word

value_filled : (b : Value) (v : List Placed) → SpellsValue b v → v ≡ [] → ⊥
value_filled b v l e = by b (sym (value_first b v l) ∙ ap keyword_at e)
  where
    by : (b : Value) → value_keyword b ≡ keyword.NoKeyword → ⊥
    by (primitive x) e = cc
    by (variants vs) e = cc
    by (struct_fields fs) e = cc

primitive_back : (b : Value) (v : List Placed) → SpellsValue b v → keyword_at v ≡ keyword.Primitive → (a : Unit {0} × (Ident × Unit {0}))
    × (b ≡ primitive a.1.0) × Both (Says (codes "primitive")) (Both SpellsIdent Closes) a v
primitive_back (primitive x) v l at = ((tt, (x, tt)), refl, l)
primitive_back (variants vs) v l at = let e : keyword.Enum ≡ keyword.Primitive = sym (value_first (variants vs) v l) ∙ at in absurd (cc)
primitive_back (struct_fields fs) v l at = let e : keyword.Struct ≡ keyword.Primitive = sym (value_first (struct_fields fs) v l) ∙ at in absurd (cc)

variants_back : (b : Value) (v : List Placed) → SpellsValue b v → keyword_at v ≡ keyword.Enum → (a : Unit {0} × List Variant) × (b ≡ variants a.1)
    × Both (Says (codes "enum")) (Closed SpellsVariant) a v
variants_back (primitive x) v l at = let e : keyword.Primitive ≡ keyword.Enum = sym (value_first (primitive x) v l) ∙ at in absurd (cc)
variants_back (variants vs) v l at = ((tt, vs), refl, l)
variants_back (struct_fields fs) v l at = let e : keyword.Struct ≡ keyword.Enum = sym (value_first (struct_fields fs) v l) ∙ at in absurd (cc)

struct_back : (b : Value) (v : List Placed) → SpellsValue b v → keyword_at v ≡ keyword.Struct → (a : Unit {0} × Fields) × (b ≡ struct_fields a.1)
    × Both (Says (codes "struct")) SpellsFields a v
struct_back (primitive x) v l at = let e : keyword.Primitive ≡ keyword.Struct = sym (value_first (primitive x) v l) ∙ at in absurd (cc)
struct_back (variants vs) v l at = let e : keyword.Enum ≡ keyword.Struct = sym (value_first (variants vs) v l) ∙ at in absurd (cc)
struct_back (struct_fields fs) v l at = ((tt, fs), refl, l)

some_value : Begins SpellsValue []
some_value =
    let b = some_both (some_says (codes "struct")) some_fields in
    (struct_fields b.0.1, b.1, b.2)

abbrev OfValue : Keyword → Type 0
OfValue keyword.Primitive = Unit {0}
OfValue keyword.Enum = Unit {0}
OfValue keyword.Struct = Unit {0}
OfValue _ = ⊥

value_of_word : (b : Value) → OfValue (value_keyword b)
value_of_word (primitive x) = tt
value_of_word (variants vs) = tt
value_of_word (struct_fields fs) = tt

follows_value_at : (d : ℕ) (ts : List Placed) (k : Keyword) → keyword_at ts ≡ k → FollowsAt SpellsValue Any d (suc d) ts (value_on d k ts)
follows_value_at d ts keyword.Primitive at =
    follows_case keyword_at keyword_looks (Both (Says (codes "primitive")) (Both SpellsIdent Closes)) SpellsValue Any d (suc d) ts keyword.Primitive
    at (λ x. primitive x.1.0) (λ a u l h. l) primitive_back
    (both_filled (Says (codes "primitive")) _ (says_filled (codes "primitive"))) value_filled some_value
    (seq (says (codes "primitive")) (seq identifier closed) ts)
    ((follows_seq some_ident_closed (follows_says (codes "primitive") d) (follows_ident_closed d)).reads ts)
follows_value_at d ts keyword.Enum at =
    follows_case keyword_at keyword_looks (Both (Says (codes "enum")) (Closed SpellsVariant)) SpellsValue Any d (suc d) ts keyword.Enum at
    (λ x. variants x.1) (λ a u l h. l) variants_back
    (both_filled (Says (codes "enum")) _ (says_filled (codes "enum"))) value_filled some_value (seq (says (codes "enum")) (rest_of (variant d)) ts)
    ((follows_seq (some_closed SpellsVariant) (follows_says (codes "enum") d) (follows_variants d)).reads ts)
follows_value_at d ts keyword.Struct at =
    follows_case keyword_at keyword_looks (Both (Says (codes "struct")) SpellsFields) SpellsValue Any d (suc d) ts keyword.Struct at
    (λ x. struct_fields x.1) (λ a u l h. l) struct_back
    (both_filled (Says (codes "struct")) _ (says_filled (codes "struct"))) value_filled some_value (seq (says (codes "struct")) (fields d) ts)
    ((follows_seq some_fields (follows_says (codes "struct") d) (follows_fields d)).reads ts)
follows_value_at d ts _ at =
    follows_no_case keyword_at keyword_looks SpellsValue Any d (suc d) ts (keyword_at ts) refl (λ b v l e. subst OfValue (sym (value_first b v l) ∙ e
    ∙ at) (value_of_word b)) value_filled some_value

pub follows_value : (d : ℕ) → Follows SpellsValue Any d (suc d) (value d)
follows_value d = record { reads = λ ts. follows_value_at d ts (keyword_at ts) refl }

type_value_into : (p : Pos) (x : Value) (u : List Placed) → (Opens p ⊙ SpellsValue x) u → SpellsTypeValue (value_at p x) u
type_value_into p (primitive x) u l = l
type_value_into p (variants vs) u l = l
type_value_into p (struct_fields fs) u l = l

type_value_back : (b : TypeValue) (v : List Placed) → SpellsTypeValue b v → (a : Pos × Value) × (b ≡ value_at a.0 a.1) × Both Opens SpellsValue a v
type_value_back (Primitive x p) v l = ((p, primitive x), refl, l)
type_value_back (Enum vs p) v l = ((p, variants vs), refl, l)
type_value_back (Struct fs p) v l = ((p, struct_fields fs), refl, l)

pub follows_type_value : (d : ℕ) → Follows SpellsTypeValue Any d d (type_value d)
follows_type_value d =
    follows_map {L = Both Opens SpellsValue} {K = SpellsTypeValue} (λ x. value_at x.0 x.1) (λ a u l. type_value_into a.0 a.1 u l) type_value_back
    (follows_parens d value some_value follows_value)

-- ---- marks

abbrev mark_keyword : Mark → Keyword
mark_keyword extern_mark = keyword.Extern
mark_keyword nodebug_mark = keyword.NoDebug

mark_first : (b : Mark) (v w : List Placed) → SpellsMark b v → keyword_at (v ++ w) ≡ mark_keyword b
mark_first extern_mark v w l = ap (λ k. keyword_at (k ++ w)) l.1 ∙ extern_word
mark_first nodebug_mark v w l = ap (λ k. keyword_at (k ++ w)) l.1 ∙ nodebug_word

mark_filled : (b : Mark) (v : List Placed) → SpellsMark b v → v ≡ [] → ⊥
mark_filled extern_mark v l e = says_filled (codes "extern") tt v l e
mark_filled nodebug_mark v l e = says_filled (codes "nodebug") tt v l e

mark_length : (b : Mark) (v : List Placed) → SpellsMark b v → length v ≡ 1
mark_length extern_mark v l = ap length l.1
mark_length nodebug_mark v l = ap length l.1

extern_back : (b : Mark) (v : List Placed) → SpellsMark b v → keyword_at v ≡ keyword.Extern
    → (a : Unit {0}) × (b ≡ extern_mark) × Says (codes "extern") a v
extern_back extern_mark v l at = (tt, refl, l)
extern_back nodebug_mark v l at = let e : keyword.NoDebug ≡ keyword.Extern = sym nodebug_word ∙ sym (ap keyword_at l.1) ∙ at in absurd (cc)

nodebug_back : (b : Mark) (v : List Placed) → SpellsMark b v → keyword_at v ≡ keyword.NoDebug → (a : Unit {0}) × (b ≡ nodebug_mark)
    × Says (codes "nodebug") a v
nodebug_back extern_mark v l at = let e : keyword.Extern ≡ keyword.NoDebug = sym extern_word ∙ sym (ap keyword_at l.1) ∙ at in absurd (cc)
nodebug_back nodebug_mark v l at = (tt, refl, l)

some_mark : Begins SpellsMark []
some_mark = (extern_mark, symbol start (codes "extern") ∷ [], (start, refl))

abbrev OfMark : Keyword → Type 0
OfMark keyword.Extern = Unit {0}
OfMark keyword.NoDebug = Unit {0}
OfMark _ = ⊥

mark_of_word : (b : Mark) → OfMark (mark_keyword b)
mark_of_word extern_mark = tt
mark_of_word nodebug_mark = tt

mark_alone : (b : Mark) (v : List Placed) → SpellsMark b v → keyword_at v ≡ mark_keyword b
mark_alone extern_mark v l = ap keyword_at l.1 ∙ extern_word
mark_alone nodebug_mark v l = ap keyword_at l.1 ∙ nodebug_word

follows_mark_at : (d : ℕ) (ts : List Placed) (k : Keyword) → keyword_at ts ≡ k → FollowsAt SpellsMark Any d d ts (mark_on k ts)
follows_mark_at d ts keyword.Extern at =
    follows_case keyword_at keyword_looks (Says (codes "extern")) SpellsMark Any d d ts keyword.Extern at (λ x. extern_mark) (λ a u l h. l)
    extern_back (says_filled (codes "extern")) mark_filled some_mark
    (says (codes "extern") ts) ((follows_says (codes "extern") d).reads ts)
follows_mark_at d ts keyword.NoDebug at =
    follows_case keyword_at keyword_looks (Says (codes "nodebug")) SpellsMark Any d d ts keyword.NoDebug at (λ x. nodebug_mark) (λ a u l h. l)
    nodebug_back (says_filled (codes "nodebug")) mark_filled some_mark
    (says (codes "nodebug") ts) ((follows_says (codes "nodebug") d).reads ts)
follows_mark_at d ts _ at = follows_no_case keyword_at keyword_looks SpellsMark Any d d ts (keyword_at ts) refl
    (λ b v l e. subst OfMark (sym (mark_alone b v l) ∙ e ∙ at) (mark_of_word b)) mark_filled some_mark

pub follows_mark : (d : ℕ) → Follows SpellsMark Any d d mark
follows_mark d = record { reads = λ ts. follows_mark_at d ts (keyword_at ts) refl }

-- no mark comes next
abbrev pub NoMark : List Placed → Type 0
NoMark ts = is_mark_next ts ≡ false

mark_is_next : (b : Mark) (v w : List Placed) → SpellsMark b v → is_mark_next (v ++ w) ≡ true
mark_is_next extern_mark v w l = ap is_mark_word (mark_first extern_mark v w l)
mark_is_next nodebug_mark v w l = ap is_mark_word (mark_first nodebug_mark v w l)

marks_next : (a : Mark) (rest : List Mark) (v w : List Placed) → Each SpellsMark (a ∷ rest) v → is_mark_next (v ++ w) ≡ true
marks_next a rest v w l = ap (λ k. is_mark_next (k ++ w)) l.2 ∙ ap is_mark_next (append_assoc l.0 l.1 w) ∙ mark_is_next a l.0 (l.1 ++ w) l.3

next_same_next : (r s : List Placed) → SameNext r s → is_mark_next s ≡ is_mark_next r
next_same_next r s same_next = ap is_mark_word (looks_same_next keyword_at keyword_looks r s same_next)

-- where no mark comes next
no_marks : (b : List Mark) (v w s : List Placed) → Each SpellsMark b v → v ++ w ≡ s → is_mark_next s ≡ false → (b ≡ []) × (v ≡ [])
no_marks [] v w s l e at = (refl, l)
no_marks (a ∷ rest) v w s l e at = absurd (false≢true (sym at ∙ sym (ap is_mark_next e) ∙ marks_next a rest v w l))

-- where one comes
some_marks : (b : List Mark) (v w s : List Placed) → Each SpellsMark b v → NoMark w → v ++ w ≡ s → is_mark_next s ≡ true
    → (x : Mark × List Mark) × (b ≡ x.0 ∷ x.1) × Both SpellsMark (Each SpellsMark) x v
some_marks [] v w s l none e at = absurd (false≢true (sym none ∙ ap is_mark_next (ap (λ k. k ++ w) (sym l) ∙ e) ∙ at))
some_marks (a ∷ rest) v w s l none e at = ((a, rest), refl, l)

mark_leaves : (b : Mark) (u r ts : List Placed) (n : ℕ) → SpellsMark b u → ts ≡ u ++ r → length ts < suc n → length r < n
mark_leaves b u r ts n l e h = omega (arith, ap length e, length-append u r, mark_length b u l)

follows_marks_turn : (d n : ℕ) (ts : List Placed) (b : Bool) → is_mark_next ts ≡ b → length ts < suc n
    → ((r : List Placed) → length r < n → FollowsAt (Each SpellsMark) NoMark d d r (many no_mark mark n r))
    → FollowsAt (Each SpellsMark) NoMark d d ts (many_turn mark (many no_mark mark n) (no_mark_on b ts) ts)
follows_marks_turn d n ts false at fits ih = record {
  used = [];
  split = refl;
  spelt = refl;
  nests = refl;
  only = record { holds = λ s same_next b v w l none e. no_marks b v w s l e (next_same_next ts s same_next ∙ at) };
}
follows_marks_turn d n ts true at fits ih =
    follows_image (Both SpellsMark (Each SpellsMark)) (Each SpellsMark) NoMark d d ts (λ x. x.0 ∷ x.1) (λ x v l. l)
    (λ b v w x same_next l none e. some_marks b v w x l none e (next_same_next ts x same_next ∙ at))
    (seq mark (many no_mark mark n) ts)
    (follows_seq_at SpellsMark (Each SpellsMark) Any NoMark d d d ts (λ b v w m none. tt) ([], [], refl) (many no_mark mark n) (mark ts)
    ((follows_mark d).reads ts)
    (λ a r g. ih r (mark_leaves a g.used r ts n g.spelt g.split fits)))

follows_marks_within : (d n : ℕ) (ts : List Placed) → length ts < n → FollowsAt (Each SpellsMark) NoMark d d ts (many no_mark mark n ts)
unfolding many
follows_marks_within d zero ts fits = absurd (omega arith)
follows_marks_within d (suc n) ts fits = follows_marks_turn d n ts (is_mark_next ts) refl fits (follows_marks_within d n)

pub follows_marks : (d : ℕ) → Follows (Each SpellsMark) NoMark d d marks
follows_marks d = record { reads = λ ts. follows_marks_within d (suc (length ts)) ts (omega arith) }

-- ---- a type's definition

type_value_no_mark : (x : TypeValue × Unit {0}) (v w : List Placed) → Both SpellsTypeValue Closes x v → NoMark (v ++ w)
type_value_no_mark x v w l =
    let b = type_value_back x.0 l.0 l.3 in
    ap (λ k. is_mark_next (k ++ w)) (l.2 ∙ ap (λ k. k ++ l.1) (b.2.2 ∙ ap (λ k. k ++ b.2.1) b.2.3))

some_type_value : Begins SpellsTypeValue []
some_type_value =
    let b = some_both some_opens some_value in
    (value_at b.0.0 b.0.1, b.1, type_value_into b.0.0 b.0.1 b.1 b.2)

some_type_closed : Begins (Both SpellsTypeValue Closes) []
some_type_closed = some_both some_type_value some_closes

no_mark_begins : Begins (Each SpellsMark) []
no_mark_begins = ([], [], refl)

some_marked : Begins (Both (Each SpellsMark) (Both SpellsTypeValue Closes)) []
some_marked = some_both no_mark_begins some_type_closed

abbrev TypeParts : Ident × (List Mark × (TypeValue × Unit {0})) → List Placed → Type 0
TypeParts = Both SpellsIdent (Both (Each SpellsMark) (Both SpellsTypeValue Closes))

type_into : (a : Ident × (List Mark × (TypeValue × Unit {0}))) (u : List Placed) → TypeParts a u → SpellsType (type_of a) u
type_into a u l = let h = l.4 in ((l.0, l.1, l.2, l.3, (h.0, h.1, h.2, (a.1.0, h.3, refl, refl), h.4)), refl)

type_back : (b : TypeTree) (v : List Placed) → SpellsType b v → (a : Ident × (List Mark × (TypeValue × Unit {0}))) × (b ≡ type_of a) × TypeParts a v
type_back b v l =
    let h = l.0.4 in
    let m = h.3 in (
      (b.name, (m.0, (b.ty, tt))),
      (λ i. record { name = b.name; is_extern = m.2 i; is_nodebug = m.3 i; ty = b.ty; pos = l.1 i }),
      (l.0.0, l.0.1, l.0.2, l.0.3, (h.0, h.1, h.2, m.1, h.4)),
    )

pub some_type : Begins SpellsType []
some_type =
    let b = some_both some_ident some_marked in
    (type_of b.0, b.1, type_into b.0 b.1 b.2)

pub follows_type : (d : ℕ) → Follows SpellsType Any d (suc d) (type_def d)
follows_type d =
    let value = follows_seq some_closes (follows_type_value d) (follows_close d) in
    let marked = follows_seq_before (λ b v w l fw. type_value_no_mark b v w l) some_type_closed (follows_marks d) value in
    follows_map {L = TypeParts} {K = SpellsType} type_of type_into type_back (follows_seq some_marked (follows_ident d) marked)
