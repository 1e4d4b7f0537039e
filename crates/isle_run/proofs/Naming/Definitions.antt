-- The names that definitions of a text in UTF-8 give types, variants and constants.
use Rattle.std.proofs.Common.{◌≡◌, ℕ, suc, List, [], ◌∷◌, ◌++◌, true, sym, subst, arith}
use Rattle.std.specs.List.{AllByRecursion}
use Rattle.std.specs.Str.{IsUtf8}
use Rattle.isle_ast.specs.declared.ast.Ident.{Ident}
use Rattle.isle_ast.specs.declared.ast.Variant.{Variant}
use Rattle.isle_ast.specs.declared.ast.TypeValue.{TypeValue}
use Rattle.isle_ast.specs.declared.ast.TypeValue.TheVariants.{Primitive, Enum, Struct}
use Rattle.isle_ast.specs.declared.ast.«Type».{«Type» as TypeTree}
use Rattle.isle_ast.specs.declared.ast.Extern.{Extern as ExternTree}
use Rattle.isle_ast.specs.declared.ast.Extern.TheVariants.{Constructor as extern_constructor, Extractor as extern_extractor, Const as extern_const}
use Rattle.isle_ast.specs.declared.ast.Def.{Def}
use Rattle.isle_ast.specs.declared.ast.Def.TheVariants.{TypeDef, Decl, Rule, Extractor, Extern, Converter, Pragma, Kept}
use Rattle.isle_ast.specs.Positions.Files.{SourceFile}
use Rattle.isle_syntax.specs.Tokens.Names.{is_ident, is_const_name}
use Rattle.isle_syntax.specs.Tokens.PlacedTokens.{Placed}
use Rattle.isle_syntax.specs.Grammar.Phrases.{◌⊙◌, Each}
use Rattle.isle_syntax.specs.Grammar.TreeGrammar.{Constant}
use Rattle.isle_syntax.specs.Grammar.DefGrammar.{SpellsIdent, SpellsVariant, bare, in_list, SpellsTypeValue, SpellsType, SpellsExtern, SpellsDef}
use Rattle.isle_syntax.specs.Grammar.Verdict.{Spells}
use Rattle.isle_syntax.proofs.Tokens.Cuts.{utf8_behind_ascii}
use Rattle.isle_syntax.proofs.Productions.OneReading.{reading_of}
use Rattle.isle_program.specs.Compiled.{AreSpelt}
use Rattle.isle_run.specs.Laws.Printing.{AreUtf8Texts}
use Rattle.isle_run.proofs.Naming.Symbols.{AreUtf8Tokens, tokens_are_utf8}

-- an identifier in UTF-8
abbrev pub IsIdentifier : List ℕ → Type 0
IsIdentifier name = IsUtf8 name × (is_ident name ≡ true)

-- a constant's name in UTF-8
abbrev pub IsConstantName : List ℕ → Type 0
IsConstantName name = IsUtf8 name × (is_const_name name ≡ true)

-- the variants of a type have such names
abbrev pub HasNamedVariants : TypeValue → Type 0
HasNamedVariants (Primitive host _) = Unit {0}
HasNamedVariants (Enum variants _) = AllByRecursion (λ (variant : Variant). IsIdentifier variant.name.0) variants
HasNamedVariants (Struct fields _) = Unit {0}

-- a type has, and its variants
abbrev pub IsNamedType : TypeTree → Type 0
IsNamedType type = IsIdentifier type.name.0 × HasNamedVariants type.ty

-- a constant has one of a constant
abbrev pub IsNamedExtern : ExternTree → Type 0
IsNamedExtern (extern_constructor _ _ _) = Unit {0}
IsNamedExtern (extern_extractor _ _ _ _) = Unit {0}
IsNamedExtern (extern_const name _ _) = IsConstantName name.0

-- a definition of a type or of a constant gives such names
abbrev pub IsNamedDef : Def → Type 0
IsNamedDef (TypeDef type) = IsNamedType type
IsNamedDef (Decl _) = Unit {0}
IsNamedDef (Rule _) = Unit {0}
IsNamedDef (Extractor _) = Unit {0}
IsNamedDef (Extern external) = IsNamedExtern external
IsNamedDef (Converter _) = Unit {0}
IsNamedDef (Pragma _) = Unit {0}
IsNamedDef (Kept _) = Unit {0}

-- ---- parts of tokens

tokens_front : (u v : List Placed) → AreUtf8Tokens (u ++ v) → AreUtf8Tokens u
tokens_front [] v h = tt
tokens_front (t ∷ u) v h = (h.0, tokens_front u v h.1)

tokens_back : (u v : List Placed) → AreUtf8Tokens (u ++ v) → AreUtf8Tokens v
tokens_back [] v h = h
tokens_back (t ∷ u) v h = tokens_back u v h.1

front_of : (ts u v : List Placed) → ts ≡ u ++ v → AreUtf8Tokens ts → AreUtf8Tokens u
front_of ts u v e h = tokens_front u v (subst AreUtf8Tokens e h)

back_of : (ts u v : List Placed) → ts ≡ u ++ v → AreUtf8Tokens ts → AreUtf8Tokens v
back_of ts u v e h = tokens_back u v (subst AreUtf8Tokens e h)

-- tokens in UTF-8 that spell something tell this of it
record Tells (P : Type 0) (L : List Placed → Type 0) : Type 0 where
  told : (ts : List Placed) → AreUtf8Tokens ts → L ts → P

tells_first : {P : Type 0} {L M : List Placed → Type 0} → Tells P L → Tells P (L ⊙ M)
tells_first f = record { told = λ ts h l. f.told l.0 (front_of ts l.0 l.1 l.2 h) l.3 }

tells_second : {P : Type 0} {L M : List Placed → Type 0} → Tells P M → Tells P (L ⊙ M)
tells_second f = record { told = λ ts h l. f.told l.1 (back_of ts l.0 l.1 l.2 h) l.4 }

tells_both : {P Q : Type 0} {L M : List Placed → Type 0} → Tells P L → Tells Q M → Tells (P × Q) (L ⊙ M)
tells_both f g = record {
  told = λ ts h l. (f.told l.0 (front_of ts l.0 l.1 l.2 h) l.3, g.told l.1 (back_of ts l.0 l.1 l.2 h) l.4);
}

tells_with : {P : Type 0} {L : List Placed → Type 0} (Q : List Placed → Type 0) → Tells P L → Tells P (λ ts. L ts × Q ts)
tells_with Q f = record { told = λ ts h l. f.told ts h l.0 }

tells_each : {A : Type 0} (P : A → Type 0) (L : A → List Placed → Type 0) → ((a : A) → Tells (P a) (L a)) → (xs : List A)
    → Tells (AllByRecursion P xs) (Each L xs)
tells_each P L each [] = record { told = λ ts h l. tt }
tells_each P L each (x ∷ xs) = record {
  told = λ ts h l. (tells_both (each x) (tells_each P L each xs)).told ts h l;
}

tells_nothing : (L : List Placed → Type 0) → Tells (Unit {0}) L
tells_nothing L = record { told = λ ts h l. tt }

-- ---- names

ident_tells : (x : Ident) → Tells (IsIdentifier x.0) (SpellsIdent x)
ident_tells x = record { told = λ ts h l. ((subst AreUtf8Tokens l.0 h).0, l.1) }

constant_tells : (x : Ident) → Tells (IsConstantName x.0) (Constant x)
constant_tells x = record { told = λ ts h l. (utf8_behind_ascii [] 36 x.0 (subst AreUtf8Tokens l.0 h).0 (omega arith), l.1) }

-- ---- definitions

variant_told : (v : Variant) (ts : List Placed) → AreUtf8Tokens ts → SpellsVariant v ts → IsIdentifier v.name.0
variant_told v ts h (bare l place none) = (ident_tells v.name).told ts h l
variant_told v ts h (in_list l) = (tells_second (tells_first (ident_tells v.name))).told ts h l

variants_tell : (value : TypeValue) → Tells (HasNamedVariants value) (SpellsTypeValue value)
variants_tell (Primitive x p) = tells_nothing (SpellsTypeValue (Primitive x p))
variants_tell (Enum variants p) =
    tells_second (tells_second (tells_first
    (tells_each (λ (v : Variant). IsIdentifier v.name.0) SpellsVariant (λ v. record { told = variant_told v }) variants)))
variants_tell (Struct fields p) = tells_nothing (SpellsTypeValue (Struct fields p))

type_tells : (t : TypeTree) → Tells (IsNamedType t) (SpellsType t)
type_tells t = tells_with (λ ts. t.pos ≡ t.name.1) (tells_both (ident_tells t.name) (tells_second (tells_first (variants_tell t.ty))))

extern_tells : (x : ExternTree) → Tells (IsNamedExtern x) (SpellsExtern x)
extern_tells (extern_constructor term func p) = tells_nothing (SpellsExtern (extern_constructor term func p))
extern_tells (extern_extractor term func p infallible) = tells_nothing (SpellsExtern (extern_extractor term func p infallible))
extern_tells (extern_const name ty p) = tells_second (tells_first (constant_tells name))

def_tells : (def : Def) → Tells (IsNamedDef def) (SpellsDef def)
def_tells (TypeDef t) = tells_second (tells_second (type_tells t))
def_tells (Decl d) = tells_nothing (SpellsDef (Decl d))
def_tells (Rule r) = tells_nothing (SpellsDef (Rule r))
def_tells (Extractor x) = tells_nothing (SpellsDef (Extractor x))
def_tells (Extern x) = tells_second (tells_second (extern_tells x))
def_tells (Converter c) = tells_nothing (SpellsDef (Converter c))
def_tells (Pragma p) = tells_nothing (SpellsDef (Pragma p))
def_tells (Kept k) = tells_nothing (SpellsDef (Kept k))

-- what a text in UTF-8 spells
text_is_named : (file : ℕ) (text : List ℕ) (defs : List Def) → IsUtf8 text → Spells file text defs → AllByRecursion IsNamedDef defs
text_is_named file text defs u spells =
    let read = reading_of file text defs spells in
    (tells_each IsNamedDef SpellsDef def_tells defs).told read.0.left (tokens_are_utf8 read.1.tokens u) read.2.spelt

-- two lists
joined_named : (these rest : List Def) → AllByRecursion IsNamedDef these → AllByRecursion IsNamedDef rest
    → AllByRecursion IsNamedDef (these ++ rest)
joined_named [] rest h k = k
joined_named (def ∷ these) rest h k = (h.0, joined_named these rest h.1 k)

-- what files spell, whose texts are in UTF-8
pub files_are_named : (first : ℕ) (files : List SourceFile) (defs : List Def) → AreUtf8Texts files → AreSpelt first files defs
    → AllByRecursion IsNamedDef defs
files_are_named first [] defs u spelt = subst (AllByRecursion IsNamedDef) (sym spelt) tt
files_are_named first (file ∷ files) defs u spelt =
    subst (AllByRecursion IsNamedDef) (sym spelt.4)
    (joined_named (spelt.0) (spelt.1) (text_is_named first file.text (spelt.0) u.0 (spelt.2))
    (files_are_named (suc first) files (spelt.1) u.1 spelt.3))
