-- The words of the language by which the next token chooses.
use Rattle.std.proofs.Common.{◌≡◌, ℕ, List, ◌++◌, true, refl, ap, ◌∙◌}
use Rattle.std.specs.Prelude.{codes}
use Rattle.isle_syntax.specs.declared.kind.Keyword.TheVariants as keyword
use Rattle.isle_ast.specs.declared.pos.Pos.{Pos}
use Rattle.isle_syntax.specs.Tokens.PlacedTokens.{Placed}
use Rattle.isle_syntax.specs.Grammar.Phrases.{◌⊙◌, Word, Says}
use Rattle.isle_syntax.specs.Grammar.DefGrammar.{is_kept_word}
use Rattle.isle_syntax.specs.Inside.Reading.KindOf.{keyword_of, keyword_at}
use Rattle.isle_syntax.proofs.Reading.Cases.{Looks}

pub keyword_looks : Looks keyword_at
keyword_looks = record { same = λ t x y. refl }

-- the word that a phrase begins with
pub says_keyword : (w : List ℕ) (M : List Placed → Type 0) (v : List Placed) → (Says w tt ⊙ M) v → keyword_at v ≡ keyword_of w
says_keyword w M v l = ap keyword_at (l.2 ∙ ap (λ k. k ++ l.1) l.3.1)

pub word_keyword : (w : List ℕ) (p : Pos) (M : List Placed → Type 0) (v : List Placed) → (Word w p ⊙ M) v → keyword_at v ≡ keyword_of w
word_keyword w p M v l = ap keyword_at (l.2 ∙ ap (λ k. k ++ l.1) l.3)

pub type_word : keyword_of (codes "type") ≡ keyword.Type
unfolding keyword_of
type_word = refl

pub decl_word : keyword_of (codes "decl") ≡ keyword.Decl
unfolding keyword_of
decl_word = refl

pub rule_word : keyword_of (codes "rule") ≡ keyword.Rule
unfolding keyword_of
rule_word = refl

pub extractor_word : keyword_of (codes "extractor") ≡ keyword.Extractor
unfolding keyword_of
extractor_word = refl

pub extern_word : keyword_of (codes "extern") ≡ keyword.Extern
unfolding keyword_of
extern_word = refl

pub convert_word : keyword_of (codes "convert") ≡ keyword.Convert
unfolding keyword_of
convert_word = refl

pub nodebug_word : keyword_of (codes "nodebug") ≡ keyword.NoDebug
unfolding keyword_of
nodebug_word = refl

pub primitive_word : keyword_of (codes "primitive") ≡ keyword.Primitive
unfolding keyword_of
primitive_word = refl

pub enum_word : keyword_of (codes "enum") ≡ keyword.Enum
unfolding keyword_of
enum_word = refl

pub struct_word : keyword_of (codes "struct") ≡ keyword.Struct
unfolding keyword_of
struct_word = refl

pub constructor_word : keyword_of (codes "constructor") ≡ keyword.Constructor
unfolding keyword_of
constructor_word = refl

pub const_word : keyword_of (codes "const") ≡ keyword.Const
unfolding keyword_of
const_word = refl

-- a word of a kept definition
pub kept_word : (s : List ℕ) → is_kept_word s ≡ true → keyword_of s ≡ keyword.Kept
unfolding keyword_of
kept_word s e = rw e refl
