-- Reading declarations, extractors, what the host provides, converters and kept definitions follows the grammar.
use Rattle.std.proofs.Common.{◌≡◌, ℕ, suc, List, [], ◌∷◌, Bool, true, false, refl, sym, ap, subst, ◌∙◌}
use Rattle.std.specs.Prelude.{codes}
use Rattle.isle_syntax.specs.declared.kind.Keyword.{Keyword}
use Rattle.isle_syntax.specs.declared.kind.Keyword.TheVariants as keyword
use Rattle.isle_ast.specs.declared.pos.Pos.{Pos}
use Rattle.isle_ast.specs.declared.ast.Ident.{Ident}
use Rattle.isle_ast.specs.declared.ast.Decl.{Decl as DeclTree}
use Rattle.isle_ast.specs.declared.ast.Extractor.{Extractor as ExtractorTree}
use Rattle.isle_ast.specs.declared.ast.Extern.{Extern as ExternTree}
use Rattle.isle_ast.specs.declared.ast.Extern.TheVariants.{Constructor as extern_constructor, Extractor as extern_extractor, Const as extern_const}
use Rattle.isle_ast.specs.declared.ast.Kept.{Kept as KeptTree}
use Rattle.isle_ast.specs.Trees.PatternTree.{PatternTree}
use Rattle.isle_ast.specs.Trees.ItemTree.{ItemTree}
use Rattle.isle_ast.specs.Trees.PatternShape.{pattern_of}
use Rattle.isle_syntax.specs.Tokens.PlacedTokens.{Placed, symbol}
use Rattle.isle_syntax.specs.Tokens.Names.{is_const}
use Rattle.isle_syntax.specs.Grammar.Phrases.{◌⊙◌, Both, Opens, Closes, Opening, Word, SymbolOf, Flag, Closed, From}
use Rattle.isle_syntax.specs.Grammar.TreeGrammar.{Constant, SpellsPattern, SpellsItem}
use Rattle.isle_syntax.specs.Inside.Reading.KindOf.{keyword_at}
use Rattle.isle_syntax.specs.Inside.Reading.Readers.{seq, rest_of, closed, word, optional}
use Rattle.isle_syntax.specs.Inside.Reading.TreeReading.{ident, after_dollar}
use Rattle.isle_syntax.specs.Grammar.DefGrammar.{SpellsIdent, SpellsSignature, SpellsDecl, SpellsExtractor, SpellsExtern, SpellsConverter}
use Rattle.isle_syntax.specs.Grammar.DefGrammar.{is_kept_word, SpellsKept}
use Rattle.isle_syntax.specs.Inside.Reading.DefReading.{identifier, Signature, signature, decl_of, decl, extractor_of, extractor, constant, two_names}
use Rattle.isle_syntax.specs.Inside.Reading.DefReading.{extern_on, extern_def, converter_of, converter, kept_of, kept}
use Rattle.isle_syntax.proofs.Reading.Follows.{start, Begins, FollowsAt, Follows, Any, follows_seq}
use Rattle.isle_syntax.proofs.Reading.Cases.{follows_case, follows_no_case, follows_from}
use Rattle.isle_syntax.proofs.Reading.Flags.{Flagged, flag_filled, follows_flag}
use Rattle.isle_syntax.proofs.Reading.Basics.{follows_parens, follows_close, follows_symbol_of, follows_word, follows_map, group_left, group_right}
use Rattle.isle_syntax.proofs.Reading.Basics.{some_both, some_closed, some_opens, some_closes, some_place, both_filled, closed_is_filled}
use Rattle.isle_syntax.proofs.Reading.Basics.{symbol_filled, word_filled}
use Rattle.isle_syntax.proofs.Reading.Words.{underscores_are_const_name}
use Rattle.isle_syntax.proofs.Reading.SymbolKinds.{const_from, const_text, const_name}
use Rattle.isle_syntax.proofs.Reading.PatternEnds.{follows_seq_before, closes_not_at}
use Rattle.isle_syntax.proofs.Productions.Patterns.{some_pattern, follows_pattern}
use Rattle.isle_syntax.proofs.Productions.Items.{follows_items, items_from_each, each_from_items}
use Rattle.isle_syntax.proofs.Trees.TreeForms.{pattern_of_from, pattern_from_of}
use Rattle.isle_syntax.proofs.Reading.Keywords.{keyword_looks, word_keyword, constructor_word, extractor_word, const_word}
use Rattle.isle_syntax.proofs.Productions.Types.{some_ident, follows_ident, ident_filled, follows_idents, some_ident_closed, follows_ident_closed}

-- two identifiers and what closes them
abbrev pub some_two_names : Begins (Both SpellsIdent (Both SpellsIdent Closes)) []
some_two_names = some_both some_ident some_ident_closed

pub follows_two_names : (d : ℕ) → Follows (Both SpellsIdent (Both SpellsIdent Closes)) Any d (suc d) two_names
follows_two_names d = follows_seq some_ident_closed (follows_ident d) (follows_ident_closed d)

two_names_filled : (b : Ident × (Ident × Unit {0})) (v : List Placed) → Both SpellsIdent (Both SpellsIdent Closes) b v → v ≡ [] → ⊥
two_names_filled = both_filled SpellsIdent (Both SpellsIdent Closes) ident_filled

-- ---- declarations

abbrev SignatureParts : Signature → List Placed → Type 0
SignatureParts = Both SpellsIdent (Both (Both Opens (Closed SpellsIdent)) (Both SpellsIdent Closes))

abbrev some_signature : Begins SignatureParts []
some_signature = some_both some_ident (some_both (some_both some_opens (some_closed SpellsIdent)) some_ident_closed)

signature_filled : (b : Signature) (v : List Placed) → SignatureParts b v → v ≡ [] → ⊥
signature_filled = both_filled SpellsIdent (Both (Both Opens (Closed SpellsIdent)) (Both SpellsIdent Closes)) ident_filled

follows_signature : (d : ℕ) → Follows SignatureParts Any d (suc d) (signature d)
follows_signature d =
    let args = follows_parens d (λ n. rest_of identifier) (some_closed SpellsIdent) follows_idents in
    follows_seq (some_both (some_both some_opens (some_closed SpellsIdent)) some_ident_closed) (follows_ident d)
    (follows_seq some_ident_closed args (follows_ident_closed d))

-- with the flags before it, from the last
abbrev RecParts : Bool × Signature → List Placed → Type 0
RecParts = Flagged (codes "rec") SignatureParts

abbrev PartialParts : Bool × (Bool × Signature) → List Placed → Type 0
PartialParts = Flagged (codes "partial") RecParts

abbrev MultiParts : Bool × (Bool × (Bool × Signature)) → List Placed → Type 0
MultiParts = Flagged (codes "multi") PartialParts

abbrev PureParts : Bool × (Bool × (Bool × (Bool × Signature))) → List Placed → Type 0
PureParts = Flagged (codes "pure") MultiParts

rec_filled : (b : Bool × Signature) (v : List Placed) → RecParts b v → v ≡ [] → ⊥
rec_filled = flag_filled (codes "rec") SignatureParts signature_filled

partial_filled : (b : Bool × (Bool × Signature)) (v : List Placed) → PartialParts b v → v ≡ [] → ⊥
partial_filled = flag_filled (codes "partial") RecParts rec_filled

multi_filled : (b : Bool × (Bool × (Bool × Signature))) (v : List Placed) → MultiParts b v → v ≡ [] → ⊥
multi_filled = flag_filled (codes "multi") PartialParts partial_filled

pure_filled : (b : Bool × (Bool × (Bool × (Bool × Signature)))) (v : List Placed) → PureParts b v → v ≡ [] → ⊥
pure_filled = flag_filled (codes "pure") MultiParts multi_filled

module _ (d : ℕ) where
  follows_rec : Follows RecParts Any d (suc d) (optional (codes "rec") (signature d))
  follows_rec = follows_flag (codes "rec") SignatureParts signature_filled Any d (suc d) (signature d) (follows_signature d)
      (some_signature.0, some_signature.1, some_signature.2, refl)

  follows_partial : Follows PartialParts Any d (suc d) (optional (codes "partial") (optional (codes "rec") (signature d)))
  follows_partial = follows_flag (codes "partial") RecParts rec_filled Any d (suc d) (optional (codes "rec") (signature d)) follows_rec
      ((false, some_signature.0), some_signature.1, (some_signature.2, refl), refl)

  follows_multi : Follows MultiParts Any d (suc d) (optional (codes "multi") (optional (codes "partial") (optional (codes "rec") (signature d))))
  follows_multi =
      follows_flag (codes "multi") PartialParts partial_filled Any d (suc d) (optional (codes "partial") (optional (codes "rec") (signature d)))
      follows_partial
      ((false, (false, some_signature.0)), some_signature.1, ((some_signature.2, refl), refl), refl)

  follows_pure : Follows PureParts Any d (suc d)
      (optional (codes "pure") (optional (codes "multi") (optional (codes "partial") (optional (codes "rec") (signature d)))))
  follows_pure =
      follows_flag (codes "pure") MultiParts multi_filled Any d (suc d)
      (optional (codes "multi") (optional (codes "partial") (optional (codes "rec") (signature d)))) follows_multi
      ((false, (false, (false, some_signature.0))), some_signature.1, (((some_signature.2, refl), refl), refl), refl)

-- the name, the arguments' types and the result's
abbrev Signed : Ident → List Ident → Ident → List Placed → Type 0
Signed term args ret = SpellsIdent term ⊙ (Opening tt ⊙ (Closed SpellsIdent args ⊙ (SpellsIdent ret ⊙ Closes tt)))

signed_into : (a : Signature) (u : List Placed) → SignatureParts a u → Signed a.0 a.1.0.1 a.1.1.0 u
signed_into a u l =
    let h = group_right (Opens a.1.0.0) (Closed SpellsIdent a.1.0.1) (SpellsIdent a.1.1.0 ⊙ Closes tt) l.1 l.4 in
    (l.0, l.1, l.2, l.3, (h.0, h.1, h.2, (a.1.0.0, h.3), h.4))

signed_back : (term : Ident) (args : List Ident) (ret : Ident) (u : List Placed) → Signed term args ret u
    → (p : Pos) × SignatureParts (term, ((p, args), (ret, tt))) u
signed_back term args ret u l =
    let h = l.4 in
    let p = h.3.0 in
    (p, (l.0, l.1, l.2, l.3, group_left (Opens p) (Closed SpellsIdent args) (SpellsIdent ret ⊙ Closes tt) l.1 (h.0, h.1, h.2, h.3.1, h.4)))

flag_map : (w : List ℕ) (b : Bool) (L M : List Placed → Type 0) → ((u : List Placed) → L u → M u) → (u : List Placed) → Flag w b L u → Flag w b M u
flag_map w true L M f u l = (l.0, l.1, l.2, l.3, f l.1 l.4)
flag_map w false L M f u l = (f u l.0, l.1)

flag_some : (w : List ℕ) (b : Bool) (L : Pos → List Placed → Type 0) (M : List Placed → Type 0) → ((u : List Placed) → M u → (p : Pos) × L p u)
    → (u : List Placed) → Flag w b M u → (p : Pos) × Flag w b (L p) u
flag_some w true L M f u l = let h = f l.1 l.4 in (h.0, (l.0, l.1, l.2, l.3, h.1))
flag_some w false L M f u l = let h = f u l.0 in (h.0, (h.1, l.1))

decl_into : (a : Pos × (Bool × (Bool × (Bool × (Bool × Signature))))) (u : List Placed) → From PureParts a u → SpellsDecl (decl_of a) u
decl_into a u l =
    let s = a.1.1.1.1.1 in
    let b = a.1.1.1.1.0 in
    let signed = Signed s.0 s.1.0.1 s.1.1.0 in
    let with_rec = flag_map (codes "rec") b (SignatureParts s) signed (signed_into s) in
    let with_partial = flag_map (codes "partial") a.1.1.1.0 (RecParts (b, s)) (Flag (codes "rec") b signed) with_rec in
    let with_multi =
    flag_map (codes "multi") a.1.1.0 (PartialParts (a.1.1.1.0, (b, s))) (Flag (codes "partial") a.1.1.1.0 (Flag (codes "rec") b signed))
    with_partial in (
      flag_map (codes "pure") a.1.0 (MultiParts a.1.1) (Flag (codes "multi") a.1.1.0 (Flag (codes "partial") a.1.1.1.0 (Flag (codes "rec") b signed)))
          with_multi u l.0,
      l.1,
    )

decl_back : (b : DeclTree) (v : List Placed) → SpellsDecl b v → (a : Pos × (Bool × (Bool × (Bool × (Bool × Signature))))) × (b ≡ decl_of a)
    × From PureParts a v
decl_back b v l =
    let sign : Pos → Signature = λ p. (b.term, ((p, b.arg_tys), (b.ret_ty, tt))) in
    let signed = signed_back b.term b.arg_tys b.ret_ty in
    let with_rec = flag_some (codes "rec") b.rec (λ p. SignatureParts (sign p)) (SpellsSignature b) signed in
    let with_partial = flag_some (codes "partial") b.partial (λ p. RecParts (b.rec, sign p)) (Flag (codes "rec") b.rec (SpellsSignature b)) with_rec
    in
    let with_multi = flag_some (codes "multi") b.multi (λ p. PartialParts (b.partial, (b.rec, sign p)))
    (Flag (codes "partial") b.partial (Flag (codes "rec") b.rec (SpellsSignature b))) with_partial in
    let all = flag_some (codes "pure") b.pure (λ p. MultiParts (b.multi, (b.partial, (b.rec, sign p))))
    (Flag (codes "multi") b.multi (Flag (codes "partial") b.partial (Flag (codes "rec") b.rec (SpellsSignature b)))) with_multi v l.0 in
    ((b.pos, (b.pure, (b.multi, (b.partial, (b.rec, sign all.0))))), refl, (all.1, l.1))

pub decl_filled : (b : DeclTree) (v : List Placed) → SpellsDecl b v → v ≡ [] → ⊥
decl_filled b v l e = let a = decl_back b v l in pure_filled a.0.1 v a.2.0 e

abbrev some_decl_parts : Begins (From PureParts) []
some_decl_parts =
    ((start, (false, (false, (false, (false, some_signature.0))))), some_signature.1, (((((some_signature.2, refl), refl), refl), refl), refl))

pub some_decl : Begins SpellsDecl []
some_decl = (decl_of some_decl_parts.0, some_decl_parts.1, decl_into some_decl_parts.0 some_decl_parts.1 some_decl_parts.2)

pub follows_decl : (d : ℕ) → Follows SpellsDecl Any d (suc d) (decl d)
follows_decl d = follows_map {L = From PureParts} {K = SpellsDecl} decl_of decl_into decl_back (follows_from pure_filled (follows_pure d))

-- ---- extractors

abbrev ExtractorParts : (Pos × (Ident × List Ident)) × (PatternTree × Unit {0}) → List Placed → Type 0
ExtractorParts = Both (Both Opens (Both SpellsIdent (Closed SpellsIdent))) (Both SpellsPattern Closes)

-- the same with the template's tree
abbrev Extracted : Pos → Ident → List Ident → PatternTree → List Placed → Type 0
Extracted p term args template = Opens p ⊙ ((SpellsIdent term ⊙ Closed SpellsIdent args) ⊙ (SpellsPattern template ⊙ Closes tt))

extractor_into : (a : (Pos × (Ident × List Ident)) × (PatternTree × Unit {0})) (u : List Placed) → ExtractorParts a u
    → SpellsExtractor (extractor_of a) u
extractor_into a u l =
    subst (λ t. Extracted a.0.0 a.0.1.0 a.0.1.1 t u) (sym (pattern_of_from a.1.0))
    (group_right (Opens a.0.0) (SpellsIdent a.0.1.0 ⊙ Closed SpellsIdent a.0.1.1) (SpellsPattern a.1.0 ⊙ Closes tt) u l)

extractor_back : (b : ExtractorTree) (v : List Placed) → SpellsExtractor b v → (a : (Pos × (Ident × List Ident)) × (PatternTree × Unit {0}))
    × (b ≡ extractor_of a) × ExtractorParts a v
extractor_back b v l = (
  ((b.pos, (b.term, b.args)), (pattern_of b.template, tt)),
  ap (λ t. record { term = b.term; args = b.args; template = t; pos = b.pos }) (sym (pattern_from_of b.template)),
  group_left (Opens b.pos) (SpellsIdent b.term ⊙ Closed SpellsIdent b.args) (SpellsPattern (pattern_of b.template) ⊙ Closes tt) v l,
)

some_template : Begins (Both SpellsPattern Closes) []
some_template = some_both some_pattern some_closes

some_extractor_parts : Begins ExtractorParts []
some_extractor_parts = some_both (some_both some_opens (some_both some_ident (some_closed SpellsIdent))) some_template

pub some_extractor : Begins SpellsExtractor []
some_extractor = let b = some_extractor_parts in (extractor_of b.0, b.1, extractor_into b.0 b.1 b.2)

pub follows_extractor : (d : ℕ) → Follows SpellsExtractor Any d (suc d) (extractor d)
follows_extractor d =
    let head = follows_parens d (λ n. seq identifier (rest_of identifier)) (some_both some_ident (some_closed SpellsIdent))
    (λ n. follows_seq (some_closed SpellsIdent) (follows_ident n) (follows_idents n)) in
    let template = follows_seq_before (λ b v w l fw. closes_not_at b v w l) some_closes (follows_pattern d) (follows_close d) in
    follows_map {L = ExtractorParts} {K = SpellsExtractor} extractor_of extractor_into extractor_back (follows_seq some_template head template)

-- ---- what the host provides

some_constant_symbol : Begins (SymbolOf is_const) []
some_constant_symbol =
    (ident start (36 ∷ codes "__"), symbol start (36 ∷ codes "__") ∷ [], (refl, const_from (codes "__") underscores_are_const_name))

some_constant : Begins Constant []
some_constant = (ident start (codes "__"), symbol start (36 ∷ codes "__") ∷ [], (refl, underscores_are_const_name))

pub follows_constant : (d : ℕ) → Follows Constant Any d d constant
follows_constant d =
    follows_map {L = SymbolOf is_const} {K = Constant} (λ x. ident x.1 (after_dollar x.0)) (λ a u l. (
      l.0
          ∙ ap (λ s. symbol a.1 s ∷ []) (const_text a.0 l.1),
      const_name a.0 l.1,
    ))
    (λ b v l. (ident b.1 (36 ∷ b.0), refl, (l.0, const_from b.0 l.1))) (follows_symbol_of is_const some_constant_symbol d)

abbrev TwoNames : Ident × (Ident × Unit {0}) → List Placed → Type 0
TwoNames = Both SpellsIdent (Both SpellsIdent Closes)

abbrev ConstructorParts : Pos × (Ident × (Ident × Unit {0})) → List Placed → Type 0
ConstructorParts = Both (Word (codes "constructor")) TwoNames

abbrev ExtractorNames : Pos × (Bool × (Ident × (Ident × Unit {0}))) → List Placed → Type 0
ExtractorNames = Both (Word (codes "extractor")) (Flagged (codes "infallible") TwoNames)

abbrev ConstParts : Pos × (Ident × (Ident × Unit {0})) → List Placed → Type 0
ConstParts = Both (Word (codes "const")) (Both Constant (Both SpellsIdent Closes))

abbrev extern_keyword : ExternTree → Keyword
extern_keyword (extern_constructor term func p) = keyword.Constructor
extern_keyword (extern_extractor term func p infallible) = keyword.Extractor
extern_keyword (extern_const name ty p) = keyword.Const

extern_first : (b : ExternTree) (v : List Placed) → SpellsExtern b v → keyword_at v ≡ extern_keyword b
extern_first (extern_constructor term func p) v l = word_keyword (codes "constructor") p _ v l ∙ constructor_word
extern_first (extern_extractor term func p infallible) v l = word_keyword (codes "extractor") p _ v l ∙ extractor_word
extern_first (extern_const name ty p) v l = word_keyword (codes "const") p _ v l ∙ const_word

pub extern_filled : (b : ExternTree) (v : List Placed) → SpellsExtern b v → v ≡ [] → ⊥
extern_filled b v l e = by b (sym (extern_first b v l) ∙ ap keyword_at e)
  where
    by : (b : ExternTree) → extern_keyword b ≡ keyword.NoKeyword → ⊥
    by (extern_constructor term func p) e = cc
    by (extern_extractor term func p infallible) e = cc
    by (extern_const name ty p) e = cc

constructor_back : (b : ExternTree) (v : List Placed) → SpellsExtern b v → keyword_at v ≡ keyword.Constructor
    → (a : Pos × (Ident × (Ident × Unit {0}))) × (b ≡ extern_constructor a.1.0 a.1.1.0 a.0) × ConstructorParts a v
constructor_back (extern_constructor term func p) v l at = ((p, (term, (func, tt))), refl, l)
constructor_back (extern_extractor term func p i) v l at = let e : keyword.Extractor ≡ keyword.Constructor =
    sym (extern_first (extern_extractor term func p i) v l) ∙ at in absurd (cc)
constructor_back (extern_const name ty p) v l at = let e : keyword.Const ≡ keyword.Constructor =
    sym (extern_first (extern_const name ty p) v l) ∙ at in absurd (cc)

extractor_names_back : (b : ExternTree) (v : List Placed) → SpellsExtern b v → keyword_at v ≡ keyword.Extractor
    → (a : Pos × (Bool × (Ident × (Ident × Unit {0})))) × (b ≡ extern_extractor a.1.1.0 a.1.1.1.0 a.0 a.1.0) × ExtractorNames a v
extractor_names_back (extern_constructor term func p) v l at = let e : keyword.Constructor ≡ keyword.Extractor =
    sym (extern_first (extern_constructor term func p) v l) ∙ at in absurd (cc)
extractor_names_back (extern_extractor term func p i) v l at = ((p, (i, (term, (func, tt)))), refl, l)
extractor_names_back (extern_const name ty p) v l at = let e : keyword.Const ≡ keyword.Extractor =
    sym (extern_first (extern_const name ty p) v l) ∙ at in absurd (cc)

const_back : (b : ExternTree) (v : List Placed) → SpellsExtern b v → keyword_at v ≡ keyword.Const → (a : Pos × (Ident × (Ident × Unit {0})))
    × (b ≡ extern_const a.1.0 a.1.1.0 a.0) × ConstParts a v
const_back (extern_constructor term func p) v l at = let e : keyword.Constructor ≡ keyword.Const =
    sym (extern_first (extern_constructor term func p) v l) ∙ at in absurd (cc)
const_back (extern_extractor term func p i) v l at = let e : keyword.Extractor ≡ keyword.Const =
    sym (extern_first (extern_extractor term func p i) v l) ∙ at in absurd (cc)
const_back (extern_const name ty p) v l at = ((p, (name, (ty, tt))), refl, l)

pub some_extern : Begins SpellsExtern []
some_extern =
    let b = some_both (some_place (codes "constructor")) some_two_names in
    (extern_constructor b.0.1.0 b.0.1.1.0 b.0.0, b.1, b.2)

abbrev OfExtern : Keyword → Type 0
OfExtern keyword.Constructor = Unit {0}
OfExtern keyword.Extractor = Unit {0}
OfExtern keyword.Const = Unit {0}
OfExtern _ = ⊥

extern_of_word : (b : ExternTree) → OfExtern (extern_keyword b)
extern_of_word (extern_constructor term func p) = tt
extern_of_word (extern_extractor term func p infallible) = tt
extern_of_word (extern_const name ty p) = tt

some_infallible : Begins (Flagged (codes "infallible") TwoNames) []
some_infallible = ((false, some_two_names.0), some_two_names.1, (some_two_names.2, refl))

follows_infallible : (d : ℕ) → Follows (Flagged (codes "infallible") TwoNames) Any d (suc d) (optional (codes "infallible") two_names)
follows_infallible d = follows_flag (codes "infallible") TwoNames two_names_filled Any d (suc d) two_names (follows_two_names d)
    (some_two_names.0, some_two_names.1, some_two_names.2, refl)

follows_extern_at : (d : ℕ) (ts : List Placed) (k : Keyword) → keyword_at ts ≡ k → FollowsAt SpellsExtern Any d (suc d) ts (extern_on k ts)
follows_extern_at d ts keyword.Constructor at =
    follows_case keyword_at keyword_looks ConstructorParts SpellsExtern Any d (suc d) ts keyword.Constructor at
    (λ x. extern_constructor x.1.0 x.1.1.0 x.0) (λ a u l h. l) constructor_back
    (both_filled (Word (codes "constructor")) _ (word_filled (codes "constructor"))) extern_filled some_extern
    (seq (word (codes "constructor")) two_names ts)
    ((follows_seq some_two_names (follows_word (codes "constructor") d) (follows_two_names d)).reads ts)
follows_extern_at d ts keyword.Extractor at =
    follows_case keyword_at keyword_looks ExtractorNames SpellsExtern Any d (suc d) ts keyword.Extractor at
    (λ x. extern_extractor x.1.1.0 x.1.1.1.0 x.0 x.1.0) (λ a u l h. l) extractor_names_back
    (both_filled (Word (codes "extractor")) _ (word_filled (codes "extractor"))) extern_filled some_extern
    (seq (word (codes "extractor")) (optional (codes "infallible") two_names) ts)
    ((follows_seq some_infallible (follows_word (codes "extractor") d) (follows_infallible d)).reads ts)
follows_extern_at d ts keyword.Const at =
    follows_case keyword_at keyword_looks ConstParts SpellsExtern Any d (suc d) ts keyword.Const at (λ x. extern_const x.1.0 x.1.1.0 x.0)
    (λ a u l h. l) const_back
    (both_filled (Word (codes "const")) _ (word_filled (codes "const"))) extern_filled some_extern
    (seq (word (codes "const")) (seq constant (seq identifier closed)) ts)
    ((follows_seq (some_both some_constant some_ident_closed) (follows_word (codes "const") d)
    (follows_seq some_ident_closed (follows_constant d) (follows_ident_closed d))).reads ts)
follows_extern_at d ts _ at =
    follows_no_case keyword_at keyword_looks SpellsExtern Any d (suc d) ts (keyword_at ts) refl (λ b v l e. subst OfExtern (sym (extern_first b v l)
    ∙ e ∙ at) (extern_of_word b)) extern_filled some_extern

pub follows_extern : (d : ℕ) → Follows SpellsExtern Any d (suc d) extern_def
follows_extern d = record { reads = λ ts. follows_extern_at d ts (keyword_at ts) refl }

-- ---- converters

abbrev ConverterParts : Ident × (Ident × (Ident × Unit {0})) → List Placed → Type 0
ConverterParts = Both SpellsIdent (Both SpellsIdent (Both SpellsIdent Closes))

some_converter_parts : Begins ConverterParts []
some_converter_parts = some_both some_ident some_two_names

pub some_converter : Begins SpellsConverter []
some_converter = let b = some_converter_parts in (converter_of b.0, b.1, (b.2, refl))

pub follows_converter : (d : ℕ) → Follows SpellsConverter Any d (suc d) converter
follows_converter d =
    follows_map {L = ConverterParts} {K = SpellsConverter} converter_of (λ a u l. (l, refl))
    (λ b v l. (
      (b.inner_ty, (b.outer_ty, (b.term, tt))),
      ap (λ p. record {
        term = b.term;
        inner_ty = b.inner_ty;
        outer_ty = b.outer_ty;
        pos = p;
      }) l.1,
      l.0,
    ))
    (follows_seq some_two_names (follows_ident d) (follows_two_names d))

-- ---- definitions that are kept

abbrev KeptParts : Ident × (Pos × List ItemTree) → List Placed → Type 0
KeptParts = Both (SymbolOf is_kept_word) (From (Closed SpellsItem))

pub some_kept_word : Begins (SymbolOf is_kept_word) []
some_kept_word = (ident start (codes "attr"), symbol start (codes "attr") ∷ [], (refl, refl))

some_items : Begins (From (Closed SpellsItem)) []
some_items = let b = some_closed SpellsItem in ((start, b.0), b.1, (b.2, refl))

kept_into : (a : Ident × (Pos × List ItemTree)) (u : List Placed) → KeptParts a u → SpellsKept (kept_of a) u
kept_into a u l = let c = l.4.0 in (l.0, l.1, l.2, l.3, ((c.0, c.1, c.2, items_from_each a.1.1 c.0 c.3, c.4), l.4.1))

kept_back : (b : KeptTree) (v : List Placed) → SpellsKept b v → (a : Ident × (Pos × List ItemTree)) × (b ≡ kept_of a) × KeptParts a v
kept_back b v l =
    let c = l.4.0 in
    let each = each_from_items b.items c.0 c.3 in (
      (b.word, (b.pos, each.0)),
      ap (λ k. record { word = b.word; items = k; pos = b.pos }) each.1,
      (l.0, l.1, l.2, l.3, ((c.0, c.1, c.2, each.2, c.4), l.4.1)),
    )

pub some_kept : Begins SpellsKept []
some_kept =
    let b = some_both some_kept_word some_items in
    (kept_of b.0, b.1, kept_into b.0 b.1 b.2)

pub kept_filled : (b : KeptTree) (v : List Placed) → SpellsKept b v → v ≡ [] → ⊥
kept_filled b v l e = let a = kept_back b v l in
    both_filled (SymbolOf is_kept_word) (From (Closed SpellsItem)) (symbol_filled is_kept_word) a.0 v a.2 e

pub follows_kept : (d : ℕ) → Follows SpellsKept Any d (suc d) (kept d)
follows_kept d =
    follows_map {L = KeptParts} {K = SpellsKept} kept_of kept_into kept_back
    (follows_seq some_items (follows_symbol_of is_kept_word some_kept_word d) (follows_from (closed_is_filled SpellsItem) (follows_items d)))
