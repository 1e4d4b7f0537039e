-- Reading a definition follows the grammar.
use Rattle.std.proofs.Common.{◌≡◌, ℕ, suc, ◌<◌, List, [], ◌∷◌, ◌++◌, length, refl, sym, ap, subst, ◌∙◌}
use Rattle.std.specs.Prelude.{codes}
use Rattle.isle_syntax.specs.declared.kind.Keyword.{Keyword}
use Rattle.isle_syntax.specs.declared.kind.Keyword.TheVariants as keyword
use Rattle.isle_ast.specs.declared.pos.Pos.{Pos}
use Rattle.isle_ast.specs.declared.ast.«Type».{«Type» as TypeTree}
use Rattle.isle_ast.specs.declared.ast.Decl.{Decl as DeclTree}
use Rattle.isle_ast.specs.declared.ast.Rule.{Rule as RuleTree}
use Rattle.isle_ast.specs.declared.ast.Extractor.{Extractor as ExtractorTree}
use Rattle.isle_ast.specs.declared.ast.Extern.{Extern as ExternTree}
use Rattle.isle_ast.specs.declared.ast.Converter.{Converter as ConverterTree}
use Rattle.isle_ast.specs.declared.ast.Kept.{Kept as KeptTree}
use Rattle.isle_ast.specs.declared.ast.Def.{Def}
use Rattle.isle_ast.specs.declared.ast.Def.TheVariants as defs
use Rattle.isle_syntax.specs.Tokens.PlacedTokens.{Placed, opening, closing}
use Rattle.isle_syntax.specs.Grammar.Phrases.{◌⊙◌, Both, Opens, Says}
use Rattle.isle_syntax.specs.Inside.Reading.KindOf.{keyword_at}
use Rattle.isle_syntax.specs.Inside.Reading.Readers.{done, Reader, read_map, seq, says}
use Rattle.isle_syntax.specs.Grammar.DefGrammar.{SpellsType, SpellsDecl, SpellsRule, SpellsExtractor, SpellsExtern, SpellsConverter, SpellsKept}
use Rattle.isle_syntax.specs.Grammar.DefGrammar.{SpellsDef}
use Rattle.isle_syntax.specs.Inside.Reading.DefReading.{type_def, decl, rule, extractor, extern_def, converter, kept, def_on, def_inner, def}
use Rattle.isle_syntax.proofs.Reading.Follows.{Begins, FollowsAt, Follows, Any, Starts, follows_seq, shorter_after}
use Rattle.isle_syntax.proofs.Reading.Cases.{follows_case, follows_no_case}
use Rattle.isle_syntax.proofs.Reading.Basics.{follows_parens, follows_says, follows_map, both_filled, says_filled}
use Rattle.isle_syntax.proofs.Reading.Keywords.{keyword_looks, says_keyword, kept_word, type_word, decl_word, rule_word, extractor_word, extern_word}
use Rattle.isle_syntax.proofs.Reading.Keywords.{convert_word}
use Rattle.isle_syntax.proofs.Productions.Types.{some_type, follows_type}
use Rattle.isle_syntax.proofs.Productions.Terms.{some_decl, follows_decl, some_extractor, follows_extractor, some_extern, follows_extern}
use Rattle.isle_syntax.proofs.Productions.Terms.{some_converter, follows_converter, some_kept, kept_filled, follows_kept}
use Rattle.isle_syntax.proofs.Productions.Rules.{some_rule, follows_rule}

-- what stands in a definition's parentheses, with the closing one
abbrev SpellsInside : Def → List Placed → Type 0
SpellsInside (defs.TypeDef t) = Says (codes "type") tt ⊙ SpellsType t
SpellsInside (defs.Decl d) = Says (codes "decl") tt ⊙ SpellsDecl d
SpellsInside (defs.Rule r) = Says (codes "rule") tt ⊙ SpellsRule r
SpellsInside (defs.Extractor x) = Says (codes "extractor") tt ⊙ SpellsExtractor x
SpellsInside (defs.Extern x) = Says (codes "extern") tt ⊙ SpellsExtern x
SpellsInside (defs.Converter c) = Says (codes "convert") tt ⊙ SpellsConverter c
SpellsInside (defs.Pragma p) = λ ts. ⊥
SpellsInside (defs.Kept k) = SpellsKept k

abbrev def_keyword : Def → Keyword
def_keyword (defs.TypeDef t) = keyword.Type
def_keyword (defs.Decl d) = keyword.Decl
def_keyword (defs.Rule r) = keyword.Rule
def_keyword (defs.Extractor x) = keyword.Extractor
def_keyword (defs.Extern x) = keyword.Extern
def_keyword (defs.Converter c) = keyword.Convert
def_keyword (defs.Pragma p) = keyword.NoKeyword
def_keyword (defs.Kept k) = keyword.Kept

def_first : (b : Def) (v : List Placed) → SpellsInside b v → keyword_at v ≡ def_keyword b
def_first (defs.TypeDef t) v l = says_keyword (codes "type") _ v l ∙ type_word
def_first (defs.Decl d) v l = says_keyword (codes "decl") _ v l ∙ decl_word
def_first (defs.Rule r) v l = says_keyword (codes "rule") _ v l ∙ rule_word
def_first (defs.Extractor x) v l = says_keyword (codes "extractor") _ v l ∙ extractor_word
def_first (defs.Extern x) v l = says_keyword (codes "extern") _ v l ∙ extern_word
def_first (defs.Converter c) v l = says_keyword (codes "convert") _ v l ∙ convert_word
def_first (defs.Pragma p) v l = absurd l
def_first (defs.Kept k) v l = ap keyword_at (l.2 ∙ ap (λ k. k ++ l.1) l.3.0) ∙ kept_word k.word.0 l.3.1

inside_filled : (b : Def) (v : List Placed) → SpellsInside b v → v ≡ [] → ⊥
inside_filled (defs.TypeDef t) v l e = both_filled (Says (codes "type")) SpellsType (says_filled (codes "type")) (tt, t) v l e
inside_filled (defs.Decl d) v l e = both_filled (Says (codes "decl")) SpellsDecl (says_filled (codes "decl")) (tt, d) v l e
inside_filled (defs.Rule r) v l e = both_filled (Says (codes "rule")) SpellsRule (says_filled (codes "rule")) (tt, r) v l e
inside_filled (defs.Extractor x) v l e = both_filled (Says (codes "extractor")) SpellsExtractor (says_filled (codes "extractor")) (tt, x) v l e
inside_filled (defs.Extern x) v l e = both_filled (Says (codes "extern")) SpellsExtern (says_filled (codes "extern")) (tt, x) v l e
inside_filled (defs.Converter c) v l e = both_filled (Says (codes "convert")) SpellsConverter (says_filled (codes "convert")) (tt, c) v l e
inside_filled (defs.Pragma p) v l e = l
inside_filled (defs.Kept k) v l e = kept_filled k v l e

some_inside : Begins SpellsInside []
some_inside = (defs.Kept some_kept.0, some_kept.1, some_kept.2)

abbrev OfDef : Keyword → Type 0
OfDef keyword.Type = Unit {0}
OfDef keyword.Decl = Unit {0}
OfDef keyword.Rule = Unit {0}
OfDef keyword.Extractor = Unit {0}
OfDef keyword.Extern = Unit {0}
OfDef keyword.Convert = Unit {0}
OfDef keyword.Kept = Unit {0}
OfDef _ = ⊥

def_of_word : (b : Def) (v : List Placed) → SpellsInside b v → OfDef (def_keyword b)
def_of_word (defs.TypeDef t) v l = tt
def_of_word (defs.Decl d) v l = tt
def_of_word (defs.Rule r) v l = tt
def_of_word (defs.Extractor x) v l = tt
def_of_word (defs.Extern x) v l = tt
def_of_word (defs.Converter c) v l = tt
def_of_word (defs.Pragma p) v l = absurd l
def_of_word (defs.Kept k) v l = tt

-- ---- by the definition's word

-- a definition that begins with this word
abbrev Is : Keyword → Def → List Placed → Type 0
Is keyword.Type b v = (a : Unit {0} × TypeTree) × (b ≡ defs.TypeDef a.1) × Both (Says (codes "type")) SpellsType a v
Is keyword.Decl b v = (a : Unit {0} × DeclTree) × (b ≡ defs.Decl a.1) × Both (Says (codes "decl")) SpellsDecl a v
Is keyword.Rule b v = (a : Unit {0} × RuleTree) × (b ≡ defs.Rule a.1) × Both (Says (codes "rule")) SpellsRule a v
Is keyword.Extractor b v = (a : Unit {0} × ExtractorTree) × (b ≡ defs.Extractor a.1) × Both (Says (codes "extractor")) SpellsExtractor a v
Is keyword.Extern b v = (a : Unit {0} × ExternTree) × (b ≡ defs.Extern a.1) × Both (Says (codes "extern")) SpellsExtern a v
Is keyword.Convert b v = (a : Unit {0} × ConverterTree) × (b ≡ defs.Converter a.1) × Both (Says (codes "convert")) SpellsConverter a v
Is keyword.Kept b v = (a : KeptTree) × (b ≡ defs.Kept a) × SpellsKept a v
Is _ b v = Unit {0}

is_own : (b : Def) (v : List Placed) → SpellsInside b v → Is (def_keyword b) b v
is_own (defs.TypeDef t) v l = ((tt, t), refl, l)
is_own (defs.Decl d) v l = ((tt, d), refl, l)
is_own (defs.Rule r) v l = ((tt, r), refl, l)
is_own (defs.Extractor x) v l = ((tt, x), refl, l)
is_own (defs.Extern x) v l = ((tt, x), refl, l)
is_own (defs.Converter c) v l = ((tt, c), refl, l)
is_own (defs.Pragma p) v l = tt
is_own (defs.Kept k) v l = (k, refl, l)

def_back : (k : Keyword) (b : Def) (v : List Placed) → SpellsInside b v → keyword_at v ≡ k → Is k b v
def_back k b v l at = subst (λ k. Is k b v) (sym (def_first b v l) ∙ at) (is_own b v l)

-- a word and what follows it
module _ {A : Type 0} (w : List ℕ) (k : Keyword) (L : A → List Placed → Type 0) (f : A
    → Def) (d : ℕ) (q : Reader A) (some : Begins L []) (good : Follows L Any d (suc d) q)
    (into : (a : A) (u : List Placed) → (Says w tt ⊙ L a) u → SpellsInside (f a) u)
    (back : (b : Def) (v : List Placed) → SpellsInside b v → keyword_at v ≡ k → (a : Unit {0} × A) × (b ≡ f a.1) × Both (Says w) L a v) where
  follows_word_then : (ts : List Placed) → keyword_at ts ≡ k → FollowsAt SpellsInside Any d (suc d) ts (read_map (λ x. f x.1) (seq (says w) q ts))
  follows_word_then ts at =
      follows_case keyword_at keyword_looks (Both (Says w) L) SpellsInside Any d (suc d) ts k at (λ x. f x.1) (λ a u l h. into a.1 u l) back
      (both_filled (Says w) L (says_filled w)) inside_filled some_inside
      (seq (says w) q ts) ((follows_seq some (follows_says w d) good).reads ts)

follows_inside_at : (d : ℕ) (ts : List Placed) (k : Keyword) → keyword_at ts ≡ k → FollowsAt SpellsInside Any d (suc d) ts (def_on d k ts)
follows_inside_at d ts keyword.Type at = follows_word_then (codes "type") keyword.Type SpellsType defs.TypeDef d (type_def d) some_type
    (follows_type d) (λ a u l. l) (def_back keyword.Type) ts at
follows_inside_at d ts keyword.Decl at = follows_word_then (codes "decl") keyword.Decl SpellsDecl defs.Decl d (decl d) some_decl (follows_decl d)
    (λ a u l. l) (def_back keyword.Decl) ts at
follows_inside_at d ts keyword.Rule at = follows_word_then (codes "rule") keyword.Rule SpellsRule defs.Rule d (rule d) some_rule (follows_rule d)
    (λ a u l. l) (def_back keyword.Rule) ts at
follows_inside_at d ts keyword.Extractor at =
    follows_word_then (codes "extractor") keyword.Extractor SpellsExtractor defs.Extractor d (extractor d) some_extractor (follows_extractor d)
    (λ a u l. l) (def_back keyword.Extractor) ts at
follows_inside_at d ts keyword.Extern at = follows_word_then (codes "extern") keyword.Extern SpellsExtern defs.Extern d extern_def some_extern
    (follows_extern d) (λ a u l. l) (def_back keyword.Extern) ts at
follows_inside_at d ts keyword.Convert at = follows_word_then (codes "convert") keyword.Convert SpellsConverter defs.Converter d converter
    some_converter (follows_converter d) (λ a u l. l) (def_back keyword.Convert) ts at
follows_inside_at d ts keyword.Kept at =
    follows_case keyword_at keyword_looks SpellsKept SpellsInside Any d (suc d) ts keyword.Kept at defs.Kept (λ a u l h. l) (def_back keyword.Kept)
    kept_filled inside_filled some_inside
    (kept d ts) ((follows_kept d).reads ts)
follows_inside_at d ts _ at =
    follows_no_case keyword_at keyword_looks SpellsInside Any d (suc d) ts (keyword_at ts) refl (λ b v l e. subst OfDef (sym (def_first b v l) ∙ e
    ∙ at) (def_of_word b v l)) inside_filled some_inside

follows_inside : (d : ℕ) → Follows SpellsInside Any d (suc d) (def_inner d)
follows_inside d = record { reads = λ ts. follows_inside_at d ts (keyword_at ts) refl }

-- ---- definitions

def_into : (p : Pos) (b : Def) (u : List Placed) → (Opens p ⊙ SpellsInside b) u → SpellsDef b u
def_into p (defs.TypeDef t) u l = (l.0, l.1, l.2, (p, l.3), l.4)
def_into p (defs.Decl d) u l = (l.0, l.1, l.2, (p, l.3), l.4)
def_into p (defs.Rule r) u l = (l.0, l.1, l.2, (p, l.3), l.4)
def_into p (defs.Extractor x) u l = (l.0, l.1, l.2, (p, l.3), l.4)
def_into p (defs.Extern x) u l = (l.0, l.1, l.2, (p, l.3), l.4)
def_into p (defs.Converter c) u l = (l.0, l.1, l.2, (p, l.3), l.4)
def_into p (defs.Pragma x) u l = absurd l.4
def_into p (defs.Kept k) u l = (l.0, l.1, l.2, (p, l.3), l.4)

inside_back : (b : Def) (v : List Placed) → SpellsDef b v → (p : Pos) × (Opens p ⊙ SpellsInside b) v
inside_back (defs.TypeDef t) v l = (l.3.0, (l.0, l.1, l.2, l.3.1, l.4))
inside_back (defs.Decl d) v l = (l.3.0, (l.0, l.1, l.2, l.3.1, l.4))
inside_back (defs.Rule r) v l = (l.3.0, (l.0, l.1, l.2, l.3.1, l.4))
inside_back (defs.Extractor x) v l = (l.3.0, (l.0, l.1, l.2, l.3.1, l.4))
inside_back (defs.Extern x) v l = (l.3.0, (l.0, l.1, l.2, l.3.1, l.4))
inside_back (defs.Converter c) v l = (l.3.0, (l.0, l.1, l.2, l.3.1, l.4))
inside_back (defs.Pragma x) v l = absurd l
inside_back (defs.Kept k) v l = (l.3.0, (l.0, l.1, l.2, l.3.1, l.4))

def_opens : (b : Def) (v : List Placed) → SpellsDef b v → (p : Pos) × (u : List Placed) × (v ≡ opening p ∷ u)
def_opens b v l = let o = inside_back b v l in (o.0, o.1.1, o.1.2 ∙ ap (λ k. k ++ o.1.1) o.1.3)

pub def_starts : Starts SpellsDef
def_starts = record {
  filled = λ b v l e. (let o = def_opens b v l in let k : [] ≡ opening o.0 ∷ o.1 = sym e ∙ o.2 in cc);
  inside = λ b v w y q l e. (let o = def_opens b v l in let k : opening o.0 ∷ (o.1 ++ w) ≡ closing q ∷ y = ap (λ x. x ++ w) (sym o.2) ∙ e in cc);
}

pub follows_def : (d : ℕ) → Follows SpellsDef Any d d (def d)
follows_def d =
    follows_map {L = Both Opens SpellsInside} {K = SpellsDef} (λ x. x.1) (λ a u l. def_into a.0 a.1 u l)
    (λ b v l. (let o = inside_back b v l in ((o.0, b), refl, o.1)))
    (follows_parens d def_inner some_inside follows_inside)

pub def_shorter : (d : ℕ) (ts r : List Placed) (a : Def) → def d ts ≡ done a r → length r < length ts
def_shorter d ts r a h = shorter_after SpellsDef Any d d ts def_starts (def d ts) ((follows_def d).reads ts) a r h
