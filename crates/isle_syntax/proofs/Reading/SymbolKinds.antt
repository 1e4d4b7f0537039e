-- What a symbol of a kind is, and the kinds of words, constants and names.
use Rattle.std.proofs.Common.{◌≡◌, ℕ, List, [], ◌∷◌, Bool, true, false, cond, refl, sym, ap, subst, ◌∙◌, eqb-true}
use Rattle.std.specs.Prelude.{◌&&◌, not, codes}
use Rattle.std.specs.Str.{chars}
use Rattle.std.proofs.lemmas.Bool.{false≢true}
use Rattle.isle_syntax.specs.declared.kind.Kind.{Kind}
use Rattle.isle_syntax.specs.declared.kind.Kind.TheVariants.{True, False, Const, Wildcard, Name, Other}
use Rattle.isle_syntax.specs.Tokens.Names.{is_ident, begins_dollar, is_word, is_name, is_pname, is_const, is_const_name}
use Rattle.isle_syntax.specs.Inside.Reading.KindOf.{symbol_kind}
use Rattle.isle_syntax.specs.Inside.Reading.TreeReading.{after_dollar}
use Rattle.isle_syntax.proofs.Reading.Basics.{word_same}

pub and_first : (a b : Bool) → (a && b) ≡ true → a ≡ true
and_first true b e = refl
and_first false b e = e

pub and_second : (a b : Bool) → (a && b) ≡ true → b ≡ true
and_second true b e = e
and_second false b e = absurd (false≢true e)

pub not_false : (a : Bool) → not a ≡ true → a ≡ false
not_false true e = absurd (false≢true e)
not_false false e = refl

not_true : (a : Bool) → (a ≡ true → ⊥) → a ≡ false
not_true true e = absurd (e refl)
not_true false e = refl

-- what is known of a symbol of a kind
abbrev pub Known : List ℕ → Kind → Type 0
Known s True = s ≡ codes "true"
Known s False = s ≡ codes "false"
Known s Const = is_const s ≡ true
Known s Wildcard = s ≡ codes "_"
Known s Name = is_pname s ≡ true
Known s Other = (is_word (codes "true") s ≡ false) × (is_word (codes "false") s ≡ false) × (is_const s ≡ false) × (is_word (codes "_") s ≡ false)
    × (is_name s ≡ false)
Known s _ = ⊥

pname_from : (s : List ℕ) → is_word (codes "_") s ≡ false → is_name s ≡ true → is_pname s ≡ true
unfolding is_pname
pname_from s w n = rw (w, n) refl

known_by : (s : List ℕ) (a b c d e : Bool) → is_word (codes "true") s ≡ a → is_word (codes "false") s ≡ b → is_const s ≡ c → is_word (codes "_") s ≡ d
    → is_name s ≡ e
    → Known s (cond a True (cond b False (cond c Const (cond d Wildcard (cond e Name Other)))))
known_by s true b c d e ha hb hc hd he = word_same (codes "true") s ha
known_by s false true c d e ha hb hc hd he = word_same (codes "false") s hb
known_by s false false true d e ha hb hc hd he = hc
known_by s false false false true e ha hb hc hd he = word_same (codes "_") s hd
known_by s false false false false true ha hb hc hd he = pname_from s hd he
known_by s false false false false false ha hb hc hd he = (ha, hb, hc, hd, he)

pub symbol_known : (s : List ℕ) → Known s (symbol_kind s)
unfolding symbol_kind
symbol_known s = known_by s (is_word (codes "true") s) (is_word (codes "false") s) (is_const s) (is_word (codes "_") s) (is_name s) refl refl refl
    refl refl

pub true_kind : symbol_kind (codes "true") ≡ True
unfolding symbol_kind
true_kind = refl

pub false_kind : symbol_kind (codes "false") ≡ False
unfolding symbol_kind
false_kind = refl

pub wildcard_kind : symbol_kind (codes "_") ≡ Wildcard
unfolding symbol_kind is_const
wildcard_kind = refl

-- ---- constants

pub const_from : (x : List ℕ) → is_const_name x ≡ true → is_const (36 ∷ x) ≡ true
unfolding is_const
const_from x e = e

pub const_text : (s : List ℕ) → is_const s ≡ true → s ≡ 36 ∷ after_dollar s
unfolding is_const
const_text [] e = absurd (false≢true e)
const_text (b ∷ bs) e = ap (λ c. c ∷ bs) (eqb-true b 36 (and_first _ (is_const_name bs) e))

pub const_name : (s : List ℕ) → is_const s ≡ true → is_const_name (after_dollar s) ≡ true
unfolding is_const
const_name [] e = absurd (false≢true e)
const_name (b ∷ bs) e = and_second _ (is_const_name bs) e

const_dollar : (s : List ℕ) → is_const s ≡ true → begins_dollar s ≡ true
unfolding is_const
const_dollar [] e = absurd (false≢true e)
const_dollar (b ∷ bs) e = and_first _ (is_const_name bs) e

no_dollar_word : (w s : List ℕ) → begins_dollar w ≡ false → begins_dollar s ≡ true → is_word w s ≡ false
no_dollar_word w s n d = not_true (is_word w s) (λ e. false≢true (sym n ∙ ap begins_dollar (sym (word_same w s e)) ∙ d))

pub const_kind : (s : List ℕ) → is_const s ≡ true → symbol_kind s ≡ Const
unfolding symbol_kind
const_kind s e =
    let d = const_dollar s e in
    rw (no_dollar_word (codes "true") s refl d, no_dollar_word (codes "false") s refl d, e) refl

-- ---- names

name_parts : (s : List ℕ) → is_name s ≡ true → (begins_dollar s ≡ false) × (is_word (codes "true") s ≡ false) × (is_word (codes "false") s ≡ false)
unfolding is_name
name_parts s e =
    let words = and_first _ (not (is_word (codes "false") s)) e in
    let parts = and_first _ (not (is_word (codes "true") s)) words in (
      not_false _ (and_second (is_ident s) (not (begins_dollar s)) parts),
      not_false _ (and_second (is_ident s && not (begins_dollar s)) _ words),
      not_false _ (and_second (is_ident s && not (begins_dollar s) && not (is_word (codes "true") s)) _ e),
    )

name_no_const : (s : List ℕ) → is_name s ≡ true → is_const s ≡ false
name_no_const s e = not_true (is_const s) (λ c. false≢true (sym (name_parts s e).0 ∙ const_dollar s c))

pub pname_is_name : (s : List ℕ) → is_pname s ≡ true → is_name s ≡ true
unfolding is_pname
pname_is_name s e = and_first (is_name s) _ e

pname_no_wildcard : (s : List ℕ) → is_pname s ≡ true → is_word (codes "_") s ≡ false
unfolding is_pname
pname_no_wildcard s e = not_false _ (and_second (is_name s) _ e)

pub pname_kind : (s : List ℕ) → is_pname s ≡ true → symbol_kind s ≡ Name
unfolding symbol_kind
pname_kind s e =
    let n = pname_is_name s e in
    let parts = name_parts s n in
    rw (parts.1, parts.2, name_no_const s n, pname_no_wildcard s e, n) refl

pub wildcard_is_name : is_name (codes "_") ≡ true
unfolding is_ident is_name chars
wildcard_is_name = refl

-- a name is `_` or a name in patterns
pub name_kind : (P : Kind → Type 0) (s : List ℕ) → is_name s ≡ true → P Wildcard → P Name → P (symbol_kind s)
name_kind P s e w n = by_wildcard (is_word (codes "_") s) refl
  where
    by_wildcard : (b : Bool) → is_word (codes "_") s ≡ b → P (symbol_kind s)
    by_wildcard true h = subst P (sym wildcard_kind ∙ ap symbol_kind (sym (word_same (codes "_") s h))) w
    by_wildcard false h = subst P (sym (pname_kind s (pname_from s h e))) n
