-- The integers of rules that texts spell have 128 bits.
use Rattle.std.proofs.Common.{◌≡◌, ℕ, zero, suc, ◌^◌, ◌≤◌, List, [], ◌∷◌, ◌++◌, Bool, true, false, cond, Some, None, refl, sym, subst, arith}
use Rattle.std.specs.Prelude.{nat_le, nat_lt, pos, neg_ℤ, FitsSigned}
use Rattle.std.specs.Int.{w128}
use Rattle.std.proofs.lemmas.Bool.{leb-true, ltb-true}
use Rattle.std.proofs.Math.Facts.{sfits_to_z}
use Rattle.isle_ast.specs.declared.pos.Pos.{Pos}
use Rattle.isle_syntax.specs.declared.lexer.Token.{Token}
use Rattle.isle_syntax.specs.declared.lexer.Token.TheVariants.{Int, Big}
use Rattle.isle_ast.specs.declared.ast.IfLet.{IfLet}
use Rattle.isle_ast.specs.declared.ast.Rule.{Rule as RuleTree}
use Rattle.isle_ast.specs.declared.ast.Def.{Def}
use Rattle.isle_ast.specs.declared.ast.Def.TheVariants.{TypeDef, Decl, Rule, Extractor, Extern, Converter, Pragma, Kept}
use Rattle.isle_ast.specs.Positions.Files.{SourceFile}
use Rattle.isle_ast.specs.Trees.ExprTree.{ExprTree, ExprTrees, LetTrees, expr_term, expr_var, expr_bool, expr_int, expr_prim, expr_let}
use Rattle.isle_ast.specs.Trees.ExprTree.{no_exprs, more_exprs, no_lets, more_lets}
use Rattle.isle_ast.specs.Trees.ExprShape.{expr_of}
use Rattle.isle_syntax.specs.Tokens.Integers.{is_negative, unsigned_of, radix_of, digits_of, has_digit, spelt, integer_token}
use Rattle.isle_syntax.specs.Tokens.PlacedTokens.{Placed, placed_at}
use Rattle.isle_syntax.specs.Tokens.PlacedTokens as placed
use Rattle.isle_syntax.specs.Tokens.RemainingTokens.{Source}
use Rattle.isle_syntax.specs.Tokens.TokensOf.{IsToken, opening, closing, at_sign, integer, word, TokensOf, ended, stopped, token}
use Rattle.isle_syntax.specs.Grammar.Phrases.{◌⊙◌, Each}
use Rattle.isle_syntax.specs.Grammar.TreeGrammar.{bits_of, SpellsExpr, SpellsExprs, SpellsLets}
use Rattle.isle_syntax.specs.Grammar.DefGrammar.{SpellsIfLet, if_let, if_holds, SpellsRightSide, SpellsRule, SpellsDef, SpellsText}
use Rattle.isle_syntax.specs.Grammar.Verdict.{Spells}
use Rattle.isle_syntax.proofs.Productions.OneReading.{whole_reading}
use Rattle.isle_rules.specs.Definitions.{rules_in}
use Rattle.isle_program.specs.Compiled.{AreSpelt}

-- ---- tokens

-- a token's integer has 128 bits, if it is one
abbrev TokenFits : Placed → Type 0
TokenFits (placed.opening p) = Unit {0}
TokenFits (placed.closing p) = Unit {0}
TokenFits (placed.at_sign p) = Unit {0}
TokenFits (placed.symbol p s) = Unit {0}
TokenFits (placed.int p n) = FitsSigned w128 (bits_of n)

abbrev TokensFit : List Placed → Type 0
TokensFit [] = Unit {0}
TokensFit (t ∷ ts) = TokenFits t × TokensFit ts

abbrev Fits : Token → Type 0
Fits t = (p : Pos) → TokenFits (placed_at p t)

none_is_some : {P : Type 0} (t : Token) → None ≡ Some t → P
none_is_some t e = absurd cc

same_fits : (t u : Token) → Some t ≡ Some u → Fits t → Fits u
same_fits t u e h = let same : t ≡ u = cc in subst Fits same h

from_large : (n : ℕ) (b : Bool) (t : Token) → nat_lt n (2 ^ 128) ≡ b → cond b (Some (Big n)) None ≡ Some t → Fits t
from_large n true t below e = same_fits (Big n) t e (λ p. sfits_to_z (record { fits = ltb-true n (2 ^ 128) below }))
from_large n false t below e = none_is_some t e

from_small : (n : ℕ) (a : Bool) (t : Token) → nat_lt n (2 ^ 127) ≡ a
    → cond a (Some (Int (pos n))) (cond (nat_lt n (2 ^ 128)) (Some (Big n)) None) ≡ Some t → Fits t
from_small n true t below e = same_fits (Int (pos n)) t e (λ p. record { sfits = ltb-true n (2 ^ 127) below })
from_small n false t below e = from_large n (nat_lt n (2 ^ 128)) t refl e

negative_fits : (n : ℕ) → n ≤ 2 ^ 127 → FitsSigned w128 (neg_ℤ (pos n))
negative_fits zero h = record { sfits = omega arith }
negative_fits (suc n) h = record { sfits = omega (arith, h) }

from_negative : (n : ℕ) (a : Bool) (t : Token) → nat_le n (2 ^ 127) ≡ a → cond a (Some (Int (neg_ℤ (pos n)))) None ≡ Some t → Fits t
from_negative n true t below e = same_fits (Int (neg_ℤ (pos n))) t e (λ p. negative_fits n (leb-true n (2 ^ 127) below))
from_negative n false t below e = none_is_some t e

integer_fits : (negative : Bool) (n : ℕ) (t : Token) → integer_token negative n ≡ Some t → Fits t
integer_fits true n t e = from_negative n (nat_le n (2 ^ 127)) t refl e
integer_fits false n t e = from_small n (nat_lt n (2 ^ 127)) t refl e

digits_fit : (negative : Bool) (radix : ℕ) (digits : List ℕ) (some : Bool) (t : Token)
    → cond some (integer_token negative (spelt radix digits)) None ≡ Some t → Fits t
digits_fit negative radix digits true t e = integer_fits negative (spelt radix digits) t e
digits_fit negative radix digits false t e = none_is_some t e

token_fits : {text : List ℕ} {t : Token} {more : List ℕ} → IsToken text t more → Fits t
token_fits (opening e) = λ p. tt
token_fits (closing e) = λ p. tt
token_fits (at_sign e) = λ p. tt
token_fits (integer {text = text} {token = t} e f) =
    digits_fit (is_negative text) (radix_of (unsigned_of text)) (digits_of text) (has_digit (digits_of text)) t f
token_fits (word {text = text} e) = λ p. tt

-- all of a text's
tokens_fit : {source : Source} {text : List ℕ} {left : List Placed} {end : ℕ} {clean : Bool} → TokensOf source text left end clean
    → TokensFit left
tokens_fit (ended gap) = tt
tokens_fit (stopped gap some none) = tt
tokens_fit (token gap is more) = (token_fits is _, tokens_fit more)

-- ---- what such tokens spell

record Spelling (P : Type 0) (L : List Placed → Type 0) : Type 0 where
  holds : (ts : List Placed) → TokensFit ts → L ts → P

fit_front : (u v : List Placed) → TokensFit (u ++ v) → TokensFit u
fit_front [] v h = tt
fit_front (t ∷ u) v h = (h.0, fit_front u v h.1)

fit_back : (u v : List Placed) → TokensFit (u ++ v) → TokensFit v
fit_back [] v h = h
fit_back (t ∷ u) v h = fit_back u v h.1

in_front : {P : Type 0} {L M : List Placed → Type 0} → Spelling P L → Spelling P (L ⊙ M)
in_front f = record { holds = λ ts fit l. f.holds l.0 (fit_front l.0 l.1 (subst TokensFit l.2 fit)) l.3 }

behind : {P : Type 0} {L M : List Placed → Type 0} → Spelling P M → Spelling P (L ⊙ M)
behind f = record { holds = λ ts fit l. f.holds l.1 (fit_back l.0 l.1 (subst TokensFit l.2 fit)) l.4 }

in_both : {P Q : Type 0} {L M : List Placed → Type 0} → Spelling P L → Spelling Q M → Spelling (P × Q) (L ⊙ M)
in_both f g = record {
  holds = λ ts fit l. (
    f.holds l.0 (fit_front l.0 l.1 (subst TokensFit l.2 fit)) l.3,
    g.holds l.1 (fit_back l.0 l.1 (subst TokensFit l.2 fit)) l.4,
  );
}

-- ---- expressions

-- each integer of an expression has 128 bits
abbrev mutual
  pub ExprFits : ExprTree → Type 0
  ExprFits (expr_term x args p) = ExprsFit args
  ExprFits (expr_var x p) = Unit {0}
  ExprFits (expr_bool b p) = Unit {0}
  ExprFits (expr_int val big p) = FitsSigned w128 val
  ExprFits (expr_prim x p) = Unit {0}
  ExprFits (expr_let defs body p) = LetsFit defs × ExprFits body

  pub ExprsFit : ExprTrees → Type 0
  ExprsFit no_exprs = Unit {0}
  ExprsFit (more_exprs e rest) = ExprFits e × ExprsFit rest

  pub LetsFit : LetTrees → Type 0
  LetsFit no_lets = Unit {0}
  LetsFit (more_lets var ty val p rest) = ExprFits val × LetsFit rest

-- so of conditions, of a rule, and of rules
abbrev pub IfLetsFit : List IfLet → Type 0
IfLetsFit [] = Unit {0}
IfLetsFit (c ∷ others) = ExprFits (expr_of c.expr) × IfLetsFit others

abbrev pub RuleFits : RuleTree → Type 0
RuleFits rule = IfLetsFit rule.iflets × ExprFits (expr_of rule.expr)

abbrev pub RulesFit : List RuleTree → Type 0
RulesFit [] = Unit {0}
RulesFit (rule ∷ others) = RuleFits rule × RulesFit others

mutual
  expr_spelling : (e : ExprTree) → Spelling (ExprFits e) (SpellsExpr e)
  expr_spelling (expr_term x args p) = behind (behind (in_front (exprs_spelling args)))
  expr_spelling (expr_var x p) = record { holds = λ ts fit l. tt }
  expr_spelling (expr_bool b p) = record { holds = λ ts fit l. tt }
  expr_spelling (expr_int val big p) = record {
    holds = λ ts fit l. subst (FitsSigned w128) (sym l.2) (subst TokensFit l.1 fit).0;
  }
  expr_spelling (expr_prim x p) = record { holds = λ ts fit l. tt }
  expr_spelling (expr_let defs body p) = behind (behind (behind (in_both (lets_spelling defs) (behind (in_front (expr_spelling body))))))

  exprs_spelling : (es : ExprTrees) → Spelling (ExprsFit es) (SpellsExprs es)
  exprs_spelling no_exprs = record { holds = λ ts fit l. tt }
  exprs_spelling (more_exprs e rest) = in_both (expr_spelling e) (exprs_spelling rest)

  lets_spelling : (ds : LetTrees) → Spelling (LetsFit ds) (SpellsLets ds)
  lets_spelling no_lets = record { holds = λ ts fit l. tt }
  lets_spelling (more_lets var ty val p rest) = in_both (behind (behind (behind (in_front (expr_spelling val))))) (lets_spelling rest)

-- ---- rules

iflet_fits : (c : IfLet) (ts : List Placed) → TokensFit ts → SpellsIfLet c ts → ExprFits (expr_of c.expr)
iflet_fits c ts fit (if_let l) = (behind (behind (behind (in_front (expr_spelling (expr_of c.expr)))))).holds ts fit l
iflet_fits c ts fit (if_holds p l is) = (behind (behind (in_front (expr_spelling (expr_of c.expr))))).holds ts fit l

iflets_spelling : (cs : List IfLet) → Spelling (IfLetsFit cs) (Each SpellsIfLet cs)
iflets_spelling [] = record { holds = λ ts fit l. tt }
iflets_spelling (c ∷ cs) = in_both (record { holds = iflet_fits c }) (iflets_spelling cs)

right_spelling : (e : ExprTree) → Spelling (ExprFits e) (SpellsRightSide e)
right_spelling e = record { holds = λ ts fit l. (expr_spelling e).holds ts fit l.0 }

rule_spelling : (rule : RuleTree) → Spelling (RuleFits rule) (SpellsRule rule)
rule_spelling rule =
    let parts = in_both (iflets_spelling rule.iflets) (in_front (right_spelling (expr_of rule.expr))) in
    record { holds = λ ts fit l. (behind (behind (behind parts))).holds ts fit l.0 }

-- a definition's rule
abbrev DefFits : Def → Type 0
DefFits (TypeDef d) = Unit {0}
DefFits (Decl d) = Unit {0}
DefFits (Rule rule) = RuleFits rule
DefFits (Extractor d) = Unit {0}
DefFits (Extern d) = Unit {0}
DefFits (Converter d) = Unit {0}
DefFits (Pragma d) = Unit {0}
DefFits (Kept d) = Unit {0}

abbrev DefsFit : List Def → Type 0
DefsFit [] = Unit {0}
DefsFit (d ∷ defs) = DefFits d × DefsFit defs

def_spelling : (d : Def) → Spelling (DefFits d) (SpellsDef d)
def_spelling (TypeDef d) = record { holds = λ ts fit l. tt }
def_spelling (Decl d) = record { holds = λ ts fit l. tt }
def_spelling (Rule rule) = behind (behind (rule_spelling rule))
def_spelling (Extractor d) = record { holds = λ ts fit l. tt }
def_spelling (Extern d) = record { holds = λ ts fit l. tt }
def_spelling (Converter d) = record { holds = λ ts fit l. tt }
def_spelling (Pragma d) = record { holds = λ ts fit l. tt }
def_spelling (Kept d) = record { holds = λ ts fit l. tt }

text_spelling : (defs : List Def) → Spelling (DefsFit defs) (SpellsText defs)
text_spelling [] = record { holds = λ ts fit l. tt }
text_spelling (d ∷ defs) = in_both (def_spelling d) (text_spelling defs)

spelt_fit : (file : ℕ) (text : List ℕ) (defs : List Def) → Spells file text defs → DefsFit defs
spelt_fit file text defs spells =
    let whole = whole_reading file text in
    (text_spelling defs).holds whole.0.left (tokens_fit whole.1.tokens) (spells whole.0 whole.1 whole.2).spelt

joined_fit : (defs others : List Def) → DefsFit defs → DefsFit others → DefsFit (defs ++ others)
joined_fit [] others h k = k
joined_fit (d ∷ defs) others h k = (h.0, joined_fit defs others h.1 k)

files_fit : (first : ℕ) (files : List SourceFile) (defs : List Def) → AreSpelt first files defs → DefsFit defs
files_fit first [] defs spelt = subst DefsFit (sym spelt) tt
files_fit first (file ∷ files) defs spelt =
    subst DefsFit (sym spelt.4)
    (joined_fit spelt.0 spelt.1 (spelt_fit first file.text spelt.0 spelt.2) (files_fit (suc first) files spelt.1 spelt.3))

rules_among : (defs : List Def) → DefsFit defs → RulesFit (rules_in defs)
rules_among [] h = tt
rules_among (TypeDef d ∷ defs) h = rules_among defs h.1
rules_among (Decl d ∷ defs) h = rules_among defs h.1
rules_among (Rule rule ∷ defs) h = (h.0, rules_among defs h.1)
rules_among (Extractor d ∷ defs) h = rules_among defs h.1
rules_among (Extern d ∷ defs) h = rules_among defs h.1
rules_among (Converter d ∷ defs) h = rules_among defs h.1
rules_among (Pragma d ∷ defs) h = rules_among defs h.1
rules_among (Kept d ∷ defs) h = rules_among defs h.1

-- the integers of the rules of spelt files have 128 bits
pub spelt_rules_fit : (files : List SourceFile) (defs : List Def) → AreSpelt 0 files defs → RulesFit (rules_in defs)
spelt_rules_fit files defs spelt = rules_among defs (files_fit 0 files defs spelt)
