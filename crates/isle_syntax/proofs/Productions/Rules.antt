-- Reading a rule follows the grammar.
use Rattle.std.proofs.Common.{◌≡◌, ℕ, suc, ℤ, List, [], ◌∷◌, ◌++◌, Bool, true, false, Option, Some, None, refl, sym, ap, subst, ◌∙◌}
use Rattle.std.proofs.lemmas.Bool.{false≢true}
use Rattle.isle_ast.specs.declared.pos.Pos.{Pos}
use Rattle.isle_ast.specs.declared.ast.Ident.{Ident}
use Rattle.isle_ast.specs.declared.ast.IfLet.{IfLet}
use Rattle.isle_ast.specs.declared.ast.Rule.{Rule as RuleTree}
use Rattle.isle_ast.specs.Trees.PatternTree.{PatternTree}
use Rattle.isle_ast.specs.Trees.PatternShape.{pattern_of}
use Rattle.isle_ast.specs.Trees.ExprTree.{ExprTree}
use Rattle.isle_ast.specs.Trees.ExprShape.{expr_of}
use Rattle.isle_syntax.specs.Tokens.PlacedTokens.{Placed, opening, closing, at_sign, symbol, int, Literal, small, large}
use Rattle.isle_syntax.specs.Tokens.Names.{is_ident}
use Rattle.isle_syntax.specs.Grammar.Phrases.{◌⊙◌, Both, Closes, next_symbol_is, Each, From, first_pos}
use Rattle.isle_syntax.specs.Grammar.TreeGrammar.{bits_of, SpellsPattern, IsList, ListPattern}
use Rattle.isle_syntax.specs.Inside.Reading.Readers.{seq, integer}
use Rattle.isle_syntax.specs.Inside.Reading.TreeReading.{pattern_list}
use Rattle.isle_syntax.specs.Grammar.DefGrammar.{SpellsIdent, SpellsName, SpellsPriority, SpellsIfLet, SpellsRightSide, SpellsRule}
use Rattle.isle_syntax.specs.Inside.Reading.DefReading.{identifier, name_on, with_name, is_priority, is_priority_next, priority_on, with_priority, Body}
use Rattle.isle_syntax.specs.Inside.Reading.DefReading.{rule_body, rule_of, rule}
use Rattle.isle_syntax.proofs.Reading.Follows.{start, SameNext, Begins, FollowsAt, Follows, Any, follows_refusal, follows_token, follows_seq}
use Rattle.isle_syntax.proofs.Reading.Cases.{Looks, follows_from}
use Rattle.isle_syntax.proofs.Reading.Flags.{names_looks}
use Rattle.isle_syntax.proofs.Reading.Options.{option_filled, follows_present, follows_absent}
use Rattle.isle_syntax.proofs.Reading.Basics.{follows_map, some_both, both_filled}
use Rattle.isle_syntax.proofs.Trees.TreeForms.{pattern_of_from, pattern_from_of, expr_of_from, expr_from_of}
use Rattle.isle_syntax.proofs.Productions.Patterns.{list_opens, list_pattern_filled, some_list_pattern, follows_pattern_list}
use Rattle.isle_syntax.proofs.Productions.Types.{follows_ident, ident_filled}
use Rattle.isle_syntax.proofs.Productions.Bodies.{SpellsBody, some_body, follows_rule_body}

-- ---- integers

-- an integer in its place
abbrev SpellsLiteral : Pos × Literal → List Placed → Type 0
SpellsLiteral y ts = ts ≡ int y.0 y.1 ∷ []

integers_nothing : (ts : List Placed) → ((x : List Placed) (p : Pos) (n : Literal) (y : List Placed) → SameNext ts x → x ≡ int p n ∷ y → ⊥)
    → (b : Pos × Literal) (v w x : List Placed) → SameNext ts x → SpellsLiteral b v → v ++ w ≡ x → ⊥
integers_nothing ts other b v w x same_next o e = other x b.0 b.1 w same_next (sym e ∙ ap (λ z. z ++ w) o)

some_integer : Begins SpellsLiteral []
some_integer = ((start, large 0), int start (large 0) ∷ [], refl)

integer_here : (b : Pos × Literal) (v w y : List Placed) (p : Pos) (n : Literal) → SpellsLiteral b v → v ++ w ≡ int p n ∷ y
    → (b ≡ (p, n)) × (v ≡ int p n ∷ [])
integer_here b v w y p n o e =
    let h : int b.0 b.1 ∷ w ≡ int p n ∷ y = ap (λ x. x ++ w) (sym o) ∙ e in
    let place : b.0 ≡ p = cc in
    let value : b.1 ≡ n = cc in
    ((λ i. (place i, value i)), o ∙ (λ i. int (place i) (value i) ∷ []))

follows_integer : (d : ℕ) → Follows SpellsLiteral Any d d integer
follows_integer d = record { reads = go }
  where
    go : (ts : List Placed) → FollowsAt SpellsLiteral Any d d ts (integer ts)
    go [] = follows_refusal d [] some_integer (integers_nothing [] (λ x p n y same_next e. cc (same_next, e)))
    go (opening q ∷ ts) =
        follows_refusal d (opening q ∷ ts) some_integer (integers_nothing (opening q ∷ ts) (λ x p n y same_next e. cc (same_next.1, e)))
    go (closing q ∷ ts) =
        follows_refusal d (closing q ∷ ts) some_integer (integers_nothing (closing q ∷ ts) (λ x p n y same_next e. cc (same_next.1, e)))
    go (at_sign q ∷ ts) =
        follows_refusal d (at_sign q ∷ ts) some_integer (integers_nothing (at_sign q ∷ ts) (λ x p n y same_next e. cc (same_next.1, e)))
    go (symbol q s ∷ ts) =
        follows_refusal d (symbol q s ∷ ts) some_integer (integers_nothing (symbol q s ∷ ts) (λ x p n y same_next e. cc (same_next.1, e)))
    go (int q z ∷ ts) = follows_token (int q z) ts (q, z) refl refl (λ b v w y o fw e. integer_here b v w y q z o e)

integer_filled : (b : Pos × Literal) (v : List Placed) → SpellsLiteral b v → v ≡ [] → ⊥
integer_filled b v o e = let k : [] ≡ int b.0 b.1 ∷ [] = sym e ∙ o in cc

-- ---- priorities

same_priority : (t : Placed) (x y : List Placed) → is_priority_next (t ∷ x) ≡ is_priority_next (t ∷ y)
same_priority (opening p) x y = refl
same_priority (closing p) x y = refl
same_priority (at_sign p) x y = refl
same_priority (symbol p s) x y = refl
same_priority (int p n) x y = refl

priority_looks : Looks is_priority_next
priority_looks = record { same = same_priority }

priority_first : (z : ℤ) (u v : List Placed) → SpellsPriority (Some z) u → is_priority_next (u ++ v) ≡ true
priority_first z u v l = ap (λ k. is_priority_next (k ++ v)) l.1 ∙ l.2

priority_from : (p : Pos) (n : Literal) (u : List Placed) → u ≡ int p n ∷ [] → is_priority n ≡ true → SpellsPriority (Some (bits_of n)) u
priority_from p (small z) u o h = (p, o, h)
priority_from p (large n) u o h = absurd (false≢true h)

priority_into : (y : Pos × Literal) (u v : List Placed) → SpellsLiteral y u → is_priority_next (u ++ v) ≡ true → SpellsPriority (Some (bits_of y.1)) u
priority_into y u v o h = priority_from y.0 y.1 u o (sym (ap (λ k. is_priority_next (k ++ v)) o) ∙ h)

priority_back : (z : ℤ) (u : List Placed) → SpellsPriority (Some z) u → (y : Pos × Literal) × (z ≡ bits_of y.1) × SpellsLiteral y u
priority_back z u l = ((l.0, small z), refl, l.1)

-- ---- what follows a priority

abbrev Unnumbered : PatternTree × Body → List Placed → Type 0
Unnumbered = Both ListPattern SpellsBody

unnumbered_filled : (b : PatternTree × Body) (v : List Placed) → Unnumbered b v → v ≡ [] → ⊥
unnumbered_filled = both_filled ListPattern SpellsBody list_pattern_filled

some_unnumbered : Begins Unnumbered []
some_unnumbered = some_both some_list_pattern some_body

follows_unnumbered : (d : ℕ) → Follows Unnumbered Any d (suc d) (seq (pattern_list d) (rule_body d))
follows_unnumbered d = follows_seq some_body (follows_pattern_list d) (follows_rule_body d)

unnumbered_opens : (b : PatternTree × Body) (v : List Placed) → Unnumbered b v → (p : Pos) × (u : List Placed) × (v ≡ opening p ∷ u)
unnumbered_opens b v l = let o = list_opens b.0 l.0 l.3 in (o.0, o.1 ++ l.1, l.2 ∙ ap (λ k. k ++ l.1) o.2)

no_priority : (b : PatternTree × Body) (v : List Placed) → Unnumbered b v → is_priority_next v ≡ false
no_priority b v l = ap is_priority_next (unnumbered_opens b v l).2

abbrev Unnamed : Option ℤ × (PatternTree × Body) → List Placed → Type 0
Unnamed = Both SpellsPriority Unnumbered

unnamed_filled : (b : Option ℤ × (PatternTree × Body)) (v : List Placed) → Unnamed b v → v ≡ [] → ⊥
unnamed_filled =
    option_filled is_priority_next priority_looks SpellsPriority SpellsLiteral (λ y. bits_of y.1) (λ ts l. l) refl priority_first priority_into
    priority_back integer_filled
    Unnumbered unnumbered_filled no_priority some_unnumbered

some_unnamed : Begins Unnamed []
some_unnamed = ((None, some_unnumbered.0), some_unnumbered.1, ([], some_unnumbered.1, refl, refl, some_unnumbered.2))

follows_unnamed_at : (d : ℕ) (ts : List Placed) (b : Bool) → is_priority_next ts ≡ b
    → FollowsAt Unnamed Any d (suc d) ts (priority_on (seq (pattern_list d) (rule_body d)) b ts)
follows_unnamed_at d ts true at =
    follows_present is_priority_next priority_looks SpellsPriority SpellsLiteral (λ y. bits_of y.1) (λ ts l. l) refl priority_first priority_into
    priority_back integer_filled
    Unnumbered unnumbered_filled no_priority some_unnumbered
    Any d (suc d) integer (seq (pattern_list d) (rule_body d)) (follows_integer d) (follows_unnumbered d) ts at
follows_unnamed_at d ts false at =
    follows_absent is_priority_next priority_looks SpellsPriority SpellsLiteral (λ y. bits_of y.1) (λ ts l. l) refl priority_first priority_into
    priority_back integer_filled
    Unnumbered unnumbered_filled no_priority some_unnumbered
    Any d (suc d) integer (seq (pattern_list d) (rule_body d)) (follows_integer d) (follows_unnumbered d) ts at

follows_unnamed : (d : ℕ) → Follows Unnamed Any d (suc d) (with_priority (seq (pattern_list d) (rule_body d)))
follows_unnamed d = record { reads = λ ts. follows_unnamed_at d ts (is_priority_next ts) refl }

-- ---- names

name_first : (x : Ident) (u v : List Placed) → SpellsName (Some x) u → next_symbol_is is_ident (u ++ v) ≡ true
name_first x u v l = ap (λ k. next_symbol_is is_ident (k ++ v)) l.0 ∙ l.1

no_name : (b : Option ℤ × (PatternTree × Body)) (v : List Placed) → Unnamed b v → next_symbol_is is_ident v ≡ false
no_name (None, b) v l = ap (next_symbol_is is_ident) (l.2 ∙ (λ i. l.3 i ++ (unnumbered_opens b l.1 l.4).2 i))
no_name (Some z, b) v l = ap (next_symbol_is is_ident) (l.2 ∙ ap (λ k. k ++ l.1) l.3.1)

abbrev RuleParts : Option Ident × (Option ℤ × (PatternTree × Body)) → List Placed → Type 0
RuleParts = Both SpellsName Unnamed

parts_filled : (b : Option Ident × (Option ℤ × (PatternTree × Body))) (v : List Placed) → RuleParts b v → v ≡ [] → ⊥
parts_filled =
    option_filled (next_symbol_is is_ident) (names_looks is_ident) SpellsName SpellsIdent (λ x. x) (λ ts l. l) refl name_first (λ x u v l h. l)
    (λ x u l. (x, refl, l)) ident_filled
    Unnamed unnamed_filled no_name some_unnamed

follows_parts_at : (d : ℕ) (ts : List Placed) (b : Bool) → next_symbol_is is_ident ts ≡ b
    → FollowsAt RuleParts Any d (suc d) ts (name_on (with_priority (seq (pattern_list d) (rule_body d))) b ts)
follows_parts_at d ts true at =
    follows_present (next_symbol_is is_ident) (names_looks is_ident) SpellsName SpellsIdent (λ x. x) (λ ts l. l) refl name_first (λ x u v l h. l)
    (λ x u l. (x, refl, l)) ident_filled
    Unnamed unnamed_filled no_name some_unnamed
    Any d (suc d) identifier (with_priority (seq (pattern_list d) (rule_body d))) (follows_ident d) (follows_unnamed d) ts at
follows_parts_at d ts false at =
    follows_absent (next_symbol_is is_ident) (names_looks is_ident) SpellsName SpellsIdent (λ x. x) (λ ts l. l) refl name_first (λ x u v l h. l)
    (λ x u l. (x, refl, l)) ident_filled
    Unnamed unnamed_filled no_name some_unnamed
    Any d (suc d) identifier (with_priority (seq (pattern_list d) (rule_body d))) (follows_ident d) (follows_unnamed d) ts at

follows_parts : (d : ℕ) → Follows RuleParts Any d (suc d) (with_name (with_priority (seq (pattern_list d) (rule_body d))))
follows_parts d = record { reads = λ ts. follows_parts_at d ts (next_symbol_is is_ident ts) refl }

-- ---- rules

-- a rule with its trees
abbrev RuleOf : Option Ident → Option ℤ → PatternTree → List IfLet → ExprTree → Pos → List Placed → Type 0
RuleOf name prio t iflets e p = λ ts.
    (SpellsName name ⊙ (SpellsPriority prio ⊙ (SpellsPattern t ⊙ (Each SpellsIfLet iflets ⊙ (SpellsRightSide e ⊙ Closes tt))))) ts × IsList t
    × (first_pos ts ≡ p)

rule_into : (a : Pos × (Option Ident × (Option ℤ × (PatternTree × Body)))) (u : List Placed) → From RuleParts a u → SpellsRule (rule_of a) u
rule_into a u l =
    let t = a.1.1.1.0 in
    let b = a.1.1.1.1 in
    let h = l.0.4 in
    let k = h.4 in
    let spelt : RuleOf a.1.0 a.1.1.0 t b.0 b.1 a.0 u =
    ((l.0.0, l.0.1, l.0.2, l.0.3, (h.0, h.1, h.2, h.3, (k.0, k.1, k.2, k.3.0, k.4))), k.3.1, l.1) in
    subst (λ t. RuleOf a.1.0 a.1.1.0 t b.0 (expr_of (rule_of a).expr) a.0 u) (sym (pattern_of_from t))
    (subst (λ e. RuleOf a.1.0 a.1.1.0 t b.0 e a.0 u) (sym (expr_of_from b.1)) spelt)

rule_back : (b : RuleTree) (v : List Placed) → SpellsRule b v → (a : Pos × (Option Ident × (Option ℤ × (PatternTree × Body)))) × (b ≡ rule_of a)
    × From RuleParts a v
rule_back b v l =
    let h = l.0.4 in
    let k = h.4 in (
      (b.pos, (b.name, (b.prio, (pattern_of b.pattern, (b.iflets, expr_of b.expr))))),
      (λ i. record {
        pattern = sym (pattern_from_of b.pattern) i;
        iflets = b.iflets;
        expr = sym (expr_from_of b.expr) i;
        pos = b.pos;
        prio = b.prio;
        name = b.name;
      }),
      ((l.0.0, l.0.1, l.0.2, l.0.3, (h.0, h.1, h.2, h.3, (k.0, k.1, k.2, (k.3, l.1), k.4))), l.2),
    )

pub rule_filled : (b : RuleTree) (v : List Placed) → SpellsRule b v → v ≡ [] → ⊥
rule_filled b v l e = let a = rule_back b v l in parts_filled a.0.1 v a.2.0 e

some_parts : Begins (From RuleParts) []
some_parts = ((first_pos some_unnamed.1, (None, some_unnamed.0)), some_unnamed.1, (([], some_unnamed.1, refl, refl, some_unnamed.2), refl))

pub some_rule : Begins SpellsRule []
some_rule = (rule_of some_parts.0, some_parts.1, rule_into some_parts.0 some_parts.1 some_parts.2)

pub follows_rule : (d : ℕ) → Follows SpellsRule Any d (suc d) (rule d)
follows_rule d = follows_map {L = From RuleParts} {K = SpellsRule} rule_of rule_into rule_back (follows_from parts_filled (follows_parts d))
