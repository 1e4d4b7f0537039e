-- Reading the marks of a type, a turn at a time.
use Rattle.std.proofs.Common.{◌≡◌, ℕ, zero, suc, ◌<◌, List, [], ◌∷◌, ◌++◌, length, Bool, true, false, Some, None, refl, sym, ap, ◌∙◌}
use Rattle.std.specs.Prelude.{◌||◌}
use Rattle.std.specs.List.{list_any}
use Rattle.isle_syntax.specs.declared.kind.Keyword.{Keyword}
use Rattle.isle_syntax.specs.declared.kind.Keyword.TheVariants.{Extern, NoDebug, «Type», Decl, Rule, Extractor, Convert, Kept, Primitive, Enum}
use Rattle.isle_syntax.specs.declared.kind.Keyword.TheVariants.{Struct, Constructor, Const, NoKeyword}
use Rattle.isle_syntax.specs.Tokens.PlacedTokens.{Placed}
use Rattle.isle_syntax.specs.Inside.Reading.KindOf.{keyword_at}
use Rattle.isle_syntax.specs.Grammar.DefGrammar.{Mark, extern_mark, nodebug_mark, is_extern_mark, is_nodebug_mark}
use Rattle.isle_syntax.specs.Inside.Reading.Parsing.{stop_of, at_fault}
use Rattle.isle_syntax.specs.Inside.Reading.DefReading.{mark, mark_on, marks, marked_of, type_value, no_mark, no_mark_on, is_mark_word}
use Rattle.isle_syntax.proofs.Reading.Loops.{Turns, turns_end}
use Rattle.isle_syntax.proofs.Reading.ReadSteps.{map_seq_done}
use Rattle.isle_syntax.specs.Inside.Reading.Readers.{done, fault, read_map, seq, says, symbol_of}
use Rattle.isle_syntax.proofs.Reading.Shorter.{Shortens, map_shortens, symbol_shortens}

pub any_append : {A : Type 0} (p : A → Bool) (xs : List A) (x : A) → list_any p (xs ++ x ∷ []) ≡ (list_any p xs || p x)
any_append p [] x = by_bool (p x)
  where
    by_bool : (b : Bool) → (b || false) ≡ b
    by_bool true = refl
    by_bool false = refl
any_append p (y ∷ xs) x = ap (λ b. p y || b) (any_append p xs x) ∙ assoc (p y) (list_any p xs) (p x)
  where
    assoc : (a b d : Bool) → (a || (b || d)) ≡ ((a || b) || d)
    assoc true b d = refl
    assoc false b d = refl

or_true : (b : Bool) → (b || true) ≡ true
or_true true = refl
or_true false = refl

or_false : (b : Bool) → (b || false) ≡ b
or_false true = refl
or_false false = refl

pub extern_more : (found : List Mark) → list_any is_extern_mark (found ++ extern_mark ∷ []) ≡ true
extern_more found = any_append is_extern_mark found extern_mark ∙ or_true (list_any is_extern_mark found)

pub extern_same : (found : List Mark) → list_any is_extern_mark (found ++ nodebug_mark ∷ []) ≡ list_any is_extern_mark found
extern_same found = any_append is_extern_mark found nodebug_mark ∙ or_false (list_any is_extern_mark found)

pub nodebug_more : (found : List Mark) → list_any is_nodebug_mark (found ++ nodebug_mark ∷ []) ≡ true
nodebug_more found = any_append is_nodebug_mark found nodebug_mark ∙ or_true (list_any is_nodebug_mark found)

pub nodebug_same : (found : List Mark) → list_any is_nodebug_mark (found ++ extern_mark ∷ []) ≡ list_any is_nodebug_mark found
nodebug_same found = any_append is_nodebug_mark found extern_mark ∙ or_false (list_any is_nodebug_mark found)

pub goes_on : (ts : List Placed) (k : Keyword) → k ≡ keyword_at ts → is_mark_word k ≡ true → no_mark ts ≡ None
goes_on ts k e h = ap (λ k. no_mark_on (is_mark_word k) ts) (sym e) ∙ ap (λ b. no_mark_on b ts) h

pub ends : (ts : List Placed) (k : Keyword) → k ≡ keyword_at ts → (k ≡ Extern → ⊥) → (k ≡ NoDebug → ⊥) → no_mark ts ≡ Some ts
ends ts k e x y = ap (λ k. no_mark_on (is_mark_word k) ts) (sym e) ∙ ap (λ b. no_mark_on b ts) (none k x y)
  where
    none : (k : Keyword) → (k ≡ Extern → ⊥) → (k ≡ NoDebug → ⊥) → is_mark_word k ≡ false
    none Extern x y = absurd (x refl)
    none NoDebug x y = absurd (y refl)
    none «Type» x y = refl
    none Decl x y = refl
    none Rule x y = refl
    none Extractor x y = refl
    none Convert x y = refl
    none Kept x y = refl
    none Primitive x y = refl
    none Enum x y = refl
    none Struct x y = refl
    none Constructor x y = refl
    none Const x y = refl
    none NoKeyword x y = refl

pub reads_mark : (ts : List Placed) (k : Keyword) → k ≡ keyword_at ts → mark ts ≡ mark_on k ts
reads_mark ts k e = ap (λ k. mark_on k ts) (sym e)

says_shortens : (w : List ℕ) → Shortens (says w)
says_shortens w = map_shortens (λ x. tt) (symbol_of _) (symbol_shortens _)

pub says_less : (w : List ℕ) (ts r : List Placed) → says w ts ≡ done tt r → length r < length ts
says_less w ts r e = (says_shortens w).less ts r tt e

-- where no mark comes next, all marks are read
pub marks_end : (ts left : List Placed) (found : List Mark) → Turns no_mark mark (marks ts) found left → no_mark left ≡ Some left
    → marks ts ≡ done found left
marks_end ts left found t e = turns_end no_mark mark (marks ts) found left left t e

value_at_end : (d : ℕ) → type_value d [] ≡ fault []
value_at_end zero = refl
value_at_end (suc d) = refl

pub marked_at_end : (d : ℕ) (ts left : List Placed) (found : List Mark) → Turns no_mark mark (marks ts) found left → left ≡ []
    → stop_of (read_map marked_of (seq marks (type_value d) ts)) ≡ at_fault []
marked_at_end d ts left found t none =
    let ended = marks_end ts left found t (ap no_mark none ∙ ap Some (sym none)) in
    ap stop_of (map_seq_done marks (type_value d) ts left marked_of found ended ∙ ap (λ l. read_map (λ b. marked_of (found, b)) (type_value d l)) none
    ∙ ap (read_map (λ b. marked_of (found, b))) (value_at_end d))
