-- A template filled with patterns is the pattern with them put in for the names, and there is none only where a name
-- that is to be replaced has no pattern.
use Rattle.std.proofs.Common.{◌≡◌, ◌≤◌, ℕ, List, [], ◌∷◌, length, ◌+◌, Bool, true, false, not, ◌||◌, ◌&&◌, Option, Some, None, if◌then◌else◌, refl}
use Rattle.std.proofs.Common.{sym, ap, ◌∙◌, slice_get, is_some, add-one, arith}
use Rattle.std.specs.Prelude.{Contains, IfSome, unwrap_or}
use Rattle.std.specs.List.{list_all, list_any, zip}
use Rattle.std.specs.Option.{option_map}
use Rattle.std.specs.Str.{bytes_eq}
use Rattle.std.proofs.lemmas.Slice.Eq.{bytes_eq-Decides}
use Rattle.std.specs.Cmp.{IsEquivalence, decided}
use Rattle.std.proofs.lemmas.List.Folds.{list_all-append}
use Rattle.std.proofs.lemmas.Map.Views.{Contains-from_any, list_any-from_Contains}
use Rattle.std.proofs.lemmas.List.Sums.{AllPass-from_list_all, list_all-from_AllPass}
use Rattle.isle_ast.specs.declared.pos.Pos.{Pos}
use Rattle.isle_ast.specs.declared.ast.Ident.{Ident}
use Rattle.isle_ast.specs.Trees.PatternTree.{PatternTree, PatternTrees, pattern_var, pattern_bind, pattern_bool, pattern_int, pattern_prim}
use Rattle.isle_ast.specs.Trees.PatternTree.{pattern_term, pattern_wildcard, pattern_and, pattern_macro_arg, no_patterns, more_patterns}
use Rattle.isle_ast.specs.Trees.TreeCalls.{has_macro_arg, has_macro_args}
use Rattle.isle_ast.specs.Trees.Templates.{position_of_name, is_wildcard, argument_for, template_tree, template_trees, filled, all_filled}
use Rattle.isle_ast.specs.Trees.Templates.{more_given}
use Rattle.isle_ast.specs.Trees.Substitution.{pattern_for, substituted, all_substituted, replaceable, all_replaceable, texts_of, Substitutes}
use Rattle.isle_ast.proofs.Trees.Templates.{neither}

-- a value, if a test passes
abbrev when : {A : Type 0} → Bool → A → Option A
when b x = if b then Some x else None

-- the pattern for a place, or another pattern where no place is known
abbrev given_for : List PatternTree → Option ℕ → PatternTree → Option PatternTree
given_for given None other = Some other
given_for given (Some k) other = slice_get given k

-- a tree without arguments that is filled stays as it is
argument_filled : (given : List PatternTree) (place : Option ℕ) (pos : Pos) (other : PatternTree) → filled given other ≡ Some other
    → filled given (argument_for place pos other) ≡ given_for given place other
argument_filled given None pos other e = e
argument_filled given (Some k) pos other e = refl

wildcard_stays : (given : List PatternTree) (below : PatternTree) → is_wildcard below ≡ true → filled given below ≡ Some below
wildcard_stays given (pattern_var _ _) e = cc
wildcard_stays given (pattern_bind _ _ _) e = cc
wildcard_stays given (pattern_bool _ _) e = cc
wildcard_stays given (pattern_int _ _ _) e = cc
wildcard_stays given (pattern_prim _ _) e = cc
wildcard_stays given (pattern_term _ _ _) e = cc
wildcard_stays given (pattern_wildcard _) e = refl
wildcard_stays given (pattern_and _ _) e = cc
wildcard_stays given (pattern_macro_arg _ _) e = cc

-- whether a name of a text is listed
abbrev listed : List Ident → List ℕ → Bool
listed names text = list_any (λ name. bytes_eq name.0 text) names

-- whether a text has its pattern, where it is listed
abbrev supplied : List Ident → List PatternTree → List ℕ → Bool
supplied names given text = not (listed names text) || is_some (pattern_for (zip names given) text)

-- the pattern put in for a text, or another one, where that is known
abbrev answer : List Ident → List PatternTree → List ℕ → PatternTree → Option PatternTree
answer names given text other =
    when (supplied names given text) (unwrap_or (pattern_for (zip names given) text) other)

one_on : (first : PatternTree) (others : List PatternTree) (place : Option ℕ) (other : PatternTree)
    → given_for (first ∷ others) (option_map (λ k. k + 1) place) other ≡ given_for others place other
one_on first others None other = refl
one_on first others (Some k) other = rw add-one refl

none_on : (place : Option ℕ) (other : PatternTree) → given_for [] (option_map (λ k. k + 1) place) other ≡ given_for [] place other
none_on None other = refl
none_on (Some k) other = refl

zip_none : (names : List Ident) → zip names (let none : List PatternTree = [] in none) ≡ []
zip_none [] = refl
zip_none (name ∷ names) = refl

-- the pattern for a text's place is the one for the text
place_answer : (names : List Ident) (given : List PatternTree) (text : List ℕ) (other : PatternTree)
    → given_for given (position_of_name names text) other ≡ answer names given text other
place_answer [] given text other = refl
place_answer (name ∷ names) [] text other = step (bytes_eq name.0 text) (place_answer names [] text other) where
  step : (here : Bool) → given_for [] (position_of_name names text) other ≡ answer names [] text other
      → given_for [] (if here then Some 0 else option_map (λ k. k + 1) (position_of_name names text)) other ≡ when (not (here || listed names text)
      || false) other
  step true rest = refl
  step false rest = none_on (position_of_name names text) other ∙ rest ∙ rw zip_none refl
place_answer (name ∷ names) (first ∷ others) text other = step (bytes_eq name.0 text) (place_answer names others text other) where
  step : (here : Bool) → given_for others (position_of_name names text) other ≡ answer names others text other
      → given_for (first ∷ others) (if here then Some 0 else option_map (λ k. k + 1) (position_of_name names text)) other
      ≡ when (not (here || listed names text) || is_some (if here then Some first else pattern_for (zip names others) text))
      (unwrap_or (if here then Some first else pattern_for (zip names others) text) other)
  step true rest = refl
  step false rest = one_on first others (position_of_name names text) other ∙ rest

when_mapped : {A B : Type 0} (f : A → B) (b : Bool) (x : A) → option_map f (when b x) ≡ when b (f x)
when_mapped f true x = refl
when_mapped f false x = refl

when_both : (a b : Bool) (first : PatternTree) (others : PatternTrees)
    → more_given (when a first) (when b others) ≡ when (a && b) (more_patterns first others)
when_both true true first others = refl
when_both true false first others = refl
when_both false true first others = refl
when_both false false first others = refl

when_alone : {A : Type 0} (b : Bool) (x : A) → when b x ≡ when (b && true) x
when_alone true x = refl
when_alone false x = refl

module _ (names : List Ident) (given : List PatternTree) where
  bound_filled : (wild : Bool) (name : Ident) (below : PatternTree) (pos : Pos) → is_wildcard below ≡ wild
      → filled given (template_tree names below) ≡ when (list_all (supplied names given) (replaceable below)) (substituted (zip names given) below)
      → filled given (if wild then argument_for (position_of_name names name.0) pos (pattern_bind name below pos) else pattern_bind name
      (template_tree names below) pos) ≡ when (list_all (supplied names given) (if wild then name.0 ∷ [] else replaceable below))
      (if wild then unwrap_or (pattern_for (zip names given) name.0) (pattern_bind name below pos) else pattern_bind name
      (substituted (zip names given) below) pos)
  bound_filled true name below pos e h =
      let other = pattern_bind name below pos in
      argument_filled given (position_of_name names name.0) pos other (ap (option_map (λ t. pattern_bind name t pos)) (wildcard_stays given below e))
      ∙ place_answer names given name.0 other ∙ when_alone _ _
  bound_filled false name below pos e h =
      ap (option_map (λ t. pattern_bind name t pos)) h ∙ when_mapped (λ t. pattern_bind name t pos) _ _

  mutual
    pub template_filled : (t : PatternTree) → has_macro_arg t ≡ false
        → filled given (template_tree names t) ≡ when (list_all (supplied names given) (replaceable t)) (substituted (zip names given) t)
    template_filled (pattern_var name pos) h =
        let other = pattern_var name pos in
        argument_filled given (position_of_name names name.0) pos other refl ∙ place_answer names given name.0 other ∙ when_alone _ _
    template_filled (pattern_bind name below pos) h =
        bound_filled (is_wildcard below) name below pos refl (template_filled below h)
    template_filled (pattern_bool val pos) h = refl
    template_filled (pattern_int val big pos) h = refl
    template_filled (pattern_prim name pos) h = refl
    template_filled (pattern_term term args pos) h =
        ap (option_map (λ ts. pattern_term term ts pos)) (templates_filled args h) ∙ when_mapped (λ ts. pattern_term term ts pos) _ _
    template_filled (pattern_wildcard pos) h = refl
    template_filled (pattern_and below pos) h =
        ap (option_map (λ ts. pattern_and ts pos)) (templates_filled below h) ∙ when_mapped (λ ts. pattern_and ts pos) _ _
    template_filled (pattern_macro_arg k pos) h = cc

    pub templates_filled : (ts : PatternTrees) → has_macro_args ts ≡ false
        → all_filled given (template_trees names ts)
        ≡ when (list_all (supplied names given) (all_replaceable ts)) (all_substituted (zip names given) ts)
    templates_filled no_patterns h = refl
    templates_filled (more_patterns first others) h =
        let parts = neither (has_macro_arg first) (has_macro_args others) h in
        let one = template_filled first parts.0 in
        let rest = templates_filled others parts.1 in
        let given_first = list_all (supplied names given) (replaceable first) in
        let given_others = list_all (supplied names given) (all_replaceable others) in
        let made_first = substituted (zip names given) first in
        let made_others = all_substituted (zip names given) others in
        let both : more_given (filled given (template_tree names first)) (all_filled given (template_trees names others))
        ≡ more_given (when given_first made_first) (when given_others made_others) = cc in
        both ∙ when_both given_first given_others made_first made_others
        ∙ ap (λ b. when b (more_patterns made_first made_others))
        (sym (list_all-append (supplied names given) (replaceable first) (all_replaceable others)))

-- where no fewer patterns than names are given, each listed name has one
all_supplied : (names : List Ident) (given : List PatternTree) (text : List ℕ) → length names ≤ length given → supplied names given text ≡ true
all_supplied [] given text enough = refl
all_supplied (name ∷ names) [] text enough = absurd (omega arith)
all_supplied (name ∷ names) (first ∷ others) text enough =
    step (bytes_eq name.0 text) (all_supplied names others text (omega arith)) where
      step : (here : Bool) → supplied names others text ≡ true
          → (not (here || listed names text) || is_some (if here then Some first else pattern_for (zip names others) text)) ≡ true
      step true rest = refl
      step false rest = rest

all_pass : {X : Type 0} (test : X → Bool) → ((x : X) → test x ≡ true) → (xs : List X) → list_all test xs ≡ true
all_pass test passes [] = refl
all_pass test passes (x ∷ xs) =
    let here = passes x in
    let rest = all_pass test passes xs in
    rw (here, rest) refl

texts_same : IsEquivalence bytes_eq
texts_same = decided bytes_eq bytes_eq-Decides

listed_text : (names : List Ident) (text : List ℕ) → list_any (bytes_eq text) (texts_of names) ≡ listed names text
listed_text [] text = refl
listed_text (name ∷ names) text =
    let here = texts_same.symm text name.0 in
    let rest = listed_text names text in
    rw (here, rest) refl

-- a name of a text is listed exactly where the text is among the names' texts
is_among : (names : List Ident) (text : List ℕ) → listed names text ≡ true → Contains (texts_of names) text
is_among names text e =
    Contains-from_any (λ x y. (bytes_eq-Decides x y).0) text (texts_of names) (listed_text names text ∙ e)

is_listed : (names : List Ident) (text : List ℕ) → Contains (texts_of names) text → listed names text ≡ true
is_listed names text there =
    sym (listed_text names text) ∙ list_any-from_Contains texts_same text (texts_of names) there

either : (a b : Bool) → (not a || b) ≡ true → a ≡ true → b ≡ true
either true b e h = e
either false b e h = cc

or_not : (a b : Bool) → (a ≡ true → b ≡ true) → (not a || b) ≡ true
or_not true b h = h refl
or_not false b h = refl

is_some-when : {A : Type 0} (b : Bool) (x : A) → is_some (when b x) ≡ b
is_some-when true x = refl
is_some-when false x = refl

is_it : {A : Type 0} (b : Bool) (x : A) → IfSome (when b x) (λ made. made ≡ x)
is_it true x = refl
is_it false x = tt

pub substitutes : (names : List Ident) (given : List PatternTree) (pattern : PatternTree) → has_macro_arg pattern ≡ false
    → Substitutes names given pattern
substitutes names given pattern free =
    let found = list_all (supplied names given) (replaceable pattern) in
    let made = substituted (zip names given) pattern in
    let is : filled given (template_tree names pattern) ≡ when found made = template_filled names given pattern free in
    let some : is_some (filled given (template_tree names pattern)) ≡ found = ap is_some is ∙ is_some-when found made in
    record {
      enough =
          λ enough. is ∙ ap (λ b. when b made) (all_pass (supplied names given) (λ text. all_supplied names given text enough) (replaceable pattern));
      right = rw is (is_it found made);
      there = (
        λ e k d low among. either _ _ (AllPass-from_list_all (supplied names given) (replaceable pattern) (sym some ∙ e) k d low)
            (is_listed names _ among),
        λ all. some ∙ list_all-from_AllPass (supplied names given) (replaceable pattern)
            (λ k d low. or_not _ _ (λ e. all k d low (is_among names _ e))),
      );
    }
