-- What a part of a template stands for, and how many arguments a template needs.
use Rattle.std.proofs.Common.{◌≡◌, ◌<◌, ◌≤◌, ℕ, suc, zero, List, [], ◌∷◌, map, true, Option, Some, None, refl, sym, ap, ◌∙◌, slice_get, arith}
use Rattle.std.proofs.Common.{false, length, drop, get_or, drop_of_length-le, drop-cons, add-one}
use Rattle.std.proofs.Common.{◌++◌, ◌+◌, if◌then◌else◌, Bool}
use Rattle.std.proofs.lemmas.Option.{slice_get_past, slice_get-get_or}
use Rattle.std.proofs.Common.{Bor}
use Rattle.std.proofs.lemmas.Bool.{cases_lt}
use Rattle.std.specs.Prelude.{◌⊎◌}
use Rattle.std.specs.Str.{bytes_eq}
use Rattle.std.proofs.Common.{inl, inr}
use Rattle.std.specs.Prelude.{unwrap_or}
use Rattle.std.specs.Option.{option_map}
use Rattle.isle_ast.specs.declared.pos.Pos.{Pos}
use Rattle.isle_ast.specs.Trees.PatternTree.{PatternTree, PatternTrees, pattern_var, pattern_bind, pattern_bool, pattern_int, pattern_prim}
use Rattle.isle_ast.specs.Trees.PatternTree.{pattern_term, pattern_wildcard, pattern_and, pattern_macro_arg, no_patterns, more_patterns}
use Rattle.isle_ast.specs.Trees.PatternTree.{pattern_list}
use Rattle.isle_terms.specs.declared.translate.frames.Given.{Given, out-Given, roll-Given, fold_out-Given, fold-roll-Given}
use Rattle.isle_ast.specs.declared.ast.Pattern.{Pattern}
use Rattle.isle_ast.specs.Trees.PatternShape.{pattern_of, patterns_of}
use Rattle.isle_ast.specs.declared.ast.Ident.{Ident}
use Rattle.isle_ast.specs.Trees.TreeCalls.{has_macro_arg, has_macro_args}
use Rattle.isle_ast.specs.Trees.Templates.{position_of_name, argument_for, is_wildcard, template_tree, template_trees, filled, all_filled}
use Rattle.isle_ast.specs.Trees.Templates.{more_given}
use Rattle.isle_ast.proofs.Trees.Templates.{before, neither}
use Rattle.isle_rules.specs.Shown.ShownRules.{greatest}
use Rattle.isle_rules.specs.Readings.Needs.{needed, all_needed}
use Rattle.isle_terms.specs.Inside.Readings.Frames.{put, put_all, given_step, tree_given, frames_of, template_at}

-- a part stands for its template with what its own parts stand for
pub tree_out : (part : Given) → tree_given part ≡ put (map tree_given (out-Given part).given.now) (template_at part)
tree_out part = fold_out-Given PatternTree given_step part

-- it stands in one template more than any of what is given
pub frames_out : (part : Given) → frames_of part ≡ suc (greatest (map frames_of (out-Given part).given.now))
frames_out part = fold_out-Given ℕ (λ part. suc (greatest part.given.now)) part

-- an item of a list by its place
pub item_found : {X : Type 0} (xs : List X) (k : ℕ) (x : X) → k < length xs → x ≡ get_or xs k x → slice_get xs k ≡ Some x
item_found xs k x low is = slice_get-get_or xs k x low ∙ ap Some (sym is)

-- an item of a list, mapped
pub item_mapped : {X Y : Type 0} (f : X → Y) (xs : List X) (k : ℕ) (x : X) → slice_get xs k ≡ Some x → slice_get (map f xs) k ≡ Some (f x)
item_mapped f [] k x is = cc
item_mapped f (y ∷ ys) zero x is = let same : y ≡ x = cc in ap (λ z. Some (f z)) same
item_mapped f (y ∷ ys) (suc k) x is = item_mapped f ys k x is

-- the number of an item is at most the greatest
at_most_greatest : (ns : List ℕ) (k n : ℕ) → slice_get ns k ≡ Some n → n ≤ greatest ns
at_most_greatest [] k n is = cc
at_most_greatest (m ∷ ms) zero n is = let same : m ≡ n = cc in omega arith
at_most_greatest (m ∷ ms) (suc k) n is = let below = at_most_greatest ms k n is in omega arith

-- an argument stands for what is given for it
pub argument_tree : (part found : Given) (k : ℕ) (pos : Pos) → template_at part ≡ pattern_macro_arg k pos
    → slice_get (out-Given part).given.now k ≡ Some found → tree_given part ≡ tree_given found
argument_tree part found k pos is here =
    tree_out part ∙ ap (put (map tree_given (out-Given part).given.now)) is
    ∙ ap (λ o. unwrap_or o (pattern_macro_arg k pos)) (item_mapped tree_given (out-Given part).given.now k found here)

-- what is given for an argument stands in fewer templates
pub argument_frames : (part found : Given) (k : ℕ) → slice_get (out-Given part).given.now k ≡ Some found → frames_of found < frames_of part
argument_frames part found k here =
    let below = at_most_greatest (map frames_of (out-Given part).given.now) k (frames_of found)
    (item_mapped frames_of (out-Given part).given.now k found here) in
    omega (arith, frames_out part)

-- an argument for which nothing is given stands for itself
pub missing_argument : (part : Given) (k : ℕ) (pos : Pos) → template_at part ≡ pattern_macro_arg k pos
    → slice_get (out-Given part).given.now k ≡ None → tree_given part ≡ template_at part
missing_argument part k pos is here =
    let missing = nothing_mapped (out-Given part).given.now k here in
    tree_out part ∙ ap (put (map tree_given (out-Given part).given.now)) is ∙ ap (λ o. unwrap_or o (pattern_macro_arg k pos)) missing ∙ sym is where
      nothing_mapped : (parts : List Given) (k : ℕ) → slice_get parts k ≡ None → slice_get (map tree_given parts) k ≡ None
      nothing_mapped [] k is = refl
      nothing_mapped (first ∷ others) zero is = cc
      nothing_mapped (first ∷ others) (suc k) is = nothing_mapped others k is

-- those from one place on are a first one and those after it
listed : (ps : List Pattern) (i : ℕ) (p : Pattern) → i < length ps → p ≡ get_or ps i p → drop i ps ≡ p ∷ drop (i + 1) ps
listed ps i p low is = rw add-one (drop-cons ps i p low ∙ ap (λ x. x ∷ drop (suc i) ps) (sym is))

-- one tree more before others
before_push : (xs : List PatternTree) (x : PatternTree) (ts : PatternTrees) → before (xs ++ x ∷ []) ts ≡ before xs (more_patterns x ts)
before_push [] x ts = refl
before_push (y ∷ xs) x ts = ap (more_patterns y) (before_push xs x ts)

-- trees before no others
before_none : (xs : List PatternTree) → before xs no_patterns ≡ pattern_list xs
before_none [] = refl
before_none (y ∷ xs) = ap (more_patterns y) (before_none xs)

-- With `whole` for the trees of a list of parts, the first have made `xs` and those from `i` on are left.
module _ (given : List PatternTree) (whole : PatternTrees) (ps : List Pattern) (i : ℕ) (xs : List PatternTree)
    (so_far : whole ≡ before xs (put_all given (patterns_of (drop i ps)))) where
  -- one part more
  pub put_more : (p : Pattern) (t : PatternTree) → i < length ps → p ≡ get_or ps i p → t ≡ put given (pattern_of p)
      → whole ≡ before (xs ++ t ∷ []) (put_all given (patterns_of (drop (i + 1) ps)))
  put_more p t low is made =
      let split = rw (listed ps i p low is, sym made) at so_far in
      split ∙ sym (before_push xs t (put_all given (patterns_of (drop (i + 1) ps))))

  -- no part is left
  pub put_done : length ps ≤ i → pattern_list xs ≡ whole
  put_done low =
      let none = drop_of_length-le ps {i = i} low in
      let all = rw none at so_far in
      sym (all ∙ before_none xs)

-- where nothing is given all stays
mutual
  pub put_nothing : (t : PatternTree) → put [] t ≡ t
  put_nothing (pattern_var _ _) = refl
  put_nothing (pattern_bind name below pos) = ap (λ t. pattern_bind name t pos) (put_nothing below)
  put_nothing (pattern_bool _ _) = refl
  put_nothing (pattern_int _ _ _) = refl
  put_nothing (pattern_prim _ _) = refl
  put_nothing (pattern_term term args pos) = ap (λ ts. pattern_term term ts pos) (put_nothing_in args)
  put_nothing (pattern_wildcard _) = refl
  put_nothing (pattern_and below pos) = ap (λ ts. pattern_and ts pos) (put_nothing_in below)
  put_nothing (pattern_macro_arg _ _) = refl

  -- so does each of some patterns
  pub put_nothing_in : (ts : PatternTrees) → put_all [] ts ≡ ts
  put_nothing_in no_patterns = refl
  put_nothing_in (more_patterns first others) = let one = put_nothing first in let rest = put_nothing_in others in cc

-- where each argument is given, a template that is filled is the template with what is given put in
mutual
  pub filled_put : (given : List PatternTree) (t : PatternTree) → needed t ≤ length given → filled given t ≡ Some (put given t)
  filled_put given (pattern_var _ _) enough = refl
  filled_put given (pattern_bind name below pos) enough = ap (option_map (λ t. pattern_bind name t pos)) (filled_put given below enough)
  filled_put given (pattern_bool _ _) enough = refl
  filled_put given (pattern_int _ _ _) enough = refl
  filled_put given (pattern_prim _ _) enough = refl
  filled_put given (pattern_term term args pos) enough = ap (option_map (λ ts. pattern_term term ts pos)) (all_filled_put given args enough)
  filled_put given (pattern_wildcard _) enough = refl
  filled_put given (pattern_and below pos) enough = ap (option_map (λ ts. pattern_and ts pos)) (all_filled_put given below enough)
  filled_put given (pattern_macro_arg k pos) enough = there given k (pattern_macro_arg k pos) enough where
    there : (given : List PatternTree) (k : ℕ) (other : PatternTree) → suc k ≤ length given
        → slice_get given k ≡ Some (unwrap_or (slice_get given k) other)
    there [] k other enough = absurd (omega arith)
    there (first ∷ others) zero other enough = refl
    there (first ∷ others) (suc k) other enough = there others k other (omega arith)

  -- so are several templates
  pub all_filled_put : (given : List PatternTree) (ts : PatternTrees) → all_needed ts ≤ length given
      → all_filled given ts ≡ Some (put_all given ts)
  all_filled_put given no_patterns enough = refl
  all_filled_put given (more_patterns first others) enough =
      let one = filled_put given first (omega arith) in
      let rest = all_filled_put given others (omega arith) in
      rw (one, rest) refl

-- nothing comes of two where nothing comes of one
none_first : (a : Option PatternTree) (b : Option PatternTrees) → a ≡ None → more_given a b ≡ None
none_first None b is = refl
none_first (Some t) b is = cc

-- nothing comes of two where nothing comes of the others
none_after : (a : Option PatternTree) (b : Option PatternTrees) → b ≡ None → more_given a b ≡ None
none_after None b is = refl
none_after (Some t) None is = refl
none_after (Some t) (Some ts) is = cc

-- nothing comes of two where one of two facts holds, and by each nothing comes of one
none_of_both : {P Q : Type 0} (a : Option PatternTree) (b : Option PatternTrees) → P ⊎ Q → (P → a ≡ None) → (Q → b ≡ None)
    → more_given a b ≡ None
none_of_both a b (inl p) first others = none_first a b (first p)
none_of_both a b (inr q) first others = none_after a b (others q)

-- where an argument isn't given, a template cannot be filled
mutual
  pub filled_nothing : (given : List PatternTree) (t : PatternTree) → length given < needed t → filled given t ≡ None
  filled_nothing given (pattern_var _ _) few = absurd (omega arith)
  filled_nothing given (pattern_bind name below pos) few = ap (option_map (λ t. pattern_bind name t pos)) (filled_nothing given below few)
  filled_nothing given (pattern_bool _ _) few = absurd (omega arith)
  filled_nothing given (pattern_int _ _ _) few = absurd (omega arith)
  filled_nothing given (pattern_prim _ _) few = absurd (omega arith)
  filled_nothing given (pattern_term term args pos) few = ap (option_map (λ ts. pattern_term term ts pos)) (all_filled_nothing given args few)
  filled_nothing given (pattern_wildcard _) few = absurd (omega arith)
  filled_nothing given (pattern_and below pos) few = ap (option_map (λ ts. pattern_and ts pos)) (all_filled_nothing given below few)
  filled_nothing given (pattern_macro_arg k pos) few = slice_get_past given k (omega arith)

  -- nor can several templates
  pub all_filled_nothing : (given : List PatternTree) (ts : PatternTrees) → length given < all_needed ts → all_filled given ts ≡ None
  all_filled_nothing given no_patterns few = absurd (omega arith)
  all_filled_nothing given (more_patterns first others) few =
      none_of_both _ _ (cases_lt (length given) (needed first)) (λ low. filled_nothing given first low)
      (λ high. all_filled_nothing given others (omega arith))

-- the place of a name, one further on, is among one name more
place_on : (here : Bool) (place : Option ℕ) (n k : ℕ) → (if here then Some 0 else option_map (λ k. k + 1) place) ≡ Some k
    → ((j : ℕ) → place ≡ Some j → j < n) → k < suc n
place_on true place n k is low = let same : 0 ≡ k = cc in omega arith
place_on false None n k is low = cc
place_on false (Some j) n k is low =
    let same : j + 1 ≡ k = cc in
    let within = low j refl in
    omega arith

-- the place of a name is among the names
place_low : (names : List Ident) (text : List ℕ) (k : ℕ) → position_of_name names text ≡ Some k → k < length names
place_low [] text k is = cc
place_low (name ∷ names) text k is =
    place_on (bytes_eq name.0 text) (position_of_name names text) (length names) k is (λ j e. place_low names text j e)

-- an argument in the place of a pattern needs no more than there are names, where the pattern needs nothing
argument_needs : (place : Option ℕ) (pos : Pos) (other : PatternTree) (n : ℕ) → needed other ≤ n → ((k : ℕ) → place ≡ Some k → k < n)
    → needed (argument_for place pos other) ≤ n
argument_needs None pos other n low within = low
argument_needs (Some k) pos other n low within = within k refl

-- a wildcard needs nothing
wildcard_needs : (t : PatternTree) → is_wildcard t ≡ true → needed t ≡ 0
wildcard_needs (pattern_var _ _) is = refl
wildcard_needs (pattern_bind _ _ _) is = cc
wildcard_needs (pattern_bool _ _) is = refl
wildcard_needs (pattern_int _ _ _) is = refl
wildcard_needs (pattern_prim _ _) is = refl
wildcard_needs (pattern_term _ _ _) is = cc
wildcard_needs (pattern_wildcard _) is = refl
wildcard_needs (pattern_and _ _) is = cc
wildcard_needs (pattern_macro_arg _ _) is = cc

-- a binding in a template
binding_needs : (names : List Ident) (wild : Bool) (name : Ident) (below : PatternTree) (pos : Pos) → is_wildcard below ≡ wild
    → needed (template_tree names below) ≤ length names
    → needed (if wild then argument_for (position_of_name names name.0) pos (pattern_bind name below pos)
    else pattern_bind name (template_tree names below) pos) ≤ length names
binding_needs names true name below pos is low =
    let none = wildcard_needs below is in
    argument_needs (position_of_name names name.0) pos (pattern_bind name below pos) (length names) (omega arith) (place_low names name.0)
binding_needs names false name below pos is low = low

-- the template of a pattern needs no more arguments than there are names
mutual
  pub template_needs : (names : List Ident) (t : PatternTree) → has_macro_arg t ≡ false → needed (template_tree names t) ≤ length names
  template_needs names (pattern_var name pos) free =
      argument_needs (position_of_name names name.0) pos (pattern_var name pos) (length names) (omega arith) (place_low names name.0)
  template_needs names (pattern_bind name below pos) free =
      binding_needs names (is_wildcard below) name below pos refl (template_needs names below free)
  template_needs names (pattern_bool _ _) free = omega arith
  template_needs names (pattern_int _ _ _) free = omega arith
  template_needs names (pattern_prim _ _) free = omega arith
  template_needs names (pattern_term term args pos) free = templates_need names args free
  template_needs names (pattern_wildcard _) free = omega arith
  template_needs names (pattern_and below pos) free = templates_need names below free
  template_needs names (pattern_macro_arg _ _) free = cc

  -- nor do several templates
  pub templates_need : (names : List Ident) (ts : PatternTrees) → has_macro_args ts ≡ false
      → all_needed (template_trees names ts) ≤ length names
  templates_need names no_patterns free = omega arith
  templates_need names (more_patterns first others) free =
      let parts = neither (has_macro_arg first) (has_macro_args others) free in
      let one = template_needs names first parts.0 in
      let rest = templates_need names others parts.1 in
      omega arith

-- what a part that is made stands for
pub tree_rolled : (pattern : Bor Pattern) (given : Bor (List Given)) → tree_given (roll-Given record { pattern = pattern; given = given })
    ≡ put (map tree_given given.now) (pattern_of pattern.now)
tree_rolled pattern given = fold-roll-Given PatternTree given_step record { pattern = pattern; given = given }
