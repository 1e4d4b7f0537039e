-- The steps of reading a pattern, as the code takes them.
use Rattle.std.proofs.Common.{◌≡◌, ◌≢◌, ℕ, suc, zero, ◌+◌, ◌-◌, ◌<◌, ◌≤◌, Bool, true, false, List, [], ◌∷◌, ◌++◌, length, Option, Some, None}
use Rattle.std.proofs.Common.{refl, sym, ap}
use Rattle.std.proofs.Common.{◌∙◌, subst, arith, map, max, drop, get_or, add-one, drop-cons, drop_of_length-le, if◌then◌else◌, not, Vec, Global}
use Rattle.std.specs.Prelude.{Result, IfOk, IfErr, leb, ltb, ◌==◌}
use Rattle.std.proofs.lemmas.Bool.Decides.{nat_tests}
use Rattle.isle_ast.specs.declared.pos.Pos.{Pos}
use Rattle.isle_ast.specs.declared.ast.Ident.{Ident}
use Rattle.isle_ast.specs.declared.error.Error.{Error}
use Rattle.isle_ast.specs.declared.refusal.Refusal.{Refusal}
use Rattle.isle_ast.specs.declared.refusal.Refusal.TheVariants.{Fault, Memory}
use Rattle.isle_ast.specs.Errors.{IfFault}
use Rattle.isle_ast.specs.Trees.PatternTree.{PatternTree, PatternTrees, pattern_bind, pattern_int, pattern_term, pattern_and, no_patterns}
use Rattle.isle_ast.specs.Trees.PatternTree.{more_patterns}
use Rattle.isle_ast.specs.Trees.PatternTree.{pattern_pos}
use Rattle.isle_types.specs.declared.ids.TypeId.{TypeId}
use Rattle.isle_terms.specs.declared.translate.Context.{Context}
use Rattle.isle_terms.specs.declared.translate.frames.Given.{Given, out-Given}
use Rattle.isle_types.specs.declared.ids.TermId.{TermId}
use Rattle.isle_rules.specs.declared.rules.Pattern.{Pattern, fold-roll-Pattern}
use Rattle.isle_rules.specs.declared.rules.Pattern.TheVariants as pattern
use Rattle.isle_rules.specs.declared.rules.Pattern.TheOpen.{And, Term, Wildcard}
use Rattle.isle_rules.specs.TypedRules.{TypedPattern, TypedPatterns, no_typed, more_typed, typed_int, typed_term, typed_wildcard}
use Rattle.isle_rules.specs.Signatures.{Signature, has_extractor_form, template_of}
use Rattle.isle_rules.specs.Elaboration.{State, counted, visible_in, pattern_count, listed, each_at}
use Rattle.isle_terms.specs.Inside.Readings.Outcomes.{Outcome, stands_for, ill_at, exceeds, and_then, only_if, Known, PatternRun, PatternUse, each_pattern}
use Rattle.isle_terms.specs.Inside.Readings.Outcomes.{bind_name}
use Rattle.isle_terms.specs.Inside.Readings.Outcomes.{template_in, extract, fitting, repair_pattern, pattern_node, read_pattern, read_pattern_use}
use Rattle.isle_rules.specs.Shown.ShownTerms.{numbers_of}
use Rattle.isle_rules.specs.Shown.ShownRules.{typed_list, typed_shown, typed_step, greatest, pattern_limit, pattern_limit_step}
use Rattle.isle_terms.specs.Inside.Readings.Failures.{Fails}
use Rattle.isle_rules.specs.Readings.Needs.{needed}
use Rattle.isle_terms.specs.Inside.Readings.Frames.{put, put_all, tree_given, trees_given, template_at}
use Rattle.isle_terms.specs.Inside.Readings.PatternReading.{IsRead, AreRead, all_of_type, needed_in}
use Rattle.isle_ast.specs.declared.ast.Pattern.{Pattern as SyntaxPattern}
use Rattle.isle_ast.specs.Trees.PatternShape.{patterns_of}
use Rattle.isle_terms.proofs.Steps.Frames.{tree_out, filled_put, filled_nothing}

-- tests of numbers
pub same_number : (a b : ℕ) → a ≡ b → (a == b) ≡ true
same_number a b e = grind (arith, nat_tests)

-- numbers that differ
pub other_number : (a b : ℕ) → a ≢ b → (a == b) ≡ false
other_number a b e = grind (arith, nat_tests)

-- a number that a test finds less
less_number : (a b : ℕ) → true ≡ ltb a b → a < b
less_number a b e = grind (arith, nat_tests)

-- a number that a test does not find less
no_less_number : (a b : ℕ) → false ≡ ltb a b → b ≤ a
no_less_number a b e = grind (arith, nat_tests)

-- what is read along an equation
pub ok_along : {E : Type 0} (context : Context) (o p : Outcome TypedPattern) (r : Result Pattern E) (s : State) → o ≡ p
    → IfOk r (IsRead context p s) → IfOk r (IsRead context o s)
ok_along context o p r s e h = subst (λ z. IfOk r (IsRead context z s)) (sym e) h

-- what fails along an equation
pub fails_along : {A : Type 0} (rule : Pos) (o p : Outcome A) (refusal : Refusal Error) → o ≡ p → Fails rule p refusal → Fails rule o refusal
fails_along rule o p refusal e h = subst (λ z. Fails rule z refusal) (sym e) h

-- what is refused along an equation
pub err_along : {A B : Type 0} (rule : Pos) (o p : Outcome A) (r : Result B (Refusal Error)) → o ≡ p → IfErr r (Fails rule p) → IfErr r (Fails rule o)
err_along rule o p r e h = subst (λ z. IfErr r (Fails rule z)) (sym e) h

-- a refusal without a fault says nothing
no_fault : {A : Type 0} (rule : Pos) (o : Outcome A) (refusal : Refusal Error) → IfFault refusal (λ _. ⊥) → Fails rule o refusal
no_fault rule (stands_for v s) refusal h = h
no_fault rule (ill_at at) (Fault e) h = absurd h
no_fault rule (ill_at at) (Memory e) h = tt
no_fault rule exceeds (Fault e) h = absurd h
no_fault rule exceeds (Memory e) h = tt

-- where the first fails, so does the whole
pub fails_then : {A B : Type 0} (rule : Pos) (o : Outcome A) (next : A → State → Outcome B) (refusal : Refusal Error) → Fails rule o refusal
    → Fails rule (and_then o next) refusal
fails_then rule (stands_for v s) next refusal h = no_fault rule (next v s) refusal h
fails_then rule (ill_at at) next refusal h = h
fails_then rule exceeds next refusal h = h

-- the typed patterns of a list, before others
abbrev pub joined : List TypedPattern → TypedPatterns → TypedPatterns
joined [] others = others
joined (first ∷ rest) others = more_typed first (joined rest others)

-- one typed pattern more before others
joined_push : (xs : List TypedPattern) (x : TypedPattern) (others : TypedPatterns) → joined (xs ++ x ∷ []) others ≡ joined xs (more_typed x others)
joined_push [] x others = refl
joined_push (y ∷ xs) x others = ap (more_typed y) (joined_push xs x others)

-- typed patterns before no others
joined_none : (xs : List TypedPattern) → joined xs no_typed ≡ typed_list xs
joined_none [] = refl
joined_none (y ∷ xs) = ap (more_typed y) (joined_none xs)

-- `done` are the first, and reading the others comes to this
abbrev pub after : List TypedPattern → Outcome TypedPatterns → Outcome TypedPatterns
after done (stands_for others s) = stands_for (joined done others) s
after done (ill_at at) = ill_at at
after done exceeds = exceeds

-- nothing is read yet
pub after_none : (o : Outcome TypedPatterns) → o ≡ after [] o
after_none (stands_for others s) = refl
after_none (ill_at at) = refl
after_none exceeds = refl

-- one is read more
after_push : (done : List TypedPattern) (v : TypedPattern) (o : Outcome TypedPatterns)
    → after done (and_then o (λ vs s'. stands_for (more_typed v vs) s')) ≡ after (done ++ v ∷ []) o
after_push done v (stands_for others s) = ap (λ z. stands_for z s) (sym (joined_push done v others))
after_push done v (ill_at at) = refl
after_push done v exceeds = refl

-- where reading the others fails, so does reading all
after_fails : (rule : Pos) (done : List TypedPattern) (o : Outcome TypedPatterns) (refusal : Refusal Error) → Fails rule o refusal
    → Fails rule (after done o) refusal
after_fails rule done (stands_for others s) refusal h = h
after_fails rule done (ill_at at) refusal h = h
after_fails rule done exceeds refusal h = h

-- parts, each at its type
module _ (r : PatternRun) (at : Pos) (parts : List Given) (tys : List TypeId) (i : ℕ) (s : State) where
  -- the part at a place and those after it
  each_here : (p : Given) (d : TypeId) → i < length parts → i < length tys → p ≡ get_or parts i p
      → each_pattern r at (trees_given (drop i parts)) (numbers_of (drop i tys)) s
      ≡ and_then (r (tree_given p) (get_or tys i d).0 s) (λ v m. and_then (each_pattern r at (trees_given (drop (i + 1) parts))
      (numbers_of (drop (i + 1) tys)) m) (λ vs s'. stands_for (more_typed v vs) s'))
  each_here p d low low_ty is =
      let cut : drop i parts ≡ p ∷ drop (i + 1) parts = rw add-one (drop-cons parts i p low ∙ ap (λ x. x ∷ drop (suc i) parts) (sym is)) in
      let cut_ty : drop i tys ≡ get_or tys i d ∷ drop (i + 1) tys = rw add-one (drop-cons tys i d low_ty) in
      rw (cut, cut_ty) refl

  -- a part is read
  pub each_next : (whole : Outcome TypedPatterns) (done : List TypedPattern) (p : Given) (d : TypeId) (v : TypedPattern) (m : State)
      → i < length parts → i < length tys → p ≡ get_or parts i p → r (tree_given p) (get_or tys i d).0 s ≡ stands_for v m
      → whole ≡ after done (each_pattern r at (trees_given (drop i parts)) (numbers_of (drop i tys)) s)
      → whole ≡ after (done ++ v ∷ []) (each_pattern r at (trees_given (drop (i + 1) parts)) (numbers_of (drop (i + 1) tys)) m)
  each_next whole done p d v m low low_ty is made so_far =
      let here = each_here p d low low_ty is in
      so_far ∙ ap (after done) (rw made at here) ∙ after_push done v _

  -- a part is refused
  pub each_fails : (rule : Pos) (whole : Outcome TypedPatterns) (done : List TypedPattern) (p : Given) (d : TypeId) (refusal : Refusal Error)
      → i < length parts → i < length tys → p ≡ get_or parts i p → Fails rule (r (tree_given p) (get_or tys i d).0 s) refusal
      → whole ≡ after done (each_pattern r at (trees_given (drop i parts)) (numbers_of (drop i tys)) s) → Fails rule whole refusal
  each_fails rule whole done p d refusal low low_ty is h so_far =
      fails_along rule whole _ refusal (so_far ∙ ap (after done) (each_here p d low low_ty is))
      (after_fails rule done _ refusal (fails_then rule (r (tree_given p) (get_or tys i d).0 s) _ refusal h))

  -- no part is left
  pub each_ends : (whole : Outcome TypedPatterns) (done : List TypedPattern) → length parts ≤ i → length tys ≤ i
      → whole ≡ after done (each_pattern r at (trees_given (drop i parts)) (numbers_of (drop i tys)) s) → whole ≡ stands_for (typed_list done) s
  each_ends whole done high high_ty so_far =
      let end = drop_of_length-le parts {i = i} high in
      let end_ty = drop_of_length-le tys {i = i} high_ty in
      so_far ∙ (rw (end, end_ty) (ap (λ z. stands_for z s) (joined_none done)))

-- the greatest of some numbers and one more
pub greatest_push : (ns : List ℕ) (n m : ℕ) → greatest ns ≤ m → n ≤ m → greatest (ns ++ n ∷ []) ≤ m
greatest_push [] n m low here = omega arith
greatest_push (k ∷ ns) n m low here = let rest = greatest_push ns n m (omega arith) here in omega arith

-- the symbols of patterns that all match one value are those of each
pub and_limited : (ty : TypeId) (below made : List Pattern) (bound : ℕ) → below ≡ made → greatest (map pattern_limit made) ≤ bound
    → pattern_limit (pattern.And ty below) ≤ bound
and_limited ty below made bound same within =
    let limit : pattern_limit (pattern.And ty below) ≡ greatest (map pattern_limit below) =
    ap pattern_limit (sym (pattern.rolls-And ty below)) ∙ fold-roll-Pattern ℕ pattern_limit_step (And ty below) in
    rw (limit, same) within

-- those of a use of a term are those of its arguments
pub use_limited : (ty : TypeId) (term : TermId) (args made : List Pattern) (bound : ℕ) → args ≡ made → greatest (map pattern_limit made) ≤ bound
    → pattern_limit (pattern.Term ty term args) ≤ bound
use_limited ty term args made bound same within =
    let limit : pattern_limit (pattern.Term ty term args) ≡ greatest (map pattern_limit args) =
    ap pattern_limit (sym (pattern.rolls-Term ty term args)) ∙ fold-roll-Pattern ℕ pattern_limit_step (Term ty term args) in
    rw (limit, same) within

-- a wildcard shows one, and has no symbols
pub shown_wildcard : (names : List (List ℕ)) (ty : TypeId) → typed_shown names (pattern.Wildcard ty) ≡ typed_wildcard ty.0
shown_wildcard names ty =
    ap (typed_shown names) (sym (pattern.rolls-Wildcard ty)) ∙ fold-roll-Pattern TypedPattern (typed_step names) (Wildcard ty)

pub wildcard_limited : (ty : TypeId) (bound : ℕ) → pattern_limit (pattern.Wildcard ty) ≤ bound
wildcard_limited ty bound =
    let limit : pattern_limit (pattern.Wildcard ty) ≡ 0 =
    ap pattern_limit (sym (pattern.rolls-Wildcard ty)) ∙ fold-roll-Pattern ℕ pattern_limit_step (Wildcard ty) in
    omega arith

-- where a term stands
pub term_at : (part : Given) (sym_name : Ident) (args : PatternTrees) (pos : Pos) → template_at part ≡ pattern_term sym_name args pos
    → pattern_pos (tree_given part) ≡ pos
term_at part sym_name args pos is = ap pattern_pos (tree_out part ∙ ap (put (map tree_given (out-Given part).given.now)) is)

-- one type for each of some parts
each_same : (parts : List Given) (ty : TypeId) → numbers_of (map (λ _. ty) parts) ≡ each_at ty.0 (trees_given parts)
each_same [] ty = refl
each_same (p ∷ parts) ty = ap (λ tys. ty.0 ∷ tys) (each_same parts ty)

-- reading parts that all have one type
pub all_same : (r : PatternRun) (at : Pos) (below : PatternTrees) (parts shown : List Given) (ty : TypeId) (tys : List TypeId) (s : State)
    → trees_given parts ≡ below → shown ≡ parts → tys ≡ map (λ _. ty) parts
    → each_pattern r at (trees_given shown) (numbers_of tys) s ≡ each_pattern r at below (each_at ty.0 below) s
all_same r at below parts shown ty tys s trees same types =
    let one : trees_given shown ≡ below = ap trees_given same ∙ trees in
    let other : numbers_of tys ≡ each_at ty.0 below = ap numbers_of types ∙ each_same parts ty ∙ ap (each_at ty.0) trees in
    ap (λ ts. each_pattern r at ts (numbers_of tys) s) one ∙ ap (λ ns. each_pattern r at below ns s) other

-- how many parts there are
pub counts : (parts : List Given) → pattern_count (trees_given parts) ≡ length parts
counts [] = refl
counts (p ∷ parts) = let rest = counts parts in omega arith

-- how many types there are
pub numbers_counted : (tys : List TypeId) → length (numbers_of tys) ≡ length tys
numbers_counted [] = refl
numbers_counted (ty ∷ tys) = let rest = numbers_counted tys in omega arith

-- the trees of parts as a list
pub listed_given : (parts : List Given) → listed (trees_given parts) ≡ map tree_given parts
listed_given [] = refl
listed_given (p ∷ parts) = ap (λ ts. tree_given p ∷ ts) (listed_given parts)

-- as many trees are listed as there are parts
pub listed_count : (parts : List Given) → length (listed (trees_given parts)) ≡ length parts
listed_count [] = refl
listed_count (p ∷ parts) = let rest = listed_count parts in omega arith

-- one node, by what its template is
module _ (known : Known) (r : PatternRun) (u : PatternUse) (part : Given) (ty : ℕ) (s : State) where
  -- a name before `@`
  pub node_bound : (name : Ident) (below : PatternTree) (pos : Pos) (t : PatternTree) (v : TypedPattern) (m : State)
      → template_at part ≡ pattern_bind name below pos → t ≡ put (map tree_given (out-Given part).given.now) below → r t ty s ≡ stands_for v m
      → pattern_node known r u (tree_given part) ty s ≡ bind_name pos (visible_in m.scope name.0) name.0 ty v m
  node_bound name below pos t v m is same made =
      let whole = tree_out part ∙ ap (put (map tree_given (out-Given part).given.now)) is in
      ap (λ z. pattern_node known r u z ty s) whole
      ∙ ap (λ o. and_then o (λ v m. bind_name pos (visible_in m.scope name.0) name.0 ty v m)) (ap (λ z. r z ty s) (sym same) ∙ made)

  -- an integer
  pub node_int : (val : _) (big : Bool) (pos : Pos) → template_at part ≡ pattern_int val big pos
      → pattern_node known r u (tree_given part) ty s ≡ only_if (known.has_number ty val big) pos (stands_for (typed_int ty val) s)
  node_int val big pos is =
      let whole = tree_out part ∙ ap (put (map tree_given (out-Given part).given.now)) is in ap (λ z. pattern_node known r u z ty s) whole

  -- patterns that all match one value
  pub node_and : (below given : PatternTrees) (pos : Pos) → template_at part ≡ pattern_and below pos → given ≡ below
      → pattern_node known r u (tree_given part) ty s
      ≡ all_of_type r pos (put_all (map tree_given (out-Given part).given.now) given) ty s
  node_and below given pos is same =
      let whole = tree_out part ∙ ap (put (map tree_given (out-Given part).given.now)) is in
      ap (λ z. pattern_node known r u z ty s) whole
      ∙ ap (λ ts. all_of_type r pos (put_all (map tree_given (out-Given part).given.now) ts) ty s) (sym same)

  -- whatever the template is
  pub node_put : (template : PatternTree) → template_at part ≡ template
      → pattern_node known r u (tree_given part) ty s ≡ pattern_node known r u (put (map tree_given (out-Given part).given.now) template) ty s
  node_put template is = ap (λ z. pattern_node known r u z ty s) (tree_out part ∙ ap (put (map tree_given (out-Given part).given.now)) is)

  -- a name before `@` fails where what stands below it does
  pub bound_fails : (rule : Pos) (name : Ident) (below : PatternTree) (pos : Pos) (t : PatternTree) (refusal : Refusal Error)
      → template_at part ≡ pattern_bind name below pos → t ≡ put (map tree_given (out-Given part).given.now) below
      → Fails rule (r t ty s) refusal → Fails rule (pattern_node known r u (tree_given part) ty s) refusal
  bound_fails rule name below pos t refusal is same failed =
      fails_along rule _ _ refusal (node_put (pattern_bind name below pos) is)
      (fails_then rule (r (put (map tree_given (out-Given part).given.now) below) ty s)
      (λ v m. bind_name pos (visible_in m.scope name.0) name.0 ty v m) refusal
      (fails_along rule _ (r t ty s) refusal (ap (λ z. r z ty s) (sym same)) failed))

  -- a term that has no number, and a number that has no term
  pub term_unknown : (sym_name : Ident) (args : PatternTrees) (pos : Pos) → template_at part ≡ pattern_term sym_name args pos
      → known.term_named sym_name.0 ≡ None → pattern_node known r u (tree_given part) ty s ≡ ill_at pos
  term_unknown sym_name args pos is named =
      let whole = tree_out part ∙ ap (put (map tree_given (out-Given part).given.now)) is in rw (whole, named) refl

  pub number_unknown : (sym_name : Ident) (args : PatternTrees) (pos : Pos) (number : ℕ) → template_at part ≡ pattern_term sym_name args pos
      → known.term_named sym_name.0 ≡ Some number → known.signature number ≡ None → pattern_node known r u (tree_given part) ty s ≡ ill_at pos
  number_unknown sym_name args pos number is named signature =
      let whole = tree_out part ∙ ap (put (map tree_given (out-Given part).given.now)) is in rw (whole, named, signature) refl

  -- a term of another type
  pub term_other : (sym_name : Ident) (args : PatternTrees) (pos : Pos) (number : ℕ) (term : Signature)
      → template_at part ≡ pattern_term sym_name args pos → known.term_named sym_name.0 ≡ Some number → known.signature number ≡ Some term
      → (term.ret == ty) ≡ false
      → pattern_node known r u (tree_given part) ty s ≡ repair_pattern u (fitting known has_extractor_form term.ret ty) (tree_given part) s
  term_other sym_name args pos number term is named signature other =
      let whole = tree_out part ∙ ap (put (map tree_given (out-Given part).given.now)) is in rw (whole, named, signature, other) refl

  -- a term of the type
  pub term_same : (sym_name : Ident) (args ts : PatternTrees) (pos : Pos) (number : ℕ) (term : Signature)
      → template_at part ≡ pattern_term sym_name args pos → known.term_named sym_name.0 ≡ Some number → known.signature number ≡ Some term
      → (term.ret == ty) ≡ true → ts ≡ put_all (map tree_given (out-Given part).given.now) args
      → pattern_node known r u (tree_given part) ty s ≡ extract known r pos number term ts s
  term_same sym_name args ts pos number term is named signature same trees =
      let whole = tree_out part ∙ ap (put (map tree_given (out-Given part).given.now)) is in rw (whole, named, signature, same, trees) refl

-- a pattern where a level and a node are left
pub part_here : (known : Known) (max levels : ℕ) (t u : PatternTree) (ty : ℕ) (s m : State) → levels ≢ 0
    → (leb max s.nodes ≡ false) × (m ≡ counted s) → u ≡ t
    → read_pattern known max levels t ty s
    ≡ pattern_node known (read_pattern known max (levels - 1)) (read_pattern_use known max (levels - 1)) u ty m
part_here known max zero t u ty s m left room same = absurd (left refl)
part_here known max (suc levels) t u ty s m left room same =
    let fewer : suc levels - 1 ≡ levels = omega arith in rw (room.0, room.1, same, fewer) refl

-- a converter's use where a level and a node are left
pub use_here : (known : Known) (max levels : ℕ) (fit : Option (ℕ × Signature)) (number : ℕ) (term : Signature) (t : PatternTree) (at : Pos)
    (args : PatternTrees) (s m : State) → Some (number, term) ≡ fit → pattern_pos t ≡ at → args ≡ more_patterns t no_patterns → levels ≢ 0
    → (leb max s.nodes ≡ false) × (m ≡ counted s)
    → repair_pattern (read_pattern_use known max levels) fit t s ≡ extract known (read_pattern known max (levels - 1)) at number term args m
use_here known max zero fit number term t at args s m is here trees left room = absurd (left refl)
use_here known max (suc levels) fit number term t at args s m is here trees left room =
    let fewer : suc levels - 1 ≡ levels = omega arith in rw (sym is, here, trees, room.0, room.1, fewer) refl

-- a use of a term by what it is
module _ (known : Known) (r : PatternRun) (at : Pos) (number : ℕ) (term : Signature) (parts : List Given) (s : State) where
  -- with another number of arguments
  pub use_miscounted : (pattern_count (trees_given parts) == length term.args) ≡ false
      → extract known r at number term (trees_given parts) s ≡ ill_at at
  use_miscounted other = rw other refl

  -- a term that has no template
  pub use_plain : (pattern_count (trees_given parts) == length term.args) ≡ true → has_extractor_form term.form ≡ true → None ≡ template_in known term
      → extract known r at number term (trees_given parts) s
      ≡ and_then (each_pattern r at (trees_given parts) term.args s) (λ us s'. stands_for (typed_term term.ret number us) s')
  use_plain same usable none = rw (same, usable, sym none) refl

  -- a template of which an argument lacks
  pub use_lacking : (template : PatternTree) → (pattern_count (trees_given parts) == length term.args) ≡ true → has_extractor_form term.form ≡ true
      → Some template ≡ template_in known term → length parts < needed template → extract known r at number term (trees_given parts) s ≡ ill_at at
  use_lacking template same usable some few =
      let nothing = filled_nothing (listed (trees_given parts)) template (let n = listed_count parts in omega arith) in
      rw (same, usable, sym some, nothing) refl

  -- a template with its arguments
  pub use_template : (template t : PatternTree) → (pattern_count (trees_given parts) == length term.args) ≡ true
      → has_extractor_form term.form ≡ true → Some template ≡ template_in known term → needed template ≤ length parts
      → t ≡ put (map tree_given parts) template → extract known r at number term (trees_given parts) s ≡ r t term.ret s
  use_template template t same usable some enough is =
      let body = filled_put (listed (trees_given parts)) template (let n = listed_count parts in omega arith) in
      let trees = is ∙ ap (λ ts. put ts template) (sym (listed_given parts)) in
      rw (same, usable, sym some, body, trees) refl

-- the template that is put in is that of the term
put_in_of : (expands : Bool) (o : Option PatternTree) (template : PatternTree) → Some template ≡ (if expands then o else None) → o ≡ Some template
put_in_of true o template is = sym is
put_in_of false o template is = cc

-- whether arguments are lacking
pub lacks : (known : Known) (term : Signature) (template : PatternTree) (count : ℕ) → Some template ≡ template_in known term
    → true ≡ ltb count (needed_in (template_of term.form)) → count < needed template
lacks known term template count is test =
    let own = put_in_of known.expands (template_of term.form) template is in
    less_number count (needed template) (test ∙ ap (λ o. ltb count (needed_in o)) own)

-- whether no argument is lacking
pub suffices : (known : Known) (term : Signature) (template : PatternTree) (count : ℕ) → Some template ≡ template_in known term
    → false ≡ ltb count (needed_in (template_of term.form)) → needed template ≤ count
suffices known term template count is test =
    let own = put_in_of known.expands (template_of term.form) template is in
    no_less_number count (needed template) (test ∙ ap (λ o. ltb count (needed_in o)) own)

-- a test that is turned round
pub not_true : (b r : Bool) → r ≡ not b → r ≡ true → b ≡ false
not_true true r is test = cc
not_true false r is test = refl

-- a test that is turned round and fails
pub not_false : (b r : Bool) → r ≡ not b → r ≡ false → b ≡ true
not_false true r is test = refl
not_false false r is test = cc

-- typed patterns that are read, along an equation
pub each_ok_along : {E : Type 0} (context : Context) (o p : Outcome TypedPatterns) (r : Result (Vec Pattern Global) E) (s : State) → o ≡ p
    → IfOk r (λ made. AreRead context p s made.items) → IfOk r (λ made. AreRead context o s made.items)
each_ok_along context o p r s e h = subst (λ z. IfOk r (λ made. AreRead context z s made.items)) (sym e) h

-- how many patterns there are in a list
pub patterns_counted : (args : List SyntaxPattern) → pattern_count (patterns_of args) ≡ length args
patterns_counted [] = refl
patterns_counted (arg ∷ args) = let rest = patterns_counted args in omega arith

-- as many parts stand for the patterns of a list as it has
pub parts_counted : (parts : List Given) (args : List SyntaxPattern) → trees_given parts ≡ patterns_of args → length parts ≡ length args
parts_counted parts args same =
    let n = counts parts in
    let m = patterns_counted args in
    let k = ap pattern_count same in
    omega arith
