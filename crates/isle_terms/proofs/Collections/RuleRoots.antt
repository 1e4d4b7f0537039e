-- The roots of rules, and what reading a whole rule comes to.
use Rattle.std.proofs.Common.{◌≡◌, ◌≢◌, ℕ, ◌==◌, ℤ, Bool, true, false, List, [], ◌∷◌, length, Option, None, Some, refl, ap, sym, subst, ◌∙◌}
use Rattle.std.proofs.Common.{arith, if◌then◌else◌}
use Rattle.std.proofs.lemmas.List.{length-map}
use Rattle.std.proofs.lemmas.Bool.{true≢false, false≢true, eqb-true, eqb-false, eq-eqb}
use Rattle.std.proofs.lemmas.Option.{none-some}
use Rattle.isle_ast.specs.declared.ast.Pattern.{Pattern}
use Rattle.isle_ast.specs.declared.ast.Rule.{Rule}
use Rattle.isle_ast.specs.declared.pos.Pos.{Pos}
use Rattle.isle_ast.specs.declared.error.Error.{Error}
use Rattle.isle_ast.specs.declared.refusal.Refusal.{Refusal}
use Rattle.isle_ast.specs.Errors.{type_error, IfFault}
use Rattle.isle_ast.specs.Trees.PatternTree.{PatternTrees, pattern_pos}
use Rattle.isle_ast.specs.Trees.PatternShape.{pattern_of, patterns_of}
use Rattle.isle_rules.specs.Signatures.{Flags, Signature, Declared}
use Rattle.isle_rules.specs.Elaboration.{State, pattern_count, ElaboratesRule}
use Rattle.isle_terms.specs.RuleReaching.{HasRoot, IsIllRule, other_number_of_arguments, priority_of_multi, IsLargeRule}
use Rattle.isle_terms.specs.Inside.Readings.Outcomes.{Outcome, stands_for, ill_at, exceeds, Known, and_then, only_if}
use Rattle.isle_terms.specs.Inside.Readings.RuleOutcomes.{RuleParts, read_rule}
use Rattle.isle_terms.specs.Inside.Readings.KnownBy.{known_by}
use Rattle.isle_terms.specs.Inside.Readings.Telling.{Tells, rule_of_parts}
use Rattle.isle_types.specs.declared.ids.TypeId.{TypeId}
use Rattle.isle_rules.specs.Shown.ShownTerms.{numbers_of}
use Rattle.isle_terms.specs.Inside.Collecting.RuleRoots.{RootParts, declared_flags, root_with, root_of_term, root_of_number, root_in, may_have_priority}
use Rattle.isle_terms.specs.Inside.Collecting.RuleRoots.{read_rooted}
use Rattle.isle_terms.specs.Inside.Collecting.RuleRoots.{read_with, read_whole}
use Rattle.isle_terms.specs.Inside.Readings.Failures.{IsErrorAt, Fails}
use Rattle.isle_terms.proofs.Exact.Parts.{Told, and_then_told, only_if_told}
use Rattle.isle_terms.proofs.Exact.Rules.{rule_tells}

-- as many patterns are counted as there are
pub patterns_counted : (patterns : List Pattern) → pattern_count (patterns_of patterns) ≡ length patterns
patterns_counted [] = refl
patterns_counted (first ∷ others) = let rest = patterns_counted others in omega arith

-- the root of a rule
unfoldable pub found_root : {declared : Declared} {tree : Rule} {term : Signature} {flags : Flags} {args : PatternTrees}
    → HasRoot declared tree term flags args → RootParts
found_root {declared} {tree} {term} {flags} {args} root = record { number = root.number; term = term; flags = flags; args = args; at = root.at }

-- a rule's root is found
pub root_is_found : (declared : Declared) (tree : Rule) (term : Signature) (flags : Flags) (args : PatternTrees)
    → (root : HasRoot declared tree term flags args) → root_in (known_by declared) (pattern_of tree.pattern) ≡ Some (found_root root)
unfolding found_root
root_is_found declared tree term flags args root =
    ap (root_in (known_by declared)) root.shape ∙ ap (root_of_number (known_by declared) args root.at) root.root
    ∙ ap (root_of_term root.number args root.at) root.known ∙ ap (λ form. root_with root.number term args root.at (declared_flags form)) root.ruled.1

-- where there may be a priority, there is none of a `multi` term
unordered : (flags : Flags) (prio : Option ℤ) → may_have_priority flags prio ≡ true → flags.multi ≡ true → prio ≡ None
unordered flags None may multi = refl
unordered flags (Some prio) may multi = absurd (false≢true (sym (ap (λ b. if b then false else true) multi) ∙ may))

-- where there may be none, the term is `multi`
is_multi : (multi : Bool) → (if multi then false else true) ≡ false → multi ≡ true
is_multi true is = refl
is_multi false is = absurd (true≢false is)

-- and there is one
ordered : (flags : Flags) (prio : Option ℤ) → may_have_priority flags prio ≡ false → (flags.multi ≡ true) × (prio ≢ None)
ordered flags None may = absurd (true≢false may)
ordered flags (Some prio) may = (is_multi flags.multi may, λ none. none-some prio (sym none))

-- what reading a rule with its root comes to is so
whole_told : (declared : Declared) (max levels : ℕ) (term : Signature) (flags : Flags) (args : PatternTrees) (tree : Rule)
    → (root : HasRoot declared tree term flags args)
    → Told max (λ typed s. ElaboratesRule declared levels max tree typed) (IsIllRule declared levels tree) (IsLargeRule declared levels max tree)
    (read_with (known_by declared) max levels (Some (found_root root)) tree)
unfolding found_root
whole_told declared max levels term flags args tree root =
    let at : pattern_pos (pattern_of tree.pattern) ≡ root.at = ap pattern_pos root.shape in
    and_then_told _
    (only_if_told (pattern_count args == length term.args) root.at
    (only_if (may_have_priority flags tree.prio) tree.pos (read_rule (known_by declared) max levels term flags root.at args tree))
    (λ same. only_if_told (may_have_priority flags tree.prio) tree.pos (read_rule (known_by declared) max levels term flags root.at args tree)
    (λ may. record {
      tells = rule_tells declared max levels term flags root.at args tree root (eqb-true (pattern_count args) (length term.args) same)
          (unordered flags tree.prio may);
    })
    (λ may_not. let both = ordered flags tree.prio may_not in priority_of_multi term flags args root both.0 both.1))
    (λ other. subst (IsIllRule declared levels tree) at
    (other_number_of_arguments term flags args root (eqb-false (pattern_count args) (length term.args) other))))
    (λ place h. h) (λ h. h) (λ parts s h fits. record { tells = (h, fits) })

-- what reading a whole rule comes to is so
pub whole_tells : (declared : Declared) (max levels : ℕ) (term : Signature) (flags : Flags) (args : PatternTrees) (tree : Rule)
    → HasRoot declared tree term flags args
    → Tells max (λ typed s. ElaboratesRule declared levels max tree typed) (IsIllRule declared levels tree) (IsLargeRule declared levels max tree)
    (read_whole (known_by declared) max levels tree)
whole_tells declared max levels term flags args tree root =
    let told = whole_told declared max levels term flags args tree root in
    subst (λ found. Tells max (λ typed s. ElaboratesRule declared levels max tree typed) (IsIllRule declared levels tree)
    (IsLargeRule declared levels max tree) (read_with (known_by declared) max levels found tree))
    (sym (root_is_found declared tree term flags args root)) told.tells

-- how something read in turn fails, so does what is made of it
pub fails_made : {A B : Type 0} (rule : Pos) (o : Outcome A) (f : A → State → B) (e : Refusal Error) → Fails rule o e
    → Fails rule (and_then o (λ v s. stands_for (f v s) s)) e
fails_made rule (stands_for v s) f e fails = fails
fails_made rule (ill_at at) f e fails = fails
fails_made rule exceeds f e fails = fails

-- a rule whose root is well stands for what its parts stand for
pub whole_stands : (known : Known) (max levels : ℕ) (tree : Rule) (root : RootParts) (parts : RuleParts) (s : State)
    → root_in known (pattern_of tree.pattern) ≡ Some root → pattern_count root.args ≡ length root.term.args
    → may_have_priority root.flags tree.prio ≡ true
    → read_rule known max levels root.term root.flags root.at root.args tree ≡ stands_for parts s
    → read_whole known max levels tree ≡ stands_for (rule_of_parts root.number tree parts s) s
whole_stands known max levels tree root parts s found same may read =
    ap (λ o. read_with known max levels o tree) found
    ∙ (ap (λ o. and_then o (λ parts s. stands_for (rule_of_parts root.number tree parts s) s))
    (ap (λ b. only_if b root.at (only_if (may_have_priority root.flags tree.prio) tree.pos
    (read_rule known max levels root.term root.flags root.at root.args tree))) (eq-eqb (pattern_count root.args) (length root.term.args) same)
    ∙ (ap (λ b. only_if b tree.pos (read_rule known max levels root.term root.flags root.at root.args tree)) may ∙ read)))

-- and fails as its parts fail
pub whole_fails : (rule : Pos) (known : Known) (max levels : ℕ) (tree : Rule) (root : RootParts) (e : Refusal Error)
    → root_in known (pattern_of tree.pattern) ≡ Some root → pattern_count root.args ≡ length root.term.args
    → may_have_priority root.flags tree.prio ≡ true
    → Fails rule (read_rule known max levels root.term root.flags root.at root.args tree) e → Fails rule (read_whole known max levels tree) e
whole_fails rule known max levels tree root e found same may fails =
    subst (λ o. Fails rule (read_with known max levels o tree) e) (sym found)
    (fails_made rule (read_rooted known max levels root tree) (λ parts s. rule_of_parts root.number tree parts s) e
    (subst (λ b. Fails rule (only_if b root.at (only_if (may_have_priority root.flags tree.prio) tree.pos
    (read_rule known max levels root.term root.flags root.at root.args tree))) e)
    (sym (eq-eqb (pattern_count root.args) (length root.term.args) same))
    (subst (λ b. Fails rule (only_if b tree.pos (read_rule known max levels root.term root.flags root.at root.args tree)) e) (sym may) fails)))

-- a rule whose root is ill fails as that
pub root_fails : (rule : Pos) (known : Known) (max levels : ℕ) (tree : Rule) (root : RootParts) (e : Refusal Error)
    → root_in known (pattern_of tree.pattern) ≡ Some root → Fails rule (read_rooted known max levels root tree) e
    → Fails rule (read_whole known max levels tree) e
root_fails rule known max levels tree root e found fails =
    subst (λ o. Fails rule (read_with known max levels o tree) e) (sym found)
    (fails_made rule (read_rooted known max levels root tree) (λ parts s. rule_of_parts root.number tree parts s) e fails)

-- a pattern for each type is as many patterns as there are numbers of types
pub same_arity : (args : List Pattern) (tys : List TypeId) → length args ≡ length tys → pattern_count (patterns_of args) ≡ length (numbers_of tys)
same_arity args tys same = patterns_counted args ∙ (same ∙ sym (length-map tys (λ (ty : TypeId). ty.0)))

-- and another number of patterns is another number of them
pub arity_fails : (rule : Pos) (args : List Pattern) (tys : List TypeId) (at : Pos) (o : Outcome RuleParts) (e : Refusal Error)
    → Fails rule (only_if (length args == length tys) at o) e
    → Fails rule (only_if (pattern_count (patterns_of args) == length (numbers_of tys)) at o) e
arity_fails rule args tys at o e fails =
    subst (λ n. Fails rule (only_if (n == length (numbers_of tys)) at o) e) (sym (patterns_counted args))
    (subst (λ n. Fails rule (only_if (length args == n) at o) e) (sym (length-map tys (λ (ty : TypeId). ty.0))) fails)
