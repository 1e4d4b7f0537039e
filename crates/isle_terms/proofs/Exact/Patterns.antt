-- What reading a pattern comes to is what the judgement and the faults say.
use Rattle.std.proofs.Common.{◌≡◌, ◌≢◌, ◌⊎◌, ℕ, zero, suc, ◌≤◌, inl, inr, ◌==◌, List, [], ◌∷◌, Option, None, Some}
use Rattle.std.proofs.Common.{refl, sym, ap, subst, ◌∙◌, arith, length, slice_get, is_some}
use Rattle.std.specs.Prelude.{IsSome}
use Rattle.std.proofs.lemmas.Bool.{false≢true, eqb-true, eqb-false}
use Rattle.std.proofs.lemmas.Option.{none-some, same_Some}
use Rattle.isle_ast.specs.declared.ast.Ident.{Ident}
use Rattle.isle_ast.specs.declared.pos.Pos.{Pos}
use Rattle.isle_ast.specs.Trees.PatternTree.{PatternTree, PatternTrees, pattern_var, pattern_bind, pattern_bool, pattern_int, pattern_prim}
use Rattle.isle_ast.specs.Trees.PatternTree.{pattern_term, pattern_wildcard, pattern_and, pattern_macro_arg, no_patterns, more_patterns}
use Rattle.isle_ast.specs.Trees.PatternTree.{pattern_pos}
use Rattle.isle_ast.specs.Trees.Templates.{filled}
use Rattle.isle_types.specs.Environment.{constant_in}
use Rattle.isle_rules.specs.TypedRules.{TypedPattern}
use Rattle.isle_rules.specs.Signatures.{Signature, Declared, term_named, put_in_for, has_extractor_form}
use Rattle.isle_rules.specs.Elaboration.{State, counted, Visible, visible_in, pattern_count, listed, each_at, PatternJudgement, EachPattern}
use Rattle.isle_rules.specs.Elaboration.{TakesApart, Extracts, ConvertsPattern, PatternNode, Elaborates, bool_number}
use Rattle.isle_terms.specs.Reaching.{PatternFact, SomePattern, TakenApart, ExtractedPart, RepairedPattern, BelowPattern, ReachesPattern, IsTooLarge}
use Rattle.isle_terms.specs.IllTyped.{HasNoPatternConverter, IsIllUse, no_extractor, other_count, argument_lacking, other_type}
use Rattle.isle_terms.specs.IllTyped.{IsIllPattern}
use Rattle.isle_terms.specs.RuleReaching.{IllPatternAt}
use Rattle.isle_terms.specs.Inside.Readings.Outcomes.{Outcome, PatternRun, PatternUse, each_pattern, use_name, bind_name, use_constant, put_in, taken_apart}
use Rattle.isle_terms.specs.Inside.Readings.Outcomes.{extract, repair_pattern, use_term, use_number, pattern_node, read_pattern, read_pattern_use, fitting}
use Rattle.isle_terms.specs.Inside.Readings.KnownBy.{known_by, type_has_number}
use Rattle.isle_terms.specs.Inside.Readings.Telling.{Tells}
use Rattle.isle_terms.proofs.Exact.Parts.{Told, in_words, and_then_told, only_if_told, either_told, within_told}
use Rattle.isle_terms.proofs.Exact.Numbers.{number_there, number_found}
use Rattle.isle_terms.proofs.Exact.Fitting.{term_there, IsFit, fitting_fits}

-- a way to read patterns, and uses of terms at their own types, tells the truth
pub record TellsPatterns (declared : Declared) (max : ℕ) (R : PatternJudgement) (P : Pos → PatternFact) (L : PatternFact) (r : PatternRun)
    (u : PatternUse) : Type 0 where
  pub reads : (t : PatternTree) (ty : ℕ) (s : State) → s.nodes ≤ max → Told max (R t ty s) (λ at. P at t ty s) (L t ty s) (r t ty s)
  pub uses : (name : List ℕ) (at : Pos) (number : ℕ) (term : Signature) (args : PatternTrees) (s : State) → s.nodes ≤ max
      → term_named declared name ≡ Some number → slice_get declared.terms number ≡ Some term
      → Told max (R (pattern_term (name, at) args at) term.ret s) (λ place. P place (pattern_term (name, at) args at) term.ret s)
      (L (pattern_term (name, at) args at) term.ret s) (u at number term args s)

-- there is a type for each pattern
one_each : (ty : ℕ) (ts : PatternTrees) → pattern_count ts ≡ length (each_at ty ts)
one_each ty no_patterns = refl
one_each ty (more_patterns t ts) = let others = one_each ty ts in omega arith

-- what is given is something
some_is : {A : Type 0} (o : Option A) (x : A) → o ≡ Some x → IsSome o
some_is o x is = ap is_some is

module _ (declared : Declared) (max : ℕ) (R : PatternJudgement) (P : Pos → PatternFact) (L : PatternFact) (r : PatternRun) (u : PatternUse)
    (told : TellsPatterns declared max R P L r u) where
  -- patterns, as many as there are types
  pub each_pattern_told : (at : Pos) (ts : PatternTrees) (tys : List ℕ) (s : State) → s.nodes ≤ max → pattern_count ts ≡ length tys
      → Told max (EachPattern R ts tys s) (λ place. SomePattern R (P place) ts tys s) (SomePattern R L ts tys s) (each_pattern r at ts tys s)
  each_pattern_told at no_patterns [] s fits same = record { tells = ((refl, refl), fits) }
  each_pattern_told at no_patterns (ty ∷ tys) s fits same = absurd (omega arith)
  each_pattern_told at (more_patterns t ts) [] s fits same = absurd (omega arith)
  each_pattern_told at (more_patterns t ts) (ty ∷ tys) s fits same =
      and_then_told _ (told.reads t ty s fits) (λ place h. inl h) (λ h. inl h)
      (λ v m h fits_then.
      and_then_told _ (each_pattern_told at ts tys m fits_then (omega arith)) (λ place k. inr (v, m, h, k)) (λ k. inr (v, m, h, k))
      (λ vs s' k fits_last. record { tells = ((v, m, vs, h, k, refl), fits_last) }))

  -- a template's body, unless an argument is lacking
  put_in_told : (at : Pos) (o : Option PatternTree) (ty : ℕ) (s : State) → s.nodes ≤ max
      → Told max (λ v s'. (body : PatternTree) × (o ≡ Some body) × R body ty s v s')
      (λ place. ((o ≡ None) × (place ≡ at)) ⊎ ((body : PatternTree) × (o ≡ Some body) × P place body ty s))
      ((body : PatternTree) × (o ≡ Some body) × L body ty s) (put_in r at o ty s)
  put_in_told at None ty s fits = record { tells = inl (refl, refl) }
  put_in_told at (Some body) ty s fits =
      in_words (told.reads body ty s fits) (λ v s' h. (body, refl, h)) (λ place h. inr (body, refl, h)) (λ h. (body, refl, h))

  -- a term takes its value apart, unless an argument is lacking
  taken_told : (at : Pos) (number : ℕ) (term : Signature) (template : Option PatternTree) (args : PatternTrees) (s : State) → s.nodes ≤ max
      → pattern_count args ≡ length term.args
      → Told max (TakesApart R term number template args term.ret s)
      (λ place. (((t : PatternTree) × (template ≡ Some t) × (filled (listed args) t ≡ None)) × (place ≡ at))
      ⊎ TakenApart R (P place) term template args term.ret s)
      (TakenApart R L term template args term.ret s) (taken_apart r at number term template args s)
  taken_told at number term None args s fits same =
      and_then_told _ (each_pattern_told at args term.args s fits same) (λ place h. inr h) (λ h. h)
      (λ us s' h fits_then. record { tells = ((us, h, refl), fits_then) })
  taken_told at number term (Some template) args s fits same =
      in_words (put_in_told at (filled (listed args) template) term.ret s fits) (λ v s' h. h)
      (λ place h. elim h [ inl none ↦ inl ((template, refl, none.0), none.1) | inr inside ↦ inr inside ]) (λ h. h)

  -- a use of a term at its own type
  pub extract_told : (at : Pos) (number : ℕ) (term : Signature) (args : PatternTrees) (s : State) → s.nodes ≤ max
      → Told max (Extracts declared R term number args term.ret s)
      (λ place. (IsIllUse declared term args term.ret × (place ≡ at)) ⊎ ExtractedPart declared R (P place) term args term.ret s)
      (ExtractedPart declared R L term args term.ret s) (extract (known_by declared) r at number term args s)
  extract_told at number term args s fits =
      only_if_told (pattern_count args == length term.args) at _
      (λ same. let arity = eqb-true (pattern_count args) (length term.args) same in
      only_if_told (has_extractor_form term.form) at _
      (λ usable. in_words (taken_told at number term (put_in_for declared term) args s fits arity)
      (λ v s' h. record { type = refl; usable = usable; arity = arity; taken = h })
      (λ place h. elim h [ inl lacks ↦ inl (argument_lacking refl lacks.0, lacks.1) | inr part ↦ inr (refl, usable, arity, part) ])
      (λ h. (refl, usable, arity, h)))
      (λ none. inl (no_extractor refl none, refl)))
      (λ other. inl (other_count refl (eqb-false (pattern_count args) (length term.args) other), refl))

  -- what is put around a pattern of another type, where a converter fits
  repaired_told : (term : Signature) (tree : PatternTree) (ty : ℕ) (s : State) → s.nodes ≤ max → term.ret ≢ ty → (fit : Option (ℕ × Signature))
      → IsFit declared has_extractor_form term.ret ty fit
      → Told max (ConvertsPattern declared R term tree ty s)
      (λ place. (HasNoPatternConverter declared term.ret ty × (place ≡ pattern_pos tree)) ⊎ RepairedPattern declared (P place) term tree ty s)
      (RepairedPattern declared L term tree ty s) (repair_pattern u fit tree s)
  repaired_told term tree ty s fits other None none = record { tells = inl (none, refl) }
  repaired_told term tree ty s fits other (Some fit) (name, named, stands, converts, usable) =
      let at = pattern_pos tree in
      let form = pattern_term (name, at) (more_patterns tree no_patterns) at in
      in_words (subst (λ z. Told max (R form z s) (λ place. P place form z s) (L form z s) (u at fit.0 fit.1 (more_patterns tree no_patterns) s))
      converts.gives (told.uses name at fit.0 fit.1 (more_patterns tree no_patterns) s fits named stands))
      (λ v s' h. record { name = name; converter = fit.1; other = other; fits = converts; usable = usable; repaired = h })
      (λ place h. inr (name, fit.1, other, converts, usable, h)) (λ h. (name, fit.1, other, converts, usable, h))

  -- a use of a known term at a type
  used_told : (name : Ident) (args : PatternTrees) (at : Pos) (ty number : ℕ) (term : Signature) (s : State) → s.nodes ≤ max
      → Told max
      (λ v s'. Extracts declared R term number args ty s v s' ⊎ ConvertsPattern declared R term (pattern_term name args at) ty s v s')
      (λ place. (IsIllUse declared term args ty × (place ≡ at))
      ⊎ (ExtractedPart declared R (P place) term args ty s ⊎ RepairedPattern declared (P place) term (pattern_term name args at) ty s))
      (ExtractedPart declared R L term args ty s ⊎ RepairedPattern declared L term (pattern_term name args at) ty s)
      (use_term (known_by declared) r u at number (Some term) (pattern_term name args at) args ty s)
  used_told name args at ty number term s fits =
      either_told (term.ret == ty) _ _
      (λ is. in_words (subst (λ z. Told max (Extracts declared R term number args z s)
      (λ place. (IsIllUse declared term args z × (place ≡ at)) ⊎ ExtractedPart declared R (P place) term args z s)
      (ExtractedPart declared R L term args z s) (extract (known_by declared) r at number term args s))
      (eqb-true term.ret ty is) (extract_told at number term args s fits))
      (λ v s' h. inl h) (λ place h. elim h [ inl ill ↦ inl ill | inr part ↦ inr (inl part) ]) (λ h. inl h))
      (λ is. let other = eqb-false term.ret ty is in
      in_words (repaired_told term (pattern_term name args at) ty s fits other (fitting (known_by declared) has_extractor_form term.ret ty)
      (fitting_fits declared has_extractor_form term.ret ty))
      (λ v s' h. inr h) (λ place h. elim h [ inl none ↦ inl (other_type other none.0, none.1) | inr part ↦ inr (inr part) ]) (λ h. inr h))

  -- what a node comes to
  abbrev pub NodeTold : PatternTree → (ty : ℕ) → State → Outcome TypedPattern → Type 0
  NodeTold t ty s o = Told max (PatternNode declared R t ty s)
      (λ place. IsIllPattern declared R place t ty s ⊎ BelowPattern declared R (P place) t ty s) (BelowPattern declared R L t ty s) o

  -- a use of a term, by the number of its name
  number_told : (name : Ident) (args : PatternTrees) (at : Pos) (ty : ℕ) (s : State) → s.nodes ≤ max → (o : Option ℕ) → term_named declared name.0 ≡ o
      → NodeTold (pattern_term name args at) ty s (use_number (known_by declared) r u at o (pattern_term name args at) args ty s)
  number_told name args at ty s fits None is = record { tells = inl (inl is, refl) }
  number_told name args at ty s fits (Some number) is =
      let there = term_there declared name.0 number is in
      subst (λ z. NodeTold (pattern_term name args at) ty s (use_term (known_by declared) r u at number z (pattern_term name args at) args ty s))
      (sym there.1)
      (in_words (used_told name args at ty number there.0 s fits) (λ v s' h. (number, there.0, is, there.1, h))
      (λ place h. elim h [
        | inl ill ↦ inl (inr (number, there.0, is, there.1, ill.0), ill.1)
        | inr below ↦ inr (number, there.0, is, there.1, below)
      ]) (λ h. (number, there.0, is, there.1, h)))

  -- a name, by what it is bound to
  named_told : (name : Ident) (at : Pos) (ty : ℕ) (s : State) → s.nodes ≤ max → (o : Option Visible) → visible_in s.scope name.0 ≡ o
      → NodeTold (pattern_var name at) ty s (use_name at o name.0 ty s)
  named_told name at ty s fits None is = record { tells = (inl (is, refl, refl), fits) }
  named_told name at ty s fits (Some seen) is =
      only_if_told (seen.type == ty) at _ (λ same. record { tells = (inr (seen, is, eqb-true seen.type ty same, refl, refl), fits) })
      (λ other. inl (seen, is, eqb-false seen.type ty other, refl))

  -- a name before `@`, by what it is bound to
  bound_told : (name : Ident) (below : PatternTree) (at : Pos) (ty : ℕ) (s : State) (v : TypedPattern) (m : State) → R below ty s v m → m.nodes ≤ max
      → (o : Option Visible) → visible_in m.scope name.0 ≡ o → NodeTold (pattern_bind name below at) ty s (bind_name at o name.0 ty v m)
  bound_told name below at ty s v m h fits None is = record { tells = ((v, m, h, is, refl, refl), fits) }
  bound_told name below at ty s v m h fits (Some seen) is = record { tells = inl (v, m, h, some_is (visible_in m.scope name.0) seen is, refl) }

  -- a constant, by its type
  constant_told : (name : Ident) (at : Pos) (ty : ℕ) (s : State) → s.nodes ≤ max → (o : Option ℕ) → constant_in declared.types.constants name.0 ≡ o
      → NodeTold (pattern_prim name at) ty s (use_constant at o name.0 ty s)
  constant_told name at ty s fits None is = record { tells = inl ((λ e. none-some ty (sym is ∙ e)), refl) }
  constant_told name at ty s fits (Some own) is =
      only_if_told (own == ty) at _ (λ same. record { tells = ((is ∙ ap Some (eqb-true own ty same), refl, refl), fits) })
      (λ other. inl ((λ e. eqb-false own ty other (same_Some own ty (sym is ∙ e))), refl))

  -- a node of a pattern
  pub pattern_node_told : (t : PatternTree) (ty : ℕ) (s : State) → s.nodes ≤ max → NodeTold t ty s (pattern_node (known_by declared) r u t ty s)
  pattern_node_told (pattern_var name at) ty s fits = named_told name at ty s fits (visible_in s.scope name.0) refl
  pattern_node_told (pattern_bind name below at) ty s fits =
      and_then_told _ (told.reads below ty s fits) (λ place h. inr h) (λ h. h)
      (λ v m h fits_then. bound_told name below at ty s v m h fits_then (visible_in m.scope name.0) refl)
  pattern_node_told (pattern_bool val at) ty s fits =
      only_if_told (ty == bool_number) at _ (λ same. record { tells = ((eqb-true ty bool_number same, refl, refl), fits) })
      (λ other. inl (eqb-false ty bool_number other, refl))
  pattern_node_told (pattern_int val big at) ty s fits =
      only_if_told (type_has_number declared.types ty val big) at _
      (λ is. record { tells = ((number_there declared.types ty val big is, refl, refl), fits) })
      (λ is. inl ((λ h. false≢true (sym is ∙ number_found declared.types ty val big h)), refl))
  pattern_node_told (pattern_prim name at) ty s fits = constant_told name at ty s fits (constant_in declared.types.constants name.0) refl
  pattern_node_told (pattern_term name args at) ty s fits = number_told name args at ty s fits (term_named declared name.0) refl
  pattern_node_told (pattern_wildcard at) ty s fits = record { tells = ((refl, refl), fits) }
  pattern_node_told (pattern_and below at) ty s fits =
      and_then_told _ (each_pattern_told at below (each_at ty below) s fits (one_each ty below)) (λ place h. inr h) (λ h. h)
      (λ us s' h fits_then. record { tells = ((us, h, refl), fits_then) })
  pattern_node_told (pattern_macro_arg place at) ty s fits = record { tells = inl refl }

  -- a use of a term at its own type is what its tree comes to there
  pub use_told : (name : List ℕ) (at : Pos) (number : ℕ) (term : Signature) (args : PatternTrees) (s : State) → s.nodes ≤ max
      → term_named declared name ≡ Some number → slice_get declared.terms number ≡ Some term
      → NodeTold (pattern_term (name, at) args at) term.ret s (extract (known_by declared) r at number term args s)
  use_told name at number term args s fits named stands =
      in_words (extract_told at number term args s fits) (λ v s' h. (number, term, named, stands, inl h))
      (λ place h. elim h [
        | inl ill ↦ inl (inr (number, term, named, stands, ill.0), ill.1)
        | inr part ↦ inr (number, term, named, stands, inl part)
      ]) (λ h. (number, term, named, stands, inl h))

-- reading patterns in so many levels tells the truth
pub patterns_told : (declared : Declared) (max levels : ℕ)
    → TellsPatterns declared max (Elaborates declared levels) (λ at. ReachesPattern declared (IllPatternAt declared at) levels)
    (ReachesPattern declared (λ left t ty s. IsTooLarge max left s) levels) (read_pattern (known_by declared) max levels)
    (read_pattern_use (known_by declared) max levels)
patterns_told declared max zero = record {
  reads = λ t ty s fits. record { tells = tt };
  uses = λ name at number term args s fits named stands. record { tells = tt };
}
patterns_told declared max (suc levels) =
    let below = patterns_told declared max levels in
    record {
      reads = λ t ty s fits. within_told s.nodes _ (λ full. inl full)
          (λ room. in_words (pattern_node_told declared max _ _ _ _ _ below t ty (counted s) room) (λ v s' h. h) (λ at h. h) (λ h. inr h));
      uses = λ name at number term args s fits named stands. within_told s.nodes _ (λ full. inl full)
          (λ room. in_words (use_told declared max _ _ _ _ _ below name at number term args (counted s) room named stands) (λ v s' h. h) (λ at h. h)
          (λ h. inr h));
    }
