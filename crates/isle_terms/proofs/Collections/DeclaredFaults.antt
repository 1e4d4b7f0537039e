-- The faults of declarations are faults of typing, and what a refusal lists.
use Rattle.std.proofs.Common.{◌≡◌, ℕ, ◌<◌, Bool, inl, inr, List, [], ◌∷◌, length, sym, subst, ◌∙◌}
use Rattle.std.specs.Prelude.{All}
use Rattle.isle_ast.specs.declared.ast.Def.{Def}
use Rattle.isle_ast.specs.declared.error.Error.{Error}
use Rattle.isle_ast.specs.declared.pos.Pos.{Pos}
use Rattle.isle_types.specs.Environment.{Environment}
use Rattle.isle_types.specs.TypeFaults.{IsTypeFault, IsSizeFault}
use Rattle.isle_containers.proofs.Lists.{slice_get-kept, slice_get-last}
use Rattle.isle_types.proofs.TypeReadings.{reading_then}
use Rattle.isle_rules.specs.Definitions.{declarations}
use Rattle.isle_terms.specs.TermFaults.{DeclarationBreaks, unknown_type}
use Rattle.isle_terms.specs.TypingFaults.{BreaksTyping, of_declarations, ExceedsTyping, by_arguments, AreTypingFaults}
use Rattle.isle_terms.specs.Inside.Collecting.Checks.{Checks}
use Rattle.isle_terms.specs.Inside.Collecting.DeclaredTerms.{of_argument, of_result, OneNamesUnknownType, IsOneLargeAt, IsAlone}

-- a declaration that names an unknown type breaks a rule of declarations
unknown_breaks : (types : Environment) (defs : List Def) (at : Pos) → OneNamesUnknownType types (declarations defs) at
    → DeclarationBreaks types defs at
unknown_breaks types defs at (decl, among, of_argument (name, (place, here), unknown)) =
    subst (DeclarationBreaks types defs) (sym unknown.1) (unknown_type decl name among
    (place, slice_get-kept decl.arg_tys (decl.ret_ty ∷ []) place name here) unknown.0)
unknown_breaks types defs at (decl, among, of_result (missing, is)) =
    subst (DeclarationBreaks types defs) (sym is) (unknown_type decl decl.ret_ty among
    (length decl.arg_tys, slice_get-last decl.arg_tys decl.ret_ty) missing)

-- so it breaks a rule of typing
pub unknown_types_break : (types : Environment) (expands : Bool) (levels : ℕ) (defs : List Def) (at : Pos)
    → OneNamesUnknownType types (declarations defs) at → BreaksTyping types expands levels defs at
unknown_types_break types expands levels defs at unknown = of_declarations at (unknown_breaks types defs at unknown)

-- a declaration of too many arguments exceeds a size
large_exceeds : (types : Environment) (expands : Bool) (levels max : ℕ) (defs : List Def) (at : Pos) → IsOneLargeAt (declarations defs) at
    → ExceedsTyping types expands levels max defs at
large_exceeds types expands levels max defs at large =
    by_arguments at (record { decl = large.0; among = large.1; many = large.2.0; here = large.2.1 })

-- the size error of a declaration is what a refusal lists
pub large_is_listed : (types : Environment) (expands : Bool) (levels max : ℕ) (defs : List Def) (errors : List Error)
    → IsAlone (IsSizeFault (IsOneLargeAt (declarations defs))) errors → AreTypingFaults types expands levels max defs errors
large_is_listed types expands levels max defs [] alone = absurd alone
large_is_listed types expands levels max defs (error ∷ []) alone =
    inl (reading_then (λ _. ⊥) (IsOneLargeAt (declarations defs)) (λ _. ⊥) (ExceedsTyping types expands levels max defs) (λ _ none. none)
    (large_exceeds types expands levels max defs) error alone)
large_is_listed types expands levels max defs (error ∷ (other ∷ others)) alone = absurd alone

-- type errors that checks added to none, one at least, are what a refusal lists
pub broken_is_listed : (types : Environment) (expands : Bool) (levels max : ℕ) (defs : List Def) {Kept : Type 0} (errors all : List Error)
    → Checks (BreaksTyping types expands levels defs) Kept [] errors → all ≡ errors → 0 < length errors
    → AreTypingFaults types expands levels max defs all
broken_is_listed types expands levels max defs errors all checks same some =
    let listed : errors ≡ checks.added = checks.all in
    inr (
      subst (All (IsTypeFault (BreaksTyping types expands levels defs))) (sym (same ∙ listed)) checks.faults,
      subst (λ xs. 0 < length xs) (sym same) some,
    )

-- where checks added none, what they keep is kept
pub kept_by_none : {Broken : Pos → Type 0} {Kept : Type 0} (errors : List Error) → Checks Broken Kept [] errors → errors ≡ [] → Kept
kept_by_none errors checks none = checks.kept (sym checks.all ∙ none)

-- checks of no errors before are checks from none on
pub from_none : {Broken : Pos → Type 0} {Kept : Type 0} {errors : List Error} (first : List Error) → first ≡ []
    → Checks Broken Kept first errors → Checks Broken Kept [] errors
from_none {Broken} {Kept} {errors} first none checks = subst (λ old. Checks Broken Kept old errors) none checks
