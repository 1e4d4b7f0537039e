-- What checks come to that begin with no error: nothing is wrong, or the errors are refused.
use Rattle.std.proofs.Common.{◌≡◌, ◌<◌, ℕ, Bool, inr, List, [], length, Vec, sym, subst, ◌∙◌}
use Rattle.std.specs.Global.{Global}
use Rattle.std.specs.List.{All}
use Rattle.isle_ast.specs.declared.ast.Def.{Def}
use Rattle.isle_ast.specs.declared.pos.Pos.{Pos}
use Rattle.isle_ast.specs.declared.error.Error.{Error}
use Rattle.isle_ast.specs.declared.refusal.Refusal.{Refusal}
use Rattle.isle_ast.specs.Errors.{IfFault}
use Rattle.isle_types.specs.declared.ids.TypeId.{TypeId}
use Rattle.isle_types.specs.declared.ids.TermId.{TermId}
use Rattle.isle_types.specs.Names.{AreDistinct}
use Rattle.isle_types.specs.Environment.{Environment}
use Rattle.isle_types.specs.TypeFaults.{IsTypeFault}
use Rattle.isle_types.proofs.Reading.{fault_weaker}
use Rattle.isle_rules.specs.Signatures.{Signature}
use Rattle.isle_terms.specs.TermFaults.{IsTaken, names_of}
use Rattle.isle_terms.specs.TypingFaults.{BreaksTyping, of_rule_names, named_rules, AreTypingFaults}
use Rattle.isle_terms.specs.Inside.Collecting.Checks.{Checks}
use Rattle.isle_terms.specs.Inside.Collecting.MadeTerms.{KeepLaterRules}
use Rattle.isle_terms.proofs.Collections.Checking.{check_both}
use Rattle.isle_terms.proofs.Collections.CheckedTyping.{checks_wider}

-- where there is no error, what is checked is kept
pub kept_without_errors : {Broken : Pos → Type 0} {Kept : Type 0} {errors : List Error} → Checks Broken Kept [] errors → errors ≡ [] → Kept
kept_without_errors checks none = checks.kept (sym checks.all ∙ none)

-- each error is where a rule is broken
pub broken_somewhere : {Broken : Pos → Type 0} {Kept : Type 0} {errors : List Error} → Checks Broken Kept [] errors
    → All (IsTypeFault Broken) errors
broken_somewhere {Broken} checks = subst (All (IsTypeFault Broken)) (sym checks.all) checks.faults

-- definitions are checked by rules of typing
module _ (types : Environment) (expands : Bool) (levels : ℕ) (defs : List Def) where
  -- errors that are refused are faults of typing
  pub refused_faults : (max : ℕ) {Kept : Type 0} (errors : List Error) (refusal : Refusal (Vec Error Global))
      → Checks (BreaksTyping types expands levels defs) Kept [] errors
      → IfFault refusal (λ all. (all.items ≡ errors) × (0 < length errors))
      → IfFault refusal (λ all. AreTypingFaults types expands levels max defs all.items)
  refused_faults max errors refusal checks refused =
      fault_weaker (λ (all : Vec Error Global). (all.items ≡ errors) × (0 < length errors))
      (λ (all : Vec Error Global). AreTypingFaults types expands levels max defs all.items) refusal
      (λ all is. subst (AreTypingFaults types expands levels max defs) (sym is.0) (inr (broken_somewhere checks, is.1))) refused

  -- after the rules of extractors, converters and uses the names of rules are checked
  pub later_checked : (signatures : List Signature) (table : List ((TypeId × TypeId) × TermId)) (middle errors : List Error)
      → Checks (BreaksTyping types expands levels defs) (KeepLaterRules types defs signatures table) [] middle
      → Checks (IsTaken (named_rules defs)) (AreDistinct (names_of (named_rules defs))) middle errors
      → Checks (BreaksTyping types expands levels defs)
      (KeepLaterRules types defs signatures table × AreDistinct (names_of (named_rules defs))) [] errors
  later_checked signatures table middle errors first second = check_both first (checks_wider of_rule_names (λ once. once) second)
