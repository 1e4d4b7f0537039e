use Rattle.std.proofs.Common.{◌∙◌, ap, rules, Ok, Err, Result, MatchResult}
use Rattle.isle_ast.specs.Trees.PatternShape.{pattern_of}
use Rattle.isle_ast.proofs.Trees.Innermost.{cloned_chain}
use Rattle.std.specs.Result.{IfOk}
use Rattle.isle_ast.proofs.ast.clone.+clone_pattern.Goals as goal

-- what holds of a call's value holds of it under another name
handed_on : {T E : Type 0} (r : Result T E) (P Q : T → Type 0) (R : E → Type 0) → ((x : T) → P x → Q x) → ((e : E) → R e) → IfOk r P
    → MatchResult r Q R
handed_on (Ok x) P Q R value error h = value x h
handed_on (Err e) P Q R value error h = error e

pub PatternClone::clone-returns-in_ok-clone_innermost-in-BindPattern :
    goal.PatternClone::clone-returns-in_ok-clone_innermost-in-BindPattern
PatternClone::clone-returns-in_ok-clone_innermost-in-BindPattern t c = record {
  cases = handed_on c.wrap.result _ _ _
      (λ q whole. cloned_chain c.args.self.now q c.in_ok-clone_innermost-in-BindPattern.field-0 c.in_ok-names-in-BindPattern.names.items whole
      c.in_ok-names-in-BindPattern.ensures (ap pattern_of c.in_ok-clone_innermost-in-BindPattern.ensures ∙ c.innermost.ensures))
      (λ e. search rules) c.wrap.ensures;
}
