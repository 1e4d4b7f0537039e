use Rattle.std.proofs.Common.{◌≡◌, ◌++◌, ◌∷◌, [], ◌∙◌, ℕ, List, ap, sym, append_assoc, string_bytes}
use Rattle.std.specs.Prelude.{decimal}
use Rattle.isle_program.specs.Facts.Steps.{steps_in}
use Rattle.isle_program.specs.Programs.{rule_sets_of}
use Rattle.islec.proofs.terms.term_line.Goals as goal

-- a text behind a line of three parts
told_behind : (whole line told name word reason own : List ℕ) (steps count : ℕ) → whole ≡ line ++ told
    → line ≡ name ++ (word ++ (decimal steps ++ 10 ∷ []))
    → told ≡ reason → name ≡ own → steps ≡ count → whole ≡ own ++ (word ++ (decimal count ++ 10 ∷ reason))
told_behind whole line told name word reason own steps count put is same named counted =
    put ∙ ap (λ l. l ++ told) is ∙ append_assoc name (word ++ (decimal steps ++ 10 ∷ [])) told
    ∙ ap (λ l. name ++ l) (append_assoc word (decimal steps ++ 10 ∷ []) told ∙ ap (λ l. word ++ l) (append_assoc (decimal steps) (10 ∷ []) told))
    ∙ ap (λ l. name ++ (word ++ (decimal steps ++ 10 ∷ l))) same ∙ ap (λ l. l ++ (word ++ (decimal steps ++ 10 ∷ reason))) named
    ∙ ap (λ n. own ++ (word ++ (decimal n ++ 10 ∷ reason))) counted

pub returns : goal.returns
returns c = record {
  word = c.runs_word-runs.result.now;
  runs = c.runs_word-runs.ensures;
  told = string_bytes c.in_ok-reason.reason;
  reason = c.in_ok-reason.ensures;
  is = told_behind (string_bytes c.push_str.new.self) (string_bytes c.in_ok-line.line) c.as_str.result.now
      c.name-name.result.now c.runs_word-runs.result.now
      (string_bytes c.in_ok-reason.reason) _ c.steps_at_most-steps.result (steps_in (rule_sets_of c.args.program.now) c.args.term.0)
      c.in_ok-push_str.ensures.bytes c.in_ok-line.ensures.ok c.as_str.ensures.value c.name-name.ensures c.steps_at_most-steps.ensures;
}
