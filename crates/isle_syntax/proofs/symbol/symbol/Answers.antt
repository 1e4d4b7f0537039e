use Rattle.std.proofs.Common.{length, ap, sym, subst, ◌∙◌, ◌≡◌, ◌<◌, ◌-◌, ℕ, false, take, drop, arith}
use Rattle.std.specs.Str.{IsUtf8}
use Rattle.std.proofs.lemmas.Str.{IsCharBoundary-from_drop}
use Rattle.std.proofs.lemmas.Bool.Decides.{nat_tests}
use Rattle.isle_syntax.specs.Tokens.Gaps.{after_run}
use Rattle.isle_syntax.specs.Tokens.TokensOf.{continues_symbol}
use Rattle.isle_syntax.proofs.Tokens.Runs.{after_run-le, run_taken, run_dropped}
use Rattle.isle_syntax.proofs.Tokens.Cuts.{stopped-utf8}
use Rattle.isle_syntax.proofs.symbol.symbol.Goals as goal

stop_ascii : (b : ℕ) → continues_symbol b ≡ false → b < 128
stop_ascii b e = grind (arith, nat_tests)

pub overflow_sub-text : goal.overflow_sub-text
overflow_sub-text c = omega (
  arith,
  after_run-le continues_symbol c.args.text.now,
  ap length (c.after_symbol-rest.ensures
      ∙ ap (after_run continues_symbol) c.as_bytes.ensures.value),
)

pub split_at-requires : goal.split_at-requires
split_at-requires c =
    let text = c.args.text.now in
    let n = length text - length c.after_symbol-rest.result.now in
    let tail : drop n text ≡ after_run continues_symbol text =
    ap (λ r. drop (length text - length r) text) (c.after_symbol-rest.ensures ∙ ap (after_run continues_symbol) c.as_bytes.ensures.value)
    ∙ run_dropped continues_symbol text in
    IsCharBoundary-from_drop text n (omega arith) (subst IsUtf8 (sym tail) (stopped-utf8 continues_symbol text stop_ascii c.utf8.text))

pub returns-clause-word : goal.returns-clause-word
returns-clause-word c =
    let text = c.args.text.now in
    c.split_at.ensures.front ∙ ap (λ r. take (length text - length r) text) (c.after_symbol-rest.ensures
    ∙ ap (after_run continues_symbol) c.as_bytes.ensures.value) ∙ run_taken continues_symbol text

pub returns-clause-rest : goal.returns-clause-rest
returns-clause-rest c =
    let text = c.args.text.now in
    c.split_at.ensures.back ∙ ap (λ r. drop (length text - length r) text) (c.after_symbol-rest.ensures
    ∙ ap (after_run continues_symbol) c.as_bytes.ensures.value) ∙ run_dropped continues_symbol text
