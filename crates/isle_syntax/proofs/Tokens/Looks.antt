-- What a lexer finds next, against the tokens of what it reads.
use Rattle.std.proofs.Common.{◌≡◌, ℕ, ◌-◌, List, [], length, Bool, true, false, sym, ap, subst, ◌∙◌}
use Rattle.isle_syntax.specs.declared.gap.Lead.{Lead}
use Rattle.isle_ast.specs.declared.pos.Pos.{Pos}
use Rattle.isle_syntax.specs.declared.lexer.Token.{Token}
use Rattle.isle_syntax.specs.declared.lexer.Token.TheVariants.{Symbol}
use Rattle.isle_syntax.specs.Tokens.RemainingTokens.{Source, next_pos}
use Rattle.isle_syntax.specs.Tokens.LexerCalls.{BeginsWithSymbol}
use Rattle.isle_syntax.specs.Tokens.Gaps.{lead_of, after_run, run_of}
use Rattle.isle_syntax.specs.Tokens.TokensOf.{continues_symbol}
use Rattle.isle_syntax.specs.Tokens.Finding.{gap_of, Next, nothing, fault, found, next_by, next_of, Reading, reading_before, reading_by, reading}
use Rattle.isle_syntax.proofs.Tokens.Findings.{reading_step, reading_behind}

abbrev at_offset : Source → ℕ → Pos
at_offset source start = record { file = source.file; offset = start }

abbrev stopped_at : Bool → ℕ → Reading
stopped_at clean end = record { left = []; end = end; clean = clean }

module _ (source : Source) (rest text : List ℕ) (start : ℕ) (behind : text ≡ gap_of rest) (at : start ≡ source.size - length text) where
  -- what is read of a text, by what stands behind its gap
  looked : (next : Next) → next_of text ≡ next → reading source rest ≡ reading_by source (reading source) text next
  looked next e =
      reading_step source rest ∙ sym (ap (λ r. reading_by source (reading source) r (next_of r)) behind)
      ∙ ap (reading_by source (reading source) text) e

  pub looked_found : (t : Token) (more : List ℕ) → next_of text ≡ found t more
      → reading_before (at_offset source start) t (reading source more) ≡ reading source rest
  looked_found t more e = ap (λ n. reading_before (at_offset source n) t (reading source more)) at ∙ sym (looked (found t more) e)

  pub looked_nothing : next_of text ≡ nothing → stopped_at true start ≡ reading source rest
  looked_nothing e = ap (stopped_at true) at ∙ sym (looked nothing e)

  pub looked_fault : next_of text ≡ fault → stopped_at false start ≡ reading source rest
  looked_fault e = ap (stopped_at false) at ∙ sym (looked fault e)

  pub looked_no_further : reading source text ≡ reading source rest
  looked_no_further = ap (reading source) behind ∙ reading_behind source rest

  -- a symbol stands next
  word_next : lead_of text ≡ Lead.Word
      → reading source text ≡ reading_before (at_offset source start) (Symbol (run_of continues_symbol text))
      (reading source (after_run continues_symbol text))
  word_next e =
      looked_no_further ∙ looked (found (Symbol (run_of continues_symbol text)) (after_run continues_symbol text)) (ap (λ k. next_by k text) e)
      ∙ sym (ap (λ n. reading_before (at_offset source n) (Symbol (run_of continues_symbol text)) (reading source (after_run continues_symbol text)))
      at)

  pub word_begins : lead_of text ≡ Lead.Word → next_pos source (reading source text).end (reading source text).left ≡ at_offset source start
  word_begins e = ap (λ r. next_pos source r.end r.left) (word_next e)

  pub word_stands : lead_of text ≡ Lead.Word → BeginsWithSymbol (reading source text).left
  word_stands e = subst (λ (r : Reading). BeginsWithSymbol r.left) (sym (word_next e)) tt
