use Rattle.std.proofs.Common.{false, ◌≡◌, ◌∙◌, ap, sym, subst, string_bytes, IfOk, rules}
use Rattle.isle_layout.specs.Keeping.Pieces.{pieces_of}
use Rattle.isle_layout.specs.Keeping.LaidOut.{laid_out, texts_of}
use Rattle.isle_layout.specs.Keeping.TokenValues.{HasTokens}
use Rattle.isle_layout.specs.Keeping.LineEnds.{ends_clean, is_spaced, IsEnded}
use Rattle.isle_layout.proofs.Keeping.CleanLines.{laid_out_clean, laid_out_spaced, laid_out_ended}
use Rattle.isle_layout.proofs.Keeping.SameTokens.{same_tokens}
use Rattle.isle_layout.proofs.Keeping.Settling.{same_texts, laid_out_twice, ok_then}
use Rattle.isle_layout.proofs.layout.lay_out.Goals as goal

is_laid_out : (c : goal.After-drop-pieces-2) → IfOk c.write_pieces.result (λ out. string_bytes out ≡ laid_out c.args.width c.args.text.now)
is_laid_out c = search rules

pub returns-clause-same : goal.returns-clause-same
returns-clause-same c =
    ok_then c.write_pieces.result (λ out. string_bytes out ≡ laid_out c.args.width c.args.text.now) _ (is_laid_out c)
    (λ out e. ap texts_of e ∙ same_texts c.args.width c.args.text.now)

pub returns-clause-settled : goal.returns-clause-settled
returns-clause-settled c =
    ok_then c.write_pieces.result (λ out. string_bytes out ≡ laid_out c.args.width c.args.text.now) _ (is_laid_out c)
    (λ out e. ap (laid_out c.args.width) e ∙ laid_out_twice c.args.width c.args.text.now ∙ sym e)

pub returns-clause-tokens : goal.returns-clause-tokens
returns-clause-tokens c =
    ok_then c.write_pieces.result (λ out. string_bytes out ≡ laid_out c.args.width c.args.text.now) _ (is_laid_out c)
    (λ out e tokens h. subst (λ text. HasTokens text tokens) (sym e) (same_tokens c.args.width tokens h))

pub returns-clause-clean : goal.returns-clause-clean
returns-clause-clean c =
    ok_then c.write_pieces.result (λ out. string_bytes out ≡ laid_out c.args.width c.args.text.now) _ (is_laid_out c)
    (λ out e. ap (ends_clean false) e ∙ laid_out_clean c.args.width c.args.text.now)

pub returns-clause-spaced : goal.returns-clause-spaced
returns-clause-spaced c =
    ok_then c.write_pieces.result (λ out. string_bytes out ≡ laid_out c.args.width c.args.text.now) _ (is_laid_out c)
    (λ out e h. ap (is_spaced 0) e ∙ laid_out_spaced c.args.width c.args.text.now h)

pub returns-clause-ends : goal.returns-clause-ends
returns-clause-ends c =
    ok_then c.write_pieces.result (λ out. string_bytes out ≡ laid_out c.args.width c.args.text.now) _ (is_laid_out c)
    (λ out e. subst (IsEnded (pieces_of c.args.text.now)) (sym e) (laid_out_ended c.args.width c.args.text.now))
