use Rattle.std.proofs.Common.{◌++◌, ◌∙◌, ap, arith}
use Rattle.std.specs.Prelude.{string_bytes}
use Rattle.isle_tell.proofs.TreeTexts.Joined.{sites_next}
use Rattle.isle_tell.proofs.trees.sites.sites_text.Goals as goal

pub loop-place-preserved : goal.loop-place-preserved
loop-place-preserved c =
    sites_next c.args.program.now c.args.sites.now c.loop-place.place c.index-sites-place.result
    (omega (arith, c.loop-place-test.true)) c.index-sites-place.is
    (string_bytes c.loop-place.text) (string_bytes c.push_str.new.self) c.loop-place.invariant
    (c.in_ok-push_str.ensures.bytes ∙ ap (λ l. string_bytes c.loop-place.text ++ l) (c.as_str.ensures.value ∙ c.in_ok-line.ensures))
