use Rattle.std.proofs.Common.{◌≡◌, ◌∙◌, ap}
use Rattle.std.proofs.lemmas.Result.{IfOk-weaker}
use Rattle.std.specs.Option.{option_copied}
use Rattle.isle_tell.specs.TreeTexts.DotSites.{cut, finished, outline, sources_at, way_end, way_words}
use Rattle.isle_tell.proofs.trees.paths.outline.Goals as goal

pub returns : goal.returns
returns c =
    let program = c.args.table.now.program.now in let types = c.args.table.now.types.now in let all = c.args.table.now.sites.now in
    let end : option_copied c.in_ok-words.end ≡ way_end all 12 c.args.site = c.in_ok-words.ensures.end in
    let words : c.as_str.result.now ≡ way_words program types all 12 c.args.site = c.as_str.ensures.value ∙ c.in_ok-words.ensures.words in
    let parts : c.cut-parts.result.now ≡ cut (sources_at (way_end all 12 c.args.site)) =
    c.cut-parts.ensures ∙ ap cut (c.sources_at.ensures ∙ ap sources_at end) in
    let same : finished program c.as_str.result.now c.cut-parts.result.now (option_copied c.in_ok-words.end) ≡ outline program types all c.args.site =
    λ i. finished program (words i) (parts i) (end i) in
    IfOk-weaker c.finished.result _ _ (λ text is. is ∙ same) c.finished.ensures
