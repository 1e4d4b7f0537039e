use Rattle.std.proofs.Common.{◌∙◌, sym, ap}
use Rattle.std.proofs.lemmas.Option.{same_Some}
use Rattle.isle_ast.specs.declared.ast.Extractor.{Extractor as ExtractorTree}
use Rattle.isle_terms.proofs.Collections.ExtractorGraphs.{lent_at}
use Rattle.isle_terms.proofs.env.recursion.pos_at.Goals as goal

pub returns : goal.returns
returns c = λ extractor is.
    let here = lent_at c.args.extractors.now c.args.place c.index-extractors-place.result c.requires in
    ap (λ (tree : ExtractorTree). tree.pos) (same_Some _ extractor (sym here ∙ is))
