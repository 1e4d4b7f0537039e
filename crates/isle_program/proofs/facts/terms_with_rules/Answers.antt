use Rattle.std.proofs.Common.{◌≡◌, Vec, ℕ, List, Bool, true, false, map, get_or, sym, ap, ◌∙◌}
use Rattle.std.specs.Global.{Global}
use Rattle.std.proofs.lemmas.Result.{IfOk-weaker}
use Rattle.isle_types.specs.declared.ids.TermId.{TermId}
use Rattle.isle_blocks.specs.Inside.Building.Contents.{Marked}
use Rattle.isle_blocks.specs.DefinedSets.{ListsNumbers}
use Rattle.isle_blocks.proofs.Sets.ListedNumbers.{numbers_same}
use Rattle.isle_program.specs.Facts.Asked.{term_number, AreRoots}
use Rattle.isle_program.specs.Facts.Reach.{is_root}
use Rattle.isle_program.proofs.ProgramFacts.ListedTerms.{are_roots}
use Rattle.isle_program.proofs.facts.terms_with_rules.Goals as goal

pub returns : goal.returns
returns c =
    let env = c.args.termenv.now in let marks = c.as_slice.result.now in
    let is = λ (n : ℕ). ap (λ (l : List Bool). get_or l n false) c.as_slice.ensures.value ∙ c.in_ok-marks.ensures n in
    IfOk-weaker c.marked_terms.result (λ (terms : Vec TermId Global). ListsNumbers (Marked marks) (map term_number terms.items))
    (λ (terms : Vec TermId Global). AreRoots env terms.items)
    (λ terms lists. are_roots env terms.items (numbers_same (Marked marks) (λ n. is_root env n ≡ true) (map term_number terms.items)
    (λ n marked. sym (is n) ∙ marked) (λ n root. is n ∙ root) lists)) c.marked_terms.ensures
