use Rattle.std.proofs.Common.{◌≡◌, ◌+◌, ◌++◌, ◌-◌, ◌∙◌, [], None, Some, ℕ, List, suc, ap, append_assoc, arith, codes, sym}
use Rattle.std.proofs.lemmas.List.{append-nil}
use Rattle.std.specs.Option.{option_copied}
use Rattle.std.specs.Prelude.{slice_get, string_bytes}
use Rattle.isle_tell.specs.TreeTexts.DotSites.{link_words, source_of, way_end, way_words}
use Rattle.isle_tell.proofs.TreeTexts.DotWays.{last_end, last_words, missing_end, missing_words, next_end, next_words, spent_end, spent_words}
use Rattle.isle_tell.proofs.trees.paths.way.Goals as goal

-- what is written, where nothing follows
whole : (words rest all : List ℕ) → rest ≡ [] → words ++ rest ≡ all → words ≡ all
whole words rest all none was = sym (append-nil words) ∙ ap (λ (l : List ℕ). words ++ l) (sym none) ∙ was

pub returns-in_default-clause-words : goal.returns-in_default-clause-words
returns-in_default-clause-words c =
    let program = c.args.table.now.program.now in let types = c.args.table.now.types.now in let all = c.args.table.now.sites.now in
    let left : ℕ = 12 - (c.loop.counter + 1) in
    let more : 12 - c.loop.counter ≡ suc left = omega (arith, c.loop-test.true) in
    let none : slice_get all c.loop.at.0 ≡ None = sym c.site_at.ensures ∙ ap option_copied c.in_default.is in
    whole (string_bytes c.loop.words) _ _
    (ap (λ (n : ℕ). way_words program types all n c.loop.at) more ∙ missing_words program types all left c.loop.at none) c.loop.invariant.0

pub returns-in_default-clause-end : goal.returns-in_default-clause-end
returns-in_default-clause-end c =
    let program = c.args.table.now.program.now in let types = c.args.table.now.types.now in let all = c.args.table.now.sites.now in
    let left : ℕ = 12 - (c.loop.counter + 1) in
    let more : 12 - c.loop.counter ≡ suc left = omega (arith, c.loop-test.true) in
    let none : slice_get all c.loop.at.0 ≡ None = sym c.site_at.ensures ∙ ap option_copied c.in_default.is in
    sym (ap (λ (n : ℕ). way_end all n c.loop.at) more ∙ missing_end program types all left c.loop.at none) ∙ c.loop.invariant.1

pub returns-in_default-source_of-clause-words : goal.returns-in_default-source_of-clause-words
returns-in_default-source_of-clause-words c =
    let program = c.args.table.now.program.now in let types = c.args.table.now.types.now in let all = c.args.table.now.sites.now in
    let left : ℕ = 12 - (c.loop.counter + 1) in
    let more : 12 - c.loop.counter ≡ suc left = omega (arith, c.loop-test.true) in
    let found = c.in-Some.found.now in
    let some : slice_get all c.loop.at.0 ≡ Some found = sym c.site_at.ensures ∙ ap option_copied c.in-Some.is in
    let none : source_of found ≡ None = sym c.source_of.ensures ∙ c.in_default-source_of.is in
    whole (string_bytes c.loop.words) _ _
    (ap (λ (n : ℕ). way_words program types all n c.loop.at) more ∙ last_words program types all left c.loop.at found some none) c.loop.invariant.0

pub returns-in_default-source_of-clause-end : goal.returns-in_default-source_of-clause-end
returns-in_default-source_of-clause-end c =
    let program = c.args.table.now.program.now in let types = c.args.table.now.types.now in let all = c.args.table.now.sites.now in
    let left : ℕ = 12 - (c.loop.counter + 1) in
    let more : 12 - c.loop.counter ≡ suc left = omega (arith, c.loop-test.true) in
    let found = c.in-Some.found.now in
    let some : slice_get all c.loop.at.0 ≡ Some found = sym c.site_at.ensures ∙ ap option_copied c.in-Some.is in
    let none : source_of found ≡ None = sym c.source_of.ensures ∙ c.in_default-source_of.is in
    sym (ap (λ (n : ℕ). way_end all n c.loop.at) more ∙ last_end program types all left c.loop.at found some none) ∙ c.loop.invariant.1

pub loop-preserved : goal.loop-preserved
loop-preserved c =
    let program = c.args.table.now.program.now in let types = c.args.table.now.types.now in let all = c.args.table.now.sites.now in
    let left : ℕ = 12 - (c.loop.counter + 1) in
    let more : 12 - c.loop.counter ≡ suc left = omega (arith, c.loop-test.true) in
    let found = c.in-Some.found.now in
    let source = c.in-Some-source_of.source in
    let some : slice_get all c.loop.at.0 ≡ Some found = sym c.site_at.ensures ∙ ap option_copied c.in-Some.is in
    let goes : source_of found ≡ Some source = sym c.source_of.ensures ∙ c.in-Some-source_of.is in
    let words : List ℕ = string_bytes c.loop.words in
    let link : List ℕ = link_words program types found in
    let rest : List ℕ = way_words program types all left source in
    let written : string_bytes c.push_str-in-loop.new.self ≡ (words ++ link) ++ codes " of " =
    c.in_ok-push_str-2.ensures.bytes
    ∙ ap (λ (l : List ℕ). l ++ codes " of ")
    (c.in_ok-push_str.ensures.bytes ∙ ap (λ (l : List ℕ). words ++ l) (c.as_str.ensures.value ∙ c.in_ok-link.ensures)) in (
      ap (λ (l : List ℕ). l ++ rest) written
          ∙ append_assoc (words ++ link) (codes " of ") rest
          ∙ append_assoc words link (codes " of " ++ rest)
          ∙ ap (λ (l : List ℕ). words ++ l)
          (sym (ap (λ (n : ℕ). way_words program types all n c.loop.at) more ∙ next_words program types all left c.loop.at found some source goes))
          ∙ c.loop.invariant.0,
      sym (ap (λ (n : ℕ). way_end all n c.loop.at) more ∙ next_end program types all left c.loop.at found some source goes) ∙ c.loop.invariant.1,
    )

pub returns-clause-words : goal.returns-clause-words
returns-clause-words c =
    let program = c.args.table.now.program.now in let types = c.args.table.now.types.now in let all = c.args.table.now.sites.now in
    let over : 12 - c.loop.counter ≡ 0 = omega (arith, c.loop-test.false) in
    whole (string_bytes c.loop.words) _ _ (ap (λ (n : ℕ). way_words program types all n c.loop.at) over ∙ spent_words program types all c.loop.at)
    c.loop.invariant.0

pub returns-clause-end : goal.returns-clause-end
returns-clause-end c =
    let all = c.args.table.now.sites.now in
    let over : 12 - c.loop.counter ≡ 0 = omega (arith, c.loop-test.false) in
    sym (ap (λ (n : ℕ). way_end all n c.loop.at) over ∙ spent_end all c.loop.at) ∙ c.loop.invariant.1
