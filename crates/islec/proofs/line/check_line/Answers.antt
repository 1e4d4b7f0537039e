use Rattle.std.proofs.Common.{◌≡◌, inr, refl, sym, ◌∙◌, codes}
use Rattle.std.specs.Str.Parse.{ExplainsUnsignedError, HasUnsignedDigitsIfOk, ParsesUnsigned}
use Rattle.clap.specs.Words.{found_of, rows_of}
use Rattle.clap.proofs.WalkLemmas.{one_text-rows}
use Rattle.islec.specs.Lines.{judging_in, judging_of}
use Rattle.islec.proofs.ValueLemmas.{check_explain, check_files, check_missing, check_partial, check_terms, check_warn, files_read, flag_reads, steps_are}
use Rattle.islec.proofs.line.check_line.Goals as goal

pub returns-in-Ok-clause-files : goal.returns-in-Ok-clause-files
returns-in-Ok-clause-files c =
    let found = found_of c.args.matches.now in
    let files = check_files (rows_of found) c.requires in
    let read = files_read found files.0 c.get_strs.result _ c.unwrap_or.result c.in_ok-files.files files.1
    c.get_strs.ensures c.unwrap_or.ensures c.in_ok-files.ensures in
    rw read.1 files.2

pub returns-in-Err-clause-misused : goal.returns-in-Err-clause-misused
returns-in-Err-clause-misused c =
    let found = found_of c.args.matches.now in
    let rows = rows_of found in
    let missing = flag_reads _ c.get_flag-missing.result (check_missing rows c.requires)
    (λ e. c.get_flag-missing.ensures.value (one_text-rows found (codes "missing") ∙ e))
    (λ e. c.get_flag-missing.ensures.other (one_text-rows found (codes "missing") ∙ e)) in
    let partial = flag_reads _ c.get_flag-partial.result (check_partial rows c.requires)
    (λ e. c.get_flag-partial.ensures.value (one_text-rows found (codes "partial") ∙ e))
    (λ e. c.get_flag-partial.ensures.other (one_text-rows found (codes "partial") ∙ e)) in
    let steps = steps_are found
    (λ bs r. ParsesUnsigned 64 10 bs r × ExplainsUnsignedError 10 bs r × HasUnsignedDigitsIfOk bs r)
    c.get_one-steps.result c.requires c.get_one-steps.ensures.none c.get_one-steps.ensures.value (λ u x g. g.0) in
    let all : judging_in rows ≡ judging_of c.get_flag-missing.result c.get_flag-partial.result c.get_one-steps.result =
    (λ i. judging_of (missing i) (partial i) (steps i)) in
    inr (refl, all ∙ sym c.judging_of.ensures ∙ c.in-Err.is)

pub returns-in-Ok-clause-says : goal.returns-in-Ok-clause-says
returns-in-Ok-clause-says c =
    let found = found_of c.args.matches.now in
    let rows = rows_of found in
    let files = check_files rows c.requires in
    let read = files_read found files.0 c.get_strs.result _ c.unwrap_or.result c.in_ok-files.files files.1
    c.get_strs.ensures c.unwrap_or.ensures c.in_ok-files.ensures in
    let terms = flag_reads _ c.get_flag-terms.result (check_terms rows c.requires)
    (λ e. c.get_flag-terms.ensures.value (one_text-rows found (codes "terms") ∙ e))
    (λ e. c.get_flag-terms.ensures.other (one_text-rows found (codes "terms") ∙ e)) in
    let warn = flag_reads _ c.get_flag-warn.result (check_warn rows c.requires)
    (λ e. c.get_flag-warn.ensures.value (one_text-rows found (codes "warn") ∙ e))
    (λ e. c.get_flag-warn.ensures.other (one_text-rows found (codes "warn") ∙ e)) in
    let explain = flag_reads _ c.get_flag-explain.result (check_explain rows c.requires)
    (λ e. c.get_flag-explain.ensures.value (one_text-rows found (codes "explain") ∙ e))
    (λ e. c.get_flag-explain.ensures.other (one_text-rows found (codes "explain") ∙ e)) in
    let missing = flag_reads _ c.get_flag-missing.result (check_missing rows c.requires)
    (λ e. c.get_flag-missing.ensures.value (one_text-rows found (codes "missing") ∙ e))
    (λ e. c.get_flag-missing.ensures.other (one_text-rows found (codes "missing") ∙ e)) in
    let partial = flag_reads _ c.get_flag-partial.result (check_partial rows c.requires)
    (λ e. c.get_flag-partial.ensures.value (one_text-rows found (codes "partial") ∙ e))
    (λ e. c.get_flag-partial.ensures.other (one_text-rows found (codes "partial") ∙ e)) in
    let steps = steps_are found
    (λ bs r. ParsesUnsigned 64 10 bs r × ExplainsUnsignedError 10 bs r × HasUnsignedDigitsIfOk bs r)
    c.get_one-steps.result c.requires c.get_one-steps.ensures.none c.get_one-steps.ensures.value (λ u x g. g.0) in
    let all : judging_in rows ≡ judging_of c.get_flag-missing.result c.get_flag-partial.result c.get_one-steps.result =
    (λ i. judging_of (missing i) (partial i) (steps i)) in
    record {
      job = (refl, terms, warn, explain, all ∙ sym c.judging_of.ensures ∙ c.in-Ok.is);
      files = read.0;
      world = refl;
    }
