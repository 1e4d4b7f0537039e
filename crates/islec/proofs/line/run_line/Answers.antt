use Rattle.std.proofs.Common.{ap, sym, refl, ◌∙◌, Some, codes, option_map, string_bytes}
use Rattle.std.specs.Str.Parse.{ExplainsUnsignedError, HasUnsignedDigitsIfOk, ParsesUnsigned}
use Rattle.clap.specs.Words.{found_of, rows_of}
use Rattle.clap.proofs.WalkLemmas.{first_value-rows, one_text-rows}
use Rattle.islec.proofs.ValueLemmas.{depth_is, files_read, flag_reads, has_depth, run_coverage, run_explain, run_files, run_plain, run_steps, run_trace, run_unanswered}
use Rattle.islec.proofs.line.run_line.Goals.{in-Some-get_str+in_ok-from_str-in-Some-get_str, in-None}
use Rattle.islec.proofs.line.run_line.Goals as goal

pub unreachable-requires : goal.unreachable-requires
unreachable-requires c =
    let found = found_of c.args.matches.now in
    let depth = depth_is found
    (λ bs r. ParsesUnsigned 32 10 bs r × ExplainsUnsignedError 10 bs r × HasUnsignedDigitsIfOk bs r)
    c.get_one.result c.requires c.get_one.ensures.value (λ u x g. g.0) in
    has_depth (rows_of found) c.requires (depth ∙ c.in_default.is)

pub returns-clause-files : goal.returns-clause-files
returns-clause-files c =
    let found = found_of c.args.matches.now in
    let files = run_files (rows_of found) c.requires in
    let read = files_read found files.0 c.get_strs.result _ c.unwrap_or.result c.in_ok-files.files files.1
    c.get_strs.ensures c.unwrap_or.ensures c.in_ok-files.ensures in
    rw read.1 files.2

pub returns-clause-says : goal.returns-clause-says
returns-clause-says c =
    let found = found_of c.args.matches.now in
    let depth = depth_is found
    (λ bs r. ParsesUnsigned 32 10 bs r × ExplainsUnsignedError 10 bs r × HasUnsignedDigitsIfOk bs r)
    c.get_one.result c.requires c.get_one.ensures.value (λ u x g. g.0) in
    let files = run_files (rows_of found) c.requires in
    let read = files_read found files.0 c.get_strs.result _ c.unwrap_or.result c.in_ok-files.files files.1
    c.get_strs.ensures c.unwrap_or.ensures c.in_ok-files.ensures in
    let plain = one_text-rows found (codes "plain") in
    let steps = one_text-rows found (codes "steps") in
    let trace = one_text-rows found (codes "trace") in
    let coverage = one_text-rows found (codes "coverage") in
    let unanswered = one_text-rows found (codes "unanswered") in
    let explain = one_text-rows found (codes "explain") in
    record {
      job = (
        refl,
        depth ∙ c.in-Some.is,
        flag_reads _ c.get_flag-plain.result (run_plain (rows_of found) c.requires) (λ e. c.get_flag-plain.ensures.value (plain ∙ e))
            (λ e. c.get_flag-plain.ensures.other (plain ∙ e)),
        flag_reads _ c.get_flag-steps.result (run_steps (rows_of found) c.requires) (λ e. c.get_flag-steps.ensures.value (steps ∙ e))
            (λ e. c.get_flag-steps.ensures.other (steps ∙ e)),
        flag_reads _ c.get_flag-trace.result (run_trace (rows_of found) c.requires) (λ e. c.get_flag-trace.ensures.value (trace ∙ e))
            (λ e. c.get_flag-trace.ensures.other (trace ∙ e)),
        flag_reads _ c.get_flag-coverage.result (run_coverage (rows_of found) c.requires) (λ e. c.get_flag-coverage.ensures.value (coverage ∙ e))
            (λ e. c.get_flag-coverage.ensures.other (coverage ∙ e)),
        flag_reads _ c.get_flag-unanswered.result (run_unanswered (rows_of found) c.requires)
            (λ e. c.get_flag-unanswered.ensures.value (unanswered ∙ e)) (λ e. c.get_flag-unanswered.ensures.other (unanswered ∙ e)),
        flag_reads _ c.get_flag-explain.result (run_explain (rows_of found) c.requires) (λ e. c.get_flag-explain.ensures.value (explain ∙ e))
            (λ e. c.get_flag-explain.ensures.other (explain ∙ e)),
      );
      files = read.0;
      world = elim c.match-get_str.branch [
        | in-Some-get_str+in_ok-from_str-in-Some-get_str w ↦ ap (option_map string_bytes) w.world-is
            ∙ ap Some w.in_ok-from_str-in-Some-get_str.ensures.ok
            ∙ ap (option_map (λ s. s.now)) (sym w.in-Some-get_str.is) ∙ c.get_str.ensures ∙ first_value-rows found (codes "world")
        | in-None w ↦ ap (option_map string_bytes) w.world-is ∙ ap (option_map (λ s. s.now)) (sym w.in-None.is) ∙ c.get_str.ensures
            ∙ first_value-rows found (codes "world")
      ];
    }
