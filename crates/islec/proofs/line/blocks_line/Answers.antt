use Rattle.std.proofs.Common.{refl, ◌∙◌, codes}
use Rattle.clap.specs.Words.{found_of, rows_of}
use Rattle.clap.proofs.WalkLemmas.{one_text-rows}
use Rattle.islec.proofs.ValueLemmas.{blocks_dot, blocks_files, files_read, flag_reads, names_read}
use Rattle.islec.proofs.line.blocks_line.Goals as goal

pub returns-clause-files : goal.returns-clause-files
returns-clause-files c =
    let found = found_of c.args.matches.now in
    let files = blocks_files (rows_of found) c.requires in
    let read = files_read found files.0 c.get_strs.result _ c.unwrap_or.result c.in_ok-files.files files.1
    c.get_strs.ensures c.unwrap_or.ensures c.in_ok-files.ensures in
    rw read.1 files.2

pub returns-clause-says : goal.returns-clause-says
returns-clause-says c =
    let found = found_of c.args.matches.now in
    let files = blocks_files (rows_of found) c.requires in
    let read = files_read found files.0 c.get_strs.result _ c.unwrap_or.result c.in_ok-files.files files.1
    c.get_strs.ensures c.unwrap_or.ensures c.in_ok-files.ensures in
    let dot = one_text-rows found (codes "dot") in
    record {
      job = (
        refl,
        names_read found (codes "term") c.get_strs-2.result _ c.unwrap_or-2.result c.in_ok-terms.terms refl c.get_strs-2.ensures c.unwrap_or-2.ensures
            c.in_ok-terms.ensures,
        flag_reads _ c.get_flag-dot.result (blocks_dot (rows_of found) c.requires) (λ e. c.get_flag-dot.ensures.value (dot ∙ e))
            (λ e. c.get_flag-dot.ensures.other (dot ∙ e)),
      );
      files = read.0;
      world = refl;
    }
