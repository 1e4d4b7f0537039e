use Rattle.std.proofs.Common.{◌≡◌, inl, refl, sym, ap, ◌∙◌, codes, Bool, List, [], Option, map, string_bytes, String, unwrap_or}
use Rattle.std.specs.Global.{Global}
use Rattle.std.specs.List.{list_any}
use Rattle.std.specs.Str.{bytes_eq}
use Rattle.std.specs.Str.Parse.{ExplainsUnsignedError, HasUnsignedDigitsIfOk, ParsesUnsigned}
use Rattle.clap.specs.Walk.{Text}
use Rattle.clap.specs.Words.{found_of, rows_of}
use Rattle.clap.proofs.WalkLemmas.{one_text-rows}
use Rattle.isle_program.proofs.ProgramFacts.InhabitedMarks.{any_map}
use Rattle.islec.specs.Lines.{each_of, flag_of, has_input, misuse_in, misuse_of, names_of, output_of}
use Rattle.islec.proofs.ValueLemmas.{files_read, flag_reads, fmt_check, fmt_diff, fmt_files, fmt_keep, fmt_write, has_width, width_is}
use Rattle.islec.proofs.line.fmt_line.Goals as goal

pub unreachable-requires : goal.unreachable-requires
unreachable-requires c =
    let found = found_of c.args.matches.now in
    let width = width_is found
    (λ bs r. ParsesUnsigned 32 10 bs r × ExplainsUnsignedError 10 bs r × HasUnsignedDigitsIfOk bs r)
    c.get_one.result c.requires c.get_one.ensures.value (λ u x g. g.0) in
    has_width (rows_of found) c.requires (width ∙ c.in_default.is)

pub returns-clause-files : goal.returns-clause-files
returns-clause-files c =
    let found = found_of c.args.matches.now in
    let files = fmt_files (rows_of found) c.requires in
    let read = files_read found files.0 c.get_strs.result _ c.unwrap_or.result c.in_ok-files.files files.1
    c.get_strs.ensures c.unwrap_or.ensures c.in_ok-files.ensures in
    rw read.1 files.2

pub returns-in-Some-misuse_of-clause-misused : goal.returns-in-Some-misuse_of-clause-misused
returns-in-Some-misuse_of-clause-misused c =
    let found = found_of c.args.matches.now in
    let rows = rows_of found in
    let files = fmt_files rows c.requires in
    let read = files_read found files.0 c.get_strs.result _ c.unwrap_or.result c.in_ok-files.files files.1
    c.get_strs.ensures c.unwrap_or.ensures c.in_ok-files.ensures in
    let keep = flag_reads _ c.get_flag-keep.result (fmt_keep rows c.requires)
    (λ e. c.get_flag-keep.ensures.value (one_text-rows found (codes "keep") ∙ e))
    (λ e. c.get_flag-keep.ensures.other (one_text-rows found (codes "keep") ∙ e)) in
    let check = flag_reads _ c.get_flag-check.result (fmt_check rows c.requires)
    (λ e. c.get_flag-check.ensures.value (one_text-rows found (codes "check") ∙ e))
    (λ e. c.get_flag-check.ensures.other (one_text-rows found (codes "check") ∙ e)) in
    let diff = flag_reads _ c.get_flag-diff.result (fmt_diff rows c.requires)
    (λ e. c.get_flag-diff.ensures.value (one_text-rows found (codes "diff") ∙ e))
    (λ e. c.get_flag-diff.ensures.other (one_text-rows found (codes "diff") ∙ e)) in
    let write = flag_reads _ c.get_flag-write.result (fmt_write rows c.requires)
    (λ e. c.get_flag-write.ensures.value (one_text-rows found (codes "write") ∙ e))
    (λ e. c.get_flag-write.ensures.other (one_text-rows found (codes "write") ∙ e)) in
    let is_dash : Text → Bool = λ name. bytes_eq name (codes "-") in
    let named : each_of (codes "file") rows ≡ names_of c.in_ok-files.files = ap (λ (o : Option (List Text)). unwrap_or o []) read.0 in
    let input : has_input (each_of (codes "file") rows) ≡ c.has_input-input.result = ap has_input named
    ∙ any_map is_dash (string_bytes {Z = Global}) c.in_ok-files.files.items
    ∙ ap (λ (l : List (String Global)). list_any (λ (x : String Global). is_dash (string_bytes x)) l) (sym c.as_slice.ensures.value)
    ∙ sym c.has_input-input.ensures in
    let all : misuse_in rows ≡ misuse_of c.get_flag-keep.result c.get_flag-check.result c.get_flag-diff.result c.get_flag-write.result
    c.has_input-input.result = (λ i. misuse_of (keep i) (check i) (diff i) (write i) (input i)) in
    inl (refl, all ∙ sym c.misuse_of.ensures ∙ c.in-Some-misuse_of.is)

pub returns-clause-says : goal.returns-clause-says
returns-clause-says c =
    let found = found_of c.args.matches.now in
    let rows = rows_of found in
    let width = width_is found
    (λ bs r. ParsesUnsigned 32 10 bs r × ExplainsUnsignedError 10 bs r × HasUnsignedDigitsIfOk bs r)
    c.get_one.result c.requires c.get_one.ensures.value (λ u x g. g.0) in
    let files = fmt_files rows c.requires in
    let read = files_read found files.0 c.get_strs.result _ c.unwrap_or.result c.in_ok-files.files files.1
    c.get_strs.ensures c.unwrap_or.ensures c.in_ok-files.ensures in
    let keep = flag_reads _ c.get_flag-keep.result (fmt_keep rows c.requires)
    (λ e. c.get_flag-keep.ensures.value (one_text-rows found (codes "keep") ∙ e))
    (λ e. c.get_flag-keep.ensures.other (one_text-rows found (codes "keep") ∙ e)) in
    let check = flag_reads _ c.get_flag-check.result (fmt_check rows c.requires)
    (λ e. c.get_flag-check.ensures.value (one_text-rows found (codes "check") ∙ e))
    (λ e. c.get_flag-check.ensures.other (one_text-rows found (codes "check") ∙ e)) in
    let diff = flag_reads _ c.get_flag-diff.result (fmt_diff rows c.requires)
    (λ e. c.get_flag-diff.ensures.value (one_text-rows found (codes "diff") ∙ e))
    (λ e. c.get_flag-diff.ensures.other (one_text-rows found (codes "diff") ∙ e)) in
    let write = flag_reads _ c.get_flag-write.result (fmt_write rows c.requires)
    (λ e. c.get_flag-write.ensures.value (one_text-rows found (codes "write") ∙ e))
    (λ e. c.get_flag-write.ensures.other (one_text-rows found (codes "write") ∙ e)) in
    let is_dash : Text → Bool = λ name. bytes_eq name (codes "-") in
    let named : each_of (codes "file") rows ≡ names_of c.in_ok-files.files = ap (λ (o : Option (List Text)). unwrap_or o []) read.0 in
    let input : has_input (each_of (codes "file") rows) ≡ c.has_input-input.result = ap has_input named
    ∙ any_map is_dash (string_bytes {Z = Global}) c.in_ok-files.files.items
    ∙ ap (λ (l : List (String Global)). list_any (λ (x : String Global). is_dash (string_bytes x)) l) (sym c.as_slice.ensures.value)
    ∙ sym c.has_input-input.ensures in
    let all : misuse_in rows ≡ misuse_of c.get_flag-keep.result c.get_flag-check.result c.get_flag-diff.result c.get_flag-write.result
    c.has_input-input.result = (λ i. misuse_of (keep i) (check i) (diff i) (write i) (input i)) in
    let output : output_of (flag_of (codes "check") rows) (flag_of (codes "diff") rows) (flag_of (codes "write") rows)
    ≡ output_of c.get_flag-check.result c.get_flag-diff.result c.get_flag-write.result = (λ i. output_of (check i) (diff i) (write i)) in
    record {
      job = (
        refl,
        width ∙ c.in-Some.is,
        keep,
        output ∙ sym c.output_of-output.ensures,
        all ∙ sym c.misuse_of.ensures ∙ c.in_default-misuse_of.is,
      );
      files = read.0;
      world = refl;
    }
