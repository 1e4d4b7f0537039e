-- Worked cases: how commands of words that are written out may end.
use Rattle.std.proofs.Common.{◌≡◌, ◌∷◌, ◌∙◌, ℕ, List, [], Option, Some, None, inl, inr, refl, sym, ap, subst, Bool, true, false, true≢false, map, option_map, codes, string_bytes, bytes_eq}
use Rattle.std.proofs.lemmas.Option.{same_Some}
use Rattle.std.specs.Global.{Global}
use Rattle.std.specs.Prelude.{String, Vec}
use Rattle.clap.specs.Words.{IsAmong, Row, Text, all_of, fault_of, first_of, kind_of, subcommand_of}
use Rattle.clap.specs.declared.error.kind.ErrorKind.{ErrorKind}
use Rattle.clap.specs.declared.error.kind.ErrorKind.TheVariants as kind
use Rattle.clap.proofs.OnLiterals.{clap_on_literals}
use Rattle.isle_ast.specs.Positions.Files.{SourceFile}
use Rattle.islec.specs.declared.answer.Manner.{Manner}
use Rattle.islec.specs.Commands.{islec}
use Rattle.islec.specs.Endings.{EndsJob, EndsCommand, IsWorld, done, told}
use Rattle.islec.specs.Inputs.{Readings}
use Rattle.islec.specs.Lines.{ReadsLine, SaysJob, names_of, world_of}
use Rattle.islec.specs.Statuses.{code_of}
use Rattle.islec.specs.declared.format.Printing.{Printing}
use Rattle.islec.specs.declared.line.Job.{Job}
use Rattle.islec.specs.declared.line.Line.{Line}
use Rattle.islec.specs.declared.line.Job.TheVariants.{Run, Check, Blocks, Fmt}
use Rattle.islec.specs.declared.program.Unbegun.TheVariants.{Usage, Misused, NotText, CannotRead, Memory}
use Rattle.islec.specs.declared.status.Status.TheVariants as status
use Rattle.islec.specs.declared.terms.Telling.{Telling}
use Rattle.islec.proofs.CommandCases.{run_words, run_files, run_name, run_world}

-- ---- statuses of jobs

no_check_is_refused_a_query : (telling : Telling) (files : List SourceFile) (world : SourceFile) (input left old new : Option (List ℕ))
    (before after : Option (List SourceFile)) → EndsJob (Check telling) files world input left old new before after status.SomeRefused → ⊥
no_check_is_refused_a_query telling files world input left old new before after ends = ends.0

no_print_is_refused_a_query : (printing : Printing) (files : List SourceFile) (world : SourceFile) (input left old new : Option (List ℕ))
    (before after : Option (List SourceFile)) → EndsJob (Fmt printing) files world input left old new before after status.SomeRefused → ⊥
no_print_is_refused_a_query printing files world input left old new before after ends = ends.0

no_tree_is_refused_a_query : (terms : Vec (String Global) Global) (dot : Bool) (files : List SourceFile) (world : SourceFile)
    (input left old new : Option (List ℕ)) (before after : Option (List SourceFile))
    → EndsJob (Blocks terms dot) files world input left old new before after status.SomeRefused → ⊥
no_tree_is_refused_a_query terms dot files world input left old new before after ends = ends.0

no_run_is_refused_its_words : (manner : Manner) (files : List SourceFile) (world : SourceFile) (input left old new : Option (List ℕ))
    (before after : Option (List SourceFile)) → EndsJob (Run manner) files world input left old new before after status.Usage → ⊥
no_run_is_refused_its_words manner files world input left old new before after ends = ends.0

-- ---- worlds

no_world_is_empty : (gives : Readings) → IsWorld gives None (record { name = codes "world"; text = [] })
no_world_is_empty gives = refl

no_world_has_no_text : (gives : Readings) → IsWorld gives None (record { name = codes "world"; text = codes "(" }) → ⊥
no_world_has_no_text gives is = let wrong = ap (λ (file : SourceFile). file.text) is in absurd cc

-- ---- no command: it never ends well

abbrev alone : List Text
alone = codes "islec" ∷ []

alone_lacks_a_command : fault_of islec alone ≡ kind.MissingSubcommand ∷ []
unfolding clap_on_literals
alone_lacks_a_command = refl

lacks_only_that : (k : ErrorKind) → IsAmong k (fault_of islec alone) → k ≡ kind.MissingSubcommand
lacks_only_that k among = only (subst (λ (ks : List ErrorKind). IsAmong k ks) alone_lacks_a_command among)
  where
    only : IsAmong k (kind.MissingSubcommand ∷ []) → k ≡ kind.MissingSubcommand
    only (inl is) = is
    only (inr never) = absurd never

alone_is_not_well : (gives : Readings) (input left old new : Option (List ℕ)) (before after : Option (List SourceFile))
    → EndsCommand gives alone input left old new before after 0 → ⊥
alone_is_not_well gives input left old new before after (done line reads files named world of middle inputs ended code ends) =
    let wrong = sym reads.taken ∙ alone_lacks_a_command in absurd cc
alone_is_not_well gives input left old new before after (told (Usage e) holds status.AllWell code (inl other) stays) = absurd cc
alone_is_not_well gives input left old new before after (told (Usage e) holds status.AllWell code (inr (inl (inl help, same))) stays) =
    let wrong = sym (lacks_only_that (kind_of e) holds) ∙ help in absurd cc
alone_is_not_well gives input left old new before after (told (Usage e) holds status.AllWell code (inr (inl (inr version, same))) stays) =
    let wrong = sym (lacks_only_that (kind_of e) holds) ∙ version in absurd cc
alone_is_not_well gives input left old new before after (told (Usage e) holds status.AllWell code (inr (inr (no_help, other))) stays) = absurd cc
alone_is_not_well gives input left old new before after (told (Usage e) holds status.TextsRefused code tells stays) = absurd cc
alone_is_not_well gives input left old new before after (told (Usage e) holds status.Usage code tells stays) = absurd cc
alone_is_not_well gives input left old new before after (told (Usage e) holds status.SomeRefused code tells stays) = absurd cc
alone_is_not_well gives input left old new before after (told (Usage e) holds status.InputOutput code tells stays) = absurd cc
alone_is_not_well gives input left old new before after (told (Usage e) holds status.OutOfMemory code tells stays) = absurd cc
alone_is_not_well gives input left old new before after (told (Misused m) holds ended code tells stays) =
    let wrong = sym holds.taken ∙ alone_lacks_a_command in absurd cc
alone_is_not_well gives input left old new before after (told NotText holds ended code tells stays) = absurd holds
alone_is_not_well gives input left old new before after (told (CannotRead name words) (line, reads, why) ended code tells stays) =
    let wrong = sym reads.taken ∙ alone_lacks_a_command in absurd cc
alone_is_not_well gives input left old new before after (told Memory holds ended code (same, wrote) stays) =
    let wrong = code ∙ ap code_of same in absurd cc

-- ---- a run of two files in a world, in the words of `CommandCases`: the files and the world have just these names

run_names_its_files : (line : Line) (files : List SourceFile) → ReadsLine run_words line → map (λ file. file.name) files ≡ names_of line.files
    → map (λ file. file.name) files ≡ codes "a.isle" ∷ codes "b.isle" ∷ []
run_names_its_files line files reads named =
    let found = sym (ap (option_map (λ p. all_of (codes "file") p.1)) reads.met) ∙ run_files in
    named ∙ same_Some _ _ (sym reads.says.files ∙ same_Some _ _ found)

world_is : (job : Job) (name : Text) (rows : List Row) → subcommand_of islec run_words ≡ Some (name, rows) → SaysJob name rows job
    → world_of job rows ≡ Some (codes "w.isle")
world_is (Run manner) name rows met says = same_Some _ _ (sym (ap (option_map (λ p. first_of (codes "world") p.1)) met) ∙ run_world)
world_is (Check telling) name rows met (named, flag, warned, explained, judged) =
    let is_run = same_Some _ _ (sym (ap (option_map (λ p. p.0)) met) ∙ run_name) in
    let wrong : true ≡ false = ap (λ (text : Text). bytes_eq text (codes "run")) (sym is_run ∙ named) in
    absurd (true≢false wrong)
world_is (Blocks terms dot) name rows met (named, names, flag) =
    let is_run = same_Some _ _ (sym (ap (option_map (λ p. p.0)) met) ∙ run_name) in
    let wrong : true ≡ false = ap (λ (text : Text). bytes_eq text (codes "run")) (sym is_run ∙ named) in
    absurd (true≢false wrong)
world_is (Fmt printing) name rows met (named, number, keep, output, fits) =
    let is_run = same_Some _ _ (sym (ap (option_map (λ p. p.0)) met) ∙ run_name) in
    let wrong : true ≡ false = ap (λ (text : Text). bytes_eq text (codes "run")) (sym is_run ∙ named) in
    absurd (true≢false wrong)

has_name : (gives : Readings) (world : Option (String Global)) (file : SourceFile) → option_map string_bytes world ≡ Some (codes "w.isle")
    → IsWorld gives world file
    → file.name ≡ codes "w.isle"
has_name gives None file none is = absurd cc
has_name gives (Some name) file some (is, given) = is ∙ same_Some _ _ some

run_names_its_world : (gives : Readings) (line : Line) (file : SourceFile) → ReadsLine run_words line → IsWorld gives line.world file
    → file.name ≡ codes "w.isle"
run_names_its_world gives line file reads is =
    has_name gives line.world file (reads.says.world ∙ world_is line.job reads.name reads.rows reads.met reads.says.job) is
