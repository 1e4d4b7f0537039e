-- What `islec` finds in words that are written out.
use Rattle.std.proofs.Common.{◌≡◌, refl, List, [], ◌∷◌, Some, None, true, false, codes, option_map}
use Rattle.clap.specs.Walk.{Text, all_of, first_of}
use Rattle.clap.specs.Words.{fault_of, subcommand_of}
use Rattle.clap.specs.declared.error.kind.ErrorKind.TheVariants as kind
use Rattle.clap.proofs.OnLiterals.{clap_on_literals}
use Rattle.islec.specs.Commands.{islec}
use Rattle.islec.specs.Lines.{each_of, flag_of, number_of}

-- a run of two files with a world and a depth
abbrev pub run_words : List Text
run_words = codes "islec" ∷ codes "run" ∷ codes "--world=w.isle" ∷ codes "--depth" ∷ codes "7" ∷ codes "a.isle" ∷ codes "b.isle" ∷ []

run_is_taken : fault_of islec run_words ≡ []
unfolding clap_on_literals
run_is_taken = refl

pub run_files : option_map (λ p. all_of (codes "file") p.1) (subcommand_of islec run_words) ≡ Some (Some (codes "a.isle" ∷ codes "b.isle" ∷ []))
unfolding clap_on_literals
run_files = refl

run_depth : option_map (λ p. number_of (codes "depth") p.1) (subcommand_of islec run_words) ≡ Some (Some 7)
unfolding clap_on_literals
run_depth = refl

pub run_name : option_map (λ p. p.0) (subcommand_of islec run_words) ≡ Some (codes "run")
unfolding clap_on_literals
run_name = refl

pub run_world : option_map (λ p. first_of (codes "world") p.1) (subcommand_of islec run_words) ≡ Some (Some (codes "w.isle"))
unfolding clap_on_literals
run_world = refl

-- a check, and a layout with no width
check_flag : option_map (λ p. flag_of (codes "terms") p.1)
    (subcommand_of islec (codes "islec" ∷ codes "check" ∷ codes "--terms" ∷ codes "a.isle" ∷ [])) ≡ Some true
unfolding clap_on_literals
check_flag = refl

-- a check that looks for calls without a rule within so many steps
check_steps : option_map (λ p. number_of (codes "steps-at-most") p.1)
    (subcommand_of islec (codes "islec" ∷ codes "check" ∷ codes "--missing" ∷ codes "--steps-at-most" ∷ codes "7" ∷ codes "a.isle" ∷ [])) ≡ Some
    (Some 7)
unfolding clap_on_literals
check_steps = refl

no_steps : option_map (λ p. number_of (codes "steps-at-most") p.1)
    (subcommand_of islec (codes "islec" ∷ codes "check" ∷ codes "--missing" ∷ codes "a.isle" ∷ [])) ≡ Some None
unfolding clap_on_literals
no_steps = refl

fmt_width : option_map (λ p. number_of (codes "width") p.1) (subcommand_of islec (codes "islec" ∷ codes "fmt" ∷ codes "a.isle" ∷ [])) ≡ Some (Some 80)
unfolding clap_on_literals
fmt_width = refl

-- a layout of two files, which are asked whether they are formatted
two_files : option_map (λ p. all_of (codes "file") p.1)
    (subcommand_of islec (codes "islec" ∷ codes "fmt" ∷ codes "--check" ∷ codes "a" ∷ codes "-" ∷ [])) ≡ Some (Some (codes "a" ∷ codes "-" ∷ []))
unfolding clap_on_literals
two_files = refl

fmt_flag : option_map (λ p. flag_of (codes "check") p.1)
    (subcommand_of islec (codes "islec" ∷ codes "fmt" ∷ codes "--check" ∷ codes "a" ∷ codes "-" ∷ [])) ≡ Some true
unfolding clap_on_literals
fmt_flag = refl

-- trees of two terms, and of all
blocks_terms : option_map (λ p. each_of (codes "term") p.1)
    (subcommand_of islec (codes "islec" ∷ codes "blocks" ∷ codes "--term" ∷ codes "f" ∷ codes "--term=g" ∷ codes "a.isle" ∷ [])) ≡ Some
    (codes "f" ∷ codes "g" ∷ [])
unfolding clap_on_literals
blocks_terms = refl

blocks_of_all : option_map (λ p. each_of (codes "term") p.1) (subcommand_of islec (codes "islec" ∷ codes "blocks" ∷ codes "a.isle" ∷ [])) ≡ Some []
unfolding clap_on_literals
blocks_of_all = refl

-- trees as a graph, and in words
blocks_dot : option_map (λ p. flag_of (codes "dot") p.1)
    (subcommand_of islec (codes "islec" ∷ codes "blocks" ∷ codes "--dot" ∷ codes "a.isle" ∷ [])) ≡ Some true
unfolding clap_on_literals
blocks_dot = refl

blocks_words : option_map (λ p. flag_of (codes "dot") p.1) (subcommand_of islec (codes "islec" ∷ codes "blocks" ∷ codes "a.isle" ∷ [])) ≡ Some false
unfolding clap_on_literals
blocks_words = refl

-- words that are refused
no_command : fault_of islec (codes "islec" ∷ []) ≡ kind.MissingSubcommand ∷ []
unfolding clap_on_literals
no_command = refl

no_file : fault_of islec (codes "islec" ∷ codes "run" ∷ []) ≡ kind.MissingRequiredArgument ∷ []
unfolding clap_on_literals
no_file = refl

no_flag : fault_of islec (codes "islec" ∷ codes "fmt" ∷ codes "--checks" ∷ codes "a" ∷ []) ≡ kind.UnknownArgument ∷ []
unfolding clap_on_literals
no_flag = refl

asks_for_version : fault_of islec (codes "islec" ∷ codes "--version" ∷ []) ≡ kind.DisplayVersion ∷ []
unfolding clap_on_literals
asks_for_version = refl

version_of_no_command : fault_of islec (codes "islec" ∷ codes "run" ∷ codes "--version" ∷ []) ≡ kind.UnknownArgument ∷ []
unfolding clap_on_literals
version_of_no_command = refl

no_number : fault_of islec (codes "islec" ∷ codes "fmt" ∷ codes "--width=1000001" ∷ codes "a" ∷ []) ≡ kind.ValueValidation ∷ []
unfolding clap_on_literals
no_number = refl

asks_for_help : fault_of islec (codes "islec" ∷ codes "check" ∷ codes "--help" ∷ []) ≡ kind.DisplayHelp ∷ []
unfolding clap_on_literals
asks_for_help = refl
