-- The command `islec` and its arguments, as `clap` reads them.
use Rattle.std.specs.Prelude.{◌≡◌, List, [], ◌∷◌, Some, true, false, codes, pos}
use Rattle.clap.specs.Words.{App, Rule, app_of, new_app, new_rule, rule_of, with_rule, with_subcommand}
use Rattle.clap.specs.Lexer.{usize_max}
use Rattle.clap.specs.Simple.{built_leaf}
use Rattle.clap.specs.declared.builder.Arg.{Arg}
use Rattle.clap.specs.declared.builder.ArgAction.TheVariants.{Append, SetTrue}
use Rattle.clap.specs.declared.builder.Command.{Command}
use Rattle.clap.specs.declared.builder.Command.TheViews.{out-Command}
use Rattle.clap.specs.declared.builder.ValueParser.TheVariants.{Signed, Unsigned}

-- `--world FILE`
abbrev pub world : Rule
world = record (new_rule (codes "world")) { long = Some (codes "world"); value_names = 1 }

-- `--depth N`: a number of 32 bits, and 100 where it is left out
abbrev pub depth : Rule
depth = record (new_rule (codes "depth")) {
  long = Some (codes "depth");
  value_names = 1;
  parser = Some (Signed (pos 0) (pos 4294967295));
  defaults = codes "100" ∷ [];
}

-- `--plain`
abbrev pub plain : Rule
plain = record (new_rule (codes "plain")) { long = Some (codes "plain"); action = Some SetTrue }

-- `--steps`
abbrev pub steps : Rule
steps = record (new_rule (codes "steps")) { long = Some (codes "steps"); action = Some SetTrue }

-- `--trace`
abbrev pub trace : Rule
trace = record (new_rule (codes "trace")) { long = Some (codes "trace"); action = Some SetTrue }

-- `--coverage`
abbrev pub coverage : Rule
coverage = record (new_rule (codes "coverage")) { long = Some (codes "coverage"); action = Some SetTrue }

-- `--unanswered`
abbrev pub unanswered : Rule
unanswered = record (new_rule (codes "unanswered")) { long = Some (codes "unanswered"); action = Some SetTrue }

-- `--explain`
abbrev pub explain : Rule
explain = record (new_rule (codes "explain")) { long = Some (codes "explain"); action = Some SetTrue }

-- `--terms`
abbrev pub terms : Rule
terms = record (new_rule (codes "terms")) { long = Some (codes "terms"); action = Some SetTrue }

-- `--warn`
abbrev pub warn : Rule
warn = record (new_rule (codes "warn")) { long = Some (codes "warn"); action = Some SetTrue }

-- `--missing`
abbrev pub missing : Rule
missing = record (new_rule (codes "missing")) { long = Some (codes "missing"); action = Some SetTrue }

-- `--partial`
abbrev pub partial : Rule
partial = record (new_rule (codes "partial")) { long = Some (codes "partial"); action = Some SetTrue }

-- `--steps-at-most N`: a number of 64 bits, which may be left out
abbrev pub steps_at_most : Rule
steps_at_most = record (new_rule (codes "steps-at-most")) {
  long = Some (codes "steps-at-most");
  value_names = 1;
  parser = Some (Unsigned 0 18446744073709551615);
}

-- `--term NAME`, any number of times
abbrev pub term : Rule
term = record (new_rule (codes "term")) { long = Some (codes "term"); value_names = 1; action = Some Append }

-- `--dot`
abbrev pub dot : Rule
dot = record (new_rule (codes "dot")) { long = Some (codes "dot"); action = Some SetTrue }

-- `--width N`: a number up to a million, and 80 where it is left out
abbrev pub width : Rule
width = record (new_rule (codes "width")) {
  long = Some (codes "width");
  value_names = 1;
  parser = Some (Unsigned 0 1000000);
  defaults = codes "80" ∷ [];
}

-- one file or more
abbrev pub rule_files : Rule
rule_files = record (new_rule (codes "file")) {
  value_names = 1;
  action = Some Append;
  range = Some (record { start_inclusive = 1; end_inclusive = usize_max });
  required = true;
}

-- `--check`
abbrev pub unformatted : Rule
unformatted = record (new_rule (codes "check")) { long = Some (codes "check"); action = Some SetTrue }

-- `--keep`
abbrev pub keep : Rule
keep = record (new_rule (codes "keep")) { long = Some (codes "keep"); action = Some SetTrue }

-- `--diff`
abbrev pub diff : Rule
diff = record (new_rule (codes "diff")) { long = Some (codes "diff"); action = Some SetTrue }

-- `--write`
abbrev pub write : Rule
write = record (new_rule (codes "write")) { long = Some (codes "write"); action = Some SetTrue }

-- `run`, with a world, a depth, `--plain`, `--steps`, `--trace`, `--coverage`, `--unanswered`, `--explain` and files
abbrev pub run : App
run = with_rule (with_rule (with_rule (with_rule (with_rule (with_rule (with_rule (with_rule (with_rule (new_app (codes "run")) world) depth) plain)
    steps) trace) coverage) unanswered) explain) rule_files

-- `check`, with `--terms`, `--warn`, `--explain`, `--missing`, `--partial`, a number of steps and files
abbrev pub check : App
check = with_rule (with_rule (with_rule (with_rule (with_rule (with_rule (with_rule (new_app (codes "check")) terms) warn) explain) missing) partial)
    steps_at_most) rule_files

-- `blocks`, with names of terms, `--dot` and files
abbrev pub blocks : App
blocks = with_rule (with_rule (with_rule (new_app (codes "blocks")) term) dot) rule_files

-- `fmt`, with a width, `--keep`, `--check`, `--diff`, `--write` and files
abbrev pub fmt : App
fmt = with_rule (with_rule (with_rule (with_rule (with_rule (with_rule (new_app (codes "fmt")) width) keep) unformatted) diff) write) rule_files

-- a command that does nothing without a subcommand
abbrev pub with_required : App → App
with_required a = record a { top = record a.top { subcommand_required = true } }

-- a command that has a version
abbrev pub with_version : App → App
with_version a = record a { top = record a.top { has_version = true } }

-- the command `islec`, which has a version, and is one of `run`, `check`, `blocks` and `fmt`
abbrev pub islec : App
islec = with_subcommand (with_subcommand (with_subcommand (with_subcommand (with_required (with_version (new_app (codes "islec"))))
    run.top) check.top) blocks.top) fmt.top

-- the arguments of `run` as they are read, with `--help`
abbrev pub run_rules : List Rule
run_rules = (built_leaf run.top).rules

-- the arguments of `check` as they are read, with `--help`
abbrev pub check_rules : List Rule
check_rules = (built_leaf check.top).rules

-- the arguments of `blocks` as they are read, with `--help`
abbrev pub blocks_rules : List Rule
blocks_rules = (built_leaf blocks.top).rules

-- the arguments of `fmt` as they are read, with `--help`
abbrev pub fmt_rules : List Rule
fmt_rules = (built_leaf fmt.top).rules

-- the command is `app`, and no argument of it is global
pub record IsCommand (app : App) (command : Command) : Type 0 where
  pub is : app_of command ≡ app
  pub local : (out-Command command).has_globals ≡ false

-- the argument is `rule`, and is not global
pub record IsArgument (rule : Rule) (arg : Arg) : Type 0 where
  pub is : rule_of arg ≡ rule
  pub local : arg.global ≡ false
