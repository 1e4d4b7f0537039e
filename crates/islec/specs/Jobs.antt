-- How many files a command takes, and whether one may be standard input.
use Rattle.std.specs.Prelude.{◌<◌, ℕ, Bool, true, false}
use Rattle.islec.specs.declared.line.Job.{Job}
use Rattle.islec.specs.declared.line.Job.TheVariants.{Run, Check, Blocks, Fmt}

-- each takes one or more
abbrev pub HasFiles : Job → ℕ → Type 0
HasFiles (Run manner) files = 0 < files
HasFiles (Check telling) files = 0 < files
HasFiles (Blocks terms dot) files = 0 < files
HasFiles (Fmt printing) files = 0 < files

-- whether a file named `-` is standard input: not of a run, where that has the queries
abbrev pub reads_input : Job → Bool
reads_input (Run manner) = false
reads_input (Check telling) = true
reads_input (Blocks terms dot) = true
reads_input (Fmt printing) = true
