-- How many files a command takes, and whether one may be standard input.
pub mod Jobs
-- How a command ends.
pub mod Statuses
-- What is put in the place of files.
pub mod Outputs
-- What becomes of files that are laid out.
pub mod Formatting
-- What a run or a check writes of files that are accepted or refused.
pub mod Running
-- A writer that held `old` holds these bytes and a beginning of the text behind them
pub mod Writing
-- What is told below what is refused or spent, where reasons are asked for.
pub mod Reasons
-- What a line of input is answered.
pub mod Replies
-- What is written for an input, line by line.
pub mod Serving
-- What an error of `clap` becomes: out of memory, or a fault of usage
pub mod Faults
-- What is printed of a world that is refused.
pub mod Worlds
-- What a check tells of calls that no rule matches.
pub mod Missing
-- What a check writes of a program.
pub mod Terms
-- What is written of the trees of a program's rules.
pub mod Drawing
-- The command `islec` and its arguments, as `clap` reads them.
pub mod Commands
-- What the words of a command line say.
pub mod Lines
-- Which files are standard input, and what is read of it.
pub mod Inputs
-- Why a file can't be read or written, in words.
pub mod Causes
-- Why a command was not begun, and what is told of it.
pub mod Beginnings
-- How a whole command ends, by its words.
pub mod Endings
-- What no public contract cites.
pub mod Inside
