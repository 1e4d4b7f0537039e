-- How writes that follow one another add up.
pub mod WritingLemmas
-- Files that are laid out one after another, and what becomes of them.
pub mod PrintsLemmas
-- What is written of files that are refused.
pub mod RefusedFiles
-- How jobs end, by what their parts promise.
pub mod JobLemmas
-- What is told of the calls of terms one after another.
pub mod MissingLemmas
-- What is written of a call's parts, and what a refused or an answered query is written.
pub mod ReplyLemmas
-- Lines of bytes as a reader gives them.
pub mod LineLemmas
-- Replies to lines one after another.
pub mod ServingLemmas
-- What is written of all replies and of what is told behind them.
pub mod SummaryLemmas
-- What a run of texts writes, by what its parts write.
pub mod RunLemmas
-- What is written of the trees of a program's rules, by what its parts write.
pub mod DrawingLemmas
-- How drawing ends.
pub mod StatusLemmas
-- What is written of a world that is refused.
pub mod WorldLemmas
-- Words that a simple command takes give values that fit its arguments.
pub mod WalkRows
-- Words with no fault never stop at `help`.
pub mod WalkStops
-- The rows of words with no fault are what the arguments ask.
pub mod FilledRows
-- What the words of `islec` give where they have no fault.
pub mod CommandLemmas
-- The values that each command's rows hold.
pub mod ValueLemmas
-- What is read of standard input for files one after another.
pub mod InputLemmas
-- How a whole command ends, by what its parts promise.
pub mod EndingLemmas
-- What `islec` finds in words that are written out.
pub mod CommandCases
-- Where effects lead, and which world replies leave.
pub mod ReplyCases
-- How commands of words that are written out may end.
pub mod EndingCases
-- Why a command was not begun, and what is told of it, case by case.
pub mod BeginningCases
-- Which terms are asked for, what is drawn of them, and how a command that draws ends, case by case.
pub mod DrawingCases
-- Which files are standard input, what they take of it, and what is told of files that are formatted or not, case by case.
pub mod InputCases
-- How `fmt --keep --write` ends, by which files are put in their place, case by case.
pub mod FormattingCases
-- What is told of faults with their reasons and without, and of a depth that is used up, case by case.
pub mod ReasonCases
-- What is told of the calls of terms, and when the last line may stand, case by case.
pub mod MissingCases
