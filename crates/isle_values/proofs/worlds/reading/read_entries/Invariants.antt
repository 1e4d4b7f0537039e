use Rattle.std.proofs.Common.{◌≤◌, ◌-◌, List, length, take}
use Rattle.isle_values.specs.Worlds.Entries.{EntryTree}
use Rattle.isle_values.specs.Worlds.Tables.{HasEntries}
use Rattle.isle_values.specs.Worlds.Texts.{SpellEntries}
use Rattle.isle_values.proofs.worlds.reading.read_entries.Given as goal

-- the tokens so far spell the entries of the world
abbrev pub invariant-loop-at : goal.invariant-loop-at
invariant-loop-at l = (l.at ≤ length l.tokens) × ((entries : List EntryTree) × SpellEntries l.program (take l.at l.tokens) entries
    × HasEntries l.world entries)

abbrev pub decreases-loop-at : goal.decreases-loop-at
decreases-loop-at l = length l.tokens - l.at
