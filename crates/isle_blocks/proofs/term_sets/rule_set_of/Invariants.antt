use Rattle.std.proofs.Common.{◌≡◌, ◌≤◌, length, take}
use Rattle.isle_blocks.specs.Tables.{IsTable}
use Rattle.isle_blocks.specs.DefinedSets.{AreDefined}
use Rattle.isle_blocks.specs.Inside.GatheredSets.{GathersRules, MarksThose, AreLost}
use Rattle.isle_blocks.proofs.term_sets.rule_set_of.Given as goal

abbrev pub invariant-loop-place : goal.invariant-loop-place
invariant-loop-place l =
    (length l.lost.items ≡ length l.termenv.rules) × IsTable l.set.sites × (length l.set.sites ≤ 65536)
    × ((d : AreDefined l.termenv) → GathersRules l.termenv d (take l.place-index l.places) l.set
    × MarksThose (AreLost l.termenv d (take l.place-index l.places)) l.initial.lost.items l.lost.items)
