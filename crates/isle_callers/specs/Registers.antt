-- The host of registers: what it answers, and how it counts.
use Rattle.std.specs.Prelude.{◌≡◌, ◌+◌, ◌-◌, ◌^◌, ◌&&◌, ℕ, Bool, List, Option, Some, None, if◌then◌else◌, nat_lt, codes, bytes_eq}
use Rattle.std.specs.Bool.{then_some}
use Rattle.std.specs.Option.{option_map}
use Rattle.isle_rules.specs.Values.{ValueTree, ValueTrees, opaque_tree, no_trees, more_trees}
use Rattle.isle_callers.specs.declared.example.host.Registers.{Registers}
use Rattle.isle_callers.specs.Bytes.{byte_in, byte_value, combined_values, taken_apart}

-- what a constructor is answered that makes no effect: what it gives of two values; none of fewer or more
abbrev pub constructed : List ℕ → ValueTrees → Option ValueTree
constructed term (more_trees v (more_trees w no_trees)) = combined_values term (byte_in v) (byte_in w)
constructed term _ = None

-- what an extractor gives of a value, where it is a number from 0 to 255
abbrev pub parts_of : List ℕ → Option ℕ → Option ValueTrees
parts_of term (Some n) = option_map (λ part. more_trees (byte_value part) no_trees) (taken_apart term n)
parts_of term None = None

-- what an extractor is answered
abbrev pub extracted : List ℕ → ValueTree → Option ValueTrees
extracted term v = parts_of term (byte_in v)

-- whether a constructor gives out a register: `emit` does, as long as the next number isn't the last one of 64 bits
abbrev pub emits : Registers → List ℕ → Bool
emits registers term = bytes_eq term (codes "emit") && nat_lt registers.next (2 ^ 64 - 1)

-- what a constructor is answered that makes an effect: the register of the next number, or none
abbrev pub emitted : Registers → List ℕ → Option ValueTree
emitted registers term = then_some (emits registers term) (opaque_tree registers.next)

-- the registers behind it: the number is used up where the register is given out
abbrev pub counted : Registers → List ℕ → Registers
counted registers term = if emits registers term then record { next = registers.next + 1 } else registers

-- a call of a constructor that makes an effect is answered so, and leaves these registers
abbrev pub Emits : Registers → List ℕ → ValueTrees → Option ValueTree → Registers → Type 0
Emits before term args answer after = (answer ≡ emitted before term) × (after ≡ counted before term)
