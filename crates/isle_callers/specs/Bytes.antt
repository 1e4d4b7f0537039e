-- Numbers from 0 to 255 as values, and what the functions of the host give of them.
use Rattle.std.specs.Prelude.{◌+◌, ◌/◌, ◌%◌, ◌==◌, ℕ, pos, List, Option, Some, None, if◌then◌else◌, nat_lt, nat_le, codes, bytes_eq}
use Rattle.std.specs.Bool.{then_some}
use Rattle.std.specs.Option.{option_map}
use Rattle.isle_rules.specs.Values.{ValueTree, bool_tree, int_tree, big_tree, const_tree, opaque_tree, data_tree}

-- a number as a value
abbrev pub byte_value : ℕ → ValueTree
byte_value n = int_tree (pos n)

-- the number that a value is, where it is one from 0 to 255
abbrev pub byte_in : ValueTree → Option ℕ
byte_in (int_tree (pos n)) = then_some (nat_le n 255) n
byte_in _ = None

-- What a constructor of a name gives of two numbers: `checked_add` their sum, where that is at most 255; `less_than` the first one, where it is
-- less than the second, and `at_most` where it is at most the second; none otherwise, and of any other name.
abbrev pub combined : List ℕ → ℕ → ℕ → Option ℕ
combined term x y =
    if bytes_eq term (codes "checked_add") then then_some (nat_le (x + y) 255) (x + y)
    else if bytes_eq term (codes "less_than") then then_some (nat_lt x y) x
    else if bytes_eq term (codes "at_most") then then_some (nat_le x y) x
    else None

-- what an extractor of a name takes a number apart into: `half` an even one into its half; none otherwise, and of any other name
abbrev pub taken_apart : List ℕ → ℕ → Option ℕ
taken_apart term n = if bytes_eq term (codes "half") then then_some (n % 2 == 0) (n / 2) else None

-- what a constructor gives of two values, where both are numbers from 0 to 255
abbrev pub combined_values : List ℕ → Option ℕ → Option ℕ → Option ValueTree
combined_values term (Some x) (Some y) = option_map byte_value (combined term x y)
combined_values term _ _ = None
