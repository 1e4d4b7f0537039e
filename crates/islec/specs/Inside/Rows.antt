-- What holds of the values that a simple command finds in words that it takes.
use Rattle.std.specs.Prelude.{◌≡◌, ◌<◌, ◌≤◌, ◌⊎◌, ⊤, List, [], ◌∷◌, Some, true, length}
use Rattle.clap.specs.Walk.{Row, Rule, action_of, arg_by_id, has_row, most_values, reading_by}
use Rattle.clap.specs.Takes.{values_pass}
use Rattle.clap.specs.declared.builder.ArgAction.TheVariants as action

-- each of a list
abbrev pub Each : {X : Type 0} → (X → Type 0) → List X → Type 0
Each P [] = ⊤
Each P (x ∷ xs) = P x × Each P xs

-- the row has a value, its values pass the argument's parser and are read by it, and one use could give them where one sets them
pub record FitsRule (a : Rule) (r : Row) : Type 0 where
  pub filled : 0 < length r.values
  pub passes : values_pass a r.values ≡ true
  pub reads : r.reading ≡ reading_by a
  pub most : action_of a ≡ action.Set → length r.values ≤ most_values a

-- the row fits the argument of its name
abbrev pub FitsRow : List Rule → Row → Type 0
FitsRow c r = (a : Rule) → arg_by_id c r.id ≡ Some a → FitsRule a r

-- the argument has a row, where it is required or has a default
abbrev pub HasItsRow : List Row → Rule → Type 0
HasItsRow rows a = (a.required ≡ true) ⊎ (0 < length a.defaults) → has_row a.id rows ≡ true

-- each row fits its argument, and each argument that must have a row has one
pub record FillsRules (c : List Rule) (rows : List Row) : Type 0 where
  pub fits : Each (FitsRow c) rows
  pub whole : Each (HasItsRow rows) c
