-- The variables and names of a rule as its reading keeps them.
use Rattle.std.specs.Prelude.{◌≡◌, ℕ, List, [], ◌∷◌, map, Option}
use Rattle.std.specs.Option.{option_map}
use Rattle.std.specs.Str.{bytes_eq}
use Rattle.isle_containers.specs.StableMaps.{value_at}
use Rattle.isle_terms.specs.declared.translate.bindings.BoundName.{BoundName}
use Rattle.isle_terms.specs.declared.translate.bindings.VisibleName.{VisibleName}
use Rattle.isle_terms.specs.declared.translate.bindings.RuleVariable.{RuleVariable}
use Rattle.isle_rules.specs.TypedRules.{Variable}
use Rattle.isle_rules.specs.Elaboration.{Visible, visible_in}

-- the ids of a visible name's variable and of its type
abbrev pub bound_of : Visible → BoundName
bound_of visible = record { var = record { 0 = visible.var }; ty = record { 0 = visible.type } }

-- a name with its variable and type
abbrev pub visible_at : List ℕ → BoundName → Visible
visible_at name bound = record { name = name; var = bound.var.0; type = bound.ty.0 }

-- a name that can be used
abbrev pub visible_shown : VisibleName → Visible
visible_shown name = visible_at name.name name.bound

-- a variable
abbrev pub variable_shown : RuleVariable → Variable
variable_shown variable = record { name = variable.name; type = variable.ty.0 }

-- what is visible of a name, where the names are the innermost first
abbrev pub innermost_of : List VisibleName → List ℕ → Option BoundName
innermost_of names name = option_map bound_of (visible_in (map visible_shown names) name)

-- each name hides what is visible of it without it and those inside it
abbrev pub HideOthers : List VisibleName → Type 0
HideOthers [] = Unit {0}
HideOthers (first ∷ others) = (first.hidden ≡ innermost_of others first.name) × HideOthers others

-- names, the innermost first, and the table of what is visible of each text
pub record IsScope (names : List VisibleName) (table : List (List ℕ × BoundName)) : Type 0 where
  pub hidden : HideOthers names
  pub found : (name : List ℕ) → value_at bytes_eq table name ≡ innermost_of names name
