-- A rule of a rule set, made of what a visit leaves.
use Rattle.std.specs.Prelude.{◌≡◌, ℕ, List, [], Option, Some, None}
use Rattle.isle_types.specs.declared.ids.Sym.{Sym}
use Rattle.isle_meaning.specs.Sites.{Site, iterator}
use Rattle.isle_meaning.specs.Demands.{Demand, Among}
use Rattle.isle_meaning.specs.Faults.{IsUnreachable}
use Rattle.isle_meaning.specs.Numbered.{At}
use Rattle.isle_blocks.specs.declared.rule.Rule.{Rule}
use Rattle.isle_blocks.specs.Rows.{rows_of}
use Rattle.isle_blocks.specs.Closure.{Stands, HasAllFields}
use Rattle.isle_blocks.specs.ClosedRules.{IsClosedRule, AreNumbersOf}
use Rattle.isle_blocks.specs.Inside.Placing.{IsExplained}
use Rattle.isle_blocks.specs.Building.Standing.{StandEach, Adds, NumbersBehind}
use Rattle.isle_blocks.specs.declared.ids.BindingId.{BindingId}
use Rattle.isle_blocks.specs.declared.binding.Binding.{Binding}
use Rattle.isle_blocks.specs.declared.binding.Binding.TheVariants.{ConstBool, ConstInt, ConstPrim, Argument, Extractor, Constructor, Iterator}
use Rattle.isle_blocks.specs.declared.binding.Binding.TheVariants.{MakeVariant, MatchVariant, MakeStruct, ExtractStruct, MakeSome, MatchSome}
use Rattle.isle_blocks.specs.declared.binding.Binding.TheVariants.{MatchTuple}

-- the call of which a site is one value, by another number
abbrev pub multi_call : (BindingId → BindingId) → Binding → Option BindingId
multi_call to (ConstBool val ty) = None
multi_call to (ConstInt val ty) = None
multi_call to (ConstPrim val) = None
multi_call to (Argument index) = None
multi_call to (Extractor term parameter) = None
multi_call to (Constructor term parameters instance) = None
multi_call to (Iterator source) = Some (to source)
multi_call to (MakeVariant ty variant fields) = None
multi_call to (MatchVariant source variant field) = None
multi_call to (MakeStruct ty fields) = None
multi_call to (ExtractStruct source field) = None
multi_call to (MakeSome inner) = None
multi_call to (MatchSome source) = None
multi_call to (MatchTuple source field) = None

-- The rule in its rule set: what follows from its demands, over a table that has the sites that stood, its own, and all fields that it opens.
pub record IsAssembledRule (name : Sym → List ℕ) (ds : List Demand) (base own : List Binding) (impure : List BindingId) (result : BindingId)
    (table : List Binding) (made : Rule) : Type 0 where
  pub reachable : IsUnreachable (Among ds) → ⊥
  pub closed : IsClosedRule name (rows_of name table) (Among ds) made
  pub calls : AreNumbersOf (rows_of name table) (λ s. Stands (rows_of name own) (iterator s)) made.iterators
  pub kept : (s : Site) (k : ℕ) → At (rows_of name base) s k → At (rows_of name table) s k
  pub own_stand : (s : Site) → Stands (rows_of name own) s → Stands (rows_of name table) s
  pub fields : HasAllFields (Among ds) (rows_of name table)
  pub explained : (s : Site) → Stands (rows_of name table) s → IsExplained name ds base own s
  pub value : (s : Site) → At (rows_of name own) s result.0 → At (rows_of name table) s made.result.0
  pub effects : (ss : List Site) → StandEach (rows_of name own) impure ss → StandEach (rows_of name table) made.impure ss
  pub order : (needed : List Site) → Adds [] needed (rows_of name own) → NumbersBehind (rows_of name base) needed (Among ds) (rows_of name table)

-- No values meet the rule's demands, and the table stays; or the rule is made.
abbrev pub IsAssembled : (Sym → List ℕ) → List Demand → List Binding → List Binding → List BindingId → BindingId → List Binding → Option Rule → Type 0
IsAssembled name ds base own impure result table None = IsUnreachable (Among ds) × (table ≡ base)
IsAssembled name ds base own impure result table (Some made) = IsAssembledRule name ds base own impure result table made
