-- An expression while it is laid out: the parts so far, and what the variables around the current place stand for.
use Rattle.std.specs.Prelude.{◌≡◌, ◌<◌, ℕ, Bool, List, [], ◌∷◌, ◌++◌, length, map, Option, None, Some, slice_get}
use Rattle.std.specs.List.{AllZip}
use Rattle.isle_types.specs.declared.ids.TermId.{TermId}
use Rattle.isle_types.specs.declared.ids.TypeId.{TypeId}
use Rattle.isle_types.specs.declared.ids.VarId.{VarId}
use Rattle.isle_types.specs.TypeTables.{TypeTables}
use Rattle.isle_rules.specs.declared.rules.Expr.{Expr}
use Rattle.isle_rules.specs.TypedRules.{TypedExpr}
use Rattle.isle_meaning.specs.Words.{Word, var_word, Words, Step, set, call, apply, flat, flat_all, flat_lets}
use Rattle.isle_rules.specs.Shown.TermTables.{TermTables}
use Rattle.isle_rules.specs.Shown.ShownRules.{built_shown, built_list, binding_list}
use Rattle.isle_program.specs.Laws.Terms.{term_facts}
use Rattle.isle_program.specs.Plain.LaidOut.Words.{IsLaid, AreLaid, StandBehind, IsLaidStep}
use Rattle.isle_program.specs.declared.laid.Layout.{Layout}
use Rattle.isle_program.specs.declared.laid.Part.{Part}
use Rattle.isle_program.specs.declared.laid.Part.TheVariants.{Impure}

-- what a variable's slot says, where it has one
abbrev pub said_by : Option (Option ℕ) → Option ℕ
said_by None = None
said_by (Some part) = part

-- the part that a variable stands for
abbrev pub stands_for : List (Option ℕ) → ℕ → Option ℕ
stands_for bound k = said_by (slice_get bound k)

-- variables stand for the same parts
pub record StandForTheSame (old new : Layout) : Type 0 where
  pub each : (k : ℕ) → stands_for new.bound.items k ≡ stands_for old.bound.items k

-- a variable stands for this part, and the others for what they stood for
pub record Binds (var : ℕ) (part : Option ℕ) (old new : Layout) : Type 0 where
  pub each : (k : ℕ) → stands_for new.bound.items k ≡ set (stands_for old.bound.items) var part k

-- what variables stand for once these stand for what they stood for before, the last first
abbrev pub undone : List (VarId × Option ℕ) → (ℕ → Option ℕ) → ℕ → Option ℕ
undone [] parts = parts
undone (first ∷ others) parts = set (undone others parts) first.0.0 first.1

-- once these variables stand for what they stood for before, all stand for what they stand for there
pub record Restores (hidden : List (VarId × Option ℕ)) (inner outer : Layout) : Type 0 where
  pub each : (k : ℕ) → stands_for outer.bound.items k ≡ undone hidden (stands_for inner.bound.items) k

-- a part has come behind the others, at this number
pub record IsPut (part : Part) (old new : Layout) (number : ℕ) : Type 0 where
  pub last : number ≡ length old.parts.items
  pub parts : new.parts.items ≡ old.parts.items ++ part ∷ []
  pub calls : new.calls.items ≡ old.calls.items

-- a variable's word is laid at the part that it stands for; where it stands for none, it is the variable
abbrev pub IsBound : List (List ℕ) → List Part → ℕ → Word → Option ℕ → Type 0
IsBound names parts k word None = word ≡ var_word k
IsBound names parts k word (Some n) = IsLaid names parts word n

-- each part stays at its place
pub record Keeps (old new : List Part) : Type 0 where
  pub each : (n : ℕ) (part : Part) → slice_get old n ≡ Some part → slice_get new n ≡ Some part

-- each impure call is one part
abbrev pub StandOnce : List Part → List ℕ → Type 0
StandOnce parts calls = (n j : ℕ) (term : TermId) (ns : List ℕ) → slice_get parts n ≡ Some (Impure term ns j) → slice_get calls j ≡ Some n

-- the impure calls stand in order
abbrev pub Ascend : List ℕ → Type 0
Ascend calls = (i j m n : ℕ) → i < j → slice_get calls i ≡ Some m → slice_get calls j ≡ Some n → m < n

-- what is laid out so far: the variables' words, and the impure calls
pub record IsLayout (names : List (List ℕ)) (vars : ℕ → Word) (steps : List Step) (layout : Layout) : Type 0 where
  pub bound : (k : ℕ) → IsBound names layout.parts.items k (vars k) (stands_for layout.bound.items k)
  pub called : AllZip (IsLaidStep names layout.parts.items) steps layout.calls.items
  pub behind : StandBehind layout.parts.items
  pub once : StandOnce layout.parts.items layout.calls.items
  pub ascending : Ascend layout.calls.items

-- a word with the impure calls up to it is laid out behind what was
pub record Lays (names : List (List ℕ)) (vars : ℕ → Word) (written : Word × List Step) (old new : Layout) (number : ℕ) : Type 0 where
  pub whole : IsLaid names new.parts.items (written.0) number
  pub state : IsLayout names vars (written.1) new
  pub kept : Keeps old.parts.items new.parts.items

-- words with the impure calls up to the last are laid out behind what was
pub record LaysAll (names : List (List ℕ)) (vars : ℕ → Word) (written : Words × List Step) (old new : Layout) (numbers : List ℕ)
    : Type 0 where
  pub whole : AreLaid names new.parts.items (written.0) numbers
  pub state : IsLayout names vars (written.1) new
  pub kept : Keeps old.parts.items new.parts.items

-- the values of a `let` with the impure calls up to the last are laid out behind what was, and its variables stand for them
pub record LaysLet (names : List (List ℕ)) (written : (ℕ → Word) × List Step) (old new : Layout) : Type 0 where
  pub state : IsLayout names (written.0) (written.1) new
  pub kept : Keeps old.parts.items new.parts.items

-- an expression is laid out, whatever the names and what the variables stand for
abbrev pub LaysExpr : TermTables → Expr → Layout → Layout → ℕ → Type 0
LaysExpr env expr old new number =
    (tyenv : TypeTables) (vars : ℕ → Word) (steps : List Step) → IsLayout tyenv.names vars steps old
    → Lays tyenv.names vars (flat (term_facts tyenv env) vars steps (built_shown tyenv.names expr)) old new number

-- expressions are laid out, in order
abbrev pub LaysExprs : TermTables → List Expr → Layout → Layout → List ℕ → Type 0
LaysExprs env exprs old new numbers =
    (tyenv : TypeTables) (vars : ℕ → Word) (steps : List Step) → IsLayout tyenv.names vars steps old
    → LaysAll tyenv.names vars (flat_all (term_facts tyenv env) vars steps (built_list (map (built_shown tyenv.names) exprs))) old new
    numbers

-- a binding by name
abbrev pub binding_shown : List (List ℕ) → VarId × TypeId × Expr → VarId × TypeId × TypedExpr
binding_shown names binding = (binding.0, binding.1, built_shown names binding.2)

-- the values of a `let` are laid out, and its variables stand for them
abbrev pub LaysBindings : TermTables → List (VarId × TypeId × Expr) → Layout → Layout → Type 0
LaysBindings env bindings old new =
    (tyenv : TypeTables) (vars : ℕ → Word) (steps : List Step) → IsLayout tyenv.names vars steps old
    → LaysLet tyenv.names (flat_lets (term_facts tyenv env) vars steps (binding_list (map (binding_shown tyenv.names) bindings))) old new

-- a term on words that are laid out
abbrev pub LaysTerm : TermTables → TypeId → TermId → List ℕ → Layout → Layout → ℕ → Type 0
LaysTerm env ty term args old new number =
    (tyenv : TypeTables) (vars : ℕ → Word) (steps : List Step) (words : Words) → IsLayout tyenv.names vars steps old
    → AreLaid tyenv.names old.parts.items words args
    → Lays tyenv.names vars
    (apply ((term_facts tyenv env).shape term.0) ((term_facts tyenv env).pure term.0) ty.0 term.0 (words, steps)) old new number

-- a call on words that are laid out
abbrev pub LaysCall : Bool → TermId → List ℕ → Layout → Layout → ℕ → Type 0
LaysCall pure term args old new number =
    (names : List (List ℕ)) (vars : ℕ → Word) (steps : List Step) (words : Words) → IsLayout names vars steps old
    → AreLaid names old.parts.items words args → Lays names vars (call pure term.0 (words, steps)) old new number
