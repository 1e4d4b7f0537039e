-- The contents that a site is made of, by numbers of a table, and a walk down the table that finds them.
use Rattle.std.specs.Prelude.{◌≡◌, ◌<◌, ◌+◌, ◌⊎◌, ℕ, Bool, true, false, List, length, slice_get, slice_index_or, Some, Contains}
use Rattle.isle_blocks.specs.declared.ids.BindingId.{BindingId}
use Rattle.isle_blocks.specs.declared.binding.Binding.{Binding}
use Rattle.isle_blocks.specs.declared.binding.Binding.TheVariants.{MatchSome}
use Rattle.isle_blocks.specs.Tables.{sources_of}

-- each site's parts stand before it
abbrev pub PartsAreBefore : List Binding → Type 0
PartsAreBefore sites = (k : ℕ) (site : Binding) (part : BindingId) → slice_get sites k ≡ Some site → Contains (sources_of site) part → part.0 < k

-- the numbers that a number is made of, itself among them
pub data Reached (sites : List Binding) : ℕ → ℕ → Type 0 where
  here : (x : ℕ) → Reached sites x x
  through : {x j : ℕ} (site : Binding) (part : BindingId) → slice_get sites x ≡ Some site → Contains (sources_of site) part
      → Reached sites part.0 j → Reached sites x j

-- an option whose content is among what a number is made of
abbrev pub IsAsked : List Binding → ℕ → BindingId → Type 0
IsAsked sites x call = (j : ℕ) × Reached sites x j × (slice_get sites j ≡ Some (MatchSome call))

-- all such options
pub record AreAsked (sites : List Binding) (x : ℕ) (calls : List BindingId) : Type 0 where
  pub sound : (call : BindingId) → Contains calls call → IsAsked sites x call
  pub complete : (call : BindingId) → IsAsked sites x call → Contains calls call

abbrev pub Marked : List Bool → ℕ → Type 0
Marked marks k = slice_index_or marks k false ≡ true

-- the site of a number has such a part
abbrev pub HasPart : List Binding → ℕ → ℕ → Type 0
HasPart sites k i = (site : Binding) × (part : BindingId) × (slice_get sites k ≡ Some site) × Contains (sources_of site) part × (part.0 ≡ i)

-- more marks: those of some parts
pub record MarksMore (parts : List BindingId) (marks new : List Bool) : Type 0 where
  pub fits : length new ≡ length marks
  pub kept : (i : ℕ) → Marked marks i → Marked new i
  pub from : (i : ℕ) → Marked new i → Marked marks i ⊎ ((part : BindingId) × Contains parts part × (part.0 ≡ i))
  pub all : (part : BindingId) → Contains parts part → part.0 < length marks → Marked new part.0

-- one number's turn: where it is marked, its parts are marked, and its option is listed if it is a content
pub record Walked (sites : List Binding) (k : ℕ) (marks : List Bool) (calls : List BindingId) (new : List Bool) (listed : List BindingId)
    : Type 0 where
  pub fits : length new ≡ length marks
  pub kept : (i : ℕ) → Marked marks i → Marked new i
  pub from : (i : ℕ) → Marked new i → Marked marks i ⊎ (Marked marks k × HasPart sites k i)
  pub all : (i : ℕ) → Marked marks k → HasPart sites k i → i < length marks → Marked new i
  pub calls_kept : (call : BindingId) → Contains calls call → Contains listed call
  pub calls_from : (call : BindingId) → Contains listed call → Contains calls call ⊎ (Marked marks k × (slice_get sites k ≡ Some (MatchSome call)))
  pub calls_all : (call : BindingId) → Marked marks k → slice_get sites k ≡ Some (MatchSome call) → Contains listed call

-- every number from `low` on had its turn
pub record IsWalk (sites : List Binding) (site low : ℕ) (marks : List Bool) (calls : List BindingId) : Type 0 where
  pub fits : length marks ≡ site + 1
  pub start : Marked marks site
  pub reach : (j : ℕ) → Marked marks j → Reached sites site j
  pub sound : (call : BindingId) → Contains calls call → IsAsked sites site call
  pub closed : PartsAreBefore sites → (j i : ℕ) → low < j + 1 → j < site + 1 → Marked marks j → HasPart sites j i → Marked marks i
  pub complete : PartsAreBefore sites → (j : ℕ) (call : BindingId) → low < j + 1 → Marked marks j → slice_get sites j ≡ Some (MatchSome call)
      → Contains calls call

-- one number is marked, the last
pub record IsStart (site : ℕ) (marks : List Bool) : Type 0 where
  pub fits : length marks ≡ site + 1
  pub start : Marked marks site
  pub alone : (j : ℕ) → Marked marks j → j ≡ site
