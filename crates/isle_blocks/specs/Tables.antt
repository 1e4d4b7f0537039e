-- Tables of sites, in which each stands once.
use Rattle.std.specs.Prelude.{◌≡◌, ◌⊎◌, ℕ, List, [], ◌∷◌, ◌++◌, Option, Some, MatchOption, length, slice_get, ◌<◌, Contains}
use Rattle.isle_blocks.specs.declared.ids.BindingId.{BindingId}
use Rattle.isle_blocks.specs.declared.binding.Binding.{Binding}
use Rattle.isle_types.specs.Names.{AreDistinct}
use Rattle.isle_blocks.specs.declared.binding.Binding.TheVariants.{ConstBool, ConstInt, ConstPrim, Argument, Extractor, Constructor, Iterator, MakeVariant, MatchVariant, MakeStruct, ExtractStruct, MakeSome, MatchSome, MatchTuple}

-- the parts of a site, in order
abbrev pub sources_of : Binding → List BindingId
sources_of (ConstBool val ty) = []
sources_of (ConstInt val ty) = []
sources_of (ConstPrim val) = []
sources_of (Argument index) = []
sources_of (Extractor term parameter) = parameter ∷ []
sources_of (Constructor term parameters instance) = parameters
sources_of (Iterator source) = source ∷ []
sources_of (MakeVariant ty variant fields) = fields
sources_of (MatchVariant source variant field) = source ∷ []
sources_of (MakeStruct ty fields) = fields
sources_of (ExtractStruct source field) = source ∷ []
sources_of (MakeSome inner) = inner ∷ []
sources_of (MatchSome source) = source ∷ []
sources_of (MatchTuple source field) = source ∷ []

-- the site stands nowhere
abbrev pub IsAbsent : {X : Type 0} → List X → X → Type 0
IsAbsent sites site = (k : ℕ) → slice_get sites k ≡ Some site → ⊥

-- the number of a site, or nothing where it stands nowhere
abbrev pub IsFound : List Binding → Binding → Option BindingId → Type 0
IsFound sites site found = MatchOption found (IsAbsent sites site) (λ id. slice_get sites id.0 ≡ Some site)

-- the site has its number: it was there, or is put behind the others
abbrev pub IsInterned : List Binding → Binding → BindingId → List Binding → Type 0
IsInterned sites site id new =
    ((slice_get sites id.0 ≡ Some site) × (new ≡ sites))
    ⊎ (IsAbsent sites site × (id.0 ≡ length sites) × (new ≡ sites ++ site ∷ []))

-- no number is left for a site that isn't there
abbrev pub IsFull : List Binding → Binding → Type 0
IsFull sites site = IsAbsent sites site × (length sites ≡ 65536)

-- Each site stands once, behind its parts.
pub record IsTable (table : List Binding) : Type 0 where
  pub earlier : (k : ℕ) (site : Binding) (part : BindingId) → slice_get table k ≡ Some site → Contains (sources_of site) part → part.0 < k
  pub once : AreDistinct table
