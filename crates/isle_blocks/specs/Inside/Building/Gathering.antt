-- What is gathered of a rule so far, and how more is taken.
use Rattle.std.specs.Prelude.{◌≡◌, ◌≢◌, ◌≤◌, ◌<◌, ◌+◌, ◌⊎◌, ℕ, zero, suc, Bool, true, false, List, [], ◌∷◌, ◌++◌, length, Ok, Err}
use Rattle.isle_rules.specs.declared.visit.fault.VisitFault.{VisitFault}
use Rattle.isle_rules.specs.declared.visit.fault.VisitFault.TheVariants.{Size, Undefined, Memory}
use Rattle.isle_rules.specs.Visits.Runs.{Run, done, in_turn}
use Rattle.isle_blocks.specs.declared.ids.BindingId.{BindingId}
use Rattle.isle_blocks.specs.declared.binding.Binding.{Binding}
use Rattle.isle_blocks.specs.declared.binding.Binding.TheVariants as sites
use Rattle.isle_blocks.specs.declared.constraint.Constraint.{Constraint}
use Rattle.isle_blocks.specs.declared.constraint.Constraint.TheVariants as tests
use Rattle.isle_blocks.specs.Tables.{IsInterned, IsFull}

-- the sites, the tests and the equalities of a rule, and what its impure calls give, in order
pub record Gathered : Type 0 where
  pub sites : List Binding
  pub has : List (BindingId × Constraint)
  pub same : List (BindingId × BindingId)
  pub impure : List BindingId

abbrev pub nothing_gathered : Gathered
nothing_gathered = record { sites = []; has = []; same = []; impure = [] }

abbrev pub with_sites : List Binding → Gathered → Gathered
with_sites sites s = record { sites = sites; has = s.has; same = s.same; impure = s.impure }

abbrev pub with_tests : List (BindingId × Constraint) → Gathered → Gathered
with_tests more s = record { sites = s.sites; has = s.has ++ more; same = s.same; impure = s.impure }

abbrev pub with_pair : BindingId → BindingId → Gathered → Gathered
with_pair a b s = record { sites = s.sites; has = s.has; same = s.same ++ (a, b) ∷ []; impure = s.impure }

abbrev pub with_effect : BindingId → Gathered → Gathered
with_effect id s = record { sites = s.sites; has = s.has; same = s.same; impure = s.impure ++ id ∷ [] }

-- why a site gets no number
abbrev pub IsRefused : List Binding → Binding → VisitFault → Type 0
IsRefused sites site Size = IsFull sites site
IsRefused sites site Undefined = ⊥
IsRefused sites site Memory = Unit {0}

-- a site gets its number: it was there, or is put behind the others
abbrev pub interns : Binding → Run Gathered BindingId
interns site s (Ok id) s' = (new : List Binding) × IsInterned s.sites site id new × (s' ≡ with_sites new s)
interns site s (Err f) s' = IsRefused s.sites site f × (s ≡ s')

-- sites get their numbers in turn, after those before
abbrev pub interns_each : List Binding → List BindingId → Run Gathered (List BindingId)
interns_each [] before = done before
interns_each (site ∷ others) before = in_turn (interns site) (λ id. interns_each others (before ++ id ∷ []))

-- a test of a site is taken
abbrev pub takes_demand : BindingId → Constraint → Run Gathered (List BindingId)
takes_demand id test s (Ok ids) s' = (ids ≡ []) × (s' ≡ with_tests ((id, test) ∷ []) s)
takes_demand id test s (Err f) s' = (f ≡ Memory) × (s ≡ s')

-- two sites are to be equal, which says nothing of one site
abbrev pub equates : BindingId → BindingId → Run Gathered (List BindingId)
equates a b s (Ok ids) s' = (ids ≡ []) × (((a ≡ b) × (s' ≡ s)) ⊎ ((a ≢ b) × (s' ≡ with_pair a b s)))
equates a b s (Err f) s' = (f ≡ Memory) × (s ≡ s')

-- fields and places are numbered up to 255, and nothing is done where there are more
abbrev pub fitting : {A : Type 0} → ℕ → Run Gathered A → Run Gathered A
fitting n run s (Ok a) s' = (n ≤ 255) × run s (Ok a) s'
fitting n run s (Err f) s' = ((n ≤ 255) × run s (Err f) s') ⊎ ((255 < n) × (f ≡ Size) × (s ≡ s'))

-- sites by number, so many from a number on
abbrev pub sites_from : (ℕ → Binding) → ℕ → ℕ → List Binding
sites_from at index zero = []
sites_from at index (suc n) = at index ∷ sites_from at (index + 1) n

-- the site of an output of a tuple, by the output's number
abbrev pub tuple_output : BindingId → ℕ → Binding
tuple_output source field = sites.MatchTuple source (record { 0 = field })

-- what an extractor's call gives: one value of a multi one, itself where it never fails, else its content, which has to be there
abbrev pub extracted : Bool → Bool → BindingId → Run Gathered BindingId
extracted true infallible call = interns (sites.Iterator call)
extracted false true call = done call
extracted false false call = in_turn (takes_demand call tests.Some) (λ _. interns (sites.MatchSome call))

-- the outputs of what an extractor gives: one is that itself, others are a tuple's
abbrev pub outputs : ℕ → BindingId → Run Gathered (List BindingId)
outputs zero value = done []
outputs (suc zero) value = done (value ∷ [])
outputs (suc (suc n)) value = interns_each (sites_from (tuple_output value) 0 (suc (suc n))) []

-- what a constructor's call gives: one value of a multi one, itself where it never fails, else its content
abbrev pub constructed : Bool → Bool → BindingId → Run Gathered BindingId
constructed true infallible call = interns (sites.Iterator call)
constructed false true call = done call
constructed false false call = interns (sites.MatchSome call)

-- the number of the next impure call, counted from 1
abbrev pub counts : Run Gathered ℕ
counts s (Ok n) s' = (n ≡ length s.impure + 1) × (s ≡ s')
counts s (Err f) s' = (f ≡ Memory) × (s ≡ s')

-- the number of a call: pure ones have 0
abbrev pub numbers : Bool → Run Gathered ℕ
numbers true = done 0
numbers false = counts

-- what an impure call gives is kept
abbrev pub keeps_effect : BindingId → Run Gathered BindingId
keeps_effect value s (Ok id) s' = (id ≡ value) × (s' ≡ with_effect value s)
keeps_effect value s (Err f) s' = (f ≡ Memory) × (s ≡ s')

-- what a call gives
abbrev pub keeps : Bool → BindingId → Run Gathered BindingId
keeps true value = done value
keeps false value = keeps_effect value
