-- Runs that lack memory at once.
use Rattle.std.proofs.Common.{◌≡◌, ◌≤◌, ◌-◌, ℕ, Bool, true, false, List, [], ◌∷◌, Err, inl, refl, arith}
use Rattle.isle_types.specs.declared.ids.TermId.{TermId}
use Rattle.isle_rules.specs.declared.visit.fault.VisitFault.{VisitFault}
use Rattle.isle_rules.specs.declared.visit.fault.VisitFault.TheVariants.{Memory}
use Rattle.isle_blocks.specs.declared.ids.BindingId.{BindingId}
use Rattle.isle_blocks.specs.declared.binding.Binding.{Binding}
use Rattle.isle_blocks.specs.Inside.Building.Gathering.{Gathered, interns, interns_each}
use Rattle.isle_blocks.specs.Inside.Building.Steps.{makes}

pub none_left : (count index : ℕ) → count ≤ index → count - index ≡ 0
none_left count index h = omega arith

-- a site may want memory for its number
pub waits : (site : Binding) (s : Gathered) (f : VisitFault) → f ≡ Memory → interns site s (Err f) s
waits site s f m = rw m (tt, refl)

pub each_waits : (sites : List Binding) (before : List BindingId) (s : Gathered) (f : VisitFault) → f ≡ Memory
    → interns_each sites before s (Err f) s
each_waits [] before s f m = (m, refl)
each_waits (site ∷ others) before s f m = inl (waits site s f m)

pub makes_waits : (pure : Bool) (parameters : List BindingId) (term : TermId) (infallible multi : Bool) (s : Gathered) (f : VisitFault)
    → f ≡ Memory → makes parameters term pure infallible multi s (Err f) s
makes_waits true parameters term infallible multi s f m = inl (m, refl)
makes_waits false parameters term infallible multi s f m = inl (m, refl)
