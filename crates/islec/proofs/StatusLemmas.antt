-- How drawing ends: well, or where no term has a name that was asked for.
use Rattle.std.proofs.Common.{◌≡◌, ◌⊎◌, inl, inr, Result, Ok, Err, IfOk}
use Rattle.islec.specs.declared.serve.ServeFault.{ServeFault}
use Rattle.islec.specs.declared.status.Status.{Status}
use Rattle.islec.specs.declared.status.Status.TheVariants.{AllWell, TextsRefused, Usage}

-- what is drawn is never refused
pub drawn_not_refused : (P : Type 0) (r : Result Status ServeFault) → IfOk r (λ s. (s ≡ AllWell) ⊎ (s ≡ Usage)) → IfOk r (λ s. s ≡ TextsRefused → P)
drawn_not_refused P (Err f) is = tt
drawn_not_refused P (Ok s) (inl e) = λ q. absurd cc
drawn_not_refused P (Ok s) (inr e) = λ q. absurd cc

-- so it ends in one of three ways
pub drawn_ends : (r : Result Status ServeFault) → IfOk r (λ s. (s ≡ AllWell) ⊎ (s ≡ Usage))
    → IfOk r (λ s. (s ≡ AllWell) ⊎ ((s ≡ Usage) ⊎ (s ≡ TextsRefused)))
drawn_ends (Err f) is = tt
drawn_ends (Ok s) (inl e) = inl e
drawn_ends (Ok s) (inr e) = inr (inl e)
