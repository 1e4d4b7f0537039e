-- Runs: a visitor before, what is answered, and the visitor after.
use Rattle.std.specs.Prelude.{◌≡◌, ◌⊎◌, List, [], Vec, Option, Some, None, Result, Ok, Err}
use Rattle.std.specs.Global.{Global}
use Rattle.isle_rules.specs.declared.visit.fault.VisitFault.{VisitFault}
use Rattle.isle_rules.specs.declared.visit.fault.VisitFault.TheVariants.{Undefined, Memory}

-- what may happen between a visitor before and after, where `A` is what is answered
abbrev pub Run : Type 0 → Type 0 → Type 1
Run S A = S → Result A VisitFault → S → Type 0

-- nothing more is told; the visit itself may lack memory
abbrev pub done : {S A : Type 0} → A → Run S A
done a s (Ok b) s' = (a ≡ b) × (s ≡ s')
done a s (Err f) s' = (f ≡ Memory) × (s ≡ s')

-- one call, unless the visit itself lacks memory before it
abbrev pub asks : {S C A : Type 0} → (C → Run S A) → C → Run S A
asks step call s (Ok a) s' = step call s (Ok a) s'
asks step call s (Err f) s' = step call s (Err f) s' ⊎ ((f ≡ Memory) × (s ≡ s'))

-- one run after another; a fault of the first ends both
abbrev pub in_turn : {S A B : Type 0} → Run S A → (A → Run S B) → Run S B
in_turn {S} {A} first rest s (Ok b) s' = (a : A) × (mid : S) × first s (Ok a) mid × rest a mid (Ok b) s'
in_turn {S} {A} first rest s (Err f) s' = first s (Err f) s' ⊎ ((a : A) × (mid : S) × first s (Ok a) mid × rest a mid (Err f) s')

-- one run where there is a value, another where there is none
abbrev pub on_some : {A S B : Type 0} → Option A → (A → Run S B) → Run S B → Run S B
on_some (Some a) some none = some a
on_some None some none = none

-- the rule uses what isn't defined, and nothing more is told; the visit may also lack memory before it sees that
abbrev pub stuck : {S A : Type 0} → Run S A
stuck s (Ok a) s' = ⊥
stuck s (Err f) s' = (f ≡ Undefined ⊎ f ≡ Memory) × (s ≡ s')

-- an answer without names
abbrev pub silent : {A Id : Type 0} → Result A VisitFault → Result (List Id) VisitFault
silent (Ok _) = Ok []
silent (Err f) = Err f

-- an answer with names
abbrev pub listed : {Id : Type 0} → Result (Vec Id Global) VisitFault → Result (List Id) VisitFault
listed (Ok ids) = Ok ids.items
listed (Err f) = Err f

-- an answer that is read by a function
abbrev pub answered : {A B : Type 0} → (A → B) → Result A VisitFault → Result B VisitFault
answered read (Ok a) = Ok (read a)
answered read (Err f) = Err f
