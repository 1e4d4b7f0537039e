-- How what is read in turn tells the truth, part by part.
use Rattle.std.proofs.Common.{◌≡◌, ℕ, ◌+◌, ◌≤◌, Bool, true, false, cond, leb, refl, arith}
use Rattle.std.proofs.lemmas.Bool.{leb-true, leb-false}
use Rattle.isle_ast.specs.declared.pos.Pos.{Pos}
use Rattle.isle_rules.specs.Elaboration.{State}
use Rattle.isle_terms.specs.Inside.Readings.Outcomes.{Outcome, stands_for, ill_at, exceeds, and_then, only_if}
use Rattle.isle_terms.specs.Inside.Readings.Telling.{Tells}

-- an outcome tells the truth, as a record: its words can be inferred
pub record Told {A : Type 0} (max : ℕ) (Stands : A → State → Type 0) (Ill : Pos → Type 0) (Large : Type 0) (outcome : Outcome A) : Type 0 where
  pub tells : Tells max Stands Ill Large outcome

-- the same outcome in other words
pub in_words : {A : Type 0} {max : ℕ} {S T : A → State → Type 0} {I J : Pos → Type 0} {L M : Type 0} {o : Outcome A} → Told max S I L o
    → ((v : A) (s : State) → S v s → T v s) → ((at : Pos) → I at → J at) → (L → M) → Told max T J M o
in_words {o = stands_for v s} h stands ill large = record { tells = (stands v s h.tells.0, h.tells.1) }
in_words {o = ill_at at} h stands ill large = record { tells = ill at h.tells }
in_words {o = exceeds} h stands ill large = record { tells = large h.tells }

-- what is read after something else
pub and_then_told : {A B : Type 0} {max : ℕ} {S : A → State → Type 0} {T : B → State → Type 0} {I J : Pos → Type 0} {L M : Type 0} {o : Outcome A}
    (next : A → State → Outcome B)
    → Told max S I L o → ((at : Pos) → I at → J at) → (L → M) → ((v : A) (s : State) → S v s → s.nodes ≤ max → Told max T J M (next v s))
    → Told max T J M (and_then o next)
and_then_told {o = stands_for v s} next h ill large go = go v s h.tells.0 h.tells.1
and_then_told {o = ill_at at} next h ill large go = record { tells = ill at h.tells }
and_then_told {o = exceeds} next h ill large go = record { tells = large h.tells }

-- what is read where a test is passed
pub only_if_told : {A : Type 0} {max : ℕ} {S : A → State → Type 0} {I : Pos → Type 0} {L : Type 0} (test : Bool) (at : Pos) (next : Outcome A)
    → (test ≡ true → Told max S I L next) → (test ≡ false → I at) → Told max S I L (only_if test at next)
only_if_told true at next passed failed = passed refl
only_if_told false at next passed failed = record { tells = failed refl }

-- one of two readings, by a test
pub either_told : {A : Type 0} {max : ℕ} {S : A → State → Type 0} {I : Pos → Type 0} {L : Type 0} (test : Bool) (first second : Outcome A)
    → (test ≡ true → Told max S I L first) → (test ≡ false → Told max S I L second) → Told max S I L (cond test first second)
either_told true first second passed failed = passed refl
either_told false first second passed failed = failed refl

-- what is read where there is room for one node more
pub within_told : {A : Type 0} {max : ℕ} {S : A → State → Type 0} {I : Pos → Type 0} {L : Type 0} (nodes : ℕ) (o : Outcome A)
    → (max ≤ nodes → L) → (nodes + 1 ≤ max → Told max S I L o) → Told max S I L (cond (leb max nodes) exceeds o)
within_told {max = max} nodes o full room =
    either_told (leb max nodes) exceeds o (λ is. record { tells = full (leb-true max nodes is) })
    (λ is. let less = leb-false max nodes is in room (omega arith))
