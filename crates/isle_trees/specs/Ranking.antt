-- The best test so far, and what binding sites adds to an order.
use Rattle.std.specs.Prelude.{◌≡◌, ◌⊎◌, ℕ, ◌<◌, ◌==◌, ◌&&◌, ◌||◌, ◌++◌, nat_lt, Bool, true, false, List, Option, Some, None, MatchOption, if◌then◌else◌}
use Rattle.std.specs.List.{filter}
use Rattle.isle_trees.specs.Rules.{Rules, Elem, IsPartOf}
use Rattle.isle_trees.specs.Scopes.{Scope, emit, emit_all, Test, on_match, on_equal, on_loop, has_test, IsReady}
use Rattle.isle_trees.specs.Builds.{Key, state, key, IsAtMost, IsOrder, Binds, BindsEach, own}

-- a test with its key
pub record Ranked : Type 0 where
  pub test : Test
  pub key : Key

-- the first key is the greater
abbrev pub above : Key → Key → Bool
above a b =
    nat_lt b.count a.count || ((a.count == b.count) &&
    (nat_lt b.state a.state || ((a.state == b.state) &&
    (nat_lt b.kind a.kind || ((a.kind == b.kind) &&
    (nat_lt a.first b.first || ((b.first == a.first) && nat_lt a.second b.second)))))))

-- the better of the best test so far and a new one; one that counts nothing is none
abbrev pub better : Option Ranked → Ranked → Option Ranked
better None new = if nat_lt 0 new.key.count then Some new else None
better (Some old) new = if above new.key old.key then Some new else Some old

-- the key of a test that counts so many rules
abbrev pub key_with : {C : Type 0} → Scope C → ℕ → Test → Key
key_with sc n (on_match s) = record { count = n; state = state sc (on_match s); kind = 2; first = s; second = s }
key_with sc n (on_equal a b) = record { count = n; state = state sc (on_equal a b); kind = 1; first = a; second = b }
key_with sc n (on_loop s) = record { count = n; state = state sc (on_loop s); kind = 0; first = s; second = s }

-- a test that counts at most so many rules may be better than the best so far
abbrev pub may_win : {C : Type 0} → Scope C → Option Ranked → Test → ℕ → Bool
may_win sc None t n = true
may_win sc (Some old) t n = above (key_with sc n t) old.key

-- the best so far is ready, and ranked
abbrev pub IsRanked : {C V : Type 0} → Rules C V → List ℕ → Scope C → Option Ranked → Type 0
IsRanked R left sc best = MatchOption best (Unit {0}) (λ r. IsReady R sc r.test × (r.key ≡ key R left sc r.test) × (0 < r.key.count))

-- the test isn't above the best so far
abbrev pub IsNoBetter : {C V : Type 0} → Rules C V → List ℕ → Scope C → Option Ranked → Test → Type 0
IsNoBetter R left sc best u = MatchOption best ((key R left sc u).count ≡ 0) (λ r. IsAtMost (key R left sc u) r.key)

-- sites that are all below a number
abbrev pub AllBelow : List ℕ → ℕ → Type 0
AllBelow sites n = (x : ℕ) → Elem x sites → x < n

abbrev pub AreWithin : Test → ℕ → Type 0
AreWithin (on_match s) n = s < n
AreWithin (on_equal a b) n = (a < n) × (b < n)
AreWithin (on_loop s) n = s < n

-- what rules have tests of lies below a number
abbrev pub AreAllWithin : {C V : Type 0} → Rules C V → ℕ → Type 0
AreAllWithin R n = (i : ℕ) (t : Test) → has_test R i t ≡ true → AreWithin t n

-- parts stand before what is made of them
abbrev pub PartsAreLower : {C V : Type 0} → Rules C V → Type 0
PartsAreLower R = (s p : ℕ) → Elem p (R.parts s) → p < s

-- what binding sites adds to an order
pub record Emits {C V : Type 0} (R : Rules C V) (sc : Scope C) (sites old new : List ℕ) (after : Scope C) : Type 0 where
  pub all : List ℕ
  pub order : IsOrder R sc all
  pub only : (x : ℕ) → Elem x all → IsPartOf R sites x
  pub ending : after ≡ emit_all sc all
  pub bound : (x : ℕ) → Elem x sites → after.emitted x ≡ true
  pub written : new ≡ old ++ filter R.stands all

-- what binding one site adds to an order
abbrev pub EmitsOne : {C V : Type 0} → Rules C V → Scope C → ℕ → List ℕ → List ℕ → Scope C → Type 0
EmitsOne {C} R sc s old new after =
    ((sc.emitted s ≡ true) × (new ≡ old) × (after ≡ sc))
    ⊎ ((sc.emitted s ≡ false) × (front : List ℕ) × (mid : Scope C) × Binds R sc (R.parts s) front mid × (after ≡ emit mid s)
    × (new ≡ old ++ (front ++ own R s)))

-- what binding sites one after another adds
abbrev pub EmitsEach : {C V : Type 0} → Rules C V → Scope C → List ℕ → List ℕ → List ℕ → Scope C → Type 0
EmitsEach R sc sites old new after = (binds : List ℕ) × BindsEach R sc sites binds after × (new ≡ old ++ binds)
