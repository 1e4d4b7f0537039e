-- What sites hold: it stays so as a store grows, and where no node stands twice it is held in one way.
use Rattle.std.proofs.Common.{◌≡◌, ℕ, zero, suc, Bool, List, ◌∷◌, Option, Some, None, inl, inr, refl, sym, ap, subst, ◌∙◌, eq-eqb}
use Rattle.std.specs.Prelude.{if◌then◌else◌}
use Rattle.std.proofs.lemmas.Bool.{cases_eq, ne_eqb}
use Rattle.isle_types.specs.Names.{AreDistinct}
use Rattle.isle_meaning.specs.Held.{Held, held_value, held_outputs, held_none, held_some}
use Rattle.isle_meaning.specs.Machine.Runs.{Env}
use Rattle.isle_meaning.specs.Values.{Value, Values}
use Rattle.isle_meaning.specs.Words.{set}
use Rattle.isle_meaning.proofs.Matching.Basics.{set_at, set_other}
use Rattle.isle_calls.specs.declared.store.Stored.{Stored}
use Rattle.isle_calls.specs.declared.machine.holding.Content.{Content}
use Rattle.isle_calls.specs.declared.machine.holding.Content.TheVariants.{Value as ValueContent, Outputs, Nothing}
use Rattle.isle_calls.specs.declared.machine.holding.Holding.{Holding}
use Rattle.isle_calls.specs.Inside.Blocks.Bounds.{held_at}
use Rattle.isle_calls.specs.Inside.Blocks.Holdings.{HoldsContent, HoldsIn, Holds, IsHeldBy, StandFor}
use Rattle.isle_calls.specs.Stores.Values.{Stands, StandEach, Extends}
use Rattle.isle_calls.proofs.Stores.Values.{stands_longer, stand_longer, stands_one, stand_one, stands_once, stand_once}

module _ {old new : List Stored} (extends : Extends old new) where
  content_longer : (c : Content) (h : Held) → HoldsContent old c h → HoldsContent new c h
  content_longer (ValueContent n) h (v, e, stands) = (v, e, stands_longer extends v n stands)
  content_longer (Outputs ns) h (vs, e, stand) = (vs, e, stand_longer extends vs ns stand)
  content_longer Nothing h e = e

  holds_in_longer : (c : Content) (options : ℕ) (h : Held) → HoldsIn old c options h → HoldsIn new c options h
  holds_in_longer c zero h holds = content_longer c h holds
  holds_in_longer c (suc options) h (x, e, holds) = (x, e, holds_in_longer c options x holds)

  -- what is held stays so
  pub holds_longer : (x : Holding) (h : Held) → Holds old x h → Holds new x h
  holds_longer x h holds = holds_in_longer x.content x.options h holds

  held_by_longer : (o : Option Holding) (q : Option Held) → IsHeldBy old o q → IsHeldBy new o q
  held_by_longer None q is = is
  held_by_longer (Some x) q (h, e, holds) = (h, e, holds_longer x h holds)

  -- what is bound stays so
  pub stand_for_longer : (bound : List (ℕ × Holding)) (env : Env) → StandFor old bound env → StandFor new bound env
  stand_for_longer bound env stand k = held_by_longer (held_at k bound) (env k) (stand k)

-- a site more is bound
pub stand_for_set : (stored : List Stored) (bound : List (ℕ × Holding)) (env : Env) (s : ℕ) (x : Holding) (h : Held) → StandFor stored bound env
    → Holds stored x h → StandFor stored ((s, x) ∷ bound) (set env s (Some h))
stand_for_set stored bound env s x h stand holds k = elim (cases_eq s k) [
  | inl same ↦
      let here : held_at k ((s, x) ∷ bound) ≡ Some x = ap (λ (b : Bool). if b then Some x else held_at k bound) (eq-eqb s k same) in
      let there : set env s (Some h) k ≡ Some h = ap (set env s (Some h)) (sym same) ∙ set_at env s (Some h) in
      subst (λ (o : Option Holding). IsHeldBy stored o (set env s (Some h) k)) (sym here) (h, there, holds)
  | inr other ↦
      let here : held_at k ((s, x) ∷ bound) ≡ held_at k bound = ap (λ (b : Bool). if b then Some x else held_at k bound) (ne_eqb s k other) in
      let there : set env s (Some h) k ≡ env k = set_other env s (Some h) k (λ e. other (sym e)) in
      subst (λ (o : Option Holding). IsHeldBy stored o (set env s (Some h) k)) (sym here)
      (subst (IsHeldBy stored (held_at k bound)) (sym there) (stand k))
]

module _ (stored : List Stored) where
  content_one : (c : Content) (h g : Held) → HoldsContent stored c h → HoldsContent stored c g → h ≡ g
  content_one (ValueContent n) h g (v, e, stands) (w, f, also) = e ∙ ap held_value (stands_one stored v w n stands also) ∙ sym f
  content_one (Outputs ns) h g (vs, e, stand) (ws, f, also) = e ∙ ap held_outputs (stand_one stored vs ws ns stand also) ∙ sym f
  content_one Nothing h g e f = e ∙ sym f

  holds_in_one : (c : Content) (options : ℕ) (h g : Held) → HoldsIn stored c options h → HoldsIn stored c options g → h ≡ g
  holds_in_one c zero h g one other = content_one c h g one other
  holds_in_one c (suc options) h g (x, e, one) (y, f, other) = e ∙ ap held_some (holds_in_one c options x y one other) ∙ sym f

  -- one thing is held
  pub holds_one : (x : Holding) (h g : Held) → Holds stored x h → Holds stored x g → h ≡ g
  holds_one x h g one other = holds_in_one x.content x.options h g one other

-- it is one value, or they are one list of outputs, or nothing
module _ (stored : List Stored) (once : AreDistinct stored) where
  content_once : (c d : Content) (h : Held) → HoldsContent stored c h → HoldsContent stored d h → c ≡ d
  content_once (ValueContent n) (ValueContent m) h (v, e, stands) (w, f, also) =
      let q : held_value w ≡ held_value v = sym f ∙ e in
      let same : w ≡ v = cc in
      ap ValueContent (stands_once stored once v n m stands (subst (λ (x : Value). Stands stored x m) same also))
  content_once (Outputs ns) (Outputs ms) h (vs, e, stand) (ws, f, also) =
      let q : held_outputs ws ≡ held_outputs vs = sym f ∙ e in
      let same : ws ≡ vs = cc in
      ap Outputs (stand_once stored once vs ns ms stand (subst (λ (x : Values). StandEach stored x ms) same also))
  content_once Nothing Nothing h e f = refl
  content_once (ValueContent n) (Outputs ms) h (v, e, stands) (ws, f, also) = absurd (let q : held_value v ≡ held_outputs ws = sym e ∙ f in cc)
  content_once (ValueContent n) Nothing h (v, e, stands) f = absurd (let q : held_value v ≡ held_none = sym e ∙ f in cc)
  content_once (Outputs ns) (ValueContent m) h (vs, e, stand) (w, f, also) = absurd (let q : held_outputs vs ≡ held_value w = sym e ∙ f in cc)
  content_once (Outputs ns) Nothing h (vs, e, stand) f = absurd (let q : held_outputs vs ≡ held_none = sym e ∙ f in cc)
  content_once Nothing (ValueContent m) h e (w, f, also) = absurd (let q : held_none ≡ held_value w = sym e ∙ f in cc)
  content_once Nothing (Outputs ms) h e (ws, f, also) = absurd (let q : held_none ≡ held_outputs ws = sym e ∙ f in cc)

  -- what isn't in an option isn't an option with something in it
  content_no_option : (c : Content) (h x : Held) → HoldsContent stored c h → h ≡ held_some x → ⊥
  content_no_option (ValueContent n) h x (v, e, stands) f = let q : held_value v ≡ held_some x = sym e ∙ f in cc
  content_no_option (Outputs ns) h x (vs, e, stand) f = let q : held_outputs vs ≡ held_some x = sym e ∙ f in cc
  content_no_option Nothing h x e f = let q : held_none ≡ held_some x = sym e ∙ f in cc

  holds_in_once : (c d : Content) (m n : ℕ) (h : Held) → HoldsIn stored c m h → HoldsIn stored d n h → (m ≡ n) × (c ≡ d)
  holds_in_once c d zero zero h one other = (refl, content_once c d h one other)
  holds_in_once c d zero (suc n) h one (y, f, other) = absurd (content_no_option c h y one f)
  holds_in_once c d (suc m) zero h (x, e, one) other = absurd (content_no_option d h x other e)
  holds_in_once c d (suc m) (suc n) h (x, e, one) (y, f, other) =
      let q : held_some y ≡ held_some x = sym f ∙ e in
      let same : y ≡ x = cc in
      let (k, l) = holds_in_once c d m n x one (subst (HoldsIn stored d n) same other) in
      (ap suc k, l)

  -- it is held in one way
  pub holds_once : (x y : Holding) (h : Held) → Holds stored x h → Holds stored y h → x ≡ y
  holds_once x y h one other =
      let (k, l) = holds_in_once x.content y.content x.options y.options h one other in
      λ i. record { options = k i; content = l i }
