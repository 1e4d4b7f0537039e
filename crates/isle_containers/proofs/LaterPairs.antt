-- Pairs put into a map in turn, as look-ups from the last one back.
use Rattle.std.proofs.Common.{◌≡◌, Bool, true, false, cond, List, [], ◌∷◌, ◌++◌, Option, None, Some, refl, sym, ap, ◌∙◌}
use Rattle.std.specs.Prelude.{reverse}
use Rattle.std.proofs.lemmas.List.{reverse-append}
use Rattle.std.specs.Option.{option_or}
use Rattle.std.specs.Cmp.{IsEquivalence}
use Rattle.std.specs.HashMap.{HashMap, IsFromIterResult}
use Rattle.std.specs.Iterator.Runs.{WholeRun}
use Rattle.isle_containers.specs.StableMaps.{HoldsLastOf}
use Rattle.std.specs.Map.{lookup, update, update_all}

-- a look-up in two lists, the second where the first has nothing
pub lookup-append : {K V : Type 0} (test : K → Bool) (es fs : List (K × V)) → lookup test (es ++ fs) ≡ option_or (lookup test es) (lookup test fs)
lookup-append test [] fs = refl
lookup-append test (e ∷ es) fs =
    elim (test e.0) as (λ b. cond b (Some e.1) (lookup test (es ++ fs)) ≡ option_or (cond b (Some e.1) (lookup test es)) (lookup test fs)) [
      | true ↦ refl
      | false ↦ lookup-append test es fs
    ]

-- one of three options, however they are joined
option_or-assoc : {V : Type 0} (a b c : Option V) → option_or (option_or a b) c ≡ option_or a (option_or b c)
option_or-assoc None b c = refl
option_or-assoc (Some v) b c = refl

-- the value at a key after one pair is put
update-or : {K V : Type 0} {eq : K → K → Bool} (laws : IsEquivalence eq) (f : K → Option V) (p : K × V) (q : K)
    → update eq f p.0 (Some p.1) q ≡ option_or (lookup (eq q) (p ∷ [])) (f q)
update-or {eq = eq} laws f p q =
    rw (laws.symm q p.0) (elim (eq p.0 q) as (λ b. cond b (Some p.1) (f q) ≡ option_or (cond b (Some p.1) None) (f q)) [ true ↦ refl | false ↦ refl ])

-- after pairs are put in turn a key has the value of the last pair that has it
pub update_all-reverse : {K V : Type 0} {eq : K → K → Bool} (laws : IsEquivalence eq) (f : K → Option V) (pairs : List (K × V)) (q : K)
    → update_all eq f pairs q ≡ option_or (lookup (eq q) (reverse pairs)) (f q)
update_all-reverse laws f [] q = refl
update_all-reverse {eq = eq} laws f (p ∷ pairs) q =
    update_all-reverse laws (update eq f p.0 (Some p.1)) pairs q
    ∙ ap (option_or (lookup (eq q) (reverse pairs))) (update-or laws f p q)
    ∙ sym (option_or-assoc (lookup (eq q) (reverse pairs)) (lookup (eq q) (p ∷ [])) (f q))
    ∙ sym (ap (λ o. option_or o (f q)) (ap (lookup (eq q)) (reverse-append (p ∷ []) pairs) ∙ lookup-append (eq q) (reverse pairs) (p ∷ [])))

-- the same from an empty map
pub update_all-none : {K V : Type 0} {eq : K → K → Bool} (laws : IsEquivalence eq) (pairs : List (K × V)) (q : K)
    → update_all eq (λ _. None) pairs q ≡ lookup (eq q) (reverse pairs)
update_all-none {eq = eq} laws pairs q = update_all-reverse laws (λ _. None) pairs q ∙ option_or-none (lookup (eq q) (reverse pairs))
  where
    option_or-none : {V : Type 0} (o : Option V) → option_or o None ≡ o
    option_or-none None = refl
    option_or-none (Some v) = refl

-- so a run of an iterator whose pairs were put into an empty map in turn holds the last of each key
pub WholeRun-HoldsLastOf : {S K V H : Type 0} {eq : K → K → Bool} (laws : IsEquivalence eq) {steps : S → Option (K × V) → S → Type 0} (s : S)
    (map : HashMap K V H) → WholeRun steps s (λ run. IsFromIterResult eq run.items map)
    → WholeRun steps s (λ run. HoldsLastOf eq run.items map.entries)
WholeRun-HoldsLastOf laws s map run = (run.0, run.1, run.2, ((λ k. run.3.0 k ∙ update_all-none laws run.0.items k), run.3.1))
