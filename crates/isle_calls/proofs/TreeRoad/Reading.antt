-- What a machine reads: what is told of a value is told of what follows of it.
use Rattle.std.proofs.Common.{◌≡◌, ◌<◌, ◌≤◌, ◌+◌, ◌++◌, ℕ, zero, suc, List, [], ◌∷◌, Option, Some, None, Vec, take, drop, length, slice_get, get_or, refl, sym, ap, subst, ◌∙◌, arith}
use Rattle.std.specs.Global.{Global}
use Rattle.std.proofs.lemmas.List.{map-append, map_more, take-append-drop}
use Rattle.std.proofs.Math.Seq.{drop-cons}
use Rattle.isle_types.specs.declared.ids.TypeId.{TypeId}
use Rattle.isle_types.specs.declared.ids.VariantId.{VariantId}
use Rattle.isle_meaning.specs.Got.{Got, gives}
use Rattle.isle_meaning.specs.Held.{Held, held_value, held, plain, plain_of}
use Rattle.isle_meaning.specs.Machine.Runs.{Env, values_at}
use Rattle.isle_meaning.specs.Values.{Value, Values, no_values, more_values, made_variant, made_struct, nth, more, made, built, ask}
use Rattle.isle_meaning.proofs.Matching.Basics.{ask_gives, more_gives}
use Rattle.isle_blocks.specs.declared.ids.BindingId.{BindingId}
use Rattle.isle_blocks.specs.Rows.{numbers_of}
use Rattle.isle_calls.specs.declared.store.Stored.{Stored}
use Rattle.isle_calls.specs.declared.store.Stored.TheVariants.{Variant, Struct}
use Rattle.isle_calls.specs.declared.machine.frame.Frame.{Frame}
use Rattle.isle_calls.specs.declared.machine.holding.Holding.{Holding}
use Rattle.isle_calls.specs.Inside.Blocks.Holdings.{Holds, TellsHeld, TellsNumber, TellsNumbers}
use Rattle.isle_calls.specs.Inside.Blocks.Reading.{IsAround, IsNodeOf}
use Rattle.isle_calls.specs.Stores.Values.{Stands, StandEach, Extends}
use Rattle.isle_calls.proofs.TreeRoad.Held.{stand_for_longer}
use Rattle.isle_calls.proofs.Stores.Values.{stand_longer}

-- values with a first one are it before the others
first_of : (g : Got Value) (gs : Got Values) (vs : Values) (x : Value) (xs : Values) → g ≡ gives x → gs ≡ gives xs → more g gs ≡ gives vs
    → vs ≡ more_values x xs
first_of g gs vs x xs p q e =
    let both : gives (more_values x xs) ≡ gives vs =
    sym (ap (λ (h : Got Value). more h gs) p ∙ ap (λ (h : Got Values). more (gives x) h) q) ∙ e in cc

module _ (stored : List Stored) where
  -- the number at a place stands for the value there
  pub nth_stands : (vs : Values) (ns : List ℕ) (i n : ℕ) → StandEach stored vs ns → slice_get ns i ≡ Some n
      → (v : Value) × (nth vs i ≡ gives v) × Stands stored v n
  nth_stands no_values [] i n each e = absurd cc
  nth_stands no_values (m ∷ ns) i n each e = absurd each
  nth_stands (more_values v vs) [] i n each e = absurd each
  nth_stands (more_values v vs) (m ∷ ns) zero n each e = let same : m ≡ n = cc in (v, refl, subst (Stands stored v) same each.0)
  nth_stands (more_values v vs) (m ∷ ns) (suc i) n each e = nth_stands vs ns i n each.1 e

  -- past the numbers there is no value
  pub nth_past : (vs : Values) (ns : List ℕ) (i : ℕ) (v : Value) → StandEach stored vs ns → length ns ≤ i → nth vs i ≡ gives v → ⊥
  nth_past no_values [] i v each past e = cc
  nth_past no_values (m ∷ ns) i v each past e = absurd each
  nth_past (more_values w ws) [] i v each past e = absurd each
  nth_past (more_values w ws) (m ∷ ns) zero v each past e = absurd (omega arith)
  nth_past (more_values w ws) (m ∷ ns) (suc i) v each past e = let low : length ns ≤ i = omega arith in nth_past ws ns i v each.1 low e

  -- the value is held
  pub held_told : (g : Got Value) (n : ℕ) (x : Holding) → TellsNumber stored (Some n) g
      → ((v : Value) → Stands stored v n → Holds stored x (held_value v)) → TellsHeld stored (Some x) (held g)
  held_told g n x (v, e, s) holds = (held_value v, ap held e, holds v s)

  pub held_none_told : (g : Got Value) → TellsNumber stored None g → TellsHeld stored None (held g)
  held_none_told g none h e = let (v, is, _) = ask_gives (λ (v : Value). gives (held_value v)) g h e in none v is

  -- what something that is held gives
  pub of_held_told : (f : Held → Got Held) (g : Got Held) (x : Holding) (r : Option Holding) → TellsHeld stored (Some x) g
      → ((h : Held) → Holds stored x h → TellsHeld stored r (f h)) → TellsHeld stored r (ask f g)
  of_held_told f g x r (h, e, s) told = subst (λ (q : Got Held). TellsHeld stored r (ask f q)) (sym e) (told h s)

  pub of_held_none : (f : Held → Got Held) (g : Got Held) → TellsHeld stored None g → TellsHeld stored None (ask f g)
  of_held_none f g none h e = let (y, is, _) = ask_gives f g h e in none y is

  -- the value that it is
  pub plain_told : (g : Got Held) (x : Holding) (n : Option ℕ) → TellsHeld stored (Some x) g
      → ((h : Held) → Holds stored x h → TellsNumber stored n (plain_of h)) → TellsNumber stored n (plain g)
  plain_told g x n (h, e, s) told = subst (λ (q : Got Held). TellsNumber stored n (plain q)) (sym e) (told h s)

  pub plain_none : (g : Got Held) → TellsHeld stored None g → TellsNumber stored None (plain g)
  plain_none g none v e = let (y, is, _) = ask_gives plain_of g v e in none y is

  -- what is known of sites are the values of these numbers
  abbrev pub AreNumbersOf : List ℕ → Got Values → Type 0
  AreNumbersOf ns g = (vs : Values) × (g ≡ gives vs) × StandEach stored vs ns

  -- a value more
  numbers_more : (at : ℕ → Got Held) (js : List ℕ) (j : ℕ) (ns : List ℕ) (n : ℕ) (vs : Values) (v : Value) → values_at at js ≡ gives vs
      → StandEach stored vs ns → plain (at j) ≡ gives v → Stands stored v n → AreNumbersOf (ns ++ n ∷ []) (values_at at (js ++ j ∷ []))
  numbers_more at [] j [] n vs v e each is s = (more_values v no_values, ap (λ (g : Got Value). more g (gives no_values)) is, (s, tt))
  numbers_more at [] j (m ∷ ns) n vs v e each is s =
      let same : vs ≡ no_values = cc in absurd (subst (λ (w : Values). StandEach stored w (m ∷ ns)) same each)
  numbers_more at (k ∷ js) j [] n vs v e each is s =
      let (x, xs, p, q) = more_gives (plain (at k)) (values_at at js) vs e in
      absurd (subst (λ (w : Values). StandEach stored w []) (first_of (plain (at k)) (values_at at js) vs x xs p q e) each)
  numbers_more at (k ∷ js) j (m ∷ ns) n vs v e each is s =
      let (x, xs, p, q) = more_gives (plain (at k)) (values_at at js) vs e in
      let front : Stands stored x m × StandEach stored xs ns =
      subst (λ (w : Values). StandEach stored w (m ∷ ns)) (first_of (plain (at k)) (values_at at js) vs x xs p q e) each in
      let (ws, is_more, more_each) = numbers_more at js j ns n xs v q front.1 is s in (
        more_values x ws,
        ap (λ (g : Got Value). more g (values_at at (js ++ j ∷ []))) p ∙ ap (λ (g : Got Values). more (gives x) g) is_more,
        (front.0, more_each),
      )

-- each site of some that have values has one
value_of_part : (at : ℕ → Got Held) (js : List ℕ) (j : ℕ) (ks : List ℕ) (vs : Values) → values_at at (js ++ j ∷ ks) ≡ gives vs
    → (v : Value) × (plain (at j) ≡ gives v)
value_of_part at [] j ks vs e = let (x, xs, p, q) = more_gives (plain (at j)) (values_at at ks) vs e in (x, p)
value_of_part at (k ∷ js) j ks vs e =
    let (x, xs, p, q) = more_gives (plain (at k)) (values_at at (js ++ j ∷ ks)) vs e in value_of_part at js j ks xs q

module _ (at : ℕ → Got Held) (sites : List BindingId) (i : ℕ) (d : BindingId) (low : i < length sites) where
  -- the value of the next site
  pub site_told : {old new : List Stored} (extends : Extends old new) (ns : List ℕ) (n : ℕ)
      → AreNumbersOf old ns (values_at at (numbers_of (take i sites))) → TellsNumber new (Some n) (plain (at (get_or sites i d).0))
      → AreNumbersOf new (ns ++ n ∷ []) (values_at at (numbers_of (take (i + 1) sites)))
  site_told {new = new} extends ns n (vs, e, each) (v, q, s) =
      let joined : numbers_of (take (i + 1) sites) ≡ numbers_of (take i sites) ++ (get_or sites i d).0 ∷ [] =
      map_more (λ (id : BindingId). id.0) sites i d low in
      subst (λ (js : List ℕ). AreNumbersOf new (ns ++ n ∷ []) (values_at at js)) (sym joined)
      (numbers_more new at (numbers_of (take i sites)) (get_or sites i d).0 ns n vs v e (stand_longer extends vs ns each) q s)

  -- where it has none, the sites have no values
  pub site_none : (new : List Stored) → TellsNumber new None (plain (at (get_or sites i d).0)) → (vs : Values)
      → values_at at (numbers_of sites) ≡ gives vs → ⊥
  site_none new none vs e =
      let parted : sites ≡ take i sites ++ get_or sites i d ∷ drop (suc i) sites = sym (take-append-drop i sites)
      ∙ ap (λ (l : List BindingId). take i sites ++ l) (drop-cons sites i d low) in
      let split : numbers_of sites ≡ numbers_of (take i sites) ++ (get_or sites i d).0 ∷ numbers_of (drop (suc i) sites) = ap numbers_of parted
      ∙ map-append (λ (id : BindingId). id.0) (take i sites) (get_or sites i d ∷ drop (suc i) sites) in
      let (v, q) = value_of_part at (numbers_of (take i sites)) (get_or sites i d).0 (numbers_of (drop (suc i) sites)) vs
      (sym (ap (values_at at) split) ∙ e) in
      none v q

-- a frame's arguments and bindings stay what they are in a longer store
pub around_longer : {old new : List Stored} (frame : Frame) (args : Values) (env : Env) → Extends old new → IsAround old frame args env
    → IsAround new frame args env
around_longer frame args env extends around = record {
  args_stand = stand_longer extends args frame.args.items around.args_stand;
  bound = stand_for_longer extends frame.bound env around.bound;
}

module _ (stored : List Stored) (o : Option (Vec ℕ Global)) (at : ℕ → Got Held) (sites fields : List BindingId) (same : sites ≡ fields)
    (told : TellsNumbers stored o (values_at at (numbers_of sites))) where
  -- the numbers of fields whose values are known, or that they aren't
  pub numbers_known : (numbers : Vec ℕ Global) (ns : List ℕ) → o ≡ Some numbers → ns ≡ numbers.items
      → AreNumbersOf stored ns (values_at at (numbers_of fields))
  numbers_known numbers ns e are = subst (λ (l : List BindingId). AreNumbersOf stored ns (values_at at (numbers_of l))) same
      (subst (λ (l : List ℕ). AreNumbersOf stored l (values_at at (numbers_of sites))) (sym are)
      (subst (λ (x : Option (Vec ℕ Global)). TellsNumbers stored x (values_at at (numbers_of sites))) e told))

  pub numbers_unknown : o ≡ None → (vs : Values) → values_at at (numbers_of fields) ≡ gives vs → ⊥
  numbers_unknown e vs are = subst (λ (x : Option (Vec ℕ Global)). TellsNumbers stored x (values_at at (numbers_of sites))) e told vs
      (ap (λ (l : List BindingId). values_at at (numbers_of l)) same ∙ are)

module _ (old : List Stored) (x : Option Holding) (new : List Stored) where
  -- data is made of values whose numbers are known
  pub variant_told : (ty : TypeId) (k : VariantId) (ns : List ℕ) (g : Got Values) → AreNumbersOf old ns g
      → ((v : Value) → IsNodeOf old v (Variant ty k ns) → TellsHeld new x (gives (held_value v))) → TellsHeld new x (held (made ty.0 k.0 g))
  variant_told ty k ns g (vs, e, each) told = subst (λ (q : Got Values). TellsHeld new x (held (made ty.0 k.0 q))) (sym e)
      (told (made_variant ty.0 k.0 vs) (λ n longer extends is. (ns, is, stand_longer extends vs ns each)))

  pub struct_told : (ty : TypeId) (ns : List ℕ) (g : Got Values) → AreNumbersOf old ns g
      → ((v : Value) → IsNodeOf old v (Struct ty ns) → TellsHeld new x (gives (held_value v))) → TellsHeld new x (held (built ty.0 g))
  struct_told ty ns g (vs, e, each) told = subst (λ (q : Got Values). TellsHeld new x (held (built ty.0 q))) (sym e)
      (told (made_struct ty.0 vs) (λ n longer extends is. (ns, is, stand_longer extends vs ns each)))

module _ (stored : List Stored) where
  -- of sites without values none is made
  pub variant_none : (ty k : ℕ) (g : Got Values) → ((vs : Values) → g ≡ gives vs → ⊥) → TellsHeld stored None (held (made ty k g))
  variant_none ty k g none h e =
      let (v, is, _) = ask_gives (λ (v : Value). gives (held_value v)) (made ty k g) h e in
      let (vs, are, _) = ask_gives (λ (xs : Values). gives (made_variant ty k xs)) g v is in none vs are

  pub struct_none : (ty : ℕ) (g : Got Values) → ((vs : Values) → g ≡ gives vs → ⊥) → TellsHeld stored None (held (built ty g))
  struct_none ty g none h e =
      let (v, is, _) = ask_gives (λ (v : Value). gives (held_value v)) (built ty g) h e in
      let (vs, are, _) = ask_gives (λ (xs : Values). gives (made_struct ty xs)) g v is in none vs are
