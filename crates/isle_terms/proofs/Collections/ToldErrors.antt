-- Errors that are told once, one error after the other.
use Rattle.std.proofs.Common.{◌≡◌, ◌⊎◌, inl, inr, ℕ, zero, suc, ◌<◌, Bool, true, false, not, ◌||◌, List, [], ◌∷◌, ◌++◌, length, Some, None, refl, sym}
use Rattle.std.proofs.Common.{ap, subst, ◌∙◌, arith}
use Rattle.std.specs.Prelude.{Option, slice_get, All, Vec, MatchBool}
use Rattle.std.specs.Global.{Global}
use Rattle.std.specs.Bool.{Decides}
use Rattle.std.proofs.lemmas.Bool.{not-true, not-false}
use Rattle.std.proofs.lemmas.List.Elements.{All-nil, All-cons, All-append, All-weaker}
use Rattle.std.proofs.lemmas.Option.{same_Some, slice_get_within}
use Rattle.std.proofs.lemmas.Slice.Eq.{bytes_eq-Decides}
use Rattle.isle_ast.specs.declared.pos.Pos.{Pos}
use Rattle.isle_ast.specs.declared.error.Error.{Error}
use Rattle.isle_ast.specs.declared.refusal.Refusal.{Refusal}
use Rattle.isle_ast.specs.declared.refusal.Refusal.TheVariants.{Fault, Memory}
use Rattle.isle_ast.specs.Errors.{IfFault, IsFaultAnd}
use Rattle.isle_ast.specs.declared.ast.Def.{Def}
use Rattle.isle_ast.proofs.Trees.DefEquality.{pos-decides}
use Rattle.isle_types.specs.Environment.{Environment}
use Rattle.isle_containers.specs.StableMaps.{has}
use Rattle.isle_types.specs.TypeFaults.{IsTypeFault}
use Rattle.isle_types.proofs.Zipped.{all_at}
use Rattle.isle_rules.specs.Definitions.{IsAmong}
use Rattle.isle_terms.specs.TypingFaults.{BreaksTyping, AreTypingFaults}
use Rattle.isle_terms.specs.Inside.Collecting.Checks.{Checks}
use Rattle.isle_terms.specs.Inside.Collecting.Repeats.{fault_key, same_key, MeetsKey, TellAlike, Tell, AreToldOf}
use Rattle.isle_terms.proofs.EqualTrees.{both, through}
use Rattle.isle_terms.proofs.Collections.AddedEdges.{among_before, among_last}

key-decides : (a b : Pos × List ℕ) → Decides (same_key a b) (a ≡ b)
key-decides a b =
    through (both _ _ (pos-decides a.0 b.0) (bytes_eq-Decides a.1 b.1)) (λ h i. (h.0 i, h.1 i)) (λ e. (ap (λ k. k.0) e, ap (λ k. k.1) e))

-- of two answers one is yes
either : (s t : Bool) → (s || t) ≡ true → (s ≡ true) ⊎ (t ≡ true)
either true t is = inl refl
either false t is = inr is

or_first : (s t : Bool) → s ≡ true → (s || t) ≡ true
or_first true t is = refl
or_first false t is = absurd (cc)

or_second : (s t : Bool) → t ≡ true → (s || t) ≡ true
or_second true t is = refl
or_second false t is = is

-- an item of a list with one more: it was there before, or it is the last
item_pushed : {X : Type 0} (xs : List X) (last : X) (i : ℕ) (x : X) → slice_get (xs ++ last ∷ []) i ≡ Some x
    → (slice_get xs i ≡ Some x) ⊎ ((i ≡ length xs) × (last ≡ x))
item_pushed [] last zero x is = inr (refl, same_Some last x is)
item_pushed [] last (suc i) x is = absurd (cc)
item_pushed (first ∷ others) last zero x is = inl is
item_pushed (first ∷ others) last (suc i) x is =
    elim (item_pushed others last i x is) [ inl before ↦ inl before | inr here ↦ inr (ap suc here.0, here.1) ]

-- what is met has the key of an error, if it has one
abbrev AreKept : List (Pos × List ℕ) → Error → Type 0
AreKept met error = (key : Pos × List ℕ) → fault_key error ≡ Some key → has same_key met key ≡ true

-- the places and lines that were met are those of the errors that are told
pub record AreMet (told : List Error) (met : List (Pos × List ℕ)) : Type 0 where
  pub known : (key : Pos × List ℕ) → has same_key met key ≡ true → (first : Error) × IsAmong told first × (fault_key first ≡ Some key)
  pub kept : All (AreKept met) told

-- what is told of errors so far
pub record Telling (errors told : List Error) (met : List (Pos × List ℕ)) : Type 0 where
  pub so_far : AreToldOf errors told
  pub keys : AreMet told met

nothing : (i : ℕ) (a : Error) → slice_get [] i ≡ Some a → ⊥
nothing i a is = cc

unmet : (key : Pos × List ℕ) → has same_key [] key ≡ true → ⊥
unmet key is = cc

-- of no errors none are told
pub none_told : (errors told : List Error) (met : List (Pos × List ℕ)) → errors ≡ [] → told ≡ [] → met ≡ [] → Telling errors told met
none_told errors told met none first empty = record {
  so_far = record {
    among = subst (All (IsAmong errors)) (sym first) (All-nil (IsAmong errors));
    all = subst (All (Tell told)) (sym none) (All-nil (Tell told));
    once = λ i j a b less at_i at_j alike. absurd (nothing i a (subst (λ xs. slice_get xs i ≡ Some a) first at_i));
  };
  keys = record {
    known = λ key is. absurd (unmet key (subst (λ keys. has same_key keys key ≡ true) empty is));
    kept = subst (All (AreKept met)) (sym first) (All-nil (AreKept met));
  };
}

-- an error that tells something new
told_more : (errors told : List Error) (error : Error) → ((i : ℕ) (first : Error) → slice_get told i ≡ Some first → TellAlike first error → ⊥)
    → AreToldOf errors told → AreToldOf (errors ++ error ∷ []) (told ++ error ∷ [])
told_more errors told error new before = record {
  among = All-append (IsAmong (errors ++ error ∷ [])) told (error ∷ [])
      (All-weaker (IsAmong errors) (IsAmong (errors ++ error ∷ [])) (λ x among. among_before errors error x among) told before.among)
      (All-cons (IsAmong (errors ++ error ∷ [])) error [] (among_last errors error) (All-nil (IsAmong (errors ++ error ∷ []))));
  all = All-append (Tell (told ++ error ∷ [])) errors (error ∷ [])
      (All-weaker (Tell told) (Tell (told ++ error ∷ [])) (λ x tell. (tell.0, among_before told error tell.0 tell.1, tell.2)) errors before.all)
      (All-cons (Tell (told ++ error ∷ [])) error [] (error, among_last told error, inl refl) (All-nil (Tell (told ++ error ∷ []))));
  once = λ i j a b less at_i at_j alike.
      elim (item_pushed told error j b at_j) [
        | inl early ↦ elim (item_pushed told error i a at_i) [
          | inl first ↦ before.once i j a b less first early alike
          | inr last ↦ let within = slice_get_within told j b early in absurd (omega (arith, less, last.0, within))
        ]
        | inr late ↦ elim (item_pushed told error i a at_i) [
          | inl first ↦ new i a first (subst (TellAlike a) (sym late.1) alike)
          | inr last ↦ absurd (omega (arith, less, last.0, late.0))
        ]
      ];
}

-- an error that one tells already
told_before : (errors told : List Error) (error : Error) → Tell told error → AreToldOf errors told → AreToldOf (errors ++ error ∷ []) told
told_before errors told error tell before = record {
  among = All-weaker (IsAmong errors) (IsAmong (errors ++ error ∷ [])) (λ x among. among_before errors error x among) told before.among;
  all = All-append (Tell told) errors (error ∷ []) before.all (All-cons (Tell told) error [] tell (All-nil (Tell told)));
  once = before.once;
}

-- what an error adds to what was met
module _ (told : List Error) (error : Error) (met more : List (Pos × List ℕ)) where
  -- an error without a key
  keyless : fault_key error ≡ None → more ≡ met → AreMet told met → AreMet (told ++ error ∷ []) more
  keyless none same before = record {
    known = λ key is. let found = before.known key (subst (λ keys. has same_key keys key ≡ true) same is) in
        (found.0, among_before told error found.0 found.1, found.2);
    kept = subst (λ keys. All (AreKept keys) (told ++ error ∷ [])) (sym same)
        (All-append (AreKept met) told (error ∷ []) before.kept
        (All-cons (AreKept met) error [] (λ key is. absurd (cc)) (All-nil (AreKept met))));
  }

  module _ (key : Pos × List ℕ) (is_key : fault_key error ≡ Some key)
      (grown : (other : Pos × List ℕ) → has same_key more other ≡ (same_key key other || has same_key met other)) where
    -- what was met is met
    still_met : (other : Pos × List ℕ) → has same_key met other ≡ true → has same_key more other ≡ true
    still_met other is = grown other ∙ or_second (same_key key other) (has same_key met other) is

    -- the key itself is met
    now_met : has same_key more key ≡ true
    now_met = grown key ∙ or_first (same_key key key) (has same_key met key) ((key-decides key key).1 refl)

    -- a key that was met before
    met_before : has same_key met key ≡ true → AreMet told met → AreMet told more
    met_before was before = record {
      known = λ other is. elim (either (same_key key other) (has same_key met other) (sym (grown other) ∙ is)) [
        | inl same ↦ before.known other (subst (λ k. has same_key met k ≡ true) ((key-decides key other).0 same) was)
        | inr old ↦ before.known other old
      ];
      kept = All-weaker (AreKept met) (AreKept more) (λ one kept other is. still_met other (kept other is)) told before.kept;
    }

    -- a new key, whose error is told
    met_now : AreMet told met → AreMet (told ++ error ∷ []) more
    met_now before = record {
      known = λ other is. elim (either (same_key key other) (has same_key met other) (sym (grown other) ∙ is)) [
        | inl same ↦ (error, among_last told error, is_key ∙ ap Some ((key-decides key other).0 same))
        | inr old ↦ let found = before.known other old in (found.0, among_before told error found.0 found.1, found.2)
      ];
      kept = All-append (AreKept more) told (error ∷ [])
          (All-weaker (AreKept met) (AreKept more) (λ one kept other is. still_met other (kept other is)) told before.kept)
          (All-cons (AreKept more) error []
          (λ other is. subst (λ k. has same_key more k ≡ true) (same_Some key other (sym is_key ∙ is)) now_met) (All-nil (AreKept more)));
    }

    -- none that is told has a new key
    new_key : has same_key met key ≡ false → AreMet told met → (i : ℕ) (first : Error) → slice_get told i ≡ Some first → TellAlike first error → ⊥
    new_key new before i first at alike =
        let kept = all_at (AreKept met) told before.kept i first at alike.0 alike.1 in
        let same : key ≡ alike.0 = same_Some key alike.0 (sym is_key ∙ alike.2) in
        let was : has same_key met key ≡ true = subst (λ k. has same_key met k ≡ true) (sym same) kept in
        cc

-- one error more
tell_by : (found : Option (Pos × List ℕ)) (errors told : List Error) (error : Error) (met more : List (Pos × List ℕ)) (is_new : Bool)
    → fault_key error ≡ found → MeetsKey found met is_new more → Telling errors told met
    → (is_new ≡ true → Telling (errors ++ error ∷ []) (told ++ error ∷ []) more) × (is_new ≡ false → Telling (errors ++ error ∷ []) told more)
tell_by None errors told error met more is_new is meets before = (
  λ new. record {
    so_far = told_more errors told error (λ i first at alike. absurd (cc (is, alike.2))) before.so_far;
    keys = keyless told error met more is meets.1 before.keys;
  },
  λ old. absurd (cc (meets.0, old)),
)
tell_by (Some key) errors told error met more is_new is meets before = (
  λ new.
      let unmet : has same_key met key ≡ false = not-true (has same_key met key) (sym meets.0 ∙ new) in
      record {
        so_far = told_more errors told error (new_key told error met more key is meets.1 unmet before.keys) before.so_far;
        keys = met_now told error met more key is meets.1 before.keys;
      },
  λ old.
      let was : has same_key met key ≡ true = not-false (has same_key met key) (sym meets.0 ∙ old) in
      let found = before.keys.known key was in
      record {
        so_far = told_before errors told error (found.0, found.1, inr (key, found.2, is)) before.so_far;
        keys = met_before told error met more key is meets.1 was before.keys;
      },
)

-- one error more, which is told if it tells something new
pub next_told : {errors told new_list : List Error} (error : Error) (found : Option (Pos × List ℕ)) {met more : List (Pos × List ℕ)}
    (is_new : Bool) → found ≡ fault_key error → MeetsKey found met is_new more
    → MatchBool is_new (new_list ≡ told ++ error ∷ []) (new_list ≡ told) → Telling errors told met → Telling (errors ++ error ∷ []) new_list more
next_told {errors} {told} {new_list} error found {met} {more} true key meets is before =
    subst (λ list. Telling (errors ++ error ∷ []) list more) (sym is)
    ((tell_by found errors told error met more true (sym key) meets before).0 refl)
next_told {errors} {told} {new_list} error found {met} {more} false key meets is before =
    subst (λ list. Telling (errors ++ error ∷ []) list more) (sym is)
    ((tell_by found errors told error met more false (sym key) meets before).1 refl)

-- a list with an item isn't empty
some_among : {X : Type 0} (xs : List X) (x : X) → IsAmong xs x → 0 < length xs
some_among xs x among = let within = slice_get_within xs among.0 x among.1 in omega (arith, within)

-- where there are errors some are told
some_told : (errors told : List Error) → 0 < length errors → All (Tell told) errors → 0 < length told
some_told [] told some all = absurd (omega (arith, some))
some_told (error ∷ errors) told some all = let tell = all_at (Tell told) (error ∷ errors) all zero error refl in some_among told tell.0 tell.1

-- what is told of type errors that checks added to none, one at least, is what a refusal lists
pub told_is_listed : (types : Environment) (expands : Bool) (levels max : ℕ) (defs : List Def) {Kept : Type 0} (errors : List Error)
    (refusal answer : Refusal (Vec Error Global)) → Checks (BreaksTyping types expands levels defs) Kept [] errors
    → IfFault refusal (λ all. (all.items ≡ errors) × (0 < length errors))
    → IfFault answer (λ told. IsFaultAnd refusal (λ all. AreToldOf all.items told.items))
    → IfFault answer (λ told. AreTypingFaults types expands levels max defs told.items)
told_is_listed types expands levels max defs errors refusal (Memory e) checks listed told = tt
told_is_listed types expands levels max defs errors (Memory e) (Fault told) checks listed told_of = absurd told_of
told_is_listed types expands levels max defs errors (Fault all) (Fault told) checks listed told_of =
    let broken : All (IsTypeFault (BreaksTyping types expands levels defs)) all.items =
    subst (All (IsTypeFault (BreaksTyping types expands levels defs))) (sym (listed.0 ∙ checks.all)) checks.faults in
    inr (
      All-weaker (IsAmong all.items) (IsTypeFault (BreaksTyping types expands levels defs))
          (λ error among. all_at (IsTypeFault (BreaksTyping types expands levels defs)) all.items broken among.0 error among.1) told.items
          told_of.among,
      some_told all.items told.items (subst (λ xs. 0 < length xs) (sym listed.0) listed.1) told_of.all,
    )
