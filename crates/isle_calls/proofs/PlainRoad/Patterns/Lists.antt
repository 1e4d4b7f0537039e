-- Lists of patterns that are read one after another.
use Rattle.std.proofs.Common.{◌≡◌, inl, inr, ◌==◌, ◌+◌, ◌<◌, ◌≤◌, ℕ, List, [], ◌∷◌, Bool as Truth, true, false, Some, slice_get, refl, sym, subst}
use Rattle.std.proofs.Common.{length, drop, get_or, drop_of_length-le, length-drop, arith, if◌then◌else◌, IsTrue, ◌↔◌}
use Rattle.std.proofs.lemmas.Bool.{false≢true}
use Rattle.std.proofs.lemmas.Bool.Decides.{Decides-eqb}
use Rattle.std.proofs.lemmas.Option.{slice_get_within, slice_get_cases, get_or_from_slice_get}
use Rattle.isle_rules.specs.declared.rules.Pattern.{Pattern}
use Rattle.isle_meaning.specs.Values.{Value}
use Rattle.isle_meaning.specs.GroundValues.{IsValueOf}
use Rattle.isle_meaning.specs.Worlds.{Answers}
use Rattle.isle_rules.proofs.Visiting.VisitRuns.{cut}
use Rattle.isle_calls.specs.declared.plain.fitting.Fitted.{Fitted}
use Rattle.isle_calls.specs.declared.plain.fitting.Fitted.TheVariants.{Fits, Leaves, IllTyped as UnfitCall}
use Rattle.isle_program.specs.declared.program.Program.{Program}
use Rattle.isle_calls.specs.declared.store.Stored.{Stored}
use Rattle.isle_calls.specs.declared.plain.variables.Variables.{Variables}
use Rattle.isle_calls.specs.Inside.Plain.Fitting.{AllReads, EachReads, TellsFit, shown_in, all_shown_in, FitTold}
use Rattle.isle_program.specs.Meanings.{checked}
use Rattle.isle_meaning.specs.Outcomes.{Outcome, missing}
use Rattle.isle_calls.specs.Stores.Values.{Extends}
use Rattle.isle_calls.proofs.PlainRoad.Patterns.Numbers.{AllGo, EachGo, all_go, each_go, all_missing, all_more, all_done, each_done}

module _ (program : Program) (w : Answers) (types : ℕ → ℕ) (P : Outcome (ℕ → Value) → Type 0) (patterns : List Pattern) where
  -- the patterns from a place on
  abbrev pub AllFrom : List ℕ → List Stored → Variables → ℕ → Type 0
  AllFrom numbers stored variables i =
      AllReads (checked program) w types stored variables (all_shown_in program (drop i patterns)) (drop i numbers) P

  -- the same on one value
  abbrev pub EachFrom : Value → ℕ → ℕ → List Stored → Variables → ℕ → Type 0
  EachFrom v u n stored variables i =
      EachReads (checked program) w types stored variables (all_shown_in program (drop i patterns)) v
      u n P

  -- where a pattern doesn't fit its value, the others aren't read
  pub all_gone : (numbers : List ℕ) (stored : List Stored) (variables : Variables) (i : ℕ) (fitted : Fitted) → (fitted ≡ Fits → ⊥)
      → AllGo (checked program) w types P stored variables (all_shown_in program (drop i patterns))
      (drop i numbers) fitted → TellsFit (checked program) stored variables P fitted
  all_gone numbers stored variables i Fits differs h = absurd (differs refl)
  all_gone numbers stored variables i Leaves differs h = h
  all_gone numbers stored variables i (UnfitCall term args) differs h = h

  -- the same on one value
  pub each_gone : (v : Value) (u n : ℕ) (stored : List Stored) (variables : Variables) (i : ℕ) (fitted : Fitted) → (fitted ≡ Fits → ⊥)
      → EachGo (checked program) w types P stored variables (all_shown_in program (drop i patterns))
      v u n fitted → TellsFit (checked program) stored variables P fitted
  each_gone v u n stored variables i Fits differs h = absurd (differs refl)
  each_gone v u n stored variables i Leaves differs h = h
  each_gone v u n stored variables i (UnfitCall term args) differs h = h

  -- the pattern at a place is read on the number there
  pub all_step : (numbers : List ℕ) (old new : List Stored) (before after : Variables) (i : ℕ) (x : Pattern) (n : ℕ) (fitted : Fitted)
      → i < length patterns → x ≡ get_or patterns i x → slice_get numbers i ≡ Some n → Extends old new
      → FitTold program w old new before after n fitted (shown_in program x) → AllFrom numbers old before i
      → AllGo (checked program) w types P new after (all_shown_in program (drop (i + 1) patterns)) (drop (i + 1) numbers) fitted
  all_step numbers old new before after i x n fitted m is at extends told reads =
      let one : drop i patterns ≡ x ∷ drop (i + 1) patterns = cut patterns i x m is in
      let other : drop i numbers ≡ n ∷ drop (i + 1) numbers =
      cut numbers i n (slice_get_within numbers i n at) (sym (get_or_from_slice_get numbers i n n at)) in
      let cutted = subst (λ (ns : List ℕ). AllReads (checked program) w types old before
      (all_shown_in program (x ∷ drop (i + 1) patterns)) ns P) other
      (subst (λ (ps : List Pattern). AllReads (checked program) w types old before
      (all_shown_in program ps) (drop i numbers) P) one reads) in
      all_go (checked program) w types P old new extends before after (shown_in program x) n fitted
      (λ v a u t o s h. told v a types u t o s h) (all_shown_in program (drop (i + 1) patterns)) (drop (i + 1) numbers) cutted

  -- the same on one number
  pub each_step : (v : Value) (u n : ℕ) (old new : List Stored) (before after : Variables) (i : ℕ) (x : Pattern) (fitted : Fitted)
      → IsValueOf (checked program).values v u
      → i < length patterns → x ≡ get_or patterns i x → Extends old new
      → FitTold program w old new before after n fitted (shown_in program x) → EachFrom v u n old before i
      → EachGo (checked program) w types P new after (all_shown_in program (drop (i + 1) patterns))
      v u n fitted
  each_step v u n old new before after i x fitted of m is extends told reads =
      let one : drop i patterns ≡ x ∷ drop (i + 1) patterns = cut patterns i x m is in
      let cutted = subst (λ (ps : List Pattern). EachReads (checked program) w types old before
      (all_shown_in program ps) v u n P) one reads in
      each_go (checked program) w types P old new extends before after (shown_in program x) n fitted
      (λ v a u t o s h. told v a types u t o s h) (all_shown_in program (drop (i + 1) patterns)) v u of cutted

  -- where it fits, the others are left
  pub all_next : (numbers : List ℕ) (old new : List Stored) (before after : Variables) (i : ℕ) (x : Pattern) (n : ℕ) (fitted : Fitted)
      → i < length patterns → x ≡ get_or patterns i x → slice_get numbers i ≡ Some n → Extends old new
      → FitTold program w old new before after n fitted (shown_in program x) → AllFrom numbers old before i
      → fitted ≡ Fits → AllFrom numbers new after (i + 1)
  all_next numbers old new before after i x n fitted m is at extends told reads e =
      subst (AllGo (checked program) w types P new after (all_shown_in program (drop (i + 1) patterns))
      (drop (i + 1) numbers)) e (all_step numbers old new before after i x n fitted m is at extends told reads)

  -- else they aren't read
  pub all_left_at : (numbers : List ℕ) (old new : List Stored) (before after : Variables) (i : ℕ) (x : Pattern) (n : ℕ)
      (fitted last : Fitted)
      → i < length patterns → x ≡ get_or patterns i x → slice_get numbers i ≡ Some n → Extends old new
      → FitTold program w old new before after n fitted (shown_in program x) → AllFrom numbers old before i
      → fitted ≡ last → (last ≡ Fits → ⊥) → TellsFit (checked program) new after P last
  all_left_at numbers old new before after i x n fitted last m is at extends told reads e differs =
      all_gone numbers new after (i + 1) last differs (subst (AllGo (checked program) w types P new after
      (all_shown_in program (drop (i + 1) patterns))
      (drop (i + 1) numbers)) e (all_step numbers old new before after i x n fitted m is at extends told reads))

  -- the same on one number
  pub each_next : (v : Value) (u n : ℕ) (old new : List Stored) (before after : Variables) (i : ℕ) (x : Pattern) (fitted : Fitted)
      → IsValueOf (checked program).values v u
      → i < length patterns → x ≡ get_or patterns i x → Extends old new
      → FitTold program w old new before after n fitted (shown_in program x) → EachFrom v u n old before i
      → fitted ≡ Fits → EachFrom v u n new after (i + 1)
  each_next v u n old new before after i x fitted of m is extends told reads e =
      subst (EachGo (checked program) w types P new after (all_shown_in program (drop (i + 1) patterns)) v u n) e
      (each_step v u n old new before after i x fitted of m is extends told reads)

  -- where it does not fit, the others are not read
  pub each_left_at : (v : Value) (u n : ℕ) (old new : List Stored) (before after : Variables) (i : ℕ) (x : Pattern) (fitted last : Fitted)
      → IsValueOf (checked program).values v u
      → i < length patterns → x ≡ get_or patterns i x → Extends old new
      → FitTold program w old new before after n fitted (shown_in program x) → EachFrom v u n old before i
      → fitted ≡ last → (last ≡ Fits → ⊥) → TellsFit (checked program) new after P last
  each_left_at v u n old new before after i x fitted last of m is extends told reads e differs =
      each_gone v u n new after (i + 1) last differs (subst (EachGo (checked program) w types P new after
      (all_shown_in program (drop (i + 1) patterns)) v u n) e (each_step v u n old new before after i x fitted of m is extends told reads))

  -- the pattern at the place is read on no number
  short_at : (numbers : List ℕ) (stored : List Stored) (variables : Variables) (i : ℕ) (x : Pattern) → i < length patterns
      → x ≡ get_or patterns i x → length numbers ≤ i → AllFrom numbers stored variables i → P missing
  short_at numbers stored variables i x m is past reads =
      let one : drop i patterns ≡ x ∷ drop (i + 1) patterns = cut patterns i x m is in
      let other : drop i numbers ≡ [] = drop_of_length-le numbers {i = i} past in
      let cutted = subst (λ (ns : List ℕ). AllReads (checked program) w types stored variables
      (all_shown_in program (x ∷ drop (i + 1) patterns)) ns P) other
      (subst (λ (ps : List Pattern). AllReads (checked program) w types stored variables
      (all_shown_in program ps) (drop i numbers) P) one reads) in
      all_missing (checked program) w types P stored variables (all_shown_in program (drop (i + 1) patterns)) (shown_in program x) cutted

  -- there is no number for the pattern at a place
  pub all_short : (numbers : List ℕ) (stored : List Stored) (variables : Variables) (i : ℕ) → i < length patterns → length numbers ≤ i
      → AllFrom numbers stored variables i → P missing
  all_short numbers stored variables i m past reads = elim (slice_get_cases patterns i).1 [
    | inl h ↦ short_at numbers stored variables i (h.0) m (sym (h.3)) past reads
    | inr h ↦ (let over = h.0 in absurd (omega (arith, over)))
  ]

  -- no pattern is left
  past_all : (stored : List Stored) (variables : Variables) (i : ℕ) (left : List ℕ) (b : Truth) → length patterns ≤ i → IsTrue b
      ↔ (length left ≡ 0)
      → AllReads (checked program) w types stored variables (all_shown_in program (drop i patterns))
      left P
      → TellsFit (checked program) stored variables P (if b then Fits else Leaves)
  past_all stored variables i [] true past level reads =
      let none : drop i patterns ≡ [] = drop_of_length-le patterns {i = i} past in
      all_done (checked program) w types P stored variables (subst (λ (ps : List Pattern). AllReads (checked program) w types stored
      variables (all_shown_in program ps) [] P) none reads)
  past_all stored variables i [] false past level reads = absurd (false≢true (level.1 refl))
  past_all stored variables i (n ∷ ns) true past level reads = let e = level.0 refl in absurd (omega (arith, e))
  past_all stored variables i (n ∷ ns) false past level reads =
      let none : drop i patterns ≡ [] = drop_of_length-le patterns {i = i} past in
      all_more (checked program) w types P stored variables n ns (subst (λ (ps : List Pattern). AllReads (checked program) w types stored
      variables (all_shown_in program ps) (n ∷ ns) P) none reads)

  -- all patterns are read: they fit where no number is left
  pub all_past : (numbers : List ℕ) (stored : List Stored) (variables : Variables) (i : ℕ) → i ≡ length patterns → i ≤ length numbers
      → AllFrom numbers stored variables i
      → TellsFit (checked program) stored variables P (if length patterns == length numbers then Fits else Leaves)
  all_past numbers stored variables i e within reads =
      let both = Decides-eqb (length patterns) (length numbers) in
      past_all stored variables i (drop i numbers) (length patterns == length numbers) (omega (arith, e))
      (λ t. (let z = both.0 t in omega (arith, length-drop {A = ℕ}, z, e)), λ z. both.1 (omega (arith, length-drop {A = ℕ}, z, e))) reads

  -- all patterns are read on one number
  pub each_past : (v : Value) (u n : ℕ) (stored : List Stored) (variables : Variables) (i : ℕ) → length patterns ≤ i
      → EachFrom v u n stored variables i → TellsFit (checked program) stored variables P Fits
  each_past v u n stored variables i past reads =
      let none : drop i patterns ≡ [] = drop_of_length-le patterns {i = i} past in
      each_done (checked program) w types P stored variables v u n
      (subst (λ (ps : List Pattern). EachReads (checked program) w types stored variables
      (all_shown_in program ps) v u n P) none reads)
