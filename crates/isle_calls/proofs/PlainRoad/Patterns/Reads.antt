-- What reading a pattern tells, form by form.
use Rattle.std.proofs.Common.{◌≡◌, ◌↔◌, ◌==◌, ℕ, ℤ, List, Bool as Truth, Some, Vec, slice_get, refl, sym, subst, IsTrue, if◌then◌else◌}
use Rattle.std.specs.Global.{Global}
use Rattle.isle_rules.specs.TypedRules.{TypedPattern, typed_bind, typed_var, typed_bool, typed_int, typed_prim, typed_term, typed_wildcard}
use Rattle.isle_rules.specs.TypedRules.{typed_and, TypedPatterns}
use Rattle.isle_meaning.specs.Values.{Value, bool_value, int_value, constant_value}
use Rattle.isle_meaning.specs.GroundValues.{IsValueOf}
use Rattle.isle_meaning.specs.Typing.{part_types}
use Rattle.isle_meaning.specs.Worlds.{Answers}
use Rattle.isle_calls.specs.declared.plain.fitting.Fitted.{Fitted}
use Rattle.isle_calls.specs.declared.plain.fitting.Fitted.TheVariants.{Fits, Leaves}
use Rattle.isle_calls.specs.declared.host.Told.TheVariants.{Gives}
use Rattle.isle_program.specs.declared.program.Program.{Program}
use Rattle.isle_calls.specs.declared.store.Stored.{Stored}
use Rattle.isle_calls.specs.declared.store.Stored.TheVariants.{Bool, Int, Const}
use Rattle.isle_calls.specs.declared.plain.variables.Variables.{Variables}
use Rattle.isle_program.specs.Meanings.{checked}
use Rattle.isle_meaning.specs.Outcomes.{given}
use Rattle.isle_meaning.specs.PlainRuns.{PatternRuns, PatternsRun}
use Rattle.isle_calls.specs.Stores.Values.{Stands, Extends}
use Rattle.isle_calls.specs.Inside.Plain.Fitting.{number_of_variable, FitTold, FitAllTold, FitEachTold, OpensInto}
use Rattle.isle_program.proofs.SoundPrograms.Known.{sound_of}
use Rattle.isle_calls.proofs.PlainRoad.Patterns.Numbers.{hold_longer, fit_leads, test_told, node_decides, opens_run, opens_typed, bind_told, bind_left}
use Rattle.isle_calls.proofs.Stores.Values.{stands_longer}

module _ (program : Program) (w : Answers) where
  module _ (stored : List Stored) (variables : Variables) (ty n : ℕ) where
    -- what fits each value
    pub reads_wildcard : FitTold program w stored stored variables variables n Fits (typed_wildcard ty)
    reads_wildcard = λ v a types u t i s h. (a, h, refl)

    -- a variable that is bound
    pub reads_var : (k : ℕ) (b : Truth)
        → ((v x : Value) → Stands stored v (number_of_variable variables k) → Stands stored x n → IsTrue b ↔ (v ≡ x))
        → FitTold program w stored stored variables variables n (if b then Fits else Leaves) (typed_var ty k)
    reads_var k b same = λ v a types u t i s h.
        test_told (checked program) stored variables a (a k ≡ v) b (same (a k) v (h k) s) h

    -- a truth value
    pub reads_bool : (val b : Truth) → IsTrue b ↔ (slice_get stored n ≡ Some (Bool val))
        → FitTold program w stored stored variables variables n (if b then Fits else Leaves) (typed_bool ty val)
    reads_bool val b same = λ v a types u t i s h.
        test_told (checked program) stored variables a (v ≡ bool_value val) b (node_decides stored v (bool_value val) n b s same) h

    -- an integer
    pub reads_int : (val : ℤ) (b : Truth) → IsTrue b ↔ (slice_get stored n ≡ Some (Int val))
        → FitTold program w stored stored variables variables n (if b then Fits else Leaves) (typed_int ty val)
    reads_int val b same = λ v a types u t i s h.
        test_told (checked program) stored variables a (v ≡ int_value val) b (node_decides stored v (int_value val) n b s same) h

    -- a named constant
    pub reads_prim : (name : List ℕ) (b : Truth) → IsTrue b ↔ (slice_get stored n ≡ Some (Const name))
        → FitTold program w stored stored variables variables n (if b then Fits else Leaves) (typed_prim ty name)
    reads_prim name b same = λ v a types u t i s h.
        test_told (checked program) stored variables a (v ≡ constant_value name) b (node_decides stored v (constant_value name) n
        b s same) h

  module _ (old new : List Stored) (before after : Variables) (ty n : ℕ) where
    -- a pattern that fits, and whose value is bound
    pub reads_bound : (k : ℕ) (q : TypedPattern) (bound : Variables) → Extends old new
        → ((j : ℕ) → number_of_variable bound j ≡ (if j == k then n else number_of_variable after j))
        → FitTold program w old new before after n Fits q → FitTold program w old new before bound n Fits (typed_bind ty k q)
    reads_bound k q bound extends e told = λ v a types u t i s h.
        bind_told (checked program) w new after bound a q ty k n v (stands_longer extends v n s) e (told v a types u (t.2) i s h)

    -- one that doesn't fit
    pub reads_unbound : (k : ℕ) (q : TypedPattern) (fitted : Fitted) → (fitted ≡ Fits → ⊥)
        → FitTold program w old new before after n fitted q → FitTold program w old new before after n fitted (typed_bind ty k q)
    reads_unbound k q fitted differs told = λ v a types u t i s h.
        bind_left (checked program) w new after a q ty k v fitted differs (told v a types u (t.2) i s h)

    -- patterns that all fit the value
    pub reads_and : (qs : TypedPatterns) (fitted : Fitted) → FitEachTold program w old new before after n fitted qs
        → FitTold program w old new before after n fitted (typed_and ty qs)
    reads_and qs fitted told = λ v a types u t i s h. told v a types u (t.1) i s h

    -- a term's pattern whose value is opened into others
    pub reads_opened : (mid : List Stored) (t : ℕ) (qs : TypedPatterns) (ns : Vec ℕ Global) (fitted : Fitted) → Extends old mid
        → OpensInto program w old mid ty t n (Gives ns) → FitAllTold program w mid new before after ns.items fitted qs
        → FitTold program w old new before after n fitted (typed_term ty t qs)
    reads_opened mid t qs ns fitted extends opened told = λ v a types u typed i s h.
        let shape = (checked program).terms.shape t in
        let (vs, stand, o) = opened v s (subst (IsValueOf (checked program).values v) (sym (typed.1)) i) in
        fit_leads (checked program) new after (PatternsRun (checked program) w a qs vs)
        (PatternRuns (checked program) w a (typed_term ty t qs) v) fitted
        (λ r run. opens_run (checked program) w shape ty t v (λ vs r. PatternsRun (checked program) w a qs vs r) (given vs) r o run)
        (told vs a types (part_types (checked program).terms shape ty t) (typed.2)
        (opens_typed (checked program) w (sound_of program).known.sound shape ty t u v vs (typed.0) i o) stand (hold_longer extends before a h))
