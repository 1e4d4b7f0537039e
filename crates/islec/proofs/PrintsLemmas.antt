-- What is told of files one after another, and which are put in place.
use Rattle.std.proofs.Common.{◌≡◌, ◌≢◌, ℕ, zero, suc, Bool, true, false, cond, List, [], ◌∷◌, ◌++◌, ◌+◌, ◌<◌, ◌≤◌, length, take, take_all, add-one, ap, sym, ◌∙◌, refl, inl}
use Rattle.std.proofs.Common.{append_assoc, append-nil, subst, arith, IfSome, slice_get, Option, Some, None, Result, Err, map, string_bytes, String}
use Rattle.std.proofs.lemmas.Option.{same_Some}
use Rattle.std.specs.Global.{Global}
use Rattle.std.specs.Str.{bytes_eq}
use Rattle.std.specs.Io.KnownBytes.{Keeps}
use Rattle.std.specs.declared.io.ErrorKind.{ErrorKind}
use Rattle.isle_ast.specs.Errors.{IfFault}
use Rattle.isle_ast.specs.declared.ast.Def.{Def}
use Rattle.isle_ast.specs.declared.error.Error.{Error}
use Rattle.isle_ast.specs.declared.refusal.Refusal.{Refusal}
use Rattle.isle_ast.specs.declared.refusal.Refusal.TheVariants.{Fault as Refused, Memory as NoMemory}
use Rattle.isle_ast.specs.Positions.Files.{SourceFile}
use Rattle.isle_syntax.specs.Errors.{report_text}
use Rattle.isle_syntax.specs.Grammar.Verdict.{Spells, IsFaultIn}
use Rattle.isle_program.specs.Compiled.{AreSpelt, IsFirstFault}
use Rattle.isle_program.proofs.Compiling.FirstFaults.{is_first_fault}
use Rattle.islec.specs.Causes.{unwritten_lines}
use Rattle.islec.specs.Formatting.{IsPrint, ArePrints, Tells, TellsEach, PlacesSome, PlacesUpTo, IsFormatted}
use Rattle.islec.specs.Outputs.{Puts, changed_of}
use Rattle.islec.specs.Writing.{AppendsBeginning}
use Rattle.islec.specs.declared.format.Output.{Output}
use Rattle.islec.specs.declared.format.Printing.{Printing}
use Rattle.islec.specs.declared.serve.ServeFault.{ServeFault}
use Rattle.islec.specs.declared.serve.ServeFault.TheVariants.{Read, Write, Memory}
use Rattle.islec.specs.declared.status.Status.{Status}

-- a place within a list has something
pub there : {X : Type 0} (xs : List X) (i : ℕ) → i < length xs → (x : X) × (slice_get xs i ≡ Some x)
there [] i within = let none : ⊥ = omega (arith, within) in absurd none
there (x ∷ xs) zero within = (x, refl)
there (x ∷ xs) (suc i) within = there xs i (omega arith)

-- what holds of what is at a place holds of what was found there
found : {X : Type 0} (xs : List X) (i : ℕ) (x : X) (P : X → Type 0) → slice_get xs i ≡ Some x → IfSome (slice_get xs i) P → P x
found {X = X} xs i x P is holds = subst (λ (o : Option X). IfSome o P) is holds

-- ---- prints

-- the print of one file more
prints_more : (keep : Bool) (width first i number : ℕ) (files : List SourceFile) (file : SourceFile) (prints : List (List ℕ)) (print : List ℕ)
    → slice_get files i ≡ Some file → number ≡ first + i → ArePrints keep width first (take i files) prints
    → IsPrint keep width number file.text print → ArePrints keep width first (take (suc i) files) (prints ++ (print ∷ []))
prints_more keep width first i number [] file prints print at is are next = absurd cc
prints_more keep width first zero number (own ∷ others) file prints print at is are next = (
  print,
  [],
  ap (λ (l : List (List ℕ)). l ++ (print ∷ [])) are,
  subst (λ (f : SourceFile). IsPrint keep width first f.text print) (sym (same_Some _ _ at))
      (subst (λ (n : ℕ). IsPrint keep width n file.text print) (omega (arith, is)) next),
  refl,
)
prints_more keep width first (suc i) number (own ∷ others) file prints print at is are next = (
  are.0,
  are.1 ++ (print ∷ []),
  ap (λ (l : List (List ℕ)). l ++ (print ∷ [])) are.2,
  are.3,
  prints_more keep width (suc first) i number others file are.1 print at (omega (arith, is)) are.4 next,
)

-- the same, as a loop goes on
pub prints_pushed : (keep : Bool) (width i : ℕ) (files : List SourceFile) (prints grown : List (List ℕ)) (print : List ℕ) → i < length files
    → ArePrints keep width 0 (take i files) prints → IfSome (slice_get files i) (λ file. IsPrint keep width i file.text print)
    → grown ≡ prints ++ (print ∷ []) → ArePrints keep width 0 (take (i + 1) files) grown
prints_pushed keep width i files prints grown print within are next is =
    let at = there files i within in
    rw is (rw (add-one i) (prints_more keep width 0 i i files at.0 prints print at.1 (omega arith) are
    (found files i at.0 (λ file. IsPrint keep width i file.text print) at.1 next)))

-- there are as many prints as files
pub as_many_prints : (keep : Bool) (width first : ℕ) (files : List SourceFile) (prints : List (List ℕ)) → ArePrints keep width first files prints
    → length prints ≡ length files
as_many_prints keep width first [] prints are = ap length are
as_many_prints keep width first (file ∷ others) prints are =
    ap length are.2 ∙ ap suc (as_many_prints keep width (suc first) others are.1 are.4)

-- a file that has a print is spelt
print_spelt : (keep : Bool) (width file : ℕ) (text print : List ℕ) → IsPrint keep width file text print → (defs : List Def) × Spells file text defs
print_spelt false width file text print is = (is.0, is.1)
print_spelt true width file text print is = (is.0, is.1)

-- so are files that have prints
pub prints_spelt : (keep : Bool) (width first : ℕ) (files : List SourceFile) (prints : List (List ℕ)) → ArePrints keep width first files prints
    → (defs : List Def) × AreSpelt first files defs
prints_spelt keep width first [] prints are = ([], refl)
prints_spelt keep width first (file ∷ others) prints are =
    let these = print_spelt keep width first file.text are.0 are.3 in
    let rest = prints_spelt keep width (suc first) others are.1 are.4 in
    (these.0 ++ rest.0, (these.0, rest.0, these.1, rest.1, refl))

-- ---- what is told

-- what is told of one file more
tells_more : (output : Output) (i : ℕ) (files : List SourceFile) (strings : List (String Global)) (file : SourceFile) (print : String Global)
    (out own : List ℕ) → slice_get files i ≡ Some file → slice_get strings i ≡ Some print
    → TellsEach output (take i files) (map string_bytes (take i strings)) out → Tells output file (string_bytes print) own
    → TellsEach output (take (suc i) files) (map string_bytes (take (suc i) strings)) (out ++ own)
tells_more output i [] strings file print out own at has told next = absurd cc
tells_more output i (f ∷ files) [] file print out own at has told next = absurd cc
tells_more output zero (f ∷ files) (s ∷ strings) file print out own at has told next = (
  own,
  [],
  subst (λ (x : SourceFile). Tells output x (string_bytes s) own) (sym (same_Some _ _ at))
      (subst (λ (x : String Global). Tells output file (string_bytes x) own) (sym (same_Some _ _ has)) next),
  refl,
  ap (λ (l : List ℕ). l ++ own) told ∙ sym (append-nil own),
)
tells_more output (suc i) (f ∷ files) (s ∷ strings) file print out own at has told next = (
  told.0,
  told.1 ++ own,
  told.2,
  tells_more output i files strings file print told.1 own at has told.3 next,
  ap (λ (l : List ℕ). l ++ own) told.4 ∙ append_assoc told.0 told.1 own,
)

-- the same, as a loop goes on
pub tells_pushed : (output : Output) (i : ℕ) (files : List SourceFile) (strings : List (String Global)) (out grown : List ℕ) → i < length files
    → i < length strings → TellsEach output (take i files) (map string_bytes (take i strings)) out
    → IfSome (slice_get files i) (λ file. IfSome (slice_get strings i) (λ print. (own : List ℕ) × Tells output file (string_bytes print) own
    × (grown ≡ out ++ own))) → TellsEach output (take (i + 1) files) (map string_bytes (take (i + 1) strings)) grown
tells_pushed output i files strings out grown within inside told next =
    let at = there files i within in
    let has = there strings i inside in
    let one = found strings i has.0 _ has.1 (found files i at.0 _ at.1 next) in
    rw one.2 (rw (add-one i) (tells_more output i files strings at.0 has.0 out one.0 at.1 has.1 told one.1))

-- all of them
pub tells_all : (output : Output) (i : ℕ) (files : List SourceFile) (strings : List (String Global)) (out : List ℕ) → length files ≤ i
    → length strings ≤ i → TellsEach output (take i files) (map string_bytes (take i strings)) out
    → TellsEach output files (map string_bytes strings) out
tells_all output i files strings out most also told =
    subst (λ (l : List (String Global)). TellsEach output files (map string_bytes l) out) (take_all i strings also)
    (subst (λ (l : List SourceFile). TellsEach output l (map string_bytes (take i strings)) out) (take_all i files most) told)

-- ---- files that are put in place

-- puts add up
pub puts_more : (a b c : Option (List SourceFile)) (xs ys : List SourceFile) → Puts a b xs → Puts b c ys → Puts a c (xs ++ ys)
puts_more None b c xs ys p q = tt
puts_more (Some known) None c xs ys p q = absurd p
puts_more (Some known) (Some more) None xs ys p q = absurd q
puts_more (Some known) (Some more) (Some all) xs ys p q = q ∙ ap (λ (l : List SourceFile). l ++ ys) p ∙ append_assoc known xs ys

-- nothing is put
pub puts_nothing : (a : Option (List SourceFile)) → Puts a a []
puts_nothing None = tt
puts_nothing (Some known) = sym (append-nil known)

-- one that is there or isn't, and others
both : {X : Type 0} (x : X) (xs : List X) (b : Bool) → cond b xs (x ∷ xs) ≡ cond b [] (x ∷ []) ++ xs
both x xs true = refl
both x xs false = refl

-- the first file, and the others
one_and_others : (file : SourceFile) (print : List ℕ) (files : List SourceFile) (prints : List (List ℕ))
    → changed_of (file ∷ files) (print ∷ prints) ≡ changed_of (file ∷ []) (print ∷ []) ++ changed_of files prints
one_and_others file print files prints = both (record { name = file.name; text = print }) (changed_of files prints) (bytes_eq print file.text)

-- those up to a place, the one there, and the others
changed_split : (i : ℕ) (files : List SourceFile) (strings : List (String Global)) (file : SourceFile) (print : String Global)
    → slice_get files i ≡ Some file → slice_get strings i ≡ Some print → (rest : List SourceFile)
    × (changed_of files (map string_bytes strings)
    ≡ changed_of (take i files) (map string_bytes (take i strings)) ++ (changed_of (file ∷ []) (string_bytes print ∷ []) ++ rest))
changed_split i [] strings file print at has = absurd cc
changed_split i (f ∷ files) [] file print at has = absurd cc
changed_split zero (f ∷ files) (s ∷ strings) file print at has = (
  changed_of files (map string_bytes strings),
  rw (sym (same_Some _ _ at), sym (same_Some _ _ has)) (one_and_others f (string_bytes s) files (map string_bytes strings)),
)
changed_split (suc i) (f ∷ files) (s ∷ strings) file print at has =
    let below = changed_split i files strings file print at has in
    let own = changed_of (f ∷ []) (string_bytes s ∷ []) in
    let before = changed_of (take i files) (map string_bytes (take i strings)) in (
      below.0,
      one_and_others f (string_bytes s) files (map string_bytes strings) ∙ ap (λ (l : List SourceFile). own ++ l) below.1
          ∙ sym (append_assoc own before _)
          ∙ ap (λ (l : List SourceFile). l ++ (changed_of (file ∷ []) (string_bytes print ∷ []) ++ below.0))
          (sym (one_and_others f (string_bytes s) (take i files) (map string_bytes (take i strings)))),
    )

-- those up to the next place
changed_more : (i : ℕ) (files : List SourceFile) (strings : List (String Global)) (file : SourceFile) (print : String Global)
    → slice_get files i ≡ Some file → slice_get strings i ≡ Some print → changed_of (take (suc i) files) (map string_bytes (take (suc i) strings))
    ≡ changed_of (take i files) (map string_bytes (take i strings)) ++ changed_of (file ∷ []) (string_bytes print ∷ [])
changed_more i [] strings file print at has = absurd cc
changed_more i (f ∷ files) [] file print at has = absurd cc
changed_more zero (f ∷ files) (s ∷ strings) file print at has = rw (sym (same_Some _ _ at), sym (same_Some _ _ has)) refl
changed_more (suc i) (f ∷ files) (s ∷ strings) file print at has =
    let own = changed_of (f ∷ []) (string_bytes s ∷ []) in
    one_and_others f (string_bytes s) (take (suc i) files) (map string_bytes (take (suc i) strings))
    ∙ ap (λ (l : List SourceFile). own ++ l) (changed_more i files strings file print at has)
    ∙ sym (append_assoc own (changed_of (take i files) (map string_bytes (take i strings))) _)
    ∙ ap (λ (l : List SourceFile). l ++ changed_of (file ∷ []) (string_bytes print ∷ []))
    (sym (one_and_others f (string_bytes s) (take i files) (map string_bytes (take i strings))))

module _ (i : ℕ) (files : List SourceFile) (strings : List (String Global)) (within : i < length files) (inside : i < length strings) where
  -- one file more, as a loop goes on
  pub places_pushed : (a b c : Option (List SourceFile)) → Puts a b (changed_of (take i files) (map string_bytes (take i strings)))
      → IfSome (slice_get files i) (λ file. IfSome (slice_get strings i) (λ print. Puts b c (changed_of (file ∷ []) (string_bytes print ∷ []))))
      → Puts a c (changed_of (take (i + 1) files) (map string_bytes (take (i + 1) strings)))
  places_pushed a b c put next =
      let at = there files i within in
      let has = there strings i inside in
      let one = found strings i has.0 _ has.1 (found files i at.0 _ at.1 next) in
      rw (add-one i, changed_more i files strings at.0 has.0 at.1 has.1) (puts_more a b c _ _ put one)

  -- where the next one isn't put in place, some first ones are
  pub places_some : (a b c : Option (List SourceFile)) → Puts a b (changed_of (take i files) (map string_bytes (take i strings))) → c ≡ b
      → PlacesSome files (map string_bytes strings) a c
  places_some a b c put same =
      let at = there files i within in
      let has = there strings i inside in
      let split = changed_split i files strings at.0 has.0 at.1 has.1 in (
        changed_of (take i files) (map string_bytes (take i strings)),
        changed_of (at.0 ∷ []) (string_bytes has.0 ∷ []) ++ split.0,
        split.1,
        rw same put,
      )

  -- and a beginning of what tells why is written
  pub places_up_to : (a b c : Option (List SourceFile)) (old mid new : Option (List ℕ))
      → Puts a b (changed_of (take i files) (map string_bytes (take i strings))) → c ≡ b → mid ≡ old
      → IfSome (slice_get files i) (λ file. IfSome (slice_get strings i) (λ print.
      changed_of (file ∷ []) (string_bytes print ∷ []) ≡ record { name = file.name; text = string_bytes print } ∷ []))
      → IfSome (slice_get files i) (λ file. (kind : ErrorKind) × AppendsBeginning mid new (unwritten_lines file.name kind))
      → PlacesUpTo files (map string_bytes strings) old new a c
  places_up_to a b c old mid new put same held changed cut =
      let at = there files i within in
      let has = there strings i inside in
      let split = changed_split i files strings at.0 has.0 at.1 has.1 in
      let one = found strings i has.0 _ has.1 (found files i at.0 _ at.1 changed) in
      let first = changed_of (take i files) (map string_bytes (take i strings)) in
      let of_next = found files i at.0 _ at.1 cut in (
        first,
        record { name = at.0.name; text = string_bytes has.0 },
        split.0,
        split.1 ∙ ap (λ (l : List SourceFile). first ++ (l ++ split.0)) one,
        rw same put,
        (of_next.0, subst (λ (o : Option (List ℕ)). AppendsBeginning o new (unwritten_lines at.0.name of_next.0)) held of_next.1),
      )

-- all of them
pub places_all : (i : ℕ) (files : List SourceFile) (strings : List (String Global)) (a b : Option (List SourceFile)) → length files ≤ i
    → length strings ≤ i → Puts a b (changed_of (take i files) (map string_bytes (take i strings)))
    → Puts a b (changed_of files (map string_bytes strings))
places_all i files strings a b most also put =
    subst (λ (l : List (String Global)). Puts a b (changed_of files (map string_bytes l))) (take_all i strings also)
    (subst (λ (l : List SourceFile). Puts a b (changed_of l (map string_bytes (take i strings)))) (take_all i files most) put)

-- ---- how it ends

module _ (printing : Printing) (files : List SourceFile) (old new : Option (List ℕ)) (before after : Option (List SourceFile)) where
  abbrev Ends : Result Status ServeFault → Type 0
  Ends = IsFormatted printing files old new before after

  -- where the fault of the first text that isn't spelt can't be written
  pub fault_stops : (fault : ServeFault) (error : Error) → IsFirstFault files error → after ≡ before
      → (fault ≢ Memory → AppendsBeginning old new (report_text (record { errors = error ∷ []; files = files })))
      → (fault ≡ Memory → Keeps old new) → Ends (Err fault)
  fault_stops Read error first stays cut memory = inl (inl (error, first, cut (λ no. absurd cc)), stays)
  fault_stops Write error first stays cut memory = inl (inl (error, first, cut (λ no. absurd cc)), stays)
  fault_stops Memory error first stays cut memory = (memory refl, inl stays)

-- ---- prints of a loop

-- one string more
pub strings_pushed : (xs : List (String Global)) (x : String Global) → map string_bytes (xs ++ (x ∷ []))
    ≡ map string_bytes xs ++ (string_bytes x ∷ [])
strings_pushed [] x = refl
strings_pushed (y ∷ ys) x = ap (λ (l : List (List ℕ)). string_bytes y ∷ l) (strings_pushed ys x)

-- all of them
pub prints_all : (keep : Bool) (width i : ℕ) (files : List SourceFile) (prints : List (List ℕ)) → length files ≤ i
    → ArePrints keep width 0 (take i files) prints → ArePrints keep width 0 files prints
prints_all keep width i files prints most are = subst (λ (l : List SourceFile). ArePrints keep width 0 l prints) (take_all i files most) are

-- the fault of a file behind those that have prints is the first
pub prints_fault : (keep : Bool) (width i : ℕ) (files : List SourceFile) (prints : List (List ℕ)) (refusal : Refusal Error) → i < length files
    → ArePrints keep width 0 (take i files) prints
    → IfSome (slice_get files i) (λ file. IfFault refusal (IsFaultIn i file.text)) → IfFault refusal (IsFirstFault files)
prints_fault keep width i files prints (Refused error) within are here =
    is_first_fault files i (prints_spelt keep width 0 (take i files) prints are) error within here
prints_fault keep width i files prints (NoMemory error) within are here = tt
