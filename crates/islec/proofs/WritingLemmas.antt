-- How writes that follow one another add up.
use Rattle.std.proofs.Common.{◌≡◌, ℕ, List, ◌+◌, ◌-◌, ◌≤◌, length, length-drop, sym, subst, take, take_all, drop, Option, Result, Ok, Err, OnOk, Some, None, ap, ◌++◌, ◌∙◌}
use Rattle.std.proofs.Common.{OnErr, arith, min}
use Rattle.std.proofs.Math.Seq.{take-add, take-append-add}
use Rattle.std.proofs.lemmas.List.{take_min, take-append-le}
use Rattle.std.specs.Io.KnownBytes.{Appends, Keeps}
use Rattle.std.proofs.KnownBytes.{Appends-trans}
use Rattle.islec.specs.Writing.{AppendsBeginning}

-- a beginning of a text, and then the next bytes of its rest
pub Appends-take : (a b c : Option (List ℕ)) (k n : ℕ) (text rest : List ℕ) → rest ≡ drop k text → k ≤ length text
    → Appends a b (take k text) → n ≤ length rest → Appends b c (take n rest)
    → (k + n ≤ length text) × Appends a c (take (k + n) text)
Appends-take a b c k n text rest is within wrote most more =
    let next : Appends b c (take n (drop k text)) = rw is at more in
    let left : n ≤ length (drop k text) = rw is at most in
    let len : length (drop k text) ≡ length text - k = length-drop k text in
    (omega arith, subst (Appends a c) (sym (take-add k n text)) (Appends-trans a b c _ _ wrote next))

-- all of a text is a beginning of it
pub whole_begins : (a b : Option (List ℕ)) (text : List ℕ) → Appends a b text → AppendsBeginning a b text
whole_begins a b text wrote = (length text, subst (Appends a b) (sym (take_all (length text) text (omega arith))) wrote)

-- a text that was written, or a beginning of it, whichever of the two
pub begins_text : (E : Type 0) (a b : Option (List ℕ)) (text : List ℕ) (r : Result (Unit {0}) E) → OnOk r (Appends a b text)
    → OnErr r (AppendsBeginning a b text) → AppendsBeginning a b text
begins_text E a b text (Ok u) p q = whole_begins a b text p
begins_text E a b text (Err e) p q = q

-- nothing is written before a line
Appends-behind : (a b c : Option (List ℕ)) (text : List ℕ) → Keeps a b → Appends b c text → Appends a c text
Appends-behind None b c text p q = tt
Appends-behind (Some x) None c text p q = absurd p
Appends-behind (Some x) (Some y) None text p q = absurd q
Appends-behind (Some x) (Some y) (Some z) text p q = q ∙ ap (λ l. l ++ text) p

-- a beginning of a line behind nothing else
pub line_behind : (a : Option (List ℕ)) (c : Option (List ℕ)) (text : List ℕ) → (held : Option (List ℕ)) × Keeps a held × AppendsBeginning held c text
    → AppendsBeginning a c text
line_behind a c text (held, kept, (count, wrote)) = (count, Appends-behind a held c (take count text) kept wrote)

-- a beginning of a text is one of the text with more behind it
pub begins_longer : (a b : Option (List ℕ)) (text more : List ℕ) → AppendsBeginning a b text → AppendsBeginning a b (text ++ more)
begins_longer a b text more (count, wrote) =
    let within : min count (length text) ≤ length text = omega arith in
    let same : take count text ≡ take (min count (length text)) (text ++ more) =
    sym (take_min count text) ∙ sym (take-append-le (min count (length text)) text more within) in
    (min count (length text), subst (Appends a b) same wrote)

-- a text, and then a beginning of what is behind it
pub begins_behind : (a b c : Option (List ℕ)) (text more : List ℕ) → Appends a b text → AppendsBeginning b c more
    → AppendsBeginning a c (text ++ more)
begins_behind a b c text more wrote (count, next) =
    (length text + count, subst (Appends a c) (sym (take-append-add text more count)) (Appends-trans a b c _ _ wrote next))

-- what holds anyway holds where it fails
pub on_any : {E P : Type 0} (r : Result (Unit {0}) E) → P → OnErr r P
on_any (Ok u) p = tt
on_any (Err e) p = p
