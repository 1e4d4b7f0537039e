-- What the text of a value is read as.
use Rattle.std.proofs.Common.{◌≡◌, ℕ, pos, negsuc, ◌<◌, ◌≤◌, ◌⊎◌, inl, inr, List, None, Result, Ok, Err, refl, ap, arith}
use Rattle.std.proofs.lemmas.Bool.{cases_lt, lt-leb}
use Rattle.std.proofs.lemmas.Fmt.{parse-decimal}
use Rattle.std.specs.Bool.{then_some}
use Rattle.std.specs.Str.Parse.{ParsesUnsigned}
use Rattle.std.specs.declared.num.ParseIntError.{ParseIntError}
use Rattle.isle_rules.specs.Values.{ValueTree, bool_tree, int_tree, big_tree, const_tree, opaque_tree, data_tree}
use Rattle.isle_values.specs.Values.Text.{value_text}
use Rattle.isle_callers.specs.Bytes.{byte_in, byte_value}

-- a number above 255 is none
byte_in-large : (n : ℕ) → 255 < n → byte_in (byte_value n) ≡ None
byte_in-large n large = ap (λ b. then_some b n) (lt-leb n 255 large)

-- any other is read from the text of its value
read_back : (n : ℕ) (bs : List ℕ) (r : Result ℕ ParseIntError) → n ≤ 255 → bs ≡ value_text (byte_value n) → ParsesUnsigned 8 10 bs r → r ≡ Ok n
read_back n bs r small text parses = parse-decimal 8 n bs r (omega arith) (omega arith) text parses

-- a value whose text is read as no number has none
pub byte_in-unread : (v : ValueTree) (bs : List ℕ) (e : ParseIntError) → bs ≡ value_text v → ParsesUnsigned 8 10 bs (Err e) → byte_in v ≡ None
byte_in-unread (int_tree (pos n)) bs e text parses =
    elim (cases_lt 255 n) [ inl large ↦ byte_in-large n large | inr small ↦ (let same = read_back n bs (Err e) small text parses in absurd cc) ]
byte_in-unread (int_tree (negsuc n)) bs e text parses = refl
byte_in-unread (bool_tree b) bs e text parses = refl
byte_in-unread (big_tree n) bs e text parses = refl
byte_in-unread (const_tree name) bs e text parses = refl
byte_in-unread (opaque_tree n) bs e text parses = refl
byte_in-unread (data_tree name fields) bs e text parses = refl

-- nor has one that isn't the value of the number that its text is read as
pub byte_in-other : (v : ValueTree) (bs : List ℕ) (n : ℕ) → bs ≡ value_text v → ParsesUnsigned {E = ParseIntError} 8 10 bs (Ok n)
    → (v ≡ byte_value n → ⊥) → byte_in v ≡ None
byte_in-other (int_tree (pos m)) bs n text parses other =
    elim (cases_lt 255 m) [
      | inl large ↦ byte_in-large m large
      | inr small ↦ (let same = read_back m bs (Ok n) small text parses in let number : m ≡ n = cc in absurd (other (ap byte_value number)))
    ]
byte_in-other (int_tree (negsuc m)) bs n text parses other = refl
byte_in-other (bool_tree b) bs n text parses other = refl
byte_in-other (big_tree m) bs n text parses other = refl
byte_in-other (const_tree name) bs n text parses other = refl
byte_in-other (opaque_tree m) bs n text parses other = refl
byte_in-other (data_tree name fields) bs n text parses other = refl
