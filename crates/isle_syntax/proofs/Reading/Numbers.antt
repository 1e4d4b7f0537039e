-- Fields counted from a number.
use Rattle.std.proofs.Common.{◌≡◌, ℕ, suc, ◌+◌, List, [], ◌∷◌, ◌++◌, length, refl, sym, ap, ◌∙◌, arith}
use Rattle.isle_ast.specs.declared.ast.Ident.{Ident}
use Rattle.isle_ast.specs.declared.ast.TupleField.{TupleField}
use Rattle.isle_ast.specs.declared.ast.Fields.TheVariants.{Unit as no_fields, Tuple as tuple_fields}
use Rattle.isle_syntax.specs.Grammar.DefGrammar.{numbered}
use Rattle.isle_syntax.specs.Inside.Reading.DefReading.{fields_numbered}

abbrev pub numbered_field : ℕ → Ident → TupleField
numbered_field n x = record { index = n; ty = x; pos = x.1 }

numbered_more : (n : ℕ) (xs : List Ident) (x : Ident) → numbered n (xs ++ x ∷ []) ≡ numbered n xs ++ numbered_field (n + length xs) x ∷ []
numbered_more n [] x = let same : n ≡ n + 0 = omega arith in ap (λ k. numbered_field k x ∷ []) same
numbered_more n (y ∷ xs) x =
    let same : suc n + length xs ≡ n + suc (length xs) = omega arith in
    ap (λ l. numbered_field n y ∷ l) (numbered_more (suc n) xs x ∙ ap (λ k. numbered (suc n) xs ++ numbered_field k x ∷ []) same)

numbered_length : (n : ℕ) (xs : List Ident) → length (numbered n xs) ≡ length xs
numbered_length n [] = refl
numbered_length n (x ∷ xs) = ap suc (numbered_length (suc n) xs)

-- one more field
pub numbered_push : (fields : List TupleField) (xs : List Ident) (x : Ident) (index : ℕ) → fields ≡ numbered 0 xs → index ≡ length fields
    → fields ++ numbered_field index x ∷ [] ≡ numbered 0 (xs ++ x ∷ [])
numbered_push fields xs x index e f =
    let same : index ≡ 0 + length xs = omega (arith, f, ap length e, numbered_length 0 xs) in
    (λ i. e i ++ numbered_field (same i) x ∷ []) ∙ sym (numbered_more 0 xs x)

pub numbered_none : (xs : List Ident) → numbered 0 xs ≡ [] → fields_numbered xs ≡ no_fields
numbered_none [] e = refl
numbered_none (x ∷ xs) e = cc

pub numbered_some : (xs : List Ident) → (numbered 0 xs ≡ [] → ⊥) → fields_numbered xs ≡ tuple_fields (record { fields = numbered 0 xs })
numbered_some [] e = absurd (e refl)
numbered_some (x ∷ xs) e = refl

-- a list without items
pub nothing_in : {A : Type 0} (xs : List A) → length xs ≡ 0 → xs ≡ []
nothing_in [] e = refl
nothing_in (x ∷ xs) e = absurd (omega (arith, e))
