-- Expressions with their `let`s written out, and a right side's impure calls in order.
use Rattle.std.specs.Prelude.{ℕ, zero, suc, ℤ, Bool, true, false, List, [], ◌∷◌, ◌++◌, length, ◌==◌, if◌then◌else◌}
use Rattle.isle_rules.specs.TypedRules.{TypedExpr, built_var, built_bool, built_int, built_prim, built_term, built_let, TypedExprs}
use Rattle.isle_rules.specs.TypedRules.{no_built, more_built, TypedBindings, no_typed_bindings, more_typed_bindings}
use Rattle.isle_meaning.specs.Facts.{TermShape, variant_shape, struct_shape, declared_shape, TermFacts}

mutual
  -- an expression without `let`: a pure call has the number 0, an impure one counts from 1
  pub data Word : Type 0 where
    var_word : ℕ → Word
    bool_word : ℕ → Bool → Word
    int_word : ℕ → ℤ → Word
    prim_word : List ℕ → Word
    variant_word : ℕ → ℕ → Words → Word
    struct_word : ℕ → Words → Word
    call_word : ℕ → Words → ℕ → Word

  pub data Words : Type 0 where
    no_words : Words
    more_words : Word → Words → Words

-- an impure call of a right side; the first has the place 0
pub record Step : Type 0 where
  pub term : ℕ
  pub args : Words
  pub place : ℕ

abbrev pub set : {A : Type 0} → (ℕ → A) → ℕ → A → ℕ → A
set f k x j = if j == k then x else f j

-- a pure call stands where it is, an impure one also joins the calls before it
abbrev pub call : Bool → ℕ → Words × List Step → Word × List Step
call true t r = (call_word t (r.0) zero, r.1)
call false t r = (call_word t (r.0) (suc (length (r.1))), r.1 ++ record { term = t; args = r.0; place = length (r.1) } ∷ [])

-- a term on its arguments
abbrev pub apply : TermShape → Bool → ℕ → ℕ → Words × List Step → Word × List Step
apply (variant_shape k) pure ty t r = (variant_word ty k (r.0), r.1)
apply struct_shape pure ty t r = (struct_word ty (r.0), r.1)
apply declared_shape pure ty t r = call pure t r

-- Written out, where the variables stand for words, and the impure calls, after those before: arguments first, left to
-- right, a `let`'s values before its body.
abbrev mutual
  pub flat : TermFacts → (ℕ → Word) → List Step → TypedExpr → Word × List Step
  flat facts vars steps (built_var ty k) = (vars k, steps)
  flat facts vars steps (built_bool ty b) = (bool_word ty b, steps)
  flat facts vars steps (built_int ty n) = (int_word ty n, steps)
  flat facts vars steps (built_prim ty n) = (prim_word n, steps)
  flat facts vars steps (built_term ty t es) = apply (facts.shape t) (facts.pure t) ty t (flat_all facts vars steps es)
  flat facts vars steps (built_let ty bs body) = flat facts ((flat_lets facts vars steps bs).0) ((flat_lets facts vars steps bs).1) body

  pub flat_all : TermFacts → (ℕ → Word) → List Step → TypedExprs → Words × List Step
  flat_all facts vars steps no_built = (no_words, steps)
  flat_all facts vars steps (more_built e es) = (
    more_words ((flat facts vars steps e).0) ((flat_all facts vars ((flat facts vars steps e).1) es).0),
    (flat_all facts vars ((flat facts vars steps e).1) es).1,
  )

  pub flat_lets : TermFacts → (ℕ → Word) → List Step → TypedBindings → (ℕ → Word) × List Step
  flat_lets facts vars steps no_typed_bindings = (vars, steps)
  flat_lets facts vars steps (more_typed_bindings k ty e bs) =
      flat_lets facts (set vars k ((flat facts vars steps e).0)) ((flat facts vars steps e).1) bs

abbrev pub word_of : TermFacts → TypedExpr → Word
word_of facts e = (flat facts var_word [] e).0

abbrev pub steps_of : TermFacts → TypedExpr → List Step
steps_of facts e = (flat facts var_word [] e).1
