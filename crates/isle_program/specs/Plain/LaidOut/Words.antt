-- Expressions laid out: parts, each behind those that it is made of.
use Rattle.std.specs.Prelude.{◌≡◌, ◌<◌, ℕ, zero, suc, List, [], ◌∷◌, Some, All, length, slice_get}
use Rattle.std.specs.List.{AllZip}
use Rattle.isle_types.specs.declared.ids.Sym.{Sym}
use Rattle.isle_types.specs.declared.ids.TermId.{TermId}
use Rattle.isle_types.specs.declared.ids.TypeId.{TypeId}
use Rattle.isle_types.specs.declared.ids.VarId.{VarId}
use Rattle.isle_types.specs.declared.ids.VariantId.{VariantId}
use Rattle.isle_types.specs.TypeTables.{name_at, TypeTables}
use Rattle.isle_meaning.specs.Words.{Word, var_word, bool_word, int_word, prim_word, variant_word, struct_word, call_word, Words}
use Rattle.isle_meaning.specs.Words.{no_words, more_words, Step, word_of, steps_of}
use Rattle.isle_rules.specs.declared.rules.Expr.{Expr}
use Rattle.isle_rules.specs.Shown.TermTables.{TermTables}
use Rattle.isle_rules.specs.Shown.ShownRules.{built_shown}
use Rattle.isle_program.specs.Laws.Terms.{term_facts}
use Rattle.isle_program.specs.declared.laid.Laid.{Laid}
use Rattle.isle_program.specs.declared.laid.Part.{Part}
use Rattle.isle_program.specs.declared.laid.Part.TheVariants.{Var, Bool, Int, Const, Variant, Struct, Call, Impure}

-- the part at a number is this word, where these are the interned names
abbrev mutual
  pub IsLaid : List (List ℕ) → List Part → Word → ℕ → Type 0
  IsLaid names parts (var_word k) n = (var : VarId) × (slice_get parts n ≡ Some (Var var)) × (var.0 ≡ k)
  IsLaid names parts (bool_word ty b) n = slice_get parts n ≡ Some (Bool b)
  IsLaid names parts (int_word ty i) n = slice_get parts n ≡ Some (Int i)
  IsLaid names parts (prim_word name) n = (sym : Sym) × (slice_get parts n ≡ Some (Const sym)) × (name_at names sym ≡ name)
  IsLaid names parts (variant_word ty k ws) n =
      (of : TypeId) × (variant : VariantId) × (ns : List ℕ) × (slice_get parts n ≡ Some (Variant of variant ns))
      × (of.0 ≡ ty) × (variant.0 ≡ k) × AreLaid names parts ws ns
  IsLaid names parts (struct_word ty ws) n =
      (of : TypeId) × (ns : List ℕ) × (slice_get parts n ≡ Some (Struct of ns)) × (of.0 ≡ ty) × AreLaid names parts ws ns
  IsLaid names parts (call_word t ws zero) n =
      (term : TermId) × (ns : List ℕ) × (slice_get parts n ≡ Some (Call term ns)) × (term.0 ≡ t) × AreLaid names parts ws ns
  IsLaid names parts (call_word t ws (suc i)) n =
      (term : TermId) × (ns : List ℕ) × (slice_get parts n ≡ Some (Impure term ns i)) × (term.0 ≡ t) × AreLaid names parts ws ns

  -- each is the word at its place
  pub AreLaid : List (List ℕ) → List Part → Words → List ℕ → Type 0
  AreLaid names parts no_words [] = Unit {0}
  AreLaid names parts no_words (n ∷ ns) = ⊥
  AreLaid names parts (more_words w ws) [] = ⊥
  AreLaid names parts (more_words w ws) (n ∷ ns) = IsLaid names parts w n × AreLaid names parts ws ns

-- the numbers of what a part is made of
abbrev pub made_of : Part → List ℕ
made_of (Var var) = []
made_of (Bool b) = []
made_of (Int i) = []
made_of (Const sym) = []
made_of (Variant of variant ns) = ns
made_of (Struct of ns) = ns
made_of (Call term ns) = ns
made_of (Impure term ns i) = ns

-- each part stands behind those that it is made of
abbrev pub StandBehind : List Part → Type 0
StandBehind parts = (n : ℕ) (part : Part) → slice_get parts n ≡ Some part → All (λ m. m < n) (made_of part)

-- the part at a number is this impure call
pub record IsLaidStep (names : List (List ℕ)) (parts : List Part) (step : Step) (n : ℕ) : Type 0 where
  pub term : TermId
  pub args : List ℕ
  pub there : slice_get parts n ≡ Some (Impure term args step.place)
  pub of_term : term.0 ≡ step.term
  pub laid : AreLaid names parts step.args args

-- an expression laid out: the whole, and its impure calls in order
pub record IsLaidOut (tyenv : TypeTables) (env : TermTables) (expr : Expr) (laid : Laid) : Type 0 where
  pub whole : IsLaid tyenv.names laid.parts.items (word_of (term_facts tyenv env) (built_shown tyenv.names expr)) laid.result
  pub steps : AllZip (IsLaidStep tyenv.names laid.parts.items) (steps_of (term_facts tyenv env) (built_shown tyenv.names expr))
      laid.calls.items
  pub behind : StandBehind laid.parts.items
  -- each impure call is one part, and they stand in order
  pub once : (n j : ℕ) (term : TermId) (ns : List ℕ) → slice_get laid.parts.items n ≡ Some (Impure term ns j)
      → slice_get laid.calls.items j ≡ Some n
  pub ascending : (i j m n : ℕ) → i < j → slice_get laid.calls.items i ≡ Some m → slice_get laid.calls.items j ≡ Some n → m < n
  pub inside : laid.result < length laid.parts.items
