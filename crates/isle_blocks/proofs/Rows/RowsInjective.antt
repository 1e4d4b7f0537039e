-- Sites are told apart by their entries, and tests by their constraints, where names tell symbols apart.
use Rattle.std.proofs.Common.{◌≡◌, ℕ, List, [], ◌∷◌, refl, ap}
use Rattle.isle_blocks.specs.declared.ids.BindingId.{BindingId}
use Rattle.isle_types.specs.declared.ids.Sym.{Sym}
use Rattle.isle_blocks.specs.declared.binding.Binding.{Binding}
use Rattle.isle_blocks.specs.declared.binding.Binding.TheVariants as sites
use Rattle.isle_blocks.specs.declared.constraint.Constraint.{Constraint}
use Rattle.isle_blocks.specs.declared.constraint.Constraint.TheVariants as tests
use Rattle.isle_blocks.specs.Rows.{IsInjective, numbers_of, row_of, test_of}

numbers-injective : (xs ys : List BindingId) → numbers_of xs ≡ numbers_of ys → xs ≡ ys
numbers-injective [] [] e = refl
numbers-injective [] (y ∷ ys) e = absurd cc
numbers-injective (x ∷ xs) [] e = absurd cc
numbers-injective (x ∷ xs) (y ∷ ys) e =
    let head : x.0 ≡ y.0 = cc in let tail : numbers_of xs ≡ numbers_of ys = cc in
    let rest = numbers-injective xs ys tail in λ i. record { 0 = head i } ∷ rest i

module _ (name : Sym → List ℕ) (injective : IsInjective name) where
  pub row-injective : (a b : Binding) → row_of name a ≡ row_of name b → a ≡ b
  row-injective (sites.ConstBool v s) (sites.ConstBool w t) e = let p : v ≡ w = cc in let q : s.0 ≡ t.0 = cc in
      λ i. sites.ConstBool (p i) (record { 0 = q i })
  row-injective (sites.ConstInt v s) (sites.ConstInt w t) e = let p : v ≡ w = cc in let q : s.0 ≡ t.0 = cc in
      λ i. sites.ConstInt (p i) (record { 0 = q i })
  row-injective (sites.ConstPrim v) (sites.ConstPrim w) e = let p : name v ≡ name w = cc in ap sites.ConstPrim (injective v w p)
  row-injective (sites.Argument v) (sites.Argument w) e = let p : v.0 ≡ w.0 = cc in λ i. sites.Argument (record { 0 = p i })
  row-injective (sites.Extractor s a) (sites.Extractor t b) e =
      let p : s.0 ≡ t.0 = cc in let q : a.0 ≡ b.0 = cc in λ i. sites.Extractor (record { 0 = p i }) (record { 0 = q i })
  row-injective (sites.Constructor s cs m) (sites.Constructor t ds n) e =
      let p : s.0 ≡ t.0 = cc in let q : numbers_of cs ≡ numbers_of ds = cc in let r : m ≡ n = cc in
      let l = numbers-injective cs ds q in λ i. sites.Constructor (record { 0 = p i }) (l i) (r i)
  row-injective (sites.Iterator a) (sites.Iterator b) e = let p : a.0 ≡ b.0 = cc in λ i. sites.Iterator (record { 0 = p i })
  row-injective (sites.MakeVariant s v cs) (sites.MakeVariant t w ds) e =
      let p : s.0 ≡ t.0 = cc in let q : numbers_of cs ≡ numbers_of ds = cc in let r : v.0 ≡ w.0 = cc in
      let l = numbers-injective cs ds q in λ i. sites.MakeVariant (record { 0 = p i }) (record { 0 = r i }) (l i)
  row-injective (sites.MatchVariant a v f) (sites.MatchVariant b w g) e =
      let p : a.0 ≡ b.0 = cc in let q : v.0 ≡ w.0 = cc in let r : f.0 ≡ g.0 = cc in
      λ i. sites.MatchVariant (record { 0 = p i }) (record { 0 = q i }) (record { 0 = r i })
  row-injective (sites.MakeStruct s cs) (sites.MakeStruct t ds) e =
      let p : s.0 ≡ t.0 = cc in let q : numbers_of cs ≡ numbers_of ds = cc in
      let l = numbers-injective cs ds q in λ i. sites.MakeStruct (record { 0 = p i }) (l i)
  row-injective (sites.ExtractStruct a f) (sites.ExtractStruct b g) e =
      let p : a.0 ≡ b.0 = cc in let r : f.0 ≡ g.0 = cc in λ i. sites.ExtractStruct (record { 0 = p i }) (record { 0 = r i })
  row-injective (sites.MakeSome a) (sites.MakeSome b) e = let p : a.0 ≡ b.0 = cc in λ i. sites.MakeSome (record { 0 = p i })
  row-injective (sites.MatchSome a) (sites.MatchSome b) e = let p : a.0 ≡ b.0 = cc in λ i. sites.MatchSome (record { 0 = p i })
  row-injective (sites.MatchTuple a f) (sites.MatchTuple b g) e =
      let p : a.0 ≡ b.0 = cc in let r : f.0 ≡ g.0 = cc in λ i. sites.MatchTuple (record { 0 = p i }) (record { 0 = r i })
  row-injective a b e = absurd cc

  pub test-injective : (a b : Constraint) → test_of name a ≡ test_of name b → a ≡ b
  test-injective (tests.Variant s v f) (tests.Variant t w g) e =
      let p : s.0 ≡ t.0 = cc in let q : v.0 ≡ w.0 = cc in let r : f.0 ≡ g.0 = cc in
      λ i. tests.Variant (record { 0 = p i }) (record { 0 = q i }) (record { 0 = r i })
  test-injective (tests.Struct s f) (tests.Struct t g) e =
      let p : s.0 ≡ t.0 = cc in let r : f.0 ≡ g.0 = cc in λ i. tests.Struct (record { 0 = p i }) (record { 0 = r i })
  test-injective (tests.ConstBool v s) (tests.ConstBool w t) e = let p : v ≡ w = cc in let q : s.0 ≡ t.0 = cc in
      λ i. tests.ConstBool (p i) (record { 0 = q i })
  test-injective (tests.ConstInt v s) (tests.ConstInt w t) e = let p : v ≡ w = cc in let q : s.0 ≡ t.0 = cc in
      λ i. tests.ConstInt (p i) (record { 0 = q i })
  test-injective (tests.ConstPrim v) (tests.ConstPrim w) e = let p : name v ≡ name w = cc in ap tests.ConstPrim (injective v w p)
  test-injective tests.Some tests.Some e = refl
  test-injective a b e = absurd cc
