-- Reading leaves fewer tokens than there were.
use Rattle.std.proofs.Common.{◌≡◌, ℕ, zero, suc, ◌-◌, ◌<◌, ◌≤◌, List, [], ◌∷◌, length, Bool, true, false, cond, Option, Some, None, refl, ap, arith}
use Rattle.isle_ast.specs.declared.pos.Pos.{Pos}
use Rattle.isle_ast.specs.declared.ast.Ident.{Ident}
use Rattle.isle_syntax.specs.Tokens.PlacedTokens.{Placed, opening, closing, at_sign, symbol, int}
use Rattle.isle_syntax.specs.Inside.Reading.Readers.{Read, done, fault, deep, Reader, after, read_map, seq, after_close, many, many_turn, rest_of, opened}
use Rattle.isle_syntax.specs.Inside.Reading.Readers.{shut, opened_within, closed, symbol_of}
use Rattle.isle_syntax.specs.Inside.Reading.DefReading.{identifier, field, fields, fields_on, variant, variant_on, is_symbol_next}

-- what is left of a value that was read
pub record Shortens {A : Type 0} (p : Reader A) : Type 0 where
  pub less : (ts r : List Placed) (a : A) → p ts ≡ done a r → length r < length ts

pub record NeverLengthens {A : Type 0} (p : Reader A) : Type 0 where
  pub no_more : (ts r : List Placed) (a : A) → p ts ≡ done a r → length r ≤ length ts

pub shortens_keeps : {A : Type 0} {p : Reader A} → Shortens p → NeverLengthens p
shortens_keeps s = record { no_more = λ ts r a e. omega (arith, s.less ts r a e) }

mapped : {A B : Type 0} (f : A → B) (x : Read A) (b : B) (r : List Placed) → read_map f x ≡ done b r → (a : A) × (x ≡ done a r)
mapped f (done a q) b r e = let h : q ≡ r = cc in (a, ap (done a) h)
mapped f (fault q) b r e = cc
mapped f (deep q) b r e = cc

followed : {A B : Type 0} (x : Read A) (f : A → List Placed → Read B) (b : B) (r : List Placed) → after x f ≡ done b r
    → (a : A) × (q : List Placed) × (x ≡ done a q) × (f a q ≡ done b r)
followed (done a q) f b r e = (a, q, refl, e)
followed (fault q) f b r e = cc
followed (deep q) f b r e = cc

pub map_shortens : {A B : Type 0} (f : A → B) (p : Reader A) → Shortens p → Shortens (λ ts. read_map f (p ts))
map_shortens f p s = record { less = λ ts r b e. (let h = mapped f (p ts) b r e in s.less ts r h.0 h.1) }

pub seq_shortens : {A B : Type 0} (p : Reader A) (q : Reader B) → Shortens p → NeverLengthens q → Shortens (seq p q)
seq_shortens p q s k = record {
  less = λ ts r x e.
      let h = followed (p ts) (λ a r. read_map (λ b. (a, b)) (q r)) x r e in
      let g = mapped (λ b. (h.0, b)) (q h.1) x r h.3 in
      omega (arith, s.less ts h.1 h.0 h.2, k.no_more h.1 r g.0 g.1);
}

pub seq_keeps : {A B : Type 0} (p : Reader A) (q : Reader B) → NeverLengthens p → NeverLengthens q → NeverLengthens (seq p q)
seq_keeps p q s k = record {
  no_more = λ ts r x e.
      let h = followed (p ts) (λ a r. read_map (λ b. (a, b)) (q r)) x r e in
      let g = mapped (λ b. (h.0, b)) (q h.1) x r h.3 in
      omega (arith, s.no_more ts h.1 h.0 h.2, k.no_more h.1 r g.0 g.1);
}

symbol_less : (p : List ℕ → Bool) (ts r : List Placed) (a : Ident) → symbol_of p ts ≡ done a r → length r < length ts
symbol_less p [] r a e = cc
symbol_less p (opening q ∷ ts) r a e = cc
symbol_less p (closing q ∷ ts) r a e = cc
symbol_less p (at_sign q ∷ ts) r a e = cc
symbol_less p (symbol q s ∷ ts) r a e = by_test (p s) e
  where
    by_test : (b : Bool) → cond b (done (record { 0 = s; 1 = q }) ts) (fault (symbol q s ∷ ts)) ≡ done a r → length r < suc (length ts)
    by_test true h = let k : ts ≡ r = cc in omega (arith, ap length k)
    by_test false h = cc
symbol_less p (int q n ∷ ts) r a e = cc

pub symbol_shortens : (p : List ℕ → Bool) → Shortens (symbol_of p)
symbol_shortens p = record { less = symbol_less p }

opened_less : (ts r : List Placed) (a : Pos) → opened ts ≡ done a r → length r < length ts
opened_less [] r a e = cc
opened_less (opening q ∷ ts) r a e = let k : ts ≡ r = cc in omega (arith, ap length k)
opened_less (closing q ∷ ts) r a e = cc
opened_less (at_sign q ∷ ts) r a e = cc
opened_less (symbol q s ∷ ts) r a e = cc
opened_less (int q n ∷ ts) r a e = cc

shut_less : (ts r : List Placed) (a : Pos) → shut ts ≡ done a r → length r < length ts
shut_less [] r a e = cc
shut_less (opening q ∷ ts) r a e = cc
shut_less (closing q ∷ ts) r a e = cc
shut_less (at_sign q ∷ ts) r a e = cc
shut_less (symbol q s ∷ ts) r a e = cc
shut_less (int q n ∷ ts) r a e = cc

pub opened_shortens : (d : ℕ) → Shortens (opened_within d)
opened_shortens zero = record { less = shut_less }
opened_shortens (suc d) = record { less = opened_less }

closed_less : (ts r : List Placed) (a : Unit {0}) → closed ts ≡ done a r → length r < length ts
closed_less [] r a e = cc
closed_less (opening q ∷ ts) r a e = cc
closed_less (closing q ∷ ts) r a e = let k : ts ≡ r = cc in omega (arith, ap length k)
closed_less (at_sign q ∷ ts) r a e = cc
closed_less (symbol q s ∷ ts) r a e = cc
closed_less (int q n ∷ ts) r a e = cc

pub closed_shortens : Shortens closed
closed_shortens = record { less = closed_less }

close_less : (ts r : List Placed) → after_close ts ≡ Some r → length r < length ts
close_less [] r e = cc
close_less (opening q ∷ ts) r e = cc
close_less (closing q ∷ ts) r e = let k : ts ≡ r = cc in omega (arith, ap length k)
close_less (at_sign q ∷ ts) r e = cc
close_less (symbol q s ∷ ts) r e = cc
close_less (int q n ∷ ts) r e = cc

many_case : {A : Type 0} (p : Reader A) (more : Reader (List A)) (ts r : List Placed) (l : List A) (o : Option (List Placed)) → NeverLengthens p
    → after_close ts ≡ o
    → ((q : List Placed) (m : List A) → more q ≡ done m r → length r < length q) → many_turn p more o ts ≡ done l r → length r < length ts
many_case p more ts r l (Some q) k f ih h = let same : q ≡ r = cc in omega (arith, close_less ts q f, ap length same)
many_case p more ts r l None k f ih h =
    let m = mapped (λ x. x.0 ∷ x.1) (seq p more ts) l r h in
    let g = followed (p ts) (λ a r. read_map (λ b. (a, b)) (more r)) m.0 r m.1 in
    let q = mapped (λ b. (g.0, b)) (more g.1) m.0 r g.3 in
    omega (arith, k.no_more ts g.1 g.0 g.2, ih g.1 q.0 q.1)

many_less : {A : Type 0} (p : Reader A) → NeverLengthens p → (n : ℕ) (ts r : List Placed) (l : List A) → many after_close p n ts ≡ done l r
    → length r < length ts
unfolding many
many_less p k zero ts r l e = cc
many_less p k (suc n) ts r l e = many_case p (many after_close p n) ts r l (after_close ts) k refl (λ q m h. many_less p k n q r m h) e

pub rest_shortens : {A : Type 0} (p : Reader A) → NeverLengthens p → Shortens (rest_of p)
rest_shortens p k = record { less = λ ts r l e. many_less p k (suc (length ts)) ts r l e }

-- ---- the parts of a type

pub identifier_shortens : Shortens identifier
identifier_shortens = symbol_shortens _

pub field_shortens : (d : ℕ) → Shortens (field d)
field_shortens d =
    map_shortens _ _ (seq_shortens (opened_within d) _ (opened_shortens d)
    (seq_keeps _ _ (shortens_keeps identifier_shortens) (seq_keeps _ _ (shortens_keeps identifier_shortens) (shortens_keeps closed_shortens))))

fields_less : (d : ℕ) (b : Bool) → Shortens (fields_on d b)
fields_less d true = map_shortens _ _ (rest_shortens identifier (shortens_keeps identifier_shortens))
fields_less d false = map_shortens _ _ (rest_shortens (field d) (shortens_keeps (field_shortens d)))

pub fields_shortens : (d : ℕ) → Shortens (fields d)
fields_shortens d = record { less = λ ts r a e. (fields_less d (is_symbol_next ts)).less ts r a e }

variant_less : (d : ℕ) (b : Bool) → Shortens (variant_on d b)
variant_less d true = map_shortens _ identifier identifier_shortens
variant_less d false =
    map_shortens _ _ (seq_shortens (opened_within d) _ (opened_shortens d)
    (seq_keeps _ _ (shortens_keeps identifier_shortens) (shortens_keeps (fields_shortens (d - 1)))))

pub variant_shortens : (d : ℕ) → Shortens (variant d)
variant_shortens d = record { less = λ ts r a e. (variant_less d (is_symbol_next ts)).less ts r a e }

pub field_at_end : (d : ℕ) → field d [] ≡ fault []
field_at_end zero = refl
field_at_end (suc d) = refl

pub variant_at_end : (d : ℕ) → variant d [] ≡ fault []
variant_at_end zero = refl
variant_at_end (suc d) = refl

pub many_at_end : {A : Type 0} (p : Reader A) → p [] ≡ fault [] → rest_of p [] ≡ fault []
unfolding many
many_at_end p e = rw e refl

pub fields_at_end : (d : ℕ) → fields d [] ≡ fault []
fields_at_end d = ap (read_map _) (many_at_end (field d) (field_at_end d))
