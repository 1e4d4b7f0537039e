-- A rule's own sites put behind those of a table, where they have other numbers.
use Rattle.std.proofs.Common.{◌≡◌, ◌<◌, ◌≤◌, ◌+◌, inl, inr, ℕ, zero, suc, pos, List, [], ◌∷◌, Option, None, Some, slice_get, length}
use Rattle.std.proofs.Common.{refl, sym, ap, subst, arith}
use Rattle.isle_containers.proofs.Lists.{slice_get-kept}
use Rattle.isle_blocks.specs.declared.binding.Binding.{Binding}
use Rattle.isle_blocks.specs.declared.binding.Binding.TheVariants as sites
use Rattle.isle_blocks.specs.declared.ids.BindingId.{BindingId}
use Rattle.isle_blocks.specs.Inside.ClosureFields.{field_binding}
use Rattle.isle_blocks.specs.Inside.FieldOrder.{IsFieldAt, AreFieldsInOrder}
use Rattle.isle_blocks.specs.Closure.{ComesBefore}
use Rattle.isle_blocks.specs.Inside.MovedSites.{MovesSites, no_sites_moved, next_site_moved}
use Rattle.isle_blocks.specs.Inside.Placing.{IsPutFirst}
use Rattle.isle_blocks.specs.Tables.{IsAbsent, IsInterned}

abbrev id : ℕ → BindingId
id k = record { 0 = k }

-- the literal 7 of type 1
abbrev seven : Binding
seven = sites.ConstInt (pos 7) (record { 0 = 1 })

abbrev first_argument : Binding
first_argument = sites.Argument (record { 0 = 0 })

-- an option with the value of a number
abbrev some_of : ℕ → Binding
some_of k = sites.MakeSome (id k)

-- what stood
abbrev base : List Binding
base = seven ∷ []

-- a rule's own sites: an argument, 7, and an option with that
abbrev own : List Binding
own = first_argument ∷ seven ∷ some_of 1 ∷ []

-- 7 stands already, so the argument is put second, and the option is one with the value of number 0
abbrev two : List Binding
two = seven ∷ first_argument ∷ []

abbrev three : List Binding
three = seven ∷ first_argument ∷ some_of 0 ∷ []

one_lacks : IsAbsent base first_argument
one_lacks zero e = cc
one_lacks (suc k) e = cc

two_lack : IsAbsent two (some_of 0)
two_lack zero e = cc
two_lack (suc zero) e = cc
two_lack (suc (suc k)) e = cc

moved_argument : MovesSites base (first_argument ∷ []) (id 1 ∷ []) two
moved_argument = next_site_moved first_argument (id 1) two no_sites_moved (inr (one_lacks, refl, refl))

moved_seven : MovesSites base (first_argument ∷ seven ∷ []) (id 1 ∷ id 0 ∷ []) two
moved_seven = next_site_moved seven (id 0) two moved_argument (inl (refl, refl))

pub moved : MovesSites base own (id 1 ∷ id 0 ∷ id 2 ∷ []) three
moved = next_site_moved (some_of 1) (id 2) three moved_seven (inr (two_lack, refl, refl))

-- behind those stand the two fields that the argument, a struct, is opened into
abbrev part : ℕ → Binding
part i = field_binding None 1 i

abbrev opened : List Binding
opened = seven ∷ first_argument ∷ some_of 0 ∷ part 0 ∷ part 1 ∷ []

abbrev source_at : Option Binding → ℕ
source_at (Some (sites.MatchVariant source variant field)) = source.0
source_at (Some (sites.ExtractStruct source field)) = source.0
source_at _ = 0

abbrev index_at : Option Binding → ℕ
index_at (Some (sites.MatchVariant source variant field)) = field.0
index_at (Some (sites.ExtractStruct source field)) = field.0
index_at _ = 0

read : (table : List Binding) (k site index : ℕ) → IsFieldAt table k site index
    → (source_at (slice_get table k) ≡ site) × (index_at (slice_get table k) ≡ index)
read table k site index (None, e) = (ap source_at e, ap index_at e)
read table k site index (Some variant, e) = (ap source_at e, ap index_at e)

part_at : (k site index : ℕ) → 3 ≤ k → IsFieldAt opened k site index → (site ≡ 1) × (index + 3 ≡ k)
part_at zero site index high is = absurd (omega arith)
part_at (suc zero) site index high is = absurd (omega arith)
part_at (suc (suc zero)) site index high is = absurd (omega arith)
part_at (suc (suc (suc zero))) site index high is = let (e, f) = read opened 3 site index is in (sym e, omega arith)
part_at (suc (suc (suc (suc zero)))) site index high is = let (e, f) = read opened 4 site index is in (sym e, omega arith)
part_at (suc (suc (suc (suc (suc k))))) site index high (kind, e) = absurd cc

parts_in_order : AreFieldsInOrder 3 opened
parts_in_order = record { fields = fields; order = order }
  where
    fields : (k : ℕ) → 3 ≤ k → k < 5 → (site : ℕ) × (index : ℕ) × IsFieldAt opened k site index
    fields zero high low = absurd (omega arith)
    fields (suc zero) high low = absurd (omega arith)
    fields (suc (suc zero)) high low = absurd (omega arith)
    fields (suc (suc (suc zero))) high low = (1, 0, (None, refl))
    fields (suc (suc (suc (suc zero)))) high low = (1, 1, (None, refl))
    fields (suc (suc (suc (suc (suc k))))) high low = absurd (omega arith)

    order : (k l site index later number : ℕ) → 3 ≤ k → k < l → IsFieldAt opened k site index → IsFieldAt opened l later number
        → ComesBefore site index later number
    order k l site index later number high less is is_later =
        let (p, q) = part_at k site index high is in
        let more : 3 ≤ l = omega arith in
        let (r, t) = part_at l later number more is_later in inr (omega arith, omega arith)

pub put_first : IsPutFirst base own opened
put_first = record {
  ids = id 1 ∷ id 0 ∷ id 2 ∷ [];
  mid = three;
  moved = moved;
  kept = λ k site at. slice_get-kept three (part 0 ∷ part 1 ∷ []) k site at;
  fields = parts_in_order;
}

-- the second field isn't put before the first
pub not_turned : AreFieldsInOrder 3 (seven ∷ first_argument ∷ some_of 0 ∷ part 1 ∷ part 0 ∷ []) → ⊥
not_turned in_order = wrong (in_order.order 3 4 1 1 1 0 (omega arith) (omega arith) (None, refl) (None, refl))
  where
    wrong : ComesBefore 1 1 1 0 → ⊥
    wrong (inl less) = omega arith
    wrong (inr (same, less)) = omega arith

-- a site that stands isn't put again
pub not_again : (number : BindingId) → IsInterned base seven number (seven ∷ seven ∷ []) → ⊥
not_again number (inl (there, same)) = let short : length (seven ∷ seven ∷ []) ≡ length base = ap length same in omega arith
not_again number (inr (absent, last, same)) = absent 0 refl

-- nor is one put before those that stand
kept : {sites_of : List Binding} {numbers : List BindingId} {table : List Binding} → MovesSites base sites_of numbers table
    → slice_get table 0 ≡ Some seven
kept no_sites_moved = refl
kept (next_site_moved {table = before} site number after early put) = stays before _ number after (kept early) put
  where
    stays : (old : List Binding) (site : Binding) (number : BindingId) (new : List Binding) → slice_get old 0 ≡ Some seven
        → IsInterned old site number new → slice_get new 0 ≡ Some seven
    stays old site number new there (inl (found, same)) = subst (λ (l : List Binding). slice_get l 0 ≡ Some seven) (sym same) there
    stays old site number new there (inr (absent, last, same)) =
        subst (λ (l : List Binding). slice_get l 0 ≡ Some seven) (sym same) (slice_get-kept old (site ∷ []) 0 seven there)

pub not_before : IsPutFirst base own (first_argument ∷ seven ∷ some_of 1 ∷ []) → ⊥
not_before put = let first : Some first_argument ≡ Some seven = put.kept 0 seven (kept put.moved) in cc
