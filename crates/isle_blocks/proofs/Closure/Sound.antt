-- What is merged follows from the demands, in the table grown by missing fields too.
use Rattle.std.proofs.Common.{◌≡◌, ◌<◌, ◌++◌, inl, inr, ℕ, List, [], ◌∷◌, length, get_or, Option, Some, slice_get, ◌∙◌, ap, subst, arith}
use Rattle.isle_containers.proofs.Lists.{slice_get-kept, slice_get-last}
use Rattle.isle_types.specs.declared.ids.Sym.{Sym}
use Rattle.isle_meaning.specs.Sites.{Site}
use Rattle.isle_meaning.specs.Demands.{Demand, constrained}
use Rattle.isle_meaning.specs.Derived.{demanded, AreEqual}
use Rattle.isle_meaning.specs.Numbered.{At}
use Rattle.isle_meaning.proofs.Matching.Numbering.{one_site}
use Rattle.isle_blocks.specs.declared.binding.Binding.{Binding}
use Rattle.isle_blocks.specs.declared.constraint.Constraint.{Constraint}
use Rattle.isle_blocks.specs.Rows.{rows_of, test_of}
use Rattle.isle_blocks.specs.Inside.ClosureFields.{field_binding, field_site}
use Rattle.isle_blocks.specs.Inside.ClosureStates.{HasOwn, IsState, IsMissingField, Grows, Still, Added, IsSound}
use Rattle.isle_blocks.proofs.Closure.Pairs.{own_in}
use Rattle.isle_blocks.proofs.Closure.Trees.{stands, field_at}
use Rattle.isle_blocks.proofs.Closure.Merge.{equal_back, equal_chain, equal_parts}
use Rattle.isle_blocks.proofs.Closure.Longer.{stays, stood}
use Rattle.isle_blocks.proofs.Closure.Growth.{class_old, class_new, below_cases, root_below, f_in, grown_state, grown_longer}

module _ (own : List (Option Constraint)) (equals : List (ℕ × ℕ)) (table : List Binding) (class : List ℕ) (state : IsState own equals table class)
    (s : ℕ) (kind : Option ℕ) (i f : ℕ) (needed : IsMissingField own table class s kind i f) (name : Sym → List ℕ) (D : Demand → Type 0)
    (owns : (a : ℕ) (c : Constraint) (t : Site) → HasOwn own a c → At (rows_of name table) t a → D (constrained t (test_of name c)))
    (sound : IsSound name table D class) where
  abbrev longer : List Binding
  longer = table ++ field_binding kind s i ∷ []

  kept : (k : ℕ) (b : Binding) → slice_get table k ≡ Some b → slice_get longer k ≡ Some b
  kept k b h = slice_get-kept table (field_binding kind s i ∷ []) k b h

  back : (t : Site) (k : ℕ) → At (rows_of name longer) t k → k < length table → At (rows_of name table) t k
  back = stood name table longer kept state.table_ok

  -- the new field is equal to whatever its class's representative is
  new_sound : (t u : Site) → At (rows_of name longer) t (length table) → At (rows_of name table) u (get_or class f 0) → AreEqual D t u
  new_sound t u p q =
      let (ts, at_s) = stands name table state.table_ok s needed.site_in in
      let (tr, at_r) = stands name table state.table_ok (get_or class s 0) (state.classes.below s needed.site_in) in
      let (c, has, opens) = needed.opened in
      let to_root : AreEqual D ts tr = sound s needed.site_in ts tr at_s at_r in
      let parts : AreEqual D (field_site kind tr i) (field_site kind ts i) =
      equal_parts D name tr ts c kind i (equal_back D ts tr to_root) (demanded (owns (get_or class s 0) c tr has at_r)) opens in
      let here : At (rows_of name longer) (field_site kind ts i) (length table) =
      field_at name longer kind s i (length table) ts (slice_get-last table (field_binding kind s i)) (stays name table longer kept ts s at_s) in
      let same : t ≡ field_site kind ts i = one_site (rows_of name longer) t (field_site kind ts i) (length table) p here in
      let like : AreEqual D (field_site kind tr i) u =
      sound f (f_in own equals table class state s kind i f needed) (field_site kind tr i) u
      (field_at name table kind (get_or class s 0) i f tr needed.like at_r) q in
      equal_chain D t (field_site kind ts i) u (inl same)
      (equal_chain D (field_site kind ts i) (field_site kind tr i) u (equal_back D (field_site kind tr i) (field_site kind ts i) parts) like)

  pub sound_more : IsSound name (table ++ field_binding kind s i ∷ []) D (class ++ get_or class f 0 ∷ [])
  sound_more a h t u p q =
      let low = root_below own equals table class state s kind i f needed a h in
      let at_u : At (rows_of name table) u (get_or (class ++ get_or class f 0 ∷ []) a 0) =
      back u (get_or (class ++ get_or class f 0 ∷ []) a 0) q low in
      elim (below_cases own equals table class state s kind i f needed a h) [
        | inl l ↦ sound a l t u (back t a p l) (subst (λ (z : ℕ). At (rows_of name table) u z)
            (class_old own equals table class state s kind i f needed a l) at_u)
        | inr e ↦ new_sound t u (subst (λ (z : ℕ). At (rows_of name longer) t z) e p)
            (subst (λ (z : ℕ). At (rows_of name table) u z)
            (ap (λ (z : ℕ). get_or (class ++ get_or class f 0 ∷ []) z 0) e ∙ class_new own equals table class state s kind i f needed) at_u)
      ]

module _ (own : List (Option Constraint)) (equals : List (ℕ × ℕ)) (name : Sym → List ℕ) (D : Demand → Type 0) where
  -- own tests are demanded of the grown table's sites
  pub grown_owns : (t u : List Binding) (c d : List ℕ) → Grows own t c u d → IsState own equals t c → length own ≡ length t
      → ((a : ℕ) (test : Constraint) (x : Site) → HasOwn own a test → At (rows_of name t) x a → D (constrained x (test_of name test)))
      → (a : ℕ) (test : Constraint) (x : Site) → HasOwn own a test → At (rows_of name u) x a → D (constrained x (test_of name test))
  grown_owns t u c d grows state fits owns a test x has at =
      let low = own_in own a test has in
      owns a test x has (stood name t u (grown_longer own equals t u c d grows) state.table_ok x a at (omega arith))

  pub grown_sound : (t u : List Binding) (c d : List ℕ) → Grows own t c u d → IsState own equals t c → length own ≡ length t
      → ((a : ℕ) (test : Constraint) (x : Site) → HasOwn own a test → At (rows_of name t) x a → D (constrained x (test_of name test)))
      → IsSound name t D c → IsSound name u D d
  grown_sound t u c d Still state fits owns sound = sound
  grown_sound t u c d (Added {u = w} {d = e} s kind i f g needed) state fits owns sound =
      sound_more own equals w e (grown_state own equals t w c e g state) s kind i f needed name D (grown_owns t w c e g state fits owns)
      (grown_sound t w c e g state fits owns sound)
