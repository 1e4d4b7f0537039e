-- What the loop over the pending pairs keeps.
use Rattle.std.proofs.Common.{◌≡◌, ◌≢◌, ◌<◌, ◌⊎◌, inl, inr, ℕ, List, length, get_or, Option, Some, slice_get, sym, ◌∙◌, ap, subst, arith}
use Rattle.std.specs.Prelude.{Contains}
use Rattle.std.proofs.lemmas.Option.{slice_get_within}
use Rattle.std.proofs.lemmas.List.{get_or_default}
use Rattle.isle_meaning.specs.Demands.{constrained}
use Rattle.isle_meaning.specs.Derived.{Derived, demanded, AreEqual}
use Rattle.isle_meaning.specs.Faults.{Conflict}
use Rattle.isle_meaning.specs.Numbered.{At}
use Rattle.isle_meaning.proofs.Matching.Numbering.{one_site}
use Rattle.isle_blocks.specs.declared.binding.Binding.{Binding}
use Rattle.isle_blocks.specs.declared.constraint.Constraint.{Constraint}
use Rattle.isle_blocks.specs.Rows.{rows_of, test_of}
use Rattle.isle_blocks.specs.Inside.ClosureFields.{field_binding}
use Rattle.isle_blocks.specs.Tables.{IsTable}
use Rattle.isle_blocks.specs.Inside.ClosureStates.{HasOwn, AreClasses, ArePairsBelow, ForDemands, IsJoined, IsSound, AreImplied, IsCovered}
use Rattle.isle_blocks.specs.Inside.ClosureStates.{IsClosed, IsChoice, IsClash, WasPushed, LikesAreIn, demanded_in}
use Rattle.isle_blocks.proofs.Rows.RowsInjective.{test-injective}
use Rattle.isle_blocks.proofs.Closure.Trees.{stands}
use Rattle.isle_blocks.proofs.Closure.Demands.{owned}
use Rattle.isle_blocks.proofs.Closure.Merge.{equal_back, equal_chain, equal_has, drop_is, moved, moved_drop, joined_classes, joined_sound}
use Rattle.isle_blocks.proofs.Closure.Merge.{likes_implied, joined_covered, closed_of}
use Rattle.isle_blocks.proofs.Closure.Count.{class_count, fewer_classes}

pub record Progress (table : List Binding) (own : List (Option Constraint)) (equals : List (ℕ × ℕ)) (class : List ℕ)
    (pending : List (ℕ × ℕ)) : Type 0 where
  pub classes : AreClasses (length table) class
  pub within : ArePairsBelow pending (length table)
  pub sound : ForDemands table equals own (λ name D. IsSound name table D class)
  pub implied : ForDemands table equals own (λ name D. AreImplied name table D pending)
  pub covered : IsCovered table equals own class pending

module _ (table : List Binding) (ok : IsTable table) (own : List (Option Constraint)) (own_fits : length own ≡ length table)
    (equals : List (ℕ × ℕ)) where
  pub progress_first : (class : List ℕ) → length class ≡ length table → ((a : ℕ) → a < length table → get_or class a 0 ≡ a)
      → ArePairsBelow equals (length table) → Progress table own equals class equals
  progress_first class fits alone within = record {
    classes = record {
      fits = fits;
      below = λ a h. subst (λ (z : ℕ). z < length table) (sym (alone a h)) h;
      flat =
          λ a h. ap (λ (z : ℕ). get_or class z 0) (alone a h);
    };
    within = within;
    sound = λ name injective has are a h t u p q. inl (one_site (rows_of name table) t u a p
        (subst (λ (z : ℕ). At (rows_of name table) u z) (alone a h) q));
    implied = λ name injective has are a b h t u p q. inr (demanded (a, b, h, p, q));
    covered = record {
      given = λ a b h label by_class by_pair. by_pair a b h;
      shared = λ a c h k. subst (λ (z : ℕ). HasOwn own z c) (sym (alone a h)) k;
      like = λ a c kind i f g h k l p q.
          let s : f ≡ g = ok.once (field_binding kind a i) f g p
          (subst (λ (z : ℕ). slice_get table g ≡ Some (field_binding kind z i)) (alone a h) q) in
          λ label by_class by_pair. ap label s;
    };
  }

  module _ (class : List ℕ) (pending rest : List (ℕ × ℕ)) (x y : ℕ) (before : Progress table own equals class pending)
      (apart : get_or class x 0 ≢ get_or class y 0) (listed : Contains pending (x, y)) where
    pub x_in : x < length table
    x_in = (before.within x y listed).0

    pub y_in : y < length table
    y_in = (before.within x y listed).1

    pub progress_clash : IsClash own (get_or class x 0) (get_or class y 0) → ForDemands table equals own (λ name D. Conflict D)
    progress_clash k name injective has are =
        let D = demanded_in name table has equals in
        let cx_in = before.classes.below x x_in in let cy_in = before.classes.below y y_in in
        let (a, ax) = stands name table ok x x_in in let (b, by) = stands name table ok y y_in in
        let (t, tx) = stands name table ok (get_or class x 0) cx_in in let (u, uy) = stands name table ok (get_or class y 0) cy_in in
        let to_t = before.sound name injective has are x x_in a t ax tx in let to_u = before.sound name injective has are y y_in b u by uy in
        let same : AreEqual D u t =
        equal_chain D u b t (equal_back D b u to_u)
        (equal_chain D b a t (equal_back D a b (before.implied name injective has are x y listed a b ax by)) to_t) in
        let at_u : Derived D (constrained u (test_of name k.other)) =
        demanded (owned name table equals own has are (get_or class y 0) k.other u k.has_other uy) in
        record {
          site = t;
          one = test_of name k.one;
          other = test_of name k.other;
          has_one = demanded (owned name table equals own has are (get_or class x 0) k.one t k.has_one tx);
          has_other = equal_has D u t (test_of name k.other) same at_u;
          differ = λ e. k.differ (test-injective name injective k.one k.other e);
        }

    module _ (drop keep : ℕ) (choice : IsChoice own (get_or class x 0) (get_or class y 0) drop keep)
        (fewer : (a b : ℕ) → Contains rest (a, b) → Contains pending (a, b))
        (taken : (a b : ℕ) → Contains pending (a, b) → Contains rest (a, b) ⊎ (get_or class a 0 ≡ get_or class b 0) ⊎
        (◌≡◌ {A = Option (ℕ × ℕ)} (Some (x, y)) (Some (a, b))))
        (joined : List ℕ) (final : List (ℕ × ℕ)) (same_length : length joined ≡ length class) (join : IsJoined class joined drop keep)
        (pushed : (a b : ℕ) → Contains final (a, b) → WasPushed table own class drop keep rest a b)
        (kept : (a b : ℕ) → Contains rest (a, b) → Contains final (a, b)) (likes : LikesAreIn table own class drop keep final) where
      pub progress_more : Progress table own equals joined final
      progress_more = record {
        classes = joined_classes table ok equals own class joined (before.classes) x y drop keep x_in y_in apart (choice.which) same_length join;
        within = λ a b h. elim (pushed a b h) [
          | inl k ↦ before.within a b (fewer a b k)
          | inr (c, has, (m, in_class, like)) ↦ (
            slice_get_within table a (field_binding like.kind m like.index) like.field,
            slice_get_within table b
                (field_binding like.kind keep like.index) like.kept,
          )
        ];
        sound = λ name injective has are. joined_sound table ok equals own class joined (before.classes) x y drop keep x_in y_in apart
            (choice.which) same_length join
            name (demanded_in name table has equals) (before.sound name injective has are) (before.implied name injective has are x y listed);
        implied = λ name injective has are a b h. elim (pushed a b h) [
          | inl k ↦ before.implied name injective has are a b (fewer a b k)
          | inr (c, own_has, like) ↦ likes_implied table ok equals own class joined (before.classes) x y drop keep x_in y_in apart
              (choice.which) same_length join
              name (demanded_in name table has equals) (before.sound name injective has are) (before.implied name injective has are x y listed)
              (owned name table equals own has are) c a b own_has like
        ];
        covered = joined_covered table ok equals own class joined (before.classes) x y drop keep x_in y_in apart
            (choice.which) same_length join pending rest final taken (before.within) kept
            (choice.shared) likes (before.covered);
      }

      pub progress_ends : class_count joined (length table) < class_count class (length table)
      progress_ends =
          let d = drop_is table ok equals own class joined (before.classes) x y drop keep x_in y_in apart (choice.which) same_length join in
          fewer_classes class joined (length table) drop keep (d.0) (d.1) (d.2)
          (moved_drop table ok equals own class joined (before.classes) x y drop keep x_in y_in apart (choice.which) same_length join)
          (moved table ok equals own class joined (before.classes) x y drop keep x_in y_in apart (choice.which) same_length join) (d.4)

  pub progress_done : (class : List ℕ) (pending : List (ℕ × ℕ)) → Progress table own equals class pending
      → ((a b : ℕ) → Contains pending (a, b) → get_or class a 0 ≡ get_or class b 0) → IsClosed table equals own class
  progress_done class pending p done = record {
    given = λ a b h. closed_of table class pending (p.classes) done a b (p.covered.given a b h);
    shared = p.covered.shared;
    like = λ a c kind i f g h k l e d. closed_of table class pending (p.classes) done f g (p.covered.like a c kind i f g h k l e d);
  }

-- the root of a site, as it was read
pub root_read : (class : List ℕ) (n x r : ℕ) → length class ≡ n → x < n → r ≡ get_or class x r → r ≡ get_or class x 0
root_read class n x r fits h e = e ∙ get_or_default class x r 0 (omega arith)

-- One turn of the loop, as the code sees it: the lists that the calls were lent are the classes.
pub turn : (table : List Binding) (ok : IsTable table) (own : List (Option Constraint)) (own_fits : length own ≡ length table) (equals : List (ℕ × ℕ))
    (class seen lent joined out : List ℕ) (pending rest final : List (ℕ × ℕ)) (x y a b drop keep : ℕ)
    → Progress table own equals class pending → seen ≡ class → lent ≡ class
    → ((a b : ℕ) → Contains rest (a, b) → Contains pending (a, b))
    → Contains pending (x, y) → get_or seen x 0 ≢ get_or seen y 0
    → ((a b : ℕ) → Contains pending (a, b) → Contains rest (a, b) ⊎ (get_or seen a 0 ≡ get_or seen b 0) ⊎
    (◌≡◌ {A = Option (ℕ × ℕ)} (Some (x, y)) (Some (a, b))))
    → a ≡ get_or class x a → b ≡ get_or class y b → IsChoice own a b drop keep
    → length joined ≡ length lent → IsJoined lent joined drop keep
    → ((a b : ℕ) → Contains final (a, b) → WasPushed table own lent drop keep rest a b)
    → ((a b : ℕ) → Contains rest (a, b) → Contains final (a, b)) → LikesAreIn table own lent drop keep final → out ≡ joined
    → Progress table own equals out final × (class_count out (length table) < class_count class (length table))
turn table ok own own_fits equals class seen lent joined out pending rest final x y a b drop keep before seen_is
    lent_is fewer listed apart taken ea eb choice same_length join pushed kept likes out_is =
    let i = before.within x y listed in
    let ra = root_read class (length table) x a (before.classes.fits) (i.0) ea in
    let rb = root_read class (length table) y b (before.classes.fits) (i.1) eb in
    let choice' = subst (λ (z : ℕ). IsChoice own z (get_or class y 0) drop keep) ra (subst (λ (z : ℕ). IsChoice own a z drop keep) rb choice) in
    let apart' = subst (λ (l : List ℕ). get_or l x 0 ≢ get_or l y 0) seen_is apart in
    let taken' = subst (λ (l : List ℕ). (a b : ℕ) → Contains pending (a, b) → Contains rest (a, b) ⊎ (get_or l a 0 ≡ get_or l b 0) ⊎
    (◌≡◌ {A = Option (ℕ × ℕ)} (Some (x, y)) (Some (a, b)))) seen_is taken in
    let join' = subst (λ (l : List ℕ). IsJoined l joined drop keep) lent_is join in
    let pushed' = subst (λ (l : List ℕ). (a b : ℕ) → Contains final (a, b) → WasPushed table own l drop keep rest a b) lent_is pushed in
    let likes' = subst (λ (l : List ℕ). LikesAreIn table own l drop keep final) lent_is likes in
    let more = progress_more table ok own own_fits equals class pending rest x y before apart' listed drop keep choice' fewer taken' joined final
    (same_length ∙ ap length lent_is) join' pushed' kept likes' in
    let less = progress_ends table ok own own_fits equals class pending rest x y before apart' listed drop keep choice' fewer taken' joined final
    (same_length ∙ ap length lent_is) join' pushed' kept likes' in (
      subst (λ (l : List ℕ). Progress table own equals l final) (sym out_is) more,
      subst (λ (l : List ℕ). class_count l (length table) < class_count class (length table)) (sym out_is) less,
    )
