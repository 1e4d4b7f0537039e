-- Where nothing is to be made equal, each site is a class of its own.
use Rattle.std.proofs.Common.{◌≡◌, ◌<◌, ◌-◌, [], ℕ, List, Option, length, get_or, arith, sym, ◌∙◌, subst}
use Rattle.std.specs.Prelude.{Contains}
use Rattle.std.proofs.lemmas.Option.{slice_get_within}
use Rattle.isle_blocks.specs.declared.binding.Binding.{Binding}
use Rattle.isle_blocks.specs.declared.constraint.Constraint.{Constraint}
use Rattle.isle_blocks.specs.Inside.ClosureFields.{field_binding}
use Rattle.isle_blocks.specs.Tables.{IsTable}
use Rattle.isle_blocks.specs.Inside.ClosureStates.{AreClosedClasses, ArePairsBelow, IsRanked}
use Rattle.isle_blocks.proofs.Closure.Progress.{Progress, progress_first, progress_done}
use Rattle.isle_blocks.proofs.Closure.Trees.{field_source}

-- a field stands behind its site
alone_ranked : (table : List Binding) → IsTable table → (own : List (Option Constraint)) (class : List ℕ)
    → ((a : ℕ) → a < length table → get_or class a 0 ≡ a) → IsRanked table own class
alone_ranked table ok own class alone = record {
  rank = λ a. length table - a;
  falls = λ r g k child.
      let within : g < length table = slice_get_within table g (field_binding child.kind r child.index) child.field in
      let behind : r < g = ok.earlier g (field_binding child.kind r child.index) _ child.field (field_source child.kind r child.index) in
      let itself : g ≡ k = sym (alone g within) ∙ child.leads in
      omega arith;
}

-- these classes are closed
pub alone_closed : (table : List Binding) → IsTable table → (own : List (Option Constraint)) → length own ≡ length table → (equals : List (ℕ × ℕ))
    → ArePairsBelow equals (length table) → equals ≡ [] → (class : List ℕ) → length class ≡ length table
    → ((a : ℕ) → a < length table → get_or class a 0 ≡ a) → AreClosedClasses table equals own class
alone_closed table ok own own_fits equals within none class fits alone =
    let first : Progress table own equals class equals = progress_first table ok own own_fits equals class fits alone within in record {
      classes = first.classes;
      sound = first.sound;
      closed = progress_done table ok own own_fits equals class equals first
          (λ a b h. let (j, l, q) = subst (λ (p : List (ℕ × ℕ)). Contains p (a, b)) none h in absurd (omega arith));
      ranked = alone_ranked table ok own class alone;
    }
