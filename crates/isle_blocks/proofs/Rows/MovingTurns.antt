-- One more site moved.
use Rattle.std.proofs.Common.{◌≡◌, ◌<◌, ◌+◌, ℕ, List, [], ◌∷◌, ◌++◌, length, get_or, take, refl, sym, subst}
use Rattle.std.proofs.lemmas.Option.{slice_get_read}
use Rattle.isle_types.proofs.DefinitionTurns.{take_here}
use Rattle.isle_blocks.specs.declared.ids.BindingId.{BindingId}
use Rattle.isle_blocks.specs.declared.binding.Binding.{Binding}
use Rattle.isle_blocks.specs.Tables.{IsInterned, IsFull}
use Rattle.isle_blocks.specs.Inside.MovedSites.{new_number, renumbered, MovesSites, next_site_moved, EndsFull}

pub moved_more : (base own : List Binding) (i : ℕ) (site moved : Binding) (numbers more : List BindingId)
    (id : BindingId) (table after : List Binding)
    → i < length own → site ≡ get_or own i site → MovesSites base (take i own) numbers table → moved ≡ renumbered (new_number numbers) site
    → IsInterned table moved id after → more ≡ numbers ++ id ∷ [] → MovesSites base (take (i + 1) own) more after
moved_more base own i site moved numbers more id table after l e m r interned p =
    subst (λ xs. MovesSites base xs more after) (sym (take_here own i site l e))
    (subst (λ ns. MovesSites base (take i own ++ site ∷ []) ns after) (sym p)
    (next_site_moved site id after m (subst (λ b. IsInterned table b id after) r interned)))

pub ends_full : (base own : List Binding) (i : ℕ) (site moved : Binding) (numbers : List BindingId) (table after : List Binding)
    → i < length own → site ≡ get_or own i site → MovesSites base (take i own) numbers table → moved ≡ renumbered (new_number numbers) site
    → after ≡ table → IsFull table moved → EndsFull base own after
ends_full base own i site moved numbers table after l e m r same full = record {
  place = i;
  site = site;
  numbers = numbers;
  at = slice_get_read own (length own) i site refl l e;
  moved = subst (λ t. MovesSites base (take i own) numbers t) (sym same) m;
  full = subst (λ t. IsFull t (renumbered (new_number numbers) site)) (sym same) (subst (λ b. IsFull table b) r full);
}
