use Rattle.std.proofs.Common.{◌≡◌, ◌==◌, take}
use Rattle.std.specs.List.{list_any}
use Rattle.isle_types.specs.declared.ids.Sym.{Sym}
use Rattle.isle_types.specs.Names.{AreDistinct}
use Rattle.isle_containers.specs.StableMaps.{has}
use Rattle.isle_types.proofs.env.fields.duplicate.Given as goal

abbrev pub invariant-loop-place : goal.invariant-loop-place
invariant-loop-place l = record {
  members : (sym : Sym) → has (λ (a b : Sym). a.0 == b.0) l.before sym ≡ list_any (λ (other : Sym). sym.0 == other.0) (take l.place l.names);
  once : AreDistinct (take l.place l.names);
}
