-- Variables copied to another map, entry by entry.
use Rattle.std.proofs.Common.{◌≡◌, rules, refl, List, None}
use Rattle.std.specs.Prelude.{◌==◌, Bool}
use Rattle.std.specs.Cmp.{IsEquivalence}
use Rattle.std.specs.Cmp.Rules.{comparing}
use Rattle.std.specs.List.{IsDistinct}
use Rattle.std.specs.Map.{keys_of, lookup, update_all}
use Rattle.std.proofs.lemmas.Map.Made.{update_all_none}
use Rattle.isle_types.specs.declared.ids.VarId.{VarId}

-- variables are equal where their numbers are
abbrev pub same_var : VarId → VarId → Bool
same_var a b = a.0 == b.0

pub same_var_laws : IsEquivalence same_var
same_var_laws = Prim.search (comparing, rules)

-- all entries inserted in turn over nothing
pub all_inserted : {T : Type 0} (entries : List (VarId × T)) (q : VarId) → IsDistinct same_var (keys_of entries)
    → update_all same_var (λ _. None) entries q ≡ lookup (same_var q) entries
all_inserted entries q distinct = update_all_none same_var_laws same_var (λ x y. refl) entries q distinct
