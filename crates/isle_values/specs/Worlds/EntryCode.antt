-- An entry of a world as something that a proof tells apart.
use Rattle.std.specs.Prelude.{◌≡◌, ℕ, refl}
use Rattle.std.proofs.Common.{ap}
use Rattle.std.specs.Coded.{Coded, coded_ℕ, coded_list, coded_option}
use base.Stored.{Gv, gcons}
use Rattle.isle_ast.specs.Trees.Coded.{left, right}
use Rattle.isle_values.specs.declared.worlds.entry.Side.{Side}
use Rattle.isle_values.specs.declared.worlds.entry.Side.TheVariants.{Constructor, Extractor}
use Rattle.isle_values.specs.Values.Code.{value_trees_code}
use Rattle.isle_values.specs.Worlds.Entries.{EntryTree}

abbrev pub side_number : Side → ℕ
side_number Constructor = 0
side_number Extractor = 1

pub side_number_inj : (s t : Side) → side_number s ≡ side_number t → s ≡ t
side_number_inj Constructor Constructor e = refl
side_number_inj Constructor Extractor e = cc
side_number_inj Extractor Constructor e = cc
side_number_inj Extractor Extractor e = refl

abbrev pub entry_code_of : EntryTree → Gv
entry_code_of e = gcons (gcons (coded_ℕ.code (side_number e.side)) ((coded_list coded_ℕ).code e.term))
    (gcons ((coded_option value_trees_code).code e.call) ((coded_option value_trees_code).code e.answer))

pub entry_code_inj : (d e : EntryTree) → entry_code_of d ≡ entry_code_of e → d ≡ e
entry_code_inj d e same =
    let side = side_number_inj d.side e.side (coded_ℕ.inj (side_number d.side) (side_number e.side) (ap (λ g. left (left g)) same)) in
    let term = (coded_list coded_ℕ).inj d.term e.term (ap (λ g. right (left g)) same) in
    let call = (coded_option value_trees_code).inj d.call e.call (ap (λ g. left (right g)) same) in
    let answer = (coded_option value_trees_code).inj d.answer e.answer (ap (λ g. right (right g)) same) in
    λ i. record { side = side i; term = term i; call = call i; answer = answer i }

abbrev pub entry_tree_code : Coded EntryTree
entry_tree_code = record { code = entry_code_of; inj = entry_code_inj }
