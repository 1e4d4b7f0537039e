use Rattle.std.proofs.Common.{◌≡◌, ◌<◌, [], ◌∷◌, ◌++◌, length, set, get_or, ℕ, List, Vec, Global, map, sym, ◌∙◌, ap, arith}
use Rattle.std.proofs.lemmas.List.{map-set, get_or-map, length-map}
use Rattle.isle_terms.proofs.env.graph.Graph.add.Goals as goal

abbrev targets : Vec ℕ Global → List ℕ
targets row = row.items

-- a target more in one row
row_added : (rows : List (Vec ℕ Global)) (graph : List (List ℕ)) (from to : ℕ) (row more : Vec ℕ Global) → map targets rows ≡ graph
    → from < length graph → row ≡ get_or rows from row → more.items ≡ row.items ++ to ∷ []
    → map targets (set rows from more) ≡ set graph from (get_or graph from [] ++ to ∷ [])
row_added rows graph from to row more is inside at added =
    let as_many : length rows ≡ length graph = sym (length-map rows targets) ∙ ap length is in
    let within : from < length rows = omega arith in
    let before : row.items ≡ get_or graph from [] =
    ap targets at ∙ sym (get_or-map targets rows from row [] within) ∙ ap (λ (g : List (List ℕ)). get_or g from []) is in
    map-set targets rows from more ∙ ap (λ (g : List (List ℕ)). set g from more.items) is
    ∙ ap (set graph from) (added ∙ ap (λ (ts : List ℕ). ts ++ to ∷ []) before)

pub returns : goal.returns
returns c =
    row_added c.self.inside.rows.items c.args.self.now c.args.from c.args.to c.index_mut.result.now c.push.new.self c.self.view_is c.requires
    c.index_mut.ensures.value c.in_ok-push.ensures.items
