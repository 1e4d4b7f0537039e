-- What a call is given where a rule returns, and what it comes to where no step is left.
use Rattle.std.proofs.Common.{◌≡◌, ◌+◌, ◌++◌, ℕ, Bool, true, false, List, [], Option, Some, None, slice_get, arith, refl, sym, ap, subst, ◌∙◌}
use Rattle.std.proofs.lemmas.List.{append-nil}
use Rattle.isle_trees.specs.Rules.{Elem}
use Rattle.isle_meaning.specs.Demands.{result_of}
use Rattle.isle_meaning.specs.Got.{gives}
use Rattle.isle_meaning.specs.Held.{Held, held_value, held_outputs, held_none, held_some, held_answers}
use Rattle.isle_meaning.specs.Machine.Runs.{known, read, read_row, result_held}
use Rattle.isle_meaning.specs.Machine.Trees.{IsHeldOf, option_sort_if, site_of_row}
use Rattle.isle_meaning.specs.Numbered.{Row, bool_row, int_row, prim_row, argument_row, extractor_row, constructor_row, iterator_row}
use Rattle.isle_meaning.specs.Numbered.{make_variant_row, match_variant_row, make_struct_row, extract_struct_row, make_some_row}
use Rattle.isle_meaning.specs.Numbered.{match_some_row, match_tuple_row}
use Rattle.isle_meaning.specs.Outcomes.{Outcome, given, missing, ended}
use Rattle.isle_meaning.specs.Sites.{Site, make_some}
use Rattle.isle_meaning.specs.Sorts.{Sort, plain_sort, sort}
use Rattle.isle_meaning.specs.Values.{Value}
use Rattle.isle_meaning.specs.Worlds.{CheckedProgram, Event}
use Rattle.isle_ast.specs.declared.pos.Pos.{Pos as Place}
use Rattle.isle_blocks.specs.declared.ids.BindingId.{BindingId}
use Rattle.isle_blocks.specs.declared.serializer.views.ControlFlow.TheVariants as flows
use Rattle.isle_blocks.specs.declared.serializer.views.Steps.{Steps as Walk}
use Rattle.isle_calls.specs.declared.frames.Advanced.{Advanced}
use Rattle.isle_calls.specs.declared.frames.Advanced.TheVariants.{Is, Missing, Ends, Calls}
use Rattle.isle_calls.specs.declared.frames.Turn.TheVariants.{Comes as ComesTo}
use Rattle.isle_calls.specs.declared.store.Stored.{Stored}
use Rattle.isle_calls.specs.declared.machine.frame.At.TheVariants.{Past}
use Rattle.isle_calls.specs.declared.machine.frame.Frame.{Frame}
use Rattle.isle_calls.specs.declared.machine.holding.Holding.{Holding}
use Rattle.isle_calls.specs.Inside.Blocks.Frames.{CallComes, IsChecking, IsFrameOf, may_fail, sites_of_call, tree_of_call, tree_way}
use Rattle.isle_calls.specs.Inside.Blocks.Holdings.{Holds, TellsHeld}
use Rattle.isle_calls.specs.Calls.Open.{CallOf}
use Rattle.isle_calls.specs.Calls.Ways.{TurnsTo, UnmatchedIs}
use Rattle.isle_program.specs.Meanings.{checked}
use Rattle.isle_calls.specs.Stores.Values.{Stands}
use Rattle.isle_calls.proofs.TreeRoad.Going.{IsGoingAt, frame_unreplied}
use Rattle.isle_calls.proofs.TreeRoad.Known.{plain_holds, read_of_sort}

-- a row that stands for a made option is one
some_row : (site : ℕ → Site) (row : Row) (s : Site) → site_of_row site row ≡ make_some s → (j : ℕ) × (row ≡ make_some_row j)
some_row site (make_some_row k) s e = (k, refl)
some_row site (bool_row x ty) s e = absurd cc
some_row site (int_row x ty) s e = absurd cc
some_row site (prim_row x) s e = absurd cc
some_row site (argument_row j) s e = absurd cc
some_row site (extractor_row u k) s e = absurd cc
some_row site (constructor_row u js k) s e = absurd cc
some_row site (iterator_row k) s e = absurd cc
some_row site (make_variant_row ty v js) s e = absurd cc
some_row site (match_variant_row k v j) s e = absurd cc
some_row site (make_struct_row ty js) s e = absurd cc
some_row site (extract_struct_row k j) s e = absurd cc
some_row site (match_some_row k) s e = absurd cc
some_row site (match_tuple_row k j) s e = absurd cc

-- what is known is bound
known_is : {A : Type 0} (o : Option A) (x : A) → known o ≡ gives x → o ≡ Some x
known_is None x e = absurd cc
known_is (Some y) x e = cc

-- what is of a term's type is its value, in an option where the term may fail and what is held is one
result_value : (p : CheckedProgram) (partial : Bool) (ty : ℕ) (h : Held) → IsHeldOf p (option_sort_if partial (plain_sort ty)) h
    → (partial ≡ true → (x : Held) × (h ≡ held_some x)) → (v : Value) × (h ≡ result_held partial v)
result_value p false ty h is some = plain_holds p ty h is
result_value p true ty (held_some x) is some = let (v, e) = plain_holds p ty x is in (v, ap held_some e)
result_value p true ty held_none is some = absurd (let (x, e) = some refl in let q : held_none ≡ held_some x = e in cc)
result_value p true ty (held_value v) is some = absurd is
result_value p true ty (held_outputs vs) is some = absurd is
result_value p true ty (held_answers l) is some = absurd is

-- what a call comes to with no step more
pub at_once : (k : CallOf) (frame : Frame) (since : List Event) (r : Outcome Value) → CallComes k (frame.steps + 0) (since ++ []) r
    → CallComes k frame.steps since r
at_once k frame since r all =
    let steps : frame.steps + 0 ≡ frame.steps = omega arith in
    subst (λ (n : ℕ). CallComes k n since r) steps (subst (λ (l : List Event). CallComes k (frame.steps + 0) l r) (append-nil since) all)

-- what is told of the number of the value that a result holds
abbrev pub GivenBy : List Stored → Holding → Bool → Option ℕ → Type 0
GivenBy stored held partial o = (v : Value) → Holds stored held (result_held partial v) → (n : ℕ) × (o ≡ Some n) × Stands stored v n

-- a rule returns
module _ (k : CallOf) (stored : List Stored) (frame : Frame) (rule : ℕ) (pos : Place) (site : BindingId) (behind : Walk) (since : List Event)
    (g : IsChecking k stored frame (flows.Return rule pos site) behind since) where
  -- it is one of those left
  is_left : Elem rule g.is.left
  is_left = g.left g.goes_on.1.found g.goes_on.1.there rule g.goes_on.1.rule g.goes_on.1.rule_at

  -- the site is that of its result
  site_is : g.is.set.result rule ≡ site.0
  site_is = sym (g.is.returned rule is_left) ∙ g.goes_on.1.result_at

  -- which holds an option where the term may fail
  in_option : (h : Held) → read (sites_of_call k) k.args g.env site.0 ≡ gives h → may_fail k ≡ true → (x : Held) × (h ≡ held_some x)
  in_option h reads fail =
      let can = g.goes_on.0 in
      let there : slice_get (sites_of_call k) site.0 ≡ Some can.row =
      subst (λ (s : ℕ). slice_get (sites_of_call k) s ≡ Some can.row) g.goes_on.1.result_at can.there in
      let made = ap g.is.site (sym site_is) ∙ g.is.result rule is_left ∙ ap
      (λ (b : Bool). result_of (checked k.program).terms b (g.is.rule rule)) fail in
      let (j, row) = some_row g.is.site can.row _ (sym (g.is.sited site.0 can.row there) ∙ made) in
      let here : slice_get (sites_of_call k) site.0 ≡ Some (make_some_row j) = there ∙ ap Some row in
      let bound : known (g.env site.0) ≡ gives h = sym (ap (read_row k.args g.env site.0) here) ∙ reads in
      g.good.in_options site.0 h (make_some_row j) (known_is (g.env site.0) h bound) here

  -- What it holds is the value of the term's type that is given.
  pub result_holds : (h : Held) → read (sites_of_call k) k.args g.env site.0 ≡ gives h → (v : Value) × (h ≡ result_held (may_fail k) v)
  result_holds h reads =
      let here = read_of_sort g.is g.for_call.ready g.good g.known g.bound site.0 h reads in
      let of_type = ap (λ (s : ℕ). sort (checked k.program).terms ((checked k.program).terms.inputs k.term) (g.is.site s)) (sym site_is)
      ∙ g.is.gives_type rule is_left in
      result_value (checked k.program) (may_fail k) ((checked k.program).terms.type_of k.term) h
      (subst (λ (z : Sort). IsHeldOf (checked k.program) z h) of_type here) (in_option h reads)

  -- The call comes to it.
  result_given : (v : Value) → read (sites_of_call k) k.args g.env site.0 ≡ gives (result_held (may_fail k) v)
      → CallComes k frame.steps since (given v)
  result_given v reads =
      let at : read (sites_of_call k) k.args g.env ((tree_of_call k).result rule) ≡ gives (result_held (may_fail k) v) =
      ap (read (sites_of_call k) k.args g.env) g.goes_on.1.result_at ∙ reads in
      at_once k frame since (given v) (g.comes 0 [] (given v) (v, at, refl, refl, refl))

  -- the number that is told is that of the value
  given_number : (new : List Stored) (held : Holding) (partial : Bool) (o : Option ℕ) → partial ≡ may_fail k
      → TellsHeld new (Some held) (read (sites_of_call k) k.args g.env site.0) → GivenBy new held partial o
      → (v : Value) × (n : ℕ) × (o ≡ Some n) × Stands new v n × CallComes k frame.steps since (given v)
  given_number new held partial o same (h, reads, holds) told =
      let (v, e) = result_holds h reads in
      let (n, is, stands) = subst (λ (b : Bool). GivenBy new held b o) same told v (subst (Holds new held) e holds) in
      (v, n, is, stands, result_given v (reads ∙ ap gives e))

  -- so the call turns to it
  pub given_turns : (new : List Stored) (held : Holding) (partial : Bool) (o : Option ℕ) (n : ℕ) → partial ≡ may_fail k
      → TellsHeld new (Some held) (read (sites_of_call k) k.args g.env site.0) → GivenBy new held partial o → o ≡ Some n
      → TurnsTo tree_way k new frame since (ComesTo (Is n))
  given_turns new held partial o n same read_so told is =
      let (v, m, there, stands, comes) = given_number new held partial o same read_so told in
      let equal : m ≡ n = (let q : Some m ≡ Some n = sym there ∙ is in cc) in
      (v, subst (Stands new v) equal stands, comes)

  -- and some number is told
  pub given_always : (new : List Stored) (held : Holding) (partial : Bool) (o : Option ℕ) → partial ≡ may_fail k
      → TellsHeld new (Some held) (read (sites_of_call k) k.args g.env site.0) → GivenBy new held partial o → o ≡ None → ⊥
  given_always new held partial o same read_so told none =
      let (v, m, there, stands, comes) = given_number new held partial o same read_so told in
      (let q : Some m ≡ None = sym there ∙ none in cc)

-- where no step is left the call comes to what it does of which no rule matches
pub past_turns : (k : CallOf) (stored : List Stored) (frame : Frame) (since : List Event) → IsFrameOf k stored frame since → frame.at ≡ Past
    → (advanced : Advanced) → UnmatchedIs k advanced → TurnsTo tree_way k stored frame since (ComesTo advanced)
past_turns k stored frame since f at advanced is = go advanced is
  where
    g : IsGoingAt k stored frame Past since
    g = frame_unreplied k stored frame since Past f at refl

    go : (advanced : Advanced) → UnmatchedIs k advanced → TurnsTo tree_way k stored frame since (ComesTo advanced)
    go (Is n) h = absurd h
    go Missing h = at_once k frame since missing (g.comes 0 [] missing (refl, refl, sym h))
    go (Ends answer) (e, end, h) = (e, end, at_once k frame since (ended e) (g.comes 0 [] (ended e) (refl, refl, sym h)))
    go (Calls term numbers) h = absurd h
