-- Frames of calls that begin.
use Rattle.std.proofs.Common.{◌≡◌, ◌+◌, ℕ, zero, false, List, [], Option, Some, None, inl, inr, arith, refl, sym, ap, subst, ◌∙◌, reverse}
use Rattle.isle_types.specs.declared.ids.Sym.{Sym}
use Rattle.isle_meaning.specs.Machine.Runs.{nothing_bound}
use Rattle.isle_meaning.specs.Machine.Walkable.{IsWalkable}
use Rattle.isle_meaning.specs.Outcomes.{Outcome}
use Rattle.isle_meaning.specs.Values.{Value}
use Rattle.isle_meaning.specs.Worlds.{Event}
use Rattle.isle_meaning.proofs.Machine.Walkable.{walkable}
use Rattle.isle_blocks.specs.Building.Naming.{name_by}
use Rattle.isle_blocks.specs.RuleSets.{RulesOverSites}
use Rattle.isle_blocks.specs.Rows.{rows_of}
use Rattle.isle_blocks.specs.Trees.Shown.{BlockShown}
use Rattle.isle_blocks.specs.Trees.Views.{shown_steps}
use Rattle.isle_blocks.specs.declared.binding.Binding.{Binding}
use Rattle.isle_calls.specs.declared.store.Stored.{Stored}
use Rattle.isle_calls.specs.declared.machine.frame.At.{At}
use Rattle.isle_calls.specs.declared.machine.frame.Frame.{Frame}
use Rattle.isle_calls.specs.declared.machine.frame.Later.{Later}
use Rattle.isle_calls.specs.declared.machine.frame.Reply.TheVariants.{Awaited}
use Rattle.isle_calls.specs.declared.machine.holding.Holding.{Holding}
use Rattle.isle_calls.specs.Inside.Blocks.Frames.{BeginsAt, IsGrown, AreLater, CanGoOn, IsFrameOf, CallComes, CallBegins}
use Rattle.isle_calls.specs.Inside.Blocks.Frames.{found_in, later_begin, later_go, place_goes, place_begins, returns_in, sites_of_call, steps_begin, steps_go, tree_of_call}
use Rattle.isle_calls.specs.Inside.Blocks.Holdings.{StandFor}
use Rattle.isle_calls.specs.Calls.Open.{CallOf}
use Rattle.isle_calls.specs.Calls.Ways.{IsReady}
use Rattle.isle_program.specs.Meanings.{checked, may_run}
use Rattle.isle_program.specs.Programs.{types_of}
use Rattle.isle_calls.specs.Stores.Values.{StandEach}
use Rattle.isle_program.specs.Trees.{tree_or_none}
use Rattle.isle_calls.proofs.TreeRoad.Going.{going_frame}

-- the sites are those of the term
sites_there : (name : Sym → List ℕ) (o : Option (RulesOverSites × BlockShown)) (sites : List Binding) (at : At) → BeginsAt o sites at
    → rows_of name sites ≡ (tree_or_none name o).sites
sites_there name None sites at (e, f) = ap (rows_of name) e
sites_there name (Some found) sites at (e, f) = ap (rows_of name) e

module _ (k : CallOf) where
  -- a call begins where its tree does
  goes_on : (o : Option (RulesOverSites × BlockShown)) → found_in k.program k.term ≡ o → (sites : List Binding) (at : At) → BeginsAt o sites at
      → IsWalkable (sites_of_call k) (tree_of_call k).result (λ s. false) (tree_of_call k).tree → CanGoOn k (λ s. false) at
  goes_on None e sites at (f, g) walks = rw g tt
  goes_on (Some found) e sites at (f, (steps, g, shown)) walks =
      let tree : (tree_of_call k).tree ≡ (shown_steps steps).tree =
      ap (λ o. (tree_or_none (name_by (types_of k.program).names) o).tree) e ∙ sym (ap (λ (b : BlockShown). b.tree) shown) in
      let returns = ap (λ (b : BlockShown). b.returns) shown ∙ sym (ap returns_in e) in
      subst (CanGoOn k (λ s. false)) (sym g)
      (record { walkable = subst (IsWalkable (sites_of_call k) (tree_of_call k).result (λ s. false)) tree walks; of_block = returns })

  -- and comes to what its tree does
  comes_so : (o : Option (RulesOverSites × BlockShown)) → found_in k.program k.term ≡ o → (sites : List Binding) (at : At) → BeginsAt o sites at
      → (more : ℕ) (trace : List Event) (r : Outcome Value) → place_goes k nothing_bound None [] at more trace r → CallComes k more trace r
  comes_so None e sites at (f, g) more trace r goes =
      let tree = ap (λ o. (tree_or_none (name_by (types_of k.program).names) o).tree) e in
      subst (λ T. steps_go k nothing_bound T (later_go k []) more trace r) (sym tree)
      (subst (λ a. place_goes k nothing_bound None [] a more trace r) g goes)
  comes_so (Some found) e sites at (f, (steps, g, shown)) more trace r goes =
      let tree = ap (λ o. (tree_or_none (name_by (types_of k.program).names) o).tree) e ∙ sym (ap (λ (b : BlockShown). b.tree) shown) in
      subst (λ T. steps_go k nothing_bound T (later_go k []) more trace r) (sym tree)
      (subst (λ a. place_goes k nothing_bound None [] a more trace r) g goes)

  begins_so : (o : Option (RulesOverSites × BlockShown)) → found_in k.program k.term ≡ o → (sites : List Binding) (at : At) → BeginsAt o sites at
      → (made : List Event) → place_begins k nothing_bound None [] at made → CallBegins k made
  begins_so None e sites at (f, g) made begins = inl (subst (λ a. place_begins k nothing_bound None [] a made) g begins)
  begins_so (Some found) e sites at (f, (steps, g, shown)) made begins =
      let tree = ap (λ o. (tree_or_none (name_by (types_of k.program).names) o).tree) e ∙ sym (ap (λ (b : BlockShown). b.tree) shown) in
      inr (subst (λ T. steps_begin k nothing_bound T (later_begin k []) made) (sym tree)
      (subst (λ a. place_begins k nothing_bound None [] a made) g begins))

-- a frame of a call that begins
pub frame_begun : (k : CallOf) (stored : List Stored) (frame : Frame) (o : Option (RulesOverSites × BlockShown)) → frame.depth ≡ k.depth
    → frame.term.0 ≡ k.term → StandEach stored k.args frame.args.items → IsReady IsGrown k.program k.term k.args → frame.steps ≡ 0
    → frame.bound ≡ [] → frame.later.items ≡ [] → frame.reply ≡ Awaited → found_in k.program k.term ≡ o → BeginsAt o frame.sites.now frame.at
    → IsFrameOf k stored frame []
frame_begun k stored frame o depth term stand ready steps bound later reply found begins =
    let is = ready.holds.trees.of_term k.term ready.may in
    going_frame k stored frame [] (record {
      for_call = record {
        depth = depth;
        term = term;
        stand = stand;
        ready = ready;
        sites = sites_there (name_by (types_of k.program).names) o frame.sites.now frame.at begins
            ∙ sym (ap (λ x. (tree_or_none (name_by (types_of k.program).names) x).sites) found);
      };
      is = is;
      left = λ at there. ready.holds.left k.term ready.may at there;
      env = nothing_bound;
      known = λ s. false;
      later = [];
      stand = subst (λ (b : List (ℕ × Holding)). StandFor stored b nothing_bound) (sym bound) (λ s. refl);
      good = record { typed = λ s h e. absurd cc; in_options = λ s h row e at. absurd cc };
      bound = λ s e. absurd cc;
      goes_on = goes_on k o found frame.sites.now frame.at begins (walkable (checked k.program) (may_run k.program) k.term (tree_of_call k) is);
      laters = subst (λ (l : List Later). AreLater k is stored frame.bound (reverse l) []) (sym later) tt;
      awaited = reply;
      comes = λ more trace r goes. subst (λ (n : ℕ). CallComes k (n + more) trace r) (sym steps)
          (subst (λ (n : ℕ). CallComes k n trace r) (let z : more ≡ zero + more = omega arith in z)
          (comes_so k o found frame.sites.now frame.at begins more trace r goes));
      begun = λ made starts. begins_so k o found frame.sites.now frame.at begins made starts;
    })
