-- Frames that go on once the sites of a place are bound.
use Rattle.std.proofs.Common.{◌≡◌, Bor, ℕ, List, [], ◌∷◌, Option, None, refl, sym, ap, subst, ◌∙◌}
use Rattle.isle_trees.specs.Reads.{know}
use Rattle.isle_meaning.specs.Machine.Runs.{opened}
use Rattle.isle_meaning.specs.Machine.Walkable.{CanBindAll}
use Rattle.isle_meaning.specs.Worlds.{Event}
use Rattle.isle_blocks.specs.declared.ids.BindingId.{BindingId}
use Rattle.isle_blocks.specs.declared.serializer.views.ControlFlow.{ControlFlow}
use Rattle.isle_blocks.specs.declared.serializer.views.Steps.{Steps as Walk}
use Rattle.isle_blocks.specs.Rows.{numbers_of}
use Rattle.isle_blocks.specs.Trees.Nodes.{fields_of}
use Rattle.isle_blocks.specs.Trees.Views.{shown_steps}
use Rattle.isle_calls.specs.declared.store.Stored.{Stored}
use Rattle.isle_calls.specs.declared.machine.frame.At.{At}
use Rattle.isle_calls.specs.declared.machine.frame.At.TheVariants.{Steps as AtSteps, Binds, Opens}
use Rattle.isle_calls.specs.declared.machine.frame.Frame.{Frame}
use Rattle.isle_calls.specs.Inside.Blocks.Frames.{CanCheck, CanGoOn, CanWalk, HasReply, IsChecking, IsFrameOf, check_begins, check_goes, later_begin, later_go}
use Rattle.isle_calls.specs.Inside.Blocks.Frames.{next_sites, place_begins, place_goes, sites_begin, sites_go, sites_of_call, steps_begin, steps_go}
use Rattle.isle_calls.specs.Calls.Open.{CallOf}
use Rattle.isle_calls.proofs.TreeRoad.Going.{frame_unreplied, going_frame}
use Rattle.isle_calls.proofs.TreeRoad.Steps.{same_call}

module _ (k : CallOf) (stored : List Stored) (frame : Frame) (since : List Event) where
  -- where no site is left to be bound, a step's check is made
  pub frame_checks : (order : Bor (List BindingId)) (check : ControlFlow) (behind : Walk) → IsFrameOf k stored frame since
      → frame.at ≡ Binds order check behind → order.now ≡ [] → IsChecking k stored frame check behind since
  frame_checks order check behind f at none =
      let g = frame_unreplied k stored frame since (Binds order check behind) f at (ap numbers_of none) in
      let can : CanBindAll (sites_of_call k) g.known (numbers_of order.now) × CanCheck k (know g.known (numbers_of order.now)) check behind =
      g.goes_on in
      record {
        for_call = g.for_call;
        is = g.is;
        left = g.left;
        env = g.env;
        known = g.known;
        later = g.later;
        stand = g.stand;
        good = g.good;
        bound = g.bound;
        goes_on = subst (λ (l : List BindingId). CanCheck k (know g.known (numbers_of l)) check behind) none can.1;
        laters = g.laters;
        awaited = g.awaited;
        comes = λ more trace r goes. g.comes more trace r (subst (λ (l : List BindingId). sites_go k g.env None (numbers_of l)
            (λ env. check_goes k env check (steps_go k env (shown_steps behind).tree (later_go k g.later))) more trace r) (sym none) goes);
        begun = λ made begins. g.begun made (subst (λ (l : List BindingId). sites_begin k g.env None (numbers_of l)
            (λ env. check_begins k env check (steps_begin k env (shown_steps behind).tree (later_begin k g.later))) made) (sym none) begins);
      }

  -- where none is left that a passed test opens, its steps are taken
  pub frame_opened : (fields : Bor (List (Option BindingId))) (body : Walk) → IsFrameOf k stored frame since → frame.at ≡ Opens fields body
      → fields.now ≡ [] → IsFrameOf k stored (record frame { at = AtSteps body }) since
  frame_opened fields body f at none =
      let g = frame_unreplied k stored frame since (Opens fields body) f at (ap (λ (l : List (Option BindingId)). opened (fields_of l)) none) in
      let can : CanBindAll (sites_of_call k) g.known (opened (fields_of fields.now)) × CanWalk k (know g.known (opened (fields_of fields.now))) body =
      g.goes_on in
      going_frame k stored (record frame { at = AtSteps body }) since (record {
        for_call = same_call g.for_call refl refl refl refl;
        is = g.is;
        left = g.left;
        env = g.env;
        known = g.known;
        later = g.later;
        stand = g.stand;
        good = g.good;
        bound = g.bound;
        goes_on = subst (λ (l : List (Option BindingId)). CanWalk k (know g.known (opened (fields_of l))) body) none can.1;
        laters = g.laters;
        awaited = g.awaited;
        comes = λ more trace r goes. g.comes more trace r (subst (λ (l : List (Option BindingId)). sites_go k g.env None (opened (fields_of l))
            (λ env. steps_go k env (shown_steps body).tree (later_go k g.later)) more trace r) (sym none) goes);
        begun = λ made begins. g.begun made (subst (λ (l : List (Option BindingId)). sites_begin k g.env None (opened (fields_of l))
            (λ env. steps_begin k env (shown_steps body).tree (later_begin k g.later)) made) (sym none) begins);
      })

  -- a field of which no rule speaks is passed over
  pub frame_skips : (fields others : Bor (List (Option BindingId))) (body : Walk) → IsFrameOf k stored frame since → frame.at ≡ Opens fields body
      → fields.now ≡ None ∷ others.now → IsFrameOf k stored (record frame { at = Opens others body }) since
  frame_skips fields others body f at first =
      let same : opened (fields_of fields.now) ≡ opened (fields_of others.now) = ap (λ (l : List (Option BindingId)). opened (fields_of l)) first in
      let r = f.reached in
      let sites : next_sites frame.at ≡ opened (fields_of others.now) = ap next_sites at ∙ same in
      let can : CanBindAll (sites_of_call k) r.known (opened (fields_of fields.now)) × CanWalk k (know r.known (opened (fields_of fields.now))) body =
      subst (CanGoOn k r.known) at f.has.goes_on in
      record {
        for_call = same_call f.for_call refl refl refl refl;
        is = f.is;
        left = f.left;
        reached = r;
        has = record {
          stand = f.has.stand;
          good = f.has.good;
          bound = f.has.bound;
          goes_on = subst (λ (l : List ℕ). CanBindAll (sites_of_call k) r.known l × CanWalk k (know r.known l) body) same can;
          later = f.has.later;
          reply = subst (λ (l : List ℕ). HasReply k stored l frame.reply r.replied) sites f.has.reply;
        };
        leads = record {
          comes = λ more trace x goes. f.leads.comes more trace x (subst (λ (a : At). place_goes k r.env r.replied r.later a more trace x) (sym at)
              (subst (λ (l : List ℕ). sites_go k r.env r.replied l (λ env. steps_go k env (shown_steps body).tree (later_go k r.later)) more trace x)
              (sym same) goes));
          begins = λ made begins. f.leads.begins made (subst (λ (a : At). place_begins k r.env r.replied r.later a made) (sym at)
              (subst (λ (l : List ℕ). sites_begin k r.env r.replied l (λ env. steps_begin k env (shown_steps body).tree (later_begin k r.later)) made)
              (sym same) begins));
        };
      }
