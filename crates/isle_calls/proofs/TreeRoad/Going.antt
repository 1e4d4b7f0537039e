-- Frames that go on: what comes from where they are is what their calls come to.
use Rattle.std.proofs.Common.{◌≡◌, ℕ, Bool, List, [], ◌∷◌, Option, None, refl, sym, ap, subst, ◌∙◌, arith, length, reverse}
use Rattle.isle_trees.specs.Tree.{done}
use Rattle.isle_meaning.specs.Machine.Beginnings.{Begun}
use Rattle.isle_meaning.specs.Machine.Runs.{Env, Going}
use Rattle.isle_meaning.specs.Machine.Trees.{IsTermTree}
use Rattle.isle_meaning.specs.Outcomes.{Outcome}
use Rattle.isle_meaning.specs.Held.{Held}
use Rattle.isle_meaning.specs.Worlds.{Event}
use Rattle.isle_blocks.specs.declared.serializer.views.Steps.{Steps as Walk}
use Rattle.isle_blocks.specs.Trees.Views.{shown_steps}
use Rattle.isle_calls.specs.declared.store.Stored.{Stored}
use Rattle.isle_calls.specs.declared.machine.frame.At.{At}
use Rattle.isle_calls.specs.declared.machine.frame.At.TheVariants.{Steps as AtSteps, Binds, Opens, Past}
use Rattle.isle_calls.specs.declared.machine.frame.Frame.{Frame}
use Rattle.isle_calls.specs.declared.machine.frame.Later.{Later}
use Rattle.isle_calls.specs.declared.machine.frame.Reply.{Reply}
use Rattle.isle_calls.specs.declared.machine.frame.Reply.TheVariants.{Awaited, Given, Missing}
use Rattle.isle_calls.specs.declared.machine.holding.Holding.{Holding}
use Rattle.isle_calls.specs.Inside.Blocks.Frames.{LaterSteps, place_goes}
use Rattle.isle_calls.specs.Inside.Blocks.Frames.{place_begins, CanGoOn, AreLater, HasReply, next_sites, IsFrameFor, IsGoing}
use Rattle.isle_calls.specs.Inside.Blocks.Frames.{IsFrameOf, bindings_then, tree_of_call, IsAtEnd}
use Rattle.isle_calls.specs.Calls.Open.{CallOf}
use Rattle.isle_program.specs.Meanings.{checked, may_run}
use Rattle.isle_calls.specs.Stores.Values.{Extends}
use Rattle.isle_calls.proofs.TreeRoad.Held.{stand_for_longer}
use Rattle.isle_calls.proofs.Stores.Values.{stand_longer}

-- a frame at a place, for which nothing is replied
abbrev pub IsGoingAt : CallOf → List Stored → Frame → At → List Event → Type 0
IsGoingAt k stored frame at since = IsGoing k stored frame (λ env ls. place_goes k env None ls at) (λ env ls. place_begins k env None ls at)
    (λ known. CanGoOn k known at) since

-- it is the frame of its call
pub going_frame : (k : CallOf) (stored : List Stored) (frame : Frame) (since : List Event) → IsGoingAt k stored frame frame.at since
    → IsFrameOf k stored frame since
going_frame k stored frame since g = record {
  for_call = g.for_call;
  is = g.is;
  left = g.left;
  reached = record { env = g.env; known = g.known; later = g.later; replied = None };
  has = record {
    stand = g.stand;
    good = g.good;
    bound = g.bound;
    goes_on = g.goes_on;
    later = g.laters;
    reply = replied frame.reply g.awaited (next_sites frame.at);
  };
  leads = record { comes = g.comes; begins = g.begun };
}
  where
    replied : (reply : Reply) → reply ≡ Awaited → (sites : List ℕ) → HasReply k stored sites reply None
    replied Awaited e sites = refl
    replied (Given n) e sites = absurd cc
    replied Missing e sites = absurd cc

-- where no site is to be bound, nothing is replied
pub nothing_replied : (k : CallOf) (stored : List Stored) (reply : Reply) (replied : Option (Outcome Held)) → HasReply k stored [] reply replied
    → (reply ≡ Awaited) × (replied ≡ None)
nothing_replied k stored Awaited replied has = (refl, has)
nothing_replied k stored (Given n) replied has = absurd has
nothing_replied k stored Missing replied has = absurd has

pub awaited_none : (k : CallOf) (stored : List Stored) (sites : List ℕ) (reply : Reply) (replied : Option (Outcome Held))
    → HasReply k stored sites reply replied
    → reply ≡ Awaited → replied ≡ None
awaited_none k stored sites Awaited replied has e = has
awaited_none k stored sites (Given n) replied has e = absurd cc
awaited_none k stored sites Missing replied has e = absurd cc

-- a frame of a call for which nothing is replied
pub frame_going : (k : CallOf) (stored : List Stored) (frame : Frame) (since : List Event) (at : At) (f : IsFrameOf k stored frame since)
    → frame.at ≡ at
    → frame.reply ≡ Awaited → f.reached.replied ≡ None → IsGoingAt k stored frame at since
frame_going k stored frame since at f e awaited none = record {
  for_call = f.for_call;
  is = f.is;
  left = f.left;
  env = f.reached.env;
  known = f.reached.known;
  later = f.reached.later;
  stand = f.has.stand;
  good = f.has.good;
  bound = f.has.bound;
  goes_on = subst (CanGoOn k f.reached.known) e f.has.goes_on;
  laters = f.has.later;
  awaited = awaited;
  comes = λ more trace r goes. f.leads.comes more trace r
      (subst (λ (a : At). place_goes k f.reached.env f.reached.replied f.reached.later a more trace r) (sym e)
      (subst (λ (o : Option (Outcome Held)). place_goes k f.reached.env o f.reached.later at more trace r) (sym none) goes));
  begun = λ made begins. f.leads.begins made
      (subst (λ (a : At). place_begins k f.reached.env f.reached.replied f.reached.later a made) (sym e)
      (subst (λ (o : Option (Outcome Held)). place_begins k f.reached.env o f.reached.later at made) (sym none) begins));
}

-- the stores of frames grow
module _ {old new : List Stored} (extends : Extends old new) where
  pub call_longer : (k : CallOf) (frame : Frame) → IsFrameFor k old frame → IsFrameFor k new frame
  call_longer k frame c = record {
    depth = c.depth;
    term = c.term;
    stand = stand_longer extends k.args frame.args.items c.stand;
    ready = c.ready;
    sites = c.sites;
  }

  pub later_longer : (k : CallOf) (is : IsTermTree (checked k.program) (may_run k.program) k.term (tree_of_call k)) (bound : List (ℕ × Holding))
      (laters : List Later) (ls : List LaterSteps) → AreLater k is old bound laters ls → AreLater k is new bound laters ls
  later_longer k is bound [] [] h = tt
  later_longer k is bound [] (l ∷ ls) h = absurd h
  later_longer k is bound (x ∷ xs) [] h = absurd h
  later_longer k is bound (x ∷ xs) (l ∷ ls) (few, steps, stand, good, known, more) = (
    few,
    steps,
    stand_for_longer extends (bindings_then bound x.bindings) l.env stand,
    good,
    known,
    later_longer k is (bindings_then bound x.bindings) xs ls more,
  )

  abbrev pub going_longer : (k : CallOf) (frame : Frame) (goes : Env → List LaterSteps → Going) (begins : Env → List LaterSteps → Begun)
      (can : (ℕ → Bool) → Type 0) (since : List Event) → IsGoing k old frame goes begins can since → IsGoing k new frame goes begins can since
  going_longer k frame goes begins can since g = record {
    for_call = call_longer k frame g.for_call;
    is = g.is;
    left = g.left;
    env = g.env;
    known = g.known;
    later = g.later;
    stand = stand_for_longer extends frame.bound g.env g.stand;
    good = g.good;
    bound = g.bound;
    goes_on = g.goes_on;
    laters = later_longer k g.is frame.bound (reverse frame.later.items) g.later g.laters;
    awaited = g.awaited;
    comes = g.comes;
    begun = g.begun;
  }

-- where no site is to be bound, a frame of a call is one for which nothing is replied
pub frame_unreplied : (k : CallOf) (stored : List Stored) (frame : Frame) (since : List Event) (at : At) → IsFrameOf k stored frame since
    → frame.at ≡ at
    → next_sites at ≡ [] → IsGoingAt k stored frame at since
frame_unreplied k stored frame since at f e none =
    let has : HasReply k stored [] frame.reply f.reached.replied =
    subst (λ (s : List ℕ). HasReply k stored s frame.reply f.reached.replied) (ap next_sites e ∙ none) f.has.reply in
    let (awaited, open_) = nothing_replied k stored frame.reply f.reached.replied has in
    frame_going k stored frame since at f e awaited open_

-- the end of steps
pub at_end : (at : At) → IsAtEnd at → (steps : Walk) × (at ≡ AtSteps steps) × ((shown_steps steps).tree ≡ done)
at_end (AtSteps steps) e = (steps, refl, e)
at_end (Binds order check behind) e = absurd e
at_end (Opens fields body) e = absurd e
at_end Past e = absurd e

-- a list without items
pub no_items : {A : Type 0} (l : List A) → length l ≡ 0 → l ≡ []
no_items [] e = refl
no_items (x ∷ xs) e = absurd (omega (arith, e))
