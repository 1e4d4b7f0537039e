-- Frames that wait for a call: what they come to as it does, and how they go on when it is replied.
use Rattle.std.proofs.Common.{◌≡◌, ◌+◌, ◌++◌, ℕ, zero, suc, Bool, true, List, [], ◌∷◌, Option, Some, None, slice_get, inl, inr, refl, sym, subst, append_assoc}
use Rattle.std.proofs.lemmas.List.{append-nil}
use Rattle.isle_types.specs.declared.ids.TermId.{TermId}
use Rattle.isle_meaning.specs.Asking.{Ended}
use Rattle.isle_meaning.specs.Got.{gives}
use Rattle.isle_meaning.specs.Held.{Held, held_value}
use Rattle.isle_meaning.specs.Machine.Beginnings.{Begun}
use Rattle.isle_meaning.specs.Machine.Runs.{Env, holding, option_if, read, values_at}
use Rattle.isle_meaning.specs.Numbered.{constructor_row}
use Rattle.isle_meaning.specs.Outcomes.{Outcome, given, missing, ended, ConstructsIf, EffectsIf}
use Rattle.isle_meaning.specs.PlainBeginnings.{EffectsBegin}
use Rattle.isle_meaning.specs.Values.{Value, Values}
use Rattle.isle_meaning.specs.Words.{set}
use Rattle.isle_meaning.specs.Worlds.{Event}
use Rattle.isle_meaning.proofs.Machine.Beginnings.{machine_begins, machine_stops, pure_run_silent}
use Rattle.isle_meaning.proofs.Machine.Meant.{machine_run_meant}
use Rattle.isle_calls.specs.declared.store.Stored.{Stored}
use Rattle.isle_calls.specs.declared.machine.frame.At.{At}
use Rattle.isle_calls.specs.declared.machine.frame.At.TheVariants.{Steps as AtSteps, Binds, Opens, Past}
use Rattle.isle_calls.specs.declared.machine.frame.Frame.{Frame}
use Rattle.isle_calls.specs.declared.machine.frame.Reply.{Reply}
use Rattle.isle_calls.specs.declared.machine.frame.Reply.TheVariants.{Awaited, Given, Missing}
use Rattle.isle_calls.specs.Inside.Blocks.Frames.{CallBegins, CallComes, GoesBegin, HasReply, IsFrameOf, IsReplied, IsWaitingFor, LaterSteps, TellsReply}
use Rattle.isle_calls.specs.Inside.Blocks.Frames.{begins_below, later_begin, next_sites, place_begins, place_goes, runs_below, sites_begin, sites_go, sites_of_call}
use Rattle.isle_calls.specs.Inside.Blocks.Frames.{tree_way}
use Rattle.isle_calls.specs.TreeCalls.{term_trees}
use Rattle.isle_blocks.specs.Rows.{numbers_of}
use Rattle.isle_blocks.specs.Trees.Nodes.{fields_of}
use Rattle.isle_blocks.specs.Trees.Views.{shown_steps}
use Rattle.isle_meaning.specs.Machine.Runs.{opened}
use Rattle.isle_calls.specs.Inside.Blocks.Reading.{BeginsSite, SiteComes}
use Rattle.isle_calls.specs.Calls.Open.{CallOf}
use Rattle.isle_calls.specs.Calls.Ways.{IsWay}
use Rattle.isle_program.specs.Meanings.{checked, may_run}
use Rattle.isle_calls.specs.Stores.Values.{Extends, Stands}
use Rattle.isle_calls.proofs.TreeRoad.Binding.{behind_sites, behind_sites_begin}
use Rattle.isle_calls.proofs.TreeRoad.Giving.{at_once}
use Rattle.isle_calls.proofs.TreeRoad.Known.{below_typed}
use Rattle.isle_calls.proofs.TreeRoad.Making.{ended_held}
use Rattle.isle_calls.proofs.TreeRoad.Steps.{same_call}
use Rattle.isle_calls.proofs.TreeRoad.Turning.{behind_stops, binds_stop, frame_longer, later_stops, site_lost, steps_stop}
use Rattle.isle_program.proofs.SoundPrograms.Known.{sound_of}

-- a place goes on by its next sites
module _ (k : CallOf) (env : Env) (replied : Option (Outcome Held)) (ls : List LaterSteps) (s : ℕ) (sites : List ℕ) where
  sites_of_place : (at : At) → next_sites at ≡ s ∷ sites → (steps : ℕ) (trace : List Event) (r : Outcome Value)
      → place_goes k env replied ls at steps trace r → sites_go k env replied (s ∷ sites) (behind_sites k ls at) steps trace r
  sites_of_place (AtSteps x) e steps trace r goes = absurd cc
  sites_of_place Past e steps trace r goes = absurd cc
  sites_of_place (Binds order check behind) e steps trace r goes =
      subst (λ (l : List ℕ). sites_go k env replied l (behind_sites k ls (Binds order check behind)) steps trace r) e goes
  sites_of_place (Opens fields body) e steps trace r goes =
      subst (λ (l : List ℕ). sites_go k env replied l (behind_sites k ls (Opens fields body)) steps trace r) e goes

  -- and is gone on from so
  place_of_sites : (at : At) → next_sites at ≡ s ∷ sites → (steps : ℕ) (trace : List Event) (r : Outcome Value)
      → sites_go k env replied (s ∷ sites) (behind_sites k ls at) steps trace r → place_goes k env replied ls at steps trace r
  place_of_sites (AtSteps x) e steps trace r goes = absurd cc
  place_of_sites Past e steps trace r goes = absurd cc
  place_of_sites (Binds order check behind) e steps trace r goes =
      subst (λ (l : List ℕ). sites_go k env replied l (behind_sites k ls (Binds order check behind)) steps trace r) (sym e) goes
  place_of_sites (Opens fields body) e steps trace r goes =
      subst (λ (l : List ℕ). sites_go k env replied l (behind_sites k ls (Opens fields body)) steps trace r) (sym e) goes

  -- so it begins
  sites_begun : (at : At) → next_sites at ≡ s ∷ sites → (made : List Event) → place_begins k env replied ls at made
      → sites_begin k env replied (s ∷ sites) (behind_sites_begin k ls at) made
  sites_begun (AtSteps x) e made begins = absurd cc
  sites_begun Past e made begins = absurd cc
  sites_begun (Binds order check behind) e made begins =
      subst (λ (l : List ℕ). sites_begin k env replied l (behind_sites_begin k ls (Binds order check behind)) made) e begins
  sites_begun (Opens fields body) e made begins =
      subst (λ (l : List ℕ). sites_begin k env replied l (behind_sites_begin k ls (Opens fields body)) made) e begins

  place_begun : (at : At) → next_sites at ≡ s ∷ sites → (made : List Event)
      → sites_begin k env replied (s ∷ sites) (behind_sites_begin k ls at) made → place_begins k env replied ls at made
  place_begun (AtSteps x) e made begins = absurd cc
  place_begun Past e made begins = absurd cc
  place_begun (Binds order check behind) e made begins =
      subst (λ (l : List ℕ). sites_begin k env replied l (behind_sites_begin k ls (Binds order check behind)) made) (sym e) begins
  place_begun (Opens fields body) e made begins =
      subst (λ (l : List ℕ). sites_begin k env replied l (behind_sites_begin k ls (Opens fields body)) made) (sym e) begins

-- sites may stop before anything is made
sites_stop : (k : CallOf) (env : Env) (replied : Option (Outcome Held)) (sites : List ℕ) (next : Env → Begun) → ((env : Env) → next env [])
    → sites_begin k env replied sites next []
sites_stop k env None sites next n = binds_stop k env sites next n
sites_stop k env (Some o) [] next n = refl
sites_stop k env (Some o) (s ∷ sites) next n = stop o
  where
    stop : (o : Outcome Held) → GoesBegin o (λ g. sites_begin k (set env s (Some g)) None sites next) []
    stop (given h) = binds_stop k (set env s (Some h)) sites next n
    stop missing = refl
    stop (ended e) = refl

-- so may each place
place_stops : (k : CallOf) (env : Env) (replied : Option (Outcome Held)) (ls : List LaterSteps) (at : At) → place_begins k env replied ls at []
place_stops k env replied ls (AtSteps steps) = steps_stop k env (shown_steps steps).tree (later_begin k ls) (later_stops k ls)
place_stops k env replied ls (Binds order check behind) =
    sites_stop k env replied (numbers_of order.now) (behind_sites_begin k ls (Binds order check behind))
    (behind_stops k ls (Binds order check behind))
place_stops k env replied ls (Opens fields body) =
    sites_stop k env replied (opened (fields_of fields.now)) (behind_sites_begin k ls (Opens fields body)) (behind_stops k ls (Opens fields body))
place_stops k env replied ls Past = refl

-- a call of which a frame is has begun with its effects
pub frame_has_begun : (k : CallOf) (stored : List Stored) (frame : Frame) (since : List Event) → IsFrameOf k stored frame since → CallBegins k since
frame_has_begun k stored frame since f = subst (CallBegins k) (append-nil since)
    (f.leads.begins [] (place_stops k f.reached.env f.reached.replied f.reached.later frame.at))

-- a site that is the call of a term with rules comes to what the call does
called_comes : (k : CallOf) (env : Env) (u : ℕ) (parts : List ℕ) (i : ℕ) (vs : Values) (trace : List Event) (o : Outcome Value)
    → values_at (read (sites_of_call k) k.args env) parts ≡ gives vs → (checked k.program).has_rules u ≡ true → (i ≡ 0 → trace ≡ [])
    → runs_below k u vs trace o
    → SiteComes k env (constructor_row u parts i) trace (option_if ((checked k.program).terms.partial u) (holding held_value o))
called_comes k env u parts zero vs trace o args ruled calm run =
    let none = calm refl in (
      vs,
      o,
      args,
      subst (λ (b : Bool). ConstructsIf (checked k.program) k.answers (runs_below k) b u vs o) (sym ruled)
          (subst (λ (l : List Event). runs_below k u vs l o) none run),
      none,
      refl,
    )
called_comes k env u parts (suc i) vs trace o args ruled calm run =
    (vs, o, args, subst (λ (b : Bool). EffectsIf (checked k.program) (runs_below k) b u vs trace o) (sym ruled) run, refl)

-- and begins as it does
called_begins : (k : CallOf) (env : Env) (u : ℕ) (parts : List ℕ) (i : ℕ) (vs : Values) (made : List Event)
    → values_at (read (sites_of_call k) k.args env) parts ≡ gives vs → (checked k.program).has_rules u ≡ true → (i ≡ 0 → made ≡ [])
    → begins_below k u vs made → BeginsSite k env (constructor_row u parts i) made
called_begins k env u parts zero vs made args ruled calm begins = inl (calm refl)
called_begins k env u parts (suc i) vs made args ruled calm begins =
    inr (vs, args, subst (λ (b : Bool). EffectsBegin (checked k.program) (begins_below k) b u vs made) (sym ruled) begins)

-- a frame that waits
module _ (k : CallOf) (stored : List Stored) (frame : Frame) (since : List Event) (term : TermId) (vs : Values)
    (w : IsWaitingFor k stored frame since term vs) where
  -- what is bound
  abbrev env : Env
  env = w.frame_of.reached.env

  -- a pure call begins with no effects
  calm : (made : List Event) → begins_below k term.0 vs made → w.instance ≡ 0 → made ≡ []
  calm made begins e =
      let row = subst (λ (i : ℕ). slice_get (sites_of_call k) w.site ≡ Some (constructor_row term.0 w.parts i)) e w.row in
      pure_run_silent (checked k.program) k.answers (may_run k.program) (term_trees k.program) (sound_of k.program).sound
      w.frame_of.for_call.ready.holds.trees k.depth term.0 vs made w.ready.may (w.frame_of.is.pure w.site term.0 w.parts row) begins

  -- a run of it begins so
  run_begins : (trace : List Event) (o : Outcome Value) → runs_below k term.0 vs trace o → begins_below k term.0 vs trace
  run_begins trace o run = machine_begins (checked k.program) k.answers (term_trees k.program) k.depth term.0 vs run.0 trace o run.1

  -- the site comes to what the call does
  site_comes : (trace : List Event) (o : Outcome Value) → runs_below k term.0 vs trace o
      → SiteComes k env (constructor_row term.0 w.parts w.instance) trace
      (option_if ((checked k.program).terms.partial term.0) (holding held_value o))
  site_comes trace o run = called_comes k env term.0 w.parts w.instance vs trace o w.args w.ruled (calm trace (run_begins trace o run)) run

  -- As the call ends, the frame's does.
  pub waiting_ends : (trace : List Event) (e : Ended) → runs_below k term.0 vs trace (ended e) → CallComes k frame.steps (since ++ trace) (ended e)
  waiting_ends trace e run =
      let comes : SiteComes k env (constructor_row term.0 w.parts w.instance) trace (ended e) =
      subst (SiteComes k env (constructor_row term.0 w.parts w.instance) trace) (ended_held ((checked k.program).terms.partial term.0) e)
      (site_comes trace (ended e) run) in
      let goes : sites_go k env None (w.site ∷ w.sites) (behind_sites k w.frame_of.reached.later frame.at) 0 trace (ended e) =
      (constructor_row term.0 w.parts w.instance, trace, [], ended e, w.row, comes, sym (append-nil trace), (refl, refl, refl)) in
      let there = place_of_sites k env None w.frame_of.reached.later w.site w.sites frame.at w.next 0 trace (ended e) goes in
      let all = w.frame_of.leads.comes 0 trace (ended e)
      (subst (λ (o : Option (Outcome Held)). place_goes k env o w.frame_of.reached.later frame.at 0 trace (ended e)) (sym w.unreplied) there) in
      at_once k frame (since ++ trace) (ended e)
      (subst (λ (l : List Event). CallComes k (frame.steps + 0) l (ended e)) (sym (append-nil (since ++ trace))) all)

  -- As the call begins, the frame's does.
  pub waiting_begun : (made : List Event) → begins_below k term.0 vs made → CallBegins k (since ++ made)
  waiting_begun made begins =
      let site = called_begins k env term.0 w.parts w.instance vs made w.args w.ruled (calm made begins) begins in
      let goes = site_lost k env None w.site w.sites (behind_sites_begin k w.frame_of.reached.later frame.at)
      (constructor_row term.0 w.parts w.instance) made w.row site (behind_stops k w.frame_of.reached.later frame.at) in
      let there = place_begun k env None w.frame_of.reached.later w.site w.sites frame.at w.next made goes in
      w.frame_of.leads.begins made
      (subst (λ (o : Option (Outcome Held)). place_begins k env o w.frame_of.reached.later frame.at made) (sym w.unreplied) there)

  -- what the call is told to have come to
  module _ (trace : List Event) (o : Outcome Value) (run : runs_below k term.0 vs trace o) (reply : Reply)
      (told : TellsReply k stored term.0 reply o) where
    -- what the site holds then
    abbrev held : Outcome Held
    held = option_if ((checked k.program).terms.partial term.0) (holding held_value o)

    -- the reply is to the site
    replied_to : IsReplied k stored w.site reply held
    replied_to = record {
      callee = term.0;
      parts = w.parts;
      instance = w.instance;
      row = w.row;
      outcome = o;
      held = refl;
      told = told;
    }

    has_reply : HasReply k stored (next_sites frame.at) reply (Some held)
    has_reply = subst (λ (l : List ℕ). HasReply k stored l reply (Some held)) (sym w.next) (by reply told replied_to)
      where
        by : (x : Reply) → TellsReply k stored term.0 x o → IsReplied k stored w.site x held → HasReply k stored (w.site ∷ w.sites) x (Some held)
        by Awaited t r = absurd t
        by (Given n) t r = (held, refl, r)
        by Missing t r = (held, refl, r)

    -- what comes of it
    replied_comes : (more : ℕ) (rest : List Event) (r : Outcome Value) → place_goes k env (Some held) w.frame_of.reached.later frame.at more rest r
        → CallComes k (frame.steps + more) ((since ++ trace) ++ rest) r
    replied_comes more rest r goes =
        let behind = sites_of_place k env (Some held) w.frame_of.reached.later w.site w.sites frame.at w.next more rest r goes in
        let site : sites_go k env None (w.site ∷ w.sites) (behind_sites k w.frame_of.reached.later frame.at) more (trace ++ rest) r =
        (constructor_row term.0 w.parts w.instance, trace, rest, held, w.row, site_comes trace o run, refl, behind) in
        let there = place_of_sites k env None w.frame_of.reached.later w.site w.sites frame.at w.next more (trace ++ rest) r site in
        subst (λ (l : List Event). CallComes k (frame.steps + more) l r) (sym (append_assoc since trace rest))
        (w.frame_of.leads.comes more (trace ++ rest) r
        (subst (λ (q : Option (Outcome Held)). place_goes k env q w.frame_of.reached.later frame.at more (trace ++ rest) r) (sym w.unreplied) there))

    -- and begins
    replied_begins : (made : List Event) → place_begins k env (Some held) w.frame_of.reached.later frame.at made
        → CallBegins k ((since ++ trace) ++ made)
    replied_begins made begins = by held refl (sites_begun k env (Some held) w.frame_of.reached.later w.site w.sites frame.at w.next made begins)
      where
        next : Env → Begun
        next = behind_sites_begin k w.frame_of.reached.later frame.at

        nothing : made ≡ [] → CallBegins k ((since ++ trace) ++ made)
        nothing e = subst (λ (l : List Event). CallBegins k ((since ++ trace) ++ l)) (sym e)
            (subst (CallBegins k) (sym (append-nil (since ++ trace))) (waiting_begun trace (run_begins trace o run)))

        by : (q : Outcome Held) → held ≡ q → GoesBegin q (λ h. sites_begin k (set env w.site (Some h)) None w.sites next) made
            → CallBegins k ((since ++ trace) ++ made)
        by (given h) e behind =
            let comes : SiteComes k env (constructor_row term.0 w.parts w.instance) trace (given h) =
            subst (SiteComes k env (constructor_row term.0 w.parts w.instance) trace) e (site_comes trace o run) in
            let site : sites_begin k env None (w.site ∷ w.sites) next (trace ++ made) =
            inr (constructor_row term.0 w.parts w.instance, w.row, inr (trace, made, h, refl, comes, behind)) in
            let there = place_begun k env None w.frame_of.reached.later w.site w.sites frame.at w.next (trace ++ made) site in
            subst (CallBegins k) (sym (append_assoc since trace made)) (w.frame_of.leads.begins (trace ++ made)
            (subst (λ (q : Option (Outcome Held)). place_begins k env q w.frame_of.reached.later frame.at (trace ++ made)) (sym w.unreplied) there))
        by missing e none = nothing none
        by (ended x) e none = nothing none

    -- The frame goes on with the reply.
    pub replied_frame : IsFrameOf k stored (record frame { reply = reply }) (since ++ trace)
    replied_frame = record {
      for_call = same_call w.frame_of.for_call refl refl refl refl;
      is = w.frame_of.is;
      left = w.frame_of.left;
      reached = record { env = env; known = w.frame_of.reached.known; later = w.frame_of.reached.later; replied = Some held };
      has = record {
        stand = w.frame_of.has.stand;
        good = w.frame_of.has.good;
        bound = w.frame_of.has.bound;
        goes_on = w.frame_of.has.goes_on;
        later = w.frame_of.has.later;
        reply = has_reply;
      };
      leads = record { comes = replied_comes; begins = replied_begins };
    }

-- so it does with a value
pub replied_value : (k : CallOf) (stored : List Stored) (frame : Frame) (since : List Event) (term : TermId) (vs : Values)
    → IsWaitingFor k stored frame since term vs → (trace : List Event) (v : Value) (n : ℕ) → runs_below k term.0 vs trace (given v)
    → Stands stored v n → IsFrameOf k stored (record frame { reply = Given n }) (since ++ trace)
replied_value k stored frame since term vs w trace v n run stands =
    replied_frame k stored frame since term vs w trace (given v) run (Given n)
    (v, refl, stands, below_typed k w.frame_of.for_call.ready.holds term.0 vs trace v w.ready.may w.ready.typed run)

-- a frame waits where more values are stored
waiting_longer : (k : CallOf) (old new : List Stored) (frame : Frame) (since : List Event) (term : TermId) (vs : Values) → Extends old new
    → IsWaitingFor k old frame since term vs → IsWaitingFor k new frame since term vs
waiting_longer k old new frame since term vs extends w = record {
  frame_of = frame_longer extends k frame since w.frame_of;
  unreplied = w.unreplied;
  site = w.site;
  sites = w.sites;
  next = w.next;
  parts = w.parts;
  instance = w.instance;
  row = w.row;
  args = w.args;
  ruled = w.ruled;
  ready = w.ready;
}

-- What is said of the road over trees holds.
pub tree_is_way : IsWay tree_way
tree_is_way = record {
  spent_at_once = λ program w t vs. (refl, refl, refl);
  typed = λ program w n t vs steps trace v ready run. (machine_run_meant (checked program) w (may_run program) (sound_of program).sound
      (term_trees program) ready.holds.trees n t vs steps trace (given v) ready.may ready.typed run).1;
  ends = λ k stored frame since trace term vs e waits below. waiting_ends k stored frame since term vs waits trace e below;
  stops = λ program w n t vs. machine_stops (checked program) w (term_trees program) n t vs;
  begins_so = λ program w n t vs steps trace r run. machine_begins (checked program) w (term_trees program) n t vs steps trace r run;
  begun = frame_has_begun;
  begun_below = λ k stored frame since made term vs waits begins. waiting_begun k stored frame since term vs waits made begins;
  longer = waiting_longer;
  deep = λ k stored frame since term vs waits. waits.frame_of.for_call.depth;
  ready = λ k stored frame since term vs waits. waits.ready;
}
