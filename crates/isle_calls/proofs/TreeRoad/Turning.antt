-- Frames whose next site is made: what their calls come to, and how they go on.
use Rattle.std.proofs.Common.{◌≡◌, ◌+◌, ◌++◌, ℕ, Bool, true, false, List, [], ◌∷◌, Option, Some, None, inl, inr, refl, sym, ap, subst, ◌∙◌, arith, reverse, slice_get, append_assoc}
use Rattle.std.specs.Prelude.{◌||◌, Vec}
use Rattle.std.specs.Global.{Global}
use Rattle.std.proofs.lemmas.List.{append-nil}
use Rattle.std.proofs.Math.Decide.{ℕ_discrete}
use Rattle.isle_trees.specs.Reads.{more}
use Rattle.isle_trees.specs.Tree.{Steps, done, «match», equal, loop, give, Arms, no_arm, arm}
use Rattle.isle_types.specs.declared.ids.TermId.{TermId}
use Rattle.isle_rules.specs.Values.{ValueTree, value_list}
use Rattle.isle_meaning.specs.Asking.{Asked, ill_typed}
use Rattle.isle_meaning.specs.Got.{Got, unknown, fails, gives}
use Rattle.isle_meaning.specs.GroundValues.{IsValueOf}
use Rattle.isle_meaning.specs.Held.{Held, held_some}
use Rattle.isle_meaning.specs.Machine.Beginnings.{Begun, Silent, ArmsBegin, EqualBegins}
use Rattle.isle_meaning.specs.Machine.Runs.{Env, Going, read, Comes, Goes}
use Rattle.isle_meaning.specs.Machine.Trees.{IsHeldOf}
use Rattle.isle_meaning.specs.Numbered.{Row, bool_row, int_row, prim_row, argument_row, extractor_row, constructor_row, iterator_row}
use Rattle.isle_meaning.specs.Numbered.{make_variant_row, match_variant_row, make_struct_row, extract_struct_row, make_some_row}
use Rattle.isle_meaning.specs.Numbered.{match_some_row, match_tuple_row}
use Rattle.isle_meaning.specs.Outcomes.{Outcome, given, missing, ended}
use Rattle.isle_meaning.specs.Sorts.{Sort, plain_sort, construct_sort, sort}
use Rattle.isle_meaning.specs.Values.{Value, ask}
use Rattle.isle_meaning.specs.Words.{set}
use Rattle.isle_meaning.specs.Worlds.{Event}
use Rattle.isle_meaning.proofs.Machine.Rows.{construct_held_of, row_typed, set_typed}
use Rattle.isle_meaning.proofs.Matching.Basics.{differ, set_at, set_other}
use Rattle.isle_blocks.specs.declared.constraint.Constraint.{Constraint}
use Rattle.isle_blocks.specs.declared.ids.BindingId.{BindingId}
use Rattle.isle_blocks.specs.declared.serializer.views.ControlFlow.{ControlFlow}
use Rattle.isle_blocks.specs.declared.serializer.views.ControlFlow.TheVariants as flows
use Rattle.isle_blocks.specs.Trees.Views.{shown_arms, shown_steps}
use Rattle.isle_calls.specs.declared.answer.Answer.TheVariants.{IllTyped}
use Rattle.isle_calls.specs.declared.frames.Advanced.TheVariants.{Missing as IsMissing, Ends, Calls}
use Rattle.isle_calls.specs.declared.frames.Turn.TheVariants.{Comes as ComesTo}
use Rattle.isle_calls.specs.declared.store.Stored.{Stored}
use Rattle.isle_calls.specs.declared.machine.binding.Made.TheVariants as makes
use Rattle.isle_calls.specs.declared.machine.frame.At.{At}
use Rattle.isle_calls.specs.declared.machine.frame.At.TheVariants.{Steps as AtSteps, Binds, Opens, Past}
use Rattle.isle_calls.specs.declared.machine.frame.Frame.{Frame}
use Rattle.isle_calls.specs.declared.machine.frame.Reply.{Reply}
use Rattle.isle_calls.specs.declared.machine.frame.Reply.TheVariants.{Awaited, Given, Missing}
use Rattle.isle_calls.specs.declared.machine.holding.Holding.{Holding}
use Rattle.isle_calls.specs.Inside.Blocks.Frames.{LaterSteps, AreLater, AreBound, IsGoodEnv, IsInOption, TellsReply, IsReplied, HasReply, IsNext, next_sites}
use Rattle.isle_calls.specs.Inside.Blocks.Frames.{sites_go, sites_begin, GoesBegin, steps_begin, later_begin, check_begins, CallComes, CallBegins}
use Rattle.isle_calls.specs.Inside.Blocks.Frames.{IsFrameOf, IsWaitingFor, runs_below, begins_below, sites_of_call, tree_of_call, tree_way}
use Rattle.isle_calls.specs.Inside.Blocks.Holdings.{Holds, StandFor}
use Rattle.isle_calls.specs.Inside.Blocks.Reading.{IsBinding, SiteComes, SiteWaits, TellsMade, BeginsMade}
use Rattle.isle_calls.specs.Calls.Answers.{IsCalledOn}
use Rattle.isle_calls.specs.Calls.Open.{CallOf}
use Rattle.isle_calls.specs.Calls.Ways.{TurnsTo}
use Rattle.isle_program.specs.Meanings.{checked, may_run}
use Rattle.isle_calls.specs.Stores.Values.{Extends}
use Rattle.isle_calls.proofs.TreeRoad.Binding.{behind_sites, behind_sites_begin, sites_there, goes_there, begins_there, next_goes, next_begins, can_bind_next, later_more}
use Rattle.isle_calls.proofs.TreeRoad.Going.{call_longer, later_longer}
use Rattle.isle_calls.proofs.TreeRoad.Held.{stand_for_longer, stand_for_set}
use Rattle.isle_calls.proofs.TreeRoad.Known.{below_typed}
use Rattle.isle_calls.proofs.TreeRoad.Steps.{same_call}
use Rattle.isle_program.proofs.SoundPrograms.Known.{sound_of}
use Rattle.isle_calls.proofs.Stores.Values.{stands_longer}

-- ---- stores of frames grow

module _ {old new : List Stored} (extends : Extends old new) where
  -- a reply stays
  told_longer : (k : CallOf) (t : ℕ) (reply : Reply) (r : Outcome Value) → TellsReply k old t reply r → TellsReply k new t reply r
  told_longer k t Awaited r h = h
  told_longer k t (Given n) r (v, e, stands, typed) = (v, e, stands_longer extends v n stands, typed)
  told_longer k t Missing r h = h

  -- and what it is to
  replied_longer : (k : CallOf) (site : ℕ) (reply : Reply) (o : Outcome Held) → IsReplied k old site reply o → IsReplied k new site reply o
  replied_longer k site reply o r = record {
    callee = r.callee;
    parts = r.parts;
    instance = r.instance;
    row = r.row;
    outcome = r.outcome;
    held = r.held;
    told = told_longer k r.callee reply r.outcome r.told;
  }

  -- so does the reply that a frame has
  pub reply_longer : (k : CallOf) (sites : List ℕ) (reply : Reply) (replied : Option (Outcome Held)) → HasReply k old sites reply replied
      → HasReply k new sites reply replied
  reply_longer k sites Awaited replied h = h
  reply_longer k [] (Given n) replied h = absurd h
  reply_longer k [] Missing replied h = absurd h
  reply_longer k (s ∷ sites) (Given n) replied (o, e, r) = (o, e, replied_longer k s (Given n) o r)
  reply_longer k (s ∷ sites) Missing replied (o, e, r) = (o, e, replied_longer k s Missing o r)

  -- a frame stays one of its call
  abbrev pub frame_longer : (k : CallOf) (frame : Frame) (since : List Event) → IsFrameOf k old frame since → IsFrameOf k new frame since
  frame_longer k frame since f = record {
    for_call = call_longer extends k frame f.for_call;
    is = f.is;
    left = f.left;
    reached = f.reached;
    has = record {
      stand = stand_for_longer extends frame.bound f.reached.env f.has.stand;
      good = f.has.good;
      bound = f.has.bound;
      goes_on = f.has.goes_on;
      later = later_longer extends k f.is frame.bound (reverse frame.later.items) f.reached.later f.has.later;
      reply = reply_longer k (next_sites frame.at) frame.reply f.reached.replied f.has.reply;
    };
    leads = f.leads;
  }

-- a reply is to the call that the first site is
pub first_reply : (k : CallOf) (stored : List Stored) (s : ℕ) (sites : List ℕ) (reply : Reply) (replied : Option (Outcome Held))
    → HasReply k stored (s ∷ sites) reply replied → HasReply k stored (s ∷ []) reply replied
first_reply k stored s sites Awaited replied h = h
first_reply k stored s sites (Given n) replied h = h
first_reply k stored s sites Missing replied h = h

-- The next site of a frame is to be bound.
abbrev pub binding_of : (k : CallOf) (stored : List Stored) (frame : Frame) (since : List Event) (s : BindingId) (next : At)
    (f : IsFrameOf k stored frame since) → IsNext frame.at s next → IsBinding k stored frame f.reached.env
binding_of k stored frame since s next f is =
    let can = (can_bind_next k f.reached.known frame.at next s is f.has.goes_on).0 in
    record {
      is = f.is;
      for_call = f.for_call;
      stand = f.has.stand;
      good = f.has.good;
      known = f.reached.known;
      bound = f.has.bound;
      site = s.0;
      row = can.row;
      there = can.there;
      parts = can.parts;
      replied = f.reached.replied;
      reply = first_reply k stored s.0 (next_sites next) frame.reply f.reached.replied
          (subst (λ (l : List ℕ). HasReply k stored l frame.reply f.reached.replied) (sites_there frame.at next s is) f.has.reply);
    }

-- ---- what the site comes to

-- with these effects, or as was replied
abbrev pub SiteIs : CallOf → Env → Option (Outcome Held) → Row → List Event → Outcome Held → Type 0
SiteIs k env None row effects o = SiteComes k env row effects o
SiteIs k env (Some p) row effects o = (effects ≡ []) × (p ≡ o)

-- what holds something is that
holds_is : (k : CallOf) (stored : List Stored) (env : Env) (replied : Option (Outcome Held)) (row : Row) (x : Holding) (effects : List Event)
    → TellsMade k stored env replied row (makes.Holds x) effects → (h : Held) × Holds stored x h × SiteIs k env replied row effects (given h)
holds_is k stored env None row x effects t = t
holds_is k stored env (Some o) row x effects (none, (h, holds, e)) = (h, holds, (none, e))

-- what is missing is
missing_is : (k : CallOf) (stored : List Stored) (env : Env) (replied : Option (Outcome Held)) (row : Row) (effects : List Event)
    → TellsMade k stored env replied row makes.Missing effects → SiteIs k env replied row effects missing
missing_is k stored env None row effects t = t
missing_is k stored env (Some o) row effects (none, e) = (none, e)

-- an answer that is not allowed is one
ill_typed_is : (k : CallOf) (stored : List Stored) (env : Env) (replied : Option (Outcome Held)) (row : Row) (term : TermId)
    (args : Vec ValueTree Global) (effects : List Event) → TellsMade k stored env replied row (makes.IllTyped term args) effects
    → (q : Asked) × IsCalledOn (checked k.program) q term (value_list args.items) × SiteIs k env replied row effects (ended (ill_typed q))
ill_typed_is k stored env None row term args effects t = t
ill_typed_is k stored env (Some o) row term args effects (none, e) = absurd e

-- what waits was not replied to, and has made nothing
waits_is : (k : CallOf) (stored : List Stored) (env : Env) (replied : Option (Outcome Held)) (row : Row) (term : TermId) (ns : Vec ℕ Global)
    (effects : List Event) → TellsMade k stored env replied row (makes.Waits term ns) effects
    → (replied ≡ None) × (effects ≡ []) × SiteWaits k stored env row term ns.items
waits_is k stored env None row term ns effects (none, w) = (refl, none, w)
waits_is k stored env (Some o) row term ns effects (none, e) = absurd e

-- what comes of it
pub site_goes : (k : CallOf) (env : Env) (replied : Option (Outcome Held)) (s : ℕ) (sites : List ℕ) (next : Env → Going) (row : Row)
    (effects rest : List Event) (o : Outcome Held) → slice_get (sites_of_call k) s ≡ Some row → SiteIs k env replied row effects o
    → (steps : ℕ) (r : Outcome Value) → Goes o (λ h. sites_go k (set env s (Some h)) None sites next) steps rest r
    → sites_go k env replied (s ∷ sites) next steps (effects ++ rest) r
site_goes k env None s sites next row effects rest o there is steps r goes = (row, effects, rest, o, there, is, refl, goes)
site_goes k env (Some p) s sites next row effects rest o there (none, same) steps r goes =
    subst (λ (l : List Event). Goes p (λ h. sites_go k (set env s (Some h)) None sites next) steps (l ++ rest) r) (sym none)
    (subst (λ (q : Outcome Held). Goes q (λ h. sites_go k (set env s (Some h)) None sites next) steps rest r) (sym same) goes)

-- ---- what may stop before anything is made

-- sites that are bound in turn
pub binds_stop : (k : CallOf) (env : Env) (sites : List ℕ) (next : Env → Begun) → ((env : Env) → next env []) → sites_begin k env None sites next []
binds_stop k env [] next n = n env
binds_stop k env (s ∷ sites) next n = inl refl

-- arms
arms_stop : (k : CallOf) (env : Env) (s : ℕ) (arms : Arms Constraint) (behind : Begun) → behind []
    → ArmsBegin (checked k.program) k.answers (runs_below k) (begins_below k) (tree_of_call k) k.args env s arms behind []
arms_stop k env s no_arm behind b = b
arms_stop k env s (arm c fields body arms) behind b = inl refl

-- steps
pub steps_stop : (k : CallOf) (env : Env) (T : Steps Constraint) (behind : Begun) → behind [] → steps_begin k env T behind []
steps_stop k env done behind b = b
steps_stop k env («match» binds s arms next) behind b =
    binds_stop k env binds (λ e. ArmsBegin (checked k.program) k.answers (runs_below k) (begins_below k) (tree_of_call k) k.args e s arms
    (steps_begin k e next behind)) (λ e. arms_stop k e s arms (steps_begin k e next behind) (steps_stop k e next behind b))
steps_stop k env (equal binds x y body next) behind b =
    binds_stop k env binds (λ e. EqualBegins (sites_of_call k) k.args e x y (steps_begin k e body (steps_begin k e next behind))
    (steps_begin k e next behind))
    (λ e. inl refl)
steps_stop k env (loop binds x body next) behind b = refl
steps_stop k env (give binds i next) behind b = binds_stop k env binds (λ e. Silent) (λ e. refl)

-- steps that are taken later
pub later_stops : (k : CallOf) (ls : List LaterSteps) → later_begin k ls []
later_stops k [] = refl
later_stops k (l ∷ ls) = steps_stop k l.env l.steps (later_begin k ls) (later_stops k ls)

-- a check
pub check_stops : (k : CallOf) (env : Env) (check : ControlFlow) (behind : Begun) → behind [] → check_begins k env check behind []
check_stops k env (flows.Match source arms) behind b = arms_stop k env source.0 (shown_arms arms).arms behind b
check_stops k env (flows.Equal x y body) behind b = inl refl
check_stops k env (flows.Loop result body) behind b = refl
check_stops k env (flows.Return rule pos result) behind b = refl

-- so may what comes behind sites
pub behind_stops : (k : CallOf) (ls : List LaterSteps) (at : At) (env : Env) → behind_sites_begin k ls at env []
behind_stops k ls (AtSteps steps) env = steps_stop k env (shown_steps steps).tree (later_begin k ls) (later_stops k ls)
behind_stops k ls (Binds order check behind) env =
    check_stops k env check (steps_begin k env (shown_steps behind).tree (later_begin k ls))
    (steps_stop k env (shown_steps behind).tree (later_begin k ls) (later_stops k ls))
behind_stops k ls (Opens fields body) env = steps_stop k env (shown_steps body).tree (later_begin k ls) (later_stops k ls)
behind_stops k ls Past env = refl

-- a site that holds something begins with its effects, and then with what begins behind it
site_begins : (k : CallOf) (env : Env) (replied : Option (Outcome Held)) (s : ℕ) (sites : List ℕ) (next : Env → Begun) (row : Row)
    (effects rest : List Event) (h : Held) → slice_get (sites_of_call k) s ≡ Some row → SiteIs k env replied row effects (given h)
    → sites_begin k (set env s (Some h)) None sites next rest → sites_begin k env replied (s ∷ sites) next (effects ++ rest)
site_begins k env None s sites next row effects rest h there is begins = inr (row, there, inr (effects, rest, h, refl, is, begins))
site_begins k env (Some p) s sites next row effects rest h there (none, same) begins =
    subst (λ (l : List Event). GoesBegin p (λ g. sites_begin k (set env s (Some g)) None sites next) (l ++ rest)) (sym none)
    (subst (λ (q : Outcome Held). GoesBegin q (λ g. sites_begin k (set env s (Some g)) None sites next) rest) (sym same) begins)

-- one that isn't made begins with what was made of it
pub site_lost : (k : CallOf) (env : Env) (replied : Option (Outcome Held)) (s : ℕ) (sites : List ℕ) (next : Env → Begun) (row : Row)
    (events : List Event) → slice_get (sites_of_call k) s ≡ Some row → BeginsMade k env replied row events → ((env : Env) → next env [])
    → sites_begin k env replied (s ∷ sites) next events
site_lost k env None s sites next row events there (inl none) n = inl none
site_lost k env None s sites next row events there (inr begins) n = inr (row, there, inl begins)
site_lost k env (Some o) s sites next row events there none n =
    subst (GoesBegin o (λ g. sites_begin k (set env s (Some g)) None sites next)) (sym none) (stop o)
  where
    stop : (o : Outcome Held) → GoesBegin o (λ g. sites_begin k (set env s (Some g)) None sites next) []
    stop (given h) = binds_stop k (set env s (Some h)) sites next n
    stop missing = refl
    stop (ended e) = refl

-- ---- what a site holds is of its sort

-- what is replied is of the called term's type
reply_typed : (k : CallOf) (stored : List Stored) (t : ℕ) (reply : Reply) (r : Outcome Value) (v : Value)
    → TellsReply k stored t reply r → r ≡ given v
    → IsValueOf (checked k.program).values v ((checked k.program).terms.type_of t)
reply_typed k stored t Awaited r v h e = absurd h
reply_typed k stored t (Given n) r v (w, is, stands, typed) e =
    let q : given w ≡ given v = sym is ∙ e in
    let same : w ≡ v = cc in
    subst (λ (z : Value). IsValueOf (checked k.program).values z ((checked k.program).terms.type_of t)) same typed
reply_typed k stored t Missing r v h e = absurd (let q : missing ≡ given v = sym h ∙ e in cc)

-- made options are held where they are made
row_in_option : (k : CallOf) (env : Env) (row : Row) (effects : List Event) (h : Held) → SiteComes k env row effects (given h) → IsInOption row h
row_in_option k env (make_some_row j) effects h (none, q) = some_made (read (sites_of_call k) k.args env j) q
  where
    some_made : (g : Got Held) → Comes (ask (λ x. gives (held_some x)) g) (given h) → (x : Held) × (h ≡ held_some x)
    some_made unknown q = absurd q
    some_made fails q = absurd (let z : given h ≡ missing = q in cc)
    some_made (gives x) q = (x, (let z : given h ≡ given (held_some x) = q in cc))
row_in_option k env (bool_row x ty) effects h q = tt
row_in_option k env (int_row x ty) effects h q = tt
row_in_option k env (prim_row x) effects h q = tt
row_in_option k env (argument_row i) effects h q = tt
row_in_option k env (extractor_row u j) effects h q = tt
row_in_option k env (constructor_row u js i) effects h q = tt
row_in_option k env (iterator_row j) effects h q = tt
row_in_option k env (make_variant_row ty v js) effects h q = tt
row_in_option k env (match_variant_row j v i) effects h q = tt
row_in_option k env (make_struct_row ty js) effects h q = tt
row_in_option k env (extract_struct_row j i) effects h q = tt
row_in_option k env (match_some_row j) effects h q = tt
row_in_option k env (match_tuple_row j i) effects h q = tt

module _ {k : CallOf} {stored : List Stored} {frame : Frame} {env : Env} (b : IsBinding k stored frame env) where
  -- a site's sort
  abbrev IsOfSort : ℕ → Held → Type 0
  IsOfSort s h = IsHeldOf (checked k.program) (sort (checked k.program).terms ((checked k.program).terms.inputs k.term) (b.is.site s)) h

  -- a reply is of its site's sort
  replied_typed : (reply : Reply) (o : Outcome Held) (h : Held) → IsReplied k stored b.site reply o → o ≡ given h → IsOfSort b.site h
  replied_typed reply o h r e =
      let u = r.callee in let row = constructor_row r.callee r.parts r.instance in
      let s : sort (checked k.program).terms ((checked k.program).terms.inputs k.term) (b.is.site b.site)
      ≡ construct_sort false ((checked k.program).terms.partial u) (plain_sort ((checked k.program).terms.type_of u)) =
      ap (sort (checked k.program).terms ((checked k.program).terms.inputs k.term)) (b.is.sited b.site row r.row)
      ∙ ap (λ (c : Bool). construct_sort c ((checked k.program).terms.partial u) (plain_sort ((checked k.program).terms.type_of u)))
      (b.is.single b.site row r.row) in
      subst (λ (z : Sort). IsHeldOf (checked k.program) z h) (sym s)
      (construct_held_of (checked k.program) ((checked k.program).terms.partial u) ((checked k.program).terms.type_of u) r.outcome h
      (λ v is. reply_typed k stored u reply r.outcome v r.told is) (sym e ∙ r.held))

  -- so is what a site is made to hold, and a made option is one
  site_typed : (reply : Reply) (replied : Option (Outcome Held)) (effects : List Event) (h : Held) → HasReply k stored (b.site ∷ []) reply replied
      → SiteIs k env replied b.row effects (given h) → IsOfSort b.site h × IsInOption b.row h
  site_typed reply None effects h has is = (
    row_typed (checked k.program) k.answers (may_run k.program) (sound_of k.program).sound (runs_below k) (below_typed k b.for_call.ready.holds)
        k.term k.args b.for_call.ready.typed (tree_of_call k) b.is env b.site b.row effects h b.good.typed b.there is,
    row_in_option k env b.row effects h is,
  )
  site_typed Awaited (Some o) effects h has is = absurd (let q : Some o ≡ None = has in cc)
  site_typed (Given n) (Some o) effects h (p, e, r) (none, is) =
      let same : o ≡ p = cc in (replied_typed (Given n) p h r (sym same ∙ is), in_option r.row)
    where
      in_option : {u : ℕ} {js : List ℕ} {i : ℕ} → slice_get (sites_of_call k) b.site ≡ Some (constructor_row u js i) → IsInOption b.row h
      in_option {u} {js} {i} at =
          let q : Some b.row ≡ Some (constructor_row u js i) = sym b.there ∙ at in
          let same : b.row ≡ constructor_row u js i = cc in
          subst (λ (row : Row). IsInOption row h) (sym same) tt
  site_typed Missing (Some o) effects h (p, e, r) (none, is) =
      let same : o ≡ p = cc in (replied_typed Missing p h r (sym same ∙ is), in_option r.row)
    where
      in_option : {u : ℕ} {js : List ℕ} {i : ℕ} → slice_get (sites_of_call k) b.site ≡ Some (constructor_row u js i) → IsInOption b.row h
      in_option {u} {js} {i} at =
          let q : Some b.row ≡ Some (constructor_row u js i) = sym b.there ∙ at in
          let same : b.row ≡ constructor_row u js i = cc in
          subst (λ (row : Row). IsInOption row h) (sym same) tt

  -- What is bound is good where the site holds that too.
  good_set : (h : Held) → IsOfSort b.site h × IsInOption b.row h → IsGoodEnv k b.is (set env b.site (Some h))
  good_set h (here, in_option) = record {
    typed = set_typed (checked k.program) k.answers (may_run k.program) (sound_of k.program).sound (runs_below k)
        (below_typed k b.for_call.ready.holds)
        k.term k.args b.for_call.ready.typed (tree_of_call k) b.is env b.site h b.good.typed here;
    in_options = λ s g row e at. elim (ℕ_discrete s b.site) [
      | yes q ↦
          let o : Some h ≡ Some g = sym (ap (set env b.site (Some h)) q ∙ set_at env b.site (Some h)) ∙ e in
          let same : h ≡ g = cc in
          let r : Some b.row ≡ Some row = sym b.there ∙ sym (ap (slice_get (sites_of_call k)) q) ∙ at in
          let rows : b.row ≡ row = cc in
          subst (λ (z : Row). IsInOption z g) rows (subst (IsInOption b.row) same in_option)
      | no n ↦ b.good.in_options s g row (sym (set_other env b.site (Some h) s n) ∙ e) at
    ];
  }

  -- and what is known as bound is
  bound_set : (h : Held) → AreBound (more b.known b.site) (set env b.site (Some h))
  bound_set h x e = elim (ℕ_discrete x b.site) [
    | yes q ↦ (h, ap (set env b.site (Some h)) q ∙ set_at env b.site (Some h))
    | no n ↦
        let there : b.known x ≡ true = sym (ap (λ (t : Bool). t || b.known x) (differ x b.site n)) ∙ e in
        let (g, q) = b.bound x there in
        (g, set_other env b.site (Some h) x n ∙ q)
  ]

-- ---- the frame's turn

module _ (k : CallOf) (old new : List Stored) (frame : Frame) (since : List Event) (s : BindingId) (next : At)
    (f : IsFrameOf k old frame since) (is : IsNext frame.at s next) where
  -- the site that is to be bound
  abbrev the_binding : IsBinding k old frame f.reached.env
  the_binding = binding_of k old frame since s next f is

  -- what comes of the site
  call_goes : (events : List Event) (o : Outcome Held) → SiteIs k f.reached.env f.reached.replied the_binding.row events o
      → (more : ℕ) (trace : List Event)
      (r : Outcome Value) → Goes o (λ h. sites_go k (set f.reached.env s.0 (Some h)) None (next_sites next) (behind_sites k f.reached.later next))
      more trace r
      → CallComes k (frame.steps + more) (since ++ (events ++ trace)) r
  call_goes events o made more trace r goes = f.leads.comes more (events ++ trace) r
      (goes_there k f.reached.env f.reached.replied f.reached.later frame.at next s is more (events ++ trace) r
      (site_goes k f.reached.env f.reached.replied s.0 (next_sites next) (behind_sites k f.reached.later next) the_binding.row events trace o
      the_binding.there made more r goes))

  -- a site without a value ends the call
  call_ends : (events : List Event) (o : Outcome Held) (r : Outcome Value) → SiteIs k f.reached.env f.reached.replied the_binding.row events o
      → Goes o (λ h. sites_go k (set f.reached.env s.0 (Some h)) None (next_sites next) (behind_sites k f.reached.later next)) 0 [] r
      → CallComes k frame.steps (since ++ events) r
  call_ends events o r made goes =
      let sum : frame.steps + 0 ≡ frame.steps = omega arith in
      subst (λ (n : ℕ). CallComes k n (since ++ events) r) sum
      (subst (λ (l : List Event). CallComes k (frame.steps + 0) (since ++ l) r) (append-nil events) (call_goes events o made 0 [] r goes))

  -- so does one that is missing
  pub missing_turns : (events : List Event) → TellsMade k new f.reached.env f.reached.replied the_binding.row makes.Missing events
      → TurnsTo tree_way k new frame (since ++ events) (ComesTo IsMissing)
  missing_turns events made = call_ends events missing missing
      (missing_is k new f.reached.env f.reached.replied the_binding.row events made) (refl, refl, refl)

  -- and one whose answer is not allowed
  pub ill_typed_turns : (events : List Event) (term : TermId) (args : Vec ValueTree Global)
      → TellsMade k new f.reached.env f.reached.replied the_binding.row (makes.IllTyped term args) events
      → TurnsTo tree_way k new frame (since ++ events) (ComesTo (Ends (IllTyped term args)))
  ill_typed_turns events term args made =
      let (q, called, site) = ill_typed_is k new f.reached.env f.reached.replied the_binding.row term args events made in
      (ill_typed q, (q, refl, called), call_ends events (ended (ill_typed q)) (ended (ill_typed q)) site (refl, refl, refl))

  -- one that is the call of a term with rules is waited for
  pub waits_turns : (events : List Event) (term : TermId) (ns : Vec ℕ Global) → Extends old new
      → TellsMade k new f.reached.env f.reached.replied the_binding.row (makes.Waits term ns) events
      → TurnsTo tree_way k new frame (since ++ events) (ComesTo (Calls term ns))
  waits_turns events term ns extends made =
      let (unreplied, none, w) = waits_is k new f.reached.env f.reached.replied the_binding.row term ns events made in
      let same : since ≡ since ++ events = sym (ap (λ (l : List Event). since ++ l) none ∙ append-nil since) in (
        w.vs,
        w.stand,
        subst (λ (l : List Event). IsWaitingFor k new frame l term w.vs) same (record {
          frame_of = frame_longer extends k frame since f;
          unreplied = unreplied;
          site = s.0;
          sites = next_sites next;
          next = sites_there frame.at next s is;
          parts = w.parts;
          instance = w.instance;
          row = the_binding.there ∙ ap Some w.is;
          args = w.args;
          ruled = w.ruled;
          ready = w.ready;
        }),
      )

  -- a site that holds something is bound
  pub bound_turns : (events : List Event) (x : Holding) (bound : List (ℕ × Holding)) → Extends old new
      → TellsMade k new f.reached.env f.reached.replied the_binding.row (makes.Holds x) events → bound ≡ (s.0, x) ∷ frame.bound
      → IsFrameOf k new (record frame { bound = bound; reply = Awaited; at = next }) (since ++ events)
  bound_turns events x bound extends made added =
      let (h, holds, site) = holds_is k new f.reached.env f.reached.replied the_binding.row x events made in
      let env = set f.reached.env s.0 (Some h) in
      let longer = frame_longer extends k frame since f in
      record {
        for_call = same_call longer.for_call refl refl refl refl;
        is = f.is;
        left = f.left;
        reached = record { env = env; known = more f.reached.known s.0; later = f.reached.later; replied = None };
        has = record {
          stand = subst (λ (l : List (ℕ × Holding)). StandFor new l env) (sym added)
              (stand_for_set new frame.bound f.reached.env s.0 x h longer.has.stand holds);
          good = good_set the_binding h (site_typed the_binding frame.reply f.reached.replied events h the_binding.reply site);
          bound = bound_set the_binding h;
          goes_on = (can_bind_next k f.reached.known frame.at next s is f.has.goes_on).1;
          later = subst (λ (l : List (ℕ × Holding)). AreLater k f.is new l (reverse frame.later.items) f.reached.later) (sym added)
              (later_more k f.is new (s.0, x) frame.bound (reverse frame.later.items) f.reached.later longer.has.later);
          reply = refl;
        };
        leads = record {
          comes = λ more trace r goes. subst (λ (l : List Event). CallComes k (frame.steps + more) l r) (sym (append_assoc since events trace))
              (call_goes events (given h) site more trace r (next_goes k env f.reached.later frame.at next s is more trace r goes));
          begins = λ trace begins. subst (CallBegins k) (sym (append_assoc since events trace)) (f.leads.begins (events ++ trace)
              (begins_there k f.reached.env f.reached.replied f.reached.later frame.at next s is (events ++ trace)
              (site_begins k f.reached.env f.reached.replied s.0 (next_sites next) (behind_sites_begin k f.reached.later next)
              the_binding.row events trace h
              the_binding.there site (next_begins k env f.reached.later frame.at next s is trace begins))));
        };
      }

  -- without memory for it, it has begun with its effects
  pub bound_begins : (events : List Event) (x : Holding) → TellsMade k new f.reached.env f.reached.replied the_binding.row (makes.Holds x) events
      → CallBegins k (since ++ events)
  bound_begins events x made =
      let (h, holds, site) = holds_is k new f.reached.env f.reached.replied the_binding.row x events made in
      f.leads.begins events (begins_there k f.reached.env f.reached.replied f.reached.later frame.at next s is events
      (subst (sites_begin k f.reached.env f.reached.replied (s.0 ∷ next_sites next) (behind_sites_begin k f.reached.later next)) (append-nil events)
      (site_begins k f.reached.env f.reached.replied s.0 (next_sites next) (behind_sites_begin k f.reached.later next) the_binding.row events [] h
      the_binding.there site (binds_stop k (set f.reached.env s.0 (Some h)) (next_sites next) (behind_sites_begin k f.reached.later next)
      (behind_stops k f.reached.later next)))))

  -- so where it wasn't made
  pub lost_begins : (events : List Event) → BeginsMade k f.reached.env f.reached.replied the_binding.row events → CallBegins k (since ++ events)
  lost_begins events lost = f.leads.begins events (begins_there k f.reached.env f.reached.replied f.reached.later frame.at next s is events
      (site_lost k f.reached.env f.reached.replied s.0 (next_sites next) (behind_sites_begin k f.reached.later next) the_binding.row events
      the_binding.there lost (behind_stops k f.reached.later next)))
