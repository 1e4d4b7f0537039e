-- Frames that bind a site.
use Rattle.std.proofs.Common.{◌≡◌, ◌≤◌, ◌-◌, ℕ, suc, Bool, List, [], ◌∷◌, Option, None, sym, ap, subst, arith, drop, length}
use Rattle.isle_trees.specs.Reads.{more, know}
use Rattle.isle_meaning.specs.Machine.Beginnings.{Begun}
use Rattle.isle_meaning.specs.Machine.Runs.{Env, Going, opened}
use Rattle.isle_meaning.specs.Machine.Trees.{IsTermTree}
use Rattle.isle_meaning.specs.Machine.Walkable.{CanBind, CanBindAll}
use Rattle.isle_meaning.specs.Held.{Held}
use Rattle.isle_meaning.specs.Outcomes.{Outcome}
use Rattle.isle_meaning.specs.Values.{Value}
use Rattle.isle_meaning.specs.Worlds.{Event}
use Rattle.isle_blocks.specs.declared.ids.BindingId.{BindingId}
use Rattle.isle_blocks.specs.Rows.{numbers_of}
use Rattle.isle_blocks.specs.Trees.Nodes.{fields_of}
use Rattle.isle_blocks.specs.Trees.Views.{shown_steps}
use Rattle.isle_calls.specs.declared.store.Stored.{Stored}
use Rattle.isle_calls.specs.declared.machine.frame.At.{At}
use Rattle.isle_calls.specs.declared.machine.frame.At.TheVariants.{Steps as AtSteps, Binds, Opens, Past}
use Rattle.isle_calls.specs.declared.machine.frame.Later.{Later}
use Rattle.isle_calls.specs.declared.machine.holding.Holding.{Holding}
use Rattle.isle_calls.specs.Inside.Blocks.Frames.{LaterSteps, steps_go, later_go, check_goes, sites_go, place_goes, steps_begin, later_begin, check_begins, sites_begin}
use Rattle.isle_calls.specs.Inside.Blocks.Frames.{place_begins, CanGoOn, CanWalk, CanCheck, AreLater, IsNext, next_sites, bindings_then}
use Rattle.isle_calls.specs.Inside.Blocks.Frames.{tree_of_call, sites_of_call}
use Rattle.isle_calls.specs.Inside.Blocks.Holdings.{StandFor}
use Rattle.isle_calls.specs.Calls.Open.{CallOf}
use Rattle.isle_program.specs.Meanings.{checked, may_run}

-- what comes once the next sites are bound
abbrev pub behind_sites : CallOf → List LaterSteps → At → Env → Going
behind_sites k ls (AtSteps steps) env = steps_go k env (shown_steps steps).tree (later_go k ls)
behind_sites k ls (Binds order check behind) env = check_goes k env check (steps_go k env (shown_steps behind).tree (later_go k ls))
behind_sites k ls (Opens fields body) env = steps_go k env (shown_steps body).tree (later_go k ls)
behind_sites k ls Past env = λ steps trace r. ⊥

abbrev pub behind_sites_begin : CallOf → List LaterSteps → At → Env → Begun
behind_sites_begin k ls (AtSteps steps) env = steps_begin k env (shown_steps steps).tree (later_begin k ls)
behind_sites_begin k ls (Binds order check behind) env = check_begins k env check (steps_begin k env (shown_steps behind).tree (later_begin k ls))
behind_sites_begin k ls (Opens fields body) env = steps_begin k env (shown_steps body).tree (later_begin k ls)
behind_sites_begin k ls Past env = λ made. made ≡ []

-- a place that binds a site binds it before those of the next
pub sites_there : (at next : At) (s : BindingId) → IsNext at s next → next_sites at ≡ s.0 ∷ next_sites next
sites_there (Binds order check behind) (Binds others then after) s (e, f, g) = ap numbers_of e
sites_there (Opens fields body) (Opens others then) s (e, f) = ap (λ l. opened (fields_of l)) e
sites_there (Binds order check behind) (Opens others then) s h = absurd h
sites_there (Binds order check behind) (AtSteps steps) s h = absurd h
sites_there (Binds order check behind) Past s h = absurd h
sites_there (Opens fields body) (Binds others then after) s h = absurd h
sites_there (Opens fields body) (AtSteps steps) s h = absurd h
sites_there (Opens fields body) Past s h = absurd h
sites_there (AtSteps steps) next s h = absurd h
sites_there Past next s h = absurd h

-- what comes of the place
pub goes_there : (k : CallOf) (env : Env) (replied : Option (Outcome Held)) (ls : List LaterSteps) (at next : At) (s : BindingId) → IsNext at s next
    → (steps : ℕ) (trace : List Event) (r : Outcome Value)
    → sites_go k env replied (s.0 ∷ next_sites next) (behind_sites k ls next) steps trace r → place_goes k env replied ls at steps trace r
goes_there k env replied ls (Binds order check behind) (Binds others then after) s (e, f, g) steps trace r goes =
    rw (f, g, e) goes
goes_there k env replied ls (Opens fields body) (Opens others then) s (e, f) steps trace r goes = rw (f, e) goes
goes_there k env replied ls (Binds order check behind) (Opens others then) s h steps trace r goes = absurd h
goes_there k env replied ls (Binds order check behind) (AtSteps x) s h steps trace r goes = absurd h
goes_there k env replied ls (Binds order check behind) Past s h steps trace r goes = absurd h
goes_there k env replied ls (Opens fields body) (Binds others then after) s h steps trace r goes = absurd h
goes_there k env replied ls (Opens fields body) (AtSteps x) s h steps trace r goes = absurd h
goes_there k env replied ls (Opens fields body) Past s h steps trace r goes = absurd h
goes_there k env replied ls (AtSteps x) next s h steps trace r goes = absurd h
goes_there k env replied ls Past next s h steps trace r goes = absurd h

-- and how it begins
pub begins_there : (k : CallOf) (env : Env) (replied : Option (Outcome Held)) (ls : List LaterSteps) (at next : At) (s : BindingId) → IsNext at s next
    → (made : List Event) → sites_begin k env replied (s.0 ∷ next_sites next) (behind_sites_begin k ls next) made
    → place_begins k env replied ls at made
begins_there k env replied ls (Binds order check behind) (Binds others then after) s (e, f, g) made begins = rw (f, g, e) begins
begins_there k env replied ls (Opens fields body) (Opens others then) s (e, f) made begins = rw (f, e) begins
begins_there k env replied ls (Binds order check behind) (Opens others then) s h made begins = absurd h
begins_there k env replied ls (Binds order check behind) (AtSteps x) s h made begins = absurd h
begins_there k env replied ls (Binds order check behind) Past s h made begins = absurd h
begins_there k env replied ls (Opens fields body) (Binds others then after) s h made begins = absurd h
begins_there k env replied ls (Opens fields body) (AtSteps x) s h made begins = absurd h
begins_there k env replied ls (Opens fields body) Past s h made begins = absurd h
begins_there k env replied ls (AtSteps x) next s h made begins = absurd h
begins_there k env replied ls Past next s h made begins = absurd h

-- what comes of the next place
pub next_goes : (k : CallOf) (env : Env) (ls : List LaterSteps) (at next : At) (s : BindingId) → IsNext at s next → (steps : ℕ) (trace : List Event)
    (r : Outcome Value) → place_goes k env None ls next steps trace r → sites_go k env None (next_sites next) (behind_sites k ls next) steps trace r
next_goes k env ls at (Binds others then after) s h steps trace r goes = goes
next_goes k env ls at (Opens others then) s h steps trace r goes = goes
next_goes k env ls (Binds order check behind) (AtSteps x) s h steps trace r goes = absurd h
next_goes k env ls (Opens fields body) (AtSteps x) s h steps trace r goes = absurd h
next_goes k env ls (AtSteps y) (AtSteps x) s h steps trace r goes = absurd h
next_goes k env ls Past (AtSteps x) s h steps trace r goes = absurd h
next_goes k env ls (Binds order check behind) Past s h steps trace r goes = absurd h
next_goes k env ls (Opens fields body) Past s h steps trace r goes = absurd h
next_goes k env ls (AtSteps y) Past s h steps trace r goes = absurd h
next_goes k env ls Past Past s h steps trace r goes = absurd h

pub next_begins : (k : CallOf) (env : Env) (ls : List LaterSteps) (at next : At) (s : BindingId) → IsNext at s next → (made : List Event)
    → place_begins k env None ls next made → sites_begin k env None (next_sites next) (behind_sites_begin k ls next) made
next_begins k env ls at (Binds others then after) s h made begins = begins
next_begins k env ls at (Opens others then) s h made begins = begins
next_begins k env ls (Binds order check behind) (AtSteps x) s h made begins = absurd h
next_begins k env ls (Opens fields body) (AtSteps x) s h made begins = absurd h
next_begins k env ls (AtSteps y) (AtSteps x) s h made begins = absurd h
next_begins k env ls Past (AtSteps x) s h made begins = absurd h
next_begins k env ls (Binds order check behind) Past s h made begins = absurd h
next_begins k env ls (Opens fields body) Past s h made begins = absurd h
next_begins k env ls (AtSteps y) Past s h made begins = absurd h
next_begins k env ls Past Past s h made begins = absurd h

-- what can be gone on from can bind its first site, and then go on
pub can_bind_next : (k : CallOf) (known : ℕ → Bool) (at next : At) (s : BindingId) → IsNext at s next → CanGoOn k known at
    → CanBind (sites_of_call k) known s.0 × CanGoOn k (more known s.0) next
can_bind_next k known (Binds order check behind) (Binds others then after) s (e, f, g) (binds, can) =
    let all : CanBindAll (sites_of_call k) known (s.0 ∷ numbers_of others.now) = subst (CanBindAll (sites_of_call k) known) (ap numbers_of e) binds in
    let sites : know known (numbers_of order.now) ≡ know (more known s.0) (numbers_of others.now) = ap (λ l. know known (numbers_of l)) e in (
      all.0,
      (
        all.1,
        subst (λ c. CanCheck k (know (more known s.0) (numbers_of others.now)) c after) f
            (subst (λ b. CanCheck k (know (more known s.0) (numbers_of others.now)) check b) g (subst (λ n. CanCheck k n check behind) sites can)),
      ),
    )
can_bind_next k known (Opens fields body) (Opens others then) s (e, f) (binds, can) =
    let all : CanBindAll (sites_of_call k) known (s.0 ∷ opened (fields_of others.now)) =
    subst (CanBindAll (sites_of_call k) known) (ap (λ l. opened (fields_of l)) e) binds in
    let sites : know known (opened (fields_of fields.now)) ≡ know (more known s.0) (opened (fields_of others.now)) =
    ap (λ l. know known (opened (fields_of l))) e in
    (all.0, (all.1, subst (λ b. CanWalk k (know (more known s.0) (opened (fields_of others.now))) b) f (subst (λ n. CanWalk k n body) sites can)))
can_bind_next k known (Binds order check behind) (Opens others then) s h can = absurd h
can_bind_next k known (Binds order check behind) (AtSteps x) s h can = absurd h
can_bind_next k known (Binds order check behind) Past s h can = absurd h
can_bind_next k known (Opens fields body) (Binds others then after) s h can = absurd h
can_bind_next k known (Opens fields body) (AtSteps x) s h can = absurd h
can_bind_next k known (Opens fields body) Past s h can = absurd h
can_bind_next k known (AtSteps x) next s h can = absurd h
can_bind_next k known Past next s h can = absurd h

-- one binding more leaves what was bound then
pub later_more : (k : CallOf) (is : IsTermTree (checked k.program) (may_run k.program) k.term (tree_of_call k))
    (stored : List Stored) (b : ℕ × Holding)
    (bound : List (ℕ × Holding)) (laters : List Later) (ls : List LaterSteps) → AreLater k is stored bound laters ls
    → AreLater k is stored (b ∷ bound) laters ls
later_more k is stored b bound [] [] h = tt
later_more k is stored b bound [] (l ∷ ls) h = absurd h
later_more k is stored b bound (x ∷ xs) [] h = absurd h
later_more k is stored b bound (x ∷ xs) (l ∷ ls) (few, steps, stand, good, known, others) =
    let over : suc (length bound) - x.bindings ≡ suc (length bound - x.bindings) = omega (arith, few) in
    let same : bindings_then (b ∷ bound) x.bindings ≡ bindings_then bound x.bindings = ap (λ (n : ℕ). drop n (b ∷ bound)) over in (
      (let z : x.bindings ≤ suc (length bound) = omega (arith, few) in z),
      steps,
      subst (λ (l' : List (ℕ × Holding)). StandFor stored l' l.env) (sym same) stand,
      good,
      known,
      subst (λ (l' : List (ℕ × Holding)). AreLater k is stored l' xs ls) (sym same) others,
    )
