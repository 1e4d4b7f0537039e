use Rattle.std.proofs.Common.{◌+◌, ◌<◌, List, [], ◌∷◌, get_or, set, refl, sym, ◌∙◌, ap, subst, arith}
use Rattle.isle_terms.specs.declared.env.cycles.Mark.TheVariants.{Unseen, Open, Finished}
use Rattle.isle_terms.specs.declared.env.cycles.Step.{Step}
use Rattle.isle_terms.specs.Inside.Collecting.Graphs.{IsSearching, search_work}
use Rattle.isle_terms.proofs.Collections.Cycles.{last_targets, last_within, edge_read, mark_within, mark_read, cycle_found, search_pass}
use Rattle.isle_terms.proofs.Collections.Cycles.{search_finish}
use Rattle.isle_terms.proofs.Collections.Cycles.{search_open, goes_finish, goes_open, less_finish, less_pass, less_open}
use Rattle.isle_terms.proofs.env.cycles.advance.Goals as goal

pub target-requires : goal.target-requires
target-requires c = last_within c.args.graph.now c.args.marks.now.items c.args.last c.args.path.now c.requires.searching

pub returns-in_default-clause-searched : goal.returns-in_default-clause-searched
returns-in_default-clause-searched c =
    let graph = c.args.graph.now in
    let marks = c.args.marks.now.items in
    let last = c.args.last in
    let path = c.args.path.now in
    let searching = c.requires.searching in
    search_finish graph marks last path (get_or graph last.node []) searching (last_targets graph marks last path searching) (sym
    c.in_default.ensures.target)

pub returns-in_default-clause-goes : goal.returns-in_default-clause-goes
returns-in_default-clause-goes c = goes_finish c.args.marks.now.items c.args.last.node

pub returns-in_default-clause-less : goal.returns-in_default-clause-less
returns-in_default-clause-less c = less_finish c.args.graph.now c.args.marks.now.items c.args.last c.args.path.now

pub index-requires : goal.index-requires
index-requires c =
    let graph = c.args.graph.now in
    let marks = c.args.marks.now.items in
    let last = c.args.last in
    let path = c.args.path.now in
    let searching = c.requires.searching in
    let next = c.in-Some.next in
    let edge = edge_read graph marks last path next searching c.in-Some.ensures.target in
    let inside = mark_within graph marks last path next c.requires.within searching edge in
    omega arith

pub returns-in-Open-clause-searched : goal.returns-in-Open-clause-searched
returns-in-Open-clause-searched c =
    let graph = c.args.graph.now in
    let marks = c.args.marks.now.items in
    let last = c.args.last in
    let path = c.args.path.now in
    let searching = c.requires.searching in
    let next = c.in-Some.next in
    let edge = edge_read graph marks last path next searching c.in-Some.ensures.target in
    let inside = mark_within graph marks last path next c.requires.within searching edge in
    cycle_found graph marks last path next searching edge (mark_read marks next c.index.result.now Open inside c.index.ensures c.in-Open.is)

pub index_mut-requires-in-Unseen : goal.index_mut-requires-in-Unseen
index_mut-requires-in-Unseen c =
    let graph = c.args.graph.now in
    let marks = c.args.marks.now.items in
    let last = c.args.last in
    let path = c.args.path.now in
    let searching = c.requires.searching in
    let next = c.in-Some.next in
    let edge = edge_read graph marks last path next searching c.in-Some.ensures.target in
    let inside = mark_within graph marks last path next c.requires.within searching edge in
    omega arith

pub returns-in_ok-push-in-Finished-clause-searched : goal.returns-in_ok-push-in-Finished-clause-searched
returns-in_ok-push-in-Finished-clause-searched c =
    let graph = c.args.graph.now in
    let marks = c.args.marks.now.items in
    let last = c.args.last in
    let path = c.args.path.now in
    let searching = c.requires.searching in
    let next = c.in-Some.next in
    let edge = edge_read graph marks last path next searching c.in-Some.ensures.target in
    let inside = mark_within graph marks last path next c.requires.within searching edge in
    let passed : Step = record { node = last.node; place = last.place + 1 } in
    subst (IsSearching graph marks) (sym c.in_ok-push-in-Finished.ensures)
    (search_pass graph marks last passed path (get_or graph last.node []) next searching (last_targets graph marks last path searching)
    (sym c.in-Some.ensures.target) (mark_read marks next c.index.result.now Finished inside c.index.ensures c.in-Finished.is) refl refl)

pub returns-in_ok-push-in-Finished-clause-less : goal.returns-in_ok-push-in-Finished-clause-less
returns-in_ok-push-in-Finished-clause-less c =
    let graph = c.args.graph.now in
    let marks = c.args.marks.now.items in
    let last = c.args.last in
    let path = c.args.path.now in
    let searching = c.requires.searching in
    let passed : Step = record { node = last.node; place = last.place + 1 } in
    subst (λ (steps : List Step). search_work graph marks steps < search_work graph marks (last ∷ path)) (sym c.in_ok-push-in-Finished.ensures)
    (less_pass graph marks last passed path (get_or graph last.node []) c.in-Some.next (last_targets graph marks last path searching)
    (sym c.in-Some.ensures.target) refl refl)

pub returns-in_ok-push-in-Unseen-2-clause-searched : goal.returns-in_ok-push-in-Unseen-2-clause-searched
returns-in_ok-push-in-Unseen-2-clause-searched c =
    let graph = c.args.graph.now in
    let marks = c.args.marks.now.items in
    let last = c.args.last in
    let path = c.args.path.now in
    let searching = c.requires.searching in
    let next = c.in-Some.next in
    let edge = edge_read graph marks last path next searching c.in-Some.ensures.target in
    let inside = mark_within graph marks last path next c.requires.within searching edge in
    let first : Step = record { node = next; place = 0 } in
    let pushed = c.in_ok-push-in-Unseen-2.ensures ∙ ap (λ (steps : List Step). first ∷ steps) c.in_ok-push-in-Unseen.ensures in
    subst (IsSearching graph (set marks next Open)) (sym pushed)
    (search_open graph marks last first path c.requires.within searching edge (mark_read marks next c.index.result.now Unseen inside
    c.index.ensures c.in-Unseen.is) refl)

pub returns-in_ok-push-in-Unseen-2-clause-goes : goal.returns-in_ok-push-in-Unseen-2-clause-goes
returns-in_ok-push-in-Unseen-2-clause-goes c =
    let graph = c.args.graph.now in
    let marks = c.args.marks.now.items in
    let last = c.args.last in
    let path = c.args.path.now in
    let searching = c.requires.searching in
    let next = c.in-Some.next in
    let edge = edge_read graph marks last path next searching c.in-Some.ensures.target in
    let inside = mark_within graph marks last path next c.requires.within searching edge in
    goes_open marks next (mark_read marks next c.index.result.now Unseen inside c.index.ensures c.in-Unseen.is)

pub returns-in_ok-push-in-Unseen-2-clause-less : goal.returns-in_ok-push-in-Unseen-2-clause-less
returns-in_ok-push-in-Unseen-2-clause-less c =
    let graph = c.args.graph.now in
    let marks = c.args.marks.now.items in
    let last = c.args.last in
    let path = c.args.path.now in
    let searching = c.requires.searching in
    let next = c.in-Some.next in
    let edge = edge_read graph marks last path next searching c.in-Some.ensures.target in
    let inside = mark_within graph marks last path next c.requires.within searching edge in
    let first : Step = record { node = next; place = 0 } in
    let pushed = c.in_ok-push-in-Unseen-2.ensures ∙ ap (λ (steps : List Step). first ∷ steps) c.in_ok-push-in-Unseen.ensures in
    subst (λ (steps : List Step). search_work graph (set marks next Open) steps < search_work graph marks (last ∷ path)) (sym pushed)
    (less_open graph marks first (last ∷ path) searching.settled.one_each (mark_read marks next c.index.result.now Unseen inside c.index.ensures
    c.in-Unseen.is))
