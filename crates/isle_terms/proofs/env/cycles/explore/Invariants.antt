use Rattle.isle_terms.specs.Inside.Collecting.Graphs.{IsReached, IsSearching, Goes, search_work}
use Rattle.isle_terms.proofs.env.cycles.explore.Given as goal

abbrev pub invariant-loop-last : goal.invariant-loop-last
invariant-loop-last l = record {
  searching : IsSearching l.graph l.marks.items l.path;
  goes : Goes l.fn.marks.items l.marks.items;
  root : IsReached l.marks.items l.root;
}

abbrev pub decreases-loop-last : goal.decreases-loop-last
decreases-loop-last l = search_work l.graph l.marks.items l.path
