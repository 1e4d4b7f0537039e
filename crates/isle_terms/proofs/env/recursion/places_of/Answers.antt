use Rattle.std.proofs.Common.{map, ◌∙◌, arith}
use Rattle.isle_terms.specs.Inside.Collecting.ExtractorGraphs.{extracted}
use Rattle.isle_terms.proofs.Collections.ExtractorGraphs.{lent, empty_gives, name_at_place, places_more, names_more, places_made}
use Rattle.isle_terms.proofs.env.recursion.places_of.Goals as goal

pub loop-place-init : goal.loop-place-init
loop-place-init c = record {
  found = λ name place is. absurd (empty_gives c.new-places.result name place c.new-places.ensures is);
  known = λ name place before is. absurd (omega arith);
}

pub loop-place-preserved : goal.loop-place-preserved
loop-place-preserved c =
    let names = extracted (map lent c.args.extractors.now) in
    let old = c.loop-place.places in
    let place = c.loop-place.place in
    let here = name_at_place c.args.extractors.now place c.index-extractors-place.result c.in_ok-name.name (omega arith)
    (c.in_ok-name.ensures ∙ c.as_str.ensures) in
    record {
      found = places_more names old c.insert.new.self place c.in_ok-name.name here c.in_ok-insert.ensures.values c.loop-place.invariant.found;
      known = names_more names old c.insert.new.self place c.in_ok-name.name here c.in_ok-insert.ensures.values c.loop-place.invariant.known;
    }

pub returns : goal.returns
returns c = places_made c.args.extractors.now c.loop-place.places c.loop-place.place c.loop-place-test.false
    c.loop-place.invariant.found c.loop-place.invariant.known
