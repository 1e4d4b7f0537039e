-- The map has the place, or else the first few bindings tell.
use Rattle.std.proofs.Common.{◌∙◌}
use Rattle.isle_calls.proofs.TreeRoad.Placing.{place_of-map, place_of-few}
use Rattle.isle_calls.proofs.machine.bound.place_of.Goals as goal

pub returns-in-Some : goal.returns-in-Some
returns-in-Some g c =
    record { place = place_of-map c.args.bindings.now c.args.places.now c.args.site c.requires.indexed c.in-Some.place.now c.in-Some.ensures.value }

pub returns-in-None : goal.returns-in-None
returns-in-None g c =
    record {
      place = c.place_among.ensures ∙ place_of-few c.args.bindings.now c.args.places.now c.args.site
          c.requires.indexed c.min.result c.min.ensures c.in-None.ensures.value;
    }
