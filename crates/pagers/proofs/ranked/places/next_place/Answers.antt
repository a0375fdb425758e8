-- Where the search ends. Assumes nothing.
use Rattle.std.proofs.Common.{sym, ◌∙◌}
use Rattle.pagers.proofs.Ahead.{place_found, place_none}
use Rattle.pagers.proofs.ranked.places.next_place.Goals as goal

pub returns-in-Some : goal.returns-in-Some
returns-in-Some c = c.later.ensures ∙ sym (place_found c.args.place c.args.code c.args.rest.now c.in-Some.between (sym c.distance.ensures ∙ c.in-Some.is))

pub returns-in-None : goal.returns-in-None
returns-in-None c = sym (place_none c.args.place c.args.code c.args.rest.now (sym c.distance.ensures ∙ c.in-None.is))
