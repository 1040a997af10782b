use Rattle.std.proofs.Common.{sym, subst}
use Rattle.std.proofs.lemmas.Result.{on_ok_weaker}
use Rattle.own_places.specs.Places.{HasPlacesOf}
use Rattle.own_places.proofs.Listed.{place_of_schema}
use Rattle.own_places.proofs.places.OwnPlaces.put_item.Goals as goal

pub returns-in_ok-copy-in-Schema-2-clause-put : goal.returns-in_ok-copy-in-Schema-2-clause-put
returns-in_ok-copy-in-Schema-2-clause-put c =
    on_ok_weaker c.put-in-Schema.result
    (λ put. subst (λ x. HasPlacesOf x c.put-in-Schema.new.self) (sym c.in-Schema.is)
    (place_of_schema c.in-Schema.schema c.put-in-Schema.new.self (rw (← c.get-schema.ensures, ← c.in_ok-copy-in-Schema.ensures, ← c.in_ok-copy-in-Schema-2.ensures, ← c.one.ensures) put)))
    c.put-in-Schema.ensures.put
