use Rattle.std.proofs.Common.{rules, ap, ◌∙◌, ℕ, Option}
use Rattle.std.specs.BTreeMap.{BTreeMap}
use Rattle.capture_walk.specs.Files.{at_spot, place_view}
use Rattle.capture_walk.specs.declared.files.Spot.{Spot}
use Rattle.capture_walk.proofs.Places.{at_key, name_put, none_at_spot}
use Rattle.capture_walk.proofs.files.put_name.Goals as goal

pub returns-in_ok-insert-in-Some : goal.returns-in_ok-insert-in-Some
returns-in_ok-insert-in-Some c =
    name_put c.args.names.now (c.get_mut.follows.lender c.insert.new.self) (place_view c.args.place) c.args.file
    c.in-Some.spots.now c.insert.new.self ((c.get_mut.follows.holds c.insert.new.self).3 (search rules))
    (λ other. ap (λ (found : Option (BTreeMap Spot ℕ)). at_spot other found) c.in-Some.ensures.value)
    (rw c.spot_of-spot.ensures at c.in_ok-insert-in-Some.ensures.updates)

pub returns-in_ok-insert-in-None-2 : goal.returns-in_ok-insert-in-None-2
returns-in_ok-insert-in-None-2 c =
    name_put c.args.names.now c.insert-in-None-2.new.self (place_view c.args.place) c.args.file
    c.new-spots.result c.insert-in-None.new.self
    (at_key c.args.names.now c.insert-in-None-2.new.self c.in_ok-from_slice-in-None.field-0 c.args.place.name.now
    c.insert-in-None.new.self c.in_ok-from_slice-in-None.ensures.items
    (rw c.get_mut.follows.holds-at-none at c.in_ok-insert-in-None-2.ensures.updates))
    (λ other. none_at_spot c.new-spots.result c.new-spots.ensures.empty other
    ∙ ap (λ (found : Option (BTreeMap Spot ℕ)). at_spot other found) c.in-None.ensures.value)
    (rw c.spot_of-spot.ensures at c.in_ok-insert-in-None.ensures.updates)
