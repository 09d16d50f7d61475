use Rattle.std.proofs.Common.{rules, ap, ◌∙◌, ℕ, Option}
use Rattle.std.specs.BTreeMap.{BTreeMap}
use Rattle.std.specs.Global.{Vec}
use Rattle.capture_walk.specs.Files.{by_name, place_view}
use Rattle.capture_walk.specs.declared.files.Spot.{Spot}
use Rattle.capture_walk.proofs.Places.{at_key, share_put, none_by_name}
use Rattle.capture_walk.proofs.files.Files.place.Goals as goal

pub returns-in_ok-put_name-in-Some-clause-named : goal.returns-in_ok-put_name-in-Some-clause-named
returns-in_ok-put_name-in-Some-clause-named c =
    share_put c.args.self.now.named (c.get_mut.follows.lender c.put_name.new.names) c.share_of-share.result.now
    (place_view c.args.place) c.args.file c.in-Some.names.now c.put_name.new.names c.share_of-share.ensures
    ((c.get_mut.follows.holds c.put_name.new.names).3 (search rules))
    (λ other. ap (λ (found : Option (BTreeMap (Vec ℕ) (BTreeMap Spot ℕ))). by_name other found) c.in-Some.ensures.value)
    c.in_ok-put_name-in-Some.ensures

pub returns-in_ok-insert-in-None-clause-named : goal.returns-in_ok-insert-in-None-clause-named
returns-in_ok-insert-in-None-clause-named c =
    share_put c.args.self.now.named c.insert.new.self c.share_of-share.result.now (place_view c.args.place) c.args.file
    c.new-names.result c.put_name-in-None.new.names c.share_of-share.ensures
    (at_key c.args.self.now.named c.insert.new.self c.in_ok-from_slice-in-None.field-0 c.share_of-share.result.now
    c.put_name-in-None.new.names c.in_ok-from_slice-in-None.ensures.items
    (rw c.get_mut.follows.holds-at-none at c.in_ok-insert-in-None.ensures.updates))
    (λ other. none_by_name c.new-names.result c.new-names.ensures.empty other
    ∙ ap (λ (found : Option (BTreeMap (Vec ℕ) (BTreeMap Spot ℕ))). by_name other found) c.in-None.ensures.value)
    c.in_ok-put_name-in-None.ensures
