use Rattle.lease_laws.proofs.Words.{◌<◌, ◌≡◌, arith, length, refl}
use Rattle.lease_client.specs.Known.{client_of}
use Rattle.lease_client.specs.Links.{link_turn}
use Rattle.lease_client.proofs.Linked.{knows_next, machine_more, given_more, requests_more, notes_more, linked_after}
use Rattle.lease_client.proofs.machine.Machine.link.Goals as goal

pub link_file-requires : goal.link_file-requires
link_file-requires c =
    let known = c.args.self.now in
    let below : c.loop-index.index < length known.entries = omega arith in
    knows_next known _ (link_turn c.args.link known.guid) _ c.loop-index.invariant.machine below

pub loop-index-preserved : goal.loop-index-preserved
loop-index-preserved c =
    let known = c.args.self.now in
    let turn = link_turn c.args.link known.guid in
    let k = c.loop-index.index in
    let below : c.loop-index.index < length known.entries = omega arith in
    let given = given_more known _ _ c.args.link k c.loop-index.invariant.machine below c.in_ok-link_file.ensures.given in
    record {
      machine = machine_more known _ _ c.args.link k c.loop-index.invariant.machine below c.in_ok-link_file.ensures.machine;
      requests = rw (c.in_ok-join.ensures.requests, c.loop-index.invariant.requests, given)
          (requests_more turn (client_of known).entries k);
      notes = rw (c.in_ok-join.ensures.notes, c.loop-index.invariant.notes, given) (notes_more turn (client_of known).entries k);
    }

pub returns : goal.returns
returns c =
    let known = c.args.self.now in
    let all : c.loop-index.index ≡ length known.entries = omega arith in
    linked_after known _ _ c.args.link _ c.loop-index.index c.loop-index.invariant.machine all
    (rw c.is_made.ensures at c.set_online.ensures) refl c.loop-index.invariant.requests c.loop-index.invariant.notes
