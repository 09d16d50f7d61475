use Rattle.lease_laws.proofs.Words.{◌≡◌, map, request_written}
use Rattle.lease_client.specs.Answers.{note_of}
use Rattle.lease_client.specs.Known.{client_of}
use Rattle.lease_client.specs.Links.{link_turn, entries_to, requests_to, notes_to}
use Rattle.lease_client.proofs.machine.Machine.link.Given as goal

abbrev pub invariant-loop-index : goal.invariant-loop-index
invariant-loop-index l = record {
  machine : l.self ≡ record l.fn.self { entries = entries_to (link_turn l.link l.fn.self.guid) l.fn.self.entries l.index };
  requests : l.requests.items
      ≡ map request_written (requests_to (link_turn l.link l.fn.self.guid) (client_of l.fn.self).entries l.index);
  notes : map note_of l.notes.items ≡ notes_to (link_turn l.link l.fn.self.guid) (client_of l.fn.self).entries l.index;
}
