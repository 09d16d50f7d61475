-- A connection that is lost or made, entry by entry.
use Rattle.std.specs.Prelude.{ℕ, zero, suc, Bool, true, false, List, [], ◌++◌, flat_map}
use Rattle.std.proofs.Math.ListN.{set}
use Rattle.lease_model.specs.client.Commands.{Note}
use Rattle.lease_model.specs.client.Connection.{connected_turn, notice_turn, noticed, connection_made}
use Rattle.lease_model.specs.client.State.{Client, Entry, closed_entry, lease_key, belief_of}
use Rattle.lease_model.specs.client.Step.{Step, Turn, believes_noted}
use Rattle.lease_model.specs.messages.Requests.{Request}
use Rattle.lease_model.specs.values.Lists.{numbers_to}
use Rattle.lease_model.specs.values.Tables.{numbered}
use Rattle.lease_client.specs.declared.machine.links.Link.{Link}
use Rattle.lease_client.specs.declared.machine.links.Link.TheVariants.{Lost, Made}

abbrev pub keyed_turn : Link → List ℕ → ℕ → Entry → Turn
keyed_turn Lost key file entry = notice_turn entry.sent entry.phase
keyed_turn Made key file entry = connected_turn key file entry

abbrev pub link_turn : Link → List ℕ → ℕ → Entry → Turn
link_turn link guid file entry = keyed_turn link (lease_key guid file) file entry

abbrev pub is_made : Link → Bool
is_made Lost = false
is_made Made = true

abbrev pub linked : Client → Link → Step
linked client Lost = noticed client
linked client Made = connection_made client

-- the entries after the turns of the first files
abbrev pub entries_to : (ℕ → Entry → Turn) → List Entry → ℕ → List Entry
entries_to turn entries zero = entries
entries_to turn entries (suc k) =
    set (entries_to turn entries k) k (turn (suc k) (numbered (closed_entry []) entries (suc k))).entry

-- what the first files send and note
abbrev pub requests_to : (ℕ → Entry → Turn) → (ℕ → Entry) → ℕ → List Request
requests_to turn entries k = flat_map (λ file. (turn file (entries file)).requests) (numbers_to k)

abbrev pub notes_to : (ℕ → Entry → Turn) → (ℕ → Entry) → ℕ → List Note
notes_to turn entries k = flat_map
    (λ file. (turn file (entries file)).settled
    ++ believes_noted file (belief_of (entries file)) (belief_of (turn file (entries file)).entry))
    (numbers_to k)
