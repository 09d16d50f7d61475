-- What a client does where it notices that its connection is lost, and where it connects
-- (MS-SMB2 3.2.7.1, 3.2.4.4).
use Rattle.std.specs.Prelude.{ℕ, Bool, true, false, List, [], ◌∷◌, ◌++◌, filter, flat_map, if◌then◌else◌}
use Rattle.lease_model.specs.client.State.{Client, Entry, LiveEntry, Parted, Pending, Phase, closed_entry, lease_key, belief_of}
use Rattle.lease_model.specs.client.Step.{Step, Turn, turn_of, quiet_turn, settled_as, believes_noted}
use Rattle.lease_model.specs.client.Requests.{again_request}
use Rattle.lease_model.specs.client.Commands.{Answer, Note, Settlement}
use Rattle.lease_model.specs.values.Lists.{without, numbers_to}

-- every entry has a turn of its own; notes and requests stand file by file
abbrev pub all_turned : Client → Bool → (ℕ → Entry → Turn) → Step
all_turned client online turn = record {
  client = record client {
    is_online = online;
    entries = λ file. (turn file (client.entries file)).entry;
  };
  answer = Answer.Quiet;
  requests = flat_map (λ file. (turn file (client.entries file)).requests) (numbers_to client.files);
  notes = flat_map
      (λ file. (turn file (client.entries file)).settled
      ++ believes_noted file (belief_of (client.entries file))
      (belief_of (turn file (client.entries file)).entry))
      (numbers_to client.files);
}

abbrev pub silent_turn : Entry → List Note → Turn
silent_turn entry settled =
    record { entry = entry; answer = Answer.Quiet; requests = []; settled = settled }

-- an entry that doesn't outlive its connection: of its writes nobody knows
abbrev pub ended_turn : List Pending → Turn
ended_turn unanswered = silent_turn (closed_entry []) (settled_as Settlement.Unknown unanswered)

abbrev pub offline_turn : Parted → List Pending → Turn
offline_turn parted unanswered = silent_turn (record { phase = Phase.Offline parted; sent = [] })
    (settled_as Settlement.Unknown unanswered)

abbrev pub parted_from : LiveEntry → List Pending → Parted
parted_from live writes = record {
  file_id = live.file_id;
  access = live.access;
  share = live.share;
  handles = live.handles;
  writes = writes;
}

-- A live durable entry goes offline. Where its belief held W it keeps its buffered writes, those
-- sent and those unsent; the others are settled as unknown. That it was asking for more is forgotten.
unfoldable pub live_parted : LiveEntry → List Pending → Turn
live_parted live sent =
    if live.belief.write
    then offline_turn (parted_from live (filter (λ write. write.buffered) (sent ++ live.unsent)))
    (without (λ write. write.buffered) (sent ++ live.unsent))
    else offline_turn (parted_from live []) (sent ++ live.unsent)

-- a live entry that isn't durable ends
unfoldable pub live_noticed : LiveEntry → List Pending → Turn
live_noticed live sent =
    if live.durable then live_parted live sent else ended_turn (sent ++ live.unsent)

abbrev pub notice_turn : List Pending → Phase → Turn
notice_turn sent Phase.Closed = ended_turn sent
notice_turn sent (Phase.Opening access share) = ended_turn sent
notice_turn sent (Phase.Live live) = live_noticed live sent
notice_turn sent (Phase.Offline parted) = offline_turn parted sent
notice_turn sent (Phase.Reconnecting parted) = offline_turn parted sent

-- The client notices that its connection is lost.
abbrev pub noticed : Client → Step
noticed client = all_turned client false (λ file entry. notice_turn entry.sent entry.phase)

abbrev pub reconnecting_turn : List ℕ → ℕ → Parted → List Pending → Turn
reconnecting_turn key file parted sent = turn_of (record { phase = Phase.Reconnecting parted; sent = sent })
    Answer.Quiet (again_request key file parted ∷ [])

abbrev pub connected_in : List ℕ → ℕ → List Pending → Phase → Turn
connected_in key file sent (Phase.Offline parted) = reconnecting_turn key file parted sent
connected_in key file sent phase = quiet_turn (record { phase = phase; sent = sent })

abbrev pub connected_turn : List ℕ → ℕ → Entry → Turn
connected_turn key file entry = connected_in key file entry.sent entry.phase

-- The client connects: each offline entry is reconnecting.
abbrev pub connection_made : Client → Step
connection_made client = all_turned client true (λ file entry. connected_turn (lease_key client.guid file) file entry)
