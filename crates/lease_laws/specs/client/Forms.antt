-- What commands and links come to, as steps of the client.
use Rattle.std.specs.Prelude.{Bool, List, [], false, if◌then◌else◌, true, ℕ, ◌++◌, ◌+◌, ◌∷◌}
use Rattle.lease_state.specs.declared.patch.Patch.{Patch}
use Rattle.lease_model.specs.client.Commands.{OpenTerms, Answer, Note}
use Rattle.lease_model.specs.client.Connection.{connected_in}
use Rattle.lease_model.specs.client.Requests.{again_request, open_request}
use Rattle.lease_model.specs.client.State.{Client, Entry, LiveEntry, Parted, Pending, Phase, lease_key, live_entry}
use Rattle.lease_model.specs.client.Step.{Step, Turn, turned, turn_of, write_requests}
use Rattle.lease_model.specs.messages.Requests.{FileRequest, Request}
use Rattle.lease_model.specs.values.Lists.{is_empty}
use Rattle.lease_model.specs.values.Tables.{put}

-- the create that opens a file, and the one that reconnects
abbrev pub create_request : Client → ℕ → OpenTerms → Request
create_request client file terms = open_request (lease_key client.guid file) file terms

abbrev pub reconnect_request : Client → ℕ → Parted → Request
reconnect_request client file parted = again_request (lease_key client.guid file) file parted

abbrev pub connect_turn : Client → ℕ → List Pending → Phase → Turn
connect_turn client file sent phase = connected_in (lease_key client.guid file) file sent phase

-- A parked entry that is asked for more gives its open up and opens the file anew: the unsent writes, a
-- Close of the old FileId, and a create on the command's own terms.
abbrev pub opened_anew : Client → ℕ → LiveEntry → List Pending → OpenTerms → Step
opened_anew client file live sent terms = turned client file (turn_of
    (record { phase = Phase.Opening terms.access terms.share; sent = sent ++ live.unsent })
    Answer.Waiting
    (write_requests live.file_id live.unsent
    ++ Request.OnFile (FileRequest.Close live.file_id) ∷ create_request client file terms ∷ []))

-- a read from the cache
abbrev pub cached_read : Client → ℕ → List ℕ → Step
cached_read client file bytes = record {
  client = client;
  answer = Answer.Bytes bytes true;
  requests = [];
  notes = Note.CachedRead file bytes ∷ [];
}

-- a write takes the client's next number, and is noted
abbrev pub wrote_step : Client → ℕ → Entry → Answer → List Request → Pending → Step
wrote_step client file entry answer requests write = record {
  client = record client {
    entries = put client.entries file entry;
    last_number = client.last_number + 1;
  };
  answer = answer;
  requests = requests;
  notes = Note.Wrote file write.number write.patch write.buffered ∷ [];
}

abbrev pub next_write : Client → Patch → Bool → Pending
next_write client patch buffered =
    record { number = client.last_number + 1; patch = patch; buffered = buffered }

abbrev pub write_buffered : Client → ℕ → LiveEntry → List Pending → Patch → Step
write_buffered client file live sent patch = wrote_step client file
    (live_entry (record live { unsent = live.unsent ++ next_write client patch true ∷ [] }) sent)
    Answer.Done [] (next_write client patch true)

abbrev pub write_sent : Client → ℕ → LiveEntry → List Pending → Patch → Step
write_sent client file live sent patch = wrote_step client file
    (live_entry live (sent ++ next_write client patch false ∷ []))
    Answer.Waiting (Request.OnFile (FileRequest.Write live.file_id (client.last_number + 1) patch) ∷ [])
    (next_write client patch false)

-- the unsent writes are sent, in order
abbrev pub flush_on_live : Client → ℕ → LiveEntry → List Pending → Step
flush_on_live client file live sent = turned client file (turn_of
    (live_entry (record live { unsent = [] }) (sent ++ live.unsent))
    (if is_empty live.unsent then Answer.Done else Answer.Waiting)
    (write_requests live.file_id live.unsent))
