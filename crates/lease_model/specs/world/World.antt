-- Clients, a server, and what lies between them: for each client a link and two queues (profile).
use Rattle.std.specs.Prelude.{ℕ, ◌+◌, Bool, List, [], ◌∷◌, ◌++◌, length, reverse, nat_le, ◌&&◌}
use Rattle.lease_state.specs.Rules.{profile_rules}
use Rattle.lease_state.specs.declared.rules.Rules.{Rules}
use Rattle.lease_model.specs.client.State.{Client, new_client}
use Rattle.lease_model.specs.client.Commands.{Note}
use Rattle.lease_model.specs.records.Facts.{Fact}
use Rattle.lease_model.specs.messages.Replies.{Reply, Out}
use Rattle.lease_model.specs.messages.Requests.{Request}
use Rattle.lease_model.specs.server.State.{Server, new_server_under}
use Rattle.lease_model.specs.values.Tables.{put, numbered}

-- A link is down, up, or cut: the server has lost it, and the client hasn't noticed yet.
pub data Link : Type 0 where
  Down : Link
  Up : Link
  Cut : Link

-- Clients are those from 1 to `count`. `requests` are on their way to the server, `replies` to a
-- client, the oldest first. `past` is what happened, the newest fact first.
pub record World : Type 0 where
  pub count : ℕ
  pub clients : ℕ → Client
  pub server : Server
  pub links : ℕ → Link
  pub requests : ℕ → List Request
  pub replies : ℕ → List Reply
  pub past : List Fact

-- the files of a setup by their bytes, and its clients by their ClientGuids, each numbered from 1
pub record Setup : Type 0 where
  pub files : List (List ℕ)
  pub clients : List (List ℕ)

abbrev pub happened : World → Fact → World
happened world fact = record world { past = fact ∷ world.past }

-- a Start for each file, from this number on
unfoldable pub starts_from : ℕ → List (List ℕ) → List Fact
starts_from file [] = []
starts_from file (bytes ∷ files) = Fact.Start file bytes ∷ starts_from (file + 1) files

-- where a run of a server of these rules begins: every link is down, and the files have been started
unfoldable pub first_world_under : Rules → Setup → World
first_world_under rules setup = record {
  count = length setup.clients;
  clients = λ client. new_client (numbered [] setup.clients client) (length setup.files);
  server = new_server_under rules setup.files;
  links = λ client. Link.Down;
  requests = λ client. [];
  replies = λ client. [];
  past = reverse (starts_from 1 setup.files);
}

-- the same with the profile's rules
abbrev pub first_world : Setup → World
first_world setup = first_world_under profile_rules setup

abbrev pub has_client : World → ℕ → Bool
has_client world client = nat_le 1 client && nat_le client world.count

-- One out of the server is a fact, and a reply goes into its client's queue.
abbrev pub delivered : World → Out → World
delivered world (Out.Sent client reply) = record world {
  replies = put world.replies client (world.replies client ++ reply ∷ []);
  past = Fact.Sent client ∷ world.past;
}
delivered world (Out.Opened file client) = happened world (Fact.Opened file client)
delivered world (Out.Changed file client number patch) =
    happened world (Fact.Changed file client number patch)

unfoldable pub all_delivered : World → List Out → World
all_delivered world [] = world
all_delivered world (out ∷ outs) = all_delivered (delivered world out) outs

-- requests go into the queue of a link that is up, and are lost otherwise
abbrev pub sent_over : Link → List Request → List Request → List Request
sent_over Link.Up queue requests = queue ++ requests
sent_over link queue requests = queue

abbrev pub requests_sent : World → ℕ → List Request → World
requests_sent world client requests = record world {
  requests = put world.requests client (sent_over (world.links client) (world.requests client) requests);
}

-- what a client notes is a fact about it
abbrev pub fact_of : ℕ → Note → Fact
fact_of client (Note.Settled number outcome) = Fact.Settled client number outcome
fact_of client (Note.Wrote file number patch buffered) = Fact.Wrote client file number patch buffered
fact_of client (Note.Believes file state) = Fact.Believes client file state
fact_of client (Note.CachedRead file bytes) = Fact.CachedRead client file bytes

unfoldable pub noted : World → ℕ → List Note → World
noted world client [] = world
noted world client (note ∷ notes) = noted (happened world (fact_of client note)) client notes
