-- When a world of the code stands for one of the definitions.
use Rattle.std.specs.Prelude.{◌≡◌, ℕ, Option, List, [], length, map, reverse}
use Rattle.lease_client.specs.Known.{client_of}
use Rattle.lease_laws.specs.messages.Written.{HaveFullKeys, IsWriting}
use Rattle.lease_laws.specs.server.Laws.{IsSound}
use Rattle.lease_laws.specs.server.Waiting.{WaitsWell}
use Rattle.lease_model.specs.messages.FromBytes.{request_of, reply_of}
use Rattle.lease_model.specs.world.World as model
use Rattle.lease_facts.specs.Facts.{fact_of}
use Rattle.lease_facts.specs.declared.fact.Fact.{Fact}
use Rattle.lease_world.specs.declared.world.link.Link as code
use Rattle.lease_world.specs.world.Seats.{Seat, seat_in, IsPresent}
use Rattle.lease_state.specs.declared.reply.Reply.{Reply}
use Rattle.lease_state.specs.Rules.{profile_rules}
use Rattle.share_server.specs.Table.{Table, fresh_kept, server_of}

pub record CodeWorld : Type 0 where
  pub server : Table
  pub seats : List Seat
  pub facts : List Fact
  pub messages : Option (List Reply)

-- a server of no file, where nothing is open
abbrev pub no_server : Table
no_server = record {
  manager = record {
    rules = profile_rules;
    files = 0;
    queues = [];
    opens = [];
    leases = [];
    present = [];
    expired = [];
    last_id = 0;
  };
  kept = fresh_kept [];
}

abbrev pub link_of : code.Link → model.Link
link_of code.TheVariants.Down = model.Link.Down
link_of code.TheVariants.Up = model.Link.Up
link_of code.TheVariants.Cut = model.Link.Cut

-- a client with what lies between it and the server
pub record IsSeat (seat : Seat) (world : model.World) (number : ℕ) : Type 0 where
  pub guid : seat.guid ≡ (world.clients number).guid
  pub client : client_of seat.client ≡ world.clients number
  pub link : link_of seat.link ≡ world.links number
  pub requests : map request_of seat.requests ≡ world.requests number
  pub replies : map reply_of seat.replies ≡ world.replies number

-- The world of the code stands for the other one, in which all that is sent has bytes. Of numbers that no client has
-- nothing is said.
pub record Stands (code : CodeWorld) (world : model.World) : Type 0 where
  pub count : world.count ≡ length code.seats
  pub server : server_of code.server ≡ world.server
  pub seats : (n : ℕ) → IsPresent n code.seats → IsSeat (seat_in code.seats n) world n
  pub facts : map fact_of code.facts ≡ reverse world.past
  pub sound : IsSound world.server
  pub waiting : WaitsWell world.server
  pub keys : HaveFullKeys world.server
  pub writing : (n : ℕ) → IsPresent n code.seats → IsWriting (world.clients n)
