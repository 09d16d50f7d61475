-- Clients of a world, as plain data, by their numbers from 1.
use Rattle.std.specs.Prelude.{◌≡◌, ◌≢◌, ℕ, zero, suc, ◌≤◌, Bool, true, false, Option, None, List, [], ◌∷◌, ◌++◌, if◌then◌else◌}
use Rattle.std.specs.Prelude.{◌==◌, slice_get, unwrap_or, length, map, MatchOption}
use Rattle.std.specs.Option.{option_map}
use Rattle.lease_client.specs.Known.{Known, client_of}
use Rattle.lease_model.specs.client.Calls.{ClientCall, client_called}
use Rattle.lease_model.specs.client.Commands.{Note}
use Rattle.lease_model.specs.messages.ToBytes.{request_written}
use Rattle.lease_model.specs.records.Facts as model
use Rattle.lease_state.specs.declared.request.Request.{Request}
use Rattle.lease_state.specs.declared.reply.Reply.{Reply}
use Rattle.lease_world.specs.declared.world.link.Link.{Link}
use Rattle.share_server.specs.declared.values.out.Out as out

pub record Seat : Type 0 where
  pub guid : List ℕ
  pub client : Known
  pub link : Link
  pub requests : List Request
  pub replies : List Reply

abbrev pub seat_at : List Seat → ℕ → Option Seat
seat_at seats zero = None
seat_at seats (suc n) = slice_get seats n

-- the seat of this number has a new value
abbrev pub HasSeat : List Seat → List Seat → ℕ → (Seat → Seat) → Type 0
HasSeat old new client change =
    (n : ℕ) → seat_at new n ≡ (if n == client then option_map change (seat_at old n) else seat_at old n)

-- ---- what a server gives out

-- what is told of it
abbrev pub fact_given : out.Out → model.Fact
fact_given (out.TheVariants.Sent client reply) = model.Fact.Sent client.0
fact_given (out.TheVariants.Opened file client) = model.Fact.Opened file.0 client.0
fact_given (out.TheVariants.Changed file client number patch) = model.Fact.Changed file.0 client.0 number patch

-- the replies to a client among it, in order
abbrev pub replies_to : ℕ → List out.Out → List Reply
replies_to client [] = []
replies_to client (out.TheVariants.Sent other reply ∷ outs) =
    if other.0 == client then reply ∷ replies_to client outs else replies_to client outs
replies_to client (_ ∷ outs) = replies_to client outs

-- the replies among it, in order
abbrev pub replies_among : List out.Out → List Reply
replies_among [] = []
replies_among (out.TheVariants.Sent other reply ∷ outs) = reply ∷ replies_among outs
replies_among (_ ∷ outs) = replies_among outs

abbrev pub with_replies : List Reply → Seat → Seat
with_replies replies seat = record seat { replies = seat.replies ++ replies }

abbrev pub HasReplies : List Seat → List Seat → List out.Out → Type 0
HasReplies old new outs = (n : ℕ) → seat_at new n ≡ option_map (with_replies (replies_to n outs)) (seat_at old n)

-- these are kept after those that were, where messages are kept
abbrev pub HasKept : Option (List Reply) → Option (List Reply) → List Reply → Type 0
HasKept old new more = new ≡ option_map (λ kept. kept ++ more) old

-- ---- what a client sends

-- requests go into the queue of a link that is up, and are lost otherwise
abbrev pub queued : Link → List Request → List Request → List Request
queued Link.Up queue requests = queue ++ requests
queued link queue requests = queue

abbrev pub with_requests : List Request → Seat → Seat
with_requests requests seat = record seat { requests = queued seat.link seat.requests requests }

-- ---- one seat

abbrev pub no_client : Known
no_client = record { guid = []; is_online = false; last_number = 0; entries = [] }

-- a number that no client has
abbrev pub no_seat : Seat
no_seat = record {
  guid = [];
  client = no_client;
  link = Link.Down;
  requests = [];
  replies = [];
}

abbrev pub seat_in : List Seat → ℕ → Seat
seat_in seats n = unwrap_or (seat_at seats n) no_seat

abbrev pub IsPresent : ℕ → List Seat → Type 0
IsPresent n seats = (1 ≤ n) × (n ≤ length seats)

-- the seat of this number changes in this way, and no other
abbrev pub ChangesSeat : (Seat → Seat → Type 0) → ℕ → List Seat → List Seat → Type 0
ChangesSeat Changes number old new = Changes (seat_in old number) (seat_in new number)
    × ((n : ℕ) → n ≢ number → seat_in new n ≡ seat_in old n)
    × (length new ≡ length old)

abbrev pub PopsRequest : Option Request → Seat → Seat → Type 0
PopsRequest popped old new = MatchOption popped ((new ≡ old) × (old.requests ≡ []))
    (λ request. old ≡ record new { requests = request ∷ new.requests })

abbrev pub PopsReply : Option Reply → Seat → Seat → Type 0
PopsReply popped old new = MatchOption popped ((new ≡ old) × (old.replies ≡ []))
    (λ reply. old ≡ record new { replies = reply ∷ new.replies })

-- the client was called: what it sends is queued, and these are its notes
abbrev pub StepsSeat : ClientCall → List Note → Seat → Seat → Type 0
StepsSeat call notes old new = (client_of new.client ≡ (client_called (client_of old.client) call).client)
    × (new.link ≡ old.link)
    × (new.requests ≡ queued old.link old.requests (map request_written (client_called (client_of old.client) call).requests))
    × (new.replies ≡ old.replies)
    × (notes ≡ (client_called (client_of old.client) call).notes)
    × (new.guid ≡ old.guid)

abbrev pub is_link : Link → Link → Bool
is_link Link.Down Link.Down = true
is_link Link.Up Link.Up = true
is_link Link.Cut Link.Cut = true
is_link _ _ = false
