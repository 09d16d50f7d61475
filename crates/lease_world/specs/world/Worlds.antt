-- What happens to a world of the code, as it happens to each world that it stands for.
use Rattle.std.specs.Prelude.{◌≡◌, ℕ, Option, List, [], ◌∷◌, ◌++◌, map, length}
use Rattle.std.specs.Option.{option_map}
use Rattle.lease_laws.specs.messages.Written.{CallHasFullKey, CallHasFileId}
use Rattle.lease_model.specs.client.Calls.{ClientCall, client_called}
use Rattle.lease_model.specs.messages.FromBytes.{reply_of}
use Rattle.lease_model.specs.messages.Replies.{Reply}
use Rattle.lease_model.specs.records.Facts.{Fact}
use Rattle.lease_model.specs.server.Calls.{Call, called}
use Rattle.lease_model.specs.messages.Requests.{Request}
use Rattle.lease_model.specs.values.Tables.{put}
use Rattle.lease_model.specs.world.Events.{Event, served, stepped_in, applied, happens}
use Rattle.lease_model.specs.world.World.{World, Link, happened, requests_sent}
use Rattle.lease_facts.specs.Facts.{fact_of}
use Rattle.lease_state.specs.declared.reply.Reply as code
use Rattle.lease_world.specs.world.Messages.{sent_by, messages_of, messages_in}
use Rattle.lease_world.specs.world.Seats.{HasReplies, HasKept, fact_given, replies_among}
use Rattle.lease_world.specs.world.Stands.{CodeWorld, Stands}
use Rattle.share_server.specs.Table.{Table}
use Rattle.share_server.specs.declared.values.out.Out.{Out}

-- ---- messages

-- the messages that are kept, where they are
abbrev pub messages_kept : CodeWorld → Option (List Reply)
messages_kept code = option_map (map reply_of) code.messages

-- these are kept after those that were, where messages are kept
abbrev pub Keeps : List Reply → CodeWorld → CodeWorld → Type 0
Keeps more old new = messages_kept new ≡ option_map (λ replies. replies ++ more) (messages_kept old)

-- the same after messages of the code
abbrev pub KeepsBehind : Option (List code.Reply) → List Reply → CodeWorld → Type 0
KeepsBehind first more new =
    messages_kept new ≡ option_map (λ kept. map reply_of kept ++ more) first

-- no message is kept with it
abbrev pub IsQuiet : CodeWorld → CodeWorld → Type 0
IsQuiet old new = new.messages ≡ old.messages

-- ---- what happens

-- the server is this one, and what it gave out is recorded, delivered and kept, where messages are
pub record Delivers (table : Table) (outs : List Out) (old new : CodeWorld) : Type 0 where
  pub server : new.server ≡ table
  pub replies : HasReplies old.seats new.seats outs
  pub count : length new.seats ≡ length old.seats
  pub facts : map fact_of new.facts ≡ map fact_of old.facts ++ map fact_given outs
  pub kept : HasKept old.messages new.messages (replies_among outs)

abbrev pub Tells : Fact → CodeWorld → CodeWorld → Type 0
Tells fact old new = IsQuiet old new × ((world : World) → Stands old world → Stands new (happened world fact))

abbrev pub Serves : Call → CodeWorld → CodeWorld → Type 0
Serves call old new = CallHasFullKey call → (world : World) → Stands old world
    → Stands new (served world (called world.server call)) × Keeps (sent_by world call) old new

abbrev pub StepsIn : ℕ → ClientCall → CodeWorld → CodeWorld → Type 0
StepsIn number call old new = IsQuiet old new × (CallHasFileId call → (world : World) → Stands old world
    → Stands new (stepped_in world number (client_called (world.clients number) call)))

abbrev pub Links : ℕ → Link → CodeWorld → CodeWorld → Type 0
Links number link old new = IsQuiet old new × ((world : World) → Stands old world
    → Stands new (record world { links = put world.links number link }))

abbrev pub CutsLink : ℕ → CodeWorld → CodeWorld → Type 0
CutsLink number old new = IsQuiet old new × ((world : World) → Stands old world → Stands new (record world {
  links = put world.links number Link.Cut;
  requests = put world.requests number [];
  replies = put world.replies number [];
}))

abbrev pub Sends : ℕ → Request → CodeWorld → CodeWorld → Type 0
Sends number request old new = IsQuiet old new × ((world : World) → Stands old world
    → Stands new (requests_sent world number (request ∷ [])))

-- an event of a client that there is
abbrev pub Applies : Event → CodeWorld → CodeWorld → Type 0
Applies event old new = (world : World) → Stands old world
    → Stands new (applied world event) × Keeps (messages_of world event) old new

abbrev pub Happens : Event → CodeWorld → CodeWorld → Type 0
Happens event old new = (world : World) → Stands old world
    → Stands new (happens world event) × Keeps (messages_in world event) old new
