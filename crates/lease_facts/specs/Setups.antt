-- Setups and events of the code as the definitions see them; the kinds of events, and the words that their lines begin with.
use Rattle.std.specs.Prelude.{ℕ, List, [], ◌∷◌, codes, bytes_eq, if◌then◌else◌, Option, Some, None}
use Rattle.lease_client.specs.Answers.{command_of}
use Rattle.lease_model.specs.messages.FromBytes.{request_of}
use Rattle.lease_model.specs.world.Events as model
use Rattle.lease_model.specs.world.World.{Setup}
use Rattle.lease_state.specs.declared.number.ClientNo.{ClientNo}
use Rattle.lease_facts.specs.declared.setup.ClientEvent.{ClientEvent}
use Rattle.lease_facts.specs.declared.setup.ClientEvent.TheVariants as kind
use Rattle.lease_facts.specs.declared.setup.Event as event
use Rattle.lease_facts.specs.declared.setup.Setup as code

abbrev pub setup_of : code.Setup → Setup
setup_of setup = record { files = setup.files.items; clients = setup.clients.items }

abbrev pub event_of : event.Event → model.Event
event_of (event.TheVariants.App client command) = model.Event.App client.0 (command_of command)
event_of (event.TheVariants.ServerTakes client) = model.Event.ServerTakes client.0
event_of (event.TheVariants.ClientTakes client) = model.Event.ClientTakes client.0
event_of (event.TheVariants.Cut client) = model.Event.Cut client.0
event_of (event.TheVariants.Notice client) = model.Event.Notice client.0
event_of (event.TheVariants.Connect client) = model.Event.Connect client.0
event_of (event.TheVariants.Expire client file) = model.Event.Expire client.0 file.0
event_of (event.TheVariants.Scavenge client file) = model.Event.Scavenge client.0 file.0
event_of (event.TheVariants.Raw client request) = model.Event.Raw client.0 (request_of request)

-- the client that an event is about
abbrev pub event_client : event.Event → ClientNo
event_client (event.TheVariants.App client command) = client
event_client (event.TheVariants.ServerTakes client) = client
event_client (event.TheVariants.ClientTakes client) = client
event_client (event.TheVariants.Cut client) = client
event_client (event.TheVariants.Notice client) = client
event_client (event.TheVariants.Connect client) = client
event_client (event.TheVariants.Expire client file) = client
event_client (event.TheVariants.Scavenge client file) = client
event_client (event.TheVariants.Raw client request) = client

-- ---- events that say no more than which client they are about

abbrev pub client_events : List ClientEvent
client_events = kind.ServerTakes ∷ kind.ClientTakes ∷ kind.Cut ∷ kind.Notice ∷ kind.Connect ∷ []

abbrev pub client_word : ClientEvent → List ℕ
client_word kind.ServerTakes = codes "serve"
client_word kind.ClientTakes = codes "take"
client_word kind.Cut = codes "cut"
client_word kind.Notice = codes "notice"
client_word kind.Connect = codes "connect"

abbrev pub client_event : ClientEvent → ClientNo → event.Event
client_event kind.ServerTakes client = event.TheVariants.ServerTakes client
client_event kind.ClientTakes client = event.TheVariants.ClientTakes client
client_event kind.Cut client = event.TheVariants.Cut client
client_event kind.Notice client = event.TheVariants.Notice client
client_event kind.Connect client = event.TheVariants.Connect client

abbrev pub client_event_of : event.Event → Option ClientEvent
client_event_of (event.TheVariants.ServerTakes client) = Some kind.ServerTakes
client_event_of (event.TheVariants.ClientTakes client) = Some kind.ClientTakes
client_event_of (event.TheVariants.Cut client) = Some kind.Cut
client_event_of (event.TheVariants.Notice client) = Some kind.Notice
client_event_of (event.TheVariants.Connect client) = Some kind.Connect
client_event_of other = None

unfoldable pub client_named_among : List ClientEvent → List ℕ → Option ClientEvent
client_named_among [] word = None
client_named_among (one ∷ others) word = if bytes_eq word (client_word one) then Some one else client_named_among others word

-- the kind that has this word
abbrev pub client_named : List ℕ → Option ClientEvent
client_named word = client_named_among client_events word

-- the words of all lines of schedules
abbrev pub parts_listed : List ℕ
parts_listed =
    codes "file, client, open, close, read, flush, write, serve, take, cut, notice, connect, expire, scavenge or raw"
