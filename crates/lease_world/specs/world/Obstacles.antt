-- Events that do nothing, and what stands in their way in the world before them.
use Rattle.std.specs.Prelude.{◌≡◌, ◌↔◌, ℕ, ◌+◌, Bool, true, false, Option, Some, None, IsSome, List, [], ◌∷◌, ◌++◌, length}
use Rattle.std.specs.Prelude.{if◌then◌else◌}
use Rattle.std.specs.Option.{option_map}
use Rattle.lease_client.specs.Answers.{refusal_of}
use Rattle.lease_model.specs.client.Commanded.{commanded}
use Rattle.lease_model.specs.client.Commands.{Command, Answer, Refusal}
use Rattle.lease_model.specs.server.Queries.{breaking, kept}
use Rattle.lease_model.specs.server.State.{has_file}
use Rattle.lease_model.specs.world.Events.{Event, client_of, happens, machine_key}
use Rattle.lease_model.specs.world.World.{World, Setup, Link, has_client, first_world_under}
use Rattle.lease_state.specs.declared.rules.Rules.{Rules}
use Rattle.lease_world.specs.declared.obstacle.Idle as code_idle
use Rattle.lease_world.specs.declared.obstacle.Obstacle as code
use Rattle.lease_world.specs.world.Stands.{CodeWorld, Stands}

-- NoClient: there is no client of this number. Refused: the command is refused. NothingUnsent: a flush finds no unsent write.
-- NoRequest, NoReply: nothing is on its way to the server, or to the client. NotConnected: the client's link isn't up.
-- Connected: it is. Unnoticed: it is cut, and the client hasn't noticed. NoFile: there is no file of this number. NoBreak: no
-- break of the client's lease of the file waits. NoOpen: no open of the client is kept without a connection on the file.
pub data Obstacle : Type 0 where
  NoClient : (client : ℕ) → Obstacle
  Refused : (refusal : Refusal) → Obstacle
  NothingUnsent : (client : ℕ) (file : ℕ) → Obstacle
  NoRequest : (client : ℕ) → Obstacle
  NoReply : (client : ℕ) → Obstacle
  NotConnected : (client : ℕ) → Obstacle
  Connected : (client : ℕ) → Obstacle
  Unnoticed : (client : ℕ) → Obstacle
  NoFile : (file : ℕ) → Obstacle
  NoBreak : (client : ℕ) (file : ℕ) → Obstacle
  NoOpen : (client : ℕ) (file : ℕ) → Obstacle

-- ---- what stands in the way

-- by the command's answer; a flush that is done at once has nothing to send
abbrev pub against_command : ℕ → Command → Answer → Option Obstacle
against_command client command (Answer.Refused refusal) = Some (Obstacle.Refused refusal)
against_command client (Command.Flush file) Answer.Done = Some (Obstacle.NothingUnsent client file)
against_command client command answer = None

-- by what is on its way
abbrev pub where_empty : {Message : Type 0} → Obstacle → List Message → Option Obstacle
where_empty obstacle [] = Some obstacle
where_empty obstacle (message ∷ queue) = None

-- by the client's link
abbrev pub unless_up : ℕ → Link → Option Obstacle
unless_up client Link.Up = None
unless_up client link = Some (Obstacle.NotConnected client)

abbrev pub unless_cut : ℕ → Link → Option Obstacle
unless_cut client Link.Down = Some (Obstacle.NotConnected client)
unless_cut client Link.Up = Some (Obstacle.Connected client)
unless_cut client Link.Cut = None

abbrev pub unless_down : ℕ → Link → Option Obstacle
unless_down client Link.Down = None
unless_down client Link.Up = Some (Obstacle.Connected client)
unless_down client Link.Cut = Some (Obstacle.Unnoticed client)

-- by the lowest open that is kept
abbrev pub where_none_kept : ℕ → ℕ → Option ℕ → Option Obstacle
where_none_kept client file None = Some (Obstacle.NoOpen client file)
where_none_kept client file (Some file_id) = None

-- of an event that names a client of the setup
abbrev pub obstacle_to : World → Event → Option Obstacle
obstacle_to world (Event.App client command) =
    against_command client command (commanded (world.clients client) command).answer
obstacle_to world (Event.ServerTakes client) = where_empty (Obstacle.NoRequest client) (world.requests client)
obstacle_to world (Event.ClientTakes client) = where_empty (Obstacle.NoReply client) (world.replies client)
obstacle_to world (Event.Cut client) = unless_up client (world.links client)
obstacle_to world (Event.Notice client) = unless_cut client (world.links client)
obstacle_to world (Event.Connect client) = unless_down client (world.links client)
obstacle_to world (Event.Expire client file) =
    if has_file world.server file
    then (if breaking world.server (machine_key world client file) then None else Some (Obstacle.NoBreak client file))
    else Some (Obstacle.NoFile file)
obstacle_to world (Event.Scavenge client file) = where_none_kept client file (kept world.server client file)
obstacle_to world (Event.Raw client request) = unless_up client (world.links client)

unfoldable pub obstacle : World → Event → Option Obstacle
obstacle world event =
    if has_client world (client_of event) then obstacle_to world event else Some (Obstacle.NoClient (client_of event))

abbrev pub is_command : Event → Bool
is_command (Event.App client command) = true
is_command event = false

-- ---- events of a run that did nothing

-- its place among the events, from 0; how many facts were told before it; what stood in its way
pub record Idle : Type 0 where
  pub event : ℕ
  pub facts : ℕ
  pub obstacle : Obstacle

abbrev pub idle_by : ℕ → ℕ → Option Obstacle → List Idle
idle_by event facts None = []
idle_by event facts (Some obstacle) = record { event = event; facts = facts; obstacle = obstacle } ∷ []

-- of events from this place on
unfoldable pub idle_from : ℕ → World → List Event → List Idle
idle_from place world [] = []
idle_from place world (event ∷ events) =
    idle_by place (length world.past) (obstacle world event) ++ idle_from (place + 1) (happens world event) events

abbrev pub idle_told_under : Rules → Setup → List Event → List Idle
idle_told_under rules setup events = idle_from 0 (first_world_under rules setup) events

-- ---- laws

-- Something stands in the way of exactly those events that leave the world as it was.
abbrev pub ObstaclesAreExact : Type 0
ObstaclesAreExact = (world : World) (event : Event) → (IsSome (obstacle world event)) ↔ (happens world event ≡ world)

-- Of a command that is refused it is the refusal.
abbrev pub RefusalsAreNamed : Type 0
RefusalsAreNamed = (world : World) (client : ℕ) (command : Command) (refusal : Refusal) → has_client world client ≡ true
    → (commanded (world.clients client) command).answer ≡ Answer.Refused refusal
    → obstacle world (Event.App client command) ≡ Some (Obstacle.Refused refusal)

-- ---- the same of the code

abbrev pub obstacle_meant : code.Obstacle → Obstacle
obstacle_meant (code.TheVariants.NoClient client) = Obstacle.NoClient client.0
obstacle_meant (code.TheVariants.Refused refusal) = Obstacle.Refused (refusal_of refusal)
obstacle_meant (code.TheVariants.NothingUnsent client file) = Obstacle.NothingUnsent client.0 file.0
obstacle_meant (code.TheVariants.NoRequest client) = Obstacle.NoRequest client.0
obstacle_meant (code.TheVariants.NoReply client) = Obstacle.NoReply client.0
obstacle_meant (code.TheVariants.NotConnected client) = Obstacle.NotConnected client.0
obstacle_meant (code.TheVariants.Connected client) = Obstacle.Connected client.0
obstacle_meant (code.TheVariants.Unnoticed client) = Obstacle.Unnoticed client.0
obstacle_meant (code.TheVariants.NoFile file) = Obstacle.NoFile file.0
obstacle_meant (code.TheVariants.NoBreak client file) = Obstacle.NoBreak client.0 file.0
obstacle_meant (code.TheVariants.NoOpen client file) = Obstacle.NoOpen client.0 file.0

abbrev pub idle_meant : code_idle.Idle → Idle
idle_meant one = record { event = one.event; facts = one.facts; obstacle = obstacle_meant one.obstacle }

-- what is known of the event in a place
abbrev pub idle_noted : ℕ → ℕ → Option code.Obstacle → List code_idle.Idle
idle_noted event facts None = []
idle_noted event facts (Some obstacle) = record { event = event; facts = facts; obstacle = obstacle } ∷ []

-- this stands in the way of an event, in each world that the code's stands for
abbrev pub Meets : Event → CodeWorld → Option code.Obstacle → Type 0
Meets event old found = (world : World) → Stands old world → option_map obstacle_meant found ≡ obstacle world event

-- the same of one that names a client that there is
abbrev pub MeetsThere : Event → CodeWorld → Option code.Obstacle → Type 0
MeetsThere event old found = (world : World) → Stands old world → option_map obstacle_meant found ≡ obstacle_to world event
