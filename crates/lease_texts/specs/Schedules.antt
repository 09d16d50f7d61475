-- Schedules as texts: a row for each kind of line, the line of each part, and what a whole text asks for.
use Rattle.std.specs.Prelude.{ℕ, ◌++◌, List, [], ◌∷◌, codes, if◌then◌else◌, Option, Some, None, Result}
use Rattle.lease_texts.specs.{Kinds.Kind, Kinds.Line, Kinds.kind, Kinds.line, Kinds.say, Lines.line_text, Lines.told_in}
use Rattle.lease_texts.specs.{Reading.reads_on, Reading.is_passed_over, declared.kinds.Field.Field, Pieces.lines_of}
use Rattle.lease_client.specs.declared.values.command.Command.{Command}
use Rattle.lease_texts.specs.Commands.{Asking, command_kinds, told_as}
use Rattle.{lease_texts.specs.declared.parts.Part.Part, std.specs.List.flat_map, lease_facts.specs.declared.setup.Event.Event}

-- what an application asks
abbrev pub app : Asking → Part
app asking = Part.Happens (Event.App asking.0 asking.1)

-- what else happens
abbrev pub event_kinds : List (Kind Part)
event_kinds =
    kind (codes "serve") (Field.Client ∷ []) (λ client. Part.Happens (Event.ServerTakes client))
    ∷ kind (codes "take") (Field.Client ∷ []) (λ client. Part.Happens (Event.ClientTakes client))
    ∷ kind (codes "cut") (Field.Client ∷ []) (λ client. Part.Happens (Event.Cut client))
    ∷ kind (codes "notice") (Field.Client ∷ []) (λ client. Part.Happens (Event.Notice client))
    ∷ kind (codes "connect") (Field.Client ∷ []) (λ client. Part.Happens (Event.Connect client))
    ∷ kind (codes "expire") (Field.Client ∷ Field.File ∷ []) (λ client file. Part.Happens (Event.Expire client file))
    ∷ kind (codes "scavenge") (Field.Client ∷ Field.File ∷ []) (λ client file. Part.Happens (Event.Scavenge client file))
    ∷ kind (codes "raw") (Field.Client ∷ Field.Request ∷ []) (λ client asked. Part.Happens (Event.Raw client asked))
    ∷ []

abbrev pub part_kinds : List (Kind Part)
part_kinds =
    kind (codes "file") (Field.Content ∷ []) Part.File
    ∷ kind (codes "client") (Field.Guid ∷ []) Part.Client
    ∷ told_as app command_kinds ++ event_kinds

abbrev pub event_said : Event → Line
event_said (Event.App client (Command.Open file access share want durable)) = line (codes "open") (say Field.Client client
    ∷ say Field.File file ∷ say Field.Access access ∷ say Field.Share share ∷ say Field.State want
    ∷ say Field.Durable durable ∷ [])
event_said (Event.App client (Command.Close file)) = line (codes "close") (say Field.Client client ∷ say Field.File file ∷ [])
event_said (Event.App client (Command.Read file)) = line (codes "read") (say Field.Client client ∷ say Field.File file ∷ [])
event_said (Event.App client (Command.Write file patch)) = line (codes "write")
    (say Field.Client client ∷ say Field.File file ∷ say Field.Offset patch.offset ∷ say Field.Bytes patch.bytes ∷ [])
event_said (Event.App client (Command.Flush file)) = line (codes "flush") (say Field.Client client ∷ say Field.File file ∷ [])
event_said (Event.ServerTakes client) = line (codes "serve") (say Field.Client client ∷ [])
event_said (Event.ClientTakes client) = line (codes "take") (say Field.Client client ∷ [])
event_said (Event.Cut client) = line (codes "cut") (say Field.Client client ∷ [])
event_said (Event.Notice client) = line (codes "notice") (say Field.Client client ∷ [])
event_said (Event.Connect client) = line (codes "connect") (say Field.Client client ∷ [])
event_said (Event.Expire client file) = line (codes "expire") (say Field.Client client ∷ say Field.File file ∷ [])
event_said (Event.Scavenge client file) = line (codes "scavenge") (say Field.Client client ∷ say Field.File file ∷ [])
event_said (Event.Raw client asked) = line (codes "raw") (say Field.Client client ∷ say Field.Request asked ∷ [])

abbrev pub part_said : Part → Line
part_said (Part.File content) = line (codes "file") (say Field.Content content ∷ [])
part_said (Part.Client guid) = line (codes "client") (say Field.Guid guid ∷ [])
part_said (Part.Happens happening) = event_said happening

-- what a line adds to a schedule
unfoldable pub part_in : List ℕ → Option Part
part_in line = told_in part_kinds line

-- a schedule as far as it was read
pub record Draft : Type 0 where
  pub files : List (List ℕ)
  pub clients : List (List ℕ)
  pub events : List Event

-- files and clients stand before the first event
abbrev pub before_events : List Event → Draft → Option Draft
before_events [] draft = Some draft
before_events (event ∷ events) draft = None

unfoldable pub with_part : Draft → Option Part → Option Draft
with_part draft None = None
with_part draft (Some (Part.File content)) = before_events draft.events (record draft { files = draft.files ++ content ∷ [] })
with_part draft (Some (Part.Client guid)) = before_events draft.events (record draft { clients = draft.clients ++ guid ∷ [] })
with_part draft (Some (Part.Happens happening)) = Some (record draft { events = draft.events ++ happening ∷ [] })

unfoldable pub with_line : Draft → List ℕ → Option Draft
with_line draft line = if is_passed_over line then Some draft else with_part draft (part_in line)

-- the schedule that a text is, or the number of its first line that is refused
abbrev pub schedule_in : List ℕ → Result Draft ℕ
schedule_in text = reads_on with_line 1 (record { files = []; clients = []; events = [] }) (lines_of text)

-- the line of a part, with its line feed
abbrev pub part_line : Part → List ℕ
part_line one = line_text (part_said one)

-- the lines of a setup: of its files, then of its clients
abbrev pub setup_lines : List (List ℕ) → List (List ℕ) → List ℕ
setup_lines files clients =
    flat_map (λ content. part_line (Part.File content)) files ++ flat_map (λ guid. part_line (Part.Client guid)) clients

-- the line of an event
abbrev pub event_line : Event → List ℕ
event_line happening = part_line (Part.Happens happening)

-- the text of a schedule
abbrev pub schedule_text : Draft → List ℕ
schedule_text draft = setup_lines draft.files draft.clients ++ flat_map event_line draft.events
