-- Events of a schedule that did nothing, in the record of its run: of each a comment line, which names the line of the schedule
-- and what stood in the way of it.
use Rattle.std.specs.Prelude.{◌≡◌, ℕ, ◌+◌, ◌++◌, ◌&&◌, Bool, true, false, not, nat_le, if◌then◌else◌, List, [], ◌∷◌, codes}
use Rattle.std.specs.Prelude.{Option, Some}
use Rattle.std.specs.Prelude.{slice_get, unwrap_or}
use Rattle.std.specs.Fmt.{decimal}
use Rattle.std.specs.List.{flat_map}
use Rattle.lease_client.specs.declared.values.command.Refusal.{Refusal}
use Rattle.lease_client.specs.declared.values.command.Refusal.TheVariants as refusal
use Rattle.lease_facts.specs.declared.fact.Fact.{Fact}
use Rattle.lease_state.specs.declared.reply.Reply.{Reply}
use Rattle.lease_texts.specs.Reading.{is_passed_over}
use Rattle.lease_texts.specs.Records.{fact_line}
use Rattle.lease_texts.specs.Schedules.{part_in}
use Rattle.lease_texts.specs.declared.parts.Part.{Part}
use Rattle.lease_texts.specs.declared.parts.Part.TheVariants as part
use Rattle.lease_world.specs.declared.obstacle.Idle.{Idle}
use Rattle.lease_world.specs.declared.obstacle.Obstacle.{Obstacle}
use Rattle.lease_world.specs.declared.obstacle.Obstacle.TheVariants as obstacle
use Rattle.leasecheck.specs.Messages.{message_before, messages_behind, record_with_messages}

-- ---- the lines of a schedule

abbrev pub is_event : Option Part → Bool
is_event (Some (part.Happens happening)) = true
is_event _ = false

abbrev pub tells_event : List ℕ → Bool
tells_event line = not (is_passed_over line) && is_event (part_in line)

-- the numbers of the lines that tell events, counted on from one
unfoldable pub event_lines : ℕ → List (List ℕ) → List ℕ
event_lines number [] = []
event_lines number (line ∷ lines) =
    if tells_event line then number ∷ event_lines (number + 1) lines else event_lines (number + 1) lines

-- ---- words

-- why a command is refused, after the name of it
abbrev pub refusal_words : Refusal → List ℕ
refusal_words refusal.NotOpen = codes "notopen: the client has no such file, or no handle on it"
refusal_words refusal.Busy = codes "busy: an answer of the server has to come first"
refusal_words refusal.Differs = codes "differs: it asks for another access or share than the open has"
refusal_words refusal.Offline = codes "offline: the client isn't connected, or its open isn't connected again yet"
refusal_words refusal.TooLong = codes "toolong: the write ends past the limit of a file"
refusal_words refusal.Denied = codes "denied: the access of the open doesn't allow it"
refusal_words refusal.UsedUp = codes "usedup: no number is left for it"

abbrev pub refused_words : Refusal → List ℕ
refused_words refusal = codes "was refused as " ++ refusal_words refusal

-- words about a number, and about two
abbrev pub about : List ℕ → ℕ → List ℕ → List ℕ
about before number behind = codes "did nothing: " ++ (before ++ (decimal number ++ behind))

abbrev pub about_both : List ℕ → ℕ → List ℕ → ℕ → List ℕ → List ℕ
about_both before client between file behind =
    codes "did nothing: " ++ (before ++ (decimal client ++ (between ++ (decimal file ++ behind))))

unfoldable pub obstacle_words : Obstacle → List ℕ
obstacle_words (obstacle.NoClient client) = about (codes "there is no client ") client.0 []
obstacle_words (obstacle.Refused refusal) = refused_words refusal
obstacle_words (obstacle.NothingUnsent client file) =
    about_both (codes "client ") client.0 (codes " has no unsent write of file ") file.0 []
obstacle_words (obstacle.NoRequest client) = about (codes "no request of client ") client.0 (codes " is on its way")
obstacle_words (obstacle.NoReply client) = about (codes "no message to client ") client.0 (codes " is on its way")
obstacle_words (obstacle.NotConnected client) = about (codes "client ") client.0 (codes " isn't connected")
obstacle_words (obstacle.Connected client) = about (codes "client ") client.0 (codes " is connected")
obstacle_words (obstacle.Unnoticed client) =
    about (codes "client ") client.0 (codes " hasn't noticed that its connection was lost")
obstacle_words (obstacle.NoFile file) = about (codes "there is no file ") file.0 []
obstacle_words (obstacle.NoBreak client file) =
    about_both (codes "no break of the lease of client ") client.0 (codes " of file ") file.0 (codes " waits")
obstacle_words (obstacle.NoOpen client file) =
    about_both (codes "no open of client ") client.0 (codes " of file ") file.0 (codes " is kept without a connection")

-- by the numbers of the lines that tell events
abbrev pub idle_line : List ℕ → Idle → List ℕ
idle_line lines one = codes "# line " ++ (decimal (unwrap_or (slice_get lines one.event) 0)
    ++ (codes " " ++ (obstacle_words one.obstacle ++ 10 ∷ [])))

-- ---- in a record

-- what is said of those that come before a fact, before which so many facts are
unfoldable pub idle_before : (Idle → List ℕ) → ℕ → List Idle → List ℕ
idle_before say count [] = []
idle_before say count (one ∷ idle) = if nat_le one.facts count then say one ++ idle_before say count idle else []

-- those that come after it
unfoldable pub idle_behind : ℕ → List Idle → List Idle
idle_behind count [] = []
idle_behind count (one ∷ idle) = if nat_le one.facts count then idle_behind count idle else one ∷ idle

-- the lines of a fact, before which so many are: of the events that did nothing before it, of its message, and its own
abbrev pub lines_of_fact : (Idle → List ℕ) → ℕ → Fact → List Reply → List Idle → List ℕ
lines_of_fact say count fact messages idle = idle_before say count idle ++ (message_before fact messages ++ fact_line fact)

-- The lines of a record from the fact on before which so many facts are, each after the message that it speaks of, and each event
-- that did nothing after the facts that were before it.
unfoldable pub record_told : (Idle → List ℕ) → ℕ → List Fact → List Reply → List Idle → List ℕ
record_told say count [] messages idle = flat_map say idle
record_told say count (fact ∷ facts) messages idle = idle_before say count idle ++ (message_before fact messages
    ++ (fact_line fact ++ record_told say (count + 1) facts (messages_behind fact messages) (idle_behind count idle)))

-- Where nothing is said of them, it is the record with its messages.
abbrev pub UnsaidIsPlain : Type 0
UnsaidIsPlain = (facts : List Fact) (messages : List Reply) (idle : List Idle)
    → record_told (λ one. []) 0 facts messages idle ≡ record_with_messages facts messages
