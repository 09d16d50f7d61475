-- Why a task is refused, and the line that says so.
use Rattle.std.specs.Prelude.{◌≡◌, ℕ, ◌+◌, ◌^◌, ◌≤◌, ◌++◌, List, [], ◌∷◌, codes, drop, if◌then◌else◌, Option, Some, None, Result}
use Rattle.std.specs.Prelude.{Ok, Err, MatchResult, ◌⊎◌, length, Bool, true, false, IsSome, unwrap_or}
use Rattle.std.specs.Fmt.{decimal}
use Rattle.std.specs.Option.{option_map}
use Rattle.std.specs.Result.{result_err}
use Rattle.std.specs.String.{string_bytes}
use Rattle.std.specs.Io.KnownBytes.{Appends, Keeps}
use Rattle.capture_texts.specs.Captures.{capture_in}
use Rattle.lease_wire.specs.Gathering.{gathered, no_values}
use Rattle.lease_wire.specs.Message.{begins_message, header_fault, first_message, area_fault, items_in}
use Rattle.lease_wire.specs.Reading.{Item, items_of}
use Rattle.lease_wire.specs.WireFaults.{message_fault, fault_at, fault_text}
use Rattle.lease_wire.specs.declared.create.Direction.{Direction}
use Rattle.lease_wire.specs.declared.create.Direction.TheVariants.{Request, Reply}
use Rattle.lease_wire.specs.declared.fault.WireFault.{WireFault}
use Rattle.lease_texts.specs.Records.{record_in}
use Rattle.leasecheck.specs.Arguments.{argument_bytes}
use Rattle.leasecheck.specs.Drawing.{draw_refusal}
use Rattle.leasecheck.specs.FileFaults.{FailsReading}
use Rattle.leasecheck.specs.Known.{MayHave, OfBytes}
use Rattle.leasecheck.specs.Paths.{file_named}
use Rattle.leasecheck.specs.Printed.{IsTextOf, PrintsOf}
use Rattle.leasecheck.specs.Replayed.{replay_refusal}
use Rattle.leasecheck.specs.declared.failure.Failure.{Failure}
use Rattle.leasecheck.specs.declared.refusal.Refusal.{Refusal}
use Rattle.leasecheck.specs.declared.failure.Failure.TheVariants.{Hex, Wire, File, Lines, Line, Run, Picture, Memory, Output}
use Rattle.lease_world.specs.declared.setup.RunFault.TheVariants as run
use Rattle.leasecheck.specs.declared.tasks.Form.{Form}
use Rattle.leasecheck.specs.declared.tasks.Form.TheVariants as form
use Rattle.leasecheck.specs.declared.tasks.Kind.{Kind}
use Rattle.leasecheck.specs.declared.tasks.Kind.TheVariants as kind
use Rattle.leasecheck.specs.declared.tasks.Task.{Task}
use Rattle.leasecheck.specs.declared.tasks.Task.TheVariants as task

-- the fault of contexts
abbrev pub items_fault : Direction → List Item → Option WireFault
items_fault direction items = result_err (gathered direction no_values items)

-- the fault of bytes without the SMB2 header
abbrev pub bare_fault : Kind → List ℕ → Option WireFault
bare_fault kind.Ask bytes = items_fault Request (items_of bytes)
bare_fault kind.Reply bytes = items_fault Reply (items_of bytes)
bare_fault kind.Break bytes = message_fault 44 bytes
bare_fault kind.Ack bytes = message_fault 36 bytes
bare_fault kind.Response bytes = message_fault 36 bytes

-- the earlier of two faults
abbrev pub or_else : Option WireFault → Option WireFault → Option WireFault
or_else (Some fault) later = Some fault
or_else None later = later

-- the fault of a whole message, by its place from the header on
abbrev pub whole_fault : Kind → List ℕ → Option WireFault
whole_fault kind.Ask message = or_else (area_fault Request message) (items_fault Request (items_in Request message))
whole_fault kind.Reply message = or_else (area_fault Reply message) (items_fault Reply (items_in Reply message))
whole_fault kind.Break message = option_map (fault_at 64) (bare_fault kind.Break (drop 64 message))
whole_fault kind.Ack message = option_map (fault_at 64) (bare_fault kind.Ack (drop 64 message))
whole_fault kind.Response message = option_map (fault_at 64) (bare_fault kind.Response (drop 64 message))

-- the fault of bytes that are shown
abbrev pub shown_fault : Kind → List ℕ → Option WireFault
shown_fault kind bytes =
    if begins_message bytes then or_else (header_fault bytes) (whole_fault kind (first_message bytes)) else bare_fault kind bytes

-- Where bytes have a fault they are refused as that, and else for want of memory alone.
abbrev pub RefusesExactly : {X : Type 0} → Option WireFault → Result X Failure → Type 0
RefusesExactly fault answer = MatchResult answer (λ _. fault ≡ None)
    (λ failure. ((failure ≡ Memory) × (fault ≡ None)) ⊎ (option_map Wire fault ≡ Some failure))

-- what an argument is refused as that has to write bytes without a fault
abbrev pub argument_refusal : {E : Type 0} → (List ℕ → Option WireFault) → Result (List ℕ) E → Option Failure
argument_refusal fault (Ok bytes) = option_map Wire (fault bytes)
argument_refusal fault (Err e) = Some Hex

-- what an argument is refused as, or the file that it names
abbrev pub given_refusal : (List ℕ → Option WireFault) → List ℕ → Option (List ℕ) → List ℕ → Option Failure
given_refusal fault argument None file = argument_refusal fault (argument_bytes argument)
given_refusal fault argument (Some path) file = option_map Wire (fault file)

-- what a record is refused as: its first line that is none
abbrev pub line_refusal : {S : Type 0} → Result S ℕ → Option Failure
line_refusal (Ok state) = None
line_refusal (Err number) = Some (Line number)

-- what the task's argument is refused as, or its file of these bytes
abbrev pub refusal_of : Task → List ℕ → Option Failure
refusal_of (task.Ack argument) file =
    given_refusal (message_fault 44) (string_bytes argument) (file_named (string_bytes argument)) file
refusal_of (task.Show kind argument) file =
    given_refusal (shown_fault kind) (string_bytes argument) (file_named (string_bytes argument)) file
refusal_of (task.Replay path telling rules) file = replay_refusal file
refusal_of (task.Judge path) file = line_refusal (record_in file)
refusal_of (task.Explain path told) file = line_refusal (record_in file)
refusal_of (task.Draw path) file = draw_refusal file
refusal_of (task.Capture path side form told) file = line_refusal (capture_in file)
refusal_of task.Version file = None

-- It is refused whatever bytes its reader may have.
abbrev pub IsRefused : Task → Option (List ℕ) → Type 0
IsRefused asked known = (file : List ℕ) → MayHave known file → IsSome (refusal_of asked file)

-- What may end a task that reads a file: it is refused as this, or there was no memory, or a read failed.
abbrev pub MayEndReading : Option Failure → Failure → Type 0
MayEndReading refusal failure = (failure ≡ Memory) ⊎ FailsReading failure ⊎ (refusal ≡ Some failure)

-- What may end a task with an argument, by the file that this names.
abbrev pub MayEndBy : (List ℕ → Option WireFault) → List ℕ → Option (List ℕ) → List ℕ → Failure → Type 0
MayEndBy fault argument None file failure =
    (failure ≡ Memory) ⊎ (argument_refusal fault (argument_bytes argument) ≡ Some failure)
MayEndBy fault argument (Some path) file failure = MayEndReading (option_map Wire (fault file)) failure

abbrev pub MayEndGiven : (List ℕ → Option WireFault) → List ℕ → List ℕ → Failure → Type 0
MayEndGiven fault argument file failure = MayEndBy fault argument (file_named argument) file failure

-- What may end a judging: a record may have more lines, too, than there are numbers.
abbrev pub MayEndJudging : List ℕ → Failure → Type 0
MayEndJudging file failure = MayEndReading (line_refusal (record_in file)) failure
    ⊎ ((failure ≡ Lines) × (2 ^ 64 ≤ length file + 2))

-- What may end a task whose file has these bytes.
abbrev pub MayEnd : Task → List ℕ → Failure → Type 0
MayEnd (task.Ack argument) file failure = MayEndGiven (message_fault 44) (string_bytes argument) file failure
MayEnd (task.Show kind argument) file failure = MayEndGiven (shown_fault kind) (string_bytes argument) file failure
MayEnd (task.Replay path telling rules) file failure = MayEndReading (replay_refusal file) failure
MayEnd (task.Judge path) file failure = MayEndJudging file failure
MayEnd (task.Explain path told) file failure = MayEndReading (line_refusal (record_in file)) failure
MayEnd (task.Draw path) file failure = MayEndReading (draw_refusal file) failure
MayEnd (task.Capture path side form told) file failure = MayEndReading (line_refusal (capture_in file)) failure
MayEnd task.Version file failure = failure ≡ Memory

-- a writer whose bytes are known has got a beginning of a text
abbrev pub Begins : Option (List ℕ) → Option (List ℕ) → List ℕ → Type 0
Begins old new text = (part : List ℕ) × (rest : List ℕ) × (text ≡ part ++ rest) × Appends old new part

-- a beginning of a text was written, and all of it where no write failed
abbrev pub Puts : {T E : Type 0} → Option (List ℕ) → Option (List ℕ) → List ℕ → Result T E → Type 0
Puts old new text answer = MatchResult answer (λ _. Appends old new text) (λ _. Begins old new text)

abbrev pub is_lines : Form → Bool
is_lines form.Lines = true
is_lines form.Json = false

-- whether what it prints is written as it is told
abbrev pub is_replay : Task → Bool
is_replay (task.Replay path telling rules) = is_lines telling.form
is_replay asked = false

-- why a task stops in the middle of its text: a write failed, or there was no memory for the rest of a record
abbrev pub MayStop : Bool → Failure → Type 0
MayStop is_told failure = (failure ≡ Output) ⊎ ((failure ≡ Memory) × (is_told ≡ true))

-- A task that ends with this failure: where it stopped in the middle of its text nothing was refused, and a beginning of what the
-- task prints was written; else nothing was.
abbrev pub EndsWith : Task → List ℕ → Option (List ℕ) → Option (List ℕ) → Failure → Type 0
EndsWith asked file old new failure =
    (MayStop (is_replay asked) failure × (refusal_of asked file ≡ None)
    × (text : List ℕ) × (status : ℕ) × IsTextOf asked file text status × Begins old new text)
    ⊎ (Keeps old new × MayEnd asked file failure)

-- a failure as it is told
abbrev pub failure_text : Failure → List ℕ
failure_text Hex = codes "fault hex"
failure_text (Wire fault) = codes "fault " ++ fault_text fault
failure_text (File fault) = codes "fault file"
failure_text Lines = codes "fault file"
failure_text (Line number) = codes "fault line " ++ decimal number
failure_text (Run run.BadSetup) = codes "fault run 1 BadSetup"
failure_text (Run run.TooMany) = codes "fault run 2 TooMany"
failure_text (Run run.Memory) = codes "fault memory"
failure_text Picture = codes "fault picture TooMany"
failure_text Memory = codes "fault memory"
failure_text Output = codes "fault output"

abbrev pub failure_line : Failure → List ℕ
failure_line failure = failure_text failure ++ 10 ∷ []

-- what is told after the line of a failure: a second line, or nothing
abbrev pub second_of : Refusal → List ℕ
second_of refusal = unwrap_or (option_map (λ line. string_bytes line) refusal.second) []

-- How a task ends with status 1: it prints what tells so, as that a record is malformed; or it has a failure, whose line is told
-- on the other stream, and what more is said is told after that; or a beginning of this.
abbrev pub EndsOf : Task → List ℕ → Option (List ℕ) → Option (List ℕ) → Option (List ℕ) → Option (List ℕ) → Type 0
EndsOf asked file old new faults told =
    (PrintsOf asked file old new 1 × Keeps faults told)
    ⊎ ((failure : Failure) × (second : List ℕ) × EndsWith asked file old new failure
    × Begins faults told (failure_line failure ++ second))

-- and so where its file has bytes that its reader may have
abbrev pub Ends : Task → Option (List ℕ) → Option (List ℕ) → Option (List ℕ) → Option (List ℕ) → Option (List ℕ) → Type 0
Ends asked known old new faults told = OfBytes known (λ file. EndsOf asked file old new faults told)
