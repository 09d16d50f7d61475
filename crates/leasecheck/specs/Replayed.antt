-- What `leasecheck replay` prints, and why it refuses a schedule.
use Rattle.std.specs.Prelude.{◌≡◌, ◌⊎◌, ◌++◌, ℕ, Bool, true, false, map, if◌then◌else◌, List, [], ◌∷◌, codes, length}
use Rattle.std.specs.Prelude.{Option, Some, None, Result, Ok, Err, MatchResult}
use Rattle.std.specs.Fmt.{decimal}
use Rattle.lease_model.specs.records.Facts as model
use Rattle.lease_model.specs.messages.FromBytes.{reply_of}
use Rattle.lease_model.specs.messages.Replies as model_replies
use Rattle.lease_model.specs.world.World.{Setup}
use Rattle.lease_model.specs.world.Allowed.{is_allowed_setup, are_too_many}
use Rattle.lease_model.specs.world.Events.{recorded_under}
use Rattle.lease_facts.specs.Facts.{fact_of}
use Rattle.lease_facts.specs.Setups.{event_of}
use Rattle.lease_facts.specs.Verdicts.{rule_number}
use Rattle.lease_facts.specs.declared.fact.Fact.{Fact}
use Rattle.lease_world.specs.declared.setup.RunFault.{RunFault}
use Rattle.lease_world.specs.declared.setup.RunFault.TheVariants as run
use Rattle.lease_facts.specs.declared.verdict.Verdict.{Verdict}
use Rattle.lease_facts.specs.declared.verdict.Verdict.TheVariants as verdict
use Rattle.lease_state.specs.declared.reply.Reply.{Reply}
use Rattle.lease_texts.specs.Records.{record_text}
use Rattle.lease_texts.specs.Schedules.{Draft, schedule_in}
use Rattle.lease_state.specs.declared.rules.Rules.{Rules}
use Rattle.lease_texts.specs.Remarks.{safe_end}
use Rattle.lease_world.specs.world.Messages.{messages_told_under, speaking}
use Rattle.lease_texts.specs.Pieces.{lines_of}
use Rattle.lease_texts.specs.Tables.{Each}
use Rattle.text_laws.specs.Runs.{IsTyped}
use Rattle.lease_world.specs.declared.obstacle.Idle as code_idle
use Rattle.lease_world.specs.world.Obstacles.{Idle, idle_meant, idle_told_under}
use Rattle.leasecheck.specs.Idle.{event_lines, idle_line, record_told}
use Rattle.leasecheck.specs.Messages.{record_with_messages}
use Rattle.leasecheck.specs.declared.failure.Failure.{Failure}
use Rattle.leasecheck.specs.declared.failure.Failure.TheVariants as failure
use Rattle.leasecheck.specs.declared.refusal.Refusal.{Refusal}
use Rattle.leasecheck.specs.declared.tasks.Telling.{Telling}

abbrev pub setup_of : Draft → Setup
setup_of draft = record { files = draft.files; clients = draft.clients }

abbrev pub verdict_line : Verdict → List ℕ
verdict_line verdict.Safe = codes "safe" ++ 10 ∷ []
verdict_line (verdict.Unsafe place rule) =
    codes "unsafe " ++ decimal place ++ codes " " ++ decimal (rule_number rule) ++ 10 ∷ []
verdict_line (verdict.Malformed place) = codes "malformed " ++ decimal place ++ 10 ∷ []

-- the exit status of a verdict
abbrev pub status_of : Verdict → ℕ
status_of verdict.Safe = 0
status_of (verdict.Unsafe place rule) = 3
status_of (verdict.Malformed place) = 1

-- the record of the run that a schedule asks for, with a server of these rules
abbrev pub record_of : Rules → Draft → List model.Fact
record_of rules draft = recorded_under rules (setup_of draft) (map event_of draft.events)

-- the messages that this record speaks of
abbrev pub messages_of : Rules → Draft → List model_replies.Reply
messages_of rules draft = messages_told_under rules (setup_of draft) (map event_of draft.events)

-- the events of this run that did nothing
abbrev pub idle_of : Rules → Draft → List Idle
idle_of rules draft = idle_told_under rules (setup_of draft) (map event_of draft.events)

-- the messages of a run, of which there is one for each fact that speaks of one, where they are told
abbrev pub AreMessages : Bool → Rules → Draft → List Fact → List Reply → Type 0
AreMessages false rules draft facts messages = messages ≡ []
AreMessages true rules draft facts messages =
    (map reply_of messages ≡ messages_of rules draft) × (speaking (map fact_of facts) ≡ length messages)

-- The text tells the facts of a run: alone, with their messages, or with the events that did nothing, whose lines these are.
abbrev pub IsToldBy : (messages : Bool) (idle : Bool) → Rules → Draft → List ℕ → List Fact → List ℕ → Type 0
IsToldBy false false rules draft lines facts text = text ≡ record_text facts
IsToldBy true false rules draft lines facts text = (messages : List Reply) × AreMessages true rules draft facts messages
    × (text ≡ record_with_messages facts messages)
IsToldBy told true rules draft lines facts text = (messages : List Reply) × AreMessages told rules draft facts messages
    × (idle : List code_idle.Idle) × (map idle_meant idle ≡ idle_of rules draft)
    × (text ≡ record_told (idle_line lines) 0 facts messages idle)

-- the text is the record of the run of this draft, whose events stand in these lines; its facts have the numbers of their types
abbrev pub Tells : Telling → Rules → Draft → List ℕ → List ℕ → Type 0
Tells telling rules draft lines text = (facts : List Fact) × (map fact_of facts ≡ record_of rules draft) × Each IsTyped facts
    × IsToldBy telling.messages telling.idle rules draft lines facts text

-- the text is the record of the run that the schedule asks for, the rules where they are others, and that it is safe
abbrev pub Replays : Telling → Rules → List ℕ → List ℕ → Type 0
Replays telling rules schedule text =
    (draft : Draft) × (told : List ℕ) × (schedule_in schedule ≡ Ok draft)
    × Tells telling rules draft (event_lines 1 (lines_of schedule)) told × (text ≡ told ++ safe_end rules)

-- why there is no run, as the program tells it
abbrev pub run_failure : RunFault → Failure
run_failure run.Memory = failure.Memory
run_failure fault = failure.Run fault

abbrev pub run_refusal : Result Draft ℕ → Option Failure
run_refusal (Err number) = Some (failure.Line number)
run_refusal (Ok draft) =
    if is_allowed_setup (setup_of draft)
    then (if are_too_many (map event_of draft.events) then Some (failure.Run run.TooMany) else None)
    else Some (failure.Run run.BadSetup)

-- A run is had only where it isn't refused; else it is refused as that, or for want of memory.
abbrev pub RefusesRun : {X : Type 0} → Draft → Result X Refusal → Type 0
RefusesRun draft answer = MatchResult answer (λ _. run_refusal (Ok draft) ≡ None)
    (λ told. (told.failure ≡ failure.Memory) ⊎ (run_refusal (Ok draft) ≡ Some told.failure))

-- what a schedule is refused as
abbrev pub replay_refusal : List ℕ → Option Failure
replay_refusal schedule = run_refusal (schedule_in schedule)

-- It is answered only where it isn't refused, and refused as that, or for want of memory.
abbrev pub RefusesReplay : {X : Type 0} → List ℕ → Result X Refusal → Type 0
RefusesReplay schedule answer = MatchResult answer (λ _. replay_refusal schedule ≡ None)
    (λ told. (told.failure ≡ failure.Memory) ⊎ (replay_refusal schedule ≡ Some told.failure))
