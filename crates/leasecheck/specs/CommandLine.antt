-- Which words ask for what. By which words an argument is meant, and which words are refused, is said by clap's own definitions;
-- the command that they speak of stands here, and what is asked for by what they find.
use Rattle.std.specs.Prelude.{◌≡◌, ◌≢◌, ◌≤◌, ◌⊎◌, ⊤, ℕ, Bool, true, false, List, [], ◌∷◌, map, codes, bytes_eq, if◌then◌else◌}
use Rattle.std.specs.Prelude.{Option}
use Rattle.std.specs.Prelude.{Some, None, option_and_then, option_map, Result, MatchResult}
use Rattle.std.specs.Borrow.{Bor}
use Rattle.std.specs.Io.KnownBytes.{Appends}
use Rattle.std.specs.String.{string_bytes}
use Rattle.clap.specs.Words.{App, Row, Rule, Shape, Text, fault_of, first_of, kind_of, new_app, new_rule, subcommand_of}
use Rattle.clap.specs.Words.{subcommand_rows_of, with_rule, with_subcommand, IsAmong}
use Rattle.clap.specs.declared.builder.action.ArgAction.TheVariants.{SetTrue}
use Rattle.clap.specs.declared.builder.value_parser.ValueParser.{ValueParser}
use Rattle.clap.specs.declared.builder.value_parser.ValueParser.TheVariants as parser
use Rattle.clap.specs.declared.error.Error.{Error}
use Rattle.clap.specs.declared.error.kind.ErrorKind.{ErrorKind}
use Rattle.clap.specs.declared.error.kind.ErrorKind.TheVariants as error
use Rattle.clap.specs.declared.parser.matches.ArgMatches.{ArgMatches}
use Rattle.capture_texts.specs.declared.line.Side.{Side}
use Rattle.capture_texts.specs.declared.line.Side.TheVariants as side
use Rattle.lease_state.specs.Rules.{profile_rules}
use Rattle.lease_state.specs.declared.rules.Rules.{Rules}
use Rattle.lease_texts.specs.Fields.{rules_in}
use Rattle.leasecheck.specs.declared.tasks.Asked.{Asked}
use Rattle.leasecheck.specs.declared.tasks.Asked.TheVariants as asked
use Rattle.leasecheck.specs.declared.tasks.CaptureForm.{CaptureForm}
use Rattle.leasecheck.specs.declared.tasks.CaptureForm.TheVariants as form
use Rattle.leasecheck.specs.declared.tasks.Form.{Form}
use Rattle.leasecheck.specs.declared.tasks.Form.TheVariants as output
use Rattle.leasecheck.specs.declared.tasks.Kind.{Kind}
use Rattle.leasecheck.specs.declared.tasks.Kind.TheVariants as kind
use Rattle.leasecheck.specs.declared.tasks.Task.TheVariants as task
use Rattle.leasecheck.specs.declared.tasks.Telling.{Telling}
use Rattle.leasecheck.specs.declared.tasks.Usage.{Usage}
use Rattle.leasecheck.specs.declared.tasks.Usage.TheVariants as usage

-- ---- the command

-- an argument that has to be given
abbrev pub needed : Text → Rule
needed id = record (new_rule id) { required = true }

-- a flag, which has no value
abbrev pub flag : Text → Rule
flag name = record (new_rule name) { long = Some name; action = Some SetTrue }

abbrev pub kind_words : List Text
kind_words = codes "ask" ∷ codes "reply" ∷ codes "break" ∷ codes "ack" ∷ codes "response" ∷ []

abbrev pub rules_words : List Text
rules_words =
    codes "by-client,as-free" ∷ codes "by-client,whole" ∷ codes "by-key,as-free" ∷ codes "by-key,whole" ∷ []

abbrev pub side_words : List Text
side_words = codes "client" ∷ codes "server" ∷ []

-- it takes these words, and no other one
abbrev pub TakesWords : List Text → ValueParser → Type 0
TakesWords words taken = (names : Bor (List (Bor Text))) × (taken ≡ parser.Names names)
    × (map (λ name. name.now) names.now ≡ words)

-- what takes the kinds of `show`, the rules of `replay`, and the sides of `capture`
pub record Parsers : Type 0 where
  pub kinds : ValueParser
  pub rules : ValueParser
  pub sides : ValueParser
  pub take_kinds : TakesWords kind_words kinds
  pub take_rules : TakesWords rules_words rules
  pub take_sides : TakesWords side_words sides

abbrev pub kind_rule : ValueParser → Rule
kind_rule kinds = record (needed (codes "KIND")) { parser = Some kinds }

abbrev pub ack_app : App
ack_app = with_rule (new_app (codes "ack")) (needed (codes "HEX"))

abbrev pub show_app : ValueParser → App
show_app kinds = with_rule (with_rule (new_app (codes "show")) (kind_rule kinds)) (needed (codes "HEX"))

abbrev pub rules_rule : ValueParser → Rule
rules_rule rules = record (new_rule (codes "RULES")) { long = Some (codes "rules"); parser = Some rules }

abbrev pub replay_app_begun : App
replay_app_begun =
    with_rule (with_rule (with_rule (new_app (codes "replay")) (needed (codes "FILE"))) (flag (codes "messages"))) (flag (codes "explain"))

abbrev pub replay_app : ValueParser → App
replay_app rules = with_rule (with_rule replay_app_begun (flag (codes "json"))) (rules_rule rules)

abbrev pub judge_app : App
judge_app =
    with_rule (with_rule (with_rule (new_app (codes "judge")) (needed (codes "FILE"))) (flag (codes "explain"))) (flag (codes "json"))

abbrev pub draw_app : App
draw_app = with_rule (new_app (codes "draw")) (needed (codes "FILE"))

abbrev pub side_rule : ValueParser → Rule
side_rule sides = record (new_rule (codes "SIDE")) { long = Some (codes "at"); parser = Some sides }

abbrev pub capture_app : ValueParser → App
capture_app sides = with_rule
    (with_rule (with_rule (with_rule (new_app (codes "capture")) (needed (codes "FILE"))) (side_rule sides)) (flag (codes "record")))
    (flag (codes "json"))

-- a version, no command `help`, and a command has to be named
abbrev pub with_settings : Shape → Shape
with_settings shape = record shape { has_version = true; disable_help_subcommand = true; subcommand_required = true }

abbrev pub bare_app : App
bare_app = record (new_app (codes "leasecheck")) { top = with_settings (new_app (codes "leasecheck")).top }

abbrev pub with_commands : App → List App → App
with_commands app [] = app
with_commands app (command ∷ commands) = with_commands (with_subcommand app command.top) commands

abbrev pub leasecheck_app : Parsers → App
leasecheck_app parsers = with_commands bare_app
    (ack_app ∷ show_app parsers.kinds ∷ replay_app parsers.rules ∷ judge_app ∷ draw_app ∷ capture_app parsers.sides
    ∷ new_app (codes "client") ∷ new_app (codes "server") ∷ [])

-- ---- what is asked for

pub data Request : Type 0 where
  Ack : (argument : Text) → Request
  Show : (kind : Kind) (argument : Text) → Request
  Replay : (path : Text) (telling : Telling) (rules : Rules) → Request
  Judge : (path : Text) → Request
  Explain : (path : Text) (told : Form) → Request
  Draw : (path : Text) → Request
  Capture : (path : Text) (side : Side) (form : CaptureForm) (told : Form) → Request
  Version : Request
  Clients : Request
  Server : Request

abbrev pub request_of : Asked → Request
request_of (asked.Task (task.Ack argument)) = Ack (string_bytes argument)
request_of (asked.Task (task.Show kind argument)) = Show kind (string_bytes argument)
request_of (asked.Task (task.Replay path telling rules)) = Replay (string_bytes path) telling rules
request_of (asked.Task (task.Judge path)) = Judge (string_bytes path)
request_of (asked.Task (task.Explain path told)) = Explain (string_bytes path) told
request_of (asked.Task (task.Draw path)) = Draw (string_bytes path)
request_of (asked.Task (task.Capture path side form told)) = Capture (string_bytes path) side form told
request_of (asked.Task task.Version) = Version
request_of asked.Clients = Clients
request_of asked.Server = Server

abbrev pub kind_named : Text → Option Kind
kind_named name =
    if bytes_eq name (codes "ask") then Some kind.Ask
    else if bytes_eq name (codes "reply") then Some kind.Reply
    else if bytes_eq name (codes "break") then Some kind.Break
    else if bytes_eq name (codes "ack") then Some kind.Ack
    else if bytes_eq name (codes "response") then Some kind.Response
    else None

abbrev pub shown : Option Kind → Option Text → Option Request
shown (Some kind) argument = option_map (λ argument. Show kind argument) argument
shown None argument = None

-- the rules that a word stands for; the profile's where there is none
abbrev pub rules_asked : Option Text → Option Rules
rules_asked (Some name) = rules_in name
rules_asked None = Some profile_rules

abbrev pub replayed : Telling → Option Rules → Option Text → Option Request
replayed telling (Some rules) path = option_map (λ path. Replay path telling rules) path
replayed telling None path = None

-- whether a flag was given
abbrev pub is_given : Option Text → Bool
is_given (Some value) = bytes_eq value (codes "true")
is_given None = false

abbrev pub form_told : Bool → Form
form_told true = output.Json
form_told false = output.Lines

abbrev pub telling_of : Bool → Bool → Bool → Telling
telling_of messages explains json = record { messages = messages; idle = explains; form = form_told json }

-- as an object the verdict always has its reason
abbrev pub judged : Bool → Bool → Option Text → Option Request
judged explains json path =
    option_map (λ path. if json then Explain path output.Json else if explains then Explain path output.Lines else Judge path) path

-- the side that a word stands for; the server where there is none
abbrev pub side_named : Text → Option Side
side_named name =
    if bytes_eq name (codes "client") then Some side.Client
    else if bytes_eq name (codes "server") then Some side.Server
    else None

abbrev pub side_asked : Option Text → Option Side
side_asked (Some name) = side_named name
side_asked None = Some side.Server

abbrev pub form_of : Bool → CaptureForm
form_of true = form.Record
form_of false = form.Findings

abbrev pub captured : CaptureForm → Form → Option Side → Option Text → Option Request
captured form told (Some side) path = option_map (λ path. Capture path side form told) path
captured form told None path = None

-- by the name of a command and what was found of its arguments
unfoldable pub requested : Text → List Row → Option Request
requested name rows =
    if bytes_eq name (codes "ack") then option_map Ack (first_of (codes "HEX") rows)
    else if bytes_eq name (codes "show")
    then shown (option_and_then kind_named (first_of (codes "KIND") rows)) (first_of (codes "HEX") rows)
    else if bytes_eq name (codes "replay")
    then replayed
    (telling_of (is_given (first_of (codes "messages") rows)) (is_given (first_of (codes "explain") rows))
    (is_given (first_of (codes "json") rows)))
    (rules_asked (first_of (codes "RULES") rows)) (first_of (codes "FILE") rows)
    else if bytes_eq name (codes "judge")
    then judged (is_given (first_of (codes "explain") rows)) (is_given (first_of (codes "json") rows))
    (first_of (codes "FILE") rows)
    else if bytes_eq name (codes "draw") then option_map Draw (first_of (codes "FILE") rows)
    else if bytes_eq name (codes "capture")
    then captured (form_of (is_given (first_of (codes "record") rows))) (form_told (is_given (first_of (codes "json") rows)))
    (side_asked (first_of (codes "SIDE") rows)) (first_of (codes "FILE") rows)
    else if bytes_eq name (codes "client") then Some Clients
    else if bytes_eq name (codes "server") then Some Server
    else None

abbrev pub requested_by : Option (Text × List Row) → Option Request
requested_by found = option_and_then (λ command. requested command.0 command.1) found

-- ---- the words

-- the program's name and the words after it
abbrev pub all_words : List Text → List Text
all_words words = codes "leasecheck" ∷ words

-- an error of a kind that the command's definitions tell for the words, or want of memory
abbrev pub Errs : List Text → ErrorKind → Type 0
Errs words fault = (fault ≡ error.OutOfMemory)
    ⊎ ((parsers : Parsers) × IsAmong fault (fault_of (leasecheck_app parsers) words))

-- Words that the command takes, and what is found in them; or an error of a kind that its definitions tell for them.
abbrev pub Parses : List Text → Result ArgMatches Error → Type 0
Parses words answer = MatchResult answer
    (λ matches. (parsers : Parsers) × (fault_of (leasecheck_app parsers) words ≡ [])
    × (subcommand_rows_of matches ≡ subcommand_of (leasecheck_app parsers) words))
    (λ fault. Errs words (kind_of fault))

-- The words ask for this: for the version, or they have no fault and are read as it.
abbrev pub AsksFor : List Text → Request → Type 0
AsksFor words request = ((request ≡ Version)
    × (parsers : Parsers) × IsAmong error.DisplayVersion (fault_of (leasecheck_app parsers) words))
    ⊎ ((parsers : Parsers) × (fault_of (leasecheck_app parsers) words ≡ [])
    × (requested_by (subcommand_of (leasecheck_app parsers) words) ≡ Some request))

-- they have a fault of this kind
abbrev pub HaveFault : List Text → ErrorKind → Type 0
HaveFault words fault = (parsers : Parsers) × IsAmong fault (fault_of (leasecheck_app parsers) words)

-- They are refused: they have a fault, which asks neither for help nor for the version.
abbrev pub AreRefused : List Text → Type 0
AreRefused words =
    (fault : ErrorKind) × (fault ≢ error.DisplayHelp) × (fault ≢ error.DisplayVersion) × HaveFault words fault

-- Help is told where the words ask for it.
abbrev pub IsUsageOf : List Text → Usage → Type 0
IsUsageOf words (usage.Help text) = HaveFault words error.DisplayHelp
IsUsageOf words (usage.Refused text) = AreRefused words
IsUsageOf words usage.Memory = ⊤

-- what is told, and the exit status: help is told whole, or the status is 1
abbrev pub TellsUsage : Usage → Option (List ℕ) → Option (List ℕ) → ℕ → Type 0
TellsUsage (usage.Help text) old new status = (status ≤ 1) × (status ≡ 0 → Appends old new (string_bytes text))
TellsUsage (usage.Refused text) old new status = status ≡ 2
TellsUsage usage.Memory old new status = status ≡ 1
