-- A server that is given lines.
use Rattle.std.specs.Prelude.{ℕ, ◌++◌, Bool, not, List, [], ◌∷◌, length, nat_lt, if◌then◌else◌, Option, Some, None}
use Rattle.lease_state.specs.{Rules.profile_rules, declared.rules.Rules.Rules}
use Rattle.lease_model.specs.server.{Naming.key_of, Progress.Progress, State.Server, State.new_server, State.new_server_under}
use Rattle.lease_texts.specs.{Complaints.complaint, Reading.is_passed_over}
use Rattle.lease_lines.specs.ClientTables.{Answered, Told, answered_as, quietly, unanswered}
use Rattle.lease_lines.specs.ServerAnswers.{out_lines, answer, done_word, yes_word, fid_words, bytes_words}
use Rattle.lease_lines.specs.ServerLines.{call_of, server_line_in, server_place, server_table}
use Rattle.lease_lines.specs.declared.server_lines.{Query.Query, ServerCall.ServerCall, ServerLine.ServerLine}
use Rattle.{std.specs.List.list_any, lease_model.specs.server.Calls.called, lease_model.specs.server.Calls.is_left_behind}
use Rattle.lease_model.specs.server.Queries as queries

-- the server's rules are told first, where they aren't the profile's, and then files; with the first other line the server begins
pub data Stage : Type 0 where
  Fresh : Stage
  Filling : (rules : Rules) (files : List (List ℕ)) → Stage
  Serving : (server : Server) → Stage

abbrev pub server_in : Stage → Server
server_in Stage.Fresh = new_server []
server_in (Stage.Filling rules files) = new_server_under rules files
server_in (Stage.Serving server) = server

-- rules before all else
abbrev pub with_rules : Stage → Rules → Option (Told Stage)
with_rules Stage.Fresh rules = quietly (Stage.Filling rules [])
with_rules stage rules = None

-- at most 255 files, all before the server begins
abbrev pub with_file : Stage → List ℕ → Option (Told Stage)
with_file Stage.Fresh content = quietly (Stage.Filling profile_rules (content ∷ []))
with_file (Stage.Filling rules files) content =
    if nat_lt (length files) 255 then quietly (Stage.Filling rules (files ++ content ∷ [])) else None
with_file (Stage.Serving server) content = None

-- a call of the server, and whether it applied
abbrev pub after_call : Bool → Progress → Told Stage
after_call applies after = record {
  state = Stage.Serving after.server;
  text = out_lines after.outs ++ answer (done_word applies);
}

-- whether a call changes anything: a client joins that isn't connected, one that is sends or is lost, a lease is breaking, or an
-- open waits for its client
abbrev pub applies : Server → ServerCall → Bool
applies server (ServerCall.Join client) = not (server.present client.0)
applies server (ServerCall.Cut client) = server.present client.0
applies server (ServerCall.Expire client key) = queries.breaking server (key_of client.0 key.0)
applies server (ServerCall.Scavenge fid) = list_any (is_left_behind fid.0) server.opens
applies server (ServerCall.Receive client request) = server.present client.0

abbrev pub found : Server → Query → List ℕ
found server (Query.Breaking client key) = yes_word (queries.breaking server (key_of client.0 key.0))
found server (Query.Kept client file) = fid_words (queries.kept server client.0 file.0)
found server (Query.Content file) = bytes_words (queries.content server file.0)

-- a question, which changes nothing
abbrev pub asked : Server → Query → Told Stage
asked server query = record { state = Stage.Serving server; text = answer (found server query) }

unfoldable pub line_told : Stage → ServerLine → Option (Told Stage)
line_told stage (ServerLine.Rules rules) = with_rules stage rules
line_told stage (ServerLine.File content) = with_file stage content
line_told stage (ServerLine.Call call) =
    Some (after_call (applies (server_in stage) call) (called (server_in stage) (call_of call)))
line_told stage (ServerLine.Query query) = Some (asked (server_in stage) query)

-- a line of this number comes
unfoldable pub server_answered : Stage → ℕ → List ℕ → Answered Stage
server_answered stage number text = if is_passed_over text then unanswered stage
    else answered_as line_told server_place stage number (server_line_in text) (complaint server_table text)
