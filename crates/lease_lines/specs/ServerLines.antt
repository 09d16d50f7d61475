-- The lines that a server is given: a row for each kind.
use Rattle.std.specs.Prelude.{ℕ, List, [], ◌∷◌, codes, Option}
use Rattle.lease_model.specs.{messages.FromBytes.request_of, server.Calls.Call, server.Naming.key_of}
use Rattle.lease_texts.specs.Complaints.{Table, table}
use Rattle.lease_texts.specs.{Kinds.Kind, Kinds.kind, Lines.told_in, declared.kinds.Field.Field}
use Rattle.lease_lines.specs.declared.server_lines.{ServerLine.ServerLine, ServerCall.ServerCall, Query.Query}

-- the call of the rules
abbrev pub call_of : ServerCall → Call
call_of (ServerCall.Join client) = Call.Join client.0
call_of (ServerCall.Cut client) = Call.Cut client.0
call_of (ServerCall.Expire client key) = Call.Expire (key_of client.0 key.0)
call_of (ServerCall.Scavenge fid) = Call.Scavenge fid.0
call_of (ServerCall.Receive client request) = Call.Receive client.0 (request_of request)

abbrev pub server_kinds : List (Kind ServerLine)
server_kinds =
    kind (codes "rules") (Field.Rules ∷ []) ServerLine.Rules
    ∷ kind (codes "file") (Field.Content ∷ []) ServerLine.File
    ∷ kind (codes "join") (Field.Client ∷ []) (λ client. ServerLine.Call (ServerCall.Join client))
    ∷ kind (codes "cut") (Field.Client ∷ []) (λ client. ServerLine.Call (ServerCall.Cut client))
    ∷ kind (codes "expire") (Field.Client ∷ Field.Key ∷ []) (λ client key. ServerLine.Call (ServerCall.Expire client key))
    ∷ kind (codes "scavenge") (Field.FileId ∷ []) (λ fid. ServerLine.Call (ServerCall.Scavenge fid))
    ∷ kind (codes "receive") (Field.Client ∷ Field.Request ∷ [])
    (λ client asked. ServerLine.Call (ServerCall.Receive client asked))
    ∷ kind (codes "breaking") (Field.Client ∷ Field.Key ∷ []) (λ client key. ServerLine.Query (Query.Breaking client key))
    ∷ kind (codes "kept") (Field.Client ∷ Field.File ∷ []) (λ client file. ServerLine.Query (Query.Kept client file))
    ∷ kind (codes "content") (Field.File ∷ []) (λ file. ServerLine.Query (Query.Content file))
    ∷ []

abbrev pub server_table : Table
server_table = table (codes "a kind of line") server_kinds

unfoldable pub server_line_in : List ℕ → Option ServerLine
server_line_in text = told_in server_kinds text

-- where lines of a kind stand, as it is said of one that may not stand where it does; calls and questions may everywhere
abbrev pub server_place : ServerLine → List ℕ
server_place (ServerLine.Rules rules) = codes "rules stand before all other lines"
server_place other = codes "at most 255 files stand before the first call"
