-- The lines that client machines are given: a row for each kind.
use Rattle.std.specs.Prelude.{ℕ, List, [], ◌∷◌, codes, Option, None}
use Rattle.lease_client.specs.Answers.{command_of}
use Rattle.lease_model.specs.{client.Calls.ClientCall, messages.FromBytes.reply_of}
use Rattle.lease_texts.specs.{Complaints.Table, Complaints.table, Lines.told_in, declared.kinds.Field.Field}
use Rattle.lease_lines.specs.declared.client_lines.{ClientLine.ClientLine, Asked.Asked}
use Rattle.lease_texts.specs.{Commands.Asking, Commands.command_kinds, Commands.told_as, Kinds.Kind, Kinds.kind}

-- the number of a status that was given by its number
abbrev pub other_of : Asked → Option ℕ
other_of (Asked.App command) = None
other_of Asked.Notice = None
other_of Asked.Connect = None
other_of (Asked.Take arrival) = arrival.other

-- the call of a client of the rules
abbrev pub call_of : Asked → ClientCall
call_of (Asked.App command) = ClientCall.Commanded (command_of command)
call_of Asked.Notice = ClientCall.Noticed
call_of Asked.Connect = ClientCall.Connected
call_of (Asked.Take arrival) = ClientCall.Taken (reply_of arrival.reply)

abbrev pub app : Asking → ClientLine
app asking = ClientLine.Asks asking.0 (Asked.App asking.1)

abbrev pub client_kinds : List (Kind ClientLine)
client_kinds =
    kind (codes "files") (Field.File ∷ []) (λ file. ClientLine.Files file.0)
    ∷ kind (codes "client") (Field.Guid ∷ []) ClientLine.Client
    ∷ kind (codes "connect") (Field.Client ∷ []) (λ client. ClientLine.Asks client Asked.Connect)
    ∷ kind (codes "notice") (Field.Client ∷ []) (λ client. ClientLine.Asks client Asked.Notice)
    ∷ kind (codes "take") (Field.Client ∷ Field.Reply ∷ []) (λ client arrival. ClientLine.Asks client (Asked.Take arrival))
    ∷ told_as app command_kinds

abbrev pub client_table : Table
client_table = table (codes "a kind of line") client_kinds

unfoldable pub client_line_in : List ℕ → Option ClientLine
client_line_in text = told_in client_kinds text

-- where lines of a kind stand, as it is said of one that may not stand where it does
abbrev pub client_place : ClientLine → List ℕ
client_place (ClientLine.Files count) = codes "the number of files is given once, before the first client"
client_place (ClientLine.Client guid) = codes "clients come after the number of files, at most 255, each with a GUID of its own"
client_place (ClientLine.Asks client asked) = codes "there is no client of this number"
