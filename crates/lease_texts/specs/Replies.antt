-- Messages of the server as words: the word of its kind, and what the message holds.
use Rattle.std.specs.Prelude.{List, [], ◌∷◌, codes, None}
use Rattle.lease_texts.specs.Kinds.{Kind, Line, Taking, by_name, kind, line, say, word_read}
use Rattle.lease_texts.specs.declared.{replies.Arrival.Arrival, status.GivenStatus.GivenStatus, kinds.Field.Field}
use Rattle.{lease_state.specs.declared.reply.Reply.Reply, lease_texts.specs.Statuses.known}

-- a message without a status, and one with a status that was given
abbrev pub plain : Reply → Arrival
plain told = record { reply = told; other = None }

abbrev pub given : GivenStatus → Reply → Arrival
given status told = record { reply = told; other = status.other }

abbrev pub reply_kinds : List (Kind Arrival)
reply_kinds =
    kind (codes "created") (Field.File ∷ Field.FileId ∷ Field.Bytes ∷ [])
    (λ file fid contexts. plain (Reply.Created file fid contexts))
    ∷ kind (codes "createfailed") (Field.File ∷ Field.Status ∷ [])
    (λ file status. given status (Reply.CreateFailed file status.status))
    ∷ kind (codes "readdone") (Field.FileId ∷ Field.Bytes ∷ []) (λ fid bytes. plain (Reply.ReadDone fid bytes))
    ∷ kind (codes "readfailed") (Field.FileId ∷ Field.Status ∷ [])
    (λ fid status. given status (Reply.ReadFailed fid status.status))
    ∷ kind (codes "writedone") (Field.FileId ∷ Field.Number ∷ []) (λ fid number. plain (Reply.WriteDone fid number))
    ∷ kind (codes "writefailed") (Field.FileId ∷ Field.Number ∷ Field.Status ∷ [])
    (λ fid number status. given status (Reply.WriteFailed fid number status.status))
    ∷ kind (codes "closed") (Field.FileId ∷ []) (λ fid. plain (Reply.Closed fid))
    ∷ kind (codes "closefailed") (Field.FileId ∷ Field.Status ∷ [])
    (λ fid status. given status (Reply.CloseFailed fid status.status))
    ∷ kind (codes "break") (Field.Notification ∷ []) (λ message. plain (Reply.Break message))
    ∷ kind (codes "ackdone") (Field.Message ∷ []) (λ message. plain (Reply.AckDone message))
    ∷ kind (codes "ackfailed") (Field.Status ∷ []) (λ status. given status (Reply.AckFailed status.status))
    ∷ []

abbrev pub arrival_in : Taking Arrival
arrival_in words = by_name word_read reply_kinds words

abbrev pub reply_said : Reply → Line
reply_said (Reply.Created file fid contexts) =
    line (codes "created") (say Field.File file ∷ say Field.FileId fid ∷ say Field.Bytes contexts ∷ [])
reply_said (Reply.CreateFailed file status) =
    line (codes "createfailed") (say Field.File file ∷ say Field.Status (known status) ∷ [])
reply_said (Reply.ReadDone fid bytes) = line (codes "readdone") (say Field.FileId fid ∷ say Field.Bytes bytes ∷ [])
reply_said (Reply.ReadFailed fid status) =
    line (codes "readfailed") (say Field.FileId fid ∷ say Field.Status (known status) ∷ [])
reply_said (Reply.WriteDone fid number) = line (codes "writedone") (say Field.FileId fid ∷ say Field.Number number ∷ [])
reply_said (Reply.WriteFailed fid number status) =
    line (codes "writefailed") (say Field.FileId fid ∷ say Field.Number number ∷ say Field.Status (known status) ∷ [])
reply_said (Reply.Closed fid) = line (codes "closed") (say Field.FileId fid ∷ [])
reply_said (Reply.CloseFailed fid status) =
    line (codes "closefailed") (say Field.FileId fid ∷ say Field.Status (known status) ∷ [])
reply_said (Reply.Break message) = line (codes "break") (say Field.Notification message ∷ [])
reply_said (Reply.AckDone message) = line (codes "ackdone") (say Field.Message message ∷ [])
reply_said (Reply.AckFailed status) = line (codes "ackfailed") (say Field.Status (known status) ∷ [])
