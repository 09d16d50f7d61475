-- Requests in a client's name, after the client: the word of what is asked, and its fields.
use Rattle.std.specs.Prelude.{ℕ, ◌++◌, List, [], ◌∷◌, codes, map}
use Rattle.lease_texts.specs.Kinds.{Kind, Line, Taking, Words, by_name, kind, line, say, word_for, word_read}
use Rattle.{lease_texts.specs.declared.kinds.Field.Field, lease_state.specs.declared.request.Request.Request}

abbrev pub request_kinds : List (Kind Request)
request_kinds =
    kind (codes "create") (Field.File ∷ Field.Access ∷ Field.Share ∷ Field.Bytes ∷ []) Request.Create
    ∷ kind (codes "read") (Field.FileId ∷ []) Request.Read
    ∷ kind (codes "close") (Field.FileId ∷ []) Request.Close
    ∷ kind (codes "write") (Field.FileId ∷ Field.Number ∷ Field.Offset ∷ Field.Bytes ∷ [])
    (λ fid number offset bytes. Request.Write fid number (record { offset = offset; bytes = bytes }))
    ∷ kind (codes "ack") (Field.Message ∷ []) Request.Ack
    ∷ []

abbrev pub request_in : Taking Request
request_in words = by_name word_read request_kinds words

abbrev pub request_said : Request → Line
request_said (Request.Create file access share contexts) =
    line (codes "create") (say Field.File file ∷ say Field.Access access ∷ say Field.Share share ∷ say Field.Bytes contexts ∷ [])
request_said (Request.Read fid) = line (codes "read") (say Field.FileId fid ∷ [])
request_said (Request.Close fid) = line (codes "close") (say Field.FileId fid ∷ [])
request_said (Request.Write fid number patch) = line (codes "write")
    (say Field.FileId fid ∷ say Field.Number number ∷ say Field.Offset patch.offset ∷ say Field.Bytes patch.bytes ∷ [])
request_said (Request.Ack message) = line (codes "ack") (say Field.Message message ∷ [])

-- words, each behind a space
abbrev pub spaced : Words → List ℕ
spaced [] = []
spaced (word ∷ words) = 32 ∷ word ++ spaced words

-- the words of a line whose fields are written as one word each, and the text of them
abbrev pub plain_words : Line → Words
plain_words said = said.name ∷ map (λ one. word_for one.field one.value) said.spoken

unfoldable pub plain_text : Line → List ℕ
plain_text said = spaced (plain_words said)
