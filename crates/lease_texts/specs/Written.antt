-- What the code writes into fields as the definitions see it.
use Rattle.std.specs.Prelude.{ℕ, List, [], ◌∷◌}
use Rattle.lease_texts.specs.{Kinds.Spoken, Kinds.say, Kinds.word_for, Replies.plain, Statuses.known, declared.kinds.Field.Field}
use Rattle.lease_texts.specs.Requests.{plain_text, request_said, spaced}
use Rattle.lease_texts.specs.{Lines.words_for, Replies.reply_said, declared.said.Said.Said}
use Rattle.std.specs.List.{flat_map}

abbrev pub spoken_of : Said → Spoken
spoken_of (Said.Client client) = say Field.Client client
spoken_of (Said.File file) = say Field.File file
spoken_of (Said.FileId fid) = say Field.FileId fid
spoken_of (Said.Number number) = say Field.Number number
spoken_of (Said.Offset offset) = say Field.Offset offset
spoken_of (Said.Bytes bytes) = say Field.Bytes bytes.now
spoken_of (Said.Content bytes) = say Field.Content bytes.now
spoken_of (Said.State state) = say Field.State state
spoken_of (Said.Access access) = say Field.Access access
spoken_of (Said.Share share) = say Field.Share share
spoken_of (Said.Rules rules) = say Field.Rules rules
spoken_of (Said.Way buffered) = say Field.Way buffered
spoken_of (Said.Outcome outcome) = say Field.Outcome outcome
spoken_of (Said.Guid guid) = say Field.Guid guid.now
spoken_of (Said.Message message) = say Field.Message message.now
spoken_of (Said.Durable durable) = say Field.Durable durable
spoken_of (Said.Key key) = say Field.Key key
spoken_of (Said.Notification message) = say Field.Notification message.now
spoken_of (Said.Status status) = say Field.Status (known status)
spoken_of (Said.Request asked) = say Field.Request asked.now
spoken_of (Said.Reply told) = say Field.Reply (plain told.now)

-- the word of a field that takes one, and the text of any
abbrev pub said_word : Said → List ℕ
said_word (Said.Durable durable) = []
said_word (Said.Request asked) = []
said_word (Said.Reply told) = []
said_word one = word_for (spoken_of one).field (spoken_of one).value

abbrev pub said_text : Said → List ℕ
said_text (Said.Durable durable) = spaced (words_for Field.Durable durable)
said_text (Said.Request asked) = plain_text (request_said asked.now)
said_text (Said.Reply told) = plain_text (reply_said told.now)
said_text one = 32 ∷ said_word one

abbrev pub words_behind : List Said → List ℕ
words_behind said = flat_map (λ one. 32 ∷ said_word one) said

abbrev pub texts_behind : List Said → List ℕ
texts_behind said = flat_map said_text said
