-- A record with the messages that it speaks of: before each `sent` and each `took` a comment line with what is in the message.
use Rattle.std.specs.Prelude.{ℕ, ◌++◌, List, [], ◌∷◌, codes, drop}
use Rattle.lease_facts.specs.declared.fact.Fact.{Fact}
use Rattle.lease_facts.specs.declared.fact.Fact.TheVariants as fact
use Rattle.lease_state.specs.declared.reply.Reply.{Reply}
use Rattle.lease_state.specs.declared.number.ClientNo.{ClientNo}
use Rattle.lease_texts.specs.Kinds.{line, say}
use Rattle.lease_texts.specs.Lines.{line_text}
use Rattle.lease_texts.specs.Records.{fact_line}
use Rattle.lease_texts.specs.Replies.{plain}
use Rattle.lease_texts.specs.declared.kinds.Field.TheVariants as field

-- the line of the first of these messages, which begins with a sign that it is no fact
abbrev pub message_line : List ℕ → ClientNo → List Reply → List ℕ
message_line begin client [] = []
message_line begin client (message ∷ messages) =
    line_text (line begin (say field.Client client ∷ say field.Reply (plain message) ∷ []))

-- the line of the message that a fact speaks of
unfoldable pub message_before : Fact → List Reply → List ℕ
message_before (fact.Sent client) messages = message_line (codes "# sent") client messages
message_before (fact.Took client) messages = message_line (codes "# took") client messages
message_before _ messages = []

-- the messages of the facts that follow
unfoldable pub messages_behind : Fact → List Reply → List Reply
messages_behind (fact.Sent client) messages = drop 1 messages
messages_behind (fact.Took client) messages = drop 1 messages
messages_behind _ messages = messages

-- the lines of a record, each message before its fact
unfoldable pub record_with_messages : List Fact → List Reply → List ℕ
record_with_messages [] messages = []
record_with_messages (fact ∷ facts) messages =
    message_before fact messages ++ (fact_line fact ++ record_with_messages facts (messages_behind fact messages))
