-- A client knows which of its opens last.
use Rattle.std.specs.Prelude.{◌≡◌, ◌⊎◌, true, Some, List}
use Rattle.lease_laws.specs.server.Laws.{Among}
use Rattle.lease_model.specs.messages.Replies.{CreateAnswer, Out, Reply}
use Rattle.lease_model.specs.server.Calls.{Call, called}
use Rattle.lease_model.specs.server.State.{Open, Server}

-- it was there, and durable
pub record WasDurable (before : Server) (one : Open) : Type 0 where
  pub was : Open
  pub was_there : Among was before.opens
  pub same_id : one.file_id ≡ was.file_id
  pub same_file : one.file ≡ was.file
  pub same_client : one.client ≡ was.client
  pub was_durable : was.durable ≡ true

-- its client is sent that it is
pub record IsToldDurable (one : Open) (outs : List Out) : Type 0 where
  pub answer : CreateAnswer
  pub is_durable : answer.durable ≡ true
  pub is_sent : Among (Out.Sent one.client (Reply.Created one.file one.file_id (Some answer))) outs

-- An open is durable only where the answer to its create says so, whatever becomes of its lease.
abbrev pub DurableIsTold : Type 0
DurableIsTold = (server : Server) (call : Call) (one : Open) → Among one (called server call).server.opens
    → one.durable ≡ true → WasDurable server one ⊎ IsToldDurable one (called server call).outs
