-- A client knows which of its opens last, by what its manager tells.
use Rattle.std.specs.Prelude.{◌≡◌, ◌⊎◌, true, List}
use Rattle.lease_laws.specs.server.Durable.{WasDurable}
use Rattle.lease_laws.specs.server.Laws.{Among}
use Rattle.lease_model.specs.messages.Replies.{CreateAnswer}
use Rattle.lease_model.specs.server.State.{Open}
use Rattle.manager_model.specs.Decisions.{Decision}
use Rattle.manager_model.specs.Hosting.{Coming}
use Rattle.lease_manager.specs.Calls.{handled_by, untagged}
use Rattle.lease_manager.specs.Table.{Table, manager_of, server_of}

-- its create is answered so, under whatever tag
pub record IsAnsweredDurable (one : Open) (told : List Decision) : Type 0 where
  pub answer : CreateAnswer
  pub is_durable : answer.durable ≡ true
  pub is_told : Among (Decision.Opened one.client 0 one.file_id answer) (untagged told)

-- An open is durable after a call only where it was before, or the answer to its create says so.
abbrev pub DurableIsAnswered : Table → Type 0
DurableIsAnswered table = (coming : Coming) (one : Open)
    → Among one (handled_by (manager_of table) coming).manager.server.opens → one.durable ≡ true
    → WasDurable (server_of table) one ⊎ IsAnsweredDurable one (handled_by (manager_of table) coming).told
