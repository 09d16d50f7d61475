-- An open is durable only where the answer to its create is told so.
use Rattle.lease_laws.proofs.Words.{◌≡◌, Among, IsToldDurable, List, Open, Out, Reply, Server, Some, ⊎_elim, called, inl, inr}
use Rattle.lease_laws.proofs.Words.{refl}
use Rattle.lease_laws.proofs.Words.{subst, sym}
use Rattle.lease_laws.proofs.server.Durable.{durable-told}
use Rattle.manager_model.specs.Decisions.{Decision, told_of}
use Rattle.manager_model.specs.Hosting.{call_of}
use Rattle.lease_manager.specs.Calls.{handled_by, untagged}
use Rattle.lease_manager.specs.Durable.{DurableIsAnswered, IsAnsweredDurable}
use Rattle.lease_manager.specs.Table.{Table, manager_of, server_of}
use Rattle.lease_manager.proofs.follows.Breaking.{among_told}
use Rattle.lease_manager.proofs.follows.Calls.{managers_are_servers}

-- what is sent so is told so
answered_so : (one : Open) (outs : List Out) (told : List Decision) → untagged told ≡ told_of 0 outs → IsToldDurable one outs
    → IsAnsweredDurable one told
answered_so one outs told same sent = record {
  answer = sent.answer;
  is_durable = sent.is_durable;
  is_told = subst (Among (Decision.Opened one.client 0 one.file_id sent.answer)) (sym same)
      (among_told (Out.Sent one.client (Reply.Created one.file one.file_id (Some sent.answer))) outs
      (Decision.Opened one.client 0 one.file_id sent.answer) refl sent.is_sent);
}

pub durable_answered : (table : Table) → DurableIsAnswered table
durable_answered table = λ coming one there durable.
    let call = call_of (manager_of table) coming in
    let goes = managers_are_servers (manager_of table) coming (λ file. refl) in
    ⊎_elim (λ was. inl was)
    (λ sent. inr (answered_so one (called (server_of table) call).outs (handled_by (manager_of table) coming).told goes.told
    sent))
    (durable-told (server_of table) call one (subst (λ (s : Server). Among one s.opens) goes.server there) durable)
