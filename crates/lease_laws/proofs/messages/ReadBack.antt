-- What has bytes is read back.
use Rattle.lease_laws.proofs.Words.{◌∙◌, ◌≡◌, CreateAnswer, CreateAsk, Direction, FileRequest, HasAnswerBytes, HasAskBytes}
use Rattle.std.proofs.Common.{arith}
use Rattle.lease_laws.proofs.Words.{HasReplyBytes, HasRequestBytes, IsWritable, LeaseGiven, LeaseOf, None, Ok, Option, Reply}
use Rattle.lease_laws.proofs.Words.{Request, Some, ℕ, answer_bytes, answer_found, ap, ask_bytes, ask_found, key_and_state}
use Rattle.lease_laws.proofs.Words.{notice_view, refl, reply_of, reply_written, request_of, request_written, value_of}
use Rattle.lease_laws.proofs.Words.{view_of_answer, view_of_ask}
use Rattle.lease_laws.proofs.messages.FromBytesLemmas.{written_messages_found, written_contexts_found}

-- the lease of an ask is found as it was
ask_lease : (lease : Option LeaseOf) (durable : _) (again : Option ℕ)
    → ask_found (Ok (view_of_ask (record { lease = lease; durable = durable; reconnect = again })))
    ≡ Some (record { lease = lease; durable = durable; reconnect = again })
ask_lease lease durable again = grind arith

-- an ask that has bytes can be written
ask_writable : (lease : Option LeaseOf) (durable : _) (again : Option ℕ)
    → HasAskBytes (record { lease = lease; durable = durable; reconnect = again })
    → IsWritable Direction.Request (view_of_ask (record { lease = lease; durable = durable; reconnect = again }))
ask_writable lease durable again h = grind arith

-- so it is read back
ask_back : (ask : CreateAsk) → HasAskBytes ask → ask_found (value_of Direction.Request (ask_bytes (Some ask))) ≡ Some ask
ask_back ask h = written_contexts_found.0 (view_of_ask ask) (ask_writable ask.lease ask.durable ask.reconnect h)
    ∙ ask_lease ask.lease ask.durable ask.reconnect

-- the same for an answer
answer_lease : (lease : Option LeaseGiven) (durable : _)
    → answer_found (Ok (view_of_answer (record { lease = lease; durable = durable })))
    ≡ Some (record { lease = lease; durable = durable })
answer_lease lease durable = grind arith

answer_writable : (lease : Option LeaseGiven) (durable : _) → HasAnswerBytes (record { lease = lease; durable = durable })
    → IsWritable Direction.Reply (view_of_answer (record { lease = lease; durable = durable }))
answer_writable lease durable h = grind arith

answer_back : (answer : CreateAnswer) → HasAnswerBytes answer
    → answer_found (value_of Direction.Reply (answer_bytes (Some answer))) ≡ Some answer
answer_back answer h = written_contexts_found.1 (view_of_answer answer)
    (answer_writable answer.lease answer.durable h) ∙ answer_lease answer.lease answer.durable

pub requests_back : (request : Request) → HasRequestBytes request → request_of (request_written request) ≡ request
requests_back (Request.OnFile (FileRequest.Create file access share None)) h = absurd h
requests_back (Request.OnFile (FileRequest.Create file access share (Some ask))) h =
    ap (λ contexts. Request.OnFile (FileRequest.Create file access share contexts)) (ask_back ask h)
requests_back (Request.OnFile request) h = refl
requests_back (Request.Acknowledge None) h = absurd h
requests_back (Request.Acknowledge (Some lease)) h =
    ap (λ l. Request.Acknowledge l) (written_messages_found.0 (key_and_state lease) h)

pub replies_back : (reply : Reply) → HasReplyBytes reply → reply_of (reply_written reply) ≡ reply
replies_back (Reply.Created file file_id None) h = absurd h
replies_back (Reply.Created file file_id (Some answer)) h =
    ap (λ contexts. Reply.Created file file_id contexts) (answer_back answer h)
replies_back (Reply.Break None) h = absurd h
replies_back (Reply.Break (Some notice)) h = ap (λ n. Reply.Break n) (written_messages_found.1 (notice_view notice) h)
replies_back (Reply.AckDone None) h = absurd h
replies_back (Reply.AckDone (Some lease)) h = ap (λ l. Reply.AckDone l) (written_messages_found.0 (key_and_state lease) h)
replies_back reply h = refl
