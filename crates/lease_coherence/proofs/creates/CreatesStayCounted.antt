-- Every move keeps the count of the creates of each client that hasn't strayed.
use Rattle.lease_laws.proofs.Words.{◌==◌, ◌∷◌, ◌≡◌, Fact, FileRequest, None, Reply, Some, World, ℕ, break_notice, commanded}
use Rattle.lease_laws.proofs.Words.{granted_form_of, key_of, lease_after, refl, subst}
use Rattle.lease_laws.proofs.client.cases.Commands.{any_command}
use Rattle.lease_coherence.specs.Creates.{IsCountedAt, answer_of, create_of}
use Rattle.lease_coherence.specs.Names.{Each, IsNamedReply}
use Rattle.lease_coherence.proofs.creates.Counts.{refusal_answers}
use Rattle.lease_coherence.proofs.creates.Creates.{ack_off, command_at, connect_at, hold_at, replied_at, same_counts, take_at}
use Rattle.lease_coherence.proofs.creates.Creates.{told_at, unmoved_at}
use Rattle.lease_coherence.proofs.creates.Steps.{IsCountedStep, commands_count, none_answered}
use Rattle.lease_coherence.proofs.layers.Layers.{HasLayers}
use Rattle.lease_coherence.proofs.moves.Deeds.{changed_in, done_reply, granted_in, granted_reply, leased_in, reconnected_in}
use Rattle.lease_coherence.proofs.moves.Deeds.{reconnected_reply, told_to, without_opens}
use Rattle.lease_coherence.proofs.moves.Events.{timed_out}
use Rattle.lease_coherence.proofs.moves.Frames.{lease_put_rest}
use Rattle.lease_coherence.proofs.moves.Moves.{popped}
use Rattle.lease_coherence.proofs.moves.Own.{Always, IsLinkMoved, IsOwnMoved, IsToldOf, never_cut, never_noticed}
use Rattle.lease_coherence.proofs.names.NamedInRecord.{reply_later}
use Rattle.lease_coherence.proofs.records.Later.{later_fact}

told_answers : (off : World) (c file : ℕ) (request : FileRequest) (reply : Reply) → IsToldOf off c request reply
    → answer_of file reply ≡ create_of file request
told_answers off c file request reply (IsToldOf.Refused asked status may) = refusal_answers file asked status
told_answers off c file request reply (IsToldOf.Full other access share ask) = refl
told_answers off c file request reply (IsToldOf.Read file_id one found may) = refl

pub creates_move : IsOwnMoved HasLayers Always IsCountedAt
creates_move = record {
  unmoved = λ world new c k u a. unmoved_at world new c u a;
  told = λ world off c request reply k source is a. replied_at world off (told_to off c reply) c request reply k.all.ground source
      refl refl refl refl refl (λ file. told_answers off c file request reply is) a;
  granted = λ world off c file access share ask k source none on free a.
      let lease = lease_after off.server c file ask.lease in
      replied_at world off (granted_in off c file access share ask lease) c
      (FileRequest.Create file access share (Some ask)) (granted_reply off.server file ask lease) k.all.ground source refl
      refl refl
      (lease_put_rest off.server c ask.lease (lease_after off.server c file ask.lease)
      (λ s. s.held ≡ off.server.held) (λ l. refl)) refl (λ f. refl) a;
  reconnected = λ world off c file access share ask file_id k source again on waits a.
      replied_at world off (reconnected_in off c file ask file_id) c (FileRequest.Create file access share (Some ask))
      (reconnected_reply off.server c file ask file_id) k.all.ground source refl refl refl refl refl (λ f. refl) a;
  changed = λ world off c file_id number patch one k source found may a.
      replied_at world off (changed_in off c one.file file_id number patch) c
      (FileRequest.Write file_id number patch) (Reply.WriteDone file_id number) k.all.ground source refl refl refl refl refl
      (λ f. refl) a;
  closed = λ world off c file_id one k source found a.
      replied_at world off (told_to (without_opens off (λ other. other.file_id == file_id)) c (Reply.Closed file_id)) c
      (FileRequest.Close file_id) (Reply.Closed file_id) k.all.ground source refl refl refl refl refl
      (λ f. refl) a;
  ack_failed = λ world c given status k oldest why a. told_at world (told_to (popped world c) c (Reply.AckFailed status)) c
      (Reply.AckFailed status) refl refl (ack_off world c given oldest) refl refl (λ f. refl) a;
  ack_done = λ world c given lowered k oldest there breaks within a. told_at world
      (leased_in (popped world c) (key_of c given.key) (record { state = granted_form_of given.state; broken_to = None })
      (done_reply given)) c (done_reply given) refl refl (ack_off world c (Some given) oldest) refl refl (λ f. refl) a;
  hold = λ world file one k oldest may turn a. hold_at world file one oldest turn a;
  dropped = λ world c test k away a. same_counts world (without_opens world test) c refl refl (λ file. refl) a;
  lower = λ world key lowered k may light a. told_at world
      (leased_in world key (record { state = lowered; broken_to = None })
      (break_notice key (world.server.leases key).state lowered)) key.client
      (break_notice key (world.server.leases key).state lowered) refl refl (λ f. refl) refl refl
      (λ f. refl) a;
  begin = λ world key lowered k may heavy a. told_at world
      (leased_in world key (record { state = (world.server.leases key).state; broken_to = Some lowered })
      (break_notice key (world.server.leases key).state lowered)) key.client
      (break_notice key (world.server.leases key).state lowered) refl refl (λ f. refl) refl refl
      (λ f. refl) a;
  timer = λ world c file k on breaks a. same_counts world (timed_out world c file) c refl refl (λ f. refl) a;
  command = λ world c command k a. command_at world c (commanded (world.clients c) command)
      (any_command (world.clients c) (IsCountedStep (world.clients c) none_answered)
      (commands_count (world.clients c)) command) a;
  take = λ world c reply queue k first a. take_at world c reply queue k.all.ground first
      (reply_later c world.past (Fact.Took c ∷ world.past) (later_fact world.past (Fact.Took c)) reply
      (subst (Each (IsNamedReply c world.past)) first ((k.all.named c k.good).replies)).0) a;
}

pub creates_link : IsLinkMoved HasLayers IsCountedAt
creates_link = record {
  cut = λ world c v good up a on. absurd (never_cut world c on);
  connect = λ world c v good down a. connect_at world c v.ground down;
  notice = λ world c v good cut a on. absurd (never_noticed world c on);
}
