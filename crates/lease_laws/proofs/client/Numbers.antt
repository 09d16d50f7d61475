-- The unanswered writes of a client have their own numbers, and every call keeps it so.
use Rattle.lease_laws.proofs.Words.{◌++◌, ◌+◌, ◌∙◌, ◌∷◌, ◌≡◌, Asked, Bool, Client, ClientCall, Entry, HaveOwnNumbers, List}
use Rattle.std.proofs.Common.{arith}
use Rattle.lease_laws.proofs.Words.{LiveEntry, Option, Pending, Phase, Turn, ℕ, [], ap, append-nil}
use Rattle.lease_laws.proofs.Words.{append_assoc, client_called, connect_turn}
use Rattle.lease_laws.proofs.Words.{false, first_belief, gives_up, if◌then◌else◌, lease_key, meet}
use Rattle.lease_laws.proofs.Words.{new_client, next_write, notice_turn}
use Rattle.lease_laws.proofs.Words.{phase_with, promoted_belief, put, refl}
use Rattle.lease_laws.proofs.Words.{sent_without, subst, sym, true, turned, unanswered_in, unsent_in, without_open}
use Rattle.lease_laws.proofs.client.Thin.{IsThinner, thin_same, thin_equal, thin_none, thin_then, thin_after, thin_behind}
use Rattle.lease_laws.proofs.client.Thin.{thin_without, thin_filter, thin_table, grown_table, put_at, put_same, put_other}
use Rattle.lease_laws.proofs.client.Words.{HasSoundEntries, sound_as}
use Rattle.lease_laws.proofs.client.cases.Commands.{HasCommands, any_command, sent_of}
use Rattle.lease_laws.proofs.client.cases.Links.{HasNotices, any_notice}
use Rattle.lease_laws.proofs.client.cases.Replies.{HasTakes, any_reply}
use Rattle.lease_laws.proofs.client.cases.Turns.{by_turn}

-- ---- one step

-- the writes of a client have their own numbers
abbrev pub Numbers : Client → Type 0
Numbers client = HaveOwnNumbers client.last_number (λ file. unanswered_in (client.entries file))

-- a turn after which some of an entry's writes are gone
turned_own : (client : Client) (file : ℕ) (phase : Phase) (turn : Turn) → Numbers client
    → (client.entries file).phase ≡ phase → IsThinner (unanswered_in turn.entry) (sent_of client file ++ unsent_in phase)
    → Numbers (turned client file turn).client
turned_own client file phase turn own is thin = by_turn (λ step. Numbers step.client) client file turn
    (thin_table client.last_number (λ f. unanswered_in (client.entries f))
    (λ f. unanswered_in (put client.entries file turn.entry f))
    (put_at (λ f e. IsThinner (unanswered_in e) (unanswered_in (client.entries f))) client.entries file turn.entry
    (subst (λ p. IsThinner (unanswered_in turn.entry) (sent_of client file ++ unsent_in p)) (sym is) thin)
    (λ f. thin_same (unanswered_in (client.entries f)))) own)

-- one after which they are what they were
same_own : (client : Client) (file : ℕ) (phase : Phase) (turn : Turn) → Numbers client
    → (client.entries file).phase ≡ phase → unanswered_in turn.entry ≡ sent_of client file ++ unsent_in phase
    → Numbers (turned client file turn).client
same_own client file phase turn own is same = turned_own client file phase turn own is
    (thin_equal (unanswered_in turn.entry) (sent_of client file ++ unsent_in phase) same)

-- a new write, behind the others of its file
wrote_own : (client : Client) (file : ℕ) (live : LiveEntry) (entry : Entry) (write : Pending) → Numbers client
    → (client.entries file).phase ≡ Phase.Live live → write.number ≡ client.last_number + 1
    → unanswered_in entry ≡ (sent_of client file ++ live.unsent) ++ write ∷ []
    → Numbers (record client { entries = put client.entries file entry; last_number = client.last_number + 1 })
wrote_own client file live entry write own at is more =
    grown_table client.last_number file write (λ f. unanswered_in (client.entries f))
    (λ f. unanswered_in (put client.entries file entry f)) is
    (ap (λ (e : Entry). unanswered_in e) (put_same client.entries file entry) ∙ more
    ∙ ap (λ p. (sent_of client file ++ unsent_in p) ++ write ∷ []) (sym at))
    (λ f ne. ap (λ (e : Entry). unanswered_in e) (put_other client.entries file entry f ne)) own

-- the unsent writes are given up
sent_left : (sent unsent : List Pending) → IsThinner (sent ++ []) (sent ++ unsent)
sent_left sent unsent = thin_after sent [] unsent (thin_none unsent)

-- ---- commands

commands_own : (client : Client) → HasSoundEntries client → Numbers client → HasCommands client (λ step. Numbers step.client)
commands_own client sound own = record {
  refused = λ refusal. own;
  opening = λ file terms is on. same_own client file Phase.Closed _ own is.is_so refl;
  added = λ file live is. same_own client file (Phase.Live live) _ own is.is_so refl;
  asked = λ file live terms is idle some. same_own client file (Phase.Live live) _ own is.is_so refl;
  anew = λ file live terms is idle none. same_own client file (Phase.Live live) _ own is.is_so
      (append-nil (sent_of client file ++ live.unsent));
  fewer = λ file live is more. same_own client file (Phase.Live live) _ own is.is_so refl;
  parked = λ file live is idle done stays. same_own client file (Phase.Live live) _ own is.is_so refl;
  closed = λ file live is idle done goes. same_own client file (Phase.Live live) _ own is.is_so
      (append-nil (sent_of client file ++ live.unsent));
  cached = λ file live base is reads has. own;
  read = λ file live is idle. same_own client file (Phase.Live live) _ own is.is_so refl;
  buffered = λ file live patch is fits caches. wrote_own client file live _ (next_write client patch true) own
      is.is_so refl (sym (append_assoc (sent_of client file) live.unsent (next_write client patch true ∷ [])));
  written = λ file live patch is fits sends. wrote_own client file live _ (next_write client patch false) own
      is.is_so refl (behind (sent_of client file) (next_write client patch false) live.unsent
      ((sound_as client sound file (Phase.Live live) is.is_so).1.unsent_under_writes sends));
  flushed = λ file live is. same_own client file (Phase.Live live) _ own is.is_so
      (append-nil (sent_of client file ++ live.unsent));
}
  where
    behind : (sent : List Pending) (write : Pending) (unsent : List Pending) → unsent ≡ []
        → (sent ++ write ∷ []) ++ unsent ≡ (sent ++ unsent) ++ write ∷ []
    behind sent write unsent e = rw (e, append-nil (sent ++ write ∷ []), append-nil sent) refl

-- ---- messages

-- a lowered belief sends the unsent writes or leaves them
lowered_same : (gives : Bool) (sent unsent : List Pending)
    → (sent ++ (if gives then unsent else [])) ++ (if gives then [] else unsent) ≡ sent ++ unsent
lowered_same true sent unsent = append-nil (sent ++ unsent)
lowered_same false sent unsent = ap (λ (l : List Pending). l ++ unsent) (append-nil sent)

-- what was kept is unsent again, or given up
again_thin : (writes : Bool) (sent kept : List Pending) → IsThinner (sent ++ (if writes then kept else [])) (sent ++ kept)
again_thin true sent kept = thin_same (sent ++ kept)
again_thin false sent kept = sent_left sent kept

-- an entry without its open has its sent writes
gone_thin : (asking : Option Asked) (sent some unsent : List Pending)
    → IsThinner (some ++ []) (sent ++ unsent) → IsThinner (unanswered_in (without_open asking some)) (sent ++ unsent)
gone_thin asking sent some unsent thin = grind arith

-- a write that is done goes from the sent ones
done_thin : (number : ℕ) (write : Option Pending) (sent : List Pending) (phase : Phase)
    → IsThinner (sent_without number sent ++ unsent_in (phase_with write phase)) (sent ++ unsent_in phase)
done_thin number write sent (Phase.Live live) = thin_without number sent live.unsent
done_thin number write sent phase = thin_without number sent (unsent_in phase)

takes_own : (client : Client) → Numbers client → HasTakes client (λ reply step. Numbers step.client)
takes_own client own = record {
  passed = λ reply why. own;
  parked_closes = λ file notice live at is parked. same_own client file (Phase.Live live) _ own is
      (append-nil (sent_of client file ++ live.unsent));
  lowered = λ file notice live at is stays. same_own client file (Phase.Live live) _ own is
      (lowered_same (gives_up live.belief (meet live.belief notice.lowered)) (sent_of client file) live.unsent);
  opened = λ file file_id answer access share is. same_own client file (Phase.Opening access share) _ own is refl;
  reconnected = λ file file_id answer parted is. turned_own client file (Phase.Reconnecting parted) _ own is
      (again_thin (first_belief client file answer).write (sent_of client file) parted.writes);
  promoted = λ file file_id answer live asked is asks. turned_own client file (Phase.Live live) _ own is
      (again_thin (promoted_belief (lease_key client.guid file) live.belief answer.lease).write (sent_of client file)
      live.unsent);
  not_opened = λ file status access share is. same_own client file (Phase.Opening access share) _ own is refl;
  not_reconnected = λ file status parted is. turned_own client file (Phase.Reconnecting parted) _ own is
      (sent_left (sent_of client file) parted.writes);
  not_promoted = λ file status live asked is asks. same_own client file (Phase.Live live) _ own is refl;
  read = λ file file_id bytes live is id some. same_own client file (Phase.Live live) _ own is refl;
  read_closed = λ file file_id status live is id gone. turned_own client file (Phase.Live live) _ own is
      (gone_thin live.asking (sent_of client file) (sent_of client file) live.unsent
      (sent_left (sent_of client file) live.unsent));
  not_read = λ file file_id status live is id some. same_own client file (Phase.Live live) _ own is refl;
  written = λ file file_id number at known. turned_own client file (client.entries file).phase _ own refl
      (done_thin number _ (sent_of client file) (client.entries file).phase);
  write_closed = λ file file_id number status live at known is id gone. turned_own client file (Phase.Live live) _ own is
      (gone_thin live.asking (sent_of client file) (sent_without number (sent_of client file)) live.unsent
      (thin_then _ (sent_of client file ++ []) _ (thin_without number (sent_of client file) [])
      (sent_left (sent_of client file) live.unsent)));
  not_written = λ file file_id number status at known. turned_own client file (client.entries file).phase _ own refl
      (thin_without number (sent_of client file) (unsent_in (client.entries file).phase));
}

-- ---- connections

notices_thin : (sent : List Pending) → HasNotices sent (λ phase turn. IsThinner (unanswered_in turn.entry)
    (sent ++ unsent_in phase))
notices_thin sent = record {
  closed = thin_none (sent ++ []);
  opening = λ access share. thin_none (sent ++ []);
  ended = λ live. thin_none (sent ++ live.unsent);
  kept = λ live writes. thin_filter (λ write. write.buffered) (sent ++ live.unsent);
  bare = λ live none. thin_none (sent ++ live.unsent);
  offline = λ parted. thin_behind sent parted.writes;
  reconnecting = λ parted. thin_behind sent parted.writes;
}

connect_thin : (client : Client) (file : ℕ) (sent : List Pending) (phase : Phase)
    → IsThinner (unanswered_in (connect_turn client file sent phase).entry) (sent ++ unsent_in phase)
connect_thin client file sent phase = grind arith

-- ---- the laws

-- a new client has no writes
pub first_numbers : (guid : List ℕ) (files : ℕ) → Numbers (new_client guid files)
unfolding new_client
first_numbers guid files = record { rising = λ file. refl; apart = λ file other number ne h. refl }

-- and every call keeps their numbers apart
pub called_numbers : (client : Client) (call : ClientCall) → HasSoundEntries client → Numbers client
    → Numbers (client_called client call).client
called_numbers client (ClientCall.Commanded command) sound own = any_command client _ (commands_own client sound own) command
called_numbers client (ClientCall.Taken reply) sound own = any_reply client _ (takes_own client own) reply
called_numbers client ClientCall.Noticed sound own = thin_table client.last_number
    (λ f. unanswered_in (client.entries f))
    (λ f. unanswered_in (notice_turn (client.entries f).sent (client.entries f).phase).entry)
    (λ f. any_notice (client.entries f).sent _ (notices_thin (client.entries f).sent) (client.entries f).phase) own
called_numbers client ClientCall.Connected sound own = thin_table client.last_number
    (λ f. unanswered_in (client.entries f))
    (λ f. unanswered_in (connect_turn client f (client.entries f).sent (client.entries f).phase).entry)
    (λ f. connect_thin client f (client.entries f).sent (client.entries f).phase) own
