-- The notes of a client name files that it knows, and writes that end within the limit.
use Rattle.lease_laws.proofs.Words.{◌++◌, ◌∙◌, ◌∷◌, ◌≡◌, Access, Among, Bool, Client, ClientCall, Entry, IsSoundClient, List}
use Rattle.lease_laws.proofs.Words.{LiveEntry, Note, Parted, Pending, Phase, Settlement, Share, State, Step, Turn, ℕ, [], ⊤}
use Rattle.lease_laws.proofs.Words.{all_turned, ap, belief, belief_of, believes_noted, client_called, connect_turn, false}
use Rattle.lease_laws.proofs.Words.{first_belief, flat_map, if◌then◌else◌, inl, inr, is_key_of, is_within_limit, knows_file}
use Rattle.lease_laws.proofs.Words.{lease_key, notice_turn, numbers_to, promoted_belief, put, refl, same_state, settled_as, sym}
use Rattle.lease_laws.proofs.Words.{true, turned}
use Rattle.lease_laws.proofs.client.Thin.{put_same}
use Rattle.lease_laws.proofs.client.cases.Commands.{HasCommands, any_command}
use Rattle.lease_laws.proofs.client.cases.Files.{found_known, numbers_known}
use Rattle.lease_laws.proofs.client.cases.Links.{HasNotices, any_notice}
use Rattle.lease_laws.proofs.client.cases.Replies.{HasTakes, any_reply}
use Rattle.lease_laws.proofs.client.cases.Turns.{by_turn}
use Rattle.lease_laws.proofs.server.Lists.{if_cases, not_false}

abbrev pub EachNote : (Note → Type 0) → List Note → Type 0
EachNote P [] = ⊤
EachNote P (note ∷ notes) = P note × EachNote P notes

pub notes_append : (P : Note → Type 0) (notes more : List Note) → EachNote P notes → EachNote P more → EachNote P (notes ++ more)
notes_append P [] more each others = others
notes_append P (note ∷ notes) more each others = (each.0, notes_append P notes more each.1 others)

-- of a step of the client that leads to `after`
abbrev pub IsFineNote : Client → Client → Note → Type 0
IsFineNote client after (Note.Settled number outcome) = ⊤
IsFineNote client after (Note.Wrote file number patch buffered) = (knows_file client file ≡ true) × (is_within_limit patch ≡ true)
IsFineNote client after (Note.Believes file state) = (knows_file client file ≡ true) × (state ≡ belief after file)
IsFineNote client after (Note.CachedRead file bytes) = knows_file client file ≡ true

-- a note that settles a write
abbrev pub IsSettling : Note → Type 0
IsSettling (Note.Settled number outcome) = ⊤
IsSettling note = ⊥

settling_fine : (client after : Client) (notes : List Note) → EachNote IsSettling notes → EachNote (IsFineNote client after) notes
settling_fine client after [] each = tt
settling_fine client after (Note.Settled number outcome ∷ notes) each = (tt, settling_fine client after notes each.1)
settling_fine client after (note ∷ notes) each = absurd each.0

pub settles : (outcome : Settlement) (writes : List Pending) → EachNote IsSettling (settled_as outcome writes)
settles outcome [] = tt
settles outcome (write ∷ writes) = (tt, settles outcome writes)

believed_fine : (client after : Client) (file : ℕ) (old new : State) → knows_file client file ≡ true
    → new ≡ belief after file → EachNote (IsFineNote client after) (believes_noted file old new)
believed_fine client after file old new known is = if_cases (EachNote (IsFineNote client after)) (same_state old new) []
    (Note.Believes file new ∷ []) (λ same. tt) (λ other. ((known, is), tt))

-- a turn that settles writes
turned_fine : (client : Client) (file : ℕ) (turn : Turn) → knows_file client file ≡ true → EachNote IsSettling turn.settled
    → EachNote (IsFineNote client (turned client file turn).client) (turned client file turn).notes
turned_fine client file turn known each =
    let after : Client = record client { entries = put client.entries file turn.entry } in
    by_turn (λ step. EachNote (IsFineNote client step.client) step.notes) client file turn
    (notes_append (IsFineNote client after) turn.settled _ (settling_fine client after turn.settled each)
    (believed_fine client after file (belief_of (client.entries file)) (belief_of turn.entry) known
    (ap belief_of (sym (put_same client.entries file turn.entry)))))

abbrev HasFineNotes : Client → Step → Type 0
HasFineNotes client step = EachNote (IsFineNote client step.client) step.notes

commands_fine : (client : Client) → HasCommands client (HasFineNotes client)
commands_fine client = record {
  refused = λ refusal. tt;
  opening = λ file terms is on. turned_fine client file _ is.known tt;
  added = λ file live is. turned_fine client file _ is.known tt;
  asked = λ file live terms is idle some. turned_fine client file _ is.known tt;
  anew = λ file live terms is idle none. turned_fine client file _ is.known tt;
  fewer = λ file live is more. turned_fine client file _ is.known tt;
  parked = λ file live is idle done stays. turned_fine client file _ is.known tt;
  closed = λ file live is idle done goes. turned_fine client file _ is.known tt;
  cached = λ file live base is reads has. (is.known, tt);
  read = λ file live is idle. turned_fine client file _ is.known tt;
  buffered = λ file live patch is fits caches. ((is.known, fits), tt);
  written = λ file live patch is fits sends. ((is.known, fits), tt);
  flushed = λ file live is. turned_fine client file _ is.known tt;
}

-- a file whose entry isn't closed is known
pub known_open : (client : Client) (file : ℕ) → IsSoundClient client
    → ((client.entries file).phase ≡ Phase.Closed → ⊥) → knows_file client file ≡ true
known_open client file s open_phase = not_false (knows_file client file) (λ unknown. open_phase (s.in_files file unknown))

pub either_settles : (b : Bool) (outcome : Settlement) (writes : List Pending)
    → EachNote IsSettling (if b then [] else settled_as outcome writes)
either_settles b outcome writes = if_cases (EachNote IsSettling) b [] (settled_as outcome writes)
    (λ keeps. tt) (λ loses. settles outcome writes)

takes_fine : (client : Client) → IsSoundClient client → HasTakes client (λ reply step. HasFineNotes client step)
takes_fine client s = record {
  passed = λ reply why. tt;
  parked_closes = λ file notice live at is parked. turned_fine client file _
      (found_known client (is_key_of client notice.key) file at) tt;
  lowered = λ file notice live at is stays. turned_fine client file _
      (found_known client (is_key_of client notice.key) file at) tt;
  opened = λ file file_id answer access share is. turned_fine client file _
      (open_known file (λ e. no_opening access share (sym is ∙ e))) tt;
  reconnected = λ file file_id answer parted is. turned_fine client file _ (open_known file (λ e. no_parted parted (sym is ∙ e)))
      (either_settles (first_belief client file answer).write Settlement.Lost parted.writes);
  promoted = λ file file_id answer live asked is asks. turned_fine client file _
      (open_known file (λ e. no_live live (sym is ∙ e)))
      (either_settles (promoted_belief (lease_key client.guid file) live.belief answer.lease).write
      Settlement.Failed live.unsent);
  not_opened = λ file status access share is. turned_fine client file _
      (open_known file (λ e. no_opening access share (sym is ∙ e))) tt;
  not_reconnected = λ file status parted is. turned_fine client file _
      (open_known file (λ e. no_parted parted (sym is ∙ e))) (settles Settlement.Lost parted.writes);
  not_promoted = λ file status live asked is asks. turned_fine client file _
      (open_known file (λ e. no_live live (sym is ∙ e))) tt;
  read = λ file file_id bytes live is id some. turned_fine client file _ (open_known file (λ e. no_live live (sym is ∙ e))) tt;
  read_closed = λ file file_id status live is id gone. turned_fine client file _
      (open_known file (λ e. no_live live (sym is ∙ e))) (settles Settlement.Failed live.unsent);
  not_read = λ file file_id status live is id some. turned_fine client file _
      (open_known file (λ e. no_live live (sym is ∙ e))) tt;
  written = λ file file_id number at known. turned_fine client file _ known (tt, tt);
  write_closed = λ file file_id number status live at known is id gone. turned_fine client file _ known
      (tt, settles Settlement.Failed live.unsent);
  not_written = λ file file_id number status at known. turned_fine client file _ known (tt, tt);
}
  where
    open_known : (file : ℕ) → ((client.entries file).phase ≡ Phase.Closed → ⊥) → knows_file client file ≡ true
    open_known file never = known_open client file s never

    no_opening : (access : Access) (share : Share) → Phase.Opening access share ≡ Phase.Closed → ⊥
    no_opening access share e = cc

    no_live : (live : LiveEntry) → Phase.Live live ≡ Phase.Closed → ⊥
    no_live live e = cc

    no_parted : (parted : Parted) → Phase.Reconnecting parted ≡ Phase.Closed → ⊥
    no_parted parted e = cc

-- every entry has a turn
each_fine : (client after : Client) (turn : ℕ → Entry → Turn)
    → ((file : ℕ) → belief_of (turn file (client.entries file)).entry ≡ belief after file)
    → ((file : ℕ) → EachNote IsSettling (turn file (client.entries file)).settled)
    → (files : List ℕ) → ((file : ℕ) → Among file files → knows_file client file ≡ true)
    → EachNote (IsFineNote client after) (flat_map
    (λ file. (turn file (client.entries file)).settled
    ++ believes_noted file (belief_of (client.entries file)) (belief_of (turn file (client.entries file)).entry)) files)
each_fine client after turn same settled [] known = tt
each_fine client after turn same settled (file ∷ files) known = notes_append (IsFineNote client after) _ _
    (notes_append (IsFineNote client after) (turn file (client.entries file)).settled _
    (settling_fine client after (turn file (client.entries file)).settled (settled file))
    (believed_fine client after file (belief_of (client.entries file))
    (belief_of (turn file (client.entries file)).entry) (known file (inl refl)) (same file)))
    (each_fine client after turn same settled files (λ f a. known f (inr a)))

all_fine : (client : Client) (online : Bool) (turn : ℕ → Entry → Turn)
    → ((file : ℕ) → EachNote IsSettling (turn file (client.entries file)).settled)
    → EachNote (IsFineNote client (all_turned client online turn).client) (all_turned client online turn).notes
all_fine client online turn settled = each_fine client (all_turned client online turn).client turn (λ file. refl)
    settled (numbers_to client.files) (λ file a. numbers_known client.files file a)

pub notices_settle : (sent : List Pending) → HasNotices sent (λ phase turn. EachNote IsSettling turn.settled)
notices_settle sent = record {
  closed = settles Settlement.Unknown sent;
  opening = λ access share. settles Settlement.Unknown sent;
  ended = λ live. settles Settlement.Unknown (sent ++ live.unsent);
  kept = λ live writes. settles Settlement.Unknown _;
  bare = λ live none. settles Settlement.Unknown (sent ++ live.unsent);
  offline = λ parted. settles Settlement.Unknown sent;
  reconnecting = λ parted. settles Settlement.Unknown sent;
}

pub connect_settles : (client : Client) (file : ℕ) (sent : List Pending) (phase : Phase)
    → EachNote IsSettling (connect_turn client file sent phase).settled
connect_settles client file sent Phase.Closed = tt
connect_settles client file sent phase = tt

-- any call
pub call_fine : (client : Client) (call : ClientCall) → IsSoundClient client
    → EachNote (IsFineNote client (client_called client call).client) (client_called client call).notes
call_fine client (ClientCall.Commanded command) s = any_command client (HasFineNotes client) (commands_fine client) command
call_fine client (ClientCall.Taken reply) s = any_reply client (λ r step. HasFineNotes client step) (takes_fine client s) reply
call_fine client ClientCall.Noticed s = all_fine client false (λ file entry. notice_turn entry.sent entry.phase)
    (λ file. any_notice (client.entries file).sent _ (notices_settle (client.entries file).sent) (client.entries file).phase)
call_fine client ClientCall.Connected s = all_fine client true
    (λ file entry. connect_turn client file entry.sent entry.phase)
    (λ file. connect_settles client file (client.entries file).sent (client.entries file).phase)
