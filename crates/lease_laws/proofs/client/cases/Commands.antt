-- What a command makes of a client: each of the forms, with what is known of it. Whatever holds of each form holds of
-- every command.
use Rattle.std.proofs.Common.{arith}
use Rattle.lease_laws.proofs.Words.{◌&&◌, ◌++◌, ◌+◌, ◌==◌, ◌||◌, ◌∷◌, ◌≡◌, Answer, Bool, Client, Command, FileRequest, List}
use Rattle.lease_laws.proofs.Words.{LiveEntry, None, OpenTerms, Option, Patch, Pending, Phase, Refusal, Request, Some, Step}
use Rattle.lease_laws.proofs.Words.{Turn, ℕ, [], anew_turn, ap, asked_by, buffered_turn, cached_read, close_turn}
use Rattle.lease_laws.proofs.Words.{closed_entry, commanded, count_limit, create_request, false, file_of, flush_on_live}
use Rattle.lease_laws.proofs.Words.{flush_turn, handle_turn, has_unanswered, heard_in, is_asking, is_within_limit}
use Rattle.lease_laws.proofs.Words.{joint_terms, knows_file, last_close_turn, last_write_number, lease_key, live_entry}
use Rattle.lease_laws.proofs.Words.{live_open_turn, live_read_turn, may_read, may_write, more_turn, nat_lt, not, number_after}
use Rattle.lease_laws.proofs.Words.{one_handle_less, open_in, opened_anew, other_turn, read_from_turn, read_sent_turn, refl}
use Rattle.lease_laws.proofs.Words.{refused_step, refused_turn, same_access, same_share, step_by, subst, sym, taken_turn}
use Rattle.lease_laws.proofs.Words.{through_turn, true, turn_of, turned, view, write_buffered, write_requests}
use Rattle.lease_laws.proofs.Words.{write_sent, write_turn}
use Rattle.lease_model.specs.client.Step.{with_number}
use Rattle.lease_laws.proofs.client.cases.Turns.{numbered_next, same_numbered, still_cached, still_refused}
use Rattle.lease_laws.proofs.server.Lists.{clash, if_cases, not_false}

-- a known file whose entry is so
pub record IsEntry (client : Client) (file : ℕ) (phase : Phase) : Type 0 where
  pub known : knows_file client file ≡ true
  pub is_so : (client.entries file).phase ≡ phase

-- the writes of an entry that are sent and not answered
abbrev pub sent_of : Client → ℕ → List Pending
sent_of client file = (client.entries file).sent

-- ---- the forms
--   opening: a closed entry is opened
--   added: one handle more
--   asked: an entry with a handle asks for more
--   anew: a parked one is opened anew
--   fewer: one handle less
--   parked: the last handle goes, and the entry stays
--   closed: the last handle goes, and the entry with it
--   cached: a read from the cache
--   read: a read is sent
--   buffered, written: a write is buffered, or sent
--   flushed: the unsent writes are sent

pub record HasCommands (client : Client) (P : Step → Type 0) : Type 0 where
  pub refused : (refusal : Refusal) → P (refused_step client refusal)
  pub opening : (file : ℕ) (terms : OpenTerms) → IsEntry client file Phase.Closed → client.is_online ≡ true
      → P (turned client file (turn_of (record {
        phase = Phase.Opening terms.access terms.share;
        sent = sent_of client file;
      }) Answer.Waiting (create_request client file terms ∷ [])))
  pub added : (file : ℕ) (live : LiveEntry) → IsEntry client file (Phase.Live live) → P (turned client file
      (turn_of (live_entry (record live { handles = live.handles + 1 }) (sent_of client file)) Answer.Done []))
  pub asked : (file : ℕ) (live : LiveEntry) (terms : OpenTerms) → IsEntry client file (Phase.Live live)
      → is_asking live ≡ false → (live.handles == 0) ≡ false → P (turned client file (turn_of
      (live_entry (record live { asking = Some (asked_by (joint_terms live terms)) }) (sent_of client file))
      Answer.Waiting (create_request client file (joint_terms live terms) ∷ [])))
  pub anew : (file : ℕ) (live : LiveEntry) (terms : OpenTerms) → IsEntry client file (Phase.Live live)
      → is_asking live ≡ false → (live.handles == 0) ≡ true → P (opened_anew client file live (sent_of client file) terms)
  pub fewer : (file : ℕ) (live : LiveEntry) → IsEntry client file (Phase.Live live) → nat_lt 1 live.handles ≡ true
      → P (turned client file (turn_of
      (live_entry (record live { handles = one_handle_less live.handles }) (sent_of client file)) Answer.Done []))
  pub parked : (file : ℕ) (live : LiveEntry) → IsEntry client file (Phase.Live live) → is_asking live ≡ false
      → has_unanswered live (sent_of client file) ≡ false → live.belief.handle ≡ true → P (turned client file
      (turn_of (live_entry (record live { handles = 0 }) (sent_of client file)) Answer.Done []))
  pub closed : (file : ℕ) (live : LiveEntry) → IsEntry client file (Phase.Live live) → is_asking live ≡ false
      → has_unanswered live (sent_of client file) ≡ false → live.belief.handle ≡ false
      → P (turned client file (turn_of (closed_entry (sent_of client file ++ live.unsent)) Answer.Done
      (write_requests live.file_id live.unsent ++ Request.OnFile (FileRequest.Close live.file_id) ∷ [])))
  pub cached : (file : ℕ) (live : LiveEntry) (base : List ℕ) → IsEntry client file (Phase.Live live)
      → live.belief.read ≡ true → live.base ≡ Some base
      → P (cached_read client file (view base (sent_of client file) live.unsent))
  pub read : (file : ℕ) (live : LiveEntry) → IsEntry client file (Phase.Live live) → is_asking live ≡ false
      → P (turned client file (turn_of (live_entry (record live { reads = live.reads + 1 }) (sent_of client file))
      Answer.Waiting (Request.OnFile (FileRequest.Read live.file_id) ∷ [])))
  pub buffered : (file : ℕ) (live : LiveEntry) (patch : Patch) → IsEntry client file (Phase.Live live)
      → is_within_limit patch ≡ true → live.belief.write ≡ true → P (write_buffered client file live (sent_of client file) patch)
  pub written : (file : ℕ) (live : LiveEntry) (patch : Patch) → IsEntry client file (Phase.Live live)
      → is_within_limit patch ≡ true → live.belief.write ≡ false → P (write_sent client file live (sent_of client file) patch)
  pub flushed : (file : ℕ) (live : LiveEntry) → IsEntry client file (Phase.Live live)
      → P (flush_on_live client file live (sent_of client file))

-- ---- every command has one of them

-- an entry is its phase and its sent writes
pub entry_so : (client : Client) (file : ℕ) (phase : Phase) → (client.entries file).phase ≡ phase
    → client.entries file ≡ record { phase = phase; sent = sent_of client file }
entry_so client file phase is = ap (λ p. record { phase = p; sent = sent_of client file }) is

-- of what a turn of the entry comes to
abbrev OfTurn : (Step → Type 0) → Client → ℕ → Turn → Type 0
OfTurn P client file turn = P (turned client file turn)

refused_command : (client : Client) (P : Step → Type 0) → HasCommands client P → (file : ℕ) (phase : Phase)
    → IsEntry client file phase → (refusal : Refusal)
    → OfTurn P client file (refused_turn (record { phase = phase; sent = sent_of client file }) refusal)
refused_command client P h file phase is refusal =
    subst P (still_refused client file _ refusal (entry_so client file phase is.is_so)) (h.refused refusal)

other_command : (client : Client) (P : Step → Type 0) → HasCommands client P → (file : ℕ) (live : LiveEntry)
    (terms : OpenTerms) → IsEntry client file (Phase.Live live) → is_asking live ≡ false
    → OfTurn P client file (other_turn (lease_key client.guid file) file live (sent_of client file) terms)
unfolding other_turn anew_turn more_turn
other_command client P h file live terms is idle =
    if_cases (OfTurn P client file) (live.handles == 0) _ _ (λ parked. h.anew file live terms is idle parked)
    (λ held. if_cases (OfTurn P client file) (live.handles == count_limit) _ _
    (λ full. refused_command client P h file (Phase.Live live) is Refusal.UsedUp)
    (λ fits. h.asked file live terms is idle held))

open_command : (client : Client) (P : Step → Type 0) → HasCommands client P → (file : ℕ) (live : LiveEntry)
    (terms : OpenTerms) → IsEntry client file (Phase.Live live)
    → OfTurn P client file (live_open_turn (lease_key client.guid file) file live (sent_of client file) terms)
unfolding live_open_turn handle_turn
open_command client P h file live terms is = if_cases (OfTurn P client file) (is_asking live) _ _
    (λ asking. refused_command client P h file (Phase.Live live) is Refusal.Busy)
    (λ idle. if_cases (OfTurn P client file) (same_access terms.access live.access && same_share terms.share live.share) _ _
    (λ same. if_cases (OfTurn P client file) (live.handles == count_limit) _ _
    (λ full. refused_command client P h file (Phase.Live live) is Refusal.UsedUp) (λ fits. h.added file live is))
    (λ other. other_command client P h file live terms is idle))

opening_command : (client : Client) (P : Step → Type 0) → HasCommands client P → (file : ℕ) (terms : OpenTerms) (phase : Phase)
    → IsEntry client file phase → OfTurn P client file
    (open_in client.is_online (lease_key client.guid file) file terms (sent_of client file) phase)
opening_command client P h file terms Phase.Closed is = if_cases (OfTurn P client file) client.is_online _ _
    (λ online. h.opening file terms is online)
    (λ offline. refused_command client P h file Phase.Closed is Refusal.Offline)
opening_command client P h file terms (Phase.Live live) is = open_command client P h file live terms is
opening_command client P h file terms (Phase.Offline parted) is =
    refused_command client P h file (Phase.Offline parted) is Refusal.Offline
opening_command client P h file terms phase is = refused_command client P h file phase is Refusal.Busy

neither : (a b : Bool) → (a || b) ≡ false → (a ≡ false) × (b ≡ false)
neither a b e = grind arith

close_command : (client : Client) (P : Step → Type 0) → HasCommands client P → (file : ℕ) (live : LiveEntry)
    → IsEntry client file (Phase.Live live) → OfTurn P client file (close_turn live (sent_of client file))
unfolding close_turn last_close_turn
close_command client P h file live is = if_cases (OfTurn P client file) (nat_lt 1 live.handles) _ _
    (λ more. h.fewer file live is more)
    (λ last. if_cases (OfTurn P client file) (is_asking live || has_unanswered live (sent_of client file)) _ _
    (λ busy. refused_command client P h file (Phase.Live live) is Refusal.Busy)
    (λ quiet. let both = neither (is_asking live) (has_unanswered live (sent_of client file)) quiet in
    if_cases (OfTurn P client file) live.belief.handle _ _
    (λ stays. h.parked file live is both.0 both.1 stays) (λ goes. h.closed file live is both.0 both.1 goes)))

sent_command : (client : Client) (P : Step → Type 0) → HasCommands client P → (file : ℕ) (live : LiveEntry)
    → IsEntry client file (Phase.Live live) → OfTurn P client file (read_sent_turn live (sent_of client file))
unfolding read_sent_turn
sent_command client P h file live is = if_cases (OfTurn P client file) (is_asking live) _ _
    (λ asking. refused_command client P h file (Phase.Live live) is Refusal.Busy)
    (λ idle. if_cases (OfTurn P client file) (live.reads == count_limit) _ _
    (λ full. refused_command client P h file (Phase.Live live) is Refusal.UsedUp) (λ fits. h.read file live is idle))

from_command : (client : Client) (P : Step → Type 0) → HasCommands client P → (file : ℕ) (live : LiveEntry)
    → IsEntry client file (Phase.Live live) → (reads : Bool) (base : Option (List ℕ)) → live.belief.read ≡ reads
    → live.base ≡ base → OfTurn P client file (read_from_turn file live (sent_of client file) reads base)
from_command client P h file live is true (Some base) r b =
    subst P (still_cached client file (live_entry live (sent_of client file)) _ (entry_so client file (Phase.Live live) is.is_so))
    (h.cached file live base is r b)
from_command client P h file live is true None r b = sent_command client P h file live is
from_command client P h file live is false base r b = sent_command client P h file live is

read_command : (client : Client) (P : Step → Type 0) → HasCommands client P → (file : ℕ) (live : LiveEntry)
    → IsEntry client file (Phase.Live live) → OfTurn P client file (live_read_turn file live (sent_of client file))
unfolding live_read_turn
read_command client P h file live is = if_cases (OfTurn P client file) (may_read live.access) _ _
    (λ may. from_command client P h file live is live.belief.read live.base refl refl)
    (λ not. refused_command client P h file (Phase.Live live) is Refusal.Denied)

flush_command : (client : Client) (P : Step → Type 0) → HasCommands client P → (file : ℕ) (live : LiveEntry)
    → IsEntry client file (Phase.Live live) → OfTurn P client file (flush_turn live (sent_of client file))
unfolding flush_turn
flush_command client P h file live is = h.flushed file live is

-- a parked entry, or one that isn't live, hears an Open alone
heard_command : (client : Client) (P : Step → Type 0) → HasCommands client P → (turn : LiveEntry → List Pending → Turn)
    (file : ℕ) (phase : Phase) → IsEntry client file phase
    → ((live : LiveEntry) → IsEntry client file (Phase.Live live) → OfTurn P client file (turn live (sent_of client file)))
    → OfTurn P client file (heard_in turn (sent_of client file) phase)
heard_command client P h turn file (Phase.Live live) is each = if_cases (OfTurn P client file) (live.handles == 0) _ _
    (λ parked. refused_command client P h file (Phase.Live live) is Refusal.NotOpen) (λ held. each live is)
heard_command client P h turn file phase is each = refused_command client P h file phase is _

-- ---- a write takes a number, where it isn't refused

abbrev OfWrite : (Step → Type 0) → Client → ℕ → Turn → Type 0
OfWrite P client file turn = P (with_number (number_after turn client.last_number) (turned client file turn))

refused_write : (client : Client) (P : Step → Type 0) → HasCommands client P → (file : ℕ) (phase : Phase)
    → IsEntry client file phase → (refusal : Refusal)
    → OfWrite P client file (refused_turn (record { phase = phase; sent = sent_of client file }) refusal)
refused_write client P h file phase is refusal =
    subst P (sym (same_numbered client file _)) (refused_command client P h file phase is refusal)

write_command : (client : Client) (P : Step → Type 0) → HasCommands client P → (file : ℕ) (live : LiveEntry) (patch : Patch)
    → IsEntry client file (Phase.Live live)
    → OfWrite P client file (write_turn file live (sent_of client file) client.last_number patch)
unfolding write_turn taken_turn buffered_turn through_turn
write_command client P h file live patch is =
    let refused : (r : Refusal) → OfWrite P client file (refused_turn (live_entry live (sent_of client file)) r) =
    refused_write client P h file (Phase.Live live) is in
    let e = entry_so client file (Phase.Live live) is.is_so in
    if_cases (OfWrite P client file) (not (may_write live.access)) _ _ (λ denied. refused Refusal.Denied)
    (λ may. if_cases (OfWrite P client file) (not (is_within_limit patch)) _ _ (λ long. refused Refusal.TooLong)
    (λ within. let fits = not_false (is_within_limit patch) (λ f. clash (not (is_within_limit patch)) (ap not f) within) in
    if_cases (OfWrite P client file) (client.last_number == last_write_number) _ _ (λ full. refused Refusal.UsedUp)
    (λ room. if_cases (OfWrite P client file) live.belief.write _ _
    (λ caches. subst P (numbered_next client file (live_entry live (sent_of client file)) _ Answer.Done [] _ refl e refl)
    (h.buffered file live patch is fits caches))
    (λ sends. subst P (numbered_next client file (live_entry live (sent_of client file)) _ Answer.Waiting _ _ refl e refl)
    (h.written file live patch is fits sends)))))

heard_write : (client : Client) (P : Step → Type 0) → HasCommands client P → (file : ℕ) (patch : Patch) (phase : Phase)
    → IsEntry client file phase → OfWrite P client file
    (heard_in (λ live sent. write_turn file live sent client.last_number patch) (sent_of client file) phase)
heard_write client P h file patch (Phase.Live live) is = if_cases (OfWrite P client file) (live.handles == 0) _ _
    (λ parked. refused_write client P h file (Phase.Live live) is Refusal.NotOpen)
    (λ held. write_command client P h file live patch is)
heard_write client P h file patch phase is = refused_write client P h file phase is _

-- ---- any command

known_command : (client : Client) (P : Step → Type 0) → HasCommands client P → (command : Command)
    → knows_file client (file_of command) ≡ true → P (step_by client command)
known_command client P h (Command.Open file terms) known = subst P (sym (same_numbered client file _))
    (opening_command client P h file terms (client.entries file).phase (record { known = known; is_so = refl }))
known_command client P h (Command.Close file) known = subst P (sym (same_numbered client file _))
    (heard_command client P h close_turn file (client.entries file).phase (record { known = known; is_so = refl })
    (close_command client P h file))
known_command client P h (Command.Read file) known = subst P (sym (same_numbered client file _))
    (heard_command client P h (live_read_turn file) file (client.entries file).phase (record { known = known; is_so = refl })
    (read_command client P h file))
known_command client P h (Command.Write file patch) known =
    heard_write client P h file patch (client.entries file).phase (record { known = known; is_so = refl })
known_command client P h (Command.Flush file) known = subst P (sym (same_numbered client file _))
    (heard_command client P h flush_turn file (client.entries file).phase (record { known = known; is_so = refl })
    (flush_command client P h file))

pub any_command : (client : Client) (P : Step → Type 0) → HasCommands client P → (command : Command)
    → P (commanded client command)
unfolding commanded
any_command client P h command = if_cases P (knows_file client (file_of command)) _ (refused_step client Refusal.NotOpen)
    (λ known. known_command client P h command known) (λ unknown. h.refused Refusal.NotOpen)

-- ---- single commands

pub commanded_by : (client : Client) (command : Command) → knows_file client (file_of command) ≡ true
    → commanded client command ≡ step_by client command
unfolding commanded
commanded_by client command known = rw (known) refl

pub commanded_nowhere : (client : Client) (command : Command) → knows_file client (file_of command) ≡ false
    → commanded client command ≡ refused_step client Refusal.NotOpen
unfolding commanded
commanded_nowhere client command unknown = rw (unknown) refl
