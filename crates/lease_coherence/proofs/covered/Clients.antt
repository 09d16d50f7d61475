-- Every step of a client keeps its opens covered, and reads and writes under the open of a live entry.
use Rattle.lease_laws.proofs.Words.{◌++◌, ◌+◌, ◌==◌, ◌∙◌, ◌∷◌, ◌≡◌, ◌≢◌, ◌≤◌, Answer, Asked, Client, CreateAnswer, Entry}
use Rattle.lease_laws.proofs.Words.{FileRequest, IsSoundClient, List, LiveEntry, None, Option, Pending, Phase, Reply, Request}
use Rattle.lease_laws.proofs.Words.{Some, Status, Step, Turn, ℕ, [], ⊎_elim, ap, arith, create_request, eq-eqb, eqb-true, false}
use Rattle.lease_laws.proofs.Words.{inl, inr, is_asking, is_file_closed, is_some, next_write, phase_with, put, quiet_step, refl}
use Rattle.lease_laws.proofs.Words.{subst, sym, true, true≢false, turned, write_requests, wrote_step}
use Rattle.lease_laws.proofs.client.Thin.{put_other, put_same}
use Rattle.lease_laws.proofs.client.cases.Commands.{HasCommands}
use Rattle.lease_laws.proofs.client.cases.Replies.{HasTakes, PassesOver}
use Rattle.lease_laws.proofs.client.cases.Turns.{by_turn}
use Rattle.lease_laws.proofs.server.Lists.{and_parts, either}
use Rattle.lease_laws.proofs.world.Links.{by_client}
use Rattle.lease_coherence.specs.Creates.{answers, asked_by, creates, has_asked, one_if}
use Rattle.lease_coherence.specs.Standing.{FitsPhase}
use Rattle.lease_coherence.proofs.covered.CoveredOpens.{ClosedBefore, IsCovered, IsGrantOf, IsLiveUnder, NotFailed}
use Rattle.lease_coherence.proofs.covered.CoveredOpens.{closed_behind, closed_behind_writes, closed_more, cover_by}
use Rattle.lease_coherence.proofs.creates.Counts.{none_asked}
use Rattle.lease_coherence.proofs.fresh.Clients.{sound_live}
use Rattle.lease_coherence.proofs.standing.Clients.{FitsGiven}

-- ---- commands

-- where no create of the file is asked, none stands among the requests
abbrev pub IsQuiet : Phase → ℕ → List Request → Type 0
IsQuiet phase file asked = has_asked phase ≡ false → creates file asked ≡ 0

abbrev pub StepCovers : Client → Step → Type 0
StepCovers machine step = (file file_id : ℕ) (asked : List Request) (queue : List Reply)
    → IsQuiet (machine.entries file).phase file asked → IsCovered (machine.entries file).phase file file_id asked queue
    → IsCovered (step.client.entries file).phase file file_id (asked ++ step.requests) queue

-- an entry, with the requests of a turn, covers what the entry before did
abbrev pub TurnCovers : ℕ → Phase → Phase → List Request → Type 0
TurnCovers file old new more = (file_id : ℕ) (asked : List Request) (queue : List Reply) → IsQuiet old file asked
    → IsLiveUnder old file_id → IsCovered new file file_id (asked ++ more) queue

same_turn : (file : ℕ) (old : Phase) (live next : LiveEntry) (more : List Request) → old ≡ Phase.Live live
    → next.file_id ≡ live.file_id → TurnCovers file old (Phase.Live next) more
same_turn file old live next more is same file_id asked queue quiet u = inl (record {
  live = next;
  is = refl;
  id = same ∙ ap (λ (l : LiveEntry). l.file_id) (one_live live u.live (sym is ∙ u.is)) ∙ u.id;
})
  where
    one_live : (x y : LiveEntry) → Phase.Live x ≡ Phase.Live y → x ≡ y
    one_live x y e = cc

-- the entry closes its open
closing_turn : (file : ℕ) (old new : Phase) (live : LiveEntry) (writes : List Pending) (more : List Request)
    → old ≡ Phase.Live live → is_asking live ≡ false
    → TurnCovers file old new (write_requests live.file_id writes ++ Request.OnFile (FileRequest.Close live.file_id) ∷ more)
closing_turn file old new live writes more is idle file_id asked queue quiet u =
    let same : live.file_id ≡ file_id = ap (λ (l : LiveEntry). l.file_id) (one_live live u.live (sym is ∙ u.is)) ∙ u.id in
    inr (inl (closed_behind file file_id asked _ (quiet (ap has_asked is ∙ idle)) (subst (λ i. ClosedBefore file i
    (write_requests live.file_id writes ++ Request.OnFile (FileRequest.Close live.file_id) ∷ more)) same
    (closed_behind_writes file live.file_id writes more))))
  where
    one_live : (x y : LiveEntry) → Phase.Live x ≡ Phase.Live y → x ≡ y
    one_live x y e = cc

-- it wasn't live
idle_turn : (file : ℕ) (old new : Phase) (more : List Request) → ((live : LiveEntry) → old ≡ Phase.Live live → ⊥)
    → TurnCovers file old new more
idle_turn file old new more never file_id asked queue quiet u = absurd (never u.live u.is)

still_covers : (phase : Phase) (file file_id : ℕ) (asked more : List Request) (queue : List Reply)
    → IsCovered phase file file_id asked queue → IsCovered phase file file_id (asked ++ more) queue
still_covers phase file file_id asked more queue c = cover_by phase phase file file_id asked (asked ++ more) queue queue
    (λ u. inl u) (λ x. closed_more file file_id asked more x) (λ g. inr (inr g)) c

put_covers : (machine : Client) (at : ℕ) (entry : Entry) (more : List Request)
    → TurnCovers at (machine.entries at).phase entry.phase more → (file file_id : ℕ) (asked : List Request) (queue : List Reply)
    → IsQuiet (machine.entries file).phase file asked → IsCovered (machine.entries file).phase file file_id asked queue
    → IsCovered (put machine.entries at entry file).phase file file_id (asked ++ more) queue
put_covers machine at entry more covers file file_id asked queue quiet c = by_client
    (λ f. IsQuiet (machine.entries f).phase f asked → IsCovered (machine.entries f).phase f file_id asked queue
    → IsCovered (put machine.entries at entry f).phase f file_id (asked ++ more) queue) at file
    (λ q own. subst (λ (e : Entry). IsCovered e.phase at file_id (asked ++ more) queue) (sym (put_same machine.entries at entry))
    (cover_by (machine.entries at).phase entry.phase at file_id asked (asked ++ more) queue queue
    (λ u. covers file_id asked queue q u) (λ x. closed_more at file_id asked more x) (λ g. inr (inr g)) own))
    (λ ne off q own. subst (λ (e : Entry). IsCovered e.phase file file_id (asked ++ more) queue)
    (sym (put_other machine.entries at entry file ne))
    (still_covers (machine.entries file).phase file file_id asked more queue own)) quiet c

turned_covers : (machine : Client) (at : ℕ) (turn : Turn)
    → TurnCovers at (machine.entries at).phase turn.entry.phase turn.requests → StepCovers machine (turned machine at turn)
turned_covers machine at turn covers =
    by_turn (StepCovers machine) machine at turn (put_covers machine at turn.entry turn.requests covers)

wrote_covers : (machine : Client) (at : ℕ) (entry : Entry) (answer : Answer) (requests : List Request) (write : Pending)
    → TurnCovers at (machine.entries at).phase entry.phase requests
    → StepCovers machine (wrote_step machine at entry answer requests write)
wrote_covers machine at entry answer requests write covers = put_covers machine at entry requests covers

idle_covers : (machine : Client) (answer : Answer) → StepCovers machine
    (record { client = machine; answer = answer; requests = []; notes = [] })
idle_covers machine answer file file_id asked queue quiet c =
    still_covers (machine.entries file).phase file file_id asked [] queue c

not_live : (phase : Phase) (live : LiveEntry) → phase ≡ Phase.Closed → phase ≡ Phase.Live live → ⊥
not_live phase live closed is = cc

pub commands_cover : (machine : Client) → HasCommands machine (StepCovers machine)
commands_cover machine = record {
  refused = λ refusal. idle_covers machine (Answer.Refused refusal);
  opening = λ file terms is on. turned_covers machine file _
      (idle_turn file (machine.entries file).phase _ _ (λ live e. not_live _ live is.is_so e));
  added = λ file live is. turned_covers machine file _ (same_turn file _ live _ _ is.is_so refl);
  asked = λ file live terms is idle some. turned_covers machine file _ (same_turn file _ live _ _ is.is_so refl);
  anew = λ file live terms is idle none. turned_covers machine file _
      (closing_turn file _ _ live live.unsent (create_request machine file terms ∷ []) is.is_so idle);
  fewer = λ file live is more. turned_covers machine file _ (same_turn file _ live _ _ is.is_so refl);
  parked = λ file live is idle done stays. turned_covers machine file _ (same_turn file _ live _ _ is.is_so refl);
  closed = λ file live is idle done goes. turned_covers machine file _ (closing_turn file _ _ live live.unsent [] is.is_so idle);
  cached = λ file live base is reads has f id asked queue quiet c. still_covers (machine.entries f).phase f id asked [] queue c;
  read = λ file live is idle. turned_covers machine file _ (same_turn file _ live _ _ is.is_so refl);
  buffered = λ file live patch is fits caches. wrote_covers machine file _ Answer.Done [] (next_write machine patch true)
      (same_turn file _ live _ [] is.is_so refl);
  written = λ file live patch is fits sends. wrote_covers machine file _ Answer.Waiting
      (Request.OnFile (FileRequest.Write live.file_id (machine.last_number + 1) patch) ∷ [])
      (next_write machine patch false) (same_turn file _ live _ _ is.is_so refl);
  flushed = λ file live is. turned_covers machine file _ (same_turn file _ live _ _ is.is_so refl);
}

-- ---- replies

-- so many creates are asked, or answered on their way
abbrev pub IsCounted : Client → ℕ → List Request → List Reply → Type 0
IsCounted machine file asked queue = creates file asked + answers file queue ≡ asked_by machine file

pub record IsMetWith (machine : Client) (reply : Reply) (queue : List Reply) (file file_id : ℕ) (asked : List Request) : Type 0
  where
    pub counted : IsCounted machine file asked (reply ∷ queue)
    pub fits : FitsGiven file (machine.entries file).phase reply
    pub not_failed : NotFailed file_id reply

abbrev pub TakeCovers : Client → Reply → Step → Type 0
TakeCovers machine reply step = (queue : List Reply) (file file_id : ℕ) (asked : List Request)
    → IsMetWith machine reply queue file file_id asked → IsCovered (machine.entries file).phase file file_id asked (reply ∷ queue)
    → IsCovered (step.client.entries file).phase file file_id (asked ++ step.requests) queue

-- a reply that grants nothing leaves its queue
abbrev IsNoGrant : Reply → Type 0
IsNoGrant reply = (file file_id : ℕ) → IsGrantOf file file_id reply → ⊥

rest_covers : (phase : Phase) (reply : Reply) (queue : List Reply) (file file_id : ℕ) (asked : List Request)
    → (IsGrantOf file file_id reply → ⊥) → IsCovered phase file file_id asked (reply ∷ queue)
    → IsCovered phase file file_id asked queue
rest_covers phase reply queue file file_id asked none c = cover_by phase phase file file_id asked asked (reply ∷ queue) queue
    (λ u. inl u) (λ x. x) (λ g. inr (inr (⊎_elim (λ x. absurd (none x)) (λ x. x) g))) c

quiet_of : (machine : Client) (reply : Reply) (queue : List Reply) (file file_id : ℕ) (asked : List Request)
    → IsMetWith machine reply queue file file_id asked → IsQuiet (machine.entries file).phase file asked
quiet_of machine reply queue file file_id asked m idle = omega (arith, m.counted ∙ ap one_if idle)

-- a step that covers as commands do
plain_covers : (machine : Client) (reply : Reply) (step : Step) → IsNoGrant reply → StepCovers machine step
    → TakeCovers machine reply step
plain_covers machine reply step none covers queue file file_id asked m c =
    covers file file_id asked queue (quiet_of machine reply queue file file_id asked m)
    (rest_covers (machine.entries file).phase reply queue file file_id asked (none file file_id) c)

-- a turn, by what becomes of the file's open, and of a grant
turn_takes : (machine : Client) (reply : Reply) (at : ℕ) (turn : Turn)
    → ((file file_id : ℕ) → file ≢ at → IsGrantOf file file_id reply → ⊥)
    → ((queue : List Reply) (file_id : ℕ) (asked : List Request) → IsMetWith machine reply queue at file_id asked
    → IsLiveUnder (machine.entries at).phase file_id → IsCovered turn.entry.phase at file_id (asked ++ turn.requests) queue)
    → ((queue : List Reply) (file_id : ℕ) (asked : List Request) → IsMetWith machine reply queue at file_id asked
    → IsGrantOf at file_id reply → IsCovered turn.entry.phase at file_id (asked ++ turn.requests) queue)
    → TakeCovers machine reply (turned machine at turn)
turn_takes machine reply at turn others live granted = by_turn (TakeCovers machine reply) machine at turn
    (λ queue file file_id asked m c. by_client
    (λ f. IsMetWith machine reply queue f file_id asked → IsCovered (machine.entries f).phase f file_id asked (reply ∷ queue)
    → IsCovered (put machine.entries at turn.entry f).phase f file_id (asked ++ turn.requests) queue) at file
    (λ k own. subst (λ (e : Entry). IsCovered e.phase at file_id (asked ++ turn.requests) queue)
    (sym (put_same machine.entries at turn.entry))
    (cover_by (machine.entries at).phase turn.entry.phase at file_id asked (asked ++ turn.requests) (reply ∷ queue) queue
    (λ u. live queue file_id asked k u) (λ x. closed_more at file_id asked turn.requests x)
    (λ g. ⊎_elim (λ x. granted queue file_id asked k x) (λ x. inr (inr x)) g) own))
    (λ ne off k own. subst (λ (e : Entry). IsCovered e.phase file file_id (asked ++ turn.requests) queue)
    (sym (put_other machine.entries at turn.entry file ne))
    (still_covers (machine.entries file).phase file file_id asked turn.requests queue
    (rest_covers (machine.entries file).phase reply queue file file_id asked (others file file_id ne) own))) m c)

-- a turn of a reply that grants nothing
plain_turn : (machine : Client) (reply : Reply) (at : ℕ) (turn : Turn) → IsNoGrant reply
    → TurnCovers at (machine.entries at).phase turn.entry.phase turn.requests → TakeCovers machine reply (turned machine at turn)
plain_turn machine reply at turn none covers =
    plain_covers machine reply (turned machine at turn) none (turned_covers machine at turn covers)

created_elsewhere : (at given : ℕ) (answer : CreateAnswer) (file file_id : ℕ) → file ≢ at
    → IsGrantOf file file_id (Reply.Created at given (Some answer)) → ⊥
created_elsewhere at given answer file file_id ne g = ne (sym g.0)

-- an entry that becomes live by a grant
granted_takes : (machine : Client) (at file_id : ℕ) (answer : CreateAnswer) (turn : Turn) (next : LiveEntry)
    → turn.entry.phase ≡ Phase.Live next → ((queue : List Reply) (id : ℕ) (asked : List Request)
    → IsMetWith machine (Reply.Created at file_id (Some answer)) queue at id asked
    → IsLiveUnder (machine.entries at).phase id → IsCovered turn.entry.phase at id (asked ++ turn.requests) queue)
    → (FitsPhase (machine.entries at).phase file_id → next.file_id ≡ file_id)
    → TakeCovers machine (Reply.Created at file_id (Some answer)) (turned machine at turn)
granted_takes machine at file_id answer turn next is live under =
    turn_takes machine (Reply.Created at file_id (Some answer)) at turn
    (λ file id ne g. created_elsewhere at file_id answer file id ne g) live
    (λ queue id asked m g. inl (record { live = next; is = is; id = under (m.fits refl) ∙ g.1 }))

-- it asked for more, and closes its old open
promoted_live : (machine : Client) (at file_id : ℕ) (answer : CreateAnswer) (live : LiveEntry) (asked_more : Asked)
    (new : Phase) → (machine.entries at).phase ≡ Phase.Live live → live.asking ≡ Some asked_more
    → (queue : List Reply) (id : ℕ) (asked : List Request)
    → IsMetWith machine (Reply.Created at file_id (Some answer)) queue at id asked → IsLiveUnder (machine.entries at).phase id
    → IsCovered new at id (asked ++ Request.OnFile (FileRequest.Close live.file_id) ∷ []) queue
promoted_live machine at file_id answer live asked_more new is asks queue id asked m u =
    inr (inl (closed_behind at id asked _ none (inl same)))
  where
    one_live : (x y : LiveEntry) → Phase.Live x ≡ Phase.Live y → x ≡ y
    one_live x y e = cc

    same : live.file_id ≡ id
    same = ap (λ (l : LiveEntry). l.file_id) (one_live live u.live (sym is ∙ u.is)) ∙ u.id

    so : is_asking live ≡ true
    so = ap (λ (o : Option Asked). is_some o) asks

    none : creates at asked ≡ 0
    none = omega (
      arith,
      ap (λ n. creates at asked + (n + answers at queue)) (sym (ap one_if (eq-eqb at at refl))) ∙ m.counted,
      ap one_if (ap has_asked is ∙ so),
    )

-- ---- replies that fail

pub closed_status : (status : Status) → is_file_closed status ≡ true → status ≡ Status.FileClosed
closed_status Status.FileClosed e = refl
closed_status Status.AccessDenied e = absurd (true≢false (sym e))
closed_status (_) e = cc

with_covers : (at : ℕ) (old : Phase) (write : Option Pending) (phase : Phase) → old ≡ phase
    → TurnCovers at old (phase_with write phase) []
with_covers at old write Phase.Closed is = idle_turn at old _ [] (λ live e. not_live old live is e)
with_covers at old write (Phase.Opening access share) is = idle_turn at old _ [] (λ live e. never live (sym is ∙ e))
  where
    never : (live : LiveEntry) → Phase.Opening access share ≡ Phase.Live live → ⊥
    never live e = cc
with_covers at old write (Phase.Live live) is = same_turn at old live _ [] is refl
with_covers at old write (Phase.Offline parted) is = idle_turn at old _ [] (λ live e. never live (sym is ∙ e))
  where
    never : (live : LiveEntry) → Phase.Offline parted ≡ Phase.Live live → ⊥
    never live e = cc
with_covers at old write (Phase.Reconnecting parted) is = idle_turn at old _ [] (λ live e. never live (sym is ∙ e))
  where
    never : (live : LiveEntry) → Phase.Reconnecting parted ≡ Phase.Live live → ⊥
    never live e = cc

-- ---- breaks

-- an entry that is parked asks for nothing
pub parked_idle : (live : LiveEntry) → (live.handles == 0) ≡ true → (is_asking live ≡ true → 1 ≤ live.handles)
    → is_asking live ≡ false
parked_idle live parked some = either (is_asking live)
    (λ asks. absurd (omega (arith, eqb-true live.handles 0 parked, some asks))) (λ idle. idle)

-- a grant that is passed over isn't due
passed_covers : (machine : Client) (reply : Reply) → PassesOver machine reply → TakeCovers machine reply (quiet_step machine)
passed_covers machine (Reply.Created other id (Some answer)) why = unasked
  where
    unasked : TakeCovers machine (Reply.Created other id (Some answer)) (quiet_step machine)
    unasked queue file file_id asked m c = still_covers (machine.entries file).phase file file_id asked [] queue
        (rest_covers (machine.entries file).phase (Reply.Created other id (Some answer)) queue file file_id asked
        (λ g. omega (
          arith,
          m.counted,
          ap one_if (eq-eqb other file g.0),
          ap one_if (ap (λ f. has_asked (machine.entries f).phase) (sym g.0) ∙ none_asked (machine.entries other).phase why),
        )) c)
passed_covers machine (Reply.Created other id None) why = plain_covers machine _ (quiet_step machine) (λ f i g. g)
    (idle_covers machine Answer.Quiet)
passed_covers machine reply why = plain_covers machine _ (quiet_step machine) (λ f i g. g) (idle_covers machine Answer.Quiet)

-- an open that is gone: the reply would have failed it
gone_covers : (machine : Client) (reply : Reply) (at gone : ℕ) (live : LiveEntry) (turn : Turn)
    → (machine.entries at).phase ≡ Phase.Live live → live.file_id ≡ gone → IsNoGrant reply
    → (NotFailed gone reply → ⊥) → TakeCovers machine reply (turned machine at turn)
gone_covers machine reply at gone live turn is id none failed = turn_takes machine reply at turn
    (λ file other ne g. none file other g)
    (λ queue other asked m u. absurd (failed (subst (λ n. NotFailed n reply)
    (sym (ap (λ (l : LiveEntry). l.file_id) (one_live live u.live (sym is ∙ u.is)) ∙ u.id) ∙ id) m.not_failed)))
    (λ queue other asked m g. absurd (none at other g))
  where
    one_live : (x y : LiveEntry) → Phase.Live x ≡ Phase.Live y → x ≡ y
    one_live x y e = cc

pub takes_cover : (machine : Client) → IsSoundClient machine → HasTakes machine (TakeCovers machine)
takes_cover machine s = record {
  passed = λ reply why. passed_covers machine reply why;
  parked_closes = λ at notice live found is parked. plain_turn machine (Reply.Break (Some notice)) at _ (λ file i g. g)
      (closing_turn at _ _ live live.unsent [] is
      (parked_idle live (and_parts _ _ parked).0 (sound_live machine at live s is).asking_with_handles));
  lowered = λ at notice live found is stays. plain_turn machine (Reply.Break (Some notice)) at _ (λ file i g. g)
      (same_turn at _ live _ _ is refl);
  opened = λ at file_id answer access share is. granted_takes machine at file_id answer _ _ refl
      (λ queue id asked m u. absurd (opening u.live (sym is ∙ u.is))) (λ fits. refl);
  reconnected = λ at file_id answer parted is. granted_takes machine at file_id answer _ _ refl
      (λ queue id asked m u. absurd (parting u.live (sym is ∙ u.is)))
      (λ fits. sym (subst (λ p. FitsPhase p file_id) is fits));
  promoted = λ at file_id answer live asked is asks. granted_takes machine at file_id answer _ _ refl
      (promoted_live machine at file_id answer live asked _ is asks) (λ fits. refl);
  not_opened = λ at status access share is. plain_turn machine (Reply.CreateFailed at status) at _ (λ file i g. g)
      (idle_turn at _ _ _ (λ live e. opening live (sym is ∙ e)));
  not_reconnected = λ at status parted is. plain_turn machine (Reply.CreateFailed at status) at _ (λ file i g. g)
      (idle_turn at _ _ _ (λ live e. parting live (sym is ∙ e)));
  not_promoted = λ at status live asked is asks. plain_turn machine (Reply.CreateFailed at status) at _ (λ file i g. g)
      (same_turn at _ live _ _ is refl);
  read = λ at file_id bytes live is id some. plain_turn machine (Reply.ReadDone file_id bytes) at _ (λ file i g. g)
      (same_turn at _ live _ _ is refl);
  read_closed = λ at file_id status live is id gone. gone_covers machine (Reply.ReadFailed file_id status) at file_id live
      _ is id (λ file i g. g) (λ n. n (closed_status status gone) refl);
  not_read = λ at file_id status live is id some. plain_turn machine (Reply.ReadFailed file_id status) at _
      (λ file i g. g) (same_turn at _ live _ _ is refl);
  written = λ at file_id number has known. plain_turn machine (Reply.WriteDone file_id number) at _ (λ file i g. g)
      (with_covers at (machine.entries at).phase _ (machine.entries at).phase refl);
  write_closed = λ at file_id number status live has known is id gone. gone_covers machine
      (Reply.WriteFailed file_id number status) at file_id live _ is id (λ file i g. g)
      (λ n. n (closed_status status gone) refl);
  not_written = λ at file_id number status has known. plain_turn machine (Reply.WriteFailed file_id number status) at _
      (λ file i g. g) (λ id asked queue quiet u. inl u);
}
  where
    opening : {access : _} {share : _} (live : LiveEntry) → Phase.Opening access share ≡ Phase.Live live → ⊥
    opening live e = cc

    parting : {parted : _} (live : LiveEntry) → Phase.Reconnecting parted ≡ Phase.Live live → ⊥
    parting live e = cc
