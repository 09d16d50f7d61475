-- A request that comes, as it is told.
use Rattle.lease_laws.proofs.Words.{◌++◌, ◌∙◌, ◌∷◌, ◌≡◌, FileRequest, Lane, List, Ok, Err, Out, Outcome, Progress, Server}
use Rattle.lease_laws.proofs.Words.{Status, Tried, ℕ, []}
use Rattle.lease_laws.proofs.Words.{Result, ap, arith, begun, concluded, ended, false, held_of, is_behind, lane_of}
use Rattle.lease_laws.proofs.Words.{map-append, put, refusal_of, sym, tried, true}
use Rattle.manager_model.specs.Decisions.{Decision, told_of}
use Rattle.manager_model.specs.Handling.{Handling, Manager, Tagged, after_first_try, arrived_before, ended_between, ends, gone_on}
use Rattle.manager_model.specs.Handling.{held_in, left_to_wait, tagged_of}
use Rattle.lease_manager.specs.Outs.{handling_of, progress_of}
use Rattle.lease_manager.specs.Passing.{is_waiting}
use Rattle.lease_manager.specs.Requests.{request_like}
use Rattle.lease_manager.specs.Table.{Queue, Table, manager_of, queue_at, requeued, server_of}
use Rattle.lease_manager.specs.declared.values.request.Ask.{Ask}
use Rattle.lease_manager.proofs.waits.Passing.{gone}

refused_is : (tag client : ℕ) (ask : Ask) (status : Status)
    → told_of tag (Out.Sent client (refusal_of (request_like ask) status) ∷ []) ≡ Decision.Refused client tag status ∷ []
refused_is tag client ask status = grind arith

-- a request that is refused as it comes
pub refused_told : (table : Table) (told now : List Decision) (tag client : ℕ) (ask : Ask) (status : Status)
    (found : Result ℕ Status) → Err status ≡ found → now ≡ told ++ Decision.Refused client tag status ∷ []
    → handling_of table now
    ≡ arrived_before (tagged_of (server_of table) tag client (request_like ask)) (handling_of table told) found
refused_told table told now tag client ask status found is said =
    ap (handling_of table) (said ∙ ap (λ more. told ++ more) (sym (refused_is tag client ask status)))
    ∙ ap (arrived_before (tagged_of (server_of table) tag client (request_like ask)) (handling_of table told)) is

abbrev at_manager : Manager → List Decision → Handling
at_manager manager told = record { manager = manager; told = told }

held_now : (during after : Table) (told now last : List Decision) (file : ℕ) (one : Tagged)
    → manager_of after ≡ requeued (manager_of during) file (queue_at during.queues file ++ one ∷ [])
    → last ≡ now ++ Decision.Waits one.held.client one.tag ∷ []
    → handling_of after last ≡ left_to_wait file one (handling_of during now)
held_now during after told now last file one is said =
    ap (λ m. at_manager m last) is
    ∙ (ap (λ held. at_manager (record {
      server = record (server_of during) { held = put (server_of during).held file held };
      queues = put (queue_at during.queues) file (queue_at during.queues file ++ one ∷ []);
    }) last) (map-append (λ (waiting : Tagged). waiting.held) (queue_at during.queues file) (one ∷ []))
    ∙ ap (at_manager (left_to_wait file one (handling_of during now)).manager) said)

-- a request that waits behind another
pub behind_told : (table after : Table) (told last : List Decision) (file : ℕ) (one : Tagged)
    → is_behind table.rules one.held (held_in (queue_at table.queues file)) ≡ true
    → manager_of after ≡ requeued (manager_of table) file (queue_at table.queues file ++ one ∷ [])
    → last ≡ told ++ Decision.Waits one.held.client one.tag ∷ []
    → handling_of after last ≡ arrived_before one (handling_of table told) (Ok file)
behind_told table after told last file one behind is said = rw behind (held_now table after told told last file one is said)

waiting_told : (file : ℕ) (one : Tagged) (now : Handling) (progress : Progress) (outcome : Outcome) → is_waiting outcome ≡ true
    → after_first_try file one now progress outcome ≡ left_to_wait file one (gone_on one.tag progress (ends progress.server now))
waiting_told file one now progress outcome e = grind arith

answer_told : (file : ℕ) (one : Tagged) (now : Handling) (progress : Progress) (outcome : Outcome) → is_waiting outcome ≡ false
    → after_first_try file one now progress outcome
    ≡ gone_on one.tag (concluded one.held.client one.held.request progress outcome) (ends progress.server now)
answer_told file one now progress outcome e = grind arith

tried_first : (file : ℕ) (one : Tagged) (now : Handling) (progress : Progress) (outcome : Outcome)
    → is_behind now.manager.server.rules one.held (now.manager.server.held file) ≡ false
    → ended progress outcome ≡ tried one.held.client one.held.request (begun now.manager.server)
    → after_first_try file one now progress outcome ≡ arrived_before one now (Ok file)
tried_first file one now progress outcome first end =
    rw first (ap (λ (t : Tried). after_first_try file one now t.progress t.outcome) end)

-- one that is tried, and waits
pub tried_and_waits : (before during after : Table) (told now last : List Decision) (outs : List Out) (file : ℕ) (one : Tagged)
    (outcome : Outcome) → is_behind before.rules one.held (held_in (queue_at before.queues file)) ≡ false
    → ended (progress_of during outs) outcome ≡ tried one.held.client one.held.request (begun (server_of before))
    → is_waiting outcome ≡ true → during.queues ≡ before.queues
    → now ≡ (told ++ ended_between (server_of before) (server_of during)) ++ told_of one.tag outs
    → manager_of after ≡ requeued (manager_of during) file (queue_at during.queues file ++ one ∷ [])
    → last ≡ now ++ Decision.Waits one.held.client one.tag ∷ []
    → handling_of after last ≡ arrived_before one (handling_of before told) (Ok file)
tried_and_waits before during after told now last outs file one outcome first end waits same said is more =
    held_now during after told now last file one is more
    ∙ (ap (left_to_wait file one) (gone before during told now outs one.tag same said)
    ∙ (sym (waiting_told file one (handling_of before told) (progress_of during outs) outcome waits)
    ∙ tried_first file one (handling_of before told) (progress_of during outs) outcome first end))

abbrev gone_with : Table → List Decision → Tagged → Server → Progress → Handling
gone_with before told one server progress = gone_on one.tag progress (ends server (handling_of before told))

-- one that is tried, and answered
pub tried_and_answered : (before during last : Table) (told now : List Decision) (outs more : List Out) (file : ℕ) (one : Tagged)
    (outcome : Outcome) → is_behind before.rules one.held (held_in (queue_at before.queues file)) ≡ false
    → ended (progress_of during outs) outcome ≡ tried one.held.client one.held.request (begun (server_of before))
    → is_waiting outcome ≡ false → during.queues ≡ before.queues
    → progress_of last more ≡ concluded one.held.client one.held.request (progress_of during outs) outcome
    → last.queues ≡ during.queues
    → now ≡ (told ++ ended_between (server_of before) (server_of during)) ++ told_of one.tag more
    → handling_of last now ≡ arrived_before one (handling_of before told) (Ok file)
tried_and_answered before during last told now outs more file one outcome first end ready same done stays said =
    ap (λ (q : List Queue). record { manager = record { server = server_of last; queues = queue_at q }; told = now })
    (stays ∙ same)
    ∙ (ap (λ l. record { manager = record { server = server_of last; queues = queue_at before.queues }; told = l }) said
    ∙ (ap (gone_with before told one (server_of during)) done
    ∙ (sym (answer_told file one (handling_of before told) (progress_of during outs) outcome ready)
    ∙ tried_first file one (handling_of before told) (progress_of during outs) outcome first end)))

-- a request is held under the lane that it has
pub tagged_so : (server : Server) (tag client : ℕ) (request : FileRequest) (lane : Lane) (now after : Handling) (file : ℕ)
    → lane ≡ lane_of server client request
    → after ≡ arrived_before (record { held = held_of client request lane; tag = tag }) now (Ok file)
    → after ≡ arrived_before (tagged_of server tag client request) now (Ok file)
tagged_so server tag client request lane now after file is arrived =
    arrived ∙ ap (λ lane. arrived_before (record { held = held_of client request lane; tag = tag }) now (Ok file)) is
