-- A manager of leases: the server of the rules without bytes, with the tags under which the requests that wait came. A call of
-- it goes as the server's does, and says at each step what its host is told.
use Rattle.std.specs.Prelude.{ℕ, ◌≡◌, ◌+◌, zero, suc, Bool, true, false, List, [], ◌∷◌, ◌++◌, filter, map, length, if◌then◌else◌, ◌==◌}
use Rattle.std.specs.Prelude.{◌&&◌}
use Rattle.std.specs.Prelude.{Result, Ok, Err}
use Rattle.lease_state.specs.declared.status.Status.{Status}
use Rattle.lease_model.specs.messages.Requests.{FileRequest, LeaseOf}
use Rattle.std.specs.Prelude.{Option}
use Rattle.lease_model.specs.server.Acknowledge.{acknowledged}
use Rattle.lease_model.specs.server.Answers.{concluded}
use Rattle.lease_model.specs.server.Attempt.{Outcome, tried}
use Rattle.lease_model.specs.server.Calls as calls
use Rattle.lease_model.specs.server.GivingUp.{Extent, others_broken}
use Rattle.lease_model.specs.server.Lanes.{as_held, is_behind}
use Rattle.lease_model.specs.server.Progress.{Progress, begun, held_left, opens_dropped, refused, request_held}
use Rattle.lease_model.specs.server.State.{Server, Held, Open, has_key, is_breaking, new_server_under}
use Rattle.lease_state.specs.declared.rules.Rules.{Rules}
use Rattle.lease_model.specs.values.Keys.{Key}
use Rattle.lease_model.specs.values.Lists.{numbers_to, without}
use Rattle.lease_model.specs.values.Tables.{put}
use Rattle.std.specs.List.{list_any}
use Rattle.manager_model.specs.Decisions.{Decision, told_of}

-- a request that waits, and the tag under which it came
pub record Tagged : Type 0 where
  pub held : Held
  pub tag : ℕ

abbrev pub held_in : List Tagged → List Held
held_in queue = map (λ one. one.held) queue

-- A manager: its server, and for each file what waits there, in order of arrival.
pub record Manager : Type 0 where
  pub server : Server
  pub queues : ℕ → List Tagged

-- The last number that a file can have: those of eight bytes.
unfoldable pub last_file : ℕ
last_file = 18446744073709551615

-- the server's requests that wait are those of the queues
abbrev pub IsTagged : Manager → Type 0
IsTagged manager = (file : ℕ) → manager.server.held file ≡ held_in (manager.queues file)

-- a call under way: the manager so far, and what was told so far, in order
pub record Handling : Type 0 where
  pub manager : Manager
  pub told : List Decision

abbrev pub handling : Manager → Handling
handling manager = record { manager = manager; told = [] }

-- A manager of these rules, where nothing is open. Files have the numbers from 1 on, and aren't declared.
abbrev pub new_server : Rules → Server
new_server rules = record (new_server_under rules []) { files = last_file }

abbrev pub new_manager : Rules → Manager
new_manager rules = record { server = new_server rules; queues = λ file. [] }

-- the open is among those of this server
abbrev pub is_open : Server → Open → Bool
is_open server one = list_any (λ (other : Open). other.file_id == one.file_id) server.opens

-- the opens of a server that aren't among those of a later one, in their order
unfoldable pub ended_between : Server → Server → List Decision
ended_between before after = map (λ (one : Open). Decision.Ended one.file_id) (without (is_open after) before.opens)

-- The server is about to come to this: which opens end by that is told.
abbrev pub ends : Server → Handling → Handling
ends after now = record { manager = now.manager; told = now.told ++ ended_between now.manager.server after }

-- Of the opens that pass the test, those that wait for their client from now on.
unfoldable pub left_behind : (Open → Bool) → Server → List Decision
left_behind test server = map (λ (one : Open). Decision.LeftBehind one.file_id)
    (filter (λ one. test one && one.connected && calls.outlives_connection server one) server.opens)

-- the server has come to this, and only the ends of opens are told
abbrev pub at_server : Server → Handling → Handling
at_server server now = record {
  manager = record { server = server; queues = now.manager.queues };
  told = now.told ++ ended_between now.manager.server server;
}

-- The server has come to this, and what it gave out for the request under the tag is told.
abbrev pub gone_on : ℕ → Progress → Handling → Handling
gone_on tag progress now = record {
  manager = record { server = progress.server; queues = now.manager.queues };
  told = now.told ++ told_of tag progress.outs;
}

-- these wait on the file, in place of those that did
abbrev pub queued : ℕ → List Tagged → Handling → Handling
queued file queue now = record {
  manager = record { server = now.manager.server; queues = put now.manager.queues file queue };
  told = now.told;
}

-- The request waits on the file, after those that wait there, and its host is told so.
abbrev pub left_to_wait : ℕ → Tagged → Handling → Handling
left_to_wait file one now = record {
  manager = record {
    server = (request_held file one.held (begun now.manager.server)).server;
    queues = put now.manager.queues file (now.manager.queues file ++ one ∷ []);
  };
  told = now.told ++ Decision.Waits one.held.client one.tag ∷ [];
}

-- ---- passes over what waits

pub record Pass : Type 0 where
  pub passed : List Tagged
  pub now : Handling
  pub has_answered : Bool

abbrev pub left_waiting : Tagged → Pass → Handling → Pass
left_waiting one pass now = record { passed = pass.passed ++ one ∷ []; now = now; has_answered = pass.has_answered }

-- the request leaves its queue, and is answered or refused
abbrev pub pass_answered : ℕ → Tagged → List Tagged → Pass → Progress → Outcome → Pass
pass_answered file one waiting pass progress outcome = record {
  passed = pass.passed;
  now = queued file (pass.passed ++ waiting) (gone_on one.tag
      (concluded one.held.client one.held.request (held_left file (held_in (pass.passed ++ waiting)) progress) outcome)
      (ends progress.server pass.now));
  has_answered = true;
}

abbrev pub after_try : ℕ → Tagged → List Tagged → Pass → Progress → Outcome → Pass
after_try file one waiting pass progress Outcome.Waits =
    left_waiting one pass (gone_on one.tag progress (ends progress.server pass.now))
after_try file one waiting pass progress outcome = pass_answered file one waiting pass progress outcome

unfoldable pub tried_again : ℕ → Tagged → List Tagged → Pass → Pass
tried_again file one waiting pass =
    if is_behind pass.now.manager.server.rules one.held (held_in pass.passed) then left_waiting one pass pass.now
    else after_try file one waiting pass
    (tried one.held.client one.held.request (begun pass.now.manager.server)).progress
    (tried one.held.client one.held.request (begun pass.now.manager.server)).outcome

unfoldable pub pass_over : ℕ → List Tagged → Pass → Pass
pass_over file [] pass = pass
pass_over file (one ∷ waiting) pass = pass_over file waiting (tried_again file one waiting pass)

abbrev pub one_pass : ℕ → Handling → Pass
one_pass file now =
    pass_over file (now.manager.queues file) (record { passed = []; now = now; has_answered = false })

abbrev pub after_pass : (Handling → Handling) → Pass → Handling
after_pass again pass = if pass.has_answered then again pass.now else pass.now

unfoldable pub passes_for : ℕ → ℕ → Handling → Handling
passes_for zero file now = now
passes_for (suc count) file now = after_pass (passes_for count file) (one_pass file now)

-- one more than wait is enough
abbrev pub passes : ℕ → Handling → Handling
passes file now = passes_for (length (now.manager.queues file) + 1) file now

unfoldable pub passes_over : List ℕ → Handling → Handling
passes_over [] now = now
passes_over (file ∷ files) now = passes_over files (passes file now)

unfoldable pub all_passes : Handling → Handling
all_passes now = passes_over (numbers_to now.manager.server.files) now

-- ---- calls

abbrev pub after_first_try : ℕ → Tagged → Handling → Progress → Outcome → Handling
after_first_try file one now progress Outcome.Waits = left_to_wait file one (gone_on one.tag progress (ends progress.server now))
after_first_try file one now progress outcome =
    gone_on one.tag (concluded one.held.client one.held.request progress outcome) (ends progress.server now)

abbrev pub arrived_before : Tagged → Handling → Result ℕ Status → Handling
arrived_before one now (Err status) =
    gone_on one.tag (refused one.held.client one.held.request status (begun now.manager.server)) now
arrived_before one now (Ok file) =
    if is_behind now.manager.server.rules one.held (now.manager.server.held file)
    then left_to_wait file one now
    else after_first_try file one now
    (tried one.held.client one.held.request (begun now.manager.server)).progress
    (tried one.held.client one.held.request (begun now.manager.server)).outcome

abbrev pub tagged_of : Server → ℕ → ℕ → FileRequest → Tagged
tagged_of server tag client request = record { held = as_held server client request; tag = tag }

abbrev pub first_tried : ℕ → ℕ → FileRequest → Handling → Handling
first_tried tag client request now = arrived_before (tagged_of now.manager.server tag client request) now
    (calls.file_asked now.manager.server client request)

-- A request of a connected client comes under a tag. After a close what waits is tried again.
abbrev pub arrived : ℕ → ℕ → FileRequest → Handling → Handling
arrived tag client (FileRequest.Close file_id) now = all_passes (first_tried tag client (FileRequest.Close file_id) now)
arrived tag client request now = first_tried tag client request now

unfoldable pub receive : Manager → ℕ → ℕ → FileRequest → Handling
receive manager client tag request =
    if manager.server.present client then arrived tag client request (handling manager) else handling manager

-- An acknowledgment comes, or one that can't be read.
unfoldable pub acknowledge : Manager → ℕ → Option LeaseOf → Handling
acknowledge manager client given =
    if manager.server.present client
    then all_passes (gone_on 0 (acknowledged client given (begun manager.server)) (handling manager))
    else handling manager

unfoldable pub join : Manager → ℕ → Handling
join manager client = at_server (calls.join manager.server client).server (handling manager)

-- Of the client's requests that wait nothing more is told.
abbrev pub is_of : ℕ → Tagged → Bool
is_of client one = one.held.client == client

abbrev pub links_lost : Server → ℕ → Progress
links_lost server client = calls.client_forgotten client
    (calls.opens_disconnected client (opens_dropped (calls.is_lost server client) (begun server)))

abbrev pub lost : ℕ → Handling → Handling
lost client now = record {
  manager = record {
    server = (links_lost now.manager.server client).server;
    queues = λ file. without (is_of client) (now.manager.queues file);
  };
  told = (now.told ++ ended_between now.manager.server (links_lost now.manager.server client).server)
      ++ left_behind (λ one. one.client == client) now.manager.server;
}

unfoldable pub cut : Manager → ℕ → Handling
cut manager client =
    if manager.server.present client then all_passes (lost client (handling manager)) else handling manager

-- Of the client's requests under these tags that wait nothing more is told either.
abbrev pub is_left : ℕ → List ℕ → Tagged → Bool
is_left client tags one = is_of client one && list_any (λ tag. one.tag == tag) tags

abbrev pub opens_left : Server → ℕ → List ℕ → Progress
opens_left server client file_ids = calls.opens_parted (calls.is_named client file_ids)
    (opens_dropped (calls.is_lost_of server (calls.is_named client file_ids)) (begun server))

abbrev pub parts_left : Manager → ℕ → List ℕ → List ℕ → Server
parts_left manager client file_ids tags = record (opens_left manager.server client file_ids).server {
  held = λ file. held_in (without (is_left client tags) (manager.queues file));
}

abbrev pub left : ℕ → List ℕ → List ℕ → Handling → Handling
left client file_ids tags now = record {
  manager = record {
    server = parts_left now.manager client file_ids tags;
    queues = λ file. without (is_left client tags) (now.manager.queues file);
  };
  told = (now.told ++ ended_between now.manager.server (parts_left now.manager client file_ids tags))
      ++ left_behind (calls.is_named client file_ids) now.manager.server;
}

-- A client leaves these of its opens, and what it asked under these tags.
unfoldable pub leave : Manager → ℕ → List ℕ → List ℕ → Handling
leave manager client file_ids tags =
    if manager.server.present client
    then all_passes (left client file_ids tags (handling manager))
    else handling manager

-- Other keys on a file give up what they hold.
unfoldable pub give_up : Manager → Option Key → ℕ → Extent → Handling
give_up manager own file extent = all_passes (gone_on 0 (others_broken manager.server own file extent)
    (ends (others_broken manager.server own file extent).server (handling manager)))

unfoldable pub expire : Manager → Key → Handling
expire manager key =
    if is_breaking (manager.server.leases key)
    then all_passes (at_server (calls.key_expired key (opens_dropped (has_key key) (begun manager.server))).server
    (handling manager))
    else handling manager

unfoldable pub scavenge : Manager → ℕ → Handling
scavenge manager file_id =
    if list_any (calls.is_left_behind file_id) manager.server.opens
    then all_passes (at_server (opens_dropped (calls.is_left_behind file_id) (begun manager.server)).server (handling manager))
    else handling manager

-- ---- withdrawal (MS-SMB2 3.3.5.16)

abbrev pub is_under : ℕ → ℕ → Tagged → Bool
is_under client tag one = one.held.client == client && one.tag == tag

-- the requests of the client under the tag that wait on the file no longer do
abbrev pub taken_back : ℕ → ℕ → ℕ → Handling → Handling
taken_back file client tag now = record {
  manager = record {
    server = (held_left file (held_in (without (is_under client tag) (now.manager.queues file)))
        (begun now.manager.server)).server;
    queues = put now.manager.queues file (without (is_under client tag) (now.manager.queues file));
  };
  told = now.told ++ Decision.Withdrawn client tag ∷ [];
}

unfoldable pub withdraw : Manager → ℕ → ℕ → ℕ → Handling
withdraw manager file client tag =
    if list_any (is_under client tag) (manager.queues file)
    then all_passes (taken_back file client tag (handling manager))
    else handling manager
