-- Held requests that are known to wait still: as the server stands, a try of any of them changes nothing.
use Rattle.std.specs.Prelude.{◌≡◌, ◌≤◌, ◌<◌, ◌⊎◌, ℕ, Bool, true, false, Option, Some, None, List, [], length, take, not, ◌&&◌}
use Rattle.std.specs.List.{list_any, list_all, slice_get}
use Rattle.std.specs.BTreeMap.{get}
use Rattle.lease_state.specs.declared.rules.Rules.{Rules}
use Rattle.lease_model.specs.messages.Replies.{Out}
use Rattle.lease_model.specs.messages.Requests.{FileRequest}
use Rattle.lease_model.specs.server.Attempt.{Outcome, ended, tried, is_left_open}
use Rattle.lease_model.specs.server.Findings.{Finding, finding}
use Rattle.lease_model.specs.server.Lanes.{is_behind}
use Rattle.lease_model.specs.server.Progress.{Progress}
use Rattle.lease_model.specs.server.Ready.{is_ready, waits_for}
use Rattle.lease_model.specs.server.State.{Server, Open, Lease, Held, has_key, is_breaking}
use Rattle.lease_model.specs.server.Wants.{Want}
use Rattle.lease_model.specs.values.Keys.{Key}
use Rattle.lease_state.specs.declared.access.Access.{Access}
use Rattle.lease_state.specs.declared.access.Share.{Share}
use Rattle.lease_model.specs.server.Allowed.{is_other_on}
use Rattle.lease_model.specs.server.Naming.{lease_of_open}
use Rattle.lease_manager.specs.Wishes.{is_wanted}
use Rattle.lease_manager.specs.declared.values.want.Wish.TheVariants.{NoHandles}
use Rattle.manager_model.specs.Handling.{Tagged}
use Rattle.lease_manager.specs.OneFile.{on_file, local, IsOnlyAbout, asks_with}
use Rattle.lease_laws.specs.server.Laws.{Among}
use Rattle.lease_manager.specs.Summaries.{file_order, is_on}
use Rattle.lease_manager.specs.declared.tables.waiting.Waiting.{Waiting}

-- a call under way
abbrev pub at_call : Server → List Out → Progress
at_call server outs = record { server = server; outs = outs }

-- A try of the request changes nothing, gives nothing out, and leaves it waiting.
abbrev pub IsTriedInVain : Server → ℕ → FileRequest → Type 0
IsTriedInVain server client request =
    (outs : List Out) → tried client request (at_call server outs) ≡ ended (at_call server outs) Outcome.Waits

-- The first requests of the file's queue, so many, wait still: each waits behind an earlier one, and so isn't tried,
-- or is tried in vain.
pub record WaitStill (server : Server) (file : ℕ) (count : ℕ) : Type 0 where
  pub within : count ≤ length (server.held file)
  pub each : (place : ℕ) (one : Held) → place < count → slice_get (server.held file) place ≡ Some one
      → (is_behind server.rules one (take place (server.held file)) ≡ true) ⊎ IsTriedInVain server one.client one.request

-- ---- why a try is in vain

-- What is wanted of a key on the file can't be had at once: its lease is breaking, and none of its opens is left to be
-- closed.
abbrev pub is_under_way : Server → ℕ → Key → Bool
is_under_way server file key = is_breaking (server.leases key)
    && (not (list_any (is_left_open key) server.opens) && list_any (has_key key) (on_file file server.opens))

-- The request isn't ready, and has to wait for some of these wants, all of which are under way.
pub record OnlyWaits (server : Server) (file : ℕ) (request : FileRequest) (wants : List Want) : Type 0 where
  pub unready : is_ready request server.leases wants ≡ false
  pub must_wait : list_any (λ want. waits_for request (server.leases want.key)) wants ≡ true
  pub under_way : list_all (λ want. is_under_way server file want.key) wants ≡ true

-- A look at the request finds such wants.
pub record HasOnlyToWait (server : Server) (file : ℕ) (client : ℕ) (request : FileRequest) : Type 0 where
  pub wants : List Want
  pub found : finding server client request ≡ Finding.Needs wants
  pub waits : OnlyWaits server file request wants

-- Each lease of another key on the file that holds H is breaking.
abbrev pub AreHandlesBreaking : Server → Option Key → ℕ → Type 0
AreHandlesBreaking server own file = (one : Open) → Among one server.opens → is_other_on own file one ≡ true
    → (lease_of_open server one).state.handle ≡ true → is_breaking (lease_of_open server one) ≡ true

-- Where it is known: no open of a lease that is breaking is left to be closed.
abbrev pub AreSettled : Bool → List Open → (Key → Lease) → Type 0
AreSettled known opens leases = known ≡ true → (key : Key) → is_breaking (leases key) ≡ true
    → list_any (is_left_open key) opens ≡ false

-- So no handle of another key can be had at once.
abbrev pub AreHandlesGoing : Server → Option Key → ℕ → Type 0
AreHandlesGoing server own file = AreHandlesBreaking server own file × AreSettled true server.opens server.leases

-- Handles of other keys are in the way of a create, and all of them on its file are being given up.
pub record AwaitsHandles (server : Server) (own : Option Key) (file : ℕ) (access : Access) (share : Share) : Type 0 where
  pub wanted : list_any (is_wanted (NoHandles access share) server own file) server.opens ≡ true
  pub going : AreHandlesGoing server own file

-- ---- what the tables keep

abbrev pub counted : Option ℕ → ℕ
counted None = 0
counted (Some count) = count

-- how many requests of the file's queue are counted
abbrev pub count_in : Waiting → ℕ → ℕ
count_in waiting file = counted (get file_order waiting.counts (record { 0 = file }))

-- of a server that which decides how a try ends
abbrev pub deciding : Rules → ℕ → List Open → (Key → Lease) → Server
deciding rules files opens leases = record {
  rules = rules;
  files = files;
  contents = λ file. [];
  opens = opens;
  leases = leases;
  held = λ file. [];
  present = λ client. false;
  expired = λ key. false;
  last_id = 0;
}

-- a request behind these waits behind one of them, or is about the file alone and has only to wait
abbrev pub Stays : Server → ℕ → List Held → Held → Type 0
Stays server file before one = (is_behind server.rules one before ≡ true)
    ⊎ (HasOnlyToWait server file one.client one.request × IsOnlyAbout server file one.client one.request)

-- the request at the place of the file's queue stays
abbrev pub StaysAt : Server → ℕ → List Held → ℕ → Type 0
StaysAt server file queue place =
    (one : Held) → slice_get queue place ≡ Some one → Stays server file (take place queue) one

-- the same by what of the server its look sees
abbrev pub StaysLocally : Server → ℕ → List Held → Held → Type 0
StaysLocally server file before one = (is_behind server.rules one before ≡ true)
    ⊎ (HasOnlyToWait (local file server) file one.client one.request × IsOnlyAbout server file one.client one.request)

-- The first requests of the file's queue, so many, stay.
pub record AreCounted (server : Server) (file : ℕ) (queue : List Held) (count : ℕ) : Type 0 where
  pub within : count ≤ length queue
  pub each : (place : ℕ) (one : Held) → place < count → slice_get queue place ≡ Some one
      → StaysLocally server file (take place queue) one

-- In each file's queue the counted requests wait still.
abbrev pub AreKnown : Waiting → Rules → ℕ → (ℕ → List Held) → List Open → (Key → Lease) → Type 0
AreKnown waiting rules files held opens leases = (file : ℕ)
    → AreCounted (deciding rules files opens leases) file (held file) (count_in waiting file)

-- What is known of a file's count is forgotten, or nothing that it rests on has changed.
abbrev pub HaveForgotten : (Open → Bool) → List Open → Waiting → Waiting → Type 0
HaveForgotten test opens before after = (file : ℕ) → (count_in after file ≡ 0)
    ⊎ ((count_in after file ≡ count_in before file)
    × ((one : Open) → Among one opens → is_on file one ≡ true → test one ≡ false))

-- the same where requests go: a queue that loses one is forgotten
abbrev pub HaveForgottenQueues : (ℕ → List Tagged) → (ℕ → List Tagged) → Waiting → Waiting → Type 0
HaveForgottenQueues queues left before after = (file : ℕ) → (count_in after file ≡ 0)
    ⊎ ((count_in after file ≡ count_in before file) × (left file ≡ queues file))

-- the same where an open comes, under whose key no create of another file is held
abbrev pub HaveForgottenFor : Open → (ℕ → List Held) → Waiting → Waiting → Type 0
HaveForgottenFor one queues before after = (file : ℕ) → (count_in after file ≡ 0)
    ⊎ ((count_in after file ≡ count_in before file) × (is_on file one ≡ false)
    × ((held : Held) → Among held (queues file) → asks_with one held ≡ false))
