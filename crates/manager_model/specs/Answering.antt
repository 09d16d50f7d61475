-- A request is answered under its tag once, and waits no longer then; and none is dropped.
use Rattle.std.specs.Prelude.{◌≡◌, ◌⊎◌, ⊤, ℕ, ◌+◌, ◌≤◌, Bool, true, false, List, Result, Ok, Err, ◌==◌, ◌&&◌, if◌then◌else◌}
use Rattle.std.specs.List.{count_by}
use Rattle.lease_laws.specs.server.Laws.{Among}
use Rattle.lease_model.specs.server.Calls.{file_asked}
use Rattle.lease_state.specs.declared.status.Status.{Status}
use Rattle.manager_model.specs.Bare.{bare_request}
use Rattle.manager_model.specs.Decisions.{Decision}
use Rattle.manager_model.specs.Ending.{WasAsked}
use Rattle.manager_model.specs.Handling.{Handling, Manager, Tagged, handling, is_left, is_of, is_under, tagged_of}
use Rattle.manager_model.specs.Hosting.{Coming, HasFreeTag, managed}

-- the decision answers the request under the tag
abbrev pub is_answer : ℕ → Decision → Bool
is_answer tag (Decision.Opened client other file_id answer) = other == tag
is_answer tag (Decision.GoesOn client other) = other == tag
is_answer tag (Decision.Closed client other) = other == tag
is_answer tag (Decision.Refused client other status) = other == tag
is_answer tag (Decision.Waits client other) = false
is_answer tag (Decision.Withdrawn client other) = false
is_answer tag (Decision.Breaks client notice) = false
is_answer tag (Decision.Acknowledged client given) = false
is_answer tag (Decision.NotAcknowledged client status) = false
is_answer tag (Decision.Ended file_id) = false
is_answer tag (Decision.LeftBehind file_id) = false

-- how often it is answered
abbrev pub answers : ℕ → List Decision → ℕ
answers tag told = count_by (is_answer tag) told

-- how many requests wait under the tag
abbrev pub waiting_under : ℕ → List Tagged → ℕ
waiting_under tag queue = count_by (λ one. one.tag == tag) queue

-- A request is answered under the tag, or waits on the file, but not both, nor twice; and none waits on another file.
pub record IsOnce (tag : ℕ) (now : Handling) : Type 0 where
  pub file : ℕ
  pub once : answers tag now.told + waiting_under tag (now.manager.queues file) ≤ 1
  pub others : (other : ℕ) → (other == file) ≡ false → waiting_under tag (now.manager.queues other) ≡ 0

abbrev pub AnswersComeOnce : Type 0
AnswersComeOnce = (manager : Manager) (coming : Coming) → ((tag : ℕ) → IsOnce tag (handling manager))
    → HasFreeTag manager coming → (tag : ℕ) → IsOnce tag (managed manager coming)

-- What waits after a call waited before it, or came.
abbrev pub WaitersWereAsked : Type 0
WaitersWereAsked = (manager : Manager) (coming : Coming) (file : ℕ) (one : Tagged)
    → Among one ((managed manager coming).manager.queues file) → WasAsked manager coming one

-- ---- none is dropped

-- how often it is told that the request was taken back
abbrev pub is_withdrawal : ℕ → Decision → Bool
is_withdrawal tag (Decision.Withdrawn client other) = other == tag
is_withdrawal tag decision = false

abbrev pub withdrawals : ℕ → List Decision → ℕ
withdrawals tag told = count_by (is_withdrawal tag) told

-- 1 where the call takes the request on the file back
abbrev pub taken_back : Coming → ℕ → Tagged → ℕ
taken_back (Coming.Withdraws other client tag) file one = if other == file && is_under client tag one then 1 else 0
taken_back coming file one = 0

-- 1 where it cuts the connection of its client, or the client leaves it
abbrev pub cut_off : Manager → Coming → Tagged → ℕ
cut_off manager (Coming.IsCut client) one = if manager.server.present client && is_of client one then 1 else 0
cut_off manager (Coming.Leaves client file_ids tags) one =
    if manager.server.present client && is_left client tags one then 1 else 0
cut_off manager coming one = 0

-- What becomes of a request on a file: it is answered, or waits there as it was, or was taken back, or its client was cut or
-- has left it.
--   once: it is exactly one of these, and once
--   told: that it was taken back is told, once
--   same: what waits there under its tag is itself
pub record IsAccountedFor (manager : Manager) (coming : Coming) (file : ℕ) (one : Tagged) : Type 0 where
  pub once : answers one.tag (managed manager coming).told
      + waiting_under one.tag ((managed manager coming).manager.queues file)
      + taken_back coming file one + cut_off manager coming one ≡ 1
  pub told : withdrawals one.tag (managed manager coming).told ≡ taken_back coming file one
  pub same : (other : Tagged) → Among other ((managed manager coming).manager.queues file)
      → (other.tag == one.tag) ≡ true → other ≡ one

-- the request is about this file, if about any
abbrev pub IsOn : Result ℕ Status → ℕ → Type 0
IsOn (Ok other) file = other ≡ file
IsOn (Err status) file = ⊤

-- A request comes to its file. (That of a client which isn't connected comes to none: nothing is done for it.)
abbrev pub ComesTo : Manager → Coming → ℕ → Tagged → Type 0
ComesTo manager (Coming.Asks client tag request) file one = (manager.server.present client ≡ true)
    × (one ≡ tagged_of manager.server tag client (bare_request request))
    × IsOn (file_asked manager.server client (bare_request request)) file
ComesTo manager coming file one = ⊥

-- So it is of each request that waited on the file, or comes to it.
abbrev pub NoneIsDropped : Type 0
NoneIsDropped = (manager : Manager) (coming : Coming) (file : ℕ) (one : Tagged)
    → ((tag : ℕ) → IsOnce tag (handling manager)) → HasFreeTag manager coming
    → Among one (manager.queues file) ⊎ ComesTo manager coming file one → IsAccountedFor manager coming file one

-- What is taken back waits no longer, also where two waited under the tag.
abbrev pub WithdrawnAreGone : Type 0
WithdrawnAreGone = (manager : Manager) (file client tag : ℕ) (one : Tagged)
    → Among one ((managed manager (Coming.Withdraws file client tag)).manager.queues file) → is_under client tag one ≡ false
