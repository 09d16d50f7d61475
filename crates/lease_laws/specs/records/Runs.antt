-- What a record says, said in shorter ways that hold of records of runs. In these the files are
-- started before anything else happens.
use Rattle.std.specs.Prelude.{◌≡◌, ℕ, Bool, true, false, List, [], ◌∷◌, ◌==◌, if◌then◌else◌, ◌++◌, ◌&&◌, not}
use Rattle.std.specs.List.{list_all}
use Rattle.lease_laws.specs.client.Laws.{IsSoundClient}
use Rattle.lease_state.specs.declared.rules.Rules.{Rules}
use Rattle.lease_model.specs.client.Taken.{is_numbered}
use Rattle.lease_model.specs.client.State.{Pending, patches_of}
use Rattle.lease_model.specs.values.Lists.{without}
use Rattle.lease_state.specs.Content.{patch as patched}
use Rattle.lease_model.specs.world.Events.{Event, after}
use Rattle.lease_model.specs.records.Facts.{Fact}
use Rattle.lease_model.specs.records.Past.{content_at, sendings, is_settled, unanswered}
use Rattle.lease_laws.specs.server.Laws.{Among}
use Rattle.lease_model.specs.world.World.{Setup, first_world_under}

abbrev pub is_start : Fact → Bool
is_start (Fact.Start file bytes) = true
is_start _ = false

-- before a Start stands nothing else; the list is newest first
unfoldable pub starts_first : List Fact → Bool
starts_first [] = true
starts_first (Fact.Start file bytes ∷ past) = list_all is_start past
starts_first (_ ∷ past) = starts_first past

-- the content of a file, fact by fact
unfoldable pub content_of : ℕ → List Fact → List ℕ
content_of file [] = []
content_of file (Fact.Start other bytes ∷ past) = if other == file then bytes else content_of file past
content_of file (Fact.Changed other client number patch ∷ past) =
    if other == file then patched (content_of file past) patch else content_of file past
content_of file (_ ∷ past) = content_of file past

-- In the record of a run, nothing stands before a Start but others.
abbrev pub RunsStartFirst : Type 0
RunsStartFirst = (rules : Rules) (setup : Setup) (events : List Event)
    → starts_first (after (first_world_under rules setup) events).past ≡ true

-- In such a record the content of a file now is that of the facts so far,
abbrev pub ContentNow : Type 0
ContentNow = (file : ℕ) (past : List Fact) → starts_first past ≡ true
    → content_at file past past ≡ content_of file past

-- and its content where a message was sent to a client is that of the facts up to there.
abbrev pub ContentWhenSent : Type 0
ContentWhenSent = (client file : ℕ) (past place : List Fact) → starts_first past ≡ true
    → Among place (sendings client past) → content_at file past place ≡ content_of file place

-- the writes of a client on a file that aren't settled, in order, fact by fact
unfoldable pub open_writes : ℕ → ℕ → List Fact → List Pending
open_writes client file [] = []
open_writes client file (Fact.Wrote writer other number patch buffered ∷ past) =
    if writer == client && other == file
    then open_writes client file past ++ record { number = number; patch = patch; buffered = buffered } ∷ []
    else open_writes client file past
open_writes client file (Fact.Settled other number outcome ∷ past) =
    if other == client then without (is_numbered number) (open_writes client file past)
    else open_writes client file past
open_writes client file (_ ∷ past) = open_writes client file past

-- no write of the client is settled before it is given
unfoldable pub gives_first : ℕ → List Fact → Bool
gives_first client [] = true
gives_first client (Fact.Wrote writer file number patch buffered ∷ past) =
    not (writer == client && is_settled client number past) && gives_first client past
gives_first client (_ ∷ past) = gives_first client past

-- Where that is so, these are the unanswered writes.
abbrev pub WritesNow : Type 0
WritesNow = (client file : ℕ) (past : List Fact) → gives_first client past ≡ true
    → unanswered client file past ≡ patches_of (open_writes client file past)

-- In the record of a run no write of a client is settled before it is given.
abbrev pub RunsGiveFirst : Type 0
RunsGiveFirst = (rules : Rules) (setup : Setup) (events : List Event) (client : ℕ)
    → gives_first client (after (first_world_under rules setup) events).past ≡ true

-- And every client is as the laws of clients say.
abbrev pub ClientsOfRunsAreSound : Type 0
ClientsOfRunsAreSound = (rules : Rules) (setup : Setup) (events : List Event) (client : ℕ)
    → IsSoundClient ((after (first_world_under rules setup) events).clients client)
