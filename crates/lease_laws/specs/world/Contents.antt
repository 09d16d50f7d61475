-- What the record says of contents is so in every run, and a read that was answered tells the content of its file
-- as it stood where the answer was sent.
use Rattle.std.specs.Prelude.{◌≡◌, ⊤, ℕ, true, List, [], ◌∷◌, drop}
use Rattle.lease_state.specs.declared.rules.Rules.{Rules}
use Rattle.lease_model.specs.messages.Replies.{Reply}
use Rattle.lease_model.specs.records.Facts.{Fact}
use Rattle.lease_model.specs.records.Past.{sendings, takings}
use Rattle.lease_model.specs.world.Allowed.{is_allowed_setup}
use Rattle.lease_model.specs.world.Events.{Event, after}
use Rattle.lease_model.specs.world.World.{Setup, first_world_under}
use Rattle.lease_laws.specs.records.Runs.{content_of}
use Rattle.lease_laws.specs.world.FileIds.{was_opened}
use Rattle.lease_laws.specs.world.Links.{is_up}

-- the contents of the server are those of the record
abbrev pub ContentsAreTold : Type 0
ContentsAreTold = (rules : Rules) (setup : Setup) (events : List Event) → is_allowed_setup setup ≡ true → (file : ℕ)
    → (after (first_world_under rules setup) events).server.contents file
    ≡ content_of file (after (first_world_under rules setup) events).past

-- A reply to a read has the bytes that the file of its FileId had at the place where it was sent.
abbrev pub IsOfPlace : ℕ → List Fact → Reply → Type 0
IsOfPlace client place (Reply.ReadDone file_id bytes) =
    (file : ℕ) × (was_opened file_id file client place ≡ true) × (content_of file place ≡ bytes)
IsOfPlace client place reply = ⊤

-- as many places as replies, each with its own
abbrev pub AreInStep : ℕ → List (List Fact) → List Reply → Type 0
AreInStep client [] [] = ⊤
AreInStep client [] (reply ∷ replies) = ⊥
AreInStep client (place ∷ places) [] = ⊥
AreInStep client (place ∷ places) (reply ∷ replies) =
    IsOfPlace client place reply × AreInStep client places replies

-- So are the replies that are on their way to a client, at the places where they were sent.
abbrev pub RepliesAreOfTheirPlaces : Type 0
RepliesAreOfTheirPlaces = (rules : Rules) (setup : Setup) (events : List Event) → is_allowed_setup setup ≡ true → (client : ℕ)
    → is_up ((after (first_world_under rules setup) events).links client) ≡ true
    → AreInStep client
    (drop (takings client (after (first_world_under rules setup) events).past)
    (sendings client (after (first_world_under rules setup) events).past))
    ((after (first_world_under rules setup) events).replies client)
