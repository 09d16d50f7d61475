-- How many creates of a file are under way: asked, held, or answered and not yet taken (profile).
use Rattle.std.specs.Prelude.{◌≡◌, ℕ, ◌+◌, Bool, true, false, List, [], ◌∷◌, ◌==◌, filter}
use Rattle.lease_model.specs.client.Commanded.{is_asking}
use Rattle.lease_model.specs.client.State.{Client, Phase}
use Rattle.lease_model.specs.messages.Replies.{Reply}
use Rattle.lease_model.specs.messages.Requests.{FileRequest, Request}
use Rattle.lease_model.specs.server.State.{Held}
use Rattle.lease_model.specs.world.World.{World}
use Rattle.lease_laws.specs.world.Links.{is_up}

-- the requests of a client among those that are held
abbrev pub held_by : ℕ → List Held → List Held
held_by client held = filter (λ one. one.client == client) held

-- the entry has a create under way
abbrev pub has_asked : Phase → Bool
has_asked Phase.Closed = false
has_asked (Phase.Opening access share) = true
has_asked (Phase.Live live) = is_asking live
has_asked (Phase.Offline parted) = false
has_asked (Phase.Reconnecting parted) = true

abbrev pub one_if : Bool → ℕ
one_if true = 1
one_if false = 0

abbrev pub create_of : ℕ → FileRequest → ℕ
create_of file (FileRequest.Create other access share contexts) = one_if (other == file)
create_of file request = 0

abbrev pub creates : ℕ → List Request → ℕ
creates file [] = 0
creates file (Request.OnFile request ∷ queue) = create_of file request + creates file queue
creates file (Request.Acknowledge given ∷ queue) = creates file queue

abbrev pub held_creates : ℕ → List Held → ℕ
held_creates file [] = 0
held_creates file (one ∷ held) = create_of file one.request + held_creates file held

abbrev pub answer_of : ℕ → Reply → ℕ
answer_of file (Reply.Created other file_id contexts) = one_if (other == file)
answer_of file (Reply.CreateFailed other status) = one_if (other == file)
answer_of file reply = 0

abbrev pub answers : ℕ → List Reply → ℕ
answers file [] = 0
answers file (reply ∷ queue) = answer_of file reply + answers file queue

abbrev pub under_way : World → ℕ → ℕ → ℕ
under_way world client file = creates file (world.requests client)
    + held_creates file (held_by client (world.server.held file)) + answers file (world.replies client)

-- the creates under way that an entry stands for
abbrev pub asked_by : Client → ℕ → ℕ
asked_by client file = one_if (has_asked (client.entries file).phase)

-- While a link is up, a create of a file is under way exactly where the entry has asked for one.
abbrev pub IsCountedAt : World → ℕ → Type 0
IsCountedAt world client = is_up (world.links client) ≡ true → (file : ℕ)
    → under_way world client file ≡ asked_by (world.clients client) file
