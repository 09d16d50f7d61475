-- Whose a connection is: that of the client with the ClientGuid of its NEGOTIATE. Several connections may be one client's.
-- Messages that are called past have the newest one first.
use Rattle.std.specs.Prelude.{◌≡◌, ℕ, ◌==◌, if◌then◌else◌, List, [], ◌∷◌, Option, Some, None, unwrap_or, bytes_eq}
use Rattle.std.specs.BTreeMap.{get}
use Rattle.std.specs.Cmp.Lexicographic.{slice_cmp}
use Rattle.std.specs.Ordering.{nat_cmp, on}
use Rattle.std.specs.declared.cmp.Ordering.{Ordering}
use Rattle.capture_wire.specs.declared.field.Guid.{Guid}
use Rattle.capture_walk.specs.Notes.{negotiated}
use Rattle.capture_walk.specs.declared.note.Seen.{Seen}
use Rattle.capture_walk.specs.declared.clients.Clients.{Clients}

-- ---- by looking back

-- the number of the first NEGOTIATE with a ClientGuid, after one more message, by the ClientGuid that it has
abbrev pub first_by : List ℕ → ℕ → Option Guid → Option ℕ → Option ℕ
first_by guid number (Some other) before = if bytes_eq other.0 guid then Some (unwrap_or before number) else before
first_by guid number None before = before

abbrev pub first_negotiate : List ℕ → List Seen → Option ℕ
first_negotiate guid [] = None
first_negotiate guid (seen ∷ past) = first_by guid seen.number (negotiated seen.note) (first_negotiate guid past)

-- the client of a connection: the number of the first NEGOTIATE with the ClientGuid of the connection's last one
abbrev pub client_by : ℕ → Seen → Option Guid → List Seen → Option ℕ → Option ℕ
client_by connection seen (Some guid) past before =
    if seen.connection == connection then Some (unwrap_or (first_negotiate guid.0 past) seen.number) else before
client_by connection seen None past before = before

abbrev pub client_of : ℕ → List Seen → Option ℕ
client_of connection [] = None
client_of connection (seen ∷ past) = client_by connection seen (negotiated seen.note) past (client_of connection past)

-- the ClientGuid of a client, by its number
abbrev pub guid_by : ℕ → Seen → Option Guid → List Seen → Option Guid → Option Guid
guid_by client seen (Some guid) past before =
    if unwrap_or (first_negotiate guid.0 past) seen.number == client then Some guid else before
guid_by client seen None past before = before

abbrev pub guid_of : ℕ → List Seen → Option Guid
guid_of client [] = None
guid_of client (seen ∷ past) = guid_by client seen (negotiated seen.note) past (guid_of client past)

-- ---- the tables

abbrev pub guid_order : Guid → Guid → Ordering
guid_order = on (λ guid. guid.0) (slice_cmp nat_cmp)

abbrev pub number_in : Guid → Clients → Option ℕ
number_in guid clients = get guid_order clients.by_guid guid

abbrev pub client_in : ℕ → Clients → Option ℕ
client_in connection clients = get nat_cmp clients.by_connection connection

abbrev pub guid_in : ℕ → Clients → Option Guid
guid_in client clients = get nat_cmp clients.guids client

pub record KnowsClients (past : List Seen) (clients : Clients) : Type 0 where
  pub numbers : (guid : Guid) → number_in guid clients ≡ first_negotiate guid.0 past
  pub connections : (connection : ℕ) → client_in connection clients ≡ client_of connection past
  pub guids : (client : ℕ) → guid_in client clients ≡ guid_of client past
