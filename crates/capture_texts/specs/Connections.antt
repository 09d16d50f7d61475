-- Connections: their addresses are those of their first frames. Lines that are called past have the newest one first.
use Rattle.std.specs.Prelude.{◌≡◌, ℕ, ◌==◌, ◌&&◌, Bool, false, not, if◌then◌else◌, List, [], ◌∷◌, Option, Some, None, bytes_eq}
use Rattle.std.specs.BTreeMap.{get}
use Rattle.std.specs.Ordering.{nat_cmp}
use Rattle.capture_texts.specs.Positions.{near_positions, far_earliest}
use Rattle.capture_texts.specs.declared.line.Side.{Side}
use Rattle.capture_texts.specs.declared.line.FrameSaid.{FrameSaid}
use Rattle.capture_texts.specs.declared.line.Said.{Said}
use Rattle.capture_texts.specs.declared.line.Said.TheVariants as said
use Rattle.capture_texts.specs.declared.line.Line.{Line}
use Rattle.capture_texts.specs.declared.connections.Connection.{Connection}
use Rattle.capture_texts.specs.declared.connections.Connections.{Connections}

-- ---- by looking back

-- the addresses of the client and of the server
pub record Ends : Type 0 where
  pub client : List ℕ
  pub server : List ℕ

abbrev pub ends_at : List ℕ → List ℕ → Ends
ends_at client server = record { client = client; server = server }

-- where one more frame comes on a connection
abbrev pub first_ends : FrameSaid → Option Ends → Option Ends
first_ends frame None = Some (ends_at frame.client frame.server)
first_ends frame (Some ends) = Some ends

abbrev pub ends_by : ℕ → ℕ → Said → Option Ends → Option Ends
ends_by connection other (said.Frame frame) before = if other == connection then first_ends frame before else before
ends_by connection other _ before = before

abbrev pub ends_of : ℕ → List Line → Option Ends
ends_of connection [] = None
ends_of connection (line ∷ past) = ends_by connection line.connection line.said (ends_of connection past)

-- the frame has other addresses than its connection
abbrev pub differs_from : Option Ends → FrameSaid → Bool
differs_from None frame = false
differs_from (Some ends) frame = not (bytes_eq ends.client frame.client && bytes_eq ends.server frame.server)

abbrev pub differs_by : ℕ → Said → List Line → Bool
differs_by connection (said.Frame frame) past = differs_from (ends_of connection past) frame
differs_by connection _ past = false

abbrev pub differs : Line → List Line → Bool
differs line past = differs_by line.connection line.said past

-- no byte where it isn't known
abbrev pub server_in : Option Ends → List ℕ
server_in None = []
server_in (Some ends) = ends.server

abbrev pub client_in : Option Ends → List ℕ
client_in None = []
client_in (Some ends) = ends.client

-- ---- the table

abbrev pub connection_in : Connections → ℕ → Option Connection
connection_in connections number = get nat_cmp connections.by_number number

abbrev pub ends_in : Option Connection → Option Ends
ends_in None = None
ends_in (Some one) = Some (ends_at one.client one.server)

abbrev pub near_in : Option Connection → List ℕ
near_in None = []
near_in (Some one) = one.near.items

abbrev pub far_in : Option Connection → ℕ
far_in None = 0
far_in (Some one) = one.far

pub record KnowsConnections (at : Side) (past : List Line) (connections : Connections) : Type 0 where
  pub ends : (connection : ℕ) → ends_in (connection_in connections connection) ≡ ends_of connection past
  pub near : (connection : ℕ) → near_in (connection_in connections connection) ≡ near_positions at connection past
  pub far : (connection : ℕ) → far_in (connection_in connections connection) ≡ far_earliest at connection past
