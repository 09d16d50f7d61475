-- Create contexts as they are written (profile, where MS-SMB2 2.2.13.2 leaves it open): the lease context,
-- then the durable one, then the reconnect, without padding between them, since each is a multiple of 8 long.
use Rattle.std.specs.Prelude.{◌≡◌, ℕ, ◌+◌, ◌<◌, ◌^◌, ◌++◌, Bool, true, false, ◌||◌, if◌then◌else◌, List, [], length, Option, Some}
use Rattle.std.specs.Prelude.{None, is_some, IfSome}
use Rattle.byteorder.specs.Endian.{little_bytes}
use Rattle.lease_state.specs.State.{bits_of_state}
use Rattle.lease_wire.specs.Names.{LeaseView, CreateView, lease_name, durable_name, reconnect_name}
use Rattle.lease_wire.specs.declared.create.Direction.{Direction}
use Rattle.lease_wire.specs.declared.create.Direction.TheVariants.{Request, Reply}

-- a header with its name: NameOffset 16, NameLength 4, Reserved 0, DataOffset 24, and four bytes of
-- padding after the name
abbrev pub header_bytes : ℕ → List ℕ → ℕ → List ℕ
header_bytes next name count =
    little_bytes 4 next ++ (little_bytes 2 16 ++ (little_bytes 2 4 ++ (little_bytes 2 0 ++ (little_bytes 2 24
    ++ (little_bytes 4 count ++ (name ++ little_bytes 4 0))))))

-- a context: Next is its length where another one follows, else 0
abbrev pub context_bytes : Bool → List ℕ → List ℕ → List ℕ
context_bytes followed name body =
    header_bytes (if followed then 24 + length body else 0) name (length body) ++ body

-- LeaseKey, LeaseState, LeaseFlags, LeaseDuration 0
abbrev pub lease_body : LeaseView → List ℕ
lease_body lease =
    lease.key ++ (little_bytes 4 (bits_of_state lease.state)
    ++ (little_bytes 4 (if lease.breaking then 2 else 0) ++ little_bytes 8 0))

-- 16 zero bytes in a request, 8 in a response
abbrev pub durable_body : Direction → List ℕ
durable_body Request = little_bytes 8 0 ++ little_bytes 8 0
durable_body Reply = little_bytes 8 0

-- Persistent and Volatile both hold the FileId (profile)
abbrev pub reconnect_body : ℕ → List ℕ
reconnect_body file_id = little_bytes 8 file_id ++ little_bytes 8 file_id

abbrev pub lease_bytes : Bool → Option LeaseView → List ℕ
lease_bytes followed None = []
lease_bytes followed (Some lease) = context_bytes followed lease_name (lease_body lease)

abbrev pub durable_bytes : Direction → Bool → Bool → List ℕ
durable_bytes direction followed false = []
durable_bytes direction followed true = context_bytes followed durable_name (durable_body direction)

abbrev pub reconnect_bytes : Option ℕ → List ℕ
reconnect_bytes None = []
reconnect_bytes (Some file_id) = context_bytes false reconnect_name (reconnect_body file_id)

-- the canonical text of what is asked for or granted
unfoldable pub canonical_text : Direction → CreateView → List ℕ
canonical_text direction v =
    lease_bytes (v.durable || is_some v.reconnect) v.lease
    ++ (durable_bytes direction (is_some v.reconnect) v.durable ++ reconnect_bytes v.reconnect)

-- A value that can be written: a key has 16 bytes, a FileId fits its field, a request tells of no
-- break in progress, and a response has no reconnect.
abbrev pub IsDirected : Direction → CreateView → Type 0
IsDirected Request v = IfSome v.lease (λ lease. lease.breaking ≡ false)
IsDirected Reply v = v.reconnect ≡ None

pub record IsWritable (direction : Direction) (v : CreateView) : Type 0 where
  pub key : IfSome v.lease (λ lease. length lease.key ≡ 16)
  pub file_id : IfSome v.reconnect (λ file_id. file_id < 2 ^ 64)
  pub directed : IsDirected direction v
