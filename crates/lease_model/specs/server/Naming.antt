-- Under which key a request or an open stands, and the lease of that key (MS-SMB2 3.3.5.9.8).
use Rattle.std.specs.Prelude.{ℕ, Option, Some, None, List}
use Rattle.lease_model.specs.messages.Requests.{LeaseOf}
use Rattle.lease_model.specs.server.State.{Server, Open, Lease, no_lease}
use Rattle.lease_model.specs.values.Keys.{Key}

abbrev pub key_of : ℕ → List ℕ → Key
key_of client bytes = record { client = client; bytes = bytes }

-- the key of a request, from its client and its RqLs context
abbrev pub own_key : ℕ → Option LeaseOf → Option Key
own_key client None = None
own_key client (Some asked) = Some (key_of client asked.key)

-- the key of an open
abbrev pub key_under : ℕ → Option (List ℕ) → Option Key
key_under client None = None
key_under client (Some bytes) = Some (key_of client bytes)

abbrev pub key_of_open : Open → Option Key
key_of_open one = key_under one.client one.lease_key

-- the lease under which an open stands
abbrev pub lease_by : Server → ℕ → Option (List ℕ) → Lease
lease_by server client None = no_lease
lease_by server client (Some bytes) = server.leases (key_of client bytes)

abbrev pub lease_of_open : Server → Open → Lease
lease_of_open server one = lease_by server one.client one.lease_key
