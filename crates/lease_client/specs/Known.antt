-- What a client knows as plain lists, and the client of the rules that they stand for.
use Rattle.std.specs.Prelude.{ℕ, zero, suc, Bool, Option, None, List, [], length}
use Rattle.std.specs.List.{slice_get}
use Rattle.lease_model.specs.values.Tables.{numbered}
use Rattle.lease_model.specs.client.State.{Client, Entry, closed_entry}

-- files are numbered from 1, in the order of their entries
pub record Known : Type 0 where
  pub guid : List ℕ
  pub is_online : Bool
  pub last_number : ℕ
  pub entries : List Entry

-- the client that the lists stand for; a number without a file has a closed entry
abbrev pub client_of : Known → Client
client_of known = record {
  guid = known.guid;
  files = length known.entries;
  is_online = known.is_online;
  last_number = known.last_number;
  entries = numbered (closed_entry []) known.entries;
}

-- the entry of a number
abbrev pub entry_at : List Entry → ℕ → Option Entry
entry_at entries zero = None
entry_at entries (suc n) = slice_get entries n
