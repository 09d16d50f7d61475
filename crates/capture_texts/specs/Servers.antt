-- Servers, by the addresses that frames have. Lines that are called past have the newest one first.
use Rattle.std.specs.Prelude.{ℕ, zero, suc, ◌+◌, Bool, if◌then◌else◌, List, [], ◌∷◌, ◌++◌, unwrap_or, slice_get, bytes_eq}
use Rattle.std.specs.List.{list_any}
use Rattle.capture_texts.specs.declared.line.Said.{Said}
use Rattle.capture_texts.specs.declared.line.Said.TheVariants as said
use Rattle.capture_texts.specs.declared.line.Line.{Line}

abbrev pub is_address : List ℕ → List ℕ → Bool
is_address address one = bytes_eq one address

-- the addresses, where one more is seen
abbrev pub with_server : List ℕ → List (List ℕ) → List (List ℕ)
with_server address known = if list_any (is_address address) known then known else known ++ address ∷ []

abbrev pub servers_by : Said → List (List ℕ) → List (List ℕ)
servers_by (said.Frame frame) known = with_server frame.server known
servers_by _ known = known

-- the addresses of servers, each once, in the order in which they come
abbrev pub servers : List Line → List (List ℕ)
servers [] = []
servers (line ∷ past) = servers_by line.said (servers past)

-- the place of an address, where the first one has a number; 0 where it isn't among them
abbrev pub number_from : ℕ → List ℕ → List (List ℕ) → ℕ
number_from number address [] = 0
number_from number address (one ∷ known) = if bytes_eq one address then number else number_from (number + 1) address known

-- servers are numbered from 1
abbrev pub server_number : List ℕ → List (List ℕ) → ℕ
server_number address known = number_from 1 address known

abbrev pub address_of : ℕ → List (List ℕ) → List ℕ
address_of zero known = []
address_of (suc place) known = unwrap_or (slice_get known place) []
