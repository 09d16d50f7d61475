-- The words in which states, keys and contexts are printed.
use Rattle.std.specs.Prelude.{ℕ, ◌++◌, Bool, ◌||◌, List, [], ◌∷◌, length, codes, if◌then◌else◌, Option, Some, None, is_some, Ok}
use Rattle.std.specs.Prelude.{Err}
use Rattle.std.specs.Fmt.{decimal}
use Rattle.std.specs.List.{flat_map}
use Rattle.hex.specs.Hex.{encode_lower}
use Rattle.uuid.specs.Text.{hyphenated_text, lower}
use Rattle.lease_texts.specs.Words.{state_word}
use Rattle.lease_wire.specs.Chain.{ContextView}
use Rattle.lease_wire.specs.Names.{LeaseView, CreateView}
use Rattle.lease_wire.specs.Notification.{Notice}
use Rattle.lease_wire.specs.Acknowledgment.{KeyAndState}
use Rattle.lease_wire.specs.Reading.{Item}

-- a key's bytes as they stand, hyphenated
abbrev pub key_text : List ℕ → List ℕ
key_text key = hyphenated_text lower key

-- a name's bytes as digits, or "-" where it has none
abbrev pub name_word : List ℕ → List ℕ
name_word [] = codes "-"
name_word (byte ∷ bytes) = encode_lower (byte ∷ bytes)

abbrev pub context_line : ContextView → List ℕ
context_line context = codes "context " ++ name_word context.name ++ codes " " ++ decimal (length context.body) ++ 10 ∷ []

-- a fault tells no line
abbrev pub item_line : Item → List ℕ
item_line (Ok context) = context_line context
item_line (Err fault) = []

abbrev pub lease_line : LeaseView → List ℕ
lease_line lease =
    codes "lease " ++ key_text lease.key ++ codes " " ++ state_word lease.state
    ++ (if lease.breaking then codes " breaking" else []) ++ 10 ∷ []

abbrev pub lease_lines : Option LeaseView → List ℕ
lease_lines None = []
lease_lines (Some lease) = lease_line lease

abbrev pub durable_lines : Bool → List ℕ
durable_lines durable = if durable then codes "durable" ++ 10 ∷ [] else []

abbrev pub reconnect_lines : Option ℕ → List ℕ
reconnect_lines None = []
reconnect_lines (Some file_id) = codes "reconnect " ++ decimal file_id ++ 10 ∷ []

-- what is asked for or granted, or "nothing"
abbrev pub value_lines : CreateView → List ℕ
value_lines v =
    if is_some v.lease || (v.durable || is_some v.reconnect)
    then lease_lines v.lease ++ durable_lines v.durable ++ reconnect_lines v.reconnect
    else codes "nothing" ++ 10 ∷ []

-- contexts and their value
abbrev pub create_text : List Item → CreateView → List ℕ
create_text items v = flat_map item_line items ++ value_lines v

abbrev pub break_line : Notice → List ℕ
break_line v =
    codes "break " ++ key_text v.key ++ codes " " ++ state_word v.current ++ codes " to " ++ state_word v.new
    ++ (if v.ack_required then codes " ack" else codes " no ack") ++ 10 ∷ []

-- an acknowledgment or a response, after the word that says which it is
abbrev pub key_and_state_line : List ℕ → KeyAndState → List ℕ
key_and_state_line word v = word ++ codes " " ++ key_text v.key ++ codes " " ++ state_word v.state ++ 10 ∷ []
