-- What the words of a line say.
use Rattle.std.specs.Prelude.{ℕ, ◌+◌, ◌-◌, ◌*◌, ◌^◌, ◌==◌, ◌&&◌, Bool, true, false, nat_le, nat_lt, List, [], ◌∷◌, length, codes}
use Rattle.std.specs.Prelude.{bytes_eq, if◌then◌else◌, map, Option, Some, None}
use Rattle.lease_client.specs.declared.values.note.Settlement.{Settlement}
use Rattle.lease_state.specs.declared.{access.Access.Access, rules.Order.Order, rules.Rise.Rise, rules.Rules.Rules}
use Rattle.lease_state.specs.declared.{access.Share.Share, content.TheConstants.FILE_LIMIT, state.LeaseState.LeaseState}
use Rattle.lease_texts.specs.Words.{access_word, of_word, outcome_word, rules_word, share_word, state_word, way_word}
use Rattle.{std.specs.Result.result_ok, hex.specs.Hex.decode_of, hex.specs.Hex.decode_sized, lease_state.specs.State.state_of}

-- a decimal number of 64 bits, without sign and without leading zeros
abbrev pub digit_behind : ℕ → ℕ → Option ℕ
digit_behind value digit =
    if nat_le 48 digit && nat_le digit 57 && nat_lt (value * 10 + (digit - 48)) (2 ^ 64)
    then Some (value * 10 + (digit - 48)) else None

unfoldable pub number_after : Option ℕ → List ℕ → Option ℕ
number_after None digits = None
number_after (Some value) [] = Some value
number_after (Some value) (digit ∷ digits) = number_after (digit_behind value digit) digits

unfoldable pub number_in : List ℕ → Option ℕ
number_in [] = None
number_in (first ∷ []) = number_after (Some 0) (first ∷ [])
number_in (first ∷ second ∷ digits) = if first == 48 then None else number_after (Some 0) (first ∷ second ∷ digits)

-- hexadecimal digits of either case, at least two, or a hyphen for no bytes
unfoldable pub bytes_in : List ℕ → Option (List ℕ)
bytes_in [] = None
bytes_in (first ∷ digits) = if bytes_eq (first ∷ digits) (codes "-") then Some [] else result_ok (decode_of (first ∷ digits))

abbrev pub access_in : List ℕ → Option Access
access_in word = of_word access_word (Access.Read ∷ Access.Write ∷ Access.ReadWrite ∷ []) word

abbrev pub share_in : List ℕ → Option Share
share_in word = of_word share_word (Share.Nothing ∷ Share.Read ∷ Share.Write ∷ Share.ReadWrite ∷ []) word

abbrev pub rules : Order → Rise → Rules
rules order rise = record { order = order; rise = rise }

abbrev pub rules_in : List ℕ → Option Rules
rules_in word = of_word rules_word (rules Order.ByClient Rise.AsFree ∷ rules Order.ByClient Rise.Whole
    ∷ rules Order.ByKey Rise.AsFree ∷ rules Order.ByKey Rise.Whole ∷ []) word

-- the state of a number of the wire
abbrev pub state_of_wire : ℕ → LeaseState
state_of_wire bits = record { 0 = bits }

abbrev pub state_in : List ℕ → Option LeaseState
state_in word = of_word (λ state. state_word (state_of state)) (map state_of_wire (0 ∷ 1 ∷ 2 ∷ 3 ∷ 4 ∷ 5 ∷ 6 ∷ 7 ∷ [])) word

abbrev pub way_in : List ℕ → Option Bool
way_in word = of_word way_word (true ∷ false ∷ []) word

abbrev pub outcome_in : List ℕ → Option Settlement
outcome_in word =
    of_word outcome_word (Settlement.Done ∷ Settlement.Failed ∷ Settlement.Unknown ∷ Settlement.Lost ∷ []) word

-- as many bytes as a message has
abbrev pub sized_in : ℕ → List ℕ → Option (List ℕ)
sized_in size field = result_ok (decode_sized field size)

-- the number of a client or of a file
abbrev pub ordinal_of : Option ℕ → Option ℕ
ordinal_of None = None
ordinal_of (Some number) = if number == 0 then None else (if nat_lt number 256 then Some number else None)

abbrev pub ordinal_in : List ℕ → Option ℕ
ordinal_in field = ordinal_of (number_in field)

abbrev pub offset_of : Option ℕ → Option ℕ
offset_of None = None
offset_of (Some number) = if nat_lt number (2 ^ 32) then Some number else None

abbrev pub offset_in : List ℕ → Option ℕ
offset_in field = offset_of (number_in field)

-- bytes that a file can hold
abbrev pub content_of : Option (List ℕ) → Option (List ℕ)
content_of None = None
content_of (Some bytes) = if nat_le (length bytes) FILE_LIMIT then Some bytes else None

abbrev pub content_in : List ℕ → Option (List ℕ)
content_in field = content_of (bytes_in field)
