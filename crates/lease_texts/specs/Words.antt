-- The words that are written for values.
use Rattle.std.specs.Prelude.{ℕ, Bool, true, false, List, [], ◌∷◌, codes, bytes_eq, if◌then◌else◌, Option, Some, None}
use Rattle.lease_state.specs.{State.State, declared.access.Access.Access, declared.access.Share.Share, declared.rules.Order.Order}
use Rattle.lease_state.specs.{declared.rules.Rise.Rise, declared.rules.Rules.Rules}
use Rattle.{hex.specs.Hex.encode_lower, lease_client.specs.declared.values.note.Settlement.Settlement}

-- the value with this word, among some of which each has one
unfoldable pub of_word : {X : Type 0} → (X → List ℕ) → List X → List ℕ → Option X
of_word word_of [] word = None
of_word word_of (x ∷ xs) word = if bytes_eq word (word_of x) then Some x else of_word word_of xs word

-- the letters of a state in the order R, W, H, or "none"
abbrev pub state_word : State → List ℕ
state_word s = word s.read s.write s.handle
  where
    word : Bool → Bool → Bool → List ℕ
    word false false false = codes "none"
    word true false false = codes "R"
    word false true false = codes "W"
    word false false true = codes "H"
    word true true false = codes "RW"
    word true false true = codes "RH"
    word false true true = codes "WH"
    word true true true = codes "RWH"

-- bytes in lower case digits, or a hyphen where there are none
abbrev pub digits_word : List ℕ → List ℕ
digits_word [] = codes "-"
digits_word (byte ∷ bytes) = encode_lower (byte ∷ bytes)

abbrev pub access_word : Access → List ℕ
access_word Access.Read = codes "r"
access_word Access.Write = codes "w"
access_word Access.ReadWrite = codes "rw"

abbrev pub share_word : Share → List ℕ
share_word Share.Nothing = codes "-"
share_word Share.Read = codes "r"
share_word Share.Write = codes "w"
share_word Share.ReadWrite = codes "rw"

abbrev pub rules_word : Rules → List ℕ
rules_word rules = word rules.order rules.rise
  where
    word : Order → Rise → List ℕ
    word Order.ByClient Rise.AsFree = codes "by-client,as-free"
    word Order.ByClient Rise.Whole = codes "by-client,whole"
    word Order.ByKey Rise.AsFree = codes "by-key,as-free"
    word Order.ByKey Rise.Whole = codes "by-key,whole"

abbrev pub outcome_word : Settlement → List ℕ
outcome_word Settlement.Done = codes "done"
outcome_word Settlement.Failed = codes "failed"
outcome_word Settlement.Unknown = codes "unknown"
outcome_word Settlement.Lost = codes "lost"

-- the way of a write
abbrev pub way_word : Bool → List ℕ
way_word true = codes "buffered"
way_word false = codes "through"
