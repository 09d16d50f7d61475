-- The messages to a client since it joined last.
use Rattle.std.specs.Prelude.{ℕ, zero, suc, ◌+◌, List, ◌∷◌, [], ◌++◌, length, map, Option, None, if◌then◌else◌, ◌==◌, slice_get}
use Rattle.lease_model.specs.records.Facts.{Fact}
use Rattle.lease_model.specs.records.Past.{sendings, takings}

-- where messages were sent, and how many were taken
pub record Mail : Type 0 where
  pub sent : List ℕ
  pub taken : ℕ

-- a fact stands after its past
abbrev pub place_behind : List Fact → ℕ
place_behind past = length past + 1

unfoldable pub mail_of : ℕ → List Fact → Mail
mail_of client past = record { sent = map place_behind (sendings client past); taken = takings client past }

-- after the fact at a place
abbrev pub mail_after : ℕ → ℕ → Fact → Mail → Mail
mail_after client place (Fact.Joined other) mail = if other == client then record { sent = []; taken = 0 } else mail
mail_after client place (Fact.Sent other) mail = if other == client then record mail { sent = mail.sent ++ place ∷ [] } else mail
mail_after client place (Fact.Took other) mail = if other == client then record mail { taken = mail.taken + 1 } else mail
mail_after client place _ mail = mail

abbrev pub last_sent : ℕ → List ℕ → Option ℕ
last_sent zero sent = None
last_sent (suc count) sent = slice_get sent count
