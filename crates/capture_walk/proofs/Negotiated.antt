-- Whose connections are, after one more NEGOTIATE.
use Rattle.std.proofs.Common.{◌≡◌, ℕ, ◌==◌, if◌then◌else◌, Bool, true, false, List, [], ◌∷◌, Option, Some}
use Rattle.std.proofs.Common.{bytes_eq, unwrap_or, refl, sym, ap, ◌∙◌, arith}
use Rattle.std.proofs.lemmas.Bool.Decides.{nat_tests}
use Rattle.std.proofs.lemmas.Slice.Eq.{bytes_eq-Decides}
use Rattle.std.specs.BTreeMap.{Updates, is_at}
use Rattle.std.specs.Cmp.Lexicographic.{slice_cmp}
use Rattle.std.specs.Ordering.{is_eq, nat_cmp}
use Rattle.capture_wire.specs.declared.field.Guid.{Guid}
use Rattle.capture_walk.specs.Clients.{first_negotiate, first_by, client_by, client_of, guid_by, guid_of}
use Rattle.capture_walk.specs.Clients.{guid_order, number_in, client_in, guid_in, KnowsClients}
use Rattle.capture_walk.specs.Notes.{negotiated}
use Rattle.capture_walk.specs.declared.clients.Clients.{Clients}
use Rattle.capture_walk.specs.declared.note.Seen.{Seen}

at_number : (n m : ℕ) → is_at (nat_cmp n) m ≡ (n == m)
at_number n m = grind (arith, nat_tests)

bytes_same : (xs ys : List ℕ) → is_eq (slice_cmp nat_cmp xs ys) ≡ bytes_eq xs ys
bytes_same [] [] = refl
bytes_same [] (y ∷ ys) = refl
bytes_same (x ∷ xs) [] = refl
bytes_same (x ∷ xs) (y ∷ ys) = let e = bytes_same xs ys in grind (arith, nat_tests, e)

first_if : (guid other : List ℕ) (number client : ℕ) (first : List ℕ → Option ℕ) (b : Bool) → bytes_eq guid other ≡ b
    → client ≡ unwrap_or (first guid) number
    → (if b then Some client else first other) ≡ (if b then Some (unwrap_or (first other) number) else first other)
first_if guid other number client first true same is =
    ap Some (is ∙ ap (λ (bytes : List ℕ). unwrap_or (first bytes) number) ((bytes_eq-Decides guid other).0 same))
first_if guid other number client first false same is = refl

module _ (seen : Seen) (guid : Guid) (past : List Seen) (client : ℕ) (before after : Clients) where
  number_after : client ≡ unwrap_or (first_negotiate guid.0 past) seen.number
      → Updates guid_order before.by_guid after.by_guid guid (Some client) → KnowsClients past before → (other : Guid)
      → number_in other after ≡ first_by other.0 seen.number (Some guid) (first_negotiate other.0 past)
  number_after is updates knows other =
      updates.0 other
      ∙ (ap (λ (found : Option ℕ). if is_at (guid_order guid) other then Some client else found) (knows.numbers other)
      ∙ (ap (λ (b : Bool). if b then Some client else first_negotiate other.0 past) (bytes_same guid.0 other.0)
      ∙ first_if guid.0 other.0 seen.number client (λ bytes. first_negotiate bytes past) (bytes_eq guid.0 other.0) refl is))

  client_after : client ≡ unwrap_or (first_negotiate guid.0 past) seen.number
      → Updates nat_cmp before.by_connection after.by_connection seen.connection (Some client) → KnowsClients past before
      → (connection : ℕ) → client_in connection after
      ≡ (if seen.connection == connection then Some (unwrap_or (first_negotiate guid.0 past) seen.number)
      else client_in connection before)
  client_after is updates knows connection =
      updates.0 connection
      ∙ (ap (λ (b : Bool). if b then Some client else client_in connection before) (at_number seen.connection connection)
      ∙ ap (λ (number : ℕ). if seen.connection == connection then Some number else client_in connection before) is)

  guid_after : client ≡ unwrap_or (first_negotiate guid.0 past) seen.number
      → Updates nat_cmp before.guids after.guids client (Some guid) → KnowsClients past before
      → (other : ℕ) → guid_in other after
      ≡ (if unwrap_or (first_negotiate guid.0 past) seen.number == other then Some guid else guid_in other before)
  guid_after is updates knows other =
      updates.0 other
      ∙ (ap (λ (b : Bool). if b then Some guid else guid_in other before) (at_number client other)
      ∙ ap (λ (number : ℕ). if number == other then Some guid else guid_in other before) is)

  pub knows_one_more : negotiated seen.note ≡ Some guid → client ≡ unwrap_or (number_in guid before) seen.number
      → Updates nat_cmp before.by_connection after.by_connection seen.connection (Some client)
      → Updates guid_order before.by_guid after.by_guid guid (Some client)
      → Updates nat_cmp before.guids after.guids client (Some guid)
      → KnowsClients past before → KnowsClients (seen ∷ past) after
  knows_one_more given number connections numbers guids knows =
      let is : client ≡ unwrap_or (first_negotiate guid.0 past) seen.number =
      number ∙ ap (λ (found : Option ℕ). unwrap_or found seen.number) (knows.numbers guid) in
      record {
        numbers = λ other. number_after is numbers knows other
            ∙ ap (λ (one : Option Guid). first_by other.0 seen.number one (first_negotiate other.0 past)) (sym given);
        connections = λ connection. client_after is connections knows connection
            ∙ (ap (λ (found : Option ℕ). client_by connection seen (Some guid) past found) (knows.connections connection)
            ∙ ap (λ (one : Option Guid). client_by connection seen one past (client_of connection past)) (sym given));
        guids = λ other. guid_after is guids knows other
            ∙ (ap (λ (found : Option Guid). guid_by other seen (Some guid) past found) (knows.guids other)
            ∙ ap (λ (one : Option Guid). guid_by other seen one past (guid_of other past)) (sym given));
      }
