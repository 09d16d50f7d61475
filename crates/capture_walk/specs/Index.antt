-- What is looked up of events, so that nobody has to go over all of them. Events are in the order of the capture.
use Rattle.std.specs.Prelude.{◌≡◌, ℕ, ◌==◌, nat_lt, ◌&&◌, Bool, false, not, if◌then◌else◌, List, [], ◌∷◌, Option, Some, None}
use Rattle.std.specs.Prelude.{drop, map, ◌++◌, ◌||◌}
use Rattle.std.specs.BTreeMap.{BTreeMap, get}
use Rattle.std.specs.BTreeSet.{contains}
use Rattle.std.specs.List.{list_any}
use Rattle.std.specs.Option.{is_some}
use Rattle.std.specs.Ordering.{nat_cmp}
use Rattle.std.specs.Global.{Vec}
use Rattle.capture_walk.specs.Chains.{is_same, is_file, is_gone, earliest, files_behind, files_in, leases_behind, leases_on, lost_since}
use Rattle.capture_walk.specs.LeaseMaps.{lease_order}
use Rattle.capture_walk.specs.declared.event.Lease.{Lease}
use Rattle.capture_walk.specs.declared.event.Sent.{Sent}
use Rattle.capture_walk.specs.declared.event.Event.{Event}
use Rattle.capture_walk.specs.declared.event.Event.TheVariants as event
use Rattle.capture_walk.specs.declared.index.Grants.{Grants}
use Rattle.capture_walk.specs.declared.index.Losses.{Losses}
use Rattle.capture_walk.specs.declared.index.Index.{Index}

abbrev pub items_or_none : {X : Type 0} → Option (Vec X) → List X
items_or_none None = []
items_or_none (Some found) = found.items

-- ---- leases that are granted

-- those on a file
abbrev pub leases_at : Grants → ℕ → List Lease
leases_at grants file = items_or_none (get nat_cmp grants.by_file file)

pub record AreWhole (grants : Grants) : Type 0 where
  pub files : (file : ℕ) → list_any (is_file file) grants.files.items ≡ is_some (get nat_cmp grants.by_file file)
  pub leases : (lease : Lease) → contains lease_order grants.all lease ≡ list_any (is_same lease) (leases_at grants lease.file)

-- ---- where events are that are about a lease

abbrev pub is_about : Lease → Event → Bool
is_about lease (event.Granted one) = is_same one.lease lease
is_about lease (event.Broken one) = is_same one.lease lease
is_about lease (event.Acknowledged one) = is_same one.lease lease
is_about lease (event.Ended one) = is_same one.lease lease
is_about lease _ = false

abbrev pub places_at : BTreeMap Lease (Vec ℕ) → Lease → List ℕ
places_at places lease = items_or_none (get lease_order places lease)

-- the events from each of these places on
abbrev pub from_places : List Event → List ℕ → List (List Event)
from_places events places = map (λ place. drop place events) places

-- from each event on that is about a lease
abbrev pub tails : Lease → List Event → List (List Event)
tails lease [] = []
tails lease (one ∷ later) = if is_about lease one then (one ∷ later) ∷ tails lease later else tails lease later

-- ---- from where on something is missing

abbrev pub either_lost : Option ℕ → Option ℕ → Option ℕ
either_lost found None = found
either_lost found (Some since) = Some (earliest found since)

abbrev pub lost_at : Losses → Lease → Option ℕ
lost_at losses lease = either_lost (get nat_cmp losses.clients lease.client) (get nat_cmp losses.files lease.file)

-- ---- what is shown at any time

abbrev pub is_proof_of : Sent → Event → Bool
is_proof_of sent (event.Taken proof) = proof.connection == sent.connection && not (nat_lt proof.number sent.number)
is_proof_of sent _ = false

abbrev pub is_up_to : Option ℕ → ℕ → Bool
is_up_to None number = false
is_up_to (Some greatest) number = not (nat_lt greatest number)

-- the message may be shown to be taken
abbrev pub may_be_taken : Index → Sent → Bool
may_be_taken index sent = is_up_to (get nat_cmp index.taken sent.connection) sent.number

-- the open that a message made may be found to be gone
abbrev pub may_be_gone : Index → ℕ → Bool
may_be_gone index number = contains nat_cmp index.gone number

-- ---- all of it

pub record IsIndex (events : List Event) (index : Index) : Type 0 where
  pub files : index.grants.files.items ≡ files_in events
  pub leases : (file : ℕ) → leases_at index.grants file ≡ leases_on file events
  pub places : (lease : Lease) → from_places events (places_at index.places lease) ≡ tails lease events
  pub lost : (lease : Lease) → lost_at index.losses lease ≡ lost_since lease None events
  pub taken : (sent : Sent) → may_be_taken index sent ≡ list_any (is_proof_of sent) events
  pub gone : (number : ℕ) → may_be_gone index number ≡ list_any (is_gone number) events

-- It has what events before these show of all events.
pub record Leads (left events : List Event) (index : Index) : Type 0 where
  pub whole : AreWhole index.grants
  pub files : files_behind index.grants.files.items left ≡ files_in events
  pub leases : (file : ℕ) → leases_behind file (leases_at index.grants file) left ≡ leases_on file events
  pub places : (lease : Lease) → from_places events (places_at index.places lease) ++ tails lease left ≡ tails lease events
  pub lost : (lease : Lease) → lost_since lease (lost_at index.losses lease) left ≡ lost_since lease None events
  pub taken : (sent : Sent) → (may_be_taken index sent || list_any (is_proof_of sent) left) ≡ list_any (is_proof_of sent) events
  pub gone : (number : ℕ) → (may_be_gone index number || list_any (is_gone number) left) ≡ list_any (is_gone number) events

-- What it has not isn't shown by these events either.
pub record Covers (later : List Event) (index : Index) : Type 0 where
  pub taken : (sent : Sent) → may_be_taken index sent ≡ false → list_any (is_proof_of sent) later ≡ false
  pub gone : (number : ℕ) → may_be_gone index number ≡ false → list_any (is_gone number) later ≡ false
