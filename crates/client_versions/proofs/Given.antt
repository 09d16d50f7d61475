-- What the machine is given of messages, and what it asks for.
use Rattle.std.proofs.Common.{◌&&◌, ◌||◌, ◌==◌, ◌∙◌, ◌≡◌, ◌∷◌, [], Bool, List, None, Option, Some, ap, ap₂, arith, false}
use Rattle.std.proofs.Common.{if◌then◌else◌, not, refl, sym, true, ℕ, ⊎_elim}
use Rattle.std.specs.Prelude.{is_some}
use Rattle.std.specs.Option.{option_map}
use Rattle.std.proofs.lemmas.Bool.Decides.{Decides-eqb}
use Rattle.lease_state.specs.State.{State}
use Rattle.lease_wire.specs.Names as first
use Rattle.lease_wire_v2.specs.EpochNotice.{EpochNotice}
use Rattle.lease_wire_v2.specs.Names.{CreateView, LeaseView, SecondView, go_together}
use Rattle.lease_wire_v2.specs.Views.{file_id_in, plain_lease, plain_of}
use Rattle.client_versions.specs.Epochs.{goes_down, is_newer, is_taken, known_after}
use Rattle.client_versions.specs.Layer.{Known, Layer}
use Rattle.client_versions.specs.Laws.{AsksTheSame, AsksTogether, ComesInOrder, DroppedChangesNothing, Event, Given}
use Rattle.client_versions.specs.Laws.{InOrderAllIsGiven, IsAnswerInOrder, IsBreakInOrder, IsInOrder, IsLeaseInOrder, given}
use Rattle.client_versions.specs.Laws.{happened, sent}
use Rattle.client_versions.specs.Rows.{again_under, asked_again, asked_durable, asked_lease, durable_under}
use Rattle.client_versions.specs.Rows.{is_given, lease_given, leases_noticed, noted, state_given, told_by}
use Rattle.client_versions.proofs.Numbers.{either}

-- ---- messages that come in order

either_state : (known told : Known) → told.state ≡ known.state → (known_after (Some known) told).state ≡ told.state
either_state known told same = either (is_taken known told)
    (λ e. rw e refl)
    (λ e. rw e (sym same))

taken_when_newer : (known told : Known) → is_newer known.epoch told.epoch ≡ true → is_taken known told ≡ true
taken_when_newer known told e = rw e refl

state_in_order : (found : Option Known) (told : Known) → IsInOrder found told → (known_after found told).state ≡ told.state
state_in_order None told order = refl
state_in_order (Some known) told order = ⊎_elim
    (λ newer. rw (taken_when_newer known told newer) refl)
    (λ same. either_state known told (ap (λ (one : Known). one.state) same))
    order

state_sent : (found : Option Known) (lease : LeaseView) (second : Option SecondView) → IsLeaseInOrder found lease second
    → state_given lease second found ≡ lease.state
state_sent found lease None order = refl
state_sent found lease (Some second) order = either lease.breaking
    (λ e. rw e refl)
    (λ e. rw e (state_in_order found (told_by lease second) (order e)))

abbrev lease_from : LeaseView → State → first.LeaseView
lease_from lease state = record { key = lease.key; state = state; breaking = lease.breaking }

lease_sent : (leases : List ℕ → Option Known) (lease : Option LeaseView) → IsAnswerInOrder leases lease
    → option_map (lease_given leases) lease ≡ option_map plain_lease lease
lease_sent leases None order = refl
lease_sent leases (Some lease) order =
    ap (λ state. Some (lease_from lease state)) (state_sent (leases lease.key) lease lease.second order)

abbrev with_lease : CreateView → Option first.LeaseView → Given
with_lease answer lease = Given.Answer (record (plain_of answer) { lease = lease })

break_taken : (found : Option Known) (notice : EpochNotice) → IsBreakInOrder found (noted notice) → is_given notice found ≡ true
break_taken None notice order = refl
break_taken (Some known) notice order = ⊎_elim
    (λ newer. taken_when_newer known (noted notice) newer)
    (λ down. taken_so (is_newer known.epoch notice.new_epoch) (notice.new_epoch == known.epoch)
    (goes_down known.state notice.notice.new) ((Decides-eqb notice.new_epoch known.epoch).1 down.0) down.1)
    order
  where
    taken_so : (newer same down : Bool) → same ≡ true → down ≡ true → (newer || (same && down)) ≡ true
    taken_so newer same down e f = grind (arith, e, f)

given_sent : (event : Event) (layer : Layer) → ComesInOrder event layer → given event layer ≡ sent event
given_sent (Event.Answered file_id guid answer) layer order = ap (with_lease answer) (lease_sent layer.leases answer.lease order)
given_sent (Event.Noticed notice) layer order = rw (break_taken (layer.leases notice.notice.key) notice order) refl
given_sent (Event.Closed file_id) layer order = refl

pub in_order_all_is_given : InOrderAllIsGiven
in_order_all_is_given [] layer order = refl
in_order_all_is_given (event ∷ events) layer order =
    ap₂ (λ one others. one ∷ others) (given_sent event layer order.0)
    (in_order_all_is_given events (happened event layer) order.1)

-- ---- a notice that is dropped

module _ (notice : EpochNotice) (leases : List ℕ → Option Known) where
  dropped_at : (found : Option Known) → (if is_given notice found then Some notice.notice else None) ≡ None
      → leases_noticed notice found leases ≡ leases
  dropped_at None dropped = absurd (cc dropped)
  dropped_at (Some known) dropped = either (is_taken known (noted notice))
      (λ e. absurd (cc (rw e at dropped)))
      (λ e. rw e refl)

pub dropped_changes_nothing : DroppedChangesNothing
dropped_changes_nothing notice layer dropped =
    ap (λ (leases : List ℕ → Option Known). record layer { leases = leases })
    (dropped_at notice layer.leases (layer.leases notice.notice.key) dropped)

-- ---- what is asked for

asked_plain : (parent : Option (List ℕ)) (leases : List ℕ → Option Known) (lease : Option first.LeaseView)
    → option_map plain_lease (option_map (asked_lease parent leases) lease) ≡ lease
asked_plain parent leases None = refl
asked_plain parent leases (Some lease) = refl

durable_plain : (guid : List ℕ) (durable : Bool) (again : Bool) → (durable && again) ≡ false
    → is_some (if durable && not again then Some (durable_under guid) else None) ≡ durable
durable_plain guid true true alone = absurd (cc alone)
durable_plain guid true false alone = refl
durable_plain guid false again alone = refl

again_plain : (file_id : ℕ) (guid : Option (List ℕ)) → file_id_in (again_under file_id guid) ≡ file_id
again_plain file_id None = refl
again_plain file_id (Some guid) = refl

reconnect_plain : (guids : ℕ → Option (List ℕ)) (reconnect : Option ℕ)
    → option_map file_id_in (option_map (asked_again guids) reconnect) ≡ reconnect
reconnect_plain guids None = refl
reconnect_plain guids (Some file_id) = ap Some (again_plain file_id (guids file_id))

abbrev view_from : Option first.LeaseView → Bool → Option ℕ → first.CreateView
view_from lease durable reconnect = record { lease = lease; durable = durable; reconnect = reconnect }

pub asks_the_same : AsksTheSame
asks_the_same parent guid ask layer alone =
    ap (λ (lease : Option first.LeaseView).
    view_from lease (is_some (asked_durable guid ask))
    (option_map file_id_in (option_map (asked_again layer.guids) ask.reconnect)))
    (asked_plain parent layer.leases ask.lease)
    ∙ ap₂ (λ durable reconnect. view_from ask.lease durable reconnect)
    (durable_plain guid ask.durable (is_some ask.reconnect) alone) (reconnect_plain layer.guids ask.reconnect)

together : (guid : List ℕ) (durable : Bool) (guids : ℕ → Option (List ℕ)) (reconnect : Option ℕ)
    → go_together (if durable && not (is_some reconnect) then Some (durable_under guid) else None)
    (option_map (asked_again guids) reconnect) ≡ true
together guid true guids None = refl
together guid false guids None = refl
together guid true guids (Some file_id) = refl
together guid false guids (Some file_id) = refl

pub asks_together : AsksTogether
asks_together parent guid ask layer = together guid ask.durable layer.guids ask.reconnect
