-- An open while it is there.
use Rattle.lease_laws.proofs.Words.{◌==◌, ◌∙◌, ◌≡◌, ◌∷◌, [], List, None, Option, Some, ℕ, ap, eq-eqb, eqb-true, false}
use Rattle.lease_laws.proofs.Words.{if◌then◌else◌, is_some, put, refl, true}
use Rattle.lease_laws.proofs.server.Lists.{either}
use Rattle.std.specs.Prelude.{bytes_eq}
use Rattle.lease_state.specs.declared.status.Status.{Status}
use Rattle.lease_model.specs.messages.Replies.{CreateAnswer}
use Rattle.manager_model.specs.Decisions.{Decision}
use Rattle.lease_versions.specs.Layer.{Asked, AskedCreate, Layer, Open}
use Rattle.lease_versions.specs.Laws.{OpensStay, ReconnectsNeedTheGuid, StaysOpen, is_there}
use Rattle.lease_versions.specs.Refusals.{reconnect_refusal}
use Rattle.lease_versions.specs.Rows.{closed_by, create_in, followed, guid_kept, noted, open_made}

-- ---- one decision

at_noted : (file_id other : ℕ) (one : Open) (opens : ℕ → Option Open) → is_some (opens file_id) ≡ true
    → noted other one opens file_id ≡ opens file_id
unfolding put
at_noted file_id other one opens there = either (is_some (opens other))
    (λ e. rw e refl)
    (λ e. rw e (either (file_id == other)
    (λ same. absurd (cc (rw (eqb-true file_id other same) at there, e)))
    (λ apart. rw apart refl)))

at_ended : (file_id other : ℕ) (opens : ℕ → Option Open) → is_some (put opens other None file_id) ≡ true
    → put opens other None file_id ≡ opens file_id
unfolding put
at_ended file_id other opens still = either (file_id == other)
    (λ e. absurd (cc (rw e at still)))
    (λ e. rw e refl)

at_closed : (file_id : ℕ) (asked : Option Asked) (layer : Layer) → is_there file_id (closed_by asked layer) ≡ true
    → (closed_by asked layer).opens file_id ≡ layer.opens file_id
at_closed file_id None layer still = refl
at_closed file_id (Some (Asked.Create ask)) layer still = refl
at_closed file_id (Some (Asked.Close other)) layer still = at_ended file_id other layer.opens still

stays : (file_id : ℕ) (decision : Decision) (layer : Layer) → is_there file_id layer ≡ true
    → is_there file_id (followed decision layer) ≡ true → (followed decision layer).opens file_id ≡ layer.opens file_id
stays file_id (Decision.Opened client tag other answer) layer there still = at_noted file_id other _ layer.opens there
stays file_id (Decision.GoesOn client tag) layer there still = refl
stays file_id (Decision.Closed client tag) layer there still = at_closed file_id (layer.asked client tag) layer still
stays file_id (Decision.Refused client tag status) layer there still = refl
stays file_id (Decision.Waits client tag) layer there still = refl
stays file_id (Decision.Withdrawn client tag) layer there still = refl
stays file_id (Decision.Breaks client notice) layer there still = refl
stays file_id (Decision.Acknowledged client given) layer there still = refl
stays file_id (Decision.NotAcknowledged client status) layer there still = refl
stays file_id (Decision.Ended other) layer there still = at_ended file_id other layer.opens still
stays file_id (Decision.LeftBehind other) layer there still = refl

-- ---- many

there_first : (file_id : ℕ) (decisions : List Decision) (layer : Layer) → StaysOpen file_id decisions layer
    → is_there file_id layer ≡ true
there_first file_id [] layer stays_open = stays_open
there_first file_id (decision ∷ decisions) layer stays_open = stays_open.0

pub opens_stay : OpensStay
opens_stay file_id [] layer stays_open = refl
opens_stay file_id (decision ∷ decisions) layer stays_open =
    opens_stay file_id decisions (followed decision layer) stays_open.1
    ∙ stays file_id decision layer stays_open.0 (there_first file_id decisions (followed decision layer) stays_open.1)

-- ---- the guid of a durable open

made : (file_id : ℕ) (one : Open) (opens : ℕ → Option Open) → is_some (opens file_id) ≡ false
    → noted file_id one opens file_id ≡ Some one
unfolding put
made file_id one opens new = rw (new, eq-eqb file_id) refl

refused_of : (guid other : List ℕ) (one : Open) → one.guid ≡ Some guid
    → reconnect_refusal other (Some one) ≡ (if bytes_eq guid other then None else Some Status.ObjectNameNotFound)
refused_of guid other one is = rw is (either (bytes_eq guid other) (λ e. rw e refl) (λ e. rw e refl))

kept_guid : (answer : CreateAnswer) (create : AskedCreate) (guid : List ℕ) → answer.durable ≡ true
    → create.guid ≡ Some guid → guid_kept answer create ≡ Some guid
kept_guid answer create guid durable is = rw (durable, is) refl

pub reconnects_need_the_guid : ReconnectsNeedTheGuid
reconnects_need_the_guid client tag file_id answer guid other decisions layer new durable is stays_open =
    let create = create_in (layer.asked client tag) in
    let one = open_made client create answer in
    ap (reconnect_refusal other)
    (opens_stay file_id decisions (followed (Decision.Opened client tag file_id answer) layer) stays_open
    ∙ made file_id one layer.opens new)
    ∙ refused_of guid other one (kept_guid answer create guid durable is)
