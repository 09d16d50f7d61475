-- In every run the record doesn't call a client served whose timer ran out since it connected.
use Rattle.lease_laws.proofs.Words.{◌&&◌, ◌==◌, ◌∙◌, ◌∷◌, ◌≡◌, Bool, Call, ClientCall, Fact, Key, Link, List, Note, Out, Setup}
use Rattle.lease_laws.proofs.Words.{Step, TimersAreTold, World, ℕ, ⊎_elim, [], all_delivered, ap, called, client_called}
use Rattle.lease_laws.proofs.Words.{delivered, eq-eqb, fact_of, false, first_world_under, happened, if◌then◌else◌, is_served, is_up}
use Rattle.lease_laws.proofs.Words.{machine_key, new_server_under, not, noted, put, refl, requests_sent, served, stepped_in, sym, true}
use Rattle.lease_laws.proofs.Words.{true≢false}
use Rattle.lease_laws.proofs.Words.{Rules}
use Rattle.std.proofs.Common.{arith}
use Rattle.lease_laws.proofs.server.Expired.{called-expired, cut-expired, scavenge-expired, join-expired, expire-expired}
use Rattle.lease_laws.proofs.server.Keys.{put_key-cases}
use Rattle.lease_laws.proofs.server.Lists.{clash, not_true}
use Rattle.lease_laws.proofs.world.Kept.{served-server}
use Rattle.lease_laws.proofs.world.Links.{IsLinked, first_linked, linked_forms}
use Rattle.lease_laws.proofs.world.Runs.{stepped_server}
use Rattle.lease_laws.proofs.world.cases.Events.{Both, HasForms, IsTold, Keeps, KeepsWhere, both_forms, call_served, kept_by_run}
use Rattle.lease_laws.proofs.world.cases.Events.{link_lost, link_made, reply_off}

-- the keys of such timers, by a past
abbrev AreTold : (Key → Bool) → List Fact → Type 0
AreTold expired past = (key : Key) → expired key ≡ true → is_served key.client past ≡ false

-- two pasts call the same clients served
abbrev SameServed : List Fact → List Fact → Type 0
SameServed past new = (client : ℕ) → is_served client new ≡ is_served client past

-- ---- outs and notes

delivered_served : (world : World) (out : Out) → SameServed world.past (delivered world out).past
unfolding is_served
delivered_served world out c = grind arith

all_delivered_served : (world : World) (outs : List Out) → SameServed world.past (all_delivered world outs).past
unfolding all_delivered
all_delivered_served world [] c = refl
all_delivered_served world (out ∷ outs) c = all_delivered_served (delivered world out) outs c ∙ delivered_served world out c

note_served : (world : World) (client : ℕ) (note : Note) → SameServed world.past (happened world (fact_of client note)).past
unfolding is_served
note_served world client note c = grind arith

noted_served : (world : World) (client : ℕ) (notes : List Note) → SameServed world.past (noted world client notes).past
unfolding noted
noted_served world client [] c = refl
noted_served world client (note ∷ notes) c =
    noted_served (happened world (fact_of client note)) client notes c ∙ note_served world client note c

stepped_served : (world : World) (client : ℕ) (step : Step) → SameServed world.past (stepped_in world client step).past
stepped_served world client step c = noted_served (requests_sent (record world { clients = _ }) client step.requests)
    client step.notes c

-- ---- steps and calls

stepped_told : (world : World) (client : ℕ) (step : Step) → AreTold world.server.expired world.past
    → AreTold (stepped_in world client step).server.expired (stepped_in world client step).past
stepped_told world client step told key e = stepped_served world client step key.client
    ∙ told key (ap (λ s. s.expired key) (sym (stepped_server world client step)) ∙ e)

-- once its keys are told of, a call's outs change nothing
served_told : (world : World) (call : Call) → AreTold (called world.server call).server.expired world.past
    → AreTold (served world (called world.server call)).server.expired (served world (called world.server call)).past
served_told world call told key e =
    let progress = called world.server call in
    all_delivered_served (record world { server = progress.server }) progress.outs key.client
    ∙ told key (ap (λ s. s.expired key) (sym (served-server world progress)) ∙ e)

-- ---- events

abbrev AreToldOf : World → Type 0
AreToldOf world = AreTold world.server.expired world.past

-- a fact that stands alone makes nobody served
told_unserved : (client : ℕ) (fact : Fact) (past : List Fact) → IsTold client fact → SameServed past (fact ∷ past)
unfolding is_served
told_unserved client fact past is c = grind arith

-- a call that leaves these keys
same_told : (world : World) (call : Call) → (called world.server call).server.expired ≡ world.server.expired
    → AreToldOf world → AreTold (called world.server call).server.expired world.past
same_told world call same told key e = told key (ap (λ x. x key) (sym same) ∙ e)

none_of : (a : Bool) → (a && false) ≡ false
none_of a = grind arith

-- a join forgets the client's timers
joined_told : (expired : Key → Bool) (past : List Fact) (client : ℕ) → AreTold expired past → (key : Key)
    → (if key.client == client then false else expired key) ≡ true → is_served key.client (Fact.Joined client ∷ past) ≡ false
unfolding is_served
joined_told expired past client told key = grind arith

-- a timer that runs out is told of
timer_told : (world : World) (client file : ℕ) → IsLinked world → AreToldOf world
    → AreToldOf (call_served (happened world (Fact.Expired client file)) (Call.Expire (machine_key world client file)))
unfolding is_served
timer_told world client file l told =
    let own : Key = machine_key world client file in
    let ended : World = happened world (Fact.Expired client file) in
    served_told ended (Call.Expire own) (λ key e. ⊎_elim
    (λ old. ap (λ b. not (client == key.client) && b) (told key old) ∙ none_of (not (client == key.client)))
    (λ new. put_key-cases (λ b. b ≡ true → is_served key.client ended.past ≡ false) world.server.expired own true key
    (λ same true_now. rw (same, eq-eqb client client refl) refl)
    (λ other old. ap (λ b. not (client == key.client) && b) (told key old) ∙ none_of (not (client == key.client))) new)
    (expire-expired world.server own key (ap (λ x. x key)
    (sym (called-expired world.server (Call.Expire own) l.sound l.waits)) ∙ e)))

told_forms : HasForms (KeepsWhere IsLinked AreToldOf)
unfolding is_served
told_forms = record {
  told = λ world client fact some is l n told key e. told_unserved client fact world.past is key.client ∙ told key e;
  command = λ world client command some l n told.
      stepped_told world client (client_called (world.clients client) (ClientCall.Commanded command)) told;
  request = λ world client request queue some first l n told.
      served_told (record world { requests = put world.requests client queue }) (Call.Receive client request)
      (same_told world (Call.Receive client request) (called-expired world.server (Call.Receive client request) l.sound l.waits)
      told);
  reply = λ world client reply queue some first l n told. stepped_told (reply_off world client queue) client
      (client_called (world.clients client) (ClientCall.Taken reply)) told;
  cut = λ world client some up l n told. served_told (link_lost world client) (Call.Cut client)
      (λ key e. ap (λ b. not (client == key.client) && b) (same_told world (Call.Cut client)
      (called-expired world.server (Call.Cut client) l.sound l.waits ∙ cut-expired world.server client) told key e)
      ∙ none_of (not (client == key.client)));
  notice = λ world client some cut l n told. stepped_told (record world { links = put world.links client Link.Down }) client
      (client_called (world.clients client) ClientCall.Noticed) told;
  connect = λ world client some down l n told.
      stepped_told (call_served (link_made world client) (Call.Join client)) client
      (client_called (world.clients client) ClientCall.Connected) (served_told (link_made world client) (Call.Join client)
      (λ key e. joined_told world.server.expired world.past client told key
      (sym (ap (λ x. x key) (called-expired world.server (Call.Join client) l.sound l.waits)
      ∙ join-expired world.server client ((l.tied client).present ∙ ap is_up down) key) ∙ e)));
  timer = λ world client file some on breaks l n told. timer_told world client file l told;
  scavenge = λ world file_id l n told. served_told world (Call.Scavenge file_id) (same_told world (Call.Scavenge file_id)
      (called-expired world.server (Call.Scavenge file_id) l.sound l.waits ∙ scavenge-expired world.server file_id) told);
  stray = λ world client request some up has l n told. told;
}

abbrev pub IsTimely : World → Type 0
IsTimely world = Both IsLinked AreToldOf world

pub timely_forms : HasForms (Keeps IsTimely)
timely_forms = both_forms IsLinked AreToldOf linked_forms told_forms

pub first_timely : (rules : Rules) (setup : Setup) → IsTimely (first_world_under rules setup)
unfolding first_world_under new_server_under
first_timely rules setup = (first_linked rules setup, λ key e. absurd (true≢false (sym e)))

-- a client that is served has no timer that ran out
pub unexpired : (world : World) → IsTimely world → (c file : ℕ) → is_served c world.past ≡ true
    → world.server.expired (machine_key world c file) ≡ false
unexpired world t c file served = not_true (world.server.expired (machine_key world c file))
    (λ out. clash (is_served c world.past) served (t.1 (machine_key world c file) out))

pub timers_are_told : TimersAreTold
timers_are_told rules setup events key e =
    (kept_by_run IsTimely timely_forms (first_world_under rules setup) events (first_timely rules setup)).1 key e
