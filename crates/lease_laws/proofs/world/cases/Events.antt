-- What an event makes of a world: each of the forms, with what is known of it. What each form keeps, every event keeps, and
-- every run.
use Rattle.lease_laws.proofs.Words.{◌==◌, ◌∷◌, ◌≡◌, Call, ClientCall, Command, Event, Fact, Link, List, None, Option, Reply}
use Rattle.lease_laws.proofs.Words.{Request, Some, World, ℕ, [], after, applied, breaking, called, client_called, client_of}
use Rattle.lease_laws.proofs.Words.{client_takes, connect_over, cut_over, eq-eqb, happened, happens, has_client, has_file}
use Rattle.lease_laws.proofs.Words.{has_strayed, if◌then◌else◌, kept, machine_key, nat_le}
use Rattle.lease_laws.proofs.Words.{notice_over, put, refl, requests_sent, scavenged, served, server_takes, stepped_in}
use Rattle.lease_laws.proofs.Words.{strayed_over, timer_expired, true}
use Rattle.lease_laws.proofs.server.Lists.{if_cases, and_parts, true_or}

-- facts that are told of a client alone, before anything else happens
abbrev pub IsTold : ℕ → Fact → Type 0
IsTold client (Fact.Strayed other) = other ≡ client
IsTold client _ = ⊥

-- ---- what the forms are made of

-- the link of a client is cut, and the server isn't called yet
abbrev pub link_lost : World → ℕ → World
link_lost world client = happened
    (record world {
      links = put world.links client Link.Cut;
      requests = put world.requests client [];
      replies = put world.replies client [];
    })
    (Fact.Dropped client)

-- the link of a client is up, and the server isn't called yet
abbrev pub link_made : World → ℕ → World
link_made world client = happened (record world { links = put world.links client Link.Up }) (Fact.Joined client)

-- the oldest reply of a client is taken off
abbrev pub reply_off : World → ℕ → List Reply → World
reply_off world client queue = happened (record world { replies = put world.replies client queue }) (Fact.Took client)

abbrev pub call_served : World → Call → World
call_served world call = served world (called world.server call)

abbrev pub call_stepped : World → ℕ → ClientCall → World
call_stepped world client call = stepped_in world client (client_called (world.clients client) call)

-- ---- the forms, of clients that are numbered from 1

pub record HasForms (R : World → World → Type 0) : Type 0 where
  pub told : (world : World) (client : ℕ) (fact : Fact) → nat_le 1 client ≡ true → IsTold client fact
      → R world (happened world fact)
  pub command : (world : World) (client : ℕ) (command : Command) → nat_le 1 client ≡ true
      → R world (call_stepped world client (ClientCall.Commanded command))
  pub request : (world : World) (client : ℕ) (request : Request) (queue : List Request) → nat_le 1 client ≡ true
      → world.requests client ≡ request ∷ queue
      → R world (call_served (record world { requests = put world.requests client queue }) (Call.Receive client request))
  pub reply : (world : World) (client : ℕ) (reply : Reply) (queue : List Reply) → nat_le 1 client ≡ true
      → world.replies client ≡ reply ∷ queue
      → R world (call_stepped (reply_off world client queue) client (ClientCall.Taken reply))
  pub cut : (world : World) (client : ℕ) → nat_le 1 client ≡ true → world.links client ≡ Link.Up
      → R world (call_served (link_lost world client) (Call.Cut client))
  pub notice : (world : World) (client : ℕ) → nat_le 1 client ≡ true → world.links client ≡ Link.Cut
      → R world (call_stepped (record world { links = put world.links client Link.Down }) client ClientCall.Noticed)
  pub connect : (world : World) (client : ℕ) → nat_le 1 client ≡ true → world.links client ≡ Link.Down
      → R world (stepped_in (call_served (link_made world client) (Call.Join client)) client
      (client_called (world.clients client) ClientCall.Connected))
  pub timer : (world : World) (client file : ℕ) → nat_le 1 client ≡ true → has_file world.server file ≡ true
      → breaking world.server (machine_key world client file) ≡ true
      → R world (call_served (happened world (Fact.Expired client file)) (Call.Expire (machine_key world client file)))
  pub scavenge : (world : World) (file_id : ℕ) → R world (call_served world (Call.Scavenge file_id))
  pub stray : (world : World) (client : ℕ) (request : Request) → nat_le 1 client ≡ true → world.links client ≡ Link.Up
      → has_strayed client world.past ≡ true → R world (requests_sent world client (request ∷ []))

-- ---- what is kept

abbrev pub Keeps : (World → Type 0) → World → World → Type 0
Keeps P world new = P world → P new

-- the same where V is known before and after
abbrev pub KeepsWhere : (World → Type 0) → (World → Type 0) → World → World → Type 0
KeepsWhere V P world new = V world → V new → P world → P new

abbrev pub Both : (World → Type 0) → (World → Type 0) → World → Type 0
Both V P world = V world × P world

joined_forms : (R S T : World → World → Type 0) → ((world new : World) → R world new → S world new → T world new)
    → HasForms R → HasForms S → HasForms T
joined_forms R S T join r s = record {
  told = λ world client fact some is. join world _ (r.told world client fact some is) (s.told world client fact some is);
  command = λ world client command some. join world _ (r.command world client command some) (s.command world client command some);
  request = λ world client request queue some first. join world _ (r.request world client request queue some first)
      (s.request world client request queue some first);
  reply = λ world client reply queue some first. join world _ (r.reply world client reply queue some first)
      (s.reply world client reply queue some first);
  cut = λ world client some up. join world _ (r.cut world client some up) (s.cut world client some up);
  notice = λ world client some cut. join world _ (r.notice world client some cut) (s.notice world client some cut);
  connect = λ world client some down. join world _ (r.connect world client some down) (s.connect world client some down);
  timer = λ world client file some on breaks. join world _ (r.timer world client file some on breaks)
      (s.timer world client file some on breaks);
  scavenge = λ world file_id. join world _ (r.scavenge world file_id) (s.scavenge world file_id);
  stray = λ world client request some up has. join world _ (r.stray world client request some up has)
      (s.stray world client request some up has);
}

-- P is kept where V is, and V in any case
pub both_forms : (V P : World → Type 0) → HasForms (Keeps V) → HasForms (KeepsWhere V P) → HasForms (Keeps (Both V P))
both_forms V P v p = joined_forms (Keeps V) (KeepsWhere V P) (Keeps (Both V P))
    (λ world new first second both. (first both.0, second both.0 (first both.0) both.1)) v p

-- each of two is kept in any case
pub two_forms : (V P : World → Type 0) → HasForms (Keeps V) → HasForms (Keeps P) → HasForms (Keeps (Both V P))
two_forms V P v p = joined_forms (Keeps V) (Keeps P) (Keeps (Both V P))
    (λ world new first second both. (first both.0, second both.1)) v p

-- ---- every event is made of them

server_takes_form : (P : World → Type 0) → HasForms (Keeps P) → (world : World) (client : ℕ) (queue : List Request)
    → nat_le 1 client ≡ true → world.requests client ≡ queue → P world → P (server_takes world client queue)
server_takes_form P h world client [] some e p = p
server_takes_form P h world client (request ∷ queue) some e p = h.request world client request queue some e p

client_takes_form : (P : World → Type 0) → HasForms (Keeps P) → (world : World) (client : ℕ) (queue : List Reply)
    → nat_le 1 client ≡ true → world.replies client ≡ queue → P world → P (client_takes world client queue)
client_takes_form P h world client [] some e p = p
client_takes_form P h world client (reply ∷ queue) some e p = h.reply world client reply queue some e p

cut_form : (P : World → Type 0) → HasForms (Keeps P) → (world : World) (client : ℕ) (link : Link)
    → nat_le 1 client ≡ true → world.links client ≡ link → P world → P (cut_over world client link)
cut_form P h world client Link.Up some e p = h.cut world client some e p
cut_form P h world client link some e p = p

notice_form : (P : World → Type 0) → HasForms (Keeps P) → (world : World) (client : ℕ) (link : Link)
    → nat_le 1 client ≡ true → world.links client ≡ link → P world → P (notice_over world client link)
notice_form P h world client Link.Cut some e p = h.notice world client some e p
notice_form P h world client link some e p = p

connect_form : (P : World → Type 0) → HasForms (Keeps P) → (world : World) (client : ℕ) (link : Link)
    → nat_le 1 client ≡ true → world.links client ≡ link → P world → P (connect_over world client link)
connect_form P h world client Link.Down some e p = h.connect world client some e p
connect_form P h world client link some e p = p

scavenged_form : (P : World → Type 0) → HasForms (Keeps P) → (world : World) (found : Option ℕ) → P world
    → P (scavenged world found)
scavenged_form P h world None p = p
scavenged_form P h world (Some file_id) p = h.scavenge world file_id p

strayed_form : (P : World → Type 0) → HasForms (Keeps P) → (world : World) (client : ℕ) (request : Request) (link : Link)
    → nat_le 1 client ≡ true → world.links client ≡ link → P world → P (strayed_over world client request link)
unfolding has_strayed
strayed_form P h world client request Link.Up some e p = h.stray (happened world (Fact.Strayed client)) client request some e
    (true_or (client == client) (has_strayed client world.past) (eq-eqb client client refl))
    (h.told world client (Fact.Strayed client) some refl p)
strayed_form P h world client request link some e p = p

applied_form : (P : World → Type 0) → HasForms (Keeps P) → (world : World) (event : Event)
    → nat_le 1 (client_of event) ≡ true → P world → P (applied world event)
applied_form P h world (Event.App client command) some p = h.command world client command some p
applied_form P h world (Event.ServerTakes client) some p =
    server_takes_form P h world client (world.requests client) some refl p
applied_form P h world (Event.ClientTakes client) some p = client_takes_form P h world client (world.replies client) some refl p
applied_form P h world (Event.Cut client) some p = cut_form P h world client (world.links client) some refl p
applied_form P h world (Event.Notice client) some p = notice_form P h world client (world.links client) some refl p
applied_form P h world (Event.Connect client) some p = connect_form P h world client (world.links client) some refl p
applied_form P h world (Event.Expire client file) some p = if_cases P (has_file world.server file)
    (if breaking world.server (machine_key world client file) then timer_expired world client file else world) world
    (λ on. if_cases P (breaking world.server (machine_key world client file)) (timer_expired world client file) world
    (λ breaks. h.timer world client file some on breaks p) (λ settled. p))
    (λ off. p)
applied_form P h world (Event.Scavenge client file) some p = scavenged_form P h world (kept world.server client file) p
applied_form P h world (Event.Raw client request) some p = strayed_form P h world client request (world.links client) some refl p

pub kept_by_event : (P : World → Type 0) → HasForms (Keeps P) → (world : World) (event : Event) → P world
    → P (happens world event)
kept_by_event P h world event p = if_cases P (has_client world (client_of event)) (applied world event) world
    (λ has. applied_form P h world event (and_parts _ _ has).0 p) (λ lacks. p)

pub kept_by_run : (P : World → Type 0) → HasForms (Keeps P) → (world : World) (events : List Event) → P world
    → P (after world events)
unfolding after
kept_by_run P h world [] p = p
kept_by_run P h world (event ∷ events) p = kept_by_run P h (happens world event) events (kept_by_event P h world event p)
