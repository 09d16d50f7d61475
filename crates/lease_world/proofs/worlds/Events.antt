-- What a world of the code stands for after an event of a client that there is.
use Rattle.lease_laws.proofs.Words.{◌&&◌, ◌∙◌, ◌∷◌, ◌≡◌, Bool, Call, CallHasFileId, Client, ClientCall, Command, Event, Fact, Key}
use Rattle.lease_laws.proofs.Words.{Link, List, None, Option, Progress, Reply, Request, Result, Server, Some, World, ℕ, [], ap}
use Rattle.lease_laws.proofs.Words.{arith, breaking, called, client_called, client_of, client_takes, connect_over}
use Rattle.lease_laws.proofs.Words.{cut_over, false, happened, has_file, if◌then◌else◌, is_some, kept, key_of, lease_key}
use Rattle.lease_laws.proofs.Words.{length, machine_key, nat_le, notice_over}
use Rattle.lease_laws.proofs.Words.{on_ok_weaker, put, refl, reply_of, request_of, scavenged, served, server_takes, stepped_in}
use Rattle.lease_laws.proofs.Words.{strayed_over, subst, sym, timer_expired, true}
use Rattle.std.specs.Prelude.{OnOk}
use Rattle.lease_model.specs.server.Queries.{content}
use Rattle.lease_state.specs.declared.request.Request as code_request
use Rattle.lease_state.specs.declared.reply.Reply as code_reply
use Rattle.lease_world.specs.declared.world.link.Link as code
use Rattle.lease_world.specs.world.Messages.{sent_by, sent_by_oldest, oldest, sent_by_cut, sent_by_join, sent_by_scavenge}
use Rattle.lease_world.specs.world.Messages.{messages_of, messages_in}
use Rattle.lease_world.specs.world.Seats.{Seat, HasKept, seat_in, is_link, IsPresent, ChangesSeat, PopsRequest, PopsReply}
use Rattle.lease_world.specs.world.Stands.{CodeWorld, link_of, Stands}
use Rattle.lease_world.specs.world.Worlds.{Keeps, Happens, Tells, Serves, StepsIn, Links, CutsLink, Sends, Applies}
use Rattle.lease_world.proofs.worlds.Delivered.{delivers}
use Rattle.lease_world.proofs.worlds.Happening.{OnlySeats, no_request, popped_request, no_reply, popped_reply}
use Rattle.lease_world.proofs.worlds.Kept.{quiet_keeps, quiet_first, quiet_last, kept_keeps}
use Rattle.lease_world.proofs.worlds.Keys.{request_keys}
use Rattle.share_server.specs.Table.{server_of}

-- ---- queues

same_seats : (old new : CodeWorld) (number : ℕ) (Changes : Seat → Seat → Type 0) → OnlySeats old new
    → ChangesSeat Changes number old.seats new.seats → seat_in new.seats number ≡ seat_in old.seats number
    → (world : World) → Stands old world → Stands new world
same_seats old new number Changes only seats same world s = grind arith

pub server_took_nothing : (old new : CodeWorld) (number : ℕ) → OnlySeats old new
    → ChangesSeat (PopsRequest None) number old.seats new.seats → IsPresent number old.seats
    → Applies (Event.ServerTakes number) old new
unfolding messages_of
server_took_nothing old new number only seats there world s =
    let (same, none) = seats.0 in
    subst (λ (rs : List Request). Stands new (server_takes world number rs) × Keeps (sent_by_oldest world number rs) old new)
    (sym (no_request old new number seats there world s))
    (same_seats old new number (PopsRequest None) only seats same world s, quiet_keeps old new only.2)

pub server_took : (old middle new : CodeWorld) (number : ℕ) (request : code_request.Request) → OnlySeats old middle
    → ChangesSeat (PopsRequest (Some request)) number old.seats middle.seats → IsPresent number old.seats
    → Serves (Call.Receive number (request_of request)) middle new → Applies (Event.ServerTakes number) old new
unfolding messages_of
server_took old middle new number request only seats there serves world s =
    let p = popped_request old middle number request only seats there world s in
    let served = serves (request_keys number request) _ p.1 in
    subst (λ (rs : List Request). Stands new (server_takes world number rs) × Keeps (sent_by_oldest world number rs) old new)
    (sym p.0) (served.0, quiet_first old middle new _ only.2 served.1)

pub client_took_nothing : (old new : CodeWorld) (number : ℕ) → OnlySeats old new
    → ChangesSeat (PopsReply None) number old.seats new.seats → IsPresent number old.seats
    → Applies (Event.ClientTakes number) old new
unfolding messages_of
client_took_nothing old new number only seats there world s =
    let (same, none) = seats.0 in
    subst (λ (rs : List Reply). Stands new (client_takes world number rs) × Keeps (oldest rs) old new)
    (sym (no_reply old new number seats there world s))
    (same_seats old new number (PopsReply None) only seats same world s, quiet_keeps old new only.2)

-- a message is kept, and nothing else changes
kept_stands : (old new : CodeWorld) → new ≡ record old { messages = new.messages } → (world : World) → Stands old world
    → Stands new world
kept_stands old new same world s = grind arith

pub client_took : (old middle kept told new : CodeWorld) (number : ℕ) (reply : code_reply.Reply) → OnlySeats old middle
    → ChangesSeat (PopsReply (Some reply)) number old.seats middle.seats → IsPresent number old.seats
    → CallHasFileId (ClientCall.Taken (reply_of reply))
    → kept ≡ record middle { messages = kept.messages } → HasKept middle.messages kept.messages (reply ∷ [])
    → Tells (Fact.Took number) kept told → StepsIn number (ClientCall.Taken (reply_of reply)) told new
    → Applies (Event.ClientTakes number) old new
unfolding messages_of
client_took old middle kept told new number reply only seats there fits alike keeps tells steps world s =
    let p = popped_reply old middle number reply only seats there world s in
    subst (λ (rs : List Reply). Stands new (client_takes world number rs) × Keeps (oldest rs) old new) (sym p.0) (
      steps.1 fits _ (tells.1 _ (kept_stands middle kept alike _ p.1)),
      quiet_first old middle new (reply_of reply ∷ []) only.2 (quiet_last middle told new (reply_of reply ∷ [])
          (quiet_last middle kept told (reply_of reply ∷ []) (kept_keeps middle kept (reply ∷ []) keeps) tells.0) steps.0),
    )

-- ---- links

link_is : (one other : code.Link) → is_link one other ≡ true → one ≡ other
link_is one other e = grind arith

known_link : (old : CodeWorld) (number : ℕ) (link : code.Link) → IsPresent number old.seats → (world : World) → Stands old world
    → is_link (seat_in old.seats number).link link ≡ true → world.links number ≡ link_of link
known_link old number link there world s e = grind arith

not_cut : (old : CodeWorld) (world : World) (number : ℕ) (l : code.Link) → is_link l code.TheVariants.Up ≡ false
    → Stands old world
    → Stands old (cut_over world number (link_of l)) × Keeps (sent_by_cut world number (link_of l)) old old
not_cut old world number code.TheVariants.Down e s = (s, quiet_keeps old old refl)
not_cut old world number code.TheVariants.Up e s = let c : ⊥ = cc in absurd c
not_cut old world number code.TheVariants.Cut e s = (s, quiet_keeps old old refl)

pub cut_nothing : (old : CodeWorld) (number : ℕ) → IsPresent number old.seats
    → is_link (seat_in old.seats number).link code.TheVariants.Up ≡ false → Applies (Event.Cut number) old old
unfolding messages_of
cut_nothing old number there e world s =
    subst (λ (l : Link). Stands old (cut_over world number l) × Keeps (sent_by_cut world number l) old old)
    (s.seats number there).link (not_cut old world number (seat_in old.seats number).link e s)

pub cut_one : (old middle told new : CodeWorld) (number : ℕ) → IsPresent number old.seats
    → is_link (seat_in old.seats number).link code.TheVariants.Up ≡ true
    → CutsLink number old middle → Tells (Fact.Dropped number) middle told → Serves (Call.Cut number) told new
    → Applies (Event.Cut number) old new
unfolding messages_of
cut_one old middle told new number there e cuts tells serves world s =
    let served = serves tt _ (tells.1 _ (cuts.1 world s)) in
    subst (λ (l : Link). Stands new (cut_over world number l) × Keeps (sent_by_cut world number l) old new)
    (sym (known_link old number code.TheVariants.Up there world s e))
    (served.0, quiet_first old middle new _ cuts.0 (quiet_first middle told new _ tells.0 served.1))

not_noticed : (old : CodeWorld) (world : World) (number : ℕ) (l : code.Link) → is_link l code.TheVariants.Cut ≡ false
    → Stands old world → Stands old (notice_over world number (link_of l))
not_noticed old world number l e s = grind arith

pub notice_nothing : (old : CodeWorld) (number : ℕ) → IsPresent number old.seats
    → is_link (seat_in old.seats number).link code.TheVariants.Cut ≡ false → Applies (Event.Notice number) old old
unfolding messages_of
notice_nothing old number there e world s = (
  subst (λ (l : Link). Stands old (notice_over world number l)) (s.seats number there).link
      (not_noticed old world number (seat_in old.seats number).link e s),
  quiet_keeps old old refl,
)

pub notice_one : (old middle new : CodeWorld) (number : ℕ) → IsPresent number old.seats
    → is_link (seat_in old.seats number).link code.TheVariants.Cut ≡ true
    → Links number Link.Down old middle → StepsIn number ClientCall.Noticed middle new → Applies (Event.Notice number) old new
unfolding messages_of
notice_one old middle new number there e links steps world s = (
  subst (λ (l : Link). Stands new (notice_over world number l)) (sym (known_link old number code.TheVariants.Cut there world s e))
      (steps.1 tt _ (links.1 world s)),
  quiet_last old middle new [] (quiet_keeps old middle links.0) steps.0,
)

not_connected : (old : CodeWorld) (world : World) (number : ℕ) (l : code.Link) → is_link l code.TheVariants.Down ≡ false
    → Stands old world
    → Stands old (connect_over world number (link_of l)) × Keeps (sent_by_join world number (link_of l)) old old
not_connected old world number code.TheVariants.Down e s = let c : ⊥ = cc in absurd c
not_connected old world number code.TheVariants.Up e s = (s, quiet_keeps old old refl)
not_connected old world number code.TheVariants.Cut e s = (s, quiet_keeps old old refl)

pub connect_nothing : (old : CodeWorld) (number : ℕ) → IsPresent number old.seats
    → is_link (seat_in old.seats number).link code.TheVariants.Down ≡ false → Applies (Event.Connect number) old old
unfolding messages_of
connect_nothing old number there e world s =
    subst (λ (l : Link). Stands old (connect_over world number l) × Keeps (sent_by_join world number l) old old)
    (s.seats number there).link (not_connected old world number (seat_in old.seats number).link e s)

-- a call of the server leaves the clients alone
same_clients : (world : World) (progress : Progress) → (served world progress).clients ≡ world.clients
same_clients world progress = (delivers (record world { server = progress.server }) progress.outs).clients

pub connect_one : (old middle told joined new : CodeWorld) (number : ℕ) → IsPresent number old.seats
    → is_link (seat_in old.seats number).link code.TheVariants.Down ≡ true
    → Links number Link.Up old middle → Tells (Fact.Joined number) middle told → Serves (Call.Join number) told joined
    → StepsIn number ClientCall.Connected joined new → Applies (Event.Connect number) old new
unfolding messages_of
connect_one old middle told joined new number there e links tells serves steps world s =
    let up : World = happened (record world { links = put world.links number Link.Up }) (Fact.Joined number) in
    let come : World = served up (called world.server (Call.Join number)) in
    let same : come.clients number ≡ world.clients number =
    ap (λ (t : ℕ → Client). t number) (same_clients up (called world.server (Call.Join number))) in
    let served = serves tt up (tells.1 _ (links.1 world s)) in
    subst (λ (l : Link). Stands new (connect_over world number l) × Keeps (sent_by_join world number l) old new)
    (sym (known_link old number code.TheVariants.Down there world s e)) (
      subst (λ (c : Client). Stands new (stepped_in come number (client_called c ClientCall.Connected))) same
          (steps.1 tt come served.0),
      quiet_first old middle new _ links.0
          (quiet_first middle told new _ tells.0 (quiet_last told joined new _ served.1 steps.0)),
    )

-- ---- strays

not_strayed : (old : CodeWorld) (world : World) (number : ℕ) (request : Request) (l : code.Link)
    → is_link l code.TheVariants.Up ≡ false → Stands old world → Stands old (strayed_over world number request (link_of l))
not_strayed old world number request l e s = grind arith

pub stray_nothing : (old : CodeWorld) (number : ℕ) (request : Request) → IsPresent number old.seats
    → is_link (seat_in old.seats number).link code.TheVariants.Up ≡ false → Applies (Event.Raw number request) old old
unfolding messages_of
stray_nothing old number request there e world s = (
  subst (λ (l : Link). Stands old (strayed_over world number request l)) (s.seats number there).link
      (not_strayed old world number request (seat_in old.seats number).link e s),
  quiet_keeps old old refl,
)

pub stray_one : (old told new : CodeWorld) (number : ℕ) (request : Request) → IsPresent number old.seats
    → is_link (seat_in old.seats number).link code.TheVariants.Up ≡ true
    → Tells (Fact.Strayed number) old told → Sends number request told new → Applies (Event.Raw number request) old new
unfolding messages_of
stray_one old told new number request there e tells sends world s = (
  subst (λ (l : Link). Stands new (strayed_over world number request l)) (sym
      (known_link old number code.TheVariants.Up there world s e)) (sends.1 _ (tells.1 world s)),
  quiet_last old told new [] (quiet_keeps old told tells.0) sends.0,
)

-- ---- timers

both_so : (a b : Bool) → (a && b) ≡ true → (a ≡ true) × (b ≡ true)
both_so a b e = grind arith

-- the key that was made is that of the client's machine
same_key : (old : CodeWorld) (number file : ℕ) (key : List ℕ) → IsPresent number old.seats
    → key ≡ lease_key (seat_in old.seats number).guid file → (world : World) → Stands old world
    → key_of number key ≡ machine_key world number file
same_key old number file key there e world s = grind arith

nothing_expires : {X : Type 0} (b c : Bool) (one other : X) → (b && c) ≡ false
    → (if b then (if c then other else one) else one) ≡ one
nothing_expires b c one other e = grind arith

something_expires : {X : Type 0} (b c : Bool) (one other : X) → (b && c) ≡ true
    → (if b then (if c then other else one) else one) ≡ other
something_expires b c one other e = grind arith

waits : (old : CodeWorld) (number file : ℕ) (key : List ℕ) (b : Bool) → IsPresent number old.seats
    → key ≡ lease_key (seat_in old.seats number).guid file
    → (is_some (content (server_of old.server) file) && breaking (server_of old.server) (key_of number key)) ≡ b
    → (world : World) → Stands old world
    → (has_file world.server file && breaking world.server (machine_key world number file)) ≡ b
waits old number file key b there k e world s = grind arith

pub expire_nothing : (old : CodeWorld) (number file : ℕ) (key : List ℕ) → IsPresent number old.seats
    → key ≡ lease_key (seat_in old.seats number).guid file
    → (is_some (content (server_of old.server) file) && breaking (server_of old.server) (key_of number key)) ≡ false
    → Applies (Event.Expire number file) old old
unfolding messages_of
expire_nothing old number file key there k e world s =
    let has : Bool = has_file world.server file in
    let waiting : Bool = breaking world.server (machine_key world number file) in
    let none = waits old number file key false there k e world s in (
      subst (λ (w : World). Stands old w) (sym (nothing_expires has waiting world (timer_expired world number file) none)) s,
      subst (λ (rs : List Reply). Keeps rs old old)
          (sym (nothing_expires has waiting [] (sent_by world (Call.Expire (machine_key world number file))) none))
          (quiet_keeps old old refl),
    )

pub expire_one : (old told new : CodeWorld) (number file : ℕ) (key : List ℕ) → IsPresent number old.seats
    → key ≡ lease_key (seat_in old.seats number).guid file
    → (is_some (content (server_of old.server) file) && breaking (server_of old.server) (key_of number key)) ≡ true
    → Tells (Fact.Expired number file) old told → Serves (Call.Expire (key_of number key)) told new
    → Applies (Event.Expire number file) old new
unfolding messages_of
expire_one old told new number file key there k e tells serves world s =
    let told_world : World = happened world (Fact.Expired number file) in
    let has : Bool = has_file world.server file in
    let waiting : Bool = breaking world.server (machine_key world number file) in
    let some = waits old number file key true there k e world s in
    let served = subst (λ (q : Key). Stands new (served told_world (called world.server (Call.Expire q)))
    × Keeps (sent_by world (Call.Expire q)) told new)
    (same_key old number file key there k world s) (serves tt told_world (tells.1 world s)) in (
      subst (λ (w : World). Stands new w) (sym (something_expires has waiting world (timer_expired world number file) some))
          served.0,
      subst (λ (rs : List Reply). Keeps rs old new)
          (sym (something_expires has waiting [] (sent_by world (Call.Expire (machine_key world number file))) some))
          (quiet_first old told new _ tells.0 served.1),
    )

pub scavenge_nothing : (old : CodeWorld) (number file : ℕ) → kept (server_of old.server) number file ≡ None
    → Applies (Event.Scavenge number file) old old
unfolding messages_of
scavenge_nothing old number file e world s =
    let none : kept world.server number file ≡ None = ap (λ (t : Server). kept t number file) (sym s.server) ∙ e in
    subst (λ (o : Option ℕ). Stands old (scavenged world o) × Keeps (sent_by_scavenge world o) old old) (sym none)
    (s, quiet_keeps old old refl)

pub scavenge_one : (old new : CodeWorld) (number file fid : ℕ) → kept (server_of old.server) number file ≡ Some fid
    → Serves (Call.Scavenge fid) old new → Applies (Event.Scavenge number file) old new
unfolding messages_of
scavenge_one old new number file fid e serves world s = grind arith

-- ---- any event

has_it : (old : CodeWorld) (number : ℕ) (b : Bool) → (nat_le 1 number && nat_le number (length old.seats)) ≡ b
    → (world : World) → Stands old world → (nat_le 1 number && nat_le number world.count) ≡ b
has_it old number b e world s = rw s.count e

pub nothing_happens : (old : CodeWorld) (number : ℕ) (event : Event) → number ≡ client_of event
    → (nat_le 1 number && nat_le number (length old.seats)) ≡ false → Happens event old old
unfolding messages_in
nothing_happens old number event n e world s =
    let has : (nat_le 1 (client_of event) && nat_le (client_of event) world.count) ≡ false =
    subst (λ (m : ℕ). (nat_le 1 m && nat_le m world.count) ≡ false) n (has_it old number false e world s) in
    rw has (s, quiet_keeps old old refl)

pub event_happens : (old new : CodeWorld) (number : ℕ) (event : Event) → number ≡ client_of event
    → (nat_le 1 number && nat_le number (length old.seats)) ≡ true → Applies event old new → Happens event old new
unfolding messages_in
event_happens old new number event n e applies world s = grind arith

-- the same of an event that names the number of its client, where a call says so if it succeeds
pub told_happens : {T E : Type 0} (result : Result T E) (old new : CodeWorld) (number client : ℕ) (tells : ℕ → Event)
    → number ≡ client → number ≡ client_of (tells client)
    → (nat_le 1 number && nat_le number (length old.seats)) ≡ true → OnOk result (Applies (tells number) old new)
    → OnOk result (Happens (tells client) old new)
told_happens result old new number client tells same named has applies = on_ok_weaker result
    (λ does. event_happens old new number (tells client) named has (subst (λ (n : ℕ). Applies (tells n) old new) same does))
    applies

pub command_applies : (old new : CodeWorld) (number : ℕ) (command : Command)
    → StepsIn number (ClientCall.Commanded command) old new
    → Applies (Event.App number command) old new
unfolding messages_of
command_applies old new number command steps world s = (steps.1 tt world s, quiet_keeps old new steps.0)
