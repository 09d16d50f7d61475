-- Every move leaves a client's writes safe.
use Rattle.lease_laws.proofs.Words.{◌∙◌, ◌∷◌, ◌≡◌, Access, CreateAsk, FileRequest, IsSound, Link, List, Reply, Request, Share}
use Rattle.lease_laws.proofs.Words.{Some, World, ℕ, [], ap, false, has_strayed, is_down, is_some, is_up, not, refl, sym, true}
use Rattle.lease_laws.proofs.Words.{true≢false}
use Rattle.lease_laws.proofs.server.Lists.{either}
use Rattle.lease_coherence.specs.Names.{IsNamedAt, IsOwnCreate}
use Rattle.lease_coherence.proofs.late.Acked.{done_late, failed_late}
use Rattle.lease_coherence.proofs.late.Called.{IsKnownUp, command_late, take_late}
use Rattle.lease_coherence.proofs.late.Granted.{SentClean, closed_late, granted_late, off_clean, reconnected_late, timer_late}
use Rattle.lease_coherence.proofs.late.Held.{hold_late}
use Rattle.lease_coherence.proofs.late.Likes.{ids_of}
use Rattle.lease_coherence.proofs.late.Links.{connect_late, cut_late, notice_late}
use Rattle.lease_coherence.proofs.late.Moves.{begin_late, changed_late, dropped_late, lower_late, off_late, told_late}
use Rattle.lease_coherence.proofs.late.Others.{unmoved_late}
use Rattle.lease_coherence.proofs.late.SafeWrites.{IsNotLate, IsSafeUp, KnowsIds}
use Rattle.lease_coherence.proofs.late.Servers.{sent_clean}
use Rattle.lease_coherence.proofs.layers.Layers.{HasRecord}
use Rattle.lease_coherence.proofs.moves.Deeds.{IsSource}
use Rattle.lease_coherence.proofs.moves.Events.{Ground}
use Rattle.lease_coherence.proofs.moves.Foreign.{off_sound}
use Rattle.lease_coherence.proofs.moves.Own.{Always, IsLinkMoved, IsOwnMoved, link_of, told_bare}
use Rattle.lease_coherence.proofs.names.Names.{off_counted, off_named}
use Rattle.lease_coherence.proofs.writes.Answered.{ground_of, known_by, names_of}

-- ---- what is known

pub ground_in : (world : World) → HasRecord world → Ground world
ground_in world v = ground_of world v

names_in : (world : World) → HasRecord world → (c : ℕ) → has_strayed c world.past ≡ false → IsNamedAt world c
names_in world v c good = names_of world v c good

ids_in : (world : World) → HasRecord world → (c : ℕ) → KnowsIds world c
ids_in world v c = let g = ground_in world v in
    ids_of world c (record { last = g.counted.last; opens = g.counted.opens })

up_in : (world : World) → HasRecord world → (c : ℕ) → has_strayed c world.past ≡ false → is_up (world.links c) ≡ true
    → IsKnownUp world c
up_in world v c good up = record {
  ground = ground_in world v;
  names = names_in world v c good;
  known = known_by world v c good;
  ids = ids_in world v c;
  stands = v.layers.opens c good up;
  trust = v.layers.beliefs c good up;
}

off_ids : (world off : World) → HasRecord world → (c : ℕ) (request : FileRequest) → IsSource world off c request → KnowsIds off c
off_ids world off v c request source = ids_of off c (off_counted world off c request source (ground_in world v))

off_names : (world off : World) → HasRecord world → (c : ℕ) (request : FileRequest) → has_strayed c world.past ≡ false
    → IsSource world off c request → IsNamedAt off c
off_names world off v c request good source = (off_named world off c request c source (names_in world v c good)).0

off_in : (world off : World) → HasRecord world → (c : ℕ) (request : FileRequest) → has_strayed c world.past ≡ false
    → IsSource world off c request → IsNotLate world c → IsNotLate off c
off_in world off v c request good source a = off_late world off c request source (ids_in world v c) (names_in world v c good) a

clean_in : (world : World) → HasRecord world → (c : ℕ) → has_strayed c world.past ≡ false
    → is_up (world.links c) ≡ true → IsSafeUp world c → SentClean world c
clean_in world v c good up u = λ file known fresh write a none.
    sent_clean world c u (v.once c good up) (v.order c good up).stands (names_in world v c good)
    (known_by world v c good) file known fresh write a none

off_sent : (world off : World) → HasRecord world → (c : ℕ) (request : FileRequest) → has_strayed c world.past ≡ false
    → IsSource world off c request → IsNotLate world c → is_up (off.links c) ≡ true → SentClean off c
off_sent world off v c request good source a up =
    let was = link_of world off c request source up in
    off_clean world off c request source (clean_in world v c good was (a.up was))

-- a link with something on its way is up
sends_up : (world : World) → HasRecord world → (c : ℕ) (request : Request) (queue : List Request)
    → world.requests c ≡ request ∷ queue → is_up (world.links c) ≡ true
sends_up world v c request queue first = either (is_up (world.links c)) (λ up. up)
    (λ down. absurd (some request queue (sym first ∙ ((ground_in world v).tied c).requests down)))
  where
    some : (r : Request) (q : List Request) → r ∷ q ≡ [] → ⊥
    some r q e = cc

takes_up : (world : World) → HasRecord world → (c : ℕ) (reply : Reply) (queue : List Reply)
    → world.replies c ≡ reply ∷ queue → is_up (world.links c) ≡ true
takes_up world v c reply queue first = either (is_up (world.links c)) (λ up. up)
    (λ down. absurd (some reply queue (sym first ∙ ((ground_in world v).tied c).replies down)))
  where
    some : (r : Reply) (q : List Reply) → r ∷ q ≡ [] → ⊥
    some r q e = cc

-- ---- all moves

own_create : (world off : World) → HasRecord world → (c file : ℕ) (access : Access) (share : Share) (ask : CreateAsk)
    → has_strayed c world.past ≡ false → IsSource world off c (FileRequest.Create file access share (Some ask))
    → IsOwnCreate c (off.clients c).guid off.past file ask
own_create world off v c file access share ask good source =
    (off_named world off c (FileRequest.Create file access share (Some ask)) c source (names_in world v c good)).1 refl

sound_off : (world off : World) → HasRecord world → (c : ℕ) (request : FileRequest) → IsSource world off c request
    → IsSound off.server
sound_off world off v c request source = off_sound world off c request source (ground_in world v).fine.sound

pub late_moves : IsOwnMoved HasRecord Always IsNotLate
late_moves = record {
  unmoved = λ world new c k u a. unmoved_late world new c u (names_in world k.all c k.good) (ids_in world k.all c)
      (λ up file fresh. ((up_in world k.all c k.good up).trust.files file fresh).explained.believed.given) a;
  told = λ world off c request reply k source is a.
      told_late off c reply (told_bare off c request reply is) (off_ids world off k.all c request source)
      (off_names world off k.all c request k.good source) (off_in world off k.all c request k.good source a);
  granted = λ world off c file access share ask k source none on free a.
      let request = FileRequest.Create file access share (Some ask) in
      let own = own_create world off k.all c file access share ask k.good source in
      granted_late off c file access share ask own.lease own.asks own.key (sound_off world off k.all c request source) free
      (off_ids world off k.all c request source) (off_names world off k.all c request k.good source)
      (off_sent world off k.all c request k.good source a) (off_in world off k.all c request k.good source a);
  reconnected = λ world off c file access share ask file_id k source again on waits a.
      let request = FileRequest.Create file access share (Some ask) in
      let own = own_create world off k.all c file access share ask k.good source in
      reconnected_late off c file ask file_id own.lease own.asks own.key (sound_off world off k.all c request source)
      (off_ids world off k.all c request source) (off_names world off k.all c request k.good source)
      (off_sent world off k.all c request k.good source a) (off_in world off k.all c request k.good source a);
  changed = λ world off c file_id number patch one k source found may a.
      let request = FileRequest.Write file_id number patch in
      changed_late off c one.file file_id number patch (off_ids world off k.all c request source)
      (off_names world off k.all c request k.good source) (off_in world off k.all c request k.good source a);
  closed = λ world off c file_id one k source found a.
      let request = FileRequest.Close file_id in
      closed_late off c file_id (off_ids world off k.all c request source) (off_names world off k.all c request k.good source)
      (off_in world off k.all c request k.good source a);
  ack_failed = λ world c given status k oldest why a.
      failed_late world c status (ids_in world k.all c) (names_in world k.all c k.good) a;
  ack_done = λ world c given lowered k oldest there breaks within a.
      let g = ground_in world k.all in
      let up = sends_up world k.all c (Request.Acknowledge (Some given)) oldest.queue oldest.is_first in
      done_late world c given oldest g.fine.sound (ap is_some breaks) up (up_in world k.all c k.good up).trust
      (g.online c ∙ online_by (world.links c) up) (g.clients c).entries (ids_in world k.all c) (names_in world k.all c k.good) a;
  hold = λ world at one k oldest may turn a. hold_late world at one oldest may turn (ground_in world k.all).fine.sound
      (ids_in world k.all one.client) (names_in world k.all one.client k.good) a;
  dropped = λ world c test k away a. dropped_late world c test (ids_in world k.all c) (names_in world k.all c k.good) a;
  lower = λ world key lowered k may light a.
      lower_late world key lowered (ids_in world k.all key.client) (names_in world k.all key.client k.good) light a;
  begin = λ world key lowered k may heavy a.
      begin_late world key lowered (ids_in world k.all key.client) (names_in world k.all key.client k.good) a;
  timer = λ world c at k on breaks a. timer_late world c at (ids_in world k.all c) (names_in world k.all c k.good) a;
  command = λ world c command k a. command_late world c command (known_by world k.all c k.good)
      (λ up. up_in world k.all c k.good up) a;
  take = λ world c reply queue k first a. let up = takes_up world k.all c reply queue first in
      take_late world c reply queue first up (up_in world k.all c k.good up) a;
}
  where
    online_by : (link : Link) → is_up link ≡ true → not (is_down link) ≡ true
    online_by Link.Down up = absurd (true≢false (sym up))
    online_by link up = refl

pub late_link : IsLinkMoved HasRecord IsNotLate
late_link = record {
  cut = λ world c v good up a. cut_late world c (ids_in world v c) (names_in world v c good) a;
  connect = λ world c v good down a. connect_late world c (ground_in world v) down (ids_in world v c) (names_in world v c good) a;
  notice = λ world c v good cut a. notice_late world c a;
}
