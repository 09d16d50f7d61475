-- What holds of a client at every point of a run holds of it once it has taken its whole queue; so the bases that it then
-- holds are current.
use Rattle.lease_laws.proofs.Words.{◌∙◌, ◌∷◌, ◌≡◌, Bool, Client, Fact, Link, List, LiveEntry, None, Note, Reply, Server, Some}
use Rattle.lease_laws.proofs.Words.{World, ℕ, [], after, ap, belief_in, content_of, false, first_world_under, has_strayed, is_up}
use Rattle.lease_laws.proofs.Words.{key_of, lease_key, machine_key, refl, subst, sym, taken, true}
use Rattle.lease_laws.proofs.client.Forms.{taken-stays}
use Rattle.lease_laws.proofs.client.Thin.{put_same}
use Rattle.lease_laws.proofs.server.Lists.{not_false}
use Rattle.lease_laws.proofs.world.Links.{stepped_links}
use Rattle.lease_laws.proofs.world.Runs.{stepped_server}
use Rattle.lease_coherence.specs.Agreement.{BasesAreCurrent, IsLive, OfAllowedRuns, Timely, taken_all}
use Rattle.lease_coherence.proofs.beliefs.Trust.{file_key}
use Rattle.lease_coherence.proofs.creates.Creates.{stepped_machine}
use Rattle.lease_coherence.proofs.fresh.Clients.{sound_live}
use Rattle.lease_coherence.proofs.fresh.FreshBytes.{IsRelayed, places_of}
use Rattle.lease_coherence.proofs.layers.AllRuns.{record_carried, run_record}
use Rattle.lease_coherence.proofs.layers.Layers.{HasRecord}
use Rattle.lease_coherence.proofs.moves.Events.{IsCarried, Move, reply_gone, reply_taken}
use Rattle.lease_coherence.proofs.moves.Frames.{stepped_past, stepped_replies}
use Rattle.lease_coherence.proofs.records.Later.{past_noted}
use Rattle.lease_coherence.proofs.writes.Answered.{ground_of}

-- ---- taking replies

noted_strayed : (c : ℕ) (past : List Fact) (notes : List Note) → has_strayed c (past_noted c past notes) ≡ has_strayed c past
unfolding has_strayed
noted_strayed c past [] = refl
noted_strayed c past (Note.Settled number outcome ∷ notes) = noted_strayed c (Fact.Settled c number outcome ∷ past) notes
noted_strayed c past (Note.Wrote file number patch buffered ∷ notes) =
    noted_strayed c (Fact.Wrote c file number patch buffered ∷ past) notes
noted_strayed c past (Note.Believes file state ∷ notes) = noted_strayed c (Fact.Believes c file state ∷ past) notes
noted_strayed c past (Note.CachedRead file bytes ∷ notes) = noted_strayed c (Fact.CachedRead c file bytes ∷ past) notes

-- a world in which the client took these replies
pub record IsTaken (world new : World) (c : ℕ) (front : List Reply) : Type 0 where
  pub machine : new.clients c ≡ taken_all (world.clients c) front
  pub server : new.server ≡ world.server
  pub links : new.links ≡ world.links
  pub strayed : has_strayed c new.past ≡ has_strayed c world.past
  pub guid : (new.clients c).guid ≡ (world.clients c).guid

pub one_taken : (world : World) (c : ℕ) (reply : Reply) (queue : List Reply)
    → IsTaken world (reply_taken world c reply queue) c (reply ∷ [])
unfolding has_strayed
one_taken world c reply queue =
    let gone = reply_gone world c queue in
    let step = taken (world.clients c) reply in record {
      machine = stepped_machine gone c step;
      server = stepped_server gone c step;
      links = stepped_links gone c step;
      strayed = ap (has_strayed c) (stepped_past gone c step) ∙ noted_strayed c (Fact.Took c ∷ world.past) step.notes;
      guid = ap (λ (m : Client). m.guid) (stepped_machine gone c step) ∙ (taken-stays (world.clients c) reply).guid;
    }

pub left_behind_it : (world : World) (c : ℕ) (reply : Reply) (queue : List Reply)
    → (reply_taken world c reply queue).replies c ≡ queue
left_behind_it world c reply queue =
    ap (λ (r : ℕ → List Reply). r c) (stepped_replies (reply_gone world c queue) c (taken (world.clients c) reply))
    ∙ put_same world.replies c queue

pub then_taken : (world one new : World) (c : ℕ) (reply : Reply) (queue : List Reply)
    → IsTaken world one c (reply ∷ []) → IsTaken one new c queue → IsTaken world new c (reply ∷ queue)
then_taken world one new c reply queue first rest = record {
  machine = rest.machine ∙ ap (λ (m : Client). taken_all m queue) first.machine;
  server = rest.server ∙ first.server;
  links = rest.links ∙ first.links;
  strayed = rest.strayed ∙ first.strayed;
  guid = rest.guid ∙ first.guid;
}

-- the same timers
pub still_fresh : (world new : World) (c : ℕ) (front : List Reply) → IsTaken world new c front → (file : ℕ)
    → world.server.expired (machine_key world c file) ≡ false → new.server.expired (machine_key new c file) ≡ false
still_fresh world new c front t file fresh = ap (λ (s : Server). s.expired (machine_key new c file)) t.server
    ∙ ap (λ g. world.server.expired (key_of c (lease_key g file))) t.guid ∙ fresh

-- what moves keep holds in a world where the whole queue was taken
pub record HasTaken (V : World → Type 0) (world : World) (c : ℕ) (queue : List Reply) : Type 0 where
  pub new : World
  pub known : V new
  pub is : IsTaken world new c queue
  pub empty : new.replies c ≡ []

pub all_taken : (V : World → Type 0) → IsCarried V → (c : ℕ) (queue : List Reply) (world : World) → V world
    → world.replies c ≡ queue → HasTaken V world c queue
all_taken V k c [] world v e = record {
  new = world;
  known = v;
  is = record { machine = refl; server = refl; links = refl; strayed = refl; guid = refl };
  empty = e;
}
all_taken V k c (reply ∷ queue) world v e =
    let one = reply_taken world c reply queue in
    let rest = all_taken V k c queue one (k world (Move.Take c reply queue) e v) (left_behind_it world c reply queue) in record {
      new = rest.new;
      known = rest.known;
      is = then_taken world one rest.new c reply queue (one_taken world c reply queue) rest.is;
      empty = rest.empty;
    }

-- ---- bases

-- nothing is on its way
at_rest : (c : ℕ) (key : List ℕ) (file : ℕ) (past : List Fact) (reads : Bool) (old : List ℕ) (places : List (List Fact))
    (now : List ℕ) → IsRelayed c key file past reads old places [] now → reads ≡ true → now ≡ old
at_rest c key file past reads old [] now r e = r e
at_rest c key file past reads old (place ∷ places) now r e = absurd r

some_base : (live : LiveEntry) (bytes : List ℕ) → live.base ≡ Some bytes → live.base ≡ None → ⊥
some_base live bytes e f = cc

-- a base where nothing is on its way
resting_base : (world : World) → HasRecord world → (c file : ℕ) → has_strayed c world.past ≡ false
    → is_up (world.links c) ≡ true → world.server.expired (machine_key world c file) ≡ false → world.replies c ≡ []
    → (live : LiveEntry) → IsLive world c file live → (bytes : List ℕ) → live.base ≡ Some bytes
    → bytes ≡ world.server.contents file
resting_base world v c file good up fresh empty live at bytes has =
    let phase = ((world.clients c).entries file).phase in
    let f = v.fresh c good up file fresh in
    let sound = sound_live (world.clients c) file live ((ground_of world v).clients c) at in
    let reads : live.belief.read ≡ true = not_false live.belief.read
    (λ none. some_base live bytes has (sound.base_under_reads none)) in
    (f.base live at bytes has).same
    ∙ sym (at_rest c (file_key world c file) file world.past (belief_in phase).read f.old (places_of c world.past)
    (content_of file world.past)
    (subst (λ q. IsRelayed c (file_key world c file) file world.past (belief_in phase).read f.old (places_of c world.past) q
    (content_of file world.past)) empty f.relay) (ap (λ p. (belief_in p).read) at ∙ reads)) ∙ sym (v.contents file)

pub bases_are_current : OfAllowedRuns (Timely BasesAreCurrent)
bases_are_current rules setup events c allowed good up file fresh live at bytes has =
    let world = after (first_world_under rules setup) events in
    let t = all_taken HasRecord record_carried c (world.replies c) world (run_record rules setup events allowed) refl in
    resting_base t.new t.known c file (t.is.strayed ∙ good) (ap (λ (l : ℕ → Link). is_up (l c)) t.is.links ∙ up)
    (still_fresh world t.new c (world.replies c) t.is file fresh) t.empty live
    (ap (λ (m : Client). (m.entries file).phase) t.is.machine ∙ at) bytes has ∙ ap (λ (s : Server). s.contents file) t.is.server
