-- In every run the record has the contents of the server, and the replies on their way to a client are right for the
-- places where they were sent.
use Rattle.lease_laws.proofs.Words.{◌++◌, ◌+◌, ◌∙◌, ◌∷◌, ◌≡◌, ◌≢◌, ◌≤◌, AreInStep, Fact, IsOfPlace, Link, List, Note, Out, Reply}
use Rattle.lease_laws.proofs.Words.{Request, Step, World, ℕ, [], all_delivered, ap, arith, delivered, drop, eq-eqb, fact_of}
use Rattle.lease_laws.proofs.Words.{false, happened, is_up, length, length-append, noted, put, refl, requests_sent, sendings}
use Rattle.lease_laws.proofs.Words.{stepped_in, subst, suc, sym, takings, true, zero}
use Rattle.lease_laws.proofs.client.Thin.{put_same, put_other}
use Rattle.lease_laws.proofs.server.Lists.{clash}
use Rattle.lease_laws.proofs.world.Contents.{FitsThere, EachFits}
use Rattle.lease_laws.proofs.world.FileIds.{fact_told}
use Rattle.lease_laws.proofs.world.Links.{by_client}

-- ---- lists in step

in_step_more : (client : ℕ) (places : List (List Fact)) (replies : List Reply) (place : List Fact) (reply : Reply)
    → AreInStep client places replies → IsOfPlace client place reply
    → AreInStep client (places ++ place ∷ []) (replies ++ reply ∷ [])
in_step_more client [] [] place reply step is = (is, tt)
in_step_more client [] (r ∷ replies) place reply step is = absurd step
in_step_more client (p ∷ places) [] place reply step is = absurd step
in_step_more client (p ∷ places) (r ∷ replies) place reply step is =
    (step.0, in_step_more client places replies place reply step.1 is)

drop_low : {X : Type 0} (count : ℕ) (xs ys : List X) → count ≤ length xs → drop count (xs ++ ys) ≡ drop count xs ++ ys
drop_low zero xs ys low = refl
drop_low (suc count) [] ys low = absurd (omega (arith, low))
drop_low (suc count) (x ∷ xs) ys low = drop_low count xs ys (omega (arith, low))

-- the first reply is taken
in_step_less : (client count : ℕ) (places : List (List Fact)) (reply : Reply) (replies : List Reply)
    → AreInStep client (drop count places) (reply ∷ replies)
    → AreInStep client (drop (suc count) places) replies × (suc count ≤ length places)
in_step_less client zero [] reply replies step = absurd step
in_step_less client zero (place ∷ places) reply replies step = (step.1, omega arith)
in_step_less client (suc count) [] reply replies step = absurd step
in_step_less client (suc count) (place ∷ places) reply replies step =
    let rest = in_step_less client count places reply replies step in (rest.0, let low = rest.1 in omega (arith, low))

one_more : (count : ℕ) → count + 1 ≡ suc count
one_more count = omega arith

-- ---- one client

-- over a link that is up: what was sent is at least what was taken, and the others are on their way, in step
pub record IsInStep (world : World) (client : ℕ) : Type 0 where
  pub low : takings client world.past ≤ length (sendings client world.past)
  pub in_step : AreInStep client (drop (takings client world.past) (sendings client world.past)) (world.replies client)

abbrev pub KeepsStep : World → ℕ → Type 0
KeepsStep world client = is_up (world.links client) ≡ true → IsInStep world client

pub carried_step : (world new : World) (c : ℕ) → new.links c ≡ world.links c → new.replies c ≡ world.replies c
    → sendings c new.past ≡ sendings c world.past → takings c new.past ≡ takings c world.past
    → KeepsStep world c → KeepsStep new c
carried_step world new c links replies sent took keeps up = grind arith

-- ---- outs

sent_in_step : (world : World) (client : ℕ) (reply : Reply) → IsOfPlace client world.past reply
    → KeepsStep world client → KeepsStep (delivered world (Out.Sent client reply)) client
unfolding sendings takings
sent_in_step world client reply is keeps up =
    let was = keeps up in
    let count = takings client world.past in
    let places = sendings client world.past in record {
      low = rw (eq-eqb client client refl, length-append places (world.past ∷ [])) (let low = was.low in omega (arith, low));
      in_step = rw (
        eq-eqb client client refl,
        put_same world.replies client (world.replies client ++ reply ∷ []),
        drop_low count places (world.past ∷ []) was.low,
      ) (in_step_more client (drop count places) (world.replies client) world.past reply was.in_step is);
    }

delivered_in_step : (world : World) (out : Out) → FitsThere world.past out → ((c : ℕ) → KeepsStep world c)
    → (c : ℕ) → KeepsStep (delivered world out) c
unfolding sendings takings
delivered_in_step world (Out.Sent client reply) is keeps c =
    by_client (KeepsStep (delivered world (Out.Sent client reply))) client c (sent_in_step world client reply is (keeps client))
    (λ ne apart. carried_step world (delivered world (Out.Sent client reply)) c refl
    (put_other world.replies client _ c ne) (rw (apart) refl) refl (keeps c))
delivered_in_step world (Out.Opened file client) is keeps c =
    carried_step world (happened world (Fact.Opened file client)) c refl refl refl refl (keeps c)
delivered_in_step world (Out.Changed file client number patch) is keeps c =
    carried_step world (happened world (Fact.Changed file client number patch)) c refl refl refl refl (keeps c)

delivered_past : (world : World) (out : Out) → (delivered world out).past ≡ fact_told out ∷ world.past
delivered_past world out = grind arith

pub all_in_step : (world : World) (outs : List Out) → EachFits world.past outs → ((c : ℕ) → KeepsStep world c)
    → (c : ℕ) → KeepsStep (all_delivered world outs) c
unfolding all_delivered
all_in_step world [] each keeps c = keeps c
all_in_step world (out ∷ outs) each keeps c = all_in_step (delivered world out) outs
    (subst (λ past. EachFits past outs) (sym (delivered_past world out)) each.1) (delivered_in_step world out each.0 keeps) c

-- ---- steps of a client

note_in_step : (world : World) (client : ℕ) (note : Note) (c : ℕ) → KeepsStep world c
    → KeepsStep (happened world (fact_of client note)) c
unfolding sendings takings
note_in_step world client note c k = grind arith

noted_in_step : (world : World) (client : ℕ) (notes : List Note) (c : ℕ) → KeepsStep world c
    → KeepsStep (noted world client notes) c
unfolding noted
noted_in_step world client [] c k = k
noted_in_step world client (note ∷ notes) c k =
    noted_in_step (happened world (fact_of client note)) client notes c (note_in_step world client note c k)

pub stepped_in_step : (world : World) (client : ℕ) (step : Step) (c : ℕ) → KeepsStep world c
    → KeepsStep (stepped_in world client step) c
stepped_in_step world client step c k = noted_in_step
    (requests_sent (record world { clients = put world.clients client step.client }) client step.requests) client step.notes c
    (carried_step world (requests_sent (record world { clients = put world.clients client step.client }) client step.requests) c
    refl refl refl refl k)

-- a reply is taken
pub took_in_step : (world : World) (client : ℕ) (reply : Reply) (queue : List Reply)
    → world.replies client ≡ reply ∷ queue → ((c : ℕ) → KeepsStep world c) → (c : ℕ)
    → KeepsStep (happened (record world { replies = put world.replies client queue }) (Fact.Took client)) c
unfolding sendings takings
took_in_step world client reply queue e keeps c =
    let new : World = happened (record world { replies = put world.replies client queue }) (Fact.Took client) in
    by_client (KeepsStep new) client c
    (λ up. let was = keeps client up in
    let less = in_step_less client (takings client world.past) (sendings client world.past) reply queue
    (subst (λ q. AreInStep client (drop (takings client world.past) (sendings client world.past)) q) e was.in_step) in
    record {
      low = rw (eq-eqb client client refl, one_more (takings client world.past)) less.1;
      in_step = rw (
        eq-eqb client client refl,
        one_more (takings client world.past),
        put_same world.replies client queue,
      ) less.0;
    })
    (λ ne apart. carried_step world new c refl (put_other world.replies client queue c ne) refl (rw (apart) refl) (keeps c))

-- a link that comes up: nothing was sent since, and nothing is on its way
pub joined_in_step : (world : World) (client : ℕ) → world.replies client ≡ [] → ((c : ℕ) → KeepsStep world c) → (c : ℕ)
    → KeepsStep (happened (record world { links = put world.links client Link.Up }) (Fact.Joined client)) c
unfolding sendings takings
joined_in_step world client none keeps c =
    let new : World = happened (record world { links = put world.links client Link.Up }) (Fact.Joined client) in
    by_client (KeepsStep new) client c
    (λ up. record {
      low = rw (eq-eqb client client refl) (omega arith);
      in_step = rw (eq-eqb client client refl, none) tt;
    })
    (λ ne apart. carried_step world new c (put_other world.links client Link.Up c ne) refl (rw (apart) refl)
    (rw (apart) refl) (keeps c))

-- a link that isn't up any more
pub down_in_step : (world : World) (client : ℕ) (link : Link) (requests : ℕ → List Request) (replies : ℕ → List Reply)
    → is_up link ≡ false → ((c : ℕ) → c ≢ client → replies c ≡ world.replies c) → ((c : ℕ) → KeepsStep world c) → (c : ℕ)
    → KeepsStep (record world { links = put world.links client link; requests = requests; replies = replies }) c
down_in_step world client link requests replies down same keeps c =
    let new : World = record world { links = put world.links client link; requests = requests; replies = replies } in
    by_client (KeepsStep new) client c
    (λ up. clash (is_up link) (sym (ap is_up (put_same world.links client link)) ∙ up) down)
    (λ ne apart. carried_step world new c (put_other world.links client link c ne) (same c ne) refl refl (keeps c))
