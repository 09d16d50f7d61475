-- In every run the record has the contents of the server, and replies on their way are right for their places.
use Rattle.lease_laws.proofs.Words.{◌+◌, ◌<◌, ◌==◌, ◌∙◌, ◌∷◌, ◌≡◌, ◌≤◌, Call, ClientCall, ContentsAreTold, Event, Fact, Link}
use Rattle.lease_laws.proofs.Words.{List, Note, RepliesAreOfTheirPlaces, Server, Setup, Step, World, ℕ, [], after, all_delivered}
use Rattle.lease_laws.proofs.Words.{ap, arith, called, client_called, content_of, eq-eqb, eqb-true, fact_of, files_limit}
use Rattle.lease_laws.proofs.Words.{first_world_under, happened, if◌then◌else◌, is_allowed_setup, is_up, last_file_number, length}
use Rattle.lease_laws.proofs.Words.{machine_key, nat_le, new_server_under, noted, numbered, put, refl, requests_sent, reverse_aux}
use Rattle.lease_laws.proofs.Words.{sendings, served, slice_get, starts_from, stepped_in, subst, suc, sym, take, takings, true}
use Rattle.lease_laws.proofs.Words.{true≢false, unwrap_or, zero}
use Rattle.lease_laws.proofs.Words.{Rules}
use Rattle.lease_laws.proofs.server.Lists.{either, and_parts}
use Rattle.lease_laws.proofs.client.Thin.{put_other}
use Rattle.lease_laws.proofs.world.Contents.{HasContents, called-fits, called-contents}
use Rattle.lease_laws.proofs.world.FileIds.{IsCountedWorld, counted_kept, first_counted, told, all_delivered_past}
use Rattle.lease_laws.proofs.world.Kept.{served-server, kept_forms}
use Rattle.lease_laws.proofs.world.Links.{IsLinked, first_linked, linked_forms}
use Rattle.lease_laws.proofs.world.Runs.{stepped_server}
use Rattle.lease_laws.proofs.world.Snapshots.{KeepsStep, all_in_step, carried_step, down_in_step, joined_in_step, stepped_in_step}
use Rattle.lease_laws.proofs.world.Snapshots.{took_in_step}
use Rattle.lease_laws.proofs.world.cases.Events.{Both, HasForms, IsTold, Keeps, KeepsWhere, both_forms, call_served, kept_by_run}
use Rattle.lease_laws.proofs.world.cases.Events.{link_made, reply_off, two_forms}

-- what holds of a world: by the record, of contents and of replies
record IsTrue (world : World) : Type 0 where
  contents : HasContents world.past world.server
  in_step : (c : ℕ) → KeepsStep world c

-- facts that tell of no content
abbrev IsPlain : Fact → Type 0
IsPlain (Fact.Start file bytes) = ⊥
IsPlain (Fact.Changed file client number patch) = ⊥
IsPlain fact = Unit {0}

plain_content : (file : ℕ) (past : List Fact) (fact : Fact) → IsPlain fact → content_of file (fact ∷ past) ≡ content_of file past
unfolding content_of
plain_content file past fact plain = grind arith

note_plain : (client : ℕ) (note : Note) → IsPlain (fact_of client note)
note_plain client note = grind arith

noted_contents : (world : World) (client : ℕ) (notes : List Note) (server : Server) → HasContents world.past server
    → HasContents (noted world client notes).past server
unfolding noted
noted_contents world client [] server has = has
noted_contents world client (note ∷ notes) server has = noted_contents (happened world (fact_of client note)) client notes server
    (λ file. has file ∙ sym (plain_content file world.past (fact_of client note) (note_plain client note)))

stepped_contents : (world : World) (client : ℕ) (step : Step) → HasContents world.past world.server
    → HasContents (stepped_in world client step).past (stepped_in world client step).server
stepped_contents world client step has =
    subst (HasContents (stepped_in world client step).past) (sym (stepped_server world client step)) (noted_contents
    (requests_sent (record world { clients = put world.clients client step.client }) client step.requests) client
    step.notes world.server has)

stepped_true : (world : World) (client : ℕ) (step : Step) → IsTrue world → IsTrue (stepped_in world client step)
stepped_true world client step t = record {
  contents = stepped_contents world client step t.contents;
  in_step = λ c. stepped_in_step world client step c (t.in_step c);
}

-- a call, in a world with counted FileIds
served_true : (world : World) (call : Call) → IsCountedWorld world → IsTrue world
    → IsTrue (served world (called world.server call))
served_true world call n t =
    let progress = called world.server call in
    let next : World = record world { server = progress.server } in record {
      contents = subst (λ p. HasContents p (all_delivered next progress.outs).server)
          (sym (all_delivered_past next progress.outs))
          (subst (HasContents (told world.past progress.outs)) (sym (served-server world progress))
          (called-contents world.past world.server call n.sound n.waits n.counted t.contents));
      in_step = all_in_step next progress.outs (called-fits world.past world.server call n.sound n.waits n.counted t.contents)
          (λ c. carried_step world next c refl refl refl refl (t.in_step c));
    }

-- ---- events

-- the links are tied, and FileIds counted
abbrev IsReady : World → Type 0
IsReady world = Both IsLinked IsCountedWorld world

-- facts that change no queue
abbrev IsOfNoQueue : Fact → Type 0
IsOfNoQueue (Fact.Joined client) = ⊥
IsOfNoQueue (Fact.Sent client) = ⊥
IsOfNoQueue (Fact.Took client) = ⊥
IsOfNoQueue fact = Unit {0}

fact_in_step : (world : World) (fact : Fact) → IsOfNoQueue fact → (c : ℕ) → KeepsStep world c → KeepsStep (happened world fact) c
unfolding sendings takings
fact_in_step world fact of c k = grind arith

told_plain : (client : ℕ) (fact : Fact) → IsTold client fact → IsPlain fact × IsOfNoQueue fact
told_plain client fact is = grind arith

fact_true : (world : World) (fact : Fact) → IsPlain fact → IsOfNoQueue fact → IsTrue world → IsTrue (happened world fact)
fact_true world fact plain none t = record {
  contents = λ file. t.contents file ∙ sym (plain_content file world.past fact plain);
  in_step = λ c. fact_in_step world fact none c (t.in_step c);
}

true_forms : HasForms (KeepsWhere IsReady IsTrue)
unfolding sendings takings
true_forms = record {
  told = λ world client fact some is r n t.
      let plain = told_plain client fact is in fact_true world fact plain.0 plain.1 t;
  command = λ world client command some r n t.
      stepped_true world client (client_called (world.clients client) (ClientCall.Commanded command)) t;
  request = λ world client request queue some first r n t.
      let popped : World = record world { requests = put world.requests client queue } in
      served_true popped (Call.Receive client request)
      (counted_kept.messages world (put world.requests client queue) world.replies world.links r.1) (record {
        contents = t.contents;
        in_step = λ c. carried_step world popped c refl refl refl refl (t.in_step c);
      });
  reply = λ world client reply queue some first r n t. stepped_true (reply_off world client queue) client
      (client_called (world.clients client) (ClientCall.Taken reply)) (record {
        contents = λ file. t.contents file ∙ sym (plain_content file world.past (Fact.Took client) tt);
        in_step = took_in_step world client reply queue first t.in_step;
      });
  cut = λ world client some up r n t.
      let lost : World = record world {
        links = put world.links client Link.Cut;
        requests = put world.requests client [];
        replies = put world.replies client [];
      } in
      served_true (happened lost (Fact.Dropped client)) (Call.Cut client) (counted_kept.fact lost (Fact.Dropped client) tt
      (counted_kept.messages world (put world.requests client []) (put world.replies client [])
      (put world.links client Link.Cut) r.1)) (record {
        contents = λ file. t.contents file ∙ sym (plain_content file world.past (Fact.Dropped client) tt);
        in_step = λ c. carried_step lost (happened lost (Fact.Dropped client)) c refl refl refl refl
            (down_in_step world client Link.Cut (put world.requests client []) (put world.replies client []) refl
            (λ d ne. put_other world.replies client [] d ne) t.in_step c);
      });
  notice = λ world client some cut r n t. stepped_true (record world { links = put world.links client Link.Down }) client
      (client_called (world.clients client) ClientCall.Noticed) (record {
        contents = t.contents;
        in_step = down_in_step world client Link.Down world.requests world.replies refl (λ d ne. refl) t.in_step;
      });
  connect = λ world client some down r n t.
      let up : World = record world { links = put world.links client Link.Up } in
      stepped_true (call_served (link_made world client) (Call.Join client)) client
      (client_called (world.clients client) ClientCall.Connected)
      (served_true (link_made world client) (Call.Join client) (counted_kept.fact up (Fact.Joined client) tt
      (counted_kept.messages world world.requests world.replies (put world.links client Link.Up) r.1)) (record {
        contents = λ file. t.contents file ∙ sym (plain_content file world.past (Fact.Joined client) tt);
        in_step = joined_in_step world client (((r.0).tied client).replies (ap is_up down)) t.in_step;
      }));
  timer = λ world client file some on breaks r n t.
      served_true (happened world (Fact.Expired client file)) (Call.Expire (machine_key world client file))
      (counted_kept.fact world (Fact.Expired client file) tt r.1) (fact_true world (Fact.Expired client file) tt tt t);
  scavenge = λ world file_id r n t. served_true world (Call.Scavenge file_id) r.1 t;
  stray = λ world client request some up has r n t. record {
    contents = t.contents;
    in_step = λ c. carried_step world _ c refl refl refl refl (t.in_step c);
  };
}

ready_forms : HasForms (Keeps IsReady)
ready_forms = two_forms IsLinked IsCountedWorld linked_forms (kept_forms IsCountedWorld counted_kept)

telling_forms : HasForms (Keeps (Both IsReady IsTrue))
telling_forms = both_forms IsReady IsTrue ready_forms true_forms

-- ---- where runs begin

-- what stands under a number, where files are started from another one on
found : List (List ℕ) → ℕ → ℕ → List ℕ → List ℕ
found [] first file other = other
found (bytes ∷ files) first file other = found files (first + 1) file (if first == file then bytes else other)

found_starts : (files : List (List ℕ)) (first file : ℕ) (past : List Fact)
    → content_of file (reverse_aux (starts_from first files) past) ≡ found files first file (content_of file past)
unfolding found content_of starts_from
found_starts [] first file past = refl
found_starts (bytes ∷ files) first file past = found_starts files (first + 1) file (Fact.Start first bytes ∷ past)

-- not under a lower one
found_low : (files : List (List ℕ)) (first file : ℕ) (other : List ℕ) → file < first → found files first file other ≡ other
unfolding found
found_low [] first file other low = refl
found_low (bytes ∷ files) first file other low =
    found_low files (first + 1) file (if first == file then bytes else other) (omega (arith, low)) ∙ either (first == file)
    (λ same. let e = eqb-true first file same in absurd (omega (arith, low, e)))
    (λ apart. rw (apart) refl)

found_at : (files : List (List ℕ)) (first place : ℕ) (other : List ℕ)
    → found files first (first + place) other ≡ unwrap_or (slice_get files place) other
unfolding found
found_at [] first place other = refl
found_at (bytes ∷ files) first zero other =
    found_low files (first + 1) (first + zero) (if first == first + zero then bytes else other) (omega arith)
    ∙ rw (eq-eqb first (first + zero) (omega arith)) refl
found_at (bytes ∷ files) first (suc place) other =
    ap (λ n. found files (first + 1) n (if first == first + suc place then bytes else other)) (omega arith)
    ∙ found_at files (first + 1) place (if first == first + suc place then bytes else other) ∙ either (first == first + suc place)
    (λ same. let e = eqb-true first (first + suc place) same in absurd (omega (arith, e)))
    (λ apart. rw (apart) refl)

numbered_found : (files : List (List ℕ)) (file : ℕ) → numbered [] files file ≡ found files 1 file []
unfolding numbered
numbered_found files zero = sym (found_low files 1 zero [] (omega arith))
numbered_found files (suc place) = sym (ap (λ n. found files 1 n []) (omega arith) ∙ found_at files 1 place [])

pub take_all : {X : Type 0} (count : ℕ) (xs : List X) → length xs ≤ count → take count xs ≡ xs
take_all zero [] low = refl
take_all zero (x ∷ xs) low = absurd (omega (arith, low))
take_all (suc count) [] low = refl
take_all (suc count) (x ∷ xs) low = ap (λ ys. x ∷ ys) (take_all count xs (omega (arith, low)))

pub few_files : (files : List (List ℕ)) → nat_le (length files) files_limit ≡ true → length files ≤ last_file_number
unfolding files_limit last_file_number
few_files files e = grind arith

first_contents : (rules : Rules) (setup : Setup) → is_allowed_setup setup ≡ true
    → HasContents (first_world_under rules setup).past (first_world_under rules setup).server
unfolding first_world_under new_server_under is_allowed_setup content_of
first_contents rules setup allowed file =
    let few = (and_parts _ _ (and_parts _ _ (and_parts _ _ allowed).0).0).0 in
    ap (λ (files : List (List ℕ)). numbered [] files file) (take_all last_file_number setup.files (few_files setup.files few))
    ∙ numbered_found setup.files file ∙ sym (found_starts setup.files 1 file [])

first_idle : (rules : Rules) (setup : Setup) (c : ℕ) → KeepsStep (first_world_under rules setup) c
unfolding first_world_under
first_idle rules setup c up = absurd (true≢false (sym up))

first_telling : (rules : Rules) (setup : Setup) → is_allowed_setup setup ≡ true
    → Both IsReady IsTrue (first_world_under rules setup)
first_telling rules setup allowed = (
  (first_linked rules setup, first_counted rules setup),
  record { contents = first_contents rules setup allowed; in_step = first_idle rules setup },
)

run_telling : (rules : Rules) (setup : Setup) (events : List Event) → is_allowed_setup setup ≡ true
    → IsTrue (after (first_world_under rules setup) events)
run_telling rules setup events allowed =
    (kept_by_run (Both IsReady IsTrue) telling_forms (first_world_under rules setup) events (first_telling rules setup allowed)).1

pub contents_are_told : ContentsAreTold
contents_are_told rules setup events allowed file = (run_telling rules setup events allowed).contents file

pub replies_are_of_their_places : RepliesAreOfTheirPlaces
replies_are_of_their_places rules setup events allowed client up =
    ((run_telling rules setup events allowed).in_step client up).in_step
