-- At every point of a run the contents of the server are those of the record.
use Rattle.lease_laws.proofs.Words.{◌==◌, ◌∙◌, ◌∷◌, ◌≡◌, Fact, FileRequest, Link, List, Note, Patch, Server, Step, World, ℕ, []}
use Rattle.lease_laws.proofs.Words.{ap, arith, commanded, connection_made, content_of, eq-eqb, eqb-true, fact_of, if◌then◌else◌}
use Rattle.lease_laws.proofs.Words.{lease_after, noticed, put, refl, stepped_in, subst, sym, taken}
use Rattle.lease_state.specs.Content.{patch as patched}
use Rattle.lease_laws.proofs.client.Thin.{put_other, put_same}
use Rattle.lease_laws.proofs.server.Lists.{clash, either}
use Rattle.lease_laws.proofs.world.Runs.{stepped_server}
use Rattle.lease_laws.proofs.world.cases.Events.{IsTold}
use Rattle.lease_coherence.proofs.moves.Deeds.{HasDeeds, IsSource, step_deed}
use Rattle.lease_coherence.proofs.moves.Events.{Ground, IsMoved, Move, come_back, reply_gone}
use Rattle.lease_coherence.proofs.moves.Frames.{from_source, lease_put_rest, stepped_past}
use Rattle.lease_coherence.proofs.records.Later.{past_noted}

abbrev pub AreContents : List Fact → (ℕ → List ℕ) → Type 0
AreContents past contents = (file : ℕ) → contents file ≡ content_of file past

abbrev pub HasContents : World → Type 0
HasContents world = AreContents world.past world.server.contents

off_contents : (world off : World) (client : ℕ) (request : FileRequest) → IsSource world off client request
    → HasContents world → HasContents off
off_contents world off client request source h = from_source world off client request HasContents source h (λ file left. h)

changed_contents : (contents : ℕ → List ℕ) (past : List Fact) (at client number : ℕ) (patch : Patch) → AreContents past contents
    → AreContents (Fact.Sent client ∷ Fact.Changed at client number patch ∷ past) (put contents at (patched (contents at) patch))
unfolding content_of
changed_contents contents past at client number patch has file = either (at == file)
    (λ same. subst (λ f. put contents at (patched (contents at) patch) f
    ≡ (if at == f then patched (content_of f past) patch else content_of f past)) (eqb-true at file same)
    (rw (eq-eqb at at refl, put_same contents at (patched (contents at) patch)) (ap (λ c. patched c patch) (has at))))
    (λ apart. rw (apart) (put_other contents at (patched (contents at) patch) file
    (λ e. clash (at == file) (eq-eqb at file (sym e)) apart) ∙ has file))

deeds_contents : (world : World) → HasContents world → HasDeeds world HasContents
unfolding content_of
deeds_contents world h = record {
  refused = λ off client request status source may. off_contents world off client request source h;
  full = λ off client file access share ask source. off_contents world off client _ source h;
  granted = λ off client file access share ask source none on free file_of.
      lease_put_rest off.server client ask.lease (lease_after off.server client file ask.lease)
      (λ s. s.contents file_of ≡ content_of file_of off.past) (λ l. off_contents world off client _ source h file_of);
  reconnected = λ off client file access share ask file_id source again on waits. off_contents world off client _ source h;
  read = λ off client file_id one source found may. off_contents world off client _ source h;
  changed = λ off client file_id number patch one source found may.
      changed_contents off.server.contents off.past one.file client number patch (off_contents world off client _ source h);
  closed = λ off client file_id one source found. off_contents world off client _ source h;
  ack_failed = λ client given status oldest up why. h;
  ack_done = λ client given lowered oldest up there breaks within. h;
  hold = λ file one oldest may turn. h;
  drop = λ key. h;
  lower = λ key lowered may light. h;
  begin = λ key lowered may heavy. h;
}

-- ---- steps of a client

note_content : (client : ℕ) (note : Note) (past : List Fact) (file : ℕ)
    → content_of file (fact_of client note ∷ past) ≡ content_of file past
unfolding content_of
note_content client (Note.Settled number outcome) past file = refl
note_content client note past file = refl

pub noted_content : (client : ℕ) (past : List Fact) (notes : List Note) (file : ℕ)
    → content_of file (past_noted client past notes) ≡ content_of file past
noted_content client past [] file = refl
noted_content client past (note ∷ notes) file =
    noted_content client (fact_of client note ∷ past) notes file ∙ note_content client note past file

stepped_contents : (world : World) (client : ℕ) (step : Step) → HasContents world → HasContents (stepped_in world client step)
stepped_contents world client step h file = ap (λ (s : Server). s.contents file) (stepped_server world client step)
    ∙ h file ∙ sym (ap (content_of file) (stepped_past world client step) ∙ noted_content client world.past step.notes file)

told_content : (client : ℕ) (fact : Fact) (past : List Fact) (file : ℕ) → IsTold client fact
    → content_of file (fact ∷ past) ≡ content_of file past
unfolding content_of
told_content client fact past file is = grind arith

pub contents_moves : IsMoved Ground HasContents
unfolding content_of
contents_moves world (Move.Told client fact) is g h = λ file. h file ∙ sym (told_content client fact world.past file is)
contents_moves world (Move.Step step) next g h = step_deed world HasContents (deeds_contents world h) step next
contents_moves world (Move.Expire client file) (on, breaks) g h = h
contents_moves world (Move.Scavenge file_id) may g h = h
contents_moves world (Move.Connect client) down g h =
    stepped_contents (come_back world client) client (connection_made (world.clients client)) h
contents_moves world (Move.Commanded client command) may g h =
    stepped_contents world client (commanded (world.clients client) command) h
contents_moves world (Move.Take client reply queue) first g h =
    stepped_contents (reply_gone world client queue) client (taken (world.clients client) reply) h
contents_moves world (Move.Notice client) cut g h =
    stepped_contents (record world { links = put world.links client Link.Down }) client (noticed (world.clients client)) h
contents_moves world move up g h = h
