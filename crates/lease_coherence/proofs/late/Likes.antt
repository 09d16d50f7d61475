-- What moves of the server leave of the writes and grants on their way.
use Rattle.lease_laws.proofs.Words.{◌&&◌, ◌++◌, ◌==◌, ◌||◌, ◌∙◌, ◌∷◌, ◌≡◌, ◌≤◌, Among, Bool, Fact, FileRequest, Held, List}
use Rattle.lease_laws.proofs.Words.{Note, Patch, Pending, Reply, Request, Some, World, ℕ, [], ⊎_elim, ap, eq-eqb, fact_of}
use Rattle.lease_laws.proofs.Words.{false, given_state, has_buffered, inl, inr, is_touched, not, refl, subst, sym, true}
use Rattle.lease_laws.proofs.Words.{was_opened}
use Rattle.lease_coherence.specs.Names.{Each, IsNamedAt, IsNamedReply, IsNamedRequest, WasWrittenOn}
use Rattle.lease_coherence.specs.Standing.{AllAsked}
use Rattle.lease_coherence.proofs.beliefs.OneLease.{AckKeeps}
use Rattle.lease_coherence.proofs.late.SafeWrites.{AcksKeep, GrantSafe, GrantsSafe, HeldPlain, IsLike, KnowsIds, NotBuffered}
use Rattle.lease_coherence.proofs.late.SafeWrites.{SamePast, StillHolds, WriteSafe, given_writes, plain_like, same_key}
use Rattle.lease_coherence.proofs.late.SafeWrites.{write_like}
use Rattle.lease_coherence.proofs.moves.Shift.{append_none}
use Rattle.lease_coherence.proofs.names.NamedInRecord.{opened_by, opened_once, opened_within}
use Rattle.lease_coherence.proofs.names.Names.{IsCountedOff}
use Rattle.lease_coherence.proofs.order.OrderedRequests.{append_three}
use Rattle.lease_coherence.proofs.records.Later.{past_noted}

-- ---- FileIds

pub ids_of : (world : World) (c : ℕ) → IsCountedOff world → KnowsIds world c
ids_of world c counted = record {
  low = λ file_id file e. subst (λ n. file_id ≤ n) (sym counted.last) (opened_within file_id file c world.past e);
  on = λ file_id file e x there id.
      let told = subst (λ i. was_opened i x.file x.client world.past ≡ true) id (counted.opens x there) in (
        opened_once file_id x.file x.client file c world.past told e,
        opened_by file_id x.file x.client file c world.past told e,
      );
}

-- ---- what own facts say of own writes

own_and : (here apart was touched : Bool) → apart ≡ false → ((here && apart && was) || touched) ≡ touched
own_and true apart was touched e = rw (e) refl
own_and false apart was touched e = refl

own_not : (c : ℕ) → not (c == c) ≡ false
own_not c = ap not (eq-eqb c c refl)

pub same_past : (c : ℕ) (past : List Fact) → SamePast c past past
same_past c past = record { buffered = λ f n. refl; touched = λ f n. refl }

pub sent_past : (c client : ℕ) (past : List Fact) → SamePast c past (Fact.Sent client ∷ past)
unfolding has_buffered is_touched
sent_past c client past = record { buffered = λ f n. refl; touched = λ f n. refl }

pub expired_past : (c client file : ℕ) (past : List Fact) → SamePast c past (Fact.Expired client file ∷ past)
unfolding has_buffered is_touched
expired_past c client file past = record { buffered = λ f n. refl; touched = λ f n. refl }

pub dropped_past : (c client : ℕ) (past : List Fact) → SamePast c past (Fact.Dropped client ∷ past)
unfolding has_buffered is_touched
dropped_past c client past = record { buffered = λ f n. refl; touched = λ f n. refl }

pub joined_past : (c client : ℕ) (past : List Fact) → SamePast c past (Fact.Joined client ∷ past)
unfolding has_buffered is_touched
joined_past c client past = record { buffered = λ f n. refl; touched = λ f n. refl }

pub took_past : (c client : ℕ) (past : List Fact) → SamePast c past (Fact.Took client ∷ past)
unfolding has_buffered is_touched
took_past c client past = record { buffered = λ f n. refl; touched = λ f n. refl }

pub opened_past : (c file : ℕ) (past : List Fact) → SamePast c past (Fact.Sent c ∷ Fact.Opened file c ∷ past)
unfolding has_buffered is_touched
opened_past c file past = record {
  buffered = λ f n. refl;
  touched = λ f n. own_and (file == f) (not (c == c)) (has_buffered c f n past) (is_touched c f n past) (own_not c);
}

pub changed_past : (c file number : ℕ) (patch : Patch) (past : List Fact)
    → SamePast c past (Fact.Sent c ∷ Fact.Changed file c number patch ∷ past)
unfolding has_buffered is_touched
changed_past c file number patch past = record {
  buffered = λ f n. refl;
  touched = λ f n. own_and (file == f) (not (c == c)) (has_buffered c f n past) (is_touched c f n past) (own_not c);
}

-- notes touch nothing
pub noted_touched : (c client file number : ℕ) (past : List Fact) (notes : List Note)
    → is_touched c file number (past_noted client past notes) ≡ is_touched c file number past
unfolding is_touched
noted_touched c client file number past [] = refl
noted_touched c client file number past (Note.Settled n outcome ∷ notes) =
    noted_touched c client file number (fact_of client (Note.Settled n outcome) ∷ past) notes
noted_touched c client file number past (note ∷ notes) = noted_touched c client file number (fact_of client note ∷ past) notes

-- ---- requests

pub asked_both : (P Q : Request → Type 0) (R : Request → Type 0) (world : World) (c : ℕ)
    → ((r : Request) → P r → Q r → R r) → AllAsked P world c → AllAsked Q world c → AllAsked R world c
asked_both P Q R world c f p q = record {
  queued = each_both (world.requests c) p.queued q.queued;
  held = λ at one a own. f (Request.OnFile one.request) (p.held at one a own) (q.held at one a own);
}
  where
    each_both : (queue : List Request) → Each P queue → Each Q queue → Each R queue
    each_both [] x y = tt
    each_both (r ∷ queue) x y = (f r x.0 y.0, each_both queue x.1 y.1)

pub named_asked : (world : World) (c : ℕ) → IsNamedAt world c
    → AllAsked (IsNamedRequest c (world.clients c).guid world.past) world c
named_asked world c n = record { queued = n.requests; held = λ file one a own. (n.held file one a own).named }

-- with the same requests
asked_moved : (P : Request → Type 0) (world new : World) (c : ℕ) → new.requests c ≡ world.requests c
    → new.server.held ≡ world.server.held → AllAsked P world c → AllAsked P new c
asked_moved P world new c requests held a = record {
  queued = subst (Each P) (sym requests) a.queued;
  held = λ file one x own. a.held file one (subst (λ (h : ℕ → List Held). Among one (h file)) held x) own;
}

pub writes_up : (world new : World) (c : ℕ) → IsLike world new c → KnowsIds world c → StillHolds world new c
    → new.requests c ≡ world.requests c → new.server.held ≡ world.server.held → IsNamedAt world c
    → AllAsked (WriteSafe world c) world c → AllAsked (WriteSafe new c) new c
writes_up world new c like ids holds requests held n a = asked_moved (WriteSafe new c) world new c requests held
    (asked_both (WriteSafe world c) (IsNamedRequest c (world.clients c).guid world.past) (WriteSafe new c) world c
    still a (named_asked world c n))
  where
    still : (r : Request) → WriteSafe world c r → IsNamedRequest c (world.clients c).guid world.past r → WriteSafe new c r
    still (Request.OnFile (FileRequest.Write file_id number patch)) safe w =
        write_like world new c like ids file_id w.file number w.opened
        (λ b x there own on. holds w.file x there own on) safe
    still request safe w = tt

pub held_up : (world new : World) (c : ℕ) → IsLike world new c → KnowsIds world c
    → new.server.held ≡ world.server.held → IsNamedAt world c
    → ((file : ℕ) (one : Held) → Among one (world.server.held file) → one.client ≡ c
    → HeldPlain world c (Request.OnFile one.request))
    → (file : ℕ) (one : Held) → Among one (new.server.held file) → one.client ≡ c → HeldPlain new c (Request.OnFile one.request)
held_up world new c like ids held n plain file one a own =
    let was = subst (λ (h : ℕ → List Held). Among one (h file)) held a in
    still one.request (plain file one was own) (n.held file one was own).named
  where
    still : (r : FileRequest) → HeldPlain world c (Request.OnFile r)
        → IsNamedRequest c (world.clients c).guid world.past (Request.OnFile r) → HeldPlain new c (Request.OnFile r)
    still (FileRequest.Write file_id number patch) p w = plain_like world new c like ids file_id w.file number w.opened p
    still request p w = tt

-- ---- acknowledgments

not_buffered_like : (world new : World) (c file : ℕ) → IsLike world new c → KnowsIds world c → (queue : List Request)
    → Each (IsNamedRequest c (world.clients c).guid world.past) queue → Each (NotBuffered world c file) queue
    → Each (NotBuffered new c file) queue
not_buffered_like world new c file like ids [] n each = tt
not_buffered_like world new c file like ids (Request.OnFile (FileRequest.Write file_id number patch) ∷ queue) n each = (
  λ x there by id on.
      let named : WasWrittenOn c file_id number patch world.past = n.0 in
      let w = like.from x there by (subst (λ i. i ≤ world.server.last_id) (sym id) (ids.low file_id named.file named.opened)) in
      like.past.buffered file number ∙ each.0 w.was w.there (w.client ∙ by) (w.id ∙ id) (w.file ∙ on),
  not_buffered_like world new c file like ids queue n.1 each.1,
)
not_buffered_like world new c file like ids (Request.OnFile (FileRequest.Create f access share contexts) ∷ queue) n each =
    (tt, not_buffered_like world new c file like ids queue n.1 each.1)
not_buffered_like world new c file like ids (Request.OnFile (FileRequest.Read file_id) ∷ queue) n each =
    (tt, not_buffered_like world new c file like ids queue n.1 each.1)
not_buffered_like world new c file like ids (Request.OnFile (FileRequest.Close file_id) ∷ queue) n each =
    (tt, not_buffered_like world new c file like ids queue n.1 each.1)
not_buffered_like world new c file like ids (Request.Acknowledge given ∷ queue) n each =
    (tt, not_buffered_like world new c file like ids queue n.1 each.1)

pub acks_like : (world new : World) (c : ℕ) → IsLike world new c → KnowsIds world c → (queue : List Request)
    → Each (IsNamedRequest c (world.clients c).guid world.past) queue → AcksKeep world c queue → AcksKeep new c queue
acks_like world new c like ids [] n a = tt
acks_like world new c like ids (Request.OnFile request ∷ queue) n a = acks_like world new c like ids queue n.1 a
acks_like world new c like ids (Request.Acknowledge given ∷ queue) n a = (
  λ file. ⊎_elim
      (λ keeps. inl (subst (λ key. AckKeeps key (Request.Acknowledge given)) (sym (same_key world new c like.machine file))
      keeps))
      (λ none. inr (not_buffered_like world new c file like ids queue n.1 none)) (a.0 file),
  acks_like world new c like ids queue n.1 a.1,
)

-- ---- grants

grant_like : (world new : World) (c file : ℕ) → IsLike world new c → KnowsIds world c → (sent : List Pending)
    → (front : List Reply) (reply : Reply) → IsNamedReply c world.past reply → GrantSafe world c file sent front reply
    → GrantSafe new c file sent front reply
grant_like world new c file like ids sent front (Reply.Created other file_id (Some answer)) n g = λ same x there by id.
    let opened = subst (λ f. was_opened file_id f c world.past ≡ true) same n in
    let w = like.from x there by (subst (λ i. i ≤ world.server.last_id) (sym id) (ids.low file_id file opened)) in
    let on = ids.on file_id file opened w.was w.there (w.id ∙ id) in
    let key = same_key world new c like.machine file in
    let safe = g same w.was w.there (w.client ∙ by) (w.id ∙ id) in record {
      timely = λ e. like.timely file x there (sym w.client ∙ on.1) (sym w.file ∙ on.0)
          (safe.timely (ap (λ k. given_writes k answer.lease) (sym key) ∙ e));
      clean = λ e write a buffered none. like.past.touched file write.number
          ∙ safe.clean (ap (λ k. (given_state k answer.lease).write) (sym key) ∙ e) write a buffered none;
    }
grant_like world new c file like ids sent front reply n g = tt

pub grants_like : (world new : World) (c file : ℕ) → IsLike world new c → KnowsIds world c → (sent : List Pending)
    → (front queue : List Reply) → Each (IsNamedReply c world.past) queue → GrantsSafe world c file sent front queue
    → GrantsSafe new c file sent front queue
grants_like world new c file like ids sent front [] n g = tt
grants_like world new c file like ids sent front (reply ∷ queue) n g = (
  grant_like world new c file like ids sent front reply n.0 g.0,
  grants_like world new c file like ids sent (front ++ reply ∷ []) queue n.1 g.1,
)

-- one more reply
pub grants_last : (world : World) (c file : ℕ) (sent : List Pending) (front queue : List Reply) (reply : Reply)
    → GrantsSafe world c file sent front queue → GrantSafe world c file sent (front ++ queue) reply
    → GrantsSafe world c file sent front (queue ++ reply ∷ [])
grants_last world c file sent front [] reply g last =
    (subst (λ f. GrantSafe world c file sent f reply) (append_none front) last, tt)
grants_last world c file sent front (x ∷ queue) reply g last = (
  g.0,
  grants_last world c file sent (front ++ x ∷ []) queue reply g.1
      (subst (λ f. GrantSafe world c file sent f reply) (sym (append_three front (x ∷ []) queue)) last),
)
