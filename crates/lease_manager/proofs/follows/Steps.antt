-- A step of a call of a manager, and of a call of its server.
use Rattle.lease_laws.proofs.Words.{◌++◌, ◌∙◌, ◌∷◌, ◌≡◌, Held, List, None, Open, Out, Progress, Reply, Server, Some, ℕ, []}
use Rattle.lease_laws.proofs.Words.{append-nil, append_assoc, ap, ap₂, fun_ext, map, map-append, put, refl, request_held, sym}
use Rattle.lease_laws.proofs.Words.{◌&&◌, Bool, begun, filter, outlives_connection, without}
use Rattle.manager_model.specs.Decisions.{Decision, told_of, told_of_out}
use Rattle.manager_model.specs.Handling.{Handling, Manager, Tagged, at_server, ended_between, ends, gone_on, handling, held_in}
use Rattle.manager_model.specs.Handling.{IsTagged, is_open, left_behind, left_to_wait, queued}
use Rattle.manager_model.proofs.bytes.Steps.{map_put}
use Rattle.manager_model.proofs.hosts.Before.{behind}
use Rattle.lease_manager.specs.Calls.{GoesAs, untagged, untagged_of}

-- ---- what is told

pub untagged_both : (first later : List Decision) → untagged (first ++ later) ≡ untagged first ++ untagged later
untagged_both [] later = refl
untagged_both (one ∷ first) later = ap (λ l. untagged_of one ++ l) (untagged_both first later)
    ∙ sym (append_assoc (untagged_of one) (untagged first) (untagged later))

untagged_out : (tag : ℕ) (out : Out) → untagged (told_of_out tag out) ≡ told_of_out 0 out
untagged_out tag (Out.Sent client (Reply.Created file file_id None)) = refl
untagged_out tag (Out.Sent client (Reply.Created file file_id (Some answer))) = refl
untagged_out tag (Out.Sent client (Reply.CreateFailed file status)) = refl
untagged_out tag (Out.Sent client (Reply.ReadDone file_id bytes)) = refl
untagged_out tag (Out.Sent client (Reply.ReadFailed file_id status)) = refl
untagged_out tag (Out.Sent client (Reply.WriteDone file_id number)) = refl
untagged_out tag (Out.Sent client (Reply.WriteFailed file_id number status)) = refl
untagged_out tag (Out.Sent client (Reply.Closed file_id)) = refl
untagged_out tag (Out.Sent client (Reply.CloseFailed file_id status)) = refl
untagged_out tag (Out.Sent client (Reply.Break None)) = refl
untagged_out tag (Out.Sent client (Reply.Break (Some notice))) = refl
untagged_out tag (Out.Sent client (Reply.AckDone None)) = refl
untagged_out tag (Out.Sent client (Reply.AckDone (Some given))) = refl
untagged_out tag (Out.Sent client (Reply.AckFailed status)) = refl
untagged_out tag (Out.Opened file client) = refl
untagged_out tag (Out.Changed file client number patch) = refl

pub untagged_outs : (tag : ℕ) (outs : List Out) → untagged (told_of tag outs) ≡ told_of 0 outs
untagged_outs tag [] = refl
untagged_outs tag (out ∷ outs) = untagged_both (told_of_out tag out) (told_of tag outs)
    ∙ ap₂ (λ a b. a ++ b) (untagged_out tag out) (untagged_outs tag outs)

pub told_both : (first later : List Out) → told_of 0 (first ++ later) ≡ told_of 0 first ++ told_of 0 later
told_both [] later = refl
told_both (out ∷ first) later = ap (λ l. told_of_out 0 out ++ l) (told_both first later)
    ∙ sym (append_assoc (told_of_out 0 out) (told_of 0 first) (told_of 0 later))

ended_unsaid : (opens : List Open) → untagged (map (λ (one : Open). Decision.Ended one.file_id) opens) ≡ []
ended_unsaid [] = refl
ended_unsaid (one ∷ opens) = ended_unsaid opens

pub ends_unsaid : (before after : Server) → untagged (ended_between before after) ≡ []
unfolding ended_between
ends_unsaid before after = ended_unsaid (without (is_open after) before.opens)

left_unsaid : (opens : List Open) → untagged (map (λ (one : Open). Decision.LeftBehind one.file_id) opens) ≡ []
left_unsaid [] = refl
left_unsaid (one ∷ opens) = left_unsaid opens

pub parts_unsaid : (test : Open → Bool) (before after : Server)
    → untagged (ended_between before after ++ left_behind test before) ≡ []
unfolding left_behind
parts_unsaid test before after = untagged_both (ended_between before after) (left_behind test before)
    ∙ ap₂ (λ a b. a ++ b) (ends_unsaid before after)
    (left_unsaid (filter (λ one. test one && one.connected && outlives_connection before one) before.opens))

-- what ends is told besides
pub told_with_ends : (told : List Decision) (before after : Server) (outs : List Out) → untagged told ≡ told_of 0 outs
    → untagged (told ++ ended_between before after) ≡ told_of 0 outs
told_with_ends told before after outs same = untagged_both told (ended_between before after)
    ∙ ap₂ (λ a b. a ++ b) same (ends_unsaid before after) ∙ append-nil (told_of 0 outs)

pub told_with_outs : (tag : ℕ) (told : List Decision) (before outs : List Out) → untagged told ≡ told_of 0 before
    → untagged (told ++ told_of tag outs) ≡ told_of 0 (before ++ outs)
told_with_outs tag told before outs same = untagged_both told (told_of tag outs)
    ∙ ap₂ (λ a b. a ++ b) same (untagged_outs tag outs) ∙ sym (told_both before outs)

-- ---- what waits

-- the queues of a server with other requests on one file
pub queues_held : (server : Server) (queues : ℕ → List Tagged) (file : ℕ) (queue : List Tagged)
    → ((n : ℕ) → server.held n ≡ held_in (queues n)) → (n : ℕ)
    → put server.held file (held_in queue) n ≡ held_in (put queues file queue n)
queues_held server queues file queue same n =
    ap (λ (held : ℕ → List Held). put held file (held_in queue) n) (fun_ext same)
    ∙ ap (λ (held : ℕ → List Held). held n) (map_put (λ (l : List Tagged). held_in l) queues file queue)

-- ---- steps

pub begins : (manager : Manager) → IsTagged manager → GoesAs (handling manager) (begun manager.server)
begins manager tagged = record { server = refl; tagged = tagged; told = refl }

pub ends_following : (after : Server) (now : Handling) (progress : Progress) → GoesAs now progress
    → GoesAs (ends after now) progress
ends_following after now progress f = record {
  server = f.server;
  tagged = f.tagged;
  told = told_with_ends now.told now.manager.server after progress.outs f.told;
}

-- after which the same waits
pub goes_following : (tag : ℕ) (now : Handling) (progress after : Progress) → GoesAs now progress
    → after.server.held ≡ progress.server.held → GoesAs (gone_on tag after now) (behind progress.outs after)
goes_following tag now progress after f held = record {
  server = refl;
  tagged = λ file. ap (λ (h : ℕ → List Held). h file) held ∙ ap (λ (s : Server). s.held file) (sym f.server) ∙ f.tagged file;
  told = told_with_outs tag now.told progress.outs after.outs f.told;
}

-- after which these wait on a file
pub queued_following : (tag file : ℕ) (queue : List Tagged) (now : Handling) (progress after : Progress) → GoesAs now progress
    → after.server.held ≡ put progress.server.held file (held_in queue)
    → GoesAs (queued file queue (gone_on tag after now)) (behind progress.outs after)
queued_following tag file queue now progress after f held = record {
  server = refl;
  tagged = λ n. ap (λ (h : ℕ → List Held). h n) held
      ∙ queues_held progress.server now.manager.queues file queue
      (λ m. ap (λ (s : Server). s.held m) (sym f.server) ∙ f.tagged m) n;
  told = told_with_outs tag now.told progress.outs after.outs f.told;
}

-- a request begins to wait
pub waits_following : (file : ℕ) (one : Tagged) (now : Handling) (progress : Progress) → GoesAs now progress
    → GoesAs (left_to_wait file one now) (request_held file one.held progress)
waits_following file one now progress f =
    let queue = now.manager.queues file in record {
      server = ap (λ (m : Server). (request_held file one.held (begun m)).server) f.server;
      tagged = λ n. ap (λ (l : List Held). put now.manager.server.held file l n)
          (ap (λ (l : List Held). l ++ one.held ∷ []) (f.tagged file)
          ∙ sym (map-append (λ (o : Tagged). o.held) queue (one ∷ [])))
          ∙ queues_held now.manager.server now.manager.queues file (queue ++ one ∷ []) f.tagged n;
      told = untagged_both now.told (Decision.Waits one.held.client one.tag ∷ [])
          ∙ ap (λ l. l ++ []) f.told ∙ append-nil (told_of 0 progress.outs)
          ∙ sym (ap (told_of 0) (append-nil progress.outs));
    }

-- what gives nothing out, and leaves what waits
pub becomes : (manager : Manager) (after : Progress) → IsTagged manager → after.outs ≡ []
    → after.server.held ≡ manager.server.held → GoesAs (at_server after.server (handling manager)) after
becomes manager after tagged silent held = record {
  server = refl;
  tagged = λ file. ap (λ (h : ℕ → List Held). h file) held ∙ tagged file;
  told = ends_unsaid manager.server after.server ∙ sym (ap (told_of 0) silent);
}
