-- A manager and its host go as the server goes, step by step.
use Rattle.lease_laws.proofs.Words.{◌++◌, ◌==◌, ◌∙◌, ◌∷◌, ◌≡◌, FileRequest, Held, List, Open, Progress, Server, ℕ, ap}
use Rattle.lease_laws.proofs.Words.{Bool, ap₂, begun, fun_ext, is_behind, map}
use Rattle.lease_laws.proofs.Words.{put, refl, subst, sym, waits_behind, without, []}
use Rattle.lease_laws.proofs.server.Lists.{if_cases}
use Rattle.lease_state.specs.declared.rules.Rules.{Rules}
use Rattle.manager_model.specs.Bare.{bare_held, bare_progress}
use Rattle.manager_model.specs.Decisions.{Decision}
use Rattle.manager_model.specs.Handling.{Handling, Tagged, ended_between, ends, gone_on, held_in, is_open, left_behind, queued}
use Rattle.manager_model.specs.Hosting.{AreAsked, AreServer, Host, Hosted, IsHostOf, does_all, filled, hosted}
use Rattle.manager_model.proofs.bytes.Steps.{any_map, map_put}
use Rattle.manager_model.proofs.hosts.Before.{behind}
use Rattle.manager_model.proofs.hosts.Faithful.{GoesFaithfully, does_then, told_bare}

-- A call of a manager under way, and that of the server.
pub record Serves (requests : ℕ → FileRequest) (start : Host) (now : Handling) (progress : Progress) : Type 0 where
  pub server : AreServer requests now.manager (hosted requests start now).host progress.server
  pub outs : (hosted requests start now).outs ≡ progress.outs

-- ---- what waits

pub asked_both : (requests : ℕ → FileRequest) (first later : List Tagged) → AreAsked requests first → AreAsked requests later
    → AreAsked requests (first ++ later)
asked_both requests [] later a b = b
asked_both requests (one ∷ first) later a b = (a.0, asked_both requests first later a.1 b)

pub asked_first : (requests : ℕ → FileRequest) (first later : List Tagged) → AreAsked requests (first ++ later)
    → AreAsked requests first
asked_first requests [] later a = tt
asked_first requests (one ∷ first) later a = (a.0, asked_first requests first later a.1)

pub asked_later : (requests : ℕ → FileRequest) (first later : List Tagged) → AreAsked requests (first ++ later)
    → AreAsked requests later
asked_later requests [] later a = a
asked_later requests (one ∷ first) later a = asked_later requests first later a.1

pub held_bare : (requests : ℕ → FileRequest) (queue : List Tagged) → AreAsked requests queue
    → held_in queue ≡ map bare_held (map (filled requests) queue)
held_bare requests [] a = refl
held_bare requests (one ∷ queue) a = ap₂ (λ x xs. x ∷ xs) a.0 (held_bare requests queue a.1)

pub behind_alike : (requests : ℕ → FileRequest) (rules : Rules) (one : Tagged) (passed : List Tagged)
    → is_behind rules one.held (held_in passed) ≡ is_behind rules (filled requests one) (map (filled requests) passed)
behind_alike requests rules one passed = any_map (waits_behind rules one.held) (λ p. p.held) passed
    ∙ sym (any_map (waits_behind rules (filled requests one)) (filled requests) passed)

-- ---- a step

-- the outs of a part of a call that begins with none are all that it gives out
all_more : (requests : ℕ → FileRequest) (tag : ℕ) (before : Server) (after : Progress)
    → (goes : GoesFaithfully requests tag (begun before) after) → after.outs ≡ goes.more
all_more requests tag before after goes = goes.are_more

pub record HasGone (requests : ℕ → FileRequest) (start : Host) (tag : ℕ) (now : Handling) (progress after : Progress) : Type 0
  where
    pub hosts : IsHostOf (hosted requests start (gone_on tag (bare_progress after) now)).host after.server
    pub outs : (hosted requests start (gone_on tag (bare_progress after) now)).outs ≡ progress.outs ++ after.outs

pub has_gone : (requests : ℕ → FileRequest) (start : Host) (tag : ℕ) (now : Handling) (progress after : Progress)
    → Serves requests start now progress → GoesFaithfully requests tag (begun progress.server) after
    → HasGone requests start tag now progress after
has_gone requests start tag now progress after s goes =
    let mid = hosted requests start now in
    let done = goes.does mid.host mid.outs s.server.hosts in
    let split : hosted requests start (gone_on tag (bare_progress after) now)
    ≡ does_all requests (told_bare tag goes.more) (record { host = mid.host; outs = mid.outs }) =
    does_then requests now.told (told_bare tag after.outs) (record { host = start; outs = [] })
    ∙ ap (λ outs. does_all requests (told_bare tag outs) (record { host = mid.host; outs = mid.outs }))
    (all_more requests tag progress.server after goes) in record {
      hosts = subst (λ (d : Hosted). IsHostOf d.host after.server) (sym split) done.hosts;
      outs = ap (λ (d : Hosted). d.outs) split ∙ done.sends
          ∙ ap₂ (λ x y. x ++ y) s.outs (sym (all_more requests tag progress.server after goes));
    }

-- that opens end asks nothing of the bytes
does_ends : (requests : ℕ → FileRequest) (opens : List Open) (done : Hosted)
    → does_all requests (map (λ (one : Open). Decision.Ended one.file_id) opens) done ≡ done
unfolding does_all
does_ends requests [] done = refl
does_ends requests (one ∷ opens) done = does_ends requests opens done

pub ends_nothing : (requests : ℕ → FileRequest) (before after : Server) (told : List Decision) (done : Hosted)
    → does_all requests (told ++ ended_between before after) done ≡ does_all requests told done
unfolding ended_between
ends_nothing requests before after told done = does_then requests told (ended_between before after) done
    ∙ does_ends requests (without (is_open after) before.opens) (does_all requests told done)

-- nor that they wait for their client
does_left : (requests : ℕ → FileRequest) (opens : List Open) (done : Hosted)
    → does_all requests (map (λ (one : Open). Decision.LeftBehind one.file_id) opens) done ≡ done
unfolding does_all
does_left requests [] done = refl
does_left requests (one ∷ opens) done = does_left requests opens done

pub left_nothing : (requests : ℕ → FileRequest) (test : Open → Bool) (server : Server) (told : List Decision) (done : Hosted)
    → does_all requests (told ++ left_behind test server) done ≡ does_all requests told done
unfolding left_behind
left_nothing requests test server told done = does_then requests told (left_behind test server) done
    ∙ does_left requests _ (does_all requests told done)

pub ends_serving : (requests : ℕ → FileRequest) (start : Host) (after : Server) (now : Handling) (progress : Progress)
    → Serves requests start now progress → Serves requests start (ends after now) progress
ends_serving requests start after now progress s =
    let same = ends_nothing requests now.manager.server after now.told (record { host = start; outs = [] }) in record {
      server = subst (λ (d : Hosted). AreServer requests now.manager d.host progress.server) (sym same) s.server;
      outs = ap (λ (d : Hosted). d.outs) same ∙ s.outs;
    }

-- a part of a call after which the same waits
pub goes_serving : (requests : ℕ → FileRequest) (start : Host) (tag : ℕ) (now : Handling) (progress after : Progress)
    → Serves requests start now progress → GoesFaithfully requests tag (begun progress.server) after
    → after.server.held ≡ progress.server.held
    → Serves requests start (gone_on tag (bare_progress after) now) (behind progress.outs after)
goes_serving requests start tag now progress after s goes held =
    let gone = has_gone requests start tag now progress after s goes in record {
      server = record {
        without_bytes = refl;
        waiting = λ file. ap (λ (h : ℕ → List Held). h file) held ∙ s.server.waiting file;
        asked = s.server.asked;
        hosts = gone.hosts;
      };
      outs = gone.outs;
    }

-- the queues of a server with other requests on one file
pub queues_put : (requests : ℕ → FileRequest) (server : Server) (queues : ℕ → List Tagged) (file : ℕ) (queue : List Tagged)
    → ((n : ℕ) → server.held n ≡ map (filled requests) (queues n)) → (n : ℕ)
    → put server.held file (map (filled requests) queue) n ≡ map (filled requests) (put queues file queue n)
queues_put requests server queues file queue same n =
    ap (λ (held : ℕ → List Held). put held file (map (filled requests) queue) n) (fun_ext same)
    ∙ ap (λ (held : ℕ → List Held). held n) (map_put (map (filled requests)) queues file queue)

-- the property of each queue, with another one on one file
pub asked_put : (requests : ℕ → FileRequest) (queues : ℕ → List Tagged) (file : ℕ) (queue : List Tagged)
    → ((n : ℕ) → AreAsked requests (queues n)) → AreAsked requests queue → (n : ℕ) → AreAsked requests (put queues file queue n)
unfolding put
asked_put requests queues file queue all one n =
    if_cases (AreAsked requests) (n == file) queue (queues n) (λ here. one) (λ apart. all n)

-- a part of a call after which these wait on a file
pub goes_queued : (requests : ℕ → FileRequest) (start : Host) (tag : ℕ) (now : Handling) (progress after : Progress) (file : ℕ)
    (queue : List Tagged) → Serves requests start now progress → GoesFaithfully requests tag (begun progress.server) after
    → after.server.held ≡ put progress.server.held file (map (filled requests) queue) → AreAsked requests queue
    → Serves requests start (queued file queue (gone_on tag (bare_progress after) now)) (behind progress.outs after)
goes_queued requests start tag now progress after file queue s goes held asked =
    let gone = has_gone requests start tag now progress after s goes in record {
      server = record {
        without_bytes = refl;
        waiting = λ n. ap (λ (h : ℕ → List Held). h n) held
            ∙ queues_put requests progress.server now.manager.queues file queue s.server.waiting n;
        asked = asked_put requests now.manager.queues file queue s.server.asked asked;
        hosts = gone.hosts;
      };
      outs = gone.outs;
    }
