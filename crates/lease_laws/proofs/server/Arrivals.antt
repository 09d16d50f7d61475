-- A request that comes lets no first held request wait for nothing.
use Rattle.lease_laws.proofs.Words.{◌++◌, ◌∙◌, ◌∷◌, ◌≡◌, ◌≤◌, Among, CreateAsk, Err, FileRequest}
use Rattle.lease_laws.proofs.Words.{HasToWait, Held, IsAbout, IsAlone, IsOpenOn, IsOrderly, IsSound, LeaseOf, List, None, Ok}
use Rattle.lease_laws.proofs.Words.{Open, Option, Outcome, Progress, Result, Server, Some, Status, Tried}
use Rattle.lease_laws.proofs.Words.{ℕ, ⊎_elim, [], acknowledged, after_first_try, ap, arith, arrived_on}
use Rattle.lease_laws.proofs.Words.{concluded, connected_open, false, file_asked, file_of_create, file_of_open}
use Rattle.lease_laws.proofs.Words.{file_request_arrived, has_file, is_behind}
use Rattle.lease_laws.proofs.Words.{new_server_under, put, refl, refused, request_held}
use Rattle.lease_laws.proofs.Words.{all_passes, subst, sym, tried, true}
use Rattle.lease_laws.proofs.Words.{Rules, arrived_before, as_held}
use Rattle.lease_laws.proofs.Words.{inl}
use Rattle.lease_laws.proofs.server.Answers.{acknowledged-sound}
use Rattle.lease_laws.proofs.server.FileReady.{ready-file}
use Rattle.lease_laws.proofs.server.Goes.{file_frame, GoesOn, Goes, acknowledged-goes, one_id}
use Rattle.lease_laws.proofs.server.Held.{SameHeld, concluded-held}
use Rattle.lease_laws.proofs.server.Keeps.{Kept, Anywhere, connected_has, waits_keep, concluded-open}
use Rattle.lease_laws.proofs.server.Lists.{if_cases, clash, among_append}
use Rattle.lease_laws.proofs.server.Lists.{among_behind}
use Rattle.lease_laws.proofs.server.Lists.{split_more}
use Rattle.lease_laws.proofs.server.Lists.{nothing_there}
use Rattle.lease_laws.proofs.server.Orderly.{IsHeldWell, held_well, IsFine, IsTry, any_try, fine_try, fine_concluded}
use Rattle.lease_laws.proofs.server.Orderly.{orderly_goes, all_wait-keep, about_goes}
use Rattle.lease_laws.proofs.server.PassWaits.{EveryoneWaits, all_passes-wait}
use Rattle.lease_laws.proofs.server.Progress.{request_held-sound}
use Rattle.lease_laws.proofs.server.Ready.{ready-free}
use Rattle.lease_laws.proofs.server.cases.Judgements.{any_judgement}

-- the first server
pub new_server-waits : (rules : Rules) (contents : List (List ℕ)) → EveryoneWaits (new_server_under rules contents)
unfolding new_server_under
new_server-waits rules contents = record {
  fine = grind arith;
  wait = λ file earlier one later split. absurd (nothing_there earlier one later split);
}

-- a file that was found
abbrev file_of_open_ok : ℕ → Result ℕ Status
file_of_open_ok n = Ok n

-- one file found is one file
ok_same : (a b : ℕ) → file_of_open_ok a ≡ file_of_open_ok b → a ≡ b
ok_same a b e = cc

-- the file of a request that isn't refused as it comes is one that it is about, and one of the server
open_file : (server : Server) (client file_id file : ℕ) (one : Option Open) → IsSound server → IsOrderly server
    → connected_open server client file_id ≡ one → file_of_open one ≡ Ok file
    → (has_file server file ≡ true) × IsOpenOn server file file_id
open_file server client file_id file None s o e never = absurd (cc)
open_file server client file_id file (Some one) s o e same =
    let there = connected_has server client file_id one e in
    let at : one.file ≡ file = ok_same one.file file same in (
      ap (λ f. has_file server f) (sym at) ∙ o.open_files one there.0,
      record {
        was_given = subst (λ n. n ≤ server.last_id) there.1 (s.numbered one there.0).1;
        is_on_file = λ other a id. ap (λ x. x.file) (one_id server.opens other one s.in_order a there.0 (id ∙ sym there.1)) ∙ at;
      },
    )

-- the file of a create is one of the server
create_file : (server : Server) (at file : ℕ) (contexts : Option CreateAsk) → file_of_create server at contexts ≡ Ok file
    → (has_file server file ≡ true) × (at ≡ file)
create_file server at file contexts never = grind arith

-- the file of a request is one of the server, and the request is about it
asked_file : (server : Server) (client file : ℕ) (request : FileRequest) → IsSound server → IsOrderly server
    → file_asked server client request ≡ Ok file → (has_file server file ≡ true) × IsAbout server file request
asked_file server client file (FileRequest.Create at access share contexts) s o e = create_file server at file contexts e
asked_file server client file (FileRequest.Read file_id) s o e = open_file server client file_id file
    (connected_open server client file_id) s o refl e
asked_file server client file (FileRequest.Write file_id number patch) s o e = open_file server client file_id
    file (connected_open server client file_id) s o refl e
asked_file server client file (FileRequest.Close file_id) s o e = open_file server client file_id file
    (connected_open server client file_id) s o refl e

-- to hold a request lets opens go on
pub request_held-goes : (file : ℕ) (one : Held) (progress : Progress) → Goes progress (request_held file one progress)
request_held-goes file one progress = grind arith

-- to hold a request lets wait what has to wait
request_held-kept : (file : ℕ) (one : Held) (progress : Progress) → Kept Anywhere progress (request_held file one progress)
request_held-kept file one progress = record { rules = refl; stands = λ key x a k up b g. (a, refl); finds = λ c id x e g. e }

-- what holds of the requests of each file, once one more is held
request_held-cases : (P : List Held → Type 0) (file : ℕ) (one : Held) (progress : Progress) (other : ℕ)
    → (other ≡ file → P (progress.server.held file ++ one ∷ [])) → P (progress.server.held other)
    → P ((request_held file one progress).server.held other)
unfolding put
request_held-cases P file one progress other here there = grind arith

-- a request of a connected client is held on the file that it is about
request_held-fine : (file : ℕ) (one : Held) (progress : Progress) → IsFine progress.server → IsHeldWell progress.server file one
    → IsFine (request_held file one progress).server
request_held-fine file one progress f well = record {
  sound = request_held-sound file one progress f.sound;
  orderly = orderly_goes progress.server (request_held file one progress).server f.orderly (request_held-goes file one progress)
      (λ other x. request_held-cases (λ list. Among x list → IsHeldWell progress.server other x) file one progress other
      (λ same a. subst (λ n. IsHeldWell progress.server n x) (sym same)
      (⊎_elim (λ h. held_well progress.server file x f.orderly h)
      (λ h. ⊎_elim (λ e. subst (λ y. IsHeldWell progress.server file y) (sym e) well) (λ never. absurd never) h)
      (among_append x (progress.server.held file) (one ∷ []) a)))
      (λ a. held_well progress.server other x f.orderly a));
}

-- and then it waits behind an earlier one, or has to wait itself
request_held-waits : (file : ℕ) (one : Held) (progress : Progress) → EveryoneWaits progress.server
    → IsHeldWell progress.server file one → (is_behind progress.server.rules one (progress.server.held file) ≡ false
    → HasToWait progress.server one.client one.request) → EveryoneWaits (request_held file one progress).server
request_held-waits file one progress e well new =
    let keeps = request_held-kept file one progress in
    let go : (other : ℕ) (x : Held) → IsAbout progress.server other x.request → HasToWait progress.server x.client x.request
    → HasToWait (request_held file one progress).server x.client x.request =
    λ other x about w. waits_keep Anywhere progress.server (request_held file one progress).server
    x.client other x.request keeps e.fine.sound about tt w in
    let old : (other : ℕ) (earlier : List Held) (x : Held) (later : List Held)
    → progress.server.held other ≡ earlier ++ x ∷ later → is_behind progress.server.rules x earlier ≡ false
    → HasToWait (request_held file one progress).server x.client x.request =
    λ other earlier x later split first. go other x (e.fine.orderly.held_about other x
    (subst (λ list. Among x list) (sym split) (among_behind x earlier (x ∷ later) (inl refl))))
    (e.wait other earlier x later split first) in
    record {
      fine = request_held-fine file one progress e.fine well;
      wait = λ other earlier x later. request_held-cases
          (λ list. list ≡ earlier ++ x ∷ later → is_behind progress.server.rules x earlier ≡ false
          → HasToWait (request_held file one progress).server x.client x.request) file one progress other
          (λ same split first. ⊎_elim
          (λ found. old file earlier x found.0 found.1 first)
          (λ last. go file x (subst (λ (h : Held). IsAbout progress.server file h.request) (sym last.1) well.about)
          (subst (λ (h : Held). HasToWait progress.server h.client h.request) (sym last.1)
          (new (subst (λ (h : Held). is_behind progress.server.rules h (progress.server.held file) ≡ false) last.1
          (subst (λ list. is_behind progress.server.rules x list ≡ false) (sym last.0) first)))))
          (split_more (progress.server.held file) one earlier x later split))
          (λ split first. old other earlier x later split first);
    }

-- a refusal leaves each first held request waiting
refused_waits : (client : ℕ) (request : FileRequest) (status : Status) (progress : Progress)
    → EveryoneWaits progress.server → EveryoneWaits (refused client request status progress).server
refused_waits client request status progress e = e

-- a call under way, and all that is asked of it before passes
pub everyone_keeps : (before after : Progress) → EveryoneWaits before.server → IsFine after.server
    → Kept Anywhere before after → SameHeld before after → EveryoneWaits after.server
everyone_keeps before after e f keeps same = record {
  fine = f;
  wait = λ file. all_wait-keep Anywhere before.server after.server file keeps e.fine tt
      (ap (λ held. held file) same) (e.wait file);
}

-- a call that has tried a request, and answers it
concluded_fine : (client : ℕ) (request : FileRequest) (before : Progress) (done : Tried) → IsFine before.server
    → before.server.present client ≡ true
    → IsTry client request before done → IsFine (concluded client request done.progress done.outcome).server
concluded_fine client request before done f up t =
    fine_concluded client request done.progress done.outcome (fine_try client request before done f t) (t.goes.ups client ∙ up)
    (λ ready. ready-free client request done.progress (t.good.found_ready ready))
    (λ ready. ready-file client request done.progress (t.good.found_ready ready))

-- a try leaves each first held request waiting
try_waits : (client : ℕ) (request : FileRequest) (before : Progress) (done : Tried) → EveryoneWaits before.server
    → IsTry client request before done → EveryoneWaits done.progress.server
try_waits client request before done e t = everyone_keeps before done.progress e
    (fine_try client request before done e.fine t) t.keeps t.held

-- so does its end, where it closes nothing
concluded_waits : (client : ℕ) (request : FileRequest) (before : Progress) (done : Tried)
    → EveryoneWaits before.server → before.server.present client ≡ true → IsAlone request → IsTry client request before done
    → EveryoneWaits (concluded client request done.progress done.outcome).server
concluded_waits client request before done e up alone t =
    let after = try_waits client request before done e t in
    everyone_keeps done.progress (concluded client request done.progress done.outcome) after
    (concluded_fine client request before done e.fine up t)
    (concluded-open client request done.progress done.outcome after.fine.sound alone)
    (concluded-held client request done.progress done.outcome)

-- a request that was held well still is
well_goes : (before after : Server) (file : ℕ) (one : Held) → GoesOn before after → IsHeldWell before file one
    → IsHeldWell after file one
well_goes before after file one g well = record {
  up = g.ups one.client ∙ well.up;
  on_file = file_frame before after file g.files ∙ well.on_file;
  about = about_goes before after file one.request g well.about;
}

-- what follows a first try keeps the laws and the order
first_try-fine : (file : ℕ) (one : Held) (before : Progress) (progress : Progress)
    (outcome : Outcome) → IsFine before.server → IsHeldWell before.server file one
    → IsTry one.client one.request before (record { progress = progress; outcome = outcome })
    → IsFine (after_first_try file one progress outcome).server
first_try-fine file one before progress Outcome.Waits f well t =
    request_held-fine file one progress
    (fine_try one.client one.request before (record { progress = progress; outcome = Outcome.Waits }) f t)
    (well_goes before.server progress.server file one t.goes well)
first_try-fine file one before progress (Outcome.Refused status) f well t = concluded_fine one.client one.request before
    (record { progress = progress; outcome = Outcome.Refused status }) f well.up t
first_try-fine file one before progress Outcome.Ready f well t =
    concluded_fine one.client one.request before (record { progress = progress; outcome = Outcome.Ready }) f well.up t

-- what follows a first try leaves each first held request waiting
first_try-waits : (file : ℕ) (one : Held) (before : Progress) (progress : Progress)
    (outcome : Outcome) → EveryoneWaits before.server → IsHeldWell before.server file one → IsAlone one.request
    → IsTry one.client one.request before (record { progress = progress; outcome = outcome })
    → EveryoneWaits (after_first_try file one progress outcome).server
first_try-waits file one before progress Outcome.Waits e well alone t =
    request_held-waits file one progress
    (try_waits one.client one.request before (record { progress = progress; outcome = Outcome.Waits }) e t)
    (well_goes before.server progress.server file one t.goes well)
    (λ first. t.waits refl)
first_try-waits file one before progress (Outcome.Refused status) e well alone t = concluded_waits one.client one.request before
    (record { progress = progress; outcome = Outcome.Refused status }) e well.up alone t
first_try-waits file one before progress Outcome.Ready e well alone t =
    concluded_waits one.client one.request before (record { progress = progress; outcome = Outcome.Ready }) e well.up alone t

-- a refusal keeps the laws and the order
refused-fine : (client : ℕ) (request : FileRequest) (status : Status) (progress : Progress)
    → IsFine progress.server → IsFine (refused client request status progress).server
refused-fine client request status progress f = f

-- a request on a file keeps the laws and the order
arrived_before-fine : (one : Held) (progress : Progress) (asked : Result ℕ Status)
    → IsFine progress.server → ((file : ℕ) → asked ≡ Ok file → IsHeldWell progress.server file one)
    → IsFine (arrived_before one progress asked).server
arrived_before-fine one progress (Err status) f well = refused-fine one.client one.request status progress f
arrived_before-fine one progress (Ok file) f well =
    let done = tried one.client one.request progress in
    if_cases (λ p. IsFine p.server) (is_behind progress.server.rules one (progress.server.held file))
    (request_held file one progress) (after_first_try file one done.progress done.outcome)
    (λ e. request_held-fine file one progress f (well file refl))
    (λ e. first_try-fine file one progress done.progress done.outcome f (well file refl)
    (any_try one.client one.request progress f.sound))

pub arrived_on-fine : (client : ℕ) (request : FileRequest) (progress : Progress) (asked : Result ℕ Status)
    → IsFine progress.server
    → ((file : ℕ) → asked ≡ Ok file → IsHeldWell progress.server file (as_held progress.server client request))
    → IsFine (arrived_on client request progress asked).server
arrived_on-fine client request progress = arrived_before-fine (as_held progress.server client request) progress

-- a request on a file leaves each first held request waiting
arrived_before-waits : (one : Held) (progress : Progress) (asked : Result ℕ Status)
    → EveryoneWaits progress.server → IsAlone one.request
    → ((file : ℕ) → asked ≡ Ok file → IsHeldWell progress.server file one)
    → EveryoneWaits (arrived_before one progress asked).server
arrived_before-waits one progress (Err status) e alone well = refused_waits one.client one.request status progress e
arrived_before-waits one progress (Ok file) e alone well =
    let done = tried one.client one.request progress in
    let is_held = is_behind progress.server.rules one (progress.server.held file) in
    if_cases (λ p. EveryoneWaits p.server) is_held
    (request_held file one progress) (after_first_try file one done.progress done.outcome)
    (λ behind. request_held-waits file one progress e (well file refl) (λ first. clash is_held behind first))
    (λ first. first_try-waits file one progress done.progress done.outcome e (well file refl) alone
    (any_try one.client one.request progress e.fine.sound))

arrived_on-waits : (client : ℕ) (request : FileRequest) (progress : Progress) (asked : Result ℕ Status)
    → EveryoneWaits progress.server → IsAlone request
    → ((file : ℕ) → asked ≡ Ok file → IsHeldWell progress.server file (as_held progress.server client request))
    → EveryoneWaits (arrived_on client request progress asked).server
arrived_on-waits client request progress = arrived_before-waits (as_held progress.server client request) progress

-- a request that comes may be held on its file
pub asked_well : (client : ℕ) (request : FileRequest) (progress : Progress) → IsFine progress.server
    → progress.server.present client ≡ true → (file : ℕ) → file_asked progress.server client request ≡ Ok file
    → IsHeldWell progress.server file (as_held progress.server client request)
asked_well client request progress f up file e =
    let x = asked_file progress.server client file request f.sound f.orderly e in
    record { up = up; on_file = x.0; about = x.1 }

-- an acknowledgment leaves the held requests as they are
pub acknowledged-held : (client : ℕ) (given : Option LeaseOf) (progress : Progress)
    → SameHeld progress (acknowledged client given progress)
acknowledged-held client given progress = any_judgement client progress (λ given. SameHeld progress)
    (record { failed = λ given why. refl; ended = λ g lowered there breaks within. refl }) given

-- opens that go on keep the laws and the order
pub fine_goes : (before after : Progress) → IsFine before.server → IsSound after.server → Goes before after
    → SameHeld before after → IsFine after.server
fine_goes before after f s g same = record {
  sound = s;
  orderly = orderly_goes before.server after.server f.orderly g
      (λ file one a. held_well before.server file one f.orderly (subst (λ held. Among one (held file)) same a));
}

-- a request about a file leaves each first held request waiting
pub file_request-waits : (client : ℕ) (request : FileRequest) (progress : Progress) → EveryoneWaits progress.server
    → progress.server.present client ≡ true → EveryoneWaits (file_request_arrived client request progress).server
file_request-waits client (FileRequest.Close file_id) progress e up = all_passes-wait
    (arrived_on client (FileRequest.Close file_id) progress (file_asked progress.server client (FileRequest.Close file_id)))
    (arrived_on-fine client (FileRequest.Close file_id) progress
    (file_asked progress.server client (FileRequest.Close file_id)) e.fine
    (asked_well client (FileRequest.Close file_id) progress e.fine up))
file_request-waits client request progress e up = arrived_on-waits client request progress
    (file_asked progress.server client request) e tt (asked_well client request progress e.fine up)

-- so does an acknowledgment
pub acknowledged-waits : (client : ℕ) (given : Option LeaseOf) (progress : Progress) → EveryoneWaits progress.server
    → EveryoneWaits (all_passes (acknowledged client given progress)).server
acknowledged-waits client given progress e = all_passes-wait (acknowledged client given progress)
    (fine_goes progress (acknowledged client given progress) e.fine (acknowledged-sound client given progress e.fine.sound)
    (acknowledged-goes client given progress) (acknowledged-held client given progress))
