-- Tries and their ends keep opens and held requests where they belong.
use Rattle.lease_laws.proofs.Words.{◌∙◌, ◌∷◌, ◌≡◌, AllWait, Among, CreateAsk, FileRequest, HasToWait, Held, IsAbout, IsOpenOn}
use Rattle.lease_laws.proofs.Words.{IsOrderly, IsSound, List, Option, Outcome, Progress, Server, Tried, ℕ, ⊎_elim, ap}
use Rattle.lease_laws.proofs.Words.{arith, concluded, false, has_file, held_left, inl, is_behind, refl, subst, sym, tried, true}
use Rattle.lease_laws.proofs.server.Answers.{concluded-sound}
use Rattle.lease_laws.proofs.server.FileReady.{ContextsReady, FileReady}
use Rattle.lease_laws.proofs.server.Goes.{GoesOn, Goes, file_frame, tried_for-goes, concluded-goes}
use Rattle.lease_laws.proofs.server.Held.{SameHeld, tried_for-held, concluded-held}
use Rattle.lease_laws.proofs.server.Keeps.{Keeps, Kept, Anywhere, waits_keep, tried_for-kept}
use Rattle.lease_laws.proofs.server.Lists.{among_behind}
use Rattle.lease_laws.proofs.server.Ready.{RequestFree}
use Rattle.lease_laws.proofs.server.Rounds.{tried-waits}
use Rattle.lease_laws.proofs.server.Tries.{IsGoodTry, tried_for-good}

-- what a held request is
pub record IsHeldWell (server : Server) (file : ℕ) (one : Held) : Type 0 where
  pub up : server.present one.client ≡ true
  pub on_file : has_file server file ≡ true
  pub about : IsAbout server file one.request

-- a held request is held well
pub held_well : (server : Server) (file : ℕ) (one : Held) → IsOrderly server → Among one (server.held file)
    → IsHeldWell server file one
held_well server file one o a = record {
  up = o.held_up file one a;
  on_file = o.held_files file one a;
  about = o.held_about file one a;
}

-- what a FileId is about stays
open_goes : (before after : Server) (file file_id : ℕ) → GoesOn before after → IsOpenOn before file file_id
    → IsOpenOn after file file_id
open_goes before after file file_id g o = record {
  was_given = let x = g.ids in let y = o.was_given in omega (arith, x, y);
  is_on_file = λ one a e. ⊎_elim
      (λ old. old.same_file ∙ o.is_on_file old.was old.was_there (sym old.same_id ∙ e))
      (λ new. let x = new.is_new in let y = o.was_given in absurd (omega (arith, x, y, e))) (g.from one a);
}

-- what a request is about stays
pub about_goes : (before after : Server) (file : ℕ) (request : FileRequest) → GoesOn before after
    → IsAbout before file request → IsAbout after file request
about_goes before after file (FileRequest.Create at access share contexts) g about = about
about_goes before after file (FileRequest.Read file_id) g about = open_goes before after file file_id g about
about_goes before after file (FileRequest.Write file_id number patch) g about = open_goes before after file file_id g about
about_goes before after file (FileRequest.Close file_id) g about = open_goes before after file file_id g about

-- opens that go on, and requests that were held well, stay in order
pub orderly_goes : (before after : Server) → IsOrderly before → GoesOn before after
    → ((file : ℕ) (one : Held) → Among one (after.held file) → IsHeldWell before file one) → IsOrderly after
orderly_goes before after o g well = record {
  opens_up = λ one a up. ⊎_elim
      (λ old. ⊎_elim
      (λ u. g.ups one.client ∙ ap (λ c. before.present c) old.same_client ∙ o.opens_up old.was old.was_there u)
      (λ u. g.ups one.client ∙ u) (old.up up))
      (λ new. g.ups one.client ∙ new.up) (g.from one a);
  open_files = λ one a. file_frame before after one.file g.files ∙ ⊎_elim
      (λ old. ap (λ f. has_file before f) old.same_file ∙ o.open_files old.was old.was_there)
      (λ new. new.on_file) (g.from one a);
  held_up = λ file one a. g.ups one.client ∙ (well file one a).up;
  held_files = λ file one a. file_frame before after file g.files ∙ (well file one a).on_file;
  held_about = λ file one a. about_goes before after file one.request g (well file one a).about;
}

-- both kinds of laws
pub record IsFine (server : Server) : Type 0 where
  pub sound : IsSound server
  pub orderly : IsOrderly server

-- held requests that are the same are held well
pub same_well : (before after : Progress) → IsOrderly before.server → SameHeld before after
    → (file : ℕ) (one : Held) → Among one (after.server.held file) → IsHeldWell before.server file one
same_well before after o same file one a = held_well before.server file one o (subst (λ held. Among one (held file)) same a)

-- all that is known of a try
pub record IsTry (client : ℕ) (request : FileRequest) (before : Progress) (done : Tried) : Type 0 where
  pub good : IsGoodTry client request done
  pub waits : done.outcome ≡ Outcome.Waits → HasToWait done.progress.server client request
  pub held : SameHeld before done.progress
  pub goes : Goes before done.progress
  pub keeps : Kept Anywhere before done.progress

-- any try
pub any_try : (client : ℕ) (request : FileRequest) (before : Progress) → IsSound before.server
    → IsTry client request before (tried client request before)
any_try client request before s = record {
  good = tried_for-good 3 client request before s;
  waits = tried-waits client request before s;
  held = tried_for-held 3 client request before;
  goes = tried_for-goes 3 client request before;
  keeps = tried_for-kept 3 client request before;
}

-- a try keeps the laws and the order
pub fine_try : (client : ℕ) (request : FileRequest) (before : Progress) (done : Tried) → IsFine before.server
    → IsTry client request before done → IsFine done.progress.server
fine_try client request before done f t = record {
  sound = t.good.sound;
  orderly = orderly_goes before.server done.progress.server f.orderly t.goes (same_well before done.progress f.orderly t.held);
}

-- the end of a try of a connected client
pub fine_concluded : (client : ℕ) (request : FileRequest) (progress : Progress) (outcome : Outcome) → IsFine progress.server
    → progress.server.present client ≡ true → (outcome ≡ Outcome.Ready → RequestFree progress.server client request)
    → (outcome ≡ Outcome.Ready → FileReady progress.server client request)
    → IsFine (concluded client request progress outcome).server
fine_concluded client request progress outcome f up free ready = record {
  sound = concluded-sound client request progress outcome f.sound free;
  orderly = orderly_goes progress.server (concluded client request progress outcome).server f.orderly
      (concluded-goes client request progress outcome f.sound up ready)
      (same_well progress (concluded client request progress outcome) f.orderly (concluded-held client request progress outcome));
}

-- what has to wait on a file
pub all_wait-keep : (Guard : ℕ → Type 0) (before after : Server) (file : ℕ) → Keeps Guard before after
    → IsFine before → Guard file → after.held file ≡ before.held file → AllWait before file → AllWait after file
all_wait-keep Guard before after file k f g same all earlier one later split first =
    let was = sym same ∙ split in
    let there = subst (λ list. Among one list) (sym was) (among_behind one earlier (one ∷ later) (inl refl)) in
    waits_keep Guard before after one.client file one.request k f.sound (f.orderly.held_about file one there) g
    (all earlier one later was (subst (λ rules. is_behind rules one earlier ≡ false) k.rules first))

-- a create is ready whatever is held
contexts_frame : (client at : ℕ) (contexts : Option CreateAsk) (file : ℕ) (left : List Held) (progress : Progress)
    → ContextsReady progress.server client at contexts → ContextsReady (held_left file left progress).server client at contexts
contexts_frame client at contexts file left progress ready = grind arith

-- what is held has nothing to do with what is ready
pub held_left-ready : (client : ℕ) (request : FileRequest) (file : ℕ) (left : List Held) (progress : Progress)
    → FileReady progress.server client request → FileReady (held_left file left progress).server client request
held_left-ready client (FileRequest.Create at access share contexts) file left progress ready = contexts_frame
    client at contexts file left progress ready
held_left-ready client request file left progress ready = tt
