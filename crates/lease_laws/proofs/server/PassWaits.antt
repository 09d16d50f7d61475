-- After the passes each first held request has to wait.
use Rattle.lease_laws.proofs.Words.{◌++◌, ◌<◌, ◌==◌, ◌∙◌, ◌∷◌, ◌≡◌, ◌≢◌, ◌≤◌, ◌⊎◌, AllWait, Among, Decides-eqb}
use Rattle.lease_laws.proofs.Words.{HasToWait, Held, List, Outcome, Pass, Progress, Server, T, Tried, ℕ, ⊎_elim, []}
use Rattle.lease_laws.proofs.Words.{all_passes, ap, append-nil, arith, concluded, false, has_file}
use Rattle.lease_laws.proofs.Words.{held_left, inl, inr, is_behind, leb→le, left_waiting, length, nat_le, numbers_to}
use Rattle.lease_laws.proofs.Words.{pass_answered, put, refl, subst, suc}
use Rattle.lease_laws.proofs.Words.{sym, tried, tried_again, true, true≢false, zero}
use Rattle.lease_laws.proofs.server.FileReady.{ready-file}
use Rattle.lease_laws.proofs.server.Goes.{file_frame, Goes, concluded-goes, goes-same}
use Rattle.lease_laws.proofs.server.Held.{answered-fewer, begun-in, SameHeld, InPass, left_waiting-in, pass_answered-in}
use Rattle.lease_laws.proofs.server.Held.{concluded-held}
use Rattle.lease_laws.proofs.server.Keeps.{Kept, Anywhere, Elsewhere, waits_keep, concluded-kept, keeps-same}
use Rattle.lease_laws.proofs.server.Lists.{either, clash, and_parts, among_append, among_before, among_behind}
use Rattle.lease_laws.proofs.server.Lists.{nothing_there, split_more}
use Rattle.lease_laws.proofs.server.Orderly.{IsHeldWell, held_well, IsFine, IsTry, any_try, fine_try, fine_concluded}
use Rattle.lease_laws.proofs.server.Orderly.{orderly_goes, all_wait-keep, held_left-ready, about_goes}
use Rattle.lease_laws.proofs.server.Passes.{held_left-free}
use Rattle.lease_laws.proofs.server.Progress.{held_left-sound}
use Rattle.lease_laws.proofs.server.Ready.{ready-free}
use Rattle.lease_laws.proofs.server.cases.Passes.{HasPasses, any_passes, any_try_again, pass_begun}

-- to take a request off the held ones lets opens go on
pub held_left-goes : (file : ℕ) (left : List Held) (progress : Progress) → Goes progress (held_left file left progress)
held_left-goes file left progress = grind arith

-- to take a request off the held ones lets wait what has to wait
held_left-kept : (file : ℕ) (left : List Held) (progress : Progress) → Kept Anywhere progress (held_left file left progress)
held_left-kept file left progress = grind arith

-- what holds of the requests of each file, once one is taken off
held_left-cases : (P : List Held → Type 0) (file : ℕ) (left : List Held) (progress : Progress) (other : ℕ)
    → (other ≡ file → P left) → P (progress.server.held other) → P ((held_left file left progress).server.held other)
unfolding put
held_left-cases P file left progress other here there = grind arith

-- other files have what they had
held_left-other : (file : ℕ) (left : List Held) (progress : Progress) (other : ℕ) → other ≢ file
    → (held_left file left progress).server.held other ≡ progress.server.held other
held_left-other file left progress other away = held_left-cases (λ held. held ≡ progress.server.held other)
    file left progress other
    (λ same. absurd (away same)) refl

-- what is on the list without one is on it
pub among_more : (x y : Held) (xs ys : List Held) → Among x (xs ++ ys) → Among x (xs ++ y ∷ ys)
among_more x y xs ys a = ⊎_elim (λ h. among_before x xs (y ∷ ys) h) (λ h. among_behind x xs (y ∷ ys) (inr h))
    (among_append x xs ys a)

-- to take a request off the held ones keeps the laws and the order
held_left-fine : (file : ℕ) (one : Held) (before behind : List Held) (progress : Progress) → IsFine progress.server
    → progress.server.held file ≡ before ++ one ∷ behind → IsFine (held_left file (before ++ behind) progress).server
held_left-fine file one before behind progress f held = record {
  sound = held_left-sound file (before ++ behind) progress f.sound;
  orderly = orderly_goes progress.server (held_left file (before ++ behind) progress).server f.orderly
      (held_left-goes file (before ++ behind) progress)
      (λ other x. held_left-cases (λ list. Among x list → IsHeldWell progress.server other x) file
      (before ++ behind) progress other
      (λ same a. subst (λ n. IsHeldWell progress.server n x) (sym same) (held_well progress.server file x f.orderly
      (subst (λ list. Among x list) (sym held) (among_more x one before behind a))))
      (λ a. held_well progress.server other x f.orderly a));
}

-- During a pass over a file: the laws hold; as long as none was answered, those passed over wait; and on
-- other files those that waited still do.
pub record PassWaits (start : Progress) (file : ℕ) (count : ℕ) (waiting : List Held) (pass : Pass) : Type 0
  where
    pub fine : IsFine pass.progress.server
    pub files : pass.progress.server.files ≡ start.server.files
    pub in_pass : InPass file count waiting pass
    pub kept_wait : pass.has_answered ≡ false → (before : List Held) (one : Held) (behind : List Held)
        → pass.passed ≡ before ++ one ∷ behind → is_behind pass.progress.server.rules one before ≡ false
        → HasToWait pass.progress.server one.client one.request
    pub others : (other : ℕ) → other ≢ file → AllWait start.server other → AllWait pass.progress.server other

-- a request of the pass still waits
kept_waits : (start : Progress) (file count : ℕ) (one : Held) (waiting : List Held) (pass : Pass) (progress : Progress)
    → PassWaits start file count (one ∷ waiting) pass → IsFine progress.server
    → SameHeld pass.progress progress → Goes pass.progress progress → Kept Anywhere pass.progress progress
    → (is_behind pass.progress.server.rules one pass.passed ≡ false → HasToWait progress.server one.client one.request)
    → PassWaits start file count waiting (left_waiting one pass progress)
kept_waits start file count one waiting pass progress p f same goes keeps new = record {
  fine = f;
  files = goes.files ∙ p.files;
  in_pass = left_waiting-in file count one waiting pass progress p.in_pass same;
  kept_wait = λ none earlier x later split first.
      let was_first = λ (before : List Held). subst (λ rules. is_behind rules x before ≡ false) keeps.rules in ⊎_elim
      (λ old. let held : Among x (pass.progress.server.held file) = subst (λ list. Among x list) (sym p.in_pass.is_held)
      (among_before x pass.passed (one ∷ waiting) (subst (λ list. Among x list) (sym old.1)
      (among_behind x earlier (x ∷ old.0) (inl refl)))) in
      waits_keep Anywhere pass.progress.server progress.server x.client file x.request keeps p.fine.sound
      (p.fine.orderly.held_about file x held) tt (p.kept_wait none earlier x old.0 old.1 (was_first earlier first)))
      (λ last. subst (λ (h : Held). HasToWait progress.server h.client h.request) (sym last.1)
      (new (subst (λ (h : Held). is_behind pass.progress.server.rules h pass.passed ≡ false) last.1
      (subst (λ list. is_behind pass.progress.server.rules x list ≡ false) (sym last.0) (was_first earlier first)))))
      (split_more pass.passed one earlier x later split);
  others = λ other away all. all_wait-keep Anywhere pass.progress.server progress.server other keeps p.fine tt
      (ap (λ held. held other) same) (p.others other away all);
}

-- a request of the pass is answered
answered_waits : (start : Progress) (file count : ℕ) (one : Held) (waiting : List Held) (pass : Pass) (done : Tried)
    → PassWaits start file count (one ∷ waiting) pass → IsTry one.client one.request pass.progress done
    → PassWaits start file count waiting (pass_answered file one waiting pass done)
answered_waits start file count one waiting pass done p t =
    let left = held_left file (pass.passed ++ waiting) done.progress in
    let after = concluded one.client one.request left done.outcome in
    let tried_fine = fine_try one.client one.request pass.progress done p.fine t in
    let held : done.progress.server.held file ≡ pass.passed ++ one ∷ waiting = ap (λ h. h file) t.held ∙ p.in_pass.is_held in
    let well = held_well pass.progress.server file one p.fine.orderly (subst (λ list. Among one list) (sym p.in_pass.is_held)
    (among_behind one pass.passed (one ∷ waiting) (inl refl))) in
    let left_fine = held_left-fine file one pass.passed waiting done.progress tried_fine held in
    let left_goes = held_left-goes file (pass.passed ++ waiting) done.progress in
    let up : left.server.present one.client ≡ true = left_goes.ups one.client ∙ t.goes.ups one.client ∙ well.up in
    let about = about_goes done.progress.server left.server file one.request left_goes
    (about_goes pass.progress.server done.progress.server file one.request t.goes well.about) in
    let free = λ (ready : done.outcome ≡ Outcome.Ready). held_left-free one.client one.request file
    (pass.passed ++ waiting) done.progress (ready-free one.client one.request done.progress (t.good.found_ready ready)) in
    let on_file = λ (ready : done.outcome ≡ Outcome.Ready). held_left-ready one.client one.request file
    (pass.passed ++ waiting) done.progress (ready-file one.client one.request done.progress (t.good.found_ready ready)) in
    let after_goes = concluded-goes one.client one.request left done.outcome left_fine.sound up on_file in
    record {
      fine = fine_concluded one.client one.request left done.outcome left_fine up free on_file;
      files = after_goes.files ∙ left_goes.files ∙ t.goes.files ∙ p.files;
      in_pass = pass_answered-in file count one waiting pass done p.in_pass;
      kept_wait = λ never. absurd (true≢false never);
      others = λ other away all. all_wait-keep (Elsewhere file) left.server after.server other
          (concluded-kept one.client file one.request left done.outcome left_fine.sound about)
          left_fine away (ap (λ h. h other) (concluded-held one.client one.request left done.outcome))
          (all_wait-keep Anywhere done.progress.server left.server other
          (held_left-kept file (pass.passed ++ waiting) done.progress) tried_fine tt
          (held_left-other file (pass.passed ++ waiting) done.progress other away)
          (all_wait-keep Anywhere pass.progress.server done.progress.server other t.keeps p.fine tt
          (ap (λ h. h other) t.held) (p.others other away all)));
    }

-- a held request tried again leaves each first held request waiting
pub tried_again-waits : (start : Progress) (file count : ℕ) (one : Held) (waiting : List Held) (pass : Pass)
    → PassWaits start file count (one ∷ waiting) pass → PassWaits start file count waiting (tried_again file one waiting pass)
tried_again-waits start file count one waiting pass p =
    let done = tried one.client one.request pass.progress in
    let t = any_try one.client one.request pass.progress p.fine.sound in
    any_try_again file one waiting pass (PassWaits start file count waiting) (record {
      behind = λ behind. kept_waits start file count one waiting pass pass.progress p p.fine refl
          (goes-same pass.progress.server) (keeps-same Anywhere pass.progress.server)
          (λ first. clash (is_behind pass.progress.server.rules one pass.passed) behind first);
      waits = λ first waits. kept_waits start file count one waiting pass done.progress p
          (fine_try one.client one.request pass.progress done p.fine t) t.held t.goes t.keeps (λ e. t.waits waits);
      answers = λ first ends. answered_waits start file count one waiting pass done p t;
    })

-- What passes over a file come to.
pub record FileWaits (start : Progress) (file : ℕ) (after : Progress) : Type 0 where
  pub fine : IsFine after.server
  pub files : after.server.files ≡ start.server.files
  pub here : AllWait after.server file
  pub others : (other : ℕ) → other ≢ file → AllWait start.server other → AllWait after.server other

-- below the next number
below_one : (file n : ℕ) → file ≤ suc n → file ≢ suc n → file ≤ n
below_one file n high away = omega (arith, high, away)

-- a pass begins
pub begun-waits : (file : ℕ) (progress : Progress) → IsFine progress.server
    → PassWaits progress file (length (progress.server.held file)) (progress.server.held file) (pass_begun progress)
begun-waits file progress f = record {
  fine = f;
  files = refl;
  in_pass = begun-in file progress;
  kept_wait = λ none earlier one later never. absurd (nothing_there earlier one later never);
  others = λ other away all. all;
}

-- passes over a file go on
pub more_wait : (count file : ℕ) (start after : Progress) (pass : Pass)
    → PassWaits start file (length (start.server.held file)) [] pass → FileWaits pass.progress file after
    → FileWaits start file after
more_wait count file start after pass p rest = record {
  fine = rest.fine;
  files = rest.files ∙ p.files;
  here = rest.here;
  others = λ other away all. rest.others other away (p.others other away all);
}

-- the last pass answered none
pub last_waits : (file : ℕ) (start : Progress) (pass : Pass) → PassWaits start file (length (start.server.held file)) [] pass
    → pass.has_answered ≡ false → FileWaits start file pass.progress
last_waits file start pass p none = record {
  fine = p.fine;
  files = p.files;
  here = λ earlier one later split. p.kept_wait none earlier one later
      (sym (p.in_pass.is_held ∙ append-nil pass.passed) ∙ split);
  others = p.others;
}

-- what passes over files come to
pub record FilesWait (start : Progress) (listed : List ℕ) (after : Progress) : Type 0 where
  pub fine : IsFine after.server
  pub files : after.server.files ≡ start.server.files
  pub wait : (file : ℕ) → Among file listed ⊎ AllWait start.server file → AllWait after.server file

-- first over one file, and then over others
file_then_files : (file : ℕ) (files : List ℕ) (start next after : Progress) → FileWaits start file next
    → FilesWait next files after → FilesWait start (file ∷ files) after
file_then_files file files start next after first rest = record {
  fine = rest.fine;
  files = rest.files ∙ first.files;
  wait = λ other known. either (other == file)
      (λ e. rest.wait other (inr (subst (AllWait next.server) (sym ((Decides-eqb other file).0 e)) first.here)))
      (λ e. let away : other ≢ file = λ same. clash (other == file) ((Decides-eqb other file).1 same) e in
      ⊎_elim
      (λ listed. ⊎_elim (λ same. absurd (away same)) (λ later. rest.wait other (inl later)) listed)
      (λ all. rest.wait other (inr (first.others other away all))) known);
}

-- what passes come to
pub passes-wait : HasPasses (λ file start waiting pass. IsFine start.server
    → PassWaits start file (length (start.server.held file)) waiting pass)
    (λ count file start after. length (start.server.held file) < count → IsFine start.server → FileWaits start file after)
    (λ files start after. IsFine start.server → FilesWait start files after)
passes-wait = record {
  begins = begun-waits;
  goes = λ file start one waiting pass p f.
      tried_again-waits start file (length (start.server.held file)) one waiting pass (p f);
  out = λ file start less f. absurd (omega (arith, less));
  again = λ count file start after pass p answered rest less f.
      let fewer = answered-fewer file start pass (p f).in_pass answered in
      more_wait count file start after pass (p f) (rest (omega (arith, fewer, less)) (p f).fine);
  last = λ count file start pass p none less f. last_waits file start pass (p f) none;
  none = λ start f. record { fine = f; files = refl; wait = λ file. ⊎_elim (λ never. absurd never) (λ all. all) };
  more = λ file files start next after first rest f.
      let here = first (omega arith) f in file_then_files file files start next after here (rest here.fine);
}

-- a number from 1 to n is among them
numbered_to : (n file : ℕ) → 1 ≤ file → file ≤ n → Among file (numbers_to n)
numbered_to zero file low high = absurd (omega (arith, low, high))
numbered_to (suc n) file low high = either (file == suc n)
    (λ e. among_behind file (numbers_to n) (suc n ∷ []) (inl ((Decides-eqb file (suc n)).0 e)))
    (λ e. among_before file (numbers_to n) (suc n ∷ []) (numbered_to n file low
    (below_one file n high (λ same. clash (file == suc n) ((Decides-eqb file (suc n)).1 same) e))))

-- a file of the server is among the numbers of its files
file_numbered : (server : Server) (file : ℕ) → has_file server file ≡ true → Among file (numbers_to server.files)
file_numbered server file e =
    let parts = and_parts (nat_le 1 file) (nat_le file server.files) e in
    numbered_to server.files file (leb→le 1 file (subst T (sym parts.0) tt)) (leb→le file server.files (subst T (sym parts.1) tt))

-- After passes over all files each held request that waits behind none has to wait.
pub record EveryoneWaits (server : Server) : Type 0 where
  pub fine : IsFine server
  pub wait : (file : ℕ) → AllWait server file

-- passes over all files leave each first held request waiting
pub all_passes-wait : (progress : Progress) → IsFine progress.server → EveryoneWaits (all_passes progress).server
all_passes-wait progress f =
    let done = any_passes _ _ _ passes-wait progress f in
    let after = all_passes progress in
    record {
      fine = done.fine;
      wait = λ file earlier one later split.
          let there = subst (λ list. Among one list) (sym split) (among_behind one earlier (one ∷ later) (inl refl)) in
          let on_file = done.fine.orderly.held_files file one there in
          done.wait file (inl (file_numbered progress.server file
          (file_frame after.server progress.server file (sym done.files) ∙ on_file))) earlier one later split;
    }
