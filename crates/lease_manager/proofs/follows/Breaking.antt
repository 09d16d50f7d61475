-- Where it is told that a request goes on, a read is sent, or a file changed; and what was given out before was told.
use Rattle.lease_laws.proofs.Words.{◌++◌, ◌∙◌, ◌∷◌, ◌≡◌, ◌⊎◌, Among, ArePaired, List, None, Out, Patch, Reply, Some, ℕ, ⊎_elim}
use Rattle.lease_laws.proofs.Words.{[]}
use Rattle.lease_laws.proofs.Words.{ap, ap₂, append_assoc, called, inl, inr, nothing_cached, refl, subst, sym}
use Rattle.lease_laws.proofs.server.Changes.{breaks-come-first}
use Rattle.lease_laws.proofs.server.Lists.{among_before, among_behind}
use Rattle.lease_laws.proofs.server.OutCalls.{called-fair}
use Rattle.lease_laws.specs.server.Changes.{HasGivenUp}
use Rattle.lease_laws.specs.server.SmallSteps.{SmallStep, call_begun, step_taken, steps_taken}
use Rattle.lease_laws.specs.server.StepLaws.{IsBreakTold}
use Rattle.lease_model.specs.server.Calls.{Call}
use Rattle.lease_model.specs.server.Progress.{Progress}
use Rattle.lease_model.specs.values.Keys.{Key}
use Rattle.manager_model.specs.Decisions.{Decision, told_of, told_of_out}
use Rattle.manager_model.specs.Hosting.{call_of}
use Rattle.lease_manager.specs.Always.{IsManager}
use Rattle.lease_manager.specs.Breaking.{BreaksStandFirst, HasGivenUpAsTold, IsNoticeTold}
use Rattle.lease_manager.specs.Table.{Table, manager_of, server_of}
use Rattle.lease_manager.proofs.follows.Calls.{managers_are_servers}
use Rattle.lease_manager.proofs.follows.Steps.{told_both}

-- a read is sent after this was told
record ReadAt (outs : List Out) (client : ℕ) (told : List Decision) : Type 0 where
  pub before : List Out
  pub behind : List Out
  pub file_id : ℕ
  pub bytes : List ℕ
  pub stands : outs ≡ before ++ Out.Sent client (Reply.ReadDone file_id bytes) ∷ behind
  pub told_so : told_of 0 before ≡ told

-- or a file is changed
record ChangeAt (outs : List Out) (client : ℕ) (told : List Decision) : Type 0 where
  pub before : List Out
  pub behind : List Out
  pub file : ℕ
  pub number : ℕ
  pub patch : Patch
  pub stands : outs ≡ before ++ Out.Changed file client number patch ∷ behind
  pub told_so : told_of 0 before ≡ told

abbrev GoesAt : List Out → ℕ → List Decision → Type 0
GoesAt outs client told = ReadAt outs client told ⊎ ChangeAt outs client told

-- behind these
further : (more outs : List Out) (client : ℕ) (said told : List Decision) → told_of 0 more ≡ said → GoesAt outs client told
    → GoesAt (more ++ outs) client (said ++ told)
further more outs client said told same (inl r) = inl (record {
  before = more ++ r.before;
  behind = r.behind;
  file_id = r.file_id;
  bytes = r.bytes;
  stands = ap (λ l. more ++ l) r.stands
      ∙ sym (append_assoc more r.before (Out.Sent client (Reply.ReadDone r.file_id r.bytes) ∷ r.behind));
  told_so = told_both more r.before ∙ ap₂ (λ a b. a ++ b) same r.told_so;
})
further more outs client said told same (inr w) = inr (record {
  before = more ++ w.before;
  behind = w.behind;
  file = w.file;
  number = w.number;
  patch = w.patch;
  stands = ap (λ l. more ++ l) w.stands
      ∙ sym (append_assoc more w.before (Out.Changed w.file client w.number w.patch ∷ w.behind));
  told_so = told_both more w.before ∙ ap₂ (λ a b. a ++ b) same w.told_so;
})

no_split : {X : Type 0} (before : List X) (one : X) (behind : List X) → [] ≡ before ++ one ∷ behind → ⊥
no_split [] one behind split = absurd (cc)
no_split (other ∷ before) one behind split = absurd (cc)

first_same : {X : Type 0} (x y : X) (xs ys : List X) → x ∷ xs ≡ y ∷ ys → x ≡ y
first_same x y xs ys e = cc

rest_same : {X : Type 0} (x y : X) (xs ys : List X) → x ∷ xs ≡ y ∷ ys → xs ≡ ys
rest_same x y xs ys e = cc

-- Some outs tell one decision: it is the one, or the one is told by those behind.
one_told : (client : ℕ) (more outs : List Out) (one : Decision) → told_of 0 more ≡ one ∷ []
    → (one ≡ Decision.GoesOn client 0 → GoesAt (more ++ outs) client [])
    → ((first later : List Decision) → told_of 0 outs ≡ first ++ Decision.GoesOn client 0 ∷ later → GoesAt outs client first)
    → (first later : List Decision) → one ∷ told_of 0 outs ≡ first ++ Decision.GoesOn client 0 ∷ later
    → GoesAt (more ++ outs) client first
one_told client more outs one tells here behind [] later e =
    here (first_same one (Decision.GoesOn client 0) (told_of 0 outs) later e)
one_told client more outs one tells here behind (other ∷ first) later e =
    subst (λ (x : Decision). GoesAt (more ++ outs) client (x ∷ first))
    (first_same one other (told_of 0 outs) (first ++ Decision.GoesOn client 0 ∷ later) e)
    (further more outs client (one ∷ []) first tells
    (behind first later (rest_same one other (told_of 0 outs) (first ++ Decision.GoesOn client 0 ∷ later) e)))

read_here : (c client file_id : ℕ) (bytes : List ℕ) (outs : List Out) → Decision.GoesOn c 0 ≡ Decision.GoesOn client 0
    → GoesAt (Out.Sent c (Reply.ReadDone file_id bytes) ∷ outs) client []
read_here c client file_id bytes outs same = inl (record {
  before = [];
  behind = outs;
  file_id = file_id;
  bytes = bytes;
  stands = ap (λ n. Out.Sent n (Reply.ReadDone file_id bytes) ∷ outs) (its same);
  told_so = refl;
})
  where
    its : Decision.GoesOn c 0 ≡ Decision.GoesOn client 0 → c ≡ client
    its e = cc

change_here : (c d client file number : ℕ) (patch : Patch) (outs : List Out) → d ≡ c
    → Decision.GoesOn d 0 ≡ Decision.GoesOn client 0 → GoesAt (Out.Changed file c number patch ∷ outs) client []
change_here c d client file number patch outs by same = inr (record {
  before = [];
  behind = outs;
  file = file;
  number = number;
  patch = patch;
  stands = ap (λ n. Out.Changed file n number patch ∷ outs) (sym by ∙ its same);
  told_so = refl;
})
  where
    its : Decision.GoesOn d 0 ≡ Decision.GoesOn client 0 → d ≡ client
    its e = cc

found : (client : ℕ) (outs : List Out) → ArePaired None outs → (first later : List Decision)
    → told_of 0 outs ≡ first ++ Decision.GoesOn client 0 ∷ later → GoesAt outs client first
found client [] paired first later e = absurd (no_split first (Decision.GoesOn client 0) later e)
found client (Out.Sent c (Reply.Created file file_id None) ∷ outs) paired first later e =
    further (Out.Sent c (Reply.Created file file_id None) ∷ []) outs client [] first refl (found client outs paired first later e)
found client (Out.Sent c (Reply.Created file file_id (Some answer)) ∷ outs) paired first later e =
    one_told client (Out.Sent c (Reply.Created file file_id (Some answer)) ∷ []) outs (Decision.Opened c 0 file_id answer) refl
    (λ same. absurd (cc)) (found client outs paired) first later e
found client (Out.Sent c (Reply.CreateFailed file status) ∷ outs) paired first later e =
    one_told client (Out.Sent c (Reply.CreateFailed file status) ∷ []) outs (Decision.Refused c 0 status) refl
    (λ same. absurd (cc)) (found client outs paired) first later e
found client (Out.Sent c (Reply.ReadDone file_id bytes) ∷ outs) paired first later e =
    one_told client (Out.Sent c (Reply.ReadDone file_id bytes) ∷ []) outs (Decision.GoesOn c 0) refl
    (read_here c client file_id bytes outs) (found client outs paired) first later e
found client (Out.Sent c (Reply.ReadFailed file_id status) ∷ outs) paired first later e =
    one_told client (Out.Sent c (Reply.ReadFailed file_id status) ∷ []) outs (Decision.Refused c 0 status) refl
    (λ same. absurd (cc)) (found client outs paired) first later e
found client (Out.Sent c (Reply.WriteDone file_id number) ∷ outs) paired first later e = absurd paired
found client (Out.Sent c (Reply.WriteFailed file_id number status) ∷ outs) paired first later e =
    one_told client (Out.Sent c (Reply.WriteFailed file_id number status) ∷ []) outs (Decision.Refused c 0 status) refl
    (λ same. absurd (cc)) (found client outs paired) first later e
found client (Out.Sent c (Reply.Closed file_id) ∷ outs) paired first later e =
    one_told client (Out.Sent c (Reply.Closed file_id) ∷ []) outs (Decision.Closed c 0) refl
    (λ same. absurd (cc)) (found client outs paired) first later e
found client (Out.Sent c (Reply.CloseFailed file_id status) ∷ outs) paired first later e =
    one_told client (Out.Sent c (Reply.CloseFailed file_id status) ∷ []) outs (Decision.Refused c 0 status) refl
    (λ same. absurd (cc)) (found client outs paired) first later e
found client (Out.Sent c (Reply.Break None) ∷ outs) paired first later e =
    further (Out.Sent c (Reply.Break None) ∷ []) outs client [] first refl (found client outs paired first later e)
found client (Out.Sent c (Reply.Break (Some notice)) ∷ outs) paired first later e =
    one_told client (Out.Sent c (Reply.Break (Some notice)) ∷ []) outs (Decision.Breaks c notice) refl
    (λ same. absurd (cc)) (found client outs paired) first later e
found client (Out.Sent c (Reply.AckDone None) ∷ outs) paired first later e =
    further (Out.Sent c (Reply.AckDone None) ∷ []) outs client [] first refl (found client outs paired first later e)
found client (Out.Sent c (Reply.AckDone (Some given)) ∷ outs) paired first later e =
    one_told client (Out.Sent c (Reply.AckDone (Some given)) ∷ []) outs (Decision.Acknowledged c given) refl
    (λ same. absurd (cc)) (found client outs paired) first later e
found client (Out.Sent c (Reply.AckFailed status) ∷ outs) paired first later e =
    one_told client (Out.Sent c (Reply.AckFailed status) ∷ []) outs (Decision.NotAcknowledged c status) refl
    (λ same. absurd (cc)) (found client outs paired) first later e
found client (Out.Opened file c ∷ outs) paired first later e =
    further (Out.Opened file c ∷ []) outs client [] first refl (found client outs paired first later e)
found client (Out.Changed file c number patch ∷ Out.Sent d (Reply.WriteDone file_id n) ∷ outs) paired first later e =
    one_told client (Out.Changed file c number patch ∷ Out.Sent d (Reply.WriteDone file_id n) ∷ []) outs
    (Decision.GoesOn d 0) refl
    (change_here c d client file number patch (Out.Sent d (Reply.WriteDone file_id n) ∷ outs) paired.0)
    (found client outs paired.2) first later e
found client (Out.Changed file c number patch ∷ []) paired first later e = absurd paired
found client (Out.Changed file c number patch ∷ out ∷ outs) paired first later e = absurd paired

-- ---- notices

pub among_told : (out : Out) (outs : List Out) (one : Decision) → told_of_out 0 out ≡ one ∷ [] → Among out outs
    → Among one (told_of 0 outs)
among_told out [] one tells there = absurd there
among_told out (other ∷ outs) one tells (inl same) = among_before one (told_of_out 0 other) (told_of 0 outs)
    (subst (Among one) (sym tells ∙ ap (told_of_out 0) same) (inl refl))
among_told out (other ∷ outs) one tells (inr later) =
    among_behind one (told_of_out 0 other) (told_of 0 outs) (among_told out outs one tells later)

notice_told : (key : Key) (outs : List Out) (told : List Decision) → told_of 0 outs ≡ told
    → IsBreakTold key nothing_cached outs → IsNoticeTold key nothing_cached told
notice_told key outs told same given = record {
  current = given.current;
  is_told = subst (Among _) same (among_told _ outs _ refl given.is_told);
}

steps_both : (first later : List SmallStep) (progress : Progress)
    → steps_taken (first ++ later) progress ≡ steps_taken later (steps_taken first progress)
steps_both [] later progress = refl
steps_both (step ∷ first) later progress = steps_both first later (step_taken step progress)

-- those of a later part of a call
given_up_so : (call : Call) (key : Key) (first second whole : List SmallStep) (progress : Progress) (before : List Out)
    (said : List Decision) → whole ≡ first ++ second → (steps_taken whole progress).outs ≡ before → told_of 0 before ≡ said
    → HasGivenUp call key second (steps_taken first progress)
    → HasGivenUpAsTold call key second (steps_taken first progress) said
given_up_so call key first second whole progress before said split lead same (inl between) =
    let all : before ≡ (steps_taken first progress).outs ++ between.since =
    sym lead ∙ ap (λ (steps : List SmallStep). (steps_taken steps progress).outs) split
    ∙ ap (λ (p : Progress). p.outs) (steps_both first second progress) ∙ between.are_more in
    inl (notice_told key before said same (record {
      current = between.told.current;
      is_told = subst (Among _) (sym all)
          (among_behind _ (steps_taken first progress).outs between.since between.told.is_told);
    }))
given_up_so call key first second whole progress before said split lead same (inr other) = inr other

-- ---- calls

pub breaks_stand_first : (table : Table) → IsManager table → BreaksStandFirst table
breaks_stand_first table is = λ coming first later client e.
    let server = server_of table in
    let call = call_of (manager_of table) coming in
    let goes = managers_are_servers (manager_of table) coming (λ file. refl) in
    ⊎_elim
    (λ r. inl (record {
      before = r.before;
      behind = r.behind;
      file_id = r.file_id;
      bytes = r.bytes;
      stands = r.stands;
      told = r.told_so;
    }))
    (λ w.
    let comes = breaks-come-first server call is.sound is.waits w.before w.behind w.file client w.number w.patch w.stands in
    inr (record {
      before = w.before;
      behind = w.behind;
      file = w.file;
      number = w.number;
      patch = w.patch;
      stands = w.stands;
      told = w.told_so;
      comes_behind = comes;
      given_up = λ earlier since split key other there on apart has caches.
          given_up_so call key earlier since comes.steps (call_begun server call) w.before first split comes.lead w.told_so
          (comes.broken earlier since split key other there on apart has caches);
    }))
    (found client (called server call).outs (called-fair server call).paired first later (sym goes.told ∙ e))
