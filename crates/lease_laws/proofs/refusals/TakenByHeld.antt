-- What passes over held requests change is the doing of these requests.
use Rattle.lease_laws.proofs.Words.{◌++◌, ◌==◌, ◌∙◌, ◌∷◌, ◌≡◌, Among, FileRequest, Held, Lease, LeaseOf, List}
use Rattle.lease_laws.proofs.Words.{Open, Option, Outcome, Pass, Progress, Server, ℕ, ⊎_elim, []}
use Rattle.lease_laws.proofs.Words.{ap, append_assoc, arith, closed, concluded, connected_again}
use Rattle.lease_laws.proofs.Words.{eq-eqb, eqb-true, false, held_left, inl, inr}
use Rattle.lease_laws.proofs.Words.{lease_after, lease_put, left_waiting, map, not}
use Rattle.lease_laws.proofs.Words.{pass_answered}
use Rattle.lease_laws.proofs.Words.{put, refl, subst, sym, tried, tried_again}
use Rattle.lease_laws.proofs.client.Thin.{put_same, put_other}
use Rattle.lease_laws.proofs.server.Held.{concluded-held, tried_for-held}
use Rattle.lease_laws.proofs.server.Lists.{either, clash, among_append, among_before, among_behind, among_filtered}
use Rattle.lease_laws.proofs.server.cases.Passes.{HasPasses, any_passes, any_try_again}
use Rattle.lease_laws.proofs.server.cases.Ends.{any_end}
use Rattle.lease_state.specs.Content.{patch as patched}
use Rattle.lease_laws.proofs.refusals.Refusing.{tried_alone}
use Rattle.lease_laws.specs.server.Refusals.{IsSameOpen, IsTakenByHeld, IsLeftToHeld, PassesAreOfHeld}

-- ---- one after the other

itself : (one : Open) → IsSameOpen one one
itself one = record { file_id = refl; client = refl; file = refl; lease_key = refl }

same_then : (one two three : Open) → IsSameOpen one two → IsSameOpen two three → IsSameOpen one three
same_then one two three a b = grind arith

same_left : (requests : ℕ → List Held) (server : Server) → IsLeftToHeld requests server server
same_left requests server = record { contents = λ file. inl refl; stay = λ one a. inl (one, itself one, a) }

-- what is said of an open is said of it as it was
taken_before : (requests : ℕ → List Held) (one now : Open) → IsSameOpen one now → IsTakenByHeld requests now
    → IsTakenByHeld requests one
taken_before requests one now same t = grind arith

left_then : (requests : ℕ → List Held) (one two three : Server) → IsLeftToHeld requests one two
    → IsLeftToHeld requests two three → IsLeftToHeld requests one three
left_then requests one two three a b = record {
  contents = λ file. ⊎_elim (λ same. ⊎_elim (λ again. inl (again ∙ same)) (λ w. inr w) (b.contents file)) (λ w. inr w)
      (a.contents file);
  stay = λ x there. ⊎_elim
      (λ first. ⊎_elim
      (λ then. inl (then.0, same_then x first.0 then.0 first.1 then.1, then.2))
      (λ t. inr (taken_before requests x first.0 first.1 t)) (b.stay first.0 first.2))
      (λ t. inr t) (a.stay x there);
}

-- ---- a held request is tried and answered

-- a request that is still held
pub record IsStillHeld (requests : ℕ → List Held) (progress : Progress) (file : ℕ) (held : Held) : Type 0 where
  pub was : Among held (requests file)
  pub still : Among held (progress.server.held file)

tried_left : (requests : ℕ → List Held) (progress : Progress) (file : ℕ) (held : Held) → IsStillHeld requests progress file held
    → IsLeftToHeld requests progress.server (tried held.client held.request progress).progress.server
tried_left requests progress file held h =
    let t = tried_alone 3 held.client held.request progress in record {
      contents = λ at. inl (ap (λ (c : ℕ → List ℕ). c at) t.contents);
      stay = λ one there. ⊎_elim (λ still. inl (one, itself one, still)) (λ c. inr (record {
        file = file;
        held = held;
        was_held = h.was;
        why = inr (record {
          at = progress;
          still_held = h.still;
          now = one;
          same = itself one;
          still_there = there;
          closed = c;
        });
      })) (t.stay one there);
    }

-- another list of opens, where each is still there
kept_opens : (requests : ℕ → List Held) (before after : Server) → after.contents ≡ before.contents
    → ((one : Open) → Among one before.opens → (now : Open) × IsSameOpen one now × Among now after.opens)
    → IsLeftToHeld requests before after
kept_opens requests before after same stay = grind arith

put_contents : (server : Server) (client : ℕ) (asked : Option LeaseOf) (lease : Lease)
    → (lease_put server client asked lease).contents ≡ server.contents
put_contents server client asked lease = grind arith

mapped : {X Y : Type 0} (f : X → Y) (x : X) (xs : List X) → Among x xs → Among (f x) (map f xs)
mapped f x [] a = a
mapped f x (y ∷ xs) a = ⊎_elim (λ same. inl (ap f same)) (λ later. inr (mapped f x xs later)) a

again_same : (file_id : ℕ) (one : Open) → IsSameOpen one (connected_again file_id one)
again_same file_id one = grind arith

closed_left : (requests : ℕ → List Held) (at : ℕ) (held : Held) (file file_id : ℕ) (progress : Progress)
    → Among held (requests at) → held.request ≡ FileRequest.Close file_id
    → IsLeftToHeld requests progress.server (closed held.client file_id progress).server
closed_left requests at held file file_id progress was is = record {
  contents = λ f. inl refl;
  stay = λ one there. either (one.file_id == file_id)
      (λ here. inr (record {
        file = at;
        held = held;
        was_held = was;
        why = inl (is ∙ ap FileRequest.Close (sym (eqb-true one.file_id file_id here)));
      }))
      (λ apart. inl (
        one,
        itself one,
        among_filtered (λ (o : Open). not (o.file_id == file_id)) one progress.server.opens there (ap not apart),
      ));
}

concluded_left : (requests : ℕ → List Held) (at : ℕ) (held : Held) (request : FileRequest) (progress : Progress)
    (outcome : Outcome) → Among held (requests at) → held.request ≡ request
    → IsLeftToHeld requests progress.server (concluded held.client request progress outcome).server
concluded_left requests at held request progress outcome was = any_end held.client progress
    (λ request outcome after. held.request ≡ request → IsLeftToHeld requests progress.server after.server) (record {
      refused = λ request status is. same_left requests progress.server;
      left = λ request outcome why is. same_left requests progress.server;
      full = λ file access share ask none out is. same_left requests progress.server;
      granted = λ file access share ask none room is. kept_opens requests progress.server _
          (put_contents progress.server held.client ask.lease (lease_after progress.server held.client file ask.lease))
          (λ one there. (one, itself one, among_before one progress.server.opens (_ ∷ []) there));
      again = λ file access share ask file_id some is. kept_opens requests progress.server _ refl (λ one there. (
        connected_again file_id one,
        again_same file_id one,
        mapped (connected_again file_id) one progress.server.opens there,
      ));
      read = λ file_id one own is. same_left requests progress.server;
      changed = λ file_id number patch one own is. record {
        contents = λ file. either (file == one.file)
            (λ here. inr (record {
              held_on = at;
              held = held;
              was_held = was;
              file_id = file_id;
              number = number;
              patch = patch;
              is_write = is;
              at = progress;
              one = one;
              found = own.found;
              is_on = sym (eqb-true file one.file here);
            }))
            (λ apart. inl (put_other progress.server.contents one.file (patched (progress.server.contents one.file) patch) file
            (λ same. clash (file == one.file) (eq-eqb file one.file same) apart)));
        stay = λ x there. inl (x, itself x, there);
      };
      closed = λ file_id one own is. closed_left requests at held one.file file_id progress was is;
    }) request outcome

-- ---- passes

-- what is held was held
abbrev WereHeld : (ℕ → List Held) → Progress → Type 0
WereHeld requests progress = (file : ℕ) (held : Held) → Among held (progress.server.held file) → Among held (requests file)

-- a pass under way
pub record IsPassing (requests : ℕ → List Held) (start : Server) (file : ℕ) (waiting : List Held) (pass : Pass) : Type 0
  where
    pub is_held : pass.progress.server.held file ≡ pass.passed ++ waiting
    pub were : WereHeld requests pass.progress
    pub left : IsLeftToHeld requests start pass.progress.server

passed_over : (requests : ℕ → List Held) (start : Server) (file : ℕ) (one : Held) (waiting : List Held) (pass : Pass)
    (progress : Progress) → progress.server.held ≡ pass.progress.server.held
    → IsLeftToHeld requests pass.progress.server progress.server → IsPassing requests start file (one ∷ waiting) pass
    → IsPassing requests start file waiting (left_waiting one pass progress)
passed_over requests start file one waiting pass progress same left p = record {
  is_held = ap (λ (h : ℕ → List Held). h file) same ∙ p.is_held ∙ sym (append_assoc pass.passed (one ∷ []) waiting);
  were = λ at x there. p.were at x (subst (λ (h : ℕ → List Held). Among x (h at)) same there);
  left = left_then requests start pass.progress.server progress.server p.left left;
}

left_held : (at : ℕ) (left : List Held) (progress : Progress) (requests : ℕ → List Held) → WereHeld requests progress
    → ((x : Held) → Among x left → Among x (requests at)) → WereHeld requests (held_left at left progress)
left_held at left progress requests were within file x there = either (file == at)
    (λ here. let same = eqb-true file at here in
    subst (λ f. Among x (requests f)) (sym same) (within x (subst (λ l. Among x l)
    (ap (put progress.server.held at left) same ∙ put_same progress.server.held at left) there)))
    (λ apart. were file x (subst (λ l. Among x l) (put_other progress.server.held at left file (λ e. false_same apart e)) there))
  where
    false_same : (file == at) ≡ false → file ≡ at → ⊥
    false_same apart e = clash (file == at) (eq-eqb file at e) apart

answered_pass : (requests : ℕ → List Held) (start : Server) (file : ℕ) (one : Held) (waiting : List Held) (pass : Pass)
    (progress : Progress) (outcome : Outcome) → progress.server.held ≡ pass.progress.server.held
    → IsLeftToHeld requests pass.progress.server progress.server → IsPassing requests start file (one ∷ waiting) pass
    → IsPassing requests start file waiting
    (pass_answered file one waiting pass (record { progress = progress; outcome = outcome }))
answered_pass requests start file one waiting pass progress outcome same left p =
    let gone = held_left file (pass.passed ++ waiting) progress in
    let held = concluded-held one.client one.request gone outcome in
    let inside : (x : Held) → Among x (pass.passed ++ one ∷ waiting) → Among x (requests file) =
    λ x there. p.were file x (subst (λ l. Among x l) (sym p.is_held) there) in record {
      is_held = ap (λ (h : ℕ → List Held). h file) held ∙ put_same progress.server.held file (pass.passed ++ waiting);
      were = λ at x there. left_held file (pass.passed ++ waiting) progress requests
          (λ f y a. p.were f y (subst (λ (h : ℕ → List Held). Among y (h f)) same a))
          (λ y a. ⊎_elim (λ first. inside y (among_before y pass.passed (one ∷ waiting) first))
          (λ later. inside y (among_behind y pass.passed (one ∷ waiting) (inr later))) (among_append y pass.passed waiting a))
          at x (subst (λ (h : ℕ → List Held). Among x (h at)) held there);
      left = left_then requests start pass.progress.server (concluded one.client one.request gone outcome).server p.left
          (left_then requests pass.progress.server progress.server (concluded one.client one.request gone outcome).server left
          (left_then requests progress.server gone.server (concluded one.client one.request gone outcome).server
          (record { contents = λ f. inl refl; stay = λ x a. inl (x, itself x, a) })
          (concluded_left requests file one one.request gone outcome
          (inside one (among_behind one pass.passed (one ∷ waiting) (inl refl))) refl)));
    }

tried_pass : (requests : ℕ → List Held) (start : Server) (file : ℕ) (one : Held) (waiting : List Held) (pass : Pass)
    → IsPassing requests start file (one ∷ waiting) pass
    → IsPassing requests start file waiting (tried_again file one waiting pass)
tried_pass requests start file one waiting pass p =
    let done = tried one.client one.request pass.progress in
    let there = subst (λ l. Among one l) (sym p.is_held) (among_behind one pass.passed (one ∷ waiting) (inl refl)) in
    let same = tried_for-held 3 one.client one.request pass.progress in
    let left = tried_left requests pass.progress file one (record { was = p.were file one there; still = there }) in
    any_try_again file one waiting pass (IsPassing requests start file waiting) (record {
      behind = λ behind.
          passed_over requests start file one waiting pass pass.progress refl (same_left requests pass.progress.server) p;
      waits = λ first waits. passed_over requests start file one waiting pass done.progress same left p;
      answers = λ first ends. answered_pass requests start file one waiting pass done.progress done.outcome same left p;
    })

-- passes so far
pub record ArePassed (requests : ℕ → List Held) (start : Server) (progress : Progress) : Type 0 where
  pub were : WereHeld requests progress
  pub left : IsLeftToHeld requests start progress.server

passes_passed : (requests : ℕ → List Held) (start : Server) → HasPasses
    (λ file from waiting pass. ArePassed requests start from → IsPassing requests start file waiting pass)
    (λ count file from after. ArePassed requests start from → ArePassed requests start after)
    (λ files from after. ArePassed requests start from → ArePassed requests start after)
passes_passed requests start = record {
  begins = λ file from a. record { is_held = refl; were = a.were; left = a.left };
  goes = λ file from one waiting pass p a. tried_pass requests start file one waiting pass (p a);
  out = λ file from a. a;
  again = λ count file from after pass p answered rest a. let q = p a in rest (record { were = q.were; left = q.left });
  last = λ count file from pass p none a. let q = p a in record { were = q.were; left = q.left };
  none = λ from a. a;
  more = λ file files from next after first rest a. rest (first a);
}

pub passes_are_of_held : PassesAreOfHeld
passes_are_of_held progress = (any_passes _ _ _ (passes_passed progress.server.held progress.server) progress
    (record { were = λ file one there. there; left = same_left progress.server.held progress.server })).left
