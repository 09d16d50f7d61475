-- How opens come and go: what the small steps but a cut and a join do to them.
use Rattle.lease_laws.proofs.Words.{◌++◌, ◌+◌, ◌<◌, ◌==◌, ◌∙◌, ◌∷◌, ◌≡◌, ◌≤◌, ◌⊎◌, Access, Among, AreInOrder, Bool, Decides-eqb}
use Rattle.lease_laws.proofs.Words.{FileRequest, IsSound, Lease, LeaseOf, List, None, Open, Option, Outcome, Progress, Server}
use Rattle.lease_laws.proofs.Words.{Share, Some, ℕ, ⊎_elim, [], acknowledged, ap, arith}
use Rattle.lease_laws.proofs.Words.{concluded, cond, connected_again, false, granted_with, has_file, inl, inr, is_left_open}
use Rattle.lease_laws.proofs.Words.{lease_after, new_open, not, opens_dropped, reconnected, refl, subst, sym}
use Rattle.lease_laws.proofs.Words.{tried_for, true}
use Rattle.lease_laws.proofs.server.FileReady.{IsAwaited, AgainReady, FileReady}
use Rattle.lease_laws.proofs.server.Lists.{among_append, among_filter, among_map}
use Rattle.lease_laws.proofs.server.cases.Tries.{HasTries, any_try}
use Rattle.lease_laws.proofs.server.cases.Ends.{HasEnds, any_end}
use Rattle.lease_laws.proofs.server.cases.Judgements.{any_judgement}

-- two opens of one FileId are one
pub one_id : (opens : List Open) (one other : Open) → AreInOrder opens → Among one opens → Among other opens
    → one.file_id ≡ other.file_id → one ≡ other
one_id [] one other order a b e = absurd a
one_id (first ∷ opens) one other order (inl p) (inl q) e = p ∙ sym q
one_id (first ∷ opens) one other order (inl p) (inr q) e =
    let less = order.0 other q in let same = ap (λ o. o.file_id) p in absurd (omega (arith, less, same, e))
one_id (first ∷ opens) one other order (inr p) (inl q) e =
    let less = order.0 one p in let same = ap (λ o. o.file_id) q in absurd (omega (arith, less, same, e))
one_id (first ∷ opens) one other order (inr p) (inr q) e = one_id opens one other order.1 p q e

-- An open that was there, and that has its connection since, if it has it, only where its client does.
pub record IsOld (before : Server) (one : Open) : Type 0 where
  pub was : Open
  pub was_there : Among was before.opens
  pub same_id : one.file_id ≡ was.file_id
  pub same_file : one.file ≡ was.file
  pub same_client : one.client ≡ was.client
  pub up : one.connected ≡ true → (was.connected ≡ true) ⊎ (before.present one.client ≡ true)

-- a new open, of a connected client, on a file of the server
pub record IsNew (before : Server) (one : Open) : Type 0 where
  pub is_new : before.last_id < one.file_id
  pub up : before.present one.client ≡ true
  pub on_file : has_file before one.file ≡ true

-- The files and the connections stay, FileIds rise, and each open was there or is new.
pub record GoesOn (before : Server) (after : Server) : Type 0 where
  pub files : after.files ≡ before.files
  pub ups : (client : ℕ) → after.present client ≡ before.present client
  pub ids : before.last_id ≤ after.last_id
  pub from : (one : Open) → Among one after.opens → IsOld before one ⊎ IsNew before one

-- an open that was there
pub still_there : (before : Server) (one : Open) → Among one before.opens → IsOld before one
still_there before one a = record {
  was = one;
  was_there = a;
  same_id = refl;
  same_file = refl;
  same_client = refl;
  up = λ e. inl e;
}

-- nothing happens
pub goes-same : (server : Server) → GoesOn server server
goes-same server = grind arith

-- the files of a server are known by their number
pub file_frame : (a b : Server) (file : ℕ) → b.files ≡ a.files → has_file b file ≡ has_file a file
file_frame a b file e = ap (λ n. has_file (record a { files = n }) file) e

-- an open that was there twice
old_of_old : (a b : Server) (one : Open) → GoesOn a b → (o : IsOld b one) → IsOld a o.was → IsOld a one
old_of_old a b one g o p = grind arith

-- a new open that is still there
new_of_old : (a b : Server) (one : Open) → (o : IsOld b one) → IsNew a o.was → IsNew a one
new_of_old a b one o p = grind arith

-- an open that is new at the second step
new_of_new : (a b : Server) (one : Open) → GoesOn a b → IsNew b one → IsNew a one
new_of_new a b one g p = grind arith

-- two steps
pub goes-twice : (a b c : Server) → GoesOn a b → GoesOn b c → GoesOn a c
goes-twice a b c g h = record {
  files = h.files ∙ g.files;
  ups = λ client. h.ups client ∙ g.ups client;
  ids = let x = g.ids in let y = h.ids in omega (arith, x, y);
  from = λ one m. ⊎_elim
      (λ o. ⊎_elim (λ p. inl (old_of_old a b one g o p)) (λ p. inr (new_of_old a b one o p)) (g.from o.was o.was_there))
      (λ n. inr (new_of_new a b one g n)) (h.from one m);
}

-- a call under way goes on
abbrev pub Goes : Progress → Progress → Type 0
Goes before after = GoesOn before.server after.server

-- the opens, the files and the connections stay
stay-goes : (before after : Server) → after.files ≡ before.files → after.present ≡ before.present
    → after.last_id ≡ before.last_id → after.opens ≡ before.opens → GoesOn before after
stay-goes before after files ups ids opens = grind arith

-- to drop opens lets opens go on
pub dropped-goes : (test : Open → Bool) (progress : Progress) → Goes progress (opens_dropped test progress)
dropped-goes test progress = record {
  files = refl;
  ups = λ c. refl;
  ids = omega arith;
  from = λ one a. inl (still_there progress.server one (among_filter (λ x. not (test x)) one progress.server.opens a).0);
}

pub tries_go : HasTries Goes
tries_go = record {
  same = λ progress. goes-same progress.server;
  behind = λ before next after. goes-twice before.server next.server after.server;
  drop = λ key progress. dropped-goes (is_left_open key) progress;
  lower = λ key lowered progress settled. stay-goes progress.server _ refl refl refl refl;
  begin = λ key lowered progress settled. stay-goes progress.server _ refl refl refl refl;
}

-- a try
pub tried_for-goes : (rounds client : ℕ) (request : FileRequest) (progress : Progress)
    → Goes progress (tried_for rounds client request progress).progress
tried_for-goes = any_try Goes tries_go

-- an open of a list with one more is old or new
added : (new : Open) (progress : Progress) (one : Open) → new.file_id ≡ progress.server.last_id + 1
    → progress.server.present new.client ≡ true → has_file progress.server new.file ≡ true
    → Among one (progress.server.opens ++ new ∷ []) → IsOld progress.server one ⊎ IsNew progress.server one
added new progress one id up on a = ⊎_elim
    (λ h. inl (still_there progress.server one h))
    (λ h. ⊎_elim (λ same. inr (record {
      is_new = let e : one.file_id ≡ progress.server.last_id + 1 = ap (λ o. o.file_id) same ∙ id in omega (arith, e);
      up = ap (λ o. progress.server.present o.client) same ∙ up;
      on_file = ap (λ o. has_file progress.server o.file) same ∙ on;
    })) (λ never. absurd never) h) (among_append one progress.server.opens (new ∷ []) a)

-- a grant lets opens go on
granted_with-goes : (client file : ℕ) (access : Access) (share : Share) (asked : Option LeaseOf)
    (durable : Bool) (lease : Lease) (progress : Progress)
    → progress.server.present client ≡ true → has_file progress.server file ≡ true
    → Goes progress (granted_with client file access share asked durable lease progress)
granted_with-goes client file access share None durable lease progress up on = record {
  files = refl;
  ups = λ c. refl;
  ids = omega arith;
  from = λ one a. added (new_open progress.server client file access share None durable lease) progress one refl up on a;
}
granted_with-goes client file access share (Some asked) durable lease progress up on = record {
  files = refl;
  ups = λ c. refl;
  ids = omega arith;
  from = λ one a. added (new_open progress.server client file access share (Some asked) durable lease) progress one refl up on a;
}

-- an open that is connected again is one of its client
again_old : (server : Server) (client file_id : ℕ) (was : Open) (b : Bool) → (was.file_id == file_id) ≡ b
    → IsSound server → IsAwaited server client file_id → server.present client ≡ true → Among was server.opens
    → IsOld server (cond b (record was { connected = true }) was)
again_old server client file_id was true e s w up a = record {
  was = was;
  was_there = a;
  same_id = refl;
  same_file = refl;
  same_client = refl;
  up = λ u. inr (ap (λ o. server.present o.client) (one_id server.opens was w.one s.in_order a w.is_there
      ((Decides-eqb was.file_id file_id).0 e ∙ sym w.has_id)) ∙ ap (λ c. server.present c) w.is_own ∙ up);
}
again_old server client file_id was false e s w up a = still_there server was a

-- a reconnect lets opens go on
reconnected-goes : (client file : ℕ) (asked : Option LeaseOf) (file_id : ℕ) (progress : Progress) → IsSound progress.server
    → IsAwaited progress.server client file_id → progress.server.present client ≡ true
    → Goes progress (reconnected client file asked file_id progress)
reconnected-goes client file asked file_id progress s w up = record {
  files = refl;
  ups = λ c. refl;
  ids = omega arith;
  from = λ one a. let x = among_map (connected_again file_id) one progress.server.opens a in
      inl (subst (λ o. IsOld progress.server o) (sym x.2)
      (again_old progress.server client file_id x.0 ((x.0).file_id == file_id) refl s w up x.1));
}

-- the end of a try
ends_go : (client : ℕ) (progress : Progress) → IsSound progress.server → progress.server.present client ≡ true
    → HasEnds client progress (λ request outcome after. (outcome ≡ Outcome.Ready
    → FileReady progress.server client request) → Goes progress after)
ends_go client progress s up = record {
  refused = λ request status ready. goes-same progress.server;
  left = λ request outcome why ready. goes-same progress.server;
  full = λ file access share ask none out ready. goes-same progress.server;
  granted = λ file access share ask none room ready. granted_with-goes client file access share ask.lease ask.durable
      (lease_after progress.server client file ask.lease) progress up (ready refl).0;
  again = λ file access share ask file_id some ready. reconnected-goes client file ask.lease file_id progress s
      (subst (AgainReady progress.server client) some (ready refl).1) up;
  read = λ file_id one own ready. goes-same progress.server;
  changed = λ file_id number patch one own ready. stay-goes progress.server _ refl refl refl refl;
  closed = λ file_id one own ready. dropped-goes (λ other. other.file_id == file_id) progress;
}

pub concluded-goes : (client : ℕ) (request : FileRequest) (progress : Progress) (outcome : Outcome)
    → IsSound progress.server → progress.server.present client ≡ true
    → (outcome ≡ Outcome.Ready → FileReady progress.server client request)
    → Goes progress (concluded client request progress outcome)
concluded-goes client request progress outcome s up = any_end client progress _ (ends_go client progress s up) request outcome

-- any acknowledgment
pub acknowledged-goes : (client : ℕ) (given : Option LeaseOf) (progress : Progress)
    → Goes progress (acknowledged client given progress)
acknowledged-goes client given progress = any_judgement client progress (λ given. Goes progress) (record {
  failed = λ given why. goes-same progress.server;
  ended = λ g lowered there breaks within. stay-goes progress.server _ refl refl refl refl;
}) given
