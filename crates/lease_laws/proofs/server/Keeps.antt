-- What has to wait goes on having to: breaks and answers end no break of another file, and close no
-- open there.
use Rattle.lease_laws.proofs.Words.{◌&&◌, ◌++◌, ◌==◌, ◌∙◌, ◌∷◌, ◌≡◌, ◌≢◌, Access, Among, AreInOrder, Bool, CreateAsk, Decides-eqb}
use Rattle.lease_laws.proofs.Words.{FileRequest, HasToWait, IsAbout, IsAlone, IsBlockedBy, IsSound, Key, Lease, LeaseOf, List}
use Rattle.lease_laws.proofs.Words.{None, Open, Option, Outcome, Progress, Server, Share, Some, State, ℕ, [], ap, arith}
use Rattle.lease_laws.proofs.Words.{breaks_to_some, concluded, cond, connected_again, connected_open, false}
use Rattle.lease_laws.proofs.Words.{find, granted_with, has_key, inl, inr, is_breaking, is_left_open, key_of, key_of_open}
use Rattle.lease_laws.proofs.Words.{lease_after, lease_granted, map, not, opens_dropped, own_key, put_key}
use Rattle.lease_laws.proofs.Words.{reconnected, refl, subst, sym, tried_for, true, without}
use Rattle.lease_laws.proofs.server.Answers.{breaking_present}
use Rattle.lease_laws.proofs.server.Breaking.{some_breaks}
use Rattle.lease_laws.proofs.server.Goes.{one_id}
use Rattle.lease_laws.proofs.server.Keys.{put_key-cases}
use Rattle.lease_laws.proofs.server.Lists.{if_cases, clash, and_parts, not_parts, not_true, among_filtered, among_before}
use Rattle.lease_laws.proofs.server.Lists.{find_has}
use Rattle.lease_laws.proofs.server.Met.{find_kept}
use Rattle.lease_laws.proofs.server.Steps.{left_here}
use Rattle.lease_laws.proofs.server.cases.Ends.{found_open, HasEnds, any_end}
use Rattle.lease_laws.proofs.server.cases.Tries.{HasTries, any_try}

-- On the files of a kind, connected opens of breaking keys stay, and the leases of these keys stay as they
-- are; the open of a FileId that a client has stays it; and the rules are the same.
pub record Keeps (Guard : ℕ → Type 0) (before : Server) (after : Server) : Type 0 where
  pub rules : after.rules ≡ before.rules
  pub stands : (key : Key) (one : Open) → Among one before.opens → has_key key one ≡ true → one.connected ≡ true
      → is_breaking (before.leases key) ≡ true → Guard one.file → (Among one after.opens) × (after.leases key ≡ before.leases key)
  pub finds : (client file_id : ℕ) (one : Open) → connected_open before client file_id ≡ Some one → Guard one.file
      → connected_open after client file_id ≡ Some one

-- nothing happens
pub keeps-same : (Guard : ℕ → Type 0) (server : Server) → Keeps Guard server server
keeps-same Guard server = grind arith

-- two steps
pub keeps-twice : (Guard : ℕ → Type 0) (a b c : Server) → Keeps Guard a b → Keeps Guard b c → Keeps Guard a c
keeps-twice Guard a b c h j = grind arith

-- every file
abbrev pub Anywhere : ℕ → Type 0
Anywhere file = Unit {0}

-- what is blocked stays so, where only a breaking lease is in the way
blocked_keeps : (test : Lease → Bool) (Guard : ℕ → Type 0) (before after : Server) (own : Option Key) (file : ℕ)
    → ((lease : Lease) → test lease ≡ true → is_breaking lease ≡ true) → Keeps Guard before after → IsSound before
    → Guard file → IsBlockedBy test before own file → IsBlockedBy test after own file
blocked_keeps test Guard before after own file only h s g b =
    let breaks = only (before.leases b.key) b.is_in_the_way in
    let up = breaking_present before.opens before.leases before.expired before.last_id b.key b.one s
    breaks b.is_there b.has_the_key in
    let x = h.stands b.key b.one b.is_there b.has_the_key up breaks (subst Guard (sym b.is_on_file) g) in
    record {
      key = b.key;
      is_in_the_way = ap test x.1 ∙ b.is_in_the_way;
      one = b.one;
      is_there = x.0;
      is_on_file = b.is_on_file;
      has_the_key = b.has_the_key;
      is_other = b.is_other;
    }

-- the open of a FileId that a client has
pub connected_has : (server : Server) (client file_id : ℕ) (one : Open) → connected_open server client file_id ≡ Some one
    → (Among one server.opens) × (one.file_id ≡ file_id)
connected_has server client file_id one e = let own = found_open server client file_id one e in (own.there, own.id)

-- a create goes on having to wait
contexts_keep : (Guard : ℕ → Type 0) (before after : Server) (client at file : ℕ) (access : Access)
    (share : Share) (contexts : Option CreateAsk) → Keeps Guard before after → IsSound before → at ≡ file → Guard file
    → HasToWait before client (FileRequest.Create at access share contexts)
    → HasToWait after client (FileRequest.Create at access share contexts)
contexts_keep Guard before after client at file access share None h s e g w = absurd w
contexts_keep Guard before after client at file access share (Some ask) h s e g w =
    blocked_keeps (λ lease. is_breaking lease) Guard before after (own_key client ask.lease) at (λ lease b. b) h s
    (subst Guard (sym e) g) w

-- what has to wait for a break on a file goes on having to
pub waits_keep : (Guard : ℕ → Type 0) (before after : Server) (client file : ℕ) (request : FileRequest)
    → Keeps Guard before after → IsSound before → IsAbout before file request → Guard file → HasToWait before client request
    → HasToWait after client request
waits_keep Guard before after client file (FileRequest.Create at access share contexts) h s about g w =
    contexts_keep Guard before after client at file access share contexts h s about g w
waits_keep Guard before after client file (FileRequest.Write file_id number patch) h s about g w =
    let x = connected_has before client file_id w.one w.is_open in
    let here : Guard (w.one).file = subst Guard (sym (about.is_on_file w.one x.0 x.1)) g in
    record {
      one = w.one;
      is_open = h.finds client file_id w.one w.is_open here;
      is_blocked = blocked_keeps breaks_to_some Guard before after (key_of_open w.one) (w.one).file
          (λ lease. some_breaks lease.broken_to) h s here w.is_blocked;
    }
waits_keep Guard before after client file request h s about g w = absurd w

-- for calls under way
abbrev pub Kept : (ℕ → Type 0) → Progress → Progress → Type 0
Kept Guard before after = Keeps Guard before.server after.server

-- opens without their connection are dropped
left_dropped-kept : (key : Key) (progress : Progress) → Kept Anywhere progress (opens_dropped (is_left_open key) progress)
left_dropped-kept key progress =
    let safe : (one : Open) → one.connected ≡ true → not (is_left_open key one) ≡ true = λ one up.
    ap not (not_true (is_left_open key one)
    (λ left. clash one.connected up (not_parts one.connected (and_parts (has_key key one) (not one.connected) left).1))) in
    record {
      rules = refl;
      stands = λ k one a h up b g.
          let there = among_filtered (λ x. not (is_left_open key x)) one progress.server.opens a (safe one up) in (
            there,
            left_here progress.server.leases (without (is_left_open key) progress.server.opens) k one there h,
          );
      finds = λ client file_id one e g. find_kept (λ x. x.file_id == file_id && x.client == client && x.connected)
          (λ x. not (is_left_open key x)) progress.server.opens
          (λ x t. safe x (and_parts (x.file_id == file_id && x.client == client) x.connected t).1) ∙ e;
    }

-- a lease that is put where none was breaking leaves one that is breaking as it is
settled_put-kept : (key : Key) (lease : Lease) (before after : Server) → is_breaking (before.leases key) ≡ false
    → after.rules ≡ before.rules → after.opens ≡ before.opens → after.leases ≡ put_key before.leases key lease
    → Keeps Anywhere before after
settled_put-kept key lease before after settled rules opens leases = record {
  rules = rules;
  stands = λ other one a h up b g. (
    subst (λ os. Among one os) (sym opens) a,
    ap (λ (t : Key → Lease). t other) leases ∙ put_key-cases (λ l. l ≡ before.leases other) before.leases key lease other
        (λ same. clash (is_breaking (before.leases key)) (ap (λ k. is_breaking (before.leases k)) (sym same) ∙ b) settled)
        (λ e. refl),
  );
  finds = λ client file_id one e g. ap (λ os. find (λ x. x.file_id == file_id && x.client == client && x.connected) os) opens ∙ e;
}

tries_keep : HasTries (Kept Anywhere)
tries_keep = record {
  same = λ progress. keeps-same Anywhere progress.server;
  behind = λ before next after. keeps-twice Anywhere before.server next.server after.server;
  drop = λ key progress. left_dropped-kept key progress;
  lower = λ key lowered progress settled. settled_put-kept key _ progress.server _ settled refl refl refl;
  begin = λ key lowered progress settled. settled_put-kept key _ progress.server _ settled refl refl refl;
}

-- a try
pub tried_for-kept : (rounds client : ℕ) (request : FileRequest) (progress : Progress)
    → Kept Anywhere progress (tried_for rounds client request progress).progress
tried_for-kept = any_try (Kept Anywhere) tries_keep

-- what is found is still found with more behind it
find_append : {X : Type 0} (test : X → Bool) (xs ys : List X) (x : X) → find test xs ≡ Some x → find test (xs ++ ys) ≡ Some x
find_append test [] ys x e = absurd (cc)
find_append test (y ∷ xs) ys x e =
    if_cases (λ o. o ≡ Some x → cond (test y) (Some y) (find test (xs ++ ys)) ≡ Some x) (test y) (Some y) (find test xs)
    (λ t same. ap (λ b. cond b (Some y) (find test (xs ++ ys))) t ∙ same)
    (λ t later. ap (λ b. cond b (Some y) (find test (xs ++ ys))) t ∙ find_append test xs ys x later) e

-- a grant leaves a breaking lease as it is
granted-stays : (server : Server) (key : Key) (file : ℕ) (want : State) → is_breaking (server.leases key) ≡ true
    → lease_granted server key file want ≡ server.leases key
granted-stays server key file want b = grind arith

-- a grant lets wait what has to wait
granted_with-kept : (client file : ℕ) (access : Access) (share : Share) (asked : Option LeaseOf)
    (durable : Bool) (progress : Progress) → Kept Anywhere progress (granted_with client file access share asked durable
    (lease_after progress.server client file asked) progress)
granted_with-kept client file access share None durable progress = record {
  rules = refl;
  stands = λ k one a h up b g. (among_before one progress.server.opens _ a, refl);
  finds = λ c file_id one e g. find_append (λ x. x.file_id == file_id && x.client == c && x.connected)
      progress.server.opens _ one e;
}
granted_with-kept client file access share (Some asked) durable progress = record {
  rules = refl;
  stands = λ k one a h up b g. (
    among_before one progress.server.opens _ a,
    put_key-cases (λ l. l ≡ progress.server.leases k) progress.server.leases (key_of client asked.key) _ k
        (λ same. granted-stays progress.server (key_of client asked.key) file asked.state
        (ap (λ x. is_breaking (progress.server.leases x)) (sym same) ∙ b)
        ∙ ap (λ x. progress.server.leases x) (sym same)) (λ e. refl),
  );
  finds = λ c file_id one e g. find_append (λ x. x.file_id == file_id && x.client == c && x.connected)
      progress.server.opens _ one e;
}

-- a connected open that is connected again is the same
again_same : (file_id : ℕ) (one : Open) → one.connected ≡ true → connected_again file_id one ≡ one
again_same file_id one up = grind arith

-- so it stays on the list
among_again : (file_id : ℕ) (one : Open) (opens : List Open) → one.connected ≡ true → Among one opens
    → Among one (map (connected_again file_id) opens)
among_again file_id one [] up a = absurd a
among_again file_id one (other ∷ opens) up (inl same) =
    inl (same ∙ sym (again_same file_id other (ap (λ o. o.connected) (sym same) ∙ up)))
among_again file_id one (other ∷ opens) up (inr a) = inr (among_again file_id one opens up a)

-- its FileId is the same
again_id : (file_id : ℕ) (one : Open) → (connected_again file_id one).file_id ≡ one.file_id
again_id file_id one = grind arith

-- and what is found of connected opens is still found
find_again : (file_id client id : ℕ) (one : Open) (opens : List Open) → AreInOrder opens
    → find (λ x. x.file_id == id && x.client == client && x.connected) opens ≡ Some one
    → find (λ x. x.file_id == id && x.client == client && x.connected) (map (connected_again file_id) opens) ≡ Some one
find_again file_id client id one [] order e = e
find_again file_id client id one (first ∷ opens) order e =
    let test : Open → Bool = λ x. x.file_id == id && x.client == client && x.connected in
    if_cases (λ o. o ≡ Some one → find test (map (connected_again file_id) (first ∷ opens)) ≡ Some one)
    (test first) (Some first) (find test opens)
    (λ t same. let up = (and_parts (first.file_id == id && first.client == client) first.connected t).1 in
    ap (λ x. cond (test x) (Some x) (find test (map (connected_again file_id) opens))) (again_same file_id first up)
    ∙ ap (λ b. cond b (Some first) (find test (map (connected_again file_id) opens))) t ∙ same)
    (λ t later.
    let there = find_has test one opens later in
    let ids : one.file_id ≡ id = (Decides-eqb one.file_id id).0 (and_parts (one.file_id == id) (one.client == client)
    (and_parts (one.file_id == id && one.client == client) one.connected there.1).0).0 in
    let no_match : test (connected_again file_id first) ≡ false = not_true (test (connected_again file_id first)) (λ m.
    let f = (Decides-eqb (connected_again file_id first).file_id id).0 (and_parts ((connected_again file_id first).file_id == id)
    ((connected_again file_id first).client == client)
    (and_parts ((connected_again file_id first).file_id == id && (connected_again file_id first).client ==
    client) (connected_again file_id first).connected m).0).0 in
    let less = order.0 one there.0 in
    let same = again_id file_id first in
    absurd (omega (arith, f, less, same, ids))) in
    ap (λ b. cond b (Some (connected_again file_id first)) (find test (map (connected_again file_id) opens))) no_match
    ∙ find_again file_id client id one opens order.1 later) e

-- a reconnect lets wait what has to wait
reconnected-kept : (client file : ℕ) (asked : Option LeaseOf) (file_id : ℕ) (progress : Progress) → IsSound progress.server
    → Kept Anywhere progress (reconnected client file asked file_id progress)
reconnected-kept client file asked file_id progress s = record {
  rules = refl;
  stands = λ k one a h up b g. (among_again file_id one progress.server.opens up a, refl);
  finds = λ c id one e g. find_again file_id c id one progress.server.opens s.in_order e;
}

-- any file but this one
abbrev pub Elsewhere : ℕ → ℕ → Type 0
Elsewhere file other = other ≢ file

-- a close of an open on a file
closed-kept : (client file_id : ℕ) (gone : Open) (progress : Progress) → IsSound progress.server
    → connected_open progress.server client file_id ≡ Some gone
    → Kept (Elsewhere gone.file) progress (opens_dropped (λ one. one.file_id == file_id) progress)
closed-kept client file_id gone progress s e =
    let x = connected_has progress.server client file_id gone e in
    let other : (one : Open) → Among one progress.server.opens → one.file ≢ gone.file → one.file_id ≢ file_id = λ one a away same.
    away (ap (λ o. o.file) (one_id progress.server.opens one gone s.in_order a x.0 (same ∙ sym x.1))) in
    let safe : (id : ℕ) → id ≢ file_id → not (id == file_id) ≡ true = λ id differs.
    ap not (not_true (id == file_id) (λ t. differs ((Decides-eqb id file_id).0 t))) in
    record {
      rules = refl;
      stands = λ k one a h up b away.
          let there = among_filtered (λ y. not (y.file_id == file_id)) one progress.server.opens a
          (safe one.file_id (other one a away)) in (
            there,
            left_here progress.server.leases (without (λ y. y.file_id == file_id) progress.server.opens) k one there h,
          );
      finds = λ c id one found away.
          let y = connected_has progress.server c id one found in
          find_kept (λ z. z.file_id == id && z.client == c && z.connected) (λ z. not (z.file_id == file_id)) progress.server.opens
          (λ z t. let same = (Decides-eqb z.file_id id).0 (and_parts (z.file_id == id) (z.client == c)
          (and_parts (z.file_id == id && z.client == c) z.connected t).0).0 in
          safe z.file_id (λ q. other one y.0 away (y.1 ∙ sym same ∙ q))) ∙ found;
    }

-- The end of a try of a request about a file: what has to wait on other files goes on, and where nothing is closed,
-- what has to wait anywhere.
record IsKeptBy (before : Server) (request : FileRequest) (after : Server) : Type 0 where
  elsewhere : (file : ℕ) → IsAbout before file request → Keeps (Elsewhere file) before after
  anywhere : IsAlone request → Keeps Anywhere before after

kept_everywhere : (request : FileRequest) (before after : Server) → Keeps Anywhere before after → IsKeptBy before request after
kept_everywhere request before after k = grind arith

ends_keep : (client : ℕ) (progress : Progress) → IsSound progress.server
    → HasEnds client progress (λ request outcome after. IsKeptBy progress.server request after.server)
ends_keep client progress s = record {
  refused = λ request status. kept_everywhere request progress.server _ (keeps-same Anywhere progress.server);
  left = λ request outcome why. kept_everywhere request progress.server _ (keeps-same Anywhere progress.server);
  full = λ file access share ask none out. kept_everywhere _ progress.server _ (keeps-same Anywhere progress.server);
  granted = λ file access share ask none room. kept_everywhere _ progress.server _
      (granted_with-kept client file access share ask.lease ask.durable progress);
  again = λ file access share ask file_id some. kept_everywhere _ progress.server _
      (reconnected-kept client file ask.lease file_id progress s);
  read = λ file_id one own. kept_everywhere _ progress.server _ (keeps-same Anywhere progress.server);
  changed = λ file_id number patch one own. kept_everywhere _ progress.server _
      (record { rules = refl; stands = λ key x a k up b g. (a, refl); finds = λ c id x e g. e });
  closed = λ file_id one own. record {
    elsewhere = λ file about. let dropped = opens_dropped (λ other. other.file_id == file_id) progress in
        subst (λ f. Keeps (Elsewhere f) progress.server dropped.server) (about.is_on_file one own.there own.id)
        (closed-kept client file_id one progress s own.found);
    anywhere = λ alone. absurd alone;
  };
}

pub concluded-kept : (client file : ℕ) (request : FileRequest) (progress : Progress) (outcome : Outcome)
    → IsSound progress.server → IsAbout progress.server file request
    → Kept (Elsewhere file) progress (concluded client request progress outcome)
concluded-kept client file request progress outcome s about =
    (any_end client progress _ (ends_keep client progress s) request outcome).elsewhere file about

-- the end of a try that closes nothing
pub concluded-open : (client : ℕ) (request : FileRequest) (progress : Progress) (outcome : Outcome)
    → IsSound progress.server → IsAlone request → Kept Anywhere progress (concluded client request progress outcome)
concluded-open client request progress outcome s alone =
    (any_end client progress _ (ends_keep client progress s) request outcome).anywhere alone
