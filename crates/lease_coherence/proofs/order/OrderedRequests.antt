-- What a client asks about a file, in its order: what is held first, then what is on its way. No write stands after a
-- Close of its open.
use Rattle.lease_laws.proofs.Words.{◌++◌, ◌==◌, ◌∙◌, ◌∷◌, ◌≡◌, ◌≢◌, FileRequest, Held, List, Request, World, ℕ, []}
use Rattle.lease_laws.proofs.Words.{⊎_elim, ⊤, ap, eq-eqb, eqb-true, false, held_of, is_behind, is_up, put, refl, subst, sym}
use Rattle.lease_laws.proofs.Words.{true, true≢false, was_opened}
use Rattle.lease_laws.proofs.Words.{Among, Rules, list_any}
use Rattle.lease_laws.proofs.Words.{Lane}
use Rattle.lease_laws.proofs.Words.{file_asked, inl, lease_key, waits_behind}
use Rattle.lease_laws.proofs.Words.{Ok}
use Rattle.lease_laws.proofs.Words.{and_parts}
use Rattle.lease_laws.proofs.Words.{as_held}
use Rattle.lease_laws.proofs.Words.{same_lane}
use Rattle.lease_laws.proofs.Words.{ap₂}
use Rattle.lease_laws.proofs.Words.{bytes_eq-Decides}
use Rattle.lease_laws.proofs.client.Thin.{put_other, put_same}
use Rattle.lease_laws.proofs.server.Lists.{clash, either}
use Rattle.lease_laws.proofs.server.Lists.{among_behind, among_filtered, has_none, or_true}
use Rattle.lease_laws.proofs.server.Lists.{among_before, and_both, not_true}
use Rattle.lease_laws.proofs.server.Lists.{has_any, or_of_true}
use Rattle.lease_state.specs.Rules.{is_by_client}
use Rattle.lease_coherence.specs.Agreement.{as_requests, asked_of}
use Rattle.lease_coherence.specs.Creates.{held_by}
use Rattle.lease_coherence.specs.Names.{Each}
use Rattle.lease_coherence.specs.Names.{IsNamedAt}
use Rattle.lease_coherence.specs.Names.{IsNamedOnFile}
use Rattle.lease_coherence.specs.Names.{IsNamedRequest}
use Rattle.lease_coherence.specs.Standing.{AllAsked, IsNoClose, Stands}
use Rattle.lease_coherence.proofs.names.NamedInRecord.{none_pass}
use Rattle.lease_coherence.proofs.names.Names.{own_lane}
use Rattle.lease_coherence.proofs.moves.Deeds.{IsSource, held_in, with_held}
use Rattle.lease_coherence.proofs.moves.Deeds.{HasArrived, WasHeld}
use Rattle.lease_coherence.proofs.moves.Events.{chosen}
use Rattle.lease_coherence.proofs.moves.Moves.{IsOldest, popped, rest_of}
use Rattle.lease_coherence.proofs.names.NamedInRecord.{each_append}
use Rattle.lease_coherence.proofs.names.NamedInRecord.{none_pass}

-- ---- lists of requests

abbrev pub IsNoWrite : ℕ → Request → Type 0
IsNoWrite file_id (Request.OnFile (FileRequest.Write other number patch)) = other ≢ file_id
IsNoWrite file_id request = ⊤

-- what has to be behind a request
abbrev pub Allows : Request → List Request → Type 0
Allows (Request.OnFile (FileRequest.Close file_id)) behind = Each (IsNoWrite file_id) behind
Allows request behind = ⊤

abbrev pub AreOrdered : List Request → Type 0
AreOrdered [] = ⊤
AreOrdered (request ∷ behind) = Allows request behind × AreOrdered behind

each_part : {X : Type 0} (P : X → Type 0) (xs ys : List X) → Each P (xs ++ ys) → Each P xs × Each P ys
each_part P [] ys e = (tt, e)
each_part P (x ∷ xs) ys e = let r = each_part P xs ys e.1 in ((e.0, r.0), r.1)

each_less : {X : Type 0} (P : X → Type 0) (xs ys : List X) (x : X) → Each P (xs ++ x ∷ ys) → Each P (xs ++ ys)
each_less P xs ys x e = let r = each_part P xs (x ∷ ys) e in let behind = r.1 in
    each_append P xs ys r.0 behind.1

allows_less : (request : Request) (xs ys : List Request) (x : Request) → Allows request (xs ++ x ∷ ys) → Allows request (xs ++ ys)
allows_less (Request.OnFile (FileRequest.Close file_id)) xs ys x a = each_less (IsNoWrite file_id) xs ys x a
allows_less request xs ys x a = tt

-- one less
pub ordered_less : (xs ys : List Request) (x : Request) → AreOrdered (xs ++ x ∷ ys) → AreOrdered (xs ++ ys)
ordered_less [] ys x o = o.1
ordered_less (request ∷ xs) ys x o = (allows_less request xs ys x o.0, ordered_less xs ys x o.1)

-- behind a first part
pub ordered_behind : (xs ys : List Request) → AreOrdered (xs ++ ys) → AreOrdered ys
ordered_behind [] ys o = o
ordered_behind (request ∷ xs) ys o = ordered_behind xs ys o.1

-- writes whose opens no request before closes
abbrev pub IsOpenIn : List Request → Request → Type 0
IsOpenIn before (Request.OnFile (FileRequest.Write file_id number patch)) = Each (IsNoClose file_id) before
IsOpenIn before request = ⊤

no_write_of : (file_id : ℕ) (before behind : List Request)
    → Each (IsOpenIn (Request.OnFile (FileRequest.Close file_id) ∷ before)) behind → Each (IsNoWrite file_id) behind
no_write_of file_id before [] each = tt
no_write_of file_id before (Request.OnFile (FileRequest.Write other number patch) ∷ behind) each =
    (λ e. (each.0).0 (sym e), no_write_of file_id before behind each.1)
no_write_of file_id before (Request.OnFile (FileRequest.Create file access share contexts) ∷ behind) each =
    (tt, no_write_of file_id before behind each.1)
no_write_of file_id before (Request.OnFile (FileRequest.Read other) ∷ behind) each =
    (tt, no_write_of file_id before behind each.1)
no_write_of file_id before (Request.OnFile (FileRequest.Close other) ∷ behind) each =
    (tt, no_write_of file_id before behind each.1)
no_write_of file_id before (Request.Acknowledge given ∷ behind) each = (tt, no_write_of file_id before behind each.1)

open_less : (x : Request) (before behind : List Request) → Each (IsOpenIn (x ∷ before)) behind → Each (IsOpenIn before) behind
open_less x before [] each = tt
open_less x before (Request.OnFile (FileRequest.Write other number patch) ∷ behind) each =
    let first = each.0 in (first.1, open_less x before behind each.1)
open_less x before (Request.OnFile (FileRequest.Create file access share contexts) ∷ behind) each =
    (tt, open_less x before behind each.1)
open_less x before (Request.OnFile (FileRequest.Read other) ∷ behind) each = (tt, open_less x before behind each.1)
open_less x before (Request.OnFile (FileRequest.Close other) ∷ behind) each = (tt, open_less x before behind each.1)
open_less x before (Request.Acknowledge given ∷ behind) each = (tt, open_less x before behind each.1)

allows_more : (request : Request) (xs more : List Request) → Allows request xs → Each (IsOpenIn (request ∷ xs)) more
    → Allows request (xs ++ more)
allows_more (Request.OnFile (FileRequest.Close file_id)) xs more a each =
    each_append (IsNoWrite file_id) xs more a (no_write_of file_id xs more each)
allows_more request xs more a each = tt

-- and more, of which no write is closed before
pub ordered_more : (xs more : List Request) → AreOrdered xs → AreOrdered more → Each (IsOpenIn xs) more → AreOrdered (xs ++ more)
ordered_more [] more o p each = p
ordered_more (request ∷ xs) more o p each =
    (allows_more request xs more o.0 each, ordered_more xs more o.1 p (open_less request xs more each))

-- ---- held requests

pub as_append : (held more : List Held) → as_requests (held ++ more) ≡ as_requests held ++ as_requests more
as_append [] more = refl
as_append (one ∷ held) more = ap (λ l. Request.OnFile one.request ∷ l) (as_append held more)

pub held_append : (c : ℕ) (held more : List Held) → held_by c (held ++ more) ≡ held_by c held ++ held_by c more
held_append c [] more = refl
held_append c (one ∷ held) more = either (one.client == c)
    (λ e. rw (e) (ap (λ l. one ∷ l) (held_append c held more))) (λ e. rw (e) (held_append c held more))

pub append_three : {X : Type 0} (xs ys zs : List X) → (xs ++ ys) ++ zs ≡ xs ++ (ys ++ zs)
append_three [] ys zs = refl
append_three (x ∷ xs) ys zs = ap (λ l. x ∷ l) (append_three xs ys zs)

-- one of the client's among the held ones
pub asked_among : (c : ℕ) (before behind : List Held) (one : Held) (queue : List Request) → (one.client == c) ≡ true
    → as_requests (held_by c (before ++ one ∷ behind)) ++ queue
    ≡ as_requests (held_by c before) ++ Request.OnFile one.request ∷ (as_requests (held_by c behind) ++ queue)
asked_among c before behind one queue own = ap (λ l. as_requests l ++ queue) (held_append c before (one ∷ behind)
    ∙ ap (λ l. held_by c before ++ l) (chosen (one.client == c) (one ∷ held_by c behind) (held_by c behind) own))
    ∙ ap (λ l. l ++ queue) (as_append (held_by c before) (one ∷ held_by c behind))
    ∙ append_three (as_requests (held_by c before)) (Request.OnFile one.request ∷ as_requests (held_by c behind)) queue

pub asked_left : (c : ℕ) (before behind : List Held) (queue : List Request) → as_requests (held_by c (before ++ behind)) ++ queue
    ≡ as_requests (held_by c before) ++ (as_requests (held_by c behind) ++ queue)
asked_left c before behind queue = ap (λ l. as_requests l ++ queue) (held_append c before behind)
    ∙ ap (λ l. l ++ queue) (as_append (held_by c before) (held_by c behind))
    ∙ append_three (as_requests (held_by c before)) (as_requests (held_by c behind)) queue

-- ---- requests that leave

pub popped_ordered : (world : World) (c file : ℕ) (request : Request) → IsOldest world c request
    → AreOrdered (asked_of world c file) → AreOrdered (asked_of (popped world c) c file)
popped_ordered world c file request oldest o =
    let held = as_requests (held_by c (world.server.held file)) in
    subst (λ q. AreOrdered (held ++ q))
    (sym (put_same world.requests c (rest_of (world.requests c)) ∙ ap rest_of oldest.is_first))
    (ordered_less held oldest.queue request (subst (λ q. AreOrdered (held ++ q)) oldest.is_first o))

left_ordered : (world : World) (c file at : ℕ) (before behind : List Held) (one : Held) → (one.client == c) ≡ true
    → world.server.held at ≡ before ++ one ∷ behind → AreOrdered (asked_of world c file)
    → AreOrdered (asked_of (with_held world at (before ++ behind)) c file)
left_ordered world c file at before behind one own held o = either (file == at)
    (λ here. let same = eqb-true file at here in
    subst (λ l. AreOrdered (as_requests (held_by c l) ++ world.requests c))
    (sym (ap (put world.server.held at (before ++ behind)) same ∙ put_same world.server.held at (before ++ behind)))
    (subst AreOrdered (sym (asked_left c before behind (world.requests c)))
    (ordered_less (as_requests (held_by c before)) (as_requests (held_by c behind) ++ world.requests c)
    (Request.OnFile one.request) (subst AreOrdered (asked_among c before behind one (world.requests c) own)
    (subst (λ l. AreOrdered (as_requests (held_by c l) ++ world.requests c)) (ap world.server.held same ∙ held) o)))))
    (λ there. subst (λ l. AreOrdered (as_requests (held_by c l) ++ world.requests c))
    (sym (put_other world.server.held at (before ++ behind) file
    (λ e. clash (file == at) (eq-eqb file at e) there))) o)

pub off_ordered : (world off : World) (c file : ℕ) (request : FileRequest) → IsSource world off c request
    → AreOrdered (asked_of world c file) → AreOrdered (asked_of off c file)
off_ordered world off c file request source o = ⊎_elim
    (λ a. subst (λ x. AreOrdered (asked_of x c file)) (sym a.is_off)
    (popped_ordered world c file (Request.OnFile request) a.oldest o))
    (λ h. subst (λ x. AreOrdered (asked_of x c file)) (sym h.is_off)
    (left_ordered world c file h.file h.before h.behind (held_of c request h.lane) (eq-eqb c c refl) h.held o)) source.from

-- Requests of a client's machine on a file are of one lane, so that one waits behind each earlier one, by client or by key.
waits_behind_own : (rules : Rules) (one x : Held) (key : List ℕ) → x.client ≡ one.client → x.lane ≡ Lane.Leased key
    → one.lane ≡ Lane.Leased key → waits_behind rules one x ≡ true
waits_behind_own rules one x key by of own = and_both (x.client == one.client) _ (eq-eqb x.client one.client by)
    (or_of_true (is_by_client rules.order) (same_lane x.lane one.lane)
    (ap₂ same_lane of own ∙ (bytes_eq-Decides key key).1 refl))

-- so one that waits behind none has none of the client's before it
pub none_behind : (rules : Rules) (c : ℕ) (one : Held) (key : List ℕ) (held : List Held) → one.client ≡ c
    → one.lane ≡ Lane.Leased key → ((x : Held) → Among x held → x.client ≡ c → x.lane ≡ Lane.Leased key)
    → is_behind rules one held ≡ false → held_by c held ≡ []
none_behind rules c one key held by lane lanes none = none_pass (λ x. x.client == c) held (λ x a. not_true (x.client == c) (λ own.
    let mine = eqb-true x.client c own in
    clash (is_behind rules one held) (has_any (waits_behind rules one) x held a
    (waits_behind_own rules one x key (mine ∙ sym by) (lanes x a mine) lane)) none))

-- a request in its turn has none of its client's before it on its file
pub none_there : (world off : World) (c file : ℕ) (request : FileRequest) → IsNamedAt world c
    → HasArrived world off c request → file_asked world.server c request ≡ Ok file → held_by c (world.server.held file) ≡ []
none_there world off c file request n a asked =
    let named : IsNamedOnFile c (world.clients c).guid world.past request =
    (subst (Each (IsNamedRequest c (world.clients c).guid world.past)) a.oldest.is_first n.requests).0 in
    none_behind world.server.rules c (as_held world.server c request) (lease_key (world.clients c).guid file)
    (world.server.held file) refl (own_lane world c file request n named asked)
    (λ x there by. (n.held file x there by).lane) (a.in_turn file asked)

pub none_before : (world off : World) (c : ℕ) (request : FileRequest) → IsNamedAt world c
    → (h : WasHeld world off c request) → held_by c h.before ≡ []
none_before world off c request n h =
    let one = held_of c request h.lane in
    let among : (x : Held) → Among x (h.before ++ one ∷ h.behind) → Among x (world.server.held h.file) =
    λ x a. subst (λ (l : List Held). Among x l) (sym h.held) a in
    none_behind world.server.rules c one (lease_key (world.clients c).guid h.file) h.before refl
    (n.held h.file one (among one (among_behind one h.before (one ∷ h.behind) (inl refl))) refl).lane
    (λ x a by. (n.held h.file x (among x (among_before x h.before (one ∷ h.behind) a)) by).lane) h.in_turn

-- none of the client's is there
pub none_own : (c : ℕ) (held : List Held) (x : Held) → held_by c held ≡ [] → Among x held → x.client ≡ c → ⊥
none_own c held x none a own = subst (λ (l : List Held). Among x l) none
    (among_filtered (λ (y : Held). y.client == c) x held a (eq-eqb x.client c own))

-- the first that is held of a client
pub record IsFirstOf (c : ℕ) (held : List Held) : Type 0 where
  pub before : List Held
  pub one : Held
  pub behind : List Held
  pub split : held ≡ before ++ one ∷ behind
  pub own : one.client ≡ c
  pub none : (x : Held) → Among x before → (x.client == c) ≡ false

pub first_of : (c : ℕ) (held : List Held) → list_any (λ (x : Held). x.client == c) held ≡ true → IsFirstOf c held
first_of c [] e = absurd (true≢false (sym e))
first_of c (y ∷ held) e = either (y.client == c)
    (λ own. record {
      before = [];
      one = y;
      behind = held;
      split = refl;
      own = eqb-true y.client c own;
      none = λ x never. absurd never;
    })
    (λ other.
    let later = first_of c held (⊎_elim (λ own. clash (y.client == c) own other) (λ some. some)
    (or_true (y.client == c) (list_any (λ (x : Held). x.client == c) held) e)) in record {
      before = y ∷ later.before;
      one = later.one;
      behind = later.behind;
      split = ap (λ (l : List Held). y ∷ l) later.split;
      own = later.own;
      none = λ x. ⊎_elim (λ same. ap (λ (h : Held). h.client == c) same ∙ other) (later.none x);
    })

-- it waits behind none, by client or by key
pub first_waits_behind_none : (rules : Rules) (c : ℕ) (held : List Held) (f : IsFirstOf c held)
    → is_behind rules f.one f.before ≡ false
first_waits_behind_none rules c held f = has_none (waits_behind rules f.one) f.before (λ x a.
    not_true (waits_behind rules f.one x) (λ waits. clash (x.client == (f.one).client)
    (and_parts (x.client == (f.one).client) _ waits).0
    (ap (λ d. x.client == d) f.own ∙ f.none x a)))

pub first_among : (c : ℕ) (held : List Held) (f : IsFirstOf c held) → Among f.one held
first_among c held f = subst (λ (l : List Held). Among f.one l) (sym f.split)
    (among_behind f.one f.before (f.one ∷ f.behind) (inl refl))

-- a request is held: of its file the order stays, of others there is one less
pub held_ordered : (world : World) (at : ℕ) (one : Held) → IsOldest world one.client (Request.OnFile one.request)
    → (file : ℕ) → AreOrdered (asked_of world one.client file)
    → AreOrdered (asked_of (held_in (popped world one.client) at one) one.client file)
held_ordered world at one oldest file o =
    let c = one.client in
    let left : (popped world c).requests c ≡ oldest.queue =
    put_same world.requests c (rest_of (world.requests c)) ∙ ap rest_of oldest.is_first in
    either (file == at)
    (λ here. let same = eqb-true file at here in
    subst (λ l. AreOrdered (as_requests (held_by c l) ++ (popped world c).requests c))
    (sym (ap (put world.server.held at (world.server.held at ++ one ∷ [])) same
    ∙ put_same world.server.held at (world.server.held at ++ one ∷ [])))
    (subst (λ q. AreOrdered (as_requests (held_by c (world.server.held at ++ one ∷ [])) ++ q)) (sym left)
    (subst AreOrdered (sym (asked_among c (world.server.held at) [] one oldest.queue (eq-eqb c c refl)))
    (subst (λ q. AreOrdered (as_requests (held_by c (world.server.held at)) ++ q)) oldest.is_first
    (subst (λ n. AreOrdered (asked_of world c n)) same o)))))
    (λ there. subst (λ l. AreOrdered (as_requests (held_by c l) ++ (popped world c).requests c))
    (sym (put_other world.server.held at (world.server.held at ++ one ∷ []) file
    (λ e. clash (file == at) (eq-eqb file at e) there))) (popped_ordered world c file (Request.OnFile one.request) oldest o))

-- ---- one client

-- the open of a write stands, on the file of which the record tells
pub record WriteStandsOn (world : World) (c file_id : ℕ) : Type 0 where
  pub file : ℕ
  pub opened : was_opened file_id file c world.past ≡ true
  pub stands : Stands world c file file_id

abbrev pub WriteStands : World → ℕ → Request → Type 0
WriteStands world c (Request.OnFile (FileRequest.Write file_id number patch)) = WriteStandsOn world c file_id
WriteStands world c request = ⊤

pub record IsInOrder (world : World) (c : ℕ) : Type 0 where
  pub ordered : (file : ℕ) → AreOrdered (asked_of world c file)
  pub stands : AllAsked (WriteStands world c) world c

abbrev pub IsUpInOrder : World → ℕ → Type 0
IsUpInOrder world c = is_up (world.links c) ≡ true → IsInOrder world c
