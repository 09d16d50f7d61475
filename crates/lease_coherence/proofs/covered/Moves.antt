-- What the server does leaves each connected open of a client covered, what it uses connected, and what fails gone.
use Rattle.lease_laws.proofs.Words.{◌++◌, ◌+◌, ◌==◌, ◌∙◌, ◌∷◌, ◌≡◌, Access, Among, Client, CreateAsk, Fact, FileRequest, Key}
use Rattle.lease_laws.proofs.Words.{Lease, List, MayRefuse, None, Open, Patch, Reply, Request, Share, Some, Status, World, ℕ}
use Rattle.lease_laws.proofs.Words.{[], ⊎_elim, ⊤, ap, arith, connected_again, connected_open, eqb-true, false, inl, inr, is_up}
use Rattle.lease_laws.proofs.Words.{machine_key, new_open, put, refl, refusal_of, subst, sym, true, was_opened}
use Rattle.lease_laws.proofs.client.Thin.{put_same}
use Rattle.lease_laws.proofs.server.Lists.{among_append, among_map, either, if_cases}
use Rattle.lease_coherence.specs.Agreement.{asked_of}
use Rattle.lease_coherence.specs.Names.{Each, WasOpenedOn}
use Rattle.lease_coherence.specs.Standing.{AllAsked, IsNoClose}
use Rattle.lease_coherence.proofs.covered.Asked.{never_lost, off_closed}
use Rattle.lease_coherence.proofs.covered.CoveredOpens.{ClosedBefore, HasGrant, IsCovered, cover_by, grant_last, grant_more}
use Rattle.lease_coherence.proofs.creates.Creates.{off_rest}
use Rattle.lease_coherence.proofs.late.SafeWrites.{KnowsIds}
use Rattle.lease_coherence.proofs.moves.Deeds.{IsSource, changed_in, granted_in, granted_reply, reconnected_in}
use Rattle.lease_coherence.proofs.moves.Deeds.{reconnected_reply, told_to}
use Rattle.lease_coherence.proofs.moves.Frames.{from_source, lease_put_rest}
use Rattle.lease_coherence.proofs.names.NamedInRecord.{each_append, each_weaker}
use Rattle.lease_coherence.proofs.records.Later.{IsLater, later_fact, later_same, later_two}
use Rattle.lease_coherence.proofs.standing.StandingOpens.{asked_off, asked_weaker}

-- ---- opens in another world

-- an open that was there, and is connected where it was
pub record IsFrom (world : World) (x : Open) : Type 0 where
  pub was : Open
  pub there : Among was world.server.opens
  pub id : was.file_id ≡ x.file_id
  pub by : was.client ≡ x.client
  pub on : was.file ≡ x.file
  pub up : was.connected ≡ true → x.connected ≡ true

abbrev pub itself : (world : World) (x : Open) → Among x world.server.opens → IsFrom world x
itself world x there = record { was = x; there = there; id = refl; by = refl; on = refl; up = λ e. e }

-- what is opened under a FileId that was given was there
pub record KeepsOpens (world new : World) (c : ℕ) : Type 0 where
  pub later : IsLater world.past new.past
  pub from : (x : Open) → Among x new.server.opens → x.client ≡ c → WasOpenedOn c x.file_id world.past → IsFrom world x
  pub timely : (file : ℕ) → new.server.expired (machine_key new c file) ≡ false
      → world.server.expired (machine_key world c file) ≡ false

-- ---- what is used, and what fails

-- the open of a FileId that is used is connected, where it is there
pub record IsUsed (world : World) (c file_id : ℕ) : Type 0 where
  pub named : WasOpenedOn c file_id world.past
  pub up : (x : Open) → Among x world.server.opens → x.client ≡ c → x.file_id ≡ file_id
      → world.server.expired (machine_key world c x.file) ≡ false → x.connected ≡ true

abbrev pub UsesUp : World → ℕ → Request → Type 0
UsesUp world c (Request.OnFile (FileRequest.Read file_id)) = IsUsed world c file_id
UsesUp world c (Request.OnFile (FileRequest.Write file_id number patch)) = IsUsed world c file_id
UsesUp world c request = ⊤

-- that of a FileId that wasn't found isn't there
pub record IsLost (world : World) (c file_id : ℕ) : Type 0 where
  pub named : WasOpenedOn c file_id world.past
  pub gone : (x : Open) → Among x world.server.opens → x.client ≡ c → x.file_id ≡ file_id
      → world.server.expired (machine_key world c x.file) ≡ false → ⊥

abbrev pub FailsGone : World → ℕ → Reply → Type 0
FailsGone world c (Reply.ReadFailed file_id status) = status ≡ Status.FileClosed → IsLost world c file_id
FailsGone world c (Reply.WriteFailed file_id number status) = status ≡ Status.FileClosed → IsLost world c file_id
FailsGone world c reply = ⊤

named_on : (c : ℕ) (past new : List Fact) (id : ℕ) → IsLater past new → WasOpenedOn c id past → WasOpenedOn c id new
named_on c past new id later n = record { file = n.file; opened = later.opened id n.file c n.opened }

used_in : (world new : World) (c id : ℕ) → KeepsOpens world new c → IsUsed world c id → IsUsed new c id
used_in world new c id k u = record {
  named = named_on c world.past new.past id k.later u.named;
  up = λ x there by same fresh.
      let f = k.from x there by (subst (λ n. WasOpenedOn c n world.past) (sym same) u.named) in
      f.up (u.up f.was f.there (f.by ∙ by) (f.id ∙ same)
      (subst (λ n. world.server.expired (machine_key world c n) ≡ false) (sym f.on) (k.timely x.file fresh)));
}

pub uses_in : (world new : World) (c : ℕ) → KeepsOpens world new c → (request : Request) → UsesUp world c request
    → UsesUp new c request
uses_in world new c k (Request.OnFile (FileRequest.Read id)) u = used_in world new c id k u
uses_in world new c k (Request.OnFile (FileRequest.Write id number patch)) u = used_in world new c id k u
uses_in world new c k request u = tt

lost_in : (world new : World) (c id : ℕ) → KeepsOpens world new c → IsLost world c id → IsLost new c id
lost_in world new c id k l = record {
  named = named_on c world.past new.past id k.later l.named;
  gone = λ x there by same fresh.
      let f = k.from x there by (subst (λ n. WasOpenedOn c n world.past) (sym same) l.named) in
      l.gone f.was f.there (f.by ∙ by) (f.id ∙ same)
      (subst (λ n. world.server.expired (machine_key world c n) ≡ false) (sym f.on) (k.timely x.file fresh));
}

pub fails_in : (world new : World) (c : ℕ) → KeepsOpens world new c → (reply : Reply) → FailsGone world c reply
    → FailsGone new c reply
fails_in world new c k (Reply.ReadFailed id status) f = λ e. lost_in world new c id k (f e)
fails_in world new c k (Reply.WriteFailed id number status) f = λ e. lost_in world new c id k (f e)
fails_in world new c k reply f = tt

-- ---- one client

abbrev pub OpenCovered : World → ℕ → Open → Type 0
OpenCovered world c x = IsCovered ((world.clients c).entries x.file).phase x.file x.file_id
    (asked_of world c x.file) (world.replies c)

pub record HasCovered (world : World) (c : ℕ) : Type 0 where
  pub covers : (x : Open) → Among x world.server.opens → x.client ≡ c → x.connected ≡ true
      → world.server.expired (machine_key world c x.file) ≡ false → OpenCovered world c x
  pub uses : AllAsked (UsesUp world c) world c
  pub fails : Each (FailsGone world c) (world.replies c)

abbrev pub IsUpCovered : World → ℕ → Type 0
IsUpCovered world c = is_up (world.links c) ≡ true → HasCovered world c

-- an open's cover, where its client's machine is as it was
pub covered_in : (world new : World) (c : ℕ) (x : Open) → new.clients c ≡ world.clients c
    → (ClosedBefore x.file x.file_id (asked_of world c x.file) → ClosedBefore x.file x.file_id (asked_of new c x.file))
    → (HasGrant x.file x.file_id (world.replies c) → HasGrant x.file x.file_id (new.replies c))
    → OpenCovered world c x → OpenCovered new c x
covered_in world new c x machine closed granted o = subst
    (λ (m : Client). IsCovered (m.entries x.file).phase x.file x.file_id (asked_of new c x.file) (new.replies c)) (sym machine)
    (cover_by ((world.clients c).entries x.file).phase ((world.clients c).entries x.file).phase x.file x.file_id
    (asked_of world c x.file) (asked_of new c x.file) (world.replies c) (new.replies c)
    (λ u. inl u) closed (λ g. inr (inr (granted g))) o)

-- ---- a request is taken off

off_keeps : (world off : World) (c : ℕ) (request : FileRequest) → IsSource world off c request → KeepsOpens world off c
off_keeps world off c request source = from_source world off c request (λ o. KeepsOpens world o c) source (record {
  later = later_same world.past;
  from = λ x there by named. itself world x there;
  timely = λ file fresh. fresh;
})
    (λ file left. record {
      later = later_same world.past;
      from = λ x there by named. itself world x there;
      timely = λ file fresh. fresh;
    })

off_opens : (world off : World) (c : ℕ) (request : FileRequest) → IsSource world off c request
    → off.server.opens ≡ world.server.opens
off_opens world off c request source = from_source world off c request (λ o. o.server.opens ≡ world.server.opens) source
    refl (λ file left. refl)

-- what is left of a client's cover
pub record IsLeftCovered (off : World) (c : ℕ) (request : Request) : Type 0 where
  pub covers : (x : Open) → Among x off.server.opens → x.client ≡ c → x.connected ≡ true → IsNoClose x.file_id request
      → off.server.expired (machine_key off c x.file) ≡ false → OpenCovered off c x
  pub uses : AllAsked (UsesUp off c) off c
  pub used : UsesUp off c request
  pub fails : Each (FailsGone off c) (off.replies c)

pub off_covered : (world off : World) (c : ℕ) (request : FileRequest) → IsSource world off c request
    → HasCovered world c → IsLeftCovered off c (Request.OnFile request)
off_covered world off c request source h =
    let k = off_keeps world off c request source in
    let rest = off_rest world off c request source in
    let used = asked_off (UsesUp world c) world off c request source h.uses in record {
      covers = λ x there by up none fresh. covered_in world off c x (ap (λ (m : ℕ → Client). m c) rest.clients)
          (off_closed world off c request source x.file x.file_id none)
          (λ g. subst (λ (r : ℕ → List Reply). HasGrant x.file x.file_id (r c)) (sym rest.replies) g)
          (h.covers x (subst (λ (l : List Open). Among x l) (off_opens world off c request source) there) by up
          (k.timely x.file fresh));
      uses = asked_weaker (UsesUp world c) (UsesUp off c) off c (uses_in world off c k) used.0;
      used = uses_in world off c k (Request.OnFile request) used.1;
      fails = subst (λ (r : ℕ → List Reply). Each (FailsGone off c) (r c)) (sym rest.replies)
          (each_weaker (FailsGone world c) (FailsGone off c) (world.replies c) (fails_in world off c k) h.fails);
    }

-- ---- a reply, and nothing else

told_keeps : (world : World) (c : ℕ) (reply : Reply) → KeepsOpens world (told_to world c reply) c
told_keeps world c reply = record {
  later = later_fact world.past (Fact.Sent c);
  from = λ x there by named. itself world x there;
  timely = λ file fresh. fresh;
}

pub told_covered : (off : World) (c : ℕ) (request : Request) (reply : Reply) → FailsGone off c reply
    → ((x : Open) → Among x off.server.opens → x.client ≡ c → x.connected ≡ true
    → IsNoClose x.file_id request) → IsLeftCovered off c request → HasCovered (told_to off c reply) c
told_covered off c request reply fails none h =
    let new = told_to off c reply in
    let k = told_keeps off c reply in
    let sent = put_same off.replies c (off.replies c ++ reply ∷ []) in record {
      covers = λ x there by up fresh. covered_in off new c x refl (λ e. e)
          (λ g. subst (HasGrant x.file x.file_id) (sym sent) (grant_more x.file x.file_id (off.replies c) (reply ∷ []) g))
          (h.covers x there by up (none x there by up) fresh);
      uses = asked_weaker (UsesUp off c) (UsesUp new c) new c (uses_in off new c k)
          (record { queued = h.uses.queued; held = h.uses.held });
      fails = subst (Each (FailsGone new c)) (sym sent) (each_append (FailsGone new c) (off.replies c) (reply ∷ [])
          (each_weaker (FailsGone off c) (FailsGone new c) (off.replies c) (fails_in off new c k) h.fails)
          (fails_in off new c k reply fails, tt));
    }

-- a request that is refused
refused_lost : (off : World) (c id : ℕ) → IsUsed off c id → connected_open off.server c id ≡ None → IsLost off c id
refused_lost off c id u none = record {
  named = u.named;
  gone = λ x there by same fresh. never_lost off.server c id x there by same (u.up x there by same fresh) none;
}

pub refusal_gone : (off : World) (c : ℕ) (request : FileRequest) (status : Status)
    → MayRefuse off.server c request status → UsesUp off c (Request.OnFile request) → FailsGone off c (refusal_of request status)
refusal_gone off c (FileRequest.Read id) status may u = λ closed. refused_lost off c id u (may closed)
refusal_gone off c (FileRequest.Write id number patch) status may u = λ closed. refused_lost off c id u (may closed)
refusal_gone off c request status may u = tt

pub refusal_closes : (off : World) (c : ℕ) (request : FileRequest) (status : Status)
    → MayRefuse off.server c request status → (x : Open) → Among x off.server.opens → x.client ≡ c → x.connected ≡ true
    → IsNoClose x.file_id (Request.OnFile request)
refusal_closes off c (FileRequest.Close id) status may x there by up =
    λ same. never_lost off.server c id x there by (sym same) up may
refusal_closes off c request status may x there by up = tt

-- a file is changed
pub changed_covered : (off : World) (c file id number : ℕ) (patch : Patch)
    → IsLeftCovered off c (Request.OnFile (FileRequest.Write id number patch))
    → HasCovered (changed_in off c file id number patch) c
changed_covered off c file id number patch h =
    let new = changed_in off c file id number patch in
    let reply = Reply.WriteDone id number in
    let k : KeepsOpens off new c = record {
      later = later_two off.past (Fact.Changed file c number patch) (Fact.Sent c);
      from = λ x there by named. itself off x there;
      timely = λ at fresh. fresh;
    } in
    let sent = put_same off.replies c (off.replies c ++ reply ∷ []) in record {
      covers = λ x there by up fresh. covered_in off new c x refl (λ e. e)
          (λ g. subst (HasGrant x.file x.file_id) (sym sent) (grant_more x.file x.file_id (off.replies c) (reply ∷ []) g))
          (h.covers x there by up tt fresh);
      uses = asked_weaker (UsesUp off c) (UsesUp new c) new c (uses_in off new c k)
          (record { queued = h.uses.queued; held = h.uses.held });
      fails = subst (Each (FailsGone new c)) (sym sent) (each_append (FailsGone new c) (off.replies c) (reply ∷ [])
          (each_weaker (FailsGone off c) (FailsGone new c) (off.replies c) (fails_in off new c k) h.fails) (tt, tt));
    }

-- ---- grants

pub granted_covered : (off : World) (c file : ℕ) (access : Access) (share : Share) (ask : CreateAsk) (lease : Lease)
    → KnowsIds off c → IsLeftCovered off c (Request.OnFile (FileRequest.Create file access share (Some ask)))
    → HasCovered (granted_in off c file access share ask lease) c
granted_covered off c file access share ask lease ids h = lease_put_rest off.server c ask.lease lease
    (λ s. HasCovered (record off {
      server = record s {
        opens = off.server.opens ++ new_open off.server c file access share ask.lease ask.durable lease ∷ [];
        last_id = off.server.last_id + 1;
      };
      replies = put off.replies c (off.replies c ++ granted_reply off.server file ask lease ∷ []);
      past = Fact.Sent c ∷ Fact.Opened file c ∷ off.past;
    }) c)
    (λ leases. by_leases leases)
  where
    one : Open
    one = new_open off.server c file access share ask.lease ask.durable lease

    reply : Reply
    reply = granted_reply off.server file ask lease

    in_world : (leases : Key → Lease) → World
    in_world leases = record off {
      server = record off.server {
        leases = leases;
        opens = off.server.opens ++ one ∷ [];
        last_id = off.server.last_id + 1;
      };
      replies = put off.replies c (off.replies c ++ reply ∷ []);
      past = Fact.Sent c ∷ Fact.Opened file c ∷ off.past;
    }

    keeps : (leases : Key → Lease) → KeepsOpens off (in_world leases) c
    keeps leases = record {
      later = later_two off.past (Fact.Opened file c) (Fact.Sent c);
      from = λ x there by named. ⊎_elim (λ old. itself off x old)
          (λ new. ⊎_elim (λ same. absurd (omega (
            arith,
            ap (λ (o : Open). o.file_id) same,
            ids.low x.file_id named.file named.opened,
          ))) (λ none. absurd none) new) (among_append x off.server.opens (one ∷ []) there);
      timely = λ at fresh. fresh;
    }

    by_leases : (leases : Key → Lease) → HasCovered (in_world leases) c
    by_leases leases =
        let new = in_world leases in
        let k = keeps leases in
        let sent = put_same off.replies c (off.replies c ++ reply ∷ []) in record {
          covers = λ x there by up fresh. ⊎_elim
              (λ old. covered_in off new c x refl (λ e. e)
              (λ g. subst (HasGrant x.file x.file_id) (sym sent) (grant_more x.file x.file_id (off.replies c) (reply ∷ []) g))
              (h.covers x old by up tt fresh))
              (λ last. ⊎_elim (λ same. subst (λ (o : Open). OpenCovered new c o) (sym same)
              (inr (inr (subst (HasGrant file (off.server.last_id + 1)) (sym sent)
              (grant_last file (off.server.last_id + 1) (off.replies c) reply (refl, refl)))))) (λ none. absurd none) last)
              (among_append x off.server.opens (one ∷ []) there);
          uses = asked_weaker (UsesUp off c) (UsesUp new c) new c (uses_in off new c k)
              (record { queued = h.uses.queued; held = h.uses.held });
          fails = subst (Each (FailsGone new c)) (sym sent) (each_append (FailsGone new c) (off.replies c) (reply ∷ [])
              (each_weaker (FailsGone off c) (FailsGone new c) (off.replies c) (fails_in off new c k) h.fails) (tt, tt));
        }

-- a durable open is connected again
again_from : (off : World) (c id : ℕ) (y : Open) → Among y off.server.opens → IsFrom off (connected_again id y)
again_from off c id y there = if_cases (λ x. IsFrom off x) (y.file_id == id) (record y { connected = true }) y
    (λ same. record { was = y; there = there; id = refl; by = refl; on = refl; up = λ e. refl })
    (λ other. itself off y there)

pub reconnected_covered : (off : World) (c file : ℕ) (access : Access) (share : Share) (ask : CreateAsk) (id : ℕ)
    → KnowsIds off c → was_opened id file c off.past ≡ true
    → IsLeftCovered off c (Request.OnFile (FileRequest.Create file access share (Some ask)))
    → HasCovered (reconnected_in off c file ask id) c
reconnected_covered off c file access share ask id ids opened h = record {
  covers = λ x there by up fresh. let m = among_map (connected_again id) x off.server.opens there in
      covered x m.0 m.1 m.2 by up fresh;
  uses = asked_weaker (UsesUp off c) (UsesUp new c) new c (uses_in off new c keeps)
      (record { queued = h.uses.queued; held = h.uses.held });
  fails = subst (Each (FailsGone new c)) (sym sent) (each_append (FailsGone new c) (off.replies c) (reply ∷ [])
      (each_weaker (FailsGone off c) (FailsGone new c) (off.replies c) (fails_in off new c keeps) h.fails) (tt, tt));
}
  where
    new : World
    new = reconnected_in off c file ask id

    reply : Reply
    reply = reconnected_reply off.server c file ask id

    sent : put off.replies c (off.replies c ++ reply ∷ []) c ≡ off.replies c ++ reply ∷ []
    sent = put_same off.replies c (off.replies c ++ reply ∷ [])

    keeps : KeepsOpens off (reconnected_in off c file ask id) c
    keeps = record {
      later = later_fact off.past (Fact.Sent c);
      from = λ x there by named. let m = among_map (connected_again id) x off.server.opens there in
          subst (IsFrom off) (sym m.2) (again_from off c id m.0 m.1);
      timely = λ at fresh. fresh;
    }

    covered : (x y : Open) → Among y off.server.opens → x ≡ connected_again id y → x.client ≡ c → x.connected ≡ true
        → off.server.expired (machine_key off c x.file) ≡ false → OpenCovered (reconnected_in off c file ask id) c x
    covered x y there is by up fresh = either (y.file_id == id)
        (λ here. let same : y.file_id ≡ id = eqb-true y.file_id id here in
        let now : x ≡ record y { connected = true } = is ∙ rw (here) refl in
        let on : y.file ≡ file = (ids.on id file opened y there same).0 in
        inr (inr (subst (HasGrant x.file x.file_id) (sym sent) (grant_last x.file x.file_id (off.replies c) reply
        (sym (ap (λ (o : Open). o.file) now ∙ on), sym (ap (λ (o : Open). o.file_id) now ∙ same))))))
        (λ other. let now : x ≡ y = is ∙ rw (other) refl in
        covered_in off (reconnected_in off c file ask id) c x refl (λ e. e)
        (λ g. subst (HasGrant x.file x.file_id) (sym sent) (grant_more x.file x.file_id (off.replies c) (reply ∷ []) g))
        (h.covers x (subst (λ o. Among o off.server.opens) (sym now) there) by up tt fresh))
