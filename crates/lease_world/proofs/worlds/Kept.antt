-- Messages that are kept with what happens.
use Rattle.lease_laws.proofs.Words.{◌++◌, ◌∙◌, ◌≡◌, Bool, Call, CallHasFullKey, List, None, Option, Progress, Reply, Some}
use Rattle.lease_laws.proofs.Words.{World, []}
use Rattle.lease_laws.proofs.Words.{ap, append-nil, append_assoc, arith, called, false, if◌then◌else◌, map, map-append}
use Rattle.lease_laws.proofs.Words.{option_map, refl}
use Rattle.lease_laws.proofs.Words.{reply_of, sym, true, unwrap_or}
use Rattle.lease_laws.proofs.messages.ReadBack as readback
use Rattle.lease_laws.proofs.messages.ServerBytes.{replies_have_bytes}
use Rattle.lease_state.specs.declared.reply.Reply as code
use Rattle.lease_world.specs.world.Kept.{IfKept}
use Rattle.lease_world.specs.world.Messages.{sent_by}
use Rattle.lease_world.specs.world.Seats.{HasKept, replies_among}
use Rattle.lease_world.specs.world.Stands.{CodeWorld, Stands}
use Rattle.lease_world.specs.world.Worlds.{messages_kept, Keeps, KeepsBehind, IsQuiet}
use Rattle.lease_world.proofs.worlds.Delivered.{replies_given}
use Rattle.share_server.specs.Outs.{IsAfter}
use Rattle.share_server.specs.Table.{server_of}
use Rattle.share_server.specs.Written.{out_written}
use Rattle.share_server.specs.declared.values.out.Out as out

with_none : (o : Option (List Reply)) → o ≡ option_map (λ replies. replies ++ []) o
with_none None = refl
with_none (Some replies) = ap (λ (rs : List Reply). Some rs) (sym (append-nil replies))

pub quiet_keeps : (old new : CodeWorld) → IsQuiet old new → Keeps [] old new
quiet_keeps old new quiet =
    ap (λ (o : Option (List code.Reply)). option_map (map reply_of) o) quiet ∙ with_none (messages_kept old)

behind_both : (o : Option (List Reply)) (xs ys : List Reply)
    → option_map (λ replies. replies ++ ys) (option_map (λ replies. replies ++ xs) o)
    ≡ option_map (λ replies. replies ++ (xs ++ ys)) o
behind_both None xs ys = refl
behind_both (Some replies) xs ys = ap (λ (rs : List Reply). Some rs) (append_assoc replies xs ys)

-- what is kept with one thing, and then with another
pub keeps_both : (old middle new : CodeWorld) (xs ys : List Reply) → Keeps xs old middle → Keeps ys middle new
    → Keeps (xs ++ ys) old new
keeps_both old middle new xs ys a b =
    b ∙ (ap (λ (o : Option (List Reply)). option_map (λ replies. replies ++ ys) o) a ∙ behind_both (messages_kept old) xs ys)

-- nothing is kept before it
pub quiet_first : (old middle new : CodeWorld) (more : List Reply) → IsQuiet old middle → Keeps more middle new
    → Keeps more old new
quiet_first old middle new more quiet keeps = keeps_both old middle new [] more (quiet_keeps old middle quiet) keeps

-- nothing is kept after it
pub quiet_last : (old middle new : CodeWorld) (more : List Reply) → Keeps more old middle → IsQuiet middle new
    → Keeps more old new
quiet_last old middle new more keeps quiet = grind arith

as_rules : (o : Option (List code.Reply)) (more : List code.Reply)
    → option_map (map reply_of) (option_map (λ kept. kept ++ more) o)
    ≡ option_map (λ replies. replies ++ map reply_of more) (option_map (map reply_of) o)
as_rules None more = refl
as_rules (Some kept) more = ap (λ (rs : List Reply). Some rs) (map-append reply_of kept more)

pub kept_keeps : (old new : CodeWorld) (more : List code.Reply) → HasKept old.messages new.messages more
    → Keeps (map reply_of more) old new
kept_keeps old new more kept =
    ap (λ (o : Option (List code.Reply)). option_map (map reply_of) o) kept ∙ as_rules old.messages more

-- ---- behind messages that were kept first

pub behind_none : (old : CodeWorld) (kept : Option (List code.Reply)) → old.messages ≡ kept → KeepsBehind kept [] old
behind_none old kept e = ap (λ (o : Option (List code.Reply)). option_map (map reply_of) o) e ∙ go kept
  where
    go : (o : Option (List code.Reply)) → option_map (map reply_of) o ≡ option_map (λ kept. map reply_of kept ++ []) o
    go None = refl
    go (Some replies) = ap (λ (rs : List Reply). Some rs) (sym (append-nil (map reply_of replies)))

pub behind_more : (old new : CodeWorld) (kept : Option (List code.Reply)) (xs ys : List Reply) → KeepsBehind kept xs old
    → Keeps ys old new → KeepsBehind kept (xs ++ ys) new
behind_more old new kept xs ys a b = b ∙ (ap (λ (o : Option (List Reply)). option_map (λ replies. replies ++ ys) o) a ∙ go kept)
  where
    go : (o : Option (List code.Reply)) → option_map (λ replies. replies ++ ys) (option_map (λ kept. map reply_of kept ++ xs) o)
        ≡ option_map (λ kept. map reply_of kept ++ (xs ++ ys)) o
    go None = refl
    go (Some replies) = ap (λ (rs : List Reply). Some rs) (append_assoc (map reply_of replies) xs ys)

-- ---- the server

-- a call of the server, which keeps what it sends
pub served_keeps : (old new : CodeWorld) (call : Call) (outs : List out.Out)
    → IsAfter new.server outs (called (server_of old.server) call) → HasKept old.messages new.messages (replies_among outs)
    → CallHasFullKey call → (world : World) → Stands old world → Keeps (sent_by world call) old new
served_keeps old new call outs after kept keyed world s =
    let progress : Progress = called world.server call in
    let same : called (server_of old.server) call ≡ progress = ap (λ server. called server call) s.server in
    let given : outs ≡ map out_written progress.outs = after.outs ∙ ap (λ (p : Progress). map out_written p.outs) same in
    let bytes = replies_have_bytes world.server call s.sound s.waiting s.keys keyed in
    let sent : map reply_of (replies_among outs) ≡ sent_by world call =
    ap (λ (os : List out.Out). map reply_of (replies_among os)) given
    ∙ replies_given readback.replies_back progress.outs bytes.0 in
    kept_keeps old new (replies_among outs) kept
    ∙ ap (λ (rs : List Reply). option_map (λ replies. replies ++ rs) (messages_kept old)) sent

-- ---- what a run keeps, where that is asked for

-- nothing, before it
pub kept_none : {X : Type 0} (b : Bool) (kept : List X) (So : Type 0) → kept ≡ [] → So → IfKept b kept So
kept_none true kept So none so = so
kept_none false kept So none so = none

-- with more
pub kept_more : {X : Type 0} (b : Bool) (old new more : List X) (Old New : Type 0) → IfKept b old Old
    → new ≡ old ++ (if b then more else []) → (Old → new ≡ old ++ more → New) → IfKept b new New
kept_more true old new more Old New so is step = step so is
kept_more false old new more Old New none is step = is ∙ ap (λ (xs : List _). xs ++ []) none

-- what follows of it
pub kept_so : {X : Type 0} (b : Bool) (kept : List X) (Old New : Type 0) → IfKept b kept Old → (Old → New) → IfKept b kept New
kept_so true kept Old New so step = step so
kept_so false kept Old New none step = none

some_same : (kept : Option (List code.Reply)) (more : List Reply) → option_map (map reply_of) kept ≡ Some more
    → map reply_of (unwrap_or kept []) ≡ more
some_same None more e = let c : ⊥ = cc in absurd c
some_same (Some kept) more e = grind arith

none_same : (kept : Option (List code.Reply)) → option_map (map reply_of) kept ≡ None → unwrap_or kept [] ≡ []
none_same None e = refl
none_same (Some kept) e = let c : ⊥ = cc in absurd c

-- the messages of a world that keeps them behind none
pub kept_messages : (b : Bool) (world : CodeWorld) (kept : List code.Reply) (more : List Reply)
    → kept ≡ unwrap_or world.messages [] → KeepsBehind (if b then Some [] else None) more world
    → IfKept b kept (map reply_of kept ≡ more)
kept_messages true world kept more is keeps = ap (map reply_of) is ∙ some_same world.messages more keeps
kept_messages false world kept more is keeps = is ∙ none_same world.messages keeps
