-- What a judge makes of one fact: its verdict on it, and what it keeps afterwards. Where the verdict isn't Safe, nothing is
-- said of what it keeps.
use Rattle.std.specs.Prelude.{◌≡◌, ℕ, ◌<◌, Bool, true, false, not, Option, Some, None, List, [], ◌∷◌, ◌++◌, ◌&&◌, is_some}
use Rattle.std.specs.Prelude.{MatchBool}
use Rattle.lease_state.specs.State.{State}
use Rattle.lease_state.specs.declared.patch.Patch.{Patch}
use Rattle.lease_model.specs.values.Patches.{is_within_limit}
use Rattle.lease_model.specs.client.Commands.{Settlement}
use Rattle.lease_model.specs.records.Facts.{Fact}
use Rattle.lease_facts.specs.declared.verdict.Rule.{Rule}
use Rattle.lease_facts.specs.declared.verdict.Verdict.{Verdict}
use Rattle.lease_world.specs.judge.Clients.{can_take, after_taking, is_buffered_before, is_accepted_write, taken_of, Accepts}
use Rattle.lease_world.specs.judge.Clients.{Writes, Settles, Believes, Sees}
use Rattle.lease_world.specs.judge.Holders.{without_holder, conflicts_with, is_newcomer, HasConflict, HasNoConflict, HasEntered}
use Rattle.lease_world.specs.judge.Holders.{Leaves, Moves}
use Rattle.lease_world.specs.judge.Seen.{KeptFacts, SeenFile, SeenCache, SeenClient, Holders, joined, touched, touched_by_others}
use Rattle.lease_world.specs.judge.Seen.{is_good_client, write_in, file_in, client_in, holders_in}
use Rattle.lease_world.specs.judge.Tables.{HasClient, ChangesClient, HasSameClients, HasFile, HasSameFiles, is_started_in}
use Rattle.lease_world.specs.judge.Tables.{belief_in}

-- one client has a new value, and the files are as they were
abbrev pub PutsClient : ℕ → SeenClient → KeptFacts → KeptFacts → Type 0
PutsClient client seen old new = HasClient old.clients new.clients client seen × HasSameFiles old.files new.files

abbrev pub KeepsHolders : KeptFacts → KeptFacts → Type 0
KeepsHolders old new = new.holders ≡ old.holders

-- one client changes in this way, and the files are as they were
abbrev pub ChangesOne : (SeenClient → SeenClient → Type 0) → ℕ → KeptFacts → KeptFacts → Type 0
ChangesOne Changes client old new =
    ChangesClient Changes client old.clients new.clients × HasSameFiles old.files new.files

-- one file has a new value, and the clients are as they were
abbrev pub PutsFile : ℕ → SeenFile → KeptFacts → KeptFacts → Type 0
PutsFile file seen old new =
    HasFile old.files new.files file seen × HasSameClients old.clients new.clients × KeepsHolders old new

abbrev pub IsSafe : Verdict → Type 0 → Type 0
IsSafe verdict Goes = (verdict ≡ Verdict.Safe) × Goes

abbrev pub StartAdds : ℕ → ℕ → List ℕ → KeptFacts → KeptFacts → Verdict → Type 0
StartAdds place file bytes old new verdict = MatchBool (is_started_in old.files file)
    (verdict ≡ Verdict.Malformed place)
    (IsSafe verdict (PutsFile file (record (file_in old.files file) { start = Some bytes }) old new))

-- a client with these beliefs becomes a good one
abbrev pub Enters : ℕ → List SeenCache → List Holders → List Holders → Verdict → Type 0
Enters place caches old new verdict = (rivalled : Bool) × MatchBool rivalled
    ((verdict ≡ Verdict.Unsafe place Rule.OneWriteCache) × HasConflict caches old)
    (IsSafe verdict (HasNoConflict caches old × HasEntered caches old new))

abbrev pub JoinedAdds : ℕ → ℕ → KeptFacts → KeptFacts → Verdict → Type 0
JoinedAdds place client old new verdict = (client < 256)
    × PutsClient client (joined (client_in old.clients client)) old new
    × MatchBool (is_newcomer (client_in old.clients client) (client_in new.clients client))
    (Enters place (client_in new.clients client).caches old.holders new.holders verdict)
    (IsSafe verdict (KeepsHolders old new))

abbrev pub LeavingAdds : ℕ → KeptFacts → KeptFacts → Verdict → Type 0
LeavingAdds client old new verdict =
    IsSafe verdict (PutsClient client (record (client_in old.clients client) { served = false }) old new
    × Leaves (client_in old.clients client) old.holders new.holders)

abbrev pub ExpiredAdds : ℕ → ℕ → ℕ → KeptFacts → KeptFacts → Verdict → Type 0
ExpiredAdds place client file old new verdict = MatchBool (is_started_in old.files file)
    (LeavingAdds client old new verdict)
    (verdict ≡ Verdict.Malformed place)

abbrev pub StrayedAdds : ℕ → KeptFacts → KeptFacts → Verdict → Type 0
StrayedAdds client old new verdict =
    IsSafe verdict (PutsClient client (record (client_in old.clients client) { strayed = true }) old new
    × Leaves (client_in old.clients client) old.holders new.holders)

abbrev pub SentAdds : ℕ → ℕ → KeptFacts → KeptFacts → Verdict → Type 0
SentAdds place client old new verdict = IsSafe verdict (PutsClient client
    (record (client_in old.clients client) { sent = (client_in old.clients client).sent ++ place ∷ [] }) old new
    × KeepsHolders old new)

abbrev pub TookAdds : ℕ → ℕ → KeptFacts → KeptFacts → Verdict → Type 0
TookAdds place client old new verdict = MatchBool (can_take (client_in old.clients client))
    (IsSafe verdict (PutsClient client (after_taking (client_in old.clients client)) old new × KeepsHolders old new))
    (verdict ≡ Verdict.Malformed place)

abbrev pub OpenedAdds : ℕ → ℕ → ℕ → KeptFacts → KeptFacts → Verdict → Type 0
OpenedAdds place file client old new verdict = MatchBool (is_started_in old.files file)
    (IsSafe verdict (PutsFile file (record (file_in old.files file) {
      touches = touched (file_in old.files file).touches client place;
    }) old new))
    (verdict ≡ Verdict.Malformed place)

-- a client that never strayed buffered the write, and another touched the file since
abbrev pub is_late : ℕ → ℕ → ℕ → KeptFacts → Bool
is_late file client number old = not (client_in old.clients client).strayed
    && is_buffered_before file (touched_by_others client (file_in old.files file).touches)
    (write_in (client_in old.clients client) number)

abbrev pub ChangedAdds : ℕ → ℕ → ℕ → ℕ → Patch → KeptFacts → KeptFacts → Verdict → Type 0
ChangedAdds place file client number patch old new verdict =
    MatchBool (is_started_in old.files file && is_within_limit patch)
    (MatchBool (is_late file client number old)
    (verdict ≡ Verdict.Unsafe place Rule.NoLateWrite)
    (IsSafe verdict (ChangesClient (Accepts file number patch) client old.clients new.clients
    × HasFile old.files new.files file (record (file_in old.files file) {
      changes = (file_in old.files file).changes ++ record { place = place; patch = patch } ∷ [];
      touches = touched (file_in old.files file).touches client place;
    }) × KeepsHolders old new)))
    (verdict ≡ Verdict.Malformed place)

abbrev pub WroteAdds : ℕ → ℕ → ℕ → ℕ → Patch → Bool → KeptFacts → KeptFacts → Verdict → Type 0
WroteAdds place client file number patch buffered old new verdict =
    MatchBool (is_started_in old.files file && is_within_limit patch
    && not (is_some (write_in (client_in old.clients client) number)))
    (IsSafe verdict (ChangesOne (Writes number (record {
      file = file;
      place = place;
      buffered = buffered;
      patch = patch;
      accepted = false;
    })) client old new × KeepsHolders old new))
    (verdict ≡ Verdict.Malformed place)

abbrev pub is_done : Settlement → Bool
is_done Settlement.Done = true
is_done _ = false

-- a client that never strayed is told that a write is done which wasn't accepted
abbrev pub is_false : ℕ → ℕ → Settlement → KeptFacts → Bool
is_false client number outcome old = is_done outcome && not (client_in old.clients client).strayed
    && not (is_accepted_write (write_in (client_in old.clients client) number))

abbrev pub SettledAdds : ℕ → ℕ → ℕ → Settlement → KeptFacts → KeptFacts → Verdict → Type 0
SettledAdds place client number outcome old new verdict = MatchBool (is_false client number outcome old)
    (verdict ≡ Verdict.Unsafe place Rule.NoFalseDone)
    (IsSafe verdict (ChangesOne (Settles number) client old new × KeepsHolders old new))

-- a good client that believes this of the file conflicts with another
abbrev pub is_rival : ℕ → ℕ → State → KeptFacts → Bool
is_rival client file state old = is_good_client (client_in old.clients client)
    && conflicts_with state (without_holder (belief_in old.clients client file) (holders_in old.holders file))

abbrev pub BelievesAdds : ℕ → ℕ → ℕ → State → KeptFacts → KeptFacts → Verdict → Type 0
BelievesAdds place client file state old new verdict = MatchBool (is_started_in old.files file)
    (MatchBool (is_rival client file state old)
    (verdict ≡ Verdict.Unsafe place Rule.OneWriteCache)
    (IsSafe verdict (ChangesOne (Believes file state) client old new
    × Moves (client_in old.clients client) file state old.holders new.holders)))
    (verdict ≡ Verdict.Malformed place)

-- the client sees these bytes or doesn't
abbrev pub ShowsAt : ℕ → ℕ → ℕ → List ℕ → KeptFacts → KeptFacts → Verdict → Option ℕ → Type 0
ShowsAt place client file bytes old new verdict None = verdict ≡ Verdict.Unsafe place Rule.FreshCachedReads
ShowsAt place client file bytes old new verdict (Some taken) = (same : Bool)
    × ChangesOne (λ before after. Sees file (file_in old.files file) taken bytes before after same) client old new
    × KeepsHolders old new
    × MatchBool same (verdict ≡ Verdict.Safe) (verdict ≡ Verdict.Unsafe place Rule.FreshCachedReads)

abbrev pub CachedReadAdds : ℕ → ℕ → ℕ → List ℕ → KeptFacts → KeptFacts → Verdict → Type 0
CachedReadAdds place client file bytes old new verdict = MatchBool (is_started_in old.files file)
    (MatchBool (is_good_client (client_in old.clients client))
    (ShowsAt place client file bytes old new verdict (taken_of (client_in old.clients client)))
    (IsSafe verdict (HasSameClients old.clients new.clients × HasSameFiles old.files new.files × KeepsHolders old new)))
    (verdict ≡ Verdict.Malformed place)

abbrev pub Adds : ℕ → Fact → KeptFacts → KeptFacts → Verdict → Type 0
Adds place (Fact.Start file bytes) old new verdict = StartAdds place file bytes old new verdict
Adds place (Fact.Joined client) old new verdict = JoinedAdds place client old new verdict
Adds place (Fact.Dropped client) old new verdict = LeavingAdds client old new verdict
Adds place (Fact.Expired client file) old new verdict = ExpiredAdds place client file old new verdict
Adds place (Fact.Sent client) old new verdict = SentAdds place client old new verdict
Adds place (Fact.Took client) old new verdict = TookAdds place client old new verdict
Adds place (Fact.Opened file client) old new verdict = OpenedAdds place file client old new verdict
Adds place (Fact.Changed file client number patch) old new verdict =
    ChangedAdds place file client number patch old new verdict
Adds place (Fact.Wrote client file number patch buffered) old new verdict =
    WroteAdds place client file number patch buffered old new verdict
Adds place (Fact.Settled client number outcome) old new verdict =
    SettledAdds place client number outcome old new verdict
Adds place (Fact.Believes client file state) old new verdict = BelievesAdds place client file state old new verdict
Adds place (Fact.CachedRead client file bytes) old new verdict =
    CachedReadAdds place client file bytes old new verdict
Adds place (Fact.Strayed client) old new verdict = StrayedAdds client old new verdict
