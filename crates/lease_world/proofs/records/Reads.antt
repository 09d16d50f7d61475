-- A client's cached read.
use Rattle.lease_laws.proofs.Words.{◌&&◌, ◌++◌, ◌∙◌, ◌∷◌, ◌≡◌, ◌≤◌, Bool, Fact, List, None, Option, Patch, Some, ℕ, ap, arith}
use Rattle.lease_laws.proofs.Words.{believed, bytes_eq, content_at, false, filter, filter-append, has_joined, has_strayed}
use Rattle.lease_laws.proofs.Words.{if◌then◌else◌, is_good, is_served, is_settled, is_some, is_stale_read, last_sending, length}
use Rattle.lease_laws.proofs.Words.{not, option_map, patches, refl, sendings, start_of, subst, sym, takings, true, unanswered}
use Rattle.std.specs.Prelude.{◌≢◌, MatchBool}
use Rattle.lease_world.specs.judge.Added.{CachedReadAdds, KeepsHolders, ShowsAt}
use Rattle.lease_world.specs.judge.Before.{before, patches_of, patches_waiting}
use Rattle.lease_world.specs.declared.judging.covers.Layer.{Layer}
use Rattle.lease_world.specs.judge.Caches.{IsCovered, IsShown}
use Rattle.lease_world.specs.judge.Clients.{Sees, taken_of}
use Rattle.lease_world.specs.judge.Covers.{layers_at, stack_in}
use Rattle.lease_world.specs.judge.Knows.{KnowsFile, KnowsCache, KnowsClient, IsBase, HasContents}
use Rattle.lease_world.specs.judge.Seen.{Change, KeptFacts, Snapshot, SeenFile, SeenCache, SeenClient, cache_in, client_in}
use Rattle.lease_world.specs.judge.Seen.{file_in, is_open, is_good_client}
use Rattle.lease_world.specs.judge.Tables.{HasSameFiles, is_started_in}
use Rattle.lease_facts.specs.declared.verdict.Rule.{Rule}
use Rattle.lease_facts.specs.declared.verdict.Verdict.{Verdict}
use Rattle.lease_world.specs.judge.Told.{placed_changes, pending, place_of, is_unsettled, write_of}
use Rattle.lease_world.proofs.records.Caches.{cache_over}
use Rattle.lease_world.proofs.records.Contents.{changes-told, unsettled-told, before-told}
use Rattle.lease_world.proofs.records.Covered.{CoversWith, shown_patched}
use Rattle.lease_world.proofs.records.Others.{client_over}
use Rattle.lease_world.proofs.records.Pending.{filter-and}
use Rattle.lease_facts.proofs.Sendings.{PartOf, last-part}
use Rattle.lease_world.proofs.records.Views.{brought_bytes, brought_base, content_before}
use Rattle.lease_world.proofs.records.Written.{each_cache}

-- ---- the content

-- the file before a place, as it is kept, is its content at that place
content-told : (file : ℕ) (seen : SeenFile) (past place : List Fact) → KnowsFile file seen past → PartOf past place
    → content_before seen (place_of place) ≡ content_at file past place
unfolding content_at
content-told file seen past place k part =
    let these : before (place_of place) (placed_changes file past) ≡ placed_changes file place =
    subst (λ (facts : List Fact). before (place_of place) (placed_changes file facts) ≡ placed_changes file place)
    (sym part.1) (before-told file part.0 place) in
    rw (k.start, k.changes, changes-told file place)
    (ap (λ (cs : List Change). patches (start_of file past) (patches_of cs)) these)

-- ---- the writes

open-told : (client : ℕ) (seen : SeenClient) (past : List Fact) (layers : List Layer) → KnowsClient client seen past
    → filter (is_open seen.settled) layers ≡ filter (is_unsettled client past) layers
open-told client seen past layers k = grind arith

same_twice : (b : Bool) → b ≡ (b && b)
same_twice b = grind arith

-- what is laid first and what was there already are open as they were together
open_both : (is_open : Layer → Bool) (first rest : List Layer)
    → filter is_open (filter is_open first ++ rest) ≡ filter is_open (first ++ rest)
open_both is_open first rest = filter-append is_open (filter is_open first) rest
    ∙ (ap (λ (ls : List Layer). ls ++ filter is_open rest)
    (sym (filter-and is_open is_open is_open first (λ l. same_twice (is_open l)))) ∙ sym (filter-append is_open first rest))

-- the writes that are unanswered cover the file
covers_pending : (client file : ℕ) (seen : SeenClient) (old now : SeenCache) (past : List Fact)
    → IsCovered seen.settled old now → KnowsClient client seen past → KnowsCache client file old past
    → CoversWith (is_open seen.settled) now.covers (pending client file past past)
covers_pending client file seen old now past is all k = record {
  tops = λ position. (is.uncovered position).0;
  left = λ position. (is.uncovered position).1
      ∙ (open_both (is_open seen.settled) (layers_at position old.fresh) (stack_in old.covers position)
      ∙ (open-told client seen past (layers_at position old.fresh ++ stack_in old.covers position) all ∙ k.covers position));
  ends = is.ends;
}

-- ---- a cache that was brought up

rebased : (client file : ℕ) (cache : SeenCache) (base : Option Snapshot) (past : List Fact) → KnowsCache client file cache past
    → KnowsCache client file (record cache { base = base }) past
rebased client file cache base past k = record { belief = k.belief; covers = k.covers }

brought-known : (client file place : ℕ) (bytes : List ℕ) (seen : SeenClient) (f : SeenFile) (cache now : SeenCache) (same : Bool)
    (past : List Fact) → IsShown f place seen.settled bytes cache now same → KnowsClient client seen past
    → KnowsCache client file cache past → KnowsCache client file now past
brought-known client file place bytes seen f cache now same past is all k =
    let covers = covers_pending client file seen (record cache { base = now.base }) now past is.covered all
    (rebased client file cache now.base past k) in
    record {
      belief = ap (λ (c : SeenCache). c.belief) is.covered.rest ∙ k.belief;
      covers = λ position.
          ap (λ (c : SeenCache). filter (is_unsettled client past) (layers_at position c.fresh ++ stack_in now.covers position))
          is.covered.rest ∙ (sym (open-told client seen past (stack_in now.covers position) all) ∙ covers.left position);
    }

-- whether these bytes are seen is whether they are the content at the sending place with the unanswered writes
seen-same : (client file taken : ℕ) (bytes : List ℕ) (seen : SeenClient) (f : SeenFile) (cache now : SeenCache) (same : Bool)
    (past place : List Fact) (is : IsShown f taken seen.settled bytes cache now same) → KnowsClient client seen past
    → KnowsCache client file cache past → KnowsFile file f past → PartOf past place → place_of place ≡ taken
    → is.base.bytes ≡ content_before f taken
    → same ≡ bytes_eq bytes (patches (content_at file past place) (unanswered client file past))
seen-same client file taken bytes seen f cache now same past place is all k kf part at based =
    let covers = covers_pending client file seen (record cache { base = now.base }) now past is.covered all
    (rebased client file cache now.base past k) in
    shown_patched (is_open seen.settled) is.base.bytes bytes now.covers (pending client file past past) same
    covers is.shown ∙ (ap (λ (b : List ℕ). bytes_eq bytes (patches b (patches_waiting (pending client file past past))))
    (based ∙ (ap (λ (n : ℕ). content_before f n) (sym at) ∙ content-told file f past place kf part))
    ∙ ap (λ (ps : List Patch). bytes_eq bytes (patches (content_at file past place) ps))
    (sym (unsettled-told client file past past)))

-- ---- the place

none_sent : (sent : Option (List Fact)) → option_map place_of sent ≡ None → sent ≡ None
none_sent sent e = grind arith

some_sent : (sent : Option (List Fact)) (taken : ℕ) → option_map place_of sent ≡ Some taken
    → (place : List Fact) × (sent ≡ Some place) × (place_of place ≡ taken)
some_sent sent taken e = grind arith

taken_value : (b : Bool) (taken place : ℕ) → (if b then Some taken else None) ≡ Some place → taken ≡ place
taken_value b taken place e = grind arith

-- ---- whether the read is stale

good_told : (client : ℕ) (seen : SeenClient) (past : List Fact) → KnowsClient client seen past
    → is_good_client seen ≡ is_good client past
unfolding is_good
good_told client seen past k = rw (k.strayed, k.served) refl

pub read-of-none : (client file : ℕ) (bytes : List ℕ) (seen : SeenClient) (past : List Fact) → KnowsClient client seen past
    → is_good_client seen ≡ true → taken_of seen ≡ None → is_stale_read (Fact.CachedRead client file bytes) past ≡ true
unfolding is_stale_read
read-of-none client file bytes seen past k good none =
    rw (sym (good_told client seen past k) ∙ good, none_sent (last_sending client past) (sym k.taken ∙ none)) refl

pub read-of-strayed : (client file : ℕ) (bytes : List ℕ) (seen : SeenClient) (past : List Fact) → KnowsClient client seen past
    → is_good_client seen ≡ false → is_stale_read (Fact.CachedRead client file bytes) past ≡ false
unfolding is_stale_read
read-of-strayed client file bytes seen past k bad = rw (sym (good_told client seen past k) ∙ bad) refl

-- a cached read of a good client that took a message is stale exactly where other bytes are seen
pub read-of-good : (client file taken : ℕ) (bytes : List ℕ) (seen now : SeenClient) (f : SeenFile) (same : Bool)
    (past : List Fact)
    → KnowsClient client seen past → KnowsFile file f past → HasContents f seen.taken (cache_in seen.caches file)
    → is_some f.start ≡ true → is_good_client seen ≡ true → taken_of seen ≡ Some taken → Sees file f taken bytes seen now same
    → is_stale_read (Fact.CachedRead client file bytes) past ≡ not same
unfolding is_stale_read
read-of-good client file taken bytes seen now f same past k kf held started good some (kept, (cached, shown)) =
    let at : (place : List Fact) × (last_sending client past ≡ Some place) × (place_of place ≡ taken) =
    some_sent (last_sending client past) taken (sym k.taken ∙ some) in
    let value : seen.taken ≡ taken = taken_value seen.has_taken seen.taken taken some in
    let is : same ≡ bytes_eq bytes (patches (content_at file past at.0) (unanswered client file past)) =
    seen-same client file taken bytes seen f (cache_in seen.caches file) (cache_in now.caches file) same past at.0 shown k
    (k.caches file) kf (last-part client past at.0 at.1) at.2
    (brought_bytes f taken (cache_in seen.caches file).base shown.base started
    (subst (λ (n : ℕ). IsBase f n (cache_in seen.caches file).base) value held) shown.based) in
    rw (sym (good_told client seen past k) ∙ good, at.1, is) refl

-- ---- the client afterwards

longer : (fact : Fact) (past : List Fact) → length past ≤ length (fact ∷ past)
longer fact past = omega arith

pub client_reads : (client file taken : ℕ) (bytes : List ℕ) (seen now : SeenClient) (f : SeenFile) (same : Bool)
    (past : List Fact) → KnowsClient client seen past → Sees file f taken bytes seen now same
    → KnowsClient client now (Fact.CachedRead client file bytes ∷ past)
unfolding has_joined is_served has_strayed sendings takings is_settled write_of believed pending
client_reads client file taken bytes seen now f same past k (kept, (cached, shown)) =
    let next : List Fact = Fact.CachedRead client file bytes ∷ past in
    rw kept (client_over client seen (record seen { caches = now.caches }) past next
    (longer (Fact.CachedRead client file bytes) past) refl refl refl refl refl k.joined k.served k.strayed k.settled k.writes
    (each_cache client file seen.caches now.caches past next (cache_in now.caches file) cached
    (cache_over client file (cache_in now.caches file) past next refl (λ n. refl) refl
    (brought-known client file taken bytes seen f (cache_in seen.caches file) (cache_in now.caches file) same past shown k
    (k.caches file)))
    (λ g e. cache_over client g (cache_in seen.caches g) past next refl (λ n. refl) refl (k.caches g))) k)

pub contents-read : (taken : ℕ) (bytes : List ℕ) (file : ℕ) (seen now : SeenClient) (f : SeenFile) (same : Bool)
    → HasContents f seen.taken (cache_in seen.caches file) → is_some f.start ≡ true → taken_of seen ≡ Some taken
    → Sees file f taken bytes seen now same → HasContents f seen.taken (cache_in now.caches file)
contents-read taken bytes file seen now f same held started some (kept, (cached, shown)) =
    let value : seen.taken ≡ taken = taken_value seen.has_taken seen.taken taken some in
    subst (λ (b : Option Snapshot). IsBase f seen.taken b) (sym shown.kept)
    (subst (λ (n : ℕ). IsBase f n (Some shown.base)) (sym value)
    (brought_base f taken (cache_in seen.caches file).base shown.base started
    (subst (λ (n : ℕ). IsBase f n (cache_in seen.caches file).base) value held) shown.based))

-- ---- how a read is told

when_true : (b : Bool) (X Y : Type 0) → b ≡ true → X → MatchBool b X Y
when_true b X Y e x = subst (λ (c : Bool). MatchBool c X Y) (sym e) x

abbrev verdict_of : ℕ → Bool → Verdict
verdict_of place same = if same then Verdict.Safe else Verdict.Unsafe place Rule.FreshCachedReads

of_both : (place : ℕ) (same : Bool) → MatchBool same (verdict_of place same ≡ Verdict.Safe)
    (verdict_of place same ≡ Verdict.Unsafe place Rule.FreshCachedReads)
of_both place true = refl
of_both place false = refl

pub read_told : (place client file taken : ℕ) (bytes : List ℕ) (old new : KeptFacts) (same : Bool)
    → is_started_in old.files file ≡ true → is_good_client (client_in old.clients client) ≡ true
    → taken_of (client_in old.clients client) ≡ Some taken
    → Sees file (file_in old.files file) taken bytes (client_in old.clients client) (client_in new.clients client) same
    → ((n : ℕ) → n ≢ client → client_in new.clients n ≡ client_in old.clients n) → HasSameFiles old.files new.files
    → KeepsHolders old new
    → CachedReadAdds place client file bytes old new (verdict_of place same)
read_told place client file taken bytes old new same started good some sees others files kept =
    when_true (is_started_in old.files file) _ _ started
    (when_true (is_good_client (client_in old.clients client)) _ _ good
    (subst (λ (t : Option ℕ). ShowsAt place client file bytes old new (verdict_of place same) t) (sym some)
    (same, ((sees, others), files), kept, of_both place same)))
