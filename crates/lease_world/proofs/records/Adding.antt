-- What a judge makes of one fact is what the definitions say of it.
use Rattle.lease_laws.proofs.Words.{◌&&◌, ◌++◌, ◌+◌, ◌==◌, ◌||◌, ◌∙◌, ◌∷◌, ◌≡◌, ◌≢◌, Bool, Fact, List, None, OneWriteCache}
use Rattle.lease_laws.proofs.Words.{Option, Patch, Settlement, Some, State, ℕ, [], ap, arith, believed, false, flaw_at}
use Rattle.lease_laws.proofs.Words.{has_strayed, has_two_caches, if◌then◌else◌, is_false_done, is_good, is_late_write, is_served}
use Rattle.lease_laws.proofs.Words.{is_some, is_stale_read, is_started, is_well_formed, is_within_limit, length, not, refl, sym}
use Rattle.lease_laws.proofs.Words.{true}
use Rattle.lease_facts.specs.Verdicts.{verdict_of}
use Rattle.lease_facts.specs.declared.verdict.Rule.{Rule}
use Rattle.lease_facts.specs.declared.verdict.Verdict.{Verdict}
use Rattle.lease_world.specs.judge.Added.{PutsClient, PutsFile, IsSafe, StartAdds, JoinedAdds, LeavingAdds, ExpiredAdds}
use Rattle.lease_world.specs.judge.Added.{StrayedAdds, SentAdds, TookAdds, OpenedAdds, ChangedAdds, WroteAdds, SettledAdds}
use Rattle.lease_world.specs.judge.Added.{BelievesAdds, CachedReadAdds, ShowsAt, Adds, is_late, is_false, is_rival}
use Rattle.lease_world.specs.judge.Clients.{can_take, took_from, after_taking, taken_of, Accepts, Writes, Settles}
use Rattle.lease_world.specs.judge.Clients.{Believes, Sees}
use Rattle.lease_world.specs.judge.Holders.{is_newcomer, Leaves}
use Rattle.lease_world.specs.judge.Judged.{is_safe}
use Rattle.lease_world.specs.judge.Knows.{KnowsFile, KnowsClient, HasContents, RisesTo, KnowsHolders, Knows}
use Rattle.lease_world.specs.judge.Seen.{KeptFacts, SeenFile, SeenClient, SeenWrite, joined, touched, file_in, client_in}
use Rattle.lease_world.specs.judge.Seen.{cache_in, write_in, is_good_client, is_conflict}
use Rattle.lease_world.specs.judge.Tables.{is_started_in, HasSameFiles}
use Rattle.lease_world.proofs.records.Clients.{client_joins, client_drops, client_expires, client_strays, client_sent}
use Rattle.lease_world.proofs.records.Clients.{client_took, took-formed, took-malformed}
use Rattle.lease_world.proofs.records.Files.{file_starts, file_opens, file_changes}
use Rattle.lease_world.proofs.records.Flaws.{malformed-here, two-here, stale-here, late-here, false-here, safe-here}
use Rattle.lease_world.proofs.records.Holding.{is_steady, holders-same, holders-stay, holders-leave, holders-enter, holders-move}
use Rattle.lease_world.proofs.records.Holding.{enter-rival, enter-free, believe-rival, believe-free}
use Rattle.lease_world.proofs.records.Keeping.{contents-later, contents-each, contents-change, contents-start}
use Rattle.lease_world.proofs.records.Knowing.{each_place, is_apart, client-here, client-others, file-here, file-others}
use Rattle.lease_world.proofs.records.Knowing.{same_files, one_file, same_clients, one_client, Holds, holds_client, holds_file}
use Rattle.lease_world.proofs.records.Knowing.{started_told, good_told, match_bool}
use Rattle.lease_world.proofs.records.OneCache.{is_quiet, same_belief, one-stays, one-after, two-where, none-conflicts}
use Rattle.lease_world.proofs.records.Others.{rises-low}
use Rattle.lease_world.proofs.records.Pending.{self}
use Rattle.lease_world.proofs.records.Reads.{read-of-none, read-of-strayed, read-of-good, client_reads, contents-read}
use Rattle.lease_world.proofs.records.Skips.{touches, concerns}
use Rattle.lease_world.proofs.records.Writes.{number-told, accepted-told, touched-told}
use Rattle.lease_world.proofs.records.Written.{client_believes, client_accepts, client_settles, client_writes}

-- The verdict is that of the definitions, and where it is Safe, what is kept is what the record with the fact says.
pub record Judges (place : ℕ) (fact : Fact) (past : List Fact) (new : KeptFacts) (verdict : Verdict) : Type 0 where
  pub told : verdict_of verdict ≡ flaw_at place fact past
  pub known : is_safe verdict ≡ true → Knows new (fact ∷ past)

-- no rule is broken
record AllWell (fact : Fact) (past : List Fact) : Type 0 where
  formed : is_well_formed fact past ≡ true
  one : OneWriteCache (fact ∷ past)
  stale : is_stale_read fact past ≡ false
  late : is_late_write fact past ≡ false
  done : is_false_done fact past ≡ false

-- ---- who is good after a fact about one client

served_not : (b strayed served : Bool) → b ≡ true → (not strayed && (not b && served)) ≡ false
served_not b strayed served e = grind arith

strayed_so : (b strayed served : Bool) → b ≡ true → (not (b || strayed) && served) ≡ false
strayed_so b strayed served e = grind arith

dropped_bad : (client : ℕ) (past : List Fact) → is_good client (Fact.Dropped client ∷ past) ≡ false
unfolding is_good is_served has_strayed
dropped_bad client past = served_not (client == client) (has_strayed client past) (is_served client past) (self client)

expired_bad : (client file : ℕ) (past : List Fact) → is_good client (Fact.Expired client file ∷ past) ≡ false
unfolding is_good is_served has_strayed
expired_bad client file past = served_not (client == client) (has_strayed client past) (is_served client past) (self client)

strayed_bad : (client : ℕ) (past : List Fact) → is_good client (Fact.Strayed client ∷ past) ≡ false
unfolding is_good is_served has_strayed
strayed_bad client past = strayed_so (client == client) (has_strayed client past) (is_served client past) (self client)

dropped_good : (client : ℕ) (past : List Fact) (other : ℕ) → other ≢ client
    → is_good other (Fact.Dropped client ∷ past) ≡ is_good other past
unfolding is_good is_served has_strayed
dropped_good client past other ne = rw (is_apart other client ne) refl

expired_good : (client file : ℕ) (past : List Fact) (other : ℕ) → other ≢ client
    → is_good other (Fact.Expired client file ∷ past) ≡ is_good other past
unfolding is_good is_served has_strayed
expired_good client file past other ne = rw (is_apart other client ne) refl

strayed_good : (client : ℕ) (past : List Fact) (other : ℕ) → other ≢ client
    → is_good other (Fact.Strayed client ∷ past) ≡ is_good other past
unfolding is_good is_served has_strayed
strayed_good client past other ne = rw (is_apart other client ne) refl

joined_good : (client other : ℕ) (past : List Fact) → other ≢ client
    → is_good other (Fact.Joined client ∷ past) ≡ is_good other past
unfolding is_good is_served has_strayed
joined_good client other past ne = rw (is_apart other client ne) refl

-- who isn't a newcomer is good as it was
not_new : (client : ℕ) (was now : SeenClient) (past : List Fact) → is_newcomer was now ≡ false
    → is_good_client was ≡ is_good client past → is_good_client now ≡ is_good client (Fact.Joined client ∷ past)
    → is_good client (Fact.Joined client ∷ past) ≡ is_good client past
unfolding is_good is_served has_strayed
not_new client was now past e told told_now = grind arith

-- ---- what is kept of a file

took_held : (file : SeenFile) (seen : SeenClient) (sent : List ℕ) (high f : ℕ) → RisesTo seen.taken sent high
    → HasContents file seen.taken (cache_in seen.caches f)
    → HasContents file (took_from seen sent).taken (cache_in (took_from seen sent).caches f)
took_held file seen [] high f r h = h
took_held file seen (place ∷ sent) high f r h = contents-later file seen.taken place (cache_in seen.caches f) r.0 h

wrote_held : (files : ℕ → SeenFile) (seen now : SeenClient) (number : ℕ) (write : SeenWrite) → Writes number write seen now
    → ((f : ℕ) → HasContents (files f) seen.taken (cache_in seen.caches f))
    → (f : ℕ) → HasContents (files f) now.taken (cache_in now.caches f)
wrote_held files seen now number write is held f = grind arith

settled_held : (files : ℕ → SeenFile) (seen now : SeenClient) (number : ℕ) → Settles number seen now
    → ((f : ℕ) → HasContents (files f) seen.taken (cache_in seen.caches f))
    → (f : ℕ) → HasContents (files f) now.taken (cache_in now.caches f)
settled_held files seen now number is held f = rw is.0 (held f)

accepted_held : (file : SeenFile) (seen now : SeenClient) (f number of_file : ℕ) (patch : Patch)
    → Accepts of_file number patch seen now
    → HasContents file seen.taken (cache_in seen.caches f) → HasContents file now.taken (cache_in now.caches f)
accepted_held file seen now f number of_file patch is h = rw is.0 h

believed_held : (files : ℕ → SeenFile) (seen now : SeenClient) (file : ℕ) (state : State) → Believes file state seen now
    → ((f : ℕ) → HasContents (files f) seen.taken (cache_in seen.caches f))
    → (f : ℕ) → HasContents (files f) now.taken (cache_in now.caches f)
believed_held files seen now file state is held f = grind arith

read_held : (files : ℕ → SeenFile) (taken file : ℕ) (bytes : List ℕ) (seen now : SeenClient) (same : Bool)
    → Sees file (files file) taken bytes seen now same → is_some (files file).start ≡ true → taken_of seen ≡ Some taken
    → ((f : ℕ) → HasContents (files f) seen.taken (cache_in seen.caches f))
    → (f : ℕ) → HasContents (files f) now.taken (cache_in now.caches f)
read_held files taken file bytes seen now same (kept, (cached, shown)) started some held f =
    rw kept (contents-each files seen.taken file seen.caches now.caches (cache_in now.caches file) cached
    (contents-read taken bytes file seen now (files file) same (held file) started some (kept, (cached, shown))) held f)

-- ---- beliefs

others_believe : (client file other of_file : ℕ) (state : State) (past : List Fact) → other ≢ client
    → believed other of_file (Fact.Believes client file state ∷ past) ≡ believed other of_file past
unfolding believed
others_believe client file other of_file state past ne = rw (is_apart other client ne) refl

other_file_belief : (client file of_file : ℕ) (state : State) (past : List Fact) → of_file ≢ file
    → believed client of_file (Fact.Believes client file state ∷ past) ≡ believed client of_file past
unfolding believed
other_file_belief client file of_file state past ne = grind arith

same_good : (client file other : ℕ) (state : State) (past : List Fact)
    → is_good other (Fact.Believes client file state ∷ past) ≡ is_good other past
unfolding is_good is_served has_strayed
same_good client file other state past = refl

own_belief : (client file : ℕ) (state : State) (past : List Fact)
    → believed client file (Fact.Believes client file state ∷ past) ≡ state
unfolding believed
own_belief client file state past = rw (self client, self file) refl

-- ---- one fact more

module _ (place : ℕ) (old new : KeptFacts) (v : Verdict) (past : List Fact) (k : Knows old past) where
  abbrev pub Judged : Fact → Type 0
  Judged fact = Judges place fact past new v

  malformed_judged : (fact : Fact) → v ≡ Verdict.Malformed place → is_well_formed fact past ≡ false → Judged fact
  malformed_judged fact e w = rw e (record { told = sym (malformed-here place fact past w); known = λ s. absurd (cc) })

  two_judged : (fact : Fact) → v ≡ Verdict.Unsafe place Rule.OneWriteCache → is_well_formed fact past ≡ true
      → has_two_caches (fact ∷ past) ≡ true → Judged fact
  two_judged fact e w two = rw e (record { told = sym (two-here place fact past w two); known = λ s. absurd (cc) })

  stale_judged : (fact : Fact) → v ≡ Verdict.Unsafe place Rule.FreshCachedReads → is_well_formed fact past ≡ true
      → OneWriteCache (fact ∷ past) → is_stale_read fact past ≡ true → Judged fact
  stale_judged fact e w one stale =
      rw e (record { told = sym (stale-here place fact past w one stale); known = λ s. absurd (cc) })

  late_judged : (fact : Fact) → v ≡ Verdict.Unsafe place Rule.NoLateWrite → is_well_formed fact past ≡ true
      → OneWriteCache (fact ∷ past) → is_stale_read fact past ≡ false → is_late_write fact past ≡ true → Judged fact
  late_judged fact e w one stale late =
      rw e (record { told = sym (late-here place fact past w one stale late); known = λ s. absurd (cc) })

  false_judged : (fact : Fact) → v ≡ Verdict.Unsafe place Rule.NoFalseDone → is_well_formed fact past ≡ true
      → OneWriteCache (fact ∷ past) → is_stale_read fact past ≡ false → is_late_write fact past ≡ false
      → is_false_done fact past ≡ true → Judged fact
  false_judged fact e w one stale late done =
      rw e (record { told = sym (false-here place fact past w one stale late done); known = λ s. absurd (cc) })

  safe_judged : (fact : Fact) → v ≡ Verdict.Safe → AllWell fact past → ((f : ℕ) → KnowsFile f (file_in new.files f) (fact ∷ past))
      → ((c : ℕ) → KnowsClient c (client_in new.clients c) (fact ∷ past))
      → ((c f : ℕ) → Holds new.files new.clients c f) → KnowsHolders new.holders (fact ∷ past) → Judged fact
  safe_judged fact e well files clients contents holders = rw e (record {
    told = sym (safe-here place fact past well.formed well.one well.stale well.late well.done);
    known = λ s. record {
      files = files;
      clients = clients;
      contents = contents;
      holders = holders;
      well_formed = (well.formed, k.well_formed);
      one_write_cache = well.one;
    };
  })

  -- a fact that changes nobody's belief
  all_well : (fact : Fact) → is_quiet fact ≡ true → is_well_formed fact past ≡ true → is_stale_read fact past ≡ false
      → is_late_write fact past ≡ false → is_false_done fact past ≡ false → AllWell fact past
  all_well fact quiet formed stale late done =
      record { formed = formed; one = one-stays fact past quiet k.one_write_cache; stale = stale; late = late; done = done }

  -- ---- facts about a file

  -- one file has a new value, and the clients are as they were
  file_judged : (file : ℕ) (fact : Fact) (seen : SeenFile) → v ≡ Verdict.Safe → PutsFile file seen old new
      → is_steady fact ≡ true → ((f : ℕ) → f ≢ file → touches f fact ≡ false) → ((c : ℕ) → concerns c fact ≡ false)
      → AllWell fact past → KnowsFile file seen (fact ∷ past)
      → ((c : ℕ) → HasContents seen (client_in old.clients c).taken (cache_in (client_in old.clients c).caches file))
      → Judged fact
  file_judged file fact seen e (puts, same, kept) steady untouched unconcerned well known held =
      let now : file_in new.files file ≡ seen = file-here old.files new.files file seen puts in
      let others : (n : ℕ) → n ≢ file → file_in new.files n ≡ file_in old.files n =
      file-others old.files new.files file seen puts in
      safe_judged fact e well (one_file old new file fact past others untouched (rw now known) k)
      (same_clients old new fact past same unconcerned k) (holds_file old new file past same others (λ c. rw now (held c)) k)
      (holders-stay fact past old.holders new.holders steady kept k.holders)

  start_judged : (file : ℕ) (bytes : List ℕ) → StartAdds place file bytes old new v → Judged (Fact.Start file bytes)
  unfolding is_well_formed is_stale_read is_late_write is_false_done
  start_judged file bytes adds = match_bool (is_started_in old.files file) adds
      (λ on e. malformed_judged (Fact.Start file bytes) e (ap not (sym (started_told old file past k) ∙ on)))
      (λ off (e, puts). file_judged file (Fact.Start file bytes) (record (file_in old.files file) { start = Some bytes }) e puts
      refl (λ f ne. is_apart f file ne) (λ c. refl)
      (all_well (Fact.Start file bytes) refl (ap not (sym (started_told old file past k) ∙ off)) refl refl refl)
      (file_starts file bytes (file_in old.files file) past (k.files file))
      (λ c. contents-start (file_in old.files file) bytes (client_in old.clients c).taken
      (cache_in (client_in old.clients c).caches file) off (k.contents c file)))

  opened_judged : (file client : ℕ) → place ≡ length past + 1 → OpenedAdds place file client old new v
      → Judged (Fact.Opened file client)
  unfolding is_well_formed is_stale_read is_late_write is_false_done
  opened_judged file client at adds = match_bool (is_started_in old.files file) adds
      (λ on (e, puts). file_judged file (Fact.Opened file client)
      (record (file_in old.files file) { touches = touched (file_in old.files file).touches client place }) e puts
      refl (λ f ne. is_apart f file ne) (λ c. refl)
      (all_well (Fact.Opened file client) refl (sym (started_told old file past k) ∙ on) refl refl refl)
      (file_opens file client place (file_in old.files file) past at (k.files file)) (λ c. k.contents c file))
      (λ off e. malformed_judged (Fact.Opened file client) e (sym (started_told old file past k) ∙ off))

  -- ---- facts about one client alone

  -- one client changes, and the files are as they were
  client_judged : (client : ℕ) (fact : Fact) → v ≡ Verdict.Safe → HasSameFiles old.files new.files
      → ((n : ℕ) → n ≢ client → client_in new.clients n ≡ client_in old.clients n)
      → ((f : ℕ) → touches f fact ≡ false) → ((c : ℕ) → c ≢ client → concerns c fact ≡ false) → AllWell fact past
      → KnowsClient client (client_in new.clients client) (fact ∷ past)
      → ((f : ℕ) → HasContents (file_in old.files f) (client_in new.clients client).taken
      (cache_in (client_in new.clients client).caches f)) → KnowsHolders new.holders (fact ∷ past) → Judged fact
  client_judged client fact e same others untouched unconcerned well known held holders =
      safe_judged fact e well (same_files old new fact past same untouched k)
      (one_client old new client fact past others unconcerned known k)
      (holds_client old new client past same others held k) holders

  put_judged : (client : ℕ) (fact : Fact) (seen : SeenClient) → v ≡ Verdict.Safe → PutsClient client seen old new
      → ((f : ℕ) → touches f fact ≡ false) → ((c : ℕ) → c ≢ client → concerns c fact ≡ false) → AllWell fact past
      → KnowsClient client seen (fact ∷ past) → ((f : ℕ) → HasContents (file_in old.files f) seen.taken (cache_in seen.caches f))
      → KnowsHolders new.holders (fact ∷ past) → Judged fact
  put_judged client fact seen e (puts, same) untouched unconcerned well known held holders =
      let now : client_in new.clients client ≡ seen = client-here old.clients new.clients client seen puts in
      client_judged client fact e same (client-others old.clients new.clients client seen puts) untouched unconcerned well
      (rw now known) (λ f. rw now (held f)) holders

  -- the client isn't good after the fact
  left_judged : (client : ℕ) (fact : Fact) (seen : SeenClient)
      → IsSafe v (PutsClient client seen old new × Leaves (client_in old.clients client) old.holders new.holders)
      → is_quiet fact ≡ true → ((f : ℕ) → touches f fact ≡ false) → ((c : ℕ) → c ≢ client → concerns c fact ≡ false)
      → AllWell fact past → KnowsClient client seen (fact ∷ past)
      → ((f : ℕ) → HasContents (file_in old.files f) seen.taken (cache_in seen.caches f))
      → is_good client (fact ∷ past) ≡ false → ((c : ℕ) → c ≢ client → is_good c (fact ∷ past) ≡ is_good c past) → Judged fact
  left_judged client fact seen (e, (puts, leaves)) quiet untouched unconcerned well known held bad others =
      put_judged client fact seen e puts untouched unconcerned well known held
      (holders-leave client (client_in old.clients client) past (fact ∷ past) old.holders new.holders
      (good_told client (client_in old.clients client) past (k.clients client)) (λ f. ((k.clients client).caches f).belief)
      bad others (λ c f. same_belief c f fact past quiet) leaves k.holders)

  dropped_judged : (client : ℕ) → LeavingAdds client old new v → Judged (Fact.Dropped client)
  unfolding is_well_formed is_stale_read is_late_write is_false_done
  dropped_judged client adds = left_judged client (Fact.Dropped client) (record (client_in old.clients client) { served = false })
      adds refl (λ f. refl) (λ c ne. is_apart c client ne) (all_well (Fact.Dropped client) refl refl refl refl refl)
      (client_drops client (client_in old.clients client) past (k.clients client)) (k.contents client)
      (dropped_bad client past) (dropped_good client past)

  strayed_judged : (client : ℕ) → StrayedAdds client old new v → Judged (Fact.Strayed client)
  unfolding is_well_formed is_stale_read is_late_write is_false_done
  strayed_judged client adds = left_judged client (Fact.Strayed client) (record (client_in old.clients client) { strayed = true })
      adds refl (λ f. refl) (λ c ne. is_apart c client ne) (all_well (Fact.Strayed client) refl refl refl refl refl)
      (client_strays client (client_in old.clients client) past (k.clients client)) (k.contents client)
      (strayed_bad client past) (strayed_good client past)

  expired_judged : (client file : ℕ) → ExpiredAdds place client file old new v → Judged (Fact.Expired client file)
  unfolding is_well_formed is_stale_read is_late_write is_false_done
  expired_judged client file adds = match_bool (is_started_in old.files file) adds
      (λ on is. left_judged client (Fact.Expired client file) (record (client_in old.clients client) { served = false })
      is refl (λ f. refl) (λ c ne. is_apart c client ne)
      (all_well (Fact.Expired client file) refl (sym (started_told old file past k) ∙ on) refl refl refl)
      (client_expires client file (client_in old.clients client) past (k.clients client)) (k.contents client)
      (expired_bad client file past) (expired_good client file past))
      (λ off e. malformed_judged (Fact.Expired client file) e (sym (started_told old file past k) ∙ off))

  sent_judged : (client : ℕ) → place ≡ length past + 1 → SentAdds place client old new v → Judged (Fact.Sent client)
  unfolding is_well_formed is_stale_read is_late_write is_false_done
  sent_judged client at (e, (puts, kept)) = put_judged client (Fact.Sent client)
      (record (client_in old.clients client) { sent = (client_in old.clients client).sent ++ place ∷ [] }) e puts
      (λ f. refl) (λ c ne. is_apart c client ne) (all_well (Fact.Sent client) refl refl refl refl refl)
      (client_sent client place (client_in old.clients client) past at (k.clients client)) (k.contents client)
      (holders-stay (Fact.Sent client) past old.holders new.holders refl kept k.holders)

  took_judged : (client : ℕ) → TookAdds place client old new v → Judged (Fact.Took client)
  unfolding is_stale_read is_late_write is_false_done
  took_judged client adds =
      let seen : SeenClient = client_in old.clients client in
      match_bool (can_take seen) adds
      (λ on (e, goes). put_judged client (Fact.Took client) (after_taking seen) e goes.0
      (λ f. refl) (λ c ne. is_apart c client ne)
      (all_well (Fact.Took client) refl (took-formed client seen past on (k.clients client)) refl refl refl)
      (client_took client seen past on (k.clients client))
      (λ f. took_held (file_in old.files f) seen seen.sent (length past) f (k.clients client).rising (k.contents client f))
      (holders-stay (Fact.Took client) past old.holders new.holders refl goes.1 k.holders))
      (λ off e. malformed_judged (Fact.Took client) e (took-malformed client seen past off (k.clients client)))

  -- ---- a client joins

  joined_judged : (client : ℕ) → JoinedAdds place client old new v → Judged (Fact.Joined client)
  unfolding is_well_formed is_stale_read is_late_write is_false_done believed
  joined_judged client (few, (puts, same), adds) =
      let fact : Fact = Fact.Joined client in
      let was : SeenClient = client_in old.clients client in
      let is : SeenClient = client_in new.clients client in
      let now : is ≡ joined was = client-here old.clients new.clients client (joined was) puts in
      let others : (n : ℕ) → n ≢ client → client_in new.clients n ≡ client_in old.clients n =
      client-others old.clients new.clients client (joined was) puts in
      let known : KnowsClient client is (fact ∷ past) = rw now (client_joins client was past (k.clients client)) in
      let told : is_good_client was ≡ is_good client past = good_told client was past (k.clients client) in
      let told_now : is_good_client is ≡ is_good client (fact ∷ past) = good_told client is (fact ∷ past) known in
      let safe : v ≡ Verdict.Safe → OneWriteCache (fact ∷ past) → KnowsHolders new.holders (fact ∷ past)
      → Judges place fact past new v = λ e one holders. client_judged client fact e same others
      (λ f. refl) (λ c ne. is_apart c client ne)
      (record { formed = refl; one = one; stale = refl; late = refl; done = refl }) known (λ f. rw now (k.contents client f))
      holders in
      match_bool (is_newcomer was is) adds
      (λ on (rivalled, more).
      let parts : (is_good_client was ≡ false) × (is_good_client is ≡ true) =
      newcomer (is_good_client was) (is_good_client is) on in
      let bad : is_good client past ≡ false = sym told ∙ parts.0 in
      let good : is_good client (fact ∷ past) ≡ true = sym told_now ∙ parts.1 in
      let belief : (f : ℕ) → (cache_in is.caches f).belief ≡ believed client f past = λ f. (known.caches f).belief in
      match_bool rivalled more
      (λ two (e, found).
      let file = found.0 in
      let rival = enter-rival client file (cache_in is.caches file).belief old.holders past bad found.1 k.holders in
      two_judged fact e refl (two-where (fact ∷ past) client rival.other file rival.apart good
      (joined_good client rival.other past rival.apart ∙ rival.good) (rw (← belief file) rival.conflict)))
      (λ one (e, enters). safe e
      (one-after past (fact ∷ past) client k.one_write_cache (λ o ne. joined_good client o past ne) (λ o f ne. refl)
      (λ g f o ne good_too. rw (← belief f) (enter-free f (cache_in is.caches f).belief old.holders past o (enters.0 f) k.holders
      (sym (joined_good client o past ne) ∙ good_too))))
      (holders-enter client is.caches past (fact ∷ past) old.holders new.holders few belief bad good
      (λ c ne. joined_good client c past ne) (λ c f. refl) enters.1 k.holders)))
      (λ off (e, kept).
      let goods : (c : ℕ) → is_good c (fact ∷ past) ≡ is_good c past =
      each_place (λ c. is_good c (fact ∷ past) ≡ is_good c past) client (not_new client was is past off told told_now)
      (λ c ne. joined_good client c past ne) in
      safe e (one-after past (fact ∷ past) client k.one_write_cache (λ o ne. goods o) (λ o f ne. refl)
      (λ g f o ne good_too. none-conflicts past client o f k.one_write_cache ne (sym (goods client) ∙ g)
      (sym (goods o) ∙ good_too))) (holders-same past (fact ∷ past) old.holders new.holders kept goods (λ c f. refl) k.holders))
    where
      newcomer : (a b : Bool) → (if a then false else b) ≡ true → (a ≡ false) × (b ≡ true)
      newcomer a b e = grind arith

  -- ---- a file is changed

  late_told : (file client number : ℕ) (patch : Patch)
      → is_late file client number old ≡ is_late_write (Fact.Changed file client number patch) past
  unfolding is_late_write
  late_told file client number patch = rw (
    (k.clients client).strayed,
    (k.files file).touches client,
    (k.clients client).writes number,
    touched-told client file number past k.well_formed,
  ) refl

  changed_formed : (file client number : ℕ) (patch : Patch)
      → (is_started_in old.files file && is_within_limit patch) ≡ is_well_formed (Fact.Changed file client number patch) past
  unfolding is_well_formed
  changed_formed file client number patch = rw (started_told old file past k) refl

  changed_judged : (file client number : ℕ) (patch : Patch) → place ≡ length past + 1
      → ChangedAdds place file client number patch old new v → Judged (Fact.Changed file client number patch)
  unfolding is_stale_read is_false_done
  changed_judged file client number patch at adds =
      let fact : Fact = Fact.Changed file client number patch in
      let one : OneWriteCache (fact ∷ past) = one-stays fact past refl k.one_write_cache in
      let well = changed_formed file client number patch in
      let late = late_told file client number patch in
      match_bool (is_started_in old.files file && is_within_limit patch) adds
      (λ on more. match_bool (is_late file client number old) more
      (λ is_so e. late_judged fact e (sym well ∙ on) one refl (sym late ∙ is_so))
      (λ not_so (e, goes).
      let (changes, puts, kept) = goes in
      let seen : SeenFile = record (file_in old.files file) {
        changes = (file_in old.files file).changes ++ record { place = place; patch = patch } ∷ [];
        touches = touched (file_in old.files file).touches client place;
      } in
      let now : file_in new.files file ≡ seen = file-here old.files new.files file seen puts in
      let others : (n : ℕ) → n ≢ file → file_in new.files n ≡ file_in old.files n =
      file-others old.files new.files file seen puts in
      let held : (c f : ℕ) → HasContents (file_in new.files f) (client_in old.clients c).taken
      (cache_in (client_in old.clients c).caches f) = λ c f. each_place
      (λ n. HasContents (file_in new.files n) (client_in old.clients c).taken (cache_in (client_in old.clients c).caches n)) file
      (let low = rises-low (client_in old.clients c).taken (client_in old.clients c).sent (length past) (k.clients c).rising in
      rw now (contents-change (file_in old.files file) (touched (file_in old.files file).touches client place)
      (record { place = place; patch = patch }) (client_in old.clients c).taken (cache_in (client_in old.clients c).caches file)
      (omega (arith, low, at)) (k.contents c file)))
      (λ n ne. rw (others n ne) (k.contents c n)) f in
      safe_judged fact e (record { formed = sym well ∙ on; one = one; stale = refl; late = sym late ∙ not_so; done = refl })
      (one_file old new file fact past others (λ f ne. is_apart f file ne)
      (rw now (file_changes file client number place patch (file_in old.files file) past at (k.files file))) k)
      (one_client old new client fact past changes.1 (λ c ne. is_apart c client ne)
      (client_accepts client file number patch (client_in old.clients client) (client_in new.clients client) past changes.0
      (k.clients client)) k)
      (λ c f. each_place (λ n. Holds new.files new.clients n f) client
      (accepted_held (file_in new.files f) (client_in old.clients client) (client_in new.clients client) f number file patch
      changes.0 (held client f))
      (λ n ne. rw (changes.1 n ne) (held n f)) c) (holders-stay fact past old.holders new.holders refl kept k.holders)))
      (λ off e. malformed_judged fact e (sym well ∙ off))

  -- ---- a write is given

  wrote_formed : (client file number : ℕ) (patch : Patch) (buffered : Bool)
      → (is_started_in old.files file && is_within_limit patch && not (is_some (write_in (client_in old.clients client) number)))
      ≡ is_well_formed (Fact.Wrote client file number patch buffered) past
  unfolding is_well_formed
  wrote_formed client file number patch buffered =
      rw (started_told old file past k, (k.clients client).writes number, number-told client number past) refl

  wrote_judged : (client file number : ℕ) (patch : Patch) (buffered : Bool) → place ≡ length past + 1
      → WroteAdds place client file number patch buffered old new v → Judged (Fact.Wrote client file number patch buffered)
  unfolding is_stale_read is_late_write is_false_done
  wrote_judged client file number patch buffered at adds =
      let fact : Fact = Fact.Wrote client file number patch buffered in
      let well = wrote_formed client file number patch buffered in
      match_bool (is_started_in old.files file && is_within_limit patch
      && not (is_some (write_in (client_in old.clients client) number))) adds
      (λ on (e, goes).
      let (changes, same) = goes.0 in
      client_judged client fact e same changes.1 (λ f. refl) (λ c ne. is_apart c client ne)
      (all_well fact refl (sym well ∙ on) refl refl refl)
      (client_writes client number place file patch buffered (client_in old.clients client) (client_in new.clients client) past at
      changes.0 (k.clients client))
      (wrote_held (file_in old.files) (client_in old.clients client) (client_in new.clients client) number _ changes.0
      (k.contents client)) (holders-stay fact past old.holders new.holders refl goes.1 k.holders))
      (λ off e. malformed_judged fact e (sym well ∙ off))

  -- ---- a write is settled

  false_told : (client number : ℕ) (outcome : Settlement)
      → is_false client number outcome old ≡ is_false_done (Fact.Settled client number outcome) past
  unfolding is_false_done
  false_told client number Settlement.Done =
      rw ((k.clients client).strayed, (k.clients client).writes number, accepted-told client number past k.well_formed) refl
  false_told client number Settlement.Failed = refl
  false_told client number Settlement.Unknown = refl
  false_told client number Settlement.Lost = refl

  settled_judged : (client number : ℕ) (outcome : Settlement) → SettledAdds place client number outcome old new v
      → Judged (Fact.Settled client number outcome)
  unfolding is_well_formed is_stale_read is_late_write
  settled_judged client number outcome adds =
      let fact : Fact = Fact.Settled client number outcome in
      let told = false_told client number outcome in
      match_bool (is_false client number outcome old) adds
      (λ on e. false_judged fact e refl (one-stays fact past refl k.one_write_cache) refl refl (sym told ∙ on))
      (λ off (e, goes).
      let (changes, same) = goes.0 in
      client_judged client fact e same changes.1 (λ f. refl) (λ c ne. is_apart c client ne)
      (all_well fact refl refl refl refl (sym told ∙ off))
      (client_settles client number outcome (client_in old.clients client) (client_in new.clients client) past
      changes.0 (k.clients client))
      (settled_held (file_in old.files) (client_in old.clients client) (client_in new.clients client) number changes.0
      (k.contents client)) (holders-stay fact past old.holders new.holders refl goes.1 k.holders))

  -- ---- a belief

  no_conflict : (client file : ℕ) (state : State) → is_rival client file state old ≡ false → is_good client past ≡ true
      → (f other : ℕ) → other ≢ client → is_good other past ≡ true
      → is_conflict (believed client f (Fact.Believes client file state ∷ past))
      (believed other f (Fact.Believes client file state ∷ past)) ≡ false
  no_conflict client file state free good f other ne good_too =
      let next : List Fact = Fact.Believes client file state ∷ past in
      let seen : SeenClient = client_in old.clients client in
      each_place (λ n. is_conflict (believed client n next) (believed other n next) ≡ false) file
      (rw (own_belief client file state past, others_believe client file other file state past ne)
      (believe-free client file (cache_in seen.caches file).belief state old.holders past other good
      ((k.clients client).caches file).belief
      (second_false (is_good_client seen) _ free (good_told client seen past (k.clients client) ∙ good)) k.holders ne good_too))
      (λ n apart. rw (other_file_belief client file n state past apart, others_believe client file other n state past ne)
      (none-conflicts past client other n k.one_write_cache ne good good_too)) f
    where
      second_false : (a b : Bool) → (a && b) ≡ false → a ≡ true → b ≡ false
      second_false a b e a_is = grind arith

  believes_judged : (client file : ℕ) (state : State) → BelievesAdds place client file state old new v
      → Judged (Fact.Believes client file state)
  unfolding is_well_formed is_stale_read is_late_write is_false_done
  believes_judged client file state adds =
      let fact : Fact = Fact.Believes client file state in
      let seen : SeenClient = client_in old.clients client in
      let told : is_good_client seen ≡ is_good client past = good_told client seen past (k.clients client) in
      let goods : (c : ℕ) → is_good c (fact ∷ past) ≡ is_good c past = λ c. same_good client file c state past in
      match_bool (is_started_in old.files file) adds
      (λ on more.
      let formed : is_started file past ≡ true = sym (started_told old file past k) ∙ on in
      match_bool (is_rival client file state old) more
      (λ two e.
      let parts = both_true (is_good_client seen) _ two in
      let good : is_good client past ≡ true = sym told ∙ parts.0 in
      let rival = believe-rival client file (cache_in seen.caches file).belief state old.holders past good
      ((k.clients client).caches file).belief parts.1 k.holders in
      two_judged fact e formed (two-where (fact ∷ past) client rival.other file rival.apart
      (goods client ∙ good) (goods rival.other ∙ rival.good)
      (rw (own_belief client file state past, others_believe client file rival.other file state past rival.apart)
      rival.conflict)))
      (λ none (e, goes).
      let (changes, same) = goes.0 in
      client_judged client fact e same changes.1 (λ f. refl) (λ c ne. is_apart c client ne) (record {
        formed = formed;
        one = one-after past (fact ∷ past) client k.one_write_cache (λ o ne. goods o)
            (λ o f ne. others_believe client file o f state past ne)
            (λ good f o ne good_too. no_conflict client file state none (sym (goods client) ∙ good) f o ne
            (sym (goods o) ∙ good_too));
        stale = refl;
        late = refl;
        done = refl;
      }) (client_believes client file state seen (client_in new.clients client) past changes.0 (k.clients client))
      (believed_held (file_in old.files) seen (client_in new.clients client) file state changes.0 (k.contents client))
      (holders-move client file state seen past (fact ∷ past) old.holders new.holders told
      (λ f. ((k.clients client).caches f).belief) goods (own_belief client file state past)
      (λ c f ne. others_believe client file c f state past ne) (λ f ne. other_file_belief client file f state past ne)
      goes.1 k.holders)))
      (λ off e. malformed_judged fact e (sym (started_told old file past k) ∙ off))
    where
      both_true : (a b : Bool) → (a && b) ≡ true → (a ≡ true) × (b ≡ true)
      both_true a b e = grind arith

  -- ---- a cached read

  shown_judged : (client file : ℕ) (bytes : List ℕ) (taken : Option ℕ) → is_started_in old.files file ≡ true
      → is_good_client (client_in old.clients client) ≡ true → taken_of (client_in old.clients client) ≡ taken
      → ShowsAt place client file bytes old new v taken → Judged (Fact.CachedRead client file bytes)
  unfolding is_well_formed is_late_write is_false_done
  shown_judged client file bytes None started good none e =
      let fact : Fact = Fact.CachedRead client file bytes in
      stale_judged fact e (sym (started_told old file past k) ∙ started) (one-stays fact past refl k.one_write_cache)
      (read-of-none client file bytes (client_in old.clients client) past (k.clients client) good none)
  shown_judged client file bytes (Some taken) started good some (same, ((sees, others), files), kept, more) =
      let fact : Fact = Fact.CachedRead client file bytes in
      let seen : SeenClient = client_in old.clients client in
      let now : SeenClient = client_in new.clients client in
      let of_file : SeenFile = file_in old.files file in
      let formed : is_started file past ≡ true = sym (started_told old file past k) ∙ started in
      let stale : is_stale_read fact past ≡ not same = read-of-good client file taken bytes seen now of_file same
      past (k.clients client) (k.files file) (k.contents client file) started good some sees in
      match_bool same more
      (λ shown e. client_judged client fact e files others (λ f. refl) (λ c ne. refl)
      (all_well fact refl formed (stale ∙ ap not shown) refl refl)
      (client_reads client file taken bytes seen now of_file same past (k.clients client) sees)
      (read_held (file_in old.files) taken file bytes seen now same sees started some (k.contents client))
      (holders-stay fact past old.holders new.holders refl kept k.holders))
      (λ differs e. stale_judged fact e formed (one-stays fact past refl k.one_write_cache) (stale ∙ ap not differs))

  read_judged : (client file : ℕ) (bytes : List ℕ) → CachedReadAdds place client file bytes old new v
      → Judged (Fact.CachedRead client file bytes)
  unfolding is_well_formed is_late_write is_false_done
  read_judged client file bytes adds =
      let fact : Fact = Fact.CachedRead client file bytes in
      match_bool (is_started_in old.files file) adds
      (λ on more. match_bool (is_good_client (client_in old.clients client)) more
      (λ good shows. shown_judged client file bytes (taken_of (client_in old.clients client)) on good refl shows)
      (λ bad (e, (clients, files, kept)). safe_judged fact e (all_well fact refl (sym (started_told old file past k) ∙ on)
      (read-of-strayed client file bytes (client_in old.clients client) past (k.clients client) bad) refl refl)
      (same_files old new fact past files (λ f. refl) k) (same_clients old new fact past clients (λ c. refl) k)
      (λ c f. rw (files f, clients c) (k.contents c f))
      (holders-stay fact past old.holders new.holders refl kept k.holders)))
      (λ off e. malformed_judged fact e (sym (started_told old file past k) ∙ off))

  -- ---- any fact

  pub judged : (fact : Fact) → place ≡ length past + 1 → Adds place fact old new v → Judged fact
  judged (Fact.Start file bytes) at adds = start_judged file bytes adds
  judged (Fact.Joined client) at adds = joined_judged client adds
  judged (Fact.Dropped client) at adds = dropped_judged client adds
  judged (Fact.Expired client file) at adds = expired_judged client file adds
  judged (Fact.Sent client) at adds = sent_judged client at adds
  judged (Fact.Took client) at adds = took_judged client adds
  judged (Fact.Opened file client) at adds = opened_judged file client at adds
  judged (Fact.Changed file client number patch) at adds = changed_judged file client number patch at adds
  judged (Fact.Wrote client file number patch buffered) at adds = wrote_judged client file number patch buffered at adds
  judged (Fact.Settled client number outcome) at adds = settled_judged client number outcome adds
  judged (Fact.Believes client file state) at adds = believes_judged client file state adds
  judged (Fact.CachedRead client file bytes) at adds = read_judged client file bytes adds
  judged (Fact.Strayed client) at adds = strayed_judged client adds
