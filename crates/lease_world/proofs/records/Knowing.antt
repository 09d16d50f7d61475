-- What is known after one fact more, from what is known of the file and the client that it is about.
use Rattle.lease_laws.proofs.Words.{◌==◌, ◌∙◌, ◌∷◌, ◌≡◌, ◌≢◌, Bool, Fact, List, ℕ, arith, false, if◌then◌else◌, is_good}
use Rattle.lease_laws.proofs.Words.{is_started, refl, true}
use Rattle.std.specs.Prelude.{MatchBool}
use Rattle.lease_world.specs.judge.Knows.{KnowsFile, KnowsClient, HasContents, Knows}
use Rattle.lease_world.specs.judge.Seen.{KeptFacts, SeenFile, SeenClient, file_in, client_in, cache_in, is_good_client}
use Rattle.lease_world.specs.judge.Tables.{HasClient, HasFile, HasSameClients, HasSameFiles, is_started_in}
use Rattle.lease_world.proofs.records.Others.{file_stays, client_stays}
use Rattle.lease_world.proofs.records.Skips.{touches, concerns}

-- ---- one place and the others

pub each_place : (P : ℕ → Type 0) (k : ℕ) → P k → ((n : ℕ) → n ≢ k → P n) → (n : ℕ) → P n
each_place P k here others n = grind arith

pub is_apart : (n k : ℕ) → n ≢ k → (k == n) ≡ false
is_apart n k ne = grind arith

at_place : {X : Type 0} (k : ℕ) (x y : X) → (if k == k then x else y) ≡ x
at_place k x y = let e : (k == k) ≡ true = grind arith in rw e refl

off_place : {X : Type 0} (n k : ℕ) (x y : X) → n ≢ k → (if n == k then x else y) ≡ y
off_place n k x y ne = let e : (n == k) ≡ false = grind arith in rw e refl

pub client-here : (old new : List SeenClient) (client : ℕ) (seen : SeenClient) → HasClient old new client seen
    → client_in new client ≡ seen
client-here old new client seen has = has client ∙ at_place client seen (client_in old client)

pub client-others : (old new : List SeenClient) (client : ℕ) (seen : SeenClient) → HasClient old new client seen
    → (n : ℕ) → n ≢ client → client_in new n ≡ client_in old n
client-others old new client seen has n ne = has n ∙ off_place n client seen (client_in old n) ne

pub file-here : (old new : List SeenFile) (file : ℕ) (seen : SeenFile) → HasFile old new file seen → file_in new file ≡ seen
file-here old new file seen has = has file ∙ at_place file seen (file_in old file)

pub file-others : (old new : List SeenFile) (file : ℕ) (seen : SeenFile) → HasFile old new file seen
    → (n : ℕ) → n ≢ file → file_in new n ≡ file_in old n
file-others old new file seen has n ne = has n ∙ off_place n file seen (file_in old n) ne

-- ---- all files, all clients

pub same_files : (old new : KeptFacts) (fact : Fact) (past : List Fact) → HasSameFiles old.files new.files
    → ((f : ℕ) → touches f fact ≡ false) → Knows old past → (f : ℕ) → KnowsFile f (file_in new.files f) (fact ∷ past)
same_files old new fact past same quiet k f = rw (same f) (file_stays f (file_in old.files f) fact past (quiet f) (k.files f))

pub one_file : (old new : KeptFacts) (file : ℕ) (fact : Fact) (past : List Fact)
    → ((n : ℕ) → n ≢ file → file_in new.files n ≡ file_in old.files n) → ((f : ℕ) → f ≢ file → touches f fact ≡ false)
    → KnowsFile file (file_in new.files file) (fact ∷ past)
    → Knows old past → (f : ℕ) → KnowsFile f (file_in new.files f) (fact ∷ past)
one_file old new file fact past others quiet here k = each_place (λ n. KnowsFile n (file_in new.files n) (fact ∷ past)) file here
    (λ n ne. rw (others n ne) (file_stays n (file_in old.files n) fact past (quiet n ne) (k.files n)))

pub same_clients : (old new : KeptFacts) (fact : Fact) (past : List Fact) → HasSameClients old.clients new.clients
    → ((c : ℕ) → concerns c fact ≡ false) → Knows old past → (c : ℕ) → KnowsClient c (client_in new.clients c) (fact ∷ past)
same_clients old new fact past same quiet k c =
    rw (same c) (client_stays c (client_in old.clients c) fact past (quiet c) (k.clients c))

pub one_client : (old new : KeptFacts) (client : ℕ) (fact : Fact) (past : List Fact)
    → ((n : ℕ) → n ≢ client → client_in new.clients n ≡ client_in old.clients n)
    → ((c : ℕ) → c ≢ client → concerns c fact ≡ false) → KnowsClient client (client_in new.clients client) (fact ∷ past)
    → Knows old past → (c : ℕ) → KnowsClient c (client_in new.clients c) (fact ∷ past)
one_client old new client fact past others quiet here k =
    each_place (λ n. KnowsClient n (client_in new.clients n) (fact ∷ past)) client here
    (λ n ne. rw (others n ne) (client_stays n (client_in old.clients n) fact past (quiet n ne) (k.clients n)))

-- ---- all contents

abbrev pub Holds : List SeenFile → List SeenClient → ℕ → ℕ → Type 0
Holds files clients client file =
    HasContents (file_in files file) (client_in clients client).taken (cache_in (client_in clients client).caches file)

-- files as before, and one client
pub holds_client : (old new : KeptFacts) (client : ℕ) (past : List Fact) → HasSameFiles old.files new.files
    → ((n : ℕ) → n ≢ client → client_in new.clients n ≡ client_in old.clients n)
    → ((f : ℕ) → HasContents (file_in old.files f) (client_in new.clients client).taken
    (cache_in (client_in new.clients client).caches f)) → Knows old past → (c f : ℕ) → Holds new.files new.clients c f
holds_client old new client past same others here k c f = grind arith

-- clients as before, and one file
pub holds_file : (old new : KeptFacts) (file : ℕ) (past : List Fact) → HasSameClients old.clients new.clients
    → ((n : ℕ) → n ≢ file → file_in new.files n ≡ file_in old.files n)
    → ((c : ℕ) → HasContents (file_in new.files file) (client_in old.clients c).taken
    (cache_in (client_in old.clients c).caches file)) → Knows old past → (c f : ℕ) → Holds new.files new.clients c f
holds_file old new file past same others here k c f = grind arith

-- ---- what is asked of the tables, and what the record says

pub started_told : (seen : KeptFacts) (file : ℕ) (past : List Fact) → Knows seen past
    → is_started_in seen.files file ≡ is_started file past
started_told seen file past k = (k.files file).started

pub good_told : (client : ℕ) (seen : SeenClient) (past : List Fact) → KnowsClient client seen past
    → is_good_client seen ≡ is_good client past
unfolding is_good
good_told client seen past k = rw (k.strayed, k.served) refl

-- ---- what is told by a test

pub match_bool : {P Q R : Type 0} (b : Bool) → MatchBool b P Q → (b ≡ true → P → R) → (b ≡ false → Q → R) → R
match_bool b m yes_so no_so = grind arith
