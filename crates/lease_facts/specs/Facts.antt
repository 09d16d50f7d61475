-- Facts of the code as the definitions see them; their kinds, and the words that their lines begin with.
use Rattle.std.specs.Prelude.{◌≡◌, ℕ, List, [], ◌∷◌, codes, bytes_eq, if◌then◌else◌, Option, Some, None}
use Rattle.lease_state.specs.State.{state_of}
use Rattle.lease_client.specs.Answers.{settlement_of}
use Rattle.lease_model.specs.records.Facts as model
use Rattle.lease_state.specs.declared.number.ClientNo.{ClientNo}
use Rattle.lease_state.specs.declared.number.FileNo.{FileNo}
use Rattle.lease_facts.specs.declared.fact.Fact as fact
use Rattle.lease_facts.specs.declared.fact.ClientFact.{ClientFact}
use Rattle.lease_facts.specs.declared.fact.ClientFact.TheVariants as told
use Rattle.lease_facts.specs.declared.fact.FactKind.{FactKind}
use Rattle.lease_facts.specs.declared.fact.FactKind.TheVariants as kind

abbrev pub fact_of : fact.Fact → model.Fact
fact_of (fact.TheVariants.Start file bytes) = model.Fact.Start file.0 bytes
fact_of (fact.TheVariants.Joined client) = model.Fact.Joined client.0
fact_of (fact.TheVariants.Dropped client) = model.Fact.Dropped client.0
fact_of (fact.TheVariants.Expired client file) = model.Fact.Expired client.0 file.0
fact_of (fact.TheVariants.Sent client) = model.Fact.Sent client.0
fact_of (fact.TheVariants.Took client) = model.Fact.Took client.0
fact_of (fact.TheVariants.Opened file client) = model.Fact.Opened file.0 client.0
fact_of (fact.TheVariants.Changed file client number patch) = model.Fact.Changed file.0 client.0 number patch
fact_of (fact.TheVariants.Wrote client file number patch buffered) =
    model.Fact.Wrote client.0 file.0 number patch buffered
fact_of (fact.TheVariants.Settled client number outcome) =
    model.Fact.Settled client.0 number (settlement_of outcome)
fact_of (fact.TheVariants.Believes client file state) = model.Fact.Believes client.0 file.0 (state_of state)
fact_of (fact.TheVariants.CachedRead client file bytes) = model.Fact.CachedRead client.0 file.0 bytes
fact_of (fact.TheVariants.Strayed client) = model.Fact.Strayed client.0

-- ---- facts that say no more than which client they are about

abbrev pub client_facts : List ClientFact
client_facts = told.Sent ∷ told.Took ∷ told.Joined ∷ told.Dropped ∷ told.Strayed ∷ []

abbrev pub client_word : ClientFact → List ℕ
client_word told.Sent = codes "sent"
client_word told.Took = codes "took"
client_word told.Joined = codes "joined"
client_word told.Dropped = codes "dropped"
client_word told.Strayed = codes "strayed"

abbrev pub client_fact : ClientFact → ClientNo → fact.Fact
client_fact told.Sent client = fact.TheVariants.Sent client
client_fact told.Took client = fact.TheVariants.Took client
client_fact told.Joined client = fact.TheVariants.Joined client
client_fact told.Dropped client = fact.TheVariants.Dropped client
client_fact told.Strayed client = fact.TheVariants.Strayed client

-- what the client does
abbrev pub client_deed : ClientFact → List ℕ
client_deed told.Sent = codes "is sent a message"
client_deed told.Took = codes "takes a message"
client_deed told.Joined = codes "joins"
client_deed told.Dropped = codes "loses its connection"
client_deed told.Strayed = codes "strays"

unfoldable pub client_named_among : List ClientFact → List ℕ → Option ClientFact
client_named_among [] word = None
client_named_among (one ∷ others) word = if bytes_eq word (client_word one) then Some one else client_named_among others word

-- the kind that has this word
abbrev pub client_named : List ℕ → Option ClientFact
client_named word = client_named_among client_facts word

-- ---- all facts

abbrev pub kind_of : fact.Fact → FactKind
kind_of (fact.TheVariants.Start file bytes) = kind.Start
kind_of (fact.TheVariants.Joined client) = kind.Client told.Joined
kind_of (fact.TheVariants.Dropped client) = kind.Client told.Dropped
kind_of (fact.TheVariants.Expired client file) = kind.Expired
kind_of (fact.TheVariants.Sent client) = kind.Client told.Sent
kind_of (fact.TheVariants.Took client) = kind.Client told.Took
kind_of (fact.TheVariants.Opened file client) = kind.Opened
kind_of (fact.TheVariants.Changed file client number patch) = kind.Changed
kind_of (fact.TheVariants.Wrote client file number patch buffered) = kind.Wrote
kind_of (fact.TheVariants.Settled client number outcome) = kind.Settled
kind_of (fact.TheVariants.Believes client file state) = kind.Believes
kind_of (fact.TheVariants.CachedRead client file bytes) = kind.CachedRead
kind_of (fact.TheVariants.Strayed client) = kind.Client told.Strayed

-- the client that a fact is about
abbrev pub client_of : fact.Fact → Option ClientNo
client_of (fact.TheVariants.Start file bytes) = None
client_of (fact.TheVariants.Joined client) = Some client
client_of (fact.TheVariants.Dropped client) = Some client
client_of (fact.TheVariants.Expired client file) = Some client
client_of (fact.TheVariants.Sent client) = Some client
client_of (fact.TheVariants.Took client) = Some client
client_of (fact.TheVariants.Opened file client) = Some client
client_of (fact.TheVariants.Changed file client number patch) = Some client
client_of (fact.TheVariants.Wrote client file number patch buffered) = Some client
client_of (fact.TheVariants.Settled client number outcome) = Some client
client_of (fact.TheVariants.Believes client file state) = Some client
client_of (fact.TheVariants.CachedRead client file bytes) = Some client
client_of (fact.TheVariants.Strayed client) = Some client

-- the fact starts a file: no other kind is about no client
abbrev pub IsStart : fact.Fact → Type 0
IsStart one = (file : FileNo) × (bytes : List ℕ) × (one ≡ fact.TheVariants.Start file bytes)

-- the same of a fact as the definitions see it
abbrev pub client_about : model.Fact → Option ℕ
client_about (model.Fact.Start file bytes) = None
client_about (model.Fact.Joined client) = Some client
client_about (model.Fact.Dropped client) = Some client
client_about (model.Fact.Expired client file) = Some client
client_about (model.Fact.Sent client) = Some client
client_about (model.Fact.Took client) = Some client
client_about (model.Fact.Opened file client) = Some client
client_about (model.Fact.Changed file client number patch) = Some client
client_about (model.Fact.Wrote client file number patch buffered) = Some client
client_about (model.Fact.Settled client number outcome) = Some client
client_about (model.Fact.Believes client file state) = Some client
client_about (model.Fact.CachedRead client file bytes) = Some client
client_about (model.Fact.Strayed client) = Some client

abbrev pub client_number : Option ClientNo → Option ℕ
client_number None = None
client_number (Some client) = Some client.0

-- the word that the line of a fact begins with
abbrev pub kind_word : FactKind → List ℕ
kind_word (kind.Client one) = client_word one
kind_word kind.Start = codes "start"
kind_word kind.Expired = codes "expired"
kind_word kind.Opened = codes "opened"
kind_word kind.Changed = codes "changed"
kind_word kind.Wrote = codes "wrote"
kind_word kind.Settled = codes "settled"
kind_word kind.Believes = codes "believes"
kind_word kind.CachedRead = codes "cachedread"

-- all these words
abbrev pub facts_listed : List ℕ
facts_listed =
    codes "start, joined, dropped, expired, sent, took, opened, changed, wrote, settled, believes, cachedread or strayed"
