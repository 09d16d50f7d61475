-- Facts in words.
use Rattle.std.specs.Prelude.{ℕ, ◌++◌, Bool, true, false, List, [], Option, Some, None, codes, if◌then◌else◌, nat_le, length}
use Rattle.std.specs.Prelude.{take}
use Rattle.std.specs.Fmt.{decimal}
use Rattle.hex.specs.Hex.{encode_lower}
use Rattle.lease_state.specs.State.{state_of}
use Rattle.lease_state.specs.declared.number.ClientNo.{ClientNo}
use Rattle.lease_state.specs.declared.patch.Patch.{Patch}
use Rattle.lease_facts.specs.declared.fact.Fact.{Fact}
use Rattle.lease_facts.specs.declared.fact.Fact.TheVariants as fact
use Rattle.lease_facts.specs.declared.fact.FactKind.{FactKind}
use Rattle.lease_facts.specs.declared.fact.FactKind.TheVariants as kind
use Rattle.lease_facts.specs.Facts.{client_deed, client_of, kind_of}
use Rattle.lease_texts.specs.Words.{digits_word, outcome_word, state_word}

-- bytes as digits, at most 64 of them, and then how many there are
unfoldable pub shown_bytes : List ℕ → List ℕ
shown_bytes bytes =
    if nat_le (length bytes) 64 then digits_word bytes
    else encode_lower (take 64 bytes) ++ (codes "... (" ++ (decimal (length bytes) ++ codes " bytes)"))

unfoldable pub shown_patch : Patch → List ℕ
shown_patch patch = shown_bytes patch.bytes ++ (codes " at " ++ decimal patch.offset)

-- what stands before the patch of a change, and of a write
abbrev pub changed_words : ℕ → ℕ → ℕ → List ℕ
changed_words file client number =
    codes "file " ++ (decimal file ++ (codes " is changed by write " ++ (decimal number ++ (codes " of client " ++ (decimal
    client ++ codes ": ")))))

abbrev pub wrote_words : ℕ → ℕ → ℕ → List ℕ
wrote_words client file number =
    codes "client " ++ (decimal client ++ (codes " is given write " ++ (decimal number ++ (codes " of file " ++ (decimal file
    ++ codes ": ")))))

abbrev pub started_words : ℕ → List ℕ
started_words file = codes "file " ++ (decimal file ++ codes " is started with ")

abbrev pub read_words : ℕ → ℕ → List ℕ
read_words client file =
    codes "client " ++ (decimal client ++ (codes " reads from its cache of file " ++ (decimal file ++ codes ": ")))

abbrev pub way_words : Bool → List ℕ
way_words true = codes ", buffered"
way_words false = codes ", sent on"

-- what the client does that a fact is about, where that is all that the fact says
abbrev pub kind_deed : FactKind → List ℕ
kind_deed (kind.Client told) = client_deed told
kind_deed _ = []

abbrev pub fact_deed : Fact → List ℕ
fact_deed told = kind_deed (kind_of told)

-- the same behind the client's name
abbrev pub deed_words : Option ClientNo → List ℕ → List ℕ
deed_words None deed = []
deed_words (Some client) deed = codes "client " ++ (decimal client.0 ++ (codes " " ++ deed))

-- a fact in words
abbrev pub fact_words : Fact → List ℕ
fact_words (fact.Start file bytes) = started_words file.0 ++ shown_bytes bytes
fact_words (fact.Expired client file) =
    codes "client " ++ (decimal client.0 ++ (codes " lets the timer of a break of file " ++ (decimal file.0 ++ codes
    " run out")))
fact_words (fact.Sent client) = codes "a message is sent to client " ++ decimal client.0
fact_words (fact.Opened file client) =
    codes "file " ++ (decimal file.0 ++ (codes " is opened for client " ++ decimal client.0))
fact_words (fact.Changed file client number patch) = changed_words file.0 client.0 number ++ shown_patch patch
fact_words (fact.Wrote client file number patch buffered) =
    wrote_words client.0 file.0 number ++ (shown_patch patch ++ way_words buffered)
fact_words (fact.Settled client number outcome) =
    codes "client " ++ (decimal client.0 ++ (codes " learns that its write " ++ (decimal number ++ (codes " is " ++
    outcome_word outcome))))
fact_words (fact.Believes client file state) =
    codes "client " ++ (decimal client.0 ++ (codes " believes " ++ (state_word (state_of state) ++ (codes " of file " ++
    decimal file.0))))
fact_words (fact.CachedRead client file bytes) = read_words client.0 file.0 ++ shown_bytes bytes
fact_words other = deed_words (client_of other) (fact_deed other)
