-- All entries have their turns, in the order of their files.
use Rattle.lease_laws.proofs.Words.{◌++◌, ◌+◌, ◌-◌, ◌<◌, ◌∙◌, ◌≡◌, ◌≤◌, Answer, Bool, Client, Entry, List, Note}
use Rattle.lease_laws.proofs.Words.{Turn, ℕ, [], add-one, all_turned, ap, arith, belief_of, believes_noted, cases_lt}
use Rattle.lease_laws.proofs.Words.{closed_entry, fun_ext, inl, inr, knows_file, length, length-set, map, map-append}
use Rattle.lease_laws.proofs.Words.{nat_tests, numbered, numbers_to, refl, request_written, suc, sym, true, zero}
use Rattle.std.proofs.lemmas.List.{flat_map_more}
use Rattle.std.proofs.lemmas.Option.{slice_get_cases}
use Rattle.lease_client.specs.Known.{Known, client_of}
use Rattle.lease_client.specs.Links.{link_turn, is_made, linked, entries_to, requests_to, notes_to}
use Rattle.lease_client.specs.Turns.{Given, IsAfter, turn_written, given_by}
use Rattle.lease_client.specs.declared.machine.links.Link.{Link}
use Rattle.lease_client.proofs.Entries.{number_set}
use Rattle.lease_client.proofs.Turned.{with_entry}

-- ---- the entries

pub length_to : (turn : ℕ → Entry → Turn) (entries : List Entry) (k : ℕ) → length (entries_to turn entries k) ≡ length entries
length_to turn entries zero = refl
length_to turn entries (suc k) = length-set (entries_to turn entries k) k _ ∙ length_to turn entries k

pub untouched : (turn : ℕ → Entry → Turn) (entries : List Entry) (k n : ℕ) → k ≤ n → k ≤ length entries
    → numbered (closed_entry []) (entries_to turn entries k) (suc n) ≡ numbered (closed_entry []) entries (suc n)
untouched turn entries zero n below inside = refl
untouched turn entries (suc k) n below inside =
    let before = untouched turn entries k n (omega arith) (omega arith) in
    let place : k < length (entries_to turn entries k) = omega (arith, length_to turn entries k) in
    let e = number_set (entries_to turn entries k) k (suc n)
    (turn (suc k) (numbered (closed_entry []) entries (suc k))).entry place in
    grind (arith, nat_tests, e, before)

touched : (turn : ℕ → Entry → Turn) (entries : List Entry) (k n : ℕ) → n < k → k ≤ length entries
    → numbered (closed_entry []) (entries_to turn entries k) (suc n)
    ≡ (turn (suc n) (numbered (closed_entry []) entries (suc n))).entry
touched turn entries zero n below inside = absurd (omega arith)
touched turn entries (suc k) n below inside =
    let place : k < length (entries_to turn entries k) = omega (arith, length_to turn entries k) in
    let e = number_set (entries_to turn entries k) k (suc n)
    (turn (suc k) (numbered (closed_entry []) entries (suc k))).entry place in
    elim (cases_lt n k) [
      | inl before ↦ let t = touched turn entries k n before (omega arith) in grind (arith, nat_tests, e, t)
      | inr last ↦ let same : n ≡ k = omega (arith, last) in grind (arith, nat_tests, e, same)
    ]

past : (entries : List Entry) (n : ℕ) → length entries ≤ n → numbered (closed_entry []) entries (suc n) ≡ closed_entry []
unfolding numbered
past entries n behind = grind (arith, nat_tests, slice_get_cases entries n, behind)

-- a closed entry without writes stays so
abbrev LeavesClosed : (ℕ → Entry → Turn) → Type 0
LeavesClosed turn = (file : ℕ) → (turn file (closed_entry [])).entry ≡ closed_entry []

all_at : (turn : ℕ → Entry → Turn) (entries : List Entry) → LeavesClosed turn → (file : ℕ)
    → numbered (closed_entry []) (entries_to turn entries (length entries)) file
    ≡ (turn file (numbered (closed_entry []) entries file)).entry
unfolding numbered
all_at turn entries leaves zero = sym (leaves 0)
all_at turn entries leaves (suc n) = elim (cases_lt n (length entries)) [
  | inl within ↦ touched turn entries (length entries) n within (omega arith)
  | inr behind ↦
      let e = past entries n behind in
      past (entries_to turn entries (length entries)) n (omega (arith, length_to turn entries (length entries), behind))
      ∙ sym (leaves (suc n)) ∙ ap (λ (x : Entry). (turn (suc n) x).entry) (sym e)
]

all_entries : (turn : ℕ → Entry → Turn) (entries : List Entry) → LeavesClosed turn
    → let after : ℕ → Entry = λ file. (turn file (numbered (closed_entry []) entries file)).entry in
    numbered (closed_entry []) (entries_to turn entries (length entries)) ≡ after
all_entries turn entries leaves = fun_ext (all_at turn entries leaves)

-- ---- the client after all turns

abbrev with_table : Client → Bool → ℕ → (ℕ → Entry) → Client
with_table client online files entries =
    record client { is_online = online; files = files; entries = entries }

pub all_after : (known : Known) (online : Bool) (turn : ℕ → Entry → Turn) (given : Given) → LeavesClosed turn
    → given.answer ≡ Answer.Quiet
    → given.requests ≡ map request_written (requests_to turn (client_of known).entries (length known.entries))
    → given.notes ≡ notes_to turn (client_of known).entries (length known.entries)
    → IsAfter (record known { entries = entries_to turn known.entries (length known.entries); is_online = online }) given
    (all_turned (client_of known) online turn)
all_after known online turn given leaves answer requests notes = record {
  client = ap (λ n. with_table (client_of known) online n (numbered (closed_entry [])
      (entries_to turn known.entries (length known.entries)))) (length_to turn known.entries (length known.entries))
      ∙ ap (λ (t : ℕ → Entry). with_table (client_of known) online (length known.entries) t)
      (all_entries turn known.entries leaves);
  answer = answer;
  requests = requests;
  notes = notes;
}

-- ---- one file more

pub requests_more : (turn : ℕ → Entry → Turn) (entries : ℕ → Entry) (k : ℕ)
    → map request_written (requests_to turn entries k) ++ map request_written (turn (k + 1) (entries (k + 1))).requests
    ≡ map request_written (requests_to turn entries (k + 1))
requests_more turn entries k = rw (add-one k)
    (sym (map-append request_written (requests_to turn entries k) (turn (suc k) (entries (suc k))).requests)
    ∙ ap (map request_written) (flat_map_more (λ file. (turn file (entries file)).requests) [] (numbers_to k) (suc k)))

abbrev noted : (ℕ → Entry → Turn) → (ℕ → Entry) → ℕ → List Note
noted turn entries file = (turn file (entries file)).settled
    ++ believes_noted file (belief_of (entries file)) (belief_of (turn file (entries file)).entry)

pub notes_more : (turn : ℕ → Entry → Turn) (entries : ℕ → Entry) (k : ℕ)
    → notes_to turn entries k ++ noted turn entries (k + 1) ≡ notes_to turn entries (k + 1)
notes_more turn entries k = rw (add-one k) (flat_map_more (noted turn entries) [] (numbers_to k) (suc k))

-- ---- the two links

pub linked_is : (client : Client) (link : Link)
    → linked client link ≡ all_turned client (is_made link) (link_turn link client.guid)
linked_is client link = grind arith

pub leaves_closed : (link : Link) (guid : List ℕ) → LeavesClosed (link_turn link guid)
leaves_closed link guid file = grind arith

-- ---- one turn more of the machine

abbrev pub known_to : Known → (ℕ → Entry → Turn) → ℕ → Known
known_to known turn k = record known { entries = entries_to turn known.entries k }

pub knows_next : (known current : Known) (turn : ℕ → Entry → Turn) (k : ℕ) → current ≡ known_to known turn k
    → k < length known.entries → knows_file (client_of current) (k + 1) ≡ true
knows_next known current turn k is below =
    rw is (let e = length_to turn known.entries k in grind (arith, nat_tests, e, below))

same_entry : (known current : Known) (turn : ℕ → Entry → Turn) (k : ℕ) → current ≡ known_to known turn k
    → k < length known.entries → (client_of current).entries (k + 1) ≡ (client_of known).entries (k + 1)
same_entry known current turn k is below =
    rw (is, add-one k) (untouched turn known.entries k k (omega arith) (omega (arith, below)))

pub machine_more : (known current next : Known) (link : Link) (k : ℕ)
    → current ≡ known_to known (link_turn link known.guid) k → k < length known.entries
    → next ≡ with_entry current (k + 1) (link_turn link current.guid (k + 1) ((client_of current).entries (k + 1))).entry
    → next ≡ known_to known (link_turn link known.guid) (k + 1)
machine_more known current next link k is below stands =
    let e : suc k - 1 ≡ k = omega arith in
    let same = same_entry known current (link_turn link known.guid) k is below in
    stands ∙ rw (same, is, add-one k, e) refl

pub given_more : (known current : Known) (given : Given) (link : Link) (k : ℕ)
    → current ≡ known_to known (link_turn link known.guid) k → k < length known.entries
    → given ≡ given_by (k + 1) (belief_of ((client_of current).entries (k + 1)))
    (turn_written (link_turn link current.guid (k + 1) ((client_of current).entries (k + 1))))
    → given ≡ given_by (k + 1) (belief_of ((client_of known).entries (k + 1)))
    (turn_written (link_turn link known.guid (k + 1) ((client_of known).entries (k + 1))))
given_more known current given link k is below out =
    let same = same_entry known current (link_turn link known.guid) k is below in
    out ∙ rw (same, is) refl

pub linked_after : (known current final : Known) (link : Link) (given : Given) (k : ℕ)
    → current ≡ known_to known (link_turn link known.guid) k → k ≡ length known.entries
    → final ≡ record current { is_online = is_made link } → given.answer ≡ Answer.Quiet
    → given.requests ≡ map request_written (requests_to (link_turn link known.guid) (client_of known).entries k)
    → given.notes ≡ notes_to (link_turn link known.guid) (client_of known).entries k
    → IsAfter final given (linked (client_of known) link)
linked_after known current final link given k is all stands answer requests notes =
    let there : final ≡ record known {
      entries = entries_to (link_turn link known.guid) known.entries (length known.entries);
      is_online = is_made link;
    } = stands ∙ rw (is, all) refl in
    rw (there, linked_is (client_of known) link)
    (all_after known (is_made link) (link_turn link known.guid) given (leaves_closed link known.guid)
    answer (rw all at requests) (rw all at notes))
