use Rattle.std.proofs.Common.{◌≡◌, ◌≢◌, ℕ, zero, suc, ◌+◌, ◌≤◌, ◌<◌, List, [], ◌∷◌, length, take, drop, refl, sym, arith, add-one}
use Rattle.std.proofs.Common.{length-drop, ◌-◌, slice_index, ◌==◌, true, Option, Some, None, Result, Ok}
use Rattle.std.proofs.lemmas.{List.take_all, Bool.Decides.nat_tests, Grind.common_steps, List.Quantifiers.position-Some}
use Rattle.lease_texts.specs.{Pieces.pieces, Pieces.longer, Pieces.lines_of, Reading.reads_on, Fields.state_of_wire}
use Rattle.lease_state.specs.{State.state_of, State.state_of_bits, State.bits_of_state, declared.state.LeaseState.LeaseState}
use Rattle.std.specs.List.{position, position_or_len}
use Rattle.{std.proofs.lemmas.List.Sums.fails_before_first, lease_state.proofs.StateLemmas.bits_of_state-small}

-- A text's first piece ends before the first separator, and the others are those of what follows.
pub pieces_cut : (separator : ℕ) (last : List (List ℕ)) (bytes : List ℕ) (k : ℕ) → k < length bytes
    → ((i : ℕ) → i < k → slice_index bytes i ≢ separator) → slice_index bytes k ≡ separator
    → pieces separator last bytes ≡ take k bytes ∷ pieces separator last (drop (suc k) bytes)
unfolding pieces longer
pieces_cut separator last [] k inside none here = absurd (omega (arith, inside))
pieces_cut separator last (byte ∷ bytes) zero inside none here = grind (arith, nat_tests)
pieces_cut separator last (byte ∷ bytes) (suc k) inside none here =
    let first = none 0 (omega arith) in
    let rest = pieces_cut separator last bytes k (omega (arith, inside)) (λ i below. none (suc i) (omega (arith, below))) here in
    grind (arith, nat_tests)

pub pieces_found : (separator : ℕ) (last : List (List ℕ)) (bytes : List ℕ) (k n : ℕ) → k < length bytes
    → ((i : ℕ) → i < k → slice_index bytes i ≢ separator) → slice_index bytes k ≡ separator → n ≡ length bytes - (k + 1)
    → pieces separator last bytes ≡ take k bytes ∷ pieces separator last (take n (drop (k + 1) bytes))
pieces_found separator last bytes k n inside none here rest =
    let all = take_all n (drop (k + 1) bytes) (omega (arith, rest, length-drop {A = ℕ})) in
    rw (all, add-one k) (pieces_cut separator last bytes k inside none here)

-- A text with no separator is one piece.
pub pieces_whole : (separator : ℕ) (bytes : List ℕ) → ((i : ℕ) → i < length bytes → slice_index bytes i ≢ separator)
    → pieces separator ([] ∷ []) bytes ≡ bytes ∷ []
unfolding pieces longer
pieces_whole separator [] none = refl
pieces_whole separator (byte ∷ bytes) none =
    let first = none 0 (omega arith) in
    let rest = pieces_whole separator bytes (λ i below. none (suc i) (omega (arith, below))) in grind (arith, nat_tests)

-- ---- the place of the first separator

pub separator_at : (separator : ℕ) (last : List (List ℕ)) (bytes : List ℕ) (k n : ℕ)
    → Some k ≡ position (λ byte. byte == separator) bytes → n ≡ length bytes - (k + 1)
    → pieces separator last bytes ≡ take k bytes ∷ pieces separator last (take n (drop (k + 1) bytes))
separator_at separator last bytes k n is rest =
    let found = position-Some (λ byte. byte == separator) bytes k 0 (sym is) in
    pieces_found separator last bytes k n found.0
    (λ i below same. let other = found.2 i below in grind (arith, nat_tests, same, other))
    (let here = found.1 in grind (arith, nat_tests, here)) rest

none_before : (separator : ℕ) (bytes : List ℕ) → position (λ byte. byte == separator) bytes ≡ None
    → (i : ℕ) → i < length bytes → slice_index bytes i ≢ separator
none_before separator bytes none i below same =
    let past : length bytes ≤ position_or_len (λ byte. byte == separator) bytes = grind (arith, common_steps, none) in
    let fails = fails_before_first (λ byte. byte == separator) bytes i 0 (omega (arith, past, below)) in
    absurd (grind (arith, nat_tests, same, fails))

pub no_separator : (separator : ℕ) (bytes : List ℕ) → None ≡ position (λ byte. byte == separator) bytes
    → pieces separator ([] ∷ []) bytes ≡ bytes ∷ []
no_separator separator bytes none = pieces_whole separator bytes (none_before separator bytes (sym none))

-- Each text has a first piece.
pub pieces_some : (separator : ℕ) (bytes : List ℕ) → pieces separator ([] ∷ []) bytes ≢ []
unfolding pieces longer
pieces_some separator [] = λ same. cc
pieces_some separator (byte ∷ bytes) = λ same. grind arith

-- A number of the wire up to 7 names a state of that number.
pub state_named : (state : LeaseState) (bits : ℕ) → bits ≤ 7 → state_of state ≡ state_of_bits bits
    → bits_of_state (state_of state) ≡ state.0 → state ≡ state_of_wire bits
state_named state bits small is named =
    let same = bits_of_state-small bits small in grind arith

-- A text that is not empty and has no line feed is one line.
pub lines_whole : (bytes : List ℕ) → bytes ≢ [] → ((i : ℕ) → i < length bytes → slice_index bytes i ≢ 10)
    → pieces 10 [] bytes ≡ bytes ∷ []
unfolding pieces longer
lines_whole [] some none = absurd (some refl)
lines_whole (byte ∷ []) some none = let first = none 0 (omega arith) in grind (arith, nat_tests)
lines_whole (byte ∷ next ∷ bytes) some none =
    let first = none 0 (omega arith) in
    let rest = lines_whole (next ∷ bytes) (λ same. cc) (λ i below. none (suc i) (omega (arith, below))) in
    grind (arith, nat_tests)

-- Where no line is left, what was read is all.
pub nothing_left : {S : Type 0} (add : S → List ℕ → Option S) (number : ℕ) (state : S) (rest : List ℕ) (all : Result S ℕ)
    → (length rest == 0) ≡ true → reads_on add number state (lines_of rest) ≡ all → all ≡ Ok state
unfolding pieces reads_on
nothing_left add number state [] all empty whole = sym whole
nothing_left add number state (byte ∷ rest) all empty whole = absurd (grind (arith, nat_tests, empty))
