-- Where all entries of a client have their turn, the notes tell what it then believes.
use Rattle.lease_laws.proofs.Words.{◌&&◌, ◌++◌, ◌==◌, ◌∙◌, ◌∷◌, ◌≡◌, ◌≢◌, Bool, Client, ClientCall, Decides-eqb, Entry, List}
use Rattle.lease_laws.proofs.Words.{Note, Pending, Phase, Settlement, State, Turn, ℕ, [], all_turned, ap, append-nil, arith}
use Rattle.lease_laws.proofs.Words.{belief, belief_in, belief_of, believed_after, believes_noted, client_called, connect_turn}
use Rattle.lease_laws.proofs.Words.{false, flat_map, flat_map-append, if◌then◌else◌, knows_file, nat_le}
use Rattle.lease_laws.proofs.Words.{notice_turn, numbers_to, refl, subst, suc, sym, true, without, zero}
use Rattle.lease_laws.proofs.client.cases.Links.{HasNotices, any_notice}
use Rattle.lease_laws.proofs.client.Beliefs.{AreSettlements, settled_settle, settle_pass, noted_own, noted_other}
use Rattle.lease_laws.proofs.client.Beliefs.{commanded_behaves, taken_tells}
use Rattle.lease_laws.proofs.client.InFiles.{InFiles}
use Rattle.lease_laws.proofs.server.Lists.{either, clash}

-- one list of notes behind another
after_append : (file : ℕ) (old : State) (notes more : List Note)
    → believed_after file old (notes ++ more) ≡ believed_after file (believed_after file old notes) more
after_append file old [] more = refl
after_append file old (Note.Believes f state ∷ notes) more = after_append file (if f == file then state else old) notes more
after_append file old (note ∷ notes) more = after_append file old notes more

-- each file's notes: writes settled, and its belief where it changed
abbrev notes_of : (ℕ → List Note) → (ℕ → State) → (ℕ → State) → ℕ → List Note
notes_of settled old new file = settled file ++ believes_noted file (old file) (new file)

-- the notes of the files to n tell of a file among them what it has, and of another nothing
record TellTo (settled : ℕ → List Note) (old : ℕ → State) (new : ℕ → State) (file : ℕ) (n : ℕ) : Type 0 where
  among : (nat_le 1 file && nat_le file n) ≡ true
      → believed_after file (old file) (flat_map (notes_of settled old new) (numbers_to n)) ≡ new file
  beyond : (nat_le 1 file && nat_le file n) ≡ false
      → believed_after file (old file) (flat_map (notes_of settled old new) (numbers_to n)) ≡ old file

-- the notes of one file more
one_more : (settled : ℕ → List Note) (old new : ℕ → State) (file n : ℕ)
    → believed_after file (old file) (flat_map (notes_of settled old new) (numbers_to (suc n)))
    ≡ believed_after file (believed_after file (old file) (flat_map (notes_of settled old new) (numbers_to n)))
    (notes_of settled old new (suc n) ++ [])
one_more settled old new file n = ap (λ notes. believed_after file (old file) notes)
    (flat_map-append (notes_of settled old new) (numbers_to n) (suc n ∷ []))
    ∙ after_append file (old file) (flat_map (notes_of settled old new) (numbers_to n)) (notes_of settled old new (suc n) ++ [])

-- its own
last_own : (settled : ℕ → List Note) (old new : ℕ → State) (file : ℕ) → AreSettlements (settled file)
    → believed_after file (old file) (notes_of settled old new file ++ []) ≡ new file
last_own settled old new file s = ap (λ notes. believed_after file (old file) notes) (append-nil (notes_of settled old new file))
    ∙ settle_pass file (old file) (settled file) (believes_noted file (old file) (new file)) s
    ∙ noted_own file (old file) (new file)

-- another's
last_other : (settled : ℕ → List Note) (old new : ℕ → State) (file other : ℕ) (state : State) → file ≢ other
    → AreSettlements (settled other) → believed_after file state (notes_of settled old new other ++ []) ≡ state
last_other settled old new file other state apart s = ap (λ notes. believed_after file state notes)
    (append-nil (notes_of settled old new other))
    ∙ settle_pass file state (settled other) (believes_noted other (old other) (new other)) s
    ∙ noted_other file other state (old other) (new other) apart

-- all files to n
tell_to : (settled : ℕ → List Note) (old new : ℕ → State) (file : ℕ) (n : ℕ)
    → ((f : ℕ) → AreSettlements (settled f)) → TellTo settled old new file n
tell_to settled old new file zero s = record {
  among = λ e. absurd (none file e);
  beyond = λ e. refl;
}
  where
    none : (f : ℕ) → (nat_le 1 f && nat_le f 0) ≡ true → ⊥
    none f e = grind arith
tell_to settled old new file (suc n) s =
    let before = tell_to settled old new file n s in
    either (file == suc n)
    (λ e. let same : file ≡ suc n = (Decides-eqb file (suc n)).0 e in
    let own : believed_after file (old file) (flat_map (notes_of settled old new) (numbers_to (suc n))) ≡ new file =
    one_more settled old new file n ∙ ap (λ state. believed_after file state (notes_of settled old new (suc n) ++ []))
    (before.beyond (above file n same)) ∙ ap (λ f. believed_after file (old file) (notes_of settled old new f ++ [])) (sym same)
    ∙ last_own settled old new file (s file) in
    record {
      among = λ a. own;
      beyond = λ b. clash (nat_le 1 file && nat_le file (suc n)) (last file n same) b;
    })
    (λ e. let apart : file ≢ suc n = λ same. clash (file == suc n) ((Decides-eqb file (suc n)).1 same) e in
    let stays : believed_after file (old file) (flat_map (notes_of settled old new) (numbers_to (suc n)))
    ≡ believed_after file (old file) (flat_map (notes_of settled old new) (numbers_to n)) =
    one_more settled old new file n ∙ last_other settled old new file (suc n)
    (believed_after file (old file) (flat_map (notes_of settled old new) (numbers_to n))) apart (s (suc n)) in
    record {
      among = λ a. stays ∙ before.among (lower_true file n apart a);
      beyond = λ b. stays ∙ before.beyond (lower_false file n apart b);
    })
  where
    above : (f m : ℕ) → f ≡ suc m → (nat_le 1 f && nat_le f m) ≡ false
    above f m e = grind arith

    last : (f m : ℕ) → f ≡ suc m → (nat_le 1 f && nat_le f (suc m)) ≡ true
    last f m e = grind arith

    lower_true : (f m : ℕ) → f ≢ suc m → (nat_le 1 f && nat_le f (suc m)) ≡ true → (nat_le 1 f && nat_le f m) ≡ true
    lower_true f m apart e = grind arith

    lower_false : (f m : ℕ) → f ≢ suc m → (nat_le 1 f && nat_le f (suc m)) ≡ false → (nat_le 1 f && nat_le f m) ≡ false
    lower_false f m apart e = grind arith

-- every entry has its turn; those of files that aren't known keep their belief
all_tell : (client : Client) (online : Bool) (turn : ℕ → Entry → Turn)
    → ((file : ℕ) → AreSettlements (turn file (client.entries file)).settled) → ((file : ℕ) → knows_file client file ≡ false
    → belief client file ≡ belief_of (turn file (client.entries file)).entry)
    → (file : ℕ) → believed_after file (belief client file) (all_turned client online turn).notes
    ≡ belief (all_turned client online turn).client file
all_tell client online turn settles unknown file =
    let all = tell_to (λ f. (turn f (client.entries f)).settled) (λ f. belief client f)
    (λ f. belief_of (turn f (client.entries f)).entry) file client.files settles in
    either (knows_file client file) (λ k. all.among k) (λ k. all.beyond k ∙ unknown file k)

-- ---- a lost connection, and a new one

notices_settle : (sent : List Pending) → HasNotices sent (λ phase turn. AreSettlements turn.settled)
notices_settle sent = record {
  closed = settled_settle Settlement.Unknown sent;
  opening = λ access share. settled_settle Settlement.Unknown sent;
  ended = λ live. settled_settle Settlement.Unknown (sent ++ live.unsent);
  kept = λ live writes. settled_settle Settlement.Unknown (without (λ write. write.buffered) (sent ++ live.unsent));
  bare = λ live none. settled_settle Settlement.Unknown (sent ++ live.unsent);
  offline = λ parted. settled_settle Settlement.Unknown sent;
  reconnecting = λ parted. settled_settle Settlement.Unknown sent;
}

connect_settles : (client : Client) (file : ℕ) (sent : List Pending) (phase : Phase)
    → AreSettlements (connect_turn client file sent phase).settled
connect_settles client file sent phase = grind arith

-- a closed entry stays closed, and so its belief is none
notice_closed : (sent : List Pending) (phase : Phase) → phase ≡ Phase.Closed
    → belief_in phase ≡ belief_of (notice_turn sent phase).entry
notice_closed sent phase e = subst (λ p. belief_in p ≡ belief_of (notice_turn sent p).entry) (sym e) refl

connect_closed : (client : Client) (file : ℕ) (sent : List Pending) (phase : Phase) → phase ≡ Phase.Closed
    → belief_in phase ≡ belief_of (connect_turn client file sent phase).entry
connect_closed client file sent phase e = grind arith

-- ---- any call

pub called-beliefs : (client : Client) (call : ClientCall) → InFiles client → (file : ℕ)
    → believed_after file (belief client file) (client_called client call).notes ≡ belief (client_called client call).client file
called-beliefs client (ClientCall.Commanded command) closed = (commanded_behaves client command).told.tells
called-beliefs client (ClientCall.Taken reply) closed = (taken_tells client reply).tells
called-beliefs client ClientCall.Noticed closed = all_tell client false
    (λ file entry. notice_turn entry.sent entry.phase)
    (λ file. any_notice (client.entries file).sent _ (notices_settle (client.entries file).sent) (client.entries file).phase)
    (λ file unknown. notice_closed (client.entries file).sent (client.entries file).phase (closed file unknown))
called-beliefs client ClientCall.Connected closed = all_tell client true
    (λ file entry. connect_turn client file entry.sent entry.phase)
    (λ file. connect_settles client file (client.entries file).sent (client.entries file).phase)
    (λ file unknown. connect_closed client file (client.entries file).sent (client.entries file).phase (closed file unknown))
