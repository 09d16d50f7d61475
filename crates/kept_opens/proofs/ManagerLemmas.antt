-- What a manager exports makes it again: what is kept of it is said by the entries.
use Rattle.std.proofs.Common.{◌≡◌, ℕ, ◌++◌, List, [], ◌∷◌, Some, true, false, length, map, refl, sym, ◌∙◌, ap, ap₂, arith}
use Rattle.std.proofs.Common.{subst, inl, inr}
use Rattle.std.specs.List.{flat_map}
use Rattle.std.proofs.lemmas.List.{length-map}
use Rattle.std.proofs.lemmas.List.Folds.{flat_map-map}
use Rattle.std.proofs.lemmas.List.Elements.{All-cons, All-head, All-nil, All-tail}
use Rattle.byteorder.specs.Endian.{little_bytes}
use Rattle.sha2.specs.Sha256.{sha256}
use Rattle.lease_laws.specs.server.Laws.{Among}
use Rattle.lease_laws.proofs.server.Lists.{among_map}
use Rattle.lease_manager.proofs.opens.Restarting.{kept_may_be_restored}
use Rattle.lease_manager.proofs.opens.Restorable.{lease_is}
use Rattle.lease_manager.specs.Always.{IsManager}
use Rattle.lease_manager.specs.Restarting.{AreKeptOf, MayBeRestored, kept_server, open_kept}
use Rattle.lease_manager.specs.Table.{Table, server_of}
use Rattle.lease_manager.specs.declared.values.kept.KeptOpen.{KeptOpen}
use Rattle.lease_model.specs.server.State.{Lease, Open, Server}
use Rattle.manager_model.specs.Handling.{Manager}
use Rattle.lease_state.specs.declared.rules.Rules.{Rules}
use Rattle.lease_model.specs.server.Naming.{key_of, lease_of_open}
use Rattle.lease_state.specs.State.{State, bits_of_state, state_of, state_of_bits}
use Rattle.kept_opens.specs.Entry.{Entry, IsBorne, IsNamed, entry_bytes, entry_of}
use Rattle.kept_opens.specs.Kept.{AllBorne, AllNamed, HoldsKept, IsKept, entries_bytes, kept_bytes, kept_text, magic}
use Rattle.kept_opens.specs.Managers.{ExportsAreImported, IsExport, IsImport, IsThereAgain, MakesAgain}
use Rattle.kept_opens.proofs.EntriesLemmas.{have_keys}
use Rattle.kept_opens.proofs.KeptLemmas.{same_kept, same_last}

-- ---- opens with the same entries

open_said : Entry → Open
open_said v = record {
  file_id = v.file_id;
  client = v.client;
  file = v.file;
  lease_key = Some v.key;
  access = v.access;
  share = v.share;
  durable = true;
  connected = false;
}

opens_said : (kept : List KeptOpen) → map open_kept kept ≡ map open_said (map entry_of kept)
unfolding open_said
opens_said [] = refl
opens_said (one ∷ kept) = ap (λ l. open_kept one ∷ l) (opens_said kept)

said : (one : KeptOpen) (kept : List KeptOpen) → Among one kept → Among (entry_of one) (map entry_of kept)
said one [] there = absurd there
said one (first ∷ kept) (inl same) = inl (ap entry_of same)
said one (first ∷ kept) (inr later) = inr (said one kept later)

same_are_kept : (server : Server) (kept other : List KeptOpen) → map entry_of kept ≡ map entry_of other
    → AreKeptOf server kept → AreKeptOf server other
same_are_kept server kept other e are = record {
  opens = opens_said other ∙ (ap (map open_said) (sym e) ∙ (sym (opens_said kept) ∙ are.opens));
  states = λ one there.
      let from = among_map entry_of (entry_of one) kept
      (subst (λ vs. Among (entry_of one) vs) (sym e) (said one other there)) in
      ap (λ v. v.state) from.2 ∙ (are.states from.0 from.1
      ∙ ap (λ (v : Entry). (server.leases (key_of v.client v.key)).state) (sym from.2));
}

-- ---- opens whose states have no bit that names nothing

bits_back : (s : State) → state_of_bits (bits_of_state s) ≡ s
bits_back s = grind arith

named : KeptOpen → KeptOpen
named one = record one { state = record { 0 = bits_of_state (state_of one.state) } }

named_says : (kept : List KeptOpen) → map entry_of (map named kept) ≡ map entry_of kept
unfolding named
named_says [] = refl
named_says (one ∷ kept) = ap₂ (λ (s : State) (l : List Entry). (record (entry_of one) { state = s }) ∷ l)
    (bits_back (state_of one.state)) (named_says kept)

are_named : (kept : List KeptOpen) → AllNamed (map named kept)
unfolding named
are_named [] = All-nil (λ x. IsNamed x)
are_named (one ∷ kept) = All-cons (λ x. IsNamed x) (named one) (map named kept)
    (ap bits_of_state (bits_back (state_of one.state))) (are_named kept)

borne_so : (kept : List KeptOpen) → AllBorne kept → AllBorne (map named kept)
unfolding named
borne_so [] borne = All-nil (λ x. IsBorne (entry_of x))
borne_so (one ∷ kept) borne =
    let is = All-head (λ x. IsBorne (entry_of x)) one kept borne in
    All-cons (λ x. IsBorne (entry_of x)) (named one) (map named kept)
    (record { file_id = is.file_id; client = is.client; file = is.file; key = is.key })
    (borne_so kept (All-tail (λ x. IsBorne (entry_of x)) one kept borne))

-- ---- bytes of the same entries

entries_said : (kept : List KeptOpen) → flat_map entry_bytes (map entry_of kept) ≡ entries_bytes kept
entries_said kept = flat_map-map entry_bytes entry_of kept

as_many : (kept other : List KeptOpen) → map entry_of kept ≡ map entry_of other → length kept ≡ length other
as_many kept other e = sym (length-map kept entry_of) ∙ (ap (λ (vs : List Entry). length vs) e ∙ length-map other entry_of)

same_text : (last : ℕ) (kept other : List KeptOpen) → map entry_of kept ≡ map entry_of other
    → kept_text last kept ≡ kept_text last other
unfolding kept_text
same_text last kept other e = ap₂ (λ (n : ℕ) (xs : List ℕ). magic ++ (little_bytes 8 last ++ (little_bytes 8 n ++ xs)))
    (as_many kept other e)
    (sym (entries_said kept) ∙ (ap (λ vs. flat_map entry_bytes vs) e ∙ entries_said other))

pub same_bytes : (last : ℕ) (kept other : List KeptOpen) → map entry_of kept ≡ map entry_of other
    → kept_bytes last kept ≡ kept_bytes last other
same_bytes last kept other e = ap (λ xs. xs ++ sha256 xs) (same_text last kept other e)

-- ---- what they make

there_again : (server : Server) (rules : Rules) (files last : ℕ) (kept : List KeptOpen) → MayBeRestored rules files last kept
    → last ≡ server.last_id → AreKeptOf server kept → IsThereAgain server (kept_server rules files last kept)
there_again server rules files last kept may id are = record {
  opens = are.opens;
  leases = λ one there.
      let from = among_map open_kept one kept there in
      let made : Server = kept_server rules files last kept in
      ap (λ (o : Open). (lease_of_open made o).state) from.2
      ∙ (ap (λ (l : Lease). l.state) (lease_is kept may.agree from.0 from.1)
      ∙ (are.states from.0 from.1 ∙ ap (λ (o : Open). (lease_of_open server o).state) (sym from.2)));
  last_id = id;
}

-- ---- the law

module _ (table : Table) (bytes : List ℕ) (is : IsManager table) (export : IsExport (server_of table) bytes) where
  held : HoldsKept bytes
  held = (
    table.last_id,
    map named export.kept,
    record {
      fits = export.fits;
      borne = borne_so export.kept export.borne;
      named = are_named export.kept;
      laid = same_bytes table.last_id (map named export.kept) export.kept (named_says export.kept) ∙ sym export.laid;
    },
  )

  same : (last : ℕ) (kept : List KeptOpen) → IsKept bytes last kept → (last ≡ table.last_id) × AreKeptOf (server_of table) kept
  same last kept of =
      let e = sym export.laid ∙ sym of.laid in (
        sym (same_last table.last_id last export.kept kept export.borne of.borne e export.fits of.fits),
        same_are_kept (server_of table) export.kept kept
            (same_kept table.last_id last export.kept kept export.borne of.borne e) export.are_kept,
      )

  may : (last : ℕ) (kept : List KeptOpen) → IsKept bytes last kept → MayBeRestored table.rules table.files last kept
  may last kept of =
      let their = same last kept of in
      subst (λ n. MayBeRestored table.rules table.files n kept) (sym their.0) (kept_may_be_restored table kept is their.1)

  again : (manager : Manager) → IsImport table.rules table.files bytes manager → IsThereAgain (server_of table) manager.server
  again manager import =
      let their = same import.last import.kept import.is_kept in
      subst (λ (m : Manager). IsThereAgain (server_of table) m.server) (sym import.made)
      (there_again (server_of table) table.rules table.files import.last import.kept import.may their.0 their.1)

  pub made_again : MakesAgain table bytes
  made_again = record {
    undamaged = λ none. none table.last_id export.kept (have_keys export.kept export.borne) (sym export.laid);
    held = held;
    same = same;
    may = may;
    lawful = λ breaks. breaks held.0 held.1 held.2 (may held.0 held.1 held.2);
    again = again;
  }

pub makes_again : ExportsAreImported
makes_again table bytes is export = made_again table bytes is export
