-- The leases of the records, as they are listed.
use Rattle.lease_laws.proofs.Words.{◌==◌, ◌∙◌, ◌∷◌, ◌≡◌, Among, Decides-eqb, Key, List, None, Option, Server, Some, []}
use Rattle.lease_laws.proofs.Words.{ap, false, has_key, has_lease, inl, inr, is_at, key_before, map, not, refl, subst}
use Rattle.lease_laws.proofs.Words.{sym, true}
use Rattle.lease_laws.proofs.server.KeyOrder.{among_mapped}
use Rattle.lease_laws.proofs.server.Keys.{key_eq-refl, key_eq-same}
use Rattle.lease_laws.proofs.server.Lists.{among_map, and_both, clash, if_cases, none_has, not_false, not_true}
use Rattle.lease_laws.proofs.server.Wanted.{key_before-self}
use Rattle.std.specs.BTreeMap.{IsOrdered}
use Rattle.std.specs.Map.{lookup}
use Rattle.lease_manager.specs.KeyOrder.{key_order}
use Rattle.lease_manager.specs.Listings.{AreInOrderOfKeys, AreLeases, IsListed, entry_listed, key_listed, leases_in}
use Rattle.lease_manager.specs.Looks.{is_elsewhere}
use Rattle.lease_manager.specs.Summaries.{RecordFits, StandFor, lease_or_none, record_at}
use Rattle.lease_manager.specs.declared.tables.summaries.LeaseRecord.{LeaseRecord}
use Rattle.lease_manager.specs.declared.tables.summaries.Summaries.{Summaries}
use Rattle.lease_manager.specs.declared.values.listed.ListedLease.{ListedLease}
use Rattle.lease_manager.proofs.sums.Demanding.{AreOrdered, sorted_ordered}
use Rattle.lease_manager.proofs.sums.Ordering.{order_eq}
use Rattle.lease_manager.specs.declared.tables.tally.Tally.{Tally}

abbrev keys_in : List (Key × LeaseRecord) → List Key
keys_in entries = map (λ (entry : Key × LeaseRecord). entry.0) entries

-- in order of their keys
listed_in_order : (entries : List (Key × LeaseRecord)) → AreOrdered (keys_in entries)
    → AreInOrderOfKeys (map entry_listed entries)
listed_in_order [] ordered = tt
listed_in_order (entry ∷ entries) ordered = (
  λ other there.
      let from = among_map entry_listed other entries there in
      subst (λ (o : ListedLease). key_before entry.0 (key_listed o) ≡ true) (sym from.2)
      (ordered.0 from.0.0 (among_mapped (λ (e : Key × LeaseRecord). e.0) from.0 entries from.1)),
  listed_in_order entries ordered.1,
)

-- a key that stands before another isn't that
not_at : (key other : Key) → key_before other key ≡ true → is_at (key_order key) other ≡ false
not_at key other before = not_true (is_at (key_order key) other) (λ at.
    let same = key_eq-same key other (sym (order_eq key other) ∙ at) in
    clash (key_before key key) (ap (λ k. key_before k key) same ∙ before) (key_before-self key))

-- each entry is what is found under its key
found_under : (entries : List (Key × LeaseRecord)) (entry : Key × LeaseRecord) → AreOrdered (keys_in entries)
    → Among entry entries → lookup (is_at (key_order entry.0)) entries ≡ Some entry.1
found_under [] entry ordered there = absurd there
found_under (first ∷ entries) entry ordered (inl same) =
    rw (at_own first entry same) (ap (λ (e : Key × LeaseRecord). Some e.1) (sym same))
  where
    at_own : (first entry : Key × LeaseRecord) → entry ≡ first → is_at (key_order entry.0) first.0 ≡ true
    at_own first entry same = ap (λ (e : Key × LeaseRecord). is_at (key_order entry.0) e.0) (sym same)
        ∙ order_eq entry.0 entry.0 ∙ key_eq-refl entry.0
found_under (first ∷ entries) entry ordered (inr later) =
    rw (not_at entry.0 first.0 (ordered.0 entry.0 (among_mapped (λ (e : Key × LeaseRecord). e.0) entry entries later)))
    (found_under entries entry ordered.1 later)

-- what is found under a key is there
key_found : (entries : List (Key × LeaseRecord)) (key : Key) (known : LeaseRecord)
    → lookup (is_at (key_order key)) entries ≡ Some known → Among key (keys_in entries)
key_found [] key known found = absurd (cc)
key_found (entry ∷ entries) key known found = if_cases
    (λ (o : Option LeaseRecord). o ≡ Some known → Among key (keys_in (entry ∷ entries)))
    (is_at (key_order key) entry.0) (Some entry.1) (lookup (is_at (key_order key)) entries)
    (λ at e. inl (key_eq-same key entry.0 (sym (order_eq key entry.0) ∙ at)))
    (λ apart e. inr (key_found entries key known e)) found

one_listed : (summaries : Summaries) (server : Server) (entry : Key × LeaseRecord) → StandFor summaries server
    → record_at summaries entry.0 ≡ Some entry.1 → IsListed server (entry_listed entry)
one_listed summaries server entry stand found =
    let key = entry.0 in
    let is = subst (RecordFits key server.opens) found (stand.agree.records key) in record {
      is_there = is.is_used;
      lease = sym (stand.leases key ∙ ap lease_or_none found);
      opens = ap (λ (t : Tally). t.opens) is.tally;
      on_file = λ other there has. (Decides-eqb other.file entry.1.file.0).0
          (not_false (other.file == entry.1.file.0) (λ apart.
          clash (is_elsewhere key entry.1.file.0 other)
          (and_both (has_key key other) (not (other.file == entry.1.file.0)) has (ap not apart))
          (none_has (is_elsewhere key entry.1.file.0) other server.opens is.one_file there)));
    }

pub leases_are : (summaries : Summaries) (server : Server) → StandFor summaries server → IsOrdered key_order summaries.leases
    → AreLeases server (leases_in summaries)
leases_are summaries server stand sorted =
    let entries = summaries.leases.entries in
    let ordered : AreOrdered (keys_in entries) = sorted_ordered (keys_in entries) sorted in record {
      in_order = listed_in_order entries ordered;
      each = λ one there.
          let from = among_map entry_listed one entries there in
          subst (IsListed server) (sym from.2)
          (one_listed summaries server from.0 stand (found_under entries from.0 ordered from.1));
      all = λ key there. known_key key (record_at summaries key) refl (stand.agree.records key) there;
    }
  where
    mapped : (key : Key) (entries : List (Key × LeaseRecord)) → Among key (keys_in entries)
        → Among key (map key_listed (map entry_listed entries))
    mapped key [] there = absurd there
    mapped key (entry ∷ entries) (inl same) = inl same
    mapped key (entry ∷ entries) (inr later) = inr (mapped key entries later)

    known_key : (key : Key) (found : Option LeaseRecord) → record_at summaries key ≡ found
        → RecordFits key server.opens (record_at summaries key) → has_lease server key ≡ true
        → Among key (map key_listed (leases_in summaries))
    known_key key None is fits there =
        clash (has_lease server key) there (subst (RecordFits key server.opens) is fits)
    known_key key (Some known) is fits there =
        mapped key summaries.leases.entries (key_found summaries.leases.entries key known is)
