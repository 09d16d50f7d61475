-- Tables of leases and guids after a change at one place.
use Rattle.std.proofs.Common.{◌==◌, ◌∙◌, ◌≡◌, Bool, List, None, Option, Some, ap, ap₂, arith, cond, false, if◌then◌else◌, refl}
use Rattle.std.proofs.Common.{sym, true, ℕ}
use Rattle.std.proofs.Math.Path.{fun_ext}
use Rattle.std.proofs.lemmas.Bool.Decides.{Decides-eqb, nat_tests}
use Rattle.std.proofs.lemmas.Map.Text.{is_eq-slice_cmp}
use Rattle.std.specs.BTreeMap.{Updates, get, is_at}
use Rattle.std.specs.Option.{option_map}
use Rattle.std.specs.Ordering.{nat_cmp}
use Rattle.std.specs.Prelude.{bytes_eq}
use Rattle.capture_wire.specs.declared.field.Guid.{Guid}
use Rattle.lease_state.specs.declared.key.LeaseKey.{LeaseKey}
use Rattle.lease_model.specs.values.Tables.{put}
use Rattle.lease_wire_v2.specs.Names.{DurableView}
use Rattle.client_versions.specs.Kept.{guid_of, guids_of, key_order, known_of, layer_of, leases_of}
use Rattle.client_versions.specs.Layer.{Known, Layer, nothing_known, put_known}
use Rattle.client_versions.specs.Rows.{guids_answered, is_second, set_back}
use Rattle.client_versions.specs.declared.guids.Guids.{Guids}
use Rattle.client_versions.specs.declared.leases.Known as code_known
use Rattle.client_versions.specs.declared.leases.Leases.{Leases}
use Rattle.client_versions.proofs.Numbers.{either}

by_cond : {X Y : Type 0} (f : X → Y) (b : Bool) (x y : Option X)
    → option_map f (cond b x y) ≡ (if b then option_map f x else option_map f y)
by_cond f true x y = refl
by_cond f false x y = refl

pub leases_put : (before after : Leases) (key : LeaseKey) (value : Option code_known.Known)
    → Updates key_order before.by_key after.by_key key value
    → leases_of after ≡ put_known (leases_of before) key.0 (option_map known_of value)
unfolding put_known
leases_put before after key value updates = fun_ext (λ other.
    ap (option_map known_of) (updates.0 (record { 0 = other }))
    ∙ rw (is_eq-slice_cmp key.0 other)
    (by_cond known_of (bytes_eq key.0 other) value (get key_order before.by_key (record { 0 = other }))))

at_number : (n m : ℕ) → is_at (nat_cmp n) m ≡ (m == n)
at_number n m = grind (arith, nat_tests)

pub guids_put : (before after : Guids) (file_id : ℕ) (value : Option Guid)
    → Updates nat_cmp before.by_number after.by_number file_id value
    → guids_of after ≡ put (guids_of before) file_id (option_map guid_of value)
unfolding put
guids_put before after file_id value updates = fun_ext (λ other. ap (option_map guid_of) (updates.0 other)
    ∙ rw (at_number file_id other) (by_cond guid_of (other == file_id) value (get nat_cmp before.by_number other)))

pub guids_kept : (before after : Guids) (file_id : ℕ) (guid : Guid) (durable : Option DurableView) → is_second durable ≡ true
    → Updates nat_cmp before.by_number after.by_number file_id (Some guid)
    → guids_of after ≡ guids_answered file_id guid.0 durable (guids_of before)
guids_kept before after file_id guid durable second updates = rw second (guids_put before after file_id (Some guid) updates)

-- ---- a guid that is written in its place, or isn't there

guid_at : (guids : Guids) (file_id : ℕ) (found : Option Guid) → get nat_cmp guids.by_number file_id ≡ found
    → guids_of guids file_id ≡ option_map guid_of found
guid_at guids file_id found is = ap (option_map guid_of) is

pub guids_set : (before after : Guids) (file_id : ℕ) (old new : Guid)
    → get nat_cmp before.by_number file_id ≡ Some old → Updates nat_cmp before.by_number after.by_number file_id (Some new)
    → guids_of after ≡ put (guids_of before) file_id (option_map (λ was. new.0) (guids_of before file_id))
guids_set before after file_id old new is updates =
    rw (guid_at before file_id (Some old) is) (guids_put before after file_id (Some new) updates)

put_same : {X : Type 0} (table : ℕ → Option X) (n : ℕ) → put table n (table n) ≡ table
unfolding put
put_same table n = fun_ext (λ m. either (m == n)
    (λ e. rw (e, (Decides-eqb m n).0 e) refl)
    (λ e. rw e refl))

put_again : {X : Type 0} (table : ℕ → Option X) (n : ℕ) (one other : Option X)
    → put (put table n one) n other ≡ put table n other
unfolding put
put_again table n one other = fun_ext (λ m. either (m == n)
    (λ e. rw e refl)
    (λ e. rw e refl))

put_here : {X : Type 0} (table : ℕ → Option X) (n : ℕ) (new : Option X) → put table n new n ≡ new
unfolding put
put_here table n new = rw ((Decides-eqb n n).1 refl) refl

put_found : {X : Type 0} (table : ℕ → Option X) (n : ℕ) (found : Option X) → table n ≡ found → put table n found ≡ table
put_found table n found is = ap (put table n) (sym is) ∙ put_same table n

pub guids_none : (guids : ℕ → Option (List ℕ)) (file_id : ℕ) (new : List ℕ) → guids file_id ≡ None
    → guids ≡ put guids file_id (option_map (λ was. new) (guids file_id))
guids_none guids file_id new none = sym (rw none (put_found guids file_id None none))

-- what an answer kept goes again
back : (guids : ℕ → Option (List ℕ)) (file_id : ℕ) (guid : List ℕ) (before : Option (List ℕ)) → guids file_id ≡ before
    → set_back file_id before (put guids file_id (Some guid)) ≡ guids
back guids file_id guid None is = put_again guids file_id (Some guid) None ∙ put_found guids file_id None is
back guids file_id guid (Some old) is = rw (put_here guids file_id (Some guid))
    (put_again guids file_id (Some guid) (Some old) ∙ put_found guids file_id (Some old) is)

stays : (guids : ℕ → Option (List ℕ)) (file_id : ℕ) (before : Option (List ℕ)) → guids file_id ≡ before
    → set_back file_id before guids ≡ guids
stays guids file_id None is = put_found guids file_id None is
stays guids file_id (Some old) is = rw is (put_found guids file_id (Some old) is)

pub taken_back : (guids : ℕ → Option (List ℕ)) (file_id : ℕ) (guid : List ℕ) (durable : Option DurableView)
    → set_back file_id (guids file_id) (guids_answered file_id guid durable guids) ≡ guids
taken_back guids file_id guid durable = either (is_second durable)
    (λ e. rw e (back guids file_id guid (guids file_id) refl))
    (λ e. rw e (stays guids file_id (guids file_id) refl))

-- ---- nothing is known

abbrev pub layer_from : (List ℕ → Option Known) → (ℕ → Option (List ℕ)) → Layer
layer_from leases guids = record { leases = leases; guids = guids }

pub same_layer : (leases others : List ℕ → Option Known) (guids rest : ℕ → Option (List ℕ)) → leases ≡ others → guids ≡ rest
    → layer_from leases guids ≡ layer_from others rest
same_layer leases others guids rest e f = ap₂ (λ one other. layer_from one other) e f

pub new_layer : (leases : Leases) (guids : Guids)
    → ((key : List ℕ) → leases_of leases key ≡ None) → ((file_id : ℕ) → guids_of guids file_id ≡ None)
    → layer_of (record { leases = leases; guids = guids }) ≡ nothing_known
new_layer leases guids none_leased none_kept =
    ap (λ (table : List ℕ → Option Known). layer_from table (guids_of guids)) (fun_ext none_leased)
    ∙ ap (λ (table : ℕ → Option (List ℕ)). layer_from (λ key. None) table) (fun_ext none_kept)
