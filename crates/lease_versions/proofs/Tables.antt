-- Tables of requests, leases and opens after a change at one place.
use Rattle.lease_laws.proofs.Words.{◌==◌, ◌&&◌, ◌∙◌, ◌≡◌, Bool, Decides-eqb, Key, None, Option, Some, Updates, ℕ, ap, arith, cond}
use Rattle.lease_laws.proofs.Words.{false, fun_ext, get, if◌then◌else◌, is_at, is_some, key_eq, nat_cmp, nat_tests}
use Rattle.lease_laws.proofs.Words.{option_map, put}
use Rattle.lease_laws.proofs.Words.{put_key, refl, subst, sym, true}
use Rattle.lease_laws.proofs.server.Keys.{key_eq-same}
use Rattle.lease_laws.proofs.server.Lists.{either}
use Rattle.lease_manager.proofs.sums.Ordering.{order_eq-back}
use Rattle.lease_manager.specs.KeyOrder.{key_order}
use Rattle.lease_versions.specs.Kept.{asked_of, layer_of, lease_of, leases_of, open_of, opens_of}
use Rattle.lease_versions.specs.Kept.{request_name, requests_of, tag_order}
use Rattle.lease_versions.specs.Layer.{Asked, Layer, Lease, Open, nothing_known, put_asked}
use Rattle.lease_versions.specs.Rows.{noted, with_lease}
use Rattle.lease_versions.specs.declared.versions.Versions.{Versions}
use Rattle.lease_versions.specs.declared.leases.Lease as code_lease
use Rattle.lease_versions.specs.declared.leases.Leases.{Leases}
use Rattle.lease_versions.specs.declared.opens.Open as code_open
use Rattle.lease_versions.specs.declared.opens.Opens.{Opens}
use Rattle.lease_versions.specs.declared.requests.Asked as code_asked
use Rattle.lease_versions.specs.declared.requests.Requests.{Requests}

by_cond : {X Y : Type 0} (f : X → Y) (b : Bool) (x y : Option X)
    → option_map f (cond b x y) ≡ (if b then option_map f x else option_map f y)
by_cond f true x y = refl
by_cond f false x y = refl

pub leases_put : (before after : Leases) (name : Key) (value : Option code_lease.Lease)
    → Updates key_order before.by_name after.by_name name value
    → leases_of after ≡ put_key (leases_of before) name (option_map lease_of value)
unfolding put_key
leases_put before after name value updates = fun_ext (λ other. ap (option_map lease_of) (updates.0 other)
    ∙ rw (order_eq-back name other) (by_cond lease_of (key_eq other name) value (get key_order before.by_name other)))

at_number : (n m : ℕ) → is_at (nat_cmp n) m ≡ (m == n)
at_number n m = grind (arith, nat_tests)

pub opens_put : (before after : Opens) (file_id : ℕ) (value : Option code_open.Open)
    → Updates nat_cmp before.by_number after.by_number file_id value
    → opens_of after ≡ put (opens_of before) file_id (option_map open_of value)
unfolding put
opens_put before after file_id value updates = fun_ext (λ other. ap (option_map open_of) (updates.0 other)
    ∙ rw (at_number file_id other) (by_cond open_of (other == file_id) value (get nat_cmp before.by_number other)))

at_tag : (client tag c t : ℕ) → is_at (tag_order (request_name client tag)) (request_name c t) ≡ (c == client && t == tag)
at_tag client tag c t = grind (arith, nat_tests)

pub requests_put : (before after : Requests) (client tag : ℕ) (value : Option code_asked.Asked)
    → Updates tag_order before.by_tag after.by_tag (request_name client tag) value
    → requests_of after ≡ put_asked (requests_of before) client tag (option_map asked_of value)
unfolding put_asked
requests_put before after client tag value updates = fun_ext (λ c. fun_ext (λ t.
    ap (option_map asked_of) (updates.0 (request_name c t)) ∙ rw (at_tag client tag c t)
    (by_cond asked_of (c == client && t == tag) value (get tag_order before.by_tag (request_name c t)))))

-- what is put where it stands changes nothing
pub put_same : {X : Type 0} (table : ℕ → Option X) (n : ℕ) → put table n (table n) ≡ table
unfolding put
put_same table n = fun_ext (λ m. either (m == n)
    (λ e. rw (e, (Decides-eqb m n).0 e) refl)
    (λ e. rw e refl))

pub put_key_same : {X : Type 0} (table : Key → Option X) (key : Key) → put_key table key (table key) ≡ table
unfolding put_key
put_key_same table key = fun_ext (λ other. either (key_eq other key)
    (λ e. rw (e, key_eq-same other key e) refl)
    (λ e. rw e refl))

is_none : {X : Type 0} (found : Option X) → is_some found ≡ false → None ≡ found
is_none None e = refl
is_none (Some x) e = absurd (cc e)

-- one that came last goes again
pub put_back : {X : Type 0} (table : ℕ → Option X) (n : ℕ) (value : Option X) → is_some (table n) ≡ false
    → put (put table n value) n None ≡ table
unfolding put
put_back table n value none = fun_ext (λ m. either (m == n)
    (λ e. rw e (subst (λ k. None ≡ table k) (sym ((Decides-eqb m n).0 e)) (is_none (table n) none)))
    (λ e. rw e refl))

pub noted_new : (before after : Opens) (file_id : ℕ) (one : code_open.Open) → is_some (opens_of before file_id) ≡ false
    → Updates nat_cmp before.by_number after.by_number file_id (Some one)
    → opens_of after ≡ noted file_id (open_of one) (opens_of before)
noted_new before after file_id one none updates = rw none (opens_put before after file_id (Some one) updates)

pub noted_back : (opens : ℕ → Option Open) (file_id : ℕ) (one : Open)
    → (if is_some (opens file_id) then noted file_id one opens else put (noted file_id one opens) file_id None) ≡ opens
noted_back opens file_id one = either (is_some (opens file_id))
    (λ e. rw e refl)
    (λ e. rw e (put_back opens file_id (Some one) e))

-- ---- a lease that is written in its place, or isn't there

lease_at : (leases : Leases) (name : Key) (found : Option code_lease.Lease) → get key_order leases.by_name name ≡ found
    → leases_of leases name ≡ option_map lease_of found
lease_at leases name found is = ap (option_map lease_of) is

pub leases_set : (before after : Leases) (name : Key) (old new : code_lease.Lease)
    → get key_order before.by_name name ≡ Some old → Updates key_order before.by_name after.by_name name (Some new)
    → leases_of after ≡ put_key (leases_of before) name (option_map (λ was. lease_of new) (leases_of before name))
leases_set before after name old new is updates =
    rw (lease_at before name (Some old) is) (leases_put before after name (Some new) updates)

none_of : {X Y : Type 0} (change : X → Y) (found : Option X) → found ≡ None → option_map change found ≡ None
none_of change None e = refl
none_of change (Some x) e = absurd (cc e)

not_there : {X : Type 0} (table : Key → Option X) (key : Key) (change : X → X) → table key ≡ None
    → table ≡ put_key table key (option_map change (table key))
not_there table key change none = rw (none_of change (table key) none)
    (sym (ap (put_key table key) (sym none) ∙ put_key_same table key))

pub leases_none : (leases : Leases) (name : Key) (new : code_lease.Lease) → leases_of leases name ≡ None
    → leases_of leases ≡ put_key (leases_of leases) name (option_map (λ was. lease_of new) (leases_of leases name))
leases_none leases name new none = not_there (leases_of leases) name (λ was. lease_of new) none

abbrev layer_with : Layer → (Key → Option Lease) → Layer
layer_with layer leases = record layer { leases = leases }

pub unchanged : (versions : Versions) (key : Key) (change : Lease → Lease) → (layer_of versions).leases key ≡ None
    → layer_of versions ≡ with_lease key change (layer_of versions)
unchanged versions key change none =
    ap (layer_with (layer_of versions)) (not_there (layer_of versions).leases key change none)

abbrev layer_from : (ℕ → ℕ → Option Asked) → (Key → Option Lease) → (ℕ → Option Open) → Layer
layer_from asked leases opens = record { asked = asked; leases = leases; opens = opens }

pub new_layer : (requests : Requests) (leases : Leases) (opens : Opens)
    → ((client tag : ℕ) → requests_of requests client tag ≡ None) → ((key : Key) → leases_of leases key ≡ None)
    → ((file_id : ℕ) → opens_of opens file_id ≡ None)
    → layer_of (record { requests = requests; leases = leases; opens = opens }) ≡ nothing_known
new_layer requests leases opens none none_leased none_open =
    ap (λ asked. layer_from asked (leases_of leases) (opens_of opens)) (fun_ext (λ client. fun_ext (λ tag. none client tag)))
    ∙ (ap (λ (table : Key → Option Lease). layer_from (λ client tag. None) table (opens_of opens)) (fun_ext none_leased)
    ∙ ap (λ (table : ℕ → Option Open). layer_from (λ client tag. None) (λ key. None) table) (fun_ext none_open))
