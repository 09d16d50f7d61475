-- Maps whose keys are looked through, or whose entries are filtered by their keys.
use Rattle.lease_laws.proofs.Words.{◌+◌, ◌==◌, ◌&&◌, ◌||◌, ◌∙◌, ◌≡◌, ◌∷◌, [], Bool, List, None, Option, Some, ℕ, ap, arith}
use Rattle.lease_laws.proofs.Words.{cond, false}
use Rattle.lease_laws.proofs.Words.{filter, fun_ext, get, if◌then◌else◌, is_at, is_some, list_any, nat_cmp, nat_tests, not}
use Rattle.lease_laws.proofs.Words.{option_map}
use Rattle.lease_laws.proofs.Words.{◌<◌, ◌≤◌, drop, get_or, length, refl, sym, true}
use Rattle.lease_laws.proofs.server.Lists.{either}
use Rattle.std.specs.BTreeMap.{keys}
use Rattle.std.specs.Map.{keys_of, lookup}
use Rattle.std.proofs.lemmas.List.{drop_all, drop_more}
use Rattle.std.proofs.lemmas.Map.Entries.{lookup-filter-keys}
use Rattle.lease_manager.specs.Parting.{tag_numbers}
use Rattle.lease_manager.specs.declared.values.number.Tag.{Tag}
use Rattle.lease_versions.specs.Asking.{without_client, without_tags}
use Rattle.lease_versions.specs.Kept.{asked_of, open_of, opens_of, request_name, requests_of, tag_order}
use Rattle.lease_versions.specs.Layer.{Asked, put_asked}
use Rattle.lease_versions.specs.Refusals.{is_create_under, is_open_under}
use Rattle.lease_versions.specs.declared.opens.Open as code_open
use Rattle.lease_versions.specs.declared.opens.Opens.{Opens}
use Rattle.lease_versions.specs.declared.requests.Asked as code_asked
use Rattle.lease_versions.specs.declared.requests.RequestName.{RequestName}
use Rattle.lease_versions.specs.declared.requests.Requests.{Requests}

-- a test that no key passes, no key that is found passes
none_at : {X : Type 0} (test : ℕ → Bool) (es : List (ℕ × X)) (n : ℕ) → list_any test (keys_of es) ≡ false
    → is_some (lookup (is_at (nat_cmp n)) es) ≡ true → test n ≡ false
none_at test [] n none found = absurd (cc found)
none_at test (e ∷ es) n none found =
    let rest = none_at test es n in grind (arith, nat_tests, rest, none, found)

none_at_tag : {X : Type 0} (test : RequestName → Bool) (es : List (RequestName × X)) (c t : ℕ) → list_any test (keys_of es) ≡ false
    → is_some (lookup (is_at (tag_order (request_name c t))) es) ≡ true → test (request_name c t) ≡ false
none_at_tag test [] c t none found = absurd (cc found)
none_at_tag test (e ∷ es) c t none found =
    let rest = none_at_tag test es c t in grind (arith, nat_tests, rest, none, found)

-- ---- opens

abbrev pub open_test : ℕ → List ℕ → Opens → ℕ → Bool
open_test client guid opens file_id = is_open_under client guid (opens_of opens file_id)

not_open : (client : ℕ) (guid : List ℕ) (found : Option code_open.Open) → is_some found ≡ false
    → is_open_under client guid (option_map open_of found) ≡ false
not_open client guid None e = refl
not_open client guid (Some one) e = absurd (cc e)

pub none_open : (client : ℕ) (guid : List ℕ) (opens : Opens) (file_id : ℕ)
    → list_any (open_test client guid opens) (keys opens.by_number) ≡ false
    → is_open_under client guid (opens_of opens file_id) ≡ false
none_open client guid opens file_id none = either (is_some (get nat_cmp opens.by_number file_id))
    (λ e. none_at (open_test client guid opens) opens.by_number.entries file_id none e)
    (λ e. not_open client guid (get nat_cmp opens.by_number file_id) e)

-- ---- requests

abbrev pub create_test : ℕ → List ℕ → Requests → RequestName → Bool
create_test client guid requests under = under.client == client && is_create_under guid (requests_of requests client under.tag)

not_create : (guid : List ℕ) (found : Option code_asked.Asked) → is_some found ≡ false
    → is_create_under guid (option_map asked_of found) ≡ false
not_create guid None e = refl
not_create guid (Some asked) e = absurd (cc e)

own_test : (client : ℕ) (passes : Bool) → (client == client && passes) ≡ false → passes ≡ false
own_test client passes e = grind (arith, nat_tests, e)

pub none_asked : (client : ℕ) (guid : List ℕ) (requests : Requests) (tag : ℕ)
    → list_any (create_test client guid requests) (keys requests.by_tag) ≡ false
    → is_create_under guid (requests_of requests client tag) ≡ false
none_asked client guid requests tag none = either (is_some (get tag_order requests.by_tag (request_name client tag)))
    (λ e. own_test client (is_create_under guid (requests_of requests client tag))
    (none_at_tag (create_test client guid requests) requests.by_tag.entries client tag none e))
    (λ e. not_create guid (get tag_order requests.by_tag (request_name client tag)) e)

by_not : {X Y : Type 0} (f : X → Y) (b : Bool) (found : Option X)
    → option_map f (cond (not b) found None) ≡ (if b then None else option_map f found)
by_not f true found = refl
by_not f false found = refl

at_client : (client c t : ℕ) (under : RequestName) → is_at (tag_order (request_name c t)) under ≡ true
    → not (under.client == client) ≡ not (c == client)
at_client client c t under at = grind (arith, nat_tests, at)

pub client_gone : (before after : Requests) (client : ℕ)
    → after.by_tag.entries ≡ filter (λ e. not (e.0.client == client)) before.by_tag.entries
    → requests_of after ≡ without_client client (requests_of before)
unfolding without_client
client_gone before after client is = fun_ext (λ c. fun_ext (λ t.
    ap (λ es. option_map asked_of (lookup (is_at (tag_order (request_name c t))) es)) is
    ∙ (ap (option_map asked_of) (lookup-filter-keys (is_at (tag_order (request_name c t))) (λ k. not (k.client == client)) (not (c == client))
    (at_client client c t) before.by_tag.entries)
    ∙ by_not asked_of (c == client) (get tag_order before.by_tag (request_name c t)))))

pub no_tags : (client : ℕ) (asked : ℕ → ℕ → Option Asked) → without_tags client [] asked ≡ asked
unfolding without_tags
no_tags client asked = fun_ext (λ c. fun_ext (λ t. by_false (c == client)))
  where
    by_false : {X : Type 0} {x : Option X} (b : Bool) → (if b && false then None else x) ≡ x
    by_false true = refl
    by_false false = refl

pub one_tag : (client tag : ℕ) (tags : List ℕ) (asked : ℕ → ℕ → Option Asked)
    → without_tags client tags (put_asked asked client tag None) ≡ without_tags client (tag ∷ tags) asked
unfolding without_tags put_asked
one_tag client tag tags asked = fun_ext (λ c. fun_ext (λ t.
    joins (c == client) (t == tag) (list_any (λ one. t == one) tags) (asked c t)))
  where
    joins : {X : Type 0} (b one more : Bool) (x : Option X) → (if b && more then None else (if b && one then None else x))
        ≡ (if b && (one || more) then None else x)
    joins false one more x = refl
    joins true true true x = refl
    joins true true false x = refl
    joins true false true x = refl
    joins true false false x = refl

-- ---- a loop over tags

pub tags_step : (client : ℕ) (tags : List Tag) (i : ℕ) (d : Tag) (asked later : ℕ → ℕ → Option Asked) → i < length tags
    → later ≡ put_asked asked client (get_or tags i d).0 None
    → without_tags client (tag_numbers (drop (i + 1) tags)) later ≡ without_tags client (tag_numbers (drop i tags)) asked
tags_step client tags i d asked later inside is = rw (drop_more tags i d inside, is)
    (one_tag client (get_or tags i d).0 (tag_numbers (drop (i + 1) tags)) asked)

pub tags_end : (client : ℕ) (tags : List Tag) (i : ℕ) (asked : ℕ → ℕ → Option Asked) → length tags ≤ i
    → asked ≡ without_tags client (tag_numbers (drop i tags)) asked
tags_end client tags i asked past = rw (drop_all i tags past) (sym (no_tags client asked))
