-- What is said of clients in a table, after one fact more.
use Rattle.lease_laws.proofs.Words.{◌&&◌, ◌++◌, ◌<◌, ◌==◌, ◌||◌, ◌∙◌, ◌∷◌, ◌≡◌, Bool, ClientNo, Fact, List, None, Option, Some, ℕ}
use Rattle.lease_laws.proofs.Words.{[], ap, arith, cases_Bool, eq-eqb, eqb-true, false, get_or, if◌then◌else◌, inl, inr, is_good}
use Rattle.lease_laws.proofs.Words.{length, list_any, map-append, not, refl, slice_set, subst, suc, sym, true, zero}
use Rattle.std.specs.List.{filter}
use Rattle.lease_reasons.proofs.Lists.{any-append, filter_alike}
use Rattle.lease_facts.specs.Facts.{client_about}
use Rattle.lease_model.specs.records.Past.{has_joined, has_strayed, is_served}
use Rattle.lease_facts.proofs.Places.{value_put, value_there}
use Rattle.lease_reasons.specs.Clients.{is_good_in, standing_of, standing_after, standing_in, unseen, HasSameStandings, Describes}
use Rattle.lease_reasons.specs.Extent.{clients_named, with_client, numbers}
use Rattle.lease_reasons.specs.declared.clients.Clients.{Clients}
use Rattle.lease_reasons.specs.declared.clients.Standing.{Standing}

-- ---- a standing

same_standing : (x y : Standing) → x.named ≡ y.named → x.joined ≡ y.joined → x.served ≡ y.served → x.strayed ≡ y.strayed → x ≡ y
same_standing x y n j s t =
    ap (λ (b : Bool). record { named = b; joined = x.joined; served = x.served; strayed = x.strayed }) n
    ∙ (ap (λ (b : Bool). record { named = y.named; joined = b; served = x.served; strayed = x.strayed }) j
    ∙ (ap (λ (b : Bool). record { named = y.named; joined = y.joined; served = b; strayed = x.strayed }) s
    ∙ ap (λ (b : Bool). record { named = y.named; joined = y.joined; served = y.served; strayed = b }) t))

pub not_true : (b : Bool) → not b ≡ true → b ≡ false
not_true b e = grind arith

pub not_false : (b : Bool) → not b ≡ false → b ≡ true
not_false b e = grind arith

-- ---- who is named

named-here : (client : ℕ) (clients : List ℕ) → list_any (λ other. other == client) (with_client clients (Some client)) ≡ true
named-here client clients = elim (cases_Bool (list_any (λ other. other == client) clients)) [
  | inl there ↦ rw there there
  | inr new ↦ rw new (any-append (λ other. other == client) clients (client ∷ []) ∙ right _ _ (eq-eqb client client refl))
]
  where
    right : (a b : Bool) → b ≡ true → (a || (b || false)) ≡ true
    right a b e = grind arith

named-there : (n client : ℕ) (clients : List ℕ) → (client == n) ≡ false
    → list_any (λ other. other == n) (with_client clients (Some client)) ≡ list_any (λ other. other == n) clients
named-there n client clients apart = elim (cases_Bool (list_any (λ other. other == client) clients)) [
  | inl there ↦ rw there refl
  | inr new ↦ rw new (any-append (λ other. other == n) clients (client ∷ []) ∙ left _ _ apart)
]
  where
    left : (a b : Bool) → b ≡ false → (a || (b || false)) ≡ a
    left a b e = grind arith

-- ---- one fact more

inner : (a b : ℕ) → Some a ≡ Some b → a ≡ b
inner a b e = cc

-- what is said of the client that the fact is about
standing-here : (fact : Fact) (client : ℕ) (past : List Fact) → client_about fact ≡ Some client
    → standing_of client (fact ∷ past) ≡ standing_after fact (standing_of client past)
unfolding has_joined is_served has_strayed clients_named
standing-here fact client past about = same_standing _ _
    (subst (λ (told : Option ℕ). list_any (λ other. other == client) (with_client (clients_named past) told) ≡ true) (sym about)
    (named-here client (clients_named past)) ∙ sym (named fact))
    (joined fact about) (served fact about) (strayed fact about)
  where
    named : (fact : Fact) → (standing_after fact (standing_of client past)).named ≡ true
    named fact = grind arith

    joined : (fact : Fact) → client_about fact ≡ Some client
        → has_joined client (fact ∷ past) ≡ (standing_after fact (standing_of client past)).joined
    joined fact about = grind arith

    served : (fact : Fact) → client_about fact ≡ Some client
        → is_served client (fact ∷ past) ≡ (standing_after fact (standing_of client past)).served
    served fact about = grind arith

    strayed : (fact : Fact) → client_about fact ≡ Some client
        → has_strayed client (fact ∷ past) ≡ (standing_after fact (standing_of client past)).strayed
    strayed fact about = grind arith

-- and of another
standing-there : (fact : Fact) (n client : ℕ) (past : List Fact) → client_about fact ≡ Some client → (client == n) ≡ false
    → standing_of n (fact ∷ past) ≡ standing_of n past
unfolding has_joined is_served has_strayed clients_named
standing-there fact n client past about apart = same_standing _ _
    (subst (λ (told : Option ℕ). list_any (λ other. other == n) (with_client (clients_named past) told)
    ≡ list_any (λ other. other == n) (clients_named past)) (sym about)
    (named-there n client (clients_named past) apart))
    (joined fact about) (served fact about) (strayed fact about)
  where
    joined : (fact : Fact) → client_about fact ≡ Some client → has_joined n (fact ∷ past) ≡ has_joined n past
    joined fact about = grind (arith, apart)

    served : (fact : Fact) → client_about fact ≡ Some client → is_served n (fact ∷ past) ≡ is_served n past
    served fact about = grind (arith, apart)

    strayed : (fact : Fact) → client_about fact ≡ Some client → has_strayed n (fact ∷ past) ≡ has_strayed n past
    strayed fact about = grind (arith, apart)

-- ---- the table

pub described-none : (clients : Clients) → clients.named.items ≡ [] → clients.standings.items ≡ [] → Describes [] clients
unfolding has_joined is_served has_strayed clients_named
described-none clients named standings = record {
  named = ap (λ (cs : List ClientNo). numbers cs) named;
  standings = λ n. ap (λ (table : List Standing). standing_in table n) standings ∙ nothing n;
}
  where
    nothing : (n : ℕ) → standing_in [] n ≡ standing_of n []
    nothing zero = refl
    nothing (suc n) = refl

-- a fact about no client
pub described-same : (fact : Fact) (past : List Fact) (clients : Clients) → client_about fact ≡ None → Describes past clients
    → Describes (fact ∷ past) clients
unfolding has_joined is_served has_strayed clients_named
described-same (Fact.Start file bytes) past clients about is = record { named = is.named; standings = is.standings }
described-same (_) past clients about is = let no : ⊥ = cc in absurd no

named-kept : (clients : List ClientNo) (client : ClientNo) (named : Bool)
    → named ≡ list_any (λ other. other == client.0) (numbers clients)
    → numbers (if named then clients else clients ++ client ∷ []) ≡ with_client (numbers clients) (Some client.0)
named-kept clients client true is = rw (sym is) refl
named-kept clients client false is = rw (sym is) (map-append (λ c. c.0) clients (client ∷ []))

-- a fact about a client, whose place in the table is changed
pub described-more : (fact : Fact) (past : List Fact) (client : ClientNo) (before now : Clients) (table : List Standing)
    (old : Standing) → client_about fact ≡ Some client.0 → Describes past before
    → HasSameStandings before.standings.items table → client.0 < length table → old ≡ get_or table client.0 old
    → now.standings.items ≡ slice_set table client.0 (standing_after fact old)
    → now.named.items ≡ (if old.named then before.named.items else before.named.items ++ client ∷ [])
    → Describes (fact ∷ past) now
unfolding clients_named
described-more fact past client before now table old about is same inside read standings named = record {
  named = ap (λ (cs : List ClientNo). numbers cs) named
      ∙ (named-kept before.named.items client old.named (ap (λ (s : Standing). s.named) old_is
      ∙ ap (λ (cs : List ℕ). list_any (λ other. other == client.0) cs) (sym is.named))
      ∙ (ap (λ (cs : List ℕ). with_client cs (Some client.0)) is.named
      ∙ ap (λ (told : Option ℕ). with_client (clients_named past) told) (sym about)));
  standings = λ n. ap (λ (ss : List Standing). standing_in ss n) standings
      ∙ (value_put unseen table client.0 (standing_after fact old) n inside ∙ go n (n == client.0) refl);
}
  where
    old_is : old ≡ standing_of client.0 past
    old_is = value_there unseen table client.0 old inside read ∙ (same client.0 ∙ is.standings client.0)

    flipped : (a b : ℕ) → (a == b) ≡ false → (b == a) ≡ false
    flipped a b e = grind arith

    go : (n : ℕ) (b : Bool) → (n == client.0) ≡ b
        → (if b then standing_after fact old else standing_in table n) ≡ standing_of n (fact ∷ past)
    go n true e = ap (λ (s : Standing). standing_after fact s) old_is ∙ (sym (standing-here fact client.0 past about)
        ∙ ap (λ (m : ℕ). standing_of m (fact ∷ past)) (sym (eqb-true n client.0 e)))
    go n false e = same n ∙ (is.standings n ∙ sym (standing-there fact n client.0 past about (flipped n client.0 e)))

-- who is good by the table
pub good-is_there : (past : List Fact) (clients : Clients) → Describes past clients
    → (client : ℕ) → is_good_in clients.standings.items client ≡ is_good client past
unfolding is_good
good-is_there past clients is client = ap (λ (s : Standing). not s.strayed && s.served) (is.standings client)

-- whom a table says not to have joined, and who strayed
pub unjoined-are : (past : List Fact) (clients : Clients) (some : List ClientNo) → Describes past clients
    → some ≡ filter (λ client. not (standing_in clients.standings.items client.0).joined) clients.named.items
    → some ≡ filter (λ client. not (has_joined client.0 past)) clients.named.items
unjoined-are past clients some is e = e ∙ filter_alike _ _ clients.named.items
    (λ client. ap (λ (s : Standing). not s.joined) (is.standings client.0))

pub strayed-are : (past : List Fact) (clients : Clients) (some : List ClientNo) → Describes past clients
    → some ≡ filter (λ client. (standing_in clients.standings.items client.0).strayed) clients.named.items
    → some ≡ filter (λ client. has_strayed client.0 past) clients.named.items
strayed-are past clients some is e = e ∙ filter_alike _ _ clients.named.items
    (λ client. ap (λ (s : Standing). s.strayed) (is.standings client.0))
