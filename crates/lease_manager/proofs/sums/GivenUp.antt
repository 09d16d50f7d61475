-- Nothing is in the way of a change where no lease hinders it and none caches writes.
use Rattle.lease_laws.proofs.Words.{◌&&◌, ◌||◌, ◌∙◌, ◌∷◌, ◌≡◌, Bool, Key, List, Open, Option, Server, ℕ, [], ap, arith, false}
use Rattle.lease_laws.proofs.Words.{is_other_on}
use Rattle.lease_laws.proofs.Words.{lease_of_open, list_any, not, refl, sym, true}
use Rattle.lease_model.specs.server.GivingUp.{Extent, is_given_up}
use Rattle.lease_manager.specs.Hindering.{hinders_writes, is_hinderer}

any_either : (here first later : Open → Bool) (opens : List Open)
    → list_any (λ one. here one && (first one || later one)) opens
    ≡ (list_any (λ one. here one && first one) opens || list_any (λ one. here one && later one) opens)
any_either here first later [] = refl
any_either here first later (one ∷ opens) =
    ap (λ b. here one && (first one || later one) || b) (any_either here first later opens)
    ∙ spread (here one) (first one) (later one) (list_any (λ one. here one && first one) opens)
    (list_any (λ one. here one && later one) opens)
  where
    spread : (h f l x y : Bool) → ((h && (f || l)) || (x || y)) ≡ (((h && f) || x) || ((h && l) || y))
    spread h f l x y = grind arith

abbrev is_writer : Server → Option Key → ℕ → Open → Bool
is_writer server own file one = is_other_on own file one && (lease_of_open server one).state.write

all_given_up : (server : Server) (own : Option Key) (file : ℕ) → is_given_up server own file Extent.All
    ≡ not (list_any (is_writer server own file) server.opens || list_any (is_hinderer server own file) server.opens)
all_given_up server own file = ap not (any_either (is_other_on own file) (λ one. (lease_of_open server one).state.write)
    (λ one. hinders_writes (lease_of_open server one)) server.opens)

pub hindered_still : (server : Server) (own : Option Key) (file : ℕ) → list_any (is_hinderer server own file) server.opens ≡ true
    → false ≡ is_given_up server own file Extent.All
hindered_still server own file some = sym (all_given_up server own file
    ∙ (ap (λ b. not (list_any (is_writer server own file) server.opens || b)) some
    ∙ either_way (list_any (is_writer server own file) server.opens)))
  where
    either_way : (a : Bool) → not (a || true) ≡ false
    either_way a = grind arith

pub unhindered_now : (server : Server) (own : Option Key) (file : ℕ) (result : Bool)
    → list_any (is_hinderer server own file) server.opens ≡ false
    → result ≡ not (list_any (is_writer server own file) server.opens) → result ≡ is_given_up server own file Extent.All
unhindered_now server own file result none is = is ∙ sym
    (all_given_up server own file ∙ (ap (λ b. not (list_any (is_writer server own file) server.opens || b)) none
    ∙ alone (list_any (is_writer server own file) server.opens)))
  where
    alone : (a : Bool) → not (a || false) ≡ not a
    alone a = grind arith
