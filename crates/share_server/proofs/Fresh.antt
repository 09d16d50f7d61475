-- A server that no client has joined.
use Rattle.lease_laws.proofs.Words.{◌∙◌, ◌≡◌, Among, IsSound, List, Open, Rules, ℕ, [], ap, ap₂, arith, length}
use Rattle.lease_laws.proofs.Words.{new_server_under, refl, subst, sym, with_number}
use Rattle.lease_manager.specs.Table as managed
use Rattle.manager_model.specs.Answering.{IsOnce}
use Rattle.manager_model.specs.Handling.{Manager, Tagged, handling}
use Rattle.manager_model.specs.Hosting.{AreAsked, fresh_manager}
use Rattle.share_server.specs.Table.{IsServer, Kept, fresh_kept, host_of, requests_in, server_from, server_of, table_of}

pub fresh_server : (rules : Rules) (contents : List (List ℕ)) (manager : managed.Table) (kept : Kept)
    → kept ≡ fresh_kept (with_number contents) → managed.manager_of manager ≡ fresh_manager rules (length kept.contents)
    → server_of (table_of manager kept) ≡ new_server_under rules contents
unfolding new_server_under
fresh_server rules contents manager kept is same =
    ap₂ (λ (m : Manager) (k : Kept). server_from (requests_in k.requests) m (host_of k))
    (same ∙ ap (λ (k : Kept). fresh_manager rules (length k.contents)) is) is

pub is_fresh : ((rules : Rules) (contents : List (List ℕ)) → IsSound (new_server_under rules contents)) → (rules : Rules)
    (contents : List (List ℕ)) (manager : managed.Table) (kept : Kept)
    → kept ≡ fresh_kept (with_number contents) → managed.manager_of manager ≡ fresh_manager rules (length kept.contents)
    → IsServer (table_of manager kept)
unfolding new_server_under
is_fresh first rules contents manager kept is same =
    let none : (file : ℕ) → managed.queue_at manager.queues file ≡ [] = λ file. ap (λ (m : Manager). m.queues file) same in
    let opens : manager.opens ≡ [] = ap (λ (m : Manager). m.server.opens) same in record {
      sound = subst IsSound (sym (fresh_server rules contents manager kept is same)) (first rules contents);
      asked = λ file. subst (AreAsked (requests_in kept.requests)) (sym (none file)) tt;
      once = λ tag. subst (λ (m : Manager). IsOnce tag (handling m)) (sym same)
          (record { file = 0; once = omega arith; others = λ other apart. refl });
      below = λ file one there. absurd (subst (λ (queue : List Tagged). Among one queue) (none file) there);
      handles = λ one there. absurd (subst (λ (os : List Open). Among one os) opens there);
    }
