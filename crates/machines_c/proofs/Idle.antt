-- A call that doesn't apply decides nothing.
use Rattle.lease_laws.proofs.Words.{◌∙◌, ◌≡◌, Bool, FileRequest, Key, LeaseOf, List, Option, ℕ, [], arith, false}
use Rattle.lease_laws.proofs.Words.{list_any, not, refl, true}
use Rattle.lease_model.specs.server.Calls.{is_left_behind}
use Rattle.lease_model.specs.server.Queries as queries
use Rattle.lease_manager.specs.Outs.{IsAfter, decisions}
use Rattle.lease_manager.specs.Table.{Table}
use Rattle.lease_manager.specs.declared.values.decision.Decision.{Decision}
use Rattle.manager_model.specs.Handling as rules
use Rattle.manager_model.specs.Handling.{Handling, Manager}
use Rattle.machines_c.specs.manager.Asked.{is_absent, is_answered, is_gone}

is_not : (b : Bool) → not b ≡ true → b ≡ false
is_not b e = grind (arith, e)

pub silent : (table : Table) (given : List Decision) (after : Handling) → IsAfter table given after → after.told ≡ []
    → decisions given ≡ []
silent table given after is none = is.told ∙ none

pub none_received : (manager : Manager) (client tag : ℕ) (request : FileRequest) → is_absent client manager ≡ true
    → (rules.receive manager client tag request).told ≡ []
unfolding rules.receive
none_received manager client tag request idle = rw (is_not (manager.server.present client) idle) refl

pub none_acknowledged : (manager : Manager) (client : ℕ) (given : Option LeaseOf) → is_absent client manager ≡ true
    → (rules.acknowledge manager client given).told ≡ []
unfolding rules.acknowledge
none_acknowledged manager client given idle = rw (is_not (manager.server.present client) idle) refl

pub none_cut : (manager : Manager) (client : ℕ) → is_absent client manager ≡ true → (rules.cut manager client).told ≡ []
unfolding rules.cut
none_cut manager client idle = rw (is_not (manager.server.present client) idle) refl

pub none_left : (manager : Manager) (client : ℕ) (file_ids tags : List ℕ) → is_absent client manager ≡ true
    → (rules.leave manager client file_ids tags).told ≡ []
unfolding rules.leave
none_left manager client file_ids tags idle = rw (is_not (manager.server.present client) idle) refl

pub none_expired : (manager : Manager) (key : Key) → not (queries.breaking manager.server key) ≡ true
    → (rules.expire manager key).told ≡ []
unfolding rules.expire
none_expired manager key idle = rw (is_not (queries.breaking manager.server key) idle) refl

pub none_scavenged : (manager : Manager) (file_id : ℕ) → is_gone file_id manager ≡ true
    → (rules.scavenge manager file_id).told ≡ []
unfolding rules.scavenge
none_scavenged manager file_id idle = rw (is_not (list_any (is_left_behind file_id) manager.server.opens) idle) refl

pub none_withdrawn : (manager : Manager) (file client tag : ℕ) → is_answered client tag file manager ≡ true
    → (rules.withdraw manager file client tag).told ≡ []
unfolding rules.withdraw
none_withdrawn manager file client tag idle =
    rw (is_not (list_any (rules.is_under client tag) (manager.queues file)) idle) refl
