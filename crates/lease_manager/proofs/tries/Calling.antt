-- Calls, as they are told.
use Rattle.lease_laws.proofs.Words.{◌++◌, ◌==◌, ◌∙◌, ◌∷◌, ◌≡◌, AreInOrder, Bool, Held, Key, List, Open, Out, Progress, Server}
use Rattle.lease_laws.proofs.Words.{ℕ, []}
use Rattle.lease_laws.proofs.Words.{ap, begun, client_forgotten, false, filter, fun_ext}
use Rattle.lease_laws.proofs.Words.{join, joined, key_expired, map, opens_dropped, put, refl, sym, true, without}
use Rattle.lease_laws.proofs.server.Lists.{either}
use Rattle.manager_model.specs.Decisions.{Decision, told_of}
use Rattle.manager_model.specs.Handling.{Handling, Manager, Tagged, at_server, ended_between, gone_on, held_in, is_of, is_under}
use Rattle.manager_model.specs.Handling.{ends, is_left, left, left_behind, links_lost, lost, opens_left, parts_left, taken_back}
use Rattle.lease_laws.proofs.Words.{ap₂, is_lost_of, is_named, list_any, parted}
use Rattle.lease_manager.specs.GivingUp.{extent_of, wish_of}
use Rattle.lease_manager.specs.LeftOpens.{numbers}
use Rattle.lease_manager.specs.Wishes.{wants_for}
use Rattle.lease_manager.specs.declared.values.extent.Extent.{Extent}
use Rattle.lease_manager.specs.declared.values.extent.Extent.TheVariants as Extents
use Rattle.lease_laws.proofs.Words.{Option, others_broken, wants_met}
use Rattle.lease_manager.specs.Parting.{IsParted, is_kept_of}
use Rattle.lease_manager.specs.declared.tables.parting.Parted.{Parted}
use Rattle.manager_model.specs.Handling as rules
use Rattle.lease_manager.proofs.tries.Ending.{ended_by, none_ends}
use Rattle.lease_manager.specs.LeftOpens.{ids_of}
use Rattle.lease_manager.specs.Outs.{handling_of, progress_of}
use Rattle.lease_manager.specs.Table.{Queue, Table, client_gone, manager_of, queue_at, requests_gone, requeued, server_of}

abbrev at_handling : Server → (ℕ → List Tagged) → List Decision → Handling
at_handling server queues told = record { manager = record { server = server; queues = queues }; told = told }

-- the server has come to this
pub at_now : (before after : Table) (told now : List Decision) (server : Server) → server_of after ≡ server
    → after.queues ≡ before.queues → now ≡ told ++ ended_between (server_of before) server
    → handling_of after now ≡ at_server server (handling_of before told)
at_now before after told now server is queues said =
    ap (λ s. at_handling s (queue_at after.queues) now) is
    ∙ (ap (λ (q : List Queue). at_handling server (queue_at q) now) queues
    ∙ ap (at_handling server (queue_at before.queues)) said)

pub gone_now : (before after : Table) (told now : List Decision) (outs : List Out) (tag : ℕ) (progress : Progress)
    → progress_of after outs ≡ progress → after.queues ≡ before.queues → now ≡ told ++ told_of tag outs
    → handling_of after now ≡ gone_on tag progress (handling_of before told)
gone_now before after told now outs tag progress is queues said =
    ap (λ (q : List Queue). at_handling (server_of after) (queue_at q) now) queues
    ∙ (ap (at_handling (server_of after) (queue_at before.queues)) said
    ∙ ap (λ (p : Progress). at_handling p.server (queue_at before.queues) (told ++ told_of tag p.outs)) is)

-- ---- opens that are closed

pub closed_told : (before : Table) (after : Server) (told now : List Decision) (ids : List ℕ) (test : Open → Bool)
    → AreInOrder before.opens → ids ≡ ids_of (filter test before.opens)
    → ids_of after.opens ≡ ids_of (without test before.opens) → now ≡ told ++ map Decision.Ended ids
    → now ≡ told ++ ended_between (server_of before) after
closed_told before after told now ids test order are left said =
    said ∙ ap (λ more. told ++ more) (ended_by (server_of before) after ids test order are left)

pub lease_ended : (before during after : Table) (key : Key) (test : Open → Bool)
    → progress_of during [] ≡ opens_dropped test (progress_of before [])
    → progress_of after [] ≡ key_expired key (progress_of during [])
    → server_of after ≡ (key_expired key (opens_dropped test (begun (server_of before)))).server
lease_ended before during after key test first second =
    ap (λ (p : Progress). p.server) (second ∙ ap (key_expired key) first)

-- ---- a client that is cut

without_held : (client : ℕ) (queue : List Tagged)
    → held_in (without (is_of client) queue) ≡ without (λ (one : Held). one.client == client) (held_in queue)
without_held client [] = refl
without_held client (one ∷ queue) = let later = without_held client queue in either (one.held.client == client)
    (λ t. rw t later)
    (λ t. rw t (ap (λ l. one.held ∷ l) later))

abbrev with_held : Server → ℕ → (ℕ → List Held) → Server
with_held server client held = record server { present = put server.present client false; held = held }

forgotten_is : (table : Table) (client : ℕ)
    → (client_gone client (manager_of table)).server ≡ (client_forgotten client (progress_of table [])).server
forgotten_is table client = ap (with_held (server_of table) client)
    (fun_ext (λ file. without_held client (queue_at table.queues file)))

-- the FileIds of those that are disconnected
ids_parted : (test : Open → Bool) (opens : List Open) → ids_of (map (parted test) opens) ≡ ids_of opens
ids_parted test [] = refl
ids_parted test (one ∷ opens) = let later = ids_parted test opens in either (test one)
    (λ t. rw t (ap (λ l. one.file_id ∷ l) later))
    (λ t. rw t (ap (λ l. one.file_id ∷ l) later))

left_ids : (opens : List Open) → map Decision.LeftBehind (ids_of opens)
    ≡ map (λ (one : Open). Decision.LeftBehind one.file_id) opens
left_ids [] = refl
left_ids (one ∷ opens) = ap (λ l. Decision.LeftBehind one.file_id ∷ l) (left_ids opens)

-- what is told of them
parted_told : (before : Table) (after : Server) (test : Open → Bool) (ids : Parted) (told during now : List Decision)
    → AreInOrder before.opens → IsParted test (server_of before) ids after
    → during ≡ told ++ map Decision.Ended (numbers ids.ended.items)
    → now ≡ during ++ map Decision.LeftBehind (numbers ids.left.items)
    → now ≡ (told ++ ended_between (server_of before) after) ++ left_behind test (server_of before)
unfolding left_behind
parted_told before after test ids told during now order p first second =
    let lost = is_lost_of (server_of before) test in
    let opens : ids_of after.opens ≡ ids_of (without lost before.opens) =
    ap (λ (s : Server). ids_of s.opens) p.server ∙ ids_parted test (without lost before.opens) in
    second ∙ ap₂ (λ x y. x ++ y)
    (first ∙ ap (λ more. told ++ more) (ended_by (server_of before) after _ lost order p.ended opens))
    (ap (map Decision.LeftBehind) p.left ∙ left_ids (filter (is_kept_of (server_of before) test) before.opens))

-- only who is open and connected is told of
same_ended : (before one other : Server) → one.opens ≡ other.opens → ended_between before one ≡ ended_between before other
unfolding ended_between
same_ended before one other same = ap (λ (opens : List Open). map (λ (one : Open). Decision.Ended one.file_id)
    (without (λ (one : Open). list_any (λ (other : Open). other.file_id == one.file_id) opens) before.opens)) same

pub lost_now : (before middle after : Table) (told during now : List Decision) (ids : Parted) (client : ℕ)
    → AreInOrder before.opens → IsParted (λ one. one.client == client) (server_of before) ids (server_of middle)
    → middle.queues ≡ before.queues → manager_of after ≡ client_gone client (manager_of middle)
    → during ≡ told ++ map Decision.Ended (numbers ids.ended.items)
    → now ≡ during ++ map Decision.LeftBehind (numbers ids.left.items)
    → handling_of after now ≡ lost client (handling_of before told)
lost_now before middle after told during now ids client order p queues gone first second =
    let test : Open → Bool = λ one. one.client == client in
    let links : (client_gone client (manager_of middle)).server ≡ (links_lost (server_of before) client).server =
    forgotten_is middle client ∙ ap (λ (s : Server). (client_forgotten client (begun s)).server) p.server in
    ap (λ (m : Manager). record { manager = m; told = now }) gone
    ∙ (ap (λ s. at_handling s (λ file. without (is_of client) (queue_at middle.queues file)) now) links
    ∙ (ap (λ (q : List Queue). at_handling (links_lost (server_of before) client).server
    (λ file. without (is_of client) (queue_at q file)) now) queues
    ∙ ap (at_handling (links_lost (server_of before) client).server
    (λ file. without (is_of client) (queue_at before.queues file)))
    (parted_told before (server_of middle) test ids told during now order p first second
    ∙ ap (λ more. (told ++ more) ++ left_behind test (server_of before)) (same_ended (server_of before) (server_of middle)
    (links_lost (server_of before) client).server (ap (λ (s : Server). s.opens) p.server)))))

-- ---- a client that leaves some of its opens

abbrev at_queues : Server → (ℕ → List Tagged) → List Decision → Handling
at_queues server queues told = record {
  manager = record { server = record server { held = λ file. held_in (queues file) }; queues = queues };
  told = told;
}

pub left_now : (before middle after : Table) (told during now : List Decision) (ids : Parted) (client : ℕ)
    (file_ids tags : List ℕ)
    → AreInOrder before.opens → IsParted (is_named client file_ids) (server_of before) ids (server_of middle)
    → middle.queues ≡ before.queues → manager_of after ≡ requests_gone (is_left client tags) (manager_of middle)
    → during ≡ told ++ map Decision.Ended (numbers ids.ended.items)
    → now ≡ during ++ map Decision.LeftBehind (numbers ids.left.items)
    → handling_of after now ≡ left client file_ids tags (handling_of before told)
left_now before middle after told during now ids client file_ids tags order p queues gone first second =
    let test : Open → Bool = is_named client file_ids in
    ap (λ (m : Manager). record { manager = m; told = now }) gone
    ∙ (ap (λ (q : List Queue). at_queues (server_of middle) (λ file. without (is_left client tags) (queue_at q file)) now) queues
    ∙ (ap (λ s. at_queues s (λ file. without (is_left client tags) (queue_at before.queues file)) now) p.server
    ∙ ap (at_queues (opens_left (server_of before) client file_ids).server
    (λ file. without (is_left client tags) (queue_at before.queues file)))
    (parted_told before (server_of middle) test ids told during now order p first second
    ∙ ap (λ more. (told ++ more) ++ left_behind test (server_of before)) (same_ended (server_of before) (server_of middle)
    (parts_left (manager_of before) client file_ids tags) (ap (λ (s : Server). s.opens) p.server)))))

-- ---- a request that is taken back

pub taken_now : (before after : Table) (told now : List Decision) (file client tag : ℕ)
    → manager_of after ≡ requeued (manager_of before) file (without (is_under client tag) (queue_at before.queues file))
    → now ≡ told ++ Decision.Withdrawn client tag ∷ []
    → handling_of after now ≡ taken_back file client tag (handling_of before told)
taken_now before after told now file client tag is said =
    ap (λ (m : Manager). record { manager = m; told = now }) is
    ∙ ap (λ l. record {
      manager = requeued (manager_of before) file (without (is_under client tag) (queue_at before.queues file));
      told = l;
    }) said

-- ---- a client that joins

pub joined_now : (before after : Table) (client : ℕ) → (server_of before).present client ≡ false
    → progress_of after [] ≡ joined client (progress_of before []) → after.queues ≡ before.queues
    → handling_of after [] ≡ rules.join (manager_of before) client
unfolding rules.join join
joined_now before after client away is queues = rw away
    (at_now before after [] [] (joined client (progress_of before [])).server (ap (λ (p : Progress). p.server) is) queues
    (sym (none_ends (server_of before) (joined client (progress_of before [])).server refl)))

pub joined_already : (before : Table) (client : ℕ) → (server_of before).present client ≡ true
    → handling_of before [] ≡ rules.join (manager_of before) client
unfolding rules.join join
joined_already before client there = rw there
    (at_now before before [] [] (server_of before) refl refl
    (sym (none_ends (server_of before) (server_of before) refl)))

pub cuts : (manager : Manager) (client : ℕ) → manager.server.present client ≡ true
    → rules.cut manager client ≡ rules.all_passes (lost client (rules.handling manager))
unfolding rules.cut
cuts manager client there = rw there refl

pub cuts_nothing : (manager : Manager) (client : ℕ) → manager.server.present client ≡ false
    → rules.cut manager client ≡ rules.handling manager
unfolding rules.cut
cuts_nothing manager client away = rw away refl

pub leaves : (manager : Manager) (client : ℕ) (file_ids tags : List ℕ) → manager.server.present client ≡ true
    → rules.leave manager client file_ids tags ≡ rules.all_passes (left client file_ids tags (rules.handling manager))
unfolding rules.leave
leaves manager client file_ids tags there = rw there refl

pub leaves_nothing : (manager : Manager) (client : ℕ) (file_ids tags : List ℕ) → manager.server.present client ≡ false
    → rules.leave manager client file_ids tags ≡ rules.handling manager
unfolding rules.leave
leaves_nothing manager client file_ids tags away = rw away refl

-- ---- what other keys are to give up

pub broken_now : (before after : Table) (told during now : List Decision) (outs : List Out) (progress : Progress)
    → progress_of after outs ≡ progress → after.queues ≡ before.queues
    → during ≡ told ++ ended_between (server_of before) (server_of after) → now ≡ during ++ told_of 0 outs
    → handling_of after now ≡ gone_on 0 progress (ends progress.server (handling_of before told))
broken_now before after told during now outs progress is queues first second =
    ap (λ (q : List Queue). at_handling (server_of after) (queue_at q) now) queues
    ∙ (ap (at_handling (server_of after) (queue_at before.queues)) (second ∙ ap (λ l. l ++ told_of 0 outs) first)
    ∙ ap (λ (p : Progress). at_handling p.server (queue_at before.queues)
    ((told ++ ended_between (server_of before) p.server) ++ told_of 0 p.outs)) is)

pub others_are : (server : Server) (own : Option Key) (file : ℕ) (extent : Extent)
    → wants_met (wants_for (wish_of extent) server own file) (begun server) ≡ others_broken server own file (extent_of extent)
others_are server own file Extents.Handles = refl
others_are server own file Extents.All = refl
