-- What is known of a create from its contexts, and what is asked or given up.
use Rattle.std.specs.Prelude.{ℕ, Option, Some, None, List, if◌then◌else◌, ◌&&◌, ◌==◌, is_some}
use Rattle.std.specs.List.{list_any}
use Rattle.lease_wire_v2.specs.Names.{CreateView, DurableView, LeaseView, ReconnectView, SecondView}
use Rattle.lease_versions.specs.Layer.{Asked, AskedCreate, Layer, put_asked}

abbrev pub second_asked : Option LeaseView → Option SecondView
second_asked None = None
second_asked (Some lease) = lease.second

abbrev pub durable_guid : Option DurableView → Option (List ℕ)
durable_guid None = None
durable_guid (Some DurableView.First) = None
durable_guid (Some (DurableView.Asked asked)) = Some asked.create_guid
durable_guid (Some (DurableView.Granted grant)) = None

abbrev pub reconnect_guid : Option ReconnectView → Option (List ℕ)
reconnect_guid None = None
reconnect_guid (Some (ReconnectView.FirstId file_id)) = None
reconnect_guid (Some (ReconnectView.SecondId again)) = Some again.create_guid

-- a create has one of both contexts at most
abbrev pub guid_asked : CreateView → Option (List ℕ)
guid_asked ask = if is_some ask.reconnect then reconnect_guid ask.reconnect else durable_guid ask.durable

abbrev pub create_asked : CreateView → AskedCreate
create_asked ask = record {
  second = second_asked ask.lease;
  guid = guid_asked ask;
  reconnects = is_some ask.reconnect;
}

abbrev pub with_asked : ℕ → ℕ → Asked → Layer → Layer
with_asked client tag asked layer = record layer { asked = put_asked layer.asked client tag (Some asked) }

-- what a client asked is forgotten: all of it, or what it asked under these tags
unfoldable pub without_client : ℕ → (ℕ → ℕ → Option Asked) → ℕ → ℕ → Option Asked
without_client client asked other tag = if other == client then None else asked other tag

unfoldable pub without_tags : ℕ → List ℕ → (ℕ → ℕ → Option Asked) → ℕ → ℕ → Option Asked
without_tags client tags asked other tag =
    if other == client && list_any (λ one. tag == one) tags then None else asked other tag

abbrev pub all_forgotten : ℕ → Layer → Layer
all_forgotten client layer = record layer { asked = without_client client layer.asked }

abbrev pub tags_forgotten : ℕ → List ℕ → Layer → Layer
tags_forgotten client tags layer = record layer { asked = without_tags client tags layer.asked }
