use Rattle.lease_laws.proofs.Words.{◌++◌, ◌≡◌, string_bytes}
use Rattle.std.proofs.Common.{OnOk}
use Rattle.std.specs.List.{flat_map}
use Rattle.lease_wire.specs.Contexts.{items_left}
use Rattle.lease_wire.specs.Gathering.{gathered, no_values}
use Rattle.lease_wire.specs.Views.{values_of}
use Rattle.leasecheck.specs.Words.{item_line}
use Rattle.leasecheck.proofs.wire.render.render_create.Given as goal

-- what is left gives the whole value, and the whole of the lines where there was memory so far
abbrev pub invariant-loop-item : goal.invariant-loop-item
invariant-loop-item l = record {
  value : gathered l.direction (values_of l.values) (items_left l.item-iterator)
      ≡ gathered l.direction no_values (items_left l.contexts);
  lines : OnOk l.room (string_bytes l.text ++ flat_map item_line (items_left l.item-iterator)
      ≡ flat_map item_line (items_left l.contexts));
}
