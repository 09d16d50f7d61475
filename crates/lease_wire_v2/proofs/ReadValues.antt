-- What the readers know of the values that were gathered.
use Rattle.std.proofs.Common.{◌≡◌, ℕ, true, false, List, Option, Some, None, Ok, refl, sym, ◌∙◌, ap, IfSome}
use Rattle.std.specs.Option.{option_map}
use Rattle.lease_wire.specs.declared.create.Direction.{Direction}
use Rattle.lease_wire.specs.declared.create.Direction.TheVariants.{Request, Reply}
use Rattle.lease_wire_v2.specs.Names.{LeaseView, DurableView, ReconnectView, CreateView, is_directed}
use Rattle.lease_wire_v2.specs.Gathering.{value_of}
use Rattle.lease_wire_v2.specs.Views.{lease_view_of, any_durable, values_of}
use Rattle.lease_wire_v2.specs.declared.create.LeaseAnswer.{LeaseAnswer}
use Rattle.lease_wire_v2.specs.declared.create.meaning.AnyDurable as any
use Rattle.lease_wire_v2.specs.declared.create.reading.Values.{Values}
use Rattle.lease_wire_v2.proofs.ReadingLaws.{value_held_of}
use Rattle.lease_wire_v2.proofs.Directed.{calm_lease, directed_durable, without_reconnect}

-- the lease that a request's reader values reports no break in progress
pub asked_is_calm : (text : List ℕ) (values : Values) → Ok (values_of values) ≡ value_of Request text
    → IfSome values.lease (λ lease. lease.breaking ≡ false)
asked_is_calm text values e =
    let held = value_held_of Request text (values_of values) (sym e) in
    calm values.lease (calm_lease held.0 (values_of values) held.2)
  where
    calm : (held : Option LeaseAnswer) → IfSome (option_map lease_view_of held) (λ lease. lease.breaking ≡ false)
        → IfSome held (λ lease. lease.breaking ≡ false)
    calm None is = tt
    calm (Some lease) is = is

pub durable_is_directed : (direction : Direction) (text : List ℕ) (values : Values)
    → Ok (values_of values) ≡ value_of direction text
    → IfSome values.durable (λ durable. is_directed direction (any_durable durable) ≡ true)
durable_is_directed direction text values e =
    let held = value_held_of direction text (values_of values) (sym e) in
    directed values.durable (directed_durable direction held.0 (values_of values) held.2)
  where
    directed : (held : Option any.AnyDurable)
        → IfSome (option_map any_durable held) (λ durable. is_directed direction durable ≡ true)
        → IfSome held (λ durable. is_directed direction (any_durable durable) ≡ true)
    directed None is = tt
    directed (Some durable) is = is

-- a response's reader values no reconnect
pub answered_value : (text : List ℕ) (values : Values) (v : CreateView) → Ok (values_of values) ≡ value_of Reply text
    → v.lease ≡ (values_of values).lease → (values_of values).durable ≡ v.durable → v.reconnect ≡ None
    → Ok v ≡ value_of Reply text
answered_value text values v e lease durable reconnect =
    let held = value_held_of Reply text (values_of values) (sym e) in
    let none = without_reconnect held.0 (values_of values) held.2 in
    let same : v ≡ values_of values = same_view _ _ _ _ _ _ lease (sym durable) (reconnect ∙ sym none) in
    ap Ok same ∙ e
  where
    same_view : (a b : Option LeaseView) (c d : Option DurableView) (e f : Option ReconnectView) → a ≡ b → c ≡ d → e ≡ f
        → ◌≡◌ {A = CreateView} (record { lease = a; durable = c; reconnect = e })
        (record { lease = b; durable = d; reconnect = f })
    same_view a b c d e f x y z = rw (x, y, z) refl
