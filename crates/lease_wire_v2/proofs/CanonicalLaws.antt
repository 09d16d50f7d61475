-- The canonical text of a value holds that value.
use Rattle.std.proofs.Common.{◌≡◌, ℕ, List, [], ◌∷◌, length, Bool, true, false}
use Rattle.std.proofs.Common.{Option, Some, None, refl, ◌∙◌, ap, arith, IfSome}
use Rattle.std.proofs.lemmas.List.{append-nil}
use Rattle.lease_state.specs.State.{State}
use Rattle.lease_wire.specs.Names as first
use Rattle.lease_wire.specs.Canonical as first_text
use Rattle.lease_wire.specs.declared.create.Direction.{Direction}
use Rattle.lease_wire.specs.declared.create.Direction.TheVariants.{Request, Reply}
use Rattle.lease_wire.proofs.WrittenContexts as first_written
use Rattle.lease_wire.proofs.WrittenContexts.{written}
use Rattle.lease_wire_v2.specs.LeaseData.{lease_bytes, lease_in, IsCalm}
use Rattle.lease_wire_v2.specs.DurableData.{durable_bytes, durable_in, grant_bytes, grant_in}
use Rattle.lease_wire_v2.specs.DurableData.{reconnect_bytes, reconnect_in}
use Rattle.lease_wire_v2.specs.Names.{SecondView, LeaseView, DurableView, ReconnectView, CreateView, HoldsValue, meaning_of}
use Rattle.lease_wire_v2.specs.Names.{second_lease, first_meaning, is_directed, durable_name, reconnect_name}
use Rattle.lease_wire_v2.specs.Names.{go_together}
use Rattle.lease_wire_v2.specs.Names.Meaning.{Lease, Durable, Reconnect}
use Rattle.lease_wire_v2.specs.Names.DurableView.{First, Asked, Granted}
use Rattle.lease_wire_v2.specs.Names.ReconnectView.{FirstId, SecondId}
use Rattle.lease_wire_v2.specs.Canonical.{canonical_text, lease_body, lease_data, durable_name_of, durable_body}
use Rattle.lease_wire_v2.specs.Canonical.{reconnect_name_of, reconnect_body, context_bytes, IsBorneSecond, IsBorneLease}
use Rattle.lease_wire_v2.specs.Canonical.{IsBorneDurable, IsBorneId, HasReconnect, IsWritable, WrittenHoldsValue, WrittenReadsBack}
use Rattle.lease_wire_v2.proofs.LeaseLaws.{lease_reads_back}
use Rattle.lease_wire_v2.proofs.DurableLaws.{durable_reads_back, grant_reads_back, reconnect_reads_back}
use Rattle.lease_wire_v2.proofs.WrittenEntries.{Entry, IsSaid, holds_value}
use Rattle.lease_wire_v2.proofs.ReadingLaws.{value_is_read}

-- ---- leases

abbrev lease_entry : Direction → LeaseView → Entry
lease_entry direction lease = record { name = first.lease_name; body = lease_body direction lease; meaning = Lease lease }

abbrev leased : List ℕ → State → Bool → Option SecondView → LeaseView
leased key state breaking second = record { key = key; state = state; breaking = breaking; second = second }

calm_of : (direction : Direction) (lease : first.LeaseView) → IsCalm direction lease.breaking → first_written.Calm direction lease
calm_of Request lease calm = calm
calm_of Reply lease calm = tt

-- a body of 32 bytes is one of version 1, and one of 52 of version 2
means_first : (direction : Direction) (start : ℕ) (body : List ℕ) → length body ≡ 32
    → meaning_of direction (written start first.lease_name body)
    ≡ first_meaning (first.meaning_of direction (written start first.lease_name body))
unfolding meaning_of
means_first direction start body long = rw long refl

means_second : (direction : Direction) (start : ℕ) (body : List ℕ) → length body ≡ 52
    → meaning_of direction (written start first.lease_name body) ≡ Lease (second_lease (lease_in direction body))
unfolding meaning_of
means_second direction start body long = rw long refl

lease_said : (direction : Direction) (key : List ℕ) (state : State) (breaking : Bool) (second : Option SecondView)
    → length key ≡ 16 → IsCalm direction breaking → IfSome second IsBorneSecond
    → IsSaid direction (lease_entry direction (leased key state breaking second))
lease_said direction key state breaking None long calm borne =
    let lease : first.LeaseView = record { key = key; state = state; breaking = breaking } in
    let size : length (first_text.lease_body lease) ≡ 32 = first_written.length-lease_body lease long in
    record {
      name = (82, 113, 76, 115, refl);
      some = omega (arith, size);
      small = omega (arith, size);
      whole = rw size refl;
      means = λ start. means_first direction start (first_text.lease_body lease) size
          ∙ ap first_meaning (first_written.lease_is direction start lease long (calm_of direction lease calm));
    }
lease_said direction key state breaking (Some second) long calm borne =
    let lease : LeaseView = leased key state breaking (Some second) in
    let back = lease_reads_back direction (lease_data lease second)
    (record { key = long; parent = borne.parent; epoch = borne.epoch; calm = calm }) in
    let size : length (lease_bytes direction (lease_data lease second)) ≡ 52 = back.0 in
    record {
      name = (82, 113, 76, 115, refl);
      some = omega (arith, size);
      small = omega (arith, size);
      whole = rw size refl;
      means = λ start. means_second direction start (lease_bytes direction (lease_data lease second)) size
          ∙ ap (λ read. Lease (second_lease read)) back.1;
    }

-- ---- durable opens

abbrev durable_entry : Direction → DurableView → Entry
durable_entry direction durable = record {
  name = durable_name_of durable;
  body = durable_body direction durable;
  meaning = Durable durable;
}

means_durable : (direction : Direction) (start : ℕ) (body : List ℕ)
    → meaning_of direction (written start first.durable_name body)
    ≡ first_meaning (first.meaning_of direction (written start first.durable_name body))
unfolding meaning_of
means_durable direction start body = refl

means_asked : (start : ℕ) (body : List ℕ) → length body ≡ 32
    → meaning_of Request (written start durable_name body) ≡ Durable (Asked (durable_in body))
unfolding meaning_of
means_asked start body long = rw long refl

means_granted : (start : ℕ) (body : List ℕ) → length body ≡ 8
    → meaning_of Reply (written start durable_name body) ≡ Durable (Granted (grant_in body))
unfolding meaning_of
means_granted start body long = rw long refl

first_durable_said : (direction : Direction) → IsSaid direction (durable_entry direction First)
first_durable_said Request = record {
  name = (68, 72, 110, 81, refl);
  some = omega arith;
  small = omega arith;
  whole = refl;
  means = λ start. means_durable Request start (first_text.durable_body Request)
      ∙ ap first_meaning (first_written.durable_is Request start);
}
first_durable_said Reply = record {
  name = (68, 72, 110, 81, refl);
  some = omega arith;
  small = omega arith;
  whole = refl;
  means = λ start. means_durable Reply start (first_text.durable_body Reply)
      ∙ ap first_meaning (first_written.durable_is Reply start);
}

durable_said : (direction : Direction) (durable : DurableView) → IsBorneDurable durable → is_directed direction durable ≡ true
    → IsSaid direction (durable_entry direction durable)
durable_said direction First borne directed = first_durable_said direction
durable_said Request (Asked durable) borne directed =
    let back = durable_reads_back durable borne.0 borne.1 in
    let size : length (durable_bytes durable) ≡ 32 = back.0 in
    record {
      name = (68, 72, 50, 81, refl);
      some = omega (arith, size);
      small = omega (arith, size);
      whole = rw size refl;
      means = λ start. means_asked start (durable_bytes durable) size ∙ ap (λ read. Durable (Asked read)) back.1;
    }
durable_said Reply (Asked durable) borne directed = cc directed
durable_said Request (Granted grant) borne directed = cc directed
durable_said Reply (Granted grant) borne directed =
    let back = grant_reads_back grant borne in
    let size : length (grant_bytes grant) ≡ 8 = back.0 in
    record {
      name = (68, 72, 50, 81, refl);
      some = omega (arith, size);
      small = omega (arith, size);
      whole = refl;
      means = λ start. means_granted start (grant_bytes grant) size ∙ ap (λ read. Durable (Granted read)) back.1;
    }

-- ---- reconnects

abbrev reconnect_entry : ReconnectView → Entry
reconnect_entry reconnect = record {
  name = reconnect_name_of reconnect;
  body = reconnect_body reconnect;
  meaning = Reconnect reconnect;
}

means_reconnect : (start : ℕ) (body : List ℕ)
    → meaning_of Request (written start first.reconnect_name body)
    ≡ first_meaning (first.meaning_of Request (written start first.reconnect_name body))
unfolding meaning_of
means_reconnect start body = refl

means_reconnect_v2 : (start : ℕ) (body : List ℕ) → length body ≡ 36
    → meaning_of Request (written start reconnect_name body) ≡ Reconnect (SecondId (reconnect_in body))
unfolding meaning_of
means_reconnect_v2 start body long = rw long refl

reconnect_said : (reconnect : ReconnectView) → IsBorneId reconnect → IsSaid Request (reconnect_entry reconnect)
reconnect_said (FirstId file_id) fits = record {
  name = (68, 72, 110, 67, refl);
  some = omega arith;
  small = omega arith;
  whole = refl;
  means = λ start. means_reconnect start (first_text.reconnect_body file_id)
      ∙ ap first_meaning (first_written.reconnect_is start file_id fits);
}
reconnect_said (SecondId reconnect) fits =
    let back = reconnect_reads_back reconnect fits in
    let size : length (reconnect_bytes reconnect) ≡ 36 = back.0 in
    record {
      name = (68, 72, 50, 67, refl);
      some = omega (arith, size);
      small = omega (arith, size);
      whole = rw size refl;
      means = λ start. means_reconnect_v2 start (reconnect_bytes reconnect) size ∙ ap (λ read. Reconnect (SecondId read)) back.1;
    }

any_reconnect_said : (direction : Direction) (reconnect : ReconnectView) → IsBorneId reconnect
    → HasReconnect direction (Some reconnect) → IsSaid direction (reconnect_entry reconnect)
any_reconnect_said Request reconnect borne has = reconnect_said reconnect borne
any_reconnect_said Reply reconnect borne has = cc has

-- ---- the whole text

abbrev valued : Option LeaseView → Option DurableView → Option ReconnectView → CreateView
valued lease durable reconnect = record { lease = lease; durable = durable; reconnect = reconnect }

module _ (direction : Direction) where
  any_lease_said : (lease : LeaseView) → IsBorneLease direction lease → IsSaid direction (lease_entry direction lease)
  any_lease_said lease is = lease_said direction lease.key lease.state lease.breaking lease.second is.key is.calm is.second

  -- a value that has neither a durable open nor a reconnect, and one that has the one, the other or both
  held : (lease : Option LeaseView) (durable : Option DurableView) (reconnect : Option ReconnectView)
      → IsWritable direction (valued lease durable reconnect)
      → HoldsValue direction (canonical_text direction (valued lease durable reconnect)) (valued lease durable reconnect)
  unfolding canonical_text
  held None None None is = holds_value direction [] (valued None None None) tt refl refl refl refl refl
  held (Some lease) None None is =
      rw (append-nil (context_bytes false first.lease_name (lease_body direction lease)))
      (holds_value direction (lease_entry direction lease ∷ []) (valued (Some lease) None None)
      (any_lease_said lease is.lease, tt) refl refl refl refl refl)
  held None (Some durable) None is =
      rw (append-nil (context_bytes false (durable_name_of durable) (durable_body direction durable)))
      (holds_value direction (durable_entry direction durable ∷ []) (valued None (Some durable) None)
      (durable_said direction durable is.durable is.directed, tt) refl refl refl refl refl)
  held (Some lease) (Some durable) None is =
      rw (append-nil (context_bytes false (durable_name_of durable) (durable_body direction durable)))
      (holds_value direction (lease_entry direction lease ∷ durable_entry direction durable ∷ [])
      (valued (Some lease) (Some durable) None)
      (any_lease_said lease is.lease, (durable_said direction durable is.durable is.directed, tt)) refl refl refl refl refl)
  held None None (Some reconnect) is =
      holds_value direction (reconnect_entry reconnect ∷ []) (valued None None (Some reconnect))
      (any_reconnect_said direction reconnect is.reconnect is.reconnects, tt) refl refl refl refl refl
  held (Some lease) None (Some reconnect) is =
      holds_value direction (lease_entry direction lease ∷ reconnect_entry reconnect ∷ [])
      (valued (Some lease) None (Some reconnect))
      (any_lease_said lease is.lease, (any_reconnect_said direction reconnect is.reconnect is.reconnects, tt))
      refl refl refl refl refl
  held None (Some durable) (Some reconnect) is =
      holds_value direction (durable_entry direction durable ∷ reconnect_entry reconnect ∷ [])
      (valued None (Some durable) (Some reconnect)) (
        durable_said direction durable is.durable is.directed,
        (any_reconnect_said direction reconnect is.reconnect is.reconnects, tt),
      )
      refl refl refl refl is.together
  held (Some lease) (Some durable) (Some reconnect) is =
      holds_value direction (lease_entry direction lease ∷ durable_entry direction durable ∷ reconnect_entry reconnect ∷ [])
      (valued (Some lease) (Some durable) (Some reconnect)) (
        any_lease_said lease is.lease,
        (
          durable_said direction durable is.durable is.directed,
          (any_reconnect_said direction reconnect is.reconnect is.reconnects, tt),
        ),
      )
      refl refl refl refl is.together

pub written_holds_value : WrittenHoldsValue
written_holds_value direction v is = held direction v.lease v.durable v.reconnect is

pub written_reads_back : WrittenReadsBack
written_reads_back direction v is = ((value_is_read direction (canonical_text direction v)).value v).1
    (written_holds_value direction v is)

pub reply_together : (durable : Option DurableView) → go_together durable None ≡ true
reply_together None = refl
reply_together (Some durable) = refl
