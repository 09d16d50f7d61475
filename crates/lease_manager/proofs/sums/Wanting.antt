-- The wants of the keys whose leases are wanted.
use Rattle.lease_laws.proofs.Words.{◌≡◌, Key, Option, Server, arith, filter, keys_of, map}
use Rattle.lease_manager.specs.declared.values.number.FileNo.{FileNo}
use Rattle.lease_manager.specs.Wishes.{is_demanded, wants_for, want_of}
use Rattle.lease_manager.specs.declared.values.want.Wish.{Wish}

pub wants_are : (wish : Wish) (server : Server) (own : Option Key) (file : FileNo) → map (want_of wish server)
    (keys_of (filter (is_demanded (record { wish = wish; own = own; file = file }) server) server.opens))
    ≡ wants_for wish server own file.0
wants_are wish server own file = grind arith
