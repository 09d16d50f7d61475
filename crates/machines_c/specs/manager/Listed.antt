-- What a host has listed of a manager in a handle.
use Rattle.std.specs.Prelude.{◌≡◌, List, [], map, Option, Some, None}
use Rattle.lease_manager.specs.Listing.{open_of}
use Rattle.lease_manager.specs.Listings.{AreLeases, AreWaiting, waiting_of}
use Rattle.lease_manager.specs.Table.{server_of}
use Rattle.lease_manager.specs.declared.values.listed.ListedLease.{ListedLease}
use Rattle.lease_manager.specs.declared.values.listed.ListedRequest.{ListedRequest}
use Rattle.lease_manager.specs.declared.values.open.ListedOpen.{ListedOpen}
use Rattle.machines_c.specs.declared.manager.listed.Listed.{Listed}
use Rattle.machines_c.specs.declared.manager.listed.Listing.{Listing}
use Rattle.machines_c.specs.declared.manager.listed.Listing.TheVariants as listings
use Rattle.machines_c.specs.declared.manager.managing.Managing.{Managing}

-- what was listed since the last call: nothing, where no manager is held
abbrev pub opens_listed : Option Managing → List ListedOpen
opens_listed None = []
opens_listed (Some one) = one.listed.opens.items

abbrev pub leases_listed : Option Managing → List ListedLease
leases_listed None = []
leases_listed (Some one) = one.listed.leases.items

abbrev pub requests_listed : Option Managing → List ListedRequest
requests_listed None = []
requests_listed (Some one) = one.listed.requests.items

pub record IsUnlisted (listed : Listed) : Type 0 where
  pub opens : listed.opens.items ≡ []
  pub leases : listed.leases.items ≡ []
  pub requests : listed.requests.items ≡ []

-- Nothing but what is listed changed.
pub record OnlyLists (old new : Managing) : Type 0 where
  pub manager : new.manager ≡ old.manager
  pub changes : new.changes ≡ old.changes
  pub decisions : new.decisions ≡ old.decisions
  pub timers : new.timers ≡ old.timers
  pub numbers : new.numbers ≡ old.numbers

-- All opens are listed, and what else was listed stays.
pub record AreOpensListed (old new : Managing) : Type 0 where
  pub opens : map open_of new.listed.opens.items ≡ (server_of old.manager).opens
  pub leases : new.listed.leases ≡ old.listed.leases
  pub requests : new.listed.requests ≡ old.listed.requests
  pub only : OnlyLists old new

-- All leases are.
pub record AreLeasesListed (old new : Managing) : Type 0 where
  pub leases : AreLeases (server_of old.manager) new.listed.leases.items
  pub opens : new.listed.opens ≡ old.listed.opens
  pub requests : new.listed.requests ≡ old.listed.requests
  pub only : OnlyLists old new

-- All requests that wait are.
pub record AreRequestsListed (old new : Managing) : Type 0 where
  pub requests : AreWaiting old.manager (map waiting_of new.listed.requests.items)
  pub opens : new.listed.opens ≡ old.listed.opens
  pub leases : new.listed.leases ≡ old.listed.leases
  pub only : OnlyLists old new

-- These are.
abbrev pub AreListed : Listing → Managing → Managing → Type 0
AreListed listings.Opens old new = AreOpensListed old new
AreListed listings.Leases old new = AreLeasesListed old new
AreListed listings.Requests old new = AreRequestsListed old new
