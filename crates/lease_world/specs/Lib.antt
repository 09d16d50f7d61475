pub use Rattle.lease_facts.specs.Facts
pub use Rattle.lease_facts.specs.Setups
pub mod judge
pub mod world
