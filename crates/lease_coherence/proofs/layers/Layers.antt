-- What is known of every world, layer by layer: the table of contents of these proofs. Each layer is shown from all of them
-- as they stood before a move.
-- in every run
-- in every run whose setup is allowed
use Rattle.lease_laws.proofs.Words.{EachFact, NoFalseDone, World}
use Rattle.lease_coherence.specs.Creates.{IsCountedAt}
use Rattle.lease_coherence.specs.Names.{IsNamed}
use Rattle.lease_coherence.specs.Standing.{IsUpStanding}
use Rattle.lease_coherence.proofs.beliefs.Trust.{IsUpTrusted}
use Rattle.lease_coherence.proofs.covered.Moves.{IsUpCovered}
use Rattle.lease_coherence.proofs.fresh.Contents.{HasContents}
use Rattle.lease_coherence.proofs.fresh.Sent.{IsUpFresh}
use Rattle.lease_coherence.proofs.late.SafeWrites.{IsNotLate}
use Rattle.lease_coherence.proofs.moves.Events.{Ground}
use Rattle.lease_coherence.proofs.moves.Own.{OfGood}
use Rattle.lease_coherence.proofs.order.OrderedRequests.{IsUpInOrder}
use Rattle.lease_coherence.proofs.told.Moves.{IsUpTold}
use Rattle.lease_coherence.proofs.wellformed.WellFormed.{IsWell}
use Rattle.lease_coherence.proofs.writes.Steps.{IsUpSentOnce}
use Rattle.lease_coherence.proofs.writes.Unanswered.{HasWrites}

pub record HasLayers (world : World) : Type 0 where
  -- the server is sound, FileIds are counted, links are as both ends have them, and clients are sound
  pub ground : Ground world
  -- who names an open, in its entries or on the way, names one that the record has
  pub named : IsNamed world
  -- no write is reported as done that was not accepted
  pub done : EachFact NoFalseDone world.past
  -- of each file a client has at most one create under way, and just while its entry waits for it
  pub creates : OfGood IsCountedAt world
  -- while its link is up, the opens that a client names and does not close stand
  pub opens : OfGood IsUpStanding world
  -- while its link is up, what a client believes of a lease is explained by the lease and by what is on its way
  pub beliefs : OfGood IsUpTrusted world
  -- each connected open is the one that its client's entry has, or its grant or its Close is on the way
  pub covered : OfGood IsUpCovered world
  -- while a lease is breaking, its Break, the acknowledgment or a Close is on the way
  pub told : OfGood IsUpTold world

pub record HasRecord (world : World) : Type 0 where
  pub layers : HasLayers world
  -- facts stand in an order and bear numbers that a world can give
  pub well : IsWell world
  -- a sent write that is not answered is under way once
  pub once : OfGood IsUpSentOnce world
  -- the record gives what each file holds
  pub contents : HasContents world
  -- a cached file is, or will be by what is on its way, as the record has it
  pub fresh : OfGood IsUpFresh world
  -- the writes that the record leaves open are those that clients have
  pub writes : HasWrites world
  -- requests on their way stand in the order in which the client made them
  pub order : OfGood IsUpInOrder world
  -- no buffered write comes after another client opened or changed its file
  pub late : OfGood IsNotLate world
