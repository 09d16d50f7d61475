-- What becomes of requests on their way to the server, as the definitions see it.
use Rattle.std.specs.Prelude.{ℕ}
use Rattle.lease_model.specs.messages.FromBytes.{request_of}
use Rattle.lease_model.specs.messages.Requests.{Request}
use Rattle.lease_facts.specs.declared.passage.Passage as code

-- Sent: a client sends a request; the record has so many facts by then. Taken: the server takes the client's oldest request.
-- Lost: all of the client's requests are lost with its connection. Before these two the record has so many facts.
pub data Passage : Type 0 where
  Sent : (client : ℕ) (request : Request) (facts : ℕ) → Passage
  Taken : (client : ℕ) (facts : ℕ) → Passage
  Lost : (client : ℕ) (facts : ℕ) → Passage

abbrev pub passage_meant : code.Passage → Passage
passage_meant (code.TheVariants.Sent client request facts) = Passage.Sent client.0 (request_of request) facts
passage_meant (code.TheVariants.Taken client facts) = Passage.Taken client.0 facts
passage_meant (code.TheVariants.Lost client facts) = Passage.Lost client.0 facts
