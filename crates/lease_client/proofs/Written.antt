-- What is sent in two parts.
use Rattle.lease_laws.proofs.Words.{◌++◌, ◌≡◌, List, Request, map, map-append, request_written}

pub written_more : (first more : List Request)
    → map request_written (first ++ more) ≡ map request_written first ++ map request_written more
written_more first more = map-append request_written first more
