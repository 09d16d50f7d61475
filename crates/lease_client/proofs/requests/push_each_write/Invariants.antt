use Rattle.lease_laws.proofs.Words.{◌++◌, ◌≡◌, map, request_written, take, write_requests}
use Rattle.lease_client.proofs.requests.push_each_write.Given as goal

abbrev pub invariant-loop-write : goal.invariant-loop-write
invariant-loop-write l = l.requests.items
    ≡ l.fn.requests.items ++ map request_written (write_requests l.file_id.0 (take l.write-index l.writes))
