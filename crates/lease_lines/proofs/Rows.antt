-- Why a line is none for machines is its first fault.
use Rattle.std.proofs.Common.{◌≡◌, refl, true}
use Rattle.lease_texts.specs.{Complaints.complaint, FirstFaults.ComplainsExactly, Tables.FieldSays}
use Rattle.lease_texts.proofs.{FirstFaults.complains_exactly, Tables.are_apart, Tables.reads_exactly}
use Rattle.lease_lines.specs.ClientLines.{client_kinds, client_line_in, client_table}
use Rattle.lease_lines.specs.ServerLines.{server_kinds, server_line_in, server_table}

clients_apart : are_apart client_kinds ≡ true
unfolding are_apart
clients_apart = refl

pub clients_complained : ComplainsExactly FieldSays client_kinds client_line_in (complaint client_table)
unfolding client_line_in
clients_complained =
    complains_exactly client_kinds client_line_in client_table refl clients_apart refl (reads_exactly client_kinds clients_apart)

servers_apart : are_apart server_kinds ≡ true
unfolding are_apart
servers_apart = refl

pub servers_complained : ComplainsExactly FieldSays server_kinds server_line_in (complaint server_table)
unfolding server_line_in
servers_complained =
    complains_exactly server_kinds server_line_in server_table refl servers_apart refl (reads_exactly server_kinds servers_apart)
