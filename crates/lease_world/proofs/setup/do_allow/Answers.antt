use Rattle.lease_world.proofs.worlds.First.{has_many_files, has_many_clients, is_allowed_by}
use Rattle.lease_world.proofs.setup.do_allow.Goals as goal

pub returns-then-files-gt-FILES_LIMIT-clause-value : goal.returns-then-files-gt-FILES_LIMIT-clause-value
returns-then-files-gt-FILES_LIMIT-clause-value c =
    has_many_files record { files = c.args.files.now; clients = c.args.clients.now } c.if-files-gt-FILES_LIMIT.true

pub returns-then-clients-gt-CLIENTS_LIMIT-clause-value : goal.returns-then-clients-gt-CLIENTS_LIMIT-clause-value
returns-then-clients-gt-CLIENTS_LIMIT-clause-value c =
    has_many_clients record { files = c.args.files.now; clients = c.args.clients.now } c.if-clients-gt-CLIENTS_LIMIT.true

pub returns-clause-value : goal.returns-clause-value
returns-clause-value c = is_allowed_by record { files = c.args.files.now; clients = c.args.clients.now } c.are_apart.result
    c.if-files-gt-FILES_LIMIT.false c.do_fit.ensures c.if-clients-gt-CLIENTS_LIMIT.false c.are_apart.ensures
