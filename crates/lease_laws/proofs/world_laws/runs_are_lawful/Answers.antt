use Rattle.lease_laws.proofs.world.Beliefs.{beliefs_of_runs}
use Rattle.lease_laws.proofs.world.FileIds.{file_ids_are_counted, opens_are_told}
use Rattle.lease_laws.proofs.world.InStep.{contents_are_told, replies_are_of_their_places}
use Rattle.lease_laws.proofs.world.Links.{links_of_runs}
use Rattle.lease_laws.proofs.world.Timers.{timers_are_told}
use Rattle.lease_laws.proofs.world.Runs.{servers_of_runs, contents_of_runs_fit}
use Rattle.lease_laws.proofs.world_laws.runs_are_lawful.Goals as goal

pub returns-clause-servers : goal.returns-clause-servers
returns-clause-servers c = servers_of_runs

pub returns-clause-contents : goal.returns-clause-contents
returns-clause-contents c = contents_of_runs_fit

pub returns-clause-beliefs : goal.returns-clause-beliefs
returns-clause-beliefs c = beliefs_of_runs

pub returns-clause-links : goal.returns-clause-links
returns-clause-links c = links_of_runs

pub returns-clause-file_ids : goal.returns-clause-file_ids
returns-clause-file_ids c = file_ids_are_counted

pub returns-clause-opens : goal.returns-clause-opens
returns-clause-opens c = opens_are_told

pub returns-clause-timers : goal.returns-clause-timers
returns-clause-timers c = timers_are_told

pub returns-clause-record : goal.returns-clause-record
returns-clause-record c = contents_are_told

pub returns-clause-replies : goal.returns-clause-replies
returns-clause-replies c = replies_are_of_their_places
