use Rattle.lease_laws.proofs.client.Entries.{first_entries, called_entries}
use Rattle.lease_laws.proofs.client.AllBeliefs.{called-beliefs}
use Rattle.lease_laws.proofs.client.Beliefs.{refused-nothing}
use Rattle.lease_laws.proofs.client.InFiles.{first_in_files, called_in_files}
use Rattle.lease_laws.proofs.client.Notes.{called_tells}
use Rattle.lease_laws.proofs.client.Numbers.{first_numbers, called_numbers}
use Rattle.lease_laws.proofs.client_laws.clients_are_sound.Goals as goal

pub returns-clause-first : goal.returns-clause-first
returns-clause-first c = λ guid files. record {
  entries = first_entries guid files;
  in_files = first_in_files guid files;
  numbers = first_numbers guid files;
}

pub returns-clause-kept : goal.returns-clause-kept
returns-clause-kept c = λ client call sound. record {
  entries = called_entries client call sound.entries;
  in_files = called_in_files client call sound.in_files;
  numbers = called_numbers client call sound.entries sound.numbers;
}

pub returns-clause-numbers : goal.returns-clause-numbers
returns-clause-numbers c = λ client call sound. called_tells client call sound

pub returns-clause-beliefs : goal.returns-clause-beliefs
returns-clause-beliefs c = λ client call sound. called-beliefs client call sound.in_files

pub returns-clause-refused : goal.returns-clause-refused
returns-clause-refused c = refused-nothing
