-- What a call leaves behind keeps the laws of clients.
use Rattle.lease_laws.proofs.Words.{◌∙◌, ◌≡◌, Client, ClientCall, IsSoundClient, Step, ap, arith, client_called, subst}
use Rattle.lease_laws.proofs.Words.{sym}
use Rattle.lease_laws.specs.client.Laws.{ClientsStaySound}
use Rattle.lease_client.specs.Links.{linked}
use Rattle.lease_client.specs.declared.machine.links.Link.{Link}
use Rattle.lease_client.specs.declared.machine.links.Link.TheVariants.{Lost, Made}

pub sound_after : ClientsStaySound → (client : Client) (call : ClientCall) (after : Client) → IsSoundClient client
    → after ≡ (client_called client call).client → IsSoundClient after
sound_after kept client call after sound is = subst IsSoundClient (sym is) (kept client call sound)

abbrev call_of : Link → ClientCall
call_of Lost = ClientCall.Noticed
call_of Made = ClientCall.Connected

called_is : (client : Client) (link : Link) → linked client link ≡ client_called client (call_of link)
called_is client link = grind arith

pub sound_linked : ClientsStaySound → (client : Client) (link : Link) (after : Client) → IsSoundClient client
    → after ≡ (linked client link).client → IsSoundClient after
sound_linked kept client link after sound is =
    sound_after kept client (call_of link) after sound (is ∙ ap (λ (s : Step). s.client) (called_is client link))
