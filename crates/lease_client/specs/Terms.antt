-- The terms of an Open as the definitions see them.
use Rattle.lease_state.specs.State.{state_of}
use Rattle.lease_model.specs.client.Commands.{OpenTerms}
use Rattle.lease_client.specs.declared.requests.Terms.{Terms}

abbrev pub terms_of : Terms → OpenTerms
terms_of terms = record {
  access = terms.access;
  share = terms.share;
  want = state_of terms.want;
  durable = terms.durable;
}
