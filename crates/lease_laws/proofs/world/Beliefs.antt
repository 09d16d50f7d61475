-- In every run the record says what clients believe.
use Rattle.lease_laws.proofs.Words.{◌&&◌, ◌==◌, ◌∙◌, ◌∷◌, ◌≡◌, Client, Decides-eqb, Event, Fact, List, Note, Out, Progress, Setup}
use Rattle.lease_laws.proofs.Words.{Step, World, ℕ, [], after, all_delivered, ap, belief, believed, believed_after, called}
use Rattle.lease_laws.proofs.Words.{client_called, delivered, fact_of, false, first_world_under, happened, if◌then◌else◌, is_start}
use Rattle.lease_laws.proofs.Words.{length, list_all, new_client, noted, nothing_cached, numbered, put, refl, requests_sent}
use Rattle.lease_laws.proofs.Words.{reverse, served, starts_from, stepped_in, subst, sym, true}
use Rattle.lease_laws.proofs.Words.{Rules}
use Rattle.std.proofs.Common.{arith}
use Rattle.lease_laws.proofs.client.AllBeliefs.{called-beliefs}
use Rattle.lease_laws.proofs.client.InFiles.{InFiles, first_in_files, called_in_files}
use Rattle.lease_laws.proofs.client.Thin.{put_same, put_other}
use Rattle.lease_laws.proofs.records.Runs.{all_starts, all_reversed}
use Rattle.lease_laws.proofs.server.Lists.{either, clash}
use Rattle.lease_laws.proofs.world.Kept.{IsKept, IsOfWorld, served-clients, after-kept}
use Rattle.lease_laws.proofs.world.Runs.{stepped_clients}

-- the record agrees with what clients believe
pub record Agrees (world : World) : Type 0 where
  pub in_files : (client : ℕ) → InFiles (world.clients client)
  pub agrees : (client file : ℕ) → believed client file world.past ≡ belief (world.clients client) file

-- facts of the world say nothing of beliefs
of_world : (client file : ℕ) (fact : Fact) (past : List Fact) → IsOfWorld fact
    → believed client file (fact ∷ past) ≡ believed client file past
unfolding believed
of_world client file fact past of = grind arith

-- nor do outs
delivered_believed : (client file : ℕ) (world : World) (out : Out)
    → believed client file (delivered world out).past ≡ believed client file world.past
unfolding believed
delivered_believed client file world out = grind arith

all_believed : (client file : ℕ) (world : World) (outs : List Out)
    → believed client file (all_delivered world outs).past ≡ believed client file world.past
unfolding all_delivered
all_believed client file world [] = refl
all_believed client file world (out ∷ outs) = all_believed client file (delivered world out) outs
    ∙ delivered_believed client file world out

served_believed : (client file : ℕ) (world : World) (progress : Progress)
    → believed client file (served world progress).past ≡ believed client file world.past
served_believed client file world progress = all_believed client file (record world { server = progress.server }) progress.outs

-- a client's notes tell its own beliefs
noted_believed : (client file : ℕ) (world : World) (notes : List Note) → believed client file (noted world client notes).past
    ≡ believed_after file (believed client file world.past) notes
unfolding noted believed
noted_believed client file world [] = refl
noted_believed client file world (Note.Believes f state ∷ notes) =
    noted_believed client file (happened world (fact_of client (Note.Believes f state))) notes
    ∙ ap (λ b. believed_after file (if b && f == file then state else believed client file world.past) notes)
    ((Decides-eqb client client).1 refl)
noted_believed client file world (note ∷ notes) = noted_believed client file (happened world (fact_of client note)) notes

-- and no other's
noted_other : (client other file : ℕ) (world : World) (notes : List Note) → (client == other) ≡ false
    → believed other file (noted world client notes).past ≡ believed other file world.past
unfolding noted believed
noted_other client other file world [] apart = refl
noted_other client other file world (Note.Believes f state ∷ notes) apart =
    noted_other client other file (happened world (fact_of client (Note.Believes f state))) notes apart
    ∙ ap (λ b. if b && f == file then state else believed other file world.past) apart
noted_other client other file world (note ∷ notes) apart =
    noted_other client other file (happened world (fact_of client note)) notes apart

-- so it is after a step
stepped_agrees : (world : World) (client : ℕ) (step : Step) → Agrees world → InFiles step.client
    → ((file : ℕ) → believed_after file (belief (world.clients client) file) step.notes ≡ belief step.client file)
    → Agrees (stepped_in world client step)
stepped_agrees world client step a inside tells =
    let start : World = requests_sent (record world { clients = put world.clients client step.client }) client step.requests in
    let clients = stepped_clients world client step in
    record {
      in_files = λ c. subst (λ (t : ℕ → Client). InFiles (t c)) (sym clients) (either (c == client)
          (λ e. subst (λ m. InFiles (put world.clients client step.client m)) (sym ((Decides-eqb c client).0 e))
          (subst InFiles (sym (put_same world.clients client step.client)) inside))
          (λ e. subst InFiles (sym (put_other world.clients client step.client c
          (λ same. clash (c == client) ((Decides-eqb c client).1 same) e))) (a.in_files c)));
      agrees = λ c file. subst (λ (t : ℕ → Client). believed c file (noted start client step.notes).past
          ≡ belief (t c) file) (sym clients) (either (client == c)
          (λ e. subst (λ m. believed m file (noted start client step.notes).past
          ≡ belief (put world.clients client step.client m) file) ((Decides-eqb client c).0 e)
          (noted_believed client file start step.notes
          ∙ ap (λ s. believed_after file s step.notes) (a.agrees client file) ∙ tells file
          ∙ ap (λ x. belief x file) (sym (put_same world.clients client step.client))))
          (λ e. noted_other client c file start step.notes e ∙ a.agrees c file
          ∙ ap (λ x. belief x file) (sym (put_other world.clients client step.client c
          (λ same. clash (client == c) ((Decides-eqb client c).1 (sym same)) e)))));
    }

pub agrees_kept : IsKept Agrees
agrees_kept = record {
  messages = λ world requests replies links a. record { in_files = a.in_files; agrees = a.agrees };
  fact = λ world fact of a. record {
    in_files = a.in_files;
    agrees = λ client file. of_world client file fact world.past of ∙ a.agrees client file;
  };
  call = λ world call a. record {
    in_files = λ client. subst (λ (t : ℕ → Client). InFiles (t client))
        (sym (served-clients world (called world.server call))) (a.in_files client);
    agrees = λ client file. served_believed client file world (called world.server call) ∙ a.agrees client file
        ∙ ap (λ (t : ℕ → Client). belief (t client) file) (sym (served-clients world (called world.server call)));
  };
  step = λ world client call a. stepped_agrees world client (client_called (world.clients client) call) a
      (called_in_files (world.clients client) call (a.in_files client))
      (called-beliefs (world.clients client) call (a.in_files client));
}

-- where files are only started nothing is believed
started_believed : (client file : ℕ) (past : List Fact) → list_all is_start past ≡ true
    → believed client file past ≡ nothing_cached
unfolding believed
started_believed client file [] all = refl
started_believed client file (Fact.Start f bytes ∷ past) all = started_believed client file past all
started_believed client file (_ ∷ past) all = clash false all refl

pub first_agrees : (rules : Rules) (setup : Setup) → Agrees (first_world_under rules setup)
unfolding first_world_under new_client
first_agrees rules setup = record {
  in_files = λ client. first_in_files (numbered [] setup.clients client) (length setup.files);
  agrees = λ client file. started_believed client file (reverse (starts_from 1 setup.files))
      (all_reversed (starts_from 1 setup.files) [] (all_starts 1 setup.files) refl);
}

pub beliefs_of_runs : (rules : Rules) (setup : Setup) (events : List Event) (client file : ℕ)
    → believed client file (after (first_world_under rules setup) events).past
    ≡ belief ((after (first_world_under rules setup) events).clients client) file
beliefs_of_runs rules setup events = (after-kept Agrees agrees_kept (first_world_under rules setup) events
    (first_agrees rules setup)).agrees
