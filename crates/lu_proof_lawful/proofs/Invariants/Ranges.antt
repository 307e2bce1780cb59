-- What is asked for at one target is in order: each lock that waits to be asked for, or was, is for reading or writing, on a range.
use Rattle.std.proofs.Common.{◌≡◌, ℕ, true, List, [], ◌∷◌, ◌⊎◌, inl, inr, ⊎_elim, refl, sym, subst, ap}
use Rattle.std.proofs.lemmas.Bool.{cond_both}
use Rattle.lu_base.specs.declared.ids.Node.{Node}
use Rattle.lu_base.specs.declared.ids.Node.TheVariants.{Client, Target}
use Rattle.lu_base.specs.declared.ids.Stamp.{Stamp}
use Rattle.lu_msg.specs.declared.operations.Op.{Op}
use Rattle.lu_spec_entries.specs.Carried.{Queued, Flight}
use Rattle.lu_spec_entries.specs.Words.{Entry, Queues, Flies, Line, line}
use Rattle.lu_spec_client.specs.Imports.{rest}
use Rattle.lu_proof_lawful.specs.Covered.ClientStates.{queue_of, life_of, is_own}
use Rattle.lu_proof_lawful.specs.Covered.Imports.{queue_after}
use Rattle.lu_proof_lawful.specs.Covered.Heads.{Head}
use Rattle.lu_proof_lawful.proofs.Preconditions.Guards.{In}
use Rattle.lu_proof_lawful.proofs.Preconditions.StoryGuards.{FliesOk, EntryOf}
use Rattle.lu_proof_lawful.proofs.Preconditions.ClientStoryGuards.{AsksInOrder}
use Rattle.lu_proof_lawful.proofs.Preconditions.Lists.{in_append}
use Rattle.lu_proof_lawful.proofs.Invariants.Groups.{turn}
use Rattle.lu_proof_lawful.proofs.Invariants.TargetGroups.{Flew, Ranges}

pub in_rest : (q : Queued) (qs : List Queued) → In q (rest qs) → In q qs
in_rest q [] i = absurd i
in_rest q (r ∷ qs) i = inr i

module _ (head : Head) (past : List Line) (stamp : Stamp) (c t : ℕ) (h : Ranges past) where
  ranges_queues : (q : Queued) → AsksInOrder q.op → Ranges (line (turn stamp (Client c)) (Queues t q) ∷ past)
  ranges_queues q ok =
      record {
        queues = λ who k. cond_both (is_own who past (Client c)) (queue_after (queue_of who past) (Queues t q)) (queue_of who past)
            (λ (qs : List Queued). In k qs → AsksInOrder k.op)
            (λ own i. ⊎_elim
            (λ (j : In k (queue_of who past)). h.queues who k j)
            (λ (j : In k (q ∷ [])). ⊎_elim (λ (e : q ≡ k). subst (λ (x : Queued). AsksInOrder x.op) e ok) (λ (n : ⊥). absurd n) j)
            (in_append k (queue_of who past) (q ∷ []) i))
            (λ other i. h.queues who k i);
        flew = h.flew;
      }

  ranges_flies : (f : Flight) → FliesOk head past c t f → Ranges (line (turn stamp (Client c)) (Flies t f) ∷ past)
  ranges_flies f ok =
      record {
        queues = λ who k. cond_both (is_own who past (Client c)) (queue_after (queue_of who past) (Flies t f)) (queue_of who past)
            (λ (qs : List Queued). In k qs → AsksInOrder k.op)
            (λ own i. h.queues who k (in_rest k (queue_of who past) i))
            (λ other i. h.queues who k i);
        flew = λ who g. ⊎_elim
            (λ (n : (is_own who past (Client c) ≡ true) × (f ≡ g)). subst (λ (x : Flight). AsksInOrder x.op) n.1 front)
            (λ (o : Flew past who g). h.flew who g o);
      }
    where
      front : AsksInOrder f.op
      front =
          subst (λ (o : Op). AsksInOrder o) (ap (λ (x : Flight). x.op) (sym ok.is))
          (h.queues (life_of c past) ok.front (subst (λ (qs : List Queued). In ok.front qs) (sym ok.queue) (inl refl)))

pub keeps_ranges : (head : Head) (past : List Line) (stamp : Stamp) (node : Node) (e : Entry) → EntryOf head past (turn stamp node) node e
    → Ranges past → Ranges (line (turn stamp node) e ∷ past)
keeps_ranges head past stamp (Client c) (Queues t q) ok h = ranges_queues head past stamp c t h q ok
keeps_ranges head past stamp (Client c) (Flies t f) ok h = ranges_flies head past stamp c t h f ok
keeps_ranges head past stamp (Target t) (Queues u q) ok h = absurd ok
keeps_ranges head past stamp (Target t) (Flies u f) ok h = absurd ok
keeps_ranges head past stamp node e ok h = h

pub ranges_start : Ranges []
ranges_start = record { queues = λ who q i. absurd i; flew = λ who f i. absurd i }
