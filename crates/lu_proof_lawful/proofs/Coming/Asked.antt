-- Whatever a client asks of an object lies in a file: what it has to ask, and what it asked.
use Rattle.std.proofs.Common.{◌≡◌, ℕ, ◌+◌, ◌*◌, ◌<◌, true, List, [], ◌∷◌, Some, ◌⊎◌, inl, inr, ⊎_elim, refl, sym, subst, ap}
use Rattle.std.proofs.Common.{arith, div-add-mod'}
use Rattle.std.specs.Prelude.{◌^◌, ◌/◌, ◌%◌}
use Rattle.std.proofs.lemmas.Bool.{cond_both}
use Rattle.lu_base.specs.declared.ids.At.{At}
use Rattle.lu_base.specs.declared.ids.Cookie.{Cookie}
use Rattle.lu_base.specs.declared.ids.Node.{Node}
use Rattle.lu_base.specs.declared.ids.Node.TheVariants.{Client, Target}
use Rattle.lu_base.specs.declared.ids.Stamp.{Stamp}
use Rattle.lu_base.specs.declared.ids.Who.{Who}
use Rattle.lu_base.specs.declared.locks.Lock.{Lock}
use Rattle.lu_base.specs.declared.locks.Mode.TheVariants.{PW}
use Rattle.lu_base.specs.declared.locks.Resource.{Resource}
use Rattle.lu_msg.specs.declared.operations.Op.{Op}
use Rattle.lu_msg.specs.declared.operations.Op.TheVariants as op
use Rattle.lu_trace.specs.WellFormed.{IsCall}
use Rattle.lu_spec_entries.specs.declared.changes.Flush.{Flush}
use Rattle.lu_spec_entries.specs.declared.changes.Flush.TheVariants as flush
use Rattle.lu_spec_entries.specs.Carried.{Queued, Flight, Running}
use Rattle.lu_spec_entries.specs.Concerns.{concerns, only}
use Rattle.lu_spec_entries.specs.Words.{Entry, Queues, Flies, Line, line}
use Rattle.lu_spec_machine.specs.Objects.{page_size}
use Rattle.lu_spec_client.specs.Caches.{patch_at, patches_at}
use Rattle.lu_spec_client.specs.Imports.{rest, queue_after}
use Rattle.lu_spec_client.specs.States.{store_at}
use Rattle.lu_spec_client.specs.WriteBack.{operation}
use Rattle.lu_spec_client.specs.Calls.{call_at}
use Rattle.lu_proof_lawful.specs.Covered.ClientStates.{queue_of, life_of, is_own}
use Rattle.lu_proof_lawful.specs.Covered.Heads.{Head}
use Rattle.lu_proof_lawful.specs.Coming.{InFile}
use Rattle.lu_proof_lawful.proofs.Preconditions.CallGuards.{NamesAskOk, SizeAskOk, LockAskOk, GetAskOk, CallAsksOk, TakesBack}
use Rattle.lu_proof_lawful.proofs.Preconditions.CallGuards.{QueuesOk}
use Rattle.lu_proof_lawful.proofs.Preconditions.Calls.{limited}
use Rattle.lu_proof_lawful.proofs.Preconditions.ClientLines.{IsNames, becomes_names}
use Rattle.lu_proof_lawful.proofs.Preconditions.ClientLooks.{below_low}
use Rattle.lu_proof_lawful.proofs.Preconditions.Grown.{Grown}
use Rattle.lu_proof_lawful.proofs.Preconditions.Heard.{In}
use Rattle.lu_proof_lawful.proofs.Preconditions.Guards.{EntryOk}
use Rattle.lu_proof_lawful.proofs.Preconditions.Lists.{self, turn, in_append}
use Rattle.lu_proof_lawful.proofs.Preconditions.StoryGuards.{EntryOf, FliesOk}
use Rattle.lu_proof_objects.proofs.Using.{page_is}
use Rattle.lu_proof_lawful.proofs.Invariants.TargetGroups.{Flew}
use Rattle.lu_proof_objects.proofs.Patches.{next_is}
use Rattle.lu_proof_lawful.proofs.Refinement.PatchesLow.{all_low, next_low, InFile as ChangeIn}
use Rattle.lu_proof_lawful.proofs.Refinement.StoreTakes.{patch_rises, under_pw}

-- ---- an operation that lies in a file

names_in : (o : Op) → IsNames o → InFile o
names_in (op.Get resource cookie page) is = absurd is
names_in (op.Put resource cookie at bs) is = absurd is
names_in (op.Cut resource cookie n) is = absurd is
names_in o is = tt

back_in : (resource : Resource) (cookie : Cookie) (change : Flush) → ChangeIn change → InFile (operation resource cookie change)
back_in resource cookie (flush.Cut n) fits = fits
back_in resource cookie (flush.Put at bs) fits = fits

-- ---- pages

small : (u r q : ℕ) → u * 4096 + r ≡ q → q < 2 ^ 40 → u < 2 ^ 28
small u r q parts less = omega (arith, parts, less)

page_low : (q : ℕ) → q < 2 ^ 40 → q / page_size < 2 ^ 28
page_low q less = small (q / page_size) (q % page_size) q (div-add-mod' q page_size) less

-- ---- what is queued

module _ (head : Head) where
  back_change : (past : List Line) → Grown head past → (c : ℕ) (lock : Lock) (change : Flush) → lock.ask.mode ≡ PW
      → TakesBack past c lock change → ChangeIn change
  back_change [] g c lock change mode k = absurd k
  back_change (l ∷ past) g c lock change mode k =
      let patch = patch_at lock.resource (patches_at c past) in
      let under = under_pw patch lock.ask.mode lock.ask.policy change mode k.2 in
      next_low under.0 patch change (next_is under.0 patch change (patch_rises c past lock.resource) under.2)
      (all_low head c past g.1 lock.resource)

  module _ (past : List Line) (g : Grown head past) (c t : ℕ) where
    get_in : (slot : ℕ) (running : Running) (o : Op) → call_at c slot past ≡ Some running → GetAskOk past c t running o → InFile o
    get_in slot running o k ok =
        let limits = subst IsCall ok.read.read.reads (limited head past g c slot running k) in
        let end = ok.read.read.offset + ok.read.read.count in
        let page = (page_is ok.work.layout ok.read.read.offset end (store_at c past) ok.work.used ok.page ok.lacks).1 in
        let low = below_low ok.work.layout ok.page.under.want.resource.stripe end in
        let less = page.2 in
        let short = limits.3 in
        subst InFile (sym ok.of_op) (subst (λ (n : ℕ). n < 2 ^ 28) page.3 (page_low page.0 (omega (arith, low, less, short))))

    call_in : (q : Queued) → CallAsksOk past c t q → InFile q.op
    call_in q ok = by ok.asks
      where
        by : NamesAskOk past c t ok.running q.op ⊎ SizeAskOk t ok.running q.op ⊎ LockAskOk t ok.running q.op
            ⊎ GetAskOk past c t ok.running q.op → InFile q.op
        by (inl n) = names_in q.op (becomes_names ok.running.file ok.running.call q.op n.becomes)
        by (inr (inl s)) = subst InFile (sym s.of_op) tt
        by (inr (inr (inl l))) = subst InFile (sym l.of_op) tt
        by (inr (inr (inr p))) = get_in ok.slot ok.running q.op ok.call p

    queued_in : (q : Queued) → QueuesOk past c t q → InFile q.op
    queued_in q (inl ok) = call_in q ok
    queued_in q (inr ok) = subst InFile (sym ok.of_op)
        (back_in ok.holding.lock.resource ok.holding.lock.cookie ok.change
        (back_change past g c ok.holding.lock ok.change ok.mode ok.takes))

-- what a line has to ask
abbrev pub AskIn : Entry → Type 0
AskIn (Queues t q) = InFile q.op
AskIn _ = Unit {0}

pub ask_in : (head : Head) (past : List Line) (at : At) (node : Node) (e : Entry) → Grown head past → EntryOk past at node e → AskIn e
ask_in head past at (Client c) (Queues t q) g ok = queued_in head past g c t q ok
ask_in head past at (Target u) (Queues t q) g ok = absurd ok
ask_in head past at node e g ok = tt

-- ---- what waits to be asked of a target, and what was

abbrev InStory : List Line → Type 0
InStory past =
    record {
      queues : (who : Who) (q : Queued) → In q (queue_of who past) → InFile q.op;
      flew : (who : Who) (f : Flight) → Flew past who f → InFile f.op;
    }

in_rest : (q : Queued) (qs : List Queued) → In q (rest qs) → In q qs
in_rest q [] i = absurd i
in_rest q (r ∷ qs) i = inr i

module _ (head : Head) (past : List Line) (stamp : Stamp) (c t : ℕ) (h : InStory past) where
  in_queues : (q : Queued) → InFile q.op → InStory (line (record { stamp = stamp; node = Client c }) (Queues t q) ∷ past)
  in_queues q ok =
      record {
        queues = λ who k. cond_both (is_own who past (Client c)) (queue_after (queue_of who past) (Queues t q)) (queue_of who past)
            (λ (qs : List Queued). In k qs → InFile k.op)
            (λ own i. ⊎_elim
            (λ (j : In k (queue_of who past)). h.queues who k j)
            (λ (j : In k (q ∷ [])). ⊎_elim (λ (e : q ≡ k). subst (λ (x : Queued). InFile x.op) e ok) (λ (n : ⊥). absurd n) j)
            (in_append k (queue_of who past) (q ∷ []) i))
            (λ other i. h.queues who k i);
        flew = h.flew;
      }

  front : (f : Flight) → FliesOk head past c t f → InFile f.op
  front f ok =
      subst (λ (o : Op). InFile o) (ap (λ (x : Flight). x.op) (sym ok.is))
      (h.queues (life_of c past) ok.front (subst (λ (qs : List Queued). In ok.front qs) (sym ok.queue) (inl refl)))

  in_flies : (f : Flight) → FliesOk head past c t f → InStory (line (record { stamp = stamp; node = Client c }) (Flies t f) ∷ past)
  in_flies f ok =
      record {
        queues = λ who k. cond_both (is_own who past (Client c)) (queue_after (queue_of who past) (Flies t f)) (queue_of who past)
            (λ (qs : List Queued). In k qs → InFile k.op)
            (λ own i. h.queues who k (in_rest k (queue_of who past) i))
            (λ other i. h.queues who k i);
        flew = λ who g. ⊎_elim
            (λ (n : (is_own who past (Client c) ≡ true) × (f ≡ g)). subst (λ (x : Flight). InFile x.op) n.1 (front f ok))
            (λ (o : Flew past who g). h.flew who g o);
      }

in_line : (head : Head) (past : List Line) (stamp : Stamp) (node : Node) (e : Entry)
    → EntryOf head past (record { stamp = stamp; node = node }) node e → AskIn e → InStory past
    → InStory (line (record { stamp = stamp; node = node }) e ∷ past)
in_line head past stamp (Client c) (Queues t q) ok fits h = in_queues head past stamp c t h q fits
in_line head past stamp (Client c) (Flies t f) ok fits h = in_flies head past stamp c t h f ok
in_line head past stamp (Target t) (Queues u q) ok fits h = absurd ok
in_line head past stamp (Target t) (Flies u f) ok fits h = absurd ok
in_line head past stamp node e ok fits h = h

in_story : (head : Head) (past : List Line) → Grown head past → (t : ℕ) → InStory (only t past)
in_story head [] g t = record { queues = λ who q i. absurd i; flew = λ who f i. absurd i }
in_story head (l ∷ past) g t =
    cond_both (concerns t l.at.node l.entry) (l ∷ only t past) (only t past) InStory
    (λ own. in_line head (only t past) l.at.stamp l.at.node l.entry (g.0.of t own) (ask_in head past l.at l.at.node l.entry g.1 g.0.ok)
    (in_story head past g.1 t))
    (λ other. in_story head past g.1 t)

-- each request that flew lies in a file
pub flew_in : (head : Head) (past : List Line) → Grown head past → (t : ℕ) (who : Who) (f : Flight) → Flew (only t past) who f
    → InFile f.op
flew_in head past g t who f i = (in_story head past g t).flew who f i

-- and each as it flies
pub flies_in : (head : Head) (past : List Line) (stamp : Stamp) (c t : ℕ) (f : Flight)
    → Grown head (line (turn stamp (Client c)) (Flies t f) ∷ past) → InFile f.op
flies_in head past stamp c t f g = front head (only t past) stamp c t (in_story head past g.1 t) f (g.0.of t (self t))
