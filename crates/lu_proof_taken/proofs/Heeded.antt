-- Whatever a client sent to a target of a covered run that is up, the target may heed.
use Rattle.std.proofs.Common.{◌≡◌, ℕ, ◌≤◌, true, false, List, inl, inr, sym, subst, ap, ◌∙◌, arith}
use Rattle.std.specs.Prelude.{◌==◌}
use Rattle.std.proofs.lemmas.Bool.{eqb-true, eq-eqb}
use Rattle.lu_base.specs.declared.ids.Node.TheVariants.{Client, Target}
use Rattle.lu_base.specs.declared.ids.Who.{Who}
use Rattle.lu_base.specs.declared.locks.Lock.{Lock}
use Rattle.lu_base.specs.declared.locks.Mode.{Mode}
use Rattle.lu_base.specs.declared.locks.Policy.{Policy}
use Rattle.lu_base.specs.declared.locks.Policy.TheVariants.{Bits, Range}
use Rattle.lu_lock.specs.Overlap.{IsOrdered}
use Rattle.lu_msg.specs.declared.messages.LockReplay.{LockReplay}
use Rattle.lu_msg.specs.declared.messages.Message.{Message}
use Rattle.lu_msg.specs.declared.messages.Message.TheVariants as message
use Rattle.lu_msg.specs.declared.messages.Request.{Request as RequestOf}
use Rattle.lu_msg.specs.declared.messages.RequestReplay.{RequestReplay}
use Rattle.lu_spec_machine.specs.Footprint.{Every}
use Rattle.lu_spec_entries.specs.Concerns.{only}
use Rattle.lu_spec_entries.specs.Words.{Line}
use Rattle.lu_spec_target.specs.Lives.{is_life}
use Rattle.lu_spec_target.specs.Locks.{same_request}
use Rattle.lu_spec_target.specs.Phase.{first_of}
use Rattle.lu_spec_target.specs.Rows.{lock_again}
use Rattle.lu_spec_target.specs.States.{Target as TargetState, is_serving}
use Rattle.lu_spec_target.specs.Windows.{Replayed}
use Rattle.lu_spec_run.specs.Heads as table
use Rattle.lu_spec_run.specs.Heads.{IsHead}
use Rattle.lu_spec_run.specs.Runs.{Turn, lines_of, IsRun, target_of}
use Rattle.lu_proof_lawful.specs.Covered.Heads.{Head}
use Rattle.lu_proof_lawful.specs.Covered.Runs.{AllCovered}
use Rattle.lu_proof_lawful.specs.Covered.TargetStates.{server_of, closed_of, replays_of, brought_of}
use Rattle.lu_proof_lawful.proofs.Invariants.All.{holds}
use Rattle.lu_proof_lawful.proofs.Invariants.Groups.{HoldsAt}
use Rattle.lu_proof_lawful.proofs.Invariants.Lines.{flew_whole}
use Rattle.lu_proof_lawful.proofs.Invariants.PartsStay.{in_every}
use Rattle.lu_proof_lawful.proofs.Invariants.TargetGroups.{IsKind, HasSlot}
use Rattle.lu_proof_lawful.proofs.Preconditions.Acts.{KindOf, kind_names}
use Rattle.lu_proof_lawful.proofs.Preconditions.Grown.{Grown}
use Rattle.lu_proof_lawful.proofs.Preconditions.Heard.{Was}
use Rattle.lu_proof_lawful.proofs.Preconditions.Lists.{self}
use Rattle.lu_proof_lawful.proofs.Preconditions.LockKinds.{granted_kind}
use Rattle.lu_proof_lawful.proofs.Preconditions.ObjectGuards.{IsRecovering}
use Rattle.lu_proof_lawful.proofs.Preconditions.Obey.{stands}
use Rattle.lu_proof_lawful.proofs.Preconditions.Only.{was_only}
use Rattle.lu_proof_lawful.proofs.Preconditions.TargetAlike.{Serving}
use Rattle.lu_proof_lawful.proofs.Preconditions.TargetCrashed.{Crashed, Matches}
use Rattle.lu_proof_lawful.proofs.Preconditions.Turns.{covered_head}
use Rattle.lu_proof_taken.specs.Taken.{WasSent}
use Rattle.lu_proof_taken.specs.Heeding.{TakesAt, RepeatsAt, MayBeTaken, MayBeRepeated, MayBeBrought, MayHeed, AllMayBeHeeded}
use Rattle.lu_proof_taken.proofs.Asked.{flew_one, flew_takes, same_tag, made_repeats, acted_tag}
use Rattle.lu_proof_taken.proofs.Handed.{replay_may, lock_may}
use Rattle.lu_proof_taken.proofs.Sends.{sent_was}

in_order : (mode : Mode) (policy : Policy) → IsKind mode policy → IsOrdered policy
in_order mode (Bits bits) kind = tt
in_order mode (Range extent) kind = kind.0

module _ (head : table.Head) (turns : List Turn) (is : IsHead head) (run : IsRun head turns) (covered : AllCovered (lines_of turns))
    (c t : ℕ) (up : (target_of head t (lines_of turns)).up ≡ true) where
  abbrev past : List Line
  past = lines_of turns

  abbrev story : List Line
  story = only t past

  abbrev few : Head
  few = covered_head head

  abbrev it : TargetState
  it = target_of head t past

  g : Grown few past
  g = (stands head turns run covered).grown

  h : HoldsAt few story
  h = (holds few past g).at t

  matches : Matches few t it story
  matches = (stands head turns run covered).serves t

  sent_there : (m : Message) → WasSent past (Client c) (Target t) m → Was story (Client c) (Target t) m
  sent_there m sent = was_only t past (Client c) (Target t) m (self t) (sent_was past (Client c) (Target t) m sent)

  -- ---- while it serves

  serving : is_serving it ≡ true → Serving few t it story
  serving serves = by matches
    where
      by : Matches few t it story → Serving few t it story
      by (inl s) = s
      by (inr s) =
          let newer = s.newer (sym s.up ∙ up) in
          let same : it.closed ≡ it.boot = eqb-true it.closed it.boot serves in
          let closed = s.closed in
          let boot = s.boot in
          absurd (omega (arith, newer, same, closed, boot))

  request : (r : RequestOf) → WasSent past (Client c) (Target t) (message.Request r) → is_serving it ≡ true → MayBeTaken t r it
  request r sent serves =
      let m = h.done.sent (Client c) (Target t) (message.Request r) (sent_there (message.Request r) sent) in
      let tag : r.tag ≡ m.0.tag = ap (λ (v : RequestOf). v.tag) m.2 in
      let small = flew_one few past g r.who m.0 (flew_whole t past r.who m.0 m.1) in
      let most = is.most_flight in
      record {
        tag = omega (arith, tag, small, most);
        takes = subst (TakesAt t) (ap (λ (v : RequestOf). v.op) (sym m.2)) (flew_takes few past g t r.who m.0 m.1);
        tags = subst (Every (λ (q : RequestOf). same_request q r ≡ true → q.tag ≡ r.tag)) (sym (serving serves).alike.queue)
            (in_every (λ (q : RequestOf). same_request q r ≡ true → q.tag ≡ r.tag) (server_of head.osts story).waiting
            (λ q waits e. same_tag few story h q r m waits e));
      }

  -- ---- while it recovers

  module _ (gathers : is_serving it ≡ false) where
    crashed : Crashed few t it story
    crashed = by matches
      where
        by : Matches few t it story → Crashed few t it story
        by (inl s) =
            let serves : is_serving it ≡ true = eq-eqb it.closed it.boot s.alike.closed in
            let none = gathers in
            absurd (cc)
        by (inr s) = s

    recovers : IsRecovering head.osts story
    recovers =
        subst (λ (n : ℕ). (closed_of story == n) ≡ false) crashed.boot
        (subst (λ (n : ℕ). (n == it.boot) ≡ false) crashed.closed gathers)

    slot : (who : Who) → is_life who it.lives ≡ true → HasSlot head.clients story who
    slot who = subst (λ (lives : List Who). is_life who lives ≡ true) crashed.lives

    present : (boot : ℕ) → boot ≡ it.boot → (server_of head.osts story).boot ≤ boot
    present boot same = let now = crashed.boot in omega (arith, same, now)

    replay : (r : RequestReplay) → WasSent past (Client c) (Target t) (message.Replay r) → r.boot ≡ it.boot → is_life r.who it.lives ≡ true
        → MayBeRepeated t r it
    replay r sent boot lives =
        let may = replay_may few story h recovers (Client c) t r (sent_there (message.Replay r) sent) (present r.boot boot)
        (slot r.who lives) in
        let tag = acted_tag few past g t may.deed may.acted in
        let same = may.tag in
        let most = is.most_flight in
        record {
          earlier = subst (λ (n : ℕ). r.txn.0 ≤ first_of n) (sym crashed.boot) may.earlier;
          late = may.late;
          tag = omega (arith, tag, same, most);
          repeats = subst (RepeatsAt t) may.op (made_repeats few past g t may.deed may.acted may.made);
          only = subst (Every (λ (s : Replayed). s.number ≡ r.txn.0 → s.who ≡ r.who)) (sym (crashed.kept (sym crashed.up ∙ up)).replays)
              (in_every (λ (s : Replayed). s.number ≡ r.txn.0 → s.who ≡ r.who) (replays_of story) may.only);
        }

    brings : (l : LockReplay) → WasSent past (Client c) (Target t) (message.Lock l) → l.boot ≡ it.boot → is_life l.who it.lives ≡ true
        → MayBeBrought t (lock_again l) it
    brings l sent boot lives =
        let was = sent_there (message.Lock l) sent in
        let now = present l.boot boot in
        let may = lock_may few story h recovers (Client c) t l was now (slot l.who lives) in
        let kind = granted_kind few t past g (lock_again l)
        (h.locks.relocks (Client c) (Target t) l was recovers now (slot l.who lives)) in
        record {
          earlier = subst (λ (n : ℕ). l.cookie.0 ≤ first_of n) (sym crashed.boot) may.earlier;
          ordered = in_order l.mode l.policy may.kind;
          reads = λ first. (kind_names (lock_again l) (subst (λ (n : ℕ). KindOf n (lock_again l)) first kind)).0;
          only = subst (Every (λ (k : Lock). k.cookie.0 ≡ l.cookie.0 → k.ask.who ≡ l.who)) (sym (crashed.kept (sym crashed.up ∙ up)).brought)
              (in_every (λ (k : Lock). k.cookie.0 ≡ l.cookie.0 → k.ask.who ≡ l.who) (brought_of story) may.only);
        }

  may_heed : (m : Message) → WasSent past (Client c) (Target t) m → MayHeed t m it
  may_heed (message.Request r) sent = request r sent
  may_heed (message.Replay r) sent = λ gathers. replay gathers r sent
  may_heed (message.Lock l) sent = λ gathers. brings gathers l sent
  may_heed _ sent = tt

pub all_may_be_heeded : AllMayBeHeeded
all_may_be_heeded head turns is run covered c t m sent up = may_heed head turns is run covered c t up m sent
