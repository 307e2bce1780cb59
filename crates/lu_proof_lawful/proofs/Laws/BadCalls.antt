-- A call on a bad handle is told so next.
use Rattle.std.proofs.Common.{◌≡◌, ℕ, ◌+◌, Bool, true, List, [], ◌∷◌, Option, Some, inl, inr, sym, subst, ap, ◌∙◌}
use Rattle.std.specs.Prelude.{nat_eq, ◌&&◌, if◌then◌else◌}
use Rattle.lu_base.specs.declared.ids.At.{At}
use Rattle.lu_base.specs.declared.ids.Node.{Node}
use Rattle.lu_base.specs.declared.ids.Node.TheVariants.{Client, Target}
use Rattle.lu_base.specs.declared.ids.Stamp.{Stamp}
use Rattle.lu_msg.specs.declared.answers.Answer.{Answer}
use Rattle.lu_msg.specs.declared.answers.Answer.TheVariants as told
use Rattle.lu_msg.specs.declared.answers.Errno.TheVariants.{EBADF}
use Rattle.lu_msg.specs.declared.calls.Call.{Call}
use Rattle.lu_msg.specs.declared.calls.Call.TheVariants as call
use Rattle.lu_trace.specs.declared.entries.Line.{Line as PrintedLine}
use Rattle.lu_spec_entries.specs.Carried.{Unasked, Answered, Stage, Plain, Bad, Flushing, Work, Running}
use Rattle.lu_spec_entries.specs.Words.{Entry, Begin, Told, Line, line}
use Rattle.lu_spec_entries.specs.Sent.{count_sent}
use Rattle.lu_spec_entries.specs.Printed.{printed_entry}
use Rattle.lu_spec_client.specs.Known.{Notes}
use Rattle.lu_proof_lawful.specs.Covered.Calls.{call_at, is_bad}
use Rattle.lu_proof_lawful.specs.Covered.Known.{notes_at, known_answer}
use Rattle.lu_proof_lawful.specs.Covered.Heads.{Head}
use Rattle.lu_spec_laws.specs.Words.Later.{told_later}
use Rattle.lu_spec_laws.specs.Words.Pasts.{same_turn}
use Rattle.lu_spec_laws.specs.Laws.Acts.{tells_bad}
use Rattle.lu_proof_lawful.proofs.Preconditions.Guards.{Begins, BeginOk, FlushFrom, Starts, OwesBegun, Owes, EntryOk}
use Rattle.lu_proof_lawful.proofs.Preconditions.Grown.{Grown}
use Rattle.lu_proof_lawful.proofs.Preconditions.Lists.{self}
use Rattle.lu_proof_lawful.proofs.Preconditions.Turns.{BeginQuiet, Settled}
use Rattle.lu_proof_lawful.proofs.Invariants.Groups.{turn}
use Rattle.lu_proof_lawful.proofs.Laws.Turns.{same_turn_self}
use Rattle.lu_proof_lawful.proofs.Laws.Lines.{shown}
use Rattle.lu_proof_lawful.proofs.Laws.Printed.{far_good, changes_good}
use Rattle.lu_proof_lawful.proofs.Preconditions.Ends.{none_took}
use Rattle.lu_proof_lawful.proofs.Preconditions.ClientLines.{some_is}

-- ---- how it is told

-- its answer isn't known
bad_unknown : (n : Notes) (c : ℕ) (past : List Line) (x : Call) (a : Answer) → is_bad c past x ≡ true → known_answer n x ≡ Some a → ⊥
bad_unknown n c past (call.Lookup path) a bad known = absurd (cc)
bad_unknown n c past (call.List path) a bad known = absurd (cc)
bad_unknown n c past (call.Layout path) a bad known = absurd (cc)
bad_unknown n c past (call.Stat path) a bad known = absurd (cc)
bad_unknown n c past x a bad known = absurd (cc)

-- a call that has just begun on one is told so, and not otherwise
bad_told : (head : Head) (past : List Line) (stamp : Stamp) (c slot : ℕ) (running : Running) (named : At) (given : Answer)
    (work : Option Work) → Grown head past → BeginOk past (turn stamp (Client c)) c slot running → running.stage ≡ Bad
    → EntryOk (line (turn stamp (Client c)) (Begin slot running) ∷ past) (turn stamp (Client c)) (Client c) (Told slot named given work)
    → given ≡ told.Refused EBADF
bad_told head past stamp c slot running named given work g ok bad tells = by tells
  where
    at : At
    at = turn stamp (Client c)

    stands : call_at c slot (line (turn stamp (Client c)) (Begin slot running) ∷ past) ≡ Some running
    stands = ap (λ (b : Bool). if b then (if nat_eq slot slot then Some running else call_at c slot past) else call_at c slot past) (self c)
        ∙ ap (λ (b : Bool). if b then Some running else call_at c slot past) (self slot)

    on_bad : is_bad c past running.call ≡ true
    on_bad = of ok.begins
      where
        of : Begins c past running → is_bad c past running.call ≡ true
        of (inl p) = let no = p.1 in absurd (cc)
        of (inr p) = p.0

    good : (r : Running) → call_at c slot (line (turn stamp (Client c)) (Begin slot running) ∷ past) ≡ Some r → (r.stage ≡ Bad → ⊥) → given
        ≡ told.Refused EBADF
    good r call fine = absurd (fine (ap (λ (v : Running). v.stage) (some_is r running (sym call ∙ stands)) ∙ bad))

    flush_good : (r : Running) (from : ℕ) → FlushFrom (turn stamp (Client c)) r from → r.stage ≡ Bad → ⊥
    flush_good r from (inl p) q = let e : Plain ≡ Bad = sym p.0 ∙ q in absurd (cc)
    flush_good r from (inr p) q = let e : Flushing from ≡ Bad = sym p ∙ q in absurd (cc)

    by : EntryOk (line (turn stamp (Client c)) (Begin slot running) ∷ past) (turn stamp (Client c)) (Client c) (Told slot named given work)
        → given ≡ told.Refused EBADF
    by (inl a) =
        let same = some_is a.running running (sym a.call ∙ stands) in
        let asks : running.asking ≡ Answered a.target a.reply = ap (λ (v : Running). v.asking) (sym same) ∙ a.answered in
        let new : running.asking ≡ Unasked = ap (λ (v : Running). v.asking) ok.is in
        absurd (cc)
    by (inr (inl a)) =
        let same = some_is a.running running (sym a.call ∙ stands) in
        absurd (bad_unknown (notes_at c (line (turn stamp (Client c)) (Begin slot running) ∷ past)) c past running.call given on_bad
        (ap (λ (v : Running). known_answer (notes_at c (line (turn stamp (Client c)) (Begin slot running) ∷ past)) v.call) (sym same)
        ∙ a.known))
    by (inr (inr (inl a))) = absurd (none_took head past (turn stamp (Client c)) (Target a.notice.target) _ g ok.later a.notice.took)
    by (inr (inr (inr (inl a)))) = a.of_answer
    by (inr (inr (inr (inr (inl a))))) = good a.running a.call (far_good (line (turn stamp (Client c)) (Begin slot running) ∷ past)
        (turn stamp (Client c)) a.running a.sizes a.has.so_far)
    by (inr (inr (inr (inr (inr (inl a)))))) = good a.running a.call (flush_good a.running a.from a.goes)
    by (inr (inr (inr (inr (inr (inr (inl a))))))) = good a.running a.call a.does.read.good
    by (inr (inr (inr (inr (inr (inr (inr (inl a)))))))) = good a.running a.call a.stat.good
    by (inr (inr (inr (inr (inr (inr (inr (inr a)))))))) = good a.running a.call (changes_good a.running a.done a.does)

-- ---- what a call that begins owes

-- where the newest line began a call on a bad handle, it is told so in the lines to come
abbrev pub Due : List Line → List PrintedLine → Type 0
Due [] later = Unit {0}
Due (l ∷ past) later = elim l.entry [
  | Begin slot running ↦ running.stage ≡ Bad → tells_bad (told_later slot l.at later) ≡ true
  | _
      ↦ Unit {0}
]

pub nothing_due : (past : List Line) (later : List PrintedLine) → Settled past → Due past later
nothing_due [] later s = tt
nothing_due (l ∷ past) later s = by l.entry s
  where
    by : (e : Entry) → Settled (line l.at e ∷ past) → Due (line l.at e ∷ past) later
    by (Begin slot running) s = λ bad. absurd (subst (λ (v : Stage). BeginQuiet v running.call) bad s)
    by _ s = tt

module _ (head : Head) where
  -- the next line tells it
  told_next : (past : List Line) (here : At) (e : Entry) (c slot : ℕ) (running : Running) (stamp : Stamp) (later : List PrintedLine)
      → Grown head past → BeginOk past (turn stamp (Client c)) c slot running → running.stage ≡ Bad
      → turn stamp (Client c) ≡ here → EntryOk (line (turn stamp (Client c)) (Begin slot running) ∷ past) here here.node e
      → Starts slot Bad e
      → (number : ℕ) → tells_bad (told_later slot (turn stamp (Client c)) (shown here (printed_entry number e) later)) ≡ true
  told_next past here (Told s named given work) c slot running stamp later g ok bad now tells starts number =
      let given_is : given ≡ told.Refused EBADF = bad_told head past stamp c slot running named given work g ok bad
      (subst (λ (v : ℕ). EntryOk (line (turn stamp (Client c)) (Begin slot running) ∷ past) (turn stamp (Client c)) (Client c)
      (Told v named given work)) starts
      (subst (λ (v : At). EntryOk (line (turn stamp (Client c)) (Begin slot running) ∷ past) v v.node (Told s named given work)) (sym now)
      tells)) in
      let same : same_turn here (turn stamp (Client c)) ≡ true =
      subst (λ (v : At). same_turn v (turn stamp (Client c)) ≡ true) now (same_turn_self (turn stamp (Client c))) in
      ap (λ (b : Bool). tells_bad (if b && nat_eq s slot then Some given else told_later slot (turn stamp (Client c)) later)) same
      ∙ ap (λ (b : Bool). tells_bad (if b then Some given else told_later slot (turn stamp (Client c)) later))
      (ap (λ (v : ℕ). nat_eq v slot) starts ∙ self slot)
      ∙ ap (λ (v : Answer). tells_bad (Some v)) given_is
  told_next past here e c slot running stamp later g ok bad now tells starts number = absurd starts

  pub due_before : (past : List Line) (l : Line) (later : List PrintedLine) → Grown head (l ∷ past) → Due (l ∷ past) later
      → Due past (shown l.at (printed_entry (count_sent past + 1) l.entry) later)
  due_before [] l later g d = tt
  due_before (m ∷ past) l later g d = by m.at.node m.entry g.1 g.0.owes g.0.ok
    where
      by : (node : Node) (e : Entry) → Grown head (line (turn m.at.stamp node) e ∷ past)
          → Owes (line (turn m.at.stamp node) e ∷ past) l.at l.entry → EntryOk (line (turn m.at.stamp node) e ∷ past) l.at l.at.node l.entry
          → Due (line (turn m.at.stamp node) e ∷ past) (shown l.at (printed_entry (count_sent (m ∷ past) + 1) l.entry) later)
      by (Client c) (Begin slot running) g o ok = λ bad.
          let w = subst (λ (v : Stage). OwesBegun (turn m.at.stamp (Client c) ≡ l.at) slot v running.call l.entry) bad o in
          told_next past l.at l.entry c slot running m.at.stamp later g.1 g.0.ok bad w.0 ok w.1 (count_sent (m ∷ past) + 1)
      by (Target t) (Begin slot running) g o ok = absurd g.0.ok
      by _ _ g o ok = tt
