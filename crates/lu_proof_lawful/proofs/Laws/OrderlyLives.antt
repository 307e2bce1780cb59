-- What every covered run keeps of lives: a new life is the client's next one, its turn took the notice that the old one is over,
-- and no call is open.
use Rattle.std.proofs.Common.{◌≡◌, ℕ, ◌+◌, true, false, List, [], Option, Some, None, refl, sym, subst, ap, ◌∙◌, arith}
use Rattle.std.specs.Prelude.{is_some}
use Rattle.std.specs.List.{list_any}
use Rattle.lu_base.specs.declared.ids.Node.{Node}
use Rattle.lu_base.specs.declared.ids.Node.TheVariants.{Client, Target}
use Rattle.lu_base.specs.declared.ids.Stamp.{Stamp}
use Rattle.lu_base.specs.declared.ids.Who.{Who}
use Rattle.lu_msg.specs.declared.messages.Message.TheVariants as message
use Rattle.lu_trace.specs.declared.entries.Line.{Line as PrintedLine}
use Rattle.lu_spec_entries.specs.Carried.{Running}
use Rattle.lu_spec_entries.specs.Words.{Entry, Life, Line}
use Rattle.lu_spec_entries.specs.Printed.{printed}
use Rattle.lu_proof_lawful.specs.Covered.Calls.{call_at, life_at}
use Rattle.lu_proof_lawful.specs.Covered.Heads.{Head}
use Rattle.lu_spec_laws.specs.Holds.{Holds}
use Rattle.lu_spec_laws.specs.Words.Sends.{taken}
use Rattle.lu_spec_laws.specs.Words.Calls.{Begun, open_call}
use Rattle.lu_spec_laws.specs.Order.Lives.{is_notice, LifeAt, Lives}
use Rattle.lu_proof_lawful.proofs.Preconditions.Guards.{LifeOk, EntryOk}
use Rattle.lu_proof_lawful.proofs.Preconditions.Grown.{Allowed, Grown}
use Rattle.lu_proof_lawful.proofs.Preconditions.Lists.{life_self}
use Rattle.lu_proof_lawful.proofs.Invariants.Groups.{turn}
use Rattle.lu_proof_lawful.proofs.Laws.Lines.{Keeps, holds_before, Nothing}
use Rattle.lu_proof_lawful.proofs.Laws.Printed.{life_number, its_client, present_is, SameCall, same_call}
use Rattle.lu_proof_lawful.proofs.Laws.Notices.{took_any}
use Rattle.lu_proof_lawful.proofs.Laws.OrderlyQuiet.{Says}

-- ---- a new life

no_call : (head : Head) (past : List Line) (c slot : ℕ) → Grown head past → call_at c slot past ≡ None
    → is_some (open_call c slot (printed past)) ≡ false
no_call head past c slot g free = by (call_at c slot past) (open_call c slot (printed past)) free (same_call head c slot past g)
  where
    by : (a : Option Running) (b : Option Begun) → a ≡ None → SameCall a b → is_some b ≡ false
    by None None e s = refl
    by None (Some b) e s = absurd s
    by (Some a) b e s = absurd (cc)

next_life_at : (head : Head) (past : List Line) (stamp : Stamp) (c : ℕ) (who : Who) → LifeOk past (turn stamp (Client c)) c who
    → Grown head past → LifeAt (printed past) (turn stamp (Client c)) c who
next_life_at head past stamp c who ok g =
    let at = turn stamp (Client c) in
    let old = life_at c past in
    record {
      client = ap (λ (v : Who). v.client) ok.next ∙ its_client head c past g;
      next = let e : who.life ≡ old.life + 1 = ap (λ (v : Who). v.life) ok.next in let n = life_number c past in omega (arith, e, n);
      notice = subst (λ (v : Who). list_any (is_notice v) (taken (printed past) at) ≡ true) (sym (present_is head c past g))
          (took_any head past at (Target ok.notice.target) (message.Evicted old ok.notice.boot) (is_notice old) g ok.notice.took
          (life_self old));
      idle = rw (
        no_call head past c 0 g (ok.idle 0),
        no_call head past c 1 g (ok.idle 1),
        no_call head past c 2 g (ok.idle 2),
        no_call head past c 3 g (ok.idle 3),
      ) refl;
    }

lives_at : (head : Head) (past : List Line) (l : Line) (later : List PrintedLine) → Allowed head past l.at l.entry → Grown head past
    → Keeps Lives past l later
lives_at head past l later a g = by l.at.node l.entry a.ok
  where
    by : (node : Node) (e : Entry) → EntryOk past (turn l.at.stamp node) node e → Says Lives past (turn l.at.stamp node) later e
    by (Client c) (Life who) ok = next_life_at head past l.at.stamp c who ok g
    by (Target t) (Life who) ok = absurd ok
    by _ _ ok = tt

pub lives : (head : Head) (past : List Line) → Grown head past → Holds Lives (printed past)
lives head past g = holds_before head Lives Nothing (λ l past k. k) (λ past l later a g k. lives_at head past l later a g) past [] g tt
