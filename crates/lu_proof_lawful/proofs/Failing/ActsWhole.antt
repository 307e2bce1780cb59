-- The law of acts over two traces in which the same transactions stand.
use Rattle.std.proofs.Common.{◌≡◌, ℕ, ◌≤◌, Bool, List, [], ◌∷◌, Option, Some, None, sym, subst, ◌∙◌}
use Rattle.lu_base.specs.declared.ids.At.{At}
use Rattle.lu_base.specs.declared.ids.Node.{Node}
use Rattle.lu_base.specs.declared.ids.Node.TheVariants.{Client, Target}
use Rattle.lu_base.specs.declared.ids.Who.{Who}
use Rattle.lu_msg.specs.declared.answers.Answer.{Answer}
use Rattle.lu_msg.specs.declared.operations.Op.{Op}
use Rattle.lu_trace.specs.declared.entries.Entry.{Entry}
use Rattle.lu_trace.specs.declared.entries.Entry.TheVariants.{Begin, Send, Told, Txn}
use Rattle.lu_trace.specs.declared.entries.Line.{Line}
use Rattle.lu_spec_laws.specs.Words.Pasts.{Past}
use Rattle.lu_spec_laws.specs.Words.Lives.{who_is}
use Rattle.lu_spec_laws.specs.Words.Calls.{Begun, open_call}
use Rattle.lu_spec_laws.specs.Holds.{HoldsBefore}
use Rattle.lu_spec_laws.specs.Laws.Acts.{standing_count, ActsThere, ActsFor, ActsInTime, ToldOn, ToldBy, ActsAt, ActsOf}

module _ (out : Who → Bool) (lost : ℕ → ℕ → Bool) (w v : Past)
    (counts : (t : ℕ) (who : Who) (x : ℕ) → standing_count lost t who x w ≡ standing_count lost t who x v) where
  there : (past : Past) (who : Who) (begun : Begun) (turn : At) (x : ℕ) (op : Op) → ActsThere lost w past who begun turn x op
      → ActsThere lost v past who begun turn x op
  there past who begun turn x op a =
      record { request = a.request; executed = a.executed; untold = a.untold; alone = λ e. sym (counts 0 who x) ∙ a.alone e }

  acts_for : (past : Past) (who : Who) (begun : Begun) (turn : At) (heard : Option ℕ) (op : Option Op)
      → ActsFor lost w past who begun turn heard op → ActsFor lost v past who begun turn heard op
  acts_for past who begun turn (Some x) (Some op) a = there past who begun turn x op a
  acts_for past who begun turn (Some x) None a = absurd a
  acts_for past who begun turn None op a = absurd a

  in_time : (past : Past) (at : At) (who : Who) (begun : Begun) (turn : At) → ActsInTime lost w past at who begun turn
      → ActsInTime lost v past at who begun turn
  in_time past at who begun turn a =
      record { after = a.after; before = a.before; acts = λ e. acts_for past who begun turn _ _ (a.acts e) }

  told_on : (past : Past) (at : At) (who : Who) (o : Option Begun) (turn : At) (answer : Answer)
      → ToldOn out lost w past at who o turn answer → ToldOn out lost v past at who o turn answer
  told_on past at who None turn answer a = tt
  told_on past at who (Some begun) turn answer a =
      record { handle = a.handle; evicted = a.evicted; own = a.own; acts = λ e. in_time past at who begun turn (a.acts e) }

  told_by : (past : Past) (at : At) (node : Node) (slot : ℕ) (turn : At) (answer : Answer)
      → ToldBy out lost w past at node slot turn answer → ToldBy out lost v past at node slot turn answer
  told_by past at (Client c) slot turn answer a = told_on past at (who_is c past) (open_call c slot past) turn answer a
  told_by past at (Target t) slot turn answer a = tt

  at_line : (past : Past) (at : At) (node : Node) (later : List Line) (e : Entry)
      → ActsAt out lost w past (record { at = record { stamp = at.stamp; node = node }; entry = e }) later e
      → ActsAt out lost v past (record { at = record { stamp = at.stamp; node = node }; entry = e }) later e
  at_line past at node later (Told slot turn answer) a =
      told_by past (record { stamp = at.stamp; node = node }) node slot turn answer a
  at_line past at (Target t) later (Txn number who xid seen answer) a =
      λ z. subst (λ (n : ℕ). n ≤ 1) (counts t who xid.0) (a z)
  at_line past at (Client c) later (Txn number who xid seen answer) a = tt
  at_line past at node later (Begin slot call) a = a
  at_line past at node later (Send number to message) a = a
  at_line past at node later e a = tt

  pub acts_whole : (past : Past) (later : List Line) → HoldsBefore (ActsOf out lost w) later past
      → HoldsBefore (ActsOf out lost v) later past
  acts_whole [] later h = tt
  acts_whole (l ∷ past) later h = (at_line past l.at l.at.node later l.entry h.0, acts_whole past (l ∷ later) h.1)
