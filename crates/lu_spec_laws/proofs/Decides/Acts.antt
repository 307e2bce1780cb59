-- The law of acts is decided, for all lives that are out and all numbers that are lost.
use Rattle.std.proofs.Common.{ℕ, ◌≢◌, ◌≡◌, Bool, false, List, [], ◌∷◌, Option, Some, None}
use Rattle.lu_base.specs.declared.ids.At.{At}
use Rattle.lu_base.specs.declared.ids.Node.{Node}
use Rattle.lu_base.specs.declared.ids.Node.TheVariants.{Client, Target}
use Rattle.lu_base.specs.declared.ids.Who.{Who}
use Rattle.lu_msg.specs.declared.answers.Answer.{Answer}
use Rattle.lu_msg.specs.declared.calls.Call.{Call}
use Rattle.lu_msg.specs.declared.operations.Op.{Op}
use Rattle.lu_msg.specs.declared.messages.Message.{Message}
use Rattle.lu_msg.specs.declared.messages.Message.TheVariants.{Request}
use Rattle.lu_msg.specs.declared.messages.Request.{Request as RequestOf}
use Rattle.lu_trace.specs.declared.entries.Entry.{Entry}
use Rattle.lu_trace.specs.declared.entries.Entry.TheVariants.{Begin, Send, Told, Txn}
use Rattle.lu_trace.specs.declared.entries.Line.{Line}
use Rattle.lu_spec_laws.specs.Words.Pasts.{Past}
use Rattle.lu_spec_laws.specs.Words.Lives.{who_is, is_gone}
use Rattle.lu_spec_laws.specs.Words.Lost.{is_lost}
use Rattle.lu_spec_laws.specs.Words.Requests.{first_request, in_flight, same_object}
use Rattle.lu_spec_laws.specs.Words.Calls.{Begun, open_call, heard_in, operation}
use Rattle.lu_spec_laws.specs.Laws.Acts.{ActsThere, ActsFor, ActsInTime, ToldAt, ToldOn, ToldBy, BegunAt, SameTag, FliesAt, SendsAt, OnceAt}
use Rattle.lu_spec_laws.specs.Laws.Acts.{ActsAt, ActsOf, Acts}
use Rattle.lu_spec_laws.proofs.Decides.{Decided, nothing, never, unlike, like, three, four, numbers, up_to, below, is_true, is_false}
use Rattle.lu_spec_laws.proofs.Decides.{implies, when, unless, pairwise}
use Rattle.lu_spec_laws.proofs.Decides.Messages.{decide_up_to}
use Rattle.lu_spec_laws.proofs.Same.{options, operations}

module _ (out : Who → Bool) (lost : ℕ → ℕ → Bool) (whole : Past) where
  abbrev decide_there : (past : Past) (who : Who) (begun : Begun) (turn : At) (x : ℕ) (op : Op)
      → Decided (ActsThere lost whole past who begun turn x op)
  decide_there past who begun turn x op =
      like (λ t. record { request = t.0; executed = t.1; untold = t.2; alone = t.3 })
      (λ (r : ActsThere lost whole past who begun turn x op). (r.request, r.executed, r.untold, r.alone))
      (four (options operations _ _) (is_true _) (is_false _) (when _ (numbers _ _)))

  abbrev decide_for : (past : Past) (who : Who) (begun : Begun) (turn : At) (heard : Option ℕ) (op : Option Op)
      → Decided (ActsFor lost whole past who begun turn heard op)
  decide_for past who begun turn (Some x) (Some op) = decide_there past who begun turn x op
  decide_for past who begun turn (Some x) None = never
  decide_for past who begun turn None op = never

  abbrev decide_in_time : (past : Past) (at : At) (who : Who) (begun : Begun) (turn : At)
      → Decided (ActsInTime lost whole past at who begun turn)
  decide_in_time past at who begun turn =
      like (λ t. record { after = t.0; before = t.1; acts = t.2 })
      (λ (r : ActsInTime lost whole past at who begun turn). (r.after, r.before, r.acts))
      (three (decide_up_to begun.at turn) (decide_up_to turn at)
      (unless _ (decide_for past who begun turn (heard_in past at) (operation begun))))

  abbrev decide_told : (past : Past) (at : At) (who : Who) (begun : Begun) (turn : At) (answer : Answer)
      → Decided (ToldAt out lost whole past at who begun turn answer)
  decide_told past at who begun turn answer =
      like (λ t. record { handle = t.0; evicted = t.1; own = t.2; acts = t.3 })
      (λ (r : ToldAt out lost whole past at who begun turn answer). (r.handle, r.evicted, r.own, r.acts))
      (four (when _ (is_true _)) (when _ (is_true _)) (when _ (is_true _)) (unless _ (decide_in_time past at who begun turn)))

  abbrev decide_told_on : (past : Past) (at : At) (who : Who) (begun : Option Begun) (turn : At) (answer : Answer)
      → Decided (ToldOn out lost whole past at who begun turn answer)
  decide_told_on past at who None turn answer = nothing
  decide_told_on past at who (Some begun) turn answer = decide_told past at who begun turn answer

  abbrev decide_told_by : (past : Past) (at : At) (node : Node) (slot : ℕ) (turn : At) (answer : Answer)
      → Decided (ToldBy out lost whole past at node slot turn answer)
  decide_told_by past at (Client c) slot turn answer = decide_told_on past at (who_is c past) (open_call c slot past) turn answer
  decide_told_by past at (Target t) slot turn answer = nothing

  abbrev decide_begun : (past : Past) (at : At) (node : Node) (slot : ℕ) (call : Call) (later : List Line)
      → Decided (BegunAt past at node slot call later)
  decide_begun past at (Client c) slot call later = when _ (is_true _)
  decide_begun past at (Target t) slot call later = nothing

  abbrev decide_tag : (first : Option RequestOf) (tag : ℕ) → Decided (SameTag first tag)
  decide_tag None tag = nothing
  decide_tag (Some first) tag = numbers first.tag tag

  abbrev decide_flies : (past : Past) (t : ℕ) (r : RequestOf) (flight : List RequestOf) → Decided (FliesAt past t r flight)
  decide_flies past t r flight =
      like (λ f. record { most = f.0; tags = f.1; objects = f.2; one_tag = f.3 })
      (λ (f : FliesAt past t r flight). (f.most, f.tags, f.objects, f.one_tag))
      (four (up_to _ 8) (pairwise (λ one other. unlike (numbers one.tag other.tag)) flight)
      (implies (below 0 t) (pairwise (λ one other. is_false (same_object one other)) flight))
      (decide_tag (first_request past t r.who r.xid.0) r.tag))

  abbrev decide_sends : (past : Past) (l : Line) (to : Node) (message : Message) → Decided (SendsAt past l to message)
  decide_sends past l (Target t) (Request r) = decide_flies past t r (in_flight t r.who (l ∷ past))
  decide_sends past l (Target t) _ = nothing
  decide_sends past l (Client c) message = nothing

  abbrev decide_once : (node : Node) (n : ℕ) (who : Who) (x : ℕ) → Decided (OnceAt lost whole node n who x)
  decide_once (Target t) n who x = unless _ (up_to _ 1)
  decide_once (Client c) n who x = nothing

  abbrev decide_acts_at : (past : Past) (l : Line) (later : List Line) (said : Entry) → Decided (ActsAt out lost whole past l later said)
  decide_acts_at past l later (Begin slot call) = decide_begun past l.at l.at.node slot call later
  decide_acts_at past l later (Told slot turn answer) = decide_told_by past l.at l.at.node slot turn answer
  decide_acts_at past l later (Txn number who xid seen answer) = decide_once l.at.node number.0 who xid.0
  decide_acts_at past l later (Send number to message) = decide_sends past l to message
  decide_acts_at past l later _ = nothing

  abbrev pub decide_acts_of : (past : Past) (l : Line) (later : List Line) → Decided (ActsOf out lost whole past l later)
  decide_acts_of past l later = decide_acts_at past l later l.entry

abbrev pub decide_acts : (whole past : Past) (l : Line) (later : List Line) → Decided (Acts whole past l later)
decide_acts whole past l later = decide_acts_of (is_gone whole) (is_lost whole) whole past l later
