-- Each line of a covered run asks of objects, and brings of sizes, what lies in a file.
use Rattle.std.proofs.Common.{ℕ, List, [], ◌∷◌, inl, refl, sym, subst, ap}
use Rattle.lu_base.specs.declared.ids.Node.{Node}
use Rattle.lu_base.specs.declared.ids.Node.TheVariants.{Client, Target}
use Rattle.lu_base.specs.declared.ids.Stamp.{Stamp}
use Rattle.lu_msg.specs.declared.messages.Message.{Message}
use Rattle.lu_msg.specs.declared.messages.Message.TheVariants as message
use Rattle.lu_msg.specs.declared.messages.Reply.{Reply as ReplyTo}
use Rattle.lu_spec_entries.specs.Concerns.{only}
use Rattle.lu_spec_entries.specs.Words.{Entry, Queues, Flies, Send, Line, line}
use Rattle.lu_proof_lawful.specs.Covered.Heads.{Head}
use Rattle.lu_proof_lawful.specs.Coming.{IsShort, BringsShort, LiesInFile, AllInFiles, OfAllLines}
use Rattle.lu_proof_lawful.proofs.Preconditions.Grown.{Grown}
use Rattle.lu_proof_lawful.proofs.Preconditions.Guards.{EntryOk}
use Rattle.lu_proof_lawful.proofs.Preconditions.Lists.{self, turn}
use Rattle.lu_proof_lawful.proofs.Preconditions.Obey.{grown}
use Rattle.lu_proof_lawful.proofs.Preconditions.Only.{was_only}
use Rattle.lu_proof_lawful.proofs.Preconditions.Turns.{covered_head}
use Rattle.lu_proof_lawful.proofs.Invariants.All.{holds}
use Rattle.lu_proof_lawful.proofs.Invariants.TargetGroups.{RepliesTo}
use Rattle.lu_proof_lawful.proofs.Coming.Asked.{ask_in, flies_in}
use Rattle.lu_proof_lawful.proofs.Coming.Sizes.{answers_short, notices_short}

module _ (head : Head) (past : List Line) (stamp : Stamp) where
  abbrev new : Node → Entry → List Line
  new node e = line (turn stamp node) e ∷ past

  brings : (t c : ℕ) (m : Message) → Grown head (new (Target t) (Send (Client c) m)) → BringsShort m
  brings t c (message.Reply reply) g =
      let story = only t (new (Target t) (Send (Client c) (message.Reply reply))) in
      let sent = was_only t (new (Target t) (Send (Client c) (message.Reply reply))) (Target t) (Client c) (message.Reply reply) (self t)
      (inl (refl, refl, refl)) in
      let meant : RepliesTo head.osts story c reply =
      ((holds head (new (Target t) (Send (Client c) (message.Reply reply))) g).at t).done.sent (Target t) (Client c)
      (message.Reply reply) sent in
      subst IsShort (sym (ap (λ (k : ReplyTo). k.answer) meant.is))
      (answers_short head (new (Target t) (Send (Client c) (message.Reply reply))) g t meant.deed meant.acted)
  brings t c (message.Grant notice) g =
      notices_short head (new (Target t) (Send (Client c) (message.Grant notice))) g t (Target t) (Client c) notice
      (was_only t (new (Target t) (Send (Client c) (message.Grant notice))) (Target t) (Client c) (message.Grant notice) (self t)
      (inl (refl, refl, refl)))
  brings t c m g = tt

  sends : (node to : Node) (m : Message) → Grown head (new node (Send to m)) → BringsShort m
  sends (Target t) (Client c) m g = brings t c m g
  sends (Target t) (Target u) m g = others m g.0.ok
    where
      others : (k : Message) → EntryOk past (turn stamp (Target t)) (Target t) (Send (Target u) k) → BringsShort k
      others k ok = absurd ok
  sends (Client c) to m g = own m to g.0.ok
    where
      own : (k : Message) (other : Node) → EntryOk past (turn stamp (Client c)) (Client c) (Send other k) → BringsShort k
      own (message.Reply reply) (Client d) ok = absurd ok
      own (message.Reply reply) (Target t) ok = absurd ok
      own (message.Grant notice) (Client d) ok = absurd ok
      own (message.Grant notice) (Target t) ok = absurd ok
      own k other ok = tt

  lies : (node : Node) (e : Entry) → Grown head (new node e) → LiesInFile e
  lies node (Queues t queued) g = ask_in head past (turn stamp node) node (Queues t queued) g.1 g.0.ok
  lies (Client c) (Flies t flight) g = flies_in head past stamp c t flight g
  lies (Target u) (Flies t flight) g = absurd g.0.ok
  lies node (Send to m) g = sends node to m g
  lies node e g = tt

lines_in : (head : Head) (past : List Line) → Grown head past → AllInFiles past
lines_in head [] g = tt
lines_in head (l ∷ past) g = (lies head past l.at.stamp l.at.node l.entry g, lines_in head past g.1)

pub all_in_files : OfAllLines AllInFiles
all_in_files head turns is run covered = lines_in (covered_head head) _ (grown head turns run covered)
