-- A live client's write-back is never told that no lock covers it: its lock is held, so granted, and over the change.
use Rattle.std.proofs.Common.{◌≡◌, ℕ, true, List, sym, subst, ap, ◌∙◌}
use Rattle.lu_base.specs.declared.ids.Node.TheVariants.{Client, Target}
use Rattle.lu_base.specs.declared.ids.Stamp.{Stamp}
use Rattle.lu_base.specs.declared.ids.Who.{Who}
use Rattle.lu_base.specs.declared.locks.Resource.{Resource}
use Rattle.lu_msg.specs.declared.answers.Answer.TheVariants as answer
use Rattle.lu_msg.specs.declared.messages.Message.TheVariants as message
use Rattle.lu_msg.specs.declared.messages.Reply.{Reply as ReplyTo}
use Rattle.lu_spec_entries.specs.Carried.{Flight}
use Rattle.lu_spec_entries.specs.Words as word
use Rattle.lu_spec_entries.specs.Words.{Line, line}
use Rattle.lu_spec_entries.specs.Concerns.{only}
use Rattle.lu_proof_lawful.specs.Covered.ClientStates.{life_of}
use Rattle.lu_proof_lawful.specs.Covered.Heads.{Head}
use Rattle.lu_proof_lawful.proofs.Preconditions.Lists.{self, turn}
use Rattle.lu_proof_lawful.proofs.Invariants.TargetGroups.{Flew}
use Rattle.lu_proof_lawful.specs.Projection.Lives.{is_live}
use Rattle.lu_proof_lawful.specs.Projection.Stories.{story}
use Rattle.lu_proof_lawful.proofs.Refinement.Tied.{Here}
use Rattle.lu_proof_lawful.proofs.Refinement.TiedAsked.{is_back}

pub put_done : (head : Head) (t : ℕ) (r : Resource) (stamp : Stamp) (c : ℕ) (f : Flight) (p : ReplyTo) (past : List Line)
    → Here head t r (line (turn stamp (Client c)) (word.Heard t f p)) past → is_live c past (story t r past) ≡ true
    → is_back r f.op ≡ true → p.answer ≡ answer.Done
put_done head t r stamp c f p past here live back =
    let ok = here.stood.ok.of t (self t) in
    let all = here.stood.before.at t in
    let sent = all.done.sent (Target ok.from) (Client c) (message.Reply p) ok.was in
    let g = all.done.flew sent.deed sent.acted in
    let who : sent.deed.reply.who ≡ life_of c (only t past) = ap (λ (x : ReplyTo). x.who) (sym sent.is) ∙ ok.who in
    let xid : f.xid ≡ g.0.xid = ok.xid ∙ ap (λ (x : ReplyTo). x.xid.0) sent.is ∙ sym g.2 in
    let flew = all.numbers.flying (life_of c (only t past)) f ok.flying in
    let same : f ≡ g.0 = all.numbers.one (life_of c (only t past)) f g.0 flew (subst (λ (w : Who). Flew (only t past) w g.0) who g.1) xid in
    ap (λ (x : ReplyTo). x.answer) sent.is ∙ here.tied.object.backs sent.deed sent.acted
    (ap (is_back r) (sym (ap (λ (x : Flight). x.op) same ∙ g.3)) ∙ back)
