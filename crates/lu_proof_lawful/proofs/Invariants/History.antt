-- The history that stands, at every line.
use Rattle.std.proofs.Common.{List, ◌∷◌, Some, None}
use Rattle.lu_base.specs.declared.ids.Node.{Node}
use Rattle.lu_base.specs.declared.ids.Node.TheVariants.{Client, Target}
use Rattle.lu_base.specs.declared.ids.Stamp.{Stamp}
use Rattle.lu_spec_entries.specs.Words.{Entry, Heard, Hold, Act, Txn as Made, Grant, Wait, Answers, Commit, Boot, Evict, Joined, Close}
use Rattle.lu_spec_entries.specs.Words.{Line, line}
use Rattle.lu_proof_lawful.specs.Covered.Heads.{Head}
use Rattle.lu_proof_lawful.proofs.Preconditions.StoryGuards.{EntryOf}
use Rattle.lu_proof_lawful.proofs.Preconditions.Grown.{IsOfFirst, IsPlaced}
use Rattle.lu_proof_lawful.proofs.Invariants.Groups.{turn, History, HoldsAt}
use Rattle.lu_proof_lawful.proofs.Invariants.HistoryLines.{history_heard, history_hold, history_act, history_wait, history_answers}
use Rattle.lu_proof_lawful.proofs.Invariants.HistoryLines.{history_grant, history_promoted, history_made, history_boot, history_evict}
use Rattle.lu_proof_lawful.proofs.Invariants.HistoryLines.{history_joined}
use Rattle.lu_proof_lawful.proofs.Invariants.HistoryCommits.{history_commit}
use Rattle.lu_proof_lawful.proofs.Invariants.HistoryClose.{history_close}
pub use Rattle.lu_proof_lawful.proofs.Invariants.HistoryLines.{history_start}

pub keeps_history : (head : Head) (past : List Line) (stamp : Stamp) (node : Node) (e : Entry) → EntryOf head past (turn stamp node) node e
    → IsOfFirst e → IsPlaced head past (line (turn stamp node) e) → HoldsAt head past
    → History head.osts head.clients (line (turn stamp node) e ∷ past)
keeps_history head past stamp (Client c) (Heard t f r) ok first placed h = history_heard head past stamp c t f r ok h
keeps_history head past stamp (Client c) (Hold t lock marked size seen) ok first placed h =
    history_hold head past stamp c t lock marked size seen ok h
keeps_history head past stamp (Target u) (Hold t lock marked size seen) ok first placed h = absurd ok
keeps_history head past stamp (Client c) (Wait lock d) ok first placed h = absurd ok
keeps_history head past stamp (Client c) (Answers d) ok first placed h = absurd ok
keeps_history head past stamp (Target t) (Wait lock d) ok first placed h = history_wait head past h stamp t lock d ok.1
keeps_history head past stamp (Target t) (Answers d) ok first placed h = history_answers head past h stamp t d ok.1
keeps_history head past stamp (Client c) (Act d) ok first placed h = absurd ok
keeps_history head past stamp (Client c) (Made d) ok first placed h = absurd ok
keeps_history head past stamp (Target t) (Heard target f r) ok first placed h = absurd ok
keeps_history head past stamp (Target t) (Act d) ok first placed h = history_act head past h stamp t d ok
keeps_history head past stamp (Target t) (Made d) ok first placed h = history_made head past h stamp t d ok
keeps_history head past stamp (Client c) (Grant lock asked) ok first placed h = absurd ok
keeps_history head past stamp (Target t) (Grant lock (Some d)) ok first placed h = history_grant head past h stamp t lock d ok
keeps_history head past stamp (Target t) (Grant lock None) ok first placed h = history_promoted head past h stamp t lock
keeps_history head past stamp (Target t) (Commit to batch) ok first placed h = history_commit head past h stamp t to batch ok placed.shows
keeps_history head past stamp (Target t) (Boot boot disk) ok first placed h = history_boot head past h stamp t boot disk ok
keeps_history head past stamp (Target t) (Evict who cause) ok first placed h = history_evict head past h stamp t who cause
keeps_history head past stamp (Target t) (Joined who) ok first placed h = history_joined head past h stamp t who ok
keeps_history head past stamp (Target t) (Close o) ok first placed h = history_close head past stamp t o ok h
keeps_history head past stamp node e ok first placed h = h.history
