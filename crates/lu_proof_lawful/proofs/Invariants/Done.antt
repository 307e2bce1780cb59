-- What one target did, and what is on its way there: each deed is of a request that flew, and of what counts each acts once; slots keep
-- the newest number and the reply to what counts, or one that a close made anew; messages are those of deeds and flights.
use Rattle.std.proofs.Common.{ℕ, List, [], ◌∷◌, Some, None}
use Rattle.lu_base.specs.declared.ids.Node.{Node}
use Rattle.lu_base.specs.declared.ids.Node.TheVariants.{Client, Target}
use Rattle.lu_base.specs.declared.ids.Stamp.{Stamp}
use Rattle.lu_spec_entries.specs.Words.{Entry, Flies, Heard, Send, Act, Txn as Made, Grant, Wait, Answers, Asks, Ends, Commit, Close}
use Rattle.lu_spec_entries.specs.Words.{Enters, Life, Evict, Joined, Line, line}
use Rattle.lu_proof_lawful.specs.Covered.Heads.{Head}
use Rattle.lu_proof_lawful.proofs.Preconditions.StoryGuards.{EntryOf}
use Rattle.lu_proof_lawful.proofs.Invariants.Groups.{turn, HoldsAt}
use Rattle.lu_proof_lawful.proofs.Invariants.TargetGroups.{Done}
use Rattle.lu_proof_lawful.proofs.Invariants.DoneSends.{done_flies, done_life, done_send, done_heard}
use Rattle.lu_proof_lawful.proofs.Invariants.DoneActs.{done_enters, done_act, done_wait, done_answers, done_grant, done_promoted, done_txn}
use Rattle.lu_proof_lawful.proofs.Invariants.DoneLives.{done_evict, done_joined, came, done_commit, done_asks, done_ends}
use Rattle.lu_proof_lawful.proofs.Invariants.DoneCloses.{done_close}

pub done_start : (osts clients : ℕ) → Done osts clients []
done_start osts clients =
    record {
      flew = λ d a. absurd a;
      boots = λ d a. absurd a;
      numbers = λ d a. absurd a;
      bare = λ d a. absurd a;
      plain = λ d a. absurd a;
      high = λ d a. absurd a;
      kept = λ who tag k e. absurd (cc);
      slots = λ who tag k e. absurd (cc);
      heard = λ who x i. absurd i;
      newest = λ d n. absurd n;
      known = λ who x i. absurd i;
      answered = λ who f r i. absurd i;
      waits = λ r i. absurd i;
      glimpses = λ g i. absurd i;
      sent = λ from to m s. absurd s;
      once = λ d e a. absurd a;
      alone = λ who f r d e i. absurd i;
      rises = λ d e a. absurd a;
      single = λ d e a. absurd a;
    }

pub keeps_done : (head : Head) (past : List Line) (stamp : Stamp) (node : Node) (e : Entry) → EntryOf head past (turn stamp node) node e
    → HoldsAt head past → Done head.osts head.clients (line (turn stamp node) e ∷ past)
keeps_done head past stamp (Client c) (Send to m) ok h = done_send head past stamp (Client c) to m ok h
keeps_done head past stamp (Target t) (Send to m) ok h = done_send head past stamp (Target t) to m ok h
keeps_done head past stamp (Client c) (Flies t f) ok h = done_flies head.osts head.clients past stamp c t f h.done
keeps_done head past stamp (Client c) (Heard t f k) ok h = done_heard head past stamp c t f k ok h
keeps_done head past stamp (Client c) (Life who) ok h = done_life head.osts head.clients past stamp c who ok h.done
keeps_done head past stamp (Target t) (Evict who cause) ok h = done_evict head.osts head.clients past stamp t who cause h.done
keeps_done head past stamp (Target t) (Joined who) ok h = done_joined head.osts head.clients past stamp t who
    (came head past stamp t who ok) h.done h.lives
keeps_done head past stamp (Target t) (Commit to batch) ok h = done_commit head past stamp t to batch ok h
keeps_done head past stamp (Target t) (Close o) ok h = done_close head past stamp t o ok h
keeps_done head past stamp (Target t) (Enters r) ok h = done_enters head.osts head.clients past stamp t r ok h.numbers h.done
keeps_done head past stamp (Target t) (Act d) ok h = done_act head past stamp t h d ok
keeps_done head past stamp (Target t) (Made d) ok h = done_txn head past stamp t h d ok
keeps_done head past stamp (Target t) (Grant lock (Some d)) ok h = done_grant head past stamp t h lock d ok
keeps_done head past stamp (Client c) (Act d) ok h = absurd ok
keeps_done head past stamp (Client c) (Grant lock asked) ok h = absurd ok
keeps_done head past stamp (Target t) (Grant lock None) ok h = done_promoted head past stamp t h lock
keeps_done head past stamp (Target t) (Wait lock d) ok h = done_wait head past stamp t h lock d ok.1
keeps_done head past stamp (Target t) (Answers d) ok h = done_answers head past stamp t h d ok.1
keeps_done head past stamp (Target t) (Asks g) ok h = done_asks head past stamp t g ok.1 h.done
keeps_done head past stamp (Target t) (Ends g) ok h = done_ends head.osts head.clients past stamp t g h.done
keeps_done head past stamp (Client c) (Wait lock d) ok h = absurd ok
keeps_done head past stamp (Client c) (Answers d) ok h = absurd ok
keeps_done head past stamp (Client c) (Made d) ok h = absurd ok
keeps_done head past stamp (Client c) (Close o) ok h = absurd ok
keeps_done head past stamp (Target t) (Flies u f) ok h = absurd ok
keeps_done head past stamp (Target t) (Heard u f k) ok h = absurd ok
keeps_done head past stamp node e ok h = h.done
