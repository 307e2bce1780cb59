-- Lines of a target that leave all that it has decided of its objects: messages, marks, crashes and boots, and what shows a restored lock.
use Rattle.std.proofs.Common.{◌≡◌, ℕ, List, ◌∷◌, refl, ap, arith}
use Rattle.lu_base.specs.declared.ids.Node.TheVariants.{Client, Target}
use Rattle.lu_base.specs.declared.ids.Stamp.{Stamp}
use Rattle.lu_base.specs.declared.ids.Cookie.{Cookie}
use Rattle.lu_base.specs.declared.locks.Lock.{Lock as TableLock}
use Rattle.lu_base.specs.declared.locks.Resource.{Resource}
use Rattle.lu_spec_entries.specs.Carried.{Deed}
use Rattle.lu_spec_entries.specs.Words as word
use Rattle.lu_spec_entries.specs.Words.{Line, line}
use Rattle.lu_proof_lawful.specs.Covered.TargetStates.{shown_of}
use Rattle.lu_proof_lawful.specs.Covered.Heads.{Head}
use Rattle.lu_proof_lawful.proofs.Preconditions.StoryGuards.{EntryOf}
use Rattle.lu_proof_lawful.proofs.Preconditions.Lists.{turn}
use Rattle.lu_proof_lawful.proofs.Invariants.Groups.{HoldsAt}
use Rattle.lu_proof_lawful.proofs.Invariants.TargetGroups.{Gave}
use Rattle.lu_proof_lawful.proofs.Invariants.LockLists.{with_old}
use Rattle.lu_proof_bytes.specs.Object.Words.{Entry, Send}
use Rattle.lu_proof_lawful.specs.Projection.Messages.{by_target}
use Rattle.lu_proof_lawful.specs.Projection.Stories.{with_entry}
use Rattle.lu_proof_lawful.proofs.Refinement.TargetSame.{Silent, silent_same, silent_maybe, Still}
use Rattle.lu_proof_lawful.proofs.Refinement.TargetLines.{given_by}

-- it decides nothing of an object
abbrev pub IsQuiet : word.Entry → Type 0
IsQuiet (word.Act d) = ⊥
IsQuiet (word.Txn d) = ⊥
IsQuiet (word.Grant l asked) = ⊥
IsQuiet (word.Wait l asked) = ⊥
IsQuiet (word.Answers d) = ⊥
IsQuiet (word.Release l) = ⊥
IsQuiet (word.Commit to batch) = ⊥
IsQuiet (word.Close o) = ⊥
IsQuiet (word.Evict who cause) = ⊥
IsQuiet _ = Unit {0}

pub quiet_silent : (r : Resource) (h : List Entry) (e : word.Entry) → IsQuiet e → Silent h (with_entry (given_by r h e) h)
quiet_silent r h (word.Send (Client c) m) q = silent_maybe Send (by_target h m) h (λ a. tt)
quiet_silent r h (word.Send (Target v) m) q = silent_same h
quiet_silent r h (word.Act d) q = absurd q
quiet_silent r h (word.Txn d) q = absurd q
quiet_silent r h (word.Grant l asked) q = absurd q
quiet_silent r h (word.Wait l asked) q = absurd q
quiet_silent r h (word.Answers d) q = absurd q
quiet_silent r h (word.Release l) q = absurd q
quiet_silent r h (word.Commit to batch) q = absurd q
quiet_silent r h (word.Close o) q = absurd q
quiet_silent r h (word.Evict who cause) q = absurd q
quiet_silent r h _ q = silent_same h

cookie_is : (a b : Cookie) → a.0 ≡ b.0 → a ≡ b
cookie_is a b e = ap (λ (n : ℕ). record { 0 = n }) e

-- one given lock has a cookie
pub same_lock : (head : Head) (past : List Line) → HoldsAt head past → (d e : Deed) (l k : TableLock) → Gave past d l → Gave past e k
    → l.cookie.0 ≡ k.cookie.0 → l ≡ k
same_lock head past all d e l k g j c = (all.locks.once d e l k g j (cookie_is l.cookie k.cookie c)).1

pub quiet_still : (head : Head) (past : List Line) (stamp : Stamp) (t : ℕ) (e : word.Entry)
    → EntryOf head past (turn stamp (Target t)) (Target t) e → IsQuiet e → HoldsAt head past
    → Still head past (line (turn stamp (Target t)) e ∷ past)
quiet_still head past stamp t (word.Act d) ok q all = absurd q
quiet_still head past stamp t (word.Txn d) ok q all = absurd q
quiet_still head past stamp t (word.Grant l asked) ok q all = absurd q
quiet_still head past stamp t (word.Wait l asked) ok q all = absurd q
quiet_still head past stamp t (word.Answers d) ok q all = absurd q
quiet_still head past stamp t (word.Release l) ok q all = absurd q
quiet_still head past stamp t (word.Commit to batch) ok q all = absurd q
quiet_still head past stamp t (word.Close o) ok q all = absurd q
quiet_still head past stamp t (word.Evict who cause) ok q all = absurd q
quiet_still head past stamp t word.Crash ok q all =
    record {
      gives = record { gave = λ d l g. g; back = λ d l g. g };
      does = record { acted = λ d a. a; back = λ d a. a; closed = refl; lost = λ n. refl };
      grants = record { granted = refl; evicted = refl; shown = λ d l g i serves. absurd (let up = serves.up in cc) };
      cookie = omega arith;
      queued = refl;
    }
quiet_still head past stamp t (word.Boot boot disk) ok q all =
    record {
      gives = record { gave = λ d l g. g; back = λ d l g. g };
      does = record { acted = λ d a. a; back = λ d a. a; closed = refl; lost = λ n. refl };
      grants = record {
        granted = refl;
        evicted = refl;
        shown =
            λ d l g i serves. absurd (let now = serves.closed in let next = ok.next in let under = all.phase.under
            in omega (arith, now, next, under));
      };
      cookie = (let high = all.locks.greatest.1 in let next = ok.next in omega (arith, high, next));
      queued = refl;
    }
quiet_still head past stamp t (word.Restore lock) ok q all =
    record {
      gives = record { gave = λ d l g. g; back = λ d l g. g };
      does = record { acted = λ d a. a; back = λ d a. a; closed = refl; lost = λ n. refl };
      grants = record {
        granted = refl;
        evicted = refl;
        shown = λ d l g i serves. (let k = all.locks.granted lock ok.granted
            in with_old lock l (shown_of past) (λ c. same_lock head past all d k.0 l lock g k.1 c) (i serves));
      };
      cookie = omega arith;
      queued = refl;
    }
quiet_still head past stamp t _ ok q all =
    record {
      gives = record { gave = λ d l g. g; back = λ d l g. g };
      does = record { acted = λ d a. a; back = λ d a. a; closed = refl; lost = λ n. refl };
      grants = record { granted = refl; evicted = refl; shown = λ d l g i serves. i serves };
      cookie = omega arith;
      queued = refl;
    }
