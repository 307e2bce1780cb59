-- What a target has decided of one object is what the story says, after each line.
use Rattle.std.proofs.Common.{◌≡◌, ℕ, ◌<◌, Bool, true, false, List, [], ◌∷◌, Some, None, inl, inr, refl, sym, subst, arith}
use Rattle.std.specs.Prelude.{nat_eq}
use Rattle.std.proofs.lemmas.Bool.{eqb-true}
use Rattle.lu_base.specs.declared.ids.Node.{Node}
use Rattle.lu_base.specs.declared.ids.Node.TheVariants.{Client, Target}
use Rattle.lu_base.specs.declared.ids.Stamp.{Stamp}
use Rattle.lu_base.specs.declared.locks.Resource.{Resource}
use Rattle.lu_spec_entries.specs.Carried.{Deed, Outcome}
use Rattle.lu_spec_entries.specs.Words as word
use Rattle.lu_spec_entries.specs.Words.{Line, line}
use Rattle.lu_spec_entries.specs.Concerns.{only}
use Rattle.lu_proof_lawful.specs.Covered.Heads.{Head}
use Rattle.lu_proof_lawful.proofs.Preconditions.StoryGuards.{EntryOf, GrantsOk, RangeOk}
use Rattle.lu_proof_lawful.proofs.Preconditions.Grown.{GrownOf, ShowsNext}
use Rattle.lu_proof_lawful.proofs.Preconditions.Lists.{self, turn}
use Rattle.lu_proof_lawful.proofs.Preconditions.Only.{grown_of}
use Rattle.lu_proof_lawful.proofs.Invariants.Groups.{HoldsAt}
use Rattle.lu_proof_lawful.proofs.Invariants.TargetGroups.{Acted}
use Rattle.lu_proof_bytes.specs.Object.Words.{Entry}
use Rattle.lu_proof_bytes.specs.Object.Folds as says
use Rattle.lu_proof_lawful.specs.Projection.Stories.{with_entry, story}
use Rattle.lu_proof_lawful.proofs.Refinement.Stood.{grown_now}
use Rattle.lu_proof_lawful.proofs.Refinement.TiedTarget.{CommittedAs, TargetBy, TargetTied}
use Rattle.lu_proof_lawful.proofs.Refinement.ClosedCommits.{committed_is}
use Rattle.lu_proof_lawful.proofs.Refinement.ClosedHeld.{closed_held, closed_back}
use Rattle.lu_proof_lawful.proofs.Refinement.TargetSame.{target_same, Still, still_same}
use Rattle.lu_proof_lawful.proofs.Refinement.TargetLines.{client_silent, client_still, other_silent, other_only, given_by, own_only}
use Rattle.lu_proof_lawful.proofs.Refinement.TargetLines.{own_story}
use Rattle.lu_proof_lawful.proofs.Refinement.TargetOwn.{quiet_silent, quiet_still}
use Rattle.lu_proof_lawful.proofs.Refinement.TargetActs.{AllName, tied_act, tied_answers, tied_txn}
use Rattle.lu_proof_lawful.proofs.Refinement.TargetLocks.{tied_range, tied_wait, tied_promote}
use Rattle.lu_proof_lawful.proofs.Refinement.TargetLeaves.{tied_release, tied_commit, tied_evict}
use Rattle.lu_proof_lawful.proofs.Refinement.TargetCloses.{IsDoneOrNot, acted_done, ClosesAs, tied_close}
use Rattle.lu_proof_lawful.proofs.Refinement.Tied.{Here, Grows}

-- a line of the target itself, over what concerns it
own_line : (head : Head) (r : Resource) (past : List Line) (h : List Entry) (stamp : Stamp) (t : ℕ) (e : word.Entry) → 0 < t
    → TargetBy head r past h → GrownOf head past → HoldsAt head past
    → HoldsAt head (line (turn stamp (Target t)) e ∷ past) → EntryOf head past (turn stamp (Target t)) (Target t) e
    → ShowsNext head past (turn stamp (Target t)) e → AllName r past h
    → ((d : Deed) → Acted past d → IsDoneOrNot d) → ((o : Outcome) → e ≡ word.Close o → ClosesAs r h o)
    → CommittedAs head (line (turn stamp (Target t)) e ∷ past) (says.committed (with_entry (given_by r h e) h))
    → TargetBy head r (line (turn stamp (Target t)) e ∷ past) (with_entry (given_by r h e) h)
own_line head r past h stamp t (word.Act d) high tied grown all now ok next names kind held committed =
    tied_act head r past h tied all names stamp t high d ok committed
own_line head r past h stamp t (word.Answers d) high tied grown all now ok next names kind held committed =
    tied_answers head r past h tied all names stamp t high d ok.1 committed
own_line head r past h stamp t (word.Txn d) high tied grown all now ok next names kind held committed =
    tied_txn head r past h tied all names stamp t high d ok committed
own_line head r past h stamp t (word.Grant lock (Some d)) high tied grown all now ok next names kind held committed =
    tied_range head r past h tied all names stamp t high lock d (range ok) now committed
  where
    range : GrantsOk head.osts past (turn stamp (Target t)) t lock d → RangeOk head.osts past (turn stamp (Target t)) lock d
    range (inl k) = absurd (let zero = k.0 in omega (arith, zero, high))
    range (inr k) = k.1
own_line head r past h stamp t (word.Grant lock None) high tied grown all now ok next names kind held committed =
    tied_promote head r past h tied all names stamp t high lock ok.1 now committed
own_line head r past h stamp t (word.Wait lock d) high tied grown all now ok next names kind held committed =
    tied_wait head r past h tied all names stamp t high lock d ok.1 committed
own_line head r past h stamp t (word.Release lock) high tied grown all now ok next names kind held committed =
    tied_release head r past h tied grown all stamp t lock ok committed
own_line head r past h stamp t (word.Commit to batch) high tied grown all now ok next names kind held committed =
    tied_commit head r past h tied grown all stamp t to batch committed
own_line head r past h stamp t (word.Evict who cause) high tied grown all now ok next names kind held committed =
    tied_evict head r past h tied grown all stamp t who cause ok next committed
own_line head r past h stamp t (word.Close o) high tied grown all now ok next names kind held committed =
    tied_close head r past h tied all stamp t o ok next now kind (held o refl) committed
own_line head r past h stamp t e high tied grown all now ok next names kind held committed =
    target_same head r past (line (turn stamp (Target t)) e ∷ past) h (with_entry (given_by r h e) h) tied
    (quiet_still head past stamp t e ok tt all) (quiet_silent r h e tt) committed

-- ---- any line

-- the line with its node and its turn taken apart
module _ (head : Head) (t : ℕ) (r : Resource) (stamp : Stamp) (e : word.Entry) (past : List Line) where
  target_client : (c : ℕ) → Here head t r (line (turn stamp (Client c)) e) past
      → TargetTied head t r (line (turn stamp (Client c)) e ∷ past)
  target_client c here =
      target_same head r (only t past) (only t (line (turn stamp (Client c)) e ∷ past)) (story t r past)
      (story t r (line (turn stamp (Client c)) e ∷ past)) here.tied.target
      (client_still head t stamp c e past here.stood.ok.ok) (client_silent t r stamp c past e)
      (committed_is head t r (line (turn stamp (Client c)) e ∷ past) (grown_now head (line (turn stamp (Client c)) e) past here.stood))

  target_other : (u : ℕ) → nat_eq t u ≡ false → Here head t r (line (turn stamp (Target u)) e) past
      → TargetTied head t r (line (turn stamp (Target u)) e ∷ past)
  target_other u off here =
      target_same head r (only t past) (only t (line (turn stamp (Target u)) e ∷ past)) (story t r past)
      (story t r (line (turn stamp (Target u)) e ∷ past)) here.tied.target
      (subst (λ (p : List Line). Still head (only t past) p) (sym (other_only t stamp u e past off)) (still_same head (only t past)))
      (other_silent t r stamp u e past off)
      (committed_is head t r (line (turn stamp (Target u)) e ∷ past) (grown_now head (line (turn stamp (Target u)) e) past here.stood))

  target_own : Here head t r (line (turn stamp (Target t)) e) past → TargetTied head t r (line (turn stamp (Target t)) e ∷ past)
  target_own here =
      subst (λ (p : List Line). TargetBy head r p (story t r (line (turn stamp (Target t)) e ∷ past))) (sym only_is)
      (subst (λ (k : List Entry). TargetBy head r (line (turn stamp (Target t)) e ∷ only t past) k) (sym story_is)
      (own_line head r (only t past) (story t r past) stamp t e here.some here.tied.target (grown_of head t past here.stood.grown)
      (here.stood.before.at t)
      (subst (λ (p : List Line). HoldsAt head p) only_is (here.stood.after.at t)) (here.stood.ok.of t (self t))
      (here.stood.ok.shows t (self t))
      (λ from to q w stays on. (here.tied.object.asks from to q w stays on).lock)
      (λ d a. acted_done head past t d here.some here.stood.grown a) restores
      (subst (λ (k : List Entry). CommittedAs head (line (turn stamp (Target t)) e ∷ only t past) (says.committed k)) story_is
      (subst (λ (p : List Line). CommittedAs head p (says.committed (story t r (line (turn stamp (Target t)) e ∷ past)))) only_is
      (committed_is head t r (line (turn stamp (Target t)) e ∷ past) (grown_now head (line (turn stamp (Target t)) e) past here.stood))))))
    where
      restores : (o : Outcome) → e ≡ word.Close o → ClosesAs r (story t r past) o
      restores o q =
          let at_close = subst (λ (x : word.Entry). Here head t r (line (turn stamp (Target t)) x) past) q here in
          record { held = closed_held head t r stamp o past at_close; back = closed_back head t r stamp o past at_close }

      only_is : only t (line (turn stamp (Target t)) e ∷ past) ≡ line (turn stamp (Target t)) e ∷ only t past
      only_is = own_only t stamp e past

      story_is : story t r (line (turn stamp (Target t)) e ∷ past) ≡ with_entry (given_by r (story t r past) e) (story t r past)
      story_is = own_story t r stamp e past

  target_either : (node : Node) → Here head t r (line (turn stamp node) e) past → TargetTied head t r (line (turn stamp node) e ∷ past)
  target_either (Client c) here = target_client c here
  target_either (Target u) here = by (nat_eq t u) refl
    where
      by : (b : Bool) → nat_eq t u ≡ b → TargetTied head t r (line (turn stamp (Target u)) e ∷ past)
      by false off = target_other u off here
      by true on =
          let same : t ≡ u = eqb-true t u on in
          subst (λ (v : ℕ). Here head t r (line (turn stamp (Target v)) e) past
          → TargetTied head t r (line (turn stamp (Target v)) e ∷ past)) same
          target_own here

pub target_line : (head : Head) (t : ℕ) (r : Resource) (l : Line) (past : List Line) → Here head t r l past
    → Grows (story t r past) (story t r (l ∷ past)) → TargetTied head t r (l ∷ past)
target_line head t r l past here g = target_either head t r l.at.stamp l.entry past l.at.node here

-- ---- before the first line

pub target_start : (head : Head) (t : ℕ) (r : Resource) → TargetTied head t r []
target_start head t r =
    record {
      closed = refl;
      evicted = λ w. refl;
      committed = inl refl;
      top = omega arith;
      given = λ k m e. absurd (cc);
      gives = λ d l g on. absurd g.0;
      granted = λ m i. absurd i;
      grants = λ l i on. absurd i;
      waiting = λ m i. absurd i;
      queued = λ l i on. absurd i;
      names = λ d a on. absurd a;
      answered = λ w x a i. absurd i;
      answers = λ d o a c on is. absurd a;
    }
