-- What lives that aren't out heard in a story, or came to hold locks with, rests on nothing that is lost, where that is so of the past:
-- what a later
-- close lost is above what was committed until then, and what they saw was done, or committed.
use Rattle.std.proofs.Common.{◌≡◌, ℕ, ◌<◌, ◌≤◌, Bool, true, false, List, [], ◌∷◌, ◌⊎◌, inl, inr, ⊎_elim, refl, sym, subst, ap, ◌∙◌, arith}
use Rattle.std.specs.Prelude.{nat_eq, nat_lt, ◌&&◌, not, Option}
use Rattle.std.proofs.lemmas.Bool.{cond_both, cond-true, and_parts, or_parts, or_from, or_cases, ltb-true, le-ltb, eqb-true, eqb-false}
use Rattle.lu_base.specs.declared.ids.Node.{Node}
use Rattle.lu_base.specs.declared.ids.Node.TheVariants.{Client, Target}
use Rattle.lu_base.specs.declared.ids.Who.{Who}
use Rattle.lu_base.specs.declared.locks.Lock.{Lock as TableLock}
use Rattle.lu_base.specs.declared.locks.Resource.{Resource}
use Rattle.lu_msg.specs.declared.answers.Answer.{Answer as TableAnswer}
use Rattle.lu_msg.specs.declared.answers.Answer.TheVariants as told
use Rattle.lu_msg.specs.declared.commits.Batch.{Batch}
use Rattle.lu_msg.specs.declared.messages.Reply.{Reply as ReplyTo}
use Rattle.lu_spec_entries.specs.Carried.{Deed, Flight, Outcome}
use Rattle.lu_spec_entries.specs.Words as word
use Rattle.lu_spec_entries.specs.Words.{Line, line}
use Rattle.lu_spec_entries.specs.Concerns.{concerns, only}
use Rattle.lu_spec_target.specs.Phase.{first_of}
use Rattle.lu_spec_target.specs.Windows.{has_number}
use Rattle.lu_spec_client.specs.Calls.{life_at}
use Rattle.lu_proof_lawful.specs.Covered.TargetCloses.{is_lost, loses}
use Rattle.lu_proof_lawful.specs.Covered.ClientStates.{life_of}
use Rattle.lu_proof_lawful.specs.Covered.Heads.{Head}
use Rattle.lu_proof_lawful.proofs.Preconditions.Guards.{In, HeardAs}
use Rattle.lu_proof_lawful.proofs.Preconditions.StoryGuards.{EntryOf}
use Rattle.lu_proof_lawful.proofs.Preconditions.Grown.{Grown}
use Rattle.lu_proof_lawful.proofs.Preconditions.Lists.{self, turn, own_self}
use Rattle.lu_proof_lawful.proofs.Preconditions.Parts.{life_is_of}
use Rattle.lu_proof_lawful.proofs.Invariants.Groups.{HoldsAt}
use Rattle.lu_proof_lawful.proofs.Invariants.TargetGroups.{Acted, SawIn, IsMade}
use Rattle.lu_proof_lawful.proofs.Invariants.All.{holds}
use Rattle.lu_proof_lawful.proofs.Invariants.ExactLists.{has_in}
use Rattle.lu_proof_lawful.proofs.Invariants.Keeps.{saw_done}
use Rattle.lu_proof_lawful.proofs.Invariants.Lines.{only_more}
use Rattle.lu_proof_bytes.specs.Object.Words.{Op, Enqueue, Get, Flush, Size, Done, Content, Entry, Flies, Heard, Hold, Tells, Txn, Commit}
use Rattle.lu_proof_bytes.specs.Object.Words.{Close}
use Rattle.lu_proof_bytes.specs.Object.Folds.{also}
use Rattle.lu_proof_bytes.specs.Object.Folds as says
use Rattle.lu_proof_bytes.specs.Object.Guards.{HeardOf, KeptFor}
use Rattle.lu_proof_lawful.specs.Projection.Lives.{number_of}
use Rattle.lu_proof_lawful.specs.Projection.Requests.{among, answer_of, answer_by}
use Rattle.lu_proof_lawful.specs.Projection.Closes.{lost_by, kept_of}
use Rattle.lu_proof_lawful.specs.Projection.Messages.{request_as}
use Rattle.lu_proof_lawful.specs.Projection.Stories.{story}
use Rattle.lu_proof_lawful.proofs.Refinement.TiedTarget.{CommittedAs}
use Rattle.lu_proof_lawful.proofs.Refinement.ClosedCommits.{committed_of, line_is, committed_more, lost_before, next_commits, committed_is}
use Rattle.lu_proof_lawful.proofs.Refinement.LineCases.{IsOther, by_line}
use Rattle.lu_proof_lawful.proofs.Refinement.WordKept.{hold_low}

-- ---- what an answer rests on

answer_stands : (lost : ℕ → Bool) (c : ℕ) (p : ReplyTo) → lost p.txn.0 ≡ false → ((n : ℕ) → In n p.seen → lost n ≡ false)
    → (o : Op) (a : TableAnswer) → HeardOf lost (answer_by c p o a)
answer_stands lost c p txn saw (Enqueue w f l) (told.Granted cookie extent size) = tt
answer_stands lost c p txn saw (Enqueue w f l) (told.Waiting cookie) = tt
answer_stands lost c p txn saw (Get k at n) (told.Content bytes) = λ m e. saw m (has_in m p.seen e)
answer_stands lost c p txn saw (Flush k change) told.Done = txn
answer_stands lost c p txn saw Size (told.Size size) = tt
answer_stands lost c p txn saw Size told.Lock = tt
answer_stands lost c p txn saw o a = tt

-- ---- what isn't lost to lives that aren't out

-- a transaction of that number was done
abbrev pub MadeAt : List Line → ℕ → Type 0
MadeAt past n = (d : Deed) × Acted past d × IsMade d × (d.reply.txn.0 ≡ n)

-- the number isn't lost, and where it is a transaction's no close so far lost it
abbrev pub Spared : (osts : ℕ) → (lost : ℕ → Bool) → List Line → ℕ → Type 0
Spared osts lost past n = (lost n ≡ false) × (MadeAt past n → is_lost osts past n ≡ false)

pub record Spares (osts : ℕ) (out lost : ℕ → Bool) (past : List Line) : Type 0 where
  pub low : (n : ℕ) → lost n ≡ true → committed_of osts past < n
  pub heard : (who : Who) (f : Flight) (p : ReplyTo) → HeardAs past who f p → out (number_of who) ≡ false → Spared osts lost past p.txn.0
  pub saw : (who : Who) (n : ℕ) → SawIn past who n → out (number_of who) ≡ false → Spared osts lost past n

-- ---- a line more

heard_more : (l : Line) (past : List Line) (who : Who) (f : Flight) (p : ReplyTo) → HeardAs past who f p → HeardAs (l ∷ past) who f p
heard_more l past who f p a = by l.entry
  where
    by : (e : word.Entry) → HeardAs (line l.at e ∷ past) who f p
    by (word.Heard t g k) = inr a
    by _ = a

saw_more : (l : Line) (past : List Line) (who : Who) (n : ℕ) → SawIn past who n → SawIn (l ∷ past) who n
saw_more l past who n a = by l.entry
  where
    by : (e : word.Entry) → SawIn (line l.at e ∷ past) who n
    by (word.Heard t f r) = inr a
    by (word.Hold t lock marked size seen) = inr a
    by _ = a

module _ (head : Head) (t : ℕ) (r : Resource) (l : Line) (past : List Line) (g : Grown head (l ∷ past)) (out : ℕ → Bool) where
  abbrev P : List Line
  P = only t past

  abbrev Q : List Line
  Q = only t (l ∷ past)

  made_more : (n : ℕ) → MadeAt P n → MadeAt Q n
  made_more n m = (m.0, only_more t l past m.0 m.1, m.2, m.3)

  heard_there : (who : Who) (f : Flight) (p : ReplyTo) → HeardAs P who f p → HeardAs Q who f p
  heard_there who f p a = cond_both (concerns t l.at.node l.entry) (l ∷ P) P (λ (x : List Line). HeardAs x who f p)
      (λ q. heard_more l P who f p a) (λ q. a)

  saw_there : (who : Who) (n : ℕ) → SawIn P who n → SawIn Q who n
  saw_there who n a = cond_both (concerns t l.at.node l.entry) (l ∷ P) P (λ (x : List Line). SawIn x who n) (λ q. saw_more l P who n a)
      (λ q. a)

  spares_before : (lost : ℕ → Bool) → Spares head.osts out lost Q → Spares head.osts out lost P
  spares_before lost s =
      record {
        low = λ n e. let lt = s.low n e in let le = committed_more head t l past g in omega (arith, lt, le);
        heard = λ who f p a o. let x = s.heard who f p (heard_there who f p a) o
            in (x.0, λ m. lost_before head.osts t l past p.txn.0 (x.1 (made_more p.txn.0 m)));
        saw = λ who n a o. let x = s.saw who n (saw_there who n a) o in (x.0, λ m. lost_before head.osts t l past n (x.1 (made_more n m)));
      }

  abbrev h : List Entry
  h = story t r past

  at : HoldsAt head P
  at = (holds head past g.1).at t

  -- a line of that target
  own : (node : Node) (e : word.Entry) → l.at.node ≡ node → l.entry ≡ e → concerns t node e ≡ true → Q ≡ line (turn l.at.stamp node) e ∷ P
  own node e p q c =
      cond-true (concerns t l.at.node l.entry) (l ∷ P) P (subst (λ (x : Line). concerns t x.at.node x.entry ≡ true)
      (sym (line_is l node e p q)) c)
      ∙ ap (λ (x : Line). x ∷ P) (line_is l node e p q)

  of_story : (node : Node) (e : word.Entry) → l.at.node ≡ node → l.entry ≡ e → concerns t node e ≡ true
      → EntryOf head P (turn l.at.stamp node) node e
  of_story node e p q c =
      let same = line_is l node e p q in
      subst (λ (x : Line). EntryOf head P x.at x.at.node x.entry) same
      (g.0.of t (subst (λ (x : Line). concerns t x.at.node x.entry ≡ true) (sym same) c))

  -- ---- a reply, and a lock

  heard_stands : (lost : ℕ → Bool) → Spares head.osts out lost Q → (c : ℕ) (f : Flight) (p : ReplyTo) (o : Op) → l.at.node ≡ Client c
      → l.entry ≡ word.Heard t f p
      → out (number_of (life_at c past)) ≡ false → HeardOf lost (answer_of (request_as (number_of (life_at c past)) f.xid o) p)
  heard_stands lost s c f p o here is stays =
      answer_stands lost (number_of (life_at c past)) p (s.heard (life_of c P) f p heard mine).0
      (λ n i. (s.saw (life_of c P) n (saw n i) mine).0) o p.answer
    where
      mine : out (number_of (life_of c P)) ≡ false
      mine = subst (λ (w : Who). out (number_of w) ≡ false) (life_is_of c t past) stays

      now : Q ≡ line (turn l.at.stamp (Client c)) (word.Heard t f p) ∷ P
      now = own (Client c) (word.Heard t f p) here is (self t)

      heard : HeardAs Q (life_of c P) f p
      heard = subst (λ (x : List Line). HeardAs x (life_of c P) f p) (sym now) (inl (own_self P c, refl, refl))

      saw : (n : ℕ) → In n p.seen → SawIn Q (life_of c P) n
      saw n i = subst (λ (x : List Line). SawIn x (life_of c P) n) (sym now) (inl (own_self P c, i))

  held_stands : (lost : ℕ → Bool) → Spares head.osts out lost Q
      → (c : ℕ) (lock : TableLock) (marked : Bool) (size : Option ℕ) (seen : List ℕ) → l.at.node ≡ Client c → l.entry
      ≡ word.Hold t lock marked size seen
      → out (number_of lock.ask.who) ≡ false → (n : ℕ) → among seen n ≡ true → lost n ≡ false
  held_stands lost s c lock marked size seen here is stays n e =
      let low = hold_low head P c t lock marked seen at (of_story (Client c) (word.Hold t lock marked size seen) here is (self t)) in
      (s.saw (life_of c P) n
      (subst (λ (x : List Line). SawIn x (life_of c P) n) (sym (own (Client c) (word.Hold t lock marked size seen) here is (self t)))
      (inl (own_self P c, has_in n seen e)))
      (subst (λ (w : Who). out (number_of w) ≡ false) low.1 stays)).0

  -- ---- a commit, and a close

  committed_stands : (lost : ℕ → Bool) → Spares head.osts out lost Q → (to : ℕ) (batch : Batch) → l.at.node ≡ Target t → l.entry
      ≡ word.Commit to batch → (n : ℕ) → n ≤ to → lost n ≡ false
  committed_stands lost s to batch here is n le = by (lost n) refl
    where
      by : (b : Bool) → lost n ≡ b → b ≡ false
      by true e =
          let lt = s.low n e in
          let same : committed_of head.osts Q ≡ to = ap (committed_of head.osts) (own (Target t) (word.Commit to batch) here is (self t)) in
          absurd (omega (arith, lt, same, le))
      by false e = refl

  module _ (o : Outcome) (here : l.at.node ≡ Target t) (is : l.entry ≡ word.Close o) where
    abbrev loses_now : ℕ → Bool
    loses_now = lost_by (says.committed h) o.boot (kept_of o.kept)

    -- what the story says is committed then is so
    pub committed_same : says.committed h ≡ committed_of head.osts P
    committed_same = by (committed_is head t r past g.1)
      where
        by : CommittedAs head P (says.committed h) → says.committed h ≡ committed_of head.osts P
        by (inl e) = e
        by (inr k) =
            let own = subst (λ (x : Line). concerns t x.at.node x.entry ≡ true) (sym (line_is l (Target t) (word.Close o) here is)) (self t)
            in
            let n = next_commits head P l (g.0.shows t own) k.1 in
            absurd (let other = n.2 in cc)

    -- a close loses what the story says it loses
    pub loses_same : (n : ℕ) → loses_now n ≡ loses (committed_of head.osts P) o n
    loses_same n = ap (λ m. lost_by m o.boot (kept_of o.kept) n) committed_same

    loses_low : (n : ℕ) → n ≤ committed_of head.osts P → loses_now n ≡ false
    loses_low n le = loses_same n ∙ ap (λ (b : Bool). b && (nat_lt n (first_of o.boot) && not (has_number n (kept_of o.kept))))
        (le-ltb (committed_of head.osts P) n le)

    loses_not : (n : ℕ) → is_lost head.osts Q n ≡ false → loses_now n ≡ false
    loses_not n f =
        loses_same n
        ∙ (or_parts (is_lost head.osts P n) (loses (committed_of head.osts P) o n)
        (subst (λ (x : List Line). is_lost head.osts x n ≡ false) (own (Target t) (word.Close o) here is (self t)) f)).1

    spares_close : (lost : ℕ → Bool) → Spares head.osts out lost Q → Spares head.osts out (also lost loses_now) P
    spares_close lost s =
        record {
          low = λ n e. ⊎_elim
              (λ (x : lost n ≡ true). let lt = s.low n x in let le = committed_more head t l past g in omega (arith, lt, le))
              (λ (x : loses_now n ≡ true). let lt = ltb-true (says.committed h) n (and_parts (nat_lt (says.committed h) n) _ x).0
              in let same = committed_same in omega (arith, lt, same))
              (or_cases (lost n) (loses_now n) e);
          heard = λ who f p a o. let x = s.heard who f p (heard_there who f p a) o
              in (
                or_from (lost p.txn.0) (loses_now p.txn.0) x.0 (of_reply who f p a x.1),
                λ m. lost_before head.osts t l past p.txn.0 (x.1 (made_more p.txn.0 m)),
              );
          saw = λ who n a o. let x = s.saw who n (saw_there who n a) o
              in (or_from (lost n) (loses_now n) x.0 (of_seen who n a x.1), λ m. lost_before head.osts t l past n (x.1 (made_more n m)));
        }
      where
        of_reply : (who : Who) (f : Flight) (p : ReplyTo) → HeardAs P who f p → (MadeAt Q p.txn.0 → is_lost head.osts Q p.txn.0 ≡ false)
            → loses_now p.txn.0 ≡ false
        of_reply who f p a spared =
            let d = at.done.answered who f p a in
            let txn : p.txn.0 ≡ d.0.reply.txn.0 = ap (λ (x : ReplyTo). x.txn.0) d.2 in
            by d.0 d.1 txn (nat_eq p.txn.0 0) refl
          where
            by : (d : Deed) → Acted P d → p.txn.0 ≡ d.reply.txn.0 → (b : Bool) → nat_eq p.txn.0 0 ≡ b → loses_now p.txn.0 ≡ false
            by d acted txn true e = let z = eqb-true p.txn.0 0 e in loses_low p.txn.0 (omega (arith, z))
            by d acted txn false e = let z = eqb-false p.txn.0 0 e
                in loses_not p.txn.0 (spared (made_more p.txn.0 (d, acted, omega (arith, z, txn), sym txn)))

        of_seen : (who : Who) (n : ℕ) → SawIn P who n → (MadeAt Q n → is_lost head.osts Q n ≡ false) → loses_now n ≡ false
        of_seen who n a spared =
            ⊎_elim
            (λ (le : n ≤ committed_of head.osts P). loses_low n le)
            (λ (m : MadeAt P n). loses_not n (spared (made_more n m)))
            (saw_done head P at who n a)

  -- ---- each line

  kept_line : ((lost : ℕ → Bool) → Spares head.osts out lost P → KeptFor out lost h) → (lost : ℕ → Bool) → Spares head.osts out lost Q
      → KeptFor out lost (story t r (l ∷ past))
  kept_line ih lost s =
      by_line (KeptFor out lost) t r past h l.at.node l.entry (record {
        same = before;
        other = λ x n. other_kept lost x n before;
        heard = λ c f p o here is live. (heard_stands lost s c f p o here is, before);
        hold = λ c lock marked size seen here is live on. (held_stands lost s c lock marked size seen here is, before);
        flies = λ c f o here is live. before;
        tells = λ c change k here is live. before;
        txn = λ d o here is. before;
        commit = λ to batch here is. (committed_stands lost s to batch here is, before);
        close = λ o here is. ih (also lost (loses_now o here is)) (spares_close o here is lost s);
      })
    where
      before : KeptFor out lost h
      before = ih lost (spares_before lost s)

      other_kept : (lost : ℕ → Bool) (x : Entry) → IsOther x → KeptFor out lost h → KeptFor out lost (x ∷ h)
      other_kept lost (Heard q a) n k = absurd n
      other_kept lost (Hold m size seen) n k = absurd n
      other_kept lost (Flies q) n k = absurd n
      other_kept lost (Tells c call) n k = absurd n
      other_kept lost (Txn m q) n k = absurd n
      other_kept lost (Commit m) n k = absurd n
      other_kept lost (Close b gone other) n k = absurd n
      other_kept lost x n k = k

-- so nothing that is lost is known to lives that aren't out
pub kept_from : (head : Head) (t : ℕ) (r : Resource) (past : List Line) → Grown head past → (out lost : ℕ → Bool)
    → Spares head.osts out lost (only t past) → KeptFor out lost (story t r past)
kept_from head t r [] g out lost s = tt
kept_from head t r (l ∷ past) g out lost s = kept_line head t r l past g out (λ other k. kept_from head t r past g.1 out other k) lost s
