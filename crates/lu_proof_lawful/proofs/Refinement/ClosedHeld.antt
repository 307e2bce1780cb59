-- What a close of a window makes of one object: whose lives stay holds in the story just the locks that the close restores, awaits none,
-- and has
-- heard nothing that is lost. So the close is allowed.
use Rattle.std.proofs.Common.{◌≡◌, ℕ, ◌<◌, Bool, true, false, List, [], ◌∷◌, Some, ◌⊎◌, inl, inr, ⊎_elim, refl, sym, subst, ap, ◌∙◌, arith}
use Rattle.std.specs.Prelude.{nat_eq, nat_lt, ◌||◌, if◌then◌else◌}
use Rattle.std.proofs.lemmas.Bool.{and_parts, or_parts, or_from, eqb-true, ltb-true}
use Rattle.lu_base.specs.declared.ids.Node.TheVariants.{Target}
use Rattle.lu_base.specs.declared.ids.Stamp.{Stamp}
use Rattle.lu_base.specs.declared.ids.Who.{Who}
use Rattle.lu_base.specs.declared.locks.Lock.{Lock as TableLock}
use Rattle.lu_base.specs.declared.locks.Resource.{Resource}
use Rattle.lu_msg.specs.declared.messages.Reply.{Reply as ReplyTo}
use Rattle.lu_spec_entries.specs.Carried.{Flight, Said, Outcome}
use Rattle.lu_spec_entries.specs.Words as word
use Rattle.lu_spec_entries.specs.Words.{Line, line}
use Rattle.lu_spec_entries.specs.Concerns.{only}
use Rattle.lu_spec_target.specs.Lives.{is_life, lives_of as lives_in}
use Rattle.lu_spec_target.specs.Windows.{word_of, kept_numbers}
use Rattle.lu_proof_lawful.specs.Covered.TargetStates.{server_of, evicted_of, words_of, window_of}
use Rattle.lu_proof_lawful.specs.Covered.TargetCloses.{outcome_of, loses}
use Rattle.lu_proof_lawful.specs.Covered.Heads.{Head}
use Rattle.lu_proof_lawful.proofs.Preconditions.Guards.{In, HeardAs}
use Rattle.lu_proof_lawful.proofs.Preconditions.StoryGuards.{CloseOk}
use Rattle.lu_proof_lawful.proofs.Preconditions.CloseLists.{stays_back}
use Rattle.lu_proof_lawful.proofs.Preconditions.Lists.{self, turn, life_is}
use Rattle.lu_proof_lawful.proofs.Invariants.Groups.{HoldsAt}
use Rattle.lu_proof_lawful.proofs.Invariants.TargetGroups.{Flew, SawIn, HasSlot, Had, Evicted, told_of}
use Rattle.lu_proof_lawful.proofs.Invariants.Exact.{stays_is}
use Rattle.lu_proof_lawful.proofs.Invariants.Keeps.{heard_flew, saw_flew}
use Rattle.lu_proof_lawful.proofs.Invariants.LocksClose.{back_word, told_restored, restored_told}
use Rattle.lu_proof_lawful.proofs.Invariants.RecoversTold.{recovers_below}
use Rattle.lu_proof_bytes.specs.Object.Words.{Lock, Entry}
use Rattle.lu_proof_bytes.specs.Object.Folds.{HeldBy, awaits}
use Rattle.lu_proof_bytes.specs.Object.Folds as says
use Rattle.lu_proof_bytes.specs.Object.Guards.{KeptFor, Allowed}
use Rattle.lu_proof_lawful.specs.Projection.Lives.{number_of}
use Rattle.lu_proof_lawful.specs.Projection.Locks.{lock_of}
use Rattle.lu_proof_lawful.specs.Projection.Requests.{among}
use Rattle.lu_proof_lawful.specs.Projection.Closes.{lost_by, kept_of, gone_of, closes}
use Rattle.lu_proof_lawful.specs.Projection.Stories.{story}
use Rattle.lu_proof_lawful.proofs.Refinement.TiedWord.{SentWord, HoldsJust}
use Rattle.lu_proof_lawful.proofs.Refinement.Tied.{Here, Grows}
use Rattle.lu_proof_lawful.proofs.Refinement.Stood.{grown_now}
use Rattle.lu_proof_lawful.proofs.Refinement.ClosedCommits.{committed_of}
use Rattle.lu_proof_lawful.proofs.Refinement.TargetCloses.{gone_is}
use Rattle.lu_proof_lawful.proofs.Refinement.KeptLines.{Spared, kept_from, committed_same}

-- ---- words

-- the word of a life is among those that were taken
word_in : (who : Who) (words : List Said) (w : Said) → word_of who words ≡ Some w → In w words × (w.who ≡ who)
word_in who [] w e = absurd (cc)
word_in who (x ∷ words) w e = by (word.same_life x.who who) refl e (word_in who words w)
  where
    by : (b : Bool) → word.same_life x.who who ≡ b → (if b then Some x else word_of who words) ≡ Some w
        → (word_of who words ≡ Some w → In w words × (w.who ≡ who)) → ((x ≡ w) ⊎ In w words) × (w.who ≡ who)
    by true t q ih = let same : x ≡ w = cc in (inl same, subst (λ (y : Said). y.who ≡ who) same (life_is x.who who t))
    by false t q ih = let r = ih q in (inr r.0, r.1)

-- ---- a close

module _ (head : Head) (t : ℕ) (r : Resource) (stamp : Stamp) (o : Outcome) (past : List Line)
    (here : Here head t r (line (turn stamp (Target t)) (word.Close o)) past) where
  abbrev P : List Line
  P = only t past

  abbrev h : List Entry
  h = story t r past

  at : HoldsAt head P
  at = here.stood.before.at t

  ok : CloseOk head P (turn stamp (Target t)) o
  ok = here.stood.ok.of t (self t)

  -- who is evicted by it, or was before
  abbrev pub out : ℕ → Bool
  out w = among (gone_of o.gone) w || says.evicted w h

  -- what it loses
  abbrev pub lost : ℕ → Bool
  lost = lost_by (says.committed h) o.boot (kept_of o.kept)

  -- a life that stays has a slot, and holds what it held when it was told the boot
  pub record StaysAs (who : Who) : Type 0 where
    pub has : HasSlot head.clients P who
    pub stays : is_life who (lives_in o.gone) ≡ false
    pub held : HoldsJust r h who (told_of who P)

  pub stays_as : (who : Who) → Had head.clients P who → out (number_of who) ≡ false → StaysAs who
  stays_as who had in_it =
      let p = or_parts (among (gone_of o.gone) (number_of who)) (says.evicted (number_of who) h) in_it in
      let stays : is_life who (lives_in o.gone) ≡ false = sym (gone_is o.gone who) ∙ p.0 in
      let evicted : is_life who (evicted_of P) ≡ false = sym (here.tied.target.evicted who) ∙ p.1 in
      let has : HasSlot head.clients P who = ⊎_elim (λ (s : HasSlot head.clients P who). s) (λ (x : Evicted P who). absurd (cc)) had in
      record { has = has; stays = stays; held = here.tied.word.word ok.recovers who has (sent has stays) }
    where
      sent : HasSlot head.clients P who → is_life who (lives_in o.gone) ≡ false → SentWord P who (server_of head.osts P).boot
      sent has stays =
          let v = window_of head.osts head.clients P in
          let back = (stays_back v (kept_numbers v) v.lives who has
          (subst (λ (x : Outcome). is_life who (lives_in x.gone) ≡ false) ok.is stays)).0 in
          let w = back_word v who back in
          let i = word_in who (words_of P) w.0 w.1 in
          subst (λ (x : Who). SentWord P x (server_of head.osts P).boot) i.1 (here.tied.word.said w.0 i.0)

  -- whose lives stay holds is restored
  pub closed_held : (m : Lock) → HeldBy h m → out m.life ≡ false → (l : TableLock) × In l o.locks × (l.resource ≡ r) × (lock_of l ≡ m)
  closed_held m i in_it =
      let g = here.tied.word.given m i in
      let life : number_of g.1.ask.who ≡ m.life = ap (λ (y : Lock). y.life) g.4 in
      let had : Had head.clients P g.1.ask.who = subst (Had head.clients P) (sym (at.locks.whose g.0 g.1 g.2)) (at.lives.acted g.0 g.2.0) in
      let s = stays_as g.1.ask.who had (ap out life ∙ in_it) in
      let a = s.held.among m i (sym life) in
      (a.0, restored g.1.ask.who s.has s.stays a.0 a.1, a.2, a.3)
    where
      restored : (who : Who) → HasSlot head.clients P who → is_life who (lives_in o.gone) ≡ false → (l : TableLock) → In l (told_of who P)
          → In l o.locks
      restored who has stays l j =
          subst (λ (x : Outcome). In l x.locks) (sym ok.is) (told_restored head P stamp t ok.recovers ok.of_removed at who has
          (subst (λ (x : Outcome). is_life who (lives_in x.gone) ≡ false) ok.is stays) l j)

  -- and what is restored is held by a life that stays
  pub closed_back : (l : TableLock) → In l o.locks → l.resource ≡ r → HeldBy h (lock_of l) × (out (number_of l.ask.who) ≡ false)
  closed_back l i on =
      let b = restored_told head P stamp t ok.recovers ok.of_removed at l (subst (λ (x : Outcome). In l x.locks) ok.is i) in
      let gone : is_life l.ask.who (lives_in o.gone) ≡ false = subst (λ (x : Outcome). is_life l.ask.who (lives_in x.gone) ≡ false)
      (sym ok.is) b.1 in
      let in_it : out (number_of l.ask.who) ≡ false = or_from (among (gone_of o.gone) (number_of l.ask.who))
      (says.evicted (number_of l.ask.who) h) (gone_is o.gone l.ask.who ∙ gone)
      (not_evicted l.ask.who b.0 (says.evicted (number_of l.ask.who) h) refl) in
      let s = stays_as l.ask.who (inl b.0) in_it in
      (s.held.held l b.2 on, in_it)
    where
      not_evicted : (who : Who) → HasSlot head.clients P who → (b : Bool) → says.evicted (number_of who) h ≡ b → b ≡ false
      not_evicted who has true e = let less = at.lives.apart who who has (sym (here.tied.target.evicted who) ∙ e) refl
          in absurd (omega (arith, less))
      not_evicted who has false e = refl

  -- who stays awaits none
  pub closed_forgot : (c k : ℕ) → out c ≡ false → awaits c k h ≡ false
  closed_forgot c k in_it = by (awaits c k h) refl
    where
      by : (b : Bool) → awaits c k h ≡ b → b ≡ false
      by true e =
          let a = here.tied.word.awaited c k e in
          let s = stays_as a.0 (at.lives.flew a.0 a.2 a.3) (ap out a.1 ∙ in_it) in
          let none : awaits c k h ≡ false = subst (λ n. awaits n k h ≡ false) a.1 (s.held.forgot k) in
          absurd (cc)
      by false e = refl

  -- what the story says is committed is so
  pub here_committed : says.committed h ≡ committed_of head.osts P
  here_committed = committed_same head t r (line (turn stamp (Target t)) (word.Close o)) past
      (grown_now head (line (turn stamp (Target t)) (word.Close o)) past here.stood) out o refl refl

  -- nothing of what is lost is known to who stays
  pub closed_kept : KeptFor out lost h
  closed_kept = kept_from head t r past here.stood.grown out lost (record { low = low; heard = heard; saw = saw })
    where
      same : (n : ℕ) → lost n ≡ loses (committed_of head.osts P) o n
      same n = ap (λ m. lost_by m o.boot (kept_of o.kept) n) here_committed

      low : (n : ℕ) → lost n ≡ true → committed_of head.osts P < n
      low n e = ltb-true (committed_of head.osts P) n (and_parts (nat_lt (committed_of head.osts P) n) _ (sym (same n) ∙ e)).0

      -- what was heard or seen isn't lost now, nor was it before
      now : (n : ℕ) → loses (committed_of head.osts P) (outcome_of head.osts head.clients (turn stamp (Target t)) P) n ≡ false → lost n
          ≡ false
      now n e = same n ∙ ap (λ (x : Outcome). loses (committed_of head.osts P) x n) ok.is ∙ e

      stays : (who : Who) → (f : Flight) × Flew P who f → out (number_of who) ≡ false → StaysAs who
      stays who f in_it = stays_as who (at.lives.flew who f.0 f.1) in_it

      kept_then : (who : Who) → StaysAs who → is_life who (lives_in (outcome_of head.osts head.clients (turn stamp (Target t)) P).gone)
          ≡ false
      kept_then who s = subst (λ (x : Outcome). is_life who (lives_in x.gone) ≡ false) ok.is s.stays

      heard : (who : Who) (f : Flight) (p : ReplyTo) → HeardAs P who f p → out (number_of who) ≡ false → Spared head.osts lost P p.txn.0
      heard who f p a in_it =
          let s = stays who (heard_flew head.osts head.clients P at.done who f p a) in_it in (
            now p.txn.0 ((stays_is head P ok.recovers at (turn stamp (Target t)) who s.has (kept_then who s)).0 f p a),
            λ m. (at.history.heard who f p a s.has).0,
          )

      saw : (who : Who) (n : ℕ) → SawIn P who n → out (number_of who) ≡ false → Spared head.osts lost P n
      saw who n a in_it =
          let s = stays who (saw_flew head.osts head.clients P at.done at.keeps who n a) in_it in (
            now n ((stays_is head P ok.recovers at (turn stamp (Target t)) who s.has (kept_then who s)).1 n a),
            λ m. at.history.held who n a s.has,
          )

  pub closed_newer : says.closed h < o.boot
  closed_newer =
      let lt = recovers_below head.osts P at.phase ok.recovers in
      let same = here.tied.target.closed in
      let boot : o.boot ≡ (server_of head.osts P).boot = ap (λ (x : Outcome). x.boot) ok.is in
      omega (arith, lt, same, boot)

  pub close_allowed : Allowed h (closes h o)
  close_allowed = record { newer = closed_newer; kept = closed_kept; forgot = closed_forgot }

-- the close of a window is an allowed entry, if the target is the object's, and no entry otherwise
pub close_grows : (head : Head) (t : ℕ) (r : Resource) (stamp : Stamp) (u : ℕ) (o : Outcome) (past : List Line)
    → Here head t r (line (turn stamp (Target u)) (word.Close o)) past
    → Grows (story t r past) (story t r (line (turn stamp (Target u)) (word.Close o) ∷ past))
close_grows head t r stamp u o past here = by (nat_eq t u) refl
  where
    by : (b : Bool) → nat_eq t u ≡ b → Grows (story t r past) (if b then closes (story t r past) o ∷ story t r past else story t r past)
    by true e = inr (
      closes (story t r past) o,
      refl,
      close_allowed head t r stamp o past
          (subst (λ v. Here head t r (line (turn stamp (Target v)) (word.Close o)) past) (sym (eqb-true t u e)) here),
    )
    by false e = inl refl
