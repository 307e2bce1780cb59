-- What a close keeps is exactly what its lives could replay and what saw only that; what it loses is the rest; who leaves is absent, has a
-- newer
-- life that joins, or heard or saw something lost.
use Rattle.std.proofs.Common.{◌≡◌, ℕ, suc, ◌<◌, ◌≤◌, Bool, true, false, List, [], ◌∷◌, Option, Some, None, ◌⊎◌, inl, inr, ⊎_elim, refl, sym}
use Rattle.std.proofs.Common.{subst, ap, ◌∙◌, arith}
use Rattle.std.specs.Prelude.{length, not, nat_lt, nat_le, nat_eq, ◌&&◌, ◌||◌, filter, map}
use Rattle.std.proofs.lemmas.Bool.{eqb-true, eqb-false, ltb-true, lt-ltb, le-ltb, leb-true, and_parts, and_from, or_cases, or_parts}
use Rattle.std.proofs.lemmas.Bool.{or_left, or_right, not-true, not-false, not_from_false}
use Rattle.std.proofs.lemmas.Bool.Decides.{nat_tests}
use Rattle.lu_base.specs.declared.ids.At.{At}
use Rattle.lu_base.specs.declared.ids.Txn.{Txn as TxnOf}
use Rattle.lu_base.specs.declared.ids.Who.{Who}
use Rattle.lu_base.specs.declared.locks.Cause.{Cause}
use Rattle.lu_base.specs.declared.locks.Cause.TheVariants.{Absent, Gap}
use Rattle.lu_msg.specs.declared.messages.Reply.{Reply as ReplyTo}
use Rattle.lu_msg.specs.declared.operations.Op.{Op}
use Rattle.lu_spec_entries.specs.Carried.{Deed, Flight, Said, Gone, Contents, Outcome}
use Rattle.lu_spec_entries.specs.Words.{Line, same_life}
use Rattle.lu_spec_client.specs.Imports.{Replay, replay_of}
use Rattle.lu_spec_target.specs.Lives.{is_life, life_before, lives_of as lives_in}
use Rattle.lu_spec_target.specs.Outcomes.{deed_again, deeds_again}
use Rattle.lu_spec_target.specs.Phase.{first_of}
use Rattle.lu_spec_target.specs.States.{Target as TargetOf}
use Rattle.lu_spec_target.specs.Stored.{transaction_of, done}
use Rattle.lu_spec_target.specs.Windows.{Replayed, Window, replay_before, cut_seen, word_of, has_all, is_back, is_left, has_number, misses}
use Rattle.lu_spec_target.specs.Windows.{is_kept, kept_numbers, is_lost, has_lost, word_misses, has_gap, gone_with, gone_from}
use Rattle.lu_spec_target.specs.Windows.{kept_of as kept_among}
use Rattle.lu_proof_lawful.specs.Covered.ClientStates.{kept_of}
use Rattle.lu_proof_lawful.specs.Covered.Heads.{Head}
use Rattle.lu_proof_lawful.specs.Covered.TargetCloses.{disk_of, recovering_of, outcome_of, loses}
use Rattle.lu_proof_lawful.specs.Covered.TargetCloses.{kept_numbers as numbers_of}
use Rattle.lu_proof_lawful.specs.Covered.TargetStates.{server_of, lives_of, closed_of, replays_of, words_of, window_of}
use Rattle.lu_proof_lawful.proofs.Preconditions.Guards.{In}
use Rattle.lu_proof_lawful.proofs.Preconditions.StoryGuards.{IsRecovering}
use Rattle.lu_proof_lawful.proofs.Preconditions.Lists.{in_filter, in_filtered, life_is, life_self}
use Rattle.lu_proof_lawful.proofs.Preconditions.LifeLists.{life_stands, stands_life, filter_all}
use Rattle.lu_proof_lawful.proofs.Preconditions.ClientLocks.{in_map, in_mapped, any_true, any_passes}
use Rattle.lu_proof_lawful.proofs.Invariants.Groups.{HeardAs, ReplayedRise, HoldsAt}
use Rattle.lu_proof_lawful.proofs.Invariants.TargetGroups.{Acted, SawIn, HasSlot, IsMade, Stands}
use Rattle.lu_proof_lawful.proofs.Invariants.Keeps.{saw_done}
use Rattle.lu_proof_lawful.proofs.Invariants.Pigeons.{all_there}
use Rattle.lu_proof_lawful.proofs.Invariants.ExactLists.{has_in, in_has, has_same, AllStand, none_missed, missed_is, none_misses}
use Rattle.lu_proof_lawful.proofs.Invariants.ExactLists.{NumbersRise, kept_of_one, kept_by_all, rises_distinct}

-- what a close at that past keeps, by number
abbrev pub kept_then : Head → List Line → List ℕ
kept_then head past = kept_numbers (window_of head.osts head.clients past)

abbrev pub committed_then : Head → List Line → ℕ
committed_then head past = (server_of head.osts past).committed.0

-- the life is back there
abbrev pub IsBack : Head → List Line → Who → Type 0
IsBack head past who = is_back (window_of head.osts head.clients past) who ≡ true

-- what a deed's replay is
abbrev pub replay_by : Deed → Replayed
replay_by d = record { who = d.reply.who; number = d.reply.txn.0; xid = d.reply.xid.0; tag = d.tag; seen = d.reply.seen; op = d.op }

-- its life heard the reply to it
abbrev pub HeardBy : List Line → Deed → Type 0
HeardBy past d = (f : Flight) × (r : ReplyTo) × HeardAs past d.reply.who f r
    × (r ≡ record d.reply { boot = r.boot; committed = r.committed })

-- it was done, as a transaction that stands, and a life with a slot heard of it
pub record Stood (head : Head) (past : List Line) (d : Deed) : Type 0 where
  pub acted : Acted past d
  pub made : IsMade d
  pub stands : Stands head.osts past d
  pub heard : HeardBy past d
  pub has : HasSlot head.clients past d.reply.who

txn_is : (a b : TxnOf) → a.0 ≡ b.0 → a ≡ b
txn_is a b e = ap (λ (n : ℕ). txn n) e
  where
    txn : ℕ → TxnOf
    txn n = record { 0 = n }

same_replay : (a b : Who) (m n x y s t : ℕ) (ms ns : List ℕ) (o p : Op) → a ≡ b → m ≡ n → x ≡ y → s ≡ t → ms ≡ ns → o ≡ p
    → ◌≡◌ {A = Replayed} (record { who = a; number = m; xid = x; tag = s; seen = ms; op = o })
    (record { who = b; number = n; xid = y; tag = t; seen = ns; op = p })
same_replay a b m n x y s t ms ns o p e1 e2 e3 e4 e5 e6 = rw (e1, e2, e3, e4, e5, e6) refl

length_map : {A : Type 0} {B : Type 0} (f : A → B) (xs : List A) → length (map {A = A} {B = B} f xs) ≡ length xs
length_map f [] = refl
length_map f (x ∷ xs) = ap suc (length_map f xs)

-- the numbers of the kept replays, done again
pub again_numbers : (v : TargetOf) (at : At) (c : Contents) (rs : List Replayed)
    → map {A = Deed} {B = ℕ} (λ d. d.reply.txn.0) (deeds_again v at c rs) ≡ map {A = Replayed} {B = ℕ} (λ r. r.number) rs
again_numbers v at c [] = refl
again_numbers v at c (r ∷ rs) = ap (λ (ns : List ℕ). r.number ∷ ns)
    (again_numbers v at (done v.setting.osts c (transaction_of (deed_again v at c r))) rs)

-- why a life leaves
abbrev pub GoneFor : Window → List ℕ → Who → Cause → Type 0
GoneFor v kept who Absent = (not (is_back v who) || is_left v who) ≡ true
GoneFor v kept who Gap = ((not (is_back v who) || is_left v who) ≡ false) × (has_gap v kept who ≡ true)
GoneFor v kept who _ = ⊥

pub gone_in : (v : Window) (kept : List ℕ) (lives : List Who) (g : Gone) → In g (gone_from v kept lives) → In g.who lives
    × GoneFor v kept g.who g.cause
gone_in v kept [] g i = absurd i
gone_in v kept (who ∷ lives) g i = by (not (is_back v who) || is_left v who) (has_gap v kept who) refl refl i (gone_in v kept lives g)
  where
    by : (a b : Bool) → (not (is_back v who) || is_left v who) ≡ a → has_gap v kept who ≡ b
        → In g (gone_with a b who (gone_from v kept lives)) → (In g (gone_from v kept lives) → In g.who lives
        × GoneFor v kept g.who g.cause)
        → In g.who (who ∷ lives) × GoneFor v kept g.who g.cause
    by true b p q (inl e) later = subst (λ (x : Gone). In x.who (who ∷ lives) × GoneFor v kept x.who x.cause) e (inl refl, p)
    by true b p q (inr j) later = let r = later j in (inr r.0, r.1)
    by false true p q (inl e) later = subst (λ (x : Gone). In x.who (who ∷ lives) × GoneFor v kept x.who x.cause) e (inl refl, (p, q))
    by false true p q (inr j) later = let r = later j in (inr r.0, r.1)
    by false false p q j later = let r = later j in (inr r.0, r.1)

pub in_gone : (v : Window) (kept : List ℕ) (lives : List Who) (who : Who) (cause : Cause) → In who lives → GoneFor v kept who cause
    → In (record { who = who; cause = cause }) (gone_from v kept lives)
in_gone v kept [] who cause i g = absurd i
in_gone v kept (x ∷ lives) who cause i g = by (not (is_back v x) || is_left v x) (has_gap v kept x) refl refl i
    (λ j. in_gone v kept lives who cause j g)
  where
    gone : Gone
    gone = record { who = who; cause = cause }

    first : (a b : Bool) (cause : Cause) → (not (is_back v x) || is_left v x) ≡ a → has_gap v kept x ≡ b → x ≡ who
        → GoneFor v kept who cause → In (record { who = who; cause = cause }) (gone_with a b x (gone_from v kept lives))
    first true b Absent p q e g = inl (ap (λ (w : Who). record { who = w; cause = Absent }) e)
    first false b Absent p q e g = let z : (not (is_back v x) || is_left v x) ≡ true = ap (λ (w : Who). not (is_back v w) || is_left v w) e
        ∙ g in absurd (cc)
    first true b Gap p q e g = let z : (not (is_back v x) || is_left v x) ≡ false = ap (λ (w : Who). not (is_back v w) || is_left v w) e
        ∙ g.0 in absurd (cc)
    first false true Gap p q e g = inl (ap (λ (w : Who). record { who = w; cause = Gap }) e)
    first false false Gap p q e g = let z : has_gap v kept x ≡ true = ap (has_gap v kept) e ∙ g.1 in absurd (cc)
    first a b _ p q e g = absurd g

    by : (a b : Bool) → (not (is_back v x) || is_left v x) ≡ a → has_gap v kept x ≡ b → In who (x ∷ lives)
        → (In who lives → In gone (gone_from v kept lives)) → In gone (gone_with a b x (gone_from v kept lives))
    by a b p q (inl e) later = first a b cause p q e g
    by true b p q (inr j) later = inr (later j)
    by false true p q (inr j) later = inr (later j)
    by false false p q (inr j) later = later j

-- who has a slot and doesn't leave is back, none of its client joins, and it has no gap
pub stays_for : (v : Window) (kept : List ℕ) (lives : List Who) (who : Who) → In who lives → is_life who (lives_in (gone_from v kept lives))
    ≡ false → (is_back v who ≡ true) × (is_left v who ≡ false) × (has_gap v kept who ≡ false)
stays_for v kept lives who i stays = by (not (is_back v who) || is_left v who) (has_gap v kept who) refl refl
  where
    out : (cause : Cause) → GoneFor v kept who cause → ⊥
    out cause g = let z = life_stands who (lives_in (gone_from v kept lives))
        (in_mapped (λ (x : Gone). x.who) (record { who = who; cause = cause }) (gone_from v kept lives)
        (in_gone v kept lives who cause i g)) in absurd (cc)

    by : (a b : Bool) → (not (is_back v who) || is_left v who) ≡ a → has_gap v kept who ≡ b → (is_back v who ≡ true)
        × (is_left v who ≡ false) × (has_gap v kept who ≡ false)
    by true b p q = absurd (out Absent p)
    by false true p q = absurd (out Gap (p, q))
    by false false p q = let r = or_parts (not (is_back v who)) (is_left v who) p in (not-false (is_back v who) r.0, r.1, q)

module _ (head : Head) (past : List Line) (recovers : IsRecovering head.osts past) (h : HoldsAt head past) where
  -- what was done is of an earlier boot
  pub below_boot : (d : Deed) → Acted past d → IsMade d → d.reply.txn.0 < first_of (server_of head.osts past).boot
  below_boot d acted made =
      let n = h.done.numbers d acted made in
      let b = h.done.boots d acted in
      let ne = eqb-false (closed_of past) (server_of head.osts past).boot recovers in
      let le = h.phase.under in
      let top = n.1 in
      let low = b.1 in
      omega arith

  -- each replay is that of a deed that stands, of which its life heard
  pub replay_done : (r : Replayed) → In r (replays_of past) → (d : Deed) × Stood head past d × (r ≡ replay_by d)
  replay_done r i =
      let a = h.recovers.replays recovers r i in
      let k = h.keeps.kept_replay r.who a.2.0 a.2.1 in
      let d = h.done.answered r.who k.0 k.1 k.2 in
      let txn : k.1.txn.0 ≡ d.0.reply.txn.0 = ap (λ (x : ReplyTo). x.txn.0) d.2 in
      let made : IsMade d.0 = subst (λ (n : ℕ). 0 < n) txn k.4 in
      let who : r.who ≡ d.0.reply.who = sym d.3 ∙ ap (λ (x : ReplyTo). x.who) d.2 in
      let cut : filter (λ n. nat_lt n d.0.reply.txn.0) d.0.reply.seen ≡ d.0.reply.seen =
      filter_all (λ n. nat_lt n d.0.reply.txn.0) d.0.reply.seen (λ n j. lt-ltb n d.0.reply.txn.0 ((h.history.saw d.0 n d.1 j).1 made))
      in (
        d.0,
        record {
          acted = d.1;
          made = made;
          stands = subst (λ n. Stands head.osts past (record d.0 { reply = record d.0.reply { txn = n } }))
              (ap (λ (x : ReplyTo). x.txn) d.2) (h.history.heard r.who k.0 k.1 k.2 a.0).0;
          heard = (k.0, k.1, subst (λ (w : Who). HeardAs past w k.0 k.1) who k.2, d.2);
          has = subst (λ (w : Who). HasSlot head.clients past w) who a.0;
        },
        a.2.2
            ∙ ap (λ (x : Replay). cut_seen (record { who = r.who; number = x.txn.0; xid = x.xid.0; tag = x.tag; seen = x.seen; op = x.op }))
            k.3
            ∙ ap (λ (x : ReplyTo). cut_seen (record {
              who = r.who;
              number = x.txn.0;
              xid = x.xid.0;
              tag = k.0.tag;
              seen = x.seen;
              op =
                  k.0.op;
            })) d.2
            ∙ same_replay r.who d.0.reply.who d.0.reply.txn.0 d.0.reply.txn.0 d.0.reply.xid.0 d.0.reply.xid.0 k.0.tag d.0.tag
            (filter (λ n. nat_lt n d.0.reply.txn.0) d.0.reply.seen) d.0.reply.seen k.0.op d.0.op who refl refl d.6 cut d.5,
      )

  -- a number names one deed
  pub one_deed : (d e : Deed) → Acted past d → Acted past e → IsMade d → d.reply.txn.0 ≡ e.reply.txn.0 → d ≡ e
  one_deed d e a b made same = h.done.single d e a b made (subst (λ (n : ℕ). 0 < n) same made) (txn_is d.reply.txn e.reply.txn same)

  rises : (rs : List Replayed) → ((r : Replayed) → In r rs → In r (replays_of past)) → ReplayedRise rs → NumbersRise rs
  rises [] sub rise = tt
  rises (r ∷ rs) sub rise = ((λ s i. after s i (rise.0 s i)), rises rs (λ s i. sub s (inr i)) rise.1)
    where
      after : (s : Replayed) → In s rs → replay_before r s ≡ true → r.number < s.number
      after s i before =
          let d = replay_done r (sub r (inl refl)) in
          let e = replay_done s (sub s (inr i)) in
          ⊎_elim
          (λ (lt : nat_lt r.number s.number ≡ true). ltb-true r.number s.number lt)
          (λ (eq : (nat_eq r.number s.number && life_before r.who s.who) ≡ true).
          let p = and_parts (nat_eq r.number s.number) (life_before r.who s.who) eq in
          let n : d.0.reply.txn.0 ≡ e.0.reply.txn.0 = ap (λ (x : Replayed). x.number) (sym d.2) ∙ eqb-true r.number s.number p.0
          ∙ ap (λ (x : Replayed). x.number) e.2 in
          let same : d.0 ≡ e.0 = one_deed d.0 e.0 d.1.acted e.1.acted d.1.made n in
          let who : r.who ≡ s.who = ap (λ (x : Replayed). x.who) d.2 ∙ ap (λ (x : Deed). x.reply.who) same
          ∙ ap (λ (x : Replayed). x.who) (sym e.2) in
          let t : life_before s.who s.who ≡ true = subst (λ (w : Who). life_before w s.who ≡ true) who p.1 in
          absurd (not_before s.who t))
          (or_cases (nat_lt r.number s.number) (nat_eq r.number s.number && life_before r.who s.who) before)
        where
          not_before : (w : Who) → life_before w w ≡ true → ⊥
          not_before w t = grind (arith, nat_tests)

  pub numbers_rise : NumbersRise (replays_of past)
  numbers_rise = rises (replays_of past) (λ r i. i) h.recovers.replays_rise

  saw_below : (r : Replayed) → In r (replays_of past) → (n : ℕ) → In n r.seen → n < r.number
  saw_below r i n j =
      let d = replay_done r i in
      subst (λ (x : Replayed). In n x.seen → n < x.number) (sym d.2) (λ k. (h.history.saw d.0 n d.1.acted k).1 d.1.made) j

  kept_by : (r : Replayed) → In r (replays_of past) → has_number r.number (kept_then head past)
      ≡ is_kept (window_of head.osts head.clients past) (kept_then head past) r
  kept_by r i = kept_by_all (window_of head.osts head.clients past) [] (replays_of past) numbers_rise saw_below (λ n j. absurd j) r i

  -- a replay is kept where it is above the committed number, its life is back, and all that it saw is committed or kept
  pub kept_is : (r : Replayed) → In r (replays_of past) → has_number r.number (kept_then head past) ≡ true
      → (committed_then head past < r.number) × IsBack head past r.who × AllStand (committed_then head past) (kept_then head past) r.seen
  kept_is r i t =
      let v = window_of head.osts head.clients past in
      let p = and_parts (nat_lt v.committed r.number) (is_back v r.who && not (misses v.committed (kept_then head past) r.seen))
      (sym (kept_by r i) ∙ t) in
      let q = and_parts (is_back v r.who) (not (misses v.committed (kept_then head past) r.seen)) p.1 in (
        ltb-true v.committed r.number p.0,
        q.0,
        none_missed v.committed (kept_then head past) r.seen
            (not-true (misses v.committed (kept_then head past) r.seen) q.1),
      )

  pub is_then_kept : (r : Replayed) → In r (replays_of past) → committed_then head past < r.number → IsBack head past r.who
      → AllStand (committed_then head past) (kept_then head past) r.seen → has_number r.number (kept_then head past) ≡ true
  is_then_kept r i above back seen =
      let v = window_of head.osts head.clients past in
      kept_by r i
      ∙ and_from (nat_lt v.committed r.number) (is_back v r.who && not (misses v.committed (kept_then head past) r.seen))
      (lt-ltb v.committed r.number above)
      (and_from (is_back v r.who) (not (misses v.committed (kept_then head past) r.seen)) back
      (not_from_false (misses v.committed (kept_then head past) r.seen) (none_misses v.committed (kept_then head past) r.seen seen)))

  -- each replay that a life that is back keeps was taken
  word_there : (who : Who) → IsBack head past who → (w : Said) × (word_of who (words_of past) ≡ Some w)
      × (w.replays ≤ length (filter (λ (r : Replayed). same_life r.who who) (replays_of past)))
  word_there who back = by (word_of who (words_of past)) refl back
    where
      by : (o : Option Said) → word_of who (words_of past) ≡ o → has_all (window_of head.osts head.clients past) who o ≡ true → (w : Said)
          × (word_of who (words_of past) ≡ Some w) × (w.replays ≤ length (filter (λ (r : Replayed). same_life r.who who) (replays_of past)))
      by None e t = absurd (cc)
      by (Some w) e t = (
        w,
        e,
        leb-true w.replays (length (filter (λ (r : Replayed). same_life r.who who) (replays_of past)))
            (and_parts (nat_le w.replays (length (filter (λ (r : Replayed). same_life r.who who) (replays_of past)))) _ t).0,
      )

  pub all_replayed : (who : Who) → IsBack head past who → (k : Replay) → In k (kept_of who past).replays → (r : Replayed)
      × In r (replays_of past) × (r.who ≡ who) × (r.number ≡ k.txn.0)
  all_replayed who back k i =
      let w = word_there who back in
      let said = h.recovers.words recovers who w.0 w.1 in
      let own : List Replayed = filter (λ (r : Replayed). same_life r.who who) (replays_of past) in
      let xs : List ℕ = map {A = Replayed} {B = ℕ} (λ (r : Replayed). r.number) own in
      let ys : List ℕ = map {A = Replay} {B = ℕ} (λ (x : Replay). x.txn.0) (kept_of who past).replays in
      let lx : length xs ≡ length own = length_map (λ (r : Replayed). r.number) own in
      let ly : length ys ≡ length (kept_of who past).replays = length_map (λ (x : Replay). x.txn.0) (kept_of who past).replays in
      let count : w.0.replays ≡ length (kept_of who past).replays = said.3.0 in
      let le = w.2 in
      let there = all_there xs ys (rises_distinct (λ (r : Replayed). same_life r.who who) (replays_of past) numbers_rise) sub (omega arith)
      k.txn.0 (in_mapped (λ (x : Replay). x.txn.0) k (kept_of who past).replays i) in
      let r = in_map (λ (r : Replayed). r.number) k.txn.0 own there in
      let f = in_filter (λ (r : Replayed). same_life r.who who) r.0 (replays_of past) r.1 in
      (r.0, f.0, life_is r.0.who who f.1, r.2)
    where
      sub : (n : ℕ) → In n (map {A = Replayed} {B = ℕ} (λ (r : Replayed). r.number)
          (filter (λ (r : Replayed). same_life r.who who) (replays_of past)))
          → In n (map {A = Replay} {B = ℕ} (λ (x : Replay). x.txn.0) (kept_of who past).replays)
      sub n j =
          let r = in_map (λ (r : Replayed). r.number) n (filter (λ (r : Replayed). same_life r.who who) (replays_of past)) j in
          let f = in_filter (λ (r : Replayed). same_life r.who who) r.0 (replays_of past) r.1 in
          let a = h.recovers.replays recovers r.0 f.0 in
          let number : r.0.number ≡ a.2.0.txn.0 = ap (λ (x : Replayed). x.number) a.2.2 in
          subst (λ (m : ℕ). In m (map {A = Replay} {B = ℕ} (λ (x : Replay). x.txn.0) (kept_of who past).replays)) (sym number ∙ r.2)
          (in_mapped (λ (x : Replay). x.txn.0) a.2.0 (kept_of who past).replays
          (subst (λ (w : Who). In a.2.0 (kept_of w past).replays) (life_is r.0.who who f.1) a.2.1))

  -- a kept number is that of a deed that stands above the committed number, of which its life heard, which is back; and all that it saw is
  -- committed or kept
  pub kept_made : (n : ℕ) → has_number n (kept_then head past) ≡ true → (d : Deed) × Stood head past d × (d.reply.txn.0 ≡ n)
      × (committed_then head past < n) × IsBack head past d.reply.who
      × AllStand (committed_then head past) (kept_then head past) d.reply.seen
  kept_made n t = ⊎_elim (λ (i : In n []). absurd i) of_one (kept_of_one (window_of head.osts head.clients past) n [] (replays_of past)
      (has_in n (kept_then head past) t))
    where
      of_one : ((r : Replayed) × In r (replays_of past) × (r.number ≡ n)) → (d : Deed) × Stood head past d × (d.reply.txn.0 ≡ n)
          × (committed_then head past < n) × IsBack head past d.reply.who
          × AllStand (committed_then head past) (kept_then head past) d.reply.seen
      of_one r =
          let d = replay_done r.0 r.1 in
          let k = kept_is r.0 r.1 (subst (λ (m : ℕ). has_number m (kept_then head past) ≡ true) (sym r.2) t) in (
            d.0,
            d.1,
            ap (λ (x : Replayed). x.number) (sym d.2) ∙ r.2,
            subst (λ (m : ℕ). committed_then head past < m) r.2 k.0,
            subst (λ (x : Replayed). IsBack head past x.who) d.2 k.1,
            subst (λ (x : Replayed). AllStand (committed_then head past) (kept_then head past) x.seen) d.2 k.2,
          )

  -- what a life that is back heard was replayed
  pub heard_replayed : (d : Deed) → Acted past d → IsMade d → HeardBy past d → committed_then head past < d.reply.txn.0
      → IsBack head past d.reply.who → (r : Replayed) × In r (replays_of past) × (r ≡ replay_by d)
  heard_replayed d acted made heard above back =
      let f = heard.0 in
      let r = heard.1 in
      let txn : r.txn.0 ≡ d.reply.txn.0 = ap (λ (x : ReplyTo). x.txn.0) heard.3 in
      let low = h.keeps.committed d.reply.who in
      ⊎_elim
      (λ (le : r.txn.0 ≤ (kept_of d.reply.who past).committed). absurd (omega arith))
      (λ (k : In (replay_of f r) (kept_of d.reply.who past).replays).
      let s = all_replayed d.reply.who back (replay_of f r) k in
      let e = replay_done s.0 s.1 in
      let same : e.0 ≡ d = one_deed e.0 d e.1.acted acted e.1.made (ap (λ (x : Replayed). x.number) (sym e.2) ∙ s.3 ∙ txn) in
      (s.0, s.1, e.2 ∙ ap replay_by same))
      (h.keeps.replay_kept d.reply.who f r heard.2 (subst (λ (n : ℕ). 0 < n) (sym txn) made))

  -- and the other way round
  pub made_kept : (d : Deed) → Acted past d → IsMade d → HeardBy past d → committed_then head past < d.reply.txn.0
      → IsBack head past d.reply.who → AllStand (committed_then head past) (kept_then head past) d.reply.seen
      → has_number d.reply.txn.0 (kept_then head past) ≡ true
  made_kept d acted made heard above back seen =
      let r = heard_replayed d acted made heard above back in
      ap (λ (x : Replayed). has_number x.number (kept_then head past)) (sym r.2)
      ∙ is_then_kept r.0 r.1 (subst (λ (x : Replayed). committed_then head past < x.number) (sym r.2) above)
      (subst (λ (x : Replayed). IsBack head past x.who) (sym r.2) back)
      (subst (λ (x : Replayed). AllStand (committed_then head past) (kept_then head past) x.seen) (sym r.2) seen)

  -- ---- what a close loses

  module _ (at : At) where
    abbrev pub outcome : Outcome
    outcome = outcome_of head.osts head.clients at past

    abbrev pub lost : ℕ → Bool
    lost n = loses (committed_then head past) outcome n

    pub kept_same : (n : ℕ) → has_number n (numbers_of outcome) ≡ has_number n (kept_then head past)
    kept_same n =
        ap (has_number n) (again_numbers (recovering_of head.osts head.clients past) at (disk_of head.osts head.clients past).contents
        (kept_among (kept_then head past) (replays_of past)))
        ∙ has_same n (map {A = Replayed} {B = ℕ} (λ (r : Replayed). r.number) (kept_among (kept_then head past) (replays_of past)))
        (kept_then head past) there back
      where
        there : In n (map {A = Replayed} {B = ℕ} (λ (r : Replayed). r.number) (kept_among (kept_then head past) (replays_of past)))
            → In n (kept_then head past)
        there i =
            let r = in_map (λ (r : Replayed). r.number) n (kept_among (kept_then head past) (replays_of past)) i in
            let f = in_filter (λ (r : Replayed). has_number r.number (kept_then head past)) r.0 (replays_of past) r.1 in
            subst (λ (m : ℕ). In m (kept_then head past)) r.2 (has_in r.0.number (kept_then head past) f.1)

        back : In n (kept_then head past) → In n (map {A = Replayed} {B = ℕ} (λ (r : Replayed). r.number)
            (kept_among (kept_then head past) (replays_of past)))
        back i = ⊎_elim
            (λ (z : In n []). absurd z)
            (λ (r : (r : Replayed) × In r (replays_of past) × (r.number ≡ n)).
            subst (λ (m : ℕ). In m (map {A = Replayed} {B = ℕ} (λ (r : Replayed). r.number)
            (kept_among (kept_then head past) (replays_of past)))) r.2
            (in_mapped (λ (r : Replayed). r.number) r.0 (kept_among (kept_then head past) (replays_of past))
            (in_filtered (λ (r : Replayed). has_number r.number (kept_then head past)) r.0 (replays_of past) r.1
            (subst (λ (m : ℕ). has_number m (kept_then head past) ≡ true) (sym r.2) (in_has n (kept_then head past) i)))))
            (kept_of_one (window_of head.osts head.clients past) n [] (replays_of past) i)

    -- what is lost is above the committed number, of an earlier boot, and isn't kept
    pub lost_parts : (n : ℕ) → lost n ≡ true → (committed_then head past < n) × (has_number n (kept_then head past) ≡ false)
    lost_parts n t =
        let p = and_parts (nat_lt (committed_then head past) n)
        (nat_lt n (first_of outcome.boot) && not (has_number n (numbers_of outcome))) t in
        let q = and_parts (nat_lt n (first_of outcome.boot)) (not (has_number n (numbers_of outcome))) p.1 in
        (ltb-true (committed_then head past) n p.0, sym (kept_same n) ∙ not-true (has_number n (numbers_of outcome)) q.1)

    pub lost_from : (n : ℕ) → committed_then head past < n → n < first_of (server_of head.osts past).boot
        → has_number n (kept_then head past) ≡ false → lost n ≡ true
    lost_from n above below out =
        and_from (nat_lt (committed_then head past) n) (nat_lt n (first_of outcome.boot) && not (has_number n (numbers_of outcome)))
        (lt-ltb (committed_then head past) n above)
        (and_from (nat_lt n (first_of outcome.boot)) (not (has_number n (numbers_of outcome))) (lt-ltb n (first_of outcome.boot) below)
        (not_from_false (has_number n (numbers_of outcome)) (kept_same n ∙ out)))

    pub low_stays : (n : ℕ) → n ≤ committed_then head past → lost n ≡ false
    low_stays n le = ap (λ (b : Bool). b && (nat_lt n (first_of outcome.boot) && not (has_number n (numbers_of outcome))))
        (le-ltb (committed_then head past) n le)

    pub kept_stays : (n : ℕ) → has_number n (kept_then head past) ≡ true → lost n ≡ false
    kept_stays n k = by (lost n) refl
      where
        by : (b : Bool) → lost n ≡ b → b ≡ false
        by false e = refl
        by true e = let z = (lost_parts n e).1 in absurd (cc)

    pub all_stay : (ns : List ℕ) → AllStand (committed_then head past) (kept_then head past) ns → (n : ℕ) → In n ns → lost n ≡ false
    all_stay ns s n i = ⊎_elim (λ (le : n ≤ committed_then head past). low_stays n le)
        (λ (k : has_number n (kept_then head past) ≡ true). kept_stays n k) (s n i)

    -- a deed above the committed number is lost exactly where it isn't kept
    pub lost_is : (d : Deed) → Acted past d → IsMade d → committed_then head past < d.reply.txn.0 → lost d.reply.txn.0
        ≡ not (has_number d.reply.txn.0 (kept_then head past))
    lost_is d acted made above = by (has_number d.reply.txn.0 (kept_then head past)) refl
      where
        by : (b : Bool) → has_number d.reply.txn.0 (kept_then head past) ≡ b → lost d.reply.txn.0 ≡ not b
        by true k = kept_stays d.reply.txn.0 k
        by false k = lost_from d.reply.txn.0 above (below_boot d acted made) k

    -- ---- who leaves

    -- that life heard something lost, or saw something lost
    abbrev pub HeardLost : Who → Type 0
    HeardLost who = ((f : Flight) × (r : ReplyTo) × HeardAs past who f r × (lost r.txn.0 ≡ true))
        ⊎ ((n : ℕ) × SawIn past who n × (lost n ≡ true))

    -- what was seen above the committed number is of an earlier boot
    seen_below : (who : Who) (n : ℕ) → SawIn past who n → committed_then head past < n → n < first_of (server_of head.osts past).boot
    seen_below who n saw above =
        ⊎_elim
        (λ (le : n ≤ committed_then head past). absurd (omega arith))
        (λ (e : (e : Deed) × Acted past e × IsMade e × (e.reply.txn.0 ≡ n)). subst (λ (m : ℕ). m < first_of (server_of head.osts past).boot)
        e.3 (below_boot e.0 e.1 e.2))
        (saw_done head past h who n saw)

    pub gap_lost : (who : Who) → IsBack head past who → has_gap (window_of head.osts head.clients past) (kept_then head past) who ≡ true
        → HeardLost who
    gap_lost who back gap = ⊎_elim of_replay of_word (or_cases (has_lost v.committed (kept_then head past) v.replays who)
        (word_misses v.committed (kept_then head past) (word_of who v.words)) gap)
      where
        v : Window
        v = window_of head.osts head.clients past

        of_replay : has_lost (committed_then head past) (kept_then head past) (replays_of past) who ≡ true → HeardLost who
        of_replay t =
            let a = any_true (λ (r : Replayed). same_life r.who who && is_lost (committed_then head past) (kept_then head past) r)
            (replays_of past) t in
            let p = and_parts (same_life a.0.who who) (is_lost (committed_then head past) (kept_then head past) a.0) a.2 in
            let q = and_parts (nat_lt (committed_then head past) a.0.number) (not (has_number a.0.number (kept_then head past))) p.1 in
            let d = replay_done a.0 a.1 in
            let number : a.0.number ≡ d.1.heard.1.txn.0 = ap (λ (x : Replayed). x.number) d.2
            ∙ sym (ap (λ (x : ReplyTo). x.txn.0) d.1.heard.3) in
            let who_is : d.0.reply.who ≡ who = ap (λ (x : Replayed). x.who) (sym d.2) ∙ life_is a.0.who who p.0 in
            let below : a.0.number < first_of (server_of head.osts past).boot =
            subst (λ (x : Replayed). x.number < first_of (server_of head.osts past).boot) (sym d.2) (below_boot d.0 d.1.acted d.1.made)
            in inl (
              d.1.heard.0,
              d.1.heard.1,
              subst (λ (w : Who). HeardAs past w d.1.heard.0 d.1.heard.1) who_is d.1.heard.2,
              subst (λ (m : ℕ). lost m ≡ true) number (lost_from a.0.number (ltb-true (committed_then head past) a.0.number q.0) below
                  (not-true (has_number a.0.number (kept_then head past)) q.1)),
            )

        of_word : word_misses (committed_then head past) (kept_then head past) (word_of who (words_of past)) ≡ true → HeardLost who
        of_word t =
            let w = word_there who back in
            let said = h.recovers.words recovers who w.0 w.1 in
            let m = missed_is (committed_then head past) (kept_then head past) w.0.seen
            (ap (word_misses (committed_then head past) (kept_then head past)) (sym w.1) ∙ t) in
            let k = h.keeps.kept_seen who m.0 (subst (λ (ns : List ℕ). In m.0 ns) said.3.1 m.1) in
            inr (m.0, k, lost_from m.0 m.2 (seen_below who m.0 k m.2) m.3)

    pub lost_gap : (who : Who) → IsBack head past who → HeardLost who
        → has_gap (window_of head.osts head.clients past) (kept_then head past) who ≡ true
    lost_gap who back g = ⊎_elim of_number of_seen g
      where
        of_number : ((f : Flight) × (r : ReplyTo) × HeardAs past who f r × (lost r.txn.0 ≡ true))
            → has_gap (window_of head.osts head.clients past) (kept_then head past) who ≡ true
        of_number g =
            let p = lost_parts g.1.txn.0 g.3 in
            let above = p.0 in
            let low = h.keeps.committed who in
            ⊎_elim
            (λ (le : g.1.txn.0 ≤ (kept_of who past).committed). absurd (omega arith))
            (λ (k : In (replay_of g.0 g.1) (kept_of who past).replays).
            let r = all_replayed who back (replay_of g.0 g.1) k in
            or_left (has_lost (committed_then head past) (kept_then head past) (replays_of past) who) _
            (any_passes (λ (x : Replayed). same_life x.who who && is_lost (committed_then head past) (kept_then head past) x) r.0
            (replays_of past) r.1
            (and_from (same_life r.0.who who) (is_lost (committed_then head past) (kept_then head past) r.0)
            (subst (λ (w : Who). same_life w who ≡ true) (sym r.2) (life_self who))
            (subst (λ (m : ℕ). (nat_lt (committed_then head past) m && not (has_number m (kept_then head past))) ≡ true) (sym r.3)
            (and_from (nat_lt (committed_then head past) g.1.txn.0) (not (has_number g.1.txn.0 (kept_then head past)))
            (lt-ltb (committed_then head past) g.1.txn.0 p.0) (not_from_false (has_number g.1.txn.0 (kept_then head past)) p.1))))))
            (h.keeps.replay_kept who g.0 g.1 g.2 (omega arith))

        of_seen : ((n : ℕ) × SawIn past who n × (lost n ≡ true)) → has_gap (window_of head.osts head.clients past) (kept_then head past) who
            ≡ true
        of_seen s =
            let p = lost_parts s.0 s.2 in
            let above = p.0 in
            let low = h.keeps.committed who in
            ⊎_elim
            (λ (le : s.0 ≤ (kept_of who past).committed). absurd (omega arith))
            (λ (k : In s.0 (kept_of who past).seen).
            let w = word_there who back in
            let said = h.recovers.words recovers who w.0 w.1 in
            or_right (has_lost (committed_then head past) (kept_then head past) (replays_of past) who)
            (word_misses (committed_then head past) (kept_then head past) (word_of who (words_of past)))
            (ap (word_misses (committed_then head past) (kept_then head past)) w.1
            ∙ any_passes (λ (m : ℕ). nat_lt (committed_then head past) m && not (has_number m (kept_then head past))) s.0 w.0.seen
            (subst (λ (ns : List ℕ). In s.0 ns) (sym said.3.1) k)
            (and_from (nat_lt (committed_then head past) s.0) (not (has_number s.0 (kept_then head past)))
            (lt-ltb (committed_then head past) s.0 p.0) (not_from_false (has_number s.0 (kept_then head past)) p.1))))
            (h.keeps.seen_kept who s.0 s.1)

    -- who leaves, and why: it had a slot, and isn't back or has a newer life that joins; else it has a gap
    abbrev pub LeavesFor : Who → Cause → Type 0
    LeavesFor who Absent = (not (is_back (window_of head.osts head.clients past) who)
        || is_left (window_of head.osts head.clients past) who) ≡ true
    LeavesFor who Gap = IsBack head past who × (is_left (window_of head.osts head.clients past) who ≡ false) × HeardLost who
    LeavesFor who _ = ⊥

    leaves_for : (who : Who) (cause : Cause) → GoneFor (window_of head.osts head.clients past) (kept_then head past) who cause
        → LeavesFor who cause
    leaves_for who Absent g = g
    leaves_for who Gap g =
        let v = window_of head.osts head.clients past in
        let p = or_parts (not (is_back v who)) (is_left v who) g.0 in
        let back = not-false (is_back v who) p.0 in
        (back, p.1, gap_lost who back g.1)
    leaves_for who _ g = absurd g

    for_leaves : (who : Who) (cause : Cause) → LeavesFor who cause
        → GoneFor (window_of head.osts head.clients past) (kept_then head past) who cause
    for_leaves who Absent g = g
    for_leaves who Gap g =
        let v = window_of head.osts head.clients past in
        (neither (is_back v who) (is_left v who) g.0 g.1, lost_gap who g.0 g.2)
      where
        neither : (a b : Bool) → a ≡ true → b ≡ false → (not a || b) ≡ false
        neither true b e f = f
        neither false b e f = absurd (cc)
    for_leaves who _ g = absurd g

    pub gone_is : (g : Gone) → In g outcome.gone → HasSlot head.clients past g.who × LeavesFor g.who g.cause
    gone_is g i =
        let r = gone_in (window_of head.osts head.clients past) (kept_then head past) (lives_of head.clients past) g i in
        (life_stands g.who (lives_of head.clients past) r.0, leaves_for g.who g.cause r.1)

    pub is_gone : (who : Who) (cause : Cause) → HasSlot head.clients past who → LeavesFor who cause
        → In (record { who = who; cause = cause }) outcome.gone
    is_gone who cause has g = in_gone (window_of head.osts head.clients past) (kept_then head past) (lives_of head.clients past) who cause
        (stands_life who (lives_of head.clients past) has) (for_leaves who cause g)

    -- who stays is back, none of its client joins, and it heard and saw nothing lost
    pub stays_back : (who : Who) → HasSlot head.clients past who → is_life who (lives_in outcome.gone) ≡ false → IsBack head past who
        × (is_left (window_of head.osts head.clients past) who ≡ false)
    stays_back who has stays =
        let s = stays_for (window_of head.osts head.clients past) (kept_then head past) (lives_of head.clients past) who
        (stands_life who (lives_of head.clients past) has) stays in (s.0, s.1)

    pub stays_is : (who : Who) → HasSlot head.clients past who → is_life who (lives_in outcome.gone) ≡ false
        → ((f : Flight) (r : ReplyTo) → HeardAs past who f r → lost r.txn.0 ≡ false) × ((n : ℕ) → SawIn past who n → lost n ≡ false)
    stays_is who has stays = (λ f r heard. by f r heard (lost r.txn.0) refl, λ n saw. also n saw (lost n) refl)
      where
        not_lost : HeardLost who → ⊥
        not_lost g =
            let p = stays_for (window_of head.osts head.clients past) (kept_then head past) (lives_of head.clients past) who
            (stands_life who (lives_of head.clients past) has) stays in
            let yes = lost_gap who p.0 g in
            let none = p.2 in
            absurd (cc)

        by : (f : Flight) (r : ReplyTo) → HeardAs past who f r → (b : Bool) → lost r.txn.0 ≡ b → b ≡ false
        by f r heard false e = refl
        by f r heard true e = absurd (not_lost (inl (f, r, heard, e)))

        also : (n : ℕ) → SawIn past who n → (b : Bool) → lost n ≡ b → b ≡ false
        also n saw false e = refl
        also n saw true e = absurd (not_lost (inr (n, saw, e)))
