-- A newer life of a client asked to join since the boot, by the laws, where the window has its wish.
use Rattle.std.proofs.Common.{◌≡◌, ℕ, ◌<◌, Bool, true, false, List, [], ◌∷◌, Option, Some, None, ⊎_elim, refl, sym, subst, ap, ◌∙◌, arith}
use Rattle.std.specs.Prelude.{nat_eq, nat_lt, not, ◌&&◌, ◌||◌, if◌then◌else◌}
use Rattle.std.specs.List.{list_any}
use Rattle.std.proofs.lemmas.Bool.{and_parts, cond-false, eqb-true, eq-eqb, ltb-true, lt-ltb, true≢false}
use Rattle.lu_base.specs.declared.ids.Node.{Node}
use Rattle.lu_base.specs.declared.ids.Node.TheVariants.{Client, Target}
use Rattle.lu_base.specs.declared.ids.Who.{Who}
use Rattle.lu_msg.specs.declared.messages.Message.{Message}
use Rattle.lu_msg.specs.declared.messages.Message.TheVariants as message
use Rattle.lu_spec_entries.specs.Carried.{Said}
use Rattle.lu_spec_entries.specs.Words.{Entry, Take, Boot, Close, Evict, Joined, Stores, Brings, Says, Wishes, Line, line}
use Rattle.lu_spec_entries.specs.Concerns.{only}
use Rattle.lu_spec_entries.specs.Printed.{printed}
use Rattle.lu_spec_target.specs.Kept.{replayed}
use Rattle.lu_spec_target.specs.Lives.{is_life}
use Rattle.lu_spec_target.specs.Leaving.{life_of as life_in}
use Rattle.lu_spec_target.specs.Recovery.{cut, empty_word}
use Rattle.lu_spec_target.specs.Rows.{lock_again}
use Rattle.lu_spec_target.specs.Windows.{Window, with_wish, is_replay, is_lock, word_of, wish_of, is_after, is_newest, is_left}
use Rattle.lu_proof_lawful.specs.Covered.TargetStates.{server_of, closed_of, wishes_of, window_of}
use Rattle.lu_proof_lawful.specs.Covered.Heads.{Head}
use Rattle.lu_spec_laws.specs.Words.Boots.{boot}
use Rattle.lu_spec_laws.specs.Words.Handed.{is_newer, has_newer, handed}
use Rattle.lu_proof_lawful.proofs.Preconditions.Guards.{says_first, wish_by, wish_mark, mark_of, due, IsMark}
use Rattle.lu_proof_lawful.proofs.Preconditions.StoryGuards.{IsRecovering, IsServing, EntryOf, EvictOk, LeavesOk, JoinedOk, ComesOk}
use Rattle.lu_proof_lawful.proofs.Preconditions.Grown.{Grown, GrownOf}
use Rattle.lu_proof_lawful.proofs.Preconditions.LifeLists.{none_is, found_life, life_stands, stands_life}
use Rattle.lu_proof_lawful.proofs.Preconditions.Only.{grown_of}
use Rattle.lu_proof_lawful.proofs.Invariants.Groups.{turn}
use Rattle.lu_proof_lawful.proofs.Invariants.TargetGroups.{HasSlot}
use Rattle.lu_proof_lawful.proofs.Invariants.All.{holds_at}
use Rattle.lu_proof_lawful.proofs.Laws.Taking.{taken_of, handed_is, boot_of, closed_now, none_due, due_stores, due_brings, due_says}
use Rattle.lu_proof_lawful.proofs.Laws.Taking.{due_wishes, Marked, marked_of}

-- ---- wishes

abbrev has_wish : ℕ → List Who → Bool
has_wish client wishes = list_any (λ w. nat_eq w.client client) wishes

abbrev pub wishes_with : Option Entry → List Who → List Who
wishes_with (Some (Wishes who)) wishes = with_wish who wishes
wishes_with _ wishes = wishes

wish_there : (c : ℕ) (who : Who) (wishes : List Who) → has_wish c (with_wish who wishes) ≡ (nat_eq who.client c || has_wish c wishes)
wish_there c who [] = refl
wish_there c who (w ∷ wishes) = by (nat_eq who.client w.client) refl (nat_lt who.client w.client) (wish_there c who wishes)
  where
    twice : (a b : Bool) → (a || b) ≡ (a || (a || b))
    twice true b = refl
    twice false b = refl

    swap : (a b d : Bool) → (a || (b || d)) ≡ (b || (a || d))
    swap true true d = refl
    swap true false d = refl
    swap false b d = refl

    by : (e : Bool) → nat_eq who.client w.client ≡ e → (l : Bool) → has_wish c (with_wish who wishes)
        ≡ (nat_eq who.client c || has_wish c wishes)
        → has_wish c (if e then who ∷ wishes else (if l then who ∷ w ∷ wishes else w ∷ with_wish who wishes))
        ≡ (nat_eq who.client c || (nat_eq w.client c || has_wish c wishes))
    by true e l h = twice (nat_eq who.client c) (has_wish c wishes)
        ∙ ap (λ (n : ℕ). nat_eq who.client c || (nat_eq n c || has_wish c wishes)) (eqb-true who.client w.client e)
    by false e true h = refl
    by false e false h = ap (λ (b : Bool). nat_eq w.client c || b) h ∙ swap (nat_eq w.client c) (nat_eq who.client c) (has_wish c wishes)

-- who isn't the newest has one before it
wished_before : (who : Who) (wishes : List Who) → is_newest who wishes ≡ false → has_wish who.client wishes ≡ true
wished_before who [] e = absurd (cc)
wished_before who (w ∷ wishes) e = by (nat_eq w.client who.client) e (wished_before who wishes)
  where
    by : (b : Bool) → is_after who (if b then Some w else wish_of who.client wishes) ≡ false
        → (is_newest who wishes ≡ false → has_wish who.client wishes ≡ true) → (b || has_wish who.client wishes) ≡ true
    by true e h = refl
    by false e h = h e

-- ---- a message is taken

module _ (v : Window) (b : ℕ) (handed : List Message) (one : (x y : Who) → is_life x v.lives ≡ true → is_life y v.lives ≡ true → x.client
    ≡ y.client → x ≡ y) (who : Who) (has : is_life who v.lives ≡ true)
    (old : list_any (is_newer b who) handed ≡ has_wish who.client v.wishes) where
  abbrev Goal : Message → Option Entry → Type 0
  Goal m o = list_any (is_newer b who) (m ∷ handed) ≡ has_wish who.client (wishes_with o v.wishes)

  -- a mark that is no wish, of a message that is no newer join
  said_same : (t : Bool) (o : Option Said) (said : Said) (m : Message) → is_newer b who m ≡ false
      → Goal m (if t then says_first o said else None)
  said_same true None said m e = ap (λ (x : Bool). x || list_any (is_newer b who) handed) e ∙ old
  said_same true (Some w) said m e = ap (λ (x : Bool). x || list_any (is_newer b who) handed) e ∙ old
  said_same false o said m e = ap (λ (x : Bool). x || list_any (is_newer b who) handed) e ∙ old

  plain : (m : Message) → is_newer b who m ≡ false → Goal m None
  plain m e = ap (λ (x : Bool). x || list_any (is_newer b who) handed) e ∙ old

  joins : (other : Who) (boot : ℕ) → Goal (message.Join other boot) (mark_of v b (message.Join other boot))
  joins other boot = by (nat_eq boot b) refl (is_life other v.lives) refl
    where
      m : Message
      m = message.Join other boot

      newer : Bool
      newer = nat_eq other.client who.client && nat_lt who.life other.life && nat_eq boot b

      last : (x y : Bool) → y ≡ false → (x && y) ≡ false
      last true y e = e
      last false y e = refl

      -- it isn't newer, where it says so of its client or life
      not_newer : (newer ≡ true → ⊥) → newer ≡ false
      not_newer n = of newer refl
        where
          of : (x : Bool) → newer ≡ x → x ≡ false
          of false q = refl
          of true q = absurd (n q)

      parts : newer ≡ true → (other.client ≡ who.client) × (who.life < other.life)
      parts e =
          let p = and_parts (nat_eq other.client who.client && nat_lt who.life other.life) (nat_eq boot b) e in
          let q = and_parts (nat_eq other.client who.client) (nat_lt who.life other.life) p.0 in
          (eqb-true other.client who.client q.0, ltb-true who.life other.life q.1)

      first : (x y : Bool) (p q : Option Entry) → x ≡ false → (if x && y then p else q) ≡ q
      first true y p q e = absurd (cc)
      first false y p q e = refl

      wished : nat_eq boot b ≡ true → is_life other v.lives ≡ false → (o : Option Who) → life_in other.client v.lives ≡ o
          → Goal m (wish_by v other o)
      wished here out None e = plain m (not_newer (λ t. none_is other.client v.lives e who (stands_life who v.lives has) (sym (parts t).0)))
      wished here out (Some life) e = of (nat_lt life.life other.life && is_newest other v.wishes) refl
        where
          found : (life.client ≡ other.client) × (is_life life v.lives ≡ true)
          found = let f = found_life other.client v.lives life e in (f.1, life_stands life v.lives f.0)

          -- that of the client is who asks
          same : other.client ≡ who.client → life ≡ who
          same c = one life who found.1 has (found.0 ∙ c)

          of : (n : Bool) → (nat_lt life.life other.life && is_newest other v.wishes) ≡ n → Goal m (if n then Some (Wishes other) else None)
          of true q = sides (nat_eq other.client who.client) refl ∙ sym (wish_there who.client other v.wishes)
            where
              sides : (x : Bool) → nat_eq other.client who.client ≡ x → (newer || list_any (is_newer b who) handed)
                  ≡ (nat_eq other.client who.client || has_wish who.client v.wishes)
              sides true s =
                  let c = eqb-true other.client who.client s in
                  let lt : nat_lt who.life other.life ≡ true = subst (λ (w : Who). nat_lt w.life other.life ≡ true) (same c)
                  (and_parts (nat_lt life.life other.life) (is_newest other v.wishes) q).0 in
                  rw (s, lt, here) refl
              sides false s = rw s old
          of false q = sides newer refl
            where
              sides : (x : Bool) → newer ≡ x → (newer || list_any (is_newer b who) handed) ≡ has_wish who.client v.wishes
              sides false s = ap (λ (x : Bool). x || list_any (is_newer b who) handed) s ∙ old
              sides true s =
                  let p = parts s in
                  let lt : nat_lt life.life other.life ≡ true =
                  subst (λ (w : Who). nat_lt w.life other.life ≡ true) (sym (same p.0)) (lt-ltb who.life other.life p.1) in
                  let not_last : is_newest other v.wishes ≡ false = sym (ap (λ (x : Bool). x && is_newest other v.wishes) lt) ∙ q in
                  ap (λ (x : Bool). x || list_any (is_newer b who) handed) s
                  ∙ sym (ap (λ (n : ℕ). has_wish n v.wishes) (sym p.0) ∙ wished_before other v.wishes not_last)

      by : (x : Bool) → nat_eq boot b ≡ x → (y : Bool) → is_life other v.lives ≡ y → Goal m (mark_of v b m)
      by false p y q =
          subst (λ (o : Option Entry). Goal m o) (sym (first (nat_eq boot b) (is_life other v.lives)
          (says_first (word_of other v.words) (empty_word other)) (wish_mark v b other boot) p
          ∙ cond-false (nat_eq boot b) (wish_by v other (life_in other.client v.lives)) None p))
          (plain m (last (nat_eq other.client who.client && nat_lt who.life other.life) (nat_eq boot b) p))
      by true p true q =
          subst (λ (o : Option Entry). Goal m o) (sym (inside (nat_eq boot b) (is_life other v.lives) p q))
          (said_same true (word_of other v.words) (empty_word other) m
          (not_newer (λ t. let r = parts t in let same = ap (λ (w : Who). w.life) (one other who q has r.0) in let lt = r.1
          in omega (arith, same, lt))))
        where
          inside : (x y : Bool) → x ≡ true → y ≡ true → (if x && y then says_first (word_of other v.words) (empty_word other)
              else wish_mark v b other boot) ≡ says_first (word_of other v.words) (empty_word other)
          inside true true e f = refl
          inside true false e f = absurd (cc)
          inside false y e f = absurd (cc)
      by true p false q =
          subst (λ (o : Option Entry). Goal m o) (sym (outside (nat_eq boot b) (is_life other v.lives) p q))
          (wished p q (life_in other.client v.lives) refl)
        where
          outside : (x y : Bool) → x ≡ true → y ≡ false → (if x && y then says_first (word_of other v.words) (empty_word other)
              else (if x then wish_by v other (life_in other.client v.lives) else None)) ≡ wish_by v other (life_in other.client v.lives)
          outside true false e f = refl
          outside true true e f = absurd (cc)
          outside false y e f = absurd (cc)

  stored : (t : Bool) (e : Entry) (m : Message) → is_newer b who m ≡ false → (wishes_with (Some e) v.wishes ≡ v.wishes)
      → Goal m (if t then Some e else None)
  stored true e m n s = plain m n ∙ ap (has_wish who.client) (sym s)
  stored false e m n s = plain m n

  pub newer_take : (m : Message) → Goal m (mark_of v b m)
  newer_take (message.Replay r) = stored (nat_eq r.boot b && is_life r.who v.lives && not (list_any (is_replay (replayed r)) v.replays))
      (Stores (cut r)) (message.Replay r) refl refl
  newer_take (message.Lock r) = stored (nat_eq r.boot b && is_life r.who v.lives && not (list_any (is_lock (lock_again r)) v.brought))
      (Brings (lock_again r)) (message.Lock r) refl refl
  newer_take (message.Word other boot replays locks seen) = said_same (nat_eq boot b && is_life other v.lives) (word_of other v.words)
      (record { who = other; replays = replays; locks = locks; seen = seen }) (message.Word other boot replays locks seen) refl
  newer_take (message.Join other boot) = joins other boot
  newer_take m = plain m refl

-- ---- at one target

abbrev NewerAt : Head → List Line → Option Entry → Type 0
NewerAt head past o = (who : Who) → HasSlot head.clients past who → list_any (is_newer (server_of head.osts past).boot who) (taken_of past)
    ≡ has_wish who.client (wishes_with o (wishes_of past))

newer_at : (head : Head) (past : List Line) → GrownOf head past → Marked head past → IsRecovering head.osts past
    → NewerAt head past (due head.osts head.clients past)
newer_at head [] g k r = absurd (cc)
newer_at head (l ∷ past) g k r = by l.at.node l.entry g.0 (λ mark d. (k.0.marked mark d).0) (λ s. newer_at head past g.3 k.1 s) r
  where
    D : Option Entry
    D = due head.osts head.clients past

    plain : (e : Entry) → (IsMark e → ⊥) → ((mark : Entry) → D ≡ Some mark → e ≡ mark) → NewerAt head past D → NewerAt head past None
    plain e n k h = subst (λ (o : Option Entry). NewerAt head past o) (none_due head.osts head.clients past e n k) h

    serving : IsServing head.osts past → IsRecovering head.osts past → ⊥
    serving s r = true≢false (sym (eq-eqb (closed_of past) (server_of head.osts past).boot s.closed) ∙ r)

    by : (node : Node) (e : Entry) → EntryOf head past (turn l.at.stamp node) node e → ((mark : Entry) → D ≡ Some mark → e ≡ mark)
        → (IsRecovering head.osts past → NewerAt head past D)
        → IsRecovering head.osts (line (turn l.at.stamp node) e ∷ past)
        → NewerAt head (line (turn l.at.stamp node) e ∷ past) (due head.osts head.clients (line (turn l.at.stamp node) e ∷ past))
    by (Target t) (Take n from m) ok k h r =
        subst (λ (o : Option Entry). NewerAt head (line (turn l.at.stamp (Target t)) (Take n from m) ∷ past) o)
        (sym (cond-false (nat_eq (closed_of past) (server_of head.osts past).boot) None
        (mark_of (window_of head.osts head.clients past) (server_of head.osts past).boot m) r))
        (λ who has. newer_take (window_of head.osts head.clients past) (server_of head.osts past).boot (taken_of past)
        (holds_at head past g.3).lives.one who has (plain (Take n from m) (λ v. v) k (h r) who has) m)
    by (Target t) (Boot b disk) ok k h r = λ who has. refl
    by (Target t) (Stores replay) ok k h r = subst (λ (o : Option Entry). NewerAt head past o) (due_stores head past l.at.stamp t replay ok)
        (h r)
    by (Target t) (Brings lock) ok k h r = subst (λ (o : Option Entry). NewerAt head past o) (due_brings head past l.at.stamp t lock ok)
        (h r)
    by (Target t) (Says said) ok k h r = subst (λ (o : Option Entry). NewerAt head past o) (due_says head past l.at.stamp t said ok) (h r)
    by (Target t) (Wishes who) ok k h r = subst (λ (o : Option Entry). NewerAt head past o) (due_wishes head past l.at.stamp t who g.3 ok)
        (h r)
    by (Target t) (Evict who cause) ok k h r = absurd (⊎_elim (λ (v : EvictOk head past (turn l.at.stamp (Target t)) who cause). serving
        v.serves r) (λ (v : LeavesOk head past (turn l.at.stamp (Target t)) who cause). serving v.serves r) ok)
    by (Target t) (Joined who) ok k h r = absurd (⊎_elim (λ (v : JoinedOk head past (turn l.at.stamp (Target t)) t who). serving v.serves r)
        (λ (v : ComesOk head past (turn l.at.stamp (Target t)) t who). serving v.serves r) ok)
    by (Target t) (Close o) ok k h r = absurd (closed_now head past l.at.stamp t o ok r)
    by (Client c) (Take n from m) ok k h r = plain (Take n from m) (λ v. v) k (h r)
    by (Client c) (Stores replay) ok k h r = absurd ok
    by (Client c) (Brings lock) ok k h r = absurd ok
    by (Client c) (Says said) ok k h r = absurd ok
    by (Client c) (Wishes who) ok k h r = absurd ok
    by (Client c) e ok k h r = plain e (λ v. v) k (h r)
    by (Target t) e ok k h r = plain e (λ v. v) k (h r)

-- where no mark is due, the laws say what the window does
pub newer_is : (head : Head) (t : ℕ) (past : List Line) → Grown head past → IsRecovering head.osts (only t past)
    → due head.osts head.clients (only t past) ≡ None
    → (who : Who) → HasSlot head.clients (only t past) who → has_newer t (printed past) who
    ≡ is_left (window_of head.osts head.clients (only t past)) who
newer_is head t past g r none who has =
    ap (λ (b : ℕ). list_any (is_newer b who) (handed t (printed past))) (boot_of head t past g)
    ∙ ap (λ (ms : List Message). list_any (is_newer (server_of head.osts (only t past)).boot who) ms) (handed_is head t past g)
    ∙ subst (λ (o : Option Entry). NewerAt head (only t past) o) none
    (newer_at head (only t past) (grown_of head t past g) (marked_of head t past g) r) who has
