-- What a target took since its boot, as the laws count it and as its window keeps it: of each life with a slot as many replays and locks,
-- and
-- a word where there is one.
use Rattle.std.proofs.Common.{◌≡◌, ℕ, suc, Bool, true, false, List, [], ◌∷◌, Option, Some, None, ◌⊎◌, inl, inr, ⊎_elim, refl, sym, subst}
use Rattle.std.proofs.Common.{ap, ◌∙◌, arith}
use Rattle.std.specs.Prelude.{nat_eq, nat_lt, nat_le, not, ◌&&◌, ◌||◌, if◌then◌else◌, length, filter}
use Rattle.std.specs.List.{list_any}
use Rattle.std.proofs.lemmas.Bool.{and_parts, eqb-true, eq-eqb, le-leb, true≢false}
use Rattle.lu_base.specs.declared.ids.Who.{Who}
use Rattle.lu_base.specs.declared.locks.Lock.{Lock}
use Rattle.lu_msg.specs.declared.messages.Message.{Message}
use Rattle.lu_msg.specs.declared.messages.Message.TheVariants as message
use Rattle.lu_msg.specs.declared.messages.LockReplay.{LockReplay}
use Rattle.lu_msg.specs.declared.messages.RequestReplay.{RequestReplay}
use Rattle.lu_spec_entries.specs.Carried.{Said}
use Rattle.lu_spec_entries.specs.Words.{Entry, Stores, Brings, Wishes, same_life}
use Rattle.lu_spec_target.specs.Kept.{replayed, replays_after, brought_after, words_after}
use Rattle.lu_spec_target.specs.Lives.{is_life}
use Rattle.lu_spec_target.specs.Recovery.{cut, empty_word}
use Rattle.lu_spec_target.specs.Rows.{lock_again}
use Rattle.lu_spec_target.specs.Leaving.{life_of as life_in}
use Rattle.lu_spec_target.specs.Windows.{Replayed, Window, placed, replay_before, brought_before, word_before, is_replay, is_lock, word_of}
use Rattle.lu_spec_target.specs.Windows.{is_newest}
use Rattle.lu_spec_target.specs.Windows as window
use Rattle.lu_spec_laws.specs.Words.Handed.{is_replay_of, replays, is_lock_of, locks, replay_count, lock_count, is_word, has_all}
use Rattle.lu_proof_lawful.proofs.Preconditions.Guards.{In, says_first, wish_by, wish_mark, mark_of}
use Rattle.lu_proof_lawful.proofs.Preconditions.ClientLocks.{any_true, any_passes}
use Rattle.lu_proof_lawful.proofs.Preconditions.Lists.{life_is, life_self}
use Rattle.lu_proof_lawful.proofs.Laws.Printed.{flip, flip_life}

-- ---- an item in its place

or_swap : (a b c : Bool) → (a || (b || c)) ≡ (b || (a || c))
or_swap true true c = refl
or_swap true false c = refl
or_swap false b c = refl

any_placed : {B : Type 0} (p : B → Bool) (before : B → B → Bool) (y : B) (ys : List B) → list_any p (placed before y ys)
    ≡ (p y || list_any p ys)
any_placed p before y [] = refl
any_placed {B} p before y (z ∷ zs) = by (before y z) (any_placed p before y zs)
  where
    by : (b : Bool) → list_any p (placed before y zs) ≡ (p y || list_any p zs)
        → list_any p (if b then y ∷ z ∷ zs else z ∷ placed before y zs) ≡ (p y || (p z || list_any p zs))
    by true h = refl
    by false h = ap (λ (v : Bool). p z || v) h ∙ or_swap (p z) (p y) (list_any p zs)

count_placed : {B : Type 0} (p : B → Bool) (before : B → B → Bool) (y : B) (ys : List B) → length (filter p (placed before y ys))
    ≡ length (filter p (y ∷ ys))
count_placed p before y [] = refl
count_placed {B} p before y (z ∷ zs) = by (before y z) (count_placed p before y zs)
  where
    more : (a b : Bool) → length (filter p (placed before y zs)) ≡ length (if b then y ∷ filter p zs else filter p zs)
        → length (if a then z ∷ filter p (placed before y zs) else filter p (placed before y zs))
        ≡ length (if b then y ∷ (if a then z ∷ filter p zs else filter p zs) else (if a then z ∷ filter p zs else filter p zs))
    more true true h = ap (λ (n : ℕ). suc n) h
    more true false h = ap (λ (n : ℕ). suc n) h
    more false true h = h
    more false false h = h

    by : (b : Bool) → length (filter p (placed before y zs)) ≡ length (filter p (y ∷ zs))
        → length (filter p (if b then y ∷ z ∷ zs else z ∷ placed before y zs)) ≡ length (filter p (y ∷ z ∷ zs))
    by true h = refl
    by false h = more (p z) (p y) h

-- ---- items of lives with a slot, by the laws and in the window

pub record Alike {A B : Type 0} (turns : A → B) (same : A → A → Bool) (alike : B → B → Bool) (who_of : A → Who) (whose : B → Who)
    (lives : List Who) (xs : List A) (ys : List B) : Type 0 where
  pub has : (x : A) → is_life (who_of x) lives ≡ true → list_any (same x) xs ≡ list_any (alike (turns x)) ys
  pub count : (who : Who) → is_life who lives ≡ true → length (filter (λ (x : A). same_life (who_of x) who) xs)
      ≡ length (filter (λ (y : B). same_life (whose y) who) ys)

module _ {A B : Type 0} (turns : A → B) (same : A → A → Bool) (alike : B → B → Bool) (who_of : A → Who) (whose : B → Who)
    (before : B → B → Bool) (lives : List Who) where
  alike_add : (x : A) (y : B) (xs : List A) (ys : List B) → ((z : A) → same z x ≡ alike (turns z) y) → whose y ≡ who_of x
      → Alike turns same alike who_of whose lives xs ys → Alike turns same alike who_of whose lives (x ∷ xs) (placed before y ys)
  alike_add x y xs ys one own h =
      record {
        has = λ z i. ap (λ (b : Bool). b || list_any (same z) xs) (one z) ∙ ap (λ (b : Bool). alike (turns z) y || b) (h.has z i)
            ∙ sym (any_placed (alike (turns z)) before y ys);
        count = λ who i. more (same_life (who_of x) who) (same_life (whose y) who) _ _ _ _ (ap (λ (w : Who). same_life w who) (sym own))
            (h.count who i) ∙ sym (count_placed (λ (y : B). same_life (whose y) who) before y ys);
      }
    where
      more : (a b : Bool) (us : List A) (vs : List B) (u : A) (v : B) → a ≡ b → length us ≡ length vs → length (if a then u ∷ us else us)
          ≡ length (if b then v ∷ vs else vs)
      more true true us vs u v e h = ap (λ (n : ℕ). suc n) h
      more false false us vs u v e h = h
      more true false us vs u v e h = absurd (cc)
      more false true us vs u v e h = absurd (cc)

  -- an item of another life
  alike_pass : (x : A) (xs : List A) (ys : List B) → ((z : A) → same z x ≡ true → who_of z ≡ who_of x) → is_life (who_of x) lives ≡ false
      → Alike turns same alike who_of whose lives xs ys → Alike turns same alike who_of whose lives (x ∷ xs) ys
  alike_pass x xs ys own out h =
      record {
        has = λ z i. ap (λ (b : Bool). b || list_any (same z) xs) (other z i (same z x) refl) ∙ h.has z i;
        count = λ who i. less (same_life (who_of x) who) _ (apart who i (same_life (who_of x) who) refl) ∙ h.count who i;
      }
    where
      other : (z : A) → is_life (who_of z) lives ≡ true → (b : Bool) → same z x ≡ b → b ≡ false
      other z i false e = refl
      other z i true e = absurd (true≢false (sym i ∙ ap (λ (w : Who). is_life w lives) (own z e) ∙ out))

      apart : (who : Who) → is_life who lives ≡ true → (b : Bool) → same_life (who_of x) who ≡ b → b ≡ false
      apart who i false e = refl
      apart who i true e = absurd (true≢false (sym i ∙ ap (λ (w : Who). is_life w lives) (sym (life_is (who_of x) who e)) ∙ out))

      less : (a : Bool) (us : List A) → a ≡ false → length (if a then x ∷ us else us) ≡ length us
      less true us e = absurd (cc)
      less false us e = refl

  -- what counts by the laws is kept where its life has a slot
  alike_step : (x : A) (y : B) (xs : List A) (ys : List B) → ((z : A) → same z x ≡ alike (turns z) y)
      → ((z : A) → same z x ≡ true → who_of z ≡ who_of x) → whose y ≡ who_of x → (now : Bool) (life : Bool) → is_life (who_of x) lives
      ≡ life
      → Alike turns same alike who_of whose lives xs ys → Alike turns same alike who_of whose lives
      (if now && not (list_any (same x) xs) then x ∷ xs else xs)
      (if now && life && not (list_any (alike (turns x)) ys) then placed before y ys else ys)
  alike_step x y xs ys one own mine false true i h = h
  alike_step x y xs ys one own mine false false i h = h
  alike_step x y xs ys one own mine true true i h = by (list_any (same x) xs) (list_any (alike (turns x)) ys) (h.has x i)
    where
      by : (a b : Bool) → a ≡ b → Alike turns same alike who_of whose lives (if not a then x ∷ xs else xs)
          (if not b then placed before y ys else ys)
      by true true e = h
      by false false e = alike_add x y xs ys one mine h
      by true false e = absurd (cc)
      by false true e = absurd (cc)
  alike_step x y xs ys one own mine true false i h = by (list_any (same x) xs)
    where
      by : (a : Bool) → Alike turns same alike who_of whose lives (if not a then x ∷ xs else xs) ys
      by true = h
      by false = alike_pass x xs ys own i h

-- ---- words

-- the message says that, as a word of the life in the boot
abbrev pub IsWord : ℕ → Who → Message → Said → Type 0
IsWord b who (message.Word other boot replays locks seen) said = (other ≡ who) × (boot ≡ b) × (said.replays ≡ replays)
    × (said.locks ≡ locks)
IsWord b who (message.Join other boot) said = (other ≡ who) × (boot ≡ b) × (said.replays ≡ 0) × (said.locks ≡ 0)
IsWord b who m said = ⊥

pub record SaidIn (b : ℕ) (handed : List Message) (lives : List Who) (who : Who) (said : Said) : Type 0 where
  pub life : is_life who lives ≡ true
  pub told : Message
  pub among : In told handed
  pub is : IsWord b who told said

-- what is kept was said, and of a life that said something something is kept
pub record Spoken (b : ℕ) (handed : List Message) (lives : List Who) (words : List Said) : Type 0 where
  pub said : (who : Who) (s : Said) → word_of who words ≡ Some s → SaidIn b handed lives who s
  pub kept : (who : Who) → is_life who lives ≡ true → (m : Message) (s : Said) → In m handed → IsWord b who m s → word_of who words ≡ None
      → ⊥

word_placed : (said : Said) (words : List Said) → word_of said.who words ≡ None → (x : Who) → word_of x (placed word_before said words)
    ≡ (if same_life said.who x then Some said else word_of x words)
word_placed said [] none x = refl
word_placed said (w ∷ words) none x = by (word_before said w) (same_life w.who said.who) refl none (λ n. word_placed said words n x)
  where
    both : (a b : Bool) (r : Option Said) → (b ≡ true → a ≡ true → ⊥) → (if a then Some w else if b then Some said else r)
        ≡ (if b then Some said else if a then Some w else r)
    both true true r n = absurd (n refl refl)
    both true false r n = refl
    both false b r n = refl

    by : (t : Bool) (b : Bool) → same_life w.who said.who ≡ b → (if b then Some w else word_of said.who words) ≡ None
        → (word_of said.who words ≡ None → word_of x (placed word_before said words)
        ≡ (if same_life said.who x then Some said else word_of x words))
        → word_of x (if t then said ∷ w ∷ words else w ∷ placed word_before said words)
        ≡ (if same_life said.who x then Some said else if same_life w.who x then Some w else word_of x words)
    by true b e n h = refl
    by false true e n h = absurd (cc)
    by false false e n h =
        ap (λ (o : Option Said). if same_life w.who x then Some w else o) (h n)
        ∙ both (same_life w.who x) (same_life said.who x) (word_of x words)
        (λ p q. true≢false (sym (subst (λ (v : Who). same_life w.who v ≡ true) (sym (life_is said.who x p)) q) ∙ e))

spoken_more : (b : ℕ) (m : Message) (handed : List Message) (lives : List Who) (words : List Said)
    → ((who : Who) (s : Said) → IsWord b who m s → is_life who lives ≡ true → word_of who words ≡ None → ⊥) → Spoken b handed lives words
    → Spoken b (m ∷ handed) lives words
spoken_more b m handed lives words new h =
    record {
      said = λ who s e. let r = h.said who s e in record { life = r.life; told = r.told; among = inr r.among; is = r.is };
      kept = λ who i k s j w none. ⊎_elim (λ (q : m ≡ k). new who s (subst (λ (v : Message). IsWord b who v s) (sym q) w) i none)
          (λ (j : In k handed). h.kept who i k s j w none) j;
    }

spoken_first : (b : ℕ) (m : Message) (handed : List Message) (lives : List Who) (words : List Said) (said : Said) → is_life said.who lives
    ≡ true → IsWord b said.who m said → ((who : Who) (s : Said) → IsWord b who m s → said.who ≡ who) → word_of said.who words ≡ None
    → Spoken b handed lives words → Spoken b (m ∷ handed) lives (placed word_before said words)
spoken_first b m handed lives words said life word own none h =
    record {
      said = λ x s e. now x s (same_life said.who x) refl (sym (word_placed said words none x) ∙ e);
      kept =
          λ x i k s j w e. left x i k s j w (same_life said.who x) refl (sym (word_placed said words none x) ∙ e);
    }
  where
    now : (x : Who) (s : Said) (t : Bool) → same_life said.who x ≡ t → (if t then Some said else word_of x words) ≡ Some s
        → SaidIn b (m ∷ handed) lives x s
    now x s true q e =
        let same : said ≡ s = cc in
        let who : said.who ≡ x = life_is said.who x q in
        record {
          life = subst (λ (v : Who). is_life v lives ≡ true) who life;
          told = m;
          among = inl refl;
          is = subst (λ (v : Who). IsWord b v m s) who (subst (λ (v : Said). IsWord b said.who m v) same word);
        }
    now x s false q e = let r = h.said x s e in record { life = r.life; told = r.told; among = inr r.among; is = r.is }

    left : (x : Who) → is_life x lives ≡ true → (k : Message) (s : Said) → (m ≡ k) ⊎ In k handed → IsWord b x k s → (t : Bool)
        → same_life said.who x ≡ t → (if t then Some said else word_of x words) ≡ None → ⊥
    left x i k s j w true q e = absurd (cc)
    left x i k s (inl j) w false q e = true≢false (sym (subst (λ (v : Who). same_life said.who v ≡ true)
        (own x s (subst (λ (v : Message). IsWord b x v s) (sym j) w)) (life_self said.who)) ∙ q)
    left x i k s (inr j) w false q e = h.kept x i k s j w e

-- ---- all of it

abbrev pub replays_with : Option Entry → List Replayed → List Replayed
replays_with None kept = kept
replays_with (Some e) kept = replays_after kept e

abbrev pub brought_with : Option Entry → List Lock → List Lock
brought_with None kept = kept
brought_with (Some e) kept = brought_after kept e

abbrev pub words_with : Option Entry → List Said → List Said
words_with None kept = kept
words_with (Some e) kept = words_after kept e

abbrev pub ReplaysAlike : ℕ → List Message → List Who → List Replayed → Type 0
ReplaysAlike b handed lives kept = Alike {A = RequestReplay} {B = Replayed} replayed is_replay_of is_replay (λ r. r.who) (λ r. r.who) lives
    (replays b handed) kept

abbrev pub LocksAlike : ℕ → List Message → List Who → List Lock → Type 0
LocksAlike b handed lives kept = Alike {A = LockReplay} {B = Lock} lock_again is_lock_of is_lock (λ l. l.who) (λ l. l.ask.who) lives
    (locks b handed) kept

pub record Agrees (b : ℕ) (handed : List Message) (lives : List Who) (kept : List Replayed) (brought : List Lock) (words : List Said) : Type
    0 where
  pub replays_are : ReplaysAlike b handed lives kept
  pub locks_are : LocksAlike b handed lives brought
  pub spoken : Spoken b handed lives words

pub agrees_start : (b : ℕ) (lives : List Who) → Agrees b [] lives [] [] []
agrees_start b lives = record {
  replays_are = record { has = λ x i. refl; count = λ who i. refl };
  locks_are = record { has = λ x i. refl; count = λ who i. refl };
  spoken = record { said = λ who s e. absurd (cc); kept = λ who i m s j w e. j };
}

-- once the message is taken and kept by its mark
abbrev pub Taking : Window → ℕ → List Message → Message → Option Entry → Type 0
Taking v b handed m o = Agrees b (m ∷ handed) v.lives (replays_with o v.replays) (brought_with o v.brought) (words_with o v.words)

module _ (v : Window) (b : ℕ) (handed : List Message) where
  agrees_replay : (r : RequestReplay) → Agrees b handed v.lives v.replays v.brought v.words
      → Taking v b handed (message.Replay r) (mark_of v b (message.Replay r))
  agrees_replay r h =
      by (nat_eq r.boot b && is_life r.who v.lives && not (list_any (is_replay (replayed r)) v.replays))
      (alike_step {A = RequestReplay} {B = Replayed} replayed is_replay_of is_replay (λ r. r.who) (λ r. r.who) replay_before v.lives r
      (replayed (cut r)) (replays b handed) v.replays (λ z. one z)
      (λ z e. life_is z.who r.who (and_parts (same_life z.who r.who) (nat_eq z.txn.0 r.txn.0) e).0) refl (nat_eq r.boot b)
      (is_life r.who v.lives) refl h.replays_are)
    where
      one : (z : RequestReplay) → is_replay_of z r ≡ is_replay (replayed z) (replayed (cut r))
      one z = swap (same_life z.who r.who) (nat_eq z.txn.0 r.txn.0) (same_life r.who z.who) (nat_eq r.txn.0 z.txn.0) (flip_life z.who r.who)
          (flip z.txn.0 r.txn.0)
        where
          swap : (a c e f : Bool) → a ≡ e → c ≡ f → (a && c) ≡ (f && e)
          swap true true e f p q = rw (sym p, sym q) refl
          swap true false e f p q = rw (sym p, sym q) refl
          swap false true e f p q = rw (sym p, sym q) refl
          swap false false e f p q = rw (sym p, sym q) refl

      by : (t : Bool) → ReplaysAlike b (message.Replay r ∷ handed) v.lives
          (if t then placed replay_before (replayed (cut r)) v.replays else v.replays)
          → Taking v b handed (message.Replay r) (if t then Some (Stores (cut r)) else None)
      by true k = record {
        replays_are = k;
        locks_are = h.locks_are;
        spoken =
            spoken_more b (message.Replay r) handed v.lives v.words (λ who s w. absurd w) h.spoken;
      }
      by false k = record {
        replays_are = k;
        locks_are = h.locks_are;
        spoken =
            spoken_more b (message.Replay r) handed v.lives v.words (λ who s w. absurd w) h.spoken;
      }

  agrees_lock : (r : LockReplay) → Agrees b handed v.lives v.replays v.brought v.words
      → Taking v b handed (message.Lock r) (mark_of v b (message.Lock r))
  agrees_lock r h =
      by (nat_eq r.boot b && is_life r.who v.lives && not (list_any (is_lock (lock_again r)) v.brought))
      (alike_step {A = LockReplay} {B = Lock} lock_again is_lock_of is_lock (λ l. l.who) (λ l. l.ask.who) brought_before v.lives r
      (lock_again r) (locks b handed) v.brought (λ z. one z)
      (λ z e. life_is z.who r.who (and_parts (same_life z.who r.who) (nat_eq z.cookie.0 r.cookie.0) e).0) refl (nat_eq r.boot b)
      (is_life r.who v.lives) refl h.locks_are)
    where
      one : (z : LockReplay) → is_lock_of z r ≡ is_lock (lock_again z) (lock_again r)
      one z = swap (same_life z.who r.who) (nat_eq z.cookie.0 r.cookie.0) (same_life r.who z.who) (nat_eq r.cookie.0 z.cookie.0)
          (flip_life z.who r.who) (flip z.cookie.0 r.cookie.0)
        where
          swap : (a c e f : Bool) → a ≡ e → c ≡ f → (a && c) ≡ (f && e)
          swap true true e f p q = rw (sym p, sym q) refl
          swap true false e f p q = rw (sym p, sym q) refl
          swap false true e f p q = rw (sym p, sym q) refl
          swap false false e f p q = rw (sym p, sym q) refl

      by : (t : Bool) → LocksAlike b (message.Lock r ∷ handed) v.lives
          (if t then placed brought_before (lock_again r) v.brought else v.brought)
          → Taking v b handed (message.Lock r) (if t then Some (Brings (lock_again r)) else None)
      by true k = record {
        replays_are = h.replays_are;
        locks_are = k;
        spoken =
            spoken_more b (message.Lock r) handed v.lives v.words (λ who s w. absurd w) h.spoken;
      }
      by false k = record {
        replays_are = h.replays_are;
        locks_are = k;
        spoken =
            spoken_more b (message.Lock r) handed v.lives v.words (λ who s w. absurd w) h.spoken;
      }

  -- a word, or a join that is one
  spoken_step : (m : Message) (who : Who) (boot : ℕ) (said : Said) → said.who ≡ who
      → ((x : Who) (s : Said) → IsWord b x m s → (who ≡ x) × (boot ≡ b)) → (boot ≡ b → IsWord b who m said)
      → Spoken b handed v.lives v.words
      → (now life : Bool) → nat_eq boot b ≡ now → is_life who v.lives ≡ life → (o : Option Said) → word_of who v.words ≡ o
      → Spoken b (m ∷ handed) v.lives (words_with (if now && life then says_first o said else None) v.words)
  spoken_step m who boot said same own word h false life e i o q =
      spoken_more b m handed v.lives v.words (λ x s w l n. true≢false (sym (eq-eqb boot b (own x s w).1) ∙ e)) h
  spoken_step m who boot said same own word h true false e i o q =
      spoken_more b m handed v.lives v.words (λ x s w l n. true≢false (sym l ∙ ap (λ (z : Who). is_life z v.lives) (sym (own x s w).0) ∙ i))
      h
  spoken_step m who boot said same own word h true true e i (Some old) q =
      spoken_more b m handed v.lives v.words (λ x s w l n. let c : Some old ≡ None = sym q
      ∙ ap (λ (z : Who). word_of z v.words) (own x s w).0 ∙ n in absurd (cc)) h
  spoken_step m who boot said same own word h true true e i None q =
      spoken_first b m handed v.lives v.words said (subst (λ (z : Who). is_life z v.lives ≡ true) (sym same) i)
      (subst (λ (z : Who). IsWord b z m said) (sym same) (word (eqb-true boot b e))) (λ x s w. same ∙ (own x s w).0)
      (subst (λ (z : Who). word_of z v.words ≡ None) (sym same) q) h

  spoken_agrees : (m : Message) (said : Said) (t : Bool) (o : Option Said) → ReplaysAlike b (m ∷ handed) v.lives v.replays
      → LocksAlike b (m ∷ handed) v.lives v.brought → Spoken b (m ∷ handed) v.lives
      (words_with (if t then says_first o said else None) v.words)
      → Taking v b handed m (if t then says_first o said else None)
  spoken_agrees m said true None r l s = record { replays_are = r; locks_are = l; spoken = s }
  spoken_agrees m said true (Some old) r l s = record { replays_are = r; locks_are = l; spoken = s }
  spoken_agrees m said false o r l s = record { replays_are = r; locks_are = l; spoken = s }

  pub agrees_take : (m : Message) → Agrees b handed v.lives v.replays v.brought v.words → Taking v b handed m (mark_of v b m)
  agrees_take (message.Replay r) h = agrees_replay r h
  agrees_take (message.Lock r) h = agrees_lock r h
  agrees_take (message.Word who boot replays locks seen) h =
      let m = message.Word who boot replays locks seen in
      let said : Said = record { who = who; replays = replays; locks = locks; seen = seen } in
      spoken_agrees m said (nat_eq boot b && is_life who v.lives) (word_of who v.words) h.replays_are h.locks_are
      (spoken_step m who boot said refl (λ x s w. (w.0, w.1)) (λ e. (refl, e, refl, refl)) h.spoken (nat_eq boot b) (is_life who v.lives)
      refl refl (word_of who v.words) refl)
  agrees_take (message.Join who boot) h =
      let m = message.Join who boot in
      joined m (nat_eq boot b && is_life who v.lives) (says_first (word_of who v.words) (empty_word who))
      (spoken_agrees m (empty_word who) (nat_eq boot b && is_life who v.lives) (word_of who v.words) h.replays_are h.locks_are
      (spoken_step m who boot (empty_word who) refl (λ x s w. (w.0, w.1)) (λ e. (refl, e, refl, refl)) h.spoken (nat_eq boot b)
      (is_life who v.lives) refl refl (word_of who v.words) refl))
    where
      wished : (m : Message) → Taking v b handed m None → (t : Bool) (o : Option Who)
          → Taking v b handed m (if t then wish_by v who o else None)
      wished m k false o = k
      wished m k true None = k
      wished m k true (Some old) = newest (nat_lt old.life who.life && is_newest who v.wishes)
        where
          newest : (n : Bool) → Taking v b handed m (if n then Some (Wishes who) else None)
          newest true = record { replays_are = k.replays_are; locks_are = k.locks_are; spoken = k.spoken }
          newest false = k

      joined : (m : Message) (t : Bool) (o : Option Entry) → Taking v b handed m (if t then o else None)
          → Taking v b handed m (if t then o else wish_mark v b who boot)
      joined m true o k = k
      joined m false o k = wished m k (nat_eq boot b) (life_in who.client v.lives)
  agrees_take m h = record {
    replays_are = h.replays_are;
    locks_are = h.locks_are;
    spoken =
        spoken_more b m handed v.lives v.words (λ who s w. absurd w) h.spoken;
  }

-- ---- who is back

-- a life says one thing in a boot
abbrev pub OneWord : ℕ → List Message → Type 0
OneWord b handed = (who : Who) (m k : Message) (s u : Said) → In m handed → In k handed → IsWord b who m s → IsWord b who k u
    → (s.replays ≡ u.replays) × (s.locks ≡ u.locks)

module _ (v : Window) (b : ℕ) (handed : List Message) (h : Agrees b handed v.lives v.replays v.brought v.words) where
  -- what a message says that is the life's word by the laws
  pub heard_word : (who : Who) (replayed locked : ℕ) (m : Message) → is_word b who replayed locked m ≡ true → (s : Said) × IsWord b who m s
      × (nat_le s.replays replayed ≡ true) × (nat_le s.locks locked ≡ true)
  heard_word who replayed locked (message.Word other boot replays locks seen) e =
      let p = and_parts (same_life other who && nat_eq boot b && nat_le replays replayed) (nat_le locks locked) e in
      let q = and_parts (same_life other who && nat_eq boot b) (nat_le replays replayed) p.0 in
      let r = and_parts (same_life other who) (nat_eq boot b) q.0 in (
        record { who = other; replays = replays; locks = locks; seen = seen },
        (life_is other who r.0, eqb-true boot b r.1, refl, refl),
        q.1,
        p.1,
      )
  heard_word who replayed locked (message.Join other boot) e =
      let p = and_parts (same_life other who) (nat_eq boot b) e in (
        empty_word other,
        (life_is other who p.0, eqb-true boot b p.1, refl, refl),
        le-leb 0 replayed (omega arith),
        le-leb 0 locked (omega arith),
      )
  heard_word who replayed locked m e = absurd (cc)

  said_word : (who : Who) (replayed locked : ℕ) (m : Message) (s : Said) → IsWord b who m s → nat_le s.replays replayed ≡ true
      → nat_le s.locks locked ≡ true → is_word b who replayed locked m ≡ true
  said_word who replayed locked (message.Word other boot replays locks seen) s w p q =
      let own : same_life other who ≡ true = subst (λ (x : Who). same_life x who ≡ true) (sym w.0) (life_self who) in
      let now : nat_eq boot b ≡ true = eq-eqb boot b w.1 in
      let r : nat_le replays replayed ≡ true = subst (λ (n : ℕ). nat_le n replayed ≡ true) w.2 p in
      let l : nat_le locks locked ≡ true = subst (λ (n : ℕ). nat_le n locked ≡ true) w.3 q in
      rw (own, now, r, l) refl
  said_word who replayed locked (message.Join other boot) s w p q =
      let own : same_life other who ≡ true = subst (λ (x : Who). same_life x who ≡ true) (sym w.0) (life_self who) in
      let now : nat_eq boot b ≡ true = eq-eqb boot b w.1 in
      rw (own, now) refl
  said_word who replayed locked m s w p q = absurd w

  pub back_law : (who : Who) → window.is_back v who ≡ true → (is_life who v.lives ≡ true) × (has_all b who handed ≡ true)
  back_law who e = by (word_of who v.words) refl e
    where
      by : (o : Option Said) → word_of who v.words ≡ o → window.has_all v who o ≡ true → (is_life who v.lives ≡ true)
          × (has_all b who handed ≡ true)
      by None q e = absurd (cc)
      by (Some s) q e =
          let k = h.spoken.said who s q in
          let p = and_parts (nat_le s.replays (length (filter (λ (r : Replayed). same_life r.who who) v.replays)))
          (nat_le s.locks (length (filter (λ (l : Lock). same_life l.ask.who who) v.brought))) e in
          let r : nat_le s.replays (replay_count b who handed) ≡ true =
          subst (λ (n : ℕ). nat_le s.replays n ≡ true) (sym (h.replays_are.count who k.life)) p.0 in
          let l : nat_le s.locks (lock_count b who handed) ≡ true =
          subst (λ (n : ℕ). nat_le s.locks n ≡ true) (sym (h.locks_are.count who k.life)) p.1 in (
            k.life,
            any_passes (is_word b who (replay_count b who handed) (lock_count b who handed)) k.told handed k.among
                (said_word who (replay_count b who handed) (lock_count b who handed) k.told s k.is r l),
          )

  pub law_back : OneWord b handed → (who : Who) → is_life who v.lives ≡ true → has_all b who handed ≡ true → window.is_back v who ≡ true
  law_back one who life e =
      let f = any_true (is_word b who (replay_count b who handed) (lock_count b who handed)) handed e in
      let w = heard_word who (replay_count b who handed) (lock_count b who handed) f.0 f.2 in
      by (word_of who v.words) refl f.0 w.0 f.1 w.1
      (subst (λ (n : ℕ). nat_le w.0.replays n ≡ true) (h.replays_are.count who life) w.2)
      (subst (λ (n : ℕ). nat_le w.0.locks n ≡ true) (h.locks_are.count who life) w.3)
    where
      by : (o : Option Said) → word_of who v.words ≡ o → (m : Message) (s : Said) → In m handed → IsWord b who m s
          → nat_le s.replays (length (filter (λ (r : Replayed). same_life r.who who) v.replays)) ≡ true
          → nat_le s.locks (length (filter (λ (l : Lock). same_life l.ask.who who) v.brought)) ≡ true → window.has_all v who o ≡ true
      by None q m s i w r l = absurd (h.spoken.kept who life m s i w q)
      by (Some u) q m s i w r l =
          let k = h.spoken.said who u q in
          let same = one who m k.told s u i k.among w k.is in
          let x : nat_le u.replays (length (filter (λ (r : Replayed). same_life r.who who) v.replays)) ≡ true =
          subst (λ (n : ℕ). nat_le n (length (filter (λ (r : Replayed). same_life r.who who) v.replays)) ≡ true) same.0 r in
          let y : nat_le u.locks (length (filter (λ (l : Lock). same_life l.ask.who who) v.brought)) ≡ true =
          subst (λ (n : ℕ). nat_le n (length (filter (λ (l : Lock). same_life l.ask.who who) v.brought)) ≡ true) same.1 l in
          rw (x, y) refl
