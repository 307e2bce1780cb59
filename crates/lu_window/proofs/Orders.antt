-- Windows that took the same things, in whatever order, are the same, and so are their outcomes.
use Rattle.std.proofs.Common.{◌≡◌, ◌⊎◌, inl, inr, Bool, true, false, List, [], ◌∷◌, refl, ap, sym, ◌∙◌, subst, arith}
use Rattle.std.proofs.lemmas.Bool.Decides.{nat_tests}
use Rattle.lu_base.specs.declared.ids.Who.{Who}
use Rattle.lu_base.specs.declared.locks.Lock.{Lock}
use Rattle.lu_spec_entries.specs.Carried.{Said}
use Rattle.lu_spec_target.specs.Windows.{Replayed, Window, is_replay, replay_before, cut_seen, is_lock, brought_before, is_word}
use Rattle.lu_spec_target.specs.Windows.{word_before, settled}
use Rattle.lu_window.specs.States.{with_replays, took_replay, took_lock, took_word, took_wish}
use Rattle.lu_window.specs.Orders.{Taken, Replays, Brings, Says, Wishes, took, all_took, IsAmong, Agree, AllAgree, AreTheSame}
use Rattle.lu_window.proofs.Places.{swap, once, once_apart, once_again}
use Rattle.lu_window.proofs.Newest.{wished, wished_either, wished_again}

-- ---- two replays, two locks, two words

replays_either : (r s : Replayed) (replays : List Replayed) → (is_replay r s ≡ true → r ≡ s)
    → once is_replay replay_before cut_seen r (once is_replay replay_before cut_seen s replays)
    ≡ once is_replay replay_before cut_seen s (once is_replay replay_before cut_seen r replays)
replays_either r s replays agree = by (is_replay r s) refl (replay_before r s) refl where
  by : (same : Bool) → is_replay r s ≡ same → (first : Bool) → replay_before r s ≡ first
      → once is_replay replay_before cut_seen r (once is_replay replay_before cut_seen s replays)
      ≡ once is_replay replay_before cut_seen s (once is_replay replay_before cut_seen r replays)
  by true e first f = subst (λ x. once is_replay replay_before cut_seen r (once is_replay replay_before cut_seen x replays)
      ≡ once is_replay replay_before cut_seen x (once is_replay replay_before cut_seen r replays)) (agree e) refl
  by false e true f = once_apart is_replay replay_before cut_seen r s replays e (grind (arith, nat_tests))
      (swap replay_before (cut_seen r) (cut_seen s) replays f (grind (arith, nat_tests)) (λ z h. grind (arith, nat_tests)))
  by false e false f = once_apart is_replay replay_before cut_seen r s replays e (grind (arith, nat_tests))
      (sym (swap replay_before (cut_seen s) (cut_seen r) replays (grind (arith, nat_tests)) f (λ z h. grind (arith, nat_tests))))

locks_either : (l k : Lock) (locks : List Lock) → (is_lock l k ≡ true → l ≡ k)
    → once is_lock brought_before (λ x. x) l (once is_lock brought_before (λ x. x) k locks)
    ≡ once is_lock brought_before (λ x. x) k (once is_lock brought_before (λ x. x) l locks)
locks_either l k locks agree = by (is_lock l k) refl (brought_before l k) refl where
  by : (same : Bool) → is_lock l k ≡ same → (first : Bool) → brought_before l k ≡ first
      → once is_lock brought_before (λ x. x) l (once is_lock brought_before (λ x. x) k locks)
      ≡ once is_lock brought_before (λ x. x) k (once is_lock brought_before (λ x. x) l locks)
  by true e first f = subst (λ x. once is_lock brought_before (λ x. x) l (once is_lock brought_before (λ x. x) x locks)
      ≡ once is_lock brought_before (λ x. x) x (once is_lock brought_before (λ x. x) l locks)) (agree e) refl
  by false e true f = once_apart is_lock brought_before (λ x. x) l k locks e (grind (arith, nat_tests))
      (swap brought_before l k locks f (grind (arith, nat_tests)) (λ z h. grind (arith, nat_tests)))
  by false e false f = once_apart is_lock brought_before (λ x. x) l k locks e (grind (arith, nat_tests))
      (sym (swap brought_before k l locks (grind (arith, nat_tests)) f (λ z h. grind (arith, nat_tests))))

words_either : (w x : Said) (words : List Said) → (is_word w x ≡ true → w ≡ x)
    → once is_word word_before (λ x. x) w (once is_word word_before (λ x. x) x words)
    ≡ once is_word word_before (λ x. x) x (once is_word word_before (λ x. x) w words)
words_either w x words agree = by (is_word w x) refl (word_before w x) refl where
  by : (same : Bool) → is_word w x ≡ same → (first : Bool) → word_before w x ≡ first
      → once is_word word_before (λ x. x) w (once is_word word_before (λ x. x) x words)
      ≡ once is_word word_before (λ x. x) x (once is_word word_before (λ x. x) w words)
  by true e first f = subst (λ y. once is_word word_before (λ x. x) w (once is_word word_before (λ x. x) y words)
      ≡ once is_word word_before (λ x. x) y (once is_word word_before (λ x. x) w words)) (agree e) refl
  by false e true f = once_apart is_word word_before (λ x. x) w x words e (grind (arith, nat_tests))
      (swap word_before w x words f (grind (arith, nat_tests)) (λ z h. grind (arith, nat_tests)))
  by false e false f = once_apart is_word word_before (λ x. x) w x words e (grind (arith, nat_tests))
      (sym (swap word_before x w words (grind (arith, nat_tests)) f (λ z h. grind (arith, nat_tests))))

-- ---- any two things

either : (one other : Taken) (v : Window) → Agree one other → took one (took other v) ≡ took other (took one v)
either (Replays r) (Replays s) v agree = ap (λ replays. with_replays replays v) (replays_either r s v.replays agree)
either (Replays r) (Brings l) v agree = refl
either (Replays r) (Says w) v agree = refl
either (Replays r) (Wishes who) v agree = refl
either (Brings l) (Replays r) v agree = refl
either (Brings l) (Brings k) v agree = ap (λ (locks : List Lock). record
    { lives = v.lives; committed = v.committed; replays = v.replays; brought = locks; words = v.words; wishes = v.wishes })
    (locks_either l k v.brought agree)
either (Brings l) (Says w) v agree = refl
either (Brings l) (Wishes who) v agree = refl
either (Says w) (Replays r) v agree = refl
either (Says w) (Brings l) v agree = refl
either (Says w) (Says x) v agree = ap (λ (words : List Said). record
    { lives = v.lives; committed = v.committed; replays = v.replays; brought = v.brought; words = words; wishes = v.wishes })
    (words_either w x v.words agree)
either (Says w) (Wishes who) v agree = refl
either (Wishes who) (Replays r) v agree = refl
either (Wishes who) (Brings l) v agree = refl
either (Wishes who) (Says w) v agree = refl
either (Wishes who) (Wishes life) v agree = ap (λ (wishes : List Who). record
    { lives = v.lives; committed = v.committed; replays = v.replays; brought = v.brought; words = v.words; wishes = wishes })
    (wished_either who life v.wishes)

again : (one : Taken) (v : Window) → took one (took one v) ≡ took one v
again (Replays r) v = ap (λ replays. with_replays replays v) (once_again is_replay replay_before cut_seen r v.replays
    (grind (arith, nat_tests)))
again (Brings l) v = ap (λ (locks : List Lock). record {
  lives = v.lives;
  committed = v.committed;
  replays = v.replays;
  brought = locks;
  words = v.words;
  wishes = v.wishes;
}) (once_again is_lock brought_before (λ x. x) l v.brought (grind (arith, nat_tests)))
again (Says w) v = ap (λ (words : List Said). record {
  lives = v.lives;
  committed = v.committed;
  replays = v.replays;
  brought = v.brought;
  words = words;
  wishes = v.wishes;
}) (once_again is_word word_before (λ x. x) w v.words (grind (arith, nat_tests)))
again (Wishes who) v = ap (λ (wishes : List Who). record {
  lives = v.lives;
  committed = v.committed;
  replays = v.replays;
  brought =
      v.brought;
  words = v.words;
  wishes = wishes;
}) (wished_again who v.wishes)

-- ---- lists of things

-- first or last
last : (t : Taken) (ts : List Taken) (v : Window) → ((o : Taken) → IsAmong o ts → Agree t o) → all_took ts (took t v)
    ≡ took t (all_took ts v)
last t [] v agree = refl
last t (o ∷ ts) v agree =
    ap (all_took ts) (sym (either t o v (agree o (inl refl)))) ∙ last t ts (took o v) (λ other h. agree other (inr h))

-- what was taken already
absorbed : (t : Taken) (ts : List Taken) (v : Window) → IsAmong t ts → ((o : Taken) → IsAmong o ts → Agree t o) → took t (all_took ts v)
    ≡ all_took ts v
absorbed t [] v h agree = absurd h
absorbed t (o ∷ ts) v (inl e) agree =
    subst (λ one. took t (all_took ts (took one v)) ≡ all_took ts (took one v)) e
    (ap (took t) (last t ts v (λ other h. agree other (inr h))) ∙ again t (all_took ts v)
    ∙ sym (last t ts v (λ other h. agree other (inr h))))
absorbed t (o ∷ ts) v (inr h) agree = absorbed t ts (took o v) h (λ other k. agree other (inr k))

within : (ts us : List Taken) (v : Window) → ((t : Taken) → IsAmong t ts → IsAmong t us) → AllAgree us → all_took ts (all_took us v)
    ≡ all_took us v
within [] us v there agree = refl
within (t ∷ ts) us v there agree =
    ap (all_took ts) (absorbed t us v (there t (inl refl)) (λ o h. agree t o (there t (inl refl)) h))
    ∙ within ts us v (λ o h. there o (inr h)) agree

both : (ts us : List Taken) (v : Window) → ((t : Taken) → IsAmong t ts → IsAmong t us) → AllAgree us → all_took ts (all_took us v)
    ≡ all_took us (all_took ts v)
both [] us v there agree = refl
both (t ∷ ts) us v there agree =
    ap (all_took ts) (sym (last t us v (λ o h. agree t o (there t (inl refl)) h)))
    ∙ both ts us (took t v) (λ o h. there o (inr h)) agree

-- a window that takes the same things in another order, or some of them again, is the same
pub any_order : (ts us : List Taken) (v : Window) → AllAgree ts → AreTheSame ts us → all_took ts v ≡ all_took us v
any_order ts us v agree same =
    sym (within us ts v same.1 agree)
    ∙ sym (both ts us v same.0 (λ one other h k. agree one other (same.1 one h) (same.1 other k)))
    ∙ within ts us v same.0 (λ one other h k. agree one other (same.1 one h) (same.1 other k))

-- and what its close decides is the same
pub one_outcome : (ts us : List Taken) (v : Window) → AllAgree ts → AreTheSame ts us → settled (all_took ts v) ≡ settled (all_took us v)
one_outcome ts us v agree same = ap settled (any_order ts us v agree same)
