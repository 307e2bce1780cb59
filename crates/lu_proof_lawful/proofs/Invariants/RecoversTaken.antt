-- What a target that recovers takes is what lives told it: each replay and each lock once, in order, the first word of each life, and of
-- each client the newest life that wishes to join.
use Rattle.std.proofs.Common.{◌≡◌, ℕ, ◌<◌, ◌≤◌, Bool, true, false, List, [], ◌∷◌, Option, Some, None, ◌⊎◌, inl, inr, ⊎_elim, refl, sym}
use Rattle.std.proofs.Common.{subst, ap, ◌∙◌, arith}
use Rattle.std.specs.Prelude.{if◌then◌else◌, length}
use Rattle.std.specs.List.{list_any}
use Rattle.std.proofs.lemmas.Bool.{cond_both, or_parts}
use Rattle.std.proofs.lemmas.Bool.Decides.{nat_tests}
use Rattle.lu_base.specs.declared.ids.Node.{Node}
use Rattle.lu_base.specs.declared.ids.Node.TheVariants.{Target}
use Rattle.lu_base.specs.declared.ids.Stamp.{Stamp}
use Rattle.lu_base.specs.declared.ids.Who.{Who}
use Rattle.lu_base.specs.declared.locks.Lock.{Lock}
use Rattle.lu_msg.specs.declared.messages.Message.{Message}
use Rattle.lu_msg.specs.declared.messages.Message.TheVariants as message
use Rattle.lu_msg.specs.declared.messages.RequestReplay.{RequestReplay}
use Rattle.lu_spec_entries.specs.Carried.{Said}
use Rattle.lu_spec_entries.specs.Words.{Stores, Brings, Says, Wishes, Line, line, same_life}
use Rattle.lu_spec_target.specs.Kept.{replayed}
use Rattle.lu_spec_target.specs.Recovery.{cut, empty_word}
use Rattle.lu_spec_target.specs.Rows.{lock_again}
use Rattle.lu_spec_target.specs.Windows.{Replayed, placed, replay_before, with_replay, brought_before, with_brought, word_before, with_word}
use Rattle.lu_spec_target.specs.Windows.{cut_seen, is_replay, is_lock, word_of}
use Rattle.lu_spec_client.specs.Recovery.{lock_replayed}
use Rattle.lu_proof_lawful.specs.Covered.TargetStates.{server_of, replays_of, brought_of, words_of, wishes_of}
use Rattle.lu_proof_lawful.specs.Covered.ClientStates.{life_of, known_of}
use Rattle.lu_proof_lawful.specs.Covered.Heads.{Head}
use Rattle.lu_proof_lawful.proofs.Preconditions.Guards.{In}
use Rattle.lu_proof_lawful.proofs.Preconditions.StoryGuards.{KeepsOk, StoresOk, BringsOk, SaysOk, WishesOk}
use Rattle.lu_proof_lawful.proofs.Preconditions.Lists.{life_is}
use Rattle.lu_proof_lawful.proofs.Preconditions.ClientLocks.{any_false}
use Rattle.lu_proof_lawful.proofs.Preconditions.CloseLists.{in_placed, in_wish, each_wish}
use Rattle.lu_proof_lawful.proofs.Invariants.Groups.{turn, ReplayedRise, BroughtRise, Replays, Relocks, Worded, NothingOf, ToldIn, Recovers}
use Rattle.lu_proof_lawful.proofs.Invariants.Groups.{HoldsAt}
use Rattle.lu_proof_lawful.proofs.Invariants.TargetGroups.{HasSlot, boot_told, who_told}

-- ---- lists in order

replay_trans : (a b c : Replayed) → replay_before a b ≡ true → replay_before b c ≡ true → replay_before a c ≡ true
replay_trans a b c p q = grind (arith, nat_tests)

replay_else : (a b : Replayed) → is_replay a b ≡ false → replay_before a b ≡ false → replay_before b a ≡ true
replay_else a b n p = grind (arith, nat_tests)

pub replayed_rises : (r : Replayed) (rs : List Replayed) → list_any (is_replay r) rs ≡ false → ReplayedRise rs
    → ReplayedRise (with_replay r rs)
replayed_rises r [] n o = ((λ s i. absurd i), tt)
replayed_rises r (s ∷ rs) n o = by (replay_before r s) refl (replayed_rises r rs (rest n) o.1)
  where
    rest : list_any (is_replay r) (s ∷ rs) ≡ false → list_any (is_replay r) rs ≡ false
    rest n = (or_parts (is_replay r s) (list_any (is_replay r) rs) n).1

    by : (b : Bool) → replay_before r s ≡ b → ReplayedRise (with_replay r rs)
        → ReplayedRise (if b then r ∷ s ∷ rs else s ∷ placed replay_before r rs)
    by true e ih = (first, o)
      where
        first : (x : Replayed) → (s ≡ x) ⊎ In x rs → replay_before r x ≡ true
        first x (inl q) = subst (λ (v : Replayed). replay_before r v ≡ true) q e
        first x (inr i) = replay_trans r s x e (o.0 x i)
    by false e ih = (
      λ x i. ⊎_elim (λ (q : r ≡ x). subst (λ (v : Replayed). replay_before s v ≡ true) q
          (replay_else r s (any_false (is_replay r) (s ∷ rs) n s (inl refl)) e)) (λ (j : In x rs). o.0 x j)
          (in_placed replay_before r x rs i),
      ih,
    )

brought_trans : (a b c : Lock) → brought_before a b ≡ true → brought_before b c ≡ true → brought_before a c ≡ true
brought_trans a b c p q = grind (arith, nat_tests)

brought_else : (a b : Lock) → is_lock a b ≡ false → brought_before a b ≡ false → brought_before b a ≡ true
brought_else a b n p = grind (arith, nat_tests)

pub brought_rises : (l : Lock) (ls : List Lock) → list_any (is_lock l) ls ≡ false → BroughtRise ls → BroughtRise (with_brought l ls)
brought_rises l [] n o = ((λ s i. absurd i), tt)
brought_rises l (k ∷ ls) n o = by (brought_before l k) refl (brought_rises l ls (rest n) o.1)
  where
    rest : list_any (is_lock l) (k ∷ ls) ≡ false → list_any (is_lock l) ls ≡ false
    rest n = (or_parts (is_lock l k) (list_any (is_lock l) ls) n).1

    by : (b : Bool) → brought_before l k ≡ b → BroughtRise (with_brought l ls)
        → BroughtRise (if b then l ∷ k ∷ ls else k ∷ placed brought_before l ls)
    by true e ih = (first, o)
      where
        first : (x : Lock) → (k ≡ x) ⊎ In x ls → brought_before l x ≡ true
        first x (inl q) = subst (λ (v : Lock). brought_before l v ≡ true) q e
        first x (inr i) = brought_trans l k x e (o.0 x i)
    by false e ih = (
      λ x i. ⊎_elim (λ (q : l ≡ x). subst (λ (v : Lock). brought_before k v ≡ true) q
          (brought_else l k (any_false (is_lock l) (k ∷ ls) n k (inl refl)) e)) (λ (j : In x ls). o.0 x j)
          (in_placed brought_before l x ls i),
      ih,
    )

-- a word that is found is the new one, of its life, or was found
pub word_found : (word : Said) (words : List Said) (who : Who) (w : Said) → word_of who (with_word word words) ≡ Some w
    → ((word ≡ w) × (word.who ≡ who)) ⊎ (word_of who words ≡ Some w)
word_found word [] who w e =
    cond_both (same_life word.who who) (Some word) None (λ (o : Option Said). o ≡ Some w → ((word ≡ w) × (word.who ≡ who))
    ⊎ (None ≡ Some w))
    (λ t q. let is : word ≡ w = cc in inl (is, life_is word.who who t))
    (λ t q. inr q)
    e
word_found word (x ∷ words) who w e = by (word_before word x) (λ q. word_found word words who w q) e
  where
    here : (o : Option Said) → (if same_life word.who who then Some word else o) ≡ Some w → ((word ≡ w) × (word.who ≡ who)) ⊎ (o ≡ Some w)
    here o q =
        cond_both (same_life word.who who) (Some word) o (λ (v : Option Said). v ≡ Some w → ((word ≡ w) × (word.who ≡ who)) ⊎ (o ≡ Some w))
        (λ t p. let is : word ≡ w = cc in inl (is, life_is word.who who t))
        (λ t p. inr p)
        q

    by : (b : Bool) → (word_of who (with_word word words) ≡ Some w → ((word ≡ w) × (word.who ≡ who)) ⊎ (word_of who words ≡ Some w))
        → word_of who (if b then word ∷ x ∷ words else x ∷ placed word_before word words) ≡ Some w
        → ((word ≡ w) × (word.who ≡ who)) ⊎ (word_of who (x ∷ words) ≡ Some w)
    by true ih q = here (word_of who (x ∷ words)) q
    by false ih q = there (same_life x.who who) q
      where
        there : (b : Bool) → (if b then Some x else word_of who (with_word word words)) ≡ Some w → ((word ≡ w) × (word.who ≡ who))
            ⊎ ((if b then Some x else word_of who words) ≡ Some w)
        there true q = inr q
        there false q = ih q

-- ---- what a message told that is taken

-- a newer life than one of its client that has a slot, which asked for one
abbrev Wished : Head → List Line → Who → Type 0
Wished head past x = (old : Who) × HasSlot head.clients past old × (old.client ≡ x.client) × (old.life < x.life)
    × (x.life ≤ (life_of x.client past).life) × ((server_of head.osts past).boot ≤ known_of x.client past)

module _ (head : Head) (past : List Line) (stamp : Stamp) (t : ℕ) (h : HoldsAt head past) where
  -- its client knows the boot
  taken_knows : (from : Node) (m : Message) (who : Who) (boot : ℕ) → KeepsOk head past (turn stamp (Target t)) t from m who boot
      → boot_told m ≡ boot → (server_of head.osts past).boot ≤ known_of (who_told m).client past
  taken_knows from m who boot k e = let le = h.lives.knew from (Target t) m k.was in let b = k.of_boot in omega (arith, le, b, e)

  -- and it is true
  taken_told : (from : Node) (m : Message) (boot : ℕ) → KeepsOk head past (turn stamp (Target t)) t from m (who_told m) boot → boot_told m
      ≡ boot → ToldIn past m
  taken_told from m boot k e = h.recovers.told from (Target t) m k.was k.recovers (let b = k.of_boot in omega (arith, b, e)) k.has

  pub recovers_stores : (r : RequestReplay) → StoresOk head past (turn stamp (Target t)) t r
      → Recovers head.osts head.clients (line (turn stamp (Target t)) (Stores r) ∷ past)
  recovers_stores r ok =
      record {
        told = h.recovers.told;
        replays = λ off s i. ⊎_elim
            (λ (e : replayed r ≡ s). subst (λ (v : Replayed). HasSlot head.clients past v.who
            × ((server_of head.osts past).boot ≤ known_of v.who.client past) × Replays past v) e stored)
            (λ (j : In s (replays_of past)). h.recovers.replays off s j)
            (in_placed replay_before (replayed r) s (replays_of past) i);
        replays_rise = subst (λ (v : RequestReplay). ReplayedRise (with_replay (replayed v) (replays_of past))) (sym ok.is)
            (replayed_rises (replayed (cut ok.given)) (replays_of past) ok.new h.recovers.replays_rise);
        brought = h.recovers.brought;
        brought_rise = h.recovers.brought_rise;
        words = h.recovers.words;
        wishes = h.recovers.wishes;
        wishes_rise = h.recovers.wishes_rise;
        holds = h.recovers.holds;
        bare = h.recovers.bare;
        told_as = h.recovers.told_as;
        later = h.recovers.later;
        hears = λ at c u f k q i. absurd i;
      }
    where
      from_it : Replays past (replayed (cut ok.given))
      from_it =
          let told = taken_told ok.from (message.Replay ok.given) ok.given.boot ok.keeps refl in
          (told.0, told.1, ap (λ (v : RequestReplay). cut_seen (replayed v)) told.2)

      stored : HasSlot head.clients past (replayed r).who × ((server_of head.osts past).boot ≤ known_of (replayed r).who.client past)
          × Replays past (replayed r)
      stored =
          subst (λ (v : RequestReplay). HasSlot head.clients past (replayed v).who
          × ((server_of head.osts past).boot ≤ known_of (replayed v).who.client past) × Replays past (replayed v)) (sym ok.is)
          (ok.keeps.has, taken_knows ok.from (message.Replay ok.given) ok.given.who ok.given.boot ok.keeps refl, from_it)

  pub recovers_brings : (l : Lock) → BringsOk head past (turn stamp (Target t)) t l
      → Recovers head.osts head.clients (line (turn stamp (Target t)) (Brings l) ∷ past)
  recovers_brings l ok =
      record {
        told = h.recovers.told;
        replays = h.recovers.replays;
        replays_rise = h.recovers.replays_rise;
        brought = λ off k i. ⊎_elim
            (λ (e : l ≡ k). subst (λ (v : Lock). HasSlot head.clients past v.ask.who
            × ((server_of head.osts past).boot ≤ known_of v.ask.who.client past) × Relocks past v) e given)
            (λ (j : In k (brought_of past)). h.recovers.brought off k j)
            (in_placed brought_before l k (brought_of past) i);
        brought_rise = brought_rises l (brought_of past) ok.new h.recovers.brought_rise;
        words = h.recovers.words;
        wishes = h.recovers.wishes;
        wishes_rise = h.recovers.wishes_rise;
        holds = h.recovers.holds;
        bare = h.recovers.bare;
        told_as = h.recovers.told_as;
        later = h.recovers.later;
        hears = λ at c u f k q i. absurd i;
      }
    where
      told : ToldIn past (message.Lock ok.given)
      told = taken_told ok.from (message.Lock ok.given) ok.given.boot ok.keeps refl

      again : (k : Lock) (who : Who) (boot : ℕ) → k.ask.who ≡ who → lock_again (lock_replayed who boot k) ≡ k
      again k who boot e = subst (λ (w : Who). lock_again (lock_replayed w boot k) ≡ k) e refl

      is_it : (k : Lock) × Relocks past k × (k.ask.who ≡ ok.given.who) × (ok.given ≡ lock_replayed ok.given.who ok.given.boot k)
          → Relocks past (lock_again ok.given)
      is_it q = subst (Relocks past) (sym (ap lock_again q.3 ∙ again q.0 ok.given.who ok.given.boot q.2)) q.1

      given : HasSlot head.clients past l.ask.who × ((server_of head.osts past).boot ≤ known_of l.ask.who.client past) × Relocks past l
      given =
          subst (λ (v : Lock). HasSlot head.clients past v.ask.who × ((server_of head.osts past).boot ≤ known_of v.ask.who.client past)
          × Relocks past v) (sym ok.is)
          (ok.keeps.has, taken_knows ok.from (message.Lock ok.given) ok.given.who ok.given.boot ok.keeps refl, is_it told)

  pub recovers_says : (said : Said) → SaysOk head past (turn stamp (Target t)) t said
      → Recovers head.osts head.clients (line (turn stamp (Target t)) (Says said) ∷ past)
  recovers_says said ok =
      record {
        told = h.recovers.told;
        replays = h.recovers.replays;
        replays_rise = h.recovers.replays_rise;
        brought = h.recovers.brought;
        brought_rise = h.recovers.brought_rise;
        words = λ off who w e. ⊎_elim
            (λ (q : (said ≡ w) × (said.who ≡ who)).
            subst (λ (v : Said). (v.who ≡ who) × HasSlot head.clients past who
            × ((server_of head.osts past).boot ≤ known_of who.client past) × Worded past who v.replays v.locks v.seen) q.0
            (subst (λ (x : Who). (said.who ≡ x) × HasSlot head.clients past x × ((server_of head.osts past).boot ≤ known_of x.client past)
            × Worded past x said.replays said.locks said.seen) q.1 (said_it ok.keeps)))
            (λ (q : word_of who (words_of past) ≡ Some w). h.recovers.words off who w q)
            (word_found said (words_of past) who w e);
        wishes = h.recovers.wishes;
        wishes_rise = h.recovers.wishes_rise;
        holds = h.recovers.holds;
        bare = h.recovers.bare;
        told_as = h.recovers.told_as;
        later = h.recovers.later;
        hears = λ at c u f k q i. absurd i;
      }
    where
      from_nothing : NothingOf past said.who → Worded past said.who 0 0 []
      from_nothing n = (ap length (sym n.0), sym n.1, subst (λ (ks : List Lock). length ks ≤ 0) (sym n.3) (omega arith))

      said_it : KeepsOk head past (turn stamp (Target t)) t ok.from (message.Word said.who ok.boot said.replays said.locks said.seen)
          said.who ok.boot ⊎ ((said ≡ empty_word said.who) × KeepsOk head past (turn stamp (Target t)) t ok.from
          (message.Join said.who ok.boot) said.who ok.boot)
          → (said.who ≡ said.who) × HasSlot head.clients past said.who × ((server_of head.osts past).boot ≤ known_of said.who.client past)
          × Worded past said.who said.replays said.locks said.seen
      said_it (inl k) =
          let m = message.Word said.who ok.boot said.replays said.locks said.seen in
          (refl, k.has, taken_knows ok.from m said.who ok.boot k refl, taken_told ok.from m ok.boot k refl)
      said_it (inr k) =
          let m = message.Join said.who ok.boot in (
            refl,
            k.1.has,
            taken_knows ok.from m said.who ok.boot k.1 refl,
            subst (λ (v : Said). Worded past said.who v.replays v.locks v.seen) (sym k.0)
                (from_nothing (taken_told ok.from m ok.boot k.1 refl)),
          )

  pub recovers_wishes : (who : Who) → WishesOk head past (turn stamp (Target t)) t who
      → Recovers head.osts head.clients (line (turn stamp (Target t)) (Wishes who) ∷ past)
  recovers_wishes who ok =
      record {
        told = h.recovers.told;
        replays = h.recovers.replays;
        replays_rise = h.recovers.replays_rise;
        brought = h.recovers.brought;
        brought_rise = h.recovers.brought_rise;
        words = h.recovers.words;
        wishes = λ off x i. ⊎_elim
            (λ (e : who ≡ x). subst (Wished head past) e wished)
            (λ (j : In x (wishes_of past)). h.recovers.wishes off x j)
            (in_wish x who (wishes_of past) i);
        wishes_rise = each_wish who (wishes_of past) h.recovers.wishes_rise;
        holds = h.recovers.holds;
        bare = h.recovers.bare;
        told_as = h.recovers.told_as;
        later = h.recovers.later;
        hears = λ at c u f k q i. absurd i;
      }
    where
      wished : Wished head past who
      wished = (
        ok.old,
        ok.keeps.has,
        ok.client,
        ok.newer,
        h.done.sent ok.from (Target t) (message.Join who ok.boot) ok.keeps.was,
        taken_knows ok.from (message.Join who ok.boot) ok.old ok.boot ok.keeps refl,
      )
