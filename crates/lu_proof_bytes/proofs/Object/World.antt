-- All that is so after each entry, and the laws.
use Rattle.std.proofs.Common.{◌≡◌, ℕ, ⊎_elim, List, [], ◌∷◌, Bool, true, false, refl}
use Rattle.std.specs.Prelude.{if◌then◌else◌, ◌&&◌, ◌||◌, not}
use Rattle.std.proofs.lemmas.Bool.{both_ways}
use Rattle.lu_proof_bytes.specs.Object.Words.{Op, Enqueue, Get, Flush, Size, Granted, Waiting, Content, Done, Sized, Uncovered, Did, Saw}
use Rattle.lu_proof_bytes.specs.Object.Words.{Entry, Takes, Flies, Heard, Hold, Drop, Forgets, Tells, Grant, Wait, Promote, Acts, Txn}
use Rattle.lu_proof_bytes.specs.Object.Words.{Release, Evict, Commit, Close, Send}
use Rattle.lu_proof_bytes.specs.Object.Folds.{also, nothing_lost, evicted}
use Rattle.lu_proof_bytes.specs.Object.History.{Made, Read, piece_item, history, Right, History, Locks}
use Rattle.lu_proof_bytes.specs.Object.Guards.{KeptFor, Allowed, AllAllowed}
use Rattle.lu_proof_bytes.proofs.Object.Numbers.{Numbers, numbers_line}
use Rattle.lu_proof_bytes.proofs.Object.Locks.{Lockings, locks_line, locks_at}
use Rattle.lu_proof_bytes.proofs.Object.Kept.{kept_less, kept_same, kept_outs}
use Rattle.lu_proof_bytes.proofs.Object.Patches.{Patches, patches_line}
use Rattle.lu_proof_bytes.proofs.Object.Facts.{Outs, closes as facts_closes, Facts, facts_line}
use Rattle.lu_proof_bytes.proofs.Object.Ends.{closes as ends_closes, Ends, ends_line}
use Rattle.lu_proof_bytes.proofs.Object.Views.{Views, views_line, outs_less, saw_right}
use Rattle.lu_proof_bytes.proofs.Object.Narrow.{closes as narrow_closes, Narrows, narrows_line, narrow_right}

-- what holds for any lives that will be out and any transactions that will be lost
pub record Later (out lost : ℕ → Bool) (h : List Entry) : Type 0 where
  pub facts : Facts out lost h
  pub ends : Ends out lost h
  pub views : Views out lost h
  pub narrows : Narrows out lost h
  pub right : Right (history out lost h)

-- all that is so after a story; what speaks of the history for any lives that will be out and any transactions that will be lost
pub record World (h : List Entry) : Type 0 where
  pub numbers : Numbers h
  pub locks : Lockings h
  pub patches : Patches h
  pub later : (out lost : ℕ → Bool) → Outs out h → KeptFor out lost h → Later out lost h
  pub lawful : Locks h

right_line : (out lost : ℕ → Bool) (h : List Entry) (e : Entry) → Outs out h → ((d : ℕ) (l gone : ℕ → Bool) → e ≡ Close d l gone → ⊥)
    → Numbers h → Lockings h → Patches h → Later out lost h → Allowed h e → Right (history out lost (e ∷ h))
right_line out lost h (Close d l gone) s no_close nu lk pt w ok = absurd (no_close d l gone refl)
right_line out lost h (Tells d (Saw at n vs)) s no_close nu lk pt w ok = by (out d) refl
  where
    by : (v : Bool) → out d ≡ v → Right (if v then history out lost h else Read d at n vs ∷ history out lost h)
    by true o = w.right
    by false o = (
      ⊎_elim (λ r. saw_right out lost h d at n vs s nu lk pt w.facts w.ends w.views r o)
          (λ r. narrow_right out lost h d at n vs s nu lk pt w.facts w.views w.narrows r o) ok,
      w.right,
    )
right_line out lost h (Tells d (Did j ch)) s no_close nu lk pt w ok = by (out d)
  where
    by : (v : Bool) → Right (if v then history out lost h else Made d ch ∷ history out lost h)
    by true = w.right
    by false = w.right
right_line out lost h (Txn m r) s no_close nu lk pt w ok = by (out r.life && not (lost m)) r.op
  where
    by : (v : Bool) (op : Op) → Right (if v then piece_item r.life op (history out lost h) else history out lost h)
    by false op = w.right
    by true (Flush k ch) = w.right
    by true (Get k at n) = w.right
    by true (Enqueue a b t) = w.right
    by true Size = w.right
right_line out lost h _ s no_close nu lk pt w ok = w.right

later_line : (h : List Entry) (e : Entry) → World h → Allowed h e → ((d : ℕ) (l gone : ℕ → Bool) → e ≡ Close d l gone → ⊥)
    → (out lost : ℕ → Bool) → Outs out (e ∷ h) → KeptFor out lost (e ∷ h) → Later out lost (e ∷ h)
later_line h e w ok nc out lost s k =
    let t = outs_less out h e s in
    let a = w.later out lost t (kept_less out lost h e nc k) in
    record {
      facts = facts_line out lost h e t k nc w.numbers w.locks w.patches a.facts ok;
      ends = ends_line out lost h e t k nc w.numbers w.locks w.patches a.facts a.ends ok;
      views = views_line out lost h e t k nc w.numbers w.locks w.patches a.facts a.views ok;
      narrows = narrows_line out lost h e t k nc w.numbers w.locks w.patches a.views a.narrows ok;
      right = right_line out lost h e t nc w.numbers w.locks w.patches a ok;
    }

-- a close makes more transactions lost; all that was said of those holds
later_close : (h : List Entry) (b : ℕ) (l gone : ℕ → Bool) → World h → (out lost : ℕ → Bool) → Outs out (Close b l gone ∷ h)
    → KeptFor out (also lost l) h → Later out lost (Close b l gone ∷ h)
later_close h b l gone w out lost s k =
    let a = w.later out (also lost l) (outs_less out h (Close b l gone) s) k in
    record {
      facts = facts_closes out lost b l gone h a.facts;
      ends = ends_closes out lost b l gone h a.ends;
      views = record { seen = a.views.seen; rest = a.views.rest };
      narrows = narrow_closes out lost b l gone h a.narrows;
      right = a.right;
    }

later_any : (h : List Entry) (e : Entry) → World h → Allowed h e → (out lost : ℕ → Bool) → Outs out (e ∷ h) → KeptFor out lost (e ∷ h)
    → Later out lost (e ∷ h)
later_any h (Close b l gone) w ok out lost s k = later_close h b l gone w out lost s k
later_any h e w ok out lost s k = later_line h e w ok (λ d l gone q. absurd (cc)) out lost s k

nothing : World []
nothing = record {
  numbers = record {
    olds = λ m i. absurd i;
    asks = λ r i. absurd i;
    flies = λ c q e. absurd (cc);
    answers = λ c x a i. absurd i;
    replies = λ c x a i. absurd i;
    granted = λ c x l s sn i. absurd i;
    gives = λ b l s sn i. absurd i;
    blocks = λ b c k i. absurd i;
    held = λ l i. absurd i;
    is_granted = λ l i. absurd i;
    tops = λ l i. absurd i;
    waits = λ l i. absurd i;
    brings = λ c x k a i t. absurd i;
    positive = λ n p i. absurd i;
  };
  locks = record {
    clash = λ l m i j c. absurd i;
    unique = λ l m i j p. absurd i;
    waiting = λ w l i j. absurd i;
    await = λ c k e. absurd (cc);
    held = λ l i. absurd i;
    dropped = λ l i. absurd i;
    cancels = λ b c k i low. absurd i;
    alive = λ l i. absurd i;
  };
  patches = record {
    cover = λ c p e. absurd (cc);
    flown = λ c p e. absurd (cc);
    run = λ c b e. absurd (cc);
    under = λ c b e. absurd (cc);
    flush = λ c k ch r e. absurd (cc);
    gets = λ c k at n r e. absurd (cc);
    cuts = λ c q e. absurd (cc);
  };
  later = λ out lost s k. record {
    facts = record { known = λ c p v o e. absurd (cc); got = λ c r vs t sn o f a fr. absurd a; done = λ c p r m o f a z. absurd a };
    ends = record { coming = λ l s sn a v g nh nd last. absurd g; kept = λ l e i v last k. absurd i };
    views = record { seen = λ c p o t. absurd (cc); rest = λ p u. refl };
    narrows = record {
      coming = λ c r k at n vs s sn o f op a fr l i e cookie u last q cov low. absurd i;
      shown =
          λ l s o i e u last q cov low. absurd i;
    };
    right = tt;
  };
  lawful = tt;
}

pub world : (h : List Entry) → AllAllowed h → World h
world [] all = nothing
world (e ∷ h) all =
    let w = world h all.1 in
    let ok = all.0 in
    let numbers = numbers_line h e w.numbers ok in
    let locks = locks_line h e w.numbers w.locks ok in
    record {
      numbers = numbers;
      locks = locks;
      patches = patches_line h e w.numbers w.locks w.patches ok;
      later = λ out lost s k. later_any h e w ok out lost s k;
      lawful = (locks_at (e ∷ h) numbers locks, w.lawful);
    }

both_out : (out : ℕ → Bool) (h : List Entry) (b : ℕ) (l gone : ℕ → Bool) → Outs out (Close b l gone ∷ h) → (c : ℕ) → out c ≡ false
    → (gone c || evicted c h) ≡ false
both_out out h b l gone s c o = by (gone c || evicted c h) refl
  where
    by : (v : Bool) → (gone c || evicted c h) ≡ v → (gone c || evicted c h) ≡ false
    by false e = e
    by true e = absurd (both_ways (out c) o (s c e))

-- at the end nothing more is lost than the closes lost
pub kept_none : (h : List Entry) → AllAllowed h → (out : ℕ → Bool) → Outs out h → KeptFor out nothing_lost h
kept_none [] all out s = tt
kept_none (Close b l gone ∷ h) all out s = kept_same out l (also nothing_lost l) h (λ n. refl)
    (kept_outs (λ c. gone c || evicted c h) out l h (both_out out h b l gone s) all.0.kept)
kept_none (Heard r (Done n) ∷ h) all out s = (λ o. refl, kept_none h all.1 out s)
kept_none (Heard r (Content vs t sn) ∷ h) all out s = (λ o n i. refl, kept_none h all.1 out s)
kept_none (Heard r (Granted k z sn) ∷ h) all out s = (λ o. tt, kept_none h all.1 out s)
kept_none (Heard r (Waiting k) ∷ h) all out s = (λ o. tt, kept_none h all.1 out s)
kept_none (Heard r (Sized z) ∷ h) all out s = (λ o. tt, kept_none h all.1 out s)
kept_none (Heard r Uncovered ∷ h) all out s = (λ o. tt, kept_none h all.1 out s)
kept_none (Hold k z sn ∷ h) all out s = (λ o n i. refl, kept_none h all.1 out s)
kept_none (Commit m ∷ h) all out s = (λ n i. refl, kept_none h all.1 out s)
kept_none (Evict d ∷ h) all out s = kept_none h all.1 out (outs_less out h (Evict d) s)
kept_none (Takes c k ch ∷ h) all out s = kept_none h all.1 out s
kept_none (Flies r ∷ h) all out s = kept_none h all.1 out s
kept_none (Drop l ∷ h) all out s = kept_none h all.1 out s
kept_none (Forgets c ∷ h) all out s = kept_none h all.1 out s
kept_none (Tells c call ∷ h) all out s = kept_none h all.1 out s
kept_none (Grant r l z sn ∷ h) all out s = kept_none h all.1 out s
kept_none (Wait r l ∷ h) all out s = kept_none h all.1 out s
kept_none (Promote l ∷ h) all out s = kept_none h all.1 out s
kept_none (Acts r a ∷ h) all out s = kept_none h all.1 out s
kept_none (Txn m r ∷ h) all out s = kept_none h all.1 out s
kept_none (Release k ∷ h) all out s = kept_none h all.1 out s
kept_none (Send m ∷ h) all out s = kept_none h all.1 out s

-- for every set of lives out that has all evicted so far, and every set of numbers lost that fits
pub any_right : (h : List Entry) → AllAllowed h → (out lost : ℕ → Bool) → Outs out h → KeptFor out lost h → Right (history out lost h)
any_right h all out lost s k = ((world h all).later out lost s k).right

-- the law of locks and that of the history
pub allowed_lawful : (h : List Entry) → AllAllowed h → Locks h × History h
allowed_lawful h all = (
  (world h all).lawful,
  any_right h all (λ c. evicted c h) nothing_lost (λ c e. e)
      (kept_none h all (λ c. evicted c h) (λ c e. e)),
)
