-- The law at one line, from what its tables say.
use Rattle.std.proofs.Common.{◌≡◌, ℕ, ◌<◌, ◌≤◌, Bool, true, false, List, [], ◌∷◌, refl, ap, sym, ◌∙◌, subst, arith}
use Rattle.std.specs.Prelude.{◌+◌, ◌==◌, ◌||◌, not, Option, Some, None, IsTrue, ◌↔◌}
use Rattle.lu_base.specs.declared.ids.At.{At}
use Rattle.lu_base.specs.declared.ids.Who.{Who}
use Rattle.lu_base.specs.declared.locks.Cause.{Cause}
use Rattle.lu_base.specs.declared.locks.Lock.{Lock as LockOf}
use Rattle.lu_trace.specs.declared.entries.Line.{Line}
use Rattle.lu_spec_machine.specs.Footprint.{Every}
use Rattle.lu_spec_laws.specs.Words.Pasts.{Past}
use Rattle.lu_spec_laws.specs.Words.Handed.{is_back, has_newer}
use Rattle.lu_spec_laws.specs.Words.Scopes.{any_in, any_later}
use Rattle.lu_spec_laws.specs.Words.Boots.{boot, greatest, committed, is_recovering}
use Rattle.lu_spec_laws.specs.Words.Slots.{has_slot, slots}
use Rattle.lu_spec_laws.specs.Words.Closes.{kept_at, cause_at, restored_at, is_finished, committed_at_close, will_keep}
use Rattle.lu_spec_laws.specs.Laws.Recovery.{is_commit, is_take, stands, CommitAt, Evicts, Restores, KeptAt, RestoredAfter, RestoredAt}
use Rattle.lu_spec_laws.specs.Laws.Recovery.{EvictAt, CloseAt, AllBack, FollowsAt}
use Rattle.lu_spec_laws.proofs.Tests.{refuted, settled}
use Rattle.lu_judge_recovery.specs.Failing.{fails}
use Rattle.lu_judge_recovery.specs.Closings.{FitsDecided, KeptBy}
use Rattle.lu_judge_recovery.specs.declared.closings.Closing.{Closing}
use Rattle.lu_judge_recovery.proofs.Deciding.{kept_decided, RestoredBy, restored_decided, EvictedFor, evicted_decided}

-- what is refused
pub refused : {P : Type 0} → (P → ⊥) → IsTrue false ↔ P
refused never = (λ f. absurd (cc), λ p. absurd (never p))

-- what is decided in turn
pub on_from : {P Q R : Type 0} → (P ↔ Q) → (Q ↔ R) → (P ↔ R)
on_from a b = (λ p. b.0 (a.0 p), λ r. a.1 (b.1 r))

-- ---- `kept`, `restore` and `evict` lines

pub kept_line : (o : Option Closing) (clients t : ℕ) (at : At) (past : Past) (later : List Line) (n settled : ℕ) (b : Bool) → settled
    ≡ committed_at_close t past → settled < n
    → FitsDecided o clients t at past later → (IsTrue b ↔ KeptBy o n) → IsTrue b ↔ KeptAt t past at later n
kept_line o clients t at past later n settled b is below fits decides =
    let both = kept_decided o clients t at past later n fits in (
      λ done. record { uncommitted = subst (λ (m : ℕ). m < n) is below; follows = both.0 (decides.0 done) },
      λ kept. decides.1 (both.1 kept.follows),
    )

pub kept_refused : (t : ℕ) (at : At) (past : Past) (later : List Line) (n settled : ℕ) → settled ≡ committed_at_close t past → n ≤ settled
    → IsTrue false ↔ KeptAt t past at later n
kept_refused t at past later n settled is above = refused (λ kept. let less : committed_at_close t past < n = kept.uncommitted
    in absurd (omega arith))

pub restored_line : (o : Option Closing) (clients t : ℕ) (at : At) (past : Past) (later : List Line) (lock : LockOf) (b : Bool)
    → FitsDecided o clients t at past later
    → (IsTrue b ↔ RestoredBy o lock) → IsTrue b ↔ RestoredAt t past at later lock
restored_line o clients t at past later lock b fits decides = on_from decides (restored_decided o clients t at past later lock fits)

pub evict_line : (o : Option Closing) (clients t : ℕ) (at : At) (past : Past) (later : List Line) (who : Who) (cause : Cause) (b : Bool)
    → who.client < clients
    → has_slot t past who ≡ true → any_in is_commit at past ≡ true → FitsDecided o clients t at past later
    → (IsTrue b ↔ EvictedFor o t past at who cause)
    → IsTrue b ↔ EvictAt t past at later who cause
evict_line o clients t at past later who cause b below slot commit fits decides =
    let both = evicted_decided o clients t at past later who cause below fits in
    (λ done. record { slot = slot; commit = commit; caused = both.0 (decides.0 done) }, λ evict. decides.1 (both.1 evict.caused))

pub evict_no_slot : (t : ℕ) (at : At) (past : Past) (later : List Line) (who : Who) (cause : Cause) → has_slot t past who ≡ false
    → IsTrue false ↔ EvictAt t past at later who cause
evict_no_slot t at past later who cause none = refused (λ evict. absurd (cc (sym none ∙ evict.slot)))

pub evict_no_commit : (t : ℕ) (at : At) (past : Past) (later : List Line) (who : Who) (cause : Cause) → any_in is_commit at past ≡ false
    → IsTrue false ↔ EvictAt t past at later who cause
evict_no_commit t at past later who cause none = refused (λ evict. absurd (cc (sym none ∙ evict.commit)))

-- ---- commits

pub commit_line : (t : ℕ) (past : Past) (n : ℕ) (b : Bool) → (n == 0 || stands t past n) ≡ true → (IsTrue b ↔ (committed t past ≤ n))
    → IsTrue b ↔ CommitAt t past n
commit_line t past n b standing decides = (λ done. record { standing = standing; least = decides.0 done }, λ commit. decides.1 commit.least)

-- ---- closes

finished_is : (at : At) (past : Past) (later : List Line) (b : Bool) → fails at past later ≡ b → is_finished at past later ≡ not b
finished_is at past later b is = ap not is

pub close_shut : (clients t : ℕ) (past : Past) (at : At) (later : List Line) → is_recovering t past ≡ false → IsTrue false
    ↔ CloseAt clients t past at later
close_shut clients t past at later shut = refused (λ close. absurd (cc (sym shut ∙ close.recovering)))

pub close_away : (clients t : ℕ) (past : Past) (at : At) (later : List Line)
    → ((any_in is_take at past ≡ true → AllBack clients t past) → ⊥) → IsTrue false ↔ CloseAt clients t past at later
close_away clients t past at later away = refused (λ close. away close.all_back)

pub close_failing : (clients t : ℕ) (past : Past) (at : At) (later : List Line) → is_recovering t past ≡ true
    → (any_in is_take at past ≡ true → AllBack clients t past) → fails at past later ≡ true
    → IsTrue true ↔ CloseAt clients t past at later
close_failing clients t past at later opened back fails = (
  λ done. record {
    recovering = opened;
    all_back = back;
    follows =
        λ finished. absurd (cc (sym (finished_is at past later true fails) ∙ finished));
  },
  λ close. refl,
)

pub close_followed : (clients t : ℕ) (past : Past) (at : At) (later : List Line) (b : Bool) → is_recovering t past ≡ true
    → (any_in is_take at past ≡ true → AllBack clients t past)
    → fails at past later ≡ false → (IsTrue b ↔ FollowsAt clients t past at later) → IsTrue b ↔ CloseAt clients t past at later
close_followed clients t past at later b opened back sound decides = (
  λ done. record { recovering = opened; all_back = back; follows = λ finished. decides.0 done },
  λ close. decides.1 (close.follows (finished_is at past later false sound)),
)

pub lives_back : (clients t : ℕ) (past : Past) (at : At) (lives : List Who) (b : Bool) → lives ≡ slots clients t past
    → (IsTrue b ↔ (any_in is_take at past ≡ true → Every (λ (who : Who). (is_back t past who || has_newer t past who) ≡ true) lives))
    → IsTrue b ↔ (any_in is_take at past ≡ true → AllBack clients t past)
lives_back clients t past at lives b is decides =
    subst (λ (ls : List Who). IsTrue b ↔ (any_in is_take at past ≡ true
    → Every (λ (who : Who). (is_back t past who || has_newer t past who) ≡ true) ls)) is decides

-- ---- what a close decides follows

pub follows_unkept : (clients t : ℕ) (past : Past) (at : At) (later : List Line) (kept : List ℕ) (b : Bool) → kept ≡ kept_at t past
    → (IsTrue b ↔ Every (λ n. will_keep at later n ≡ true) kept) → b ≡ false → IsTrue false ↔ FollowsAt clients t past at later
follows_unkept clients t past at later kept b is decides never =
    refused (λ follows. absurd (cc (sym never ∙ decides.1 (subst (λ (ns : List ℕ). Every (λ n. will_keep at later n ≡ true) ns) (sym is)
    follows.keeps))))

pub follows_unevicted : (clients t : ℕ) (past : Past) (at : At) (later : List Line) (lives : List Who) (b : Bool) → lives
    ≡ slots clients t past
    → (IsTrue b ↔ Every (λ who. Evicts at later who (cause_at t past who)) lives) → b ≡ false → IsTrue false
    ↔ FollowsAt clients t past at later
follows_unevicted clients t past at later lives b is decides never =
    refused (λ follows. absurd (cc (sym never ∙ decides.1 (subst
    (λ (ls : List Who). Every (λ who. Evicts at later who (cause_at t past who)) ls) (sym is) follows.evicts))))

pub follows_restored : (clients t : ℕ) (past : Past) (at : At) (later : List Line) (kept : List ℕ) (lives : List Who) (k e b : Bool) → kept
    ≡ kept_at t past → lives ≡ slots clients t past
    → (IsTrue k ↔ Every (λ n. will_keep at later n ≡ true) kept) → k ≡ true
    → (IsTrue e ↔ Every (λ who. Evicts at later who (cause_at t past who)) lives) → e ≡ true
    → (IsTrue b ↔ Every (Restores at later) (restored_at t past)) → IsTrue b ↔ FollowsAt clients t past at later
follows_restored clients t past at later kept lives k e b these those keeps done evicts also restores = (
  λ all. record {
    keeps = subst (λ (ns : List ℕ). Every (λ n. will_keep at later n ≡ true) ns) these (keeps.0 done);
    evicts = subst (λ (ls : List Who). Every (λ who. Evicts at later who (cause_at t past who)) ls) those (evicts.0 also);
    restores = restores.0 all;
  },
  λ follows. restores.1 follows.restores,
)

-- ---- one lock compared

-- the close restores the lock, where no line since does
pub due_after : (due : Option LockOf) (lock : LockOf) (r restored : Bool) → due ≡ Some lock → r ≡ restored → IsTrue (not r)
    ↔ RestoredAfter due restored lock
due_after due lock r restored named is = (
  λ done. record { named = named; once = sym is ∙ refuted r done },
  λ after. settled r (is ∙ after.once),
)

-- the lock that is found is the one that is due
pub found_is : (found : Option LockOf) (a b : LockOf) (t : Bool) → found ≡ Some a → (IsTrue t ↔ (a ≡ b)) → IsTrue t ↔ (found ≡ Some b)
found_is found a b t is decides = (
  λ done. is ∙ ap (λ (l : LockOf). Some l) (decides.0 done),
  λ there. let both : Some a ≡ Some b = sym is ∙ there in decides.1 (cc),
)
