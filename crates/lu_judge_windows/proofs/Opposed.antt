-- What the lists of held locks say of the notions of the laws.
use Rattle.std.proofs.Common.{◌≡◌, ℕ, Bool, true, false, not, ◌&&◌, List, [], ◌∷◌, refl, ap, sym, ◌∙◌}
use Rattle.std.specs.Prelude.{filter, map}
use Rattle.std.specs.List.{list_any}
use Rattle.lu_base.specs.declared.ids.Who.{Who}
use Rattle.lu_base.specs.declared.locks.Ask.{Ask}
use Rattle.lu_base.specs.declared.locks.Resource.{Resource}
use Rattle.lu_spec_laws.specs.Words.Pasts.{Past}
use Rattle.lu_spec_laws.specs.Words.Lives.{is_evicted}
use Rattle.lu_spec_laws.specs.Words.Held.{Held, held, is_held_by, all_but, opposes, is_opposed, has_write_lock}
use Rattle.lu_judge_pass.specs.declared.ledgers.Ledger.{Ledger}
use Rattle.lu_judge_pass.specs.Ledgers.{is_evicted_in, ShowsLedger}
use Rattle.lu_judge_windows.specs.declared.held.HeldLocks.{HeldLocks}
use Rattle.lu_judge_windows.specs.declared.lists.Holding.{Holding}
use Rattle.lu_judge_windows.specs.Lists.{held_of}
use Rattle.lu_judge_windows.specs.Shown.{listed_on, listed_of, is_none_listed, is_at, is_written_by, stands_against, ShowsHeldLocks}
use Rattle.lu_judge_windows.proofs.HeldTests.{any_same, any_map, any_kept, regroup, swap, and_true}

opposes_is : (ledger : Ledger) (past : Past) (t : ℕ) (resource : Resource) (ask : Ask) → ShowsLedger ledger past → (h : Held)
    → (is_at t resource h && stands_against (is_evicted_in ledger.evictions t) ask h) ≡ opposes past t resource ask h
opposes_is ledger past t resource ask shown h = rw (shown.evictions t h.who) (regroup (is_at t resource h) _ _)

pub opposed : (ledger : Ledger) (locks : HeldLocks) (past : Past) (t : ℕ) (resource : Resource) (ask : Ask) → ShowsLedger ledger past
    → ShowsHeldLocks locks past → (listed : List Holding) → map held_of listed ≡ listed_on locks.holdings t resource
    → (result : Bool) → result ≡ list_any (λ h. stands_against (is_evicted_in ledger.evictions t) ask (held_of h)) listed → result
    ≡ is_opposed past t resource ask (held past)
opposed ledger locks past t resource ask ledger_shown shown listed are result is =
    is ∙ sym (any_map held_of (stands_against (is_evicted_in ledger.evictions t) ask) listed)
    ∙ ap (list_any (stands_against (is_evicted_in ledger.evictions t) ask)) are
    ∙ shown.held.resources t resource (stands_against (is_evicted_in ledger.evictions t) ask)
    ∙ any_same (λ h. is_at t resource h && stands_against (is_evicted_in ledger.evictions t) ask h) (opposes past t resource ask)
    (held past) (opposes_is ledger past t resource ask ledger_shown)

pub opposed_but : (ledger : Ledger) (locks : HeldLocks) (past : Past) (t : ℕ) (resource : Resource) (ask : Ask) (who : Who) (cookie : ℕ)
    → ShowsLedger ledger past → ShowsHeldLocks locks past → (listed : List Holding) → map held_of listed
    ≡ listed_on locks.holdings t resource
    → (result : Bool) → result ≡ list_any (λ h. not (is_held_by who t cookie (held_of h))
    && stands_against (is_evicted_in ledger.evictions t) ask (held_of h)) listed → result
    ≡ is_opposed past t resource ask (all_but who t cookie (held past))
opposed_but ledger locks past t resource ask who cookie ledger_shown shown listed are result is =
    let against = stands_against (is_evicted_in ledger.evictions t) ask in
    let other = λ (h : Held). not (is_held_by who t cookie h) in
    is ∙ sym (any_map held_of (λ h. other h && against h) listed) ∙ ap (list_any (λ h. other h && against h)) are
    ∙ shown.held.resources t resource (λ h. other h && against h)
    ∙ any_same (λ h. is_at t resource h && (other h && against h)) (λ h. other h && opposes past t resource ask h) (held past)
    (λ h. swap (is_at t resource h) (other h) (against h) ∙ ap (λ b. other h && b)
    (opposes_is ledger past t resource ask ledger_shown h))
    ∙ sym (any_kept other (opposes past t resource ask) (held past))

pub written : (locks : HeldLocks) (past : Past) (who : Who) → ShowsHeldLocks locks past → (has : Bool) → has
    ≡ not (is_none_listed (listed_of locks.holdings who)) → has ≡ has_write_lock who (held past)
written locks past who shown has is =
    is ∙ some_listed (listed_of locks.holdings who) ∙ shown.held.writers who (λ h. true)
    ∙ any_same (λ h. is_written_by who h && true) (is_written_by who) (held past) (λ h. and_true (is_written_by who h))
  where
    some_listed : (list : List Held) → not (is_none_listed list) ≡ list_any (λ h. true) list
    some_listed [] = refl
    some_listed (h ∷ list) = refl

-- a resource without a list
pub unopposed : (ledger : Ledger) (locks : HeldLocks) (past : Past) (t : ℕ) (resource : Resource) (ask : Ask) → ShowsLedger ledger past
    → ShowsHeldLocks locks past → [] ≡ listed_on locks.holdings t resource → false ≡ is_opposed past t resource ask (held past)
unopposed ledger locks past t resource ask ledger_shown shown none =
    opposed ledger locks past t resource ask ledger_shown shown [] none false refl

pub unopposed_but : (ledger : Ledger) (locks : HeldLocks) (past : Past) (t : ℕ) (resource : Resource) (ask : Ask) (who : Who) (cookie : ℕ)
    → ShowsLedger ledger past → ShowsHeldLocks locks past → [] ≡ listed_on locks.holdings t resource → false
    ≡ is_opposed past t resource ask (all_but who t cookie (held past))
unopposed_but ledger locks past t resource ask who cookie ledger_shown shown none =
    opposed_but ledger locks past t resource ask who cookie ledger_shown shown [] none false refl
