-- The history shows one line more.
use Rattle.std.proofs.Common.{◌≡◌, ℕ, ◌≤◌, Bool, true, false, List, [], ◌∷◌, ◌++◌, length, arith, refl, ap, ◌∙◌, sym, subst}
use Rattle.std.specs.Prelude.{Option, Some, None, IfSome, OnOk, All}
use Rattle.std.proofs.lemmas.List.Elements.{All-append, All-cons, All-nil}
use Rattle.std.specs.declared.result.Result.{Result}
use Rattle.std.specs.declared.result.Result.TheVariants.{Ok, Err}
use Rattle.lu_base.specs.declared.ids.At.{At}
use Rattle.lu_base.specs.declared.ids.Node.TheVariants.{Target}
use Rattle.lu_base.specs.declared.ids.Txn.{Txn as TxnOf}
use Rattle.lu_base.specs.declared.ids.Xid.{Xid}
use Rattle.lu_base.specs.declared.ids.Who.{Who}
use Rattle.lu_base.specs.declared.locks.Cause.{Cause}
use Rattle.lu_msg.specs.declared.answers.Answer.{Answer}
use Rattle.lu_trace.specs.declared.entries.Entry.{Entry}
use Rattle.lu_trace.specs.declared.entries.Entry.TheVariants.{Told, Txn, Close, Evict, Fail}
use Rattle.lu_trace.specs.declared.entries.Line.{Line}
use Rattle.lu_spec_machine.specs.Machine.{Machine, start}
use Rattle.lu_posix.specs.Shown.{MachineState}
use Rattle.lu_spec_laws.specs.Words.Pasts.{Past}
use Rattle.lu_spec_laws.specs.Words.Lives.{is_gone}
use Rattle.lu_spec_laws.specs.Words.Lost.{is_lost}
use Rattle.lu_spec_laws.specs.Words.Histories.{after_item, item_at, machine_of}
use Rattle.lu_spec_laws.specs.Words.Glimpses.{machine_cut}
use Rattle.lu_judge_glimpse.specs.declared.items.Item.{Item}
use Rattle.lu_judge_glimpse.specs.declared.histories.History.{History}
use Rattle.lu_judge_glimpse.specs.Items.{Keeps, act_if, act_if_any, after_items}
use Rattle.lu_judge_glimpse.specs.Histories.{IsKept, ShowsPlain, ShowsHistory, LeavesStanding}
use Rattle.lu_spec_laws.specs.Words.Closes.{lost_at}
use Rattle.lu_judge_glimpse.proofs.Standing.{one_more, same_items, still_gone, loses_none, loses_by_none}

-- what is kept, with an item or none more
abbrev pub with_any : List Item → Option Item → List Item
with_any items None = items
with_any items (Some i) = items ++ i ∷ []

-- the item makes of each machine what the line makes
abbrev pub Makes : Past → Line → Option Item → Type 0
Makes past l i = (out : Who → Bool) (lost : ℕ → ℕ → Bool) (osts : ℕ) (m : Machine) → after_item osts m (act_if_any out lost i)
    ≡ after_item osts m (item_at out lost past l.at l.entry)

any_more : (out : Who → Bool) (lost : ℕ → ℕ → Bool) (osts : ℕ) (items : List Item) (i : Option Item)
    → after_items out lost osts start (with_any items i) ≡ after_item osts (after_items out lost osts start items) (act_if_any out lost i)
any_more out lost osts items None = refl
any_more out lost osts items (Some i) = one_more out lost osts start items i

module _ (old new : History) (past : Past) (l : Line) (i : Option Item) (kept : new.items.items ≡ with_any old.items.items i)
    (makes : Makes past l i) (shown : ShowsHistory old past) where
  items_more : (out : Who → Bool) (lost : ℕ → ℕ → Bool) (osts : ℕ) → after_items out lost osts start new.items.items
      ≡ machine_of out lost osts (l ∷ past)
  items_more out lost osts =
      ap (after_items out lost osts start) kept ∙ any_more out lost osts old.items.items i
      ∙ makes out lost osts (after_items out lost osts start old.items.items)
      ∙ ap (λ (m : Machine). after_item osts m (item_at out lost past l.at l.entry)) (shown.items out lost osts)

  -- the machine is to be built anew
  pub forgotten : IsKept new → new.machine ≡ None → ShowsHistory new (l ∷ past)
  forgotten is_kept none = record {
    kept = is_kept;
    items = items_more;
    machine = subst (λ (o : Option MachineState). IfSome o (λ (m : MachineState). ShowsPlain new.osts m (machine_cut new.osts (l ∷ past))))
        (sym none) tt;
  }

  -- the machine of the past with the line
  cut_more : (osts : ℕ) → LeavesStanding past l → machine_cut osts (l ∷ past)
      ≡ after_item osts (machine_cut osts past) (act_if_any (is_gone past) (is_lost past) i)
  cut_more osts leaves =
      sym (items_more (is_gone (l ∷ past)) (is_lost (l ∷ past)) osts)
      ∙ same_items (is_gone (l ∷ past)) (is_gone past) (is_lost (l ∷ past)) (is_lost past) leaves.0 leaves.1 osts start new.items.items
      ∙ ap (after_items (is_gone past) (is_lost past) osts start) kept ∙ any_more (is_gone past) (is_lost past) osts old.items.items i
      ∙ ap (λ (m : Machine). after_item osts m (act_if_any (is_gone past) (is_lost past) i))
      (shown.items (is_gone past) (is_lost past) osts)

  pub goes_on : IsKept new → LeavesStanding past l → new.osts ≡ old.osts
      → IfSome new.machine (λ (m : MachineState). ShowsPlain old.osts m
      (after_item old.osts (machine_cut old.osts past) (act_if_any (is_gone past) (is_lost past) i)))
      → ShowsHistory new (l ∷ past)
  goes_on is_kept leaves same machine = record {
    kept = is_kept;
    items = items_more;
    machine =
        subst (λ (n : ℕ). IfSome new.machine (λ (m : MachineState). ShowsPlain n m (machine_cut n (l ∷ past)))) (sym same)
        (subst (λ (x : Machine). IfSome new.machine (λ (m : MachineState). ShowsPlain old.osts m x)) (sym (cut_more old.osts leaves))
        machine);
  }

-- what is kept of the history's own

pub kept_more : (old new : History) (i : Item) → IsKept old → Keeps i → new.items.items ≡ old.items.items ++ i ∷ [] → new.osts ≡ old.osts
    → IsKept new
kept_more old new i kept ok items same =
    let all : All Keeps (old.items.items ++ i ∷ []) = All-append Keeps old.items.items (i ∷ []) kept.items
    (All-cons Keeps i [] ok (All-nil Keeps)) in
    record {
      some_osts = subst (λ (n : ℕ). 1 ≤ n) (sym same) kept.some_osts;
      few_osts = subst (λ (n : ℕ). n ≤ 8) (sym same) kept.few_osts;
      items = subst (λ (is : List Item). All Keeps is) (sym items) all;
    }

pub kept_same : (old new : History) → IsKept old → new.items.items ≡ old.items.items → new.osts ≡ old.osts → IsKept new
kept_same old new kept items same = record {
  some_osts = subst (λ (n : ℕ). 1 ≤ n) (sym same) kept.some_osts;
  few_osts = subst (λ (n : ℕ). n ≤ 8) (sym same) kept.few_osts;
  items = subst (λ (is : List Item). All Keeps is) (sym items) kept.items;
}

-- ---- lines without an item

nothing : (past : Past) (at : At) (e : Entry) (old : History) → LeavesStanding past (record { at = at; entry = e })
    → Makes past (record { at = at; entry = e }) None → ShowsHistory old past → ShowsHistory old (record { at = at; entry = e } ∷ past)
nothing past at e old leaves makes shown = goes_on old old past (record { at = at; entry = e }) None refl makes shown shown.kept leaves refl
    shown.machine

pub quiet : (old : History) (past : Past) (at : At) (e : Entry)
    → ((slot : ℕ) (turn : At) (answer : Answer) → e ≡ Told slot turn answer → ⊥)
    → ((number : TxnOf) (who : Who) (x : Xid) (seen : List ℕ) (answer : Answer) → e ≡ Txn number who x seen answer → ⊥)
    → (e ≡ Close → ⊥) → ((who : Who) (cause : Cause) → e ≡ Evict who cause → ⊥) → (e ≡ Fail → ⊥)
    → ShowsHistory old past → ShowsHistory old (record { at = at; entry = e } ∷ past)
quiet old past at (Told slot turn answer) told txn closes evicts fails shown = absurd (told slot turn answer refl)
quiet old past at (Txn number who x seen answer) told txn closes evicts fails shown = absurd (txn number who x seen answer refl)
quiet old past at Close told txn closes evicts fails shown = absurd (closes refl)
quiet old past at (Evict who cause) told txn closes evicts fails shown = absurd (evicts who cause refl)
quiet old past at Fail told txn closes evicts fails shown = absurd (fails refl)
quiet old past at e told txn closes evicts fails shown = nothing past at e old ((λ who. refl), (λ t n. refl)) (λ out lost osts m. refl)
    shown

-- a life that is gone is evicted again
pub evicted : (old : History) (past : Past) (l : Line) (who : Who) (cause : Cause) → l.entry ≡ Evict who cause → is_gone past who ≡ true
    → ShowsHistory old past → ShowsHistory old (l ∷ past)
evicted old past l who cause is gone shown =
    subst (λ (e : Entry). ShowsHistory old (record { at = l.at; entry = e } ∷ past)) (sym is)
    (nothing past l.at (Evict who cause) old (still_gone past l.at who cause gone, λ t n. refl) (λ out lost osts m. refl) shown)

-- ---- closes

pub closed_none : (old : History) (past : Past) (at : At) (t : ℕ) → at.node ≡ Target t → lost_at t past ≡ [] → ShowsHistory old past
    → ShowsHistory old (record { at = at; entry = Close } ∷ past)
closed_none old past at t here none shown = nothing past at Close old ((λ who. refl), loses_none past at t here none)
    (λ out lost osts m. refl) shown

pub closed_by_none : (old : History) (past : Past) (at : At) → ((t : ℕ) → at.node ≡ Target t → ⊥) → ShowsHistory old past
    → ShowsHistory old (record { at = at; entry = Close } ∷ past)
closed_by_none old past at none shown = nothing past at Close old ((λ who. refl), loses_by_none past at none) (λ out lost osts m. refl)
    shown

pub closed_lossy : (old new : History) (past : Past) (at : At) → new.items.items ≡ old.items.items → new.osts ≡ old.osts → new.machine
    ≡ None → ShowsHistory old past → ShowsHistory new (record { at = at; entry = Close } ∷ past)
closed_lossy old new past at items same none shown =
    forgotten old new past (record { at = at; entry = Close }) None items (λ out lost osts m. refl) shown
    (kept_same old new shown.kept items same) none

-- ---- results

pub on_ok_three : {T E P Q R S : Type 0} (r : Result T E) → (P → Q → R → S) → OnOk r P → OnOk r Q → OnOk r R → OnOk r S
on_ok_three (Ok x) f p q r = f p q r
on_ok_three (Err e) f p q r = tt

pub empty_is : (xs : List ℕ) → length xs ≡ 0 → xs ≡ []
empty_is [] none = refl
empty_is (x ∷ xs) none = absurd (omega (arith, none))
