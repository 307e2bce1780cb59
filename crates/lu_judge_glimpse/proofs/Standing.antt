-- What items count, with what is gone and lost.
use Rattle.std.proofs.Common.{◌≡◌, ◌≢◌, ℕ, zero, suc, Bool, true, false, List, [], ◌∷◌, ◌++◌, refl, ap, ◌∙◌, sym, subst}
use Rattle.std.specs.Prelude.{if◌then◌else◌, not, ◌&&◌, ◌||◌, ◌==◌, Option, Some, None}
use Rattle.lu_base.specs.declared.ids.Fid.{Fid}
use Rattle.lu_base.specs.declared.ids.Txn.{Txn as TxnOf}
use Rattle.lu_base.specs.declared.ids.Who.{Who}
use Rattle.lu_base.specs.declared.ids.At.{At}
use Rattle.lu_base.specs.declared.ids.Node.{Node}
use Rattle.lu_base.specs.declared.ids.Node.TheVariants.{Client, Target}
use Rattle.lu_base.specs.declared.locks.Cause.{Cause}
use Rattle.lu_msg.specs.declared.calls.Call.{Call}
use Rattle.lu_msg.specs.declared.operations.Op.{Op}
use Rattle.lu_trace.specs.declared.entries.Entry.TheVariants.{Evict, Close}
use Rattle.lu_spec_machine.specs.declared.acts.Deed.TheVariants.{Data}
use Rattle.lu_trace.specs.declared.entries.Line.{Line}
use Rattle.lu_spec_machine.specs.Machine.{Machine, names_next, piece_next, changed_bytes, data_change}
use Rattle.lu_spec_machine.specs.Tree.{same_life}
use Rattle.std.proofs.lemmas.Bool.{eqb-true}
use Rattle.lu_spec_laws.specs.Words.Pasts.{Past, is_target, is_some_target}
use Rattle.lu_spec_laws.specs.Words.Scopes.{any_in}
use Rattle.lu_spec_laws.specs.Words.Lives.{is_gone}
use Rattle.lu_spec_laws.specs.Words.Lost.{is_among, is_fail, is_lost, loses, losses, numbers_of, with_close}
use Rattle.lu_spec_laws.specs.Words.Closes.{lost_at}
use Rattle.lu_spec_laws.specs.Words.Histories.{act_of, none, piece_act, standing_item, after_item}
use Rattle.lu_judge_glimpse.specs.declared.items.Item.{Item}
use Rattle.lu_judge_glimpse.specs.declared.items.Item.TheVariants as item
use Rattle.lu_judge_glimpse.specs.Items.{act_if, after_items}

-- one item more
pub one_more : (out : Who → Bool) (lost : ℕ → ℕ → Bool) (osts : ℕ) (m : Machine) (items : List Item) (i : Item)
    → after_items out lost osts m (items ++ i ∷ []) ≡ after_item osts (after_items out lost osts m items) (act_if out lost i)
one_more out lost osts m [] i = refl
one_more out lost osts m (j ∷ items) i = one_more out lost osts (after_item osts m (act_if out lost j)) items i

-- ---- where the same lives are gone and the same transactions lost

module _ (out other : Who → Bool) (lost another : ℕ → ℕ → Bool) (gone_same : (who : Who) → out who ≡ other who)
    (lost_same : (t n : ℕ) → lost t n ≡ another t n) where
  same_act : (i : Item) → act_if out lost i ≡ act_if other another i
  same_act (item.Txn t number who op) = rw (lost_same t number.0, gone_same who) refl
  same_act (item.Told who fid call) = rw (gone_same who) refl

  pub same_items : (osts : ℕ) (m : Machine) (items : List Item) → after_items out lost osts m items ≡ after_items other another osts m items
  same_items osts m [] = refl
  same_items osts m (i ∷ items) =
      ap (λ a. after_items out lost osts (after_item osts m a) items) (same_act i)
      ∙ same_items osts (after_item osts m (act_if other another i)) items

-- ---- what one item makes of a machine

module _ (out : Who → Bool) (lost : ℕ → ℕ → Bool) (osts : ℕ) (m : Machine) (i : Item) where
  module _ (t : ℕ) (number : TxnOf) (who : Who) (o : Op) (is : act_if out lost i
      ≡ (if lost t number.0 then None else standing_item (out who) t number who (Some o))) where
    pub lost_left : lost t number.0 ≡ true → after_item osts m (act_if out lost i) ≡ m
    lost_left gone = ap (after_item osts m) (is ∙ ap (λ (v : Bool). if v then None else standing_item (out who) t number who (Some o)) gone)

    stands : lost t number.0 ≡ false → act_if out lost i ≡ standing_item (out who) t number who (Some o)
    stands kept = is ∙ ap (λ (v : Bool). if v then None else standing_item (out who) t number who (Some o)) kept

    pub names_done : lost t number.0 ≡ false → t ≡ 0 → after_item osts m (act_if out lost i)
        ≡ names_next osts m (record { number = number; who = who; op = o })
    names_done kept first = ap (after_item osts m) (stands kept ∙ ap (λ (n : ℕ). standing_item (out who) n number who (Some o)) first)

    elsewhere : (n : ℕ) → (n ≡ 0 → ⊥) → (v : Bool) → standing_item v n number who (Some o)
        ≡ (if v then piece_act who number (Some o) else None)
    elsewhere zero other v = absurd (other refl)
    elsewhere (suc n) other v = refl

    pub piece_done : lost t number.0 ≡ false → (t ≡ 0 → ⊥) → out who ≡ true → after_item osts m (act_if out lost i) ≡ piece_next m o
    piece_done kept other gone = ap (after_item osts m) (stands kept ∙ elsewhere t other (out who)
        ∙ ap (λ (v : Bool). if v then piece_act who number (Some o) else None) gone)

    pub piece_left : lost t number.0 ≡ false → (t ≡ 0 → ⊥) → out who ≡ false → after_item osts m (act_if out lost i) ≡ m
    piece_left kept other gone = ap (after_item osts m) (stands kept ∙ elsewhere t other (out who)
        ∙ ap (λ (v : Bool). if v then piece_act who number (Some o) else None) gone)

  module _ (who : Who) (fid : Fid) (x : Call) (is : act_if out lost i
      ≡ (if not (out who) then act_of who none (Some (Data fid x)) else None)) where
    pub told_left : out who ≡ true → after_item osts m (act_if out lost i) ≡ m
    told_left gone = ap (after_item osts m) (is ∙ ap (λ (v : Bool). if not v then act_of who none (Some (Data fid x)) else None) gone)

    pub told_done : out who ≡ false → after_item osts m (act_if out lost i) ≡ changed_bytes m fid (data_change m fid x)
    told_done kept = ap (after_item osts m) (is ∙ ap (λ (v : Bool). if not v then act_of who none (Some (Data fid x)) else None) kept)

-- ---- lives

life_is : (a b : Who) → same_life a b ≡ true → a ≡ b
life_is a b is =
    let clients : a.client ≡ b.client = eqb-true a.client b.client (left (a.client == b.client) (a.life == b.life) is) in
    let lives : a.life ≡ b.life = eqb-true a.life b.life (right (a.client == b.client) (a.life == b.life) is) in
    ap (λ (n : ℕ). record { client = n; life = a.life }) clients ∙ ap (λ (n : ℕ). record { client = b.client; life = n }) lives
  where
    left : (v w : Bool) → (v && w) ≡ true → v ≡ true
    left true w e = refl
    left false w e = absurd (cc (e))

    right : (v w : Bool) → (v && w) ≡ true → w ≡ true
    right true w e = e
    right false w e = absurd (cc (e))

-- ---- lines that change what is gone or lost

-- a life that is gone already is evicted
pub still_gone : (past : Past) (at : At) (who : Who) (cause : Cause) → is_gone past who ≡ true → (other : Who)
    → is_gone (record { at = at; entry = Evict who cause } ∷ past) other ≡ is_gone past other
still_gone past at who cause gone other = by (same_life who other) refl
  where
    or_same : (a b : Bool) → b ≡ true → (a || b) ≡ b
    or_same true b is = sym is
    or_same false b is = refl

    and_none : (a : Bool) → (a && false) ≡ false
    and_none true = refl
    and_none false = refl

    by : (v : Bool) → same_life who other ≡ v → (is_some_target at.node && same_life who other || is_gone past other) ≡ is_gone past other
    by true same = or_same (is_some_target at.node && same_life who other) (is_gone past other)
        (subst (λ (w : Who). is_gone past w ≡ true) (life_is who other same) gone)
    by false same = ap (λ (v : Bool). is_some_target at.node && v || is_gone past other) same
        ∙ ap (λ (v : Bool). v || is_gone past other) (and_none (is_some_target at.node))

-- a close that loses nothing
pub loses_none : (past : Past) (at : At) (t : ℕ) → at.node ≡ Target t → lost_at t past ≡ [] → (other n : ℕ)
    → is_lost (record { at = at; entry = Close } ∷ past) other n ≡ is_lost past other n
loses_none past at t here none other n = by (is_target other at.node) refl
  where
    closed : (v : Bool) → lost_at other past ≡ [] → is_among (numbers_of (with_close v at (loses other past) (losses other past))) n
        ≡ is_lost past other n
    closed true empty = refl
    closed false empty = ap (λ (ns : List ℕ). is_among (ns ++ numbers_of (losses other past)) n) empty

    by : (v : Bool) → is_target other at.node ≡ v → is_among (numbers_of
        (if is_target other at.node then with_close (any_in is_fail at past) at (loses other past) (losses other past)
        else losses other past)) n ≡ is_lost past other n
    by true is =
        let same : t ≡ other = eqb-true t other (sym (ap (is_target other) here) ∙ is) in
        ap (λ (v : Bool). is_among (numbers_of (if v then with_close (any_in is_fail at past) at (loses other past) (losses other past)
        else losses other past)) n) is
        ∙ closed (any_in is_fail at past) (subst (λ (u : ℕ). lost_at u past ≡ []) same none)
    by false is = ap (λ (v : Bool). is_among (numbers_of (if v then with_close (any_in is_fail at past) at (loses other past)
        (losses other past) else losses other past)) n) is

-- a close of no target
pub loses_by_none : (past : Past) (at : At) → ((t : ℕ) → at.node ≡ Target t → ⊥) → (other n : ℕ)
    → is_lost (record { at = at; entry = Close } ∷ past) other n ≡ is_lost past other n
loses_by_none past at none other n = by at.node refl
  where
    by : (node : Node) → at.node ≡ node → is_among (numbers_of (if is_target other at.node
        then with_close (any_in is_fail at past) at (loses other past) (losses other past) else losses other past)) n ≡ is_lost past other n
    by (Client c) is = ap (λ (v : Bool). is_among (numbers_of (if v
        then with_close (any_in is_fail at past) at (loses other past) (losses other past) else losses other past)) n)
        (ap (is_target other) is)
    by (Target t) is = absurd (none t is)
