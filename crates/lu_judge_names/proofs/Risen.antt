-- The numbers of a past's items rise.
use Rattle.std.proofs.Common.{◌≡◌, ℕ, ◌<◌, max, Bool, true, false, List, [], ◌∷◌, refl, arith}
use Rattle.std.specs.Prelude.{◌&&◌, if◌then◌else◌, Option, Some, None}
use Rattle.std.proofs.lemmas.Bool.{ltb-true, cond_both}
use Rattle.lu_base.specs.declared.ids.At.{At}
use Rattle.lu_base.specs.declared.ids.Txn.{Txn as TxnOf}
use Rattle.lu_base.specs.declared.ids.Who.{Who}
use Rattle.lu_msg.specs.declared.operations.Op.{Op}
use Rattle.lu_trace.specs.declared.entries.Entry.{Entry}
use Rattle.lu_trace.specs.declared.entries.Entry.TheVariants.{Txn, Evict}
use Rattle.lu_spec_machine.specs.Removal.{Item, Acts, Forgets, pick}
use Rattle.lu_spec_machine.specs.Trim.{Above, Rising}
use Rattle.lu_spec_laws.specs.Words.Pasts.{Past, is_target}
use Rattle.lu_spec_laws.specs.Words.Requests.{asked}
use Rattle.lu_spec_laws.specs.Words.Boots.{greatest}
use Rattle.lu_spec_laws.specs.Words.Standing.{is_next}
use Rattle.lu_judge_names.specs.Events.{items, with_act}

-- ---- what is above the greatest number is above all items

abbrev Over : Past → ℕ → Type 0
Over past n = max 1 (greatest 0 past) < n

above_act : (number : TxnOf) (who : Who) (op : Option Op) (acts : List Item) (n : ℕ) → number.0 < n → Above acts n
    → Above (with_act number who op acts) n
above_act number who None acts n less above = above
above_act number who (Some o) acts n less above = (less, above)

above_if : (a b : Bool) (old number : ℕ) (items others : List Item) (n : ℕ) → max 1 (if a then max old number else old) < n
    → (number < n → max 1 old < n → Above items n) → (max 1 old < n → Above others n) → Above (if a && b then items else others) n
above_if true true old number items others n over here there = here (omega arith) (omega arith)
above_if true false old number items others n over here there = there (omega arith)
above_if false b old number items others n over here there = there over

above_evict : (b : Bool) (who : Who) (acts : List Item) (n : ℕ) → Above acts n → Above (if b then Forgets who ∷ acts else acts) n
above_evict true who acts n above = above
above_evict false who acts n above = above

above_line : (past : Past) (here : At) (e : Entry) (n : ℕ) → (Over past n → Above (items past) n)
    → Over (record { at = here; entry = e } ∷ past) n → Above (items (record { at = here; entry = e } ∷ past)) n
above_line past here (Txn number who xid seen answer) n before over =
    above_if (is_target 0 here.node) (is_next 0 past number.0) (greatest 0 past) number.0 _ (items past) n over
    (λ less still. above_act number who (asked past 0 who xid.0) (items past) n less (before still)) before
above_line past here (Evict who cause) n before over = above_evict (is_target 0 here.node) who (items past) n (before over)
above_line past here _ n before over = before over

above : (past : Past) (n : ℕ) → Over past n → Above (items past) n
above [] n over = omega arith
above (l ∷ past) n over = above_line past l.at l.entry n (above past n) over

-- ---- they rise

rising_act : (number : TxnOf) (who : Who) (op : Option Op) (acts : List Item) → Above acts number.0 → Rising acts
    → Rising (with_act number who op acts)
rising_act number who None acts a rising = rising
rising_act number who (Some o) acts a rising = (a, rising)

rising_if : (a b : Bool) (items others : List Item) → (b ≡ true → Rising items) → Rising others → Rising (if a && b then items else others)
rising_if true true items others here there = here refl
rising_if true false items others here there = there
rising_if false b items others here there = there

rising_evict : (b : Bool) (who : Who) (acts : List Item) → Rising acts → Rising (if b then Forgets who ∷ acts else acts)
rising_evict true who acts rising = rising
rising_evict false who acts rising = rising

rising_line : (past : Past) (here : At) (e : Entry) → Rising (items past) → Rising (items (record { at = here; entry = e } ∷ past))
rising_line past here (Txn number who xid seen answer) rising =
    rising_if (is_target 0 here.node) (is_next 0 past number.0) _ (items past)
    (λ next. rising_act number who (asked past 0 who xid.0) (items past)
    (above past number.0 (ltb-true (max 1 (greatest 0 past)) number.0 next)) rising) rising
rising_line past here (Evict who cause) rising = rising_evict (is_target 0 here.node) who (items past) rising
rising_line past here _ rising = rising

pub rising_items : (past : Past) → Rising (items past)
rising_items [] = tt
rising_items (l ∷ past) = rising_line past l.at l.entry (rising_items past)

-- ---- and so do those that are picked

above_pick : (keep : ℕ → Bool) (past : List Item) (n : ℕ) → Above past n → Above (pick keep past) n
above_pick keep [] n h = h
above_pick keep (Acts a ∷ past) n h = cond_both (keep a.number.0) (Acts a ∷ pick keep past) (pick keep past) (λ is. Above is n)
    (λ _. (h.0, above_pick keep past n h.1)) (λ _. above_pick keep past n h.1)
above_pick keep (Forgets who ∷ past) n h = above_pick keep past n h

pub rising_pick : (keep : ℕ → Bool) (past : List Item) → Rising past → Rising (pick keep past)
rising_pick keep [] r = r
rising_pick keep (Acts a ∷ past) r = cond_both (keep a.number.0) (Acts a ∷ pick keep past) (pick keep past) Rising
    (λ _. (above_pick keep past a.number.0 r.0, rising_pick keep past r.1)) (λ _. rising_pick keep past r.1)
rising_pick keep (Forgets who ∷ past) r = rising_pick keep past r
