-- What a line makes of the table is what it makes of what the table shows.
use Rattle.std.proofs.Common.{◌≡◌, ℕ, max, Bool, true, false, List, [], ◌∷◌, map, refl, ap, ◌∙◌, sym, subst, ◌⊎◌, ⊎_elim}
use Rattle.std.specs.Prelude.{◌&&◌, nat_lt, if◌then◌else◌, Option, Some, None}
use Rattle.lu_base.specs.declared.ids.At.{At}
use Rattle.lu_base.specs.declared.ids.Txn.{Txn as TxnOf}
use Rattle.lu_base.specs.declared.ids.Who.{Who}
use Rattle.lu_base.specs.declared.ids.Xid.{Xid}
use Rattle.lu_base.specs.declared.locks.Cause.{Cause}
use Rattle.lu_msg.specs.declared.answers.Answer.{Answer}
use Rattle.lu_msg.specs.declared.operations.Op.{Op}
use Rattle.lu_trace.specs.declared.entries.Entry.{Entry}
use Rattle.lu_trace.specs.declared.entries.Entry.TheVariants.{Txn, Evict, Close, Fail}
use Rattle.lu_spec_machine.specs.Removal.{Item, Acts, Forgets}
use Rattle.lu_spec_laws.specs.Words.Pasts.{Past, is_target}
use Rattle.lu_spec_laws.specs.Words.Requests.{asked}
use Rattle.lu_spec_laws.specs.Words.Boots.{greatest}
use Rattle.lu_spec_laws.specs.Words.Lost.{is_lost}
use Rattle.lu_judge_names.specs.Events.{items, marked}
use Rattle.lu_judge_names.specs.Names.{NamesState, names_of}
use Rattle.lu_judge_names.proofs.Trees.{osts_of}
use Rattle.lu_judge_names.specs.Contents.{Held, ShowsHeld, grown, executed, remarked, settled}

-- ---- a change of what is lost

once_more : (lost other : ℕ → Bool) (i : Item) → remarked other (marked lost i) ≡ marked other i
once_more lost other (Acts a) = refl
once_more lost other (Forgets who) = refl

pub remarked_items : (lost other : ℕ → Bool) (is : List Item) → map (remarked other) (map (marked lost) is) ≡ map (marked other) is
remarked_items lost other [] = refl
remarked_items lost other (i ∷ is) = rw (once_more lost other i, remarked_items lost other is) refl

-- the greatest number and the items stay, and other numbers may be lost
pub settled_line : (osts : ℕ) (h : Held) (past after : Past) → greatest 0 after ≡ greatest 0 past → items after ≡ items past
    → ShowsHeld osts h past → ShowsHeld osts (settled (is_lost after 0) h) after
settled_line osts h past after count same shows = record {
  number = shows.number ∙ sym count;
  all = ap (map (remarked (is_lost after 0))) shows.all ∙ remarked_items (is_lost past 0) (is_lost after 0) (items past)
      ∙ ap (map (marked (is_lost after 0))) (sym same);
  left = ap (λ (o : ℕ). names_of o (map (remarked (is_lost after 0)) h.marks))
      (ap (λ (k : NamesState). k.tree.osts) shows.left ∙ osts_of osts h.marks);
}

-- ---- a line of the metadata target

module _ (osts : ℕ) (h : Held) (past : Past) (here : At) (first : is_target 0 here.node ≡ true) (shows : ShowsHeld osts h past) where
  pub evict_line : (who : Who) (cause : Cause) → ShowsHeld osts (grown h (record { item = Forgets who; lost = false }))
      (record { at = here; entry = Evict who cause } ∷ past)
  evict_line who cause = record {
    number = shows.number;
    all = rw (first, shows.all) refl;
    left = rw shows.left refl;
  }

  -- it is next
  act_line : (number : TxnOf) (who : Who) (xid : Xid) (seen : List ℕ) (answer : Answer) (op : Option Op) (next : Bool)
      → asked past 0 who xid.0 ≡ op → nat_lt (max 1 (greatest 0 past)) number.0 ≡ next
      → ShowsHeld osts (executed (is_lost past 0) h number who op) (record { at = here; entry = Txn number who xid seen answer } ∷ past)
  act_line number who xid seen answer None next asks is = record {
    number = rw (first, shows.number) refl;
    all = rw (first, is, asks) (by next);
    left = shows.left;
  } where
    by : (b : Bool) → h.marks ≡ map (marked (is_lost past 0)) (if true && b then items past else items past)
    by true = shows.all
    by false = shows.all
  act_line number who xid seen answer (Some o) true asks is =
      rw (shows.number, is) (record {
        number = rw first refl;
        all = rw (first, is, asks, shows.all) refl;
        left = rw shows.left refl;
      })
  act_line number who xid seen answer (Some o) false asks is =
      rw (shows.number, is) (record {
        number = rw first refl;
        all = rw (first, is) shows.all;
        left = shows.left;
      })

  pub txn_line : (number : TxnOf) (who : Who) (xid : Xid) (seen : List ℕ) (answer : Answer)
      → ShowsHeld osts (executed (is_lost past 0) h number who (asked past 0 who xid.0))
      (record { at = here; entry = Txn number who xid seen answer } ∷ past)
  txn_line number who xid seen answer = act_line number who xid seen answer (asked past 0 who xid.0)
      (nat_lt (max 1 (greatest 0 past)) number.0) refl refl

  -- the same, where the line and the table after it are given by equations
  pub txn_step : (k : Held) (e : Entry) (number : TxnOf) (who : Who) (xid : Xid) (seen : List ℕ) (answer : Answer) (op : Option Op) → e
      ≡ Txn number who xid seen answer → op ≡ asked past 0 who xid.0
      → k ≡ executed (is_lost (record { at = here; entry = e } ∷ past) 0) h number who op
      → ShowsHeld osts k (record { at = here; entry = e } ∷ past)
  txn_step k e number who xid seen answer op is asks =
      let P : Entry → Type 0 = λ e. k ≡ executed (is_lost (record { at = here; entry = e } ∷ past) 0) h number who op
      → ShowsHeld osts k (record { at = here; entry = e } ∷ past) in
      subst P (sym is)
      (λ new. subst (λ (n : Held). ShowsHeld osts n (record { at = here; entry = Txn number who xid seen answer } ∷ past))
      (sym (new ∙ ap (executed (is_lost past 0) h number who) asks))
      (txn_line number who xid seen answer))

  pub evict_step : (k : Held) (e : Entry) (who : Who) (cause : Cause) → e ≡ Evict who cause → k
      ≡ grown h (record { item = Forgets who; lost = false }) → ShowsHeld osts k (record { at = here; entry = e } ∷ past)
  evict_step k e who cause is new =
      subst (λ (e : Entry). ShowsHeld osts k (record { at = here; entry = e } ∷ past)) (sym is)
      (subst (λ (n : Held). ShowsHeld osts n (record { at = here; entry = Evict who cause } ∷ past)) (sym new) (evict_line who cause))

  kept : h.names ≡ names_of h.names.tree.osts h.marks
  kept = shows.left ∙ ap (λ (o : ℕ). names_of o h.marks) (sym (ap (λ (k : NamesState). k.tree.osts) shows.left ∙ osts_of osts h.marks))

  settled_at : (k : Held) (after : Past) → greatest 0 after ≡ greatest 0 past → items after ≡ items past
      → (h.names ≡ names_of h.names.tree.osts h.marks → k ≡ settled (is_lost after 0) h) → ShowsHeld osts k after
  settled_at k after count same new = subst (λ (n : Held). ShowsHeld osts n after) (sym (new kept))
      (settled_line osts h past after count same shows)

  pub settle_step : (k : Held) (e : Entry) → (e ≡ Close) ⊎ (e ≡ Fail)
      → (h.names ≡ names_of h.names.tree.osts h.marks → k ≡ settled (is_lost (record { at = here; entry = e } ∷ past) 0) h)
      → ShowsHeld osts k (record { at = here; entry = e } ∷ past)
  settle_step k e is new = ⊎_elim
      (λ (close : e ≡ Close). settled_at k (record { at = here; entry = e } ∷ past)
      (ap (λ (e : Entry). greatest 0 (record { at = here; entry = e } ∷ past)) close)
      (ap (λ (e : Entry). items (record { at = here; entry = e } ∷ past)) close) new)
      (λ (fail : e ≡ Fail). settled_at k (record { at = here; entry = e } ∷ past)
      (ap (λ (e : Entry). greatest 0 (record { at = here; entry = e } ∷ past)) fail)
      (ap (λ (e : Entry). items (record { at = here; entry = e } ∷ past)) fail) new)
      is

-- ---- a line of another node

pub other_line : (osts : ℕ) (h : Held) (past : Past) (here : At) (e : Entry) → is_target 0 here.node ≡ false → ShowsHeld osts h past
    → ShowsHeld osts h (record { at = here; entry = e } ∷ past)
other_line osts h past here (Txn number who xid seen answer) other shows =
    record { number = rw other shows.number; all = rw other shows.all; left = shows.left }
other_line osts h past here (Evict who cause) other shows = record { number = shows.number; all = rw other shows.all; left = shows.left }
other_line osts h past here Close other shows = record { number = shows.number; all = rw other shows.all; left = shows.left }
other_line osts h past here Fail other shows = record { number = shows.number; all = rw other shows.all; left = shows.left }
other_line osts h past here _ other shows = record { number = shows.number; all = shows.all; left = shows.left }
