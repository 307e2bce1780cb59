-- What the law of history asks of what is told and of transactions, decided.
use Rattle.std.proofs.Common.{◌≡◌, ℕ, zero, suc, Bool, true, false, Option, Some, None, List, refl, sym, ap, subst, ◌∙◌}
use Rattle.std.specs.Prelude.{IsTrue, ◌↔◌, not, if◌then◌else◌}
use Rattle.lu_base.specs.declared.ids.At.{At}
use Rattle.lu_base.specs.declared.ids.Node.TheVariants.{Client}
use Rattle.lu_base.specs.declared.ids.Txn.{Txn as TxnOf}
use Rattle.lu_base.specs.declared.ids.Who.{Who}
use Rattle.lu_base.specs.declared.ids.Xid.{Xid}
use Rattle.lu_trace.specs.declared.entries.Entry.{Entry}
use Rattle.lu_trace.specs.declared.entries.Entry.TheVariants.{Told, Txn}
use Rattle.lu_msg.specs.declared.answers.Answer.{Answer}
use Rattle.lu_spec_laws.specs.Words.Pasts.{Past, same_turn}
use Rattle.lu_spec_laws.specs.Words.Lives.{who_is}
use Rattle.lu_spec_laws.specs.Words.Requests.{asked}
use Rattle.lu_spec_laws.specs.Words.Calls.{Begun, open_call, heard_in}
use Rattle.lu_spec_laws.specs.Words.Histories.{none, act_of, deed_of, deed_on, call_act, is_answer, is_counted, answer_to, request_answer}
use Rattle.lu_spec_laws.specs.Words.Histories.{machine_of}
use Rattle.lu_spec_laws.specs.Laws.History.{heard_answer, right_answer, is_accepted, ToldAt, ToldOn, TxnAt, PieceAt, HistoryAt}
use Rattle.lu_spec_machine.specs.declared.acts.Act.{Act as ActOf}
use Rattle.lu_spec_machine.specs.declared.acts.Deed.{Deed}
use Rattle.lu_judge_pass.specs.declared.lives.Lives.{Lives}
use Rattle.lu_judge_pass.specs.Ledgers.{life_in, ShowsLives}
use Rattle.lu_judge_history.specs.declared.asked.Asked.{Asked}
use Rattle.lu_judge_history.specs.Deeds.{deed_asked, act_asked}

pub who_at : (t : Lives) (past : Past) → ShowsLives t past → (c : ℕ) → record { client = c; life = life_in t c } ≡ who_is c past
who_at t past shown c = ap (λ (n : ℕ). record { client = c; life = n }) (shown c)

module _ (out : Who → Bool) (lost : ℕ → ℕ → Bool) (osts : ℕ) (past : Past) where
  module _ (at : At) (c slot : ℕ) (turn : At) (answer : Answer) where
    pub told_gone : out (who_is c past) ≡ true → IsTrue true ↔ ToldAt out lost osts past at (Client c) slot turn answer
    told_gone gone = (λ yes here. absurd (differ (sym gone ∙ here)), λ told. refl) where
      differ : true ≡ false → ⊥
      differ e = cc

    pub told_otherwise : is_answer answer ≡ false → IsTrue true ↔ ToldAt out lost osts past at (Client c) slot turn answer
    told_otherwise none = (λ yes here says. absurd (differ (sym says ∙ none)), λ told. refl) where
      differ : true ≡ false → ⊥
      differ e = cc

    told_on_none : (begun : Option Begun) → begun ≡ None → ToldOn out lost osts past at c slot begun turn answer
    told_on_none None is = tt
    told_on_none (Some b) is = absurd (cc)

    pub told_no_call : open_call c slot past ≡ None → IsTrue true ↔ ToldAt out lost osts past at (Client c) slot turn answer
    told_no_call is = (λ yes here says. told_on_none (open_call c slot past) is, λ told. refl)

    pub told_uncounted : (begun : Begun) → Some begun ≡ open_call c slot past → is_counted begun.call ≡ false → IsTrue true
        ↔ ToldAt out lost osts past at (Client c) slot turn answer
    told_uncounted begun is none = (
      λ yes here says. subst (λ (b : Option Begun). ToldOn out lost osts past at c slot b turn answer) is
          (λ counted. absurd (differ (sym counted ∙ none))),
      λ told. refl,
    )
      where
        differ : true ≡ false → ⊥
        differ e = cc

    told_by : (begun : Begun) (b same : Bool) → Some begun ≡ open_call c slot past → out (who_is c past) ≡ false → is_answer answer ≡ true
        → is_counted begun.call ≡ true
        → same_turn turn at ≡ same → (IsTrue b ↔ (right_answer out lost osts past at c slot turn same ≡ Some answer))
        → IsTrue b ↔ ToldAt out lost osts past at (Client c) slot turn answer
    told_by begun b same is stays says counted turns right = (
      λ yes here told. subst (λ (o : Option Begun). ToldOn out lost osts past at c slot o turn answer) is (λ counts. there (right.0 yes)),
      λ told. right.1 (back (subst (λ (o : Option Begun). ToldOn out lost osts past at c slot o turn answer) (sym is) (told stays says)
          counted)),
    )
      where
        there : right_answer out lost osts past at c slot turn same ≡ Some answer
            → right_answer out lost osts past at c slot turn (same_turn turn at) ≡ Some answer
        there e = ap (right_answer out lost osts past at c slot turn) turns ∙ e

        back : right_answer out lost osts past at c slot turn (same_turn turn at) ≡ Some answer
            → right_answer out lost osts past at c slot turn same ≡ Some answer
        back e = sym (ap (right_answer out lost osts past at c slot turn) turns) ∙ e

    -- told in the turn in which the call acts
    pub told_here : (begun : Begun) (who : Who) (b : Bool) → Some begun ≡ open_call c slot past → who ≡ who_is c past → out (who_is c past)
        ≡ false → is_answer answer ≡ true
        → is_counted begun.call ≡ true → same_turn turn at ≡ true
        → (IsTrue b ↔ (answer_to osts (machine_of out lost osts past) (act_of who none (deed_of (Some begun))) ≡ Some answer))
        → IsTrue b ↔ ToldAt out lost osts past at (Client c) slot turn answer
    told_here begun who b is life stays says counted turns tells =
        told_by begun b true is stays says counted turns (λ yes. sym acts ∙ tells.0 yes, λ e. tells.1 (acts ∙ e))
      where
        acts : answer_to osts (machine_of out lost osts past) (act_of who none (deed_of (Some begun)))
            ≡ answer_to osts (machine_of out lost osts past) (call_act past c slot)
        acts =
            ap (λ (w : Who). answer_to osts (machine_of out lost osts past) (act_of w none (deed_of (Some begun)))) life
            ∙ ap (λ (o : Option Begun). answer_to osts (machine_of out lost osts past) (act_of (who_is c past) none (deed_of o))) is

    -- told in another turn
    pub told_there : (begun : Begun) (who : Who) (b : Bool) → Some begun ≡ open_call c slot past → who ≡ who_is c past → out (who_is c past)
        ≡ false → is_answer answer ≡ true
        → is_counted begun.call ≡ true → same_turn turn at ≡ false
        → (IsTrue b ↔ (heard_answer out lost osts past turn who (heard_in past at) ≡ Some answer))
        → IsTrue b ↔ ToldAt out lost osts past at (Client c) slot turn answer
    told_there begun who b is life stays says counted turns tells =
        told_by begun b false is stays says counted turns (λ yes. sym acts ∙ tells.0 yes, λ e. tells.1 (acts ∙ e))
      where
        acts : heard_answer out lost osts past turn who (heard_in past at)
            ≡ heard_answer out lost osts past turn (who_is c past) (heard_in past at)
        acts = ap (λ (w : Who). heard_answer out lost osts past turn w (heard_in past at)) life

  -- other lines say nothing that the law of history asks about
  pub other_entry : (at : At) (e : Entry) → ((slot : ℕ) (turn : At) (answer : Answer) → e ≡ Told slot turn answer → ⊥)
      → ((number : TxnOf) (who : Who) (xid : Xid) (seen : List ℕ) (answer : Answer) → e ≡ Txn number who xid seen answer → ⊥)
      → IsTrue true ↔ HistoryAt out lost osts past at e
  other_entry at (Told slot turn answer) tells makes = absurd (tells slot turn answer refl)
  other_entry at (Txn number who xid seen answer) tells makes = absurd (makes number who xid seen answer refl)
  other_entry at _ tells makes = (λ yes. tt, λ holds. refl)

  -- ---- transactions

  module _ (number : TxnOf) (who : Who) (x : ℕ) where
    pub names_lost : lost 0 number.0 ≡ true → IsTrue true ↔ TxnAt out lost osts past 0 number who x
    names_lost gone = (λ yes stands. absurd (differ (sym gone ∙ stands)), λ at. refl) where
      differ : true ≡ false → ⊥
      differ e = cc

    pub names_by : (b : Bool) → lost 0 number.0 ≡ false → b ≡ is_accepted
        (request_answer osts (machine_of out lost osts past) who number (asked past 0 who x))
        → IsTrue b ↔ TxnAt out lost osts past 0 number who x
    names_by b stands is = (λ yes here. sym is ∙ yes, λ at. is ∙ at stands)

    pub piece_by : (target : ℕ) (b : Bool) → (target ≡ 0 → ⊥) → (IsTrue b ↔ PieceAt past target who x (asked past target who x)) → IsTrue b
        ↔ TxnAt out lost osts past target number who x
    piece_by zero b other is = absurd (other refl)
    piece_by (suc target) b other is = is

-- ---- the act of a call

module _ (out : Who → Bool) (past : Past) (c slot : ℕ) where
  -- what is performed where a call is told in the turn in which it acts
  abbrev pub told_act : Option ActOf
  told_act = if not (out (who_is c past)) then call_act past c slot else None

  pub act_none_gone : out (who_is c past) ≡ true → told_act ≡ None
  act_none_gone gone = ap (λ (b : Bool). if not b then call_act past c slot else None) gone

  either_none : (b : Bool) (act : Option ActOf) → act ≡ None → (if b then act else None) ≡ None
  either_none true act is = is
  either_none false act is = refl

  pub act_none_call : open_call c slot past ≡ None → told_act ≡ None
  act_none_call is = either_none (not (out (who_is c past))) (call_act past c slot)
      (ap (λ (o : Option Begun). act_of (who_is c past) none (deed_of o)) is)

  pub act_none_deed : (begun : Begun) → Some begun ≡ open_call c slot past → None ≡ deed_on begun begun.call → told_act ≡ None
  act_none_deed begun is deed =
      either_none (not (out (who_is c past))) (call_act past c slot)
      (sym (ap (λ (o : Option Begun). act_of (who_is c past) none (deed_of o)) is)
      ∙ sym (ap (λ (d : Option Deed). act_of (who_is c past) none d) deed))

  pub act_is : (who : Who) (begun : Begun) (asked : Asked) → who ≡ who_is c past → out (who_is c past) ≡ false → Some begun
      ≡ open_call c slot past
      → Some (deed_asked asked) ≡ deed_on begun begun.call → told_act ≡ Some (act_asked who asked)
  act_is who begun asked life stays is deed =
      ap (λ (b : Bool). if not b then call_act past c slot else None) stays
      ∙ sym (ap (λ (o : Option Begun). act_of (who_is c past) none (deed_of o)) is)
      ∙ sym (ap (λ (d : Option Deed). act_of (who_is c past) none d) deed)
      ∙ ap (λ (w : Who). Some (act_asked w asked)) (sym life)
