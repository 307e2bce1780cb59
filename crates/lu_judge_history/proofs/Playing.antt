-- What a line makes of the machine, and of what it answered.
use Rattle.std.proofs.Common.{◌≡◌, ℕ, zero, suc, ◌<◌, Bool, true, false, Option, None, List, ◌∷◌, refl, sym, ap, subst, ◌∙◌, arith}
use Rattle.std.specs.Prelude.{not, ◌==◌, ◌&&◌, if◌then◌else◌}
use Rattle.std.proofs.lemmas.Bool.{eqb-true}
use Rattle.std.proofs.lemmas.Bool.Decides.{nat_tests}
use Rattle.lu_base.specs.declared.ids.At.{At}
use Rattle.lu_base.specs.declared.ids.Node.{Node}
use Rattle.lu_base.specs.declared.ids.Node.TheVariants.{Client, Target}
use Rattle.lu_base.specs.declared.ids.Txn.{Txn as TxnOf}
use Rattle.lu_base.specs.declared.ids.Who.{Who}
use Rattle.lu_base.specs.declared.ids.Xid.{Xid}
use Rattle.lu_msg.specs.declared.answers.Answer.{Answer}
use Rattle.lu_trace.specs.declared.entries.Entry.TheVariants.{Act, Txn, Told}
use Rattle.lu_spec_machine.specs.Machine.{Machine}
use Rattle.lu_spec_laws.specs.Words.Pasts.{Past, is_target, same_turn}
use Rattle.lu_spec_laws.specs.Words.Lives.{who_is}
use Rattle.lu_spec_laws.specs.Words.Requests.{asked}
use Rattle.lu_spec_laws.specs.Words.Histories.{none, names_act, piece_act, call_act, after_item, is_answer, told_item, request_answer}
use Rattle.lu_spec_laws.specs.Words.Histories.{acts_as, machine_of, answer_there}
use Rattle.lu_spec_laws.proofs.Tests.{first_of, rest_of, life_is}
use Rattle.lu_posix.specs.Shown.{MachineState, Shows}
use Rattle.lu_judge_history.specs.declared.answers.Answers.{Answers}
use Rattle.lu_judge_history.specs.declared.played.Played.{Played}
use Rattle.lu_judge_history.specs.Shown.{ShowsPlayed}
use Rattle.lu_judge_history.specs.Tables.{answer_in, is_key}
use Rattle.lu_judge_history.proofs.Keys.{key_is}

and_false : (a : Bool) → (a && false) ≡ false
and_false true = refl
and_false false = refl

-- an object storage target is no metadata target
is_other : (n : ℕ) → (suc n == 0) ≡ false
is_other n = grind (arith, nat_tests)

and_true : (a b : Bool) → b ≡ true → (a && b) ≡ a
and_true true b e = e
and_true false b e = refl

put_is : (b : Bool) (here there new old notion : Option Answer) → new ≡ (if b then here else old) → (b ≡ true → here ≡ there) → old ≡ notion
    → new ≡ (if b then there else notion)
put_is true here there new old notion puts same is = puts ∙ same refl
put_is false here there new old notion puts same is = puts ∙ is

-- a line that is none of the metadata target executes nothing
acts_nowhere : (turn : At) (w : Who) (x : ℕ) (at : At) (who : Who) (xid : ℕ) → is_target 0 at.node ≡ false → acts_as turn w x at who xid
    ≡ false
acts_nowhere turn w x at who xid other = ap (λ (b : Bool). ((b && same_turn at turn) && (who.client == w.client && who.life == w.life))
    && xid == x) other

module _ (osts : ℕ) (out : Who → Bool) (lost : ℕ → ℕ → Bool) (past : Past) where
  abbrev machine : Machine
  machine = machine_of out lost osts past

  -- the executed request is the one that is asked about
  same_request : (turn : At) (w : Who) (x : ℕ) (at : At) (who : Who) (xid : ℕ) (number : TxnOf) → acts_as turn w x at who xid ≡ true
      → request_answer osts machine who number (asked past 0 who xid) ≡ request_answer osts machine w number (asked past 0 w x)
  same_request turn w x at who xid number e =
      ap (λ (y : ℕ). request_answer osts machine who number (asked past 0 who y)) (eqb-true xid x (rest_of _ _ e))
      ∙ ap (λ (v : Who). request_answer osts machine v number (asked past 0 v x)) (life_is who w (rest_of _ _ (first_of _ _ e)))

  module _ (t : Played) (shown : ShowsPlayed osts out lost t past) (at : At) (who : Who) (xid : Xid) where
    executes : (new : Answers) (number : TxnOf) (answer : Option Answer) → at.node ≡ Target 0 → answer
        ≡ request_answer osts machine who number (asked past 0 who xid.0)
        → ((turn : At) (w : Who) (x : ℕ) → answer_in new turn w x
        ≡ (if is_key at.stamp who xid.0 turn w x then answer else answer_in t.answers turn w x))
        → (turn : At) (w : Who) (x : ℕ)
        → answer_in new turn w x ≡ (if acts_as turn w x at who xid.0 then request_answer osts machine w number (asked past 0 w x)
        else answer_there out lost osts past turn w x)
    executes new number answer own is puts turn w x =
        put_is (acts_as turn w x at who xid.0) answer (request_answer osts machine w number (asked past 0 w x)) (answer_in new turn w x)
        (answer_in t.answers turn w x) (answer_there out lost osts past turn w x)
        (puts turn w x ∙ ap (λ (b : Bool). if b then answer else answer_in t.answers turn w x) (key_is at turn who w xid.0 x own))
        (λ e. is ∙ same_request turn w x at who xid.0 number e)
        (shown.answers turn w x)

    pub act_shown : (new : Played) (said : Answer) (answer : Option Answer) → at.node ≡ Target 0 → new.machine ≡ t.machine
        → answer ≡ request_answer osts machine who none (asked past 0 who xid.0)
        → ((turn : At) (w : Who) (x : ℕ) → answer_in new.answers turn w x
        ≡ (if is_key at.stamp who xid.0 turn w x then answer else answer_in t.answers turn w x))
        → ShowsPlayed osts out lost new (record { at = at; entry = Act who xid said } ∷ past)
    act_shown new said answer own same is puts = record {
      machine = subst (λ (s : MachineState). Shows osts s machine) (sym same) shown.machine;
      answers = executes new.answers none answer own is puts;
    }

    pub act_elsewhere : (said : Answer) → is_target 0 at.node ≡ false
        → ShowsPlayed osts out lost t (record { at = at; entry = Act who xid said } ∷ past)
    act_elsewhere said other = record {
      machine = shown.machine;
      answers = λ turn w x.
          shown.answers turn w x
          ∙ sym (ap (λ (b : Bool). if b then request_answer osts machine w none (asked past 0 w x)
          else answer_there out lost osts past turn w x) (acts_nowhere turn w x at who xid.0 other));
    }

    -- ---- transactions

    pub txn_shown : (new : Played) (number : TxnOf) (seen : List ℕ) (said : Answer) (answer : Option Answer) → at.node ≡ Target 0
        → lost 0 number.0 ≡ false
        → Shows osts new.machine (after_item osts machine (names_act who number (asked past 0 who xid.0)))
        → answer ≡ request_answer osts machine who number (asked past 0 who xid.0)
        → ((turn : At) (w : Who) (x : ℕ) → answer_in new.answers turn w x
        ≡ (if is_key at.stamp who xid.0 turn w x then answer else answer_in t.answers turn w x))
        → ShowsPlayed osts out lost new (record { at = at; entry = Txn number who xid seen said } ∷ past)
    txn_shown new number seen said answer own stands next is puts = record {
      machine = rw (own, stands) next;
      answers = λ turn w x.
          executes new.answers number answer own is puts turn w x
          ∙ ap (λ (b : Bool). if b then request_answer osts machine w number (asked past 0 w x)
          else answer_there out lost osts past turn w x)
          (sym (and_true (acts_as turn w x at who xid.0) (not (lost 0 number.0)) (ap not stands)));
    }

    -- what isn't executed at the metadata target leaves the answers
    no_answer : (number : TxnOf) (seen : List ℕ) (said : Answer)
        → ((turn : At) (w : Who) (x : ℕ) → (acts_as turn w x at who xid.0 && not (lost 0 number.0)) ≡ false)
        → (turn : At) (w : Who) (x : ℕ) → answer_in t.answers turn w x
        ≡ answer_there out lost osts (record { at = at; entry = Txn number who xid seen said } ∷ past) turn w x
    no_answer number seen said none turn w x =
        shown.answers turn w x
        ∙ sym (ap (λ (b : Bool). if b then request_answer osts machine w number (asked past 0 w x)
        else answer_there out lost osts past turn w x) (none turn w x))

    lost_nowhere : (target : ℕ) (number : TxnOf) → at.node ≡ Target target → lost target number.0 ≡ true
        → (turn : At) (w : Who) (x : ℕ) → (acts_as turn w x at who xid.0 && not (lost 0 number.0)) ≡ false
    lost_nowhere zero number own gone turn w x = ap (λ (b : Bool). acts_as turn w x at who xid.0 && b) (ap not gone)
        ∙ and_false (acts_as turn w x at who xid.0)
    lost_nowhere (suc target) number own gone turn w x =
        ap (λ (b : Bool). b && not (lost 0 number.0)) (acts_nowhere turn w x at who xid.0 (ap (is_target 0) own ∙ is_other target))

    pub lost_shown : (target : ℕ) (number : TxnOf) (seen : List ℕ) (said : Answer) → at.node ≡ Target target → lost target number.0 ≡ true
        → ShowsPlayed osts out lost t (record { at = at; entry = Txn number who xid seen said } ∷ past)
    lost_shown target number seen said own gone = record {
      machine = rw (own, gone) shown.machine;
      answers = no_answer number seen said (lost_nowhere target number own gone);
    }

    pub txn_of_client : (c : ℕ) (number : TxnOf) (seen : List ℕ) (said : Answer) → at.node ≡ Client c
        → ShowsPlayed osts out lost t (record { at = at; entry = Txn number who xid seen said } ∷ past)
    txn_of_client c number seen said own = record {
      machine = rw own shown.machine;
      answers = no_answer number seen said (λ turn w x. ap (λ (b : Bool). b && not (lost 0 number.0))
          (acts_nowhere turn w x at who xid.0 (ap (is_target 0) own)));
    }

    pub reach_shown : (new : Played) (target : ℕ) (number : TxnOf) (seen : List ℕ) (said : Answer) → 0 < target → at.node ≡ Target target
        → lost target number.0 ≡ false
        → Shows osts new.machine (after_item osts machine (if out who then piece_act who number (asked past target who xid.0) else None))
        → new.answers ≡ t.answers
        → ShowsPlayed osts out lost new (record { at = at; entry = Txn number who xid seen said } ∷ past)
    reach_shown new zero number seen said some own stands next same = absurd (omega arith)
    reach_shown new (suc target) number seen said some own stands next same = record {
      machine = rw (own, stands) next;
      answers = λ turn w x.
          ap (λ (a : Answers). answer_in a turn w x) same
          ∙ no_answer number seen said (λ v u y. ap (λ (b : Bool). b && not (lost 0 number.0))
          (acts_nowhere v u y at who xid.0 (ap (is_target 0) own ∙ is_other target))) turn w x;
    }

  -- ---- what is told

  module _ (t : Played) (shown : ShowsPlayed osts out lost t past) (at : At) (slot : ℕ) (turn : At) (said : Answer) where
    pub tell_shown : (new : Played) (c : ℕ) → at.node ≡ Client c → (same_turn turn at && is_answer said) ≡ true
        → Shows osts new.machine (after_item osts machine (if not (out (who_is c past)) then call_act past c slot else None)) → new.answers
        ≡ t.answers
        → ShowsPlayed osts out lost new (record { at = at; entry = Told slot turn said } ∷ past)
    tell_shown new c own here next same = record {
      machine =
          subst (λ (n : Node). Shows osts new.machine (after_item osts machine (told_item out past at n slot turn said))) (sym own)
          (subst (λ (b : Bool). Shows osts new.machine (after_item osts machine
          (if b && not (out (who_is c past)) then call_act past c slot else None))) (sym here) next);
      answers = λ v w x. ap (λ (a : Answers). answer_in a v w x) same ∙ shown.answers v w x;
    }

    pub tell_elsewhere : (c : ℕ) → at.node ≡ Client c → (same_turn turn at && is_answer said) ≡ false
        → ShowsPlayed osts out lost t (record { at = at; entry = Told slot turn said } ∷ past)
    tell_elsewhere c own other = record {
      machine =
          subst (λ (n : Node). Shows osts t.machine (after_item osts machine (told_item out past at n slot turn said))) (sym own)
          (subst (λ (b : Bool). Shows osts t.machine (after_item osts machine
          (if b && not (out (who_is c past)) then call_act past c slot else None))) (sym other) shown.machine);
      answers = shown.answers;
    }

    pub told_of_target : (target : ℕ) → at.node ≡ Target target
        → ShowsPlayed osts out lost t (record { at = at; entry = Told slot turn said } ∷ past)
    told_of_target target own = record {
      machine = subst (λ (n : Node). Shows osts t.machine (after_item osts machine (told_item out past at n slot turn said))) (sym own)
          shown.machine;
      answers = shown.answers;
    }
