-- What a line makes of the tables is what it makes of the laws' notions.
use Rattle.std.proofs.Common.{◌≡◌, ℕ, refl, ap, sym, ◌∙◌, subst, arith}
use Rattle.std.specs.Prelude.{Bool, true, false, ◌==◌, ◌&&◌, if◌then◌else◌, [], ◌∷◌, Option, Some, None}
use Rattle.std.specs.Option.{option_map}
use Rattle.std.proofs.lemmas.Bool.{eqb-true}
use Rattle.lu_base.specs.declared.ids.At.{At}
use Rattle.lu_base.specs.declared.ids.Node.{Node}
use Rattle.lu_base.specs.declared.ids.Node.TheVariants.{Client, Target}
use Rattle.lu_base.specs.declared.ids.Who.{Who}
use Rattle.lu_msg.specs.declared.calls.Call.{Call}
use Rattle.lu_trace.specs.declared.entries.Entry.{Entry}
use Rattle.lu_trace.specs.declared.entries.Entry.TheVariants.{Begin, Told}
use Rattle.lu_spec_laws.specs.Words.Pasts.{Past, is_client, is_target, same_node, or_else}
use Rattle.lu_spec_laws.specs.Words.Lives.{life, who_is, is_by}
use Rattle.lu_spec_laws.specs.Words.Calls.{Begun, begun, call_in, open_call}
use Rattle.lu_spec_laws.proofs.Tests.{life_is}
use Rattle.lu_judge_calls.specs.Tables.{is_life}

-- ---- the call in a slot is that of what was begun there

abbrev call_of : Option Begun → Option Call
call_of o = option_map (λ b. b.call) o

put_call : (here : Bool) (b : Begun) (c : Option Call) (o : Option Begun) → c ≡ call_of o
    → (if here then Some b.call else c) ≡ call_of (if here then Some b else o)
put_call true b c o same = refl
put_call false b c o same = same

no_call : (here : Bool) (c : Option Call) (o : Option Begun) → c ≡ call_of o → (if here then None else c)
    ≡ call_of (if here then None else o)
no_call true c o same = refl
no_call false c o same = same

call_line : (c slot : ℕ) (past : Past) (at : At) (e : Entry) → call_in c slot past ≡ call_of (open_call c slot past)
    → call_in c slot (record { at = at; entry = e } ∷ past) ≡ call_of (open_call c slot (record { at = at; entry = e } ∷ past))
call_line c slot past at (Begin other call) same = put_call (is_client c at.node && other == slot) (begun c past at call) _ _ same
call_line c slot past at (Told other turn answer) same = no_call (is_client c at.node && other == slot) _ _ same
call_line c slot past at _ same = same

pub call_same : (c slot : ℕ) (past : Past) → call_in c slot past ≡ call_of (open_call c slot past)
call_same c slot [] = refl
call_same c slot (l ∷ past) = call_line c slot past l.at l.entry (call_same c slot past)

-- ---- a line of a client

-- the client's call that stands in a slot is that of the slot's owner
pub begun_put : (c d s slot : ℕ) (at : At) (call : Call) (past : Past) (b : Begun) (o : Option Begun) → at.node ≡ Client c → b
    ≡ begun c past at call
    → (if c == d && slot == s then Some b else o) ≡ (if is_client d at.node && slot == s then Some (begun d past at call) else o)
begun_put c d s slot at call past b o node is =
    let own : is_client d at.node ≡ (c == d) = rw node refl in
    rw own (by (c == d) refl) where
      by : (same : Bool) → (c == d) ≡ same → (if same && slot == s then Some b else o)
          ≡ (if same && slot == s then Some (begun d past at call) else o)
      by true e = ap (λ (x : Begun). if true && slot == s then Some x else o) (is ∙ ap (λ (k : ℕ). begun k past at call) (eqb-true c d e))
      by false e = refl

pub told_out : (c d s slot : ℕ) (at : At) (o : Option Begun) → at.node ≡ Client c
    → (if c == d && slot == s then None else o) ≡ (if is_client d at.node && slot == s then None else o)
told_out c d s slot at o node = rw node refl

-- whether a line of the client, in its present life, is another life's
pub own_life : (c : ℕ) (who w : Who) (past : Past) (at : At) → at.node ≡ Client c → who ≡ who_is c past → is_life who w
    ≡ is_by w past at.node
own_life c who w past at node is = rw (node, is) (by (c == w.client) refl) where
  by : (same : Bool) → (c == w.client) ≡ same → (same && life c past == w.life) ≡ (same && life w.client past == w.life)
  by true e = ap (λ (k : ℕ). life k past == w.life) (eqb-true c w.client e)
  by false e = refl

-- what is said of a life where it is this one is said of this one
pub of_life : {A : Type 0} (who w : Who) (said : Who → A) (o : A) → (if is_life who w then said who else o)
    ≡ (if is_life who w then said w else o)
of_life {A} who w said o = by (is_life who w) refl where
  by : (same : Bool) → is_life who w ≡ same → (if same then said who else o) ≡ (if same then said w else o)
  by true e = ap said (life_is who w e)
  by false e = refl

-- ---- a transaction

put_at : {A : Type 0} (zero stamp life number : Bool) (new : A) (raw old : Option A) → (if zero then raw else None) ≡ old
    → (if zero then (if stamp && (life && number) then Some new else raw) else None)
    ≡ or_else (if ((true && (stamp && zero)) && life) && number then Some new else None) old
put_at true true true true new raw old is = refl
put_at true true true false new raw old is = is
put_at true true false number new raw old is = is
put_at true false life number new raw old is = is
put_at false true life number new raw old is = is
put_at false false life number new raw old is = is

-- of the metadata target's turn, by its stamp
at_zero : (node : Node) → same_node (Target 0) node ≡ is_target 0 node
at_zero (Client c) = refl
at_zero (Target t) = by t where
  by : (t : ℕ) → (0 == t) ≡ (t == 0)
  by t = grind (arith)

pub number_put : {A : Type 0} (u : ℕ) (here node : Node) (stamp life number : Bool) (x : A) (raw new old : Option A) → here ≡ Target u → u
    ≡ 0
    → new ≡ (if stamp && (life && number) then Some x else raw) → (if is_target 0 node then raw else None) ≡ old
    → (if is_target 0 node then new else None)
    ≡ or_else (if ((is_target 0 here && (stamp && same_node here node)) && life) && number then Some x else None) old
number_put u here node stamp life number x raw new old is zero puts shown =
    subst (λ (n : Node). (if is_target 0 node then new else None)
    ≡ or_else (if ((is_target 0 n && (stamp && same_node n node)) && life) && number then Some x else None) old)
    (sym (is ∙ ap Target zero))
    (rw (puts, at_zero node) (put_at (is_target 0 node) stamp life number x raw old shown))

pub number_kept : {A : Type 0} (u : ℕ) (here : Node) (same life number : Bool) (new : A) (old : Option A) → here ≡ Target u → (u == 0)
    ≡ false
    → old ≡ or_else (if ((is_target 0 here && same) && life) && number then Some new else None) old
number_kept u here same life number new old is other = rw (is, other) refl

-- ---- handles

-- what a line of the client makes of a handle, where the table says what it makes of it for this life
pub life_put : {A : Type 0} (c : ℕ) (at : At) (who w : Who) (past : Past) (said : Who → A) (old new notion : A) → at.node ≡ Client c → who
    ≡ who_is c past → old ≡ notion
    → new ≡ (if is_life who w then said who else old) → new ≡ (if is_by w past at.node then said w else notion)
life_put {A} c at who w past said old new notion node is shown puts =
    puts ∙ of_life who w said old
    ∙ ap (λ (o : A). if is_life who w then said w else o) shown
    ∙ ap (λ (b : Bool). if b then said w else notion) (own_life c who w past at node is)

-- a binding that ends, or comes, at a handle of a life
pub bind_at : {A B : Type 0} (now : A → B) (life same : Bool) (x old new : Option A) → new ≡ (if life && same then x else old)
    → option_map now new ≡ (if life then (if same then option_map now x else option_map now old) else option_map now old)
bind_at now true true x old new is = rw is refl
bind_at now true false x old new is = rw is refl
bind_at now false same x old new is = rw is refl
