-- What a message that a life takes makes of the boots that it was told of.
use Rattle.std.proofs.Common.{◌≡◌, ℕ, Bool, true, false, Some, List, [], ◌∷◌, length, refl, ap, ◌∙◌, sym, arith}
use Rattle.std.specs.Prelude.{◌==◌, ◌&&◌, ◌||◌, not, if◌then◌else◌, IsTrue, ◌↔◌}
use Rattle.std.specs.List.{list_any}
use Rattle.std.proofs.lemmas.Bool.{eqb-true, ne_eqb, false_from_ne_true}
use Rattle.std.proofs.lemmas.Map.Views.{any-filter_same}
use Rattle.lu_base.specs.declared.ids.Node.{Node}
use Rattle.lu_base.specs.declared.ids.Node.TheVariants.{Client, Target}
use Rattle.lu_base.specs.declared.ids.At.{At}
use Rattle.lu_base.specs.declared.ids.Who.{Who}
use Rattle.lu_msg.specs.declared.messages.Message.{Message}
use Rattle.lu_msg.specs.declared.messages.Message.TheVariants.{Up, Ready}
use Rattle.lu_spec_machine.specs.Tree.{same_life}
use Rattle.lu_trace.specs.declared.entries.Entry.TheVariants.{Take}
use Rattle.lu_spec_laws.specs.Words.Pasts.{Past}
use Rattle.lu_spec_laws.specs.Words.Lives.{is_by}
use Rattle.lu_spec_laws.specs.Words.Sends.{Sending, sending}
use Rattle.lu_spec_laws.specs.Words.Repeats.{unready_with, unready}
use Rattle.lu_spec_laws.proofs.Tests.{first_of, rest_of, itself, life_is}
use Rattle.lu_judge_silent.specs.declared.ups.Ups.{Ups}
use Rattle.lu_judge_silent.specs.Tables.{is_waiting}
use Rattle.lu_judge_silent.specs.Shown.{is_up, ShowsUps}
use Rattle.lu_judge_silent.specs.Waits.{waits_after}
use Rattle.lu_judge_silent.proofs.Questions.{eq_turned}

-- ---- a message

added : (b old : Bool) → (if b then true else old) ≡ (b || old)
added true old = refl
added false old = refl

removed : (b old : Bool) → (if b then false else old) ≡ (not b && old)
removed true old = refl
removed false old = refl

-- a boot that is ready keeps all or none of one boot
one_boot : (t boot : ℕ) (up other : ℕ × ℕ) → is_up up other ≡ true → not (other.0 == t && other.1 == boot) ≡ not (t == up.0 && boot == up.1)
one_boot t boot up other e = rw (
  eqb-true other.0 up.0 (first_of (other.0 == up.0) (other.1 == up.1) e),
  eqb-true other.1 up.1 (rest_of (other.0 == up.0) (other.1 == up.1) e),
  eq_turned up.0 t,
  eq_turned up.1 boot,
) refl

pub waits_is : (own : Bool) (from : Node) (message : Message) (up : ℕ × ℕ) (old : List (ℕ × ℕ))
    → waits_after own from message up (list_any (is_up up) old) ≡ list_any (is_up up) (if own then unready_with from message old else old)
waits_is true (Target t) (Up boot) up old = added (t == up.0 && boot == up.1) (list_any (is_up up) old)
waits_is true (Target t) (Ready who boot committed) up old =
    removed (t == up.0 && boot == up.1) (list_any (is_up up) old)
    ∙ sym (any-filter_same (is_up up) (λ other. not (other.0 == t && other.1 == boot)) (not (t == up.0 && boot == up.1))
    (one_boot t boot up) old)
waits_is false (Target t) (Up boot) up old = refl
waits_is false (Target t) (Ready who boot committed) up old = refl
waits_is true (Target t) _ up old = refl
waits_is false (Target t) _ up old = refl
waits_is true (Client c) _ up old = refl
waits_is false (Client c) _ up old = refl

pub ups_taken : (t n : Ups) (who : Who) (past : Past) (at : At) (number : ℕ) (s : Sending)
    → ((w : Who) → is_by w past at.node ≡ same_life who w) → sending past number ≡ Some s → ShowsUps t past
    → ((w : Who) (up : ℕ × ℕ) → is_waiting n w up ≡ waits_after (same_life who w) s.from s.message up (is_waiting t w up))
    → ShowsUps n (record { at = at; entry = Take number } ∷ past)
ups_taken t n who past at number s own sent shown takes w up =
    takes w up ∙ ap (λ (b : Bool). waits_after (same_life who w) s.from s.message up b) (shown w up)
    ∙ waits_is (same_life who w) s.from s.message up (unready w past)
    ∙ rw (own w, sent) refl

-- ---- the boots of a life are taken out, changed and put back

pub put_back : (t : Ups) (who w : Who) (up : ℕ × ℕ) (hit v after mid boots old : Bool) → after ≡ (if same_life who w then boots else mid)
    → mid ≡ (if same_life who w then false else is_waiting t w up) → boots ≡ (if hit then v else old) → old ≡ is_waiting t who up
    → after ≡ (if same_life who w && hit then v else is_waiting t w up)
put_back t who w up hit v after mid boots old a b c d = a ∙ by (same_life who w) refl b where
  by : (own : Bool) → same_life who w ≡ own → mid ≡ (if own then false else is_waiting t w up) → (if own then boots else mid)
      ≡ (if own && hit then v else is_waiting t w up)
  by true e b = c ∙ ap (λ (o : Bool). if hit then v else o) (d ∙ ap (λ (one : Who). is_waiting t one up) (life_is who w e))
  by false e b = b

-- ---- none is left

is_itself : (up : ℕ × ℕ) → is_up up up ≡ true
is_itself up = rw (itself up.0, itself up.1) refl

pub none_waits : (list : List (ℕ × ℕ)) → ((up : ℕ × ℕ) → false ≡ list_any (is_up up) list) → true ≡ (length list == 0)
none_waits [] none = refl
none_waits (up ∷ list) none = let so : false ≡ (true || list_any (is_up up) list) = none up
    ∙ ap (λ (b : Bool). b || list_any (is_up up) list) (is_itself up) in absurd (cc)

pub some_wait : (keys list : List (ℕ × ℕ)) (r : Bool) → ((up : ℕ × ℕ) → list_any (λ (k : ℕ × ℕ). up.0 == k.0 && up.1 == k.1) keys
    ≡ list_any (is_up up) list)
    → (IsTrue r ↔ (length keys ≡ 0)) → r ≡ (length list == 0)
some_wait [] [] r same empty = empty.1 refl
some_wait [] (up ∷ list) r same empty =
    let so : false ≡ (true || list_any (is_up up) list) = same up ∙ ap (λ (b : Bool). b || list_any (is_up up) list) (is_itself up)
    in absurd (cc)
some_wait (key ∷ keys) [] r same empty =
    let mine : (key.0 == key.0 && key.1 == key.1) ≡ true = is_itself key in
    let so : (true || list_any (λ (k : ℕ × ℕ). key.0 == k.0 && key.1 == k.1) keys) ≡ false =
    ap (λ (b : Bool). b || list_any (λ (k : ℕ × ℕ). key.0 == k.0 && key.1 == k.1) keys) (sym mine) ∙ same key in
    absurd (cc)
some_wait (key ∷ keys) (up ∷ list) r same empty =
    false_from_ne_true r (λ e. let none : length (key ∷ keys) ≡ 0 = empty.0 e in omega arith)
    ∙ sym (ne_eqb (length (up ∷ list)) 0 (λ none. omega arith))
