-- Line by line the law of acts holds of the whole trace.
use Rattle.std.proofs.Common.{◌≡◌, ℕ, suc, ◌≤◌, Bool, true, false, [], ◌∷◌, refl, sym, subst, arith}
use Rattle.std.specs.Prelude.{not, ◌==◌, ◌&&◌}
use Rattle.std.proofs.lemmas.Bool.{eqb-true, cond_both}
use Rattle.lu_base.specs.declared.ids.At.{At}
use Rattle.lu_base.specs.declared.ids.Node.{Node}
use Rattle.lu_base.specs.declared.ids.Node.TheVariants.{Client, Target}
use Rattle.lu_base.specs.declared.ids.Who.{Who}
use Rattle.lu_msg.specs.declared.answers.Answer.{Answer}
use Rattle.lu_msg.specs.declared.operations.Op.{Op}
use Rattle.std.specs.Prelude.{◌||◌, Option, Some, None, List}
use Rattle.lu_trace.specs.declared.entries.Entry.{Entry}
use Rattle.lu_trace.specs.declared.entries.Entry.TheVariants.{Told, Txn}
use Rattle.lu_trace.specs.declared.entries.Line.{Line}
use Rattle.lu_spec_machine.specs.Tree.{same_life}
use Rattle.lu_spec_laws.specs.Words.Pasts.{Past, is_target}
use Rattle.lu_spec_laws.specs.Words.Lives.{who_is}
use Rattle.lu_spec_laws.specs.Words.Lives.{life, is_by}
use Rattle.lu_spec_laws.specs.Words.Calls.{Begun, open_call, heard_in, operation}
use Rattle.lu_spec_laws.specs.Holds.{HoldsBefore, Holds}
use Rattle.lu_spec_laws.specs.Laws.Acts.{is_number, standing_count, ActsThere, ActsFor, ToldAt, ToldOn, ToldBy, OnceAt, ActsAt, ActsOf}
use Rattle.lu_spec_laws.specs.Laws.SoFar.{told_act, NewAt, NewBy, SoFarAt, ActsSoFar, SoFarIsWhole}
use Rattle.lu_spec_laws.proofs.Tests.{refuted, settled, clash, both, either_left, either_right, itself, first_of, rest_of, target_is}
use Rattle.lu_spec_laws.proofs.Tests.{life_is}

-- the second is the first, or what was before some of its lines
data Tail : Past → Past → Type 0 where
  whole : {past : Past} → Tail past past
  longer : {now past : Past} (l : Line) → Tail now past → Tail (l ∷ now) past

shorter : {now past : Past} {l : Line} → Tail now (l ∷ past) → Tail now past
shorter {l = l} whole = longer l whole
shorter (longer k tail) = longer k (shorter tail)

-- ---- at a line

module _ (out : Who → Bool) (lost : ℕ → ℕ → Bool) where
  -- a transaction that counts is new
  new_at : (past : Past) (n : Node) (number : ℕ) (other : Who) (y t : ℕ) (who : Who) (x : ℕ)
      → (is_target t n && same_life other who && y == x && not (lost t number)) ≡ true → NewBy out lost past n number other y
      → NewAt out lost past t who x
  new_at past n number other y t who x e new =
      let three = first_of _ _ e in
      let two = first_of _ _ three in
      let of_target = target_is t n (first_of _ _ two) in
      let of_life = life_is other who (rest_of _ _ two) in
      let of_request = eqb-true y x (rest_of _ _ three) in
      let stands = refuted (lost t number) (rest_of _ _ e) in
      subst (λ (z : ℕ). NewAt out lost past t who z) of_request
      (subst (λ (w : Who). NewAt out lost past t w y) of_life
      (subst (λ (m : Node). NewBy out lost past m number other y) of_target new stands))

  count_line : (past : Past) (here : At) (e : Entry) (later : List Line) (t : ℕ) (who : Who) (x : ℕ)
      → SoFarAt out lost past (record { at = here; entry = e }) later e
      → standing_count lost t who x past ≤ 1 → standing_count lost t who x (record { at = here; entry = e } ∷ past) ≤ 1
  count_line past here (Txn number other xid seen answer) later t who x new few =
      cond_both (is_target t here.node && same_life other who && xid.0 == x && not (lost t number.0))
      (suc (standing_count lost t who x past)) (standing_count lost t who x past) (λ n. n ≤ 1)
      (λ e. let alone = (new_at past here.node number.0 other xid.0 t who x e new).alone in omega arith)
      (λ e. few)
  count_line past here _ later t who x new few = few

  -- the law of a past that later lines follow
  abbrev AllSoFar : List Line → Past → Type 0
  AllSoFar later past = HoldsBefore (ActsSoFar out lost) later past

  few_stand : (past : Past) (later : List Line) → AllSoFar later past → (t : ℕ) (who : Who) (x : ℕ) → standing_count lost t who x past ≤ 1
  few_stand [] later all t who x = omega arith
  few_stand (l ∷ past) later all t who x = count_line past l.at l.entry later t who x all.0 (few_stand past (l ∷ later) all.1 t who x)

  -- ---- what was told stays told, and alone

  told_line : (past : Past) (here : At) (e : Entry) (who : Who) (x : ℕ) → told_act out past who x ≡ true
      → told_act out (record { at = here; entry = e } ∷ past) who x ≡ true
  told_line past here (Told slot turn answer) who x told = either_right _ told
  told_line past here _ who x told = told

  alone_line : (past : Past) (here : At) (e : Entry) (later : List Line) (who : Who) (x : ℕ)
      → SoFarAt out lost past (record { at = here; entry = e }) later e → told_act out past who x ≡ true
      → standing_count lost 0 who x past ≡ 0 → standing_count lost 0 who x (record { at = here; entry = e } ∷ past) ≡ 0
  alone_line past here (Txn number other xid seen answer) later who x new told none =
      cond_both (is_target 0 here.node && same_life other who && xid.0 == x && not (lost 0 number.0))
      (suc (standing_count lost 0 who x past)) (standing_count lost 0 who x past) (λ n. n ≡ 0)
      (λ e. absurd (clash (told_act out past who x) told ((new_at past here.node number.0 other xid.0 0 who x e new).untold refl)))
      (λ e. none)
  alone_line past here _ later who x new told none = none

  told_grows : {now past : Past} (who : Who) (x : ℕ) → Tail now past → told_act out past who x ≡ true → told_act out now who x ≡ true
  told_grows who x whole told = told
  told_grows who x (longer {now} l tail) told = told_line now l.at l.entry who x (told_grows who x tail told)

  alone_grows : {now past : Past} (follow : List Line) (who : Who) (x : ℕ) → Tail now past → AllSoFar follow now → told_act out past who x
      ≡ true → standing_count lost 0 who x past ≡ 0 → standing_count lost 0 who x now ≡ 0
  alone_grows follow who x whole all told none = none
  alone_grows follow who x (longer {now} l tail) all told none =
      alone_line now l.at l.entry follow who x all.0 (told_grows who x tail told) (alone_grows (l ∷ follow) who x tail all.1 told none)

  -- ---- the law

  module _ (now : Past) (all : Holds (ActsSoFar out lost) now) where
    -- what another turn acted for
    acts_there : (past : Past) (here : At) (who : Who) (begun : Begun) (slot : ℕ) (turn : At) (answer : Answer) (heard : Option ℕ)
        (op : Option Op)
        → Tail now (record { at = here; entry = Told slot turn answer } ∷ past) → heard_in past here ≡ heard → is_by who past here.node
        ≡ true → out who ≡ false
        → ActsFor lost past past who begun turn heard op → ActsFor lost now past who begun turn heard op
    acts_there past here who begun slot turn answer None op tail is by_it stays a = a
    acts_there past here who begun slot turn answer (Some x) None tail is by_it stays a = a
    acts_there past here who begun slot turn answer (Some x) (Some o) tail is by_it stays a = record {
      request = a.request;
      executed = a.executed;
      untold = a.untold;
      alone = λ act. alone_grows [] who x tail all (either_left (told_act out past who x)
          (both (both (both (settled (out who) stays) by_it) (subst (λ (o : Option ℕ). is_number x o ≡ true) (sym is) (itself x))) act))
          (a.alone act);
    }

    told_there : (past : Past) (here : At) (c slot : ℕ) (turn : At) (answer : Answer) (begun : Option Begun) → here.node ≡ Client c
        → Tail now (record { at = here; entry = Told slot turn answer } ∷ past)
        → ToldOn out lost past past here (who_is c past) begun turn answer → ToldOn out lost now past here (who_is c past) begun turn answer
    told_there past here c slot turn answer None at_client tail h = h
    told_there past here c slot turn answer (Some begun) at_client tail h = record {
      handle = h.handle;
      evicted = h.evicted;
      own = h.own;
      acts = λ stays. let a = h.acts stays in record {
        after = a.after;
        before = a.before;
        acts = λ other. acts_there past here (who_is c past) begun slot turn answer (heard_in past here) (operation begun) tail refl
            (subst (λ (n : Node). is_by (who_is c past) past n ≡ true) (sym at_client) (both (itself c) (itself (life c past)))) stays
            (a.acts other);
      };
    }

    told_by : (past : Past) (here : At) (n : Node) (slot : ℕ) (turn : At) (answer : Answer) → here.node ≡ n
        → Tail now (record { at = here; entry = Told slot turn answer } ∷ past)
        → ToldBy out lost past past here n slot turn answer → ToldBy out lost now past here n slot turn answer
    told_by past here (Client c) slot turn answer is tail h = told_there past here c slot turn answer (open_call c slot past) is tail h
    told_by past here (Target t) slot turn answer is tail h = h

    once_at : (n : Node) (number : ℕ) (who : Who) (x : ℕ) → OnceAt lost now n number who x
    once_at (Client c) number who x = tt
    once_at (Target t) number who x = λ stands. few_stand now [] all t who x

    acts_line : (past : Past) (here : At) (e : Entry) (later : List Line) → Tail now (record { at = here; entry = e } ∷ past)
        → SoFarAt out lost past (record { at = here; entry = e }) later e
        → ActsAt out lost now past (record { at = here; entry = e }) later e
    acts_line past here (Told slot turn answer) later tail h = told_by past here here.node slot turn answer refl tail h
    acts_line past here (Txn number who xid seen answer) later tail h = once_at here.node number.0 who xid.0
    acts_line past here _ later tail h = h

    acts_of : (past : Past) (later : List Line) → Tail now past → AllSoFar later past → HoldsBefore (ActsOf out lost now) later past
    acts_of [] later tail h = tt
    acts_of (l ∷ past) later tail h = (acts_line past l.at l.entry later tail h.0, acts_of past (l ∷ later) (shorter tail) h.1)

pub so_far_is_whole : SoFarIsWhole
so_far_is_whole out lost now all = acts_of out lost now all now [] whole all
