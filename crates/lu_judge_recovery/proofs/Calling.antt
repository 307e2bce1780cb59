-- What one more line makes of the granted locks and the calls of a target.
use Rattle.std.proofs.Common.{◌≡◌, ℕ, Bool, true, false, List, [], ◌∷◌, refl, ap, sym, ◌∙◌, subst}
use Rattle.std.specs.Prelude.{◌==◌, ◌&&◌, ◌||◌, not, if◌then◌else◌, Option, Some, None, unwrap_or}
use Rattle.std.specs.Bool.{then_some}
use Rattle.std.proofs.lemmas.Bool.{eqb-true, and_left}
use Rattle.lu_base.specs.declared.ids.At.{At}
use Rattle.lu_base.specs.declared.ids.Cookie.{Cookie}
use Rattle.lu_base.specs.declared.ids.Who.{Who}
use Rattle.lu_base.specs.declared.ids.Node.TheVariants.{Client, Target}
use Rattle.lu_base.specs.declared.locks.Lock.{Lock as LockOf}
use Rattle.lu_trace.specs.declared.entries.Entry.{Entry}
use Rattle.lu_trace.specs.declared.entries.Entry.TheVariants.{Grant, Release, Crash, Restore, Block, Boot}
use Rattle.lu_trace.specs.declared.entries.Line.{Line}
use Rattle.lu_spec_machine.specs.Tree.{same_life}
use Rattle.lu_spec_laws.specs.Words.Pasts.{Past, is_target, or_else, newest}
use Rattle.lu_spec_laws.specs.Words.Scopes.{only_here}
use Rattle.lu_spec_laws.specs.Words.Queues.{has_cookie, without, granted}
use Rattle.lu_spec_laws.specs.Words.CalledBack.{is_granted_to, calls_life_back, was_called_back}
use Rattle.lu_spec_laws.proofs.Tests.{itself}
use Rattle.lu_judge_recovery.specs.Turns.{turn_at, line_at}
use Rattle.lu_judge_recovery.specs.Callbacks.{is_held, is_called, was_called, ShowsTarget, ShowsNothing, ShowsHere, ShowsCallbacks}
use Rattle.lu_judge_recovery.specs.Callbacks.{target_of, called_here, was_called_in}
use Rattle.lu_judge_recovery.specs.declared.callbacks.Calls.{Calls}
use Rattle.lu_judge_recovery.specs.declared.callbacks.Called.{Called}
use Rattle.lu_judge_recovery.specs.declared.callbacks.Callbacks.{Callbacks}
use Rattle.lu_judge_recovery.specs.declared.callbacks.Holders.{Holders}
use Rattle.lu_judge_recovery.specs.declared.callbacks.TargetCalls.{TargetCalls}
use Rattle.lu_judge_recovery.proofs.Lines.{only_nothing, line_is}

-- ---- lines of other nodes

if_false : {A : Type 0} (here : Bool) (a b : A) → here ≡ false → (if here then a else b) ≡ b
if_false here a b is = rw is refl

apart_granted : (t : ℕ) (at : At) (e : Entry) (past : Past) → is_target t at.node ≡ false → granted t (record { at = at; entry = e } ∷ past)
    ≡ granted t past
apart_granted t at (Grant lock) past is = if_false _ _ _ is
apart_granted t at (Restore lock) past is = if_false _ _ _ is
apart_granted t at (Release cookie) past is = if_false _ _ _ is
apart_granted t at Crash past is = if_false _ _ _ is
apart_granted t at _ past is = refl

apart_called : (t : ℕ) (who : Who) (at : At) (l : Line) (past : Past) → is_target t l.at.node ≡ false → was_called_back t who at (l ∷ past)
    ≡ was_called_back t who at past
apart_called t who at l past is =
    ap (λ (o : Option Bool). unwrap_or (or_else o (newest (λ seen k. only_here (calls_life_back t who at seen k) (is_target t k.at.node))
    past)) false)
    (only_nothing (calls_life_back t who at past l) (is_target t l.at.node) is)

apart_held : (t cookie : ℕ) (who : Who) (l : Line) (past : Past) → is_target t l.at.node ≡ false
    → is_granted_to who cookie (granted t (l ∷ past)) ≡ is_granted_to who cookie (granted t past)
apart_held t cookie who l past is = ap (is_granted_to who cookie) (apart_granted t l.at l.entry past is)

pub apart_here : (o : Option TargetCalls) (t : ℕ) (l : Line) (past : Past) → is_target t l.at.node ≡ false → ShowsHere o t past
    → ShowsHere o t (l ∷ past)
apart_here None t l past is shown = record {
  held = λ cookie who. apart_held t cookie who l past is ∙ shown.held cookie who;
  called = λ who s. apart_called t who (turn_at s t) l past is ∙ shown.called who s;
}
apart_here (Some c) t l past is shown = record {
  held = λ cookie who. shown.held cookie who ∙ sym (apart_held t cookie who l past is);
  called = λ who s. shown.called who s ∙ sym (apart_called t who (turn_at s t) l past is);
}

pub client_callbacks : (c : Callbacks) (past : Past) (l : Line) (client : ℕ) → l.at.node ≡ Client client → ShowsCallbacks c past
    → ShowsCallbacks c (l ∷ past)
client_callbacks c past l client is shown = λ t. apart_here (target_of c t) t l past (ap (is_target t) is) (shown t)

-- ---- lines of the target

if_true : {A : Type 0} (here : Bool) (a b : A) → here ≡ true → (if here then a else b) ≡ a
if_true here a b is = rw is refl

pub granted_more : (t stamp : ℕ) (lock : LockOf) (past : Past) (cookie : ℕ) (who : Who)
    → is_granted_to who cookie (granted t (line_at stamp t (Grant lock) ∷ past))
    ≡ ((lock.cookie.0 == cookie && same_life lock.ask.who who) || is_granted_to who cookie (granted t past))
granted_more t stamp lock past cookie who = ap (is_granted_to who cookie)
    (if_true (t == t) (lock ∷ granted t past) (granted t past) (itself t))

pub restored_more : (t stamp : ℕ) (lock : LockOf) (past : Past) (cookie : ℕ) (who : Who)
    → is_granted_to who cookie (granted t (line_at stamp t (Restore lock) ∷ past))
    ≡ ((lock.cookie.0 == cookie && same_life lock.ask.who who) || is_granted_to who cookie (granted t past))
restored_more t stamp lock past cookie who = ap (is_granted_to who cookie)
    (if_true (t == t) (lock ∷ granted t past) (granted t past) (itself t))

same_test : (a b c : ℕ) → (a == b) ≡ true → (b == c) ≡ (a == c)
same_test a b c is = ap (λ (n : ℕ). n == c) (sym (eqb-true a b is))

without_one : (gone cookie : ℕ) (who : Who) (lock : LockOf) (locks : List LockOf) (dropped : Bool) → has_cookie gone lock ≡ dropped
    → is_granted_to who cookie (without gone locks) ≡ (if gone == cookie then false else is_granted_to who cookie locks)
    → is_granted_to who cookie (if not dropped then lock ∷ without gone locks else without gone locks)
    ≡ (if gone == cookie then false else is_granted_to who cookie (lock ∷ locks))
without_one gone cookie who lock locks true is less =
    less ∙ by (gone == cookie) (lock.cookie.0 == cookie) (same_test lock.cookie.0 gone cookie is) where
      by : (g l : Bool) → g ≡ l → (if g then false else is_granted_to who cookie locks)
          ≡ (if g then false else (l && same_life lock.ask.who who) || is_granted_to who cookie locks)
      by true l is = refl
      by false true is = absurd (cc)
      by false false is = refl
without_one gone cookie who lock locks false is less =
    ap (λ (b : Bool). (lock.cookie.0 == cookie && same_life lock.ask.who who) || b) less ∙ by (gone == cookie) refl where
      by : (g : Bool) → (gone == cookie) ≡ g
          → ((lock.cookie.0 == cookie && same_life lock.ask.who who) || (if g then false else is_granted_to who cookie locks))
          ≡ (if g then false else (lock.cookie.0 == cookie && same_life lock.ask.who who) || is_granted_to who cookie locks)
      by true same =
          let other : (lock.cookie.0 == cookie) ≡ false = ap (λ (n : ℕ). lock.cookie.0 == n) (sym (eqb-true gone cookie same)) ∙ is in
          ap (λ (b : Bool). b || false) (and_left (lock.cookie.0 == cookie) (same_life lock.ask.who who) other)
      by false same = refl

is_granted_without : (gone cookie : ℕ) (who : Who) (locks : List LockOf) → is_granted_to who cookie (without gone locks)
    ≡ (if gone == cookie then false else is_granted_to who cookie locks)
is_granted_without gone cookie who [] = by (gone == cookie) where
  by : (b : Bool) → false ≡ (if b then false else false)
  by true = refl
  by false = refl
is_granted_without gone cookie who (lock ∷ locks) = without_one gone cookie who lock locks (has_cookie gone lock) refl
    (is_granted_without gone cookie who locks)

pub granted_less : (t stamp : ℕ) (gone : Cookie) (past : Past) (cookie : ℕ) (who : Who)
    → is_granted_to who cookie (granted t (line_at stamp t (Release gone) ∷ past))
    ≡ (if gone.0 == cookie then false else is_granted_to who cookie (granted t past))
granted_less t stamp gone past cookie who =
    ap (is_granted_to who cookie) (if_true (t == t) (without gone.0 (granted t past)) (granted t past) (itself t))
    ∙ is_granted_without gone.0 cookie who (granted t past)

pub granted_none : (t stamp : ℕ) (past : Past) (cookie : ℕ) (who : Who)
    → is_granted_to who cookie (granted t (line_at stamp t Crash ∷ past)) ≡ false
granted_none t stamp past cookie who = ap (is_granted_to who cookie) (if_true (t == t) [] (granted t past) (itself t))

called_block : (here same g : Bool) (rest : Option Bool) → here ≡ true
    → unwrap_or (or_else (only_here (then_some (not (same && here) && g) true) here) rest) false ≡ ((g && not same) || unwrap_or rest false)
called_block true true true rest is = refl
called_block true true false rest is = refl
called_block true false true rest is = refl
called_block true false false rest is = refl
called_block false same g rest is = absurd (cc)

pub called_more : (t stamp : ℕ) (cookie : Cookie) (past : Past) (who : Who) (s : ℕ)
    → was_called_back t who (turn_at s t) (line_at stamp t (Block cookie) ∷ past)
    ≡ ((is_granted_to who cookie.0 (granted t past) && not (stamp == s)) || was_called_back t who (turn_at s t) past)
called_more t stamp cookie past who s =
    called_block (t == t) (stamp == s) (is_granted_to who cookie.0 (granted t past))
    (newest (λ seen k. only_here (calls_life_back t who (turn_at s t) seen k) (is_target t k.at.node)) past) (itself t)

called_boot : (here : Bool) (rest : Option Bool) → here ≡ true → unwrap_or (or_else (only_here (Some false) here) rest) false ≡ false
called_boot true rest is = refl
called_boot false rest is = absurd (cc)

pub called_none : (t stamp boot : ℕ) (past : Past) (who : Who) (s : ℕ)
    → was_called_back t who (turn_at s t) (line_at stamp t (Boot boot) ∷ past) ≡ false
called_none t stamp boot past who s =
    called_boot (t == t) (newest (λ seen k. only_here (calls_life_back t who (turn_at s t) seen k) (is_target t k.at.node)) past) (itself t)

-- ---- the table of a target, put back

pub noted_callbacks : (old between new : Callbacks) (past : Past) (stamp target : ℕ) (e : Entry) (here : TargetCalls)
    → ((t : ℕ) → (target == t) ≡ false → target_of between t ≡ target_of old t)
    → ((t : ℕ) → target_of new t ≡ (if target == t then Some here else target_of between t))
    → ShowsTarget here target (line_at stamp target e ∷ past) → ShowsCallbacks old past → ShowsCallbacks new (line_at stamp target e ∷ past)
noted_callbacks old between new past stamp target e here rest puts shows shown = λ t. by t (target == t) refl where
  by : (t : ℕ) (same : Bool) → (target == t) ≡ same → ShowsHere (target_of new t) t (line_at stamp target e ∷ past)
  by t true is =
      subst (λ (o : Option TargetCalls). ShowsHere o t (line_at stamp target e ∷ past))
      (sym (puts t ∙ ap (λ (b : Bool). if b then Some here else target_of between t) is))
      (subst (λ (u : ℕ). ShowsTarget here u (line_at stamp target e ∷ past)) (eqb-true target t is) shows)
  by t false is =
      subst (λ (o : Option TargetCalls). ShowsHere o t (line_at stamp target e ∷ past))
      (sym (puts t ∙ ap (λ (b : Bool). if b then Some here else target_of between t) is ∙ rest t is))
      (apart_here (target_of old t) t (line_at stamp target e) past is (shown t))

-- ---- the table of a target

pub grant_shows : (old new : TargetCalls) (t stamp : ℕ) (lock : LockOf) (past : Past)
    → ((cookie : ℕ) (who : Who) → is_held new.holders cookie who
    ≡ ((lock.cookie.0 == cookie && same_life lock.ask.who who) || is_held old.holders cookie who)) → new.called ≡ old.called
    → ShowsTarget old t past → ShowsTarget new t (line_at stamp t (Grant lock) ∷ past)
grant_shows old new t stamp lock past more same shown = record {
  held = λ cookie who. more cookie who ∙ ap (λ (b : Bool). (lock.cookie.0 == cookie && same_life lock.ask.who who) || b)
      (shown.held cookie who) ∙ sym (granted_more t stamp lock past cookie who);
  called = λ who s. ap (λ (c : Called). was_called c who s) same ∙ shown.called who s;
}

pub restore_shows : (old new : TargetCalls) (t stamp : ℕ) (lock : LockOf) (past : Past)
    → ((cookie : ℕ) (who : Who) → is_held new.holders cookie who
    ≡ ((lock.cookie.0 == cookie && same_life lock.ask.who who) || is_held old.holders cookie who)) → new.called ≡ old.called
    → ShowsTarget old t past → ShowsTarget new t (line_at stamp t (Restore lock) ∷ past)
restore_shows old new t stamp lock past more same shown = record {
  held = λ cookie who. more cookie who ∙ ap (λ (b : Bool). (lock.cookie.0 == cookie && same_life lock.ask.who who) || b)
      (shown.held cookie who) ∙ sym (restored_more t stamp lock past cookie who);
  called = λ who s. ap (λ (c : Called). was_called c who s) same ∙ shown.called who s;
}

pub release_shows : (old new : TargetCalls) (t stamp : ℕ) (gone : Cookie) (past : Past)
    → ((cookie : ℕ) (who : Who) → is_held new.holders cookie who ≡ (if gone.0 == cookie then false else is_held old.holders cookie who))
    → new.called ≡ old.called
    → ShowsTarget old t past → ShowsTarget new t (line_at stamp t (Release gone) ∷ past)
release_shows old new t stamp gone past less same shown = record {
  held = λ cookie who. less cookie who ∙ ap (λ (b : Bool). if gone.0 == cookie then false else b) (shown.held cookie who)
      ∙ sym (granted_less t stamp gone past cookie who);
  called = λ who s. ap (λ (c : Called). was_called c who s) same ∙ shown.called who s;
}

pub block_shows : (old new : TargetCalls) (t stamp : ℕ) (cookie : Cookie) (past : Past)
    → ((who : Who) (s : ℕ) → was_called new.called who s ≡ ((is_held old.holders cookie.0 who && not (stamp == s))
    || was_called old.called who s)) → new.holders ≡ old.holders
    → ShowsTarget old t past → ShowsTarget new t (line_at stamp t (Block cookie) ∷ past)
block_shows old new t stamp cookie past more same shown = record {
  held = λ other who. ap (λ (h : Holders). is_held h other who) same ∙ shown.held other who;
  called = λ who s.
      more who s
      ∙ ap (λ (b : Bool). (b && not (stamp == s)) || was_called old.called who s) (shown.held cookie.0 who)
      ∙ ap (λ (b : Bool). (is_granted_to who cookie.0 (granted t past) && not (stamp == s)) || b) (shown.called who s)
      ∙ sym (called_more t stamp cookie past who s);
}

pub crash_shows : (old new : TargetCalls) (t stamp : ℕ) (past : Past) → ((cookie : ℕ) (who : Who) → is_held new.holders cookie who ≡ false)
    → new.called ≡ old.called
    → ShowsTarget old t past → ShowsTarget new t (line_at stamp t Crash ∷ past)
crash_shows old new t stamp past none same shown = record {
  held = λ cookie who. none cookie who ∙ sym (granted_none t stamp past cookie who);
  called = λ who s. ap (λ (c : Called). was_called c who s) same ∙ shown.called who s;
}

pub boot_shows : (old new : TargetCalls) (t stamp boot : ℕ) (past : Past) → ((who : Who) (s : ℕ) → was_called new.called who s ≡ false)
    → new.holders ≡ old.holders
    → ShowsTarget old t past → ShowsTarget new t (line_at stamp t (Boot boot) ∷ past)
boot_shows old new t stamp boot past none same shown = record {
  held = λ other who. ap (λ (h : Holders). is_held h other who) same ∙ shown.held other who;
  called = λ who s. none who s ∙ sym (called_none t stamp boot past who s);
}

-- ---- several lives

pub also_called : (before same other old : Bool) → ((same && other) || ((before && other) || old)) ≡ (((before || same) && other) || old)
also_called true true true old = refl
also_called true true false old = refl
also_called true false true old = refl
also_called true false false old = refl
also_called false true true old = refl
also_called false true false old = refl
also_called false false true old = refl
also_called false false false old = refl

-- ---- one life

pub call_put : (same : Bool) (calls : Calls) (new old was : Option Calls) (stamp s : ℕ) → new ≡ (if same then Some calls else old)
    → (same ≡ true → was ≡ old)
    → ((u : ℕ) → is_called (Some calls) u ≡ (not (stamp == u) || is_called was u)) → is_called new s
    ≡ ((same && not (stamp == s)) || is_called old s)
call_put true calls new old was stamp s puts is adds =
    ap (λ (o : Option Calls). is_called o s) puts ∙ adds s ∙ ap (λ (o : Option Calls). not (stamp == s) || is_called o s) (is refl)
call_put false calls new old was stamp s puts is adds = ap (λ (o : Option Calls). is_called o s) puts

-- ---- a table taken out

pub taken_shows : (o : Option TargetCalls) (c : TargetCalls) (t : ℕ) (past : Past) → Some c ≡ o → ShowsHere o t past → ShowsTarget c t past
taken_shows o c t past is shown = subst (λ (p : Option TargetCalls). ShowsHere p t past) (sym is) shown

pub new_shows : (o : Option TargetCalls) (c : TargetCalls) (t : ℕ) (past : Past) → None ≡ o
    → ((cookie : ℕ) (who : Who) → is_held c.holders cookie who ≡ false)
    → ((who : Who) (s : ℕ) → was_called c.called who s ≡ false) → ShowsHere o t past → ShowsTarget c t past
new_shows o c t past is held called shown =
    let nothing : ShowsNothing t past = subst (λ (p : Option TargetCalls). ShowsHere p t past) (sym is) shown in
    record {
      held = λ cookie who. held cookie who ∙ sym (nothing.held cookie who);
      called = λ who s. called who s
          ∙ sym (nothing.called who s);
    }

-- what is looked up of a life
pub called_is : (c : Callbacks) (past : Past) (s t : ℕ) (who : Who) → ShowsCallbacks c past → was_called_in c s t who
    ≡ was_called_back t who (turn_at s t) past
called_is c past s t who shown = by (target_of c t) (shown t) where
  by : (o : Option TargetCalls) → ShowsHere o t past → called_here o who s ≡ was_called_back t who (turn_at s t) past
  by None shown = sym (shown.called who s)
  by (Some c) shown = shown.called who s
