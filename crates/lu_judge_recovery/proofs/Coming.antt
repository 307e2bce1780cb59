-- No life comes back with a line of its target but the one that the line names.
use Rattle.std.proofs.Common.{◌≡◌, ℕ, Bool, true, false, List, [], ◌∷◌, refl, ap, sym, ◌∙◌, subst}
use Rattle.std.specs.Prelude.{◌==◌, ◌&&◌, ◌||◌, not, if◌then◌else◌, Option, Some, None, length, filter}
use Rattle.std.specs.List.{list_any}
use Rattle.std.specs.Option.{option_map}
use Rattle.std.proofs.lemmas.Bool.{eqb-true, and_left}
use Rattle.lu_base.specs.declared.ids.Node.TheVariants.{Client, Target}
use Rattle.lu_base.specs.declared.ids.Who.{Who}
use Rattle.lu_msg.specs.declared.messages.LockReplay.{LockReplay}
use Rattle.lu_msg.specs.declared.messages.Message.{Message}
use Rattle.lu_msg.specs.declared.messages.Message.TheVariants as message
use Rattle.lu_msg.specs.declared.messages.RequestReplay.{RequestReplay}
use Rattle.lu_trace.specs.declared.entries.Entry.{Entry}
use Rattle.lu_trace.specs.declared.entries.Entry.TheVariants.{Take, Boot, Evict, Joined}
use Rattle.lu_trace.specs.declared.entries.Line.{Line}
use Rattle.lu_spec_machine.specs.Tree.{same_life}
use Rattle.lu_spec_laws.specs.Words.Pasts.{Past, is_target, same_turn}
use Rattle.lu_spec_laws.specs.Words.Sends.{sending, message_of}
use Rattle.lu_spec_laws.specs.Words.Lives.{is_evicted}
use Rattle.lu_spec_laws.specs.Words.Slots.{has_slot, has_joined}
use Rattle.lu_spec_laws.specs.Words.Boots.{boot, is_recovering}
use Rattle.lu_spec_laws.specs.Words.Handed.{with_message, handed, replays, locks, replay_count, lock_count, is_word, has_all, is_back}
use Rattle.lu_spec_laws.specs.Words.Handed.{comes_back}
use Rattle.lu_spec_laws.specs.Laws.Recovery.{came_back}
use Rattle.lu_spec_laws.proofs.Tests.{itself, life_is, first_of, rest_of}
use Rattle.lu_judge_pass.specs.Tables.{sending_of}
use Rattle.lu_judge_pass.specs.declared.sendings.Sending.{Sending as Kept}
use Rattle.lu_judge_recovery.specs.Turns.{turn_at, line_at}
use Rattle.lu_judge_recovery.specs.Handing.{handing_of, named, is_named}
use Rattle.lu_judge_recovery.specs.Returns.{has_returned, ShowsReturns}
use Rattle.lu_judge_recovery.specs.declared.returns.Returns.{Returns}
use Rattle.lu_judge_recovery.proofs.Lines.{line_is, nothing_said, no_turn}

if_true : {A : Type 0} (here : Bool) (a b : A) → here ≡ true → (if here then a else b) ≡ a
if_true here a b is = rw is refl

-- ---- what is handed in by another life

not_counted : {A : Type 0} (of : A → Bool) (r : A) (new : Bool) (older : List A) → of r ≡ false
    → length (filter of (if new then r ∷ older else older)) ≡ length (filter of older)
not_counted of r true older is = rw is refl
not_counted of r false older is = refl

handed_by_other : (b : ℕ) (who : Who) (m : Message) (handed : List Message) → is_named (handing_of (Some m)) who ≡ false
    → has_all b who (m ∷ handed) ≡ has_all b who handed
handed_by_other b who (message.Replay r) handed is =
    ap (λ (n : ℕ). list_any (is_word b who n (lock_count b who handed)) handed)
    (not_counted (λ (q : RequestReplay). same_life q.who who) r _ (replays b handed) is)
handed_by_other b who (message.Lock r) handed is =
    ap (λ (n : ℕ). list_any (is_word b who (replay_count b who handed) n) handed)
    (not_counted (λ (q : LockReplay). same_life q.who who) r _ (locks b handed) is)
handed_by_other b who (message.Word other known replays locks seen) handed is = rw is refl
handed_by_other b who (message.Join other known) handed is = rw is refl
handed_by_other b who _ handed is = refl

taken_of_other : (b : ℕ) (who : Who) (m : Option Message) (handed : List Message) → is_named (handing_of m) who ≡ false
    → has_all b who (with_message m handed) ≡ has_all b who handed
taken_of_other b who None handed is = refl
taken_of_other b who (Some m) handed is = handed_by_other b who m handed is

-- ---- a life comes back where it is back after a line and wasn't before

same_none : (r a b : Bool) → a ≡ b → (r && a && not b) ≡ false
same_none r a b is = subst (λ (x : Bool). (r && a && not x) ≡ false) is (by r a) where
  by : (r a : Bool) → (r && a && not a) ≡ false
  by true true = refl
  by true false = refl
  by false a = refl

evict_none : (r base now old all : Bool) → (r && (base && not (now || old) && all) && not (base && not old && all)) ≡ false
evict_none false base now old all = refl
evict_none true false now old all = refl
evict_none true true true old all = refl
evict_none true true false true all = refl
evict_none true true false false true = refl
evict_none true true false false false = refl

boot_none : (r slot all before : Bool) → all ≡ false → (r && (slot && all) && not before) ≡ false
boot_none r slot all before is = subst (λ (x : Bool). (r && (slot && x) && not before) ≡ false) (sym is) (by r slot) where
  by : (r slot : Bool) → (r && (slot && false) && not before) ≡ false
  by true true = refl
  by true false = refl
  by false slot = refl

joined_by_other : (first other here rest gone all : Bool) → other ≡ false → ((first || ((other && here) || rest)) && gone && all)
    ≡ ((first || rest) && gone && all)
joined_by_other first other here rest gone all is = rw is refl

pub not_named : (t : ℕ) (who : Who) (past : Past) (stamp : ℕ) (e : Entry) → is_named (named past e) who ≡ false
    → comes_back t who past (line_at stamp t e) ≡ false
not_named t who past stamp (Take n) is =
    same_none (is_recovering t past) (is_back t (line_at stamp t (Take n) ∷ past) who) (is_back t past who)
    (ap (λ (all : Bool). has_slot t past who && all)
    (ap (has_all (boot t past) who) (if_true (t == t) (with_message (message_of past n) (handed t past)) (handed t past) (itself t))
    ∙ taken_of_other (boot t past) who (message_of past n) (handed t past) is))
not_named t who past stamp (Boot b) is =
    boot_none (is_recovering t past) (has_slot t past who) (has_all (boot t (line_at stamp t (Boot b) ∷ past)) who
    (handed t (line_at stamp t (Boot b) ∷ past))) (is_back t past who)
    (ap (has_all (boot t (line_at stamp t (Boot b) ∷ past)) who) (if_true (t == t) [] (handed t past) (itself t)))
not_named t who past stamp (Evict other cause) is =
    evict_none (is_recovering t past) (who.life == 1 || has_joined t past who) (t == t && same_life other who) (is_evicted t past who)
    (has_all (boot t past) who (handed t past))
not_named t who past stamp (Joined other) is =
    same_none (is_recovering t past) (is_back t (line_at stamp t (Joined other) ∷ past) who) (is_back t past who)
    (joined_by_other (who.life == 1) (same_life other who) (t == t) (has_joined t past who) (not (is_evicted t past who))
    (has_all (boot t past) who (handed t past)) is)
not_named t who past stamp e is = same_none (is_recovering t past) (is_back t (line_at stamp t e ∷ past) who) (is_back t past who) refl

-- ---- the table

came_none : (here comes old : Bool) → (here ≡ true → comes ≡ false) → old ≡ ((here && comes) || old)
came_none true comes old none = rw (none refl) refl
came_none false comes old none = refl

target_of_turn : (stamp s target t : ℕ) → (stamp == s && target == t) ≡ true → target ≡ t
target_of_turn stamp s target t is = eqb-true target t (rest_of (stamp == s) (target == t) is)

-- no life comes back with the line
pub none_returns : (r : Returns) (past : Past) (stamp target : ℕ) (e : Entry)
    → ((who : Who) → comes_back target who past (line_at stamp target e) ≡ false) → ShowsReturns r past
    → ShowsReturns r (line_at stamp target e ∷ past)
none_returns r past stamp target e none shown = λ s t who.
    shown s t who
    ∙ came_none (stamp == s && target == t) (comes_back t who past (line_at stamp target e)) (came_back t (turn_at s t) past who)
    (λ here. subst (λ (u : ℕ). comes_back u who past (line_at stamp target e) ≡ false) (target_of_turn stamp s target t here) (none who))

came_one : (here same comes old new : Bool) → new ≡ (if here && same then true else old) → (here ≡ true → same ≡ true → comes ≡ true)
    → (here ≡ true → same ≡ false → comes ≡ false)
    → new ≡ ((here && comes) || old)
came_one true true comes old new is one none = is ∙ sym (ap (λ (b : Bool). b || old) (one refl refl))
came_one true false comes old new is one none = is ∙ sym (ap (λ (b : Bool). b || old) (none refl refl))
came_one false same comes old new is one none = is

-- the life that the line names comes back with it
pub one_returns : (old new : Returns) (past : Past) (stamp target : ℕ) (e : Entry) (who : Who) → named past e ≡ Some who
    → comes_back target who past (line_at stamp target e) ≡ true
    → ((s t : ℕ) (w : Who) → has_returned new s t w ≡ (if (stamp == s && target == t) && same_life who w then true
    else has_returned old s t w))
    → ShowsReturns old past → ShowsReturns new (line_at stamp target e ∷ past)
one_returns old new past stamp target e who is comes puts shown = λ s t w.
    came_one (stamp == s && target == t) (same_life who w) (comes_back t w past (line_at stamp target e)) (came_back t (turn_at s t) past w)
    (has_returned new s t w)
    (puts s t w ∙ ap (λ (b : Bool). if (stamp == s && target == t) && same_life who w then true else b) (shown s t w))
    (λ here same.
    subst (λ (u : ℕ). comes_back u w past (line_at stamp target e) ≡ true) (target_of_turn stamp s target t here)
    (subst (λ (v : Who). comes_back target v past (line_at stamp target e) ≡ true) (life_is who w same) comes))
    (λ here other.
    subst (λ (u : ℕ). comes_back u w past (line_at stamp target e) ≡ false) (target_of_turn stamp s target t here)
    (not_named target w past stamp e (ap (λ (o : Option Who). is_named o w) is ∙ other)))

-- the life that the line names doesn't come back with it
pub named_away : (past : Past) (stamp target : ℕ) (e : Entry) (who : Who) → named past e ≡ Some who
    → comes_back target who past (line_at stamp target e) ≡ false
    → (w : Who) → comes_back target w past (line_at stamp target e) ≡ false
named_away past stamp target e who is away w = by (same_life who w) refl where
  by : (same : Bool) → same_life who w ≡ same → comes_back target w past (line_at stamp target e) ≡ false
  by true same = subst (λ (v : Who). comes_back target v past (line_at stamp target e) ≡ false) (life_is who w same) away
  by false other = not_named target w past stamp e (ap (λ (o : Option Who). is_named o w) is ∙ other)

-- the line names no life
pub unnamed_away : (past : Past) (stamp target : ℕ) (e : Entry) → named past e ≡ None → (w : Who)
    → comes_back target w past (line_at stamp target e) ≡ false
unnamed_away past stamp target e is w = not_named target w past stamp e (ap (λ (o : Option Who). is_named o w) is)

pub client_returns : (r : Returns) (past : Past) (l : Line) (c : ℕ) → l.at.node ≡ Client c → ShowsReturns r past → ShowsReturns r (l ∷ past)
client_returns r past l c is shown = λ s t who.
    shown s t who
    ∙ came_none (l.at.stamp.0 == s && is_target t l.at.node) (comes_back t who past l) (came_back t (turn_at s t) past who)
    (λ here. absurd (cc (no_turn s t c l.at.node l.at.stamp.0 is)))

-- ---- the message that a line takes

pub message_known : (past : Past) (n : ℕ) (o : Option Kept) → option_map sending_of o ≡ sending past n → message_of past n
    ≡ option_map (λ s. s.message.now) o
message_known past n o is = ap (option_map (λ s. s.message)) (sym is) ∙ by o where
  by : (o : Option Kept) → option_map (λ s. s.message) (option_map sending_of o) ≡ option_map (λ s. s.message.now) o
  by None = refl
  by (Some s) = refl
