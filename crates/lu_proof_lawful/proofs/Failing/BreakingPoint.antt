-- A turn in which a call to the disk fails has the lines before that call, and `fail`. Where it breaks off, before a commit, a boot
-- or a close whose commit follows, each line was allowed, nothing is owed, no life is back unshown and no close has something to
-- show.
use Rattle.std.proofs.Common.{◌≡◌, ℕ, Bool, true, false, List, [], ◌∷◌, ◌++◌, Option, Some, None, refl, sym}
use Rattle.std.proofs.Common.{subst, ap, ◌∙◌}
use Rattle.std.specs.Prelude.{◌==◌, nat_eq, nat_lt, ◌&&◌, not, if◌then◌else◌}
use Rattle.std.specs.List.{list_any}
use Rattle.std.proofs.lemmas.Bool.{eqb-true}
use Rattle.lu_base.specs.declared.ids.At.{At}
use Rattle.lu_base.specs.declared.ids.Node.{Node}
use Rattle.lu_base.specs.declared.ids.Node.TheVariants.{Client, Target}
use Rattle.lu_base.specs.declared.ids.Stamp.{Stamp}
use Rattle.lu_base.specs.declared.ids.Who.{Who}
use Rattle.lu_base.specs.declared.locks.Lock.{Lock}
use Rattle.lu_msg.specs.declared.messages.Message.{Message}
use Rattle.lu_msg.specs.declared.messages.Message.TheVariants as message
use Rattle.lu_spec_entries.specs.Carried.{Deed, Said}
use Rattle.lu_spec_entries.specs.Concerns.{only}
use Rattle.lu_spec_entries.specs.Words.{Entry, Take, Stores, Brings, Says, Wishes, Begin, Act, Txn, Grant, Wait, Answers as Responds}
use Rattle.lu_spec_entries.specs.Words.{Commit, Boot, Back, Close, Queues, Pins, Unpins, Changes, WritesBack, Shows, Line, line}
use Rattle.lu_spec_entries.specs.Words.{Stands, with_turn}
use Rattle.lu_spec_target.specs.Kept.{replayed}
use Rattle.lu_spec_target.specs.Leaving.{life_of as life_in}
use Rattle.lu_spec_target.specs.Lives.{is_life}
use Rattle.lu_spec_target.specs.Recovery.{cut, empty_word}
use Rattle.lu_spec_target.specs.Rows.{lock_again}
use Rattle.lu_spec_target.specs.Windows.{Window, is_replay, is_lock, is_newest, word_of}
use Rattle.lu_proof_lawful.specs.Covered.Heads.{Head}
use Rattle.lu_proof_lawful.specs.Covered.TargetCloses.{closing_of, but_first}
use Rattle.lu_proof_lawful.specs.Covered.TargetStates.{server_of, closed_of, window_of}
use Rattle.lu_proof_lawful.proofs.Preconditions.Grown.{Noted, Allowed, Grown}
use Rattle.lu_proof_lawful.proofs.Preconditions.Guards.{Answers, Replies, OwesAsked, Owes, EntryOk, BackNow, IsMark, says_first, wish_by}
use Rattle.lu_proof_lawful.proofs.Preconditions.Guards.{wish_mark, mark_of, mark_at, due}
use Rattle.lu_proof_lawful.proofs.Preconditions.Lists.{self, turn}
use Rattle.lu_proof_lawful.proofs.Preconditions.Only.{turn_only, about_other}
use Rattle.lu_proof_lawful.proofs.Preconditions.Turns.{Quiet, Settled}

-- ---- a call to the disk

abbrev pub IsCall : Entry → Type 0
IsCall (Commit to batch) = Unit {0}
IsCall (Boot boot disk) = Unit {0}
IsCall _ = ⊥

-- ---- the lines before the call were allowed, and so was the call there

pub turn_more : (at : At) (xs ys : List Entry) (past : List Line) → with_turn at (xs ++ ys) past ≡ with_turn at ys (with_turn at xs past)
turn_more at [] ys past = refl
turn_more at (x ∷ xs) ys past = turn_more at xs ys (line at x ∷ past)

grown_first : (head : Head) (at : At) (es : List Entry) (past : List Line) → Grown head (with_turn at es past) → Grown head past
grown_first head at [] past g = g
grown_first head at (e ∷ es) past g = (grown_first head at es (line at e ∷ past) g).1

pub allowed_there : (head : Head) (at : At) (first : List Entry) (e : Entry) (rest : List Entry) (past : List Line)
    → Grown head (with_turn at (first ++ e ∷ rest) past)
    → Allowed head (with_turn at first past) at e × Grown head (with_turn at first past)
allowed_there head at first e rest past g =
    grown_first head at rest (line at e ∷ with_turn at first past) (subst (Grown head) (turn_more at first (e ∷ rest) past) g)

-- ---- what is so there

abbrev pub IsBreak : Entry → Type 0
IsBreak (Commit to batch) = Unit {0}
IsBreak (Boot boot disk) = Unit {0}
IsBreak (Close o) = Unit {0}
IsBreak _ = ⊥

module _ (at : At) where
  not_answer : (e : Entry) → IsBreak e → (d : Deed) → Answers at d e → ⊥
  not_answer (Commit to batch) k d a = a
  not_answer (Boot boot disk) k d a = a
  not_answer (Close o) k d a = a
  not_answer e k d a = absurd k

  not_reply : (e : Entry) → IsBreak e → (d : Deed) → Replies d e → ⊥
  not_reply (Commit to batch) k d a = a
  not_reply (Boot boot disk) k d a = a
  not_reply (Close o) k d a = a
  not_reply e k d a = absurd k

  not_given : (e : Entry) → IsBreak e → (S : Type 0) (lock : Lock) → OwesAsked S at lock None e → ⊥
  not_given (Commit to batch) k S lock a = a.1
  not_given (Boot boot disk) k S lock a = a.1
  not_given (Close o) k S lock a = a.1
  not_given e k S lock a = absurd k

  -- after a line of a target
  settled_line : (past : List Line) (stamp : Stamp) (t : ℕ) (x e : Entry) → EntryOk past (turn stamp (Target t)) (Target t) x → IsBreak e
      → Owes (line (turn stamp (Target t)) x ∷ past) at e → Quiet (Settled past) x
  settled_line past stamp t (Act d) e ok k o = not_answer e k d o
  settled_line past stamp t (Txn d) e ok k o = not_answer e k d o
  settled_line past stamp t (Wait lock d) e ok k o = not_answer e k d o
  settled_line past stamp t (Responds d) e ok k o = not_reply e k d o.1
  settled_line past stamp t (Grant lock None) e ok k o = not_given e k (turn stamp (Target t) ≡ at) lock o
  settled_line past stamp t (Grant lock (Some d)) e ok k o = not_answer e k d o
  settled_line past stamp t (Begin slot running) e ok k o = absurd ok
  settled_line past stamp t (Pins name) e ok k o = absurd ok
  settled_line past stamp t (Unpins name) e ok k o = absurd ok
  settled_line past stamp t (Stands slot running) e ok k o = absurd ok
  settled_line past stamp t (WritesBack resource change) e ok k o = absurd ok
  settled_line past stamp t (Queues u q) e ok k o = absurd ok
  settled_line past stamp t (Changes resource change) e ok k o = absurd ok
  settled_line past stamp t (Shows resource cookie last) e ok k o = absurd ok
  settled_line past stamp t x e ok k o = tt

settled_more : (head : Head) (stamp : Stamp) (t : ℕ) (e x : Entry) (es : List Entry) (past : List Line) → IsBreak e
    → Grown head (with_turn (turn stamp (Target t)) (x ∷ es) past)
    → Owes (with_turn (turn stamp (Target t)) (x ∷ es) past) (turn stamp (Target t)) e
    → Settled (with_turn (turn stamp (Target t)) (x ∷ es) past)
settled_more head stamp t e x [] past k g o = settled_line (turn stamp (Target t)) past stamp t x e g.0.ok k o
settled_more head stamp t e x (y ∷ es) past k g o = settled_more head stamp t e y es (line (turn stamp (Target t)) x ∷ past) k g o

pub settled_there : (head : Head) (stamp : Stamp) (t : ℕ) (e : Entry) (es : List Entry) (past : List Line) → IsBreak e → Settled past
    → Grown head (with_turn (turn stamp (Target t)) es past)
    → Owes (with_turn (turn stamp (Target t)) es past) (turn stamp (Target t)) e → Settled (with_turn (turn stamp (Target t)) es past)
settled_there head stamp t e [] past k s g o = s
settled_there head stamp t e (x ∷ es) past k s g o = settled_more head stamp t e x es past k g o

-- no life of that target is back unshown
no_back : (e : Entry) (who : Who) → IsBreak e → e ≡ Back who → ⊥
no_back e who k is = subst IsBreak is k

pub told_there : (head : Head) (stamp : Stamp) (t : ℕ) (e : Entry) (q : List Line) → IsBreak e → Allowed head q (turn stamp (Target t)) e
    → (who : Who) → BackNow head.osts head.clients (only t q) who → ⊥
told_there head stamp t e q k ok who b = no_back e who k (ok.backs t who (self t) b).0

-- no message of it is to be kept
one_entry : (a b : Entry) → Some a ≡ Some b → a ≡ b
one_entry a b e = cc

some_mark : (b : Bool) (x mark : Entry) → IsMark x → (if b then Some x else None) ≡ Some mark → IsMark mark
some_mark true x mark is e = subst IsMark (one_entry x mark e) is
some_mark false x mark is e = absurd (cc)

says_mark : (o : Option Said) (said : Said) (mark : Entry) → says_first o said ≡ Some mark → IsMark mark
says_mark None said mark e = subst IsMark (one_entry (Says said) mark e) tt
says_mark (Some before) said mark e = absurd (cc)

wish_is : (v : Window) (who : Who) (o : Option Who) (mark : Entry) → wish_by v who o ≡ Some mark → IsMark mark
wish_is v who None mark e = absurd (cc)
wish_is v who (Some old) mark e = some_mark (nat_lt old.life who.life && is_newest who v.wishes) (Wishes who) mark tt e

either_mark : (b : Bool) (x y : Option Entry) (mark : Entry) → (x ≡ Some mark → IsMark mark) → (y ≡ Some mark → IsMark mark)
    → (if b then x else y) ≡ Some mark → IsMark mark
either_mark true x y mark f g e = f e
either_mark false x y mark f g e = g e

none_mark : (mark : Entry) → ◌≡◌ {A = Option Entry} None (Some mark) → IsMark mark
none_mark mark e = absurd (cc)

mark_is : (v : Window) (present : ℕ) (m : Message) (mark : Entry) → mark_of v present m ≡ Some mark → IsMark mark
mark_is v present (message.Replay r) mark e = some_mark
    (r.boot == present && is_life r.who v.lives && not (list_any (is_replay (replayed r)) v.replays)) (Stores (cut r)) mark tt e
mark_is v present (message.Lock r) mark e = some_mark
    (r.boot == present && is_life r.who v.lives && not (list_any (is_lock (lock_again r)) v.brought)) (Brings (lock_again r)) mark tt e
mark_is v present (message.Word who boot replays locks seen) mark e =
    let said : Said = record { who = who; replays = replays; locks = locks; seen = seen } in
    either_mark (boot == present && is_life who v.lives) (says_first (word_of who v.words) said) None mark
    (says_mark (word_of who v.words) said mark) (none_mark mark) e
mark_is v present (message.Join who boot) mark e =
    either_mark (boot == present && is_life who v.lives) (says_first (word_of who v.words) (empty_word who))
    (wish_mark v present who boot) mark (says_mark (word_of who v.words) (empty_word who) mark)
    (either_mark (boot == present) (wish_by v who (life_in who.client v.lives)) None mark
    (wish_is v who (life_in who.client v.lives) mark) (none_mark mark))
    e
mark_is v present m mark e = absurd (cc)

due_is : (osts clients : ℕ) (past : List Line) (mark : Entry) → due osts clients past ≡ Some mark → IsMark mark
due_is osts clients [] mark e = absurd (cc)
due_is osts clients (l ∷ past) mark e = by l.entry e
  where
    at_node : (node : Node) (m : Message) → mark_at osts clients past node m ≡ Some mark → IsMark mark
    at_node (Client c) m e = absurd (cc)
    at_node (Target t) m e =
        either_mark (closed_of past == (server_of osts past).boot) None
        (mark_of (window_of osts clients past) (server_of osts past).boot m) mark (none_mark mark)
        (mark_is (window_of osts clients past) (server_of osts past).boot m mark) e

    by : (x : Entry) → due osts clients (line l.at x ∷ past) ≡ Some mark → IsMark mark
    by (Take n from m) e = at_node l.at.node m e
    by x e = absurd (cc)

not_mark : (e : Entry) → IsBreak e → IsMark e → ⊥
not_mark (Commit to batch) k m = m
not_mark (Boot boot disk) k m = m
not_mark (Close o) k m = m
not_mark e k m = absurd k

marked_there : (head : Head) (stamp : Stamp) (t : ℕ) (e : Entry) (q : List Line) → IsBreak e → Allowed head q (turn stamp (Target t)) e
    → due head.osts head.clients (only t q) ≡ None
marked_there head stamp t e q k ok = by (due head.osts head.clients (only t q)) refl
  where
    by : (o : Option Entry) → due head.osts head.clients (only t q) ≡ o → o ≡ None
    by None d = refl
    by (Some mark) d = absurd
        (not_mark e k (subst IsMark (sym (ok.marks t mark (self t) d).0) (due_is head.osts head.clients (only t q) mark d)))

-- nor has a close of it something to show
abbrev pub IsClose : Entry → Type 0
IsClose (Close o) = Unit {0}
IsClose _ = ⊥

abbrev pub NoClose : List Entry → Type 0
NoClose [] = Unit {0}
NoClose (e ∷ es) = (IsClose e → ⊥) × NoClose es

pub only_self : (stamp : Stamp) (t : ℕ) (x : Entry) (past : List Line)
    → only t (line (turn stamp (Target t)) x ∷ past) ≡ line (turn stamp (Target t)) x ∷ only t past
only_self stamp t x past = rw (self t) refl

pub shown_line : (clients : ℕ) (stamp : Stamp) (t : ℕ) (x : Entry) (p : List Line) → (IsClose x → ⊥) → closing_of clients p ≡ []
    → closing_of clients (line (turn stamp (Target t)) x ∷ p) ≡ []
shown_line clients stamp t (Close o) p n s = absurd (n tt)
shown_line clients stamp t x p n s = ap but_first s

pub shown_there : (clients : ℕ) (stamp : Stamp) (t : ℕ) (es : List Entry) (past : List Line) → NoClose es
    → closing_of clients (only t past) ≡ [] → closing_of clients (only t (with_turn (turn stamp (Target t)) es past)) ≡ []
shown_there clients stamp t [] past n s = s
shown_there clients stamp t (x ∷ es) past n s =
    shown_there clients stamp t es (line (turn stamp (Target t)) x ∷ past) n.1
    (ap (closing_of clients) (only_self stamp t x past) ∙ shown_line clients stamp t x (only t past) n.0 s)

pub only_others : (u t : ℕ) (stamp : Stamp) (es : List Entry) (past : List Line) → nat_eq u t ≡ false
    → only u (with_turn (turn stamp (Target t)) es past) ≡ only u past
only_others u t stamp es past other = turn_only u (turn stamp (Target t)) es past
    ∙ ap (λ (fs : List Entry). with_turn (turn stamp (Target t)) fs (only u past)) (about_other u t es other)

-- between turns it would be so
pub noted_there : (head : Head) (stamp : Stamp) (t : ℕ) (e : Entry) (es : List Entry) (past : List Line) → IsBreak e → NoClose es
    → Noted head past
    → Allowed head (with_turn (turn stamp (Target t)) es past) (turn stamp (Target t)) e
    → Noted head (with_turn (turn stamp (Target t)) es past)
noted_there head stamp t e es past k n before ok =
    record {
      marked = λ u. each u (λ p. due head.osts head.clients p ≡ None) (marked_there head stamp t e q k ok) (before.marked u)
          (nat_eq u t) refl;
      told = λ u. each u (λ p. (who : Who) → BackNow head.osts head.clients p who → ⊥) (told_there head stamp t e q k ok) (before.told u)
          (nat_eq u t) refl;
      shown = λ u. each u (λ p. closing_of head.clients p ≡ []) (shown_there head.clients stamp t es past n (before.shown t))
          (before.shown u) (nat_eq u t) refl;
    }
  where
    q : List Line
    q = with_turn (turn stamp (Target t)) es past

    each : (u : ℕ) (P : List Line → Type 0) → P (only t q) → P (only u past) → (b : Bool) → nat_eq u t ≡ b → P (only u q)
    each u P own old true e = subst (λ (v : ℕ). P (only v q)) (sym (eqb-true u t e)) own
    each u P own old false e = subst P (sym (only_others u t stamp es past e)) old
