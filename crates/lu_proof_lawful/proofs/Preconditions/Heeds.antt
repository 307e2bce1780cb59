-- What a client owes to the answer that it heard last comes line by line, in that same turn, before any other line. That the rows make it
-- so is
-- shown over runs: here is what it says, and what follows.
use Rattle.std.proofs.Common.{◌≡◌, ℕ, Bool, true, false, List, [], ◌∷◌, ◌++◌, Option, Some, None, refl, sym, subst, ap, ◌∙◌}
use Rattle.std.specs.Prelude.{if◌then◌else◌}
use Rattle.lu_base.specs.declared.ids.At.{At}
use Rattle.lu_base.specs.declared.ids.Cookie.{Cookie}
use Rattle.lu_base.specs.declared.ids.Node.TheVariants.{Client}
use Rattle.lu_base.specs.declared.ids.Stamp.{Stamp}
use Rattle.lu_base.specs.declared.locks.Lock.{Lock}
use Rattle.lu_base.specs.declared.locks.Policy.{Policy}
use Rattle.lu_base.specs.declared.locks.Policy.TheVariants.{Range}
use Rattle.lu_base.specs.declared.locks.Resource.{Resource}
use Rattle.lu_msg.specs.declared.answers.Answer.{Answer}
use Rattle.lu_msg.specs.declared.answers.Answer.TheVariants as answer
use Rattle.lu_msg.specs.declared.messages.Reply.{Reply as ReplyTo}
use Rattle.lu_msg.specs.declared.operations.Op.{Op}
use Rattle.lu_msg.specs.declared.operations.Op.TheVariants as op
use Rattle.lu_held.specs.declared.locks.HeldLock.{HeldLock}
use Rattle.lu_held.specs.Locks.{named}
use Rattle.lu_spec_entries.specs.Carried.{Flight}
use Rattle.lu_spec_entries.specs.Words.{Entry, Heard, Hold, Learns, Acks, Fills, Zeroes, Grown, Shows, Tick, Line, line, is_client}
use Rattle.lu_spec_entries.specs.Fields.{on}
use Rattle.lu_spec_client.specs.Caches.{brought, reads_held, held_after, held_at, reads_bytes, bytes_after, known_bytes_at, reads_sizes}
use Rattle.lu_spec_client.specs.Caches.{sizes_after, sizes_at, reads_shown, shown_after, shown_at, reads_patches, patches_after, patches_at}
use Rattle.lu_spec_client.specs.Messages.{size_with, holds, learns, fills, shows, page_under, page_heard, held_as}
use Rattle.lu_spec_client.specs.States.{Store, store_after, store_turn, store_at}
use Rattle.lu_proof_lawful.proofs.Preconditions.HeedMarks.{heeds_marks, marks_left, owes, owed_of}
use Rattle.lu_proof_lawful.proofs.Preconditions.Guards.{IsTurnOf}
use Rattle.lu_proof_lawful.proofs.Preconditions.Lists.{self, turn}

-- that line is the client's, shows just that, and is of the newest turn
abbrev pub HeedsNow : ℕ → List Line → Line → Entry → Type 0
HeedsNow c past l e = (l.at.node ≡ Client c) × (l.entry ≡ e) × IsTurnOf past l.at

-- where something is owed the next line shows the first of it
abbrev pub HeedsNext : ℕ → List Line → Line → Type 0
HeedsNext c past l = (e : Entry) (more : List Entry) → owed_of c past ≡ e ∷ more → HeedsNow c past l e

-- after each line
abbrev pub AllHeed : List Line → Type 0
AllHeed [] = Unit {0}
AllHeed (l ∷ past) = ((c : ℕ) → HeedsNext c past l) × AllHeed past

-- ---- what may be owed

abbrev pub IsOwed : Entry → Type 0
IsOwed (Hold t lock marked size seen) = Unit {0}
IsOwed (Learns t o a locks) = Unit {0}
IsOwed (Acks resource) = Unit {0}
IsOwed (Fills resource offset bytes) = Unit {0}
IsOwed (Zeroes resource size) = Unit {0}
IsOwed (Grown resource change) = Unit {0}
IsOwed (Shows resource cookie last) = Unit {0}
IsOwed _ = ⊥

abbrev pub AllOwed : List Entry → Type 0
AllOwed [] = Unit {0}
AllOwed (e ∷ es) = IsOwed e × AllOwed es

owed_more : (es fs : List Entry) → AllOwed es → AllOwed fs → AllOwed (es ++ fs)
owed_more [] fs a b = b
owed_more (e ∷ es) fs a b = (a.0, owed_more es fs a.1 b)

holds_owed : (t : ℕ) (size : Option ℕ) (seen : List ℕ) (ls : List Lock) → AllOwed (holds t size seen ls)
holds_owed t size seen [] = tt
holds_owed t size seen (l ∷ ls) = (tt, holds_owed t size seen ls)

learns_owed : (t : ℕ) (o : Op) (a : Answer) (ls : List Lock) → AllOwed (learns t o a ls)
learns_owed t o a [] = tt
learns_owed t o a (l ∷ ls) = (tt, tt)

shows_owed : (resource : Resource) (cookie : Cookie) (page : ℕ) (bs : List ℕ) → AllOwed (shows resource cookie page bs)
shows_owed resource cookie page [] = tt
shows_owed resource cookie page (b ∷ bs) = (tt, tt)

under_owed : (resource : Resource) (cookie : Cookie) (page : ℕ) (bs : List ℕ) (p : Policy) → AllOwed (page_under resource cookie page bs p)
under_owed resource cookie page bs (Range extent) = owed_more (shows resource cookie page bs) (fills resource page bs extent ∷ [])
    (shows_owed resource cookie page bs) (tt, tt)
under_owed resource cookie page bs p = tt

page_owed : (resource : Resource) (cookie : Cookie) (page : ℕ) (bs : List ℕ) (o : Option Lock)
    → AllOwed (page_heard resource cookie page bs o)
page_owed resource cookie page bs None = tt
page_owed resource cookie page bs (Some l) = under_owed resource cookie page bs l.ask.policy

marks_owed : (t : ℕ) (o : Op) (a : Answer) (held : List HeldLock) → AllOwed (heeds_marks t o a held)
marks_owed t (op.Get resource cookie page) (answer.Content bs) held =
    page_owed resource cookie page bs (held_as (named (record { 0 = t }) cookie) held)
marks_owed t (op.Put resource cookie at bs) answer.Done held = (tt, (tt, (tt, tt)))
marks_owed t (op.Cut resource cookie n) answer.Done held = (tt, (tt, (tt, tt)))
marks_owed t o a held = tt

pub all_owed : (t : ℕ) (f : Flight) (r : ReplyTo) (held : List HeldLock) → AllOwed (owes t f r held)
all_owed t f r held =
    owed_more (holds t (size_with r.answer) r.seen (brought f.op r) ++ learns t f.op r.answer r.locks) (heeds_marks t f.op r.answer held)
    (owed_more (holds t (size_with r.answer) r.seen (brought f.op r)) (learns t f.op r.answer r.locks)
    (holds_owed t (size_with r.answer) r.seen (brought f.op r)) (learns_owed t f.op r.answer r.locks))
    (marks_owed t f.op r.answer held)

left_owed : (es : List Entry) → AllOwed es → AllOwed (marks_left es)
left_owed [] a = tt
left_owed (e ∷ es) a = a.1

either_owed : (b : Bool) (es fs : List Entry) → AllOwed es → AllOwed fs → AllOwed (if b then es else fs)
either_owed true es fs a b = a
either_owed false es fs a b = b

pub owed_all : (c : ℕ) (past : List Line) → AllOwed (owed_of c past)
owed_all c [] = tt
owed_all c (l ∷ past) = by l.entry (owed_all c past)
  where
    left : AllOwed (owed_of c past) → AllOwed (if is_client c l.at.node then marks_left (owed_of c past) else owed_of c past)
    left a = either_owed (is_client c l.at.node) (marks_left (owed_of c past)) (owed_of c past) (left_owed (owed_of c past) a) a

    by : (e : Entry) → AllOwed (owed_of c past) → AllOwed (owed_of c (line l.at e ∷ past))
    by (Heard t f r) a = either_owed (is_client c l.at.node) (owes t f r (held_at c past)) (owed_of c past)
        (all_owed t f r (held_at c past)) a
    by (Hold t lock marked size seen) a = left a
    by (Learns t o x locks) a = left a
    by (Acks resource) a = left a
    by (Fills resource offset bytes) a = left a
    by (Zeroes resource size) a = left a
    by (Grown resource change) a = left a
    by (Shows resource cookie last) a = left a
    by e a = a

-- ---- a line of another kind, or of another node, finds nothing owed

pub none_owed : (c : ℕ) (past : List Line) (l : Line) → HeedsNext c past l → (IsOwed l.entry → ⊥) → owed_of c past ≡ []
none_owed c past l next not_it = by (owed_of c past) refl (owed_all c past)
  where
    by : (es : List Entry) → owed_of c past ≡ es → AllOwed es → es ≡ []
    by [] e all = refl
    by (x ∷ es) e all = absurd (not_it (subst IsOwed (sym (next x es e).1) all.0))

pub other_owed : (c : ℕ) (past : List Line) (l : Line) → HeedsNext c past l → is_client c l.at.node ≡ false → owed_of c past ≡ []
other_owed c past l next other = by (owed_of c past) refl
  where
    by : (es : List Entry) → owed_of c past ≡ es → es ≡ []
    by [] e = refl
    by (x ∷ es) e = absurd (let q : true ≡ false = sym (self c) ∙ ap (is_client c) (sym (next x es e).0) ∙ other in cc)

-- ---- what is left after a line

-- a line of another node leaves it
pub owed_other : (c : ℕ) (at : At) (e : Entry) (past : List Line) → is_client c at.node ≡ false → owed_of c (line at e ∷ past)
    ≡ owed_of c past
owed_other c at e past other = by e
  where
    left : (es : List Entry) → (if is_client c at.node then es else owed_of c past) ≡ owed_of c past
    left es = ap (λ (b : Bool). if b then es else owed_of c past) other

    by : (e : Entry) → owed_of c (line at e ∷ past) ≡ owed_of c past
    by (Heard t f r) = left (owes t f r (held_at c past))
    by (Hold t lock marked size seen) = left (marks_left (owed_of c past))
    by (Learns t o x locks) = left (marks_left (owed_of c past))
    by (Acks resource) = left (marks_left (owed_of c past))
    by (Fills resource offset bytes) = left (marks_left (owed_of c past))
    by (Zeroes resource size) = left (marks_left (owed_of c past))
    by (Grown resource change) = left (marks_left (owed_of c past))
    by (Shows resource cookie last) = left (marks_left (owed_of c past))
    by e = refl

module _ (c : ℕ) (stamp : Stamp) (past : List Line) where
  abbrev here : At
  here = turn stamp (Client c)

  mine : (es : List Entry) → (if is_client c here.node then es else owed_of c past) ≡ es
  mine es = ap (λ (b : Bool). if b then es else owed_of c past) (self c)

  -- its own that shows the first of it leaves the rest
  pub owed_rest : (e : Entry) → IsOwed e → owed_of c (line here e ∷ past) ≡ marks_left (owed_of c past)
  owed_rest (Hold t lock marked size seen) i = mine (marks_left (owed_of c past))
  owed_rest (Learns t o x locks) i = mine (marks_left (owed_of c past))
  owed_rest (Acks resource) i = mine (marks_left (owed_of c past))
  owed_rest (Fills resource offset bytes) i = mine (marks_left (owed_of c past))
  owed_rest (Zeroes resource size) i = mine (marks_left (owed_of c past))
  owed_rest (Grown resource change) i = mine (marks_left (owed_of c past))
  owed_rest (Shows resource cookie last) i = mine (marks_left (owed_of c past))
  owed_rest e i = absurd i

  -- an answer that is heard brings all of it
  pub owed_heard : (t : ℕ) (f : Flight) (r : ReplyTo) → owed_of c (line here (Heard t f r) ∷ past) ≡ owes t f r (held_at c past)
  owed_heard t f r = mine (owes t f r (held_at c past))

  -- ---- the store once all of it has come

  field : {A : Type 0} (reads : Entry → Bool) (after : A → Entry → A) (x : A) (e : Entry)
      → ((e : Entry) → on (reads e) true (after x e) x ≡ after x e) → on (reads e) (is_client c here.node) (after x e) x ≡ after x e
  field reads after x e all = ap (λ (own : Bool). on (reads e) own (after x e) x) (self c) ∙ all e

  pub store_line : (e : Entry) → store_at c (line here e ∷ past) ≡ store_after (store_at c past) e
  store_line e = rw (held, bytes, sizes, shown, patches) refl
    where
      held : held_at c (line here e ∷ past) ≡ held_after (held_at c past) e
      held = field reads_held held_after (held_at c past) e (λ x. by x)
        where
          by : (x : Entry) → on (reads_held x) true (held_after (held_at c past) x) (held_at c past) ≡ held_after (held_at c past) x
          by Tick = refl
          by x = refl

      bytes : known_bytes_at c (line here e ∷ past) ≡ bytes_after (known_bytes_at c past) e
      bytes = field reads_bytes bytes_after (known_bytes_at c past) e (λ x. by x)
        where
          by : (x : Entry) → on (reads_bytes x) true (bytes_after (known_bytes_at c past) x) (known_bytes_at c past)
              ≡ bytes_after (known_bytes_at c past) x
          by Tick = refl
          by x = refl

      sizes : sizes_at c (line here e ∷ past) ≡ sizes_after (sizes_at c past) e
      sizes = field reads_sizes sizes_after (sizes_at c past) e (λ x. by x)
        where
          by : (x : Entry) → on (reads_sizes x) true (sizes_after (sizes_at c past) x) (sizes_at c past) ≡ sizes_after (sizes_at c past) x
          by Tick = refl
          by x = refl

      shown : shown_at c (line here e ∷ past) ≡ shown_after (shown_at c past) e
      shown = field reads_shown shown_after (shown_at c past) e (λ x. by x)
        where
          by : (x : Entry) → on (reads_shown x) true (shown_after (shown_at c past) x) (shown_at c past) ≡ shown_after (shown_at c past) x
          by Tick = refl
          by x = refl

      patches : patches_at c (line here e ∷ past) ≡ patches_after (patches_at c past) e
      patches = field reads_patches patches_after (patches_at c past) e (λ x. by x)
        where
          by : (x : Entry) → on (reads_patches x) true (patches_after (patches_at c past) x) (patches_at c past)
              ≡ patches_after (patches_at c past) x
          by Tick = refl
          by x = refl

  -- a line that was owed leaves it as it will be
  pub store_heeded : (e x : Entry) (more : List Entry) → owed_of c past ≡ x ∷ more → HeedsNext c past (line here e)
      → (owed_of c (line here e ∷ past) ≡ more) × (store_turn (store_at c (line here e ∷ past)) (owed_of c (line here e ∷ past))
      ≡ store_turn (store_at c past) (owed_of c past))
  store_heeded e x more is next =
      let same : e ≡ x = (next x more is).1 in
      let kind = subst IsOwed (sym same) (subst AllOwed is (owed_all c past)).0 in
      let rest : owed_of c (line here e ∷ past) ≡ more = owed_rest e kind ∙ ap marks_left is in (
        rest,
        ap (store_turn (store_at c (line here e ∷ past))) rest ∙ ap (λ (s : Store). store_turn s more) (store_line e)
            ∙ ap (λ (y : Entry). store_turn (store_after (store_at c past) y) more) same ∙ ap (store_turn (store_at c past)) (sym is),
      )

-- a line of another node leaves it
pub store_other : (c : ℕ) (at : At) (e : Entry) (past : List Line) → is_client c at.node ≡ false → store_at c (line at e ∷ past)
    ≡ store_at c past
store_other c at e past other = rw (
  same reads_held held_after (held_at c past),
  same reads_bytes bytes_after (known_bytes_at c past),
  same reads_sizes sizes_after (sizes_at c past),
  same reads_shown shown_after (shown_at c past),
  same reads_patches patches_after (patches_at c past),
) refl
  where
    by : {A : Type 0} (b : Bool) (new old : A) → on b false new old ≡ old
    by true new old = refl
    by false new old = refl

    same : {A : Type 0} (reads : Entry → Bool) (after : A → Entry → A) (x : A) → on (reads e) (is_client c at.node) (after x e) x ≡ x
    same reads after x = ap (λ (own : Bool). on (reads e) own (after x e) x) other ∙ by (reads e) (after x e) x
