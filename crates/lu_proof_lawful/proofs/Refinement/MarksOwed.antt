-- What is to be marked of a heard answer is the last of what is owed to it: so where nothing is owed nothing is to be marked.
use Rattle.std.proofs.Common.{◌≡◌, ℕ, Bool, true, false, List, [], ◌∷◌, ◌++◌, Option, Some, None, refl, sym, subst, ap, ◌∙◌}
use Rattle.std.specs.Prelude.{if◌then◌else◌}
use Rattle.lu_base.specs.declared.ids.Cookie.{Cookie}
use Rattle.lu_base.specs.declared.locks.Lock.{Lock}
use Rattle.lu_base.specs.declared.locks.Policy.{Policy}
use Rattle.lu_base.specs.declared.locks.Policy.TheVariants.{Range}
use Rattle.lu_base.specs.declared.locks.Resource.{Resource}
use Rattle.lu_msg.specs.declared.answers.Answer.{Answer}
use Rattle.lu_msg.specs.declared.answers.Answer.TheVariants as answer
use Rattle.lu_msg.specs.declared.messages.Reply.{Reply as ReplyTo}
use Rattle.lu_msg.specs.declared.operations.Op.{Op}
use Rattle.lu_msg.specs.declared.operations.Op.TheVariants as op
use Rattle.lu_held.specs.declared.locks.HeldLock.{HeldLock}
use Rattle.lu_held.specs.Locks.{named}
use Rattle.lu_spec_entries.specs.Carried.{Flight}
use Rattle.lu_spec_entries.specs.Words.{Entry, Heard, Hold, Learns, Acks, Fills, Zeroes, Grown, Shows, Line, line, is_client}
use Rattle.lu_spec_client.specs.Caches.{brought, held_at}
use Rattle.lu_spec_client.specs.Messages.{size_with, holds, learns, held_as, page_heard, page_under, shows, fills}
use Rattle.lu_proof_lawful.proofs.Preconditions.HeedMarks.{heeds_marks, marks_left, marks_of, owes, owed_of}
use Rattle.lu_proof_lawful.proofs.Preconditions.Heeds.{HeedsNext, AllHeed}

abbrev pub IsMark : Entry → Type 0
IsMark (Acks resource) = Unit {0}
IsMark (Fills resource offset bytes) = Unit {0}
IsMark (Zeroes resource size) = Unit {0}
IsMark (Grown resource change) = Unit {0}
IsMark (Shows resource cookie last) = Unit {0}
IsMark _ = ⊥

abbrev pub AllMarks : List Entry → Type 0
AllMarks [] = Unit {0}
AllMarks (e ∷ es) = IsMark e × AllMarks es

abbrev IsFirst : Entry → Type 0
IsFirst (Hold t lock marked size seen) = Unit {0}
IsFirst (Learns t o a locks) = Unit {0}
IsFirst _ = ⊥

abbrev AllFirst : List Entry → Type 0
AllFirst [] = Unit {0}
AllFirst (e ∷ es) = IsFirst e × AllFirst es

not_both : (e : Entry) → IsMark e → IsFirst e → ⊥
not_both (Hold t lock marked size seen) m f = m
not_both (Learns t o a locks) m f = m
not_both e m f = f

marks_more : (es fs : List Entry) → AllMarks es → AllMarks fs → AllMarks (es ++ fs)
marks_more [] fs a b = b
marks_more (e ∷ es) fs a b = (a.0, marks_more es fs a.1 b)

first_more : (es fs : List Entry) → AllFirst es → AllFirst fs → AllFirst (es ++ fs)
first_more [] fs a b = b
first_more (e ∷ es) fs a b = (a.0, first_more es fs a.1 b)

holds_first : (t : ℕ) (size : Option ℕ) (seen : List ℕ) (ls : List Lock) → AllFirst (holds t size seen ls)
holds_first t size seen [] = tt
holds_first t size seen (l ∷ ls) = (tt, holds_first t size seen ls)

learns_first : (t : ℕ) (o : Op) (a : Answer) (ls : List Lock) → AllFirst (learns t o a ls)
learns_first t o a [] = tt
learns_first t o a (l ∷ ls) = (tt, tt)

shows_marks : (resource : Resource) (cookie : Cookie) (page : ℕ) (bs : List ℕ) → AllMarks (shows resource cookie page bs)
shows_marks resource cookie page [] = tt
shows_marks resource cookie page (b ∷ bs) = (tt, tt)

under_marks : (resource : Resource) (cookie : Cookie) (page : ℕ) (bs : List ℕ) (p : Policy)
    → AllMarks (page_under resource cookie page bs p)
under_marks resource cookie page bs (Range extent) = marks_more (shows resource cookie page bs) (fills resource page bs extent ∷ [])
    (shows_marks resource cookie page bs) (tt, tt)
under_marks resource cookie page bs p = tt

page_marks : (resource : Resource) (cookie : Cookie) (page : ℕ) (bs : List ℕ) (o : Option Lock)
    → AllMarks (page_heard resource cookie page bs o)
page_marks resource cookie page bs None = tt
page_marks resource cookie page bs (Some l) = under_marks resource cookie page bs l.ask.policy

pub heeds_all : (t : ℕ) (o : Op) (a : Answer) (held : List HeldLock) → AllMarks (heeds_marks t o a held)
heeds_all t (op.Get resource cookie page) (answer.Content bs) held =
    page_marks resource cookie page bs (held_as (named (record { 0 = t }) cookie) held)
heeds_all t (op.Put resource cookie at bs) answer.Done held = (tt, (tt, (tt, tt)))
heeds_all t (op.Cut resource cookie n) answer.Done held = (tt, (tt, (tt, tt)))
heeds_all t o a held = tt

-- the marks come last
record Last (es ms : List Entry) : Type 0 where
  before : List Entry
  is : es ≡ before ++ ms
  first : AllFirst before
  marks : AllMarks ms

abbrev Next : List Entry → Entry → Type 0
Next es x = (e : Entry) (more : List Entry) → es ≡ e ∷ more → x ≡ e

-- a line of the first kind, and one that marks
first_taken : (es ms : List Entry) (x : Entry) → IsFirst x → Next es x → Last es ms → Last (marks_left es) ms
first_taken es ms x f next k = by k.before ms k.is k.first k.marks
  where
    by : (bs ms : List Entry) → es ≡ bs ++ ms → AllFirst bs → AllMarks ms → Last (marks_left es) ms
    by [] [] e a m = record { before = []; is = ap marks_left e; first = tt; marks = tt }
    by [] (y ∷ ms) e a m = absurd (not_both y m.0 (subst IsFirst (next y ms e) f))
    by (b ∷ bs) ms e a m = record { before = bs; is = ap marks_left e; first = a.1; marks = m }

mark_taken : (es ms : List Entry) (x : Entry) → IsMark x → Next es x → Last es ms → Last (marks_left es) (marks_left ms)
mark_taken es ms x i next k = by k.before ms k.is k.first k.marks
  where
    by : (bs ms : List Entry) → es ≡ bs ++ ms → AllFirst bs → AllMarks ms → Last (marks_left es) (marks_left ms)
    by [] [] e a m = record { before = []; is = ap marks_left e; first = tt; marks = tt }
    by [] (y ∷ ms) e a m = record { before = []; is = ap marks_left e; first = tt; marks = m.1 }
    by (b ∷ bs) ms e a m = absurd (not_both b (subst IsMark (next b (bs ++ ms) e) i) a.0)

marks_last : (c : ℕ) (past : List Line) → AllHeed past → Last (owed_of c past) (marks_of c past)
marks_last c [] heeds = record { before = []; is = refl; first = tt; marks = tt }
marks_last c (l ∷ past) heeds = by l.entry (heeds.0 c) (marks_last c past heeds.1)
  where
    Now : Entry → Type 0
    Now e = Last (owed_of c (line l.at e ∷ past)) (marks_of c (line l.at e ∷ past))

    es : List Entry
    es = owed_of c past

    ms : List Entry
    ms = marks_of c past

    next : (e : Entry) → HeedsNext c past (line l.at e) → Next (owed_of c past) e
    next e h x more q = (h x more q).1

    first : (e : Entry) → IsFirst e → HeedsNext c past (line l.at e) → Last (owed_of c past) (marks_of c past) → (b : Bool)
        → Last (if b then marks_left (owed_of c past) else owed_of c past) (marks_of c past)
    first e f h k true = first_taken (owed_of c past) (marks_of c past) e f (next e h) k
    first e f h k false = k

    mark : (e : Entry) → IsMark e → HeedsNext c past (line l.at e) → Last (owed_of c past) (marks_of c past) → (b : Bool)
        → Last (if b then marks_left (owed_of c past) else owed_of c past) (if b then marks_left (marks_of c past) else marks_of c past)
    mark e i h k true = mark_taken (owed_of c past) (marks_of c past) e i (next e h) k
    mark e i h k false = k

    heard : (t : ℕ) (f : Flight) (r : ReplyTo) → Last (owed_of c past) (marks_of c past) → (b : Bool)
        → Last (if b then owes t f r (held_at c past) else owed_of c past)
        (if b then heeds_marks t f.op r.answer (held_at c past) else marks_of c past)
    heard t f r k true =
        record {
          before = holds t (size_with r.answer) r.seen (brought f.op r) ++ learns t f.op r.answer r.locks;
          is = refl;
          first = first_more (holds t (size_with r.answer) r.seen (brought f.op r)) (learns t f.op r.answer r.locks)
              (holds_first t (size_with r.answer) r.seen (brought f.op r)) (learns_first t f.op r.answer r.locks);
          marks = heeds_all t f.op r.answer (held_at c past);
        }
    heard t f r k false = k

    by : (e : Entry) → HeedsNext c past (line l.at e) → Last (owed_of c past) (marks_of c past) → Now e
    by (Heard t f r) h k = heard t f r k (is_client c l.at.node)
    by (Hold t lock marked size seen) h k = first (Hold t lock marked size seen) tt h k (is_client c l.at.node)
    by (Learns t o a locks) h k = first (Learns t o a locks) tt h k (is_client c l.at.node)
    by (Acks resource) h k = mark (Acks resource) tt h k (is_client c l.at.node)
    by (Fills resource offset bytes) h k = mark (Fills resource offset bytes) tt h k (is_client c l.at.node)
    by (Zeroes resource size) h k = mark (Zeroes resource size) tt h k (is_client c l.at.node)
    by (Grown resource change) h k = mark (Grown resource change) tt h k (is_client c l.at.node)
    by (Shows resource cookie last) h k = mark (Shows resource cookie last) tt h k (is_client c l.at.node)
    by e h k = k

-- where nothing is owed nothing is to be marked
pub none_marked : (c : ℕ) (past : List Line) → AllHeed past → owed_of c past ≡ [] → marks_of c past ≡ []
none_marked c past heeds none = by (marks_last c past heeds).before (marks_of c past) (sym none ∙ (marks_last c past heeds).is)
  where
    by : (bs ms : List Entry) → [] ≡ bs ++ ms → ms ≡ []
    by [] ms e = sym e
    by (b ∷ bs) ms e = absurd (cc)

-- and where something is to be marked, something is owed
pub marks_owed : (c : ℕ) (past : List Line) → AllHeed past → (e : Entry) (more : List Entry) → marks_of c past ≡ e ∷ more → owed_of c past
    ≡ [] → ⊥
marks_owed c past heeds e more m none = let z : [] ≡ e ∷ more = sym (none_marked c past heeds none) ∙ m in cc
