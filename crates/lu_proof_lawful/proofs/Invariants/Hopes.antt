-- What a reply says of locks, by its cookie: it brings one, or tells who asked to wait for it; and who was told to wait awaits it.
use Rattle.std.proofs.Common.{◌≡◌, ℕ, ◌+◌, ◌-◌, ◌<◌, Bool, true, false, List, [], ◌∷◌, ◌⊎◌, inl, inr, ⊎_elim, refl, subst, arith}
use Rattle.std.specs.Prelude.{nat_eq, ◌==◌, ◌&&◌, ◌||◌, if◌then◌else◌}
use Rattle.std.proofs.lemmas.Bool.{and_parts}
use Rattle.lu_base.specs.declared.ids.Who.{Who}
use Rattle.lu_base.specs.declared.locks.Lock.{Lock}
use Rattle.lu_msg.specs.declared.answers.Answer.{Answer}
use Rattle.lu_msg.specs.declared.answers.Answer.TheVariants as told
use Rattle.lu_msg.specs.declared.messages.Reply.{Reply as ReplyTo}
use Rattle.lu_msg.specs.declared.operations.Op.{Op}
use Rattle.lu_msg.specs.declared.operations.Op.TheVariants as op
use Rattle.lu_spec_entries.specs.Carried.{Deed, Flight}
use Rattle.lu_spec_entries.specs.Words.{Entry, Heard, Hold, Knows, Line, line}
use Rattle.lu_spec_client.specs.Caches.{granted_lock, brought}
use Rattle.lu_proof_lawful.specs.Covered.ClientStates.{is_own, brings_cookie, awaits_of}
use Rattle.lu_proof_lawful.proofs.Preconditions.Guards.{In}
use Rattle.lu_proof_lawful.proofs.Preconditions.Lists.{self, in_append}
use Rattle.lu_proof_lawful.proofs.Invariants.Groups.{HeardAs}
use Rattle.lu_proof_lawful.proofs.Invariants.TargetGroups.{Promoted, tells_wait, Gave, Names, hopes_of}

-- ---- of one answer

pub waits_bring : (o : Op) (a : Answer) (k : ℕ) → tells_wait o a k ≡ true → brings_cookie o a k ≡ true
waits_bring (op.Enqueue resource mode extent) (told.Waiting cookie) k e = e
waits_bring o a k e = absurd (cc)

-- a lock that is granted is named by it
pub granted_named : (o : Op) (r : ReplyTo) (a : Answer) (l : Lock) → In l (granted_lock o r a) → brings_cookie o a l.cookie.0 ≡ true
granted_named (op.Enqueue resource mode extent) r (told.Granted cookie given size) l (inl e) =
    subst (λ (k : Lock). nat_eq cookie.0 k.cookie.0 ≡ true) e (self cookie.0)
granted_named (op.Enqueue resource mode extent) r (told.Granted cookie given size) l (inr i) = absurd i
granted_named o r a l i = absurd i

-- ---- what was done names each lock that it gives

pub gives_names : (d : Deed) (l : Lock) → In l (brought d.op d.reply) → Names d l.cookie.0
gives_names d l i =
    ⊎_elim
    (λ (j : In l d.reply.locks). inl (l, j, refl))
    (λ (j : In l (granted_lock d.op d.reply d.reply.answer)). inr (granted_named d.op d.reply d.reply.answer l j))
    (in_append l d.reply.locks (granted_lock d.op d.reply d.reply.answer) i)

pub gave_names : (past : List Line) (d : Deed) (l : Lock) → Gave past d l → Names d l.cookie.0
gave_names past d l g =
    ⊎_elim (λ (i : In l (brought d.op d.reply)). gives_names d l i)
    (λ (p : Promoted past l × (tells_wait d.op d.reply.answer l.cookie.0 ≡ true)). inr (waits_bring d.op d.reply.answer l.cookie.0 p.1))
    g.1

-- ---- what was heard

-- who was told to wait, and waits still, heard that
pub hopes_heard : (past : List Line) (who : Who) (k : ℕ) → hopes_of who k past ≡ true → (f : Flight) × (r : ReplyTo) × HeardAs past who f r
    × (tells_wait f.op r.answer k ≡ true)
hopes_heard [] who k h = absurd (cc)
hopes_heard (l ∷ past) who k h = by l.entry h (hopes_heard past who k)
  where
    Found : List Line → Type 0
    Found p = (f : Flight) × (r : ReplyTo) × HeardAs p who f r × (tells_wait f.op r.answer k ≡ true)

    either : (t : ℕ) (f : Flight) (r : ReplyTo) (b : Bool) → (is_own who past l.at.node && tells_wait f.op r.answer k) ≡ b
        → (b || hopes_of who k past) ≡ true → (hopes_of who k past ≡ true → Found past)
        → Found (line l.at (Heard t f r) ∷ past)
    either t f r true q h more = let p = and_parts (is_own who past l.at.node) (tells_wait f.op r.answer k) q
        in (f, r, inl (p.0, refl, refl), p.1)
    either t f r false q h more = let m = more h in (m.0, m.1, inr m.2, m.3)

    unless : (b : Bool) → (if b then false else hopes_of who k past) ≡ true → hopes_of who k past ≡ true
    unless true h = absurd (cc)
    unless false h = h

    by : (e : Entry) → hopes_of who k (line l.at e ∷ past) ≡ true → (hopes_of who k past ≡ true → Found past) → Found (line l.at e ∷ past)
    by (Heard t f r) h more = either t f r (is_own who past l.at.node && tells_wait f.op r.answer k) refl h more
    by (Hold t lock marked size seen) h more = more (unless (is_own who past l.at.node && lock.cookie.0 == k) h)
    by (Knows t boot) h more = more (unless (is_own who past l.at.node) h)
    by e h more = more h

-- and awaits the lock
pub hopes_awaits : (past : List Line) (who : Who) (k : ℕ) → hopes_of who k past ≡ true → 0 < awaits_of who k past
hopes_awaits [] who k h = absurd (cc)
hopes_awaits (l ∷ past) who k h = by l.entry h (hopes_awaits past who k)
  where
    H : Bool
    H = hopes_of who k past

    A : ℕ
    A = awaits_of who k past

    more : (own wait bring : Bool) → (wait ≡ true → bring ≡ true) → ((own && wait) || H) ≡ true → (H ≡ true → 0 < A)
        → 0 < (if own && bring then A + 1 else A)
    more true true true w h ih = omega arith
    more true true false w h ih = let e = w refl in absurd (cc)
    more true false true w h ih = omega arith
    more true false false w h ih = ih h
    more false wait bring w h ih = ih h

    unless : (b : Bool) (n : ℕ) → (if b then false else H) ≡ true → (H ≡ true → 0 < A) → 0 < (if b then n else A)
    unless true n h ih = absurd (cc)
    unless false n h ih = ih h

    by : (e : Entry) → hopes_of who k (line l.at e ∷ past) ≡ true → (H ≡ true → 0 < A) → 0 < awaits_of who k (line l.at e ∷ past)
    by (Heard t f r) h ih = more (is_own who past l.at.node) (tells_wait f.op r.answer k) (brings_cookie f.op r.answer k)
        (waits_bring f.op r.answer k) h ih
    by (Hold t lock marked size seen) h ih = unless (is_own who past l.at.node && lock.cookie.0 == k) (A - 1) h ih
    by (Knows t boot) h ih = unless (is_own who past l.at.node) 0 h ih
    by e h ih = ih h

-- so where none is awaited it isn't hoped for
pub awaits_hopes : (past : List Line) (who : Who) (k : ℕ) → awaits_of who k past ≡ 0 → hopes_of who k past ≡ false
awaits_hopes past who k z = by (hopes_of who k past) refl
  where
    by : (b : Bool) → hopes_of who k past ≡ b → b ≡ false
    by true e = absurd (let lt = hopes_awaits past who k e in omega (arith, z, lt))
    by false e = refl
