-- What a client owes to the answer that it heard last begins, at an object storage target, with a lock at most, as one comes with an answer
-- there.
use Rattle.std.proofs.Common.{◌≡◌, ℕ, ◌<◌, Bool, true, false, List, [], ◌∷◌, ◌++◌, Option, ◌⊎◌, inl, inr, ⊎_elim, refl, sym, subst, ap, ◌∙◌}
use Rattle.std.proofs.Common.{arith}
use Rattle.std.specs.Prelude.{nat_eq, if◌then◌else◌}
use Rattle.std.proofs.lemmas.Bool.{eqb-true, eqb-false}
use Rattle.lu_base.specs.declared.ids.Node.{Node}
use Rattle.lu_base.specs.declared.ids.Node.TheVariants.{Client, Target}
use Rattle.lu_base.specs.declared.locks.Lock.{Lock}
use Rattle.lu_msg.specs.declared.answers.Answer.{Answer}
use Rattle.lu_msg.specs.declared.answers.Answer.TheVariants as answer
use Rattle.lu_msg.specs.declared.messages.Reply.{Reply as ReplyTo}
use Rattle.lu_msg.specs.declared.operations.Op.{Op}
use Rattle.lu_msg.specs.declared.operations.Op.TheVariants as op
use Rattle.lu_held.specs.declared.locks.HeldLock.{HeldLock}
use Rattle.lu_spec_entries.specs.Carried.{Flight}
use Rattle.lu_spec_entries.specs.Words.{Entry, Heard, Hold, Learns, Acks, Fills, Zeroes, Grown as Grows, Shows, Line, line, is_client}
use Rattle.lu_spec_client.specs.Caches.{brought, granted_lock, held_at}
use Rattle.lu_spec_client.specs.Messages.{size_with, holds, learns}
use Rattle.lu_proof_lawful.specs.Covered.Heads.{Head}
use Rattle.lu_proof_lawful.proofs.Preconditions.Guards.{EntryOk}
use Rattle.lu_proof_lawful.proofs.Preconditions.Grown.{Grown}
use Rattle.lu_proof_lawful.proofs.Preconditions.HeedMarks.{heeds_marks, marks_left, owes, owed_of}
use Rattle.lu_proof_lawful.proofs.Refinement.AskedKept.{ShowsNone}
use Rattle.lu_proof_lawful.proofs.Refinement.MarksOwed.{IsMark, AllMarks, heeds_all}

abbrev Each : (Entry → Type 0) → List Entry → Type 0
Each F [] = Unit {0}
Each F (e ∷ es) = F e × Each F es

each_more : (F : Entry → Type 0) (es fs : List Entry) → Each F es → Each F fs → Each F (es ++ fs)
each_more F [] fs a b = b
each_more F (e ∷ es) fs a b = (a.0, each_more F es fs a.1 b)

-- ---- one lock at most comes from an object storage target

abbrev ShowsOther : ℕ → Entry → Type 0
ShowsOther t (Hold u lock marked size seen) = u ≡ t → ⊥
ShowsOther t _ = Unit {0}

abbrev RestOther : ℕ → List Entry → Type 0
RestOther t [] = Unit {0}
RestOther t (e ∷ es) = Each (ShowsOther t) es

rest_of : (t : ℕ) (es : List Entry) → Each (ShowsOther t) es → RestOther t es
rest_of t [] a = tt
rest_of t (e ∷ es) a = a.1

rest_left : (t : ℕ) (es : List Entry) → RestOther t es → RestOther t (marks_left es)
rest_left t [] a = tt
rest_left t (e ∷ es) a = rest_of t es a

mark_other : (t : ℕ) (es : List Entry) → AllMarks es → Each (ShowsOther t) es
mark_other t [] a = tt
mark_other t (e ∷ es) a = (one e a.0, mark_other t es a.1)
  where
    one : (e : Entry) → IsMark e → ShowsOther t e
    one (Hold u lock marked size seen) m = absurd m
    one e m = tt

learns_other : (t u : ℕ) (o : Op) (a : Answer) (ls : List Lock) → Each (ShowsOther t) (learns u o a ls)
learns_other t u o a [] = tt
learns_other t u o a (l ∷ ls) = (tt, tt)

holds_other : (t u : ℕ) (size : Option ℕ) (seen : List ℕ) (ls : List Lock) → (u ≡ t → ⊥) → Each (ShowsOther t) (holds u size seen ls)
holds_other t u size seen [] n = tt
holds_other t u size seen (l ∷ ls) n = (n, holds_other t u size seen ls n)

one_granted : (o : Op) (r : ReplyTo) (a : Answer) → (granted_lock o r a ≡ []) ⊎ ((l : Lock) × (granted_lock o r a ≡ l ∷ []))
one_granted (op.Enqueue resource mode asked) r (answer.Granted cookie extent size) = inr (_, refl)
one_granted o r a = inl refl

-- none of these shows a lock of that target
shows_no : (t : ℕ) (es : List Entry) → Each (ShowsOther t) es → ShowsNone t es
shows_no t [] a lock marked size seen more q = absurd (cc)
shows_no t (e ∷ es) a lock marked size seen more q = let same : e ≡ Hold t lock marked size seen = cc in subst (ShowsOther t) same a.0 refl

after_locks : (t u : ℕ) (f : Flight) (r : ReplyTo) (held : List HeldLock)
    → Each (ShowsOther t) (learns u f.op r.answer r.locks ++ heeds_marks u f.op r.answer held)
after_locks t u f r held =
    each_more (ShowsOther t) (learns u f.op r.answer r.locks) (heeds_marks u f.op r.answer held) (learns_other t u f.op r.answer r.locks)
    (mark_other t (heeds_marks u f.op r.answer held) (heeds_all u f.op r.answer held))

-- what is owed to an answer of another target
owes_other : (t u : ℕ) (f : Flight) (r : ReplyTo) (held : List HeldLock) → (u ≡ t → ⊥) → Each (ShowsOther t) (owes u f r held)
owes_other t u f r held other =
    let shown = holds u (size_with r.answer) r.seen (brought f.op r) in
    each_more (ShowsOther t) (shown ++ learns u f.op r.answer r.locks) (heeds_marks u f.op r.answer held)
    (each_more (ShowsOther t) shown (learns u f.op r.answer r.locks) (holds_other t u (size_with r.answer) r.seen (brought f.op r) other)
    (learns_other t u f.op r.answer r.locks))
    (mark_other t (heeds_marks u f.op r.answer held) (heeds_all u f.op r.answer held))

pub owes_else : (t u : ℕ) (f : Flight) (r : ReplyTo) (held : List HeldLock) → (u ≡ t → ⊥) → ShowsNone t (owes u f r held)
owes_else t u f r held other = shows_no t (owes u f r held) (owes_other t u f r held other)

-- where no lock came, and where one came
pub owes_none : (t : ℕ) (f : Flight) (r : ReplyTo) (held : List HeldLock) → brought f.op r ≡ [] → ShowsNone t (owes t f r held)
owes_none t f r held none =
    subst (λ (ls : List Lock). ShowsNone t ((holds t (size_with r.answer) r.seen ls ++ learns t f.op r.answer r.locks)
    ++ heeds_marks t f.op r.answer held)) (sym none) (shows_no t (learns t f.op r.answer r.locks ++ heeds_marks t f.op r.answer held)
    (after_locks t t f r held))

pub owes_one : (t : ℕ) (f : Flight) (r : ReplyTo) (held : List HeldLock) (l : Lock) → brought f.op r ≡ l ∷ []
    → owes t f r held ≡ Hold t l false (size_with r.answer) r.seen ∷ (learns t f.op r.answer r.locks ++ heeds_marks t f.op r.answer held)
owes_one t f r held l one = ap (λ (ls : List Lock). (holds t (size_with r.answer) r.seen ls ++ learns t f.op r.answer r.locks)
    ++ heeds_marks t f.op r.answer held) one

pub one_brought : (t : ℕ) (f : Flight) (r : ReplyTo) → 0 < t → (t ≡ 0) ⊎ (r.locks ≡ []) → (brought f.op r ≡ [])
    ⊎ ((l : Lock) × (brought f.op r ≡ l ∷ []) × (granted_lock f.op r r.answer ≡ l ∷ []))
one_brought t f r some first =
    let none : r.locks ≡ [] = ⊎_elim {C = r.locks ≡ []} (λ (z : t ≡ 0). absurd (omega (arith, z, some))) (λ n. n) first in
    let is : brought f.op r ≡ granted_lock f.op r r.answer = ap (λ (ls : List Lock). ls ++ granted_lock f.op r r.answer) none in
    ⊎_elim (λ (e : granted_lock f.op r r.answer ≡ []). inl (is ∙ e))
    (λ (e : (l : Lock) × (granted_lock f.op r r.answer ≡ l ∷ [])). inr (e.0, is ∙ e.1, e.1)) (one_granted f.op r r.answer)

module _ (head : Head) (t : ℕ) (some : 0 < t) (c : ℕ) where
  heard_rest : (u : ℕ) (f : Flight) (r : ReplyTo) (held : List HeldLock) → (u ≡ 0) ⊎ (r.locks ≡ []) → RestOther t (owes u f r held)
  heard_rest u f r held first = by (nat_eq u t) refl
    where
      few : (brought f.op r ≡ []) ⊎ ((l : Lock) × (brought f.op r ≡ l ∷ []) × (granted_lock f.op r r.answer ≡ l ∷ []))
          → RestOther t (owes u f r held)
      few (inl none) =
          subst (λ (ls : List Lock). RestOther t ((holds u (size_with r.answer) r.seen ls ++ learns u f.op r.answer r.locks)
          ++ heeds_marks u f.op r.answer held)) (sym none) (rest_of t
          (learns u f.op r.answer r.locks ++ heeds_marks u f.op r.answer held) (after_locks t u f r held))
      few (inr one) = subst (RestOther t) (sym (owes_one u f r held one.0 one.1)) (after_locks t u f r held)

      by : (v : Bool) → nat_eq u t ≡ v → RestOther t (owes u f r held)
      by false e = rest_of t (owes u f r held) (owes_other t u f r held (eqb-false u t e))
      by true e = let same : u ≡ t = eqb-true u t e in few (one_brought u f r (omega (arith, same, some)) first)

  rest_owed : (past : List Line) → Grown head past → RestOther t (owed_of c past)
  rest_owed [] g = tt
  rest_owed (l ∷ past) g = by l.at.node l.entry g.0.ok (rest_owed past g.1)
    where
      either : (b : Bool) (x : List Entry) → RestOther t x → RestOther t (owed_of c past) → RestOther t (if b then x else owed_of c past)
      either true x a s = a
      either false x a s = s

      left : (b : Bool) → RestOther t (owed_of c past) → RestOther t (if b then marks_left (owed_of c past) else owed_of c past)
      left b s = either b (marks_left (owed_of c past)) (rest_left t (owed_of c past) s) s

      by : (node : Node) (e : Entry) → EntryOk past l.at node e → RestOther t (owed_of c past)
          → RestOther t (owed_of c (line (record l.at { node = node }) e ∷ past))
      by (Client d) (Heard u f r) ok s = either (nat_eq c d) (owes u f r (held_at c past)) (heard_rest u f r (held_at c past) ok.0) s
      by (Target v) (Heard u f r) ok s = s
      by node (Hold u lock marked size seen) ok s = left (is_client c node) s
      by node (Learns u o a locks) ok s = left (is_client c node) s
      by node (Acks resource) ok s = left (is_client c node) s
      by node (Fills resource offset bytes) ok s = left (is_client c node) s
      by node (Zeroes resource size) ok s = left (is_client c node) s
      by node (Grows resource change) ok s = left (is_client c node) s
      by node (Shows resource cookie last) ok s = left (is_client c node) s
      by node _ ok s = s

  -- after the first of what is owed no lock of that target is to be shown
  pub left_none : (past : List Line) → Grown head past → ShowsNone t (marks_left (owed_of c past))
  left_none past g = by (owed_of c past) (rest_owed past g)
    where
      by : (es : List Entry) → RestOther t es → ShowsNone t (marks_left es)
      by [] a = shows_no t [] tt
      by (e ∷ es) a = shows_no t es a
