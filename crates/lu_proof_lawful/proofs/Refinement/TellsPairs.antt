-- Two locks to read that one life was given of an object, neither of which is over, were told what goes with the same bytes of the object:
-- line by line.
use Rattle.std.proofs.Common.{◌≡◌, ◌∙◌, ℕ, ◌≤◌, ◌<◌, ◌⊎◌, inl, inr, ⊎_elim, List, [], ◌∷◌, Option, Some, None, Bool, true, false, refl, sym}
use Rattle.std.proofs.Common.{ap, subst, arith}
use Rattle.std.specs.Prelude.{nat_eq, nat_lt, ◌&&◌, if◌then◌else◌}
use Rattle.std.proofs.lemmas.Bool.{cond_both, eqb-true, le-ltb}
use Rattle.std.proofs.lemmas.Bool.Decides.{nat_tests}
use Rattle.lu_base.specs.declared.ids.Node.{Node}
use Rattle.lu_base.specs.declared.ids.Node.TheVariants.{Client, Target}
use Rattle.lu_base.specs.declared.ids.Stamp.{Stamp}
use Rattle.lu_base.specs.declared.ids.Who.{Who}
use Rattle.lu_base.specs.declared.ids.Cookie.{Cookie}
use Rattle.lu_base.specs.declared.locks.Lock.{Lock as TableLock}
use Rattle.lu_base.specs.declared.locks.Mode.{Mode}
use Rattle.lu_base.specs.declared.locks.Mode.TheVariants.{PR}
use Rattle.lu_base.specs.declared.locks.Resource.{Resource}
use Rattle.lu_spec_entries.specs.Carried.{Deed, Outcome}
use Rattle.lu_spec_entries.specs.Words as word
use Rattle.lu_spec_entries.specs.Words.{Line, line}
use Rattle.lu_spec_entries.specs.Concerns.{concerns, only}
use Rattle.lu_proof_lawful.specs.Covered.TargetStates.{server_of}
use Rattle.lu_proof_lawful.specs.Covered.Heads.{Head, IsHead}
use Rattle.lu_proof_lawful.proofs.Preconditions.Acts.{acts_sized, sized_bare}
use Rattle.lu_proof_lawful.proofs.Preconditions.Guards.{In, EntryOk}
use Rattle.lu_proof_lawful.proofs.Preconditions.StoryGuards.{EntryOf, GrantsOk}
use Rattle.lu_proof_lawful.proofs.Preconditions.Grown.{Grown}
use Rattle.lu_proof_lawful.proofs.Preconditions.Heeds.{AllHeed}
use Rattle.lu_proof_lawful.proofs.Preconditions.Lists.{self, turn}
use Rattle.lu_proof_lawful.proofs.Preconditions.PinsFit.{PinsFit}
use Rattle.lu_proof_lawful.proofs.Preconditions.Speaks.{AllSpeak}
use Rattle.lu_proof_lawful.proofs.Invariants.All.{holds}
use Rattle.lu_proof_lawful.proofs.Invariants.Brings.{act_brings, act_plain, txns_brings, txns_plain, answers_brings, answers_plain}
use Rattle.lu_proof_lawful.proofs.Invariants.Groups.{HoldsAt}
use Rattle.lu_proof_lawful.proofs.Invariants.TargetGroups.{Gave, HasSlot, Evicted, IsOver, Dead, Lapsed}
use Rattle.lu_proof_lawful.proofs.Invariants.Locks.{keeps_dead, keeps_lapsed}
use Rattle.lu_proof_lawful.proofs.Invariants.LocksStay.{one_of_four}
use Rattle.lu_proof_bytes.specs.Object.Words.{Lock, Entry, Grant, Promote, Close}
use Rattle.lu_proof_bytes.specs.Object.Folds.{WasGranted, IsGranted, nothing_lost, object}
use Rattle.lu_proof_bytes.specs.Object.Folds as says
use Rattle.lu_proof_bytes.specs.Object.Guards.{Allowed, AllAllowed}
use Rattle.lu_proof_bytes.proofs.Object.Locks.{promote_apart}
use Rattle.lu_proof_bytes.proofs.Object.World.{world}
use Rattle.lu_proof_objects.specs.Points.{is_write}
use Rattle.lu_proof_lawful.specs.Projection.Closes.{lost_by, kept_of, closes}
use Rattle.lu_proof_lawful.specs.Projection.Locks.{lock_of, given}
use Rattle.lu_proof_lawful.specs.Projection.Stories.{story}
use Rattle.lu_proof_lawful.proofs.Projection.Lookups.{given_was}
use Rattle.lu_proof_lawful.proofs.Refinement.ClosedCommits.{committed_of, committed_more, committed_is, next_commits}
use Rattle.lu_proof_lawful.proofs.Refinement.Covering.{given_line}
use Rattle.lu_proof_lawful.proofs.Refinement.LineCases.{IsOther, by_line}
use Rattle.lu_proof_lawful.proofs.Refinement.Place.{place}
use Rattle.lu_proof_lawful.proofs.Refinement.Stories.{all_tied}
use Rattle.lu_proof_lawful.proofs.Refinement.TiedTarget.{TargetBy}
use Rattle.lu_proof_lawful.proofs.Refinement.TargetActs.{AllName, gives_none}
use Rattle.lu_proof_lawful.proofs.Refinement.TargetLocks.{range_gives, wait_gives, promote_gives, queueing}
use Rattle.lu_proof_lawful.proofs.Refinement.Tied.{Tied}
use Rattle.lu_proof_lawful.proofs.Refinement.TellsStay.{SeesAbove, sees_start, sees_line, Loses, Matches, matches_now, matches_line}
use Rattle.lu_proof_lawful.proofs.Refinement.TellsStay.{matches_grant, matches_promote}

-- ---- one entry more, or none

-- a close loses nothing that is committed
abbrev pub OneMore : ℕ → List Entry → List Entry → Type 0
OneMore to h k = (k ≡ h) ⊎ ((x : Entry) × (k ≡ x ∷ h) × Loses x to)

other_loses : (x : Entry) (to : ℕ) → IsOther x → Loses x to
other_loses (Close b lost gone) to n = absurd n
other_loses _ to n = tt

spares : (committed boot : ℕ) (kept : List ℕ) (to n : ℕ) → committed ≡ to → n ≤ to → lost_by committed boot kept n ≡ false
spares committed boot kept to n same low = and_false (nat_lt committed n) _ (le-ltb committed n (omega (arith, same, low)))
  where
    and_false : (a b : Bool) → a ≡ false → (a && b) ≡ false
    and_false false b e = refl
    and_false true b e = absurd (cc)

pub one_more : (head : Head) (t : ℕ) (r : Resource) (l : Line) (past : List Line) → Grown head (l ∷ past)
    → OneMore (committed_of head.osts (only t past)) (story t r past) (story t r (l ∷ past))
one_more head t r l past g =
    by_line (λ (k : List Entry). OneMore to h k) t r past h l.at.node l.entry (record {
      same = inl refl;
      other = λ x n. inr (x, refl, other_loses x to n);
      flies = λ c f o here is live. inr (_, refl, tt);
      heard = λ c f p o here is live. inr (_, refl, tt);
      hold = λ c lock marked size seen here is live on. inr (_, refl, tt);
      tells = λ c change k here is live. inr (_, refl, tt);
      txn = λ d o here is. inr (_, refl, tt);
      commit = λ k batch here is. inr (_, refl, tt);
      close = λ o here is. inr (closes h o, refl, λ n low. spares (says.committed h) o.boot (kept_of o.kept) to n (exact o here is) low);
    })
  where
    h : List Entry
    h = story t r past

    to : ℕ
    to = committed_of head.osts (only t past)

    exact : (o : Outcome) → l.at.node ≡ Target t → l.entry ≡ word.Close o → says.committed h ≡ to
    exact o here is = ⊎_elim (λ e. e)
        (λ p.
        let on : concerns t l.at.node l.entry ≡ true = ap (λ (n : Node). concerns t n l.entry) here ∙ self t in
        let c = next_commits head (only t past) l (g.0.shows t on) p.1 in
        absurd (let z : word.Close o ≡ word.Commit c.0 c.1 = sym is ∙ c.2 in cc))
        (committed_is head t r past g.1)

-- ---- all of it at one line

-- what is known before a line and after it
pub record Around (head : Head) (t : ℕ) (r : Resource) (l : Line) (past : List Line) : Type 0 where
  pub some : 0 < t
  pub grown : Grown head (l ∷ past)
  pub all : AllAllowed (story t r past)
  pub allowed : AllAllowed (story t r (l ∷ past))
  pub tied : Tied head t r past
  pub tied_now : Tied head t r (l ∷ past)

pub all_see : (head : Head) (t : ℕ) (r : Resource) (past : List Line) → Grown head past → AllAllowed (story t r past)
    → SeesAbove (story t r past) (committed_of head.osts (only t past))
all_see head t r [] g all = sees_start 0
all_see head t r (l ∷ past) g all = by (one_more head t r l past g) (all_see head t r past g.1)
  where
    h : List Entry
    h = story t r past

    to : ℕ
    to = committed_of head.osts (only t past)

    new : ℕ
    new = committed_of head.osts (only t (l ∷ past))

    low : says.committed h ≤ new
    low = let more = committed_more head t l past g in ⊎_elim (λ e. omega (arith, e, more)) (λ p. let le = p.0 in omega (arith, le, more))
        (committed_is head t r past g.1)

    by : OneMore to h (story t r (l ∷ past)) → (AllAllowed h → SeesAbove h to) → SeesAbove (story t r (l ∷ past)) new
    by (inl e) old =
        let before = old (subst AllAllowed e all) in
        subst (λ (k : List Entry). SeesAbove k new) (sym e) (λ m s sn b i read n p c k above. before m s sn b i read n p c k
        (let more = committed_more head t l past g in omega (arith, above, more)))
    by (inr x) old =
        let there : AllAllowed (x.0 ∷ h) = subst AllAllowed x.1 all in
        subst (λ (k : List Entry). SeesAbove k new) (sym x.1) (sees_line h x.0 to new there.1 there.0 (old there.1)
        (committed_more head t l past g) low)

-- ---- old locks and new ones

-- what is over stays so
over_more : (head : Head) (t : ℕ) (l : Line) (past : List Line) → Grown head (l ∷ past) → (d : Deed) (k : TableLock)
    → Gave (only t past) d k → IsOver (only t past) d k → IsOver (only t (l ∷ past)) d k
over_more head t l past g d k gave over =
    cond_both (concerns t l.at.node l.entry) (l ∷ only t past) (only t past) (λ (p : List Line). IsOver p d k)
    (λ on. ⊎_elim
    (λ (x : Dead (only t past) d k). inl (keeps_dead head (only t past) l.at.stamp ((holds head past g.1).at t) l.at.node l.entry
    (g.0.of t on) d k gave x))
    (λ (x : Lapsed (only t past) d k). inr (keeps_lapsed head (only t past) l.at.stamp ((holds head past g.1).at t) l.at.node l.entry
    (g.0.of t on) d k gave x))
    over)
    (λ off. over)

granted_given : (h : List Entry) (m : Lock) → WasGranted h m → (k : Lock) × (given m.cookie h ≡ Some k)
granted_given [] m w = absurd w
granted_given (Grant q l s seen ∷ h) m w = if_given (nat_eq l.cookie m.cookie) refl
    (⊎_elim (λ (e : l ≡ m). inl (ap (λ (x : Lock). x.cookie) e)) (λ (v : WasGranted h m). inr (granted_given h m v)) w)
  where
    if_given : (b : Bool) → nat_eq l.cookie m.cookie ≡ b → (l.cookie ≡ m.cookie) ⊎ ((k : Lock) × (given m.cookie h ≡ Some k)) → (k : Lock)
        × ((if b then Some l else given m.cookie h) ≡ Some k)
    if_given true e o = (l, refl)
    if_given false e (inr o) = o
    if_given false e (inl same) = absurd (grind (arith, nat_tests, e, same))
granted_given (Promote l ∷ h) m w = if_given (nat_eq l.cookie m.cookie) refl
    (⊎_elim (λ (e : l ≡ m). inl (ap (λ (x : Lock). x.cookie) e)) (λ (v : WasGranted h m). inr (granted_given h m v)) w)
  where
    if_given : (b : Bool) → nat_eq l.cookie m.cookie ≡ b → (l.cookie ≡ m.cookie) ⊎ ((k : Lock) × (given m.cookie h ≡ Some k)) → (k : Lock)
        × ((if b then Some l else given m.cookie h) ≡ Some k)
    if_given true e o = (l, refl)
    if_given false e (inr o) = o
    if_given false e (inl same) = absurd (grind (arith, nat_tests, e, same))
granted_given (_ ∷ h) m w = granted_given h m w

cookie_is : (a b : Cookie) → a.0 ≡ b.0 → a ≡ b
cookie_is a b e = ap (λ (n : ℕ). record { 0 = n }) e

-- it comes with this entry
abbrev IsNew : Entry → Lock → Type 0
IsNew (Grant q l s seen) m = l ≡ m
IsNew (Promote l) m = l ≡ m
IsNew _ m = ⊥

was_or : (x : Entry) (h : List Entry) (m : Lock) → WasGranted (x ∷ h) m → WasGranted h m ⊎ IsNew x m
was_or (Grant q l s seen) h m (inl e) = inr e
was_or (Grant q l s seen) h m (inr w) = inl w
was_or (Promote l) h m (inl e) = inr e
was_or (Promote l) h m (inr w) = inl w
was_or _ h m w = inl w

new_matches : (h : List Entry) (x : Entry) (m : Lock) → AllAllowed h → Allowed h x → IsNew x m → Matches (object nothing_lost h) (x ∷ h) m
new_matches h (Grant q l s seen) m all ok e = subst (λ (k : Lock). Matches (object nothing_lost h) (Grant q l s seen ∷ h) k) e
    (matches_grant h q l s seen all ok)
new_matches h (Promote l) m all ok e = subst (λ (k : Lock). Matches (object nothing_lost h) (Promote l ∷ h) k) e
    (matches_promote h l all ok)
new_matches h _ m all ok e = absurd e

new_not : (h : List Entry) (x : Entry) (m : Lock) → IsNew x m → WasGranted h m → AllAllowed (x ∷ h) → ⊥
new_not h (Grant q l s seen) m e was all = absurd (let low = (world h all.1).numbers.tops m was in let fresh = all.0.new in let c =
    ap (λ (k : Lock). k.cookie) e in omega (arith, low, fresh, c))
new_not h (Promote l) m e was all = promote_apart h l (world h all.1).locks all.0 m was (ap (λ (k : Lock). k.cookie) e)
new_not h _ m e was all = e

-- the life to which a lock is given has a slot
own_slot : (head : Head) (P : List Line) (stamp : Stamp) (t : ℕ) (e : word.Entry) → 0 < t
    → (r : Resource) (h : List Entry) (tied : TargetBy head r P h) (asks : AllName r P h) → HoldsAt head P
    → HoldsAt head (line (turn stamp (Target t)) e ∷ P)
    → EntryOf head P (turn stamp (Target t)) (Target t) e → (d : Deed) (l : TableLock) → Gave (line (turn stamp (Target t)) e ∷ P) d l
    → Gave P d l ⊎ HasSlot head.clients P l.ask.who
own_slot head P stamp t (word.Act x) high r h tied asks all now of d l gave =
    inl ((gives_none P (line (turn stamp (Target t)) (word.Act x) ∷ P) x (λ y a. inr a) (λ y a. a) (λ k p. p) (λ k p. p)
    (act_brings head.osts P (turn stamp (Target t)) t x of ∙ sized_bare head.osts P (turn stamp (Target t)) x
    (acts_sized head.osts P (turn stamp (Target t)) t x high of)) (λ k. act_plain head.osts P (turn stamp (Target t)) t x k of)).back d
    l gave)
own_slot head P stamp t (word.Answers x) high r h tied asks all now of d l gave =
    inl ((gives_none P (line (turn stamp (Target t)) (word.Answers x) ∷ P) x (λ y a. inr a) (λ y a. a) (λ k p. p) (λ k p. p)
    (answers_brings head.osts P (turn stamp (Target t)) t x of.1) (λ k. answers_plain head.osts P (turn stamp (Target t)) t x k of.1)).back
    d l gave)
own_slot head P stamp t (word.Txn x) high r h tied asks all now of d l gave =
    inl ((gives_none P (line (turn stamp (Target t)) (word.Txn x) ∷ P) x (λ y a. inr a) (λ y a. a) (λ k p. p) (λ k p. p)
    (txns_brings head.osts P (turn stamp (Target t)) t x of) (λ k. txns_plain head.osts P (turn stamp (Target t)) t x k of)).back d l gave)
own_slot head P stamp t (word.Wait lock x) high r h tied asks all now of d l gave =
    inl ((wait_gives head r P h tied all asks stamp t high lock x of.1).back d l gave)
own_slot head P stamp t (word.Grant lock (Some x)) high r h tied asks all now of d l gave = by of
  where
    by : GrantsOk head.osts P (turn stamp (Target t)) t lock x → Gave P d l ⊎ HasSlot head.clients P l.ask.who
    by (inl k) = absurd (let zero = k.0 in omega (arith, zero, high))
    by (inr k) = ⊎_elim
        (λ (p : (x ≡ d) × (lock ≡ l)). inr (subst (λ (w : Who). HasSlot head.clients P w)
        (sym (ap (λ (y : TableLock). y.ask.who) k.1.of_lock) ∙ ap (λ (y : TableLock). y.ask.who) p.1)
        (all.done.waits k.1.request k.1.waits).has))
        (λ (b : Gave P d l). inl b)
        ((range_gives head r P h tied all asks stamp t high lock x k.1 now).back d l gave)
own_slot head P stamp t (word.Grant lock None) high r h tied asks all now of d l gave = ⊎_elim
    (λ (p : (_ ≡ d) × (lock ≡ l)). inr (subst (λ (w : Who). HasSlot head.clients P w)
    (sym (ap (λ (y : TableLock). y.ask.who) of.1.of_lock) ∙ ap (λ (y : TableLock). y.ask.who) p.1)
    (queueing head r P h tied all asks stamp t high lock of.1 now).has))
    (λ (b : Gave P d l). inl b)
    ((promote_gives head r P h tied all asks stamp t high lock of.1 now).back d l gave)
own_slot head P stamp t e high r h tied asks all now of d l gave = inl gave

new_slot : (head : Head) (t : ℕ) (r : Resource) (l : Line) (past : List Line) → Around head t r l past → (d : Deed) (k : TableLock)
    → Gave (only t (l ∷ past)) d k → Gave (only t past) d k ⊎ HasSlot head.clients (only t past) k.ask.who
new_slot head t r l past a d k gave =
    cond_both (concerns t l.at.node l.entry) (l ∷ only t past) (only t past)
    (λ (p : List Line). HoldsAt head p → Gave p d k → Gave (only t past) d k ⊎ HasSlot head.clients (only t past) k.ask.who)
    (λ on now v. by l.at.node l.entry on (a.grown.0.of t on) a.grown.0.ok now v)
    (λ off now v. inl v)
    ((holds head (l ∷ past) a.grown).at t) gave
  where
    P : List Line
    P = only t past

    client : (c : ℕ) (e : word.Entry) → EntryOk past (turn l.at.stamp (Client c)) (Client c) e
        → Gave (line (turn l.at.stamp (Client c)) e ∷ P) d k → Gave P d k
    client c (word.Act x) ok v = absurd ok
    client c (word.Txn x) ok v = absurd ok
    client c (word.Grant lock asked) ok v = absurd ok
    client c (word.Wait lock x) ok v = absurd ok
    client c (word.Answers x) ok v = absurd ok
    client c _ ok v = v

    by : (node : Node) (e : word.Entry) → concerns t node e ≡ true → EntryOf head P (turn l.at.stamp node) node e
        → EntryOk past (turn l.at.stamp node) node e → HoldsAt head (line (turn l.at.stamp node) e ∷ P)
        → Gave (line (turn l.at.stamp node) e ∷ P) d k → Gave P d k ⊎ HasSlot head.clients P k.ask.who
    by (Client c) e on of ok now v = inl (client c e ok v)
    by (Target u) e on of ok now v =
        let same : t ≡ u = eqb-true t u on in
        own_slot head P l.at.stamp u e (let high = a.some in omega (arith, high, same)) r (story t r past) a.tied.target
        (λ from to q w stays i. (a.tied.object.asks from to q w stays i).lock) ((holds head past a.grown.1).at t) now of d k v

-- a lock of the story that was granted before was given before
old_gave : (head : Head) (t : ℕ) (r : Resource) (l : Line) (past : List Line) → Around head t r l past → (d : Deed) (k : TableLock)
    → Gave (only t (l ∷ past)) d k → WasGranted (story t r past) (lock_of k) → Gave (only t past) d k
old_gave head t r l past a d k gave was =
    let g = granted_given (story t r past) (lock_of k) was in
    let on = a.tied.target.given k.cookie.0 g.0 g.1 in
    let before = on.0 in
    let cookie : before.1.cookie.0 ≡ k.cookie.0 = ap (λ (x : Lock). x.cookie) before.4 ∙ on.1 in
    let same = ((holds head (l ∷ past) a.grown).at t).locks.once before.0 d before.1 k (given_line t l past before.0 before.1 before.2) gave
    (cookie_is before.1.cookie k.cookie cookie) in
    subst (λ (y : TableLock). Gave (only t past) d y) same.1 (subst (λ (x : Deed). Gave (only t past) x before.1) same.0 before.2)

-- ---- all pairs

-- a lock to read of the object that isn't over
pub record Reads (r : Resource) (past : List Line) (d : Deed) (l : TableLock) : Type 0 where
  pub gave : Gave past d l
  pub on : l.resource ≡ r
  pub mode : l.ask.mode ≡ PR
  pub there : IsOver past d l → ⊥

abbrev pub Pairs : Resource → List Line → List Entry → Type 0
Pairs r past h = (d e : Deed) (l k : TableLock) → Reads r past d l → Reads r past e k → l.ask.who ≡ k.ask.who → (b : ℕ → Option ℕ)
    × Matches b h (lock_of l) × Matches b h (lock_of k)

reads_not : (l : TableLock) → l.ask.mode ≡ PR → (lock_of l).write ≡ false
reads_not l e = ap (λ (m : Mode). is_write m) e

pairs_line : (head : Head) (t : ℕ) (r : Resource) (l : Line) (past : List Line) → Around head t r l past
    → Pairs r (only t past) (story t r past) → Pairs r (only t (l ∷ past)) (story t r (l ∷ past))
pairs_line head t r l past a old d e m k one other life = by (one_more head t r l past a.grown)
  where
    h : List Entry
    h = story t r past

    before : (x : Deed) (y : TableLock) → Reads r (only t (l ∷ past)) x y → WasGranted h (lock_of y) → Reads r (only t past) x y
    before x y p was =
        let gave = old_gave head t r l past a x y p.gave was in
        record { gave = gave; on = p.on; mode = p.mode; there = λ over. p.there (over_more head t l past a.grown x y gave over) }

    was : (x : Deed) (y : TableLock) → Reads r (only t (l ∷ past)) x y → WasGranted (story t r (l ∷ past)) (lock_of y)
    was x y p = (given_was y.cookie.0 (story t r (l ∷ past)) (lock_of y) (a.tied_now.target.gives x y p.gave p.on)).0

    -- while a lock of its life is given, an older one is granted
    granted : (x : Deed) (y : TableLock) → Reads r (only t past) x y → HasSlot head.clients (only t past) y.ask.who
        → IsGranted h (lock_of y)
    granted x y p has =
        let f = (holds head past a.grown.1).at t in
        one_of_four
        (λ (i : In y (server_of head.osts (only t past)).granted). a.tied.target.grants y i p.on)
        (λ (i : Dead (only t past) x y). absurd (p.there (inl i)))
        (λ (i : Evicted (only t past) x.reply.who). absurd (let low =
        f.lives.apart y.ask.who x.reply.who has i (ap (λ (w : Who). w.client) (f.locks.whose x y p.gave)) in let same =
        ap (λ (w : Who). w.life) (f.locks.whose x y p.gave) in omega (arith, low, same)))
        (λ (i : Lapsed (only t past) x y). absurd (p.there (inr i)))
        (f.locks.alive x y p.gave)

    by : OneMore (committed_of head.osts (only t past)) h (story t r (l ∷ past)) → (b : ℕ → Option ℕ)
        × Matches b (story t r (l ∷ past)) (lock_of m) × Matches b (story t r (l ∷ past)) (lock_of k)
    by (inl same) =
        subst (λ (s : List Entry). (b : ℕ → Option ℕ) × Matches b s (lock_of m) × Matches b s (lock_of k)) (sym same)
        (old d e m k (before d m one (subst (λ (s : List Entry). WasGranted s (lock_of m)) same (was d m one)))
        (before e k other (subst (λ (s : List Entry). WasGranted s (lock_of k)) same (was e k other))) life)
    by (inr more) = subst (λ (s : List Entry). (b : ℕ → Option ℕ) × Matches b s (lock_of m) × Matches b s (lock_of k)) (sym more.1)
        (go (was_or x h (lock_of m) (subst (λ (s : List Entry). WasGranted s (lock_of m)) more.1 (was d m one)))
        (was_or x h (lock_of k) (subst (λ (s : List Entry). WasGranted s (lock_of k)) more.1 (was e k other))))
      where
        x : Entry
        x = more.0

        there : AllAllowed (x ∷ h)
        there = subst AllAllowed more.1 a.allowed

        later : (b : ℕ → Option ℕ) (y : TableLock) → WasGranted h (lock_of y) → y.ask.mode ≡ PR → Matches b h (lock_of y)
            → Matches b (x ∷ h) (lock_of y)
        later b y w mode q = matches_line b h x (lock_of y) (committed_of head.osts (only t past)) there.1 there.0
            (all_see head t r past a.grown.1 a.all) more.2 w (reads_not y mode) q

        -- an older one beside a new one
        beside : (c f : Deed) (y z : TableLock) → Reads r (only t (l ∷ past)) c y → WasGranted h (lock_of y)
            → Reads r (only t (l ∷ past)) f z → IsNew x (lock_of z) → y.ask.who ≡ z.ask.who
            → Matches (object nothing_lost h) (x ∷ h) (lock_of y)
        beside c f y z p w q new same =
            let was_there = before c y p w in
            let alone = old c c y y was_there was_there refl in
            let has = ⊎_elim
            (λ (v : Gave (only t past) f z). absurd (new_not h x (lock_of z) new
            (given_was z.cookie.0 h (lock_of z) (a.tied.target.gives f z v q.on)).0 there))
            (λ (s : HasSlot head.clients (only t past) z.ask.who). s)
            (new_slot head t r l past a f z q.gave) in
            let i = granted c y was_there (subst (λ (v : Who). HasSlot head.clients (only t past) v) (sym same) has) in
            later (object nothing_lost h) y w p.mode (matches_now alone.0 h (lock_of y) i alone.1)

        go : WasGranted h (lock_of m) ⊎ IsNew x (lock_of m) → WasGranted h (lock_of k) ⊎ IsNew x (lock_of k) → (b : ℕ → Option ℕ)
            × Matches b (x ∷ h) (lock_of m) × Matches b (x ∷ h) (lock_of k)
        go (inl w) (inl v) =
            let pair = old d e m k (before d m one w) (before e k other v) life in
            (pair.0, later pair.0 m w one.mode pair.1, later pair.0 k v other.mode pair.2)
        go (inl w) (inr v) = (object nothing_lost h, beside d e m k one w other v life, new_matches h x (lock_of k) there.1 there.0 v)
        go (inr w) (inl v) = (object nothing_lost h, new_matches h x (lock_of m) there.1 there.0 w, beside e d k m other v one w (sym life))
        go (inr w) (inr v) = (
          object nothing_lost h,
          new_matches h x (lock_of m) there.1 there.0 w,
          new_matches h x (lock_of k) there.1 there.0 v,
        )

pub all_pairs : (head : Head) → IsHead head → (past : List Line) → Grown head past → PinsFit past → AllHeed past → AllSpeak past
    → (t : ℕ) (r : Resource) → 0 < t → t ≡ place head.osts r → Pairs r (only t past) (story t r past)
all_pairs head good [] g fit heeds speaks t r some lies = λ d e l k one other life. absurd one.gave.0
all_pairs head good (l ∷ past) g fit heeds speaks t r some lies =
    let before = all_tied head good past g.1 fit.1 heeds.1 speaks.1 t r some lies in
    let after = all_tied head good (l ∷ past) g fit heeds speaks t r some lies in
    pairs_line head t r l past (record { some = some; grown = g; all = before.0; allowed = after.0; tied = before.1; tied_now = after.1 })
    (all_pairs head good past g.1 fit.1 heeds.1 speaks.1 t r some lies)
