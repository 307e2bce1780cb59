-- Lists that the story of a target speaks of: a log in rising number, what all of a list is, the locks of an act.
use Rattle.std.proofs.Common.{◌≡◌, ℕ, ◌+◌, ◌<◌, ◌≤◌, Bool, true, false, List, [], ◌∷◌, ◌++◌, Some, ◌⊎◌, inl, inr, ⊎_elim, refl, sym, subst}
use Rattle.std.proofs.Common.{ap, ◌∙◌, arith}
use Rattle.std.specs.Prelude.{nat_lt, max, not}
use Rattle.std.specs.List.{filter}
use Rattle.std.proofs.lemmas.Bool.{cond_both, cond-true, cond-false, ltb-true, lt-ltb}
use Rattle.std.proofs.lemmas.Bool.Decides.{nat_tests}
use Rattle.lu_base.specs.declared.ids.Who.{Who}
use Rattle.lu_base.specs.declared.locks.Lock.{Lock}
use Rattle.lu_msg.specs.declared.messages.Request.{Request as RequestOf}
use Rattle.lu_part.specs.declared.parts.Want.{Want}
use Rattle.lu_spec_entries.specs.Carried.{Deed}
use Rattle.lu_spec_entries.specs.Words.{Grant, Line, line}
use Rattle.lu_spec_target.specs.Leaving.{last_of}
use Rattle.lu_spec_target.specs.Lives.{is_life, with_life, without_lives}
use Rattle.lu_spec_target.specs.Locks.{with_lock, without_lock}
use Rattle.lu_spec_target.specs.Names.{locks_from}
use Rattle.lu_proof_lawful.specs.Covered.TargetStates.{Server, none, server_of, server_after}
use Rattle.lu_proof_lawful.proofs.Preconditions.Guards.{In}
use Rattle.lu_proof_lawful.proofs.Preconditions.StoryGuards.{GrantOk}
use Rattle.lu_proof_lawful.proofs.Preconditions.Lists.{in_append, in_filter}
use Rattle.lu_proof_lawful.proofs.Preconditions.LifeLists.{life_put_more, life_stays, gone_not}
pub use Rattle.lu_proof_lawful.proofs.Preconditions.QueueLists.{in_with, in_with_all}

-- ---- a log in rising number, between two bounds

abbrev pub Logged : ℕ → List Deed → ℕ → Type 0
Logged low [] high = low ≤ high
Logged low (d ∷ log) high = (low < d.reply.txn.0) × Logged d.reply.txn.0 log high

logged_less : (low from : ℕ) (log : List Deed) (high : ℕ) → low ≤ from → Logged from log high → Logged low log high
logged_less low from [] high le g = omega (arith, le, g)
logged_less low from (d ∷ log) high le g = (let more = g.0 in omega (arith, le, more), g.1)

pub logged_more : (low : ℕ) (log : List Deed) (high next : ℕ) → high ≤ next → Logged low log high → Logged low log next
logged_more low [] high next le g = omega (arith, le, g)
logged_more low (d ∷ log) high next le g = (g.0, logged_more d.reply.txn.0 log high next le g.1)

pub logged_append : (low : ℕ) (log : List Deed) (high next : ℕ) (d : Deed) → Logged low log high → high < d.reply.txn.0
    → d.reply.txn.0 ≤ next → Logged low (log ++ d ∷ []) next
logged_append low [] high next d g le top = (omega (arith, g, le), top)
logged_append low (e ∷ log) high next d g le top = (g.0, logged_append e.reply.txn.0 log high next d g.1 le top)

pub logged_top : (low : ℕ) (log : List Deed) (high : ℕ) → Logged low log high → low ≤ high
logged_top low [] high g = g
logged_top low (d ∷ log) high g = let one = g.0 in let two = logged_top d.reply.txn.0 log high g.1 in omega (arith, one, two)

-- all of it is above the lower one
pub logged_above : (low : ℕ) (log : List Deed) (high : ℕ) (d : Deed) → Logged low log high → In d log → low < d.reply.txn.0
logged_above low [] high d g i = absurd i
logged_above low (e ∷ log) high d g (inl q) = subst (λ (x : Deed). low < x.reply.txn.0) q g.0
logged_above low (e ∷ log) high d g (inr i) = let one = g.0 in let two = logged_above e.reply.txn.0 log high d g.1 i
    in omega (arith, one, two)

-- none of it is above the upper one
pub logged_under : (low : ℕ) (log : List Deed) (high : ℕ) (d : Deed) → Logged low log high → In d log → d.reply.txn.0 ≤ high
logged_under low [] high d g i = absurd i
logged_under low (e ∷ log) high d g (inl q) = let top = logged_top e.reply.txn.0 log high g.1 in let same : e.reply.txn.0 ≡ d.reply.txn.0 =
    ap (λ (x : Deed). x.reply.txn.0) q in omega (arith, top, same)
logged_under low (e ∷ log) high d g (inr i) = logged_under e.reply.txn.0 log high d g.1 i

logged_filter : (f : Deed → Bool) (low : ℕ) (log : List Deed) (high : ℕ) → Logged low log high → Logged low (filter f log) high
logged_filter f low [] high g = g
logged_filter f low (d ∷ log) high g =
    let le = g.0 in
    cond_both (f d) (d ∷ filter f log) (filter f log) (λ (xs : List Deed). Logged low xs high)
    (λ t. (g.0, logged_filter f d.reply.txn.0 log high g.1))
    (λ t. logged_filter f low log high (logged_less low d.reply.txn.0 log high (omega (arith, le)) g.1))

-- what of it is above a number is between that and the upper one
pub logged_cut : (to low : ℕ) (log : List Deed) (high : ℕ) → to ≤ high → Logged low log high
    → Logged to (filter (λ (d : Deed). nat_lt to d.reply.txn.0) log) high
logged_cut to low [] high le g = le
logged_cut to low (d ∷ log) high le g =
    let above : Deed → Bool = λ (x : Deed). nat_lt to x.reply.txn.0 in
    cond_both (nat_lt to d.reply.txn.0) (d ∷ filter above log) (filter above log) (λ (xs : List Deed). Logged to xs high)
    (λ t. (ltb-true to d.reply.txn.0 t, logged_filter above d.reply.txn.0 log high g.1))
    (λ t. logged_cut to d.reply.txn.0 log high le g.1)

last_above : (low : ℕ) (log : List Deed) (high : ℕ) → Logged low log high → low ≤ last_of log low
last_above low [] high g = omega arith
last_above low (d ∷ log) high g = let one = g.0 in let two = last_above d.reply.txn.0 log high g.1 in omega (arith, one, two)

-- nothing of it is above its last
none_above : (to low : ℕ) (log : List Deed) (high : ℕ) → Logged low log high → last_of log low ≤ to
    → filter (λ (d : Deed). nat_lt to d.reply.txn.0) log ≡ []
none_above to low [] high g le = refl
none_above to low (d ∷ log) high g le =
    let top = last_above d.reply.txn.0 log high g.1 in
    let above : nat_lt to d.reply.txn.0 ≡ false = grind (arith, nat_tests, top, le) in
    cond-false (nat_lt to d.reply.txn.0) (d ∷ filter (λ (x : Deed). nat_lt to x.reply.txn.0) log)
    (filter (λ (x : Deed). nat_lt to x.reply.txn.0) log) above
    ∙ none_above to d.reply.txn.0 log high g.1 le

-- a commit of all of it leaves nothing
pub all_logged : (log : List Deed) (committed high : ℕ) → Logged committed log high
    → filter (λ (d : Deed). nat_lt (last_of log committed) d.reply.txn.0) log ≡ []
all_logged log committed high g = none_above (last_of log committed) committed log high g (omega arith)

-- its first ones
abbrev pub IsFirst : List Deed → List Deed → Type 0
IsFirst [] log = Unit {0}
IsFirst (d ∷ deeds) [] = ⊥
IsFirst (d ∷ deeds) (e ∷ log) = (e ≡ d) × IsFirst deeds log

pub first_in : (deeds log : List Deed) (d : Deed) → IsFirst deeds log → In d deeds → In d log
first_in [] log d f i = absurd i
first_in (x ∷ deeds) [] d f i = absurd f
first_in (x ∷ deeds) (e ∷ log) d f (inl q) = inl (f.0 ∙ q)
first_in (x ∷ deeds) (e ∷ log) d f (inr i) = inr (first_in deeds log d f.1 i)

pub first_all : (log : List Deed) → IsFirst log log
first_all [] = tt
first_all (d ∷ log) = (refl, first_all log)

last_least : (low : ℕ) (deeds log : List Deed) (high : ℕ) → Logged low log high → IsFirst deeds log → low ≤ last_of deeds low
last_least low [] log high g f = omega arith
last_least low (x ∷ deeds) [] high g f = absurd f
last_least low (x ∷ deeds) (e ∷ log) high g f =
    let one = g.0 in
    let same : e.reply.txn.0 ≡ x.reply.txn.0 = ap (λ (d : Deed). d.reply.txn.0) f.0 in
    let two = last_least x.reply.txn.0 deeds log high (subst (λ (n : ℕ). Logged n log high) same g.1) f.1 in
    omega (arith, one, two, same)

-- those up to the last of its first ones are these
pub first_upto : (low : ℕ) (deeds log : List Deed) (high : ℕ) → Logged low log high → IsFirst deeds log
    → filter (λ (d : Deed). not (nat_lt (last_of deeds low) d.reply.txn.0)) log ≡ deeds
first_upto low [] [] high g f = refl
first_upto low [] (e ∷ log) high g f =
    let one = g.0 in
    let above : not (nat_lt low e.reply.txn.0) ≡ false = ap not (lt-ltb low e.reply.txn.0 one) in
    let upto : Deed → Bool = λ (d : Deed). not (nat_lt low d.reply.txn.0) in
    cond-false (upto e) (e ∷ filter upto log) (filter upto log) above
    ∙ first_upto low [] log high (logged_less low e.reply.txn.0 log high (omega (arith, one)) g.1) tt
first_upto low (x ∷ deeds) [] high g f = absurd f
first_upto low (x ∷ deeds) (e ∷ log) high g f =
    let same : e.reply.txn.0 ≡ x.reply.txn.0 = ap (λ (d : Deed). d.reply.txn.0) f.0 in
    let more = subst (λ (n : ℕ). Logged n log high) same g.1 in
    let least = last_least x.reply.txn.0 deeds log high more f.1 in
    let to : ℕ = last_of deeds x.reply.txn.0 in
    let upto : Deed → Bool = λ (d : Deed). not (nat_lt to d.reply.txn.0) in
    let kept : nat_lt to e.reply.txn.0 ≡ false = grind (arith, nat_tests, least, same) in
    cond-true (upto e) (e ∷ filter upto log) (filter upto log) (ap not kept)
    ∙ ap (λ (d : Deed). d ∷ filter upto log) f.0 ∙ ap (λ (ds : List Deed). x ∷ ds) (first_upto x.reply.txn.0 deeds log high more f.1)

-- ---- all of a list is of lives with a slot

abbrev pub Belongs : {A : Type 0} → (A → Who) → List A → List Who → Type 0
Belongs {A} f xs lives = (x : A) → In x xs → is_life (f x) lives ≡ true

pub belongs_filter : {A : Type 0} (f : A → Who) (g : A → Bool) (xs : List A) (lives : List Who) → Belongs f xs lives
    → Belongs f (filter g xs) lives
belongs_filter f g xs lives h x i = h x (in_filter g x xs i).0

pub belongs_one : {A : Type 0} (f : A → Who) (xs : List A) (y : A) (lives : List Who) → Belongs f xs lives → is_life (f y) lives ≡ true
    → Belongs f (xs ++ y ∷ []) lives
belongs_one {A} f xs y lives h own x i = ⊎_elim (λ (j : In x xs). h x j) (λ (j : In x (y ∷ [])). one j) (in_append x xs (y ∷ []) i)
  where
    one : In x (y ∷ []) → is_life (f x) lives ≡ true
    one (inl e) = subst (λ (z : A). is_life (f z) lives ≡ true) e own
    one (inr j) = absurd j

pub belongs_evict : {A : Type 0} (f : A → Who) (xs : List A) (w : Who) (lives : List Who) → Belongs f xs lives
    → Belongs f (filter (λ (x : A). not (is_life (f x) (w ∷ []))) xs) (without_lives (w ∷ []) lives)
belongs_evict {A} f xs w lives h x i = let p = in_filter (λ (y : A). not (is_life (f y) (w ∷ []))) x xs i
    in life_stays (f x) w lives (gone_not (f x) w p.1) (h x p.0)

pub belongs_join : {A : Type 0} (f : A → Who) (xs : List A) (w : Who) (lives : List Who) → Belongs f xs lives
    → Belongs f xs (with_life w lives)
belongs_join f xs w lives h x i = life_put_more (f x) w lives (h x i)

-- ---- the locks of an act

pub from_who : (k : Lock) (cookie : ℕ) (who : Who) (wants : List Want) → In k (locks_from cookie who wants) → k.ask.who ≡ who
from_who k cookie who [] i = absurd i
from_who k cookie who (want ∷ wants) (inl e) = ap (λ (l : Lock). l.ask.who) (sym e)
from_who k cookie who (want ∷ wants) (inr i) = from_who k (cookie + 1) who wants i

-- a line that shows a lock of what was just done leaves all as it is
pub grant_still : (osts : ℕ) (past : List Line) (lock : Lock) (d : Deed) → GrantOk osts past lock d
    → server_after osts (server_of osts past) (Grant lock (Some d)) ≡ server_of osts past
grant_still osts past lock d ok =
    let s : Server = server_of osts past in
    ap (λ (ws : List RequestOf). record s {
      waiting = ws;
      granted = with_lock lock s.granted;
      cookie = max s.cookie lock.cookie.0;
      queued =
          without_lock lock s.queued;
    }) ok.waiting
    ∙ ap (λ (ls : List Lock). record s { granted = ls; cookie = max s.cookie lock.cookie.0; queued = without_lock lock s.queued })
    ok.granted ∙ ap (λ (n : ℕ). record s { cookie = n; queued = without_lock lock s.queued }) ok.cookie
    ∙ ap (λ (ls : List Lock). record s { queued = ls }) ok.queued
