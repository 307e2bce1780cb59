-- What a line does, and that each line of a grown past is allowed at each target that it concerns.
use Rattle.std.proofs.Common.{◌≡◌, ℕ, Bool, true, false, List, [], ◌∷◌, ◌++◌, Option, Some, None, ◌⊎◌, inl, inr, ⊎_elim, refl, sym, subst}
use Rattle.std.proofs.Common.{ap, ◌∙◌, arith}
use Rattle.std.specs.Prelude.{nat_eq, if◌then◌else◌}
use Rattle.std.proofs.lemmas.Bool.{cond_both}
use Rattle.lu_base.specs.declared.ids.At.{At}
use Rattle.lu_base.specs.declared.ids.Node.{Node}
use Rattle.lu_base.specs.declared.ids.Node.TheVariants.{Client, Target}
use Rattle.lu_base.specs.declared.ids.Stamp.{Stamp}
use Rattle.lu_base.specs.declared.ids.Who.{Who}
use Rattle.lu_base.specs.declared.locks.Lock.{Lock}
use Rattle.lu_msg.specs.declared.messages.Message.TheVariants as message
use Rattle.lu_msg.specs.declared.messages.Request.{Request as RequestOf}
use Rattle.lu_spec_entries.specs.Carried.{Deed, Flight}
use Rattle.lu_spec_entries.specs.Words.{Entry, Life, Flies, Heard, Act, Txn, Grant, Wait, Answers, Ends, Line, line, same_life}
use Rattle.lu_spec_entries.specs.Concerns.{concerns, only}
use Rattle.lu_spec_target.specs.Glimpses.{by_holder}
use Rattle.lu_proof_lawful.specs.Covered.ClientStates.{life_of, is_own}
use Rattle.lu_proof_lawful.specs.Covered.Heads.{Head}
use Rattle.lu_proof_lawful.proofs.Preconditions.Guards.{Was, Did, OwesAsked, Owes, EntryOk}
use Rattle.lu_proof_lawful.proofs.Preconditions.StoryGuards.{GrantsOk, TookReport, EndedBy, ReportedOk, EntryOf}
use Rattle.lu_proof_lawful.proofs.Preconditions.Acts.{acted, range_acted, wait_acted, Responded, responded, made}
use Rattle.lu_proof_lawful.proofs.Preconditions.Grown.{Grown}
use Rattle.lu_proof_lawful.proofs.Preconditions.Lists.{self}
use Rattle.lu_proof_lawful.proofs.Preconditions.ClientLines.{some_is}
use Rattle.lu_proof_lawful.proofs.Invariants.Groups.{turn}
use Rattle.lu_proof_lawful.proofs.Invariants.TargetGroups.{Acted, Flew, Hears}

-- ---- what an entry does: a lock that is granted comes with what was done for it, be it then or before

abbrev pub DoneBy : Entry → Deed → Type 0
DoneBy (Act e) d = e ≡ d
DoneBy (Txn e) d = e ≡ d
DoneBy (Grant lock asked) d = asked ≡ Some d
DoneBy (Wait lock e) d = e ≡ d
DoneBy (Answers e) d = e ≡ d
DoneBy _ d = ⊥

pub acted_line : (at : At) (e : Entry) (past : List Line) (d : Deed) → Acted (line at e ∷ past) d → DoneBy e d ⊎ Acted past d
acted_line at (Act e) past d a = a
acted_line at (Txn e) past d a = a
acted_line at (Grant lock asked) past d a = a
acted_line at (Wait lock e) past d a = a
acted_line at (Answers e) past d a = a
acted_line at e past d a = inr a

pub acted_here : (at : At) (e : Entry) (past : List Line) (d : Deed) → DoneBy e d → Acted (line at e ∷ past) d
acted_here at (Act e) past d q = inl q
acted_here at (Txn e) past d q = inl q
acted_here at (Grant lock asked) past d q = inl q
acted_here at (Wait lock e) past d q = inl q
acted_here at (Answers e) past d q = inl q
acted_here at e past d q = absurd q

pub acted_more : (at : At) (e : Entry) (past : List Line) (d : Deed) → Acted past d → Acted (line at e ∷ past) d
acted_more at (Act e) past d a = inr a
acted_more at (Txn e) past d a = inr a
acted_more at (Grant lock asked) past d a = inr a
acted_more at (Wait lock e) past d a = inr a
acted_more at (Answers e) past d a = inr a
acted_more at e past d a = a

-- of what concerns one target
pub only_acted : (t : ℕ) (l : Line) (past : List Line) (d : Deed) → Acted (only t (l ∷ past)) d → DoneBy l.entry d ⊎ Acted (only t past) d
only_acted t l past d =
    cond_both (concerns t l.at.node l.entry) (l ∷ only t past) (only t past)
    (λ (p : List Line). Acted p d → DoneBy l.entry d ⊎ Acted (only t past) d)
    (λ q a. acted_line l.at l.entry (only t past) d a)
    (λ q a. inr a)

pub only_more : (t : ℕ) (l : Line) (past : List Line) (d : Deed) → Acted (only t past) d → Acted (only t (l ∷ past)) d
only_more t l past d a =
    cond_both (concerns t l.at.node l.entry) (l ∷ only t past) (only t past) (λ (p : List Line). Acted p d)
    (λ q. acted_more l.at l.entry (only t past) d a)
    (λ q. a)

pub acted_whole : (t : ℕ) (past : List Line) (d : Deed) → Acted (only t past) d → Acted past d
acted_whole t [] d a = a
acted_whole t (l ∷ past) d a =
    ⊎_elim
    (λ (p : DoneBy l.entry d). acted_here l.at l.entry past d p)
    (λ (p : Acted (only t past) d). acted_more l.at l.entry past d (acted_whole t past d p))
    (only_acted t l past d a)

-- ---- what was heard

pub hears_more : (l : Line) (past : List Line) (who : Who) (x : ℕ) → Hears past who x → Hears (l ∷ past) who x
hears_more l past who x a = by l.entry
  where
    by : (e : Entry) → Hears (line l.at e ∷ past) who x
    by (Heard t f r) = inr a
    by _ = a

pub hears_only : (l : Line) (past : List Line) (who : Who) (x : ℕ) → Hears (only 0 past) who x → Hears (only 0 (l ∷ past)) who x
hears_only l past who x a = cond_both (concerns 0 l.at.node l.entry) (l ∷ only 0 past) (only 0 past) (λ (p : List Line). Hears p who x)
    (λ t. hears_more l (only 0 past) who x a) (λ t. a)

-- ---- what a line is allowed by, at each target that it concerns

abbrev pub AtEach : Head → List Line → At → Node → Entry → Type 0
AtEach head past at node e = (t : ℕ) → concerns t node e ≡ true → EntryOf head (only t past) at node e

-- the locks of what was just done are shown in the same turn
owed_turn : (past : List Line) (at : At) (lock : Lock) (asked : Deed) (d : Deed) → Did past d → Owes past at (Grant lock (Some asked))
    → d.reply.at ≡ at
owed_turn [] at lock asked d i o = absurd i
owed_turn (l ∷ past) at lock asked d i o = by l.entry i o
  where
    same : (k : Lock) (given : Option Deed) → given ≡ Some d → OwesAsked (l.at ≡ at) at k given (Grant lock (Some asked)) → d.reply.at ≡ at
    same k None e o = absurd (cc)
    same k (Some x) e o = subst (λ (v : Deed). v.reply.at ≡ at) (some_is x d e) o

    by : (e : Entry) → Did (line l.at e ∷ past) d → Owes (line l.at e ∷ past) at (Grant lock (Some asked)) → d.reply.at ≡ at
    by (Act e) i o = subst (λ (v : Deed). v.reply.at ≡ at) i o
    by (Txn e) i o = subst (λ (v : Deed). v.reply.at ≡ at) i o
    by (Grant k given) i o = same k given i o
    by (Wait k e) i o = subst (λ (v : Deed). v.reply.at ≡ at) i o
    by (Answers e) i o = absurd o.1
    by e i o = absurd i

-- in this turn; or the turn is that in which the holder of a lock said the size
abbrev pub DoneIn : Head → List Line → Stamp → ℕ → Deed → Type 0
DoneIn head past stamp t d = (d.reply.at ≡ turn stamp (Target t)) ⊎ ReportedOk head.osts (only t past) (turn stamp (Target t)) t d

-- what is done is done by a target
pub done_here : (head : Head) (past : List Line) (stamp : Stamp) (node : Node) (e : Entry) → EntryOk past (turn stamp node) node e
    → AtEach head past (turn stamp node) node e → Owes past (turn stamp node) e
    → (d : Deed) → DoneBy e d → (t : ℕ) × (node ≡ Target t) × DoneIn head past stamp t d
done_here head past stamp (Target t) (Act x) ok of owes d e = (
  t,
  refl,
  inl (ap (λ (v : Deed). v.reply.at) (sym e) ∙ (acted head.osts (only t past) (turn stamp (Target t)) t x (of t (self t))).turn),
)
done_here head past stamp (Target t) (Txn x) ok of owes d e = (
  t,
  refl,
  inl (ap (λ (v : Deed). v.reply.at) (sym e) ∙ (made head.osts (only t past) (turn stamp (Target t)) t x (of t (self t))).turn),
)
done_here head past stamp (Target t) (Wait lock x) ok of owes d e = (
  t,
  refl,
  inl (ap (λ (v : Deed). v.reply.at) (sym e) ∙ (wait_acted head.osts (only t past) (turn stamp (Target t)) lock x
      (of t (self t)).1).turn),
)
done_here head past stamp (Target t) (Answers x) ok of owes d e = (t, refl, subst (DoneIn head past stamp t) e (by k.turn))
  where
    k : Responded head.osts (only t past) (turn stamp (Target t)) t x
    k = responded head.osts (only t past) (turn stamp (Target t)) t x (of t (self t)).1

    by : (k.when ≡ turn stamp (Target t)) ⊎ ReportedOk head.osts (only t past) (turn stamp (Target t)) t x → DoneIn head past stamp t x
    by (inl q) = inl (ap (λ (v : Deed). v.reply.at) k.is ∙ q)
    by (inr q) = inr q
done_here head past stamp (Target t) (Grant lock (Some x)) ok of owes d e =
    (t, refl, inl (ap (λ (v : Deed). v.reply.at) (sym (some_is x d e)) ∙ by ok (of t (self t))))
  where
    by : EntryOk past (turn stamp (Target t)) (Target t) (Grant lock (Some x))
        → GrantsOk head.osts (only t past) (turn stamp (Target t)) t lock x → x.reply.at ≡ turn stamp (Target t)
    by (inl k) g = owed_turn past (turn stamp (Target t)) lock x x k.1 owes
    by (inr k) (inl g) = absurd (let high = k.0 in let zero = g.0 in omega (arith, high, zero))
    by (inr k) (inr g) = (range_acted head.osts (only t past) (turn stamp (Target t)) lock x g.1).turn
done_here head past stamp (Target t) (Grant lock None) ok of owes d e = absurd (cc)
done_here head past stamp (Client c) (Act x) ok of owes d e = absurd ok
done_here head past stamp (Client c) (Txn x) ok of owes d e = absurd ok
done_here head past stamp (Client c) (Grant lock asked) ok of owes d e = absurd ok
done_here head past stamp (Client c) (Wait lock x) ok of owes d e = absurd ok
done_here head past stamp (Client c) (Answers x) ok of owes d e = absurd ok
done_here head past stamp node e ok of owes d q = absurd q

-- what a holder said was said to the target, in the turn that it names, and of the request that is answered
pub reported_said : (osts : ℕ) (past : List Line) (at : At) (t : ℕ) (d : Deed) (k : ReportedOk osts past at t d)
    → ((c : ℕ) × Was past (Client c) (Target t) (message.Size k.report)) × (d.reply.at ≡ by_holder k.report)
    × (d.reply.who ≡ k.report.for_who) × (d.reply.xid ≡ k.report.xid)
reported_said osts past at t d k = (
  by past k.ended,
  ap (λ (x : Deed). x.reply.at) k.is,
  ap (λ (x : Deed). x.reply.who) k.is
      ∙ (on past k.ended).0,
  ap (λ (x : Deed). x.reply.xid) k.is ∙ (on past k.ended).1,
)
  where
    -- the line before that ended the glimpse took it
    by : (p : List Line) → EndedBy (λ before g. (g.request ≡ k.request) × TookReport osts before at t g k.report) p at → (c : ℕ)
        × Was p (Client c) (Target t) (message.Size k.report)
    by [] e = absurd e
    by (l ∷ p) e = of l.entry e
      where
        of : (x : Entry) → EndedBy (λ before g. (g.request ≡ k.request) × TookReport osts before at t g k.report) (line l.at x ∷ p) at
            → (c : ℕ) × Was (line l.at x ∷ p) (Client c) (Target t) (message.Size k.report)
        of (Ends g) e = (e.1.1.from, e.1.1.was)
        of x e = absurd e

    on : (p : List Line) → EndedBy (λ before g. (g.request ≡ k.request) × TookReport osts before at t g k.report) p at
        → (k.request.who ≡ k.report.for_who) × (k.request.xid ≡ k.report.xid)
    on [] e = absurd e
    on (l ∷ p) e = of l.entry e
      where
        of : (x : Entry) → EndedBy (λ before g. (g.request ≡ k.request) × TookReport osts before at t g k.report) (line l.at x ∷ p) at
            → (k.request.who ≡ k.report.for_who) × (k.request.xid ≡ k.report.xid)
        of (Ends g) e = (
          ap (λ (r : RequestOf). r.who) (sym e.1.0) ∙ sym e.1.1.on.1,
          ap (λ (r : RequestOf). r.xid) (sym e.1.0)
              ∙ sym e.1.1.on.2,
        )
        of x e = absurd e

-- ---- grown pasts

-- what was before is grown
pub grown_before : (head : Head) (new past : List Line) → Grown head (new ++ past) → Grown head past
grown_before head [] past g = g
grown_before head (l ∷ new) past g = grown_before head new past g.1

-- ---- what was asked: of one target, and of all

-- a client's life is about all targets
pub life_only : (c t : ℕ) (past : List Line) → life_of c (only t past) ≡ life_of c past
life_only c t [] = refl
life_only c t (l ∷ past) = by l.at.node l.entry (life_only c t past)
  where
    P : List Line
    P = only t past

    -- another entry leaves it, whether or not its line concerns the target
    quiet : (node : Node) (e : Entry) (b : Bool) → life_of c P ≡ life_of c (line (turn l.at.stamp node) e ∷ past)
        → life_of c (line (turn l.at.stamp node) e ∷ P) ≡ life_of c P
        → life_of c (if b then line (turn l.at.stamp node) e ∷ P else P) ≡ life_of c (line (turn l.at.stamp node) e ∷ past)
    quiet node e true ih q = q ∙ ih
    quiet node e false ih q = ih

    by : (node : Node) (e : Entry) → life_of c P ≡ life_of c past
        → life_of c (if concerns t node e then line (turn l.at.stamp node) e ∷ P else P) ≡ life_of c (line (turn l.at.stamp node) e ∷ past)
    by (Client d) (Life who) ih = ap (λ (v : Who). if nat_eq c d then who else v) ih
    by (Target u) (Life who) ih = quiet (Target u) (Life who) (nat_eq t u) ih refl
    by node e ih = quiet node e (concerns t node e) ih refl

pub own_only : (who : Who) (t : ℕ) (past : List Line) (node : Node) → is_own who (only t past) node ≡ is_own who past node
own_only who t past (Client c) = ap (λ v. same_life who v) (life_only c t past)
own_only who t past (Target u) = refl

pub flew_more : (l : Line) (past : List Line) (who : Who) (f : Flight) → Flew past who f → Flew (l ∷ past) who f
flew_more l past who f a = by l.entry
  where
    by : (e : Entry) → Flew (line l.at e ∷ past) who f
    by (Flies t g) = inr a
    by _ = a

flew_either : (l : Line) (past new : List Line) (who : Who) (f : Flight) → is_own who past l.at.node ≡ is_own who new l.at.node
    → (Flew past who f → Flew new who f) → Flew (l ∷ past) who f → Flew (l ∷ new) who f
flew_either l past new who f same h a = by l.entry a
  where
    by : (e : Entry) → Flew (line l.at e ∷ past) who f → Flew (line l.at e ∷ new) who f
    by (Flies t g) a = ⊎_elim (λ (p : (is_own who past l.at.node ≡ true) × (g ≡ f)). inl (sym same ∙ p.0, p.1))
        (λ (p : Flew past who f). inr (h p)) a
    by _ a = h a

pub flew_whole : (t : ℕ) (past : List Line) (who : Who) (f : Flight) → Flew (only t past) who f → Flew past who f
flew_whole t [] who f a = a
flew_whole t (l ∷ past) who f a =
    cond_both (concerns t l.at.node l.entry) (l ∷ only t past) (only t past) (λ (p : List Line). Flew p who f → Flew (l ∷ past) who f)
    (λ i b. flew_either l (only t past) past who f (own_only who t past l.at.node) (flew_whole t past who f) b)
    (λ i b. flew_more l past who f (flew_whole t past who f b))
    a
