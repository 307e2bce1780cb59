-- Where each call that reads names misses what calls make, the metadata target grants no lock, and so calls none back; nor does another
-- target where nothing
-- is written.
use Rattle.std.proofs.Common.{◌≡◌, ℕ, ◌<◌, Bool, true, false, List, [], ◌∷◌, ◌++◌, Some, inl, inr, ⊎_elim, refl, sym, subst, ap, ◌∙◌, arith}
use Rattle.std.specs.Prelude.{nat_eq, not, if◌then◌else◌, filter}
use Rattle.std.proofs.lemmas.Bool.{cond_both, eqb-true}
use Rattle.lu_base.specs.declared.ids.At.{At}
use Rattle.lu_base.specs.declared.ids.Node.{Node}
use Rattle.lu_base.specs.declared.ids.Node.TheVariants.{Client, Target}
use Rattle.lu_base.specs.declared.ids.Stamp.{Stamp}
use Rattle.lu_base.specs.declared.locks.Lock.{Lock}
use Rattle.lu_msg.specs.declared.calls.Call.{Call}
use Rattle.lu_msg.specs.declared.calls.Call.TheVariants as call
use Rattle.lu_spec_machine.specs.Footprint.{grants}
use Rattle.lu_part.specs.declared.parts.Want.{Want}
use Rattle.lu_spec_entries.specs.Carried.{Deed, Called}
use Rattle.lu_spec_entries.specs.Words.{Entry, Act, Txn, Grant, Wait, Answers, Block, Release, Evict, Close, Line, line}
use Rattle.lu_spec_entries.specs.Concerns.{concerns, only}
use Rattle.lu_spec_target.specs.Lives.{is_life}
use Rattle.lu_spec_target.specs.Locks.{called_without}
use Rattle.lu_spec_target.specs.Names.{locks_from}
use Rattle.lu_proof_lawful.specs.Covered.Deeds.{asked}
use Rattle.lu_proof_lawful.specs.Covered.Heads.{Head}
use Rattle.lu_proof_lawful.specs.Covered.Makes.{Path, Misses}
use Rattle.lu_proof_lawful.specs.Covered.TargetStates.{none, granted_at, called_at, server_of}
use Rattle.lu_proof_lawful.proofs.Preconditions.Guards.{In, EntryOk}
use Rattle.lu_proof_lawful.proofs.Preconditions.StoryGuards.{ActOk, ActsOk, GrantsOk, BlockOk, WayOk}
use Rattle.lu_proof_lawful.proofs.Preconditions.Acts.{sized_bare, range_bare, made}
use Rattle.lu_proof_lawful.proofs.Preconditions.Grown.{Allowed, Grown}
use Rattle.lu_proof_lawful.proofs.Preconditions.Lists.{self}
use Rattle.lu_proof_lawful.proofs.Preconditions.Parts.{granted_is, tree_is}
use Rattle.lu_proof_lawful.proofs.Preconditions.ClientLines.{some_is}
use Rattle.lu_proof_lawful.proofs.Invariants.Groups.{turn}
use Rattle.lu_proof_lawful.proofs.Invariants.TargetGroups.{Acted}
use Rattle.lu_proof_lawful.proofs.Invariants.All.{holds}
use Rattle.lu_proof_lawful.proofs.Invariants.DoneGrows.{did_acted}
use Rattle.lu_proof_lawful.proofs.Invariants.FirstDeeds.{first_gave}
use Rattle.lu_proof_lawful.proofs.Invariants.BareGuards.{BareOk, BareGrown}
use Rattle.lu_proof_lawful.proofs.Invariants.Asked.{Began, began_more, AskedBy, acted_asked}
use Rattle.lu_proof_lawful.proofs.Invariants.Finds.{Made_in, granted_none}

-- where fewer paths are made, a call misses them too
pub misses_fewer : (Made Fewer : Path → Type 0) → ((path : Path) → Fewer path → Made path) → (k : Call) → Misses Made k → Misses Fewer k
misses_fewer Made Fewer fewer (call.Lookup path) m = (m.0, λ is. m.1 (fewer path is))
misses_fewer Made Fewer fewer (call.Stat path) m = (m.0, λ is. m.1 (fewer path is))
misses_fewer Made Fewer fewer (call.List path) m = (m.0, λ is. m.1 (fewer path is))
misses_fewer Made Fewer fewer (call.Layout path) m = λ is. m (fewer path is)
misses_fewer Made Fewer fewer k m = tt

-- each call that began misses what calls made
abbrev pub AllMiss : List Line → Type 0
AllMiss past = (k : Call) → Began past k → Misses (Made_in past) k

all_before : (l : Line) (past : List Line) → AllMiss (l ∷ past) → AllMiss past
all_before l past m = λ k b. misses_fewer (Made_in (l ∷ past)) (Made_in past) (λ path is. (is.0, began_more l past is.0 is.1, is.2)) k
    (m k (began_more l past k b))

-- ---- an act grants none

act_none : (head : Head) (past : List Line) (l : Line) → Grown head past → AllMiss (l ∷ past) → (at : At) (d : Deed)
    → ActOk head.osts (only 0 past) at d → AskedBy past d.op → d.reply.locks ≡ []
act_none head past l g m at d ok a =
    let v = server_of head.osts (only 0 past) in
    let same : d.op ≡ ok.request.op = ap (λ (y : Deed). y.op) ok.is in
    let free : grants head.osts v.tree (asked ok.request none) ≡ [] =
    ap (λ t. grants head.osts t (asked ok.request none)) (sym (tree_is head.osts 0 past))
    ∙ granted_none head past g ok.request.who ok.request.op (subst (AskedBy past) same a) (all_before l past m) in
    ap (λ (y : Deed). y.reply.locks) ok.is ∙ ap (λ (ws : List Want). locks_from v.cookie ok.request.who ws) free

-- and nothing that the metadata target did gave any
gives_none : (head : Head) (past : List Line) → Grown head past → AllMiss past → (d : Deed) → Acted (only 0 past) d → d.reply.locks ≡ []
gives_none head [] g m d a = absurd a
gives_none head (l ∷ past) g m d a =
    cond_both (concerns 0 l.at.node l.entry) (l ∷ only 0 past) (only 0 past) (λ (p : List Line). Acted p d → None)
    (λ o b. by l.at.node l.entry g.0 o b (acted_asked head (l ∷ past) d g a) (gives_none head past g.1 (all_before l past m) d))
    (λ o b. gives_none head past g.1 (all_before l past m) d b)
    a
  where
    None : Type 0
    None = d.reply.locks ≡ []

    acts : (u : ℕ) (x : Deed) → nat_eq 0 u ≡ true → x ≡ d → ActsOk head.osts (only 0 past) (turn l.at.stamp (Target u)) u x
        → AskedBy past d.op → None
    acts u x o p (inl k) asks = act_none head past l g.1 m (turn l.at.stamp (Target u)) d
        (subst (λ (y : Deed). ActOk head.osts (only 0 past) (turn l.at.stamp (Target u)) y) p k.1) asks
    acts u x o p (inr k) asks = ap (λ (y : Deed). y.reply.locks) (sym p)
        ∙ sized_bare head.osts (only 0 past) (turn l.at.stamp (Target u)) x k.1

    granted : (u : ℕ) (lock : Lock) (x : Deed) → x ≡ d → GrantsOk head.osts (only 0 past) (turn l.at.stamp (Target u)) u lock x
        → (Acted (only 0 past) d → None) → None
    granted u lock x p (inl k) more = more (subst (λ (y : Deed). Acted (only 0 past) y) p (did_acted (only 0 past) x k.1.did))
    granted u lock x p (inr k) more = ap (λ (y : Deed). y.reply.locks) (sym p)
        ∙ range_bare head.osts (only 0 past) (turn l.at.stamp (Target u)) lock x k.1

    by : (node : Node) (e : Entry) → Allowed head past (turn l.at.stamp node) e → concerns 0 node e ≡ true
        → Acted (line (turn l.at.stamp node) e ∷ only 0 past) d → AskedBy (line (turn l.at.stamp node) e ∷ past) d.op
        → (Acted (only 0 past) d → None) → None
    by (Client c) (Grant lock asked) k o b asks more = absurd k.ok
    by (Client c) (Act x) k o b asks more = absurd k.ok
    by (Client c) (Txn x) k o b asks more = absurd k.ok
    by (Client c) (Wait lock x) k o b asks more = absurd k.ok
    by (Client c) (Answers x) k o b asks more = absurd k.ok
    by (Target u) (Act x) k o (inl p) asks more = acts u x o p (k.of 0 o) asks
    by (Target u) (Act x) k o (inr b) asks more = more b
    by (Target u) (Txn x) k o (inl p) asks more = ap (λ (y : Deed). y.reply.locks) (sym p)
        ∙ (made head.osts (only 0 past) (turn l.at.stamp (Target u)) u x (k.of 0 o)).bare
    by (Target u) (Txn x) k o (inr b) asks more = more b
    by (Target u) (Grant lock (Some x)) k o (inl p) asks more = granted u lock x (some_is x d p) (k.of 0 o) more
    by (Target u) (Grant lock asked) k o (inl p) asks more = absurd (cc)
    by (Target u) (Grant lock asked) k o (inr b) asks more = more b
    by (Target u) (Wait lock x) k o b asks more = absurd (let high = (k.of 0 o).0 in let z = eqb-true 0 u o in omega (arith, high, z))
    by (Target u) (Answers x) k o b asks more = absurd (let high = (k.of 0 o).0 in let z = eqb-true 0 u o in omega (arith, high, z))
    by node e k o b asks more = more b

-- ---- so the metadata target grants none

none_in : (ls : List Lock) → ((l : Lock) → In l ls → ⊥) → ls ≡ []
none_in [] empty = refl
none_in (l ∷ ls) empty = absurd (empty l (inl refl))

none_granted : (head : Head) (past : List Line) → Grown head past → AllMiss past → (server_of head.osts (only 0 past)).granted ≡ []
none_granted head past g m =
    none_in (server_of head.osts (only 0 past)).granted
    (λ l i. let r = ((holds head past g).at 0).locks.granted l i
    in subst (λ (ls : List Lock). In l ls) (gives_none head past g m r.0 r.1.0) (first_gave head past r.0 l g r.1))

-- ---- and calls none back

-- while no lock is called back
still_uncalled : (past : List Line) (stamp : Stamp) (node : Node) (e : Entry) (t : ℕ) → EntryOk past (turn stamp node) node e
    → ((called : Called) → node ≡ Target t → e ≡ Block called → ⊥) → called_at t past ≡ []
    → called_at t (line (turn stamp node) e ∷ past) ≡ []
still_uncalled past stamp (Target u) (Block called) t ok free h = by (nat_eq t u) refl
  where
    by : (b : Bool) → nat_eq t u ≡ b → (if b then called_at t past ++ called ∷ [] else called_at t past) ≡ []
    by true e = absurd (free called (ap Target (sym (eqb-true t u e))) refl)
    by false e = h
still_uncalled past stamp (Target u) (Release lock) t ok free h = by (nat_eq t u)
  where
    by : (b : Bool) → (if b then called_without lock (called_at t past) else called_at t past) ≡ []
    by true = rw h refl
    by false = h
still_uncalled past stamp (Target u) (Evict who cause) t ok free h = by (nat_eq t u)
  where
    by : (b : Bool) → (if b then filter (λ (c : Called). not (is_life c.who (who ∷ []))) (called_at t past) else called_at t past) ≡ []
    by true = rw h refl
    by false = h
still_uncalled past stamp (Target u) (Close o) t ok free h = by (nat_eq t u)
  where
    by : (b : Bool) → (if b then [] else called_at t past) ≡ []
    by true = refl
    by false = h
still_uncalled past stamp (Client c) (Block called) t ok free h = absurd ok
still_uncalled past stamp (Client c) (Release lock) t ok free h = absurd ok
still_uncalled past stamp (Client c) (Evict who cause) t ok free h = absurd ok
still_uncalled past stamp (Client c) (Close o) t ok free h = absurd ok
still_uncalled past stamp node e t ok free h = h

uncalled : (head : Head) (past : List Line) → Grown head past → AllMiss past → called_at 0 past ≡ []
uncalled head [] g m = refl
uncalled head (l ∷ past) g m = still_uncalled past l.at.stamp l.at.node l.entry 0 g.0.ok free (uncalled head past g.1 (all_before l past m))
  where
    -- what is called back is granted
    free : (called : Called) → l.at.node ≡ Target 0 → l.entry ≡ Block called → ⊥
    free called n e =
        let k : Allowed head past (turn l.at.stamp (Target 0)) (Block called) =
        subst (λ (v : Entry). Allowed head past (turn l.at.stamp (Target 0)) v) e
        (subst (λ (v : Node). Allowed head past (turn l.at.stamp v) l.entry) n g.0) in
        ⊎_elim
        (λ (ok : (0 ≡ 0) × BlockOk head.osts (only 0 past) called). subst (λ (ls : List Lock). In ok.1.lock ls)
        (none_granted head past g.1 (all_before l past m)) ok.1.granted)
        (λ (ok : (0 < 0) × WayOk head.osts (only 0 past) called). let high = ok.0 in omega (arith, high))
        (k.of 0 (self 0))

pub unlocked : (head : Head) (past : List Line) → Grown head past → AllMiss past → (granted_at 0 past ≡ []) × (called_at 0 past ≡ [])
unlocked head past g m = (granted_is head.osts 0 past ∙ none_granted head past g m, uncalled head past g m)

-- ---- other targets call none back, where nothing was written

pub uncalled_other : (head : Head) (past : List Line) → BareGrown head past → (t : ℕ) → (t ≡ 0 → ⊥) → called_at t past ≡ []
uncalled_other head [] g t other = refl
uncalled_other head (l ∷ past) g t other =
    still_uncalled past l.at.stamp l.at.node l.entry t g.0.wide.ok
    (λ called n e. other (subst (λ (v : Entry). BareOk past (turn l.at.stamp (Target t)) (Target t) v) e
    (subst (λ (v : Node). BareOk past (turn l.at.stamp v) v l.entry) n g.0.ok)))
    (uncalled_other head past g.1 t other)
