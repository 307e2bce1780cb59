-- A call that repeats one whose answer is known: what its begin owes, and what its client does from there on, which is to pin and unpin
-- locks and to
-- go on with flushes.
use Rattle.std.proofs.Common.{◌≡◌, ℕ, ◌-◌, Bool, true, false, List, [], ◌∷◌, ◌⊎◌, Some, None, inl, inr, ⊎_elim, refl, sym, subst, ap, ◌∙◌}
use Rattle.std.specs.Prelude.{◌==◌, ◌&&◌, if◌then◌else◌, map}
use Rattle.std.proofs.lemmas.Bool.{cond_both, and_parts, eqb-true}
use Rattle.lu_base.specs.declared.ids.At.{At}
use Rattle.lu_base.specs.declared.ids.Fid.{Fid}
use Rattle.lu_base.specs.declared.ids.Node.TheVariants.{Target}
use Rattle.lu_base.specs.declared.ids.Who.{Who}
use Rattle.lu_base.specs.declared.locks.Lock.{Lock}
use Rattle.lu_base.specs.declared.locks.Mode.TheVariants.{PW}
use Rattle.lu_layout.specs.Raid0.{Raid0}
use Rattle.lu_msg.specs.declared.calls.Call.{Call}
use Rattle.lu_msg.specs.declared.calls.Call.TheVariants as call
use Rattle.lu_msg.specs.declared.messages.Message.TheVariants as message
use Rattle.lu_held.specs.declared.locks.Change.{Change}
use Rattle.lu_held.specs.declared.locks.HeldLock.{HeldLock}
use Rattle.lu_held.specs.declared.locks.Use.{Use}
use Rattle.lu_held.specs.declared.names.LockName.{LockName}
use Rattle.lu_held.specs.Locks.{is_named, after}
use Rattle.lu_held.specs.Held.{changed}
use Rattle.lu_spec_machine.specs.Name.{same_name}
use Rattle.lu_spec_machine.specs.Tree.{no_file}
use Rattle.lu_spec_machine.proofs.Keys.{name_tells}
use Rattle.lu_spec_entries.specs.declared.uses.Using.{Using}
use Rattle.lu_spec_entries.specs.Carried.{Work, Running, Kind, Narrow, Wide, Writes, Cuts, Stats, Glimpses, Stage, Plain, Bad, Forgotten}
use Rattle.lu_spec_entries.specs.Carried.{Gets, Flushing}
use Rattle.lu_spec_entries.specs.Words.{Entry, Stands, Pins, Unpins, Line}
use Rattle.lu_spec_client.specs.Caches.{held_at}
use Rattle.lu_spec_client.specs.Known.{Notes}
use Rattle.lu_spec_client.specs.Looks.{missing}
use Rattle.lu_spec_client.specs.Recovery.{is_left_at}
use Rattle.lu_spec_client.specs.States.{Store}
use Rattle.lu_spec_client.specs.Wants.{wants_of}
use Rattle.lu_spec_laws.specs.Words.Held.{held}
use Rattle.lu_spec_laws.specs.Words.Repeats.{same_path, same_reading, rebinds}
use Rattle.lu_proof_lawful.proofs.Preconditions.Guards.{In, Took, Starts, StartsRead, StartsStat, OfFlush, IsFlushing, OwesBegun, OwesStood}
use Rattle.lu_proof_lawful.proofs.Preconditions.Guards.{work_in, PinsSince, LockBrought, LockGranted, Replied, MovedStand}
use Rattle.lu_proof_lawful.proofs.Preconditions.Turns.{StoodQuiet}
use Rattle.lu_proof_lawful.proofs.Preconditions.ClientLocks.{changed_only}
use Rattle.lu_proof_lawful.proofs.Invariants.HeldThere.{There}
use Rattle.lu_proof_lawful.proofs.Invariants.TaughtKnown.{Agrees}
use Rattle.lu_proof_lawful.proofs.Laws.SilentWorlds.{Free}
use Rattle.lu_proof_lawful.proofs.Laws.SilentKnown.{Grows, IsReadingCall}

-- ---- a call that repeats one whose answer is known

same_paths : (a b : List (List ℕ)) → same_path a b ≡ true → a ≡ b
same_paths [] [] e = refl
same_paths (n ∷ ns) (m ∷ ms) e = let p = and_parts (same_name n m) (same_path ns ms) e in ap (λ v. v ∷ ns) (one (name_tells n m) p.0)
    ∙ ap (λ v. m ∷ v) (same_paths ns ms p.1)
  where
    one : ((same_name n m ≡ true) × (n ≡ m)) ⊎ ((same_name n m ≡ false) × (n ≡ m → ⊥)) → same_name n m ≡ true → n ≡ m
    one (inl q) e = q.1
    one (inr q) e = let f = q.0 in absurd (cc)
same_paths [] (m ∷ ms) e = absurd (cc)
same_paths (n ∷ ns) [] e = absurd (cc)

abbrev pub IsReadCall : Call → Type 0
IsReadCall (call.Read h offset count) = Unit {0}
IsReadCall _ = ⊥

-- its answer may be known
abbrev pub MayKnow : Call → Type 0
MayKnow k = IsReadingCall k ⊎ IsReadCall k

-- then it is the same call
pub same_is : (a k : Call) → same_reading a k ≡ true → (k ≡ a) × MayKnow a
same_is (call.Lookup p) (call.Lookup q) e = (ap call.Lookup (sym (same_paths p q e)), inl tt)
same_is (call.Stat p) (call.Stat q) e = (ap call.Stat (sym (same_paths p q e)), inl tt)
same_is (call.List p) (call.List q) e = (ap call.List (sym (same_paths p q e)), inl tt)
same_is (call.Layout p) (call.Layout q) e = (ap call.Layout (sym (same_paths p q e)), inl tt)
same_is (call.Read h offset count) (call.Read i start number) e =
    let p = and_parts (h == i && offset == start) (count == number) e in
    let q = and_parts (h == i) (offset == start) p.0 in (
      ap (λ (n : ℕ). call.Read n start number) (sym (eqb-true h i q.0))
          ∙ ap (λ (n : ℕ). call.Read h n number) (sym (eqb-true offset start q.1))
          ∙ ap (λ (n : ℕ). call.Read h offset n) (sym (eqb-true count number p.1)),
      inr tt,
    )
same_is _ _ e = absurd (cc)

-- ---- what a call that begins owes

pub rebinds_self : (k : Call) → rebinds k k ≡ false
rebinds_self (call.Open h path) = refl
rebinds_self (call.Close h) = refl
rebinds_self _ = refl

-- nothing is asked for a call that is known under locks that aren't marked
pub agrees_too : (n k : Notes) → Grows n k → Agrees k → Agrees n
agrees_too n k more a d m f g u v = a d m f g (more f u) (more g v)

-- it goes on
abbrev pub StandsFor : ℕ → Entry → Type 0
StandsFor slot (Stands s running) = s ≡ slot
StandsFor slot _ = ⊥

abbrev pub IsStatCall : Call → Type 0
IsStatCall (call.Stat path) = Unit {0}
IsStatCall _ = ⊥

-- what a call of which something is due may be followed by
abbrev pub Follows : Running → ℕ → Entry → Type 0
Follows r slot e =
    ((r.stage ≡ Bad) × Starts slot Bad e) ⊎ ((r.stage ≡ Plain) × Starts slot Plain e)
    ⊎ ((r.stage ≡ Plain) × IsReadCall r.call × StartsRead slot e) ⊎ ((r.stage ≡ Plain) × IsStatCall r.call × StandsFor slot e)
    ⊎ ((r.stage ≡ Plain) × OfFlush e)

stat_starts : (slot : ℕ) (e : Entry) → StartsStat slot e → Starts slot Plain e ⊎ StandsFor slot e
stat_starts slot (Stands s running) h = inr h
stat_starts slot e h = inl h

pub reading_owes : (same : Type 0) (k : Call) (slot : ℕ) (e : Entry) → IsReadingCall k → OwesBegun same slot Plain k e → same
    × ((Starts slot Plain e ⊎ (IsStatCall k × StandsFor slot e)) ⊎ OfFlush e)
reading_owes same (call.Lookup path) slot e reads o = (
  o.0,
  ⊎_elim (λ (s : Starts slot Plain e). inl (inl s)) (λ (s : OfFlush e). inr s)
      o.1,
)
reading_owes same (call.List path) slot e reads o = (o.0, ⊎_elim (λ (s : Starts slot Plain e). inl (inl s)) (λ (s : OfFlush e). inr s) o.1)
reading_owes same (call.Layout path) slot e reads o = (
  o.0,
  ⊎_elim (λ (s : Starts slot Plain e). inl (inl s)) (λ (s : OfFlush e). inr s)
      o.1,
)
reading_owes same (call.Stat path) slot e reads o = (
  o.0,
  ⊎_elim (λ (s : StartsStat slot e). inl (⊎_elim (λ (z : Starts slot Plain e). inl z) (λ (z : StandsFor slot e). inr (tt, z))
      (stat_starts slot e s))) (λ (s : OfFlush e). inr s) o.1,
)
reading_owes same k slot e reads o = absurd reads

pub read_owes : (same : Type 0) (k : Call) (slot : ℕ) (e : Entry) → IsReadCall k → OwesBegun same slot Plain k e → same
    × (StartsRead slot e ⊎ OfFlush e)
read_owes same (call.Read h offset count) slot e reads o = o
read_owes same k slot e reads o = absurd reads

pub no_read_call : (k q : Call) → k ≡ q → IsReadCall k → (IsReadCall q → ⊥) → ⊥
no_read_call k q e r n = n (subst IsReadCall e r)

pub no_stat_call : (k q : Call) → k ≡ q → IsStatCall k → (IsStatCall q → ⊥) → ⊥
no_stat_call k q e r n = n (subst IsStatCall e r)

-- of no file nothing is wanted, nor is anything missing of it
pub none_wanted : (l : Raid0) (fid : Fid) (kind : Kind) → l ≡ no_file.layout → wants_of l fid kind ≡ []
none_wanted l fid kind e = subst (λ (v : Raid0). wants_of v fid kind ≡ []) (sym e) (by kind)
  where
    by : (k : Kind) → wants_of no_file.layout fid k ≡ []
    by (Narrow p n) = refl
    by (Wide p n) = refl
    by (Writes p bs) = refl
    by (Cuts n) = refl
    by (Stats mode links) = refl
    by (Glimpses sizes) = refl

pub none_in : (w : Use) (l : Raid0) (fid : Fid) (kind : Kind) → l ≡ no_file.layout → In w (wants_of l fid kind) → ⊥
none_in w l fid kind e i = subst (λ (ws : List Use). In w ws) (none_wanted l fid kind e) i

pub none_missing : (l : Raid0) (p end : ℕ) (s : Store) (us : List Using) → map (λ (u : Using). u.want) us ≡ [] → missing l p end s us ≡ None
none_missing l p end s [] e = refl
none_missing l p end s (u ∷ us) e = absurd (cc)

pub clash_of : (b : Bool) → b ≡ true → b ≡ false → ⊥
clash_of b e f = let both : true ≡ false = sym e ∙ f in cc

-- what is wanted is that of a use
mapped_in : (w : Use) (us : List Using) → In w (map (λ (u : Using). u.want) us) → (u : Using) × In u us × (u.want ≡ w)
mapped_in w [] i = absurd i
mapped_in w (u ∷ us) (inl e) = (u, inl refl, e)
mapped_in w (u ∷ us) (inr i) = let m = mapped_in w us i in (m.0, inr m.1, m.2)

-- a call that has just begun isn't moved by a message, nor is it at work
pub plain_no_work : (s : Stage) (w : Work) → s ≡ Plain → work_in s ≡ Some w → ⊥
plain_no_work s w p e = let q : None ≡ Some w = sym (ap work_in p) ∙ e in cc

pub never_moved : (past : List Line) (at : At) (c : ℕ) (r : Running) (stage : Stage) → r.stage ≡ Plain → MovedStand past at c r stage → ⊥
never_moved past at c r stage plain (inl h) = ⊎_elim (λ (k : LockBrought past at r h.work h.lock). plain_no_work r.stage h.work plain
    (ap work_in k.stage)) (λ (k : LockGranted past at r h.work h.lock). plain_no_work r.stage h.work plain (ap work_in k.stage)) h.from
never_moved past at c r stage plain (inr (inl h)) = plain_no_work r.stage h.work plain (ap work_in h.before)
never_moved past at c r stage plain (inr (inr (inl h))) = plain_no_work r.stage h.work plain (ap work_in h.before)
never_moved past at c r stage plain (inr (inr (inr (inl h)))) = plain_no_work r.stage h.work plain (ap work_in h.before)
never_moved past at c r stage plain (inr (inr (inr (inr h)))) = ⊎_elim
    (λ (k : (r.stage ≡ Forgotten h.work) × ((t : ℕ) × (who : Who) × (boot committed : ℕ)
    × Took past at (Target t) (message.Ready who boot (record { 0 = committed })) × (is_left_at t h.work.left ≡ true))). plain_no_work
    r.stage h.work plain (ap work_in k.0))
    (λ (k : (r.stage ≡ Gets h.work) × Replied past at r). plain_no_work r.stage h.work plain (ap work_in k.0)) h.from

-- ---- from the begin of a call a client only pins and unpins, and a flush waits on

abbrev pub IsIdle : Entry → Type 0
IsIdle (Pins name) = Unit {0}
IsIdle (Unpins name) = Unit {0}
IsIdle (Stands slot running) = IsFlushing running.stage
IsIdle _ = ⊥

abbrev pub Since : List Line → List Line → Type 0
Since past [] = past ≡ []
Since past (n ∷ now) = (past ≡ n ∷ now) ⊎ (IsIdle n.entry × Since past now)

pub since_self : (past : List Line) → Since past past
since_self [] = refl
since_self (l ∷ past) = inl refl

first_is : (l n : Line) (past now : List Line) → l ∷ past ≡ n ∷ now → l ≡ n
first_is l n past now e = cc

rest_is : (l n : Line) (past now : List Line) → l ∷ past ≡ n ∷ now → past ≡ now
rest_is l n past now e = cc

-- one line less
pub since_less : (l : Line) (past now : List Line) → IsIdle l.entry → Since (l ∷ past) now → Since past now
since_less l past [] idle e = absurd (cc)
since_less l past (n ∷ now) idle (inl e) = inr (
  subst (λ (x : Line). IsIdle x.entry) (first_is l n past now e) idle,
  subst (Since past) (rest_is l n past now e) (since_self past),
)
since_less l past (n ∷ now) idle (inr k) = inr (k.0, since_less l past now idle k.1)

-- what the newest line must be for that
abbrev Pinned : List Line → List Line → Entry → Type 0
Pinned before now y = elim y [ Pins name ↦ PinsSince before now | Unpins name ↦ PinsSince before now | _ ↦ ⊥ ]

pub pins_idle : (before now : List Line) → PinsSince before now → Since before now
pins_idle before [] e = e
pins_idle before (n ∷ now) (inl e) = inl e
pins_idle before (n ∷ now) (inr k) = by n.entry k (λ v. pins_idle before now v)
  where
    by : (y : Entry) → Pinned before now y → (PinsSince before now → Since before now) → (before ≡ n ∷ now) ⊎ (IsIdle y × Since before now)
    by (Pins name) k more = inr (tt, more k)
    by (Unpins name) k more = inr (tt, more k)
    by y k more = absurd k

-- of two such pasts the one that ends with the begin comes first
pub since_between : (b : Line) (past before now : List Line) → (IsIdle b.entry → ⊥) → Since (b ∷ past) now → Since before now
    → Since (b ∷ past) before
since_between b past before [] none e f = absurd (cc)
since_between b past before (n ∷ now) none e (inl f) = subst (Since (b ∷ past)) (sym f) e
since_between b past before (n ∷ now) none (inl e) (inr f) = absurd
    (none (subst (λ (x : Line). IsIdle x.entry) (sym (first_is b n past now e)) f.0))
since_between b past before (n ∷ now) none (inr e) (inr f) = since_between b past before now none e.1 f.1

-- of what stands by then, what it stood for before
abbrev pub Over : Stage → Type 0 → Type 0
Over (Flushing stripe) A = A
Over _ A = Unit {0}

pub over_in : (stage : Stage) (A : Type 0) → (IsFlushing stage → A) → Over stage A
over_in (Flushing stripe) A f = f tt
over_in stage A f = tt

pub over_out : (stage : Stage) (A : Type 0) → IsFlushing stage → Over stage A → A
over_out (Flushing stripe) A i a = a
over_out stage A i a = absurd i

pub flushing_or : (stage : Stage) → IsFlushing stage ⊎ (IsFlushing stage → ⊥)
flushing_or (Flushing stripe) = inl tt
flushing_or stage = inr (λ i. i)

pub stood_owes : (same Before : Type 0) (slot : ℕ) (stage : Stage) (e : Entry) → IsFlushing stage → OwesStood same slot stage Before e
    → Before
stood_owes same Before slot (Flushing stripe) e i o = o
stood_owes same Before slot stage e i o = absurd i

pub stood_settled : (stage : Stage) (A : Type 0) → IsFlushing stage → StoodQuiet stage A → A
stood_settled (Flushing stripe) A i q = q
stood_settled stage A i q = absurd i

-- a held lock of that, not called back
abbrev pub IsFreeOf : Lock → HeldLock → Type 0
IsFreeOf k h = (h.lock ≡ k) × (h.marked ≡ false)

pub there : (c : ℕ) (past : List Line) (t : ℕ) (k : Lock) → Free c past t k → There (IsFreeOf k) t k.cookie.0 (held_at c past)
there c past t k (h, i, target, lock, free) = (h, (i, ((target, ap (λ (v : Lock). v.cookie.0) lock), (lock, free))))

pub none_changed : (name : LockName) (what : Change) (held : List HeldLock) → ((x : HeldLock) → (after what x).lock ≡ x.lock)
    → ((h : HeldLock) → In h held → h.lock.ask.mode ≡ PW → ⊥) → (h : HeldLock) → In h (changed name what held) → h.lock.ask.mode ≡ PW → ⊥
none_changed name what held same none h i = by (changed_only name what h held i)
  where
    by : (x : HeldLock) × In x held × ((if is_named name x then after what x else x) ≡ h) → h.lock.ask.mode ≡ PW → ⊥
    by m = subst (λ (v : HeldLock). v.lock.ask.mode ≡ PW → ⊥) m.2
        (cond_both (is_named name m.0) (after what m.0) m.0 (λ (v : HeldLock). v.lock.ask.mode ≡ PW → ⊥)
        (λ t e. none m.0 m.1 (ap (λ (l : Lock). l.ask.mode) (sym (same m.0)) ∙ e)) (λ t. none m.0 m.1))
