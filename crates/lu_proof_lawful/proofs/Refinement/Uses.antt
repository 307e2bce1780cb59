-- Each lock that a call has in use is held now, as it was when it came into use: under its name, on the object that the call wants there,
-- in a mode
-- that serves, and over the range that is wanted.
use Rattle.std.proofs.Common.{◌≡◌, ℕ, ◌<◌, true, List, [], ◌∷◌, ◌⊎◌, inl, inr, ⊎_elim, Some, refl, sym, subst, ap, ◌∙◌}
use Rattle.std.specs.Prelude.{nat_eq}
use Rattle.std.proofs.lemmas.Bool.{and_parts, eqb-true}
use Rattle.lu_base.specs.declared.ids.At.{At}
use Rattle.lu_base.specs.declared.ids.Cookie.{Cookie}
use Rattle.lu_base.specs.declared.ids.Node.TheVariants.{Client}
use Rattle.lu_base.specs.declared.locks.Extent.{Extent}
use Rattle.lu_base.specs.declared.locks.Lock.{Lock}
use Rattle.lu_base.specs.declared.locks.Mode.{Mode}
use Rattle.lu_base.specs.declared.locks.Mode.TheVariants.{EX, PW, PR, CW, CR, NL}
use Rattle.lu_base.specs.declared.locks.Policy.{Policy}
use Rattle.lu_base.specs.declared.locks.Policy.TheVariants.{Range}
use Rattle.lu_base.specs.declared.locks.Resource.{Resource}
use Rattle.lu_lock.specs.Modes.{serves}
use Rattle.lu_lock.specs.Overlap.{covers}
use Rattle.lu_msg.specs.declared.answers.Answer.{Answer}
use Rattle.lu_msg.specs.declared.answers.Answer.TheVariants as told
use Rattle.lu_msg.specs.declared.messages.Reply.{Reply as ReplyTo}
use Rattle.lu_msg.specs.declared.operations.Op.{Op}
use Rattle.lu_msg.specs.declared.operations.Op.TheVariants as op
use Rattle.lu_held.specs.declared.locks.HeldLock.{HeldLock}
use Rattle.lu_held.specs.declared.locks.Use.{Use}
use Rattle.lu_held.specs.declared.names.LockName.{LockName}
use Rattle.lu_spec_entries.specs.Carried.{Deed, Flight, Work, Stage, Enqueued, Waits, Came as CameLock, Sizes, Running}
use Rattle.lu_spec_entries.specs.declared.uses.Using.{Using}
use Rattle.lu_spec_entries.specs.Words.{Line}
use Rattle.lu_spec_entries.specs.Concerns.{only}
use Rattle.lu_spec_client.specs.Advances.{name_under}
use Rattle.lu_spec_client.specs.Caches.{brought, held_at}
use Rattle.lu_proof_lawful.specs.Covered.Calls.{call_at, life_at}
use Rattle.lu_proof_lawful.specs.Covered.Heads.{Head}
use Rattle.lu_proof_lawful.proofs.Preconditions.Guards.{In, HasRange, HeardAs, HeardNow, Begins, LeftSize, SizesStand, LockStand, StatStand}
use Rattle.lu_proof_lawful.proofs.Preconditions.Guards.{GetStand, FlushStand, LockGranted, LockBrought, WaitStand, MarkStand, CameStand}
use Rattle.lu_proof_lawful.proofs.Preconditions.Guards.{MovedStand, LockDoes, CameFor, HeldFor, used_in, UsesHeld}
use Rattle.lu_proof_lawful.proofs.Preconditions.Acts.{KindOf, bits_range}
use Rattle.lu_proof_lawful.proofs.Preconditions.Awaits.{heard_now}
use Rattle.lu_proof_lawful.proofs.Preconditions.Calls.{Began, Touched, Stood, call_cases, mine_all}
use Rattle.lu_proof_lawful.proofs.Preconditions.Grown.{Grown}
use Rattle.lu_proof_lawful.proofs.Preconditions.Held.{held_in}
use Rattle.lu_proof_lawful.proofs.Preconditions.Lists.{self}
use Rattle.lu_proof_lawful.proofs.Preconditions.LockKinds.{held_kind}
use Rattle.lu_proof_lawful.proofs.Preconditions.PinsFit.{PinsFit, HasName, pins_held}
use Rattle.lu_proof_lawful.proofs.Invariants.TargetGroups.{Acted, Gave, Names, tells_wait}
use Rattle.lu_proof_lawful.proofs.Invariants.All.{holds}
use Rattle.lu_proof_lawful.proofs.Invariants.Hopes.{gives_names, gave_names, waits_bring}
use Rattle.lu_proof_lawful.proofs.Invariants.Lines.{only_more}
use Rattle.lu_proof_lawful.proofs.Invariants.LockLists.{brought_again}
use Rattle.lu_proof_lawful.proofs.Refinement.Covering.{covers_asked, given_line}

-- ---- the lock that a call waits for, or that came, was asked for as the call wants it

-- what was done at that target for such a request names the cookie
pub record NamedFor (past : List Line) (wanted : Use) (k : ℕ) : Type 0 where
  pub deed : Deed
  pub acted : Acted (only wanted.target.0 past) deed
  pub names : Names deed k
  pub extent : Extent
  pub of_op : deed.op ≡ op.Enqueue wanted.resource wanted.mode extent
  pub policy : wanted.policy ≡ Range extent

named_line : (x : Line) (past : List Line) (wanted : Use) (k : ℕ) → NamedFor past wanted k → NamedFor (x ∷ past) wanted k
named_line x past wanted k n = record {
  deed = n.deed;
  acted = only_more wanted.target.0 x past n.deed n.acted;
  names = n.names;
  extent =
      n.extent;
  of_op = n.of_op;
  policy = n.policy;
}

abbrev StageNamed : List Line → Stage → Type 0
StageNamed past (Waits w target lock marked) = (wanted : Use) (left : List Use) → w.left ≡ wanted ∷ left
    → NamedFor past wanted lock.cookie.0
StageNamed past (CameLock w lock) = (wanted : Use) (left : List Use) → w.left ≡ wanted ∷ left → NamedFor past wanted lock.cookie.0
StageNamed past _ = Unit {0}

stage_line : (x : Line) (past : List Line) (stage : Stage) → StageNamed past stage → StageNamed (x ∷ past) stage
stage_line x past (Waits w target lock marked) n = λ wanted left e. named_line x past wanted lock.cookie.0 (n wanted left e)
stage_line x past (CameLock w lock) n = λ wanted left e. named_line x past wanted lock.cookie.0 (n wanted left e)
stage_line x past stage n = n

-- by the reply that was just heard
heard_named : (head : Head) (past : List Line) (at : At) (c t : ℕ) (f : Flight) (r : ReplyTo) (wanted : Use) (x : Extent) (k : ℕ)
    → Grown head past → at.node ≡ Client c → HeardNow past at t f r → t ≡ wanted.target.0
    → f.op ≡ op.Enqueue wanted.resource wanted.mode x → wanted.policy ≡ Range x
    → ((d : Deed) → f.op ≡ d.op → r ≡ record d.reply { boot = r.boot; committed = r.committed } → Names d k) → NamedFor past wanted k
heard_named head past at c t f r wanted x k g own now there of_op policy names =
    let u = wanted.target.0 in
    let heard : HeardAs (only u past) (life_at c past) f r = subst (λ (v : ℕ). HeardAs (only v past) (life_at c past) f r) there
    (heard_now c past at t f r own now) in
    let a = ((holds head past g).at u).done.answered (life_at c past) f r heard in
    record { deed = a.0; acted = a.1; names = names a.0 a.5 a.2; extent = x; of_op = sym a.5 ∙ of_op; policy = policy }

-- what brings a lock names it, also where it is told again
brings_named : (f : Flight) (r : ReplyTo) (l : Lock) → In l (brought f.op r) → (d : Deed) → f.op ≡ d.op → r
    ≡ record d.reply { boot = r.boot; committed = r.committed } → Names d l.cookie.0
brings_named f r l i d of_op is = gives_names d l (subst (λ (ls : List Lock). In l ls)
    (ap (λ (o : Op). brought o r) of_op ∙ brought_again d.op d.reply r is) i)

waits_named : (f : Flight) (r : ReplyTo) (cookie : Cookie) (resource : Resource) (mode : Mode) (x : Extent) → f.op
    ≡ op.Enqueue resource mode x → r.answer ≡ told.Waiting cookie → (d : Deed) → f.op ≡ d.op → r
    ≡ record d.reply { boot = r.boot; committed = r.committed }
    → Names d cookie.0
waits_named f r cookie resource mode x asked tells d of_op is =
    inr (waits_bring d.op d.reply.answer cookie.0
    (ap (λ (o : Op). tells_wait o d.reply.answer cookie.0) (sym of_op ∙ asked)
    ∙ ap (λ (a : Answer). tells_wait (op.Enqueue resource mode x) a cookie.0) (ap (λ (v : ReplyTo). v.answer) (sym is) ∙ tells)
    ∙ self cookie.0))

one_first : (w v : Work) (wanted other : Use) (left more : List Use) → v ≡ w → v.left ≡ other ∷ more → w.left ≡ wanted ∷ left → other
    ≡ wanted
one_first w v wanted other left more e a b = let q : other ∷ more ≡ wanted ∷ left = sym a ∙ ap (λ (u : Work). u.left) e ∙ b in cc

abbrev IsPlainStage : Stage → Type 0
IsPlainStage (Waits w target lock marked) = ⊥
IsPlainStage (CameLock w lock) = ⊥
IsPlainStage _ = Unit {0}

plain_named : (past : List Line) (stage : Stage) → IsPlainStage stage → StageNamed past stage
plain_named past (Waits w target lock marked) n = absurd n
plain_named past (CameLock w lock) n = absurd n
plain_named past stage n = n

module _ (head : Head) (past : List Line) (at : At) (c : ℕ) (q : Running) (g : Grown head past) (own : at.node ≡ Client c)
    (before : StageNamed past q.stage) where
  -- it waits, as it was told
  of_wait : (stage : Stage) → WaitStand past at c q stage → StageNamed past stage
  of_wait stage k =
      subst (StageNamed past) (sym k.is)
      (λ wanted left e.
      subst (λ (u : Use). NamedFor past u k.cookie.0) (one_first k.work k.work wanted k.wanted left k.left refl k.first e)
      (heard_named head past at c k.answers.target k.flight k.answers.reply k.wanted k.extent k.cookie.0 g own k.now k.of_target k.of_op
      k.policy
      (waits_named k.flight k.answers.reply k.cookie k.wanted.resource k.wanted.mode k.extent k.of_op k.tells)))

  of_mark : (stage : Stage) → MarkStand past at q stage → StageNamed past stage
  of_mark stage k = subst (StageNamed past) (sym k.is) (subst (StageNamed past) k.before before)

  of_came : (stage : Stage) → CameStand past at c q stage → StageNamed past stage
  of_came stage k = subst (StageNamed past) (sym k.is) (λ wanted left e. by wanted left e k.from)
    where
      by : (wanted : Use) (left : List Use) → k.work.left ≡ wanted ∷ left → LockBrought past at q k.work k.lock
          ⊎ LockGranted past at q k.work k.lock → NamedFor past wanted k.lock.cookie.0
      by wanted left e (inl b) =
          subst (λ (u : Use). NamedFor past u k.lock.cookie.0) (one_first k.work k.work wanted b.wanted left b.left refl b.first e)
          (heard_named head past at c b.answers.target b.flight b.answers.reply b.wanted b.extent k.lock.cookie.0 g own b.now b.of_target
          b.of_op b.policy (brings_named b.flight b.answers.reply k.lock b.brings))
      by wanted left e (inr b) =
          let waited : StageNamed past (Waits k.work b.target b.waiting b.marked) = subst (StageNamed past) b.stage before in
          subst (λ (l : Lock). NamedFor past wanted l.cookie.0) (sym b.is) (waited wanted left e)

  of_moved : (stage : Stage) → MovedStand past at c q stage → StageNamed past stage
  of_moved stage (inl k) = of_came stage k
  of_moved stage (inr (inl k)) = of_wait stage k
  of_moved stage (inr (inr (inl k))) = of_mark stage k
  of_moved stage (inr (inr (inr (inl k)))) = plain_named past stage (subst IsPlainStage (sym k.is) tt)
  of_moved stage (inr (inr (inr (inr k)))) = plain_named past stage (subst IsPlainStage (sym k.is) tt)

  of_stood : (stage : Stage) (pins : List LockName)
      → SizesStand past at q stage pins ⊎ LockStand past c q stage ⊎ StatStand past at c q stage pins ⊎ GetStand past c q stage pins
      ⊎ FlushStand past c q stage pins ⊎ ((pins ≡ q.pins) × MovedStand past at c q stage)
      → StageNamed past stage
  of_stood stage pins (inl k) =
      plain_named past stage
      (⊎_elim (λ (e : stage ≡ Sizes k.work). subst IsPlainStage (sym e) tt)
      (λ (e : (stage ≡ Enqueued k.work) × LeftSize past at q k.sizes). subst IsPlainStage (sym e.0) tt) k.is)
  of_stood stage pins (inr (inl k)) = plain_named past stage (subst IsPlainStage (sym k.is) tt)
  of_stood stage pins (inr (inr (inl k))) = plain_named past stage (subst IsPlainStage (sym k.is) tt)
  of_stood stage pins (inr (inr (inr (inl k)))) = plain_named past stage (subst IsPlainStage (sym k.is) tt)
  of_stood stage pins (inr (inr (inr (inr (inl k))))) = plain_named past stage (subst IsPlainStage (sym k.is) tt)
  of_stood stage pins (inr (inr (inr (inr (inr k))))) = of_moved stage k.1

stage_named : (head : Head) (past : List Line) → Grown head past → (c slot : ℕ) (r : Running) → call_at c slot past ≡ Some r
    → StageNamed past r.stage
stage_named head [] g c slot r k = absurd (cc)
stage_named head (l ∷ past) g c slot r k =
    ⊎_elim
    (λ (p : call_at c slot past ≡ Some r). stage_line l past r.stage (stage_named head past g.1 c slot r p))
    (λ (p : Began past l.at l.entry c slot r ⊎ (Touched past l.at.node l.entry c slot r ⊎ Stood past l.at c slot r)). ⊎_elim
    (λ (q : Began past l.at l.entry c slot r). plain_named (l ∷ past) r.stage (begins q.begins))
    (⊎_elim
    (λ (q : Touched past l.at.node l.entry c slot r). subst (StageNamed (l ∷ past)) q.stage
    (stage_line l past q.before.stage (stage_named head past g.1 c slot q.before q.call)))
    (λ (q : Stood past l.at c slot r).
    let ok = q.stands in
    subst (StageNamed (l ∷ past)) (ap (λ (v : Running). v.stage) (sym ok.is))
    (stage_line l past ok.stage (of_stood head past l.at c ok.running g.1 q.own (stage_named head past g.1 c slot ok.running ok.call)
    ok.stage ok.pins ok.how))))
    p)
    (call_cases past l.at.stamp l.at.node l.entry g.0.ok c slot r k)
  where
    begins : Begins c past r → IsPlainStage r.stage
    begins (inl b) = subst IsPlainStage (sym b.1) tt
    begins (inr b) = subst IsPlainStage (sym b.1) tt

-- ---- a lock in use was given for what is wanted

pub record FitsUse (past : List Line) (u : Using) : Type 0 where
  pub high : 0 < u.want.target.0
  pub deed : Deed
  pub gave : Gave (only u.want.target.0 past) deed u.lock
  pub of_object : u.lock.resource ≡ u.want.resource
  pub serves : serves u.lock.ask.mode u.want.mode ≡ true
  pub covers : covers u.lock.ask.policy u.want.policy ≡ true

fits_line : (x : Line) (past : List Line) (u : Using) → FitsUse past u → FitsUse (x ∷ past) u
fits_line x past u n = record {
  high = n.high;
  deed = n.deed;
  gave = given_line u.want.target.0 x past n.deed u.lock n.gave;
  of_object =
      n.of_object;
  serves = n.serves;
  covers = n.covers;
}

itself : (m : Mode) → serves m m ≡ true
itself EX = refl
itself PW = refl
itself PR = refl
itself CW = refl
itself CR = refl
itself NL = refl

module _ (head : Head) (past : List Line) (g : Grown head past) (c : ℕ) where
  -- a held lock on a range is of an object storage target
  pub held_high : (h : HeldLock) → In h (held_at c past) → HasRange h.lock.ask.policy → 0 < h.target.0
  held_high h i range = by (held_kind head h.target.0 past g c h (held_in c past h i))
    where
      by : KindOf h.target.0 h.lock → 0 < h.target.0
      by (inl k) = absurd (bits_range h.lock.ask.policy k.1.1 range)
      by (inr k) = k.0

  pub held_gave : (h : HeldLock) (t : ℕ) → h.target.0 ≡ t → In h (held_at c past) → (d : Deed) × Gave (only t past) d h.lock
  held_gave h t there i =
      let k = ((holds head past g).at t).locks.held c h (subst (λ (v : ℕ). In h (held_at c (only v past))) there (held_in c past h i)) in
      (k.deed, k.gave)

  held_fits : (slot : ℕ) (r : Running) → call_at c slot past ≡ Some r → (u : Using) → HeldFor c past r u → FitsUse past u
  held_fits slot r call u k =
      record {
        high = high;
        deed = d;
        gave = gave;
        of_object = ap (λ (l : Lock). l.resource) (sym k.is) ∙ k.locked.of_object;
        serves = does.0;
        covers = does.1;
      }
    where
      h : HeldLock
      h = k.locked.holding

      t : ℕ
      t = u.want.target.0

      high : 0 < t
      high = subst (λ (n : ℕ). 0 < n) k.locked.of_target (held_high h k.locked.held k.locked.ranged)

      given : (d : Deed) × Gave (only t past) d h.lock
      given = held_gave h t k.locked.of_target k.locked.held

      d : Deed
      d = given.0

      gave : Gave (only t past) d u.lock
      gave = subst (λ (l : Lock). Gave (only t past) d l) k.is given.1

      came : CameFor r u → LockDoes u
      came f =
          let n = subst (StageNamed past) f.2 (stage_named head past g c slot r call) u.want f.1 f.3 in
          let same = ((holds head past g).at t).locks.named n.deed d u.lock.cookie.0 n.acted gave.0 n.names
          (gave_names (only t past) d u.lock gave) in
          let fits = covers_asked head past t high g d u.lock gave u.want.resource u.want.mode n.extent
          (ap (λ (y : Deed). y.op) (sym same) ∙ n.of_op) in (
            ap (λ (m : Mode). serves m u.want.mode) fits.1 ∙ itself u.want.mode,
            ap (λ (p : Policy). covers u.lock.ask.policy p) n.policy ∙ fits.2,
          )

      does : LockDoes u
      does = ⊎_elim (λ (y : LockDoes u). y) (λ (f : CameFor r u). came f) k.does

used_fits : (head : Head) (past : List Line) → Grown head past → (c slot : ℕ) (r : Running) → call_at c slot past ≡ Some r → (u : Using)
    → In u (used_in r.stage) → FitsUse past u
used_fits head [] g c slot r k u i = absurd (cc)
used_fits head (l ∷ past) g c slot r k u i =
    ⊎_elim
    (λ (p : call_at c slot past ≡ Some r). more (used_fits head past g.1 c slot r p u i))
    (λ (p : Began past l.at l.entry c slot r ⊎ (Touched past l.at.node l.entry c slot r ⊎ Stood past l.at c slot r)). ⊎_elim
    (λ (q : Began past l.at l.entry c slot r). absurd (begins q.begins i))
    (⊎_elim
    (λ (q : Touched past l.at.node l.entry c slot r). more (used_fits head past g.1 c slot q.before q.call u
    (subst (λ (s : Stage). In u (used_in s)) (sym q.stage) i)))
    (λ (q : Stood past l.at c slot r).
    let ok = q.stands in
    more (⊎_elim (λ (j : In u (used_in ok.running.stage)). used_fits head past g.1 c slot ok.running ok.call u j)
    (λ (j : HeldFor c past ok.running u). held_fits head past g.1 c slot ok.running ok.call u j)
    (ok.uses u (subst (λ (s : Stage). In u (used_in s)) (ap (λ (v : Running). v.stage) ok.is) i)))))
    p)
    (call_cases past l.at.stamp l.at.node l.entry g.0.ok c slot r k)
  where
    more : FitsUse past u → FitsUse (l ∷ past) u
    more = fits_line l past u

    begins : Begins c past r → In u (used_in r.stage) → ⊥
    begins (inl b) j = subst (λ (s : Stage). In u (used_in s)) b.1 j
    begins (inr b) j = subst (λ (s : Stage). In u (used_in s)) b.1 j

-- ---- so it is held now

-- the client holds that lock now, for that use
pub record InUse (c : ℕ) (past : List Line) (u : Using) : Type 0 where
  pub holding : HeldLock
  pub held : In holding (held_at c past)
  pub of_target : holding.target.0 ≡ u.want.target.0
  pub is : holding.lock ≡ u.lock
  pub of_object : u.lock.resource ≡ u.want.resource
  pub serves : serves u.lock.ask.mode u.want.mode ≡ true
  pub covers : covers u.lock.ask.policy u.want.policy ≡ true
  pub high : 0 < u.want.target.0

-- each lock that a call has in use, by where it stands
pub used_held : (head : Head) (past : List Line) → Grown head past → PinsFit past → (c slot : ℕ) (r : Running) → call_at c slot past
    ≡ Some r → (u : Using) → In u (used_in r.stage) → InUse c past u
used_held head past g fit c slot r is u i =
    record {
      holding = named.0;
      held = named.1;
      of_target = there;
      is = same;
      of_object = f.of_object;
      serves = f.serves;
      covers = f.covers;
      high = f.high;
    }
  where
    f : FitsUse past u
    f = used_fits head past g c slot r is u i

    named : HasName (name_under u.want u.lock) (held_at c past)
    named = pins_held past fit c slot r (name_under u.want u.lock) is (mine_all head past g c slot r is u i)

    parts : (nat_eq u.want.target.0 named.0.target.0 ≡ true) × (nat_eq u.lock.cookie.0 named.0.lock.cookie.0 ≡ true)
    parts = and_parts (nat_eq u.want.target.0 named.0.target.0) (nat_eq u.lock.cookie.0 named.0.lock.cookie.0) named.2

    there : named.0.target.0 ≡ u.want.target.0
    there = sym (eqb-true u.want.target.0 named.0.target.0 parts.0)

    cookie : named.0.lock.cookie ≡ u.lock.cookie
    cookie = ap (λ (n : ℕ). record { 0 = n }) (sym (eqb-true u.lock.cookie.0 named.0.lock.cookie.0 parts.1))

    given : (d : Deed) × Gave (only u.want.target.0 past) d named.0.lock
    given = held_gave head past g c named.0 u.want.target.0 there named.1

    same : named.0.lock ≡ u.lock
    same = (((holds head past g).at u.want.target.0).locks.once given.0 f.deed named.0.lock u.lock given.1 f.gave cookie).1

-- and each that it uses as it goes on, as a guard says of it
pub uses_held : (head : Head) (past : List Line) → Grown head past → PinsFit past → (c slot : ℕ) (r : Running) (us : List Using)
    → call_at c slot past ≡ Some r → UsesHeld c past r us → (u : Using) → In u us → InUse c past u
uses_held head past g fit c slot r us is uses u i = ⊎_elim (λ (j : In u (used_in r.stage)). used_held head past g fit c slot r is u j) now
    (uses u i)
  where
    now : HeldFor c past r u → InUse c past u
    now k =
        let f = held_fits head past g c slot r is u k in
        record {
          holding = k.locked.holding;
          held = k.locked.held;
          of_target = k.locked.of_target;
          is = k.is;
          of_object = f.of_object;
          serves = f.serves;
          covers = f.covers;
          high = f.high;
        }
