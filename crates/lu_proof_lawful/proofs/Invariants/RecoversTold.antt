-- What a life that recovers told is what it has, as long as the target recovers: a client that knows the present boot hears nothing of it.
use Rattle.std.proofs.Common.{◌≡◌, ℕ, ◌<◌, ◌≤◌, Bool, true, false, List, [], refl, sym, subst, ap, ◌∙◌, arith}
use Rattle.std.specs.Prelude.{length}
use Rattle.std.proofs.lemmas.Bool.{eqb-false}
use Rattle.lu_base.specs.declared.ids.At.{At}
use Rattle.lu_base.specs.declared.ids.Node.{Node}
use Rattle.lu_base.specs.declared.ids.Node.TheVariants.{Client, Target}
use Rattle.lu_base.specs.declared.ids.Who.{Who}
use Rattle.lu_base.specs.declared.locks.Lock.{Lock}
use Rattle.lu_held.specs.declared.locks.HeldLock.{HeldLock}
use Rattle.lu_msg.specs.declared.messages.Message.{Message}
use Rattle.lu_msg.specs.declared.messages.Message.TheVariants as message
use Rattle.lu_msg.specs.declared.messages.Reply.{Reply as ReplyTo}
use Rattle.lu_spec_entries.specs.Carried.{Deed, Flight, Said}
use Rattle.lu_spec_entries.specs.Words.{Line}
use Rattle.lu_spec_target.specs.Windows.{Replayed, word_of}
use Rattle.lu_spec_client.specs.Caches.{held_at}
use Rattle.lu_spec_client.specs.Imports.{Kept}
use Rattle.lu_proof_lawful.specs.Covered.Imports.{Joining}
use Rattle.lu_proof_lawful.specs.Covered.TargetStates.{server_of, closed_of, replays_of, brought_of, words_of, wishes_of}
use Rattle.lu_proof_lawful.specs.Covered.ClientStates.{life_of, known_of, standing_of, kept_of, is_own}
use Rattle.lu_proof_lawful.specs.Covered.Heads.{Head}
use Rattle.lu_proof_lawful.proofs.Preconditions.CloseLists.{OneEach}
use Rattle.lu_proof_lawful.proofs.Preconditions.Guards.{In, Was, HeardNow}
use Rattle.lu_proof_lawful.proofs.Preconditions.StoryGuards.{IsRecovering, SendOf, locks_told}
use Rattle.lu_proof_lawful.proofs.Preconditions.Lists.{own_is, empty_list}
use Rattle.lu_proof_lawful.proofs.Invariants.Groups.{HeardAs, ReplayedRise, BroughtRise, Replays, Relocks, Worded, NothingOf, ToldIn}
use Rattle.lu_proof_lawful.proofs.Invariants.Groups.{Recovers, HoldsAt}
use Rattle.lu_proof_lawful.proofs.Invariants.TargetGroups.{Flew, told_of, Gave, HasSlot, Phase, Lives, boot_told, who_told}
use Rattle.lu_proof_lawful.proofs.Invariants.Keeps.{heard_flew, saw_flew}

-- ---- who doesn't know the boot of a target that recovers

pub recovers_below : (osts : ℕ) (past : List Line) → Phase osts past → IsRecovering osts past → closed_of past < (server_of osts past).boot
recovers_below osts past p off = let le = p.under in let ne = eqb-false (closed_of past) (server_of osts past).boot off
    in omega (arith, le, ne)

-- a client that knows no boot but such that served
pub low_not : (osts : ℕ) (past : List Line) (d : ℕ) → known_of d past ≤ closed_of past → Phase osts past → IsRecovering osts past → (c : ℕ)
    → (server_of osts past).boot ≤ known_of c past → c ≡ d → ⊥
low_not osts past d low p off c le e =
    let lt = recovers_below osts past p off in
    let same : known_of c past ≡ known_of d past = ap (λ v. known_of v past) e in
    omega (arith, lt, low, le, same)

-- so its lines are of no life that knows the present one
pub low_other : (osts : ℕ) (past : List Line) (d : ℕ) → known_of d past ≤ closed_of past → Phase osts past → IsRecovering osts past
    → (who : Who) → (server_of osts past).boot ≤ known_of who.client past → is_own who past (Client d) ≡ false
low_other osts past d low p off who le = by (is_own who past (Client d)) refl
  where
    by : (b : Bool) → is_own who past (Client d) ≡ b → b ≡ false
    by true own = absurd (low_not osts past d low p off who.client le (ap (λ (w : Who). w.client) (own_is who past d own) ∙ p.client d))
    by false own = refl

-- ---- what a line leaves as it is, of a life with a slot whose client knows the boot, while the target recovers

pub record Leaves (osts clients : ℕ) (past new : List Line) : Type 0 where
  pub off : IsRecovering osts new → IsRecovering osts past
  pub boot : (server_of osts new).boot ≡ (server_of osts past).boot
  pub had : (who : Who) → HasSlot clients new who → HasSlot clients past who
  pub has : (who : Who) → HasSlot clients past who → HasSlot clients new who
  pub known : (c : ℕ) → known_of c past ≤ known_of c new
  pub life : (c : ℕ) → (life_of c past).life ≤ (life_of c new).life
  pub kept : IsRecovering osts past → (who : Who) → HasSlot clients past who → (server_of osts past).boot ≤ known_of who.client past
      → kept_of who new ≡ kept_of who past
  pub heard : IsRecovering osts past → (who : Who) → HasSlot clients past who → (server_of osts past).boot ≤ known_of who.client past
      → (f : Flight) (r : ReplyTo) → HeardAs new who f r → HeardAs past who f r
  pub locks : IsRecovering osts past → (who : Who) → HasSlot clients past who → (server_of osts past).boot ≤ known_of who.client past
      → told_of who new ≡ told_of who past
  pub gave : (d : Deed) (l : Lock) → Gave past d l → Gave new d l

module _ (osts clients : ℕ) (past new : List Line) (s : Leaves osts clients past new) (off : IsRecovering osts past) (who : Who)
    (has : HasSlot clients past who) (knows : (server_of osts past).boot ≤ known_of who.client past) where
  kept_still : kept_of who new ≡ kept_of who past
  kept_still = s.kept off who has knows

  locks_still : told_of who new ≡ told_of who past
  locks_still = s.locks off who has knows

  pub worded_still : (replays locks : ℕ) (seen : List ℕ) → Worded past who replays locks seen → Worded new who replays locks seen
  worded_still replays locks seen w = (
    w.0 ∙ ap (λ (k : Kept). length k.replays) (sym kept_still),
    w.1 ∙ ap (λ (k : Kept). k.seen) (sym kept_still),
    subst (λ (ks : List Lock). length ks ≤ locks) (sym locks_still) w.2,
  )

  pub nothing_still : NothingOf past who → NothingOf new who
  nothing_still n = (
    ap (λ (k : Kept). k.replays) kept_still ∙ n.0,
    ap (λ (k : Kept). k.seen) kept_still ∙ n.1,
    λ f r i. n.2 f r (s.heard off who has knows f r i),
    locks_still ∙ n.3,
  )

pub replays_still : (osts clients : ℕ) (past new : List Line) → Leaves osts clients past new → IsRecovering osts past → (r : Replayed)
    → HasSlot clients past r.who → (server_of osts past).boot ≤ known_of r.who.client past → Replays past r → Replays new r
replays_still osts clients past new s off r has knows h = (
  h.0,
  subst (λ (k : Kept). In h.0 k.replays) (sym (s.kept off r.who has knows)) h.1,
  h.2,
)

pub relocks_still : (osts clients : ℕ) (past new : List Line) → Leaves osts clients past new → IsRecovering osts past → (l : Lock)
    → HasSlot clients past l.ask.who → (server_of osts past).boot ≤ known_of l.ask.who.client past → Relocks past l → Relocks new l
relocks_still osts clients past new s off l has knows h =
    ((h.0.0, s.gave h.0.0 l h.0.1, h.0.2), subst (λ (ks : List Lock). In l ks) (sym (s.locks off l.ask.who has knows)) h.1)

-- so what it told stays true
pub told_still : (osts clients : ℕ) (past new : List Line) → Leaves osts clients past new → IsRecovering osts past → (m : Message)
    → HasSlot clients past (who_told m) → (server_of osts past).boot ≤ known_of (who_told m).client past → ToldIn past m → ToldIn new m
told_still osts clients past new s off (message.Replay r) has knows h =
    (h.0, subst (λ (k : Kept). In h.0 k.replays) (sym (s.kept off r.who has knows)) h.1, h.2)
told_still osts clients past new s off (message.Lock r) has knows h = (
  h.0,
  relocks_still osts clients past new s off h.0 (subst (HasSlot clients past) (sym h.2) has)
      (subst (λ (w : Who). (server_of osts past).boot ≤ known_of w.client past) (sym h.2) knows) h.1,
  h.2,
  h.3,
)
told_still osts clients past new s off (message.Word who boot replays locks seen) has knows h =
    worded_still osts clients past new s off who has knows replays locks seen h
told_still osts clients past new s off (message.Join who boot) has knows h = nothing_still osts clients past new s off who has knows h
told_still osts clients past new s off m has knows h = tt

-- ---- a line that takes nothing, and changes nothing of such lives

module _ (osts clients : ℕ) (past new : List Line) (s : Leaves osts clients past new) (l : Lives clients past)
    (h : Recovers osts clients past) where
  -- a message sent before
  pub told_again : (from to : Node) (m : Message) → Was past from to m → IsRecovering osts new → (server_of osts new).boot ≤ boot_told m
      → HasSlot clients new (who_told m) → ToldIn new m
  told_again from to m w off le has =
      let o = s.off off in let e = s.boot in
      let low : (server_of osts past).boot ≤ boot_told m = omega (arith, e, le) in
      let knew = l.knew from to m w in
      told_still osts clients past new s o m (s.had (who_told m) has) (omega (arith, low, knew))
      (h.told from to m w o low (s.had (who_told m) has))

  -- the boot is known still
  knows_still : (c : ℕ) → (server_of osts past).boot ≤ known_of c past → (server_of osts new).boot ≤ known_of c new
  knows_still c le = let e = s.boot in let more = s.known c in omega (arith, e, more, le)

  pub record Quiet : Type 0 where
    pub told : (from to : Node) (m : Message) → Was new from to m → IsRecovering osts new → (server_of osts new).boot ≤ boot_told m
        → HasSlot clients new (who_told m) → ToldIn new m
    pub replays : replays_of new ≡ replays_of past
    pub brought : brought_of new ≡ brought_of past
    pub words : words_of new ≡ words_of past
    pub wishes : wishes_of new ≡ wishes_of past
    pub holds : IsRecovering osts new → (c : ℕ) → (server_of osts new).boot ≤ known_of c new → (x : HeldLock) → In x (held_at c new)
        → In x.lock (told_of (life_of c new) new)
    pub bare : (c : ℕ) → standing_of c new ≡ Joining → told_of (life_of c new) new ≡ []
    pub told_as : (c : ℕ) → locks_told c new ≡ told_of (life_of c new) new
    pub later : (who : Who) → (life_of who.client new).life < who.life → told_of who new ≡ []
    pub hears : (at : At) (c t : ℕ) (f : Flight) (r : ReplyTo) → at.node ≡ Client c → HeardNow new at t f r → known_of c new ≤ closed_of new

  pub recovers_still : Quiet → Recovers osts clients new
  recovers_still q =
      record {
        told = q.told;
        replays = λ off r i.
            let o = s.off off in
            let p = h.replays o r (subst (λ (rs : List Replayed). In r rs) q.replays i) in
            (s.has r.who p.0, knows_still r.who.client p.1, replays_still osts clients past new s o r p.0 p.1 p.2);
        replays_rise = subst (λ (rs : List Replayed). ReplayedRise rs) (sym q.replays) h.replays_rise;
        brought = λ off k i.
            let o = s.off off in
            let p = h.brought o k (subst (λ (ks : List Lock). In k ks) q.brought i) in
            (s.has k.ask.who p.0, knows_still k.ask.who.client p.1, relocks_still osts clients past new s o k p.0 p.1 p.2);
        brought_rise = subst (λ (ks : List Lock). BroughtRise ks) (sym q.brought) h.brought_rise;
        words = λ off who w e.
            let o = s.off off in
            let p = h.words o who w (ap (λ (ws : List Said). word_of who ws) (sym q.words) ∙ e) in (
              p.0,
              s.has who p.1,
              knows_still who.client p.2,
              worded_still osts clients past new s o who p.1 p.2 w.replays w.locks w.seen
                  p.3,
            );
        wishes = λ off who i.
            let p = h.wishes (s.off off) who (subst (λ (ws : List Who). In who ws) q.wishes i) in (
              p.0,
              s.has p.0 p.1,
              p.2,
              p.3,
              (let low = p.4 in let more = s.life who.client in omega (arith, low, more)),
              knows_still who.client p.5,
            );
        wishes_rise = subst (λ (ws : List Who). OneEach ws) (sym q.wishes) h.wishes_rise;
        holds = q.holds;
        bare = q.bare;
        told_as = q.told_as;
        later = q.later;
        hears = q.hears;
      }

-- ---- what a life sends is what it has

-- a life that joins has heard nothing, and holds nothing
pub joins_heard : (head : Head) (past : List Line) → HoldsAt head past → (c : ℕ) → standing_of c past ≡ Joining → (f : Flight) (r : ReplyTo)
    → HeardAs past (life_of c past) f r → ⊥
joins_heard head past h c j f r i = let a = heard_flew head.osts head.clients past h.done (life_of c past) f r i
    in h.lives.silent c j a.0 a.1

pub joins_holds : (head : Head) (past : List Line) → HoldsAt head past → (c : ℕ) → standing_of c past ≡ Joining → held_at c past ≡ []
joins_holds head past h c j = empty_list (held_at c past) none
  where
    none : (x : HeldLock) → In x (held_at c past) → ⊥
    none x i =
        let g = h.locks.held c x i in
        let flew = h.done.flew g.deed g.gave.0 in
        h.lives.silent c j flew.0 (subst (λ (w : Who). Flew past w flew.0) g.who flew.1)

pub joins_nothing : (head : Head) (past : List Line) → HoldsAt head past → (c : ℕ) → standing_of c past ≡ Joining
    → NothingOf past (life_of c past)
joins_nothing head past h c j = (
  empty_list (kept_of (life_of c past) past).replays (λ k i. let p = h.keeps.kept_replay (life_of c past) k i
      in joins_heard head past h c j p.0 p.1 p.2),
  empty_list (kept_of (life_of c past) past).seen (λ n i. let f =
      saw_flew head.osts head.clients past h.done h.keeps (life_of c past) n (h.keeps.kept_seen (life_of c past) n i)
      in h.lives.silent c j f.0 f.1),
  joins_heard head past h c j,
  h.recovers.bare c j,
)

-- a lock that is held is one that was held when the client was told the boot
pub holds_told : (head : Head) (past : List Line) → HoldsAt head past → IsRecovering head.osts past → (c : ℕ)
    → (server_of head.osts past).boot ≤ known_of c past → (x : HeldLock) → In x (held_at c past) → Relocks past x.lock
    × (x.lock.ask.who ≡ life_of c past)
holds_told head past h off c le x i =
    let g = h.locks.held c x i in
    let own : x.lock.ask.who ≡ life_of c past = h.locks.whose g.deed x.lock g.gave ∙ g.who in (
      (
        (g.deed, g.gave, sym (h.locks.whose g.deed x.lock g.gave)),
        subst (λ (w : Who). In x.lock (told_of w past)) (sym own) (h.recovers.holds off c le x i),
      ),
      own,
    )

pub sent_told : (head : Head) (past : List Line) (node to : Node) (m : Message) → SendOf head past node to m → HoldsAt head past
    → IsRecovering head.osts past → (server_of head.osts past).boot ≤ boot_told m → ToldIn past m
sent_told head past (Client c) (Target t) (message.Replay r) ok h off le = (ok.replay, ok.kept, ok.is)
sent_told head past (Client c) (Target t) (message.Lock r) ok h off le =
    let q = holds_told head past h off c (let e = ok.tells.of_boot in omega (arith, e, le)) ok.holding ok.held in
    (ok.holding.lock, q.0, q.1 ∙ sym ok.tells.of_life, ok.is)
sent_told head past (Client c) (Target t) (message.Word who boot replays locks seen) ok h off le =
    let told : locks_told c past ≡ told_of who past = h.recovers.told_as c ∙ ap (λ (w : Who). told_of w past) (sym ok.tells.of_life) in (
      ok.of_replays,
      ok.of_seen,
      subst (λ (ks : List Lock). length ks ≤ locks) told
          (let is = ok.of_locks in let le = ok.whole in omega (arith, is, le)),
    )
sent_told head past (Client c) (Target t) (message.Join who boot) ok h off le =
    subst (NothingOf past) (sym ok.of_life) (joins_nothing head past h c ok.joins)
sent_told head past (Client c) (Client d) m ok h off le = absurd ok
sent_told head past (Target t) (Target u) m ok h off le = absurd ok
sent_told head past (Target t) (Client c) (message.Replay r) ok h off le = absurd ok
sent_told head past (Target t) (Client c) (message.Lock r) ok h off le = absurd ok
sent_told head past (Target t) (Client c) (message.Word who boot replays locks seen) ok h off le = absurd ok
sent_told head past (Target t) (Client c) (message.Join who boot) ok h off le = absurd ok
sent_told head past node to m ok h off le = tt
