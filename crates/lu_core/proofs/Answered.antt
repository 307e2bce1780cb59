-- What is sent to a client in a run that changes no bytes, in which no turn asks a disk, may come to it: it is a block, or a reply of a
-- target of the run that
-- brings no size above 0 with a lock, and no lock that is held already.
use Rattle.std.proofs.Common.{◌≡◌, ℕ, zero, suc, ◌+◌, ◌<◌, ◌≤◌, Bool, true, false, List, [], ◌∷◌, length, map, Option, Some, None, ◌++◌}
use Rattle.std.proofs.Common.{◌⊎◌, inl, inr, ⊎_elim, refl, sym, subst, ap, ◌∙◌, arith}
use Rattle.std.proofs.lemmas.Bool.{and_parts}
use Rattle.std.proofs.lemmas.Bool.Decides.{nat_tests}
use Rattle.std.proofs.lemmas.List.FromFn.{length-map-range_with_len}
use Rattle.std.specs.List.{range_with_len}
use Rattle.std.specs.Prelude.{nat_eq, nat_lt, ◌&&◌, not, if◌then◌else◌}
use Rattle.lu_base.specs.declared.ids.Cookie.{Cookie}
use Rattle.lu_base.specs.declared.ids.Node.{Node}
use Rattle.lu_base.specs.declared.ids.Node.TheVariants as node
use Rattle.lu_base.specs.declared.ids.TargetId.{TargetId}
use Rattle.lu_base.specs.declared.ids.Who.{Who}
use Rattle.lu_base.specs.declared.locks.Lock.{Lock}
use Rattle.lu_msg.specs.declared.answers.Answer.{Answer}
use Rattle.lu_msg.specs.declared.answers.Answer.TheVariants as told
use Rattle.lu_msg.specs.declared.messages.Message.{Message}
use Rattle.lu_msg.specs.declared.messages.Message.TheVariants as message
use Rattle.lu_msg.specs.declared.messages.Reply.{Reply as ReplyTo}
use Rattle.lu_msg.specs.declared.operations.Op.{Op}
use Rattle.lu_msg.specs.declared.operations.Op.TheVariants as op
use Rattle.lu_held.specs.declared.locks.HeldLock.{HeldLock}
use Rattle.lu_held.specs.declared.names.LockName.{LockName}
use Rattle.lu_held.specs.Held.{is_held}
use Rattle.lu_held.specs.Locks.{named, name_of, is_named}
use Rattle.lu_spec_machine.specs.Fits.{answer_fits}
use Rattle.lu_spec_entries.specs.Carried.{Deed, Flight}
use Rattle.lu_spec_entries.specs.Concerns.{only}
use Rattle.lu_spec_entries.specs.Sent.{Sent}
use Rattle.lu_spec_entries.specs.Words.{Line, same_life}
use Rattle.lu_spec_client.specs.Caches.{held_at, held_as, with_held, granted_lock, brought}
use Rattle.lu_spec_client.specs.Imports.{Import, import_of, import_at}
use Rattle.lu_spec_client.specs.Messages.{find_flight, is_present, size_with}
use Rattle.lu_spec_client.specs.States.{Client}
use Rattle.lu_proof_lawful.specs.Covered.ClientStates.{flights_of, life_of}
use Rattle.lu_spec_run.specs.Heads.{Head}
use Rattle.lu_spec_run.specs.Runs.{client_of}
use Rattle.lu_proof_scenes.proofs.ClientLines.{IsLock, IsBytes, IsSimple, IsAskedOf, asked_parts, brings_its, no_size, reply_differs}
use Rattle.lu_proof_scenes.proofs.ClientLocks.{Differ, none_any, names_same, with_only}
use Rattle.lu_proof_scenes.proofs.Guards.{In, Was}
use Rattle.lu_proof_scenes.proofs.Grown.{Grown}
use Rattle.lu_proof_scenes.proofs.LockKinds.{reply_bare}
use Rattle.lu_proof_scenes.proofs.BareObjects.{IsBareOp}
use Rattle.lu_proof_scenes.proofs.BareCalls.{BareAnswer, BareSoFar, object_answer}
use Rattle.lu_proof_scenes.proofs.FactLines.{acted_whole}
use Rattle.lu_proof_scenes.proofs.Refused.{acted_answered}
use Rattle.lu_proof_scenes.proofs.Held.{held_into}
use Rattle.lu_proof_scenes.proofs.FactLockLists.{brought_again}
use Rattle.lu_proof_scenes.proofs.Only.{sent_was, was_only, grown_of}
use Rattle.lu_proof_scenes.proofs.Parts.{flights_is, life_is_of}
use Rattle.lu_proof_scenes.proofs.GuardTurns.{covered_head}
use Rattle.lu_proof_scenes.proofs.All.{holds}
use Rattle.lu_proof_scenes.proofs.Sides.{flew_kind}
use Rattle.lu_proof_scenes.proofs.Groups.{HoldsAt}
use Rattle.lu_proof_lawful.proofs.Invariants.TargetGroups.{Flew, RepliesTo}
use Rattle.lu_proof_scenes.proofs.Lists.{self, life_is}
use Rattle.lu_proof_scenes.proofs.Arrivals.{Goes, was_goes}
use Rattle.lu_proof_scenes.proofs.Asking.{IsNode, AllSuit, was_suits}
use Rattle.lu_run_nodes.specs.Comings.{are_new, is_short, is_in_file, may_answer, may_fit, may_reply, may_from, may_come}
use Rattle.lu_proof_scenes.proofs.ClientHears.{one_differs}
use Rattle.lu_proof_scenes.proofs.ClientReplies.{found_in}

-- ---- locks that come are new

-- a target
abbrev of : ℕ → TargetId
of t = record { 0 = t }

free_so : (t : ℕ) (l : Lock) (held : List HeldLock) → ((h : HeldLock) → In h held → h.target.0 ≡ t → h.lock.cookie ≡ l.cookie → ⊥)
    → is_held (named (of t) l.cookie) held ≡ false
free_so t l held apart = none_any (is_named (named (of t) l.cookie)) held
    (λ h i. by h (is_named (named (of t) l.cookie) h) refl (apart h i))
  where
    by : (h : HeldLock) (b : Bool) → is_named (named (of t) l.cookie) h ≡ b → (h.target.0 ≡ t → h.lock.cookie ≡ l.cookie → ⊥) → b ≡ false
    by h false e away = refl
    by h true e away =
        let same = names_same (named (of t) l.cookie) (name_of h) e in
        absurd (away (ap (λ (n : LockName). n.target.0) (sym same)) (ap (λ (n : LockName). n.cookie) (sym same)))

new_so : (t : ℕ) (locks : List Lock) (held : List HeldLock) → Differ locks
    → ((l : Lock) → In l locks → (h : HeldLock) → In h held → h.target.0 ≡ t → h.lock.cookie ≡ l.cookie → ⊥) → are_new t locks held ≡ true
new_so t [] held differ apart = refl
new_so t (l ∷ locks) held differ apart =
    let free = free_so t l held (apart l (inl refl)) in
    let rest = new_so t locks (with_held (held_as t l false) held) differ.1 (λ m i h j there same. ⊎_elim
    (λ (e : held_as t l false ≡ h).
    let one : l.cookie.0 ≡ m.cookie.0 = ap (λ (x : HeldLock). x.lock.cookie.0) e ∙ ap (λ (x : Cookie). x.0) same in
    let other = differ.0 m i in
    grind (arith, nat_tests, one, other))
    (λ (k : In h held). apart m (inr i) h k there same)
    (with_only (held_as t l false) h held j)) in
    ap (λ (b : Bool). not b && are_new t locks (with_held (held_as t l false) held)) free ∙ rest

-- ---- the size that comes with it is 0

short_so : (a : Answer) → BareAnswer a → is_short (size_with a) ≡ true
short_so (told.Granted cookie extent size) bare = ap (λ (n : ℕ). is_short (Some n)) bare.1
short_so a bare = refl

-- no answer to an operation without a lock on an object brings one
short_simple : (o : Op) (a : Answer) → IsSimple o → answer_fits o a ≡ true → is_short (size_with a) ≡ true
short_simple o a simple fits = ap is_short (no_size o a simple fits)

-- ---- what is asked lies in a file

bare_in_file : (o : Op) → IsBareOp o → is_in_file o ≡ true
bare_in_file (op.Get resource cookie page) is = absurd is
bare_in_file (op.Put resource cookie offset bytes) is = absurd is
bare_in_file (op.Cut resource cookie size) is = absurd is
bare_in_file _ is = refl

-- ---- the import of each target of the run

import_from : (f : ℕ → Import) (n from t : ℕ) → t < n → import_of t (map f (range_with_len from n)) ≡ f (from + t)
import_from f zero from t low = absurd (omega (arith, low))
import_from f (suc n) from zero low = ap f (let same : from ≡ from + 0 = omega arith in same)
import_from f (suc n) from (suc t) low = import_from f n (from + 1) t (omega (arith, low))
    ∙ ap f (let same : from + 1 + t ≡ from + suc t = omega arith in same)

module _ (head : Head) (past : List Line) (g : Grown (covered_head head) past) (bare : BareSoFar (covered_head head) past) (c : ℕ) where
  abbrev k : Client
  k = client_of head c past

  some_imports : (t : ℕ) → t ≤ head.osts → nat_lt t (length k.imports) ≡ true
  some_imports t one =
      let all : length k.imports ≡ head.osts + 1 = length-map-range_with_len (λ (u : ℕ). import_at c u past) 0 (head.osts + 1) in
      rw all (grind (arith, nat_tests))

  module _ (t : ℕ) (there : t ≤ head.osts) where
    abbrev story : List Line
    story = only t past

    h : HoldsAt (covered_head head) story
    h = (holds (covered_head head) past g).at t

    import_is : import_of t k.imports ≡ import_at c t past
    import_is = import_from (λ (u : ℕ). import_at c u past) (head.osts + 1) 0 t (omega (arith, there))
        ∙ ap (λ (u : ℕ). import_at c u past) (let same : 0 + t ≡ t = omega arith in same)

    -- the client's life, and what it asks
    abbrev life : Who
    life = life_of c story

    flights_story : (import_of t k.imports).flights ≡ flights_of life story
    flights_story =
        ap (λ (i : Import). i.flights) import_is ∙ flights_is (covered_head head) c t past g
        ∙ ap (λ (who : Who). flights_of who story) (life_is_of c t past)

    -- ---- a reply to a request that is in flight

    module _ (r : ReplyTo) (was : Was past (node.Target t) (node.Client c) (message.Reply r)) (f : Flight)
        (flying : In f (flights_of life story)) (number : f.xid ≡ r.xid.0) (mine : r.who ≡ life) where
      here : Was story (node.Target t) (node.Client c) (message.Reply r)
      here = was_only t past (node.Target t) (node.Client c) (message.Reply r) (self t) was

      -- it is what was done for the request
      meant : RepliesTo head.osts story c r
      meant = h.done.sent (node.Target t) (node.Client c) (message.Reply r) here

      abbrev d : Deed
      d = meant.deed

      same_op : f.op ≡ d.op
      same_op =
          let flew = h.done.flew d meant.acted in
          let who : d.reply.who ≡ life = sym (ap (λ (v : ReplyTo). v.who) meant.is) ∙ mine in
          let xid : f.xid ≡ flew.0.xid = number ∙ ap (λ (v : ReplyTo). v.xid.0) meant.is ∙ sym flew.2 in
          ap (λ (x : Flight). x.op) (h.numbers.one life f flew.0 (h.numbers.flying life f flying)
          (subst (λ (w : Who). Flew story w flew.0) who flew.1) xid) ∙ flew.3

      brings : brought f.op r ≡ brought d.op d.reply
      brings = ap (λ (o : Op). brought o r) same_op ∙ brought_again d.op d.reply r meant.is

      -- no lock that it brings is held: what is held came with a reply that was heard
      unheld : (l : Lock) → In l (brought f.op r) → (x : HeldLock) → In x (held_at c past) → x.target.0 ≡ t → x.lock.cookie ≡ l.cookie → ⊥
      unheld l i x j of_target same =
          let holding = h.locks.held c x (held_into c t past x of_target j) in
          let among : In l (brought d.op d.reply) = subst (λ (ls : List Lock). In l ls) brings i in
          let one = (h.locks.once d holding.deed l x.lock (meant.acted, inl among) holding.gave (sym same)).0 in
          let xid : f.xid ≡ holding.deed.reply.xid.0 = number ∙ ap (λ (v : ReplyTo). v.xid.0) meant.is
          ∙ ap (λ (v : Deed). v.reply.xid.0) one in
          (h.numbers.over life holding.deed.reply.xid.0 holding.heard).1 f flying xid

      asked : IsAskedOf t f.op
      asked = flew_kind (covered_head head) past t life f g (h.numbers.flying life f flying)

      differ : IsSimple f.op ⊎ ((0 < t) × (IsLock f.op ⊎ IsBytes f.op)) → Differ (brought f.op r)
      differ (inl simple) = subst Differ (sym (brings_its f.op r simple))
          (reply_differs (covered_head head) story (node.Target t) c r (grown_of (covered_head head) t past g) here)
      differ (inr object) =
          subst (λ (ls : List Lock). Differ (ls ++ granted_lock f.op r r.answer))
          (sym (reply_bare (covered_head head) t past g object.0 (node.Target t) (node.Client c) r here)) (one_differs f.op r r.answer)

      locks_new : are_new t (brought f.op r) k.store.held ≡ true
      locks_new = new_so t (brought f.op r) k.store.held (differ (asked_parts t f.op asked)) unheld

      short : is_short (size_with r.answer) ≡ true
      short = by asked
        where
          same_answer : r.answer ≡ d.reply.answer
          same_answer = ap (λ (v : ReplyTo). v.answer) meant.is

          by : IsAskedOf t f.op → is_short (size_with r.answer) ≡ true
          by (inl names) = ⊎_elim
              (λ (simple : IsSimple f.op). short_simple f.op r.answer simple
              (ap (λ (o : Op). answer_fits o r.answer) same_op ∙ ap (answer_fits d.op) same_answer
              ∙ (acted_answered (covered_head head) past d g (acted_whole t past d meant.acted)).0))
              (λ (object : (0 < t) × (IsLock f.op ⊎ IsBytes f.op)). absurd
              (let zero = names.0 in let high = object.0 in omega (arith, zero, high)))
              (asked_parts t f.op asked)
          by (inr object) = short_so r.answer (subst BareAnswer (sym same_answer)
              (object_answer d ((bare.targets t object.0).deeds d meant.acted)))

      in_file : is_in_file f.op ≡ true
      in_file = bare_in_file f.op (bare.flew t life f (h.numbers.flying life f flying)).0

      answers : may_answer t r f k ≡ true
      answers = rw (locks_new, short, in_file) refl

    reply_comes : (r : ReplyTo) → Was past (node.Target t) (node.Client c) (message.Reply r) → may_reply t r k ≡ true
    reply_comes r was = by (is_present r.who r.boot t k) refl
      where
        fit : r.who ≡ life → (o : Option Flight) → find_flight r.xid.0 (import_of t k.imports).flights ≡ o → may_fit t r k o ≡ true
        fit mine None found = refl
        fit mine (Some f) found = by_answer (answer_fits f.op r.answer)
          where
            by_answer : (b : Bool) → (if b then may_answer t r f k else true) ≡ true
            by_answer false = refl
            by_answer true =
                let i = found_in r.xid.0 (import_of t k.imports).flights f found in
                answers r was f (subst (λ (fs : List Flight). In f fs) flights_story i.0) i.1 mine

        by : (b : Bool) → is_present r.who r.boot t k ≡ b → (if b then may_fit t r k (find_flight r.xid.0 (import_of t k.imports).flights)
            else true) ≡ true
        by false e = refl
        by true e =
            let same = and_parts (same_life r.who k.who) (nat_eq r.boot (import_of t k.imports).boot) e in
            fit (life_is r.who k.who same.0 ∙ life_is_of c t past) (find_flight r.xid.0 (import_of t k.imports).flights) refl

  -- ---- what is sent to a client

  module _ (MayAsk : Type 0) (none : MayAsk → ⊥) (suits : AllSuit MayAsk head.osts head.clients past) where
    from_so : (t : ℕ) (m : Message) → t ≤ head.osts → Was past (node.Target t) (node.Client c) m → Goes (node.Target t) (node.Client c) m
        → may_from t m k ≡ true
    from_so t (message.Reply r) there was goes = reply_comes t there r was
    from_so t (message.Block who boot cookie) there was goes = refl
    from_so t (message.Up boot) there was goes = absurd (none (was_suits MayAsk head.osts head.clients past (node.Target t) (node.Client c)
        (message.Up boot) suits was).0.0)
    from_so t (message.Ready who boot committed) there was goes = refl
    from_so t (message.Grant notice) there was goes = absurd (bare.given (node.Target t) (node.Client c) notice was)
    from_so t (message.Ask who boot cookie for_who xid) there was goes = refl
    from_so t (message.Evicted who boot) there was goes = absurd
        (none (was_suits MayAsk head.osts head.clients past (node.Target t) (node.Client c) (message.Evicted who boot) suits was).0)
    from_so t m there was goes = absurd goes

    pub comes : (n : ℕ) (from : Node) (m : Message) → Sent past n from (node.Client c) m → ((t : ℕ) × (from ≡ node.Target t))
        × (may_come from m k ≡ true)
    comes n from m sent =
        let was = sent_was past n from (node.Client c) m sent in
        by from was (was_goes (covered_head head) past from (node.Client c) m g was)
        (was_suits MayAsk head.osts head.clients past from (node.Client c) m suits was).1
      where
        by : (from : Node) → Was past from (node.Client c) m → Goes from (node.Client c) m → IsNode head.osts from
            → ((t : ℕ) × (from ≡ node.Target t)) × (may_come from m k ≡ true)
        by (node.Target t) was goes there = ((t, refl), rw (some_imports t there, from_so t m there was goes) refl)
        by (node.Client d) was goes there = absurd goes
