-- A tick of a target: lives leave whose locks were called back too long ago, in an earlier turn; what is called back still is called back
-- again, and of whom a glimpse still waits is asked again.
use Rattle.std.proofs.Common.{◌≡◌, ℕ, Bool, true, false, List, [], ◌∷◌, ◌++◌, ◌⊎◌, inl, inr, ⊎_elim, refl, sym, subst, ap, ◌∙◌, arith}
use Rattle.std.specs.Prelude.{nat_eq, ◌&&◌, ◌||◌, not, if◌then◌else◌}
use Rattle.std.specs.List.{list_any}
use Rattle.std.proofs.lemmas.Bool.{cond_both, cond-true, and_parts, eqb-true, eq-eqb}
use Rattle.lu_base.specs.declared.ids.At.{At}
use Rattle.lu_base.specs.declared.ids.Cookie.{Cookie}
use Rattle.lu_base.specs.declared.ids.Node.{Node}
use Rattle.lu_base.specs.declared.ids.Node.TheVariants as node
use Rattle.lu_base.specs.declared.ids.Stamp.{Stamp}
use Rattle.lu_base.specs.declared.ids.Who.{Who}
use Rattle.lu_base.specs.declared.ids.Xid.{Xid}
use Rattle.lu_base.specs.declared.locks.Lock.{Lock}
use Rattle.lu_spec_entries.specs.Carried.{Called, Glimpse}
use Rattle.lu_spec_entries.specs.Words.{Entry, Block, Release, Evict, Close, Tick, Skip, Line, line, with_turn, turn_before, same_life}
use Rattle.lu_spec_entries.specs.Concerns.{concerns, only}
use Rattle.lu_spec_target.specs.Glimpses.{ask_of, glimpses_of}
use Rattle.lu_spec_target.specs.Leaving.{condemned, is_due, expels, asks_again, sends_again, ticked, row_tick}
use Rattle.lu_spec_target.specs.Lives.{is_life, with_life}
use Rattle.lu_spec_target.specs.Locks.{same_request, same_glimpse}
use Rattle.lu_spec_target.specs.Replies.{block_of, is_called}
use Rattle.lu_spec_target.specs.Rows as target
use Rattle.lu_spec_target.specs.States.{Target, after, follow, turn as turned}
use Rattle.lu_proof_lawful.specs.Covered.Heads.{Head}
use Rattle.lu_proof_lawful.specs.Covered.TargetStates.{Server, server_of, server_after, lives_of}
use Rattle.lu_proof_lawful.proofs.Preconditions.Guards.{In, Later, Steps}
use Rattle.lu_proof_lawful.proofs.Preconditions.StoryGuards.{CalledBefore, IsServing, AskHolderOk, EntryOf}
use Rattle.lu_proof_lawful.proofs.Preconditions.Grown.{Grown, GrownOf}
use Rattle.lu_proof_lawful.proofs.Preconditions.Only.{grown_of}
use Rattle.lu_proof_lawful.proofs.Preconditions.Lists.{turn, in_append, in_filter, life_is, turn_trans}
use Rattle.lu_proof_lawful.proofs.Preconditions.LifeLists.{InOrder, order_put, order_distinct, life_stands, stands_life, life_put_or}
use Rattle.lu_proof_lawful.proofs.Preconditions.TargetAlike.{Serving, AllPlain, serving_is, serving_line}
use Rattle.lu_proof_lawful.proofs.Preconditions.TargetGood.{GoodAt, Reaches, reaches_more, serves_lines, turned_more}
use Rattle.lu_proof_lawful.proofs.Preconditions.TargetPass.{HighAt, High}
use Rattle.lu_proof_lawful.proofs.Preconditions.TargetWaits.{WritesToEnd}
use Rattle.lu_proof_lawful.proofs.Preconditions.TargetWindows.{expels_lead}
use Rattle.lu_proof_lawful.proofs.Preconditions.Turns.{Settled, owes_nothing}

-- ---- what is called back was called back by a line

-- since the last close
abbrev Blocked : List Line → Who → Type 0
Blocked [] who = ⊥
Blocked (l ∷ past) who = elim l.entry [ Block called ↦ (called.who ≡ who) ⊎ Blocked past who | Close o ↦ ⊥ | _ ↦ Blocked past who ]

called_blocked : (head : Head) (story : List Line) (c : Called) → GrownOf head story → In c (server_of head.osts story).called
    → Blocked story c.who
called_blocked head [] c g i = absurd i
called_blocked head (l ∷ story) c g i = by l.at.node l.entry g.0 i (λ j. called_blocked head story c g.3 j)
  where
    osts : ℕ
    osts = head.osts

    s : Server
    s = server_of osts story

    own : (e : Entry) → In c (server_after osts s e).called → (In c s.called → Blocked story c.who) → Blocked (line l.at e ∷ story) c.who
    own (Block called) i ih = ⊎_elim (λ (j : In c s.called). inr (ih j)) (λ (j : In c (called ∷ [])). one j)
        (in_append c s.called (called ∷ []) i)
      where
        one : In c (called ∷ []) → (called.who ≡ c.who) ⊎ Blocked story c.who
        one (inl e) = inl (ap (λ (x : Called). x.who) e)
        one (inr j) = absurd j
    own (Release lock) i ih = ih (in_filter (λ (x : Called). not (nat_eq x.cookie.0 lock.cookie.0)) c s.called i).0
    own (Evict who cause) i ih = ih (in_filter (λ (x : Called). not (is_life x.who (who ∷ []))) c s.called i).0
    own (Close o) i ih = absurd i
    own e i ih = ih i

    by : (n : Node) (e : Entry) → EntryOf head story (turn l.at.stamp n) n e
        → In c (server_of osts (line (turn l.at.stamp n) e ∷ story)).called → (In c s.called → Blocked story c.who)
        → Blocked (line l.at e ∷ story) c.who
    by (node.Client d) (Block called) ok i ih = absurd ok
    by (node.Client d) (Close o) ok i ih = absurd ok
    by (node.Client d) e ok i ih = ih i
    by (node.Target u) e ok i ih = own e i ih

-- all lines of a past are of earlier turns than one that is later than its newest
pub later_back : (past : List Line) (at next : At) → Steps past at → turn_before at next ≡ true → Later past next
later_back [] at next s b = tt
later_back (l ∷ past) at next (inl e) b = subst (λ (x : At). turn_before x next ≡ true) (sym e) b
later_back (l ∷ past) at next (inr c) b = turn_trans l.at at next c b

blocked_before : (head : Head) (t : ℕ) (past : List Line) (at : At) (who : Who) → Grown head past → Later past at
    → Blocked (only t past) who → CalledBefore (only t past) at who
blocked_before head t [] at who g later b = absurd b
blocked_before head t (l ∷ past) at who g later b = by l.entry (concerns t l.at.node l.entry) b
    (λ r. blocked_before head t past at who g.1 (later_back past l.at at g.0.steps later) r)
  where
    P : List Line
    P = only t past

    by : (e : Entry) (own : Bool) → Blocked (if own then line l.at e ∷ P else P) who → (Blocked P who → CalledBefore P at who)
        → CalledBefore (if own then line l.at e ∷ P else P) at who
    by (Block called) true (inl e) ih = inl (e, later)
    by (Block called) true (inr r) ih = inr (ih r)
    by (Block called) false r ih = ih r
    by (Close o) true r ih = absurd r
    by (Close o) false r ih = ih r
    by e true r ih = ih r
    by e false r ih = ih r

-- ---- whose time is over

condemned_order : (v : Target) (cs : List Called) → InOrder (condemned v cs)
condemned_order v [] = tt
condemned_order v (c ∷ cs) = cond_both (is_due v c) (with_life c.who (condemned v cs)) (condemned v cs) (λ (ws : List Who). InOrder ws)
    (λ t. order_put c.who (condemned v cs) (condemned_order v cs)) (λ t. condemned_order v cs)

condemned_called : (v : Target) (cs : List Called) (w : Who) → In w (condemned v cs) → (c : Called) × In c cs × (c.who ≡ w)
condemned_called v [] w i = absurd i
condemned_called v (c ∷ cs) w i =
    cond_both (is_due v c) (with_life c.who (condemned v cs)) (condemned v cs)
    (λ (ws : List Who). In w ws → (x : Called) × In x (c ∷ cs) × (x.who ≡ w))
    (λ t j. by (same_life w c.who) refl (life_put_or w c.who (condemned v cs) (life_stands w (with_life c.who (condemned v cs)) j))
    (λ k. condemned_called v cs w k))
    (λ t j. let r = condemned_called v cs w j in (r.0, inr r.1, r.2))
    i
  where
    by : (b : Bool) → same_life w c.who ≡ b → (b || is_life w (condemned v cs)) ≡ true
        → (In w (condemned v cs) → (x : Called) × In x cs × (x.who ≡ w)) → (x : Called) × In x (c ∷ cs) × (x.who ≡ w)
    by true e p ih = (c, inl refl, sym (life_is w c.who e))
    by false e p ih = let r = ih (stands_life w (condemned v cs) p) in (r.0, inr r.1, r.2)

-- ---- what is called back still, and who is asked still

-- what is sent leaves all of the target as it is
abbrev Same : Target → Target → Type 0
Same v w = (v.number ≡ w.number) × (v.boot ≡ w.boot) × (v.cookie ≡ w.cookie)

asks_same : (v : Target) (l : Lock) (gs : List Glimpse) (rest : List Entry) (w : Target) → ((x : Target) → Same (turned x rest) x)
    → Same (turned w (asks_again v l gs ++ rest)) w
asks_same v l [] rest w same = same w
asks_same v l (g ∷ gs) rest w same = by (list_any (same_glimpse g) v.glimpses) (asks_same v l gs rest w same)
    (asks_same v l gs rest (after w (ask_of v l g.request)) same)
  where
    by : (b : Bool) → Same (turned w (asks_again v l gs ++ rest)) w
        → Same (turned (after w (ask_of v l g.request)) (asks_again v l gs ++ rest)) w
        → Same (turned w ((if b then ask_of v l g.request ∷ asks_again v l gs else asks_again v l gs) ++ rest)) w
    by true one two = two
    by false one two = one

again_number : (v : Target) (before : List Called) (glimpses : List Glimpse) (locks : List Lock) (w : Target)
    → Same (turned w (sends_again v before glimpses locks)) w
again_number v before glimpses [] w = (refl, refl, refl)
again_number v before glimpses (l ∷ locks) w =
    by (is_called l.cookie before && is_called l.cookie v.called) (asks_same v l gs rest w (again_number v before glimpses locks))
    (asks_same v l gs rest (after w (block_of v l)) (again_number v before glimpses locks))
  where
    gs : List Glimpse
    gs = glimpses_of l glimpses

    rest : List Entry
    rest = sends_again v before glimpses locks

    by : (b : Bool) → Same (turned w (asks_again v l gs ++ rest)) w → Same (turned (after w (block_of v l)) (asks_again v l gs ++ rest)) w
        → Same (turned w ((if b then block_of v l ∷ [] else []) ++ (asks_again v l gs ++ rest))) w
    by true one two = two
    by false one two = one

asks_plain : (v : Target) (l : Lock) (gs : List Glimpse) (rest : List Entry) → AllPlain rest → AllPlain (asks_again v l gs ++ rest)
asks_plain v l [] rest p = p
asks_plain v l (g ∷ gs) rest p = by (list_any (same_glimpse g) v.glimpses) (asks_plain v l gs rest p)
  where
    by : (b : Bool) → AllPlain (asks_again v l gs ++ rest) → AllPlain
        ((if b then ask_of v l g.request ∷ asks_again v l gs else asks_again v l gs) ++ rest)
    by true q = (tt, q)
    by false q = q

again_plain : (v : Target) (before : List Called) (glimpses : List Glimpse) (locks : List Lock)
    → AllPlain (sends_again v before glimpses locks)
again_plain v before glimpses [] = tt
again_plain v before glimpses (l ∷ locks) = by (is_called l.cookie before && is_called l.cookie v.called)
    (asks_plain v l (glimpses_of l glimpses) rest (again_plain v before glimpses locks))
  where
    rest : List Entry
    rest = sends_again v before glimpses locks

    by : (b : Bool) → AllPlain (asks_again v l (glimpses_of l glimpses) ++ rest)
        → AllPlain ((if b then block_of v l ∷ [] else []) ++ (asks_again v l (glimpses_of l glimpses) ++ rest))
    by true p = (tt, p)
    by false p = p

any_glimpse : (test : Glimpse → Bool) (gs : List Glimpse) → list_any test gs ≡ true → (x : Glimpse) × In x gs × (test x ≡ true)
any_glimpse test [] e = absurd (cc)
any_glimpse test (g ∷ gs) e = by (test g) refl e (any_glimpse test gs)
  where
    by : (b : Bool) → test g ≡ b → (b || list_any test gs) ≡ true → (list_any test gs ≡ true → (x : Glimpse) × In x gs × (test x ≡ true))
        → (x : Glimpse) × In x (g ∷ gs) × (test x ≡ true)
    by true t e ih = (g, inl refl, t)
    by false t e ih = let r = ih e in (r.0, inr r.1, r.2)

xid_is : (a b : Xid) → nat_eq a.0 b.0 ≡ true → a ≡ b
xid_is a b t = let e = eqb-true a.0 b.0 t in λ i. record { 0 = e i }

cookie_is : (a b : Cookie) → nat_eq a.0 b.0 ≡ true → a ≡ b
cookie_is a b t = let e = eqb-true a.0 b.0 t in λ i. record { 0 = e i }

module _ (head : Head) (stamp : Stamp) (t : ℕ) where
  abbrev at : At
  at = turn stamp (node.Target t)

  -- the target is what its story says of boot, locks and glimpses
  abbrev Told : Target → List Line → Type 0
  Told v story =
      record {
        serves : IsServing head.osts story;
        boot : v.boot ≡ (server_of head.osts story).boot;
        called : v.called ≡ (server_of head.osts story).called;
        granted : v.granted ≡ (server_of head.osts story).granted;
        glimpses : v.glimpses ≡ (server_of head.osts story).glimpses;
        holders : (g : Glimpse) (l : Lock) → In g (server_of head.osts story).glimpses → In l (server_of head.osts story).granted
            → l.cookie.0 ≡ g.cookie.0 → WritesToEnd g.resource l;
      }

  abbrev Then : Target → List Entry → Type 0
  Then v rest = (past story : List Line) → Told v story → Settled past → GoodAt head stamp t past story rest

  asks_good : (v : Target) (l : Lock) (gs : List Glimpse) (rest : List Entry) → In l v.granted
      → ((g : Glimpse) → In g gs → nat_eq g.cookie.0 l.cookie.0 ≡ true) → Then v rest → Then v (asks_again v l gs ++ rest)
  asks_good v l [] rest granted own go past story k settled = go past story k settled
  asks_good v l (g ∷ gs) rest granted own go past story k settled =
      by (list_any (same_glimpse g) v.glimpses) refl
      (asks_good v l gs rest granted (λ x i. own x (inr i)) go (line at e ∷ past) (line at e ∷ story) k tt)
      (asks_good v l gs rest granted (λ x i. own x (inr i)) go past story k settled)
    where
      e : Entry
      e = ask_of v l g.request

      by : (b : Bool) → list_any (same_glimpse g) v.glimpses ≡ b
          → GoodAt head stamp t (line at e ∷ past) (line at e ∷ story) (asks_again v l gs ++ rest)
          → GoodAt head stamp t past story (asks_again v l gs ++ rest)
          → GoodAt head stamp t past story ((if b then e ∷ asks_again v l gs else asks_again v l gs) ++ rest)
      by false q sent left = left
      by true q sent left = ((owes_nothing past at e settled, tt, ok), sent)
        where
          found : (x : Glimpse) × In x v.glimpses × (same_glimpse g x ≡ true)
          found = any_glimpse (same_glimpse g) v.glimpses q

          asked : Glimpse
          asked = found.0

          parts : (nat_eq g.cookie.0 asked.cookie.0 ≡ true) × (same_request g.request asked.request ≡ true)
          parts = and_parts (nat_eq g.cookie.0 asked.cookie.0) (same_request g.request asked.request) found.2

          request : (same_life g.request.who asked.request.who ≡ true) × (nat_eq g.request.xid.0 asked.request.xid.0 ≡ true)
          request = and_parts (same_life g.request.who asked.request.who) (nat_eq g.request.xid.0 asked.request.xid.0) parts.1

          same : l.cookie ≡ asked.cookie
          same = sym (cookie_is g.cookie l.cookie (own g (inl refl))) ∙ cookie_is g.cookie asked.cookie parts.0

          waits : In asked (server_of head.osts story).glimpses
          waits = subst (λ (xs : List Glimpse). In asked xs) k.glimpses found.1

          holds : In l (server_of head.osts story).granted
          holds = subst (λ (ls : List Lock). In l ls) k.granted granted

          writes : WritesToEnd asked.resource l
          writes = k.holders asked l waits holds (ap (λ (c : Cookie). c.0) same)

          ok : AskHolderOk head.osts story l.ask.who.client l.ask.who v.boot l.cookie g.request.who g.request.xid
          ok =
              record {
                serves = k.serves;
                glimpse = asked;
                waits = waits;
                lock = l;
                granted = holds;
                same = sym same;
                on = writes.0;
                mode = writes.1;
                to_end = writes.2;
                of_life = refl;
                of_boot = k.boot;
                of_cookie = refl;
                for_life = life_is g.request.who asked.request.who request.0;
                for_xid = xid_is g.request.xid asked.request.xid request.1;
                to = refl;
              }

  sends_good : (v : Target) (before : List Called) (glimpses : List Glimpse) (locks : List Lock)
      → ((l : Lock) → In l locks → In l v.granted) → Then v (sends_again v before glimpses locks)
  sends_good v before glimpses [] granted past story k settled = settled
  sends_good v before glimpses (l ∷ locks) granted past story k settled =
      let next = asks_good v l (glimpses_of l glimpses) (sends_again v before glimpses locks) (granted l (inl refl))
      (λ g i. (in_filter (λ (x : Glimpse). nat_eq x.cookie.0 l.cookie.0) g glimpses i).1)
      (sends_good v before glimpses locks (λ m i. granted m (inr i))) in
      by (is_called l.cookie before && is_called l.cookie v.called) refl
      (next (line at (block_of v l) ∷ past) (line at (block_of v l) ∷ story) k tt) (next past story k settled)
    where
      e : Entry
      e = block_of v l

      rest : List Entry
      rest = asks_again v l (glimpses_of l glimpses) ++ sends_again v before glimpses locks

      by : (b : Bool) → (is_called l.cookie before && is_called l.cookie v.called) ≡ b
          → GoodAt head stamp t (line at e ∷ past) (line at e ∷ story) rest → GoodAt head stamp t past story rest
          → GoodAt head stamp t past story ((if b then e ∷ [] else []) ++ rest)
      by false q sent left = left
      by true q sent left = (
        (
          owes_nothing past at e settled,
          tt,
          record {
            serves = k.serves;
            lock = l;
            granted = subst (λ (ls : List Lock). In l ls) k.granted (granted l (inl refl));
            of_life = refl;
            of_boot = k.boot;
            of_cookie = refl;
            to = refl;
            called = ap (is_called l.cookie) (sym k.called) ∙ (and_parts (is_called l.cookie before) (is_called l.cookie v.called) q).1;
          },
        ),
        sent,
      )

  told_of : (v : Target) (story : List Line) → Serving head t v story → Told v story
  told_of v story h =
      record {
        serves = serving_is head t v story h;
        boot = h.alike.boot;
        called = h.alike.called;
        granted = h.alike.granted;
        glimpses =
            h.alike.glimpses;
        holders = h.story.waits_so.holders;
      }

  -- they leave, and what is left is sent again
  pub tick_lead : (past : List Line) (v : Target) → Grown head past → Settled past → Later past at → Serving head t v (only t past)
      → High v (target.row v at target.Ticks)
      → Reaches head stamp t past (only t past) v (target.row v at target.Ticks) (Serving head t)
  tick_lead past v g settled later h high =
      subst (λ (es : List Entry). Reaches head stamp t past (only t past) v es (Serving head t)) (sym is) (
      reaches_more head stamp t (Serving head t) (Serving head t) (Tick ∷ []) (λ x. follow x (expels at (condemned x x.called) x) again)
      past (only t past) v refl
      (((owes_nothing past at Tick settled, later, tt), tt), ticks)
      (λ e s k. reaches_more head stamp t (Serving head t) (Serving head t) leave again past1 story1 w e
      (expels_lead head stamp t w past1 story1 e s k gone (λ x i. has x (condemned_called w w.called x i))
      (order_distinct gone (condemned_order w w.called)) (λ x i. (inl (refl, tt), caused x (condemned_called w w.called x i)))
      leave_high)
      (λ f r j.
      let x = turned w leave in
      let sent = sends_good x w.called w.glimpses x.granted (λ l i. i) (with_turn at leave past1) (with_turn at leave story1)
      (told_of x (with_turn at leave story1) j) r in (
        sent,
        serves_lines head stamp t (sends_again x w.called w.glimpses x.granted) (with_turn at leave past1) (with_turn at leave story1)
            x (again_plain x w.called w.glimpses x.granted) sent j,
      )))
      )
    where
      w : Target
      w = after v Tick

      past1 : List Line
      past1 = line at Tick ∷ past

      story1 : List Line
      story1 = line at Tick ∷ only t past

      gone : List Who
      gone = condemned w w.called

      leave : List Entry
      leave = expels at gone w

      again : Target → List Entry
      again x = sends_again x w.called w.glimpses x.granted

      is : target.row v at target.Ticks ≡ Tick ∷ follow w leave again
      is = cond-true v.up (row_tick v at) (Skip ∷ []) h.alike.up
          ∙ cond-true (nat_eq v.closed v.boot) (Tick ∷ ticked at w) (Tick ∷ []) (eq-eqb v.closed v.boot h.alike.closed)

      ticks : Serving head t w story1
      ticks = serving_line head t (only t past) stamp Tick v tt tt h

      has : (x : Who) → (c : Called) × In c w.called × (c.who ≡ x) → is_life x (lives_of head.clients story1) ≡ true
      has x c = subst (λ (u : Who). is_life u (lives_of head.clients story1) ≡ true) c.2
          (h.story.calls c.0 (subst (λ (cs : List Called). In c.0 cs) h.alike.called c.1))

      caused : (x : Who) → (c : Called) × In c w.called × (c.who ≡ x) → CalledBefore story1 at x
      caused x c = blocked_before head t past at x g later (subst (λ (u : Who). Blocked (only t past) u) c.2
          (called_blocked head (only t past) c.0 (grown_of head t past g) (subst (λ (cs : List Called). In c.0 cs) h.alike.called c.1)))

      leave_high : High w leave
      leave_high =
          let whole : High v (Tick ∷ follow w leave again) = subst (High v) is high in
          let rest : HighAt (turned (turned w leave) (again (turned w leave))) =
          subst HighAt (turned_more leave (again (turned w leave)) w) whole in
          let all = again_number (turned w leave) w.called w.glimpses (turned w leave).granted (turned w leave) in
          let number = all.0 in
          let boot = all.1 in
          let cookie = all.2 in
          let one = rest.0 in
          let two = rest.1 in
          (omega (arith, number, boot, one), omega (arith, cookie, boot, two))
