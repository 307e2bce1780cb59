-- How long an object is, at an object storage target: it tells that itself, tells the asker to take a lock, or asks the holder of the lock
-- to
-- write that goes to the end. What such a holder says is told on; and where its lock goes, each who waits for it is told to take a lock.
use Rattle.std.proofs.Common.{◌≡◌, ℕ, ◌<◌, Bool, true, false, List, [], ◌∷◌, Option, Some, None, inl, inr, refl, sym, subst, ap, ◌∙◌}
use Rattle.std.specs.Prelude.{nat_eq, nat_lt, if◌then◌else◌}
use Rattle.std.proofs.lemmas.Bool.{eqb-true}
use Rattle.lu_base.specs.declared.ids.At.{At}
use Rattle.lu_base.specs.declared.ids.Cookie.{Cookie}
use Rattle.lu_base.specs.declared.ids.Node.TheVariants as node
use Rattle.lu_base.specs.declared.ids.Stamp.{Stamp}
use Rattle.lu_base.specs.declared.ids.Xid.{Xid}
use Rattle.lu_base.specs.declared.locks.Lock.{Lock}
use Rattle.lu_base.specs.declared.locks.Resource.{Resource}
use Rattle.lu_lock.specs.Growth.{the_end}
use Rattle.lu_msg.specs.declared.answers.Answer.{Answer}
use Rattle.lu_msg.specs.declared.answers.Answer.TheVariants as told
use Rattle.lu_msg.specs.declared.messages.Request.{Request as RequestOf}
use Rattle.lu_msg.specs.declared.messages.SizeReport.{SizeReport}
use Rattle.lu_msg.specs.declared.operations.Op.TheVariants as op
use Rattle.lu_spec_entries.specs.Carried.{Deed, Glimpse}
use Rattle.lu_spec_entries.specs.Words.{Entry, Act, Answers, Asks, Ends, Line, line, with_turn}
use Rattle.lu_spec_entries.specs.Concerns.{only}
use Rattle.lu_spec_target.specs.Glimpses.{answered, row_sizes, row_answers, row_locked, highest, ask_of, row_asks, row_size, asked_for}
use Rattle.lu_spec_target.specs.Glimpses.{by_holder, row_holder, row_report, glimpses_end}
use Rattle.lu_spec_target.specs.Queues.{size_of, extent_of}
use Rattle.lu_spec_target.specs.Replies.{locks_on, replies}
use Rattle.lu_spec_target.specs.States.{Target, after, turn as turned}
use Rattle.lu_proof_lawful.specs.Covered.Deeds.{size_at, told_on}
use Rattle.lu_proof_lawful.specs.Covered.Heads.{Head}
use Rattle.lu_proof_lawful.specs.Covered.TargetStates.{Server, none, server_of, slot_of}
use Rattle.lu_proof_lawful.proofs.Preconditions.Guards.{In, InTurn, EntersFor, EntersNow}
use Rattle.lu_proof_lawful.proofs.Preconditions.StoryGuards.{EntryOf, IsServing, Unasked, GoesPast, IsReleaseOf, TookReport, GlimpseEndsOk}
use Rattle.lu_proof_lawful.proofs.Preconditions.StoryGuards.{AnswersOk}
use Rattle.lu_proof_lawful.proofs.Preconditions.Lists.{turn, in_right, life_is}
use Rattle.lu_proof_lawful.proofs.Preconditions.QueueLists.{Single, on_resource, highest_in, ended_unasked, still_glimpse, asked_in}
use Rattle.lu_proof_lawful.proofs.Preconditions.TargetAlike.{Serving, serving_is}
use Rattle.lu_proof_lawful.proofs.Preconditions.TargetGood.{GoodAt, Reaches, serves_lines, story_turn}
use Rattle.lu_proof_lawful.proofs.Preconditions.TargetLocks.{Leads, deed_lead, size_same, answered_same}
use Rattle.lu_proof_lawful.proofs.Preconditions.TargetPass.{slot_answered, answer_good}
use Rattle.lu_proof_lawful.proofs.Preconditions.TargetStory.{Story}
use Rattle.lu_proof_lawful.proofs.Preconditions.Turns.{Settled, owes_nothing}

-- what a state tells is what the guards speak of, where boot, log and committed number are the same
answered_on : (v : Target) (s : Server) (at : At) (r : RequestOf) (a : Answer) → v.boot ≡ s.boot → v.committed ≡ s.committed.0 → v.log
    ≡ s.log → answered v at r a ≡ told_on s at r none [] a
answered_on v s at r a boot committed log = rw (log, boot, committed) refl

module _ (head : Head) (stamp : Stamp) (t : ℕ) (above : 0 < t) where
  abbrev there : At
  there = turn stamp (node.Target t)

  -- ---- a glimpse ends, and who waited for it is answered

  ends_good : (past story : List Line) (g : Glimpse) (at : At) (a : Answer) → story ≡ only t past → Settled past → IsServing head.osts story
      → GlimpseEndsOk head.osts story there t g
      → AnswersOk head.osts (line there (Ends g) ∷ story) there t (told_on (server_of head.osts story) at g.request none [] a)
      → (let d = told_on (server_of head.osts story) at g.request none [] a
      in GoodAt head stamp t past story (Ends g ∷ Answers d ∷ replies d ∷ []))
  ends_good past story g at a of_target settled serves ends answers =
      let d : Deed = told_on (server_of head.osts story) at g.request none [] a in (
        (owes_nothing past there (Ends g) settled, above, (above, ends)),
        (
          (tt, (above, inr (refl, refl, refl)), (above, answers)),
          answer_good head stamp t (line there (Answers d) ∷ line there (Ends g) ∷ past)
              (line there (Answers d) ∷ line there (Ends g) ∷ story) d
              (story_turn head stamp t (Ends g ∷ Answers d ∷ []) past story of_target) serves (refl, refl) refl refl tt
              (λ x did k i. absurd (subst (λ (y : Deed). In k y.reply.locks) (sym did) i))
              (slot_answered d (slot_of d.reply.who d.tag story)) refl,
        ),
      )

  -- its request waits, asks for a size, and no other glimpse is for it
  record Ended (story : List Line) (g : Glimpse) : Type 0 where
    waits : In g.request (server_of head.osts story).waiting
    of_op : g.request.op ≡ op.Size g.resource
    unasked : Unasked (server_of head.osts (line there (Ends g) ∷ story)).glimpses g.request

  ended_so : (story : List Line) (g : Glimpse) → Story head story → In g (server_of head.osts story).glimpses → Ended story g
  ended_so story g h i =
      let a = h.waits_so.asks g i in record {
        waits = a.0;
        of_op = a.1;
        unasked =
            ended_unasked (server_of head.osts story).glimpses g h.waits_so.once i;
      }

  -- ---- those whose lock was released

  -- K: what holds in the middle of it, of the state and the story
  abbrev pub Keeps : (Target → List Line → Type 0) → Entry → Type 0
  Keeps K e = (w : Target) (p : List Line) → EntryOf head p there (node.Target t) e → K w p → K (after w e) (line there e ∷ p)

  pub record Middle (K : Target → List Line → Type 0) : Type 0 where
    pub story : (w : Target) (p : List Line) → K w p → Story head p
    pub serves : (w : Target) (p : List Line) → K w p → IsServing head.osts p
    pub ends : (g : Glimpse) → Keeps K (Ends g)
    pub answers : (d : Deed) → Keeps K (Answers d)
    pub replies : (d : Deed) → Keeps K (replies d)

  pub released_lead : (K : Target → List Line → Type 0) → Middle K
      → (v : Target) (l : Lock) (gs : List Glimpse) (past story : List Line) (w : Target) → story ≡ only t past → Settled past → K w story
      → v.boot ≡ (server_of head.osts story).boot → v.committed ≡ (server_of head.osts story).committed.0 → v.log
      ≡ (server_of head.osts story).log → InTurn (IsReleaseOf l.cookie) story there
      → ((g : Glimpse) → In g gs → In g (server_of head.osts story).glimpses × (nat_eq g.cookie.0 l.cookie.0 ≡ true)) → Single gs
      → Reaches head stamp t past story w (glimpses_end there gs v) K
  released_lead K m v l [] past story w of_target settled k boot committed log released among once = (settled, k)
  released_lead K m v l (g ∷ gs) past story w of_target settled k boot committed log released among once =
      let more = released_lead K m v l gs (with_turn there es past) (with_turn there es story) (turned w es)
      (story_turn head stamp t es past story of_target) tt kept boot committed log (inr (inr (inr released))) left once.1 in
      subst (λ (x : Deed). Reaches head stamp t past story w (Ends g ∷ Answers x ∷ replies x ∷ glimpses_end there gs v) K)
      (sym (answered_on v s there g.request told.Lock boot committed log))
      ((good.0, (good.1.0, (good.1.1.0, more.0))), more.1)
    where
      s : Server
      s = server_of head.osts story

      d : Deed
      d = told_on s there g.request none [] told.Lock

      es : List Entry
      es = Ends g ∷ Answers d ∷ replies d ∷ []

      own : InTurn (IsReleaseOf g.cookie) story there
      own = subst (λ (c : Cookie). InTurn (IsReleaseOf c) story there)
          (sym (ap (λ (n : ℕ). record { 0 = n }) (eqb-true g.cookie.0 l.cookie.0 (among g (inl refl)).1))) released

      e : Ended story g
      e = ended_so story g (m.story w story k) (among g (inl refl)).0

      ends : GlimpseEndsOk head.osts story there t g
      ends = record { serves = m.serves w story k; waits = (among g (inl refl)).0; cause = inr own }

      answers : AnswersOk head.osts (line there (Ends g) ∷ story) there t d
      answers = inr (inr (inr (inl (record {
        serves = m.serves w story k;
        request = g.request;
        waits = e.waits;
        unasked = e.unasked;
        resource = g.resource;
        of_op = e.of_op;
        ended = (refl, (refl, inr own));
        is = refl;
      }))))

      good : GoodAt head stamp t past story es
      good = ends_good past story g there told.Lock of_target settled (m.serves w story k) ends answers

      kept : K (turned w es) (with_turn there es story)
      kept =
          let one = m.ends g w story (above, ends) k in
          let two = m.answers d (after w (Ends g)) (line there (Ends g) ∷ story) (above, answers) one in
          m.replies d (after (after w (Ends g)) (Answers d)) (line there (Answers d) ∷ line there (Ends g) ∷ story) good.1.1.0.2 two

      left : (x : Glimpse) → In x gs → In x (server_of head.osts (with_turn there es story)).glimpses
          × (nat_eq x.cookie.0 l.cookie.0 ≡ true)
      left x i = let a = among x (inr i) in (still_glimpse s.glimpses g x a.0 (once.0 x i), a.1)

  -- ---- what the holder says

  module _ (past story : List Line) (v : Target) (m : SizeReport) (of_target : story ≡ only t past) (settled : Settled past)
      (h : Serving head t v story)
      (reports : (g : Glimpse) → (m.cookie ≡ g.cookie) × (m.for_who ≡ g.request.who) × (m.xid ≡ g.request.xid)
      → TookReport head.osts story there t g m) where
    abbrev server : Server
    server = server_of head.osts story

    answered_lead : (g : Glimpse) (at : At) (a : Answer) → In g server.glimpses → TookReport head.osts story there t g m
        → AnswersOk head.osts (line there (Ends g) ∷ story) there t (told_on server at g.request none [] a)
        → Leads head stamp t past story v (Ends g ∷ row_answers (answered v at g.request a))
    answered_lead g at a i took answers =
        subst (λ (x : Deed). Leads head stamp t past story v (Ends g ∷ row_answers x))
        (sym (answered_same head.osts t v server h.alike at g.request a)) (
        let good = ends_good past story g at a of_target settled (serving_is head t v story h)
        (record { serves = serving_is head t v story h; waits = i; cause = inl (m, took) }) answers in
        let d : Deed = told_on server at g.request none [] a in
        (good, serves_lines head stamp t (Ends g ∷ Answers d ∷ replies d ∷ []) past story v (tt, (tt, (tt, tt))) good h)
        )

    holder_lead : (g : Glimpse) → In g server.glimpses → TookReport head.osts story there t g m → (o : Option ℕ) → m.size ≡ o
        → Leads head stamp t past story v (row_holder v there m g o)
    holder_lead g i took None is =
        let e = ended_so story g h.story i in
        answered_lead g there told.Lock i took
        (inr (inr (inr (inl (record {
          serves = serving_is head t v story h;
          request = g.request;
          waits = e.waits;
          unasked = e.unasked;
          resource = g.resource;
          of_op = e.of_op;
          ended = (refl, (refl, inl (m, took, is)));
          is = refl;
        })))))
    holder_lead g i took (Some size) is =
        let e = ended_so story g h.story i in
        answered_lead g (by_holder m) (told.Size size) i took
        (inr (inr (inr (inr (record {
          serves = serving_is head t v story h;
          request = g.request;
          waits = e.waits;
          unasked = e.unasked;
          resource = g.resource;
          of_op = e.of_op;
          report = m;
          size = size;
          sized = is;
          ended = (refl, (refl, took));
          is = refl;
        })))))

    pub report_lead : Leads head stamp t past story v (row_report v there m (asked_for m v.glimpses))
    report_lead = by (asked_for m v.glimpses) refl
      where
        cookie_of : (a b : Cookie) → nat_eq a.0 b.0 ≡ true → b ≡ a
        cookie_of a b e = ap (λ (k : ℕ). record { 0 = k }) (sym (eqb-true a.0 b.0 e))

        xid_of : (a b : Xid) → nat_eq a.0 b.0 ≡ true → b ≡ a
        xid_of a b e = ap (λ (k : ℕ). record { 0 = k }) (sym (eqb-true a.0 b.0 e))

        by : (o : Option Glimpse) → asked_for m v.glimpses ≡ o → Leads head stamp t past story v (row_report v there m o)
        by None e = (settled, h)
        by (Some g) e =
            let a = asked_in m v.glimpses g e in
            holder_lead g (subst (λ (gs : List Glimpse). In g gs) h.alike.glimpses a.0)
            (reports g (cookie_of g.cookie m.cookie a.1, sym (life_is g.request.who m.for_who a.2), xid_of g.request.xid m.xid a.3))
            m.size refl

  -- ---- how long an object is, is asked for

  module _ (past story : List Line) (v : Target) (r : RequestOf) (resource : Resource) (of_target : story ≡ only t past)
      (settled : Settled past) (h : Serving head t v story)
      (waits : In r (server_of head.osts story).waiting) (unasked : Unasked (server_of head.osts story).glimpses r)
      (of_op : r.op ≡ op.Size resource)
      (entered : (d : Deed) → r.who ≡ d.reply.who → r.xid ≡ d.reply.xid → EntersFor past there d)
      (entered_now : EntersNow past there r) where
    abbrev serving : Server
    serving = server_of head.osts story

    -- the target tells it itself
    sizes_lead : GoesPast (highest (locks_on resource serving.granted)) (size_at serving resource)
        → Leads head stamp t past story v (row_sizes (answered v there r (told.Size (size_of v resource))))
    sizes_lead goes =
        subst (λ (x : Deed). Leads head stamp t past story v (row_sizes x))
        (sym (ap (λ (k : ℕ). answered v there r (told.Size k)) (size_same head.osts t v serving h.alike resource)
        ∙ answered_same head.osts t v serving h.alike there r (told.Size (size_at serving resource)))) (
        let d : Deed = told_on serving there r none [] (told.Size (size_at serving resource)) in
        deed_lead head stamp t past story v (Act d) d of_target h tt (
          owes_nothing past there (Act d) settled,
          inr (above, entered d refl refl),
          inr (
            above,
            record {
              serves = serving_is head t v story h;
              request = r;
              waits = waits;
              unasked = unasked;
              resource = resource;
              of_op = of_op;
              shown = h.shown;
              past_locks = goes;
              is = refl;
            },
          ),
        )
        (refl, refl) refl refl (λ x did. sym did) tt refl (slot_answered d (slot_of r.who r.tag story)) (serving_is head t v story h) refl
        )

    locked_lead : (l : Lock) → highest (locks_on resource serving.granted) ≡ Some l → nat_eq (extent_of l).last the_end ≡ false
        → nat_lt (extent_of l).last (size_at serving resource) ≡ false
        → Leads head stamp t past story v (row_locked v there r)
    locked_lead l is short within =
        subst (λ (x : Deed). Leads head stamp t past story v (row_answers x))
        (sym (answered_same head.osts t v serving h.alike there r told.Lock)) (
        let d : Deed = told_on serving there r none [] told.Lock in
        deed_lead head stamp t past story v (Answers d) d of_target h tt (
          owes_nothing past there (Answers d) settled,
          (above, inl (entered d refl refl)),
          (
            above,
            inr (inr (inl (record {
              serves = serving_is head t v story h;
              request = r;
              waits = waits;
              unasked = unasked;
              resource = resource;
              of_op = of_op;
              holder = l;
              of_holder = is;
              short = short;
              within = within;
              is = refl;
            }))),
          ),
        )
        (refl, refl) refl refl (λ x did. sym did) tt refl (slot_answered d (slot_of r.who r.tag story)) (serving_is head t v story h) refl
        )

    -- its holder is asked
    asks_lead : (l : Lock) → highest (locks_on resource serving.granted) ≡ Some l → nat_eq (extent_of l).last the_end ≡ true
        → Leads head stamp t past story v (row_asks v r resource l)
    asks_lead l is to_end =
        let g : Glimpse = record { cookie = l.cookie; resource = resource; request = r } in
        let mine = highest_in (locks_on resource serving.granted) l is in
        let on = on_resource resource l serving.granted mine.0 in
        let good : GoodAt head stamp t past story (Asks g ∷ ask_of v l r ∷ []) = (
          (
            owes_nothing past there (Asks g) settled,
            (above, entered_now),
            (
              above,
              record {
                serves = serving_is head t v story h;
                waits = waits;
                unasked = unasked;
                of_op = of_op;
                holder = l;
                of_holder = is;
                to_end = to_end;
                of_cookie = refl;
              },
            ),
          ),
          (
            (
              tt,
              tt,
              record {
                serves = serving_is head t v story h;
                glimpse = g;
                waits = in_right g serving.glimpses (g ∷ []) (inl refl);
                lock = l;
                granted = on.0;
                same = refl;
                on = on.1;
                mode = mine.1;
                to_end = eqb-true (extent_of l).last the_end to_end;
                of_life = refl;
                of_boot = h.alike.boot;
                of_cookie = refl;
                for_life = refl;
                for_xid = refl;
                to = refl;
              },
            ),
            tt,
          ),
        ) in
        (good, serves_lines head stamp t (Asks g ∷ ask_of v l r ∷ []) past story v (tt, (tt, tt)) good h)

    pub size_lead : Leads head stamp t past story v (row_size v there r resource (highest (locks_on resource v.granted)))
    size_lead = by (highest (locks_on resource v.granted)) (ap (λ (gs : List Lock). highest (locks_on resource gs)) (sym h.alike.granted))
      where
        by : (o : Option Lock) → highest (locks_on resource serving.granted) ≡ o
            → Leads head stamp t past story v (row_size v there r resource o)
        by None e = sizes_lead (subst (λ (o : Option Lock). GoesPast o (size_at serving resource)) (sym e) tt)
        by (Some l) e = last (nat_eq (extent_of l).last the_end) refl (nat_lt (extent_of l).last (size_of v resource)) refl
          where
            size : size_of v resource ≡ size_at serving resource
            size = size_same head.osts t v serving h.alike resource

            last : (a : Bool) → nat_eq (extent_of l).last the_end ≡ a → (b : Bool) → nat_lt (extent_of l).last (size_of v resource) ≡ b
                → Leads head stamp t past story v (if a then row_asks v r resource l
                else (if b then row_sizes (answered v there r (told.Size (size_of v resource))) else row_locked v there r))
            last true p b q = asks_lead l e p
            last false p true q = sizes_lead (subst (λ (o : Option Lock). GoesPast o (size_at serving resource)) (sym e)
                (p, ap (nat_lt (extent_of l).last) (sym size) ∙ q))
            last false p false q = locked_lead l e p (ap (nat_lt (extent_of l).last) (sym size) ∙ q)
