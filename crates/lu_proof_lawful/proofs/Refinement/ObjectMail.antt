-- What was sent between a target and its lives is in the story of the object: of what was sent before the newest line, and of what that
-- line sends.
use Rattle.std.proofs.Common.{◌≡◌, ℕ, Bool, true, false, List, [], ◌∷◌, Option, Some, None, ◌⊎◌, inl, inr, ⊎_elim, refl, sym, subst, ap}
use Rattle.std.proofs.Common.{◌∙◌}
use Rattle.std.specs.Prelude.{nat_eq, if◌then◌else◌, option_map}
use Rattle.std.proofs.lemmas.Bool.{both_ways}
use Rattle.lu_base.specs.declared.ids.Cookie.{Cookie}
use Rattle.lu_base.specs.declared.ids.Node.{Node}
use Rattle.lu_base.specs.declared.ids.Node.TheVariants.{Client, Target}
use Rattle.lu_base.specs.declared.ids.Who.{Who}
use Rattle.lu_base.specs.declared.locks.Lock.{Lock as TableLock}
use Rattle.lu_base.specs.declared.locks.Resource.{Resource}
use Rattle.lu_held.specs.Locks.{same_resource}
use Rattle.lu_msg.specs.declared.messages.GrantNotice.{GrantNotice}
use Rattle.lu_msg.specs.declared.messages.Message.{Message}
use Rattle.lu_msg.specs.declared.messages.Message.TheVariants as message
use Rattle.lu_msg.specs.declared.messages.Request.{Request as RequestOf}
use Rattle.lu_msg.specs.declared.operations.Op.{Op}
use Rattle.lu_msg.specs.declared.operations.Op.TheVariants as op
use Rattle.lu_spec_entries.specs.Carried.{Deed}
use Rattle.lu_spec_entries.specs.Words as word
use Rattle.lu_spec_entries.specs.Words.{Line, line}
use Rattle.lu_spec_entries.specs.Concerns.{concerns, only}
use Rattle.lu_spec_client.specs.Calls.{life_at}
use Rattle.lu_proof_lawful.specs.Covered.ClientStates.{flights_of, life_of}
use Rattle.lu_proof_lawful.specs.Covered.Heads.{Head}
use Rattle.lu_proof_lawful.proofs.Preconditions.Guards.{In, Was}
use Rattle.lu_proof_lawful.proofs.Preconditions.StoryGuards.{AskOk, CancelOk}
use Rattle.lu_proof_lawful.proofs.Preconditions.Speaks.{IsSpoken}
use Rattle.lu_proof_lawful.proofs.Preconditions.Lists.{self, turn}
use Rattle.lu_proof_lawful.proofs.Preconditions.ClientLines.{some_is}
use Rattle.lu_proof_lawful.proofs.Preconditions.Parts.{life_is_of}
use Rattle.lu_proof_lawful.proofs.Invariants.TargetGroups.{Gave}
use Rattle.lu_proof_bytes.specs.Object.Words as words
use Rattle.lu_proof_bytes.specs.Object.Words.{Lock, Request, Entry, Send, Ask, Give, Block, Cancel}
use Rattle.lu_proof_bytes.specs.Object.Folds as says
use Rattle.lu_proof_bytes.specs.Object.Folds.{WasGranted}
use Rattle.lu_proof_bytes.specs.Object.Guards.{OpOk}
use Rattle.lu_proof_bytes.proofs.Object.World.{World}
use Rattle.lu_proof_lawful.specs.Projection.Lives.{number_of, is_live}
use Rattle.lu_proof_lawful.specs.Projection.Locks.{lock_of, given}
use Rattle.lu_proof_lawful.specs.Projection.Requests.{op_of, get_under, asked_as, among}
use Rattle.lu_proof_lawful.specs.Projection.Messages.{request_as, by_client, by_target}
use Rattle.lu_proof_lawful.specs.Projection.Stories.{with_entry, flies, story}
use Rattle.lu_proof_lawful.proofs.Refinement.TiedAsked.{IsOn, HasLock}
use Rattle.lu_proof_lawful.proofs.Refinement.TiedObject.{AskedOn}
use Rattle.lu_proof_lawful.proofs.Refinement.TiedTarget.{TargetTied}
use Rattle.lu_proof_lawful.proofs.Refinement.TargetSame.{GivenStay, has_stays, op_stays}
use Rattle.lu_proof_lawful.proofs.Refinement.TargetOwn.{same_lock}
use Rattle.lu_proof_lawful.proofs.Refinement.TargetLines.{client_silent, own_story}
use Rattle.lu_proof_lawful.proofs.Refinement.Covering.{given_line}
use Rattle.lu_proof_lawful.proofs.Refinement.OverLives.{lasts_live}
use Rattle.lu_proof_lawful.proofs.Refinement.AskedSteps.{given_grows}
use Rattle.lu_proof_lawful.proofs.Refinement.MayBase.{at_live}
use Rattle.lu_proof_lawful.proofs.Refinement.AllowedTarget.{evicted_stays}
use Rattle.lu_proof_lawful.proofs.Refinement.Tied.{Here, Grows}

-- ---- any story

-- what was sent was sent
pub was_grows : (h k : List Entry) (m : words.Message) → Grows h k → says.Was h m → says.Was k m
was_grows h k m (inl e) w = subst (λ (x : List Entry). says.Was x m) (sym e) w
was_grows h k m (inr g) w = subst (λ (x : List Entry). says.Was x m) (sym g.1) (by g.0)
  where
    by : (e : Entry) → says.Was (e ∷ h) m
    by (Send x) = inr w
    by e = w

-- a lock that was granted is the one of its cookie, or another one is
was_given : (h : List Entry) (l : Lock) → WasGranted h l → (m : Lock) × (given l.cookie h ≡ Some m)
was_given [] l w = absurd w
was_given (words.Grant r g s seen ∷ h) l w = by (nat_eq g.cookie l.cookie) refl (λ v. was_given h l v)
  where
    by : (b : Bool) → nat_eq g.cookie l.cookie ≡ b → (WasGranted h l → (m : Lock) × (given l.cookie h ≡ Some m)) → (m : Lock)
        × ((if b then Some g else given l.cookie h) ≡ Some m)
    by true e more = (g, refl)
    by false e more = ⊎_elim
        (λ (s : g ≡ l). absurd (both_ways (nat_eq g.cookie l.cookie) e (rw s (self l.cookie))))
        more
        w
was_given (words.Promote g ∷ h) l w = by (nat_eq g.cookie l.cookie) refl (λ v. was_given h l v)
  where
    by : (b : Bool) → nat_eq g.cookie l.cookie ≡ b → (WasGranted h l → (m : Lock) × (given l.cookie h ≡ Some m)) → (m : Lock)
        × ((if b then Some g else given l.cookie h) ≡ Some m)
    by true e more = (g, refl)
    by false e more = ⊎_elim
        (λ (s : g ≡ l). absurd (both_ways (nat_eq g.cookie l.cookie) e (rw s (self l.cookie))))
        more
        w
was_given (_ ∷ h) l w = was_given h l w

-- so a page that is asked for in the story has its lock there
pub flies_lock : (r : Resource) (h : List Entry) (o : Op) (x : words.Op) (c : ℕ) → World h → op_of r h o ≡ Some x → OpOk h c x → HasLock h o
flies_lock r h (op.Get q cookie page) x c w e ok = by (given cookie.0 h) refl (same_resource q r) e
  where
    by : (g : Option Lock) → given cookie.0 h ≡ g → (b : Bool) → (if b then Some (get_under cookie.0 page g) else None) ≡ Some x
        → (m : Lock) × (given cookie.0 h ≡ Some m)
    by (Some m) f b e = (m, f)
    by None f true e =
        let u : OpOk h c (words.Get cookie.0 0 0) = subst (λ (y : words.Op). OpOk h c y) (sym (some_is _ x e)) ok in
        let g = was_given h u.lock (w.numbers.held u.lock u.held) in
        (g.0, ap (λ (n : ℕ). given n h) (sym u.cookie) ∙ g.1)
    by None f false e = absurd (cc)
flies_lock r h _ x c w e ok = tt

-- ---- a message of the newest line, or an older one

pub was_cases : (t : ℕ) (l : Line) (past : List Line) (from to : Node) (m : Message) → Was (only t (l ∷ past)) from to m
    → ((l.at.node ≡ from) × (l.entry ≡ word.Send to m) × (concerns t l.at.node l.entry ≡ true)) ⊎ Was (only t past) from to m
was_cases t l past from to m w = by (concerns t l.at.node l.entry) refl w
  where
    one : (x : word.Entry) → concerns t l.at.node x ≡ true → Was (line l.at x ∷ only t past) from to m
        → ((l.at.node ≡ from) × (x ≡ word.Send to m) × (concerns t l.at.node x ≡ true)) ⊎ Was (only t past) from to m
    one (word.Send node k) on (inl q) = inl (q.0, ap (λ (v : Node). word.Send v k) q.1 ∙ ap (λ (v : Message). word.Send to v) q.2, on)
    one (word.Send node k) on (inr v) = inr v
    one x on v = inr v

    by : (b : Bool) → concerns t l.at.node l.entry ≡ b → Was (if b then l ∷ only t past else only t past) from to m
        → ((l.at.node ≡ from) × (l.entry ≡ word.Send to m) × (concerns t l.at.node l.entry ≡ true)) ⊎ Was (only t past) from to m
    by true on v = one l.entry on v
    by false off v = inr v

-- ---- lines

module _ (head : Head) (t : ℕ) (r : Resource) (l : Line) (past : List Line) (here : Here head t r l past)
    (grows : Grows (story t r past) (story t r (l ∷ past))) (now : TargetTied head t r (l ∷ past)) where
  abbrev h : List Entry
  h = story t r past

  abbrev k : List Entry
  k = story t r (l ∷ past)

  pub stay : GivenStay (story t r past) (story t r (l ∷ past))
  stay = given_grows (story t r past) (story t r (l ∷ past)) here.world grows

  evicted_back : (c : ℕ) → says.evicted c (story t r (l ∷ past)) ≡ false → says.evicted c (story t r past) ≡ false
  evicted_back c e = by (says.evicted c (story t r past)) refl
    where
      by : (b : Bool) → says.evicted c (story t r past) ≡ b → b ≡ false
      by true f = absurd (both_ways (says.evicted c (story t r (l ∷ past))) e (evicted_stays t r c l past f))
      by false f = refl

  -- a lock of a cookie that was given already was there
  given_back : (d : Deed) (x : TableLock) (cookie : Cookie) (m : Lock) → Gave (only t past) d x → x.cookie ≡ cookie
      → given cookie.0 (story t r (l ∷ past)) ≡ Some m → given cookie.0 (story t r past) ≡ Some m
  given_back d x cookie m g c e =
      let o = now.given cookie.0 m e in
      let on = o.0 in
      let number : x.cookie.0 ≡ cookie.0 = ap (λ (v : Cookie). v.0) c in
      let other : on.1.cookie.0 ≡ cookie.0 = ap (λ (v : Lock). v.cookie) on.4 ∙ o.1 in
      let same : x ≡ on.1 = same_lock head (only t (l ∷ past)) (here.stood.after.at t) d on.0 x on.1 (given_line t l past d x g) on.2
      (number ∙ sym other) in
      ap (λ (n : ℕ). given n (story t r past)) (sym number)
      ∙ here.tied.target.gives d x g (subst (λ (v : TableLock). v.resource ≡ r) (sym same) on.3)
      ∙ ap (λ (v : TableLock). Some (lock_of v)) same ∙ ap Some on.4

  -- ---- older messages

  pub asks_old : (from to : Node) (q : RequestOf) → Was (only t past) from to (message.Request q)
      → says.evicted (number_of q.who) (story t r (l ∷ past)) ≡ false → IsOn r q.op → AskedOn r (story t r (l ∷ past)) q
  asks_old from to q w e on =
      let a = here.tied.object.asks from to q w (evicted_back (number_of q.who) e) on in
      record {
        op = a.op;
        is = op_stays r (story t r past) (story t r (l ∷ past)) q.op stay a.lock ∙ a.is;
        lock = has_stays (story t r past) (story t r (l ∷ past)) q.op stay a.lock;
        was = was_grows (story t r past) (story t r (l ∷ past)) _ grows a.was;
      }

  pub cancels_old : (from to : Node) (who : Who) (boot : ℕ) (cookie : Cookie) (m : Lock)
      → Was (only t past) from to (message.Cancel who boot cookie) → says.evicted (number_of who) (story t r (l ∷ past)) ≡ false
      → given cookie.0 (story t r (l ∷ past)) ≡ Some m → says.Was (story t r (l ∷ past)) (Cancel boot (number_of who) cookie.0)
  cancels_old from to who boot cookie m w e g =
      let b = (here.stood.before.at t).locks.cancels from to who boot cookie w in
      was_grows (story t r past) (story t r (l ∷ past)) _ grows
      (here.tied.object.cancels from to who boot cookie m w (evicted_back (number_of who) e)
      (given_back b.deed b.lock cookie m b.gave b.is g))

  pub gives_old : (from to : Node) (g : GrantNotice) (m : Lock) → Was (only t past) from to (message.Grant g)
      → given g.cookie.0 (story t r (l ∷ past)) ≡ Some m → says.Was (story t r (l ∷ past)) (Give g.boot m g.size (among g.seen))
  gives_old from to g m w e =
      let b = (here.stood.before.at t).locks.notices from to g w in
      was_grows (story t r past) (story t r (l ∷ past)) _ grows
      (here.tied.object.gives from to g m w (given_back b.deed b.lock g.cookie m b.gave b.is e))

  pub blocks_old : (from to : Node) (who : Who) (boot : ℕ) (cookie : Cookie) (m : Lock)
      → Was (only t past) from to (message.Block who boot cookie) → given cookie.0 (story t r (l ∷ past)) ≡ Some m
      → says.Was (story t r (l ∷ past)) (Block boot (number_of who) cookie.0)
  blocks_old from (Client c) who boot cookie m w e =
      let b = (here.stood.before.at t).locks.blocks from c who boot cookie w in
      was_grows (story t r past) (story t r (l ∷ past)) _ grows
      (here.tied.object.blocks from (Client c) who boot cookie m w (given_back b.deed b.lock cookie m b.gave b.is e))
  blocks_old from (Target u) who boot cookie m w e = absurd ((here.stood.before.at t).done.sent from (Target u)
      (message.Block who boot cookie) w)

  -- ---- messages of a client's line

  module _ (c : ℕ) (m : Message) (node : l.at.node ≡ Client c) (is : l.entry ≡ word.Send (Target t) m) where
    abbrev at_client : Here head t r (line (turn l.at.stamp (Client c)) (word.Send (Target t) m)) past
    at_client = subst (λ (v : Node). Here head t r (line (turn l.at.stamp v) (word.Send (Target t) m)) past) node
        (subst (λ (e : word.Entry). Here head t r (line l.at e) past) is here)

    story_at : story t r (l ∷ past) ≡ story t r (line (turn l.at.stamp (Client c)) (word.Send (Target t) m) ∷ past)
    story_at = ap (λ (e : word.Entry). story t r (line l.at e ∷ past)) is
        ∙ ap (λ (v : Node). story t r (line (turn l.at.stamp v) (word.Send (Target t) m) ∷ past)) node

    spoken_live : IsSpoken m → (who : Who) → who ≡ life_of c (only t past) → says.evicted (number_of who) (story t r (l ∷ past)) ≡ false
        → is_live c past (story t r past) ≡ true
    spoken_live spoken who w e =
        lasts_live head c past (story t r past) here.stood.grown
        (subst (λ (v : Who). says.evicted (number_of v) (story t r past) ≡ false) (w ∙ sym (life_is_of c t past))
        (evicted_back (number_of who) e))
        (here.stood.speaks.0 c t m node is spoken)

    said : (x : words.Message) → is_live c past (story t r past) ≡ true → by_client r (story t r past) m ≡ Some x
        → says.Was (story t r (l ∷ past)) x
    said x live e =
        subst (λ (y : List Entry). says.Was y x)
        (sym (story_at ∙ at_live t c past (story t r past) (λ w. option_map Send (by_client r (story t r past) m)) live
        ∙ ap (λ (y : Option words.Message). with_entry (option_map Send y) (story t r past)) e))
        (inl refl)

    given_same : (j : ℕ) → given j (story t r (l ∷ past)) ≡ given j (story t r past)
    given_same j = ap (given j) story_at ∙ (client_silent t r l.at.stamp c past (word.Send (Target t) m)).given j

  pub asks_new : (c : ℕ) (q : RequestOf) → l.at.node ≡ Client c → l.entry ≡ word.Send (Target t) (message.Request q)
      → AskOk (only t past) c q → says.evicted (number_of q.who) (story t r (l ∷ past)) ≡ false → IsOn r q.op
      → AskedOn r (story t r (l ∷ past)) q
  asks_new c q node is ok e on =
      let who : q.who ≡ life_of c (only t past) = ap (λ (x : RequestOf). x.who) ok.is in
      let live = spoken_live c (message.Request q) node is tt q.who who e in
      let flying : In ok.flight (flights_of (life_at c past) (only t past)) =
      subst (λ (w : Who). In ok.flight (flights_of w (only t past))) (sym (life_is_of c t past)) ok.flying in
      let op_is : q.op ≡ ok.flight.op = ap (λ (x : RequestOf). x.op) ok.is in
      let f = (here.tied.asked.of c live).flights.flies ok.flight flying (subst (IsOn r) op_is on) in
      let lock : HasLock (story t r past) q.op = subst (HasLock (story t r past)) (sym op_is) f.lock in
      let there : op_of r (story t r past) q.op ≡ Some f.op = ap (op_of r (story t r past)) op_is ∙ f.is in
      record {
        op = f.op;
        is = op_stays r (story t r past) (story t r (l ∷ past)) q.op stay lock ∙ there;
        lock = has_stays (story t r past) (story t r (l ∷ past)) q.op stay lock;
        was = said c (message.Request q) node is (Ask q.boot (request_as (number_of q.who) q.xid.0 f.op)) live
            (ap (λ (o : Option words.Op). option_map (λ o. Ask q.boot (request_as (number_of q.who) q.xid.0 o)) o) there);
      }

  pub cancels_new : (c : ℕ) (who : Who) (boot : ℕ) (cookie : Cookie) (m : Lock) → l.at.node ≡ Client c → l.entry
      ≡ word.Send (Target t) (message.Cancel who boot cookie) → CancelOk (only t past) c t who boot cookie
      → says.evicted (number_of who) (story t r (l ∷ past)) ≡ false → given cookie.0 (story t r (l ∷ past)) ≡ Some m
      → says.Was (story t r (l ∷ past)) (Cancel boot (number_of who) cookie.0)
  cancels_new c who boot cookie m node is ok e g =
      let live = spoken_live c (message.Cancel who boot cookie) node is tt who ok.of_life e in
      said c (message.Cancel who boot cookie) node is (Cancel boot (number_of who) cookie.0) live
      (ap (λ (x : Option Lock). option_map (λ x. Cancel boot (number_of who) cookie.0) x)
      (sym (given_same c (message.Cancel who boot cookie) node is cookie.0) ∙ g))

  -- ---- messages of the target's line

  module _ (c : ℕ) (m : Message) (node : l.at.node ≡ Target t) (is : l.entry ≡ word.Send (Client c) m) where
    told_story : story t r (l ∷ past) ≡ with_entry (option_map Send (by_target (story t r past) m)) (story t r past)
    told_story =
        ap (λ (e : word.Entry). story t r (line l.at e ∷ past)) is
        ∙ ap (λ (v : Node). story t r (line (turn l.at.stamp v) (word.Send (Client c) m) ∷ past)) node
        ∙ own_story t r l.at.stamp (word.Send (Client c) m) past

    pub told_was : (x : words.Message) → by_target (story t r past) m ≡ Some x → says.Was (story t r (l ∷ past)) x
    told_was x e = subst (λ (y : List Entry). says.Was y x) (sym
        (told_story ∙ ap (λ (y : Option words.Message). with_entry (option_map Send y) (story t r past)) e)) (inl refl)

    -- which asks nothing and gives no lock
    pub told_given : (j : ℕ) → given j (story t r (l ∷ past)) ≡ given j (story t r past)
    told_given j = ap (given j) told_story ∙ by (by_target (story t r past) m)
      where
        by : (o : Option words.Message) → given j (with_entry (option_map Send o) (story t r past)) ≡ given j (story t r past)
        by None = refl
        by (Some x) = refl

    pub told_asked : (w x : ℕ) → asked_as w x (story t r (l ∷ past)) ≡ asked_as w x (story t r past)
    told_asked w x = ap (asked_as w x) told_story ∙ by (by_target (story t r past) m)
      where
        by : (o : Option words.Message) → asked_as w x (with_entry (option_map Send o) (story t r past)) ≡ asked_as w x (story t r past)
        by None = refl
        by (Some y) = refl
