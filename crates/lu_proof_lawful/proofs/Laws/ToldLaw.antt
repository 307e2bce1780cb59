-- The law of acts at a call's begin, at a told line and at a request's message, and the whole of it.
use Rattle.std.proofs.Common.{◌≡◌, ◌≢◌, ℕ, ◌+◌, ◌<◌, Bool, true, false, List, [], ◌∷◌, Option, Some, None, inl, inr, ⊎_elim, refl, sym}
use Rattle.std.proofs.Common.{subst, ap, ◌∙◌, arith, pos}
use Rattle.std.specs.Prelude.{nat_eq, not, ◌&&◌, ◌||◌, if◌then◌else◌}
use Rattle.std.proofs.lemmas.Bool.{cond_both, and_parts, eqb-true, or_left, or_right, or_cases, false_from_ne_true}
use Rattle.lu_base.specs.declared.ids.At.{At}
use Rattle.lu_base.specs.declared.ids.Stamp.{Stamp}
use Rattle.lu_base.specs.declared.ids.Node.{Node}
use Rattle.lu_base.specs.declared.ids.Node.TheVariants.{Client, Target}
use Rattle.lu_base.specs.declared.ids.Who.{Who}
use Rattle.lu_base.specs.declared.ids.Xid.{Xid}
use Rattle.lu_msg.specs.declared.answers.Answer.{Answer}
use Rattle.lu_msg.specs.declared.answers.Answer.TheVariants as answer
use Rattle.lu_msg.specs.declared.calls.Call.{Call}
use Rattle.lu_msg.specs.declared.calls.Call.TheVariants as call
use Rattle.lu_msg.specs.declared.messages.Message.TheVariants as message
use Rattle.lu_msg.specs.declared.messages.Reply.{Reply as ReplyTo}
use Rattle.lu_msg.specs.declared.messages.Request.{Request as RequestOf}
use Rattle.lu_msg.specs.declared.operations.Op.{Op}
use Rattle.lu_msg.specs.declared.operations.Op.TheVariants as op
use Rattle.lu_trace.specs.declared.entries.Entry.TheVariants as trace
use Rattle.lu_trace.specs.declared.entries.Line.{Line as PrintedLine}
use Rattle.lu_spec_machine.specs.Fits.{answer_fits}
use Rattle.lu_spec_entries.specs.Carried.{Deed, HandleFile, Flight, Work, Running}
use Rattle.lu_spec_entries.specs.Words.{Entry, Begin, Send, Heard, Told, Txn as Made, Line, line}
use Rattle.lu_spec_entries.specs.Concerns.{concerns, only}
use Rattle.lu_spec_entries.specs.Sent.{count_sent}
use Rattle.lu_spec_entries.specs.Printed.{printed_entry, printed}
use Rattle.lu_spec_client.specs.States.{Store, store_at}
use Rattle.lu_proof_lawful.specs.Covered.Calls.{life_at, call_at, operation_of, becomes, told_as}
use Rattle.lu_proof_lawful.specs.Covered.ClientStates.{flights_of, life_of, is_own}
use Rattle.lu_proof_lawful.specs.Covered.Heads.{Head, IsHead}
use Rattle.lu_spec_laws.specs.Words.Pasts.{UpTo, same_turn}
use Rattle.lu_spec_laws.specs.Words.Lives.{who_is, is_by}
use Rattle.lu_spec_laws.specs.Words.Requests.{first_request, asked, in_flight, object, same_resource, same_object}
use Rattle.lu_spec_laws.specs.Words.Calls as calls
use Rattle.lu_spec_laws.specs.Words.Calls.{heard_in, operation}
use Rattle.lu_spec_laws.specs.Holds.{HoldsBefore}
use Rattle.lu_spec_laws.specs.Laws.Acts.{acted, made, standing_count, is_number, tells_with, told_with, is_bad_handle, is_end_of_life}
use Rattle.lu_spec_laws.specs.Laws.Acts.{is_local, took_notice, ActsFor, ActsInTime, ToldOn, ToldBy, Pairwise, SameTag, FliesAt, ActsAt}
use Rattle.lu_spec_laws.specs.Laws.Acts.{ActsOf}
use Rattle.lu_proof_lawful.specs.Fits.{ReplyStands, HeardStand}
use Rattle.lu_proof_lawful.proofs.Preconditions.Guards.{In, JustHeard, Steps, IsToldAsIs, ToldOk, KnownOk, EndsOk, BadOk, ReadTells}
use Rattle.lu_proof_lawful.proofs.Preconditions.Guards.{EntryOk}
use Rattle.lu_proof_lawful.proofs.Preconditions.StoryGuards.{EntryOf}
use Rattle.lu_proof_lawful.proofs.Preconditions.Grown.{Allowed, Grown, GrownOf}
use Rattle.lu_proof_lawful.proofs.Preconditions.Lists.{self, own_is, own_self}
use Rattle.lu_proof_lawful.proofs.Preconditions.Only.{grown_of}
use Rattle.lu_proof_lawful.proofs.Preconditions.Turns.{Settled}
use Rattle.lu_proof_lawful.proofs.Invariants.Groups.{turn, Upto, HeardAs, HoldsAt}
use Rattle.lu_proof_lawful.proofs.Invariants.TargetGroups.{Acted, Flew, Hears, HasSlot, Had, Evicted, IsMade, Stands as StandsSoFar}
use Rattle.lu_proof_lawful.proofs.Invariants.All.{holds}
use Rattle.lu_proof_lawful.proofs.Invariants.Sides.{acted_only, first_at}
use Rattle.lu_proof_lawful.proofs.Invariants.OnNames.{IsPlain, told_so, op_is, told_as_so}
use Rattle.lu_proof_lawful.proofs.Invariants.Refused.{acted_answered}
use Rattle.lu_proof_lawful.proofs.Invariants.Known.{HeardBy}
use Rattle.lu_proof_lawful.proofs.Invariants.Times.{reached_on}
use Rattle.lu_proof_lawful.proofs.Laws.Turns.{upto_is, same_turn_self}
use Rattle.lu_proof_lawful.proofs.Laws.Story.{about_it, was_to}
use Rattle.lu_proof_lawful.proofs.Laws.Printed.{life_now, present_is, own_by, first_sent, open_is}
use Rattle.lu_proof_lawful.proofs.Laws.Lines.{OfPrinted, Keeps, holds_due}
use Rattle.lu_proof_lawful.proofs.Laws.Once.{asked_is, acted_sent}
use Rattle.lu_proof_lawful.proofs.Laws.Fine.{IsFine, deed_fine, so_fine, known_fine}
use Rattle.lu_proof_lawful.proofs.Laws.Flying.{Flown, flying, ask_flown, Distinct, flyers, keeps_flyers, objects_apart, no_more}
use Rattle.lu_proof_lawful.proofs.Laws.ActsLaw.{one_turn, NoneLeft, none_counts, at_most, ActIn, act_in, Stands, acted_in}
use Rattle.lu_proof_lawful.proofs.Laws.Hearing.{just_heard}
use Rattle.lu_proof_lawful.proofs.Laws.Handles.{is_bad_stage, begins_bad, meant_is}
use Rattle.lu_proof_lawful.proofs.Laws.BadCalls.{Due, nothing_due, due_before}
use Rattle.lu_proof_lawful.proofs.Laws.Notices.{notice_taken}
use Rattle.lu_proof_lawful.proofs.Invariants.Lines.{acted_whole, acted_more, hears_only}
use Rattle.lu_proof_lawful.proofs.Invariants.Unheld.{heard_as_more}
use Rattle.lu_proof_lawful.proofs.Invariants.PartsStay.{in_every}
use Rattle.lu_proof_lawful.proofs.Invariants.ToldFiles.{plain_first}
use Rattle.lu_proof_lawful.proofs.Refinement.OpenedHandles.{just_heard_by}

-- ---- what was just heard

-- and so the life heard that it is a reply to
just_hears : (head : Head) (past : List Line) (at : At) (r : ReplyTo) → Grown head past → JustHeard past at 0 r
    → Hears (only 0 past) r.who r.xid.0
just_hears head [] at r g j = absurd j
just_hears head (l ∷ past) at r g j = by l.at.node l.entry g.0 j (just_hears head past at r g.1)
  where
    by : (node : Node) (e : Entry) → Allowed head past (turn l.at.stamp node) e → JustHeard (line (turn l.at.stamp node) e ∷ past) at 0 r
        → (JustHeard past at 0 r → Hears (only 0 past) r.who r.xid.0)
        → Hears (only 0 (line (turn l.at.stamp node) e ∷ past)) r.who r.xid.0
    by (Target u) (Heard v f q) k j h = absurd k.ok
    by (Client d) (Heard v f q) k j h =
        let ok = k.of 0 (about_it v j.1) in
        let mine : life_of d (only 0 past) ≡ r.who = sym ok.who ∙ ap (λ (w : ReplyTo). w.who) j.2 in
        subst (λ (w : ℕ). Hears (only 0 (line (turn l.at.stamp (Client d)) (Heard w f q) ∷ past)) r.who r.xid.0) (sym j.1)
        (inl (
          subst (λ (w : Who). is_own w (only 0 past) (Client d) ≡ true) mine (own_self (only 0 past) d),
          ok.xid
              ∙ ap (λ (w : ReplyTo). w.xid.0) j.2,
        ))
    by (Client d) (Told slot named given work) k j h = absurd j
    by (Target u) (Told slot named given work) k j h = absurd j
    by node e k j h = hears_only (line (turn l.at.stamp node) e) past r.who r.xid.0 (h j)

-- what a life was told of a number, it heard
told_hears : (head : Head) (past : List Line) (who : Who) (x : ℕ) → Grown head past → told_with (printed past) who x ≡ true
    → Hears (only 0 past) who x
told_hears head [] who x g i = absurd (cc)
told_hears head (l ∷ past) who x g i = by l.at.node l.entry g.0 i (told_hears head past who x g.1)
  where
    number_is : (o : Option ℕ) (y : ℕ) → o ≡ Some y → is_number x o ≡ true → y ≡ x
    number_is None y e n = absurd (cc)
    number_is (Some z) y e n = let same : z ≡ y = cc in sym same ∙ eqb-true z x n

    -- here another turn is named, so a reply was heard
    here : (c slot : ℕ) (named : At) (given : Answer) (work : Option Work)
        → EntryOk past (turn l.at.stamp (Client c)) (Client c) (Told slot named given work)
        → (is_by who (printed past) (Client c) && not (same_turn named (turn l.at.stamp (Client c)))
        && is_number x (heard_in (printed past) (turn l.at.stamp (Client c)))) ≡ true → Hears (only 0 past) who x
    here c slot named given work ok p =
        let q = and_parts (is_by who (printed past) (Client c) && not (same_turn named (turn l.at.stamp (Client c)))) _ p in
        let own = and_parts (is_by who (printed past) (Client c)) _ q.0 in
        by ok own.0 own.1 q.1
      where
        at : At
        at = turn l.at.stamp (Client c)

        other : not (same_turn named at) ≡ true → named ≡ at → ⊥
        other differs e = let yes : same_turn named at ≡ true = subst (λ (v : At). same_turn v at ≡ true) (sym e) (same_turn_self at)
            in absurd (cc)

        by : EntryOk past at (Client c) (Told slot named given work) → is_by who (printed past) (Client c) ≡ true → not (same_turn named at)
            ≡ true → is_number x (heard_in (printed past) at) ≡ true → Hears (only 0 past) who x
        by (inl heard) own differs number =
            let is = (holds head past g.1).replies c slot heard.target heard.running heard.reply heard.call heard.answered in
            let first = plain_first heard.running heard.target is.deed.op is.op heard.good in
            let just = subst (λ (t : ℕ). JustHeard past at t heard.reply) first.0 heard.heard in
            let mine : who ≡ life_of c past = own_is who past c (sym (own_by head who past (Client c) g.1) ∙ own) in
            let whose : heard.reply.who ≡ who = is.client ∙ life_now c past ∙ sym mine in
            let same = number_is (heard_in (printed past) at) heard.reply.xid.0 (just_heard head past at c heard.reply g.1 refl just) number
            in
            subst (λ (w : Who). Hears (only 0 past) w x) whose (subst (λ (y : ℕ). Hears (only 0 past) heard.reply.who y) same
            (just_hears head past at heard.reply g.1 just))
        by (inr (inl known)) own differs number = absurd (other differs known.of_turn)
        by (inr (inr (inl ends))) own differs number = absurd (other differs ends.of_turn)
        by (inr (inr (inr (inl bad)))) own differs number = absurd (other differs bad.of_turn)
        by (inr (inr (inr (inr (inl sizes))))) own differs number = absurd (other differs sizes.of_turn)
        by (inr (inr (inr (inr (inr (inl flushed)))))) own differs number = absurd (other differs flushed.of_turn)
        by (inr (inr (inr (inr (inr (inr (inl read))))))) own differs number = absurd (other differs read.of_turn)
        by (inr (inr (inr (inr (inr (inr (inr (inl stat)))))))) own differs number = absurd (other differs stat.of_turn)
        by (inr (inr (inr (inr (inr (inr (inr (inr wrote)))))))) own differs number = absurd (other differs wrote.of_turn)

    by : (node : Node) (e : Entry) → Allowed head past (turn l.at.stamp node) e
        → told_with (printed (line (turn l.at.stamp node) e ∷ past)) who x ≡ true
        → (told_with (printed past) who x ≡ true → Hears (only 0 past) who x)
        → Hears (only 0 (line (turn l.at.stamp node) e ∷ past)) who x
    by (Target u) (Told slot named given work) k i h = absurd k.ok
    by (Client c) (Told slot named given work) k i h = hears_only (line (turn l.at.stamp (Client c)) (Told slot named given work)) past who
        x (⊎_elim
        (λ (p : (is_by who (printed past) (Client c) && not (same_turn named (turn l.at.stamp (Client c)))
        && is_number x (heard_in (printed past) (turn l.at.stamp (Client c)))) ≡ true). here c slot named given work k.ok p)
        (λ (p : told_with (printed past) who x ≡ true). h p)
        (or_cases (tells_with who x (printed past) (record { at = turn l.at.stamp (Client c); entry = trace.Told slot named given }))
        (told_with (printed past) who x) i))
    by node e k i h = hears_only (line (turn l.at.stamp node) e) past who x (h i)

-- and its life was told nothing of that number before
untold : (head : Head) (past : List Line) (at : At) (r : ReplyTo) → Grown head past → JustHeard past at 0 r
    → told_with (printed past) r.who r.xid.0 ≡ true → ⊥
untold head [] at r g j i = absurd j
untold head (l ∷ past) at r g j i = by l.at.node l.entry g.0 j i (untold head past at r g.1)
  where
    by : (node : Node) (e : Entry) → Allowed head past (turn l.at.stamp node) e → JustHeard (line (turn l.at.stamp node) e ∷ past) at 0 r
        → told_with (printed (line (turn l.at.stamp node) e ∷ past)) r.who r.xid.0 ≡ true
        → (JustHeard past at 0 r → told_with (printed past) r.who r.xid.0 ≡ true → ⊥) → ⊥
    by (Target u) (Heard v f q) k j i h = absurd k.ok
    by (Client d) (Heard v f q) k j i h =
        let ok = k.of 0 (about_it v j.1) in
        let mine : life_of d (only 0 past) ≡ r.who = sym ok.who ∙ ap (λ (w : ReplyTo). w.who) j.2 in
        let x : f.xid ≡ r.xid.0 = ok.xid ∙ ap (λ (w : ReplyTo). w.xid.0) j.2 in
        (((holds head past g.1).at 0).numbers.over r.who r.xid.0 (told_hears head past r.who r.xid.0 g.1 i)).1 f
        (subst (λ (w : Who). In f (flights_of w (only 0 past))) mine ok.flying) x
    by (Client d) (Told slot named given work) k j i h = absurd j
    by (Target u) (Told slot named given work) k j i h = absurd j
    by _ _ k j i h = h j i

-- what its life heard it heard as that life
pub heard_story : (t : ℕ) (l : Line) (past : List Line) (who : Who) (f : Flight) (r : ReplyTo) → HeardAs (only t past) who f r
    → HeardAs (only t (l ∷ past)) who f r
heard_story t l past who f r h = cond_both (concerns t l.at.node l.entry) (l ∷ only t past) (only t past)
    (λ (P : List Line). HeardAs P who f r) (λ o. heard_as_more l (only t past) who f r h) (λ o. h)

-- in a target's story
pub heard_as : (head : Head) (past : List Line) (c : ℕ) (f : Flight) (r : ReplyTo) → GrownOf head past → HeardBy past c f r
    → HeardAs past r.who f r
heard_as head [] c f r g h = absurd h
heard_as head (l ∷ past) c f r g h = by l.at.node l.entry g.0 h (heard_as head past c f r g.3)
  where
    by : (node : Node) (e : Entry) → EntryOf head past (turn l.at.stamp node) node e → HeardBy (line (turn l.at.stamp node) e ∷ past) c f r
        → (HeardBy past c f r → HeardAs past r.who f r)
        → HeardAs (line (turn l.at.stamp node) e ∷ past) r.who f r
    by (Target u) (Heard v x q) ok h ih = absurd ok
    by (Client d) (Heard v x q) ok (inl h) ih =
        let mine : life_of d past ≡ r.who = sym ok.who ∙ ap (λ (w : ReplyTo). w.who) h.2 in
        inl (subst (λ (w : Who). is_own w past (Client d) ≡ true) mine (own_self past d), h.1, h.2)
    by (Client d) (Heard v x q) ok (inr h) ih = inr (ih h)
    by node e ok h ih = heard_as_more (line (turn l.at.stamp node) e) past r.who f r (ih h)

-- what stands of what was heard of a target
pub heard_stands : (out : Who → Bool) (lost : ℕ → ℕ → Bool) (t : ℕ) (past : List Line) (c : ℕ) (f : Flight) (r : ReplyTo)
    → HeardStand out lost past → HeardBy (only t past) c f r → out r.who ≡ false → ReplyStands (lost t) r
heard_stands out lost t [] c f r s i o = absurd i
heard_stands out lost t (l ∷ past) c f r s i o = by l.at.node l.entry s i (λ s j. heard_stands out lost t past c f r s j o)
  where
    by : (node : Node) (e : Entry) → HeardStand out lost (line (turn l.at.stamp node) e ∷ past)
        → HeardBy (only t (line (turn l.at.stamp node) e ∷ past)) c f r
        → (HeardStand out lost past → HeardBy (only t past) c f r → ReplyStands (lost t) r) → ReplyStands (lost t) r
    by (Client d) (Heard v g q) s i h = of (nat_eq t v) refl i
      where
        of : (b : Bool) → nat_eq t v ≡ b → HeardBy (if b then line (turn l.at.stamp (Client d)) (Heard v g q) ∷ only t past
            else only t past) c f r → ReplyStands (lost t) r
        of true e (inl j) = subst (λ (u : ℕ). ReplyStands (lost u) r) (sym (eqb-true t v e))
            (subst (ReplyStands (lost v)) j.2 (s.0 (ap (λ (w : ReplyTo). out w.who) j.2 ∙ o)))
        of true e (inr j) = h s.1 j
        of false e j = h s.1 j
    by (Target u) (Heard v g q) s i h = of (nat_eq t u) i
      where
        of : (b : Bool) → HeardBy (if b then line (turn l.at.stamp (Target u)) (Heard v g q) ∷ only t past else only t past) c f r
            → ReplyStands (lost t) r
        of true (inl e) = absurd (cc (e.0))
        of true (inr j) = h s.1 j
        of false j = h s.1 j
    by node e s i h = h s (cond_both (concerns t node e) (line (turn l.at.stamp node) e ∷ only t past) (only t past)
        (λ (P : List Line). HeardBy P c f r → HeardBy (only t past) c f r) (λ o j. j) (λ o j. j) i)

-- a reply but for the committed number
pub same_stands : (lost : ℕ → Bool) (k r : ReplyTo) → record k { boot = r.boot; committed = r.committed } ≡ r → ReplyStands lost r
    → ReplyStands lost k
same_stands lost k r e s = subst (ReplyStands lost) (sym e) s

-- what is told at once
told_as_plain : (file : Option HandleFile) (k : Call) (o : Op) (a : Answer) → operation_of file k ≡ Some o → answer_fits o a ≡ true
    → IsToldAsIs k (told_as k a) → IsPlain a
told_as_plain file k o (answer.FileStat fid mode links layout) e fits as_is = by file k e as_is
  where
    of : (p : Op) → Some p ≡ Some o → answer_fits p (answer.FileStat fid mode links layout) ≡ true
    of p e = subst (λ (v : Op). answer_fits v (answer.FileStat fid mode links layout) ≡ true) (sym (op_is p o e)) fits

    by : (file : Option HandleFile) (k : Call) → operation_of file k ≡ Some o
        → IsToldAsIs k (told_as k (answer.FileStat fid mode links layout)) → ⊥
    by file (call.Stat path) e as_is = as_is
    by file (call.Lookup path) e as_is = let f = of (op.Lookup path) e in absurd (cc)
    by file (call.List path) e as_is = let f = of (op.List path) e in absurd (cc)
    by file (call.Layout path) e as_is = let f = of (op.Layout path) e in absurd (cc)
    by file (call.Mkdir path) e as_is = let f = of (op.Mkdir path) e in absurd (cc)
    by file (call.Create path None) e as_is = let f = of (op.Create path 1048576 (pos 1)) e in absurd (cc)
    by file (call.Create path (Some stripes)) e as_is = let f = of (op.Create path stripes.0 stripes.1) e in absurd (cc)
    by file (call.Link old new) e as_is = let f = of (op.Link old new) e in absurd (cc)
    by file (call.Unlink path) e as_is = let f = of (op.Unlink path) e in absurd (cc)
    by file (call.Rmdir path) e as_is = let f = of (op.Rmdir path) e in absurd (cc)
    by file (call.Rename old new) e as_is = let f = of (op.Rename old new) e in absurd (cc)
    by file (call.Chmod path mode) e as_is = let f = of (op.Chmod path mode) e in absurd (cc)
    by file (call.Open h path) e as_is = let f = of (op.Open path) e in absurd (cc)
    by (Some x) (call.Close h) e as_is = let f = of (op.Close x.number x.fid) e in absurd (cc)
    by file k e as_is = absurd (cc)
told_as_plain file k o a e fits as_is = tt

-- ---- what a told line tells

pub record Tells (past : List Line) (at : At) (c slot : ℕ) (named : At) (given : Answer) : Type 0 where
  pub deed : Deed
  pub acted : Acted (only 0 past) deed
  pub who : deed.reply.who ≡ life_at c past
  pub turn_is : deed.reply.at ≡ named
  pub answer : told_so deed.reply.answer ≡ given
  pub heard : heard_in (printed past) at ≡ Some deed.reply.xid.0
  pub begun : Running
  pub call : call_at c slot past ≡ Some begun
  pub becomes : becomes begun ≡ Some deed.op
  pub after : Upto begun.at named
  pub until : Upto named at
  pub untold : told_with (printed past) (life_at c past) deed.reply.xid.0 ≡ false
  pub flight : Flight
  pub reply : ReplyTo
  pub hears : HeardBy (only 0 past) c flight reply
  pub whose : reply.who ≡ life_at c past
  pub is : record deed.reply { boot = reply.boot; committed = reply.committed } ≡ reply
  pub plain : IsPlain deed.reply.answer

pub told_tells : (head : Head) (past : List Line) (stamp : Stamp) (c slot : ℕ) (named : At) (given : Answer) (work : Option Work)
    → Steps past (turn stamp (Client c)) → ToldOk past (turn stamp (Client c)) c slot named given work → Grown head past
    → Tells past (turn stamp (Client c)) c slot named given
told_tells head past stamp c slot named given work steps ok g =
    let at = turn stamp (Client c) in
    let h = holds head past g in
    let is = h.replies c slot ok.target ok.running ok.reply ok.call ok.answered in
    let d = is.deed in
    let first = plain_first ok.running ok.target d.op is.op ok.good in
    let just = subst (λ (t : ℕ). JustHeard past at t ok.reply) first.0 ok.heard in
    let story = subst (λ (t : ℕ). Acted (only t past) d) first.0 is.acted in
    let acted = acted_whole 0 past d story in
    let heard = just_heard head past at c ok.reply g refl just in
    let x : ok.reply.xid.0 ≡ d.reply.xid.0 = ap (λ (v : ReplyTo). v.xid.0) (sym is.is) in
    let heard_by = just_heard_by past at c ok.reply just refl in
    let fits = (acted_answered head past d g acted).0 in
    let same : ok.reply.answer ≡ d.reply.answer = ap (λ (v : ReplyTo). v.answer) (sym is.is) in
    let given_is : given ≡ told_as ok.running.call d.reply.answer = ok.of_answer ∙ ap (λ (v : Answer). told_as ok.running.call v) same in
    record {
      deed = d;
      acted = story;
      who = ap (λ (v : ReplyTo). v.who) is.is ∙ is.client;
      turn_is = ap (λ (v : ReplyTo). v.at) is.is ∙ sym ok.of_turn;
      answer = sym (given_is ∙ told_as_so ok.running.file ok.running.call d.op d.reply.answer first.1 fits);
      heard = heard ∙ ap (λ (v : ℕ). Some v) x;
      begun = ok.running;
      call = ok.call;
      becomes = first.1;
      after = subst (λ (v : At). Upto ok.running.at v) (sym ok.of_turn) is.since;
      until = subst (λ (v : At). Upto v at) (ap (λ (v : ReplyTo). v.at) is.is ∙ sym ok.of_turn)
          (reached_on past at d.reply.at steps (h.reaches.acted d acted));
      flight = heard_by.0;
      reply = ok.reply;
      hears = heard_by.1;
      whose = is.client;
      is = is.is;
      plain = told_as_plain ok.running.file ok.running.call d.op d.reply.answer first.1 fits
          (subst (λ (v : Answer). IsToldAsIs ok.running.call v) given_is ok.as_is);
      untold = false_from_ne_true (told_with (printed past) (life_at c past) d.reply.xid.0) (λ t. untold head past at ok.reply g just
          (subst (λ (v : Who). told_with (printed past) v ok.reply.xid.0 ≡ true) (sym is.client)
          (subst (λ (v : ℕ). told_with (printed past) (life_at c past) v ≡ true) (sym x) t)));
    }

-- ---- calls

not_local : (file : Option HandleFile) (x : Call) (o : Op) → operation_of file x ≡ Some o → is_local x ≡ false
not_local file (call.Flush h) o e = absurd (cc)
not_local file (call.Glimpse h) o e = absurd (cc)
not_local file _ o e = refl

own_no : (a b c : Bool) → a ≡ false → b ≡ false → c ≡ false → (a || b || c) ≡ true → ⊥
own_no true b c p q r e = absurd (cc)
own_no false true c p q r e = absurd (cc)
own_no false false true p q r e = absurd (cc)
own_no false false false p q r e = absurd (cc)

-- what a read tells is neither a bad handle nor the end of a life
read_fine : (st : Store) (w : Work) (offset count : ℕ) (told : Answer) → ReadTells st w offset count told → (is_bad_handle told ≡ false)
    × (is_end_of_life told ≡ false)
read_fine st w offset count told k = ⊎_elim (λ q. (ap is_bad_handle q.2, ap is_end_of_life q.2))
    (λ q. (ap is_bad_handle q.1, ap is_end_of_life q.1)) k.1

moved_asked : (past : List Line) (d : Deed) (who : Who) (x : ℕ) (o : Op) → d.reply.who ≡ who → d.reply.xid.0 ≡ x → d.op ≡ o
    → asked (printed past) 0 d.reply.who d.reply.xid.0 ≡ Some d.op → asked (printed past) 0 who x ≡ Some o
moved_asked past d who x o w y p a = subst (λ (v : Who). asked (printed past) 0 v x ≡ Some o) w
    (subst (λ v. asked (printed past) 0 d.reply.who v ≡ Some o) y (a ∙ ap (λ (v : Op). Some v) p))

moved_acted : (lost : ℕ → ℕ → Bool) (past : List Line) (d : Deed) (who : Who) (x : ℕ) (named : At) → d.reply.who ≡ who → d.reply.at ≡ named
    → d.reply.xid.0 ≡ x
    → Stands lost past d → (acted (printed past) named who x || made lost (printed past) named who x) ≡ true
moved_acted lost past d who x named w n y a =
    subst (λ (v : Who). (acted (printed past) named v x || made lost (printed past) named v x) ≡ true) w
    (subst (λ (v : At). (acted (printed past) v d.reply.who x || made lost (printed past) v d.reply.who x) ≡ true) n
    (subst (λ v. (acted (printed past) d.reply.at d.reply.who v || made lost (printed past) d.reply.at d.reply.who v) ≡ true) y
    (⊎_elim (λ (i : acted (printed past) d.reply.at d.reply.who d.reply.xid.0 ≡ true). or_left _ _ i)
    (λ (i : made lost (printed past) d.reply.at d.reply.who d.reply.xid.0 ≡ true). or_right _ _ i) a)))

-- ---- the law at a told line

module _ (head : Head) (out : Who → Bool) (lost : ℕ → ℕ → Bool) (whole : List Line) where
  -- what was done and heard in the past is so in the whole trace
  abbrev pub Inside : List Line → Type 0
  Inside past = ((d : Deed) → Acted past d → Acted whole d) × ((who : Who) (f : Flight) (r : ReplyTo) → HeardAs (only 0 past) who f r
      → HeardAs (only 0 whole) who f r)

  -- no number that stands at the end was lost by a close, and a life that isn't out wasn't evicted
  abbrev pub Lasting : Type 0
  Lasting =
      ((t : ℕ) (d : Deed) → Acted (only t whole) d → IsMade d → lost t d.reply.txn.0 ≡ false → StandsSoFar head.osts (only t whole) d)
      × ((who : Who) → out who ≡ false → (t : ℕ) → Evicted (only t whole) who → ⊥)

  -- beside an act that was heard stands no transaction of its request
  alone : (past : List Line) (c : ℕ) (f : Flight) (r : ReplyTo) (d : Deed) (named : At) → Grown head past → Grown head whole → Inside past
      → Lasting → HeardBy (only 0 past) c f r → Acted (only 0 past) d
      → r ≡ record d.reply { boot = r.boot; committed = r.committed } → out r.who ≡ false → d.reply.at ≡ named
      → acted (printed past) named d.reply.who d.reply.xid.0 ≡ true → standing_count lost 0 d.reply.who d.reply.xid.0 (printed whole) ≡ 0
  alone past c f r d named g w i lasting hears did is stays turn acts = none_counts lost 0 d.reply.who d.reply.xid.0 head whole w none
    where
      a : Acted past d
      a = acted_whole 0 past d did

      first : d.reply.at.node ≡ Target 0
      first = first_at head past d g did

      -- in the whole trace, by the metadata target
      story : Acted (only 0 whole) d
      story = acted_only head whole d 0 w (i.0 d a) first

      act : ActIn past named d.reply.who d.reply.xid.0
      act = act_in head past named d.reply.who d.reply.xid.0 g acts

      -- so it is that act
      zero : d.reply.txn.0 ≡ 0
      zero = ap (λ (v : Deed). v.reply.txn.0) (sym (one_turn head past 0 act.0 d g (ap (λ (v : At). v.node) (act.3 ∙ sym turn) ∙ first)
          act.1 a (act.3 ∙ sym turn) act.4 act.5)) ∙ act.2

      whose : r.who ≡ d.reply.who
      whose = ap (λ (v : ReplyTo). v.who) is

      heard : HeardAs (only 0 whole) r.who f r
      heard = i.1 r.who f r (heard_as head (only 0 past) c f r (grown_of head 0 past g) hears)

      inside : HoldsAt head (only 0 whole)
      inside = (holds head whole w).at 0

      has : HasSlot head.clients (only 0 whole) r.who
      has = ⊎_elim
          (λ (h : HasSlot head.clients (only 0 whole) r.who). h)
          (λ (e : Evicted (only 0 whole) r.who). absurd (lasting.1 r.who stays 0 e))
          (subst (λ (v : Who). Had head.clients (only 0 whole) v) (sym whose) (inside.lives.acted d story))

      xid : ℕ → Xid
      xid n = record { 0 = n }

      none : NoneLeft lost 0 d.reply.who d.reply.xid.0 whole
      none e b made left who x =
          let same : e ≡ d = inside.done.alone r.who f r d e heard has story is b made (lasting.0 0 e b made left) (who ∙ sym whose)
          (ap xid x) in
          let n : e.reply.txn.0 ≡ 0 = ap (λ (v : Deed). v.reply.txn.0) same ∙ zero in
          omega (arith, n, made)

  in_time : (past : List Line) (at : At) (c slot : ℕ) (named : At) (given : Answer) → Grown head past → Grown head whole → Inside past
      → Lasting
      → (t : Tells past at c slot named given) → out t.reply.who ≡ false → ReplyStands (lost 0) t.deed.reply → (b : calls.Begun) → b.at
      ≡ t.begun.at → operation b ≡ Some t.deed.op → ActsInTime lost (printed whole) (printed past) at (life_at c past) b named
  in_time past at c slot named given g w i lasting t stays s b at_is op_is =
      let d = t.deed in
      let x = d.reply.xid.0 in
      let a = acted_whole 0 past d t.acted in
      let first = first_at head past d g t.acted in
      let is = asked_is head past 0 d g (acted_sent head past 0 d g t.acted) in
      let there = acted_in head lost past g d first a s in
      record {
        after = subst (λ (v : At). UpTo v named) (sym at_is) (upto_is t.begun.at named t.after);
        before = upto_is named at t.until;
        acts = λ other. subst (λ (o : Option ℕ). ActsFor lost (printed whole) (printed past) (life_at c past) b named o (operation b))
            (sym t.heard)
            (subst (λ (o : Option Op). ActsFor lost (printed whole) (printed past) (life_at c past) b named (Some x) o) (sym op_is)
            (record {
              request = moved_asked past d (life_at c past) x d.op t.who refl refl is;
              executed = moved_acted lost past d (life_at c past) x named t.who t.turn_is refl there;
              untold = t.untold;
              alone = λ a. subst (λ (v : Who). standing_count lost 0 v x (printed whole) ≡ 0) t.who
                  (alone past c t.flight t.reply d named g w i lasting t.hears t.acted (sym t.is) stays t.turn_is
                  (subst (λ (v : Who). acted (printed past) named v x ≡ true) (sym t.who) a));
            }));
      }

  -- of a call that asked
  asked_law : (past : List Line) (stamp : Stamp) (c slot : ℕ) (named : At) (given : Answer) (work : Option Work)
      → Steps past (turn stamp (Client c)) → ToldOk past (turn stamp (Client c)) c slot named given work → Grown head past
      → Grown head whole → Inside past → Lasting
      → HeardStand out lost past → ToldBy out lost (printed whole) (printed past) (turn stamp (Client c)) (Client c) slot named given
  asked_law past stamp c slot named given work steps ok g w i lasting s =
      let at = turn stamp (Client c) in
      let t = told_tells head past stamp c slot named given work steps ok g in
      let o = meant_is head c slot past t.begun g t.call in
      let b = o.0 in
      let asks_it : operation_of t.begun.file b.call ≡ Some t.deed.op = ap (λ (v : Call). operation_of t.begun.file v) o.3 ∙ t.becomes in
      let fine = subst IsFine t.answer (so_fine t.deed.reply.answer (deed_fine head past t.deed g t.acted)) in
      subst (λ (v : Option calls.Begun). ToldOn out lost (printed whole) (printed past) at (who_is c (printed past)) v named given)
      (sym o.1)
      (record {
        handle = λ e. let f = fine.0 in absurd (cc);
        evicted = λ e. let f = fine.1 in absurd (cc);
        own = λ e. absurd (own_no (is_local b.call) (is_bad_handle given) (is_end_of_life given)
            (not_local t.begun.file b.call t.deed.op asks_it) fine.0 fine.1 e);
        acts = λ e. subst (λ (v : Who). ActsInTime lost (printed whole) (printed past) at v b named) (sym (present_is head c past g))
            (in_time past at c slot named given g w i lasting t (ap out (t.whose ∙ sym (present_is head c past g)) ∙ e)
            (same_stands (lost 0) t.deed.reply t.reply t.is (heard_stands out lost 0 past c t.flight t.reply s t.hears
            (ap out (t.whose ∙ sym (present_is head c past g)) ∙ e))) b o.2 (sym o.4 ∙ t.becomes));
      })

  -- of a call whose answer was known: its turn is the one in which it began and is told
  knew_law : (past : List Line) (stamp : Stamp) (c slot : ℕ) (named : At) (given : Answer) (work : Option Work)
      → KnownOk past (turn stamp (Client c)) c slot named given work → Grown head past
      → ToldBy out lost (printed whole) (printed past) (turn stamp (Client c)) (Client c) slot named given
  knew_law past stamp c slot named given work ok g =
      let at = turn stamp (Client c) in
      let o = open_is head c slot past ok.running g ok.call in
      let own : same_turn named at ≡ true = subst (λ (v : At). same_turn v at ≡ true) (sym ok.of_turn) (same_turn_self at) in
      let fine = known_fine head past c ok.running.call given g ok.known in
      let now : UpTo at at = upto_is at at (inl refl) in
      subst (λ (v : Option calls.Begun). ToldOn out lost (printed whole) (printed past) at (who_is c (printed past)) v named given)
      (sym o.1)
      (record {
        handle = λ e. let f = fine.0 in absurd (cc);
        evicted = λ e. let f = fine.1 in absurd (cc);
        own = λ e. own;
        acts = λ e. record {
          after = subst (λ (v : At). UpTo v named) (sym (o.2 ∙ ok.begun)) (subst (λ (v : At). UpTo at v) (sym ok.of_turn) now);
          before = subst (λ (v : At). UpTo v at) (sym ok.of_turn) now;
          acts = λ other. absurd (cc);
        };
      })

  -- of a call that its life doesn't outlive: the target that told the client so had evicted it
  ends_law : (past : List Line) (stamp : Stamp) (c slot : ℕ) (named : At) (given : Answer) (work : Option Work)
      → Steps past (turn stamp (Client c)) → EndsOk past (turn stamp (Client c)) c slot named given work → Grown head past
      → ToldBy out lost (printed whole) (printed past) (turn stamp (Client c)) (Client c) slot named given
  ends_law past stamp c slot named given work steps ok g =
      let at = turn stamp (Client c) in
      let o = open_is head c slot past ok.running g ok.call in
      let own : same_turn named at ≡ true = subst (λ (v : At). same_turn v at ≡ true) (sym ok.of_turn) (same_turn_self at) in
      let began : Upto ok.running.at at = reached_on past at ok.running.at steps
      ((holds head past g).reaches.begun c slot ok.running ok.call) in
      subst (λ (v : Option calls.Begun). ToldOn out lost (printed whole) (printed past) at (who_is c (printed past)) v named given)
      (sym o.1)
      (record {
        handle = λ e. let f : is_bad_handle given ≡ false = ap is_bad_handle ok.of_answer in absurd (cc);
        evicted = λ e. subst (λ (v : Who). took_notice (printed past) at v ≡ true) (sym (present_is head c past g))
            (notice_taken head past at c g refl ok.notice);
        own = λ e. own;
        acts = λ e. record {
          after = subst (λ (v : At). UpTo v named) (sym o.2) (subst (λ (v : At). UpTo ok.running.at v) (sym ok.of_turn)
              (upto_is ok.running.at at began));
          before = subst (λ (v : At). UpTo v at) (sym ok.of_turn) (upto_is at at (inl refl));
          acts = λ other. absurd (cc);
        };
      })

  -- of a call on a bad handle: it began as one, in this turn
  bad_law : (past : List Line) (stamp : Stamp) (c slot : ℕ) (named : At) (given : Answer) (work : Option Work)
      → BadOk past (turn stamp (Client c)) c slot named given work → Grown head past
      → ToldBy out lost (printed whole) (printed past) (turn stamp (Client c)) (Client c) slot named given
  bad_law past stamp c slot named given work ok g =
      let at = turn stamp (Client c) in
      let o = meant_is head c slot past ok.running g ok.call in
      let own : same_turn named at ≡ true = subst (λ (v : At). same_turn v at ≡ true) (sym ok.of_turn) (same_turn_self at) in
      let now : UpTo at at = upto_is at at (inl refl) in
      subst (λ (v : Option calls.Begun). ToldOn out lost (printed whole) (printed past) at (who_is c (printed past)) v named given)
      (sym o.1)
      (record {
        handle = λ e. sym o.5 ∙ ap is_bad_stage ok.bad;
        evicted = λ e. let f : is_end_of_life given ≡ false = ap is_end_of_life ok.of_answer in absurd (cc);
        own = λ e. own;
        acts = λ e. record {
          after = subst (λ (v : At). UpTo v named) (sym (o.2 ∙ ok.begun)) (subst (λ (v : At). UpTo at v) (sym ok.of_turn) now);
          before = subst (λ (v : At). UpTo v at) (sym ok.of_turn) now;
          acts = λ other. absurd (cc);
        };
      })

  -- of a glimpse, a flush, a read or a stat of a file: it acts in the turn in which it is told, which it names
  now_law : (past : List Line) (stamp : Stamp) (c slot : ℕ) (named : At) (given : Answer) (r : Running) (work : Option Work)
      → Steps past (turn stamp (Client c)) → call_at c slot past ≡ Some r → named ≡ turn stamp (Client c)
      → is_bad_handle given ≡ false → is_end_of_life given ≡ false → Grown head past
      → ToldBy out lost (printed whole) (printed past) (turn stamp (Client c)) (Client c) slot named given
  now_law past stamp c slot named given r work steps call of_turn fine lives g =
      let at = turn stamp (Client c) in
      let o = open_is head c slot past r g call in
      let own : same_turn named at ≡ true = subst (λ (v : At). same_turn v at ≡ true) (sym of_turn) (same_turn_self at) in
      let began : Upto r.at at = reached_on past at r.at steps ((holds head past g).reaches.begun c slot r call) in
      subst (λ (v : Option calls.Begun). ToldOn out lost (printed whole) (printed past) at (who_is c (printed past)) v named given)
      (sym o.1)
      (record {
        handle = λ e. absurd (cc);
        evicted = λ e. absurd (cc);
        own = λ e. own;
        acts = λ e. record {
          after = subst (λ (v : At). UpTo v named) (sym o.2) (subst (λ (v : At). UpTo r.at v) (sym of_turn) (upto_is r.at at began));
          before = subst (λ (v : At). UpTo v at) (sym of_turn) (upto_is at at (inl refl));
          acts = λ other. absurd (cc);
        };
      })

  told_law : (past : List Line) (stamp : Stamp) (c slot : ℕ) (named : At) (given : Answer) (work : Option Work)
      → Allowed head past (turn stamp (Client c)) (Told slot named given work) → Grown head past → Grown head whole → Inside past → Lasting
      → HeardStand out lost past → ToldBy out lost (printed whole) (printed past) (turn stamp (Client c)) (Client c) slot named given
  told_law past stamp c slot named given work k g w i lasting s = by k.ok
    where
      by : EntryOk past (turn stamp (Client c)) (Client c) (Told slot named given work)
          → ToldBy out lost (printed whole) (printed past) (turn stamp (Client c)) (Client c) slot named given
      by (inl ok) = asked_law past stamp c slot named given work k.steps ok g w i lasting s
      by (inr (inl ok)) = knew_law past stamp c slot named given work ok g
      by (inr (inr (inl ok))) = ends_law past stamp c slot named given work k.steps ok g
      by (inr (inr (inr (inl ok)))) = bad_law past stamp c slot named given work ok g
      by (inr (inr (inr (inr (inl ok))))) = now_law past stamp c slot named given ok.running work k.steps ok.call ok.of_turn
          (ap is_bad_handle ok.of_answer) (ap is_end_of_life ok.of_answer) g
      by (inr (inr (inr (inr (inr (inl ok)))))) = now_law past stamp c slot named given ok.running work k.steps ok.call ok.of_turn
          (ap is_bad_handle ok.of_answer) (ap is_end_of_life ok.of_answer) g
      by (inr (inr (inr (inr (inr (inr (inl ok))))))) = let fine =
          read_fine (store_at c past) ok.done ok.does.read.offset ok.does.read.count given ok.tells
          in now_law past stamp c slot named given ok.running work k.steps ok.call ok.of_turn fine.0 fine.1 g
      by (inr (inr (inr (inr (inr (inr (inr (inl ok)))))))) = now_law past stamp c slot named given ok.running work k.steps ok.call
          ok.of_turn (ap is_bad_handle ok.of_answer) (ap is_end_of_life ok.of_answer) g
      by (inr (inr (inr (inr (inr (inr (inr (inr ok)))))))) = now_law past stamp c slot named given ok.running work k.steps ok.call
          ok.of_turn (ap is_bad_handle ok.of_answer) (ap is_end_of_life ok.of_answer) g

-- ---- the law at a request's message

tags_differ : (head : Head) (t : ℕ) (past : List Line) (who : Who) → Grown head past → (rs : List RequestOf) → Distinct rs
    → ((r : RequestOf) → In r rs → Flown t past who r) → Pairwise (λ one other. one.tag ≢ other.tag) rs
tags_differ head t past who g [] d f = tt
tags_differ head t past who g (r ∷ rs) d f = (
  in_every (λ (q : RequestOf). r.tag ≢ q.tag) rs (λ q i e.
      let a = f r (inl refl) in
      let b = f q (inr i) in
      let tag : a.0.tag ≡ b.0.tag = ap (λ (v : RequestOf). v.tag) (sym a.2) ∙ e ∙ ap (λ (v : RequestOf). v.tag) b.2 in
      let x = ((holds head past g).at t).numbers.tags who a.0 b.0 a.1 b.1 tag in
      d.0 q i (ap (λ (v : RequestOf). v.xid.0) b.2 ∙ sym x ∙ ap (λ (v : RequestOf). v.xid.0) (sym a.2))),
  tags_differ head t past who g rs d.1 (λ q i. f q (inr i)),
)

-- at an object storage target each is on an object of its own
objects_differ : (head : Head) (t : ℕ) (past : List Line) (who : Who) → 0 < t → Grown head past → (rs : List RequestOf) → Distinct rs
    → ((r : RequestOf) → In r rs → Flown t past who r)
    → Pairwise (λ one other. same_object one other ≡ false) rs
objects_differ head t past who high g [] d f = tt
objects_differ head t past who high g (r ∷ rs) d f = (
  in_every (λ (q : RequestOf). same_object r q ≡ false) rs (λ q i.
      let a = f r (inl refl) in
      let b = f q (inr i) in
      ap (λ (o : Op). same_resource (object o) (object q.op)) (ap (λ (v : RequestOf). v.op) a.2)
      ∙ ap (λ (o : Op). same_resource (object a.0.op) (object o)) (ap (λ (v : RequestOf). v.op) b.2)
      ∙ objects_apart head t past who high g a.0 b.0 a.1 b.1 (λ x. d.0 q i
      (ap (λ (v : RequestOf). v.xid.0) b.2 ∙ sym x ∙ ap (λ (v : RequestOf). v.xid.0) (sym a.2)))),
  objects_differ head t past who high g rs d.1 (λ q i. f q (inr i)),
)

one_tag : (head : Head) (t : ℕ) (past : List Line) (who : Who) (r : RequestOf) → Grown head past → Flown t past who r
    → SameTag (first_request (printed past) t r.who r.xid.0) r.tag
one_tag head t past who r g flown = by (first_request (printed past) t r.who r.xid.0) refl
  where
    by : (o : Option RequestOf) → first_request (printed past) t r.who r.xid.0 ≡ o → SameTag o r.tag
    by None e = tt
    by (Some k) e =
        let h = (holds head past g).at t in
        let s = first_sent past t r.who r.xid.0 k e in
        let m = h.done.sent s.0 (Target t) (message.Request k) (was_to head past t s.0 (message.Request k) g s.1) in
        let w : k.who ≡ who = s.2 ∙ ap (λ (v : RequestOf). v.who) flown.2 in
        let x : m.0.xid ≡ flown.0.xid = ap (λ (v : RequestOf). v.xid.0) (sym m.2) ∙ s.3 ∙ ap (λ (v : RequestOf). v.xid.0) flown.2 in
        let same : m.0 ≡ flown.0 = h.numbers.one who m.0 flown.0 (subst (λ v. Flew (only t past) v m.0) w m.1)
        (h.numbers.flying who flown.0 flown.1) x in
        ap (λ (v : RequestOf). v.tag) m.2 ∙ ap (λ (v : Flight). v.tag) same ∙ ap (λ (v : RequestOf). v.tag) (sym flown.2)

abbrev asking : List Line → Stamp → (c t : ℕ) → RequestOf → List Line
asking past stamp c t r = line (turn stamp (Client c)) (Send (Target t) (message.Request r)) ∷ past

sends_law : (head : Head) (past : List Line) (stamp : Stamp) (c t : ℕ) (r : RequestOf) → IsHead head
    → Allowed head past (turn stamp (Client c)) (Send (Target t) (message.Request r)) → Grown head past
    → FliesAt (printed past) t r (in_flight t r.who (printed (asking past stamp c t r)))
sends_law head past stamp c t r is k g =
    let new = asking past stamp c t r in
    let who = life_of c (only t past) in
    let flown = ask_flown t past c r (k.of t (self t)) in
    let fs = keeps_flyers head t past stamp (Client c) (Send (Target t) (message.Request r)) k g (flyers head t past g) who in
    let those : (q : RequestOf) → In q (flying t who new) → Flown t past who q = λ q i. let j = fs.0 q i
    in (j.0, sent_flights t j.0 j.1, j.2) in
    subst (λ (v : Who). FliesAt (printed past) t r (in_flight t v (printed new))) (sym (ap (λ (v : RequestOf). v.who) flown.2))
    (record {
      most = let m = no_more (flying t who new) (flights_of who (only t past)) fs.1
          (λ q i. let j = those q i in (j.0, j.1, ap (λ (v : RequestOf). v.xid.0) (sym j.2))) in
          let room = ((holds head past g).at t).room who in
          let eight = is.most_flight in omega arith;
      tags = tags_differ head t past who g (flying t who new) fs.1 those;
      objects = λ high. objects_differ head t past who high g (flying t who new) fs.1 those;
      one_tag = one_tag head t past who r g flown;
    })
  where
    -- a message leaves what is in flight by the rows
    sent_flights : (u : ℕ) (f : Flight) → In f (flights_of (life_of c (only t past)) (only u (asking past stamp c t r)))
        → In f (flights_of (life_of c (only t past)) (only u past))
    sent_flights u f i =
        cond_both (nat_eq u t) (line (turn stamp (Client c)) (Send (Target t) (message.Request r)) ∷ only u past) (only u past)
        (λ (p : List Line). In f (flights_of (life_of c (only t past)) p) → In f (flights_of (life_of c (only t past)) (only u past)))
        (λ o j. j) (λ o j. j) i

-- ---- the law

module _ (head : Head) (is : IsHead head) (out : Who → Bool) (lost : ℕ → ℕ → Bool) (whole : List Line) (all_grown : Grown head whole)
    (lasting : Lasting head out lost whole) where
  inside_before : (past : List Line) (l : Line) → Inside head out lost whole (l ∷ past) → Inside head out lost whole past
  inside_before past l i = (λ d a. i.0 d (acted_more l.at l.entry past d a), λ who f r h. i.1 who f r (heard_story 0 l past who f r h))

  heard_before : (past : List Line) (l : Line) → HeardStand out lost (l ∷ past) → HeardStand out lost past
  heard_before past l s = by l.entry s
    where
      by : (e : Entry) → HeardStand out lost (line l.at e ∷ past) → HeardStand out lost past
      by (Heard t f r) s = s.1
      by _ s = s

  -- what is known of a past: it is one of the whole trace, and what was heard stands
  abbrev Known : List Line → Type 0
  Known past = Inside head out lost whole past × HeardStand out lost past

  earlier : (l : Line) (past : List Line) → Known (l ∷ past) → Known past
  earlier l past k = (inside_before past l k.0, heard_before past l k.1)

  acts_at : (past : List Line) (l : Line) (later : List PrintedLine) → Allowed head past l.at l.entry → Grown head past → Known (l ∷ past)
      → Due (l ∷ past) later → Keeps (ActsOf out lost (printed whole)) past l later
  acts_at past l later k g known due = by l.at.node l.entry k known.1 due
    where
      by : (node : Node) (e : Entry) → Allowed head past (turn l.at.stamp node) e
          → HeardStand out lost (line (turn l.at.stamp node) e ∷ past) → Due (line (turn l.at.stamp node) e ∷ past) later
          → OfPrinted (λ x. ActsAt out lost (printed whole) (printed past) (record { at = turn l.at.stamp node; entry = x }) later x)
          (printed_entry (count_sent past + 1) e)
      by (Client c) (Begin slot running) k s due = λ bad. due (begins_bad head c slot past l.at.stamp running g k bad)
      by (Target t) (Begin slot running) k s due = absurd k.ok
      by (Client c) (Told slot named given work) k s due = told_law head out lost whole past l.at.stamp c slot named given work k g
          all_grown (inside_before past l known.0) lasting s
      by (Target t) (Told slot named given work) k s due = absurd k.ok
      by (Client c) (Send (Target t) (message.Request r)) k s due = sends_law head past l.at.stamp c t r is k g
      by (Client c) (Send (Target t) (message.Cancel who boot cookie)) k s due = tt
      by (Client c) (Send (Target t) (message.Where who boot cookie)) k s due = tt
      by (Client c) (Send (Target t) (message.Size m)) k s due = tt
      by (Client c) (Send (Target t) (message.Join who boot)) k s due = tt
      by (Client c) (Send (Target t) (message.Replay r)) k s due = tt
      by (Client c) (Send (Target t) (message.Lock r)) k s due = tt
      by (Client c) (Send (Target t) (message.Word who boot replays locks seen)) k s due = tt
      by (Client c) (Send (Target t) m) k s due = absurd k.ok
      by (Client c) (Send (Client d) m) k s due = absurd k.ok
      by (Target t) (Send (Client c) m) k s due = tt
      by (Target t) (Send (Target u) m) k s due = absurd k.ok
      by (Target t) (Made d) k s due = λ z. at_most lost t d.reply.who d.reply.xid.0 head whole all_grown (lasting.0 t)
      by (Client c) (Made d) k s due = absurd k.ok
      by _ _ k s due = tt

  -- whatever lines come later
  pub acts_before : (past : List Line) (later : List PrintedLine) → Grown head past → Settled past
      → Inside head out lost whole past → HeardStand out lost past → HoldsBefore (ActsOf out lost (printed whole)) later (printed past)
  acts_before past later g settled i s =
      holds_due head (ActsOf out lost (printed whole)) Known earlier Due (due_before head) acts_at past later g (i, s)
      (nothing_due past later settled)

  pub acts_law : (past : List Line) → Grown head past → Settled past → Inside head out lost whole past → HeardStand out lost past
      → HoldsBefore (ActsOf out lost (printed whole)) [] (printed past)
  acts_law past g settled i s = acts_before past [] g settled i s
