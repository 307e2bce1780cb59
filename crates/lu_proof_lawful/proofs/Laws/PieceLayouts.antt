-- The layout that a life heard of a file, as the law of pieces reads it in the printed past: it stays once it was heard, and it is the one
-- with which
-- the file was created.
use Rattle.std.proofs.Common.{◌≡◌, ℕ, Bool, true, false, List, [], ◌∷◌, Option, Some, None, inl, inr, refl, sym, subst, ap, ◌∙◌}
use Rattle.std.specs.Prelude.{nat_eq, ◌&&◌, if◌then◌else◌}
use Rattle.std.proofs.lemmas.Bool.{cond_both, cond-true, eqb-true, and_from}
use Rattle.lu_base.specs.declared.ids.Fid.{Fid}
use Rattle.lu_base.specs.declared.ids.Node.{Node}
use Rattle.lu_base.specs.declared.ids.Node.TheVariants.{Client, Target}
use Rattle.lu_base.specs.declared.ids.Stamp.{Stamp}
use Rattle.lu_base.specs.declared.ids.Txn.{Txn}
use Rattle.lu_base.specs.declared.ids.Who.{Who}
use Rattle.lu_layout.specs.Raid0.{Raid0}
use Rattle.lu_spec_machine.specs.Tree.{same_fid}
use Rattle.lu_msg.specs.declared.answers.Answer.{Answer}
use Rattle.lu_msg.specs.declared.answers.Answer.TheVariants as told
use Rattle.lu_msg.specs.declared.messages.Message.TheVariants as message
use Rattle.lu_msg.specs.declared.messages.Reply.{Reply as ReplyTo}
use Rattle.lu_spec_entries.specs.Carried.{Flight}
use Rattle.lu_spec_entries.specs.Words.{Entry, Heard, Line, line, same_life}
use Rattle.lu_spec_entries.specs.Concerns.{concerns, only}
use Rattle.lu_spec_entries.specs.Printed.{printed}
use Rattle.lu_proof_lawful.specs.Covered.ClientStates.{is_own}
use Rattle.lu_proof_lawful.specs.Covered.Heads.{Head, IsHead}
use Rattle.lu_spec_laws.specs.Words.Lives.{is_by}
use Rattle.lu_spec_laws.specs.Words.Pasts.{or_else}
use Rattle.lu_spec_laws.specs.Words.Sends.{reply_in, first_fit, as_reply}
use Rattle.lu_spec_laws.specs.Words.Pieces.{opened_layout, carried_layout, layout_heard}
use Rattle.lu_proof_lawful.proofs.Preconditions.StoryGuards.{HeardOk}
use Rattle.lu_proof_lawful.proofs.Preconditions.Grown.{Allowed, Grown}
use Rattle.lu_proof_lawful.proofs.Preconditions.Lists.{self, turn, own_is, own_self, life_self}
use Rattle.lu_proof_lawful.proofs.Invariants.All.{holds}
use Rattle.lu_proof_lawful.proofs.Invariants.Known.{HeardBy}
use Rattle.lu_proof_lawful.proofs.Invariants.Layouts.{TellsBy}
use Rattle.lu_proof_lawful.proofs.Invariants.Lines.{acted_whole, only_more, life_only}
use Rattle.lu_proof_lawful.proofs.Refinement.OneLayout.{CreatedWith, created_more, told_once, one_layout}
use Rattle.lu_proof_lawful.proofs.Laws.CloseHeard.{takes_one}
use Rattle.lu_proof_lawful.proofs.Laws.Printed.{own_by}

-- ---- one line

fid_is : (a b : Fid) → same_fid a b ≡ true → a ≡ b
fid_is a b e = ap (λ n. of_number n) (eqb-true a.0 b.0 e)
  where
    of_number : ℕ → Fid
    of_number n = record { 0 = n }

-- what comes with the reply of a line that hears it
heard_reply : (head : Head) (past : List Line) (stamp : Stamp) (c u : ℕ) (f : Flight) (r : ReplyTo) (who : Who) → Grown head past
    → Allowed head past (turn stamp (Client c)) (Heard u f r) → r.who ≡ who
    → reply_in (printed past) (turn stamp (Client c)) u who r.xid.0 ≡ Some r
heard_reply head past stamp c u f r who g k own =
    ap (first_fit (λ s. as_reply u who r.xid.0 s.from s.message))
    (takes_one head past (turn stamp (Client c)) (Target u) (message.Reply r) g k.ok.1)
    ∙ ap (λ (o : Option ReplyTo). or_else o None) (cond-true (nat_eq u u && (same_life r.who who && nat_eq r.xid.0 r.xid.0)) (Some r) None
    fits)
  where
    fits : (nat_eq u u && (same_life r.who who && nat_eq r.xid.0 r.xid.0)) ≡ true
    fits = and_from (nat_eq u u) _ (self u) (and_from (same_life r.who who) (nat_eq r.xid.0 r.xid.0)
        (subst (λ (w : Who). same_life r.who w ≡ true) own (life_self r.who)) (self r.xid.0))

-- once a layout was heard it stays
pub layout_stays : (who : Who) (fid : Fid) (l : Line) (past : List Line) (m : Raid0) → layout_heard who fid (printed past) ≡ Some m
    → layout_heard who fid (printed (l ∷ past)) ≡ Some m
layout_stays who fid l past m e = by l.entry
  where
    by : (x : Entry) → layout_heard who fid (printed (line l.at x ∷ past)) ≡ Some m
    by (Heard t f r) = ap (λ (o : Option Raid0). or_else o (if is_by who (printed past) l.at.node
        then carried_layout fid (reply_in (printed past) l.at t who r.xid.0) else None)) e
    by x = e

-- ---- what it is

opened_is : (fid : Fid) (a : Answer) (m : Raid0) → opened_layout fid a ≡ Some m → (n : Txn) × (a ≡ told.OpenFile fid n m)
opened_is fid (told.OpenFile other n l) m e = by (same_fid other fid) refl e
  where
    by : (b : Bool) → same_fid other fid ≡ b → (if b then Some l else None) ≡ Some m → (k : Txn)
        × (told.OpenFile other n l ≡ told.OpenFile fid k m)
    by true q f = let same : l ≡ m = cc in (
      n,
      ap (λ (x : Raid0). told.OpenFile other n x) same
          ∙ ap (λ (x : Fid). told.OpenFile x n m) (fid_is other fid q),
    )
    by false q f = absurd (cc)
opened_is fid a m e = absurd (cc)

-- what a reply that was sent to a life tells of a layout
told_layout : (head : Head) (past : List Line) (c u : ℕ) (f : Flight) (r : ReplyTo) (fid : Fid) (n : Txn) (m : Raid0) → IsHead head
    → Grown head past → HeardOk (only u past) c f r → r.answer ≡ told.OpenFile fid n m → CreatedWith head.osts (only 0 past) fid m
told_layout head past c u f r fid n m is g ok opens =
    let sent = ((holds head past g).at u).done.sent (Target ok.from) (Client c) (message.Reply r) ok.was in
    subst (TellsBy (CreatedWith head.osts (only 0 past))) (ap (λ (v : ReplyTo). v.answer) (sym sent.is) ∙ opens)
    (told_once head past sent.deed is g (acted_whole u past sent.deed sent.acted))

-- the line is of that life's own
own_reply : (past : List Line) (c u : ℕ) (f : Flight) (r : ReplyTo) (who : Who) → HeardOk (only u past) c f r → is_own who past (Client c)
    ≡ true → r.who ≡ who
own_reply past c u f r who ok own = ok.who ∙ life_only c u past ∙ sym (own_is who past c own)

pub heard_created : (head : Head) (who : Who) (fid : Fid) (past : List Line) (m : Raid0) → IsHead head → Grown head past
    → layout_heard who fid (printed past) ≡ Some m → CreatedWith head.osts (only 0 past) fid m
heard_created head who fid [] m is g e = absurd (cc)
heard_created head who fid (l ∷ past) m is g e = created_more head.osts (only 0 past) (only 0 (l ∷ past)) fid m
    (λ d a. only_more 0 l past d a) (by l.at.node l.entry g.0 e (λ q. heard_created head who fid past m is g.1 q))
  where
    by : (node : Node) (x : Entry) → Allowed head past (turn l.at.stamp node) x
        → layout_heard who fid (printed (line (turn l.at.stamp node) x ∷ past)) ≡ Some m
        → (layout_heard who fid (printed past) ≡ Some m → CreatedWith head.osts (only 0 past) fid m)
        → CreatedWith head.osts (only 0 past) fid m
    by (Target t) (Heard u f r) k e ih = absurd k.ok
    by (Client c) (Heard u f r) k e ih = of (layout_heard who fid (printed past)) refl e
      where
        now : (b : Bool) → is_by who (printed past) (Client c) ≡ b
            → (if b then carried_layout fid (reply_in (printed past) (turn l.at.stamp (Client c)) u who r.xid.0) else None) ≡ Some m
            → CreatedWith head.osts (only 0 past) fid m
        now false own q = absurd (cc)
        now true own q =
            let ok : HeardOk (only u past) c f r = k.of u (self u) in
            let mine = own_reply past c u f r who ok (sym (own_by head who past (Client c) g.1) ∙ own) in
            let o = opened_is fid r.answer m (sym (ap (carried_layout fid) (heard_reply head past l.at.stamp c u f r who g.1 k mine)) ∙ q)
            in
            told_layout head past c u f r fid o.0 m is g.1 ok o.1

        of : (o : Option Raid0) → layout_heard who fid (printed past) ≡ o
            → or_else o (if is_by who (printed past) (Client c)
            then carried_layout fid (reply_in (printed past) (turn l.at.stamp (Client c)) u who r.xid.0) else None) ≡ Some m
            → CreatedWith head.osts (only 0 past) fid m
        of (Some x) old q = ih (old ∙ q)
        of None old q = now (is_by who (printed past) (Client c)) refl q
    by node x k e ih = ih e

-- what an open told a life it heard
pub opened_heard : (head : Head) (who : Who) (fid : Fid) (n : Txn) (l : Raid0) (past : List Line) (c : ℕ) (f : Flight) (r : ReplyTo)
    → IsHead head → Grown head past → HeardBy (only 0 past) c f r → r.who ≡ who → r.answer ≡ told.OpenFile fid n l
    → layout_heard who fid (printed past) ≡ Some l
opened_heard head who fid n l [] c f r is g h own opens = absurd h
opened_heard head who fid n l (x ∷ past) c f r is g h own opens =
    by x.at.node x.entry g.0 h (λ j. opened_heard head who fid n l past c f r is g.1 j own opens)
  where
    by : (node : Node) (e : Entry) → Allowed head past (turn x.at.stamp node) e
        → HeardBy (only 0 (line (turn x.at.stamp node) e ∷ past)) c f r
        → (HeardBy (only 0 past) c f r → layout_heard who fid (printed past) ≡ Some l)
        → layout_heard who fid (printed (line (turn x.at.stamp node) e ∷ past)) ≡ Some l
    by (Target t) (Heard v y q) k h ih = absurd k.ok
    by (Client d) (Heard v y q) k h ih = of (nat_eq 0 v) h
      where
        -- the first that it heard
        now : q ≡ r → (o : Option Raid0) → layout_heard who fid (printed past) ≡ o
            → or_else o (if is_by who (printed past) (Client d)
            then carried_layout fid (reply_in (printed past) (turn x.at.stamp (Client d)) v who q.xid.0) else None) ≡ Some l
        now same (Some z) old =
            ap (λ (y : Raid0). Some y)
            (one_layout head past fid z l g.1 (heard_created head who fid past z is g.1 old)
            (told_layout head past d v y q fid n l is g.1 (k.of v (self v)) (ap (λ (z : ReplyTo). z.answer) same ∙ opens)))
        now same None old =
            let ok : HeardOk (only v past) d y q = k.of v (self v) in
            let mine : q.who ≡ who = ap (λ (z : ReplyTo). z.who) same ∙ own in
            let here : is_by who (printed past) (Client d) ≡ true = own_by head who past (Client d) g.1
            ∙ subst (λ (w : Who). is_own w past (Client d) ≡ true) (sym (sym mine ∙ ok.who ∙ life_only d v past)) (own_self past d) in
            ap (λ (b : Bool). if b then carried_layout fid (reply_in (printed past) (turn x.at.stamp (Client d)) v who q.xid.0) else None)
            here
            ∙ ap (carried_layout fid) (heard_reply head past x.at.stamp d v y q who g.1 k mine)
            ∙ ap (opened_layout fid) (ap (λ (z : ReplyTo). z.answer) same ∙ opens)
            ∙ cond-true (same_fid fid fid) (Some l) None (self fid.0)

        stays : HeardBy (only 0 past) c f r → layout_heard who fid (printed (line (turn x.at.stamp (Client d)) (Heard v y q) ∷ past))
            ≡ Some l
        stays j = layout_stays who fid (line (turn x.at.stamp (Client d)) (Heard v y q)) past l (ih j)

        of : (b : Bool) → HeardBy (if b then line (turn x.at.stamp (Client d)) (Heard v y q) ∷ only 0 past else only 0 past) c f r
            → layout_heard who fid (printed (line (turn x.at.stamp (Client d)) (Heard v y q) ∷ past)) ≡ Some l
        of true (inl j) = now j.2 (layout_heard who fid (printed past)) refl
        of true (inr j) = stays j
        of false j = stays j
    by node e k h ih =
        layout_stays who fid (line (turn x.at.stamp node) e) past l
        (ih (cond_both (concerns 0 node e) (line (turn x.at.stamp node) e ∷ only 0 past) (only 0 past)
        (λ (p : List Line). HeardBy p c f r → HeardBy (only 0 past) c f r) (λ q j. j) (λ q j. j) h))
