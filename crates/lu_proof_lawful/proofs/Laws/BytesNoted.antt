-- The greatest byte that a client has noted as shown under a lock: either a page that its life read under that cookie ended with it, or it
-- wrote it
-- itself, under a lock for writing of that cookie.
use Rattle.std.proofs.Common.{◌≡◌, ℕ, ◌+◌, ◌*◌, ◌<◌, Bool, true, false, List, [], ◌∷◌, ◌++◌, length, Option, Some, None, ◌⊎◌, inl, inr}
use Rattle.std.proofs.Common.{refl, sym, subst, ap, ◌∙◌, arith}
use Rattle.std.specs.Prelude.{nat_eq, nat_lt, max, if◌then◌else◌}
use Rattle.std.proofs.lemmas.Bool.{eqb-true, and_parts, cond_both}
use Rattle.std.proofs.lemmas.Bool.Decides.{nat_tests}
use Rattle.lu_base.specs.declared.ids.Cookie.{Cookie}
use Rattle.lu_base.specs.declared.ids.Node.{Node}
use Rattle.lu_base.specs.declared.ids.Node.TheVariants.{Client, Target}
use Rattle.lu_base.specs.declared.ids.Who.{Who}
use Rattle.lu_base.specs.declared.locks.Extent.{Extent}
use Rattle.lu_base.specs.declared.locks.Lock.{Lock}
use Rattle.lu_base.specs.declared.locks.Mode.TheVariants.{PR, PW}
use Rattle.lu_base.specs.declared.locks.Policy.{Policy}
use Rattle.lu_base.specs.declared.locks.Policy.TheVariants.{Bits, Range}
use Rattle.lu_base.specs.declared.locks.Resource.{Resource}
use Rattle.lu_lock.specs.Modes.{serves}
use Rattle.lu_held.specs.declared.locks.HeldLock.{HeldLock}
use Rattle.lu_held.specs.declared.locks.Use.{Use}
use Rattle.lu_held.specs.Locks.{same_resource, named}
use Rattle.lu_msg.specs.declared.answers.Answer.{Answer}
use Rattle.lu_msg.specs.declared.answers.Answer.TheVariants as told
use Rattle.lu_msg.specs.declared.messages.Reply.{Reply as ReplyTo}
use Rattle.lu_msg.specs.declared.operations.Op.{Op}
use Rattle.lu_msg.specs.declared.operations.Op.TheVariants as op
use Rattle.lu_spec_entries.specs.declared.changes.Flush.TheVariants.{Put, Cut}
use Rattle.lu_spec_entries.specs.Carried.{Deed, Flight, Kind, Writes, Work, Running}
use Rattle.lu_spec_entries.specs.Concerns.{concerns, only}
use Rattle.lu_spec_entries.specs.Words.{Entry, Heard, Drop, Life, Acks, Fills, Zeroes, Grown as Grows, Shows, Line, line, is_client}
use Rattle.lu_spec_entries.specs.Fields.{on}
use Rattle.lu_spec_client.specs.Bytes.{page_size}
use Rattle.lu_spec_client.specs.Caches.{noted, with_note, forgotten_notes, shown_to, reads_shown, shown_after, shown_at, held_at}
use Rattle.lu_spec_client.specs.Calls.{life_at, reads_life, life_after}
use Rattle.lu_spec_client.specs.Messages.{held_as, page_heard, page_under, shows}
use Rattle.lu_spec_client.specs.Sending.{object_of}
use Rattle.lu_spec_client.specs.Stripes.{stripes}
use Rattle.lu_spec_client.specs.Wants.{wants_run, wants_cut, wants_of}
use Rattle.lu_proof_lawful.specs.Covered.ClientStates.{is_own}
use Rattle.lu_proof_lawful.specs.Covered.Heads.{Head}
use Rattle.lu_proof_lawful.proofs.Preconditions.CallGuards.{ChangesOn, wanted_by, ShowsOk, ShowsWritten}
use Rattle.lu_proof_lawful.proofs.Preconditions.Acts.{kind_ranges}
use Rattle.lu_proof_lawful.proofs.Preconditions.Awaits.{heard_more}
use Rattle.lu_proof_lawful.proofs.Preconditions.ClientLines.{on_other}
use Rattle.lu_proof_lawful.proofs.Preconditions.Held.{held_in}
use Rattle.lu_proof_lawful.proofs.Preconditions.LockKinds.{held_kind}
use Rattle.lu_proof_lawful.proofs.Preconditions.Grown.{Grown}
use Rattle.lu_proof_lawful.proofs.Preconditions.Guards.{EntryOk}
use Rattle.lu_proof_lawful.proofs.Preconditions.Heard.{In, HeardAs, HasRange}
use Rattle.lu_proof_lawful.proofs.Preconditions.HeedMarks.{heeds_marks, marks_left, marks_of}
use Rattle.lu_proof_lawful.proofs.Preconditions.Heeds.{AllHeed, HeedsNext, none_owed}
use Rattle.lu_proof_lawful.proofs.Preconditions.Lists.{self, own_self}
use Rattle.lu_proof_lawful.proofs.Preconditions.Parts.{life_is_of}
use Rattle.lu_proof_lawful.proofs.Preconditions.PinsFit.{PinsFit}
use Rattle.lu_proof_lawful.proofs.Invariants.All.{holds}
use Rattle.lu_proof_lawful.proofs.Invariants.TargetGroups.{Acted, Gave, Holding}
use Rattle.lu_proof_lawful.proofs.Invariants.Lines.{only_more}
use Rattle.lu_proof_objects.proofs.Pieces.{run_wanted, cut_wanted}
use Rattle.lu_proof_objects.proofs.Tables.{object_is}
use Rattle.lu_proof_objects.proofs.Using.{writes_only}
use Rattle.lu_proof_lawful.proofs.Refinement.ChangesFound.{in_client, in_wants}
use Rattle.lu_proof_lawful.proofs.Refinement.Covering.{given_line}
use Rattle.lu_proof_lawful.proofs.Refinement.MarksOwed.{none_marked}
use Rattle.lu_proof_lawful.proofs.Refinement.Place.{place}
use Rattle.lu_proof_lawful.proofs.Refinement.Placed.{acted_place, held_place}
use Rattle.lu_proof_lawful.proofs.Refinement.PointsTables.{same_lock, noted_with, noted_without}
use Rattle.lu_proof_lawful.proofs.Refinement.TellsAgree.{TellsByte}
use Rattle.lu_proof_lawful.proofs.Refinement.Uses.{uses_held, held_gave}

-- ---- what is to be marked comes of a reply that was heard

heard_on : (u : ℕ) (who : Who) (f : Flight) (p : ReplyTo) (l : Line) (past : List Line) → HeardAs (only u past) who f p
    → HeardAs (only u (l ∷ past)) who f p
heard_on u who f p l past h = cond_both (concerns u l.at.node l.entry) (l ∷ only u past) (only u past)
    (λ (x : List Line). HeardAs x who f p) (λ o. heard_more (only u past) l who f p h) (λ o. h)

-- these marks are left of one that the present life heard
pub record MarkedBy (c : ℕ) (past : List Line) : Type 0 where
  pub target : ℕ
  pub flight : Flight
  pub reply : ReplyTo
  pub heard : HeardAs (only target past) (life_at c past) flight reply
  pub held : List HeldLock
  pub before : List Entry
  pub is : heeds_marks target flight.op reply.answer held ≡ before ++ marks_of c past

abbrev Marked : ℕ → List Line → Type 0
Marked c past = (marks_of c past ≡ []) ⊎ MarkedBy c past

append_more : {A : Type 0} (xs : List A) (x : A) (ys : List A) → xs ++ x ∷ ys ≡ (xs ++ x ∷ []) ++ ys
append_more [] x ys = refl
append_more (z ∷ xs) x ys = ap (λ (v : List _). z ∷ v) (append_more xs x ys)

module _ (c : ℕ) (l : Line) (past : List Line) where
  -- a line that leaves the marks and the life
  marks_same : (e : Entry) → marks_of c (line l.at e ∷ past) ≡ marks_of c past → life_at c (line l.at e ∷ past) ≡ life_at c past
      → Marked c past → Marked c (line l.at e ∷ past)
  marks_same e same life (inl n) = inl (same ∙ n)
  marks_same e same life (inr m) = inr (record {
    target = m.target;
    flight = m.flight;
    reply = m.reply;
    heard = subst (λ (w : Who). HeardAs (only m.target (line l.at e ∷ past)) w m.flight m.reply) (sym life)
        (heard_on m.target (life_at c past) m.flight m.reply (line l.at e) past m.heard);
    held = m.held;
    before = m.before;
    is = m.is ∙ ap (λ (ms : List Entry). m.before ++ ms) (sym same);
  })

  -- one that marks
  marks_on : (e : Entry) (b : Bool) → marks_of c (line l.at e ∷ past) ≡ (if b then marks_left (marks_of c past) else marks_of c past)
      → life_at c (line l.at e ∷ past) ≡ life_at c past → Marked c past → Marked c (line l.at e ∷ past)
  marks_on e false same life m = marks_same e same life m
  marks_on e true same life (inl n) = inl (same ∙ ap marks_left n)
  marks_on e true same life (inr m) = by (marks_of c past) refl
    where
      by : (ms : List Entry) → marks_of c past ≡ ms → Marked c (line l.at e ∷ past)
      by [] q = inl (same ∙ ap marks_left q)
      by (x ∷ more) q = inr (record {
        target = m.target;
        flight = m.flight;
        reply = m.reply;
        heard = subst (λ (w : Who). HeardAs (only m.target (line l.at e ∷ past)) w m.flight m.reply) (sym life)
            (heard_on m.target (life_at c past) m.flight m.reply (line l.at e) past m.heard);
        held = m.held;
        before = m.before ++ x ∷ [];
        is = m.is ∙ ap (λ (ms : List Entry). m.before ++ ms) q ∙ append_more m.before x more
            ∙ ap (λ (ms : List Entry). (m.before ++ x ∷ []) ++ ms) (sym (same ∙ ap marks_left q));
      })

  -- the line that hears
  marks_heard : (u : ℕ) (f : Flight) (p : ReplyTo) (b : Bool) → is_client c l.at.node ≡ b → Marked c past
      → Marked c (line l.at (Heard u f p) ∷ past)
  marks_heard u f p false own m = marks_same (Heard u f p) (ap (λ (v : Bool). if v then heeds_marks u f.op p.answer (held_at c past)
      else marks_of c past) own) refl m
  marks_heard u f p true own m = inr (record {
    target = u;
    flight = f;
    reply = p;
    heard = subst (λ (n : Node). HeardAs (only u (line (record { stamp = l.at.stamp; node = n }) (Heard u f p) ∷ past)) (life_at c past) f
        p) (sym (own_node c l.at.node own)) here;
    held = held_at c past;
    before = [];
    is = ap (λ (v : Bool). if v then heeds_marks u f.op p.answer (held_at c past) else marks_of c past) (sym own);
  })
    where
      own_node : (c : ℕ) (n : Node) → is_client c n ≡ true → n ≡ Client c
      own_node c (Client d) e = ap Client (sym (eqb-true c d e))
      own_node c (Target t) e = absurd (cc)

      here : HeardAs (only u (line (record { stamp = l.at.stamp; node = Client c }) (Heard u f p) ∷ past)) (life_at c past) f p
      here = subst (λ (v : Bool). HeardAs (if v then line (record { stamp = l.at.stamp; node = Client c }) (Heard u f p) ∷ only u past
          else only u past) (life_at c past) f p) (sym (self u))
          (inl (
            subst (λ (w : Who). is_own w (only u past) (Client c) ≡ true) (sym (life_is_of c u past)) (own_self (only u past) c),
            refl,
            refl,
          ))

marked : (c : ℕ) (past : List Line) → AllHeed past → Marked c past
marked c [] heeds = inl refl
marked c (l ∷ past) heeds = by l.entry (heeds.0 c) (marked c past heeds.1)
  where
    by : (e : Entry) → HeedsNext c past (line l.at e) → Marked c past → Marked c (line l.at e ∷ past)
    by (Heard u f p) next m = marks_heard c l past u f p (is_client c l.at.node) refl m
    by (Acks q) next m = marks_on c l past (Acks q) (is_client c l.at.node) refl refl m
    by (Fills q at bs) next m = marks_on c l past (Fills q at bs) (is_client c l.at.node) refl refl m
    by (Zeroes q n) next m = marks_on c l past (Zeroes q n) (is_client c l.at.node) refl refl m
    by (Grows q ch) next m = marks_on c l past (Grows q ch) (is_client c l.at.node) refl refl m
    by (Shows q k n) next m = marks_on c l past (Shows q k n) (is_client c l.at.node) refl refl m
    by (Life who) next m = inl (none_marked c past heeds.1 (none_owed c past (line l.at (Life who)) next (λ x. x)))
    by e next m = marks_same c l past e refl refl m

-- a byte is shown of a page alone
abbrev Page : Op → Answer → Resource → Cookie → ℕ → Type 0
Page o a r k last = (page b : ℕ) × (bs : List ℕ) × (o ≡ op.Get r k page) × (a ≡ told.Content (b ∷ bs))
    × (last ≡ page * page_size + length bs)

shown_first : (t : ℕ) (o : Op) (a : Answer) (held : List HeldLock) (before : List Entry) (r : Resource) (k : Cookie) (last : ℕ)
    (more : List Entry) → heeds_marks t o a held ≡ before ++ Shows r k last ∷ more → Page o a r k last
shown_first t (op.Get q cookie page) (told.Content bs) held before r k last more e = by (held_as (named (record { 0 = t }) cookie) held) e
  where
    under : (bs : List ℕ) (x : Extent) (before : List Entry) → page_under q cookie page bs (Range x) ≡ before ++ Shows r k last ∷ more
        → Page (op.Get q cookie page) (told.Content bs) r k last
    under [] x [] e = absurd (cc)
    under [] x (y ∷ []) e = absurd (cc)
    under [] x (y ∷ z ∷ before) e = absurd (cc)
    under (b ∷ bs) x [] e =
        let first : Shows q cookie (page * page_size + length bs) ≡ Shows r k last = cc in
        let one : q ≡ r = cc in
        let two : cookie ≡ k = cc in
        let three : page * page_size + length bs ≡ last = cc in
        (page, b, bs, ap (λ (s : Resource). op.Get s cookie page) one ∙ ap (λ (j : Cookie). op.Get r j page) two, refl, sym three)
    under (b ∷ bs) x (y ∷ []) e = absurd (cc)
    under (b ∷ bs) x (y ∷ z ∷ []) e = absurd (cc)
    under (b ∷ bs) x (y ∷ z ∷ v ∷ before) e = absurd (cc)

    nothing : {A : Type 0} (xs : List A) (x : A) (ys : List A) → [] ≡ xs ++ x ∷ ys → ⊥
    nothing [] x ys e = absurd (cc)
    nothing (z ∷ xs) x ys e = absurd (cc)

    by : (o : Option Lock) → page_heard q cookie page bs o ≡ before ++ Shows r k last ∷ more
        → Page (op.Get q cookie page) (told.Content bs) r k last
    by None e = absurd (nothing before (Shows r k last) more e)
    by (Some l) e = policy l.ask.policy e
      where
        policy : (p : Policy) → page_under q cookie page bs p ≡ before ++ Shows r k last ∷ more
            → Page (op.Get q cookie page) (told.Content bs) r k last
        policy (Range x) e = under bs x before e
        policy (Bits y) e = absurd (nothing before (Shows r k last) more e)
shown_first t (op.Put q cookie at bs) told.Done held before r k last more e = by before e
  where
    by : (before : List Entry) → Acks q ∷ Fills q at bs ∷ Grows q (Put at bs) ∷ [] ≡ before ++ Shows r k last ∷ more
        → Page (op.Put q cookie at bs) told.Done r k last
    by [] e = absurd (cc)
    by (x ∷ []) e = absurd (cc)
    by (x ∷ y ∷ []) e = absurd (cc)
    by (x ∷ y ∷ z ∷ []) e = absurd (cc)
    by (x ∷ y ∷ z ∷ v ∷ before) e = absurd (cc)
shown_first t (op.Cut q cookie n) told.Done held before r k last more e = by before e
  where
    by : (before : List Entry) → Acks q ∷ Zeroes q n ∷ Grows q (Cut n) ∷ [] ≡ before ++ Shows r k last ∷ more
        → Page (op.Cut q cookie n) told.Done r k last
    by [] e = absurd (cc)
    by (x ∷ []) e = absurd (cc)
    by (x ∷ y ∷ []) e = absurd (cc)
    by (x ∷ y ∷ z ∷ []) e = absurd (cc)
    by (x ∷ y ∷ z ∷ v ∷ before) e = absurd (cc)
shown_first t o a held [] r k last more e = absurd (cc)
shown_first t o a held (x ∷ before) r k last more e = absurd (cc)

-- ---- what a note says

-- the life read a page under that cookie that ended so
pub record ToldSo (osts : ℕ) (c : ℕ) (past : List Line) (r : Resource) (k : Cookie) (last : ℕ) : Type 0 where
  pub deed : Deed
  pub acted : Acted (only (place osts r) past) deed
  pub who : deed.reply.who ≡ life_at c past
  pub page : Page deed.op deed.reply.answer r k last

-- a lock for writing of that cookie was given
pub record ToWrite (osts : ℕ) (past : List Line) (r : Resource) (k : Cookie) : Type 0 where
  pub deed : Deed
  pub lock : Lock
  pub gave : Gave (only (place osts r) past) deed lock
  pub cookie : lock.cookie ≡ k
  pub mode : lock.ask.mode ≡ PW

abbrev pub Note : ℕ → ℕ → List Line → Type 0
Note osts c past = (r : Resource) (k : Cookie) (last : ℕ) → noted r k (shown_at c past) ≡ Some last → ToldSo osts c past r k last
    ⊎ ToWrite osts past r k

-- a call that changes bytes wants locks to write under
pw_wanted : (running : Running) (work : Work) (w : Use) → ChangesOn running work → In w (wanted_by work) → w.mode ≡ PW
pw_wanted running work w (inl does) i = kind work.kind does.kind i
  where
    kind : (k : _) → k ≡ Writes does.offset does.bytes → In w (wants_of work.layout work.fid k) → w.mode ≡ PW
    kind k e i =
        let j = subst (λ (x : Kind). In w (wants_of work.layout work.fid x)) e i in
        let f = run_wanted work.layout work.fid PW does.offset (does.offset + length does.bytes) (stripes work.layout) w
        (in_client w (wants_run work.layout work.fid PW does.offset (does.offset + length does.bytes) (stripes work.layout)) j) in
        sym (ap (λ (x : Use). x.mode) f.3)
pw_wanted running work w (inr does) i =
    let j = subst (λ (x : Kind). In w (wants_of work.layout work.fid x)) does.kind i in
    let f = cut_wanted work.layout work.fid does.size (stripes work.layout) w
    (in_client w (wants_cut work.layout work.fid does.size (stripes work.layout)) j) in
    sym (ap (λ (x : Use). x.mode) f.2)

module _ (head : Head) (c : ℕ) (l : Line) (past : List Line) (g : Grown head (l ∷ past)) (fit : PinsFit (l ∷ past))
    (heeds : AllHeed (l ∷ past)) where
  told_more : (r : Resource) (k : Cookie) (last : ℕ) → life_at c (l ∷ past) ≡ life_at c past → ToldSo head.osts c past r k last
      → ToldSo head.osts c (l ∷ past) r k last
  told_more r k last life s = record {
    deed = s.deed;
    acted = only_more (place head.osts r) l past s.deed s.acted;
    who = s.who ∙ sym life;
    page = s.page;
  }

  write_more : (r : Resource) (k : Cookie) → ToWrite head.osts past r k → ToWrite head.osts (l ∷ past) r k
  write_more r k s = record {
    deed = s.deed;
    lock = s.lock;
    gave = given_line (place head.osts r) l past s.deed s.lock s.gave;
    cookie =
        s.cookie;
    mode = s.mode;
  }

  more : (r : Resource) (k : Cookie) (last : ℕ) → life_at c (l ∷ past) ≡ life_at c past → ToldSo head.osts c past r k last
      ⊎ ToWrite head.osts past r k → ToldSo head.osts c (l ∷ past) r k last ⊎ ToWrite head.osts (l ∷ past) r k
  more r k last life (inl s) = inl (told_more r k last life s)
  more r k last life (inr s) = inr (write_more r k s)

  -- what comes to be shown: of a page that was just heard
  of_page : (r : Resource) (k : Cookie) (last : ℕ) (left : List Entry) → marks_of c past ≡ Shows r k last ∷ left
      → ToldSo head.osts c past r k last
  of_page r k last left e = by (marked c past heeds.1)
    where
      by : Marked c past → ToldSo head.osts c past r k last
      by (inl n) = absurd (let z : [] ≡ Shows r k last ∷ left = sym n ∙ e in cc)
      by (inr m) =
          let page = shown_first m.target m.flight.op m.reply.answer m.held m.before r k last left
          (m.is ∙ ap (λ (ms : List Entry). m.before ++ ms) e) in
          let d = ((holds head past g.1).at m.target).done.answered (life_at c past) m.flight m.reply m.heard in
          let of_op : d.0.op ≡ op.Get r k page.0 = sym d.5 ∙ page.3 in
          let of_answer : m.reply.answer ≡ d.0.reply.answer = ap (λ (x : ReplyTo). x.answer) d.2 in
          let there : m.target ≡ place head.osts r = acted_place head past m.target d.0 r g.1 fit.1 d.1 (ap object_of of_op) in
          record {
            deed = d.0;
            acted = subst (λ (v : ℕ). Acted (only v past) d.0) there d.1;
            who = sym (ap (λ (x : ReplyTo). x.who) d.2) ∙ d.3;
            page = (page.0, page.1, page.2, of_op, sym of_answer ∙ page.4, page.5);
          }

  -- or bytes that it wrote itself
  of_write : (r : Resource) (k : Cookie) (last : ℕ) → ShowsWritten past l.at c r k last → ToWrite head.osts past r k
  of_write r k last ok =
      let u = uses_held head past g.1 fit.1 c ok.slot ok.running ok.work.used ok.call ok.uses ok.under ok.among in
      let wanted : In ok.under.want (wanted_by ok.work) = subst (λ (ws : List Use). In ok.under.want ws) (sym ok.wants)
      (in_wants ok.under ok.work.used ok.among) in
      let mode : u.holding.lock.ask.mode ≡ PW = ap (λ (x : Lock). x.ask.mode) u.is
      ∙ writes_only ok.under.lock.ask.mode (ap (serves ok.under.lock.ask.mode)
      (sym (pw_wanted ok.running ok.work ok.under.want ok.does wanted)) ∙ u.serves) in
      let on : u.holding.lock.resource ≡ r = ap (λ (x : Lock). x.resource) u.is ∙ u.of_object ∙ ok.of_object in
      let there : u.holding.target.0 ≡ place head.osts r = held_place head past g.1 fit.1 c u.holding r u.held on
      (ranged u.holding u.held (subst (λ (n : ℕ). 0 < n) (sym u.of_target) u.high)) in
      let gave = held_gave head past g.1 c u.holding (place head.osts r) there u.held in
      record { deed = gave.0; lock = u.holding.lock; gave = gave.1; cookie = ap (λ (x : Lock). x.cookie) u.is ∙ ok.of_cookie; mode = mode }
    where
      ranged : (h : HeldLock) → In h (held_at c past) → 0 < h.target.0 → HasRange h.lock.ask.policy
      ranged h i high = kind_ranges h.target.0 h.lock high (held_kind head h.target.0 past g.1 c h (held_in c past h i))

  -- with the newest line
  note_line : Note head.osts c past → Note head.osts c (l ∷ past)
  note_line old r k last e = by l.entry refl (is_client c l.at.node) refl (of_node l.entry) e
    where
      Goal : Type 0
      Goal = ToldSo head.osts c (l ∷ past) r k last ⊎ ToWrite head.osts (l ∷ past) r k

      life_same : (x : Entry) → l.entry ≡ x → life_at c (line l.at x ∷ past) ≡ life_at c past → life_at c (l ∷ past) ≡ life_at c past
      life_same x q life = ap (λ (y : Entry). life_at c (line l.at y ∷ past)) q ∙ life

      of_node : (x : Entry) → is_client c l.at.node ≡ true → l.entry ≡ x → EntryOk past l.at (Client c) x
      of_node x own q = subst (λ (y : Entry). EntryOk past l.at (Client c) y) q (client l.at.node own g.0.ok)
        where
          client : (n : Node) → is_client c n ≡ true → EntryOk past l.at n l.entry → EntryOk past l.at (Client c) l.entry
          client (Client d) q k = subst (λ (v : ℕ). EntryOk past l.at (Client v) l.entry) (sym (eqb-true c d q)) k
          client (Target t) q k = absurd (cc)

      -- it was noted before
      kept : (n : ℕ) → n ≡ last → life_at c (l ∷ past) ≡ life_at c past → noted r k (shown_at c past) ≡ Some n → Goal
      kept n same life q = more r k last life (old r k last (q ∙ ap Some same))

      -- it comes with the line
      comes : (n : ℕ) → n ≡ last → life_at c (l ∷ past) ≡ life_at c past → ShowsOk past l.at c r k n → Goal
      comes n same life (inl w) = more r k last life (inr (of_write r k n w))
      comes n same life (inr m) = more r k last life (inl (of_page r k last m.0 (m.1 ∙ ap (λ (v : ℕ). Shows r k v ∷ m.0) same)))

      which : (n : ℕ) → life_at c (l ∷ past) ≡ life_at c past → ShowsOk past l.at c r k n → (b : Option ℕ) → noted r k (shown_at c past) ≡ b
          → Some (shown_to b n) ≡ Some last → Goal
      which n life ok None q e = comes n (let v : n ≡ last = cc in v) life ok
      which n life ok (Some b) q e = at (nat_lt b n) refl
        where
          most : max b n ≡ last
          most = cc

          at : (v : Bool) → nat_lt b n ≡ v → Goal
          at true t = comes n (let m = most in grind (arith, nat_tests, m, t)) life ok
          at false t = kept b (let m = most in grind (arith, nat_tests, m, t)) life q

      shows : (q : Resource) (j : Cookie) (n : ℕ) → life_at c (l ∷ past) ≡ life_at c past → ShowsOk past l.at c q j n
          → noted r k (with_note q j (shown_to (noted q j (shown_at c past)) n) (shown_at c past)) ≡ Some last → Goal
      shows q j n life ok e = at (same_lock q r j k) refl (sym (noted_with q r j k (shown_to (noted q j (shown_at c past)) n)
          (shown_at c past)) ∙ e)
        where
          cookies : (a b : Cookie) → a.0 ≡ b.0 → a ≡ b
          cookies a b e = ap (λ (v : ℕ). record { 0 = v }) e

          at : (v : Bool) → same_lock q r j k ≡ v → (if v then Some (shown_to (noted q j (shown_at c past)) n)
              else noted r k (shown_at c past)) ≡ Some last → Goal
          at false t e = kept last refl life e
          at true t e =
              let parts = and_parts (same_resource q r) (nat_eq j.0 k.0) t in
              let object : q ≡ r = object_is q r parts.0 in
              let cookie : j ≡ k = cookies j k (eqb-true j.0 k.0 parts.1) in
              let its : ShowsOk past l.at c r k n = subst (λ (x : Cookie). ShowsOk past l.at c r x n) cookie
              (subst (λ (x : Resource). ShowsOk past l.at c x j n) object ok) in
              let note : noted q j (shown_at c past) ≡ noted r k (shown_at c past) =
              ap (λ (x : Resource). noted x j (shown_at c past)) object ∙ ap (λ (x : Cookie). noted r x (shown_at c past)) cookie in
              which n life its (noted r k (shown_at c past)) refl (sym (ap (λ (x : Option ℕ). Some (shown_to x n)) note) ∙ e)

      drops : (m : Lock) (p : Policy) → life_at c (l ∷ past) ≡ life_at c past → noted r k (forgotten_notes p m (shown_at c past))
          ≡ Some last → Goal
      drops m (Bits b) life e = kept last refl life e
      drops m (Range x) life e = at (same_lock m.resource r m.cookie k) (sym (noted_without m.resource r m.cookie k (shown_at c past)) ∙ e)
        where
          at : (v : Bool) → (if v then None else noted r k (shown_at c past)) ≡ Some last → Goal
          at true e = absurd (cc)
          at false e = kept last refl life e

      by : (x : Entry) → l.entry ≡ x → (own : Bool) → is_client c l.at.node ≡ own
          → (is_client c l.at.node ≡ true → l.entry ≡ l.entry → EntryOk past l.at (Client c) l.entry)
          → noted r k (on (reads_shown l.entry) (is_client c l.at.node) (shown_after (shown_at c past) l.entry) (shown_at c past))
          ≡ Some last → Goal
      by x q own o ok e = of x q own o (subst (λ (v : Bool). noted r k
          (on (reads_shown x) v (shown_after (shown_at c past) x) (shown_at c past)) ≡ Some last) o
          (subst (λ (y : Entry). noted r k (on (reads_shown y) (is_client c l.at.node) (shown_after (shown_at c past) y) (shown_at c past))
          ≡ Some last) q e))
        where
          other_life : is_client c l.at.node ≡ false → life_at c (l ∷ past) ≡ life_at c past
          other_life o = ap (λ (v : Bool). on (reads_life l.entry) v (life_after (life_at c past) l.entry) (life_at c past)) o
              ∙ on_other (reads_life l.entry) (life_after (life_at c past) l.entry) (life_at c past)

          of : (x : Entry) → l.entry ≡ x → (own : Bool) → is_client c l.at.node ≡ own
              → noted r k (on (reads_shown x) own (shown_after (shown_at c past) x) (shown_at c past)) ≡ Some last → Goal
          of x q false o e = kept last refl (other_life o) (still (reads_shown x) e)
            where
              still : (b : Bool) → noted r k (on b false (shown_after (shown_at c past) x) (shown_at c past)) ≡ Some last
                  → noted r k (shown_at c past) ≡ Some last
              still true e = e
              still false e = e
          of (Shows s j n) q true o e = shows s j n (life_same (Shows s j n) q refl) (of_node (Shows s j n) o q) e
          of (Drop u m) q true o e = drops m m.ask.policy (life_same (Drop u m) q refl) e
          of (Life who) q true o e = absurd (cc)
          of x q true o e = kept last refl (life_same x q refl) e

notes : (head : Head) (c : ℕ) (past : List Line) → Grown head past → PinsFit past → AllHeed past → Note head.osts c past
notes head c [] g fit heeds = λ r k last e. absurd (cc)
notes head c (l ∷ past) g fit heeds = note_line head c l past g fit heeds (notes head c past g.1 fit.1 heeds.1)

-- under a lock for reading that is held it was read
pub byte_told : (head : Head) (past : List Line) → Grown head past → PinsFit past → AllHeed past → (c : ℕ) (h : HeldLock)
    → In h (held_at c past)
    → h.lock.ask.mode ≡ PR → (x : Extent) → h.lock.ask.policy ≡ Range x → (last : ℕ) → noted h.lock.resource h.lock.cookie (shown_at c past)
    ≡ Some last → TellsByte (only h.target.0 past) h.lock last
byte_told head past g fit heeds c h i mode x range last e = by (notes head c past g fit heeds h.lock.resource h.lock.cookie last e)
  where
    there : h.target.0 ≡ place head.osts h.lock.resource
    there = held_place head past g fit c h h.lock.resource i refl (subst HasRange (sym range) tt)

    holding : Holding head.osts (only h.target.0 past) c h
    holding = ((holds head past g).at h.target.0).locks.held c h (held_in c past h i)

    whose : h.lock.ask.who ≡ life_at c past
    whose = ((holds head past g).at h.target.0).locks.whose holding.deed h.lock holding.gave ∙ holding.who
        ∙ sym (life_is_of c h.target.0 past)

    by : ToldSo head.osts c past h.lock.resource h.lock.cookie last ⊎ ToWrite head.osts past h.lock.resource h.lock.cookie
        → TellsByte (only h.target.0 past) h.lock last
    by (inl s) = (s.deed, subst (λ (v : ℕ). Acted (only v past) s.deed) (sym there) s.acted, s.who ∙ sym whose, s.page)
    by (inr w) =
        let gave = subst (λ (v : ℕ). Gave (only v past) w.deed w.lock) (sym there) w.gave in
        let same = (((holds head past g).at h.target.0).locks.once w.deed holding.deed w.lock h.lock gave holding.gave w.cookie).1 in
        let z : PW ≡ PR = sym w.mode ∙ ap (λ (l : Lock). l.ask.mode) same ∙ mode in
        absurd (cc)
