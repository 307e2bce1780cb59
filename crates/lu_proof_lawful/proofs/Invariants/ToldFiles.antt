-- A stat of a file that goes on with the reply that it just heard knows that file then: what the reply taught can be used since, under its
-- locks, and all that can be used is true of one tree.
use Rattle.std.proofs.Common.{◌≡◌, ℕ, Bool, true, false, List, [], ◌∷◌, ◌++◌, ◌⊎◌, inl, inr, Option, Some, refl, sym, subst, ap, ◌∙◌}
use Rattle.std.specs.Prelude.{nat_eq, if◌then◌else◌}
use Rattle.lu_base.specs.declared.ids.At.{At}
use Rattle.lu_base.specs.declared.ids.Fid.{Fid}
use Rattle.lu_base.specs.declared.ids.Node.{Node}
use Rattle.lu_base.specs.declared.ids.Node.TheVariants.{Client, Target}
use Rattle.lu_base.specs.declared.ids.Who.{Who}
use Rattle.lu_base.specs.declared.locks.Lock.{Lock}
use Rattle.lu_layout.specs.Raid0.{Raid0}
use Rattle.lu_part.specs.declared.parts.Part.{Part}
use Rattle.lu_part.specs.declared.parts.Part.TheVariants as part
use Rattle.lu_msg.specs.declared.answers.Answer.{Answer}
use Rattle.lu_msg.specs.declared.answers.Answer.TheVariants as told
use Rattle.lu_msg.specs.declared.calls.Call.TheVariants as call
use Rattle.lu_msg.specs.declared.messages.Message.{Message}
use Rattle.lu_msg.specs.declared.messages.Message.TheVariants as message
use Rattle.lu_msg.specs.declared.messages.Reply.{Reply as ReplyTo}
use Rattle.lu_msg.specs.declared.operations.Op.{Op}
use Rattle.lu_msg.specs.declared.operations.Op.TheVariants as op
use Rattle.lu_held.specs.declared.names.LockName.{LockName}
use Rattle.lu_spec_machine.specs.declared.child.Child.{Child}
use Rattle.lu_spec_machine.specs.Tree.{Tree}
use Rattle.lu_spec_machine.specs.Table.{found}
use Rattle.lu_spec_machine.specs.Laws.{IsReading}
use Rattle.lu_spec_entries.specs.Carried.{Deed, Flight, Plain, Running}
use Rattle.lu_spec_entries.specs.Words.{Entry, Take, Heard, Hold, Drop, Life, Marks, Told, Learns, Line, line}
use Rattle.lu_spec_entries.specs.Concerns.{only}
use Rattle.lu_spec_client.specs.Caches.{granted_lock, brought, with_brought, held_at}
use Rattle.lu_spec_client.specs.Facts as facts
use Rattle.lu_spec_client.specs.Facts.{Fact, taught, facts_at}
use Rattle.lu_spec_client.specs.Known.{Notes, same_part, found_at_path}
use Rattle.lu_proof_lawful.specs.Covered.Calls.{call_at, life_at, becomes, operation_of}
use Rattle.lu_proof_lawful.specs.Covered.Known.{notes_at}
use Rattle.lu_proof_lawful.specs.Covered.Heads.{Head}
use Rattle.lu_proof_lawful.proofs.Preconditions.Guards.{In, HeardNow, Learned, TookNow, HoldsOk, GivenOk, ToldFile, EntryOk}
use Rattle.lu_proof_lawful.proofs.Preconditions.StoryGuards.{HeldOk, GivenOf}
use Rattle.lu_proof_lawful.proofs.Preconditions.Grown.{Allowed, Grown}
use Rattle.lu_proof_lawful.proofs.Preconditions.Lists.{self, in_left}
use Rattle.lu_proof_lawful.proofs.Preconditions.Only.{grown_of}
use Rattle.lu_proof_lawful.proofs.Preconditions.ClientLines.{some_is}
use Rattle.lu_proof_lawful.proofs.Invariants.Groups.{turn, IsWorking, AnswersFor, HoldsAt}
use Rattle.lu_proof_lawful.proofs.Invariants.TargetGroups.{Flew, Acted}
use Rattle.lu_proof_lawful.proofs.Invariants.All.{holds_at, holds}
use Rattle.lu_proof_lawful.proofs.Invariants.FirstDeeds.{given_high}
use Rattle.lu_proof_lawful.proofs.Invariants.KnownPaths.{Tells, TellsName, TellsOf, part_is, Usable}
use Rattle.lu_proof_lawful.proofs.Invariants.Taught.{bound_of, tree_for}
use Rattle.lu_proof_lawful.proofs.Invariants.Known.{client_is, HeardBy, heard_answered, heard_by_story, now_heard, fact_stands}
use Rattle.lu_proof_lawful.proofs.Invariants.TaughtKnown.{Agrees, AllUsable, Comes, led, of_names, of_last, inode_fact, taught_under}
use Rattle.lu_proof_lawful.proofs.Invariants.Comes.{acted_comes}
use Rattle.lu_proof_lawful.proofs.Invariants.HeldThere.{There, IsClear, KeepsAll, keeps_facts, brought_new, clear_stays, clear_usable}
use Rattle.lu_proof_lawful.proofs.Invariants.HeldThere.{facts_stay}

-- a file that is known by facts that can be used
pub record FileKnown (n : Notes) (path : List (List ℕ)) (fid : Fid) (layout : Raid0) : Type 0 where
  pub inode : Fid
  pub leads : (found_at_path n path).inode ≡ Some (told.File inode)
  pub attr : Fact
  pub attr_usable : Usable n attr
  pub attr_on : same_part (part.Attr inode) attr.part ≡ true
  pub mode : ℕ
  pub links : ℕ
  pub old : Raid0
  pub stats : attr.answer ≡ told.FileStat fid mode links old
  pub lay : Fact
  pub lay_usable : Usable n lay
  pub lay_on : same_part (part.Layout inode) lay.part ≡ true
  pub lays : lay.answer ≡ told.Layout layout

-- so it is where a reply told it so: this is what was told
pub record FileTold (n : Notes) (path : List (List ℕ)) (fid : Fid) (mode links : ℕ) (layout : Raid0) : Type 0 where
  pub leads : (found_at_path n path).inode ≡ Some (told.File fid)
  pub attr : Fact
  pub attr_usable : Usable n attr
  pub attr_part : attr.part ≡ part.Attr fid
  pub stats : attr.answer ≡ told.FileStat fid mode links layout
  pub lay : Fact
  pub lay_usable : Usable n lay
  pub lay_part : lay.part ≡ part.Layout fid
  pub lays : lay.answer ≡ told.Layout layout

-- ---- what can be used is true of the tree as the life knows it

pub on_name : (t : Tree) (bound : ℕ) (d : Fid) (m : List ℕ) (f : Fact) → Tells t bound f → same_part (part.Name d m) f.part ≡ true
    → TellsName t d m f.answer
on_name t bound d m f tells same = subst (λ (p : Part). TellsOf t bound p f.answer) (sym (part_is (part.Name d m) f.part same)) tells.is

one_child : (a b : Child) → Some a ≡ Some b → a ≡ b
one_child a b e = cc

pub agrees : (head : Head) (c : ℕ) (past : List Line) → Grown head past → Agrees (notes_at c past)
agrees head c past g d m f k u v p q =
    let t = tree_for head.osts (life_at c past) (only 0 past) in
    let bound = bound_of head.osts (only 0 past) in
    let a = on_name t bound d m f (fact_stands head past c f g u).tells p in
    let b = on_name t bound d m k (fact_stands head past c k g v).tells q in
    a.is ∙ ap found (one_child a.to b.to (sym a.leads ∙ b.leads)) ∙ sym b.is

-- ---- what a reply taught

-- the newest line took no message where a reply was just heard
not_both : (past : List Line) (at now : At) (from : Node) (m : Message) (t : ℕ) (f : Flight) (r : ReplyTo) → TookNow past at from m
    → HeardNow past now t f r → ⊥
not_both [] at now from m t f r took h = took
not_both (l ∷ past) at now from m t f r took h = by l.entry took h
  where
    by : (e : Entry) → TookNow (line l.at e ∷ past) at from m → HeardNow (line l.at e ∷ past) now t f r → ⊥
    by (Take n from m) took h = h
    by e took h = took

-- a lock that is held came with a reply, or is of an object
hold_keeps : (head : Head) (past : List Line) (at : At) (c t : ℕ) (lock : Lock) (marked : Bool) (size : Option ℕ) (seen : List ℕ)
    → Grown head past → ((marked ≡ false) × HeldOk (only t past) c t lock seen) ⊎ GivenOf (only t past) c t lock seen
    → KeepsAll (Hold t lock marked size seen)
hold_keeps head past at c t lock marked size seen g (inl k) = inl k.0
hold_keeps head past at c t lock marked size seen g (inr k) = inr (given_high head past c t lock seen g k)

module _ (head : Head) (c : ℕ) (at : At) (own : at.node ≡ Client c) (f : Flight) (r : ReplyTo) where
  -- its locks are held and not called back
  abbrev AllClear : List Line → Type 0
  AllClear past = (l : Lock) → In l r.locks → There IsClear 0 l.cookie.0 (held_at c past)

  heard_clear : (past : List Line) → Grown head past → HeardNow past at 0 f r → AllClear past
  heard_clear [] g h = absurd h
  heard_clear (l ∷ past) g h = by l.at.node l.entry g.0.ok h (heard_clear past g.1)
    where
      -- it came with the reply
      came : (u : ℕ) (x : Lock) (marked : Bool) (size : Option ℕ) (seen : List ℕ) (d : ℕ)
          → HoldsOk past (turn l.at.stamp (Client d)) u x marked size seen
          ⊎ GivenOk past (turn l.at.stamp (Client d)) d u x marked size seen → HeardNow past at 0 f r → marked ≡ false
      came u x marked size seen d (inl k) h = k.unmarked
      came u x marked size seen d (inr k) h = absurd (not_both past (turn l.at.stamp (Client d)) at (Target u) (message.Grant k.notice) 0 f
          r k.took h)

      by : (node : Node) (e : Entry) → EntryOk past (turn l.at.stamp node) node e → HeardNow (line (turn l.at.stamp node) e ∷ past) at 0 f r
          → (HeardNow past at 0 f r → AllClear past)
          → AllClear (line (turn l.at.stamp node) e ∷ past)
      by (Client d) (Heard u x k) ok h ih = λ y i.
          let same : c ≡ d = client_is c d (sym own ∙ ap (λ (v : At). v.node) (sym h.0)) in
          subst (λ (b : Bool). There IsClear 0 y.cookie.0 (if b then with_brought u (brought x.op k) (held_at c past) else held_at c past))
          (sym (ap (λ (v : ℕ). nat_eq c v) (sym same) ∙ self c))
          (brought_new IsClear (λ t z. refl) 0 u y (brought x.op k) (held_at c past) h.1
          (in_left y k.locks (granted_lock x.op k k.answer) (subst (λ (v : ReplyTo). In y v.locks) (sym h.3) i)))
      by (Client d) (Hold u x marked size seen) ok h ih = λ y i. clear_stays c past l.at.stamp y.cookie.0 (Client d)
          (Hold u x marked size seen) ok (inl (came u x marked size seen d ok h)) (ih h y i)
      by (Target u) (Heard v x k) ok h ih = absurd ok
      by (Target u) (Hold v x marked size seen) ok h ih = absurd ok
      by _ _ ok h ih = absurd h

  -- what it taught is known under them
  abbrev Knows : List Line → Type 0
  Knows past = (x : Fact) → In x (taught f.op r.answer r.locks) → In x (facts_at c past) × There IsClear 0 x.cookie.0 (held_at c past)

  learned_knows : (past : List Line) → Grown head past → Learned past at 0 f r → Knows past
  learned_knows [] g h = absurd h
  learned_knows (l ∷ past) g h = by l.at.node l.entry g.0 h (learned_knows past g.1)
    where
      still : (node : Node) (e : Entry) → EntryOk past (turn l.at.stamp node) node e → KeepsAll e → Knows past
          → Knows (line (turn l.at.stamp node) e ∷ past)
      still node e ok keeps k x i = let y = k x i in (
        facts_stay c past l.at.stamp x node e ok (keeps_facts e keeps) y.0,
        clear_stays c past l.at.stamp x.cookie.0 node e ok keeps y.1,
      )

      by : (node : Node) (e : Entry) → Allowed head past (turn l.at.stamp node) e → Learned (line (turn l.at.stamp node) e ∷ past) at 0 f r
          → (Learned past at 0 f r → Knows past) → Knows (line (turn l.at.stamp node) e ∷ past)
      by node (Heard u x k) ok h ih = λ y i. absurd (taught_under f.op r.answer [] y
          (subst (λ (v : List Lock). In y (taught f.op r.answer v)) h.4 i)).1.0
      by (Client d) (Learns u o a locks) ok h ih = λ y i.
          let same : c ≡ d = client_is c d (sym own ∙ ap (λ (v : At). v.node) (sym h.0)) in
          let is : taught f.op r.answer r.locks ≡ taught o a locks = ap (λ (v : Op). taught v r.answer r.locks) (sym h.1)
          ∙ ap (λ (v : Answer). taught o v r.locks) (sym h.2) ∙ ap (λ (v : List Lock). taught o a v) (sym h.3) in
          let under = taught_under f.op r.answer r.locks y i in (
            subst (λ (b : Bool). In y (if b then taught o a locks ++ facts_at c past else facts_at c past))
                (sym (ap (λ (v : ℕ). nat_eq c v) (sym same) ∙ self c))
                (in_left y (taught o a locks) (facts_at c past) (subst (λ (v : List Fact). In y v) is i)),
            subst (λ (k : ℕ). There IsClear 0 k (held_at c past)) (sym under.1.1) (heard_clear past g.1 h.4 under.0 under.1.0),
          )
      by (Target u) (Learns v o a locks) ok h ih = absurd ok.ok
      by node (Told slot named given work) ok h ih = absurd h
      by node (Marks name) ok h ih = absurd h
      by node (Drop u lock) ok h ih = absurd h
      by node (Life who) ok h ih = absurd h
      by (Client d) (Hold u lock marked size seen) ok h ih = still (Client d) (Hold u lock marked size seen) ok.ok
          (hold_keeps head past (turn l.at.stamp (Client d)) d u lock marked size seen g.1 (ok.of u (self u))) (ih h)
      by (Target v) (Hold u lock marked size seen) ok h ih = absurd ok.ok
      by node e ok h ih = still node e ok.ok tt (ih h)

  learned_usable : (past : List Line) → Grown head past → Learned past at 0 f r → AllUsable (notes_at c past) (taught f.op r.answer r.locks)
  learned_usable past g h x i = let k = learned_knows past g h x i in (k.0, clear_usable x.cookie (held_at c past) k.1)

  -- it was heard
  learned_heard : (past : List Line) → Learned past at 0 f r → HeardBy (only 0 past) c f r
  learned_heard [] h = absurd h
  learned_heard (l ∷ past) h = by l.entry h (learned_heard past)
    where
      by : (e : Entry) → Learned (line l.at e ∷ past) at 0 f r → (Learned past at 0 f r → HeardBy (only 0 past) c f r)
          → HeardBy (only 0 (line l.at e ∷ past)) c f r
      by (Heard u x k) h ih = now_heard (line l.at (Heard u x k) ∷ past) at 0 c f r (h.0, h.1, h.2, h.3) own
      by (Learns u o a locks) h ih = heard_by_story 0 (line l.at (Learns u o a locks)) past c f r (now_heard past at 0 c f r h.4 own)
      by (Told slot named given work) h ih = absurd h
      by (Marks name) h ih = absurd h
      by (Drop u lock) h ih = absurd h
      by (Life who) h ih = absurd h
      by e h ih = heard_by_story 0 (line l.at e) past c f r (ih h)

-- ---- the reply to a stat

-- a call on names was answered by the metadata target
pub plain_first : (r : Running) (t : ℕ) (o : Op) → AnswersFor r t o → r.stage ≡ Plain → (t ≡ 0) × (becomes r ≡ Some o)
plain_first r t o (inl p) plain = (p.1, p.2)
plain_first r t o (inr p) plain = absurd (subst IsWorking plain p.0)

-- what was done for one request is of one operation
one_op : (head : Head) (past : List Line) (d e : Deed) → HoldsAt head past → Acted past d → Acted past e → d.reply.who ≡ e.reply.who
    → d.reply.xid.0 ≡ e.reply.xid.0 → d.op ≡ e.op
one_op head past d e h a b who xid =
    let x = h.done.flew d a in
    let y = h.done.flew e b in
    let xx = x.2 in
    let yy = y.2 in
    let same : x.0 ≡ y.0 = h.numbers.one e.reply.who x.0 y.0 (subst (λ (v : Who). Flew past v x.0) who x.1) y.1 (xx ∙ xid ∙ sym yy) in
    sym x.3 ∙ ap (λ (v : Flight). v.op) same ∙ y.3

module _ (head : Head) (past : List Line) (at : At) (c slot : ℕ) (r : Running) (pins : List LockName) (path : List (List ℕ)) (fid : Fid)
    (mode links : ℕ) (layout : Raid0) (g : Grown head past) (own : at.node ≡ Client c)
    (standing : call_at c slot past ≡ Some r) (stats : r.call ≡ call.Stat path)
    (h : ToldFile past at c r pins path fid mode links layout) where
  pub told_so : FileTold (notes_at c past) path fid mode links layout
  told_so =
      let k = (holds head past g).replies c slot h.target r h.reply standing h.answered in
      let d = k.deed in
      let first = plain_first r h.target d.op k.op h.plain in
      let of_op : d.op ≡ op.Stat path = some_is d.op (op.Stat path) (sym first.1 ∙ ap (operation_of r.file) stats) in
      let story = grown_of head 0 past g in
      let acted : Acted (only 0 past) d = subst (λ (t : ℕ). Acted (only t past) d) first.0 k.acted in
      let learned : Learned past at 0 h.flight h.reply = subst (λ (t : ℕ). Learned past at t h.flight h.reply) first.0 h.learned in
      let heard = heard_answered head (only 0 past) c h.flight h.reply story (learned_heard head c at own h.flight h.reply past learned) in
      let same_op : d.op ≡ h.flight.op = one_op head (only 0 past) d heard.0 (holds_at head (only 0 past) story) acted heard.1.acted
      (ap (λ (v : ReplyTo). v.who) k.is ∙ sym heard.1.who) (ap (λ (v : ReplyTo). v.xid.0) k.is
      ∙ sym (ap (λ (v : ReplyTo). v.xid.0) heard.1.is)) ∙ heard.1.op in
      let of_answer : d.reply.answer ≡ told.FileStat fid mode links layout = ap (λ (v : ReplyTo). v.answer) k.is ∙ h.tells in
      let of_locks : d.reply.locks ≡ h.reply.locks = ap (λ (v : ReplyTo). v.locks) k.is in
      by path
      (subst (λ (v : Op). Comes v (told.FileStat fid mode links layout) h.reply.locks) of_op
      (subst (λ (v : Answer). Comes d.op v h.reply.locks) of_answer
      (subst (λ (v : List Lock). Comes d.op d.reply.answer v) of_locks
      (acted_comes head (only 0 past) d story acted (subst IsReading (sym of_op) tt) (λ e q. let x = sym of_answer ∙ q in cc)))))
      (subst (λ (v : Op). AllUsable (notes_at c past) (taught v (told.FileStat fid mode links layout) h.reply.locks)) (sym same_op ∙ of_op)
      (subst (λ (v : Answer). AllUsable (notes_at c past) (taught h.flight.op v h.reply.locks)) h.tells
      (learned_usable head c at own h.flight h.reply past g learned)))
    where
      by : (path : List (List ℕ)) → Comes (op.Stat path) (told.FileStat fid mode links layout) h.reply.locks
          → AllUsable (notes_at c past) (taught (op.Stat path) (told.FileStat fid mode links layout) h.reply.locks)
          → FileTold (notes_at c past) path fid mode links layout
      by [] comes u = absurd comes
      by (m ∷ names) comes u =
          let locks = h.reply.locks in
          let ag = agrees head c past g in
          let make = facts.stat_facts fid (told.FileStat fid mode links layout) layout in
          let by_names = facts.names_taught told.File (m ∷ names) locks in
          let rest = facts.inode_taught make (facts.last_of locks) in
          let own_facts = inode_fact (notes_at c past) ag make locks comes.0 comes.1.0 (of_last (notes_at c past) ag by_names rest u) in
          record {
            leads = led (notes_at c past) ag told.File m names locks fid comes (of_names (notes_at c past) ag by_names rest u);
            attr = facts.fact (part.Attr fid) comes.0 (told.FileStat fid mode links layout);
            attr_usable = own_facts (facts.fact (part.Attr fid) comes.0 (told.FileStat fid mode links layout)) (inl refl);
            attr_part = refl;
            stats = refl;
            lay = facts.fact (part.Layout fid) comes.0 (told.Layout layout);
            lay_usable = own_facts (facts.fact (part.Layout fid) comes.0 (told.Layout layout)) (inr (inl refl));
            lay_part = refl;
            lays = refl;
          }

  pub told_file : FileKnown (notes_at c past) path fid layout
  told_file =
      let k = told_so in
      record {
        inode = fid;
        leads = k.leads;
        attr = k.attr;
        attr_usable = k.attr_usable;
        attr_on = subst (λ (p : Part). same_part (part.Attr fid) p ≡ true) (sym k.attr_part) (self fid.0);
        mode = mode;
        links = links;
        old = layout;
        stats = k.stats;
        lay = k.lay;
        lay_usable = k.lay_usable;
        lay_on = subst (λ (p : Part). same_part (part.Layout fid) p ≡ true) (sym k.lay_part) (self fid.0);
        lays = k.lays;
      }
