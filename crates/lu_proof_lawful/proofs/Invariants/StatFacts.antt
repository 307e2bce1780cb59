-- A stat of a file that goes on for its size knows that file under the locks that it has pinned, whatever is called back: so what it
-- tells beside the size is what the table answers as it is told.
use Rattle.std.proofs.Common.{◌≡◌, ℕ, zero, suc, ◌≤◌, Bool, true, false, List, [], ◌∷◌, ◌++◌, ◌⊎◌, inl, inr, ⊎_elim, Option, Some, None}
use Rattle.std.proofs.Common.{refl, sym, subst, ap, ◌∙◌}
use Rattle.std.specs.Prelude.{nat_eq, nat_lt, not, ◌==◌, if◌then◌else◌}
use Rattle.std.proofs.lemmas.Bool.{cond_both, and_parts, eqb-true}
use Rattle.lu_base.specs.declared.ids.At.{At}
use Rattle.lu_base.specs.declared.ids.Cookie.{Cookie}
use Rattle.lu_base.specs.declared.ids.Fid.{Fid}
use Rattle.lu_base.specs.declared.ids.Node.{Node}
use Rattle.lu_base.specs.declared.ids.Node.TheVariants.{Client, Target}
use Rattle.lu_base.specs.declared.ids.Stamp.{Stamp}
use Rattle.lu_base.specs.declared.ids.Txn.{Txn as TxnOf}
use Rattle.lu_base.specs.declared.ids.Who.{Who}
use Rattle.lu_base.specs.declared.locks.Lock.{Lock}
use Rattle.lu_layout.specs.Raid0.{Raid0}
use Rattle.lu_part.specs.declared.parts.Part.{Part}
use Rattle.lu_part.specs.declared.parts.Part.TheVariants as part
use Rattle.lu_msg.specs.declared.answers.Answer.{Answer}
use Rattle.lu_msg.specs.declared.answers.Answer.TheVariants as told
use Rattle.lu_msg.specs.declared.calls.Call.TheVariants as call
use Rattle.lu_msg.specs.declared.messages.Message.TheVariants as message
use Rattle.lu_msg.specs.declared.operations.Op.TheVariants as op
use Rattle.lu_held.specs.declared.locks.HeldLock.{HeldLock}
use Rattle.lu_held.specs.declared.names.LockName.{LockName}
use Rattle.lu_spec_machine.specs.declared.child.Child.TheVariants.{Dir, File}
use Rattle.lu_spec_machine.specs.Tree.{Tree, attributes}
use Rattle.lu_spec_machine.specs.Footprint.{answer, touches, Apart}
use Rattle.lu_spec_entries.specs.Carried.{Deed, Glimpses, Stats, Work, Stage, Enqueued, Forgotten, Gets, Sizes, Running}
use Rattle.lu_spec_entries.specs.Words.{Entry, Drop, Life, Line, line}
use Rattle.lu_spec_entries.specs.Concerns.{only}
use Rattle.lu_spec_target.specs.Lives.{is_life}
use Rattle.lu_spec_client.specs.Recovery.{is_left_at}
use Rattle.lu_spec_client.specs.Caches.{held_at}
use Rattle.lu_spec_client.specs.Facts as facts
use Rattle.lu_spec_client.specs.Facts.{Fact, without_facts, facts_at}
use Rattle.lu_spec_client.specs.Known.{Notes, same_part, found_at_path, fact_on, file_known, cookie_of, cookies_of_file, name_of, with_name}
use Rattle.lu_spec_client.specs.Known.{names_of}
use Rattle.lu_proof_lawful.specs.Covered.Calls.{call_at, life_at}
use Rattle.lu_proof_lawful.specs.Covered.Known.{notes_at, known_file}
use Rattle.lu_proof_lawful.specs.Covered.TargetStates.{server_of, evicted_of, tree_at, committed_at}
use Rattle.lu_proof_lawful.specs.Covered.Heads.{Head}
use Rattle.lu_proof_lawful.proofs.Preconditions.Guards.{In, Took, Begins, IsChange, ReadsOn, ChangesOn, work_in, LeftSize, SizesStand}
use Rattle.lu_proof_lawful.proofs.Preconditions.Guards.{LockStand, KnowsFile, ToldFile, GoesOn, StatOf, StatStand, GetStand, FlushStand}
use Rattle.lu_proof_lawful.proofs.Preconditions.Guards.{Replied, LockGranted, LockBrought, MovedStand, StandsOk, EntryOk}
use Rattle.lu_proof_lawful.proofs.Preconditions.Grown.{Grown, GrownOf}
use Rattle.lu_proof_lawful.proofs.Preconditions.Lists.{self, in_left, in_right, in_filtered}
use Rattle.lu_proof_lawful.proofs.Preconditions.Only.{grown_of}
use Rattle.lu_proof_lawful.proofs.Preconditions.Parts.{tree_is}
use Rattle.lu_proof_lawful.proofs.Preconditions.Calls.{Came as CallCame, call_cases}
use Rattle.lu_proof_lawful.proofs.Preconditions.PinsFit.{PinsFit, pins_held, drop_unpinned}
use Rattle.lu_proof_lawful.proofs.Invariants.Groups.{turn}
use Rattle.lu_proof_lawful.proofs.Invariants.TargetGroups.{Acted, IsMade, Stands, Evicted}
use Rattle.lu_proof_lawful.proofs.Invariants.All.{holds_at}
use Rattle.lu_proof_lawful.proofs.Invariants.KnownPaths.{TellsAttr, TellsOf, OneKind, placed_reached, Usable, KnownPart, FileBy, file_more}
use Rattle.lu_proof_lawful.proofs.Invariants.KnownPaths.{led_more, fact_is, file_right, UsedBy, led_used, file_used}
use Rattle.lu_proof_lawful.proofs.Invariants.PartsStay.{sound_now}
use Rattle.lu_proof_lawful.proofs.Invariants.Taught.{bound_of, tree_for}
use Rattle.lu_proof_lawful.proofs.Invariants.Known.{SawBy, Standing, usable_held, held_stands, fact_stands, stands_tells, stands_saw}
use Rattle.lu_proof_lawful.proofs.Invariants.TaughtKnown.{fact_there}
use Rattle.lu_proof_lawful.proofs.Invariants.HeldThere.{KeepsFacts, facts_stay}
use Rattle.lu_proof_lawful.proofs.Invariants.ToldFiles.{told_so}

-- ---- names of locks

all_first : (cookies : List Cookie) (n : LockName) → In n (names_of cookies) → n.target.0 ≡ 0
all_first [] n i = absurd i
all_first (c ∷ cookies) n i = by (names_of cookies) (all_first cookies) i
  where
    by : (names : List LockName) → ((m : LockName) → In m names → m.target.0 ≡ 0) → In n (with_name c names) → n.target.0 ≡ 0
    by [] h (inl e) = ap (λ (m : LockName). m.target.0) (sym e)
    by [] h (inr j) = absurd j
    by (x ∷ xs) h j =
        cond_both (nat_lt x.cookie.0 c.0) (x ∷ with_name c xs) (if nat_eq x.cookie.0 c.0 then x ∷ xs else name_of c ∷ x ∷ xs)
        (λ (v : List LockName). In n v → n.target.0 ≡ 0)
        (λ t k. ⊎_elim (λ (e : x ≡ n). h n (inl e)) (λ (k : In n (with_name c xs)). by xs (λ m q. h m (inr q)) k) k)
        (λ t k. cond_both (nat_eq x.cookie.0 c.0) (x ∷ xs) (name_of c ∷ x ∷ xs) (λ (v : List LockName). In n v → n.target.0 ≡ 0)
        (λ u k. h n k)
        (λ u k. ⊎_elim (λ (e : name_of c ≡ n). ap (λ (m : LockName). m.target.0) (sym e)) (λ (k : In n (x ∷ xs)). h n k) k) k)
        j

name_stays : (c : Cookie) (n : LockName) (names : List LockName) → In n names → In n (with_name c names)
name_stays c n [] i = absurd i
name_stays c n (x ∷ xs) i =
    cond_both (nat_lt x.cookie.0 c.0) (x ∷ with_name c xs) (if nat_eq x.cookie.0 c.0 then x ∷ xs else name_of c ∷ x ∷ xs)
    (λ (v : List LockName). In n v)
    (λ t. ⊎_elim (λ (e : x ≡ n). inl e) (λ (k : In n xs). inr (name_stays c n xs k)) i)
    (λ t. cond_both (nat_eq x.cookie.0 c.0) (x ∷ xs) (name_of c ∷ x ∷ xs) (λ (v : List LockName). In n v) (λ u. i) (λ u. inr i))

name_is : (c : Cookie) (x : LockName) → x.target.0 ≡ 0 → nat_eq x.cookie.0 c.0 ≡ true → x ≡ name_of c
name_is c x first e =
    ap (λ (t : ℕ). record { target = record { 0 = t }; cookie = x.cookie }) first
    ∙ ap (λ (k : ℕ). record { target = record { 0 = 0 }; cookie = record { 0 = k } }) (eqb-true x.cookie.0 c.0 e)

name_there : (c : Cookie) (names : List LockName) → ((m : LockName) → In m names → m.target.0 ≡ 0) → In (name_of c) (with_name c names)
name_there c [] h = inl refl
name_there c (x ∷ xs) h =
    cond_both (nat_lt x.cookie.0 c.0) (x ∷ with_name c xs) (if nat_eq x.cookie.0 c.0 then x ∷ xs else name_of c ∷ x ∷ xs)
    (λ (v : List LockName). In (name_of c) v)
    (λ t. inr (name_there c xs (λ m q. h m (inr q))))
    (λ t. cond_both (nat_eq x.cookie.0 c.0) (x ∷ xs) (name_of c ∷ x ∷ xs) (λ (v : List LockName). In (name_of c) v)
    (λ u. inl (name_is c x (h x (inl refl)) u)) (λ u. inl refl))

named_in : (c : Cookie) (cookies : List Cookie) → In c cookies → In (name_of c) (names_of cookies)
named_in c [] i = absurd i
named_in c (k ∷ cookies) (inl e) = subst (λ (v : Cookie). In (name_of c) (with_name v (names_of cookies))) (sym e)
    (name_there c (names_of cookies) (all_first cookies))
named_in c (k ∷ cookies) (inr i) = name_stays k (name_of c) (names_of cookies) (named_in c cookies i)

-- ---- facts under pinned locks

-- its lock is held, marked or not
abbrev pub IsHeld : List Line → ℕ → Fact → Type 0
IsHeld past c f = (h : HeldLock) × In h (held_at c past) × (h.target.0 ≡ 0) × (h.lock.cookie ≡ f.cookie)

abbrev pub Pinned : List Line → ℕ → List LockName → Fact → Type 0
Pinned past c pins f = In f (facts_at c past) × In (name_of f.cookie) pins

abbrev pub IsKept : List Line → ℕ → List LockName → Fact → Type 0
IsKept past c pins f = Pinned past c pins f × IsHeld past c f

-- a call on objects goes on with that work
abbrev pub AtWork : Stage → Work → Type 0
AtWork stage work = work_in stage ≡ Some work

-- what a stat that goes on for the size of its file knows of it, under the locks that it has pinned
abbrev pub KnowsStat : List Line → ℕ → Running → Type 0
KnowsStat past c r =
    (path : List (List ℕ)) (work : Work) (mode links : ℕ) → r.call ≡ call.Stat path → AtWork r.stage work → work.kind ≡ Stats mode links
    → FileBy (Pinned past c r.pins) path work.fid mode links work.layout

-- ---- what a stat of a file has just learned, or knew as it began, or before

usable_kept : (past : List Line) (c : ℕ) (pins : List LockName) (cookies : List Cookie)
    → ((n : LockName) → In n (names_of cookies) → In n pins) → (f : Fact) → UsedBy (notes_at c past) cookies f → IsKept past c pins f
usable_kept past c pins cookies pinned f u = (
  (u.0.0, pinned (name_of f.cookie) (named_in f.cookie cookies u.1)),
  usable_held f.cookie (held_at c past) u.0.1,
)

pub held_kept : (past : List Line) (c slot : ℕ) (r : Running) (pins : List LockName) → PinsFit past → call_at c slot past ≡ Some r
    → ((n : LockName) → In n r.pins → In n pins) → (f : Fact) → Pinned past c r.pins f
    → IsKept past c pins f
held_kept past c slot r pins fit is pinned f p =
    let held = pins_held past fit c slot r (name_of f.cookie) is p.1 in
    let both = and_parts (nat_eq 0 held.0.target.0) (nat_eq f.cookie.0 held.0.lock.cookie.0) held.2 in (
      (p.0, pinned (name_of f.cookie) p.1),
      (
        held.0,
        held.1,
        sym (eqb-true 0 held.0.target.0 both.0),
        ap (λ (k : ℕ). record { 0 = k }) (sym (eqb-true f.cookie.0 held.0.lock.cookie.0 both.1)),
      ),
    )

-- one tree for all that a life knows, of which each inode is of one kind
kinds_for : (head : Head) (past : List Line) (who : Who) → GrownOf head past → OneKind (tree_for head.osts who past)
kinds_for head [] who g = (sound_now head [] (holds_at head [] g)).one
kinds_for head (l ∷ past) who g =
    cond_both (is_life who (evicted_of (l ∷ past))) (if is_life who (evicted_of past) then tree_for head.osts who past
    else (server_of head.osts past).tree) (server_of head.osts (l ∷ past)).tree OneKind
    (λ t. cond_both (is_life who (evicted_of past)) (tree_for head.osts who past) (server_of head.osts past).tree OneKind
    (λ u. kinds_for head past who g.3) (λ u. (sound_now head past (holds_at head past g.3)).one))
    (λ t. (sound_now head (l ∷ past) (holds_at head (l ∷ past) g)).one)

-- attributes of a file are told with one mode and as many links
one_stat : (t : Tree) (bound : ℕ) (fid : Fid) (mode links : ℕ) (layout : Raid0) (a b : Answer) → OneKind t → a
    ≡ told.FileStat fid mode links layout → TellsAttr t bound fid a → TellsAttr t bound fid b
    → (old : Raid0) × (b ≡ told.FileStat fid mode links old)
one_stat t bound fid mode links layout a b kinds is (inl p) q = let x = sym is ∙ p.0 in absurd (cc)
one_stat t bound fid mode links layout a b kinds is (inr p) (inl q) =
    let x : Dir fid ≡ File fid = kinds (Dir fid) (File fid) (placed_reached t bound (Dir fid) q.1) (placed_reached t bound (File fid) p.2)
    refl in absurd (cc)
one_stat t bound fid mode links layout a b kinds is (inr p) (inr q) =
    let x : told.FileStat fid mode links layout ≡ told.FileStat fid (attributes t (File fid)).mode (attributes t (File fid)).links p.0 =
    sym is ∙ p.1 in
    (q.0, q.1 ∙ sym (by mode links (attributes t (File fid)).mode (attributes t (File fid)).links layout p.0 x))
  where
    by : (m k n j : ℕ) (v w : Raid0) → told.FileStat fid m k v ≡ told.FileStat fid n j w → told.FileStat fid m k q.0
        ≡ told.FileStat fid n j q.0
    by m k n j v w e = let one : m ≡ n = cc in let two : k ≡ j = cc in ap (λ (x : ℕ). told.FileStat fid x k q.0) one
        ∙ ap (λ (x : ℕ). told.FileStat fid n x q.0) two

module _ (head : Head) (past : List Line) (here : At) (c slot : ℕ) (r : Running) (pins : List LockName) (own : here.node ≡ Client c)
    (g : Grown head past) (fit : PinsFit past) (standing : call_at c slot past ≡ Some r) where
  abbrev notes : Notes
  notes = notes_at c past

  knew_file : (path : List (List ℕ)) (fid : Fid) (mode links : ℕ) (layout : Raid0) → r.call ≡ call.Stat path
      → KnowsFile past here c r pins fid mode links layout → FileBy (IsKept past c pins) path fid mode links layout
  knew_file path fid mode links layout stats k =
      let known : file_known notes (found_at_path notes path) ≡ Some k.file = ap (known_file notes) (sym stats) ∙ k.known in
      subst (λ (v : Fid). FileBy (IsKept past c pins) path v mode links layout) (sym k.of_fid)
      (subst (λ (v : ℕ). FileBy (IsKept past c pins) path k.file.fid v links layout) (sym k.of_mode)
      (subst (λ (v : ℕ). FileBy (IsKept past c pins) path k.file.fid k.file.mode v layout) (sym k.of_links)
      (subst (λ (v : Raid0). FileBy (IsKept past c pins) path k.file.fid k.file.mode k.file.links v) (sym k.of_layout)
      (file_more (UsedBy notes k.file.cookies) (IsKept past c pins) (usable_kept past c pins k.file.cookies k.pinned) path k.file.fid
      k.file.mode k.file.links k.file.layout (file_used notes path k.file known)))))

  heard_file : (path : List (List ℕ)) (fid : Fid) (mode links : ℕ) (layout : Raid0) → r.call ≡ call.Stat path
      → ToldFile past here c r pins path fid mode links layout → FileBy (IsKept past c pins) path fid mode links layout
  heard_file path fid mode links layout stats h =
      let k = told_so head past here c slot r pins path fid mode links layout g own standing stats h in
      let cookies = cookies_of_file notes path fid in
      let names = (found_at_path notes path).cookies in
      let of_attr = cookie_of (fact_on (part.Attr fid) notes) in
      let of_layout = cookie_of (fact_on (part.Layout fid) notes) in
      let t = tree_for head.osts (life_at c past) (only 0 past) in
      let bound = bound_of head.osts (only 0 past) in
      let kinds = kinds_for head (only 0 past) (life_at c past) (grown_of head 0 past g) in
      let a = on_part (part.Attr fid) (self fid.0) k.attr k.attr_usable k.attr_part in
      let b = on_part (part.Layout fid) (self fid.0) k.lay k.lay_usable k.lay_part in
      let old = one_stat t bound fid mode links layout k.attr.answer a.0.answer kinds k.stats
      (is_true k.attr k.attr_usable (part.Attr fid) k.attr_part) (is_true a.0 a.2.0 (part.Attr fid) (sym a.2.1)) in
      file_more (UsedBy notes cookies) (IsKept past c pins) (usable_kept past c pins cookies h.pinned) path fid mode links layout
      (record {
        inode = fid;
        leads = led_more (UsedBy notes names) (UsedBy notes cookies)
            (λ x u. (u.0, in_left x.cookie (names ++ of_attr) of_layout (in_left x.cookie names of_attr u.1))) path (told.Dir facts.root)
            (told.File fid)
            (led_used notes path (told.Dir facts.root) (told.File fid) k.leads);
        attr = a.0;
        attr_is = (
          a.2.0,
          in_left a.0.cookie (names ++ of_attr) of_layout
              (in_right a.0.cookie names of_attr (subst (λ (o : Option Fact). In a.0.cookie (cookie_of o)) (sym a.1) (inl refl))),
        );
        attr_part = a.2.1;
        old = old.0;
        attr_tells = old.1;
        laid = b.0;
        laid_is = (
          b.2.0,
          in_right b.0.cookie (names ++ of_attr) of_layout
              (subst (λ (o : Option Fact). In b.0.cookie (cookie_of o)) (sym b.1) (inl refl)),
        );
        laid_part = b.2.1;
        laid_tells = is_true b.0 b.2.0 (part.Layout fid) (sym b.2.1) ∙ sym (is_true k.lay k.lay_usable (part.Layout fid) k.lay_part)
            ∙ k.lays;
      })
    where
      is_true : (f : Fact) → Usable (notes_at c past) f → (p : Part) → f.part ≡ p
          → TellsOf (tree_for head.osts (life_at c past) (only 0 past)) (bound_of head.osts (only 0 past)) p f.answer
      is_true f u p e = subst (λ (q : Part). TellsOf (tree_for head.osts (life_at c past) (only 0 past)) (bound_of head.osts (only 0 past))
          q f.answer) e (fact_stands head past c f g u).tells.is

      on_part : (p : Part) → same_part p p ≡ true → (f : Fact) → Usable (notes_at c past) f → f.part ≡ p → (x : Fact)
          × (fact_on p (notes_at c past) ≡ Some x) × (Usable (notes_at c past) x × (p ≡ x.part))
      on_part p same f u e = let x = fact_there p (notes_at c past) f u (subst (λ (q : Part). same_part p q ≡ true) (sym e) same)
          in (x.0, x.1, fact_is p (notes_at c past) x.0 x.1)

  stat_file : KnowsStat past c r → (s : StatOf past here c r pins) → FileBy (IsKept past c pins) s.path s.fid s.mode s.links s.layout
  stat_file before s = by s.from
    where
      by : KnowsFile past here c r pins s.fid s.mode s.links s.layout ⊎ ToldFile past here c r pins s.path s.fid s.mode s.links s.layout
          ⊎ GoesOn r pins s.fid s.mode s.links s.layout
          → FileBy (IsKept past c pins) s.path s.fid s.mode s.links s.layout
      by (inl k) = knew_file s.path s.fid s.mode s.links s.layout s.stats k
      by (inr (inl h)) = heard_file s.path s.fid s.mode s.links s.layout s.stats h
      by (inr (inr o)) =
          subst (λ (v : Fid). FileBy (IsKept past c pins) s.path v s.mode s.links s.layout) (sym o.of_fid)
          (subst (λ (v : Raid0). FileBy (IsKept past c pins) s.path o.work.fid s.mode s.links v) (sym o.of_layout)
          (file_more (Pinned past c r.pins) (IsKept past c pins) (held_kept past c slot r pins fit standing o.pinned) s.path o.work.fid
          s.mode s.links o.work.layout (before s.path o.work s.mode s.links s.stats o.stage o.kind)))

-- ---- it lasts

file_as : (K : Fact → Type 0) (path walk : List (List ℕ)) (fid gid : Fid) (mode to links of : ℕ) (layout laid : Raid0) → path ≡ walk → fid
    ≡ gid → mode ≡ to → links ≡ of → layout ≡ laid
    → FileBy K path fid mode links layout → FileBy K walk gid to of laid
file_as K path walk fid gid mode to links of layout laid p f m l o h =
    subst (λ (v : List (List ℕ)). FileBy K v gid to of laid) p
    (subst (λ (v : Fid). FileBy K path v to of laid) f
    (subst (λ (v : ℕ). FileBy K path fid v of laid) m
    (subst (λ (v : ℕ). FileBy K path fid mode v laid) l
    (subst (λ (v : Raid0). FileBy K path fid mode links v) o h))))

pub one_work : (stage : Stage) (v w : Work) → AtWork stage v → AtWork stage w → v ≡ w
one_work stage v w p q = let e : Some v ≡ Some w = sym p ∙ q in cc

no_work : (stage : Stage) (w : Work) → work_in stage ≡ None → AtWork stage w → ⊥
no_work stage w none at = let e : None ≡ Some w = sym none ∙ at in cc

-- a message that moves a call leaves its work as it is
pub moved_work : (past : List Line) (now : At) (c : ℕ) (q : Running) (stage : Stage) → MovedStand past now c q stage → work_in stage
    ≡ work_in q.stage
moved_work past now c q stage (inl h) = ap work_in h.is ∙ sym (⊎_elim
    (λ (k : LockBrought past now q h.work h.lock). ap work_in k.stage)
    (λ (k : LockGranted past now q h.work h.lock). ap work_in k.stage) h.from)
moved_work past now c q stage (inr (inl h)) = ap work_in h.is ∙ sym (ap work_in h.before)
moved_work past now c q stage (inr (inr (inl h))) = ap work_in h.is ∙ sym (ap work_in h.before)
moved_work past now c q stage (inr (inr (inr (inl h)))) = ap work_in h.is ∙ sym (ap work_in h.before)
moved_work past now c q stage (inr (inr (inr (inr h)))) = ap work_in h.is ∙ sym (⊎_elim
    (λ (k : (q.stage ≡ Forgotten h.work) × ((t : ℕ) × (who : Who) × (boot committed : ℕ)
    × Took past now (Target t) (message.Ready who boot (record { 0 = committed })) × (is_left_at t h.work.left ≡ true))). ap work_in
    k.0)
    (λ (k : (q.stage ≡ Gets h.work) × Replied past now q). ap work_in k.0) h.from)

pub one_path : (p q : List (List ℕ)) → call.Stat p ≡ call.Stat q → p ≡ q
one_path p q e = cc

one_kind : (a b m n : ℕ) → Stats a b ≡ Stats m n → (a ≡ m) × (b ≡ n)
one_kind a b m n e = (cc, cc)

no_read : (path : List (List ℕ)) (handle offset count : ℕ) → call.Read handle offset count ≡ call.Stat path → ⊥
no_read path handle offset count e = cc

no_size : (mode links : ℕ) (sizes : List ℕ) → Glimpses sizes ≡ Stats mode links → ⊥
no_size mode links sizes e = cc

-- what call goes on with the work that it had goes on with the same knowledge
knows_as : (past new : List Line) (c : ℕ) (q r : Running) → q.call ≡ r.call → work_in q.stage ≡ work_in r.stage → q.pins ≡ r.pins
    → ((f : Fact) → Pinned past c q.pins f → In f (facts_at c new)) → KnowsStat past c q → KnowsStat new c r
knows_as past new c q r s a p stay h path work mode links is at kind =
    file_more (Pinned past c q.pins) (Pinned new c r.pins) (λ f k.
    (stay f k, subst (λ (ns : List LockName). In (name_of f.cookie) ns) p k.1)) path work.fid mode links work.layout
    (h path work mode links (s ∙ is) (a ∙ at) kind)

module _ (head : Head) (past : List Line) (now : At) (c slot : ℕ) (r : Running) (own : now.node ≡ Client c) (g : Grown head past)
    (fit : PinsFit past) where
  knows_stood : (new : List Line) → ((f : Fact) → In f (facts_at c past) → In f (facts_at c new)) → (ok : StandsOk past now c slot r)
      → KnowsStat past c ok.running → KnowsStat new c r
  knows_stood new stay ok before path work mode links is at kind = by ok.how
    where
      stage_is : ok.stage ≡ r.stage
      stage_is = ap (λ (v : Running). v.stage) (sym ok.is)

      stats : ok.running.call ≡ call.Stat path
      stats = ap (λ (v : Running). v.call) (sym ok.is) ∙ is

      pins_are : ok.pins ≡ r.pins
      pins_are = ap (λ (v : Running). v.pins) (sym ok.is)

      Knows : Type 0
      Knows = FileBy (Pinned new c r.pins) path work.fid mode links work.layout

      -- it has that work
      worked : (w : Work) → work_in ok.stage ≡ Some w → w ≡ work
      worked w e = one_work r.stage w work (sym (ap work_in stage_is) ∙ e) at

      stands : (z : StatStand past now c ok.running ok.stage ok.pins) → z.work ≡ work → Knows
      stands z same =
          let numbers = one_kind z.stat.mode z.stat.links mode links (sym z.kind ∙ ap (λ (w : Work). w.kind) same ∙ kind) in
          file_as (Pinned new c r.pins) z.stat.path path z.stat.fid work.fid z.stat.mode mode z.stat.links links z.stat.layout work.layout
          (one_path z.stat.path path (sym z.stat.stats ∙ stats)) (sym z.of_fid ∙ ap (λ (w : Work). w.fid) same) numbers.0 numbers.1
          (sym z.of_layout ∙ ap (λ (w : Work). w.layout) same)
          (file_more (IsKept past c ok.pins) (Pinned new c r.pins)
          (λ f k. (stay f k.0.0, subst (λ (ns : List LockName). In (name_of f.cookie) ns) pins_are k.0.1)) z.stat.path z.stat.fid
          z.stat.mode z.stat.links z.stat.layout
          (stat_file head past now c slot ok.running ok.pins own g fit ok.call before z.stat))

      changes_are : {w : Work} → ChangesOn ok.running w → IsChange ok.running.call
      changes_are (inl d) = subst IsChange (sym d.writes) tt
      changes_are (inr d) = subst IsChange (sym d.cuts) tt

      sized : (z : SizesStand past now ok.running ok.stage ok.pins) → z.work ≡ work → Knows
      sized z same = absurd (no_size mode links z.sizes (sym z.kind ∙ ap (λ (w : Work). w.kind) same ∙ kind))

      by : SizesStand past now ok.running ok.stage ok.pins ⊎ LockStand past c ok.running ok.stage
          ⊎ StatStand past now c ok.running ok.stage ok.pins ⊎ GetStand past c ok.running ok.stage ok.pins
          ⊎ FlushStand past c ok.running ok.stage ok.pins
          ⊎ ((ok.pins ≡ ok.running.pins) × MovedStand past now c ok.running ok.stage)
          → Knows
      by (inl z) = sized z (worked z.work (⊎_elim (λ (e : ok.stage ≡ Sizes z.work). ap work_in e)
          (λ (k : (ok.stage ≡ Enqueued z.work) × LeftSize past now ok.running z.sizes). ap work_in k.0) z.is))
      by (inr (inl z)) = absurd (⊎_elim
          (λ (d : ReadsOn ok.running z.work). no_read path d.read.handle d.read.offset d.read.count (sym d.read.reads ∙ stats))
          (λ (d : ChangesOn ok.running z.work). subst IsChange stats (changes_are d)) z.does)
      by (inr (inr (inl z))) = stands z (worked z.work (ap work_in z.is))
      by (inr (inr (inr (inl z)))) = absurd (no_read path z.does.read.handle z.does.read.offset z.does.read.count
          (sym z.does.read.reads ∙ stats))
      by (inr (inr (inr (inr (inl z))))) = absurd (no_work r.stage work (sym (ap work_in stage_is) ∙ ap work_in z.is) at)
      by (inr (inr (inr (inr (inr z))))) =
          knows_as past new c ok.running r (ap (λ (v : Running). v.call) (sym ok.is))
          (sym (moved_work past now c ok.running ok.stage z.1) ∙ ap work_in stage_is) (sym z.0 ∙ pins_are) (λ f p. stay f p.0) before
          path work mode links is at kind

pub stat_knows : (head : Head) (past : List Line) (c slot : ℕ) (r : Running) → Grown head past → PinsFit past → call_at c slot past ≡ Some r
    → KnowsStat past c r
stat_knows head [] c slot r g fit e = absurd (cc)
stat_knows head (l ∷ past) c slot r g fit e = by l.at.node l.entry g.0.ok fit e (λ q k. stat_knows head past c slot q g.1 fit.1 k)
  where
    begun : Begins c past r → work_in r.stage ≡ None
    begun (inl b) = ap work_in b.1
    begun (inr b) = ap work_in b.1

    -- what is known stays, where the facts do
    going : (node : Node) (e : Entry) → EntryOk past (turn l.at.stamp node) node e → KeepsFacts e
        → ((q : Running) → call_at c slot past ≡ Some q → KnowsStat past c q)
        → CallCame past (turn l.at.stamp node) node e c slot r → KnowsStat (line (turn l.at.stamp node) e ∷ past) c r
    going node e ok keeps ih (inl same) =
        knows_as past (line (turn l.at.stamp node) e ∷ past) c r r refl refl refl
        (λ f p. facts_stay c past l.at.stamp f node e ok keeps p.0) (ih r same)
    going node e ok keeps ih (inr (inl q)) = λ path work mode links is at kind. absurd (no_work r.stage work (begun q.begins) at)
    going node e ok keeps ih (inr (inr (inl q))) =
        knows_as past (line (turn l.at.stamp node) e ∷ past) c q.before r q.same (ap work_in q.stage) q.pins
        (λ f p. facts_stay c past l.at.stamp f node e ok keeps p.0) (ih q.before q.call)
    going node e ok keeps ih (inr (inr (inr q))) =
        knows_stood head past (turn l.at.stamp node) c slot r q.own g.1 fit.1 (line (turn l.at.stamp node) e ∷ past)
        (λ f i. facts_stay c past l.at.stamp f node e ok keeps i) q.stands (ih q.stands.running q.stands.call)

    -- a lock that it has pinned isn't given up
    left : (d t : ℕ) (lock : Lock) → PinsFit (line (turn l.at.stamp (Client d)) (Drop t lock) ∷ past) → call_at c slot past ≡ Some r
        → (f : Fact) → Pinned past c r.pins f
        → In f (facts_at c (line (turn l.at.stamp (Client d)) (Drop t lock) ∷ past))
    left d t lock fit is f p =
        cond_both (nat_eq c d) (without_facts t lock (facts_at c past)) (facts_at c past) (λ (fs : List Fact). In f fs)
        (λ own. there t (subst (λ (v : ℕ). PinsFit (line (turn l.at.stamp (Client v)) (Drop t lock) ∷ past)) (sym (eqb-true c d own)) fit))
        (λ other. p.0)
      where
        there : (t : ℕ) → PinsFit (line (turn l.at.stamp (Client c)) (Drop t lock) ∷ past) → In f (without_facts t lock (facts_at c past))
        there zero fit = in_filtered (λ (x : Fact). not (x.cookie.0 == lock.cookie.0)) f (facts_at c past) p.0
            (by (nat_eq f.cookie.0 lock.cookie.0) refl)
          where
            by : (b : Bool) → nat_eq f.cookie.0 lock.cookie.0 ≡ b → not b ≡ true
            by true q = absurd (drop_unpinned past l.at.stamp c 0 slot lock r (name_of f.cookie) fit is p.1
                (ap (λ (k : ℕ). record { target = record { 0 = 0 }; cookie = record { 0 = k } }) (eqb-true f.cookie.0 lock.cookie.0 q)))
            by false q = refl
        there (suc t) fit = p.0

    by : (node : Node) (e : Entry) → EntryOk past (turn l.at.stamp node) node e → PinsFit (line (turn l.at.stamp node) e ∷ past)
        → call_at c slot (line (turn l.at.stamp node) e ∷ past) ≡ Some r
        → ((q : Running) → call_at c slot past ≡ Some q → KnowsStat past c q)
        → KnowsStat (line (turn l.at.stamp node) e ∷ past) c r
    by (Client d) (Drop t lock) ok fit k ih = knows_as past (line (turn l.at.stamp (Client d)) (Drop t lock) ∷ past) c r r refl refl refl
        (left d t lock fit k) (ih r k)
    by (Client d) (Life who) ok fit k ih =
        knows_as past (line (turn l.at.stamp (Client d)) (Life who) ∷ past) c r r refl refl refl
        (λ f p. cond_both (nat_eq c d) [] (facts_at c past) (λ (fs : List Fact). In f fs)
        (λ own. let none : None ≡ Some r = sym (ap (λ (v : ℕ). call_at v slot past) (eqb-true c d own) ∙ ok.idle slot) ∙ k in absurd (cc))
        (λ other. p.0)) (ih r k)
    by (Target t) (Drop u lock) ok fit k ih = absurd ok
    by (Target t) (Life who) ok fit k ih = absurd ok
    by node e ok fit k ih = going node e ok tt ih (call_cases past l.at.stamp node e ok c slot r k)

-- ---- as it is told

-- it is what the table answers, and each transaction that stands and wrote what it looks at is committed, or was seen
pub record StatRight (head : Head) (past : List Line) (c : ℕ) (path : List (List ℕ)) (number : TxnOf) (who : Who) (a : Answer) : Type
    0 where
  pub same : a ≡ answer head.osts (tree_at head.osts 0 past) (record { number = number; who = who; op = op.Stat path })
  pub saw : (p : Part) → In p (touches head.osts (tree_at head.osts 0 past) (record { number = number; who = who; op = op.Stat path }))
      → (e : Deed) → Acted (only 0 past) e → IsMade e → Stands head.osts (only 0 past) e
      → Apart e.writes p ⊎ ((e.reply.txn.0 ≤ (committed_at 0 past).0) ⊎ SawBy past c e.reply.txn.0)

pub stat_right : (head : Head) (past : List Line) (stamp : Stamp) (c slot : ℕ) (r : Running) (pins : List LockName) → Grown head past
    → PinsFit past → call_at c slot past ≡ Some r
    → (s : StatOf past (turn stamp (Client c)) c r pins) → (number : TxnOf) (who : Who)
    → (Evicted (only 0 past) (life_at c past) → ⊥) → StatRight head past c s.path number who (told.FileStat s.fid s.mode s.links s.layout)
stat_right head past stamp c slot r pins g fit standing s number who present =
    let right = subst RightIn (sym (tree_is head.osts 0 past)) right_now in
    record {
      same = right.same;
      saw = λ p i e b made stands. let k = right.looks p i
          in stands_saw head past c k.0 present (stands_of k.0 k.1) p k.2 e b made stands;
    }
  where
    RightIn : Tree → Type 0
    RightIn t =
        record {
          same : told.FileStat s.fid s.mode s.links s.layout ≡ answer head.osts t
              (record { number = number; who = who; op = op.Stat s.path });
          looks : (p : Part) → In p (touches head.osts t (record { number = number; who = who; op = op.Stat s.path }))
              → KnownPart (λ f. In f (facts_at c past) × IsHeld past c f) p;
        }

    stands_of : (f : Fact) → In f (facts_at c past) × IsHeld past c f → Standing head past c f
    stands_of f k = held_stands head past c f g k.0 k.1.0 k.1.1 k.1.2 k.1.3

    right_now : RightIn (server_of head.osts (only 0 past)).tree
    right_now =
        let v = server_of head.osts (only 0 past) in
        let r = file_right v.tree (bound_of head.osts (only 0 past)) (λ f. In f (facts_at c past) × IsHeld past c f)
        (λ f k. stands_tells head past c f present (stands_of f k))
        (sound_now head (only 0 past) (holds_at head (only 0 past) (grown_of head 0 past g))).one s.path s.fid s.mode s.links s.layout
        (file_more (IsKept past c pins) (λ f. In f (facts_at c past) × IsHeld past c f) (λ f k. (k.0.0, k.1)) s.path s.fid s.mode s.links
        s.layout
        (stat_file head past (turn stamp (Client c)) c slot r pins refl g fit standing (stat_knows head past c slot r g fit standing) s)) in
        record { same = r.same; looks = r.looks }
