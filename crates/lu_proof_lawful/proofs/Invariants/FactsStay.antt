-- A transaction that writes nothing that a lock guards leaves each fact true that lies under the lock, and writes nothing that
-- the fact is of. What names lead to is a directory or a file by its number, after each operation under a new number.
use Rattle.std.proofs.Common.{◌≡◌, ℕ, ◌≤◌, ◌<◌, Bool, true, false, List, [], ◌∷◌, ◌⊎◌, inl, inr, ⊎_elim, Option, Some, None, refl, sym, ap}
use Rattle.std.proofs.Common.{subst, ◌∙◌, arith}
use Rattle.std.specs.Prelude.{◌&&◌, ◌||◌}
use Rattle.std.specs.List.{list_any}
use Rattle.std.proofs.lemmas.Bool.{cond_both, and_parts, eq-eqb, eqb-true}
use Rattle.lu_base.specs.declared.ids.Fid.{Fid}
use Rattle.lu_base.specs.declared.ids.Txn.{Txn}
use Rattle.lu_base.specs.declared.ids.Who.{Who}
use Rattle.lu_base.specs.declared.locks.Lock.{Lock}
use Rattle.lu_base.specs.declared.locks.Policy.{Policy}
use Rattle.lu_base.specs.declared.locks.Policy.TheVariants.{Bits}
use Rattle.lu_base.specs.declared.locks.Resource.{Resource}
use Rattle.lu_lock.specs.Overlap.{bits_meet, policies_meet}
use Rattle.lu_held.specs.Locks.{same_resource}
use Rattle.lu_part.specs.Guards.{guard}
use Rattle.lu_part.specs.Meets.{meets}
use Rattle.lu_part.specs.declared.bits.TheConstants.{LOOKUP, UPDATE, LAYOUT}
use Rattle.lu_part.specs.declared.parts.Part.{Part}
use Rattle.lu_part.specs.declared.parts.Part.TheVariants as part
use Rattle.lu_msg.specs.declared.answers.Answer.{Answer}
use Rattle.lu_msg.specs.declared.answers.Answer.TheVariants as told
use Rattle.lu_spec_machine.specs.declared.child.Child.{Child}
use Rattle.lu_spec_machine.specs.declared.child.Child.TheVariants.{Dir, File}
use Rattle.lu_spec_machine.specs.Tree.{Tree, Attributes, same_fid, fid_of, child}
use Rattle.lu_spec_machine.specs.Change.{Change, Leads, Drops, MakesDir, change, changed, written}
use Rattle.lu_spec_machine.specs.Plan.{Outcome}
use Rattle.lu_spec_machine.specs.Table.{root, found, made_by}
use Rattle.lu_spec_machine.specs.Footprint.{Operation, empty, writes, after, forget, outcome_of, inode_of, Every, Apart, Same}
use Rattle.lu_spec_machine.proofs.Effects.{name_after}
use Rattle.lu_spec_machine.proofs.Leads.{here, other, empty_other, leads_stay}
use Rattle.lu_spec_machine.proofs.Outcomes.{IsReached, Comes, refused, learns, mkdir, create, link, unlink, rmdir, move, replace_dir}
use Rattle.lu_spec_machine.proofs.Outcomes.{replace_file, chmod, opens, closes}
use Rattle.lu_spec_machine.proofs.Removal.{empty_older}
use Rattle.lu_spec_machine.proofs.Stated.{comes, others_stay, made_has_number}
use Rattle.lu_spec_machine.proofs.Walks.{IsNamed}
use Rattle.lu_spec_client.specs.Facts.{Fact}
use Rattle.lu_spec_target.specs.Names.{guards_part, in_way, is_free}
use Rattle.lu_proof_lawful.proofs.Preconditions.Guards.{In}
use Rattle.lu_proof_lawful.proofs.Preconditions.Lists.{in_filtered}
use Rattle.lu_proof_lawful.proofs.Preconditions.ClientLines.{some_is}
use Rattle.lu_proof_lawful.proofs.Invariants.KnownPaths.{IsPlaced, TellsAttr, TellsOf, Tells, OneKind, placed_reached}
use Rattle.lu_proof_lawful.proofs.Invariants.TaughtFacts.{Guards, LiesOn, Lies}

-- ---- what a lock guards

-- nothing of these parts
abbrev pub Spares : Lock → List Part → Type 0
Spares l ws = Every (λ w. guards_part l w ≡ false) ws

none_spared : (l : Lock) (ws : List Part) → list_any (guards_part l) ws ≡ false → Spares l ws
none_spared l [] h = tt
none_spared l (w ∷ ws) h = by (guards_part l w) refl h (none_spared l ws)
  where
    by : (b : Bool) → guards_part l w ≡ b → (b || list_any (guards_part l) ws) ≡ false → (list_any (guards_part l) ws ≡ false → Spares l ws)
        → Spares l (w ∷ ws)
    by true e k ih = absurd (cc)
    by false e k ih = (e, ih k)

-- where no granted lock is in the way, none guards what is written
pub free_spares : (granted : List Lock) (ws : List Part) (l : Lock) → is_free (in_way granted ws) ≡ true → In l granted → Spares l ws
free_spares granted ws l free i = none_spared l ws (by (list_any (guards_part l) ws) refl)
  where
    full : (ks : List Lock) → is_free ks ≡ true → In l ks → ⊥
    full [] h j = j
    full (k ∷ ks) h j = absurd (cc)

    by : (b : Bool) → list_any (guards_part l) ws ≡ b → b ≡ false
    by true e = absurd (full (in_way granted ws) free (in_filtered (λ (k : Lock). list_any (guards_part k) ws) l granted i e))
    by false e = refl

-- parts of an inode that meet have one guard
abbrev IsOfInode : Part → Type 0
IsOfInode (part.Bytes f stripe extent) = ⊥
IsOfInode _ = Unit {0}

same_inode : (f g : Fid) → same_fid f g ≡ true → f ≡ g
same_inode f g h = ap (λ (n : ℕ). record { 0 = n }) (eqb-true f.0 g.0 h)

same_guard : (w p : Part) → IsOfInode p → meets w p ≡ true → guard w ≡ guard p
same_guard (part.Name d n) (part.Name e m) i h = ap (λ f. guard (part.Attr f)) (same_inode d e (and_parts (same_fid d e) _ h).0)
same_guard (part.Name d n) (part.List e) i h = ap (λ f. guard (part.Attr f)) (same_inode d e h)
same_guard (part.List d) (part.Name e m) i h = ap (λ f. guard (part.Attr f)) (same_inode d e h)
same_guard (part.List d) (part.List e) i h = ap (λ f. guard (part.Attr f)) (same_inode d e h)
same_guard (part.Attr d) (part.Attr e) i h = ap (λ f. guard (part.Attr f)) (same_inode d e h)
same_guard (part.Layout d) (part.Layout e) i h = ap (λ f. guard (part.Layout f)) (same_inode d e h)
same_guard (part.Parent d) (part.Parent e) i h = ap (λ f. guard (part.Parent f)) (same_inode d e h)
same_guard (part.Bytes f s x) (part.Bytes g r y) i h = absurd i
same_guard _ _ i h = absurd (cc)

-- a part, its inode and the bit that guards it
abbrev IsGuarded : Part → Fid → ℕ → Type 0
IsGuarded p f bit = record { is : guard p ≡ (record { fid = f; stripe = 0 }, Bits bit); inode : IsOfInode p }

guards_it : (l : Lock) (p : Part) (f : Fid) (bit : ℕ) → Guards l f bit → IsGuarded p f bit → guards_part l p ≡ true
guards_it l p f bit g k =
    ap (λ (x : Resource × Policy). same_resource l.resource x.0 && policies_meet l.ask.policy x.1) k.is
    ∙ ap (λ (r : Resource). same_resource r (record { fid = f; stripe = 0 }) && policies_meet l.ask.policy (Bits bit)) g.resource
    ∙ ap (λ (x : Policy). same_resource (record { fid = f; stripe = 0 }) (record { fid = f; stripe = 0 }) && policies_meet x (Bits bit))
    g.policy
    ∙ ap (λ (b : Bool). (b && true) && bits_meet g.bits bit) (eq-eqb f.0 f.0 refl) ∙ g.has

pub guarded_apart : (l : Lock) (ws : List Part) (p : Part) (f : Fid) (bit : ℕ) → Guards l f bit → IsGuarded p f bit → Spares l ws
    → Apart ws p
guarded_apart l [] p f bit g k s = tt
guarded_apart l (w ∷ ws) p f bit g k s = (by (meets w p) refl, guarded_apart l ws p f bit g k s.1)
  where
    by : (b : Bool) → meets w p ≡ b → b ≡ false
    by false e = refl
    by true e =
        let same = same_guard w p k.inode e in
        let hit : guards_part l w ≡ true = ap (λ (x : Resource × Policy). same_resource l.resource x.0 && policies_meet l.ask.policy x.1)
        same ∙ guards_it l p f bit g k in
        absurd (cc (hit, s.0))

-- ---- a name is written only with the place of what it led to

module _ (t : Tree) (number : Txn) (who : Who) (d : Fid) (n : List ℕ) (c : Child) (is : child t d n ≡ Some c) where
  abbrev Unwritten : List Change → Type 0
  Unwritten xs = Apart (written xs) (part.Parent (fid_of c)) → Apart (written xs) (part.Name d n)

  unwritten : (o : Outcome) → Comes t number who o → Unwritten o.changes
  unwritten _ (refused e) a = tt
  unwritten _ (learns _ _ h) a = tt
  unwritten _ (mkdir e m free) a = (empty_other t e m d n c free is, tt)
  unwritten _ (create e m l free) a = (empty_other t e m d n c free is, tt)
  unwritten _ (link e m f free named) a = (empty_other t e m d n c free is, (refl, tt))
  unwritten _ (unlink e m f at) a = (other t e m d n (File f) c at is a.1.0, (refl, (refl, tt)))
  unwritten _ (rmdir e m f at none) a = (other t e m d n (Dir f) c at is a.1.0, (refl, (refl, tt)))
  unwritten _ (move e m b k l at free) a = (other t e m d n b c at is a.1.1.0, (empty_other t k l d n c free is, (refl, tt)))
  unwritten _ (replace_dir e m f k l g at there apart none) a =
      (other t e m d n (Dir f) c at is a.1.1.0, (other t k l d n (Dir g) c there is a.1.1.1.0, (refl, (refl, (refl, tt)))))
  unwritten _ (replace_file e m f k l g at there apart) a = (
    other t e m d n (File f) c at is a.1.1.0,
    (other t k l d n (File g) c there is a.1.1.1.0, (refl, (refl, (refl, tt)))),
  )
  unwritten _ (chmod b mode r) a = (refl, tt)
  unwritten _ (opens f named) a = tt
  unwritten _ (closes opened) a = tt

found_one : (c b : Child) → found c ≡ found b → c ≡ b
found_one (Dir d) (Dir e) h = cc
found_one (File d) (File e) h = cc
found_one (Dir d) (File e) h = absurd (cc)
found_one (File d) (Dir e) h = absurd (cc)

-- ---- facts after a transaction

module _ (osts : ℕ) (t : Tree) (a : Operation) (bound : ℕ) (new : bound < a.number.0) where
  abbrev next : Tree
  next = after osts t a

  -- the inode that it makes has its number
  others : (p : Part) → (inode_of p).0 ≤ bound → Apart (writes osts t a) p → Same t next p
  others p le apart = others_stay osts t a p apart (λ q. absurd
      (let e = made_has_number osts t a (inode_of p) q in omega (arith, e, le, new)))

  leads_on : (d : Fid) (n : List ℕ) (c : Child) → d.0 ≤ bound → child t d n ≡ Some c → Apart (writes osts t a) (part.Parent (fid_of c))
      → child next d n ≡ Some c
  leads_on d n c le is apart = leads_stay osts t a d n c is (λ e. absurd (omega (arith, e, le, new))) apart

  module _ (l : Lock) (spares : Spares l (writes osts t a)) where
    apart_by : (p : Part) (f : Fid) (bit : ℕ) → Guards l f bit → IsGuarded p f bit → Apart (writes osts t a) p
    apart_by p f bit g k = guarded_apart l (writes osts t a) p f bit g k spares

    placed_on : (c : Child) → (c ≡ root) ⊎ Guards l (fid_of c) LOOKUP → IsPlaced t bound c → IsPlaced next bound c
    placed_on c g (inl e) = inl e
    placed_on c (inl e) (inr p) = inl e
    placed_on c (inr g) (inr p) = inr (
      p.0,
      p.1,
      leads_on p.0 p.1 c p.3 p.2
          (apart_by (part.Parent (fid_of c)) (fid_of c) LOOKUP g (record { is = refl; inode = tt })),
      p.3,
    )

    -- the root is no file
    file_place : (f : Fid) → OneKind t → IsPlaced t bound (File f) → (f ≡ fid_of root) ⊎ Guards l f LOOKUP → (File f ≡ root)
        ⊎ Guards l f LOOKUP
    file_place f kinds p (inl e) = inl (kinds (File f) root (placed_reached t bound (File f) p) (inl refl) e)
    file_place f kinds p (inr g) = inr g

    dir_place : (f : Fid) → (f ≡ fid_of root) ⊎ Guards l f LOOKUP → (Dir f ≡ root) ⊎ Guards l f LOOKUP
    dir_place f (inl e) = inl (ap Dir e)
    dir_place f (inr g) = inr g

    attr_on : (f : Fid) (b : Answer) → OneKind t → Same t next (part.Attr f) → (f ≡ fid_of root) ⊎ Guards l f LOOKUP → TellsAttr t bound f b
        → TellsAttr next bound f b
    attr_on f b kinds same g (inl k) = inl (
      k.0 ∙ ap (λ (x : Attributes). told.DirStat f x.mode) same.0,
      placed_on (Dir f) (dir_place f g) k.1,
    )
    attr_on f b kinds same g (inr k) = inr (
      k.0,
      k.1 ∙ ap (λ (x : Attributes). told.FileStat f x.mode x.links k.0) same.1,
      placed_on (File f) (file_place f kinds k.2 g) k.2,
    )

    tells_on : (p : Part) (b : Answer) → OneKind t → (inode_of p).0 ≤ bound → LiesOn l p b → TellsOf t bound p b → TellsOf next bound p b
    tells_on (part.Name d n) b kinds le lies k =
        let same = found_one lies.0 k.to (sym lies.1 ∙ k.is) in
        let g : Guards l (fid_of k.to) LOOKUP = subst (λ (c : Child). Guards l (fid_of c) LOOKUP) same lies.2 in
        record {
          to = k.to;
          leads = leads_on d n k.to le k.leads
              (apart_by (part.Parent (fid_of k.to)) (fid_of k.to) LOOKUP g (record { is = refl; inode = tt }));
          is = k.is;
          short = k.short;
        }
    tells_on (part.List d) b kinds le lies k = k ∙ ap told.Names
        (others (part.List d) le (apart_by (part.List d) d UPDATE lies (record { is = refl; inode = tt })))
    tells_on (part.Attr f) b kinds le lies k = attr_on f b kinds
        (others (part.Attr f) le (apart_by (part.Attr f) f UPDATE lies.0 (record { is = refl; inode = tt }))) lies.1 k
    tells_on (part.Layout f) b kinds le lies k = k ∙ ap told.Layout
        (others (part.Layout f) le (apart_by (part.Layout f) f LAYOUT lies (record { is = refl; inode = tt })))
    tells_on _ b kinds le lies k = absurd k

    -- a name that leads to what the lock is on isn't written, and leads there still; the root stands for good
    pub place_stays : (c : Child) → OneKind t → (fid_of c ≡ fid_of root) ⊎ Guards l (fid_of c) LOOKUP → (d : Fid) (n : List ℕ) → child t d n
        ≡ Some c → d.0 ≤ bound → (c ≡ root) ⊎ ((child next d n ≡ Some c) × Apart (writes osts t a) (part.Name d n))
    place_stays c kinds (inl e) d n leads le = inl (kinds c root (inr (d, (n, leads))) (inl refl) e)
    place_stays c kinds (inr g) d n leads le =
        let apart = apart_by (part.Parent (fid_of c)) (fid_of c) LOOKUP g (record { is = refl; inode = tt }) in
        inr (leads_on d n c le leads apart, unwritten t a.number a.who d n c leads (outcome_of osts t a) (comes osts t a) apart)

    pub fact_stays : (f : Fact) → OneKind t → Lies l f → Tells t bound f → Tells next bound f
    fact_stays f kinds lies k = record { low = k.low; is = tells_on f.part f.answer kinds k.low lies k.is }

    part_unwritten : (p : Part) (b : Answer) → LiesOn l p b → TellsOf t bound p b → Apart (writes osts t a) p
    part_unwritten (part.Name d n) b lies k =
        let same = found_one lies.0 k.to (sym lies.1 ∙ k.is) in
        let g : Guards l (fid_of k.to) LOOKUP = subst (λ (c : Child). Guards l (fid_of c) LOOKUP) same lies.2 in
        unwritten t a.number a.who d n k.to k.leads (outcome_of osts t a) (comes osts t a)
        (apart_by (part.Parent (fid_of k.to)) (fid_of k.to) LOOKUP g (record { is = refl; inode = tt }))
    part_unwritten (part.List d) b lies k = apart_by (part.List d) d UPDATE lies (record { is = refl; inode = tt })
    part_unwritten (part.Attr f) b lies k = apart_by (part.Attr f) f UPDATE lies.0 (record { is = refl; inode = tt })
    part_unwritten (part.Layout f) b lies k = apart_by (part.Layout f) f LAYOUT lies (record { is = refl; inode = tt })
    part_unwritten _ b lies k = absurd k

    pub fact_unwritten : (f : Fact) → Lies l f → Tells t bound f → Apart (writes osts t a) f.part
    fact_unwritten f lies k = part_unwritten f.part f.answer lies k.is

pub tells_wide : (t : Tree) (bound wide : ℕ) (f : Fact) → bound ≤ wide → Tells t bound f → Tells t wide f
tells_wide t bound wide f le k = record { low = let x = k.low in omega (arith, x, le); is = by f.part f.answer k.is }
  where
    placed : (c : Child) → IsPlaced t bound c → IsPlaced t wide c
    placed c (inl e) = inl e
    placed c (inr p) = inr (p.0, p.1, p.2, let x = p.3 in omega (arith, x, le))

    attr : (f : Fid) (a : Answer) → TellsAttr t bound f a → TellsAttr t wide f a
    attr f a (inl k) = inl (k.0, placed (Dir f) k.1)
    attr f a (inr k) = inr (k.0, k.1, placed (File f) k.2)

    by : (p : Part) (a : Answer) → TellsOf t bound p a → TellsOf t wide p a
    by (part.Name d n) a k = k
    by (part.List d) a k = k
    by (part.Attr g) a k = attr g a k
    by (part.Layout g) a k = k
    by _ a k = absurd k

-- ---- what names lead to

-- what a name is made to lead to
abbrev IsLed : Change → Child → Type 0
IsLed (Leads d n b) c = b ≡ c
IsLed _ c = ⊥

abbrev AreLed : List Change → Child → Type 0
AreLed [] c = ⊥
AreLed (Leads d n b ∷ xs) c = (b ≡ c) ⊎ AreLed xs c
AreLed (_ ∷ xs) c = AreLed xs c

led_first : (x : Change) (xs : List Change) (c : Child) → IsLed x c → AreLed (x ∷ xs) c
led_first (Leads d n b) xs c e = inl e
led_first x xs c e = absurd e

led_later : (x : Change) (xs : List Change) (c : Child) → AreLed xs c → AreLed (x ∷ xs) c
led_later (Leads d n b) xs c a = inr a
led_later x xs c a = a

from_change : (u : Tree) (x : Change) (d : Fid) (n : List ℕ) (c : Child) → child (change u x) d n ≡ Some c → IsLed x c
    ⊎ (child u d n ≡ Some c)
from_change u (Leads e m b) d n c h =
    cond_both (here e m d n) (Some b) (child u d n) (λ (o : Option Child). o ≡ Some c → (b ≡ c) ⊎ (child u d n ≡ Some c))
    (λ _ k. inl (some_is b c k)) (λ _ k. inr k) (sym (name_after u (Leads e m b) d n) ∙ h)
from_change u (Drops e m) d n c h =
    cond_both (here e m d n) None (child u d n) (λ (o : Option Child). o ≡ Some c → ⊥ ⊎ (child u d n ≡ Some c)) (λ _ k. absurd (cc))
    (λ _ k. inr k) (sym (name_after u (Drops e m) d n) ∙ h)
from_change u (MakesDir f) d n c h =
    cond_both (same_fid f d) None (child u d n) (λ (o : Option Child). o ≡ Some c → ⊥ ⊎ (child u d n ≡ Some c)) (λ _ k. absurd (cc))
    (λ _ k. inr k) (sym (name_after u (MakesDir f) d n) ∙ h)
from_change u x d n c h = inr (sym (name_after u x d n) ∙ h)

from_changes : (t : Tree) (xs : List Change) (d : Fid) (n : List ℕ) (c : Child) → child (changed t xs) d n ≡ Some c → AreLed xs c
    ⊎ (child t d n ≡ Some c)
from_changes t [] d n c h = inr h
from_changes t (x ∷ xs) d n c h =
    ⊎_elim (λ (a : AreLed xs c). inl (led_later x xs c a)) (λ (k : child (change t x) d n ≡ Some c). ⊎_elim
    (λ (a : IsLed x c). inl (led_first x xs c a)) (λ (q : child t d n ≡ Some c). inr q) (from_change t x d n c k))
    (from_changes (change t x) xs d n c h)

module _ (t : Tree) (number : Txn) (who : Who) where
  -- a name is made to lead to what is named, or to one new inode
  abbrev NewOr : Outcome → Type 0
  NewOr o = (k : Child) × (fid_of k ≡ made_by number) × ((c : Child) → AreLed o.changes c → IsNamed t c ⊎ (c ≡ k))

  named_as : (b : Child) (d : Fid) (n : List ℕ) → child t d n ≡ Some b → (c : Child) → (b ≡ c) ⊎ ⊥ → IsNamed t c
      ⊎ (c ≡ Dir (made_by number))
  named_as b d n is c (inl e) = inl (subst (IsNamed t) e (d, (n, is)))
  named_as b d n is c (inr v) = absurd v

  made_as : (b c : Child) → (b ≡ c) ⊎ ⊥ → IsNamed t c ⊎ (c ≡ b)
  made_as b c (inl e) = inr (sym e)
  made_as b c (inr v) = absurd v

  led_to : (o : Outcome) → Comes t number who o → NewOr o
  led_to _ (refused e) = (Dir (made_by number), refl, λ c a. absurd a)
  led_to _ (learns _ _ h) = (Dir (made_by number), refl, λ c a. absurd a)
  led_to _ (mkdir e m free) = (Dir (made_by number), refl, made_as (Dir (made_by number)))
  led_to _ (create e m l free) = (File (made_by number), refl, made_as (File (made_by number)))
  led_to _ (link e m f free named) = (Dir (made_by number), refl, named_as (File f) named.0 named.1.0 named.1.1)
  led_to _ (unlink e m f at) = (Dir (made_by number), refl, λ c a. absurd a)
  led_to _ (rmdir e m f at none) = (Dir (made_by number), refl, λ c a. absurd a)
  led_to _ (move e m b k l at free) = (Dir (made_by number), refl, named_as b e m at)
  led_to _ (replace_dir e m f k l g at there apart none) = (Dir (made_by number), refl, named_as (Dir f) e m at)
  led_to _ (replace_file e m f k l g at there apart) = (Dir (made_by number), refl, named_as (File f) e m at)
  led_to _ (chmod b mode r) = (Dir (made_by number), refl, λ c a. absurd a)
  led_to _ (opens f named) = (Dir (made_by number), refl, λ c a. absurd a)
  led_to _ (closes opened) = (Dir (made_by number), refl, λ c a. absurd a)

-- all names lead to inodes of numbers up to the bound, which are of one kind each
abbrev pub IsSound : Tree → ℕ → Type 0
IsSound t bound = record {
  least : 1 ≤ bound;
  low : (d : Fid) (n : List ℕ) (c : Child) → child t d n ≡ Some c → (fid_of c).0 ≤ bound;
  one : OneKind t;
}

pub sound_after : (osts : ℕ) (t : Tree) (a : Operation) (bound : ℕ) → bound < a.number.0 → IsSound t bound
    → IsSound (after osts t a) a.number.0
sound_after osts t a bound new h = record {
  least = omega (arith, new);
  low = λ d n c is. low c (from d n c is);
  one =
      λ c b r s e. one c b (reached c r) (reached b s) e;
}
  where
    k : NewOr t a.number a.who (outcome_of osts t a)
    k = led_to t a.number a.who (outcome_of osts t a) (comes osts t a)

    from : (d : Fid) (n : List ℕ) (c : Child) → child (after osts t a) d n ≡ Some c → IsNamed t c ⊎ (c ≡ k.0)
    from d n c is = ⊎_elim (λ (x : AreLed (outcome_of osts t a).changes c). k.2 c x) (λ (x : child t d n ≡ Some c). inl (d, (n, x)))
        (from_changes t (outcome_of osts t a).changes d n c is)

    reached : (c : Child) → IsReached (after osts t a) c → IsReached t c ⊎ (c ≡ k.0)
    reached c (inl e) = inl (inl e)
    reached c (inr p) = ⊎_elim (λ (x : IsNamed t c). inl (inr x)) (λ (x : c ≡ k.0). inr x) (from p.0 p.1.0 c p.1.1)

    number_of : (c : Child) → c ≡ k.0 → (fid_of c).0 ≡ a.number.0
    number_of c e = ap (λ (x : Child). (fid_of x).0) e ∙ ap (λ (f : Fid). f.0) k.1

    low : (c : Child) → IsNamed t c ⊎ (c ≡ k.0) → (fid_of c).0 ≤ a.number.0
    low c (inl p) = let le = h.low p.0 p.1.0 c p.1.1 in omega (arith, le, new)
    low c (inr e) = let n = number_of c e in omega (arith, n)

    under : (c : Child) → IsReached t c → (fid_of c).0 ≤ bound
    under c (inl e) = let n : (fid_of c).0 ≡ 1 = ap (λ (x : Child). (fid_of x).0) e in let le = h.least in omega (arith, n, le)
    under c (inr p) = h.low p.0 p.1.0 c p.1.1

    one : (c b : Child) → IsReached t c ⊎ (c ≡ k.0) → IsReached t b ⊎ (b ≡ k.0) → fid_of c ≡ fid_of b → c ≡ b
    one c b (inl r) (inl s) e = h.one c b r s e
    one c b (inl r) (inr s) e = absurd (let le = under c r in let n = number_of b s in let m : (fid_of c).0 ≡ (fid_of b).0 =
        ap (λ (f : Fid). f.0) e in omega (arith, le, n, m, new))
    one c b (inr r) (inl s) e = absurd (let le = under b s in let n = number_of c r in let m : (fid_of c).0 ≡ (fid_of b).0 =
        ap (λ (f : Fid). f.0) e in omega (arith, le, n, m, new))
    one c b (inr r) (inr s) e = r ∙ sym s

pub sound_empty : (bound : ℕ) → 1 ≤ bound → IsSound empty bound
sound_empty bound le = record { least = le; low = λ d n c is. absurd (nothing d n c is); one = λ c b r s e. only c r ∙ sym (only b s) }
  where
    nothing : (d : Fid) (n : List ℕ) (c : Child) → child empty d n ≡ Some c → ⊥
    nothing d n c is = let f = empty_older (λ m. false) d n c is in absurd (cc)

    only : (c : Child) → IsReached empty c → c ≡ root
    only c (inl e) = e
    only c (inr p) = absurd (nothing p.0 p.1.0 c p.1.1)

-- ---- a fact is true of each tree that holds the same there, and where what its attributes are of stands

abbrev pub Placed : Tree → Tree → ℕ → Part → Type 0
Placed t u bound (part.Attr f) = (c : Child) → fid_of c ≡ f → IsPlaced t bound c → IsPlaced u bound c
Placed t u bound _ = Unit {0}

pub tells_same : (t u : Tree) (bound : ℕ) (f : Fact) → Same t u f.part → Placed t u bound f.part → Tells t bound f → Tells u bound f
tells_same t u bound f same placed k = record { low = k.low; is = by f.part f.answer same placed k.is }
  where
    attr : (g : Fid) (a : Answer) → Same t u (part.Attr g) → ((c : Child) → fid_of c ≡ g → IsPlaced t bound c → IsPlaced u bound c)
        → TellsAttr t bound g a → TellsAttr u bound g a
    attr g a s p (inl k) = inl (k.0 ∙ ap (λ (x : Attributes). told.DirStat g x.mode) s.0, p (Dir g) refl k.1)
    attr g a s p (inr k) = inr (k.0, k.1 ∙ ap (λ (x : Attributes). told.FileStat g x.mode x.links k.0) s.1, p (File g) refl k.2)

    by : (p : Part) (a : Answer) → Same t u p → Placed t u bound p → TellsOf t bound p a → TellsOf u bound p a
    by (part.Name d n) a s p k = record { to = k.to; leads = sym s ∙ k.leads; is = k.is; short = k.short }
    by (part.List d) a s p k = k ∙ ap told.Names s
    by (part.Attr g) a s p k = attr g a s p k
    by (part.Layout g) a s p k = k ∙ ap told.Layout s
    by _ a s p k = absurd k

-- all is the same in both
pub tells_all : (t u : Tree) (bound : ℕ) (f : Fact) → ((p : Part) → Same t u p) → Tells t bound f → Tells u bound f
tells_all t u bound f same k = tells_same t u bound f (same f.part) (by f.part) k
  where
    placed : (c : Child) → IsPlaced t bound c → IsPlaced u bound c
    placed c (inl e) = inl e
    placed c (inr p) = inr (p.0, p.1, sym (same (part.Name p.0 p.1)) ∙ p.2, p.3)

    by : (p : Part) → Placed t u bound p
    by (part.Attr g) = λ c e p. placed c p
    by (part.Name d n) = tt
    by (part.List d) = tt
    by (part.Layout g) = tt
    by (part.Parent g) = tt
    by (part.Bytes g stripe extent) = tt

-- a life that leaves takes its opens with it: no name leads elsewhere
pub sound_forget : (t : Tree) (who : Who) (bound : ℕ) → IsSound t bound → IsSound (forget t who) bound
sound_forget t who bound h = h
