-- What a life was told of an object with two locks to read that it has agrees: while such a lock is granted nobody changes what lies under
-- it, not
-- over a crash either. So past the first position of both two locks to the end tell one size, and a byte that was told under one lies below
-- the size
-- that the other tells.
use Rattle.std.proofs.Common.{◌≡◌, ◌∙◌, ℕ, zero, suc, ◌+◌, ◌*◌, ◌<◌, ◌≤◌, Bool, true, false, List, [], ◌∷◌, Option, Some, None, ◌⊎◌, inl}
use Rattle.std.proofs.Common.{inr, ⊎_elim, refl, sym, subst, ap, arith}
use Rattle.std.specs.Prelude.{length, max, min, nat_lt, ◌++◌}
use Rattle.std.proofs.lemmas.Bool.{cond_both, eqb-true, leb-true, ltb-true, ltb-false}
use Rattle.lu_base.specs.declared.ids.Node.{Node}
use Rattle.lu_base.specs.declared.ids.Stamp.{Stamp}
use Rattle.lu_base.specs.declared.ids.Node.TheVariants.{Client, Target}
use Rattle.lu_base.specs.declared.locks.Extent.{Extent}
use Rattle.lu_base.specs.declared.locks.Lock.{Lock}
use Rattle.lu_base.specs.declared.locks.Resource.{Resource}
use Rattle.lu_base.specs.declared.ids.Cookie.{Cookie}
use Rattle.lu_held.specs.Locks.{same_resource}
use Rattle.lu_msg.specs.declared.answers.Answer.{Answer as TableAnswer}
use Rattle.lu_msg.specs.declared.messages.Reply.{Reply as ReplyTo}
use Rattle.lu_msg.specs.declared.operations.Op.{Op}
use Rattle.lu_base.specs.declared.locks.Mode.TheVariants.{PR}
use Rattle.lu_base.specs.declared.locks.Policy.{Policy}
use Rattle.lu_base.specs.declared.locks.Policy.TheVariants.{Range}
use Rattle.lu_lock.specs.Growth.{the_end}
use Rattle.lu_msg.specs.declared.answers.Answer.TheVariants as told
use Rattle.lu_msg.specs.declared.messages.GrantNotice.{GrantNotice}
use Rattle.lu_msg.specs.declared.messages.Message.TheVariants as message
use Rattle.lu_msg.specs.declared.operations.Op.TheVariants as op
use Rattle.lu_spec_client.specs.Bytes.{page_size}
use Rattle.lu_spec_client.specs.Caches.{granted_lock, brought}
use Rattle.lu_spec_client.specs.Messages.{part_first, part_count}
use Rattle.lu_spec_client.specs.Sending.{object_of}
use Rattle.lu_spec_target.specs.Queues.{extent_in, extent_of}
use Rattle.lu_spec_target.specs.Replies.{locks_on}
use Rattle.lu_proof_lawful.specs.Covered.TargetStates.{server_of}
use Rattle.lu_spec_entries.specs.Carried.{Deed}
use Rattle.lu_spec_entries.specs.Concerns.{concerns, only}
use Rattle.lu_spec_entries.specs.Words as word
use Rattle.lu_spec_entries.specs.Words.{Line, line}
use Rattle.lu_proof_lawful.specs.Covered.Heads.{Head, IsHead}
use Rattle.lu_proof_lawful.proofs.Preconditions.Grown.{Grown}
use Rattle.lu_proof_lawful.proofs.Preconditions.Acts.{acts_sized, sized_bare, sized_answer, range_op, range_answer, wait_answer}
use Rattle.lu_proof_lawful.proofs.Preconditions.Acts.{write_answer}
use Rattle.lu_proof_lawful.proofs.Preconditions.QueueLists.{resource_of, lock_of_in}
use Rattle.lu_proof_lawful.proofs.Preconditions.ClientLines.{some_is}
use Rattle.lu_proof_lawful.proofs.Preconditions.Guards.{In, Was}
use Rattle.lu_proof_lawful.proofs.Preconditions.Lists.{turn, in_filter}
use Rattle.lu_proof_lawful.proofs.Preconditions.StoryGuards.{EntryOf, TxnsOk, GrantsOk, AnswersOk, PageOk}
use Rattle.lu_proof_lawful.proofs.Invariants.Brings.{act_brings, txns_brings, answers_brings, range_brings, wait_brings}
use Rattle.lu_proof_lawful.proofs.Invariants.Lines.{DoneBy, acted_line, done_here}
use Rattle.lu_proof_lawful.proofs.Preconditions.Heeds.{AllHeed}
use Rattle.lu_proof_lawful.proofs.Preconditions.PinsFit.{PinsFit}
use Rattle.lu_proof_lawful.proofs.Preconditions.Speaks.{AllSpeak}
use Rattle.lu_proof_lawful.proofs.Invariants.Groups.{HoldsAt}
use Rattle.lu_proof_lawful.proofs.Invariants.TargetGroups.{Acted, Promoted, tells_wait, Gave, IsOver}
use Rattle.lu_proof_lawful.proofs.Invariants.All.{holds}
use Rattle.lu_proof_lawful.proofs.Invariants.ObjectAnswers.{acted_object}
use Rattle.lu_proof_bytes.specs.Object.Words as words
use Rattle.lu_proof_bytes.specs.Object.Words.{Entry}
use Rattle.lu_proof_bytes.specs.Object.Folds.{is_some}
use Rattle.lu_proof_lawful.specs.Projection.Lives.{number_of}
use Rattle.lu_proof_lawful.specs.Projection.Locks.{lock_of, range_of, given}
use Rattle.lu_proof_objects.specs.Points.{is_write, last_of}
use Rattle.lu_proof_lawful.specs.Projection.Requests.{op_of, op_on, get_under, among, answer_of, answer_by, bytes_from, top_from}
use Rattle.lu_proof_lawful.specs.Projection.Stories.{with_entry, served, size_in, acts, story}
use Rattle.lu_proof_lawful.proofs.Refinement.ClosedCommits.{committed_of}
use Rattle.lu_proof_lawful.proofs.Refinement.TargetLines.{given_by, own_story}
use Rattle.lu_proof_lawful.proofs.Refinement.TargetActs.{served_some, on_here}
use Rattle.lu_proof_lawful.proofs.Refinement.TargetDeeds.{asked_by}
use Rattle.lu_proof_lawful.proofs.Refinement.TiedTarget.{TargetBy}
use Rattle.lu_proof_lawful.proofs.Refinement.Place.{place}
use Rattle.lu_proof_lawful.proofs.Refinement.Placed.{acted_place}
use Rattle.lu_proof_lawful.proofs.Refinement.PointsKnown.{range_is, page_top}
use Rattle.lu_proof_lawful.proofs.Refinement.Stories.{story_tied}
use Rattle.lu_proof_lawful.proofs.Refinement.TellsStay.{Brought, Paged, EndsWith, given_brought, Matches}
use Rattle.lu_proof_lawful.proofs.Refinement.TellsPairs.{OneMore, one_more, Reads, all_pairs}

-- ---- what is told with a lock

-- how long its object is: as it is granted, or as its grant is told once it had waited
abbrev pub TellsSize : List Line → Lock → ℕ → Type 0
TellsSize past l n =
    ((d : Deed) × Acted past d × In l (brought d.op d.reply) × ((x : Extent) × (d.reply.answer ≡ told.Granted l.cookie x n)))
    ⊎ ((t c : ℕ) × (g : GrantNotice) × Was past (Target t) (Client c) (message.Grant g) × (g.cookie ≡ l.cookie) × (g.who ≡ l.ask.who)
    × (g.size ≡ n))

-- a byte of it, the last of a page that was read under it
abbrev pub TellsByte : List Line → Lock → ℕ → Type 0
TellsByte past l last =
    (d : Deed) × Acted past d × (d.reply.who ≡ l.ask.who) × ((page b : ℕ) × (bs : List ℕ) × (d.op ≡ op.Get l.resource l.cookie page)
    × (d.reply.answer ≡ told.Content (b ∷ bs)) × (last ≡ page * page_size + length bs))

-- a lock to read on a range of the object that was given at the target, and isn't over
pub record ToRead (head : Head) (t : ℕ) (past : List Line) (l : Lock) : Type 0 where
  pub deed : Deed
  pub gave : Gave (only t past) deed l
  pub there : IsOver (only t past) deed l → ⊥
  pub mode : l.ask.mode ≡ PR
  pub extent : Extent
  pub range : l.ask.policy ≡ Range extent

-- two of one life on one object, of which the second goes to the end
pub record TwoLocks (head : Head) (t : ℕ) (past : List Line) (l k : Lock) : Type 0 where
  pub one : ToRead head t past l
  pub other : ToRead head t past k
  pub same_life : l.ask.who ≡ k.ask.who
  pub same_object : l.resource ≡ k.resource
  pub ends : other.extent.last ≡ the_end

-- ---- in the story

-- what is told is in the story, once it is
abbrev Told : words.Lock → ℕ → List Entry → Type 0
Told m n h = (sn : ℕ → Bool) × Brought h m n sn

brought_more : (m : words.Lock) (n : ℕ) (h : List Entry) (x : Entry) → (sn : ℕ → Bool) × Brought h m n sn → (sn : ℕ → Bool)
    × Brought (x ∷ h) m n sn
brought_more m n h (words.Grant q k z seen) b = (b.0, inr b.1)
brought_more m n h (words.Send k) b = (b.0, inr b.1)
brought_more m n h _ b = b

paged_more : (c k last : ℕ) (h : List Entry) (x : Entry) → Paged h c k last → Paged (x ∷ h) c k last
paged_more c k last h (words.Acts q a) g = inr g
paged_more c k last h _ g = g

more_of : (to : ℕ) (h k : List Entry) (M : List Entry → Type 0) → ((x : Entry) → M h → M (x ∷ h)) → OneMore to h k → M h → M k
more_of to h k M more (inl e) m = subst M (sym e) m
more_of to h k M more (inr x) m = subst M (sym x.1) (more x.0 m)

none_in : (l : Lock) (ls : List Lock) → ls ≡ [] → In l ls → ⊥
none_in l ls e i = subst (λ (ks : List Lock). In l ks) e i

only_one : (l k : Lock) (ls : List Lock) → ls ≡ k ∷ [] → In l ls → k ≡ l
only_one l k ls e i = by (subst (λ (ks : List Lock). In l ks) e i)
  where
    by : In l (k ∷ []) → k ≡ l
    by (inl q) = q
    by (inr i) = absurd i

-- what is done in a line of the target itself is done there
record OwnLine (head : Head) (t : ℕ) (y : Line) (past : List Line) : Type 0 where
  stamp : Stamp
  is : y ≡ line (turn stamp (Target t)) y.entry
  of : EntryOf head (only t past) (turn stamp (Target t)) (Target t) y.entry

done_own : (head : Head) (t : ℕ) (y : Line) (past : List Line) (d : Deed) → Grown head (y ∷ past) → concerns t y.at.node y.entry ≡ true
    → DoneBy y.entry d → OwnLine head t y past
done_own head t y past d g on done =
    let k = done_here head past y.at.stamp y.at.node y.entry g.0.ok g.0.of g.0.owes d done in
    by y.at.node k.0 k.1 on (g.0.of t on) refl
  where
    by : (node : Node) (u : ℕ) → node ≡ Target u → concerns t node y.entry ≡ true
        → EntryOf head (only t past) (turn y.at.stamp node) node y.entry → y ≡ line (turn y.at.stamp node) y.entry → OwnLine head t y past
    by (Client c) u e on of is = absurd (cc)
    by (Target v) u e on of is =
        let same : v ≡ t = sym (eqb-true t v on) in
        record {
          stamp = y.at.stamp;
          is = is ∙ ap (λ (n : ℕ). line (turn y.at.stamp (Target n)) y.entry) same;
          of = subst (λ (n : ℕ). EntryOf head (only t past) (turn y.at.stamp (Target n)) (Target n) y.entry) same of;
        }

own_told : (head : Head) (P : List Line) (stamp : Stamp) (t : ℕ) (r : Resource) (h : List Entry) (e : word.Entry) → 0 < t
    → EntryOf head P (turn stamp (Target t)) (Target t) e → (d : Deed) (l : Lock) (x : Extent) (n : ℕ) → DoneBy e d
    → In l (brought d.op d.reply)
    → d.reply.answer ≡ told.Granted l.cookie x n → l.resource ≡ r → (sn : ℕ → Bool)
    × Brought (with_entry (given_by r h e) h) (lock_of l) n sn
own_told head P stamp t r h (word.Act y) high of d l x n done i is on =
    absurd (none_in l _ (act_brings head.osts P (turn stamp (Target t)) t y of
    ∙ sized_bare head.osts P (turn stamp (Target t)) y (acts_sized head.osts P (turn stamp (Target t)) t y high of))
    (subst (λ (z : Deed). In l (brought z.op z.reply)) (sym done) i))
own_told head P stamp t r h (word.Txn y) high of d l x n done i is on =
    absurd (none_in l _ (txns_brings head.osts P (turn stamp (Target t)) t y of)
    (subst (λ (z : Deed). In l (brought z.op z.reply)) (sym done) i))
own_told head P stamp t r h (word.Wait lock y) high of d l x n done i is on =
    absurd (none_in l _ (wait_brings head.osts P (turn stamp (Target t)) lock y of.1)
    (subst (λ (z : Deed). In l (brought z.op z.reply)) (sym done) i))
own_told head P stamp t r h (word.Answers y) high of d l x n done i is on =
    absurd (none_in l _ (answers_brings head.osts P (turn stamp (Target t)) t y of.1)
    (subst (λ (z : Deed). In l (brought z.op z.reply)) (sym done) i))
own_told head P stamp t r h (word.Grant lock None) high of d l x n done i is on = absurd (cc)
own_told head P stamp t r h (word.Grant lock (Some y)) high of d l x n done i is on = by of
  where
    same : y ≡ d
    same = some_is y d done

    by : GrantsOk head.osts P (turn stamp (Target t)) t lock y → (sn : ℕ → Bool)
        × Brought (with_entry (served r y h (λ q. words.Grant q (lock_of lock) (size_in y.reply.answer) (among y.reply.seen))) h)
        (lock_of l) n sn
    by (inl k) = absurd (let zero = k.0 in omega (arith, zero, high))
    by (inr k) =
        let ok = k.1 in
        let mine = only_one l lock _ (range_brings head.osts P (turn stamp (Target t)) lock y ok)
        (subst (λ (z : Deed). In l (brought z.op z.reply)) (sym same) i) in
        let o = words.Enqueue (is_write ok.mode) ok.extent.first (last_of ok.extent.last) in
        let there : ok.resource ≡ r = sym (ap (λ (z : Lock). z.resource) ok.of_lock) ∙ ap (λ (z : Lock). z.resource) mine ∙ on in
        let sized : size_in y.reply.answer ≡ n = ap size_in (ap (λ (z : Deed). z.reply.answer) same ∙ is) in (
          among y.reply.seen,
          subst (λ (k : List Entry). Brought k (lock_of l) n (among y.reply.seen))
              (sym (served_some r y h (λ q. words.Grant q (lock_of lock) (size_in y.reply.answer) (among y.reply.seen)) o
              (ap (op_of r h) (range_op head.osts P (turn stamp (Target t)) lock y ok) ∙ on_here r ok.resource o there)))
              (inl (ap lock_of mine, sized, refl)),
        )
own_told head P stamp t r h e high of d l x n done i is on = absurd done

-- the lock that a granted request brings comes with its size
brought_in : (head : Head) (t : ℕ) (r : Resource) (past : List Line) → 0 < t → Grown head past → (d : Deed) (l : Lock) (x : Extent) (n : ℕ)
    → Acted (only t past) d → In l (brought d.op d.reply) → d.reply.answer ≡ told.Granted l.cookie x n → l.resource ≡ r
    → (sn : ℕ → Bool) × Brought (story t r past) (lock_of l) n sn
brought_in head t r [] high g d l x n a i is on = absurd a
brought_in head t r (y ∷ past) high g d l x n a i is on =
    cond_both (concerns t y.at.node y.entry) (y ∷ only t past) (only t past)
    (λ (p : List Line). Acted p d → Told (lock_of l) n (story t r (y ∷ past)))
    (λ o b. ⊎_elim
    (λ (q : DoneBy y.entry d). now (done_own head t y past d g o q) q)
    (λ (b : Acted (only t past) d). earlier (brought_in head t r past high g.1 d l x n b i is on))
    (acted_line y.at y.entry (only t past) d b))
    (λ o b. earlier (brought_in head t r past high g.1 d l x n b i is on))
    a
  where
    earlier : Told (lock_of l) n (story t r past) → Told (lock_of l) n (story t r (y ∷ past))
    earlier b = more_of (committed_of head.osts (only t past)) (story t r past) (story t r (y ∷ past))
        (λ (h : List Entry). Told (lock_of l) n h) (λ x. brought_more (lock_of l) n (story t r past) x) (one_more head t r y past g) b

    now : OwnLine head t y past → DoneBy y.entry d → Told (lock_of l) n (story t r (y ∷ past))
    now k q =
        subst (λ (z : Line). Told (lock_of l) n (story t r (z ∷ past))) (sym k.is)
        (subst (λ (h : List Entry). Told (lock_of l) n h) (sym (own_story t r k.stamp y.entry past))
        (own_told head (only t past) k.stamp t r (story t r past) y.entry high k.of d l x n q i is on))

-- a page that is told under it is told so in the story
own_page : (head : Head) (P : List Line) (stamp : Stamp) (t : ℕ) (r : Resource) (h : List Entry) (e : word.Entry) → 0 < t
    → TargetBy head r P h → HoldsAt head P → EntryOf head P (turn stamp (Target t)) (Target t) e
    → (d : Deed) (l : Lock) (page b : ℕ) (bs : List ℕ) → DoneBy e d
    → d.reply.who ≡ l.ask.who → d.op ≡ op.Get l.resource l.cookie page → d.reply.answer ≡ told.Content (b ∷ bs) → l.resource ≡ r
    → Paged (with_entry (given_by r h e) h) (number_of l.ask.who) l.cookie.0 (page * page_size + length bs)
own_page head P stamp t r h (word.Answers y) high tied all of d l page b bs done who o is on = by of.1
  where
    same : y ≡ d
    same = done

    answer_is : y.reply.answer ≡ told.Content (b ∷ bs)
    answer_is = ap (λ (z : Deed). z.reply.answer) same ∙ is

    by : AnswersOk head.osts P (turn stamp (Target t)) t y → Paged (with_entry (acts r y h) h) (number_of l.ask.who) l.cookie.0
        (page * page_size + length bs)
    by (inr (inl ok)) = absurd (let z : told.Uncovered ≡ told.Content (b ∷ bs) = sym (ap (λ (z : Deed). z.reply.answer) ok.is) ∙ answer_is
        in cc)
    by (inr (inr (inl ok))) = absurd (let z : told.Lock ≡ told.Content (b ∷ bs) = sym (ap (λ (z : Deed). z.reply.answer) ok.is) ∙ answer_is
        in cc)
    by (inr (inr (inr (inl ok)))) = absurd (let z : told.Lock ≡ told.Content (b ∷ bs) = sym (ap (λ (z : Deed). z.reply.answer) ok.is)
        ∙ answer_is in cc)
    by (inr (inr (inr (inr ok)))) = absurd (let z : told.Size ok.size ≡ told.Content (b ∷ bs) =
        sym (ap (λ (z : Deed). z.reply.answer) ok.is) ∙ answer_is in cc)
    by (inl ok) =
        let asks : op.Get ok.resource ok.cookie ok.page ≡ op.Get l.resource l.cookie page = sym ok.of_op
        ∙ sym (ap (λ (z : Deed). z.op) ok.is) ∙ ap (λ (z : Deed). z.op) same ∙ o in
        let resource : ok.resource ≡ l.resource = cc in
        let cookie : ok.cookie ≡ l.cookie = cc in
        let number : ok.page ≡ page = cc in
        let found = lock_of_in ok.request.who ok.cookie (locks_on ok.resource (server_of head.osts P).granted) ok.holder ok.found in
        let among_all = in_filter (λ (k : Lock). same_resource k.resource ok.resource) ok.holder (server_of head.osts P).granted found.0 in
        let there : ok.holder.resource ≡ r = resource_of ok.holder.resource ok.resource among_all.1 ∙ resource ∙ on in
        let g = all.locks.granted ok.holder among_all.0 in
        let has : given l.cookie.0 h ≡ Some (lock_of ok.holder) = ap (λ (c : Cookie). given c.0 h) (sym cookie ∙ sym found.2)
        ∙ tied.gives g.0 ok.holder g.1 there in
        paged ok.holder has (some ok number)
      where
        some : (ok : PageOk head.osts P (turn stamp (Target t)) y) → ok.page ≡ page → 0 < part_count page (extent_of ok.holder)
        some ok e = let m = leb-true (max (extent_of ok.holder).first (ok.page * page_size))
            (min (extent_of ok.holder).last (ok.page * page_size + 4095)) ok.meets in omega (arith, m, e)

        paged : (k : Lock) → given l.cookie.0 h ≡ Some (lock_of k) → 0 < part_count page (extent_of k)
            → Paged (with_entry (acts r y h) h) (number_of l.ask.who) l.cookie.0 (page * page_size + length bs)
        paged k has some =
            let q = words.Get l.cookie.0 (part_first page (range_of (lock_of k))) (part_count page (range_of (lock_of k))) in
            let op_is : op_of r h y.op ≡ Some q =
            ap (op_of r h) (ap (λ (z : Deed). z.op) same ∙ o) ∙ ap
            (λ (v : Option words.Lock). op_on r l.resource (get_under l.cookie.0 page v)) has ∙ on_here r l.resource q on in
            subst (λ (s : List Entry). Paged s (number_of l.ask.who) l.cookie.0 (page * page_size + length bs))
            (sym (served_some r y h (λ x. words.Acts x (answer_of x y.reply)) q op_is))
            (inl (ap number_of (ap (λ (z : Deed). z.reply.who) same ∙ who), refl, ends))
          where
            ends : EndsWith (answer_of (asked_by y (words.Get l.cookie.0 (part_first page (range_of (lock_of k)))
                (part_count page (range_of (lock_of k))))) y.reply) (page * page_size + length bs)
            ends =
                subst (λ (a : TableAnswer). EndsWith (answer_by (number_of y.reply.who) y.reply
                (words.Get l.cookie.0 (part_first page (range_of (lock_of k))) (part_count page (range_of (lock_of k)))) a)
                (page * page_size + length bs)) (sym answer_is)
                (subst (λ (x : Extent). EndsWith (words.Content (bytes_from (part_first page x) (part_count page x) (b ∷ bs))
                (top_from (part_first page x) (b ∷ bs)) (among y.reply.seen)) (page * page_size + length bs))
                (sym (range_is k.cookie.0 (number_of k.ask.who) k.ask.mode (extent_of k)))
                (subst (λ (v : Option ℕ). EndsWith (words.Content
                (bytes_from (part_first page (extent_of k)) (part_count page (extent_of k)) (b ∷ bs)) v (among y.reply.seen))
                (page * page_size + length bs))
                (sym (page_top page (extent_of k) b bs some)) refl))
own_page head P stamp t r h (word.Act y) high tied all of d l page b bs done who o is on =
    absurd (let z : told.Size _ ≡ told.Content (b ∷ bs) = sym (sized_answer head.osts P (turn stamp (Target t)) y
    (acts_sized head.osts P (turn stamp (Target t)) t y high of)) ∙ ap (λ (z : Deed). z.reply.answer) done ∙ is in cc)
own_page head P stamp t r h (word.Txn y) high tied all of d l page b bs done who o is on = absurd (by of)
  where
    by : TxnsOk head.osts P (turn stamp (Target t)) t y → ⊥
    by (inl k) = let zero = k.0 in absurd (omega (arith, zero, high))
    by (inr k) = let z : told.Done ≡ told.Content (b ∷ bs) = sym (write_answer head.osts P (turn stamp (Target t)) y k.1)
        ∙ ap (λ (z : Deed). z.reply.answer) done ∙ is in absurd (cc)
own_page head P stamp t r h (word.Wait lock y) high tied all of d l page b bs done who o is on =
    absurd (let z : told.Waiting lock.cookie ≡ told.Content (b ∷ bs) = sym (wait_answer head.osts P (turn stamp (Target t)) lock y of.1)
    ∙ ap (λ (z : Deed). z.reply.answer) done ∙ is in cc)
own_page head P stamp t r h (word.Grant lock None) high tied all of d l page b bs done who o is on = absurd (cc)
own_page head P stamp t r h (word.Grant lock (Some y)) high tied all of d l page b bs done who o is on = absurd (by of)
  where
    by : GrantsOk head.osts P (turn stamp (Target t)) t lock y → ⊥
    by (inl k) = let zero = k.0 in absurd (omega (arith, zero, high))
    by (inr k) = let z : told.Granted lock.cookie _ _ ≡ told.Content (b ∷ bs) =
        sym (range_answer head.osts P (turn stamp (Target t)) lock y k.1) ∙ ap (λ (z : Deed). z.reply.answer) (some_is y d done) ∙ is
        in absurd (cc)
own_page head P stamp t r h e high tied all of d l page b bs done who o is on = absurd done

paged_in : (head : Head) → IsHead head → (t : ℕ) (r : Resource) (past : List Line) → 0 < t → t ≡ place head.osts r → Grown head past
    → PinsFit past → AllHeed past → AllSpeak past → (d : Deed) (l : Lock) (page b : ℕ) (bs : List ℕ) → Acted (only t past) d
    → d.reply.who ≡ l.ask.who → d.op ≡ op.Get l.resource l.cookie page → d.reply.answer ≡ told.Content (b ∷ bs) → l.resource ≡ r
    → Paged (story t r past) (number_of l.ask.who) l.cookie.0 (page * page_size + length bs)
paged_in head good t r [] high lies g fit heeds speaks d l page b bs a who o is on = absurd a
paged_in head good t r (y ∷ past) high lies g fit heeds speaks d l page b bs a who o is on =
    cond_both (concerns t y.at.node y.entry) (y ∷ only t past) (only t past)
    (λ (p : List Line). Acted p d → Paged (story t r (y ∷ past)) (number_of l.ask.who) l.cookie.0 (page * page_size + length bs))
    (λ c v. ⊎_elim
    (λ (q : DoneBy y.entry d). now (done_own head t y past d g c q) q)
    (λ (v : Acted (only t past) d). earlier (paged_in head good t r past high lies g.1 fit.1 heeds.1 speaks.1 d l page b bs v who o is on))
    (acted_line y.at y.entry (only t past) d v))
    (λ c v. earlier (paged_in head good t r past high lies g.1 fit.1 heeds.1 speaks.1 d l page b bs v who o is on))
    a
  where
    earlier : Paged (story t r past) (number_of l.ask.who) l.cookie.0 (page * page_size + length bs)
        → Paged (story t r (y ∷ past)) (number_of l.ask.who) l.cookie.0 (page * page_size + length bs)
    earlier v =
        more_of (committed_of head.osts (only t past)) (story t r past) (story t r (y ∷ past))
        (λ (h : List Entry). Paged h (number_of l.ask.who) l.cookie.0 (page * page_size + length bs))
        (λ x. paged_more (number_of l.ask.who) l.cookie.0 (page * page_size + length bs) (story t r past) x) (one_more head t r y past g) v

    now : OwnLine head t y past → DoneBy y.entry d → Paged (story t r (y ∷ past)) (number_of l.ask.who) l.cookie.0
        (page * page_size + length bs)
    now k q =
        subst (λ (z : Line). Paged (story t r (z ∷ past)) (number_of l.ask.who) l.cookie.0 (page * page_size + length bs)) (sym k.is)
        (subst (λ (h : List Entry). Paged h (number_of l.ask.who) l.cookie.0 (page * page_size + length bs))
        (sym (own_story t r k.stamp y.entry past))
        (own_page head (only t past) k.stamp t r (story t r past) y.entry high
        (story_tied head good past g.1 fit.1 heeds.1 speaks.1 t r high lies).target ((holds head past g.1).at t) k.of d l page b bs q
        who o is on))

-- ---- they agree

-- a lock was given for a request on its object
gave_on : (head : Head) (past : List Line) (t : ℕ) → 0 < t → Grown head past → (d : Deed) (l : Lock) → Gave (only t past) d l
    → object_of d.op ≡ Some l.resource
gave_on head past t high g d l gave = ⊎_elim
    (λ (i : In l (brought d.op d.reply)). by d.op d.reply (acted_object head past t d high g gave.0).bare i)
    (λ (p : Promoted (only t past) l × (tells_wait d.op d.reply.answer l.cookie.0 ≡ true)).
    let f = (holds head past g).at t in
    let k = f.locks.promoted l p.0 in
    let same = (f.locks.once k.0 d l l k.1 gave refl).0 in
    ap (λ (x : Deed). object_of x.op) (sym same) ∙ ap object_of k.3.1)
    gave.1
  where
    by : (o : Op) (p : ReplyTo) → p.locks ≡ [] → In l (brought o p) → object_of o ≡ Some l.resource
    by o p bare i = granted o p.answer (subst (λ (ls : List Lock). In l (ls ++ granted_lock o p p.answer)) bare i)
      where
        granted : (o : Op) (a : TableAnswer) → In l (granted_lock o p a) → object_of o ≡ Some l.resource
        granted (op.Enqueue resource mode asked) (told.Granted cookie extent size) (inl e) = ap (λ (k : Lock). Some k.resource) e
        granted (op.Enqueue resource mode asked) (told.Granted cookie extent size) (inr i) = absurd i
        granted o a i = absurd i

-- the story has what was told of the lock
size_in_story : (head : Head) → IsHead head → (past : List Line) (t : ℕ) → 0 < t → (r : Resource) → t ≡ place head.osts r → Grown head past
    → PinsFit past → AllHeed past → AllSpeak past → (d : Deed) (l : Lock) → Gave (only t past) d l → l.resource ≡ r → (n : ℕ)
    → TellsSize (only t past) l n
    → (sn : ℕ → Bool) × Brought (story t r past) (lock_of l) n sn
size_in_story head good past t high r lies g fit heeds speaks d l gave on n (inl k) =
    brought_in head t r past high g k.0 l k.3.0 n k.1 k.2 k.3.1 on
size_in_story head good past t high r lies g fit heeds speaks d l gave on n (inr k) =
    let tied = story_tied head good past g fit heeds speaks t r high lies in
    let notice = k.2 in
    let has : given notice.cookie.0 (story t r past) ≡ Some (lock_of l) = ap (λ (c : Cookie). given c.0 (story t r past)) k.4
    ∙ tied.target.gives d l gave on in (
      among notice.seen,
      subst (λ (z : ℕ). Brought (story t r past) (lock_of l) z (among notice.seen)) k.6
          (given_brought (story t r past) notice.boot (lock_of l) notice.size (among notice.seen)
          (tied.object.gives (Target k.0) (Client k.1) notice (lock_of l) k.3 has)),
    )

reads_as : (head : Head) (t : ℕ) (past : List Line) (l : Lock) (k : ToRead head t past l) (r : Resource) → l.resource ≡ r
    → Reads r (only t past) k.deed l
reads_as head t past l k r on = record { gave = k.gave; on = on; mode = k.mode; there = k.there }

first_is : (l : Lock) (x : Extent) → l.ask.policy ≡ Range x → (lock_of l).first ≡ x.first
first_is l x e = ap (λ (p : Policy). (extent_in p).first) e

last_is : (l : Lock) (x : Extent) → l.ask.policy ≡ Range x → x.last ≡ the_end → (lock_of l).last ≡ None
last_is l x e ends = ap (λ (p : Policy). last_of (extent_in p).last) e ∙ ap last_of ends

-- two sizes that go with the same bytes don't differ past the first position of both
ordered : (b : ℕ → Option ℕ) (h : List Entry) (l k : words.Lock) (n m : ℕ) (sn tn : ℕ → Bool) → Matches b h l → Matches b h k
    → Brought h l n sn → Brought h k m tn → l.last ≡ None → k.last ≡ None → (p : ℕ) → l.first ≤ p → k.first ≤ p → p < n → m ≤ p → ⊥
ordered b h l k n m sn tn one other i j l_ends k_ends p low from under over =
    by n refl under
  where
    by : (z : ℕ) → n ≡ z → p < z → ⊥
    by zero e lt = absurd (omega (arith, lt))
    by (suc q) e lt =
        let some = one.some n sn i l_ends q (omega (arith, low, lt)) (sym e) in
        let none = other.none m tn j k_ends q (omega (arith, from, lt)) (omega (arith, over, lt)) in
        absurd (let z : is_some None ≡ true = ap is_some (sym none) ∙ some in cc)

pub sizes_agree : (head : Head) → IsHead head → (past : List Line) (t : ℕ) → 0 < t → Grown head past → PinsFit past → AllHeed past
    → AllSpeak past → (l k : Lock) → (b : TwoLocks head t past l k) → b.one.extent.last ≡ the_end → (n m : ℕ) → TellsSize (only t past) l n
    → TellsSize (only t past) k m
    → (p : ℕ) → b.one.extent.first ≤ p → b.other.extent.first ≤ p → nat_lt p n ≡ nat_lt p m
sizes_agree head good past t high g fit heeds speaks l k b ends n m tells says p low from = by (nat_lt p n) (nat_lt p m) refl refl
  where
    r : Resource
    r = l.resource

    lies : t ≡ place head.osts r
    lies = acted_place head past t b.one.deed r g fit b.one.gave.0 (gave_on head past t high g b.one.deed l b.one.gave)

    pair : (c : ℕ → Option ℕ) × Matches c (story t r past) (lock_of l) × Matches c (story t r past) (lock_of k)
    pair = all_pairs head good past g fit heeds speaks t r high lies b.one.deed b.other.deed l k (reads_as head t past l b.one r refl)
        (reads_as head t past k b.other r (sym b.same_object)) b.same_life

    one : (sn : ℕ → Bool) × Brought (story t r past) (lock_of l) n sn
    one = size_in_story head good past t high r lies g fit heeds speaks b.one.deed l b.one.gave refl n tells

    other : (sn : ℕ → Bool) × Brought (story t r past) (lock_of k) m sn
    other = size_in_story head good past t high r lies g fit heeds speaks b.other.deed k b.other.gave (sym b.same_object) m says

    by : (v w : Bool) → nat_lt p n ≡ v → nat_lt p m ≡ w → v ≡ w
    by true true e f = refl
    by false false e f = refl
    by true false e f =
        absurd (ordered pair.0 (story t r past) (lock_of l) (lock_of k) n m one.0 other.0 pair.1 pair.2 one.1 other.1
        (last_is l b.one.extent b.one.range ends) (last_is k b.other.extent b.other.range b.ends) p
        (subst (λ (z : ℕ). z ≤ p) (sym (first_is l b.one.extent b.one.range)) low)
        (subst (λ (z : ℕ). z ≤ p) (sym (first_is k b.other.extent b.other.range)) from) (ltb-true p n e) (ltb-false p m f))
    by false true e f =
        absurd (ordered pair.0 (story t r past) (lock_of k) (lock_of l) m n other.0 one.0 pair.2 pair.1 other.1 one.1
        (last_is k b.other.extent b.other.range b.ends) (last_is l b.one.extent b.one.range ends) p
        (subst (λ (z : ℕ). z ≤ p) (sym (first_is k b.other.extent b.other.range)) from)
        (subst (λ (z : ℕ). z ≤ p) (sym (first_is l b.one.extent b.one.range)) low) (ltb-true p m f) (ltb-false p n e))

pub byte_below : (head : Head) → IsHead head → (past : List Line) (t : ℕ) → 0 < t → Grown head past → PinsFit past → AllHeed past
    → AllSpeak past → (l k : Lock) → (b : TwoLocks head t past l k) → (last m : ℕ) → TellsByte (only t past) l last
    → TellsSize (only t past) k m → b.other.extent.first ≤ last → last < m
byte_below head good past t high g fit heeds speaks l k b last m tells says from = by (nat_lt last m) refl
  where
    r : Resource
    r = l.resource

    lies : t ≡ place head.osts r
    lies = acted_place head past t b.one.deed r g fit b.one.gave.0 (gave_on head past t high g b.one.deed l b.one.gave)

    pair : (c : ℕ → Option ℕ) × Matches c (story t r past) (lock_of l) × Matches c (story t r past) (lock_of k)
    pair = all_pairs head good past g fit heeds speaks t r high lies b.one.deed b.other.deed l k (reads_as head t past l b.one r refl)
        (reads_as head t past k b.other r (sym b.same_object)) b.same_life

    there : is_some (pair.0 last) ≡ true
    there =
        let page = paged_in head good t r past high lies g fit heeds speaks tells.0 l tells.3.0 tells.3.1 tells.3.2 tells.1 tells.2
        tells.3.3 tells.3.4 refl in
        (pair.1.page last (subst (λ (z : ℕ). Paged (story t r past) (number_of l.ask.who) l.cookie.0 z) (sym tells.3.5) page)).1

    other : (sn : ℕ → Bool) × Brought (story t r past) (lock_of k) m sn
    other = size_in_story head good past t high r lies g fit heeds speaks b.other.deed k b.other.gave (sym b.same_object) m says

    by : (v : Bool) → nat_lt last m ≡ v → last < m
    by true e = ltb-true last m e
    by false e =
        let none = pair.2.none m other.0 other.1 (last_is k b.other.extent b.other.range b.ends) last
        (subst (λ (z : ℕ). z ≤ last) (sym (first_is k b.other.extent b.other.range)) from) (ltb-false last m e) in
        absurd (let z : is_some None ≡ true = ap is_some (sym none) ∙ there in cc)
