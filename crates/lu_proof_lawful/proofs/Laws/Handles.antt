-- Handles by the laws: what a handle is bound to is the file that it has by the lines, but in a turn that ends a life; so a call is on a
-- bad
-- handle by the laws where it began as one, and what it is for the metadata target is what it becomes.
use Rattle.std.proofs.Common.{◌≡◌, ℕ, ◌+◌, ◌<◌, ◌≤◌, Bool, true, false, List, [], ◌∷◌, Option, Some, None, ◌⊎◌, inl, inr, ⊎_elim, refl, sym}
use Rattle.std.proofs.Common.{subst, ap, ◌∙◌, arith}
use Rattle.std.specs.Prelude.{nat_eq, not, ◌&&◌, ◌||◌, if◌then◌else◌, is_some}
use Rattle.std.specs.Option.{option_map}
use Rattle.std.proofs.lemmas.Bool.{cond_both, and_parts, eqb-true}
use Rattle.std.proofs.lemmas.Bool.Decides.{nat_tests}
use Rattle.lu_base.specs.declared.ids.At.{At}
use Rattle.lu_base.specs.declared.ids.Fid.{Fid}
use Rattle.lu_base.specs.declared.ids.Node.{Node}
use Rattle.lu_base.specs.declared.ids.Node.TheVariants.{Client, Target}
use Rattle.lu_base.specs.declared.ids.Stamp.{Stamp}
use Rattle.lu_base.specs.declared.ids.Txn.{Txn as TxnOf}
use Rattle.lu_base.specs.declared.ids.Who.{Who}
use Rattle.lu_msg.specs.declared.answers.Answer.{Answer}
use Rattle.lu_msg.specs.declared.answers.Answer.TheVariants as told
use Rattle.lu_msg.specs.declared.answers.Errno.TheVariants.{EBADF}
use Rattle.lu_msg.specs.declared.calls.Call.{Call}
use Rattle.lu_msg.specs.declared.calls.Call.TheVariants as call
use Rattle.lu_msg.specs.declared.messages.Reply.{Reply as ReplyTo}
use Rattle.lu_held.specs.declared.names.LockName.{LockName}
use Rattle.lu_msg.specs.declared.operations.Op.{Op}
use Rattle.lu_msg.specs.declared.operations.Op.TheVariants as op
use Rattle.lu_trace.specs.declared.entries.Entry.{Entry as PrintedEntry}
use Rattle.lu_trace.specs.declared.entries.Entry.TheVariants as trace
use Rattle.lu_spec_machine.specs.Fits.{answer_fits}
use Rattle.lu_spec_machine.specs.Tree.{same_life}
use Rattle.lu_spec_entries.specs.Carried.{Deed, HandleFile, Asking, Unasked, Stage, Plain, Bad, Work, Running}
use Rattle.lu_spec_entries.specs.Words.{Entry, Begin, Told, Life, Act, Txn as Made, Grant, Wait, Answers as Responds, Line, line}
use Rattle.lu_spec_entries.specs.Concerns.{only}
use Rattle.lu_spec_entries.specs.Printed.{printed}
use Rattle.lu_spec_client.specs.Slots as slots
use Rattle.lu_proof_lawful.specs.Covered.Calls.{call_at, life_at, operation_of, becomes, told_as, opened_by, opened, binds, told_file}
use Rattle.lu_proof_lawful.specs.Covered.Calls.{begun_file, file_at, file_for, is_opening, is_bad}
use Rattle.lu_proof_lawful.specs.Covered.Runs.{IsOnBytes}
use Rattle.lu_proof_lawful.specs.Covered.Known.{notes_at, known_answer}
use Rattle.lu_proof_lawful.specs.Covered.Heads.{Head}
use Rattle.lu_spec_laws.specs.Words.Lives.{life, is_by}
use Rattle.lu_spec_laws.specs.Words.Pasts as pasts
use Rattle.lu_spec_laws.specs.Words.Pasts.{or_else}
use Rattle.lu_spec_laws.specs.Words.Calls as calls
use Rattle.lu_spec_laws.specs.Words.Calls.{Binding, bound, binding, told_binding, begun_binding, number_in, number_heard, heard_in}
use Rattle.lu_spec_laws.specs.Words.Calls.{open_call, operation}
use Rattle.lu_proof_lawful.proofs.Preconditions.Guards.{JustHeard, WritesOn, CutsOn, Later, Ending, Closes, Begins, LifeOk, ToldOk, EntryOk}
use Rattle.lu_proof_lawful.proofs.Preconditions.Grown.{Allowed, Grown}
use Rattle.lu_proof_lawful.proofs.Preconditions.Lists.{self, life_is}
use Rattle.lu_proof_lawful.proofs.Invariants.Groups.{turn}
use Rattle.lu_proof_lawful.proofs.Invariants.TargetGroups.{Acted}
use Rattle.lu_proof_lawful.proofs.Invariants.All.{holds}
use Rattle.lu_proof_lawful.proofs.Preconditions.Calls.{bad_unasked}
use Rattle.lu_proof_lawful.proofs.Preconditions.Endings.{noticed_more, ending_more, later_ends}
use Rattle.lu_proof_lawful.proofs.Invariants.Refused.{acted_answered}
use Rattle.lu_proof_lawful.proofs.Invariants.Transactions.{opened_number}
use Rattle.lu_proof_lawful.proofs.Laws.Turns.{same_turn_is}
use Rattle.lu_proof_lawful.proofs.Laws.Printed.{flip, its_client, life_number, present_is, OfBoth, both_calls, calls_are}
use Rattle.lu_proof_lawful.proofs.Laws.Hearing.{just_heard}
use Rattle.lu_proof_lawful.proofs.Invariants.GrantLines.{made_before}
use Rattle.lu_proof_lawful.proofs.Laws.ActsLaw.{own_line}
use Rattle.lu_proof_lawful.proofs.Laws.Deeds.{act_for}
use Rattle.lu_proof_lawful.proofs.Laws.Once.{txn_now}
use Rattle.lu_proof_lawful.proofs.Invariants.Lines.{acted_whole}
use Rattle.lu_proof_lawful.proofs.Invariants.ObjectDeeds.{told_number, wait_told, answers_told}
use Rattle.lu_proof_lawful.proofs.Invariants.Sides.{first_at}
use Rattle.lu_proof_lawful.proofs.Invariants.ToldFiles.{plain_first}
use Rattle.lu_proof_lawful.proofs.Preconditions.ClientHandles.{none_there}

-- ---- a life that hasn't begun has no handles

pub and_true : (b : Bool) → (b && true) ≡ b
and_true true = refl
and_true false = refl

-- a client's present life has the lines that are at the client
present_by : (head : Head) (c d : ℕ) (past : List Line) → Grown head past → is_by (life_at c past) (printed past) (Client d) ≡ nat_eq c d
present_by head c d past g =
    let w = life_at c past in
    ap (λ (v : ℕ). nat_eq d v && nat_eq (life v (printed past)) w.life) (its_client head c past g)
    ∙ ap (λ (v : ℕ). nat_eq d c && nat_eq v w.life) (life_number c past)
    ∙ ap (λ (b : Bool). nat_eq d c && b) (self w.life)
    ∙ and_true (nat_eq d c) ∙ flip d c

pub rises : (c d : ℕ) (w : Who) (past : List Line) (at : At) → LifeOk past at d w → nat_eq d c ≡ true → life c (printed past) < w.life
rises c d w past at ok own =
    let here : (life_at d past).life ≡ life c (printed past) = ap (λ (v : ℕ). (life_at v past).life) (eqb-true d c own)
    ∙ sym (life_number c past) in
    let next : w.life ≡ (life_at d past).life + 1 = ap (λ (v : Who). v.life) ok.next in
    omega arith

module _ (head : Head) (who : Who) (h : ℕ) where
  not_yet : (past : List Line) (b : Bool) (new old : Option Binding) → life who.client (printed past) < who.life → old ≡ None
      → (if b && nat_eq (life who.client (printed past)) who.life then new else old) ≡ None
  not_yet past b new old lt is =
      let off : nat_eq (life who.client (printed past)) who.life ≡ false = grind (arith, nat_tests, lt) in
      by b (nat_eq (life who.client (printed past)) who.life) off
    where
      by : (b v : Bool) → v ≡ false → (if b && v then new else old) ≡ None
      by true v e = ap (λ (x : Bool). if x then new else old) e ∙ is
      by false v e = is

  unbound : (past : List Line) → Grown head past → life who.client (printed past) < who.life → binding who h (printed past) ≡ None
  unbound [] g lt = refl
  unbound (l ∷ past) g lt = by l.at.node l.entry g.0.ok lt (λ less. unbound past g.1 less)
    where
      by : (node : Node) (e : Entry) → EntryOk past (turn l.at.stamp node) node e
          → life who.client (printed (line (turn l.at.stamp node) e ∷ past)) < who.life
          → (life who.client (printed past) < who.life → binding who h (printed past) ≡ None)
          → binding who h (printed (line (turn l.at.stamp node) e ∷ past)) ≡ None
      by (Client d) (Life w) ok lt ih =
          cond_both (nat_eq d who.client) w.life (life who.client (printed past))
          (λ (v : ℕ). v < who.life → binding who h (printed past) ≡ None)
          (λ t less. let up = rises who.client d w past (turn l.at.stamp (Client d)) ok t in ih (omega arith))
          (λ t less. ih less) lt
      by (Client d) (Begin s running) ok lt ih = not_yet past (nat_eq d who.client) _ _ lt (ih lt)
      by (Client d) (Told s named given work) ok lt ih = not_yet past (nat_eq d who.client) _ _ lt (ih lt)
      by (Target t) (Life w) ok lt ih = absurd ok
      by (Target t) (Begin s running) ok lt ih = absurd ok
      by (Target t) (Told s named given work) ok lt ih = absurd ok
      by _ _ ok lt ih = ih lt

-- ---- what a handle is bound to

abbrev pub as_bound : Option HandleFile → Option Binding
as_bound None = None
as_bound (Some f) = Some (record { fid = f.fid; number = Some f.number })

begin_bound : (h : ℕ) (x : Call) (b : Option Binding) (f : Option HandleFile) → b ≡ as_bound f → begun_binding h x b
    ≡ as_bound (begun_file h x f)
begin_bound h (call.Close other) b f e = by (nat_eq other h)
  where
    by : (t : Bool) → (if t then None else b) ≡ as_bound (if t then None else f)
    by true = refl
    by false = e
begin_bound h x b f e = e

-- a transaction's number by the laws: that of its turn, life and request number
number_is : (head : Head) (past : List Line) (d : Deed) → Grown head past → Acted past d → d.reply.at.node ≡ Target 0 → 1 ≤ d.reply.txn.0
    → number_in (printed past) d.reply.at d.reply.who d.reply.xid.0 ≡ Some d.reply.txn
number_is head [] d g a first high = absurd a
number_is head (l ∷ past) d g a first high = by l.at.node l.entry g.0 a (λ i. number_is head past d g.1 i first high)
  where
    at_once : (b : Bool) (n : TxnOf) (old : Option TxnOf) → b ≡ true → or_else (if b then Some n else None) old ≡ Some n
    at_once true n old e = refl
    at_once false n old e = absurd (cc)

    before : (b : Bool) (n : TxnOf) (old : Option TxnOf) (v : Option TxnOf) → (b ≡ true → ⊥) → old ≡ v
        → or_else (if b then Some n else None) old ≡ v
    before true n old v never e = absurd (never refl)
    before false n old v never e = e

    by : (node : Node) (x : Entry) → Allowed head past (turn l.at.stamp node) x → Acted (line (turn l.at.stamp node) x ∷ past) d
        → (Acted past d → number_in (printed past) d.reply.at d.reply.who d.reply.xid.0 ≡ Some d.reply.txn)
        → number_in (printed (line (turn l.at.stamp node) x ∷ past)) d.reply.at d.reply.who d.reply.xid.0 ≡ Some d.reply.txn
    by (Client c) (Act e) k a h = absurd k.ok
    by (Client c) (Made e) k a h = absurd k.ok
    by (Target t) (Act e) k (inl same) h =
        let none : e.reply.txn.0 ≡ 0 = ap (λ (v : TxnOf). v.0) (act_for head past l.at.stamp t e k).number in
        let zero : d.reply.txn.0 ≡ 0 = ap (λ (v : Deed). v.reply.txn.0) (sym same) ∙ none in
        absurd (omega (arith, high, zero))
    by (Target t) (Act e) k (inr i) h = h i
    by (Target t) (Made e) k (inl same) h =
        let now = txn_now head past l.at.stamp (Target t) e k g.1 in
        subst (λ (v : Deed). number_in (printed (line (turn l.at.stamp (Target t)) (Made e) ∷ past)) v.reply.at v.reply.who v.reply.xid.0
        ≡ Some v.reply.txn) same
        (at_once (pasts.is_target 0 (Target t) && pasts.same_turn (turn l.at.stamp (Target t)) e.reply.at
        && same_life e.reply.who e.reply.who && nat_eq e.reply.xid.0 e.reply.xid.0) e.reply.txn
        (number_in (printed past) e.reply.at e.reply.who e.reply.xid.0)
        (own_line (turn l.at.stamp (Target t)) e.reply.at e.reply.who e.reply.xid.0 (sym now.turn)
        (ap (λ (v : At). v.node) (sym now.turn) ∙ ap (λ (v : Deed). v.reply.at.node) same ∙ first)))
    by (Target t) (Made e) k (inr i) h =
        let now = txn_now head past l.at.stamp (Target t) e k g.1 in
        before (pasts.is_target 0 (Target t) && pasts.same_turn (turn l.at.stamp (Target t)) d.reply.at && same_life e.reply.who d.reply.who
        && nat_eq e.reply.xid.0 d.reply.xid.0) e.reply.txn (number_in (printed past) d.reply.at d.reply.who d.reply.xid.0)
        (Some d.reply.txn)
        (λ same.
        let p = and_parts (pasts.is_target 0 (Target t) && pasts.same_turn (turn l.at.stamp (Target t)) d.reply.at
        && same_life e.reply.who d.reply.who) (nat_eq e.reply.xid.0 d.reply.xid.0) same in
        let q = and_parts (pasts.is_target 0 (Target t) && pasts.same_turn (turn l.at.stamp (Target t)) d.reply.at)
        (same_life e.reply.who d.reply.who) p.0 in
        let r = and_parts (pasts.is_target 0 (Target t)) (pasts.same_turn (turn l.at.stamp (Target t)) d.reply.at) q.0 in
        now.now d i (sym (same_turn_is (turn l.at.stamp (Target t)) d.reply.at r.1)) (sym (life_is e.reply.who d.reply.who q.1))
        (sym (eqb-true e.reply.xid.0 d.reply.xid.0 p.1)))
        (h i)
    by node (Grant lock asked) k (inl q) h = h (made_before head past l.at.stamp node lock asked d k q high)
    by node (Grant lock asked) k (inr i) h = h i
    by (Client c) (Wait lock e) k a h = absurd k.ok
    by (Target t) (Wait lock e) k (inl same) h =
        let none = told_number head.osts (only t past) e (wait_told head.osts (only t past) (turn l.at.stamp (Target t)) lock e
        (k.of t (self t)).1) in
        absurd (let zero : d.reply.txn.0 ≡ e.reply.txn.0 = ap (λ (v : Deed). v.reply.txn.0) (sym same) in omega (arith, high, zero, none))
    by (Target t) (Wait lock e) k (inr i) h = h i
    by (Client c) (Responds e) k a h = absurd k.ok
    by (Target t) (Responds e) k (inl same) h =
        let none = told_number head.osts (only t past) e (answers_told head.osts (only t past) (turn l.at.stamp (Target t)) t e
        (k.of t (self t)).1) in
        absurd (let zero : d.reply.txn.0 ≡ e.reply.txn.0 = ap (λ (v : Deed). v.reply.txn.0) (sym same) in omega (arith, high, zero, none))
    by (Target t) (Responds e) k (inr i) h = h i
    by _ _ k a h = h a

-- an open that is told ok binds its handle to the file of the reply
module _ (head : Head) (c : ℕ) (past : List Line) (stamp : Stamp) (g : Grown head past) where
  abbrev at : At
  at = turn stamp (Client c)

  abbrev number_of : At → Option TxnOf
  number_of named = number_heard (printed past) named (life_at c past) (heard_in (printed past) at)

  -- the number of the answer is that of the transaction
  its_number : (slot other : ℕ) (path : List (List ℕ)) (named : At) (given : Answer) (work : Option Work)
      (ok : ToldOk past at c slot named given work) (f : HandleFile) → ok.running.call ≡ call.Open other path → ok.reply.answer
      ≡ told.OpenFile f.fid f.number f.layout
      → number_of named ≡ Some f.number
  its_number slot other path named given work ok f is says =
      let replied = (holds head past g).replies c slot ok.target ok.running ok.reply ok.call ok.answered in
      let d = replied.deed in
      let meta = (plain_first ok.running ok.target d.op replied.op ok.good).0 in
      let just = subst (λ (t : ℕ). JustHeard past at t ok.reply) meta ok.heard in
      let acted = acted_whole ok.target past d replied.acted in
      let answered : d.reply.answer ≡ told.OpenFile f.fid f.number f.layout = ap (λ (v : ReplyTo). v.answer) replied.is ∙ says in
      let made = opened_number head past d f.fid f.number f.layout g acted answered in
      let x : ok.reply.xid.0 ≡ d.reply.xid.0 = ap (λ (v : ReplyTo). v.xid.0) (sym replied.is) in
      let heard = just_heard head past at c ok.reply g refl just ∙ ap (λ (v : ℕ). Some v) x in
      let who : d.reply.who ≡ life_at c past = ap (λ (v : ReplyTo). v.who) replied.is ∙ replied.client in
      let when : d.reply.at ≡ named = ap (λ (v : ReplyTo). v.at) replied.is ∙ sym ok.of_turn in
      ap (λ (o : Option ℕ). number_heard (printed past) named (life_at c past) o) heard
      ∙ ap (λ (v : At). calls.number_in (printed past) v (life_at c past) d.reply.xid.0) (sym when)
      ∙ ap (λ (v : Who). calls.number_in (printed past) d.reply.at v d.reply.xid.0) (sym who)
      ∙ number_is head past d g acted (first_at head past d g (subst (λ (t : ℕ). Acted (only t past) d) meta replied.acted)) made.1
      ∙ ap (λ (v : TxnOf). Some v) (sym made.0)

  -- an open isn't answered as what makes a file is
  no_made : (slot other : ℕ) (path : List (List ℕ)) (named : At) (given : Answer) (work : Option Work)
      (ok : ToldOk past at c slot named given work) (f : Fid) → ok.running.call ≡ call.Open other path → ok.reply.answer ≡ told.Made f → ⊥
  no_made slot other path named given work ok f is says =
      let replied = (holds head past g).replies c slot ok.target ok.running ok.reply ok.call ok.answered in
      let d = replied.deed in
      let fits = (acted_answered head past d g (acted_whole ok.target past d replied.acted)).0 in
      let becomes_it : Some (op.Open path) ≡ Some d.op = ap (λ (v : Call). operation_of ok.running.file v) (sym is)
      ∙ (plain_first ok.running ok.target d.op replied.op ok.good).1 in
      let asks_it : d.op ≡ op.Open path = cc in
      let answered : d.reply.answer ≡ told.Made f = ap (λ (v : ReplyTo). v.answer) replied.is ∙ says in
      let both : answer_fits (op.Open path) (told.Made f) ≡ true = ap (λ (v : Op). answer_fits v (told.Made f)) (sym asks_it)
      ∙ ap (λ (v : Answer). answer_fits d.op v) (sym answered) ∙ fits in
      absurd (cc)

  module _ (slot : ℕ) (named : At) (given : Answer) (work : Option Work) (old : Option Binding) (file : Option HandleFile)
      (same : old ≡ as_bound file) where
    -- what an open that is told makes of its handle
    abbrev Opens : Asking → Type 0
    Opens asking = bound given (number_of named) old ≡ as_bound (binds (opened asking) file)

    told_open : (other : ℕ) (path : List (List ℕ)) (ok : ToldOk past at c slot named given work) → ok.running.call ≡ call.Open other path
        → Opens ok.running.asking
    told_open other path ok is = subst Opens (sym ok.answered) (by ok.reply.answer refl
        (ok.of_answer ∙ ap (λ (v : Call). told_as v ok.reply.answer) is))
      where
        bound_as : (fid : Fid) (number : TxnOf) → number_of named ≡ Some number → given ≡ told.Made fid → bound given (number_of named) old
            ≡ Some (record { fid = fid; number = Some number })
        bound_as fid number n e = ap (λ (v : Answer). bound v (number_of named) old) e ∙ ap (λ (v : Option TxnOf). bound_to v fid) n
          where
            bound_to : Option TxnOf → Fid → Option Binding
            bound_to v fid = Some (record { fid = fid; number = v })

        by : (a : Answer) → ok.reply.answer ≡ a → given ≡ told_as (call.Open other path) a → bound given (number_of named) old
            ≡ as_bound (binds (opened_by a) file)
        by (told.OpenFile fid number layout) says e = bound_as fid number
            (its_number slot other path named given work ok (record { fid = fid; number = number; layout = layout }) is says) e
        by (told.Made fid) says e = absurd (no_made slot other path named given work ok fid is says)
        by a says e = ap (λ (v : Answer). bound v (number_of named) old) e ∙ same

    -- a call that is no open of it leaves it as it is
    told_call : (h : ℕ) (r : Running) → ((other : ℕ) (path : List (List ℕ)) → r.call ≡ call.Open other path → Opens r.asking)
        → told_binding h (Some r.call) given (number_of named) old ≡ as_bound (told_file h (Some r) file)
    told_call h r opens = by r.call opens
      where
        by : (x : Call) → ((other : ℕ) (path : List (List ℕ)) → x ≡ call.Open other path → Opens r.asking)
            → told_binding h (Some x) given (number_of named) old
            ≡ as_bound (elim x [ call.Open other path ↦ if nat_eq other h then binds (opened r.asking) file else file | _ ↦ file ])
        by (call.Open other path) opens = if_opens (nat_eq other h)
          where
            if_opens : (b : Bool) → (if b then bound given (number_of named) old else old)
                ≡ as_bound (if b then binds (opened r.asking) file else file)
            if_opens true = opens other path refl
            if_opens false = same
        by _ opens = same

-- ---- it is the file that it has, but in a turn that ends a life

module _ (head : Head) (c h : ℕ) where
  abbrev IsTied : List Line → Type 0
  IsTied past = binding (life_at c past) h (printed past) ≡ as_bound (file_at c h past)

  -- where a client's line is another's, or its own
  by_client : (P : Bool → Bool → Type 0) (past : List Line) (d : ℕ) → Grown head past → ((nat_eq c d ≡ true) → P true true)
      → (nat_eq c d ≡ false → P false false) → P (is_by (life_at c past) (printed past) (Client d)) (nat_eq c d)
  by_client P past d g own another = subst (λ (b : Bool). P b (nat_eq c d)) (sym (present_by head c d past g)) (by (nat_eq c d) refl)
    where
      by : (b : Bool) → nat_eq c d ≡ b → P b b
      by true e = own e
      by false e = another e

  -- a call that is told: where a life ends, the handle doesn't matter
  tells_tied : (past : List Line) (stamp : Stamp) (slot : ℕ) (named : At) (given : Answer) (work : Option Work) → Grown head past
      → EntryOk past (turn stamp (Client c)) (Client c) (Told slot named given work) → IsTied past
      → Ending (line (turn stamp (Client c)) (Told slot named given work) ∷ past) c
      ⊎ (told_binding h (calls.call_in c slot (printed past)) given
      (number_heard (printed past) named (life_at c past) (heard_in (printed past) (turn stamp (Client c))))
      (binding (life_at c past) h (printed past)) ≡ as_bound (told_file h (call_at c slot past) (file_at c h past)))
  tells_tied past stamp slot named given work g ok same = by ok
    where
      -- of the call that stands in the slot
      of : (r : Running) → call_at c slot past ≡ Some r → ((other : ℕ) (path : List (List ℕ)) → r.call ≡ call.Open other path
          → Opens head c past stamp g slot named given work (binding (life_at c past) h (printed past)) (file_at c h past) same r.asking)
          → told_binding h (calls.call_in c slot (printed past)) given
          (number_heard (printed past) named (life_at c past) (heard_in (printed past) (turn stamp (Client c))))
          (binding (life_at c past) h (printed past)) ≡ as_bound (told_file h (call_at c slot past) (file_at c h past))
      of r is opens =
          let stands : calls.call_in c slot (printed past) ≡ Some r.call = calls_are head c slot past g
          ∙ ap (λ (o : Option Running). option_map (λ (v : Running). v.call) o) is in
          ap (λ (o : Option Call). told_binding h o given (number_heard (printed past) named (life_at c past)
          (heard_in (printed past) (turn stamp (Client c)))) (binding (life_at c past) h (printed past))) stands
          ∙ told_call head c past stamp g slot named given work (binding (life_at c past) h (printed past)) (file_at c h past) same h r
          opens
          ∙ ap (λ (o : Option Running). as_bound (told_file h o (file_at c h past))) (sym is)

      -- one that has asked nothing, and isn't told ok
      asked_none : (asking : Asking) → asking ≡ Unasked → (e : Answer) → given ≡ e
          → bound e (number_heard (printed past) named (life_at c past) (heard_in (printed past) (turn stamp (Client c))))
          (binding (life_at c past) h (printed past)) ≡ binding (life_at c past) h (printed past)
          → Opens head c past stamp g slot named given work (binding (life_at c past) h (printed past)) (file_at c h past) same asking
      asked_none asking new e is stays =
          subst (λ (v : Asking). Opens head c past stamp g slot named given work (binding (life_at c past) h (printed past))
          (file_at c h past) same v) (sym new)
          (ap (λ (v : Answer). bound v (number_heard (printed past) named (life_at c past)
          (heard_in (printed past) (turn stamp (Client c)))) (binding (life_at c past) h (printed past))) is ∙ stays ∙ same)

      by : EntryOk past (turn stamp (Client c)) (Client c) (Told slot named given work)
          → Ending (line (turn stamp (Client c)) (Told slot named given work) ∷ past) c
          ⊎ (told_binding h (calls.call_in c slot (printed past)) given
          (number_heard (printed past) named (life_at c past) (heard_in (printed past) (turn stamp (Client c))))
          (binding (life_at c past) h (printed past)) ≡ as_bound (told_file h (call_at c slot past) (file_at c h past)))
      by (inl a) = inr (of a.running a.call (λ other path is. told_open head c past stamp g slot named given work
          (binding (life_at c past) h (printed past)) (file_at c h past) same other path a is))
      by (inr (inl a)) = inr (of a.running a.call (λ other path is. let none : known_answer (notes_at c past) (call.Open other path)
          ≡ Some given = ap (λ (v : Call). known_answer (notes_at c past) v) (sym is) ∙ a.known in absurd (cc)))
      by (inr (inr (inl a))) = inl (
        refl,
        noticed_more (line (turn stamp (Client c)) (Told slot named given work)) past
            (turn stamp (Client c)) (life_at c past) a.notice,
      )
      by (inr (inr (inr (inl a)))) = inr (of a.running a.call (λ other path is. asked_none a.running.asking
          (bad_unasked head past g c slot a.running a.call a.bad) (told.Refused EBADF) a.of_answer refl))
      by (inr (inr (inr (inr (inl a))))) = inr (of a.running a.call
          (λ other path is. let no : call.Open other path ≡ call.Glimpse a.has.handle = sym is ∙ a.has.glimpses in absurd (cc)))
      by (inr (inr (inr (inr (inr (inl a)))))) = inr (of a.running a.call
          (λ other path is. let no : call.Open other path ≡ call.Flush a.handle = sym is ∙ a.flushes in absurd (cc)))
      by (inr (inr (inr (inr (inr (inr (inl a))))))) =
          inr (of a.running a.call (λ other path is. let no : call.Open other path
          ≡ call.Read a.does.read.handle a.does.read.offset a.does.read.count = sym is ∙ a.does.read.reads in absurd (cc)))
      by (inr (inr (inr (inr (inr (inr (inr (inl a)))))))) = inr
          (of a.running a.call (λ other path is. let no : call.Open other path ≡ call.Stat a.stat.path = sym is ∙ a.stat.stats
          in absurd (cc)))
      by (inr (inr (inr (inr (inr (inr (inr (inr a)))))))) = inr (of a.running a.call (λ other path is. ⊎_elim
          (λ (w : WritesOn a.running a.done). let no : call.Open other path ≡ call.Write w.handle w.offset w.bytes = sym is ∙ w.writes
          in absurd (cc))
          (λ (w : CutsOn a.running a.done). let no : call.Open other path ≡ call.Cut w.handle w.size = sym is ∙ w.cuts in absurd (cc))
          a.does))

  tied : (past : List Line) → Grown head past → Ending past c ⊎ IsTied past
  tied [] g = inr refl
  tied (l ∷ past) g = by l.at.node l.entry g.0 (tied past g.1)
    where
      by : (node : Node) (e : Entry) → Allowed head past (turn l.at.stamp node) e → Ending past c ⊎ IsTied past
          → Ending (line (turn l.at.stamp node) e ∷ past) c ⊎ IsTied (line (turn l.at.stamp node) e ∷ past)
      by (Client d) (Begin s running) k (inl ends) = inl (ending_more past l.at.stamp (Client d) (Begin s running) c k.closes refl ends)
      by (Client d) (Begin s running) k (inr same) = inr (by_client
          (λ (a b : Bool). (if a then begun_binding h running.call (binding (life_at c past) h (printed past))
          else binding (life_at c past) h (printed past)) ≡ as_bound
          (if b then begun_file h running.call (file_at c h past) else file_at c h past))
          past d g.1 (λ t. begin_bound h running.call (binding (life_at c past) h (printed past)) (file_at c h past) same) (λ t. same))
      by (Client d) (Told s named given work) k (inl ends) = inl
          (ending_more past l.at.stamp (Client d) (Told s named given work) c k.closes refl ends)
      by (Client d) (Told s named given work) k (inr same) = own (nat_eq c d) refl
        where
          here : (v : ℕ) → EntryOk past (turn l.at.stamp (Client v)) (Client v) (Told s named given work) → c ≡ v
              → Ending (line (turn l.at.stamp (Client v)) (Told s named given work) ∷ past) c
              ⊎ IsTied (line (turn l.at.stamp (Client v)) (Told s named given work) ∷ past)
          here v ok is = subst (λ (x : ℕ). EntryOk past (turn l.at.stamp (Client x)) (Client x) (Told s named given work)
              → Ending (line (turn l.at.stamp (Client x)) (Told s named given work) ∷ past) c
              ⊎ IsTied (line (turn l.at.stamp (Client x)) (Told s named given work) ∷ past)) is
              (λ ok. ⊎_elim
              (λ (e : Ending (line (turn l.at.stamp (Client c)) (Told s named given work) ∷ past) c). inl e)
              (λ (t : told_binding h (calls.call_in c s (printed past)) given
              (number_heard (printed past) named (life_at c past) (heard_in (printed past) (turn l.at.stamp (Client c))))
              (binding (life_at c past) h (printed past)) ≡ as_bound (told_file h (call_at c s past) (file_at c h past))).
              inr (ap (λ (b : Bool). if b then told_binding h (calls.call_in (life_at c past).client s (printed past)) given
              (number_heard (printed past) named (life_at c past) (heard_in (printed past) (turn l.at.stamp (Client c))))
              (binding (life_at c past) h (printed past)) else binding (life_at c past) h (printed past))
              (present_by head c c past g.1 ∙ self c)
              ∙ ap (λ (x : ℕ). told_binding h (calls.call_in x s (printed past)) given
              (number_heard (printed past) named (life_at c past) (heard_in (printed past) (turn l.at.stamp (Client c))))
              (binding (life_at c past) h (printed past))) (its_client head c past g.1)
              ∙ t ∙ ap (λ (b : Bool). as_bound (if b then told_file h (call_at c s past) (file_at c h past) else file_at c h past))
              (sym (self c))))
              (tells_tied past l.at.stamp s named given work g.1 ok same))
              ok

          own : (b : Bool) → nat_eq c d ≡ b → Ending (line (turn l.at.stamp (Client d)) (Told s named given work) ∷ past) c
              ⊎ IsTied (line (turn l.at.stamp (Client d)) (Told s named given work) ∷ past)
          own false n = inr (ap (λ (b : Bool). if b then told_binding h (calls.call_in (life_at c past).client s (printed past)) given
              (number_heard (printed past) named (life_at c past) (heard_in (printed past) (turn l.at.stamp (Client d))))
              (binding (life_at c past) h (printed past)) else binding (life_at c past) h (printed past)) (present_by head c d past g.1 ∙ n)
              ∙ same ∙ ap (λ (b : Bool). as_bound (if b then told_file h (call_at c s past) (file_at c h past) else file_at c h past))
              (sym n))
          own true y = here d k.ok (eqb-true c d y)
      by (Client d) (Life w) k tie = of (nat_eq c d) refl tie
        where
          later : life w.client (printed past) < w.life
          later =
              let same : w.client ≡ d = ap (λ (v : Who). v.client) k.ok.next ∙ its_client head d past g.1 in
              subst (λ (v : ℕ). life v (printed past) < w.life) (sym same) (rises d d w past (turn l.at.stamp (Client d)) k.ok (self d))

          of : (b : Bool) → nat_eq c d ≡ b → Ending past c ⊎ IsTied past → Ending (line (turn l.at.stamp (Client d)) (Life w) ∷ past) c
              ⊎ IsTied (line (turn l.at.stamp (Client d)) (Life w) ∷ past)
          of true y tie = inr (subst (λ (b : Bool). binding (if b then w else life_at c past) h (printed past)
              ≡ as_bound (if b then None else file_at c h past)) (sym y) (unbound head w h past g.1 later))
          of false n (inl ends) = inl (ending_more past l.at.stamp (Client d) (Life w) c k.closes
              (sym (ap (λ (b : Bool). if b then w else life_at c past) n)) ends)
          of false n (inr same) = inr (subst (λ (b : Bool). binding (if b then w else life_at c past) h (printed past)
              ≡ as_bound (if b then None else file_at c h past)) (sym n) same)
      by (Target t) (Begin s running) k tie = absurd k.ok
      by (Target t) (Told s named given work) k tie = absurd k.ok
      by (Target t) (Life w) k tie = absurd k.ok
      by node e k (inl ends) = inl (ending_more past l.at.stamp node e c k.closes refl ends)
      by node e k (inr same) = inr same

-- ---- a call that begins

abbrev pub is_bad_stage : Stage → Bool
is_bad_stage Bad = true
is_bad_stage _ = false

bound_some : (f : Option HandleFile) → is_some (as_bound f) ≡ is_some f
bound_some None = refl
bound_some (Some f) = refl

closes_it : (h : ℕ) (f : Option HandleFile) → operation_of f (call.Close h) ≡ calls.closes (as_bound f)
closes_it h None = refl
closes_it h (Some f) = refl

opens_same : (h : ℕ) (o : Option Running) → calls.opens h (option_map (λ (r : Running). r.call) o) ≡ slots.opens h o
opens_same h None = refl
opens_same h (Some r) = by r.call
  where
    by : (x : Call) → calls.opens_it h x ≡ slots.is_open_of h x
    by (call.Open other path) = refl
    by _ = refl

module _ (head : Head) (c : ℕ) (past : List Line) (g : Grown head past) (at : At) (closes : Closes past at) (later : Later past at) where
  pub bound_is : (h : ℕ) → calls.bound_to c (printed past) h ≡ as_bound (file_at c h past)
  bound_is h = ap (λ (v : Who). binding v h (printed past)) (present_is head c past g)
      ∙ ⊎_elim (λ (e : Ending past c). absurd (later_ends past at c closes later e))
      (λ (e : binding (life_at c past) h (printed past) ≡ as_bound (file_at c h past)). e) (tied head c h past g)

  opening_is : (h : ℕ) → calls.is_opening c h (printed past) ≡ is_opening c h past
  opening_is h = rw (one 0, one 1, one 2, one 3) (by (slots.opens h (call_at c 0 past)) (slots.opens h (call_at c 1 past))
      (slots.opens h (call_at c 2 past)) (slots.opens h (call_at c 3 past)))
    where
      one : (slot : ℕ) → calls.opens h (calls.call_in c slot (printed past)) ≡ slots.opens h (call_at c slot past)
      one slot = ap (calls.opens h) (calls_are head c slot past g) ∙ opens_same h (call_at c slot past)

      by : (a b c d : Bool) → (a || b || c || d) ≡ (a || (b || (c || (d || false))))
      by true b c d = refl
      by false true c d = refl
      by false false true d = refl
      by false false false true = refl
      by false false false false = refl

  open_bad : (h : ℕ) (path : List (List ℕ)) → calls.is_bad c (printed past) (call.Open h path) ≡ is_bad c past (call.Open h path)
  open_bad h path = ap (λ (o : Option Binding). is_some o || calls.is_opening c h (printed past)) (bound_is h)
      ∙ ap (λ (b : Bool). b || calls.is_opening c h (printed past)) (bound_some (file_at c h past))
      ∙ ap (λ (b : Bool). is_some (file_at c h past) || b) (opening_is h)

  -- and so it is of each call on a handle that is to be bound
  close_bad : (h : ℕ) → calls.is_bad c (printed past) (call.Close h) ≡ is_bad c past (call.Close h)
  close_bad h = ap (λ (o : Option Binding). not (is_some o)) (bound_is h) ∙ ap not (bound_some (file_at c h past))

  -- it is bad by the laws where it began so, and is for the metadata target what it becomes
  abbrev IsMeant : Call → Option HandleFile → Stage → Type 0
  IsMeant x file stage = (operation_of file x ≡ calls.operation_on x (calls.bound_by c (printed past) (calls.handle_of x)))
      × (is_bad_stage stage ≡ calls.is_bad c (printed past) x)

  meant_good : (x : Call) (file : Option HandleFile) → is_bad c past x ≡ false → file ≡ file_for c past x → (o : Op) → operation_of file x
      ≡ Some o → IsMeant x file Plain
  meant_good (call.Lookup path) file fine is o e = (refl, refl)
  meant_good (call.Stat path) file fine is o e = (refl, refl)
  meant_good (call.List path) file fine is o e = (refl, refl)
  meant_good (call.Layout path) file fine is o e = (refl, refl)
  meant_good (call.Mkdir path) file fine is o e = (refl, refl)
  meant_good (call.Create path None) file fine is o e = (refl, refl)
  meant_good (call.Create path (Some stripes)) file fine is o e = (refl, refl)
  meant_good (call.Link old new) file fine is o e = (refl, refl)
  meant_good (call.Unlink path) file fine is o e = (refl, refl)
  meant_good (call.Rmdir path) file fine is o e = (refl, refl)
  meant_good (call.Rename old new) file fine is o e = (refl, refl)
  meant_good (call.Chmod path mode) file fine is o e = (refl, refl)
  meant_good (call.Open h path) file fine is o e = (refl, sym (open_bad h path ∙ fine))
  meant_good (call.Close h) file fine is o e = (
    ap (λ (f : Option HandleFile). operation_of f (call.Close h)) is
        ∙ closes_it h (file_at c h past) ∙ ap calls.closes (sym (bound_is h)),
    sym (close_bad h ∙ fine),
  )
  meant_good x file fine is o e = absurd (cc)

  meant_bytes : (x : Call) (file : Option HandleFile) → is_bad c past x ≡ false → IsOnBytes x → IsMeant x file Plain
  meant_bytes (call.Read h offset count) file fine sizes = (refl, sym (close_bad h ∙ fine))
  meant_bytes (call.Write h offset bytes) file fine sizes = (refl, sym (close_bad h ∙ fine))
  meant_bytes (call.Cut h size) file fine sizes = (refl, sym (close_bad h ∙ fine))
  meant_bytes (call.Flush h) file fine sizes = (refl, sym (close_bad h ∙ fine))
  meant_bytes (call.Glimpse h) file fine sizes = (refl, sym (close_bad h ∙ fine))
  meant_bytes x file fine sizes = absurd sizes

  meant_bad : (x : Call) (file : Option HandleFile) → is_bad c past x ≡ true → file ≡ None → IsMeant x file Bad
  meant_bad (call.Open h path) file bad is = (refl, sym (open_bad h path ∙ bad))
  meant_bad (call.Close h) file bad is = (
    ap (λ (f : Option HandleFile). operation_of f (call.Close h)) is
        ∙ ap (λ (f : Option HandleFile). calls.closes (as_bound f)) (sym (none_there (file_at c h past) bad))
        ∙ ap calls.closes (sym (bound_is h)),
    sym (close_bad h ∙ bad),
  )
  meant_bad (call.Read h offset count) file bad is = (refl, sym (close_bad h ∙ bad))
  meant_bad (call.Write h offset bytes) file bad is = (refl, sym (close_bad h ∙ bad))
  meant_bad (call.Cut h size) file bad is = (refl, sym (close_bad h ∙ bad))
  meant_bad (call.Flush h) file bad is = (refl, sym (close_bad h ∙ bad))
  meant_bad (call.Glimpse h) file bad is = (refl, sym (close_bad h ∙ bad))
  meant_bad x file bad is = absurd (cc)

  meant_begin : (r : Running) → Begins c past r → IsMeant r.call r.file r.stage
  meant_begin r begins = ⊎_elim
      (λ (p : (is_bad c past r.call ≡ false) × (r.stage ≡ Plain) × (r.file ≡ file_for c past r.call)
      × (((o : Op) × (becomes r ≡ Some o)) ⊎ IsOnBytes r.call)). subst (λ (v : Stage). IsMeant r.call r.file v) (sym p.1)
      (⊎_elim (λ (q : (o : Op) × (becomes r ≡ Some o)). meant_good r.call r.file p.0 p.2 q.0 q.1)
      (λ (q : IsOnBytes r.call). meant_bytes r.call r.file p.0 q) p.3))
      (λ (p : (is_bad c past r.call ≡ true) × (r.stage ≡ Bad) × (r.file ≡ None)). subst (λ (v : Stage). IsMeant r.call r.file v) (sym p.1)
      (meant_bad r.call r.file p.0 p.2))
      begins

-- a call on the bytes of a file is bad by the laws where its handle was bound to nothing
open_bound : (c slot : ℕ) (past : pasts.Past) (b : calls.Begun) → open_call c slot past ≡ Some b → IsOnBytes b.call → b.bad
    ≡ not (is_some b.bound)
open_bound c slot [] b e sizes = absurd (cc)
open_bound c slot (l ∷ past) b e sizes = by l.entry e (λ q. open_bound c slot past b q sizes)
  where
    its_own : (x : Call) → IsOnBytes x → calls.is_bad c past x ≡ not (is_some (calls.bound_by c past (calls.handle_of x)))
    its_own (call.Read h offset count) sizes = refl
    its_own (call.Write h offset bytes) sizes = refl
    its_own (call.Cut h size) sizes = refl
    its_own (call.Flush h) sizes = refl
    its_own (call.Glimpse h) sizes = refl
    its_own x sizes = absurd sizes

    begun_is : (x y : calls.Begun) → Some x ≡ Some y → x ≡ y
    begun_is x y e = cc

    now : (x : Call) → Some (calls.begun c past l.at x) ≡ Some b → b.bad ≡ not (is_some b.bound)
    now x e = let same = begun_is (calls.begun c past l.at x) b e
        in subst (λ (v : calls.Begun). v.bad ≡ not (is_some v.bound)) same
        (its_own x (subst (λ (v : calls.Begun). IsOnBytes v.call) (sym same) sizes))

    by : (x : PrintedEntry) → open_call c slot (record { at = l.at; entry = x } ∷ past) ≡ Some b
        → (open_call c slot past ≡ Some b → b.bad ≡ not (is_some b.bound)) → b.bad ≡ not (is_some b.bound)
    by (trace.Begin other x) e ih =
        cond_both (pasts.is_client c l.at.node && nat_eq other slot) (Some (calls.begun c past l.at x)) (open_call c slot past)
        (λ (o : Option calls.Begun). o ≡ Some b → b.bad ≡ not (is_some b.bound))
        (λ t q. now x q) (λ t q. ih q) e
    by (trace.Told other at given) e ih = cond_both (pasts.is_client c l.at.node && nat_eq other slot) None (open_call c slot past)
        (λ (o : Option calls.Begun). o ≡ Some b → b.bad ≡ not (is_some b.bound))
        (λ t q. absurd (cc)) (λ t q. ih q) e
    by _ e ih = ih e

-- so a good one is of a file
pub file_there : (c slot : ℕ) (past : pasts.Past) (b : calls.Begun) → open_call c slot past ≡ Some b → IsOnBytes b.call → b.bad ≡ false
    → (f : Fid) × (calls.file_of b ≡ Some f)
file_there c slot past b e sizes good = by b.bound (sym (open_bound c slot past b e sizes) ∙ good)
  where
    by : (o : Option Binding) → not (is_some o) ≡ false → (f : Fid) × (option_map (λ (v : Binding). v.fid) o ≡ Some f)
    by None q = absurd (cc)
    by (Some v) q = (v.fid, refl)

-- a call that is bad by the laws as it begins began on a bad handle
pub begins_bad : (head : Head) (c slot : ℕ) (past : List Line) (stamp : Stamp) (running : Running) → Grown head past
    → Allowed head past (turn stamp (Client c)) (Begin slot running) → calls.is_bad c (printed past) running.call ≡ true → running.stage
    ≡ Bad
begins_bad head c slot past stamp running g k bad = by running.stage
    ((meant_begin head c past g (turn stamp (Client c)) k.closes k.ok.later running k.ok.begins).1 ∙ bad)
  where
    by : (s : Stage) → is_bad_stage s ≡ true → s ≡ Bad
    by Bad e = refl
    by _ e = absurd (cc)

-- ---- the call in a slot

abbrev IsMeantBy : Running → calls.Begun → Type 0
IsMeantBy a b = (a.at ≡ b.at) × (a.call ≡ b.call) × (becomes a ≡ operation b) × (is_bad_stage a.stage ≡ b.bad)

pub good_stage : (s : Stage) → (s ≡ Bad → ⊥) → is_bad_stage s ≡ false
good_stage Bad good = absurd (good refl)
good_stage s good = refl

meant_stands : (stage : Stage) (pins : List LockName) (a : Running) (b : calls.Begun) → (a.stage ≡ Bad → ⊥) → (stage ≡ Bad → ⊥)
    → IsMeantBy a b → IsMeantBy (record a { stage = stage; pins = pins }) b
meant_stands stage pins a b good better s = (s.0, s.1, s.2, good_stage stage better ∙ sym (good_stage a.stage good) ∙ s.3)

-- the call that stands in a slot by the laws: the same, for the metadata target what it becomes, and bad where it began so
pub meant_is : (head : Head) (c slot : ℕ) (past : List Line) (running : Running) → Grown head past → call_at c slot past ≡ Some running
    → (b : calls.Begun) × (open_call c slot (printed past) ≡ Some b) × (b.at ≡ running.at) × (b.call ≡ running.call)
    × (becomes running ≡ operation b) × (is_bad_stage running.stage ≡ b.bad)
meant_is head c slot past running g is =
    by (call_at c slot past) (open_call c slot (printed past)) refl is
    (both_calls IsMeantBy (λ asking a b s. s) meant_stands head c slot
    (λ past stamp s r g k. let m = meant_begin head c past g (turn stamp (Client c)) k.closes k.ok.later r
    k.ok.begins in (ap (λ (v : Running). v.at) k.ok.is, refl, m.0, m.1)) past g)
  where
    by : (a : Option Running) (b : Option calls.Begun) → open_call c slot (printed past) ≡ b → a ≡ Some running
        → OfBoth IsMeantBy (λ asking a b s. s) meant_stands a b
        → (b : calls.Begun) × (open_call c slot (printed past) ≡ Some b) × (b.at ≡ running.at) × (b.call ≡ running.call)
        × (becomes running ≡ operation b) × (is_bad_stage running.stage ≡ b.bad)
    by None b q e s = absurd (cc)
    by (Some a) None q e s = absurd s
    by (Some a) (Some b) q e s =
        let same : a ≡ running = cc in (
          b,
          q,
          sym s.0 ∙ ap (λ (v : Running). v.at) same,
          sym s.1 ∙ ap (λ (v : Running). v.call) same,
          ap becomes (sym same) ∙ s.2,
          ap (λ (v : Running). is_bad_stage v.stage) (sym same) ∙ s.3,
        )
