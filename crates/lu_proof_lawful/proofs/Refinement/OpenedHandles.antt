-- A call on a good handle has the file that an open of its life was told, whose answer the life heard.
use Rattle.std.proofs.Common.{◌≡◌, ℕ, Bool, true, false, List, [], ◌∷◌, ◌⊎◌, Option, Some, None, inl, inr, ⊎_elim, refl, sym, subst, ap}
use Rattle.std.proofs.Common.{◌∙◌}
use Rattle.std.specs.Prelude.{nat_eq, if◌then◌else◌, ◌==◌}
use Rattle.std.proofs.lemmas.Bool.{cond_both, eqb-true}
use Rattle.lu_base.specs.declared.ids.At.{At}
use Rattle.lu_base.specs.declared.ids.Node.{Node}
use Rattle.lu_base.specs.declared.ids.Node.TheVariants.{Client, Target}
use Rattle.lu_msg.specs.declared.answers.Answer.{Answer}
use Rattle.lu_msg.specs.declared.answers.Answer.TheVariants as told
use Rattle.lu_msg.specs.declared.calls.Call.{Call}
use Rattle.lu_msg.specs.declared.calls.Call.TheVariants as call
use Rattle.lu_msg.specs.declared.messages.Reply.{Reply as ReplyTo}
use Rattle.lu_base.specs.declared.ids.Stamp.{Stamp}
use Rattle.lu_spec_entries.specs.Carried.{HandleFile, Flight, Asking, Unasked, Answered, Work, Running}
use Rattle.lu_spec_entries.specs.Words.{Entry, Begin, Heard, Told, Life, Line, line}
use Rattle.lu_spec_entries.specs.Concerns.{only}
use Rattle.lu_proof_lawful.specs.Covered.Calls.{call_at, opened_by, opened, binds, told_file, begun_file, file_at, file_for, life_at}
use Rattle.lu_proof_lawful.specs.Covered.Heads.{Head}
use Rattle.lu_proof_lawful.proofs.Preconditions.Guards.{JustHeard, ChangesOn, Begins, Later, Closes, Ending, ToldOk, TellsOk}
use Rattle.lu_proof_lawful.proofs.Preconditions.Grown.{Allowed, Grown}
use Rattle.lu_proof_lawful.proofs.Invariants.Groups.{turn}
use Rattle.lu_proof_lawful.proofs.Invariants.All.{holds}
use Rattle.lu_proof_lawful.proofs.Preconditions.Calls.{Began, Touched, Stood as StoodAt, call_cases, bad_unasked}
use Rattle.lu_proof_lawful.proofs.Preconditions.Endings.{noticed_more, ending_more, later_ends}
use Rattle.lu_proof_lawful.proofs.Invariants.Known.{HeardBy, heard_by_story}
use Rattle.lu_proof_lawful.proofs.Invariants.Replies.{call_lives}
use Rattle.lu_proof_lawful.proofs.Invariants.ToldFiles.{plain_first}

-- it was heard by that client, of the metadata target
pub just_heard_by : (past : List Line) (at : At) (c : ℕ) (r : ReplyTo) → JustHeard past at 0 r → at.node ≡ Client c → (f : Flight)
    × HeardBy (only 0 past) c f r
just_heard_by [] at c r j n = absurd j
just_heard_by (l ∷ past) at c r j n = by l.at.node l.entry j (λ i. just_heard_by past at c r i n)
  where
    by : (node : Node) (e : Entry) → JustHeard (line (turn l.at.stamp node) e ∷ past) at 0 r
        → (JustHeard past at 0 r → (f : Flight) × HeardBy (only 0 past) c f r)
        → (f : Flight) × HeardBy (only 0 (line (turn l.at.stamp node) e ∷ past)) c f r
    by (Client d) (Heard v f q) j h = (
      f,
      subst (λ (b : Bool). HeardBy (if b then line (turn l.at.stamp (Client d)) (Heard v f q) ∷ only 0 past else only 0 past) c f r)
          (sym (ap (λ (u : ℕ). nat_eq 0 u) j.1)) (inl (ap (λ (w : At). w.node) j.0 ∙ n, refl, j.2)),
    )
    by (Target u) (Heard v f q) j h = let no : Target u ≡ Client c = ap (λ (w : At). w.node) j.0 ∙ n in absurd (cc)
    by (Client d) (Told slot named given work) j h = absurd j
    by (Target u) (Told slot named given work) j h = absurd j
    by node e j h = let k = h j in (k.0, heard_by_story 0 (line (turn l.at.stamp node) e) past c k.0 r k.1)

-- ---- the open of a file

-- the client's life heard what opened it
pub record OpenedBy (past : List Line) (c : ℕ) (file : HandleFile) : Type 0 where
  pub flight : Flight
  pub reply : ReplyTo
  pub heard : HeardBy (only 0 past) c flight reply
  pub who : reply.who ≡ life_at c past
  pub answer : reply.answer ≡ told.OpenFile file.fid file.number file.layout

opened_more : (c : ℕ) (file : HandleFile) (l : Line) (past : List Line) → life_at c (l ∷ past) ≡ life_at c past → OpenedBy past c file
    → OpenedBy (l ∷ past) c file
opened_more c file l past same o = record {
  flight = o.flight;
  reply = o.reply;
  heard = heard_by_story 0 l past c o.flight o.reply o.heard;
  who = o.who ∙ sym same;
  answer = o.answer;
}

opened_is : (a : Asking) (file : HandleFile) → opened a ≡ Some file → (t : ℕ) × (r : ReplyTo) × (a ≡ Answered t r)
    × (r.answer ≡ told.OpenFile file.fid file.number file.layout)
opened_is (Answered t r) file e = (t, r, refl, by r.answer e)
  where
    by : (a : Answer) → opened_by a ≡ Some file → a ≡ told.OpenFile file.fid file.number file.layout
    by (told.OpenFile fid number layout) e = ap (λ (f : Option HandleFile). opens_as f) e
      where
        opens_as : Option HandleFile → Answer
        opens_as None = told.Done
        opens_as (Some f) = told.OpenFile f.fid f.number f.layout
    by a e = absurd (cc)
opened_is a file e = absurd (cc)

begun_was : (h : ℕ) (k : Call) (old : Option HandleFile) (file : HandleFile) → begun_file h k old ≡ Some file → old ≡ Some file
begun_was h (call.Close other) old file e = cond_both (other == h) None old (λ (v : Option HandleFile). v ≡ Some file → old ≡ Some file)
    (λ t q. absurd (cc)) (λ t q. q) e
begun_was h k old file e = e

-- what a told open binds
abbrev Opens : Option Running → HandleFile → Type 0
Opens o file = (r : Running) × (o ≡ Some r) × (h : ℕ) × (path : List (List ℕ)) × (r.call ≡ call.Open h path) × (opened r.asking ≡ Some file)

told_was : (h : ℕ) (o : Option Running) (old : Option HandleFile) (file : HandleFile) → told_file h o old ≡ Some file → (old ≡ Some file)
    ⊎ Opens o file
told_was h None old file e = inl e
told_was h (Some r) old file e = by r.call refl e
  where
    bound : (a : Option HandleFile) → opened r.asking ≡ a → binds a old ≡ Some file → (old ≡ Some file) ⊎ (opened r.asking ≡ Some file)
    bound None q e = inl e
    bound (Some f) q e = inr (q ∙ e)

    by : (k : Call) → r.call ≡ k → (elim k [ call.Open other path ↦ if other == h then binds (opened r.asking) old else old | _ ↦ old ])
        ≡ Some file → (old ≡ Some file) ⊎ Opens (Some r) file
    by (call.Open other path) is e =
        cond_both (other == h) (binds (opened r.asking) old) old
        (λ (v : Option HandleFile). v ≡ Some file → (old ≡ Some file) ⊎ Opens (Some r) file)
        (λ t q. ⊎_elim (λ (a : old ≡ Some file). inl a) (λ (a : opened r.asking ≡ Some file). inr (r, refl, other, path, is, a))
        (bound (opened r.asking) refl q))
        (λ t q. inl q) e
    by k is e = inl e

module _ (head : Head) (c : ℕ) where
  abbrev AllOpened : ℕ → List Line → Type 0
  AllOpened h past = (file : HandleFile) → file_at c h past ≡ Some file → OpenedBy past c file

  -- a call that is told
  told_opens : (h : ℕ) (past : List Line) (stamp : Stamp) (slot : ℕ) (named : At) (given : Answer) (work : Option Work) → Grown head past
      → TellsOk past (turn stamp (Client c)) c slot named given work → AllOpened h past → (file : HandleFile)
      → told_file h (call_at c slot past) (file_at c h past) ≡ Some file
      → Ending (line (turn stamp (Client c)) (Told slot named given work) ∷ past) c ⊎ OpenedBy past c file
  told_opens h past stamp slot named given work g ok all file e =
      ⊎_elim (λ (was : file_at c h past ≡ Some file). inr (all file was)) (λ (o : Opens (call_at c slot past) file). by o ok)
      (told_was h (call_at c slot past) (file_at c h past) file e)
    where
      at : At
      at = turn stamp (Client c)

      Goal : Type 0
      Goal = Ending (line (turn stamp (Client c)) (Told slot named given work) ∷ past) c ⊎ OpenedBy past c file

      same : (a b : Running) → call_at c slot past ≡ Some a → call_at c slot past ≡ Some b → a ≡ b
      same a b p q = let x : Some a ≡ Some b = sym p ∙ q in cc

      -- another call
      no_open : (o : Opens (call_at c slot past) file) (r : Running) → call_at c slot past ≡ Some r → (r.call ≡ call.Open o.2 o.3 → ⊥)
          → Goal
      no_open o r is other = absurd (other (ap (λ (v : Running). v.call) (same r o.0 is o.1) ∙ o.4))

      unasked : (o : Opens (call_at c slot past) file) (r : Running) → call_at c slot past ≡ Some r → r.asking ≡ Unasked → Goal
      unasked o r is none = let x : None ≡ Some file = sym (ap opened none) ∙ ap (λ (v : Running). opened v.asking) (same r o.0 is o.1)
          ∙ o.5 in absurd (cc)

      answered : (o : Opens (call_at c slot past) file) → ToldOk past at c slot named given work → OpenedBy past c file
      answered o a =
          let r = (holds head past g).replies c slot a.target a.running a.reply a.call a.answered in
          let first = plain_first a.running a.target r.deed.op r.op a.good in
          let heard = just_heard_by past at c a.reply (subst (λ (t : ℕ). JustHeard past at t a.reply) first.0 a.heard) refl in
          let is = opened_is o.0.asking file o.5 in
          let reply : Answered a.target a.reply ≡ Answered is.0 is.1 = sym a.answered
          ∙ ap (λ (v : Running). v.asking) (same a.running o.0 a.call o.1) ∙ is.2 in
          record {
            flight = heard.0;
            reply = a.reply;
            heard = heard.1;
            who = r.client;
            answer =
                ap (λ (v : ReplyTo). v.answer) (one a.target is.0 a.reply is.1 reply) ∙ is.3;
          }
        where
          one : (t u : ℕ) (k r : ReplyTo) → Answered t k ≡ Answered u r → k ≡ r
          one t u k r e = cc

      by : Opens (call_at c slot past) file → TellsOk past at c slot named given work → Goal
      by o (inl a) = inr (answered o a)
      by o (inr (inl a)) = unasked o a.running a.call a.new
      by o (inr (inr (inl a))) = inl (refl, noticed_more (line at (Told slot named given work)) past at (life_at c past) a.notice)
      by o (inr (inr (inr (inl a)))) = unasked o a.running a.call (bad_unasked head past g c slot a.running a.call a.bad)
      by o (inr (inr (inr (inr (inl a))))) = no_open o a.running a.call
          (λ is. let x : call.Open o.2 o.3 ≡ call.Glimpse a.has.handle = sym is ∙ a.has.glimpses in cc)
      by o (inr (inr (inr (inr (inr (inl a)))))) = no_open o a.running a.call
          (λ is. let x : call.Open o.2 o.3 ≡ call.Flush a.handle = sym is ∙ a.flushes in cc)
      by o (inr (inr (inr (inr (inr (inr (inl a))))))) = no_open o a.running a.call
          (λ is. let x : call.Open o.2 o.3 ≡ call.Read a.does.read.handle a.does.read.offset a.does.read.count = sym is ∙ a.does.read.reads
          in cc)
      by o (inr (inr (inr (inr (inr (inr (inr (inl a)))))))) = no_open o a.running a.call
          (λ is. let x : call.Open o.2 o.3 ≡ call.Stat a.stat.path = sym is ∙ a.stat.stats in cc)
      by o (inr (inr (inr (inr (inr (inr (inr (inr a)))))))) = no_open o a.running a.call (λ is. changes is a.does)
        where
          changes : a.running.call ≡ call.Open o.2 o.3 → ChangesOn a.running a.done → ⊥
          changes is (inl w) = let x : call.Open o.2 o.3 ≡ call.Write w.handle w.offset w.bytes = sym is ∙ w.writes in cc
          changes is (inr w) = let x : call.Open o.2 o.3 ≡ call.Cut w.handle w.size = sym is ∙ w.cuts in cc

  -- the file of each handle of the present life, but in the turn that ends it
  files : (h : ℕ) (past : List Line) → Grown head past → Ending past c ⊎ AllOpened h past
  files h [] g = inr (λ file e. absurd (cc))
  files h (l ∷ past) g = by l.at.node l.entry g.0 (files h past g.1)
    where
      So : Node → Entry → Type 0
      So node e = Ending (line (turn l.at.stamp node) e ∷ past) c ⊎ AllOpened h (line (turn l.at.stamp node) e ∷ past)

      still : (node : Node) (e : Entry) (file : HandleFile) → life_at c (line (turn l.at.stamp node) e ∷ past) ≡ life_at c past
          → OpenedBy past c file → OpenedBy (line (turn l.at.stamp node) e ∷ past) c file
      still node e file same o = opened_more c file (line (turn l.at.stamp node) e) past same o

      told : (d s : ℕ) (named : At) (given : Answer) (work : Option Work) → TellsOk past (turn l.at.stamp (Client d)) d s named given work
          → AllOpened h past → (b : Bool) → nat_eq c d ≡ b
          → Ending (line (turn l.at.stamp (Client d)) (Told s named given work) ∷ past) c
          ⊎ ((file : HandleFile) → (if b then told_file h (call_at c s past) (file_at c h past) else file_at c h past) ≡ Some file
          → OpenedBy past c file)
      told d s named given work ok all false n = inr all
      told d s named given work ok all true y = subst
          (λ (v : ℕ). TellsOk past (turn l.at.stamp (Client v)) v s named given work
          → Ending (line (turn l.at.stamp (Client v)) (Told s named given work) ∷ past) c
          ⊎ ((file : HandleFile) → told_file h (call_at c s past) (file_at c h past) ≡ Some file → OpenedBy past c file))
          (eqb-true c d y)
          (λ k. one (λ file. told_opens h past l.at.stamp s named given work g.1 k all file))
          ok
        where
          -- it ends the life whatever is bound, or binds well
          one : ((file : HandleFile) → told_file h (call_at c s past) (file_at c h past) ≡ Some file
              → Ending (line (turn l.at.stamp (Client c)) (Told s named given work) ∷ past) c ⊎ OpenedBy past c file)
              → Ending (line (turn l.at.stamp (Client c)) (Told s named given work) ∷ past) c
              ⊎ ((file : HandleFile) → told_file h (call_at c s past) (file_at c h past) ≡ Some file → OpenedBy past c file)
          one each = of (told_file h (call_at c s past) (file_at c h past)) each
            where
              of : (o : Option HandleFile) → ((file : HandleFile) → o ≡ Some file
                  → Ending (line (turn l.at.stamp (Client c)) (Told s named given work) ∷ past) c ⊎ OpenedBy past c file)
                  → Ending (line (turn l.at.stamp (Client c)) (Told s named given work) ∷ past) c
                  ⊎ ((file : HandleFile) → o ≡ Some file → OpenedBy past c file)
              of None each = inr (λ file e. absurd (cc))
              of (Some f) each = ⊎_elim (λ (e : Ending (line (turn l.at.stamp (Client c)) (Told s named given work) ∷ past) c). inl e)
                  (λ (o : OpenedBy past c f). inr (λ file e. subst (OpenedBy past c) (let same : f ≡ file = cc in same) o)) (each f refl)

      by : (node : Node) (e : Entry) → Allowed head past (turn l.at.stamp node) e → Ending past c ⊎ AllOpened h past → So node e
      by (Client d) (Begin s running) k (inl ends) = inl (ending_more past l.at.stamp (Client d) (Begin s running) c k.closes refl ends)
      by (Client d) (Begin s running) k (inr all) = inr (λ file e. still (Client d) (Begin s running) file refl
          (cond_both (nat_eq c d) (begun_file h running.call (file_at c h past)) (file_at c h past)
          (λ (v : Option HandleFile). v ≡ Some file → OpenedBy past c file)
          (λ t q. all file (begun_was h running.call (file_at c h past) file q)) (λ t q. all file q) e))
      by (Client d) (Told s named given work) k (inl ends) = inl
          (ending_more past l.at.stamp (Client d) (Told s named given work) c k.closes refl ends)
      by (Client d) (Told s named given work) k (inr all) =
          ⊎_elim (λ (ends : Ending (line (turn l.at.stamp (Client d)) (Told s named given work) ∷ past) c). inl ends)
          (λ (new : (file : HandleFile) → (if nat_eq c d then told_file h (call_at c s past) (file_at c h past) else file_at c h past)
          ≡ Some file → OpenedBy past c file). inr (λ file e. still (Client d) (Told s named given work) file refl (new file e)))
          (told d s named given work k.ok all (nat_eq c d) refl)
      by (Client d) (Life w) k tie = of (nat_eq c d) refl tie
        where
          of : (b : Bool) → nat_eq c d ≡ b → Ending past c ⊎ AllOpened h past → So (Client d) (Life w)
          of true y tie = inr (λ file e. let none : None ≡ Some file = sym (ap (λ (b : Bool). if b then None else file_at c h past) y) ∙ e
              in absurd (cc))
          of false n (inl ends) = inl (ending_more past l.at.stamp (Client d) (Life w) c k.closes
              (sym (ap (λ (b : Bool). if b then w else life_at c past) n)) ends)
          of false n (inr all) = inr (λ file e. still (Client d) (Life w) file (ap (λ (b : Bool). if b then w else life_at c past) n)
              (all file (sym (ap (λ (b : Bool). if b then None else file_at c h past) n) ∙ e)))
      by (Target t) (Begin s running) k tie = absurd k.ok
      by (Target t) (Told s named given work) k tie = absurd k.ok
      by (Target t) (Life w) k tie = absurd k.ok
      by node e k (inl ends) = inl (ending_more past l.at.stamp node e c k.closes refl ends)
      by node e k (inr all) = inr (λ file q. still node e file refl (all file q))

  -- ---- the file of a call

  begun_file_is : (past : List Line) (now : At) (r : Running) (file : HandleFile) → Grown head past → Closes past now → Later past now
      → Begins c past r → r.file ≡ Some file → OpenedBy past c file
  begun_file_is past now r file g closes later (inr b) e = absurd (let none = b.2 in cc)
  begun_file_is past now r file g closes later (inl b) e = by r.call (sym b.2 ∙ e)
    where
      of : (h : ℕ) → file_at c h past ≡ Some file → OpenedBy past c file
      of h q = ⊎_elim (λ (ends : Ending past c). absurd (later_ends past now c closes later ends)) (λ (all : AllOpened h past). all file q)
          (files h past g)

      by : (k : Call) → file_for c past k ≡ Some file → OpenedBy past c file
      by (call.Close h) q = of h q
      by (call.Read h offset count) q = of h q
      by (call.Write h offset bytes) q = of h q
      by (call.Cut h size) q = of h q
      by (call.Flush h) q = of h q
      by (call.Glimpse h) q = of h q
      by k q = absurd (cc)

  pub file_opened : (slot : ℕ) (past : List Line) (r : Running) (file : HandleFile) → Grown head past → call_at c slot past ≡ Some r
      → r.file ≡ Some file → OpenedBy past c file
  file_opened slot [] r file g is e = absurd (cc)
  file_opened slot (l ∷ past) r file g is e = opened_more c file l past (call_lives past l.at.stamp l.at.node l.entry g.0.ok c slot r is)
      (⊎_elim
      (λ (p : call_at c slot past ≡ Some r). file_opened slot past r file g.1 p e)
      (λ (p : Began past l.at l.entry c slot r ⊎ (Touched past l.at.node l.entry c slot r ⊎ StoodAt past l.at c slot r)). ⊎_elim
      (λ (q : Began past l.at l.entry c slot r). begun_file_is past l.at r file g.1 g.0.closes q.later q.begins e)
      (⊎_elim
      (λ (q : Touched past l.at.node l.entry c slot r). file_opened slot past q.before file g.1 q.call (q.file ∙ e))
      (λ (q : StoodAt past l.at c slot r). file_opened slot past q.before file g.1 q.call (q.file ∙ e)))
      p)
      (call_cases past l.at.stamp l.at.node l.entry g.0.ok c slot r is))
