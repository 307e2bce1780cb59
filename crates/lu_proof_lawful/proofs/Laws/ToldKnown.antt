-- A read or a stat that is told calm is known: under the locks that it has in use.
use Rattle.std.proofs.Common.{◌≡◌, ℕ, ◌+◌, ◌-◌, ◌<◌, ◌≤◌, true, false, List, [], ◌∷◌, length, ◌⊎◌, inl, inr, ⊎_elim, Option, Some, refl}
use Rattle.std.proofs.Common.{sym, subst, ap, ◌∙◌, arith}
use Rattle.std.specs.Prelude.{nat_le, map, min}
use Rattle.std.proofs.lemmas.Bool.{and_from}
use Rattle.std.proofs.lemmas.Bool.Decides.{nat_tests}
use Rattle.lu_base.specs.declared.ids.At.{At}
use Rattle.lu_base.specs.declared.ids.Fid.{Fid}
use Rattle.lu_base.specs.declared.ids.Node.TheVariants.{Client}
use Rattle.lu_base.specs.declared.locks.Extent.{Extent}
use Rattle.lu_base.specs.declared.locks.Lock.{Lock}
use Rattle.lu_base.specs.declared.locks.Mode.{Mode}
use Rattle.lu_base.specs.declared.locks.Mode.TheVariants.{PR, PW}
use Rattle.lu_base.specs.declared.locks.Policy.{Policy}
use Rattle.lu_base.specs.declared.locks.Policy.TheVariants.{Range}
use Rattle.lu_base.specs.declared.locks.Resource.{Resource}
use Rattle.lu_layout.specs.Raid0.{Raid0, stripe_of, offset_of}
use Rattle.lu_layout.specs.Sound.{IsLayout}
use Rattle.lu_layout.proofs.Places.{stripe_of-lt}
use Rattle.lu_lock.specs.Growth.{the_end}
use Rattle.lu_lock.specs.Overlap.{covers}
use Rattle.lu_spec_machine.specs.Tree.{no_file}
use Rattle.lu_msg.specs.declared.answers.Answer.{Answer}
use Rattle.lu_msg.specs.declared.answers.Answer.TheVariants as answer
use Rattle.lu_msg.specs.declared.calls.Call.{Call}
use Rattle.lu_held.specs.declared.locks.Use.{Use}
use Rattle.lu_trace.specs.WellFormed.{IsCall}
use Rattle.lu_spec_entries.specs.declared.uses.Using.{Using}
use Rattle.lu_spec_entries.specs.Carried.{Kind, Narrow, Wide, Work, Running}
use Rattle.lu_spec_entries.specs.Words.{Line}
use Rattle.lu_spec_entries.specs.Printed.{printed}
use Rattle.lu_spec_client.specs.Caches.{held_at}
use Rattle.lu_spec_client.specs.Looks.{has_reached, content, file_size}
use Rattle.lu_spec_client.specs.Patches.{to_end}
use Rattle.lu_spec_client.specs.States.{store_at}
use Rattle.lu_spec_client.specs.Stripes.{below_on, object, stripes}
use Rattle.lu_spec_client.specs.Wants.{want, wants_run, wants_rest, wants_of}
use Rattle.lu_proof_lawful.specs.Covered.Calls.{call_at, file_at, life_at}
use Rattle.lu_proof_lawful.specs.Covered.Heads.{Head, IsHead}
use Rattle.lu_spec_laws.specs.Words.Lives.{who_is}
use Rattle.lu_spec_laws.specs.Words.Repeats.{calm}
use Rattle.lu_proof_lawful.proofs.Preconditions.Guards.{In, ReadToldOk, StatToldOk, UsesHeld}
use Rattle.lu_proof_lawful.proofs.Preconditions.Calls.{limited}
use Rattle.lu_proof_lawful.proofs.Preconditions.HeedMarks.{owed_of}
use Rattle.lu_proof_lawful.proofs.Preconditions.Heeds.{AllHeed}
use Rattle.lu_proof_lawful.proofs.Preconditions.Grown.{Grown}
use Rattle.lu_proof_lawful.proofs.Preconditions.PinsFit.{PinsFit}
use Rattle.lu_proof_lawful.proofs.Preconditions.Speaks.{AllSpeak}
use Rattle.lu_proof_lawful.proofs.Invariants.TargetGroups.{IsKind}
use Rattle.lu_proof_objects.proofs.Pieces.{stripe_there, offset_within, run_wanted, rest_wanted}
use Rattle.lu_proof_lawful.specs.Projection.Lives.{is_over}
use Rattle.lu_proof_lawful.proofs.Refinement.ChangesFound.{range_covers, good_layout}
use Rattle.lu_proof_lawful.proofs.Refinement.Laying.{file_laid}
use Rattle.lu_proof_lawful.proofs.Refinement.Uses.{InUse, uses_held}
use Rattle.lu_proof_lawful.proofs.Laws.CalmUses.{calm_uses, free_lasting}
use Rattle.lu_proof_lawful.proofs.Laws.HeldLists.{Has}
use Rattle.lu_proof_lawful.proofs.Laws.KnownLooks.{UseOn, told_places}
use Rattle.lu_proof_lawful.proofs.Laws.KnownPlaces.{ReadsLock, ServedOf, PlacesOf, LastOf}
use Rattle.lu_proof_lawful.proofs.Laws.LastTold.{told_last}
use Rattle.lu_proof_lawful.proofs.Laws.SilentReading.{below_low, range_has, run_has, rest_has}
use Rattle.lu_proof_lawful.proofs.Laws.SilentWorlds.{NoWrites, Lasting, ReadBy}
use Rattle.lu_proof_lawful.proofs.Laws.SoundLocks.{held_kind_is, to_client}

mapped : (u : Using) (vs : List Using) → In u vs → In u.want (map (λ (v : Using). v.want) vs)
mapped u [] i = absurd i
mapped u (v ∷ vs) (inl e) = inl (ap (λ (x : Using). x.want) e)
mapped u (v ∷ vs) (inr i) = inr (mapped u vs i)

mapped_in : (w : Use) (us : List Using) → In w (map (λ (u : Using). u.want) us) → (u : Using) × In u us × (u.want ≡ w)
mapped_in w [] i = absurd i
mapped_in w (u ∷ us) (inl e) = (u, inl refl, e)
mapped_in w (u ∷ us) (inr i) = let m = mapped_in w us i in (m.0, inr m.1, m.2)

le_is : (a b : ℕ) → a ≤ b → nat_le a b ≡ true
le_is a b l = grind (arith, nat_tests, l)

reading : (m : Mode) (x : Extent) → IsKind m (Range x) → (m ≡ PW → ⊥) → m ≡ PR
reading m x k never = ⊎_elim (λ (e : m ≡ PR). e) (λ (e : m ≡ PW). absurd (never e)) k.2

-- one that is held to the end covers less
less_covered : (p : Policy) (a b : Extent) → a.first ≡ b.first → b.last ≤ a.last → covers p (Range a) ≡ true → covers p (Range b) ≡ true
less_covered p a b first last e =
    let over = range_covers p a e in
    let low = over.2 in
    let far = over.3 in
    subst (λ (v : Policy). covers v (Range b) ≡ true) (sym over.1)
    (and_from (nat_le over.0.first b.first) (nat_le b.last over.0.last) (le_is over.0.first b.first (omega (arith, low, first)))
    (le_is b.last over.0.last (omega (arith, far, last))))

module _ (head : Head) (ranges : IsHead head) (past : List Line) (g : Grown head past) (fit : PinsFit past) (heeds : AllHeed past)
    (speaks : AllSpeak past) (c : ℕ) (alive : is_over c (life_at c past) past ≡ false) (owed : owed_of c past ≡ [])
    (no_write : NoWrites c past) (at : At) (own : at.node ≡ Client c) (slot : ℕ) (named : At) (given : Answer) (work : Option Work)
    (x : ℕ × Call) (i : In x (calm (who_is c (printed past)) (printed past))) (is : x.0 ≡ slot) where
  -- ---- the locks in use

  module _ (r : Running) (call : call_at c slot past ≡ Some r) (us : List Using) (uses : UsesHeld c past r us) where
    in_use : (u : Using) → In u us → InUse c past u
    in_use u j = uses_held head past g fit c slot r us call uses u j

    lasting : (u : Using) → In u us → Lasting c past u.want.target.0 u.lock
    lasting u j =
        let k = in_use u j in (
          k.holding,
          k.held,
          k.of_target,
          k.is,
          calm_uses head c past g fit x i r
              (subst (λ (v : ℕ). call_at c v past ≡ Some r) (sym is) call) us uses u j k.holding k.held k.is k.of_target,
        )

    -- one is to read
    reads : (u : Using) → In u us → (e : Extent) → u.lock.ask.policy ≡ Range e
        → ReadsLock (Lasting c past) u.want.target.0 u.want.resource u.lock e
    reads u j e range =
        let k = in_use u j in
        let kind : IsKind k.holding.lock.ask.mode (Range e) = subst (IsKind k.holding.lock.ask.mode)
        (ap (λ (l : Lock). l.ask.policy) k.is ∙ range) (held_kind_is head past g c k.holding k.held) in
        record {
          is = lasting u j;
          of_object = k.of_object;
          mode = ap (λ (l : Lock). l.ask.mode) (sym k.is)
              ∙ reading k.holding.lock.ask.mode e kind (no_write k.holding k.held);
          range = range;
        }

    serves : (u : Using) → In u us → (e : Extent) → u.want.policy ≡ Range e → ServedOf (Lasting c past) u.want
    serves u j e policy =
        let over = range_covers u.lock.ask.policy e (ap (λ (p : Policy). covers u.lock.ask.policy p) (sym policy) ∙ (in_use u j).covers) in
        record { lock = u.lock; extent = over.0; reads = reads u j over.0 over.1; covers = (in_use u j).covers }

    use_on : (y : Raid0) (fid : Fid) (p : ℕ) (u : Using) → In u us → (n : ℕ) → n < length y.targets → (e : Extent) → e.first
        ≡ below_on y n p → e.last ≤ the_end → want y fid PR n e ≡ u.want → UseOn (Lasting c past) y fid p u
    use_on y fid p u j n here e from limited same =
        let over = range_covers u.lock.ask.policy e (ap (λ (v : Use). covers u.lock.ask.policy v.policy) same ∙ (in_use u j).covers) in
        record {
          stripe = n;
          here = here;
          of_target = ap (λ (v : Use). v.target.0) (sym same);
          of_object = ap (λ (v : Use). v.resource) (sym same);
          mode = ap (λ (v : Use). v.mode) (sym same);
          wanted = e;
          policy = ap (λ (v : Use). v.policy) (sym same);
          from = from;
          limited = limited;
          extent = over.0;
          lock = subst (λ (t : ℕ). ReadsLock (Lasting c past) t (object fid n) u.lock over.0) (ap (λ (v : Use). v.target.0) (sym same))
              (subst (λ (o : Resource). ReadsLock (Lasting c past) u.want.target.0 o u.lock over.0)
              (ap (λ (v : Use). v.resource) (sym same)) (reads u j over.0 over.1));
          low = over.2;
        }

  now : (t : ℕ) (k : Lock) → Lasting c past t k → Has t k (held_at c past)
  now t k f = (f.0, f.1, f.2, f.3)

  -- ---- a read

  module _ (a : ReadToldOk past at c slot named given work) (bound : file_at c a.does.read.handle past ≡ Some a.does.read.file) where
    limits : IsCall a.running.call
    limits = limited head past g c slot a.running a.call

    abbrev y : Raid0
    y = a.done.layout

    abbrev fid : Fid
    fid = a.done.fid

    abbrev P : ℕ
    P = a.does.read.offset

    abbrev N : ℕ
    N = a.does.read.count

    abbrev U : List Using
    U = a.done.used

    some : 0 < N
    some = let k = (subst IsCall a.does.read.reads limits).1 in omega (arith, k)

    limit : P + N ≤ 1099511627776
    limit = (subst IsCall a.does.read.reads limits).3

    far : (j m : ℕ) → m ≤ 1099511627776 → below_on y j m ≤ the_end
    far j m l = let low = below_low y j m in omega (arith, low, l)

    there : (w : Use) (kind : Kind) → a.done.kind ≡ kind → In w (wants_of y fid kind) → (u : Using) × In u U × (u.want ≡ w)
    there w kind e j = mapped_in w U (subst (λ (ws : List Use). In w ws) (ap (wants_of y fid) (sym e) ∙ a.wants) j)

    wanted : (kind : Kind) → a.done.kind ≡ kind → (u : Using) → In u U → In u.want (wants_of y fid kind)
    wanted kind e u j = subst (λ (ws : List Use). In u.want ws) (sym (ap (wants_of y fid) (sym e) ∙ a.wants)) (mapped u U j)

    -- narrow
    run_uses : a.done.kind ≡ Narrow P N → (u : Using) → In u U → UseOn (Lasting c past) y fid P u
    run_uses e u j =
        let k = run_wanted y fid PR P (P + N) (stripes y) u.want
        (to_client u.want (wants_run y fid PR P (P + N) (stripes y)) (wanted (Narrow P N) e u j)) in
        use_on a.running a.call U a.uses y fid P u j k.0 (stripe_there y k.0 k.1)
        (record { first = below_on y k.0 P; last = below_on y k.0 (P + N) - 1 }) refl
        (let q = far k.0 (P + N) limit in omega (arith, q)) k.3

    rest_uses : a.done.kind ≡ Wide P N → (u : Using) → In u U → UseOn (Lasting c past) y fid P u
    rest_uses e u j =
        let k = rest_wanted y fid P (stripes y) u.want (to_client u.want (wants_rest y fid P (stripes y)) (wanted (Wide P N) e u j)) in
        use_on a.running a.call U a.uses y fid P u j k.0 (stripe_there y k.0 k.1) (to_end (below_on y k.0 P)) refl (omega arith) k.2

    places_with : ((u : Using) → In u U → UseOn (Lasting c past) y fid P u)
        → ((j : ℕ) → j < length y.targets → below_on y j P < below_on y j (P + N) → (u : Using) × In u U × (u.want.resource.stripe ≡ j))
        → PlacesOf (Lasting c past) c past y fid P N
    places_with on some = told_places head ranges past g fit heeds speaks c alive owed no_write (Lasting c past) now y fid P N U a.tells.0
        on some

    stripe_in : (j : ℕ) → j < length y.targets → In j (stripes y)
    stripe_in j low = range_has 0 (length y.targets) j (omega arith) (omega (arith, low))

    -- each of these is served by a lock that lasts
    run_served : a.done.kind ≡ Narrow P N → (w : Use) → In w (wants_of y fid (Narrow P N)) → ServedOf (Lasting c past) w
    run_served e w j =
        let u = there w (Narrow P N) e j in
        let k = run_wanted y fid PR P (P + N) (stripes y) w (to_client w (wants_run y fid PR P (P + N) (stripes y)) j) in
        subst (ServedOf (Lasting c past)) u.2 (serves a.running a.call U a.uses u.0 u.1
        (record { first = below_on y k.0 P; last = below_on y k.0 (P + N) - 1 })
        (ap (λ (v : Use). v.policy) u.2 ∙ ap (λ (v : Use). v.policy) (sym k.3)))

    rest_served : a.done.kind ≡ Wide P N → (w : Use) → In w (wants_of y fid (Wide P N)) → ServedOf (Lasting c past) w
    rest_served e w j =
        let u = there w (Wide P N) e j in
        let k = rest_wanted y fid P (stripes y) w (to_client w (wants_rest y fid P (stripes y)) j) in
        subst (ServedOf (Lasting c past)) u.2 (serves a.running a.call U a.uses u.0 u.1 (to_end (below_on y k.0 P))
        (ap (λ (v : Use). v.policy) u.2 ∙ ap (λ (v : Use). v.policy) (sym k.2)))

    -- one to the end serves less
    less_served : a.done.kind ≡ Wide P N → (w : Use) → In w (wants_of y fid (Narrow P N)) → ServedOf (Lasting c past) w
    less_served e w j =
        let k = run_wanted y fid PR P (P + N) (stripes y) w (to_client w (wants_run y fid PR P (P + N) (stripes y)) j) in
        let here = stripe_there y k.0 k.1 in
        let q = far k.0 (P + N) limit in
        let one = rest_at k.0 (stripe_in k.0 here) in
        let s = rest_served e one.0 one.1 in
        subst (ServedOf (Lasting c past)) k.3
        (record {
          lock = s.lock;
          extent = s.extent;
          reads = subst (λ (v : Use). ReadsLock (Lasting c past) v.target.0 v.resource s.lock s.extent) one.2 s.reads;
          covers = less_covered s.lock.ask.policy (to_end (below_on y k.0 P))
              (record { first = below_on y k.0 P; last = below_on y k.0 (P + N) - 1 }) refl (omega (arith, q))
              (ap (λ (v : Use). covers s.lock.ask.policy v.policy) (sym one.2) ∙ s.covers);
        })
      where
        rest_at : (j : ℕ) → In j (stripes y) → (w : Use) × In w (wants_rest y fid P (stripes y))
            × (w ≡ want y fid PR j (to_end (below_on y j P)))
        rest_at j k = found (stripes y) k
          where
            found : (js : List ℕ) → In j js → (w : Use) × In w (wants_rest y fid P js) × (w ≡ want y fid PR j (to_end (below_on y j P)))
            found [] k = absurd k
            found (m ∷ js) (inl e) = (
              want y fid PR m (to_end (below_on y m P)),
              inl refl,
              ap (λ (v : ℕ). want y fid PR v (to_end (below_on y v P))) e,
            )
            found (m ∷ js) (inr k) = let r = found js k in (r.0, inr r.1, r.2)

    abbrev Reads : Raid0 → Fid → Type 0
    Reads l f = PlacesOf (Lasting c past) c past l f P N × ((w : Use) → In w (wants_of l f (Narrow P N)) → ServedOf (Lasting c past) w)
        × (LastOf (Lasting c past) c past l f P (P + N - 1) ⊎ ((w : Use) → In w (wants_of l f (Wide P N)) → ServedOf (Lasting c past) w))

    narrow_known : a.done.kind ≡ Narrow P N → has_reached y (P + N - 1) U (store_at c past) ≡ true → (y ≡ no_file.layout) ⊎ IsLayout y
        → Reads y fid
    narrow_known e reached good = (
      places_with (run_uses e)
          (λ j low less.
          let w = run_has y fid P (P + N) (stripes y) j (stripe_in j low) less in
          let u = there w.0 (Narrow P N) e w.1 in
          (u.0, u.1, ap (λ (v : Use). v.resource.stripe) u.2 ∙ w.2)),
      run_served e,
      ⊎_elim (λ (none : y ≡ no_file.layout). inr (λ w j. absurd (subst (λ (l : Raid0). In w (wants_of l fid (Wide P N))) none j)))
          (λ (layout : IsLayout y).
          let here = stripe_of-lt y (P + N - 1) layout in
          let o = offset_within y (stripe_of y (P + N - 1)) P N (P + N - 1) layout here (omega (arith, some)) (omega (arith, some)) refl in
          inl (told_last head ranges past g fit heeds speaks c alive owed no_write (Lasting c past) now (free_lasting head c past g) y fid P
          (P + N - 1) U reached o.0 (run_uses e) (λ u j on z range. last_far u j on z range o.1)))
          good,
    )
      where
        last_far : (u : Using) → In u U → u.want.resource.stripe ≡ stripe_of y (P + N - 1) → (z : Extent) → u.lock.ask.policy ≡ Range z
            → offset_of y (P + N - 1) < below_on y (stripe_of y (P + N - 1)) (P + N) → offset_of y (P + N - 1) ≤ z.last
        last_far u j on z range less =
            let k = run_wanted y fid PR P (P + N) (stripes y) u.want
            (to_client u.want (wants_run y fid PR P (P + N) (stripes y)) (wanted (Narrow P N) e u j)) in
            let stripe : k.0 ≡ stripe_of y (P + N - 1) = ap (λ (v : Use). v.resource.stripe) k.3 ∙ on in
            let over = range_covers (Range z) (record { first = below_on y k.0 P; last = below_on y k.0 (P + N) - 1 })
            (ap (λ (v : Policy). covers v (Range (record { first = below_on y k.0 P; last = below_on y k.0 (P + N) - 1 }))) (sym range)
            ∙ ap (λ (v : Use). covers u.lock.ask.policy v.policy) k.3 ∙ (in_use a.running a.call U a.uses u j).covers) in
            let ends : z.last ≡ over.0.last = last_of z over.0 over.1 in
            let s = over.3 in
            let same : below_on y k.0 (P + N) ≡ below_on y (stripe_of y (P + N - 1)) (P + N) = ap (λ (v : ℕ). below_on y v (P + N)) stripe
            in
            omega (arith, ends, s, same, less)
          where
            last_of : (b d : Extent) → Range b ≡ Range d → b.last ≡ d.last
            last_of b d e = let same : b ≡ d = cc in ap (λ (v : Extent). v.last) same

    wide_known : a.done.kind ≡ Wide P N → Reads y fid
    wide_known e = (
      places_with (rest_uses e)
          (λ j low less.
          let w = rest_has y fid P (stripes y) j (stripe_in j low) in
          let u = there w.0 (Wide P N) e w.1 in
          (u.0, u.1, ap (λ (v : Use). v.resource.stripe) u.2 ∙ w.2)),
      less_served e,
      inr (rest_served e),
    )

    pub read_known : ReadBy (Lasting c past) c past a.does.read.handle a.does.read.offset a.does.read.count
    read_known =
        let k = subst (λ (l : Raid0). Reads l a.does.read.file.fid) a.does.layout (subst (λ (f : Fid). Reads y f) a.does.fid knows) in
        record { file = a.does.read.file; bound = bound; good = good; some = some; limit = limit; places = k.0; served = k.1; last = k.2 }
      where
        good : (a.does.read.file.layout ≡ no_file.layout) ⊎ IsLayout a.does.read.file.layout
        good = good_layout head ranges a.does.read.file.fid a.does.read.file.layout
            (file_laid head past g c slot a.running a.does.read.file a.call a.does.read.of_file)

        good_here : (y ≡ no_file.layout) ⊎ IsLayout y
        good_here = ⊎_elim (λ (e : a.does.read.file.layout ≡ no_file.layout). inl (a.does.layout ∙ e))
            (λ (l : IsLayout a.does.read.file.layout). inr (subst IsLayout (sym a.does.layout) l)) good

        knows : Reads y fid
        knows = ⊎_elim
            (λ (t : (a.done.kind ≡ Narrow P N) × (has_reached y (P + N - 1) U (store_at c past) ≡ true)
            × (given ≡ answer.Content (content y fid (store_at c past) P N))). narrow_known t.0 t.1 good_here)
            (λ (t : (a.done.kind ≡ Wide P N) × (given ≡ answer.Content
            (content y fid (store_at c past) P (min N (file_size y (stripes y) U (store_at c past) - P))))). wide_known t.0)
            a.tells.1

  -- ---- a stat

  pub stat_known : (a : StatToldOk past at c slot named given work) → (w : Use)
      → In w (wants_rest a.stat.layout a.stat.fid 0 (stripes a.stat.layout)) → ServedOf (Lasting c past) w
  stat_known a w j =
      let k = rest_wanted a.stat.layout a.stat.fid 0 (stripes a.stat.layout) w
      (to_client w (wants_rest a.stat.layout a.stat.fid 0 (stripes a.stat.layout)) j) in
      let u = mapped_in w a.done.used
      (subst (λ (ws : List Use). In w ws)
      (ap (λ (l : Raid0). wants_rest l a.stat.fid 0 (stripes l)) (sym a.of_layout)
      ∙ ap (λ (f : Fid). wants_rest a.done.layout f 0 (stripes a.done.layout)) (sym a.of_fid)
      ∙ ap (wants_of a.done.layout a.done.fid) (sym a.kind) ∙ a.wants) j) in
      subst (ServedOf (Lasting c past)) u.2 (serves a.running a.call a.done.used a.uses u.0 u.1 (to_end (below_on a.stat.layout k.0 0))
      (ap (λ (v : Use). v.policy) u.2 ∙ ap (λ (v : Use). v.policy) (sym k.2)))
