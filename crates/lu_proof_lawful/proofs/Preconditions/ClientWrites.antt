-- A write and a cut, with all their locks in use: they change one object after another, a write shows the last of its bytes there, and then
-- they are told.
use Rattle.lu_layout.specs.Raid0.{Raid0}
use Rattle.lu_base.specs.declared.locks.Resource.{Resource}
use Rattle.std.proofs.Common.{true, false, ◌≡◌, ℕ, ◌+◌, ◌-◌, List, [], ◌∷◌, ◌++◌, ◌⊎◌, inl, inr, ⊎_elim, Some, refl, sym, subst, ap, ◌∙◌}
use Rattle.std.specs.Prelude.{length, map}
use Rattle.lu_base.specs.declared.ids.At.{At}
use Rattle.lu_base.specs.declared.ids.Node.TheVariants.{Client}
use Rattle.lu_base.specs.declared.ids.Stamp.{Stamp}
use Rattle.lu_held.specs.declared.locks.HeldLock.{HeldLock}
use Rattle.lu_held.specs.declared.locks.Use.{Use}
use Rattle.lu_held.specs.declared.locks.Wanted.TheVariants.{ServingToTheEnd}
use Rattle.lu_held.specs.Locks.{reaches_end, matches}
use Rattle.lu_held.specs.declared.names.LockName.{LockName}
use Rattle.lu_spec_entries.specs.declared.uses.Using.{Using}
use Rattle.lu_spec_entries.specs.Carried.{Kind, Writes, Cuts, Work, Running}
use Rattle.lu_spec_entries.specs.Words.{Entry, Tick, Told, Line, line, with_turn, Changes, Shows}
use Rattle.lu_spec_client.specs.Advances.{tells, writes_on, writes, cuts}
use Rattle.lu_spec_client.specs.Caches.{held_at}
use Rattle.lu_spec_run.specs.Heads as table
use Rattle.lu_proof_lawful.proofs.Preconditions.Guards.{ChangesOk, In, ChangesOn, wanted_by, HadLock, used_in, CameFor, EndFirst, HeldFor}
use Rattle.lu_proof_lawful.proofs.Preconditions.Guards.{UsesHeld, Owes, pieces_of, piece_on, NotChanging}
use Rattle.lu_proof_lawful.proofs.Preconditions.Lists.{in_right, turn_more, turn}
use Rattle.lu_proof_lawful.proofs.Preconditions.ClientLines.{ends}
use Rattle.lu_proof_lawful.proofs.Preconditions.CallMoves.{Ready, ready_changes, ready_shows, went_told}
use Rattle.lu_proof_lawful.proofs.Preconditions.ClientLooks.{used_or_left}
use Rattle.lu_msg.specs.declared.answers.Answer.TheVariants as answer
use Rattle.lu_spec_entries.specs.declared.changes.Flush.{Flush}
use Rattle.lu_spec_entries.specs.declared.changes.Flush.TheVariants.{Cut, Put}
use Rattle.lu_spec_client.specs.Stripes.{below_on, bytes_on}
use Rattle.lu_proof_lawful.proofs.Preconditions.ClientHandles.{IsNoOpen, other_tied}
use Rattle.lu_proof_lawful.proofs.Preconditions.ClientTakes.{Seeking, Going}

-- ---- one piece more

write_more : (l : Raid0) (o : ℕ) (bs : List ℕ) (us : List Using) (u : Using) → writes l o bs (us ++ u ∷ []) ≡ writes l o bs us
    ++ writes_on u (below_on l u.want.resource.stripe o) (bytes_on l u.want.resource.stripe o bs)
write_more l o bs [] u = refl
write_more l o bs (v ∷ us) u =
    ap (λ (es : List Entry). writes_on v (below_on l v.want.resource.stripe o) (bytes_on l v.want.resource.stripe o bs) ++ es)
    (write_more l o bs us u)

cut_more : (l : Raid0) (n : ℕ) (us : List Using) (u : Using) → cuts l n (us ++ u ∷ []) ≡ cuts l n us
    ++ Changes u.want.resource (Cut (below_on l u.want.resource.stripe n)) ∷ []
cut_more l n [] u = refl
cut_more l n (v ∷ us) u = ap (λ (es : List Entry). Changes v.want.resource (Cut (below_on l v.want.resource.stripe n)) ∷ es)
    (cut_more l n us u)

one_after : {A : Type 0} (xs : List A) (x : A) (ys : List A) → (xs ++ x ∷ []) ++ ys ≡ xs ++ x ∷ ys
one_after [] x ys = refl
one_after (y ∷ xs) x ys = ap (λ zs. y ∷ zs) (one_after xs x ys)

module _ (head : table.Head) (c : ℕ) (stamp : Stamp) where
  abbrev at : At
  at = turn stamp (Client c)

  -- a change, or the end of the call, is what comes next
  record Pays (q : List Line) : Type 0 where
    changes : (resource : Resource) (change : Flush) → Owes q at (Changes resource change)
    told : (slot : ℕ) (t : At) (w : Work) → Owes q at (Told slot t answer.Done (Some w))

  -- where anything may come no call is at its changes
  not_changing : (q : List Line) → ((e : Entry) → Owes q at e) → NotChanging q
  not_changing [] any = tt
  not_changing (l ∷ q) any = by l.entry any
    where
      by : (b : Entry) → ((e : Entry) → Owes (line l.at b ∷ q) at e) → NotChanging (line l.at b ∷ q)
      by (Changes resource change) o = absurd (o Tick).1
      by (Shows resource cookie last) o = λ n. absurd (o Tick).1
      by b o = tt

  module _ (slot : ℕ) (r : Running) (kind : Kind) (pins : List LockName) (w : Work) (before p : List Line)
      (g : Seeking head c stamp slot r kind pins w [] before p) (on : ChangesOn r w) (owing : (e : Entry) → Owes p at e) where
    wants : wanted_by w ≡ map (λ (u : Using). u.want) w.used
    wants = g.order ∙ ends (map (λ (u : Using). u.want) w.used)

    no_open : ChangesOn r w → IsNoOpen r.call
    no_open (inl d) = subst IsNoOpen (sym d.writes) tt
    no_open (inr d) = subst IsNoOpen (sym d.cuts) tt

    locked : (q : List Line) → ((u : Using) → In u w.used → HadLock c slot u.want q) → (x : Use) → In x (wanted_by w) → HadLock c slot x q
    locked q had x i =
        ⊎_elim (λ (k : (u : Using) × In u w.used × (u.want ≡ x)). subst (λ (y : Use). HadLock c slot y q) k.2 (had k.0 k.1))
        (λ (n : ⊥). absurd n)
        (used_or_left (wanted_by w) (record w { left = [] }) g.order x i)

    fresh : NotChanging p
    fresh = not_changing p owing

    -- the locks in use are held still
    held_still : (q z : List Line) → held_at c z ≡ held_at c q → UsesHeld c q r w.used → UsesHeld c z r w.used
    held_still q z same uses u i = ⊎_elim (λ (j : In u (used_in r.stage)). inl j) (λ (k : HeldFor c q r u). inr (still k)) (uses u i)
      where
        still : HeldFor c q r u → HeldFor c z r u
        still k =
            let l = k.locked in
            record {
              locked = record {
                holding = l.holding;
                held = subst (λ (hs : List HeldLock). In l.holding hs) (sym same) l.held;
                of_target =
                    l.of_target;
                of_object = l.of_object;
                ranged = l.ranged;
              };
              is = k.is;
              does = k.does;
              apart = ⊎_elim (λ (a : (l.holding.marked ≡ false) × EndFirst c q u). inl (
                a.0,
                subst (λ (hs : List HeldLock). (h : HeldLock) → In h hs → matches (ServingToTheEnd u.want) h ≡ true
                    → reaches_end u.lock.ask.policy ≡ true) (sym same) a.1,
              )) (λ (a : CameFor r u). inr a) k.apart;
            }

    -- of what it made so far
    record Made (done : List Using) (q : List Line) : Type 0 where
      ready : Ready head c stamp slot r before q
      is : q ≡ with_turn at (pieces_of w.layout w.kind done) p
      pays : Pays q
      had : (u : Using) → In u w.used → HadLock c slot u.want q
      uses : UsesHeld c q r w.used

    change_ok : (done : List Using) (u : Using) (us : List Using) (q : List Line) (change : Flush) → Made done q → w.used ≡ done ++ u ∷ us
        → piece_on w.layout w.kind u.want.resource.stripe ≡ Some change → ChangesOk q at c u.want.resource change
    change_ok done u us q change m parts is =
        record {
          slot = slot;
          running = r;
          call = m.ready.call;
          still = m.ready.still;
          work = w;
          does = on;
          wants = wants;
          done = done;
          next = u;
          more = us;
          parts = parts;
          of_object = refl;
          is = is;
          before = p;
          made = m.is;
          fresh = fresh;
          uses = m.uses;
        }

    -- it is told
    done_good : (done : List Using) (q : List Line) → Made done q → w.used ≡ done
        → Going head c stamp slot r before (tells slot (record r { pins = pins }) at answer.Done (Some w)) q
    done_good done q m parts covered =
        went_told head c stamp slot r at answer.Done (Some w) pins before q m.ready (m.pays.told slot at w)
        (inr (inr (inr (inr (inr (inr (inr (inr (record {
          running = r;
          call = m.ready.call;
          still = m.ready.still;
          done = w;
          of_work = refl;
          does = on;
          wants = wants;
          locked = locked q m.had;
          uses = m.uses;
          made = record {
            before = p;
            is = m.is ∙ ap (λ (us : List Using). with_turn at (pieces_of w.layout w.kind us) p) (sym parts);
            fresh = fresh;
          };
          of_turn = refl;
          of_answer = refl;
        })))))))))
        (other_tied c stamp q slot at answer.Done (Some w) r m.ready.call (no_open on) m.ready.handles)

    write_good : (o : ℕ) (bs : List ℕ) → w.kind ≡ Writes o bs → (us done : List Using) (q : List Line) → Made done q → w.used ≡ done ++ us
        → Going head c stamp slot r before (writes w.layout o bs us ++ tells slot (record r { pins = pins }) at answer.Done (Some w)) q
    write_good o bs is [] done q m parts covered = done_good done q m (parts ∙ ends done) covered
    write_good o bs is (u ∷ us) done q m parts covered = write_good o bs is us (done ++ u ∷ []) q2 next (parts ∙ sym (one_after done u us))
        covered.1.1
      where
        first : ℕ
        first = below_on w.layout u.want.resource.stripe o

        bytes : List ℕ
        bytes = bytes_on w.layout u.want.resource.stripe o bs

        q1 : List Line
        q1 = line at (Changes u.want.resource (Put first bytes)) ∷ q

        last : ℕ
        last = first + length bytes - 1

        q2 : List Line
        q2 = line at (Shows u.want.resource u.lock.cookie last) ∷ q1

        next : Made (done ++ u ∷ []) q2
        next =
            record {
              ready =
                  ready_shows head c stamp slot r u.want.resource u.lock.cookie last before q1
                  (ready_changes head c stamp slot r u.want.resource (Put first bytes) before q m.ready
                  (m.pays.changes u.want.resource (Put first bytes))
                  (change_ok done u us q (Put first bytes) m parts (ap (λ (k : Kind). piece_on w.layout k u.want.resource.stripe) is)))
                  (refl, tt) (inl (record {
                    slot = slot;
                    running = r;
                    call = m.ready.call;
                    work = w;
                    does = on;
                    wants = wants;
                    uses = held_still q q1 refl m.uses;
                    under = u;
                    among = subst (λ (xs : List Using). In u xs) (sym parts) (in_right u done (u ∷ us) (inl refl));
                    of_cookie = refl;
                    of_object = refl;
                    first = first;
                    bytes = bytes;
                    piece = ap (λ (k : Kind). piece_on w.layout k u.want.resource.stripe) is;
                    wrote = (refl, refl);
                    is = refl;
                  }));
              is =
                  ap (λ (x : List Line). line at (Shows u.want.resource u.lock.cookie last)
                  ∷ line at (Changes u.want.resource (Put first bytes)) ∷ x)
                  (m.is ∙ ap (λ (k : Kind). with_turn at (pieces_of w.layout k done) p) is)
                  ∙ sym (turn_more at (writes w.layout o bs done) (writes_on u first bytes) p)
                  ∙ ap (λ (es : List Entry). with_turn at es p) (sym (write_more w.layout o bs done u))
                  ∙ ap (λ (k : Kind). with_turn at (pieces_of w.layout k (done ++ u ∷ [])) p) (sym is);
              pays = record { changes = λ x y. (refl, tt); told = λ s t v. (refl, refl) };
              had = λ v i. inr (inr (m.had v i));
              uses = held_still q q2 refl m.uses;
            }

    cut_good : (n : ℕ) → w.kind ≡ Cuts n → (us done : List Using) (q : List Line) → Made done q → w.used ≡ done ++ us
        → Going head c stamp slot r before (cuts w.layout n us ++ tells slot (record r { pins = pins }) at answer.Done (Some w)) q
    cut_good n is [] done q m parts covered = done_good done q m (parts ∙ ends done) covered
    cut_good n is (u ∷ us) done q m parts covered = cut_good n is us (done ++ u ∷ []) q1 next (parts ∙ sym (one_after done u us)) covered.1
      where
        change : Flush
        change = Cut (below_on w.layout u.want.resource.stripe n)

        q1 : List Line
        q1 = line at (Changes u.want.resource change) ∷ q

        next : Made (done ++ u ∷ []) q1
        next =
            record {
              ready =
                  ready_changes head c stamp slot r u.want.resource change before q m.ready (m.pays.changes u.want.resource change)
                  (change_ok done u us q change m parts (ap (λ (k : Kind). piece_on w.layout k u.want.resource.stripe) is));
              is =
                  ap (λ (x : List Line). line at (Changes u.want.resource change) ∷ x)
                  (m.is ∙ ap (λ (k : Kind). with_turn at (pieces_of w.layout k done) p) is)
                  ∙ sym (turn_more at (cuts w.layout n done) (Changes u.want.resource change ∷ []) p)
                  ∙ ap (λ (es : List Entry). with_turn at es p) (sym (cut_more w.layout n done u))
                  ∙ ap (λ (k : Kind). with_turn at (pieces_of w.layout k (done ++ u ∷ [])) p) (sym is);
              pays = record { changes = λ x y. (refl, tt); told = λ s t v. (refl, refl) };
              had = λ v i. inr (m.had v i);
              uses = held_still q q1 refl m.uses;
            }

    none_kind : (k : Kind) → pieces_of w.layout k [] ≡ []
    none_kind (Writes o bs) = refl
    none_kind (Cuts n) = refl
    none_kind k = refl

    start : Made [] p
    start =
        record {
          ready = g.ready;
          is = sym (ap (λ (es : List Entry). with_turn at es p) (none_kind w.kind));
          pays = record { changes = λ x y. owing (Changes x y); told = λ s t v. owing (Told s t answer.Done (Some v)) };
          had = g.had;
          uses = g.uses;
        }

    pub writes_good : (o : ℕ) (bs : List ℕ) → w.kind ≡ Writes o bs
        → Going head c stamp slot r before (writes w.layout o bs w.used ++ tells slot (record r { pins = pins }) at answer.Done (Some w)) p
    writes_good o bs is = write_good o bs is w.used [] p start refl

    pub cuts_good : (n : ℕ) → w.kind ≡ Cuts n → Going head c stamp slot r before
        (cuts w.layout n w.used ++ tells slot (record r { pins = pins }) at answer.Done (Some w)) p
    cuts_good n is = cut_good n is w.used [] p start refl
