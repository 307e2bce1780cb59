-- One transaction, performed again by a service of either kind.
use Rattle.std.proofs.Common.{◌≡◌, ℕ, ◌+◌, ◌<◌, ◌≤◌, Bool, true, false, List, [], ◌∷◌, refl, sym, ap, subst, ◌∙◌, arith}
use Rattle.lu_base.specs.declared.ids.At.{At}
use Rattle.lu_base.specs.declared.ids.Who.{Who}
use Rattle.lu_base.specs.declared.locks.Lock.{Lock}
use Rattle.lu_spec_machine.specs.Footprint.{Operation}
use Rattle.lu_msg.specs.declared.answers.Answer.{Answer}
use Rattle.lu_msg.specs.declared.commits.Transaction.{Transaction}
use Rattle.lu_msg.specs.declared.operations.Op.{Op}
use Rattle.lu_msg.specs.declared.operations.Op.TheVariants as op
use Rattle.lu_part.specs.declared.parts.Part.{Part}
use Rattle.lu_service.specs.declared.services.Kind.{Kind}
use Rattle.lu_service.specs.declared.services.Kind.TheVariants.{Mdt, Ost}
use Rattle.lu_service.specs.Acts.{Acts, IsLawful}
use Rattle.lu_service.specs.Contents.{Contents, asked}
use Rattle.lu_service.specs.Names.{names}
use Rattle.lu_service.specs.Objects.{objects}
use Rattle.lu_service.specs.Takes.{Takes, IsOfBytes, IsOnObject}
use Rattle.lu_spec_entries.specs.Carried.{Deed, Contents as Read}
use Rattle.lu_spec_target.specs.Outcomes.{redone}
use Rattle.lu_spec_target.specs.States.{Target}
use Rattle.lu_spec_target.specs.Stored.{forgotten}
use Rattle.lu_spec_target.specs.Windows.{Replayed}
use Rattle.lu_target_refines.specs.Contents.{all_forgotten}
use Rattle.lu_target_refines.proofs.Names as names_of
use Rattle.lu_target_refines.proofs.Objects as objects_of
use Rattle.lu_target_redo.specs.declared.deeds.Close.{Close}
use Rattle.lu_target_redo.specs.Shown.{IsRepeatable, Shows, ShowsDone, AreDeeds, ShowsForgotten}

-- ---- what is performed is asked about too

on_object : (o : Op) → IsOfBytes o → IsOnObject o
on_object (op.Lookup path) is = absurd is
on_object (op.Stat path) is = absurd is
on_object (op.List path) is = absurd is
on_object (op.Layout path) is = absurd is
on_object (op.Mkdir path) is = absurd is
on_object (op.Create path size count) is = absurd is
on_object (op.Link one new) is = absurd is
on_object (op.Unlink path) is = absurd is
on_object (op.Rmdir path) is = absurd is
on_object (op.Rename one new) is = absurd is
on_object (op.Chmod path mode) is = absurd is
on_object (op.Open path) is = absurd is
on_object (op.Close opened fid) is = absurd is
on_object (op.Enqueue resource mode extent) is = absurd is
on_object (op.Get resource cookie page) is = absurd is
on_object (op.Put resource cookie offset bytes) is = is
on_object (op.Cut resource cookie size) is = is
on_object (op.Size resource) is = is

pub takes : (kind : Kind) (o : Op) → IsRepeatable kind o → Takes kind o
takes Mdt o is = is.0
takes Ost o is = on_object o is.0

-- ---- the greatest number that was used

pub last_used : (acts : Acts) (kind : Kind) → IsLawful acts kind → (s : Contents) (a : Operation) → s.last < a.number.0
    → (acts.after s a).last ≤ a.number.0
last_used acts kind lawful s a above = by (acts.changes s a) refl where
  by : (would : Bool) → acts.changes s a ≡ would → (acts.after s a).last ≤ a.number.0
  by true h = subst (λ n. n ≤ a.number.0) (sym (lawful.changed s a h).1) (omega arith)
  by false h = subst (λ n. n ≤ a.number.0) (sym (lawful.unchanged s a h).1) (omega (arith, above))

pub last_forgotten : (acts : Acts) (kind : Kind) → IsLawful acts kind → (s : Contents) (gone : List Who) → (all_forgotten acts gone s).last
    ≡ s.last
last_forgotten acts kind lawful s [] = refl
last_forgotten acts kind lawful s (who ∷ gone) = last_forgotten acts kind lawful (acts.forgotten s who) gone ∙ lawful.forgotten s who

-- ---- what is shown after it

pub shows_one : (kind : Kind) (acts : Acts) → IsLawful acts kind → (kind ≡ Mdt → acts ≡ names) → (kind ≡ Ost → acts ≡ objects)
    → (s new : Contents) (t : Transaction) → IsRepeatable kind t.op
    → new ≡ acts.after s (asked t.txn t.who t.op) → ShowsDone kind (t ∷ []) s new
shows_one Mdt acts lawful mdt ost s new t may e osts c n shows rising =
    names_of.performs acts (mdt refl) osts (n + 1) s new c shows t (omega (arith, rising.0)) may.0 e
shows_one Ost acts lawful mdt ost s new t may e osts c n shows rising =
    let used : s.last ≤ n = shows.0 in
    let above : s.last < t.txn.0 = omega (arith, used, rising.0) in (
      subst (λ (it : Contents). it.last ≤ t.txn.0) (sym e) (last_used acts Ost lawful s (asked t.txn t.who t.op) above),
      objects_of.puts acts (ost refl) osts s new c shows.1 t e,
    )

pub shows_forgotten : (kind : Kind) (acts : Acts) → IsLawful acts kind → (kind ≡ Mdt → acts ≡ names) → (kind ≡ Ost → acts ≡ objects)
    → (s new : Contents) (gone : List Who)
    → new ≡ all_forgotten acts gone s → ShowsForgotten kind gone s new
shows_forgotten Mdt acts lawful mdt ost s new gone e osts c n shows =
    subst (λ (it : Contents). Shows Mdt osts n it (forgotten gone c)) (sym e)
    (names_of.forgets_all acts (mdt refl) osts (n + 1) s c shows gone)
shows_forgotten Ost acts lawful mdt ost s new gone e osts c n shows =
    subst (λ (it : Contents). Shows Ost osts n it (forgotten gone c)) (sym e) (
      subst (λ (m : ℕ). m ≤ n) (sym (last_forgotten acts Ost lawful s gone)) shows.0,
      objects_of.forgets_objects acts (ost refl) s c shows.1 gone,
    )

-- ---- for a caller: what is shown says which numbers were used, and a higher number will do

pub last_shown : (kind : Kind) (osts n : ℕ) (own : Contents) (c : Read) → Shows kind osts n own c → own.last ≤ n
last_shown Mdt osts n own c shows = omega (arith, shows.last)
last_shown Ost osts n own c shows = shows.0

pub shows_above : (kind : Kind) (osts n m : ℕ) (own : Contents) (c : Read) → n ≤ m → Shows kind osts n own c → Shows kind osts m own c
shows_above Mdt osts n m own c le shows = names_of.shows_below osts (n + 1) (m + 1) own c (omega (arith, le)) shows
shows_above Ost osts n m own c le shows = (omega (arith, le, shows.0), shows.1)

-- ---- the deed of a kept replay

-- with this answer and these written parts; it has seen nothing, and no lock comes with it
abbrev pub deed_with : Close → Replayed → Answer → (written : List Part) → (seen : List ℕ) → (locks : List Lock) → Deed
deed_with close r told written seen locks =
    record {
      tag = r.tag;
      op = r.op;
      writes = written;
      reply = record {
        who = r.who;
        boot = close.boot;
        xid = record { 0 = r.xid };
        txn = record { 0 = r.number };
        committed = close.committed;
        seen = seen;
        at = close.at;
        locks = locks;
        answer = told;
      };
    }

-- in this boot and with this committed number
abbrev in_boot : At → (boot committed : ℕ) → Close
in_boot at boot committed = record { at = at; boot = boot; committed = record { 0 = committed } }

with_same : (v : Target) (close : Close) (r : Replayed) (told : Answer) (written : List Part) (seen : List ℕ) (locks : List Lock) → v.boot
    ≡ close.boot → v.committed ≡ close.committed.0 → seen ≡ [] → locks ≡ []
    → deed_with close r told written seen locks ≡ deed_with (in_boot close.at v.boot v.committed) r told written [] []
with_same v close r told written seen locks boot committed none_seen no_locks =
    ap (λ (ns : List ℕ). deed_with close r told written ns locks) none_seen
    ∙ ap (λ (ls : List Lock). deed_with close r told written [] ls) no_locks
    ∙ ap (λ (n : ℕ). deed_with (in_boot close.at n close.committed.0) r told written [] []) (sym boot)
    ∙ ap (λ (n : ℕ). deed_with (in_boot close.at v.boot n) r told written [] []) (sym committed)

pub deed_one : (kind : Kind) (acts : Acts) → (kind ≡ Mdt → acts ≡ names) → (kind ≡ Ost → acts ≡ objects)
    → (s : Contents) (close : Close) (r : Replayed) → IsRepeatable kind r.op
    → (told : Answer) (written : List Part) (seen : List ℕ) (locks : List Lock) → told ≡ acts.answer s (redone r) → written
    ≡ acts.writes s (redone r) → seen ≡ [] → locks ≡ []
    → AreDeeds kind close (r ∷ []) s (deed_with close r told written seen locks ∷ [])
deed_one Mdt acts mdt ost s close r may told written seen locks t w none_seen no_locks v c n shows boot committed rising =
    ap (λ (d : Deed). d ∷ [])
    (with_same v close r told written seen locks boot committed none_seen no_locks
    ∙ sym (names_of.deed_again_is acts (mdt refl) (n + 1) s c v shows close.at r told written may.0 t w))
deed_one Ost acts mdt ost s close r may told written seen locks t w none_seen no_locks v c n shows boot committed rising =
    ap (λ (d : Deed). d ∷ [])
    (with_same v close r told written seen locks boot committed none_seen no_locks
    ∙ sym (objects_of.deed_again_objects acts (ost refl) s c v close.at r told written (may.1 refl) t w))
