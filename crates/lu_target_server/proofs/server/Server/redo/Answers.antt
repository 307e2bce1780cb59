-- One deed more, and in the end all.
use Rattle.std.proofs.Common.{◌≡◌, [], ◌∷◌, List, length, map, refl, sym, subst, rules}
use Rattle.std.proofs.lemmas.List.{nil_from_length}
use Rattle.std.specs.Vec.Iter.{into_iter_items}
use Rattle.lu_target_redo.specs.declared.deeds.Deed.{Deed}
use Rattle.lu_target_redo.specs.Shown.{deed_of}
use Rattle.lu_target_server.proofs.Releases.{disk_then}
use Rattle.lu_target_server.proofs.Redoing.{Redoing, redoing_begins, redoing_asks, redoing_goes, redoing_ends, same_then}
use Rattle.lu_target_server.proofs.server.Server.redo.Goals as goal

pub loop-deed-init : goal.loop-deed-init
loop-deed-init g c =
    let whole : into_iter_items c.into_iter-deed-iterator.result ≡ c.args.deeds = search rules in
    record {
      can_next = tt;
      is_finite = tt;
      count = search rules;
      goes = λ v can.
          subst (λ (left : List Deed). Redoing (map deed_of c.args.deeds) (map deed_of left) c.args.self.now.store v) (sym whole)
          (redoing_begins (map deed_of c.args.deeds) c.args.self.now v can);
      same = refl;
      disk = record { batches = refl; faults = refl };
    }

pub redo_one-requires : goal.redo_one-requires
redo_one-requires g c =
    let v = c.requires.can.0 in
    let rest = into_iter_items c.next.new.self in
    let left : into_iter_items c.loop-deed.deed-iterator ≡ c.in-Some.deed ∷ rest = search rules in
    record {
      next = redoing_asks (map deed_of c.args.deeds) (map deed_of rest) (deed_of c.in-Some.deed) c.loop-deed.self.store v
          (subst (λ (them : List Deed). Redoing (map deed_of c.args.deeds) (map deed_of them) c.loop-deed.self.store v) left
          (c.loop-deed.invariant.goes v c.requires.can.1));
    }

pub loop-deed-preserved : goal.loop-deed-preserved
loop-deed-preserved g c =
    let rest = into_iter_items c.next.new.self in
    let left : into_iter_items c.loop-deed.deed-iterator ≡ c.in-Some.deed ∷ rest = search rules in
    record {
      can_next = tt;
      is_finite = tt;
      count = search rules;
      goes = λ v can.
          redoing_goes (map deed_of c.args.deeds) (map deed_of rest) (deed_of c.in-Some.deed) c.loop-deed.self.store
          c.redo_one.new.self.store v c.in_ok-redo_one.ensures.redone c.in_ok-redo_one.ensures.newest
          (subst (λ (them : List Deed). Redoing (map deed_of c.args.deeds) (map deed_of them) c.loop-deed.self.store v) left
          (c.loop-deed.invariant.goes v can));
      same = same_then c.args.self.now c.loop-deed.self c.redo_one.new.self c.loop-deed.invariant.same c.redo_one.ensures.same;
      disk = disk_then c.args.self.now.store c.loop-deed.self.store c.redo_one.new.self.store c.loop-deed.invariant.disk
          c.redo_one.ensures.disk;
    }

pub returns-clause-redone : goal.returns-clause-redone
returns-clause-redone g c =
    let no_count : length (into_iter_items c.loop-deed.deed-iterator) ≡ 0 = search rules in
    let ended : into_iter_items c.loop-deed.deed-iterator ≡ [] = nil_from_length (into_iter_items c.loop-deed.deed-iterator) no_count in
    λ v can.
    redoing_ends (map deed_of c.args.deeds) c.loop-deed.self.store v
    (subst (λ (them : List Deed). Redoing (map deed_of c.args.deeds) (map deed_of them) c.loop-deed.self.store v) ended
    (c.loop-deed.invariant.goes v can))
