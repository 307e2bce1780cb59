use Rattle.std.proofs.Common.{◌≡◌, ℕ, ◌+◌, ◌<◌, ◌∷◌, [], List, length, get_or, refl, sym, subst, ap, ◌∙◌, arith}
use Rattle.std.proofs.lemmas.List.{append-nil, length-append}
use Rattle.lu_service.specs.declared.services.Kind.TheVariants.{Ost}
use Rattle.lu_spec_run.specs.Scenarios.{head_of}
use Rattle.lu_run_nodes.specs.States.{TargetSeat}
use Rattle.lu_run_nodes.specs.Shown.{IsUnstarted, kind_of}
use Rattle.lu_run_nodes.proofs.Giving.{one_taken}
use Rattle.lu_run_nodes.proofs.StartsMade.{none_below, object_sort, one_added, all_seated, one_at_least}
use Rattle.lu_run_nodes.proofs.starts.first_objects.Goals as goal

pub loop-target-init : goal.loop-target-init
loop-target-init g c =
    let none : c.new-objects.result.items ≡ [] = c.new-objects.ensures.items in
    record {
      count = ap (λ (xs : List TargetSeat). length xs + 1) none;
      enough = let enough = c.requires.enough in omega (arith, enough);
      rest = ([], sym (append-nil c.args.disks.now.items), refl);
      empty = c.requires.empty;
      unstarted = λ i d below. absurd (none_below i (subst (λ (xs : List TargetSeat). i < length xs) none below));
    }

pub loop-target-preserved : goal.loop-target-preserved
loop-target-preserved g c =
    let objects = c.loop-target.objects.items in
    let seat = c.seat.result in
    let n = length objects in
    let target : c.loop-target.target ≡ n + 1 = sym c.loop-target.invariant.count in
    let items = c.in_ok-push.ensures.items in
    let more : length c.push.new.self.items ≡ n + 1 = ap (λ (xs : List TargetSeat). length xs) items ∙ length-append objects (seat ∷ []) in
    let new : IsUnstarted (head_of c.args.head.now) (n + 1) seat =
    subst (λ (t : ℕ). IsUnstarted (head_of c.args.head.now) t seat) target
    (c.seat.ensures.unstarted (subst (λ (t : ℕ). Ost ≡ kind_of t) (sym target) (object_sort n))) in
    record {
      count = omega (arith, more, target);
      enough = let fewer = c.seat.ensures.fewer in let enough = c.loop-target.invariant.enough in omega arith;
      rest =
          one_taken {D = g.row.D.Denot} c.args.disks.now.items c.loop-target.disks.items c.seat.new.disks.items c.loop-target.target
          c.loop-target.invariant.rest
          c.seat.ensures.rest;
      empty = c.seat.ensures.empty;
      unstarted = λ i d below.
          subst (λ (xs : List TargetSeat). IsUnstarted (head_of c.args.head.now) (i + 1) (get_or xs i d)) (sym items)
          (one_added (λ k s. IsUnstarted (head_of c.args.head.now) (k + 1) s) objects n seat refl c.loop-target.invariant.unstarted new i d
          (subst (λ (k : ℕ). i < k) more below));
    }

pub returns-clause-count : goal.returns-clause-count
returns-clause-count g c =
    all_seated (length c.loop-target.objects.items) c.loop-target.target c.args.head.now.osts c.loop-target.invariant.count
    (c.loop-target.auto.target-end (one_at_least c.args.head.now.osts)) c.loop-target-test.false

pub returns-clause-rest : goal.returns-clause-rest
returns-clause-rest g c =
    let rest = c.loop-target.invariant.rest in (
      rest.0,
      rest.1,
      all_seated (length rest.0) c.loop-target.target c.args.head.now.osts rest.2
          (c.loop-target.auto.target-end (one_at_least c.args.head.now.osts)) c.loop-target-test.false,
    )
