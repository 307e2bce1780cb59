-- A node shows the past with the turn of another node as it showed the past.
use Rattle.std.proofs.Common.{◌≡◌, ℕ, ◌+◌, false, List, [], arith, sym, subst, ap, ◌∙◌}
use Rattle.std.specs.Prelude.{Option, Some, None}
use Rattle.lu_base.specs.declared.ids.At.{At}
use Rattle.lu_service.specs.declared.services.Kind.{Kind}
use Rattle.lu_spec_entries.specs.Words.{Entry, Line, with_turn, is_client, is_target}
use Rattle.lu_spec_target.specs.Rows.{overruns}
use Rattle.lu_spec_target.specs.States.{Target}
use Rattle.lu_target.specs.Repeating.{Repeats, IsLeft}
use Rattle.lu_target.specs.Running.{IsIn}
use Rattle.lu_target.specs.Targets.{TargetState}
use Rattle.lu_spec_run.specs.Heads.{Head}
use Rattle.lu_spec_run.specs.Runs.{limits_of, setting_of, target_of}
use Rattle.lu_proof_run.proofs.Clients.{client_other, dead_other}
use Rattle.lu_proof_run.proofs.Targets.{target_other}
use Rattle.lu_run_nodes.specs.States.{ClientSeat, DiskState, TargetSeat}
use Rattle.lu_run_nodes.specs.Shown.{ShowsClient, IsUp, IsDown, Stands, ShowsTarget}

pub client_stays : (head : Head) (turns : ℕ) (past : List Line) (c : ℕ) (seat : ClientSeat) (at : At) (es : List Entry)
    → is_client c at.node ≡ false
    → ShowsClient head turns past c seat → ShowsClient head (turns + 1) (with_turn at es past) c seat
client_stays head turns past c seat at es other shows =
    record {
      client = shows.client ∙ sym (client_other (limits_of head) c past at es other);
      limits = shows.limits;
      unspent = shows.unspent;
      who = shows.who;
      asked = λ t. omega (arith, shows.asked t);
      dead = shows.dead ∙ sym (dead_other c past at es other);
    }

-- ---- a target of which two pasts tell the same

module _ (head : Head) (t : ℕ) (kind : Kind) (old new : List Line) (same : target_of head t new ≡ target_of head t old) where
  up_stays : (s : TargetState) → IsUp head old t kind s → IsUp head new t kind s
  up_stays s up =
      record {
        up = ap (λ (v : Target). v.up) same ∙ up.up;
        id = up.id;
        unspent = up.unspent;
        sort = up.sort;
        shows = subst (IsIn s.running) (sym same) up.shows;
        repeats = subst (Repeats kind s.running) (sym same) up.repeats;
      }

  down_stays : (d : DiskState) → IsDown head old t kind d → IsDown head new t kind d
  down_stays d down =
      record {
        down = ap (λ (v : Target). v.up) same ∙ down.down;
        some = down.some;
        left = subst (IsLeft kind d.batches) (sym same) down.left;
        counted = ap (λ (v : Target). overruns v []) same ∙ down.counted;
      }

  stands_still : (target : Option TargetState) (disk : Option DiskState) → Stands head old t kind target disk
      → Stands head new t kind target disk
  stands_still (Some s) disk up = up_stays s up
  stands_still None (Some d) down = down_stays d down
  stands_still None None none = none

pub target_stays : (head : Head) (past : List Line) (t : ℕ) (seat : TargetSeat) (at : At) (es : List Entry) → is_target t at.node ≡ false
    → ShowsTarget head past t seat → ShowsTarget head (with_turn at es past) t seat
target_stays head past t seat at es other shows =
    record {
      sits = shows.sits;
      stands = stands_still head t seat.kind past (with_turn at es past) (target_other (setting_of head t) head.clients past at es other)
          seat.target seat.disk shows.stands;
    }
