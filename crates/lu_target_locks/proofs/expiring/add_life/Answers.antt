-- The life is in its place.
use Rattle.std.proofs.Common.{rules, ◌≡◌, true, false, Some, None, get_or, sym, ap, ◌∙◌}
use Rattle.std.specs.Prelude.{if◌then◌else◌, insert, position}
use Rattle.lu_spec_entries.specs.Words.{same_life}
use Rattle.lu_target_locks.specs.Reminding.{stands_from}
use Rattle.lu_target_locks.proofs.LifePlaces.{put_at, put_last}
use Rattle.lu_target_locks.proofs.expiring.add_life.Goals as goal

pub returns-in_ok-insert-in-Some : goal.returns-in_ok-insert-in-Some
returns-in_ok-insert-in-Some c =
    let lives = c.args.lives.now.items in
    let place = c.in-Some.place in
    let some : Some place ≡ position (stands_from c.args.who) lives = search rules in
    let d = c.index.result.now in
    let it : d ≡ get_or lives place d = c.index.ensures in
    let test : same_life c.args.who d ≡ false = search rules in
    let apart : same_life c.args.who (get_or lives place d) ≡ false = ap (same_life c.args.who) (sym it) ∙ test in
    record {
      added = c.in_ok-insert-in-Some.ensures.items
          ∙ sym (put_at c.args.who lives place d some ∙ ap (λ b. if b then lives else insert lives place c.args.who) apart);
    }

pub returns-else-not-is_same : goal.returns-else-not-is_same
returns-else-not-is_same c =
    let lives = c.args.lives.now.items in
    let place = c.in-Some.place in
    let some : Some place ≡ position (stands_from c.args.who) lives = search rules in
    let d = c.index.result.now in
    let it : d ≡ get_or lives place d = c.index.ensures in
    let test : same_life c.args.who d ≡ true = search rules in
    let same : same_life c.args.who (get_or lives place d) ≡ true = ap (same_life c.args.who) (sym it) ∙ test in
    record { added = sym (put_at c.args.who lives place d some ∙ ap (λ b. if b then lives else insert lives place c.args.who) same) }

pub returns-in_ok-push-in-None : goal.returns-in_ok-push-in-None
returns-in_ok-push-in-None c =
    let none : None ≡ position (stands_from c.args.who) c.args.lives.now.items = search rules in
    record { added = c.in_ok-push-in-None.ensures.items ∙ sym (put_last c.args.who c.args.lives.now.items none) }
