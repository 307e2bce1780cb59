-- The first of the queue that waits is passed.
use Rattle.std.proofs.Common.{◌≡◌, ◌+◌, ◌==◌, ◌&&◌, ◌∙◌, sym, ap, [], Some, refl}
use Rattle.std.specs.Prelude.{map, unwrap_or, slice_get}
use Rattle.std.specs.Option.{option_map, option_copied}
use Rattle.std.specs.HashMap.{get_by}
use Rattle.lu_judge_locks.specs.Lists.{arrival_of}
use Rattle.lu_judge_locks.proofs.Passing.{lasting, first_is, no_first, passes_none, passes_one, cleared_shown}
use Rattle.lu_judge_locks.proofs.Turning.{unwrapped, emptied, zeroed}
use Rattle.lu_judge_locks.proofs.waiting.Waiting.pass.Goals as goal

pub returns-in_default : goal.returns-in_default
returns-in_default c = record {
  granted = λ place all more shown is.
      passes_none c.args.self.now c.args.target c.args.cookie.0 place all more shown is
      (no_first c.args.self.now c.args.target c.args.cookie.0 place all shown
      (ap (λ o. unwrap_or (option_map (λ list. map arrival_of list.items) o) [])
      (sym c.get.ensures.value ∙ ap option_copied c.in_default.is)));
}

pub returns-in_default-get_at : goal.returns-in_default-get_at
returns-in_default-get_at c = record {
  granted = λ place all more shown is.
      let none =
      sym
      (first_is c.args.self.now c.args.target c.args.cookie.0 c.next-at.result c.as_slice-queue.result.now place all shown
      (ap (λ o. unwrap_or (option_map (λ list. map arrival_of list.items) o) []) (sym c.get.ensures.value ∙ ap option_copied c.in-Some.is)
      ∙ ap (map arrival_of) (sym c.as_slice-queue.ensures.value))
      (c.next-at.ensures.over ∙ ap (λ n. lasting c.args.self.now c.args.target n c.as_slice-queue.result.now) c.passed.ensures)
      c.next-at.ensures.waits)
      ∙ ap (option_map arrival_of) (sym c.get_at.ensures ∙ c.in_default-get_at.is) in
      passes_none _ c.args.target c.args.cookie.0 place all more
      (cleared_shown c.args.self.now _ c.args.target c.args.cookie.0
      (record {
        lists = λ place all shown. shown;
        lasts = λ n a. refl;
        queues = λ n other. emptied (λ list. map arrival_of list.items) [] (c.args.target == n && c.args.cookie.0 == other) _
            (get_by (λ k. n == k.0 && other == k.1) c.args.self.now.queues) (c.remove.ensures.updates.0 (n, other));
        passed = λ n other. zeroed (c.args.target == n && c.args.cookie.0 == other) _
            (get_by (λ k. n == k.0 && other == k.1) c.args.self.now.passed) (c.remove-in_default-get_at.ensures.updates.0 (n, other));
      })
      place all none shown)
      is none;
}

pub returns : goal.returns
returns c =
    let there : slice_get c.as_slice-queue.result.now c.next-at.result ≡ Some c.in-Some-get_at.first = sym c.get_at.ensures
    ∙ c.in-Some-get_at.is in
    record {
      granted =
          passes_one c.args.self.now _ c.args.target c.args.cookie.0 c.next-at.result c.in-Some-get_at.first c.as_slice-queue.result.now
          (record {
            lists = c.in_ok-end_one.ensures.ends;
            passed = λ n other. unwrapped (c.args.target == n && c.args.cookie.0 == other) _
                (get_by (λ k. n == k.0 && other == k.1) c.args.self.now.passed) (c.next-at.result + 1)
                (c.in_ok-insert.ensures.updates.0 (n, other));
            queues = λ n other. refl;
          })
          (ap (λ o. unwrap_or (option_map (λ list. map arrival_of list.items) o) [])
          (sym c.get.ensures.value ∙ ap option_copied c.in-Some.is) ∙ ap (map arrival_of) (sym c.as_slice-queue.ensures.value))
          there
          (c.next-at.ensures.over ∙ ap (λ n. lasting c.args.self.now c.args.target n c.as_slice-queue.result.now) c.passed.ensures)
          (rw there at c.next-at.ensures.waits);
    }
