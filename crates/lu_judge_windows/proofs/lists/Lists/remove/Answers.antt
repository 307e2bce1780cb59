-- One list has only those of other names.
use Rattle.std.proofs.Common.{rules, ◌≡◌, ◌∙◌, sym, ap, not, List, []}
use Rattle.std.specs.Prelude.{filter, map, unwrap_or}
use Rattle.std.specs.Option.{option_map, option_copied_mut}
use Rattle.std.proofs.lemmas.Fn.{filter_same}
use Rattle.lu_spec_laws.specs.Words.Held.{Held, is_held_by}
use Rattle.lu_judge_windows.specs.Lists.{held_of, listed}
use Rattle.lu_judge_windows.proofs.Keys.{changed}
use Rattle.lu_judge_windows.proofs.HeldTests.{map_kept}
use Rattle.lu_judge_windows.proofs.lists.Lists.remove.Goals as goal

pub returns-in-Some : goal.returns-in-Some
returns-in-Some g c =
    let other = λ (h : Held). not (is_held_by c.args.who c.args.target c.args.cookie.0 h) in
    let kept : c.retain.new.self.items ≡ filter (λ h. other (held_of h)) c.in-Some.list.now.items =
    filter_same _ _ _ (λ x b f' k. search rules) _ _ c.retain.ensures.filtered in
    let was : map held_of c.in-Some.list.now.items ≡ listed g.K.PartialEq.eq c.args.self.now c.args.key.now =
    ap (λ o. unwrap_or (option_map (λ list. map held_of list.items) o) [])
    (sym (ap option_copied_mut c.in-Some.is) ∙ c.get_mut.ensures.value) in
    record {
      removed = λ k.
          changed (λ list. map held_of list.items) (g.K.PartialEq.eq c.args.key.now k) c.retain.new.self _ _ (filter other)
          (listed g.K.PartialEq.eq c.args.self.now c.args.key.now)
          (((c.get_mut.follows.holds c.retain.new.self).3 (search rules)).0 k)
          (ap (map held_of) kept ∙ map_kept held_of other c.in-Some.list.now.items ∙ ap (filter other) was);
    }
