-- A new key goes last.
use Rattle.std.proofs.Common.{◌≡◌, false, [], ◌∷◌, ◌++◌, ◌∙◌, refl, sym, ap, subst, map, arith}
use Rattle.std.proofs.lemmas.Bool.Decides.{nat_tests}
use Rattle.std.proofs.lemmas.List.{map-append}
use Rattle.std.proofs.lemmas.List.Elements.{All-push}
use Rattle.indexmap.proofs.CallerLemmas.{insert_entry-new}
use Rattle.lu_queue.specs.Queues.{has}
use Rattle.lu_queue.proofs.Keyed.{Keyed, absent_keyed}
use Rattle.lu_queue.proofs.arrivals.Arrivals.push.Goals as goal

pub invariant_of-self-2 : goal.invariant_of-self-2
invariant_of-self-2 c =
    let old = c.self.inside.locks.entries in
    let absent : has c.args.lock.cookie.0 (map (λ entry. entry.1) old) ≡ false = rw c.self.view_is c.requires in
    let last : c.insert.new.self.entries ≡ old ++ (c.args.lock.cookie, c.args.lock) ∷ [] =
    c.in_ok-insert.ensures.entries ∙ insert_entry-new _ c.self.inside.locks _ _
    (absent_keyed _ c.args.lock.cookie.0 (λ key. grind (arith, nat_tests)) old c.self.invariant absent) in
    subst Keyed (sym last) (All-push (λ entry. entry.0 ≡ entry.1.cookie) old (c.args.lock.cookie, c.args.lock) c.self.invariant refl)

pub returns-clause-added : goal.returns-clause-added
returns-clause-added c =
    let old = c.self.inside.locks.entries in
    let absent : has c.args.lock.cookie.0 (map (λ entry. entry.1) old) ≡ false = rw c.self.view_is c.requires in
    let last : c.insert.new.self.entries ≡ old ++ (c.args.lock.cookie, c.args.lock) ∷ [] =
    c.in_ok-insert.ensures.entries ∙ insert_entry-new _ c.self.inside.locks _ _
    (absent_keyed _ c.args.lock.cookie.0 (λ key. grind (arith, nat_tests)) old c.self.invariant absent) in
    ap (map (λ entry. entry.1)) last ∙ map-append (λ entry. entry.1) old _ ∙ ap (λ locks. locks ++ c.args.lock ∷ []) c.self.view_is
