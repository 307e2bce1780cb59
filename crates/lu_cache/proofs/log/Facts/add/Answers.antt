-- The fact stands in front under its number; where something finds no room, it leaves again.
use Rattle.std.proofs.Common.{◌≡◌, ◌∷◌, Some, refl, ap, sym, subst, ◌∙◌}
use Rattle.std.specs.Prelude.{nat_eq}
use Rattle.std.specs.Map.{remove_entry}
use Rattle.lu_cache.specs.declared.topics.Topic.{Topic}
use Rattle.lu_cache.specs.Topics.{same_topic}
use Rattle.lu_cache.specs.Numbered.{IsAdded}
use Rattle.lu_cache.specs.Filings.{filed, Refiled}
use Rattle.lu_cache.specs.Logs.{Log, IsIndexed, IsUndone}
use Rattle.lu_cache.proofs.Falling.{insert_first, remove_first, took_out}
use Rattle.lu_cache.proofs.Indexed.{indexed_added, indexed_kept}
use Rattle.lu_cache.proofs.log.Facts.add.Goals as goal

pub invariant_of-self-in-Ok : goal.invariant_of-self-in-Ok
invariant_of-self-in-Ok c =
    let n = c.in_ok-number.number in
    let f = c.args.fact in
    let log = c.self.inside.log.entries in
    let put : c.insert.new.self.entries ≡ (n, f) ∷ log = c.in_ok-insert.ensures.entries ∙ insert_first n f log c.in_ok-number.ensures.less
    in
    let refiled : Refiled same_topic f.topic f.cookie (Some n) c.self.inside.topics c.file.new.self =
    subst (λ (t : Topic). Refiled same_topic t f.cookie (Some n) c.self.inside.topics c.file.new.self) c.in_ok-topic.ensures.same
    c.in-Ok.ensures.filed in
    subst (λ (l : Log). IsIndexed l c.file.new.self c.file_lock.new.locks.entries) (sym put)
    (indexed_added n f log c.self.inside.topics c.file.new.self c.self.inside.locks.entries c.file_lock.new.locks.entries
    c.self.invariant c.in_ok-number.ensures.less refiled c.file_lock.ensures.grows c.in_ok-file_lock.ensures.filed)

pub invariant_of-self-in-Err : goal.invariant_of-self-in-Err
invariant_of-self-in-Err c =
    let n = c.in_ok-number.number in
    let f = c.args.fact in
    let log = c.self.inside.log.entries in
    let put : c.insert.new.self.entries ≡ (n, f) ∷ log = c.in_ok-insert.ensures.entries ∙ insert_first n f log c.in_ok-number.ensures.less
    in
    let gone : c.remove.new.self.entries ≡ log = c.remove.ensures.entries ∙ took_out n c.insert.new.self.entries
    ∙ ap (λ (l : Log). remove_entry (nat_eq n) l) put ∙ remove_first n f log in
    subst (λ (l : Log). IsIndexed l c.file.new.self c.file_lock.new.locks.entries) (sym gone)
    (indexed_kept log c.self.inside.topics c.file.new.self c.self.inside.locks.entries c.file_lock.new.locks.entries c.self.invariant
    c.in-Err.ensures.kept c.file_lock.ensures.grows)

pub returns-in-Ok-clause-undone : goal.returns-in-Ok-clause-undone
returns-in-Ok-clause-undone c =
    let n = c.in_ok-number.number in
    let f = c.args.fact in
    let log = c.self.inside.log.entries in
    let put : c.insert.new.self.entries ≡ (n, f) ∷ log = c.in_ok-insert.ensures.entries ∙ insert_first n f log c.in_ok-number.ensures.less
    in
    subst (λ (l : Log). IsUndone c.in-Ok.previous l) (sym put) (c.in-Ok.ensures.before
    ∙ ap (λ (t : Topic). filed same_topic t f.cookie c.self.inside.topics) c.in_ok-topic.ensures.same
    ∙ c.self.invariant.topics f.topic f.cookie)

pub returns-in-Ok-clause-added : goal.returns-in-Ok-clause-added
returns-in-Ok-clause-added c =
    let n = c.in_ok-number.number in
    let f = c.args.fact in
    let log = c.self.inside.log.entries in
    let put : c.insert.new.self.entries ≡ (n, f) ∷ log = c.in_ok-insert.ensures.entries ∙ insert_first n f log c.in_ok-number.ensures.less
    in
    subst (λ (l : Log). IsAdded f c.args.self.now l) (sym put) (refl, c.self.view_is)

pub returns-in-Err-clause-kept : goal.returns-in-Err-clause-kept
returns-in-Err-clause-kept c =
    let n = c.in_ok-number.number in
    let f = c.args.fact in
    let log = c.self.inside.log.entries in
    let put : c.insert.new.self.entries ≡ (n, f) ∷ log = c.in_ok-insert.ensures.entries ∙ insert_first n f log c.in_ok-number.ensures.less
    in
    c.remove.ensures.entries ∙ took_out n c.insert.new.self.entries ∙ ap (λ (l : Log). remove_entry (nat_eq n) l) put ∙ remove_first n f log
    ∙ c.self.view_is
