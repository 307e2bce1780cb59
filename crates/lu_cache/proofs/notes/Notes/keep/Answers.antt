-- The note stands in front, and one that was kept before leaves.
use Rattle.std.proofs.Common.{◌≡◌, ◌∷◌, Some, None, ap, sym, subst, ◌∙◌, rules}
use Rattle.std.specs.Prelude.{nat_eq}
use Rattle.std.specs.Map.{remove_entry}
use Rattle.lu_spec_client.specs.Caches.{without_note}
use Rattle.lu_cache.specs.declared.notes.Note.{Note}
use Rattle.lu_cache.specs.Numbered.{first_number}
use Rattle.lu_cache.specs.Filings.{filed}
use Rattle.lu_cache.specs.Kept.{is_of, notes_of, row_note, AreNoted, equal_resource}
use Rattle.lu_cache.proofs.Falling.{insert_first, took_out}
use Rattle.lu_cache.proofs.Noting.{Log, without_none, removed_without, removed_past, noted_replaced}
use Rattle.lu_cache.proofs.notes.Notes.keep.Goals as goal

pub invariant_of-self-in-Ok-Some : goal.invariant_of-self-in-Ok-Some
invariant_of-self-in-Ok-Some c =
    let note : Note = record { resource = c.args.resource; cookie = c.args.cookie; number = c.args.number } in
    let n = c.in_ok-place.place in
    let old = c.in-Ok-Some.before in
    let log = c.self.inside.log.entries in
    let put : c.insert.new.self.entries ≡ (n, note) ∷ log = c.in_ok-insert.ensures.entries
    ∙ insert_first n note log c.in_ok-place.ensures.less in
    let there : filed equal_resource c.args.resource c.args.cookie c.self.inside.objects ≡ Some old =
    (let is : c.in-Ok-Some.field-0 ≡ Some old = search rules in sym c.in-Ok-Some.ensures.before ∙ is) in
    let left : c.remove.new.self.entries ≡ (n, note) ∷ remove_entry (nat_eq old) log = c.remove.ensures.entries
    ∙ took_out old c.insert.new.self.entries ∙ ap (λ (l : Log). remove_entry (nat_eq old) l) put
    ∙ removed_past n old note log c.self.inside.objects c.self.invariant c.in_ok-place.ensures.less there in
    subst (λ (l : Log). AreNoted l c.file.new.self) (sym left) (noted_replaced n old note log c.self.inside.objects c.file.new.self
    c.self.invariant there c.in_ok-place.ensures.less c.in-Ok-Some.ensures.filed)

pub returns-in-Ok-None-clause-kept : goal.returns-in-Ok-None-clause-kept
returns-in-Ok-None-clause-kept c =
    let note : Note = record { resource = c.args.resource; cookie = c.args.cookie; number = c.args.number } in
    let n = c.in_ok-place.place in
    let log = c.self.inside.log.entries in
    let put : c.insert.new.self.entries ≡ (n, note) ∷ log = c.in_ok-insert.ensures.entries
    ∙ insert_first n note log c.in_ok-place.ensures.less in
    let none : first_number (is_of c.args.resource c.args.cookie) log ≡ None = sym (c.self.invariant.places c.args.resource c.args.cookie)
    ∙ sym c.in-Ok-None.ensures.before ∙ (let is : c.in-Ok-None.field-0 ≡ None = search rules in is) in
    ap notes_of put ∙ ap (λ more. row_note note ∷ more) (sym (without_none c.args.resource c.args.cookie log none)
    ∙ ap (without_note c.args.resource c.args.cookie) c.self.view_is)

pub returns-in-Ok-Some-clause-kept : goal.returns-in-Ok-Some-clause-kept
returns-in-Ok-Some-clause-kept c =
    let note : Note = record { resource = c.args.resource; cookie = c.args.cookie; number = c.args.number } in
    let n = c.in_ok-place.place in
    let old = c.in-Ok-Some.before in
    let log = c.self.inside.log.entries in
    let put : c.insert.new.self.entries ≡ (n, note) ∷ log = c.in_ok-insert.ensures.entries
    ∙ insert_first n note log c.in_ok-place.ensures.less in
    let there : filed equal_resource c.args.resource c.args.cookie c.self.inside.objects ≡ Some old =
    (let is : c.in-Ok-Some.field-0 ≡ Some old = search rules in sym c.in-Ok-Some.ensures.before ∙ is) in
    let first : first_number (is_of c.args.resource c.args.cookie) log ≡ Some old =
    sym (c.self.invariant.places c.args.resource c.args.cookie) ∙ there in
    let left : c.remove.new.self.entries ≡ (n, note) ∷ remove_entry (nat_eq old) log = c.remove.ensures.entries
    ∙ took_out old c.insert.new.self.entries ∙ ap (λ (l : Log). remove_entry (nat_eq old) l) put
    ∙ removed_past n old note log c.self.inside.objects c.self.invariant c.in_ok-place.ensures.less there in
    ap notes_of left ∙ ap (λ more. row_note note ∷ more) (removed_without c.args.resource c.args.cookie 0 old log c.self.invariant.rising
    c.self.invariant.once first ∙ ap (without_note c.args.resource c.args.cookie) c.self.view_is)
