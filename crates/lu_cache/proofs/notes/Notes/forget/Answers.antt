-- The one note of the object and lock leaves, where there is one.
use Rattle.std.proofs.Common.{◌≡◌, Some, None, ap, sym, subst, ◌∙◌}
use Rattle.lu_spec_client.specs.Caches.{without_note}
use Rattle.lu_cache.specs.Numbered.{first_number}
use Rattle.lu_cache.specs.Kept.{is_of, notes_of, AreNoted}
use Rattle.lu_cache.proofs.Falling.{took_out}
use Rattle.lu_cache.proofs.Noting.{Log, without_none, removed_without, noted_taken}
use Rattle.lu_cache.proofs.notes.Notes.forget.Goals as goal

pub returns-in_default : goal.returns-in_default
returns-in_default c =
    let log = c.self.inside.log.entries in
    let none : first_number (is_of c.args.resource c.args.cookie) log ≡ None = sym (c.self.invariant.places c.args.resource c.args.cookie)
    ∙ sym c.in_default.ensures.before in
    record {
      forgotten = sym (without_none c.args.resource c.args.cookie log none)
          ∙ ap (without_note c.args.resource c.args.cookie) c.self.view_is;
    }

pub invariant_of-self-2 : goal.invariant_of-self-2
invariant_of-self-2 c =
    let log = c.self.inside.log.entries in
    let n = c.in-Some.place in
    subst (λ (l : Log). AreNoted l c.take_away.new.self) (sym (c.remove.ensures.entries ∙ took_out n log))
    (noted_taken c.args.resource c.args.cookie n log c.self.inside.objects c.take_away.new.self c.self.invariant
    (sym c.in-Some.ensures.before) c.take_away.ensures.gone)

pub returns : goal.returns
returns c =
    let log = c.self.inside.log.entries in
    let n = c.in-Some.place in
    let first : first_number (is_of c.args.resource c.args.cookie) log ≡ Some n =
    sym (c.self.invariant.places c.args.resource c.args.cookie) ∙ sym c.in-Some.ensures.before in
    record {
      forgotten = ap notes_of (c.remove.ensures.entries ∙ took_out n log)
          ∙ removed_without c.args.resource c.args.cookie 0 n log c.self.invariant.rising c.self.invariant.once first
          ∙ ap (without_note c.args.resource c.args.cookie) c.self.view_is;
    }
