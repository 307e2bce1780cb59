use Rattle.std.proofs.Common.{◌≡◌, ◌≤◌, ◌+◌, ◌^◌, ◌∙◌, ℕ, List, length, ap, arith, rules, subst, sym, None, Some}
use Rattle.std.proofs.lemmas.List.{length-map}
use Rattle.lu_spec_entries.specs.declared.changes.Dirty.{Dirty}
use Rattle.lu_spec_machine.specs.Places.{Places, laid}
use Rattle.lu_spec_client.specs.Patches.{Patch, sent, bytes_of, in_flight}
use Rattle.lu_patch.specs.declared.flight.Flight.TheVariants.{Bytes}
use Rattle.lu_patch.specs.Flights.{IsKept}
use Rattle.lu_patch.proofs.Kept.{kept_sent, kept_sound, no_flight}
use Rattle.lu_patch.proofs.patch.Patch.send.Goals as goal

pub invariant_of-self-2 : goal.invariant_of-self-2
invariant_of-self-2 c =
    let rests : c.self.inside.flight ≡ None = no_flight c.self.inside.flight
    (ap (λ (p : Patch). in_flight p) c.self.view_is ∙ c.requires.rests) in
    let held : _ = subst (λ f. IsKept f c.self.inside.dirty) rests c.self.invariant in
    let count : length (bytes_of c.args.run.now) ≡ length c.args.run.now = length-map c.args.run.now (λ (d : Dirty). d.byte) in
    let run : c.deref.result.now ≡ sent (bytes_of c.args.run.now) = c.deref.ensures.value ∙ c.in_ok-sent.ensures.sent in
    let laid_is : c.lay.new.self ≡ laid c.args.at (sent (bytes_of c.args.run.now)) c.self.inside.dirty = c.in_ok-lay.ensures.laid
    ∙ ap (λ (r : List Dirty). laid c.args.at r c.self.inside.dirty) run in
    subst (IsKept (Some (Bytes c.args.at (c.args.at + length c.args.run.now)))) (sym laid_is)
    (subst (λ (n : ℕ). IsKept (Some (Bytes c.args.at (c.args.at + n)))
    (laid c.args.at (sent (bytes_of c.args.run.now)) c.self.inside.dirty)) count
    (kept_sent c.args.at (bytes_of c.args.run.now) c.self.inside.dirty (omega (arith, count, c.requires.fits)) held))

pub returns-clause-sound : goal.returns-clause-sound
returns-clause-sound c = kept_sound c.self.inside.pending (Some (Bytes c.args.at (c.args.at + length c.args.run.now))) c.lay.new.self
    (invariant_of-self-2 c)
