use Rattle.std.proofs.Common.{◌≡◌, ◌≤◌, ◌+◌, ◌^◌, ◌∙◌, List, length, arith, rules, subst, sym}
use Rattle.lu_spec_entries.specs.declared.changes.Dirty.{Dirty}
use Rattle.lu_spec_machine.specs.Places.{laid}
use Rattle.lu_spec_client.specs.Patches.{fresh}
use Rattle.lu_patch.specs.Flights.{IsKept}
use Rattle.lu_patch.proofs.Kept.{kept_either, kept_written, kept_sound}
use Rattle.lu_patch.proofs.patch.Patch.write.Goals as goal

pub invariant_of-self : goal.invariant_of-self
invariant_of-self c =
    kept_either c.lay.result c.self.inside.flight c.self.inside.dirty (laid c.args.at c.deref.result.now c.self.inside.dirty) c.lay.new.self
    c.lay.ensures.laid c.lay.ensures.kept
    (subst (λ (run : List Dirty). IsKept c.self.inside.flight (laid c.args.at run c.self.inside.dirty))
    (sym (c.deref.ensures.value ∙ c.in_ok-run.ensures.fresh))
    (kept_written c.self.inside.flight c.args.at c.args.from.now c.self.inside.dirty (omega (arith, c.requires.fits)) c.self.invariant))
    c.self.invariant

pub returns-clause-sound : goal.returns-clause-sound
returns-clause-sound c = kept_sound c.self.inside.pending c.self.inside.flight c.lay.new.self (invariant_of-self c)
