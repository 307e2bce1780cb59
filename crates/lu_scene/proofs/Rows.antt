-- Worked texts, computed by the definitions.
use Rattle.std.proofs.Common.{◌≡◌, true, [], ◌∷◌, ◌++◌, Ok, Err, refl}
use Rattle.std.specs.Prelude.{codes}
use Rattle.std.specs.Fmt.{digits}
use Rattle.lu_scene.specs.declared.faults.Fault.TheVariants as faults
use Rattle.lu_scene.specs.declared.faults.SceneFault.TheVariants.{Bad}
use Rattle.lu_scene.specs.declared.scene.SceneLine.TheVariants as lines
use Rattle.lu_base.specs.declared.ids.Node.TheVariants.{Client}
use Rattle.lu_scene.specs.declared.words.Header.TheVariants as headers
use Rattle.lu_scene.specs.Fields.{number_of}
use Rattle.lu_scene.specs.Lines.{lines_of, line_after, lines_after, nothing, default_head}
use Rattle.lu_scene.specs.Storms.{draw_of}
use Rattle.rand_xoshiro.specs.SplitMix64.{mix_u64}

-- no such line
fly : lines_after 1 nothing (lines_of (codes "fly")) ≡ Err (Bad 1 faults.UnknownLine)
unfolding lines_after line_after
fly = refl

-- a number below its range
run_zero : lines_after 1 nothing (lines_of (codes "run 0")) ≡ Err (Bad 1 faults.Number)
unfolding lines_after line_after number_of digits
run_zero = refl

-- a line of the head after another line
late_head : lines_after 1 nothing (lines_of (codes "run" ++ 10 ∷ codes "clients 2")) ≡ Err (Bad 2 faults.Header)
unfolding lines_after line_after
late_head = refl

-- a client that the head doesn't have; the client is looked at before the name
no_client : lines_after 1 nothing (lines_of (codes "call 5.0 fly /a")) ≡ Err (Bad 1 faults.Node)
unfolding lines_after line_after number_of digits
no_client = refl

-- a head, a comment and two lines
two_lines : lines_after 1 nothing (lines_of (codes "clients 2" ++ 10 ∷ codes "#x" ++ 10 ∷ codes " tick  c1" ++ 10 ∷ codes "run 3"))
    ≡ Ok (record {
      head = record default_head { clients = 2 };
      given = headers.Clients ∷ [];
      lines = lines.Tick (Client 1) ∷ lines.RunSome 3
          ∷ [];
    })
unfolding lines_after line_after number_of digits
two_lines = refl

-- the first two words of the storm of 0
first_word : draw_of (mix_u64 0).0 ≡ record { client = 3; kind = 11; name = 6; page = 6; runs = true; slot = 3 }
first_word = refl

second_word : draw_of (mix_u64 (mix_u64 0).1).0 ≡ record { client = 0; kind = 13; name = 7; page = 18; runs = true; slot = 2 }
second_word = refl
