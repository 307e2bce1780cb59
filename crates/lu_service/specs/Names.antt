-- The operations on names as those of a service: the plain machine's, but that a file leaves with its last name
-- and its last open.
use Rattle.std.specs.Prelude.{ℕ, [], if◌then◌else◌}
use Rattle.lu_base.specs.declared.ids.Who.{Who}
use Rattle.lu_spec_machine.specs.Footprint as footprint
use Rattle.lu_spec_machine.specs.Footprint.{Operation, empty, forget}
use Rattle.lu_spec_machine.specs.Trim.{trim}
use Rattle.lu_service.specs.Acts.{Acts}
use Rattle.lu_service.specs.Contents.{Contents}

-- a new file system
abbrev pub fresh : ℕ → Contents
fresh osts = record { osts = osts; last = 1; tree = empty; objects = [] }

abbrev pub after : Contents → Operation → Contents
after s a =
    record {
      osts = s.osts;
      last = if footprint.changes s.osts s.tree a then a.number.0 else s.last;
      tree = trim (footprint.after s.osts s.tree a);
      objects = s.objects;
    }

abbrev pub forgotten : Contents → Who → Contents
forgotten s who = record s { tree = trim (forget s.tree who) }

-- names have no bytes to be read
abbrev pub names : Acts
names =
    record {
      answer = λ s a. footprint.answer s.osts s.tree a;
      touches = λ s a. footprint.touches s.osts s.tree a;
      writes = λ s a. footprint.writes s.osts s.tree a;
      grants = λ s a. footprint.grants s.osts s.tree a;
      changes = λ s a. footprint.changes s.osts s.tree a;
      after = after;
      forgotten = forgotten;
      read = λ s r page extent. [];
    }
