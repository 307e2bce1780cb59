-- The operations on objects as those of a service: the plain machine's on the object that each names. Which locks
-- are granted, and whether one covers a request, the target knows and no service.
use Rattle.std.specs.Prelude.{Bool, true, false, List, [], if◌then◌else◌}
use Rattle.lu_base.specs.declared.locks.Resource.{Resource}
use Rattle.lu_msg.specs.declared.answers.Answer.{Answer}
use Rattle.lu_msg.specs.declared.answers.Answer.TheVariants as told
use Rattle.lu_msg.specs.declared.answers.Errno.TheVariants.{EBADF}
use Rattle.lu_msg.specs.declared.operations.Op.{Op}
use Rattle.lu_msg.specs.declared.operations.Op.TheVariants as op
use Rattle.lu_spec_machine.specs.Footprint.{Operation, empty}
use Rattle.lu_spec_machine.specs.Objects.{Object, object_after, object_size, object_touches, object_writes}
use Rattle.lu_spec_machine.specs.Objects.{content, page_extent}
use Rattle.lu_service.specs.Acts.{Acts}
use Rattle.lu_service.specs.Contents.{Contents, object_in, with_object}

-- an object storage target without objects
abbrev pub bare : Contents
bare = record { osts = 0; last = 0; tree = empty; objects = [] }

-- the change of the object that an operation names
abbrev pub on_object : Resource → Op → List (Resource × Object) → List (Resource × Object)
on_object r o objects = with_object r (object_after o (object_in objects r)) objects

-- a put and a cut change one object
abbrev pub objects_after : Op → List (Resource × Object) → List (Resource × Object)
objects_after (op.Put r cookie offset bytes) objects = on_object r (op.Put r cookie offset bytes) objects
objects_after (op.Cut r cookie size) objects = on_object r (op.Cut r cookie size) objects
objects_after _ objects = objects

-- and each makes a transaction
abbrev pub alters : Op → Bool
alters (op.Put r cookie offset bytes) = true
alters (op.Cut r cookie size) = true
alters _ = false

-- A `get` is answered here as under a lock on its whole page. What no service of objects performs is refused: an
-- `enqueue` the target answers itself.
abbrev pub answer_of : List (Resource × Object) → Op → Answer
answer_of objects (op.Get r cookie page) = told.Content (content page (page_extent page) (object_in objects r))
answer_of objects (op.Put r cookie offset bytes) = told.Done
answer_of objects (op.Cut r cookie size) = told.Done
answer_of objects (op.Size r) = told.Size (object_size (object_in objects r))
answer_of objects _ = told.Refused EBADF

abbrev pub after : Contents → Operation → Contents
after s a =
    record {
      osts = s.osts;
      last = if alters a.op then a.number.0 else s.last;
      tree = s.tree;
      objects = objects_after a.op s.objects;
    }

abbrev pub objects : Acts
objects =
    record {
      answer = λ s a. answer_of s.objects a.op;
      touches = λ s a. object_touches a.op (answer_of s.objects a.op);
      writes = λ s a. object_writes a.op;
      grants = λ s a. [];
      changes = λ s a. alters a.op;
      after = after;
      forgotten = λ s who. s;
      read = λ s r page extent. content page extent (object_in s.objects r);
    }
