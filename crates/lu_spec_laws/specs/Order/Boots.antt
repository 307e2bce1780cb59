-- A crash comes to a target that is up, and a boot to one that is down; a boot has the next number (Lustre Operations
-- Manual, recovery).
use Rattle.std.specs.Prelude.{◌≡◌, ℕ, suc, true, false, List}
use Rattle.lu_base.specs.declared.ids.Node.{Node}
use Rattle.lu_base.specs.declared.ids.Node.TheVariants.{Client, Target}
use Rattle.lu_trace.specs.declared.entries.Entry.{Entry}
use Rattle.lu_trace.specs.declared.entries.Entry.TheVariants.{Crash, Boot}
use Rattle.lu_trace.specs.declared.entries.Line.{Line}
use Rattle.lu_spec_laws.specs.Words.Pasts.{Past}
use Rattle.lu_spec_laws.specs.Words.Boots.{boot}
use Rattle.lu_spec_laws.specs.Order.Phases.{phase, is_down}

pub record BootAt (past : Past) (t : ℕ) (b : ℕ) : Type 0 where
  pub down : is_down (phase t past) ≡ true
  pub next : b ≡ suc (boot t past)

abbrev pub BootBy : Past → Node → ℕ → Type 0
BootBy past (Target t) b = BootAt past t b
BootBy past (Client c) b = ⊥

abbrev pub CrashBy : Past → Node → Type 0
CrashBy past (Target t) = is_down (phase t past) ≡ false
CrashBy past (Client c) = ⊥

abbrev pub BootsAt : Past → Node → Entry → Type 0
BootsAt past node (Boot b) = BootBy past node b
BootsAt past node Crash = CrashBy past node
BootsAt past node _ = Unit {0}

abbrev pub Boots : Past → Line → List Line → Type 0
Boots past l later = BootsAt past l.at.node l.entry
