-- Compatibility is symmetric; the test of `serves` is its rule; and what serves a mode keeps out all that the
-- mode keeps out.
use Rattle.std.proofs.Common.{◌≡◌, IsTrue, ◌↔◌, refl, inl, inr}
use Rattle.lu_base.specs.declared.locks.Mode.{Mode}
use Rattle.lu_base.specs.declared.locks.Mode.TheVariants.{EX, PW, PR, CW, CR, NL}
use Rattle.lu_lock.specs.Modes.{compatible, serves, Serves}

pub compatible_symmetric : (a b : Mode) → compatible a b ≡ compatible b a
compatible_symmetric EX EX = refl
compatible_symmetric PW EX = refl
compatible_symmetric PR EX = refl
compatible_symmetric CW EX = refl
compatible_symmetric CR EX = refl
compatible_symmetric NL EX = refl
compatible_symmetric _ _ = refl

pub serves_rule : (held wanted : Mode) → IsTrue (serves held wanted) ↔ Serves held wanted
serves_rule held wanted = (there held wanted, back held wanted) where
  itself : (mode : Mode) → IsTrue (serves mode mode)
  itself EX = refl
  itself _ = refl

  there : (held wanted : Mode) → IsTrue (serves held wanted) → Serves held wanted
  there EX EX _ = inl refl
  there PW PW _ = inl refl
  there PW PR _ = inr (refl, refl)
  there PR PR _ = inl refl
  there CW CW _ = inl refl
  there CR CR _ = inl refl
  there NL NL _ = inl refl
  there _ _ h = cc

  back : (held wanted : Mode) → Serves held wanted → IsTrue (serves held wanted)
  back held wanted (inl e) = rw e (itself wanted)
  back held wanted (inr e) = rw (e.0, e.1) refl

pub serves_keeps_out : (held wanted other : Mode) →
    IsTrue (serves held wanted) → IsTrue (compatible held other) → IsTrue (compatible wanted other)
serves_keeps_out EX EX other _ h = h
serves_keeps_out PW PW other _ h = h
serves_keeps_out PW PR CR _ h = refl
serves_keeps_out PW PR NL _ h = refl
serves_keeps_out PW PR _ _ h = cc
serves_keeps_out PR PR other _ h = h
serves_keeps_out CW CW other _ h = h
serves_keeps_out CR CR other _ h = h
serves_keeps_out NL NL other _ h = h
serves_keeps_out _ _ other h _ = cc
