-- A sample, line by line, of object 5 of target 1: life 0 writes two bytes under a lock, life 1 asks for a lock over them,
-- life 0 is called back, writes back, drops its lock and gives it back, life 1 gets its lock and the bytes and is told a
-- narrow read. Then the target crashes, boots again and closes its window without losing anything or anyone; life 1 is
-- served in the new boot and asks again.
use Rattle.std.proofs.Common.{◌≡◌, ℕ, suc, ◌≤◌, inl, inr, ⊎_elim, List, [], ◌∷◌, Option, Some, None, Bool, true, false, refl, sym, ap}
use Rattle.std.proofs.Common.{subst, arith}
use Rattle.std.specs.Prelude.{nat_eq, if◌then◌else◌, ◌&&◌}
use Rattle.std.proofs.lemmas.Bool.{eqb-true, and_parts}
use Rattle.std.proofs.lemmas.Bool.Decides.{nat_tests}
use Rattle.lu_proof_bytes.specs.Object.Words.{Lock, Write, Enqueue, Get, Flush, Request, Granted, Waiting, Content, Done, Call, Did, Saw}
use Rattle.lu_proof_bytes.specs.Object.Words.{Takes, Heard, Hold, Drop, Grant, Wait, Promote, Acts, Txn, Release, covers, overlay, value}
use Rattle.lu_proof_bytes.specs.Object.Folds.{nothing_lost, is_some, touched, pending, dirty, Changed}
use Rattle.lu_proof_bytes.specs.Object.History.{Made, Read}
use Rattle.lu_proof_bytes.specs.Object.Guards.{in_run, ToldOk}
use Rattle.lu_proof_bytes.specs.Objects.Words.{Ask, Reply, Give, Block, Cancel, Ready, Line, Knows, Serves, Flies, Lives, Tells, Joins}
use Rattle.lu_proof_bytes.specs.Objects.Words.{Serve, Works, Crash, Boot, Close, Send}
use Rattle.lu_proof_bytes.specs.Objects.Folds.{boot, joined, knows}
use Rattle.lu_proof_bytes.specs.Objects.Only.{only}
use Rattle.lu_proof_bytes.specs.Objects.Guards.{AllOk}
use Rattle.lu_proof_bytes.specs.Objects.History.{items}

-- the locks that are given: to life 0 for writing, wider than it asked, and to life 1 for reading
abbrev pub l1 : Lock
l1 = record { cookie = 1; life = 0; write = true; first = 0; last = None }

abbrev pub w2 : Lock
w2 = record { cookie = 2; life = 1; write = false; first = 0; last = Some 1 }

-- the requests
abbrev pub r1 : Request
r1 = record { life = 0; xid = 1; op = Enqueue true 0 (Some 1) }

abbrev pub r2 : Request
r2 = record { life = 1; xid = 1; op = Enqueue false 0 (Some 1) }

abbrev pub r3 : Request
r3 = record { life = 0; xid = 2; op = Flush 1 (Write 0 (104 ∷ 105 ∷ [])) }

abbrev pub r4 : Request
r4 = record { life = 1; xid = 2; op = Get 2 0 2 }

abbrev pub r5 : Request
r5 = record { life = 1; xid = 3; op = Enqueue true 5 None }

-- the transaction that the grant and the get saw
abbrev pub seven : ℕ → Bool
seven n = nat_eq n 7

-- what the two calls did
abbrev pub wrote : ℕ → ℕ → Option Call
wrote t o = if nat_eq t 1 && nat_eq o 5 then Some (Did 1 (Write 0 (104 ∷ 105 ∷ []))) else None

abbrev pub saw : ℕ → ℕ → Option Call
saw t o = if nat_eq t 1 && nat_eq o 5 then Some (Saw 0 2 (104 ∷ 105 ∷ [])) else None

wide1 : (p : ℕ) → covers l1 p ≡ true
wide1 p = grind (arith, nat_tests)

narrow : (p : ℕ) → in_run 0 2 p ≡ true → covers w2 p ≡ true
narrow p e = grind (arith, nat_tests)

past_two : (p : ℕ) → 2 ≤ p → overlay 0 (104 ∷ 105 ∷ []) p None ≡ None
past_two p i = grind (arith, nat_tests)

last_two : (p : ℕ) → suc p ≡ 2 → is_some (overlay 0 (104 ∷ 105 ∷ []) p None) ≡ true
last_two p e = let q : p ≡ 1 = omega arith in subst (λ (k : ℕ). is_some (overlay 0 (104 ∷ 105 ∷ []) k None) ≡ true) (sym q) refl

-- the past after each line
abbrev pub s0 : List Line
s0 = []

abbrev pub s1 : List Line
s1 = Joins 1 0 ∷ s0

abbrev pub s2 : List Line
s2 = Joins 1 1 ∷ s1

abbrev pub s3 : List Line
s3 = Serves 1 0 1 ∷ s2

abbrev pub s4 : List Line
s4 = Serves 1 1 1 ∷ s3

abbrev pub s5 : List Line
s5 = Flies 1 5 0 r1 ∷ s4

abbrev pub s6 : List Line
s6 = Send 1 (Ask 1 0 5 r1) ∷ s5

abbrev pub s7 : List Line
s7 = Serve 1 5 0 r1 (Grant r1 l1 0 nothing_lost) ∷ s6

abbrev pub s8 : List Line
s8 = Send 1 (Reply 1 0 1 (Granted l1 0 nothing_lost)) ∷ s7

abbrev pub s9 : List Line
s9 = Lives 1 5 0 (Heard r1 (Granted l1 0 nothing_lost)) ∷ s8

abbrev pub s10 : List Line
s10 = Lives 1 5 0 (Hold l1 0 nothing_lost) ∷ s9

abbrev pub s11 : List Line
s11 = Tells 0 wrote ∷ s10

abbrev pub s12 : List Line
s12 = Flies 1 5 0 r2 ∷ s11

abbrev pub s13 : List Line
s13 = Send 1 (Ask 1 0 5 r2) ∷ s12

abbrev pub s14 : List Line
s14 = Serve 1 5 0 r2 (Wait r2 w2) ∷ s13

abbrev pub s15 : List Line
s15 = Send 1 (Reply 1 1 1 (Waiting 2)) ∷ s14

abbrev pub s16 : List Line
s16 = Send 1 (Block 1 0 1) ∷ s15

abbrev pub s17 : List Line
s17 = Lives 1 5 1 (Heard r2 (Waiting 2)) ∷ s16

abbrev pub taken17 : List Line
taken17 = Lives 1 5 0 (Takes 0 1 (Write 0 (104 ∷ 105 ∷ []))) ∷ s17

abbrev pub s18 : List Line
s18 = Flies 1 5 0 r3 ∷ taken17

abbrev pub s19 : List Line
s19 = Send 1 (Ask 1 0 5 r3) ∷ s18

abbrev pub s20 : List Line
s20 = Serve 1 5 0 r3 (Txn 7 r3) ∷ s19

abbrev pub s21 : List Line
s21 = Send 1 (Reply 1 0 2 (Done 7)) ∷ s20

abbrev pub s22 : List Line
s22 = Lives 1 5 0 (Heard r3 (Done 7)) ∷ s21

abbrev pub s23 : List Line
s23 = Lives 1 5 0 (Drop l1) ∷ s22

abbrev pub s24 : List Line
s24 = Send 1 (Cancel 1 0 1) ∷ s23

abbrev pub s25 : List Line
s25 = Works 1 5 (Release 1) ∷ s24

abbrev pub s26 : List Line
s26 = Works 1 5 (Promote w2) ∷ s25

abbrev pub s27 : List Line
s27 = Send 1 (Give 1 w2 2 seven) ∷ s26

abbrev pub s28 : List Line
s28 = Lives 1 5 1 (Hold w2 2 seven) ∷ s27

abbrev pub s29 : List Line
s29 = Flies 1 5 0 r4 ∷ s28

abbrev pub s30 : List Line
s30 = Send 1 (Ask 1 0 5 r4) ∷ s29

abbrev pub s31 : List Line
s31 = Serve 1 5 0 r4 (Acts r4 (Content (104 ∷ 105 ∷ []) (Some 1) seven)) ∷ s30

abbrev pub s32 : List Line
s32 = Send 1 (Reply 1 1 2 (Content (104 ∷ 105 ∷ []) (Some 1) seven)) ∷ s31

abbrev pub s33 : List Line
s33 = Lives 1 5 1 (Heard r4 (Content (104 ∷ 105 ∷ []) (Some 1) seven)) ∷ s32

abbrev pub s34 : List Line
s34 = Tells 1 saw ∷ s33

abbrev pub s35 : List Line
s35 = Crash 1 ∷ s34

abbrev pub s36 : List Line
s36 = Boot 1 2 ∷ s35

abbrev pub s37 : List Line
s37 = Knows 1 0 2 ∷ s36

abbrev pub s38 : List Line
s38 = Knows 1 1 2 ∷ s37

abbrev pub s39 : List Line
s39 = Close 1 nothing_lost nothing_lost ∷ s38

abbrev pub s40 : List Line
s40 = Send 1 (Ready 2 1) ∷ s39

abbrev pub s41 : List Line
s41 = Serves 1 1 2 ∷ s40

abbrev pub s42 : List Line
s42 = Flies 1 5 0 r5 ∷ s41

abbrev pub s43 : List Line
s43 = Send 1 (Ask 2 0 5 r5) ∷ s42

only_here : (t o : ℕ) (c call : Call) → (if nat_eq t 1 && nat_eq o 5 then Some c else None) ≡ Some call → (P : ℕ → ℕ → Call → Type 0)
    → P 1 5 c → P t o call
only_here t o c call e P x = by (nat_eq t 1 && nat_eq o 5) refl e
  where
    by : (v : Bool) → (nat_eq t 1 && nat_eq o 5) ≡ v → (if v then Some c else None) ≡ Some call → P t o call
    by false f g = absurd (cc)
    by true f g =
        let p = and_parts (nat_eq t 1) (nat_eq o 5) f in
        let s : c ≡ call = cc in
        subst (λ (y : ℕ × ℕ × Call). P y.0 y.1 y.2) (λ i. (sym (eqb-true t 1 p.0) i, sym (eqb-true o 5 p.1) i, s i)) x

wrote_ok : (t o : ℕ) (call : Call) → wrote t o ≡ Some call → ToldOk (only t o s10) 0 call
wrote_ok t o call e = only_here t o (Did 1 (Write 0 (104 ∷ 105 ∷ []))) call e (λ u q k. ToldOk (only u q s10) 0 k)
    (record { lock = l1; held = inl refl; life = refl; cookie = refl; mode = λ x. refl; covered = λ p x. wide1 p })

clean : (p : ℕ) → touched (pending 0 (only 1 5 s22)) (dirty 0 (only 1 5 s22) p) p ≡ false
clean p = grind (arith, nat_tests)

seen_seven : (n p : ℕ) → Changed (only 1 5 s26) n p → seven n ≡ true
seen_seven n p (inl e) = let q = e.0 in grind (arith, nat_tests)
seen_seven n p (inr v) = absurd v

saw_ok : (t o : ℕ) (call : Call) → saw t o ≡ Some call → ToldOk (only t o s33) 1 call
saw_ok t o call e = only_here t o (Saw 0 2 (104 ∷ 105 ∷ [])) call e (λ u q k. ToldOk (only u q s33) 1 k) (inr (record {
  lock = w2;
  held = inl refl;
  life = refl;
  covered = λ p x. narrow p x;
  count = refl;
  reads = λ p v x. x;
  final = 1;
  is_final = refl;
  reached = record {
    lock = w2;
    held = inl refl;
    life = refl;
    covered = refl;
    last = 1;
    short = refl;
    most = 1;
    shown = refl;
    reached =
        omega arith;
  };
}))

ok1 : AllOk s1
ok1 = (inr refl, tt)

ok2 : AllOk s2
ok2 = (inr refl, ok1)

ok3 : AllOk s3
ok3 = ((refl, inr (refl, refl, refl)), ok2)

ok4 : AllOk s4
ok4 = ((refl, inr (refl, refl, refl)), ok3)

ok5 : AllOk s5
ok5 = (record { goes_on = refl; serves = refl; next = omega arith; one = λ f i. absurd i; op = λ l. tt }, ok4)

ok6 : AllOk s6
ok6 = ((refl, refl, refl, inl refl), ok5)

ok7 : AllOk s7
ok7 = (
  (
    inl (record { serving = refl; sent = inl (refl, refl); joined = refl; evicted = refl; above = omega arith }),
    (
      refl,
      refl,
      (omega arith),
      (refl, λ p e. wide1 p),
      (λ m i. absurd i),
      (λ p i. refl, λ p e. absurd (omega arith)),
      (λ n p a i. absurd i),
    ),
  ),
  ok6,
)

ok8 : AllOk s8
ok8 = ((refl, refl, refl, (5, 0, refl, inl (refl, refl, refl))), ok7)

ok9 : AllOk s9
ok9 = ((λ e. absurd (cc), λ l. (refl, (0, inl refl), inl (refl, refl))), ok8)

ok10 : AllOk s10
ok10 = ((λ e. refl, λ l. (refl, refl, refl, inl (1, inl (refl, refl), refl))), ok9)

ok11 : AllOk s11
ok11 = (λ t o call l e. wrote_ok t o call e, ok10)

ok12 : AllOk s12
ok12 = (record { goes_on = refl; serves = refl; next = omega arith; one = λ f i. absurd i; op = λ l. tt }, ok11)

ok13 : AllOk s13
ok13 = ((refl, refl, refl, inl refl), ok12)

ok14 : AllOk s14
ok14 = (
  (
    inl (record { serving = refl; sent = inl (refl, refl); joined = refl; evicted = refl; above = omega arith }),
    (refl, refl, (omega arith), (refl, λ p e. e)),
  ),
  ok13,
)

ok15 : AllOk s15
ok15 = ((refl, refl, refl, (5, 0, refl, inl (refl, refl, refl))), ok14)

ok16 : AllOk s16
ok16 = ((5, refl, (l1, inl refl, refl, refl)), ok15)

ok17 : AllOk s17
ok17 = ((λ e. absurd (cc), λ l. (refl, (0, inl refl), inr (inl (refl, refl)))), ok16)

taken_ok17 : AllOk taken17
taken_ok17 = (
  (
    λ e. refl,
    λ l. (
      refl,
      record {
        alone = refl;
        under =
            record { lock = l1; held = inl refl; life = refl; cookie = refl; mode = λ e. refl; covered = λ p e. wide1 p };
        change =
            (λ p e. refl, λ p b e. e);
      },
    ),
  ),
  ok17,
)

ok18 : AllOk s18
ok18 = (record { goes_on = refl; serves = refl; next = omega arith; one = λ f i. absurd i; op = λ l. refl }, taken_ok17)

ok19 : AllOk s19
ok19 = ((refl, refl, refl, inl refl), ok18)

ok20 : AllOk s20
ok20 = (
  (
    inl (record { serving = refl; sent = inl (refl, refl); joined = refl; evicted = refl; above = omega arith }),
    (
      refl,
      (omega arith),
      (
        1,
        Write 0 (104 ∷ 105 ∷ []),
        refl,
        record
            { lock = l1; granted = inl refl; life = refl; cookie = refl; mode = λ e. refl; covered = λ p e. wide1 p },
      ),
    ),
  ),
  ok19,
)

ok21 : AllOk s21
ok21 = ((refl, refl, refl, (5, 0, refl, inl (refl, refl, refl))), ok20)

ok22 : AllOk s22
ok22 = ((λ e. absurd (cc), λ l. (refl, (0, inl refl), inl (refl, refl))), ok21)

ok23 : AllOk s23
ok23 = ((λ e. refl, λ l. (refl, record { held = inl refl; clean = λ p e. clean p; free = refl; untaken = refl })), ok22)

ok24 : AllOk s24
ok24 = ((refl, λ l. (5, refl, inl (l1, inl refl, refl, refl))), ok23)

ok25 : AllOk s25
ok25 = ((refl, inl (refl, (0, inl (refl, refl), refl))), ok24)

ok26 : AllOk s26
ok26 = (
  record {
    ahead = w2;
    waits = inl refl;
    life = refl;
    cookie = refl;
    write = refl;
    covered = λ p e. e;
    free =
        λ m i. ⊎_elim (λ (e : l1 ≡ m). absurd (i.0 (ap (λ (x : Lock). x.cookie) e))) (λ (v : ⊥). absurd v) i.1;
  },
  ok25,
)

ok27 : AllOk s27
ok27 = ((refl, refl, refl, (5, refl, inl refl, ((λ p i. past_two p i), (λ p e. last_two p e)), (λ n p a i low. seen_seven n p i))), ok26)

ok28 : AllOk s28
ok28 = ((λ e. refl, λ l. (refl, refl, refl, inr (inl (refl, refl)))), ok27)

ok29 : AllOk s29
ok29 = (
  record {
    goes_on = refl;
    serves = refl;
    next = omega arith;
    one = λ f i. absurd i;
    op =
        λ l. record { lock = w2; held = inl refl; life = refl; cookie = refl; mode = λ e. absurd (cc); covered = λ p e. narrow p e };
  },
  ok28,
)

ok30 : AllOk s30
ok30 = ((refl, refl, refl, inl refl), ok29)

ok31 : AllOk s31
ok31 = (
  (
    inl (record { serving = refl; sent = inl (refl, refl); joined = refl; evicted = refl; above = omega arith }),
    (
      refl,
      (
        2,
        0,
        2,
        refl,
        refl,
        (record {
          lock = w2;
          granted = inl refl;
          life = refl;
          cookie = refl;
          mode = λ e. absurd (cc);
          covered =
              λ p e. narrow p e;
        }),
        (λ n p a i low. seen_seven n p i),
        (λ p v e. ap value e),
        (refl, refl),
      ),
    ),
  ),
  ok30,
)

ok32 : AllOk s32
ok32 = ((refl, refl, refl, (5, 0, refl, inl (refl, refl, refl))), ok31)

ok33 : AllOk s33
ok33 = ((λ e. absurd (cc), λ l. (refl, (0, inl refl), inl (refl, refl))), ok32)

ok34 : AllOk s34
ok34 = (λ t o call l e. saw_ok t o call e, ok33)

ok35 : AllOk s35
ok35 = (tt, ok34)

ok36 : AllOk s36
ok36 = ((refl, (omega arith)), ok35)

ok37 : AllOk s37
ok37 = ((refl, (omega arith)), ok36)

ok38 : AllOk s38
ok38 = ((refl, (omega arith)), ok37)

known_two : (c : ℕ) → joined 1 c s38 ≡ true → knows 1 c s38 ≡ boot 1 s38
known_two c e = grind (arith, nat_tests)

ok39 : AllOk s39
ok39 = (
  record { down = refl; booted = omega arith; known = λ c j v. known_two c j; saw = λ c n v i. refl; above = λ n e. absurd (cc) },
  ok38,
)

ok40 : AllOk s40
ok40 = ((refl, refl, refl), ok39)

ok41 : AllOk s41
ok41 = ((refl, inl (inl (refl, refl))), ok40)

ok42 : AllOk s42
ok42 = (record { goes_on = refl; serves = refl; next = omega arith; one = λ f i. absurd i; op = λ l. tt }, ok41)

ok43 : AllOk s43
ok43 = ((refl, refl, refl, inl refl), ok42)

-- the whole past is allowed, and its history is the write and the read
pub sample : AllOk s43
sample = ok43

pub sample_history : items nothing_lost nothing_lost 1 5 s43 ≡ Read 1 0 2 (104 ∷ 105 ∷ []) ∷ Made 0 (Write 0 (104 ∷ 105 ∷ [])) ∷ []
sample_history = refl
