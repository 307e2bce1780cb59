-- Where a turn of a target breaks off the trace is lawful, with the line `fail`, or with `close` and `fail`, behind what was printed so
-- far: the lines before keep the laws, whatever lines come later; and of the last ones no law asks more than that they stand in order,
-- and of the close that all are back.
use Rattle.std.proofs.Common.{◌≡◌, ℕ, ◌≤◌, Bool, true, false, List, [], ◌∷◌, inl, refl, subst, ap, arith}
use Rattle.std.specs.Prelude.{not, ◌||◌}
use Rattle.lu_base.specs.declared.ids.At.{At}
use Rattle.lu_base.specs.declared.ids.Node.TheVariants.{Target}
use Rattle.lu_base.specs.declared.ids.Stamp.{Stamp}
use Rattle.lu_base.specs.declared.ids.Who.{Who}
use Rattle.lu_trace.specs.declared.entries.Entry.TheVariants as trace
use Rattle.lu_trace.specs.declared.entries.Line.{Line as PrintedLine}
use Rattle.lu_spec_entries.specs.Carried.{Outcome}
use Rattle.lu_spec_entries.specs.Printed.{printed}
use Rattle.lu_spec_entries.specs.Words.{Close, Line}
use Rattle.lu_proof_lawful.specs.Covered.Heads.{Head}
use Rattle.lu_proof_lawful.specs.Fits.{Fits}
use Rattle.lu_spec_laws.specs.Words.Pasts.{Past, same_turn}
use Rattle.lu_spec_laws.specs.Words.Clients.{clients}
use Rattle.lu_spec_laws.specs.Words.Closes.{is_finished}
use Rattle.lu_spec_laws.specs.Words.Lives.{is_gone}
use Rattle.lu_spec_laws.specs.Words.Lost.{is_fail, is_lost}
use Rattle.lu_spec_laws.specs.Words.Scopes.{any_in}
use Rattle.lu_spec_laws.specs.Holds.{HoldsBefore}
use Rattle.lu_spec_laws.specs.Lawful.{Lawful}
use Rattle.lu_spec_laws.specs.Laws.Messages.{Messages, Follows}
use Rattle.lu_spec_laws.specs.Laws.Locks.{Locks}
use Rattle.lu_spec_laws.specs.Laws.Silent.{Silent}
use Rattle.lu_spec_laws.specs.Laws.Acts.{Acts, ActsOf, standing_count}
use Rattle.lu_spec_laws.specs.Laws.Recovery.{Recovery, CloseAt}
use Rattle.lu_spec_laws.specs.Laws.History.{History}
use Rattle.lu_spec_laws.specs.Laws.Glimpse.{Glimpse}
use Rattle.lu_proof_lawful.proofs.Preconditions.Grown.{Noted, Allowed, Grown}
use Rattle.lu_proof_lawful.proofs.Preconditions.Guards.{Steps}
use Rattle.lu_proof_lawful.proofs.Preconditions.Lists.{self, turn}
use Rattle.lu_proof_lawful.proofs.Preconditions.Turns.{Settled}
use Rattle.lu_proof_lawful.proofs.Laws.Agrees.{OfRun}
use Rattle.lu_proof_lawful.proofs.Laws.Backs.{follows_none}
use Rattle.lu_proof_lawful.proofs.Laws.CloseDecides as decides
use Rattle.lu_proof_lawful.proofs.Laws.CloseLines.{rest_none}
use Rattle.lu_proof_lawful.proofs.Laws.CloseShows.{Sound}
use Rattle.lu_proof_lawful.proofs.Laws.FitsNow.{ShownSoFar, fit_as}
use Rattle.lu_proof_lawful.proofs.Laws.GlimpseLaw.{glimpse_before}
use Rattle.lu_proof_lawful.proofs.Laws.HistoryLaw.{history_before}
use Rattle.lu_proof_lawful.proofs.Laws.Lasting.{lasting}
use Rattle.lu_proof_lawful.proofs.Laws.LocksLaw.{locks_before}
use Rattle.lu_proof_lawful.proofs.Laws.MessagesLaw.{follows, messages_before}
use Rattle.lu_proof_lawful.proofs.Laws.NamedClients.{clients_low}
use Rattle.lu_proof_lawful.proofs.Laws.RecoveryLaw.{Unbroken, recovery_before}
use Rattle.lu_proof_lawful.proofs.Laws.SilentLaw.{silent_before}
use Rattle.lu_proof_lawful.proofs.Laws.ToldLaw.{acts_before}
use Rattle.lu_proof_lawful.proofs.Laws.Turns.{same_turn_self, upto_is}
use Rattle.lu_proof_lawful.proofs.Failing.ActsWhole.{acts_whole}
use Rattle.lu_proof_lawful.proofs.Failing.Apart.{Apart, unbroken_by}
use Rattle.lu_proof_lawful.proofs.Failing.Lost.{OthersAt, lost_same, fail_same}

-- what holds where the turn breaks off
pub record Breaks (head : Head) (stamp : Stamp) (t : ℕ) (past : List Line) : Type 0 where
  pub run : OfRun head past
  pub shown : ShownSoFar head past
  pub settled : Settled past
  pub noted : Noted head past
  pub steps : Steps past (turn stamp (Target t))
  pub others : OthersAt (turn stamp (Target t)) (printed past)
  pub apart : Apart head stamp t past

-- the laws of the lines so far, in a whole trace and with these lines later
record Keeps (osts : ℕ) (whole : Past) (later : List PrintedLine) (past : Past) : Type 0 where
  messages : HoldsBefore Messages later past
  locks : HoldsBefore (Locks osts) later past
  silent : HoldsBefore Silent later past
  acts : HoldsBefore (Acts whole) later past
  recovery : HoldsBefore (Recovery osts whole) later past
  history : HoldsBefore (History osts whole) later past
  glimpse : HoldsBefore (Glimpse osts whole) later past

module _ (head : Head) (stamp : Stamp) (t : ℕ) (past : List Line) (k : Breaks head stamp t past) where
  abbrev at : At
  at = turn stamp (Target t)

  abbrev fails : PrintedLine
  fails = record { at = turn stamp (Target t); entry = trace.Fail }

  abbrev closed : PrintedLine
  closed = record { at = turn stamp (Target t); entry = trace.Close }

  g : Grown head past
  g = k.run.grown

  -- a whole trace in which as many lives are gone, transactions stand and numbers are lost as so far
  module _ (whole : Past) (later : List PrintedLine) (gone : is_gone (printed past) ≡ is_gone whole)
      (lost : (u n : ℕ) → is_lost whole u n ≡ is_lost (printed past) u n)
      (counts : (u : ℕ) (who : Who) (x : ℕ) → standing_count (is_lost whole) u who x (printed past)
      ≡ standing_count (is_lost whole) u who x whole)
      (few : clients whole ≤ head.clients) (unbroken : Unbroken head past later) where
    fits : Fits head.osts (is_gone whole) (is_lost whole) past
    fits = subst (λ (out : Who → Bool). Fits head.osts out (is_lost whole) past) gone
        (fit_as head past (is_lost whole) g lost k.noted.shown)

    acts : HoldsBefore (ActsOf (is_gone whole) (is_lost whole) (printed past)) later (printed past)
    acts = acts_before head k.run.ranges (is_gone whole) (is_lost whole) past g
        (lasting head (is_gone whole) (is_lost whole) past g k.noted.shown fits) past later g k.settled (λ d a. a, λ who f r h. h)
        fits.heard

    keeps : Keeps head.osts whole later (printed past)
    keeps =
        record {
          messages = messages_before head past later g;
          locks = locks_before head past later g;
          silent = silent_before head past later (record {
            ranges = k.run.ranges;
            grown = k.run.grown;
            pins = k.run.pins;
            heeds = k.run.heeds;
            speaks = k.run.speaks;
          }) k.settled;
          acts = acts_whole (is_gone whole) (is_lost whole) (printed past) whole counts (printed past) later acts;
          recovery = recovery_before (clients whole) head past later few g k.run.asked (follows_none head past later k.noted)
              (rest_none head past later k.noted) unbroken;
          history = history_before head (is_gone whole) (is_lost whole) past later fits k.run;
          glimpse = glimpse_before head (is_gone whole) past later (record {
            ranges = k.run.ranges;
            grown = k.run.grown;
            pins = k.run.pins;
            heeds = k.run.heeds;
            speaks = k.run.speaks;
            shown = k.shown;
          }) (λ who e. subst (λ (out : Who → Bool). out who ≡ true) gone e);
        }

  order : Follows (printed past) at
  order = follows head past at g k.steps

  -- the line `fail` is of that turn alone
  fails_there : (a : At) → same_turn at a ≡ false → Sound a (fails ∷ [])
  fails_there a e = ap (λ (b : Bool). b || false) e

  closes_there : (a : At) → same_turn at a ≡ false → Sound a (closed ∷ fails ∷ [])
  closes_there a e = ap (λ (b : Bool). b || false) e

  -- ---- with `fail` alone

  pub with_fail : Lawful head.osts (fails ∷ printed past)
  with_fail =
      record {
        messages = (record { order = order; living = tt; passes = tt }, all.messages);
        locks = (tt, all.locks);
        silent = (tt, all.silent);
        acts = (tt, all.acts);
        recovery = (tt, all.recovery);
        history = (tt, all.history);
        glimpse = (tt, all.glimpse);
      }
    where
      few : clients (fails ∷ printed past) ≤ head.clients
      few = let low = clients_low head past g in omega (arith, low)

      all : Keeps head.osts (fails ∷ printed past) (fails ∷ []) (printed past)
      all = keeps (fails ∷ printed past) (fails ∷ []) refl (λ u n. fail_same u n at (printed past) k.others) (λ u who x. refl) few
          (unbroken_by head stamp t (fails ∷ []) fails_there past k.apart)

  -- ---- with the close too

  module _ (o : Outcome) (ok : Allowed head past (turn stamp (Target t)) (Close o)) where
    low : clients (fails ∷ closed ∷ printed past) ≤ head.clients
    low = let few = clients_low head past g in omega (arith, few)

    -- it isn't finished
    unfinished : is_finished at (printed past) (fails ∷ []) ≡ true → ⊥
    unfinished e = by (any_in is_fail at (printed past)) (same_turn at at) (same_turn_self at) e
      where
        by : (a b : Bool) → b ≡ true → not (a || (b || false)) ≡ true → ⊥
        by a false s e = absurd (cc)
        by true true s e = absurd (cc)
        by false true s e = absurd (cc)

    close_keeps : CloseAt (clients (fails ∷ closed ∷ printed past)) t (printed past) at (fails ∷ [])
    close_keeps =
        record {
          recovering = decides.recovering (clients (fails ∷ closed ∷ printed past)) head t past stamp o (self t) ok g low;
          all_back = decides.all_back (clients (fails ∷ closed ∷ printed past)) head t past stamp o (self t) ok g low;
          follows = λ e. absurd (unfinished e);
        }

    all : Keeps head.osts (fails ∷ closed ∷ printed past) (closed ∷ fails ∷ []) (printed past)
    all = keeps (fails ∷ closed ∷ printed past) (closed ∷ fails ∷ []) refl
        (λ u n. lost_same u n at (printed past) (same_turn_self at) k.others) (λ u who x. refl) low
        (unbroken_by head stamp t (closed ∷ fails ∷ []) closes_there past k.apart)

    pub with_close : Lawful head.osts (fails ∷ closed ∷ printed past)
    with_close =
        record {
          messages = (
            record { order = upto_is at at (inl refl); living = tt; passes = tt },
            (record { order = order; living = tt; passes = tt }, all.messages),
          );
          locks = (tt, (tt, all.locks));
          silent = (tt, (tt, all.silent));
          acts = (tt, (tt, all.acts));
          recovery = (tt, (close_keeps, all.recovery));
          history = (tt, (tt, all.history));
          glimpse = (tt, (tt, all.glimpse));
        }
