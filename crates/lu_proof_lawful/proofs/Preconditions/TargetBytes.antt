-- A get, a put and a cut at an object storage target make lines that the guards allow: under a granted lock of the asker that serves, a
-- page is
-- told or the write is made, and without one the asker is told so.
use Rattle.std.proofs.Common.{◌≡◌, ℕ, ◌<◌, false, List, [], Option, Some, None, inl, inr, refl, sym, subst, ap, ◌∙◌, arith}
use Rattle.std.specs.Prelude.{◌&&◌}
use Rattle.std.proofs.lemmas.Bool.{cond_both, and_parts}
use Rattle.lu_base.specs.declared.ids.At.{At}
use Rattle.lu_base.specs.declared.ids.Cookie.{Cookie}
use Rattle.lu_base.specs.declared.ids.Node.TheVariants as node
use Rattle.lu_base.specs.declared.ids.Stamp.{Stamp}
use Rattle.lu_base.specs.declared.locks.Extent.{Extent}
use Rattle.lu_base.specs.declared.locks.Lock.{Lock}
use Rattle.lu_base.specs.declared.locks.Mode.TheVariants.{PR, PW}
use Rattle.lu_base.specs.declared.locks.Resource.{Resource}
use Rattle.lu_lock.specs.Modes.{serves}
use Rattle.lu_lock.specs.Overlap.{extents_meet}
use Rattle.lu_spec_machine.specs.Objects.{Object, object_writes, page_extent, content}
use Rattle.lu_msg.specs.declared.answers.Answer.{Answer}
use Rattle.lu_msg.specs.declared.answers.Answer.TheVariants as told
use Rattle.lu_msg.specs.declared.messages.Request.{Request as RequestOf}
use Rattle.lu_msg.specs.declared.operations.Op.{Op}
use Rattle.lu_msg.specs.declared.operations.Op.TheVariants as op
use Rattle.lu_spec_entries.specs.Carried.{Deed}
use Rattle.lu_spec_entries.specs.Words.{Entry, Txn, Answers, Line}
use Rattle.lu_spec_entries.specs.Concerns.{only}
use Rattle.lu_spec_target.specs.Glimpses.{answered, row_answers}
use Rattle.lu_spec_target.specs.Objects.{objects_go, lock_of, lies_in, row_uncovered, row_get, row_write, row_written, written, put_extent}
use Rattle.lu_spec_target.specs.Objects.{cut_extent}
use Rattle.lu_spec_target.specs.Queues.{extent_of}
use Rattle.lu_spec_target.specs.Replies as rows
use Rattle.lu_spec_target.specs.Replies.{locks_on}
use Rattle.lu_spec_target.specs.States.{Target}
use Rattle.lu_spec_target.specs.Stored.{object_in}
use Rattle.lu_proof_lawful.specs.Covered.Deeds.{told_on}
use Rattle.lu_proof_lawful.specs.Covered.Heads.{Head}
use Rattle.lu_proof_lawful.specs.Covered.TargetStates.{Server, none, next_number, server_of, slot_of}
use Rattle.lu_proof_lawful.proofs.Preconditions.Guards.{In, EntersFor}
use Rattle.lu_proof_lawful.proofs.Preconditions.StoryGuards.{GoesUnder, WritesUnder, IsUncovered, covers_page, covers_range, AnswersOk}
use Rattle.lu_proof_lawful.proofs.Preconditions.Lists.{turn}
use Rattle.lu_proof_lawful.proofs.Preconditions.TargetAlike.{Alike, Serving, serving_is}
use Rattle.lu_proof_lawful.proofs.Preconditions.TargetLocks.{answered_same, Leads, deed_lead}
use Rattle.lu_proof_lawful.proofs.Preconditions.TargetPass.{High, slot_answered}
use Rattle.lu_proof_lawful.proofs.Preconditions.Turns.{Settled, owes_nothing}

-- ---- what the whole state reads is what the guards speak of

module _ (osts t : ℕ) (v : Target) (s : Server) (h : Alike osts t v s) where
  next_same : rows.next_number v ≡ next_number s
  next_same = ap (λ (n : ℕ). record { 0 = n }) (let is = h.number in omega (arith, is))

  written_same : (at : At) (r : RequestOf) → written v at r ≡ told_on s at r (next_number s) (object_writes r.op) told.Done
  written_same at r = rw (next_same, h.log, h.boot, h.committed) refl

-- ---- what an object storage target is asked to do with bytes

module _ (head : Head) (stamp : Stamp) (t : ℕ) (above : 0 < t) where
  abbrev there : At
  there = turn stamp (node.Target t)

  module _ (past story : List Line) (v : Target) (r : RequestOf) (of_target : story ≡ only t past) (settled : Settled past)
      (h : Serving head t v story)
      (waits : In r (server_of head.osts story).waiting) (entered : (d : Deed) → r.who ≡ d.reply.who → r.xid ≡ d.reply.xid
      → EntersFor past there d) where
    abbrev server : Server
    server = server_of head.osts story

    -- an answer without a printed line
    pub answers_lead : (a : Answer) → AnswersOk head.osts story there t (told_on server there r none [] a)
        → Leads head stamp t past story v (row_answers (answered v there r a))
    answers_lead a ok =
        subst (λ (d : Deed). Leads head stamp t past story v (row_answers d)) (sym (answered_same head.osts t v server h.alike there r a)) (
        deed_lead head stamp t past story v (Answers d) d of_target h tt
        (owes_nothing past there (Answers d) settled, (above, inl (entered d refl refl)), (above, ok))
        (refl, refl) refl refl (λ x did. sym did) tt refl (slot_answered d (slot_of r.who r.tag story)) (serving_is head t v story h) refl
        )
      where
        d : Deed
        d = told_on server there r none [] a

    uncovered_lead : IsUncovered server r.who r.op → Leads head stamp t past story v (row_uncovered v there r)
    uncovered_lead bare = answers_lead told.Uncovered (inr (inl
        (record { serves = serving_is head t v story h; request = r; waits = waits; uncovered = bare; is = refl })))

    -- the lock that the asker names, by the state that the guards speak of
    found_same : (resource : Resource) (cookie : Cookie) → lock_of r.who cookie (locks_on resource server.granted)
        ≡ lock_of r.who cookie (locks_on resource v.granted)
    found_same resource cookie = ap (λ (gs : List Lock). lock_of r.who cookie (locks_on resource gs)) (sym h.alike.granted)

    -- ---- a page is asked for

    pub get_lead : (resource : Resource) (cookie : Cookie) (page : ℕ) → r.op ≡ op.Get resource cookie page
        → Leads head stamp t past story v (row_get v there r resource page (lock_of r.who cookie (locks_on resource v.granted)))
    get_lead resource cookie page is = by (lock_of r.who cookie (locks_on resource v.granted)) refl
      where
        bare : (found : Option Lock) → lock_of r.who cookie (locks_on resource v.granted) ≡ found → covers_page page found ≡ false
            → IsUncovered server r.who r.op
        bare found e not = subst (IsUncovered server r.who) (sym is) (ap (covers_page page) (found_same resource cookie ∙ e) ∙ not)

        tells : (l : Lock) → List ℕ → List Entry
        tells l bytes = row_answers (answered v there r (told.Content bytes))

        by : (found : Option Lock) → lock_of r.who cookie (locks_on resource v.granted) ≡ found
            → Leads head stamp t past story v (row_get v there r resource page found)
        by None e = uncovered_lead (bare None e refl)
        by (Some l) e =
            cond_both (serves l.ask.mode PR && extents_meet (extent_of l) (page_extent page))
            (tells l (content page (extent_of l) (object_in v.contents.objects resource))) (row_uncovered v there r)
            (Leads head stamp t past story v)
            (λ both_are.
            let both = and_parts (serves l.ask.mode PR) (extents_meet (extent_of l) (page_extent page)) both_are in
            subst (λ (os : List (Resource × Object)). Leads head stamp t past story v
            (tells l (content page (extent_of l) (object_in os resource)))) (sym h.alike.objects)
            (answers_lead (told.Content (content page (extent_of l) (object_in server.objects resource))) (inl (record {
              serves = serving_is head t v story h;
              request = r;
              waits = waits;
              resource = resource;
              cookie = cookie;
              page = page;
              of_op = is;
              holder = l;
              found = found_same resource cookie ∙ e;
              mode = both.0;
              meets = both.1;
              is = refl;
            }))))
            (λ fails. uncovered_lead (bare (Some l) e fails))

    -- ---- bytes are put, or cut

    -- the numbers at the end of the turn leave room for this one
    room : High v (row_written (written v there r)) → server.count < 4294967295
    room high = let top = high.0 in let boot = h.alike.boot in let number = h.alike.number in omega (arith, top, boot, number)

    made_lead : (l : Lock) → WritesUnder server r.who r.op l → server.count < 4294967295
        → Leads head stamp t past story v (row_written (written v there r))
    made_lead l under numbers =
        subst (λ (d : Deed). Leads head stamp t past story v (row_written d)) (sym (written_same head.osts t v server h.alike there r)) (
        deed_lead head stamp t past story v (Txn d) d of_target h tt (
          owes_nothing past there (Txn d) settled,
          inr (above, entered d refl refl),
          inr (
            above,
            record {
              serves = serving_is head t v story h;
              numbers = numbers;
              request = r;
              waits = waits;
              holder = l;
              under =
                  under;
              is = refl;
            },
          ),
        )
        (refl, refl) refl refl (λ x did. sym did) tt refl (slot_answered d (slot_of r.who r.tag story)) (serving_is head t v story h) refl
        )
      where
        d : Deed
        d = told_on server there r (next_number server) (object_writes r.op) told.Done

    write_lead : (resource : Resource) (cookie : Cookie) (extent : Extent)
        → ((l : Lock) → GoesUnder server r.who resource cookie extent l → WritesUnder server r.who r.op l)
        → (covers_range extent (lock_of r.who cookie (locks_on resource server.granted)) ≡ false → IsUncovered server r.who r.op)
        → High v (row_write v there r extent (lock_of r.who cookie (locks_on resource v.granted)))
        → Leads head stamp t past story v (row_write v there r extent (lock_of r.who cookie (locks_on resource v.granted)))
    write_lead resource cookie extent under bare = by (lock_of r.who cookie (locks_on resource v.granted)) refl
      where
        by : (found : Option Lock) → lock_of r.who cookie (locks_on resource v.granted) ≡ found → High v (row_write v there r extent found)
            → Leads head stamp t past story v (row_write v there r extent found)
        by None e high = uncovered_lead (bare (ap (covers_range extent) (found_same resource cookie ∙ e)))
        by (Some l) e high =
            cond_both (serves l.ask.mode PW && lies_in extent (extent_of l)) (row_written (written v there r)) (row_uncovered v there r)
            (λ (es : List Entry). High v es → Leads head stamp t past story v es)
            (λ both_are low.
            let both = and_parts (serves l.ask.mode PW) (lies_in extent (extent_of l)) both_are in
            made_lead l (under l (record { found = found_same resource cookie ∙ e; mode = both.0; within = both.1 })) (room low))
            (λ fails low. uncovered_lead (bare (ap (covers_range extent) (found_same resource cookie ∙ e) ∙ fails)))
            high

    pub put_lead : (resource : Resource) (cookie : Cookie) (offset : ℕ) (bytes : List ℕ) → r.op ≡ op.Put resource cookie offset bytes
        → High v (row_write v there r (put_extent offset bytes) (lock_of r.who cookie (locks_on resource v.granted)))
        → Leads head stamp t past story v (row_write v there r (put_extent offset bytes)
        (lock_of r.who cookie (locks_on resource v.granted)))
    put_lead resource cookie offset bytes is =
        write_lead resource cookie (put_extent offset bytes) (λ l under. subst (λ (o : Op). WritesUnder server r.who o l) (sym is) under)
        (λ bare. subst (IsUncovered server r.who) (sym is) bare)

    pub cut_lead : (resource : Resource) (cookie : Cookie) (size : ℕ) → r.op ≡ op.Cut resource cookie size
        → High v (row_write v there r (cut_extent size) (lock_of r.who cookie (locks_on resource v.granted)))
        → Leads head stamp t past story v (row_write v there r (cut_extent size) (lock_of r.who cookie (locks_on resource v.granted)))
    cut_lead resource cookie size is =
        write_lead resource cookie (cut_extent size) (λ l under. subst (λ (o : Op). WritesUnder server r.who o l) (sym is) under)
        (λ bare. subst (IsUncovered server r.who) (sym is) bare)

    -- each of them
    abbrev pub AsksBytes : Op → Type 0
    AsksBytes (op.Get resource cookie page) = Unit {0}
    AsksBytes (op.Put resource cookie offset bytes) = Unit {0}
    AsksBytes (op.Cut resource cookie size) = Unit {0}
    AsksBytes o = ⊥

    pub bytes_lead : AsksBytes r.op → High v (objects_go v there r r.op) → Leads head stamp t past story v (objects_go v there r r.op)
    bytes_lead asks high = by r.op refl asks high
      where
        by : (o : Op) → r.op ≡ o → AsksBytes o → High v (objects_go v there r o) → Leads head stamp t past story v (objects_go v there r o)
        by (op.Get resource cookie page) is asks high = get_lead resource cookie page is
        by (op.Put resource cookie offset bytes) is asks high = put_lead resource cookie offset bytes is high
        by (op.Cut resource cookie size) is asks high = cut_lead resource cookie size is high
        by o is asks high = absurd asks
