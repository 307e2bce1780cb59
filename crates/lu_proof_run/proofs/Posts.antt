-- The messages of a configuration are those that its past sent, in order.
use Rattle.std.proofs.Common.{◌≡◌, true, ℕ, zero, suc, ◌+◌, ◌-◌, List, [], ◌∷◌, ◌++◌, length, map, Option, Some, None, ◌⊎◌, inl, inr}
use Rattle.std.proofs.Common.{⊎_elim, refl, sym, subst, ap, ◌∙◌, add-one, arith}
use Rattle.std.specs.List.{slice_get}
use Rattle.std.specs.Prelude.{slice_set}
use Rattle.std.proofs.lemmas.List.{append-nil, append_assoc, map-append, length-append, length-map}
use Rattle.std.proofs.lemmas.Option.{slice_get-map}
use Rattle.lu_base.specs.declared.ids.At.{At}
use Rattle.lu_msg.specs.declared.messages.Post.{Post}
use Rattle.lu_net.specs.declared.links.Posted.{Posted}
use Rattle.lu_net.specs.declared.links.Sent.{Sent as SentMessage}
use Rattle.lu_net.specs.Posts.{sent_at, spend}
use Rattle.lu_spec_entries.specs.Words.{Entry, Send, Line, line, with_turn}
use Rattle.lu_spec_entries.specs.Sent.{count_sent, Sent}
use Rattle.lu_spec_entries.specs.Given.{step_posts}
use Rattle.lu_spec_run.specs.Scenarios.{posted}
use Rattle.lu_proof_run.specs.Posts.{sent_by, all_sent, messages}

-- ---- what was sent, in order

-- a turn adds its messages
pub turn_sends : (past : List Line) (at : At) (es : List Entry) → all_sent (with_turn at es past) ≡ all_sent past
    ++ map (sent_by at) (step_posts es)
turn_sends past at [] = sym (append-nil (all_sent past))
turn_sends past at (e ∷ es) = turn_sends (line at e ∷ past) at es ∙ by e
  where
    by : (e : Entry) → all_sent (line at e ∷ past) ++ map (sent_by at) (step_posts es) ≡ all_sent past
        ++ map (sent_by at) (step_posts (e ∷ es))
    by (Send to m) = append_assoc (all_sent past) (sent_by at (record { to = to; message = m }) ∷ []) (map (sent_by at) (step_posts es))
    by e = refl

length_snoc : {A : Type 0} (xs : List A) (x : A) → length (xs ++ x ∷ []) ≡ length xs + 1
length_snoc [] x = refl
length_snoc (y ∷ xs) x = let h = length_snoc xs x in omega arith

pub count_all : (past : List Line) → length (all_sent past) ≡ count_sent past
count_all [] = refl
count_all (l ∷ past) = by l.entry (count_all past)
  where
    by : (e : Entry) → length (all_sent past) ≡ count_sent past → length (all_sent (line l.at e ∷ past)) ≡ count_sent (line l.at e ∷ past)
    by (Send to m) h = length_snoc (all_sent past) (sent_by l.at (record { to = to; message = m })) ∙ ap (λ n. n + 1) h
    by e h = h

-- the last of a list, or one of those before
get_snoc : {A : Type 0} (xs : List A) (x y : A) (k : ℕ) → slice_get (xs ++ x ∷ []) k ≡ Some y → ((k ≡ length xs) × (x ≡ y))
    ⊎ (slice_get xs k ≡ Some y)
get_snoc [] x y zero e = inl (refl, cc)
get_snoc [] x y (suc k) e = absurd (cc)
get_snoc (z ∷ xs) x y zero e = inr e
get_snoc (z ∷ xs) x y (suc k) e =
    ⊎_elim
    (λ (p : (k ≡ length xs) × (x ≡ y)). let q = p.0 in inl (omega arith, p.1))
    (λ (p : slice_get xs k ≡ Some y). inr p)
    (get_snoc xs x y k e)

pub sent_of : (past : List Line) (place : ℕ) (s : SentMessage) → slice_get (all_sent past) place ≡ Some s
    → Sent past (place + 1) s.from s.to s.message
sent_of [] place s e = absurd (cc)
sent_of (l ∷ past) place s e = by l.entry (sent_of past place s) e
  where
    by : (e : Entry) → (slice_get (all_sent past) place ≡ Some s → Sent past (place + 1) s.from s.to s.message)
        → slice_get (all_sent (line l.at e ∷ past)) place ≡ Some s → Sent (line l.at e ∷ past) (place + 1) s.from s.to s.message
    by (Send to m) h e =
        let x = sent_by l.at (record { to = to; message = m }) in
        ⊎_elim
        (λ (p : (place ≡ length (all_sent past)) × (x ≡ s)). inl (
          ap (λ n. n + 1) (p.0 ∙ count_all past),
          ap (λ (v : SentMessage). v.from) p.1,
          ap (λ (v : SentMessage). v.to) p.1,
          ap (λ (v : SentMessage). v.message) p.1,
        ))
        (λ (p : slice_get (all_sent past) place ≡ Some s). inr (h p))
        (get_snoc (all_sent past) x s place e)
    by d h e = h e

-- ---- the messages of a configuration, whether they are spent or not

pub sent_at_is : (past : List Line) (posts : List Posted) (n : ℕ) (s : SentMessage) → messages posts ≡ all_sent past → sent_at posts n
    ≡ Some s → Sent past n s.from s.to s.message
sent_at_is past posts zero s same e = absurd (cc)
sent_at_is past posts (suc place) s same e =
    subst (λ k. Sent past k s.from s.to s.message) (add-one place)
    (sent_of past place s (ap (λ ms. slice_get ms place) (sym same) ∙ slice_get-map (λ post. post.sent) posts place ∙ e))

set_messages : (posts : List Posted) (place : ℕ) (p q : Posted) → slice_get posts place ≡ Some p → q.sent ≡ p.sent
    → messages (slice_set posts place q) ≡ messages posts
set_messages [] place p q e s = absurd (cc)
set_messages (x ∷ posts) zero p q e s = let y : x ≡ p = cc in ap (λ m. m ∷ messages posts) (s ∙ ap (λ (v : Posted). v.sent) (sym y))
set_messages (x ∷ posts) (suc place) p q e s = ap (λ ms. x.sent ∷ ms) (set_messages posts place p q e s)

pub spend_messages : (posts : List Posted) (n : ℕ) → messages (spend posts n) ≡ messages posts
spend_messages posts zero = refl
spend_messages posts (suc place) = by (slice_get posts place) refl
  where
    by : (o : Option Posted) → slice_get posts place ≡ o → messages (spend posts (suc place)) ≡ messages posts
    by None e = rw e refl
    by (Some p) e =
        let k : suc place - 1 ≡ place = omega arith in
        rw (e, k) (set_messages posts place p (record p { spent = true }) e refl)

pub spend_length : (posts : List Posted) (n : ℕ) → length (spend posts n) ≡ length posts
spend_length posts n = sym (length-map (spend posts n) (λ post. post.sent)) ∙ ap length (spend_messages posts n)
    ∙ length-map posts (λ post. post.sent)

pub posts_length : (posts : List Posted) (at : At) (es : List Entry) → length (posts ++ map (posted at) (step_posts es))
    ≡ length posts + length (step_posts es)
posts_length posts at es = length-append posts (map (posted at) (step_posts es))
    ∙ ap (λ n. length posts + n) (length-map (step_posts es) (posted at))

posted_messages : (at : At) (posts : List Post) → messages (map (posted at) posts) ≡ map (sent_by at) posts
posted_messages at [] = refl
posted_messages at (p ∷ posts) = ap (λ ms. sent_by at p ∷ ms) (posted_messages at posts)

-- a turn, and its messages
pub turn_messages : (past : List Line) (posts : List Posted) (at : At) (es : List Entry) → messages posts ≡ all_sent past
    → messages (posts ++ map (posted at) (step_posts es)) ≡ all_sent (with_turn at es past)
turn_messages past posts at es same =
    map-append (λ (post : Posted). post.sent) posts (map (posted at) (step_posts es))
    ∙ ap (λ ms. ms ++ messages (map (posted at) (step_posts es))) same
    ∙ ap (λ ms. all_sent past ++ ms) (posted_messages at (step_posts es))
    ∙ sym (turn_sends past at es)
