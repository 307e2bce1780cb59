-- What the nodes show each of them shows, and no turn is foreseen of one that isn't there.
use Rattle.std.proofs.Common.{◌≡◌, ℕ, ◌+◌, ◌<◌, ◌≤◌, Bool, List, length, get_or, sym, subst, ap, ◌∙◌, arith}
use Rattle.lu_base.specs.declared.ids.Node.{Node}
use Rattle.lu_msg.specs.declared.messages.Message.{Message}
use Rattle.lu_spec_entries.specs.Words.{Line}
use Rattle.lu_spec_client.specs.States.{Client}
use Rattle.lu_client.specs.Comings.{may_come}
use Rattle.lu_spec_run.specs.Heads.{Head}
use Rattle.lu_spec_run.specs.Runs.{client_of}
use Rattle.lu_run_nodes.specs.States.{ClientSeat, TargetSeat, NodesState}
use Rattle.lu_run_nodes.specs.Shown.{ShowsClient, ShowsTarget, ShowsNodes}

module _ (nodes seen : NodesState) (is : nodes ≡ seen) (head : Head) (turns : ℕ) (past : List Line)
    (shows : ShowsNodes head turns past seen) where
  own : ShowsNodes head turns past nodes
  own = subst (ShowsNodes head turns past) (sym is) shows

  -- ---- each shows the past

  client_in : (c : ℕ) (seat : ClientSeat) → c < length nodes.clients → seat ≡ get_or nodes.clients c seat
      → ShowsClient head turns past c seat
  client_in c seat within same = subst (ShowsClient head turns past c) (sym same)
      (own.client c seat (subst (λ (n : ℕ). c < n) own.clients within))

  pub names_in : (t : ℕ) → t ≡ 0 → ShowsTarget head past t nodes.names
  names_in t first = subst (λ (k : ℕ). ShowsTarget head past k nodes.names) (sym first) own.names

  pub object_in : (t i : ℕ) (seat : TargetSeat) → t ≡ i + 1 → i < length nodes.objects → seat ≡ get_or nodes.objects i seat
      → ShowsTarget head past t seat
  object_in t i seat later within same =
      subst (λ (k : ℕ). ShowsTarget head past k seat) (sym later)
      (subst (ShowsTarget head past (i + 1)) (sym same) (own.object i seat (subst (λ (n : ℕ). i < n) own.objects within)))

  -- ---- no other client and target is of the run

  pub no_client : (c : ℕ) → length nodes.clients ≤ c → c < head.clients → ⊥
  no_client c beyond below = let count = own.clients in omega (arith, count, beyond, below)

  pub no_object : (t i : ℕ) → t ≡ i + 1 → length nodes.objects ≤ i → t ≤ head.osts → ⊥
  no_object t i later beyond below = let count = own.objects in omega (arith, count, later, beyond, below)

  -- ---- whether a message may come to a client the rows say too

  pub client_says : (c : ℕ) (seat : ClientSeat) → c < length nodes.clients → seat ≡ get_or nodes.clients c seat
      → (from : Node) (m : Message) (says : Bool)
      → may_come from m seat.client.client ≡ says → may_come from m (client_of head c past) ≡ says
  client_says c seat within same from m says may =
      ap (λ (k : Client). may_come from m k) (sym (ShowsClient.client (client_in c seat within same))) ∙ may
